-- What a flush logs, as a transaction: what it has of a block, and that it may be written.
use Rattle.std.proofs.Common.{◌≡◌, ◌≢◌, ◌+◌, ◌<◌, ◌≤◌, ℕ, zero, suc, Bool, true, false, cond, List, [], ◌∷◌, length, get_or, map, Option, None, Some, is_some, refl, sym, ap, subst, ◌∙◌, inl, inr, arith, true≢false}
use Rattle.std.specs.Prelude.{◌⊎◌, ◌==◌, ◌||◌, Contains, find, if◌then◌else◌, slice_get}
use Rattle.std.specs.List.{All, list_any}
use Rattle.std.specs.List.Sorted.{IsStrictlyIncreasing}
use Rattle.std.specs.Option.{option_map}
use Rattle.std.specs.Ordering.{eq_by_cmp, nat_cmp}
use Rattle.std.specs.FinMap as table
use Rattle.std.proofs.lemmas.Bool.{cases_eq, cond-true, cond-false, eq-eqb, ne_eqb}
use Rattle.std.proofs.lemmas.Cmp.{nat_cmp_total}
use Rattle.std.proofs.lemmas.List.{get_or-map, length-map}
use Rattle.std.proofs.lemmas.List.Elements.{All-from_get_or}
use Rattle.std.proofs.lemmas.Option.{slice_get-get_or}
use Rattle.finite_maps.proofs.Keys.{tied, untied}
use Rattle.fixed_tables.proofs.Rows.{rising}
use Rattle.log_layout.specs.Chunks.{Logged}
use Rattle.log_tables.proofs.Reading.{row_gets}
use Rattle.node_journal.specs.Written.{IsLoggable, IsLoggableAll}
use Rattle.log_values.specs.Blocks as set
use Rattle.log_values.specs.Log.{Flush, LogValue, Version}
use Rattle.log_values.specs.Sound.{IsSoundLog}
use Rattle.log_values.specs.Transactions.{flushed_as, logged_as}
use Rattle.log_tables.specs.Kept.{away_count}
use Rattle.log_values.specs.Changes.{flushed_count, frames_taken}
use Rattle.log_values.proofs.Subsets.{within_both}

-- ---- of one block

module _ {V : Type 0} where
  pub find_keys : (f : ℕ × V → Logged) → ((e : ℕ × V) → (f e).block ≡ e.0) → (es : List (ℕ × V)) (b : ℕ) → find (λ (e : Logged). e.block == b) (map f es) ≡ option_map (λ v. f (b, v)) (table.find nat_cmp b es)
  find_keys f own [] b = refl
  find_keys f own (e ∷ es) b = elim (cases_eq b e.0) [
    | inl is ↦
        cond-true ((f e).block == b) (Some (f e)) _ (eq-eqb (f e).block b (own e ∙ sym is))
        ∙ ap Some (λ i. f (sym is i, e.1))
        ∙ sym (ap (λ c. option_map (λ v. f (b, v)) (cond c (Some e.1) (table.find nat_cmp b es))) (ap (eq_by_cmp nat_cmp b) (sym is) ∙ tied nat_cmp_total b))
    | inr off ↦
        cond-false ((f e).block == b) (Some (f e)) _ (ne_eqb (f e).block b (λ same. off (sym same ∙ own e)))
        ∙ find_keys f own es b
        ∙ sym (ap (λ c. option_map (λ v. f (b, v)) (cond c (Some e.1) (table.find nat_cmp b es))) (untied table.nat_cmp-IsAntisymmetric b e.0 off))
  ]

  pub any_key : (es : List (ℕ × V)) (b : ℕ) → list_any (λ r. r == b) (map (λ e. e.0) es) ≡ is_some (table.find nat_cmp b es)
  any_key [] b = refl
  any_key (e ∷ es) b = elim (cases_eq b e.0) [
    | inl is ↦
        ap (λ c. c || list_any (λ r. r == b) (map (λ x. x.0) es)) (eq-eqb e.0 b (sym is))
        ∙ sym (ap (λ c. is_some (cond c (Some e.1) (table.find nat_cmp b es))) (ap (eq_by_cmp nat_cmp b) (sym is) ∙ tied nat_cmp_total b))
    | inr off ↦
        ap (λ c. c || list_any (λ r. r == b) (map (λ x. x.0) es)) (ne_eqb e.0 b (λ same. off (sym same)))
        ∙ any_key es b
        ∙ sym (ap (λ c. is_some (cond c (Some e.1) (table.find nat_cmp b es))) (untied table.nat_cmp-IsAntisymmetric b e.0 off))
  ]

  -- the keys of a map rise
  pub keys_rise : (A : Type 0) (f : ℕ × V → A) (k : A → ℕ) (m : table.FinMap nat_cmp V) → ((e : ℕ × V) → k (f e) ≡ e.0) → IsStrictlyIncreasing (map k (map f (table.entries m)))
  keys_rise A f k m own = λ i low.
      let es = table.entries m in
      let long : length (map k (map f es)) ≡ length es = length-map (map f es) k ∙ length-map es f in
      by es refl i (omega (arith, low, long))
    where
      at : (es : List (ℕ × V)) (i : ℕ) (d : ℕ × V) → i < length es → get_or (map k (map f es)) i 0 ≡ (get_or es i d).0
      at [] i d low = absurd (omega (arith, low))
      at (e ∷ es) zero d low = own e
      at (e ∷ es) (suc i) d low = at es i d (omega (arith, low))

      by : (es : List (ℕ × V)) → table.entries m ≡ es → (i : ℕ) → i + 1 < length es → get_or (map k (map f (table.entries m))) i 0 < get_or (map k (map f (table.entries m))) (i + 1) 0
      by [] is i low = absurd (omega (arith, low))
      by (d ∷ es) is i low =
          let high : i + 1 < length (table.entries m) = subst (λ (xs : List (ℕ × V)). i + 1 < length xs) (sym is) low in
          let rise = rising (table.entries m) (table.entries_sorted m) i (i + 1) d (omega arith) high in
          let first = at (table.entries m) i d (omega (arith, high)) in
          let second = at (table.entries m) (i + 1) d high in
          omega (arith, rise, first, second)

pub logs_of : (f : Flush) (b : ℕ) → find (λ (e : Logged). e.block == b) (flushed_as f).blocks ≡ option_map (logged_as b) (table.get f.versions b)
logs_of f b = find_keys (λ e. logged_as e.0 e.1) (λ e. refl) (table.entries f.versions) b ∙ ap (option_map (logged_as b)) (sym (table.get-entries f.versions b))

pub revokes_of : (f : Flush) (b : ℕ) → list_any (λ r. r == b) (flushed_as f).revokes ≡ set.contains f.revokes b
revokes_of f b = any_key (table.entries f.revokes) b ∙ ap is_some (sym (table.get-entries f.revokes b))

-- ---- it may be written

-- what a map has at each of its entries
pub each_entry : {V : Type 0} (A : Type 0) (f : ℕ × V → A) (P : A → Type 0) (m : table.FinMap nat_cmp V) → ((b : ℕ) (v : V) → table.get m b ≡ Some v → P (f (b, v))) → All P (map f (table.entries m))
each_entry {V} A f P m each = of (table.entries m) (λ i e at. each e.0 e.1 (row_gets m i e at))
  where
    of : (es : List (ℕ × V)) → ((i : ℕ) (e : ℕ × V) → slice_get es i ≡ Some e → P (f e)) → All P (map f es)
    of es row i d low = subst P (sym (same es i d low)) (row i (get_or es i (any es i low)) (slice_get-get_or es i (any es i low) (inside es i low)))
      where
        inside : (xs : List (ℕ × V)) (n : ℕ) → n < length (map f xs) → n < length xs
        inside xs n h = let long = length-map xs f in omega (arith, h, long)

        any : (xs : List (ℕ × V)) (n : ℕ) → n < length (map f xs) → ℕ × V
        any [] n h = absurd (omega (arith, h))
        any (x ∷ xs) n h = x

        same : (xs : List (ℕ × V)) (n : ℕ) (e : A) (h : n < length (map f xs)) → get_or (map f xs) n e ≡ f (get_or xs n (any xs n h))
        same xs n e h = get_or-map f xs n (any xs n h) e (inside xs n h)

-- a number among keys is one of the map
key_there : {V A : Type 0} (f : ℕ × V → A) (k : A → ℕ) → ((e : ℕ × V) → k (f e) ≡ e.0) → (es : List (ℕ × V)) (b : ℕ) → Contains (map k (map f es)) b → is_some (table.find nat_cmp b es) ≡ true
key_there f k own [] b (i, low, is) = absurd (omega (arith, low))
key_there f k own (e ∷ es) b (zero, low, is) =
    ap (λ c. is_some (cond c (Some e.1) (table.find nat_cmp b es))) (ap (λ x. eq_by_cmp nat_cmp x e.0) (sym is ∙ own e) ∙ tied nat_cmp_total e.0)
key_there f k own (e ∷ es) b (suc i, low, is) = elim (cases_eq b e.0) [
  | inl same ↦ ap (λ c. is_some (cond c (Some e.1) (table.find nat_cmp b es))) (ap (λ x. eq_by_cmp nat_cmp x e.0) same ∙ tied nat_cmp_total e.0)
  | inr off ↦
      ap (λ c. is_some (cond c (Some e.1) (table.find nat_cmp b es))) (untied table.nat_cmp-IsAntisymmetric b e.0 off)
      ∙ key_there f k own es b (i, (omega (arith, low)), is)
]

map_twice : {V : Type 0} (es : List (ℕ × V)) → map (λ (x : ℕ). x) (map (λ (e : ℕ × V). e.0) es) ≡ map (λ (e : ℕ × V). e.0) es
map_twice [] = refl
map_twice (e ∷ es) = ap (λ xs. e.0 ∷ xs) (map_twice es)

module _ (log : LogValue) (f : Flush) (sound : IsSoundLog log) (is : log.flush ≡ Some f) (few_live : table.len log.live < log.journal.length) where
  few_logged : table.len f.versions ≤ 4096
  few_logged =
      let most : frames_taken log ≤ 4096 = (let a = sound.frames in let b = sound.few in omega (arith, a, b)) in
      let part : table.len f.versions ≤ frames_taken log = subst (λ (o : Option Flush). table.len f.versions ≤ table.len log.fresh + flushed_count o + away_count log.live) (sym is) (omega arith) in
      omega (arith, most, part)

  few_revoked : table.len f.revokes ≤ table.len log.live
  few_revoked =
      let both = within_both f.revokes log.live (table.empty {X = Version} {R = nat_cmp}) (λ q there. inl (sound.revoked f q is there).0) in
      let none = table.len-empty nat_cmp Version in
      omega (arith, both, none)

  -- what it logs may be written
  pub loggable : IsLoggableAll log.journal.size (flushed_as f)
  loggable = record {
    sized = sound.size;
    rising = keys_rise Logged (λ e. logged_as e.0 e.1) (λ (e : Logged). e.block) f.versions (λ e. refl);
    revokes = subst IsStrictlyIncreasing (map_twice (table.entries f.revokes)) (keys_rise ℕ (λ e. e.0) (λ x. x) f.revokes (λ e. refl));
    apart = λ b logged revoked.
        let in_versions : is_some (table.find nat_cmp b (table.entries f.versions)) ≡ true = key_there (λ e. logged_as e.0 e.1) (λ (e : Logged). e.block) (λ e. refl) (table.entries f.versions) b logged in
        let in_revokes : is_some (table.find nat_cmp b (table.entries f.revokes)) ≡ true
        = key_there (λ e. e.0) (λ x. x) (λ e. refl) (table.entries f.revokes) b (subst (λ xs. Contains xs b) (sym (map_twice (table.entries f.revokes))) revoked) in
        let contains : set.contains f.revokes b ≡ true = ap is_some (table.get-entries f.revokes b) ∙ in_revokes in
        let none = (sound.revoked f b is contains).1 in
        true≢false (sym in_versions ∙ ap is_some (sym (table.get-entries f.versions b)) ∙ ap is_some none);
    few =
        let one : length (flushed_as f).blocks ≡ table.len f.versions = length-map (table.entries f.versions) (λ e. logged_as e.0 e.1) ∙ sym (table.len-entries f.versions) in
        let two : length (flushed_as f).revokes ≡ table.len f.revokes = length-map (table.entries f.revokes) (λ e. e.0) ∙ sym (table.len-entries f.revokes) in
        let most = sound.most in
        let a = few_logged in
        let c = few_revoked in
        omega (arith, one, two, most, a, c, few_live);
    blocks = each_entry Logged (λ e. logged_as e.0 e.1) (IsLoggable log.journal.size) f.versions (λ b v at. sound.flushed f b v is at);
  }
