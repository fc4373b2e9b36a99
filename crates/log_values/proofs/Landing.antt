-- A flush that is in the journal: what always holds of a log holds still.
use Rattle.std.proofs.Common.{◌≡◌, ℕ, suc, ◌+◌, ◌-◌, ◌<◌, ◌≤◌, Bool, true, false, cond, not, ◌||◌, ◌&&◌, List, [], ◌∷◌, map, length, Option, None, Some, ◌⊎◌, inl, inr, refl, sym, ap, subst, ◌∙◌, true≢false, is_some, if◌then◌else◌, nat_lt, nat_le, arith}
use Rattle.std.proofs.lemmas.Bool.{cases_lt}
use Rattle.std.proofs.lemmas.Bool.Decides.{leb_tells}
use Rattle.std.proofs.lemmas.Cmp.{nat_cmp_total}
use Rattle.std.proofs.lemmas.List.{length-map}
use Rattle.std.specs.List.{count_by, filter}
use Rattle.std.specs.Ordering.{nat_cmp}
use Rattle.std.specs.FinMap as table
use Rattle.log_values.specs.Blocks as set
use Rattle.log_values.proofs.BlocksHad.{contains-retain}
use Rattle.gfs2_layout.specs.Device.{IsBlockSize}
use Rattle.log_layout.specs.Chunks.{Logged, Transaction, content_room, numbers_room}
use Rattle.log_layout.specs.Journal.{way}
use Rattle.node_journal.specs.Encoding.{chunks, content_of, metadata_of, size_of}
use Rattle.node_journal.proofs.Lengths.{chunks_length}
use Rattle.node_journal.proofs.Pieces.{none_counted, rooms}
use Rattle.fixed_tables.specs.Fixed.{left_by}
use Rattle.log_tables.specs.Kept.{away_count, is_home}
use Rattle.log_tables.specs.Versions.Way.{Away}
use Rattle.log_tables.proofs.Steps.{same_some}
use Rattle.log_tables.proofs.Taking.{Live, count-only, get-only, only}
use Rattle.log_values.specs.Log.{Entry, Flush, LogValue, Version}
use Rattle.log_values.specs.Changes.{flushed_count, frames_taken}
use Rattle.log_values.specs.Flushing.{AllAreHome, IsTail, behind_tail, first_place, flush_chunks, head_place, left_from, live_behind, logged_over}
use Rattle.log_values.specs.Flushing.IsTail.{of_oldest, of_itself, of_none}
use Rattle.log_values.specs.Sound.{Fits, IsSoundLog, used}
use Rattle.log_values.specs.Sound.Fits.{with_room, alone}
use Rattle.log_values.specs.Transactions.{flushed_as, live_among, logged_as, transaction}
use Rattle.log_values.proofs.Subsets.{some_len, within_both}
use Rattle.log_values.proofs.Ways.{on_below, way_less, way_on}

-- ---- how many places a transaction takes

pub halves : (p : Logged → Bool) (es : List Logged) → length (filter p es) + length (filter (λ e. not (p e)) es) ≡ length es
halves p [] = refl
halves p (e ∷ es) = by (p e) (halves p es)
  where
    by : (b : Bool) → length (filter p es) + length (filter (λ x. not (p x)) es) ≡ length es → length (cond b (e ∷ filter p es) (filter p es)) + length (cond (not b) (e ∷ filter (λ x. not (p x)) es) (filter (λ x. not (p x)) es)) ≡ suc (length es)
    by true rest = omega arith
    by false rest = omega arith

-- at least a place for each block that it logs
pub blocks_fit : (log : LogValue) (f : Flush) → IsSoundLog log → table.len f.versions ≤ length (flush_chunks log f)
blocks_fit log f sound =
    enough _ _ _ _ _ _ _ (chunks_length log.journal.size log.journal.jid (flushed_as f) sound.size) both
  where
    both : length (content_of (flushed_as f)) + length (metadata_of (flushed_as f)) ≡ table.len f.versions
    both = halves (λ (e : Logged). e.plain) (flushed_as f).blocks ∙ length-map (table.entries f.versions) (λ e. logged_as e.0 e.1) ∙ sym (table.len-entries f.versions)

    enough : (k c m x y r n : ℕ) → k + 1 ≡ (x + c) + ((y + m) + r) + 1 → c + m ≡ n → n ≤ k
    enough k c m x y r n p q = omega arith

-- nothing takes no chunk
pub no_list : {A : Type 0} (xs : List A) → length xs ≡ 0 → xs ≡ []
no_list [] e = refl
no_list (x ∷ xs) e = absurd (omega arith)

pub no_entries : {V : Type 0} → table.entries (table.empty {X = V} {R = nat_cmp}) ≡ []
no_entries {V} = no_list (table.entries (table.empty {X = V} {R = nat_cmp})) (sym (table.len-entries (table.empty {X = V} {R = nat_cmp})) ∙ table.len-empty nat_cmp V)

pub no_items : set.items set.empty ≡ []
no_items = ap (map (λ (e : ℕ × Unit {0}). e.0)) no_entries

pub nothing_is : transaction table.empty set.empty ≡ record { blocks = []; revokes = [] }
nothing_is = λ i. record { blocks = map (λ e. logged_as e.0 e.1) (no_entries i); revokes = no_items i }

pub nothing_takes : (size : ℕ) → IsBlockSize size → size_of size (record { blocks = []; revokes = [] }) ≡ 1
nothing_takes size sized =
    let c = none_counted (content_room size) (rooms size sized).0 in
    let m = none_counted (numbers_room size) (rooms size sized).1 in
    omega arith

pub alone_takes : (size jid : ℕ) (f : Flush) → IsBlockSize size → f.versions ≡ table.empty → f.revokes ≡ set.empty → length (chunks size jid (flushed_as f)) ≡ 0
alone_takes size jid f sized none gone =
    ap (λ (t : Transaction). length (chunks size jid t)) ((λ i. transaction (none i) (gone i)) ∙ nothing_is)
    ∙ (let all = chunks_length size jid (record { blocks = []; revokes = [] }) sized in let one = nothing_takes size sized in omega arith)

pub no_some : {A : Type 0} (x : A) → Some x ≡ None → ⊥
no_some x e = true≢false (ap is_some e)

pub lacks : {V : Type 0} (m : table.FinMap nat_cmp V) (b : ℕ) → table.contains_key m b ≡ false → table.get m b ≡ None
lacks {V} m b = by (table.get m b)
  where
    by : (o : Option V) → is_some o ≡ false → o ≡ None
    by None e = refl
    by (Some x) e = absurd (true≢false e)

-- a map without entries has none
pub none_in : {V : Type 0} (m : table.FinMap nat_cmp V) (b : ℕ) (v : V) → m ≡ table.empty → table.get m b ≡ Some v → ⊥
none_in m b v empty at = no_some v (sym at ∙ ap (λ (x : table.FinMap nat_cmp _). table.get x b) empty ∙ table.get-empty nat_cmp b)

-- one that has an entry at no key has none
pub all_none : {V : Type 0} (m : table.FinMap nat_cmp V) → ((b : ℕ) (v : V) → table.get m b ≡ Some v → ⊥) → m ≡ table.empty
all_none m none = table.same_map nat_cmp_total table.nat_cmp-IsAntisymmetric m table.empty (λ b. by b (table.get m b) refl ∙ sym (table.get-empty nat_cmp b))
  where
    by : (b : ℕ) (o : Option _) → table.get m b ≡ o → table.get m b ≡ None
    by b None e = e
    by b (Some v) e = absurd (none b v e)

-- what of a map passes a test
module _ (p : Entry → Bool) (m : Live) (b : ℕ) where
  pub in_only : table.contains_key (only p m) b ≡ true → (e : Entry) × (table.get m b ≡ Some e) × (p e ≡ true)
  in_only there = by (table.get m b) refl (sym (ap is_some (get-only p m b)) ∙ there)
    where
      passes : (x : Entry) (c : Bool) → p x ≡ c → is_some (if c then Some x else None) ≡ true → p x ≡ true
      passes x true is some = is
      passes x false is some = absurd (true≢false (sym some))

      by : (o : Option Entry) → table.get m b ≡ o → is_some (left_by p o) ≡ true → (e : Entry) × (table.get m b ≡ Some e) × (p e ≡ true)
      by None at some = absurd (true≢false (sym some))
      by (Some x) at some = (x, at, passes x (p x) refl some)

  pub to_only : (e : Entry) → table.get m b ≡ Some e → p e ≡ true → table.contains_key (only p m) b ≡ true
  to_only e at is = ap is_some (get-only p m b) ∙ ap (λ (o : Option Entry). is_some (left_by p o)) at ∙ ap (λ c. is_some (if c then Some e else None)) is

module _ (log : LogValue) (f : Flush) (tail : ℕ) (sound : IsSoundLog log) (is : log.flush ≡ Some f) (tells : IsTail log f tail) where
  abbrev n : ℕ
  n = log.journal.length

  abbrev chunk_count : ℕ
  chunk_count = length (flush_chunks log f)

  abbrev head' : ℕ
  head' = head_place log f

  sized : chunk_count + 1 ≡ size_of log.journal.size (flushed_as f)
  sized = chunks_length log.journal.size log.journal.jid (flushed_as f) sound.size

  -- what the flush takes is free, and it leaves a place, or is a header alone
  leaves : (used log + chunk_count + 3 ≤ n) ⊎ ((used log + 2 ≤ n) × (chunk_count ≡ 0) × (f.versions ≡ table.empty) × AllAreHome log)
  leaves = by (sound.fits f is)
    where
      by : Fits log f → (used log + chunk_count + 3 ≤ n) ⊎ ((used log + 2 ≤ n) × (chunk_count ≡ 0) × (f.versions ≡ table.empty) × AllAreHome log)
      by (with_room room) = inl (enough _ _ _ sized room)
        where
          enough : (u k s : ℕ) → k + 1 ≡ s → s + 1 ≤ n - (u + 1) → u + k + 3 ≤ n
          enough u k s p q = omega arith
      by (alone none gone home free) = inr (some _ free, alone_takes log.journal.size log.journal.jid f sound.size none gone, none, home)
        where
          some : (u : ℕ) → 1 ≤ n - (u + 1) → u + 2 ≤ n
          some u p = omega arith

  -- a header alone has no chunk
  few : used log + chunk_count + 2 ≤ n
  few = by leaves
    where
      none : (u k : ℕ) → k + 1 ≡ 1 → u + 2 ≤ n → u + k + 2 ≤ n
      none u k e p = omega arith

      by : (used log + chunk_count + 3 ≤ n) ⊎ ((used log + 2 ≤ n) × (chunk_count ≡ 0) × (f.versions ≡ table.empty) × AllAreHome log) → used log + chunk_count + 2 ≤ n
      by (inl a) = omega arith
      by (inr a) = omega arith

  -- ---- the places

  first_inside : first_place log < n
  first_inside = on_below n log.head 1 sound.head (omega (arith, few))

  first_way : way n log.tail (first_place log) ≡ used log + 1
  first_way = way_on n log.tail log.head 1 sound.tail sound.head (omega (arith, few))

  head_way : way n log.tail head' ≡ used log + 1 + chunk_count
  head_way = way_on n log.tail (first_place log) chunk_count sound.tail first_inside (let w = first_way in omega (arith, few)) ∙ ap (λ w. w + chunk_count) first_way

  pub head_inside : head' < n
  head_inside = on_below n (first_place log) chunk_count first_inside (omega (arith, few))

  abbrev far : ℕ
  far = behind_tail log tail

  -- what the tail is, by how far it is
  pub data Told : Type 0 where
    oldest : (b : ℕ) (e : Entry) → table.get log.live b ≡ Some e → tail ≡ e.first → far < used log → table.get f.versions b ≡ None → set.contains f.revokes b ≡ false → is_home e.way ≡ false → Told
    itself : far ≡ used log + 1 → tail ≡ first_place log → (f.versions ≡ table.empty → ⊥) → Told
    its_head : far ≡ used log + 1 + chunk_count → tail ≡ head' → f.versions ≡ table.empty → Told

  told : Told
  told = by tail tells refl
    where
      by : (t : ℕ) → IsTail log f t → tail ≡ t → Told
      by t (of_oldest b e needed least) same = oldest b e needed.live same (subst (λ p. way n log.tail p < used log) (sym same) (sound.firsts b e needed.live).1) (lacks f.versions b needed.unlogged) needed.unrevoked needed.away
      by t (of_itself none some) same = itself (ap (way n log.tail) same ∙ first_way) same some
      by t (of_none none empty) same = its_head (ap (way n log.tail) same ∙ head_way) same empty

  tail_inside : tail < n
  tail_inside = by told
    where
      by : Told → tail < n
      by (oldest b e live same near v r h) = subst (λ p. p < n) (sym same) (sound.firsts b e live).0
      by (itself is_far same some) = subst (λ p. p < n) (sym same) first_inside
      by (its_head is_far same none) = subst (λ p. p < n) (sym same) head_inside

  far_most : far ≤ used log + 1 + chunk_count
  far_most = by told
    where
      by : Told → far ≤ used log + 1 + chunk_count
      by (oldest b e live same near v r h) = omega arith
      by (itself is_far same some) = omega arith
      by (its_head is_far same none) = omega arith

  used' : way n tail head' ≡ used log + 1 + chunk_count - far
  used' = way_less n log.tail tail head' sound.tail tail_inside head_inside (subst (λ w. far ≤ w) (sym head_way) far_most) ∙ ap (λ w. w - far) head_way

  -- a place behind the tail is as much less far
  less_far : (p : ℕ) → p < n → far ≤ way n log.tail p → way n tail p ≡ way n log.tail p - far
  less_far p inside less = way_less n log.tail tail p sound.tail tail_inside inside less

  -- ---- what is live behind the flush

  module _ (live : Live) (lives : (b : ℕ) → table.get live b ≡ live_behind log f tail b) where
    -- it is a block of the flush, or was live, and its transaction isn't before the tail
    pub data IsLeft (b : ℕ) (e : Entry) : Type 0 where
      logged : (v : Version) → table.get f.versions b ≡ Some v → e ≡ record { lock = v.lock; first = first_place log; way = Away v.bytes } → IsLeft b e
      kept : table.get f.versions b ≡ None → table.get log.live b ≡ Some e → far ≤ behind_tail log e.first → IsLeft b e

    is_left : (b : ℕ) (e : Entry) → table.get live b ≡ Some e → IsLeft b e
    is_left b e at = by_version (table.get f.versions b) refl (sym (lives b) ∙ at)
      where
        by_way : (x : Entry) (s : Bool) → nat_lt (behind_tail log x.first) far ≡ s → table.get f.versions b ≡ None → table.get log.live b ≡ Some x → (if s then None else Some x) ≡ Some e → IsLeft b e
        by_way x true s none was is = absurd (no_some e (sym is))
        by_way x false s none was is =
            elim (leb_tells (suc (behind_tail log x.first)) far) [
              | inl t ↦ absurd (true≢false (sym t.0 ∙ s))
              | inr t ↦ let same : x ≡ e = same_some (Some x) x e refl is in kept none (was ∙ ap Some same) (subst (λ (y : Entry). far ≤ behind_tail log y.first) same (omega arith))
            ]

        by_live : (o : Option Entry) → table.get log.live b ≡ o → table.get f.versions b ≡ None → left_from log tail o ≡ Some e → IsLeft b e
        by_live None was none is = absurd (no_some e (sym is))
        by_live (Some x) was none is = by_way x (nat_lt (behind_tail log x.first) far) refl none was is

        by_revoke : (r : Bool) → table.get f.versions b ≡ None → (if r then None else left_from log tail (table.get log.live b)) ≡ Some e → IsLeft b e
        by_revoke true none is = absurd (no_some e (sym is))
        by_revoke false none is = by_live (table.get log.live b) refl none is

        by_version : (o : Option Version) → table.get f.versions b ≡ o → logged_over o (first_place log) (if set.contains f.revokes b then None else left_from log tail (table.get log.live b)) ≡ Some e → IsLeft b e
        by_version None none is = by_revoke (set.contains f.revokes b) none is
        by_version (Some v) has is = logged v has (sym (same_some _ _ e refl is))

    -- a block of the flush is live
    flushed_lives : (b : ℕ) (v : Version) → table.get f.versions b ≡ Some v → table.contains_key live b ≡ true
    flushed_lives b v has =
        ap is_some (lives b) ∙ ap (λ (o : Option Version). is_some (logged_over o (first_place log) (if set.contains f.revokes b then None else left_from log tail (table.get log.live b)))) has

    -- and so is one that was, where it is neither logged nor revoked, nor before the tail
    kept_lives : (b : ℕ) (e : Entry) → table.get f.versions b ≡ None → set.contains f.revokes b ≡ false → table.get log.live b ≡ Some e → far ≤ behind_tail log e.first → table.get live b ≡ Some e
    kept_lives b e none unrevoked was less =
        lives b
        ∙ ap (λ (o : Option Version). logged_over o (first_place log) (if set.contains f.revokes b then None else left_from log tail (table.get log.live b))) none
        ∙ ap (λ r. if r then None else left_from log tail (table.get log.live b)) unrevoked ∙ ap (left_from log tail) was
        ∙ elim (leb_tells (suc (behind_tail log e.first)) far) [
          | inl t ↦ absurd (omega arith)
          | inr t ↦ ap (λ s. if s then None else Some e) t.0
        ]

    -- a block of the flush begins at most as far as the flush does
    not_behind : (b : ℕ) (v : Version) → table.get f.versions b ≡ Some v → far ≤ used log + 1
    not_behind b v has = by told
      where
        by : Told → far ≤ used log + 1
        by (oldest c e was same near x r h) = omega arith
        by (itself is_far same some) = omega arith
        by (its_head is_far same none) = absurd (none_in f.versions b v none has)

    some_chunk : (b : ℕ) (v : Version) → table.get f.versions b ≡ Some v → 1 ≤ chunk_count
    some_chunk b v has =
        let fits = blocks_fit log f sound in
        let some : 1 ≤ table.len f.versions = some_len f.versions b (ap is_some has) in
        omega arith

    pub firsts' : (b : ℕ) (e : Entry) → table.get live b ≡ Some e → (e.first < n) × (way n tail e.first < way n tail head')
    firsts' b e at = by (is_left b e at)
      where
        by : IsLeft b e → (e.first < n) × (way n tail e.first < way n tail head')
        by (logged v has same) =
            let near = not_behind b v has in
            let some = some_chunk b v has in
            let w = less_far (first_place log) first_inside (subst (λ x. far ≤ x) (sym first_way) near) ∙ ap (λ x. x - far) first_way in
            subst (λ (x : Entry). (x.first < n) × (way n tail x.first < way n tail head')) (sym same)
            (first_inside, (let u = used' in omega arith))
        by (kept none was less) =
            let old = sound.firsts b e was in
            let w = less_far e.first old.0 less in
            let u = used' in
            (old.0, omega arith)

    -- ---- the room

    abbrev nothing : table.FinMap nat_cmp Version
    nothing = table.empty

    none_there : (b : ℕ) → table.contains_key nothing b ≡ true → ⊥
    none_there b there = true≢false (sym there ∙ ap is_some (table.get-empty nat_cmp b))

    module _ (d : ℕ) where
      abbrev passes : Entry → Bool
      passes e = nat_le d (way n tail e.first)

      abbrev passed : Entry → Bool
      passed e = nat_le (d + far) (behind_tail log e.first)

      from_test : (a b : ℕ) → nat_le a b ≡ true → a ≤ b
      from_test a b is = elim (leb_tells a b) [ inl t ↦ t.1 | inr t ↦ absurd (true≢false (sym is ∙ t.0)) ]

      to_test : (a b : ℕ) → a ≤ b → nat_le a b ≡ true
      to_test a b less = elim (leb_tells a b) [ inl t ↦ t.0 | inr t ↦ absurd (omega arith) ]

      -- where it is from
      from : (b : ℕ) → table.contains_key (only passes live) b ≡ true → ((table.contains_key (only passed log.live) b ≡ true) × (d + far ≤ used log)) ⊎ ((table.contains_key f.versions b ≡ true) × (d + far ≤ used log + 1))
      from b there =
          let it = in_only passes live b there in
          by it.0 (is_left b it.0 it.1) (from_test d (way n tail it.0.first) it.2)
        where
          by : (e : Entry) → IsLeft b e → d ≤ way n tail e.first
              → ((table.contains_key (only passed log.live) b ≡ true) × (d + far ≤ used log)) ⊎ ((table.contains_key f.versions b ≡ true) × (d + far ≤ used log + 1))
          by e (logged v has same) less =
              let near = not_behind b v has in
              let w = less_far (first_place log) first_inside (subst (λ x. far ≤ x) (sym first_way) near) ∙ ap (λ x. x - far) first_way in
              let at : d ≤ way n tail (first_place log) = subst (λ (x : Entry). d ≤ way n tail x.first) same less in
              inr (ap is_some has, omega arith)
          by e (kept none was behind) less =
              let old = sound.firsts b e was in
              let w = less_far e.first old.0 behind in
              inl (to_only passed log.live b e was (to_test (d + far) (behind_tail log e.first) (omega arith)), omega arith)

      bounded : (d ≤ way n tail head') → table.len (only passes live) + d ≤ way n tail head'
      bounded inside = by (blocks_fit log f sound) used' (cases_lt (used log) (d + far)) (cases_lt (used log + 1) (d + far))
        where
          by : table.len f.versions ≤ chunk_count → way n tail head' ≡ used log + 1 + chunk_count - far → (used log < d + far) ⊎ (d + far ≤ used log) → (used log + 1 < d + far) ⊎ (d + far ≤ used log + 1) → table.len (only passes live) + d ≤ way n tail head'
          by fits u (inr low) beyond =
              let both = within_both (only passes live) (only passed log.live) f.versions (λ b there. elim (from b there) [ inl x ↦ inl x.0 | inr x ↦ inr x.0 ]) in
              let old : table.len (only passed log.live) + (d + far) ≤ used log = subst (λ k. k + (d + far) ≤ used log) (count-only passed log.live) (sound.room (d + far) low) in
              omega arith
          by fits u (inl high) (inr at) =
              let both = within_both (only passes live) f.versions nothing (λ b there. elim (from b there) [ inl x ↦ absurd (let y = x.1 in omega arith) | inr x ↦ inl x.0 ]) in
              let none = table.len-empty nat_cmp Version in
              omega arith
          by fits u (inl high) (inl past) =
              let both = within_both (only passes live) nothing nothing (λ b there. elim (from b there) [ inl x ↦ absurd (let y = x.1 in omega arith) | inr x ↦ absurd (let y = x.1 in omega arith) ]) in
              let none = table.len-empty nat_cmp Version in
              omega arith

    pub room' : (d : ℕ) → d ≤ way n tail head' → count_by (λ (e : ℕ × Entry). nat_le d (way n tail e.1.first)) (table.entries live) + d ≤ way n tail head'
    room' d inside = subst (λ k. k + d ≤ way n tail head') (sym (count-only (passes d) live)) (bounded d inside)

    -- ---- nothing is live

    pub none' : live ≡ table.empty → tail ≡ head'
    none' empty = by told
      where
        by : Told → tail ≡ head'
        by (oldest b e was same near none unrevoked away) =
            absurd (none_in live b e empty (kept_lives b e none unrevoked was (subst (λ p. far ≤ behind_tail log p) same (omega arith))))
        by (itself is_far same some) = absurd (some (all_none f.versions (λ b v has. true≢false (sym (flushed_lives b v has) ∙ ap (λ (m : Live). table.contains_key m b) empty ∙ ap is_some (table.get-empty nat_cmp b)))))
        by (its_head is_far same none) = same

    -- ---- the frames

    abbrev is_away : Entry → Bool
    is_away e = not (is_home e.way)

    pub frames' : away_count live ≤ table.len f.versions + away_count log.live
    frames' =
        subst (λ k. k ≤ table.len f.versions + away_count log.live) (sym (count-only is_away live))
        (subst (λ k. table.len (only is_away live) ≤ table.len f.versions + k) (sym (count-only is_away log.live)) (within_both (only is_away live) f.versions (only is_away log.live) from_away))
      where
        by : (b : ℕ) (e : Entry) → IsLeft b e → is_away e ≡ true → (table.contains_key f.versions b ≡ true) ⊎ (table.contains_key (only is_away log.live) b ≡ true)
        by b e (logged v has same) away = inl (ap is_some has)
        by b e (kept none was behind) away = inr (to_only is_away log.live b e was away)

        from_away : (b : ℕ) → table.contains_key (only is_away live) b ≡ true → (table.contains_key f.versions b ≡ true) ⊎ (table.contains_key (only is_away log.live) b ≡ true)
        from_away b there = let it = in_only is_away live b there in by b it.0 (is_left b it.0 it.1) it.2

    -- ---- all of it

    leaves_one : 1 ≤ n - (way n tail head' + 1)
    leaves_one = by used' sound.least leaves told
      where
        by : way n tail head' ≡ used log + 1 + chunk_count - far → 512 ≤ n → (used log + chunk_count + 3 ≤ n) ⊎ ((used log + 2 ≤ n) × (chunk_count ≡ 0) × (f.versions ≡ table.empty) × AllAreHome log) → Told → 1 ≤ n - (way n tail head' + 1)
        by u least (inl room) t = omega arith
        by u least (inr a) (oldest b e was same near none unrevoked away) = absurd (true≢false (sym (ap is_home (a.3 b e was)) ∙ away))
        by u least (inr a) (itself is_far same some) = absurd (some a.2)
        by u least (inr a) (its_head is_far same none) = omega arith

    pub landed : (new : LogValue) → new ≡ record log { head = head'; tail = tail; sequence = new.sequence; clean = new.clean; gone = live_among live log.gone; flush = None; live = live } → IsSoundLog new
    landed new same = subst IsSoundLog (sym same) (record {
      size = sound.size;
      least = sound.least;
      most = sound.most;
      places = sound.places;
      few = sound.few;
      head = head_inside;
      tail = tail_inside;
      free = leaves_one;
      firsts = firsts';
      room = room';
      none = none';
      gone = λ b there. gone_lives b there;
      apart = λ b there. sound.apart b (gone_was b there);
      fresh = sound.fresh;
      flushed = λ g b v e at. absurd (no_some g (sym e));
      frames = (let before = frames_before in let away = frames' in let most = sound.frames in omega arith);
      fits = λ g e. absurd (no_some g (sym e));
      revoked = λ g b e at. absurd (no_some g (sym e));
      reached = λ g k e at. absurd (no_some g (sym e));
      told = λ g t e at. absurd (no_some g (sym e));
      rests = λ g b e is behind at. absurd (no_some g (sym is));
    })
      where
        both_parts : (x y : Bool) → (x && y) ≡ true → (x ≡ true) × (y ≡ true)
        both_parts true y e = (refl, e)
        both_parts false y e = absurd (true≢false (sym e))

        parts : (b : ℕ) → set.contains (live_among live log.gone) b ≡ true → (set.contains log.gone b ≡ true) × (table.contains_key live b ≡ true)
        parts b there = both_parts (set.contains log.gone b) (table.contains_key live b) (sym (contains-retain log.gone (table.contains_key live) b) ∙ there)

        gone_was : (b : ℕ) → set.contains (live_among live log.gone) b ≡ true → set.contains log.gone b ≡ true
        gone_was b there = (parts b there).0

        or_left : (x y : Bool) → x ≡ true → (x || y) ≡ true
        or_left x y e = ap (λ z. z || y) e

        gone_lives : (b : ℕ) → set.contains (live_among live log.gone) b ≡ true → (table.contains_key live b || false) ≡ true
        gone_lives b there = or_left (table.contains_key live b) false (parts b there).1

        frames_before : frames_taken log ≡ table.len log.fresh + table.len f.versions + away_count log.live
        frames_before = ap (λ (o : Option Flush). table.len log.fresh + flushed_count o + away_count log.live) is
