-- What a call's change makes of a log's versions, block by block.
use Rattle.std.proofs.Common.{◌≡◌, ℕ, ◌<◌, inl, inr, ◌⊎◌, Bool, true, false, not, ◌||◌, ◌&&◌, List, [], ◌∷◌, map, length, Option, None, Some, refl, sym, ap, subst, ◌∙◌, true≢false, is_some, arith}
use Rattle.std.specs.Prelude.{◌==◌, if◌then◌else◌}
use Rattle.std.specs.FinMap as table
use Rattle.std.specs.List.{AllByRecursion, list_any}
use Rattle.std.specs.List.Sorted.{IsStrictlySortedBy}
use Rattle.std.specs.Option.{option_map}
use Rattle.std.specs.Ordering.{eq_by_cmp, nat_cmp}
use Rattle.std.specs.declared.cmp.Ordering.TheVariants.{Less}
use Rattle.std.proofs.lemmas.Bool.{cases_Bool, cases_eq, cond-true, cond-false, eq-eqb, ne_eqb}
use Rattle.std.proofs.lemmas.Cmp.{nat_cmp_total, ranked}
use Rattle.finite_maps.proofs.Keys.{tied, untied}
use Rattle.drafts.specs.declared.change.Change.{Change}
use Rattle.drafts.specs.declared.change.Written.{Written}
use Rattle.glock_names.specs.declared.LockName.{LockName}
use Rattle.image_changes.specs.Does.{IsFormed, bytes_for, frees, writes}
use Rattle.image_model.proofs.Held.{none_some}
use Rattle.log_tables.proofs.Counting.{apart, at_key, gone, left}
use Rattle.log_values.specs.Blocks as set
use Rattle.log_values.specs.Changes.{has_entry, version_of, with_change, with_freed, with_written, without_all, without_written}
use Rattle.log_values.specs.Log.{LogValue, Version}
use Rattle.log_values.proofs.BlocksHad.{contains-insert, contains-remove}
use Rattle.lone_images.specs.Lone.{HasGoneWith, version_with}
use Rattle.lone_logs.specs.States.{bytes_of}

abbrev Versions : Type 0
Versions = table.FinMap nat_cmp Version

-- ---- whether a block is the first of these

first_here : (w : Written) (ws : List Written) (b : ℕ) → w.block ≡ b → bytes_for (w ∷ ws) b ≡ Some w.bytes
first_here w ws b same = cond-true (w.block == b) (Some w.bytes) (bytes_for ws b) (eq-eqb w.block b same)

behind_first : (w : Written) (ws : List Written) (b : ℕ) → (w.block ≡ b → ⊥) → bytes_for (w ∷ ws) b ≡ bytes_for ws b
behind_first w ws b other = cond-false (w.block == b) (Some w.bytes) (bytes_for ws b) (ne_eqb w.block b other)

none_behind : (b : ℕ) (ws : List Written) → AllByRecursion (λ y. nat_cmp b y ≡ Less) (map (λ (w : Written). w.block) ws) → bytes_for ws b ≡ None
none_behind b [] above = refl
none_behind b (w ∷ ws) above = behind_first w ws b (λ e. (let less : b < w.block = ranked b w.block Less (sym above.0) in omega (arith, less, e))) ∙ none_behind b ws above.1

swapped : {A : Type 0} {x y : A} → (x ≡ y → ⊥) → y ≡ x → ⊥
swapped ne e = ne (sym e)

-- ---- versions

unwritten_version : (ws : List Written) (ls : List LockName) (m : Versions) (b : ℕ) → bytes_for ws b ≡ None → table.get (with_written ws ls m) b ≡ table.get m b
unwritten_version [] ls m b none = refl
unwritten_version (w ∷ ws) [] m b none = refl
unwritten_version (w ∷ ws) (l ∷ ls) m b none = elim (cases_eq w.block b) [
  | inl same ↦ absurd (none_some (sym none ∙ first_here w ws b same))
  | inr other ↦ unwritten_version ws ls (table.insert m w.block (version_of w l)) b (sym (behind_first w ws b other) ∙ none) ∙ apart m w.block (version_of w l) b (swapped other)
]

written_version : (ws : List Written) (ls : List LockName) (m : Versions) (b : ℕ) (bytes : List ℕ) → length ls ≡ length ws → IsStrictlySortedBy nat_cmp (map (λ (w : Written). w.block) ws)
    → bytes_for ws b ≡ Some bytes → bytes_of (with_written ws ls m) b ≡ Some bytes
unfolding IsStrictlySortedBy
written_version [] ls m b bytes even rise e = absurd (none_some e)
written_version (w ∷ ws) [] m b bytes even rise e = absurd (omega (arith, even))
written_version (w ∷ ws) (l ∷ ls) m b bytes even rise e = elim (cases_eq w.block b) [
  | inl same ↦
      let none : bytes_for ws b ≡ None = none_behind b ws (subst (λ k. AllByRecursion (λ y. nat_cmp k y ≡ Less) (map (λ (x : Written). x.block) ws)) same rise.0) in
      ap (option_map (λ (x : Version). x.bytes)) (unwritten_version ws ls (table.insert m w.block (version_of w l)) b none ∙ ap (table.get (table.insert m w.block (version_of w l))) (sym same) ∙ at_key m w.block (version_of w l))
      ∙ sym (first_here w ws b same) ∙ e
  | inr other ↦ written_version ws ls (table.insert m w.block (version_of w l)) b bytes (omega (arith, even)) rise.1 (sym (behind_first w ws b other) ∙ e)
]

none_still : (bs : List ℕ) (m : Versions) (b : ℕ) → table.get m b ≡ None → table.get (without_all bs m) b ≡ None
none_still [] m b none = none
none_still (k ∷ bs) m b none = none_still bs (table.remove m k) b (elim (cases_eq b k) [ inl same ↦ ap (table.get (table.remove m k)) same ∙ gone m k | inr other ↦ left m k b other ∙ none ])

or_split : (x y : Bool) → (x || y) ≡ true → (x ≡ true) ⊎ (y ≡ true)
or_split true y e = inl refl
or_split false y e = inr e

or_false : (x y : Bool) → (x || y) ≡ false → (x ≡ false) × (y ≡ false)
or_false true y e = absurd (true≢false e)
or_false false y e = (refl, e)

freed_version : (bs : List ℕ) (m : Versions) (b : ℕ) → list_any (λ f. f == b) bs ≡ true → table.get (without_all bs m) b ≡ None
freed_version [] m b there = absurd (true≢false (sym there))
freed_version (k ∷ bs) m b there = elim (cases_eq b k) [
  | inl same ↦ none_still bs (table.remove m k) b (ap (table.get (table.remove m k)) same ∙ gone m k)
  | inr other ↦ elim (or_split (k == b) (list_any (λ f. f == b) bs) there) [
    | inl here ↦ absurd (true≢false (sym here ∙ ne_eqb k b (swapped other)))
    | inr further ↦ freed_version bs (table.remove m k) b further
  ]
]

unfreed_version : (bs : List ℕ) (m : Versions) (b : ℕ) → list_any (λ f. f == b) bs ≡ false → table.get (without_all bs m) b ≡ table.get m b
unfreed_version [] m b none = refl
unfreed_version (k ∷ bs) m b none =
    let not = or_false (k == b) (list_any (λ f. f == b) bs) none in
    unfreed_version bs (table.remove m k) b not.1 ∙ left m k b (λ same. true≢false (sym (eq-eqb k b (sym same)) ∙ not.0))

-- ---- what is to be revoked

still_without : (ws : List Written) (s : set.Blocks) (b : ℕ) → set.contains s b ≡ false → set.contains (without_written ws s) b ≡ false
still_without [] s b none = none
still_without (w ∷ ws) s b none = still_without ws (set.remove s w.block) b (contains-remove s w.block b ∙ ap (λ t. not (eq_by_cmp nat_cmp b w.block) && t) none ∙ and_false (not (eq_by_cmp nat_cmp b w.block)))
  where
    and_false : (t : Bool) → (t && false) ≡ false
    and_false true = refl
    and_false false = refl

unwritten_gone : (ws : List Written) (s : set.Blocks) (b : ℕ) → bytes_for ws b ≡ None → set.contains (without_written ws s) b ≡ set.contains s b
unwritten_gone [] s b none = refl
unwritten_gone (w ∷ ws) s b none = elim (cases_eq w.block b) [
  | inl same ↦ absurd (none_some (sym none ∙ first_here w ws b same))
  | inr other ↦ unwritten_gone ws (set.remove s w.block) b (sym (behind_first w ws b other) ∙ none)
      ∙ contains-remove s w.block b ∙ ap (λ t. not t && set.contains s b) (untied table.nat_cmp-IsAntisymmetric b w.block (swapped other))
]

written_gone : (ws : List Written) (s : set.Blocks) (b : ℕ) → is_some (bytes_for ws b) ≡ true → set.contains (without_written ws s) b ≡ false
written_gone [] s b there = absurd (true≢false (sym there))
written_gone (w ∷ ws) s b there = elim (cases_eq w.block b) [
  | inl same ↦ still_without ws (set.remove s w.block) b
      (contains-remove s w.block b ∙ ap (λ t. not t && set.contains s b) (ap (λ k. eq_by_cmp nat_cmp b k) same ∙ tied nat_cmp_total b))
  | inr other ↦ written_gone ws (set.remove s w.block) b (ap is_some (sym (behind_first w ws b other)) ∙ there)
]

unfreed_gone : (test : ℕ → Bool) (bs : List ℕ) (s : set.Blocks) (b : ℕ) → list_any (λ f. f == b) bs ≡ false → set.contains (with_freed test bs s) b ≡ set.contains s b
unfreed_gone test [] s b none = refl
unfreed_gone test (k ∷ bs) s b none =
    let not = or_false (k == b) (list_any (λ f. f == b) bs) none in
    unfreed_gone test bs (if test k then set.insert s k else s) b not.1 ∙ one (test k) (λ same. true≢false (sym (eq-eqb k b (sym same)) ∙ not.0))
  where
    one : (t : Bool) → (b ≡ k → ⊥) → set.contains (if t then set.insert s k else s) b ≡ set.contains s b
    one true other = contains-insert s k b ∙ ap (λ t. t || set.contains s b) (untied table.nat_cmp-IsAntisymmetric b k other)
    one false other = refl

-- ---- a change

module _ (log : LogValue) (change : Change) (form : IsFormed change) where
  abbrev ws : List Written
  ws = change.blocks.items

  -- the versions of the log with it are those with it
  pub fresh_with : (b : ℕ) → version_with change (bytes_of log.fresh) b ≡ bytes_of (with_change log change).fresh b
  fresh_with b = by (bytes_for ws b) refl (cases_Bool (frees change b))
    where
      by : (o : Option (List ℕ)) → bytes_for ws b ≡ o → (frees change b ≡ true) ⊎ (frees change b ≡ false) → version_with change (bytes_of log.fresh) b ≡ bytes_of (with_change log change).fresh b
      by (Some bytes) e test =
          ap (λ (o : Option (List ℕ)). elim o [ Some x ↦ Some x | None ↦ if frees change b then None else bytes_of log.fresh b ]) e
          ∙ sym (written_version ws change.locks.items (without_all change.freed.items log.fresh) b bytes form.locks form.blocks e)
      by None e (inl freed) =
          ap (λ (o : Option (List ℕ)). elim o [ Some x ↦ Some x | None ↦ if frees change b then None else bytes_of log.fresh b ]) e
          ∙ cond-true (frees change b) None (bytes_of log.fresh b) freed
          ∙ sym (ap (option_map (λ (x : Version). x.bytes)) (unwritten_version ws change.locks.items (without_all change.freed.items log.fresh) b e ∙ freed_version change.freed.items log.fresh b freed))
      by None e (inr kept) =
          ap (λ (o : Option (List ℕ)). elim o [ Some x ↦ Some x | None ↦ if frees change b then None else bytes_of log.fresh b ]) e
          ∙ cond-false (frees change b) None (bytes_of log.fresh b) kept
          ∙ sym (ap (option_map (λ (x : Version). x.bytes)) (unwritten_version ws change.locks.items (without_all change.freed.items log.fresh) b e ∙ unfreed_version change.freed.items log.fresh b kept))

  -- what is changed then was changed before, or is written
  pub written_or_was : (b : ℕ) → table.contains_key (with_change log change).fresh b ≡ true → (writes change b ≡ true) ⊎ (table.contains_key log.fresh b ≡ true)
  written_or_was b there = by (bytes_for ws b) refl (cases_Bool (frees change b))
    where
      by : (o : Option (List ℕ)) → bytes_for ws b ≡ o → (frees change b ≡ true) ⊎ (frees change b ≡ false) → (writes change b ≡ true) ⊎ (table.contains_key log.fresh b ≡ true)
      by (Some bytes) e test = inl (ap is_some e)
      by None e (inl freed) =
          absurd (true≢false (sym there ∙ ap is_some (unwritten_version ws change.locks.items (without_all change.freed.items log.fresh) b e ∙ freed_version change.freed.items log.fresh b freed)))
      by None e (inr kept) =
          inr (sym (ap is_some (unwritten_version ws change.locks.items (without_all change.freed.items log.fresh) b e ∙ unfreed_version change.freed.items log.fresh b kept)) ∙ there)

  is_none : (o : Option (List ℕ)) → is_some o ≡ false → o ≡ None
  is_none None e = refl
  is_none (Some x) e = absurd (true≢false e)

  pub gone_with : HasGoneWith change (set.contains log.gone) (set.contains (with_change log change).gone)
  gone_with = record {
    written = λ b there. written_gone ws (with_freed (has_entry log) change.freed.items log.gone) b there;
    others = λ b not. (let parts = or_false (writes change b) (frees change b) not in
        unwritten_gone ws (with_freed (has_entry log) change.freed.items log.gone) b (is_none (bytes_for ws b) parts.0) ∙ unfreed_gone (has_entry log) change.freed.items log.gone b parts.1);
  }
