-- Blocks put into the view one after another, and taken from it.
use Rattle.std.proofs.Common.{◌≡◌, ℕ, suc, ◌+◌, ◌<◌, ◌⊎◌, inl, inr, Bool, true, false, ◌||◌, List, [], ◌∷◌, ◌++◌, length, map, take, get_or, Option, None, Some, refl, sym, ap, subst, ◌∙◌, true≢false, arith}
use Rattle.std.specs.Prelude.{◌==◌, OnOk, Result, Ok, Err, if◌then◌else◌}
use Rattle.std.specs.Ordering.{nat_cmp}
use Rattle.std.specs.FinMap.{FinMap, get, insert, remove, nat_cmp-IsAntisymmetric}
use Rattle.std.specs.List.{AllByRecursion, list_any}
use Rattle.std.specs.List.Sorted.{IsStrictlySortedBy}
use Rattle.std.specs.declared.cmp.Ordering.TheVariants.{Less}
use Rattle.std.proofs.Math.Seq.{take-suc}
use Rattle.std.proofs.lemmas.Bool.{cases_Bool, cases_eq, cond-true, cond-false, eq-eqb, ne_eqb}
use Rattle.std.proofs.lemmas.Cmp.{nat_cmp_total, ranked}
use Rattle.finite_maps.proofs.Keys.{inserted_at, inserted_apart, removed_at, removed_apart}
use Rattle.gfs2_layout.proofs.HeaderLaws.{some_none}
use Rattle.drafts.specs.declared.change.Change.{Change}
use Rattle.drafts.specs.declared.change.Written.{Written}
use Rattle.image_changes.specs.Does.{IsFormed, bytes_for, frees}
use Rattle.lone_images.specs.Lone.{version_with}
use Rattle.lone_view.specs.Seeing.{Lone}
use Rattle.logged_node.specs.declared.node.Node.{Node}
use Rattle.logged_calls.specs.Keeping.{with_blocks, without_blocks}

abbrev Blocks : Type 0
Blocks = FinMap nat_cmp (List ℕ)

-- ---- one more

pub with_last : (m : Blocks) (ws : List Written) (w : Written) → with_blocks m (ws ++ w ∷ []) ≡ insert (with_blocks m ws) w.block w.bytes
with_last m [] w = refl
with_last m (v ∷ ws) w = with_last (insert m v.block v.bytes) ws w

pub with_next : (m : Blocks) (ws : List Written) (i : ℕ) (d : Written) → i < length ws → with_blocks m (take (i + 1) ws) ≡ insert (with_blocks m (take i ws)) (get_or ws i d).block (get_or ws i d).bytes
with_next m ws i d low = let next : i + 1 ≡ suc i = omega arith in ap (λ k. with_blocks m (take k ws)) next ∙ ap (with_blocks m) (take-suc ws i d low) ∙ with_last m (take i ws) (get_or ws i d)

pub without_last : (m : Blocks) (bs : List ℕ) (b : ℕ) → without_blocks m (bs ++ b ∷ []) ≡ remove (without_blocks m bs) b
without_last m [] b = refl
without_last m (c ∷ bs) b = without_last (remove m c) bs b

pub without_next : (m : Blocks) (bs : List ℕ) (i : ℕ) (d : ℕ) → i < length bs → without_blocks m (take (i + 1) bs) ≡ remove (without_blocks m (take i bs)) (get_or bs i d)
without_next m bs i d low = let next : i + 1 ≡ suc i = omega arith in ap (λ k. without_blocks m (take k bs)) next ∙ ap (without_blocks m) (take-suc bs i d low) ∙ without_last m (take i bs) (get_or bs i d)

-- ---- with all that is written

apart : (m : Blocks) (k : ℕ) (v : List ℕ) (b : ℕ) → (k ≡ b → ⊥) → get (insert m k v) b ≡ get m b
apart m k v b other = inserted_apart nat_cmp_total nat_cmp-IsAntisymmetric m k v b (λ e. other (sym e))

first_here : (w : Written) (ws : List Written) (b : ℕ) → w.block ≡ b → bytes_for (w ∷ ws) b ≡ Some w.bytes
first_here w ws b same = cond-true (w.block == b) (Some w.bytes) (bytes_for ws b) (eq-eqb w.block b same)

behind_first : (w : Written) (ws : List Written) (b : ℕ) → (w.block ≡ b → ⊥) → bytes_for (w ∷ ws) b ≡ bytes_for ws b
behind_first w ws b other = cond-false (w.block == b) (Some w.bytes) (bytes_for ws b) (ne_eqb w.block b other)

none_behind : (b : ℕ) (ws : List Written) → AllByRecursion (λ y. nat_cmp b y ≡ Less) (map (λ (w : Written). w.block) ws) → bytes_for ws b ≡ None
none_behind b [] above = refl
none_behind b (w ∷ ws) above = behind_first w ws b (λ e. (let less : b < w.block = ranked b w.block Less (sym above.0) in omega (arith, less, e))) ∙ none_behind b ws above.1

unwritten_stays : (ws : List Written) (m : Blocks) (b : ℕ) → bytes_for ws b ≡ None → get (with_blocks m ws) b ≡ get m b
unwritten_stays [] m b none = refl
unwritten_stays (w ∷ ws) m b none = elim (cases_eq w.block b) [
  | inl same ↦ absurd (some_none w.bytes (sym (first_here w ws b same) ∙ none))
  | inr other ↦ unwritten_stays ws (insert m w.block w.bytes) b (sym (behind_first w ws b other) ∙ none) ∙ apart m w.block w.bytes b other
]

written_comes : (ws : List Written) (m : Blocks) (b : ℕ) (bytes : List ℕ) → IsStrictlySortedBy nat_cmp (map (λ (w : Written). w.block) ws) → bytes_for ws b ≡ Some bytes → get (with_blocks m ws) b ≡ Some bytes
unfolding IsStrictlySortedBy
written_comes [] m b bytes rise e = absurd (some_none bytes (sym e))
written_comes (w ∷ ws) m b bytes rise e = elim (cases_eq w.block b) [
  | inl same ↦
      let none : bytes_for ws b ≡ None = none_behind b ws (subst (λ k. AllByRecursion (λ y. nat_cmp k y ≡ Less) (map (λ (x : Written). x.block) ws)) same rise.0) in
      unwritten_stays ws (insert m w.block w.bytes) b none ∙ ap (get (insert m w.block w.bytes)) (sym same) ∙ inserted_at nat_cmp_total nat_cmp-IsAntisymmetric m w.block w.bytes
      ∙ sym (first_here w ws b same) ∙ e
  | inr other ↦ written_comes ws (insert m w.block w.bytes) b bytes rise.1 (sym (behind_first w ws b other) ∙ e)
]

-- ---- without what is freed

gone : (m : Blocks) (k : ℕ) → get (remove m k) k ≡ None
gone m k = removed_at nat_cmp_total nat_cmp-IsAntisymmetric m k

left : (m : Blocks) (k b : ℕ) → (b ≡ k → ⊥) → get (remove m k) b ≡ get m b
left m k b other = removed_apart nat_cmp_total nat_cmp-IsAntisymmetric m k b other

none_still : (bs : List ℕ) (m : Blocks) (b : ℕ) → get m b ≡ None → get (without_blocks m bs) b ≡ None
none_still [] m b none = none
none_still (k ∷ bs) m b none = none_still bs (remove m k) b (elim (cases_eq b k) [ inl same ↦ ap (get (remove m k)) same ∙ gone m k | inr other ↦ left m k b other ∙ none ])

or_split : (x y : Bool) → (x || y) ≡ true → (x ≡ true) ⊎ (y ≡ true)
or_split true y e = inl refl
or_split false y e = inr e

or_false : (x y : Bool) → (x || y) ≡ false → (x ≡ false) × (y ≡ false)
or_false true y e = absurd (true≢false e)
or_false false y e = (refl, e)

freed_goes : (bs : List ℕ) (m : Blocks) (b : ℕ) → list_any (λ f. f == b) bs ≡ true → get (without_blocks m bs) b ≡ None
freed_goes [] m b there = absurd (true≢false (sym there))
freed_goes (k ∷ bs) m b there = elim (cases_eq b k) [
  | inl same ↦ none_still bs (remove m k) b (ap (get (remove m k)) same ∙ gone m k)
  | inr other ↦ elim (or_split (k == b) (list_any (λ f. f == b) bs) there) [
    | inl here ↦ absurd (true≢false (sym here ∙ ne_eqb k b (λ e. other (sym e))))
    | inr further ↦ freed_goes bs (remove m k) b further
  ]
]

unfreed_stays : (bs : List ℕ) (m : Blocks) (b : ℕ) → list_any (λ f. f == b) bs ≡ false → get (without_blocks m bs) b ≡ get m b
unfreed_stays [] m b none = refl
unfreed_stays (k ∷ bs) m b none =
    let not = or_false (k == b) (list_any (λ f. f == b) bs) none in
    unfreed_stays bs (remove m k) b not.1 ∙ left m k b (λ same. true≢false (sym (eq-eqb k b (sym same)) ∙ not.0))

-- ---- what is kept behind a change

kept_version : (m : Blocks) (change : Change) → IsFormed change → (b : ℕ) → get (with_blocks (without_blocks m change.freed.items) change.blocks.items) b ≡ version_with change (get m) b
kept_version m change form b = by (bytes_for change.blocks.items b) refl (cases_Bool (frees change b))
  where
    by : (o : Option (List ℕ)) → bytes_for change.blocks.items b ≡ o → (frees change b ≡ true) ⊎ (frees change b ≡ false)
        → get (with_blocks (without_blocks m change.freed.items) change.blocks.items) b ≡ version_with change (get m) b
    by (Some bytes) e test =
        written_comes change.blocks.items (without_blocks m change.freed.items) b bytes form.blocks e
        ∙ sym (ap (λ (o : Option (List ℕ)). elim o [ Some x ↦ Some x | None ↦ if frees change b then None else get m b ]) e)
    by None e (inl freed) =
        unwritten_stays change.blocks.items (without_blocks m change.freed.items) b e ∙ freed_goes change.freed.items m b freed
        ∙ sym (ap (λ (o : Option (List ℕ)). elim o [ Some x ↦ Some x | None ↦ if frees change b then None else get m b ]) e ∙ cond-true (frees change b) None (get m b) freed)
    by None e (inr stays) =
        unwritten_stays change.blocks.items (without_blocks m change.freed.items) b e ∙ unfreed_stays change.freed.items m b stays
        ∙ sym (ap (λ (o : Option (List ℕ)). elim o [ Some x ↦ Some x | None ↦ if frees change b then None else get m b ]) e ∙ cond-false (frees change b) None (get m b) stays)

module _ (v u w : Lone) (change : Change) (form : IsFormed change) (forgot : u ≡ record v { blocks = without_blocks v.blocks change.freed.items }) (kept : w ≡ record u { blocks = with_blocks u.blocks change.blocks.items }) where
  whole_is : w ≡ record v { blocks = with_blocks (without_blocks v.blocks change.freed.items) change.blocks.items }
  whole_is = kept ∙ ap (λ (x : Lone). record x { blocks = with_blocks x.blocks change.blocks.items }) forgot

  pub kept_so : (b : ℕ) → get w.blocks b ≡ version_with change (get v.blocks) b
  kept_so b = ap (λ (x : Lone). get x.blocks b) whole_is ∙ kept_version v.blocks change form b

pub on_ok : {A E : Type 0} (r : Result A E) (P Q : Type 0) → (P → Q) → OnOk r P → OnOk r Q
on_ok (Ok _) P Q so is = so is
on_ok (Err _) P Q so is = tt

pub always_ok : {A E : Type 0} (r : Result A E) (P : Type 0) → P → OnOk r P
always_ok (Ok _) P p = p
always_ok (Err _) P p = tt

-- the node with this view, and other items
module _ (old new : Node) (v : Lone) (new_is : new ≡ record old { view = v; items = new.items }) where
  its_view_is : new.view ≡ v
  its_view_is = ap (λ (x : Node). x.view) new_is

  pub its_node : new ≡ record old { view = new.view; items = new.items }
  its_node = new_is ∙ ap (λ (u : Lone). record old { view = u; items = new.items }) (sym its_view_is)

  pub its_view : v ≡ record old.view { blocks = v.blocks } → new.view ≡ record old.view { blocks = new.view.blocks }
  its_view is = subst (λ (u : Lone). u ≡ record old.view { blocks = u.blocks }) (sym its_view_is) is

  pub its_kept : (change : Change) → ((b : ℕ) → get v.blocks b ≡ version_with change (get old.view.blocks) b) → (b : ℕ) → get new.view.blocks b ≡ version_with change (get old.view.blocks) b
  its_kept change kept b = ap (λ (u : Lone). get u.blocks b) its_view_is ∙ kept b
