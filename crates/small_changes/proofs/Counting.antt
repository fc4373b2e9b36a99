-- How many blocks a draft puts: no more than a list has that has each of them.
use Rattle.std.proofs.Common.{◌≡◌, ◌≢◌, ◌+◌, ◌<◌, ◌≤◌, ◌⊎◌, ℕ, suc, inl, inr, Bool, true, List, [], ◌∷◌, length, map, Option, None, Some, refl, sym, ap, subst, ◌∙◌, arith, true≢false}
use Rattle.std.specs.Prelude.{◌==◌, Contains, count_by, filter, flat_map, if◌then◌else◌, is_some}
use Rattle.std.specs.FinMap.{FinMap, get, insert, nat_cmp-IsAntisymmetric}
use Rattle.std.specs.FinMap as table
use Rattle.std.specs.List.{AllByRecursion, range_with_len}
use Rattle.std.specs.List.Sorted.{IsStrictlySortedBy}
use Rattle.std.specs.Ordering.{nat_cmp}
use Rattle.std.specs.declared.cmp.Ordering.TheVariants.{Less}
use Rattle.std.proofs.Math.ListN.{length-append, length-map}
use Rattle.std.proofs.lemmas.Bool.{cases_eq, cond-false, cond-true, eq-eqb, ne_eqb}
use Rattle.std.proofs.lemmas.Cmp.{nat_cmp_total, ranked}
use Rattle.std.proofs.lemmas.List.FromFn.{length-range_with_len}
use Rattle.std.proofs.lemmas.List.Sums.{sum_by-cons}
use Rattle.finite_maps.proofs.Keys.{untied}
use Rattle.gfs2_layout.specs.declared.rindex.Rindex.{Rindex}
use Rattle.glock_names.specs.Views.{group_of_entry}
use Rattle.glock_names.specs.declared.LockName.{LockName}
use Rattle.glock_names.specs.declared.views.Group.{Group}
use Rattle.drafts.specs.Fates.{block_with}
use Rattle.drafts.specs.declared.change.Change.{Change}
use Rattle.drafts.specs.declared.change.Written.{Written}
use Rattle.drafts.specs.declared.fate.Fate.{Fate}
use Rattle.drafts.specs.declared.fate.Fate.TheVariants.{Put, Freed}
use Rattle.image_model.specs.Profile.{group_length}
use Rattle.image_model.proofs.Counts.{all_in}
use Rattle.image_model.proofs.Held.{none_some}
use Rattle.image_model.proofs.Members.{IsIn, from_filter, in_flat_map, in_range, is_in}
use Rattle.image_model.proofs.Rising.{Rising, count_filter, rising_filter}
use Rattle.image_changes.specs.Drafted.{IsFinished, IsOfDraft}
use Rattle.image_changes.specs.Does.{bytes_for}
use Rattle.image_changes.proofs.Finishing.{finish_makes}
use Rattle.resource_groups.specs.Shown.{IsHeaderOf}

-- ---- a list that has each of some numbers is no shorter

-- without the first of these
abbrev without : ℕ → List ℕ → List ℕ
without x [] = []
without x (y ∷ ys) = if y == x then ys else y ∷ without x ys

one_less : (x : ℕ) (ys : List ℕ) → IsIn x ys → suc (length (without x ys)) ≡ length ys
one_less x [] there = elim there [ ]
one_less x (y ∷ ys) there = elim (cases_eq y x) [
  | inl same ↦ ap (λ zs. suc (length zs)) (cond-true (y == x) ys (y ∷ without x ys) (eq-eqb y x same))
  | inr other ↦ ap (λ zs. suc (length zs)) (cond-false (y == x) ys (y ∷ without x ys) (ne_eqb y x other)) ∙ ap suc (one_less x ys (later other there))
]
  where
    later : y ≢ x → IsIn x (y ∷ ys) → IsIn x ys
    later other (inl e) = absurd (other (sym e))
    later other (inr in_ys) = in_ys

still_in : (x z : ℕ) (ys : List ℕ) → z ≢ x → IsIn z ys → IsIn z (without x ys)
still_in x z [] other there = elim there [ ]
still_in x z (y ∷ ys) other there = elim (cases_eq y x) [
  | inl same ↦ subst (IsIn z) (sym (cond-true (y == x) ys (y ∷ without x ys) (eq-eqb y x same))) (elim there [ inl e ↦ absurd (other (e ∙ same)) | inr later ↦ later ])
  | inr off ↦ subst (IsIn z) (sym (cond-false (y == x) ys (y ∷ without x ys) (ne_eqb y x off))) (elim there [ inl e ↦ inl e | inr later ↦ inr (still_in x z ys other later) ])
]

pub no_more : (xs ys : List ℕ) → Rising xs → ((x : ℕ) → IsIn x xs → IsIn x ys) → length xs ≤ length ys
no_more [] ys rise all = omega arith
no_more (x ∷ xs) ys rise all =
    let fewer : length xs ≤ length (without x ys) =
    no_more xs (without x ys) rise.1 (λ z there. still_in x z ys (λ e. let above : x < z = all_in (λ y. x < y) z xs rise.0 there in absurd (omega (arith, above, e))) (all z (inr there))) in
    omega (arith, fewer, one_less x ys (all x (inl refl)))

-- of rising numbers no more pass than a list has that has each that passes
pub count_few : (test : ℕ → Bool) (xs list : List ℕ) → Rising xs → ((x : ℕ) → IsIn x xs → test x ≡ true → IsIn x list) → count_by test xs ≤ length list
count_few test xs list rises all =
    let few : length (filter test xs) ≤ length list =
    no_more (filter test xs) list (rising_filter test xs rises) (λ x there. let both = from_filter test x xs there in all x both.0 both.1) in
    omega (arith, few, count_filter test xs)

-- ---- the blocks that a change writes

rise : (xs : List ℕ) → IsStrictlySortedBy nat_cmp xs → Rising xs
unfolding IsStrictlySortedBy
rise [] is = tt
rise (x ∷ xs) is = (above xs is.0, rise xs is.1)
  where
    above : (ys : List ℕ) → AllByRecursion (λ y. nat_cmp x y ≡ Less) ys → AllByRecursion (λ y. x < y) ys
    above [] all = tt
    above (y ∷ ys) all = (ranked x y Less (sym all.0), above ys all.1)

is_written : (ws : List Written) (b : ℕ) → IsIn b (map (λ (w : Written). w.block) ws) → is_some (bytes_for ws b) ≡ true
is_written [] b there = elim there [ ]
is_written (w ∷ ws) b there = elim (cases_eq w.block b) [
  | inl same ↦ ap is_some (cond-true (w.block == b) (Some w.bytes) (bytes_for ws b) (eq-eqb w.block b same))
  | inr other ↦ ap is_some (cond-false (w.block == b) (Some w.bytes) (bytes_for ws b) (ne_eqb w.block b other)) ∙ is_written ws b (elim there [ inl e ↦ absurd (other (sym e)) | inr later ↦ later ])
]

put_there : (f : Option Fate) → is_some (block_with f None) ≡ true → (lock : LockName) × (plain : Bool) × (bytes : List ℕ) × (f ≡ Some (Put lock plain bytes))
put_there (Some (Put lock plain bytes)) e = (lock, plain, bytes, refl)
put_there (Some Freed) e = absurd (true≢false (sym e))
put_there None e = absurd (true≢false (sym e))

-- a draft's change writes no more blocks than a list has in which each stands that the draft puts
pub puts_few : (fates : FinMap nat_cmp Fate) (change : Change) → IsFinished fates change → (list : List ℕ)
    → ((b : ℕ) (lock : LockName) (plain : Bool) (bytes : List ℕ) → get fates b ≡ Some (Put lock plain bytes) → IsIn b list) → length change.blocks.items ≤ length list
puts_few fates change finished list all =
    let d : IsOfDraft fates change = finish_makes fates change finished in
    let few : length (map (λ (w : Written). w.block) change.blocks.items) ≤ length list =
    no_more (map (λ (w : Written). w.block) change.blocks.items) list (rise (map (λ (w : Written). w.block) change.blocks.items) d.form.blocks)
    (λ b there. let put = put_there (get fates b) (sym (d.puts b) ∙ is_written change.blocks.items b there) in all b put.0 put.1 put.2 put.3) in
    let same : length (map (λ (w : Written). w.block) change.blocks.items) ≡ length change.blocks.items = length-map change.blocks.items (λ (w : Written). w.block) in
    omega (arith, few, same)

-- ---- in a draft

-- what becomes of a block once another fate is put: that, or what it was
pub after_insert : (fates : FinMap nat_cmp Fate) (a b : ℕ) (f : Fate) → (b ≡ a) ⊎ (get (insert fates a f) b ≡ get fates b)
after_insert fates a b f = elim (cases_eq b a) [
  | inl same ↦ inl same
  | inr other ↦ inr (table.get-insert nat_cmp_total fates a f b ∙ cond-false _ (Some f) (get fates b) (untied nat_cmp-IsAntisymmetric b a other))
]

pub not_none : {X : Type 0} (x y : Option X) (z : X) → x ≡ y → y ≡ None → x ≡ Some z → ⊥
not_none x y z e none some = none_some (sym none ∙ sym e ∙ some)

-- ---- the groups

-- the blocks of the headers and bitmaps of these groups
abbrev pub headers : List Group → List ℕ
headers gs = flat_map (λ (g : Group). range_with_len g.addr g.length) gs

pub headers_many : (gs : List Rindex) → length (headers (map group_of_entry gs)) ≡ group_length gs
headers_many [] = refl
headers_many (g ∷ gs) =
    let one : length (headers (map group_of_entry (g ∷ gs))) ≡ length (range_with_len g.address g.length) + length (headers (map group_of_entry gs))
    = length-append (range_with_len g.address g.length) (headers (map group_of_entry gs)) in
    let all : group_length (g ∷ gs) ≡ g.length + group_length gs = sum_by-cons (λ (x : Rindex). x.length) g gs in
    omega (arith, one, all, length-range_with_len g.address g.length, headers_many gs)

pub in_headers : (gs : List Group) (g : Group) (b : ℕ) → Contains gs g → IsHeaderOf g b → IsIn b (headers gs)
in_headers gs g b has is = in_flat_map (λ (k : Group). range_with_len k.addr k.length) g b gs (is_in g gs has) (in_range g.addr g.length b is.low is.high)

pub in_or_not : (xs : List ℕ) (x : ℕ) → IsIn x xs ⊎ (IsIn x xs → ⊥)
in_or_not [] x = inr (λ there. elim there [ ])
in_or_not (y ∷ ys) x = elim (cases_eq x y) [
  | inl same ↦ inl (inl same)
  | inr other ↦ elim (in_or_not ys x) [ inl later ↦ inl (inr later) | inr none ↦ inr (λ there. elim there [ inl e ↦ other e | inr later ↦ none later ]) ]
]
