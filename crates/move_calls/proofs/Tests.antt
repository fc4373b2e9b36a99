-- Which groups pass the test for a number and blocks, and what the list of them is.
use Rattle.std.proofs.Common.{◌≡◌, ◌≤◌, ◌+◌, ◌||◌, ◌&&◌, inl, inr, ℕ, Bool, true, false, true≢false, List, [], ◌∷◌, length, Option, None, Some, take, refl, sym, ap, ◌∙◌, subst, arith}
use Rattle.std.proofs.lemmas.Bool.{cases_Bool, cases_lt, cond-true, cond-false, eq-eqb, eqb-true, le-ltb, lt-ltb}
use Rattle.std.specs.Prelude.{Contains, filter, nat_lt, not}
use Rattle.std.specs.List.{list_any}
use Rattle.glock_names.specs.Views.{Seen, HasGroup, Rise, end_of}
use Rattle.glock_names.specs.declared.views.Group.{Group}
use Rattle.resource_groups.specs.Shown.{IsDataOf}
use Rattle.image_model.proofs.Members.{IsIn, contained, from_filter, is_in}
use Rattle.name_moves.specs.Groups.{IsOneOrHas}
use Rattle.move_calls.specs.Firsts.{is_data_block, is_number, is_one_or_has}

or_right : (x y : Bool) → y ≡ true → (x || y) ≡ true
or_right true y is = refl
or_right false y is = is

-- ---- some of a list

any_in : (test : ℕ → Bool) (xs : List ℕ) → list_any test xs ≡ true → (b : ℕ) × IsIn b xs × (test b ≡ true)
any_in test [] e = absurd (true≢false (sym e))
any_in test (x ∷ xs) e = elim (cases_Bool (test x)) [
  | inl here ↦ (x, inl refl, here)
  | inr away ↦ let later = any_in test xs (sym (ap (λ y. y || list_any test xs) away) ∙ e) in (later.0, inr later.1, later.2)
]

in_any : (test : ℕ → Bool) (xs : List ℕ) (b : ℕ) → IsIn b xs → test b ≡ true → list_any test xs ≡ true
in_any test [] b at e = elim at [ ]
in_any test (x ∷ xs) b (inl same) e = ap (λ y. y || list_any test xs) (ap test (sym same) ∙ e)
in_any test (x ∷ xs) b (inr later) e = or_right (test x) (list_any test xs) (in_any test xs b later e)

-- ---- the test

data_so : (g : Group) (b : ℕ) → is_data_block g b ≡ true → IsDataOf g b
data_so g b is = elim (cases_lt b g.first) [
  | inl before ↦ absurd (true≢false (sym is ∙ ap (λ x. not x && nat_lt b (g.first + g.count)) (lt-ltb b g.first before)))
  | inr low ↦ elim (cases_lt b (g.first + g.count)) [
    | inl high ↦ record { low = low; high = high }
    | inr behind ↦ absurd (true≢false (sym is ∙ ap (λ x. not x && nat_lt b (g.first + g.count)) (le-ltb b g.first low) ∙ le-ltb b (g.first + g.count) behind))
  ]
]

so_data : (g : Group) (b : ℕ) → IsDataOf g b → is_data_block g b ≡ true
so_data g b is = ap (λ x. not x && nat_lt b (g.first + g.count)) (le-ltb b g.first is.low) ∙ lt-ltb b (g.first + g.count) is.high

number_so : (number : Option ℕ) (n : ℕ) → is_number number n ≡ true → number ≡ Some n
number_so None n is = absurd (true≢false (sym is))
number_so (Some k) n is = ap Some (eqb-true k n is)

pub passes_so : (number : Option ℕ) (blocks : List ℕ) (g : Group) → is_one_or_has number blocks g ≡ true → IsOneOrHas number blocks g
passes_so number blocks g is = elim (cases_Bool (is_number number g.addr)) [
  | inl one ↦ inl (number_so number g.addr one)
  | inr other ↦
      let has = any_in (is_data_block g) blocks (sym (ap (λ x. x || list_any (is_data_block g) blocks) other) ∙ is) in
      inr (has.0, contained has.0 blocks has.1, data_so g has.0 has.2)
]

pub so_passes : (number : Option ℕ) (blocks : List ℕ) (g : Group) → IsOneOrHas number blocks g → is_one_or_has number blocks g ≡ true
so_passes number blocks g (inl is) =
    ap (λ x. x || list_any (is_data_block g) blocks) (ap (λ k. is_number k g.addr) is ∙ eq-eqb g.addr g.addr refl)
so_passes number blocks g (inr has) = or_right (is_number number g.addr) (list_any (is_data_block g) blocks) (in_any (is_data_block g) blocks has.0 (is_in has.0 blocks has.1) (so_data g has.0 has.2))

-- what isn't such a one fails it
pub fails_so : (number : Option ℕ) (blocks : List ℕ) (g : Group) → (IsOneOrHas number blocks g → ⊥) → is_one_or_has number blocks g ≡ false
fails_so number blocks g other = elim (cases_Bool (is_one_or_has number blocks g)) [ inl is ↦ absurd (other (passes_so number blocks g is)) | inr is ↦ is ]

-- ---- the list

pub none_yet : (test : Group → Bool) (gs : List Group) → filter test (take 0 gs) ≡ []
none_yet test [] = refl
none_yet test (g ∷ gs) = refl

pub fewer_pass : (test : Group → Bool) (gs : List Group) → length (filter test gs) ≤ length gs
fewer_pass test [] = omega arith
fewer_pass test (g ∷ gs) = let later = fewer_pass test gs in elim (cases_Bool (test g)) [
  | inl is ↦ let long = ap length (cond-true (test g) (g ∷ filter test gs) (filter test gs) is) in omega (arith, later, long)
  | inr is ↦ let long = ap length (cond-false (test g) (g ∷ filter test gs) (filter test gs) is) in omega (arith, later, long)
]

pub passing_are_of : (v : Seen) (test : Group → Bool) (g : Group) → Contains (filter test v.groups) g → HasGroup v g
passing_are_of v test g has = contained g v.groups (from_filter test g v.groups (is_in g (filter test v.groups) has)).0

rise_later : (size least later : ℕ) (gs : List Group) → least ≤ later → Rise size later gs → Rise size least gs
rise_later size least later [] low rise = tt
rise_later size least later (g ∷ gs) low rise = (rise.0, omega (arith, low, rise.1), rise.2)

pub passing_rise : (test : Group → Bool) (size least : ℕ) (gs : List Group) → Rise size least gs → Rise size least (filter test gs)
passing_rise test size least [] rise = tt
passing_rise test size least (g ∷ gs) rise = let rest = passing_rise test size (end_of g) gs rise.2 in elim (cases_Bool (test g)) [
  | inl is ↦ subst (Rise size least) (sym (cond-true (test g) (g ∷ filter test gs) (filter test gs) is)) (rise.0, rise.1, rest)
  | inr is ↦
      subst (Rise size least) (sym (cond-false (test g) (g ∷ filter test gs) (filter test gs) is))
      (rise_later size least (end_of g) (filter test gs) (omega (arith, rise.1, rise.0.first)) rest)
]
