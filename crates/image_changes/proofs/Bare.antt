-- Directories without a name.
use Rattle.std.proofs.Common.{◌≡◌, ◌≢◌, ℕ, ◌+◌, ◌≤◌, inl, inr, Bool, true, false, List, [], ◌∷◌, length, None, refl, sym, ap, ◌∙◌, subst, arith, cond}
use Rattle.std.specs.Prelude.{codes, Contains, not, ◌&&◌, ◌==◌}
use Rattle.std.specs.Str.{bytes_eq}
use Rattle.std.proofs.lemmas.Bool.{cases_Bool, cond-true, cond-false, or_parts, true≢false}
use Rattle.std.proofs.lemmas.Slice.Eq.{bytes_eq-Decides}
use Rattle.std.proofs.lemmas.List.Sorted.{IsPermutation-sym, Contains-permutation, length_permutation}
use Rattle.std.proofs.lemmas.List.Sums.{sum_by-cons}
use Rattle.gfs2_layout.specs.declared.dinode.Dinode.{Dinode}
use Rattle.gfs2_layout.specs.Exchanges.{directory_count}
use Rattle.gfs2_layout.specs.Inode.{Head}
use Rattle.gfs2_layout.specs.Records.{Record, is_dots, child_named}
use Rattle.image_model.specs.Owners.{Owners, Named, parent_of}
use Rattle.image_model.specs.Stands.{HasRecord, IsDirectory, name_count}
use Rattle.image_model.proofs.Members.{IsIn, contained, is_in}
use Rattle.image_changes.specs.Directories.{IsBare}
use Rattle.image_changes.proofs.Directories.{Lacks, named_other, names_cons, names_any_order, lacks_child, directories_any_order}

-- a name that is neither `.` nor `..`
pub not_dots : (name : List ℕ) → is_dots name ≡ false → (name ≢ codes ".") × (name ≢ codes "..")
not_dots name plain =
    let h = or_parts (bytes_eq name (codes ".")) (bytes_eq name (codes "..")) plain in
    ((λ e. true≢false (sym ((bytes_eq-Decides name (codes ".")).1 e) ∙ h.0)), (λ e. true≢false (sym ((bytes_eq-Decides name (codes "..")).1 e) ∙ h.1)))

-- `.` and `..` are not counted as directories
no_directory : (r : Record) (rs : List Record) → is_dots r.name ≡ true → directory_count (r ∷ rs) ≡ directory_count rs
no_directory r rs dots =
    let one : ℕ = cond (not (is_dots r.name) && r.kind == 4) 1 0 in
    let here : one ≡ 0 = ap (λ b. cond (not b && r.kind == 4) 1 0) dots in
    omega (arith, sum_by-cons (λ s. cond (not (is_dots s.name) && s.kind == 4) 1 0) r rs, here)

pub dots_differ : codes "." ≡ codes ".." → ⊥
dots_differ e = absurd (omega (arith, ap length e))

module _ (heads : ℕ → Head) (a parent : ℕ) (records : List Record) (d : Dinode) (bare : IsBare heads a parent records d) where
  abbrev two : List Record
  two = bare.dot ∷ (bare.dots ∷ [])

  counted : (name : List ℕ) → name_count records name ≡ cond (bytes_eq name bare.dot.name) 1 0 + (cond (bytes_eq name bare.dots.name) 1 0 + 0)
  counted name = names_any_order records two name bare.are ∙ names_cons bare.dot (bare.dots ∷ []) name ∙ ap (λ n. cond (bytes_eq name bare.dot.name) 1 0 + n) (names_cons bare.dots [] name)

  pub bare_lacks : (name : List ℕ) → is_dots name ≡ false → Lacks records name
  bare_lacks name plain =
      let h = not_dots name plain in
      omega (
        arith,
        counted name,
        cond-false {A = ℕ} (bytes_eq name bare.dot.name) 1 0 (named_other name bare.dot.name (λ e. h.0 (e ∙ bare.dot_is.0))),
        cond-false {A = ℕ} (bytes_eq name bare.dots.name) 1 0 (named_other name bare.dots.name (λ e. h.1 (e ∙ bare.dots_is.0))),
      )

  apart : (name : List ℕ) → bytes_eq name bare.dot.name ≡ true → bytes_eq name bare.dots.name ≡ true → ⊥
  apart name e f = dots_differ (sym bare.dot_is.0 ∙ sym ((bytes_eq-Decides name bare.dot.name).0 e) ∙ (bytes_eq-Decides name bare.dots.name).0 f ∙ bare.dots_is.0)

  once : (name : List ℕ) → name_count records name ≤ 1
  once name = elim (cases_Bool (bytes_eq name bare.dot.name)) [
    | inr non ↦ omega (arith, counted name, cond-false {A = ℕ} (bytes_eq name bare.dot.name) 1 0 non, at_most (bytes_eq name bare.dots.name))
    | inl so ↦ elim (cases_Bool (bytes_eq name bare.dots.name)) [
      | inl too ↦ absurd (apart name so too)
      | inr non ↦ omega (arith, counted name, cond-true {A = ℕ} (bytes_eq name bare.dot.name) 1 0 so, cond-false {A = ℕ} (bytes_eq name bare.dots.name) 1 0 non)
    ]
  ]
    where
      at_most : (b : Bool) → cond b 1 0 ≤ 1
      at_most true = omega arith
      at_most false = omega arith

  there : (r : Record) → IsIn r two → Contains records r
  there r at = Contains-permutation two records r (IsPermutation-sym records two bare.are) (contained r two at)

  only_dots : (r : Record) → Contains records r → is_dots r.name ≡ true
  only_dots r at = each (is_in r two (Contains-permutation records two r bare.are at))
    where
      each : IsIn r two → is_dots r.name ≡ true
      each (inl e) = ap (λ (s : Record). is_dots s.name) e ∙ ap is_dots bare.dot_is.0
      each (inr (inl e)) = ap (λ (s : Record). is_dots s.name) e ∙ ap is_dots bare.dots_is.0
      each (inr (inr h)) = elim h [ ]

  pub bare_directory : (o : Owners) (name : List ℕ) → o a ≡ Named parent name → IsDirectory heads o a records d
  bare_directory o name row = record {
    dot = record { entry = bare.dot; there = there bare.dot (inl refl); named = bare.dot_is.0; true_of = bare.dot_is.1 };
    dots = subst (λ x. HasRecord heads records (codes "..") (parent_of a x)) (sym row)
        (record { entry = bare.dots; there = there bare.dots (inr (inl refl)); named = bare.dots_is.0; true_of = bare.dots_is.1 });
    once = once;
    down = λ r at plain. absurd (true≢false (sym (only_dots r at) ∙ plain));
    entries = bare.entries ∙ length_permutation records two bare.are;
    links = bare.links ∙ ap (λ n. 2 + n) (sym (directories_any_order records two bare.are ∙ none));
  }
    where
      none : directory_count two ≡ 0
      none = no_directory bare.dot (bare.dots ∷ []) (ap is_dots bare.dot_is.0) ∙ no_directory bare.dots [] (ap is_dots bare.dots_is.0)

-- a directory of two entries names nothing: they are `.` and `..`
dots_lack : (r : Record) (name : List ℕ) → is_dots name ≡ false → is_dots r.name ≡ true → bytes_eq name r.name ≡ false
dots_lack r name plain dots = named_other name r.name (λ e. true≢false (sym dots ∙ ap is_dots (sym e) ∙ plain))

pub names_nothing : (heads : ℕ → Head) (o : Owners) (a : ℕ) (records : List Record) (d : Dinode) → IsDirectory heads o a records d → d.entries ≡ 2
    → (name : List ℕ) → is_dots name ≡ false → child_named records name ≡ None
names_nothing heads o a records d is two name plain = lacks_child records name (each records is.dot is.dots (sym is.entries ∙ two))
  where
    pair : (x y : Record) → HasRecord heads (x ∷ (y ∷ [])) (codes ".") a → HasRecord heads (x ∷ (y ∷ [])) (codes "..") (parent_of a (o a)) → (is_dots x.name ≡ true) × (is_dots y.name ≡ true)
    pair x y dot dots = both (is_in dot.entry (x ∷ (y ∷ [])) dot.there) (is_in dots.entry (x ∷ (y ∷ [])) dots.there)
      where
        dot_name : (z : Record) → dot.entry ≡ z → z.name ≡ codes "."
        dot_name z e = ap (λ (r : Record). r.name) (sym e) ∙ dot.named

        dots_name : (z : Record) → dots.entry ≡ z → z.name ≡ codes ".."
        dots_name z e = ap (λ (r : Record). r.name) (sym e) ∙ dots.named

        both : IsIn dot.entry (x ∷ (y ∷ [])) → IsIn dots.entry (x ∷ (y ∷ [])) → (is_dots x.name ≡ true) × (is_dots y.name ≡ true)
        both (inl e) (inl f) = absurd (dots_differ (sym (dot_name x e) ∙ dots_name x f))
        both (inl e) (inr (inl f)) = (ap is_dots (dot_name x e), ap is_dots (dots_name y f))
        both (inl e) (inr (inr h)) = elim h [ ]
        both (inr (inl e)) (inl f) = (ap is_dots (dots_name x f), ap is_dots (dot_name y e))
        both (inr (inl e)) (inr (inl f)) = absurd (dots_differ (sym (dot_name y e) ∙ dots_name y f))
        both (inr (inl e)) (inr (inr h)) = elim h [ ]
        both (inr (inr h)) k = elim h [ ]

    each : (rs : List Record) → HasRecord heads rs (codes ".") a → HasRecord heads rs (codes "..") (parent_of a (o a)) → length rs ≡ 2 → Lacks rs name
    each [] dot dots e = refl
    each (x ∷ []) dot dots e = absurd (omega (arith, e))
    each (x ∷ (y ∷ (z ∷ zs))) dot dots e = absurd (omega (arith, e))
    each (x ∷ (y ∷ [])) dot dots e =
        let are = pair x y dot dots in
        omega (
          arith,
          names_cons x (y ∷ []) name,
          names_cons y [] name,
          cond-false {A = ℕ} (bytes_eq name x.name) 1 0 (dots_lack x name plain are.0),
          cond-false {A = ℕ} (bytes_eq name y.name) 1 0 (dots_lack y name plain are.1),
        )
