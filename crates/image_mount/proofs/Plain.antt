-- The names that a master directory has.
use Rattle.std.proofs.Common.{◌≡◌, inl, inr, ◌||◌, ◌&&◌, true, false, List, ℕ, refl, sym, ap, ◌∙◌}
use Rattle.std.specs.Prelude.{codes, not}
use Rattle.std.specs.Str.{bytes_eq}
use Rattle.std.proofs.lemmas.Slice.Eq.{bytes_eq-Decides}
use Rattle.std.proofs.lemmas.Bool.{cases_Bool}
use Rattle.gfs2_layout.specs.Records.{Record}
use Rattle.image_mount.specs.Found.{is_other}

-- of the four names, that which is none of the first three
pub last_name : (name : List ℕ) → ((r : Record) → r.name ≡ name → is_other r ≡ false) → (a b c : List ℕ) → a ≡ codes "." → b ≡ codes ".." → c ≡ codes "jindex" → false ≡ bytes_eq name a → false ≡ bytes_eq name b
    → false ≡ bytes_eq name c → codes "rindex" ≡ name
last_name name plain a b c a_is b_is c_is first second third =
    let dot : bytes_eq name (codes ".") ≡ false = ap (bytes_eq name) (sym a_is) ∙ sym first in
    let dots : bytes_eq name (codes "..") ≡ false = ap (bytes_eq name) (sym b_is) ∙ sym second in
    let jindex : bytes_eq name (codes "jindex") ≡ false = ap (bytes_eq name) (sym c_is) ∙ sym third in
    let is : (not (bytes_eq name (codes ".") || bytes_eq name (codes "..")) && not (bytes_eq name (codes "jindex") || bytes_eq name (codes "rindex"))) ≡ false
    = plain (record { name = name; number = 0; address = 0; kind = 0 }) refl in
    elim (cases_Bool (bytes_eq name (codes "rindex"))) [
      | inl same ↦ sym ((bytes_eq-Decides name (codes "rindex")).0 same)
      | inr other ↦
          let none : true ≡ false = sym (λ i. not (dot i || dots i) && not (jindex i || other i)) ∙ is in
          cc
    ]
