-- Look-ups in lists and in drafts.
use Rattle.std.proofs.Common.{◌≡◌, ◌≢◌, ℕ, Bool, true, false, List, [], ◌∷◌, Some, refl, sym, ap, ◌∙◌}
use Rattle.std.specs.Prelude.{if◌then◌else◌}
use Rattle.std.specs.Cmp.{nat_cmp_total}
use Rattle.std.specs.FinMap.{FinMap, get, insert, nat_cmp-IsAntisymmetric}
use Rattle.std.specs.List.{find}
use Rattle.std.specs.Ordering.{nat_cmp}
use Rattle.std.specs.Str.{bytes_eq}
use Rattle.std.proofs.lemmas.Slice.Eq.{bytes_eq-Decides}
use Rattle.finite_maps.proofs.Keys.{inserted_at, inserted_apart}
use Rattle.drafts.specs.declared.fate.Fate.{Fate}
use Rattle.gfs2_layout.specs.Records.{Record, record_named}
use Rattle.image_model.proofs.Held.{none_some, some_same}

-- the element that is found is so
pub found_so : {X : Type 0} (test : X → Bool) (xs : List X) (x : X) → find test xs ≡ Some x → test x ≡ true
found_so test [] x e = absurd (none_some e)
found_so test (y ∷ ys) x e = by (test y) (found_so test ys x) refl e
  where
    by : (b : Bool) → (find test ys ≡ Some x → test x ≡ true) → test y ≡ b → (if b then Some y else find test ys) ≡ Some x → test x ≡ true
    by true later is e = ap test (sym (some_same e)) ∙ is
    by false later is e = later e

-- the record of a name has it
pub named_so : (records : List Record) (name : List ℕ) (r : Record) → record_named records name ≡ Some r → r.name ≡ name
named_so records name r e = sym ((bytes_eq-Decides name r.name).0 (found_so (λ (x : Record). bytes_eq name x.name) records r e))

-- what becomes of a block in a draft in which another, or the same, was put
pub put_at : (fates : FinMap nat_cmp Fate) (b : ℕ) (fate : Fate) → get (insert fates b fate) b ≡ Some fate
put_at fates b fate = inserted_at nat_cmp_total nat_cmp-IsAntisymmetric fates b fate

pub put_apart : (fates : FinMap nat_cmp Fate) (b c : ℕ) (fate : Fate) → c ≢ b → get (insert fates b fate) c ≡ get fates c
put_apart fates b c fate other = inserted_apart nat_cmp_total nat_cmp-IsAntisymmetric fates b fate c other
