-- The order of a directory's records doesn't matter.
use Rattle.std.proofs.Common.{◌≡◌, ℕ, ◌+◌, ◌≤◌, inl, inr, Bool, true, List, [], ◌∷◌, Option, None, Some, refl, sym, ap, ◌∙◌, subst}
use Rattle.std.proofs.lemmas.Bool.{cases_Bool, cond-true, cond-false, both_ways}
use Rattle.std.specs.Option.{option_map}
use Rattle.std.specs.Prelude.{Contains, find, cond, not, ◌&&◌, ◌==◌}
use Rattle.std.specs.Str.{bytes_eq}
use Rattle.std.specs.List.Sorted.{IsPermutation}
use Rattle.std.proofs.lemmas.List.Sorted.{IsPermutation-sym, Contains-permutation, sum_by-IsPermutation, length_permutation}
use Rattle.gfs2_layout.specs.declared.dinode.Dinode.{Dinode}
use Rattle.gfs2_layout.specs.Inode.{Head}
use Rattle.image_model.specs.Owners.{Owners}
use Rattle.gfs2_layout.specs.Records.{Record, is_dots, child_named, record_named}
use Rattle.image_model.specs.Stands.{HasRecord, IsDirectory, name_count}
use Rattle.image_model.proofs.Members.{IsIn, contained, is_in}
use Rattle.image_model.proofs.Counts.{one_passes}
use Rattle.image_model.proofs.Held.{none_some}
use Rattle.image_model.proofs.Reach.{found_in}

module _ (rs ss : List Record) (order : IsPermutation rs ss) where
  there : (r : Record) → Contains rs r → Contains ss r
  there r = Contains-permutation rs ss r order

  back : (r : Record) → Contains ss r → Contains rs r
  back r = Contains-permutation ss rs r (IsPermutation-sym rs ss order)

  has_record : (heads : ℕ → Head) (name : List ℕ) (b : ℕ) → HasRecord heads rs name b → HasRecord heads ss name b
  has_record heads name b has = record { entry = has.entry; there = there has.entry has.there; named = has.named; true_of = has.true_of }

  -- a directory's records in another order are a directory's too
  pub any_order : (heads : ℕ → Head) (owners : Owners) (a : ℕ) (d : Dinode) → IsDirectory heads owners a rs d → IsDirectory heads owners a ss d
  any_order heads owners a d is = record {
    dot = has_record heads _ _ is.dot;
    dots = has_record heads _ _ is.dots;
    once = λ name. subst (λ n. n ≤ 1) (sym (sum_by-IsPermutation (λ r. cond (bytes_eq name r.name) 1 0) rs ss order)) (is.once name);
    down = λ r at. is.down r (back r at);
    entries = is.entries ∙ sym (length_permutation rs ss order);
    links = is.links ∙ ap (λ n. 2 + n) (sym (sum_by-IsPermutation (λ r. cond (not (is_dots r.name) && r.kind == 4) 1 0) rs ss order));
  }

-- what isn't found isn't there
not_found : {X : Type 0} (test : X → Bool) (x : X) (xs : List X) → find test xs ≡ None → IsIn x xs → test x ≡ true → ⊥
not_found test x [] none h e = h
not_found test x (y ∷ ys) none h e = elim (cases_Bool (test y)) [
  | inl so ↦ none_some (sym none ∙ cond-true _ (Some y) (find test ys) so)
  | inr non ↦ elim h [
    | inl s ↦ both_ways _ non (ap test (sym s) ∙ e)
    | inr g ↦ not_found test x ys (sym (cond-false _ (Some y) (find test ys) non) ∙ none) g e
  ]
]

-- a name leads to the same block
pub child_any_order : (rs ss : List Record) → IsPermutation rs ss → ((name : List ℕ) → name_count rs name ≤ 1) → (name : List ℕ) → child_named rs name ≡ child_named ss name
child_any_order rs ss order once name = ap (option_map (λ (r : Record). r.address)) (each (record_named rs name) (record_named ss name) refl refl)
  where
    each : (o p : Option Record) → record_named rs name ≡ o → record_named ss name ≡ p → o ≡ p
    each None None e f = refl
    each None (Some s) e f =
        let at = found_in (λ (r : Record). bytes_eq name r.name) s ss f in
        absurd (not_found (λ (r : Record). bytes_eq name r.name) s rs e (is_in s rs (back rs ss order s (contained s ss at.0))) at.1)
    each (Some r) None e f =
        let at = found_in (λ (s : Record). bytes_eq name s.name) r rs e in
        absurd (not_found (λ (s : Record). bytes_eq name s.name) r ss f (is_in r ss (there rs ss order r (contained r rs at.0))) at.1)
    each (Some r) (Some s) e f =
        let at = found_in (λ (t : Record). bytes_eq name t.name) r rs e in
        let at' = found_in (λ (t : Record). bytes_eq name t.name) s ss f in
        ap Some (one_passes (λ (t : Record). bytes_eq name t.name) r s rs (once name) at.0 (is_in s rs (back rs ss order s (contained s ss at'.0))) at.1 at'.1)
