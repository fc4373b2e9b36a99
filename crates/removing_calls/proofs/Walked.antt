-- The walk along the path of a call that removes a name.
use Rattle.std.proofs.Common.{◌≡◌, ℕ, zero, suc, ◌+◌, ◌-◌, false, List, [], ◌∷◌, length, slice_get, None, Some, refl, sym, ap, ◌∙◌, subst, arith}
use Rattle.std.proofs.lemmas.List.{length-append}
use Rattle.cluster_history.specs.Changes.{is_ok}
use Rattle.file_tree.specs.Apply.{Refused, apply, walk}
use Rattle.file_tree.specs.Tree.{Tree}
use Rattle.file_tree.specs.declared.call.Call.{Call}
use Rattle.file_tree.specs.declared.reply.Reply.{Reply}
use Rattle.glock_names.specs.Views.{Seen}
use Rattle.call_locks.specs.Wants.{wanted}
use Rattle.call_locks.specs.WantLaws.{path_of}
use Rattle.call_locks.specs.declared.want.Want.{Want}
use Rattle.image_model.specs.Flat.{Path}
use Rattle.image_model.specs.Image.{Image}
use Rattle.image_model.specs.Owners.{Owners}
use Rattle.image_model.specs.Stands.{Layout}
use Rattle.image_model.proofs.Held.{some_same}
use Rattle.path_walks.specs.Holds.{AreHeld, holds_in}
use Rattle.path_walks.specs.Walks.{AreInOrder, IsLastOf}
use Rattle.removing_calls.specs.Removing.{IsRemoving, holds_for}
use Rattle.removing_calls.proofs.Trees.{refused, plain_list}
use Rattle.removing_calls.proofs.Wanted.{wants_are, in_order, as_many}

ends_with : (names : Path) (name : List ℕ) (k : ℕ) → length names ≡ suc k → Some name ≡ slice_get names k → IsLastOf names name
ends_with [] name k long e = absurd (omega (arith, long))
ends_with (n ∷ []) name zero long e = ([], ap (λ x. x ∷ []) (some_same (sym e)))
ends_with (n ∷ []) name (suc k) long e = absurd (omega (arith, long))
ends_with (n ∷ m ∷ ns) name zero long e = absurd (omega (arith, long))
ends_with (n ∷ m ∷ ns) name (suc k) long e = let r = ends_with (m ∷ ns) name k (omega (arith, long)) e in (n ∷ r.0, ap (λ ms. n ∷ ms) r.1)

-- the last of the names is that of the path
pub last_is : (names path : Path) (name : List ℕ) → names ≡ path → Some name ≡ slice_get names (length names - 1) → IsLastOf path name
last_is [] path name same e = cc
last_is (n ∷ ns) path name same e =
    let k : suc (length ns) - 1 ≡ length ns = omega arith in
    subst (λ q. IsLastOf q name) same (ends_with (n ∷ ns) name (length ns) refl (e ∙ ap (slice_get (n ∷ ns)) k))

-- where there is none, it is the root's
pub is_root : (names path : Path) → names ≡ path → None ≡ slice_get names (length names - 1) → path ≡ []
is_root [] path same e = sym same
is_root (n ∷ ns) path same e =
    let k : suc (length ns) - 1 ≡ length ns = omega arith in
    absurd (some_there n ns (e ∙ ap (slice_get (n ∷ ns)) k))
  where
    some_there : (m : List ℕ) (ms : Path) → None ≡ slice_get (m ∷ ms) (length ms) → ⊥
    some_there m [] none = cc
    some_there m (x ∷ ms) none = some_there x ms none

module _ (c : Call) (removing : IsRemoving c) (name : List ℕ) (last : IsLastOf (path_of c false) name) where
  pub many : (names : Path) (wants : List Want) → names ≡ path_of c false → wants ≡ wanted c → length wants ≡ length names + 1
  many names wants same are =
      let n : length names ≡ length last.0 + 1 = ap length (same ∙ last.1) ∙ length-append last.0 (name ∷ []) in
      let w : length wants ≡ length last.0 + 2 = ap length (are ∙ wants_are c name removing last) ∙ as_many (length last.0) in
      omega (arith, n, w)

  pub ordered : (wants : List Want) → wants ≡ wanted c → AreInOrder wants
  ordered wants are = subst AreInOrder (sym (are ∙ wants_are c name removing last)) (in_order (length last.0))

  -- where the walk is refused, the call is
  pub refused_so : (v : Seen) (im : Image) (o : Owners) (l : Layout) (t : Tree) (r : Reply) → is_ok r ≡ false → walk t (path_of c false) ≡ Refused r → AreHeld v (holds_in im o l (path_of c false) (wanted c))
      → ((apply c t).reply ≡ r) × AreHeld v (holds_for im o l t c)
  refused_so v im o l t r not_ok ends held =
      let answer = refused c t name r removing last ends in
      (answer, subst (AreHeld v) (sym (plain_list im o l t c (ap is_ok answer ∙ not_ok))) held)
