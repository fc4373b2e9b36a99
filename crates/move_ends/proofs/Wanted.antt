-- The locks that a call which moves a name wants on its two paths.
use Rattle.std.proofs.Common.{◌≡◌, ◌≢◌, ℕ, zero, suc, ◌+◌, ◌≤◌, Bool, true, false, List, [], ◌∷◌, ◌++◌, length, take, drop, refl, sym, ap, ◌∙◌, arith}
use Rattle.std.proofs.lemmas.List.{drop_at, length-append}
use Rattle.file_tree.specs.Names.{last_of, parent_of}
use Rattle.file_tree.specs.declared.call.Call.{Call}
use Rattle.file_tree.specs.declared.call.Call.TheVariants as call
use Rattle.glock_names.specs.declared.State.TheVariants.{Sh, Ex}
use Rattle.call_locks.specs.Wants.{at_move, at_old_name, shared_above, want, wanted, way_to}
use Rattle.call_locks.specs.declared.want.Want.{Want}
use Rattle.image_model.specs.Flat.{Path}
use Rattle.pair_walks.specs.OnePath.{AreInOrder}
use Rattle.pair_walks.proofs.Wants.{AreFrom, push}
use Rattle.pair_walks.proofs.Paths.{ends_so}
use Rattle.move_ends.specs.Ends.{IsRenaming, first_wants, from_path, second_wants, to_path}

moves : (p q : Path) → p ≢ [] → q ≢ [] → at_move p q ≡ at_old_name false p ++ at_old_name true q
moves [] q some some' = absurd (some refl)
moves (n ∷ ns) [] some some' = absurd (some' refl)
moves (n ∷ ns) (m ∷ ms) some some' = refl

pub wants_are : (c : Call) → IsRenaming c → from_path c ≢ [] → to_path c ≢ [] → wanted c ≡ first_wants c ++ second_wants c
wants_are (call.Rename p q) is some some' = moves p q some some'
wants_are (call.Create p) is some some' = absurd is
wants_are (call.Mkdir p) is some some' = absurd is
wants_are (call.Unlink p) is some some' = absurd is
wants_are (call.Rmdir p) is some some' = absurd is
wants_are (call.Read p at count) is some some' = absurd is
wants_are (call.Dread p at count) is some some' = absurd is
wants_are (call.Write p at new) is some some' = absurd is
wants_are (call.Truncate p size) is some some' = absurd is
wants_are (call.Stat p) is some some' = absurd is
wants_are (call.List p) is some some' = absurd is
wants_are call.Sync is some some' = absurd is

-- ---- those of one path

shared_from : (second : Bool) (n : ℕ) → AreFrom 0 (shared_above second n) × (length (shared_above second n) ≡ n)
shared_from second zero = ((λ i w at. cc), refl)
shared_from second (suc n) =
    let before = shared_from second n in
    (push 0 (shared_above second n) (want second n Sh) before.0 (omega (arith, before.1)), length-append (shared_above second n) (want second n Sh ∷ []) ∙ omega (arith, before.1))

way_from : (second : Bool) (n : ℕ) → AreFrom 0 (way_to second n Ex) × (length (way_to second n Ex) ≡ n + 1)
way_from second n =
    let before = shared_from second n in
    (push 0 (shared_above second n) (want second n Ex) before.0 (omega (arith, before.1)), length-append (shared_above second n) (want second n Ex ∷ []) ∙ omega (arith, before.1))

whole : (n : List ℕ) (ns : Path) → length (n ∷ ns) ≡ length (parent_of (n ∷ ns)) + 1
whole n ns = ap length (ends_so (n ∷ ns) (λ e. cc)) ∙ length-append (parent_of (n ∷ ns)) (last_of (n ∷ ns) ∷ [])

pub many : (second : Bool) (path : Path) → path ≢ [] → length (at_old_name second path) ≡ length path + 1
many second [] some = absurd (some refl)
many second (n ∷ ns) some =
    let up = way_from second (length (parent_of (n ∷ ns))) in
    length-append (way_to second (length (parent_of (n ∷ ns))) Ex) (want second (length (n ∷ ns)) Ex ∷ []) ∙ omega (arith, up.1, whole n ns)

pub in_order : (second : Bool) (path : Path) → AreInOrder (at_old_name second path)
in_order second [] i w at = cc
in_order second (n ∷ ns) i w at =
    let up = way_from second (length (parent_of (n ∷ ns))) in
    omega (arith, push 0 (way_to second (length (parent_of (n ∷ ns))) Ex) (want second (length (n ∷ ns)) Ex) up.0 (omega (arith, up.1, whole n ns)) i w at)

-- ---- both, cut where the first ones end

take_front : (xs ys : List Want) → take (length xs) (xs ++ ys) ≡ xs
take_front [] ys = refl
take_front (x ∷ xs) ys = ap (λ zs. x ∷ zs) (take_front xs ys)

module _ (c : Call) (is : IsRenaming c) (some : from_path c ≢ []) (some' : to_path c ≢ []) (wants : List Want) (are : wants ≡ wanted c) where
  all : wants ≡ first_wants c ++ second_wants c
  all = are ∙ wants_are c is some some'

  pub long : length (from_path c) + 1 ≤ length wants
  long = omega (arith, many false (from_path c) some, ap length all, length-append (first_wants c) (second_wants c))

  pub first_is : take (length (from_path c) + 1) wants ≡ first_wants c
  first_is = ap (λ k. take k wants) (sym (many false (from_path c) some)) ∙ ap (take (length (first_wants c))) all ∙ take_front (first_wants c) (second_wants c)

  pub second_is : drop (length (from_path c) + 1) wants ≡ second_wants c
  second_is = ap (drop (length (from_path c) + 1)) all ∙ drop_at (first_wants c) (second_wants c) (length (from_path c) + 1) (many false (from_path c) some)
