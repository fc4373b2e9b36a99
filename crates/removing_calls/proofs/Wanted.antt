-- The locks that a call which removes a name wants on its path.
use Rattle.std.proofs.Common.{◌≡◌, ℕ, ◌+◌, false, List, [], ◌∷◌, ◌++◌, length, slice_get, ap, ◌∙◌, arith}
use Rattle.std.proofs.lemmas.List.{length-append}
use Rattle.file_tree.specs.Names.{parent_of}
use Rattle.file_tree.specs.declared.call.Call.{Call}
use Rattle.file_tree.specs.declared.call.Call.TheVariants as call
use Rattle.glock_names.specs.Views.{Seen}
use Rattle.glock_names.specs.declared.State.TheVariants.{Ex}
use Rattle.call_locks.specs.declared.want.Want.{Want}
use Rattle.call_locks.specs.Wants.{want, shared_above, way_to, at_old_name, wanted}
use Rattle.call_locks.specs.WantLaws.{path_of}
use Rattle.image_model.specs.Flat.{Path}
use Rattle.path_walks.specs.Walks.{AreInOrder, LeadsTo, IsLastOf}
use Rattle.path_walks.proofs.Lists.{parent_of_next}
use Rattle.removing_calls.specs.Removing.{IsRemoving}
use Rattle.path_walks.proofs.Wants.{push, shared_from, way_from, at_end, before_end, leads_held, exclusive}

-- the wants of such a call: the ancestors, the directory above, and the inode
abbrev pub wants_of : ℕ → List Want
wants_of n = way_to false n Ex ++ want false (n + 1) Ex ∷ []

old_name : (path front : Path) (name : List ℕ) → path ≡ front ++ name ∷ [] → at_old_name false path ≡ wants_of (length front)
old_name [] [] name e = cc
old_name [] (x ∷ front) name e = cc
old_name (n ∷ ns) front name e =
    let depth : length (parent_of (n ∷ ns)) ≡ length front = ap (λ p. length (parent_of p)) e ∙ ap length (parent_of_next front name) in
    let all : length (n ∷ ns) ≡ length front + 1 = ap length e ∙ length-append front (name ∷ []) in
    ap (λ k. way_to false k Ex ++ want false (length (n ∷ ns)) Ex ∷ []) depth ∙ ap (λ k. way_to false (length front) Ex ++ want false k Ex ∷ []) all

pub wants_are : (c : Call) (name : List ℕ) → IsRemoving c → (last : IsLastOf (path_of c false) name) → wanted c ≡ wants_of (length last.0)
wants_are (call.Unlink p) name is last = old_name p last.0 name last.1
wants_are (call.Rmdir p) name is last = old_name p last.0 name last.1
wants_are (call.Create p) name is last = absurd is
wants_are (call.Mkdir p) name is last = absurd is
wants_are (call.Read p at count) name is last = absurd is
wants_are (call.Dread p at count) name is last = absurd is
wants_are (call.Write p at new) name is last = absurd is
wants_are (call.Truncate p size) name is last = absurd is
wants_are (call.Stat p) name is last = absurd is
wants_are (call.List p) name is last = absurd is
wants_are (call.Rename p q) name is last = absurd is
wants_are call.Sync name is last = absurd is

pub in_order : (n : ℕ) → AreInOrder (wants_of n)
in_order n i w at = let before = way_from n in omega (arith, push 0 (way_to false n Ex) (want false (n + 1) Ex) before.0 (omega (arith, before.1)) i w at)

pub as_many : (n : ℕ) → length (wants_of n) ≡ n + 2
as_many n = length-append (way_to false n Ex) (want false (n + 1) Ex ∷ []) ∙ omega (arith, (way_from n).1)

pub inode_held : (v : Seen) (c : Call) (name : List ℕ) (a : ℕ) → IsRemoving c → (last : IsLastOf (path_of c false) name) → LeadsTo v (wanted c) (path_of c false) a → v.state_of (record { kind = 2; number = a }) ≡ Ex
inode_held v c name a is last leads =
    let n = length last.0 in
    let depth : length (path_of c false) ≡ n + 1 = ap length last.1 ∙ length-append last.0 (name ∷ []) in
    exclusive (v.state_of (record { kind = 2; number = a })) (leads_held v (wanted c) (path_of c false) a leads (want false (n + 1) Ex)
    (ap (λ ws. slice_get ws (length (path_of c false))) (wants_are c name is last) ∙ ap (slice_get (wants_of n)) depth ∙ at_end (way_to false n Ex) (want false (n + 1) Ex) (n + 1) (way_from n).1))

pub above_held : (v : Seen) (c : Call) (name : List ℕ) (a : ℕ) → IsRemoving c → (last : IsLastOf (path_of c false) name) → LeadsTo v (wanted c) (parent_of (path_of c false)) a → v.state_of (record { kind = 2; number = a }) ≡ Ex
above_held v c name a is last leads =
    let n = length last.0 in
    let depth : length (parent_of (path_of c false)) ≡ n = ap (λ p. length (parent_of p)) last.1 ∙ ap length (parent_of_next last.0 name) in
    exclusive (v.state_of (record { kind = 2; number = a })) (leads_held v (wanted c) (parent_of (path_of c false)) a leads (want false n Ex)
    (ap (λ ws. slice_get ws (length (parent_of (path_of c false)))) (wants_are c name is last) ∙ ap (slice_get (wants_of n)) depth
    ∙ before_end (shared_above false n) (want false n Ex) (want false (n + 1) Ex) n (shared_from n).1))
