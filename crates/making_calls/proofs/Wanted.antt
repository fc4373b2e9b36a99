-- The locks that a call which makes a name wants on its directory's path.
use Rattle.std.proofs.Common.{◌≡◌, ℕ, ◌+◌, false, List, [], ◌∷◌, ◌++◌, length, slice_get, refl, ap, ◌∙◌, arith}
use Rattle.std.proofs.lemmas.List.{length-append}
use Rattle.file_tree.specs.Names.{parent_of}
use Rattle.file_tree.specs.declared.call.Call.{Call}
use Rattle.file_tree.specs.declared.call.Call.TheVariants as call
use Rattle.glock_names.specs.Views.{Seen}
use Rattle.glock_names.specs.declared.State.TheVariants.{Ex}
use Rattle.call_locks.specs.Wants.{want, shared_above, way_to, at_new_name, wanted}
use Rattle.call_locks.specs.WantLaws.{path_of}
use Rattle.image_model.specs.Flat.{Path}
use Rattle.name_drafts.specs.Walks.{AreInOrder, LeadsTo, IsLastOf}
use Rattle.making_calls.specs.Making.{IsMaking, directory_path}
use Rattle.name_drafts.proofs.Wants.{push, shared_from, at_end, leads_held, exclusive}

new_name : (path front : Path) (name : List ℕ) → path ≡ front ++ name ∷ [] → at_new_name path ≡ way_to false (length (parent_of path)) Ex
new_name [] [] name e = cc
new_name [] (x ∷ front) name e = cc
new_name (n ∷ ns) front name e = refl

pub wants_are : (c : Call) (name : List ℕ) → IsMaking c → IsLastOf (path_of c false) name → wanted c ≡ way_to false (length (directory_path c)) Ex
wants_are (call.Create p) name is last = new_name p last.0 name last.1
wants_are (call.Mkdir p) name is last = new_name p last.0 name last.1
wants_are (call.Unlink p) name is last = absurd is
wants_are (call.Rmdir p) name is last = absurd is
wants_are (call.Read p at count) name is last = absurd is
wants_are (call.Dread p at count) name is last = absurd is
wants_are (call.Write p at new) name is last = absurd is
wants_are (call.Truncate p size) name is last = absurd is
wants_are (call.Stat p) name is last = absurd is
wants_are (call.List p) name is last = absurd is
wants_are (call.Rename p q) name is last = absurd is
wants_are call.Sync name is last = absurd is

pub in_order : (n : ℕ) → AreInOrder (way_to false n Ex)
in_order n i w at = let before = shared_from n in omega (arith, push 0 (shared_above false n) (want false n Ex) before.0 (omega (arith, before.1)) i w at)

pub as_many : (n : ℕ) → length (way_to false n Ex) ≡ n + 1
as_many n = length-append (shared_above false n) (want false n Ex ∷ []) ∙ omega (arith, (shared_from n).1)

pub directory_held : (v : Seen) (c : Call) (name : List ℕ) (a : ℕ) → IsMaking c → IsLastOf (path_of c false) name → LeadsTo v (wanted c) (directory_path c) a → v.state_of (record { kind = 2; number = a }) ≡ Ex
directory_held v c name a is last leads =
    let n = length (directory_path c) in
    exclusive (v.state_of (record { kind = 2; number = a })) (leads_held v (wanted c) (directory_path c) a leads (want false n Ex)
    (ap (λ ws. slice_get ws n) (wants_are c name is last) ∙ at_end (shared_above false n) (want false n Ex) n (shared_from n).1))
