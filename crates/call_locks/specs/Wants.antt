-- The locks that a call takes on its paths.
use Rattle.std.specs.Prelude.{ℕ, zero, suc, Bool, true, false, List, [], ◌∷◌, ◌++◌, length}
use Rattle.file_tree.specs.Names.{parent_of}
use Rattle.file_tree.specs.declared.call.Call.{Call}
use Rattle.file_tree.specs.declared.call.Call.TheVariants as call
use Rattle.glock_names.specs.declared.State.{State}
use Rattle.glock_names.specs.declared.State.TheVariants.{Sh, Df, Ex}
use Rattle.call_locks.specs.declared.want.Want.{Want}

-- of the first or the second path the inode at this depth, in this state
abbrev pub want : Bool → ℕ → State → Want
want second depth state = record { second = second; depth = depth; state = state }

-- the inodes above a depth, shared, from the root down
abbrev pub shared_above : Bool → ℕ → List Want
shared_above second zero = []
shared_above second (suc depth) = shared_above second depth ++ want second depth Sh ∷ []

-- the inode at a depth in this state, behind its ancestors
abbrev pub way_to : Bool → ℕ → State → List Want
way_to second depth state = shared_above second depth ++ want second depth state ∷ []

-- where a name is made: the directory that gets it, exclusive. The root has no name
abbrev pub at_new_name : List (List ℕ) → List Want
at_new_name [] = []
at_new_name (n ∷ ns) = way_to false (length (parent_of (n ∷ ns))) Ex

-- where a name goes: its directory, and the inode that it stands for, both exclusive
abbrev pub at_old_name : Bool → List (List ℕ) → List Want
at_old_name second [] = []
at_old_name second (n ∷ ns) = way_to second (length (parent_of (n ∷ ns))) Ex ++ want second (length (n ∷ ns)) Ex ∷ []

-- where a name moves: both names with their directories. That of the second path may be there, and goes then
abbrev pub at_move : List (List ℕ) → List (List ℕ) → List Want
at_move [] to = []
at_move (n ∷ ns) [] = []
at_move (n ∷ ns) (m ∷ ms) = at_old_name false (n ∷ ns) ++ at_old_name true (m ∷ ms)

-- ---- the list of each call

abbrev pub wanted : Call → List Want
wanted (call.Create p) = at_new_name p
wanted (call.Mkdir p) = at_new_name p
wanted (call.Unlink p) = at_old_name false p
wanted (call.Rmdir p) = at_old_name false p
wanted (call.Read p at count) = way_to false (length p) Sh
wanted (call.Dread p at count) = way_to false (length p) Df
wanted (call.Write p at new) = way_to false (length p) Ex
wanted (call.Truncate p size) = way_to false (length p) Ex
wanted (call.Stat p) = way_to false (length p) Sh
wanted (call.List p) = way_to false (length p) Sh
wanted (call.Rename p q) = at_move p q
wanted call.Sync = []
