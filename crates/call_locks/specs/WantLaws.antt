-- What the lists of wants are for: their order, and what is wanted exclusive beside what a call changes.
use Rattle.std.specs.Prelude.{◌≡◌, ◌≢◌, ◌⊎◌, ℕ, ◌<◌, ◌≤◌, Bool, true, false, List, [], ◌∷◌, ◌++◌, length, All, AllPairs, Contains}
use Rattle.file_tree.specs.Names.{parent_of, leads_to}
use Rattle.file_tree.specs.Tree.{Tree, file, dir, none}
use Rattle.file_tree.specs.Apply.{Walked, Found, Refused, walk, apply, refuse}
use Rattle.file_tree.specs.Walks.{is_there}
use Rattle.file_tree.specs.declared.call.Call.{Call}
use Rattle.file_tree.specs.declared.call.Call.TheVariants as call
use Rattle.file_tree.specs.declared.reply.Reply.{Reply}
use Rattle.glock_names.specs.declared.State.{State}
use Rattle.glock_names.specs.declared.State.TheVariants.{Ex}
use Rattle.call_locks.specs.declared.want.Want.{Want}
use Rattle.call_locks.specs.Wants.{want, wanted}

-- the first path before the second one, and on a path from the root down
abbrev pub ComesBefore : Want → Want → Type 0
ComesBefore a b = ((a.second ≡ false) × (b.second ≡ true)) ⊎ ((a.second ≡ b.second) × (a.depth < b.depth))

-- the first or the second path of a call: both are the same where it has one, and the root's where it has none
abbrev pub path_of : Call → Bool → List (List ℕ)
path_of (call.Create p) second = p
path_of (call.Mkdir p) second = p
path_of (call.Unlink p) second = p
path_of (call.Rmdir p) second = p
path_of (call.Read p at count) second = p
path_of (call.Dread p at count) second = p
path_of (call.Write p at new) second = p
path_of (call.Truncate p size) second = p
path_of (call.Stat p) second = p
path_of (call.List p) second = p
path_of (call.Rename p q) false = p
path_of (call.Rename p q) true = q
path_of call.Sync second = []

-- ---- what a call changes

-- the directories in which a name comes or goes, and the inodes that are written, removed, moved or replaced: each with whether it is on the
-- second path
abbrev pub changed_by : Call → List (Bool × List (List ℕ))
changed_by (call.Create p) = (false, parent_of p) ∷ []
changed_by (call.Mkdir p) = (false, parent_of p) ∷ []
changed_by (call.Unlink p) = (false, parent_of p) ∷ (false, p) ∷ []
changed_by (call.Rmdir p) = (false, parent_of p) ∷ (false, p) ∷ []
changed_by (call.Write p at new) = (false, p) ∷ []
changed_by (call.Truncate p size) = (false, p) ∷ []
changed_by (call.Rename p q) = (false, parent_of p) ∷ (false, p) ∷ (true, parent_of q) ∷ (true, q) ∷ []
changed_by _ = []

-- the inode at this path is wanted exclusive
abbrev pub IsExclusive : Call → (Bool × List (List ℕ)) → Type 0
IsExclusive c x = Contains (wanted c) (want x.0 (length x.1) Ex)

-- what the call changes is at that depth of that path
abbrev pub IsChangedAt : Call → Want → Type 0
IsChangedAt c w = (path : List (List ℕ)) × Contains (changed_by c) (w.second, path) × (length path ≡ w.depth)

-- what stands at a path: a file with its bytes, or a directory, whatever its names; or why nothing does
abbrev pub bare : Walked → Walked
bare (Refused r) = Refused r
bare (Found (file bytes)) = Found (file bytes)
bare (Found (dir es)) = Found (dir none)

-- no path of the call is this one, or one above it
abbrev pub IsElsewhere : Call → List (List ℕ) → Type 0
IsElsewhere c path = (second : Bool) → leads_to (path_of c second) path ≡ false

-- ---- laws

-- parents come before their children, and no inode of a path comes twice
abbrev pub ParentsComeFirst : Type 0
ParentsComeFirst = (c : Call) → AllPairs ComesBefore (wanted c)

-- each want is of an inode on a path of the call
abbrev pub LieOnPaths : Type 0
LieOnPaths = (c : Call) → All (λ w. w.depth ≤ length (path_of c w.second)) (wanted c)

-- with an inode each above it is wanted
abbrev pub WaysAreWhole : Type 0
WaysAreWhole = (c : Call) (w : Want) (depth : ℕ) → Contains (wanted c) w → depth < w.depth → (state : State) × Contains (wanted c) (want w.second depth state)

-- nothing is wanted exclusive but what the call changes
abbrev pub OnlyChanges : Type 0
OnlyChanges = (c : Call) (w : Want) → Contains (wanted c) w → w.state ≡ Ex → IsChangedAt c w

-- a call that changes nothing wants nothing exclusive
abbrev pub ReadersShare : Type 0
ReadersShare = (c : Call) → changed_by c ≡ [] → All (λ w. w.state ≢ Ex) (wanted c)

-- a call that wants anything wants all that it changes exclusive
abbrev pub AllExclusive : Type 0
AllExclusive = (c : Call) → wanted c ≢ [] → All (IsExclusive c) (changed_by c)

-- and so does one that leaves another tree than it found
abbrev pub AllChanges : Type 0
AllChanges = (c : Call) (t : Tree) → (apply c t).tree ≢ t → All (IsExclusive c) (changed_by c)

-- a call that changes nothing leaves the tree
abbrev pub OtherwiseStays : Type 0
OtherwiseStays = (c : Call) (t : Tree) → changed_by c ≡ [] → (apply c t).tree ≡ t

-- what stands elsewhere stands there afterwards
abbrev pub OthersStay : Type 0
OthersStay = (c : Call) (t : Tree) (path : List (List ℕ)) → IsElsewhere c path → bare (walk (apply c t).tree path) ≡ bare (walk t path)

-- and where the call doesn't change it, it keeps its names
abbrev pub NamesStay : Type 0
NamesStay = (c : Call) (t : Tree) (path : List (List ℕ)) (name : List ℕ) → IsElsewhere c path → ((x : Bool × List (List ℕ)) → Contains (changed_by c) x → path ≢ x.1)
    → is_there (walk (apply c t).tree (path ++ name ∷ [])) ≡ is_there (walk t (path ++ name ∷ []))

-- a call that wants nothing answers the same of every tree, and leaves it
abbrev pub NeedsNoTree : Type 0
NeedsNoTree = (c : Call) → wanted c ≡ [] → (r : Reply) × ((t : Tree) → apply c t ≡ refuse r t)
