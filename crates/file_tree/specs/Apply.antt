-- What a call does to a tree, and what it answers.
use Rattle.std.specs.Prelude.{ℕ, ◌≡◌, ◌⊎◌, ◌+◌, ◌-◌, if◌then◌else◌, nat_lt, List, [], ◌∷◌, ◌++◌, length, take, drop, replicate, Option, None, Some}
use Rattle.file_tree.specs.Tree.{Tree, Entries, file, dir, none, entry, look, set, without, names_in, count_in}
use Rattle.file_tree.specs.Names.{parent_of, last_of, leads_to, is_same_path}
use Rattle.file_tree.specs.declared.call.Call.{Call}
use Rattle.file_tree.specs.declared.call.Call.TheVariants as call
use Rattle.file_tree.specs.declared.reply.Kind.TheVariants.{File, Dir}
use Rattle.file_tree.specs.declared.reply.Reply.{Reply}
use Rattle.file_tree.specs.declared.reply.Reply.TheVariants as reply

-- the reply and the tree after it
pub record Answer : Type 0 where
  pub reply : Reply
  pub tree : Tree

-- ---- a walk: the tree at a path, or the first refusal on the way

pub data Walked : Type 0 where
  Found : Tree → Walked
  Refused : Reply → Walked

abbrev pub found_or : Reply → Option Tree → Walked
found_or r None = Refused r
found_or r (Some t) = Found t

abbrev pub step_to : Walked → List ℕ → Walked
step_to (Refused r) name = Refused r
step_to (Found (file bytes)) name = Refused reply.NotDir
step_to (Found (dir es)) name = found_or reply.NotFound (look es name)

abbrev pub walk_from : Walked → List (List ℕ) → Walked
walk_from w [] = w
walk_from w (n ∷ ns) = walk_from (step_to w n) ns

abbrev pub walk : Tree → List (List ℕ) → Walked
walk t path = walk_from (Found t) path

-- ---- the tree with another one at a path

abbrev pub entries_of : Tree → Entries
entries_of (file bytes) = none
entries_of (dir es) = es

abbrev pub child_of : Option Tree → Tree
child_of None = dir none
child_of (Some t) = t

abbrev pub put_at : List (List ℕ) → Tree → Tree → Tree
put_at [] new t = new
put_at (n ∷ ns) new t = dir (set (entries_of t) n (put_at ns new (child_of (look (entries_of t) n))))

abbrev pub remove_at : List (List ℕ) → Tree → Tree
remove_at [] t = t
remove_at (n ∷ []) t = dir (without (entries_of t) n)
remove_at (n ∷ m ∷ ns) t = dir (set (entries_of t) n (remove_at (m ∷ ns) (child_of (look (entries_of t) n))))

-- ---- content

-- how many bytes a file may have
abbrev pub file_limit : ℕ
file_limit = 67108864

-- n bytes: these, and zeros behind them
abbrev pub resized : ℕ → List ℕ → List ℕ
resized n bytes = take n bytes ++ replicate (n - length bytes) 0

-- these bytes over what is there from a place on, zeros between the old end and the place
abbrev pub overwritten : ℕ → List ℕ → List ℕ → List ℕ
overwritten at new bytes = resized at bytes ++ new ++ drop (at + length new) bytes

-- ---- the rows of the table: what a call answers once its walk is done

abbrev pub refuse : Reply → Tree → Answer
refuse r t = record { reply = r; tree = t }

-- a new name in a directory
abbrev pub add_to : Walked → Tree → List (List ℕ) → Tree → Answer
add_to (Refused r) t path new = refuse r t
add_to (Found (file bytes)) t path new = refuse reply.NotDir t
add_to (Found (dir es)) t path new = elim (look es (last_of path)) [
  | None ↦ record { reply = reply.Ok; tree = put_at path new t }
  | Some there ↦ refuse reply.Exists t
]

abbrev pub add : Tree → List (List ℕ) → Tree → Answer
add t [] new = refuse reply.Exists t
add t (n ∷ ns) new = add_to (walk t (parent_of (n ∷ ns))) t (n ∷ ns) new

abbrev pub unlink_at : Walked → Tree → List (List ℕ) → Answer
unlink_at (Refused r) t path = refuse r t
unlink_at (Found (file bytes)) t path = record { reply = reply.Ok; tree = remove_at path t }
unlink_at (Found (dir es)) t path = refuse reply.IsDir t

abbrev pub unlink : Tree → List (List ℕ) → Answer
unlink t [] = refuse reply.IsDir t
unlink t (n ∷ ns) = unlink_at (walk t (n ∷ ns)) t (n ∷ ns)

abbrev pub rmdir_at : Walked → Tree → List (List ℕ) → Answer
rmdir_at (Refused r) t path = refuse r t
rmdir_at (Found (file bytes)) t path = refuse reply.NotDir t
rmdir_at (Found (dir none)) t path = record { reply = reply.Ok; tree = remove_at path t }
rmdir_at (Found (dir (entry n u es))) t path = refuse reply.NotEmpty t

abbrev pub rmdir : Tree → List (List ℕ) → Answer
rmdir t [] = refuse reply.Inside t
rmdir t (n ∷ ns) = rmdir_at (walk t (n ∷ ns)) t (n ∷ ns)

abbrev pub read_reply : Walked → ℕ → ℕ → Reply
read_reply (Refused r) at count = r
read_reply (Found (file bytes)) at count = reply.Bytes (take count (drop at bytes))
read_reply (Found (dir es)) at count = reply.IsDir

abbrev pub write_at : Walked → Tree → List (List ℕ) → ℕ → List ℕ → Answer
write_at (Refused r) t path at new = refuse r t
write_at (Found (dir es)) t path at new = refuse reply.IsDir t
write_at (Found (file bytes)) t path at new =
    if nat_lt file_limit (at + length new) then refuse reply.TooBig t
    else record { reply = reply.Ok; tree = put_at path (file (overwritten at new bytes)) t }

abbrev pub truncate_at : Walked → Tree → List (List ℕ) → ℕ → Answer
truncate_at (Refused r) t path size = refuse r t
truncate_at (Found (dir es)) t path size = refuse reply.IsDir t
truncate_at (Found (file bytes)) t path size =
    if nat_lt file_limit size then refuse reply.TooBig t
    else record { reply = reply.Ok; tree = put_at path (file (resized size bytes)) t }

abbrev pub stat_reply : Walked → Reply
stat_reply (Refused r) = r
stat_reply (Found (file bytes)) = reply.Stat File (length bytes)
stat_reply (Found (dir es)) = reply.Stat Dir (count_in es)

abbrev pub list_reply : Walked → Reply
list_reply (Refused r) = r
list_reply (Found (file bytes)) = reply.NotDir
list_reply (Found (dir es)) = reply.Names (names_in es)

-- ---- rename: a file may replace a file, and a directory an empty directory

-- what refuses that the first tree goes where the second one stands
abbrev pub refusal_over : Tree → Tree → Option Reply
refusal_over (file bytes) (file old) = None
refusal_over (file bytes) (dir es) = Some reply.IsDir
refusal_over (dir fs) (file old) = Some reply.NotDir
refusal_over (dir fs) (dir none) = None
refusal_over (dir fs) (dir (entry n u es)) = Some reply.NotEmpty

-- nothing does where nothing stands
abbrev pub refusal_at : Tree → Option Tree → Option Reply
refusal_at moved None = None
refusal_at moved (Some there) = refusal_over moved there

-- what stood at the second path is gone, and the moved tree stands there
abbrev pub move_unless : Option Reply → Tree → List (List ℕ) → List (List ℕ) → Tree → Answer
move_unless (Some r) t from to moved = refuse r t
move_unless None t from to moved = record { reply = reply.Ok; tree = put_at to moved (remove_at from t) }

abbrev pub move_into : Walked → Tree → List (List ℕ) → List (List ℕ) → Tree → Answer
move_into (Refused r) t from to moved = refuse r t
move_into (Found (file bytes)) t from to moved = refuse reply.NotDir t
move_into (Found (dir es)) t from to moved = move_unless (refusal_at moved (look es (last_of to))) t from to moved

abbrev pub move_from : Walked → Tree → List (List ℕ) → List (List ℕ) → Answer
move_from (Refused r) t from to = refuse r t
move_from (Found moved) t from to =
    if is_same_path from to then refuse reply.Ok t
    else if leads_to from to then refuse reply.Inside t
    else move_into (walk t (parent_of to)) t from to moved

abbrev pub rename : Tree → List (List ℕ) → List (List ℕ) → Answer
rename t [] to = refuse reply.Inside t
rename t (n ∷ ns) [] = refuse reply.Exists t
rename t (n ∷ ns) (m ∷ ms) = move_from (walk t (n ∷ ns)) t (n ∷ ns) (m ∷ ms)

-- ---- the table

abbrev pub apply : Call → Tree → Answer
apply (call.Create p) t = add t p (file [])
apply (call.Mkdir p) t = add t p (dir none)
apply (call.Unlink p) t = unlink t p
apply (call.Rmdir p) t = rmdir t p
apply (call.Read p at count) t = refuse (read_reply (walk t p) at count) t
apply (call.Dread p at count) t = refuse (read_reply (walk t p) at count) t
apply (call.Write p at new) t = write_at (walk t p) t p at new
apply (call.Truncate p size) t = truncate_at (walk t p) t p size
apply (call.Stat p) t = refuse (stat_reply (walk t p)) t
apply (call.List p) t = refuse (list_reply (walk t p)) t
apply (call.Rename p q) t = rename t p q
apply call.Sync t = refuse reply.Ok t

-- ---- what may be answered: as the table says, or that there is no room

-- the calls that may find no room
abbrev pub TakesSpace : Call → Type 0
TakesSpace (call.Create p) = Unit {0}
TakesSpace (call.Mkdir p) = Unit {0}
TakesSpace (call.Write p at new) = Unit {0}
TakesSpace (call.Truncate p size) = Unit {0}
TakesSpace (call.Rename p q) = Unit {0}
TakesSpace _ = ⊥

-- no room, where the tree would have taken the call
pub record LacksSpace (c : Call) (t : Tree) (r : Reply) (t' : Tree) : Type 0 where
  pub no_room : r ≡ reply.NoSpace
  pub same : t' ≡ t
  pub taken : (apply c t).reply ≡ reply.Ok
  pub takes : TakesSpace c

-- this call on this tree may have this reply and leave that tree
abbrev pub Answers : Call → Tree → Reply → Tree → Type 0
Answers c t r t' = (apply c t ≡ record { reply = r; tree = t' }) ⊎ LacksSpace c t r t'
