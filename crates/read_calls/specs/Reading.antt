-- The calls that read.
use Rattle.std.specs.Prelude.{ℕ, ◌≡◌, ◌+◌, ◌-◌, ◌<◌, min, ⊤, true, false, List, [], length, None}
use Rattle.file_tree.specs.declared.call.Call.{Call}
use Rattle.file_tree.specs.declared.call.Call.TheVariants.{Read, Dread, Stat, List as ListNames}
use Rattle.file_tree.specs.declared.reply.Kind.TheVariants.{File, Dir}
use Rattle.file_tree.specs.declared.reply.Reply.{Reply}
use Rattle.file_tree.specs.declared.reply.Reply.TheVariants as reply
use Rattle.gfs2_layout.specs.Holding.{Holding}
use Rattle.gfs2_layout.specs.Inode.{dinode_in, is_directory_in, is_hashed_in}
use Rattle.glock_names.specs.Views.{Seen}
use Rattle.file_tree.specs.Tree.{Tree, all_put}
use Rattle.file_tree.specs.Apply.{apply}
use Rattle.call_locks.specs.Wants.{wanted}
use Rattle.call_locks.specs.WantLaws.{path_of}
use Rattle.image_model.specs.Image.{Image}
use Rattle.image_model.specs.Owners.{Owners}
use Rattle.image_model.specs.Stands.{Layout}
use Rattle.path_walks.specs.Answers.{HasSpace}
use Rattle.path_walks.specs.Holds.{Hold, AreHeld, IsAskedFor, IsFirstLack, holds_in}
use Rattle.path_walks.specs.DirectoryShown as dirs
use Rattle.path_walks.specs.Walks.{LeadsTo, IsDirectoryAt, IsLacked, IsUnread, IsAbsent, IsOnTheWay}
use Rattle.dinode_tree.specs.Shown.{IsShown}
use Rattle.glock_names.specs.declared.steps.Missing.{Missing}
use Rattle.dinode_tree.specs.Reading.{AreWholeBefore, content_range, IsInRange, IsNeeded}
use Rattle.read_calls.specs.declared.answers.Read.{Read as Found}
use Rattle.read_calls.specs.declared.answers.Read.TheVariants as found

-- the call reads: a file's bytes, through the node's own copies of them or past these, what stands at a path, or a directory's names
abbrev pub IsReading : Call → Type 0
IsReading (Read path at count) = Unit {0}
IsReading (Dread path at count) = Unit {0}
IsReading (Stat path) = Unit {0}
IsReading (ListNames path) = Unit {0}
IsReading _ = ⊥

-- ---- what is answered of an inode

-- A range of a file, or a block without which it can't be read. How many bytes it has, none past the end, the file's size tells. Which they are
-- is told where the blocks of content before them are whole: of blocks that the view hasn't an inode that isn't sound may have less.
abbrev pub IsRangeOf : Seen → Holding → ℕ → ℕ → Found → Type 0
IsRangeOf v h at count (found.Reply reply.IsDir) = is_directory_in h ≡ true
IsRangeOf v h at count (found.Reply (reply.Bytes bytes)) = (is_directory_in h ≡ false) × (length bytes ≡ min count ((dinode_in h).size - at)) × (AreWholeBefore h at → bytes ≡ content_range h at count)
IsRangeOf v h at count (found.NeedBlock m) = (is_directory_in h ≡ false) × IsNeeded v h (IsInRange h at count) 0 m
IsRangeOf v h at count _ = ⊥

-- A file's size, or how many names a directory has: its dinode counts two records more. Of a hashed one that counts fewer than two the leaves are gone over,
-- to tell what is wrong.
abbrev pub IsStatOf : Holding → Found → Type 0
IsStatOf h (found.Reply (reply.Stat File size)) = (is_directory_in h ≡ false) × (size ≡ (dinode_in h).size)
IsStatOf h (found.Reply (reply.Stat Dir count)) = (is_directory_in h ≡ true) × (2 + count ≡ (dinode_in h).entries)
IsStatOf h (found.NeedBlock m) = (is_hashed_in h ≡ true) × ((dinode_in h).entries < 2)
IsStatOf h _ = ⊥

-- a directory's names, in byte order
abbrev pub IsListOf : Holding → Found → Type 0
IsListOf h (found.Reply reply.NotDir) = is_directory_in h ≡ false
IsListOf h (found.Reply (reply.Names names)) = (is_directory_in h ≡ true) × ((all : List (List ℕ)) × dirs.AreNames h all × (names ≡ all_put [] all))
IsListOf h (found.NeedBlock m) = is_directory_in h ≡ true
IsListOf h _ = ⊥

abbrev pub IsAnswerOf : Seen → Holding → Call → Found → Type 0
IsAnswerOf v h (Read path at count) f = IsRangeOf v h at count f
IsAnswerOf v h (Dread path at count) f = IsRangeOf v h at count f
IsAnswerOf v h (Stat path) f = IsStatOf h f
IsAnswerOf v h (ListNames path) f = IsListOf h f
IsAnswerOf v h _ f = ⊥

-- the holding may be that of the inode, as far as the view tells: of a directory whose names are listed, with its leaves
abbrev pub IsShownFor : Seen → ℕ → Call → Holding → Type 0
IsShownFor v a (ListNames path) h = dirs.IsShown v a h
IsShownFor v a call h = IsShown v a h

-- ---- what is asked of an inode

-- a block of the range that is read
abbrev pub IsAskedRange : Seen → ℕ → ℕ → ℕ → Found → Type 0
IsAskedRange v a at count (found.Reply r) = ⊤
IsAskedRange v a at count (found.NeedBlock m) = (h : Holding) → IsShown v a h → (is_directory_in h ≡ false) × IsNeeded v h (IsInRange h at count) 0 m
IsAskedRange v a at count _ = ⊥

-- a block of a directory whose records are read
abbrev pub IsAskedRecords : Seen → ℕ → Found → Type 0
IsAskedRecords v a (found.Reply r) = ⊤
IsAskedRecords v a (found.NeedBlock m) = IsDirectoryAt v a × ((h : Holding) → dirs.IsShown v a h → dirs.IsNeededForAll v h m) × (v.block_at m.block ≡ None)
IsAskedRecords v a _ = ⊥

-- a block of a hashed directory that counts fewer records than its two dots
abbrev pub IsAskedCount : Seen → ℕ → Found → Type 0
IsAskedCount v a (found.Reply r) = ⊤
IsAskedCount v a (found.NeedBlock m) = IsDirectoryAt v a × ((h : Holding) → dirs.IsShown v a h → (is_hashed_in h ≡ true) × ((dinode_in h).entries < 2) × dirs.IsNeededForAll v h m) × (v.block_at m.block ≡ None)
IsAskedCount v a _ = ⊥

abbrev pub IsAsked : Seen → ℕ → Call → Found → Type 0
IsAsked v a (Read path at count) f = IsAskedRange v a at count f
IsAsked v a (Dread path at count) f = IsAskedRange v a at count f
IsAsked v a (ListNames path) f = IsAskedRecords v a f
IsAsked v a (Stat path) f = IsAskedCount v a f
IsAsked v a call f = ⊥

-- a reply isn't that of too few free blocks
abbrev pub IsSpaceless : Found → Type 0
IsSpaceless (found.Reply r) = HasSpace r
IsSpaceless f = ⊤

-- ---- as far as the view shows

-- the call is answered so: the walk along its path ends at a name that isn't there, or the reply is that of the inode at its end
pub data IsAnswered (v : Seen) (call : Call) : Reply → Type 0 where
  not_found : IsAbsent v (wanted call) (path_of call false) → IsAnswered v call reply.NotFound
  not_dir : (a : ℕ) → IsOnTheWay v (wanted call) (path_of call false) a (λ h. is_directory_in h ≡ false) → IsAnswered v call reply.NotDir
  at_end : (a : ℕ) (r : Reply) → LeadsTo v (wanted call) (path_of call false) a
      → ((h : Holding) → IsShownFor v a call h → IsAnswerOf v h call (found.Reply r)) → IsAnswered v call r

-- a block without which the call can't be answered: one on its path, or one of the inode at its end that it reads
pub data IsNeededFor (v : Seen) (call : Call) (m : Missing) : Type 0 where
  on_path : IsUnread v (wanted call) (path_of call false) m → IsNeededFor v call m
  at_end : (a : ℕ) → LeadsTo v (wanted call) (path_of call false) a → IsAsked v a call (found.NeedBlock m) → IsNeededFor v call m

abbrev pub IsToldOf : Seen → Call → Found → Type 0
IsToldOf v call (found.Reply r) = IsAnswered v call r
IsToldOf v call (found.NeedBlock m) = IsNeededFor v call m
IsToldOf v call (found.NeedLock lock state) = IsLacked v (wanted call) (path_of call false) lock state

-- ---- in an image that the view may be of

-- the reply is the tree's, and each lock of the list is held; or what stands in the way: the first lock of it that isn't held, or a block
-- that the view hasn't
abbrev pub IsFoundBy : Seen → Image → Owners → Layout → Reply → List Hold → Found → Type 0
IsFoundBy v im o l answer list (found.Reply r) = (answer ≡ r) × AreHeld v list
IsFoundBy v im o l answer list (found.NeedBlock m) = IsAskedFor v im o l list m
IsFoundBy v im o l answer list (found.NeedLock lock state) = IsFirstLack v list lock state

abbrev pub IsFound : Seen → Image → Owners → Layout → Tree → Call → Found → Type 0
IsFound v im o l t call f = IsFoundBy v im o l (apply call t).reply (holds_in im o l (path_of call false) (wanted call)) f
