-- What private functions of a tree want of a walk or a move, and which refusal they answer. The calls' contract is over `apply` alone.
use Rattle.std.specs.Prelude.{ℕ, ◌≡◌, ◌≢◌, Bool, true, false, List, [], ◌∷◌, Option, None, Some, ⊤}
use Rattle.file_tree.specs.Tree.{Tree, file, dir, none, entry, look}
use Rattle.file_tree.specs.Names.{parent_of, leads_to}
use Rattle.file_tree.specs.Apply.{Walked, Found, Refused, walk, put_at, refusal_at, refusal_over}
use Rattle.file_tree.specs.declared.reply.Reply.{Reply}
use Rattle.file_tree.specs.declared.reply.Reply.TheVariants as reply

-- something stands there
abbrev pub IsThere : Walked → Type 0
IsThere (Refused r) = ⊥
IsThere (Found t) = ⊤

abbrev pub is_there : Walked → Bool
is_there (Refused r) = false
is_there (Found t) = true

-- a directory does
abbrev pub IsDirThere : Walked → Type 0
IsDirThere (Refused r) = ⊥
IsDirThere (Found (file bytes)) = ⊥
IsDirThere (Found (dir es)) = ⊤

-- a directory does, and has no such name
abbrev pub IsRoomThere : Walked → List ℕ → Type 0
IsRoomThere (Refused r) name = ⊥
IsRoomThere (Found (file bytes)) name = ⊥
IsRoomThere (Found (dir es)) name = look es name ≡ None

-- ---- what refuses a call, once its walk is done

abbrev pub exists_already : Option Tree → Option Reply
exists_already None = None
exists_already (Some there) = Some reply.Exists

-- a new name in what is found
abbrev pub new_refusal : Walked → List ℕ → Option Reply
new_refusal (Refused r) name = Some r
new_refusal (Found (file bytes)) name = Some reply.NotDir
new_refusal (Found (dir es)) name = exists_already (look es name)

-- a file is wanted
abbrev pub file_refusal : Walked → Option Reply
file_refusal (Refused r) = Some r
file_refusal (Found (file bytes)) = None
file_refusal (Found (dir es)) = Some reply.IsDir

-- an empty directory is wanted
abbrev pub empty_refusal : Walked → Option Reply
empty_refusal (Refused r) = Some r
empty_refusal (Found (file bytes)) = Some reply.NotDir
empty_refusal (Found (dir none)) = None
empty_refusal (Found (dir (entry n u es))) = Some reply.NotEmpty

-- what is moved comes into what is found, at a name
abbrev pub target_refusal : Walked → Tree → List ℕ → Option Reply
target_refusal (Refused r) moved name = Some r
target_refusal (Found (file bytes)) moved name = Some reply.NotDir
target_refusal (Found (dir es)) moved name = refusal_at moved (look es name)

abbrev pub bytes_of : Tree → List ℕ
bytes_of (file bytes) = bytes
bytes_of (dir es) = []

-- ---- a move that nothing refuses

-- what stands at the first path may go to the second one: that isn't below it, its parent is a directory, and what stands there may be replaced
pub record MayMove (t : Tree) (from to : List (List ℕ)) : Type 0 where
  pub there : IsThere (walk t from)
  pub apart : leads_to from to ≡ false
  pub parent : IsDirThere (walk t (parent_of to))
  pub free : (moved stood : Tree) → walk t from ≡ Found moved → walk t to ≡ Found stood → refusal_over moved stood ≡ None

-- the second tree is the first, where something stands at the path, or has something put there
pub data HasRoom (t t' : Tree) (to : List (List ℕ)) : Type 0 where
  stands : IsThere (walk t to) → t' ≡ t → HasRoom t t' to
  made : (x : Tree) → t' ≡ put_at to x t → HasRoom t t' to

-- the paths part at their first names
abbrev pub PartAtOnce : List (List ℕ) → List (List ℕ) → Type 0
PartAtOnce [] to = ⊥
PartAtOnce (n ∷ from) [] = ⊥
PartAtOnce (n ∷ from) (m ∷ to) = m ≢ n
