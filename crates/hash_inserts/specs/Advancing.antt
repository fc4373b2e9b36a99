-- An insertion in a draft, one step after another.
use Rattle.std.specs.Prelude.{ℕ, ◌≡◌, ◌⊎◌, ◌+◌, ◌^◌, ◌<◌, ◌≤◌, false, List, ◌++◌, length, IsSome, None}
use Rattle.std.specs.FinMap.{FinMap, get}
use Rattle.std.specs.Ordering.{nat_cmp}
use Rattle.crc_words.specs.Remainder.{crc32_of}
use Rattle.drafts.specs.declared.fate.Fate.{Fate}
use Rattle.gfs2_layout.specs.Area.{slots_of}
use Rattle.gfs2_layout.specs.Holding.{Holding, part_at}
use Rattle.gfs2_layout.specs.Inode.{depth_in, entry, is_leaf_part, leaf_area, records_of}
use Rattle.gfs2_layout.specs.Records.{record_named}
use Rattle.glock_names.specs.Views.{Seen, HasBlock}
use Rattle.glock_names.specs.declared.steps.Entry.{Entry}
use Rattle.growth_drafts.specs.Taken.{AreFreeFor, HasTaken}
use Rattle.hash_steps.specs.Shown.{IsShown, IsSound, index_for}
use Rattle.hash_steps.specs.Laws.{Stays}
use Rattle.hash_steps.specs.Leaves.{has_room_for}
use Rattle.hash_inserts.specs.Drafting.{Puts}
use Rattle.hash_inserts.specs.Inserting.{CanCountOne, HasOneLeafFor, IsInserted, IsInsertedAt, depth_for}
use Rattle.hash_inserts.specs.Needing.{TakesBlocks}

-- A sound directory, as the view shows it, that can get a name which it hasn't: it takes so many blocks, and the room has them.
pub record CanInsert (v : Seen) (dir : ℕ) (h : Holding) (name room : List ℕ) (need : ℕ) : Type 0 where
  pub shown : IsShown v dir h
  pub sound : IsSound h
  pub counts : CanCountOne h
  pub small : crc32_of name < 2 ^ 32
  pub fresh : record_named (records_of h) name ≡ None
  pub few : h.count < 2 ^ 64
  pub free : AreFreeFor h room
  pub takes : TakesBlocks h name need
  pub enough : need ≤ length room

-- the view has each block of the directory that is no leaf
abbrev pub SeesTable : Seen → Holding → Type 0
SeesTable v h = (b : ℕ) → IsSome (h.cell b) → is_leaf_part (part_at h b) ≡ false → HasBlock v b

-- the name's chain has one leaf, this one; the view has it, and each block of the table
pub record IsAtLeaf (v : Seen) (h : Holding) (name : List ℕ) (leaf : ℕ) : Type 0 where
  pub leaf_is : leaf ≡ entry h (index_for h name)
  pub one : HasOneLeafFor h name
  pub sees : SeesTable v h
  pub there : HasBlock v leaf

-- and it has no room
abbrev pub IsFullLeaf : Holding → List ℕ → ℕ → Type 0
IsFullLeaf h name leaf = has_room_for (length name) (slots_of (leaf_area h leaf)) ≡ false

-- A step of an insertion, which takes these blocks. What is inserted after it is inserted from before it on, and what is done then is done to a block to
-- which an insertion from before it on does something.
pub record StepsTo (v : Seen) (old new : FinMap nat_cmp Fate) (name : List ℕ) (h m : Holding) (more : List ℕ) : Type 0 where
  pub puts : Puts v old new h m
  pub has : HasTaken h m more
  pub stays : Stays h m
  pub deep : depth_in h ≤ depth_in m
  pub changes : (b : ℕ) → (get new b ≡ get old b) ⊎ IsInsertedAt h m name more b
  pub later : (b : ℕ) (g : Holding) (taken : List ℕ) → depth_in m ≤ depth_in g → IsInsertedAt m g name taken b → IsInsertedAt h g name (more ++ taken) b
  pub goes_on : (e : Entry) (g : Holding) (taken : List ℕ) → IsInserted name e m g taken → IsInserted name e h g (more ++ taken)

-- The draft is a step on: it shows the directory after it, which can still get the name, and the one leaf of the name's chain.
pub record StepsOn (v w : Seen) (old new : FinMap nat_cmp Fate) (room left : List ℕ) (dir : ℕ) (name : List ℕ) (need leaf : ℕ) (h m : Holding) : Type 0 where
  pub more : List ℕ
  pub rest : ℕ
  pub steps : StepsTo v old new name h m more
  pub front : room ≡ more ++ left
  pub all : need ≡ length more + rest
  pub can : CanInsert w dir m name left rest
  pub at : IsAtLeaf w m name leaf
  pub deeper : depth_for m name + depth_in m ≡ depth_for h name + depth_in h + 1
