-- The steps of a draft that makes a name, over a view.
use Rattle.std.specs.Prelude.{ℕ, ◌≡◌, ◌⊎◌, false, List, [], ◌∷◌, ◌++◌, drop, None, Some}
use Rattle.std.specs.Ordering.{nat_cmp}
use Rattle.std.specs.FinMap.{FinMap, empty, get, insert}
use Rattle.drafts.specs.Fates.{AreWhole, Drafted, seen_in, seen_with}
use Rattle.drafts.specs.declared.change.Change.{Change}
use Rattle.drafts.specs.declared.fate.Fate.{Fate}
use Rattle.drafts.specs.declared.fate.Fate.TheVariants.{Put}
use Rattle.gfs2_layout.specs.Holding.{Holding}
use Rattle.gfs2_layout.specs.Structures.{dinode_length, dinode_of}
use Rattle.gfs2_layout.specs.Writing.{dinode_put}
use Rattle.glock_names.specs.Views.{Seen, IsView, HasGroup}
use Rattle.glock_names.specs.declared.steps.Entry.{Entry}
use Rattle.glock_names.specs.declared.views.Group.{Group}
use Rattle.dinode_tree.specs.Reading.{inode_lock}
use Rattle.dinode_tree.specs.Shown as inode
use Rattle.linear_dirs.specs.Shown.{holding_over}
use Rattle.name_inserts.specs.DirectoryShown.{IsShown}
use Rattle.new_inodes.specs.Touched.{IsTouched, with_times}
use Rattle.resource_groups.specs.Freeing.{HasSome, SaysStateOfSome}
use Rattle.resource_groups.specs.Numbering.{IsNumberPut}
use Rattle.resource_groups.specs.Putting.{overlaid}
use Rattle.resource_groups.specs.Shown.{IsHeaderOf, group_lock}
use Rattle.resource_groups.specs.Shown as group
use Rattle.resource_groups.specs.Taking.{AreSet, KeepsBlocks}
use Rattle.image_changes.specs.Drafted.{IsFinished}
use Rattle.name_inserts.specs.HashInserting.{IsPutUnder, MayChange}
use Rattle.name_inserts.specs.Inserting.{CanGetName, IsPutInLinear, PutsName}
use Rattle.name_drafts.specs.Drafting.{HasLinearRoom, IsNextOf, SaysMade}
use Rattle.name_drafts.specs.declared.drafting.NewBlock.{NewBlock}

-- ---- the directory

-- In a new draft the directory gets the name, with these blocks for it from the front of the room, and then the time, over what its dinode's block has then.
pub record IsNamePut (v : Seen) (dir : ℕ) (name : List ℕ) (e : Entry) (time : ℕ) (room taken : List ℕ) (fates : FinMap nat_cmp Fate) : Type 0 where
  pub left : List ℕ
  pub front : room ≡ taken ++ left
  pub first : FinMap nat_cmp Fate
  pub changes : (b : ℕ) → (get first b ≡ None) ⊎ (MayChange v dir taken b × IsPutUnder first dir b)
  pub named : (h : Holding) → IsShown v dir h → CanGetName h name room
      → (g : Holding) × IsShown (seen_with v first) dir g × ((puts : PutsName empty first room left name e h g) × (puts.taken ≡ taken))
  pub linear : (h : Holding) → IsShown v dir h → HasLinearRoom h name → IsPutInLinear h (holding_over (seen_with v first) h) name e
  -- the time
  pub bytes : List ℕ
  pub there : (seen_with v first).block_at dir ≡ Some bytes
  pub final : List ℕ
  pub put : fates ≡ insert first dir (Put (inode_lock dir) false final)
  pub written : final ≡ dinode_put (with_times (dinode_of bytes) time) bytes
  pub dinode : dinode_of final ≡ with_times (dinode_of bytes) time
  pub behind : drop dinode_length final ≡ drop dinode_length bytes
  pub touched : (h : Holding) → inode.IsShown (seen_with v first) dir h → IsTouched h (holding_over (seen_with v fates) h) time

-- ---- the groups

-- no header and no bitmap block of a group is put or freed
abbrev pub LeavesGroups : Seen → FinMap nat_cmp Fate → Type 0
LeavesGroups v fates = (g : Group) (c : ℕ) → HasGroup v g → IsHeaderOf g c → get fates c ≡ None

-- the group's header is put with the number, and then the group says that the block is a dinode
pub record IsNewSaid {V : Type 0} (seen : V → Seen) (old new : Drafted V) (r : NewBlock) (number : ℕ) : Type 0 where
  pub header : List ℕ
  pub mid : Drafted V
  pub put : mid ≡ record old { fates = insert old.fates r.group.addr (Put (group_lock r.group) false header) }
  pub numbered : (at : ℕ → List ℕ) → group.IsShown (seen_in seen old) r.group at → IsNumberPut at (overlaid (seen_in seen mid) at) r.group number
  pub shows : IsView (seen_in seen mid)
  pub then : IsView (seen_in seen new)
  pub set : AreSet seen mid new (r.block ∷ []) 3
  pub rest : KeepsBlocks seen mid new (r.block ∷ [])

-- Over a draft that left the groups the new block and the taken ones are told, and no group's block is put but these; and the change is that of the draft that
-- comes of it.
pub record IsSaidAndDone (v : Seen) (before : FinMap nat_cmp Fate) (r : NewBlock) (taken : List ℕ) (change : Change) : Type 0 where
  pub fates : FinMap nat_cmp Fate
  pub number : ℕ
  pub next : (at : ℕ → List ℕ) → group.IsShown v r.group at → IsNextOf at r.group number
  pub says : (at : ℕ → List ℕ) (g : Group) → HasGroup v g → group.IsShown v g at → SaysMade at (overlaid (seen_with v fates) at) r taken g number
  pub headers : (g : Group) (c : ℕ) → HasGroup v g → IsHeaderOf g c → (get fates c ≡ None) ⊎ ((bytes : List ℕ) × (get fates c ≡ Some (Put (group_lock g) false bytes)))
  pub only : (g : Group) (c : ℕ) → HasGroup v g → IsHeaderOf g c → ¬ (SaysStateOfSome v.size g (r.block ∷ taken) c) → get fates c ≡ None
  pub counts : (g : Group) → HasGroup v g → HasSome g (r.block ∷ taken) → (bytes : List ℕ) × (get fates g.addr ≡ Some (Put (group_lock g) false bytes))
  pub others : (c : ℕ) → ((g : Group) → HasGroup v g → HasSome g (r.block ∷ taken) → ¬ (IsHeaderOf g c)) → get fates c ≡ get before c
  pub whole : AreWhole v.size fates
  pub finished : IsFinished fates change
