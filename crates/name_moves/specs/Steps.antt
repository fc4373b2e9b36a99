-- The steps of a draft that moves a name: each directory changes in a new draft over the view, and what these put is put into one.
use Rattle.std.specs.Prelude.{ℕ, ◌≡◌, ◌⊎◌, ◌↔◌, true, false, List, [], ◌∷◌, ◌++◌, codes, Contains, IsSome, None, Some}
use Rattle.std.specs.Ordering.{nat_cmp}
use Rattle.std.specs.FinMap.{FinMap, empty, entries, get}
use Rattle.drafts.specs.Fates.{AreWhole, blocks_in, seen_with}
use Rattle.drafts.specs.declared.change.Change.{Change}
use Rattle.drafts.specs.declared.fate.Fate.{Fate}
use Rattle.drafts.specs.declared.fate.Fate.TheVariants.{Freed, Put}
use Rattle.gfs2_layout.specs.Holding.{Holding, Itself, bytes_at, part_at}
use Rattle.glock_names.specs.Views.{Seen, HasBlock, HasGroup}
use Rattle.glock_names.specs.declared.steps.Entry.{Entry}
use Rattle.glock_names.specs.declared.views.Group.{Group}
use Rattle.dinode_tree.specs.Reading.{inode_lock}
use Rattle.dinode_tree.specs.Shown.{IsAsSeen}
use Rattle.linear_dirs.specs.Exchanges.{HasExchanged}
use Rattle.linear_dirs.specs.Shown.{holding_over, record_for}
use Rattle.hash_dirs.specs.Shown.{IsSound}
use Rattle.directories.specs.Shown.{IsShown}
use Rattle.nested_drafts.specs.Nested.{with_blocks}
use Rattle.name_drafts.specs.HashInserting.{IsPutUnder, MayChange}
use Rattle.name_drafts.specs.Inserting.{CanGetName, IsNamedAt}
use Rattle.resource_groups.specs.Freeing.{HasSome, SaysStateOfSome}
use Rattle.resource_groups.specs.Putting.{overlaid}
use Rattle.resource_groups.specs.Shown.{IsHeaderOf, group_lock}
use Rattle.resource_groups.specs.Shown as group
use Rattle.image_changes.specs.Drafted.{IsFinished}
use Rattle.name_moves.specs.Becoming.{CanTell, GetsName, GetsParent, GivesName, IsAtRecord, IsLostAt, IsStamped, LosesAll}
use Rattle.name_moves.specs.Moving.{Move, SaysMoved, entry_for, is_reparented, is_within, lost_there, parent_of}

-- ---- one directory, in a new draft over the view

-- Each block that is put is under the directory's lock, and is its dinode's, one of these, or a data block of a group; and none is freed.
abbrev pub PutsOf : Seen → ℕ → List ℕ → FinMap nat_cmp Fate → Type 0
PutsOf v dir taken fates = (b : ℕ) → (get fates b ≡ None) ⊎ (MayChange v dir taken b × IsPutUnder fates dir b)

-- what the draft leaves of a directory that keeps its blocks
abbrev pub left_of : Seen → FinMap nat_cmp Fate → Holding → Holding
left_of v fates h = holding_over (seen_with v fates) h

-- of a block that isn't the inode's nothing becomes
abbrev pub LeavesOthers : Holding → FinMap nat_cmp Fate → Type 0
LeavesOthers h fates = (b : ℕ) → ¬ (IsSome (h.cell b)) → get fates b ≡ None

-- These names went from the directory: what it is then the draft shows.
pub record IsLostIn (v : Seen) (dir : ℕ) (names : List (List ℕ)) (fates : FinMap nat_cmp Fate) (h : Holding) : Type 0 where
  pub lost : LosesAll names h (left_of v fates h)
  pub shown : IsShown (seen_with v fates) dir (left_of v fates h)
  pub others : LeavesOthers h fates
  pub changes : (b : ℕ) → (get fates b ≡ None) ⊎ IsLostAt names h b

pub record AreLost (v : Seen) (dir : ℕ) (names : List (List ℕ)) (fates : FinMap nat_cmp Fate) : Type 0 where
  pub puts : PutsOf v dir [] fates
  pub sees : (b : ℕ) → HasBlock (seen_with v fates) b → HasBlock v b
  pub each : (h : Holding) → IsShown v dir h → CanTell names h → IsLostIn v dir names fates h

-- The directory got the name after these went, in the blocks that it had and the taken ones; each of them is put, or left as it was.
pub record IsNamedIn (v : Seen) (dir : ℕ) (names : List (List ℕ)) (new_name : List ℕ) (e : Entry) (time : ℕ) (taken : List ℕ) (fates : FinMap nat_cmp Fate) (h : Holding) : Type 0 where
  pub after : Holding
  pub gets : GetsName names h after new_name e taken time
  pub size : after.size ≡ h.size
  pub count : after.count ≡ h.count
  pub own : after.own ≡ h.own
  pub itself : (b : ℕ) → (part_at after b ≡ Some Itself) ↔ (b ≡ after.own)
  pub seen : IsAsSeen (seen_with v fates) after
  pub unseen : (b : ℕ) → get fates b ≡ None → IsSome (after.cell b) → IsSome (h.cell b) × (bytes_at after b ≡ bytes_at h b)
  pub exchanged : HasExchanged gets.without after [] (record_for new_name e ∷ [])
  pub blocks : (b : ℕ) → IsSome (after.cell b) ↔ (IsSome (h.cell b) ⊎ Contains taken b)
  pub others : LeavesOthers after fates
  pub changes : (b : ℕ) → (get fates b ≡ None) ⊎ (IsLostAt names h b ⊎ (IsNamedAt gets.without gets.named new_name taken b ⊎ (b ≡ h.own)))

pub record IsNamedThere (v : Seen) (dir : ℕ) (names : List (List ℕ)) (new_name : List ℕ) (e : Entry) (time : ℕ) (room taken : List ℕ) (fates : FinMap nat_cmp Fate) : Type 0 where
  pub left : List ℕ
  pub front : room ≡ taken ++ left
  pub puts : PutsOf v dir taken fates
  pub stamped : IsStamped fates dir time
  pub each : (h : Holding) → IsShown v dir h → IsSound h → ((k : Holding) → LosesAll names h k → CanGetName k new_name room) → IsNamedIn v dir names new_name e time taken fates h

-- The directory became this, in the blocks that it had, and something was done to those of them alone that need it.
pub record IsChangedIn (v : Seen) (fates : FinMap nat_cmp Fate) (P : Holding → Holding → Type 0) (name : List ℕ) (h : Holding) : Type 0 where
  pub becomes : P h (left_of v fates h)
  pub others : LeavesOthers h fates
  pub changes : (b : ℕ) → (get fates b ≡ None) ⊎ IsAtRecord h name b

pub record IsChangedThere (v : Seen) (dir : ℕ) (fates : FinMap nat_cmp Fate) (P : Holding → Holding → Type 0) (name : List ℕ) (time : ℕ) : Type 0 where
  pub puts : PutsOf v dir [] fates
  pub stamped : IsStamped fates dir time
  pub each : (h : Holding) → IsShown v dir h → IsSound h → IsChangedIn v fates P name h

-- ---- the three

-- the directory from which the name moves to another one, and nothing where both names are in one
pub record GivesThere (v : Seen) (m : Move) (time : ℕ) (fates : FinMap nat_cmp Fate) : Type 0 where
  pub nothing : is_within m ≡ true → fates ≡ empty
  pub gives : is_within m ≡ false → IsChangedThere v m.from fates (λ h g. GivesName h g m.name time) m.name time

-- the inode, where it is a directory that gets another parent, and else nothing
pub record LeadsUp (v : Seen) (m : Move) (time : ℕ) (fates : FinMap nat_cmp Fate) : Type 0 where
  pub nothing : is_reparented m ≡ false → fates ≡ empty
  pub leads : is_reparented m ≡ true → IsChangedThere v m.moved.inode fates (λ h g. GetsParent h g (parent_of m) time) (codes "..") time

-- what was put in a draft over the view is put into this one
abbrev pub IsPutOver : ℕ → FinMap nat_cmp Fate → FinMap nat_cmp Fate → FinMap nat_cmp Fate → Type 0
IsPutOver dir part before after = after ≡ with_blocks (inode_lock dir) (blocks_in (entries part)) before

-- the three in one draft
pub record AreJoined (v : Seen) (m : Move) (old : Entry) (room : List ℕ) (time : ℕ) (taken : List ℕ) (fates : FinMap nat_cmp Fate) : Type 0 where
  pub target : FinMap nat_cmp Fate
  pub named : IsNamedThere v m.to.inode (lost_there m) m.new_name (entry_for m old) time room taken target
  pub source : FinMap nat_cmp Fate
  pub given : GivesThere v m time source
  pub inode : FinMap nat_cmp Fate
  pub led : LeadsUp v m time inode
  pub first : FinMap nat_cmp Fate
  pub first_is : IsPutOver m.to.inode target empty first
  pub second : FinMap nat_cmp Fate
  pub second_is : IsPutOver m.from source first second
  pub joined : IsPutOver m.moved.inode inode second fates

-- the directory that gets the name can do so, once others went, and a directory that gets another parent is sound
pub record MayBeJoined (v : Seen) (m : Move) (room : List ℕ) (target inode : Holding) : Type 0 where
  pub shown : IsShown v m.to.inode target
  pub sound : IsSound target
  pub can : (k : Holding) → LosesAll (lost_there m) target k → CanGetName k m.new_name room
  pub inode_shown : is_reparented m ≡ true → IsShown v m.moved.inode inode
  pub inode_sound : is_reparented m ≡ true → IsSound inode

-- ---- the groups

-- Over a draft that left the groups blocks are taken, and others freed: the groups say so, and no group's block is put but these; and the change is that of the
-- draft that comes of it.
pub record AreSaidAndDone (v : Seen) (before : FinMap nat_cmp Fate) (taken freed : List ℕ) (change : Change) : Type 0 where
  pub fates : FinMap nat_cmp Fate
  pub says : (at : ℕ → List ℕ) (g : Group) → HasGroup v g → group.IsShown v g at → SaysMoved at (overlaid (seen_with v fates) at) taken freed g
  pub headers : (g : Group) (c : ℕ) → HasGroup v g → IsHeaderOf g c → (get fates c ≡ None) ⊎ ((bytes : List ℕ) × (get fates c ≡ Some (Put (group_lock g) false bytes)))
  pub only : (g : Group) (c : ℕ) → HasGroup v g → IsHeaderOf g c → ¬ (SaysStateOfSome v.size g (taken ++ freed) c) → get fates c ≡ None
  pub counts : (g : Group) → HasGroup v g → HasSome g (taken ++ freed) → (bytes : List ℕ) × (get fates g.addr ≡ Some (Put (group_lock g) false bytes))
  pub gone : (b : ℕ) → Contains freed b → get fates b ≡ Some Freed
  pub others : (c : ℕ) → ¬ (Contains freed c) → ((g : Group) → HasGroup v g → HasSome g (taken ++ freed) → ¬ (IsHeaderOf g c)) → get fates c ≡ get before c
  pub whole : AreWhole v.size fates
  pub finished : IsFinished fates change
