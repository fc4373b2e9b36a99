-- The locks that a call takes, in their order, and how far a view holds them.
use Rattle.std.specs.Prelude.{ℕ, ◌≡◌, Bool, true, false, List, [], ◌∷◌, ◌++◌, take, flat_map, Contains, Option, None, Some}
use Rattle.std.specs.List.{All}
use Rattle.glock_names.specs.StateOrder.{leq}
use Rattle.glock_names.specs.Views.{Seen}
use Rattle.glock_names.specs.declared.LockName.{LockName}
use Rattle.glock_names.specs.declared.State.{State}
use Rattle.glock_names.specs.declared.State.TheVariants.{Ex}
use Rattle.glock_names.specs.declared.steps.Missing.{Missing}
use Rattle.glock_names.specs.declared.views.Group.{Group}
use Rattle.resource_groups.specs.Shown.{group_lock}
use Rattle.call_locks.specs.declared.want.Want.{Want}
use Rattle.image_model.specs.Flat.{Path, Flat, follow}
use Rattle.image_model.specs.Image.{Image}
use Rattle.image_model.specs.Owners.{Owners}
use Rattle.image_model.specs.Stands.{Layout, flat_of}
use Rattle.drafts.specs.declared.change.Change.{Change}
use Rattle.image_changes.specs.Changes.{cover, inode_of, is_free}
use Rattle.image_changes.specs.Does.{frees, is_content_of}

-- a lock, and the state in which it is taken
pub record Hold : Type 0 where
  pub lock : LockName
  pub state : State

-- the lock of the inode in a block
abbrev pub hold_of : ℕ → State → Hold
hold_of a state = record { lock = record { kind = 2; number = a }; state = state }

-- the lock of a group, exclusive
abbrev pub hold_of_group : Group → Hold
hold_of_group g = record { lock = group_lock g; state = Ex }

-- the lock that a want means: none where no inode is there
abbrev pub hold_for : Option ℕ → State → List Hold
hold_for None state = []
hold_for (Some a) state = hold_of a state ∷ []

-- of the inodes on a path those that are there, as they are wanted
abbrev pub holds_on : Flat → ℕ → Path → List Want → List Hold
holds_on f root path wants = flat_map (λ (w : Want). hold_for (follow f root (take w.depth path)) w.state) wants

-- in this image
abbrev pub holds_in : Image → Owners → Layout → Path → List Want → List Hold
holds_in im o l path wants = holds_on (flat_of im o) l.root path wants

-- ---- what a view holds of them

abbrev pub holds : Seen → Hold → Bool
holds v h = leq h.state (v.state_of h.lock)

abbrev pub AreHeld : Seen → List Hold → Type 0
AreHeld v list = All (λ h. holds v h ≡ true) list

-- the first lock of the list that isn't held so strongly
pub record IsFirstLack (v : Seen) (list : List Hold) (lock : LockName) (state : State) : Type 0 where
  pub front : List Hold
  pub back : List Hold
  pub split : list ≡ front ++ record { lock = lock; state = state } ∷ back
  pub held : AreHeld v front
  pub lacks : holds v (record { lock = lock; state = state }) ≡ false

-- the last lock of the list is that of the inode in this block
pub record EndsWith (list : List Hold) (a : ℕ) : Type 0 where
  pub state : State
  pub front : List Hold
  pub split : list ≡ front ++ hold_of a state ∷ []

-- A block that the view hasn't, under a lock of the list that is held, as each before it is. In this image that lock covers the block,
-- which isn't free, and it is told right whether it is content of a regular file.
pub record IsAskedFor (v : Seen) (im : Image) (o : Owners) (l : Layout) (list : List Hold) (m : Missing) : Type 0 where
  pub absent : v.block_at m.block ≡ None
  pub covered : cover l m.block (o m.block) ≡ Some m.lock
  pub used : is_free (o m.block) ≡ false
  pub plain : m.plain ≡ is_content_of im o (o m.block)
  pub state : State
  pub front : List Hold
  pub back : List Hold
  pub split : list ≡ front ++ record { lock = m.lock; state = state } ∷ back
  pub held : AreHeld v (front ++ record { lock = m.lock; state = state } ∷ [])

-- ---- the locks of a change

-- each lock with which the change writes a block, and that of the inode of each block that it frees, is of the list, exclusive
pub record IsUnder (o : Owners) (list : List Hold) (change : Change) : Type 0 where
  pub written : (lock : LockName) → Contains change.locks.items lock → Contains list (record { lock = lock; state = Ex })
  pub freed : (b a : ℕ) → frees change b ≡ true → inode_of b (o b) ≡ Some a → Contains list (hold_of a Ex)
