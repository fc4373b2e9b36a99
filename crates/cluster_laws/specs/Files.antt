-- What the cluster's laws know of images, trees and calls: nothing but this.
pub use Rattle.glock_names.specs.declared.State.{State}
pub use Rattle.glock_names.specs.declared.State.TheVariants.{Un, Sh, Df, Ex}
use Rattle.std.specs.Prelude.{ℕ, ◌≡◌, ◌⊎◌, Bool, true, false, Option, None, Some, List, [], ◌∷◌}

-- what a block has, and where it belongs: its lock, and whether it is a free block of a group
pub record Cell (C P : Type 0) : Type 0 where
  pub content : C
  pub place : P

pub record Files : Type 1 where
  pub Content : Type 0
  pub Place : Type 0
  pub Lock : Type 0
  pub Tree : Type 0
  -- a call and its reply
  pub Said : Type 0
  pub lock_of : Place → Lock
  pub IsFree : Place → Type 0
  -- the contents stand for the tree, and each place is the true one
  pub Stands : (ℕ → Cell Content Place) → Tree → Type 0
  -- the tree after a call that was answered so, and whether that answer is right at a tree
  pub after : Said → Tree → Tree
  pub Answers : Said → Tree → Type 0
  pub IsSync : Said → Type 0
  -- it is a changing call that was answered Ok, and no rename of a path to itself
  pub Changes : Said → Bool
  -- the lock of the inode whose dinode is this block
  pub inode : ℕ → Lock

abbrev pub CellOf : Files → Type 0
CellOf F = Cell F.Content F.Place

abbrev pub Image : Files → Type 0
Image F = ℕ → Cell F.Content F.Place

-- cells of some blocks: a view, a cache, a change
abbrev pub Part : Files → Type 0
Part F = ℕ → Option (Cell F.Content F.Place)

abbrev pub LockOf : (F : Files) → Cell F.Content F.Place → F.Lock
LockOf F x = F.lock_of (x.place)

-- the first where it is there
abbrev pub laid : {A : Type 0} → Option A → A → A
laid None y = y
laid (Some x) y = x

-- a change laid over an image
abbrev pub over : (F : Files) → Part F → Image F → Image F
over F c m b = laid (c b) (m b)

-- the image has what the view has
abbrev pub Agrees : (F : Files) → Part F → Image F → Type 0
Agrees F v m = (b : ℕ) (x : CellOf F) → v b ≡ Some x → m b ≡ x

-- what an answer from a view means: of every image that agrees with the view and stands for a tree, the image with
-- the change stands for the tree after the call, and the reply is right
abbrev pub Does : (F : Files) → Part F → F.Said → Part F → Type 0
Does F v said c = (m : Image F) (t : F.Tree) → Agrees F v m → F.Stands m t
    → F.Stands (over F c m) (F.after said t) × F.Answers said t

-- the change is empty exactly where the call changes nothing
pub record Tells (F : Files) (said : F.Said) (c : Part F) : Type 0 where
  pub empty : F.Changes said ≡ false → (b : ℕ) → c b ≡ None
  pub some : F.Changes said ≡ true → (b : ℕ) × (y : CellOf F) × (c b ≡ Some y)

-- any other call leaves every tree as it was, where its reply is right
abbrev pub OthersLeaveTrees : Files → Type 0
OthersLeaveTrees F = (s : F.Said) (t : F.Tree) → F.Answers s t → F.Changes s ≡ false → F.after s t ≡ t

-- ---- locks

-- each block that the change has, was and is under a lock that is held exclusive
abbrev pub Guards : (F : Files) → (F.Lock → State) → Part F → Part F → Type 0
Guards F held v c = (m : Image F) (t : F.Tree) (b : ℕ) (y : CellOf F) → Agrees F v m → F.Stands m t → c b ≡ Some y
    → (held (LockOf F (m b)) ≡ Ex) × (held (LockOf F y) ≡ Ex)

-- the locks that a change touches: those of the blocks that it writes, as they are afterwards, and the inode lock of each block that it frees, also of one that was no
-- dinode: the node may still hold that lock
abbrev pub Touches : (F : Files) → Part F → F.Lock → Type 0
Touches F c l = (n : ℕ) × (y : CellOf F) × (c n ≡ Some y)
    × (((F.IsFree (y.place) → ⊥) × (LockOf F y ≡ l)) ⊎ (F.IsFree (y.place) × (F.inode n ≡ l)))

-- it touches the lock of each of its blocks, before and after
abbrev pub Tracks : (F : Files) → Part F → Part F → Type 0
Tracks F v c = (m : Image F) (t : F.Tree) (b : ℕ) (y : CellOf F) → Agrees F v m → F.Stands m t → c b ≡ Some y
    → Touches F c (LockOf F (m b)) × Touches F c (LockOf F y)

-- ---- calls taken one by one

abbrev pub RightTo : (F : Files) → List F.Said → F.Tree → F.Tree → Type 0
RightTo F [] t u = t ≡ u
RightTo F (s ∷ ss) t u = F.Answers s t × RightTo F ss (F.after s t) u
