-- Laws of what a change of few blocks does to a whole image.
use Rattle.std.specs.Prelude.{ℕ, ◌≡◌, ◌⊎◌, Bool, false, Some}
use Rattle.image_model.specs.Image.{Image}
use Rattle.image_model.specs.Flat.{Path}
use Rattle.image_model.specs.Owners.{Owners, Free, holding}
use Rattle.image_model.specs.Stands.{Layout, IsLaid}
use Rattle.image_changes.specs.Changes.{IsChange, KeepsNames, SystemStays, inode_lock, place_of}
use Rattle.image_changes.specs.Instances.{IsAt}

-- an image that is laid out right stays so under a change of few blocks that keeps its names, and its superblock and system files stay
abbrev pub StaysLaid : Type 0
StaysLaid = (im im' : Image) (o o' : Owners) (l : Layout) (touched written : ℕ → Bool) → IsLaid im o l → IsChange im im' o o' l touched written
    → KeepsNames im im' o o' l touched → IsLaid im' o' l × SystemStays im im' o o' l

-- an inode that isn't touched has what it had
abbrev pub UntouchedStay : Type 0
UntouchedStay = (im im' : Image) (o o' : Owners) (l : Layout) (touched written : ℕ → Bool) → IsChange im im' o o' l touched written
    → (a : ℕ) → touched a ≡ false → holding im' o' a ≡ holding im o a

-- a block that is neither written nor freed has the bytes that it had, and belongs where it belonged
abbrev pub OthersStay : Type 0
OthersStay = (im im' : Image) (o o' : Owners) (l : Layout) (touched written : ℕ → Bool) → IsChange im im' o o' l touched written
    → (b : ℕ) → written b ≡ false → (im'.at b ≡ im.at b) × (place_of l o' b ≡ place_of l o b)

-- an image has one layout
abbrev pub OneLayout : Type 0
OneLayout = (im : Image) (o p : Owners) (l m : Layout) → IsLaid im o l → IsLaid im p m → l ≡ m

-- an inode at a path from the root, and a block that is free, is no journal: the lock of an inode there is that of its own number
abbrev pub OwnLocks : Type 0
OwnLocks = (im : Image) (o : Owners) (l : Layout) (a : ℕ) → IsLaid im o l → ((path : Path) × IsAt im o l path a) ⊎ ((g : ℕ) × (o a ≡ Free g))
    → inode_lock l a ≡ Some (record { kind = 2; number = a })
