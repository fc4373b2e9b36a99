-- What holds before and after a walk over the tree of a top directory.
use Rattle.std.specs.Prelude.{ℕ, ◌≡◌, ◌≢◌, ◌<◌, ◌≤◌, true, List, Option, Some, IfSome, slice_get}
use Rattle.gfs2_layout.specs.Inode.{dinode_in}
use Rattle.gfs2_layout.specs.Structures.{is_regular}
use Rattle.image_model.specs.Claims.{every, Claims}
use Rattle.image_reader.specs.Found.{IsEntryAt}
use Rattle.image_reader.specs.Going.{IsOf, IsFresh}
use Rattle.image_model.specs.Image.{Image}
use Rattle.image_model.specs.Owners.{Owner, Below, is_dinode}
use Rattle.image_reader.specs.Leaves.{HasClaim}
use Rattle.image_reader.specs.Owning.{owner_of}
use Rattle.image_model.specs.Rules.{Breaks, IsBrokenBlock}
use Rattle.image_reader.specs.declared.directory.Found.{Found}
use Rattle.image_reader.specs.declared.owners.Claim.{Claim}

-- something claims the block
abbrev pub IsClaimed : List (Option Claim) → ℕ → Type 0
IsClaimed entries b = (claim : Claim) × (slice_get entries b ≡ Some (Some claim))

-- it is by an inode: what that names, or one of its own blocks
abbrev pub IsOfSome : Owner → Type 0
IsOfSome o = (a : ℕ) × IsOf a o

-- an inode that claims a block is claimed itself
abbrev pub AreOwned : List (Option Claim) → Type 0
AreOwned entries = (b a : ℕ) (claim : Claim) → slice_get entries b ≡ Some (Some claim) → IsOf a (owner_of claim) → IsClaimed entries a

-- the inode in block a is claimed, and has claimed nothing yet
pub record IsUntouched (a : ℕ) (entries : List (Option Claim)) : Type 0 where
  pub claimed : IsClaimed entries a
  pub fresh : IsFresh a entries

-- where there is a limit, and the inode in block a is a file of more bytes, that breaks the rule of sizes
abbrev pub IsLimit : Image → Option ℕ → ℕ → Type 0
IsLimit im most a = IfSome most (λ limit. is_regular (dinode_in (every im a)) ≡ true → limit < (dinode_in (every im a)).size → Breaks im 8 a)

-- no two entries from this index on have one name
abbrev pub AreNamedApart : ℕ → List Found → Type 0
AreNamedApart first found = (i j : ℕ) (f g : Found) → first ≤ i → first ≤ j → IsEntryAt found i f → IsEntryAt found j g → f.name ≡ g.name → i ≡ j

-- two of them that have one name break the rule of names, each in its block
abbrev pub AreTwinsBroken : Image → ℕ → List Found → Type 0
AreTwinsBroken im first found = (i j : ℕ) (f g : Found) → first ≤ i → first ≤ j → IsEntryAt found i f → IsEntryAt found j g → f.name ≡ g.name → i ≢ j → IsBrokenBlock im 10 g.by

-- nothing is claimed by this owner
abbrev pub IsUnclaimed : Owner → List (Option Claim) → Type 0
IsUnclaimed o entries = (b : ℕ) (claim : Claim) → slice_get entries b ≡ Some (Some claim) → owner_of claim ≢ o

-- ---- all that is claimed

-- each block of content of the inode in block a, and each above one, is entered as that
abbrev pub AllAreBelow : Image → ℕ → List (Option Claim) → Type 0
AllAreBelow im a entries = (by c b k level first : ℕ) → Claims im by c (Below a b k level first) → HasClaim entries c (Below a b k level first)

-- whatever the inode in block a claims is entered
abbrev pub IsEntire : Image → ℕ → List (Option Claim) → Type 0
IsEntire im a entries = (by c : ℕ) (o : Owner) → Claims im by c o → IsOf a o → HasClaim entries c o

-- that holds of each inode that is claimed; of each but the one in this block
abbrev pub AreEntire : Image → List (Option Claim) → Type 0
AreEntire im entries = (a : ℕ) (o : Owner) → HasClaim entries a o → is_dinode o ≡ true → IsEntire im a entries

abbrev pub AreEntireBut : ℕ → Image → List (Option Claim) → Type 0
AreEntireBut top im entries = (a : ℕ) (o : Owner) → HasClaim entries a o → is_dinode o ≡ true → a ≢ top → IsEntire im a entries
