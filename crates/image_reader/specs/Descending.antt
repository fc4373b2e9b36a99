-- What holds while a walk goes down through the pointers of an inode, one group of pointers after another.
use Rattle.std.specs.Prelude.{ℕ, suc, ◌≡◌, ◌≢◌, ◌⊎◌, ◌+◌, ◌*◌, ◌<◌, List, Option, Some, slice_get}
use Rattle.gfs2_layout.specs.Holding.{Holding}
use Rattle.gfs2_layout.specs.Inode.{fan, span, pointer, height_in, header_length}
use Rattle.gfs2_layout.specs.Structures.{dinode_length}
use Rattle.image_reader.specs.Leaves.{HasClaim}
use Rattle.image_model.specs.Owners.{Below}
use Rattle.image_reader.specs.declared.owners.Claim.{Claim}
use Rattle.image_reader.specs.declared.walk.Pointers.{Pointers}

-- where pointer k from this byte of block b on leads somewhere, that block is entered as its; the first pointer stands before this index of content
abbrev pub IsEnteredAt : Holding → List (Option Claim) → ℕ → ℕ → ℕ → ℕ → ℕ → Type 0
IsEnteredAt h entries start b level first k = pointer h start b k ≢ 0 → HasClaim entries (pointer h start b k) (Below h.own b k level (first + k * span h.size level))

abbrev pub AreEnteredTo : ℕ → Holding → List (Option Claim) → ℕ → ℕ → ℕ → ℕ → Type 0
AreEnteredTo n h entries start b level first = (k : ℕ) → k < n → IsEnteredAt h entries start b level first k

abbrev pub AreEntered : Holding → List (Option Claim) → ℕ → ℕ → ℕ → ℕ → Type 0
AreEntered h entries start b level first = AreEnteredTo (fan h.size start) h entries start b level first

-- the pointers from this byte of block b on
pub record IsGroupOf (start b level first : ℕ) (p : Pointers) : Type 0 where
  pub from : p.start ≡ start
  pub block : p.block.number ≡ b
  pub deep : p.level ≡ level
  pub before : p.first ≡ first

-- these are still to be gone over
abbrev pub AreWaiting : List Pointers → ℕ → ℕ → ℕ → ℕ → Type 0
AreWaiting pending start b level first = (i : ℕ) × ((p : Pointers) × (slice_get pending i ≡ Some p) × IsGroupOf start b level first p)

-- of the dinode, and of each indirect block that is entered as the inode's, all pointers are entered, or are still to be gone over
pub record AreDescended (h : Holding) (entries : List (Option Claim)) (pending : List Pointers) : Type 0 where
  pub top : (level : ℕ) → height_in h ≡ suc level → AreEntered h entries dinode_length h.own level 0 ⊎ AreWaiting pending dinode_length h.own level 0
  pub others : (b above j level first : ℕ) → HasClaim entries b (Below h.own above j (suc level) first)
      → AreEntered h entries header_length b level first ⊎ AreWaiting pending header_length b level first
