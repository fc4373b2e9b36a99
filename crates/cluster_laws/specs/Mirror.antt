-- The book is what disk and journals have.
use Rattle.std.specs.Prelude.{ℕ, ◌≡◌, ◌≤◌, ◌⊎◌, Bool, true, false, Option, None, Some}
use Rattle.cluster_laws.specs.Files.{Files, CellOf, Image, laid}
use Rattle.cluster_laws.specs.Book.{at, Book}

-- what a journal's accepted head says: the last call that it has, and its live blocks
pub record Head (F : Files) : Type 0 where
  pub cut : ℕ
  pub live : ℕ → Option F.Content

pub record Disk (F : Files) : Type 0 where
  pub blocks : ℕ → F.Content
  -- writes in flight that put a block home, per node
  pub flight : ℕ → ℕ → Option F.Content
  -- per journal and choice (the header in flight is old: false, or new: true) its head. Where none is in flight both are one
  pub heads : ℕ → Bool → Head F

-- the cell's content is this, or doesn't matter
abbrev pub Near : (F : Files) → F.Content → CellOf F → Type 0
Near F d x = (x.content ≡ d) ⊎ F.IsFree (x.place)

pub record Mirror (F : Files) (B : Book F) (D : Disk F) : Type 0 where
  pub cuts : (i : ℕ) (c : Bool) → (B.low i ≤ (D.heads i c).cut) × ((D.heads i c).cut ≤ B.published i)
  -- the accepted head's is the last call that is in the journal
  pub alone : (i : ℕ) → (D.heads i false).cut ≡ B.low i
  pub lives : (i : ℕ) (c : Bool) (b : ℕ) (v : F.Content) → (D.heads i c).live b ≡ Some v → B.owner b ≡ Some i
  pub nobody : (b : ℕ) → B.owner b ≡ None → Near F (D.blocks b) (B.unowned b)
  pub owned : (i : ℕ) (c : Bool) (b : ℕ) → B.owner b ≡ Some i → Near F (laid ((D.heads i c).live b) (D.blocks b)) (B.says i ((D.heads i c).cut) b)
  pub flights : (r b : ℕ) (v : F.Content) → D.flight r b ≡ Some v → (i : ℕ) × ((c : Bool) → (D.heads i c).live b ≡ Some v)

-- ---- what stands after a stop of everything

-- any bytes where a write is in flight
abbrev pub IsOutcome : (F : Files) → Disk F → (ℕ → F.Content) → Type 0
IsOutcome F D x = (b : ℕ) → (x b ≡ D.blocks b) ⊎ ((r : ℕ) × (v : F.Content) × (D.flight r b ≡ Some v))

-- the live blocks of the journals put in their places, by a choice for each journal
abbrev pub IsReplay : (F : Files) → Disk F → (ℕ → Bool) → (ℕ → F.Content) → (ℕ → F.Content) → Type 0
IsReplay F D choice x r = (b : ℕ) → ((i : ℕ) × (v : F.Content) × ((D.heads i (choice i)).live b ≡ Some v) × (r b ≡ v))
    ⊎ (((i : ℕ) → (D.heads i (choice i)).live b ≡ None) × (r b ≡ x b))

-- contents with the places of an image
abbrev pub placed : (F : Files) → (ℕ → F.Content) → Image F → Image F
placed F r m b = record { content = r b; place = (m b).place }

-- the contents of free blocks don't matter
abbrev pub FreeIsFree : Files → Type 0
FreeIsFree F = (m m' : Image F) (t : F.Tree) → F.Stands m t
    → ((b : ℕ) → (m b ≡ m' b) ⊎ (F.IsFree ((m b).place) × ((m b).place ≡ (m' b).place))) → F.Stands m' t

-- ---- events on the disk

-- the writes in flight of node r are settled; the blocks are then these
abbrev pub ended : (F : Files) → Disk F → ℕ → (ℕ → F.Content) → Disk F
ended F D r x = record D { blocks = x; flight = at (D.flight) r (λ b. None) }

abbrev pub flown : (F : Files) → Disk F → ℕ → ℕ → F.Content → Disk F
flown F D r b v = record D { flight = at (D.flight) r (at (D.flight r) b (Some v)) }

abbrev pub either : {A : Type 0} → A → A → Bool → A
either old new false = old
either old new true = new

-- a header for journal i is in flight
abbrev pub headed : (F : Files) → Disk F → ℕ → Head F → Disk F
headed F D i h = record D { heads = at (D.heads) i (either (D.heads i false) h) }

-- it isn't any more
abbrev pub chosen : (F : Files) → Disk F → ℕ → Bool → Disk F
chosen F D i c = record D { heads = at (D.heads) i (either (D.heads i c) (D.heads i c)) }

-- what a header needs that is to go in flight for journal i
pub record Heads (F : Files) (B : Book F) (D : Disk F) (i : ℕ) (h : Head F) : Type 0 where
  pub cut : (B.low i ≤ h.cut) × (h.cut ≤ B.published i)
  pub lives : (b : ℕ) (v : F.Content) → h.live b ≡ Some v → B.owner b ≡ Some i
  pub owned : (b : ℕ) → B.owner b ≡ Some i → Near F (laid (h.live b) (D.blocks b)) (B.says i (h.cut) b)
  pub flights : (r b : ℕ) (v : F.Content) → D.flight r b ≡ Some v → B.owner b ≡ Some i → h.live b ≡ Some v

-- after a life's end the journal's head counts as having all calls that are left
abbrev pub renumbered : (F : Files) → Disk F → ℕ → ℕ → Disk F
renumbered F D i n = record D { heads = at (D.heads) i (λ c. record { cut = n; live = (D.heads i c).live }) }
