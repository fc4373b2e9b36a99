-- The records of a leaf that have names which are looked for, and those that have others.
use Rattle.std.specs.Prelude.{ℕ, ◌≡◌, ◌≢◌, ◌+◌, ◌<◌, ◌≤◌, ◌++◌, false, List, Contains, map, take, slice_get, Some}
use Rattle.profile_limits.specs.Limits.{most_journals}
use Rattle.gfs2_layout.specs.Records.{Record, is_dots}
use Rattle.image_model.specs.Journals.{journal_name}
use Rattle.image_mount.specs.Found.{is_system_name, name_count}
use Rattle.image_mount.specs.Listing.{said, standing, AreDistinct}
use Rattle.image_mount.specs.declared.leaf.Names.{Names}
use Rattle.image_mount.specs.declared.leaf.Names.TheVariants.{Files, Journals}
use Rattle.image_mount.specs.declared.listing.Named.{Named}

-- the name is none of a system file's, or of a journal's
abbrev pub IsForeign : Names → List ℕ → Type 0
IsForeign Files name = is_system_name name ≡ false
IsForeign Journals name = (j : ℕ) → j < most_journals → name ≢ journal_name j

-- nor is it `.` or `..`
abbrev pub IsBeside : Names → List ℕ → Type 0
IsBeside names name = (is_dots name ≡ false) × IsForeign names name

-- of the first so many of these records, those are kept that have names which are looked for; so many have others
pub record AreSifted (names : Names) (records : List Named) (n : ℕ) (kept : List Named) (others : ℕ) : Type 0 where
  pub there : (i : ℕ) (m : Named) → slice_get kept i ≡ Some m → (k : ℕ) × ((r : Named) × (k < n) × (slice_get records k ≡ Some r) × (standing r ≡ standing m))
  pub count : name_count (map said (take n records)) ≡ name_count (map said kept) + others
  pub all : others ≡ 0 → map standing kept ≡ map standing (take n records)
  pub beside : 0 < others → (k : ℕ) × ((r : Named) × (slice_get records k ≡ Some r) × IsBeside names r.name.now)
  pub distinct : AreDistinct (map said records) → AreDistinct (map said kept)
  pub few : others ≤ n

-- those of these records of a leaf that have names which are looked for were added; so many have others
pub record AreAdded (names : Names) (before after : List Named) (block : ℕ) (records : List Record) (others : ℕ) : Type 0 where
  pub kept : List Record
  pub added : map standing after ≡ map standing before ++ map (λ r. (r, block)) kept
  pub there : (r : Record) → Contains kept r → Contains records r
  pub count : name_count records ≡ name_count kept + others
  pub all : others ≡ 0 → kept ≡ records
  pub beside : 0 < others → (r : Record) × Contains records r × IsBeside names r.name
