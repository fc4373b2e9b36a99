-- What each step leaves: a hashed directory that is sound, with the records that it had, and where one came, with that.
use Rattle.std.specs.Prelude.{ℕ, ◌≡◌, ◌≢◌, ◌*◌, ◌<◌, ◌≤◌, true, false, List, [], ◌∷◌, length, None}
use Rattle.gfs2_layout.specs.Holding.{Holding}
use Rattle.gfs2_layout.specs.Inode.{depth_in, is_directory_in, is_hashed_in, records_of, table_count}
use Rattle.gfs2_layout.specs.Records.{Record, record_named}
use Rattle.glock_names.specs.declared.steps.Entry.{Entry}
use Rattle.linear_dirs.specs.Exchanges.{HasExchanged}
use Rattle.linear_dirs.specs.Shown.{record_for}
use Rattle.pointer_tables.specs.Tables.{IsDoubled}
use Rattle.hash_dirs.specs.Shown.{IsSound}
use Rattle.hash_steps.specs.Leaves.{HasOneLeaf, leaf_depth}
use Rattle.hash_steps.specs.Steps.{IsConverted, IsLengthened, IsPutInLeaf, IsSplit}

-- it is sound, and has the records that it had
pub record Stays (h g : Holding) : Type 0 where
  pub sound : IsSound g
  pub hashed : is_hashed_in g ≡ true
  pub records : HasExchanged h g [] []

abbrev pub SplitsStay : Type 0
SplitsStay = (h g : Holding) (i b : ℕ) → IsSound h → is_hashed_in h ≡ true → i < table_count h → HasOneLeaf h i → leaf_depth h i < depth_in h → IsSplit h g i b → Stays h g

abbrev pub AddedLeavesStay : Type 0
AddedLeavesStay = (h g : Holding) (i b : ℕ) → IsSound h → is_hashed_in h ≡ true → i < table_count h → IsLengthened h g i b → Stays h g

abbrev pub DoublingsStay : Type 0
DoublingsStay = (h g : Holding) (taken : List ℕ) → IsSound h → is_hashed_in h ≡ true → 2 * table_count h ≤ 8 * h.size → IsDoubled h g taken → Stays h g

-- a linear directory may be any inode of an image that is a directory; no two of its records have one name
abbrev pub ConversionsStay : Type 0
ConversionsStay = (h g : Holding) (b : ℕ) → IsSound h → is_directory_in h ≡ true → is_hashed_in h ≡ false → IsConverted h g b → Stays h g

-- and after a record is put into a leaf, that one too, if its name wasn't there
pub record GetsRecord (h g : Holding) (r : Record) : Type 0 where
  pub sound : IsSound g
  pub hashed : is_hashed_in g ≡ true
  pub records : HasExchanged h g [] (r ∷ [])

abbrev pub PutsGetRecord : Type 0
PutsGetRecord = (h g : Holding) (name : List ℕ) (e : Entry) → IsSound h → is_hashed_in h ≡ true → 1 ≤ length name → length name ≤ 255 → e.number ≢ 0 → e.addr ≢ 0
    → record_named (records_of h) name ≡ None → IsPutInLeaf h g name e → GetsRecord h g (record_for name e)

-- ---- steps one after another

-- records that go in one step, and others that come in the next
abbrev pub ExchangesJoin : Type 0
ExchangesJoin = (h m g : Holding) (gone come : List Record) → HasExchanged h m gone [] → HasExchanged m g [] come → HasExchanged h g gone come
