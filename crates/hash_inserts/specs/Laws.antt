-- What holds from one call to the next.
use Rattle.std.specs.Prelude.{ℕ, ◌≡◌, ◌+◌, ◌^◌, ◌<◌, true, false, None, List, [], ◌++◌}
use Rattle.crc_words.specs.Remainder.{crc32_of}
use Rattle.gfs2_layout.specs.Holding.{Holding}
use Rattle.gfs2_layout.specs.Inode.{is_directory_in, is_hashed_in, records_of}
use Rattle.gfs2_layout.specs.Records.{record_named}
use Rattle.growth_drafts.specs.Taken.{AreFreeFor, HasTaken}
use Rattle.linear_dirs.specs.Exchanges.{HasExchanged}
use Rattle.hash_steps.specs.Shown.{IsSound}
use Rattle.hash_steps.specs.Steps.{IsConverted}
use Rattle.hash_inserts.specs.Needing.{TakesBlocks, TakesBlocksFirst}

-- once a linear directory is a hashed one, a name takes there what it was counted to take beside the first leaf
abbrev pub FirstNeedsStay : Type 0
FirstNeedsStay = (h g : Holding) (b : ℕ) (name : List ℕ) (n : ℕ) → IsSound h → is_directory_in h ≡ true → is_hashed_in h ≡ false → IsConverted h g b → crc32_of name < 2 ^ 32
    → TakesBlocksFirst h name n → (more : ℕ) × TakesBlocks g name more × (n ≡ more + 1)

-- what is left of a room, once its front was taken, may be taken for the directory that took that
abbrev pub RoomsStayFree : Type 0
RoomsStayFree = (h g : Holding) (taken room left : List ℕ) → AreFreeFor h room → room ≡ taken ++ left → HasTaken h g taken → AreFreeFor g left

-- a name that a directory hasn't it hasn't where its records stayed
abbrev pub AbsentNamesStay : Type 0
AbsentNamesStay = (h g : Holding) (name : List ℕ) → HasExchanged h g [] [] → record_named (records_of h) name ≡ None → record_named (records_of g) name ≡ None
