-- What a fence's order makes of a write in flight.
use Rattle.std.specs.Prelude.{ℕ, List, ◌++◌, take, drop}
use Rattle.shared_disk.specs.declared.disk.Settle.{Settle}
use Rattle.shared_disk.specs.declared.disk.Settle.TheVariants.{Old, New, Torn}

-- the block that comes of an old and a new one: of a torn write the first bytes are new
abbrev pub ordered : Settle → List ℕ → List ℕ → List ℕ
ordered Old old new = old
ordered New old new = new
ordered (Torn count) old new = take count new ++ drop count old
