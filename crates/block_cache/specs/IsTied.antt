-- What always holds of the fields of a cache.
use Rattle.block_cache.specs.declared.cache.Cache.TheInside.{Inside}
use Rattle.block_cache.specs.Tie.{Tied}

abbrev pub IsTied : Inside → Type 0
IsTied c = Tied c.cells.entries c.shelves
