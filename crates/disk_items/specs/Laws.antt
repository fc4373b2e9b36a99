-- Laws of items and operations.
use Rattle.std.specs.Prelude.{List, ◌++◌}
use Rattle.shared_disk.specs.Disk.{Operation}
use Rattle.trace_text.specs.declared.item.TraceItem.{TraceItem}
use Rattle.disk_items.specs.Deeds.{AreDoneBy}

-- items that tell operations, and items behind them that tell others, tell all of these
abbrev pub ItemsGoOn : Type 0
ItemsGoOn = (items more : List TraceItem) (operations others : List Operation) → AreDoneBy items operations → AreDoneBy more others → AreDoneBy (items ++ more) (operations ++ others)
