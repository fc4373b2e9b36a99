-- Items, and items behind them.
use Rattle.std.proofs.Common.{List, ◌++◌, sym, ap₂, ◌∙◌}
use Rattle.std.proofs.lemmas.List.{map-append}
use Rattle.std.proofs.lemmas.List.Elements.{filter_map-append}
use Rattle.disk_items.specs.Deeds.{Deed, deed_of, deed_told}
use Rattle.disk_items.specs.Laws.{ItemsGoOn}

pub goes_on : ItemsGoOn
goes_on items more operations others first second =
    filter_map-append deed_told items more ∙ ap₂ (λ (xs ys : List Deed). xs ++ ys) first second ∙ sym (map-append deed_of operations others)
