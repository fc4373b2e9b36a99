use Rattle.std.proofs.Common.{[], ◌∷◌, ◌++◌, map, ap, ◌∙◌}
use mathlib.Core.Option.{some}
use Rattle.turn_table.proofs.shelf.Shelf.new.Goals as goal

pub new-requires : goal.new-requires
new-requires g c =
    let one = c.push_reserved.ensures.items ∙ ap (λ xs. xs ++ c.args.buffer ∷ []) c.in-Ok.ensures.items in
    (c.args.buffer, ap (map some) one, c.requires.empty, c.requires.room)
