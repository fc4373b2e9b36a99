use Rattle.std.proofs.Common.{◌∙◌, [], not, ap}
use Rattle.std.specs.Prelude.{unwrap_or}
use Rattle.std.specs.FinMap.{get}
use Rattle.block_cache.specs.Cells.{Cells, kept_if}
use Rattle.block_cache.specs.Shelving.{same_shelf}
use Rattle.block_cache.specs.Tie.{shelf_of}
use Rattle.block_cache.proofs.Ties.{shelf_tied, shelf_dropped}
use Rattle.block_cache.proofs.cache.Cache.drop_shelf.Goals as goal

pub invariant_of-self : goal.invariant_of-self
invariant_of-self c =
    shelf_tied c.self.inside.cells.entries c.remove_all.new.cells.entries c.self.inside.shelves c.self.invariant c.take-shelf.new.self c.args.name (unwrap_or c.take-shelf.result [])
    c.take-shelf.ensures.taken c.take-shelf.ensures.gone c.remove_all.ensures

pub returns : goal.returns
returns c = λ b.
    shelf_dropped c.self.inside.cells.entries c.remove_all.new.cells.entries c.self.inside.shelves c.self.invariant c.take-shelf.new.self c.args.name (unwrap_or c.take-shelf.result [])
    c.take-shelf.ensures.taken c.take-shelf.ensures.gone c.remove_all.ensures b
    ∙ ap (λ (m : Cells). kept_if (λ x. not (same_shelf c.args.name (shelf_of x))) (get m b)) c.self.view_is
