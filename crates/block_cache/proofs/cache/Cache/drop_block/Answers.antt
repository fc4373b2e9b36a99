use Rattle.std.proofs.Common.{◌∙◌, ap, sym, subst, None}
use Rattle.std.specs.FinMap.{remove}
use Rattle.finite_maps.proofs.Seen.{numbers_remove, get-numbers}
use Rattle.block_cache.specs.declared.shelves.ShelfName.{ShelfName}
use Rattle.block_cache.specs.Shelving.{Removes}
use Rattle.block_cache.proofs.Ties.{sets_cell, gone_tied}
use Rattle.block_cache.proofs.cache.Cache.drop_block.Goals as goal

pub returns-in_default : goal.returns-in_default
returns-in_default c = numbers_remove _ _ _ (c.swap_remove.ensures.updates.0) ∙ ap (λ m. remove m c.args.block) c.self.view_is

pub invariant_of-self-2 : goal.invariant_of-self-2
invariant_of-self-2 c =
    let es = c.self.inside.cells.entries in let es' = c.swap_remove.new.self.entries in let block = c.args.block in
    let P : ShelfName → Type 0 = λ n. Removes c.self.inside.shelves c.remove.new.self n block in
    gone_tied es es' c.self.inside.shelves c.self.invariant c.remove.new.self c.in-Some.cell block (sym c.in-Some.is ∙ c.swap_remove.ensures.value ∙ sym (get-numbers es block))
    (sets_cell es es' block None c.swap_remove.ensures.updates.0) (subst P c.shelf_of.ensures c.remove.ensures)

pub returns : goal.returns
returns c = numbers_remove _ _ _ (c.swap_remove.ensures.updates.0) ∙ ap (λ m. remove m c.args.block) c.self.view_is
