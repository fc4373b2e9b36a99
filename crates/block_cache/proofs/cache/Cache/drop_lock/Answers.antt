use Rattle.std.proofs.Common.{◌∙◌, false, sym, ap}
use Rattle.std.specs.FinMap.{get}
use Rattle.block_cache.specs.Cells.{kept_if, stays}
use Rattle.block_cache.proofs.Ties.{off, plain_goes, both_go}
use Rattle.block_cache.proofs.cache.Cache.drop_lock.Goals as goal

pub returns-then-keep_meta : goal.returns-then-keep_meta
returns-then-keep_meta c = λ b.
    c.drop_shelf.ensures b ∙ plain_goes c.args.lock (get c.args.self.now b) ∙ (λ i. kept_if (stays c.args.lock (sym c.if-keep_meta.true i)) (get c.args.self.now b))

pub returns : goal.returns
returns c = λ b.
    c.drop_shelf-2.ensures b ∙ ap (kept_if (off c.args.lock false)) (c.drop_shelf.ensures b) ∙ both_go c.args.lock (get c.args.self.now b)
    ∙ (λ i. kept_if (stays c.args.lock (sym c.if-keep_meta.false i)) (get c.args.self.now b))
