use Rattle.std.proofs.Common.{[], None, cond, false, ap, ◌∙◌}
use Rattle.std.specs.Prelude.{unwrap_or}
use Rattle.block_cache.specs.Shelving.{Shelved, has, same_shelf, on_shelf}
use Rattle.block_cache.proofs.Shelving.{set_shelf}
use Rattle.block_cache.proofs.shelves.Shelves.take.Goals as goal

pub returns-clause-taken : goal.returns-clause-taken
returns-clause-taken c = λ b. ap (λ o. has (unwrap_or o []) b) c.swap_remove.ensures.value ∙ ap (λ (v : Shelved). on_shelf v c.args.name b) c.self.view_is

pub returns-clause-gone : goal.returns-clause-gone
returns-clause-gone c =
    λ s b. set_shelf c.self.inside.shelves.entries c.swap_remove.new.self.entries c.args.name None c.swap_remove.ensures.updates.0 s b
    ∙ ap (λ (v : Shelved). cond (same_shelf c.args.name s) false (on_shelf v s b)) c.self.view_is
