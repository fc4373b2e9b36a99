use Rattle.std.proofs.Common.{sym, ap, ◌∙◌}
use Rattle.std.specs.FinMap.{get-empty}
use Rattle.std.specs.Ordering.{nat_cmp}
use Rattle.block_cache.specs.Shelving.{Shelved, on_shelf}
use Rattle.block_cache.specs.Tie.{belongs, cell_at}
use Rattle.block_cache.proofs.cache.Cache.new.Goals as goal

pub invariant_of-result : goal.invariant_of-result
invariant_of-result c =
    λ name b. ap (λ (v : Shelved). on_shelf v name b) c.new-2.ensures ∙ sym (ap (belongs name) (get-empty nat_cmp b)) ∙ sym (ap (λ es. belongs name (cell_at es b)) c.new.ensures.empty)
