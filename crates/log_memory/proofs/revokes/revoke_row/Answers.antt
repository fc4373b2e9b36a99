use Rattle.std.proofs.Common.{◌≡◌, ◌∷◌, [], ℕ, true, Some, slice_get, sym, ap, subst, ◌∙◌}
use Rattle.std.specs.FinMap as table
use Rattle.log_values.specs.Log.{LogValue}
use Rattle.log_values.specs.Changes.{has_entry, with_freed}
use Rattle.log_values.specs.Homing.{to_revoke}
use Rattle.log_memory.proofs.Revoking.{marks}
use Rattle.log_memory.proofs.revokes.revoke_row.Goals as goal

pub returns-then-is_to_revoke : goal.returns-then-is_to_revoke
returns-then-is_to_revoke c = λ e at.
    let here : slice_get (table.entries c.log.inside.tables.live) c.args.place ≡ Some e = subst (λ (log : LogValue). slice_get (table.entries log.live) c.args.place ≡ Some e) (sym c.log.view_is) at in
    let is : to_revoke c.args.log.now c.args.lock e.0 ≡ true = sym (c.is_to_revoke.ensures e at) ∙ c.if-is_to_revoke.true in
    c.free.ensures
    ∙ ap (λ (b : ℕ). let n : LogValue = record c.args.log.now { fresh = table.remove c.args.log.now.fresh b; gone = with_freed (has_entry c.args.log.now) (b ∷ []) c.args.log.now.gone } in n) (c.live_block-block.ensures e here)
    ∙ marks c.args.log.now c.args.lock e.0 is
