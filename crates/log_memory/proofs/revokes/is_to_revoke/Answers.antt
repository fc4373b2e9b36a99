use Rattle.std.proofs.Common.{◌≡◌, ◌&&◌, not, Bool, true, false, Some, slice_get, sym, ap, subst, ◌∙◌}
use Rattle.std.specs.FinMap as table
use Rattle.glock_names.specs.LockMaps.{same_lock}
use Rattle.log_tables.proofs.Reading.{row_gets}
use Rattle.log_values.specs.Log.{LogValue}
use Rattle.log_memory.proofs.Revoking.{newer, revoke_is}
use Rattle.log_memory.proofs.revokes.is_to_revoke.Goals as goal

pub returns-then-is_under : goal.returns-then-is_under
returns-then-is_under c = λ e at.
    let here : slice_get (table.entries c.log.inside.tables.live) c.args.place ≡ Some e = subst (λ (log : LogValue). slice_get (table.entries log.live) c.args.place ≡ Some e) (sym c.log.view_is) at in
    let under : same_lock c.args.lock e.1.lock ≡ true = ap (same_lock c.args.lock) (sym (c.live_lock.ensures e here)) ∙ sym c.is_same_lock-is_under.ensures ∙ c.if-is_under.true in
    ap not (c.has_newer-has_newer.ensures ∙ ap (newer c.args.log.now) (c.live_block.ensures e here)) ∙ ap (λ (t : Bool). t && not (newer c.args.log.now e.0)) (sym under)
    ∙ sym (revoke_is c.args.log.now c.args.lock e (row_gets c.args.log.now.live c.args.place e at))

pub returns-else-is_under : goal.returns-else-is_under
returns-else-is_under c = λ e at.
    let here : slice_get (table.entries c.log.inside.tables.live) c.args.place ≡ Some e = subst (λ (log : LogValue). slice_get (table.entries log.live) c.args.place ≡ Some e) (sym c.log.view_is) at in
    let under : same_lock c.args.lock e.1.lock ≡ false = ap (same_lock c.args.lock) (sym (c.live_lock.ensures e here)) ∙ sym c.is_same_lock-is_under.ensures ∙ c.if-is_under.false in
    c.if-is_under.false ∙ ap (λ (t : Bool). t && not (newer c.args.log.now e.0)) (sym under) ∙ sym (revoke_is c.args.log.now c.args.lock e (row_gets c.args.log.now.live c.args.place e at))
