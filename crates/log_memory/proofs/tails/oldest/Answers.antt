use Rattle.std.proofs.Common.{◌≡◌, ◌+◌, ◌<◌, ℕ, Option, Some, length, slice_get, sym, ap, subst, ◌∙◌, arith}
use Rattle.std.specs.FinMap as table
use Rattle.log_values.specs.Log.{LogValue}
use Rattle.log_memory.specs.Flushing.{older}
use Rattle.log_memory.proofs.Oldest.{IsOldestOf, none_needed, none_seen, passed_over, tail_then, taken_in}
use Rattle.log_memory.proofs.RowsRead.{entry_at}
use Rattle.log_memory.proofs.tails.oldest.Goals as goal
use Rattle.log_memory.proofs.tails.oldest.Goals.{then-is_needed, else-is_needed}

pub loop-place-init : goal.loop-place-init
loop-place-init c = λ f begun. none_seen c.args.log.now f

pub loop-place-preserved : goal.loop-place-preserved
loop-place-preserved c = λ f begun.
    let log = c.args.log.now in
    let place = c.loop-place.place in
    let all = c.live_len-place-end.ensures ∙ ap (λ (x : LogValue). table.len x.live) c.log.view_is ∙ table.len-entries log.live in
    let inside : place < length (table.entries log.live) = omega (arith, all, c.loop-place-test.true) in
    let row = entry_at (table.entries log.live) place inside in
    let here = subst (λ (x : LogValue). slice_get (table.entries x.live) place ≡ Some row.0) (sym c.log.view_is) row.1 in
    elim c.if-is_needed.branch [
      | then-is_needed w ↦
          subst (λ (o : Option ℕ). IsOldestOf log f (place + 1) o) (sym (w.oldest-is ∙ ap Some (w.older.ensures ∙ ap (older log c.loop-place.oldest) (w.live_first.ensures row.0 here))))
          (taken_in log f place row.0 row.1 c.loop-place.oldest (sym (c.is_needed.ensures f row.0 begun row.1) ∙ w.if-is_needed.true) (c.loop-place.invariant f begun))
      | else-is_needed w ↦
          subst (λ (o : Option ℕ). IsOldestOf log f (place + 1) o) (sym w.oldest-is)
          (passed_over log f place row.0 row.1 c.loop-place.oldest (sym (c.is_needed.ensures f row.0 begun row.1) ∙ w.if-is_needed.false) (c.loop-place.invariant f begun))
    ]

pub returns-clause-none : goal.returns-clause-none
returns-clause-none c = λ f begun is.
    let all = c.live_len-place-end.ensures ∙ ap (λ (x : LogValue). table.len x.live) c.log.view_is in
    none_needed c.args.log.now f c.loop-place.place (omega (arith, all, c.loop-place-test.false)) c.loop-place.oldest is (c.loop-place.invariant f begun)

pub returns-clause-some : goal.returns-clause-some
returns-clause-some c = λ f tail begun is.
    let all = c.live_len-place-end.ensures ∙ ap (λ (x : LogValue). table.len x.live) c.log.view_is in
    tail_then c.args.log.now f c.loop-place.place (omega (arith, all, c.loop-place-test.false)) c.loop-place.oldest tail is (c.loop-place.invariant f begun)
