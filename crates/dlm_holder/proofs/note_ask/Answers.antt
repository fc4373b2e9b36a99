use Rattle.std.proofs.Common.{Option, Some, ap, ◌∙◌, arith}
use Rattle.std.specs.Prelude.{unwrap_or}
use Rattle.std.proofs.lemmas.Grind.{common_steps}
use Rattle.dlm_holder.specs.declared.Holding.{Holding}
use Rattle.dlm_holder.specs.Holdings.{nothing}
use Rattle.glock_names.specs.LockMaps.{with_lock}
use Rattle.dlm_holder.proofs.Writing.{writes}
use Rattle.dlm_holder.proofs.note_ask.Goals as goal

pub returns-clause-ok : goal.returns-clause-ok
returns-clause-ok c =
    let asked : Holding → Holding = λ (x : Holding). record x { wanted = Some c.args.mode } in
    let had = c.or_insert-holding.ensures.value ∙ ap (λ (o : Option Holding). unwrap_or o nothing) c.in_ok-locks.ensures.value in
    let p = c.in_ok-locks.ensures.update.1 (asked c.or_insert-holding.result.now)
    ∙ (writes c.args.locks.now.entries c.args.lock (asked c.or_insert-holding.result.now)
    ∙ ap (λ (x : Holding). with_lock c.args.locks.now.entries c.args.lock (asked x)) had) in
    grind (arith, common_steps, p)
