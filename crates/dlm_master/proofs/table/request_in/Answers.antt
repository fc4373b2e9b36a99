use Rattle.std.proofs.Common.{arith}
use Rattle.std.proofs.lemmas.Grind.{common_steps}
use Rattle.dlm_master.specs.LockState.{LockState}
use Rattle.dlm_master.specs.Locks.{request_cause, requested}
use Rattle.dlm_master.proofs.TableLaws.{made-of, taken-back}
use Rattle.dlm_master.proofs.table.request_in.Goals as goal

pub returns-in-Ok-clause-ok : goal.returns-in-Ok-clause-ok
returns-in-Ok-clause-ok c =
    let made : LockState → LockState = λ (l : LockState). requested (request_cause c.args.blocked.rebuild c.args.blocked.waiting l c.args.claim.node c.args.claim.mode) l c.args.claim.node c.args.claim.mode in
    let wrote = made-of c.args.locks.now.entries _ c.args.lock _ _ _ _ made c.or_insert-found.ensures.value c.in_ok-locks.ensures.value c.new.ensures (c.in_ok-locks.ensures.update.1 c.request.new.self) c.in-Ok.ensures.ok in
    grind (arith, common_steps, wrote)

pub returns-in-Err-clause-err : goal.returns-in-Err-clause-err
returns-in-Err-clause-err c =
    let wrote = made-of c.args.locks.now.entries _ c.args.lock _ _ _ _ (λ (l : LockState). l) c.or_insert-found.ensures.value c.in_ok-locks.ensures.value c.new.ensures (c.in_ok-locks.ensures.update.1 c.request.new.self) c.in-Err.ensures.err in
    let back = taken-back c.args.locks.now.entries c.args.lock in
    grind (arith, common_steps, wrote, back, c.len-known.ensures.len, c.truncate.ensures.entries)
