use Rattle.dlm_master.specs.Tables.{lock_of, request_waits}
use Rattle.dlm_rebuild.proofs.ValueLaws.{maybe-written, value-requested}
use Rattle.dlm_rebuild.proofs.Rebuild.request.Goals as goal

pub invariant_of-self : goal.invariant_of-self
invariant_of-self c =
    let m = c.self.inside.master in
    maybe-written c.request.result m c.request.new.self c.args.lock _ c.self.invariant
    (value-requested (request_waits m c.args.node c.args.lock c.args.mode) (lock_of m c.args.lock) c.args.node c.args.mode (c.self.invariant.1 c.args.lock))
    c.request.ensures.ok c.request.ensures.err
