use Rattle.dlm_master.specs.Tables.{lock_of, convert_waits}
use Rattle.dlm_rebuild.proofs.ValueLaws.{maybe-written, value-converted}
use Rattle.dlm_rebuild.proofs.Rebuild.convert.Goals as goal

pub invariant_of-self : goal.invariant_of-self
invariant_of-self c =
    let m = c.self.inside.master in
    maybe-written c.convert.result m c.convert.new.self c.args.lock _ c.self.invariant
    (value-converted (convert_waits m c.args.node c.args.lock c.args.mode) (lock_of m c.args.lock) c.args.node c.args.mode (c.self.invariant.1 c.args.lock))
    c.convert.ensures.ok c.convert.ensures.err
