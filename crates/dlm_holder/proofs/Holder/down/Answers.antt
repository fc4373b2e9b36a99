use Rattle.dlm_holder.specs.declared.Holding.{Holding}
use Rattle.dlm_holder.proofs.Writing.{put-back}
use Rattle.dlm_holder.proofs.Holder.down.Goals as goal

pub returns : goal.returns
returns c =
    put-back c.self.inside.locks.entries c.args.self.now _ c.args.lock c.get_mut.result c.in-Some.holding (λ (k : Holding). record k { mode = c.args.mode })
    c.self.view_is c.get_mut.ensures.value c.in-Some.is (c.get_mut.follows.holds _).0
