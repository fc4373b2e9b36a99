use Rattle.std.proofs.Common.{◌≡◌, is_some, refl, sym, ap, ◌∙◌}
use Rattle.dlm_master.specs.Claims.{mode_of_node}
use Rattle.dlm_master.specs.LockState.{LockState}
use Rattle.dlm_master.specs.Locks.{lowered}
use Rattle.dlm_master.specs.Tables.{MasterState, lock_of, with_state, held_by, after_down}
use Rattle.dlm_master.proofs.TableLaws.{lent, lock-found, put-back, holds-some}
use Rattle.dlm_master.proofs.master.Master.down.Goals as goal

pub down-requires : goal.down-requires
down-requires c =
    let i = c.self.inside in
    let there = lent i.locks.entries c.args.lock c.get_mut.result c.in-Some.found c.get_mut.ensures.value c.in-Some.is in
    let same : lock_of c.args.self.now c.args.lock ≡ c.in-Some.found.now =
    ap (λ (n : MasterState). lock_of n c.args.lock) (sym c.self.view_is) ∙ lock-found i.locks.entries c.args.lock c.in-Some.found.now there in
    sym (ap (λ (l : LockState). is_some (mode_of_node l.held c.args.node)) same) ∙ holds-some (held_by c.args.self.now c.args.node c.args.lock) c.args.mode c.requires.above

pub returns : goal.returns
returns c =
    let i = c.self.inside in
    let m : MasterState = record { generation = i.generation; rebuild = i.blocked.rebuild; waiting = i.blocked.waiting; table = i.locks.entries } in
    let there = lent i.locks.entries c.args.lock c.get_mut.result c.in-Some.found c.get_mut.ensures.value c.in-Some.is in
    let made = λ (l : LockState). lowered l c.args.node c.args.mode c.args.value in
    put-back m m c.args.lock c.in-Some.found.now c.down.new.self (c.get_mut.follows.lender c.down.new.self).entries refl there (c.get_mut.follows.holds c.down.new.self).0
    ∙ (ap (with_state m c.args.lock) (c.down.ensures ∙ ap made (sym (lock-found i.locks.entries c.args.lock c.in-Some.found.now there)))
    ∙ ap (λ (n : MasterState). after_down n c.args.node c.args.lock c.args.mode c.args.value) c.self.view_is)
