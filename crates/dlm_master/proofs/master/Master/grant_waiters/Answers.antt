use Rattle.std.proofs.Common.{◌≡◌, Option, cond, refl, sym, ap, ◌∙◌}
use Rattle.std.specs.Prelude.{is_none}
use Rattle.dlm_master.specs.LockState.{LockState}
use Rattle.dlm_master.specs.Locks.{after_grants}
use Rattle.dlm_master.specs.Tables.{MasterState, lock_of, with_state, after_turns}
use Rattle.dlm_master.proofs.TableLaws.{lent, lock-found, put-back, put-same, on-ok, on-err}
use Rattle.dlm_master.proofs.master.Master.grant_waiters.Goals as goal

pub returns-clause-ok : goal.returns-clause-ok
returns-clause-ok c =
    let i = c.self.inside in
    let m : MasterState = record { generation = i.generation; rebuild = i.blocked.rebuild; waiting = i.blocked.waiting; table = i.locks.entries } in
    let there = lent i.locks.entries c.args.lock c.get_mut.result c.in-Some.found c.get_mut.ensures.value c.in-Some.is in
    let turned : with_state m c.args.lock (after_grants (lock_of m c.args.lock)) ≡ after_turns m c.args.lock =
    sym (ap (λ (o : Option LockState). cond (is_none o) m (with_state m c.args.lock (after_grants (lock_of m c.args.lock)))) there) in
    on-ok c.next_grants.result _ _
    (λ (e : c.next_grants.new.self ≡ after_grants c.in-Some.found.now).
    put-back m m c.args.lock c.in-Some.found.now c.next_grants.new.self (c.get_mut.follows.lender c.next_grants.new.self).entries refl there (c.get_mut.follows.holds c.next_grants.new.self).0
    ∙ (ap (with_state m c.args.lock) (e ∙ ap after_grants (sym (lock-found i.locks.entries c.args.lock c.in-Some.found.now there)))
    ∙ (turned ∙ ap (λ (n : MasterState). after_turns n c.args.lock) c.self.view_is)))
    c.next_grants.ensures.ok

pub returns-clause-err : goal.returns-clause-err
returns-clause-err c =
    let i = c.self.inside in
    let m : MasterState = record { generation = i.generation; rebuild = i.blocked.rebuild; waiting = i.blocked.waiting; table = i.locks.entries } in
    let there = lent i.locks.entries c.args.lock c.get_mut.result c.in-Some.found c.get_mut.ensures.value c.in-Some.is in
    on-err c.next_grants.result _ _
    (λ (e : c.next_grants.new.self ≡ c.in-Some.found.now).
    put-same m c.args.self.now c.args.lock c.in-Some.found.now c.next_grants.new.self (c.get_mut.follows.lender c.next_grants.new.self).entries c.self.view_is there e (c.get_mut.follows.holds c.next_grants.new.self).0)
    c.next_grants.ensures.err
