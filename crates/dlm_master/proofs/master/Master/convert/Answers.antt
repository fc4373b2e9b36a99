use Rattle.std.proofs.Common.{◌≡◌, IfOk, refl, sym, ap, ◌∙◌, subst}
use Rattle.dlm_master.specs.declared.claims.Answer.{Answer}
use Rattle.dlm_master.specs.LockState.{LockState}
use Rattle.dlm_master.specs.Locks.{answer_by, convert_cause, converted}
use Rattle.dlm_master.specs.Tables.{MasterState, lock_of, with_state, convert_waits, after_convert}
use Rattle.dlm_master.proofs.TableLaws.{lent, lock-found, put-back, put-same, on-ok, on-err}
use Rattle.dlm_master.proofs.master.Master.convert.Goals as goal

pub returns-clause-answer : goal.returns-clause-answer
returns-clause-answer c =
    let i = c.self.inside in
    let there = lent i.locks.entries c.args.lock c.get_mut.result c.in-Some.found c.get_mut.ensures.value c.in-Some.is in
    let P : LockState → Type 0 = λ l. IfOk c.convert.result (λ (a : Answer). a ≡ answer_by (convert_cause i.blocked.rebuild i.blocked.waiting l c.args.node c.args.mode) l) in
    let Q : MasterState → Type 0 = λ m. IfOk c.convert.result (λ (a : Answer). a ≡ answer_by (convert_waits m c.args.node c.args.lock c.args.mode) (lock_of m c.args.lock)) in
    subst Q c.self.view_is (subst P (sym (lock-found i.locks.entries c.args.lock c.in-Some.found.now there)) c.convert.ensures.answer)

pub returns-clause-ok : goal.returns-clause-ok
returns-clause-ok c =
    let i = c.self.inside in
    let m : MasterState = record { generation = i.generation; rebuild = i.blocked.rebuild; waiting = i.blocked.waiting; table = i.locks.entries } in
    let there = lent i.locks.entries c.args.lock c.get_mut.result c.in-Some.found c.get_mut.ensures.value c.in-Some.is in
    let made = λ (l : LockState). converted (convert_cause i.blocked.rebuild i.blocked.waiting l c.args.node c.args.mode) l c.args.node c.args.mode in
    on-ok c.convert.result _ _
    (λ (e : c.convert.new.self ≡ made c.in-Some.found.now).
    put-back m m c.args.lock c.in-Some.found.now c.convert.new.self (c.get_mut.follows.lender c.convert.new.self).entries refl there (c.get_mut.follows.holds c.convert.new.self).0
    ∙ (ap (with_state m c.args.lock) (e ∙ ap made (sym (lock-found i.locks.entries c.args.lock c.in-Some.found.now there)))
    ∙ ap (λ (n : MasterState). after_convert n c.args.node c.args.lock c.args.mode) c.self.view_is))
    c.convert.ensures.ok

pub returns-clause-err : goal.returns-clause-err
returns-clause-err c =
    let i = c.self.inside in
    let m : MasterState = record { generation = i.generation; rebuild = i.blocked.rebuild; waiting = i.blocked.waiting; table = i.locks.entries } in
    let there = lent i.locks.entries c.args.lock c.get_mut.result c.in-Some.found c.get_mut.ensures.value c.in-Some.is in
    on-err c.convert.result _ _
    (λ (e : c.convert.new.self ≡ c.in-Some.found.now).
    put-same m c.args.self.now c.args.lock c.in-Some.found.now c.convert.new.self (c.get_mut.follows.lender c.convert.new.self).entries c.self.view_is there e (c.get_mut.follows.holds c.convert.new.self).0)
    c.convert.ensures.err
