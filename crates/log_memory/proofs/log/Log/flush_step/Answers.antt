use Rattle.std.proofs.Common.{sym, ap, ◌∙◌}
use Rattle.log_values.specs.Log.{LogValue}
use Rattle.log_memory.proofs.Answering.{begins_so, begun_now, begun_then, goes_so, no_room_so, nothing_so, size_then}
use Rattle.log_memory.proofs.Sending.{none_begun}
use Rattle.log_memory.proofs.log.Log.flush_step.Goals as goal

pub step-requires-clause-begun : goal.step-requires-clause-begun
step-requires-clause-begun c = begun_then c.self.inside c.self.invariant c.args.self.now c.self.view_is (sym c.is_some.ensures ∙ c.if-is_some.true)

pub returns-then-is_some : goal.returns-then-is_some
returns-then-is_some c =
    let begun = begun_then c.self.inside c.self.invariant c.args.self.now c.self.view_is (sym c.is_some.ensures ∙ c.if-is_some.true) in
    goes_so c.args.self.now c.step.new.log c.step.new.into c.step.result begun (c.step.ensures begun.0 begun.1)

pub step-requires-in-Begun-clause-size : goal.step-requires-in-Begun-clause-size
step-requires-in-Begun-clause-size c = c.requires ∙ sym (size_then c.args.self.now c.start.new.log c.start.result c.in-Begun.is c.start.ensures)

pub step-requires-in-Begun-clause-begun : goal.step-requires-in-Begun-clause-begun
step-requires-in-Begun-clause-begun c = begun_now c.args.self.now c.start.new.log c.start.result c.in-Begun.is c.start.ensures

pub returns-in-Begun : goal.returns-in-Begun
returns-in-Begun c =
    let begun = begun_now c.args.self.now c.start.new.log c.start.result c.in-Begun.is c.start.ensures in
    begins_so c.args.self.now c.start.new.log c.start.result c.in-Begun.is c.start.ensures c.step-in-Begun.new.log c.step-in-Begun.new.into c.step-in-Begun.result (c.step-in-Begun.ensures begun.0 begun.1)

pub returns-in-Nothing : goal.returns-in-Nothing
returns-in-Nothing c =
    let none = ap (λ (log : LogValue). log.flush) (sym c.self.view_is) ∙ none_begun _ c.self.inside.stage (sym c.is_some.ensures ∙ c.if-is_some.false) in
    nothing_so c.args.self.now c.start.new.log c.start.result none c.args.into.now c.in-Nothing.is c.start.ensures

pub returns-in-NoRoom : goal.returns-in-NoRoom
returns-in-NoRoom c =
    let none = ap (λ (log : LogValue). log.flush) (sym c.self.view_is) ∙ none_begun _ c.self.inside.stage (sym c.is_some.ensures ∙ c.if-is_some.false) in
    no_room_so c.args.self.now c.start.new.log c.start.result none c.args.into.now c.in-NoRoom.is c.start.ensures
