use Rattle.std.proofs.Common.{sym, ap, ◌∙◌}
use Rattle.std.specs.Option.{option_map}
use Rattle.std.specs.FinMap as map
use Rattle.log_tables.specs.Kept.{Kept}
use Rattle.log_tables.specs.Slots.Slot.{Fresh}
use Rattle.log_tables.specs.declared.cells.Cell.{Cell}
use Rattle.log_tables.proofs.Keeping.{some_taken}
use Rattle.log_tables.proofs.Steps.{drops_it, drops_nothing}
use Rattle.log_tables.proofs.tables.Tables.remove.Goals as goal

pub invariant_of-self : goal.invariant_of-self
invariant_of-self c = (drops_nothing c.self.inside c.self.invariant c.args.block c.take.new.self c.take.ensures.is (sym c.take.ensures.was ∙ c.in_default.is)).0

pub returns-in_default : goal.returns-in_default
returns-in_default c =
    (drops_nothing c.self.inside c.self.invariant c.args.block c.take.new.self c.take.ensures.is (sym c.take.ensures.was ∙ c.in_default.is)).1
    ∙ ap (λ (k : Kept). let x : Kept = record k { fresh = map.remove k.fresh c.args.block } in x) c.self.view_is

pub give-requires : goal.give-requires
give-requires c = c.self.invariant.held.out (Fresh c.args.block) c.in-Some.cell.frame (ap (option_map (λ (x : Cell). x.frame)) (sym c.take.ensures.was ∙ c.in-Some.is))

pub overflow_sub-self : goal.overflow_sub-self
overflow_sub-self c = some_taken c.self.inside c.self.invariant c.args.block c.in-Some.cell (sym c.take.ensures.was ∙ c.in-Some.is)

pub invariant_of-self-2 : goal.invariant_of-self-2
invariant_of-self-2 c =
    (drops_it c.self.inside c.self.invariant c.args.block c.take.new.self c.take.ensures.is c.in-Some.cell c.give.new.self (sym c.take.ensures.was ∙ c.in-Some.is) c.give.ensures).0

pub returns : goal.returns
returns c =
    (drops_it c.self.inside c.self.invariant c.args.block c.take.new.self c.take.ensures.is c.in-Some.cell c.give.new.self (sym c.take.ensures.was ∙ c.in-Some.is) c.give.ensures).1
    ∙ ap (λ (k : Kept). let x : Kept = record k { fresh = map.remove k.fresh c.args.block } in x) c.self.view_is
