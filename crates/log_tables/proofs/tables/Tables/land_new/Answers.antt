use Rattle.std.proofs.Common.{sym, ◌∙◌}
use Rattle.log_tables.specs.Slots.{version_in}
use Rattle.log_tables.proofs.Steps.{lands_it, live_room_left, some_flushed}
use Rattle.log_tables.proofs.tables.Tables.land_new.Goals as goal

pub invariant_of-self : goal.invariant_of-self
invariant_of-self c = absurd (some_flushed c.self.inside c.args.self.now c.args.block c.self.view_is c.requires.there (sym c.take.ensures.was ∙ c.in_default.is))

pub returns-in_default : goal.returns-in_default
returns-in_default c = absurd (some_flushed c.self.inside c.args.self.now c.args.block c.self.view_is c.requires.there (sym c.take.ensures.was ∙ c.in_default.is))

pub put-requires : goal.put-requires
put-requires c = record { room = live_room_left c.self.inside c.args.self.now c.args.block c.self.invariant c.self.view_is c.requires.room }

pub invariant_of-self-2 : goal.invariant_of-self-2
invariant_of-self-2 c =
    (lands_it c.self.inside c.self.invariant c.args.self.now c.args.block c.args.first c.in-Some.cell (version_in c.self.inside.pool c.in-Some.cell) c.take.new.self c.put.new.self c.self.view_is
    (sym c.take.ensures.was ∙ c.in-Some.is) c.requires.rests c.take.ensures.is c.put.ensures.is).0

pub returns : goal.returns
returns c = λ v here.
    (lands_it c.self.inside c.self.invariant c.args.self.now c.args.block c.args.first c.in-Some.cell v c.take.new.self c.put.new.self c.self.view_is (sym c.take.ensures.was ∙ c.in-Some.is)
    c.requires.rests c.take.ensures.is c.put.ensures.is).1 here
