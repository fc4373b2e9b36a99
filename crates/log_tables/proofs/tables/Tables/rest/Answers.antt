use Rattle.std.proofs.Common.{◌≡◌, ◌-◌, ap, sym, ◌∙◌}
use Rattle.std.specs.Option.{option_and_then, option_copied}
use Rattle.std.specs.FinMap as map
use Rattle.log_tables.specs.Kept.{Kept, rested}
use Rattle.log_tables.specs.Slots.{frame_of_hold}
use Rattle.log_tables.specs.Slots.Slot.{Live}
use Rattle.log_tables.specs.IsTables.{kept_in}
use Rattle.log_tables.specs.declared.cells.LiveCell.{LiveCell}
use Rattle.log_tables.proofs.Keeping.{some_taken_live}
use Rattle.log_tables.proofs.Steps.{Gives, rests_away, rests_home, rests_none, row_is, same_some}
use Rattle.log_tables.proofs.tables.Tables.rest.Goals as goal
use Rattle.log_tables.proofs.tables.Tables.rest.Goals.{In_default-frame_in, After-give}

pub returns-in_default : goal.returns-in_default
returns-in_default c =
    sym c.self.view_is ∙ rests_none c.self.inside c.self.invariant c.args.block c.self.inside.live (sym c.get.ensures ∙ ap option_copied c.in_default.is)
    ∙ ap (λ (k : Kept). let x : Kept = record k { live = rested k.live c.args.block (map.get k.live c.args.block) } in x) c.self.view_is

pub give-requires : goal.give-requires
give-requires c =
    c.self.invariant.held.out (Live c.args.block) c.in-Some-frame_in.frame
    (ap (option_and_then (λ (x : LiveCell). frame_of_hold x.hold)) (sym c.put.ensures.was ∙ c.in-Some-put.is) ∙ sym c.frame_in.ensures ∙ c.in-Some-frame_in.is)

pub overflow_sub-self : goal.overflow_sub-self
overflow_sub-self c =
    some_taken_live c.self.inside c.self.invariant c.args.block c.in-Some-frame_in.frame c.in-Some-put.was (sym c.put.ensures.was ∙ c.in-Some-put.is) (sym c.frame_in.ensures ∙ c.in-Some-frame_in.is)

given : (c : After-give) → Gives (record c.self.inside { pool = c.give.new.self; live = c.put.new.self; taken = c.self.inside.taken - 1 })
    (record (kept_in c.self.inside) { live = rested (kept_in c.self.inside).live c.args.block (map.get (kept_in c.self.inside).live c.args.block) })
given c =
    let was = sym c.put.ensures.was ∙ c.in-Some-put.is in
    let same : c.in-Some.cell.now ≡ c.in-Some-put.was = same_some (map.get c.self.inside.live.at c.args.block) c.in-Some.cell.now c.in-Some-put.was (sym c.get.ensures ∙ ap option_copied c.in-Some.is) was in
    let row = row_is c.self.inside c.self.invariant c.args.block c.put.new.self c.in-Some.cell.now c.in-Some-put.was same c.put.ensures.is in
    rests_away c.self.inside c.self.invariant c.args.block c.put.new.self c.in-Some-put.was c.in-Some-frame_in.frame c.give.new.self was (sym c.frame_in.ensures ∙ c.in-Some-frame_in.is) c.give.ensures row

pub invariant_of-self-in-Some-frame_in : goal.invariant_of-self-in-Some-frame_in
invariant_of-self-in-Some-frame_in c = (given c).0

pub returns-in-Some-frame_in : goal.returns-in-Some-frame_in
returns-in-Some-frame_in c = (given c).1 ∙ ap (λ (k : Kept). let x : Kept = record k { live = rested k.live c.args.block (map.get k.live c.args.block) } in x) c.self.view_is

home : (c : In_default-frame_in) → Gives (record c.self.inside { live = c.put.new.self })
    (record (kept_in c.self.inside) { live = rested (kept_in c.self.inside).live c.args.block (map.get (kept_in c.self.inside).live c.args.block) })
home c =
    let was = sym c.put.ensures.was ∙ c.in-Some-put.is in
    let same : c.in-Some.cell.now ≡ c.in-Some-put.was = same_some (map.get c.self.inside.live.at c.args.block) c.in-Some.cell.now c.in-Some-put.was (sym c.get.ensures ∙ ap option_copied c.in-Some.is) was in
    let row = row_is c.self.inside c.self.invariant c.args.block c.put.new.self c.in-Some.cell.now c.in-Some-put.was same c.put.ensures.is in
    rests_home c.self.inside c.self.invariant c.args.block c.put.new.self c.in-Some-put.was was (sym c.frame_in.ensures ∙ c.in_default-frame_in.is) row

pub invariant_of-self-in_default-frame_in : goal.invariant_of-self-in_default-frame_in
invariant_of-self-in_default-frame_in c = (home c).0

pub returns-in_default-frame_in : goal.returns-in_default-frame_in
returns-in_default-frame_in c = (home c).1 ∙ ap (λ (k : Kept). let x : Kept = record k { live = rested k.live c.args.block (map.get k.live c.args.block) } in x) c.self.view_is
