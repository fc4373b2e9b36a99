use Rattle.std.proofs.Common.{◌≡◌, inl, ap, sym, ◌∙◌, is_some}
use Rattle.std.specs.Option.{option_copied}
use Rattle.std.specs.FinMap as map
use Rattle.fixed_tables.specs.Fixed.{Fixed}
use Rattle.log_tables.specs.Kept.{Kept, flown}
use Rattle.log_tables.specs.Slots.{hold_sent}
use Rattle.log_tables.specs.IsTables.{kept_in}
use Rattle.log_tables.specs.declared.cells.LiveCell.{LiveCell}
use Rattle.log_tables.proofs.Counting.{at_key}
use Rattle.log_tables.proofs.Steps.{Gives, flies_it, flies_none, same_some}
use Rattle.log_tables.proofs.tables.Tables.fly.Goals as goal
use Rattle.log_tables.proofs.tables.Tables.fly.Goals.{After-put-2}

pub returns-in_default : goal.returns-in_default
returns-in_default c =
    sym c.self.view_is ∙ flies_none c.self.inside c.self.invariant c.args.block c.self.inside.live (sym c.get.ensures ∙ ap option_copied c.in_default.is)
    ∙ ap (λ (k : Kept). let x : Kept = record k { live = flown k.live c.args.block (map.get k.live c.args.block) } in x) c.self.view_is

pub put-requires-2 : goal.put-requires-2
put-requires-2 c = record { room = inl (ap (λ (f : Fixed LiveCell). map.contains_key f.at c.args.block) c.put.ensures.is ∙ ap is_some (at_key c.self.inside.live.at c.args.block _)) }

flown_in : (c : After-put-2) → Gives (record c.self.inside { live = c.put-2.new.self }) (record (kept_in c.self.inside) { live = flown (kept_in c.self.inside).live c.args.block (map.get (kept_in c.self.inside).live c.args.block) })
flown_in c =
    let was = sym c.put.ensures.was ∙ c.in-Some-put.is in
    let same : c.in-Some.cell.now ≡ c.in-Some-put.was = same_some (map.get c.self.inside.live.at c.args.block) c.in-Some.cell.now c.in-Some-put.was (sym c.get.ensures ∙ ap option_copied c.in-Some.is) was in
    flies_it c.self.inside c.self.invariant c.args.block c.in-Some.cell.now c.on_its_way-hold.result c.put.new.self c.put-2.new.self
    (sym c.get.ensures ∙ ap option_copied c.in-Some.is)
    (c.on_its_way-hold.ensures ∙ ap (λ (x : LiveCell). hold_sent x.hold) (sym same)) c.put.ensures.is c.put-2.ensures.is

pub invariant_of-self-2 : goal.invariant_of-self-2
invariant_of-self-2 c = (flown_in c).0

pub returns : goal.returns
returns c = (flown_in c).1 ∙ ap (λ (k : Kept). let x : Kept = record k { live = flown k.live c.args.block (map.get k.live c.args.block) } in x) c.self.view_is
