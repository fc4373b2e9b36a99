use Rattle.std.proofs.Common.{◌≡◌, ◌+◌, sym, ap, ◌∙◌, vec_len, vec_capacity, arith}
use Rattle.std.specs.FinMap as map
use Rattle.fixed_tables.specs.Fixed.{Fixed}
use Rattle.fixed_tables.specs.Rows.{IsAt, IsBetween}
use Rattle.fixed_tables.proofs.Tables.{at_in, between_in, found, missed, nothing_to_take, remove_stays, removes, take_out, without}
use Rattle.fixed_tables.proofs.table.FixedTable.take.Given.{Over}
use Rattle.fixed_tables.proofs.table.FixedTable.take.Goals as goal
use Rattle.fixed_tables.proofs.table.FixedTable.take.Goals.{After-remove-value, In-Err}

at_place : (g : Over) (c : After-remove-value g) → IsAt c.self.inside.rows.items c.in-Ok.place c.args.key
at_place g c = at_in c.deref.result.now c.self.inside.rows.items c.in-Ok.place c.args.key c.deref.ensures.value c.in-Ok.ensures.there

out_is : (g : Over) (c : After-remove-value g) → c.remove-value.new.self.items ≡ without c.self.inside c.self.invariant c.remove-value.new.self c.args.key
out_is g c = c.remove-value.ensures.items ∙ take_out c.self.inside c.self.invariant c.in-Ok.place c.args.key (at_place g c)

pub invariant_of-self : goal.invariant_of-self
invariant_of-self g c =
    remove_stays c.self.inside c.self.invariant c.remove-value.new.self c.args.key (out_is g c)
    (let fits = c.self.invariant.fits in let len : vec_len c.remove-value.new.self + 1 ≡ vec_len c.self.inside.rows = c.remove-value.ensures.len in omega arith)
    (let more = c.self.invariant.room in let stays : vec_capacity c.remove-value.new.self ≡ vec_capacity c.self.inside.rows = c.remove-value.ensures.capacity in omega arith)

pub returns-in-Ok-clause-was : goal.returns-in-Ok-clause-was
returns-in-Ok-clause-was g c =
    found c.self.inside c.self.invariant c.in-Ok.place c.args.key c.remove-value.result (at_place g c) c.remove-value.ensures.value
    ∙ ap (λ (f : Fixed g.row.V.Denot). map.get f.at c.args.key) c.self.view_is

pub returns-in-Ok-clause-is : goal.returns-in-Ok-clause-is
returns-in-Ok-clause-is g c =
    removes c.self.inside c.self.invariant c.remove-value.new.self c.args.key (out_is g c)
    ∙ ap (λ (f : Fixed g.row.V.Denot). let e : Fixed g.row.V.Denot = record f { at = map.remove f.at c.args.key } in e) c.self.view_is

-- ---- what isn't there

between : (g : Over) (c : In-Err g) → IsBetween c.self.inside.rows.items c.in-Err.field-0 c.args.key
between g c = between_in c.deref.result.now c.self.inside.rows.items c.in-Err.field-0 c.args.key c.deref.ensures.value c.in-Err.ensures.absent

pub returns-in-Err-clause-was : goal.returns-in-Err-clause-was
returns-in-Err-clause-was g c =
    missed c.self.inside c.self.invariant c.in-Err.field-0 c.args.key (between g c) ∙ ap (λ (f : Fixed g.row.V.Denot). map.get f.at c.args.key) c.self.view_is

pub returns-in-Err-clause-is : goal.returns-in-Err-clause-is
returns-in-Err-clause-is g c =
    sym c.self.view_is
    ∙ removes c.self.inside c.self.invariant c.self.inside.rows c.args.key (nothing_to_take c.self.inside c.self.invariant c.in-Err.field-0 c.args.key (between g c))
    ∙ ap (λ (f : Fixed g.row.V.Denot). let e : Fixed g.row.V.Denot = record f { at = map.remove f.at c.args.key } in e) c.self.view_is
