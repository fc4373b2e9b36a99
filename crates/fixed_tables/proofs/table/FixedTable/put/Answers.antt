use Rattle.std.proofs.Common.{◌≡◌, ◌<◌, ◌≤◌, Some, sym, ap, ◌∙◌, vec_len, vec_capacity, is_ok, true, true≢false, ◌+◌, arith}
use Rattle.std.specs.Ordering.{nat_cmp}
use Rattle.std.specs.Vec.{with_item}
use Rattle.std.specs.FinMap as map
use Rattle.std.specs.FinMap.Entries.{put}
use Rattle.fixed_tables.specs.Fixed.{Fixed}
use Rattle.fixed_tables.specs.Rows.{IsBetween}
use Rattle.fixed_tables.proofs.Tables.{at_in, between_in, found, missed, put_stays, puts, put_over, put_new, has_room}
use Rattle.fixed_tables.proofs.table.FixedTable.put.Given.{Over}
use Rattle.fixed_tables.proofs.table.FixedTable.put.Goals as goal
use Rattle.fixed_tables.proofs.table.FixedTable.put.Goals.{In-Ok-insert}

pub invariant_of-self : goal.invariant_of-self
invariant_of-self g c =
    put_stays c.self.inside c.self.invariant (with_item c.self.inside.rows c.in-Ok.place (c.index_mut-row.result.now.0, c.replace.new.dest)) c.args.key c.args.value
    (put_over c.self.inside c.self.invariant c.in-Ok.place c.args.key c.index_mut-row.result.now c.replace.new.dest c.args.value
    (at_in c.deref.result.now c.self.inside.rows.items c.in-Ok.place c.args.key c.deref.ensures.value c.in-Ok.ensures.there) c.index_mut-row.ensures.value c.replace.ensures.after)
    c.self.invariant.fits c.self.invariant.room

pub returns-in-Ok-clause-was : goal.returns-in-Ok-clause-was
returns-in-Ok-clause-was g c =
    ap Some c.replace.ensures.value
    ∙ found c.self.inside c.self.invariant c.in-Ok.place c.args.key c.index_mut-row.result.now
    (at_in c.deref.result.now c.self.inside.rows.items c.in-Ok.place c.args.key c.deref.ensures.value c.in-Ok.ensures.there) c.index_mut-row.ensures.value
    ∙ ap (λ (f : Fixed g.row.V.Denot). map.get f.at c.args.key) c.self.view_is

pub returns-in-Ok-clause-is : goal.returns-in-Ok-clause-is
returns-in-Ok-clause-is g c =
    puts c.self.inside c.self.invariant (with_item c.self.inside.rows c.in-Ok.place (c.index_mut-row.result.now.0, c.replace.new.dest)) c.args.key c.args.value
    (put_over c.self.inside c.self.invariant c.in-Ok.place c.args.key c.index_mut-row.result.now c.replace.new.dest c.args.value
    (at_in c.deref.result.now c.self.inside.rows.items c.in-Ok.place c.args.key c.deref.ensures.value c.in-Ok.ensures.there) c.index_mut-row.ensures.value c.replace.ensures.after)
    ∙ ap (λ (f : Fixed g.row.V.Denot). let e : Fixed g.row.V.Denot = record f { at = map.insert f.at c.args.key c.args.value } in e) c.self.view_is

-- ---- a row more

between : (g : Over) (c : In-Ok-insert g) → IsBetween c.self.inside.rows.items c.in-Err.place c.args.key
between g c = between_in c.deref.result.now c.self.inside.rows.items c.in-Err.place c.args.key c.deref.ensures.value c.in-Err.ensures.absent

pub unreachable-requires : goal.unreachable-requires
unreachable-requires g c =
    let less =
    has_room c.self.inside c.self.invariant c.args.self.now c.in-Err.place c.args.key c.self.view_is
    (between_in c.deref.result.now c.self.inside.rows.items c.in-Err.place c.args.key c.deref.ensures.value c.in-Err.ensures.absent) c.requires.room in
    let is : is_ok c.insert.result ≡ true = c.insert.ensures.succeeds (let more = c.self.invariant.room in omega arith) in
    true≢false (sym is ∙ ap is_ok c.in-Err-insert.is)

room : (g : Over) (c : In-Ok-insert g) → vec_len c.self.inside.rows < c.self.inside.room
room g c = has_room c.self.inside c.self.invariant c.args.self.now c.in-Err.place c.args.key c.self.view_is (between g c) c.requires.room

in_is : (g : Over) (c : In-Ok-insert g) → c.insert.new.self.items ≡ put nat_cmp c.args.key c.args.value c.self.inside.rows.items
in_is g c = c.in-Ok-insert.ensures.items ∙ put_new c.self.inside c.self.invariant c.in-Err.place c.args.key c.args.value (between g c)

pub invariant_of-self-in-Err : goal.invariant_of-self-in-Err
invariant_of-self-in-Err g c =
    put_stays c.self.inside c.self.invariant c.insert.new.self c.args.key c.args.value (in_is g c)
    (let less = room g c in let len : vec_len c.insert.new.self ≡ vec_len c.self.inside.rows + 1 = c.in-Ok-insert.ensures.len in omega arith)
    (let more = c.self.invariant.room in let grows : vec_capacity c.self.inside.rows ≤ vec_capacity c.insert.new.self = c.insert.ensures.capacity in omega arith)

pub returns-in-Ok-insert-clause-was : goal.returns-in-Ok-insert-clause-was
returns-in-Ok-insert-clause-was g c =
    missed c.self.inside c.self.invariant c.in-Err.place c.args.key (between g c) ∙ ap (λ (f : Fixed g.row.V.Denot). map.get f.at c.args.key) c.self.view_is

pub returns-in-Ok-insert-clause-is : goal.returns-in-Ok-insert-clause-is
returns-in-Ok-insert-clause-is g c =
    puts c.self.inside c.self.invariant c.insert.new.self c.args.key c.args.value (in_is g c)
    ∙ ap (λ (f : Fixed g.row.V.Denot). let e : Fixed g.row.V.Denot = record f { at = map.insert f.at c.args.key c.args.value } in e) c.self.view_is
