use Rattle.std.proofs.Common.{◌≡◌, ◌≤◌, length, sym, ap, subst, arith}
use Rattle.drafts.specs.Fates.{seen_in, seen_with}
use Rattle.hash_steps.specs.Shown.{IsShown}
use Rattle.table_changes.specs.Tables.{doubling_need_of}
use Rattle.hash_inserts.specs.Advancing.{StepsOn}
use Rattle.hash_inserts.proofs.DoubleOn.{double_on, needs_doubled, still_full}
use Rattle.hash_inserts.proofs.Onward.{by_pointers}
use Rattle.hash_inserts.proofs.Results.{ok_map}
use Rattle.hash_inserts.proofs.inserting.double_on.Goals as goal

pub returns-clause-doubled : goal.returns-clause-doubled
returns-clause-doubled g c h need can shows at full deepest may =
    let seen = g.V.View.seen in
    let old = c.args.draft.now in
    let now = c.double_table.new.draft in
    let dir = c.args.dir in
    let name = c.args.name.now in
    let parts = c.sound_pointers_are_parts.ensures.parts in
    let needs = needs_doubled h name need c.args.leaf can.takes at.leaf_is at.one full deepest may in
    let enough : doubling_need_of h ≤ length c.args.room.now.items = omega (arith, needs.1, can.enough) in
    let seen_now : seen_in seen now ≡ seen_with (seen old.view) now.fates = ap (λ y. seen_with (seen y) now.fates) c.double_table.ensures.view in
    ok_map c.double_table.result _ _ (λ answer done.
    let m = done.1.0 in
    let on = double_on (seen old.view) old.fates now.fates c.args.room.now.items c.double_table.new.room.items dir name need c.args.leaf h m can at full deepest may done.1.1 done.1.4 parts (subst (λ w. IsShown w dir m) seen_now done.1.2) in (
      done.0,
      (
        m,
        done.1.3,
        still_full (seen old.view) old.fates now.fates c.args.room.now.items c.double_table.new.room.items dir name need c.args.leaf h m can at full deepest may done.1.1 done.1.4 parts,
        subst (λ w. StepsOn (seen old.view) w old.fates now.fates c.args.room.now.items c.double_table.new.room.items dir name need c.args.leaf h m) (sym seen_now) on,
      ),
    )) (c.double_table.ensures.doubled h can.shown shows can.sound can.few may (by_pointers parts (seen_in seen old) h can.sound at.sees) can.free enough)
