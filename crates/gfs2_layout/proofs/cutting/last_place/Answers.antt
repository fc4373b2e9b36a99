use Rattle.std.proofs.Common.{◌≡◌, ◌+◌, List, ℕ, length, arith, sym, subst}
use Rattle.std.proofs.lemmas.Bool.Decides.{nat_tests}
use Rattle.gfs2_layout.specs.Bytes.{u16_at}
use Rattle.gfs2_layout.proofs.Places.{IsBetween, begins, goes_on, record_at}
use Rattle.gfs2_layout.proofs.cutting.last_place.Goals as goal

pub loop-behind-init : goal.loop-behind-init
loop-behind-init c = record { place = begins c.args.area.now c.requires.area; some = c.requires.some }

pub past_record-length-requires : goal.past_record-length-requires
past_record-length-requires c = c.loop-behind.invariant.place.opens c.loop-behind.invariant.some

pub returns-then-is_empty : goal.returns-then-is_empty
returns-then-is_empty c =
    let so = c.loop-behind.invariant in
    let past = c.past_record-length.ensures in
    let none : length c.past_record-length.result.1.now ≡ 0 = grind (arith, nat_tests) in
    let long : c.loop-behind.at + u16_at 20 c.loop-behind.rest.now ≡ length c.args.area.now = omega (arith, so.place.within, past.whole, past.length, none) in
    record {
      here = record_at c.args.area.now c.loop-behind.at c.loop-behind.rest.now so.place so.some;
      ends = subst (λ (r : List ℕ). c.loop-behind.at + u16_at 20 r ≡ length c.args.area.now) so.place.rest_is long;
    }

pub loop-behind-preserved : goal.loop-behind-preserved
loop-behind-preserved c =
    let so = c.loop-behind.invariant in
    let past = c.past_record-length.ensures in
    let on = goes_on c.args.area.now c.loop-behind.at c.loop-behind.rest.now so.place so.some in
    record {
      place = subst (λ (n : ℕ). IsBetween c.args.area.now (c.loop-behind.at + n) c.past_record-length.result.1.now) (sym past.length)
          (subst (IsBetween c.args.area.now (c.loop-behind.at + u16_at 20 c.loop-behind.rest.now)) (sym past.behind) on.place);
      some = grind (arith, nat_tests);
    }
