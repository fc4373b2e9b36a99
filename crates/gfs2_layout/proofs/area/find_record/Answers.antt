use Rattle.std.proofs.Common.{◌≤◌, ◌+◌, List, ℕ, Some, length, take, [], refl, arith, ap, ◌∙◌, subst, sym}
use Rattle.std.proofs.lemmas.Bool.Decides.{nat_tests}
use Rattle.gfs2_layout.specs.Area.{slot_at, slots_of, slots_within, first_named}
use Rattle.gfs2_layout.specs.Bytes.{u16_at}
use Rattle.gfs2_layout.proofs.Places.{IsBetween, begins, goes_on, record_at, none_on}
use Rattle.gfs2_layout.proofs.Records.{IsRest, area_is_rest, opens, opens_well, named_in_area, named_here, named_behind, record_length, area_ends}
use Rattle.gfs2_layout.proofs.area.find_record.Goals as goal

pub loop-rest-init : goal.loop-rest-init
loop-rest-init c =
    let area = c.args.area.now in
    let is = area_is_rest area c.requires.area in
    record {
      most = length area;
      is = is;
      named = named_in_area c.args.name.now area;
      opens = opens_well (length area) area is;
      place = begins area c.requires.area;
      none = ap (first_named c.args.name.now) (area_ends [] refl);
    }

pub returns-then-is_record_of : goal.returns-then-is_record_of
returns-then-is_record_of c =
    let some : 1 ≤ length c.loop-rest.rest.now = grind (arith, nat_tests) in
    let so = c.loop-rest.invariant in
    let o = opens so.most c.loop-rest.rest.now some so.is in
    record {
      first = (
        omega (arith, so.place.within, (record_length c.loop-rest.rest.now o.good).0, (record_length c.loop-rest.rest.now o.good).1),
        so.named ∙ named_here c.args.name.now so.most c.loop-rest.rest.now o (sym c.if-is_record_of.ensures) ∙ ap (λ (r : List ℕ). Some (slot_at r)) so.place.rest_is,
      );
      place = record_at c.args.area.now c.loop-rest.at c.loop-rest.rest.now so.place some;
      none_before = so.none;
    }

pub loop-rest-preserved : goal.loop-rest-preserved
loop-rest-preserved c =
    let some : 1 ≤ length c.loop-rest.rest.now = grind (arith, nat_tests) in
    let so = c.loop-rest.invariant in
    let o = opens so.most c.loop-rest.rest.now some so.is in
    let past = c.past_record-length.ensures in
    let is = subst (IsRest o.fewer) (sym past.behind) o.later in
    let on = goes_on c.args.area.now c.loop-rest.at c.loop-rest.rest.now so.place some in
    record {
      most = o.fewer;
      is = is;
      named = so.named ∙ named_behind c.args.name.now so.most c.loop-rest.rest.now o (sym c.if-is_record_of.ensures) ∙ ap (λ (r : List ℕ). first_named c.args.name.now (slots_within o.fewer r)) (sym past.behind);
      opens = opens_well o.fewer _ is;
      place = subst (λ (n : ℕ). IsBetween c.args.area.now (c.loop-rest.at + n) c.past_record-length.result.1.now) (sym past.length)
          (subst (IsBetween c.args.area.now (c.loop-rest.at + u16_at 20 c.loop-rest.rest.now)) (sym past.behind) on.place);
      none = ap (λ (n : ℕ). first_named c.args.name.now (slots_of (take (c.loop-rest.at + n) c.args.area.now))) past.length
          ∙ none_on c.args.name.now c.args.area.now c.loop-rest.at c.loop-rest.rest.now on so.none (sym c.if-is_record_of.ensures);
    }
