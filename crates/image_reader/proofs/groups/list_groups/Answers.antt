use Rattle.std.proofs.Common.{◌≡◌, ◌≤◌, ◌∷◌, ◌++◌, take, drop, sym, ap, ◌∙◌, subst, arith, append-nil}
use Rattle.gfs2_layout.specs.Structures.{rindex_of}
use Rattle.image_model.specs.Groups.{groups_in, end_of}
use Rattle.image_model.specs.Listing.{RiseFrom, end_after}
use Rattle.image_reader.specs.Reading.{image_at}
use Rattle.image_model.proofs.Listing.{groups_cons, groups_none, one_more, rise_more, end_more}
use Rattle.image_reader.proofs.groups.list_groups.Goals as goal

pub loop-rest-init : goal.loop-rest-init
loop-rest-init c = record {
  listed = ap (λ l. l ++ groups_in c.args.content.now) (sym c.new-groups.ensures.items);
  rise = subst (RiseFrom (image_at c.args.image.now) 0) (sym c.new-groups.ensures.items) tt;
  ends = ap (end_after 0) c.new-groups.ensures.items;
}

pub next_group-requires-clause-there : goal.next_group-requires-clause-there
next_group-requires-clause-there c =
    let cons = groups_cons c.loop-rest.rest.now c.loop-rest-test.true in
    let entry = ap rindex_of (sym c.split_at.ensures.front) in
    let listed = ap groups_in (sym c.requires.content) ∙ c.loop-rest.invariant.listed ∙ ap (λ l. c.loop-rest.groups.items ++ l) (cons ∙ ap (λ g. g ∷ groups_in (drop 96 c.loop-rest.rest.now)) entry) in
    (c.loop-rest.groups.items, (groups_in (drop 96 c.loop-rest.rest.now), listed, c.loop-rest.invariant.ends))

pub loop-rest-preserved : goal.loop-rest-preserved
loop-rest-preserved c =
    let g = c.in_ok-group.group in
    let cons = groups_cons c.loop-rest.rest.now c.loop-rest-test.true in
    let read : g ≡ rindex_of (take 96 c.loop-rest.rest.now) = c.in_ok-group.ensures.group ∙ ap rindex_of c.split_at.ensures.front in
    let rest : groups_in c.loop-rest.rest.now ≡ g ∷ groups_in c.split_at.result.1.now = cons ∙ ap (λ h. h ∷ groups_in (drop 96 c.loop-rest.rest.now)) (sym read) ∙ ap (λ b. g ∷ groups_in b) (sym c.split_at.ensures.back) in
    let more = one_more (groups_in c.args.content.now) c.loop-rest.groups.items (groups_in c.split_at.result.1.now) g (c.loop-rest.invariant.listed ∙ ap (λ l. c.loop-rest.groups.items ++ l) rest) in
    let low : end_after 0 c.loop-rest.groups.items ≤ g.address = omega (arith, c.loop-rest.invariant.ends, c.in_ok-group.ensures.low) in
    let exact : end_of g ≡ c.end_of-end.result = omega (arith, c.end_of-end.ensures, c.in_ok-group.ensures.fits.inside, c.args.image.now.few) in
    record {
      listed = more ∙ ap (λ l. l ++ groups_in c.split_at.result.1.now) (sym c.in_ok-push.ensures.items);
      rise = subst (RiseFrom (image_at c.args.image.now) 0) (sym c.in_ok-push.ensures.items) (rise_more (image_at c.args.image.now) 0 c.loop-rest.groups.items g c.loop-rest.invariant.rise c.in_ok-group.ensures.fits low);
      ends = ap (end_after 0) c.in_ok-push.ensures.items ∙ end_more 0 c.loop-rest.groups.items g ∙ exact;
    }

pub returns-clause-listed : goal.returns-clause-listed
returns-clause-listed c = sym (c.loop-rest.invariant.listed ∙ ap (λ l. c.loop-rest.groups.items ++ l) (groups_none c.loop-rest.rest.now c.loop-rest-test.false) ∙ append-nil c.loop-rest.groups.items)
