use Rattle.std.proofs.Common.{◌≡◌, [], ◌∷◌, ◌++◌, take, drop, length, sym, ap, ◌∙◌, arith, append-nil, length-append, length-drop}
use Rattle.gfs2_layout.specs.Structures.{rindex_of}
use Rattle.image_model.specs.Groups.{groups_in}
use Rattle.image_model.proofs.Listing.{groups_cons, groups_none, one_more}
use Rattle.image_mount.proofs.groups.read_entries.Goals as goal

pub loop-rest-init : goal.loop-rest-init
loop-rest-init c = record {
  read = ap (λ l. l ++ groups_in c.args.content.now) (sym c.new-groups.ensures.items);
  most = omega (arith, ap length c.new-groups.ensures.items);
}

pub loop-rest-preserved : goal.loop-rest-preserved
loop-rest-preserved c =
    let g = c.read_entry.result in
    let cons = groups_cons c.loop-rest.rest.now c.loop-rest-test.true in
    let read : g ≡ rindex_of (take 96 c.loop-rest.rest.now) = c.read_entry.ensures ∙ ap rindex_of c.split_at.ensures.front in
    let rest : groups_in c.loop-rest.rest.now ≡ g ∷ groups_in c.split_at.result.1.now = cons ∙ ap (λ h. h ∷ groups_in (drop 96 c.loop-rest.rest.now)) (sym read) ∙ ap (λ b. g ∷ groups_in b) (sym c.split_at.ensures.back) in
    let more = one_more (groups_in c.args.content.now) c.loop-rest.groups.items (groups_in c.split_at.result.1.now) g (c.loop-rest.invariant.read ∙ ap (λ l. c.loop-rest.groups.items ++ l) rest) in
    record {
      read = more ∙ ap (λ l. l ++ groups_in c.split_at.result.1.now) (sym c.in_ok-push.ensures.items);
      most = omega (arith, c.loop-rest.invariant.most, ap length c.in_ok-push.ensures.items, length-append c.loop-rest.groups.items (g ∷ []), ap length c.split_at.ensures.back, length-drop 96 c.loop-rest.rest.now, c.loop-rest-test.true);
    }

pub returns-clause-found : goal.returns-clause-found
returns-clause-found c = sym (c.loop-rest.invariant.read ∙ ap (λ l. c.loop-rest.groups.items ++ l) (groups_none c.loop-rest.rest.now c.loop-rest-test.false) ∙ append-nil c.loop-rest.groups.items)
