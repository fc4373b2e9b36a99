use Rattle.std.proofs.Common.{◌≡◌, ◌∷◌, ◌++◌, take, drop, sym, ap, ◌∙◌, append-nil}
use Rattle.gfs2_layout.specs.Structures.{rindex_of}
use Rattle.image_model.specs.Groups.{groups_in}
use Rattle.image_model.proofs.Listing.{entry_is, groups_cons, groups_none, one_more}
use Rattle.image_journals.proofs.groups.entries.Goals as goal

pub loop-rest-init : goal.loop-rest-init
loop-rest-init c = ap (λ l. l ++ groups_in c.args.content.now) (sym c.new-groups.ensures.items)

pub loop-rest-preserved : goal.loop-rest-preserved
loop-rest-preserved c =
    let g = c.in-Ok.group in
    let cons = groups_cons c.loop-rest.rest.now c.loop-rest-test.true in
    let read : g ≡ rindex_of (take 96 c.loop-rest.rest.now) = entry_is c.split_at.result.0.now g (sym c.in-Ok.is ∙ c.read.ensures) ∙ ap rindex_of c.split_at.ensures.front in
    let rest : groups_in c.loop-rest.rest.now ≡ g ∷ groups_in c.split_at.result.1.now = cons ∙ ap (λ h. h ∷ groups_in (drop 96 c.loop-rest.rest.now)) (sym read) ∙ ap (λ b. g ∷ groups_in b) (sym c.split_at.ensures.back) in
    let more = one_more (groups_in c.args.content.now) c.loop-rest.groups.items (groups_in c.split_at.result.1.now) g (c.loop-rest.invariant ∙ ap (λ l. c.loop-rest.groups.items ++ l) rest) in
    more ∙ ap (λ l. l ++ groups_in c.split_at.result.1.now) (sym c.in_ok-push.ensures.items)

pub returns : goal.returns
returns c = sym (c.loop-rest.invariant ∙ ap (λ l. c.loop-rest.groups.items ++ l) (groups_none c.loop-rest.rest.now c.loop-rest-test.false) ∙ append-nil c.loop-rest.groups.items)
