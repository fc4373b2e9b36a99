use Rattle.std.proofs.Common.{◌≡◌, ◌+◌, ◌<◌, length, vec_len, sym, subst, ◌∙◌, refl, arith, rules}
use Rattle.image_model.specs.Claims.{itself}
use Rattle.image_reader.specs.Found.{inode_at}
use Rattle.image_reader.specs.Reading.{image_at}
use Rattle.image_reader.specs.Untouched.{AreNamedApart, IsLimit, IsOfSome}
use Rattle.image_reader.specs.declared.blocks.Blocks.{Blocks}
use Rattle.image_reader.proofs.Going.{all_of_image, claims_then}
use Rattle.image_reader.proofs.Listed.{get_at}
use Rattle.image_reader.proofs.Twins.{found_at}
use Rattle.image_reader.proofs.Visits.{dinode_at}
use Rattle.image_reader.proofs.WalkedTree.{walked_none, walked_next, walked_all, entire_all, of_some, entry_here, going_untouched}
use Rattle.image_reader.proofs.walk.Walk.tree.Goals as goal

pub go_over-requires-clause-limit : goal.go_over-requires-clause-limit
go_over-requires-clause-limit c = c.requires.limit c.args.top.inode.block.number itself

pub loop-next-init : goal.loop-next-init
loop-next-init c =
    let image = c.args.self.now.image in
    let top = c.args.top in
    let ok = c.in_ok-go_over.ensures in
    let old = c.args.self.now.owners.entries.items in
    let new = c.go_over.new.self.owners.entries.items in
    let len : length c.args.found.now.items ≡ vec_len c.args.found.now = search rules in
    record {
      sound = ok.going.sound;
      same = ok.same;
      walked = walked_next image image c.go_over.new.self.image top.inode top old new c.args.found.now.items c.go_over.new.found.items 0 refl ok.same
          (walked_none image top.inode old c.args.found.now.items c.requires.empty c.requires.owned c.requires.untouched c.requires.entire) c.requires.place refl ok.on ok.all ok.going.true_of
          (subst (λ n. AreNamedApart n c.go_over.new.found.items) (sym len) ok.apart) ok.going.noted ok.below;
      claims = of_some top.inode.block.number old new ok.on.claims;
    }

pub go_over-requires-in-loop-next-clause-going : goal.go_over-requires-in-loop-next-clause-going
go_over-requires-in-loop-next-clause-going c =
    let image = c.loop-next.self.image in
    let i = c.loop-next.invariant in
    let visit = c.of_found-visit.result in
    let found = c.loop-next.found.items in
    let len : length c.loop-next.found.items ≡ vec_len c.loop-next.found = search rules in
    let low : c.loop-next.next < length found = omega (arith, len, c.loop-next-test.true, c.len.ensures) in
    let true_of = all_of_image c.args.self.now.image image found (sym i.same) i.walked.true_of in
    let here = entry_here c.args.top.inode found c.loop-next.next c.index.result.now visit low c.index.ensures c.of_found-visit.ensures.inode in
    let is = found_at image found c.loop-next.next c.index.result.now true_of (get_at found c.loop-next.next c.index.result.now low c.index.ensures) in
    going_untouched c.loop-next.self visit found i.sound (c.of_found-visit.ensures.visit image is) true_of (i.walked.untouched (c.loop-next.next + 1) visit.inode (omega arith) here).fresh

pub go_over-requires-in-loop-next-clause-fresh : goal.go_over-requires-in-loop-next-clause-fresh
go_over-requires-in-loop-next-clause-fresh c =
    let visit = c.of_found-visit.result in
    let found = c.loop-next.found.items in
    let len : length c.loop-next.found.items ≡ vec_len c.loop-next.found = search rules in
    let low : c.loop-next.next < length found = omega (arith, len, c.loop-next-test.true, c.len.ensures) in
    let here = entry_here c.args.top.inode found c.loop-next.next c.index.result.now visit low c.index.ensures c.of_found-visit.ensures.inode in
    (c.loop-next.invariant.walked.untouched (c.loop-next.next + 1) visit.inode (omega arith) here).fresh

pub go_over-requires-in-loop-next-clause-limit : goal.go_over-requires-in-loop-next-clause-limit
go_over-requires-in-loop-next-clause-limit c =
    let i = c.loop-next.invariant in
    let visit = c.of_found-visit.result in
    let found = c.loop-next.found.items in
    let len : length c.loop-next.found.items ≡ vec_len c.loop-next.found = search rules in
    let low : c.loop-next.next < length found = omega (arith, len, c.loop-next-test.true, c.len.ensures) in
    let here = entry_here c.args.top.inode found c.loop-next.next c.index.result.now visit low c.index.ensures c.of_found-visit.ensures.inode in
    subst (λ (b : Blocks). IsLimit (image_at b) c.args.most visit.inode.block.number) (sym i.same)
    (c.requires.limit visit.inode.block.number (i.walked.under (c.loop-next.next + 1) visit.inode here))

pub loop-next-preserved : goal.loop-next-preserved
loop-next-preserved c =
    let image = c.args.self.now.image in
    let top = c.args.top in
    let i = c.loop-next.invariant in
    let ok = c.in_ok-go_over-2.ensures in
    let visit = c.of_found-visit.result in
    let old = c.loop-next.self.owners.entries.items in
    let new = c.go_over-in-loop-next.new.self.owners.entries.items in
    let before = c.loop-next.found.items in
    let after = c.go_over-in-loop-next.new.found.items in
    let len : length c.loop-next.found.items ≡ vec_len c.loop-next.found = search rules in
    let low : c.loop-next.next < length before = omega (arith, len, c.loop-next-test.true, c.len.ensures) in
    let here : inode_at top.inode before (c.loop-next.next + 1) ≡ _ = entry_here top.inode before c.loop-next.next c.index.result.now visit low c.index.ensures c.of_found-visit.ensures.inode in
    record {
      sound = ok.going.sound;
      same = ok.same ∙ i.same;
      walked = walked_next image c.loop-next.self.image c.go_over-in-loop-next.new.self.image top.inode visit old new before after (c.loop-next.next + 1) i.same (ok.same ∙ i.same)
          i.walked c.of_found-visit.ensures.place here ok.on ok.all ok.going.true_of (subst (λ n. AreNamedApart n after) (sym len) ok.apart) ok.going.noted ok.below;
      claims = claims_then IsOfSome c.args.self.now.owners.entries.items old new i.claims (of_some visit.inode.block.number old new ok.on.claims);
    }

pub returns-clause-found : goal.returns-clause-found
returns-clause-found c =
    let image = c.args.self.now.image in
    let len : length c.loop-next.found.items ≡ vec_len c.loop-next.found = search rules in
    let past : length c.loop-next.found.items < c.loop-next.next + 1 = omega (arith, len, c.loop-next-test.false, c.len.ensures) in
    walked_all image c.args.top.inode c.loop-next.self.owners.entries.items c.loop-next.found.items (c.loop-next.next + 1) c.requires.visit.same (dinode_at image c.args.top c.requires.visit) past c.loop-next.invariant.walked

pub returns-clause-owned : goal.returns-clause-owned
returns-clause-owned c = c.loop-next.invariant.walked.owned

pub returns-clause-entire : goal.returns-clause-entire
returns-clause-entire c =
    let len : length c.loop-next.found.items ≡ vec_len c.loop-next.found = search rules in
    let past : length c.loop-next.found.items < c.loop-next.next + 1 = omega (arith, len, c.loop-next-test.false, c.len.ensures) in
    entire_all c.args.self.now.image c.args.top.inode c.loop-next.self.owners.entries.items c.loop-next.found.items (c.loop-next.next + 1) past c.loop-next.invariant.walked
