use Rattle.std.proofs.Common.{inl, inr, arith}
use Rattle.growth_drafts.proofs.Following.{follows_draft, follows_two}
use Rattle.file_walks.proofs.Stepping.{on_ok}
use Rattle.file_fills.proofs.Stepped.{filled_one}
use Rattle.file_fills.proofs.filling.fill_one.Goals as goal

pub returns-clause-filled : goal.returns-clause-filled
returns-clause-filled g c h at end i left shown r has stopped hole =
    filled_one g.V.View.seen c.args.draft.now c.fill_hole.new.draft c.args.inode h at end i c.args.stop c.args.block left c.requires.there.0 c.requires.there.1 (omega (arith, c.ranges.block)) shown r has stopped hole
    c.fill_hole.result (c.fill_hole.ensures.put c.requires.there.0 c.requires.there.1) (c.fill_hole.ensures.filled h)

pub returns-clause-within : goal.returns-clause-within
returns-clause-within g c room from taken =
    on_ok c.fill_hole.result _ _ (λ is. follows_draft (g.V.View.seen c.args.draft.now.view) c.args.inode room c.args.draft.now c.fill_hole.new.draft _ is
    (follows_two (g.V.View.seen c.args.draft.now.view) c.args.inode room c.args.draft.now.fates c.args.stop.pointer.from c.args.block _ _ from (inr (inl taken)))) (c.fill_hole.ensures.put c.requires.there.0 c.requires.there.1)
