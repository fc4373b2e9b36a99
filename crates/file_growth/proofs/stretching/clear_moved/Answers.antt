use Rattle.std.proofs.Common.{◌≡◌, ◌⊎◌, ◌≤◌, inl, inr, refl, sym, ap, ◌∙◌, arith}
use Rattle.drafts.specs.Fates.{seen_in}
use Rattle.gfs2_layout.specs.Inode.{dinode_in, height_in}
use Rattle.gfs2_layout.specs.declared.dinode.Dinode.{Dinode}
use Rattle.growth_drafts.specs.Touched.{as_it_was}
use Rattle.file_growth.proofs.Lengths.{end_cleared, end_stays, on_done}
use Rattle.file_growth.proofs.stretching.clear_moved.Goals as goal
use Rattle.file_growth.proofs.stretching.clear_moved.Goals.{then-dinode-eq0-via-then-dinode-eq0, then-dinode-eq0-via-else-dinode-eq0+then-dinode-end}

pub returns-then-dinode-eq0-clause-cleared : goal.returns-then-dinode-eq0-clause-cleared
returns-then-dinode-eq0-clause-cleared g c h file shown d_is ways =
    let either : (height_in h ≡ 0) ⊎ (c.args.end ≤ (dinode_in h).size) = elim c.then-dinode-eq0.branch [
      | then-dinode-eq0-via-then-dinode-eq0 w ↦ inl (sym (ap (λ (d : Dinode). d.height) d_is) ∙ w.if-dinode-eq0.true)
      | then-dinode-eq0-via-else-dinode-eq0+then-dinode-end w ↦ inr (let far : c.args.end ≤ (dinode_in h).size = omega (arith, w.if-dinode-end.true, ap (λ (d : Dinode). d.size) d_is) in far)
    ] in
    (refl, end_stays (seen_in g.V.View.seen c.args.draft.now) c.args.draft.now.fates c.args.inode h c.args.end file shown either)

pub returns-then-dinode-eq0-clause-within : goal.returns-then-dinode-eq0-clause-within
returns-then-dinode-eq0-clause-within g c room = as_it_was c.args.draft.now.fates

pub returns-clause-cleared : goal.returns-clause-cleared
returns-clause-cleared g c h file shown d_is ways =
    on_done c.clear_last.result _ _ (end_cleared _ _ _ h c.args.end (omega (arith, c.if-dinode-end.false, ap (λ (d : Dinode). d.size) d_is)))
    (c.clear_last.ensures.cleared h file shown d_is (λ none. c.if-dinode-eq0.false (ap (λ (d : Dinode). d.height) d_is ∙ none)) (λ i last. ways i (omega (arith, c.if-dinode-end.false, ap (λ (d : Dinode). d.size) d_is)) last))
