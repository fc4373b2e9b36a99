use Rattle.std.proofs.Common.{◌≡◌, ◌+◌, ◌*◌, ◌/◌, ◌<◌, ◌≤◌, sym, ap, subst, ◌∙◌, mul_comm, arith}
use Rattle.std.proofs.Math.Nat.{lt-mul-div-succ}
use Rattle.gfs2_layout.specs.Inode.{pieces}
use Rattle.gfs2_layout.specs.Structures.{is_regular}
use Rattle.glock_names.proofs.StepLaws.{answer_at, needed_at, needed_so}
use Rattle.dinode_tree.specs.Reading.{IsNeeded}
use Rattle.dinode_tree.proofs.Spans.{pieces_of}
use Rattle.growth_drafts.specs.Taken.{IsCutAt}
use Rattle.file_fills.specs.Filling.{IsSeenWay}
use Rattle.file_fills.proofs.Seeing.{always, needed_wider}
use Rattle.file_cuts.proofs.Finishing.{part_pieces, past_size, whole_pieces}
use Rattle.file_cuts.proofs.cutting.look_for_cut.Goals as goal
use Rattle.file_cuts.proofs.cutting.look_for_cut.Goals.{then-size-block_size-ne0+in_ok-look_at+in-Is, else-size-block_size-ne0}

pub returns-in-NeedBlock-clause-needed : goal.returns-in-NeedBlock-clause-needed
returns-in-NeedBlock-clause-needed g c h shown d_is =
    let block : c.from-block_size.result ≡ h.size = c.from-block_size.ensures ∙ c.block_size.ensures.value ∙ sym shown.size in
    let some : 0 < c.from-block_size.result = omega (arith, c.block_size.ensures.view.block_size, c.block_size.ensures.value, c.from-block_size.ensures) in
    needed_wider (g.V.View.seen c.args.view.now) h (λ x. x ≡ c.args.size / c.from-block_size.result) (IsCutAt h c.args.size) 0 0
    (λ i e.
    let until = lt-mul-div-succ c.args.size some in
    let swap = mul_comm c.from-block_size.result (c.args.size / c.from-block_size.result + 1) in
    let here : c.args.size < (c.args.size / c.from-block_size.result + 1) * c.from-block_size.result = omega (arith, until, swap) in
    subst (λ n. c.args.size < (i + 1) * n) block (subst (λ n. c.args.size < (n + 1) * c.from-block_size.result) (sym e) here))
    (let low : 0 ≤ 0 = omega arith in low) c.in-NeedBlock.missing
    (needed_at c.in_ok-look_at.field-0 c.in-NeedBlock.missing _ c.in-NeedBlock.is (c.in_ok-look_at.ensures.needed h shown (c.is_regular.ensures ∙ ap is_regular d_is)))

pub returns-clause-last : goal.returns-clause-last
returns-clause-last g c h i file shown d_is last cut =
    let block : c.from-block_size.result ≡ h.size = c.from-block_size.ensures ∙ c.block_size.ensures.value ∙ sym shown.size in
    let some : 0 < c.from-block_size.result = omega (arith, c.block_size.ensures.view.block_size, c.block_size.ensures.value, c.from-block_size.ensures) in
    let end : i + 1 ≡ pieces c.args.size c.from-block_size.result = last ∙ ap (pieces c.args.size) (sym block) in
    let cut' : c.args.size < (i + 1) * c.from-block_size.result = subst (λ n. c.args.size < (i + 1) * n) (sym block) cut in
    always c.look_past.result (IsSeenWay (g.V.View.seen c.args.view.now) h i) (elim c.if-size-block_size-ne0.branch [
      | then-size-block_size-ne0+in_ok-look_at+in-Is w ↦
          let seen = answer_at w.in_ok-look_at.field-0 w.in-Is.field-0 (λ done. IsSeenWay (g.V.View.seen c.args.view.now) h (c.args.size / c.from-block_size.result)) w.in-Is.is (w.in_ok-look_at.ensures.seen h file shown) in
          let count = part_pieces c.args.size c.from-block_size.result some w.if-size-block_size-ne0.true in
          let same : c.args.size / c.from-block_size.result ≡ i = omega (arith, end, count) in
          subst (IsSeenWay (g.V.View.seen c.args.view.now) h) same seen
      | else-size-block_size-ne0 w ↦
          let whole = whole_pieces c.args.size c.from-block_size.result some w.if-size-block_size-ne0.false in
          let all : (i + 1) * c.from-block_size.result ≡ c.args.size = ap (λ n. n * c.from-block_size.result) end ∙ whole in
          absurd (omega (arith, cut', all))
    ])

pub returns-clause-needed : goal.returns-clause-needed
returns-clause-needed g c h shown d_is =
    let block : c.from-block_size.result ≡ h.size = c.from-block_size.ensures ∙ c.block_size.ensures.value ∙ sym shown.size in
    let some : 0 < c.from-block_size.result = omega (arith, c.block_size.ensures.view.block_size, c.block_size.ensures.value, c.from-block_size.ensures) in
    let end : c.div_ceil-end.result ≡ pieces c.args.size c.from-block_size.result = c.div_ceil-end.ensures ∙ pieces_of _ _ some in
    needed_so c.look_past.result (IsNeeded (g.V.View.seen c.args.view.now) h (λ i. c.div_ceil-end.result ≤ i) 1) (IsNeeded (g.V.View.seen c.args.view.now) h (IsCutAt h c.args.size) 0)
    (λ m needed. needed_wider (g.V.View.seen c.args.view.now) h (λ i. c.div_ceil-end.result ≤ i) (IsCutAt h c.args.size) 1 0
    (λ i past. subst (λ n. c.args.size < (i + 1) * n) block (past_size c.args.size c.from-block_size.result i some (subst (λ n. n ≤ i) end past))) (let low : 0 ≤ 1 = omega arith in low) m needed)
    (c.look_past.ensures.needed h shown)
