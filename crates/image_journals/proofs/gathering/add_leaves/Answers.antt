use Rattle.std.proofs.Common.{◌≡◌, ◌<◌, ◌≤◌, ◌^◌, ap, ◌∙◌, arith}
use Rattle.gfs2_layout.specs.Inode.{depth_in, table_count}
use Rattle.hash_dirs.proofs.Chained.{deep}
use Rattle.image_journals.proofs.Adding.{added_none}
use Rattle.image_journals.proofs.Walked.{IsOnOne, chains_all, chains_more}
use Rattle.image_journals.proofs.Read.{handed}
use Rattle.image_journals.proofs.gathering.add_leaves.Goals as goal

pub returns-then-depth-gt15 : goal.returns-then-depth-gt15
returns-then-depth-gt15 c h is own hashed depth = let low : depth_in h ≤ 15 = deep h is.sound hashed in let high = c.if-depth-gt15.true in omega (arith, high, depth, low)

pub loop-index-init : goal.loop-index-init
loop-index-init c h is own hashed depth = added_none _ (IsOnOne h 0) (λ x one. absurd (let no : one.0 < 0 = one.1 in omega (arith, no)))

pub returns-in_err-first : goal.returns-in_err-first
returns-in_err-first c h is own hashed depth =
    let count : c.pointer_count-index-end.result ≡ table_count h = c.pointer_count-index-end.ensures ∙ ap (λ n. 2 ^ n) depth in
    handed c.from_residual.result _ _ _ c.from_residual.ensures.1 (c.in_err-first.ensures h is own hashed (omega (arith, c.loop-index-test.true, count)))

pub returns-in_err-add_chain : goal.returns-in_err-add_chain
returns-in_err-add_chain c h is own hashed depth =
    let count : c.pointer_count-index-end.result ≡ table_count h = c.pointer_count-index-end.ensures ∙ ap (λ n. 2 ^ n) depth in
    let low : c.loop-index.index < table_count h = omega (arith, c.loop-index-test.true, count) in
    handed c.from_residual-in_err-add_chain.result _ _ _ c.from_residual-in_err-add_chain.ensures.1 (c.in_err-add_chain.ensures h c.loop-index.index is hashed low (c.in_ok-first.ensures h is own hashed low))

pub loop-index-preserved : goal.loop-index-preserved
loop-index-preserved c h is own hashed depth =
    let count : c.pointer_count-index-end.result ≡ table_count h = c.pointer_count-index-end.ensures ∙ ap (λ n. 2 ^ n) depth in
    let low : c.loop-index.index < table_count h = omega (arith, c.loop-index-test.true, count) in
    chains_more h c.loop-index.index _ _ _ (c.loop-index.invariant h is own hashed depth) (c.in_ok-add_chain.ensures h c.loop-index.index is hashed low (c.in_ok-first.ensures h is own hashed low))

pub returns : goal.returns
returns c h is own hashed depth =
    let count : c.pointer_count-index-end.result ≡ table_count h = c.pointer_count-index-end.ensures ∙ ap (λ n. 2 ^ n) depth in
    let all : c.loop-index.index ≡ table_count h = omega (arith, c.loop-index-test.false, c.loop-index.auto.index-end, count) in
    chains_all h c.loop-index.index _ _ is.sound hashed all (c.loop-index.invariant h is own hashed depth)
