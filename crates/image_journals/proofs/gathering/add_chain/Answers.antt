use Rattle.std.proofs.Common.{◌≡◌, ◌+◌, ◌<◌, sym, subst, ◌∙◌, arith}
use Rattle.gfs2_layout.specs.Inode.{first_hash}
use Rattle.hash_dirs.specs.Shown.{IsInChain}
use Rattle.hash_dirs.proofs.Chained.{head_some}
use Rattle.pointer_tables.specs.Directories.{chain_head, chain_next}
use Rattle.image_journals.specs.Blocks.{seen_of}
use Rattle.image_journals.proofs.Adding.{added_none}
use Rattle.image_journals.proofs.Chains.{ends, leaf_is, leaf_there, low_block}
use Rattle.image_journals.proofs.Walked.{IsOnFirst, one_more, walked_all}
use Rattle.image_journals.proofs.Read.{handed}
use Rattle.image_journals.proofs.gathering.add_chain.Goals as goal

pub loop-place-init : goal.loop-place-init
loop-place-init c h i is hashed low first = record {
  chain = subst (IsInChain h i 0) (sym first) (chain_head low (head_some h is.sound hashed i low));
  added = added_none _ (IsOnFirst h i 0) (λ x on. absurd (let no : on.0 < 0 = on.1 in omega (arith, no)));
}

pub returns-in_err-part : goal.returns-in_err-part
returns-in_err-part c h i is hashed low first =
    let v = seen_of c.args.blocks.now in
    let chain = (c.loop-place.invariant h i is hashed low first).chain in
    handed c.from_residual.result _ _ _ c.from_residual.ensures.1
    (c.in_err-part.ensures.read h (first_hash h i) (leaf_there v h is hashed i c.loop-place._place c.loop-place.leaf chain) (leaf_is v h is hashed i c.loop-place._place c.loop-place.leaf chain))

pub returns-then-part-eq0 : goal.returns-then-part-eq0
returns-then-part-eq0 c h i is hashed low first =
    let v = seen_of c.args.blocks.now in
    let at = c.loop-place.invariant h i is hashed low first in
    let read = c.in_ok-part.ensures.read h (first_hash h i) (leaf_there v h is hashed i c.loop-place._place c.loop-place.leaf at.chain) (leaf_is v h is hashed i c.loop-place._place c.loop-place.leaf at.chain) in
    walked_all h i _ c.loop-place._place c.loop-place.leaf _ _ at c.in_ok-push.ensures.items (sym read.1 ∙ c.if-part-eq0.true)

pub loop-place-preserved : goal.loop-place-preserved
loop-place-preserved c h i is hashed low first =
    let v = seen_of c.args.blocks.now in
    let at = c.loop-place.invariant h i is hashed low first in
    let read = c.in_ok-part.ensures.read h (first_hash h i) (leaf_there v h is hashed i c.loop-place._place c.loop-place.leaf at.chain) (leaf_is v h is hashed i c.loop-place._place c.loop-place.leaf at.chain) in
    record {
      chain = subst (IsInChain h i (c.loop-place._place + 1)) (sym read.1) (chain_next c.loop-place._place c.loop-place.leaf at.chain (λ e. c.if-part-eq0.false (read.1 ∙ e)));
      added = one_more h i _ c.loop-place._place c.loop-place.leaf _ _ at c.in_ok-push.ensures.items;
    }

pub returns : goal.returns
returns c h i is hashed low first =
    let b = c.args.blocks.now in
    let at = c.loop-place.invariant h i is hashed low first in
    let last : c.loop-place._place ≡ b.count = omega (arith, c.loop-place-test.false, c.loop-place.auto._place-end) in
    ends (seen_of b) h is hashed i b.count c.loop-place.leaf (λ k bs there. low_block b.size b.count b.bytes.now bs k there) (subst (λ n. IsInChain h i n c.loop-place.leaf) last at.chain)
