use Rattle.std.proofs.Common.{◌≡◌, ◌<◌, ap, sym, subst, ◌∙◌, arith}
use Rattle.std.specs.Option.{option_map}
use Rattle.gfs2_layout.specs.Inode.{first_hash}
use Rattle.gfs2_layout.specs.Records.{record_named, records_in}
use Rattle.linear_dirs.specs.Shown.{entry_of}
use Rattle.hash_dirs.specs.Shown.{IsInChain}
use Rattle.hash_dirs.proofs.Chained.{head_some}
use Rattle.hash_dirs.proofs.Along.{found_here, found_nowhere, none_named}
use Rattle.pointer_tables.specs.Directories.{chain_head}
use Rattle.image_journals.specs.Blocks.{seen_of}
use Rattle.image_journals.proofs.Chains.{ends, goes_on, headed, heads, leaf_is, leaf_there, low_block}
use Rattle.image_journals.proofs.Read.{handed}
use Rattle.image_journals.proofs.leaves.find_along.Goals as goal

pub loop-place-init : goal.loop-place-init
loop-place-init c h i is hashed low first = record {
  chain = subst (IsInChain h i 0) (sym first) (chain_head low (head_some h is.sound hashed i low));
  later = λ earlier x before chain. absurd (let no : earlier < 0 = before in omega arith);
}

pub returns-in_err-part : goal.returns-in_err-part
returns-in_err-part c h i is hashed low first =
    let v = seen_of c.args.blocks.now in
    let chain = (c.loop-place.invariant h i is hashed low first).chain in
    handed c.from_residual.result _ _ _ c.from_residual.ensures.1
    (c.in_err-part.ensures.read h (first_hash h i) (leaf_there v h is hashed i c.loop-place._place c.loop-place.leaf chain) (leaf_is v h is hashed i c.loop-place._place c.loop-place.leaf chain))

pub returns-in-Some : goal.returns-in-Some
returns-in-Some c h i is hashed low first =
    let v = seen_of c.args.blocks.now in
    let at = c.loop-place.invariant h i is hashed low first in
    let read = c.in_ok-part.ensures.read h (first_hash h i) (leaf_there v h is hashed i c.loop-place._place c.loop-place.leaf at.chain) (leaf_is v h is hashed i c.loop-place._place c.loop-place.leaf at.chain) in
    found_here h i c.args.name.now c.loop-place._place c.loop-place.leaf at.chain at.later (heads v h is hashed i c.loop-place._place) (headed v h is hashed i c.loop-place._place c.loop-place.leaf at.chain) c.in-Some.entry
    (ap (λ a. option_map entry_of (record_named (records_in a) c.args.name.now)) (sym read.0) ∙ sym c.entry_in.ensures ∙ c.in-Some.is)

pub returns-then-part-eq0 : goal.returns-then-part-eq0
returns-then-part-eq0 c h i is hashed low first =
    let v = seen_of c.args.blocks.now in
    let at = c.loop-place.invariant h i is hashed low first in
    let read = c.in_ok-part.ensures.read h (first_hash h i) (leaf_there v h is hashed i c.loop-place._place c.loop-place.leaf at.chain) (leaf_is v h is hashed i c.loop-place._place c.loop-place.leaf at.chain) in
    found_nowhere h i c.args.name.now c.loop-place._place c.loop-place.leaf at.chain at.later (heads v h is hashed i c.loop-place._place) (headed v h is hashed i c.loop-place._place c.loop-place.leaf at.chain)
    (none_named _ (ap (λ a. option_map entry_of (record_named (records_in a) c.args.name.now)) (sym read.0) ∙ sym c.entry_in.ensures ∙ c.in_default.is)) (sym read.1 ∙ c.if-part-eq0.true)

pub loop-place-preserved : goal.loop-place-preserved
loop-place-preserved c h i is hashed low first =
    let v = seen_of c.args.blocks.now in
    let at = c.loop-place.invariant h i is hashed low first in
    let read = c.in_ok-part.ensures.read h (first_hash h i) (leaf_there v h is hashed i c.loop-place._place c.loop-place.leaf at.chain) (leaf_is v h is hashed i c.loop-place._place c.loop-place.leaf at.chain) in
    goes_on v h is hashed i c.args.name.now c.loop-place._place c.loop-place.leaf c.in_ok-part.part.next at
    (none_named _ (ap (λ a. option_map entry_of (record_named (records_in a) c.args.name.now)) (sym read.0) ∙ sym c.entry_in.ensures ∙ c.in_default.is)) read.1 c.if-part-eq0.false

pub returns : goal.returns
returns c h i is hashed low first =
    let b = c.args.blocks.now in
    let at = c.loop-place.invariant h i is hashed low first in
    let last : c.loop-place._place ≡ b.count = omega (arith, c.loop-place-test.false, c.loop-place.auto._place-end) in
    ends (seen_of b) h is hashed i b.count c.loop-place.leaf (λ k bs there. low_block b.size b.count b.bytes.now bs k there) (subst (λ n. IsInChain h i n c.loop-place.leaf) last at.chain)
