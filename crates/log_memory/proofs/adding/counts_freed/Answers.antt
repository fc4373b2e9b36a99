use Rattle.std.proofs.Common.{◌<◌, ◌∙◌, ℕ, List, [], ◌∷◌, ap, arith, get_or, length, subst, sym, take}
use Rattle.std.proofs.lemmas.List.{take_all, take_more}
use Rattle.log_memory.specs.Adding.{CountsFor, IsAlike, counts_of, with_freed_all}
use Rattle.log_memory.specs.declared.adding.Counts.{Counts}
use Rattle.log_memory.proofs.Halves.{freed_alike, freed_more}
use Rattle.log_memory.proofs.Rises.{lacks_before}
use Rattle.log_memory.proofs.Room.{few_freed}
use Rattle.log_memory.proofs.Tallies.{tally_is}
use Rattle.log_memory.proofs.adding.counts_freed.Goals as goal

pub once_freed-counts-requires-clause-counted : goal.once_freed-counts-requires-clause-counted
once_freed-counts-requires-clause-counted c =
    let bs = c.args.change.now.freed.items in
    let i = c.loop-block.block-index in
    let items = c.deref-block-items.ensures.value in
    subst (λ (xs : List ℕ). CountsFor c.args.log.now (get_or xs i 0) c.loop-block.counts) (sym items)
    (record {
      counted = with_freed_all c.args.log.now (take i bs);
      alike = freed_alike c.args.log.now (take i bs) (get_or bs i 0) (lacks_before bs i c.requires.whole.revokes (subst (λ (xs : List ℕ). i < length xs) items c.loop-block-test.true));
      counts = c.loop-block.invariant;
    })

pub once_freed-counts-requires-clause-few : goal.once_freed-counts-requires-clause-few
once_freed-counts-requires-clause-few c =
    let few = few_freed c.args.log.now c.counts_now-counts.ensures.sound (take c.loop-block.block-index c.args.change.now.freed.items) in
    let is = ap (λ (n : Counts). n.revokes) (c.loop-block.invariant ∙ tally_is (with_freed_all c.args.log.now (take c.loop-block.block-index c.args.change.now.freed.items))) in
    omega arith

pub loop-block-preserved : goal.loop-block-preserved
loop-block-preserved c =
    let bs = c.args.change.now.freed.items in
    let i = c.loop-block.block-index in
    let items = c.deref-block-items.ensures.value in
    let less = subst (λ (xs : List ℕ). i < length xs) items c.loop-block-test.true in
    let alike = freed_alike c.args.log.now (take i bs) (get_or bs i 0) (lacks_before bs i c.requires.whole.revokes less) in
    let same = ap (λ (xs : List ℕ). get_or xs i 0) items in
    c.once_freed-counts.ensures (with_freed_all c.args.log.now (take i bs)) (subst (λ b. IsAlike c.args.log.now (with_freed_all c.args.log.now (take i bs)) b) (sym same) alike) c.loop-block.invariant
    ∙ ap counts_of
    (ap (λ b. with_freed_all (with_freed_all c.args.log.now (take i bs)) (b ∷ [])) same ∙ sym (freed_more c.args.log.now (take i bs) (get_or bs i 0)) ∙ ap (with_freed_all c.args.log.now) (sym (take_more bs i 0 less)))

pub returns-clause-counts : goal.returns-clause-counts
returns-clause-counts c = c.loop-block.invariant ∙ ap (λ bs. counts_of (with_freed_all c.args.log.now bs)) (take_all c.loop-block.block-index c.args.change.now.freed.items (let same = ap length c.deref-block-items.ensures.value in let end = c.loop-block-test.false in omega arith))
