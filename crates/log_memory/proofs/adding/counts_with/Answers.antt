use Rattle.std.proofs.Common.{◌<◌, ◌∙◌, List, ap, ap₂, arith, get_or, length, subst}
use Rattle.std.proofs.lemmas.List.{take_all}
use Rattle.drafts.specs.declared.change.Written.{Written}
use Rattle.log_memory.specs.Adding.{counts_of, with_freed_all, with_written_all}
use Rattle.log_memory.proofs.Written.{as_it_was, few_revokes, few_versions, one_more, written_to}
use Rattle.log_memory.proofs.adding.counts_with.Goals as goal

pub once_written-counts-requires-clause-counted : goal.once_written-counts-requires-clause-counted
once_written-counts-requires-clause-counted c =
    let items = c.deref-written-items.ensures.value in
    let less = subst (λ (ws : List Written). c.loop-written.written-index < length ws) items c.loop-written-test.true in
    record {
      counted = written_to c.args.log.now c.args.change.now c.requires c.loop-written.written-index;
      alike = as_it_was c.args.log.now c.args.change.now c.requires c.loop-written.written-index c.written-item.result less
          (c.written-item.is ∙ ap (λ (ws : List Written). get_or ws c.loop-written.written-index c.written-item.result) items);
      counts = c.loop-written.invariant;
    }

pub once_written-counts-requires-clause-few : goal.once_written-counts-requires-clause-few
once_written-counts-requires-clause-few c =
    few_versions c.args.log.now c.args.change.now c.requires c.counts_freed-counts.ensures.sound c.loop-written.written-index c.loop-written.counts c.loop-written.invariant

pub loop-written-preserved : goal.loop-written-preserved
loop-written-preserved c =
    let items = c.deref-written-items.ensures.value in
    let less = subst (λ (ws : List Written). c.loop-written.written-index < length ws) items c.loop-written-test.true in
    let at = c.written-item.is ∙ ap (λ (ws : List Written). get_or ws c.loop-written.written-index c.written-item.result) items in
    let more = one_more c.args.log.now c.args.change.now c.requires c.loop-written.written-index c.written-item.result less at in
    c.once_written-counts.ensures (written_to c.args.log.now c.args.change.now c.requires c.loop-written.written-index) more.0
    (as_it_was c.args.log.now c.args.change.now c.requires c.loop-written.written-index c.written-item.result less at) c.loop-written.invariant
    ∙ ap counts_of more.1

pub returns-clause-counts : goal.returns-clause-counts
returns-clause-counts c =
    let same = ap length c.deref-written-items.ensures.value in
    let end = c.loop-written-test.false in
    let locks = c.requires.locks in
    c.loop-written.invariant
    ∙ ap counts_of
    (ap₂ (with_written_all (with_freed_all c.args.log.now c.args.change.now.freed.items))
    (take_all c.loop-written.written-index c.args.change.now.blocks.items (omega arith))
    (take_all c.loop-written.written-index c.args.change.now.locks.items (omega arith)))

pub returns-clause-versions : goal.returns-clause-versions
returns-clause-versions c =
    few_versions c.args.log.now c.args.change.now c.requires c.counts_freed-counts.ensures.sound c.loop-written.written-index c.loop-written.counts c.loop-written.invariant

pub returns-clause-revokes : goal.returns-clause-revokes
returns-clause-revokes c =
    few_revokes c.args.log.now c.args.change.now c.requires c.counts_freed-counts.ensures.sound c.loop-written.written-index c.loop-written.counts c.loop-written.invariant
