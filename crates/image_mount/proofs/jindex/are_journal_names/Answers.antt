use Rattle.std.proofs.Common.{refl, arith}
use Rattle.image_mount.proofs.Numbered.{named_more, named_all, other_name}
use Rattle.image_mount.proofs.jindex.are_journal_names.Goals as goal
use Rattle.image_mount.proofs.jindex.are_journal_names.Goals.{else-leads_on-via-then-leads_on+else-not-is_journal_name, else-leads_on-via-else-leads_on}

pub returns-then-not-is_journal_name : goal.returns-then-not-is_journal_name
returns-then-not-is_journal_name c = (
  λ yes. cc,
  λ names. absurd (other_name c.args.records.now c.loop-record.record-index _ c.args.count (omega (arith, c.loop-record-test.true)) (grind (arith, c.leads_on.ensures, c.if-leads_on.true))
      (c.is_journal_name.ensures.none (grind (arith, c.if-not-is_journal_name.true))) names),
)

pub loop-record-preserved : goal.loop-record-preserved
loop-record-preserved c =
    named_more c.args.records.now c.loop-record.record-index _ c.args.count c.leads_on.result c.leads_on.ensures c.loop-record.invariant
    (λ leads. elim c.else-leads_on.branch [
      | else-leads_on-via-then-leads_on+else-not-is_journal_name w ↦ w.is_journal_name.ensures.found (grind (arith, w.if-not-is_journal_name.false))
      | else-leads_on-via-else-leads_on w ↦ absurd (grind (arith, leads, w.if-leads_on.false))
    ])

pub returns : goal.returns
returns c = (λ yes. named_all c.args.records.now c.loop-record.record-index c.args.count (omega (arith, c.loop-record-test.false)) c.loop-record.invariant, λ names. refl)
