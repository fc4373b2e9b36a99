use Rattle.std.proofs.Common.{sym, ◌∙◌}
use Rattle.image_journals.proofs.Adding.{added_none}
use Rattle.image_journals.proofs.Named.{named_here, named_nowhere, named_unused}
use Rattle.image_journals.proofs.naming.add_record.Goals as goal

pub returns-then-not-is_in_use : goal.returns-then-not-is_in_use
returns-then-not-is_in_use c s shown = added_none _ _ (named_unused s c.args.record.now.head c.args.record.now.name.now shown (sym c.is_in_use.ensures ∙ c.if-not-is_in_use.true))

pub returns-then-not-is_journal_name : goal.returns-then-not-is_journal_name
returns-then-not-is_journal_name c s shown =
    added_none _ _ (named_nowhere s c.args.record.now.head c.args.record.now.name.now shown c.is_journal_name.result (sym c.is_in_use.ensures ∙ c.if-not-is_in_use.false) c.is_journal_name.ensures c.if-not-is_journal_name.true)

pub returns : goal.returns
returns c s shown =
    named_here s c.args.record.now.head c.args.record.now.name.now shown c.is_journal_name.result (sym c.is_in_use.ensures ∙ c.if-not-is_in_use.false) c.is_journal_name.ensures c.if-not-is_journal_name.false _ _ c.in_ok-push.ensures.items
