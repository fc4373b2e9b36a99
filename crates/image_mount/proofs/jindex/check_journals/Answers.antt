use Rattle.std.proofs.Common.{◌≡◌, ◌<◌, ℕ, length, true, arith, refl}
use Rattle.std.specs.Prelude.{map}
use Rattle.image_mount.specs.Listing.{said}
use Rattle.image_model.specs.Journals.{journal_name}
use Rattle.image_mount.specs.System.{AreAmong, LacksName}
use Rattle.image_mount.proofs.Causes.{lacks}
use Rattle.image_mount.proofs.Numbered.{wrong_journals, lacks_journal, journals_among, at_some, at_none}
use Rattle.image_mount.proofs.jindex.check_journals.Goals as goal
use Rattle.image_mount.proofs.jindex.check_journals.Goals.{then-count-eq0-via-then-count-eq0, then-count-eq0-via-else-count-eq0+then-count-gt8, then-count-eq0-via-else-count-eq0+else-count-gt8+then-not-are_journal_names}

pub returns-then-count-eq0-clause-refused : goal.returns-then-count-eq0-clause-refused
returns-then-count-eq0-clause-refused c im l groups looked has =
    wrong_journals im l (map said c.args.records.now) _ _ groups looked has c.outside-other.ensures c.count_names-count.ensures
    (λ all. elim c.then-count-eq0.branch [
      | then-count-eq0-via-then-count-eq0 w ↦ absurd (omega (arith, all.0, w.if-count-eq0.true))
      | then-count-eq0-via-else-count-eq0+then-count-gt8 w ↦ absurd (omega (arith, all.1, w.if-count-gt8.true))
      | then-count-eq0-via-else-count-eq0+else-count-gt8+then-not-are_journal_names w ↦
          lacks w.are_journal_names.result w.are_journal_names.ensures w.if-not-are_journal_names.true all.2.2
    ])

pub returns-in-Some-clause-found : goal.returns-in-Some-clause-found
returns-in-Some-clause-found c =
    let found = at_some c.in_ok-journals.field-0 c.in-Some.journals (λ entries. (length entries.items ≡ c.count_names-count.result) × AreAmong c.args.records.now entries.items) c.in-Some.is c.in_ok-journals.ensures.found in
    let yes : c.are_journal_names.result ≡ true = grind (arith, c.if-not-are_journal_names.false) in
    journals_among c.args.records.now c.in-Some.journals.items c.count_names-count.result c.count_names-count.result refl c.count_names-count.ensures (omega (arith, c.if-count-eq0.false)) c.if-count-gt8.false
    found.0 found.1 (c.are_journal_names.ensures.0 yes)

pub returns-in-None-clause-refused : goal.returns-in-None-clause-refused
returns-in-None-clause-refused c im l groups looked has =
    wrong_journals im l (map said c.args.records.now) _ _ groups looked has c.outside-other.ensures c.count_names-count.ensures
    (λ all. lacks_journal c.args.records.now c.count_names-count.result c.count_names-count.result refl
    (at_none c.in_ok-journals.field-0 ((j : ℕ) × (j < c.count_names-count.result) × LacksName c.args.records.now (journal_name j)) c.in-None.is c.in_ok-journals.ensures.none) all.2)
