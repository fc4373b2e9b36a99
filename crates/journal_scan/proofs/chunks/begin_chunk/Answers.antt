use Rattle.std.proofs.Common.{◌++◌, List, length, ap, sym, subst, ◌∙◌}
use Rattle.std.specs.List.{All}
use Rattle.log_layout.specs.Chunks.{dues}
use Rattle.log_layout.specs.declared.due.Due.{Due}
use Rattle.journal_scan.specs.Course.{IsFit}
use Rattle.journal_scan.proofs.Steps.{dues_fit}
use Rattle.journal_scan.proofs.chunks.begin_chunk.Goals as goal

pub returns-in_ok-push_numbers-clause-fit : goal.returns-in_ok-push_numbers-clause-fit
returns-in_ok-push_numbers-clause-fit c =
    let size = length c.args.block.now in
    let d = c.in-Some.descriptor in
    subst (All (IsFit (length c.args.block.now))) (sym (c.in_ok-push_dues.ensures ∙ ap (λ (l : List Due). l ++ dues d.kind size d.entries c.args.block.now) c.requires.none)) (dues_fit d.kind size d.entries c.args.block.now)

pub returns-else-eq-clause-fit : goal.returns-else-eq-clause-fit
returns-else-eq-clause-fit c =
    let size = length c.args.block.now in
    let d = c.in-Some.descriptor in
    subst (All (IsFit (length c.args.block.now))) (sym (c.in_ok-push_dues.ensures ∙ ap (λ (l : List Due). l ++ dues d.kind size d.entries c.args.block.now) c.requires.none)) (dues_fit d.kind size d.entries c.args.block.now)
