use Rattle.std.proofs.Common.{◌≡◌, ◌++◌, map, drop}
use Rattle.image_mount.specs.Mounted.{Journal}
use Rattle.show_text.specs.Show.{journal_lines}
use Rattle.cluster_program.proofs.show.append_journals.Given as goal

abbrev pub invariant-loop-journal : goal.invariant-loop-journal
invariant-loop-journal l = record {
  number : l.number ≡ l.journal-index;
  lines : l.initial.text.items ++ journal_lines 0 (map (λ (j : Journal). j.head.clean) l.journals)
      ≡ l.text.items ++ journal_lines l.number (map (λ (j : Journal). j.head.clean) (drop l.journal-index l.journals));
}
