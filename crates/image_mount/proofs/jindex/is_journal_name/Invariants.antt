use Rattle.std.proofs.Common.{◌≢◌, ◌<◌, ℕ}
use Rattle.image_model.specs.Journals.{journal_name}
use Rattle.image_mount.proofs.jindex.is_journal_name.Given as goal

abbrev pub invariant-loop-j : goal.invariant-loop-j
invariant-loop-j l = (k : ℕ) → k < l.j → l.name ≢ journal_name k
