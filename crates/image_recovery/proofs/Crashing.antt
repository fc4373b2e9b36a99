-- A node that crashes in the replay of a journal.
use Rattle.std.proofs.Common.{◌+◌}
use Rattle.journal_replays.specs.Faults.{IfCrashed}
use Rattle.journal_replays.specs.declared.faults.ReplayFault.{ReplayFault}
use Rattle.journal_replays.specs.declared.faults.ReplayFault.TheVariants.{Crashed, DiskFailed, NoMemory}
use Rattle.journal_replays.proofs.Replayed.{crashed_is_failed}
use Rattle.image_recovery.specs.Laws.{CrashedAreAsFailed}

pub crashed_are_failed : CrashedAreAsFailed
crashed_are_failed node time before after journals plans items items' is = record {
  count = is.count;
  between = is.between;
  its_items = is.its_items;
  replayed = is.replayed;
  journal = is.journal;
  plan = is.plan;
  at_journal = is.at_journal;
  at_plan = is.at_plan;
  failed = crashed_is_failed node (is.count + 1) is.journal.dinode is.journal.blocks time is.between after is.plan is.its_items items' is.crashed;
}

pub crashed_next : (fault : ReplayFault) {P Q : Type 0} → (P → Q) → IfCrashed fault P → IfCrashed fault Q
crashed_next (DiskFailed block rise) f is = tt
crashed_next Crashed f is = f is
crashed_next NoMemory f is = tt
