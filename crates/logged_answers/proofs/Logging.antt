-- What an answered call changes the log takes.
use Rattle.std.proofs.Common.{◌≡◌, ◌≤◌, ℕ, inl, inr, List, length, sym, ap, subst, ◌∙◌, arith}
use Rattle.std.specs.FinMap as table
use Rattle.std.specs.Ordering.{nat_cmp}
use Rattle.profile_limits.specs.Limits.{least_frames, most_group_blocks}
use Rattle.file_tree.specs.declared.call.Call.{Call}
use Rattle.file_tree.specs.declared.reply.Reply.{Reply}
use Rattle.drafts.specs.declared.change.Change.{Change}
use Rattle.growth_laws.specs.Laws.{FilesAreInodes, InodesAreFiles}
use Rattle.image_machine.specs.Volumes.{Volume}
use Rattle.image_model.specs.Profile.{group_length}
use Rattle.log_values.specs.Changes.{Suffices, with_change}
use Rattle.log_values.specs.Laws.{IsAtRest, LiveFits, SmallChangesFit}
use Rattle.log_values.specs.Log.{Entry}
use Rattle.logged_steps.specs.Answers.{IsDoneBy}
use Rattle.logged_steps.specs.States.{trees_on}
use Rattle.lone_machine.specs.Alone.{Begun}
use Rattle.lone_view.specs.Seeing.{seen_alone}
use Rattle.script_lang.specs.declared.script.Client.{Client}
use Rattle.logged_steps.specs.Laws.{IsLoggedAt}
use Rattle.logged_steps.specs.Points.{Point}
use Rattle.loggable_changes.specs.Loggable.{CanBeLogged}
use Rattle.loggable_changes.proofs.Logged.{answers_can_be_logged}
use Rattle.small_calls.specs.Sizes.{IsOfScript}
use Rattle.small_calls.proofs.Calls.{calls_are_small}
use Rattle.logged_answers.specs.Logging.{AnswersCanBeAdded, AnswersHaveRoom, HasFewLive}
use Rattle.logged_answers.specs.Working.{WorksAt}
use Rattle.logged_answers.proofs.Working.{nodes_work_on_an_image}

module _ (v : Volume) (s : Begun (trees_on v)) (d : ℕ) (clients : List Client) (time : ℕ) (p : Point) (call : Call) (reply : Reply) (change : Change) (at : IsLoggedAt v s d clients p)
    (done : IsDoneBy p.view time call reply change) where
  there : WorksAt clients p v.layout s.tree
  there = nodes_work_on_an_image v s d clients p at

  of_journal : p.view.size ≡ p.log.journal.size
  of_journal = sym (at.is.journal.size ∙ at.volume.size)

  can : CanBeLogged p.log.journal.size p.disk.count change
  can = subst (λ n. CanBeLogged n p.disk.count change) of_journal (subst (λ n. CanBeLogged p.view.size n change) there.works.count
      (answers_can_be_logged (seen_alone p.view) call reply change there.image there.owners v.layout _ at.volume.view there.works.view done.inside done.does))

  module _ (files : InodesAreFiles) (inodes : FilesAreInodes) (few_groups : group_length v.layout.groups ≤ most_group_blocks) (script : IsOfScript call) where
    few_written : length change.blocks.items ≤ 375
    few_written = calls_are_small seen_alone files inodes p.view call 1 time reply change there.image there.owners v.layout _ at.volume.view (record { is = there.works.view; few = few_groups }) script done.does done.answered

    few_live : LiveFits → HasFewLive p.log → table.len p.log.live ≤ 512
    few_live fits (inl short) = let less = fits p.log at.is.sound in omega (arith, less, short)
    few_live fits (inr none) = let e : table.len p.log.live ≡ 0 = ap table.len none ∙ table.len-empty nat_cmp Entry in omega (arith, e)

    fits : SmallChangesFit → LiveFits → IsAtRest p.log → least_frames ≤ p.log.journal.frames → HasFewLive p.log → Suffices (with_change p.log change)
    fits small live rests frames few = small p.log change at.is.sound can.can rests frames (few_live live few) few_written

pub answers_can_be_added : AnswersCanBeAdded
answers_can_be_added v s d clients time p call reply change at done = can v s d clients time p call reply change at done

pub answers_have_room : InodesAreFiles → FilesAreInodes → SmallChangesFit → LiveFits → AnswersHaveRoom
answers_have_room files inodes small live v s d clients time p call reply change at groups script done rests frames few =
    fits v s d clients time p call reply change at done files inodes groups script small live rests frames few
