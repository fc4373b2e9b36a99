-- The items of a run tell the operations that its list gained, but for one write at most.
use Rattle.std.proofs.Common.{List, ◌++◌, Option, sym, ap, subst, ◌∙◌, inl, inr}
use Rattle.std.proofs.lemmas.List.{append_assoc}
use Rattle.disk_items.specs.Deeds.{AreDoneBy, AreTold, AreToldButOne, but_one, each}
use Rattle.disk_items.proofs.Going.{goes_on}
use Rattle.disk_turns.proofs.Gaining.{gains_join}
use Rattle.logged_runs.proofs.Telling.{append_nil}
use Rattle.logged_runs.specs.StepLaws.{StepsAreTold, TellsWhatItDoes}
use Rattle.shared_disk.specs.Disk.{Gains, Operation}
use Rattle.trace_text.specs.declared.item.TraceItem.{TraceItem}
use Rattle.whole_runs.specs.Wholes.{IsOneWrite, RunsAreTold, no_write, one_write}
use Rattle.whole_runs.proofs.Last.{LastOps, ended_ops, failed_ops}

by_write : (before after : Option (List Operation)) (items : List TraceItem) (operations further : List Operation) → IsOneWrite further → AreDoneBy items operations → Gains before after (operations ++ further) → AreToldButOne 1 before after items
by_write before after items operations _ no_write done gains = each (operations, done, subst (Gains before after) (append_nil operations) gains)
by_write before after items operations _ (one_write block bytes) done gains = but_one operations block bytes done gains

pub runs_are_told : StepsAreTold → RunsAreTold
runs_are_told tells clients before m plans time start o l d a p q run =
    by_write before.list q.list q.items (first.0 ++ (does.operations ++ last.operations)) last.further last.one
    (subst (λ is. AreDoneBy is (first.0 ++ (does.operations ++ last.operations)))
    (sym (last.items ∙ ap (λ is. is ++ last.extra) does.items ∙ append_assoc a.items does.more last.extra))
    (goes_on a.items (does.more ++ last.extra) first.0 (does.operations ++ last.operations) (subst (λ is. AreDoneBy is first.0) (sym run.replays.are) first.1) (goes_on does.more last.extra does.operations last.operations does.told last.told)))
    (subst (Gains before.list q.list) (sym (append_assoc first.0 (does.operations ++ last.operations) last.further ∙ ap (λ os. first.0 ++ os) (append_assoc does.operations last.operations last.further)))
    (gains_join before.list a.list q.list first.0 (does.operations ++ (last.operations ++ last.further)) first.2
    (gains_join a.list p.list q.list does.operations (last.operations ++ last.further) does.gains last.gains)))
  where
    first : AreTold before.list a.list run.replays.added
    first = run.replays.told

    does : TellsWhatItDoes a p
    does = tells time a p run.steps

    last : LastOps p q
    last = elim run.last [ inl fail ↦ failed_ops tells time p q fail | inr end ↦ ended_ops p q end.0 end.1 ]
