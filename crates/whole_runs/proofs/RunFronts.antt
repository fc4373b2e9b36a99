-- Runs stand front by front, with all that came behind them.
use Rattle.std.proofs.Common.{◌≡◌, ◌⊎◌, ℕ, ◌+◌, List, [], ◌∷◌, ◌++◌, refl, sym, ap, subst, ◌∙◌, inl, inr}
use Rattle.std.specs.List.{AllByRecursion}
use Rattle.cluster_history.specs.History.{Legal}
use Rattle.cluster_history.specs.declared.Item.{Item}
use Rattle.file_tree.specs.Tree.{Tree}
use Rattle.cut_replays.specs.Recoveries.{AreReplays}
use Rattle.disk_turns.specs.Turns.{Moment}
use Rattle.image_machine.specs.Volumes.{Volume, volume_of}
use Rattle.image_model.specs.Image.{image_of}
use Rattle.image_model.specs.Owners.{Owners}
use Rattle.image_model.specs.Stands.{Layout}
use Rattle.image_mount.specs.Mounted.{MountedValue}
use Rattle.logged_runs.specs.Fails.{AsItWas, FailsTo, InAWrite}
use Rattle.logged_runs.specs.Laws.{CallsAreCounted, RunsBeginSo}
use Rattle.logged_runs.specs.Points.{IsOfRun, Point}
use Rattle.logged_runs.specs.Starts.{BeginsAt}
use Rattle.logged_runs.specs.StepEnds.{EndsTo, Landed, Said, Unsaid, clean_item}
use Rattle.logged_runs.specs.StepLaws.{StepsAreTold, TellsWhatItDoes}
use Rattle.logged_runs.specs.StepStarts.{starting}
use Rattle.logged_runs.specs.Steps.{Steps}
use Rattle.logged_runs.specs.States.{trees_on}
use Rattle.logged_runs.proofs.Telling.{append_nil}
use Rattle.logged_runs.proofs.Histories.{history_on}
use Rattle.lone_images.specs.Lone.{begun_on}
use Rattle.lone_machine.specs.Alone.{Begun}
use Rattle.peer_replay.specs.declared.planned.Plan.{Plan}
use Rattle.run_rules.specs.Follows.{history_of}
use Rattle.script_lang.specs.declared.script.Client.{Client}
use Rattle.shared_disk.specs.Disk.{Gains, Operation}
use Rattle.trace_text.specs.declared.item.TraceItem.{TraceItem}
use Rattle.trace_text.specs.declared.item.TraceItem.TheVariants as trace
use Rattle.whole_runs.specs.Fronts.{ComesBehind, RunsStandAtEachFront, StandsAtEachFront}
use Rattle.whole_runs.specs.Wholes.{Course, HasRunWhole, IsRun, ends_with}
use Rattle.whole_runs.proofs.Fronts.{IsNoLoss, StandsOfItself, each_front, no_loss_on}
use Rattle.whole_runs.proofs.Items.{of_replays}
use Rattle.whole_runs.proofs.Running.{run_begins}
use Rattle.whole_runs.proofs.StartFronts.{replays_lose_nothing}

-- ---- no item of a run is a loss

run_loses_nothing : (xs : List TraceItem) → AllByRecursion IsOfRun xs → AllByRecursion IsNoLoss xs
run_loses_nothing [] all = tt
run_loses_nothing (x ∷ xs) all = (no_loss x all.0, run_loses_nothing xs all.1)
  where
    no_loss : (x : TraceItem) → IsOfRun x → IsNoLoss x
    no_loss (trace.Lost node kept) of = of
    no_loss x of = tt

failed_none : (time : ℕ) (p q : Point) → FailsTo time p q → AllByRecursion IsNoLoss p.items → AllByRecursion IsNoLoss q.items
failed_none time p q AsItWas none = none
failed_none time p q (InAWrite b bytes list log item told step) none = none

ended_none : (p q : Point) → EndsTo p q → AllByRecursion IsNoLoss p.items → AllByRecursion IsNoLoss q.items
ended_none p q (Unsaid bytes list flies) none = none
ended_none p q (Said bytes list flies) none = no_loss_on p.items (clean_item p ∷ []) none (tt, tt)
ended_none p q (Landed bytes list flies) none = no_loss_on p.items (clean_item p ∷ trace.Barrier 1 ∷ []) none (tt, (tt, tt))

-- ---- what comes last is in no history

pub failed_same : (clients : List Client) (time : ℕ) (p q : Point) → FailsTo time p q → history_of clients q.items ≡ history_of clients p.items
failed_same clients time p q AsItWas = refl
failed_same clients time p q (InAWrite b bytes list log item told step) = refl

pub ended_same : (clients : List Client) (p q : Point) → EndsTo p q → history_of clients q.items ≡ history_of clients p.items
ended_same clients p q (Unsaid bytes list flies) = refl
ended_same clients p q (Said bytes list flies) = history_on clients p.items (clean_item p ∷ []) ∙ append_nil (history_of clients p.items)
ended_same clients p q (Landed bytes list flies) = history_on clients p.items (clean_item p ∷ trace.Barrier 1 ∷ []) ∙ append_nil (history_of clients p.items)

-- ---- a run

module _ (counting : CallsAreCounted) (tells : StepsAreTold) (begin : RunsBeginSo) (clients : List Client) (before : Moment) (m : MountedValue) (plans : List Plan) (time : ℕ) (start : Tree) (o : Owners) (l : Layout) (d : ℕ) (a p q : Point)
    (operations : List Operation) (run : IsRun clients before m plans time start o l d a p q) (whole : HasRunWhole before o l d clients start a q operations) where
  abbrev v : Volume
  v = volume_of (image_of a.disk) l

  abbrev s : Begun (trees_on v)
  s = begun_on (image_of a.disk) o l start

  abbrev added : List TraceItem
  added = run.replays.added

  begins : BeginsAt v s d clients a
  begins = run_begins begin clients before m plans time start o l d a p q run

  does : TellsWhatItDoes a p
  does = tells time a p run.steps

  start_none : AllByRecursion IsNoLoss a.items
  start_none = subst (AllByRecursion IsNoLoss) (sym run.replays.are) (tt, replays_lose_nothing added (of_replays 1 time before (record { disk = a.disk; list = a.list }) m.journals plans added run.replays.replays))

  point_none : AllByRecursion IsNoLoss p.items
  point_none = subst (AllByRecursion IsNoLoss) (sym does.items) (no_loss_on a.items does.more start_none (run_loses_nothing does.more does.of_run))

  all_none : AllByRecursion IsNoLoss q.items
  all_none = elim run.last [ inl fail ↦ failed_none time p q fail point_none | inr end ↦ ended_none p q end.0 point_none ]

  same : history_of clients q.items ≡ history_of clients p.items
  same = elim run.last [ inl fail ↦ failed_same clients time p q fail | inr end ↦ ended_same clients p q end.0 ]

  its_items : q.items ≡ whole.course.items
  its_items = sym whole.has.items

  of_itself : StandsOfItself v d clients before.disk start whole.course
  of_itself = record {
    legal = subst (λ is. Legal (history_of clients is) start) its_items (subst (λ h. Legal h start) (sym same) (counting v s d clients time a p begins run.steps).legal);
    none = subst (AllByRecursion IsNoLoss) its_items all_none;
    fronts = whole.stands.fronts;
    whole = whole.stands.whole;
    stops = whole.stands.stops;
    fences = λ x became more is_stop settles. (whole.stands.fences x became more is_stop settles.outcome settles.no_false).told.stands;
    lost = λ x became kept is_stop settles right. (whole.stands.fences x became (trace.Lost 1 kept ∷ []) is_stop settles.outcome settles.no_false).lost kept right;
  }

  pub at_each_front : (c : Course) → ComesBehind v d clients before.disk whole.course c → StandsAtEachFront v d clients before.disk start c
  at_each_front c behind = each_front v d clients before.disk start whole.course of_itself c behind

pub runs_stand_at_each_front : CallsAreCounted → StepsAreTold → RunsBeginSo → RunsStandAtEachFront
runs_stand_at_each_front counting tells begin clients before m plans time start o l d a p q operations run whole c behind =
    at_each_front counting tells begin clients before m plans time start o l d a p q operations run whole c behind
