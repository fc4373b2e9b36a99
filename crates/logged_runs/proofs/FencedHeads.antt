-- The loss of a run goes by the head behind its fence, and by that of its start.
use Rattle.std.proofs.Common.{◌≡◌, ◌⊎◌, ℕ, List, [], ◌∷◌, ◌++◌, length, Option, None, refl, sym, ap, ◌∙◌, inl, inr}
use Rattle.image_machine.specs.Volumes.{Volume}
use Rattle.lone_machine.specs.Alone.{Begun}
use Rattle.logged_steps.specs.Ends.{EndsTo, Landed, Said, Unsaid, clean_item}
use Rattle.logged_steps.specs.Fails.{AsItWas, FailsTo, InAWrite}
use Rattle.logged_steps.specs.Laws.{FailedWritesKeep, HeadsAreTold, StepsAreTold, StepsKeep}
use Rattle.logged_steps.specs.LoggedLaws.{ItsHistoryIsLegal}
use Rattle.logged_steps.specs.Points.{Point}
use Rattle.logged_steps.specs.States.{trees_on}
use Rattle.logged_steps.specs.Steps.{Steps}
use Rattle.logged_steps.proofs.Telling.{append_nil}
use Rattle.run_rules.specs.Lives.{DiskHeads, head_of, items_of, recovered_behind}
use Rattle.script_lang.specs.declared.script.Client.{Client}
use Rattle.trace_text.specs.declared.item.TraceItem.{TraceItem}
use Rattle.trace_text.specs.declared.item.TraceItem.TheVariants as trace
use Rattle.logged_runs.specs.Heads.{HasFirst}
use Rattle.logged_runs.specs.Laws.{GoesByHead, IsStop, LossesGoByHeads, to_fence}
use Rattle.logged_runs.specs.Starts.{BeginsAt, only_life}
use Rattle.logged_runs.proofs.Losing.{IsItsStop, fenced_too, head_fenced, its_part, stops}
use Rattle.logged_runs.proofs.Runs.{first_at, items_are, stay, xs}
use Rattle.logged_runs.proofs.Staying.{AllStay, stay_on}

-- items that may come last: none of them ends a life, or recovers a slot
pub record ComesLast (before after tail : List TraceItem) : Type 0 where
  pub are : after ≡ before ++ tail
  pub stays : AllStay tail
  pub silent : (n : ℕ) → recovered_behind 1 n tail ≡ None

nothing_last : (before : List TraceItem) → ComesLast before before []
nothing_last before = record { are = sym (append_nil before); stays = tt; silent = λ n. refl }

failed_last : (time : ℕ) (p q : Point) → FailsTo time p q → (tail : List TraceItem) × ComesLast p.items q.items tail
failed_last time p q AsItWas = ([], nothing_last p.items)
failed_last time p q (InAWrite b bytes list log item told step) = ([], nothing_last p.items)

ended_last : (p q : Point) → EndsTo p q → (tail : List TraceItem) × ComesLast p.items q.items tail
ended_last p q (Unsaid bytes list flies) = ([], nothing_last p.items)
ended_last p q (Said bytes list flies) = (clean_item p ∷ [], record { are = refl; stays = (tt, tt); silent = λ n. refl })
ended_last p q (Landed bytes list flies) = (clean_item p ∷ trace.Barrier 1 ∷ [], record { are = refl; stays = (tt, (tt, tt)); silent = λ n. refl })

module _ (keep : StepsKeep) (fails : FailedWritesKeep) (heads : HeadsAreTold) (tells : StepsAreTold) (legal : ItsHistoryIsLegal)
    (v : Volume) (s : Begun (trees_on v)) (d : ℕ) (clients : List Client) (time : ℕ) (a p q : Point) (x : TraceItem) (disks : DiskHeads) (begins : BeginsAt v s d clients a) (steps : Steps time a p)
    (is_stop : IsStop x) (first : HasFirst v d a disks.behind) (tail : List TraceItem) (last : ComesLast p.items q.items tail) where
  abbrev own : List TraceItem
  own = xs keep fails heads tells legal v s d clients time a p p begins steps AsItWas

  abbrev all : List TraceItem
  all = own ++ tail

  abbrev stop : IsItsStop clients x
  stop = stops clients x is_stop

  abbrev fence : List TraceItem
  fence = x ∷ trace.Fence 1 ∷ []

  all_stay : AllStay all
  all_stay = stay_on own tail (stay keep fails heads tells legal v s d clients time a p p begins steps AsItWas) last.stays

  are : q.items ≡ trace.Join 1 ∷ all
  are = last.are ∙ ap (λ is. is ++ tail) (items_are keep fails heads tells legal v s d clients time a p p begins steps AsItWas)

  fenced_is : to_fence x q.items ≡ trace.Join 1 ∷ (all ++ fence)
  fenced_is = ap (λ is. is ++ fence) are

  its : items_of only_life (to_fence x q.items) ≡ own ++ tail
  its = ap (items_of only_life) fenced_is ∙ its_part clients all fence all_stay (fenced_too clients x stop) ∙ ap (λ is. all ++ is) (stop.cut (trace.Fence 1 ∷ [])) ∙ append_nil all

  pub goes_by_head : GoesByHead disks a.log.sequence (to_fence x q.items)
  goes_by_head = record {
    head = ap (head_of disks only_life) fenced_is ∙ head_fenced clients x stop all all_stay disks ∙ ap (λ is. disks.behind 1 (length is)) (sym fenced_is);
    first = first_at keep fails heads tells legal v s d clients time a p p begins steps AsItWas disks first (to_fence x q.items) tail last.silent its;
  }

-- what came last, however it ended
last_of : (time : ℕ) (p q : Point) → FailsTo time p q ⊎ EndsTo p q → (tail : List TraceItem) × ComesLast p.items q.items tail
last_of time p q (inl fail) = failed_last time p q fail
last_of time p q (inr end) = ended_last p q end

pub losses_go_by_heads : StepsKeep → FailedWritesKeep → HeadsAreTold → StepsAreTold → ItsHistoryIsLegal → LossesGoByHeads
losses_go_by_heads keep fails heads tells legal v s d clients time a p q x disks begins steps ends is_stop first =
    let last = last_of time p q ends in
    goes_by_head keep fails heads tells legal v s d clients time a p q x disks begins steps is_stop first last.0 last.1
