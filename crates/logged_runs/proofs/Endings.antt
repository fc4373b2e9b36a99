-- The end of a run of one node with its log, by its items.
use Rattle.std.proofs.Common.{◌≡◌, ℕ, ◌+◌, ◌<◌, inl, inr, List, [], ◌∷◌, ◌++◌, length, None, Some, refl, sym, ap, subst, ◌∙◌, arith, Option, suc}
use Rattle.std.specs.Prelude.{IsTrue, unwrap_or}
use Rattle.std.proofs.Math.Nat.{mod-eq_of_lt}
use Rattle.std.proofs.lemmas.Bool.{cases_eq, cond-true}
use Rattle.cluster_history.specs.History.{IsNumbered, calls_of, tree_of}
use Rattle.image_changes.specs.Instances.{StandsBy}
use Rattle.image_machine.specs.Volumes.{Volume, images_of}
use Rattle.image_model.specs.Image.{Image, image_of}
use Rattle.image_model.specs.Replays.{StandsReplayed}
use Rattle.image_model.proofs.Held.{none_some, some_same}
use Rattle.journal_outcomes.specs.Disks.{flown_by}
use Rattle.journal_outcomes.specs.Images.{IsImageOutcome, NoFalseHeader}
use Rattle.journal_outcomes.specs.Rings.{InFlight}
use Rattle.log_layout.specs.Transactions.{after}
use Rattle.log_values.specs.Flushing.{block_at, first_place}
use Rattle.logged_steps.specs.NodeEnds.{CleanNodesHaveEnded, FliesLast, IsHeadAtEnd, ItsEndsLand, ItsEndsStand}
use Rattle.logged_steps.specs.NodeEnds.{IsHeadAtEnd as end_head}
use Rattle.logged_steps.specs.Fences.{ImagesAtRestStay}
use Rattle.logged_steps.specs.LoggedLaws.{ItsHistoryIsLegal, Remains}
use Rattle.logged_steps.specs.States.{HasLandedAs, NodeState, Numbers, trees_on}
use Rattle.logged_steps.proofs.Landed.{landed_outcome, landed_true}
use Rattle.lone_machine.specs.Alone.{Begun}
use Rattle.run_rules.specs.Follows as run
use Rattle.run_rules.specs.Lives.{AcceptedHead, DiskHeads, head_of, items_of, named, recovered_behind, to_its_end, upto_of}
use Rattle.script_lang.specs.declared.script.Client.{Client}
use Rattle.shared_disk.specs.Disk.{DiskState, Operation, after_barrier, settled, written}
use Rattle.trace_text.specs.declared.item.TraceItem.{TraceItem}
use Rattle.trace_text.specs.declared.item.TraceItem.TheVariants as trace
use Rattle.tree_histories.specs.Trees.{history_of}
use Rattle.written_journals.proofs.RingsWritten.{on_inside}
use Rattle.logged_steps.specs.Ends.{EndsTo, Landed, Said, Unsaid, clean_item, last_block, with_clean}
use Rattle.logged_steps.specs.Fails.{AsItWas}
use Rattle.logged_steps.specs.Laws.{FailedWritesKeep, HeadsAreTold, IsLoggedAt, StepsAreTold, StepsKeep}
use Rattle.logged_steps.specs.Points.{Point, state_of}
use Rattle.logged_steps.specs.Steps.{Steps}
use Rattle.logged_steps.proofs.Histories.{history_on}
use Rattle.logged_steps.proofs.Telling.{append_nil}
use Rattle.logged_runs.specs.Heads.{HasFirst, IsAcceptedIn}
use Rattle.logged_runs.specs.Laws.{CleanRunsEnd, MayLeave, RunsEnd}
use Rattle.logged_runs.specs.Starts.{BeginsAt, only_life}
use Rattle.logged_runs.proofs.Staying.{AllStay, stay_on}
use Rattle.logged_runs.proofs.Fronts.{IsFront}
use Rattle.logged_runs.proofs.Lasting.{IsLastAs, said, unsaid}
use Rattle.logged_runs.proofs.Lasting.{IsLastAs as last_as}
use Rattle.logged_runs.proofs.Losing.{IsItsEnd, its_part, last_still}
use Rattle.logged_runs.proofs.Machine.{end_syncs, end_within}
use Rattle.logged_runs.proofs.Runs.{at, block_is, clean_is, count_is, first_at, history_is, items_are, noted, numbered_is, plain, replays, same_noted, sequence_is, stay, told, xs}

-- ---- what a barrier brings to its place

landed_as : (d : DiskState) → IsTrue d.tells → HasLandedAs (image_of d) (flown_by d 1) (image_of (after_barrier d 1))
landed_as d tells = record {
  size = refl;
  count = refl;
  new = λ b bytes is. settled_is b ∙ ap (λ o. unwrap_or o (d.block_at b)) is;
  still = λ b none. settled_is b ∙ ap (λ o. unwrap_or o (d.block_at b)) none;
}
  where
    settled_is : (b : ℕ) → settled d (d.in_flight 1) b ≡ written d.block_at (d.in_flight 1) b
    settled_is b = cond-true d.tells (written d.block_at (d.in_flight 1) b) (d.block_at b) tells

-- what flies at the end is one whole block
last_whole : (st : NodeState) (flying : InFlight) → FliesLast st flying → (b : ℕ) (bytes : List ℕ) → flying b ≡ Some bytes → length bytes ≡ st.image.size
last_whole st flying flies b bytes e = elim (cases_eq b (block_at st.log.journal (first_place st.log))) [
  | inl same ↦ ap length (some_same (sym e ∙ ap flying same ∙ flies.flies.there)) ∙ flies.flies.whole
  | inr other ↦ absurd (none_some (sym (flies.flies.others b other ∙ flies.done.still b) ∙ e))
]

-- ---- the front that an end of the run is

module _ (keep : StepsKeep) (fails : FailedWritesKeep) (heads : HeadsAreTold) (tells : StepsAreTold) (legal : ItsHistoryIsLegal) (ends : ItsEndsStand) (rest : ImagesAtRestStay)
    (v : Volume) (s : Begun (trees_on v)) (d : ℕ) (clients : List Client) (time : ℕ) (a p : Point) (begins : BeginsAt v s d clients a) (steps : Steps time a p)
    (bytes : List ℕ) (flight : FliesLast (state_of p) (flown_by (with_clean p bytes) 1)) where
  abbrev logged : IsLoggedAt v s d clients p
  logged = at keep fails heads tells legal v s d clients time a p p begins steps AsItWas

  abbrev its : List TraceItem
  its = xs keep fails heads tells legal v s d clients time a p p begins steps AsItWas

  after_is : after p.log.sequence ≡ p.log.sequence + 1
  after_is = mod-eq_of_lt flight.is.more

  first_inside : first_place p.log < p.log.journal.length
  first_inside = (let least = logged.is.sound.least in let inside : first_place p.log < p.log.journal.length = on_inside p.log.journal.length p.log.head 1 logged.is.sound.head (omega (arith, least)) in inside)

  rem_of : (left : Image) → IsImageOutcome (image_of p.disk) (flown_by (with_clean p bytes) 1) left → NoFalseHeader (image_of p.disk) v.layout (flown_by (with_clean p bytes) 1) left
      → Remains v s logged.world d p.numbers.answered left (IsHeadAtEnd (state_of p))
  rem_of left outcome no_false = ends v s logged.world d (state_of p) (flown_by (with_clean p bytes) 1) left logged.is flight outcome no_false

  head_so : (left : Image) (h : AcceptedHead) (rem : Remains v s logged.world d p.numbers.answered left (IsHeadAtEnd (state_of p))) → IsAcceptedIn v d left h → IsHeadAtEnd (state_of p) rem.head rem.number → IsLastAs p h rem.number
  head_so left h rem accepts (end_head.old low at_head) = last_as.old low
      (block_is keep fails heads tells legal v s d clients time a p p begins steps AsItWas left h rem.head rem.headed accepts p.log.head at_head.place logged.is.sound.head)
      (sequence_is keep fails heads tells legal v s d clients time a p p begins steps AsItWas left h rem.head rem.headed accepts ∙ at_head.sequence)
  head_so left h rem accepts (end_head.last low at_head) = last_as.last low
      (block_is keep fails heads tells legal v s d clients time a p p begins steps AsItWas left h rem.head rem.headed accepts (first_place p.log) at_head.place first_inside)
      (sequence_is keep fails heads tells legal v s d clients time a p p begins steps AsItWas left h rem.head rem.headed accepts ∙ at_head.sequence ∙ after_is)
      (clean_is keep fails heads tells legal v s d clients time a p p begins steps AsItWas left h rem.head rem.headed accepts ∙ at_head.clean)

  -- ---- no item tells of the clean header

  upto_unsaid : (left : Image) (h : AcceptedHead) (rem : Remains v s logged.world d p.numbers.answered left (IsHeadAtEnd (state_of p))) → IsAcceptedIn v d left h → (disks : DiskHeads) → HasFirst v d a disks.behind
      → (end : List TraceItem) → IsItsEnd clients end → to_its_end 1 end ≡ [] → head_of disks only_life (trace.Join 1 ∷ (its ++ end)) ≡ h → upto_of disks only_life (trace.Join 1 ∷ (its ++ end)) ≡ rem.number
  upto_unsaid left h rem accepts disks first end is cut there =
      let all : AllStay its = stay keep fails heads tells legal v s d clients time a p p begins steps AsItWas in
      let are : items_of only_life (trace.Join 1 ∷ (its ++ end)) ≡ its = its_part clients its end all is ∙ ap (λ is. its ++ is) cut ∙ append_nil its in
      unsaid a p (replays keep fails heads tells legal v s d clients time a p p begins steps AsItWas) begins.of_replay (told keep fails heads tells legal v s d clients time a p p begins steps AsItWas)
      (noted keep fails heads tells legal v s d clients time a p p begins steps AsItWas) (same_noted keep fails heads tells legal v s d clients time a p p begins steps AsItWas)
      (plain keep fails heads tells legal v s d clients time a p p begins steps AsItWas) flight.done.flush disks (trace.Join 1 ∷ (its ++ end)) h there
      (first_at keep fails heads tells legal v s d clients time a p p begins steps AsItWas disks first (trace.Join 1 ∷ (its ++ end)) [] (λ n. refl) (are ∙ sym (append_nil its)))
      (ap (λ (n : Numbers). n.low) begins.numbers) rem.number (last_still clients its end all is) are (head_so left h rem accepts rem.is)

  pub front_unsaid : (list : Option (List Operation)) → IsFront v s d clients a (record p { disk = with_clean p bytes; list = list }) (IsHeadAtEnd (state_of p))
  front_unsaid list = record {
    tells = logged.tells;
    world = logged.world;
    st = state_of p;
    is = logged.is;
    its = its;
    items = items_are keep fails heads tells legal v s d clients time a p p begins steps AsItWas;
    stay = stay keep fails heads tells legal v s d clients time a p p begins steps AsItWas;
    history = history_is keep fails heads tells legal v s d clients time a p p begins steps AsItWas;
    numbered = numbered_is keep fails heads tells legal v s d clients time a p p begins steps AsItWas;
    count = count_is keep fails heads tells legal v s d clients time a p p begins steps AsItWas;
    within = end_within v s logged.world d (state_of p) logged.is;
    syncs = end_syncs v s logged.world d (state_of p) logged.is (legal v s logged.world d (state_of p) logged.is);
    remains = λ left may. rem_of left may.outcome may.no_false;
    upto = upto_unsaid;
  }

  -- ---- its item does, and what else may come

  module _ (more : List TraceItem) (stay_more : AllStay more) (silent : run.history_of clients more ≡ []) (no_recovery : (n : ℕ) → recovered_behind 1 n more ≡ None) (no_name : (h : AcceptedHead) → named 1 h more ≡ None) where
    abbrev these : List TraceItem
    these = its ++ clean_item p ∷ more

    stay_said : AllStay these
    stay_said = stay_on its (clean_item p ∷ more) (stay keep fails heads tells legal v s d clients time a p p begins steps AsItWas) (tt, stay_more)

    history_said : run.history_of clients these ≡ history_of (images_of v) logged.world.items
    history_said = history_on clients its (clean_item p ∷ more) ∙ ap (λ is. run.history_of clients its ++ is) silent ∙ append_nil (run.history_of clients its)
        ∙ history_is keep fails heads tells legal v s d clients time a p p begins steps AsItWas

    -- the clean header and what may come say nothing of calls
    same_said : run.history_of clients these ≡ run.history_of clients its
    same_said = history_said ∙ sym (history_is keep fails heads tells legal v s d clients time a p p begins steps AsItWas)

    items_said : p.items ++ clean_item p ∷ more ≡ trace.Join 1 ∷ these
    items_said = ap (λ is. is ++ clean_item p ∷ more) (items_are keep fails heads tells legal v s d clients time a p p begins steps AsItWas)

    upto_said : (left : Image) (h : AcceptedHead) (rem : Remains v s logged.world d p.numbers.answered left (IsHeadAtEnd (state_of p))) → IsAcceptedIn v d left h → (disks : DiskHeads) → HasFirst v d a disks.behind
        → (end : List TraceItem) → IsItsEnd clients end → to_its_end 1 end ≡ [] → head_of disks only_life (trace.Join 1 ∷ (these ++ end)) ≡ h → upto_of disks only_life (trace.Join 1 ∷ (these ++ end)) ≡ rem.number
    upto_said left h rem accepts disks first end is cut there =
        let are : items_of only_life (trace.Join 1 ∷ (these ++ end)) ≡ these = its_part clients these end stay_said is ∙ ap (λ is. these ++ is) cut ∙ append_nil these in
        said a p (replays keep fails heads tells legal v s d clients time a p p begins steps AsItWas) begins.of_replay (told keep fails heads tells legal v s d clients time a p p begins steps AsItWas)
        (noted keep fails heads tells legal v s d clients time a p p begins steps AsItWas) (same_noted keep fails heads tells legal v s d clients time a p p begins steps AsItWas)
        (plain keep fails heads tells legal v s d clients time a p p begins steps AsItWas) flight.done.flush disks (trace.Join 1 ∷ (these ++ end)) h there
        (first_at keep fails heads tells legal v s d clients time a p p begins steps AsItWas disks first (trace.Join 1 ∷ (these ++ end)) (clean_item p ∷ more) (λ n. no_recovery (suc n)) are)
        (ap (λ (n : Numbers). n.low) begins.numbers) rem.number (last_block p) (after p.log.sequence) more are (no_name h) refl after_is (head_so left h rem accepts rem.is)

    said_front : (disk : DiskState) (list : Option (List Operation)) → IsTrue disk.tells → ((left : Image) → MayLeave v disk left → Remains v s logged.world d p.numbers.answered left (IsHeadAtEnd (state_of p)))
        → IsFront v s d clients a (record p { disk = disk; list = list; items = p.items ++ clean_item p ∷ more }) (IsHeadAtEnd (state_of p))
    said_front disk list told remain = record {
      tells = told;
      world = logged.world;
      st = state_of p;
      is = logged.is;
      its = these;
      items = items_said;
      stay = stay_said;
      history = history_said;
      numbered = subst IsNumbered (sym same_said) (numbered_is keep fails heads tells legal v s d clients time a p p begins steps AsItWas);
      count = ap (calls_of 1) same_said ∙ count_is keep fails heads tells legal v s d clients time a p p begins steps AsItWas;
      within = end_within v s logged.world d (state_of p) logged.is;
      syncs = end_syncs v s logged.world d (state_of p) logged.is (legal v s logged.world d (state_of p) logged.is);
      remains = λ left may. remain left (record { outcome = may.outcome; no_false = may.no_false });
      upto = upto_said;
    }

  pub front_said : (list : Option (List Operation)) → IsFront v s d clients a (record p { disk = with_clean p bytes; list = list; items = p.items ++ clean_item p ∷ [] }) (IsHeadAtEnd (state_of p))
  front_said list = said_front [] tt refl (λ n. refl) (λ h. refl) (with_clean p bytes) list logged.tells (λ left may. rem_of left may.outcome may.no_false)

  -- with the barrier it is in its place
  landed : HasLandedAs (image_of p.disk) (flown_by (with_clean p bytes) 1) (image_of (after_barrier (with_clean p bytes) 1))
  landed = landed_as (with_clean p bytes) logged.tells

  landed_rem : (left : Image) → left ≡ image_of (after_barrier (with_clean p bytes) 1) → Remains v s logged.world d p.numbers.answered left (IsHeadAtEnd (state_of p))
  landed_rem left is =
      let here : HasLandedAs (image_of p.disk) (flown_by (with_clean p bytes) 1) left = subst (HasLandedAs (image_of p.disk) (flown_by (with_clean p bytes) 1)) (sym is) landed in
      rem_of left (landed_outcome (image_of p.disk) left (flown_by (with_clean p bytes) 1) (last_whole (state_of p) (flown_by (with_clean p bytes) 1) flight) here)
      (landed_true (image_of p.disk) left (flown_by (with_clean p bytes) 1) here v.layout)

  pub front_landed : (list : Option (List Operation)) → IsFront v s d clients a (record p { disk = after_barrier (with_clean p bytes) 1; list = list; items = p.items ++ clean_item p ∷ trace.Barrier 1 ∷ [] }) (IsHeadAtEnd (state_of p))
  front_landed list = said_front (trace.Barrier 1 ∷ []) (tt, tt) refl (λ n. refl) (λ h. refl) (after_barrier (with_clean p bytes) 1) list logged.tells
      (λ left may. landed_rem left (rest (image_of (after_barrier (with_clean p bytes) 1)) left may.outcome))

-- ---- what it stands for then

pub runs_end : StepsKeep → ItsEndsLand → RunsEnd
runs_end keep lands v s d clients time a p bytes begins steps flight =
    let logged : IsLoggedAt v s d clients p = keep v s d clients time a p begins.at steps in
    let then = lands v s logged.world d (state_of p) (flown_by (with_clean p bytes) 1) (image_of (after_barrier (with_clean p bytes) 1)) logged.is flight (landed_as (with_clean p bytes) logged.tells) in
    let same : history_of (images_of v) logged.world.items ≡ run.history_of clients (p.items ++ clean_item p ∷ trace.Barrier 1 ∷ [])
    = sym (history_on clients p.items (clean_item p ∷ trace.Barrier 1 ∷ []) ∙ append_nil (run.history_of clients p.items) ∙ logged.history) in
    record {
      owners = then.owners;
      stands = subst (λ is. StandsBy (image_of (after_barrier (with_clean p bytes) 1)) then.owners v.layout (tree_of is s.tree)) same then.stands;
      replayed = subst (λ is. StandsReplayed (image_of (after_barrier (with_clean p bytes) 1)) (tree_of is s.tree)) same then.replayed;
      clean = then.clean;
    }

pub clean_runs_end : StepsKeep → CleanNodesHaveEnded → CleanRunsEnd
clean_runs_end keep ended v s d clients time a p begins steps done never =
    let logged : IsLoggedAt v s d clients p = keep v s d clients time a p begins.at steps in
    let then = ended v s logged.world d (state_of p) logged.is done never in
    record {
      owners = then.owners;
      stands = subst (λ is. StandsBy (image_of p.disk) then.owners v.layout (tree_of is s.tree)) (sym logged.history) then.stands;
      replayed = subst (λ is. StandsReplayed (image_of p.disk) (tree_of is s.tree)) (sym logged.history) then.replayed;
      clean = then.clean;
    }

pub front_of_end : StepsKeep → FailedWritesKeep → HeadsAreTold → StepsAreTold → ItsHistoryIsLegal → ItsEndsStand → ImagesAtRestStay → (v : Volume) (s : Begun (trees_on v)) (d : ℕ) (clients : List Client) (time : ℕ) (a p q : Point)
    → BeginsAt v s d clients a → Steps time a p → EndsTo p q → IsFront v s d clients a q (IsHeadAtEnd (state_of p))
front_of_end keep fails heads tells legal ends rest v s d clients time a p q begins steps (Unsaid bytes list flight) = front_unsaid keep fails heads tells legal ends rest v s d clients time a p begins steps bytes flight list
front_of_end keep fails heads tells legal ends rest v s d clients time a p q begins steps (Said bytes list flight) = front_said keep fails heads tells legal ends rest v s d clients time a p begins steps bytes flight list
front_of_end keep fails heads tells legal ends rest v s d clients time a p q begins steps (Landed bytes list flight) = front_landed keep fails heads tells legal ends rest v s d clients time a p begins steps bytes flight list
