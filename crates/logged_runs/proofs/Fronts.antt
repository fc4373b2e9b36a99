-- What remains at a front of the items, whatever the head that its journal is left with.
use Rattle.std.proofs.Common.{◌≡◌, ℕ, ◌<◌, ◌≤◌, List, [], ◌∷◌, ◌++◌, length, Some, slice_get, refl, sym, ap, subst, ◌∙◌, arith}
use Rattle.std.specs.Prelude.{IsTrue, ◌↔◌, true}
use Rattle.std.proofs.lemmas.List.{map-append}
use Rattle.cluster_history.specs.History as history
use Rattle.cluster_history.specs.History.{IsNumbered, calls_of, tree_of}
use Rattle.cluster_history.specs.Losses.{LossIsRight}
use Rattle.cluster_history.specs.declared.Item.{Item}
use Rattle.cluster_history.specs.declared.Item.TheVariants as item
use Rattle.cluster_laws.specs.History.{Gone}
use Rattle.cluster_laws.specs.World.{World}
use Rattle.file_tree.specs.declared.call.Call.{Call}
use Rattle.file_tree.specs.declared.call.Call.TheVariants as calls
use Rattle.file_tree.specs.declared.reply.Reply.{Reply}
use Rattle.file_tree.specs.declared.reply.Reply.TheVariants as replies
use Rattle.logged_steps.specs.Lone.{remaining}
use Rattle.image_machine.specs.Volumes.{Volume, images_of}
use Rattle.image_model.specs.Image.{Image, image_of}
use Rattle.image_model.specs.Replays.{StandsReplayed}
use Rattle.image_model.proofs.Held.{some_same}
use Rattle.journal_outcomes.specs.Disks.{FencesLeaveOutcomes, flown_by}
use Rattle.journal_outcomes.specs.Images.{NoFalseHeader, ring_at}
use Rattle.log_layout.specs.Journal.{IsClean}
use Rattle.log_layout.specs.declared.log_header.LogHeader.{LogHeader}
use Rattle.logged_steps.specs.LoggedLaws.{ItsHistoryIsLegal, Remains, RemainsWith}
use Rattle.logged_steps.specs.States.{IsLoggedNode, NodeState, trees_on}
use Rattle.lone_machine.specs.Alone.{Begun}
use Rattle.right_losses.specs.Kept.{kept_by}
use Rattle.right_losses.specs.Laws.{SyncsAreIn}
use Rattle.right_losses.proofs.Found.{right_losses_are_found}
use Rattle.right_losses.proofs.Synced.{call_before_loss, right_losses_keep_syncs}
use Rattle.run_rules.specs.Follows as run
use Rattle.run_rules.specs.Lives.{AcceptedHead, DiskHeads, TraceKeptRight, head_of, remains, to_its_end, upto_of}
use Rattle.script_lang.specs.declared.script.Client.{Client}
use Rattle.shared_disk.specs.Disk.{Flight, IsOutcome, after_fence}
use Rattle.trace_text.specs.declared.item.TraceItem.{TraceItem}
use Rattle.trace_text.specs.declared.item.TraceItem.TheVariants as trace
use Rattle.tree_histories.specs.Trees.{history_of, item_of}
use Rattle.logged_steps.specs.Points.{Point}
use Rattle.logged_steps.proofs.Histories.{history_on}
use Rattle.logged_steps.proofs.Telling.{append_nil}
use Rattle.logged_runs.specs.Heads.{HasFirst, IsAcceptedIn}
use Rattle.logged_runs.specs.Laws.{IsStop, MayLeave, StandsFenced, StandsLost, fenced_upto, to_fence, to_loss}
use Rattle.logged_runs.specs.Standing.{AreCleanAsTold, IsLeftAsTold, StandsAsTold, SyncsStand}
use Rattle.logged_runs.specs.Starts.{only_life}
use Rattle.logged_runs.proofs.Staying.{AllStay}
use Rattle.logged_runs.proofs.Losing.{IsItsEnd, IsItsStop, fenced_too, head_fenced, head_now, lost_head, lost_remains, lost_upto, remains_are, same_history, stopped, stops}
use Rattle.logged_runs.proofs.Counting.{calls_on}
use Rattle.logged_runs.proofs.KeptRight.{kept_right}
use Rattle.logged_runs.proofs.Machine.{SyncsThere, all_answered, calm}

-- A front: behind it the node is one alone on an image with its log; each outcome of the disk has what remains of it; and of the head that it has, one of these, the items tell the number.
pub record IsFront (v : Volume) (s : Begun (trees_on v)) (d : ℕ) (clients : List Client) (a q : Point) (IsHead : LogHeader → ℕ → Type 0) : Type 0 where
  pub tells : IsTrue q.disk.tells
  pub world : World (trees_on v)
  pub st : NodeState
  pub is : IsLoggedNode v s world d st
  pub its : List TraceItem
  pub items : q.items ≡ trace.Join 1 ∷ its
  pub stay : AllStay its
  pub history : run.history_of clients its ≡ history_of (images_of v) world.items
  pub numbered : IsNumbered (run.history_of clients its)
  pub count : calls_of 1 (run.history_of clients its) ≡ st.numbers.answered
  pub within : (h : LogHeader) (n : ℕ) → IsHead h n → n ≤ st.numbers.answered
  pub syncs : (h : LogHeader) (n : ℕ) → IsHead h n → SyncsThere v world n
  pub remains : (left : Image) → MayLeave v q.disk left → Remains v s world d st.numbers.answered left IsHead
  pub upto : (left : Image) (h : AcceptedHead) (rem : Remains v s world d st.numbers.answered left IsHead) → IsAcceptedIn v d left h → (disks : DiskHeads) → HasFirst v d a disks.behind
      → (end : List TraceItem) → IsItsEnd clients end → to_its_end 1 end ≡ [] → head_of disks only_life (trace.Join 1 ∷ (its ++ end)) ≡ h → upto_of disks only_life (trace.Join 1 ∷ (its ++ end)) ≡ rem.number

module _ (v : Volume) (s : Begun (trees_on v)) (d : ℕ) (clients : List Client) (a q : Point) (IsHead : LogHeader → ℕ → Type 0) (front : IsFront v s d clients a q IsHead) where
  abbrev is : List TraceItem
  is = front.its

  -- with a loss that keeps the calls up to k
  remaining_is : (k : ℕ) → remaining v s front.world k ≡ run.history_of clients is ++ item.Lost 1 k ∷ []
  remaining_is k =
      map-append (item_of (images_of v)) front.world.items (Gone s.node k k ∷ [])
      ∙ (λ i. sym front.history i ++ item.Lost (front.is.node i) k ∷ [])

  -- ---- behind an end of the life

  module _ (left : Image) (h : AcceptedHead) (may : MayLeave v q.disk left) (accepts : IsAcceptedIn v d left h) (disks : DiskHeads) (first : HasFirst v d a disks.behind) (end : List TraceItem) (ends : IsItsEnd clients end)
      (cut : to_its_end 1 end ≡ []) (there : head_of disks only_life (trace.Join 1 ∷ (is ++ end)) ≡ h) where
    abbrev rem : Remains v s front.world d front.st.numbers.answered left IsHead
    rem = front.remains left may

    upto_is : upto_of disks only_life (trace.Join 1 ∷ (is ++ end)) ≡ rem.number
    upto_is = front.upto left h rem accepts disks first end ends cut there

    remain : RemainsWith v s front.world left rem.number
    remain = rem.stands rem.number (omega arith) (front.within rem.head rem.number rem.is) (λ m above less. absurd (omega (arith, above, less)))

    remains_so : remaining v s front.world rem.number ≡ remains clients disks (trace.Join 1 ∷ (is ++ end))
    remains_so = remaining_is rem.number ∙ ap (λ m. run.history_of clients is ++ item.Lost 1 m ∷ []) (sym upto_is) ∙ sym (remains_are clients is end front.stay ends disks)

    in_history : (z : ℕ) {i : Item} → slice_get (run.history_of clients (trace.Join 1 ∷ (is ++ end))) z ≡ Some i → slice_get (history_of (images_of v) front.world.items) z ≡ Some i
    in_history z e = ap (λ (is : List Item). slice_get is z) (sym (same_history clients is end front.stay ends ∙ front.history)) ∙ e

    synced : SyncsStand clients (upto_of disks only_life (trace.Join 1 ∷ (is ++ end))) (trace.Join 1 ∷ (is ++ end))
    synced x y client other count earlier call reply answered called above below =
        front.syncs rem.head rem.number rem.is x y client other count earlier call reply (in_history x answered) (in_history y called) (subst (λ m. m < earlier) upto_is above) below

    within : upto_of disks only_life (trace.Join 1 ∷ (is ++ end)) ≤ history.calls_of 1 (run.history_of clients (trace.Join 1 ∷ (is ++ end)))
    within =
        let most = front.within rem.head rem.number rem.is in
        let all = front.count in
        let same = ap (history.calls_of 1) (same_history clients is end front.stay ends) in
        let number = upto_is in
        omega (arith, most, all, same, number)

    -- the head of the journal that is left is the one that the items have
    own : IsClean (ring_at left d) ↔ ((head_of disks only_life (trace.Join 1 ∷ (is ++ end))).is_clean ≡ true)
    own = (
      λ clean. is_so ∙ ap (λ (g : LogHeader). g.clean) (some_same (sym accepts.headed ∙ clean.1)) ∙ clean.2,
      λ so. (accepts.header, accepts.headed, sym is_so ∙ so),
    )
      where
        is_so : (head_of disks only_life (trace.Join 1 ∷ (is ++ end))).is_clean ≡ accepts.header.clean
        is_so = ap (λ (g : AcceptedHead). g.is_clean) (there ∙ accepts.is)

    pub left_as_told : IsLeftAsTold v d clients disks (q.items ++ end) s.tree left
    left_as_told = subst (λ is. IsLeftAsTold v d clients disks is s.tree left) (ap (λ is. is ++ end) (sym front.items)) (record {
      stands = record {
        legal = subst (λ is. history.Legal is s.tree) remains_so remain.0;
        stands = subst (λ is. StandsReplayed left (tree_of is s.tree)) remains_so remain.1;
        synced = synced;
        within = within;
      };
      journals = record { others = rem.others; own = own };
    })

  -- ---- there, and behind a stop

  pub told_there : (left : Image) (disks : DiskHeads) → HasFirst v d a disks.behind → MayLeave v q.disk left → IsAcceptedIn v d left (disks.now 1) → IsLeftAsTold v d clients disks q.items s.tree left
  told_there left disks first may accepts =
      let quiet : IsItsEnd clients [] = record { lives = λ p. refl; losses = refl; silent = refl; numbers = λ n. refl } in
      subst (λ is. IsLeftAsTold v d clients disks is s.tree left) (append_nil q.items)
      (left_as_told left (disks.now 1) may accepts disks first [] quiet refl (head_now clients is [] front.stay quiet disks (λ n. refl)))

  pub told_stopped : (x : TraceItem) → IsStop x → (left : Image) (disks : DiskHeads) → HasFirst v d a disks.behind → MayLeave v q.disk left → IsAcceptedIn v d left (disks.now 1) → IsLeftAsTold v d clients disks (q.items ++ x ∷ []) s.tree left
  told_stopped x is_stop left disks first may accepts =
      let stop = stops clients x is_stop in
      left_as_told left (disks.now 1) may accepts disks first (x ∷ []) (stopped clients x stop) (stop.cut [])
      (head_now clients is (x ∷ []) front.stay (stopped clients x stop) disks (λ n. stop.fence n []))

  -- ---- behind a fence

  module _ (legal : ItsHistoryIsLegal) (x : TraceItem) (is_stop : IsStop x) (disks : DiskHeads) (left : Image) (first : HasFirst v d a disks.behind) (may : MayLeave v q.disk left)
      (accepts : IsAcceptedIn v d left (disks.behind 1 (length (to_fence x q.items)))) where
    abbrev fence : List TraceItem
    fence = x ∷ trace.Fence 1 ∷ []

    abbrev fenced_rem : Remains v s front.world d front.st.numbers.answered left IsHead
    fenced_rem = front.remains left may

    stop : IsItsStop clients x
    stop = stops clients x is_stop

    fenced_is : trace.Join 1 ∷ (is ++ fence) ≡ to_fence x q.items
    fenced_is = ap (λ is. is ++ fence) (sym front.items)

    -- whatever other disks there are, the head is that behind the fence
    module _ (others : DiskHeads) (same : others.behind ≡ disks.behind) where
      fenced_there : head_of others only_life (trace.Join 1 ∷ (is ++ fence)) ≡ disks.behind 1 (length (to_fence x q.items))
      fenced_there = head_fenced clients x stop is front.stay others ∙ (λ i. same i 1 (length (fenced_is i)))

      upto_fenced : upto_of others only_life (to_fence x q.items) ≡ fenced_rem.number
      upto_fenced = ap (upto_of others only_life) (sym fenced_is)
          ∙ upto_is left (disks.behind 1 (length (to_fence x q.items))) may accepts others (subst (HasFirst v d a) (sym same) first) fence (fenced_too clients x stop) (stop.cut (trace.Fence 1 ∷ [])) fenced_there

    told : IsLeftAsTold v d clients disks (to_fence x q.items) s.tree left
    told = left_as_told left (disks.behind 1 (length (to_fence x q.items))) may accepts disks first fence (fenced_too clients x stop) (stop.cut (trace.Fence 1 ∷ [])) (fenced_there disks refl)

    history_there : run.history_of clients q.items ≡ history_of (images_of v) front.world.items
    history_there = ap (run.history_of clients) front.items ∙ front.history

    fenced_history : run.history_of clients (to_fence x q.items) ≡ run.history_of clients q.items
    fenced_history = history_on clients q.items fence ∙ ap (λ is. run.history_of clients q.items ++ is) (stop.silent (trace.Fence 1 ∷ [])) ∙ append_nil (run.history_of clients q.items)

    numbered_there : history.IsNumbered (run.history_of clients q.items)
    numbered_there = subst history.IsNumbered (ap (run.history_of clients) (sym front.items)) front.numbered

    -- ---- behind a loss, the head is that behind the fence

    module _ (k : ℕ) where
      lost_is : trace.Join 1 ∷ (is ++ x ∷ trace.Fence 1 ∷ trace.Lost 1 k ∷ []) ≡ to_loss x q.items k
      lost_is = ap (λ is. to_loss x is k) (sym front.items)

      same_head : head_of disks only_life (to_loss x q.items k) ≡ head_of disks only_life (to_fence x q.items)
      same_head = ap (head_of disks only_life) (sym lost_is) ∙ lost_head clients x stop is front.stay k disks ∙ ap (head_of disks only_life) fenced_is

      clean_lost : AreCleanAsTold v d disks (to_loss x q.items k) left
      clean_lost = record {
        others = told.journals.others;
        own = subst (λ (h : AcceptedHead). IsClean (ring_at left d) ↔ (h.is_clean ≡ true)) (sym same_head) told.journals.own;
      }

    -- ---- with its loss

    module _ (k : ℕ) (right : LossIsRight (run.history_of clients q.items) 1 (upto_of disks only_life (to_fence x q.items)) k) where
      by_number : LossIsRight (run.history_of clients q.items) 1 fenced_rem.number k
      by_number = subst (λ n. LossIsRight (run.history_of clients q.items) 1 n k) (upto_fenced disks refl) right

      in_machine : LossIsRight (history_of (images_of v) front.world.items) 1 fenced_rem.number k
      in_machine = subst (λ is. LossIsRight is 1 fenced_rem.number k) history_there by_number

      numbered : history.IsNumbered (history_of (images_of v) front.world.items)
      numbered = (legal v s front.world d front.st front.is).numbered

      stands_there : RemainsWith v s front.world left k
      stands_there = fenced_rem.stands k by_number.order
          (all_answered v s front.world d front.st front.is numbered fenced_rem.number k in_machine.below in_machine.between)
          (calm v s front.world d front.st front.is numbered fenced_rem.number k in_machine.below in_machine.between)

      remaining_so : remaining v s front.world k ≡ run.history_of clients (to_loss x q.items k)
      remaining_so =
          remaining_is k
          ∙ ap (λ is. run.history_of clients is ++ item.Lost 1 k ∷ []) (sym front.items)
          ∙ ap (λ is. run.history_of clients q.items ++ is) (sym (stop.silent (trace.Fence 1 ∷ trace.Lost 1 k ∷ [])))
          ∙ sym (history_on clients q.items (x ∷ trace.Fence 1 ∷ trace.Lost 1 k ∷ []))

      kept_so : TraceKeptRight clients disks.behind (to_loss x q.items k)
      kept_so = subst (TraceKeptRight clients disks.behind) (lost_is k) (kept_right clients x stop is front.stay k disks.behind right_by)
        where
          right_by : (others : DiskHeads) → others.behind ≡ disks.behind → LossIsRight (run.history_of clients (trace.Join 1 ∷ (is ++ fence))) 1 (upto_of others only_life (trace.Join 1 ∷ (is ++ fence))) k
          right_by others same =
              subst (λ is. LossIsRight (run.history_of clients is) 1 (upto_of others only_life is) k) (sym fenced_is)
              (subst (λ m. LossIsRight (run.history_of clients (to_fence x q.items)) 1 m k) (sym (upto_fenced others same))
              (subst (λ is. LossIsRight is 1 fenced_rem.number k) (sym fenced_history) by_number))

      -- ---- behind the loss

      lost_history : run.history_of clients (to_loss x q.items k) ≡ run.history_of clients q.items ++ item.Lost 1 k ∷ []
      lost_history = history_on clients q.items (x ∷ trace.Fence 1 ∷ trace.Lost 1 k ∷ []) ∙ ap (λ is. run.history_of clients q.items ++ is) (stop.silent (trace.Fence 1 ∷ trace.Lost 1 k ∷ []))

      same_number : upto_of disks only_life (to_loss x q.items k) ≡ upto_of disks only_life (to_fence x q.items)
      same_number = ap (upto_of disks only_life) (sym (lost_is k)) ∙ lost_upto clients x stop is front.stay k disks ∙ ap (upto_of disks only_life) fenced_is

      none_left : remains clients disks (to_loss x q.items k) ≡ run.history_of clients (to_loss x q.items k)
      none_left = subst (λ is. remains clients disks is ≡ run.history_of clients is) (lost_is k) (lost_remains clients x stop is front.stay k disks)

      legal_there : history.Legal (run.history_of clients (to_loss x q.items k)) s.tree
      legal_there = subst (λ is. history.Legal is s.tree) remaining_so stands_there.0

      stands_so : StandsReplayed left (tree_of (run.history_of clients (to_loss x q.items k)) s.tree)
      stands_so = subst (λ is. StandsReplayed left (tree_of is s.tree)) remaining_so stands_there.1

      -- a call of the history before the loss
      before_loss : (z client number : ℕ) (call : Call) (reply : Reply) → slice_get (run.history_of clients (to_loss x q.items k)) z ≡ Some (item.Call 1 client number call reply)
          → slice_get (run.history_of clients (to_fence x q.items)) z ≡ Some (item.Call 1 client number call reply)
      before_loss z client number call reply at =
          ap (λ (is : List Item). slice_get is z) fenced_history
          ∙ call_before_loss (run.history_of clients q.items) 1 k z 1 client number call reply (ap (λ (is : List Item). slice_get is z) (sym lost_history) ∙ at)

      syncs_lost : SyncsStand clients (upto_of disks only_life (to_loss x q.items k)) (to_loss x q.items k)
      syncs_lost y z client other number earlier call reply answered called above below =
          told.stands.synced y z client other number earlier call reply (before_loss y client number calls.Sync replies.Ok answered) (before_loss z other earlier call reply called)
          (subst (λ m. m < earlier) same_number above) below

      within_lost : upto_of disks only_life (to_loss x q.items k) ≤ history.calls_of 1 (run.history_of clients (to_loss x q.items k))
      within_lost =
          let most = told.stands.within in
          let number = same_number in
          let first = ap (history.calls_of 1) fenced_history in
          let last = ap (history.calls_of 1) lost_history ∙ calls_on 1 (run.history_of clients q.items) (item.Lost 1 k ∷ []) in
          omega (arith, most, number, first, last)

      told_lost : StandsAsTold clients disks (to_loss x q.items k) s.tree left
      told_lost = record {
        legal = subst (λ is. history.Legal is s.tree) (sym none_left) legal_there;
        stands = subst (λ is. StandsReplayed left (tree_of is s.tree)) (sym none_left) stands_so;
        synced = syncs_lost;
        within = within_lost;
      }

      kept_synced : history.KeepsSynced (run.history_of clients (to_loss x q.items k))
      kept_synced = subst history.KeepsSynced (sym lost_history)
          (right_losses_keep_syncs (run.history_of clients q.items) 1 (upto_of disks only_life (to_fence x q.items)) k numbered_there
          (subst history.KeepsSynced (sym history_there) (legal v s front.world d front.st front.is).keeps_synced)
          (subst (λ (is : List Item). SyncsAreIn is 1 (upto_of disks only_life (to_fence x q.items))) fenced_history told.stands.synced) right)

      stands_lost : StandsLost clients disks x q.items s.tree left k
      stands_lost = record { all = none_left; legal = legal_there; kept = kept_synced; right = kept_so; stands = stands_so; told = told_lost }

    one_is_right : LossIsRight (run.history_of clients q.items) 1 (fenced_upto disks x q.items) (kept_by 1 (fenced_upto disks x q.items) (run.history_of clients q.items))
    one_is_right = right_losses_are_found (run.history_of clients q.items) 1 (fenced_upto disks x q.items) numbered_there
        (let most = told.stands.within in let same = ap (history.calls_of 1) fenced_history in omega (arith, most, same))

    stands_fenced : StandsFenced v d clients disks x q.items s.tree left
    stands_fenced = record { told = told; lost = stands_lost; journals = clean_lost; right = one_is_right }

  pub told_fenced : FencesLeaveOutcomes → ItsHistoryIsLegal → (x : TraceItem) → IsStop x → (disks : DiskHeads) (became : List Flight) → IsOutcome q.disk 1 became → HasFirst v d a disks.behind
      → NoFalseHeader (image_of q.disk) v.layout (flown_by q.disk 1) (image_of (after_fence q.disk 1 became)) → IsAcceptedIn v d (image_of (after_fence q.disk 1 became)) (disks.behind 1 (length (to_fence x q.items)))
      → StandsFenced v d clients disks x q.items s.tree (image_of (after_fence q.disk 1 became))
  told_fenced fences legal x is_stop disks became settles first no_false accepts =
      stands_fenced legal x is_stop disks (image_of (after_fence q.disk 1 became)) first (record { outcome = (fences q.disk 1 became front.tells settles).outcome; no_false = no_false }) accepts
