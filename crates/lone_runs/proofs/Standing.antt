-- Runs stand at each front of their items.
use Rattle.std.proofs.Common.{◌≡◌, ◌⊎◌, ℕ, ◌<◌, List, [], ◌∷◌, ◌++◌, length, get_or, Option, None, Some, refl, sym, ap, subst, ◌∙◌, inl, inr}
use Rattle.std.specs.Prelude.{IsTrue}
use Rattle.std.proofs.lemmas.List.{append_assoc}
use Rattle.cluster_history.specs.Losses.{LossIsRight}
use Rattle.disk_items.specs.Deeds.{AreToldButOne}
use Rattle.disk_turns.specs.Turns.{Moment}
use Rattle.file_tree.specs.Tree.{Tree}
use Rattle.gfs2_layout.specs.Inode.{content_block}
use Rattle.image_machine.specs.Volumes.{Volume, volume_of}
use Rattle.image_model.specs.Claims.{every}
use Rattle.image_model.specs.Image.{Image, image_of}
use Rattle.image_model.specs.Owners.{Owners}
use Rattle.image_model.specs.Stands.{IsJournalAt, Layout}
use Rattle.image_mount.specs.Mounted.{MountedValue}
use Rattle.journal_outcomes.specs.Disks.{flown_by}
use Rattle.journal_outcomes.specs.Images.{NoFalseHeader, ring_at}
use Rattle.journal_reads.specs.Reading.{ring_read}
use Rattle.log_layout.specs.Journal.{head_in}
use Rattle.log_layout.specs.Laws.{HasSamePlaces, PlacesSayAll, SaysTheSame}
use Rattle.log_layout.specs.declared.log_header.LogHeader.{LogHeader}
use Rattle.log_layout.proofs.BestHeaders.{head_there}
use Rattle.log_values.specs.Log.{Journal}
use Rattle.logged_scripts.specs.Disks.{disk_after}
use Rattle.logged_scripts.specs.Fails.{FailsTo}
use Rattle.logged_scripts.specs.LoggedRunsLaws.{fenced_upto, to_fence}
use Rattle.logged_scripts.specs.LoggedLaws.{IsInItsBlocks}
use Rattle.logged_scripts.specs.Points.{Point}
use Rattle.logged_scripts.specs.Starts.{only_life}
use Rattle.logged_scripts.specs.StepEnds.{EndsTo}
use Rattle.logged_scripts.specs.Runs.{IsBehind, crash, fence, loss, nothing}
use Rattle.lone_fences.specs.Fencing.{HasFenced, IsFenced, with_crash, with_fence}
use Rattle.lone_fences.specs.Heads.{accepted_as as read_as, head_on}
use Rattle.lost_calls.specs.Heads.{IsLeftBy}
use Rattle.peer_replay.specs.declared.planned.Plan.{Plan}
use Rattle.right_losses.specs.Kept.{kept_by}
use Rattle.run_rules.specs.Follows.{history_of}
use Rattle.run_rules.specs.Lives.{DiskHeads, upto_of}
use Rattle.script_lang.specs.declared.script.Client.{Client}
use Rattle.shared_disk.specs.Disk.{DiskState, Fence, Flight, Gains, Operation, after_fence, written}
use Rattle.trace_text.specs.declared.item.TraceItem.{TraceItem}
use Rattle.trace_text.specs.declared.item.TraceItem.TheVariants as trace
use Rattle.logged_scripts.specs.Fronts.{IsRightLoss, RunsStandAtEachFront, SettlesRight, a_fence, a_loss, a_stop, disk_left, nothing_more}
use Rattle.logged_scripts.specs.Wholes.{Course, HasItsHeads, HasRunWhole, IsRun, RunsAreTold as WholeRunsAreTold, WholeRunsStand, accepted_as, ends_with, going_on, head_at, heads_of, stopped_course}
use Rattle.logged_scripts.proofs.Bringing.{after_on}
use Rattle.logged_scripts.proofs.Starting.{tells_on}
use Rattle.lone_runs.specs.Laws.{HasStood, HasTrueFence}
use Rattle.lone_runs.proofs.Others.{run_is_quiet}
use Rattle.lone_runs.proofs.Ran.{gained_of, told_gain}

pub append_nil : {A : Type 0} (xs : List A) → xs ++ [] ≡ xs
append_nil [] = refl
append_nil (x ∷ xs) = ap (λ ys. x ∷ ys) (append_nil xs)

pub cancel : {A : Type 0} (xs ys zs : List A) → xs ++ ys ≡ xs ++ zs → ys ≡ zs
cancel [] ys zs same = same
cancel {A} (x ∷ xs) ys zs same = cancel xs ys zs (tail same)
  where
    tail : {ys zs : List A} → x ∷ ys ≡ x ∷ zs → ys ≡ zs
    tail e = cc

-- behind the items of a run the disk, its list and its items are as the run left them, or with what was done behind a crash
module _ (whole_stand : WholeRunsStand) (are_told : WholeRunsAreTold) (each_front : RunsStandAtEachFront) (places_say : PlacesSayAll)
    (clients : List Client) (before : Moment) (m : MountedValue) (plans : List Plan) (time : ℕ) (start : Tree) (o : Owners) (l : Layout) (d : ℕ) (a p q : Point) (run : IsRun clients before m plans time start o l d a p q)
    (found_in : (j k : ℕ) → IsJournalAt l j k → IsJournalAt run.from.mounted.layout j k) (was operations : List Operation) (first : before.list ≡ Some was)
    (disk : DiskState) (list : Option (List Operation)) (items : List TraceItem) (last : list ≡ Some (was ++ operations)) (true_fence : HasTrueFence before.disk run.from.mounted.layout operations) where
  abbrev v : Volume
  v = volume_of (image_of a.disk) l

  told_q : AreToldButOne 1 before.list q.list q.items
  told_q = are_told clients before m plans time start o l d a p q run

  -- ---- nothing was done, or its crash was told

  module _ (same : disk ≡ q.disk) (listed : list ≡ q.list) where
    q_list : q.list ≡ Some (was ++ operations)
    q_list = sym listed ∙ last

    whole : HasRunWhole before o l d clients start a q operations
    whole = whole_stand clients before m plans time start o l d a p q was operations run first q_list

    all_done : (whole.course.operations ++ whole.course.further) ++ [] ≡ operations
    all_done = append_nil (whole.course.operations ++ whole.course.further) ∙ whole.has.all

    quiet : items ≡ q.items → HasStood clients before start items operations disk
    quiet are = record {
      volume = v;
      journal = d;
      course = going_on whole.course [] [];
      is = record { items = append_nil whole.course.items ∙ whole.has.items ∙ sym are; operations = all_done; told = whole.has.told; behind = refl; one = whole.has.one; disk = same ∙ whole.has.disk };
      stands = each_front clients before m plans time start o l d a p q operations run whole (going_on whole.course [] []) nothing_more;
    }

    crashed : items ≡ with_crash q.items → HasStood clients before start items operations disk
    crashed are = record {
      volume = v;
      journal = d;
      course = going_on whole.course (trace.Crash 1 ∷ []) [];
      is = record { items = ap (λ is. is ++ trace.Crash 1 ∷ []) whole.has.items ∙ sym are; operations = all_done; told = whole.has.told; behind = refl; one = whole.has.one; disk = same ∙ whole.has.disk };
      stands = each_front clients before m plans time start o l d a p q operations run whole (going_on whole.course (trace.Crash 1 ∷ []) []) (a_stop (trace.Crash 1) refl);
    }

  -- ---- it was fenced

  module _ (fenced : IsFenced q.disk q.list disk list) where
    abbrev became : List Flight
    became = fenced.became

    parts : (w : List Operation) × (q.list ≡ Some w) × (was ++ operations ≡ w ++ Fence 1 became ∷ [])
    parts = gained_of q.list (was ++ operations) (Fence 1 became ∷ []) (subst (λ x. Gains q.list x (Fence 1 became ∷ [])) last fenced.gains)

    front : (ops : List Operation) × (parts.0 ≡ was ++ ops)
    front = told_gain 1 before.list q.list q.items was told_q first parts.0 parts.1

    abbrev front_ops : List Operation
    front_ops = front.0

    operations_are : operations ≡ front_ops ++ Fence 1 became ∷ []
    operations_are = cancel was operations (front_ops ++ Fence 1 became ∷ []) (parts.2 ∙ ap (λ x. x ++ Fence 1 became ∷ []) front.1 ∙ append_assoc was front_ops (Fence 1 became ∷ []))

    whole_there : HasRunWhole before o l d clients start a q front_ops
    whole_there = whole_stand clients before m plans time start o l d a p q was front_ops run first (parts.1 ∙ ap Some front.1)

    abbrev course : Course
    course = whole_there.course

    left_is : disk_left before.disk course ≡ q.disk
    left_is = ap (disk_after before.disk) whole_there.has.all ∙ sym whole_there.has.disk

    no_false : NoFalseHeader (image_of q.disk) l (flown_by q.disk 1) (image_of (after_fence q.disk 1 became))
    no_false j k place bytes at low flies =
        subst (λ y. NoFalseHeader (image_of y) run.from.mounted.layout (flown_by y 1) (image_of (after_fence y 1 became))) (sym whole_there.has.disk) (true_fence front_ops became operations_are) j k place bytes (found_in j k at) low flies

    settles : SettlesRight v (disk_left before.disk course) became
    settles = subst (λ y. SettlesRight v y became) (sym left_is) (record { outcome = fenced.outcome; no_false = no_false })

    fenced_all : (course.operations ++ course.further) ++ Fence 1 became ∷ [] ≡ operations
    fenced_all = ap (λ os. os ++ Fence 1 became ∷ []) whole_there.has.all ∙ sym operations_are

    fenced_disk : disk ≡ disk_after before.disk operations
    fenced_disk =
        fenced.disk ∙ ap (λ y. after_fence y 1 became) whole_there.has.disk ∙ sym (after_on before.disk front_ops (Fence 1 became ∷ [])) ∙ ap (disk_after before.disk) (sym operations_are)

    fence_told : items ≡ with_fence q.items → HasStood clients before start items operations disk
    fence_told are = record {
      volume = v;
      journal = d;
      course = stopped_course course (trace.Crash 1) became [];
      is = record {
        items = ap (λ is. is ++ trace.Crash 1 ∷ trace.Fence 1 ∷ []) whole_there.has.items ∙ sym are;
        operations = fenced_all;
        told = whole_there.has.told;
        behind = refl;
        one = whole_there.has.one;
        disk = fenced_disk;
      };
      stands = each_front clients before m plans time start o l d a p q front_ops run whole_there (stopped_course course (trace.Crash 1) became []) (a_fence (trace.Crash 1) became refl settles);
    }

  -- ---- and its loss was told

  module _ (idle : a.disk.in_flight 0 ≡ []) (hf : HasFenced q.disk q.list q.items a.log.journal.places a.log.sequence disk list items) where
    abbrev lost_course : Course
    lost_course = course hf.fenced

    abbrev settled : List Flight
    settled = hf.fenced.became

    abbrev left : Image
    left = image_of (after_fence (disk_left before.disk lost_course) 1 settled)

    abbrev its_end : List TraceItem
    its_end = trace.Lost 1 hf.kept ∷ []

    abbrev disks : DiskHeads
    disks = heads_of v d before.disk (stopped_course lost_course (trace.Crash 1) settled its_end) left

    left_image : left ≡ image_of disk
    left_image = ap (λ y. image_of (after_fence y 1 settled)) (left_is hf.fenced) ∙ ap image_of (sym hf.fenced.disk)

    tells : IsTrue disk.tells
    tells = subst IsTrue (sym (ap (λ (y : DiskState). y.tells) (fenced_disk hf.fenced) ∙ tells_on before.disk operations)) run.from.tells

    -- the journal's head on the disk is the volume's
    blocks : IsInItsBlocks v d (image_of disk)
    blocks = subst (IsInItsBlocks v d) left_image ((whole_there hf.fenced).placed settled (settles hf.fenced).outcome (settles hf.fenced).no_false)

    journal_is : a.log.journal ≡ run.journal
    journal_is = ap (λ (x : Point). x.log.journal) run.begins

    quiet_zero : disk.in_flight 0 ≡ []
    quiet_zero = ap (λ (y : DiskState). y.in_flight 0) hf.fenced.disk ∙ run_is_quiet time a p q run.steps (ends_of run.last) idle
      where
        ends_of : FailsTo time p q ⊎ ((ends : EndsTo p q) × Gains p.list q.list (ends_with p q ends)) → FailsTo time p q ⊎ EndsTo p q
        ends_of (inl fail) = inl fail
        ends_of (inr end) = inr end.0

    abbrev its_places : List ℕ
    its_places = a.log.journal.places

    place_is : (n : ℕ) → n < length its_places → get_or its_places n 0 ≡ content_block (every (image_of disk) d) n
    place_is n low =
        let inside : n < v.places d = subst (λ k. n < k) (ap length (ap (λ (x : Journal). x.places) journal_is) ∙ run.rest.is_journal.places ∙ run.rest.its_journal.places) low in
        ap (λ (x : Journal). get_or x.places n 0) journal_is ∙ run.rest.its_journal.place n inside ∙ sym (blocks.there n inside)

    same_ring : HasSamePlaces (ring_read disk 0 its_places) (ring_at (image_of disk) d)
    same_ring = record {
      size = refl;
      places = ap length (ap (λ (x : Journal). x.places) journal_is) ∙ run.rest.is_journal.places ∙ run.rest.its_journal.places ∙ sym blocks.many;
      blocks = λ n low. ap (λ (fs : List Flight). written disk.block_at fs (get_or its_places n 0)) quiet_zero ∙ ap disk.block_at (place_is n low);
    }

    place_so : (n : ℕ) → n < v.places d → get_or its_places n 0 ≡ v.place d n
    place_so n low = ap (λ (x : Journal). get_or x.places n 0) journal_is ∙ run.rest.its_journal.place n low

    read_so : head_on disk its_places ≡ head_at v d (image_of disk)
    read_so = ap (read_as its_places) (says_same.head) ∙ by (head_in (ring_at (image_of disk) d)) (λ h headed. (head_there (ring_at (image_of disk) d) h headed).0)
      where
        says_same : SaysTheSame (ring_read disk 0 its_places) (ring_at (image_of disk) d)
        says_same = places_say (ring_read disk 0 its_places) (ring_at (image_of disk) d) same_ring

        by : (x : Option LogHeader) → ((h : LogHeader) → x ≡ Some h → h.blkno < (ring_at (image_of disk) d).places) → read_as its_places x ≡ accepted_as v d x
        by None inside = refl
        by (Some h) inside = ap (λ b. record { block = b; sequence = h.sequence; is_clean = h.clean }) (place_so h.blkno (subst (λ n. h.blkno < n) blocks.many (inside h refl)))

    heads : HasItsHeads v d disks a.log.sequence (to_fence (trace.Crash 1) lost_course.items) left
    heads = (whole_there hf.fenced).heads (trace.Crash 1) settled its_end left refl

    items_are : lost_course.items ≡ q.items
    items_are = (whole_there hf.fenced).has.items

    left_by : IsLeftBy disks (with_fence q.items) hf.head a.log.sequence
    left_by = subst (λ is. IsLeftBy disks (with_fence is) hf.head a.log.sequence) items_are (record {
      left = heads.head ∙ ap (head_at v d) left_image ∙ sym read_so ∙ sym (hf.is_head tells);
      begun = heads.first;
    })

    upto_is : hf.upto ≡ fenced_upto disks (trace.Crash 1) lost_course.items
    upto_is = hf.has disks left_by ∙ ap (λ is. upto_of disks only_life (with_fence is)) (sym items_are)

    right : IsRightLoss v d clients before.disk lost_course (trace.Crash 1) settled hf.kept
    right =
        let fenced_stands = (whole_there hf.fenced).stands.fences (trace.Crash 1) settled its_end refl (settles hf.fenced).outcome (settles hf.fenced).no_false in
        subst (LossIsRight (history_of clients lost_course.items) 1 (fenced_upto disks (trace.Crash 1) lost_course.items)) kept_is fenced_stands.right
      where
        kept_is : kept_by 1 (fenced_upto disks (trace.Crash 1) lost_course.items) (history_of clients lost_course.items) ≡ hf.kept
        kept_is = (λ i. kept_by 1 (sym upto_is i) (history_of clients (items_are i))) ∙ sym (hf.keeps clients)

    loss_told : HasStood clients before start items operations disk
    loss_told = record {
      volume = v;
      journal = d;
      course = stopped_course lost_course (trace.Crash 1) settled its_end;
      is = record {
        items = ap (λ is. is ++ trace.Crash 1 ∷ trace.Fence 1 ∷ its_end) items_are ∙ sym hf.told;
        operations = fenced_all hf.fenced;
        told = (whole_there hf.fenced).has.told;
        behind = refl;
        one = (whole_there hf.fenced).has.one;
        disk = fenced_disk hf.fenced;
      };
      stands = each_front clients before m plans time start o l d a p q (front_ops hf.fenced) run (whole_there hf.fenced) (stopped_course lost_course (trace.Crash 1) settled its_end)
          (a_loss (trace.Crash 1) settled hf.kept refl (settles hf.fenced) right);
    }

  -- ---- whatever was done behind it

  pub run_has_stood : a.disk.in_flight 0 ≡ [] → IsBehind a p q disk list items → HasStood clients before start items operations disk
  run_has_stood idle (nothing same listed are) = quiet same listed are
  run_has_stood idle (crash untold same listed are) = crashed same listed are
  run_has_stood idle (fence untold fenced are) = fence_told fenced are
  run_has_stood idle (loss untold hf) = loss_told idle hf
