-- What a fence leaves of a node.
use Rattle.std.proofs.Common.{◌≡◌, ℕ, [], refl, sym, subst}
use Rattle.image_model.specs.Image.{Image, image_of}
use Rattle.journal_outcomes.specs.Disks.{FencesLeaveOutcomes, flown_by}
use Rattle.journal_outcomes.specs.Images.{IsImageOutcome}
use Rattle.lone_logs.specs.Laws.{ItsOutcomesStand}
use Rattle.shared_disk.specs.Disk.{DiskState, after_fence, flight_to}
use Rattle.lone_ends.specs.Ends.{ItsEndsStand}
use Rattle.lone_ends.specs.Fences.{FencesLeaveEnds, FencesLeaveWhatRemains, ImagesAtRestStay}

pub images_at_rest_stay : ImagesAtRestStay
images_at_rest_stay im left outcome = λ i. record { size = outcome.size i; count = outcome.count i; at = λ b. outcome.still b refl i }

-- of the fenced node nothing is in flight
stays_then : (disk : DiskState) (node : ℕ) → disk.in_flight node ≡ [] → (left : Image) → IsImageOutcome (image_of disk) (flown_by disk node) left → left ≡ image_of disk
stays_then disk node none left outcome = images_at_rest_stay (image_of disk) left (subst (λ fs. IsImageOutcome (image_of disk) (flight_to fs) left) none outcome)

pub fences_leave_what_remains : FencesLeaveOutcomes → ItsOutcomesStand → FencesLeaveWhatRemains
fences_leave_what_remains fence stand v s w d st disk became is image flying tells settles no_false =
    let its = fence disk s.node became tells settles in
    record {
      remains = stand v s w d st (image_of (after_fence disk s.node became)) is
          (subst (λ im. IsImageOutcome im st.flying (image_of (after_fence disk s.node became))) (sym image)
          (subst (λ fs. IsImageOutcome (image_of disk) fs (image_of (after_fence disk s.node became))) (sym flying) its.outcome)) no_false;
      stays = stays_then (after_fence disk s.node became) s.node its.settled.none;
    }

pub fences_leave_ends : FencesLeaveOutcomes → ItsEndsStand → FencesLeaveEnds
fences_leave_ends fence stand v s w d st disk became is image flies tells settles no_false =
    let its = fence disk s.node became tells settles in
    record {
      remains = stand v s w d st (flown_by disk s.node) (image_of (after_fence disk s.node became)) is flies
          (subst (λ im. IsImageOutcome im (flown_by disk s.node) (image_of (after_fence disk s.node became))) (sym image) its.outcome) no_false;
      stays = stays_then (after_fence disk s.node became) s.node its.settled.none;
    }
