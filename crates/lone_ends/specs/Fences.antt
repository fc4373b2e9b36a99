-- What a fence, or a crash, leaves of a node that runs alone.
use Rattle.std.specs.Prelude.{ℕ, ◌≡◌, IsTrue, List, None}
use Rattle.cluster_laws.specs.World.{World}
use Rattle.image_machine.specs.Volumes.{Volume}
use Rattle.image_model.specs.Image.{Image, image_of}
use Rattle.journal_outcomes.specs.Disks.{flown_by}
use Rattle.journal_outcomes.specs.Images.{IsImageOutcome, NoFalseHeader}
use Rattle.log_layout.specs.declared.log_header.LogHeader.{LogHeader}
use Rattle.lone_logs.specs.Laws.{IsHeadLeft, Remains}
use Rattle.lone_logs.specs.States.{IsLoggedNode, NodeState, trees_on}
use Rattle.lone_machine.specs.Alone.{Begun}
use Rattle.shared_disk.specs.Disk.{DiskState, Flight, IsOutcome, after_fence}
use Rattle.lone_ends.specs.Ends.{FliesLast, IsHeadAtEnd}

-- with nothing in flight an image has one outcome, itself
abbrev pub ImagesAtRestStay : Type 0
ImagesAtRestStay = (im left : Image) → IsImageOutcome im (λ b. None) left → left ≡ im

-- What remains of the node on its disk behind its fence; and whatever happens then to what it has in flight, which is nothing, the image stays.
pub record RemainsFenced (v : Volume) (s : Begun (trees_on v)) (w : World (trees_on v)) (d answered : ℕ) (fenced : DiskState) (IsHead : LogHeader → ℕ → Type 0) : Type 0 where
  pub remains : Remains v s w d answered (image_of fenced) IsHead
  pub stays : (left : Image) → IsImageOutcome (image_of fenced) (flown_by fenced s.node) left → left ≡ image_of fenced

-- of a node that runs
abbrev pub FencesLeaveWhatRemains : Type 0
FencesLeaveWhatRemains = (v : Volume) (s : Begun (trees_on v)) (w : World (trees_on v)) (d : ℕ) (st : NodeState) (disk : DiskState) (became : List Flight) → IsLoggedNode v s w d st
    → st.image ≡ image_of disk → st.flying ≡ flown_by disk s.node → IsTrue disk.tells → IsOutcome disk s.node became
    → NoFalseHeader st.image v.layout st.flying (image_of (after_fence disk s.node became)) → RemainsFenced v s w d st.numbers.answered (after_fence disk s.node became) (IsHeadLeft st)

-- and of one whose last header is in flight
abbrev pub FencesLeaveEnds : Type 0
FencesLeaveEnds = (v : Volume) (s : Begun (trees_on v)) (w : World (trees_on v)) (d : ℕ) (st : NodeState) (disk : DiskState) (became : List Flight) → IsLoggedNode v s w d st
    → st.image ≡ image_of disk → FliesLast st (flown_by disk s.node) → IsTrue disk.tells → IsOutcome disk s.node became
    → NoFalseHeader st.image v.layout (flown_by disk s.node) (image_of (after_fence disk s.node became)) → RemainsFenced v s w d st.numbers.answered (after_fence disk s.node became) (IsHeadAtEnd st)
