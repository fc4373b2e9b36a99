-- What disks say of the heads of the node's journal.
use Rattle.std.specs.Prelude.{ℕ, ◌≡◌, Some}
use Rattle.image_machine.specs.Volumes.{Volume}
use Rattle.image_model.specs.Image.{Image, image_of}
use Rattle.journal_outcomes.specs.Images.{ring_at}
use Rattle.log_layout.specs.Journal.{head_in}
use Rattle.log_layout.specs.declared.log_header.LogHeader.{LogHeader}
use Rattle.logged_steps.specs.Points.{Point}
use Rattle.run_rules.specs.Lives.{AcceptedHead, own_from}
use Rattle.logged_runs.specs.Starts.{only_life}

-- it is the accepted head of the journal with its dinode in block d, by the block of its place
pub record IsAcceptedIn (v : Volume) (d : ℕ) (im : Image) (h : AcceptedHead) : Type 0 where
  pub header : LogHeader
  pub headed : head_in (ring_at im d) ≡ Some header
  pub is : h ≡ record { block = v.place d header.blkno; sequence = header.sequence; is_clean = header.clean }

-- where the life's own headers begin, the journal has the head that it has at the start
abbrev pub HasFirst : Volume → ℕ → Point → (ℕ → ℕ → AcceptedHead) → Type 0
HasFirst v d a behind = IsAcceptedIn v d (image_of a.disk) (behind 1 (own_from only_life a.items))
