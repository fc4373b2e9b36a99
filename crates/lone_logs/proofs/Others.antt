-- The other journals in an outcome: nothing flies to them, so they stay clean.
use Rattle.std.proofs.Common.{◌≡◌, ◌≢◌, ℕ, Bool, true, false, None, refl, sym, ap, subst, ◌∙◌, ◌<◌}
use Rattle.std.specs.Prelude.{if◌then◌else◌}
use Rattle.cluster_laws.specs.Mirror.{Disk}
use Rattle.cluster_laws.specs.Rings.{Rings}
use Rattle.cluster_laws.specs.World.{World}
use Rattle.gfs2_layout.specs.declared.log_header.LogHeader.{LogHeader as Front}
use Rattle.image_disks.specs.Disks.{IsOutcomeOf}
use Rattle.image_machine.specs.Volumes.{Volume}
use Rattle.image_model.specs.Image.{Image}
use Rattle.image_model.specs.Stands.{IsJournalAt}
use Rattle.image_model.proofs.Held.{none_some, some_same}
use Rattle.journal_outcomes.specs.Images.{HeaderFliesTo, landed_at, ring_at, to_journal}
use Rattle.journal_outcomes.specs.Rings.{InFlight, SaysAs}
use Rattle.log_layout.specs.Journal.{IsClean}
use Rattle.log_layout.specs.declared.log_header.LogHeader.{LogHeader}
use Rattle.lone_machine.specs.Alone.{Begun}
use Rattle.lone_logs.specs.States.{IsLoggedNode, NodeState, trees_on}
use Rattle.lone_logs.proofs.Places.{none_elsewhere}

module _ (v : Volume) (disk : Disk (trees_on v)) (rings : Rings (trees_on v) disk) (im left : Image) (flying : InFlight) (of : IsOutcomeOf v disk rings im flying left) (d : ℕ)
    (none : (j k p : ℕ) → IsJournalAt v.layout j k → k ≢ d → p < (ring_at im k).places → to_journal im k flying p ≡ None)
    (clean : (j k : ℕ) → IsJournalAt v.layout j k → k ≢ d → IsClean (ring_at im k)) where
  -- it has its old head
  old_of_others : (j k : ℕ) → IsJournalAt v.layout j k → k ≢ d → of.choice j ≡ false
  old_of_others j k at other = by (of.choice j) refl
    where
      flies_not : HeaderFliesTo im k flying → ⊥
      flies_not flies = none_some (sym (none j k flies.1.place at other flies.1.inside) ∙ flies.1.flies)

      by : (c : Bool) → of.choice j ≡ c → of.choice j ≡ false
      by false e = e
      by true e = (let taken = of.taken j e in absurd (flies_not (subst (λ m. HeaderFliesTo im m flying) (some_same (sym taken.1 ∙ at)) taken.2)))

  pub stay_clean : (j k : ℕ) → IsJournalAt v.layout j k → k ≢ d → IsClean (ring_at left k)
  stay_clean j k at other =
      let says : SaysAs (ring_at left k) (ring_at im k) = subst (λ c. SaysAs (ring_at left k) (if c then landed_at im k flying else ring_at im k)) (old_of_others j k at other) (of.says j k at) in
      let was = clean j k at other in
      (says.head, says.headed, ap (λ (f : Front). f.clean) says.reads.front ∙ ap (λ (h : LogHeader). h.clean) (some_same (sym says.headed_other ∙ was.1)) ∙ was.2)

pub others_clean : (v : Volume) (s : Begun (trees_on v)) (w : World (trees_on v)) (d : ℕ) (st : NodeState) (left : Image) (is : IsLoggedNode v s w d st) → IsOutcomeOf v w.disk is.rings st.image st.flying left
    → (j k : ℕ) → IsJournalAt v.layout j k → k ≢ d → IsClean (ring_at left k)
others_clean v s w d st left is of = stay_clean v w.disk is.rings st.image left st.flying of d (none_elsewhere v s w d st is) is.others
