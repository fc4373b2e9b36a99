-- All that was in flight to the disk of a node is in its place: the machine's disk then, and the node's journal.
use Rattle.std.proofs.Common.{◌≡◌, ◌⊎◌, ℕ, suc, ◌<◌, inl, inr, Bool, List, length, Option, None, Some, refl, sym, ap, ◌∙◌}
use Rattle.cluster_laws.specs.Rings.{Rings}
use Rattle.cluster_laws.specs.World.{World}
use Rattle.gfs2_layout.specs.Inode.{content_block}
use Rattle.image_disks.specs.Disks.{HasSettledTo, IsDiskOf, IsOutcomeOf}
use Rattle.image_disks.proofs.Finding.{pick, place_or_not}
use Rattle.image_machine.specs.Volumes.{IsPlace, Volume}
use Rattle.image_model.specs.Claims.{every}
use Rattle.image_model.specs.Image.{Image}
use Rattle.image_model.specs.Stands.{Layout}
use Rattle.journal_outcomes.specs.Images.{IsImageOutcome, NoFalseHeader, ring_at, to_journal}
use Rattle.journal_outcomes.specs.Rings.{InFlight}
use Rattle.log_layout.specs.Journal.{accepted}
use Rattle.lone_machine.specs.Alone.{Begun, IsAlone, MaySettle, begun}
use Rattle.lone_machine.specs.Laws.{AreOwnRings}
use Rattle.lone_machine.proofs.Going.{sound}
use Rattle.lone_machine.proofs.Remaining.{rings_alone}
use Rattle.machine_outcomes.specs.Outcomes.{OutcomesAreTheMachines}
use Rattle.lone_logs.specs.States.{HasLandedAs, IsLoggedNode, NodeState, trees_on}
use Rattle.lone_logs.proofs.Places.{content_at, within}

-- ---- an image with all in its place is an outcome, and has no false header

pub landed_outcome : (im left : Image) (flying : InFlight) → ((b : ℕ) (bytes : List ℕ) → flying b ≡ Some bytes → length bytes ≡ im.size) → HasLandedAs im flying left → IsImageOutcome im flying left
landed_outcome im left flying whole landed =
    record { size = landed.size; count = landed.count; still = landed.still; whole = λ b bytes e. ap length (landed.new b bytes e) ∙ whole b bytes e }

pub landed_true : (im left : Image) (flying : InFlight) → HasLandedAs im flying left → (l : Layout) → NoFalseHeader im l flying left
landed_true im left flying landed l j k p bytes at low flies h accepts =
    inr (h, ap (accepted p) (sym (landed.new (content_block (every im k) p) bytes flies)) ∙ accepts, record { front = refl; later = λ fields e. e })

-- other nodes' heads have nothing live
pub none_of_others : (v : Volume) (s : Begun (trees_on v)) (w : World (trees_on v)) → IsAlone (trees_on v) s w → (j b : ℕ) (c : Bool) → (suc j ≡ s.node → ⊥) → (w.disk.heads (suc j) c).live b ≡ None
none_of_others v s w alone j b c other = by ((w.disk.heads (suc j) c).live b) refl
  where
    by : (o : Option (List ℕ)) → (w.disk.heads (suc j) c).live b ≡ o → (w.disk.heads (suc j) c).live b ≡ None
    by None e = e
    by (Some bytes) e = absurd (other (alone.owners b (suc j) ((sound (trees_on v) s w alone).mirror.lives (suc j) c b bytes e)))

-- ---- of the node's disk

module _ (they_are : OutcomesAreTheMachines) (v : Volume) (s : Begun (trees_on v)) (w : World (trees_on v)) (d : ℕ) (st : NodeState) (is : IsLoggedNode v s w d st) (left : Image)
    (landed : HasLandedAs st.image st.flying left) where
  pub of : IsOutcomeOf v w.disk is.rings st.image st.flying left
  of = they_are v (begun (trees_on v) s) w is.rings st.image left st.flying is.alone.begins is.alone.run is.disk
      (landed_outcome st.image left st.flying is.disk.may.whole landed) (landed_true st.image left st.flying landed v.layout)

  -- ---- the machine's blocks

  abbrev pub blocks_then : ℕ → List ℕ
  blocks_then b = pick (place_or_not v b) (w.disk.blocks b) (left.at b)

  pub may_settle : MaySettle (trees_on v) s w blocks_then
  may_settle b = by (place_or_not v b)
    where
      by : (q : IsPlace v b ⊎ (IsPlace v b → ⊥)) → (pick q (w.disk.blocks b) (left.at b) ≡ w.disk.blocks b) ⊎ ((bytes : List ℕ) × (w.disk.flight s.node b ≡ Some bytes))
      by (inl place) = inl refl
      by (inr off) = flew (st.flying b) refl
        where
          flew : (o : Option (List ℕ)) → st.flying b ≡ o → (left.at b ≡ w.disk.blocks b) ⊎ ((bytes : List ℕ) × (w.disk.flight s.node b ≡ Some bytes))
          flew None e = inl (landed.still b e ∙ sym (is.disk.blocks b off))
          flew (Some bytes) e = inr (bytes, is.flights b off ∙ e)

  pub settled_to : (b : ℕ) → (IsPlace v b → ⊥) → blocks_then b ≡ left.at b
  settled_to b off = by (place_or_not v b)
    where
      by : (q : IsPlace v b ⊎ (IsPlace v b → ⊥)) → pick q (w.disk.blocks b) (left.at b) ≡ left.at b
      by (inl place) = absurd (off place)
      by (inr not) = refl

  pub others_none : (j b : ℕ) (c : Bool) → (suc j ≡ s.node → ⊥) → (w.disk.heads (suc j) c).live b ≡ None
  others_none = none_of_others v s w is.alone

  -- ---- a world in which it has settled so

  module _ (w' : World (trees_on v)) (alone : IsAlone (trees_on v) s w') (blocks : HasSettledTo v left w'.disk)
      (heads : (j b : ℕ) (c : Bool) → (w'.disk.heads (suc j) c).live b ≡ (w.disk.heads (suc j) (of.choice j)).live b) where
    pub rings_then : (rings : Rings (trees_on v) w'.disk) × AreOwnRings (trees_on v) w' rings
    rings_then = rings_alone (trees_on v) s w' 0 alone is.node

    pub disk_then : IsDiskOf v w'.disk rings_then.0 left (λ b. None)
    disk_then = of.rests w'.disk rings_then.0 blocks (λ j b c. rings_then.1.live j b c ∙ heads j b c ∙ sym (is.own.live j b (of.choice j)))

    pub places_then : (ring_at left d).places ≡ (ring_at st.image d).places
    places_then = disk_then.many 0 d is.journal.is ∙ sym (is.disk.many 0 d is.journal.is)

    pub size_then : (ring_at left d).size ≡ (ring_at st.image d).size
    size_then = landed.size

    content_then : (p : ℕ) → p < (ring_at st.image d).places → content_block (every left d) p ≡ content_block (every st.image d) p
    content_then p low = disk_then.there 0 d p is.journal.is (within v s w d st is p low) ∙ sym (content_at v s w d st is p low)

    -- what flew to a place of the journal is there, and each other block is as it was
    pub flown_there : (p : ℕ) (bytes : List ℕ) → p < (ring_at st.image d).places → to_journal st.image d st.flying p ≡ Some bytes → (ring_at left d).at p ≡ bytes
    flown_there p bytes low e = ap left.at (content_then p low) ∙ landed.new (content_block (every st.image d) p) bytes e

    pub still_there : (p : ℕ) → p < (ring_at st.image d).places → to_journal st.image d st.flying p ≡ None → (ring_at left d).at p ≡ (ring_at st.image d).at p
    still_there p low e = ap left.at (content_then p low) ∙ landed.still (content_block (every st.image d) p) e
