-- What remains of a node with its log.
use Rattle.std.proofs.Common.{◌≡◌, ◌≢◌, ℕ, ◌≤◌, inl, inr, Bool, true, false, List, None, Some, refl, sym, ap, subst, ◌∙◌}
use Rattle.std.specs.Prelude.{◌==◌, if◌then◌else◌}
use Rattle.std.proofs.lemmas.Bool.{cases_eq}
use Rattle.file_tree.specs.Tree.{Tree}
use Rattle.gfs2_layout.specs.Bytes.{u32_at}
use Rattle.gfs2_layout.specs.declared.log_header.LogHeader.{LogHeader as Front}
use Rattle.cluster_history.specs.History.{tree_of}
use Rattle.cluster_history.specs.History as history
use Rattle.cluster_laws.specs.Rings.{Rings}
use Rattle.cluster_laws.specs.World.{World}
use Rattle.image_model.specs.Image.{Image}
use Rattle.image_model.specs.Replays.{StandsReplayed}
use Rattle.image_model.specs.Stands.{IsJournalAt}
use Rattle.image_model.proofs.Held.{none_some, some_same}
use Rattle.journal_outcomes.specs.Images.{HeaderFliesTo, IsImageOutcome, NoFalseHeader, landed_at, ring_at, to_journal}
use Rattle.journal_outcomes.specs.Rings.{InFlight, ReadsAs, SaysAs}
use Rattle.journal_outcomes.proofs.Outcomes.{landed_header}
use Rattle.image_machine.specs.Volumes.{Volume}
use Rattle.image_machine.proofs.Headlines.{every_image_run}
use Rattle.log_layout.specs.Headers.{as_read}
use Rattle.log_layout.specs.Journal.{IsClean, accepted}
use Rattle.log_layout.specs.Transactions.{after}
use Rattle.log_layout.specs.declared.log_header.LogHeader.{LogHeader}
use Rattle.log_layout.proofs.BestHeaders.{accepted_there}
use Rattle.node_journal.specs.Encoding.{header_of}
use Rattle.log_values.specs.Flushing.{head_place, header_bytes, place_of}
use Rattle.log_values.specs.Log.{Flush}
use Rattle.log_values.specs.Log.Stage.{Headed}
use Rattle.lone_machine.specs.Alone.{Begun, IsAlone, begun, head_of}
use Rattle.lone_machine.specs.Laws.{AreOwnRings}
use Rattle.lone_machine.proofs.Going.{sound}
use Rattle.image_disks.specs.Disks.{IsDiskOf, IsOutcomeOf}
use Rattle.image_disks.specs.Lone.{LoneOutcomesStand, remaining}
use Rattle.machine_outcomes.specs.Outcomes.{OutcomesAreTheMachines}
use Rattle.lone_logs.specs.Laws.{IsHeadAt, IsHeadLeft, ItsHistoryIsLegal, ItsOutcomesStand, Remains}
use Rattle.lone_logs.specs.Laws.IsHeadLeft.{new, old}
use Rattle.lone_logs.specs.States.{FliesAs, FliesToJournal, IsHeaded, IsLoggedNode, NodeState, trees_on}
use Rattle.lone_logs.proofs.Others.{others_clean}
use Rattle.lone_logs.proofs.Stages.{FliesHeaded, flies_headed}

-- of the fields that a hash guards, whether its checksum came out as zero doesn't matter
pub as_read_at : (h : LogHeader) (bytes : List ℕ) → IsHeadAt (as_read h bytes) h.blkno h.sequence h.clean
as_read_at h bytes = by (u32_at 48 bytes == 0)
  where
    by : (zero : Bool) → IsHeadAt (if zero then record h { later = None } else h) h.blkno h.sequence h.clean
    by true = record { place = refl; sequence = refl; clean = refl }
    by false = record { place = refl; sequence = refl; clean = refl }

-- a header that reads as another one is at its place, with its sequence, and clean where that is
pub reads_at : (h g : LogHeader) (place sequence : ℕ) (clean : Bool) → ReadsAs h g → IsHeadAt g place sequence clean → IsHeadAt h place sequence clean
reads_at h g place sequence clean reads at = record {
  place = ap (λ (f : Front). f.blkno) reads.front ∙ at.place;
  sequence = ap (λ (f : Front). f.sequence) reads.front ∙ at.sequence;
  clean = ap (λ (f : Front). f.clean) reads.front ∙ at.clean;
}

-- ---- what an outcome stands for, whichever head its journal has

module _ (stand : LoneOutcomesStand) (v : Volume) (s : Begun (trees_on v)) (w : World (trees_on v)) (d answered : ℕ) (im left : Image) (flying : InFlight) (rings : Rings (trees_on v) w.disk)
    (alone : IsAlone (trees_on v) s w) (node : s.node ≡ 1) (start : w.book.start ≡ s.tree) (own : AreOwnRings (trees_on v) w rings) (disk : IsDiskOf v w.disk rings im flying)
    (of : IsOutcomeOf v w.disk rings im flying left) (at : IsJournalAt v.layout 0 d) (answered_is : w.book.answered s.node ≡ answered) (IsHead : LogHeader → ℕ → Type 0) where
  pub remains_so : IsHead (of.says 0 d at).head (head_of (trees_on v) s w (of.choice 0)).cut → ((j k : ℕ) → IsJournalAt v.layout j k → k ≢ d → IsClean (ring_at left k)) → Remains v s w d answered left IsHead
  remains_so its_head others = record {
    head = (of.says 0 d at).head;
    number = (head_of (trees_on v) s w (of.choice 0)).cut;
    headed = (of.says 0 d at).headed;
    blocks = record { many = of.many 0 d at; there = λ p low. of.there 0 d p at low };
    is = its_head;
    stands = λ k low high calm.
        subst (λ (t : Tree). history.Legal (remaining v s w k) t × StandsReplayed left (tree_of (remaining v s w k) t)) start
        (stand v s w rings im left flying 0 k alone node own disk of low (subst (λ n. k ≤ n) (sym answered_is) high) calm);
    others = others;
  }

-- ---- of the node

module _ (they_are : OutcomesAreTheMachines) (stand : LoneOutcomesStand) (v : Volume) (s : Begun (trees_on v)) (w : World (trees_on v)) (d : ℕ) (st : NodeState) (left : Image)
    (is : IsLoggedNode v s w d st) (outcome : IsImageOutcome st.image st.flying left) (no_false : NoFalseHeader st.image v.layout st.flying left) where
  of : IsOutcomeOf v w.disk is.rings st.image st.flying left
  of = they_are v (begun (trees_on v) s) w is.rings st.image left st.flying is.alone.begins is.alone.run is.disk outcome no_false

  -- ---- the old head

  old_at : IsHeadAt is.ring.head st.log.head st.log.sequence st.log.clean
  old_at = record { place = is.ring.place; sequence = is.ring.sequence; clean = is.ring.clean }

  low_is : (head_of (trees_on v) s w false).cut ≡ st.numbers.low
  low_is = (sound (trees_on v) s w is.alone).mirror.alone s.node ∙ is.numbers.low

  -- ---- the new one

  module _ (flies : HeaderFliesTo st.image d st.flying) (f : Flush) (tail : ℕ) (some : st.log.flush ≡ Some f) (stage : f.stage ≡ Headed tail) where
    its : FliesHeaded (ring_at st.image d) (to_journal st.image d st.flying) st.log f tail
    its = flies_headed (ring_at st.image d) (to_journal st.image d st.flying) st.log f tail
        (subst (FliesAs (ring_at st.image d) (to_journal st.image d st.flying) st.log f) stage (subst (FliesToJournal (ring_at st.image d) (to_journal st.image d st.flying) st.log) some is.flies))

    its_place : flies.1.place ≡ head_place st.log f
    its_place = elim (cases_eq flies.1.place (head_place st.log f)) [
      | inl same ↦ same
      | inr other ↦ absurd (none_some (sym (its.alone flies.1.place flies.1.inside other) ∙ flies.1.flies))
    ]

    its_bytes : flies.1.bytes ≡ header_bytes st.log f tail
    its_bytes = some_same (sym flies.1.flies ∙ ap (to_journal st.image d st.flying) its_place ∙ its.here)

    accepted_is : accepted (head_place st.log f) (header_bytes st.log f tail) ≡ Some (as_read (header_of (place_of st.log f tail) (head_place st.log f)) (header_bytes st.log f tail))
    accepted_is = sym (accepted_there (head_place st.log f) (header_bytes st.log f tail) (as_read (header_of (place_of st.log f tail) (head_place st.log f)) (header_bytes st.log f tail))
        (sym (is.read f tail some stage)) (as_read_at (header_of (place_of st.log f tail) (head_place st.log f)) (header_bytes st.log f tail)).place)

    header_is : flies.1.header ≡ as_read (header_of (place_of st.log f tail) (head_place st.log f)) (header_bytes st.log f tail)
    header_is = some_same (sym flies.1.reads ∙ (λ i. accepted (its_place i) (its_bytes i)) ∙ accepted_is)

    new_at : IsHeadAt flies.1.header (head_place st.log f) (after st.log.sequence) false
    new_at = subst (λ h. IsHeadAt h (head_place st.log f) (after st.log.sequence) false) (sym header_is) (as_read_at (header_of (place_of st.log f tail) (head_place st.log f)) (header_bytes st.log f tail))

  -- ---- the head that an outcome has

  abbrev says_so : Bool → Type 0
  says_so c = SaysAs (ring_at left d) (if c then landed_at st.image d st.flying else ring_at st.image d)

  its_head : (c : Bool) → of.choice 0 ≡ c → (says : says_so c) → IsHeadLeft st says.head (head_of (trees_on v) s w c).cut
  its_head false e says =
      old low_is (reads_at says.head says.other st.log.head st.log.sequence st.log.clean says.reads
      (subst (λ h. IsHeadAt h st.log.head st.log.sequence st.log.clean) (some_same (sym is.ring.headed ∙ says.headed_other)) old_at))
  its_head true e says = by (of.taken 0 e)
    where
      by : (k : ℕ) × IsJournalAt v.layout 0 k × HeaderFliesTo st.image k st.flying → IsHeadLeft st says.head (head_of (trees_on v) s w true).cut
      by (k, at, there) = its_header (subst (λ m. HeaderFliesTo st.image m st.flying) (some_same (sym at ∙ is.journal.is)) there)
        where
          its_header : HeaderFliesTo st.image d st.flying → IsHeadLeft st says.head (head_of (trees_on v) s w true).cut
          its_header flies = headed_so (is.only_headed flies)
            where
              headed_so : IsHeaded st.log.flush → IsHeadLeft st says.head (head_of (trees_on v) s w true).cut
              headed_so (f, tail, some, stage) =
                  new f tail some stage (is.heads.headed (f, tail, some, stage))
                  (reads_at says.head says.other (head_place st.log f) (after st.log.sequence) false says.reads
                  (subst (λ h. IsHeadAt h (head_place st.log f) (after st.log.sequence) false)
                  (some_same (sym (landed_header (ring_at st.image d) (to_journal st.image d st.flying) flies.0 flies.1) ∙ says.headed_other)) (new_at flies f tail some stage)))

  pub stands_for : Remains v s w d st.numbers.answered left (IsHeadLeft st)
  stands_for = remains_so stand v s w d st.numbers.answered st.image left st.flying is.rings is.alone is.node is.start is.own is.disk of is.journal.is is.numbers.answered (IsHeadLeft st)
      (its_head (of.choice 0) refl (of.says 0 d is.journal.is)) (others_clean v s w d st left is of)

pub its_outcomes_stand : OutcomesAreTheMachines → LoneOutcomesStand → ItsOutcomesStand
its_outcomes_stand they_are stand v s w d st left is outcome no_false = stands_for they_are stand v s w d st left is outcome no_false

pub its_history_is_legal : ItsHistoryIsLegal
its_history_is_legal v s w d st is = (every_image_run v (begun (trees_on v) s) w is.alone.begins is.alone.run).told
