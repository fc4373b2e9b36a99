-- Each outcome of an image with writes in flight is one of the machine's disk.
use Rattle.std.proofs.Common.{◌≡◌, ◌⊎◌, ℕ, ◌<◌, inl, inr, Bool, true, false, List, length, Option, None, Some, slice_get, refl, sym, ap, subst, ◌∙◌, arith}
use Rattle.std.specs.Prelude.{if◌then◌else◌, unwrap_or}
use Rattle.file_tree.specs.Tree.{Tree}
use Rattle.cluster_laws.specs.Book.{W}
use Rattle.cluster_laws.specs.Contents.{places}
use Rattle.cluster_laws.specs.Laws.{head_cuts}
use Rattle.cluster_laws.specs.Mirror.{Disk, IsOutcome}
use Rattle.cluster_laws.specs.Rings.{Rings}
use Rattle.cluster_laws.specs.World.{BeginsAt, Run, World}
use Rattle.cluster_laws.proofs.Ringing.{every_disk, rings_replay}
use Rattle.gfs2_layout.specs.Inode.{content_block}
use Rattle.image_changes.specs.Instances.{StandsBy}
use Rattle.image_model.specs.Claims.{every}
use Rattle.image_model.specs.Image.{Image}
use Rattle.image_model.specs.Owners.{Owners}
use Rattle.image_model.specs.Replays.{MayChange, Replayed, live_at}
use Rattle.image_model.specs.Stands.{IsJournalAt, Layout}
use Rattle.image_model.proofs.Held.{none_some, some_same}
use Rattle.image_outcomes.specs.CutShort.{ring_left}
use Rattle.image_outcomes.specs.Outcomes.{IsLiveIn}
use Rattle.image_outcomes.proofs.Chosen.{SaysNew, SaysOld, says_before}
use Rattle.image_outcomes.proofs.Found.{FindsTheSame, finds, ring_is}
use Rattle.journal_outcomes.specs.Images.{HeaderFliesTo, IsImageOutcome, IsPlaceIn, MayBeInFlight, NoFalseHeader, landed_at, ring_at, to_journal}
use Rattle.journal_outcomes.specs.Rings.{InFlight, IsRingOutcome, SaysAs}
use Rattle.journal_outcomes.proofs.Outcomes.{landed_header, outcomes_say_one}
use Rattle.log_layout.specs.Laws.{HasSamePlaces}
use Rattle.gfs2_layout.specs.declared.log_header.LogHeader.{LogHeader as Front}
use Rattle.log_layout.specs.declared.log_header.LogHeader.{LogHeader}
use Rattle.log_layout.specs.Live.{IsReadable, live_in}
use Rattle.log_layout.proofs.SamePlaces.{says_the_same}
use Rattle.tree_histories.specs.Trees.{Trees, rules_of}
use Rattle.image_machine.specs.Laws.{HasBlocksFor}
use Rattle.image_machine.specs.Volumes.{IsPlace, Volume, images_of}
use Rattle.image_machine.proofs.Fitting.{contents_are_images}
use Rattle.image_machine.proofs.Unminded.{free_do_not, rings_do_not}
use Rattle.image_disks.specs.Disks.{HasLandedAt, HasSettledTo, IsDiskOf, IsOutcomeOf, KeepsHeads}
use Rattle.machine_outcomes.specs.Outcomes.{OutcomesAreTheMachines}
use Rattle.image_disks.proofs.Finding.{pick, place_or_not}
use Rattle.image_disks.proofs.Replaying.{became, full, full_has, full_is, full_readable, near, replay, replayed}

-- what is the second of two
abbrev is_second : {A B : Type 0} → A ⊎ B → Bool
is_second (inl a) = false
is_second (inr b) = true

module _ (v : Volume) (u w : World (Trees (images_of v))) (rings : Rings (Trees (images_of v)) w.disk) (im : Image) (flying : InFlight) (begins : BeginsAt (Trees (images_of v)) u)
    (run : Run (Trees (images_of v)) u w) (is : IsDiskOf v w.disk rings im flying) where
  abbrev l : Layout
  l = v.layout

  -- ---- the image itself, its journals replayed, stands

  abbrev old : ℕ → Bool
  old j = false

  old_live : (j k b : ℕ) → IsJournalAt l j k → live_at im k b ≡ rings.live j false b
  old_live j k b at = sym (is.old j k b at)

  abbrev first : Image
  first = full v w.disk rings im flying is im old is.has is.journals is.many is.there is.readable old_live (λ b may. may)

  first_is : Replayed im l first
  first_is = full_is v w.disk rings im flying is im old is.has is.journals is.many is.there is.readable old_live (λ b may. may)

  first_became : IsOutcome (Trees (images_of v)) w.disk (became v w.disk rings im flying is im old is.has is.journals is.many is.there is.readable old_live (λ b may. may))
  first_became b = by (place_or_not v b)
    where
      by : (q : IsPlace v b ⊎ (IsPlace v b → ⊥)) → (pick q (w.disk.blocks b) (im.at b) ≡ w.disk.blocks b) ⊎ ((r : ℕ) × (bytes : List ℕ) × (w.disk.flight r b ≡ Some bytes))
      by (inl place) = inl refl
      by (inr off) = inl (sym (is.blocks b off))

  first_stands : (t : Tree) × (o : Owners) × StandsBy first o l t
  first_stands =
      let e = every_disk (rules_of (images_of v)) u w begins run (free_do_not v) (rings_do_not v) old
      (became v w.disk rings im flying is im old is.has is.journals is.many is.there is.readable old_live (λ b may. may))
      (replayed v w.disk rings im flying is im old is.has is.journals is.many is.there is.readable old_live (λ b may. may)) first.at first_became
      (rings_replay (Trees (images_of v)) w.disk rings old
      (became v w.disk rings im flying is im old is.has is.journals is.many is.there is.readable old_live (λ b may. may))
      (replayed v w.disk rings im flying is im old is.has is.journals is.many is.there is.readable old_live (λ b may. may))
      (replay v w.disk rings im flying is im old is.has is.journals is.many is.there is.readable old_live (λ b may. may)))
      (full_readable v w.disk rings im flying is im old is.has is.journals is.many is.there is.readable old_live (λ b may. may))
      (near v w.disk rings im flying is im old is.has is.journals is.many is.there is.readable old_live (λ b may. may)) in
      let by = contents_are_images v first (places (W (Trees (images_of v)) w.book (head_cuts (Trees (images_of v)) w.disk old))) e.0
      (full_has v w.disk rings im flying is im old is.has is.journals is.many is.there is.readable old_live (λ b may. may)) e.1 in
      (e.0, by.0, by.1)

  -- ---- an outcome of it

  module _ (left : Image) (outcome : IsImageOutcome im flying left) (no_false : NoFalseHeader im l flying left) where
    ring_outcome : (j k : ℕ) → IsJournalAt l j k → IsRingOutcome (ring_at im k) (to_journal im k flying) (ring_left im left k)
    ring_outcome j k at = record {
      size = refl;
      places = refl;
      still = λ p low free. outcome.still (content_block (every im k) p) free;
      whole = λ p bytes low flies. outcome.whole (content_block (every im k) p) bytes flies;
      either = λ p bytes low flies. no_false j k p bytes at low flies;
    }

    -- each journal says what it said, or what it says with the header in flight
    each : (j k : ℕ) → IsJournalAt l j k → SaysOld im left flying k ⊎ (HeaderFliesTo im k flying × SaysNew im left flying k)
    each j k at = elim (outcomes_say_one (ring_at im k) (to_journal im k flying) (ring_left im left k) (is.may.journals j k at) (ring_outcome j k at)) [
      | inl says ↦ inl says
      | inr new ↦ inr ((is.may.journals j k at, new.0), new.1)
    ]

    readable_left : (j k : ℕ) → IsJournalAt l j k → IsReadable (ring_left im left k)
    readable_left j k at = elim (each j k at) [
      | inl says ↦ says.readable.1 (is.readable j k at)
      | inr new ↦ new.1.readable.1 (is.may.readable j k at new.0)
    ]

    blocks_left : (b : ℕ) → (left.at b ≡ im.at b) ⊎ (IsPlaceIn im l b ⊎ IsLiveIn im l b)
    blocks_left b = by (flying b) refl
      where
        by : (o : Option (List ℕ)) → flying b ≡ o → (left.at b ≡ im.at b) ⊎ (IsPlaceIn im l b ⊎ IsLiveIn im l b)
        by None e = inl (outcome.still b e)
        by (Some bytes) e = elim (is.may.others b bytes e) [
          | inl place ↦ inr (inl place)
          | inr home ↦ inr (inr (record { journal = home.journal; dinode = home.dinode; bytes = bytes; at = home.at; live = home.live }))
        ]

    whole_left : (b : ℕ) → b < im.count → length (left.at b) ≡ im.size
    whole_left b low = by (flying b) refl
      where
        by : (o : Option (List ℕ)) → flying b ≡ o → length (left.at b) ≡ im.size
        by None e = ap length (outcome.still b e) ∙ is.has.whole b low
        by (Some bytes) e = outcome.whole b bytes e

    found : FindsTheSame im l left
    found = finds im l is.journals first first_is first_stands.1 l first_stands.0 first_stands.2 left outcome.size outcome.count blocks_left (λ b low place. whole_left b low) readable_left

    same_ring : (j k : ℕ) → IsJournalAt l j k → HasSamePlaces (ring_at left k) (ring_left im left k)
    same_ring = ring_is im l is.journals first first_is first_stands.1 l first_stands.0 first_stands.2 left outcome.size outcome.count blocks_left (λ b low place. whole_left b low) readable_left

    -- ---- which heads count

    chosen_of : (j : ℕ) (o : Option ℕ) → slice_get l.journals j ≡ o → Bool
    chosen_of j None e = false
    chosen_of j (Some k) e = is_second (each j k e)

    choice : ℕ → Bool
    choice j = chosen_of j (slice_get l.journals j) refl

    choice_taken : (j : ℕ) → choice j ≡ true → (k : ℕ) × IsJournalAt l j k × HeaderFliesTo im k flying
    unfolding choice chosen_of
    choice_taken j = by (slice_get l.journals j) refl
      where
        by : (o : Option ℕ) (e : slice_get l.journals j ≡ o) → chosen_of j o e ≡ true → (k : ℕ) × IsJournalAt l j k × HeaderFliesTo im k flying
        by None e so = absurd (let no : false ≡ true = so in cc)
        by (Some k) e so = its (each j k e) so
          where
            its : (q : SaysOld im left flying k ⊎ (HeaderFliesTo im k flying × SaysNew im left flying k)) → is_second q ≡ true → (k : ℕ) × IsJournalAt l j k × HeaderFliesTo im k flying
            its (inl says) so = absurd (let no : false ≡ true = so in cc)
            its (inr new) so = (k, e, new.0)

    choice_live : (j k b : ℕ) → IsJournalAt l j k → live_in (ring_left im left k) b ≡ rings.live j (choice j) b
    unfolding choice chosen_of
    choice_live j k b at = by (slice_get l.journals j) refl at
      where
        by : (o : Option ℕ) (e : slice_get l.journals j ≡ o) → o ≡ Some k → live_in (ring_left im left k) b ≡ rings.live j (chosen_of j o e) b
        by None e same = absurd (none_some same)
        by (Some m) e same = ap (λ z. live_in (ring_left im left z) b) (sym (some_same same)) ∙ its (each j m e)
          where
            its : (q : SaysOld im left flying m ⊎ (HeaderFliesTo im m flying × SaysNew im left flying m)) → live_in (ring_left im left m) b ≡ rings.live j (is_second q) b
            its (inl says) = says.live b ∙ sym (is.old j m b e)
            its (inr new) = new.1.live b ∙ sym (is.new j m b e new.0)

    -- each journal says what it says with the heads of that choice
    choice_says : (j k : ℕ) → IsJournalAt l j k → SaysAs (ring_at left k) (if choice j then landed_at im k flying else ring_at im k)
    unfolding choice chosen_of
    choice_says j k at = by (slice_get l.journals j) refl at
      where
        by : (o : Option ℕ) (e : slice_get l.journals j ≡ o) → o ≡ Some k → SaysAs (ring_at left k) (if chosen_of j o e then landed_at im k flying else ring_at im k)
        by None e same = absurd (none_some same)
        by (Some m) e same = subst (λ z. SaysAs (ring_at left z) (if is_second (each j m e) then landed_at im z flying else ring_at im z)) (some_same same) (its (each j m e))
          where
            its : (q : SaysOld im left flying m ⊎ (HeaderFliesTo im m flying × SaysNew im left flying m)) → SaysAs (ring_at left m) (if is_second q then landed_at im m flying else ring_at im m)
            its (inl says) = says_before (ring_left im left m) (ring_at left m) (ring_at im m) (same_ring j m e) says
            its (inr new) = says_before (ring_left im left m) (ring_at left m) (landed_at im m flying) (same_ring j m e) new.1

    -- ---- the image that is left, by that choice

    left_has : HasBlocksFor v left
    left_has = record {
      size = outcome.size ∙ is.has.size;
      count = outcome.count ∙ is.has.count;
      whole = λ b low. whole_left b (subst (λ n. b < n) outcome.count low) ∙ sym outcome.size;
    }

    left_many : (j k : ℕ) → IsJournalAt l j k → (ring_at left k).places ≡ v.places k
    left_many j k at = found.many j k at ∙ is.many j k at

    left_there : (j k p : ℕ) → IsJournalAt l j k → p < v.places k → content_block (every left k) p ≡ v.place k p
    left_there j k p at low = found.place j k p at (subst (λ n. p < n) (sym (is.many j k at)) low) ∙ is.there j k p at low

    left_readable : (j k : ℕ) → IsJournalAt l j k → IsReadable (ring_at left k)
    left_readable j k at = (says_the_same (ring_left im left k) (ring_at left k) back).readable (readable_left j k at)
      where
        same : HasSamePlaces (ring_at left k) (ring_left im left k)
        same = same_ring j k at

        back : HasSamePlaces (ring_left im left k) (ring_at left k)
        back = record { size = sym same.size; places = sym same.places; blocks = λ p low. sym (same.blocks p (subst (λ n. p < n) (sym same.places) low)) }

    left_live : (j k b : ℕ) → IsJournalAt l j k → live_at left k b ≡ rings.live j (choice j) b
    left_live j k b at = (says_the_same (ring_at left k) (ring_left im left k) (same_ring j k at)).live b ∙ choice_live j k b at

    left_change : (b : ℕ) → MayChange im l b → MayChange left l b
    left_change b may = record {
      there = subst (λ n. b < n) (sym outcome.count) may.there;
      group = (may.group.0, (found.groups may.group.0).1 may.group.1, may.group.2);
      no_place = λ j k p at low e. (let low' : p < (ring_at im k).places = subst (λ n. p < n) (found.many j k at) low in may.no_place j k p at low' (sym (found.place j k p at low') ∙ e));
      apart = λ of. may.apart ((found.system b).0 of);
    }

    left_became : IsOutcome (Trees (images_of v)) w.disk (became v w.disk rings im flying is left choice left_has found.journals left_many left_there left_readable left_live left_change)
    left_became b = by (place_or_not v b)
      where
        by : (q : IsPlace v b ⊎ (IsPlace v b → ⊥)) → (pick q (w.disk.blocks b) (left.at b) ≡ w.disk.blocks b) ⊎ ((r : ℕ) × (bytes : List ℕ) × (w.disk.flight r b ≡ Some bytes))
        by (inl place) = inl refl
        by (inr off) = flew (flying b) refl
          where
            flew : (o : Option (List ℕ)) → flying b ≡ o → (left.at b ≡ w.disk.blocks b) ⊎ ((r : ℕ) × (bytes : List ℕ) × (w.disk.flight r b ≡ Some bytes))
            flew None e = inl (outcome.still b e ∙ sym (is.blocks b off))
            flew (Some bytes) e = (let f = is.flights b bytes off e in inr (f.0, bytes, f.1))

    -- a header in its place is the head, so its journal doesn't say what it said
    landed_counts : (k : ℕ) (flies : HeaderFliesTo im k flying) → HasLandedAt im k flying left → SaysOld im left flying k → ⊥
    landed_counts k flies landed says = absurd (omega (arith, flies.1.next, ap (λ (h : LogHeader). h.sequence) new, ap (λ (h : LogHeader). h.sequence) was, sequences))
      where
        all_landed : HasSamePlaces (ring_left im left k) (landed_at im k flying)
        all_landed = record { size = refl; places = refl; blocks = λ p low. by p low (to_journal im k flying p) refl }
          where
            by : (p : ℕ) → p < (ring_at im k).places → (o : Option (List ℕ)) → to_journal im k flying p ≡ o → left.at (content_block (every im k) p) ≡ unwrap_or (to_journal im k flying p) (im.at (content_block (every im k) p))
            by p low None e = outcome.still (content_block (every im k) p) e ∙ sym (ap (λ o. unwrap_or o (im.at (content_block (every im k) p))) e)
            by p low (Some bytes) e = landed p bytes low e ∙ sym (ap (λ o. unwrap_or o (im.at (content_block (every im k) p))) e)

        new : says.head ≡ flies.1.header
        new = some_same (sym says.headed ∙ (says_the_same (ring_left im left k) (landed_at im k flying) all_landed).head ∙ landed_header (ring_at im k) (to_journal im k flying) flies.0 flies.1)

        was : says.other ≡ flies.0.head
        was = some_same (sym says.headed_other ∙ flies.0.headed)

        sequences : says.head.sequence ≡ says.other.sequence
        sequences = ap (λ (f : Front). f.sequence) says.reads.front

    choice_landed : (j k : ℕ) → IsJournalAt l j k → HeaderFliesTo im k flying → HasLandedAt im k flying left → choice j ≡ true
    unfolding choice chosen_of
    choice_landed j k at flies landed = by (slice_get l.journals j) refl at
      where
        by : (o : Option ℕ) (e : slice_get l.journals j ≡ o) → o ≡ Some k → chosen_of j o e ≡ true
        by None e same = absurd (none_some same)
        by (Some m) e same = its (each j m e)
          where
            its : (q : SaysOld im left flying m ⊎ (HeaderFliesTo im m flying × SaysNew im left flying m)) → is_second q ≡ true
            its (inl says) = absurd (landed_counts k flies landed (subst (SaysOld im left flying) (some_same same) says))
            its (inr new) = refl

    -- with nothing in flight the image is the machine's disk
    none_flies : (k : ℕ) → HeaderFliesTo left k (λ b. None) → ⊥
    none_flies k flies = none_some flies.1.flies

    none_may : MayBeInFlight left l (λ b. None)
    none_may = record {
      journals = λ j k at. (let r = left_readable j k at in record {
        head = r.head;
        headed = r.headed;
        writes = inl (record { free = λ p bytes low e. absurd (none_some e); no_header = λ p bytes low e. absurd (none_some e) });
      });
      readable = λ j k at flies. absurd (none_flies k flies);
      others = λ b bytes e. absurd (none_some e);
      whole = λ b bytes e. absurd (none_some e);
    }

    at_rest : (e : Disk (Trees (images_of v))) (after : Rings (Trees (images_of v)) e) → HasSettledTo v left e → KeepsHeads v rings choice after → IsDiskOf v e after left (λ b. None)
    at_rest e after settled keeps = record {
      has = left_has;
      journals = found.journals;
      many = left_many;
      there = left_there;
      readable = left_readable;
      may = none_may;
      blocks = settled;
      flights = λ b bytes off f. absurd (none_some f);
      old = λ j k b at. keeps j b false ∙ sym (left_live j k b at);
      new = λ j k b at flies. absurd (none_flies k flies);
      none = λ j b c not. keeps j b c ∙ is.none j b (choice j) not;
      inside = λ j b c bytes f. left_change b (is.inside j b (choice j) bytes (sym (keeps j b c) ∙ f));
      whole = λ j b c bytes f. is.whole j b (choice j) bytes (sym (keeps j b c) ∙ f);
    }

    the_outcome : IsOutcomeOf v w.disk rings im flying left
    the_outcome = record {
      change = left_change;
      landed = choice_landed;
      many = left_many;
      there = left_there;
      says = choice_says;
      rests = at_rest;
      choice = choice;
      taken = choice_taken;
      full = full v w.disk rings im flying is left choice left_has found.journals left_many left_there left_readable left_live left_change;
      is = full_is v w.disk rings im flying is left choice left_has found.journals left_many left_there left_readable left_live left_change;
      has = full_has v w.disk rings im flying is left choice left_has found.journals left_many left_there left_readable left_live left_change;
      readable = full_readable v w.disk rings im flying is left choice left_has found.journals left_many left_there left_readable left_live left_change;
      became = became v w.disk rings im flying is left choice left_has found.journals left_many left_there left_readable left_live left_change;
      replayed = replayed v w.disk rings im flying is left choice left_has found.journals left_many left_there left_readable left_live left_change;
      outcome = left_became;
      replay = replay v w.disk rings im flying is left choice left_has found.journals left_many left_there left_readable left_live left_change;
      near = near v w.disk rings im flying is left choice left_has found.journals left_many left_there left_readable left_live left_change;
    }

pub outcomes_are_the_machines : OutcomesAreTheMachines
outcomes_are_the_machines v u w rings im left flying begins run is outcome no_false = the_outcome v u w rings im flying begins run is left outcome no_false
