-- The law of outcomes of an image.
use Rattle.std.proofs.Common.{◌≡◌, ◌⊎◌, ℕ, ◌<◌, true, false, List, length, Option, None, Some, refl, sym, ap, subst, ◌∙◌, inl, inr}
use Rattle.std.proofs.lemmas.Bool.{cases_Bool}
use Rattle.std.specs.Prelude.{Bool, if◌then◌else◌, unwrap_or}
use Rattle.file_tree.specs.Tree.{Tree}
use Rattle.gfs2_layout.specs.Inode.{content_block}
use Rattle.image_changes.specs.Instances.{StandsBy, among}
use Rattle.image_model.specs.Claims.{every}
use Rattle.image_model.specs.Image.{Image}
use Rattle.image_model.specs.Owners.{Below}
use Rattle.image_model.specs.Replays.{HasItsJournals, Replayed, StandsReplayed, live_at}
use Rattle.image_model.specs.Stands.{IsJournalAt, Layout}
use Rattle.image_model.proofs.Replaying.{replayed_by_any}
use Rattle.journal_outcomes.specs.Images.{HeaderFliesTo, IsImageOutcome, IsPlaceIn, MayBeInFlight, NoFalseHeader, PutsHome, chosen, ring_at, to_journal}
use Rattle.journal_outcomes.specs.Rings.{InFlight, IsRingOutcome, SaysAs}
use Rattle.journal_outcomes.proofs.Outcomes.{outcomes_say_one}
use Rattle.log_layout.specs.Laws.{HasSamePlaces}
use Rattle.log_layout.specs.Live.{IsReadable, live_in}
use Rattle.log_layout.proofs.SamePlaces.{says_the_same}
use Rattle.image_outcomes.specs.Outcomes.{IsLiveIn, OutcomesAreChosen, SaysAsChosen}
use Rattle.image_outcomes.proofs.Chosen.{Decided, SaysNew, SaysOld, chosen_old, decide, is_choice, says_along, says_before, says_chosen, taken_is}
use Rattle.image_outcomes.specs.CutShort.{ring_left}
use Rattle.image_outcomes.proofs.Found.{FindsTheSame, finds, place_whole, ring_is, row_first}
use Rattle.image_outcomes.proofs.Replays.{replayed_there, stands_too}

below_own : (d e a k s a' k' s' : ℕ) → Below d a k 0 s ≡ Below e a' k' 0 s' → d ≡ e
below_own d e a k s a' k' s' same = cc

module _ (im left : Image) (l : Layout) (flying : InFlight) (t : Tree) (journals : HasItsJournals im l) (stands : StandsReplayed im t) (may : MayBeInFlight im l flying) (outcome : IsImageOutcome im flying left)
    (no_false : NoFalseHeader im l flying left) where
  replayed : Replayed im l stands.replayed
  replayed = replayed_by_any im stands.replayed l stands.layout journals stands.is

  by : StandsBy stands.replayed stands.stands.owners stands.stands.layout t
  by = record { laid = stands.stands.laid; reads = stands.stands.reads }

  -- ---- what became of each journal

  ring_outcome : (j d : ℕ) → IsJournalAt l j d → IsRingOutcome (ring_at im d) (to_journal im d flying) (ring_left im left d)
  ring_outcome j d at = record {
    size = refl;
    places = refl;
    still = λ p low free. outcome.still (content_block (every im d) p) free;
    whole = λ p bytes low flies. outcome.whole (content_block (every im d) p) bytes flies;
    either = λ p bytes low flies. no_false j d p bytes at low flies;
  }

  each : (j d : ℕ) → IsJournalAt l j d → SaysOld im left flying d ⊎ (HeaderFliesTo im d flying × SaysNew im left flying d)
  each j d at = elim (outcomes_say_one (ring_at im d) (to_journal im d flying) (ring_left im left d) (may.journals j d at) (ring_outcome j d at)) [
    | inl says ↦ inl says
    | inr new ↦ inr ((may.journals j d at, new.0), new.1)
  ]

  pub decided : (bs : List ℕ) × Decided im left flying l.journals bs
  decided = decide im left flying l.journals each

  abbrev bs : List ℕ
  bs = decided.0

  abbrev choice : Image
  choice = chosen im flying (among decided.0)

  -- ---- places of two journals are apart

  apart : (i j d e p q : ℕ) → IsJournalAt l i d → IsJournalAt l j e → p < (ring_at im d).places → q < (ring_at im e).places → content_block (every im d) p ≡ content_block (every im e) q → d ≡ e
  apart i j d e p q at at' low low' same =
      let one = row_first im l journals stands.replayed replayed stands.stands.owners stands.stands.layout t by i d p at low in
      let two = row_first im l journals stands.replayed replayed stands.stands.owners stands.stands.layout t by j e q at' low' in
      below_own d e one.0 one.1 one.2 two.0 two.1 two.2 (sym one.3 ∙ ap stands.stands.owners same ∙ two.3)

  says : (j d : ℕ) → IsJournalAt l j d → SaysAs (ring_left im left d) (ring_left im choice d)
  says j d at = says_chosen im left l flying decided.0 decided.1 apart j d at

  -- it can be read, also with the header that flies to it
  left_readable : (j d : ℕ) → IsJournalAt l j d → IsReadable (ring_left im left d)
  left_readable j d at = elim (each j d at) [
    | inl old ↦ old.readable.1 (replayed.replayable.readable j d at)
    | inr new ↦ new.1.readable.1 (may.readable j d at new.0)
  ]

  choice_readable : (j d : ℕ) → IsJournalAt l j d → IsReadable (ring_left im choice d)
  choice_readable j d at = (says j d at).readable.0 (left_readable j d at)

  -- ---- the blocks

  left_blocks : (b : ℕ) → (left.at b ≡ im.at b) ⊎ (IsPlaceIn im l b ⊎ IsLiveIn im l b)
  left_blocks b = each_flight (flying b) refl
    where
      each_flight : (x : Option (List ℕ)) → flying b ≡ x → (left.at b ≡ im.at b) ⊎ (IsPlaceIn im l b ⊎ IsLiveIn im l b)
      each_flight None e = inl (outcome.still b e)
      each_flight (Some bytes) e = elim (may.others b bytes e) [
        | inl place ↦ inr (inl place)
        | inr home ↦ inr (inr (record { journal = home.journal; dinode = home.dinode; bytes = bytes; at = home.at; live = home.live }))
      ]

  choice_blocks : (b : ℕ) → (choice.at b ≡ im.at b) ⊎ (IsPlaceIn im l b ⊎ IsLiveIn im l b)
  choice_blocks b = elim (cases_Bool (among decided.0 b)) [
    | inr off ↦ inl (chosen_old im left l flying decided.0 decided.1 apart b off)
    | inl on ↦
        let taken = taken_is im left flying l.journals decided.0 decided.1 b on in
        inr (inl (record { journal = taken.index; dinode = taken.dinode; place = taken.flies.1.place; at = taken.at; low = taken.flies.1.inside; is = taken.is }))
  ]

  first_whole : (b : ℕ) → b < im.count → IsPlaceIn im l b → length (im.at b) ≡ im.size
  first_whole = place_whole im l journals stands.replayed replayed stands.stands.owners stands.stands.layout t by

  left_whole : (b : ℕ) → b < im.count → IsPlaceIn im l b → length (left.at b) ≡ im.size
  left_whole b low place = each_flight (flying b) refl
    where
      each_flight : (x : Option (List ℕ)) → flying b ≡ x → length (left.at b) ≡ im.size
      each_flight None e = ap length (outcome.still b e) ∙ first_whole b low place
      each_flight (Some bytes) e = outcome.whole b bytes e

  choice_whole : (b : ℕ) → b < im.count → IsPlaceIn im l b → length (choice.at b) ≡ im.size
  choice_whole b low place = with_flight (flying b) refl (among decided.0 b)
    where
      with_flight : (x : Option (List ℕ)) → flying b ≡ x → (y : Bool) → length (if y then unwrap_or (flying b) (im.at b) else im.at b) ≡ im.size
      with_flight x e false = first_whole b low place
      with_flight None e true = ap (λ z. length (unwrap_or z (im.at b))) e ∙ first_whole b low place
      with_flight (Some bytes) e true = ap (λ z. length (unwrap_or z (im.at b))) e ∙ may.whole b bytes e

  -- ---- both find what the image finds

  left_finds : FindsTheSame im l left
  left_finds = finds im l journals stands.replayed replayed stands.stands.owners stands.stands.layout t by left outcome.size outcome.count left_blocks left_whole left_readable

  choice_finds : FindsTheSame im l choice
  choice_finds = finds im l journals stands.replayed replayed stands.stands.owners stands.stands.layout t by choice refl refl choice_blocks choice_whole choice_readable

  left_ring : (j d : ℕ) → IsJournalAt l j d → HasSamePlaces (ring_at left d) (ring_left im left d)
  left_ring = ring_is im l journals stands.replayed replayed stands.stands.owners stands.stands.layout t by left outcome.size outcome.count left_blocks left_whole left_readable

  choice_ring : (j d : ℕ) → IsJournalAt l j d → HasSamePlaces (ring_at choice d) (ring_left im choice d)
  choice_ring = ring_is im l journals stands.replayed replayed stands.stands.owners stands.stands.layout t by choice refl refl choice_blocks choice_whole choice_readable

  back : (j d : ℕ) → IsJournalAt l j d → HasSamePlaces (ring_left im choice d) (ring_at choice d)
  back j d at = let e = choice_ring j d at in record { size = sym e.size; places = sym e.places; blocks = λ p low. sym (e.blocks p (subst (λ n. p < n) (sym e.places) low)) }

  says_there : (j d : ℕ) → IsJournalAt l j d → SaysAs (ring_at left d) (ring_at choice d)
  says_there j d at =
      says_before (ring_left im left d) (ring_at left d) (ring_at choice d) (left_ring j d at) (says_along (ring_left im left d) (ring_left im choice d) (ring_at choice d) (back j d at) (says j d at))

  live_same : (j d b : ℕ) → IsJournalAt l j d → live_at left d b ≡ live_at choice d b
  live_same j d b at = (says_there j d at).live b

  -- ---- what goes home is live

  home_live : (b : ℕ) (bytes : List ℕ) → PutsHome im l flying b bytes → IsLiveIn left l b
  home_live b bytes home = record { journal = home.journal; dinode = home.dinode; bytes = bytes; at = home.at; live = live }
    where
      placed : live_at left home.dinode b ≡ live_in (ring_left im left home.dinode) b
      placed = same_live
        where
          same_live : live_at left home.dinode b ≡ live_in (ring_left im left home.dinode) b
          same_live = (says_the_same (ring_at left home.dinode) (ring_left im left home.dinode) (left_ring home.journal home.dinode home.at)).live b

      live : live_at left home.dinode b ≡ Some bytes
      live = placed ∙ elim (each home.journal home.dinode home.at) [
        | inl old ↦ old.live b ∙ home.live
        | inr new ↦ new.1.live b ∙ home.still_live new.0
      ]

  blocks : (b : ℕ) → (left.at b ≡ choice.at b) ⊎ (IsPlaceIn im l b ⊎ IsLiveIn left l b)
  blocks b = each_flight (flying b) refl
    where
      each_flight : (x : Option (List ℕ)) → flying b ≡ x → (left.at b ≡ choice.at b) ⊎ (IsPlaceIn im l b ⊎ IsLiveIn left l b)
      each_flight (Some bytes) e = elim (may.others b bytes e) [
        | inl place ↦ inr (inl place)
        | inr home ↦ inr (inr (home_live b bytes home))
      ]
      each_flight None e = inl (outcome.still b e ∙ sym (still (among decided.0 b)))
        where
          still : (y : Bool) → (if y then unwrap_or (flying b) (im.at b) else im.at b) ≡ im.at b
          still true = ap (λ z. unwrap_or z (im.at b)) e
          still false = refl

  live_on : (b : ℕ) → IsLiveIn left l b → IsLiveIn choice l b
  live_on b is = record { journal = is.journal; dinode = is.dinode; bytes = is.bytes; at = is.at; live = sym (live_same is.journal is.dinode b is.at) ∙ is.live }

  blocks_forth : (b : ℕ) → (left.at b ≡ choice.at b) ⊎ (IsPlaceIn im l b ⊎ IsLiveIn choice l b)
  blocks_forth b = elim (blocks b) [ inl same ↦ inl same | inr (inl place) ↦ inr (inl place) | inr (inr live) ↦ inr (inr (live_on b live)) ]

  blocks_back : (b : ℕ) → (choice.at b ≡ left.at b) ⊎ (IsPlaceIn im l b ⊎ IsLiveIn left l b)
  blocks_back b = elim (blocks b) [ inl same ↦ inl (sym same) | inr other ↦ inr other ]

  -- ---- the law

  pub says_as_chosen : SaysAsChosen im l left choice
  says_as_chosen = record {
    journals = left_finds.journals;
    says = says_there;
    blocks = blocks;
    replayed = replayed_there im l left choice left_finds choice_finds (λ j d b at. inl (live_same j d b at)) (λ j d at. (says_there j d at).readable.1) blocks_forth;
    only = λ r' is. let its = replayed_there im l choice left choice_finds left_finds (λ j d b at. inl (sym (live_same j d b at))) (λ j d at. (says_there j d at).readable.0) blocks_back r' is in
        (its.0, its.1, record { size = sym its.2.size; count = sym its.2.count; blocks = λ c. elim (its.2.blocks c) [ inl same ↦ inl (sym same) | inr place ↦ inr place ] });
    stands = stands_too im l left choice left_finds choice_finds (λ j d b at. inl (live_same j d b at)) (λ j d at. (says_there j d at).readable.1) blocks_forth left_whole;
  }

pub outcomes_are_chosen : OutcomesAreChosen
outcomes_are_chosen im left l flying t journals stands may outcome no_false =
    let its = decided im left l flying t journals stands may outcome no_false in (
      among its.0,
      is_choice im left l flying its.0 its.1 (apart im left l flying t journals stands may outcome no_false),
      says_as_chosen im left l flying t journals stands may outcome no_false,
    )
