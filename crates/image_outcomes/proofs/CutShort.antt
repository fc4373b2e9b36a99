-- What a replay leaves that was cut short.
use Rattle.std.proofs.Common.{ℕ, ◌<◌, refl, sym, subst, ◌∙◌, inl, inr}
use Rattle.file_tree.specs.Tree.{Tree}
use Rattle.image_changes.specs.Instances.{StandsBy}
use Rattle.image_model.specs.Image.{Image}
use Rattle.image_model.specs.Replays.{HasItsJournals, Replayed, StandsReplayed}
use Rattle.image_model.specs.Stands.{IsJournalAt, Layout}
use Rattle.image_model.proofs.Replaying.{replayed_by_any}
use Rattle.journal_outcomes.specs.Images.{ring_at}
use Rattle.log_layout.specs.Laws.{HasSamePlaces, SaysTheSame}
use Rattle.log_layout.specs.Live.{IsReadable}
use Rattle.log_layout.proofs.SamePlaces.{nothing_live, says_the_same}
use Rattle.image_outcomes.specs.CutShort.{CutReplaysStand, IsCutShort, ring_left}
use Rattle.image_outcomes.proofs.Found.{FindsTheSame, finds, ring_is}
use Rattle.image_outcomes.proofs.Replays.{IsLiveOrHome, stands_too}

module _ (im left : Image) (l : Layout) (t : Tree) (journals : HasItsJournals im l) (stands : StandsReplayed im t) (cut : IsCutShort im l left) where
  replayed : Replayed im l stands.replayed
  replayed = replayed_by_any im stands.replayed l stands.layout journals stands.is

  by : StandsBy stands.replayed stands.stands.owners stands.stands.layout t
  by = record { laid = stands.stands.laid; reads = stands.stands.reads }

  readable : (j d : ℕ) → IsJournalAt l j d → IsReadable (ring_left im left d)
  readable j d at = elim (cut.journals j d at) [
    | inl says ↦ says.readable.1 (replayed.replayable.readable j d at)
    | inr through ↦ (nothing_live (ring_left im left d) through.clean).readable
  ]

  pub its : FindsTheSame im l left
  its = finds im l journals stands.replayed replayed stands.stands.owners stands.stands.layout t by left cut.size cut.count cut.blocks cut.whole readable

  -- the image finds what it finds
  own : FindsTheSame im l im
  own = record {
    size = refl;
    count = refl;
    journals = journals;
    groups = λ r. (λ is. is, λ is. is);
    system = λ b. (λ is. is, λ is. is);
    many = λ j d at. refl;
    place = λ j d p at low. refl;
  }

  rings : (j d : ℕ) → IsJournalAt l j d → SaysTheSame (ring_at left d) (ring_left im left d)
  rings j d at =
      says_the_same (ring_at left d) (ring_left im left d)
      (ring_is im l journals stands.replayed replayed stands.stands.owners stands.stands.layout t by left cut.size cut.count cut.blocks cut.whole readable j d at)

  readable_there : (j d : ℕ) → IsJournalAt l j d → IsReadable (ring_at left d)
  readable_there j d at = (says_the_same (ring_left im left d) (ring_at left d) (back (ring_is im l journals stands.replayed replayed stands.stands.owners stands.stands.layout t by left cut.size cut.count cut.blocks cut.whole readable j d at))).readable (readable j d at)
    where
      back : HasSamePlaces (ring_at left d) (ring_left im left d) → HasSamePlaces (ring_left im left d) (ring_at left d)
      back e = record { size = sym e.size; places = sym e.places; blocks = λ p low. sym (e.blocks p (subst (λ n. p < n) (sym e.places) low)) }

  live_or_home : (j d b : ℕ) → IsJournalAt l j d → IsLiveOrHome left im d b
  live_or_home j d b at = elim (cut.journals j d at) [
    | inl says ↦ inl ((rings j d at).live b ∙ says.live b)
    | inr through ↦ inr ((rings j d at).live b ∙ (nothing_live (ring_left im left d) through.clean).none b, through.home b)
  ]

  pub cut_stands : HasItsJournals left l × StandsReplayed left t
  cut_stands = (its.journals, stands_too im l left im its own live_or_home (λ j d at is. readable_there j d at) cut.blocks cut.whole t stands)

pub cut_replays_stand : CutReplaysStand
cut_replays_stand im left l t journals stands cut = cut_stands im left l t journals stands cut
