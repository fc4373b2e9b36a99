-- What is in flight to the disk of a node: blocks of a flush, each of which may be there.
use Rattle.std.proofs.Common.{◌≡◌, ◌⊎◌, ℕ, ◌<◌, inl, inr, List, length, None, Some, sym, subst, ◌∙◌}
use Rattle.cluster_laws.specs.Mirror.{Disk}
use Rattle.cluster_laws.specs.Rings.{Rings}
use Rattle.image_disks.specs.Disks.{IsDiskOf}
use Rattle.image_disks.proofs.Finding.{place_or_not}
use Rattle.image_machine.specs.Volumes.{IsPlace, Volume}
use Rattle.image_model.specs.Image.{Image}
use Rattle.image_model.specs.Stands.{IsJournalAt}
use Rattle.image_model.proofs.Held.{none_some}
use Rattle.journal_outcomes.specs.Images.{HeaderFliesTo, IsPlaceIn, PutsHome, ring_at, to_journal}
use Rattle.journal_outcomes.specs.Rings.{HeaderFlies, InFlight, MayFly}
use Rattle.log_layout.specs.Journal.{Ring, head_in}
use Rattle.log_layout.specs.declared.log_header.LogHeader.{LogHeader}
use Rattle.log_rings.specs.Flights.{MayFlyTo}
use Rattle.lone_logs.specs.States.{trees_on}

-- ---- to one journal

-- what flies to a journal are blocks of a transaction that may
abbrev pub OnlyBlocksFly : Ring → LogHeader → InFlight → Type 0
OnlyBlocksFly ring head flying = (p : ℕ) (bytes : List ℕ) → p < ring.places → flying p ≡ Some bytes → MayFlyTo ring head p bytes

pub blocks_may_fly : (ring : Ring) (head : LogHeader) (flying : InFlight) → head_in ring ≡ Some head → OnlyBlocksFly ring head flying → MayFly ring flying
blocks_may_fly ring head flying headed only = record {
  head = head;
  headed = headed;
  writes = inl (record { free = λ p bytes low e. (only p bytes low e).free; no_header = λ p bytes low e. (only p bytes low e).no_header });
}

pub no_header_among_blocks : (ring : Ring) (head other : LogHeader) (flying : InFlight) → OnlyBlocksFly ring head flying → HeaderFlies ring other flying → ⊥
no_header_among_blocks ring head other flying only flies = none_some (sym (only flies.place flies.bytes flies.inside flies.flies).no_header ∙ flies.reads)

-- nothing is such
pub none_are_blocks : (ring : Ring) (head : LogHeader) (flying : InFlight) → ((p : ℕ) → p < ring.places → flying p ≡ None) → OnlyBlocksFly ring head flying
none_are_blocks ring head flying none p bytes low e = absurd (none_some (sym (none p low) ∙ e))

-- ---- places of journals

module _ (v : Volume) (d : Disk (trees_on v)) (rings : Rings (trees_on v) d) (im : Image) (flying : InFlight) (is : IsDiskOf v d rings im flying) where
  pub place_in : (b : ℕ) → IsPlace v b → IsPlaceIn im v.layout b
  place_in b p = record {
    journal = p.journal;
    dinode = p.dinode;
    place = p.place;
    at = p.at;
    low = subst (λ n. p.place < n) (sym (is.many p.journal p.dinode p.at)) p.low;
    is = is.there p.journal p.dinode p.place p.at p.low ∙ p.is;
  }

  pub place_out : (b : ℕ) → IsPlaceIn im v.layout b → IsPlace v b
  place_out b p = (let low : p.place < v.places p.dinode = subst (λ n. p.place < n) (is.many p.journal p.dinode p.at) p.low in record {
    journal = p.journal;
    dinode = p.dinode;
    place = p.place;
    at = p.at;
    low = low;
    is = sym (is.there p.journal p.dinode p.place p.at low) ∙ p.is;
  })

-- ---- to the disk

module _ (v : Volume) (d : Disk (trees_on v)) (rings : Rings (trees_on v) d) (im : Image) (flying flying' : InFlight) (is : IsDiskOf v d rings im flying)
    (off : (b : ℕ) → (IsPlace v b → ⊥) → flying' b ≡ flying b)
    (journals : (j k : ℕ) → IsJournalAt v.layout j k → (head : LogHeader) × (head_in (ring_at im k) ≡ Some head) × OnlyBlocksFly (ring_at im k) head (to_journal im k flying'))
    (whole : (b : ℕ) (bytes : List ℕ) → flying' b ≡ Some bytes → length bytes ≡ im.size) where
  pub no_header : (j k : ℕ) → IsJournalAt v.layout j k → HeaderFliesTo im k flying' → ⊥
  no_header j k at flies = (let its = journals j k at in no_header_among_blocks (ring_at im k) its.0 flies.0.head (to_journal im k flying') its.2 flies.1)

  others : (b : ℕ) (bytes : List ℕ) → flying' b ≡ Some bytes → IsPlaceIn im v.layout b ⊎ PutsHome im v.layout flying' b bytes
  others b bytes e = elim (place_or_not v b) [
    | inl place ↦ inl (place_in v d rings im flying is b place)
    | inr not ↦ elim (is.may.others b bytes (sym (off b not) ∙ e)) [
      | inl place ↦ absurd (not (place_out v d rings im flying is b place))
      | inr home ↦ inr (record { journal = home.journal; dinode = home.dinode; at = home.at; live = home.live; still_live = λ flies. absurd (no_header home.journal home.dinode home.at flies) })
    ]
  ]

  -- with other blocks in flight to journals, and no header, the machine's disk is still this
  pub still_disk : IsDiskOf v d rings im flying'
  still_disk = record {
    has = is.has;
    journals = is.journals;
    many = is.many;
    there = is.there;
    readable = is.readable;
    may = record {
      journals = λ j k at. (let its = journals j k at in blocks_may_fly (ring_at im k) its.0 (to_journal im k flying') its.1 its.2);
      readable = λ j k at flies. absurd (no_header j k at flies);
      others = others;
      whole = whole;
    };
    blocks = is.blocks;
    flights = λ b bytes not e. is.flights b bytes not (sym (off b not) ∙ e);
    old = is.old;
    new = λ j k b at flies. absurd (no_header j k at flies);
    none = is.none;
    inside = is.inside;
    whole = is.whole;
  }
