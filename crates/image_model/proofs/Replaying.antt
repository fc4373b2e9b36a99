-- There is at most one replayed image, and an image whose journals are clean is its own.
use Rattle.std.proofs.Common.{◌≡◌, ◌<◌, ◌≤◌, ◌⊎◌, inl, inr, ℕ, zero, suc, List, [], ◌∷◌, length, Option, None, Some, refl, sym, subst, ◌∙◌, ap, arith}
use Rattle.std.specs.Prelude.{codes, get_or, slice_get}
use Rattle.std.proofs.lemmas.Bool.{cases_lt}
use Rattle.std.proofs.lemmas.Option.{slice_get-get_or, slice_get_within}
use Rattle.log_layout.proofs.SamePlaces.{nothing_live}
use Rattle.image_model.specs.Image.{Image}
use Rattle.image_model.specs.Laws.{CleanImagesStand, CleanImagesStay, OneReplay, OneReplayedTree, OneTree, ReplayedByAny, ReplayedIsThere}
use Rattle.image_model.specs.Replays.{HasItsJournals, IsLiveInBoth, MayChange, live_at}
use Rattle.image_model.specs.Claims.{HasJournal, IsJindex, LeadsTo}
use Rattle.image_model.specs.Journals.{journal_name}
use Rattle.image_model.specs.Owners.{Owners}
use Rattle.image_model.specs.Stands.{IsJournalAt, IsLaid, Layout, Stands, flat_of}
use Rattle.image_model.proofs.Facts.{child_leads, jindex_is, leads_child_of}
use Rattle.image_model.proofs.Held.{none_some, some_same}

-- a block that is live in one of these journals
record IsLiveIn (im : Image) (ds : List ℕ) (block : ℕ) : Type 0 where
  journal : ℕ
  dinode : ℕ
  bytes : List ℕ
  there : slice_get ds journal ≡ Some dinode
  live : live_at im dinode block ≡ Some bytes

some_or_none : (o : Option (List ℕ)) → ((bytes : List ℕ) × (o ≡ Some bytes)) ⊎ (o ≡ None)
some_or_none None = inr refl
some_or_none (Some bytes) = inl (bytes, refl)

live_or_not : (im : Image) (ds : List ℕ) (block : ℕ) → IsLiveIn im ds block ⊎ ((j d : ℕ) → slice_get ds j ≡ Some d → live_at im d block ≡ None)
live_or_not im [] block = inr (λ j d at. cc)
live_or_not im (c ∷ ds) block = elim (some_or_none (live_at im c block)) [
  | inl is ↦ inl (record { journal = 0; dinode = c; bytes = is.0; there = refl; live = is.1 })
  | inr none ↦ elim (live_or_not im ds block) [
    | inl more ↦ inl (record { journal = suc more.journal; dinode = more.dinode; bytes = more.bytes; there = more.there; live = more.live })
    | inr nowhere ↦ inr (each none nowhere)
  ]
]
  where
    each : live_at im c block ≡ None → ((j d : ℕ) → slice_get ds j ≡ Some d → live_at im d block ≡ None) → (j d : ℕ) → slice_get (c ∷ ds) j ≡ Some d → live_at im d block ≡ None
    each none nowhere zero d at = let same : c ≡ d = some_same at in subst (λ n. live_at im n block ≡ None) same none
    each none nowhere (suc j) d at = nowhere j d at

-- ---- the journals of an image are the same, whatever layout has them

module _ (im : Image) (l m : Layout) (one : HasItsJournals im l) (other : HasItsJournals im m) where
  -- one journal more in the first would be one of the second
  no_more : length m.journals < length l.journals → ⊥
  no_more low =
      let d = get_or l.journals (length m.journals) 0 in
      let there = other.all (length m.journals) d (one.there (length m.journals) d (slice_get-get_or l.journals (length m.journals) 0 low)) (omega arith) in
      let below = slice_get_within m.journals (length m.journals) d there in
      omega (arith, below)

  pub same_journals : (j d : ℕ) → IsJournalAt l j d → IsJournalAt m j d
  same_journals j d at =
      other.all j d (one.there j d at) (elim (cases_lt (length m.journals) (length l.journals)) [
        | inl less ↦ absurd (no_more less)
        | inr more ↦ let low = slice_get_within l.journals j d at in omega (arith, low, more)
      ])

pub one_replay : OneReplay
one_replay im a b l m first second = λ i. record { size = (first.size ∙ sym second.size) i; count = (first.count ∙ sym second.count) i; at = λ block. same block i }
  where
    there : (j d : ℕ) → IsJournalAt l j d → IsJournalAt m j d
    there = same_journals im l m first.replayable.journals second.replayable.journals

    back : (j d : ℕ) → IsJournalAt m j d → IsJournalAt l j d
    back = same_journals im m l second.replayable.journals first.replayable.journals

    same : (block : ℕ) → a.at block ≡ b.at block
    same block = elim (live_or_not im l.journals block) [
      | inl is ↦ first.live is.journal is.dinode block is.bytes is.there is.live ∙ sym (second.live is.journal is.dinode block is.bytes (there is.journal is.dinode is.there) is.live)
      | inr none ↦ first.others block none ∙ sym (second.others block (λ j d at. none j d (back j d at)))
    ]

pub replayed_by_any : ReplayedByAny
replayed_by_any im replayed l m journals is = record {
  replayable = record {
    journals = journals;
    readable = λ j d at. is.replayable.readable j d (there j d at);
    once = λ i j block both. is.replayable.once i j block (record {
      first = both.first;
      second = both.second;
      first_at = there i both.first both.first_at;
      second_at = there j both.second both.second_at;
      one = both.one;
      other = both.other;
      one_live = both.one_live;
      other_live = both.other_live;
    });
    inside = λ j d block bytes at live. may_change block (is.replayable.inside j d block bytes (there j d at) live);
  };
  size = is.size;
  count = is.count;
  live = λ j d block bytes at live. is.live j d block bytes (there j d at) live;
  others = λ block none. is.others block (λ j d at. none j d (back j d at));
}
  where
    there : (j d : ℕ) → IsJournalAt l j d → IsJournalAt m j d
    there = same_journals im l m journals is.replayable.journals

    back : (j d : ℕ) → IsJournalAt m j d → IsJournalAt l j d
    back = same_journals im m l is.replayable.journals journals

    may_change : (block : ℕ) → MayChange im m block → MayChange im l block
    may_change block may = record { there = may.there; group = may.group; no_place = λ j d p at low. may.no_place j d p (there j d at) low; apart = may.apart }

pub replayed_is_there : ReplayedIsThere
replayed_is_there im l may = (
  there,
  record {
    replayable = may;
    size = refl;
    count = refl;
    live = λ j d block bytes at live. taken block j d bytes at live (live_or_not im l.journals block);
    others = λ block none. left block none (live_or_not im l.journals block);
  },
)
  where
    put : (block : ℕ) → IsLiveIn im l.journals block ⊎ ((j d : ℕ) → slice_get l.journals j ≡ Some d → live_at im d block ≡ None) → List ℕ
    put block (inl is) = is.bytes
    put block (inr none) = im.at block

    there : Image
    there = record { size = im.size; count = im.count; at = λ block. put block (live_or_not im l.journals block) }

    taken : (block j d : ℕ) (bytes : List ℕ) → IsJournalAt l j d → live_at im d block ≡ Some bytes
        → (known : IsLiveIn im l.journals block ⊎ ((j d : ℕ) → slice_get l.journals j ≡ Some d → live_at im d block ≡ None)) → put block known ≡ bytes
    taken block j d bytes at live (inr none) = absurd (none_some (sym (none j d at) ∙ live))
    taken block j d bytes at live (inl is) = some_same (sym is.live ∙ ap (λ n. live_at im n block) same_dinode ∙ live)
      where
        both : IsLiveInBoth im l is.journal j block
        both = record { first = is.dinode; second = d; first_at = is.there; second_at = at; one = is.bytes; other = bytes; one_live = is.live; other_live = live }

        same_dinode : is.dinode ≡ d
        same_dinode = some_same (sym is.there ∙ ap (λ n. slice_get l.journals n) (may.once is.journal j block both) ∙ at)

    left : (block : ℕ) → ((j d : ℕ) → IsJournalAt l j d → live_at im d block ≡ None)
        → (known : IsLiveIn im l.journals block ⊎ ((j d : ℕ) → slice_get l.journals j ≡ Some d → live_at im d block ≡ None)) → put block known ≡ im.at block
    left block none (inr nowhere) = refl
    left block none (inl is) = absurd (none_some (sym (none is.journal is.dinode is.there) ∙ is.live))

pub clean_stay : CleanImagesStay
clean_stay im l journals clean = record {
  replayable = record {
    journals = journals;
    readable = λ j d at. (nothing_live _ (clean j d at)).readable;
    once = λ i j block both. absurd (nothing i both.first block both.one both.first_at both.one_live);
    inside = λ j d block bytes at live. absurd (nothing j d block bytes at live);
  };
  size = refl;
  count = refl;
  live = λ j d block bytes at live. absurd (nothing j d block bytes at live);
  others = λ block none. refl;
}
  where
    nothing : (j d block : ℕ) (bytes : List ℕ) → IsJournalAt l j d → live_at im d block ≡ Some bytes → ⊥
    nothing j d block bytes at live = none_some (sym ((nothing_live _ (clean j d at)).none block) ∙ live)

-- an image that stands has the journals of its layout
pub journals_of_standing : (im : Image) (o : Owners) (l : Layout) → IsLaid im o l → HasItsJournals im l
journals_of_standing im o l laid = record { there = there; all = all }
  where
    of_master : (d : ℕ) → LeadsTo im l.master (codes "jindex") d → IsJindex im d
    of_master d way = subst (λ a. LeadsTo im a (codes "jindex") d) (sym laid.super.master) way

    there : (j d : ℕ) → IsJournalAt l j d → HasJournal im j d
    there j d at =
        let way = child_leads im o l laid l.master (codes "jindex") l.jindex laid.system.jindex in
        (l.jindex, of_master l.jindex way, child_leads im o l laid l.jindex (journal_name j) d (laid.system.journals j d at))

    all : (j d : ℕ) → HasJournal im j d → j ≤ length l.journals → IsJournalAt l j d
    all j d has most = elim (cases_lt j (length l.journals)) [
      | inl low ↦
          let at = slice_get-get_or l.journals j 0 low in
          let same : get_or l.journals j 0 ≡ d = some_same (sym (laid.system.journals j (get_or l.journals j 0) at) ∙ child) in
          at ∙ ap Some same
      | inr high ↦
          let last : length l.journals ≡ j = omega (arith, most, high) in
          absurd (none_some (sym (ap (λ n. (flat_of im o l.jindex).child (journal_name n)) (sym last) ∙ laid.system.last) ∙ child))
    ]
      where
        child : (flat_of im o l.jindex).child (journal_name j) ≡ Some d
        child = leads_child_of im o l laid l.jindex (journal_name j) d (subst (λ a. LeadsTo im a (journal_name j) d) (jindex_is im o l laid has.0 has.1) has.2)

pub clean_stand : CleanImagesStand
clean_stand im t s clean = record {
  layout = s.layout;
  replayed = im;
  is = clean_stay im s.layout (journals_of_standing im s.owners s.layout s.laid) clean;
  stands = s;
}

pub one_replayed_tree : OneTree → OneReplayedTree
one_replayed_tree one im t u first second =
    one second.replayed t u (subst (λ r. Stands r t) (one_replay im first.replayed second.replayed first.layout second.layout first.is second.is) first.stands) second.stands
