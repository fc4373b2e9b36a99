-- Which of a journal's transactions a new tail leaves, and what is live of them.
use Rattle.std.proofs.Common.{◌≡◌, ◌≢◌, ◌+◌, ◌-◌, ◌<◌, ◌≤◌, ◌++◌, ℕ, Bool, true, false, List, [], ◌∷◌, Option, None, Some, Result, Ok, refl, sym, ap, subst, ◌∙◌, inl, inr, arith}
use Rattle.std.specs.Prelude.{◌⊎◌, nat_lt}
use Rattle.std.specs.FinMap as table
use Rattle.std.proofs.lemmas.Bool.Decides.{nat_tests}
use Rattle.log_layout.specs.Chunks.{nothing}
use Rattle.log_layout.specs.Journal.{Ring, blocks_from, next, way}
use Rattle.log_layout.specs.Live.{live_entry}
use Rattle.log_layout.specs.Transactions.{reading}
use Rattle.node_journal.specs.Places.{place_on}
use Rattle.written_journals.proofs.RingsWritten.{next_of, on_inside, place_further, way_back, way_on}
use Rattle.log_values.specs.Log.{Entry, LogValue}
use Rattle.log_values.specs.Flushing.{behind_tail, first_place}
use Rattle.log_values.specs.Sound.{IsSoundLog, used}
use Rattle.log_rings.specs.Laid.{AreLaid, IsEntryOf, IsRingOf, Laid, SequencesRise, places_of, sequenced_all}
use Rattle.log_rings.proofs.Cancelling.{none_laid, rise_behind}
use Rattle.log_rings.proofs.Pieces.{laid_alone, laid_behind, laid_read, last_laid, places-append}
use Rattle.log_rings.proofs.Splitting.{AllSome, IsParted, all_some, later, parted, some_behind, sooner}

module _ (ring : Ring) (log : LogValue) (laid : List Laid) (sound : IsSoundLog log) (of : IsRingOf ring log laid) (begun : log.clean ≡ false) where
  abbrev n : ℕ
  n = ring.places

  same : n ≡ log.journal.length
  same = of.places

  tail_in : log.tail < n
  tail_in = subst (λ m. log.tail < m) (sym same) sound.tail

  head_in : log.head < n
  head_in = subst (λ m. log.head < m) (sym same) sound.head

  used_is : way n log.tail log.head ≡ used log
  used_is = ap (λ m. way m log.tail log.head) same

  some_free : used log + 2 ≤ n
  some_free = omega (arith, sound.free, same)

  all : places_of laid ≡ used log + 1
  all = of.whole begun ∙ ap (λ m. m + 1) used_is

  are : AreLaid ring log.tail None laid (next n log.head)
  are = of.are begun

  -- those behind some begin so many places behind the tail
  pub begins_at : (before : List Laid) (t : Laid) (ts : List Laid) → laid ≡ before ++ t ∷ ts → (t.first ≡ place_on n log.tail (places_of before)) × (places_of before < used log + 1)
  begins_at before t ts parts =
      let here = laid_behind ring log.tail None before (t ∷ ts) (next n log.head) (subst (λ xs. AreLaid ring log.tail None xs (next n log.head)) parts are) in
      let sum : places_of before + (t.count + places_of ts) ≡ used log + 1 = sym (places-append before (t ∷ ts)) ∙ ap places_of (sym parts) ∙ all in
      let some : 1 ≤ t.count = here.1 in
      (here.0, omega (arith, sum, some))

  pub far_is : (before : List Laid) (t : Laid) (ts : List Laid) → laid ≡ before ++ t ∷ ts → behind_tail log t.first ≡ places_of before
  far_is before t ts parts =
      let at = begins_at before t ts parts in
      let few : places_of before < n = omega (arith, at.1, some_free) in
      ap (λ m. way m log.tail t.first) (sym same) ∙ ap (way n log.tail) at.0 ∙ way_back n log.tail (places_of before) tail_in few

  -- what is kept from so many places on
  pub record IsKept (from : ℕ) (dropped kept : List Laid) : Type 0 where
    pub parts : laid ≡ dropped ++ kept
    pub inside : from < n
    pub far : behind_tail log from ≡ places_of dropped
    pub are : AreLaid ring from None kept (first_place log)
    pub read : reading ring.size [] None nothing (blocks_from ring from (places_of kept)) ≡ Ok (sequenced_all kept)
    pub reaches : place_on n from (places_of kept) ≡ first_place log
    pub count : places_of dropped + places_of kept ≡ used log + 1

  first_is : next n log.head ≡ first_place log
  first_is = ap (λ m. next m log.head) same

  ends_at : (p : ℕ) (last : Option ℕ) (ts : List Laid) (q : ℕ) → AreLaid ring p last ts q → place_on n p (places_of ts) ≡ q
  ends_at p last [] q is = is
  ends_at p last (t ∷ ts) q is = sym (place_further n p t.count (places_of ts)) ∙ ends_at (place_on n p t.count) (Some t.sequenced.sequence) ts q is.3

  -- from one of them on
  pub kept_from : (before : List Laid) (t : Laid) (ts : List Laid) → laid ≡ before ++ t ∷ ts → IsKept t.first before (t ∷ ts)
  kept_from before t ts parts =
      let at = begins_at before t ts parts in
      let there = laid_behind ring log.tail None before (t ∷ ts) (next n log.head) (subst (λ xs. AreLaid ring log.tail None xs (next n log.head)) parts are) in
      let alone = laid_alone ring (place_on n log.tail (places_of before)) (last_laid None before) (t ∷ ts) (next n log.head) there in
      let here : AreLaid ring t.first None (t ∷ ts) (first_place log)
      = subst (AreLaid ring t.first None (t ∷ ts)) first_is (subst (λ p. AreLaid ring p None (t ∷ ts) (next n log.head)) (sym at.0) alone) in record {
        parts = parts;
        inside = subst (λ p. p < n) (sym at.0) (on_inside n log.tail (places_of before) tail_in (omega (arith, at.1, some_free)));
        far = far_is before t ts parts;
        are = here;
        read = laid_read ring t.first None (t ∷ ts) (first_place log) here;
        reaches = ends_at t.first None (t ∷ ts) (first_place log) here;
        count = sym (places-append before (t ∷ ts)) ∙ ap places_of (sym parts) ∙ all;
      }

  -- of no one any more
  pub kept_none : IsKept (first_place log) laid []
  kept_none =
      let to : place_on n log.tail (used log) ≡ log.head = ap (place_on n log.tail) (sym used_is) ∙ way_on n log.tail log.head tail_in head_in in
      let at : place_on n log.tail (used log + 1) ≡ first_place log = sym (next_of n log.tail (used log)) ∙ ap (next n) to ∙ first_is in
      let few : used log + 1 < n = omega (arith, some_free) in record {
        parts = no_more laid;
        inside = subst (λ p. p < n) at (on_inside n log.tail (used log + 1) tail_in few);
        far = ap (λ m. way m log.tail (first_place log)) (sym same) ∙ ap (way n log.tail) (sym at) ∙ way_back n log.tail (used log + 1) tail_in few ∙ sym all;
        are = refl;
        read = laid_read ring (first_place log) None [] (first_place log) refl;
        reaches = refl;
        count = (let e : places_of laid + 0 ≡ used log + 1 = omega (arith, all) in e);
      }
    where
      no_more : (xs : List Laid) → xs ≡ xs ++ []
      no_more [] = refl
      no_more (x ∷ xs) = ap (λ ys. x ∷ ys) (no_more xs)

  -- what is live of a block of what is kept: nothing, where its entry begins before that; else what was
  pub stays : (from : ℕ) (dropped kept : List Laid) → IsKept from dropped kept → (b : ℕ) (e : Entry) → IsEntryOf laid b e
      → ((nat_lt (behind_tail log e.first) (behind_tail log from) ≡ true) × (live_entry (sequenced_all kept) b ≡ None)) ⊎ ((nat_lt (behind_tail log e.first) (behind_tail log from) ≡ false) × IsEntryOf kept b e)
  stays from dropped kept is b e entry = by (parted entry.before (entry.its ∷ entry.behind) dropped kept (sym entry.parts ∙ is.parts))
    where
      here : behind_tail log e.first ≡ places_of entry.before
      here = ap (behind_tail log) (sym entry.begins) ∙ far_is entry.before entry.its entry.behind entry.parts

      rise : SequencesRise (entry.its ∷ entry.behind)
      rise = rise_behind entry.before (entry.its ∷ entry.behind) (subst SequencesRise entry.parts of.rise)

      some : AllSome laid
      some = all_some ring log.tail None laid (next n log.head) are

      by : IsParted entry.before (entry.its ∷ entry.behind) dropped kept
          → ((nat_lt (behind_tail log e.first) (behind_tail log from) ≡ true) × (live_entry (sequenced_all kept) b ≡ None)) ⊎ ((nat_lt (behind_tail log e.first) (behind_tail log from) ≡ false) × IsEntryOf kept b e)
      by (sooner t rest one two) =
          let first : entry.its ≡ t = cc in
          let behind : entry.behind ≡ rest ++ kept = cc in
          let counted : 1 ≤ t.count = (some_behind entry.before (t ∷ (rest ++ kept)) (subst AllSome (entry.parts ∙ ap (λ xs. entry.before ++ xs) two) some)).0 in
          let sum : places_of dropped ≡ places_of entry.before + (t.count + places_of rest) = ap places_of one ∙ places-append entry.before (t ∷ rest) in
          let less : places_of entry.before < places_of dropped = omega (arith, counted, sum) in
          let nearer : behind_tail log e.first < behind_tail log from = omega (arith, here, is.far, less) in
          inl ((grind (arith, nat_tests, nearer)), none_laid rest kept b (subst SequencesRise behind rise.1) (subst (λ xs. live_entry (sequenced_all xs) b ≡ None) behind entry.last))
      by (later rest one two) =
          let sum : places_of entry.before ≡ places_of dropped + places_of rest = ap places_of one ∙ places-append dropped rest in
          let further : behind_tail log from ≤ behind_tail log e.first = omega (arith, here, is.far, sum) in
          inr (
            (grind (arith, nat_tests, further)),
            record {
              copy = entry.copy;
              before = rest;
              its = entry.its;
              behind = entry.behind;
              parts = two;
              begins = entry.begins;
              live = entry.live;
              last = entry.last;
              content = entry.content;
            },
          )
