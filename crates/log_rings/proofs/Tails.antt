-- What a journal's log tells of it: what is read, and what a new tail leaves.
use Rattle.std.proofs.Common.{◌≡◌, ◌≢◌, ◌+◌, ◌-◌, ◌<◌, ◌≤◌, ◌++◌, ℕ, zero, suc, Bool, true, false, List, [], ◌∷◌, length, Option, None, Some, Result, Ok, Err, refl, sym, ap, subst, ◌∙◌, inl, inr, arith, true≢false}
use Rattle.std.specs.Prelude.{◌⊎◌, ◌==◌, ◌||◌, nat_le, nat_lt}
use Rattle.std.specs.FinMap as table
use Rattle.std.proofs.lemmas.Bool.{cases_Bool, cond-true, cond-false}
use Rattle.std.proofs.lemmas.Bool.Decides.{nat_tests}
use Rattle.log_layout.specs.Chunks.{nothing}
use Rattle.log_layout.specs.Journal.{Ring, blocks_from, head_in, next, tail_of, way}
use Rattle.log_layout.specs.Live.{IsReadable, live_entry, live_in, live_of, live_read, live_under}
use Rattle.log_layout.specs.Transactions.{reading, transactions_of}
use Rattle.log_layout.specs.declared.log_header.LogHeader.{LogHeader}
use Rattle.node_journal.specs.Places.{place_on}
use Rattle.written_journals.proofs.RingsWritten.{next_of, on_apart, way_on}
use Rattle.log_values.specs.Log.{Entry, Flush, LogValue}
use Rattle.log_tables.specs.Kept.{is_home}
use Rattle.log_values.specs.Flushing.{AllAreHome, IsTail, behind_tail, first_place, head_place}
use Rattle.log_values.specs.Flushing.IsTail.{of_itself, of_none, of_oldest}
use Rattle.log_values.specs.Sound.{IsSoundLog, used}
use Rattle.log_rings.specs.Laid.{AreLaid, IsEntryOf, IsLiveAs, IsRingOf, Laid, places_of, sequenced_all}
use Rattle.log_rings.proofs.Cancelling.{none_laid}
use Rattle.log_rings.proofs.Landing.{read_from_tail}
use Rattle.log_rings.proofs.Pieces.{laid_read}
use Rattle.log_rings.proofs.Staying.{IsKept, kept_from, kept_none, stays}

pub no_parts : {A : Type 0} (before ts : List A) (t : A) → ◌≡◌ {A = List A} [] (before ++ t ∷ ts) → ⊥
no_parts [] ts t e = cc
no_parts (x ∷ before) ts t e = cc

module _ (ring : Ring) (log : LogValue) (laid : List Laid) (sound : IsSoundLog log) (of : IsRingOf ring log laid) where
  abbrev n : ℕ
  n = ring.places

  pub tail_inside : log.tail < n
  tail_inside = subst (λ m. log.tail < m) (sym of.places) sound.tail

  head_inside : log.head < n
  head_inside = subst (λ m. log.head < m) (sym of.places) sound.head

  used_is : way n log.tail log.head ≡ used log
  used_is = ap (λ m. way m log.tail log.head) of.places

  free : used log + 2 ≤ n
  free = let some = sound.free in let same = of.places in omega (arith, some, same)

  -- ---- what is read

  pub tail_is : log.clean ≡ false → of.head.tail ≡ log.tail
  tail_is begun = sym (cond-false of.head.clean of.head.blkno of.head.tail (of.clean ∙ begun)) ∙ of.tail

  -- the place behind the head is none of the tail's
  off_tail : log.clean ≡ false → of.head.tail ≢ next n of.head.blkno
  off_tail begun e =
      let head_at : place_on n log.tail (used log) ≡ log.head = ap (place_on n log.tail) (sym used_is) ∙ way_on n log.tail log.head tail_inside head_inside in
      let at : place_on n log.tail (used log + 1) ≡ place_on n log.tail 0 = sym (next_of n log.tail (used log)) ∙ ap (next n) (head_at ∙ sym of.place) ∙ sym e ∙ tail_is begun in
      let same : used log + 1 ≡ 0 = on_apart n log.tail (used log + 1) 0 tail_inside (omega (arith, free)) (omega (arith, free)) at in
      omega (arith, same)

  pub transactions : transactions_of ring of.head ≡ Ok (sequenced_all laid)
  transactions = elim (cases_Bool log.clean) [
    | inl clean ↦ cond-true of.head.clean (Ok []) _ (of.clean ∙ clean) ∙ ap (λ ts. Ok (sequenced_all ts)) (sym (of.none clean))
    | inr begun ↦
        let read = laid_read ring log.tail None laid (next n log.head) (of.are begun) in
        let same : places_of laid ≡ way n of.head.tail of.head.blkno + 1 = of.whole begun ∙ (λ i. way n (sym (tail_is begun) i) (sym of.place i) + 1) in
        let inside : of.head.tail < n = subst (λ p. p < n) (sym (tail_is begun)) tail_inside in
        (read_from_tail ring of.head (sequenced_all laid) (of.clean ∙ begun) inside (off_tail begun)).1
        ((λ i. reading ring.size [] None nothing (blocks_from ring (tail_is begun i) (sym same i))) ∙ read)
  ]

  pub readable : IsReadable ring
  readable = record { head = of.head; transactions = sequenced_all laid; headed = of.headed; read = transactions }

  pub live_is : (b : ℕ) → live_in ring b ≡ live_of (sequenced_all laid) b
  live_is b = ap (λ (h : Option LogHeader). live_under ring h b) of.headed ∙ ap (λ ts. live_read ts b) transactions

  -- ---- what the log says of a block

  pub entry_of : (b : ℕ) (e : Entry) → table.get log.live b ≡ Some e → IsEntryOf laid b e
  entry_of b e at = subst (IsLiveAs laid b) at (of.live b)

  pub none_of : (b : ℕ) → table.get log.live b ≡ None → live_entry (sequenced_all laid) b ≡ None
  none_of b at = subst (IsLiveAs laid b) at (of.live b)

  -- ---- what a tail leaves

  pub record Keeps (tail : ℕ) (dropped kept : List Laid) : Type 0 where
    pub parts : laid ≡ dropped ++ kept
    pub inside : tail < n
    pub are : AreLaid ring tail None kept (first_place log)
    pub read : reading ring.size [] None nothing (blocks_from ring tail (places_of kept)) ≡ Ok (sequenced_all kept)
    pub reaches : place_on n tail (places_of kept) ≡ first_place log
    pub most : places_of kept ≤ used log + 1
    pub stays : (b : ℕ) (e : Entry) → IsEntryOf laid b e
        → ((nat_lt (behind_tail log e.first) (behind_tail log tail) ≡ true) × (live_entry (sequenced_all kept) b ≡ None)) ⊎ ((nat_lt (behind_tail log e.first) (behind_tail log tail) ≡ false) × IsEntryOf kept b e)

  keeps_kept : (begun : log.clean ≡ false) (tail : ℕ) (dropped kept : List Laid) → IsKept ring log laid sound of begun tail dropped kept → Keeps tail dropped kept
  keeps_kept begun tail dropped kept is = record {
    parts = is.parts;
    inside = is.inside;
    are = is.are;
    read = is.read;
    reaches = is.reaches;
    most = (let c = is.count in omega (arith, c));
    stays = λ b e entry. stays ring log laid sound of begun tail dropped kept is b e entry;
  }

  -- of a clean head nothing is laid
  keeps_clean : log.clean ≡ true → Keeps (first_place log) laid []
  keeps_clean clean =
      let none = of.none clean in record {
        parts = none ∙ ap (λ xs. xs ++ []) (sym none);
        inside = (let head_at : place_on n log.head 1 ≡ first_place log = ap (λ m. next m log.head) of.places in subst (λ p. p < n) head_at (next_inside log.head head_inside));
        are = refl;
        read = laid_read ring (first_place log) None [] (first_place log) refl;
        reaches = refl;
        most = omega arith;
        stays = λ b e entry. absurd (no_parts entry.before entry.behind entry.its (sym none ∙ entry.parts));
      }
    where
      next_inside : (p : ℕ) → p < n → place_on n p 1 < n
      next_inside p inside = elim (cases_Bool (nat_lt (p + 1) n)) [
        | inl less ↦ subst (λ q. q < n) (sym (cond-true (nat_lt (p + 1) n) (p + 1) 0 less)) (grind (arith, nat_tests, less))
        | inr more ↦ subst (λ q. q < n) (sym (cond-false (nat_lt (p + 1) n) (p + 1) 0 more)) (omega (arith, inside))
      ]

  -- which of them a flush's tail keeps; but for a header that is its own tail
  pub data TailKeeps (f : Flush) (tail : ℕ) : Type 0 where
    some_kept : (dropped kept : List Laid) → Keeps tail dropped kept → (AllAreHome log → f.versions ≡ table.empty → ⊥) → TailKeeps f tail
    own : ((b : ℕ) (e : Entry) → table.get log.live b ≡ Some e → behind_tail log e.first < used log) → f.versions ≡ table.empty → tail ≡ head_place log f → TailKeeps f tail

  not_clean : (b : ℕ) (e : Entry) → table.get log.live b ≡ Some e → log.clean ≡ false
  not_clean b e at = elim (cases_Bool log.clean) [
    | inl clean ↦ (let entry = entry_of b e at in absurd (no_parts entry.before entry.behind entry.its (sym (of.none clean) ∙ entry.parts)))
    | inr begun ↦ begun
  ]

  pub tail_keeps : (f : Flush) (tail : ℕ) → IsTail log f tail → TailKeeps f tail
  tail_keeps f tail (of_oldest b e needed least) =
      let begun = not_clean b e needed.live in
      let entry = entry_of b e needed.live in
      some_kept entry.before (entry.its ∷ entry.behind)
      (subst (λ p. Keeps p entry.before (entry.its ∷ entry.behind)) entry.begins
      (keeps_kept begun entry.its.first entry.before (entry.its ∷ entry.behind) (kept_from ring log laid sound of begun entry.before entry.its entry.behind entry.parts)))
      (λ home none. true≢false (sym (ap is_home (home b e needed.live)) ∙ needed.away))
  tail_keeps f tail (of_itself none some) = elim (cases_Bool log.clean) [
    | inl clean ↦ some_kept laid [] (keeps_clean clean) (λ home empty. some empty)
    | inr begun ↦ some_kept laid [] (keeps_kept begun (first_place log) laid [] (kept_none ring log laid sound of begun)) (λ home empty. some empty)
  ]
  tail_keeps f tail (of_none none empty) = own (λ b e at. (sound.firsts b e at).1) empty refl
