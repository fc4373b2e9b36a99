-- A clean header in flight behind the head of a journal that isn't clean.
use Rattle.std.proofs.Common.{◌≡◌, ◌≢◌, ◌⊎◌, ℕ, ◌+◌, ◌<◌, Bool, true, false, List, length, None, Some, Ok, refl, sym, ap, subst, ◌∙◌, inl, inr, arith}
use Rattle.std.specs.Prelude.{◌==◌, ◌*◌, ◌%◌, ◌^◌, if◌then◌else◌}
use Rattle.std.proofs.lemmas.Bool.{cases_Bool, cases_eq, cond-true, cond-false, eq-eqb, ne_eqb}
use Rattle.std.proofs.lemmas.Bool.Decides.{nat_tests}
use Rattle.std.proofs.lemmas.Nat.{mod_low}
use Rattle.gfs2_layout.specs.Bytes.{u32_at}
use Rattle.gfs2_layout.specs.declared.log_header.LogHeader.{LogHeader as Front}
use Rattle.image_model.proofs.Held.{none_some, some_same}
use Rattle.journal_outcomes.specs.Rings.{HeaderFlies, InFlight, IsFree, IsRingOutcome, MayFly, ReadsAsEither, SaysAs}
use Rattle.journal_outcomes.proofs.Outcomes.{landed_header, outcomes_say_one}
use Rattle.journal_replays.specs.Headers.{clean_block, filled}
use Rattle.log_layout.specs.Headers.{as_read, log_read}
use Rattle.log_layout.specs.Journal.{IsClean, Ring, accepted, head_in, next, refuses_tail, tail_of, way}
use Rattle.log_layout.specs.Live.{IsReadable}
use Rattle.log_layout.specs.Transactions.{Sequenced, after as sequence_after, transactions_of}
use Rattle.log_layout.specs.declared.log_header.LogHeader.{LogHeader}
use Rattle.log_layout.proofs.BestHeaders.{accepted_there, head_there}
use Rattle.peer_replay.specs.Plans.{clean_after}
use Rattle.std.proofs.Common.{Result, Err}

err_ok : {x : List Sequenced} {p : ℕ} → ◌≡◌ {A = Result (List Sequenced) ℕ} (Err p) (Ok x) → ⊥
err_ok e = cc

-- a journal that isn't clean and can be read has a tail that isn't the place behind its head
tail_right : (ring : Ring) (head : LogHeader) → head_in ring ≡ Some head → head.clean ≡ false → IsReadable ring → refuses_tail ring.places head ≡ false
tail_right ring head headed dirty is = elim (cases_Bool (refuses_tail ring.places head)) [
  | inr off ↦ off
  | inl on ↦
      let same : is.head ≡ head = some_same (sym is.headed ∙ headed) in
      let no : Err head.blkno ≡ Ok is.transactions = sym (cond-false head.clean _ _ dirty ∙ cond-true (refuses_tail ring.places head) _ _ on) ∙ ap (transactions_of ring) (sym same) ∙ is.read in
      absurd (err_ok no)
]

free_behind : (places : ℕ) (head : LogHeader) → head.blkno < places → head.clean ≡ false → refuses_tail places head ≡ false → IsFree places head (next places head.blkno)
free_behind places head low dirty right =
    let tail : tail_of head ≡ head.tail = cond-false head.clean head.blkno head.tail dirty in
    subst (λ t. way places t head.blkno < way places t (next places head.blkno)) (sym tail) (far places head.tail head.blkno low (inside places head right) (apart places head right))
  where
    inside : (places : ℕ) (head : LogHeader) → refuses_tail places head ≡ false → head.tail < places
    inside places head right = grind (arith, nat_tests)

    apart : (places : ℕ) (head : LogHeader) → refuses_tail places head ≡ false → head.tail ≢ next places head.blkno
    apart places head right = grind (arith, nat_tests)

    far : (places t p : ℕ) → p < places → t < places → t ≢ next places p → way places t p < way places t (next places p)
    far places t p low there off = grind (arith, nat_tests)

-- what is read of a header that was written
record HasFront (g h : LogHeader) : Type 0 where
  sequence : g.sequence ≡ h.sequence
  clean : g.clean ≡ h.clean
  blkno : g.blkno ≡ h.blkno

front_of : (h : LogHeader) (zero : Bool) → HasFront (if zero then record h { later = None } else h) h
front_of h true = record { sequence = refl; clean = refl; blkno = refl }
front_of h false = record { sequence = refl; clean = refl; blkno = refl }

module _ (ring : Ring) (head : LogHeader) (block slot dinode time : ℕ) (headed : head_in ring ≡ Some head) (low : head.sequence + 1 < 2 ^ 64) (dirty : head.clean ≡ false) (readable : IsReadable ring)
    (reads : log_read (clean_block ring.size block slot dinode time (clean_after ring.places head)).bytes
    ≡ Ok (as_read (filled block slot dinode time (clean_after ring.places head)) (clean_block ring.size block slot dinode time (clean_after ring.places head)).bytes)) where
  abbrev place : ℕ
  place = next ring.places head.blkno

  abbrev bytes : List ℕ
  bytes = (clean_block ring.size block slot dinode time (clean_after ring.places head)).bytes

  abbrev header : LogHeader
  header = as_read (filled block slot dinode time (clean_after ring.places head)) bytes

  front : HasFront header (filled block slot dinode time (clean_after ring.places head))
  front = front_of (filled block slot dinode time (clean_after ring.places head)) (u32_at 48 bytes == 0)

  -- the header alone is in flight
  abbrev flying : InFlight
  flying p = if p == next ring.places head.blkno then Some (clean_block ring.size block slot dinode time (clean_after ring.places head)).bytes else None

  sequence_is : sequence_after head.sequence ≡ head.sequence + 1
  sequence_is = mod_small (head.sequence + 1) low
    where
      mod_small : (n : ℕ) → n < 2 ^ 64 → n % 2 ^ 64 ≡ n
      mod_small n small = let same : n ≡ 0 * 2 ^ 64 + n = omega arith in ap (λ m. m % 2 ^ 64) same ∙ mod_low 0 64 n small

  head_low : head.blkno < ring.places
  head_low = (head_there ring head headed).0

  place_low : place < ring.places
  place_low = behind ring.places head.blkno head_low
    where
      behind : (places p : ℕ) → p < places → next places p < places
      behind places p below = grind (arith, nat_tests)

  reads_here : accepted place bytes ≡ Some header
  reads_here = sym (accepted_there place bytes header (sym reads) front.blkno)

  abbrev flies : HeaderFlies ring head flying
  flies = record {
    place = place;
    bytes = bytes;
    header = header;
    inside = place_low;
    free = free_behind ring.places head head_low dirty (tail_right ring head headed dirty readable);
    flies = cond-true (place == place) (Some bytes) None (eq-eqb place place refl);
    reads = reads_here;
    next = front.sequence ∙ sequence_is;
    alone = λ p inside off. cond-false (p == place) (Some bytes) None (ne_eqb p place off);
  }

  abbrev may : MayFly ring flying
  may = record { head = head; headed = headed; writes = inr flies }

  -- whatever became of it, the journal says what it said, or it is clean
  pub ends_or_stays : (x : ℕ → List ℕ) → ((p : ℕ) → p < ring.places → p ≢ next ring.places head.blkno → x p ≡ ring.at p) → length (x (next ring.places head.blkno)) ≡ ring.size
      → ReadsAsEither (next ring.places head.blkno) (ring.at (next ring.places head.blkno)) (clean_block ring.size block slot dinode time (clean_after ring.places head)).bytes (x (next ring.places head.blkno))
      → SaysAs (record { size = ring.size; places = ring.places; at = x }) ring ⊎ IsClean (record { size = ring.size; places = ring.places; at = x })
  ends_or_stays x others whole either = elim (outcomes_say_one ring flying (record { size = ring.size; places = ring.places; at = x }) may outcome) [
    | inl says ↦ inl says
    | inr new ↦
        let says = new.1 in
        let its : says.other ≡ new.0.header = some_same (sym says.headed_other ∙ landed_header ring flying may new.0) in
        let same_place : new.0.place ≡ place = at_place new.0 in
        let same_header : new.0.header ≡ header = some_same (sym new.0.reads ∙ reads_there new.0 same_place) in
        inr (says.head, says.headed, ap (λ (f : Front). f.clean) says.reads.front ∙ ap (λ (g : LogHeader). g.clean) (its ∙ same_header) ∙ front.clean)
  ]
    where
      outcome : IsRingOutcome ring flying (record { size = ring.size; places = ring.places; at = x })
      outcome = record {
        size = refl;
        places = refl;
        still = λ p inside none. elim (cases_eq p place) [
          | inl at ↦ absurd (none_some (sym none ∙ cond-true (p == place) (Some bytes) None (eq-eqb p place at)))
          | inr off ↦ others p inside off
        ];
        whole = λ p written inside is. elim (cases_eq p place) [
          | inl at ↦ ap (λ q. length (x q)) at ∙ whole
          | inr off ↦ absurd (none_some (sym (cond-false (p == place) (Some bytes) None (ne_eqb p place off)) ∙ is))
        ];
        either = λ p written inside is. elim (cases_eq p place) [
          | inl at ↦
              let same : bytes ≡ written = some_same (sym (cond-true (p == place) (Some bytes) None (eq-eqb p place at)) ∙ is) in
              subst (λ q. ReadsAsEither q (ring.at q) written (x q)) (sym at) (subst (λ w. ReadsAsEither place (ring.at place) w (x place)) same either)
          | inr off ↦ absurd (none_some (sym (cond-false (p == place) (Some bytes) None (ne_eqb p place off)) ∙ is))
        ];
      }

      at_place : (one : HeaderFlies ring head flying) → one.place ≡ place
      at_place one = elim (cases_eq one.place place) [
        | inl at ↦ at
        | inr off ↦ absurd (none_some (sym (cond-false (one.place == place) (Some bytes) None (ne_eqb one.place place off)) ∙ one.flies))
      ]

      reads_there : (one : HeaderFlies ring head flying) → one.place ≡ place → accepted one.place one.bytes ≡ Some header
      reads_there one at =
          let same : bytes ≡ one.bytes = some_same (sym (cond-true (one.place == place) (Some bytes) None (eq-eqb one.place place at)) ∙ one.flies) in
          ap (λ q. accepted q one.bytes) at ∙ ap (accepted place) (sym same) ∙ reads_here
