-- A journal behind whose head a clean header was written.
use Rattle.std.proofs.Common.{◌≡◌, ◌≢◌, ℕ, ◌+◌, ◌<◌, Bool, true, false, List, Option, None, Some, Ok, refl, sym, ap, subst, ◌∙◌, arith}
use Rattle.std.specs.Prelude.{◌==◌, ◌*◌, ◌%◌, ◌≤◌, ◌^◌, if◌then◌else◌}
use Rattle.std.proofs.lemmas.Bool.Decides.{nat_tests}
use Rattle.std.proofs.lemmas.Nat.{mod_low}
use Rattle.gfs2_layout.specs.Bytes.{u32_at}
use Rattle.log_layout.specs.Headers.{as_read, log_read}
use Rattle.log_layout.specs.Journal.{Ring, accepted, head_in, next}
use Rattle.log_layout.specs.Transactions.{after as sequence_after}
use Rattle.log_layout.specs.declared.log_header.LogHeader.{LogHeader}
use Rattle.log_layout.proofs.BestHeaders.{accepted_there, head_there}
use Rattle.log_layout.proofs.SamePlaces.{nothing_live}
use Rattle.written_journals.proofs.HeadWritten.{head_is, head_upper}
use Rattle.peer_replay.specs.Plans.{clean_after}
use Rattle.journal_replays.specs.Headers.{clean_block, filled}
use Rattle.clean_journals.specs.Ended.{CleanHeadersEnd, HasPut, IsEndedBy}

some_is : {A : Type 0} {x y : A} → ◌≡◌ {A = Option A} (Some x) (Some y) → x ≡ y
some_is e = cc

-- what is read of a header has its sequence, its mark and its place
record HasFront (g h : LogHeader) : Type 0 where
  sequence : g.sequence ≡ h.sequence
  clean : g.clean ≡ h.clean
  blkno : g.blkno ≡ h.blkno

front_of : (h : LogHeader) (zero : Bool) → HasFront (if zero then record h { later = None } else h) h
front_of h true = record { sequence = refl; clean = refl; blkno = refl }
front_of h false = record { sequence = refl; clean = refl; blkno = refl }

module _ (ring ring' : Ring) (head : LogHeader) (block slot dinode time : ℕ) (headed : head_in ring ≡ Some head) (low : head.sequence + 1 < 2 ^ 64) where
  abbrev header : LogHeader
  header = clean_after ring.places head

  abbrev bytes : List ℕ
  bytes = (clean_block ring.size block slot dinode time header).bytes

  abbrev read : LogHeader
  read = as_read (filled block slot dinode time header) bytes

  front : HasFront read (filled block slot dinode time header)
  front = front_of (filled block slot dinode time header) (u32_at 48 bytes == 0)

  sequence_is : sequence_after head.sequence ≡ head.sequence + 1
  sequence_is = mod_small (head.sequence + 1) low
    where
      mod_small : (n : ℕ) → n < 2 ^ 64 → n % 2 ^ 64 ≡ n
      mod_small n small = let same : n ≡ 0 * 2 ^ 64 + n = omega arith in ap (λ m. m % 2 ^ 64) same ∙ mod_low 0 64 n small

  newer : head.sequence < read.sequence
  newer = let is = front.sequence in let one = sequence_is in omega (arith, is, one)

  inside : next ring.places head.blkno < ring.places
  inside = behind ring.places head.blkno (head_there ring head headed).0
    where
      behind : (places p : ℕ) → p < places → next places p < places
      behind places p below = grind (arith, nat_tests)

  module _ (reads : log_read bytes ≡ Ok read) (put : HasPut ring ring' header.blkno bytes) where
    counts : accepted header.blkno (ring'.at header.blkno) ≡ Some read
    counts = ap (accepted header.blkno) put.there ∙ sym (accepted_there header.blkno bytes read (sym reads) front.blkno)

    others : (r : ℕ) (h : LogHeader) → r ≢ header.blkno → r < ring'.places → accepted r (ring'.at r) ≡ Some h → h.sequence < read.sequence
    others r h off below is =
        let in_ring : r < ring.places = subst (λ n. r < n) put.places below in
        let old = head_upper ring r h in_ring (ap (accepted r) (sym (put.others r in_ring off)) ∙ is) in
        let same : head.sequence ≡ old.0.sequence = ap (λ (g : LogHeader). g.sequence) (some_is (sym headed ∙ old.1)) in
        let most : h.sequence ≤ old.0.sequence = old.2 in
        omega (arith, same, most, newer)

    head_now : head_in ring' ≡ Some read
    head_now = head_is ring' header.blkno read (subst (λ n. header.blkno < n) (sym put.places) inside) counts others

    pub ended : IsEndedBy ring' read
    ended = record { headed = head_now; clean = (read, head_now, front.clean); nothing = nothing_live ring' (read, head_now, front.clean) }

pub clean_headers_end : CleanHeadersEnd
clean_headers_end ring ring' head block slot dinode time headed low reads put = ended ring ring' head block slot dinode time headed low reads put
