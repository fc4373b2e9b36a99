-- A journal says what its places have, and a clean one has nothing live.
use Rattle.std.proofs.Common.{◌≡◌, ℕ, zero, suc, ◌+◌, ◌<◌, Bool, true, false, List, [], ◌∷◌, Option, None, Some, Result, Ok, Err, refl, sym, ap, ap₂, ◌∙◌, arith}
use Rattle.std.specs.Prelude.{if◌then◌else◌}
use Rattle.std.proofs.lemmas.Bool.Decides.{nat_tests}
use Rattle.log_layout.specs.Journal.{Ring, IsClean, Placed, next, way, blocks_from, best_from, head_in, refuses_tail}
use Rattle.log_layout.specs.Live.{IsReadable, live_in, live_under, live_read}
use Rattle.log_layout.specs.Chunks.{nothing}
use Rattle.log_layout.specs.Transactions.{Sequenced, reading, transactions_of}
use Rattle.std.proofs.lemmas.Bool.{cond-true}
use Rattle.log_layout.specs.Laws.{HasSamePlaces, SaysTheSame, HasNothingLive}
use Rattle.log_layout.specs.declared.log_header.LogHeader.{LogHeader}
use Rattle.log_layout.proofs.BestHeaders.{best_same}

next_inside : (places p : ℕ) → p < places → next places p < places
next_inside places p low = grind (arith, nat_tests)

tail_inside : (places : ℕ) (head : LogHeader) → refuses_tail places head ≡ false → head.tail < places
tail_inside places head inside = grind (arith, nat_tests)

module _ (r s : Ring) (same : HasSamePlaces r s) where
  blocks_same : (p count : ℕ) → p < r.places → blocks_from r p count ≡ blocks_from s p count
  blocks_same p zero low = refl
  blocks_same p (suc count) low =
      ap₂ (λ (b : List ℕ) (bs : List Placed). record { place = p; bytes = b } ∷ bs) (same.blocks p low)
      (blocks_same (next r.places p) count (next_inside r.places p low) ∙ ap (λ n. blocks_from s (next n p) count) same.places)

  head_same : head_in r ≡ head_in s
  unfolding head_in
  head_same = best_same r s 0 r.places (λ q from low. same.blocks q (omega (arith, low))) ∙ ap (best_from s 0) same.places

  transactions_same : (head : LogHeader) → transactions_of r head ≡ transactions_of s head
  transactions_same head =
      ap (λ (x : Result (List Sequenced) ℕ). if head.clean then Ok [] else x)
      (each (refuses_tail r.places head) refl
      ∙ ap (λ n. if refuses_tail n head then Err head.blkno else reading s.size [] None nothing (blocks_from s head.tail (way s.places head.tail head.blkno + 1))) same.places)
    where
      each : (b : Bool) → refuses_tail r.places head ≡ b
          → (if b then Err head.blkno else reading r.size [] None nothing (blocks_from r head.tail (way r.places head.tail head.blkno + 1)))
          ≡ (if b then Err head.blkno else reading s.size [] None nothing (blocks_from s head.tail (way s.places head.tail head.blkno + 1)))
      each true e = refl
      each false e =
          ap₂ (λ size blocks. reading size [] None nothing blocks) same.size
          (blocks_same head.tail (way r.places head.tail head.blkno + 1) (tail_inside r.places head e) ∙ ap (λ n. blocks_from s head.tail (way n head.tail head.blkno + 1)) same.places)

  live_same : (block : ℕ) → live_in r block ≡ live_in s block
  live_same block = ap (λ (h : Option LogHeader). live_under r h block) head_same ∙ each (head_in s)
    where
      each : (h : Option LogHeader) → live_under r h block ≡ live_under s h block
      each None = refl
      each (Some head) = ap (λ ts. live_read ts block) (transactions_same head)

  readable_same : IsReadable r → IsReadable s
  readable_same was = record { head = was.head; transactions = was.transactions; headed = sym head_same ∙ was.headed; read = sym (transactions_same was.head) ∙ was.read }

  pub says_the_same : SaysTheSame r s
  says_the_same = record { head = head_same; transactions = transactions_same; live = live_same; readable = readable_same }

module _ (ring : Ring) (clean : IsClean ring) where
  no_transactions : transactions_of ring clean.0 ≡ Ok []
  no_transactions = cond-true clean.0.clean _ _ clean.2

  pub nothing_live : HasNothingLive ring
  nothing_live = record {
    none = λ block. ap (λ (h : Option LogHeader). live_under ring h block) clean.1 ∙ ap (λ ts. live_read ts block) no_transactions;
    readable = record { head = clean.0; transactions = []; headed = clean.1; read = no_transactions };
  }
