-- The plan of a journal in memory is that of the journal which it was read from.
use Rattle.std.proofs.Common.{◌≡◌, ◌<◌, ℕ, Bool, true, false, List, Option, None, Some, Ok, sym, ap, subst, ◌∙◌, arith}
use Rattle.std.specs.Prelude.{IfSome, if◌then◌else◌}
use Rattle.std.proofs.lemmas.Bool.Decides.{nat_tests}
use Rattle.std.specs.Option.{option_map}
use Rattle.log_layout.specs.Chunks.{Logged}
use Rattle.log_layout.specs.Journal.{Ring, accepted, head_in, next}
use Rattle.log_layout.specs.Laws.{HasSamePlaces}
use Rattle.log_layout.specs.Live.{IsReadable, live_entry, live_in, live_read, live_under}
use Rattle.log_layout.specs.Transactions.{Sequenced, transactions_of}
use Rattle.log_layout.specs.declared.log_header.LogHeader.{LogHeader}
use Rattle.log_layout.proofs.SamePlaces.{says_the_same}
use Rattle.peer_replay.specs.Plans.{clean_after, clean_header, put_home}
use Rattle.peer_replay.specs.Plans as scanned
use Rattle.peer_replay.specs.declared.planned.Plan.{Plan}
use Rattle.journal_scan.specs.declared.fault.ScanFault.{ScanFault}
use Rattle.journal_scan.specs.declared.fault.ScanFault.TheVariants.{NoHeader, BadChunk, NoMemory}
use Rattle.journal_plans.specs.Plans.{IfBadChunk, IsPlanOf, IsWhyNot, of_scan}
use Rattle.journal_plans.proofs.BadPlaces.{bad_is_inside}

module _ (r s : Ring) (same : HasSamePlaces r s) where
  -- what is live in a journal that can be read
  pub live_told : (is : IsReadable r) (block : ℕ) → live_in r block ≡ option_map (λ (e : Logged). e.bytes) (live_entry is.transactions block)
  live_told is block = ap (λ (h : Option LogHeader). live_under r h block) is.headed ∙ ap (λ ts. live_read ts block) is.read

  pub plan_is : (p : Plan) → IsReadable r
      → ((head : LogHeader) (ts : List Sequenced) → head_in r ≡ Some head → transactions_of r head ≡ Ok ts → (b : ℕ) → put_home p.home.items b ≡ live_entry ts b)
      → ((head : LogHeader) × (head_in r ≡ Some head) × (p.clean ≡ clean_header r.places head)) → IsPlanOf s p
  plan_is p is live clean = record {
    readable = (says_the_same r s same).readable is;
    live = λ block. ap (option_map (λ (e : Logged). e.bytes)) (live is.head is.transactions is.headed is.read block) ∙ sym (live_told is block) ∙ (says_the_same r s same).live block;
    clean = (clean.0, sym (says_the_same r s same).head ∙ clean.1, clean.2 ∙ ap (λ n. clean_header n clean.0) same.places);
  }

  pub why_not : (fault : ScanFault) → scanned.IsWhyNot r fault → IsWhyNot s (of_scan fault)
  why_not NoHeader is = sym (says_the_same r s same).head ∙ is
  why_not (BadChunk place) is = (is.0, sym (says_the_same r s same).head ∙ is.1, sym ((says_the_same r s same).transactions is.0) ∙ is.2)
  why_not NoMemory is = is

-- a bad place is one of the journal's
pub inside_told : (r : Ring) (count : ℕ) → r.places ≡ count → ((head : LogHeader) → head_in r ≡ Some head → (head.blkno < r.places) × (accepted head.blkno (r.at head.blkno) ≡ Some head))
    → (fault : ScanFault) → scanned.IsWhyNot r fault → IfBadChunk (λ place. place < count) (of_scan fault)
inside_told r count long heads NoHeader is = tt
inside_told r count long heads (BadChunk place) is = subst (λ n. place < n) long (bad_is_inside r is.0 place (heads is.0 is.1).0 is.2)
inside_told r count long heads NoMemory is = tt

-- the header that comes last has a place of the journal
place_behind : (places : ℕ) (head : LogHeader) → head.blkno < places → IfSome (clean_header places head) (λ (h : LogHeader). h.blkno < places)
place_behind places head low = by head.clean
  where
    inside : next places head.blkno < places
    inside = grind (arith, nat_tests)

    by : (b : Bool) → IfSome (if b then None else Some (clean_after places head)) (λ (h : LogHeader). h.blkno < places)
    by true = tt
    by false = inside

pub place_told : (r : Ring) (count : ℕ) → r.places ≡ count → ((head : LogHeader) → head_in r ≡ Some head → (head.blkno < r.places) × (accepted head.blkno (r.at head.blkno) ≡ Some head))
    → (clean : Option LogHeader) → ((head : LogHeader) × (head_in r ≡ Some head) × (clean ≡ clean_header r.places head)) → IfSome clean (λ (h : LogHeader). h.blkno < count)
place_told r count long heads clean is =
    subst (λ (c : Option LogHeader). IfSome c (λ (h : LogHeader). h.blkno < count)) (sym is.2)
    (subst (λ n. IfSome (clean_header r.places is.0) (λ (h : LogHeader). h.blkno < n)) long (place_behind r.places is.0 (heads is.0 is.1).0))
