-- Laws of log headers, and of journals.
use Rattle.std.specs.Prelude.{ℕ, ◌≡◌, ◌-◌, ◌<◌, ◌≤◌, List, length, drop, replicate, Ok, IfSome, None}
use Rattle.std.specs.List.{All}
use Rattle.gfs2_layout.specs.Laws.{HaveWidths as FrontHasWidths}
use Rattle.gfs2_layout.specs.Writing.{log_fields as front_fields}
use Rattle.log_layout.specs.Fields.{HaveWidths}
use Rattle.log_layout.specs.Headers.{front_of, later_fields, log_put, log_read, as_read}
use Rattle.log_layout.specs.Journal.{Ring, IsClean, head_in}
use Rattle.log_layout.specs.Live.{IsReadable, live_in}
use Rattle.log_layout.specs.Transactions.{transactions_of}
use Rattle.log_layout.specs.declared.log_header.Later.{Later}
use Rattle.log_layout.specs.declared.log_header.LogHeader.{LogHeader}

-- each number of the header is below the bound of its width
pub record HasWidths (h : LogHeader) : Type 0 where
  pub front : FrontHasWidths (front_fields (front_of h))
  pub later : IfSome h.later (λ (l : Later). HaveWidths (later_fields l))

-- a header of either version is read as it was written, there are as many bytes as before, and behind it there are zeros
pub record HeadersReadBack : Type 0 where
  pub back : (h : LogHeader) (bytes : List ℕ) → 120 ≤ length bytes → All (λ byte. byte < 256) bytes → HasWidths h → log_read (log_put h bytes) ≡ Ok (as_read h (log_put h bytes))
  pub as_long : (h : LogHeader) (bytes : List ℕ) → 120 ≤ length bytes → length (log_put h bytes) ≡ length bytes
  pub behind : (h : LogHeader) (bytes : List ℕ) → 120 ≤ length bytes → drop 120 (log_put h bytes) ≡ replicate (length bytes - 120) 0

-- two rings with blocks of one size and as many places, and at each place the same block
pub record HasSamePlaces (r s : Ring) : Type 0 where
  pub size : r.size ≡ s.size
  pub places : r.places ≡ s.places
  pub blocks : (p : ℕ) → p < r.places → r.at p ≡ s.at p

-- they say the same: the head, the transactions up to one, what is live, and whether they can be read
pub record SaysTheSame (r s : Ring) : Type 0 where
  pub head : head_in r ≡ head_in s
  pub transactions : (head : LogHeader) → transactions_of r head ≡ transactions_of s head
  pub live : (block : ℕ) → live_in r block ≡ live_in s block
  pub readable : IsReadable r → IsReadable s

-- a journal says what its places have
abbrev pub PlacesSayAll : Type 0
PlacesSayAll = (r s : Ring) → HasSamePlaces r s → SaysTheSame r s

-- in a clean journal nothing is live, and it can be read
pub record HasNothingLive (ring : Ring) : Type 0 where
  pub none : (block : ℕ) → live_in ring block ≡ None
  pub readable : IsReadable ring

abbrev pub CleanHasNothingLive : Type 0
CleanHasNothingLive = (ring : Ring) → IsClean ring → HasNothingLive ring
