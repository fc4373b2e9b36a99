-- The head of a journal to which a transaction was written: its new header.
use Rattle.std.proofs.Common.{◌≡◌, ◌≢◌, ◌+◌, ◌<◌, ◌++◌, ℕ, zero, suc, List, [], ◌∷◌, length, get_or, None, Some, refl, sym, ap, subst, ◌∙◌, inl, inr, arith, length-append}
use Rattle.std.specs.Prelude.{◌==◌}
use Rattle.std.specs.List.{AllByRecursion}
use Rattle.std.proofs.lemmas.Bool.{cases_Bool, cases_lt, cond-true, cond-false}
use Rattle.gfs2_layout.specs.Bytes.{u32_at}
use Rattle.log_layout.specs.Chunks.{Transaction}
use Rattle.log_layout.specs.Headers.{as_read}
use Rattle.log_layout.specs.Journal.{Ring, accepted, head_in, way}
use Rattle.log_layout.specs.declared.log_header.LogHeader.{LogHeader}
use Rattle.log_layout.proofs.BestHeaders.{accepted_there}
use Rattle.node_journal.specs.Encoding.{chunks, header_block, header_of, header_place}
use Rattle.node_journal.specs.Places.{place_on, placed_from}
use Rattle.node_journal.specs.Written.{AreNumbers, IsHeaderRead, IsLoggableAll}
use Rattle.node_journal.specs.declared.place.Place.{Place}
use Rattle.written_journals.specs.Saying.{with_blocks}
use Rattle.written_journals.proofs.Blocks.{not_accepted}
use Rattle.written_journals.proofs.HeadWritten.{head_is, head_upper}
use Rattle.written_journals.proofs.NoHeads.{IsNoHead, chunks_no_heads}
use Rattle.written_journals.proofs.RingsWritten.{on_inside, touched, untouched, way_back, way_on}
use Rattle.written_journals.proofs.Sorted.{of_other_kind, sorted}

-- ---- a header as it is read again

-- all but what is later is as it was
pub record IsFrontOf (g h : LogHeader) : Type 0 where
  pub sequence : g.sequence ≡ h.sequence
  pub clean : g.clean ≡ h.clean
  pub tail : g.tail ≡ h.tail
  pub blkno : g.blkno ≡ h.blkno

front_kept : (h : LogHeader) (bytes : List ℕ) → IsFrontOf (as_read h bytes) h
front_kept h bytes = elim (cases_Bool (u32_at 48 bytes == 0)) [
  | inl is ↦ (let P : LogHeader → Type 0 = λ g. IsFrontOf g h in subst P (sym (cond-true (u32_at 48 bytes == 0) (record h { later = None }) h is)) (record { sequence = refl; clean = refl; tail = refl; blkno = refl }))
  | inr off ↦ (let P : LogHeader → Type 0 = λ g. IsFrontOf g h in subst P (sym (cond-false (u32_at 48 bytes == 0) (record h { later = None }) h off)) (record { sequence = refl; clean = refl; tail = refl; blkno = refl }))
]

get_front : (xs ys : List (List ℕ)) (i : ℕ) (d : List ℕ) → i < length xs → get_or (xs ++ ys) i d ≡ get_or xs i d
get_front [] ys i d less = absurd (omega (arith, less))
get_front (x ∷ xs) ys zero d less = refl
get_front (x ∷ xs) ys (suc i) d less = get_front xs ys i d (omega (arith, less))

get_last : (xs : List (List ℕ)) (y d : List ℕ) → get_or (xs ++ y ∷ []) (length xs) d ≡ y
get_last [] y d = refl
get_last (x ∷ xs) y d = get_last xs y d

no_head_at : (xs : List (List ℕ)) (i : ℕ) (d : List ℕ) → i < length xs → AllByRecursion IsNoHead xs → IsNoHead (get_or xs i d)
no_head_at [] i d less all = absurd (omega (arith, less))
no_head_at (x ∷ xs) zero d less all = all.0
no_head_at (x ∷ xs) (suc i) d less all = no_head_at xs i d (omega (arith, less)) all.1

-- ---- the head

-- the journal with the transaction written from a place on, the place of its header, and that as it is read
abbrev pub new_ring : Ring → Place → Transaction → ℕ → Ring
new_ring ring at t first = with_blocks ring (placed_from ring.places first (chunks ring.size at.jid t ++ header_block ring.size at t ∷ []))

abbrev pub last_place : Ring → Place → Transaction → ℕ → ℕ
last_place ring at t first = place_on ring.places first (length (chunks ring.size at.jid t))

abbrev pub new_head : ℕ → Place → Transaction → LogHeader
new_head size at t = as_read (header_of at (header_place size at t)) (header_block size at t)

-- its new header reads as it was written, counts at its place, and is the head
pub record HasNewHead (ring : Ring) (at : Place) (t : Transaction) (first : ℕ) : Type 0 where
  pub front : IsFrontOf (new_head ring.size at t) (header_of at (header_place ring.size at t))
  pub counts : accepted (last_place ring at t first) ((new_ring ring at t first).at (last_place ring at t first)) ≡ Some (new_head ring.size at t)
  pub block : (new_ring ring at t first).at (last_place ring at t first) ≡ header_block ring.size at t
  pub headed : head_in (new_ring ring at t first) ≡ Some (new_head ring.size at t)

-- The blocks are written from a place on, and there are no more than the ring has places.
module _ (ring : Ring) (at : Place) (t : Transaction) (first : ℕ) (loggable : IsLoggableAll ring.size t) (numbers : AreNumbers at t) (header_read : IsHeaderRead ring.size at t) (first_in : first < ring.places)
    (few : length (chunks ring.size at.jid t) < ring.places) (place_is : header_place ring.size at t ≡ last_place ring at t first)
    (older : (h : LogHeader) → head_in ring ≡ Some h → h.sequence < at.sequence) where
  abbrev size : ℕ
  size = ring.size

  abbrev places : ℕ
  places = ring.places

  abbrev parts : List (List ℕ)
  parts = chunks size at.jid t

  abbrev head_block : List ℕ
  head_block = header_block size at t

  abbrev blocks : List (List ℕ)
  blocks = parts ++ head_block ∷ []

  abbrev new : Ring
  new = new_ring ring at t first

  abbrev end : ℕ
  end = last_place ring at t first

  abbrev head : LogHeader
  head = new_head size at t

  count_of : length blocks ≡ length parts + 1
  count_of = length-append parts (head_block ∷ [])

  last_in : end < places
  last_in = on_inside places first (length parts) first_in few

  front : IsFrontOf head (header_of at (header_place size at t))
  front = front_kept (header_of at (header_place size at t)) (header_block size at t)

  at_last : new.at end ≡ head_block
  at_last = touched places first blocks (length parts) head_block (ring.at end) first_in (omega (arith, few, count_of)) (omega (arith, count_of)) ∙ get_last parts head_block head_block

  head_accepted : accepted end (new.at end) ≡ Some head
  head_accepted = ap (accepted end) at_last ∙ sym (accepted_there end head_block head (sym header_read) (front.blkno ∙ place_is))

  others : (r : ℕ) (h : LogHeader) → r ≢ end → r < places → accepted r (new.at r) ≡ Some h → h.sequence < head.sequence
  others r h off inside e =
      let i = way places first r in
      let there : place_on places first i ≡ r = way_on places first r first_in inside in
      elim (cases_lt i (length blocks)) [
        | inl less ↦ elim (cases_lt i (length parts)) [
          | inl low ↦
              let block : new.at r ≡ get_or parts i head_block =
              ap (λ q. new.at q) (sym there) ∙ touched places first blocks i head_block (ring.at (place_on places first i)) first_in (omega (arith, few, count_of)) less ∙ get_front parts (head_block ∷ []) i head_block low in
              let none : accepted r (new.at r) ≡ None =
              ap (accepted r) block ∙ not_accepted r (get_or parts i head_block) (no_head_at parts i head_block low (chunks_no_heads size at.jid t loggable.sized numbers.jid (sorted size at t loggable numbers) (of_other_kind size at t loggable numbers))) in
              let bad : None ≡ Some h = sym none ∙ e in absurd cc
          | inr high ↦
              let is : i ≡ length parts = omega (arith, less, high, count_of) in
              absurd (off (sym there ∙ ap (place_on places first) is))
        ]
        | inr past ↦
            let same : new.at r ≡ ring.at r =
            untouched places first blocks r (ring.at r) (λ j low z. let back : j ≡ i = sym (way_back places first j first_in (omega (arith, low, few, count_of))) ∙ ap (way places first) z in omega (arith, back, low, past)) in
            let old = head_upper ring r h inside (ap (accepted r) (sym same) ∙ e) in
            omega (arith, old.2, older old.0 old.1, front.sequence)
      ]

  headed : head_in new ≡ Some head
  headed = head_is new end head last_in head_accepted others

  pub has_new_head : HasNewHead ring at t first
  has_new_head = record { front = front; counts = head_accepted; block = at_last; headed = headed }
