-- A journal to which a flush was written whole: it says what the log says.
use Rattle.std.proofs.Common.{◌≡◌, ◌≢◌, ◌+◌, ◌-◌, ◌^◌, ◌<◌, ◌≤◌, ◌++◌, ℕ, zero, suc, Bool, true, false, List, [], ◌∷◌, length, get_or, Option, None, Some, Result, Ok, Err, refl, sym, ap, subst, ◌∙◌, inl, inr, arith, length-append}
use Rattle.std.specs.Prelude.{◌⊎◌, ◌==◌, ◌||◌, nat_le, slice_get}
use Rattle.std.proofs.lemmas.Bool.{cases_eq, cases_lt, cond-false, ne_eqb}
use Rattle.std.proofs.lemmas.Bool.Decides.{nat_tests}
use Rattle.std.proofs.lemmas.Option.{slice_get-get_or}
use Rattle.log_layout.specs.Chunks.{Transaction, nothing}
use Rattle.log_layout.specs.Journal.{Placed, Ring, blocks_from, head_in, next, refuses_tail, tail_of, way}
use Rattle.log_layout.specs.Laws.{PlacesSayAll, SaysTheSame}
use Rattle.log_layout.specs.Transactions.{Sequenced, and_then, reading, transactions_of}
use Rattle.log_layout.specs.declared.log_header.LogHeader.{LogHeader}
use Rattle.journal_scan.specs.Course.{behind}
use Rattle.node_journal.specs.Encoding.{encoded}
use Rattle.node_journal.specs.Places.{place_on, placed_from}
use Rattle.written_journals.specs.Saying.{block_at, with_blocks}
use Rattle.written_journals.proofs.Going.{and_then_ok, last_of, ok_err}
use Rattle.written_journals.proofs.RingsWritten.{blocks_further, blocks_same, next_of, on_apart, on_inside, place_further, touched, untouched, way_back, way_on}
use Rattle.log_rings.specs.Laid.{AreLaid, Laid, places_of, sequenced_all}
use Rattle.log_rings.proofs.Pieces.{goes_on, ok_is}

-- ---- what stands there

get_front : (xs ys : List (List ℕ)) (i : ℕ) (d : List ℕ) → i < length xs → get_or (xs ++ ys) i d ≡ get_or xs i d
get_front [] ys i d less = absurd (omega (arith, less))
get_front (x ∷ xs) ys zero d less = refl
get_front (x ∷ xs) ys (suc i) d less = get_front xs ys i d (omega (arith, less))

get_last : (xs : List (List ℕ)) (y d : List ℕ) → get_or (xs ++ y ∷ []) (length xs) d ≡ y
get_last [] y d = refl
get_last (x ∷ xs) y d = get_last xs y d

-- A ring in which these chunks and this header stand, one behind another, has what it had with them written there.
module _ (n first : ℕ) (r r' : ℕ → List ℕ) (parts : List (List ℕ)) (header : List ℕ) (first_in : first < n) (few : length parts < n)
    (written : (k : ℕ) (bytes : List ℕ) → k < length parts → slice_get parts k ≡ Some bytes → r (place_on n first k) ≡ bytes) (there : r' (place_on n first (length parts)) ≡ header)
    (others : (p : ℕ) → p < n → p ≢ place_on n first (length parts) → r' p ≡ r p) where
  abbrev blocks : List (List ℕ)
  blocks = parts ++ header ∷ []

  count_of : length blocks ≡ length parts + 1
  count_of = length-append parts (header ∷ [])

  pub stands : (p : ℕ) → p < n → r' p ≡ block_at (placed_from n first blocks) p (r p)
  stands p inside =
      let i = way n first p in
      let at : place_on n first i ≡ p = way_on n first p first_in inside in
      elim (cases_lt i (length parts)) [
        | inl low ↦
            let new : block_at (placed_from n first blocks) p (r p) ≡ get_or parts i header
            = ap (λ q. block_at (placed_from n first blocks) q (r p)) (sym at) ∙ touched n first blocks i header (r p) first_in (omega (arith, few, count_of)) (omega (arith, low, count_of)) ∙ get_front parts (header ∷ []) i header low in
            let off : p ≢ place_on n first (length parts) = λ e. let same : i ≡ length parts = on_apart n first i (length parts) first_in (omega (arith, low, few)) few (at ∙ e) in omega (arith, same, low) in
            let old : r p ≡ get_or parts i header = ap r (sym at) ∙ written i (get_or parts i header) low (slice_get-get_or parts i header low) in
            others p inside off ∙ old ∙ sym new
        | inr not_low ↦ elim (cases_lt (length parts) i) [
          | inl past ↦
              let off : p ≢ place_on n first (length parts) = λ e. let back : i ≡ length parts = ap (way n first) e ∙ way_back n first (length parts) first_in few in omega (arith, back, past) in
              others p inside off
              ∙ sym (untouched n first blocks p (r p) (λ j h e. let back : j ≡ i = sym (way_back n first j first_in (omega (arith, h, few, count_of))) ∙ ap (way n first) e in omega (arith, back, h, past, count_of)))
          | inr not_past ↦
              let is : i ≡ length parts = omega (arith, not_low, not_past) in
              let here : place_on n first (length parts) ≡ p = ap (place_on n first) (sym is) ∙ at in
              let new : block_at (placed_from n first blocks) p (r p) ≡ header
              = ap (λ q. block_at (placed_from n first blocks) q (r p)) (sym here) ∙ touched n first blocks (length parts) header (r p) first_in (omega (arith, few, count_of)) (omega (arith, count_of)) ∙ get_last parts header header in
              ap r' (sym here) ∙ there ∙ sym new
        ]
      ]

-- ---- what is read

-- what is behind some is what is read behind them
pub rest_is : (ts us : List Sequenced) (read : Result (List Sequenced) ℕ) → behind ts read ≡ Ok (ts ++ us) → read ≡ Ok us
rest_is [] us read is = is
rest_is (t ∷ ts) us read is =
    let more = and_then_ok t (behind ts read) (t ∷ (ts ++ us)) is in
    let same : more.0 ≡ ts ++ us = sym (tail more.2) in
    rest_is ts us read (more.1 ∙ ap Ok same)
  where
    tail : {xs ys : List Sequenced} → t ∷ xs ≡ t ∷ ys → xs ≡ ys
    tail e = cc

-- transactions stand in another ring that has the same blocks there
pub laid_same : (a b : Ring) (p : ℕ) (last : Option ℕ) (ts : List Laid) (q : ℕ) → a.size ≡ b.size → a.places ≡ b.places → ((i : ℕ) → i < places_of ts → a.at (place_on a.places p i) ≡ b.at (place_on a.places p i))
    → AreLaid a p last ts q → AreLaid b p last ts q
laid_same a b p last [] q size places same are = are
laid_same a b p last (t ∷ ts) q size places same are = (
  are.0,
  are.1,
  subst (λ bs. reading b.size [] last nothing bs ≡ Ok (t.sequenced ∷ [])) (blocks_same a b p t.count places (λ i low. same i (omega (arith, low)))) (subst (λ s. reading s [] last nothing (blocks_from a p t.count) ≡ Ok (t.sequenced ∷ [])) size are.2),
  subst (λ m. AreLaid b (place_on m p t.count) (Some t.sequenced.sequence) ts q) places
      (laid_same a b (place_on a.places p t.count) (Some t.sequenced.sequence) ts q size places
      (λ i low. ap a.at (place_further a.places p t.count i) ∙ same (t.count + i) (omega (arith, low)) ∙ ap b.at (sym (place_further a.places p t.count i))) are.3),
)

-- a head that isn't clean, whose tail is a place that isn't the one behind it, is read from its tail on
pub read_from_tail : (ring : Ring) (head : LogHeader) (ts : List Sequenced) → head.clean ≡ false → head.tail < ring.places → head.tail ≢ next ring.places head.blkno
    → (transactions_of ring head ≡ Ok ts → reading ring.size [] None nothing (blocks_from ring head.tail (way ring.places head.tail head.blkno + 1)) ≡ Ok ts)
    × (reading ring.size [] None nothing (blocks_from ring head.tail (way ring.places head.tail head.blkno + 1)) ≡ Ok ts → transactions_of ring head ≡ Ok ts)
read_from_tail ring head ts clean inside off =
    let low : nat_le ring.places head.tail ≡ false = grind (arith, nat_tests, inside) in
    let stands_so : refuses_tail ring.places head ≡ false = λ i. low i || ne_eqb head.tail (next ring.places head.blkno) off i in
    let is = cond-false head.clean (Ok []) _ clean ∙ cond-false (refuses_tail ring.places head) (Err head.blkno) (reading ring.size [] None nothing (blocks_from ring head.tail (way ring.places head.tail head.blkno + 1))) stands_so in
    ((λ e. sym is ∙ e), (λ e. is ∙ e))
