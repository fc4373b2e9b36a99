-- The sequences of transactions that are read are those of accepted headers.
use Rattle.std.proofs.Common.{◌≡◌, ◌<◌, ℕ, zero, suc, Bool, true, false, List, [], ◌∷◌, length, Option, None, Some, Result, Ok, refl, sym, subst, ◌∙◌, arith}
use Rattle.std.specs.List.{AllByRecursion}
use Rattle.log_layout.specs.Chunks.{Chunk, Transaction, chunk_in, joined, nothing, part_of}
use Rattle.log_layout.specs.Journal.{Placed, Ring, accepted, blocks_from, head_in, next}
use Rattle.log_layout.specs.Transactions.{Sequenced, may_follow, reading}
use Rattle.log_layout.specs.declared.due.Due.{Due}
use Rattle.log_layout.specs.declared.log_header.LogHeader.{LogHeader}
use Rattle.journal_scan.proofs.Steps.{read_chunk, read_due, read_end, read_header, read_none, read_other, read_stray}
use Rattle.node_journal.specs.Places.{place_on}
use Rattle.written_journals.proofs.Going.{and_then_ok, ok_err}
use Rattle.written_journals.proofs.HeadWritten.{head_upper}

-- a header that is accepted there has a lower sequence
abbrev pub HasLow : ℕ → Placed → Type 0
HasLow s b = (g : LogHeader) → accepted b.place b.bytes ≡ Some g → g.sequence < s

abbrev pub IsLow : ℕ → Sequenced → Type 0
IsLow s t = t.sequence < s

abbrev Lows : ℕ → ℕ → List Placed → Type 0
Lows size s bs = (due : List Due) (last : Option ℕ) (begun : Transaction) (ts : List Sequenced) → reading size due last begun bs ≡ Ok ts → AllByRecursion (IsLow s) ts

ok_is : {A : Type 0} {x y : A} → ◌≡◌ {A = Result A ℕ} (Ok x) (Ok y) → x ≡ y
ok_is e = cc

module _ (size s : ℕ) (b : Placed) (bs : List Placed) (last : Option ℕ) (begun : Transaction) (ts : List Sequenced) (low : HasLow s b) (rest : Lows size s bs) where
  at_header : (g : LogHeader) (f : Bool) → accepted b.place b.bytes ≡ Some g → may_follow last g.sequence ≡ f → reading size [] last begun (b ∷ bs) ≡ Ok ts → AllByRecursion (IsLow s) ts
  at_header g false e follows is = absurd (ok_err ts b.place (sym (read_stray size last begun b bs g e follows) ∙ is))
  at_header g true e follows is =
      let t : Sequenced = record { sequence = g.sequence; transaction = begun } in
      let us = and_then_ok t (reading size [] (Some g.sequence) nothing bs) ts (sym (read_header size last begun b bs g e follows) ∙ is) in
      let Q : List Sequenced → Type 0 = λ xs. AllByRecursion (IsLow s) xs in
      subst Q (sym us.2) (low g e, rest [] (Some g.sequence) nothing us.0 us.1)

  at_chunk : (o : Option Chunk) → accepted b.place b.bytes ≡ None → chunk_in size (length bs) b.bytes ≡ o → reading size [] last begun (b ∷ bs) ≡ Ok ts → AllByRecursion (IsLow s) ts
  at_chunk None e is_none is = absurd (ok_err ts b.place (sym (read_none size last begun b bs e is_none) ∙ is))
  at_chunk (Some c) e is_some is = rest c.due last (joined begun (record { blocks = []; revokes = c.revokes })) ts (sym (read_chunk size last begun b bs c e is_some) ∙ is)

  at_block : (o : Option LogHeader) → accepted b.place b.bytes ≡ o → reading size [] last begun (b ∷ bs) ≡ Ok ts → AllByRecursion (IsLow s) ts
  at_block (Some g) e is = at_header g (may_follow last g.sequence) e refl is
  at_block None e is = at_chunk (chunk_in size (length bs) b.bytes) e refl is

  at_due : (d : Due) (ds : List Due) (o : Option Transaction) → part_of d b.bytes ≡ o → reading size (d ∷ ds) last begun (b ∷ bs) ≡ Ok ts → AllByRecursion (IsLow s) ts
  at_due d ds None e is = absurd (ok_err ts b.place (sym (read_other size last begun b bs d ds e) ∙ is))
  at_due d ds (Some part) e is = rest ds last (joined begun part) ts (sym (read_due size last begun b bs d ds part e) ∙ is)

pub read_low : (size s : ℕ) (bs : List Placed) → AllByRecursion (HasLow s) bs → Lows size s bs
read_low size s [] low due last begun ts is =
    let none : [] ≡ ts = ok_is (sym (read_end size due last begun) ∙ is) in
    let Q : List Sequenced → Type 0 = λ xs. AllByRecursion (IsLow s) xs in
    subst Q none tt
read_low size s (b ∷ bs) low (d ∷ ds) last begun ts is = at_due size s b bs last begun ts low.0 (read_low size s bs low.1) d ds (part_of d b.bytes) refl is
read_low size s (b ∷ bs) low [] last begun ts is = at_block size s b bs last begun ts low.0 (read_low size s bs low.1) (accepted b.place b.bytes) refl is

-- in a ring whose head has a lower sequence, each header has
pub ring_low : (ring : Ring) (s : ℕ) → ((h : LogHeader) → head_in ring ≡ Some h → h.sequence < s) → (q n : ℕ) → ((i : ℕ) → i < n → place_on ring.places q i < ring.places) → AllByRecursion (HasLow s) (blocks_from ring q n)
ring_low ring s older q zero inside = tt
ring_low ring s older q (suc n) inside = (
  (λ g e. let h = head_upper ring q g (inside 0 (omega arith)) e in omega (arith, older h.0 h.1, h.2)),
  ring_low ring s older (next ring.places q) n (λ i less. inside (suc i) (omega (arith, less))),
)
