-- Transactions that stand in a journal one behind the other.
use Rattle.std.proofs.Common.{◌≡◌, ◌+◌, ◌-◌, ◌<◌, ◌≤◌, ◌++◌, ℕ, zero, suc, Bool, true, false, List, [], ◌∷◌, length, Option, None, Some, Result, Ok, Err, refl, sym, ap, subst, ◌∙◌, arith, length-append}
use Rattle.log_layout.specs.Chunks.{Chunk, Transaction, chunk_in, joined, nothing, part_of}
use Rattle.log_layout.specs.Journal.{Placed, Ring, accepted, blocks_from}
use Rattle.log_layout.specs.Transactions.{Sequenced, may_follow, reading}
use Rattle.log_layout.specs.declared.due.Due.{Due}
use Rattle.log_layout.specs.declared.log_header.LogHeader.{LogHeader}
use Rattle.journal_scan.specs.Course.{behind}
use Rattle.journal_scan.proofs.Steps.{read_chunk, read_due, read_end, read_header, read_none, read_other, read_stray}
use Rattle.node_journal.specs.Places.{place_on}
use Rattle.written_journals.proofs.Going.{and_then_ok, going_on, last_of, ok_err}
use Rattle.written_journals.proofs.RingsWritten.{blocks_further, place_further}
use Rattle.log_rings.specs.Laid.{AreLaid, Laid, places_of, sequenced_all}

pub ok_is : {A : Type 0} {x y : A} → ◌≡◌ {A = Result A ℕ} (Ok x) (Ok y) → x ≡ y
ok_is e = cc

-- ---- what is read behind a header is read from there on too

abbrev Alone : ℕ → List Placed → Type 0
Alone size bs = (due : List Due) (last : Option ℕ) (begun : Transaction) (ts : List Sequenced) → reading size due last begun bs ≡ Ok ts → reading size due None begun bs ≡ Ok ts

module _ (size : ℕ) (b : Placed) (bs : List Placed) (last : Option ℕ) (begun : Transaction) (ts : List Sequenced) (rest : Alone size bs) where
  at_header : (g : LogHeader) (f : Bool) → accepted b.place b.bytes ≡ Some g → may_follow last g.sequence ≡ f → reading size [] last begun (b ∷ bs) ≡ Ok ts → reading size [] None begun (b ∷ bs) ≡ Ok ts
  at_header g false e follows is = absurd (ok_err ts b.place (sym (read_stray size last begun b bs g e follows) ∙ is))
  at_header g true e follows is = read_header size None begun b bs g e refl ∙ sym (read_header size last begun b bs g e follows) ∙ is

  at_chunk : (o : Option Chunk) → accepted b.place b.bytes ≡ None → chunk_in size (length bs) b.bytes ≡ o → reading size [] last begun (b ∷ bs) ≡ Ok ts → reading size [] None begun (b ∷ bs) ≡ Ok ts
  at_chunk None e is_none is = absurd (ok_err ts b.place (sym (read_none size last begun b bs e is_none) ∙ is))
  at_chunk (Some c) e is_some is =
      read_chunk size None begun b bs c e is_some
      ∙ rest c.due last (joined begun (record { blocks = []; revokes = c.revokes })) ts (sym (read_chunk size last begun b bs c e is_some) ∙ is)

  at_block : (o : Option LogHeader) → accepted b.place b.bytes ≡ o → reading size [] last begun (b ∷ bs) ≡ Ok ts → reading size [] None begun (b ∷ bs) ≡ Ok ts
  at_block (Some g) e is = at_header g (may_follow last g.sequence) e refl is
  at_block None e is = at_chunk (chunk_in size (length bs) b.bytes) e refl is

  at_due : (d : Due) (ds : List Due) (o : Option Transaction) → part_of d b.bytes ≡ o → reading size (d ∷ ds) last begun (b ∷ bs) ≡ Ok ts → reading size (d ∷ ds) None begun (b ∷ bs) ≡ Ok ts
  at_due d ds None e is = absurd (ok_err ts b.place (sym (read_other size last begun b bs d ds e) ∙ is))
  at_due d ds (Some part) e is = read_due size None begun b bs d ds part e ∙ rest ds last (joined begun part) ts (sym (read_due size last begun b bs d ds part e) ∙ is)

pub read_alone : (size : ℕ) (bs : List Placed) → Alone size bs
read_alone size [] due last begun ts is = read_end size due None begun ∙ sym (read_end size due last begun) ∙ is
read_alone size (b ∷ bs) (d ∷ ds) last begun ts is = at_due size b bs last begun ts (read_alone size bs) d ds (part_of d b.bytes) refl is
read_alone size (b ∷ bs) [] last begun ts is = at_block size b bs last begun ts (read_alone size bs) (accepted b.place b.bytes) refl is

-- ---- one behind the other

-- what goes on behind whole transactions, of which there may be none
pub goes_on : (size : ℕ) (ys xs : List Placed) (last : Option ℕ) (before : List Sequenced) → reading size [] last nothing xs ≡ Ok before
    → reading size [] last nothing (xs ++ ys) ≡ behind before (reading size [] (last_of last before) nothing ys)
goes_on size ys [] last before is =
    let none : [] ≡ before = ok_is (sym (read_end size [] last nothing) ∙ is) in
    ap (λ ts. behind ts (reading size [] (last_of last ts) nothing ys)) none
goes_on size ys (b ∷ bs) last before is = going_on size ys (b ∷ bs) [] last nothing before (omega arith) is

-- from where they begin they are read, one after another
pub laid_read : (ring : Ring) (p : ℕ) (last : Option ℕ) (ts : List Laid) (q : ℕ) → AreLaid ring p last ts q → reading ring.size [] last nothing (blocks_from ring p (places_of ts)) ≡ Ok (sequenced_all ts)
laid_read ring p last [] q are = read_end ring.size [] last nothing
laid_read ring p last (t ∷ ts) q are =
    let rest = blocks_from ring (place_on ring.places p t.count) (places_of ts) in
    ap (reading ring.size [] last nothing) (blocks_further ring p t.count (places_of ts))
    ∙ goes_on ring.size rest (blocks_from ring p t.count) last (t.sequenced ∷ []) are.2
    ∙ ap (behind (t.sequenced ∷ [])) (laid_read ring (place_on ring.places p t.count) (Some t.sequenced.sequence) ts q are.3)

-- so the first of them may be the first of all
pub laid_alone : (ring : Ring) (p : ℕ) (last : Option ℕ) (ts : List Laid) (q : ℕ) → AreLaid ring p last ts q → AreLaid ring p None ts q
laid_alone ring p last [] q are = are
laid_alone ring p last (t ∷ ts) q are = (are.0, are.1, read_alone ring.size (blocks_from ring p t.count) [] last nothing (t.sequenced ∷ []) are.2, are.3)

-- ---- parts of them

-- the sequence of the last of them, or this one
abbrev pub last_laid : Option ℕ → List Laid → Option ℕ
last_laid last [] = last
last_laid last (t ∷ ts) = last_laid (Some t.sequenced.sequence) ts

-- those behind some begin where these end
pub laid_behind : (ring : Ring) (p : ℕ) (last : Option ℕ) (before ts : List Laid) (q : ℕ) → AreLaid ring p last (before ++ ts) q → AreLaid ring (place_on ring.places p (places_of before)) (last_laid last before) ts q
laid_behind ring p last [] ts q are = are
laid_behind ring p last (t ∷ before) ts q are =
    subst (λ r. AreLaid ring r (last_laid (Some t.sequenced.sequence) before) ts q) (place_further ring.places p t.count (places_of before))
    (laid_behind ring (place_on ring.places p t.count) (Some t.sequenced.sequence) before ts q are.3)

-- one more stands behind them
pub laid_more : (ring : Ring) (p : ℕ) (last : Option ℕ) (ts : List Laid) (q : ℕ) (t : Laid) → AreLaid ring p last ts q → t.first ≡ q → 1 ≤ t.count
    → reading ring.size [] (last_laid last ts) nothing (blocks_from ring q t.count) ≡ Ok (t.sequenced ∷ []) → AreLaid ring p last (ts ++ t ∷ []) (place_on ring.places q t.count)
laid_more ring p last [] q t are first some read = (
  first ∙ sym are,
  some,
  subst (λ r. reading ring.size [] last nothing (blocks_from ring r t.count) ≡ Ok (t.sequenced ∷ [])) (sym are) read,
  ap (λ r. place_on ring.places r t.count) are,
)
laid_more ring p last (u ∷ ts) q t are first some read =
    (are.0, are.1, are.2, laid_more ring (place_on ring.places p u.count) (Some u.sequenced.sequence) ts q t are.3 first some read)

pub places-append : (before ts : List Laid) → places_of (before ++ ts) ≡ places_of before + places_of ts
places-append [] ts = let e : places_of ts ≡ 0 + places_of ts = omega arith in e
places-append (t ∷ before) ts = let rest = places-append before ts in omega (arith, rest)

pub sequenced-append : (before ts : List Laid) → sequenced_all (before ++ ts) ≡ sequenced_all before ++ sequenced_all ts
sequenced-append [] ts = refl
sequenced-append (t ∷ before) ts = ap (λ us. t.sequenced ∷ us) (sequenced-append before ts)

pub last_is : (last : Option ℕ) (ts : List Laid) → last_of last (sequenced_all ts) ≡ last_laid last ts
last_is last [] = refl
last_is last (t ∷ ts) = last_is (Some t.sequenced.sequence) ts
