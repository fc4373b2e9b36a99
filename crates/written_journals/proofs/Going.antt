-- Blocks that are whole transactions, and what is read behind them.
use Rattle.std.proofs.Common.{◌≡◌, ◌+◌, ◌<◌, ◌≤◌, ◌++◌, ℕ, Bool, true, false, List, [], ◌∷◌, length, Option, None, Some, Result, Ok, Err, refl, sym, ap, ◌∙◌, arith, length-append}
use Rattle.std.specs.Prelude.{◌==◌, ◌&&◌, nat_le, if◌then◌else◌}
use Rattle.std.proofs.lemmas.Bool.{cond-true, eqb-true}
use Rattle.std.proofs.lemmas.Bool.Decides.{nat_tests}
use Rattle.gfs2_layout.specs.declared.fault.LayoutFault.{LayoutFault}
use Rattle.log_layout.specs.Chunks.{Chunk, Transaction, are_entries, chunk_in, chunk_of, dues, first_revokes, if_descriptor, joined, nothing, part_of}
use Rattle.log_layout.specs.Descriptors.{descriptor_read}
use Rattle.log_layout.specs.Journal.{Placed, accepted}
use Rattle.log_layout.specs.Transactions.{Sequenced, and_then, may_follow, reading}
use Rattle.log_layout.specs.declared.descriptor.LogDescriptor.{LogDescriptor}
use Rattle.log_layout.specs.declared.due.Due.{Due}
use Rattle.log_layout.specs.declared.log_header.LogHeader.{LogHeader}
use Rattle.journal_scan.specs.Course.{behind}
use Rattle.journal_scan.proofs.Steps.{read_chunk, read_due, read_end, read_header, read_none, read_other, read_stray}

-- the sequence of the last header
abbrev pub last_of : Option ℕ → List Sequenced → Option ℕ
last_of last [] = last
last_of last (t ∷ ts) = last_of (Some t.sequence) ts

pub ok_err : {A : Type 0} (x : A) (p : ℕ) → ◌≡◌ {A = Result A ℕ} (Err p) (Ok x) → ⊥
ok_err x p e = cc

-- ---- a chunk that fits before so many places fits before more

-- each of three tests
three : (a b c : Bool) → (a && b && c) ≡ true → (a ≡ true) × (b ≡ true) × (c ≡ true)
three true true true e = (refl, refl, refl)
three true true false e = absurd cc
three true false c e = absurd cc
three false b c e = absurd cc

record IsRoomy (size left : ℕ) (bytes : List ℕ) (c : Chunk) : Type 0 where
  room : length c.due < left
  more : (left' : ℕ) → left ≤ left' → chunk_in size left' bytes ≡ Some c

some_of : {A : Type 0} (b : Bool) (x y : A) → (if b then Some x else None) ≡ Some y → (b ≡ true) × (x ≡ y)
some_of true x y e = (refl, cc)
some_of false x y e = absurd cc

roomy : (size left : ℕ) (bytes : List ℕ) (c : Chunk) → chunk_in size left bytes ≡ Some c → IsRoomy size left bytes c
roomy size left bytes c is = by (descriptor_read bytes) refl
  where
    by : (r : Result LogDescriptor LayoutFault) → descriptor_read bytes ≡ r → IsRoomy size left bytes c
    by (Err f) e = let bad : None ≡ Some c = sym (ap (λ (r : Result LogDescriptor LayoutFault). if_descriptor size left r bytes) e) ∙ is in absurd cc
    by (Ok d) e =
        let ds = dues d.kind size d.entries bytes in
        let here : chunk_of size left d bytes ≡ Some c = sym (ap (λ (r : Result LogDescriptor LayoutFault). if_descriptor size left r bytes) e) ∙ is in
        let both = some_of (are_entries d.kind size d.entries bytes && (d.length == 1 + length ds) && nat_le d.length left) (record { due = ds; revokes = first_revokes d.kind size d.entries bytes }) c here in
        let tests = three (are_entries d.kind size d.entries bytes) (d.length == 1 + length ds) (nat_le d.length left) both.0 in
        let long : d.length ≡ 1 + length ds = eqb-true d.length (1 + length ds) tests.1 in
        let inside : d.length ≤ left = grind (arith, nat_tests, tests.2) in
        let same : length ds ≡ length c.due = ap (λ (x : Chunk). length x.due) both.1 in
        record {
          room = omega (arith, long, inside, same);
          more = λ left' le.
              let fits : nat_le d.length left' ≡ true = grind (arith, nat_tests, inside, le) in
              ap (λ (r : Result LogDescriptor LayoutFault). if_descriptor size left' r bytes) e
              ∙ cond-true _ _ _ (λ i. tests.0 i && tests.1 i && fits i) ∙ ap Some both.1;
        }

-- ---- what is read behind whole transactions

pub and_then_ok : (t : Sequenced) (r : Result (List Sequenced) ℕ) (ts : List Sequenced) → and_then t r ≡ Ok ts → (us : List Sequenced) × (r ≡ Ok us) × (ts ≡ t ∷ us)
and_then_ok t (Ok us) ts e = (us, refl, cc)
and_then_ok t (Err p) ts e = absurd (ok_err ts p e)

ok_same : {A : Type 0} {x y : A} → ◌≡◌ {A = Result A ℕ} (Ok x) (Ok y) → x ≡ y
ok_same e = cc

-- what is read of these blocks and more behind them
abbrev pub Goes : ℕ → List Placed → List Placed → Type 0
Goes size ys bs = (due : List Due) (last : Option ℕ) (begun : Transaction) (us : List Sequenced) → length due < length bs → reading size due last begun bs ≡ Ok us
    → reading size due last begun (bs ++ ys) ≡ behind us (reading size [] (last_of last us) nothing ys)

-- behind a header: there is nothing, or what goes on
pub goes_behind : (size : ℕ) (ys bs : List Placed) (sequence : ℕ) (us : List Sequenced) → Goes size ys bs → reading size [] (Some sequence) nothing bs ≡ Ok us
    → reading size [] (Some sequence) nothing (bs ++ ys) ≡ behind us (reading size [] (last_of (Some sequence) us) nothing ys)
goes_behind size ys [] sequence us rest is =
    let none : [] ≡ us = ok_same (sym (read_end size [] (Some sequence) nothing) ∙ is) in
    ap (λ xs. behind xs (reading size [] (last_of (Some sequence) xs) nothing ys)) none
goes_behind size ys (b ∷ bs) sequence us rest is = rest [] (Some sequence) nothing us (omega arith) is

module _ (size : ℕ) (ys : List Placed) (b : Placed) (bs : List Placed) (last : Option ℕ) (begun : Transaction) (ts : List Sequenced) where
  at_header : (g : LogHeader) (f : Bool) → accepted b.place b.bytes ≡ Some g → may_follow last g.sequence ≡ f → Goes size ys bs → reading size [] last begun (b ∷ bs) ≡ Ok ts
      → reading size [] last begun (b ∷ (bs ++ ys)) ≡ behind ts (reading size [] (last_of last ts) nothing ys)
  at_header g false e follows rest is = absurd (ok_err ts b.place (sym (read_stray size last begun b bs g e follows) ∙ is))
  at_header g true e follows rest is =
      let t : Sequenced = record { sequence = g.sequence; transaction = begun } in
      let us = and_then_ok t (reading size [] (Some g.sequence) nothing bs) ts (sym (read_header size last begun b bs g e follows) ∙ is) in
      read_header size last begun b (bs ++ ys) g e follows
      ∙ ap (and_then t) (goes_behind size ys bs g.sequence us.0 rest us.1)
      ∙ ap (λ xs. behind xs (reading size [] (last_of last xs) nothing ys)) (sym us.2)

  at_chunk : (o : Option Chunk) → accepted b.place b.bytes ≡ None → chunk_in size (length bs) b.bytes ≡ o → Goes size ys bs → reading size [] last begun (b ∷ bs) ≡ Ok ts
      → reading size [] last begun (b ∷ (bs ++ ys)) ≡ behind ts (reading size [] (last_of last ts) nothing ys)
  at_chunk None e is_none rest is = absurd (ok_err ts b.place (sym (read_none size last begun b bs e is_none) ∙ is))
  at_chunk (Some c) e is_some rest is =
      let fits = roomy size (length bs) b.bytes c is_some in
      let begun' = joined begun (record { blocks = []; revokes = c.revokes }) in
      read_chunk size last begun b (bs ++ ys) c e (fits.more (length (bs ++ ys)) (omega (arith, length-append bs ys)))
      ∙ rest c.due last begun' ts fits.room (sym (read_chunk size last begun b bs c e is_some) ∙ is)

  at_block : (o : Option LogHeader) → accepted b.place b.bytes ≡ o → Goes size ys bs → reading size [] last begun (b ∷ bs) ≡ Ok ts
      → reading size [] last begun (b ∷ (bs ++ ys)) ≡ behind ts (reading size [] (last_of last ts) nothing ys)
  at_block (Some g) e rest is = at_header g (may_follow last g.sequence) e refl rest is
  at_block None e rest is = at_chunk (chunk_in size (length bs) b.bytes) e refl rest is

  at_due : (d : Due) (ds : List Due) (o : Option Transaction) → part_of d b.bytes ≡ o → Goes size ys bs → length (d ∷ ds) < length (b ∷ bs) → reading size (d ∷ ds) last begun (b ∷ bs) ≡ Ok ts
      → reading size (d ∷ ds) last begun (b ∷ (bs ++ ys)) ≡ behind ts (reading size [] (last_of last ts) nothing ys)
  at_due d ds None e rest less is = absurd (ok_err ts b.place (sym (read_other size last begun b bs d ds e) ∙ is))
  at_due d ds (Some part) e rest less is =
      read_due size last begun b (bs ++ ys) d ds part e ∙ rest ds last (joined begun part) ts (omega (arith, less)) (sym (read_due size last begun b bs d ds part e) ∙ is)

-- Blocks of which whole transactions are read say the same with others behind them, of which it then goes on.
pub going_on : (size : ℕ) (ys xs : List Placed) → Goes size ys xs
going_on size ys [] due last begun ts less is = absurd (omega (arith, less))
going_on size ys (b ∷ bs) (d ∷ ds) last begun ts less is = at_due size ys b bs last begun ts d ds (part_of d b.bytes) refl (going_on size ys bs) less is
going_on size ys (b ∷ bs) [] last begun ts less is = at_block size ys b bs last begun ts (accepted b.place b.bytes) refl (going_on size ys bs) is
