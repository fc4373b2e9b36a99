-- The place at which a journal is bad is one of its places.
use Rattle.std.proofs.Common.{◌≡◌, ◌+◌, ◌<◌, ℕ, zero, suc, Bool, true, false, if◌then◌else◌, List, [], ◌∷◌, length, Option, None, Some, Result, Ok, Err, refl, sym, ap, subst, ◌∙◌, arith}
use Rattle.std.specs.List.{AllByRecursion}
use Rattle.std.proofs.lemmas.Bool.Decides.{nat_tests}
use Rattle.log_layout.specs.Chunks.{Chunk, Transaction, chunk_in, joined, nothing, part_of}
use Rattle.log_layout.specs.Journal.{Placed, Ring, accepted, blocks_from, next, refuses_tail, way}
use Rattle.log_layout.specs.Transactions.{Sequenced, and_then, may_follow, reading, transactions_of}
use Rattle.log_layout.specs.declared.due.Due.{Due}
use Rattle.log_layout.specs.declared.log_header.LogHeader.{LogHeader}
use Rattle.journal_scan.proofs.Steps.{read_chunk, read_due, read_end, read_header, read_none, read_other, read_stray}

err_is : {A : Type 0} {p q : ℕ} → ◌≡◌ {A = Result A ℕ} (Err p) (Err q) → p ≡ q
err_is e = cc

ok_err : {A : Type 0} (x : A) (p : ℕ) → ◌≡◌ {A = Result A ℕ} (Ok x) (Err p) → ⊥
ok_err x p e = cc

more_err : (t : Sequenced) (r : Result (List Sequenced) ℕ) (p : ℕ) → and_then t r ≡ Err p → r ≡ Err p
more_err t (Ok us) p e = absurd (ok_err (t ∷ us) p e)
more_err t (Err q) p e = ap Err (err_is e)

abbrev IsBelow : ℕ → Placed → Type 0
IsBelow n b = b.place < n

abbrev BadBelow : ℕ → ℕ → List Placed → Type 0
BadBelow size n bs = (due : List Due) (last : Option ℕ) (begun : Transaction) (p : ℕ) → reading size due last begun bs ≡ Err p → p < n

module _ (size n : ℕ) (b : Placed) (bs : List Placed) (last : Option ℕ) (begun : Transaction) (p : ℕ) (low : b.place < n) (rest : BadBelow size n bs) where
  here : ◌≡◌ {A = Result (List Sequenced) ℕ} (Err b.place) (Err p) → p < n
  here e = subst (λ q. q < n) (err_is e) low

  at_header : (g : LogHeader) (f : Bool) → accepted b.place b.bytes ≡ Some g → may_follow last g.sequence ≡ f → reading size [] last begun (b ∷ bs) ≡ Err p → p < n
  at_header g false e follows is = here (sym (read_stray size last begun b bs g e follows) ∙ is)
  at_header g true e follows is =
      rest [] (Some g.sequence) nothing p
      (more_err (record { sequence = g.sequence; transaction = begun }) (reading size [] (Some g.sequence) nothing bs) p (sym (read_header size last begun b bs g e follows) ∙ is))

  at_chunk : (o : Option Chunk) → accepted b.place b.bytes ≡ None → chunk_in size (length bs) b.bytes ≡ o → reading size [] last begun (b ∷ bs) ≡ Err p → p < n
  at_chunk None e is_none is = here (sym (read_none size last begun b bs e is_none) ∙ is)
  at_chunk (Some c) e is_some is = rest c.due last (joined begun (record { blocks = []; revokes = c.revokes })) p (sym (read_chunk size last begun b bs c e is_some) ∙ is)

  at_block : (o : Option LogHeader) → accepted b.place b.bytes ≡ o → reading size [] last begun (b ∷ bs) ≡ Err p → p < n
  at_block (Some g) e is = at_header g (may_follow last g.sequence) e refl is
  at_block None e is = at_chunk (chunk_in size (length bs) b.bytes) e refl is

  at_due : (d : Due) (ds : List Due) (o : Option Transaction) → part_of d b.bytes ≡ o → reading size (d ∷ ds) last begun (b ∷ bs) ≡ Err p → p < n
  at_due d ds None e is = here (sym (read_other size last begun b bs d ds e) ∙ is)
  at_due d ds (Some part) e is = rest ds last (joined begun part) p (sym (read_due size last begun b bs d ds part e) ∙ is)

bad_below : (size n : ℕ) (bs : List Placed) → AllByRecursion (IsBelow n) bs → BadBelow size n bs
bad_below size n [] all due last begun p is = absurd (ok_err [] p (sym (read_end size due last begun) ∙ is))
bad_below size n (b ∷ bs) all (d ∷ ds) last begun p is = at_due size n b bs last begun p all.0 (bad_below size n bs all.1) d ds (part_of d b.bytes) refl is
bad_below size n (b ∷ bs) all [] last begun p is = at_block size n b bs last begun p all.0 (bad_below size n bs all.1) (accepted b.place b.bytes) refl is

blocks_below : (ring : Ring) (p n : ℕ) → p < ring.places → AllByRecursion (IsBelow ring.places) (blocks_from ring p n)
blocks_below ring p zero low = tt
blocks_below ring p (suc n) low = (low, blocks_below ring (next ring.places p) n (let inside : next ring.places p < ring.places = grind (arith, nat_tests, low) in inside))

pub bad_is_inside : (ring : Ring) (head : LogHeader) (p : ℕ) → head.blkno < ring.places → transactions_of ring head ≡ Err p → p < ring.places
bad_is_inside ring head p low is = by_clean head.clean is
  where
    told : Result (List Sequenced) ℕ
    told = reading ring.size [] None nothing (blocks_from ring head.tail (way ring.places head.tail head.blkno + 1))

    by_tail : (b : Bool) → refuses_tail ring.places head ≡ b → (if b then Err head.blkno else told) ≡ Err p → p < ring.places
    by_tail true e got = subst (λ q. q < ring.places) (err_is got) low
    by_tail false e got =
        let inside : head.tail < ring.places = grind (arith, nat_tests, e) in
        bad_below ring.size ring.places _ (blocks_below ring head.tail (way ring.places head.tail head.blkno + 1) inside) [] None nothing p got

    by_clean : (b : Bool) → (if b then Ok [] else if refuses_tail ring.places head then Err head.blkno else told) ≡ Err p → p < ring.places
    by_clean true got = absurd (ok_err [] p got)
    by_clean false got = by_tail (refuses_tail ring.places head) refl got
