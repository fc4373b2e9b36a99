-- What is live in a journal of whole blocks is whole blocks.
use Rattle.std.proofs.Common.{◌≡◌, ◌+◌, ◌≤◌, ◌<◌, ◌++◌, ℕ, zero, suc, Bool, true, false, if◌then◌else◌, List, [], ◌∷◌, length, Option, None, Some, Result, Ok, Err, refl, sym, ap, subst, ◌∙◌, inl, inr, arith}
use Rattle.std.specs.Prelude.{◌==◌, filter}
use Rattle.std.specs.Int.{w32}
use Rattle.std.specs.List.{AllByRecursion, flat_map, last_or}
use Rattle.std.specs.Option.{option_map}
use Rattle.std.proofs.lemmas.Bool.{cases_Bool, cond-true, cond-false}
use Rattle.std.proofs.lemmas.Bool.Decides.{nat_tests}
use Rattle.gfs2_layout.specs.Bytes.{u32_at}
use Rattle.gfs2_layout.specs.Structures.{header_fault, magic}
use Rattle.gfs2_layout.specs.declared.fault.LayoutFault.{LayoutFault}
use Rattle.gfs2_layout.proofs.InPlace.{length-with, is_width_32}
use Rattle.log_layout.specs.Chunks.{Chunk, Logged, Transaction, chunk_in, if_headed, if_revokes, joined, nothing, numbers_at, one_block, part_of, restored}
use Rattle.log_layout.specs.Journal.{IsWhole, Placed, Ring, accepted, blocks_from, head_in, next, refuses_tail, way}
use Rattle.log_layout.specs.Live.{counting, entries_in, is_cancelled, live_entry, live_in, live_read, live_under}
use Rattle.log_layout.specs.Transactions.{Sequenced, and_then, may_follow, reading, transactions_of}
use Rattle.log_layout.specs.declared.due.Due.{Due}
use Rattle.log_layout.specs.declared.due.Due.TheVariants.{Metadata, Content, Further}
use Rattle.log_layout.specs.declared.log_header.LogHeader.{LogHeader}
use Rattle.journal_scan.proofs.Steps.{read_chunk, read_due, read_end, read_header, read_none, read_other, read_stray}
use Rattle.journal_plans.specs.Laws.{LiveIsWhole}

abbrev IsWholeEntry : ℕ → Logged → Type 0
IsWholeEntry size e = length e.bytes ≡ size

abbrev IsWholeTransaction : ℕ → Transaction → Type 0
IsWholeTransaction size t = AllByRecursion (IsWholeEntry size) t.blocks

abbrev AreWhole : ℕ → List Sequenced → Type 0
AreWhole size ts = AllByRecursion (λ (s : Sequenced). IsWholeTransaction size s.transaction) ts

abbrev IsWholeBlock : ℕ → Placed → Type 0
IsWholeBlock size b = length b.bytes ≡ size

-- ---- small steps

ok_is : {A : Type 0} {x y : A} → ◌≡◌ {A = Result A ℕ} (Ok x) (Ok y) → x ≡ y
ok_is e = cc

some_is : {A : Type 0} {x y : A} → ◌≡◌ {A = Option A} (Some x) (Some y) → x ≡ y
some_is e = cc

err_ok : {A : Type 0} (x : A) (p : ℕ) → ◌≡◌ {A = Result A ℕ} (Err p) (Ok x) → ⊥
err_ok x p e = cc

none_some : {A : Type 0} (x : A) → ◌≡◌ {A = Option A} None (Some x) → ⊥
none_some x e = cc

more_ok : (t : Sequenced) (r : Result (List Sequenced) ℕ) (ts : List Sequenced) → and_then t r ≡ Ok ts → (us : List Sequenced) × (r ≡ Ok us) × (ts ≡ t ∷ us)
more_ok t (Ok us) ts e = (us, refl, cc)
more_ok t (Err p) ts e = absurd (err_ok ts p e)

all_append : {A : Type 0} (P : A → Type 0) (xs ys : List A) → AllByRecursion P xs → AllByRecursion P ys → AllByRecursion P (xs ++ ys)
all_append P [] ys all more = more
all_append P (x ∷ xs) ys all more = (all.0, all_append P xs ys all.1 more)

all_filter : {A : Type 0} (P : A → Type 0) (f : A → Bool) (xs : List A) → AllByRecursion P xs → AllByRecursion P (filter f xs)
all_filter P f [] all = tt
all_filter P f (x ∷ xs) all = elim (cases_Bool (f x)) [
  | inl is ↦ subst (λ ys. AllByRecursion P ys) (sym (cond-true (f x) (x ∷ filter f xs) (filter f xs) is)) (all.0, all_filter P f xs all.1)
  | inr is ↦ subst (λ ys. AllByRecursion P ys) (sym (cond-false (f x) (x ∷ filter f xs) (filter f xs) is)) (all_filter P f xs all.1)
]

last_is_one : {A : Type 0} (P : A → Type 0) (o : Option A) (xs : List A) (x : A) → ((y : A) → o ≡ Some y → P y) → AllByRecursion P xs → last_or o xs ≡ Some x → P x
last_is_one P o [] x first all is = first x is
last_is_one P o (y ∷ ys) x first all is = last_is_one P (Some y) ys x (λ z e. subst P (some_is e) all.0) all.1 is

-- ---- what is read

-- each block adds whole ones
part_is_whole : (size : ℕ) (d : Due) (bytes : List ℕ) (part : Transaction) → 4 ≤ size → length bytes ≡ size → part_of d bytes ≡ Some part → IsWholeTransaction size part
part_is_whole size (Metadata block) bytes part big whole is = by (u32_at 0 bytes == magic) is
  where
    by : (b : Bool) → (if b then Some (one_block block false bytes) else None) ≡ Some part → IsWholeTransaction size part
    by true e = subst (IsWholeTransaction size) (some_is e) (whole, tt)
    by false e = absurd (none_some part e)
part_is_whole size (Content block escaped) bytes part big whole is = by escaped is
  where
    by : (b : Bool) → Some (one_block block true (if b then restored bytes else bytes)) ≡ Some part → IsWholeTransaction size part
    by true e = subst (IsWholeTransaction size) (some_is e) (length-with w32 0 magic bytes is_width_32 (omega (arith, big, whole)) ∙ whole, tt)
    by false e = subst (IsWholeTransaction size) (some_is e) (whole, tt)
part_is_whole size (Further count) bytes part big whole is = by (header_fault 24 12 1000 bytes) is
  where
    by : (f : Option LayoutFault) → if_revokes (if_headed f (numbers_at 24 8 count bytes)) ≡ Some part → IsWholeTransaction size part
    by None e = subst (IsWholeTransaction size) (some_is e) tt
    by (Some fault) e = absurd (none_some part e)

abbrev Wholes : ℕ → List Placed → Type 0
Wholes size bs = (due : List Due) (last : Option ℕ) (begun : Transaction) (ts : List Sequenced) → IsWholeTransaction size begun → reading size due last begun bs ≡ Ok ts → AreWhole size ts

module _ (size : ℕ) (big : 4 ≤ size) (b : Placed) (bs : List Placed) (last : Option ℕ) (begun : Transaction) (ts : List Sequenced) (whole : IsWholeBlock size b) (so_far : IsWholeTransaction size begun)
    (rest : Wholes size bs) where
  at_header : (g : LogHeader) (f : Bool) → accepted b.place b.bytes ≡ Some g → may_follow last g.sequence ≡ f → reading size [] last begun (b ∷ bs) ≡ Ok ts → AreWhole size ts
  at_header g false e follows is = absurd (err_ok ts b.place (sym (read_stray size last begun b bs g e follows) ∙ is))
  at_header g true e follows is =
      let t : Sequenced = record { sequence = g.sequence; transaction = begun } in
      let us = more_ok t (reading size [] (Some g.sequence) nothing bs) ts (sym (read_header size last begun b bs g e follows) ∙ is) in
      subst (AreWhole size) (sym us.2) (so_far, rest [] (Some g.sequence) nothing us.0 tt us.1)

  at_chunk : (o : Option Chunk) → accepted b.place b.bytes ≡ None → chunk_in size (length bs) b.bytes ≡ o → reading size [] last begun (b ∷ bs) ≡ Ok ts → AreWhole size ts
  at_chunk None e is_none is = absurd (err_ok ts b.place (sym (read_none size last begun b bs e is_none) ∙ is))
  at_chunk (Some c) e is_some is =
      rest c.due last (joined begun (record { blocks = []; revokes = c.revokes })) ts (all_append (IsWholeEntry size) begun.blocks [] so_far tt) (sym (read_chunk size last begun b bs c e is_some) ∙ is)

  at_block : (o : Option LogHeader) → accepted b.place b.bytes ≡ o → reading size [] last begun (b ∷ bs) ≡ Ok ts → AreWhole size ts
  at_block (Some g) e is = at_header g (may_follow last g.sequence) e refl is
  at_block None e is = at_chunk (chunk_in size (length bs) b.bytes) e refl is

  at_due : (d : Due) (ds : List Due) (o : Option Transaction) → part_of d b.bytes ≡ o → reading size (d ∷ ds) last begun (b ∷ bs) ≡ Ok ts → AreWhole size ts
  at_due d ds None e is = absurd (err_ok ts b.place (sym (read_other size last begun b bs d ds e) ∙ is))
  at_due d ds (Some part) e is =
      rest ds last (joined begun part) ts (all_append (IsWholeEntry size) begun.blocks part.blocks so_far (part_is_whole size d b.bytes part big whole e)) (sym (read_due size last begun b bs d ds part e) ∙ is)

read_whole : (size : ℕ) → 4 ≤ size → (bs : List Placed) → AllByRecursion (IsWholeBlock size) bs → Wholes size bs
read_whole size big [] whole due last begun ts so_far is = subst (AreWhole size) (ok_is (sym (read_end size due last begun) ∙ is)) tt
read_whole size big (b ∷ bs) whole (d ∷ ds) last begun ts so_far is = at_due size big b bs last begun ts whole.0 so_far (read_whole size big bs whole.1) d ds (part_of d b.bytes) refl is
read_whole size big (b ∷ bs) whole [] last begun ts so_far is = at_block size big b bs last begun ts whole.0 so_far (read_whole size big bs whole.1) (accepted b.place b.bytes) refl is

-- ---- what is live

module _ (ring : Ring) (big : 4 ≤ ring.size) (whole : IsWhole ring) where
  blocks_whole : (p n : ℕ) → p < ring.places → AllByRecursion (IsWholeBlock ring.size) (blocks_from ring p n)
  blocks_whole p zero inside = tt
  blocks_whole p (suc n) inside = (whole p inside, blocks_whole (next ring.places p) n (let low : next ring.places p < ring.places = grind (arith, nat_tests, inside) in low))

  transactions_whole : (head : LogHeader) (ts : List Sequenced) → transactions_of ring head ≡ Ok ts → AreWhole ring.size ts
  transactions_whole head ts is = by_clean head.clean is
    where
      told : Result (List Sequenced) ℕ
      told = reading ring.size [] None nothing (blocks_from ring head.tail (way ring.places head.tail head.blkno + 1))

      by_tail : (b : Bool) → refuses_tail ring.places head ≡ b → (if b then Err head.blkno else told) ≡ Ok ts → AreWhole ring.size ts
      by_tail true e got = absurd (err_ok ts head.blkno got)
      by_tail false e got =
          let inside : head.tail < ring.places = grind (arith, nat_tests, e) in
          read_whole ring.size big _ (blocks_whole head.tail (way ring.places head.tail head.blkno + 1) inside) [] None nothing ts tt got

      by_clean : (b : Bool) → (if b then Ok [] else if refuses_tail ring.places head then Err head.blkno else told) ≡ Ok ts → AreWhole ring.size ts
      by_clean true got = subst (AreWhole ring.size) (ok_is got) tt
      by_clean false got = by_tail (refuses_tail ring.places head) refl got

  counting_whole : (all ts : List Sequenced) (block : ℕ) → AreWhole ring.size ts
      → AllByRecursion (IsWholeEntry ring.size) (flat_map (λ (t : Sequenced). if is_cancelled all block t.sequence then [] else entries_in block t.transaction) ts)
  counting_whole all [] block are = tt
  counting_whole all (t ∷ ts) block are =
      all_append (IsWholeEntry ring.size) _ _ (each (is_cancelled all block t.sequence)) (counting_whole all ts block are.1)
    where
      each : (b : Bool) → AllByRecursion (IsWholeEntry ring.size) (if b then [] else entries_in block t.transaction)
      each true = tt
      each false = all_filter (IsWholeEntry ring.size) (λ (e : Logged). e.block == block) t.transaction.blocks are.0

  pub live_whole : (block : ℕ) (bytes : List ℕ) → live_in ring block ≡ Some bytes → length bytes ≡ ring.size
  live_whole block bytes is = under (head_in ring) is
    where
      entry : (ts : List Sequenced) → AreWhole ring.size ts → (o : Option Logged) → live_entry ts block ≡ o → option_map (λ (e : Logged). e.bytes) o ≡ Some bytes → length bytes ≡ ring.size
      entry ts are None e got = absurd (none_some bytes got)
      entry ts are (Some l) e got =
          let of_entry : length l.bytes ≡ ring.size = last_is_one (IsWholeEntry ring.size) None (counting ts block) l (λ y none. absurd (none_some y none)) (counting_whole ts ts block are) e in
          ap length (sym (some_is got)) ∙ of_entry

      read : (head : LogHeader) (r : Result (List Sequenced) ℕ) → transactions_of ring head ≡ r → live_read r block ≡ Some bytes → length bytes ≡ ring.size
      read head (Ok ts) e got = entry ts (transactions_whole head ts e) (live_entry ts block) refl got
      read head (Err place) e got = absurd (none_some bytes got)

      under : (h : Option LogHeader) → live_under ring h block ≡ Some bytes → length bytes ≡ ring.size
      under None got = absurd (none_some bytes got)
      under (Some head) got = read head (transactions_of ring head) refl got

pub live_is_whole : LiveIsWhole
live_is_whole ring big whole = live_whole ring big whole
