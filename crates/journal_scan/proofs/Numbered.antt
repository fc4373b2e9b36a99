-- Where the numbers of blocks stand.
use Rattle.std.proofs.Common.{◌≡◌, ℕ, zero, suc, ◌+◌, ◌-◌, ◌*◌, ◌<◌, ◌≤◌, ◌⊎◌, Bool, true, false, List, [], ◌∷◌, ◌++◌, length, Option, None, Some, Result, Ok, Err, refl, sym, ap, subst, ◌∙◌, inl, inr, arith}
use Rattle.std.specs.Prelude.{◌==◌, ◌||◌, map, filter, if◌then◌else◌, is_some}
use Rattle.std.specs.List.{AllByRecursion, list_any, range_with_len, flat_map, last_or}
use Rattle.std.specs.Option.{option_map}
use Rattle.std.proofs.lemmas.Bool.{cases_Bool, cond-true, cond-false}
use Rattle.std.proofs.lemmas.Bool.Decides.{nat_tests}
use Rattle.std.proofs.lemmas.List.{append-nil}
use Rattle.std.proofs.lemmas.List.Folds.{list_any-append}
use Rattle.std.proofs.lemmas.List.FromFn.{map-range_with_len_more}
use Rattle.gfs2_layout.specs.Bytes.{u64_at}
use Rattle.gfs2_layout.specs.Structures.{header_fault, magic}
use Rattle.gfs2_layout.specs.Bytes.{u32_at}
use Rattle.gfs2_layout.specs.declared.fault.LayoutFault.{LayoutFault}
use Rattle.log_layout.specs.Chunks.{Chunk, Logged, Transaction, chunk_in, dues, if_headed, if_revokes, joined, nothing, numbers_at, one_block, part_of}
use Rattle.log_layout.specs.Journal.{Placed, Ring, accepted, blocks_from, next, refuses_tail, way}
use Rattle.log_layout.specs.Live.{IsReadable, entries_in, is_cancelled, live_in, live_of, live_read, live_under}
use Rattle.log_layout.specs.Transactions.{Sequenced, and_then, may_follow, reading, transactions_of}
use Rattle.log_layout.specs.declared.descriptor.ChunkKind.{ChunkKind}
use Rattle.log_layout.specs.declared.descriptor.ChunkKind.TheVariants.{Metadata, Revoke, Journaled}
use Rattle.log_layout.specs.declared.due.Due.{Due}
use Rattle.log_layout.specs.declared.due.Due.TheVariants as due
use Rattle.log_layout.specs.declared.log_header.LogHeader.{LogHeader}
use Rattle.journal_scan.specs.Numbers.{IsNumberAt, LiveHaveNumbers, has_number, is_for, last_number, number_from}
use Rattle.journal_scan.proofs.Steps.{read_chunk, read_due, read_end, read_header, read_none, read_other, read_stray}

-- ---- one block

module _ (size block : ℕ) (found : Option ℕ) (b : Placed) (bs : List Placed) where
  pub number_passed : (n : ℕ) → last_number size block (suc n) found (b ∷ bs) ≡ last_number size block n found bs
  unfolding last_number
  number_passed n = refl

  pub number_header : (g : LogHeader) → accepted b.place b.bytes ≡ Some g → last_number size block zero found (b ∷ bs) ≡ last_number size block zero found bs
  unfolding last_number
  number_header g is = rw (is, last_number) refl

  pub number_chunk : (c : Chunk) → accepted b.place b.bytes ≡ None → chunk_in size (length bs) b.bytes ≡ Some c
      → last_number size block zero found (b ∷ bs) ≡ last_number size block (length c.due) (if has_number block c then Some b.place else found) bs
  unfolding last_number
  number_chunk c none is = rw (none, is, last_number) refl

  pub number_none : accepted b.place b.bytes ≡ None → chunk_in size (length bs) b.bytes ≡ None → last_number size block zero found (b ∷ bs) ≡ last_number size block zero found bs
  unfolding last_number
  number_none none bad = rw (none, bad, last_number) refl

pub number_end : (size block passed : ℕ) (found : Option ℕ) → last_number size block passed found [] ≡ found
unfolding last_number
number_end size block zero found = refl
number_end size block (suc n) found = refl

-- ---- the entries of a descriptor

pub any_metadata : (block : ℕ) (ns : List ℕ) → list_any (is_for block) (map due.Metadata ns) ≡ list_any (λ n. n == block) ns
any_metadata block [] = refl
any_metadata block (n ∷ ns) = ap (λ b. (n == block) || b) (any_metadata block ns)

pub any_content : (block : ℕ) (f : ℕ → ℕ) (g : ℕ → Bool) (is : List ℕ) → list_any (is_for block) (map (λ i. due.Content (f i) (g i)) is) ≡ list_any (λ n. n == block) (map f is)
any_content block f g [] = refl
any_content block f g (i ∷ is) = ap (λ b. (f i == block) || b) (any_content block f g is)

pub any_further : (block : ℕ) (f : ℕ → ℕ) (is : List ℕ) → list_any (is_for block) (map (λ i. due.Further (f i)) is) ≡ false
any_further block f [] = refl
any_further block f (i ∷ is) = any_further block f is

or_false : (b : Bool) → (b || false) ≡ b
or_false true = refl
or_false false = refl

or_true : (b : Bool) → (b || true) ≡ true
or_true true = refl
or_true false = refl

-- a test that one of the numbers passes
pub any_stops : {X : Type 0} (p : X → Bool) (f : ℕ → X) (a n i j : ℕ) → i < n → a + i ≡ j → p (f j) ≡ true → list_any p (map f (range_with_len a n)) ≡ true
any_stops p f a zero i j less at passes = absurd (omega (arith, less))
any_stops p f a (suc n) zero j less at passes = let here : a ≡ j = omega (arith, at) in ap (λ b. b || list_any p (map f (range_with_len (a + 1) n))) (ap (λ k. p (f k)) here ∙ passes)
any_stops p f a (suc n) (suc i) j less at passes =
    let rest = any_stops p f (a + 1) n i j (omega (arith, less)) (omega (arith, at)) passes in
    ap (λ b. p (f a) || b) rest ∙ or_true (p (f a))

-- a test that one number more doesn't pass
pub any_more : {X : Type 0} (p : X → Bool) (f : ℕ → X) (n : ℕ) → list_any p (map f (range_with_len 0 n)) ≡ false → p (f n) ≡ false → list_any p (map f (range_with_len 0 (n + 1))) ≡ false
any_more p f n so one =
    let z : 0 + n ≡ n = omega arith in
    ap (list_any p) (map-range_with_len_more f 0 n n z) ∙ list_any-append p (map f (range_with_len 0 n)) (f n ∷ [])
    ∙ ap (λ b. b || (p (f n) || false)) so ∙ ap (λ b. b || false) one

-- ---- a live block has a number

abbrev has_entry : ℕ → List Logged → Bool
has_entry block es = list_any (λ (e : Logged). e.block == block) es

abbrev IsIn : ℕ → List Sequenced → Bool
IsIn block ts = list_any (λ (t : Sequenced). has_entry block t.transaction.blocks) ts

is_true_or : (a b : Bool) → (a || b) ≡ true → (a ≡ true) ⊎ (b ≡ true)
is_true_or true b is = inl refl
is_true_or false b is = inr is

ok_is : {A : Type 0} {x y : A} → ◌≡◌ {A = Result A ℕ} (Ok x) (Ok y) → x ≡ y
ok_is e = cc

some_is : {A : Type 0} {x y : A} → ◌≡◌ {A = Option A} (Some x) (Some y) → x ≡ y
some_is e = cc

err_ok : {A : Type 0} (x : A) (p : ℕ) → ◌≡◌ {A = Result A ℕ} (Err p) (Ok x) → ⊥
err_ok x p e = cc

none_some : {A : Type 0} (x : A) → ◌≡◌ {A = Option A} None (Some x) → ⊥
none_some x e = cc

false_true : false ≡ true → ⊥
false_true e = cc

more_ok : (t : Sequenced) (r : Result (List Sequenced) ℕ) (ts : List Sequenced) → and_then t r ≡ Ok ts → (us : List Sequenced) × (r ≡ Ok us) × (ts ≡ t ∷ us)
more_ok t (Ok us) ts e = (us, refl, cc)
more_ok t (Err p) ts e = absurd (err_ok ts p e)

-- what was found is found, here or further on
abbrev Stays : ℕ → ℕ → List Placed → Type 0
Stays size block bs = (passed p : ℕ) → (q : ℕ) × (last_number size block passed (Some p) bs ≡ Some q)

module _ (size block p : ℕ) (b : Placed) (bs : List Placed) (rest : Stays size block bs) where
  abbrev IsFound : Type 0
  IsFound = (q : ℕ) × (last_number size block zero (Some p) (b ∷ bs) ≡ Some q)

  stays_by : (c : Chunk) (t : Bool) → (q : ℕ) × (last_number size block (length c.due) (if t then Some b.place else Some p) bs ≡ Some q)
  stays_by c true = rest (length c.due) b.place
  stays_by c false = rest (length c.due) p

  stays_chunk : (o : Option Chunk) → accepted b.place b.bytes ≡ None → chunk_in size (length bs) b.bytes ≡ o → IsFound
  stays_chunk (Some c) none is = let on = stays_by c (has_number block c) in (on.0, number_chunk size block (Some p) b bs c none is ∙ on.1)
  stays_chunk None none is = let on = rest zero p in (on.0, number_none size block (Some p) b bs none is ∙ on.1)

  stays_at : (o : Option LogHeader) → accepted b.place b.bytes ≡ o → IsFound
  stays_at (Some g) is = let on = rest zero p in (on.0, number_header size block (Some p) b bs g is ∙ on.1)
  stays_at None is = stays_chunk (chunk_in size (length bs) b.bytes) is refl

found_stays : (size block : ℕ) (bs : List Placed) → Stays size block bs
found_stays size block [] passed p = (p, number_end size block passed (Some p))
found_stays size block (b ∷ bs) (suc n) p = let on = found_stays size block bs n p in (on.0, number_passed size block (Some p) b bs n ∙ on.1)
found_stays size block (b ∷ bs) zero p = stays_at size block p b bs (found_stays size block bs) (accepted b.place b.bytes) refl

-- a part has an entry of the block only where that is due
part_is_due : (block : ℕ) (d : Due) (bytes : List ℕ) (part : Transaction) → part_of d bytes ≡ Some part → has_entry block part.blocks ≡ true → is_for block d ≡ true
part_is_due block (due.Metadata number) bytes part is has = by (u32_at 0 bytes == magic) is
  where
    by : (b : Bool) → (if b then Some (one_block number false bytes) else None) ≡ Some part → (number == block) ≡ true
    by true e = sym (or_false (number == block)) ∙ ap (λ (t : Transaction). has_entry block t.blocks) (some_is e) ∙ has
    by false e = absurd (none_some part e)
part_is_due block (due.Content number escaped) bytes part is has =
    sym (or_false (number == block)) ∙ ap (λ (t : Transaction). has_entry block t.blocks) (some_is is) ∙ has
part_is_due block (due.Further count) bytes part is has = by (header_fault 24 12 1000 bytes) is
  where
    by : (f : Option LayoutFault) → if_revokes (if_headed f (numbers_at 24 8 count bytes)) ≡ Some part → false ≡ true
    by None e = ap (λ (t : Transaction). has_entry block t.blocks) (some_is e) ∙ has
    by (Some fault) e = absurd (none_some part e)

-- an entry of the block among those that are read was there before, or is due, or has its number in a descriptor to come
abbrev Numbered : ℕ → ℕ → List Placed → Type 0
Numbered size block bs = (due : List Due) (last : Option ℕ) (begun : Transaction) (ts : List Sequenced) (found : Option ℕ) → reading size due last begun bs ≡ Ok ts → IsIn block ts ≡ true
    → (has_entry block begun.blocks ≡ true) ⊎ ((list_any (is_for block) due ≡ true) ⊎ ((q : ℕ) × (last_number size block (length due) found bs ≡ Some q)))

module _ (size block : ℕ) (b : Placed) (bs : List Placed) (last : Option ℕ) (begun : Transaction) (ts : List Sequenced) (found : Option ℕ) (has : IsIn block ts ≡ true) (rest : Numbered size block bs) where
  abbrev Told : List Due → Type 0
  Told due = (has_entry block begun.blocks ≡ true) ⊎ ((list_any (is_for block) due ≡ true) ⊎ ((q : ℕ) × (last_number size block (length due) found (b ∷ bs) ≡ Some q)))

  at_header : (g : LogHeader) (f : Bool) → accepted b.place b.bytes ≡ Some g → may_follow last g.sequence ≡ f → reading size [] last begun (b ∷ bs) ≡ Ok ts → Told []
  at_header g false e follows is = absurd (err_ok ts b.place (sym (read_stray size last begun b bs g e follows) ∙ is))
  at_header g true e follows is =
      let t : Sequenced = record { sequence = g.sequence; transaction = begun } in
      let us = more_ok t (reading size [] (Some g.sequence) nothing bs) ts (sym (read_header size last begun b bs g e follows) ∙ is) in
      elim (is_true_or (has_entry block begun.blocks) (IsIn block us.0) (ap (IsIn block) (sym us.2) ∙ has)) [
        | inl first ↦ inl first
        | inr later ↦ further us.0 (rest [] (Some g.sequence) nothing us.0 found us.1 later)
      ]
    where
      further : (us : List Sequenced) → (false ≡ true) ⊎ ((false ≡ true) ⊎ ((q : ℕ) × (last_number size block zero found bs ≡ Some q))) → Told []
      further us (inl off) = absurd (false_true off)
      further us (inr (inl off)) = absurd (false_true off)
      further us (inr (inr there)) = inr (inr (there.0, number_header size block found b bs g e ∙ there.1))

  at_chunk : (o : Option Chunk) → accepted b.place b.bytes ≡ None → chunk_in size (length bs) b.bytes ≡ o → reading size [] last begun (b ∷ bs) ≡ Ok ts → Told []
  at_chunk None e is_none is = absurd (err_ok ts b.place (sym (read_none size last begun b bs e is_none) ∙ is))
  at_chunk (Some c) e is_some is = by_test (has_number block c) refl
    where
      more : Transaction
      more = joined begun (record { blocks = []; revokes = c.revokes })

      on : reading size c.due last more bs ≡ Ok ts
      on = sym (read_chunk size last begun b bs c e is_some) ∙ is

      by_test : (t : Bool) → has_number block c ≡ t → Told []
      by_test true t =
          let stays = found_stays size block bs (length c.due) b.place in
          inr (inr (stays.0, number_chunk size block found b bs c e is_some ∙ ap (λ o. last_number size block (length c.due) o bs) (cond-true (has_number block c) (Some b.place) found t) ∙ stays.1))
      by_test false t = elim (rest c.due last more ts found on has) [
        | inl before ↦ inl (sym (ap (has_entry block) (append-nil begun.blocks)) ∙ before)
        | inr (inl due) ↦ absurd (false_true (sym t ∙ due))
        | inr (inr there) ↦ inr (inr (there.0, number_chunk size block found b bs c e is_some ∙ ap (λ o. last_number size block (length c.due) o bs) (cond-false (has_number block c) (Some b.place) found t) ∙ there.1))
      ]

  at_block : (o : Option LogHeader) → accepted b.place b.bytes ≡ o → reading size [] last begun (b ∷ bs) ≡ Ok ts → Told []
  at_block (Some g) e is = at_header g (may_follow last g.sequence) e refl is
  at_block None e is = at_chunk (chunk_in size (length bs) b.bytes) e refl is

  at_due : (d : Due) (ds : List Due) (o : Option Transaction) → part_of d b.bytes ≡ o → reading size (d ∷ ds) last begun (b ∷ bs) ≡ Ok ts → Told (d ∷ ds)
  at_due d ds None e is = absurd (err_ok ts b.place (sym (read_other size last begun b bs d ds e) ∙ is))
  at_due d ds (Some part) e is = elim (rest ds last (joined begun part) ts found (sym (read_due size last begun b bs d ds part e) ∙ is) has) [
    | inl before ↦ elim (is_true_or (has_entry block begun.blocks) (has_entry block part.blocks) (sym (list_any-append (λ (l : Logged). l.block == block) begun.blocks part.blocks) ∙ before)) [
      | inl first ↦ inl first
      | inr own ↦ inr (inl (ap (λ t. t || list_any (is_for block) ds) (part_is_due block d b.bytes part e own)))
    ]
    | inr (inl due) ↦ inr (inl (ap (λ t. is_for block d || t) due ∙ or_true (is_for block d)))
    | inr (inr there) ↦ inr (inr (there.0, number_passed size block found b bs (length ds) ∙ there.1))
  ]

numbered : (size block : ℕ) (bs : List Placed) → Numbered size block bs
numbered size block [] due last begun ts found is has = absurd (false_true (ap (IsIn block) (ok_is (sym (read_end size due last begun) ∙ is)) ∙ has))
numbered size block (b ∷ bs) (d ∷ ds) last begun ts found is has = at_due size block b bs last begun ts found has (numbered size block bs) d ds (part_of d b.bytes) refl is
numbered size block (b ∷ bs) [] last begun ts found is has = at_block size block b bs last begun ts found has (numbered size block bs) (accepted b.place b.bytes) refl is

-- ---- the place is one of the journal's

abbrev IsPlaceBelow : ℕ → Placed → Type 0
IsPlaceBelow n b = b.place < n

abbrev StaysBelow : ℕ → ℕ → ℕ → List Placed → Type 0
StaysBelow size block n bs = (passed : ℕ) (found : Option ℕ) (q : ℕ) → ((r : ℕ) → found ≡ Some r → r < n) → last_number size block passed found bs ≡ Some q → q < n

module _ (size block n : ℕ) (found : Option ℕ) (b : Placed) (bs : List Placed) (q : ℕ) (was : (r : ℕ) → found ≡ Some r → r < n) (low : b.place < n) (rest : StaysBelow size block n bs)
    (is : last_number size block zero found (b ∷ bs) ≡ Some q) where
  below_by : (c : Chunk) (t : Bool) → last_number size block (length c.due) (if t then Some b.place else found) bs ≡ Some q → q < n
  below_by c true e = rest (length c.due) (Some b.place) q (λ r same. subst (λ k. k < n) (some_is same) low) e
  below_by c false e = rest (length c.due) found q was e

  below_chunk : (o : Option Chunk) → accepted b.place b.bytes ≡ None → chunk_in size (length bs) b.bytes ≡ o → q < n
  below_chunk (Some c) none chunk = below_by c (has_number block c) (sym (number_chunk size block found b bs c none chunk) ∙ is)
  below_chunk None none chunk = rest zero found q was (sym (number_none size block found b bs none chunk) ∙ is)

  below_at : (o : Option LogHeader) → accepted b.place b.bytes ≡ o → q < n
  below_at (Some g) e = rest zero found q was (sym (number_header size block found b bs g e) ∙ is)
  below_at None e = below_chunk (chunk_in size (length bs) b.bytes) e refl

place_below : (size block n : ℕ) (bs : List Placed) → AllByRecursion (IsPlaceBelow n) bs → StaysBelow size block n bs
place_below size block n [] all passed found q was is = was q (sym (number_end size block passed found) ∙ is)
place_below size block n (b ∷ bs) all (suc m) found q was is = place_below size block n bs all.1 m found q was (sym (number_passed size block found b bs m) ∙ is)
place_below size block n (b ∷ bs) all zero found q was is = below_at size block n found b bs q was all.0 (place_below size block n bs all.1) is (accepted b.place b.bytes) refl

blocks_below : (ring : Ring) (p n : ℕ) → p < ring.places → AllByRecursion (IsPlaceBelow ring.places) (blocks_from ring p n)
blocks_below ring p zero low = tt
blocks_below ring p (suc n) low = (low, blocks_below ring (next ring.places p) n (let inside : next ring.places p < ring.places = grind (arith, nat_tests, low) in inside))

-- ---- what is live has an entry

is_false_or : (a b : Bool) → (a || b) ≡ false → (a ≡ false) × (b ≡ false)
is_false_or true b is = absurd (false_true (sym is))
is_false_or false b is = (refl, is)

none_filtered : (block : ℕ) (es : List Logged) → has_entry block es ≡ false → filter (λ (e : Logged). e.block == block) es ≡ []
none_filtered block [] off = refl
none_filtered block (e ∷ es) off =
    let both = is_false_or (e.block == block) (has_entry block es) off in
    cond-false (e.block == block) (e ∷ filter (λ (l : Logged). l.block == block) es) (filter (λ (l : Logged). l.block == block) es) both.0 ∙ none_filtered block es both.1

abbrev counted : List Sequenced → ℕ → List Sequenced → List Logged
counted all block ts = flat_map (λ (t : Sequenced). if is_cancelled all block t.sequence then [] else entries_in block t.transaction) ts

none_before : (b : Bool) (es more : List Logged) → es ≡ [] → more ≡ [] → (if b then [] else es) ++ more ≡ []
none_before true es more one rest = rest
none_before false es more one rest = ap (λ l. l ++ more) one ∙ rest

none_counted : (all : List Sequenced) (block : ℕ) (ts : List Sequenced) → IsIn block ts ≡ false → counted all block ts ≡ []
none_counted all block [] off = refl
none_counted all block (t ∷ ts) off =
    let both = is_false_or (has_entry block t.transaction.blocks) (IsIn block ts) off in
    none_before (is_cancelled all block t.sequence) (entries_in block t.transaction) (counted all block ts) (none_filtered block t.transaction.blocks both.0) (none_counted all block ts both.1)

live_is_in : (ts : List Sequenced) (block : ℕ) (bytes : List ℕ) → live_of ts block ≡ Some bytes → IsIn block ts ≡ true
live_is_in ts block bytes live = elim (cases_Bool (IsIn block ts)) [
  | inl is ↦ is
  | inr not ↦ absurd (none_some bytes (sym (ap (λ es. option_map (λ (e : Logged). e.bytes) (last_or None es)) (none_counted ts block ts not)) ∙ live))
]

-- ---- altogether

module _ (ring : Ring) (is : IsReadable ring) (block : ℕ) (bytes : List ℕ) (live : live_in ring block ≡ Some bytes) where
  told : live_read (transactions_of ring is.head) block ≡ Some bytes
  told = sym (ap (λ h. live_under ring h block) is.headed) ∙ live

  of_transactions : live_of is.transactions block ≡ Some bytes
  of_transactions = sym (ap (λ r. live_read r block) is.read) ∙ told

  abbrev blocks : List Placed
  blocks = blocks_from ring is.head.tail (way ring.places is.head.tail is.head.blkno + 1)

  found_there : (head : LogHeader) → head ≡ is.head → transactions_of ring head ≡ Ok is.transactions → (place : ℕ) × IsNumberAt ring block place
  found_there head e read = by_clean head.clean read
    where
      from_tail : Result (List Sequenced) ℕ
      from_tail = reading ring.size [] None nothing (blocks_from ring head.tail (way ring.places head.tail head.blkno + 1))

      place_of : head.tail < ring.places → (false ≡ true) ⊎ ((false ≡ true) ⊎ ((q : ℕ) × (number_from ring head block ≡ Some q))) → (place : ℕ) × IsNumberAt ring block place
      place_of low (inl off) = absurd (false_true off)
      place_of low (inr (inl off)) = absurd (false_true off)
      place_of low (inr (inr there)) = (
        there.0,
        record {
          head = head;
          headed = is.headed ∙ ap Some (sym e);
          tailed = low;
          inside = place_below ring.size block ring.places _ (blocks_below ring head.tail (way ring.places head.tail head.blkno + 1) low) zero None there.0 (λ r none. absurd (none_some r none)) there.1;
          found = there.1;
        },
      )

      by_tail : (b : Bool) → refuses_tail ring.places head ≡ b → (if b then Err head.blkno else from_tail) ≡ Ok is.transactions → (place : ℕ) × IsNumberAt ring block place
      by_tail true off got = absurd (err_ok is.transactions head.blkno got)
      by_tail false on got =
          let low : head.tail < ring.places = grind (arith, nat_tests, on) in
          place_of low (numbered ring.size block _ [] None nothing is.transactions None got (live_is_in is.transactions block bytes of_transactions))

      by_clean : (b : Bool) → (if b then Ok [] else if refuses_tail ring.places head then Err head.blkno else from_tail) ≡ Ok is.transactions → (place : ℕ) × IsNumberAt ring block place
      by_clean true got = absurd (none_some bytes (ap (λ ts. live_of ts block) (ok_is got) ∙ of_transactions))
      by_clean false got = by_tail (refuses_tail ring.places head) refl got

  pub there : (place : ℕ) × IsNumberAt ring block place
  there = found_there is.head refl is.read

pub live_have_numbers : LiveHaveNumbers
live_have_numbers ring is block bytes live = there ring is block bytes live

-- ---- the search

-- how far one number stands behind the one before it
abbrev IsStep : ChunkKind → ℕ → Type 0
IsStep Metadata step = step ≡ 8
IsStep Journaled step = step ≡ 16
IsStep Revoke step = ⊥

pub entries_found : (kind : ChunkKind) (size count number : ℕ) (bytes : List ℕ) (step : ℕ) → IsStep kind step → list_any (λ n. n == number) (numbers_at 72 step count bytes) ≡ list_any (is_for number) (dues kind size count bytes)
entries_found Metadata size count number bytes step is = (λ t. list_any (λ n. n == number) (numbers_at 72 (is t) count bytes)) ∙ sym (any_metadata number (numbers_at 72 8 count bytes))
entries_found Journaled size count number bytes step is =
    (λ t. list_any (λ n. n == number) (numbers_at 72 (is t) count bytes))
    ∙ sym (any_content number (λ i. u64_at (72 + 16 * i) bytes) (λ i. u64_at (80 + 16 * i) bytes == 1) (range_with_len 0 count))
entries_found Revoke size count number bytes step is = absurd is

pub some_header : (o a : Option LogHeader) → o ≡ a → is_some o ≡ true → (g : LogHeader) × (a ≡ Some g)
some_header (Some g) a is some = (g, sym is)
some_header None a is some = absurd (false_true some)

pub none_accepted : (o a : Option LogHeader) → o ≡ a → is_some o ≡ false → a ≡ None
none_accepted (Some g) a is none = absurd (false_true (sym none))
none_accepted None a is none = sym is

module _ (size block : ℕ) (found : Option ℕ) (b : Placed) (bs : List Placed) (passed : ℕ) where
  pub step_passed : 0 < passed → last_number size block passed found (b ∷ bs) ≡ last_number size block (passed - 1) found bs
  step_passed some =
      let e : passed ≡ suc (passed - 1) = omega (arith, some) in
      ap (λ n. last_number size block n found (b ∷ bs)) e ∙ number_passed size block found b bs (passed - 1)

  module _ (none : passed ≤ 0) where
    at_zero : last_number size block passed found (b ∷ bs) ≡ last_number size block zero found (b ∷ bs)
    at_zero = let e : passed ≡ zero = omega (arith, none) in ap (λ n. last_number size block n found (b ∷ bs)) e

    zero_is : (bs' : List Placed) → last_number size block zero found bs' ≡ last_number size block passed found bs'
    zero_is bs' = let e : zero ≡ passed = omega (arith, none) in ap (λ n. last_number size block n found bs') e

    pub step_header : ((g : LogHeader) × (accepted b.place b.bytes ≡ Some g)) → last_number size block passed found (b ∷ bs) ≡ last_number size block passed found bs
    step_header g = at_zero ∙ number_header size block found b bs g.0 g.1 ∙ zero_is bs

    pub step_none : accepted b.place b.bytes ≡ None → chunk_in size (length bs) b.bytes ≡ None → last_number size block passed found (b ∷ bs) ≡ last_number size block passed found bs
    step_none off bad = at_zero ∙ number_none size block found b bs off bad ∙ zero_is bs

    module _ (off : accepted b.place b.bytes ≡ None) (c : Chunk) (chunk : chunk_in size (length bs) b.bytes ≡ Some c) (count : ℕ) (all : count ≡ length c.due) where
      to_pass : (o : Option ℕ) → last_number size block (length c.due) o bs ≡ last_number size block count o bs
      to_pass o = ap (λ n. last_number size block n o bs) (sym all)

      pub step_named : has_number block c ≡ true → last_number size block passed found (b ∷ bs) ≡ last_number size block count (Some b.place) bs
      step_named is =
          at_zero ∙ number_chunk size block found b bs c off chunk
          ∙ ap (λ o. last_number size block (length c.due) o bs) (cond-true (has_number block c) (Some b.place) found is) ∙ to_pass (Some b.place)

      pub step_other : has_number block c ≡ false → last_number size block passed found (b ∷ bs) ≡ last_number size block count found bs
      step_other is =
          at_zero ∙ number_chunk size block found b bs c off chunk
          ∙ ap (λ o. last_number size block (length c.due) o bs) (cond-false (has_number block c) (Some b.place) found is) ∙ to_pass found
