-- What a journal says from its tail to its head, by the blocks there.
use Rattle.std.proofs.Common.{◌≡◌, ◌≢◌, ◌⊎◌, ℕ, zero, suc, ◌+◌, ◌<◌, ◌≤◌, Bool, true, false, List, [], ◌∷◌, length, Option, None, Some, Result, Ok, Err, refl, sym, ap, ap₂, subst, ◌∙◌, inl, inr, arith}
use Rattle.std.specs.Prelude.{◌==◌, ◌&&◌, ◌||◌, nat_le, if◌then◌else◌}
use Rattle.std.proofs.lemmas.Bool.{cond-false}
use Rattle.std.proofs.lemmas.Bool.Decides.{nat_tests}
use Rattle.gfs2_layout.specs.declared.fault.LayoutFault.{LayoutFault}
use Rattle.gfs2_layout.specs.declared.log_header.LogHeader.{LogHeader as Front}
use Rattle.log_layout.specs.Chunks.{Chunk, Transaction, are_entries, chunk_in, dues, first_revokes, if_descriptor, joined, nothing, part_of}
use Rattle.log_layout.specs.Descriptors.{descriptor_read}
use Rattle.log_layout.specs.Journal.{Placed, Ring, accepted, blocks_from, head_in, next, refuses_tail, tail_of, way}
use Rattle.log_layout.specs.Live.{IsReadable, live_in, live_under, live_read}
use Rattle.log_layout.specs.Transactions.{Sequenced, and_then, may_follow, reading, transactions_of}
use Rattle.log_layout.specs.declared.descriptor.LogDescriptor.{LogDescriptor}
use Rattle.log_layout.specs.declared.due.Due.{Due}
use Rattle.log_layout.specs.declared.log_header.LogHeader.{LogHeader}
use Rattle.journal_scan.proofs.Steps.{length-blocks, read_chunk, read_due, read_none, read_other}
use Rattle.journal_outcomes.specs.Rings.{IsFree, ReadsAs, SaysAs}

-- ---- a chunk ends before the last block

if_room : (x y z : Bool) (its c : Chunk) (long left : ℕ) → (long == 1 + length its.due) ≡ y → nat_le long left ≡ z → (if x && y && z then Some its else None) ≡ Some c → length c.due < left
if_room true true true its c long left is low e =
    let same : its ≡ c = cc in
    let fits : 1 + length its.due ≤ left = grind (arith, nat_tests, is, low) in
    subst (λ (x : Chunk). length x.due < left) same (omega (arith, fits))
if_room true true false its c long left is low e = absurd cc
if_room true false z its c long left is low e = absurd cc
if_room false y z its c long left is low e = absurd cc

chunk_room : (size left : ℕ) (bytes : List ℕ) (c : Chunk) → chunk_in size left bytes ≡ Some c → length c.due < left
chunk_room size left bytes c is = by (descriptor_read bytes) is
  where
    by : (r : Result LogDescriptor LayoutFault) → if_descriptor size left r bytes ≡ Some c → length c.due < left
    by (Err fault) e = absurd (let no : ◌≡◌ {A = Option Chunk} None (Some c) = e in cc)
    by (Ok d) e =
        if_room (are_entries d.kind size d.entries bytes) (d.length == 1 + length (dues d.kind size d.entries bytes)) (nat_le d.length left)
        (record { due = dues d.kind size d.entries bytes; revokes = first_revokes d.kind size d.entries bytes }) c d.length left refl refl e

-- ---- block by block

-- what is read of a block that is a log header, where nothing is due
read_header_block : (size : ℕ) (last : Option ℕ) (begun : Transaction) (b : Placed) (bs : List Placed) (g : LogHeader) → accepted b.place b.bytes ≡ Some g
    → reading size [] last begun (b ∷ bs) ≡ (if may_follow last g.sequence then and_then (record { sequence = g.sequence; transaction = begun }) (reading size [] (Some g.sequence) nothing bs) else Err b.place)
unfolding reading
read_header_block size last begun b bs g is = rw (is, reading) refl

-- these blocks are read alike, where less is due than there are of them
abbrev AreReadAlike : ℕ → List Placed → List Placed → Type 0
AreReadAlike size bs cs = (due : List Due) (last : Option ℕ) (begun : Transaction) → length due < length bs → reading size due last begun bs ≡ reading size due last begun cs

-- and so are those with one more block before them
one_more : (size : ℕ) (b : Placed) (bs cs : List Placed) → length bs ≡ length cs → 0 < length bs → AreReadAlike size bs cs → AreReadAlike size (b ∷ bs) (b ∷ cs)
one_more size b bs cs long some alike (d ∷ ds) last begun low = due (part_of d b.bytes) refl
  where
    due : (part : Option Transaction) → part_of d b.bytes ≡ part → reading size (d ∷ ds) last begun (b ∷ bs) ≡ reading size (d ∷ ds) last begun (b ∷ cs)
    due None is = read_other size last begun b bs d ds is ∙ sym (read_other size last begun b cs d ds is)
    due (Some part) is = read_due size last begun b bs d ds part is ∙ alike ds last (joined begun part) (omega (arith, low)) ∙ sym (read_due size last begun b cs d ds part is)
one_more size b bs cs long some alike [] last begun low = each (accepted b.place b.bytes) refl
  where
    chunk : accepted b.place b.bytes ≡ None → (c : Option Chunk) → chunk_in size (length bs) b.bytes ≡ c → reading size [] last begun (b ∷ bs) ≡ reading size [] last begun (b ∷ cs)
    chunk none None is = read_none size last begun b bs none is ∙ sym (read_none size last begun b cs none (ap (λ n. chunk_in size n b.bytes) (sym long) ∙ is))
    chunk none (Some c) is =
        read_chunk size last begun b bs c none is ∙ alike c.due last (joined begun (record { blocks = []; revokes = c.revokes })) (chunk_room size (length bs) b.bytes c is)
        ∙ sym (read_chunk size last begun b cs c none (ap (λ n. chunk_in size n b.bytes) (sym long) ∙ is))

    each : (o : Option LogHeader) → accepted b.place b.bytes ≡ o → reading size [] last begun (b ∷ bs) ≡ reading size [] last begun (b ∷ cs)
    each None none = chunk none (chunk_in size (length bs) b.bytes) refl
    each (Some g) is =
        read_header_block size last begun b bs g is
        ∙ ap (λ rest. if may_follow last g.sequence then and_then (record { sequence = g.sequence; transaction = begun }) rest else Err b.place) (alike [] (Some g.sequence) nothing some)
        ∙ sym (read_header_block size last begun b cs g is)

-- a header at the end is read by its sequence
last_one : (size : ℕ) (b c : Placed) (g h : LogHeader) → b.place ≡ c.place → accepted b.place b.bytes ≡ Some g → accepted c.place c.bytes ≡ Some h → g.sequence ≡ h.sequence
    → AreReadAlike size (b ∷ []) (c ∷ [])
last_one size b c g h place here there same (d ∷ ds) last begun low = absurd (omega (arith, low))
last_one size b c g h place here there same [] last begun low =
    read_header_block size last begun b [] g here
    ∙ ap₂ (λ (n : ℕ) (p : ℕ). if may_follow last n then and_then (record { sequence = n; transaction = begun }) (reading size [] (Some n) nothing []) else Err p) same place
    ∙ sym (read_header_block size last begun c [] h there)

-- ---- round the ring

step_inside : (places p : ℕ) → p < places → next places p < places
step_inside places p low = grind (arith, nat_tests)

way_own : (places p : ℕ) → way places p p ≡ 0
way_own places p = grind (arith, nat_tests)

way_none : (places p q : ℕ) → p < places → q < places → way places p q ≡ 0 → p ≡ q
way_none places p q low there is = grind (arith, nat_tests)

way_step : (places p q n : ℕ) → p < places → q < places → way places p q ≡ suc n → way places (next places p) q ≡ n
way_step places p q n low there is = grind (arith, nat_tests)

way_back : (places p x n : ℕ) → p < places → x < places → n < places → way places (next places p) x < n → way places p x < suc n
way_back places p x n low there few is = grind (arith, nat_tests)

way_low : (places p q : ℕ) → p < places → q < places → way places p q < places
way_low places p q low there = grind (arith, nat_tests)

tail_inside : (places : ℕ) (head : LogHeader) → refuses_tail places head ≡ false → head.tail < places
tail_inside places head inside = grind (arith, nat_tests)

-- Two rings of one size whose blocks are alike but for the last one, which is a header of one sequence in both.
module _ (size places : ℕ) (f g : ℕ → List ℕ) where
  abbrev pub one : Ring
  one = record { size = size; places = places; at = f }

  abbrev pub two : Ring
  two = record { size = size; places = places; at = g }

  module _ (q : ℕ) (q_in : q < places) (h k : LogHeader) (here : accepted q (f q) ≡ Some h) (there : accepted q (g q) ≡ Some k) (same : h.sequence ≡ k.sequence) where
    alike : (n p : ℕ) → p < places → way places p q ≡ n → ((x : ℕ) → x < places → way places p x < n → f x ≡ g x) → AreReadAlike size (blocks_from one p (suc n)) (blocks_from two p (suc n))
    alike zero p low is each =
        let at : p ≡ q = way_none places p q low q_in is in
        last_one size (record { place = p; bytes = f p }) (record { place = p; bytes = g p }) h k refl (ap (λ x. accepted x (f x)) at ∙ here) (ap (λ x. accepted x (g x)) at ∙ there) same
    alike (suc n) p low is each =
        let first : f p ≡ g p = each p low (let own = way_own places p in omega (arith, own)) in
        let few : suc n < places = (let most = way_low places p q low q_in in omega (arith, most, is)) in
        let bs = blocks_from one (next places p) (suc n) in
        let cs = blocks_from two (next places p) (suc n) in
        let long : length bs ≡ suc n = length-blocks one (next places p) (suc n) in
        let long' : length cs ≡ suc n = length-blocks two (next places p) (suc n) in
        let rest = alike n (next places p) (step_inside places p low) (way_step places p q n low q_in is) (λ x inside less. each x inside (way_back places p x n low inside (omega (arith, few)) less)) in
        λ due last begun less.
        one_more size (record { place = p; bytes = f p }) bs cs (long ∙ sym long') (omega (arith, long)) rest due last begun less ∙ ap (λ bytes. reading size due last begun (record { place = p; bytes = bytes } ∷ cs)) first

  -- ---- what two heads say that are alike in all that the hash guards

  -- what a journal's transactions are by its head's front
  abbrev said_by : Ring → Front → Result (List Sequenced) ℕ
  said_by ring x =
      if x.clean then Ok []
      else if nat_le ring.places x.tail || (x.tail == next ring.places x.blkno) then Err x.blkno
      else reading ring.size [] None nothing (blocks_from ring x.tail (way ring.places x.tail x.blkno + 1))

  module _ (h k : LogHeader) (headed : head_in one ≡ Some h) (headed' : head_in two ≡ Some k) (inside : h.blkno < places) (here : accepted h.blkno (f h.blkno) ≡ Some h)
      (there : accepted k.blkno (g k.blkno) ≡ Some k) (reads : ReadsAs h k) (same : (x : ℕ) → x < places → x ≢ h.blkno → (f x ≡ g x) ⊎ IsFree places h x) where
    abbrev q : ℕ
    q = h.blkno

    place_same : h.blkno ≡ k.blkno
    place_same = ap (λ (x : Front). x.blkno) reads.front

    there' : accepted q (g q) ≡ Some k
    there' = ap (λ x. accepted x (g x)) place_same ∙ there

    -- no block between is free
    between : h.clean ≡ false → (x : ℕ) → x < places → way places h.tail x < way places h.tail q → f x ≡ g x
    between dirty x low less =
        let tail : tail_of h ≡ h.tail = cond-false _ h.blkno h.tail dirty in
        let off : x ≢ q = λ e. (let bad : way places h.tail x ≡ way places h.tail q = ap (way places h.tail) e in omega (arith, bad, less)) in
        elim (same x low off) [
          | inl is ↦ is
          | inr free ↦ absurd (let far : way places h.tail q < way places h.tail x = subst (λ t. way places t q < way places t x) tail free in omega (arith, far, less))
        ]

    dirty_same : h.clean ≡ false → refuses_tail places h ≡ false
        → reading size [] None nothing (blocks_from one h.tail (way places h.tail q + 1)) ≡ reading size [] None nothing (blocks_from two h.tail (way places h.tail q + 1))
    dirty_same dirty right =
        let n = way places h.tail q in
        let more : n + 1 ≡ suc n = omega arith in
        let low = tail_inside places h right in
        let some = length-blocks one h.tail (suc n) in
        ap (λ m. reading size [] None nothing (blocks_from one h.tail m)) more
        ∙ alike q inside h k here there' (ap (λ (x : Front). x.sequence) reads.front) n h.tail low refl (between dirty) [] None nothing (omega (arith, some))
        ∙ ap (λ m. reading size [] None nothing (blocks_from two h.tail m)) (sym more)

    transactions_front : transactions_of one h ≡ transactions_of two h
    transactions_front = clean h.clean refl
      where
        tail : h.clean ≡ false → (b : Bool) → refuses_tail places h ≡ b
            → (if b then Err q else reading size [] None nothing (blocks_from one h.tail (way places h.tail q + 1)))
            ≡ (if b then Err q else reading size [] None nothing (blocks_from two h.tail (way places h.tail q + 1)))
        tail dirty true e = refl
        tail dirty false e = dirty_same dirty e

        clean : (b : Bool) → h.clean ≡ b
            → (if b then Ok [] else if refuses_tail places h then Err q else reading size [] None nothing (blocks_from one h.tail (way places h.tail q + 1)))
            ≡ (if b then Ok [] else if refuses_tail places h then Err q else reading size [] None nothing (blocks_from two h.tail (way places h.tail q + 1)))
        clean true e = refl
        clean false e = tail e (refuses_tail places h) refl

    transactions_same : transactions_of one h ≡ transactions_of two k
    transactions_same = transactions_front ∙ ap (said_by two) reads.front

    live_same : (block : ℕ) → live_in one block ≡ live_in two block
    live_same block =
        ap (λ (x : Option LogHeader). live_under one x block) headed ∙ ap (λ ts. live_read ts block) transactions_same ∙ sym (ap (λ (x : Option LogHeader). live_under two x block) headed')

    readable_on : IsReadable one → IsReadable two
    readable_on is = record {
      head = k;
      transactions = is.transactions;
      headed = headed';
      read = sym transactions_same ∙ ap (transactions_of one) (let e : h ≡ is.head = some_same (sym headed ∙ is.headed) in e) ∙ is.read;
    }
      where
        some_same : {x y : LogHeader} → ◌≡◌ {A = Option LogHeader} (Some x) (Some y) → x ≡ y
        some_same e = cc

    readable_back : IsReadable two → IsReadable one
    readable_back is = record {
      head = h;
      transactions = is.transactions;
      headed = headed;
      read = transactions_same ∙ ap (transactions_of two) (let e : k ≡ is.head = some_same (sym headed' ∙ is.headed) in e) ∙ is.read;
    }
      where
        some_same : {x y : LogHeader} → ◌≡◌ {A = Option LogHeader} (Some x) (Some y) → x ≡ y
        some_same e = cc

    pub says : SaysAs one two
    says = record {
      head = h;
      other = k;
      headed = headed;
      headed_other = headed';
      reads = reads;
      transactions = transactions_same;
      live = live_same;
      readable = (readable_on, readable_back);
    }
