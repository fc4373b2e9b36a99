-- A scan, block by block.
use Rattle.std.proofs.Common.{◌≡◌, ℕ, zero, suc, ◌+◌, ◌-◌, ◌*◌, ◌<◌, ◌≤◌, Bool, true, false, List, [], ◌∷◌, ◌++◌, length, Option, None, Some, Result, Ok, Err, refl, sym, ap, subst, ◌∙◌, arith}
use Rattle.std.specs.Prelude.{map, ◌==◌, MatchOption, IsErrAnd, IfErr}
use Rattle.std.proofs.lemmas.List.Elements.{All-from_recursion}
use Rattle.gfs2_layout.specs.Bytes.{u64_at}
use Rattle.log_layout.specs.declared.descriptor.ChunkKind.{ChunkKind}
use Rattle.log_layout.specs.declared.descriptor.ChunkKind.TheVariants as kinds
use Rattle.log_layout.specs.declared.due.Due.TheVariants as due
use Rattle.journal_scan.proofs.Grown.{all_of}
use Rattle.std.proofs.lemmas.List.{append-nil}
use Rattle.std.specs.List.{All, AllByRecursion, range_with_len}
use Rattle.std.proofs.lemmas.Bool.{cond-true, cond-false}
use Rattle.log_layout.specs.Chunks.{Transaction, Chunk, nothing, joined, chunk_in, part_of, dues, numbers_at, further_part, further_count}
use Rattle.log_layout.specs.Journal.{Ring, Placed, accepted, blocks_from, next}
use Rattle.log_layout.specs.Transactions.{Sequenced, and_then, may_follow, reading}
use Rattle.log_layout.specs.declared.due.Due.{Due}
use Rattle.log_layout.specs.declared.log_header.LogHeader.{LogHeader}
use Rattle.journal_scan.specs.Course.{behind, IsFit, Takes, makes}
use Rattle.journal_scan.specs.Said.{IsFaultOf, says, says_at}
use Rattle.journal_scan.specs.declared.fault.ScanFault.{ScanFault}
use Rattle.journal_scan.specs.Images.{ring_of}
use Rattle.journal_scan.specs.declared.image.JournalImage.{JournalImage}
use Rattle.journal_scan.specs.declared.scanning.Scan.{Scan}

module _ (size : ℕ) (last : Option ℕ) (begun : Transaction) (b : Placed) (bs : List Placed) where
  -- a header that follows ends the transaction
  pub read_header : (g : LogHeader) → accepted b.place b.bytes ≡ Some g → may_follow last g.sequence ≡ true
      → reading size [] last begun (b ∷ bs) ≡ and_then (record { sequence = g.sequence; transaction = begun }) (reading size [] (Some g.sequence) nothing bs)
  unfolding reading
  read_header g is follows = rw (is, reading) (cond-true _ _ _ follows)

  pub read_stray : (g : LogHeader) → accepted b.place b.bytes ≡ Some g → may_follow last g.sequence ≡ false → reading size [] last begun (b ∷ bs) ≡ Err b.place
  unfolding reading
  read_stray g is follows = rw (is, reading) (cond-false _ _ _ follows)

  pub read_chunk : (c : Chunk) → accepted b.place b.bytes ≡ None → chunk_in size (length bs) b.bytes ≡ Some c
      → reading size [] last begun (b ∷ bs) ≡ reading size c.due last (joined begun (record { blocks = []; revokes = c.revokes })) bs
  unfolding reading
  read_chunk c none is = rw (none, is, reading) refl

  pub read_none : accepted b.place b.bytes ≡ None → chunk_in size (length bs) b.bytes ≡ None → reading size [] last begun (b ∷ bs) ≡ Err b.place
  unfolding reading
  read_none none bad = rw (none, bad, reading) refl

  pub read_due : (d : Due) (due : List Due) (part : Transaction) → part_of d b.bytes ≡ Some part → reading size (d ∷ due) last begun (b ∷ bs) ≡ reading size due last (joined begun part) bs
  unfolding reading
  read_due d due part is = rw (is, reading) refl

  pub read_other : (d : Due) (due : List Due) → part_of d b.bytes ≡ None → reading size (d ∷ due) last begun (b ∷ bs) ≡ Err b.place
  unfolding reading
  read_other d due bad = rw (bad, reading) refl

pub read_end : (size : ℕ) (due : List Due) (last : Option ℕ) (begun : Transaction) → reading size due last begun [] ≡ Ok []
unfolding reading
read_end size due last begun = refl

pub behind_err : (ts : List Sequenced) (p : ℕ) → behind ts (Err p) ≡ Err p
behind_err [] p = refl
behind_err (t ∷ ts) p = ap (and_then t) (behind_err ts p)

pub behind_ok : (ts us : List Sequenced) → behind ts (Ok us) ≡ Ok (ts ++ us)
behind_ok [] us = refl
behind_ok (t ∷ ts) us = ap (and_then t) (behind_ok ts us)

pub behind_more : (ts : List Sequenced) (t : Sequenced) (r : Result (List Sequenced) ℕ) → behind (ts ++ t ∷ []) r ≡ behind ts (and_then t r)
behind_more [] t r = refl
behind_more (u ∷ ts) t r = ap (and_then u) (behind_more ts t r)

-- so many blocks were taken: what is left makes what all make
pub record IsOn (j : JournalImage) (tail count place taken : ℕ) (scan : Scan) : Type 0 where
  pub inside : place < j.length
  pub fit : All (IsFit j.block_size) scan.due.items
  pub same : makes j.block_size scan (blocks_from (ring_of j) place ((count + 1) - taken)) ≡ reading j.block_size [] None nothing (blocks_from (ring_of j) tail (count + 1))

pub length-blocks : (ring : Ring) (p n : ℕ) → length (blocks_from ring p n) ≡ n
length-blocks ring p zero = refl
length-blocks ring p (suc n) = ap suc (length-blocks ring (next ring.places p) n)

-- what a scan makes of the next block and those behind it is what it makes of all that are left
next_same : (j : JournalImage) (tail count place taken : ℕ) (scan : Scan) (block : List ℕ) → IsOn j tail count place taken scan → taken < count + 1 → block ≡ (ring_of j).at place → length block ≡ j.block_size
    → makes (length block) scan (record { place = place; bytes = block } ∷ blocks_from (ring_of j) (next j.length place) (count - taken)) ≡ reading j.block_size [] None nothing (blocks_from (ring_of j) tail (count + 1))
next_same j tail count place taken scan block on less is size =
    let e : suc (count - taken) ≡ (count + 1) - taken = omega (arith, less) in
    (λ t. makes (size t) scan (record { place = place; bytes = is t } ∷ blocks_from (ring_of j) (next j.length place) (count - taken)))
    ∙ ap (λ n. makes j.block_size scan (blocks_from (ring_of j) place n)) e ∙ on.same

pub on_more : (j : JournalImage) (tail count place taken : ℕ) (old new : Scan) (block : List ℕ) (behind' taken' left : ℕ) → IsOn j tail count place taken old → taken < count + 1 → block ≡ (ring_of j).at place → length block ≡ j.block_size
    → left ≡ count - taken → behind' ≡ next j.length place → behind' < j.length → taken' ≡ taken + 1 → Takes (length block) old new left place block → All (IsFit (length block)) new.due.items → IsOn j tail count behind' taken' new
on_more j tail count place taken old new block behind' taken' left on less is size left_is next_is inside more takes fit =
    let bs : List Placed = blocks_from (ring_of j) (next j.length place) (count - taken) in
    let long : length bs ≡ left = length-blocks (ring_of j) (next j.length place) (count - taken) ∙ sym left_is in
    let rest : (count + 1) - taken' ≡ count - taken = omega (arith, more) in
    record {
      inside = inside;
      fit = subst (λ n. All (IsFit n) new.due.items) size fit;
      same = (λ t. makes (sym size t) new (blocks_from (ring_of j) (next_is t) (rest t))) ∙ sym (takes bs long) ∙ next_same j tail count place taken old block on less is size;
    }

pub on_bad : (j : JournalImage) (tail count place taken : ℕ) (old : Scan) (block : List ℕ) (left : ℕ) (f : ScanFault) → IsOn j tail count place taken old → taken < count + 1 → block ≡ (ring_of j).at place → length block ≡ j.block_size
    → left ≡ count - taken → ((bs : List Placed) → length bs ≡ left → IsFaultOf f (makes (length block) old (record { place = place; bytes = block } ∷ bs)))
    → IsFaultOf f (reading j.block_size [] None nothing (blocks_from (ring_of j) tail (count + 1)))
on_bad j tail count place taken old block left f on less is size left_is bad =
    let bs : List Placed = blocks_from (ring_of j) (next j.length place) (count - taken) in
    let long : length bs ≡ left = length-blocks (ring_of j) (next j.length place) (count - taken) ∙ sym left_is in
    subst (IsFaultOf f) (next_same j tail count place taken old block on less is size) (bad bs long)

pub on_end : (j : JournalImage) (tail count place taken : ℕ) (scan : Scan) → IsOn j tail count place taken scan → count + 1 ≤ taken
    → reading j.block_size [] None nothing (blocks_from (ring_of j) tail (count + 1)) ≡ Ok (map says_at scan.done.items)
on_end j tail count place taken scan on all =
    let none : (count + 1) - taken ≡ 0 = omega (arith, all) in
    sym on.same ∙ ap (λ n. makes j.block_size scan (blocks_from (ring_of j) place n)) none
    ∙ ap (behind (map says_at scan.done.items)) (read_end j.block_size scan.due.items scan.last (says scan.begun))
    ∙ behind_ok (map says_at scan.done.items) [] ∙ ap Ok (append-nil (map says_at scan.done.items))

pub on_start : (j : JournalImage) (tail count : ℕ) (scan : Scan) → tail < j.length → All (IsFit j.block_size) scan.due.items
    → ((blocks : List Placed) → makes j.block_size scan blocks ≡ reading j.block_size [] None nothing blocks) → IsOn j tail count tail 0 scan
on_start j tail count scan inside fit start =
    let all : (count + 1) - 0 ≡ count + 1 = omega arith in
    record { inside = inside; fit = fit; same = ap (λ n. makes j.block_size scan (blocks_from (ring_of j) tail n)) all ∙ start (blocks_from (ring_of j) tail (count + 1)) }

-- ---- one block

module _ (size : ℕ) (s : Scan) (b : Placed) (bs : List Placed) where
  pub takes_stray : (g : LogHeader) → s.due.items ≡ [] → accepted b.place b.bytes ≡ Some g → may_follow s.last g.sequence ≡ false → makes size s (b ∷ bs) ≡ Err b.place
  takes_stray g none is stray =
      let before : List Sequenced = map says_at s.done.items in
      (λ t. behind before (reading size (none t) s.last (says s.begun) (b ∷ bs)))
      ∙ ap (behind before) (read_stray size s.last (says s.begun) b bs g is stray) ∙ behind_err before b.place

  pub takes_header : (g : LogHeader) (new : Scan) → s.due.items ≡ [] → accepted b.place b.bytes ≡ Some g → may_follow s.last g.sequence ≡ true
      → map says_at new.done.items ≡ map says_at s.done.items ++ record { sequence = g.sequence; transaction = says s.begun } ∷ [] → says new.begun ≡ nothing → new.last ≡ Some g.sequence → new.due.items ≡ []
      → makes size s (b ∷ bs) ≡ makes size new bs
  takes_header g new none is follows done begun last due =
      let before : List Sequenced = map says_at s.done.items in
      (λ t. behind before (reading size (none t) s.last (says s.begun) (b ∷ bs)))
      ∙ ap (behind before) (read_header size s.last (says s.begun) b bs g is follows)
      ∙ sym (behind_more before (record { sequence = g.sequence; transaction = says s.begun }) (reading size [] (Some g.sequence) nothing bs))
      ∙ (λ t. behind (sym done t) (reading size (sym due t) (sym last t) (sym begun t) bs))

  pub takes_none : s.due.items ≡ [] → accepted b.place b.bytes ≡ None → chunk_in size (length bs) b.bytes ≡ None → makes size s (b ∷ bs) ≡ Err b.place
  takes_none none is bad =
      let before : List Sequenced = map says_at s.done.items in
      (λ t. behind before (reading size (none t) s.last (says s.begun) (b ∷ bs)))
      ∙ ap (behind before) (read_none size s.last (says s.begun) b bs is bad) ∙ behind_err before b.place

  pub takes_chunk : (c : Chunk) (new : Scan) → s.due.items ≡ [] → accepted b.place b.bytes ≡ None → chunk_in size (length bs) b.bytes ≡ Some c
      → new.due.items ≡ c.due → says new.begun ≡ joined (says s.begun) (record { blocks = []; revokes = c.revokes }) → new.last ≡ s.last → map says_at new.done.items ≡ map says_at s.done.items
      → makes size s (b ∷ bs) ≡ makes size new bs
  takes_chunk c new none is chunk due begun last done =
      let before : List Sequenced = map says_at s.done.items in
      (λ t. behind before (reading size (none t) s.last (says s.begun) (b ∷ bs)))
      ∙ ap (behind before) (read_chunk size s.last (says s.begun) b bs c is chunk)
      ∙ (λ t. behind (sym done t) (reading size (sym due t) (sym last t) (sym begun t) bs))

  pub takes_other : (d : Due) (due : List Due) → s.due.items ≡ d ∷ due → part_of d b.bytes ≡ None → makes size s (b ∷ bs) ≡ Err b.place
  takes_other d due first bad =
      let before : List Sequenced = map says_at s.done.items in
      (λ t. behind before (reading size (first t) s.last (says s.begun) (b ∷ bs)))
      ∙ ap (behind before) (read_other size s.last (says s.begun) b bs d due bad) ∙ behind_err before b.place

  pub takes_due : (d : Due) (part : Transaction) (new : Scan) → s.due.items ≡ d ∷ new.due.items → part_of d b.bytes ≡ Some part
      → says new.begun ≡ joined (says s.begun) part → new.last ≡ s.last → map says_at new.done.items ≡ map says_at s.done.items → makes size s (b ∷ bs) ≡ makes size new bs
  takes_due d part new first is begun last done =
      let before : List Sequenced = map says_at s.done.items in
      (λ t. behind before (reading size (first t) s.last (says s.begun) (b ∷ bs)))
      ∙ ap (behind before) (read_due size s.last (says s.begun) b bs d new.due.items part is)
      ∙ (λ t. behind (sym done t) (reading size new.due.items (sym last t) (sym begun t) bs))

-- ---- what a call answers

-- an answer that tells whether there is a value
pub none_found : {X : Type 0} (o : Option X) (is : Bool) (P : X → Type 0) → MatchOption o (is ≡ false) P → ((x : X) → P x → is ≡ true) → is ≡ false → o ≡ None
none_found None is P m shows off = refl
none_found (Some x) is P m shows off = absurd (let e : false ≡ true = sym off ∙ shows x m in cc)

pub some_found : {X : Type 0} (o : Option X) (is : Bool) (P : X → Type 0) → MatchOption o (is ≡ false) P → is ≡ true → (x : X) × (o ≡ Some x) × P x
some_found None is P m on = absurd (let e : false ≡ true = sym m ∙ on in cc)
some_found (Some x) is P m on = (x, refl, m)

pub handed_on : {T : Type 0} (r : Result T ScanFault) (f : ScanFault) (P : ScanFault → Type 0) → IsErrAnd r (λ g. g ≡ f) → P f → IfErr r P
handed_on (Ok x) f P is so = tt
handed_on (Err g) f P is so = subst P (sym is) so

pub all_rest : {X : Type 0} (P : X → Type 0) (x : X) (xs all : List X) → all ≡ x ∷ xs → All P all → All P xs
all_rest P x xs all is holds = λ k d less. (subst (All P) is holds) (suc k) d (omega (arith, less))

pub dues_fit : (kind : ChunkKind) (size count : ℕ) (bytes : List ℕ) → All (IsFit size) (dues kind size count bytes)
dues_fit kind size count bytes = All-from_recursion (IsFit size) (dues kind size count bytes) (each kind)
  where
    each : (k : ChunkKind) → AllByRecursion (IsFit size) (dues k size count bytes)
    each kinds.Metadata = all_of (IsFit size) due.Metadata (λ n. tt) (numbers_at 72 8 count bytes)
    each kinds.Journaled = all_of (IsFit size) (λ i. due.Content (u64_at (72 + 16 * i) bytes) (u64_at (80 + 16 * i) bytes == 1)) (λ i. tt) (range_with_len 0 count)
    each kinds.Revoke = all_of (IsFit size) (λ i. due.Further (further_part size count i)) (λ i. omega arith) (range_with_len 0 (further_count size count))
