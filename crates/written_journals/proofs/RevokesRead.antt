-- The chunk of revokes is read as it was written.
use Rattle.std.proofs.Common.{◌≡◌, ◌+◌, ◌-◌, ◌*◌, ◌<◌, ◌≤◌, ◌^◌, ◌++◌, ℕ, zero, suc, List, [], ◌∷◌, length, map, take, drop, Option, None, Some, refl, sym, ap, ◌∙◌, inl, inr, arith, length-drop, subst}
use Rattle.std.specs.Prelude.{◌==◌, min, nat_lt}
use Rattle.std.specs.List.{range_with_len}
use Rattle.std.specs.Int.{w32}
use Rattle.std.proofs.lemmas.Bool.{cases_Bool, cond-true, cond-false, eqb-true}
use Rattle.std.proofs.lemmas.List.{length-map, length-replicate, length-take, take-append-drop}
use Rattle.std.proofs.lemmas.List.FromFn.{length-map-range_with_len}
use Rattle.gfs2_layout.specs.Bytes.{u32_at}
use Rattle.gfs2_layout.specs.Structures.{header_fault, header_of, length_fault, magic, magic_fault, or_else}
use Rattle.gfs2_layout.specs.Writing.{header_fields, header_put}
use Rattle.gfs2_layout.specs.declared.fault.LayoutFault.{LayoutFault}
use Rattle.gfs2_layout.specs.declared.fault.LayoutFault.TheVariants.{Short, Magic}
use Rattle.gfs2_layout.specs.declared.header.MetaHeader.{MetaHeader}
use Rattle.gfs2_layout.proofs.FieldsInPlace.{length-fields}
use Rattle.gfs2_layout.proofs.HeaderLaws.{answer_ok, some_none}
use Rattle.gfs2_layout.proofs.ReadBack.{header_back, no_header_fault}
use Rattle.log_layout.specs.Chunks.{Transaction, first_revokes, further_count, further_part, further_room, if_headed, if_revokes, joined, numbers_at, numbers_room, part_of}
use Rattle.log_layout.specs.Descriptors.{descriptor_put}
use Rattle.log_layout.specs.Journal.{Placed}
use Rattle.log_layout.specs.Transactions.{reading}
use Rattle.log_layout.specs.declared.descriptor.ChunkKind.TheVariants.{Revoke}
use Rattle.log_layout.specs.declared.descriptor.LogDescriptor.{LogDescriptor}
use Rattle.log_layout.specs.declared.due.Due.{Due}
use Rattle.log_layout.specs.declared.due.Due.TheVariants as due
use Rattle.node_journal.specs.Encoding.{descriptor_block, further_block, piece_count, pieces, revoke_chunk, zeros}
use Rattle.node_journal.specs.Places.{placed_from}
use Rattle.node_journal.proofs.Arounds.{division_is_less}
use Rattle.node_journal.proofs.Lengths.{count_of_pieces}
use Rattle.node_journal.proofs.Pieces.{none_in_pieces, pieces_go_on}
use Rattle.written_journals.proofs.NumbersBack.{AreLow, length-numbers, numbers_back, numbers_below}
use Rattle.written_journals.proofs.DescriptorsBack.{block_kind, block_read, put_long}
use Rattle.written_journals.proofs.Parts.{AreParts, none, one, all_joined, joined_assoc, joined_nothing, of_revokes}
use Rattle.written_journals.proofs.ChunksRead.{chunk_read}

map_map : {A B C : Type 0} (g : B → C) (f : A → B) (xs : List A) → map g (map f xs) ≡ map (λ x. g (f x)) xs
map_map g f [] = refl
map_map g f (x ∷ xs) = ap (λ ys. g (f x) ∷ ys) (map_map g f xs)

-- ---- numbers that are low, in part

pub low_take : (n : ℕ) (xs : List ℕ) → AreLow xs → AreLow (take n xs)
low_take zero xs low = tt
low_take (suc n) [] low = tt
low_take (suc n) (x ∷ xs) low = (low.0, low_take n xs low.1)

pub low_drop : (n : ℕ) (xs : List ℕ) → AreLow xs → AreLow (drop n xs)
low_drop zero xs low = low
low_drop (suc n) [] low = tt
low_drop (suc n) (x ∷ xs) low = low_drop n xs low.1

-- ---- a block of further revokes

magic_from : (bytes : List ℕ) → or_else (length_fault 24 bytes) (magic_fault bytes) ≡ None → u32_at 0 bytes ≡ magic
magic_from bytes e = elim (cases_Bool (nat_lt (length bytes) 24)) [
  | inl short ↦ absurd (some_none Short (sym (ap (λ f. or_else f (magic_fault bytes)) (cond-true _ (Some Short) None short)) ∙ e))
  | inr long ↦ elim (cases_Bool (u32_at 0 bytes == magic)) [
    | inl a ↦ eqb-true (u32_at 0 bytes) magic a
    | inr off ↦ absurd (some_none Magic (sym (ap (λ f. or_else f (magic_fault bytes)) (cond-false _ (Some Short) None long) ∙ cond-false _ None (Some Magic) off) ∙ e))
  ]
]

module _ (size jid : ℕ) (revokes : List ℕ) (room : 24 + 8 * length revokes ≤ size) (jid_low : jid < 2 ^ 32) (low : AreLow revokes) where
  abbrev h : MetaHeader
  h = record { kind = 12; format = 1000; jid = jid }

  long : length (zeros size) ≡ size
  long = length-replicate size 0

  head_long : length (header_put h (zeros size)) ≡ size
  head_long = length-fields (header_fields h) (zeros size) (omega (arith, long, room)) ∙ long

  fits : 24 + 8 * length revokes ≤ length (header_put h (zeros size))
  fits = omega (arith, head_long, room)

  both : (or_else (length_fault 24 (header_put h (zeros size))) (magic_fault (header_put h (zeros size))) ≡ None) × (header_of (header_put h (zeros size)) ≡ h)
  both = answer_ok (or_else (length_fault 24 (header_put h (zeros size))) (magic_fault (header_put h (zeros size)))) (header_of (header_put h (zeros size))) h
      (header_back h (zeros size) (omega (arith, long, room)) (omega arith, (omega arith, (omega arith, (jid_low, tt)))))

  below : (k : ℕ) → k + 4 ≤ 24 → u32_at k (further_block size jid revokes) ≡ u32_at k (header_put h (zeros size))
  below k under = numbers_below 24 revokes (header_put h (zeros size)) w32 k fits under

  pub further_kind : u32_at 4 (further_block size jid revokes) ≡ 12
  further_kind = below 4 (omega arith) ∙ ap (λ (m : MetaHeader). m.kind) both.1

  headed : header_fault 24 12 1000 (further_block size jid revokes) ≡ None
  headed =
      no_header_fault 24 12 1000 (further_block size jid revokes) (omega (arith, length-numbers 24 revokes (header_put h (zeros size)) fits, head_long, room))
      (below 0 (omega arith) ∙ magic_from (header_put h (zeros size)) both.0) further_kind (below 16 (omega arith) ∙ ap (λ (m : MetaHeader). m.format) both.1)

  pub further_read : part_of (due.Further (length revokes)) (further_block size jid revokes) ≡ Some (of_revokes revokes)
  further_read =
      ap (λ (o : Option LayoutFault). if_revokes (if_headed o (numbers_at 24 8 (length revokes) (further_block size jid revokes)))) headed
      ∙ ap (λ (ns : List ℕ). Some (of_revokes ns)) (numbers_back 24 revokes (header_put h (zeros size)) low fits)

-- ---- all of them

parts_of_range : (f : ℕ → Due) (g : ℕ → List ℕ) (t : ℕ → Transaction) → ((i : ℕ) → part_of (f i) (g i) ≡ Some (t i)) → (a n : ℕ) → AreParts (map f (range_with_len a n)) (map g (range_with_len a n)) (map t (range_with_len a n))
parts_of_range f g t each a zero = none
parts_of_range f g t each a (suc n) = one (f a) (g a) (t a) _ _ _ (each a) (parts_of_range f g t each (a + 1) n)

-- pieces of revokes are all of them
pub pieces_joined : (n : ℕ) → 0 < n → (most : ℕ) (begun : Transaction) (rs : List ℕ) → length rs ≤ most → all_joined begun (map of_revokes (pieces n rs)) ≡ joined begun (of_revokes rs)
pieces_joined n some most begun [] h = ap (λ ps. all_joined begun (map of_revokes ps)) (none_in_pieces n some) ∙ sym (joined_nothing begun)
pieces_joined n some zero begun (r ∷ rs) h = absurd (omega (arith, h))
pieces_joined n some (suc most) begun (r ∷ rs) h =
    let more : 0 < length (r ∷ rs) = omega arith in
    ap (λ ps. all_joined begun (map of_revokes ps)) (pieces_go_on n (r ∷ rs) some more)
    ∙ pieces_joined n some most (joined begun (of_revokes (take n (r ∷ rs)))) (drop n (r ∷ rs)) (omega (arith, h, some, length-drop n (r ∷ rs)))
    ∙ joined_assoc begun (of_revokes (take n (r ∷ rs))) (of_revokes (drop n (r ∷ rs)))
    ∙ ap (λ xs. joined begun (of_revokes xs)) (take-append-drop n (r ∷ rs))

pub revokes_read : (size jid places p : ℕ) (last : Option ℕ) (begun : Transaction) (rs : List ℕ) (rest : List Placed) → 512 ≤ size → size ≤ 4096 → jid < 2 ^ 32 → length rs ≤ 131072 → AreLow rs → 1 ≤ length rest
    → reading size [] last begun (placed_from places p (revoke_chunk size jid rs) ++ rest) ≡ reading size [] last (joined begun (of_revokes rs)) rest
revokes_read size jid places p last begun rs rest big small low few numbers_low more =
    let first = take (numbers_room size) rs in
    let others = drop (numbers_room size) rs in
    let room = further_room size in
    let many = further_count size (length rs) in
    let first_long : length first ≡ min (numbers_room size) (length rs) = length-take (numbers_room size) rs in
    let fits_first : 72 + 8 * length first ≤ size = omega (arith, first_long, big) in
    let some : 0 < room = omega (arith, big) in
    let bounded : many ≤ (length rs - numbers_room size) + (room - 1) = division_is_less ((length rs - numbers_room size) + (room - 1)) room in
    let blocks_low : 1 + many < 2 ^ 32 = omega (arith, bounded, few, small) in
    let entries_low : length rs < 2 ^ 32 = omega (arith, few) in
    let d : LogDescriptor = record { jid = jid; kind = Revoke; length = 1 + many; entries = length rs } in
    let head = descriptor_block size jid Revoke (1 + many) (length rs) first in
    let base_long = put_long size jid (1 + many) (length rs) Revoke first fits_first low blocks_low entries_low in
    let piece : ℕ → List ℕ = λ i. take room (drop (room * i) others) in
    let count_is : piece_count room (length others) ≡ many = ap (piece_count room) (length-drop (numbers_room size) rs) in
    let ds = map (λ i. due.Further (further_part size (length rs) i)) (range_with_len 0 many) in
    let each : (i : ℕ) → part_of (due.Further (further_part size (length rs) i)) (further_block size jid (piece i)) ≡ Some (of_revokes (piece i)) =
    (λ i.
    let long : length (piece i) ≡ min room (length (drop (room * i) others)) = length-take room (drop (room * i) others) in
    let left : length (drop (room * i) others) ≡ (length rs - numbers_room size) - room * i = length-drop (room * i) others ∙ ap (λ n. n - room * i) (length-drop (numbers_room size) rs) in
    ap (λ n. part_of (due.Further n) (further_block size jid (piece i))) (sym (long ∙ ap (min room) left))
    ∙ further_read size jid (piece i) (omega (arith, long, big)) low (low_take room (drop (room * i) others) (low_drop (room * i) others (low_drop (numbers_room size) rs numbers_low)))) in
    let parts = parts_of_range (λ i. due.Further (further_part size (length rs) i)) (λ i. further_block size jid (piece i)) (λ i. of_revokes (piece i)) each 0 many in
    let bs_is : map (λ i. further_block size jid (piece i)) (range_with_len 0 many) ≡ map (further_block size jid) (pieces room others) =
    ap (λ m. map (λ i. further_block size jid (piece i)) (range_with_len 0 m)) (sym count_is) ∙ sym (map_map (further_block size jid) piece (range_with_len 0 (piece_count room (length others)))) in
    let ps_is : map (λ i. of_revokes (piece i)) (range_with_len 0 many) ≡ map of_revokes (pieces room others) =
    ap (λ m. map (λ i. of_revokes (piece i)) (range_with_len 0 m)) (sym count_is) ∙ sym (map_map of_revokes piece (range_with_len 0 (piece_count room (length others)))) in
    let P : List (List ℕ) → Type 0 = λ bs. AreParts ds bs (map (λ i. of_revokes (piece i)) (range_with_len 0 many)) in
    let Q : List Transaction → Type 0 = λ ps. AreParts ds (map (further_block size jid) (pieces room others)) ps in
    let due_long : length ds ≡ many = length-map-range_with_len (λ i. due.Further (further_part size (length rs) i)) 0 many in
    let blocks_long : length (map (further_block size jid) (pieces room others)) ≡ many = length-map (pieces room others) (further_block size jid) ∙ count_of_pieces room others ∙ count_is in
    let told : first_revokes Revoke size (length rs) head ≡ first =
    ap (λ n. numbers_at 72 8 n head) (let e : min (length rs) (numbers_room size) ≡ length first = omega (arith, first_long) in e)
    ∙ numbers_back 72 first (descriptor_put d (zeros size)) (low_take (numbers_room size) rs numbers_low) (omega (arith, base_long, fits_first)) in
    chunk_read size places p last begun d head (map (further_block size jid) (pieces room others)) ds (map of_revokes (pieces room others)) rest
    (block_read size jid (1 + many) (length rs) Revoke first fits_first low blocks_low entries_low) (block_kind size jid (1 + many) (length rs) Revoke first fits_first low blocks_low entries_low)
    refl refl (ap (λ n. 1 + n) (sym due_long)) (subst Q ps_is (subst P bs_is parts)) (due_long ∙ sym blocks_long) more
    ∙ ap (λ (t : Transaction). reading size [] last t rest)
    (ap (λ xs. all_joined (joined begun (of_revokes xs)) (map of_revokes (pieces room others))) told
    ∙ pieces_joined room some (length others) (joined begun (of_revokes first)) others (omega arith)
    ∙ joined_assoc begun (of_revokes first) (of_revokes others)
    ∙ ap (λ xs. joined begun (of_revokes xs)) (take-append-drop (numbers_room size) rs))
