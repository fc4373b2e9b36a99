-- How many blocks a transaction takes.
use Rattle.std.proofs.Common.{◌≡◌, ◌<◌, ◌≤◌, ◌+◌, ◌-◌, ◌*◌, ◌++◌, ℕ, zero, suc, List, [], ◌∷◌, length, take, drop, refl, ap, ◌∙◌, arith, length-append, length-drop}
use Rattle.std.specs.Prelude.{Bool, true, false, filter, if◌then◌else◌}
use Rattle.std.specs.List.{flat_map}
use Rattle.std.proofs.lemmas.List.{length-map, length-take}
use Rattle.std.proofs.lemmas.List.FromFn.{length-map-range_with_len}
use Rattle.gfs2_layout.specs.Device.{IsBlockSize}
use Rattle.log_layout.specs.Chunks.{Logged, Transaction, content_room, further_room, numbers_room}
use Rattle.node_journal.specs.Encoding.{chunks, content_chunk, content_of, escaped, further_block, kind_size, metadata_chunk, metadata_of, piece_count, pieces, revoke_chunks, revoke_size, size_of}
use Rattle.node_journal.proofs.Pieces.{none_counted, none_in_pieces, one_more_counted, pieces_go_on, rooms}

pub count_of_pieces : {A : Type 0} (n : ℕ) (xs : List A) → length (pieces n xs) ≡ piece_count n (length xs)
count_of_pieces n xs = length-map-range_with_len (λ i. take n (drop (n * i) xs)) 0 (piece_count n (length xs))

-- a descriptor for each piece, and the blocks
pub kind_length : {A : Type 0} (chunk : List A → List (List ℕ)) → ((es : List A) → length (chunk es) ≡ suc (length es)) → (n : ℕ) → 0 < n
    → (most : ℕ) (xs : List A) → length xs ≤ most → length (flat_map chunk (pieces n xs)) ≡ kind_size n (length xs)
kind_length chunk one n some most [] h = ap (λ ps. length (flat_map chunk ps)) (none_in_pieces n some) ∙ (let e : 0 ≡ piece_count n 0 + 0 = omega (arith, none_counted n some) in e)
kind_length chunk one n some zero (x ∷ xs) h = absurd (omega (arith, h))
kind_length chunk one n some (suc most) (x ∷ xs) h =
    let more : 0 < length (x ∷ xs) = omega arith in
    let rest = kind_length chunk one n some most (drop n (x ∷ xs)) (omega (arith, h, length-drop n (x ∷ xs), some)) in
    let left : kind_size n (length (drop n (x ∷ xs))) ≡ kind_size n (length (x ∷ xs) - n) = ap (kind_size n) (length-drop n (x ∷ xs)) in
    ap (λ ps. length (flat_map chunk ps)) (pieces_go_on n (x ∷ xs) some more)
    ∙ length-append (chunk (take n (x ∷ xs))) (flat_map chunk (pieces n (drop n (x ∷ xs))))
    ∙ (let e : length (chunk (take n (x ∷ xs))) + length (flat_map chunk (pieces n (drop n (x ∷ xs)))) ≡ kind_size n (length (x ∷ xs)) =
    omega (arith, one (take n (x ∷ xs)), length-take n (x ∷ xs), rest, left, one_more_counted n (length (x ∷ xs)) some more) in e)

pub revoke_length : (size jid : ℕ) (rs : List ℕ) → length (revoke_chunks size jid rs) ≡ revoke_size size (length rs)
revoke_length size jid [] = refl
revoke_length size jid (r ∷ rs) =
    let rest = drop (numbers_room size) (r ∷ rs) in
    ap suc (length-map (pieces (further_room size) rest) (further_block size jid) ∙ count_of_pieces (further_room size) rest ∙ ap (piece_count (further_room size)) (length-drop (numbers_room size) (r ∷ rs)))
    ∙ (let e : (n : ℕ) → suc n ≡ 1 + n = λ n. omega arith in e _)

pub contents_length : (size jid : ℕ) (es : List Logged) → IsBlockSize size → length (flat_map (content_chunk size jid) (pieces (content_room size) es)) ≡ kind_size (content_room size) (length es)
contents_length size jid es is = kind_length (content_chunk size jid) (λ es. ap suc (length-map es (λ (e : Logged). escaped e.bytes))) (content_room size) (rooms size is).0 (length es) es (omega arith)

pub metadatas_length : (size jid : ℕ) (es : List Logged) → IsBlockSize size → length (flat_map (metadata_chunk size jid) (pieces (numbers_room size) es)) ≡ kind_size (numbers_room size) (length es)
metadatas_length size jid es is = kind_length (metadata_chunk size jid) (λ es. ap suc (length-map es (λ (e : Logged). e.bytes))) (numbers_room size) (rooms size is).1 (length es) es (omega arith)

pub chunks_length : (size jid : ℕ) (t : Transaction) → IsBlockSize size → length (chunks size jid t) + 1 ≡ size_of size t
chunks_length size jid t is =
    let content = contents_length size jid (content_of t) is in
    let metadata = metadatas_length size jid (metadata_of t) is in
    ap (λ n. n + 1)
    (length-append (flat_map (content_chunk size jid) (pieces (content_room size) (content_of t)))
    (flat_map (metadata_chunk size jid) (pieces (numbers_room size) (metadata_of t)) ++ revoke_chunks size jid t.revokes)
    ∙ (λ i. content i + length-append (flat_map (metadata_chunk size jid) (pieces (numbers_room size) (metadata_of t))) (revoke_chunks size jid t.revokes) i)
    ∙ (λ i. kind_size (content_room size) (length (content_of t)) + (metadata i + revoke_length size jid t.revokes i)))

pub filter_is_less : {A : Type 0} (p : A → Bool) (xs : List A) → length (filter p xs) ≤ length xs
filter_is_less p [] = omega arith
filter_is_less p (x ∷ xs) = by_test (p x) (filter_is_less p xs)
  where
    by_test : (b : Bool) → length (filter p xs) ≤ length xs → length (if b then x ∷ filter p xs else filter p xs) ≤ length (x ∷ xs)
    by_test true rest = omega (arith, rest)
    by_test false rest = omega (arith, rest)
