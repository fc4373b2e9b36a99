-- All chunks of a transaction are read as they were written.
use Rattle.std.proofs.Common.{◌≡◌, ◌<◌, ◌≤◌, ◌^◌, ◌++◌, ℕ, zero, suc, List, [], ◌∷◌, length, take, drop, Option, sym, ap, ◌∙◌, arith, append_assoc, length-append, length-drop}
use Rattle.std.specs.List.{AllByRecursion, flat_map}
use Rattle.std.proofs.lemmas.List.{append-nil, length-take, take-append-drop}
use Rattle.gfs2_layout.specs.Device.{IsBlockSize}
use Rattle.log_layout.specs.Chunks.{Logged, Transaction, content_room, joined, nothing, numbers_room}
use Rattle.log_layout.specs.Journal.{Placed}
use Rattle.log_layout.specs.Transactions.{reading}
use Rattle.node_journal.specs.Encoding.{chunks, content_chunk, content_of, metadata_chunk, metadata_of, pieces, revoke_chunks}
use Rattle.node_journal.specs.Places.{place_on, placed_from}
use Rattle.node_journal.proofs.Pieces.{none_in_pieces, pieces_go_on, rooms}
use Rattle.node_journal.proofs.Placing.{placed_behind}
use Rattle.written_journals.proofs.NumbersBack.{AreLow}
use Rattle.written_journals.proofs.Parts.{joined_assoc, joined_nothing, of_blocks, of_revokes}
use Rattle.written_journals.proofs.ChunksRead.{IsContent, IsMetadata, content_read, metadata_read}
use Rattle.written_journals.proofs.RevokesRead.{revokes_read}

pub each_take : {A : Type 0} (P : A → Type 0) (n : ℕ) (xs : List A) → AllByRecursion P xs → AllByRecursion P (take n xs)
each_take P zero xs all = tt
each_take P (suc n) [] all = tt
each_take P (suc n) (x ∷ xs) all = (all.0, each_take P n xs all.1)

pub each_drop : {A : Type 0} (P : A → Type 0) (n : ℕ) (xs : List A) → AllByRecursion P xs → AllByRecursion P (drop n xs)
each_drop P zero xs all = all
each_drop P (suc n) [] all = tt
each_drop P (suc n) (x ∷ xs) all = each_drop P n xs all.1

placed-long : (places p : ℕ) (xs : List (List ℕ)) (rest : List Placed) → 1 ≤ length rest → 1 ≤ length (placed_from places p xs ++ rest)
placed-long places p xs rest more = omega (arith, more, length-append (placed_from places p xs) rest)

-- of chunks that are read one by one, all are
pub pieces_read : (size places : ℕ) (last : Option ℕ) (chunk : List Logged → List (List ℕ)) (P : Logged → Type 0) (n : ℕ) → 0 < n
    → ((p : ℕ) (begun : Transaction) (es : List Logged) (rest : List Placed) → length es ≤ n → AllByRecursion P es → 1 ≤ length rest
    → reading size [] last begun (placed_from places p (chunk es) ++ rest) ≡ reading size [] last (joined begun (of_blocks es)) rest)
    → (most p : ℕ) (begun : Transaction) (es : List Logged) (rest : List Placed) → length es ≤ most → AllByRecursion P es → 1 ≤ length rest
    → reading size [] last begun (placed_from places p (flat_map chunk (pieces n es)) ++ rest) ≡ reading size [] last (joined begun (of_blocks es)) rest
pieces_read size places last chunk P n some one most p begun [] rest h all more =
    ap (λ ps. reading size [] last begun (placed_from places p (flat_map chunk ps) ++ rest)) (none_in_pieces n some)
    ∙ ap (λ (t : Transaction). reading size [] last t rest) (sym (joined_nothing begun))
pieces_read size places last chunk P n some one zero p begun (e ∷ es) rest h all more = absurd (omega (arith, h))
pieces_read size places last chunk P n some one (suc most) p begun (e ∷ es) rest h all more =
    let first = take n (e ∷ es) in
    let others = drop n (e ∷ es) in
    let nonempty : 0 < length (e ∷ es) = omega arith in
    let q = place_on places p (length (chunk first)) in
    let behind = placed_from places q (flat_map chunk (pieces n others)) ++ rest in
    ap (λ ps. reading size [] last begun (placed_from places p (flat_map chunk ps) ++ rest)) (pieces_go_on n (e ∷ es) some nonempty)
    ∙ ap (λ bs. reading size [] last begun (bs ++ rest)) (placed_behind places p (chunk first) (flat_map chunk (pieces n others)))
    ∙ ap (reading size [] last begun) (append_assoc (placed_from places p (chunk first)) (placed_from places q (flat_map chunk (pieces n others))) rest)
    ∙ one p begun first behind (omega (arith, length-take n (e ∷ es))) (each_take P n (e ∷ es) all) (placed-long places q (flat_map chunk (pieces n others)) rest more)
    ∙ pieces_read size places last chunk P n some one most q (joined begun (of_blocks first)) others rest (omega (arith, h, some, length-drop n (e ∷ es))) (each_drop P n (e ∷ es) all) more
    ∙ ap (λ (t : Transaction). reading size [] last t rest) (joined_assoc begun (of_blocks first) (of_blocks others) ∙ ap (λ xs. joined begun (of_blocks xs)) (take-append-drop n (e ∷ es)))

-- ---- a transaction

-- what may be written, by kind
pub record IsSorted (size : ℕ) (t : Transaction) : Type 0 where
  pub content : AllByRecursion (IsContent size) (content_of t)
  pub metadata : AllByRecursion IsMetadata (metadata_of t)
  pub revokes : AreLow t.revokes
  pub few_content : length (content_of t) ≤ 131072
  pub few_metadata : length (metadata_of t) ≤ 131072
  pub few_revokes : length t.revokes ≤ 131072

revokes_all : (size jid places p : ℕ) (last : Option ℕ) (begun : Transaction) (rs : List ℕ) (rest : List Placed) → 512 ≤ size → size ≤ 4096 → jid < 2 ^ 32 → length rs ≤ 131072 → AreLow rs → 1 ≤ length rest
    → reading size [] last begun (placed_from places p (revoke_chunks size jid rs) ++ rest) ≡ reading size [] last (joined begun (of_revokes rs)) rest
revokes_all size jid places p last begun [] rest big small low few numbers_low more = ap (λ (t : Transaction). reading size [] last t rest) (sym (joined_nothing begun))
revokes_all size jid places p last begun (r ∷ rs) rest big small low few numbers_low more = revokes_read size jid places p last begun (r ∷ rs) rest big small low few numbers_low more

pub chunks_read : (size jid places p : ℕ) (last : Option ℕ) (t : Transaction) (rest : List Placed) → IsBlockSize size → jid < 2 ^ 32 → IsSorted size t → 1 ≤ length rest
    → reading size [] last nothing (placed_from places p (chunks size jid t) ++ rest) ≡ reading size [] last (record { blocks = content_of t ++ metadata_of t; revokes = t.revokes }) rest
chunks_read size jid places p last t rest is low sorted more =
    let big : 512 ≤ size = omega (arith, is) in
    let small : size ≤ 4096 = omega (arith, is) in
    let contents = flat_map (content_chunk size jid) (pieces (content_room size) (content_of t)) in
    let metadatas = flat_map (metadata_chunk size jid) (pieces (numbers_room size) (metadata_of t)) in
    let revokes = revoke_chunks size jid t.revokes in
    let q = place_on places p (length contents) in
    let r = place_on places q (length metadatas) in
    let last_part = placed_from places r revokes ++ rest in
    let bound_content : content_room size < 131073 = omega (arith, small) in
    let bound_metadata : numbers_room size < 131073 = omega (arith, small) in
    ap (λ bs. reading size [] last nothing (bs ++ rest)) (placed_behind places p contents (metadatas ++ revokes))
    ∙ ap (reading size [] last nothing) (append_assoc (placed_from places p contents) (placed_from places q (metadatas ++ revokes)) rest)
    ∙ pieces_read size places last (content_chunk size jid) (IsContent size) (content_room size) (rooms size is).0
    (λ p' begun es rest' few all more'. content_read size jid places p' last begun es rest' big low few (omega (arith, few, bound_content)) all more')
    (length (content_of t)) p nothing (content_of t) (placed_from places q (metadatas ++ revokes) ++ rest) (omega arith) sorted.content (placed-long places q (metadatas ++ revokes) rest more)
    ∙ ap (λ bs. reading size [] last (of_blocks (content_of t)) (bs ++ rest)) (placed_behind places q metadatas revokes)
    ∙ ap (reading size [] last (of_blocks (content_of t))) (append_assoc (placed_from places q metadatas) (placed_from places r revokes) rest)
    ∙ pieces_read size places last (metadata_chunk size jid) IsMetadata (numbers_room size) (rooms size is).1
    (λ p' begun es rest' few all more'. metadata_read size jid places p' last begun es rest' big low few (omega (arith, few, bound_metadata)) all more')
    (length (metadata_of t)) q (of_blocks (content_of t)) (metadata_of t) last_part (omega arith) sorted.metadata (placed-long places r revokes rest more)
    ∙ revokes_all size jid places r last (joined (of_blocks (content_of t)) (of_blocks (metadata_of t))) t.revokes rest big small low sorted.few_revokes sorted.revokes more
    ∙ ap (λ bs. reading size [] last (record { blocks = bs; revokes = t.revokes }) rest) (append-nil (content_of t ++ metadata_of t))
