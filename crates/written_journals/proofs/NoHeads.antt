-- No block of a chunk is a log header.
use Rattle.std.proofs.Common.{◌≡◌, ◌+◌, ◌-◌, ◌*◌, ◌<◌, ◌≤◌, ◌^◌, ◌++◌, ℕ, zero, suc, true, false, List, [], ◌∷◌, length, map, take, drop, sym, ap, subst, ◌∙◌, inl, inr, arith, length-drop}
use Rattle.std.specs.List.{AllByRecursion, flat_map}
use Rattle.std.specs.Int.{w32}
use Rattle.std.proofs.lemmas.Bool.{cases_Bool, cond-true, cond-false, eq-eqb}
use Rattle.std.proofs.lemmas.List.{length-map, length-take}
use Rattle.gfs2_layout.specs.Bytes.{u32_at, with_number}
use Rattle.gfs2_layout.specs.Device.{IsBlockSize}
use Rattle.gfs2_layout.specs.Structures.{magic}
use Rattle.gfs2_layout.proofs.InPlace.{is_width_32, number-with_same}
use Rattle.log_layout.specs.Chunks.{Logged, Transaction, content_room, further_count, further_room, numbers_room}
use Rattle.log_layout.specs.declared.descriptor.ChunkKind.TheVariants.{Metadata, Revoke, Journaled}
use Rattle.node_journal.specs.Encoding.{begins_with_magic, chunks, content_chunk, content_numbers, content_of, escaped, further_block, metadata_chunk, metadata_of, pieces, revoke_chunks}
use Rattle.node_journal.proofs.Arounds.{division_is_less}
use Rattle.node_journal.proofs.Pieces.{none_in_pieces, pieces_go_on, rooms}
use Rattle.written_journals.proofs.NumbersBack.{AreLow, count_of_pairs}
use Rattle.written_journals.proofs.DescriptorsBack.{block_kind}
use Rattle.written_journals.proofs.ChunksRead.{IsContent}
use Rattle.written_journals.proofs.RevokesRead.{further_kind, low_drop, low_take}
use Rattle.written_journals.proofs.AllRead.{IsSorted, each_drop, each_take}

-- it doesn't begin like a log header
abbrev pub IsNoHead : List ℕ → Type 0
IsNoHead b = u32_at 0 b ≡ magic → u32_at 4 b ≡ 8 → ⊥

abbrev IsOfOtherKind : Logged → Type 0
IsOfOtherKind e = u32_at 4 e.bytes ≡ 8 → ⊥

of_kind : (b : List ℕ) (k : ℕ) → u32_at 4 b ≡ k → (k ≡ 8 → ⊥) → IsNoHead b
of_kind b k is other = λ m e. other (sym is ∙ e)

each_append : {A : Type 0} (P : A → Type 0) (xs ys : List A) → AllByRecursion P xs → AllByRecursion P ys → AllByRecursion P (xs ++ ys)
each_append P [] ys all more = more
each_append P (x ∷ xs) ys all more = (all.0, each_append P xs ys all.1 more)

pieces_no_heads : (chunk : List Logged → List (List ℕ)) (P : Logged → Type 0) (n : ℕ) → 0 < n → ((es : List Logged) → length es ≤ n → AllByRecursion P es → AllByRecursion IsNoHead (chunk es))
    → (most : ℕ) (es : List Logged) → length es ≤ most → AllByRecursion P es → AllByRecursion IsNoHead (flat_map chunk (pieces n es))
pieces_no_heads chunk P n some one most [] h all = let Q : List (List Logged) → Type 0 = λ ps. AllByRecursion IsNoHead (flat_map chunk ps) in subst Q (sym (none_in_pieces n some)) tt
pieces_no_heads chunk P n some one zero (e ∷ es) h all = absurd (omega (arith, h))
pieces_no_heads chunk P n some one (suc most) (e ∷ es) h all =
    let Q : List (List Logged) → Type 0 = λ ps. AllByRecursion IsNoHead (flat_map chunk ps) in
    let more : 0 < length (e ∷ es) = omega arith in
    subst Q (sym (pieces_go_on n (e ∷ es) some more))
    (each_append IsNoHead (chunk (take n (e ∷ es))) (flat_map chunk (pieces n (drop n (e ∷ es)))) (one (take n (e ∷ es)) (omega (arith, length-take n (e ∷ es))) (each_take P n (e ∷ es) all))
    (pieces_no_heads chunk P n some one most (drop n (e ∷ es)) (omega (arith, h, some, length-drop n (e ∷ es))) (each_drop P n (e ∷ es) all)))

-- content has no magic where it is escaped, and where it isn't
escaped_is_no_head : (bytes : List ℕ) → 4 ≤ length bytes → IsNoHead (escaped bytes)
escaped_is_no_head bytes long = elim (cases_Bool (begins_with_magic bytes)) [
  | inl is ↦
      let cleared : u32_at 0 (escaped bytes) ≡ 0 = ap (u32_at 0) (cond-true _ (with_number w32 0 0 bytes) bytes is) ∙ number-with_same w32 0 0 bytes is_width_32 long (omega arith) in
      λ m e. let bad : 0 ≡ magic = sym cleared ∙ m in absurd (omega (arith, bad))
  | inr off ↦
      let same : escaped bytes ≡ bytes = cond-false _ (with_number w32 0 0 bytes) bytes off in
      λ m e. let yes : begins_with_magic bytes ≡ true = eq-eqb (u32_at 0 bytes) magic (ap (u32_at 0) (sym same) ∙ m) in let bad : true ≡ false = sym yes ∙ off in cc
]

contents_no_heads : (size : ℕ) (es : List Logged) → 512 ≤ size → AllByRecursion (IsContent size) es → AllByRecursion IsNoHead (map (λ (e : Logged). escaped e.bytes) es)
contents_no_heads size [] big all = tt
contents_no_heads size (e ∷ es) big all = (escaped_is_no_head e.bytes (omega (arith, all.0.whole, big)), contents_no_heads size es big all.1)

others_no_heads : (es : List Logged) → AllByRecursion IsOfOtherKind es → AllByRecursion IsNoHead (map (λ (e : Logged). e.bytes) es)
others_no_heads [] all = tt
others_no_heads (e ∷ es) all = ((λ m k. all.0 k), others_no_heads es all.1)

further_no_heads : (size jid : ℕ) → 512 ≤ size → jid < 2 ^ 32 → (most : ℕ) (rs : List ℕ) → length rs ≤ most → AreLow rs → AllByRecursion IsNoHead (map (further_block size jid) (pieces (further_room size) rs))
further_no_heads size jid big low most [] h all =
    let some : 0 < further_room size = omega (arith, big) in
    let Q : List (List ℕ) → Type 0 = λ ps. AllByRecursion IsNoHead (map (further_block size jid) ps) in subst Q (sym (none_in_pieces (further_room size) some)) tt
further_no_heads size jid big low zero (r ∷ rs) h all = absurd (omega (arith, h))
further_no_heads size jid big low (suc most) (r ∷ rs) h all =
    let n = further_room size in
    let some : 0 < n = omega (arith, big) in
    let more : 0 < length (r ∷ rs) = omega arith in
    let Q : List (List ℕ) → Type 0 = λ ps. AllByRecursion IsNoHead (map (further_block size jid) ps) in
    let first = take n (r ∷ rs) in
    let fits : 24 + 8 * length first ≤ size = omega (arith, length-take n (r ∷ rs), big) in
    subst Q (sym (pieces_go_on n (r ∷ rs) some more)) (
      of_kind (further_block size jid first) 12 (further_kind size jid first fits low (low_take n (r ∷ rs) all)) (λ e. omega (arith, e)),
      further_no_heads size jid big low most (drop n (r ∷ rs)) (omega (arith, h, some, length-drop n (r ∷ rs))) (low_drop n (r ∷ rs) all),
    )

revokes_no_heads : (size jid : ℕ) (rs : List ℕ) → 512 ≤ size → size ≤ 4096 → jid < 2 ^ 32 → length rs ≤ 131072 → AreLow rs → AllByRecursion IsNoHead (revoke_chunks size jid rs)
revokes_no_heads size jid [] big small low few all = tt
revokes_no_heads size jid (r ∷ rs) big small low few all =
    let count = length (r ∷ rs) in
    let first = take (numbers_room size) (r ∷ rs) in
    let fits : 72 + 8 * length first ≤ size = omega (arith, length-take (numbers_room size) (r ∷ rs), big) in
    let bounded : further_count size count ≤ (count - numbers_room size) + (further_room size - 1) = division_is_less ((count - numbers_room size) + (further_room size - 1)) (further_room size) in
    let blocks_low : 1 + further_count size count < 2 ^ 32 = omega (arith, bounded, few, small) in
    let entries_low : count < 2 ^ 32 = omega (arith, few) in (
      of_kind _ 9 (block_kind size jid (1 + further_count size count) count Revoke first fits low blocks_low entries_low) (λ e. omega (arith, e)),
      further_no_heads size jid big low count (drop (numbers_room size) (r ∷ rs)) (omega (arith, length-drop (numbers_room size) (r ∷ rs))) (low_drop (numbers_room size) (r ∷ rs) all),
    )

pub chunks_no_heads : (size jid : ℕ) (t : Transaction) → IsBlockSize size → jid < 2 ^ 32 → IsSorted size t → AllByRecursion (λ (e : Logged). u32_at 4 e.bytes ≡ 8 → ⊥) (metadata_of t) → AllByRecursion IsNoHead (chunks size jid t)
chunks_no_heads size jid t is low sorted others =
    let big : 512 ≤ size = omega (arith, is) in
    let small : size ≤ 4096 = omega (arith, is) in
    let contents = flat_map (content_chunk size jid) (pieces (content_room size) (content_of t)) in
    let metadatas = flat_map (metadata_chunk size jid) (pieces (numbers_room size) (metadata_of t)) in
    each_append IsNoHead contents (metadatas ++ revoke_chunks size jid t.revokes)
    (pieces_no_heads (content_chunk size jid) (IsContent size) (content_room size) (rooms size is).0
    (λ es few all.
    let fits : 72 + 8 * length (content_numbers es) ≤ size = omega (arith, count_of_pairs es, few, big) in
    let blocks_low : 1 + length es < 2 ^ 32 = omega (arith, few, small) in
    let entries_low : length es < 2 ^ 32 = omega (arith, few, small) in
    (of_kind _ 9 (block_kind size jid (1 + length es) (length es) Journaled (content_numbers es) fits low blocks_low entries_low) (λ e. omega (arith, e)), contents_no_heads size es big all))
    (length (content_of t)) (content_of t) (omega arith) sorted.content)
    (each_append IsNoHead metadatas (revoke_chunks size jid t.revokes)
    (pieces_no_heads (metadata_chunk size jid) IsOfOtherKind (numbers_room size) (rooms size is).1
    (λ es few all.
    let numbers = map (λ (e : Logged). e.block) es in
    let fits : 72 + 8 * length numbers ≤ size = omega (arith, length-map es (λ (e : Logged). e.block), few, big) in
    let blocks_low : 1 + length es < 2 ^ 32 = omega (arith, few, small) in
    let entries_low : length es < 2 ^ 32 = omega (arith, few, small) in
    (of_kind _ 9 (block_kind size jid (1 + length es) (length es) Metadata numbers fits low blocks_low entries_low) (λ e. omega (arith, e)), others_no_heads es all))
    (length (metadata_of t)) (metadata_of t) (omega arith) others)
    (revokes_no_heads size jid t.revokes big small low sorted.few_revokes sorted.revokes))
