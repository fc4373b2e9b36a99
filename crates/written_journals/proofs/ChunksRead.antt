-- A chunk of content or of metadata is read as it was written.
use Rattle.std.proofs.Common.{◌≡◌, ◌+◌, ◌*◌, ◌<◌, ◌≤◌, ◌^◌, ◌++◌, ℕ, suc, Bool, true, false, List, [], ◌∷◌, length, map, Option, Some, Result, Ok, refl, sym, ap, ◌∙◌, arith, length-append}
use Rattle.std.specs.Prelude.{◌==◌, ◌&&◌, nat_le, if◌then◌else◌}
use Rattle.std.specs.List.{All, AllByRecursion, list_all}
use Rattle.std.proofs.lemmas.Bool.{cond-true, eq-eqb}
use Rattle.std.proofs.lemmas.Bool.Decides.{nat_tests}
use Rattle.std.proofs.lemmas.List.{length-map}
use Rattle.gfs2_layout.specs.Bytes.{u32_at}
use Rattle.gfs2_layout.specs.Structures.{magic}
use Rattle.gfs2_layout.specs.declared.fault.LayoutFault.{LayoutFault}
use Rattle.log_layout.specs.Chunks.{Logged, Transaction, are_entries, chunk_in, content_room, dues, first_revokes, if_descriptor, joined, numbers_at, numbers_room}
use Rattle.log_layout.specs.Descriptors.{descriptor_put, descriptor_read}
use Rattle.log_layout.specs.Journal.{Placed, next}
use Rattle.log_layout.specs.Transactions.{reading}
use Rattle.log_layout.specs.declared.descriptor.ChunkKind.TheVariants.{Metadata, Journaled}
use Rattle.log_layout.specs.declared.descriptor.LogDescriptor.{LogDescriptor}
use Rattle.log_layout.specs.declared.due.Due.{Due}
use Rattle.log_layout.specs.declared.due.Due.TheVariants as due
use Rattle.journal_scan.proofs.Steps.{read_chunk}
use Rattle.node_journal.specs.Encoding.{begins_with_magic, content_chunk, content_numbers, descriptor_block, escaped, metadata_chunk, zeros}
use Rattle.node_journal.specs.Places.{placed_from}
use Rattle.written_journals.proofs.NumbersBack.{AreLow, HaveLowBlocks, count_of_pairs, escape_of, numbers_back, pairs_back}
use Rattle.written_journals.proofs.Blocks.{not_accepted}
use Rattle.written_journals.proofs.DescriptorsBack.{block_kind, block_read, put_long}
use Rattle.written_journals.proofs.Parts.{AreParts, none, one, all_joined, content_part, joined_assoc, joined_nothing, metadata_part, of_blocks, read_parts}

-- ---- a chunk that a descriptor begins

pub chunk_is : (d : LogDescriptor) (size left : ℕ) (bytes : List ℕ) (ds : List Due) → descriptor_read bytes ≡ Ok d → are_entries d.kind size d.entries bytes ≡ true → dues d.kind size d.entries bytes ≡ ds
    → d.length ≡ 1 + length ds → d.length ≤ left → chunk_in size left bytes ≡ Some (record { due = ds; revokes = first_revokes d.kind size d.entries bytes })
chunk_is d size left bytes ds read entries due_is long room =
    let counted : (d.length == 1 + length (dues d.kind size d.entries bytes)) ≡ true = eq-eqb d.length (1 + length (dues d.kind size d.entries bytes)) (long ∙ ap (λ (xs : List Due). 1 + length xs) (sym due_is)) in
    let inside : nat_le d.length left ≡ true = grind (arith, nat_tests, room) in
    ap (λ (r : Result LogDescriptor LayoutFault). if_descriptor size left r bytes) read
    ∙ cond-true _ _ _ ((λ i. entries i && counted i && inside i))
    ∙ ap (λ (xs : List Due). Some (record { due = xs; revokes = first_revokes d.kind size d.entries bytes })) due_is

length-placed : (places p : ℕ) (bs : List (List ℕ)) → length (placed_from places p bs) ≡ length bs
length-placed places p [] = refl
length-placed places p (b ∷ bs) = ap suc (length-placed places (next places p) bs)

-- the descriptor, and then the blocks that are due
pub chunk_read : (size places p : ℕ) (last : Option ℕ) (begun : Transaction) (d : LogDescriptor) (head : List ℕ) (bs : List (List ℕ)) (ds : List Due) (ps : List Transaction) (rest : List Placed)
    → descriptor_read head ≡ Ok d → u32_at 4 head ≡ 9 → are_entries d.kind size d.entries head ≡ true → dues d.kind size d.entries head ≡ ds → d.length ≡ 1 + length ds → AreParts ds bs ps
    → length ds ≡ length bs → 1 ≤ length rest
    → reading size [] last begun (placed_from places p (head ∷ bs) ++ rest)
    ≡ reading size [] last (all_joined (joined begun (record { blocks = []; revokes = first_revokes d.kind size d.entries head })) ps) rest
chunk_read size places p last begun d head bs ds ps rest read kind entries due_is long parts as_many more =
    let behind = placed_from places (next places p) bs ++ rest in
    let left : d.length ≤ length behind = omega (arith, long, as_many, more, length-append (placed_from places (next places p) bs) rest, length-placed places (next places p) bs) in
    read_chunk size last begun (record { place = p; bytes = head }) behind (record { due = ds; revokes = first_revokes d.kind size d.entries head })
    (not_accepted p head (λ is eight. let bad : 8 ≡ 9 = sym eight ∙ kind in cc))
    (chunk_is d size (length behind) head ds read entries due_is long left)
    ∙ read_parts size places (next places p) last (joined begun (record { blocks = []; revokes = first_revokes d.kind size d.entries head })) ds bs ps rest parts

-- ---- content

-- a block of content, whole
pub record IsContent (size : ℕ) (e : Logged) : Type 0 where
  pub whole : length e.bytes ≡ size
  pub low : All (λ byte. byte < 256) e.bytes
  pub plain : e.plain ≡ true
  pub block : e.block < 2 ^ 64

abbrev due_of : Logged → Due
due_of e = due.Content e.block (begins_with_magic e.bytes)

abbrev pub single : Logged → Transaction
single e = of_blocks (e ∷ [])

contents_are_parts : (size : ℕ) (es : List Logged) → 512 ≤ size → AllByRecursion (IsContent size) es → AreParts (map due_of es) (map (λ (e : Logged). escaped e.bytes) es) (map single es)
contents_are_parts size [] big all = none
contents_are_parts size (e ∷ es) big all =
    one (due_of e) (escaped e.bytes) (single e) (map due_of es) (map (λ (e : Logged). escaped e.bytes) es) (map single es)
    (content_part e (omega (arith, all.0.whole, big)) all.0.low all.0.plain) (contents_are_parts size es big all.1)

-- all of them together
pub joined_singles : (begun : Transaction) (es : List Logged) → all_joined begun (map single es) ≡ joined begun (of_blocks es)
joined_singles begun [] = sym (joined_nothing begun)
joined_singles begun (e ∷ es) = joined_singles (joined begun (single e)) es ∙ joined_assoc begun (single e) (of_blocks es)

low_blocks : (size : ℕ) (es : List Logged) → AllByRecursion (IsContent size) es → HaveLowBlocks es
low_blocks size [] all = tt
low_blocks size (e ∷ es) all = (all.0.block, low_blocks size es all.1)

escape_is : (b : Bool) → ((if b then 1 else 0) == 1) ≡ b
escape_is true = refl
escape_is false = refl

map_same : {A B : Type 0} (f g : A → B) → ((x : A) → f x ≡ g x) → (xs : List A) → map f xs ≡ map g xs
map_same f g e [] = refl
map_same f g e (x ∷ xs) = λ i. e x i ∷ map_same f g e xs i

escape_low : (b rest : Bool) → rest ≡ true → (nat_le (if b then 1 else 0) 1 && rest) ≡ true
escape_low true rest e = e
escape_low false rest e = e

escapes_low : (es : List Logged) → list_all (λ escape. nat_le escape 1) (map escape_of es) ≡ true
escapes_low [] = refl
escapes_low (e ∷ es) = escape_low (begins_with_magic e.bytes) (list_all (λ escape. nat_le escape 1) (map escape_of es)) (escapes_low es)

both : (a b : Bool) → a ≡ true → b ≡ true → (a && b) ≡ true
both a b e f = λ i. e i && f i

pub content_read : (size jid places p : ℕ) (last : Option ℕ) (begun : Transaction) (es : List Logged) (rest : List Placed) → 512 ≤ size → jid < 2 ^ 32 → length es ≤ content_room size → length es < 131073
    → AllByRecursion (IsContent size) es → 1 ≤ length rest
    → reading size [] last begun (placed_from places p (content_chunk size jid es) ++ rest) ≡ reading size [] last (joined begun (of_blocks es)) rest
content_read size jid places p last begun es rest big low few count all more =
    let numbers = content_numbers es in
    let room : 72 + 8 * length numbers ≤ size = omega (arith, count_of_pairs es, few, big) in
    let d : LogDescriptor = record { jid = jid; kind = Journaled; length = 1 + length es; entries = length es } in
    let head = descriptor_block size jid Journaled (1 + length es) (length es) numbers in
    let blocks_low : 1 + length es < 2 ^ 32 = omega (arith, count) in
    let entries_low : length es < 2 ^ 32 = omega (arith, count) in
    let base = descriptor_put d (zeros size) in
    let fits : 72 + 16 * length es ≤ length base = omega (arith, put_long size jid (1 + length es) (length es) Journaled numbers room low blocks_low entries_low, few, big) in
    let escapes = pairs_back (λ b x. x) 72 es base (low_blocks size es all) fits in
    let blocks = pairs_back (λ b x. due.Content b (x == 1)) 72 es base (low_blocks size es all) fits in
    let fewer : nat_le (length es) (content_room size) ≡ true = grind (arith, nat_tests, few) in
    chunk_read size places p last begun d head (map (λ (e : Logged). escaped e.bytes) es) (map due_of es) (map single es) rest
    (block_read size jid (1 + length es) (length es) Journaled numbers room low blocks_low entries_low) (block_kind size jid (1 + length es) (length es) Journaled numbers room low blocks_low entries_low)
    (both (nat_le (length es) (content_room size)) (list_all (λ escape. nat_le escape 1) (numbers_at 80 16 (length es) head)) fewer (ap (list_all (λ escape. nat_le escape 1)) escapes ∙ escapes_low es))
    (blocks ∙ map_same (λ (e : Logged). due.Content e.block (escape_of e == 1)) due_of (λ e. ap (due.Content e.block) (escape_is (begins_with_magic e.bytes))) es)
    (ap (λ n. 1 + n) (sym (length-map es due_of))) (contents_are_parts size es big all) (length-map es due_of ∙ sym (length-map es (λ (e : Logged). escaped e.bytes))) more
    ∙ ap (λ (t : Transaction). reading size [] last t rest) (ap (λ (t : Transaction). all_joined t (map single es)) (joined_nothing begun) ∙ joined_singles begun es)

-- ---- metadata

-- a block of metadata
pub record IsMetadata (e : Logged) : Type 0 where
  pub plain : e.plain ≡ false
  pub magic : u32_at 0 e.bytes ≡ magic
  pub block : e.block < 2 ^ 64

abbrev number_of : Logged → ℕ
number_of e = e.block

metadata_are_parts : (es : List Logged) → AllByRecursion IsMetadata es → AreParts (map due.Metadata (map number_of es)) (map (λ (e : Logged). e.bytes) es) (map single es)
metadata_are_parts [] all = none
metadata_are_parts (e ∷ es) all =
    one (due.Metadata e.block) e.bytes (single e) (map due.Metadata (map number_of es)) (map (λ (e : Logged). e.bytes) es) (map single es) (metadata_part e all.0.plain all.0.magic) (metadata_are_parts es all.1)

low_numbers : (es : List Logged) → AllByRecursion IsMetadata es → AreLow (map number_of es)
low_numbers [] all = tt
low_numbers (e ∷ es) all = (all.0.block, low_numbers es all.1)

pub metadata_read : (size jid places p : ℕ) (last : Option ℕ) (begun : Transaction) (es : List Logged) (rest : List Placed) → 512 ≤ size → jid < 2 ^ 32 → length es ≤ numbers_room size → length es < 131073
    → AllByRecursion IsMetadata es → 1 ≤ length rest
    → reading size [] last begun (placed_from places p (metadata_chunk size jid es) ++ rest) ≡ reading size [] last (joined begun (of_blocks es)) rest
metadata_read size jid places p last begun es rest big low few count all more =
    let numbers = map number_of es in
    let many : length numbers ≡ length es = length-map es number_of in
    let room : 72 + 8 * length numbers ≤ size = omega (arith, many, few, big) in
    let d : LogDescriptor = record { jid = jid; kind = Metadata; length = 1 + length es; entries = length es } in
    let head = descriptor_block size jid Metadata (1 + length es) (length es) numbers in
    let blocks_low : 1 + length es < 2 ^ 32 = omega (arith, count) in
    let entries_low : length es < 2 ^ 32 = omega (arith, count) in
    let base = descriptor_put d (zeros size) in
    let fits : 72 + 8 * length numbers ≤ length base = omega (arith, put_long size jid (1 + length es) (length es) Metadata numbers room low blocks_low entries_low, room) in
    let fewer : nat_le (length es) (numbers_room size) ≡ true = grind (arith, nat_tests, few) in
    let ds = map due.Metadata numbers in
    let due_long : length ds ≡ length es = length-map numbers due.Metadata ∙ many in
    chunk_read size places p last begun d head (map (λ (e : Logged). e.bytes) es) ds (map single es) rest
    (block_read size jid (1 + length es) (length es) Metadata numbers room low blocks_low entries_low) (block_kind size jid (1 + length es) (length es) Metadata numbers room low blocks_low entries_low)
    fewer (ap (map due.Metadata) (ap (λ n. numbers_at 72 8 n head) (sym many) ∙ numbers_back 72 numbers base (low_numbers es all) fits))
    (ap (λ n. 1 + n) (sym due_long)) (metadata_are_parts es all) (due_long ∙ sym (length-map es (λ (e : Logged). e.bytes))) more
    ∙ ap (λ (t : Transaction). reading size [] last t rest) (ap (λ (t : Transaction). all_joined t (map single es)) (joined_nothing begun) ∙ joined_singles begun es)
