-- What the table and the leaves of a hashed directory break, as the code finds it.
use Rattle.std.proofs.Common.{◌≡◌, ◌≢◌, true, ℕ, [], ◌∷◌, ◌++◌, ◌-◌, ◌*◌, ◌/◌, ◌^◌, ◌<◌, ◌≤◌, min, List, length, drop, Option, Some, None, Result, Ok, refl, sym, ap, subst, ◌∙◌, arith, cond, append_assoc}
use Rattle.std.specs.Prelude.{◌==◌}
use Rattle.std.proofs.Math.Pow.{pow_mono}
use Rattle.std.proofs.Math.Nat.{div-lt_iff_lt-mul}
use Rattle.std.proofs.lemmas.Bool.{cond-true, cond-false, eq-eqb, ne_eqb}
use Rattle.std.proofs.lemmas.Bool.Decides.{nat_tests}
use Rattle.crc_words.specs.Remainder.{crc32_of}
use Rattle.gfs2_layout.specs.Area.{Slot, slots_of, slot_at, IsFirstRecord}
use Rattle.gfs2_layout.specs.Bytes.{u32_at}
use Rattle.gfs2_layout.specs.Headers.{HasHeader}
use Rattle.gfs2_layout.specs.Inode.{dinode_in, depth_in, unit, content_block, content_count, entry_block, height_in, leaf_in, leaf_area, pieces}
use Rattle.gfs2_layout.specs.Records.{records_in}
use Rattle.gfs2_layout.specs.Structures.{answer, or_else, header_fault, records_fault, leaf_of, leaf_read, is_in_use}
use Rattle.gfs2_layout.specs.declared.dinode.Dinode.{Dinode}
use Rattle.gfs2_layout.specs.declared.dirent.Dirent.{Dirent}
use Rattle.gfs2_layout.specs.declared.fault.LayoutFault.{LayoutFault}
use Rattle.gfs2_layout.specs.declared.leaf.Leaf.{Leaf}
use Rattle.image_model.specs.Claims.{every, Claims, HasLeaf, HasArea, of_leaf}
use Rattle.image_reader.specs.Finding.{said_by}
use Rattle.image_reader.specs.Going.{HasSlotBefore, AreCounted}
use Rattle.image_model.specs.Owners.{Chained}
use Rattle.image_reader.specs.Reading.{held, image_at, IsTrueOf}
use Rattle.image_model.specs.Rules.{IsHashedAt, table_too_small, table_too_large, table_size, records_format, leaf_too_deep, leaf_hash, leaf_entries, no_header, of_leaf as needs_leaf}
use Rattle.image_reader.specs.declared.blocks.Block.{Block}
use Rattle.image_reader.specs.declared.blocks.Blocks.{Blocks}
use Rattle.image_reader.specs.declared.directory.Tally.{Tally}
use Rattle.image_reader.specs.declared.image.ImageFault.{ImageFault}
use Rattle.image_reader.specs.declared.image.ImageFault.TheVariants.{Damaged}
use Rattle.image_reader.specs.declared.inode.Inode.{Inode}
use Rattle.image_reader.proofs.Going.{record_in_area}
use Rattle.image_reader.proofs.Inside.{block_inside, record_inside}
use Rattle.image_reader.proofs.InodeFaults.{told_at, told_of, said}
use Rattle.image_reader.proofs.Pieces.{dinode_is, pieces_cover}

-- ---- the table

pub table_large : (inode : Inode) (fault : ImageFault) → fault ≡ Damaged inode.block.number 13 → IsHashedAt (image_at inode.block.image) inode.block.number
    → 8 * inode.block.image.size < 2 ^ inode.dinode.depth → IsTrueOf (image_at inode.block.image) fault
table_large inode fault is here high =
    told_of inode.block fault _ is (table_too_large inode.block.number here (said inode (λ d. 8 * inode.block.image.size < 2 ^ d.depth) high))

pub table_deep : (inode : Inode) (fault : ImageFault) → fault ≡ Damaged inode.block.number 13 → IsHashedAt (image_at inode.block.image) inode.block.number
    → 15 < inode.dinode.depth → IsTrueOf (image_at inode.block.image) fault
table_deep inode fault is here deep =
    let p : 2 ^ 16 ≤ 2 ^ inode.dinode.depth = pow_mono {i = 16} {j = inode.dinode.depth} (omega (arith, deep)) in
    table_large inode fault is here (omega (arith, p, inode.block.image.most))

pub table_small : (inode : Inode) (fault : ImageFault) (count : ℕ) → fault ≡ Damaged inode.block.number 13 → IsHashedAt (image_at inode.block.image) inode.block.number
    → count ≡ 2 ^ inode.dinode.depth → count < inode.block.image.size / 16 → IsTrueOf (image_at inode.block.image) fault
table_small inode fault count is here count_is low =
    told_of inode.block fault _ is (table_too_small inode.block.number here (said inode (λ d. 2 ^ d.depth < inode.block.image.size / 16) (subst (λ n. n < inode.block.image.size / 16) count_is low)))

pub table_misfit : (inode : Inode) (fault : ImageFault) (count : ℕ) → fault ≡ Damaged inode.block.number 13 → IsHashedAt (image_at inode.block.image) inode.block.number
    → count ≡ 2 ^ inode.dinode.depth → inode.dinode.size ≢ 8 * count → IsTrueOf (image_at inode.block.image) fault
table_misfit inode fault count is here count_is other =
    told_of inode.block fault _ is (table_size inode.block.number here (said inode (λ d. d.size ≢ 8 * 2 ^ d.depth) (subst (λ n. inode.dinode.size ≢ 8 * n) count_is other)))

pub depth_is : (inode : Inode) → inode.dinode.depth ≡ depth_in (held inode)
depth_is inode = ap (λ (d : Dinode). d.depth) (dinode_is inode)

-- ---- the block that has a pointer

pub index_within : (inode : Inode) (i u : ℕ) → u ≡ unit (held inode) → 0 < u → 8 * i < inode.dinode.size → 8 * i / u < content_count (held inode)
index_within inode i u is some low =
    let size : inode.dinode.size ≡ (dinode_in (held inode)).size = ap (λ (d : Dinode). d.size) (dinode_is inode) in
    let cover : (dinode_in (held inode)).size ≤ pieces (dinode_in (held inode)).size u * u = pieces_cover _ u some in
    let below : 8 * i / u < pieces (dinode_in (held inode)).size u = (div-lt_iff_lt-mul some).1 (omega (arith, cover, size, low)) in
    subst (λ n. 8 * i / u < pieces (dinode_in (held inode)).size n) is below

height_is : (inode : Inode) → inode.dinode.height ≡ height_in (held inode)
height_is inode = ap (λ (d : Dinode). d.height) (dinode_is inode)

pub block_of_stuffed : (inode : Inode) (i : ℕ) → inode.dinode.height ≡ 0 → inode.block.number ≡ entry_block (held inode) i
block_of_stuffed inode i low = sym (cond-true _ _ _ (eq-eqb (height_in (held inode)) 0 (sym (height_is inode) ∙ low)))

pub block_of_table : (inode : Inode) (i u index b : ℕ) → inode.dinode.height ≢ 0 → u ≡ unit (held inode) → index ≡ 8 * i / u → b ≢ 0 → b ≡ content_block (held inode) index
    → b ≡ entry_block (held inode) i
block_of_table inode i u index b high unit_is index_is some is =
    let h = held inode in
    let at : content_block h index ≡ content_block h (8 * i / unit h) = ap (content_block h) (index_is ∙ ap (λ n. 8 * i / n) unit_is) in
    let there : b ≡ content_block h (8 * i / unit h) = is ∙ at in
    let first = cond-false (height_in h == 0) h.own (cond (content_block h (8 * i / unit h) == 0) h.own (content_block h (8 * i / unit h))) (ne_eqb (height_in h) 0 (λ e. high (height_is inode ∙ e))) in
    let second = cond-false (content_block h (8 * i / unit h) == 0) h.own (content_block h (8 * i / unit h)) (ne_eqb (content_block h (8 * i / unit h)) 0 (λ e. some (there ∙ e))) in
    there ∙ sym (first ∙ second)

pub block_of_hole : (inode : Inode) (i u index : ℕ) → inode.dinode.height ≢ 0 → u ≡ unit (held inode) → index ≡ 8 * i / u → content_block (held inode) index ≡ 0
    → inode.block.number ≡ entry_block (held inode) i
block_of_hole inode i u index high unit_is index_is none =
    let h = held inode in
    let at : content_block h index ≡ content_block h (8 * i / unit h) = ap (content_block h) (index_is ∙ ap (λ n. 8 * i / n) unit_is) in
    let first = cond-false (height_in h == 0) h.own (cond (content_block h (8 * i / unit h) == 0) h.own (content_block h (8 * i / unit h))) (ne_eqb (height_in h) 0 (λ e. high (height_is inode ∙ e))) in
    let second = cond-true (content_block h (8 * i / unit h) == 0) h.own (content_block h (8 * i / unit h)) (eq-eqb (content_block h (8 * i / unit h)) 0 (sym at ∙ none)) in
    sym (first ∙ second)

-- ---- the head of a leaf

pub leaf_header : (inode : Inode) (block : Block) (fault : ImageFault) → block.image ≡ inode.block.image → fault ≡ Damaged block.number 1
    → HasLeaf (image_at inode.block.image) inode.block.number block.number → ¬ (HasHeader 6 600 ((image_at block.image).at block.number)) → IsTrueOf (image_at inode.block.image) fault
leaf_header inode block fault same is leaf lacks =
    let P : Blocks → Type 0 = λ i. ¬ (HasHeader 6 600 ((image_at i).at block.number)) in
    told_at inode.block.image fault _ _ is (block_inside block inode.block.image same) (no_header block.number 6 600 (needs_leaf inode.block.number block.number leaf) (subst P same lacks))

pub header_well : (needed kind format : ℕ) (bytes : List ℕ) → needed ≤ length bytes → HasHeader kind format bytes → header_fault needed kind format bytes ≡ None
header_well needed kind format bytes long header = grind (arith, nat_tests, header.magic_is, header.kind_is, header.format_is)

records_well : (bytes : List ℕ) → u32_at 28 bytes ≡ 1200 → records_fault bytes ≡ None
records_well bytes is = cond-true _ _ _ (eq-eqb (u32_at 28 bytes) 1200 is)

answer_is : {A : Type 0} (o : Option LayoutFault) (s x : A) → answer o s ≡ Ok x → s ≡ x
answer_is None s x e = cc
answer_is (Some fault) s x e = absurd (cc)

pub leaf_reads : (bytes : List ℕ) (leaf : Leaf) (result : Result Leaf LayoutFault) → result ≡ Ok leaf → result ≡ leaf_read bytes → leaf ≡ leaf_of bytes
leaf_reads bytes leaf result ok is = sym (answer_is _ (leaf_of bytes) leaf (sym is ∙ ok))

pub leaf_well : (bytes : List ℕ) → 104 ≤ length bytes → HasHeader 6 600 bytes → u32_at 28 bytes ≡ 1200 → leaf_read bytes ≡ Ok (leaf_of bytes)
leaf_well bytes long header format =
    ap (λ o. answer (or_else o (records_fault bytes)) (leaf_of bytes)) (header_well 104 6 600 bytes long header) ∙ ap (λ o. answer o (leaf_of bytes)) (records_well bytes format)

pub leaf_format : (inode : Inode) (block : Block) (fault : ImageFault) (bytes : List ℕ) → block.image ≡ inode.block.image → fault ≡ Damaged block.number 14
    → HasLeaf (image_at inode.block.image) inode.block.number block.number → bytes ≡ (image_at block.image).at block.number → 104 ≤ length bytes
    → HasHeader 6 600 ((image_at block.image).at block.number) → ((x : Leaf) → leaf_read bytes ≡ Ok x → ⊥) → IsTrueOf (image_at inode.block.image) fault
leaf_format inode block fault bytes same is leaf bytes_is long header fails =
    let P : Blocks → Type 0 = λ i. u32_at 28 ((image_at i).at block.number) ≢ 1200 in
    let wrong : u32_at 28 ((image_at block.image).at block.number) ≢ 1200 = λ e.
    fails (leaf_of bytes) (leaf_well bytes long (subst (HasHeader 6 600) (sym bytes_is) header) (ap (u32_at 28) bytes_is ∙ e)) in
    told_at inode.block.image fault _ _ is (block_inside block inode.block.image same) (records_format inode.block.number block.number leaf (subst P same wrong))

pub leaf_at : (inode : Inode) (block : Block) (bytes : List ℕ) (leaf : Leaf) → block.image ≡ inode.block.image → bytes ≡ (image_at block.image).at block.number → leaf ≡ leaf_of bytes
    → leaf ≡ leaf_in (held inode) block.number
leaf_at inode block bytes leaf same bytes_is is =
    is ∙ ap leaf_of bytes_is ∙ ap (λ (i : Blocks). leaf_of ((image_at i).at block.number)) same

pub leaf_deep : (inode : Inode) (fault : ImageFault) (x depth : ℕ) (leaf : Leaf) → fault ≡ Damaged x 14 → HasLeaf (image_at inode.block.image) inode.block.number x
    → x < inode.block.image.count → leaf ≡ leaf_in (held inode) x → depth ≡ depth_in (held inode) → depth < leaf.depth → IsTrueOf (image_at inode.block.image) fault
leaf_deep inode fault x depth leaf is has inside read depth_same deep =
    let high : depth_in (held inode) < (leaf_in (held inode) x).depth = omega (arith, deep, depth_same, ap (λ (l : Leaf). l.depth) read) in
    told_at inode.block.image fault _ _ is inside (leaf_too_deep inode.block.number x has high)

-- ---- hashes

-- the records of the area are some, and those from here on
pub record IsBehind (area rest : List ℕ) : Type 0 where
  pub before : List Slot
  pub split : slots_of area ≡ before ++ slots_of rest

pub behind_start : (area : List ℕ) → IsBehind area area
behind_start area = record { before = []; split = refl }

pub behind_more : (area rest later : List ℕ) (head : Dirent) (name : List ℕ) → IsBehind area rest → IsFirstRecord rest head name later → IsBehind area later
behind_more area rest later head name b first = record {
  before = b.before ++ (slot_at rest ∷ []);
  split = b.split ∙ ap (λ more. b.before ++ more) first.slots ∙ sym (append_assoc b.before (slot_at rest ∷ []) (slots_of later));
}

pub hash_astray : (inode : Inode) (fault : ImageFault) (by x hash place shift : ℕ) (leaf : Leaf) (area rest later : List ℕ) (head : Dirent) (name : List ℕ)
    → fault ≡ Damaged x 14 → Claims (image_at inode.block.image) by x (Chained inode.block.number hash place) → leaf ≡ leaf_in (held inode) x → area ≡ leaf_area (held inode) x
    → IsBehind area rest → IsFirstRecord rest head name later → is_in_use head ≡ true → shift ≡ 32 - min leaf.depth 32
    → crc32_of name / 2 ^ shift ≢ hash / 2 ^ shift → IsTrueOf (image_at inode.block.image) fault
hash_astray inode fault by x hash place shift leaf area rest later head name is claimed read area_is b first used shifted other =
    let im = image_at inode.block.image in
    let depth : shift ≡ 32 - (leaf_in (held inode) x).depth = omega (arith, shifted, ap (λ (l : Leaf). l.depth) read) in
    let at : HasSlotBefore inode.block.image inode.block.number x head name later = record {
      area = leaf_area (held inode) x;
      has = of_leaf x (by, hash, place, claimed);
      before = b.before;
      slot = slot_at rest;
      split = ap slots_of (sym area_is) ∙ b.split ∙ ap (λ more. b.before ++ more) first.slots;
      shown = first.shown;
    } in
    let here = record_in_area inode.block.image inode.block.number x head name later at used in
    let wrong : crc32_of name / 2 ^ (32 - (leaf_in (held inode) x).depth) ≢ hash / 2 ^ (32 - (leaf_in (held inode) x).depth) = subst (λ n. crc32_of name / 2 ^ n ≢ hash / 2 ^ n) depth other in
    told_at inode.block.image fault x 14 is (record_inside inode.block.image inode.block.number x (said_by head name) (leaf_area (held inode) x, of_leaf x (by, hash, place, claimed), here)) (leaf_hash inode.block.number x by hash place (said_by head name) claimed here wrong)

-- ---- the records of a leaf

pub leaf_bytes : (inode : Inode) (block : Block) (bytes : List ℕ) → block.image ≡ inode.block.image → bytes ≡ drop 104 ((image_at block.image).at block.number)
    → bytes ≡ leaf_area (held inode) block.number
leaf_bytes inode block bytes same is = is ∙ ap (λ (i : Blocks). drop 104 ((image_at i).at block.number)) same

pub area_of_leaf : (image : Blocks) (inode : Inode) (block : Block) (bytes : List ℕ) (by hash place : ℕ) → inode.block.image ≡ image → block.image ≡ inode.block.image
    → bytes ≡ drop 104 ((image_at block.image).at block.number) → Claims (image_at image) by block.number (Chained inode.block.number hash place)
    → HasArea (image_at image) inode.block.number block.number bytes
area_of_leaf image inode block bytes by hash place own same is claimed =
    let bytes_is : bytes ≡ leaf_area (every (image_at image) inode.block.number) block.number = is ∙ ap (λ (i : Blocks). drop 104 ((image_at i).at block.number)) (same ∙ own) in
    subst (HasArea (image_at image) inode.block.number block.number) (sym bytes_is) (of_leaf block.number (by, hash, place, claimed))

pub leaf_miscounted : (image : Blocks) (inode : Inode) (block : Block) (leaf : Leaf) (fault : ImageFault) (bytes : List ℕ) (none own : Tally) (by hash place : ℕ) → inode.block.image ≡ image
    → block.image ≡ inode.block.image → leaf ≡ leaf_in (held inode) block.number → bytes ≡ drop 104 ((image_at block.image).at block.number)
    → Claims (image_at image) by block.number (Chained inode.block.number hash place) → fault ≡ Damaged block.number 14 → none.entries ≡ 0 → AreCounted none own (records_in bytes)
    → leaf.entries < 2 ^ 64 → own.entries ≢ leaf.entries → IsTrueOf (image_at image) fault
leaf_miscounted image inode block leaf fault bytes none own by hash place own_image same read is claimed fault_is zero_entries counted small other =
    let a = inode.block.number in
    let x = block.number in
    let bytes_is : bytes ≡ leaf_area (every (image_at image) a) x = is ∙ ap (λ (i : Blocks). drop 104 ((image_at i).at x)) (same ∙ own_image) in
    let leaf_is : leaf ≡ leaf_in (every (image_at image) a) x = read ∙ ap (λ (i : Blocks). leaf_of ((image_at i).at x)) own_image in
    let wrong : leaf.entries ≢ length (records_in bytes) = λ e. other (omega (arith, e, zero_entries, counted.entries, small)) in
    let P : Leaf → List ℕ → Type 0 = λ l bs. l.entries ≢ length (records_in bs) in
    told_at image fault x 14 fault_is (block_inside block image (same ∙ own_image))
    (leaf_entries a x (by, hash, place, claimed) (subst (P (leaf_in (every (image_at image) a) x)) bytes_is (subst (λ l. P l bytes) leaf_is wrong)))
