-- What the table and the leaves of a hashed directory break, as mounting finds it.
use Rattle.std.proofs.Common.{◌≡◌, ◌≢◌, inl, inr, Option, None, Some, ℕ, ◌+◌, ◌-◌, ◌*◌, ◌/◌, ◌^◌, ◌<◌, ◌≤◌, true, List, length, take, drop, get_or, Result, Ok, refl, sym, ap, subst, ◌∙◌, arith}
use Rattle.std.specs.Prelude.{map, slice_get}
use Rattle.std.specs.List.{All}
use Rattle.std.proofs.Math.Path.{transport}
use Rattle.std.proofs.Math.Pow.{pow_mono}
use Rattle.std.proofs.lemmas.Bool.{cases_eq, cond-false, ne_eqb}
use Rattle.std.proofs.lemmas.List.{length-map}
use Rattle.crc_words.specs.Remainder.{crc32_of}
use Rattle.gfs2_layout.specs.Bytes.{u32_at}
use Rattle.gfs2_layout.specs.Headers.{HasHeader}
use Rattle.gfs2_layout.specs.Inode.{dinode_in, depth_in, entry, first_hash, leaf_in, leaf_area, top_bits, IsLeaf}
use Rattle.gfs2_layout.specs.Records.{Record, records_in, IsRecordArea}
use Rattle.gfs2_layout.specs.Structures.{answer, or_else, header_fault, leaf_of, leaf_read, records_fault}
use Rattle.gfs2_layout.specs.declared.dinode.Dinode.{Dinode}
use Rattle.gfs2_layout.specs.declared.fault.LayoutFault.{LayoutFault}
use Rattle.gfs2_layout.specs.declared.fault.LayoutFault.TheVariants.{Value}
use Rattle.gfs2_layout.specs.declared.leaf.Leaf.{Leaf}
use Rattle.image_model.specs.Claims.{every, Claims, HasArea, HasLeaf, HasDirectory, next_behind, next_leaf}
use Rattle.image_model.specs.Claims.{of_leaf}
use Rattle.image_model.specs.Image.{Image}
use Rattle.image_model.specs.Owners.{Chained}
use Rattle.image_model.specs.Rules.{HasRecordIn, IsHashedAt, table_too_small, table_too_large, table_size, records_format, leaf_too_deep, leaf_hash, leaf_entries, chain_depth, no_header, of_leaf as needs_leaf}
use Rattle.image_reader.specs.Owning.{IsPlaced}
use Rattle.image_reader.proofs.LeafFaults.{leaf_reads, leaf_well}
use Rattle.image_mount.specs.Found.{HasFormat, IsInChain, chain_next, IsReached}
use Rattle.image_mount.specs.Leaves.{HasHashOf, IsLeafHead, IsLeafIn}
use Rattle.image_mount.specs.Listing.{said, is_hashed_by}
use Rattle.image_mount.specs.Looks.{IsInRun, LeadsToLeaf}
use Rattle.image_mount.specs.Refusals.{RefusesRightly}
use Rattle.image_mount.specs.declared.fault.MountFault.{MountFault}
use Rattle.image_mount.specs.declared.fault.MountFault.TheVariants as fault
use Rattle.image_mount.specs.declared.leaf.LeafAt.{LeafAt}
use Rattle.image_mount.specs.declared.listing.Named.{Named}
use Rattle.image_mount.proofs.Causes.{told, hashed_as}
use Rattle.image_mount.proofs.Twice.{all_taken, at_said}
use Rattle.image_mount.proofs.Names.{all_at, at_contains, contains_at, from_mapped}

-- ---- the table

pub hashed_at : (im : Image) (a : ℕ) (d : Dinode) → d ≡ dinode_in (every im a) → HasDirectory im a → is_hashed_by d ≡ true → IsHashedAt im a
hashed_at im a d read directory hashed = (directory.inode, hashed_as im a d true read hashed)

module _ (im : Image) (f : MountFault) (a size : ℕ) (d : Dinode) (is : f ≡ fault.Damaged a 13) (read : d ≡ dinode_in (every im a)) (of : size ≡ im.size) (format : HasFormat im) (inside : IsReached im a) (hashed : IsHashedAt im a) where
  pub table_large : 8 * size < 2 ^ d.depth → RefusesRightly im f
  table_large high =
      let here : 8 * im.size < 2 ^ d.depth = subst (λ s. 8 * s < 2 ^ d.depth) of high in
      told im f a 13 is format inside (table_too_large a hashed (subst (λ (x : Dinode). 8 * im.size < 2 ^ x.depth) read here))

  pub table_deep : size ≤ 4096 → 15 < d.depth → RefusesRightly im f
  table_deep most deep =
      let p : 2 ^ 16 ≤ 2 ^ d.depth = pow_mono {i = 16} {j = d.depth} (omega (arith, deep)) in
      table_large (omega (arith, p, most))

  pub table_small : (count : ℕ) → count ≡ 2 ^ d.depth → count < size / 16 → RefusesRightly im f
  table_small count counted low =
      let here : 2 ^ d.depth < im.size / 16 = subst (λ n. n < im.size / 16) counted (subst (λ s. count < s / 16) of low) in
      told im f a 13 is format inside (table_too_small a hashed (subst (λ (x : Dinode). 2 ^ x.depth < im.size / 16) read here))

  pub table_misfit : (count : ℕ) → count ≡ 2 ^ d.depth → d.size ≢ 8 * count → RefusesRightly im f
  table_misfit count counted other =
      let here : d.size ≢ 8 * 2 ^ d.depth = subst (λ n. d.size ≢ 8 * n) counted other in
      told im f a 13 is format inside (table_size a hashed (subst (λ (x : Dinode). x.size ≢ 8 * 2 ^ x.depth) read here))

-- ---- the head of a leaf

module _ (im : Image) (f : MountFault) (a x : ℕ) (format : HasFormat im) (inside : IsReached im x) (leaf : HasLeaf im a x) where
  pub leaf_header : f ≡ fault.Damaged x 1 → ¬ (HasHeader 6 600 (im.at x)) → RefusesRightly im f
  leaf_header is lacks = told im f x 1 is format inside (no_header x 6 600 (needs_leaf a x leaf) lacks)

  pub leaf_format : (bytes : List ℕ) → f ≡ fault.Damaged x 14 → im.at x ≡ bytes → 104 ≤ length bytes → HasHeader 6 600 bytes → ((l : Leaf) → leaf_read bytes ≡ Ok l → ⊥) → RefusesRightly im f
  leaf_format bytes is same long header fails =
      told im f x 14 is format inside (records_format a x leaf (λ e. fails (leaf_of bytes) (leaf_well bytes long header (ap (u32_at 28) (sym same) ∙ e))))

  pub leaf_deep : (depth : ℕ) (head : Leaf) → f ≡ fault.Damaged x 14 → head ≡ leaf_of (im.at x) → depth ≡ depth_in (every im a) → depth < head.depth → RefusesRightly im f
  leaf_deep depth head is read deep_is deep =
      told im f x 14 is format inside (leaf_too_deep a x leaf (omega (arith, deep, deep_is, ap (λ (l : Leaf). l.depth) read)))

pub leaf_head : (im : Image) (x : ℕ) (bytes : List ℕ) (leaf : Leaf) (result : Result Leaf LayoutFault) → im.at x ≡ bytes → result ≡ Ok leaf → result ≡ leaf_read bytes → leaf ≡ leaf_of (im.at x)
leaf_head im x bytes leaf result same ok is = leaf_reads bytes leaf result ok is ∙ ap leaf_of (sym same)

-- a leaf that was come to is one of the directory
pub leaf_there : (im : Image) (a : ℕ) (at : LeafAt) → IsLeafIn im a at → HasLeaf im a at.block
leaf_there im a at is = (is.claimed.0, at.hash, at.place, is.claimed.1)

-- the next of a chain is another one's depth
pub depth_differs : (im : Image) (a : ℕ) (tail : LeafAt) (head : Leaf) (f : MountFault) → HasFormat im → IsLeafIn im a tail → tail.head.next ≢ 0 → IsReached im tail.head.next → f ≡ fault.Damaged tail.head.next 14 → head ≡ leaf_of (im.at tail.head.next)
    → head.depth ≢ tail.head.depth → RefusesRightly im f
depth_differs im a tail head f format is more inside told_at read other =
    let next : tail.head.next ≡ (leaf_in (every im a) tail.block).next = ap (λ (l : Leaf). l.next) is.head in
    let there : head ≡ leaf_in (every im a) (leaf_in (every im a) tail.block).next = read ∙ ap (λ n. leaf_of (im.at n)) next in
    told im f (leaf_in (every im a) tail.block).next 14 (told_at ∙ ap (λ n. fault.Damaged n 14) next) format (subst (IsReached im) next inside)
    (chain_depth a tail.block (leaf_there im a tail is) (λ e. more (next ∙ e)) (λ e. other (ap (λ (l : Leaf). l.depth) there ∙ e ∙ sym (ap (λ (l : Leaf). l.depth) is.head))))

-- the next of a chain
pub behind_claim : (im : Image) (a : ℕ) (tail : LeafAt) → IsLeafIn im a tail → tail.head.next ≢ 0 → Claims im tail.block tail.head.next (Chained a tail.hash (tail.place + 1))
behind_claim im a tail is more =
    let next : tail.head.next ≡ (leaf_in (every im a) tail.block).next = ap (λ (l : Leaf). l.next) is.head in
    subst (λ n. Claims im tail.block n (Chained a tail.hash (tail.place + 1))) (sym next) (next_leaf is.claimed.0 tail.block a tail.hash tail.place is.claimed.1 (λ e. more (next ∙ e)))

pub behind_leaf : (im : Image) (a : ℕ) (tail : LeafAt) → IsLeafIn im a tail → tail.head.next ≢ 0 → HasLeaf im a tail.head.next
behind_leaf im a tail is more = (tail.block, tail.hash, tail.place + 1, behind_claim im a tail is more)

pub behind_is : (im : Image) (a : ℕ) (tail at : LeafAt) → IsLeafIn im a tail → IsLeafHead im a tail.head.next → tail.head.next ≢ 0 → IsReached im tail.head.next → at.head ≡ leaf_of (im.at tail.head.next) → at.block ≡ tail.head.next → at.hash ≡ tail.hash → at.place ≡ tail.place + 1
    → at.pointer ≡ tail.pointer → at.behind ≡ tail.behind → IsLeafIn im a at
behind_is im a tail at is well more inside read block hash place pointer behind =
    let next : tail.head.next ≡ (leaf_in (every im a) tail.block).next = ap (λ (l : Leaf). l.next) is.head in
    record {
      reached = subst (IsReached im) (sym block) inside;
      head = read ∙ ap (λ n. leaf_of (im.at n)) (sym block);
      well = subst (IsLeafHead im a) (sym block) well;
      pointed = subst (LeadsToLeaf (every im a)) (sym pointer) is.pointed;
      claimed = (tail.block, transport (λ k. Claims im tail.block (sym block k) (Chained a (sym hash k) (sym place k))) (behind_claim im a tail is more));
      placed = transport (λ k. IsPlaced im ((sym next ∙ sym block) k) (Chained a (sym hash k) (sym place k))) (next_behind tail.place tail.block is.placed (λ e. more (next ∙ e)));
      chain = transport (λ k. IsInChain (every im a) (sym pointer k) (sym place k) ((sym next ∙ sym block) k)) (chain_next tail.place tail.block is.chain (λ e. more (next ∙ e)));
      hash = hash ∙ is.hash ∙ ap (first_hash (every im a)) (sym pointer);
      some = omega (arith, is.some, pointer, behind);
      within = omega (arith, is.within, behind);
      run = λ j low high.
          let here = is.run j (omega (arith, low, pointer)) (omega (arith, high, behind)) in
          (here.0 ∙ ap (entry (every im a)) (sym pointer), here.1 ∙ sym hash, subst (λ p. IsInRun (every im a) p j) (sym pointer) here.2);
    }

-- ---- the records of a leaf

pub wrong_count : (im : Image) (a : ℕ) (at : LeafAt) (f : MountFault) (records : List Named) (entries : ℕ) → HasFormat im → IsLeafIn im a at → f ≡ fault.Damaged at.block 14 → entries ≡ at.head.entries
    → map said records ≡ records_in (drop 104 (im.at at.block)) → length records ≢ entries → RefusesRightly im f
wrong_count im a at f records entries format is told_at entries_is read other =
    told im f at.block 14 told_at format is.reached
    (leaf_entries a at.block (leaf_there im a at is) (λ e. other (sym (length-map records said) ∙ ap length read ∙ sym e ∙ sym (ap (λ (l : Leaf). l.entries) is.head) ∙ sym entries_is)))

pub wrong_hash : (im : Image) (a : ℕ) (at : LeafAt) (f : MountFault) (records : List Named) (k shift crc : ℕ) (d : Named) (name : List ℕ) → HasFormat im → IsLeafIn im a at → f ≡ fault.Damaged at.block 14
    → map said records ≡ records_in (drop 104 (im.at at.block)) → k < length records → name ≡ (get_or records k d).name.now → crc ≡ crc32_of name → shift ≡ 32 - at.head.depth
    → crc / 2 ^ shift ≢ at.hash / 2 ^ shift → RefusesRightly im f
wrong_hash im a at f records k shift crc d name format is told_at read low name_is crc_is shifted other =
    let r = said (get_or records k d) in
    let there = at_contains (records_in (drop 104 (im.at at.block))) k r (ap (λ l. slice_get l k) (sym read) ∙ at_said records k d low) in
    let depth : shift ≡ 32 - (leaf_in (every im a) at.block).depth = shifted ∙ ap (λ (l : Leaf). 32 - l.depth) is.head in
    let hash : crc ≡ crc32_of r.name = crc_is ∙ ap crc32_of name_is in
    let wrong : crc32_of r.name / 2 ^ (32 - (leaf_in (every im a) at.block).depth) ≢ at.hash / 2 ^ (32 - (leaf_in (every im a) at.block).depth)
    = subst (λ s. crc32_of r.name / 2 ^ s ≢ at.hash / 2 ^ s) depth (subst (λ n. n / 2 ^ shift ≢ at.hash / 2 ^ shift) hash other) in
    told im f at.block 14 told_at format is.reached (leaf_hash a at.block is.claimed.0 at.hash at.place r is.claimed.1 there wrong)

-- what stands behind a leaf's head
pub taken_leaf : (bytes : List ℕ) → take (length bytes - 104) (drop 104 bytes) ≡ drop 104 bytes
taken_leaf bytes = all_taken 104 bytes

pub leaf_area_in : (im : Image) (a : ℕ) (at : LeafAt) (bytes area : List ℕ) → IsLeafIn im a at → im.at at.block ≡ bytes → area ≡ drop 104 bytes → HasArea im a at.block area
leaf_area_in im a at bytes area is same area_is = subst (HasArea im a at.block) (ap (drop 104) same ∙ sym area_is) (of_leaf at.block (leaf_there im a at is))

-- each of these records stands in the leaf
pub leaf_listed : (im : Image) (a : ℕ) (at : LeafAt) (bytes : List ℕ) (records : List Named) → IsLeafIn im a at → im.at at.block ≡ bytes → map said records ≡ records_in (drop 104 bytes)
    → All (λ n. HasRecordIn im a at.block (said n)) records
leaf_listed im a at bytes records is same read k d low =
    let n = get_or records k d in
    let area = leaf_area_in im a at bytes (drop 104 bytes) is same refl in
    (drop 104 bytes, area, at_contains (records_in (drop 104 bytes)) k (said n) (ap (λ l. slice_get l k) (sym read) ∙ at_said records k d low))

-- ---- a leaf that was looked at

-- what reads well has the format of its records
some_fault : (o : Option LayoutFault) (f : LayoutFault) (s x : Leaf) → answer (or_else o (Some f)) s ≡ Ok x → ⊥
some_fault None f s x e = cc
some_fault (Some g) f s x e = cc

format_read : (bytes : List ℕ) (leaf : Leaf) → Ok leaf ≡ leaf_read bytes → u32_at 28 bytes ≡ 1200
format_read bytes leaf reads = elim (cases_eq (u32_at 28 bytes) 1200) [
  | inl same ↦ same
  | inr other ↦
      let wrong : records_fault bytes ≡ Some (Value 28 (u32_at 28 bytes)) = cond-false _ _ _ (ne_eqb (u32_at 28 bytes) 1200 other) in
      absurd (some_fault (header_fault 104 6 600 bytes) (Value 28 (u32_at 28 bytes)) (leaf_of bytes) leaf (ap (λ o. answer (or_else (header_fault 104 6 600 bytes) o) (leaf_of bytes)) (sym wrong) ∙ sym reads))
]

pub head_well : (im : Image) (a x depth : ℕ) (bytes : List ℕ) (leaf : Leaf) → im.at x ≡ bytes → HasHeader 6 600 bytes → Ok leaf ≡ leaf_read bytes → leaf ≡ leaf_of (im.at x) → depth ≡ depth_in (every im a) → leaf.depth ≤ depth
    → IsLeafHead im a x
head_well im a x depth bytes leaf same header reads read deep low = record {
  header = subst (HasHeader 6 600) (sym same) header;
  records_format = ap (u32_at 28) same ∙ format_read bytes leaf reads;
  depth = omega (arith, low, deep, ap (λ (l : Leaf). l.depth) read);
}

pub hash_of : (at : LeafAt) (n : Named) (name : List ℕ) (crc shift : ℕ) → name ≡ n.name.now → crc ≡ crc32_of name → shift ≡ 32 - at.head.depth → crc / 2 ^ shift ≡ at.hash / 2 ^ shift → HasHashOf at n
hash_of at n name crc shift name_is crc_is shifted same =
    subst (λ s. crc32_of n.name.now / 2 ^ s ≡ at.hash / 2 ^ s) shifted (subst (λ m. m / 2 ^ shift ≡ at.hash / 2 ^ shift) (crc_is ∙ ap crc32_of name_is) same)

pub leaf_sound : (im : Image) (a : ℕ) (at : LeafAt) (bytes : List ℕ) (records : List Named) → IsLeafIn im a at → im.at at.block ≡ bytes → map said records ≡ records_in (drop 104 bytes) → IsRecordArea (drop 104 bytes)
    → length records ≡ at.head.entries → All (HasHashOf at) records → IsLeaf (every im a) at.hash at.block
leaf_sound im a at bytes records is same read filled counted hashed =
    let rows : map said records ≡ records_in (leaf_area (every im a) at.block) = read ∙ ap (λ b. records_in (drop 104 b)) (sym same) in
    record {
      header = is.well.header;
      records_format = is.well.records_format;
      depth = is.well.depth;
      area = subst (λ b. IsRecordArea (drop 104 b)) (sym same) filled;
      entries = ap (λ (l : Leaf). l.entries) (sym is.head) ∙ sym counted ∙ sym (length-map records said) ∙ ap length rows;
      hashes = λ r there.
          let at_r = contains_at (records_in (leaf_area (every im a) at.block)) r there in
          let row = from_mapped said records there.0 r (ap (λ rs. slice_get rs there.0) rows ∙ at_r) in
          let has = all_at (HasHashOf at) records there.0 row.0 hashed row.1 in
          subst (λ d. top_bits d (crc32_of r.name) ≡ top_bits d at.hash) (ap (λ (l : Leaf). l.depth) is.head)
          (subst (λ n. top_bits at.head.depth (crc32_of n) ≡ top_bits at.head.depth at.hash) (ap (λ (q : Record). q.name) row.2) has);
    }
