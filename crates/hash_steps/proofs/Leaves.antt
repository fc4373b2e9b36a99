-- Leaves that stay, leaves that are put, and the hashes of what a chain has.
use Rattle.std.proofs.Common.{◌≡◌, ◌≢◌, ℕ, suc, ◌<◌, ◌≤◌, true, List, length, drop, Option, None, Some, refl, sym, ap, ◌∙◌, subst, arith}
use Rattle.std.specs.Prelude.{Contains}
use Rattle.std.proofs.lemmas.Bool.{true≢false}
use Rattle.crc_words.specs.Remainder.{crc32_of}
use Rattle.gfs2_layout.specs.Area.{Slot}
use Rattle.gfs2_layout.specs.Bytes.{u32_at}
use Rattle.gfs2_layout.specs.Headers.{HasHeader}
use Rattle.gfs2_layout.specs.Holding.{Holding, Part, Itself, Pointed, InChain, cell_part, part_at, bytes_at}
use Rattle.gfs2_layout.specs.Inode.{IsLeaf, depth_in, entry, first_hash, index_bits, is_hashed_in, is_leaf_part, leaf_area, leaf_in, leaf_length, table_count, top_bits}
use Rattle.gfs2_layout.specs.Records.{IsRecordArea, Record, records_in}
use Rattle.gfs2_layout.specs.Structures.{leaf_of}
use Rattle.gfs2_layout.specs.declared.leaf.Leaf.{Leaf}
use Rattle.growth_laws.specs.Files.{with_cells}
use Rattle.image_model.proofs.Held.{none_some}
use Rattle.pointer_tables.specs.Directories.{IsInChain, chain_head, chain_next}
use Rattle.hash_dirs.specs.Shown.{IsSound, index_for}
use Rattle.hash_dirs.proofs.Chained.{deep, headed, in_chain, rules}
use Rattle.hash_dirs.proofs.Indexes.{bits_of_bits, bits_of_first}
use Rattle.hash_dirs.proofs.Passed.{part_one}
use Rattle.hash_steps.specs.Leaves.{IsLeafPut}

-- an inode in the same image is the old one with its own cells
pub as_cells : (h g : Holding) → g.size ≡ h.size → g.count ≡ h.count → g.own ≡ h.own → with_cells h g.cell ≡ g
as_cells h g size count own = λ t. record { size = sym size t; count = sym count t; own = sym own t; cell = g.cell }

-- ---- parts

pub itself_or_chained : (hash place : ℕ) → Some Itself ≡ Some (InChain hash place) → ⊥
itself_or_chained hash place e = cc

pub itself_or_pointed : (b k level first : ℕ) → Some Itself ≡ Some (Pointed b k level first) → ⊥
itself_or_pointed b k level first e = cc

pub pointed_or_chained : (b k level first hash place : ℕ) → Some (Pointed b k level first) ≡ Some (InChain hash place) → ⊥
pointed_or_chained b k level first hash place e = cc

pub in_a_chain : (o : Option Part) → is_leaf_part o ≡ true → (hash place : ℕ) × (o ≡ Some (InChain hash place))
in_a_chain None e = absurd (true≢false (sym e))
in_a_chain (Some Itself) e = absurd (true≢false (sym e))
in_a_chain (Some (Pointed b k level first)) e = absurd (true≢false (sym e))
in_a_chain (Some (InChain hash place)) e = (hash, place, refl)

-- a block of the inode is none that it hadn't
pub apart_from_new : (h : Holding) (b x : ℕ) (p : Part) → h.cell b ≡ None → part_at h x ≡ Some p → x ≢ b
apart_from_new h b x p new part is = none_some (sym (ap cell_part new) ∙ ap (part_at h) (sym is) ∙ part)

-- ---- leaves

-- a leaf whose bytes stay, of a directory that is as deep or deeper
pub leaf_kept : (h g : Holding) (hash x : ℕ) → bytes_at g x ≡ bytes_at h x → depth_in h ≤ depth_in g → IsLeaf h hash x → IsLeaf g hash x
leaf_kept h g hash x same deep leaf = record {
  header = subst (HasHeader 6 600) (sym same) leaf.header;
  records_format = ap (u32_at 28) same ∙ leaf.records_format;
  depth = omega (arith, leaf.depth, ap (λ b. (leaf_of b).depth) same, deep);
  area = subst (λ b. IsRecordArea (drop leaf_length b)) (sym same) leaf.area;
  entries = ap (λ b. (leaf_of b).entries) same ∙ leaf.entries ∙ sym (ap (λ b. length (records_in (drop leaf_length b))) same);
  hashes = subst (λ b. (r : Record) → Contains (records_in (drop leaf_length b)) r → top_bits (leaf_of b).depth (crc32_of r.name) ≡ top_bits (leaf_of b).depth hash) (sym same) leaf.hashes;
}

-- a leaf that was put is one where its records belong there
module _ (g : Holding) (x : ℕ) (over : List ℕ) (head : Leaf) (slots : List Slot) (put : IsLeafPut g x over head slots) where
  pub leaf_is : (hash : ℕ) → head.depth ≤ depth_in g → IsRecordArea (leaf_area g x) → head.entries ≡ length (records_in (leaf_area g x))
      → ((r : Record) → Contains (records_in (leaf_area g x)) r → top_bits head.depth (crc32_of r.name) ≡ top_bits head.depth hash) → IsLeaf g hash x
  leaf_is hash low area count hashes =
      let deep : (leaf_in g x).depth ≡ head.depth = ap (λ (l : Leaf). l.depth) put.head_is in
      record {
        header = put.header;
        records_format = put.records_format;
        depth = omega (arith, low, deep);
        area = area;
        entries = ap (λ (l : Leaf). l.entries) put.head_is ∙ count;
        hashes = λ r there. subst (λ n. top_bits n (crc32_of r.name) ≡ top_bits n hash) (sym deep) (hashes r there);
      }

-- ---- chains

-- a leaf behind another is not a first one
pub no_later : (place : ℕ) → suc place ≡ 0 → ⊥
no_later place e = omega arith

-- a chain begins at a pointer of the table
pub chain_low : (h : Holding) (i place x : ℕ) → IsInChain h i place x → i < table_count h
chain_low h i _ _ (chain_head low some) = low
chain_low h i _ _ (chain_next place x chain more) = chain_low h i place x chain

module _ (h : Holding) (sound : IsSound h) (hashed : is_hashed_in h ≡ true) where
  -- all leaves of a chain are as deep as its first
  pub as_deep : (i place x : ℕ) → IsInChain h i place x → (leaf_in h x).depth ≡ (leaf_in h (entry h i)).depth
  as_deep i place x chain =
      let up = headed h sound hashed place x (first_hash h i) (in_chain h sound hashed i place x chain) in
      up.depth ∙ ap (λ y. (leaf_in h y).depth) (part_one h sound hashed up.first (entry h i) (first_hash h i) 0 up.part ((rules h sound hashed).leads i (chain_low h i place x chain)))

  -- a name's hash has the top bits of the leaves in the chain of its index
  pub bits_of_name : (name : List ℕ) → index_for h name < table_count h
      → let d = (leaf_in h (entry h (index_for h name))).depth in top_bits d (crc32_of name) ≡ top_bits d (first_hash h (index_for h name))
  bits_of_name name low =
      let i = index_for h name in
      let d = (leaf_in h (entry h i)).depth in
      let table_low : depth_in h ≤ 15 = deep h sound hashed in
      let depth_low : d ≤ depth_in h = ((rules h sound hashed).leaves (entry h i) (first_hash h i) 0 ((rules h sound hashed).leads i low)).depth in
      sym (bits_of_bits d (depth_in h) (crc32_of name) depth_low (omega (arith, table_low))) ∙ sym (bits_of_first d (index_bits h d i))
