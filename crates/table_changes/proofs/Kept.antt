-- An inode with other bytes in its blocks whose ways lead where they led, whatever its content has become: it is sound as before, but for leaves.
use Rattle.std.proofs.Common.{◌≡◌, ℕ, suc, ◌+◌, ◌-◌, ◌*◌, ◌<◌, ◌≤◌, Bool, length, Option, Some, sym, ap, ap₂, ◌∙◌, subst, arith}
use Rattle.std.specs.Prelude.{count_by, if◌then◌else◌}
use Rattle.std.specs.List.{range_with_len}
use Rattle.gfs2_layout.specs.Bytes.{u64_at}
use Rattle.gfs2_layout.specs.Headers.{HasHeader}
use Rattle.gfs2_layout.specs.Holding.{Holding, Cell, Part, Pointed, part_at, bytes_at}
use Rattle.gfs2_layout.specs.Inode.{HasTree, Fits, block_count, dinode_in, height_in, is_directory_in, header_length, fan, span, content_block, unit, pieces, content_count}
use Rattle.gfs2_layout.specs.Structures.{dinode_length, is_directory}
use Rattle.gfs2_layout.specs.declared.dinode.Dinode.{Dinode}
use Rattle.growth_laws.specs.Files.{with_cells}
use Rattle.growth_laws.proofs.Fills.{some_by_part}
use Rattle.pointer_tables.specs.Directories.{IsPlaced, IsTreeSound}
use Rattle.table_files.proofs.Alike.{LeadAlike, content_block_alike, tree_alike}

-- the blocks of content that its pointers reach stand where they stood
abbrev pub KeepsContentBlocks : Holding → Holding → Type 0
KeepsContentBlocks h g = (level : ℕ) → height_in h ≡ suc level → (i : ℕ) → i < fan h.size dinode_length * span h.size level → content_block g i ≡ content_block h i

-- Its blocks have their parts and lengths, its dinode says the same, the blocks with pointers stay, and those of content have their headers.
pub record KeepsWays (h : Holding) (cell : ℕ → Option Cell) : Type 0 where
  pub parts : (x : ℕ) → part_at (with_cells h cell) x ≡ part_at h x
  pub some : (x : ℕ) (p : Part) → part_at h x ≡ Some p → length (bytes_at (with_cells h cell) x) ≡ length (bytes_at h x)
  pub dinode : dinode_in (with_cells h cell) ≡ dinode_in h
  pub header : HasHeader 4 400 (bytes_at h h.own) → HasHeader 4 400 (bytes_at (with_cells h cell) h.own)
  pub own : (level : ℕ) → height_in h ≡ suc level → bytes_at (with_cells h cell) h.own ≡ bytes_at h h.own
  pub indirect : (x b k level first : ℕ) → part_at h x ≡ Some (Pointed b k (suc level) first) → bytes_at (with_cells h cell) x ≡ bytes_at h x
  pub table : (x b k first : ℕ) → part_at h x ≡ Some (Pointed b k 0 first) → HasHeader 7 700 (bytes_at h x) → HasHeader 7 700 (bytes_at (with_cells h cell) x)

module _ (h : Holding) (cell : ℕ → Option Cell) (keeps : KeepsWays h cell) where
  abbrev g : Holding
  g = with_cells h cell

  pub height_after : height_in g ≡ height_in h
  height_after = ap (λ (d : Dinode). d.height) keeps.dinode

  pub directory_after : is_directory_in g ≡ is_directory_in h
  directory_after = ap is_directory keeps.dinode

  pub size_after : (dinode_in g).size ≡ (dinode_in h).size
  size_after = ap (λ (d : Dinode). d.size) keeps.dinode

  pub unit_after : unit g ≡ unit h
  unit_after = ap (λ b. if b then h.size - header_length else h.size) directory_after

  pub count_after : content_count g ≡ content_count h
  count_after = ap₂ pieces size_after unit_after

  part_before : (x : ℕ) (p : Part) → part_at g x ≡ Some p → part_at h x ≡ Some p
  part_before x p at = sym (keeps.parts x) ∙ at

  alike : LeadAlike h cell
  alike = record {
    height = height_after;
    count = λ level high. count_after;
    own = λ level k high. ap (u64_at (dinode_length + 8 * k)) (keeps.own level high);
    parts = λ x b k level first at. keeps.parts x ∙ at;
    only = λ x b k level first at. part_before x _ at;
    indirect = keeps.indirect;
  }

  pub tree_after : HasTree h → HasTree g
  tree_after tree = tree_alike h cell alike tree (λ x b k first directory part. keeps.table x b k first part (tree.table x b k first (sym directory_after ∙ directory) part))

  pub blocks_after : block_count g ≡ block_count h
  unfolding block_count
  blocks_after = ap (λ (test : ℕ → Bool). count_by test (range_with_len 0 h.count)) (λ t x. some_by_part (h.cell x) (cell x) (keeps.parts x) t)

  pub fits_after : Fits h → Fits g
  fits_after fits = record {
    low = subst (λ n. n ≤ 10) (sym height_after) fits.low;
    stuffed = λ none. omega (arith, fits.stuffed (sym height_after ∙ none), size_after);
    under = λ level high. subst (λ n. n ≤ fan h.size dinode_length * span h.size level) (sym count_after) (fits.under level (sym height_after ∙ high));
  }

  pub sound_after : IsTreeSound h → IsTreeSound g
  sound_after sound = record {
    whole = λ b p at. let part = part_before b p at in keeps.some b p part ∙ sound.whole b p part;
    header = keeps.header sound.header;
    address = ap (λ (d : Dinode). d.num.address) keeps.dinode ∙ sound.address;
    number = λ none. sound.number (ap (λ (d : Dinode). d.num.number) (sym keeps.dinode) ∙ none);
    fits = fits_after sound.fits;
    tree = tree_after sound.tree;
    blocks = ap (λ (d : Dinode). d.blocks) keeps.dinode ∙ sound.blocks ∙ sym blocks_after;
  }

  pub content_block_after : HasTree h → 512 ≤ h.size → (level : ℕ) → height_in h ≡ suc level → (i : ℕ) → i < fan h.size dinode_length * span h.size level
      → content_block g i ≡ content_block h i
  content_block_after = content_block_alike h cell alike

-- a block has its part, whatever its bytes are
pub placed_after : (h : Holding) (cell : ℕ → Option Cell) → KeepsWays h cell → IsPlaced h → IsPlaced (with_cells h cell)
placed_after h cell keeps placed = record {
  own = keeps.parts h.own ∙ placed.own;
  only = λ b at. placed.only b (sym (keeps.parts b) ∙ at);
  nobody = keeps.parts 0 ∙ placed.nobody;
  inside = λ b at. placed.inside b (sym (some_by_part (h.cell b) (cell b) (keeps.parts b)) ∙ at);
}
