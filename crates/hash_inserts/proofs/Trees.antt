-- Leaves come to a directory and change: its tree is what it was.
use Rattle.std.proofs.Common.{◌≡◌, ◌≢◌, ℕ, suc, ◌+◌, ◌-◌, ◌*◌, ◌/◌, ◌<◌, ◌≤◌, inl, inr, List, length, drop, Option, None, Some, refl, sym, ap, ap₂, ◌∙◌, subst, arith}
use Rattle.std.specs.Prelude.{IsSome, ◌&&◌, if◌then◌else◌}
use Rattle.gfs2_layout.specs.Bytes.{u64_at}
use Rattle.gfs2_layout.specs.Headers.{HasHeader}
use Rattle.gfs2_layout.specs.Holding.{Holding, Cell, Part, Itself, Pointed, InChain, part_at, bytes_at}
use Rattle.gfs2_layout.specs.Inode.{Fits, HasTree, IsChild, IsPointed, by_dinode, by_block, block_count, content_count, depth_in, dinode_in, entry, entry_block, fan, has_hash_flag, header_length, height_in, is_directory_in, is_hashed_in, pieces, pointer, span, unit}
use Rattle.gfs2_layout.specs.Structures.{dinode_length, dinode_of, is_directory}
use Rattle.gfs2_layout.specs.declared.dinode.Dinode.{Dinode}
use Rattle.growth_laws.specs.Files.{with_cells}
use Rattle.growth_laws.proofs.Numbers.{numbers_behind_are_the_same}
use Rattle.pointer_tables.specs.Directories.{IsPlaced, IsTreeSound}
use Rattle.hash_steps.proofs.Contents.{KeepsContent, content_block_same, content_same}
use Rattle.table_changes.proofs.Beside.{entry_block_after}
use Rattle.hash_inserts.specs.Drafting.{with_block}
use Rattle.hash_inserts.proofs.Blocks.{bytes_here, bytes_apart, part_here, part_apart, some_before}
use Rattle.std.proofs.lemmas.Bool.{cases_eq}

-- the part that a block has in the tree; a leaf has none
abbrev pub in_tree : Option Part → Option Part
in_tree None = None
in_tree (Some Itself) = Some Itself
in_tree (Some (Pointed b k level first)) = Some (Pointed b k level first)
in_tree (Some (InChain hash place)) = None

pub tree_pointed : (o : Option Part) (b k level first : ℕ) → in_tree o ≡ Some (Pointed b k level first) → o ≡ Some (Pointed b k level first)
tree_pointed None b k level first e = cc
tree_pointed (Some Itself) b k level first e = cc
tree_pointed (Some (Pointed b' k' level' first')) b k level first e = e
tree_pointed (Some (InChain hash place)) b k level first e = cc

pub tree_itself : (o : Option Part) → in_tree o ≡ Some Itself → o ≡ Some Itself
tree_itself None e = cc
tree_itself (Some Itself) e = e
tree_itself (Some (Pointed b' k' level' first')) e = cc
tree_itself (Some (InChain hash place)) e = cc

-- what a dinode says but for its counts
abbrev pub countless : Dinode → Dinode
countless d = record d { entries = 0; nlink = 0; blocks = 0 }

-- The inode with these cells has the blocks of its tree in their parts; its dinode says the same but for counts; and what stands behind that, and
-- each block to which a pointer leads, stays.
pub record KeepsTree (h : Holding) (cell : ℕ → Option Cell) : Type 0 where
  pub parts : (x : ℕ) → in_tree (part_at (with_cells h cell) x) ≡ in_tree (part_at h x)
  pub dinode : countless (dinode_in (with_cells h cell)) ≡ countless (dinode_in h)
  pub behind : drop dinode_length (bytes_at (with_cells h cell) h.own) ≡ drop dinode_length (bytes_at h h.own)
  pub pointed : (x b k level first : ℕ) → part_at h x ≡ Some (Pointed b k level first) → bytes_at (with_cells h cell) x ≡ bytes_at h x

-- and the rest of what makes it sound
pub record KeepsRules (h : Holding) (cell : ℕ → Option Cell) : Type 0 where
  pub header : HasHeader 4 400 (bytes_at (with_cells h cell) h.own)
  pub whole : (x : ℕ) (p : Part) → part_at (with_cells h cell) x ≡ Some p → length (bytes_at (with_cells h cell) x) ≡ h.size
  pub blocks : (dinode_in (with_cells h cell)).blocks ≡ block_count (with_cells h cell)
  pub nobody : part_at (with_cells h cell) 0 ≡ None
  pub inside : (x : ℕ) → IsSome (cell x) → x < h.count

module _ (h : Holding) (cell : ℕ → Option Cell) (keeps : KeepsTree h cell) where
  abbrev g : Holding
  g = with_cells h cell

  pub height_same : height_in g ≡ height_in h
  height_same = ap (λ (d : Dinode). d.height) keeps.dinode

  pub directory_same : is_directory_in g ≡ is_directory_in h
  directory_same = ap is_directory keeps.dinode

  pub hashed_same : is_hashed_in g ≡ is_hashed_in h
  hashed_same = ap (λ (d : Dinode). is_directory d && has_hash_flag d) keeps.dinode

  pub depth_same : depth_in g ≡ depth_in h
  depth_same = ap (λ (d : Dinode). d.depth) keeps.dinode

  pub size_same : (dinode_in g).size ≡ (dinode_in h).size
  size_same = ap (λ (d : Dinode). d.size) keeps.dinode

  unit_same : unit g ≡ unit h
  unit_same = ap (λ b. if b then h.size - header_length else h.size) directory_same

  count_same : content_count g ≡ content_count h
  count_same = ap₂ pieces size_same unit_same

  own_pointer : (k : ℕ) → pointer g dinode_length h.own k ≡ pointer h dinode_length h.own k
  own_pointer k = numbers_behind_are_the_same (bytes_at g h.own) (bytes_at h h.own) dinode_length dinode_length (8 * k) keeps.behind

  block_pointer : (x b k level first : ℕ) → part_at h x ≡ Some (Pointed b k level first) → (j : ℕ) → pointer g header_length x j ≡ pointer h header_length x j
  block_pointer x b k level first at j = ap (u64_at (header_length + 8 * j)) (keeps.pointed x b k level first at)

  pub part_after : (x b k level first : ℕ) → part_at h x ≡ Some (Pointed b k level first) → part_at g x ≡ Some (Pointed b k level first)
  part_after x b k level first at = tree_pointed (part_at g x) b k level first (keeps.parts x ∙ ap in_tree at)

  pub part_before : (x b k level first : ℕ) → part_at g x ≡ Some (Pointed b k level first) → part_at h x ≡ Some (Pointed b k level first)
  part_before x b k level first at = tree_pointed (part_at h x) b k level first (sym (keeps.parts x) ∙ ap in_tree at)

  child_after : (b k level first c : ℕ) → IsChild h b k level first c → IsChild g b k level first c
  child_after b k level first c child = record { part = part_after c b k level first child.part; within = subst (λ n. first < n) (sym count_same) child.within }

  pointed_after : (x b k level first : ℕ) → IsPointed h x b k level first → IsPointed g x b k level first
  pointed_after x b k level first (by_dinode at high low to begins) =
      by_dinode at (height_same ∙ high) low (ap (λ z. pointer g dinode_length z k) at ∙ own_pointer k ∙ ap (λ z. pointer h dinode_length z k) (sym at) ∙ to) begins
  pointed_after x b k level first (by_block above j start part low to begins) =
      by_block above j start (part_after b above j (suc level) start part) low (block_pointer b above j (suc level) start part k ∙ to) begins

  tree_after : HasTree h → HasTree g
  tree_after tree = record {
    top = λ level high k low some.
        let to = own_pointer k in
        subst (IsChild g h.own k level (k * span h.size level)) (sym to)
        (child_after h.own k level (k * span h.size level) (pointer h dinode_length h.own k) (tree.top level (sym height_same ∙ high) k low (λ e. some (to ∙ e))));
    inner = λ x b k level first at j low some.
        let part = part_before x b k (suc level) first at in
        let to = block_pointer x b k (suc level) first part j in
        subst (IsChild g x j level (first + j * span h.size level)) (sym to)
        (child_after x j level (first + j * span h.size level) (pointer h header_length x j) (tree.inner x b k level first part j low (λ e. some (to ∙ e))));
    pointed = λ x b k level first at. pointed_after x b k level first (tree.pointed x b k level first (part_before x b k level first at));
    below = λ x b k level first at. subst (λ n. level < n) (sym height_same) (tree.below x b k level first (part_before x b k level first at));
    indirect = λ x b k level first at.
        let part = part_before x b k (suc level) first at in
        subst (HasHeader 5 500) (sym (keeps.pointed x b k (suc level) first part)) (tree.indirect x b k level first part);
    table = λ x b k first directory at.
        let part = part_before x b k 0 first at in
        subst (HasHeader 7 700) (sym (keeps.pointed x b k 0 first part)) (tree.table x b k first (sym directory_same ∙ directory) part);
  }

  fits_after : Fits h → Fits g
  fits_after fits = record {
    low = subst (λ n. n ≤ 10) (sym height_same) fits.low;
    stuffed = λ none. let s = fits.stuffed (sym height_same ∙ none) in omega (arith, s, size_same);
    under = λ level high. subst (λ n. n ≤ fan h.size dinode_length * span h.size level) (sym count_same) (fits.under level (sym height_same ∙ high));
  }

  pub sound_after : KeepsRules h cell → IsTreeSound h → IsTreeSound g
  sound_after rules sound = record {
    whole = rules.whole;
    header = rules.header;
    address = ap (λ (d : Dinode). d.num.address) keeps.dinode ∙ sound.address;
    number = λ none. sound.number (ap (λ (d : Dinode). d.num.number) (sym keeps.dinode) ∙ none);
    fits = fits_after sound.fits;
    tree = tree_after sound.tree;
    blocks = rules.blocks;
  }

  pub placed_after : KeepsRules h cell → IsPlaced h → IsPlaced g
  placed_after rules placed = record {
    own = tree_itself (part_at g h.own) (keeps.parts h.own ∙ ap in_tree placed.own);
    only = λ b at. placed.only b (tree_itself (part_at h b) (sym (keeps.parts b) ∙ ap in_tree at));
    nobody = rules.nobody;
    inside = rules.inside;
  }

  keeps_content : KeepsContent h cell
  keeps_content = record { height = height_same; directory = directory_same; size = size_same; behind = keeps.behind; pointed = keeps.pointed }

  pub entry_same : IsTreeSound h → 512 ≤ h.size → (i : ℕ) → entry g i ≡ entry h i
  entry_same sound large i = ap (u64_at (8 * i)) (content_same h cell keeps_content sound.tree large sound.fits)

  -- each pointer of a table stands where it stood
  pub entry_block_same : IsTreeSound h → 512 ≤ h.size → (j : ℕ) → 8 * j / unit h < content_count h → entry_block g j ≡ entry_block h j
  entry_block_same sound large j near = entry_block_after h g j refl height_same unit_same
      (λ level high i low. (content_block_same h cell keeps_content sound.tree large level high i low).0) (λ level high. omega (arith, near, sound.fits.under level high))

-- ---- block by block

-- what is put keeps the tree, and then what is put in that
pub keeps_then : (h : Holding) (first second : ℕ → Option Cell) → KeepsTree h first → KeepsTree (with_cells h first) second → KeepsTree h second
keeps_then h first second one two = record {
  parts = λ x. two.parts x ∙ one.parts x;
  dinode = two.dinode ∙ one.dinode;
  behind = two.behind ∙ one.behind;
  pointed = λ x b k level at part. two.pointed x b k level at (part_after h first one x b k level at part) ∙ one.pointed x b k level at part;
}

-- a leaf that is put
pub leaf_keeps : (h : Holding) (y : ℕ) (part : Part) (bytes : List ℕ) → in_tree (part_at h y) ≡ None → in_tree (Some part) ≡ None → y ≢ h.own → KeepsTree h (with_block h y part bytes).cell
unfolding dinode_in
leaf_keeps h y part bytes was is apart = record {
  parts = λ x. elim (cases_eq x y) [
    | inl here ↦ ap (λ z. in_tree (part_at (with_block h y part bytes) z)) here ∙ ap in_tree (part_here h y part bytes) ∙ is ∙ sym was ∙ ap (λ z. in_tree (part_at h z)) (sym here)
    | inr other ↦ ap in_tree (part_apart h y part bytes x other)
  ];
  dinode = ap (λ xs. countless (dinode_of xs)) own;
  behind = ap (drop dinode_length) own;
  pointed = λ x b k level first at. bytes_apart h y part bytes x (λ here. no_pointed b k level first (sym was ∙ ap (λ z. in_tree (part_at h z)) (sym here) ∙ ap in_tree at));
}
  where
    own : bytes_at (with_block h y part bytes) h.own ≡ bytes_at h h.own
    own = bytes_apart h y part bytes h.own (λ e. apart (sym e))

    no_pointed : (b k level first : ℕ) → ◌≡◌ {A = Option Part} None (Some (Pointed b k level first)) → ⊥
    no_pointed b k level first e = cc

-- the dinode that is put, with other counts
pub dinode_keeps : (h : Holding) (bytes : List ℕ) → part_at h h.own ≡ Some Itself → countless (dinode_of bytes) ≡ countless (dinode_in h) → drop dinode_length bytes ≡ drop dinode_length (bytes_at h h.own)
    → KeepsTree h (with_block h h.own Itself bytes).cell
unfolding dinode_in
dinode_keeps h bytes own same behind = record {
  parts = λ x. elim (cases_eq x h.own) [
    | inl here ↦ ap (λ z. in_tree (part_at (with_block h h.own Itself bytes) z)) here ∙ ap in_tree (part_here h h.own Itself bytes ∙ sym own) ∙ ap (λ z. in_tree (part_at h z)) (sym here)
    | inr other ↦ ap in_tree (part_apart h h.own Itself bytes x other)
  ];
  dinode = ap (λ xs. countless (dinode_of xs)) (bytes_here h h.own Itself bytes) ∙ same;
  behind = ap (drop dinode_length) (bytes_here h h.own Itself bytes) ∙ behind;
  pointed = λ x b k level first at. bytes_apart h h.own Itself bytes x (λ here. apart b k level first (sym own ∙ ap (part_at h) (sym here) ∙ at));
}
  where
    apart : (b k level first : ℕ) → Some Itself ≡ Some (Pointed b k level first) → ⊥
    apart b k level first e = cc

-- ---- the rules of each block for itself

pub record IsWhole (h : Holding) : Type 0 where
  pub whole : (x : ℕ) (p : Part) → part_at h x ≡ Some p → length (bytes_at h x) ≡ h.size
  pub header : HasHeader 4 400 (bytes_at h h.own)
  pub nobody : part_at h 0 ≡ None
  pub inside : (x : ℕ) → IsSome (h.cell x) → x < h.count

pub whole_of : (h : Holding) → IsTreeSound h → IsPlaced h → IsWhole h
whole_of h sound placed = record { whole = sound.whole; header = sound.header; nobody = placed.nobody; inside = placed.inside }

-- one more is put
pub whole_with : (h : Holding) (y : ℕ) (part : Part) (bytes : List ℕ) → IsWhole h → length bytes ≡ h.size → y ≢ 0 → y < h.count → (y ≡ h.own → HasHeader 4 400 bytes) → IsWhole (with_block h y part bytes)
whole_with h y part bytes was long some inside header = record {
  whole = λ x p at. elim (cases_eq x y) [
    | inl here ↦ ap (λ z. length (bytes_at (with_block h y part bytes) z)) here ∙ ap length (bytes_here h y part bytes) ∙ long
    | inr other ↦ ap length (bytes_apart h y part bytes x other) ∙ was.whole x p (sym (part_apart h y part bytes x other) ∙ at)
  ];
  header = elim (cases_eq h.own y) [
    | inl here ↦ subst (HasHeader 4 400) (sym (ap (bytes_at (with_block h y part bytes)) here ∙ bytes_here h y part bytes)) (header (sym here))
    | inr other ↦ subst (HasHeader 4 400) (sym (bytes_apart h y part bytes h.own other)) was.header
  ];
  nobody = part_apart h y part bytes 0 (λ e. some (sym e)) ∙ was.nobody;
  inside = λ x there. elim (some_before h y part bytes x there) [ inl here ↦ subst (λ z. z < h.count) (sym here) inside | inr before ↦ was.inside x before ];
}

pub rules_of : (h : Holding) (cell : ℕ → Option Cell) → IsWhole (with_cells h cell) → (dinode_in (with_cells h cell)).blocks ≡ block_count (with_cells h cell) → KeepsRules h cell
rules_of h cell whole blocks = record { header = whole.header; whole = whole.whole; blocks = blocks; nobody = whole.nobody; inside = whole.inside }
