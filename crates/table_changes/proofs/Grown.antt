-- A draft in which a directory's table was written as a file, and the directory that its blocks make.
use Rattle.std.proofs.Common.{◌≡◌, ◌≢◌, ℕ, zero, suc, ◌+◌, ◌-◌, ◌*◌, ◌%◌, ◌^◌, ◌<◌, ◌≤◌, inl, inr, Bool, true, false, List, [], length, drop, Option, None, Some, Ok, refl, sym, ap, ap₂, ◌∙◌, subst, arith}
use Rattle.std.specs.Prelude.{◌==◌, ◌&&◌, Contains, IsSome, if◌then◌else◌}
use Rattle.std.specs.Cmp.{nat_cmp_total}
use Rattle.std.specs.FinMap.{FinMap, entries, get, insert, nat_cmp-IsAntisymmetric}
use Rattle.std.specs.Ordering.{nat_cmp}
use Rattle.std.proofs.lemmas.Bool.{cases_Bool, cases_eq}
use Rattle.std.proofs.lemmas.List.Elements.{Contains-append_left}
use Rattle.finite_maps.proofs.Keys.{inserted_at, inserted_apart}
use Rattle.drafts.specs.Fates.{Drafted, block_with, blocks_in, seen_in}
use Rattle.drafts.specs.declared.change.Written.{Written}
use Rattle.drafts.specs.declared.fate.Fate.{Fate}
use Rattle.drafts.specs.declared.fate.Fate.TheVariants.{Put}
use Rattle.gfs2_layout.specs.Device.{IsBlockSize}
use Rattle.gfs2_layout.specs.Holding.{Cell, Holding, InChain, Itself, Pointed, cell_bytes, part_at, bytes_at}
use Rattle.gfs2_layout.specs.Inode.{block_count, content_count, dinode_in, has_hash_flag, height_in, is_hashed_in, is_leaf_part, pieces, table_count}
use Rattle.gfs2_layout.specs.Structures.{dinode_length, dinode_of, dinode_read, header_fault, is_directory}
use Rattle.gfs2_layout.specs.Writing.{dinode_put}
use Rattle.gfs2_layout.specs.declared.dinode.Dinode.{Dinode}
use Rattle.gfs2_layout.proofs.HeaderLaws.{answer_ok, header_from}
use Rattle.glock_names.specs.Views.{Seen, HasBlock}
use Rattle.glock_names.specs.declared.LockName.{LockName}
use Rattle.dinode_tree.specs.Below.{IsBelow}
use Rattle.dinode_tree.specs.Reading.{inode_lock}
use Rattle.dinode_tree.proofs.Sound.{part_of_led}
use Rattle.growth_laws.specs.Files.{with_cells}
use Rattle.growth_laws.specs.Need.{needed}
use Rattle.growth_laws.proofs.Parts.{not_itself}
use Rattle.growth_drafts.specs.Taken.{DraftsFile}
use Rattle.table_files.specs.Written.{HasWritten, IsWritten}
use Rattle.table_files.specs.Tables.{CanDouble, doubling_need, table_blocks, table_height, tree_blocks, without_leaf}
use Rattle.table_files.specs.Files.{AreDoubledPointers, AreHeadersOf, SaysInstead, doubled_dinode, file_cells, file_dinode, own_cell, table_bytes}
use Rattle.table_files.proofs.Back.{blocks_fit, bytes_own_g, cell_k, cell_leaf, cell_own_g, clear_g, dinode_g, directory_of, grows, has_taken, headers_kept, height_k, is_doubled, leaf_gone, pads_kept}
use Rattle.table_files.proofs.TableBytes.{table_long}
use Rattle.table_files.specs.Laws.{IsTable}
use Rattle.table_files.proofs.TableFiles.{cell_back, cell_other, count_is, file_of, is_file, large, needed_file, own_part}
use Rattle.table_changes.specs.Doubling.{AreDoubledBlocks, IsDoubledTable}
use Rattle.table_files.specs.TreePointers.{IsTableOf}
use Rattle.table_files.specs.tree_table.TreeTable.{TreeTable}
use Rattle.table_changes.proofs.Below.{below_of_part, hashed_directory}

-- ---- dinodes that are put

-- what is read of a dinode's block says the dinode
pub says_instead : (h : Holding) (d d' : Dinode) (old bytes : List ℕ) → bytes_at h h.own ≡ old → d ≡ d' → bytes ≡ dinode_put d old → dinode_read bytes ≡ Ok d → drop dinode_length bytes ≡ drop dinode_length old → length bytes ≡ h.size → SaysInstead h d' bytes
says_instead h d d' old bytes was same put read behind whole =
    let found = answer_ok (header_fault dinode_length 4 400 bytes) (dinode_of bytes) d read in
    record {
      put = put ∙ ap (λ x. dinode_put x old) same ∙ ap (dinode_put d') (sym was);
      said = found.1 ∙ same;
      header = header_from dinode_length 4 400 bytes found.0;
      whole = whole;
      behind = behind ∙ ap (drop dinode_length) (sym was);
    }

-- the table of a directory that can be doubled
pub table_is : (t : TreeTable) (v : Seen) (h : Holding) (room : List ℕ) → IsTableOf t v h → IsBlockSize v.size → CanDouble h room → IsTable h
table_is t v h room table size can = record {
  block_size = subst IsBlockSize (sym table.shown.size) size;
  directory = hashed_directory h table.hashed;
  size = table.size ∙ ap (λ n. 8 * 2 ^ n) table.depth;
  sound = can.sound;
  placed = can.placed;
  leads = can.leads;
}

-- how many blocks the file has
abbrev pub file_blocks : Holding → ℕ
file_blocks h = 1 + tree_blocks h.size (height_in h) (table_blocks h.size (table_count h))

-- the dinode of the file, as it is put
abbrev pub file_said : Dinode → ℕ → ℕ → Dinode
file_said d size depth = record d {
  mode = 33188;
  nlink = 1;
  depth = 0;
  size = (if d.height == 0 then 0 else table_blocks size (2 ^ depth) * size);
  blocks = 1 + tree_blocks size d.height (table_blocks size (2 ^ depth));
}

pub file_is_said : (h : Holding) → IsTable h → (d : Dinode) (size depth : ℕ) → d ≡ dinode_in h → size ≡ h.size → depth ≡ (dinode_in h).depth → file_said d size depth ≡ file_dinode h (file_blocks h)
file_is_said h table d size depth same size_is depth_is =
    ap (λ x. file_said x size depth) same ∙ ap (λ s. file_said (dinode_in h) s depth) size_is ∙ ap (file_said (dinode_in h) h.size) depth_is
    ∙ ap (λ n. record (dinode_in h) { mode = 33188; nlink = 1; depth = 0; size = (if height_in h == 0 then 0 else n * h.size); blocks = file_blocks h }) (sym (count_is h table))

-- that of the directory afterwards
abbrev pub doubled_said : Dinode → ℕ → ℕ → Dinode
doubled_said d size depth = record d {
  depth = depth + 1;
  size = 2 * (8 * 2 ^ depth);
  height = table_height size d.height (2 * 2 ^ depth);
  blocks = d.blocks + doubling_need size d.height (2 ^ depth);
}

pub doubled_is_said : (h : Holding) → IsTable h → (d : Dinode) (size depth height more : ℕ) → d ≡ dinode_in h → size ≡ h.size → depth ≡ (dinode_in h).depth → height ≡ table_height h.size (height_in h) (2 * table_count h)
    → more ≡ doubling_need h.size (height_in h) (table_count h) → doubled_said d size depth ≡ doubled_dinode h height more
doubled_is_said h table d size depth height more same size_is depth_is height_is more_is =
    ap (λ x. doubled_said x size depth) same ∙ ap (λ s. doubled_said (dinode_in h) s depth) size_is ∙ ap (doubled_said (dinode_in h) h.size) depth_is
    ∙ ap (λ n. record (dinode_in h) { depth = (dinode_in h).depth + 1; size = 2 * n; height = table_height h.size (height_in h) (2 * table_count h); blocks = (dinode_in h).blocks + doubling_need h.size (height_in h) (table_count h) }) (sym table.size)
    ∙ ap (λ n. record (dinode_in h) { depth = (dinode_in h).depth + 1; size = 2 * (dinode_in h).size; height = n; blocks = (dinode_in h).blocks + doubling_need h.size (height_in h) (table_count h) }) (sym height_is)
    ∙ ap (λ n. doubled_dinode h height n) (sym more_is)

-- the blocks of the doubled table, one behind another
pub raw_size : (h : Holding) → IsTable h → (headers pointers : List ℕ) → AreHeadersOf h headers → AreDoubledPointers h pointers → length (table_bytes h.size headers pointers) ≡ table_blocks h.size (2 * table_count h) * h.size
raw_size h table headers pointers heads twice = table_long h.size (large h table) headers pointers (whole (height_in h) refl) ∙ ap (λ n. pieces n (h.size - 24) * h.size) twice.long
  where
    times : (n : ℕ) → n * 24 % 24 ≡ 0
    times n = omega arith

    whole : (n : ℕ) → height_in h ≡ n → length headers % 24 ≡ 0
    whole zero none = ap (λ (xs : List ℕ). length xs % 24) (heads.none none)
    whole (suc level) high = ap (λ n. n % 24) (heads.long level high) ∙ times (content_count h)

-- ---- drafts with one block more

module _ {V : Type 0} (seen : V → Seen) (old new : Drafted V) (lock : LockName) (a : ℕ) (bytes : List ℕ) (put : new ≡ record old { fates = insert old.fates a (Put lock false bytes) }) where
  pub fate_here : get new.fates a ≡ Some (Put lock false bytes)
  fate_here = ap (λ (d : Drafted V). get d.fates a) put ∙ inserted_at nat_cmp_total nat_cmp-IsAntisymmetric old.fates a (Put lock false bytes)

  pub fate_other : (b : ℕ) → b ≢ a → get new.fates b ≡ get old.fates b
  fate_other b other = ap (λ (d : Drafted V). get d.fates b) put ∙ inserted_apart nat_cmp_total nat_cmp-IsAntisymmetric old.fates a (Put lock false bytes) b other

  pub view_put : new.view ≡ old.view
  view_put = ap (λ (d : Drafted V). d.view) put

  pub seen_here : (seen_in seen new).block_at a ≡ Some bytes
  seen_here = ap (λ fate. block_with fate ((seen new.view).block_at a)) fate_here

  pub seen_other : (b : ℕ) → b ≢ a → (seen_in seen new).block_at b ≡ (seen_in seen old).block_at b
  seen_other b other = ap₂ (λ fate (w : V). block_with fate ((seen w).block_at b)) (fate_other b other) view_put

-- ---- the change as a whole

module _ (h : Holding) (table : IsTable h) (bytes : List ℕ) (is : SaysInstead h (file_dinode h (file_blocks h)) bytes) (raw : List ℕ) (doubled : IsDoubledTable h raw) (room left : List ℕ) (can : CanDouble h room)
    (hashed : is_hashed_in h ≡ true) (after : Seen) (f1 f2 : FinMap nat_cmp Fate) (untold : (b : ℕ) → b ≢ h.own → get f1 b ≡ None)
    (written : HasWritten after f1 f2 room left (file_of h table (file_blocks h) bytes is) 0 raw) (size_is : after.size ≡ h.size) where
  abbrev f : Holding
  f = file_of h table (file_blocks h) bytes is

  -- the file afterwards is one of the same image, and its dinode's block the same
  same_k : written.g ≡ with_cells h written.g.cell
  same_k = λ i. record { size = (written.shown.size ∙ size_is) i; count = written.written.blocks.count i; own = written.shown.own i; cell = written.g.cell }

  abbrev pub kc : ℕ → Option Cell
  kc = written.g.cell

  free_taken : (b : ℕ) → Contains written.taken b → (h.cell b ≡ None) × (b < h.count)
  free_taken b has =
      let in_room : Contains room b = subst (λ xs. Contains xs b) (sym written.from_front) (Contains-append_left written.taken left b has) in
      (can.free.new b in_room, can.free.inside b in_room)

  raw_is : raw ≡ table_bytes h.size doubled.headers doubled.pointers
  raw_is = doubled.all

  pub written_k : IsWritten f (with_cells h kc) 0 (table_bytes h.size doubled.headers doubled.pointers) written.taken
  written_k = subst (λ (xs : List ℕ). IsWritten f (with_cells h kc) 0 xs written.taken) raw_is (subst (λ x. IsWritten f x 0 raw written.taken) same_k written.written)

  pub drafted_k : DraftsFile f1 f2 f (with_cells h kc) []
  drafted_k = subst (λ x. DraftsFile f1 f2 f x []) same_k written.drafted

  pub own_bytes_k : bytes_at written.g written.g.own ≡ bytes_at (with_cells h kc) h.own
  own_bytes_k = ap (λ (x : Holding). bytes_at x x.own) same_k

  pub taken_is : length written.taken ≡ doubling_need h.size (height_in h) (table_count h)
  taken_is =
      let long : length raw ≡ table_blocks h.size (2 * table_count h) * h.size = ap length raw_is ∙ raw_size h table doubled.headers doubled.pointers doubled.heads doubled.twice in
      written.as_many ∙ ap (needed f 0) long ∙ needed_file h table (file_blocks h) bytes is refl

  pub height_is : height_in (with_cells h kc) ≡ table_height h.size (height_in h) (2 * table_count h)
  height_is = height_k h table (file_blocks h) bytes is refl doubled.headers doubled.pointers doubled.heads doubled.twice kc written.taken written_k free_taken

  -- the blocks that it has and those that it takes are all of the image
  pub block_sum : block_count h + length written.taken ≤ h.count
  block_sum = blocks_fit h table (file_blocks h) bytes is refl doubled.headers doubled.pointers doubled.heads doubled.twice kc written.taken written_k free_taken

  module _ (own : List ℕ) (says : SaysInstead (with_cells h kc) (doubled_dinode h (height_in (with_cells h kc)) (length written.taken)) own) (f3 : FinMap nat_cmp Fate)
      (here : get f3 h.own ≡ Some (Put (inode_lock h.own) false own)) (other_fates : (b : ℕ) → b ≢ h.own → get f3 b ≡ get f2 b) (ws : List Written) (finished : ws ≡ blocks_in (entries f3)) where
    abbrev g : Holding
    g = directory_of h table (file_blocks h) bytes is refl doubled.headers doubled.pointers doubled.heads doubled.twice kc written.taken written_k free_taken own says

    cells_k : (b : ℕ) → b ≢ h.own → is_leaf_part (part_at h b) ≡ false → g.cell b ≡ kc b
    cells_k = cell_k h table (file_blocks h) bytes is refl doubled.headers doubled.pointers doubled.heads doubled.twice kc written.taken written_k free_taken own says

    cells_leaf : (b : ℕ) → is_leaf_part (part_at h b) ≡ true → g.cell b ≡ h.cell b
    cells_leaf = cell_leaf h table (file_blocks h) bytes is refl doubled.headers doubled.pointers doubled.heads doubled.twice kc written.taken written_k free_taken own says

    gone : (b : ℕ) → is_leaf_part (part_at h b) ≡ true → kc b ≡ None
    gone = leaf_gone h table (file_blocks h) bytes is refl doubled.headers doubled.pointers doubled.heads doubled.twice kc written.taken written_k free_taken

    bytes_g : bytes_at g h.own ≡ own
    bytes_g = bytes_own_g h table (file_blocks h) bytes is refl doubled.headers doubled.pointers doubled.heads doubled.twice kc written.taken written_k free_taken own says

    dinode_is : dinode_in g ≡ doubled_dinode h (height_in (with_cells h kc)) (length written.taken)
    dinode_is = dinode_g h table (file_blocks h) bytes is refl doubled.headers doubled.pointers doubled.heads doubled.twice kc written.taken written_k free_taken own says

    none_there : {A : Type 0} (c : Option Cell) → c ≡ None → IsSome c → A
    none_there None e there = let never : false ≡ true = there in absurd (cc)
    none_there (Some c) e there = let never : Some c ≡ None = e in absurd (cc)

    nothing : (b : ℕ) → b ≢ h.own → (IsSome (kc b) → ⊥) → get f3 b ≡ None
    nothing b other none = other_fates b other ∙ drafted_k.others b none (λ has. absurd (omega (arith, has.1))) ∙ untold b other

    some_f : (b : ℕ) → b ≢ h.own → IsSome (file_cells h bytes b) → IsSome (h.cell b)
    some_f b other had = was (h.cell b) (subst IsSome (cell_other h table (file_blocks h) bytes is b other) had)
      where
        was : (c : Option Cell) → IsSome (without_leaf c) → IsSome c
        was None some = some
        was (Some c) some = refl

    same_f : (b : ℕ) → b ≢ h.own → IsSome (file_cells h bytes b) → bytes_at f b ≡ bytes_at h b
    same_f b other had = ap cell_bytes (cell_other h table (file_blocks h) bytes is b other) ∙ stay (h.cell b) (subst IsSome (cell_other h table (file_blocks h) bytes is b other) had)
      where
        stay : (c : Option Cell) → IsSome (without_leaf c) → cell_bytes (without_leaf c) ≡ cell_bytes c
        stay None some = refl
        stay (Some c) some = pick (is_leaf_part (Some c.part)) some
          where
            pick : (q : Bool) → IsSome (if q then None else Some c) → cell_bytes (if q then None else Some c) ≡ c.bytes
            pick true there = let never : false ≡ true = there in absurd (cc)
            pick false there = refl

    pub are_doubled : AreDoubledBlocks h room left ws
    are_doubled = record {
      g = g;
      taken = written.taken;
      hashed = ap (λ (d : Dinode). is_directory d && has_hash_flag d) dinode_is ∙ hashed;
      doubled = is_doubled h table (file_blocks h) bytes is refl doubled.headers doubled.pointers doubled.heads doubled.twice kc written.taken written_k free_taken own says;
      has = has_taken h table (file_blocks h) bytes is refl doubled.headers doubled.pointers doubled.heads doubled.twice kc written.taken written_k free_taken own says;
      needed = taken_is;
      front = written.from_front;
      pads = pads_kept h table (file_blocks h) bytes is refl doubled.headers doubled.pointers doubled.heads doubled.twice kc written.taken written_k free_taken own says;
      headers = headers_kept h table (file_blocks h) bytes is refl doubled.headers doubled.pointers doubled.heads doubled.twice kc written.taken written_k free_taken own says;
      clear = clear_g h table (file_blocks h) bytes is refl doubled.headers doubled.pointers doubled.heads doubled.twice kc written.taken written_k free_taken own says;
      grown = grows h table (file_blocks h) bytes is refl doubled.headers doubled.pointers doubled.heads doubled.twice kc written.taken written_k free_taken own says;
      fates = f3;
      written = finished;
      each = λ b there. elim (cases_eq b h.own) [
        | inl same ↦ inr (inode_lock h.own, false, ap (get f3) same ∙ here ∙ ap (λ (xs : List ℕ). Some (Put (inode_lock h.own) false xs)) (sym (ap (bytes_at g) same ∙ bytes_g)))
        | inr other ↦ elim (cases_Bool (is_leaf_part (part_at h b))) [
          | inl leaf ↦ inl (nothing b other (none_there (kc b) (gone b leaf)), subst IsSome (cells_leaf b leaf) there, ap cell_bytes (cells_leaf b leaf))
          | inr fails ↦ elim (drafted_k.own b (subst IsSome (cells_k b other fails) there)) [
            | inl left' ↦ inl (other_fates b other ∙ left'.fate ∙ untold b other, some_f b other left'.had, ap cell_bytes (cells_k b other fails) ∙ left'.bytes ∙ same_f b other left'.had)
            | inr put ↦ inr (inode_lock h.own, put.plain, other_fates b other ∙ put.fate ∙ ap (λ (xs : List ℕ). Some (Put (inode_lock h.own) put.plain xs)) (sym (ap cell_bytes (cells_k b other fails))))
          ]
        ]
      ];
      others = λ b none. elim (cases_eq b h.own) [
        | inl same ↦ absurd (none (subst (λ x. IsSome (g.cell x)) (sym same) (own_there (g.cell h.own) own_g)))
        | inr other ↦ nothing b other (λ there. elim (cases_Bool (is_leaf_part (part_at h b))) [
          | inl leaf ↦ none_there (kc b) (gone b leaf) there
          | inr fails ↦ none (subst IsSome (sym (cells_k b other fails)) there)
        ])
      ];
      leaves = λ x hash place part. nothing x (λ same. itself_no_leaf (sym can.placed.own ∙ ap (part_at h) (sym same) ∙ part)) (none_there (kc x) (gone x (ap is_leaf_part part)));
    }
      where
        own_g : g.cell h.own ≡ own_cell own
        own_g = cell_own_g h table (file_blocks h) bytes is refl doubled.headers doubled.pointers doubled.heads doubled.twice kc written.taken written_k free_taken own says

        itself_no_leaf : {hash place : ℕ} → Some Itself ≡ Some (InChain hash place) → ⊥
        itself_no_leaf e = cc

        own_there : (c : Option Cell) → c ≡ own_cell own → IsSome c
        own_there None e = let never : ◌≡◌ {A = Option Cell} None (own_cell own) = e in absurd (cc)
        own_there (Some c) e = refl

-- ---- no block of the file is missing

pub file_below : (h : Holding) (table : IsTable h) (blocks : ℕ) (bytes : List ℕ) (is : SaysInstead h (file_dinode h blocks) bytes) (v w : Seen) → ((b : ℕ) → IsBelow h b → HasBlock v b) → ((b : ℕ) → b ≢ h.own → w.block_at b ≡ v.block_at b)
    → (b : ℕ) → IsBelow (file_of h table blocks bytes is) b → HasBlock w b
file_below h table blocks bytes is v w below same b (from, k, level, first, leads) =
    let f = file_of h table blocks bytes is in
    let file = is_file h table blocks bytes is in
    let part : part_at f b ≡ Some (Pointed from k level first) = part_of_led f from k level first b file.tree leads in
    let other : b ≢ h.own = λ e. not_itself from k level first (sym (own_part h table blocks bytes is) ∙ ap (part_at f) (sym e) ∙ part) in
    let back = cell_back h table blocks bytes is b (Pointed from k level first) other part in
    let has = below b (below_of_part h table.sound.tree table.placed.nobody b from k level first back.1) in
    (has.0, same b other ∙ has.1)
