-- A table that is doubled as a step of an insertion.
use Rattle.std.proofs.Common.{◌≡◌, ◌≢◌, ◌⊎◌, ℕ, ◌+◌, ◌-◌, ◌*◌, ◌/◌, ◌^◌, ◌<◌, ◌≤◌, inl, inr, Bool, true, false, List, [], ◌∷◌, ◌++◌, length, drop, Option, None, Some, refl, sym, ap, ap₂, ◌∙◌, subst, arith}
use Rattle.std.specs.Prelude.{IsSome, Contains, ◌==◌, ◌||◌, if◌then◌else◌}
use Rattle.std.specs.FinMap.{FinMap, get}
use Rattle.std.specs.List.{list_any}
use Rattle.std.specs.Ordering.{nat_cmp}
use Rattle.std.proofs.lemmas.List.{append_cancel_right}
use Rattle.std.proofs.lemmas.Bool.{cases_Bool, cond-false, eqb-true, true≢false}
use Rattle.std.proofs.lemmas.List.Elements.{Contains-append_left, Contains-append_right}
use Rattle.crc_words.specs.Remainder.{crc32_of}
use Rattle.drafts.specs.Fates.{seen_with}
use Rattle.drafts.specs.declared.fate.Fate.{Fate}
use Rattle.gfs2_layout.specs.Area.{Slot, slots_of}
use Rattle.gfs2_layout.specs.Device.{IsBlockSize}
use Rattle.gfs2_layout.specs.Holding.{Holding, Cell, InChain, Itself, Part, Pointed, cell_bytes, cell_part, part_at}
use Rattle.gfs2_layout.specs.Inode.{content_count, depth_in, dinode_in, entry, first_hash, has_hash_flag, height_in, is_directory_in, is_leaf_part, leaf_area, leaf_in, leaf_length, pieces, table_count, top_bits, unit}
use Rattle.gfs2_layout.specs.Structures.{leaf_of}
use Rattle.gfs2_layout.specs.declared.dinode.Dinode.{Dinode}
use Rattle.image_model.proofs.Rows.{and_left}
use Rattle.glock_names.specs.Views.{Seen}
use Rattle.growth_laws.specs.Need.{raised_to}
use Rattle.pointer_tables.specs.Directories.{chain_head}
use Rattle.table_changes.specs.Tables.{doubling_need, doubling_need_of, table_height}
use Rattle.hash_steps.specs.Shown.{IsInChain, IsShown, index_for}
use Rattle.hash_steps.proofs.Chained.{cell_some, deep, head_some, index_low, rules}
use Rattle.hash_steps.proofs.Indexes.{bits_of_bits}
use Rattle.hash_steps.specs.Laws.{Stays}
use Rattle.hash_steps.specs.Leaves.{first_of, has_room_for, run_of}
use Rattle.hash_inserts.specs.Advancing.{CanInsert, IsAtLeaf, IsFullLeaf, StepsOn, StepsTo}
use Rattle.hash_inserts.specs.Drafting.{DoublesTable}
use Rattle.hash_inserts.specs.Inserting as ins
use Rattle.hash_inserts.specs.Inserting.{HasDoubled, HasNoRoom, HasOneLeafFor, IsInsertedAt, a_leaf_with_room, after_doubling, depth_for, one_taken, the_last_leaf}
use Rattle.hash_inserts.specs.Needing.{AreLeavesFrom, Chain, Needs, TakesBlocks, a_doubling, a_leaf, a_split, doubled, nothing, one_more, the_last}
use Rattle.hash_inserts.proofs.Pointing.{pointer_block, run_low}
use Rattle.hash_inserts.proofs.Blockwise.{size_bounds}
use Rattle.hash_inserts.proofs.Onward.{can_still, table_still}
use Rattle.hash_inserts.proofs.Seen.{PointersAreParts}
use Rattle.hash_inserts.proofs.SplitOn.{none_has_room, only_head}

-- ---- what a name needs, where its one leaf is as deep as the table

pub one_leaf : (h : Holding) (x : ℕ) (leaves : List (List Slot)) → AreLeavesFrom h x leaves → (leaf_in h x).next ≡ 0 → leaves ≡ slots_of (leaf_area h x) ∷ []
one_leaf h _ _ (the_last x ends) one = refl
one_leaf h _ _ (one_more x later more rest) one = absurd (more one)

pub none_of_one : (test : List Slot → Bool) (x : List Slot) → test x ≡ false → list_any test (x ∷ []) ≡ false
none_of_one test x fails = ap (λ t. t || false) fails

by_rule : (len hash : ℕ) (slots : List Slot) (c : Chain) (n : ℕ) → Needs len hash c n → c.leaves ≡ slots ∷ [] → has_room_for len slots ≡ false → c.table ≤ c.depth → 2 * 2 ^ c.table ≤ 8 * c.size
    → (m : ℕ) × (n ≡ m + doubling_need c.size c.height (2 ^ c.table)) × Needs len hash (doubled c) m
by_rule len hash slots _ _ (nothing c room) leaves full low may = absurd (true≢false (sym room ∙ ap (list_any (has_room_for len)) leaves ∙ none_of_one (has_room_for len) slots full))
by_rule len hash slots _ _ (a_split c other m is_full is deeper needs) leaves full low may = absurd (omega (arith, deeper, low))
by_rule len hash slots _ _ (a_doubling c other m is_full is as_deep can needs) leaves full low may = (m, refl, needs)
by_rule len hash slots _ _ (a_leaf c is_full (inl several)) leaves full low may = absurd (omega (arith, several, ap length leaves))
by_rule len hash slots _ _ (a_leaf c is_full (inr other)) leaves full low may = absurd (other.1 may)

-- what a directory's table takes to be doubled, and the rest
pub needs_doubled : (h : Holding) (name : List ℕ) (need leaf : ℕ) → (takes : TakesBlocks h name need) → leaf ≡ entry h (index_for h name) → HasOneLeafFor h name → IsFullLeaf h name leaf → depth_for h name ≡ depth_in h → 2 * table_count h ≤ 8 * h.size
    → (rest : ℕ) × (need ≡ rest + doubling_need_of h) × Needs (length name) (crc32_of name) (doubled takes.chain) rest
needs_doubled h name need leaf takes leaf_is one full deepest may =
    let c = takes.chain in
    let is = takes.is in
    let slots = slots_of (leaf_area h (entry h (index_for h name))) in
    let is_full : has_room_for (length name) slots ≡ false = ap (λ x. has_room_for (length name) (slots_of (leaf_area h x))) (sym leaf_is) ∙ full in
    let may_c : 2 * 2 ^ c.table ≤ 8 * c.size = subst (λ n. 2 * 2 ^ n ≤ 8 * c.size) (sym is.table) (subst (λ n. 2 * table_count h ≤ 8 * n) (sym is.size) may) in
    let rest = by_rule (length name) (crc32_of name) slots c need takes.needs (one_leaf h (entry h (index_for h name)) c.leaves is.leaves one) is_full (omega (arith, is.depth, is.table, deepest)) may_c in
    (rest.0, rest.1 ∙ ap (λ n. rest.0 + n) (ap (λ n. doubling_need c.size c.height (2 ^ n)) is.table ∙ ap₂ (λ s n. doubling_need s n (table_count h)) is.size is.height), rest.2)

module _ (v : Seen) (old new : FinMap nat_cmp Fate) (room left : List ℕ) (dir : ℕ) (name : List ℕ) (need leaf : ℕ) (h m : Holding) (can : CanInsert (seen_with v old) dir h name room need) (at : IsAtLeaf (seen_with v old) h name leaf)
    (full : IsFullLeaf h name leaf) (deepest : depth_for h name ≡ depth_in h) (may : 2 * table_count h ≤ 8 * h.size) (doubles : DoublesTable v old new room left h m) (stays : Stays h m) (parts : PointersAreParts) where
  abbrev i : ℕ
  i = index_for h name

  abbrev taken : List ℕ
  taken = doubles.takes.taken

  no_room : HasNoRoom h name
  no_room = none_has_room h name leaf at.leaf_is at.one full

  low : i < table_count h
  low = index_low h can.sound can.shown.hashed name can.small

  -- ---- the leaf is the same

  deeper : depth_in m ≡ depth_in h + 1
  deeper = ap (λ (d : Dinode). d.depth) doubles.takes.doubled.dinode

  half : index_for m name / 2 ≡ i
  half =
      let bits = bits_of_bits (depth_in h) (depth_in h + 1) (crc32_of name) (omega arith) (omega (arith, deep h can.sound can.shown.hashed)) in
      let one : depth_in h + 1 - depth_in h ≡ 1 = omega arith in
      ap (λ n. top_bits n (crc32_of name) / 2) deeper ∙ ap (λ k. top_bits (depth_in h + 1) (crc32_of name) / 2 ^ k) (sym one) ∙ bits

  low_m : index_for m name < table_count m
  low_m = index_low m stays.sound stays.hashed name can.small

  led : entry m (index_for m name) ≡ entry h i
  led = doubles.takes.doubled.entries (index_for m name) low_m ∙ ap (entry h) half

  part : part_at h (entry h i) ≡ Some (InChain (first_hash h i) 0)
  part = (rules h can.sound can.shown.hashed).leads i low

  cell : m.cell (entry h i) ≡ h.cell (entry h i)
  cell = doubles.takes.doubled.stays.leaves (entry h i) (first_hash h i) 0 part

  leaf_same : leaf_in m (entry m (index_for m name)) ≡ leaf_in h (entry h i)
  leaf_same = ap (leaf_in m) led ∙ ap (λ (c : Option Cell). leaf_of (cell_bytes c)) cell

  one_after : HasOneLeafFor m name
  one_after = ap (λ l. l.next) leaf_same ∙ at.one

  -- ---- what it is to an insertion

  here : (x : ℕ) (g : Holding) (all : List ℕ) → x ≡ entry h i → IsInsertedAt h g name all x
  here x g all is = subst (IsInsertedAt h g name all) (sym is) (the_last_leaf 0 no_room (chain_head low (head_some h can.sound can.shown.hashed i low)) at.one)

  of_leaf : (place x : ℕ) (g : Holding) (all : List ℕ) → IsInChain m (index_for m name) place x → IsInsertedAt h g name all x
  of_leaf place x g all chain = here x g all (only_head m (index_for m name) one_after place x chain ∙ led)

  some_cell : (x : ℕ) (p : Part) → part_at m x ≡ Some p → IsSome (m.cell x)
  some_cell x p is = cell_some (m.cell x) p is

  pointed : (x : ℕ) (g : Holding) (later : List ℕ) (above k level first : ℕ) → depth_in m ≤ depth_in g → part_at m x ≡ Some (Pointed above k level first) → IsInsertedAt h g name (taken ++ later) x
  pointed x g later above k level first on is = elim ((doubles.takes.has.blocks x).0 (some_cell x _ is)) [
    | inr came ↦ one_taken (Contains-append_left taken later x came)
    | inl had ↦ by (part_at h x) refl had
  ]
    where
      by : (p : Option Part) → part_at h x ≡ p → IsSome (h.cell x) → IsInsertedAt h g name (taken ++ later) x
      by None none had = absurd (no (h.cell x) had none)
        where
          no : (c : Option Cell) → IsSome c → cell_part c ≡ None → ⊥
          no None there e = cc
          no (Some c) there e = cc
      by (Some Itself) itself had = ins.IsInsertedAt.its_dinode (can.sound.placed.only x itself)
      by (Some (Pointed above' k' level' first')) as_told had = ins.IsInsertedAt.of_table above' k' level' first' no_room at.one (omega (arith, on, deeper)) as_told
      by (Some (InChain hash place)) chained had = absurd (no (sym (ap cell_part (doubles.takes.doubled.stays.leaves x hash place chained) ∙ chained) ∙ is))
        where
          no : Some (InChain hash place) ≡ Some (Pointed above k level first) → ⊥
          no e = cc

  later_at : (x : ℕ) (g : Holding) (later : List ℕ) → depth_in m ≤ depth_in g → IsInsertedAt m g name later x → IsInsertedAt h g name (taken ++ later) x
  later_at x g later on (ins.IsInsertedAt.its_dinode is) = ins.IsInsertedAt.its_dinode (is ∙ doubles.puts.own)
  later_at x g later on (a_leaf_with_room place chain none room_there) = of_leaf place x g (taken ++ later) chain
  later_at x g later on (the_last_leaf place none chain ends) = of_leaf place x g (taken ++ later) chain
  later_at x g later on (one_taken came) = one_taken (Contains-append_right taken later x came)
  later_at x g later on (ins.IsInsertedAt.of_pointers none one less pointer) =
      elim (pointer_block m (first_of m (index_for m name)) (run_of m (depth_for m name)) x stays.sound stays.hashed (run_low m (index_for m name) stays.sound stays.hashed low_m) pointer) [
        | inl is ↦ ins.IsInsertedAt.its_dinode (is ∙ doubles.puts.own)
        | inr p ↦ pointed x g later p.0 p.1 0 p.2 on p.3
      ]
  later_at x g later on (ins.IsInsertedAt.of_table above k level first none one again is) = pointed x g later above k level first on is

  same_taken : doubles.within.taken ≡ taken
  same_taken = append_cancel_right doubles.within.taken taken left (sym doubles.within.front ∙ doubles.takes.front)

  changes : (x : ℕ) → (get new x ≡ get old x) ⊎ IsInsertedAt h m name taken x
  changes x = elim (doubles.within.changes x) [
    | inl same ↦ inl same
    | inr (inl own) ↦ inr (ins.IsInsertedAt.its_dinode own)
    | inr (inr (inl below)) ↦
        let p = parts h x can.sound.inode below in
        inr (ins.IsInsertedAt.of_table p.0 p.1 p.2 p.3 no_room at.one (omega (arith, deeper)) p.4)
    | inr (inr (inr came)) ↦ inr (one_taken (subst (λ xs. Contains xs x) same_taken came))
  ]

  has_doubled : HasDoubled h m taken
  has_doubled = record {
    doubled = doubles.takes.doubled;
    needed = doubles.takes.needed;
    pads = doubles.takes.pads;
    headers = doubles.takes.headers;
    clear = doubles.takes.clear;
    grown = doubles.takes.grown;
  }

  steps : StepsTo v old new name h m taken
  steps = record {
    puts = doubles.puts;
    has = doubles.takes.has;
    stays = stays;
    deep = omega (arith, deeper);
    changes = changes;
    later = later_at;
    goes_on = λ e g later inserted. after_doubling h m g taken later no_room at.one deepest may has_doubled stays.sound inserted;
  }

  -- ---- the height

  size_is : m.size ≡ h.size
  size_is = doubles.takes.doubled.size

  directory : is_directory_in m ≡ true
  directory = and_left (is_directory_in m) (has_hash_flag (dinode_in m)) stays.hashed

  long : (dinode_in m).size ≡ 8 * (2 * table_count h)
  long = omega (arith, ap (λ (d : Dinode). d.size) doubles.takes.doubled.dinode, (rules h can.sound can.shown.hashed).size)

  -- a table of this size doesn't fit behind its dinode
  high : height_in m ≢ 0
  high flat = too_large h.size (table_count h) can.sound.block_size (rules h can.sound can.shown.hashed).least (subst (λ n. 232 + n ≤ h.size) long (subst (λ n. 232 + (dinode_in m).size ≤ n) size_is (stays.sound.inode.fits.stuffed flat)))
    where
      too_large : (size count : ℕ) → IsBlockSize size → size / 16 ≤ count → 232 + 8 * (2 * count) ≤ size → ⊥
      too_large size count is least fits = omega (arith, is, least, fits)

  pieces_are : content_count m ≡ pieces (8 * (2 * table_count h)) (h.size - 24)
  pieces_are = ap (λ n. pieces n (unit m)) long ∙ ap (λ b. pieces (8 * (2 * table_count h)) (if b then m.size - 24 else m.size)) directory ∙ ap (λ n. pieces (8 * (2 * table_count h)) (n - 24)) size_is

  height_is : height_in m ≡ table_height h.size (height_in h) (2 * table_count h)
  height_is =
      let grown = doubles.takes.grown in
      let f = grown.before in
      let k = grown.after in
      let end = (dinode_in k).size in
      let old_high : height_in f ≡ height_in h = ap (λ (d : Dinode). d.height) grown.of_old.dinode in
      let new_high : height_in k ≡ height_in m = ap (λ (d : Dinode). d.height) grown.of_new.dinode in
      let new_size : (dinode_in k).size ≡ content_count m * m.size = ap (λ (d : Dinode). d.size) grown.of_new.dinode ∙ not_flat (height_in m) (content_count m * m.size) high in
      let written_size = ap (λ (d : Dinode). d.size) grown.written.dinode in
      let raised = ap (λ (d : Dinode). d.height) grown.written.dinode in
      let ends = ap (λ n. raised_to f.size (height_in f) n (10 - height_in f)) (sym written_size ∙ new_size ∙ ap₂ (λ n s. n * s) pieces_are size_is) in
      sym new_high ∙ raised ∙ ends ∙ ap₂ (λ s n. raised_to s n (pieces (8 * (2 * table_count h)) (h.size - 24) * h.size) (10 - n)) grown.of_old.size old_high
    where
      not_flat : (n : ℕ) (x : ℕ) → n ≢ 0 → (if n == 0 then 0 else x) ≡ x
      not_flat n x some = elim (cases_Bool (n == 0)) [
        | inl flat ↦ absurd (some (eqb-true n 0 flat))
        | inr tall ↦ cond-false (n == 0) 0 x tall
      ]

  -- ---- what the name needs

  needs_fewer : (rest : ℕ) × (need ≡ rest + doubling_need_of h) × TakesBlocks m name rest
  needs_fewer =
      let c = can.takes.chain in
      let is = can.takes.is in
      let leaves = one_leaf h (entry h i) c.leaves is.leaves at.one in
      let rest = needs_doubled h name need leaf can.takes at.leaf_is at.one full deepest may in
      let height : table_height c.size c.height (2 * 2 ^ c.table) ≡ height_in m = ap (λ n. table_height c.size c.height (2 * 2 ^ n)) is.table ∙ ap₂ (λ s n. table_height s n (2 * table_count h)) is.size is.height ∙ sym height_is in (
        rest.0,
        rest.1,
        record {
          chain = doubled c;
          is = record {
            size = is.size ∙ sym size_is;
            height = height;
            table = ap (λ n. n + 1) is.table ∙ sym deeper;
            depth = is.depth ∙ ap (λ l. l.depth) (sym leaf_same);
            leaves = subst (AreLeavesFrom m (entry m (index_for m name))) (ap (λ x. slots_of (leaf_area m x) ∷ []) led ∙ ap (λ s. s ∷ []) area_same ∙ sym leaves) (the_last (entry m (index_for m name)) one_after);
          };
          needs = rest.2;
        },
      )
    where
      area_same : slots_of (leaf_area m (entry h i)) ≡ slots_of (leaf_area h (entry h i))
      area_same = ap (λ (c : Option Cell). slots_of (drop leaf_length (cell_bytes c))) cell

  leaves : (x : ℕ) → IsSome (h.cell x) → is_leaf_part (part_at h x) ≡ true → is_leaf_part (part_at m x) ≡ true
  leaves x some is_leaf = by (part_at h x) refl is_leaf
    where
      by : (p : Option Part) → part_at h x ≡ p → is_leaf_part p ≡ true → is_leaf_part (part_at m x) ≡ true
      by None is told = absurd (true≢false (sym told))
      by (Some Itself) is told = absurd (true≢false (sym told))
      by (Some (Pointed above k level first)) is told = absurd (true≢false (sym told))
      by (Some (InChain hash place)) is told = ap is_leaf_part (ap cell_part (doubles.takes.doubled.stays.leaves x hash place is) ∙ is)

  large : 512 ≤ m.size
  large = (size_bounds m.size stays.sound.block_size).0

  pub double_on : IsShown (seen_with v new) dir m → StepsOn v (seen_with v new) old new room left dir name need leaf h m
  double_on shown =
      let all : need ≡ length taken + needs_fewer.0 = omega (arith, needs_fewer.1, doubles.takes.needed) in
      record {
        more = taken;
        rest = needs_fewer.0;
        steps = steps;
        front = doubles.takes.front;
        all = all;
        can = can_still (seen_with v old) (seen_with v new) dir h m name taken room left need needs_fewer.0 can shown stays doubles.takes.has doubles.takes.front all needs_fewer.2;
        at = record {
          leaf_is = at.leaf_is ∙ sym led;
          one = one_after;
          sees = table_still v old new h m doubles.puts large stays.sound.inode leaves at.sees;
          there = doubles.puts.there leaf at.there;
        };
        deeper = omega (arith, ap (λ l. l.depth) leaf_same, deeper);
      }

  pub still_full : IsFullLeaf m name leaf
  still_full = ap (λ x. has_room_for (length name) (slots_of (leaf_area m x))) at.leaf_is ∙ ap (λ (c : Option Cell). has_room_for (length name) (slots_of (drop leaf_length (cell_bytes c)))) cell ∙ ap (λ x. has_room_for (length name) (slots_of (leaf_area h x))) (sym at.leaf_is) ∙ full
