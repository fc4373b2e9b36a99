-- A linear directory after its records went into a leaf, and its first table behind its dinode.
use Rattle.std.proofs.Common.{◌≡◌, ◌≢◌, ◌⊎◌, ℕ, zero, suc, ◌+◌, ◌-◌, ◌*◌, ◌/◌, ◌%◌, ◌^◌, ◌<◌, ◌≤◌, inl, inr, Bool, true, false, List, [], ◌∷◌, length, take, drop, replicate, Option, None, Some, refl, sym, ap, ap₂, ◌∙◌, subst, arith}
use Rattle.std.specs.Prelude.{◌==◌, ◌&&◌, Contains, IsSome, flat_map}
use Rattle.std.specs.FinMap.{FinMap, get, insert}
use Rattle.std.specs.List.{All, range_with_len}
use Rattle.std.specs.Ordering.{nat_cmp}
use Rattle.std.proofs.lemmas.Bool.{cases_eq, cond-true}
use Rattle.std.proofs.lemmas.Bool.Decides.{nat_tests}
use Rattle.std.proofs.lemmas.List.{length-drop, length-replicate, take-append-drop, length-take-le}
use Rattle.drafts.specs.Fates.{Drafted, block_with, seen_in, seen_with}
use Rattle.drafts.specs.declared.fate.Fate.{Fate}
use Rattle.drafts.specs.declared.fate.Fate.TheVariants.{Put}
use Rattle.gfs2_layout.specs.Area.{slots_of}
use Rattle.gfs2_layout.specs.Bytes.{u64_at}
use Rattle.gfs2_layout.specs.Device.{IsBlockSize}
use Rattle.gfs2_layout.specs.Holding.{Holding, Part, Itself, Pointed, InChain, part_at, bytes_at}
use Rattle.gfs2_layout.specs.Inode.{Fits, HasTree, IsLinear, block_count, carried, content_block, content_count, content_of, dinode_in, entry, has_hash_flag, height_in, is_directory_in, is_hashed_in, leaf_length, linear_area, table_count}
use Rattle.gfs2_layout.specs.Structures.{dinode_length, dinode_of, header_fault, is_directory}
use Rattle.gfs2_layout.specs.declared.dinode.Dinode.{Dinode}
use Rattle.gfs2_layout.specs.declared.leaf.Leaf.{Leaf}
use Rattle.gfs2_layout.proofs.HeaderLaws.{answer_ok, header_from}
use Rattle.glock_names.specs.Views.{HasBlock, Seen}
use Rattle.dinode_tree.specs.Pads.{KeepsPads}
use Rattle.dinode_tree.specs.Reading.{inode_lock}
use Rattle.dinode_tree.specs.Shown as inode
use Rattle.growth_drafts.specs.Taken.{HasTaken}
use Rattle.growth_laws.proofs.Numbers.{number_behind, numbers_in_front}
use Rattle.leaf_areas.specs.Moving.{in_use, packed}
use Rattle.pointer_tables.specs.Directories.{IsPlaced, IsTreeSound}
use Rattle.hash_steps.specs.Shown.{IsShown, IsSound}
use Rattle.hash_steps.proofs.Chained.{cell_some}
use Rattle.hash_steps.specs.Laws.{ConversionsStay}
use Rattle.hash_steps.specs.Leaves.{IsLeafPut, blank}
use Rattle.hash_steps.specs.Steps.{IsConverted, first_count}
use Rattle.hash_steps.proofs.Sound.{tree_of}
use Rattle.hash_inserts.specs.Converting.{AreConverted, CanConvert, hashed_dinode}
use Rattle.hash_inserts.specs.Drafting.{IsFree, Puts, with_block}
use Rattle.hash_inserts.specs.Inserting.{Converts, IsPutUnder}
use Rattle.hash_inserts.proofs.Blocks.{bytes_apart, bytes_here, counts_more, counts_same, fate_apart, fate_here, one_put, part_apart, part_here, puts_then, some_before, some_here, some_still}
use Rattle.hash_inserts.proofs.Blockwise.{dinode_own, few_blocks, free_apart, own_read}
use Rattle.hash_inserts.proofs.LeafBytes.{leaf_put_of}
use Rattle.hash_inserts.proofs.Showing.{SoundAreShown, shown_of}
use Rattle.hash_inserts.proofs.Trees.{IsWhole, whole_of, whole_with}

-- where two blocks are put, nothing becomes of any other
pub two_put : (old new : FinMap nat_cmp Fate) (b own : ℕ) (first second : Fate) → new ≡ insert (insert old b first) own second → (y : ℕ) → (get new y ≡ get old y) ⊎ ((y ≡ own) ⊎ (y ≡ b))
two_put old new b own first second is y = elim (cases_eq y own) [
  | inl here ↦ inr (inl here)
  | inr other ↦ elim (cases_eq y b) [
    | inl leaf ↦ inr (inr leaf)
    | inr apart ↦ inl (ap (λ fates. get fates y) is ∙ fate_apart (insert old b first) own second y other ∙ fate_apart old b first y apart)
  ]
]

-- and the two are put under the lock
pub two_put_under : (old new : FinMap nat_cmp Fate) (b own : ℕ) (one two : List ℕ) → new ≡ insert (insert old b (Put (inode_lock own) false one)) own (Put (inode_lock own) false two)
    → (y : ℕ) → (get new y ≡ get old y) ⊎ (((y ≡ own) ⊎ (y ≡ b)) × IsPutUnder new own y)
two_put_under old new b own one two is y = elim (cases_eq y own) [
  | inl here ↦ inr (inl here, (two, ap (get new) here ∙ ap (λ fates. get fates own) is ∙ fate_here (insert old b (Put (inode_lock own) false one)) own (Put (inode_lock own) false two)))
  | inr other ↦ elim (cases_eq y b) [
    | inl leaf ↦ inr (
      inr leaf,
      (
        one,
        ap (λ fates. get fates y) is ∙ fate_apart (insert old b (Put (inode_lock own) false one)) own (Put (inode_lock own) false two) y other
            ∙ ap (get (insert old b (Put (inode_lock own) false one))) leaf ∙ fate_here old b (Put (inode_lock own) false one),
      ),
    )
    | inr apart ↦ inl (ap (λ fates. get fates y) is ∙ fate_apart (insert old b (Put (inode_lock own) false one)) own (Put (inode_lock own) false two) y other ∙ fate_apart old b (Put (inode_lock own) false one) y apart)
  ]
]

-- the flag is set where it wasn't
hash_flag : (flags : ℕ) → (flags / 2 % 2 == 1) ≡ false → ((flags + 2) / 2 % 2 == 1) ≡ true
hash_flag flags none = grind (arith, nat_tests)

-- the first table fits behind a dinode
pub table_fits : (size : ℕ) → IsBlockSize size → dinode_length + 8 * first_count size ≤ size
table_fits size is = omega arith

module _ (h : Holding) (sound : IsSound h) (directory : is_directory_in h ≡ true) (linear : is_hashed_in h ≡ false) where
  was : IsLinear h
  was = sound.inode.linear directory linear

  tree_h : IsTreeSound h
  tree_h = tree_of h sound.inode

  pub own_long : length (bytes_at h h.own) ≡ h.size
  own_long = sound.inode.whole h.own Itself sound.placed.own

  no_flag : has_hash_flag (dinode_in h) ≡ false
  no_flag = right (is_directory_in h) (has_hash_flag (dinode_in h)) directory linear
    where
      right : (a b : Bool) → a ≡ true → (a && b) ≡ false → b ≡ false
      right true b is both = both
      right false b is both = cc

  -- its block can be converted, as long as a block may be taken
  pub can_convert : (b : ℕ) → IsFree h b → h.count < 2 ^ 64 → CanConvert (bytes_at h h.own)
  can_convert b free few = record {
    size = subst IsBlockSize (sym own_long) sound.block_size;
    read = own_read h sound.block_size tree_h sound.placed;
    linear = subst (λ d. has_hash_flag d ≡ false) (dinode_own h sound.block_size tree_h sound.placed) no_flag;
    area = was.area.fills;
    blocks = subst (λ (d : Dinode). d.blocks + 1 < 2 ^ 64) (dinode_own h sound.block_size tree_h sound.placed)
        (omega (arith, tree_h.blocks, counts_more h b Itself [] free.new free.inside, few_blocks (with_block h b Itself []), few));
  }

  module _ (b : ℕ) (table new : List ℕ) (free : IsFree h b) (are : AreConverted (bytes_at h h.own) table new b) where
    abbrev one : Holding
    one = with_block h b (InChain 0 0) new

    abbrev pub after : Holding
    after = with_block (with_block h b (InChain 0 0) new) h.own Itself table

    own_apart : h.own ≢ b
    own_apart = free_apart h b h.own free.new (cell_some (h.cell h.own) Itself sound.placed.own)

    b_apart : b ≢ h.own
    b_apart e = own_apart (sym e)

    table_at : bytes_at after h.own ≡ table
    table_at = bytes_here one h.own Itself table

    new_at : bytes_at after b ≡ new
    new_at = bytes_apart one h.own Itself table b b_apart ∙ bytes_here h b (InChain 0 0) new

    new_part : part_at after b ≡ Some (InChain 0 0)
    new_part = part_apart one h.own Itself table b b_apart ∙ part_here h b (InChain 0 0) new

    parts : (x : ℕ) → x ≢ b → part_at after x ≡ part_at h x
    parts x other = elim (cases_eq x h.own) [
      | inl here ↦ ap (part_at after) here ∙ part_here one h.own Itself table ∙ sym sound.placed.own ∙ ap (part_at h) (sym here)
      | inr apart ↦ part_apart one h.own Itself table x apart ∙ part_apart h b (InChain 0 0) new x other
    ]

    -- ---- the dinode

    abbrev said : Dinode
    said = hashed_dinode (dinode_of (bytes_at h h.own)) (length (bytes_at h h.own)) are.depth

    read : (header_fault dinode_length 4 400 table ≡ None) × (dinode_of table ≡ said)
    read = answer_ok (header_fault dinode_length 4 400 table) (dinode_of table) said are.written.read

    dinode_after : dinode_in after ≡ hashed_dinode (dinode_in h) h.size are.depth
    unfolding dinode_in
    dinode_after = ap dinode_of table_at ∙ read.1 ∙ ap (λ n. hashed_dinode (dinode_of (bytes_at h h.own)) n are.depth) own_long

    height_after : height_in after ≡ 0
    height_after = ap (λ (d : Dinode). d.height) dinode_after ∙ was.stuffed

    size_after : (dinode_in after).size ≡ 8 * first_count h.size
    size_after = ap (λ (d : Dinode). d.size) dinode_after

    hashed_after : is_hashed_in after ≡ true
    hashed_after = ap (λ (d : Dinode). is_directory d && has_hash_flag d) dinode_after ∙ ap₂ (λ x y. x && y) directory (hash_flag (dinode_in h).flags no_flag)

    -- ---- the table

    pointer_after : (i : ℕ) → i < first_count h.size → entry after i ≡ b
    unfolding content_of
    pointer_after i low =
        let fits = table_fits h.size sound.block_size in
        let rest = drop dinode_length (bytes_at after after.own) in
        let long : length rest ≡ h.size - dinode_length = length-drop dinode_length (bytes_at after after.own) ∙ ap (λ n. n - dinode_length) (ap length table_at ∙ are.written.long ∙ own_long) in
        let front : length (take (dinode_in after).size rest) ≡ (dinode_in after).size = length-take-le (dinode_in after).size rest (omega (arith, long, size_after, fits)) in
        let content : content_of after ≡ take (dinode_in after).size rest = ap (take (dinode_in after).size) (cond-true (height_in after == 0) rest (flat_map (λ j. carried after (content_block after j)) (range_with_len 0 (content_count after))) (ap (λ n. n == 0) height_after)) in
        ap (u64_at (8 * i)) content
        ∙ sym (numbers_in_front (take (dinode_in after).size rest) (drop (dinode_in after).size rest) (8 * i) (omega (arith, front, size_after, low)))
        ∙ ap (u64_at (8 * i)) (take-append-drop (dinode_in after).size rest)
        ∙ sym (number_behind (bytes_at after after.own) dinode_length (8 * i))
        ∙ ap (u64_at (dinode_length + 8 * i)) table_at
        ∙ are.written.pointers i (subst (λ n. i < first_count n) (sym own_long) low)

    -- ---- the inode

    whole_after : IsWhole after
    whole_after = whole_with one h.own Itself table (whole_with h b (InChain 0 0) new (whole_of h tree_h sound.placed) (are.first.long ∙ (let z : ℕ = 0 in length-replicate (length (bytes_at h h.own)) z) ∙ own_long) free.some free.inside (λ e. absurd (b_apart e)))
        (are.written.long ∙ own_long) own_some (sound.placed.inside h.own (cell_some (h.cell h.own) Itself sound.placed.own)) (λ e. header_from dinode_length 4 400 table read.0)
      where
        own_some : h.own ≢ 0
        own_some e = no (sym sound.placed.nobody ∙ ap (part_at h) (sym e) ∙ sound.placed.own)
          where
            no : ◌≡◌ {A = Option Part} None (Some Itself) → ⊥
            no is = cc

    no_pointed : (x from k level first : ℕ) → part_at after x ≡ Some (Pointed from k level first) → ⊥
    no_pointed x from k level first at = elim (cases_eq x b) [
      | inl here ↦ no (sym new_part ∙ ap (part_at after) (sym here) ∙ at)
      | inr other ↦ absurd (omega (arith, tree_h.tree.below x from k level first (sym (parts x other) ∙ at), was.stuffed))
    ]
      where
        no : Some (InChain 0 0) ≡ Some (Pointed from k level first) → ⊥
        no is = cc

    tree_after : HasTree after
    tree_after = record {
      top = λ level high. absurd (omega (arith, high, height_after));
      inner = λ x from k level first at. absurd (no_pointed x from k (suc level) first at);
      pointed = λ x from k level first at. absurd (no_pointed x from k level first at);
      below = λ x from k level first at. absurd (no_pointed x from k level first at);
      indirect = λ x from k level first at. absurd (no_pointed x from k (suc level) first at);
      table = λ x from k first is at. absurd (no_pointed x from k 0 first at);
    }

    fits_after : Fits after
    fits_after = record {
      low = omega (arith, height_after);
      stuffed = λ none. omega (arith, size_after, table_fits h.size sound.block_size);
      under = λ level high. absurd (omega (arith, high, height_after));
    }

    blocks_after : (dinode_in after).blocks ≡ block_count after
    blocks_after =
        let more = counts_more h b (InChain 0 0) new free.new free.inside in
        let same = counts_same one h.own Itself table (some_still h b (InChain 0 0) new h.own (cell_some (h.cell h.own) Itself sound.placed.own)) in
        omega (arith, ap (λ (d : Dinode). d.blocks) dinode_after, tree_h.blocks, more, same)

    sound_after : IsTreeSound after
    sound_after = record {
      whole = whole_after.whole;
      header = whole_after.header;
      address = ap (λ (d : Dinode). d.num.address) dinode_after ∙ tree_h.address;
      number = λ none. tree_h.number (ap (λ (d : Dinode). d.num.number) (sym dinode_after) ∙ none);
      fits = fits_after;
      tree = tree_after;
      blocks = blocks_after;
    }

    placed_after : IsPlaced after
    placed_after = record {
      own = part_here one h.own Itself table;
      only = λ x at. elim (cases_eq x b) [
        | inl here ↦ absurd (no (sym new_part ∙ ap (part_at after) (sym here) ∙ at))
        | inr other ↦ sound.placed.only x (sym (parts x other) ∙ at)
      ];
      nobody = whole_after.nobody;
      inside = whole_after.inside;
    }
      where
        no : Some (InChain 0 0) ≡ Some Itself → ⊥
        no is = cc

    count_after : table_count after ≡ first_count h.size
    count_after = ap (λ (d : Dinode). 2 ^ d.depth) dinode_after ∙ are.deep ∙ ap first_count own_long

    abbrev head : Leaf
    head = record { depth = 0; entries = length (in_use (slots_of (linear_area h))); next = 0 }

    leaf_put : IsLeafPut after b (blank h) head (packed (h.size - leaf_length) (in_use (slots_of (linear_area h))))
    leaf_put = subst (λ n. IsLeafPut after b (blank h) head (packed (n - leaf_length) (in_use (slots_of (linear_area h))))) (let z : ℕ = 0 in length-replicate h.size z)
        (subst (λ n. IsLeafPut after b (replicate n 0) head (packed (length (replicate {A = ℕ} n 0) - leaf_length) (in_use (slots_of (linear_area h))))) own_long
        (leaf_put_of after b (replicate (length (bytes_at h h.own)) 0) new head (packed (length (replicate {A = ℕ} (length (bytes_at h h.own)) 0) - leaf_length) (in_use (slots_of (linear_area h)))) new_at are.first))

    pub converted : IsConverted h after b
    converted = record {
      same = record { size = refl; count = refl; own = refl; tree = sound_after; placed = placed_after };
      new = free.new;
      new_part = new_part;
      parts = parts;
      leaf = leaf_put;
      bytes = subst (All (λ byte. byte < 256)) (sym new_at) are.bytes;
      hashed = hashed_after;
      count = count_after;
      entries = λ i low. pointer_after i (subst (λ n. i < n) count_after low);
      dinode = dinode_after ∙ ap (λ n. hashed_dinode (dinode_in h) h.size n) (sym (ap (λ (d : Dinode). d.depth) dinode_after));
      pads = subst (KeepsPads (bytes_at h h.own)) (sym table_at) are.written.pads;
      clear = ap₂ (λ n xs. drop (dinode_length + 8 * first_count n) xs) (sym own_long) table_at ∙ are.written.clear ∙ ap (λ n. replicate (n - (dinode_length + 8 * first_count n)) 0) own_long;
    }

    -- ---- in a draft

    abbrev pub fates_after : FinMap nat_cmp Fate → FinMap nat_cmp Fate
    fates_after fates = insert (insert fates b (Put (inode_lock h.own) false new)) h.own (Put (inode_lock h.own) false table)

    pub puts : (v : Seen) (fates : FinMap nat_cmp Fate) → Puts v fates (fates_after fates) h after
    puts v fates = puts_then v fates (insert fates b (Put (inode_lock h.own) false new)) (fates_after fates) h one after
        (one_put v fates h b (InChain 0 0) new) (one_put v (insert fates b (Put (inode_lock h.own) false new)) one h.own Itself table)

    pub has_taken : HasTaken h after (b ∷ [])
    has_taken = record { count = refl; blocks = λ y. (before y, behind y) }
      where
        before : (y : ℕ) → IsSome (after.cell y) → IsSome (h.cell y) ⊎ Contains (b ∷ []) y
        before y some = elim (some_before one h.own Itself table y some) [
          | inl own ↦ inl (subst (λ z. IsSome (h.cell z)) (sym own) (cell_some (h.cell h.own) Itself sound.placed.own))
          | inr in_one ↦ elim (some_before h b (InChain 0 0) new y in_one) [
            | inl taken ↦ inr (subst (Contains (b ∷ [])) (sym taken) (0, omega arith, refl))
            | inr had ↦ inl had
          ]
        ]

        behind : (y : ℕ) → IsSome (h.cell y) ⊎ Contains (b ∷ []) y → IsSome (after.cell y)
        behind y (inl had) = some_still one h.own Itself table y (some_still h b (InChain 0 0) new y had)
        behind y (inr taken) = subst (λ z. IsSome (after.cell z)) (one_of taken) (some_still one h.own Itself table b (some_here h b (InChain 0 0) new))
          where
            one_of : Contains (b ∷ []) y → b ≡ y
            one_of (zero, low, is) = is
            one_of (suc n, low, is) = absurd (omega (arith, low))

    abbrev draft_after : {V : Type 0} → Drafted V → ℕ → Drafted V
    draft_after old a = record old { fates = insert (insert old.fates b (Put (inode_lock a) false new)) a (Put (inode_lock a) false table) }

    -- the draft has both blocks
    pub sees_after : (v : Seen) (fates : FinMap nat_cmp Fate) → HasBlock (seen_with v (fates_after fates)) h.own × HasBlock (seen_with v (fates_after fates)) b
    sees_after v fates = (
      (table, ap (λ fate. block_with fate (v.block_at h.own)) (fate_here (insert fates b (Put (inode_lock h.own) false new)) h.own (Put (inode_lock h.own) false table))),
      (new, ap (λ fate. block_with fate (v.block_at b)) (fate_apart (insert fates b (Put (inode_lock h.own) false new)) h.own (Put (inode_lock h.own) false table) b b_apart ∙ fate_here fates b (Put (inode_lock h.own) false new))),
    )

    pub converts : {V : Type 0} (seen : V → Seen) (old now : Drafted V) (dir : ℕ) (room left : List ℕ) → inode.IsShown (seen_in seen old) dir h → now ≡ draft_after old dir → room ≡ b ∷ left → SoundAreShown → ConversionsStay
        → (g : Holding) × IsShown (seen_in seen now) dir g × ((is : Converts old.fates now.fates room left h g) × HasBlock (seen_in seen now) h.own × HasBlock (seen_in seen now) is.block)
    converts {V} seen old now dir room left shown put front law stay =
        let stays = stay h after b sound directory linear converted in
        subst (λ (d : Drafted V). (g : Holding) × IsShown (seen_in seen d) dir g × ((is : Converts old.fates d.fates room left h g) × HasBlock (seen_in seen d) h.own × HasBlock (seen_in seen d) is.block)) (ap (draft_after old) shown.own ∙ sym put) (
          after,
          shown_of law (seen_in seen (draft_after old h.own)) after dir stays.sound stays.hashed shown.own shown.size ((puts (seen old.view) old.fates).seen shown.same),
          (
            record {
              block = b;
              takes = record { front = front; has = has_taken; drafted = (puts (seen old.view) old.fates).drafted; changes = two_put old.fates (fates_after old.fates) b h.own (Put (inode_lock h.own) false new) (Put (inode_lock h.own) false table) refl };
              converted = converted;
              stays = stays;
            },
            (sees_after (seen old.view) old.fates).0,
            (sees_after (seen old.view) old.fates).1,
          ),
        )
