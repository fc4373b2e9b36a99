-- A record is put into a leaf of its name's chain.
use Rattle.std.proofs.Common.{◌≡◌, ◌≢◌, ℕ, suc, ◌+◌, ◌^◌, ◌<◌, ◌≤◌, inl, inr, Bool, true, false, List, [], ◌∷◌, length, drop, None, Some, refl, sym, ap, ap₂, ◌∙◌, subst, subst₂, cond, arith}
use Rattle.std.specs.Prelude.{◌&&◌, count_by, filter, find, flat_map, if◌then◌else◌}
use Rattle.std.specs.List.{range_with_len}
use Rattle.std.specs.Str.{bytes_eq}
use Rattle.std.proofs.lemmas.Bool.{cases_Bool, cases_eq, true≢false}
use Rattle.std.proofs.lemmas.List.Sorted.{IsPermutation-sym, Contains-permutation, length_permutation}
use Rattle.std.proofs.lemmas.List.Sums.{sum_by-cons}
use Rattle.std.proofs.lemmas.Slice.Eq.{bytes_eq-Decides}
use Rattle.crc_words.specs.Remainder.{crc32_of}
use Rattle.gfs2_layout.specs.Area.{IsArea, slots_of}
use Rattle.gfs2_layout.specs.Exchanges.{IsExchanged}
use Rattle.gfs2_layout.specs.Headers.{HasHeader}
use Rattle.gfs2_layout.specs.Holding.{Holding, InChain, part_at, bytes_at}
use Rattle.gfs2_layout.specs.Inode.{IsHashed, IsLeaf, depth_in, dinode_in, first_hash, has_hash_flag, is_hashed_in, is_leaf_part, leaf_area, leaf_in, leaf_length, leaves_of, records_of, top_bits}
use Rattle.gfs2_layout.specs.Putting.{IsEntryOf, put_slot}
use Rattle.gfs2_layout.specs.Records.{IsRecordArea, Record, record_named, records_in, said_by}
use Rattle.gfs2_layout.specs.Structures.{is_directory, leaf_of}
use Rattle.gfs2_layout.specs.declared.dinode.Dinode.{Dinode}
use Rattle.gfs2_layout.specs.declared.dirent.Dirent.{Dirent}
use Rattle.gfs2_layout.specs.declared.leaf.Leaf.{Leaf}
use Rattle.glock_names.specs.declared.steps.Entry.{Entry}
use Rattle.growth_laws.specs.Files.{with_cells}
use Rattle.image_model.proofs.Members.{contained, is_in}
use Rattle.linear_dirs.specs.Shown.{head_for, record_for}
use Rattle.linear_dirs.proofs.Exchanged.{entry_for}
use Rattle.hash_dirs.specs.Shown.{IsSound, index_for}
use Rattle.hash_dirs.proofs.Anew.{KeepsTree}
use Rattle.hash_dirs.proofs.Chained.{in_chain, inside, rules, same_hash}
use Rattle.hash_dirs.proofs.Named.{records_are}
use Rattle.hash_dirs.proofs.Regrouped.{regrouped}
use Rattle.hash_dirs.proofs.Still.{KeepsLeaves, has_after}
use Rattle.hash_steps.specs.Laws.{GetsRecord}
use Rattle.hash_steps.specs.Steps.{IsPutInLeaf}
use Rattle.hash_steps.proofs.Leaves.{as_cells, as_deep, bits_of_name, chain_low, itself_or_chained, itself_or_pointed, leaf_kept, leaf_is, pointed_or_chained}
use Rattle.hash_steps.proofs.Records.{told_at}
use Rattle.hash_steps.proofs.Sound.{count_moved, inode_of, large_of, sound_of}

-- an area into which a record was put, as `gfs2_layout` has it
abbrev pub PutsExchange : Type 0
PutsExchange = (old new : List ℕ) (head : Dirent) (name : List ℕ) → IsRecordArea old → IsEntryOf head name → put_slot head name (slots_of old) ≡ Some (slots_of new) → IsArea new
    → IsRecordArea new × IsExchanged (records_in old) (records_in new) [] (said_by head name ∷ [])

abbrev one_or_none : Bool → ℕ
one_or_none b = cond b 1 0

-- where nothing passes a test, nothing is counted
pub none_counted : {X : Type 0} (test : X → Bool) (xs : List X) → find test xs ≡ None → count_by test xs ≡ 0
none_counted test [] e = refl
none_counted test (x ∷ xs) e = by (test x) refl (none_counted test xs) e
  where
    by : (b : Bool) → test x ≡ b → (find test xs ≡ None → count_by test xs ≡ 0) → (if b then Some x else find test xs) ≡ None → count_by test (x ∷ xs) ≡ 0
    by true is later e = absurd (no e)
      where
        no : Some x ≡ None → ⊥
        no e = cc
    by false is later e = sum_by-cons (λ y. cond (test y) 1 0) x xs ∙ ap₂ (λ b n. cond b 1 0 + n) is (later e)

module _ (h g : Holding) (name : List ℕ) (e : Entry) (sound : IsSound h) (hashed : is_hashed_in h ≡ true) (some : 1 ≤ length name) (short : length name ≤ 255) (number : e.number ≢ 0) (address : e.addr ≢ 0)
    (fresh : record_named (records_of h) name ≡ None) (put : IsPutInLeaf h g name e) (law : PutsExchange) where
  -- the pointer of the name, and the first hash of its leaves
  abbrev i : ℕ
  i = index_for h name

  abbrev begin : ℕ
  begin = first_hash h (index_for h name)

  abbrev new : Record
  new = record_for name e

  low : i < 2 ^ depth_in h
  low = chain_low h i put.at_place put.leaf put.chain

  part_x : part_at h put.leaf ≡ Some (InChain begin put.at_place)
  part_x = in_chain h sound hashed i put.at_place put.leaf put.chain

  same_cells : with_cells h g.cell ≡ g
  same_cells = as_cells h g put.same.size put.same.count put.same.own

  dinode_same : dinode_in (with_cells h g.cell) ≡ dinode_in g
  dinode_same = ap dinode_in same_cells

  abbrev untimed : Dinode → Dinode
  untimed d = record d { atime = 0; mtime = 0; ctime = 0; entries = 0; nlink = 0 }

  keeps : KeepsTree h g.cell
  keeps = record {
    parts = put.parts;
    dinode = ap untimed dinode_same ∙ ap untimed put.dinode;
    behind = put.behind;
    pointed = λ b from k level first at. put.others b
        (λ is. itself_or_pointed from k level first (sym sound.placed.own ∙ ap (part_at h) (sym is) ∙ at))
        (λ is. pointed_or_chained from k level first begin put.at_place (sym at ∙ ap (part_at h) is ∙ part_x));
  }

  deep_same : depth_in (with_cells h g.cell) ≡ depth_in h
  deep_same = ap (λ (d : Dinode). d.depth) keeps.dinode

  table_same : depth_in g ≡ depth_in h
  table_same = ap (λ (d : Dinode). d.depth) put.dinode

  -- ---- the leaf

  depth_same : (leaf_in g put.leaf).depth ≡ (leaf_in h put.leaf).depth
  depth_same = ap (λ (l : Leaf). l.depth) put.is.head_is

  exchange : IsLeaf h begin put.leaf → IsRecordArea (leaf_area g put.leaf) × IsExchanged (told_at h put.leaf) (told_at g put.leaf) [] (new ∷ [])
  exchange leaf = law (leaf_area h put.leaf) (leaf_area g put.leaf) (head_for name e) name leaf.area (entry_for name e some short number address) (put.put ∙ ap Some (sym put.is.slots_are)) put.is.filled

  was_leaf : IsLeaf h begin put.leaf
  was_leaf = (rules h sound hashed).leaves put.leaf begin put.at_place part_x

  is_leaf : IsLeaf g begin put.leaf
  is_leaf =
      let both = exchange was_leaf in
      let before = both.1.before in
      let after = both.1.after in
      let many : length both.1.rest ≡ length (told_at h put.leaf) = length_permutation (told_at h put.leaf) both.1.rest before in
      let more : suc (length both.1.rest) ≡ length (told_at g put.leaf) = length_permutation (told_at g put.leaf) (new ∷ both.1.rest) after in
      leaf_is g put.leaf _ _ _ put.is begin (omega (arith, was_leaf.depth, table_same)) both.0
      (one_more (leaf_in h put.leaf).entries (length (told_at h put.leaf)) (length both.1.rest) (length (told_at g put.leaf)) was_leaf.entries many more)
      (λ q there. elim (is_in q (new ∷ both.1.rest) (Contains-permutation (told_at g put.leaf) (new ∷ both.1.rest) q after there)) [
        | inl same ↦ ap (λ (p : Record). top_bits (leaf_in h put.leaf).depth (crc32_of p.name)) same
            ∙ subst (λ n. top_bits n (crc32_of name) ≡ top_bits n begin) (sym (as_deep h sound hashed i put.at_place put.leaf put.chain)) (bits_of_name h sound hashed name low)
        | inr other ↦ was_leaf.hashes q (Contains-permutation both.1.rest (told_at h put.leaf) q (IsPermutation-sym (told_at h put.leaf) both.1.rest before) (contained q both.1.rest other))
      ])
    where
      one_more : (a b c d : ℕ) → a ≡ b → c ≡ b → suc c ≡ d → a + 1 ≡ d
      one_more a b c d e f k = omega arith

  leaf_bytes : (y hash at : ℕ) → part_at h y ≡ Some (InChain hash at) → y ≢ put.leaf → bytes_at g y ≡ bytes_at h y
  leaf_bytes y hash at part other = put.others y (λ is. itself_or_chained hash at (sym sound.placed.own ∙ ap (part_at h) (sym is) ∙ part)) other

  keeps_leaves : KeepsLeaves h g.cell
  keeps_leaves = record {
    header = subst (λ b. HasHeader 4 400 (bytes_at g b)) put.same.own put.same.tree.header;
    whole = λ b p at. put.same.tree.whole b p (put.parts b ∙ at) ∙ put.same.size;
    depths = λ y hash at part. elim (cases_eq y put.leaf) [
      | inl here ↦ ap (λ z. (leaf_in g z).depth) here ∙ depth_same ∙ ap (λ z. (leaf_in h z).depth) (sym here)
      | inr other ↦ ap (λ b. (leaf_of b).depth) (leaf_bytes y hash at part other)
    ];
    nexts = λ y hash at part. elim (cases_eq y put.leaf) [
      | inl here ↦ ap (λ z. (leaf_in g z).next) here ∙ ap (λ (l : Leaf). l.next) put.is.head_is ∙ ap (λ z. (leaf_in h z).next) (sym here)
      | inr other ↦ ap (λ b. (leaf_of b).next) (leaf_bytes y hash at part other)
    ];
    leaves = λ y hash at part leaf. elim (cases_eq y put.leaf) [
      | inl here ↦
          let one : hash ≡ begin = (same_hash hash begin at put.at_place (sym part ∙ ap (part_at h) here ∙ part_x)).0 in
          subst₂ (IsLeaf (with_cells h g.cell)) (sym one) (sym here) (subst (λ k. IsLeaf k begin put.leaf) (sym same_cells) is_leaf)
      | inr other ↦ leaf_kept h (with_cells h g.cell) hash y (leaf_bytes y hash at part other) (omega (arith, deep_same)) leaf
    ];
  }

  has : IsHashed g
  has = subst IsHashed same_cells (has_after h g.cell keeps keeps_leaves sound.inode (large_of h.size sound.block_size) (rules h sound hashed))

  still_hashed : is_hashed_in g ≡ true
  still_hashed = ap (λ (d : Dinode). is_directory d && has_hash_flag d) put.dinode ∙ hashed

  -- ---- the records

  leaves_same : leaves_of g ≡ leaves_of h
  leaves_same = λ t. filter (λ y. is_leaf_part (put.parts y t)) (range_with_len 0 (put.same.count t))

  exchanged : IsExchanged (records_of h) (records_of g) [] (new ∷ [])
  exchanged =
      subst₂ (λ a b. IsExchanged a b [] (new ∷ [])) (sym (records_are h hashed)) (ap (flat_map (told_at g)) (sym leaves_same) ∙ sym (records_are g still_hashed))
      (regrouped (told_at h) (told_at g) (λ y. is_leaf_part (part_at h y)) put.leaf (ap is_leaf_part part_x) [] (new ∷ []) (exchange was_leaf).1
      (λ y other is_leaf. ap (λ b. records_in (drop leaf_length b)) (put.others y (λ is. true≢false (sym is_leaf ∙ ap (λ z. is_leaf_part (part_at h z)) is ∙ ap is_leaf_part sound.placed.own)) other))
      0 h.count (omega arith) (let under : put.leaf < h.count = inside h sound hashed put.leaf begin put.at_place part_x in omega (arith, under)))

  once : (other : List ℕ) → count_by (λ q. bytes_eq other q.name) (records_of g) ≤ 1
  once other =
      let test : Record → Bool = λ q. bytes_eq other q.name in
      let rest : count_by test exchanged.rest ≡ count_by test (records_of h) = count_moved test (records_of h) exchanged.rest exchanged.before in
      let all : count_by test (new ∷ exchanged.rest) ≡ count_by test (records_of g) = count_moved test (records_of g) (new ∷ exchanged.rest) exchanged.after in
      let split : count_by test (new ∷ exchanged.rest) ≡ one_or_none (bytes_eq other name) + count_by test exchanged.rest = sum_by-cons (λ q. cond (test q) 1 0) new exchanged.rest in
      let was : count_by test (records_of h) ≤ 1 = sound.once other in
      elim (cases_Bool (bytes_eq other name)) [
        | inl same ↦
            let none : count_by test (records_of h) ≡ 0 = subst (λ n. count_by (λ q. bytes_eq n q.name) (records_of h) ≡ 0) (sym ((bytes_eq-Decides other name).0 same)) (none_counted (λ q. bytes_eq name q.name) (records_of h) fresh) in
            let one : one_or_none (bytes_eq other name) ≡ 1 = ap one_or_none same in
            omega (arith, rest, all, split, none, one)
        | inr differs ↦
            let none : one_or_none (bytes_eq other name) ≡ 0 = ap one_or_none differs in
            omega (arith, rest, all, split, was, none)
      ]

  pub gets_record : GetsRecord h g new
  gets_record = record {
    sound = sound_of h g sound put.same.size put.same.tree put.same.placed still_hashed has once;
    hashed = still_hashed;
    records = record {
      sound = λ _. inode_of g put.same.tree still_hashed has;
      head = ap (λ (d : Dinode). record { number = d.num.number; is_dir = is_directory d }) put.dinode;
      records = exchanged;
      counted = put.counted;
    };
  }
