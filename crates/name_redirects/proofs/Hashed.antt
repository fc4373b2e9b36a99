-- A hashed directory in one of whose leaves a name's record was led elsewhere.
use Rattle.std.proofs.Common.{◌≡◌, ◌≢◌, ℕ, ◌<◌, ◌≤◌, inl, inr, true, false, List, [], ◌∷◌, ◌++◌, length, take, drop, Option, None, Some, refl, sym, ap, ◌∙◌, subst, subst₂, arith}
use Rattle.std.specs.Prelude.{Contains, IsSome, filter, flat_map, option_map}
use Rattle.std.specs.FinMap.{insert}
use Rattle.std.specs.List.{range_with_len}
use Rattle.std.proofs.lemmas.Bool.{cases_eq}
use Rattle.std.proofs.lemmas.List.Elements.{Contains-append_cases, Contains-append_left, Contains-append_right, Contains-push, Contains-push_cases}
use Rattle.std.proofs.lemmas.List.Sorted.{Contains-permutation, IsPermutation-sym, length_permutation}
use Rattle.crc_words.specs.Remainder.{crc32_of}
use Rattle.drafts.specs.Fates.{Drafted, seen_in}
use Rattle.drafts.specs.declared.fate.Fate.TheVariants.{Put}
use Rattle.gfs2_layout.specs.Bytes.{u32_at}
use Rattle.gfs2_layout.specs.Device.{IsBlockSize}
use Rattle.gfs2_layout.specs.Exchanges.{IsExchanged}
use Rattle.gfs2_layout.specs.Headers.{HasHeader}
use Rattle.gfs2_layout.specs.Holding.{Holding, Cell, Part, Itself, Pointed, InChain, part_at, bytes_at, cell_bytes}
use Rattle.gfs2_layout.specs.Inode.{IsInode, IsLeaf, depth_in, dinode_in, first_hash, has_hash_flag, is_directory_in, is_hashed_in, is_leaf_part, leaf_area, leaf_in, leaf_length, leaves_of, records_of, top_bits}
use Rattle.gfs2_layout.specs.Records.{IsRecordArea, Record, record_of, records_in}
use Rattle.gfs2_layout.specs.Structures.{dinode_length, dinode_of, leaf_of}
use Rattle.gfs2_layout.specs.declared.dinode.Dinode.{Dinode}
use Rattle.gfs2_layout.specs.declared.inum.Inum.{Inum}
use Rattle.gfs2_layout.specs.declared.leaf.Leaf.{Leaf}
use Rattle.image_model.proofs.Rows.{and_left}
use Rattle.glock_names.specs.Views.{Seen}
use Rattle.dinode_tree.specs.Reading.{inode_lock}
use Rattle.linear_dirs.specs.Exchanges.{HasExchanged}
use Rattle.linear_dirs.specs.Shown.{bytes_over, holding_over}
use Rattle.linear_dirs.proofs.Rewritten.{over_part, over_put, seen_at}
use Rattle.hash_dirs.specs.Shown.{IsInChain, IsShown, IsSound, index_for}
use Rattle.hash_dirs.proofs.Anew.{KeepsTree}
use Rattle.hash_dirs.proofs.Chained.{cell_some, in_chain}
use Rattle.hash_dirs.proofs.Cuts.{seen_apart}
use Rattle.hash_dirs.proofs.Named.{records_are}
use Rattle.hash_dirs.proofs.Regrouped.{regrouped}
use Rattle.hash_dirs.proofs.Still.{KeepsLeaves, hashed_same, head_same, sound_after}
use Rattle.name_redirects.specs.Leading.{record_led_to}
use Rattle.name_redirects.specs.Redirects.{IsNameLed}
use Rattle.name_redirects.proofs.Blocks.{area_again, counted_still, exchanged as block_exchanged, header_front, leaf_front, same_front, same_length, slot, word_front}

over_same : (o : Option (List ℕ)) (c : Option Cell) → ((bytes : List ℕ) → IsSome c → o ≡ Some bytes → cell_bytes c ≡ bytes) → cell_bytes (option_map (bytes_over o) c) ≡ cell_bytes c
over_same o None same = refl
over_same None (Some c) same = refl
over_same (Some bytes) (Some c) same = sym (same bytes refl refl)

not_itself : (hash place : ℕ) → Some Itself ≡ Some (InChain hash place) → ⊥
not_itself hash place e = cc

pointed_or_chained : (hash place b k level first : ℕ) → Some (InChain hash place) ≡ Some (Pointed b k level first) → ⊥
pointed_or_chained hash place b k level first e = cc

-- a leaf with these bytes, of a directory as deep, that has the same records but for one that says another inode
leaf_stays : (h g : Holding) (hash x : ℕ) → bytes_at g x ≡ bytes_at h x → depth_in g ≡ depth_in h → IsLeaf h hash x → IsLeaf g hash x
leaf_stays h g hash x same deep leaf = record {
  header = subst (HasHeader 6 600) (sym same) leaf.header;
  records_format = ap (u32_at 28) same ∙ leaf.records_format;
  depth = omega (arith, leaf.depth, ap (λ b. (leaf_of b).depth) same, deep);
  area = subst (λ b. IsRecordArea (drop leaf_length b)) (sym same) leaf.area;
  entries = ap (λ b. (leaf_of b).entries) same ∙ leaf.entries ∙ sym (ap (λ b. length (records_in (drop leaf_length b))) same);
  hashes = subst (λ b. (r : Record) → Contains (records_in (drop leaf_length b)) r → top_bits (leaf_of b).depth (crc32_of r.name) ≡ top_bits (leaf_of b).depth hash) (sym same) leaf.hashes;
}

module _ {V : Type 0} (seen : V → Seen) (before after : Drafted V) (dir : ℕ) (h : Holding) (x : ℕ) (old new name : List ℕ) (inum : Inum) (shown : IsShown (seen_in seen before) dir h) (sound : IsSound h)
    (at_place : ℕ) (chain : IsInChain h (index_for h name) at_place x) (there : (seen_in seen before).block_at x ≡ Some old) (large : leaf_length ≤ length old) (led : IsNameLed leaf_length old new name inum)
    (put : after ≡ record before { fates = insert before.fates x (Put (inode_lock dir) false new) }) (some : inum.number ≢ 0) (some' : inum.address ≢ 0) where
  abbrev w : Seen
  w = seen_in seen after

  abbrev anew : Holding
  anew = holding_over w h

  part_x : part_at h x ≡ Some (InChain (first_hash h (index_for h name)) at_place)
  part_x = in_chain h sound shown.hashed (index_for h name) at_place x chain

  not_own : x ≢ h.own
  not_own e = not_itself (first_hash h (index_for h name)) at_place (sym sound.placed.own ∙ ap (part_at h) (sym e) ∙ part_x)

  some_x : IsSome (h.cell x)
  some_x = cell_some (h.cell x) (InChain (first_hash h (index_for h name)) at_place) part_x

  bytes_x : bytes_at h x ≡ old
  bytes_x = shown.inode.same x old some_x there

  -- ---- what the draft sees

  sees_x : w.block_at x ≡ Some new
  sees_x = ap (λ (m : Drafted V). (seen_in seen m).block_at x) put ∙ seen_at (seen before.view) before.fates x (inode_lock dir) new

  sees_other : (b : ℕ) → b ≢ x → w.block_at b ≡ (seen_in seen before).block_at b
  sees_other b other = ap (λ (m : Drafted V). (seen_in seen m).block_at b) put ∙ seen_apart (seen before.view) before.fates x b (inode_lock dir) new other

  parts : (b : ℕ) → part_at anew b ≡ part_at h b
  parts b = over_part (w.block_at b) (h.cell b)

  after_x : bytes_at anew x ≡ new
  after_x = over_put (w.block_at x) (h.cell x) new some_x sees_x

  after_other : (b : ℕ) → b ≢ x → bytes_at anew b ≡ bytes_at h b
  after_other b other = over_same (w.block_at b) (h.cell b) (λ bytes has at. shown.inode.same b bytes has (sym (sees_other b other) ∙ at))

  after_own : bytes_at anew h.own ≡ bytes_at h h.own
  after_own = after_other h.own (λ e. not_own (sym e))

  dinode_still : dinode_in anew ≡ dinode_in h
  unfolding dinode_in
  dinode_still = ap dinode_of after_own

  abbrev alike : Dinode → Dinode
  alike e = record e { entries = 0; nlink = 0; atime = 0; mtime = 0; ctime = 0 }

  keeps : KeepsTree h anew.cell
  keeps = record {
    parts = parts;
    dinode = ap alike dinode_still;
    behind = ap (drop dinode_length) after_own;
    pointed = λ b from k level first at. after_other b (λ e. pointed_or_chained (first_hash h (index_for h name)) at_place from k level first (sym part_x ∙ ap (part_at h) (sym e) ∙ at));
  }

  deep : depth_in anew ≡ depth_in h
  deep = ap (λ (e : Dinode). e.depth) dinode_still

  -- ---- the leaf

  front : take 104 new ≡ take 104 old
  front = same_front leaf_length old new name inum large led

  leaf_now : leaf_in anew x ≡ leaf_in h x
  leaf_now = ap leaf_of after_x ∙ leaf_front new old front ∙ ap leaf_of (sym bytes_x)

  abbrev moved : Record
  moved = record_of (slot leaf_length old new name inum large led)

  exchange : IsExchanged (records_in (drop leaf_length old)) (records_in (drop leaf_length new)) (moved ∷ []) (record_led_to inum moved ∷ [])
  exchange = block_exchanged leaf_length old new name inum large led some some'

  as_many : length (records_in (drop leaf_length new)) ≡ length (records_in (drop leaf_length old))
  as_many = sym (length_permutation (records_in (drop leaf_length new)) ((record_led_to inum moved ∷ []) ++ exchange.rest) exchange.after)
      ∙ length_permutation (records_in (drop leaf_length old)) ((moved ∷ []) ++ exchange.rest) exchange.before

  -- each record that is there afterwards has the name of one that was there
  name_was : (r : Record) → Contains (records_in (drop leaf_length new)) r → (q : Record) × (Contains (records_in (drop leaf_length old)) q × (r.name ≡ q.name))
  name_was r has = by (Contains-permutation (records_in (drop leaf_length new)) ((record_led_to inum moved ∷ []) ++ exchange.rest) r exchange.after has)
    where
      back : (q : Record) → Contains ((moved ∷ []) ++ exchange.rest) q → Contains (records_in (drop leaf_length old)) q
      back q = Contains-permutation ((moved ∷ []) ++ exchange.rest) (records_in (drop leaf_length old)) q (IsPermutation-sym (records_in (drop leaf_length old)) ((moved ∷ []) ++ exchange.rest) exchange.before)

      by : Contains ((record_led_to inum moved ∷ []) ++ exchange.rest) r → (q : Record) × (Contains (records_in (drop leaf_length old)) q × (r.name ≡ q.name))
      by has = elim (Contains-append_cases (record_led_to inum moved ∷ []) exchange.rest r has) [
        | inl one ↦ elim (Contains-push_cases [] (record_led_to inum moved) r one) [
          | inl none ↦ absurd (omega (arith, none.1))
          | inr same ↦ (moved, (back moved (Contains-append_left (moved ∷ []) exchange.rest moved (Contains-push [] moved)), ap (λ (q : Record). q.name) (sym same)))
        ]
        | inr later ↦ (r, (back r (Contains-append_right (moved ∷ []) exchange.rest r later), refl))
      ]

  led_leaf : (hash : ℕ) → IsLeaf h hash x → IsLeaf anew hash x
  led_leaf hash leaf =
      let area_was : IsRecordArea (drop leaf_length old) = subst (λ b. IsRecordArea (drop leaf_length b)) bytes_x leaf.area in
      let depth_now : (leaf_in anew x).depth ≡ (leaf_in h x).depth = ap (λ (l : Leaf). l.depth) leaf_now in
      record {
        header = subst (HasHeader 6 600) (sym after_x) (header_front 104 6 600 new old (omega arith) front (subst (HasHeader 6 600) bytes_x leaf.header));
        records_format = ap (u32_at 28) after_x ∙ word_front 104 28 new old (omega arith) front ∙ ap (u32_at 28) (sym bytes_x) ∙ leaf.records_format;
        depth = omega (arith, leaf.depth, depth_now, deep);
        area = subst (λ b. IsRecordArea (drop leaf_length b)) (sym after_x) (area_again leaf_length old new name inum large led some some' area_was);
        entries = ap (λ (l : Leaf). l.entries) leaf_now ∙ leaf.entries ∙ ap (λ b. length (records_in (drop leaf_length b))) bytes_x ∙ sym as_many ∙ sym (ap (λ b. length (records_in (drop leaf_length b))) after_x);
        hashes = λ r has.
            let q = name_was r (subst (λ b. Contains (records_in (drop leaf_length b)) r) after_x has) in
            subst (λ n. top_bits n (crc32_of r.name) ≡ top_bits n hash) (sym depth_now)
            (ap (λ n. top_bits (leaf_in h x).depth (crc32_of n)) q.1.1 ∙ leaf.hashes q.0 (subst (λ b. Contains (records_in (drop leaf_length b)) q.0) (sym bytes_x) q.1.0));
      }

  keeps_leaves : KeepsLeaves h anew.cell
  keeps_leaves = record {
    header = subst (HasHeader 4 400) (sym after_own) sound.inode.header;
    whole = λ b p at. elim (cases_eq b x) [
      | inl here ↦ ap (λ y. length (bytes_at anew y)) here ∙ ap length after_x ∙ same_length leaf_length old new name inum large led ∙ ap length (sym bytes_x) ∙ sound.inode.whole x (InChain (first_hash h (index_for h name)) at_place) part_x
      | inr other ↦ ap length (after_other b other) ∙ sound.inode.whole b p at
    ];
    depths = λ y hash at part. elim (cases_eq y x) [
      | inl here ↦ ap (λ z. (leaf_in anew z).depth) here ∙ ap (λ (l : Leaf). l.depth) leaf_now ∙ ap (λ z. (leaf_in h z).depth) (sym here)
      | inr other ↦ ap (λ b. (leaf_of b).depth) (after_other y other)
    ];
    nexts = λ y hash at part. elim (cases_eq y x) [
      | inl here ↦ ap (λ z. (leaf_in anew z).next) here ∙ ap (λ (l : Leaf). l.next) leaf_now ∙ ap (λ z. (leaf_in h z).next) (sym here)
      | inr other ↦ ap (λ b. (leaf_of b).next) (after_other y other)
    ];
    leaves = λ y hash at part leaf. elim (cases_eq y x) [
      | inl here ↦ subst (IsLeaf anew hash) (sym here) (led_leaf hash (subst (IsLeaf h hash) here leaf))
      | inr other ↦ leaf_stays h anew hash y (after_other y other) deep leaf
    ];
  }

  -- ---- the records

  hashed_after : is_hashed_in anew ≡ true
  hashed_after = hashed_same h anew.cell keeps keeps_leaves ∙ shown.hashed

  leaves_same : leaves_of anew ≡ leaves_of h
  leaves_same = ap (λ (all : ℕ → Option Part). filter (λ y. is_leaf_part (all y)) (range_with_len 0 h.count)) (λ t y. parts y t)

  records_exchanged : IsExchanged (records_of h) (records_of anew) (moved ∷ []) (record_led_to inum moved ∷ [])
  records_exchanged =
      let here : IsExchanged (records_in (leaf_area h x)) (records_in (leaf_area anew x)) (moved ∷ []) (record_led_to inum moved ∷ []) =
      subst₂ (λ a b. IsExchanged (records_in (drop leaf_length a)) (records_in (drop leaf_length b)) (moved ∷ []) (record_led_to inum moved ∷ [])) (sym bytes_x) (sym after_x) exchange in
      subst₂ (λ a b. IsExchanged a b (moved ∷ []) (record_led_to inum moved ∷ [])) (sym (records_are h shown.hashed)) (ap (flat_map (λ y. records_in (leaf_area anew y))) (sym leaves_same) ∙ sym (records_are anew hashed_after))
      (regrouped (λ y. records_in (leaf_area h y)) (λ y. records_in (leaf_area anew y)) (λ y. is_leaf_part (part_at h y)) x (ap is_leaf_part part_x) (moved ∷ []) (record_led_to inum moved ∷ []) here
      (λ y other is_leaf. ap (λ b. records_in (drop leaf_length b)) (after_other y other))
      0 h.count (omega arith) (let low : x < h.count = sound.placed.inside x some_x in omega (arith, low)))

  size_large : (n : ℕ) → IsBlockSize n → 512 ≤ n
  size_large n is = omega arith

  sound_inode : IsInode anew
  sound_inode = sound_after h anew.cell keeps keeps_leaves (size_large h.size sound.block_size) shown.hashed (and_left (is_directory_in h) (has_hash_flag (dinode_in h)) shown.hashed) sound.inode

  pub hashed_exchanged : HasExchanged h anew (moved ∷ []) (record_led_to inum moved ∷ [])
  hashed_exchanged = record {
    sound = λ _. sound_inode;
    head = head_same h anew.cell keeps keeps_leaves;
    records = records_exchanged;
    counted = counted_still (dinode_in h) (dinode_in anew) inum moved dinode_still;
  }
