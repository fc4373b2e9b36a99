-- What a directory is after a record was cut from one of its leaves.
use Rattle.std.proofs.Common.{◌≡◌, ◌≢◌, ℕ, suc, ◌-◌, ◌<◌, ◌≤◌, inl, inr, Bool, true, false, List, [], ◌∷◌, ◌++◌, length, take, drop, Option, None, Some, refl, sym, ap, ◌∙◌, subst, subst₂, arith}
use Rattle.std.specs.Prelude.{◌==◌, Contains, IsSome, count_by, filter, flat_map, option_map}
use Rattle.std.specs.List.{range_with_len}
use Rattle.std.specs.List.Sorted.{IsPermutation}
use Rattle.std.specs.FinMap.{insert}
use Rattle.std.specs.Str.{bytes_eq}
use Rattle.std.proofs.lemmas.Bool.{cases_Bool, cases_eq, cond-false, eqb-true, true≢false}
use Rattle.std.proofs.lemmas.List.Sums.{sum_by-cons}
use Rattle.std.proofs.Common.{cond}
use Rattle.gfs2_layout.specs.Device.{IsBlockSize}
use Rattle.std.proofs.lemmas.List.Sorted.{Contains-permutation, IsPermutation-sym, length_permutation, sum_by-IsPermutation}
use Rattle.crc_words.specs.Remainder.{crc32_of}
use Rattle.drafts.specs.Fates.{Drafted, seen_in}
use Rattle.drafts.specs.declared.fate.Fate.TheVariants.{Put}
use Rattle.gfs2_layout.specs.Area.{Slot, IsArea, IsRecordAt, first_named, name_of, slots_of}
use Rattle.gfs2_layout.specs.Bytes.{u32_at}
use Rattle.gfs2_layout.specs.Cutting.{slot_from, slots_without}
use Rattle.gfs2_layout.specs.Exchanges.{IsCounted, IsExchanged, directory_count}
use Rattle.gfs2_layout.specs.Headers.{HasHeader}
use Rattle.gfs2_layout.specs.Holding.{Holding, Cell, Part, Itself, Pointed, InChain, part_at, bytes_at, cell_bytes}
use Rattle.gfs2_layout.specs.Inode.{IsInode, IsLeaf, depth_in, dinode_in, first_hash, has_hash_flag, is_directory_in, is_hashed_in, is_leaf_part, leaf_area, leaf_in, leaf_length, leaves_of, records_of, top_bits}
use Rattle.gfs2_layout.specs.Records.{IsRecordArea, Record, record_named, record_of, records_in}
use Rattle.gfs2_layout.specs.Structures.{dinode_length, dinode_of, header_fault, is_in_use, leaf_of, or_else, records_fault}
use Rattle.gfs2_layout.specs.Writing.{leaf_put}
use Rattle.gfs2_layout.specs.declared.dinode.Dinode.{Dinode}
use Rattle.gfs2_layout.specs.declared.fault.LayoutFault.{LayoutFault}
use Rattle.gfs2_layout.specs.declared.fault.LayoutFault.TheVariants.{Value}
use Rattle.gfs2_layout.specs.declared.leaf.Leaf.{Leaf}
use Rattle.gfs2_layout.proofs.HeaderLaws.{answer_ok, header_from}
use Rattle.image_model.proofs.Held.{none_some}
use Rattle.image_model.proofs.Rows.{and_left}
use Rattle.glock_names.specs.Views.{Seen}
use Rattle.glock_names.specs.declared.steps.Entry.{Entry}
use Rattle.dinode_tree.specs.Pads.{KeepsPads}
use Rattle.dinode_tree.specs.Reading.{inode_lock}
use Rattle.dinode_tree.specs.Shown as inode
use Rattle.dinode_tree.proofs.Pads.{put_keeps}
use Rattle.linear_dirs.specs.Exchanges.{HasExchanged, uncounted}
use Rattle.linear_dirs.specs.Shown.{bytes_over, holding_over}
use Rattle.linear_dirs.proofs.Counts.{counts_fewer}
use Rattle.linear_dirs.proofs.Looked.{bytes_of}
use Rattle.linear_dirs.proofs.Over.{as_seen}
use Rattle.linear_dirs.proofs.Rewritten.{over_part, over_put, over_there, seen_at}
use Rattle.hash_dirs.specs.Exchanging.{IsCountedLess, IsCutFrom, IsCutPut, IsLeafCut}
use Rattle.hash_dirs.specs.Finding.{IsFirstNamed, in_leaf, named_in}
use Rattle.hash_dirs.specs.Shown.{IsShown, IsSound, index_for}
use Rattle.hash_dirs.specs.Spots.{IsInPlace, IsSpotIn}
use Rattle.hash_dirs.specs.declared.finding.Found.{Found}
use Rattle.hash_dirs.proofs.Anew.{KeepsTree}
use Rattle.hash_dirs.proofs.Chained.{cell_some, in_chain}
use Rattle.hash_dirs.proofs.Cuts.{seen_apart}
use Rattle.hash_dirs.proofs.Named.{records_are}
use Rattle.hash_dirs.proofs.Regrouped.{regrouped}
use Rattle.hash_dirs.proofs.Still.{KeepsLeaves, hashed_same, head_same, sound_after}

-- ---- the head of a leaf

or_none : (a b : Option LayoutFault) → or_else a b ≡ None → (a ≡ None) × (b ≡ None)
or_none None b e = (refl, e)
or_none (Some fault) b e = absurd (none_some (sym e))

format_is : (bytes : List ℕ) → records_fault bytes ≡ None → u32_at 28 bytes ≡ 1200
format_is bytes e = elim (cases_Bool (u32_at 28 bytes == 1200)) [
  | inl same ↦ eqb-true (u32_at 28 bytes) 1200 same
  | inr other ↦ absurd (none_some (sym e ∙ cond-false (u32_at 28 bytes == 1200) None (Some (Value 28 (u32_at 28 bytes))) other))
]

over_same : (o : Option (List ℕ)) (c : Option Cell) → ((bytes : List ℕ) → IsSome c → o ≡ Some bytes → cell_bytes c ≡ bytes) → cell_bytes (option_map (bytes_over o) c) ≡ cell_bytes c
over_same o None same = refl
over_same None (Some c) same = refl
over_same (Some bytes) (Some c) same = sym (same bytes refl refl)

not_itself : (hash place : ℕ) → Some Itself ≡ Some (InChain hash place) → ⊥
not_itself hash place e = cc

not_pointed : (b k level first : ℕ) → Some Itself ≡ Some (Pointed b k level first) → ⊥
not_pointed b k level first e = cc

pointed_or_chained : (hash place b k level first : ℕ) → Some (InChain hash place) ≡ Some (Pointed b k level first) → ⊥
pointed_or_chained hash place b k level first e = cc

-- a leaf whose bytes stay, of a directory as deep
leaf_stays : (h g : Holding) (hash x : ℕ) → bytes_at g x ≡ bytes_at h x → depth_in g ≡ depth_in h → IsLeaf h hash x → IsLeaf g hash x
leaf_stays h g hash x same deep leaf = record {
  header = subst (HasHeader 6 600) (sym same) leaf.header;
  records_format = ap (u32_at 28) same ∙ leaf.records_format;
  depth = omega (arith, leaf.depth, ap (λ b. (leaf_of b).depth) same, deep);
  area = subst (λ b. IsRecordArea (drop leaf_length b)) (sym same) leaf.area;
  entries = ap (λ b. (leaf_of b).entries) same ∙ leaf.entries ∙ sym (ap (λ b. length (records_in (drop leaf_length b))) same);
  hashes = subst (λ b. (r : Record) → Contains (records_in (drop leaf_length b)) r → top_bits (leaf_of b).depth (crc32_of r.name) ≡ top_bits (leaf_of b).depth hash) (sym same) leaf.hashes;
}

-- an area from which a record was cut, as `gfs2_layout` has it
abbrev pub CutsExchange : Type 0
CutsExchange = (old new : List ℕ) (at : ℕ) → IsRecordArea old → IsRecordAt old at → is_in_use (slot_from at old).head ≡ true → slots_of new ≡ slots_without at old → IsArea new
    → IsRecordArea new × IsExchanged (records_in old) (records_in new) (record_of (slot_from at old) ∷ []) []

abbrev pub NamesFirst : Type 0
NamesFirst = (area name : List ℕ) → option_map record_of (first_named name (slots_of area)) ≡ record_named (records_in area) name

abbrev pub NamedSo : Type 0
NamedSo = (name : List ℕ) (slots : List Slot) (s : Slot) → first_named name slots ≡ Some s → (is_in_use s.head ≡ true) × (name_of s ≡ name)

module _ {V : Type 0} (seen : V → Seen) (old new : Drafted V) (dir : ℕ) (name : List ℕ) (h : Holding) (f : Found) (d d' : Dinode)
    (shown : IsShown (seen_in seen old) dir h) (sound : IsSound h) (spot : IsSpotIn (seen_in seen old) name f) (place : IsInPlace h (index_for h name) name f)
    (dinode_was : d ≡ dinode_in h) (less : IsCountedLess name f d d') (put : IsCutPut seen old new dir f d') (before : List ℕ) (there : (seen_in seen old).block_at dir ≡ Some before)
    (cuts : CutsExchange) (firsts : NamesFirst) (named : NamedSo) where
  v : Seen
  v = seen_in seen old

  abbrev w : Seen
  w = seen_in seen new

  abbrev pub after : Holding
  after = holding_over (seen_in seen new) h

  abbrev x : ℕ
  x = f.block

  part_x : part_at h f.block ≡ Some (InChain (first_hash h (index_for h name)) place.place)
  part_x = in_chain h sound shown.hashed (index_for h name) place.place f.block place.chain

  pub not_own : f.block ≢ h.own
  not_own e = not_itself (first_hash h (index_for h name)) place.place (sym sound.placed.own ∙ ap (part_at h) (sym e) ∙ part_x)

  pub not_dir : f.block ≢ dir
  not_dir e = not_own (e ∙ sym shown.inode.own)

  some_x : IsSome (h.cell f.block)
  some_x = cell_some (h.cell f.block) (InChain (first_hash h (index_for h name)) place.place) part_x

  bytes_x : bytes_at h f.block ≡ spot.bytes
  bytes_x = shown.inode.same f.block spot.bytes some_x spot.there

  bytes_own : bytes_at h h.own ≡ before
  bytes_own = bytes_of (seen_in seen old) h dir before shown.inode there

  -- ---- what the draft sees

  sees_dir : (seen_in seen new).block_at dir ≡ Some put.block
  sees_dir = ap (λ (m : Drafted V). (seen_in seen m).block_at dir) put.put ∙ seen_at (seen old.view) (insert old.fates f.block (Put (inode_lock dir) false put.leaf)) dir (inode_lock dir) put.block

  sees_x : (seen_in seen new).block_at f.block ≡ Some put.leaf
  sees_x = ap (λ (m : Drafted V). (seen_in seen m).block_at f.block) put.put
      ∙ seen_apart (seen old.view) (insert old.fates f.block (Put (inode_lock dir) false put.leaf)) dir f.block (inode_lock dir) put.block not_dir
      ∙ seen_at (seen old.view) old.fates f.block (inode_lock dir) put.leaf

  sees_other : (b : ℕ) → b ≢ f.block → b ≢ dir → (seen_in seen new).block_at b ≡ (seen_in seen old).block_at b
  sees_other b other another = ap (λ (m : Drafted V). (seen_in seen m).block_at b) put.put
      ∙ seen_apart (seen old.view) (insert old.fates f.block (Put (inode_lock dir) false put.leaf)) dir b (inode_lock dir) put.block another
      ∙ seen_apart (seen old.view) old.fates f.block b (inode_lock dir) put.leaf other

  parts : (b : ℕ) → part_at after b ≡ part_at h b
  parts b = over_part ((seen_in seen new).block_at b) (h.cell b)

  pub after_x : bytes_at after f.block ≡ put.leaf
  after_x = over_put ((seen_in seen new).block_at f.block) (h.cell f.block) put.leaf some_x sees_x

  pub after_own : bytes_at after h.own ≡ put.block
  after_own = over_put ((seen_in seen new).block_at h.own) (h.cell h.own) put.block shown.inode.dinode (ap (seen_in seen new).block_at shown.inode.own ∙ sees_dir)

  after_other : (b : ℕ) → b ≢ f.block → b ≢ h.own → bytes_at after b ≡ bytes_at h b
  after_other b other another = over_same ((seen_in seen new).block_at b) (h.cell b)
      (λ bytes some at. shown.inode.same b bytes some (sym (sees_other b other (λ e. another (e ∙ sym shown.inode.own))) ∙ at))

  -- ---- the dinode

  read_dinode : (header_fault dinode_length 4 400 put.block ≡ None) × (dinode_of put.block ≡ d')
  read_dinode = answer_ok (header_fault dinode_length 4 400 put.block) (dinode_of put.block) d' put.read

  dinode_is : dinode_in after ≡ d'
  unfolding dinode_in
  dinode_is = ap dinode_of after_own ∙ read_dinode.1

  pub dinode_kept : uncounted (dinode_in after) ≡ uncounted (dinode_in h)
  dinode_kept = ap uncounted dinode_is ∙ less.fewer.others ∙ ap uncounted dinode_was

  abbrev untimed : Dinode → Dinode
  untimed e = record e { atime = 0; mtime = 0; ctime = 0 }

  keeps : KeepsTree h after.cell
  keeps = record {
    parts = parts;
    dinode = ap untimed dinode_kept;
    behind = ap (drop dinode_length) after_own ∙ put.behind before there not_dir ∙ ap (drop dinode_length) (sym bytes_own);
    pointed = λ b from k level first at. after_other b
        (λ e. pointed_or_chained (first_hash h (index_for h name)) place.place from k level first (sym part_x ∙ ap (part_at h) (sym e) ∙ at))
        (λ e. not_pointed from k level first (sym sound.placed.own ∙ ap (part_at h) (sym e) ∙ at));
  }

  deep : depth_in after ≡ depth_in h
  deep = ap (λ (e : Dinode). e.depth) keeps.dinode

  pub depth_kept : depth_in after ≡ depth_in h
  depth_kept = deep

  -- ---- the leaf

  cut : IsLeafCut spot.bytes put.leaf f.spot.at
  cut = put.cut spot.bytes spot.there

  abbrev head_now : Leaf
  head_now = record (leaf_of spot.bytes) { entries = (leaf_of spot.bytes).entries - 1 }

  read_leaf : (or_else (header_fault leaf_length 6 600 put.leaf) (records_fault put.leaf) ≡ None) × (leaf_of put.leaf ≡ head_now)
  read_leaf = answer_ok (or_else (header_fault leaf_length 6 600 put.leaf) (records_fault put.leaf)) (leaf_of put.leaf) head_now cut.head

  leaf_now : leaf_in after f.block ≡ record (leaf_in h f.block) { entries = (leaf_in h f.block).entries - 1 }
  leaf_now = ap leaf_of after_x ∙ read_leaf.1 ∙ ap (λ b. record (leaf_of b) { entries = (leaf_of b).entries - 1 }) (sym bytes_x)

  abbrev slot : Slot
  slot = slot_from f.spot.at (drop leaf_length spot.bytes)

  abbrev pub gone : Record
  gone = record_of slot

  exchange : IsRecordArea (drop leaf_length spot.bytes) → IsRecordArea (drop leaf_length put.leaf) × IsExchanged (records_in (drop leaf_length spot.bytes)) (records_in (drop leaf_length put.leaf)) (record_of slot ∷ []) []
  exchange area = cuts (drop leaf_length spot.bytes) (drop leaf_length put.leaf) f.spot.at area spot.spot.at spot.spot.used cut.slots cut.filled

  cut_leaf : (hash : ℕ) → IsLeaf h hash f.block → IsLeaf after hash f.block
  cut_leaf hash leaf =
      let both = exchange (subst (λ b. IsRecordArea (drop leaf_length b)) bytes_x leaf.area) in
      let more : length (records_in (drop leaf_length spot.bytes)) ≡ suc (length both.1.rest) = sym (length_permutation (records_in (drop leaf_length spot.bytes)) ((record_of slot ∷ []) ++ both.1.rest) both.1.before) in
      let fewer : length (records_in (drop leaf_length put.leaf)) ≡ length both.1.rest = sym (length_permutation (records_in (drop leaf_length put.leaf)) ([] ++ both.1.rest) both.1.after) in
      let were : (leaf_in h f.block).entries ≡ length (records_in (drop leaf_length spot.bytes)) = leaf.entries ∙ ap (λ b. length (records_in (drop leaf_length b))) bytes_x in
      let depth_now : (leaf_in after f.block).depth ≡ (leaf_in h f.block).depth = ap (λ (l : Leaf). l.depth) leaf_now in
      record {
        header = subst (HasHeader 6 600) (sym after_x) (header_from leaf_length 6 600 put.leaf (or_none (header_fault leaf_length 6 600 put.leaf) (records_fault put.leaf) read_leaf.0).0);
        records_format = ap (u32_at 28) after_x ∙ format_is put.leaf (or_none (header_fault leaf_length 6 600 put.leaf) (records_fault put.leaf) read_leaf.0).1;
        depth = omega (arith, leaf.depth, depth_now, deep);
        area = subst (λ b. IsRecordArea (drop leaf_length b)) (sym after_x) both.0;
        entries = ap (λ (l : Leaf). l.entries) leaf_now ∙ one_less (leaf_in h f.block).entries (length (records_in (drop leaf_length spot.bytes))) (length both.1.rest) were more ∙ sym fewer ∙ ap (λ b. length (records_in (drop leaf_length b))) (sym after_x);
        hashes = λ r has. subst (λ n. top_bits n (crc32_of r.name) ≡ top_bits n hash) (sym depth_now) (leaf.hashes r
            (subst (λ b. Contains (records_in (drop leaf_length b)) r) (sym bytes_x)
            (Contains-permutation ((record_of slot ∷ []) ++ both.1.rest) (records_in (drop leaf_length spot.bytes)) r (IsPermutation-sym (records_in (drop leaf_length spot.bytes)) ((record_of slot ∷ []) ++ both.1.rest) both.1.before)
            (behind_one (record_of slot) both.1.rest r (Contains-permutation (records_in (drop leaf_length put.leaf)) both.1.rest r both.1.after (subst (λ b. Contains (records_in (drop leaf_length b)) r) after_x has))))));
      }
    where
      one_less : (a b c : ℕ) → a ≡ b → b ≡ suc c → a - 1 ≡ c
      one_less a b c e m = omega arith

      behind_one : (y : Record) (ys : List Record) (r : Record) → Contains ys r → Contains (y ∷ ys) r
      behind_one y ys r has = (suc has.0, omega (arith, has.1), has.2)

  keeps_leaves : KeepsLeaves h after.cell
  keeps_leaves = record {
    header = subst (HasHeader 4 400) (sym after_own) (header_from dinode_length 4 400 put.block read_dinode.0);
    whole = λ b p at. elim (cases_eq b h.own) [
      | inl own ↦ ap (λ y. length (bytes_at after y)) own ∙ ap length after_own ∙ put.long ∙ sym shown.inode.size
      | inr not_the_own ↦ elim (cases_eq b f.block) [
        | inl here ↦ ap (λ y. length (bytes_at after y)) here ∙ ap length after_x ∙ put.leaf_long ∙ sym shown.inode.size
        | inr other ↦ ap length (after_other b other not_the_own) ∙ sound.inode.whole b p at
      ]
    ];
    depths = λ y hash at part. elim (cases_eq y f.block) [
      | inl here ↦ ap (λ z. (leaf_in after z).depth) here ∙ ap (λ (l : Leaf). l.depth) leaf_now ∙ ap (λ z. (leaf_in h z).depth) (sym here)
      | inr other ↦ ap (λ b. (leaf_of b).depth) (leaf_bytes y hash at part other)
    ];
    nexts = λ y hash at part. elim (cases_eq y f.block) [
      | inl here ↦ ap (λ z. (leaf_in after z).next) here ∙ ap (λ (l : Leaf). l.next) leaf_now ∙ ap (λ z. (leaf_in h z).next) (sym here)
      | inr other ↦ ap (λ b. (leaf_of b).next) (leaf_bytes y hash at part other)
    ];
    leaves = λ y hash at part leaf. elim (cases_eq y f.block) [
      | inl here ↦ subst (IsLeaf after hash) (sym here) (cut_leaf hash (subst (IsLeaf h hash) here leaf))
      | inr other ↦ leaf_stays h after hash y (leaf_bytes y hash at part other) deep leaf
    ];
  }
    where
      leaf_bytes : (y hash at : ℕ) → part_at h y ≡ Some (InChain hash at) → y ≢ f.block → bytes_at after y ≡ bytes_at h y
      leaf_bytes y hash at part other = after_other y other (λ e. not_itself hash at (sym sound.placed.own ∙ ap (part_at h) (sym e) ∙ part))

  -- ---- the records

  area_x : leaf_area h f.block ≡ drop leaf_length spot.bytes
  area_x = ap (drop leaf_length) bytes_x

  area_now : leaf_area after f.block ≡ drop leaf_length put.leaf
  area_now = ap (drop leaf_length) after_x

  named_here : named_in h name f.block ≡ Some (record_of slot)
  named_here = ap (λ a. record_named (records_in a) name) area_x ∙ sym (firsts (drop leaf_length spot.bytes) name) ∙ ap (option_map record_of) spot.spot.first

  pub first_named_is : IsFirstNamed h (index_for h name) name (Some gone)
  first_named_is = in_leaf place.place f.block (record_of slot) place.chain named_here place.later place.heads

  name_is : (record_of slot).name ≡ name
  name_is = (named name (slots_of (drop leaf_length spot.bytes)) slot spot.spot.first).1

  links_are : less.links ≡ directory_count (record_of slot ∷ [])
  links_are = less.are (record_of slot) name_is (ap (λ (e : Entry). e.kind) (sym spot.spot.entry))

  hashed_after : is_hashed_in after ≡ true
  hashed_after = hashed_same h after.cell keeps keeps_leaves ∙ shown.hashed

  leaves_same : leaves_of after ≡ leaves_of h
  leaves_same = ap (λ (all : ℕ → Option Part). filter (λ y. is_leaf_part (all y)) (range_with_len 0 h.count)) (λ t y. parts y t)

  exchanged : IsExchanged (records_of h) (records_of after) (record_of slot ∷ []) []
  exchanged =
      let leaf = (sound.inode.hashed shown.hashed).leaves f.block (first_hash h (index_for h name)) place.place part_x in
      let both = exchange (subst (λ b. IsRecordArea (drop leaf_length b)) bytes_x leaf.area) in
      let here : IsExchanged (records_in (leaf_area h f.block)) (records_in (leaf_area after f.block)) (record_of slot ∷ []) [] =
      subst₂ (λ a b. IsExchanged (records_in a) (records_in b) (record_of slot ∷ []) []) (sym area_x) (sym area_now) both.1 in
      subst₂ (λ a b. IsExchanged a b (record_of slot ∷ []) []) (sym (records_are h shown.hashed)) (ap (flat_map (λ y. records_in (leaf_area after y))) (sym leaves_same) ∙ sym (records_are after hashed_after))
      (regrouped (λ y. records_in (leaf_area h y)) (λ y. records_in (leaf_area after y)) (λ y. is_leaf_part (part_at h y)) f.block (ap is_leaf_part part_x) (record_of slot ∷ []) [] here
      (λ y other is_leaf. ap (λ b. records_in (drop leaf_length b)) (after_other y other (λ e. true≢false (sym is_leaf ∙ ap (λ z. is_leaf_part (part_at h z)) e ∙ ap is_leaf_part sound.placed.own))))
      0 h.count (omega arith) (let low : f.block < h.count = sound.placed.inside f.block some_x in omega (arith, low)))

  large : 512 ≤ h.size
  large = size_large h.size sound.block_size
    where
      size_large : (n : ℕ) → IsBlockSize n → 512 ≤ n
      size_large n is = omega arith

  directory : is_directory_in h ≡ true
  directory = and_left (is_directory_in h) (has_hash_flag (dinode_in h)) shown.hashed

  sound_inode : IsInode after
  sound_inode = sound_after h after.cell keeps keeps_leaves large shown.hashed directory sound.inode

  pub has_exchanged : HasExchanged h after (gone ∷ []) []
  has_exchanged = record {
    sound = λ _. sound_inode;
    head = head_same h after.cell keeps keeps_leaves;
    records = exchanged;
    counted = subst₂ (λ a b. IsCounted a b (record_of slot ∷ []) []) dinode_was (sym dinode_is) (counts_fewer d d' less.links (record_of slot) less.fewer links_are);
  }

  -- ---- the directory is as sound as it was

  some_after : (b : ℕ) → IsSome (after.cell b) → IsSome (h.cell b)
  some_after b some = sym (over_there ((seen_in seen new).block_at b) (h.cell b)) ∙ some

  once_after : (other : List ℕ) → count_by (λ r. bytes_eq other r.name) (records_of after) ≤ 1
  once_after other =
      let test : Record → Bool = λ r. bytes_eq other r.name in
      let whole : count_by test (records_of h) ≡ count_by test ((record_of slot ∷ []) ++ exchanged.rest) = sym (count_permutation test (records_of h) ((record_of slot ∷ []) ++ exchanged.rest) exchanged.before) in
      let rest : count_by test (records_of after) ≡ count_by test exchanged.rest = sym (count_permutation test (records_of after) exchanged.rest exchanged.after) in
      let more : count_by test exchanged.rest ≤ count_by test ((record_of slot ∷ []) ++ exchanged.rest) = count_behind test (record_of slot) exchanged.rest in
      let once = sound.once other in
      omega (arith, whole, rest, more, once)
    where
      count_permutation : (test : Record → Bool) (xs ys : List Record) → IsPermutation xs ys → count_by test ys ≡ count_by test xs
      count_permutation test xs ys same = sum_by-IsPermutation (λ r. cond (test r) 1 0) xs ys same

      count_behind : (test : Record → Bool) (y : Record) (ys : List Record) → count_by test ys ≤ count_by test (y ∷ ys)
      count_behind test y ys = omega (arith, sum_by-cons (λ r. cond (test r) 1 0) y ys)

  pub sound_directory : IsSound after
  sound_directory = record {
    block_size = sound.block_size;
    inode = sound_inode;
    placed = record {
      own = parts h.own ∙ sound.placed.own;
      only = λ b at. sound.placed.only b (sym (parts b) ∙ at);
      nobody = parts 0 ∙ sound.placed.nobody;
      inside = λ b some. sound.placed.inside b (some_after b some);
    };
    once = once_after;
  }

  pub still_shown : ((u : Seen) (k : Holding) → IsInode k → part_at k k.own ≡ Some Itself → k.size ≡ u.size → inode.IsAsSeen u k → inode.IsShown u k.own k) → IsShown (seen_in seen new) dir after
  still_shown shows = record {
    inode = subst (λ a. inode.IsShown (seen_in seen new) a after) shown.inode.own
        (shows (seen_in seen new) after sound_inode (parts h.own ∙ sound.placed.own) (shown.inode.size ∙ sym (ap (λ (m : Drafted V). (seen m.view).size) put.put)) (as_seen (seen_in seen new) h));
    hashed = hashed_after;
    leaves = λ i at y chain some. cell_some (after.cell y) (InChain (first_hash after i) at) (in_chain after sound_directory hashed_after i at y chain);
  }

  -- ---- byte by byte

  front_now : take leaf_length (bytes_at after f.block) ≡ take leaf_length (leaf_put (leaf_in after f.block) (bytes_at h f.block))
  front_now = ap (take leaf_length) after_x ∙ cut.front ∙ ap (λ l. take leaf_length (leaf_put l spot.bytes)) (sym read_leaf.1 ∙ ap leaf_of (sym after_x))
      ∙ ap (λ b. take leaf_length (leaf_put (leaf_in after f.block) b)) (sym bytes_x)

  pub cut_from : (cut : IsCutFrom h after name) × (cut.leaf ≡ f.block)
  cut_from = (
    record {
      leaf = f.block;
      at_place = place.place;
      chain = place.chain;
      none_before = place.later;
      place = f.spot.at;
      at = subst (λ a. IsRecordAt a f.spot.at) (sym area_x) spot.spot.at;
      no_first = subst (λ a. first_named name (slots_of (take f.spot.at a)) ≡ None) (sym area_x) spot.spot.none_before;
      first = subst (λ a. first_named name (slots_of a) ≡ Some (slot_from f.spot.at a)) (sym area_x) spot.spot.first;
      slots = ap slots_of area_now ∙ cut.slots ∙ ap (slots_without f.spot.at) (sym area_x);
      head = leaf_now;
      front = front_now;
      dinode = dinode_kept;
      behind = keeps.behind;
      parts = parts;
      others = after_other;
    },
    refl,
  )

  pub pads_kept : KeepsPads (bytes_at h h.own) (bytes_at after h.own)
  pads_kept = subst₂ KeepsPads (sym bytes_own) (sym after_own) (put_keeps d' before put.block (put.counted before there not_dir) read_dinode.1 (put.behind before there not_dir))
