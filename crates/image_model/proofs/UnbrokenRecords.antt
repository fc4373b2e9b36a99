-- An image that stands breaks none of the rules on records.
use Rattle.std.proofs.Common.{◌≡◌, ◌≢◌, ℕ, ◌+◌, ◌<◌, ◌≤◌, inl, inr, Bool, true, false, List, drop, Some, refl, sym, ap, ap₂, ◌∙◌, subst, arith}
use Rattle.std.proofs.lemmas.Bool.{cases_Bool, cond-true, cond-false, both_ways}
use Rattle.std.proofs.lemmas.Slice.Eq.{bytes_eq-Decides}
use Rattle.std.specs.Prelude.{Contains, codes, count_by, flat_map, slice_get, ◌||◌}
use Rattle.std.specs.List.{range_with_len}
use Rattle.std.specs.Str.{bytes_eq}
use Rattle.crc_words.specs.Remainder.{crc32_of}
use Rattle.gfs2_layout.specs.Structures.{dinode_length, is_in_use}
use Rattle.gfs2_layout.specs.Area.{Slot, name_of, slots_of, IsArea}
use Rattle.gfs2_layout.specs.declared.dinode.Dinode.{Dinode}
use Rattle.image_model.specs.Image.{Image}
use Rattle.image_model.specs.Owners.{Owner, Owners, Super, InGroup, Free, Nobody, Root, Master, Named, Below, Chained, up_of, IsUsed, is_dinode, parent_of, holding}
use Rattle.gfs2_layout.specs.Holding.{InChain, part_at}
use Rattle.gfs2_layout.specs.Records.{Record, records_in, HasItsHash, is_dots}
use Rattle.gfs2_layout.specs.Inode.{Head, head_of, dinode_in, is_hashed_in, linear_area, leaf_area, is_leaf_part, leaves_of, records_of}
use Rattle.image_model.specs.Stands.{Layout, IsLaid, IsDirectory, LeadsDown, heads_of, kind_of, IsRecordOf, HasRecord, name_count}
use Rattle.image_model.specs.Claims.{every, HasDirectory, HasLeaf, HasArea, behind_dinode, of_leaf}
use Rattle.image_model.specs.Rules.{HasRecordIn}
use Rattle.image_model.proofs.Members.{IsIn, is_in, in_filter, in_range}
use Rattle.image_model.proofs.Counts.{all_in, count_some, count_two, one_passes, count_part, count_parts}
use Rattle.image_model.proofs.Held.{own_block, block_same, chained_part}
use Rattle.image_model.proofs.Rows.{dinode_is, directory_is, hashed_is, leaf_row, leaf_hashed, and_left}
use Rattle.image_model.proofs.Reach.{used_low, child_dinode}
use Rattle.image_model.proofs.Facts.{has_dinode, has_directory, has_leaf_row}
use Rattle.image_model.proofs.AreaFacts.{IsAreaOf, area_of, record_there}

module _ (im : Image) (owners : Owners) (l : Layout) (laid : IsLaid im owners l) where
  leaf_listed : (a x : ℕ) (has : HasLeaf im a x) → IsIn x (leaves_of (holding im owners a))
  leaf_listed a x has =
      let row = has_leaf_row im owners l laid a x has in
      let low : x < im.count = used_low im owners l laid x (subst IsUsed (sym row) tt) in
      in_filter (λ y. is_leaf_part (part_at (holding im owners a) y)) x (range_with_len 0 im.count) (in_range 0 im.count x (omega arith) (omega (arith, low)))
      (ap is_leaf_part (chained_part im owners a x has.1 has.2 row))

  leaf_area_is : (a x : ℕ) (has : HasLeaf im a x) → leaf_area (holding im owners a) x ≡ leaf_area (every im a) x
  leaf_area_is a x has = ap (drop 104) (block_same im owners a x (InChain has.1 has.2) (chained_part im owners a x has.1 has.2 (has_leaf_row im owners l laid a x has)))

  leaf_directory_hashed : (a x : ℕ) (has : HasLeaf im a x) → is_hashed_in (holding im owners a) ≡ true
  leaf_directory_hashed a x has = leaf_hashed im owners l laid x a has.1 has.2 (has_leaf_row im owners l laid a x has)

  -- no more records of an area pass a test than of the directory
  count_area : (a x : ℕ) (area : List ℕ) → HasArea im a x area → (test : Record → Bool) → count_by test (records_in area) ≤ count_by test (records_of (holding im owners a))
  unfolding records_of
  count_area a _ _ (behind_dinode has plain) test =
      let d = has_dinode im owners l laid a has.inode in
      let same : records_of (holding im owners a) ≡ records_in (linear_area (every im a))
      = cond-false _ _ _ (hashed_is im owners l laid a d ∙ plain) ∙ ap (λ bytes. records_in (drop dinode_length bytes)) (own_block im owners a d) in
      omega (arith, ap (count_by test) same)
  count_area a _ _ (of_leaf x has) test =
      let same : records_of (holding im owners a) ≡ flat_map (λ y. records_in (leaf_area (holding im owners a) y)) (leaves_of (holding im owners a))
      = cond-true _ _ _ (leaf_directory_hashed a x has) in
      omega (
        arith,
        ap (count_by test) same,
        ap (λ area. count_by test (records_in area)) (leaf_area_is a x has),
        count_part test (λ y. records_in (leaf_area (holding im owners a) y)) x (leaves_of (holding im owners a)) (leaf_listed a x has),
      )

  module _ (a x : ℕ) (area : List ℕ) (has : HasArea im a x area) where
    of : IsAreaOf im owners a area
    of = area_of im owners l laid a x area has

    pub filled : IsArea area
    filled = of.sound_area.fills

    pub hashed_right : (s : Slot) → Contains (slots_of area) s → is_in_use s.head ≡ true → s.head.hash ≡ crc32_of (name_of s)
    hashed_right s there used = all_in HasItsHash s (slots_of area) of.sound_area.hashes (is_in s (slots_of area) there) used

    pub directory : IsDirectory (heads_of im owners) owners a (records_of (holding im owners a)) (dinode_in (holding im owners a))
    directory = laid.directories a of.dinode of.directory

    module _ (r : Record) (there : Contains (records_in area) r) where
      pub listed : Contains (records_of (holding im owners a)) r
      listed = of.listed r there

      pub down : is_dots r.name ≡ false → LeadsDown (heads_of im owners) owners a r
      down plain = directory.down r listed plain

      by_name : (name : List ℕ) → r.name ≡ name → bytes_eq name r.name ≡ true
      by_name name e = (bytes_eq-Decides name r.name).1 (sym e)

      -- the record of a name is the one that there is
      the_one : (name : List ℕ) (b : ℕ) → HasRecord (heads_of im owners) (records_of (holding im owners a)) name b → r.name ≡ name → IsRecordOf (heads_of im owners) b r
      the_one name b has' e =
          let same : has'.entry ≡ r = one_passes (λ s. bytes_eq name s.name) has'.entry r (records_of (holding im owners a)) (directory.once name)
          (is_in _ _ has'.there) (is_in _ _ listed) ((bytes_eq-Decides name has'.entry.name).1 (sym has'.named)) (by_name name e) in
          subst (IsRecordOf (heads_of im owners) b) same has'.true_of

      pub dot_is : r.name ≡ codes "." → r.address ≡ a
      dot_is e = (the_one (codes ".") a directory.dot e).address

      pub dots_are : r.name ≡ codes ".." → r.address ≡ parent_of a (owners a)
      dots_are e = (the_one (codes "..") (parent_of a (owners a)) directory.dots e).address

      -- whatever its name, the record is that of an inode
      parent_dinode : is_dinode (owners (parent_of a (owners a))) ≡ true
      parent_dinode = each (owners a) refl
        where
          each : (o : Owner) → owners a ≡ o → is_dinode (owners (parent_of a o)) ≡ true
          each (Named p name) e = child_dinode im owners l laid p name a (laid.names a (record { parent = p; name = name }) (ap up_of e))
          each Super e = of.dinode
          each (InGroup g) e = of.dinode
          each (Free g) e = of.dinode
          each Nobody e = of.dinode
          each Root e = of.dinode
          each Master e = of.dinode
          each (Below d b k level first) e = of.dinode
          each (Chained d hash place) e = of.dinode

      true_record : (b : ℕ) × (is_dinode (owners b) ≡ true) × IsRecordOf (heads_of im owners) b r
      true_record = elim (cases_Bool (bytes_eq r.name (codes "."))) [
        | inl dot ↦ (a, of.dinode, the_one (codes ".") a directory.dot ((bytes_eq-Decides r.name (codes ".")).0 dot))
        | inr no_dot ↦ elim (cases_Bool (bytes_eq r.name (codes ".."))) [
          | inl dots ↦ (parent_of a (owners a), parent_dinode, the_one (codes "..") (parent_of a (owners a)) directory.dots ((bytes_eq-Decides r.name (codes "..")).0 dots))
          | inr no_dots ↦
              let d = down (ap₂ ◌||◌ no_dot no_dots) in
              (r.address, ap is_dinode d.owner, d.true_of)
        ]
      ]

      heads_same : (b : ℕ) → is_dinode (owners b) ≡ true → heads_of im owners b ≡ head_of (every im b)
      heads_same b dinode = ap₂ (λ number dir. record { number = number; is_dir = dir })
          (ap (λ (d : Dinode). d.num.number) (dinode_is im owners l laid b dinode)) (directory_is im owners l laid b dinode)

      pub head_is : (r.kind ≡ kind_of (head_of (every im r.address))) × (r.number ≡ (head_of (every im r.address)).number)
      head_is =
          let t = true_record in
          let same : heads_of im owners t.0 ≡ head_of (every im r.address) = heads_same t.0 t.1 ∙ ap (λ b. head_of (every im b)) (sym t.2.address) in
          (t.2.kind ∙ ap kind_of same, t.2.number ∙ ap (λ (h : Head). h.number) same)

      -- the record is not alone of its name in the area
      pub once_in_area : (i j : ℕ) (s : Record) → slice_get (records_in area) i ≡ Some r → slice_get (records_in area) j ≡ Some s → i ≢ j → r.name ≡ s.name → ⊥
      once_in_area i j s at at' d e = absurd (omega (arith, two, part, directory.once r.name))
        where
          test : Record → Bool
          test t = bytes_eq r.name t.name

          two : 2 ≤ count_by (λ t. bytes_eq r.name t.name) (records_in area)
          two = count_two (λ t. bytes_eq r.name t.name) r s (records_in area) i j at at' d ((bytes_eq-Decides r.name r.name).1 refl) ((bytes_eq-Decides r.name s.name).1 e)

          part : count_by (λ t. bytes_eq r.name t.name) (records_in area) ≤ name_count (records_of (holding im owners a)) r.name
          part = count_area a x area has (λ t. bytes_eq r.name t.name)

  pub once_in_two : (a x y : ℕ) (area other : List ℕ) (r s : Record) → HasArea im a x area → HasArea im a y other → Contains (records_in area) r → Contains (records_in other) s
      → x ≢ y → r.name ≡ s.name → ⊥
  unfolding records_of
  once_in_two a _ _ _ _ r s (behind_dinode has plain) (behind_dinode has' plain') there there' d e = absurd (d refl)
  once_in_two a _ _ _ _ r s (behind_dinode has plain) (of_leaf y leaf) there there' d e =
      both_ways _ (hashed_is im owners l laid a (has_dinode im owners l laid a has.inode) ∙ plain) (leaf_directory_hashed a y leaf)
  once_in_two a _ _ _ _ r s (of_leaf x leaf) (behind_dinode has plain) there there' d e =
      both_ways _ (hashed_is im owners l laid a (has_dinode im owners l laid a has.inode) ∙ plain) (leaf_directory_hashed a x leaf)
  once_in_two a _ _ _ _ r s (of_leaf x leaf) (of_leaf y leaf') there there' d e =
      absurd (omega (arith, one, other, parts, ap (count_by (λ t. bytes_eq r.name t.name)) same, dir.once r.name))
    where
      dir : IsDirectory (heads_of im owners) owners a (records_of (holding im owners a)) (dinode_in (holding im owners a))
      dir = laid.directories a (leaf_row im owners l laid x a leaf.1 leaf.2 (has_leaf_row im owners l laid a x leaf)) (and_left _ _ (leaf_directory_hashed a x leaf))

      same : records_of (holding im owners a) ≡ flat_map (λ z. records_in (leaf_area (holding im owners a) z)) (leaves_of (holding im owners a))
      same = cond-true _ _ _ (leaf_directory_hashed a x leaf)

      one : 1 ≤ count_by (λ t. bytes_eq r.name t.name) (records_in (leaf_area (holding im owners a) x))
      one = count_some (λ t. bytes_eq r.name t.name) r (records_in (leaf_area (holding im owners a) x)) (subst (λ area. IsIn r (records_in area)) (sym (leaf_area_is a x leaf)) (is_in r _ there)) ((bytes_eq-Decides r.name r.name).1 refl)

      other : 1 ≤ count_by (λ t. bytes_eq r.name t.name) (records_in (leaf_area (holding im owners a) y))
      other = count_some (λ t. bytes_eq r.name t.name) s (records_in (leaf_area (holding im owners a) y)) (subst (λ area. IsIn s (records_in area)) (sym (leaf_area_is a y leaf')) (is_in s _ there')) ((bytes_eq-Decides r.name s.name).1 e)

      parts : count_by (λ t. bytes_eq r.name t.name) (records_in (leaf_area (holding im owners a) x)) + count_by (λ t. bytes_eq r.name t.name) (records_in (leaf_area (holding im owners a) y))
          ≤ count_by (λ t. bytes_eq r.name t.name) (flat_map (λ z. records_in (leaf_area (holding im owners a) z)) (leaves_of (holding im owners a)))
      parts = count_parts (λ t. bytes_eq r.name t.name) (λ z. records_in (leaf_area (holding im owners a) z)) x y (leaves_of (holding im owners a)) (leaf_listed a x leaf) (leaf_listed a y leaf') d

  -- `.` and `..` are there
  module _ (a : ℕ) (has : HasDirectory im a) where
    found_in_area : (name : List ℕ) (b : ℕ) → HasRecord (heads_of im owners) (records_of (holding im owners a)) name b
        → ((x : ℕ) (r : Record) → HasRecordIn im a x r → r.name ≢ name) → ⊥
    found_in_area name b has' none =
        let at = record_there im owners l laid a (has_dinode im owners l laid a has.inode) (has_directory im owners l laid a has) has'.entry has'.there in
        none at.0 has'.entry at.1 has'.named

    pub has_dot : ((x : ℕ) (r : Record) → HasRecordIn im a x r → r.name ≢ codes ".") → ⊥
    has_dot = found_in_area (codes ".") a (laid.directories a (has_dinode im owners l laid a has.inode) (has_directory im owners l laid a has)).dot

    pub has_dots : ((x : ℕ) (r : Record) → HasRecordIn im a x r → r.name ≢ codes "..") → ⊥
    has_dots = found_in_area (codes "..") (parent_of a (owners a)) (laid.directories a (has_dinode im owners l laid a has.inode) (has_directory im owners l laid a has)).dots
