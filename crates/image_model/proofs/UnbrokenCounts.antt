-- An image that stands breaks none of the rules on counts of blocks, links and entries.
use Rattle.std.proofs.Common.{◌≡◌, ◌≢◌, ℕ, ◌+◌, ◌==◌, ◌⊎◌, inl, inr, Bool, true, false, List, length, drop, Option, None, Some, refl, sym, ap, ◌∙◌, subst, arith}
use Rattle.std.proofs.lemmas.Bool.{cases_eq, cond-true, cond-false, eq-eqb, ne_eqb, true≢false}
use Rattle.std.specs.Prelude.{filter, flat_map, is_some}
use Rattle.std.specs.List.{range_with_len}
use Rattle.gfs2_layout.specs.Structures.{dinode_length}
use Rattle.gfs2_layout.specs.declared.dinode.Dinode.{Dinode}
use Rattle.image_model.specs.Image.{Image}
use Rattle.image_model.specs.Owners.{Owner, Owners, Super, InGroup, Free, Nobody, Root, Master, Named, Below, Chained, is_dinode, IsUsed, IsWithin, holding}
use Rattle.gfs2_layout.specs.Holding.{Part, Itself, Pointed, InChain, Cell, cell_part, part_at}
use Rattle.gfs2_layout.specs.Records.{Record, records_in}
use Rattle.gfs2_layout.specs.Inode.{dinode_in, leaf_area, is_leaf_part, leaves_of, records_of, block_count}
use Rattle.gfs2_layout.specs.Exchanges.{directory_count}
use Rattle.image_model.specs.Stands.{Layout, IsLaid, IsDirectory, heads_of}
use Rattle.image_model.specs.Claims.{every, HasDirectory}
use Rattle.image_model.specs.Rules.{AreWithin, AreLeaves, HasRecords, from_dinode_block, from_leaves}
use Rattle.image_model.proofs.Members.{IsIn, contained, is_in, in_filter, from_filter, in_range}
use Rattle.image_model.proofs.Rising.{rising, rising_range, rising_filter, same_rising, count_filter, one_if, count_split, one_there}
use Rattle.image_model.proofs.Held.{none_some, some_same, not_pointed, not_in_chain, own_part, itself_own, own_block, block_same, pointed_owner, pointed_part, chained_owner, chained_part}
use Rattle.image_model.proofs.Same.{flat_map_same}
use Rattle.image_model.proofs.Rows.{sound, dinode_is, hashed_is, claim_row}
use Rattle.image_model.proofs.Reach.{used_low, used_claim, leaf_part}
use Rattle.image_model.proofs.Facts.{claimed_used, has_dinode, has_directory, has_leaf_row}

abbrev is_other : Option Part → Bool
is_other (Some (Pointed b k level first)) = true
is_other (Some (InChain hash place)) = true
is_other _ = false

used_dinode : (o : Owner) → is_dinode o ≡ true → IsUsed o
used_dinode Super e = absurd (true≢false (sym e))
used_dinode (InGroup g) e = absurd (true≢false (sym e))
used_dinode (Free g) e = absurd (true≢false (sym e))
used_dinode Nobody e = absurd (true≢false (sym e))
used_dinode Root e = tt
used_dinode Master e = tt
used_dinode (Named p name) e = tt
used_dinode (Below d b k level first) e = tt
used_dinode (Chained d hash place) e = tt

module _ (im : Image) (owners : Owners) (l : Layout) (laid : IsLaid im owners l) where
  -- ---- the leaves of a directory, listed in rising order

  module _ (a : ℕ) (leaves : List ℕ) (are : AreLeaves im a leaves) where
    pub leaves_are : leaves_of (holding im owners a) ≡ leaves
    leaves_are = same_rising (leaves_of (holding im owners a)) leaves (rising_filter test (range_with_len 0 im.count) (rising_range 0 im.count)) (rising leaves are.rise) to from
      where
        test : ℕ → Bool
        test x = is_leaf_part (part_at (holding im owners a) x)

        to : (x : ℕ) → IsIn x (leaves_of (holding im owners a)) → IsIn x leaves
        to x h =
            let kept = from_filter (λ y. is_leaf_part (part_at (holding im owners a) y)) x (range_with_len 0 im.count) h in
            let part = leaf_part (part_at (holding im owners a) x) kept.1 in
            let row = chained_owner im owners a x part.0 part.1 part.2 in
            let claim = used_claim im owners l laid x (Chained a part.0 part.1) row tt in
            is_in x leaves (are.all x (claim.0, part.0, part.1, claim.1))

        from : (x : ℕ) → IsIn x leaves → IsIn x (leaves_of (holding im owners a))
        from x h =
            let has = are.only x (contained x leaves h) in
            let row = has_leaf_row im owners l laid a x has in
            in_filter (λ y. is_leaf_part (part_at (holding im owners a) y)) x (range_with_len 0 im.count)
            (in_range 0 im.count x (omega arith) (omega (arith, used_low im owners l laid x (subst IsUsed (sym row) tt))))
            (ap is_leaf_part (chained_part im owners a x has.1 has.2 row))

  pub records_are : (a : ℕ) (records : List Record) → HasRecords im a records → HasDirectory im a × (records_of (holding im owners a) ≡ records)
  unfolding records_of
  records_are a _ (from_dinode_block has plain) =
      let d = has_dinode im owners l laid a has.inode in
      (has, cond-false _ _ _ (hashed_is im owners l laid a d ∙ plain) ∙ ap (λ bytes. records_in (drop dinode_length bytes)) (own_block im owners a d))
  records_are a _ (from_leaves leaves has hashed are) =
      let d = has_dinode im owners l laid a has.inode in (
        has,
        cond-true _ _ _ (hashed_is im owners l laid a d ∙ hashed) ∙ ap (flat_map (λ x. records_in (leaf_area (holding im owners a) x))) (leaves_are a leaves are)
            ∙ flat_map_same (λ x. records_in (leaf_area (holding im owners a) x)) (λ x. records_in (leaf_area (every im a) x)) leaves (λ x h.
            let leaf = are.only x (contained x leaves h) in
            ap (λ bytes. records_in (drop 104 bytes)) (block_same im owners a x (InChain leaf.1 leaf.2) (chained_part im owners a x leaf.1 leaf.2 (has_leaf_row im owners l laid a x leaf)))),
      )

  module _ (a : ℕ) (records : List Record) (has : HasRecords im a records) where
    directory : IsDirectory (heads_of im owners) owners a (records_of (holding im owners a)) (dinode_in (holding im owners a))
    directory = laid.directories a (has_dinode im owners l laid a (records_are a records has).0.inode) (has_directory im owners l laid a (records_are a records has).0)

    same : dinode_in (holding im owners a) ≡ dinode_in (every im a)
    same = dinode_is im owners l laid a (has_dinode im owners l laid a (records_are a records has).0.inode)

    pub links_counted : (dinode_in (every im a)).nlink ≡ 2 + directory_count records
    links_counted = ap (λ (d : Dinode). d.nlink) (sym same) ∙ directory.links ∙ ap (λ rs. 2 + directory_count rs) (records_are a records has).1

    pub entries_counted : (dinode_in (every im a)).entries ≡ length records
    entries_counted = ap (λ (d : Dinode). d.entries) (sym same) ∙ directory.entries ∙ ap length (records_are a records has).1

  -- ---- the blocks of an inode

  module _ (a : ℕ) (dinode : is_dinode (owners a) ≡ true) where
    is_own_or_other : (x : ℕ) → one_if (is_some ((holding im owners a).cell x)) ≡ one_if (is_other (part_at (holding im owners a) x)) + one_if (x == a)
    is_own_or_other x = each (part_at (holding im owners a) x) refl (cases_eq x a)
      where
        same_part : (c : Option Cell) (p : Option Part) → cell_part c ≡ p → is_some c ≡ is_some p
        same_part None p e = ap is_some e
        same_part (Some c) p e = ap is_some e

        own : x ≡ a → part_at (holding im owners a) x ≡ Some Itself
        own s = ap (part_at (holding im owners a)) s ∙ own_part im owners a dinode

        each : (p : Option Part) → part_at (holding im owners a) x ≡ p → (x ≡ a) ⊎ (x ≢ a)
            → one_if (is_some ((holding im owners a).cell x)) ≡ one_if (is_other (part_at (holding im owners a) x)) + one_if (x == a)
        each None e (inl s) = absurd (none_some (sym e ∙ own s))
        each None e (inr d) = omega (arith, ap one_if (same_part ((holding im owners a).cell x) None e), ap (λ q. one_if (is_other q)) e, ap one_if (ne_eqb x a d))
        each (Some Itself) e (inl s) = omega (arith, ap one_if (same_part ((holding im owners a).cell x) (Some Itself) e), ap (λ q. one_if (is_other q)) e, ap one_if (eq-eqb x a s))
        each (Some Itself) e (inr d) = absurd (d (itself_own im owners a x e))
        each (Some (Pointed b k level first)) e (inl s) = absurd (not_pointed b k level first (some_same (sym (own s) ∙ e)))
        each (Some (Pointed b k level first)) e (inr d) =
            omega (arith, ap one_if (same_part ((holding im owners a).cell x) (Some (Pointed b k level first)) e), ap (λ q. one_if (is_other q)) e, ap one_if (ne_eqb x a d))
        each (Some (InChain hash place)) e (inl s) = absurd (not_in_chain hash place (some_same (sym (own s) ∙ e)))
        each (Some (InChain hash place)) e (inr d) =
            omega (arith, ap one_if (same_part ((holding im owners a).cell x) (Some (InChain hash place)) e), ap (λ q. one_if (is_other q)) e, ap one_if (ne_eqb x a d))

    others_are : (blocks : List ℕ) → AreWithin im a blocks → filter (λ x. is_other (part_at (holding im owners a) x)) (range_with_len 0 im.count) ≡ blocks
    others_are blocks are =
        same_rising (filter (λ x. is_other (part_at (holding im owners a) x)) (range_with_len 0 im.count)) blocks
        (rising_filter (λ x. is_other (part_at (holding im owners a) x)) (range_with_len 0 im.count) (rising_range 0 im.count)) (rising blocks are.rise) to from
      where
        claimed : (x : ℕ) (o : Owner) → owners x ≡ o → IsUsed o → IsWithin a o → IsIn x blocks
        claimed x o row used within = let claim = used_claim im owners l laid x o row used in is_in x blocks (are.all claim.0 x o claim.1 within)

        to : (x : ℕ) → IsIn x (filter (λ y. is_other (part_at (holding im owners a) y)) (range_with_len 0 im.count)) → IsIn x blocks
        to x h = each (part_at (holding im owners a) x) refl (from_filter (λ y. is_other (part_at (holding im owners a) y)) x (range_with_len 0 im.count) h).1
          where
            each : (p : Option Part) → part_at (holding im owners a) x ≡ p → is_other p ≡ true → IsIn x blocks
            each None e so = absurd (true≢false (sym so))
            each (Some Itself) e so = absurd (true≢false (sym so))
            each (Some (Pointed b k level first)) e so = claimed x (Below a b k level first) (pointed_owner im owners a x b k level first e) tt refl
            each (Some (InChain hash place)) e so = claimed x (Chained a hash place) (chained_owner im owners a x hash place e) tt refl

        from : (x : ℕ) → IsIn x blocks → IsIn x (filter (λ y. is_other (part_at (holding im owners a) y)) (range_with_len 0 im.count))
        from x h =
            let has = are.only x (contained x blocks h) in
            let row = claim_row im owners l laid has.0 x has.1.0 has.1.1 in
            in_filter (λ y. is_other (part_at (holding im owners a) y)) x (range_with_len 0 im.count)
            (in_range 0 im.count x (omega arith) (omega (arith, used_low im owners l laid x (claimed_used im owners l laid has.0 x has.1.0 has.1.1)))) (other has.1.0 row has.1.2)
          where
            other : (o : Owner) → owners x ≡ o → IsWithin a o → is_other (part_at (holding im owners a) x) ≡ true
            other (Below d b k level first) row e = ap is_other (pointed_part im owners a x b k level first (row ∙ (λ i. Below (e i) b k level first)))
            other (Chained d hash place) row e = ap is_other (chained_part im owners a x hash place (row ∙ (λ i. Chained (e i) hash place)))
            other Super row e = elim e [ ]
            other (InGroup g) row e = elim e [ ]
            other (Free g) row e = elim e [ ]
            other Nobody row e = elim e [ ]
            other Root row e = elim e [ ]
            other Master row e = elim e [ ]
            other (Named p name) row e = elim e [ ]

    -- all blocks of the inode, counted
    pub blocks_counted : (blocks : List ℕ) → AreWithin im a blocks → (dinode_in (every im a)).blocks ≡ 1 + length blocks
    unfolding block_count
    blocks_counted blocks are =
        ap (λ (d : Dinode). d.blocks) (sym (dinode_is im owners l laid a dinode)) ∙ (sound im owners l laid a dinode).blocks
        ∙ omega (
          arith,
          count_split (λ x. is_some ((holding im owners a).cell x)) (λ x. is_other (part_at (holding im owners a) x)) (λ x. x == a) (range_with_len 0 im.count) is_own_or_other,
          one_there a 0 im.count (omega arith) (omega (arith, used_low im owners l laid a (used_dinode (owners a) dinode))),
          count_filter (λ x. is_other (part_at (holding im owners a) x)) (range_with_len 0 im.count),
          ap length (others_are blocks are),
        )
