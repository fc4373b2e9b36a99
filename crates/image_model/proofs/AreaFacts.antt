-- The areas of records of the directories of an image that stands.
use Rattle.std.proofs.Common.{◌≡◌, ℕ, inl, inr, true, List, drop, sym, ap, ◌∙◌, subst}
use Rattle.std.proofs.lemmas.Bool.{cases_Bool, cond-true, cond-false}
use Rattle.std.specs.Prelude.{Contains}
use Rattle.std.specs.List.{range_with_len}
use Rattle.gfs2_layout.specs.Structures.{dinode_length}
use Rattle.image_model.specs.Image.{Image}
use Rattle.image_model.specs.Owners.{Owners, is_dinode, holding}
use Rattle.gfs2_layout.specs.Holding.{InChain, part_at}
use Rattle.gfs2_layout.specs.Records.{Record, records_in, IsRecordArea}
use Rattle.gfs2_layout.specs.Inode.{dinode_in, is_directory_in, is_hashed_in, linear_area, leaf_area, is_leaf_part, leaves_of, records_of}
use Rattle.image_model.specs.Stands.{Layout, IsLaid, IsDirectory, heads_of}
use Rattle.image_model.specs.Claims.{every, HasInode, HasDirectory, HasArea, behind_dinode, of_leaf}
use Rattle.image_model.specs.Rules.{HasRecordIn}
use Rattle.image_model.proofs.Members.{IsIn, contained, is_in, from_flat_map, from_filter}
use Rattle.image_model.proofs.Held.{own_block, block_same, chained_owner, chained_part}
use Rattle.image_model.proofs.Rows.{sound, directory_is, hashed_is, linear_record, leaf_record, leaf_row, leaf_hashed, and_left}
use Rattle.image_model.proofs.Reach.{leaf_part, leaf_claim, inode_claim}
use Rattle.image_model.proofs.Facts.{has_dinode, has_directory, has_leaf_row}

-- a sound area of a directory, whose records are the directory's
pub record IsAreaOf (im : Image) (owners : Owners) (a : ℕ) (area : List ℕ) : Type 0 where
  pub dinode : is_dinode (owners a) ≡ true
  pub directory : is_directory_in (holding im owners a) ≡ true
  pub sound_area : IsRecordArea area
  pub listed : (r : Record) → Contains (records_in area) r → Contains (records_of (holding im owners a)) r

module _ (im : Image) (owners : Owners) (l : Layout) (laid : IsLaid im owners l) where
  pub area_of : (a x : ℕ) (area : List ℕ) → HasArea im a x area → IsAreaOf im owners a area
  area_of a _ _ (behind_dinode has plain) =
      let d = has_dinode im owners l laid a has.inode in
      let dir = has_directory im owners l laid a has in
      let non = hashed_is im owners l laid a d ∙ plain in
      record {
        dinode = d;
        directory = dir;
        sound_area = subst (λ bytes. IsRecordArea (drop dinode_length bytes)) (own_block im owners a d) ((sound im owners l laid a d).linear dir non).area;
        listed = linear_record im owners l laid a d non;
      }
  area_of a _ _ (of_leaf x has) =
      let row = has_leaf_row im owners l laid a x has in
      let d = leaf_row im owners l laid x a has.1 has.2 row in
      let so = leaf_hashed im owners l laid x a has.1 has.2 row in
      let part = chained_part im owners a x has.1 has.2 row in
      record {
        dinode = d;
        directory = and_left _ _ so;
        sound_area = subst (λ bytes. IsRecordArea (drop 104 bytes)) (block_same im owners a x (InChain has.1 has.2) part) (((sound im owners l laid a d).hashed so).leaves x has.1 has.2 part).area;
        listed = leaf_record im owners l laid a d so x has.1 has.2 row;
      }

  module _ (a : ℕ) (dinode : is_dinode (owners a) ≡ true) where
    pub inode_there : HasInode im a
    inode_there = let claim = inode_claim im owners l laid a dinode in (owners a, record { by = claim.0; claimed = claim.1; dinode = dinode })

    module _ (dir : is_directory_in (holding im owners a) ≡ true) where
      pub directory_there : HasDirectory im a
      directory_there = record { inode = inode_there; dir = sym (directory_is im owners l laid a dinode) ∙ dir }

      -- each record of the directory stands in one of its areas
      pub record_there : (r : Record) → Contains (records_of (holding im owners a)) r → (x : ℕ) × HasRecordIn im a x r
      unfolding records_of
      record_there r there = elim (cases_Bool (is_hashed_in (holding im owners a))) [
        | inr plain ↦ (
          a,
          (
            linear_area (every im a),
            behind_dinode directory_there (sym (hashed_is im owners l laid a dinode) ∙ plain),
            subst (λ rs. Contains rs r) (cond-false _ _ _ plain ∙ ap (λ bytes. records_in (drop dinode_length bytes)) (own_block im owners a dinode)) there,
          ),
        )
        | inl hashed ↦
            let here = from_flat_map (λ x. records_in (leaf_area (holding im owners a) x)) r (leaves_of (holding im owners a)) (subst (IsIn r) (cond-true _ _ _ hashed) (is_in r _ there)) in
            let kept = from_filter (λ x. is_leaf_part (part_at (holding im owners a) x)) here.0 (range_with_len 0 im.count) here.1 in
            let part = leaf_part (part_at (holding im owners a) here.0) kept.1 in
            let row = chained_owner im owners a here.0 part.0 part.1 part.2 in
            let from = leaf_claim im owners l laid a dinode (inode_claim im owners l laid a dinode) part.1 part.0 here.0 row in
            let same : leaf_area (holding im owners a) here.0 ≡ leaf_area (every im a) here.0 = ap (drop 104) (block_same im owners a here.0 (InChain part.0 part.1) part.2) in
            (here.0, (leaf_area (every im a) here.0, of_leaf here.0 (from.0, part.0, part.1, from.1), contained r _ (subst (λ area. IsIn r (records_in area)) same here.2)))
      ]

      pub directory_sound : IsDirectory (heads_of im owners) owners a (records_of (holding im owners a)) (dinode_in (holding im owners a))
      directory_sound = laid.directories a dinode dir
