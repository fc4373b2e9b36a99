-- An image that stands breaks none of the rules on single blocks, owners and groups.
use Rattle.std.proofs.Common.{◌≡◌, ℕ, suc, ◌+◌, ◌-◌, ◌<◌, inl, inr, true, [], get_or, refl, sym, ap, ◌∙◌, subst, arith}
use Rattle.std.proofs.lemmas.List.FromFn.{get_or-map-range_with_len}
use Rattle.gfs2_layout.specs.declared.rindex.Rindex.{Rindex}
use Rattle.image_model.specs.Image.{Image}
use Rattle.gfs2_layout.specs.Bitmap.{state_at}
use Rattle.gfs2_layout.specs.Headers.{HasHeader}
use Rattle.gfs2_layout.specs.Holding.{Pointed, InChain}
use Rattle.image_model.specs.Owners.{Owner, Owners, Super, InGroup, Free, Nobody, Root, Master, Named, Below, Chained, is_dinode, IsWithin}
use Rattle.gfs2_layout.specs.Groups.{group_header, bitmap_of, count_of}
use Rattle.image_model.specs.Groups.{IsListed, IsDataOf, group_blocks, states_of, state_of, IsGroup}
use Rattle.image_model.specs.Stands.{Layout, IsLaid}
use Rattle.image_model.specs.Claims.{Claims}
use Rattle.image_model.specs.Rules.{Needs, of_superblock, of_group, of_bitmap, of_dinode, of_indirect, of_table, of_leaf, HasSoundGroup, IsOutside, bits_of, states_at, HasWrongBits, of_owner, unlinked, stray}
use Rattle.image_model.proofs.Held.{own_block, block_same, pointed_part, chained_part}
use Rattle.image_model.proofs.Rows.{sound, directory_is, claim_row, leaf_row, leaf_hashed}
use Rattle.image_model.proofs.Reach.{used_low, used_claim}
use Rattle.image_model.proofs.Facts.{has_dinode, has_leaf_row, claimed_used, group_listed, list_of}
use Rattle.image_model.proofs.Listing.{sound_group}

module _ (im : Image) (owners : Owners) (l : Layout) (laid : IsLaid im owners l) where
  listed : (g : Rindex) → HasSoundGroup im g → IsListed l.groups g
  listed g has = group_listed im owners l laid g (sound_group im g has)

  -- ---- headers

  -- block k of a group
  group_block : (g : Rindex) (k : ℕ) → k < g.length → get_or (group_blocks im.at g) k [] ≡ im.at (g.address + k)
  group_block g k low = get_or-map-range_with_len im.at g.address g.length k (g.address + k) [] low refl

  first_block : (g : Rindex) → IsListed l.groups g → get_or (group_blocks im.at g) 0 [] ≡ im.at g.address
  first_block g at = group_block g 0 (omega (arith, (laid.fit.each g at).some)) ∙ ap im.at (omega arith)

  below_dinode : (x a b k level first : ℕ) → owners x ≡ Below a b k level first → is_dinode (owners a) ≡ true
  below_dinode x a b k level first row = laid.within x a (subst (IsWithin a) (sym row) refl)

  pub header_there : (b kind format : ℕ) → Needs im b kind format → HasHeader kind format (im.at b)
  header_there _ _ _ of_superblock = laid.super.header
  header_there _ _ _ (of_group g has) =
      let at = listed g has in
      subst (HasHeader 2 200) (first_block g at) (laid.groups g at).header
  header_there _ _ _ (of_bitmap g k has some low) =
      let at = listed g has in
      subst (HasHeader 3 300) (group_block g k low) ((laid.groups g at).more k some low)
  header_there _ _ _ (of_dinode a has) =
      let d = has_dinode im owners l laid a has in
      subst (HasHeader 4 400) (own_block im owners a d) (sound im owners l laid a d).header
  header_there _ _ _ (of_indirect by a x b k level first claim) =
      let row = claim_row im owners l laid by x (Below a b k (suc level) first) claim in
      let d = below_dinode x a b k (suc level) first row in
      let part = pointed_part im owners a x b k (suc level) first row in
      subst (HasHeader 5 500) (block_same im owners a x (Pointed b k (suc level) first) part) ((sound im owners l laid a d).tree.indirect x b k level first part)
  header_there _ _ _ (of_table by a x b k first claim dir) =
      let row = claim_row im owners l laid by x (Below a b k 0 first) claim in
      let d = below_dinode x a b k 0 first row in
      let part = pointed_part im owners a x b k 0 first row in
      subst (HasHeader 7 700) (block_same im owners a x (Pointed b k 0 first) part) ((sound im owners l laid a d).tree.table x b k first (directory_is im owners l laid a d ∙ dir) part)
  header_there _ _ _ (of_leaf a x has) =
      let row = has_leaf_row im owners l laid a x has in
      let d = leaf_row im owners l laid x a has.1 has.2 row in
      let part = chained_part im owners a x has.1 has.2 row in
      subst (HasHeader 6 600) (block_same im owners a x (InChain has.1 has.2) part)
      (((sound im owners l laid a d).hashed (leaf_hashed im owners l laid x a has.1 has.2 row)).leaves x has.1 has.2 part).header

  -- ---- numbers of blocks, and owners

  pub on_device : (by c : ℕ) (o : Owner) → Claims im by c o → c < im.count
  on_device by c o claim = used_low im owners l laid c (claimed_used im owners l laid by c o claim)

  pub in_a_group : (by c : ℕ) (o : Owner) → Claims im by c o → IsOutside im c → ⊥
  in_a_group by c o claim out =
      let g = laid.zoned.placed c (claimed_used im owners l laid by c o claim) in
      out.2 g.0 (subst (λ gs. IsListed gs g.0) (sym (list_of im owners l laid out.1.sound.inode out.1.sound.rindex) ∙ out.1.sound.listed) g.1) g.2

  pub one_owner : (by by' b : ℕ) (o p : Owner) → Claims im by b o → Claims im by' b p → o ≡ p
  one_owner by by' b o p claim other = sym (claim_row im owners l laid by b o claim) ∙ claim_row im owners l laid by' b p other

  -- ---- groups

  pub has_group : (g : Rindex) → HasSoundGroup im g → IsGroup g (group_blocks im.at g) (states_of owners g)
  has_group g has = laid.groups g (listed g has)

  pub states_same : (g : Rindex) → HasSoundGroup im g → states_at im g ≡ states_of owners g
  states_same g has = (has_group g has).bits

  pub bits_same : (g : Rindex) (b : ℕ) → HasSoundGroup im g → IsDataOf g b → bits_of im g b ≡ state_of (owners b)
  bits_same g b has data_of =
      let low : b - g.data0 < g.data_blocks = omega (arith, data_of.low, data_of.high) in
      let here : g.data0 + (b - g.data0) ≡ b = omega (arith, data_of.low) in
      sym (get_or-map-range_with_len (state_at (bitmap_of (group_blocks im.at g))) 0 g.data_blocks (b - g.data0) (b - g.data0) 0 low (omega arith))
      ∙ ap (λ states. get_or states (b - g.data0) 0) (states_same g has)
      ∙ get_or-map-range_with_len (λ x. state_of (owners x)) g.data0 g.data_blocks (b - g.data0) b 0 low here

  not_two : (o : Owner) → state_of o ≡ 2 → ⊥
  not_two Super e = absurd (omega (arith, e))
  not_two (InGroup g) e = absurd (omega (arith, e))
  not_two (Free g) e = absurd (omega (arith, e))
  not_two Nobody e = absurd (omega (arith, e))
  not_two Root e = absurd (omega (arith, e))
  not_two Master e = absurd (omega (arith, e))
  not_two (Named a name) e = absurd (omega (arith, e))
  not_two (Below a b k level first) e = absurd (omega (arith, e))
  not_two (Chained a hash place) e = absurd (omega (arith, e))

  pub bits_right : (g : Rindex) (b : ℕ) → HasSoundGroup im g → IsDataOf g b → HasWrongBits im g b → ⊥
  bits_right g b has data_of (of_owner by o claim wrong) = wrong (bits_same g b has data_of ∙ ap state_of (claim_row im owners l laid by b o claim))
  bits_right g b has data_of (unlinked two) = not_two (owners b) (sym (bits_same g b has data_of) ∙ two)
  bits_right g b has data_of (stray nobody wrong) = elim (laid.zoned.data_blocks g (listed g has) b data_of) [
    | inl free ↦ wrong (bits_same g b has data_of ∙ ap state_of free)
    | inr used ↦ let claim = used_claim im owners l laid b (owners b) refl used in nobody claim.0 (owners b) claim.1
  ]

  pub free_counted : (g : Rindex) → HasSoundGroup im g → (group_header (group_blocks im.at g)).free ≡ count_of 0 (states_at im g)
  free_counted g has = (has_group g has).free ∙ ap (count_of 0) (sym (states_same g has))

  pub dinodes_counted : (g : Rindex) → HasSoundGroup im g → (group_header (group_blocks im.at g)).dinodes ≡ count_of 3 (states_at im g)
  dinodes_counted g has = (has_group g has).dinodes ∙ ap (count_of 3) (sym (states_same g has))
