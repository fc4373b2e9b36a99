-- In an image that stands, what claims a block is its owner in the table.
use Rattle.std.proofs.Common.{◌≡◌, ℕ, suc, ◌+◌, ◌-◌, ◌*◌, ◌/◌, ◌^◌, ◌<◌, inl, inr, Bool, true, false, drop, Some, refl, sym, ap, ap₂, ◌∙◌, subst, arith}
use Rattle.std.proofs.lemmas.Bool.{cases_Bool, cond-true, cond-false, true≢false}
use Rattle.std.specs.Prelude.{Contains, ◌&&◌}
use Rattle.std.specs.List.{range_with_len}
use Rattle.gfs2_layout.specs.Bytes.{u64_at}
use Rattle.gfs2_layout.specs.Structures.{dinode_length, is_directory}
use Rattle.gfs2_layout.specs.declared.dinode.Dinode.{Dinode}
use Rattle.gfs2_layout.specs.declared.leaf.Leaf.{Leaf}
use Rattle.image_model.specs.Image.{Image}
use Rattle.image_model.specs.Owners.{Owner, Owners, Chained, is_dinode, IsUsed, IsWithin, holding}
use Rattle.gfs2_layout.specs.Holding.{Pointed, InChain, part_at}
use Rattle.gfs2_layout.specs.Records.{Record, records_in}
use Rattle.gfs2_layout.specs.Inode.{dinode_in, has_hash_flag, is_directory_in, is_hashed_in, header_length, span, pointer, linear_area, leaf_area, is_leaf_part, leaves_of, records_of, IsChild, IsInode, table_count, entry, leaf_in, first_hash, Leads, from_dinode, from_block}
use Rattle.image_model.specs.Stands.{Layout, IsLaid}
use Rattle.image_model.specs.Claims.{every, Claims, root, master, below, first_leaf, next_leaf, in_dinode, in_leaf}
use Rattle.image_model.proofs.Members.{IsIn, contained, is_in, in_flat_map, in_filter, in_range}
use Rattle.image_model.proofs.Held.{own_block, block_same, pointed_owner, chained_owner, chained_part}
use Rattle.image_model.proofs.Same.{dinode_same, entry_same, leaf_same}

pub and_left : (p q : Bool) → (p && q) ≡ true → p ≡ true
and_left true q e = refl
and_left false q e = absurd (true≢false (sym e))

module _ (im : Image) (owners : Owners) (l : Layout) (laid : IsLaid im owners l) where
  module _ (a : ℕ) (dinode : is_dinode (owners a) ≡ true) where
    pub sound : IsInode (holding im owners a)
    sound = laid.inodes a dinode

    pub dinode_is : dinode_in (holding im owners a) ≡ dinode_in (every im a)
    dinode_is = dinode_same im owners a dinode sound

    pub directory_is : is_directory_in (holding im owners a) ≡ is_directory_in (every im a)
    directory_is = ap is_directory dinode_is

    pub hashed_is : is_hashed_in (holding im owners a) ≡ is_hashed_in (every im a)
    hashed_is = ap (λ d. is_directory d && has_hash_flag d) dinode_is

    -- a pointer that is reached leads to a block whose part it is, and to content before the inode's end
    pub leads_child : (b k level first c : ℕ) → Leads (every im a) b k level first c → IsChild (holding im owners a) b k level first c
    leads_child _ _ _ _ _ (from_dinode k level high low some) =
        let same : pointer (holding im owners a) dinode_length a k ≡ pointer (every im a) dinode_length a k = ap (u64_at (dinode_length + 8 * k)) (own_block im owners a dinode) in
        subst (IsChild (holding im owners a) a k level (k * span im.size level)) same
        (sound.tree.top level (ap (λ (d : Dinode). d.height) dinode_is ∙ high) k low (λ e. some (sym same ∙ e)))
    leads_child _ _ _ _ _ (from_block b k level first c j way low some) =
        let g = (leads_child b k (suc level) first c way).part in
        let same : pointer (holding im owners a) header_length c j ≡ pointer (every im a) header_length c j
        = ap (u64_at (header_length + 8 * j)) (block_same im owners a c (Pointed b k (suc level) first) g) in
        subst (IsChild (holding im owners a) c j level (first + j * span im.size level)) same
        (sound.tree.inner c b k level first g j low (λ e. some (sym same ∙ e)))

    -- what a linear directory's block has as a record is one of its records
    pub linear_record : is_hashed_in (holding im owners a) ≡ false → (r : Record) → Contains (records_in (linear_area (every im a))) r → Contains (records_of (holding im owners a)) r
    unfolding records_of
    linear_record plain r there =
        subst (λ rs. Contains rs r) (ap (λ bytes. records_in (drop dinode_length bytes)) (sym (own_block im owners a dinode)) ∙ sym (cond-false _ _ _ plain)) there

    -- what a leaf has as a record is one of the directory's
    pub leaf_record : is_hashed_in (holding im owners a) ≡ true → (x hash place : ℕ) → owners x ≡ Chained a hash place
        → (r : Record) → Contains (records_in (leaf_area (every im a) x)) r → Contains (records_of (holding im owners a)) r
    unfolding records_of
    leaf_record hashed x hash place row r there =
        let part = chained_part im owners a x hash place row in
        let low : x < im.count = used_low x (subst IsUsed (sym row) tt) in
        let listed : IsIn x (leaves_of (holding im owners a))
        = in_filter (λ y. is_leaf_part (part_at (holding im owners a) y)) x (range_with_len 0 im.count) (in_range 0 im.count x (omega arith) (omega (arith, low))) (ap is_leaf_part part) in
        let same : leaf_area (holding im owners a) x ≡ leaf_area (every im a) x = ap (drop 104) (block_same im owners a x (InChain hash place) part) in
        contained r _ (subst (IsIn r) (sym (cond-true _ _ _ hashed))
        (in_flat_map (λ y. records_in (leaf_area (holding im owners a) y)) x r (leaves_of (holding im owners a)) listed (subst (λ area. IsIn r (records_in area)) (sym same) (is_in r _ there))))
      where
        used_low : (x : ℕ) → IsUsed (owners x) → x < im.count
        used_low x used =
            let g = laid.zoned.placed x used in
            omega (arith, g.2.high, (laid.fit.each g.0 g.1).inside)

    -- the table of a hashed directory
    pub count_is : table_count (holding im owners a) ≡ table_count (every im a)
    count_is = ap (λ (d : Dinode). 2 ^ d.depth) dinode_is

    pub entry_part : is_hashed_in (holding im owners a) ≡ true → (i : ℕ) → i < table_count (every im a)
        → part_at (holding im owners a) (entry (holding im owners a) i) ≡ Some (InChain (first_hash (holding im owners a) i) 0)
    entry_part hashed i low = (sound.hashed hashed).leads i (subst (λ n. i < n) (sym count_is) low)

    pub first_leaf_is : is_hashed_in (holding im owners a) ≡ true → (i : ℕ) → i < table_count (every im a)
        → leaf_in (holding im owners a) (entry (holding im owners a) i) ≡ leaf_in (every im a) (entry (every im a) i)
    first_leaf_is hashed i low =
        leaf_same im owners a dinode sound (entry (holding im owners a) i) (first_hash (holding im owners a) i) 0 (entry_part hashed i low)
        ∙ ap (leaf_in (every im a)) (entry_same im owners a dinode sound i)

    pub first_hash_is : is_hashed_in (holding im owners a) ≡ true → (i : ℕ) → i < table_count (every im a)
        → first_hash (holding im owners a) i ≡ first_hash (every im a) i
    first_hash_is hashed i low =
        ap₂ (λ depth d. i / 2 ^ (depth - d) * 2 ^ (32 - d)) (ap (λ (d : Dinode). d.depth) dinode_is) (ap (λ (x : Leaf). x.depth) (first_leaf_is hashed i low))

  -- a directory with a leaf is hashed
  pub leaf_row : (x a hash place : ℕ) → owners x ≡ Chained a hash place → is_dinode (owners a) ≡ true
  leaf_row x a hash place row = laid.within x a (subst (IsWithin a) (sym row) refl)

  pub leaf_hashed : (x a hash place : ℕ) → owners x ≡ Chained a hash place → is_hashed_in (holding im owners a) ≡ true
  leaf_hashed x a hash place row = elim (cases_Bool (is_hashed_in (holding im owners a))) [
    | inl so ↦ so
    | inr non ↦ absurd ((laid.inodes a (leaf_row x a hash place row)).leafless non x hash place (chained_part im owners a x hash place row))
  ]

  pub claim_row : (by c : ℕ) (o : Owner) → Claims im by c o → owners c ≡ o
  claim_row _ _ _ root = ap owners laid.super.root ∙ laid.root.0
  claim_row _ _ _ master = ap owners laid.super.master ∙ laid.master
  claim_row _ _ _ (below by a o b k level first c claim dinode leads) =
      let d : is_dinode (owners a) ≡ true = ap is_dinode (claim_row by a o claim) ∙ dinode in
      pointed_owner im owners a c b k level first (leads_child a d b k level first c leads).part
  claim_row _ _ _ (first_leaf by a o i claim dinode hashed low some) =
      let d : is_dinode (owners a) ≡ true = ap is_dinode (claim_row by a o claim) ∙ dinode in
      let so : is_hashed_in (holding im owners a) ≡ true = hashed_is a d ∙ hashed in
      ap owners (sym (entry_same im owners a d (sound a d) i))
      ∙ chained_owner im owners a (entry (holding im owners a) i) (first_hash (holding im owners a) i) 0 (entry_part a d so i low)
      ∙ ap (λ hash. Chained a hash 0) (first_hash_is a d so i low)
  claim_row _ _ _ (next_leaf by x a hash place claim more) =
      let row : owners x ≡ Chained a hash place = claim_row by x (Chained a hash place) claim in
      let d : is_dinode (owners a) ≡ true = leaf_row x a hash place row in
      let part = chained_part im owners a x hash place row in
      let same = leaf_same im owners a d (sound a d) x hash place part in
      let next = ((sound a d).hashed (leaf_hashed x a hash place row)).next x hash place part (λ e. more (ap (λ (y : Leaf). y.next) (sym same) ∙ e)) in
      ap (λ (y : Leaf). owners y.next) (sym same) ∙ chained_owner im owners a (leaf_in (holding im owners a) x).next hash (place + 1) next.part
  claim_row _ _ _ (in_dinode by a o r claim dinode dir plain there name) =
      let d : is_dinode (owners a) ≡ true = ap is_dinode (claim_row by a o claim) ∙ dinode in
      ((laid.directories a d (directory_is a d ∙ dir)).down r (linear_record a d (hashed_is a d ∙ plain) r there) name).owner
  claim_row _ _ _ (in_leaf by x a hash place r claim there name) =
      let row : owners x ≡ Chained a hash place = claim_row by x (Chained a hash place) claim in
      let d : is_dinode (owners a) ≡ true = leaf_row x a hash place row in
      let so : is_hashed_in (holding im owners a) ≡ true = leaf_hashed x a hash place row in
      ((laid.directories a d (and_left _ _ so)).down r (leaf_record a d so x hash place row r there) name).owner
