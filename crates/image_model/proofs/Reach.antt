-- In an image that stands, each block in use is claimed by its owner.
use Rattle.std.proofs.Common.{◌≡◌, ◌≢◌, ℕ, zero, suc, ◌+◌, ◌-◌, ◌*◌, ◌<◌, inl, inr, Bool, true, false, List, [], ◌∷◌, drop, Option, None, Some, refl, sym, ap, ◌∙◌, subst, arith}
use Rattle.std.proofs.lemmas.Bool.{cases_Bool, cond-true, cond-false, true≢false}
use Rattle.std.specs.Prelude.{Contains, option_and_then, find}
use Rattle.std.specs.List.{range_with_len}
use Rattle.std.specs.Option.{option_map}
use Rattle.std.specs.Str.{bytes_eq}
use Rattle.std.proofs.lemmas.Slice.Eq.{bytes_eq-Decides}
use Rattle.gfs2_layout.specs.Bytes.{u64_at}
use Rattle.gfs2_layout.specs.Structures.{dinode_length}
use Rattle.gfs2_layout.specs.declared.dinode.Dinode.{Dinode}
use Rattle.gfs2_layout.specs.declared.leaf.Leaf.{Leaf}
use Rattle.image_model.specs.Image.{Image}
use Rattle.image_model.specs.Owners.{Owner, Owners, Super, InGroup, Free, Nobody, Root, Master, Named, Below, Chained, is_dinode, IsUsed, IsWithin, holding}
use Rattle.gfs2_layout.specs.Device.{superblock_place}
use Rattle.image_model.specs.Flat.{Path, Node, no_node, follow}
use Rattle.gfs2_layout.specs.Holding.{Part, Itself, Pointed, InChain, Holding, part_at}
use Rattle.gfs2_layout.specs.Records.{Record, records_in, is_dots, record_named, child_named}
use Rattle.gfs2_layout.specs.Inode.{height_in, is_directory_in, is_hashed_in, header_length, span, pointer, leaf_area, is_leaf_part, leaves_of, records_of, IsPointed, by_dinode, by_block, table_count, entry, leaf_in, first_hash, Leads, from_dinode, from_block, entry_block}
use Rattle.image_model.specs.Nodes.{child_of, node_of}
use Rattle.image_model.specs.Stands.{Layout, IsLaid, flat_of}
use Rattle.image_model.specs.Claims.{every, Claims, root, master, below, first_leaf, next_leaf, in_dinode, in_leaf}
use Rattle.image_model.proofs.Members.{IsIn, contained, is_in, from_flat_map, from_filter}
use Rattle.image_model.proofs.Held.{none_some, some_same, own_block, block_same, pointed_owner, chained_owner, pointed_part, chained_part}
use Rattle.image_model.proofs.Same.{entry_same, leaf_same}
use Rattle.image_model.proofs.Rows.{sound, dinode_is, directory_is, hashed_is, count_is, entry_part, first_hash_is, claim_row, leaf_hashed}

-- a block is claimed by this owner
abbrev pub IsClaimed : Image → ℕ → Owner → Type 0
IsClaimed im c o = (by : ℕ) × Claims im by c o

-- what is found in a list is in it, and passes the test
pub found_in : {X : Type 0} (test : X → Bool) (x : X) (xs : List X) → find test xs ≡ Some x → IsIn x xs × (test x ≡ true)
found_in test x [] e = absurd (none_some e)
found_in test x (y ∷ ys) e = elim (cases_Bool (test y)) [
  | inl so ↦
      let same : y ≡ x = some_same (sym (cond-true _ _ _ so) ∙ e) in
      (inl (sym same), ap test (sym same) ∙ so)
  | inr non ↦ let more = found_in test x ys (sym (cond-false _ _ _ non) ∙ e) in (inr more.0, more.1)
]

-- a name that leads somewhere is that of a record
pub record Leading (records : List Record) (name : List ℕ) (b : ℕ) : Type 0 where
  pub entry : Record
  pub there : Contains records entry
  pub named : entry.name ≡ name
  pub address : entry.address ≡ b

pub leading : (records : List Record) (name : List ℕ) (b : ℕ) → child_named records name ≡ Some b → Leading records name b
leading records name b e = each (record_named records name) refl e
  where
    each : (o : Option Record) → record_named records name ≡ o → option_map (λ r. r.address) o ≡ Some b → Leading records name b
    each None f g = absurd (none_some g)
    each (Some r) f g =
        let found = found_in (λ r. bytes_eq name r.name) r records f in
        record { entry = r; there = contained r records found.0; named = sym ((bytes_eq-Decides name r.name).0 found.1); address = some_same g }

-- a child is led to by a record, and its name is neither `.` nor `..`
pub record IsNamedChild (h : Holding) (name : List ℕ) (b : ℕ) : Type 0 where
  pub directory : is_directory_in h ≡ true
  pub name_is : is_dots name ≡ false
  pub leads : Leading (records_of h) name b

pub named_child : (h : Holding) (name : List ℕ) (b : ℕ) → child_of h name ≡ Some b → IsNamedChild h name b
named_child h name b e = elim (cases_Bool (is_directory_in h)) [
  | inr non ↦ absurd (none_some (sym (cond-false _ _ _ non) ∙ e))
  | inl dir ↦ elim (cases_Bool (is_dots name)) [
    | inl dots ↦ absurd (none_some (sym (cond-true _ _ _ dir ∙ cond-true _ _ _ dots) ∙ e))
    | inr plain ↦ record { directory = dir; name_is = plain; leads = leading (records_of h) name b (sym (cond-true _ _ _ dir ∙ cond-false _ _ _ plain) ∙ e) }
  ]
]

pub leaf_part : (o : Option Part) → is_leaf_part o ≡ true → (hash place : ℕ) × (o ≡ Some (InChain hash place))
leaf_part None e = absurd (true≢false (sym e))
leaf_part (Some Itself) e = absurd (true≢false (sym e))
leaf_part (Some (Pointed b k level first)) e = absurd (true≢false (sym e))
leaf_part (Some (InChain hash place)) e = (hash, place, refl)

same_hash : (hash other : ℕ) → Some (InChain hash 0) ≡ Some (InChain other 0) → hash ≡ other
same_hash hash other e = cc

module _ (im : Image) (owners : Owners) (l : Layout) (laid : IsLaid im owners l) where
  -- a block in use is on the device and not the first
  pub used_low : (x : ℕ) → IsUsed (owners x) → x < im.count
  used_low x used =
      let g = laid.zoned.placed x used in
      omega (arith, g.2.high, (laid.fit.each g.0 g.1).inside)

  pub used_some : (x : ℕ) → IsUsed (owners x) → x ≢ 0
  used_some x used e =
      let g = laid.zoned.placed x used in
      absurd (omega (arith, e, g.2.low, (laid.fit.each g.0 g.1).first, (laid.fit.each g.0 g.1).above))

  module _ (a : ℕ) (dinode : is_dinode (owners a) ≡ true) (claim : IsClaimed im a (owners a)) where
    -- each block that has a part is reached by pointers
    pub part_leads : (n level x b k first : ℕ) → level + n ≡ height_in (holding im owners a) → part_at (holding im owners a) x ≡ Some (Pointed b k level first)
        → Leads (every im a) b k level first x
    part_leads zero level x b k first high part = absurd (omega (arith, high, (sound im owners l laid a dinode).tree.below x b k level first part))
    part_leads (suc n) level x b k first high part = each ((sound im owners l laid a dinode).tree.pointed x b k level first part) (λ above j start. part_leads n (suc level) b above j start (omega (arith, high)))
      where
        some : x ≢ 0
        some = used_some x (subst IsUsed (sym (pointed_owner im owners a x b k level first part)) tt)

        each : IsPointed (holding im owners a) x b k level first
            → ((above j start : ℕ) → part_at (holding im owners a) b ≡ Some (Pointed above j (suc level) start) → Leads (every im a) above j (suc level) start b)
            → Leads (every im a) b k level first x
        each (by_dinode own top low to begins) more =
            let same : pointer (holding im owners a) dinode_length a k ≡ pointer (every im a) dinode_length a k = ap (u64_at (dinode_length + 8 * k)) (own_block im owners a dinode) in
            let to' : pointer (every im a) dinode_length a k ≡ x = sym same ∙ ap (λ z. pointer (holding im owners a) dinode_length z k) (sym own) ∙ to in
            let way = from_dinode k level (ap (λ (d : Dinode). d.height) (sym (dinode_is im owners l laid a dinode)) ∙ top) low (λ e. some (sym to' ∙ e)) in
            subst (λ z. Leads (every im a) z k level first x) (sym own)
            (subst (λ z. Leads (every im a) a k level z x) (sym begins) (subst (Leads (every im a) a k level (k * span im.size level)) to' way))
        each (by_block above j start up low to begins) more =
            let same : pointer (holding im owners a) header_length b k ≡ pointer (every im a) header_length b k
            = ap (u64_at (header_length + 8 * k)) (block_same im owners a b (Pointed above j (suc level) start) up) in
            let to' : pointer (every im a) header_length b k ≡ x = sym same ∙ to in
            let way = from_block above j level start b k (more above j start up) low (λ e. some (sym to' ∙ e)) in
            subst (λ z. Leads (every im a) b k level z x) (sym begins) (subst (Leads (every im a) b k level (start + k * span im.size level)) to' way)

    pub below_claim : (x b k level first : ℕ) → owners x ≡ Below a b k level first → IsClaimed im x (Below a b k level first)
    below_claim x b k level first row =
        let part = pointed_part im owners a x b k level first row in
        let low = (sound im owners l laid a dinode).tree.below x b k level first part in
        (b, below claim.0 a (owners a) b k level first x claim.1 dinode (part_leads (height_in (holding im owners a) - level) level x b k first (omega (arith, low)) part))

    -- each leaf is reached through the table and its chain
    pub leaf_claim : (place hash x : ℕ) → owners x ≡ Chained a hash place → IsClaimed im x (Chained a hash place)
    leaf_claim zero hash x row =
        let part = chained_part im owners a x hash 0 row in
        let hashed = leaf_hashed im owners l laid x a hash 0 row in
        let at = ((sound im owners l laid a dinode).hashed hashed).headed x hash part in
        let low : at.0 < table_count (every im a) = subst (λ n. at.0 < n) (count_is im owners l laid a dinode) at.1 in
        let same : entry (every im a) at.0 ≡ x = sym (entry_same im owners a dinode (sound im owners l laid a dinode) at.0) ∙ at.2 in
        let begins : first_hash (every im a) at.0 ≡ hash
        = sym (first_hash_is im owners l laid a dinode hashed at.0 low)
        ∙ same_hash (first_hash (holding im owners a) at.0) hash (sym (entry_part im owners l laid a dinode hashed at.0 low) ∙ ap (part_at (holding im owners a)) at.2 ∙ part) in (
          entry_block (every im a) at.0,
          subst (λ z. Claims im (entry_block (every im a) at.0) z (Chained a hash 0)) same
              (subst (λ z. Claims im (entry_block (every im a) at.0) (entry (every im a) at.0) (Chained a z 0)) begins
              (first_leaf claim.0 a (owners a) at.0 claim.1 dinode (sym (hashed_is im owners l laid a dinode) ∙ hashed) low (λ e. used_some x (subst IsUsed (sym row) tt) (sym same ∙ e)))),
        )
    leaf_claim (suc place) hash x row =
        let part = chained_part im owners a x hash (suc place) row in
        let hashed = leaf_hashed im owners l laid x a hash (suc place) row in
        let at = ((sound im owners l laid a dinode).hashed hashed).chained x hash place part in
        let before = leaf_claim place hash at.0 (chained_owner im owners a at.0 hash place at.1) in
        let same : (leaf_in (every im a) at.0).next ≡ x
        = ap (λ (y : Leaf). y.next) (sym (leaf_same im owners a dinode (sound im owners l laid a dinode) at.0 hash place at.1)) ∙ at.2 in
        let one : place + 1 ≡ suc place = omega arith in (
          at.0,
          subst (λ z. Claims im at.0 x (Chained a hash z)) one
              (subst (λ z. Claims im at.0 z (Chained a hash (place + 1))) same
              (next_leaf before.0 at.0 a hash place before.1 (λ e. used_some x (subst IsUsed (sym row) tt) (sym same ∙ e)))),
        )

    -- each record's name leads to a block that is claimed by it
    pub record_claim : is_directory_in (holding im owners a) ≡ true → (r : Record) → Contains (records_of (holding im owners a)) r → is_dots r.name ≡ false
        → IsClaimed im r.address (Named a r.name)
    unfolding records_of
    record_claim dir r there name = elim (cases_Bool (is_hashed_in (holding im owners a))) [
      | inr plain ↦ (
        a,
        in_dinode claim.0 a (owners a) r claim.1 dinode (sym (directory_is im owners l laid a dinode) ∙ dir) (sym (hashed_is im owners l laid a dinode) ∙ plain)
            (subst (λ rs. Contains rs r) (cond-false _ _ _ plain ∙ ap (λ bytes. records_in (drop dinode_length bytes)) (own_block im owners a dinode)) there) name,
      )
      | inl hashed ↦
          let here = from_flat_map (λ x. records_in (leaf_area (holding im owners a) x)) r (leaves_of (holding im owners a)) (subst (IsIn r) (cond-true _ _ _ hashed) (is_in r _ there)) in
          let kept = from_filter (λ x. is_leaf_part (part_at (holding im owners a) x)) here.0 (range_with_len 0 im.count) here.1 in
          let part = leaf_part (part_at (holding im owners a) here.0) kept.1 in
          let from = leaf_claim part.1 part.0 here.0 (chained_owner im owners a here.0 part.0 part.1 part.2) in
          let same : leaf_area (holding im owners a) here.0 ≡ leaf_area (every im a) here.0 = ap (drop 104) (block_same im owners a here.0 (InChain part.0 part.1) part.2) in
          (here.0, in_leaf from.0 here.0 a part.0 part.1 r from.1 (contained r _ (subst (λ area. IsIn r (records_in area)) same here.2)) name)
    ]

    pub child_claim : (name : List ℕ) (b : ℕ) → (flat_of im owners a).child name ≡ Some b → IsClaimed im b (Named a name)
    child_claim name b e =
        let child = named_child (holding im owners a) name b (ap (λ (n : Node). n.child name) (sym (cond-true _ (node_of (holding im owners a)) no_node dinode)) ∙ e) in
        let c = record_claim child.directory child.leads.entry child.leads.there (ap is_dots child.leads.named ∙ child.name_is) in
        (c.0, subst (λ z. Claims im c.0 z (Named a name)) child.leads.address (subst (λ z. Claims im c.0 child.leads.entry.address (Named a z)) child.leads.named c.1))

  dinode_of_name : (a : ℕ) (name : List ℕ) (b : ℕ) → owners b ≡ Named a name → is_dinode (owners b) ≡ true
  dinode_of_name a name b row = ap is_dinode row

  -- only an inode leads to a child
  pub child_dinode : (a : ℕ) (name : List ℕ) (b : ℕ) → (flat_of im owners a).child name ≡ Some b → is_dinode (owners a) ≡ true
  child_dinode a name b e = elim (cases_Bool (is_dinode (owners a))) [
    | inl so ↦ so
    | inr non ↦ absurd (none_some (ap (λ (n : Node). n.child name) (sym (cond-false _ (node_of (holding im owners a)) no_node non)) ∙ e))
  ]

  path_claim : (path : Path) (x a : ℕ) → IsClaimed im x (owners x) → follow (flat_of im owners) x path ≡ Some a → IsClaimed im a (owners a)
  path_claim [] x a claim e = subst (λ z. IsClaimed im z (owners z)) (some_same e) claim
  path_claim (n ∷ path) x a claim e = step ((flat_of im owners x).child n) refl (λ b. path_claim path b a) e
    where
      step : (o : Option ℕ) → (flat_of im owners x).child n ≡ o → ((b : ℕ) → IsClaimed im b (owners b) → follow (flat_of im owners) b path ≡ Some a → IsClaimed im a (owners a))
          → option_and_then (λ b. follow (flat_of im owners) b path) o ≡ Some a → IsClaimed im a (owners a)
      step None f more g = absurd (none_some g)
      step (Some b) f more g =
          let c = child_claim x (child_dinode x n b f) claim n b f in
          more b (c.0, subst (Claims im c.0 b) (sym (claim_row im owners l laid c.0 b (Named x n) c.1)) c.1) g

  pub inode_claim : (a : ℕ) → is_dinode (owners a) ≡ true → IsClaimed im a (owners a)
  inode_claim a dinode = elim (laid.found a dinode) [
    | inl way ↦ path_claim way.0 l.root a (superblock_place im.size, subst (Claims im (superblock_place im.size) l.root) (sym laid.root.0) (subst (λ z. Claims im (superblock_place im.size) z Root) laid.super.root root)) way.1
    | inr way ↦ path_claim way.0 l.master a (superblock_place im.size, subst (Claims im (superblock_place im.size) l.master) (sym laid.master) (subst (λ z. Claims im (superblock_place im.size) z Master) laid.super.master master)) way.1
  ]

  -- each block in use is claimed by its owner
  pub used_claim : (c : ℕ) (o : Owner) → owners c ≡ o → IsUsed o → IsClaimed im c o
  used_claim c Super row used = elim used [ ]
  used_claim c (InGroup g) row used = elim used [ ]
  used_claim c (Free g) row used = elim used [ ]
  used_claim c Nobody row used = elim used [ ]
  used_claim c Root row used = subst (IsClaimed im c) row (inode_claim c (ap is_dinode row))
  used_claim c Master row used = subst (IsClaimed im c) row (inode_claim c (ap is_dinode row))
  used_claim c (Named a name) row used = subst (IsClaimed im c) row (inode_claim c (ap is_dinode row))
  used_claim c (Below a b k level first) row used =
      let d = laid.within c a (subst (IsWithin a) (sym row) refl) in
      below_claim a d (inode_claim a d) c b k level first row
  used_claim c (Chained a hash place) row used =
      let d = laid.within c a (subst (IsWithin a) (sym row) refl) in
      leaf_claim a d (inode_claim a d) place hash c row
