-- An inode of which two images have the blocks alike: its places, its content, its leaves and its names are the same in both.
use Rattle.std.proofs.Common.{◌≡◌, ℕ, zero, suc, ◌+◌, ◌-◌, ◌*◌, ◌/◌, ◌%◌, ◌^◌, ◌<◌, ◌==◌, ◌⊎◌, inl, inr, true, false, List, drop, take, refl, sym, ap, ap₂, ◌∙◌, subst, arith}
use Rattle.std.proofs.lemmas.Bool.{cases_eq, cond-true, cond-false, eq-eqb, ne_eqb}
use Rattle.std.proofs.lemmas.Nat.{div_below}
use Rattle.std.proofs.Math.Nat.{div-add-mod, mul_comm}
use Rattle.std.specs.Prelude.{◌&&◌, if◌then◌else◌, flat_map, replicate, Contains}
use Rattle.std.specs.List.{range_with_len}
use Rattle.gfs2_layout.specs.Bytes.{u64_at}
use Rattle.gfs2_layout.specs.Holding.{Holding, bytes_at}
use Rattle.gfs2_layout.specs.Inode.{Fits, Leads, from_dinode, from_block, dinode_in, height_in, has_hash_flag, is_directory_in, is_hashed_in, header_length, fan, span, pointer, descend, content_block, unit, carried, pieces, content_count, content_of, depth_in, entry, entry_block, first_hash, leaf_in}
use Rattle.gfs2_layout.specs.Records.{records_in}
use Rattle.gfs2_layout.specs.Structures.{dinode_of, dinode_length, is_directory, leaf_of}
use Rattle.gfs2_layout.specs.declared.dinode.Dinode.{Dinode}
use Rattle.gfs2_layout.specs.declared.leaf.Leaf.{Leaf}
use Rattle.image_model.specs.Claims.{every, Claims, first_leaf, next_leaf, in_dinode, in_leaf, HasInode, LeadsTo}
use Rattle.image_model.specs.Image.{Blocks, Image}
use Rattle.image_model.specs.Owners.{Chained, Named}
use Rattle.image_model.proofs.Members.{from_range}
use Rattle.image_model.proofs.Same.{flat_map_same, positive}

zero_below : (h : Holding) (level i : ℕ) → descend h level 0 i ≡ 0
zero_below h zero i = refl
zero_below h (suc level) i = refl

module _ (s n : ℕ) (f g : Blocks) (d : ℕ) where
  abbrev one_image : Image
  one_image = record { size = s; count = n; at = f }

  abbrev other_image : Image
  other_image = record { size = s; count = n; at = g }

  abbrev a : Holding
  a = every one_image d

  abbrev b : Holding
  b = every other_image d

  -- ---- its places, where each block above content is alike, of those on a way

  module _ (fits : Fits a) (own : f d ≡ g d) (Off : ℕ → ℕ → ℕ → Type 0)
      (next_off : (level c i : ℕ) → Off (suc level) c i → Off level (pointer a header_length c (i / span s level)) (i % span s level))
      (ways : (p k level first c i : ℕ) → Leads a p k (suc level) first c → first < content_count a → Off (suc level) c i → f c ≡ g c) where
    pub dinode_same : dinode_in a ≡ dinode_in b
    unfolding dinode_in
    dinode_same = ap dinode_of own

    unit_same : unit a ≡ unit b
    unit_same = ap (λ x. if is_directory x then s - header_length else s) dinode_same

    pub count_same : content_count a ≡ content_count b
    count_same = ap₂ pieces (ap (λ (x : Dinode). x.size) dinode_same) unit_same

    -- a hole, or a block of content
    abbrev pub IsLed : ℕ → Type 0
    IsLed x = (x ≡ 0) ⊎ ((p k first : ℕ) × Leads a p k 0 first x × (first < content_count a))

    descend_same : (level p k first c i : ℕ) → Leads a p k level first c → i < span s level → first + i < content_count a → Off level c i
        → (descend a level c i ≡ descend b level c i) × IsLed (descend a level c i)
    descend_same zero p k first c i leads low within off = (refl, inr (p, k, first, leads, omega (arith, within)))
    descend_same (suc level) p k first c i leads low within off =
        let pos : 0 < span s level = positive i (fan s header_length) (span s level) low in
        let bytes = ways p k level first c i leads (omega (arith, within)) off in
        let to : pointer a header_length c (i / span s level) ≡ pointer b header_length c (i / span s level) = ap (u64_at (header_length + 8 * (i / span s level))) bytes in
        let whole : first + (i / span s level) * span s level + i % span s level ≡ first + i = omega (arith, div-add-mod i (span s level), mul_comm (i / span s level) (span s level)) in
        let next : (descend a level (pointer a header_length c (i / span s level)) (i % span s level) ≡ descend b level (pointer a header_length c (i / span s level)) (i % span s level)) × IsLed (descend a level (pointer a header_length c (i / span s level)) (i % span s level))
        = elim (cases_eq (pointer a header_length c (i / span s level)) 0) [
          | inl none ↦ (
            ap (λ z. descend a level z (i % span s level)) none ∙ zero_below a level (i % span s level) ∙ sym (zero_below b level (i % span s level)) ∙ ap (λ z. descend b level z (i % span s level)) (sym none),
            inl (ap (λ z. descend a level z (i % span s level)) none ∙ zero_below a level (i % span s level)),
          )
          | inr some ↦
              descend_same level c (i / span s level) (first + (i / span s level) * span s level) (pointer a header_length c (i / span s level)) (i % span s level)
              (from_block p k level first c (i / span s level) leads (div_below i (span s level) (fan s header_length) pos low) some) (omega (arith, pos)) (omega (arith, whole, within)) (next_off level c i off)
        ] in
        elim (cases_eq c 0) [
          | inl e ↦ (cond-true _ 0 _ (eq-eqb c 0 e) ∙ sym (cond-true _ 0 _ (eq-eqb c 0 e)), inl (cond-true _ 0 _ (eq-eqb c 0 e)))
          | inr e ↦ (
            cond-false _ 0 _ (ne_eqb c 0 e) ∙ next.0 ∙ ap (λ z. descend b level z (i % span s level)) to ∙ sym (cond-false _ 0 _ (ne_eqb c 0 e)),
            subst IsLed (sym (cond-false _ 0 _ (ne_eqb c 0 e))) next.1,
          )
        ]

    -- the block of content with an index is the same, and it is led to
    pub place_same : (level : ℕ) → height_in a ≡ suc level → (i : ℕ) → i < content_count a → Off level (pointer a dinode_length d (i / span s level)) (i % span s level)
        → (content_block a i ≡ content_block b i) × IsLed (content_block a i)
    unfolding content_block
    place_same level high i within off =
        let low : i < fan s dinode_length * span s level = omega (arith, within, fits.under level high) in
        let pos : 0 < span s level = positive i (fan s dinode_length) (span s level) low in
        let less : height_in a - 1 ≡ level = omega (arith, high) in
        let less' : height_in b - 1 ≡ level = ap (λ (x : Dinode). x.height - 1) (sym dinode_same) ∙ less in
        let to : pointer a dinode_length d (i / span s level) ≡ pointer b dinode_length d (i / span s level) = ap (u64_at (dinode_length + 8 * (i / span s level))) own in
        let whole : (i / span s level) * span s level + i % span s level ≡ i = omega (arith, div-add-mod i (span s level), mul_comm (i / span s level) (span s level)) in
        let next : (descend a level (pointer a dinode_length d (i / span s level)) (i % span s level) ≡ descend b level (pointer a dinode_length d (i / span s level)) (i % span s level)) × IsLed (descend a level (pointer a dinode_length d (i / span s level)) (i % span s level))
        = elim (cases_eq (pointer a dinode_length d (i / span s level)) 0) [
          | inl none ↦ (
            ap (λ z. descend a level z (i % span s level)) none ∙ zero_below a level (i % span s level) ∙ sym (zero_below b level (i % span s level)) ∙ ap (λ z. descend b level z (i % span s level)) (sym none),
            inl (ap (λ z. descend a level z (i % span s level)) none ∙ zero_below a level (i % span s level)),
          )
          | inr some ↦
              descend_same level d (i / span s level) ((i / span s level) * span s level) (pointer a dinode_length d (i / span s level)) (i % span s level)
              (from_dinode (i / span s level) level high (div_below i (span s level) (fan s dinode_length) pos low) some) (omega (arith, pos)) (omega (arith, whole, within)) off
        ] in
        rw (less, less') (next.0 ∙ ap (λ z. descend b level z (i % span s level)) to, next.1)

  -- ---- its content, where each of its blocks is alike

  module _ (fits : Fits a) (own : f d ≡ g d) (led : (p k level first c : ℕ) → Leads a p k level first c → first < content_count a → f c ≡ g c) where
    same_dinode : dinode_in a ≡ dinode_in b
    unfolding dinode_in
    same_dinode = ap dinode_of own

    same_unit : unit a ≡ unit b
    same_unit = ap (λ x. if is_directory x then s - header_length else s) same_dinode

    same_count : content_count a ≡ content_count b
    same_count = ap₂ pieces (ap (λ (x : Dinode). x.size) same_dinode) same_unit

    pub content_is_same : content_of a ≡ content_of b
    unfolding content_of
    content_is_same = ap₂ take (ap (λ (x : Dinode). x.size) same_dinode) (inner (height_in a) refl)
      where
        piece : (level : ℕ) → height_in a ≡ suc level → (i : ℕ) → i < content_count a → carried a (content_block a i) ≡ carried b (content_block b i)
        piece level e i low = carried_same is.1 ∙ ap (carried b) is.0
          where
            is : (content_block a i ≡ content_block b i) × ((content_block a i ≡ 0) ⊎ ((p k first : ℕ) × Leads a p k 0 first (content_block a i) × (first < content_count a)))
            is = place_same fits own (λ level c i. Unit {0}) (λ level c i off. tt) (λ p k level first c i leads within off. led p k (suc level) first c leads within) level e i low tt

            carried_same : ((content_block a i ≡ 0) ⊎ ((p k first : ℕ) × Leads a p k 0 first (content_block a i) × (first < content_count a))) → carried a (content_block a i) ≡ carried b (content_block a i)
            carried_same way = elim (cases_eq (content_block a i) 0) [
              | inl e ↦ cond-true _ _ _ (eq-eqb (content_block a i) 0 e) ∙ ap (λ m. replicate m 0) same_unit ∙ sym (cond-true _ _ _ (eq-eqb (content_block a i) 0 e))
              | inr e ↦ elim way [
                | inl none ↦ absurd (e none)
                | inr at ↦ cond-false _ _ _ (ne_eqb (content_block a i) 0 e) ∙ ap₂ drop (ap (λ m. s - m) same_unit) (led at.0 at.1 0 at.2 (content_block a i) at.3 at.4) ∙ sym (cond-false _ _ _ (ne_eqb (content_block a i) 0 e))
              ]
            ]

        inner : (m : ℕ) → height_in a ≡ m
            → (if height_in a == 0 then drop dinode_length (bytes_at a d) else flat_map (λ i. carried a (content_block a i)) (range_with_len 0 (content_count a)))
            ≡ (if height_in b == 0 then drop dinode_length (bytes_at b d) else flat_map (λ i. carried b (content_block b i)) (range_with_len 0 (content_count b)))
        inner zero e = cond-true _ _ _ (eq-eqb (height_in a) 0 e) ∙ ap (drop dinode_length) own
            ∙ sym (cond-true _ _ _ (eq-eqb (height_in b) 0 (ap (λ (x : Dinode). x.height) (sym same_dinode) ∙ e)))
        inner (suc level) e = cond-false _ _ _ (ne_eqb (height_in a) 0 (λ z. absurd (omega (arith, e, z))))
            ∙ flat_map_same (λ i. carried a (content_block a i)) (λ i. carried b (content_block b i)) (range_with_len 0 (content_count a)) (λ i h. piece level e i (omega (arith, (from_range 0 (content_count a) i h).1)))
            ∙ ap (λ m. flat_map (λ i. carried b (content_block b i)) (range_with_len 0 m)) same_count
            ∙ sym (cond-false _ _ _ (ne_eqb (height_in b) 0 (λ z. absurd (omega (arith, e, ap (λ (x : Dinode). x.height) (sym same_dinode), z)))))

    -- ---- the leaves and the names of a directory

    module _ (leaves : (by x hash place : ℕ) → Claims one_image by x (Chained d hash place) → f x ≡ g x) where
      depth_same : depth_in a ≡ depth_in b
      depth_same = ap (λ (x : Dinode). x.depth) same_dinode

      entry_same : (i : ℕ) → entry a i ≡ entry b i
      entry_same i = ap (u64_at (8 * i)) content_is_same

      module _ (inode : HasInode other_image d) where
        pub leaf_there : (by x hash place : ℕ) → Claims one_image by x (Chained d hash place) → (by' : ℕ) × Claims other_image by' x (Chained d hash place)
        leaf_there _ _ _ _ (first_leaf by _ o i claim dinode hashed low some) =
            let hashed' : is_hashed_in b ≡ true = ap (λ x. is_directory x && has_hash_flag x) (sym same_dinode) ∙ hashed in
            let to = entry_same i in
            let claim' = subst (λ x. Claims other_image (entry_block b i) x (Chained d (first_hash b i) 0)) (sym to)
            (first_leaf inode.1.by d inode.0 i inode.1.claimed inode.1.dinode hashed' (subst (λ m. i < 2 ^ m) depth_same low) (λ e. some (to ∙ e))) in
            let bytes = leaves (entry_block a i) (entry a i) (first_hash a i) 0 (first_leaf by d o i claim dinode hashed low some) in
            let leaf : leaf_of (f (entry a i)) ≡ leaf_of (g (entry b i)) = ap leaf_of bytes ∙ ap (λ x. leaf_of (g x)) to in
            let hash : first_hash a i ≡ first_hash b i = ap₂ (λ (m : ℕ) (x : Leaf). i / 2 ^ (m - x.depth) * 2 ^ (32 - x.depth)) depth_same leaf in
            (entry_block b i, subst (λ z. Claims other_image (entry_block b i) (entry a i) (Chained d z 0)) (sym hash) claim')
        leaf_there _ _ _ _ (next_leaf by x _ hash place claim more) =
            let before = leaf_there by x hash place claim in
            let bytes = leaves by x hash place claim in
            let next : (leaf_in a x).next ≡ (leaf_in b x).next = ap (λ bs. (leaf_of bs).next) bytes in
            (x, subst (λ z. Claims other_image x z (Chained d hash (place + 1))) (sym next) (next_leaf before.0 x d hash place before.1 (λ e. more (next ∙ e))))

        pub name_there : (by c : ℕ) (name : List ℕ) → Claims one_image by c (Named d name) → LeadsTo other_image d name c
        name_there _ _ _ (in_dinode by _ o r claim dinode dir plain contains dots) =
            let dir' : is_directory_in b ≡ true = ap is_directory (sym same_dinode) ∙ dir in
            let plain' : is_hashed_in b ≡ false = ap (λ x. is_directory x && has_hash_flag x) (sym same_dinode) ∙ plain in
            (d, in_dinode inode.1.by d inode.0 r inode.1.claimed inode.1.dinode dir' plain' (subst (λ bs. Contains (records_in (drop dinode_length bs)) r) own contains) dots)
        name_there _ _ _ (in_leaf by x _ hash place r claim contains dots) =
            let leaf = leaf_there by x hash place claim in
            (x, in_leaf leaf.0 x d hash place r leaf.1 (subst (λ bs. Contains (records_in (drop 104 bs)) r) (leaves by x hash place claim) contains) dots)

      module _ (inode : HasInode one_image d) where
        pub leaf_back : (by x hash place : ℕ) → Claims other_image by x (Chained d hash place) → (by' : ℕ) × Claims one_image by' x (Chained d hash place)
        leaf_back _ _ _ _ (first_leaf by _ o i claim dinode hashed low some) =
            let hashed' : is_hashed_in a ≡ true = ap (λ x. is_directory x && has_hash_flag x) same_dinode ∙ hashed in
            let to = entry_same i in
            let claim' = first_leaf inode.1.by d inode.0 i inode.1.claimed inode.1.dinode hashed' (subst (λ m. i < 2 ^ m) (sym depth_same) low) (λ e. some (sym to ∙ e)) in
            let bytes = leaves (entry_block a i) (entry a i) (first_hash a i) 0 claim' in
            let leaf : leaf_of (f (entry a i)) ≡ leaf_of (g (entry b i)) = ap leaf_of bytes ∙ ap (λ x. leaf_of (g x)) to in
            let hash : first_hash a i ≡ first_hash b i = ap₂ (λ (m : ℕ) (x : Leaf). i / 2 ^ (m - x.depth) * 2 ^ (32 - x.depth)) depth_same leaf in
            (entry_block a i, subst (λ z. Claims one_image (entry_block a i) (entry b i) (Chained d z 0)) hash (subst (λ x. Claims one_image (entry_block a i) x (Chained d (first_hash a i) 0)) to claim'))
        leaf_back _ _ _ _ (next_leaf by x _ hash place claim more) =
            let before = leaf_back by x hash place claim in
            let bytes = leaves before.0 x hash place before.1 in
            let next : (leaf_in a x).next ≡ (leaf_in b x).next = ap (λ bs. (leaf_of bs).next) bytes in
            (x, subst (λ z. Claims one_image x z (Chained d hash (place + 1))) next (next_leaf before.0 x d hash place before.1 (λ e. more (sym next ∙ e))))

        pub name_back : (by c : ℕ) (name : List ℕ) → Claims other_image by c (Named d name) → LeadsTo one_image d name c
        name_back _ _ _ (in_dinode by _ o r claim dinode dir plain contains dots) =
            let dir' : is_directory_in a ≡ true = ap is_directory same_dinode ∙ dir in
            let plain' : is_hashed_in a ≡ false = ap (λ x. is_directory x && has_hash_flag x) same_dinode ∙ plain in
            (d, in_dinode inode.1.by d inode.0 r inode.1.claimed inode.1.dinode dir' plain' (subst (λ bs. Contains (records_in (drop dinode_length bs)) r) (sym own) contains) dots)
        name_back _ _ _ (in_leaf by x _ hash place r claim contains dots) =
            let leaf = leaf_back by x hash place claim in
            (x, in_leaf leaf.0 x d hash place r leaf.1 (subst (λ bs. Contains (records_in (drop 104 bs)) r) (sym (leaves leaf.0 x hash place leaf.1)) contains) dots)
