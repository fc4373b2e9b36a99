-- Images that have the same blocks of their system files have the same system files.
use Rattle.std.proofs.Common.{◌≡◌, ℕ, zero, suc, ◌+◌, ◌-◌, ◌*◌, ◌/◌, ◌%◌, ◌^◌, ◌<◌, ◌≤◌, ◌==◌, ◌⊎◌, inl, inr, true, false, List, drop, take, Option, None, Some, refl, sym, ap, ap₂, ◌∙◌, subst, arith}
use Rattle.std.proofs.lemmas.Bool.{cases_eq, cond-true, cond-false, eq-eqb, ne_eqb}
use Rattle.std.proofs.lemmas.Nat.{div_below}
use Rattle.std.proofs.Math.Nat.{div-add-mod, mul_comm}
use Rattle.std.specs.Prelude.{◌&&◌, if◌then◌else◌, codes, flat_map, replicate, Contains}
use Rattle.std.specs.List.{range_with_len}
use Rattle.gfs2_layout.specs.Bytes.{u64_at}
use Rattle.gfs2_layout.specs.Device.{superblock_place}
use Rattle.gfs2_layout.specs.Holding.{Holding, bytes_at}
use Rattle.gfs2_layout.specs.Inode.{Fits, Leads, from_dinode, from_block, dinode_in, height_in, has_hash_flag, is_directory_in, is_hashed_in, header_length, fan, span, pointer, descend, content_block, unit, carried, pieces, content_count, content_of, depth_in, entry, entry_block, first_hash, leaf_in}
use Rattle.gfs2_layout.specs.Records.{records_in}
use Rattle.gfs2_layout.specs.Structures.{dinode_of, dinode_length, is_directory, leaf_of, superblock_of}
use Rattle.gfs2_layout.specs.declared.dinode.Dinode.{Dinode}
use Rattle.gfs2_layout.specs.declared.leaf.Leaf.{Leaf}
use Rattle.image_model.specs.Claims.{every, Claims, master, first_leaf, next_leaf, in_dinode, in_leaf, HasInode, LeadsTo, master_of}
use Rattle.image_model.specs.Image.{Blocks, Image}
use Rattle.image_model.specs.Journals.{journal_name}
use Rattle.image_model.specs.Owners.{Chained, Master, Named}
use Rattle.image_model.specs.Replays.{Replayed, live_at}
use Rattle.image_model.specs.Stands.{IsJournalAt}
use Rattle.image_model.specs.SystemFiles.{HasSameSystem, IsSystemBlock, IsSystemFile, is_jindex, is_journal, is_master, is_rindex, of_content, of_dinode, of_leaf, of_superblock}
use Rattle.image_model.proofs.Members.{from_range}
use Rattle.image_model.proofs.Same.{flat_map_same, positive}

-- there is an inode where a system file is
pub file_inode : (im : Image) (d : ℕ) → IsSystemFile im d → HasInode im d
file_inode im d (is_master e) = (Master, record { by = superblock_place im.size; claimed = subst (λ b. Claims im (superblock_place im.size) b Master) (sym e) master; dinode = refl })
file_inode im d (is_rindex way) = (Named (master_of im) (codes "rindex"), record { by = way.0; claimed = way.1; dinode = refl })
file_inode im d (is_jindex way) = (Named (master_of im) (codes "jindex"), record { by = way.0; claimed = way.1; dinode = refl })
file_inode im d (is_journal j has) = (Named has.0 (journal_name j), record { by = has.2.0; claimed = has.2.1; dinode = refl })

zero_below : (h : Holding) (level i : ℕ) → descend h level 0 i ≡ 0
zero_below h zero i = refl
zero_below h (suc level) i = refl

module _ (s n : ℕ) (f g : Blocks) where
  abbrev first_image : Image
  first_image = record { size = s; count = n; at = f }

  abbrev other_image : Image
  other_image = record { size = s; count = n; at = g }

  module _ (same : (b : ℕ) → IsSystemBlock first_image b → IsSystemBlock other_image b → f b ≡ g b)
      (fits : (d : ℕ) → IsSystemFile first_image d → IsSystemFile other_image d → Fits (every first_image d) ⊎ Fits (every other_image d)) where
    -- ---- a file of both

    module _ (d : ℕ) (here : IsSystemFile first_image d) (there : IsSystemFile other_image d) where
      abbrev a : Holding
      a = every first_image d

      abbrev b : Holding
      b = every other_image d

      dinode_bytes : f d ≡ g d
      dinode_bytes = same d (of_dinode here) (of_dinode there)

      dinode_same : dinode_in a ≡ dinode_in b
      unfolding dinode_in
      dinode_same = ap dinode_of dinode_bytes

      unit_same : unit a ≡ unit b
      unit_same = ap (λ x. if is_directory x then s - header_length else s) dinode_same

      count_same : content_count a ≡ content_count b
      count_same = ap₂ pieces (ap (λ (x : Dinode). x.size) dinode_same) unit_same

      leads_same : (p k level first c : ℕ) → Leads a p k level first c → first < content_count a → Leads b p k level first c
      leads_same _ _ _ _ _ (from_dinode k level high low some) within =
          let to : pointer a dinode_length d k ≡ pointer b dinode_length d k = ap (u64_at (dinode_length + 8 * k)) dinode_bytes in
          subst (Leads b d k level (k * span s level)) (sym to) (from_dinode k level (ap (λ (x : Dinode). x.height) (sym dinode_same) ∙ high) low (λ e. some (to ∙ e)))
      leads_same _ _ _ _ _ (from_block p k level first c j leads low some) within =
          let less : first < content_count a = omega (arith, within) in
          let above = leads_same p k (suc level) first c leads less in
          let bytes = same c (of_content d p k (suc level) first here leads less) (of_content d p k (suc level) first there above (subst (λ m. first < m) count_same less)) in
          let to : pointer a header_length c j ≡ pointer b header_length c j = ap (u64_at (header_length + 8 * j)) bytes in
          subst (Leads b c j level (first + j * span s level)) (sym to) (from_block p k level first c j above low (λ e. some (to ∙ e)))

      led_bytes : (p k level first c : ℕ) → Leads a p k level first c → first < content_count a → f c ≡ g c
      led_bytes p k level first c leads within =
          same c (of_content d p k level first here leads within) (of_content d p k level first there (leads_same p k level first c leads within) (subst (λ m. first < m) count_same within))

      -- a hole, or a block that both have alike
      abbrev IsAlike : ℕ → Type 0
      IsAlike x = (x ≡ 0) ⊎ (f x ≡ g x)

      descend_same : (level p k first c i : ℕ) → Leads a p k level first c → i < span s level → first + i < content_count a
          → (descend a level c i ≡ descend b level c i) × IsAlike (descend a level c i)
      descend_same zero p k first c i leads low within = (refl, inr (led_bytes p k 0 first c leads (omega (arith, within))))
      descend_same (suc level) p k first c i leads low within =
          let pos : 0 < span s level = positive i (fan s header_length) (span s level) low in
          let bytes = led_bytes p k (suc level) first c leads (omega (arith, within)) in
          let to : pointer a header_length c (i / span s level) ≡ pointer b header_length c (i / span s level) = ap (u64_at (header_length + 8 * (i / span s level))) bytes in
          let whole : first + (i / span s level) * span s level + i % span s level ≡ first + i = omega (arith, div-add-mod i (span s level), mul_comm (i / span s level) (span s level)) in
          let next : (descend a level (pointer a header_length c (i / span s level)) (i % span s level) ≡ descend b level (pointer a header_length c (i / span s level)) (i % span s level)) × IsAlike (descend a level (pointer a header_length c (i / span s level)) (i % span s level))
          = elim (cases_eq (pointer a header_length c (i / span s level)) 0) [
            | inl none ↦ (
              ap (λ z. descend a level z (i % span s level)) none ∙ zero_below a level (i % span s level) ∙ sym (zero_below b level (i % span s level)) ∙ ap (λ z. descend b level z (i % span s level)) (sym none),
              inl (ap (λ z. descend a level z (i % span s level)) none ∙ zero_below a level (i % span s level)),
            )
            | inr some ↦
                descend_same level c (i / span s level) (first + (i / span s level) * span s level) (pointer a header_length c (i / span s level)) (i % span s level)
                (from_block p k level first c (i / span s level) leads (div_below i (span s level) (fan s header_length) pos low) some) (omega (arith, pos)) (omega (arith, whole, within))
          ] in
          elim (cases_eq c 0) [
            | inl e ↦ (cond-true _ 0 _ (eq-eqb c 0 e) ∙ sym (cond-true _ 0 _ (eq-eqb c 0 e)), inl (cond-true _ 0 _ (eq-eqb c 0 e)))
            | inr e ↦ (
              cond-false _ 0 _ (ne_eqb c 0 e) ∙ next.0 ∙ ap (λ z. descend b level z (i % span s level)) to ∙ sym (cond-false _ 0 _ (ne_eqb c 0 e)),
              subst IsAlike (sym (cond-false _ 0 _ (ne_eqb c 0 e))) next.1,
            )
          ]

      under : (level : ℕ) → height_in a ≡ suc level → content_count a ≤ fan s dinode_length * span s level
      under level high = elim (fits d here there) [
        | inl fit ↦ fit.under level high
        | inr fit ↦ subst (λ m. m ≤ fan s dinode_length * span s level) (sym count_same) (fit.under level (ap (λ (x : Dinode). x.height) (sym dinode_same) ∙ high))
      ]

      block_alike : (level : ℕ) → height_in a ≡ suc level → (i : ℕ) → i < content_count a → (content_block a i ≡ content_block b i) × IsAlike (content_block a i)
      unfolding content_block
      block_alike level high i within =
          let low : i < fan s dinode_length * span s level = omega (arith, within, under level high) in
          let pos : 0 < span s level = positive i (fan s dinode_length) (span s level) low in
          let less : height_in a - 1 ≡ level = omega (arith, high) in
          let less' : height_in b - 1 ≡ level = ap (λ (x : Dinode). x.height - 1) (sym dinode_same) ∙ less in
          let to : pointer a dinode_length d (i / span s level) ≡ pointer b dinode_length d (i / span s level) = ap (u64_at (dinode_length + 8 * (i / span s level))) dinode_bytes in
          let whole : (i / span s level) * span s level + i % span s level ≡ i = omega (arith, div-add-mod i (span s level), mul_comm (i / span s level) (span s level)) in
          let next : (descend a level (pointer a dinode_length d (i / span s level)) (i % span s level) ≡ descend b level (pointer a dinode_length d (i / span s level)) (i % span s level)) × IsAlike (descend a level (pointer a dinode_length d (i / span s level)) (i % span s level))
          = elim (cases_eq (pointer a dinode_length d (i / span s level)) 0) [
            | inl none ↦ (
              ap (λ z. descend a level z (i % span s level)) none ∙ zero_below a level (i % span s level) ∙ sym (zero_below b level (i % span s level)) ∙ ap (λ z. descend b level z (i % span s level)) (sym none),
              inl (ap (λ z. descend a level z (i % span s level)) none ∙ zero_below a level (i % span s level)),
            )
            | inr some ↦
                descend_same level d (i / span s level) ((i / span s level) * span s level) (pointer a dinode_length d (i / span s level)) (i % span s level)
                (from_dinode (i / span s level) level high (div_below i (span s level) (fan s dinode_length) pos low) some) (omega (arith, pos)) (omega (arith, whole, within))
          ] in
          rw (less, less') (next.0 ∙ ap (λ z. descend b level z (i % span s level)) to, next.1)

      carried_same : (c : ℕ) → IsAlike c → carried a c ≡ carried b c
      carried_same c alike = elim (cases_eq c 0) [
        | inl e ↦ cond-true _ _ _ (eq-eqb c 0 e) ∙ ap (λ m. replicate m 0) unit_same ∙ sym (cond-true _ _ _ (eq-eqb c 0 e))
        | inr e ↦ elim alike [
          | inl none ↦ absurd (e none)
          | inr bytes ↦ cond-false _ _ _ (ne_eqb c 0 e) ∙ ap₂ drop (ap (λ m. s - m) unit_same) bytes ∙ sym (cond-false _ _ _ (ne_eqb c 0 e))
        ]
      ]

      content_alike : content_of a ≡ content_of b
      unfolding content_of
      content_alike = ap₂ take (ap (λ (x : Dinode). x.size) dinode_same) (inner (height_in a) refl)
        where
          inner : (m : ℕ) → height_in a ≡ m
              → (if height_in a == 0 then drop dinode_length (bytes_at a d) else flat_map (λ i. carried a (content_block a i)) (range_with_len 0 (content_count a)))
              ≡ (if height_in b == 0 then drop dinode_length (bytes_at b d) else flat_map (λ i. carried b (content_block b i)) (range_with_len 0 (content_count b)))
          inner zero e = cond-true _ _ _ (eq-eqb (height_in a) 0 e) ∙ ap (drop dinode_length) dinode_bytes
              ∙ sym (cond-true _ _ _ (eq-eqb (height_in b) 0 (ap (λ (x : Dinode). x.height) (sym dinode_same) ∙ e)))
          inner (suc level) e = cond-false _ _ _ (ne_eqb (height_in a) 0 (λ z. absurd (omega (arith, e, z))))
              ∙ flat_map_same (λ i. carried a (content_block a i)) (λ i. carried b (content_block b i)) (range_with_len 0 (content_count a))
              (λ i h. let is = block_alike level e i (omega (arith, (from_range 0 (content_count a) i h).1)) in carried_same (content_block a i) is.1 ∙ ap (carried b) is.0)
              ∙ ap (λ m. flat_map (λ i. carried b (content_block b i)) (range_with_len 0 m)) count_same
              ∙ sym (cond-false _ _ _ (ne_eqb (height_in b) 0 (λ z. absurd (omega (arith, e, ap (λ (x : Dinode). x.height) (sym dinode_same), z)))))

    -- ---- the leaves and the names of a directory of both

    leaf_alike : (d : ℕ) → IsSystemFile first_image d → IsSystemFile other_image d → (by x hash place : ℕ) → Claims first_image by x (Chained d hash place) → (by' : ℕ) × Claims other_image by' x (Chained d hash place)
    leaf_alike _ here there _ _ _ _ (first_leaf by d o i claim dinode hashed low some) =
        let inode = file_inode other_image d there in
        let flags = dinode_same d here there in
        let hashed' : is_hashed_in (every other_image d) ≡ true = ap (λ x. is_directory x && has_hash_flag x) (sym flags) ∙ hashed in
        let depth : depth_in (every first_image d) ≡ depth_in (every other_image d) = ap (λ (x : Dinode). x.depth) flags in
        let to : entry (every first_image d) i ≡ entry (every other_image d) i = ap (u64_at (8 * i)) (content_alike d here there) in
        let claim' = subst (λ x. Claims other_image (entry_block (every other_image d) i) x (Chained d (first_hash (every other_image d) i) 0)) (sym to)
        (first_leaf inode.1.by d inode.0 i inode.1.claimed inode.1.dinode hashed' (subst (λ m. i < 2 ^ m) depth low) (λ e. some (to ∙ e))) in
        let bytes = same (entry (every first_image d) i) (of_leaf d (entry_block (every first_image d) i) (first_hash (every first_image d) i) 0 here (first_leaf by d o i claim dinode hashed low some))
        (of_leaf d (entry_block (every other_image d) i) (first_hash (every other_image d) i) 0 there claim') in
        let leaf : leaf_of (f (entry (every first_image d) i)) ≡ leaf_of (g (entry (every other_image d) i)) = ap leaf_of bytes ∙ ap (λ x. leaf_of (g x)) to in
        let hash : first_hash (every first_image d) i ≡ first_hash (every other_image d) i = ap₂ (λ (m : ℕ) (x : Leaf). i / 2 ^ (m - x.depth) * 2 ^ (32 - x.depth)) depth leaf in
        (entry_block (every other_image d) i, subst (λ z. Claims other_image (entry_block (every other_image d) i) (entry (every first_image d) i) (Chained d z 0)) (sym hash) claim')
    leaf_alike _ here there _ _ _ _ (next_leaf by x d hash place claim more) =
        let before = leaf_alike d here there by x hash place claim in
        let bytes = same x (of_leaf d by hash place here claim) (of_leaf d before.0 hash place there before.1) in
        let next : (leaf_in (every first_image d) x).next ≡ (leaf_in (every other_image d) x).next = ap (λ bs. (leaf_of bs).next) bytes in
        (x, subst (λ z. Claims other_image x z (Chained d hash (place + 1))) (sym next) (next_leaf before.0 x d hash place before.1 (λ e. more (next ∙ e))))

    name_alike : (d : ℕ) → IsSystemFile first_image d → IsSystemFile other_image d → (by c : ℕ) (name : List ℕ) → Claims first_image by c (Named d name) → LeadsTo other_image d name c
    name_alike _ here there _ _ _ (in_dinode by d o r claim dinode dir plain contains dots) =
        let inode = file_inode other_image d there in
        let flags = dinode_same d here there in
        let dir' : is_directory_in (every other_image d) ≡ true = ap is_directory (sym flags) ∙ dir in
        let plain' : is_hashed_in (every other_image d) ≡ false = ap (λ x. is_directory x && has_hash_flag x) (sym flags) ∙ plain in
        (d, in_dinode inode.1.by d inode.0 r inode.1.claimed inode.1.dinode dir' plain' (subst (λ bs. Contains (records_in (drop dinode_length bs)) r) (dinode_bytes d here there) contains) dots)
    name_alike _ here there _ _ _ (in_leaf by x d hash place r claim contains dots) =
        let leaf = leaf_alike d here there by x hash place claim in
        let bytes = same x (of_leaf d by hash place here claim) (of_leaf d leaf.0 hash place there leaf.1) in
        (x, in_leaf leaf.0 x d hash place r leaf.1 (subst (λ bs. Contains (records_in (drop 104 bs)) r) bytes contains) dots)

    -- ---- the files

    master_same : master_of first_image ≡ master_of other_image
    master_same = ap (λ bs. (superblock_of bs).master.address) (same (superblock_place s) (of_superblock refl) (of_superblock refl))

    led_from_master : (name : List ℕ) (d : ℕ) → LeadsTo first_image (master_of first_image) name d → LeadsTo other_image (master_of other_image) name d
    led_from_master name d way = subst (λ m. LeadsTo other_image m name d) master_same (name_alike (master_of first_image) (is_master refl) (is_master master_same) way.0 d name way.1)

    pub file_stays : (d : ℕ) → IsSystemFile first_image d → IsSystemFile other_image d
    file_stays d (is_master e) = is_master (e ∙ master_same)
    file_stays d (is_rindex way) = is_rindex (led_from_master (codes "rindex") d way)
    file_stays d (is_jindex way) = is_jindex (led_from_master (codes "jindex") d way)
    file_stays d (is_journal j has) =
        let jindex = led_from_master (codes "jindex") has.0 has.1 in
        is_journal j (has.0, jindex, name_alike has.0 (is_jindex has.1) (is_jindex jindex) has.2.0 d (journal_name j) has.2.1)

    pub block_stays : (b : ℕ) → IsSystemBlock first_image b → IsSystemBlock other_image b
    block_stays b (of_superblock e) = of_superblock e
    block_stays b (of_dinode file) = of_dinode (file_stays b file)
    block_stays b (of_content d p k level first file leads within) =
        let file' = file_stays d file in
        of_content d p k level first file' (leads_same d file file' p k level first b leads within) (subst (λ m. first < m) (count_same d file file') within)
    block_stays b (of_leaf d by hash place file claim) =
        let file' = file_stays d file in
        let leaf = leaf_alike d file file' by b hash place claim in
        of_leaf d leaf.0 hash place file' leaf.1

-- ---- of any two images

-- blocks that are of the system files in both are alike
abbrev AreAlike : Image → Image → Type 0
AreAlike im other = (b : ℕ) → IsSystemBlock im b → IsSystemBlock other b → im.at b ≡ other.at b

-- files of both fit in one of them
abbrev FitInOne : Image → Image → Type 0
FitInOne im other = (d : ℕ) → IsSystemFile im d → IsSystemFile other d → Fits (every im d) ⊎ Fits (every other d)

abbrev with_sizes : Image → ℕ → ℕ → Image
with_sizes other z m = record { size = z; count = m; at = other.at }

abbrev Stay : Image → Image → Type 0
Stay im other = AreAlike im other → FitInOne im other → (b : ℕ) → IsSystemBlock im b → IsSystemBlock other b

pub system_stays : (im other : Image) → other.size ≡ im.size → other.count ≡ im.count → Stay im other
system_stays im other size count =
    subst (λ z. Stay im (with_sizes other z other.count)) (sym size) (subst (λ m. Stay im (with_sizes other im.size m)) (sym count) (block_stays im.size im.count im.at other.at))

module _ (im other : Image) (same : HasSameSystem im other) (fits : FitInOne im other) where
  -- the system files of the first are the other's
  pub system_there : (b : ℕ) → IsSystemBlock im b → IsSystemBlock other b
  system_there = system_stays im other same.size same.count (λ b is is'. sym (same.same b is)) fits

  -- and the other has no more
  pub system_back : (b : ℕ) → IsSystemBlock other b → IsSystemBlock im b
  system_back = system_stays other im (sym same.size) (sym same.count) (λ b is is'. same.same b is') (λ d is is'. elim (fits d is' is) [ inl fit ↦ inr fit | inr fit ↦ inl fit ])

-- ---- a replay leaves them

pub replay_keeps : (im replayed : Image) (l : _) → Replayed im l replayed → HasSameSystem im replayed
replay_keeps im replayed l is = record {
  size = is.size;
  count = is.count;
  same = λ b of. is.others b (λ j d at. nothing b of j d at (live_at im d b) refl);
}
  where
    nothing : (b : ℕ) → IsSystemBlock im b → (j d : ℕ) → IsJournalAt l j d → (o : Option (List ℕ)) → live_at im d b ≡ o → o ≡ None
    nothing b of j d at None e = refl
    nothing b of j d at (Some bytes) e = absurd ((is.replayable.inside j d b bytes at e).apart of)
