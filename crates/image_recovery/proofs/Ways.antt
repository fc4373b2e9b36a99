-- Dinodes, and the ways to content, of one image in another that has their blocks alike.
use Rattle.std.proofs.Common.{◌≡◌, ◌≢◌, ◌⊎◌, inl, inr, ℕ, zero, suc, ◌+◌, ◌-◌, ◌*◌, ◌/◌, ◌%◌, ◌^◌, ◌<◌, ◌≤◌, Bool, true, false, Option, None, Some, refl, sym, ap, subst, ◌∙◌, arith}
use Rattle.std.specs.Prelude.{◌==◌, ◌&&◌, nat_lt, if◌then◌else◌}
use Rattle.std.proofs.lemmas.Bool.{cases_Bool, cond-true, cond-false, eq-eqb, ne_eqb}
use Rattle.std.proofs.lemmas.Bool.Decides.{nat_tests}
use Rattle.std.proofs.lemmas.Nat.{div_below}
use Rattle.std.proofs.Math.Nat.{div-add-mod, mul_comm}
use Rattle.dinode_tree.specs.Reading.{IsHeadedAt, IsHeadedDown, IsHeadedWay, block_at, reach, target}
use Rattle.gfs2_layout.specs.Bytes.{u64_at}
use Rattle.gfs2_layout.specs.Headers.{HasHeader}
use Rattle.gfs2_layout.specs.Holding.{Holding}
use Rattle.gfs2_layout.specs.Inode.{Fits, Leads, content_block, content_count, descend, dinode_in, fan, from_block, from_dinode, has_hash_flag, header_length, height_in, is_directory_in, is_hashed_in, pieces, pointer, span}
use Rattle.gfs2_layout.specs.Structures.{dinode_of, dinode_length, is_directory, is_regular}
use Rattle.gfs2_layout.specs.declared.dinode.Dinode.{Dinode}
use Rattle.image_model.specs.Claims.{every}
use Rattle.image_model.specs.Image.{Blocks, Image}
use Rattle.image_model.proofs.Same.{positive}
use Rattle.image_mount.specs.Looks.{HasHeadedContent, IsLinearSized, IsLookedAt, IsOffDown, IsOffWay, IsTableSized}
use Rattle.image_recovery.proofs.Alike.{place_same}
use Rattle.image_recovery.proofs.Names.{with_blocks}

zero_below : (h : Holding) (level i : ℕ) → descend h level 0 i ≡ 0
zero_below h zero i = refl
zero_below h (suc level) i = refl

none_some : {X : Type 0} {x : X} → ◌≡◌ {A = Option X} None (Some x) → ⊥
none_some e = cc

some_is : {X : Type 0} {x y : X} → ◌≡◌ {A = Option X} (Some x) (Some y) → x ≡ y
some_is e = cc

-- a block that is there is that of content with the index, and no hole
block_is : (h : Holding) (i x : ℕ) → block_at h i ≡ Some x → (content_block h i ≡ x) × (content_block h i ≢ 0)
block_is h i x at = by (nat_lt i (reach h.size (height_in h))) refl
  where
    by : (t : Bool) → nat_lt i (reach h.size (height_in h)) ≡ t → (content_block h i ≡ x) × (content_block h i ≢ 0)
    by false past = absurd (none_some (sym (cond-false _ (target (content_block h i)) None past) ∙ at))
    by true low = elim (cases_Bool (content_block h i == 0)) [
      | inl none ↦ absurd (none_some (sym (cond-true _ _ _ low ∙ cond-true _ _ _ none) ∙ at))
      | inr some ↦ (some_is (sym (cond-true _ _ _ low ∙ cond-false _ _ _ some) ∙ at), λ e. true_false (sym (eq-eqb (content_block h i) 0 e) ∙ some))
    ]
      where
        true_false : true ≡ false → ⊥
        true_false e = cc

module _ (im : Image) (g : Blocks) (d : ℕ) (same : im.at d ≡ g d) where
  abbrev other : Image
  other = with_blocks im g

  abbrev a : Holding
  a = every im d

  abbrev b : Holding
  b = every other d

  pub dinode_is : dinode_in a ≡ dinode_in b
  unfolding dinode_in
  dinode_is = ap dinode_of same

  pub count_is : content_count a ≡ content_count b
  count_is = ap (λ (x : Dinode). pieces x.size (if is_directory x then im.size - header_length else im.size)) dinode_is

  -- ---- the dinode

  fits_forth : Fits a → Fits b
  fits_forth is = record {
    low = subst (λ (x : Dinode). x.height ≤ 10) dinode_is is.low;
    stuffed = subst (λ (x : Dinode). x.height ≡ 0 → dinode_length + x.size ≤ im.size) dinode_is is.stuffed;
    under = subst (λ (x : Dinode). (level : ℕ) → x.height ≡ suc level → pieces x.size (if is_directory x then im.size - header_length else im.size) ≤ fan im.size dinode_length * span im.size level) dinode_is is.under;
  }

  linear_forth : IsLinearSized im d → IsLinearSized other d
  linear_forth is = record { height = ap (λ (x : Dinode). x.height) (sym dinode_is) ∙ is.height; size = ap (λ (x : Dinode). dinode_length + x.size) (sym dinode_is) ∙ is.size }

  table_forth : IsTableSized im d → IsTableSized other d
  table_forth is = record {
    least = subst (λ (x : Dinode). im.size / 16 ≤ 2 ^ x.depth) dinode_is is.least;
    greatest = subst (λ (x : Dinode). 2 ^ x.depth ≤ 8 * im.size) dinode_is is.greatest;
    size = subst (λ (x : Dinode). x.size ≡ 8 * 2 ^ x.depth) dinode_is is.size;
  }

  hashed_is : is_hashed_in a ≡ is_hashed_in b
  hashed_is = ap (λ (x : Dinode). is_directory x && has_hash_flag x) dinode_is

  pub looked_forth : IsLookedAt im d → IsLookedAt other d
  looked_forth is = record {
    dinode = record {
      header = subst (HasHeader 4 400) same is.dinode.header;
      address = ap (λ (x : Dinode). x.num.address) (sym dinode_is) ∙ is.dinode.address;
      number = subst (λ (x : Dinode). x.num.number ≢ 0) dinode_is is.dinode.number;
      mode = subst (λ (x : Dinode). (is_directory x ≡ true) ⊎ (is_regular x ≡ true)) dinode_is is.dinode.mode;
      fits = fits_forth is.dinode.fits;
    };
    sized = record {
      linear = λ directory plain. linear_forth (is.sized.linear (ap is_directory dinode_is ∙ directory) (hashed_is ∙ plain));
      hashed = λ hashed. table_forth (is.sized.hashed (hashed_is ∙ hashed));
    };
  }

  -- ---- ways, of which each block is alike

  module _ (fits : Fits a) (ways : (p k level first c : ℕ) → Leads a p k (suc level) first c → first < content_count a → im.at c ≡ g c) where
    pub leads_forth : (p k level first c : ℕ) → Leads a p k level first c → first < content_count a → Leads b p k level first c
    leads_forth _ _ _ _ _ (from_dinode k level high low some) within =
        let to : pointer a dinode_length d k ≡ pointer b dinode_length d k = ap (u64_at (dinode_length + 8 * k)) same in
        subst (Leads b d k level (k * span im.size level)) (sym to) (from_dinode k level (ap (λ (x : Dinode). x.height) (sym dinode_is) ∙ high) low (λ e. some (to ∙ e)))
    leads_forth _ _ _ _ _ (from_block p k level first c j leads low some) within =
        let less : first < content_count a = omega (arith, within) in
        let to : pointer a header_length c j ≡ pointer b header_length c j = ap (u64_at (header_length + 8 * j)) (ways p k level first c leads less) in
        subst (Leads b c j level (first + j * span im.size level)) (sym to) (from_block p k level first c j (leads_forth p k (suc level) first c leads less) low (λ e. some (to ∙ e)))

    pub leads_home : (p k level first c : ℕ) → Leads b p k level first c → first < content_count b → Leads a p k level first c
    leads_home _ _ _ _ _ (from_dinode k level high low some) within =
        let to : pointer a dinode_length d k ≡ pointer b dinode_length d k = ap (u64_at (dinode_length + 8 * k)) same in
        subst (Leads a d k level (k * span im.size level)) to (from_dinode k level (ap (λ (x : Dinode). x.height) dinode_is ∙ high) low (λ e. some (sym to ∙ e)))
    leads_home _ _ _ _ _ (from_block p k level first c j leads low some) within =
        let less : first < content_count b = omega (arith, within) in
        let above = leads_home p k (suc level) first c leads less in
        let to : pointer a header_length c j ≡ pointer b header_length c j = ap (u64_at (header_length + 8 * j)) (ways p k level first c above (subst (λ n. first < n) (sym count_is) less)) in
        subst (Leads a c j level (first + j * span im.size level)) to (from_block p k level first c j above low (λ e. some (sym to ∙ e)))

    way_down : (level p k first c i : ℕ) → Leads a p k level first c → i < span im.size level → first + i < content_count a → descend a level c i ≢ 0
        → (IsHeadedDown a level c i → IsHeadedDown b level c i) × ((x : ℕ) → IsOffDown x a level c i → IsOffDown x b level c i)
    way_down zero p k first c i leads low within some = (λ is. tt, λ x is. tt)
    way_down (suc level) p k first c i leads low within some =
        let pos : 0 < span im.size level = positive i (fan im.size header_length) (span im.size level) low in
        let bytes = ways p k level first c leads (omega (arith, within)) in
        let z = pointer a header_length c (i / span im.size level) in
        let to : pointer a header_length c (i / span im.size level) ≡ pointer b header_length c (i / span im.size level) = ap (u64_at (header_length + 8 * (i / span im.size level))) bytes in
        let whole : first + (i / span im.size level) * span im.size level + i % span im.size level ≡ first + i = omega (arith, div-add-mod i (span im.size level), mul_comm (i / span im.size level) (span im.size level)) in
        let there : c ≢ 0 = λ e. some (cond-true (c == 0) 0 _ (eq-eqb c 0 e)) in
        let goes : descend a level (pointer a header_length c (i / span im.size level)) (i % span im.size level) ≢ 0 = λ e. some (cond-false (c == 0) 0 _ (ne_eqb c 0 there) ∙ e) in
        let leads_on : pointer a header_length c (i / span im.size level) ≢ 0 = λ e. goes (ap (λ y. descend a level y (i % span im.size level)) e ∙ zero_below a level (i % span im.size level)) in
        let next = way_down level c (i / span im.size level) (first + (i / span im.size level) * span im.size level) (pointer a header_length c (i / span im.size level)) (i % span im.size level)
        (from_block p k level first c (i / span im.size level) leads (div_below i (span im.size level) (fan im.size header_length) pos low) leads_on) (omega (arith, pos)) (omega (arith, whole, within)) goes in (
          λ is. (subst (HasHeader 5 500) bytes is.0, subst (λ y. IsHeadedDown b level y (i % span im.size level)) to (next.0 is.1)),
          λ x is. (is.0, subst (λ y. IsOffDown x b level y (i % span im.size level)) to (next.1 x is.1)),
        )

    pub way_forth : (level : ℕ) → height_in a ≡ suc level → (i : ℕ) → i < content_count a → content_block a i ≢ 0 → (IsHeadedWay a i → IsHeadedWay b i) × ((x : ℕ) → IsOffWay x a i → IsOffWay x b i)
    unfolding content_block
    way_forth level high i within some =
        let low : i < fan im.size dinode_length * span im.size level = omega (arith, within, fits.under level high) in
        let pos : 0 < span im.size level = positive i (fan im.size dinode_length) (span im.size level) low in
        let less : height_in a - 1 ≡ level = omega (arith, high) in
        let less' : height_in b - 1 ≡ level = ap (λ (x : Dinode). x.height - 1) (sym dinode_is) ∙ less in
        let to : pointer a dinode_length d (i / span im.size level) ≡ pointer b dinode_length d (i / span im.size level) = ap (u64_at (dinode_length + 8 * (i / span im.size level))) same in
        let whole : (i / span im.size level) * span im.size level + i % span im.size level ≡ i = omega (arith, div-add-mod i (span im.size level), mul_comm (i / span im.size level) (span im.size level)) in
        let goes : descend a level (pointer a dinode_length d (i / span im.size level)) (i % span im.size level) ≢ 0
        = subst (λ n. descend a n (pointer a dinode_length d (i / span im.size n)) (i % span im.size n) ≢ 0) less some in
        let leads_on : pointer a dinode_length d (i / span im.size level) ≢ 0 = λ e. goes (ap (λ y. descend a level y (i % span im.size level)) e ∙ zero_below a level (i % span im.size level)) in
        let next = way_down level d (i / span im.size level) ((i / span im.size level) * span im.size level) (pointer a dinode_length d (i / span im.size level)) (i % span im.size level)
        (from_dinode (i / span im.size level) level high (div_below i (span im.size level) (fan im.size dinode_length) pos low) leads_on) (omega (arith, pos)) (omega (arith, whole, within)) goes in (
          λ is. subst (λ n. IsHeadedDown b n (pointer b dinode_length d (i / span im.size n)) (i % span im.size n)) (sym less')
              (subst (λ y. IsHeadedDown b level y (i % span im.size level)) to (next.0 (subst (λ n. IsHeadedDown a n (pointer a dinode_length d (i / span im.size n)) (i % span im.size n)) less is))),
          λ x is. subst (λ n. IsOffDown x b n (pointer b dinode_length d (i / span im.size n)) (i % span im.size n)) (sym less')
              (subst (λ y. IsOffDown x b level y (i % span im.size level)) to (next.1 x (subst (λ n. IsOffDown x a n (pointer a dinode_length d (i / span im.size n)) (i % span im.size n)) less is))),
        )

    -- the blocks of content have their headers, where they are alike, too
    module _ (contents : (p k first c : ℕ) → Leads a p k 0 first c → first < content_count a → im.at c ≡ g c) where
      headed_at : (level : ℕ) → height_in a ≡ suc level → (i : ℕ) → i < content_count a → IsHeadedAt a i → IsHeadedAt b i
      headed_at level high i within is x at =
          let place = place_same im.size im.count im.at g d fits same (λ n c j. Unit {0}) (λ n c j off. tt) (λ p k n first c j leads low off. ways p k n first c leads low) level high i within tt in
          let at_a : block_at a i ≡ Some x
          = ap (λ (y : Dinode). if nat_lt i (reach im.size y.height) then target (content_block a i) else None) dinode_is
          ∙ ap (λ z. if nat_lt i (reach im.size (height_in b)) then target z else None) place.0 ∙ at in
          let block = block_is a i x at_a in
          let was = is x at_a in
          let bytes : im.at x ≡ g x = elim place.1 [
            | inl none ↦ absurd (block.1 none)
            | inr led ↦ subst (λ z. im.at z ≡ g z) block.0 (contents led.0 led.1 led.2 (content_block a i) led.3 led.4)
          ] in (
            (way_forth level high i within block.1).0 was.0,
            λ directory. subst (HasHeader 7 700) bytes (was.1 (ap is_directory dinode_is ∙ directory)),
          )

      pub headed_forth : HasHeadedContent im d → HasHeadedContent other d
      headed_forth is i low x at = each (height_in a) refl
        where
          within : i < content_count a
          within = subst (λ n. i < n) (sym count_is) low

          each : (n : ℕ) → height_in a ≡ n → IsHeadedWay b i × (is_directory_in b ≡ true → HasHeader 7 700 (g x))
          each (suc level) high = headed_at level high i within (is i within) x at
          each zero high =
              let flat : height_in b ≡ 0 = ap (λ (y : Dinode). y.height) (sym dinode_is) ∙ high in
              let past : nat_lt i (reach im.size (height_in b)) ≡ false = ap (λ n. nat_lt i (reach im.size n)) flat ∙ past_zero i in
              absurd (none_some (sym (cond-false _ (target (content_block b i)) None past) ∙ at))
            where
              past_zero : (j : ℕ) → nat_lt j 0 ≡ false
              past_zero j = grind (arith, nat_tests)
