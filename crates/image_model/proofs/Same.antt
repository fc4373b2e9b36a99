-- What is read of a sound inode block after block is what it says from its own blocks.
use Rattle.std.proofs.Common.{◌≡◌, ◌≢◌, ℕ, zero, suc, ◌+◌, ◌-◌, ◌*◌, ◌/◌, ◌%◌, ◌<◌, ◌==◌, ◌⊎◌, inl, inr, Bool, true, List, [], ◌∷◌, ◌++◌, drop, take, Some, refl, sym, ap, ap₂, ◌∙◌, subst, arith}
use Rattle.std.proofs.lemmas.Bool.{cases_eq, cond-true, cond-false, eq-eqb, ne_eqb}
use Rattle.std.proofs.lemmas.Nat.{div_below}
use Rattle.std.proofs.Math.Nat.{mul-zero}
use Rattle.std.specs.Prelude.{if◌then◌else◌, flat_map, replicate}
use Rattle.std.specs.List.{range_with_len}
use Rattle.gfs2_layout.specs.Bytes.{u64_at}
use Rattle.gfs2_layout.specs.Structures.{dinode_of, dinode_length, leaf_of}
use Rattle.gfs2_layout.specs.declared.dinode.Dinode.{Dinode}
use Rattle.image_model.specs.Image.{Image}
use Rattle.image_model.specs.Owners.{Owners, is_dinode, holding}
use Rattle.gfs2_layout.specs.Holding.{Pointed, InChain, Holding, bytes_at, part_at}
use Rattle.gfs2_layout.specs.Inode.{dinode_in, height_in, header_length, fan, span, pointer, descend, content_block, unit, carried, pieces, content_count, content_of, IsChild, IsInode, entry, leaf_in}
use Rattle.image_model.specs.Claims.{every}
use Rattle.image_model.proofs.Members.{IsIn, from_range}
use Rattle.image_model.proofs.Held.{own_block, block_same}

pub positive : (i m k : ℕ) → i < m * k → 0 < k
positive i m k h = elim (cases_eq k 0) [
  | inl e ↦ absurd (omega (arith, subst (λ z. i < m * z) e h, mul-zero m))
  | inr d ↦ omega (arith, d)
]

pub flat_map_same : {X Y : Type 0} (f g : X → List Y) (xs : List X) → ((x : X) → IsIn x xs → f x ≡ g x) → flat_map f xs ≡ flat_map g xs
flat_map_same f g [] each = refl
flat_map_same f g (x ∷ xs) each = ap₂ ◌++◌ (each x (inl refl)) (flat_map_same f g xs (λ y h. each y (inr h)))

-- nothing, or a block of the inode that stands so many levels above content
abbrev pub IsReached : Holding → ℕ → ℕ → Type 0
IsReached h level c = (c ≡ 0) ⊎ ((b k first : ℕ) × (part_at h c ≡ Some (Pointed b k level first)))

reached : (h : Holding) (b k level first c : ℕ) → (c ≢ 0 → IsChild h b k level first c) → IsReached h level c
reached h b k level first c child = elim (cases_eq c 0) [ inl e ↦ inl e | inr d ↦ inr (b, k, first, (child d).part) ]

module _ (im : Image) (owners : Owners) (a : ℕ) (dinode : is_dinode (owners a) ≡ true) (sound : IsInode (holding im owners a)) where
  pub dinode_same : dinode_in (holding im owners a) ≡ dinode_in (every im a)
  unfolding dinode_in
  dinode_same = ap dinode_of (own_block im owners a dinode)

  pub unit_same : unit (holding im owners a) ≡ unit (every im a)
  unit_same = ap (λ d. if dir d then im.size - header_length else im.size) dinode_same
    where
      dir : Dinode → Bool
      dir d = d.mode / 4096 % 16 == 4

  pub count_same : content_count (holding im owners a) ≡ content_count (every im a)
  count_same = ap₂ pieces (ap (λ (d : Dinode). d.size) dinode_same) unit_same

  -- below a block of the inode
  descend_same : (level c i : ℕ) → i < span im.size level → IsReached (holding im owners a) level c
      → IsReached (holding im owners a) 0 (descend (holding im owners a) level c i) × (descend (holding im owners a) level c i ≡ descend (every im a) level c i)
  descend_same zero c i low way = (way, refl)
  descend_same (suc level) c i low (inl e) = (inl (cond-true _ 0 _ (eq-eqb c 0 e)), cond-true _ 0 _ (eq-eqb c 0 e) ∙ sym (cond-true _ 0 _ (eq-eqb c 0 e)))
  descend_same (suc level) c i low (inr g) =
      let pos : 0 < span im.size level = positive i (fan im.size header_length) (span im.size level) low in
      let same : pointer (holding im owners a) header_length c (i / span im.size level) ≡ pointer (every im a) header_length c (i / span im.size level)
      = ap (u64_at (header_length + 8 * (i / span im.size level))) (block_same im owners a c (Pointed g.0 g.1 (suc level) g.2) g.3) in
      let below : IsReached (holding im owners a) level (pointer (holding im owners a) header_length c (i / span im.size level))
      = reached (holding im owners a) c (i / span im.size level) level (g.2 + (i / span im.size level) * span im.size level) (pointer (holding im owners a) header_length c (i / span im.size level))
      (sound.tree.inner c g.0 g.1 level g.2 g.3 (i / span im.size level) (div_below i (span im.size level) (fan im.size header_length) pos low)) in
      let next = descend_same level (pointer (holding im owners a) header_length c (i / span im.size level)) (i % span im.size level) (omega (arith, pos)) below in
      elim (cases_eq c 0) [
        | inl e ↦ (inl (cond-true _ 0 _ (eq-eqb c 0 e)), cond-true _ 0 _ (eq-eqb c 0 e) ∙ sym (cond-true _ 0 _ (eq-eqb c 0 e)))
        | inr d ↦ (
          subst (IsReached (holding im owners a) 0) (sym (cond-false _ 0 _ (ne_eqb c 0 d))) next.0,
          cond-false _ 0 _ (ne_eqb c 0 d) ∙ next.1 ∙ ap (λ z. descend (every im a) level z (i % span im.size level)) same ∙ sym (cond-false _ 0 _ (ne_eqb c 0 d)),
        )
      ]

  module _ (level : ℕ) (high : height_in (holding im owners a) ≡ suc level) where
    pub content_block_is : (i : ℕ) → i < fan im.size dinode_length * span im.size level
        → IsReached (holding im owners a) 0 (content_block (holding im owners a) i) × (content_block (holding im owners a) i ≡ content_block (every im a) i)
    unfolding content_block
    content_block_is i low =
        let pos : 0 < span im.size level = positive i (fan im.size dinode_length) (span im.size level) low in
        let less : height_in (holding im owners a) - 1 ≡ level = omega (arith, high) in
        let less' : height_in (every im a) - 1 ≡ level = ap (λ (d : Dinode). d.height - 1) (sym dinode_same) ∙ less in
        let same : pointer (holding im owners a) dinode_length a (i / span im.size level) ≡ pointer (every im a) dinode_length a (i / span im.size level)
        = ap (u64_at (dinode_length + 8 * (i / span im.size level))) (own_block im owners a dinode) in
        let below : IsReached (holding im owners a) level (pointer (holding im owners a) dinode_length a (i / span im.size level))
        = reached (holding im owners a) a (i / span im.size level) level ((i / span im.size level) * span im.size level) (pointer (holding im owners a) dinode_length a (i / span im.size level))
        (sound.tree.top level high (i / span im.size level) (div_below i (span im.size level) (fan im.size dinode_length) pos low)) in
        let next = descend_same level (pointer (holding im owners a) dinode_length a (i / span im.size level)) (i % span im.size level) (omega (arith, pos)) below in
        rw (less, less') (next.0, next.1 ∙ ap (λ z. descend (every im a) level z (i % span im.size level)) same)

  carried_same : (c : ℕ) → IsReached (holding im owners a) 0 c → carried (holding im owners a) c ≡ carried (every im a) c
  carried_same c (inl e) =
      cond-true _ _ _ (eq-eqb c 0 e) ∙ ap (λ n. replicate n 0) unit_same ∙ sym (cond-true _ _ _ (eq-eqb c 0 e))
  carried_same c (inr g) = elim (cases_eq c 0) [
    | inl e ↦ cond-true _ _ _ (eq-eqb c 0 e) ∙ ap (λ n. replicate n 0) unit_same ∙ sym (cond-true _ _ _ (eq-eqb c 0 e))
    | inr d ↦ cond-false _ _ _ (ne_eqb c 0 d) ∙ ap₂ drop (ap (λ n. im.size - n) unit_same) (block_same im owners a c (Pointed g.0 g.1 0 g.2) g.3) ∙ sym (cond-false _ _ _ (ne_eqb c 0 d))
  ]

  piece_same : (level : ℕ) → height_in (holding im owners a) ≡ suc level → (i : ℕ) → i < content_count (holding im owners a)
      → carried (holding im owners a) (content_block (holding im owners a) i) ≡ carried (every im a) (content_block (every im a) i)
  piece_same level high i low =
      let is = content_block_is level high i (omega (arith, low, sound.fits.under level high)) in
      carried_same (content_block (holding im owners a) i) is.0 ∙ ap (carried (every im a)) is.1

  pub content_same : content_of (holding im owners a) ≡ content_of (every im a)
  unfolding content_of
  content_same = ap₂ take (ap (λ (d : Dinode). d.size) dinode_same) (inner (height_in (holding im owners a)) refl)
    where
      inner : (n : ℕ) → height_in (holding im owners a) ≡ n
          → (if height_in (holding im owners a) == 0 then drop dinode_length (bytes_at (holding im owners a) a)
          else flat_map (λ i. carried (holding im owners a) (content_block (holding im owners a) i)) (range_with_len 0 (content_count (holding im owners a))))
          ≡ (if height_in (every im a) == 0 then drop dinode_length (bytes_at (every im a) a)
          else flat_map (λ i. carried (every im a) (content_block (every im a) i)) (range_with_len 0 (content_count (every im a))))
      inner zero e = cond-true _ _ _ (eq-eqb (height_in (holding im owners a)) 0 e) ∙ ap (drop dinode_length) (own_block im owners a dinode)
          ∙ sym (cond-true _ _ _ (eq-eqb (height_in (every im a)) 0 (ap (λ (d : Dinode). d.height) (sym dinode_same) ∙ e)))
      inner (suc level) e = cond-false _ _ _ (ne_eqb (height_in (holding im owners a)) 0 (λ z. absurd (omega (arith, e, z))))
          ∙ flat_map_same (λ i. carried (holding im owners a) (content_block (holding im owners a) i)) (λ i. carried (every im a) (content_block (every im a) i)) (range_with_len 0 (content_count (holding im owners a)))
          (λ i h. piece_same level e i (omega (arith, (from_range 0 (content_count (holding im owners a)) i h).1)))
          ∙ ap (λ n. flat_map (λ i. carried (every im a) (content_block (every im a) i)) (range_with_len 0 n)) count_same
          ∙ sym (cond-false _ _ _ (ne_eqb (height_in (every im a)) 0 (λ z. absurd (omega (arith, e, ap (λ (d : Dinode). d.height) (sym dinode_same), z)))))

  pub entry_same : (i : ℕ) → entry (holding im owners a) i ≡ entry (every im a) i
  entry_same i = ap (u64_at (8 * i)) content_same

  pub leaf_same : (x hash place : ℕ) → part_at (holding im owners a) x ≡ Some (InChain hash place) → leaf_in (holding im owners a) x ≡ leaf_in (every im a) x
  leaf_same x hash place e = ap leaf_of (block_same im owners a x (InChain hash place) e)
