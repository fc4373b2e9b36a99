-- The content of a sound inode is as long as its size says, and a journal's ring reads the same from its own blocks and block after block.
use Rattle.std.proofs.Common.{◌≡◌, ◌≢◌, ℕ, zero, suc, ◌+◌, ◌-◌, ◌*◌, ◌/◌, ◌%◌, ◌<◌, ◌≤◌, inl, inr, true, false, List, [], ◌∷◌, length, drop, take, refl, sym, ap, ap₂, ◌∙◌, subst, arith, length-append}
use Rattle.std.proofs.lemmas.Bool.{cases_Bool, cases_eq, cond-true, cond-false, eq-eqb, ne_eqb, eqb-true}
use Rattle.std.proofs.lemmas.List.{length-take, length-drop, length-replicate}
use Rattle.std.proofs.lemmas.List.FromFn.{length-range_with_len}
use Rattle.std.proofs.lemmas.Nat.{le-div, div_below}
use Rattle.std.proofs.Math.Nat.{div-mul-le_self, div-add-mod, mod-lt, mul_comm}
use Rattle.std.specs.Prelude.{flat_map}
use Rattle.std.specs.List.{range_with_len}
use Rattle.gfs2_layout.specs.Structures.{dinode_length, is_directory, is_regular}
use Rattle.gfs2_layout.specs.declared.dinode.Dinode.{Dinode}
use Rattle.image_model.specs.Image.{Image}
use Rattle.image_model.specs.Owners.{Owners, is_dinode, holding}
use Rattle.gfs2_layout.specs.Device.{IsBlockSize}
use Rattle.gfs2_layout.specs.Holding.{Itself, Pointed, bytes_at}
use Rattle.gfs2_layout.specs.Inode.{dinode_in, height_in, is_directory_in, header_length, unit, pieces, carried, content_block, content_count, content_of, IsInode}
use Rattle.log_layout.specs.Journal.{ring_of, head_in}
use Rattle.log_layout.specs.Laws.{SaysTheSame}
use Rattle.image_model.specs.Journals.{IsJournal}
use Rattle.image_model.specs.Claims.{every}
use Rattle.image_model.proofs.Members.{IsIn, from_range}
use Rattle.image_model.proofs.Held.{own_part, block_same}
use Rattle.image_model.proofs.Same.{IsReached, dinode_same, content_block_is}
use Rattle.log_layout.proofs.SamePlaces.{says_the_same}

enough : (n e p r : ℕ) → p + r ≡ n + e - 1 → r < e → n ≤ p
enough n e p r same low = omega (arith, same, low)

-- so many pieces of a length are long enough
pub pieces_cover : (n each : ℕ) → 0 < each → n ≤ pieces n each * each
pieces_cover n each pos =
    subst (λ z. n ≤ z) (mul_comm each ((n + each - 1) / each)) (enough n each (each * ((n + each - 1) / each)) ((n + each - 1) % each) (div-add-mod (n + each - 1) each) (mod-lt (n + each - 1) pos))

pub whole_pieces : (n each : ℕ) → 0 < each → n / each ≤ pieces n each
whole_pieces n each pos = le-div (n / each) (n + each - 1) each pos (omega (arith, div-mul-le_self n each, pos))

length_pieces : {X Y : Type 0} (f : X → List Y) (n : ℕ) (xs : List X) → ((x : X) → IsIn x xs → length (f x) ≡ n) → length (flat_map f xs) ≡ length xs * n
length_pieces f n [] each = omega arith
length_pieces f n (x ∷ xs) each = length-append (f x) (flat_map f xs) ∙ ap₂ ◌+◌ (each x (inl refl)) (length_pieces f n xs (λ y h. each y (inr h))) ∙ omega arith

pub size_large : (size : ℕ) → IsBlockSize size → 512 ≤ size
size_large size (inl e) = omega (arith, e)
size_large size (inr (inl e)) = omega (arith, e)
size_large size (inr (inr (inl e))) = omega (arith, e)
size_large size (inr (inr (inr e))) = omega (arith, e)

module _ (im : Image) (owners : Owners) (large : 512 ≤ im.size) (a : ℕ) (dinode : is_dinode (owners a) ≡ true) (sound : IsInode (holding im owners a)) where
  unit_low : (unit (holding im owners a) ≤ im.size) × (0 < unit (holding im owners a))
  unit_low = elim (cases_Bool (is_directory_in (holding im owners a))) [
    | inl dir ↦ let e : unit (holding im owners a) ≡ im.size - header_length = cond-true _ _ _ dir in (omega (arith, e), omega (arith, e, large))
    | inr file ↦ let e : unit (holding im owners a) ≡ im.size = cond-false _ _ _ file in (omega (arith, e), omega (arith, e, large))
  ]

  length_carried : (c : ℕ) → IsReached (holding im owners a) 0 c → length (carried (holding im owners a) c) ≡ unit (holding im owners a)
  length_carried c way = elim (cases_eq c 0) [
    | inl e ↦ ap length (cond-true _ _ _ (eq-eqb c 0 e)) ∙ length-replicate (unit (holding im owners a)) 0
    | inr d ↦ ap length (cond-false _ _ _ (ne_eqb c 0 d)) ∙ length-drop (im.size - unit (holding im owners a)) (bytes_at (holding im owners a) c) ∙ rest way d
  ]
    where
      rest : IsReached (holding im owners a) 0 c → c ≢ 0 → length (bytes_at (holding im owners a) c) - (im.size - unit (holding im owners a)) ≡ unit (holding im owners a)
      rest (inl e) d = absurd (d e)
      rest (inr g) d = omega (arith, sound.whole c (Pointed g.0 g.1 0 g.2) g.3, unit_low.0)

  abbrev stuffed : List ℕ
  stuffed = drop dinode_length (bytes_at (holding im owners a) a)

  abbrev in_blocks : List ℕ
  in_blocks = flat_map (λ i. carried (holding im owners a) (content_block (holding im owners a) i)) (range_with_len 0 (content_count (holding im owners a)))

  -- the content is as long as the size says
  pub length_content : length (content_of (holding im owners a)) ≡ (dinode_in (holding im owners a)).size
  unfolding content_of
  length_content = each (height_in (holding im owners a)) refl
    where
      each : (n : ℕ) → height_in (holding im owners a) ≡ n → length (content_of (holding im owners a)) ≡ (dinode_in (holding im owners a)).size
      each zero e =
          ap (λ bytes. length (take (dinode_in (holding im owners a)).size bytes)) (cond-true _ stuffed in_blocks (eq-eqb (height_in (holding im owners a)) 0 e))
          ∙ length-take (dinode_in (holding im owners a)).size (drop dinode_length (bytes_at (holding im owners a) a))
          ∙ omega (arith, length-drop dinode_length (bytes_at (holding im owners a) a), sound.whole a Itself (own_part im owners a dinode), sound.fits.stuffed e)
      each (suc level) e =
          ap (λ bytes. length (take (dinode_in (holding im owners a)).size bytes)) (cond-false _ stuffed in_blocks (ne_eqb (height_in (holding im owners a)) 0 (λ z. absurd (omega (arith, e, z)))))
          ∙ length-take (dinode_in (holding im owners a)).size (flat_map (λ i. carried (holding im owners a) (content_block (holding im owners a) i)) (range_with_len 0 (content_count (holding im owners a))))
          ∙ omega (
            arith,
            length_pieces (λ i. carried (holding im owners a) (content_block (holding im owners a) i)) (unit (holding im owners a)) (range_with_len 0 (content_count (holding im owners a)))
                (λ i h. length_carried (content_block (holding im owners a) i)
                (content_block_is im owners a dinode sound level e i (omega (arith, (from_range 0 (content_count (holding im owners a)) i h).1, sound.fits.under level e))).0),
            ap (λ n. n * unit (holding im owners a)) (length-range_with_len 0 (content_count (holding im owners a))),
            pieces_cover (dinode_in (holding im owners a)).size (unit (holding im owners a)) unit_low.1,
          )

  -- a journal's places, read from its own blocks and block after block
  module _ (journal : IsJournal (holding im owners a)) where
    plain : is_directory_in (holding im owners a) ≡ false
    plain = elim (cases_Bool (is_directory_in (holding im owners a))) [
      | inr e ↦ e
      | inl dir ↦ absurd (differ (dinode_in (holding im owners a)) dir journal.file)
    ]
      where
        differ : (d : Dinode) → is_directory d ≡ true → is_regular d ≡ true → ⊥
        differ d e f = absurd (omega (arith, eqb-true (d.mode / 4096 % 16) 4 e, eqb-true (d.mode / 4096 % 16) 8 f))

    pub place_low : (p : ℕ) → p < (ring_of (holding im owners a)).places → p < content_count (holding im owners a)
    place_low p low =
        let e : unit (holding im owners a) ≡ im.size = cond-false _ _ _ plain in
        subst (λ each. p < pieces (dinode_in (holding im owners a)).size each) (sym e) (omega (arith, low, whole_pieces (dinode_in (holding im owners a)).size im.size (omega (arith, large))))

    -- a journal with a place has its content below the dinode
    pub place_high : (p : ℕ) → p < (ring_of (holding im owners a)).places → (level : ℕ) × (height_in (holding im owners a) ≡ suc level)
    place_high p low = each (height_in (holding im owners a)) refl
      where
        each : (n : ℕ) → height_in (holding im owners a) ≡ n → (level : ℕ) × (height_in (holding im owners a) ≡ suc level)
        each (suc level) e = (level, e)
        each zero e = absurd (omega (arith, low, sound.fits.stuffed e, div-below-one (dinode_in (holding im owners a)).size im.size (omega (arith, sound.fits.stuffed e))))
          where
            div-below-one : (n k : ℕ) → n < k → n / k < 1
            div-below-one n k less = div_below n k 1 (omega (arith, less)) (omega (arith, less))

    pub place_is : (p : ℕ) → p < (ring_of (holding im owners a)).places
        → (content_block (holding im owners a) p ≡ content_block (every im a) p) × (bytes_at (holding im owners a) (content_block (holding im owners a) p) ≡ im.at (content_block (every im a) p))
    place_is p low =
        let high = place_high p low in
        let is = content_block_is im owners a dinode sound high.0 high.1 p (omega (arith, place_low p low, sound.fits.under high.0 high.1)) in
        (is.1, block is.0 (journal.filled p low) ∙ ap im.at is.1)
      where
        block : IsReached (holding im owners a) 0 (content_block (holding im owners a) p) → content_block (holding im owners a) p ≢ 0
            → bytes_at (holding im owners a) (content_block (holding im owners a) p) ≡ im.at (content_block (holding im owners a) p)
        block (inl e) d = absurd (d e)
        block (inr g) d = block_same im owners a (content_block (holding im owners a) p) (Pointed g.0 g.1 0 g.2) g.3

    pub places_same : (ring_of (holding im owners a)).places ≡ (ring_of (every im a)).places
    places_same = ap (λ (d : Dinode). d.size / im.size) (dinode_same im owners a dinode sound)

module _ (im : Image) (owners : Owners) (large : 512 ≤ im.size) (a : ℕ) (dinode : is_dinode (owners a) ≡ true) (sound : IsInode (holding im owners a)) (journal : IsJournal (holding im owners a)) where
  pub rings_say_the_same : SaysTheSame (ring_of (holding im owners a)) (ring_of (every im a))
  rings_say_the_same = says_the_same (ring_of (holding im owners a)) (ring_of (every im a)) (record {
    size = refl;
    places = places_same im owners large a dinode sound journal;
    blocks = λ p low. (place_is im owners large a dinode sound journal p low).1;
  })

  pub head_same : head_in (ring_of (holding im owners a)) ≡ head_in (ring_of (every im a))
  head_same = rings_say_the_same.head
