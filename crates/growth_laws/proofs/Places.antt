-- Which block stands at which place of a file's tree.
use Rattle.std.proofs.Common.{◌≡◌, ◌≢◌, ℕ, zero, suc, ◌+◌, ◌-◌, ◌*◌, ◌/◌, ◌%◌, ◌<◌, ◌≤◌, inl, inr, Some, refl, sym, ap, ap₂, subst, ◌∙◌, arith}
use Rattle.std.proofs.lemmas.Nat.{div-mul-add, mod-mul-add, mul-add-lt, same_from_place, div-add-mod'}
use Rattle.std.proofs.Math.Nat.{mod-lt, div-lt_iff_lt-mul}
use Rattle.std.specs.Prelude.{◌↔◌}
use Rattle.gfs2_layout.specs.Device.{IsBlockSize}
use Rattle.gfs2_layout.specs.Holding.{Part, Pointed, Holding, part_at}
use Rattle.gfs2_layout.specs.Inode.{height_in, header_length, fan, span, pointer, descend, content_block, IsChild, IsPointed, by_dinode, by_block}
use Rattle.gfs2_layout.specs.Structures.{dinode_length}
use Rattle.dinode_tree.proofs.Pointers.{descend_zero, descend_one}
use Rattle.dinode_tree.proofs.Spans.{span_some}
use Rattle.growth_laws.specs.Files.{IsFile, places_on, block_on, IsPlaced}
use Rattle.growth_laws.specs.Laws.{PlacesAreParts, PartsHavePlaces, ContentIsLevelZero, TopPlacesAreThePointers, PlacesFollowPointers}

pub size_large : (size : ℕ) → IsBlockSize size → 512 ≤ size
size_large size (inl e) = omega (arith, e)
size_large size (inr (inl e)) = omega (arith, e)
size_large size (inr (inr (inl e))) = omega (arith, e)
size_large size (inr (inr (inr e))) = omega (arith, e)

-- ---- numbers

span_times : (size up level : ℕ) → span size (up + level) ≡ span size up * span size level
span_times size zero level = ap (span size) (zero_plus level) ∙ sym (one_times (span size level))
  where
    zero_plus : (n : ℕ) → 0 + n ≡ n
    zero_plus n = omega arith

    one_times : (n : ℕ) → 1 * n ≡ n
    one_times n = omega arith
span_times size (suc up) level =
    let next : suc up + level ≡ suc (up + level) = omega arith in
    ap (span size) next ∙ ap (λ n. fan size header_length * n) (span_times size up level) ∙ grouped (fan size header_length) (span size up) (span size level)
  where
    grouped : (a b c : ℕ) → a * (b * c) ≡ a * b * c
    grouped a b c = omega arith

joined : (first q s r t i : ℕ) → q * s + r ≡ i → first + q * (s * t) + r * t ≡ first + i * t
joined first q s r t i e = let flat : first + q * (s * t) + r * t ≡ first + (q * s + r) * t = omega arith in flat ∙ ap (λ n. first + n * t) e

pub cancelled : (a b s : ℕ) → 0 < s → a * s ≡ b * s → a ≡ b
cancelled a b s some e = (same_from_place a 0 b 0 s some some (let sum : a * s + 0 ≡ b * s + 0 = omega (arith, e) in sum)).0

-- a part with its level and its first index in other words
part_in_words : (h : Holding) (c from k l l' f f' : ℕ) → l ≡ l' → f ≡ f' → part_at h c ≡ Some (Pointed from k l f) → part_at h c ≡ Some (Pointed from k l' f')
part_in_words h c from k l l' f f' same_l same_f part = part ∙ (λ i. Some (Pointed from k (same_l i) (same_f i)))

module _ (h : Holding) (file : IsFile h) where
  large : 512 ≤ h.size
  large = size_large h.size file.block_size

  -- ---- downwards: what is found on the way down has the part that says so

  below : (up level at c i from k first : ℕ) → at ≡ up + level → part_at h c ≡ Some (Pointed from k at first) → i < span h.size up → descend h up c i ≢ 0
      → IsPlaced h (descend h up c i) level (first + i * span h.size level)
  below zero level at c i from k first e part low some =
      let none : i ≡ 0 = omega (arith, low) in
      let same : first ≡ first + 0 * span h.size level = omega arith in
      (from, k, part_in_words h c from k at level first (first + i * span h.size level) (omega (arith, e)) (same ∙ ap (λ n. first + n * span h.size level) (sym none)) part)
  below (suc up) level at c i from k first e part low some =
      let s = span h.size up in
      let p = pointer h header_length c (i / s) in
      let here : part_at h c ≡ Some (Pointed from k (suc (up + level)) first) = part_in_words h c from k at (suc (up + level)) first first (omega (arith, e)) refl part in
      let there : c ≢ 0 = λ none. some (ap (λ n. descend h (suc up) n i) none ∙ descend_zero h (suc up) i) in
      let down : descend h (suc up) c i ≡ descend h up p (i % s) = descend_one h up c i there in
      let near : i / s < fan h.size header_length = (div-lt_iff_lt-mul (span_some h.size up large)).1 low in
      let led : p ≢ 0 = λ hole. some (down ∙ ap (λ n. descend h up n (i % s)) hole ∙ descend_zero h up (i % s)) in
      let child : IsChild h c (i / s) (up + level) (first + i / s * span h.size (up + level)) p = file.tree.inner c from k (up + level) first here (i / s) near led in
      let next : IsPlaced h (descend h up p (i % s)) level (first + i / s * span h.size (up + level) + i % s * span h.size level)
      = below up level (up + level) p (i % s) c (i / s) (first + i / s * span h.size (up + level)) refl child.part (mod-lt i (span_some h.size up large)) (λ none. some (down ∙ none)) in
      let sums : first + i / s * span h.size (up + level) + i % s * span h.size level ≡ first + i * span h.size level
      = ap (λ n. first + i / s * n + i % s * span h.size level) (span_times h.size up level) ∙ joined first (i / s) s (i % s) (span h.size level) i (div-add-mod' i s) in
      subst (λ x. IsPlaced h x level (first + i * span h.size level)) (sym down) (subst (IsPlaced h (descend h up p (i % s)) level) sums next)

  pub part_of_place : (level j : ℕ) → level < height_in h → j < places_on h level → block_on h level j ≢ 0 → IsPlaced h (block_on h level j) level (j * span h.size level)
  part_of_place level j less low some =
      let up = height_in h - 1 - level in
      let s = span h.size up in
      let p = pointer h dinode_length h.own (j / s) in
      let high : height_in h ≡ suc (up + level) = omega (arith, less) in
      let near : j / s < fan h.size dinode_length = (div-lt_iff_lt-mul (span_some h.size up large)).1 low in
      let led : p ≢ 0 = λ hole. some (ap (λ n. descend h up n (j % s)) hole ∙ descend_zero h up (j % s)) in
      let child : IsChild h h.own (j / s) (up + level) (j / s * span h.size (up + level)) p = file.tree.top (up + level) high (j / s) near led in
      let next : IsPlaced h (descend h up p (j % s)) level (j / s * span h.size (up + level) + j % s * span h.size level)
      = below up level (up + level) p (j % s) h.own (j / s) (j / s * span h.size (up + level)) refl child.part (mod-lt j (span_some h.size up large)) some in
      let sums : j / s * span h.size (up + level) + j % s * span h.size level ≡ j * span h.size level
      = ap (λ n. j / s * n + j % s * span h.size level) (span_times h.size up level) ∙ joined_flat (j / s) s (j % s) (span h.size level) j (div-add-mod' j s) in
      subst (IsPlaced h (descend h up p (j % s)) level) sums next
    where
      joined_flat : (q s r t i : ℕ) → q * s + r ≡ i → q * (s * t) + r * t ≡ i * t
      joined_flat q s r t i e = let flat : q * (s * t) + r * t ≡ (q * s + r) * t = omega arith in flat ∙ ap (λ n. n * t) e

  -- ---- upwards: a block is found on the way down where its part says

  -- a block that stands `up` levels over `level`: its place, and what is found below it
  abbrev IsOver : ℕ → ℕ → ℕ → ℕ → ℕ → ℕ → Type 0
  IsOver up level at c i first = (j : ℕ) × (first ≡ j * span h.size at) × (j < places_on h at) × (block_on h level (j * span h.size up + i) ≡ descend h up c i)

  some_of_part : (c : ℕ) (p : Part) → part_at h c ≡ Some p → c ≢ 0
  some_of_part c p part none = let both : Some p ≡ _ = sym part ∙ ap (part_at h) none ∙ file.nobody in absurd (cc)

  over_one : (up level at c i from k first : ℕ) → at ≡ up + level → i < span h.size up
      → ((above j start : ℕ) → part_at h from ≡ Some (Pointed above j (suc at) start) → k * span h.size up + i < span h.size (suc up) → IsOver (suc up) level (suc at) from (k * span h.size up + i) start)
      → IsPointed h c from k at first → IsOver up level at c i first
  over_one up level at c i from k first e low over (by_dinode own high near is first_is) =
      let s = span h.size up in
      let ups : height_in h - 1 - level ≡ up = omega (arith, high, e) in
      let none : height_in h - 1 - at ≡ 0 = omega (arith, high) in
      let near' : k < fan h.size dinode_length * 1 = omega (arith, near) in
      let placed : k < places_on h at = subst (λ n. k < fan h.size dinode_length * span h.size n) (sym none) near' in
      let at_top : block_on h level (k * s + i) ≡ descend h up (pointer h dinode_length h.own ((k * s + i) / s)) ((k * s + i) % s)
      = ap (λ n. descend h n (pointer h dinode_length h.own ((k * s + i) / span h.size n)) ((k * s + i) % span h.size n)) ups in
      let found : descend h up (pointer h dinode_length h.own ((k * s + i) / s)) ((k * s + i) % s) ≡ descend h up c i
      = ap₂ (descend h up) (ap (pointer h dinode_length h.own) (div-mul-add k s i low) ∙ ap (λ x. pointer h dinode_length x k) (sym own) ∙ is) (mod-mul-add k s i low) in
      (k, first_is, placed, at_top ∙ found)
  over_one up level at c i from k first e low over (by_block above j0 start part near is first_is) =
      let s = span h.size up in
      let f = fan h.size header_length in
      let inside : k * s + i < f * s = subst (λ n. k * s + i < n) (turned s f) (mul-add-lt k s i f near low) in
      let up_there = over above j0 start part inside in
      let j' = up_there.0 in
      let there : from ≢ 0 = some_of_part from _ part in
      let firsts : first ≡ (j' * f + k) * span h.size at = first_is ∙ ap (λ n. n + k * span h.size at) up_there.1 ∙ sums j' f k (span h.size at) in
      let less : suc at < height_in h = file.tree.below from above j0 (suc at) start part in
      let ups : height_in h - 1 - at ≡ suc (height_in h - 1 - suc at) = omega (arith, less) in
      let fits : j' * f + k < f * places_on h (suc at) = mul-add-lt j' f k (places_on h (suc at)) up_there.2 near in
      let placed : j' * f + k < places_on h at = subst (λ n. j' * f + k < fan h.size dinode_length * span h.size n) (sym ups) (subst (λ n. j' * f + k < n) (swapped f (fan h.size dinode_length) (span h.size (height_in h - 1 - suc at))) fits) in
      let indexes : (j' * f + k) * s + i ≡ j' * (f * s) + (k * s + i) = omega arith in
      let down : descend h (suc up) from (k * s + i) ≡ descend h up c i
      = descend_one h up from (k * s + i) there ∙ ap₂ (descend h up) (ap (pointer h header_length from) (div-mul-add k s i low) ∙ is) (mod-mul-add k s i low) in
      (j' * f + k, firsts, placed, ap (block_on h level) indexes ∙ up_there.3 ∙ down)
    where
      turned : (a b : ℕ) → a * b ≡ b * a
      turned a b = omega arith

      sums : (j f k s : ℕ) → j * (f * s) + k * s ≡ (j * f + k) * s
      sums j f k s = omega arith

      swapped : (f d s : ℕ) → f * (d * s) ≡ d * (f * s)
      swapped f d s = omega arith

  over : (n up level at c i from k first : ℕ) → at ≡ up + level → height_in h ≡ n + suc at → i < span h.size up → part_at h c ≡ Some (Pointed from k at first) → IsOver up level at c i first
  over zero up level at c i from k first e high low part =
      over_one up level at c i from k first e low (λ above j start part' inside. absurd (omega (arith, high, file.tree.below from above j (suc at) start part'))) (file.tree.pointed c from k at first part)
  over (suc n) up level at c i from k first e high low part =
      over_one up level at c i from k first e low
      (λ above j start part' inside. over n (suc up) level (suc at) from (k * span h.size up + i) above j start (omega (arith, e)) (omega (arith, high)) inside part') (file.tree.pointed c from k at first part)

  -- where a pointer stands that leads to a block, or nowhere, the place has that block, or none
  pub place_of_pointer : (c from k level first : ℕ) → IsPointed h c from k level first → (j : ℕ) × (first ≡ j * span h.size level) × (j < places_on h level) × (block_on h level j ≡ c)
  place_of_pointer c from k level first pointed =
      let found = over_one 0 level level c 0 from k first (omega arith) (omega arith) parent pointed in
      let index : found.0 ≡ found.0 * 1 + 0 = omega arith in
      (found.0, found.1, found.2, ap (block_on h level) index ∙ found.3)
    where
      parent : (above j start : ℕ) → part_at h from ≡ Some (Pointed above j (suc level) start) → k * 1 + 0 < span h.size 1 → IsOver 1 level (suc level) from (k * 1 + 0) start
      parent above j start part inside =
          let less : suc level < height_in h = file.tree.below from above j (suc level) start part in
          over (height_in h - suc (suc level)) 1 level (suc level) from (k * 1 + 0) above j start (omega arith) (omega (arith, less)) inside part

  pub place_of_part : (c level first : ℕ) → IsPlaced h c level first → (j : ℕ) × (first ≡ j * span h.size level) × (j < places_on h level) × (block_on h level j ≡ c)
  place_of_part c level first (from, k, part) = place_of_pointer c from k level first (file.tree.pointed c from k level first part)

  -- a pointer stands below the height
  pub pointer_low : (c from k level first : ℕ) → IsPointed h c from k level first → level < height_in h
  pointer_low c from k level first (by_dinode own high near is first_is) = omega (arith, high)
  pointer_low c from k level first (by_block above j start part near is first_is) = omega (arith, file.tree.below from above j (suc level) start part)

  pub part_there : (level j c : ℕ) → level < height_in h → j < places_on h level → c ≢ 0 → (block_on h level j ≡ c) ↔ IsPlaced h c level (j * span h.size level)
  part_there level j c less low some = (
    λ is. subst (λ x. IsPlaced h x level (j * span h.size level)) is (part_of_place level j less low (λ none. some (sym is ∙ none))),
    λ placed. let found = place_of_part c level (j * span h.size level) placed in
        let same : j ≡ found.0 = cancelled j found.0 (span h.size level) (span_some h.size level large) found.1 in
        ap (block_on h level) same ∙ found.3,
  )

pub places_are_parts : PlacesAreParts
places_are_parts h level j c file less low some = part_there h file level j c less low some

pub parts_have_places : PartsHavePlaces
parts_have_places h c level first file placed = place_of_part h file c level first placed

pub content_is_level_zero : ContentIsLevelZero
unfolding content_block
content_is_level_zero h i =
    let same : height_in h - 1 ≡ height_in h - 1 - 0 = omega arith in
    ap (λ l. descend h l (pointer h dinode_length h.own (i / span h.size l)) (i % span h.size l)) same

pub top_places_are_the_pointers : TopPlacesAreThePointers
top_places_are_the_pointers h level j file high low =
    let pointed : IsPointed h (pointer h dinode_length h.own j) h.own j level (j * span h.size level) = by_dinode refl high low refl refl in
    let found = place_of_pointer h file (pointer h dinode_length h.own j) h.own j level (j * span h.size level) pointed in
    let same : j ≡ found.0 = cancelled j found.0 (span h.size level) (span_some h.size level (size_large h.size file.block_size)) found.1 in
    (ap (block_on h level) same ∙ found.3, pointed)

pub places_follow_pointers : PlacesFollowPointers
places_follow_pointers h level q k c file less low near is some =
    let placed = (part_there h file (suc level) q c less low some).0 is in
    let firsts : (q * fan h.size header_length + k) * span h.size level ≡ q * span h.size (suc level) + k * span h.size level = sums q (fan h.size header_length) k (span h.size level) in
    let pointed : IsPointed h (pointer h header_length c k) c k level ((q * fan h.size header_length + k) * span h.size level)
    = by_block placed.0 placed.1 (q * span h.size (suc level)) placed.2 near refl firsts in
    let found = place_of_pointer h file (pointer h header_length c k) c k level ((q * fan h.size header_length + k) * span h.size level) pointed in
    let same : q * fan h.size header_length + k ≡ found.0 = cancelled (q * fan h.size header_length + k) found.0 (span h.size level) (span_some h.size level (size_large h.size file.block_size)) found.1 in
    (ap (block_on h level) same ∙ found.3, pointed)
  where
    sums : (q f k s : ℕ) → (q * f + k) * s ≡ q * (f * s) + k * s
    sums q f k s = omega arith
