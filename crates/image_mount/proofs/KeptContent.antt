-- The blocks below a file's dinode are kept, where its content was read from those that are.
use Rattle.std.proofs.Common.{◌≡◌, ◌≢◌, inl, inr, ℕ, zero, suc, ◌+◌, ◌-◌, ◌*◌, ◌/◌, ◌%◌, ◌<◌, ◌≤◌, if◌then◌else◌, true, List, [], ◌∷◌, length, drop, take, Option, None, Some, refl, sym, ap, ap₂, subst, ◌∙◌, arith, length-append}
use Rattle.std.specs.Prelude.{⊤, flat_map, min, nat_lt, replicate, unwrap_or}
use Rattle.std.specs.List.{range_with_len}
use Rattle.std.proofs.lemmas.Bool.{cases_Bool, cases_eq, cond-true, cond-false, eq-eqb, ne_eqb}
use Rattle.std.proofs.lemmas.Bool.Decides.{nat_tests}
use Rattle.std.proofs.lemmas.List.{length-take, length-drop, length-replicate}
use Rattle.std.proofs.lemmas.Nat.{div-mul-add, mod-mul-add}
use Rattle.std.proofs.Math.Nat.{div-mul-le_self, mul-le-mul_right}
use Rattle.dinode_tree.specs.Reading.{AreHeaded, IsHeadedDown, block_at, content_range, reach, target}
use Rattle.dinode_tree.specs.Shown.{IsShown}
use Rattle.gfs2_layout.specs.Bytes.{number_at, u32_at, u64_at}
use Rattle.gfs2_layout.specs.Headers.{HasHeader}
use Rattle.gfs2_layout.specs.Holding.{Holding, Itself, bytes_at}
use Rattle.gfs2_layout.specs.Inode.{Leads, from_dinode, from_block, carried, content_block, content_count, content_of, descend, dinode_in, fan, header_length, height_in, is_directory_in, pieces, pointer, span, unit}
use Rattle.gfs2_layout.specs.Structures.{dinode_length, dinode_of, is_directory}
use Rattle.gfs2_layout.specs.declared.dinode.Dinode.{Dinode}
use Rattle.glock_names.specs.Views.{IsView, Seen}
use Rattle.image_model.specs.Claims.{every}
use Rattle.image_model.specs.Image.{Image}
use Rattle.image_model.proofs.Lengths.{size_large}
use Rattle.image_mount.specs.Kept.{Kept, seen_of}
use Rattle.image_mount.specs.Marked.{HasKeptContent, IsKept, IsKeptDown, IsKeptWay}
use Rattle.image_mount.specs.Searching.{IsRead}

-- ---- what is on the way to a block is on the way to what it leads to

-- P of each indirect block from block b down, so many levels, to the block of content with index i below it
abbrev EachDown : (ℕ → Type 0) → Holding → ℕ → ℕ → ℕ → Type 0
EachDown P h zero b i = ⊤
EachDown P h (suc level) b i = P b × EachDown P h level (pointer h header_length b (i / span h.size level)) (i % span h.size level)

headed_each : (h : Holding) (level b i : ℕ) → IsHeadedDown h level b i → EachDown (λ x. HasHeader 5 500 (bytes_at h x)) h level b i
headed_each h zero b i way = tt
headed_each h (suc level) b i way = (way.0, headed_each h level (pointer h header_length b (i / span h.size level)) (i % span h.size level) way.1)

kept_each : (k : Kept) (h : Holding) (level b i : ℕ) → IsKeptDown k h level b i → EachDown (IsKept k) h level b i
kept_each k h zero b i way = tt
kept_each k h (suc level) b i way = (way.0, kept_each k h level (pointer h header_length b (i / span h.size level)) (i % span h.size level) way.1)

leads_some : (h : Holding) (p j level first c : ℕ) → Leads h p j level first c → c ≢ 0
leads_some h _ _ _ _ _ (from_dinode j level high low some) = some
leads_some h _ _ _ _ _ (from_block p j level first c i leads low some) = some

span_some : (size : ℕ) → 512 ≤ size → (level : ℕ) → 0 < span size level
span_some size large zero = omega arith
span_some size large (suc level) =
    let below = span_some size large level in
    let fans : 1 ≤ fan size header_length = omega (arith, large) in
    let rises : 1 * span size level ≤ fan size header_length * span size level = mul-le-mul_right (span size level) fans in
    omega (arith, below, rises)

module _ (h : Holding) where
  wide : (j s r m : ℕ) → j < m → r < s → j * s + r < m * s
  wide j s r m low rest = let rises : (j + 1) * s ≤ m * s = mul-le-mul_right s (omega (arith, low)) in omega (arith, rises, rest)

  -- a block that a pointer leads to is where the descent to its content comes
  descend_led : (p j level first c r : ℕ) → Leads h p j level first c → r < span h.size level → content_block h (first + r) ≡ descend h level c r
  unfolding content_block
  descend_led _ _ _ _ _ r (from_dinode j level high low some) rest =
      let less : height_in h - 1 ≡ level = omega (arith, high) in
      let index = ap (pointer h dinode_length h.own) (div-mul-add j (span h.size level) r rest) in
      let left = mod-mul-add j (span h.size level) r rest in
      rw less (ap₂ (descend h level) index left)
  descend_led _ _ _ _ _ r (from_block p j level first c i leads low some) rest =
      let s = span h.size level in
      let there = descend_led p j (suc level) first c (i * s + r) leads (wide i s r (fan h.size header_length) low rest) in
      let sum : first + i * s + r ≡ first + (i * s + r) = omega arith in
      ap (content_block h) sum ∙ there ∙ cond-false _ _ _ (ne_eqb c 0 (leads_some h p j (suc level) first c leads))
      ∙ ap₂ (descend h level) (ap (pointer h header_length c) (div-mul-add i s r rest)) (mod-mul-add i s r rest)

  -- what holds of each block on the way holds from there down
  each_led : (P : ℕ → Type 0) (p j level first c r : ℕ) → Leads h p j level first c → r < span h.size level
      → EachDown P h (height_in h - 1) (pointer h dinode_length h.own ((first + r) / span h.size (height_in h - 1))) ((first + r) % span h.size (height_in h - 1)) → EachDown P h level c r
  each_led P _ _ _ _ _ r (from_dinode j level high low some) rest way =
      let less : height_in h - 1 ≡ level = omega (arith, high) in
      let here : EachDown P h level (pointer h dinode_length h.own ((j * span h.size level + r) / span h.size level)) ((j * span h.size level + r) % span h.size level)
      = subst (λ n. EachDown P h n (pointer h dinode_length h.own ((j * span h.size level + r) / span h.size n)) ((j * span h.size level + r) % span h.size n)) less way in
      subst (λ n. EachDown P h level (pointer h dinode_length h.own j) n) (mod-mul-add j (span h.size level) r rest)
      (subst (λ n. EachDown P h level (pointer h dinode_length h.own n) ((j * span h.size level + r) % span h.size level)) (div-mul-add j (span h.size level) r rest) here)
  each_led P _ _ _ _ _ r (from_block p j level first c i leads low some) rest way =
      let s = span h.size level in
      let sum : first + i * s + r ≡ first + (i * s + r) = omega arith in
      let here = subst (λ n. EachDown P h (height_in h - 1) (pointer h dinode_length h.own (n / span h.size (height_in h - 1))) (n % span h.size (height_in h - 1))) sum way in
      let there = each_led P p j (suc level) first c (i * s + r) leads (wide i s r (fan h.size header_length) low rest) here in
      subst (λ n. EachDown P h level (pointer h header_length c i) n) (mod-mul-add i s r rest)
      (subst (λ n. EachDown P h level (pointer h header_length c n) ((i * s + r) % s)) (div-mul-add i s r rest) there.1)

  -- the pointers reach what they lead to
  reached : (p j level first c r : ℕ) → Leads h p j level first c → r < span h.size level → first + r < reach h.size (height_in h)
  reached _ _ _ _ _ r (from_dinode j level high low some) rest =
      subst (λ n. j * span h.size level + r < reach h.size n) (sym high) (wide j (span h.size level) r (fan h.size dinode_length) low rest)
  reached _ _ _ _ _ r (from_block p j level first c i leads low some) rest =
      let s = span h.size level in
      let sum : first + i * s + r ≡ first + (i * s + r) = omega arith in
      let far = reached p j (suc level) first c (i * s + r) leads (wide i s r (fan h.size header_length) low rest) in
      subst (λ n. n < reach h.size (height_in h)) (sym sum) far

  pub high_led : (p j level first c : ℕ) → Leads h p j level first c → height_in h ≢ 0
  high_led _ _ _ _ _ (from_dinode j level high low some) none = absurd (omega (arith, high, none))
  high_led _ _ _ _ _ (from_block p j level first c i leads low some) none = high_led p j (suc level) first c leads none

-- what is on the way to content that a block leads to is kept, so that block, where it is above content
pub way_led : (k : Kept) (h : Holding) (p j level first c : ℕ) → 512 ≤ h.size → Leads h p j (suc level) first c → IsKeptWay k h first → IsKept k c
way_led k h p j level first c large leads way =
    let pos : 0 < span h.size (suc level) = span_some h.size large (suc level) in
    let none : first ≡ first + 0 = omega arith in
    let each = kept_each k h (height_in h - 1) (pointer h dinode_length h.own (first / span h.size (height_in h - 1))) (first % span h.size (height_in h - 1)) way in
    (each_led h (IsKept k) p j (suc level) first c 0 leads pos
    (subst (λ n. EachDown (IsKept k) h (height_in h - 1) (pointer h dinode_length h.own (n / span h.size (height_in h - 1))) (n % span h.size (height_in h - 1))) none each)).0

-- a block of content that is led to is the one with its index
pub block_led : (h : Holding) (p j first c : ℕ) → Leads h p j 0 first c → content_block h first ≡ c
block_led h p j first c leads = let none : first ≡ first + 0 = omega arith in ap (content_block h) none ∙ descend_led h p j 0 first c 0 leads (omega arith)

-- ---- an inode that has what the view has of each block, and else these bytes

abbrev filled : Seen → ℕ → List ℕ → Holding
filled v a x = record { size = v.size; count = 0; own = a; cell = λ b. Some (record { part = Itself; bytes = unwrap_or (v.block_at b) x }) }

pub filled_shown : (v : Seen) (a : ℕ) (x : List ℕ) → IsShown v a (filled v a x)
filled_shown v a x = record {
  own = refl;
  size = refl;
  dinode = refl;
  led_to = λ b n level first c leads. refl;
  same = λ b bytes some at. ap (λ o. unwrap_or o x) at;
}

-- a block without a header, whose first pointer leads to itself
abbrev turning : ℕ → List ℕ
turning b = 0 ∷ 0 ∷ 0 ∷ 0 ∷ 0 ∷ 0 ∷ 0 ∷ 0 ∷ 0 ∷ 0 ∷ 0 ∷ 0 ∷ 0 ∷ 0 ∷ 0 ∷ 0 ∷ 0 ∷ 0 ∷ 0 ∷ 0 ∷ 0 ∷ 0 ∷ 0 ∷ 0 ∷ 0 ∷ 0 ∷ 0 ∷ 0 ∷ 0 ∷ 0 ∷ 0 ∷ b ∷ []

turned : (b : ℕ) → u64_at 24 (turning b) ≡ b
unfolding number_at
turned b = omega arith

headless : (b : ℕ) → HasHeader 5 500 (turning b) → ⊥
unfolding number_at
headless b header = let none : u32_at 0 (turning b) ≡ 0 = refl in absurd (omega (arith, header.magic_is, none))

-- ---- pieces of content of which one is missing

pieces_short : (f : ℕ → List ℕ) (u start n i : ℕ) → ((j : ℕ) → length (f j) ≤ u) → start ≤ i → i < start + n → length (f i) ≡ 0 → length (flat_map f (range_with_len start n)) + u ≤ n * u
pieces_short f u start zero i each low high none = absurd (omega (arith, low, high))
pieces_short f u start (suc n) i each low high none = elim (cases_eq start i) [
  | inl same ↦
      let here : length (f start) ≡ 0 = ap (λ z. length (f z)) same ∙ none in
      let rest = pieces_long (start + 1) n in
      let more : suc n * u ≡ n * u + u = omega arith in
      omega (arith, length-append (f start) (flat_map f (range_with_len (start + 1) n)), here, rest, more)
  | inr other ↦
      let rest = pieces_short f u (start + 1) n i each (omega (arith, low, other)) (omega (arith, high)) none in
      let more : suc n * u ≡ n * u + u = omega arith in
      omega (arith, length-append (f start) (flat_map f (range_with_len (start + 1) n)), each start, rest, more)
]
  where
    pieces_long : (from m : ℕ) → length (flat_map f (range_with_len from m)) ≤ m * u
    pieces_long from zero = omega arith
    pieces_long from (suc m) =
        let rest = pieces_long (from + 1) m in
        let more : suc m * u ≡ m * u + u = omega arith in
        omega (arith, length-append (f from) (flat_map f (range_with_len (from + 1) m)), each from, rest, more)

-- ---- what was read

module _ (k : Kept) (a len : ℕ) (content : List ℕ) (view : IsView (seen_of k)) (own : IsKept k a)
    (found : (h : Holding) → IsShown (seen_of k) a h → content ≡ content_range h 0 len)
    (long : (h : Holding) → IsShown (seen_of k) a h → length content ≡ min len ((dinode_in h).size - 0))
    (headed : (h : Holding) → IsShown (seen_of k) a h → AreHeaded h 0 (min (0 + len) (dinode_in h).size)) where
  abbrev v : Seen
  v = seen_of k

  -- a block that isn't kept has the bytes that it is filled with
  missing : (b : ℕ) (x : List ℕ) → v.block_at b ≡ None → bytes_at (filled v a x) b ≡ x
  missing b x none = ap (λ o. unwrap_or o x) none

  large : 512 ≤ k.size
  large = size_large k.size view.block_size

  module _ (x : List ℕ) (size : (dinode_in (filled v a x)).size ≡ len) where
    abbrev h : Holding
    h = filled v a x

    unit_low : (0 < unit h) × (unit h ≤ k.size)
    unit_low = elim (cases_Bool (is_directory_in h)) [
      | inl dir ↦ let e : unit h ≡ k.size - header_length = cond-true _ _ _ dir in (omega (arith, e, large), omega (arith, e))
      | inr file ↦ let e : unit h ≡ k.size = cond-false _ _ _ file in (omega (arith, e, large), omega (arith, e))
    ]

    -- a block of content with this index begins before the end
    begins : (i : ℕ) → i < content_count h → i * unit h < (dinode_in h).size
    begins i low =
        let u = unit h in
        let n = (dinode_in h).size in
        let rises : (i + 1) * u ≤ (n + u - 1) / u * u = mul-le-mul_right u (omega (arith, low)) in
        let more : (i + 1) * u ≡ i * u + u = omega arith in
        omega (arith, rises, more, div-mul-le_self (n + u - 1) u, unit_low.0)

    -- a block of content that is led to is kept: else the content would be too short
    end_kept : x ≡ [] → (p j first c : ℕ) → Leads h p j 0 first c → first < content_count h → v.block_at c ≡ None → ⊥
    unfolding content_of
    end_kept empty p j first c leads low none =
        let u = unit h in
        let n = content_count h in
        let f = λ (i : ℕ). carried h (content_block h i) in
        let at : content_block h first ≡ c = block_led h p j first c leads in
        let lost : length (carried h c) ≡ length (drop (k.size - u) (bytes_at h c)) = ap (λ (bs : List ℕ). length bs) (cond-false _ (replicate u 0) (drop (k.size - u) (bytes_at h c)) (ne_eqb c 0 (leads_some h p j 0 first c leads))) in
        let nothing : length (bytes_at h c) ≡ 0 = ap (λ (bs : List ℕ). length bs) (missing c x none ∙ empty) in
        let here : length (f first) ≡ 0 = let same : length (carried h (content_block h first)) ≡ length (carried h c) = ap (λ (b : ℕ). length (carried h b)) at in omega (arith, same, lost, length-drop (k.size - u) (bytes_at h c), nothing) in
        let all : length (flat_map f (range_with_len 0 n)) + u ≤ n * u = pieces_short f u 0 n first (λ i. carried_low (content_block h i)) (omega arith) (omega (arith, low)) here in
        let text : content ≡ take len (take (dinode_in h).size (flat_map f (range_with_len 0 n)))
        = found h (filled_shown v a x) ∙ ap (λ bs. take len (take (dinode_in h).size bs)) (cond-false _ _ _ (ne_eqb (height_in h) 0 (high_led h p j 0 first c leads))) in
        let short : length content ≤ length (flat_map f (range_with_len 0 n)) =
        omega (arith, ap (λ (bs : List ℕ). length bs) text, length-take len (take (dinode_in h).size (flat_map f (range_with_len 0 n))), length-take (dinode_in h).size (flat_map f (range_with_len 0 n))) in
        let whole = long h (filled_shown v a x) in
        let most : n * u ≤ (dinode_in h).size + u - 1 = div-mul-le_self ((dinode_in h).size + u - 1) u in
        let some = begins first low in
        omega (arith, all, short, whole, most, size, some)
      where
        carried_low : (b : ℕ) → length (carried h b) ≤ unit h
        carried_low b = elim (cases_eq b 0) [
          | inl hole ↦ let e : length (carried h b) ≡ length (replicate (unit h) 0) = ap (λ (bs : List ℕ). length bs) (cond-true _ (replicate (unit h) 0) _ (eq-eqb b 0 hole)) in omega (arith, e, length-replicate {A = ℕ} (unit h) 0)
          | inr some ↦
              let e : length (carried h b) ≡ length (drop (k.size - unit h) (bytes_at h b)) = ap (λ (bs : List ℕ). length bs) (cond-false _ (replicate (unit h) 0) (drop (k.size - unit h) (bytes_at h b)) (ne_eqb b 0 some)) in
              omega (arith, e, length-drop (k.size - unit h) (bytes_at h b), bytes_low b, unit_low.1)
        ]
          where
            bytes_low : (b : ℕ) → length (bytes_at h b) ≤ k.size
            bytes_low b = each (v.block_at b) refl
              where
                each : (o : Option (List ℕ)) → v.block_at b ≡ o → length (unwrap_or o x) ≤ k.size
                each None e = let none : length x ≡ 0 = ap (λ (bs : List ℕ). length bs) empty in omega (arith, none)
                each (Some bytes) e = omega (arith, view.whole b bytes e)

    -- an indirect block that is led to is kept: else it would have no header
    above_kept : (p j level first c : ℕ) → x ≡ turning c → Leads h p j (suc level) first c → first < content_count h → v.block_at c ≡ None → ⊥
    above_kept p j level first c is leads low none =
        let some = leads_some h p j (suc level) first c leads in
        let pos : 0 < span h.size (suc level) = span_some k.size large (suc level) in
        let zero_more : first ≡ first + 0 = omega arith in
        let at : content_block h first ≡ c = ap (content_block h) zero_more ∙ descend_led h p j (suc level) first c 0 leads pos ∙ stays (suc level) in
        let far : first < reach h.size (height_in h) = let r = reached h p j (suc level) first c 0 leads pos in omega (arith, r) in
        let here : block_at h first ≡ Some c = cond-true _ _ _ (let t : nat_lt first (reach h.size (height_in h)) ≡ true = grind (arith, nat_tests, far) in t) ∙ ap target at ∙ cond-false _ _ _ (ne_eqb c 0 some) in
        let begun = begins first low in
        let way = (headed h (filled_shown v a x) first (omega arith) (omega (arith, begun, size)) c here).0 in
        let each = headed_each h (height_in h - 1) (pointer h dinode_length h.own (first / span h.size (height_in h - 1))) (first % span h.size (height_in h - 1)) way in
        let down = each_led h (λ b. HasHeader 5 500 (bytes_at h b)) p j (suc level) first c 0 leads pos
        (subst (λ n. EachDown (λ b. HasHeader 5 500 (bytes_at h b)) h (height_in h - 1) (pointer h dinode_length h.own (n / span h.size (height_in h - 1))) (n % span h.size (height_in h - 1))) zero_more each) in
        headless c (subst (HasHeader 5 500) (missing c x none ∙ is) down.0)
      where
        stays : (m : ℕ) → descend h m c 0 ≡ c
        stays zero = refl
        stays (suc m) =
            let pos : 0 < span h.size m = span_some k.size large m in
            let first_one : 0 / span h.size m ≡ 0 = omega (arith, pos) in
            let none_left : 0 % span h.size m ≡ 0 = omega (arith, pos) in
            let to : pointer h header_length c (0 / span h.size m) ≡ c = ap (pointer h header_length c) first_one ∙ ap (u64_at 24) (missing c x none ∙ is) ∙ turned c in
            cond-false _ _ _ (ne_eqb c 0 (leads_some h p j (suc level) first c leads)) ∙ ap₂ (descend h m) to none_left ∙ stays m

  -- ---- the image's file

  module _ (im : Image) (read : IsRead im k) (size : (dinode_in (every im a)).size ≡ len) where
    -- as if its blocks had the size of those that are kept, which they have
    abbrev g : Holding
    g = record { size = k.size; count = im.count; own = a; cell = λ b. Some (record { part = Itself; bytes = im.at b }) }

    same_bytes : (b : ℕ) (x : List ℕ) → IsKept k b → unwrap_or (v.block_at b) x ≡ im.at b
    same_bytes b x kept = each (v.block_at b) refl
      where
        each : (o : Option (List ℕ)) → v.block_at b ≡ o → unwrap_or o x ≡ im.at b
        each None e = absurd (kept e)
        each (Some bytes) e = sym (read.same b bytes e)

    dinode_x : (x : List ℕ) → dinode_in (filled v a x) ≡ dinode_in (every im a)
    unfolding dinode_in
    dinode_x x = ap dinode_of (same_bytes a x own)

    dinode_g : dinode_in g ≡ dinode_in (every im a)
    unfolding dinode_in
    dinode_g = refl

    dinode_xg : (x : List ℕ) → dinode_in (filled v a x) ≡ dinode_in g
    dinode_xg x = dinode_x x ∙ sym dinode_g

    count_x : (x : List ℕ) → content_count (filled v a x) ≡ content_count g
    count_x x = ap (λ (d : Dinode). pieces d.size (if is_directory d then k.size - header_length else k.size)) (dinode_xg x)

    size_x : (x : List ℕ) → (dinode_in (filled v a x)).size ≡ len
    size_x x = ap (λ (d : Dinode). d.size) (dinode_x x) ∙ size

    last : (p j level first c : ℕ) → ((x : List ℕ) → Leads (filled v a x) p j level first c) → first < content_count g → IsKept k c
    last p j zero first c shown within none = end_kept [] (size_x []) refl p j first c (shown []) (subst (λ n. first < n) (sym (count_x [])) within) none
    last p j (suc level) first c shown within none =
        above_kept (turning c) (size_x (turning c)) p j level first c refl (shown (turning c)) (subst (λ n. first < n) (sym (count_x (turning c))) within) none

    shown_first : (j level : ℕ) → height_in g ≡ suc level → j < fan k.size dinode_length → pointer g dinode_length a j ≢ 0 → (x : List ℕ) → Leads (filled v a x) a j level (j * span k.size level) (pointer g dinode_length a j)
    shown_first j level high low some x =
        let to : pointer (filled v a x) dinode_length a j ≡ pointer g dinode_length a j = ap (u64_at (dinode_length + 8 * j)) (same_bytes a x own) in
        subst (Leads (filled v a x) a j level (j * span k.size level)) to (from_dinode j level (ap (λ (d : Dinode). d.height) (dinode_xg x) ∙ high) low (λ e. some (sym to ∙ e)))

    shown_more : (p j level first c i : ℕ) → IsKept k c → ((x : List ℕ) → Leads (filled v a x) p j (suc level) first c) → i < fan k.size header_length → pointer g header_length c i ≢ 0
        → (x : List ℕ) → Leads (filled v a x) c i level (first + i * span k.size level) (pointer g header_length c i)
    shown_more p j level first c i kept above low some x =
        let to : pointer (filled v a x) header_length c i ≡ pointer g header_length c i = ap (u64_at (header_length + 8 * i)) (same_bytes c x kept) in
        subst (Leads (filled v a x) c i level (first + i * span k.size level)) to (from_block p j level first c i (above x) low (λ e. some (sym to ∙ e)))

    led : (p j level first c : ℕ) → Leads g p j level first c → first < content_count g → IsKept k c × ((x : List ℕ) → Leads (filled v a x) p j level first c)
    led _ _ _ _ _ (from_dinode j level high low some) within =
        let shown = shown_first j level high low some in
        (last a j level (j * span k.size level) (pointer g dinode_length a j) shown within, shown)
    led _ _ _ _ _ (from_block p j level first c i leads low some) within =
        let above = led p j (suc level) first c leads (omega (arith, within)) in
        let shown = shown_more p j level first c i above.0 above.1 low some in
        (last c i level (first + i * span k.size level) (pointer g header_length c i) shown within, shown)

    pub content_kept : HasKeptContent k (every im a)
    content_kept =
        subst (λ s. HasKeptContent k (record { size = s; count = im.count; own = a; cell = λ b. Some (record { part = Itself; bytes = im.at b }) })) read.size
        (λ p j level first b leads within. (led p j level first b leads within).0)
