-- The places above a place, as numbers.
use Rattle.std.proofs.Common.{◌≡◌, ℕ, zero, suc, ◌+◌, ◌-◌, ◌*◌, ◌/◌, ◌%◌, ◌<◌, ◌≤◌, sym, ap, subst, ◌∙◌, arith}
use Rattle.std.proofs.lemmas.Nat.{div-add-mod'}
use Rattle.std.proofs.Math.Nat.{div-one, div-div-eq-div-mul, mul_comm, mul-le-mul_right, mod-lt, div-mul-le_self, div-lt_iff_lt-mul}
use Rattle.gfs2_layout.specs.Inode.{fan, span, header_length}
use Rattle.dinode_tree.proofs.Spans.{span_some}
use Rattle.file_walks.specs.Walks.{place_above}

-- a place is the one above itself on its own level
pub above_self : (size level j : ℕ) → place_above size level j level ≡ j
above_self size level j =
    let none : level - level ≡ 0 = omega arith in
    ap (λ n. j / span size n) none ∙ div-one j

-- one level further up
span_next : (size level low : ℕ) → level ≤ low → span size (suc low - level) ≡ span size (low - level) * fan size header_length
span_next size level low least =
    let up : suc low - level ≡ suc (low - level) = omega (arith, least) in
    ap (span size) up ∙ mul_comm (fan size header_length) (span size (low - level))

pub place_next : (size level j low : ℕ) → level ≤ low → place_above size level j low / fan size header_length ≡ place_above size level j (suc low)
place_next size level j low least =
    div-div-eq-div-mul j (span size (low - level)) (fan size header_length) ∙ ap (λ n. j / n) (sym (span_next size level low least))

-- the place above a place, and which of its pointers leads there
pub place_splits : (size level j low : ℕ) → level ≤ low → place_above size level j (suc low) * fan size header_length + place_above size level j low % fan size header_length ≡ place_above size level j low
place_splits size level j low least =
    ap (λ n. n * fan size header_length + place_above size level j low % fan size header_length) (sym (place_next size level j low least))
    ∙ div-add-mod' (place_above size level j low) (fan size header_length)

-- and so the first index of content below it
pub first_splits : (size level j low : ℕ) → level ≤ low
    → place_above size level j (suc low) * span size (suc low) + place_above size level j low % fan size header_length * span size low ≡ place_above size level j low * span size low
first_splits size level j low least =
    let flat : place_above size level j (suc low) * (fan size header_length * span size low) + place_above size level j low % fan size header_length * span size low
    ≡ (place_above size level j (suc low) * fan size header_length + place_above size level j low % fan size header_length) * span size low
    = flattened (place_above size level j (suc low)) (fan size header_length) (place_above size level j low % fan size header_length) (span size low) in
    flat ∙ ap (λ n. n * span size low) (place_splits size level j low least)
  where
    flattened : (q f k s : ℕ) → q * (f * s) + k * s ≡ (q * f + k) * s
    flattened q f k s = omega arith

-- ---- the content below a place stands below each place above it

pub span_times : (size up level : ℕ) → span size (up + level) ≡ span size up * span size level
span_times size zero level =
    let same : 0 + level ≡ level = omega arith in
    let once : span size level ≡ 1 * span size level = omega arith in
    ap (span size) same ∙ once
span_times size (suc up) level =
    let next : suc up + level ≡ suc (up + level) = omega arith in
    ap (span size) next ∙ ap (λ n. fan size header_length * n) (span_times size up level) ∙ grouped (fan size header_length) (span size up) (span size level)
  where
    grouped : (a b c : ℕ) → a * (b * c) ≡ a * b * c
    grouped a b c = omega arith

between : (j s t i : ℕ) → 0 < s → j * t ≤ i → i < (j + 1) * t → ((j / s) * (s * t) ≤ i) × (i < (j / s) * (s * t) + s * t)
between j s t i some from until =
    let low : j / s * s * t ≤ j * t = mul-le-mul_right t (div-mul-le_self j s) in
    let grouped : j / s * (s * t) ≡ j / s * s * t = omega arith in
    let rest : j % s + 1 ≤ s = omega (arith, mod-lt j some) in
    let rests : (j % s + 1) * t ≤ s * t = mul-le-mul_right t rest in
    let whole : (j / s * s + j % s) * t ≡ j * t = ap (λ n. n * t) (div-add-mod' j s) in
    (omega (arith, low, grouped, from), omega (arith, grouped, rests, whole, until))

pub under_above : (size level j up i : ℕ) → 512 ≤ size → level ≤ up → j * span size level ≤ i → i < (j + 1) * span size level
    → (place_above size level j up * span size up ≤ i) × (i < place_above size level j up * span size up + span size up)
under_above size level j up i large least from until =
    let same : up - level + level ≡ up = omega (arith, least) in
    let spans : span size (up - level) * span size level ≡ span size up = sym (span_times size (up - level) level) ∙ ap (span size) same in
    let P : ℕ → Type 0 = λ n. (place_above size level j up * n ≤ i) × (i < place_above size level j up * n + n) in
    subst P spans (between j (span size (up - level)) (span size level) i (span_some size (up - level) large) from until)

-- ---- places above places

-- the place above the place above
pub above_above : (size i l u : ℕ) → l ≤ u → place_above size l (place_above size 0 i l) u ≡ place_above size 0 i u
above_above size i l u least =
    let same : l + (u - l) ≡ u - 0 = omega (arith, least) in
    let here : l - 0 ≡ l = omega arith in
    let spans : span size (l - 0) * span size (u - l) ≡ span size (u - 0) = ap (λ n. span size n * span size (u - l)) here ∙ sym (span_times size l (u - l)) ∙ ap (span size) same in
    div-div-eq-div-mul i (span size (l - 0)) (span size (u - l)) ∙ ap (λ n. i / n) spans

-- a place below one that the tree has
pub place_below : (size d n i l : ℕ) → 512 ≤ size → l ≤ n → place_above size 0 i l < d * span size (n - l) → i < d * span size n
place_below size d n i l large least low =
    let here : l - 0 ≡ l = omega arith in
    let sum : n - l + l ≡ n = omega (arith, least) in
    let low' : i / span size l < d * span size (n - l) = subst (λ m. i / span size m < d * span size (n - l)) here low in
    let less : i < d * span size (n - l) * span size l = (div-lt_iff_lt-mul (span_some size l large)).0 low' in
    let grouped : d * span size (n - l) * span size l ≡ d * (span size (n - l) * span size l) = omega arith in
    let spans : span size (n - l) * span size l ≡ span size n = sym (span_times size (n - l) l) ∙ ap (span size) sum in
    subst (λ m. i < d * m) spans (omega (arith, less, grouped))

-- and the place above one that the tree has
pub place_up : (size d n i l : ℕ) → 512 ≤ size → l ≤ n → i < d * span size n → place_above size 0 i l < d * span size (n - l)
place_up size d n i l large least low =
    let here : l ≡ l - 0 = omega arith in
    let sum : n ≡ n - l + l = omega (arith, least) in
    let spans : span size n ≡ span size (n - l) * span size l = ap (span size) sum ∙ span_times size (n - l) l in
    let grouped : d * (span size (n - l) * span size l) ≡ d * span size (n - l) * span size l = omega arith in
    let less : i < d * span size (n - l) * span size l = omega (arith, subst (λ m. i < d * m) spans low, grouped) in
    subst (λ m. i / span size m < d * span size (n - l)) here ((div-lt_iff_lt-mul (span_some size l large)).1 less)
