-- Where the blocks of groups lie, over plain numbers.
use Rattle.std.proofs.Common.{ℕ, ◌≡◌, ◌+◌, ◌-◌, ◌*◌, ◌/◌, ◌<◌, ◌≤◌, ◌⊎◌, inl, inr, min, sym, ap, ◌∙◌, subst, arith}
use Rattle.std.specs.Prelude.{◌%◌}
use Rattle.std.proofs.lemmas.Bool.{cases_lt, cases_order}
use Rattle.std.proofs.lemmas.Nat.{div-mul-add, le-div, row_fits, div-add-mod', mod_below}

-- the last block before the groups, the count, the share of a group, the last group, and of each group its blocks, its headers and its data blocks
pub record Ground : Type 0 where
  pub edge : ℕ
  pub total : ℕ
  pub share : ℕ
  pub last : ℕ
  pub blocks : ℕ → ℕ
  pub heads : ℕ → ℕ
  pub rooms : ℕ → ℕ

pub record IsGround (G : Ground) : Type 0 where
  pub share : 1 ≤ G.share
  pub inner : (g : ℕ) → g < G.last → G.blocks g ≡ G.share
  pub final : G.edge + 1 + G.last * G.share + G.blocks G.last ≡ G.total
  pub held : (g : ℕ) → g ≤ G.last → G.heads g + G.rooms g ≤ G.blocks g
  pub even : (g : ℕ) → g < G.last → G.rooms g ≡ G.rooms 0
  pub some : (g : ℕ) → g ≤ G.last → 4 ≤ G.rooms g

abbrev pub start : Ground → ℕ → ℕ
start G g = G.edge + 1 + g * G.share

abbrev pub before : Ground → ℕ → ℕ
before G g = g * G.rooms 0

abbrev pub behind : Ground → ℕ → ℕ
behind G g = start G g + G.heads g

abbrev pub group_of : Ground → ℕ → ℕ
group_of G k = min (k / G.rooms 0) G.last

abbrev pub over : Ground → ℕ → ℕ
over G b = min ((b - G.edge - 1) / G.share) G.last

abbrev pub address : Ground → ℕ → ℕ
address G k = behind G (group_of G k) + (k - before G (group_of G k))

abbrev pub all : Ground → ℕ
all G = before G G.last + G.rooms G.last

within : (d g r last : ℕ) → r < d → g ≤ last → min ((g * d + r) / d) last ≡ g
within d g r last low ok =
    let least : min g last ≡ g = omega (arith, ok) in
    ap (λ n. min n last) (div-mul-add g d r low) ∙ least

beyond : (d r last : ℕ) → 1 ≤ d → min ((last * d + r) / d) last ≡ last
beyond d r last some =
    let low : last ≤ (last * d + r) / d = le-div last (last * d + r) d some (omega arith) in
    omega (arith, low)

row_le : (a b n : ℕ) → a ≤ b → a * n ≤ b * n
row_le a b n le = elim (cases_lt a b) [
  | inl l ↦ omega (arith, row_fits a n b n l (omega arith))
  | inr ge ↦ let e : a ≡ b = omega (arith, ge, le) in omega (arith, ap (λ m. m * n) e)
]

-- a data block of a group
pub record IsRoom (G : Ground) (k : ℕ) : Type 0 where
  pub group : ℕ
  pub offset : ℕ
  pub listed : group ≤ G.last
  pub inside : offset < G.rooms group
  pub is : k ≡ before G group + offset

-- a block of a group
pub record IsOver (G : Ground) (b : ℕ) : Type 0 where
  pub group : ℕ
  pub offset : ℕ
  pub listed : group ≤ G.last
  pub inside : offset < G.blocks group
  pub is : b ≡ start G group + offset

module _ (G : Ground) (is : IsGround G) where
  pub group_at_room : (g r : ℕ) → g ≤ G.last → r < G.rooms g → group_of G (before G g + r) ≡ g
  group_at_room g r ok low = elim (cases_lt g G.last) [
    | inl l ↦ within (G.rooms 0) g r G.last (omega (arith, is.even g l, low)) ok
    | inr ge ↦ let e : g ≡ G.last = omega (arith, ge, ok) in
        subst (λ n. min ((n * G.rooms 0 + r) / G.rooms 0) G.last ≡ n) (sym e) (beyond (G.rooms 0) r G.last (omega (arith, is.some 0 (omega arith))))
  ]

  pub address_at_room : (g r : ℕ) → g ≤ G.last → r < G.rooms g → address G (before G g + r) ≡ behind G g + r
  address_at_room g r ok low =
      let same : before G g + r - before G g ≡ r = omega arith in
      ap (λ n. behind G n + (before G g + r - before G n)) (group_at_room g r ok low) ∙ ap (λ n. behind G g + n) same

  pub over_at : (g n : ℕ) → g ≤ G.last → n < G.blocks g → over G (start G g + n) ≡ g
  over_at g n ok low =
      let same : start G g + n - G.edge - 1 ≡ g * G.share + n = omega arith in
      ap (λ m. min (m / G.share) G.last) same ∙ elim (cases_lt g G.last) [
        | inl l ↦ within G.share g n G.last (omega (arith, is.inner g l, low)) ok
        | inr ge ↦ let e : g ≡ G.last = omega (arith, ge, ok) in
            subst (λ m. min ((m * G.share + n) / G.share) G.last ≡ m) (sym e) (beyond G.share n G.last is.share)
      ]

  -- each place among the data blocks is one of a group
  pub room : (k : ℕ) → k < all G → IsRoom G k
  room k low = elim (cases_lt (k / G.rooms 0) G.last) [
    | inl l ↦ record {
      group = k / G.rooms 0;
      offset = k % G.rooms 0;
      listed = omega (arith, l);
      inside = subst (λ n. k % G.rooms 0 < n) (sym (is.even (k / G.rooms 0) l)) (mod_below k (G.rooms 0) some);
      is = sym (div-add-mod' k (G.rooms 0));
    }
    | inr ge ↦
        let far : G.last * G.rooms 0 ≤ k = omega (arith, row_le G.last (k / G.rooms 0) (G.rooms 0) ge, div-add-mod' k (G.rooms 0)) in
        record {
          group = G.last;
          offset = k - G.last * G.rooms 0;
          listed = omega arith;
          inside = omega (arith, low, far);
          is = omega (arith, far);
        }
  ]
    where
      some : 0 < G.rooms 0
      some = omega (arith, is.some 0 (omega arith))

  -- each block behind the superblock is one of a group
  over_by : (b m : ℕ) → G.edge + 1 + m ≡ b → b < G.total → IsOver G b
  over_by b m low high = elim (cases_lt (m / G.share) G.last) [
    | inl l ↦ record {
      group = m / G.share;
      offset = m % G.share;
      listed = omega (arith, l);
      inside = subst (λ n. m % G.share < n) (sym (is.inner (m / G.share) l)) (mod_below m G.share is.share);
      is = omega (arith, div-add-mod' m G.share, low);
    }
    | inr ge ↦
        let far : G.last * G.share ≤ m = omega (arith, row_le G.last (m / G.share) G.share ge, div-add-mod' m G.share) in
        record {
          group = G.last;
          offset = m - G.last * G.share;
          listed = omega arith;
          inside = omega (arith, far, low, high, is.final);
          is = omega (arith, far, low);
        }
  ]

  pub block_over : (b : ℕ) → G.edge < b → b < G.total → IsOver G b
  block_over b low high = over_by b (b - G.edge - 1) (omega (arith, low)) high

  -- groups rise
  pub starts_rise : (g h : ℕ) → g < h → h ≤ G.last → start G g + G.blocks g ≤ start G h
  starts_rise g h less ok = omega (arith, is.inner g (omega (arith, less, ok)), row_fits g G.share h G.share less (omega arith))

  pub group_ends : (g : ℕ) → g ≤ G.last → start G g + G.blocks g ≤ G.total
  group_ends g ok = elim (cases_lt g G.last) [
    | inl l ↦ omega (arith, starts_rise g G.last l (omega arith), is.final)
    | inr ge ↦ let e : g ≡ G.last = omega (arith, ge, ok) in subst (λ n. start G n + G.blocks n ≤ G.total) (sym e) (omega (arith, is.final))
  ]

  pub rooms_below : (g r : ℕ) → g ≤ G.last → r < G.rooms g → before G g + r < all G
  rooms_below g r ok low = elim (cases_lt g G.last) [
    | inl l ↦ omega (arith, low, is.even g l, row_fits g (G.rooms 0) G.last (G.rooms 0) l (omega arith))
    | inr ge ↦ let e : g ≡ G.last = omega (arith, ge, ok) in omega (arith, low, ap (λ n. n * G.rooms 0) e, ap G.rooms e)
  ]

  -- an address tells its place
  abbrev pub place_of : ℕ → ℕ
  place_of b = before G (over G b) + (b - behind G (over G b))

  pub over_room : (g r : ℕ) → g ≤ G.last → r < G.rooms g → over G (behind G g + r) ≡ g
  over_room g r ok low =
      let same : behind G g + r ≡ start G g + (G.heads g + r) = omega arith in
      ap (over G) same ∙ over_at g (G.heads g + r) ok (omega (arith, low, is.held g ok))

  place_here : (k : ℕ) → IsRoom G k → place_of (address G k) ≡ k
  place_here k at = subst (λ n. place_of (address G n) ≡ n) (sym at.is) (ap place_of (address_at_room at.group at.offset at.listed at.inside)
      ∙ ap (λ n. before G n + (behind G at.group + at.offset - behind G n)) (over_room at.group at.offset at.listed at.inside)
      ∙ ap (λ n. before G at.group + n) (gone (behind G at.group) at.offset))
    where
      gone : (a r : ℕ) → a + r - a ≡ r
      gone a r = omega arith

  pub place_back : (k : ℕ) → k < all G → place_of (address G k) ≡ k
  place_back k low = place_here k (room k low)

  pub apart : (k n : ℕ) → k < all G → n < all G → address G k ≡ address G n → k ≡ n
  apart k n low low' e = sym (place_back k low) ∙ ap place_of e ∙ place_back n low'

  -- later data blocks have higher addresses
  rooms_rise : (k n : ℕ) → IsRoom G k → IsRoom G n → k < n → address G k < address G n
  rooms_rise k n x y less =
      subst (λ m. address G m < address G n) (sym x.is) (subst (λ m. address G (before G x.group + x.offset) < address G m) (sym y.is)
      (subst (λ m. m < address G (before G y.group + y.offset)) (sym (address_at_room x.group x.offset x.listed x.inside))
      (subst (λ m. behind G x.group + x.offset < m) (sym (address_at_room y.group y.offset y.listed y.inside)) (each (cases_order x.group y.group)))))
    where
      before_less : before G x.group + x.offset < before G y.group + y.offset
      before_less = subst (λ m. m < before G y.group + y.offset) x.is (subst (λ m. k < m) y.is less)

      same : (g h a b : ℕ) → g ≡ h → before G g + a < before G h + b → behind G g + a < behind G h + b
      same g h a b e low = subst (λ m. behind G g + a < behind G m + b) e (plain (before G g) (behind G g) a b (subst (λ m. before G g + a < before G m + b) (sym e) low))
        where
          plain : (u v a b : ℕ) → u + a < u + b → v + a < v + b
          plain u v a b low = omega (arith, low)

      later : (s t h r b i a c : ℕ) → h + r ≤ b → s + b ≤ t → a < r → s + h + a < t + i + c
      later s t h r b i a c held rise low = omega (arith, held, rise, low)

      never : (u v r a b : ℕ) → v + r ≤ u → b < r → u + a < v + b → ⊥
      never u v r a b row low less = absurd (omega (arith, row, low, less))

      under : (g h l : ℕ) → g < h → h ≤ l → g < l
      under g h l a b = omega (arith, a, b)

      each : (x.group ≡ y.group) ⊎ ((x.group < y.group) ⊎ (y.group < x.group)) → behind G x.group + x.offset < behind G y.group + y.offset
      each (inl e) = same x.group y.group x.offset y.offset e before_less
      each (inr (inl low)) = later (start G x.group) (start G y.group) (G.heads x.group) (G.rooms x.group) (G.blocks x.group) (G.heads y.group) x.offset y.offset (is.held x.group x.listed) (starts_rise x.group y.group low y.listed) x.inside
      each (inr (inr high)) = absurd (never (before G x.group) (before G y.group) (G.rooms 0) x.offset y.offset (row_fits y.group (G.rooms 0) x.group (G.rooms 0) high (omega arith))
          (subst (λ m. y.offset < m) (is.even y.group (under y.group x.group G.last high x.listed)) y.inside) before_less)

  pub addresses_rise : (k n : ℕ) → k < n → n < all G → address G k < address G n
  addresses_rise k n less low = rooms_rise k n (room k (through k n (all G) less low)) (room n low) less
    where
      through : (k n a : ℕ) → k < n → n < a → k < a
      through k n a less low = omega (arith, less, low)
