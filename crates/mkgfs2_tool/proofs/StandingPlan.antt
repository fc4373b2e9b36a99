-- Where the blocks of a new image lie, and what is in them.
use Rattle.std.proofs.Common.{ℕ, ◌≡◌, ◌+◌, ◌-◌, ◌*◌, ◌/◌, ◌<◌, ◌≤◌, inl, inr, refl, sym, ap, ◌∙◌, subst, arith}
use Rattle.std.specs.Prelude.{nat_lt, if◌then◌else◌}
use Rattle.std.proofs.lemmas.Bool.{cases_lt, cases_eq, cond-true, cond-false, eq-eqb, ne_eqb, lt-ltb, le-ltb}
use Rattle.std.proofs.Math.Nat.{div-one}
use Rattle.mkgfs2_tool.specs.Groups.{super_block, share, last_group, group_address, group_blocks, header_blocks, headers_of, first_data, data_blocks, data_before, all_data, data_address}
use Rattle.mkgfs2_tool.specs.Blocks.{zeros, superblock, new_block, group_block, header_block, data_block}
use Rattle.gfs2_layout.specs.Writing.{superblock_put}
use Rattle.mkgfs2_tool.specs.Making.{IsFitting}
use Rattle.mkgfs2_tool.specs.declared.plan.Plan.{Plan}
use Rattle.mkgfs2_tool.proofs.StandingGround.{Ground, IsGround, IsRoom, address_at_room, over_at, room, group_ends, rooms_below, apart, addresses_rise}

abbrev pub ground : Plan → Ground
ground p = record {
  edge = super_block p;
  total = p.count;
  share = share p;
  last = last_group p;
  blocks = group_blocks p;
  heads = headers_of p;
  rooms = data_blocks p;
}

held_in : (b h : ℕ) → 4 ≤ (b - h) / 4 * 4 → h + (b - h) / 4 * 4 ≤ b
held_in b h some = omega (arith, some)

ends_in : (a n c : ℕ) → n ≡ c - a → 4 ≤ n → a + n ≡ c
ends_in a n c e some = omega (arith, e, some)

some_share : (c e g n : ℕ) → g ≡ 1 → n ≡ c - (e + 1 + 0) → 4 ≤ n → 1 ≤ (c - e - 1) / g
some_share c e g n one is some = rw one (omega (arith, div-one (c - e - 1), is, some))

some_blocks : (b h : ℕ) → 4 ≤ (b - h) / 4 * 4 → 4 ≤ b
some_blocks b h some = omega (arith, some)

module _ (p : Plan) (fit : IsFitting p) where
  pub blocks_inner : (g : ℕ) → g < last_group p → group_blocks p g ≡ share p
  blocks_inner g low = cond-false _ _ _ (ne_eqb g (last_group p) (λ e. absurd (omega (arith, e, low))))

  blocks_last : group_blocks p (last_group p) ≡ p.count - group_address p (last_group p)
  blocks_last = cond-true _ _ _ (eq-eqb (last_group p) (last_group p) refl)

  data_even : (g : ℕ) → g < last_group p → data_blocks p g ≡ data_blocks p 0
  data_even g low = ap (λ b. (b - header_blocks p.size b) / 4 * 4) (blocks_inner g low ∙ sym (blocks_inner 0 (omega (arith, low))))

  data_some : (g : ℕ) → g ≤ last_group p → 4 ≤ data_blocks p g
  data_some g ok = elim (cases_lt g (last_group p)) [
    | inl l ↦ subst (λ n. 4 ≤ n) (sym (data_even g l)) fit.first
    | inr ge ↦ let e : g ≡ last_group p = omega (arith, ge, ok) in subst (λ n. 4 ≤ data_blocks p n) (sym e) fit.last
  ]

  held : (g : ℕ) → g ≤ last_group p → headers_of p g + data_blocks p g ≤ group_blocks p g
  held g ok = held_in (group_blocks p g) (headers_of p g) (data_some g ok)

  last_some : 4 ≤ group_blocks p (last_group p)
  last_some = some_blocks (group_blocks p (last_group p)) (headers_of p (last_group p)) fit.last

  share_some : 1 ≤ share p
  share_some = elim (cases_eq p.groups 1) [
    | inl one ↦ some_share p.count (super_block p) p.groups (group_blocks p (last_group p)) one (blocks_last ∙ ap (λ n. p.count - (super_block p + 1 + n)) (none one)) last_some
    | inr more ↦ omega (arith, blocks_inner 0 (omega (arith, more, fit.plan.some_groups)), some_blocks (group_blocks p 0) (headers_of p 0) fit.first)
  ]
    where
      none : p.groups ≡ 1 → (p.groups - 1) * share p ≡ 0
      none one = ap (λ g. (g - 1) * share p) one ∙ omega arith

  pub ground_is : IsGround (ground p)
  ground_is = record {
    share = share_some;
    inner = blocks_inner;
    final = ends_in (group_address p (last_group p)) (group_blocks p (last_group p)) p.count blocks_last last_some;
    held = held;
    even = data_even;
    some = data_some;
  }

  -- ---- what is in a block of a group

  pub new_at : (g n : ℕ) → g ≤ last_group p → n < group_blocks p g → new_block p (group_address p g + n) ≡ group_block p g n
  unfolding group_block new_block
  new_at g n ok low =
      cond-false _ _ _ (le-ltb (group_address p g + n) (super_block p) (omega arith))
      ∙ cond-false _ _ _ (ne_eqb (group_address p g + n) (super_block p) (λ e. absurd (omega (arith, e))))
      ∙ ap (λ m. group_block p m (group_address p g + n - group_address p m)) (over_at (ground p) ground_is g n ok low)
      ∙ ap (group_block p g) (gone (group_address p g) n)
    where
      gone : (a r : ℕ) → a + r - a ≡ r
      gone a r = omega arith

  pub new_header : (g n : ℕ) → g ≤ last_group p → n < headers_of p g → new_block p (group_address p g + n) ≡ header_block p g n
  unfolding group_block
  new_header g n ok low = new_at g n ok (omega (arith, low, held g ok)) ∙ cond-true _ _ _ (lt-ltb n (headers_of p g) low)

  -- a data block of a group, by its place in the group and by its place among all
  pub address_at : (g r : ℕ) → g ≤ last_group p → r < data_blocks p g → data_address p (data_before p g + r) ≡ first_data p g + r
  unfolding data_address
  address_at g r ok low = address_at_room (ground p) ground_is g r ok low

  pub room_of : (k : ℕ) → k < all_data p → IsRoom (ground p) k
  room_of k low = room (ground p) ground_is k low

  pub room_low : (g r : ℕ) → g ≤ last_group p → r < data_blocks p g → data_before p g + r < all_data p
  room_low g r ok low = rooms_below (ground p) ground_is g r ok low

  pub apart_addresses : (k n : ℕ) → k < all_data p → n < all_data p → data_address p k ≡ data_address p n → k ≡ n
  unfolding data_address
  apart_addresses k n low low' e = apart (ground p) ground_is k n low low' e

  pub addresses_up : (k n : ℕ) → k < n → n < all_data p → data_address p k < data_address p n
  unfolding data_address
  addresses_up k n less low = addresses_rise (ground p) ground_is k n less low

  pub new_room : (g r : ℕ) → g ≤ last_group p → r < data_blocks p g → new_block p (first_data p g + r) ≡ data_block p (data_before p g + r)
  unfolding group_block
  new_room g r ok low =
      ap (new_block p) (let e : first_data p g + r ≡ group_address p g + (headers_of p g + r) = omega arith in e)
      ∙ new_at g (headers_of p g + r) ok (omega (arith, low, held g ok))
      ∙ cond-false _ _ _ (le-ltb (headers_of p g + r) (headers_of p g) (omega arith))
      ∙ ap (λ n. if nat_lt n (data_blocks p g) then data_block p (data_before p g + n) else zeros p) (gone (headers_of p g) r)
      ∙ cond-true _ _ _ (lt-ltb r (data_blocks p g) low)
    where
      gone : (a r : ℕ) → a + r - a ≡ r
      gone a r = omega arith

  pub new_data : (k : ℕ) → k < all_data p → new_block p (data_address p k) ≡ data_block p k
  new_data k low = here (room_of k low)
    where
      here : IsRoom (ground p) k → new_block p (data_address p k) ≡ data_block p k
      here at = subst (λ n. new_block p (data_address p n) ≡ data_block p n) (sym at.is) (ap (new_block p) (address_at at.group at.offset at.listed at.inside) ∙ new_room at.group at.offset at.listed at.inside)

  -- ---- bounds

  pub address_low : (k : ℕ) → k < all_data p → data_address p k < p.count
  address_low k low = here (room_of k low)
    where
      here : IsRoom (ground p) k → data_address p k < p.count
      here at = subst (λ n. data_address p n < p.count) (sym at.is)
          (let ends = group_ends (ground p) ground_is at.group at.listed in
          omega (arith, address_at at.group at.offset at.listed at.inside, at.inside, held at.group at.listed, ends))

  pub address_high : (k : ℕ) → k < all_data p → super_block p < data_address p k
  address_high k low = here (room_of k low)
    where
      here : IsRoom (ground p) k → super_block p < data_address p k
      here at = subst (λ n. super_block p < data_address p n) (sym at.is) (omega (arith, address_at at.group at.offset at.listed at.inside))

  pub new_super : new_block p (super_block p) ≡ superblock_put (superblock p) (zeros p)
  unfolding new_block
  new_super = cond-false _ _ _ (le-ltb (super_block p) (super_block p) (omega arith)) ∙ cond-true _ _ _ (eq-eqb (super_block p) (super_block p) refl)
