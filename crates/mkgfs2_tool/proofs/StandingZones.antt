-- The groups of a new image lie where they fit, and each owner's blocks lie where they may.
use Rattle.std.proofs.Common.{ℕ, ◌≡◌, ◌+◌, ◌-◌, ◌*◌, ◌/◌, ◌<◌, ◌≤◌, ◌⊎◌, inl, inr, Some, refl, sym, ap, ◌∙◌, subst, arith}
use Rattle.std.proofs.lemmas.Bool.{cases_lt}
use Rattle.gfs2_layout.specs.declared.rindex.Rindex.{Rindex}
use Rattle.gfs2_layout.specs.Bitmap.{bitmap_room}
use Rattle.image_model.specs.Groups.{IsGroupAt, IsListed, end_of, IsHeaderOf, IsDataOf, IsNear, GroupFits, GroupsFit}
use Rattle.image_model.specs.Image.{Blocks}
use Rattle.image_model.specs.Owners.{InGroup, Free, Nobody, IsUsed}
use Rattle.image_model.specs.Stands.{IsZoned}
use Rattle.mkgfs2_tool.specs.Groups.{super_block, last_group, group_address, group_blocks, header_blocks, headers_of, first_data, data_blocks, data_before, data_address}
use Rattle.mkgfs2_tool.specs.Order.{taken}
use Rattle.mkgfs2_tool.specs.Blocks.{group_entry}
use Rattle.mkgfs2_tool.specs.Making.{IsFitting}
use Rattle.mkgfs2_tool.specs.Standing.{new_layout}
use Rattle.mkgfs2_tool.specs.declared.plan.Plan.{Plan}
use Rattle.mkgfs2_tool.proofs.StandingGiven.{Known}
use Rattle.mkgfs2_tool.proofs.StandingGround.{IsRoom, IsOver, block_over, group_ends, starts_rise}
use Rattle.mkgfs2_tool.proofs.StandingShapes.{Piece, is_top, is_below, piece}
use Rattle.mkgfs2_tool.proofs.StandingPlan.{ground, ground_is, address_at, room_of}
use Rattle.mkgfs2_tool.proofs.StandingOwners.{file_shape, spot, owner, Zone, is_low, is_past, is_header, is_room, is_end, zone, Kept, is_master, is_root, is_journals, is_leaf, is_file, kept, owner_low, owner_past, owner_header, owner_end, owner_free, owner_master, owner_root, owner_journals, owner_leaf, IsTaken, used_taken, in_all}
use Rattle.mkgfs2_tool.proofs.StandingFiles.{file_low}
use Rattle.mkgfs2_tool.proofs.StandingWhose.{owner_below, owner_top}
use Rattle.mkgfs2_tool.proofs.StandingInodes.{image}
use Rattle.mkgfs2_tool.proofs.StandingNames.{got_at, get_at}

-- a group of the layout
pub record IsGroupOf (p : Plan) (e : Rindex) : Type 0 where
  pub group : ℕ
  pub ok : group ≤ last_group p
  pub is : e ≡ group_entry p group

pub bits_fit : (size blocks : ℕ) → (size ≡ 512) ⊎ ((size ≡ 1024) ⊎ ((size ≡ 2048) ⊎ (size ≡ 4096))) → (blocks - header_blocks size blocks) / 4 * 4 ≤ bitmap_room size (header_blocks size blocks)
bits_fit size blocks (inl is) = rw is (omega arith)
bits_fit size blocks (inr (inl is)) = rw is (omega arith)
bits_fit size blocks (inr (inr (inl is))) = rw is (omega arith)
bits_fit size blocks (inr (inr (inr is))) = rw is (omega arith)

near_in : (b h n : ℕ) → n < b → 4 ≤ (b - h) / 4 * 4 → n < h + (b - h) / 4 * 4 + 3
near_in b h n low some = omega (arith, low, some)

fours : (n : ℕ) → n / 4 * 4 / 4 * 4 ≡ n / 4 * 4
fours n = omega arith

module _ (p : Plan) (fit : IsFitting p) (known : Known p) where
  under : (g n : ℕ) → g < n → g ≤ n - 1
  under g n low = omega (arith, low)

  over : (g n : ℕ) → 1 ≤ n → g ≤ n - 1 → g < n
  over g n some ok = omega (arith, some, ok)

  -- group i of the layout
  pub group_at : (i : ℕ) (e : Rindex) → IsGroupAt (new_layout p).groups i e → (i ≤ last_group p) × (e ≡ group_entry p i)
  group_at i e is = let got = got_at (group_entry p) 0 p.groups i e is in (under i p.groups got.0, got.1 ∙ ap (group_entry p) (none i))
    where
      none : (n : ℕ) → 0 + n ≡ n
      none n = omega arith

  pub listed : (e : Rindex) → IsListed (new_layout p).groups e → IsGroupOf p e
  listed e is = let at = group_at is.0 e is.1 in record { group = is.0; ok = at.0; is = at.1 }

  pub is_listed : (g : ℕ) → g ≤ last_group p → IsListed (new_layout p).groups (group_entry p g)
  is_listed g ok = (g, get_at (group_entry p) 0 p.groups g (over g p.groups fit.plan.some_groups ok) ∙ ap (λ n. Some (group_entry p n)) (none g))
    where
      none : (n : ℕ) → 0 + n ≡ n
      none n = omega arith

  held : (g : ℕ) → g ≤ last_group p → headers_of p g + data_blocks p g ≤ group_blocks p g
  held g ok = (ground_is p fit).held g ok

  -- ---- the groups fit

  group_fits : (at : Blocks) (g : ℕ) → g ≤ last_group p → GroupFits (image p at) (group_entry p g)
  group_fits at g ok = record {
    above = omega arith;
    some = omega arith;
    first = refl;
    whole = fours (group_blocks p g - headers_of p g);
    bits = bits_fit p.size (group_blocks p g) fit.plan.size;
    inside = ends (group_address p g) (headers_of p g) (data_blocks p g) (group_blocks p g) p.count (held g ok) (group_ends (ground p) (ground_is p fit) g ok);
  }
    where
      ends : (a h d b c : ℕ) → h + d ≤ b → a + b ≤ c → a + h + d ≤ c
      ends a h d b c inside all = omega (arith, inside, all)

  rise : (g k : ℕ) → g < k → k ≤ last_group p → first_data p g + data_blocks p g ≤ group_address p k
  rise g k less ok = ends (group_address p g) (headers_of p g) (data_blocks p g) (group_blocks p g) (group_address p k) (held g (through g k (last_group p) less ok)) (starts_rise (ground p) (ground_is p fit) g k less ok)
    where
      ends : (a h d b c : ℕ) → h + d ≤ b → a + b ≤ c → a + h + d ≤ c
      ends a h d b c inside all = omega (arith, inside, all)

      through : (g k n : ℕ) → g < k → k ≤ n → g ≤ n
      through g k n less ok = omega (arith, less, ok)

  near : (b : ℕ) → IsOver (ground p) b → (e : Rindex) × IsListed (new_layout p).groups e × IsNear e b
  near b at = (
    group_entry p at.group,
    is_listed at.group at.listed,
    record {
      low = low (group_address p at.group) at.offset b at.is;
      high = high (group_address p at.group) (headers_of p at.group) (data_blocks p at.group) at.offset b at.is (near_in (group_blocks p at.group) (headers_of p at.group) at.offset at.inside ((ground_is p fit).some at.group at.listed));
    },
  )
    where
      low : (a n b : ℕ) → b ≡ a + n → a ≤ b
      low a n b e = omega (arith, e)

      high : (a h d n b : ℕ) → b ≡ a + n → n < h + d + 3 → b < a + h + d + 3
      high a h d n b e less = omega (arith, e, less)

  pub groups_fit : (at : Blocks) → GroupsFit (image p at) (new_layout p).groups
  groups_fit at = record {
    each = λ e is. let g = listed e is in subst (GroupFits (image p at)) (sym g.is) (group_fits at g.group g.ok);
    rise = λ i j e f is is' less. let g = group_at i e is in let k = group_at j f is' in
        subst (λ (x : Rindex). end_of x ≤ f.address) (sym g.1) (subst (λ (x : Rindex). end_of (group_entry p i) ≤ x.address) (sym k.1) (rise i j less k.0));
    rest = λ b low high. near b (block_over (ground p) (ground_is p fit) b low high);
  }

  -- ---- each owner's blocks lie where they may

  taken_used : (k : ℕ) → k < taken p → IsUsed (owner p (data_address p k))
  taken_used k low = each (kept p k low)
    where
      of_piece : (i n : ℕ) → i ≤ p.journals → Piece (file_shape p i) n → IsUsed (owner p (spot p i n))
      of_piece i n ok (is_top e) = subst IsUsed (sym (ap (λ m. owner p (spot p i m)) e ∙ owner_top p fit known i ok)) tt
      of_piece i n ok (is_below l x at e) = subst IsUsed (sym (ap (λ m. owner p (spot p i m)) e ∙ owner_below p fit known i l x ok at)) tt

      each : Kept p k → IsUsed (owner p (data_address p k))
      each (is_master e) = subst IsUsed (sym (ap (λ n. owner p (data_address p n)) e ∙ owner_master p fit)) tt
      each (is_root e) = subst IsUsed (sym (ap (λ n. owner p (data_address p n)) e ∙ owner_root p fit)) tt
      each (is_journals e) = subst IsUsed (sym (ap (λ n. owner p (data_address p n)) e ∙ owner_journals p fit)) tt
      each (is_leaf n inside e) = subst IsUsed (sym (ap (λ n. owner p (data_address p n)) e ∙ owner_leaf p fit n inside)) tt
      each (is_file i n ok inside e) = subst (λ m. IsUsed (owner p (data_address p m))) (sym e) (of_piece i n ok (piece (file_shape p i) (file_low p fit known i) n inside))

  of_room : (g r : ℕ) → g ≤ last_group p → r < data_blocks p g → (owner p (first_data p g + r) ≡ Free (group_address p g)) ⊎ IsUsed (owner p (first_data p g + r))
  of_room g r ok inside = elim (cases_lt (data_before p g + r) (taken p)) [
    | inl l ↦ inr (subst (λ n. IsUsed (owner p n)) (address_at p fit g r ok inside) (taken_used (data_before p g + r) l))
    | inr ge ↦ inl (owner_free p fit g r ok inside ge)
  ]

  zoned_header : (g : ℕ) → g ≤ last_group p → (b : ℕ) → IsHeaderOf (group_entry p g) b → owner p b ≡ InGroup (group_address p g)
  zoned_header g ok b is =
      ap (owner p) (whole (group_address p g) b is.low) ∙ owner_header p fit g (b - group_address p g) ok (inside (group_address p g) b (headers_of p g) is.low is.high)
    where
      whole : (a b : ℕ) → a ≤ b → b ≡ a + (b - a)
      whole a b low = omega (arith, low)

      inside : (a b h : ℕ) → a ≤ b → b < a + h → b - a < h
      inside a b h low high = omega (arith, low, high)

  zoned_data : (g : ℕ) → g ≤ last_group p → (b : ℕ) → IsDataOf (group_entry p g) b → (owner p b ≡ Free (group_address p g)) ⊎ IsUsed (owner p b)
  zoned_data g ok b is =
      subst (λ n. (owner p n ≡ Free (group_address p g)) ⊎ IsUsed (owner p n)) (sym (whole (first_data p g) b is.low))
      (of_room g (b - first_data p g) ok (inside (first_data p g) b (data_blocks p g) is.low is.high))
    where
      whole : (a b : ℕ) → a ≤ b → b ≡ a + (b - a)
      whole a b low = omega (arith, low)

      inside : (a b h : ℕ) → a ≤ b → b < a + h → b - a < h
      inside a b h low high = omega (arith, low, high)

  data_of : (g r b : ℕ) → r < data_blocks p g → b ≡ first_data p g + r → IsDataOf (group_entry p g) b
  data_of g r b inside e = record { low = low (first_data p g) r b e; high = high (first_data p g) (data_blocks p g) r b inside e }
    where
      low : (f r b : ℕ) → b ≡ f + r → f ≤ b
      low f r b e = omega (arith, e)

      high : (f d r b : ℕ) → r < d → b ≡ f + r → b < f + d
      high f d r b inside e = omega (arith, inside, e)

  placed : (b : ℕ) → IsUsed (owner p b) → (e : Rindex) × IsListed (new_layout p).groups e × IsDataOf e b
  placed b used = from (used_taken p fit b used)
    where
      of : (k : ℕ) → b ≡ data_address p k → IsRoom (ground p) k → (e : Rindex) × IsListed (new_layout p).groups e × IsDataOf e b
      of k e at = (group_entry p at.group, is_listed at.group at.listed, data_of at.group at.offset b at.inside (e ∙ ap (data_address p) at.is ∙ address_at p fit at.group at.offset at.listed at.inside))

      from : IsTaken p fit b → (e : Rindex) × IsListed (new_layout p).groups e × IsDataOf e b
      from t = of t.place t.is (room_of p fit t.place (in_all p fit t.place t.low))

  between : (b : ℕ) → super_block p < b → ((e : Rindex) → IsListed (new_layout p).groups e → ¬ (IsHeaderOf e b) × ¬ (IsDataOf e b)) → owner p b ≡ Nobody
  between b high none = each (zone p fit b)
    where
      never : (s b : ℕ) → s < b → b ≤ s → ⊥
      never s b less le = absurd (omega (arith, less, le))

      low : (a n b : ℕ) → b ≡ a + n → a ≤ b
      low a n b e = omega (arith, e)

      below : (a h n b : ℕ) → n < h → b ≡ a + n → b < a + h
      below a h n b inside e = omega (arith, inside, e)

      each : Zone p b → owner p b ≡ Nobody
      each (is_low le) = absurd (never (super_block p) b high le)
      each (is_past h ge) = owner_past p fit b h ge
      each (is_header g n ok inside e) = absurd ((none (group_entry p g) (is_listed g ok)).0 (record { low = low (group_address p g) n b e; high = below (group_address p g) (headers_of p g) n b inside e }))
      each (is_room g r ok inside e) = absurd ((none (group_entry p g) (is_listed g ok)).1 (data_of g r b inside e))
      each (is_end g n ok far inside e) = ap (owner p) e ∙ owner_end p fit g n ok far inside

  pub zoned : (at : Blocks) → IsZoned (image p at) (new_layout p) (owner p)
  zoned at = record {
    low = λ b le. owner_low p fit b le;
    headers = λ e is b h. let g = listed e is in
        subst (λ (x : Rindex). owner p b ≡ InGroup x.address) (sym g.is) (zoned_header g.group g.ok b (subst (λ (x : Rindex). IsHeaderOf x b) g.is h));
    data_blocks = λ e is b d. let g = listed e is in
        subst (λ (x : Rindex). (owner p b ≡ Free x.address) ⊎ IsUsed (owner p b)) (sym g.is) (zoned_data g.group g.ok b (subst (λ (x : Rindex). IsDataOf x b) g.is d));
    placed = placed;
    between = between;
  }
