-- How many blocks of header and bitmap the groups of a new image have.
use Rattle.std.proofs.Common.{ℕ, zero, suc, ◌≡◌, ◌+◌, ◌-◌, ◌*◌, ◌/◌, ◌<◌, ◌≤◌, ◌⊎◌, inl, inr, map, refl, sym, ap, ◌∙◌, subst, arith}
use Rattle.std.specs.Prelude.{◌%◌}
use Rattle.std.specs.List.{range_with_len, sum_by}
use Rattle.std.proofs.lemmas.Bool.{cases_lt}
use Rattle.std.proofs.lemmas.List.FromFn.{sum_by-map-range_with_len_more}
use Rattle.std.proofs.lemmas.Nat.{div-add-mod', mod_below}
use Rattle.std.proofs.Math.Nat.{mul-le-mul_right, mul-le-mul_left, mul-add, mul_left_comm, suc-mul}
use Rattle.gfs2_layout.specs.declared.rindex.Rindex.{Rindex}
use Rattle.image_model.specs.Profile.{group_length}
use Rattle.mkgfs2_tool.specs.Groups.{super_block, share, last_group, group_blocks, header_blocks, headers_of}
use Rattle.mkgfs2_tool.specs.Blocks.{group_entry}
use Rattle.mkgfs2_tool.specs.Making.{IsFitting}
use Rattle.mkgfs2_tool.specs.declared.plan.Plan.{Plan}
use Rattle.mkgfs2_tool.proofs.StandingPlan.{ground_is, blocks_inner}

-- ---- over plain numbers: of so many groups and one more, each but the last of as many blocks as the others

one_each : (m h : ℕ) → 1 ≤ h → m * h ≡ m + m * (h - 1)
one_each m h some = ap (λ n. m * n) (whole h some) ∙ mul-add m 1 (h - 1) ∙ ap (λ n. n + m * (h - 1)) (unit m)
  where
    whole : (h : ℕ) → 1 ≤ h → h ≡ 1 + (h - 1)
    whole h some = omega (arith, some)

    unit : (m : ℕ) → m * 1 ≡ m
    unit m = omega arith

-- each block of header beyond the first has room for at least so many blocks, but for the last one's
row : (k m a s : ℕ) → k * a ≤ s + 415 → k * (m * a) ≤ m * s + m * 415
row k m a s step = omega (arith, mul_left_comm k m a, mul-le-mul_left m step, mul-add m s 415)

sparse_512 : (m sh bl h0 hl : ℕ) → m < 49 → m * sh + bl ≤ 130943 → 1 ≤ h0 → 1 ≤ hl → 1953 * (h0 - 1) ≤ sh + 415 → 1953 * (hl - 1) ≤ bl + 415 → m * h0 + hl ≤ 128
sparse_512 m sh bl h0 hl low all a b x y = omega (arith, low, all, b, y, one_each m h0 a, row 1953 m (h0 - 1) sh x)

sparse_1024 : (m sh bl h0 hl : ℕ) → m ≤ 63 → m * sh + bl ≤ 131072 → 1 ≤ h0 → 1 ≤ hl → 4001 * (h0 - 1) ≤ sh + 415 → 4001 * (hl - 1) ≤ bl + 415 → m * h0 + hl ≤ 128
sparse_1024 m sh bl h0 hl low all a b x y = omega (arith, low, all, b, y, one_each m h0 a, row 4001 m (h0 - 1) sh x)

dense_512 : (m sh bl : ℕ) → m ≤ 63 → 49 ≤ m → m * sh + bl ≤ 130943 → bl ≤ sh + m → m * header_blocks 512 sh + header_blocks 512 bl ≤ 128
dense_512 m sh bl few high all even =
    let low : 49 * sh ≤ m * sh = mul-le-mul_right sh high in
    let first : header_blocks 512 sh ≤ 2 = two sh (omega (arith, low, all)) in
    let last : header_blocks 512 bl ≤ 2 = two bl (omega (arith, low, all, even, few)) in
    sum m (m * header_blocks 512 sh) (header_blocks 512 bl) few (mul-le-mul_left m first) last
  where
    two : (b : ℕ) → b ≤ 3000 → header_blocks 512 b ≤ 2
    two b le = omega (arith, le)

    sum : (m x y : ℕ) → m ≤ 63 → x ≤ m * 2 → y ≤ 2 → x + y ≤ 128
    sum m x y few a b = omega (arith, few, a, b)

steps_512 : (b : ℕ) → 1953 * (header_blocks 512 b - 1) ≤ b + 415
steps_512 b = omega arith

steps_1024 : (b : ℕ) → 4001 * (header_blocks 1024 b - 1) ≤ b + 415
steps_1024 b = omega arith

steps_2048 : (b : ℕ) → 4001 * (header_blocks 2048 b - 1) ≤ b + 415
steps_2048 b = omega arith

steps_4096 : (b : ℕ) → 4001 * (header_blocks 4096 b - 1) ≤ b + 415
steps_4096 b = omega arith

few_512 : (m sh bl : ℕ) → m ≤ 63 → m * sh + bl ≤ 130943 → bl ≤ sh + m → m * header_blocks 512 sh + header_blocks 512 bl ≤ 128
few_512 m sh bl few all even = elim (cases_lt m 49) [
  | inl low ↦ sparse_512 m sh bl (header_blocks 512 sh) (header_blocks 512 bl) low all (omega arith) (omega arith) (steps_512 sh) (steps_512 bl)
  | inr high ↦ dense_512 m sh bl few high all even
]

few_headers : (size m sh bl : ℕ) → (size ≡ 512) ⊎ ((size ≡ 1024) ⊎ ((size ≡ 2048) ⊎ (size ≡ 4096))) → m ≤ 63 → 65536 / size + 1 + m * sh + bl ≤ 131072 → bl ≤ sh + m
    → m * header_blocks size sh + header_blocks size bl ≤ 128
few_headers size m sh bl (inl e) few all even =
    subst (λ n. m * header_blocks n sh + header_blocks n bl ≤ 128) (sym e) (few_512 m sh bl few (omega (arith, subst (λ n. 65536 / n + 1 + m * sh + bl ≤ 131072) e all)) even)
few_headers size m sh bl (inr (inl e)) few all even =
    subst (λ n. m * header_blocks n sh + header_blocks n bl ≤ 128) (sym e)
    (sparse_1024 m sh bl (header_blocks 1024 sh) (header_blocks 1024 bl) few (omega (arith, subst (λ n. 65536 / n + 1 + m * sh + bl ≤ 131072) e all)) (omega arith) (omega arith) (steps_1024 sh) (steps_1024 bl))
few_headers size m sh bl (inr (inr (inl e))) few all even =
    subst (λ n. m * header_blocks n sh + header_blocks n bl ≤ 128) (sym e)
    (sparse_1024 m sh bl (header_blocks 2048 sh) (header_blocks 2048 bl) few (omega (arith, subst (λ n. 65536 / n + 1 + m * sh + bl ≤ 131072) e all)) (omega arith) (omega arith) (steps_2048 sh) (steps_2048 bl))
few_headers size m sh bl (inr (inr (inr e))) few all even =
    subst (λ n. m * header_blocks n sh + header_blocks n bl ≤ 128) (sym e)
    (sparse_1024 m sh bl (header_blocks 4096 sh) (header_blocks 4096 bl) few (omega (arith, subst (λ n. 65536 / n + 1 + m * sh + bl ≤ 131072) e all)) (omega arith) (omega arith) (steps_4096 sh) (steps_4096 bl))

-- ---- of a plan

-- the last group has what is left over
left_over : (s c g m b sh : ℕ) → m + 1 ≡ g → s + 1 + m * sh + b ≡ c → sh ≡ (c - s - 1) / g → b ≤ sh + m
left_over s c g m b sh one all is =
    let divided : (c - s - 1) / g * g + (c - s - 1) % g ≡ c - s - 1 = div-add-mod' (c - s - 1) g in
    let low : (c - s - 1) % g < g = mod_below (c - s - 1) g (omega (arith, one)) in
    let product : sh * (m + 1) ≡ sh * m + sh * 1 = mul-add sh m 1 in
    let same : sh * (m + 1) ≡ (c - s - 1) / g * g = λ t. is t * one t in
    let turned : sh * m ≡ m * sh = turn sh m in
    omega (arith, divided, low, product, same, turned, all, one)
  where
    turn : (a b : ℕ) → a * b ≡ b * a
    turn a b = grind arith

module _ (p : Plan) (fit : IsFitting p) where
  inner_sum : (n : ℕ) → n ≤ last_group p → sum_by (λ (e : Rindex). e.length) (map (group_entry p) (range_with_len 0 n)) ≡ n * header_blocks p.size (share p)
  inner_sum zero ok = none (header_blocks p.size (share p))
    where
      none : (h : ℕ) → 0 ≡ 0 * h
      none h = omega arith
  inner_sum (suc n) ok =
      ap (λ k. sum_by (λ (e : Rindex). e.length) (map (group_entry p) (range_with_len 0 k))) (next n)
      ∙ sum_by-map-range_with_len_more (λ (e : Rindex). e.length) (group_entry p) 0 n n (none n)
      ∙ both (sum_by (λ (e : Rindex). e.length) (map (group_entry p) (range_with_len 0 n))) (headers_of p n) n (header_blocks p.size (share p)) (inner_sum n (before n (last_group p) ok)) (ap (header_blocks p.size) (blocks_inner p fit n (under n (last_group p) ok)))
    where
      next : (n : ℕ) → suc n ≡ n + 1
      next n = omega arith

      none : (n : ℕ) → 0 + n ≡ n
      none n = omega arith

      before : (n l : ℕ) → suc n ≤ l → n ≤ l
      before n l ok = omega (arith, ok)

      under : (n l : ℕ) → suc n ≤ l → n < l
      under n l ok = omega (arith, ok)

      both : (x y n h : ℕ) → x ≡ n * h → y ≡ h → x + y ≡ suc n * h
      both x y n h e f = omega (arith, e, f, suc-mul n h)

  all_sum : group_length (map (group_entry p) (range_with_len 0 p.groups)) ≡ last_group p * header_blocks p.size (share p) + headers_of p (last_group p)
  all_sum =
      ap (λ k. sum_by (λ (e : Rindex). e.length) (map (group_entry p) (range_with_len 0 k))) (one_more p.groups fit.plan.some_groups)
      ∙ sum_by-map-range_with_len_more (λ (e : Rindex). e.length) (group_entry p) 0 (last_group p) (last_group p) (none (last_group p))
      ∙ ap (λ n. n + headers_of p (last_group p)) (inner_sum (last_group p) (same (last_group p)))
    where
      one_more : (n : ℕ) → 1 ≤ n → n ≡ n - 1 + 1
      one_more n some = omega (arith, some)

      none : (n : ℕ) → 0 + n ≡ n
      none n = omega arith

      same : (n : ℕ) → n ≤ n
      same n = omega arith

  pub few_group_blocks : group_length (map (group_entry p) (range_with_len 0 p.groups)) ≤ 128
  few_group_blocks = subst (λ n. n ≤ 128) (sym all_sum)
      (few_headers p.size (last_group p) (share p) (group_blocks p (last_group p)) fit.plan.size (few p.groups fit.plan.groups)
      (through (super_block p + 1 + last_group p * share p + group_blocks p (last_group p)) p.count (ground_is p fit).final fit.count)
      (left_over (super_block p) p.count p.groups (last_group p) (group_blocks p (last_group p)) (share p) (back p.groups fit.plan.some_groups) (ground_is p fit).final refl))
    where
      few : (n : ℕ) → n ≤ 64 → n - 1 ≤ 63
      few n le = omega (arith, le)

      through : (a c : ℕ) → a ≡ c → c ≤ 131072 → a ≤ 131072
      through a c e le = omega (arith, e, le)

      back : (n : ℕ) → 1 ≤ n → n - 1 + 1 ≡ n
      back n some = omega (arith, some)
