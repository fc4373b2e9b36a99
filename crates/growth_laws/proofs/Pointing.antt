-- A pointer that is put into a block of a file.
use Rattle.std.proofs.Common.{◌≡◌, ◌≢◌, ◌⊎◌, ℕ, suc, ◌+◌, ◌*◌, ◌^◌, ◌<◌, ◌≤◌, inl, inr, List, length, Option, Some, None, refl, sym, ap, subst, ◌∙◌, arith}
use Rattle.std.proofs.lemmas.Bool.{cases_eq, cases_order, cond-true, cond-false, eq-eqb, ne_eqb}
use Rattle.std.specs.Int.{Width, w16, w32, w64, byte_len}
use Rattle.gfs2_layout.specs.Bytes.{u32_at, u64_at, number_at}
use Rattle.gfs2_layout.specs.Headers.{HasHeader}
use Rattle.gfs2_layout.specs.Holding.{Part, Itself, Pointed, Cell, Holding, cell_bytes, cell_part, part_at, bytes_at}
use Rattle.gfs2_layout.specs.Inode.{dinode_in, height_in, header_length, fan, pointer, IsPointed, by_dinode, by_block}
use Rattle.gfs2_layout.specs.Structures.{dinode_of, dinode_length}
use Rattle.gfs2_layout.specs.declared.dinode.Dinode.{Dinode}
use Rattle.gfs2_layout.proofs.InPlace.{is_width_64, length-with, number-with_same, number-with_other}
use Rattle.growth_laws.specs.Blocks.{start_in, with_pointer, rewritten, rewritten_cells, repointed, filled_cells, freed_cells}
use Rattle.growth_laws.specs.Files.{IsFile, with_cells}
use Rattle.growth_laws.specs.Steps.{StaysBut, PointersStayBut}
use Rattle.growth_laws.specs.Laws.{PutPointersFill, ClearedPointersFree, RewritesKeepTheRest}
use Rattle.growth_laws.proofs.Parts.{same_level, not_itself}
use Rattle.growth_laws.proofs.Places.{size_large}

-- ---- the bytes of one block

module _ (bytes : List ℕ) (start k to : ℕ) (fits : start + 8 * k + 8 ≤ length bytes) where
  pub long_put : length (with_pointer start k to bytes) ≡ length bytes
  long_put = length-with w64 (start + 8 * k) to bytes is_width_64 fits

  pub read_put : to < 2 ^ 64 → u64_at (start + 8 * k) (with_pointer start k to bytes) ≡ to
  read_put low = number-with_same w64 (start + 8 * k) to bytes is_width_64 fits low

  pub other_put : (j : ℕ) → j ≢ k → u64_at (start + 8 * j) (with_pointer start k to bytes) ≡ u64_at (start + 8 * j) bytes
  other_put j apart = number-with_other w64 (start + 8 * k) to bytes is_width_64 fits w64 (start + 8 * j) (beside (cases_order j k))
    where
      beside : (j ≡ k) ⊎ (j < k) ⊎ (k < j) → (start + 8 * k + 8 ≤ start + 8 * j) ⊎ (start + 8 * j + 8 ≤ start + 8 * k)
      beside (inl same) = absurd (apart same)
      beside (inr (inl less)) = inr (omega (arith, less))
      beside (inr (inr more)) = inl (omega (arith, more))

  header_put : (kind format : ℕ) → 24 ≤ start → HasHeader kind format bytes → HasHeader kind format (with_pointer start k to bytes)
  header_put kind format low header = record { magic_is = before 0 (omega arith) ∙ header.magic_is; kind_is = before 4 (omega arith) ∙ header.kind_is; format_is = before 16 (omega arith) ∙ header.format_is }
    where
      before : (place : ℕ) → place + 4 ≤ 24 → u32_at place (with_pointer start k to bytes) ≡ u32_at place bytes
      before place less = number-with_other w64 (start + 8 * k) to bytes is_width_64 fits w32 place (inr (omega (arith, less, low)))

  dinode_put : 232 ≤ start → dinode_of (with_pointer start k to bytes) ≡ dinode_of bytes
  dinode_put low = λ t. record {
    num = record { number = at w64 24 (omega arith) t; address = at w64 32 (omega arith) t };
    mode = at w32 40 (omega arith) t;
    uid = at w32 44 (omega arith) t;
    gid = at w32 48 (omega arith) t;
    nlink = at w32 52 (omega arith) t;
    size = at w64 56 (omega arith) t;
    blocks = at w64 64 (omega arith) t;
    atime = at w64 72 (omega arith) t;
    mtime = at w64 80 (omega arith) t;
    ctime = at w64 88 (omega arith) t;
    major = at w32 96 (omega arith) t;
    minor = at w32 100 (omega arith) t;
    goal_meta = at w64 104 (omega arith) t;
    goal_data = at w64 112 (omega arith) t;
    generation = at w64 120 (omega arith) t;
    flags = at w32 128 (omega arith) t;
    payload_format = at w32 132 (omega arith) t;
    height = at w16 138 (omega arith) t;
    depth = at w16 146 (omega arith) t;
    entries = at w32 148 (omega arith) t;
    eattr = at w64 168 (omega arith) t;
    atime_nsec = at w32 176 (omega arith) t;
    mtime_nsec = at w32 180 (omega arith) t;
    ctime_nsec = at w32 184 (omega arith) t;
  }
    where
      at : (w : Width) (place : ℕ) → place + byte_len w ≤ 232 → number_at w place (with_pointer start k to bytes) ≡ number_at w place bytes
      at w place less = number-with_other w64 (start + 8 * k) to bytes is_width_64 fits w place (inr (omega (arith, less, low)))

-- ---- a block that is rewritten

pub rewritten_part : (f : List ℕ → List ℕ) (o : Option Cell) → cell_part (rewritten f o) ≡ cell_part o
rewritten_part f None = refl
rewritten_part f (Some c) = refl

pub rewritten_bytes : (f : List ℕ → List ℕ) (o : Option Cell) (p : Part) → cell_part o ≡ Some p → cell_bytes (rewritten f o) ≡ f (cell_bytes o)
rewritten_bytes f None p e = absurd (cc)
rewritten_bytes f (Some c) p e = refl

module _ (h : Holding) (cell : ℕ → Option Cell) (from k level first b old to : ℕ) (file : IsFile h) (was : IsPointed h old from k level first)
    (cells : (x : ℕ) → x ≢ b → cell x ≡ repointed h from k to x) (new_other : (p : Part) → part_at h b ≡ Some p → (above j s : ℕ) × (p ≡ Pointed above j level s)) (low : to < 2 ^ 64) where
  large : 512 ≤ h.size
  large = size_large h.size file.block_size

  -- the block with the pointer: the dinode's, or an indirect one further up
  abbrev HasPointer : Type 0
  HasPointer = ((from ≡ h.own) × (start_in h from ≡ dinode_length) × (height_in h ≡ suc level) × (k < fan h.size dinode_length))
      ⊎ ((above j s : ℕ) × (part_at h from ≡ Some (Pointed above j (suc level) s)) × (from ≢ h.own) × (start_in h from ≡ header_length) × (k < fan h.size header_length))

  from_is : HasPointer
  from_is = by was
    where
      by : IsPointed h old from k level first → HasPointer
      by (by_dinode own high near is first_is) = inl (own, cond-true _ _ _ (eq-eqb from h.own own), high, near)
      by (by_block above j s part near is first_is) =
          let other : from ≢ h.own = λ e. not_itself _ _ _ _ (sym file.own ∙ ap (part_at h) (sym e) ∙ part) in
          inr (above, j, s, part, other, cond-false _ _ _ (ne_eqb from h.own other), near)

  from_part : (p : Part) × (part_at h from ≡ Some p)
  from_part = elim from_is [ inl own ↦ (Itself, ap (part_at h) own.0 ∙ file.own) | inr block ↦ (Pointed block.0 block.1 (suc level) block.2, block.3) ]

  from_other : from ≢ b
  from_other e = elim from_is [
    | inl own ↦ itself (new_other Itself (ap (part_at h) (sym e) ∙ ap (part_at h) own.0 ∙ file.own)).3
    | inr block ↦ above_that (new_other (Pointed block.0 block.1 (suc level) block.2) (ap (part_at h) (sym e) ∙ block.3)).3
  ]
    where
      itself : {a j s : ℕ} → Itself ≡ Pointed a j level s → ⊥
      itself e = not_itself _ _ _ _ (ap (λ (p : Part). Some p) e)

      above_that : {a j s a' j' s' : ℕ} → Pointed a j (suc level) s ≡ Pointed a' j' level s' → ⊥
      above_that e = omega (arith, same_level (ap (λ (p : Part). Some p) e))

  start_large : 24 ≤ start_in h from
  start_large = elim from_is [ inl own ↦ omega (arith, own.1) | inr block ↦ omega (arith, block.5) ]

  fits : start_in h from + 8 * k + 8 ≤ length (bytes_at h from)
  fits = elim from_is [
    | inl own ↦ omega (arith, own.1, own.3, file.whole from from_part.0 from_part.1, large)
    | inr block ↦ omega (arith, block.5, block.6, file.whole from from_part.0 from_part.1, large)
  ]

  -- ---- each block afterwards

  cell_from : cell from ≡ rewritten (with_pointer (start_in h from) k to) (h.cell from)
  cell_from = cells from from_other ∙ cond-true _ _ _ (eq-eqb from from refl)

  cell_other : (x : ℕ) → x ≢ b → x ≢ from → cell x ≡ h.cell x
  cell_other x apart other = cells x apart ∙ cond-false _ _ _ (ne_eqb x from other)

  bytes_from : bytes_at (with_cells h cell) from ≡ with_pointer (start_in h from) k to (bytes_at h from)
  bytes_from = ap cell_bytes cell_from ∙ rewritten_bytes (with_pointer (start_in h from) k to) (h.cell from) from_part.0 from_part.1

  parts_stay : (x : ℕ) → x ≢ b → part_at (with_cells h cell) x ≡ part_at h x
  parts_stay x apart = elim (cases_eq x from) [
    | inl is ↦
        ap (part_at (with_cells h cell)) is ∙ ap cell_part cell_from ∙ rewritten_part (with_pointer (start_in h from) k to) (h.cell from) ∙ ap (part_at h) (sym is)
    | inr other ↦ ap cell_part (cell_other x apart other)
  ]

  pub stays : StaysBut h (with_cells h cell) b
  stays = record {
    parts = parts_stay;
    lengths = λ x apart. elim (cases_eq x from) [
      | inl is ↦
          ap (λ y. length (bytes_at (with_cells h cell) y)) is ∙ ap length bytes_from ∙ long_put (bytes_at h from) (start_in h from) k to fits ∙ ap (λ y. length (bytes_at h y)) (sym is)
      | inr other ↦ ap (λ c. length (cell_bytes c)) (cell_other x apart other)
    ];
    headers = λ x kind format apart header. elim (cases_eq x from) [
      | inl is ↦
          subst (λ y. HasHeader kind format (bytes_at (with_cells h cell) y)) (sym is) (subst (HasHeader kind format) (sym bytes_from)
          (header_put (bytes_at h from) (start_in h from) k to fits kind format start_large (subst (λ y. HasHeader kind format (bytes_at h y)) is header)))
      | inr other ↦ subst (λ c. HasHeader kind format (cell_bytes c)) (sym (cell_other x apart other)) header
    ];
    contents = λ x above j s apart part. ap cell_bytes (cell_other x apart (no_content x above j s part));
  }
    where
      no_content : (x above j s : ℕ) → part_at h x ≡ Some (Pointed above j 0 s) → x ≢ from
      no_content x above j s part e = elim from_is [
        | inl own ↦ not_itself _ _ _ _ (sym file.own ∙ ap (part_at h) (sym own.0 ∙ sym e) ∙ part)
        | inr block ↦ omega (arith, same_level (sym block.3 ∙ ap (part_at h) (sym e) ∙ part))
      ]

  own_other : h.own ≢ b
  own_other e = itself (new_other Itself (ap (part_at h) (sym e) ∙ file.own)).3
    where
      itself : {a j s : ℕ} → Itself ≡ Pointed a j level s → ⊥
      itself e = not_itself _ _ _ _ (ap (λ (p : Part). Some p) e)

  pub pointers : PointersStayBut h (with_cells h cell) b from k
  pointers = record {
    of_dinode = λ j apart. elim (cases_eq h.own from) [
      | inl is ↦ elim from_is [
        | inl own ↦
            ap (λ y. pointer (with_cells h cell) dinode_length y j) is ∙ ap (u64_at (dinode_length + 8 * j)) bytes_from
            ∙ ap (λ n. u64_at (n + 8 * j) (with_pointer (start_in h from) k to (bytes_at h from))) (sym own.1)
            ∙ other_put (bytes_at h from) (start_in h from) k to fits j (apart is) ∙ ap (λ n. u64_at (n + 8 * j) (bytes_at h from)) own.1 ∙ ap (λ y. pointer h dinode_length y j) (sym is)
        | inr block ↦ absurd (block.4 (sym is))
      ]
      | inr other ↦ ap (λ c. u64_at (dinode_length + 8 * j) (cell_bytes c)) (cell_other h.own own_other other)
    ];
    of_blocks = λ x j no_own no_new apart. elim (cases_eq x from) [
      | inl is ↦ elim from_is [
        | inl own ↦ absurd (no_own (is ∙ own.0))
        | inr block ↦
            ap (λ y. pointer (with_cells h cell) header_length y j) is ∙ ap (u64_at (header_length + 8 * j)) bytes_from
            ∙ ap (λ n. u64_at (n + 8 * j) (with_pointer (start_in h from) k to (bytes_at h from))) (sym block.5)
            ∙ other_put (bytes_at h from) (start_in h from) k to fits j (apart is) ∙ ap (λ n. u64_at (n + 8 * j) (bytes_at h from)) block.5 ∙ ap (λ y. pointer h header_length y j) (sym is)
      ]
      | inr other ↦ ap (λ c. u64_at (header_length + 8 * j) (cell_bytes c)) (cell_other x no_new other)
    ];
  }

  pub dinode_same : dinode_in (with_cells h cell) ≡ dinode_in h
  unfolding dinode_in
  dinode_same = elim (cases_eq h.own from) [
    | inl is ↦ elim from_is [
      | inl own ↦
          ap (λ y. dinode_of (bytes_at (with_cells h cell) y)) is ∙ ap dinode_of bytes_from
          ∙ dinode_put (bytes_at h from) (start_in h from) k to fits (omega (arith, own.1)) ∙ ap (λ y. dinode_of (bytes_at h y)) (sym is)
      | inr block ↦ absurd (block.4 (sym is))
    ]
    | inr other ↦ ap (λ c. dinode_of (cell_bytes c)) (cell_other h.own own_other other)
  ]

  -- the pointer leads there
  pub points : IsPointed (with_cells h cell) to from k level first
  points = by was
    where
      read : u64_at (start_in h from + 8 * k) (bytes_at (with_cells h cell) from) ≡ to
      read = ap (u64_at (start_in h from + 8 * k)) bytes_from ∙ read_put (bytes_at h from) (start_in h from) k to fits low

      by : IsPointed h old from k level first → IsPointed (with_cells h cell) to from k level first
      by (by_dinode own high near is first_is) =
          let start : start_in h from ≡ dinode_length = cond-true _ _ _ (eq-eqb from h.own own) in
          by_dinode own (ap (λ (d : Dinode). d.height) dinode_same ∙ high) near (ap (λ n. u64_at (n + 8 * k) (bytes_at (with_cells h cell) from)) (sym start) ∙ read) first_is
      by (by_block above j s part near is first_is) =
          let other : from ≢ h.own = λ e. not_itself _ _ _ _ (sym file.own ∙ ap (part_at h) (sym e) ∙ part) in
          let start : start_in h from ≡ header_length = cond-false _ _ _ (ne_eqb from h.own other) in
          by_block above j s (parts_stay from from_other ∙ part) near (ap (λ n. u64_at (n + 8 * k) (bytes_at (with_cells h cell) from)) (sym start) ∙ read) first_is

-- ---- the two steps

pub put_pointers_fill : PutPointersFill
put_pointers_fill h from k level first b bytes file hole within new some inside low block = record {
  hole = hole;
  within = within;
  new = new;
  some = some;
  inside = inside;
  filled = points h (filled_cells h from k level first b bytes) from k level first b 0 b file hole cells no_part low;
  part = ap cell_part here;
  whole = ap (λ c. length (cell_bytes c)) here ∙ block.whole;
  zeros = λ e. ap cell_bytes here ∙ block.zeros e;
  header = λ below e. subst (λ c. HasHeader 5 500 (cell_bytes c)) (sym here) (block.header below e);
  leads_nowhere = λ below j e. ap (λ c. u64_at (header_length + 8 * j) (cell_bytes c)) here ∙ block.leads_nowhere below j e;
  dinode = dinode_same h (filled_cells h from k level first b bytes) from k level first b 0 b file hole cells no_part low;
  stays = stays h (filled_cells h from k level first b bytes) from k level first b 0 b file hole cells no_part low;
  pointers = pointers h (filled_cells h from k level first b bytes) from k level first b 0 b file hole cells no_part low;
}
  where
    here : filled_cells h from k level first b bytes b ≡ Some (record { part = Pointed from k level first; bytes = bytes })
    here = cond-true _ _ _ (eq-eqb b b refl)

    cells : (x : ℕ) → x ≢ b → filled_cells h from k level first b bytes x ≡ repointed h from k b x
    cells x apart = cond-false _ _ _ (ne_eqb x b apart)

    no_part : (p : Part) → part_at h b ≡ Some p → (above j s : ℕ) × (p ≡ Pointed above j level s)
    no_part p part = let both : Some p ≡ None = sym part ∙ ap cell_part new in absurd (cc)

pub cleared_pointers_free : ClearedPointersFree
cleared_pointers_free h from k level first b file part inside nowhere = record {
  part = part;
  inside = inside;
  led_nowhere = nowhere;
  gone = cond-true _ _ _ (eq-eqb b b refl);
  hole = points h (freed_cells h from k b) from k level first b b 0 file (file.tree.pointed b from k level first part) cells this_part (omega arith);
  dinode = dinode_same h (freed_cells h from k b) from k level first b b 0 file (file.tree.pointed b from k level first part) cells this_part (omega arith);
  stays = stays h (freed_cells h from k b) from k level first b b 0 file (file.tree.pointed b from k level first part) cells this_part (omega arith);
  pointers = pointers h (freed_cells h from k b) from k level first b b 0 file (file.tree.pointed b from k level first part) cells this_part (omega arith);
}
  where
    cells : (x : ℕ) → x ≢ b → freed_cells h from k b x ≡ repointed h from k 0 x
    cells x apart = cond-false _ _ _ (ne_eqb x b apart)

    this_part : (p : Part) → part_at h b ≡ Some p → (above j s : ℕ) × (p ≡ Pointed above j level s)
    this_part p is = (from, k, first, same (sym is ∙ part))
      where
        same : Some p ≡ Some (Pointed from k level first) → p ≡ Pointed from k level first
        same e = cc

pub rewrites_keep_the_rest : RewritesKeepTheRest
rewrites_keep_the_rest h x p bytes part = (parts, ap cell_bytes here ∙ rewritten_bytes (λ old. bytes) (h.cell x) p part, λ y other. ap cell_bytes (elsewhere y other))
  where
    here : rewritten_cells h x bytes x ≡ rewritten (λ old. bytes) (h.cell x)
    here = cond-true _ _ _ (eq-eqb x x refl)

    elsewhere : (y : ℕ) → y ≢ x → rewritten_cells h x bytes y ≡ h.cell y
    elsewhere y other = cond-false _ _ _ (ne_eqb y x other)

    parts : (y : ℕ) → part_at (with_cells h (rewritten_cells h x bytes)) y ≡ part_at h y
    parts y = elim (cases_eq y x) [
      | inl is ↦ ap (part_at (with_cells h (rewritten_cells h x bytes))) is ∙ ap cell_part here ∙ rewritten_part (λ old. bytes) (h.cell x) ∙ ap (part_at h) (sym is)
      | inr other ↦ ap cell_part (elsewhere y other)
    ]
