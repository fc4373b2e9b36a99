-- The chains of a sound directory.
use Rattle.std.proofs.Common.{◌≡◌, ◌≢◌, ℕ, zero, suc, ◌^◌, ◌<◌, ◌≤◌, true, false, List, Option, None, Some, refl, sym, ap, ◌∙◌, subst, add-one, arith}
use Rattle.std.specs.Prelude.{Contains, IsSome}
use Rattle.std.specs.List.{range_with_len}
use Rattle.crc_words.specs.Remainder.{crc32_of}
use Rattle.gfs2_layout.specs.Holding.{Holding, Part, Cell, Itself, Pointed, InChain, cell_part, part_at}
use Rattle.gfs2_layout.specs.Inode.{IsHashed, depth_in, entry, first_hash, index_bits, is_hashed_in, is_leaf_part, leaf_area, leaf_in, leaves_of, table_count, top_bits}
use Rattle.gfs2_layout.specs.Records.{Record, records_in}
use Rattle.image_model.proofs.Members.{IsIn, in_filter, from_filter, in_range}
use Rattle.pointer_tables.specs.Directories.{IsInChain, chain_head, chain_next}
use Rattle.hash_dirs.specs.Shown.{IsSound, index_for}
use Rattle.hash_dirs.proofs.Indexes.{bits_of_bits, bits_of_first, bits_low, not_too_deep}

some_same : {X : Type 0} (x y : X) → Some x ≡ Some y → x ≡ y
some_same x y e = cc

pub same_hash : (a b p q : ℕ) → Some (InChain a p) ≡ Some (InChain b q) → (a ≡ b) × (p ≡ q)
same_hash a b p q e = (cc, cc)

pub cell_some : (c : Option Cell) (p : Part) → cell_part c ≡ Some p → IsSome c
cell_some None p e = absurd (no e)
  where
    no : ◌≡◌ {A = Option Part} None (Some p) → ⊥
    no e = cc
cell_some (Some c) p e = refl

pub leaf_part : (o : Option Part) → is_leaf_part o ≡ true → (hash place : ℕ) × (o ≡ Some (InChain hash place))
leaf_part None e = absurd (no e)
  where
    no : false ≡ true → ⊥
    no e = cc
leaf_part (Some Itself) e = absurd (no e)
  where
    no : false ≡ true → ⊥
    no e = cc
leaf_part (Some (Pointed b k level first)) e = absurd (no e)
  where
    no : false ≡ true → ⊥
    no e = cc
leaf_part (Some (InChain hash place)) e = (hash, place, refl)

module _ (h : Holding) (sound : IsSound h) (hashed : is_hashed_in h ≡ true) where
  pub rules : IsHashed h
  rules = sound.inode.hashed hashed

  -- ---- leaves and their parts

  pub some_block : (x : ℕ) (p : Part) → part_at h x ≡ Some p → x ≢ 0
  some_block x p part is_zero = no (sym sound.placed.nobody ∙ ap (part_at h) (sym is_zero) ∙ part)
    where
      no : ◌≡◌ {A = Option Part} None (Some p) → ⊥
      no e = cc

  -- what a chain comes to is a leaf, at its place
  pub in_chain : (i place x : ℕ) → IsInChain h i place x → part_at h x ≡ Some (InChain (first_hash h i) place)
  in_chain i _ _ (chain_head low some) = rules.leads i low
  in_chain i _ _ (chain_next place x chain more) = (rules.next x (first_hash h i) place (in_chain i place x chain) more).part

  pub head_some : (i : ℕ) → i < table_count h → entry h i ≢ 0
  head_some i low = some_block (entry h i) (InChain (first_hash h i) 0) (rules.leads i low)

  pub inside : (x hash place : ℕ) → part_at h x ≡ Some (InChain hash place) → x < h.count
  inside x hash place part = sound.placed.inside x (cell_some (h.cell x) (InChain hash place) part)

  pub in_leaves : (x hash place : ℕ) → part_at h x ≡ Some (InChain hash place) → IsIn x (leaves_of h)
  in_leaves x hash place part =
      in_filter (λ y. is_leaf_part (part_at h y)) x (range_with_len 0 h.count)
      (in_range 0 h.count x (omega arith) (let low : x < h.count = inside x hash place part in omega (arith, low)))
      (ap is_leaf_part part)

  pub of_leaves : (x : ℕ) → IsIn x (leaves_of h) → (hash place : ℕ) × (part_at h x ≡ Some (InChain hash place))
  of_leaves x is = leaf_part (part_at h x) (from_filter (λ y. is_leaf_part (part_at h y)) x (range_with_len 0 h.count) is).1

  -- ---- a leaf is in the chain of each pointer that leads to the first of its own

  pub record Headed (x place hash : ℕ) : Type 0 where
    pub first : ℕ
    pub part : part_at h first ≡ Some (InChain hash 0)
    pub depth : (leaf_in h x).depth ≡ (leaf_in h first).depth
    pub chain : (i : ℕ) → i < table_count h → entry h i ≡ first → IsInChain h i place x

  pub headed : (place x hash : ℕ) → part_at h x ≡ Some (InChain hash place) → Headed x place hash
  headed zero x hash part = record { first = x; part = part; depth = refl; chain = λ i low leads. subst (IsInChain h i 0) leads (chain_head low (λ e. some_block x (InChain hash 0) part (sym leads ∙ e))) }
  headed (suc place) x hash part =
      let before = rules.chained x hash place part in
      let up = headed place before.0 hash before.1 in
      let more : (leaf_in h before.0).next ≢ 0 = λ e. some_block x (InChain hash (suc place)) part (sym before.2 ∙ e) in
      let next = rules.next before.0 hash place before.1 more in
      record {
        first = up.first;
        part = up.part;
        depth = ap (λ y. (leaf_in h y).depth) (sym before.2) ∙ next.depth ∙ up.depth;
        chain = λ i low leads. subst (IsInChain h i (suc place)) before.2 (subst (λ p. IsInChain h i p (leaf_in h before.0).next) (add-one place) (chain_next place before.0 (up.chain i low leads) more));
      }

  -- ---- a record stands in the chain of its own name

  pub deep : depth_in h ≤ 15
  deep = not_too_deep h.size (depth_in h) sound.block_size rules.greatest

  pub index_low : (name : List ℕ) → crc32_of name < 2 ^ 32 → index_for h name < table_count h
  index_low name small = bits_low (depth_in h) (crc32_of name) (omega (arith, deep)) small

  pub own_chain : (x hash place : ℕ) (r : Record) → crc32_of r.name < 2 ^ 32 → part_at h x ≡ Some (InChain hash place) → Contains (records_in (leaf_area h x)) r → IsInChain h (index_for h r.name) place x
  own_chain x hash place r small part there =
      let up = headed place x hash part in
      let led = rules.headed up.first hash up.part in
      let i = led.0 in
      let j = index_for h r.name in
      let depth = (leaf_in h (entry h i)).depth in
      let first = (same_hash hash (first_hash h i) 0 0 (sym up.part ∙ ap (part_at h) (sym led.2) ∙ rules.leads i led.1)).0 in
      let well = rules.leaves x hash place part in
      let same_depth : (leaf_in h x).depth ≡ depth = up.depth ∙ ap (λ y. (leaf_in h y).depth) (sym led.2) in
      let low : depth ≤ depth_in h = subst (λ n. n ≤ depth_in h) same_depth well.depth in
      let of_hash : top_bits depth (crc32_of r.name) ≡ top_bits depth hash = subst (λ n. top_bits n (crc32_of r.name) ≡ top_bits n hash) same_depth (well.hashes r there) in
      let bits : index_bits h depth j ≡ index_bits h depth i =
      bits_of_bits depth (depth_in h) (crc32_of r.name) low (omega (arith, deep)) ∙ of_hash ∙ ap (top_bits depth) first ∙ bits_of_first depth (index_bits h depth i) in
      up.chain j (index_low r.name small) (rules.runs i j led.1 (index_low r.name small) bits ∙ led.2)
