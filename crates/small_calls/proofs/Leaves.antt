-- The leaf of a chain to which a name comes is one, and so is the one with a name's record.
use Rattle.std.proofs.Common.{◌≡◌, ◌≢◌, ◌+◌, ◌<◌, ◌≤◌, ◌⊎◌, ℕ, inl, inr, Bool, true, List, [], ◌∷◌, ◌++◌, drop, Option, None, Some, refl, sym, ap, subst, ◌∙◌, arith, true≢false}
use Rattle.std.specs.Prelude.{IsSome, count_by, flat_map, if◌then◌else◌}
use Rattle.std.specs.List.{range_with_len}
use Rattle.std.specs.Str.{bytes_eq}
use Rattle.std.proofs.lemmas.Bool.{cases_Bool, cases_eq, cond-true}
use Rattle.std.proofs.lemmas.List.Sorted.{Contains-permutation, IsPermutation-sym}
use Rattle.std.proofs.lemmas.List.Sums.{sum_by-append, sum_by-cons}
use Rattle.gfs2_layout.specs.Area.{slots_of}
use Rattle.gfs2_layout.specs.Holding.{Cell, Holding, InChain, Itself, cell_part, part_at}
use Rattle.gfs2_layout.specs.Inode.{first_hash, is_hashed_in, is_leaf_part, leaf_area, leaf_in, leaf_length, leaves_of, records_of}
use Rattle.gfs2_layout.specs.Cutting.{slot_from}
use Rattle.gfs2_layout.specs.Records.{Record, record_of, records_in}
use Rattle.gfs2_layout.proofs.Exchanged.{first_has_name, goes}
use Rattle.hash_dirs.specs.Exchanging.{IsCutFrom}
use Rattle.hash_dirs.specs.Shown.{IsInChain, IsSound, index_for}
use Rattle.hash_dirs.proofs.Along.{chain_one, ended}
use Rattle.hash_dirs.proofs.Chained.{in_chain}
use Rattle.hash_steps.specs.Leaves.{IsFull, IsFullBefore, has_room_for}
use Rattle.image_model.proofs.Held.{none_some, some_same}
use Rattle.image_model.proofs.Members.{IsIn, contained, in_filter, in_range, is_in}
use Rattle.image_model.proofs.Reach.{found_in}
use Rattle.file_calls.specs.Taking.{HasRecordOf}
use Rattle.file_calls.proofs.Places.{where_of}
use Rattle.file_calls.specs.NameBecoming.{LosesAll, LosesName, of_none, of_one}
use Rattle.file_calls.proofs.Loses.{plain_lost, sound_lost}

three : (a b : ℕ) → (a < b) ⊎ ((a ≡ b) ⊎ (b < a))
three a b = grind arith

-- ---- the leaf to which a name comes

-- the first leaf of the chain with room for the name, or the last of one that has none
pub data IsLeafFor (h : Holding) (i len : ℕ) (b : ℕ) : Type 0 where
  with_room : (place : ℕ) → IsInChain h i place b → IsFullBefore h i len place → has_room_for len (slots_of (leaf_area h b)) ≡ true → IsLeafFor h i len b
  last_one : (place : ℕ) → IsFull h i len → IsInChain h i place b → (leaf_in h b).next ≡ 0 → IsLeafFor h i len b

pub one_leaf : (h : Holding) (i len x y : ℕ) → IsLeafFor h i len x → IsLeafFor h i len y → x ≡ y
one_leaf h i len x y (with_room p chain full room) (with_room q chain' full' room') = elim (three p q) [
  | inl before ↦ absurd (true≢false (sym room ∙ full' p x before chain))
  | inr (inl same) ↦ chain_one h i q x y (subst (λ n. IsInChain h i n x) same chain) chain'
  | inr (inr behind) ↦ absurd (true≢false (sym room' ∙ full q y behind chain'))
]
one_leaf h i len x y (with_room p chain full room) (last_one q none chain' last) = absurd (true≢false (sym room ∙ none p x chain))
one_leaf h i len x y (last_one p none chain last) (with_room q chain' full' room') = absurd (true≢false (sym room' ∙ none q y chain'))
one_leaf h i len x y (last_one p none chain last) (last_one q none' chain' last') = elim (three p q) [
  | inl before ↦ absurd (ended h i p x q y chain last before chain')
  | inr (inl same) ↦ chain_one h i q x y (subst (λ n. IsInChain h i n x) same chain) chain'
  | inr (inr behind) ↦ absurd (ended h i q y p x chain' last' behind chain)
]

-- ---- how often something stands in lists

abbrev one_if : Bool → ℕ
one_if t = if t then 1 else 0

one_so : (t : Bool) → t ≡ true → one_if t ≡ 1
one_so t e = ap one_if e

module _ (test : Record → Bool) where
  joined : (xs ys : List Record) → count_by test (xs ++ ys) ≡ count_by test xs + count_by test ys
  joined xs ys = sum_by-append (λ r. one_if (test r)) xs ys

  counted : (r : Record) (rs : List Record) → IsIn r rs → test r ≡ true → 1 ≤ count_by test rs
  counted r [] there e = elim there [ ]
  counted r (s ∷ rs) (inl same) e =
      let one = one_so (test s) (ap test (sym same) ∙ e) in
      let all = sum_by-cons (λ q. one_if (test q)) s rs in
      omega (arith, one, all)
  counted r (s ∷ rs) (inr later) e =
      let more = counted r rs later e in
      let all = sum_by-cons (λ q. one_if (test q)) s rs in
      omega (arith, more, all)

  module _ (f : ℕ → List Record) where
    counted_one : (xs : List ℕ) (x : ℕ) → IsIn x xs → count_by test (f x) ≤ count_by test (flat_map f xs)
    counted_one [] x there = elim there [ ]
    counted_one (y ∷ ys) x (inl same) = let all = joined (f y) (flat_map f ys) in subst (λ z. count_by test (f z) ≤ count_by test (flat_map f (y ∷ ys))) (sym same) (omega (arith, all))
    counted_one (y ∷ ys) x (inr later) = let all = joined (f y) (flat_map f ys) in let rest = counted_one ys x later in omega (arith, all, rest)

    counted_two : (xs : List ℕ) (x y : ℕ) → x ≢ y → IsIn x xs → IsIn y xs → count_by test (f x) + count_by test (f y) ≤ count_by test (flat_map f xs)
    counted_two [] x y apart there here = elim there [ ]
    counted_two (z ∷ zs) x y apart (inl e) (inl e') = absurd (apart (e ∙ sym e'))
    counted_two (z ∷ zs) x y apart (inl e) (inr later) =
        let all = joined (f z) (flat_map f zs) in let rest = counted_one zs y later in let same = ap (λ q. count_by test (f q)) e in omega (arith, all, rest, same)
    counted_two (z ∷ zs) x y apart (inr later) (inl e) =
        let all = joined (f z) (flat_map f zs) in let rest = counted_one zs x later in let same = ap (λ q. count_by test (f q)) e in omega (arith, all, rest, same)
    counted_two (z ∷ zs) x y apart (inr later) (inr later') = let all = joined (f z) (flat_map f zs) in let rest = counted_two zs x y apart later later' in omega (arith, all, rest)

-- ---- the leaf with a name's record

-- the block is a leaf of a sound hashed directory, and a record in it has this name
pub record HasNamed (h : Holding) (name : List ℕ) (b : ℕ) : Type 0 where
  pub is : is_hashed_in h ≡ true
  pub hash : ℕ
  pub place : ℕ
  pub part : part_at h b ≡ Some (InChain hash place)
  pub one : Record
  pub named : bytes_eq name one.name ≡ true
  pub there : IsIn one (records_in (leaf_area h b))

module _ (h : Holding) (sound : IsSound h) where
  in_leaves : (name : List ℕ) (b : ℕ) → HasNamed h name b → IsIn b (leaves_of h)
  in_leaves name b has = in_filter (λ x. is_leaf_part (part_at h x)) b (range_with_len 0 h.count) (in_range 0 h.count b (omega arith) (let low = sound.placed.inside b (some_cell (h.cell b) has.part) in omega (arith, low))) (ap is_leaf_part has.part)
    where
      some_cell : (c : Option Cell) → cell_part c ≡ Some (InChain has.hash has.place) → IsSome c
      some_cell None e = absurd (none_some e)
      some_cell (Some c) e = refl

  pub one_named : (name : List ℕ) (x y : ℕ) → HasNamed h name x → HasNamed h name y → x ≡ y
  unfolding records_of
  one_named name x y first second = elim (cases_eq x y) [
    | inl same ↦ same
    | inr apart ↦
        let test : Record → Bool = λ r. bytes_eq name r.name in
        let records : records_of h ≡ flat_map (λ z. records_in (leaf_area h z)) (leaves_of h) = cond-true (is_hashed_in h) _ _ first.is in
        let one = counted test first.one (records_in (leaf_area h x)) first.there first.named in
        let other = counted test second.one (records_in (leaf_area h y)) second.there second.named in
        let both = counted_two test (λ z. records_in (leaf_area h z)) (leaves_of h) x y apart (in_leaves name x first) (in_leaves name y second) in
        let many : count_by test (records_of h) ≡ count_by test (flat_map (λ z. records_in (leaf_area h z)) (leaves_of h)) = ap (count_by test) records in
        let once = sound.once name in
        absurd (omega (arith, one, other, both, many, once))
  ]

  -- the block of a name's first record is the dinode's, or such a leaf
  pub record_in : (name : List ℕ) (b : ℕ) → HasRecordOf h name b → (b ≡ h.own) ⊎ HasNamed h name b
  record_in name b has = elim (where_of h name b has) [
    | inl plain ↦ inl plain.1
    | inr hashed ↦
        let leaf = hashed.1 in
        let found = found_in (λ r. bytes_eq name r.name) leaf.is (records_in (leaf_area h b)) leaf.named in
        inr (record { is = hashed.0; hash = first_hash h (index_for h name); place = leaf.place; part = in_chain h sound hashed.0 (index_for h name) leaf.place b leaf.chain; one = leaf.is; named = found.1; there = found.0 })
  ]

-- ---- names that go

-- what has the record of a name once another went had it before
lost_back : (h k : Holding) (gone name : List ℕ) (b : ℕ) → LosesName h k gone → IsSound h → HasNamed k name b → HasNamed h name b
lost_back h k gone name b lost sound has = elim (cases_Bool (is_hashed_in h)) [
  | inr plain ↦ absurd (true≢false (sym has.is ∙ (plain_lost h k gone lost plain).0))
  | inl is ↦ record { is = is; hash = has.hash; place = has.place; part = part is; one = has.one; named = has.named; there = still is }
]
  where
    cut : is_hashed_in h ≡ true → IsCutFrom h k gone
    cut is = (lost.in_hashed is).1.cut

    part : is_hashed_in h ≡ true → part_at h b ≡ Some (InChain has.hash has.place)
    part is = sym ((cut is).parts b) ∙ has.part

    not_own : is_hashed_in h ≡ true → b ≢ h.own
    not_own is same = no (some_same (sym (part is) ∙ ap (part_at h) same ∙ sound.placed.own))
      where
        no : InChain has.hash has.place ≡ Itself → ⊥
        no e = cc

    still : is_hashed_in h ≡ true → IsIn has.one (records_in (leaf_area h b))
    still is = elim (cases_eq b (cut is).leaf) [
      | inr other ↦ subst (λ bytes. IsIn has.one (records_in (drop leaf_length bytes))) ((cut is).others b other (not_own is)) has.there
      | inl same ↦
          let c = cut is in
          let new : IsIn has.one (records_in (leaf_area k c.leaf)) = subst (λ x. IsIn has.one (records_in (leaf_area k x))) same has.there in
          let gone_one = record_of (slot_from c.place (leaf_area h c.leaf)) in
          let exchanged = goes (leaf_area h c.leaf) (leaf_area k c.leaf) c.place c.at (first_has_name gone (slots_of (leaf_area h c.leaf)) (slot_from c.place (leaf_area h c.leaf)) c.first).0 c.slots in
          let rest = Contains-permutation (records_in (leaf_area k c.leaf)) exchanged.rest has.one exchanged.after (contained has.one (records_in (leaf_area k c.leaf)) new) in
          let old = Contains-permutation (gone_one ∷ exchanged.rest) (records_in (leaf_area h c.leaf)) has.one (IsPermutation-sym (records_in (leaf_area h c.leaf)) (gone_one ∷ exchanged.rest) exchanged.before) (contained has.one (gone_one ∷ exchanged.rest) (inr (is_in has.one exchanged.rest rest))) in
          subst (λ x. IsIn has.one (records_in (leaf_area h x))) (sym same) (is_in has.one (records_in (leaf_area h c.leaf)) old)
    ]

pub all_back : (names : List (List ℕ)) (h k : Holding) (name : List ℕ) (b : ℕ) → LosesAll names h k → IsSound h → HasNamed k name b → HasNamed h name b
all_back _ h _ name b (of_none _) sound has = has
all_back _ h k name b (of_one gone names _ j _ first later) sound has = lost_back h j gone name b first sound (all_back names j k name b later (sound_lost h j gone first sound) has)
