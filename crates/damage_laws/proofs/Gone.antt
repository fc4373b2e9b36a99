-- The leaves that a walk over all chains of a hashed directory finds are those that its table and its leaves claim.
use Rattle.std.proofs.Common.{◌≡◌, ◌≢◌, ◌⊎◌, ℕ, ◌+◌, ◌<◌, inl, inr, Bool, true, true≢false, List, [], ◌∷◌, length, sym, ap, ◌∙◌, subst, arith}
use Rattle.std.proofs.lemmas.Bool.{cases_Bool}
use Rattle.std.proofs.lemmas.List.Sorted.{length_permutation}
use Rattle.std.proofs.lemmas.Slice.Eq.{bytes_eq-Decides}
use Rattle.std.specs.Prelude.{Contains, ◌==◌, codes, flat_map}
use Rattle.std.specs.List.{list_any, range_with_len}
use Rattle.std.specs.List.Sorted.{IsPermutation}
use Rattle.std.specs.Str.{bytes_eq}
use Rattle.gfs2_layout.specs.Holding.{part_at}
use Rattle.gfs2_layout.specs.Inode.{first_hash, is_hashed_in, is_leaf_part, leaf_area}
use Rattle.gfs2_layout.specs.Records.{Record, records_in}
use Rattle.gfs2_layout.proofs.StatePuts.{any_has, has_any}
use Rattle.hash_dirs.specs.Leaves.{AreLeaves, IsLeaf, records_among}
use Rattle.hash_dirs.proofs.InAll.{in_order}
use Rattle.hash_dirs.proofs.Permuted.{filter_same}
use Rattle.image_model.specs.Claims.{every, Claims, HasArea, HasDirectory, HasLeaf, behind_dinode, first_leaf, next_leaf, of_leaf}
use Rattle.image_model.specs.Image.{Image}
use Rattle.image_model.specs.Owners.{Chained}
use Rattle.image_model.specs.Rules.{Breaks, HasRecordIn, no_dot, no_dots}
use Rattle.image_model.proofs.Members.{IsIn, in_flat_map, is_in}
use Rattle.image_reader.proofs.Directories.{not_both}
use Rattle.pointer_tables.specs.Directories.{chain_head, chain_next}
use Rattle.damage_laws.proofs.Claimed.{chain_claims}
use Rattle.damage_laws.proofs.Leaves.{AreMarked, all_records, marked, marked_leaf}

-- of fewer than two records none is `.`, or none is `..`
lacks_one : (xs : List Record) → length xs < 2 → ((r : Record) → IsIn r xs → r.name ≢ codes ".") ⊎ ((r : Record) → IsIn r xs → r.name ≢ codes "..")
lacks_one [] few = inl (λ r there e. there)
lacks_one (x ∷ y ∷ xs) few = absurd (omega (arith, few))
lacks_one (x ∷ []) few = elim (cases_Bool (bytes_eq (codes ".") x.name)) [
  | inl same ↦ inr (λ r there e. differ ((bytes_eq-Decides (codes ".") x.name).0 same ∙ only r there ∙ e))
  | inr other ↦ inl (λ r there e. true≢false (sym ((bytes_eq-Decides (codes ".") x.name).1 (sym (only r there ∙ e))) ∙ other))
]
  where
    only : (r : Record) → IsIn r (x ∷ []) → x.name ≡ r.name
    only r (inl e) = ap (λ (q : Record). q.name) (sym e)
    only r (inr none) = absurd none

    differ : codes "." ≡ codes ".." → ⊥
    differ e = cc

module _ (im : Image) (a : ℕ) (has : HasDirectory im a) (hashed : is_hashed_in (every im a) ≡ true) where
  pub chain_of : (by x hash place : ℕ) → Claims im by x (Chained a hash place) → IsLeaf (every im a) x
  chain_of _ _ _ _ (first_leaf by d o i claimed dinode plain low some) = (i, 0, chain_head low some)
  chain_of _ _ _ _ (next_leaf by x d hash place claimed more) = let r = chain_of by x hash place claimed in (r.0, r.1 + 1, chain_next r.1 x r.2 more)

  leaf_there : (x : ℕ) → IsLeaf (every im a) x → HasLeaf im a x
  leaf_there x leaf = let c = chain_claims im a has.inode hashed leaf.0 leaf.1 x leaf.2 in (c.0, first_hash (every im a) leaf.0, leaf.1, c.1)

  module _ (leaves : List ℕ) (are : AreLeaves (every im a) leaves) where
    -- they have as many records as the directory
    module _ (m : ℕ → Bool) (marks : AreMarked im a has hashed m) where
      same_mark : (x : ℕ) → list_any (λ y. y == x) leaves ≡ m x
      same_mark x = elim (cases_Bool (list_any (λ y. y == x) leaves)) [
        | inl is ↦ is ∙ sym (marks.all x (leaf_there x ((are.each x).0 (has_any leaves x is))))
        | inr lacks ↦ lacks ∙ sym (elim (cases_Bool (m x)) [
          | inl on ↦ let leaf = marks.only x on in absurd (true≢false (sym (any_has leaves x ((are.each x).1 (chain_of leaf.0 x leaf.1 leaf.2 leaf.3))) ∙ lacks))
          | inr off ↦ off
        ])
      ]

      same_records : IsPermutation (records_among (every im a) leaves) (all_records im a m)
      same_records = subst (λ xs. IsPermutation (records_among (every im a) leaves) (flat_map (λ x. records_in (leaf_area (every im a) x)) xs))
          (filter_same (λ x. list_any (λ y. y == x) leaves) (λ b. is_leaf_part (part_at (marked im m a) b)) (range_with_len 0 im.count) (λ x. same_mark x ∙ sym (marked_leaf im a m x)))
          (in_order (λ x. records_in (leaf_area (every im a) x)) im.count leaves are.once (λ x at. marks.below x (marks.all x (leaf_there x ((are.each x).0 at)))))

      pub as_many : length (all_records im a m) ≡ length (records_among (every im a) leaves)
      as_many = length_permutation (records_among (every im a) leaves) (all_records im a m) same_records

    -- a record of the directory is one of theirs
    record_among : (x : ℕ) (r : Record) → HasRecordIn im a x r → IsIn r (records_among (every im a) leaves)
    record_among x r at = by x at.0 at.1 at.2
      where
        by : (x : ℕ) (area : List ℕ) → HasArea im a x area → Contains (records_in area) r → IsIn r (records_among (every im a) leaves)
        by x _ (behind_dinode _ plain) there = absurd (not_both (is_hashed_in (every im a)) hashed plain)
        by x _ (of_leaf y held) there =
            in_flat_map (λ z. records_in (leaf_area (every im a) z)) y r leaves (is_in y leaves ((are.each y).1 (chain_of held.0 y held.1 held.2 held.3))) (is_in r (records_in (leaf_area (every im a) y)) there)

    -- with fewer than two it lacks a dot
    pub lacks_dot : length (records_among (every im a) leaves) < 2 → Breaks im 10 a
    lacks_dot few = elim (lacks_one (records_among (every im a) leaves) few) [
      | inl none ↦ no_dot a has (λ x r at. none r (record_among x r at))
      | inr none ↦ no_dots a has (λ x r at. none r (record_among x r at))
    ]
