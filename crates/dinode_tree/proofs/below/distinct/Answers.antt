use Rattle.std.proofs.Common.{ℕ, rules}
use Rattle.std.proofs.lemmas.Fn.{dedup_same}
use Rattle.std.proofs.lemmas.List.Kept.{Contains-from_dedup}
use Rattle.std.proofs.lemmas.List.Sorted.{Contains-permutation, IsPermutation-sym}
use Rattle.dinode_tree.specs.declared.ways.Link.{Link}
use Rattle.dinode_tree.proofs.Risen.{same_key, one_of_each}
use Rattle.dinode_tree.proofs.below.distinct.Goals as goal

abbrev block_of : Link → ℕ
block_of l = l.block

pub returns-clause-only : goal.returns-clause-only
returns-clause-only c l has =
    let is = dedup_same _ (same_key block_of) _ (λ x y b f' x' y' k. search rules) _ _ c.dedup_by_key.ensures.filtered in
    Contains-permutation _ _ l (IsPermutation-sym _ _ c.sort_by_key.ensures.permutation) (Contains-from_dedup (same_key block_of) _ l (rw is at has))

pub returns-clause-each : goal.returns-clause-each
returns-clause-each c l has =
    let is = dedup_same _ (same_key block_of) _ (λ x y b f' x' y' k. search rules) _ _ c.dedup_by_key.ensures.filtered in
    one_of_each block_of _ _ l is (Contains-permutation _ _ l c.sort_by_key.ensures.permutation has)
