use Rattle.std.proofs.Common.{ℕ, rules}
use Rattle.std.proofs.lemmas.Fn.{dedup_same}
use Rattle.std.proofs.lemmas.List.Kept.{Contains-from_dedup}
use Rattle.std.proofs.lemmas.List.Sorted.{Contains-permutation, IsPermutation-sym, answers_always}
use Rattle.dinode_tree.specs.declared.below.PointedBlock.{PointedBlock}
use Rattle.dinode_tree.proofs.Risen.{same_key, one_of_each, kept_rise}
use Rattle.dinode_tree.proofs.below.rising.Goals as goal

abbrev block_of : PointedBlock → ℕ
block_of p = p.block

pub returns-clause-only : goal.returns-clause-only
returns-clause-only c p has =
    let is = dedup_same _ (same_key block_of) _ (λ x y b f' x' y' k. search rules) _ _ c.dedup_by_key.ensures.filtered in
    Contains-permutation _ _ p (IsPermutation-sym _ _ c.sort_by_key.ensures.permutation) (Contains-from_dedup (same_key block_of) _ p (rw is at has))

pub returns-clause-each : goal.returns-clause-each
returns-clause-each c p has =
    let is = dedup_same _ (same_key block_of) _ (λ x y b f' x' y' k. search rules) _ _ c.dedup_by_key.ensures.filtered in
    one_of_each block_of _ _ p is (Contains-permutation _ _ p c.sort_by_key.ensures.permutation has)

pub returns-clause-rising : goal.returns-clause-rising
returns-clause-rising c =
    let is = dedup_same _ (same_key block_of) _ (λ x y b f' x' y' k. search rules) _ _ c.dedup_by_key.ensures.filtered in
    kept_rise block_of _ _ (c.in_ok-sort_by_key.ensures.sorted block_of (answers_always _ _ _ (λ f a r g h. search rules))) is
