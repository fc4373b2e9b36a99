use Rattle.std.proofs.Common.{◌≡◌, inl, inr, [], ◌∷◌, zero, suc, take, sym, subst, arith}
use Rattle.std.specs.Prelude.{Contains}
use Rattle.std.proofs.lemmas.List.{take_more}
use Rattle.std.proofs.lemmas.List.Elements.{Contains-append_cases}
use Rattle.glock_names.specs.Views.{HasBlock}
use Rattle.dinode_tree.specs.declared.below.PointedBlock.{PointedBlock}
use Rattle.hash_inserts.proofs.looking.first_missing.Goals as goal

only_one : (y p : PointedBlock) → Contains (y ∷ []) p → p ≡ y
only_one y p (zero, low, is) = sym is
only_one y p (suc k, low, is) = absurd (omega (arith, low))

pub loop-pointed-preserved : goal.loop-pointed-preserved
loop-pointed-preserved g c p has =
    elim (Contains-append_cases (take c.loop-pointed.pointed-index c.args.blocks.now) _ p (subst (λ xs. Contains xs p) (take_more c.args.blocks.now c.loop-pointed.pointed-index _ c.loop-pointed-test.true) has)) [
      | inl before ↦ c.loop-pointed.invariant p before
      | inr last ↦ subst (λ (q : PointedBlock). HasBlock (g.V.View.seen c.args.view.now) q.block) (sym (only_one _ p last)) (c.in-Some._bytes.now, c.in-Some.ensures.some)
    ]
