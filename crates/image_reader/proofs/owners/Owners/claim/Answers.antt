use Rattle.std.proofs.Common.{arith, ap, ◌∙◌, inl, inr}
use Rattle.std.proofs.lemmas.Grind.{common_steps}
use Rattle.std.proofs.lemmas.Option.{gets}
use Rattle.image_reader.specs.declared.image.ImageFault.TheVariants.{Damaged}
use Rattle.image_reader.proofs.InodeFaults.{lacking}
use Rattle.image_reader.proofs.owners.Owners.claim.Goals as goal

pub returns-else-is_same-clause-clash : goal.returns-else-is_same-clause-clash
returns-else-is_same-clause-clash c = record {
  old = c.in-Some.old;
  there = grind (arith, common_steps, gets);
  other = lacking _ _ c.if-is_same.false c.is_same.ensures;
  told = elim c.rule_of.ensures [
    | inl three ↦ inl (c.damaged.ensures ∙ ap (Damaged c.args.block) three.0, three.1)
    | inr both ↦ inr (c.damaged.ensures ∙ ap (Damaged c.args.block) both.0, both.1)
  ];
}
