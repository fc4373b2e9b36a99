use Rattle.std.proofs.Common.{ap, ◌∙◌, subst}
use Rattle.std.specs.Prelude.{Contains}
use Rattle.nested_drafts.proofs.Over.{told_put}
use Rattle.name_moves.proofs.joining.put_part.Goals as goal

pub put_blocks-requires : goal.put_blocks-requires
put_blocks-requires g c w there =
    let told = told_put c.args.part.fates w (subst (λ l. Contains l w) (c.deref.ensures.value ∙ c.in_ok-change.ensures.blocks) there) in
    c.requires.whole w.block told.0 told.1 w.bytes told.2 ∙ ap (λ x. (g.V.View.seen x).size) c.requires.view
