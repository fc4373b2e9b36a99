use Rattle.std.proofs.Common.{◌∙◌, Option, ap, sym}
use Rattle.std.specs.FinMap as map
use Rattle.drafts.specs.declared.fate.Fate.{Fate}
use Rattle.drafts.specs.Fates.{Drafted, block_with}
use Rattle.drafts.proofs.Fates.{get_fates, some_so, none_so}
use Rattle.drafts.proofs.draft.DraftView.block.Goals as goal

pub returns-in-Some-clause-some : goal.returns-in-Some-clause-some
returns-in-Some-clause-some g c =
    ap (λ (o : Option Fate). block_with o ((g.V.View.seen c.args.self.now.view).block_at c.args.block))
    (ap (λ (d : Drafted _). map.get d.fates c.args.block) (sym c.self.view_is) ∙ get_fates _ c.args.block ∙ sym c.get.ensures.value)
    ∙ c.in-Some.ensures.some ((g.V.View.seen c.args.self.now.view).block_at c.args.block)

pub returns-in-None-clause-some : goal.returns-in-None-clause-some
returns-in-None-clause-some g c = some_so c.block.result _ (
    ap (λ (o : Option Fate). block_with o ((g.V.View.seen c.args.self.now.view).block_at c.args.block))
    (ap (λ (d : Drafted _). map.get d.fates c.args.block) (sym c.self.view_is) ∙ get_fates _ c.args.block ∙ sym c.get.ensures.value)
    ∙ c.in-None.ensures.none ((g.V.View.seen c.args.self.now.view).block_at c.args.block)
    ∙ ap (λ (d : Drafted _). (g.V.View.seen d.view).block_at c.args.block) (sym c.self.view_is)
    ) c.block.ensures.some

pub returns-in-None-clause-none : goal.returns-in-None-clause-none
returns-in-None-clause-none g c = none_so c.block.result _ (
    ap (λ (o : Option Fate). block_with o ((g.V.View.seen c.args.self.now.view).block_at c.args.block))
    (ap (λ (d : Drafted _). map.get d.fates c.args.block) (sym c.self.view_is) ∙ get_fates _ c.args.block ∙ sym c.get.ensures.value)
    ∙ c.in-None.ensures.none ((g.V.View.seen c.args.self.now.view).block_at c.args.block)
    ∙ ap (λ (d : Drafted _). (g.V.View.seen d.view).block_at c.args.block) (sym c.self.view_is)
    ) c.block.ensures.none
