use Rattle.std.proofs.Common.{◌∙◌, ap, sym, Some}
use Rattle.std.specs.FinMap as map
use Rattle.std.specs.Option.{option_copied}
use Rattle.lone_view.specs.Seeing.{Lone}
use Rattle.lone_view.proofs.Kept.{get_kept}
use Rattle.lone_view.proofs.view.LoneViewView.block.Goals as goal

pub returns-in-Some-clause-some : goal.returns-in-Some-clause-some
returns-in-Some-clause-some c = ap (λ (n : Lone). map.get n.blocks c.args.block) (sym c.self.view_is) ∙ get_kept _ c.args.block ∙ sym c.get.ensures.value ∙ ap option_copied c.in-Some.is ∙ ap (λ (x : _). Some x) (sym c.bytes.ensures)

pub returns-in-None-clause-none : goal.returns-in-None-clause-none
returns-in-None-clause-none c = ap (λ (n : Lone). map.get n.blocks c.args.block) (sym c.self.view_is) ∙ get_kept _ c.args.block ∙ sym c.get.ensures.value ∙ ap option_copied c.in-None.is
