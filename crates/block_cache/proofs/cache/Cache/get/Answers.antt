use Rattle.std.proofs.Common.{◌∙◌, ap, sym, Some}
use Rattle.std.specs.Prelude.{option_map}
use Rattle.std.specs.FinMap.{get}
use Rattle.finite_maps.proofs.Seen.{get-numbers}
use Rattle.block_cache.specs.declared.cache.Cell.{Cell}
use Rattle.block_cache.proofs.cache.Cache.get.Goals as goal

pub returns-in-Some : goal.returns-in-Some
returns-in-Some c = ap Some c.as_slice.ensures ∙ ap (option_map (λ (x : Cell). x.bytes)) (c.in-Some.ensures.value ∙ sym (get-numbers _ _))
    ∙ (λ i. option_map (λ (x : Cell). x.bytes) (get (c.self.view_is i) c.args.block))

pub returns-in-None : goal.returns-in-None
returns-in-None c = ap (option_map (λ (x : Cell). x.bytes)) (c.in-None.ensures.value ∙ sym (get-numbers _ _))
    ∙ (λ i. option_map (λ (x : Cell). x.bytes) (get (c.self.view_is i) c.args.block))
