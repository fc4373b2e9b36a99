use Rattle.std.proofs.Common.{inl, inr, sym, ◌∙◌}
use Rattle.growth_laws.proofs.Places.{size_large}
use Rattle.file_fills.proofs.Counted.{needed_new, needed_more}
use Rattle.file_fills.proofs.Seeing.{over_in}
use Rattle.file_fills.proofs.needing.need_on_new.Goals as goal

pub returns-then-adds_first-clause-found : goal.returns-then-adds_first-clause-found
returns-then-adds_first-clause-found c h file w high =
    let added = c.adds_first.ensures.yes c.if-adds_first.true in
    needed_more h c.args.write.now.at c.args.write.now.end c.args.level c.places_over-first.result.0 c.places_over-first.result.1 (size_large h.size file.block_size) c.places_over-first.ensures.order
    (over_in c.args.write.now.size h.size c.args.write.now.at c.args.write.now.end c.args.level _ _ w.size c.places_over-first.ensures.over) high (sym w.content ∙ added.0) added.1

pub returns-else-adds_first-clause-found : goal.returns-else-adds_first-clause-found
returns-else-adds_first-clause-found c h file w high =
    needed_new h c.args.write.now.at c.args.write.now.end c.args.level c.places_over-first.result.0 c.places_over-first.result.1 (size_large h.size file.block_size) c.places_over-first.ensures.order
    (over_in c.args.write.now.size h.size c.args.write.now.at c.args.write.now.end c.args.level _ _ w.size c.places_over-first.ensures.over) high
    (elim (c.adds_first.ensures.no c.if-adds_first.false) [
      | inl plain ↦ inl (sym w.content ∙ plain)
      | inr covered ↦ inr covered
    ])
