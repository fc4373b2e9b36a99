use Rattle.std.proofs.Common.{◌≤◌, refl, sym, subst}
use Rattle.growth_steps.proofs.Ending.{end_put, end_content, end_clear, end_put_by, end_left_by}
use Rattle.growth_steps.proofs.Keeping.{kept_by_one}
use Rattle.growth_steps.proofs.Stepping.{on_ok}
use Rattle.growth_steps.proofs.ends.clear_end.Goals as goal

pub returns-then-ends_clear-clause-cleared : goal.returns-then-ends_clear-clause-cleared
returns-then-ends_clear-clause-cleared g c h i file shown high last is_block some ends =
    let within : c.args.at ≤ h.size = subst (λ n. c.args.at ≤ n) (sym shown.size) c.requires.within in (
      end_put h i c.args.at c.args.block file high last is_block some ends within,
      end_content h i c.args.at c.args.block file high last is_block some ends within,
      end_clear h i c.args.at c.args.block file high last is_block some ends within,
      end_left_by h i c.args.at c.args.block file high last is_block some ends within g.V.View.seen c.args.draft.now c.args.draft.now c.args.inode c.requires.there.0 shown c.requires.there.1
          ((c.if-ends_clear.ensures c.requires.there.0 c.requires.there.1).0 refl) refl,
    )

pub returns-clause-cleared : goal.returns-clause-cleared
returns-clause-cleared g c h i file shown high last is_block some ends =
    let within : c.args.at ≤ h.size = subst (λ n. c.args.at ≤ n) (sym shown.size) c.requires.within in
    on_ok c.put_clear.result _ _
    (λ put. (
      end_put h i c.args.at c.args.block file high last is_block some ends within,
      end_content h i c.args.at c.args.block file high last is_block some ends within,
      end_clear h i c.args.at c.args.block file high last is_block some ends within,
      end_put_by h i c.args.at c.args.block file high last is_block some ends within g.V.View.seen c.args.draft.now c.put_clear.new.draft c.args.inode c.requires.there.0 shown c.requires.there.1 put,
    )) (c.put_clear.ensures.put c.requires.there.0 c.requires.there.1)

pub returns-clause-still : goal.returns-clause-still
returns-clause-still g c b has =
    on_ok c.put_clear.result _ _ (λ put. kept_by_one g.V.View.seen c.args.draft.now c.put_clear.new.draft b has c.args.block _ _ _ put) (c.put_clear.ensures.put c.requires.there.0 c.requires.there.1)
