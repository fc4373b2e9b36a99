use Rattle.std.proofs.Common.{ℕ, List, ap, ◌∙◌}
use Rattle.drafts.specs.declared.change.Written.{Written}
use Rattle.logged_calls.specs.Keeping.{with_blocks, without_blocks}
use Rattle.logged_calls.proofs.KeptBlocks.{kept_so, on_ok}
use Rattle.logged_calls.proofs.keeping.keep_change.Goals as goal

pub returns-clause-kept : goal.returns-clause-kept
returns-clause-kept c =
    on_ok c.keep_all.result _ _
    (λ kept. kept_so c.args.view.now c.forget_all.new.view c.keep_all.new.view c.args.change.now c.requires.form
    (c.forget_all.ensures ∙ ap (λ (bs : List ℕ). record c.args.view.now { blocks = without_blocks c.args.view.now.blocks bs }) c.deref.ensures.value)
    (kept ∙ ap (λ (ws : List Written). record c.forget_all.new.view { blocks = with_blocks c.forget_all.new.view.blocks ws }) c.deref-2.ensures.value))
    c.keep_all.ensures.kept
