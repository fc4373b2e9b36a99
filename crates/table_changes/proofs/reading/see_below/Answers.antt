use Rattle.std.proofs.Common.{sym, subst, arith}
use Rattle.std.specs.Prelude.{Contains}
use Rattle.glock_names.specs.Views.{HasBlock}
use Rattle.glock_names.proofs.StepLaws.{answer_at, needed_at}
use Rattle.dinode_tree.specs.Below.{IsBelow}
use Rattle.dinode_tree.proofs.Pieces.{needed_for}
use Rattle.table_files.specs.TreePointers.{seen_as}
use Rattle.table_files.proofs.Gets.{seen_shown}
use Rattle.table_changes.proofs.Below.{below_needed}
use Rattle.table_changes.proofs.reading.see_below.Goals as goal

pub returns-in-NeedBlock-clause-needed : goal.returns-in-NeedBlock-clause-needed
returns-in-NeedBlock-clause-needed g c = λ h shown no_file. needed_for (g.V.View.seen c.args.view.now) h _ _ 1 0 c.in-NeedBlock.missing (λ k any. any) (omega arith) (needed_at _ _ _ c.in-NeedBlock.is (c.in_ok-blocks.ensures.needed h shown))

pub returns-in-NeedBlock-clause-absent : goal.returns-in-NeedBlock-clause-absent
returns-in-NeedBlock-clause-absent g c =
    let v = g.V.View.seen c.args.view.now in
    (needed_at _ _ _ c.in-NeedBlock.is (c.in_ok-blocks.ensures.needed (seen_as v c.args.directory) (seen_shown c.all_blocks_are_shown.ensures v c.args.directory))).absent

pub returns-in-Some-clause-needed : goal.returns-in-Some-clause-needed
returns-in-Some-clause-needed g c = λ h shown no_file.
    let found = c.in-Some.ensures.missing in
    let led = answer_at _ _ _ c.in-Is.is (c.in_ok-blocks.ensures.led h shown) found.0 (subst (λ xs. Contains xs found.0) c.deref.ensures.value found.1) in
    below_needed (g.V.View.seen c.args.view.now) h c.args.directory found.0.from found.0.block c.in-Some.missing c.block_size-size.ensures.view.block_size shown no_file led found.2 found.3

pub returns-in-None-clause-seen : goal.returns-in-None-clause-seen
returns-in-None-clause-seen g c = λ h shown b below.
    let v = g.V.View.seen c.args.view.now in
    let tells = answer_at _ _ _ c.in-Is.is (c.in_ok-blocks.ensures.all h shown) b below in
    subst (HasBlock v) tells.2 (c.in-None.ensures.seen tells.0 (subst (λ xs. Contains xs tells.0) (sym c.deref.ensures.value) tells.1))

pub returns-in-None-clause-below : goal.returns-in-None-clause-below
returns-in-None-clause-below g c = λ h shown b. (
  λ tells.
      let led = answer_at _ _ _ c.in-Is.is (c.in_ok-blocks.ensures.led h shown) tells.0 tells.1 in
      subst (IsBelow h) tells.2 (tells.0.from, led.0, led.1, led.2, led.3),
  answer_at _ _ _ c.in-Is.is (c.in_ok-blocks.ensures.all h shown) b,
)
