use Rattle.std.proofs.Common.{sym, subst}
use Rattle.std.proofs.lemmas.Result.{err_from_is_err_and}
use Rattle.image_reader.specs.Reading.{image_at, IsTrueOf}
use Rattle.image_reader.specs.declared.blocks.Blocks.{Blocks}
use Rattle.image_reader.proofs.Listed.{get_at}
use Rattle.image_reader.proofs.SystemFaults.{no_journals, jindex_of, entry_claimed, jindex_in}
use Rattle.image_reader.proofs.journals.check_journals.Goals as goal

pub returns-in_default : goal.returns-in_default
returns-in_default c = record { damaged = no_journals c.args.top.now c.args.system.now _ c.damaged.ensures c.requires.tree c.requires.master c.in_default.ensures.none }

pub check_entry-requires-clause-jindex : goal.check_entry-requires-clause-jindex
check_entry-requires-clause-jindex c =
    let at = get_at c.args.system.now c.loop-entry.entry-index c.entry-item.result c.loop-entry-test.true c.entry-item.is in
    let same = (c.requires.tree.named c.loop-entry.entry-index c.entry-item.result at).of_image in
    jindex_in c.args.top.now.block.image c.entry-item.result.inode.block.image c.in-Some.jindex.block.number (sym same)
    (jindex_of c.args.top.now c.args.system.now c.in-Some.jindex c.requires.tree c.requires.master c.in-Some.ensures.some)

pub check_entry-requires-clause-claimed : goal.check_entry-requires-clause-claimed
check_entry-requires-clause-claimed c =
    let at = get_at c.args.system.now c.loop-entry.entry-index c.entry-item.result c.loop-entry-test.true c.entry-item.is in
    entry_claimed c.args.top.now.block.image c.args.top.now c.args.system.now c.loop-entry.entry-index c.entry-item.result c.requires.tree at

pub returns-in_err-check_entry : goal.returns-in_err-check_entry
returns-in_err-check_entry c =
    let at = get_at c.args.system.now c.loop-entry.entry-index c.entry-item.result c.loop-entry-test.true c.entry-item.is in
    let same = (c.requires.tree.named c.loop-entry.entry-index c.entry-item.result at).of_image in
    let p = err_from_is_err_and c.from_residual.result c.from_residual.ensures.1 in
    record { damaged = rw (p.1, p.2) (subst (λ (b : Blocks). IsTrueOf (image_at b) c.in_err-check_entry.field-0.0) same c.in_err-check_entry.ensures.damaged) }
