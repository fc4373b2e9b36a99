use Rattle.std.proofs.Common.{◌∙◌, ap, arith}
use Rattle.std.specs.FinMap.{insert}
use Rattle.drafts.specs.Fates.{Drafted}
use Rattle.drafts.specs.declared.fate.Fate.TheVariants.{Freed}
use Rattle.growth_steps.proofs.Stepping.{on_either, on_ok, freed_after}
use Rattle.growth_steps.proofs.pointers.free_block.Goals as goal

pub returns-clause-freed : goal.returns-clause-freed
returns-clause-freed g c h level first file shown start part inside nowhere =
    let there = c.requires.there in
    let put = c.in_ok-put_pointer.ensures.put there.0 there.1 in
    on_ok c.free.result _ _
    (λ is. freed_after g.V.View.seen c.args.draft.now c.free.new.self c.args.inode c.args.pointer.from c.args.pointer.start c.args.pointer.index c.args.block there.0 there.1 h file shown start level first
    (is ∙ ap (λ (d : Drafted _). record d { fates = insert d.fates c.args.block Freed }) put) part inside (λ below j e. nowhere below j (e ∙ omega arith))) c.free.ensures.ok

pub returns-clause-view : goal.returns-clause-view
returns-clause-view g c =
    let put = ap (λ (d : Drafted _). d.view) (c.in_ok-put_pointer.ensures.put c.requires.there.0 c.requires.there.1) in
    on_either c.free.result _ _ _ (λ is. ap (λ (d : Drafted _). d.view) is ∙ put) (λ is. ap (λ (d : Drafted _). d.view) is ∙ put) c.free.ensures.ok c.free.ensures.err
