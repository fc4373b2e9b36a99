use Rattle.std.proofs.Common.{◌≡◌, ◌∙◌, ◌≤◌, ap, sym, length, arith}
use Rattle.std.specs.Prelude.{◌==◌}
use Rattle.std.specs.FinMap.{insert}
use Rattle.drafts.specs.Fates.{Drafted}
use Rattle.drafts.specs.declared.fate.Fate.TheVariants.{Put}
use Rattle.growth_steps.specs.New.{new_bytes}
use Rattle.growth_steps.proofs.Stepping.{on_either, on_ok, new_length, filled_after}
use Rattle.growth_steps.proofs.pointers.fill_hole.Goals as goal

pub put-requires : goal.put-requires
put-requires g c =
    let put = c.in_ok-put_pointer.ensures.put c.requires.there.0 c.requires.there.1 in
    let view : (g.V.View.seen c.put_pointer.new.draft.view).size ≡ (g.V.View.seen c.args.draft.now.view).size = ap (λ (d : Drafted _). (g.V.View.seen d.view).size) put in
    let size : c.block_size-size.result ≡ (g.V.View.seen c.args.draft.now.view).size = c.block_size-size.ensures.value in
    let large : 24 ≤ c.block_size-size.result = omega (arith, c.block_size-size.ensures.view.block_size, size) in
    ap length c.deref.ensures.value ∙ ap length c.in_ok-bytes.ensures ∙ new_length c.block_size-size.result c.args.level large ∙ size ∙ sym view

pub returns-clause-filled : goal.returns-clause-filled
returns-clause-filled g c h first file shown start hole within unused some inside =
    let there = c.requires.there in
    let put = c.in_ok-put_pointer.ensures.put there.0 there.1 in
    let size : c.block_size-size.result ≡ (g.V.View.seen c.args.draft.now.view).size = c.block_size-size.ensures.value in
    let bytes : c.deref.result.now ≡ new_bytes (g.V.View.seen c.args.draft.now.view).size c.args.level = c.deref.ensures.value ∙ c.in_ok-bytes.ensures ∙ ap (λ n. new_bytes n c.args.level) size in
    on_ok c.put.result _ _
    (λ is. filled_after g.V.View.seen c.args.draft.now c.put.new.self c.args.inode c.args.pointer.from c.args.pointer.start c.args.pointer.index c.args.block there.0 there.1 h file shown start c.args.level first
    (is ∙ (λ t. record { view = (put t).view; fates = insert (put t).fates c.args.block (Put (c.lock_of.ensures t) (c.args.level == 0) (bytes t)) })) hole within unused some inside (omega (arith, c.ranges.block))) c.put.ensures.ok

pub returns-in_err-bytes-clause-view : goal.returns-in_err-bytes-clause-view
returns-in_err-bytes-clause-view g c = ap (λ (d : Drafted _). d.view) (c.in_ok-put_pointer.ensures.put c.requires.there.0 c.requires.there.1)

pub returns-clause-view : goal.returns-clause-view
returns-clause-view g c =
    let put = ap (λ (d : Drafted _). d.view) (c.in_ok-put_pointer.ensures.put c.requires.there.0 c.requires.there.1) in
    on_either c.put.result _ _ _ (λ is. ap (λ (d : Drafted _). d.view) is ∙ put) (λ is. ap (λ (d : Drafted _). d.view) is ∙ put) c.put.ensures.ok c.put.ensures.err
