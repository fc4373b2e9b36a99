use Rattle.std.proofs.Common.{◌≡◌, ◌∙◌, length, false, ap, rules}
use Rattle.std.proofs.lemmas.List.{take_at}
use Rattle.std.specs.FinMap.{insert}
use Rattle.drafts.specs.declared.fate.Fate.TheVariants.{Put}
use Rattle.file_tree.specs.Apply.{resized}
use Rattle.growth_steps.specs.Stuffed.{resized_bytes, stuffed_in}
use Rattle.growth_steps.proofs.Owning.{block_along}
use Rattle.growth_steps.proofs.Stepping.{on_ok}
use Rattle.growth_steps.proofs.stuffed.put_resized.Goals as goal

pub returns-clause-put : goal.returns-clause-put
returns-clause-put g c bytes there =
    let copied : c.in-Some.bytes.items ≡ bytes = search rules in
    let made : c.deref.result.now ≡ resized_bytes c.args.dinode.now c.args.size bytes
    = c.deref.ensures.value ∙ take_at c.resize_area.new.block _ c.in-Some.bytes.len (c.resize_area.auto.block ∙ c.deref_mut.ensures.len) ∙ c.resize_area.ensures.bytes ∙ ap (resized_bytes c.args.dinode.now c.args.size) (c.deref_mut.ensures.value ∙ copied) in
    on_ok c.put.result _ _ (λ is. is ∙ (λ t. record { view = c.args.draft.now.view; fates = insert c.args.draft.now.fates c.args.inode (Put (c.lock_of.ensures t) false (made t)) })) c.put.ensures.ok

pub returns-clause-stuffed : goal.returns-clause-stuffed
returns-clause-stuffed g c bytes there =
    let copied : c.in-Some.bytes.items ≡ bytes = search rules in
    let whole : length c.deref_mut.result.now ≡ (g.V.View.seen c.args.draft.now.view).size = search rules in
    on_ok c.put.result _ _
    (λ is. block_along _ _ _ (λ xs. resized c.args.size xs) _ _ _ _ whole (ap (stuffed_in c.args.dinode.now) (c.deref_mut.ensures.value ∙ copied)) (c.resize_area.ensures.bytes ∙ ap (resized_bytes c.args.dinode.now c.args.size) (c.deref_mut.ensures.value ∙ copied)) c.resize_area.ensures.stuffed)
    c.put.ensures.ok
