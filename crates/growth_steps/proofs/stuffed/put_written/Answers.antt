use Rattle.std.proofs.Common.{◌≡◌, ◌+◌, ◌∙◌, length, max, drop, false, ap, sym, rules}
use Rattle.std.proofs.lemmas.List.{take_at}
use Rattle.std.specs.FinMap.{insert}
use Rattle.drafts.specs.declared.fate.Fate.TheVariants.{Put}
use Rattle.file_tree.specs.Apply.{overwritten}
use Rattle.growth_steps.specs.Stuffed.{stuffed_bytes, stuffed_in}
use Rattle.growth_steps.proofs.Owning.{block_along}
use Rattle.growth_steps.proofs.Stepping.{on_ok}
use Rattle.growth_steps.proofs.stuffed.put_written.Goals as goal

pub returns-clause-put : goal.returns-clause-put
returns-clause-put g c bytes there =
    let copied : c.in-Some.bytes.items ≡ bytes = search rules in
    let made : c.deref.result.now ≡ stuffed_bytes c.args.dinode.now c.args.at c.args.new.now bytes
    = c.deref.ensures.value ∙ take_at c.write_stuffed.new.block _ c.in-Some.bytes.len (c.write_stuffed.auto.block ∙ c.deref_mut.ensures.len) ∙ c.write_stuffed.ensures.bytes ∙ ap (stuffed_bytes c.args.dinode.now c.args.at c.args.new.now) (c.deref_mut.ensures.value ∙ copied) in
    on_ok c.put.result _ _ (λ is. is ∙ (λ t. record { view = c.args.draft.now.view; fates = insert c.args.draft.now.fates c.args.inode (Put (c.lock_of.ensures t) false (made t)) })) c.put.ensures.ok

pub returns-clause-stuffed : goal.returns-clause-stuffed
returns-clause-stuffed g c bytes there =
    let copied : c.in-Some.bytes.items ≡ bytes = search rules in
    let whole : length c.deref_mut.result.now ≡ (g.V.View.seen c.args.draft.now.view).size = search rules in
    on_ok c.put.result _ _
    (λ is. block_along _ _ _ (λ xs. overwritten c.args.at c.args.new.now xs) _ _ _ _ whole (ap (stuffed_in c.args.dinode.now) (c.deref_mut.ensures.value ∙ copied)) (c.write_stuffed.ensures.bytes ∙ ap (stuffed_bytes c.args.dinode.now c.args.at c.args.new.now) (c.deref_mut.ensures.value ∙ copied)) c.write_stuffed.ensures.stuffed)
    c.put.ensures.ok

pub returns-clause-behind : goal.returns-clause-behind
returns-clause-behind g c bytes there =
    let copied : c.in-Some.bytes.items ≡ bytes = search rules in
    let was : c.deref_mut.result.now ≡ bytes = c.deref_mut.ensures.value ∙ copied in
    let n = 232 + max c.args.dinode.now.size (c.args.at + length c.args.new.now) in
    on_ok c.put.result _ _ (λ is. ap (drop n) (sym (c.write_stuffed.ensures.bytes ∙ ap (stuffed_bytes c.args.dinode.now c.args.at c.args.new.now) was)) ∙ c.write_stuffed.ensures.behind ∙ ap (drop n) was) c.put.ensures.ok
