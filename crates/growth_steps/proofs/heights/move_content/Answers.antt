use Rattle.std.proofs.Common.{◌≡◌, ◌+◌, ◌≤◌, ◌∙◌, length, sym, ap, rules, arith}
use Rattle.growth_steps.specs.Heights.{moved_bytes}
use Rattle.growth_steps.proofs.Moving.{moved_by, moved_whole, put_by}
use Rattle.growth_steps.proofs.Stepping.{on_ok}
use Rattle.growth_steps.proofs.heights.move_content.Goals as goal

pub content_with-requires : goal.content_with-requires
content_with-requires g c = let whole : length c.deref.result.now ≡ (g.V.View.seen c.args.draft.now.view).size = search rules in omega (arith, c.requires.fits, whole)

pub put-requires : goal.put-requires
put-requires g c =
    let whole : length c.deref.result.now ≡ (g.V.View.seen c.args.draft.now.view).size = search rules in
    let fits : 232 + c.args.dinode.now.size ≤ length c.deref.result.now = omega (arith, c.requires.fits, whole) in
    ap length c.deref-2.ensures.value ∙ ap length c.in_ok-content.ensures ∙ moved_whole c.args.dinode.now.size c.deref.result.now fits ∙ whole ∙ sym (ap (λ v. (g.V.View.seen v).size) c.in_ok-put_led.ensures.view)

pub returns-clause-put : goal.returns-clause-put
returns-clause-put g c bytes there =
    let copied : c.in-Some.bytes.items ≡ bytes = search rules in
    on_ok c.put.result _ _
    (λ is. put_by c.args.draft.now c.put_led.new.draft c.put.new.self c.lock_of.result c.args.inode c.args.block c.args.dinode.now bytes c.deref-2.result.now (c.in_ok-put_led.ensures.put bytes there) is c.lock_of.ensures
    (c.deref-2.ensures.value ∙ c.in_ok-content.ensures ∙ ap (moved_bytes c.args.dinode.now.size) (c.deref.ensures.value ∙ copied))) c.put.ensures.ok

pub returns-clause-moved : goal.returns-clause-moved
returns-clause-moved g c h bytes file shown d_is has fresh there =
    let copied : c.in-Some.bytes.items ≡ bytes = search rules in
    on_ok c.put.result _ _
    (λ is. moved_by g.V.View.seen c.args.draft.now c.put_led.new.draft c.put.new.self c.lock_of.result c.args.inode c.args.block c.args.dinode.now bytes c.deref-2.result.now there
    (c.in_ok-put_led.ensures.put bytes there) is c.lock_of.ensures (c.deref-2.ensures.value ∙ c.in_ok-content.ensures ∙ ap (moved_bytes c.args.dinode.now.size) (c.deref.ensures.value ∙ copied))
    (c.in_ok-put_led.ensures.led bytes there) h file shown d_is has fresh) c.put.ensures.ok
