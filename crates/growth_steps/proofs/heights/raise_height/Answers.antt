use Rattle.std.proofs.Common.{◌≡◌, ◌≤◌, ◌∙◌, length, sym, ap, rules, arith}
use Rattle.growth_steps.specs.Heights.{raised_bytes}
use Rattle.growth_steps.proofs.Rising.{raised_by, raised_whole, put_by}
use Rattle.growth_steps.proofs.Stepping.{on_ok}
use Rattle.growth_steps.proofs.heights.raise_height.Goals as goal

pub indirect_with-requires : goal.indirect_with-requires
indirect_with-requires g c = let whole : length c.deref.result.now ≡ (g.V.View.seen c.args.draft.now.view).size = search rules in omega (arith, c.requires.room, whole)

pub put-requires : goal.put-requires
put-requires g c =
    let whole : length c.deref.result.now ≡ (g.V.View.seen c.args.draft.now.view).size = search rules in
    let large : 232 ≤ length c.deref.result.now = omega (arith, c.requires.room, whole) in
    ap length c.deref-2.ensures.value ∙ ap length c.in_ok-indirect.ensures ∙ raised_whole c.deref.result.now large ∙ whole ∙ sym (ap (λ v. (g.V.View.seen v).size) c.in_ok-put_led.ensures.view)

pub returns-clause-put : goal.returns-clause-put
returns-clause-put g c bytes there =
    let copied : c.in-Some.bytes.items ≡ bytes = search rules in
    on_ok c.put.result _ _
    (λ is. put_by c.args.draft.now c.put_led.new.draft c.put.new.self c.lock_of.result c.args.inode c.args.block c.args.dinode.now bytes c.deref-2.result.now (c.in_ok-put_led.ensures.put bytes there) is c.lock_of.ensures
    (c.deref-2.ensures.value ∙ c.in_ok-indirect.ensures ∙ ap raised_bytes (c.deref.ensures.value ∙ copied))) c.put.ensures.ok

pub returns-clause-raised : goal.returns-clause-raised
returns-clause-raised g c h level bytes file shown d_is can fresh there =
    let copied : c.in-Some.bytes.items ≡ bytes = search rules in
    on_ok c.put.result _ _
    (λ is. raised_by g.V.View.seen c.args.draft.now c.put_led.new.draft c.put.new.self c.lock_of.result c.args.inode c.args.block level c.args.dinode.now bytes c.deref-2.result.now there
    (c.in_ok-put_led.ensures.put bytes there) is c.lock_of.ensures (c.deref-2.ensures.value ∙ c.in_ok-indirect.ensures ∙ ap raised_bytes (c.deref.ensures.value ∙ copied)) (c.in_ok-put_led.ensures.led bytes there)
    h file shown d_is can fresh) c.put.ensures.ok
