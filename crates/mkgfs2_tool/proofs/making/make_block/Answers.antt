use Rattle.std.proofs.Common.{sym, ◌∙◌}
use Rattle.std.proofs.lemmas.Result.{on_ok_weaker}
use Rattle.std.proofs.lemmas.Slice.Eq.{bytes_eq-Decides}
use Rattle.mkgfs2_tool.proofs.DiskLaws.{same_disk, found_right, found_wrong, unequal_bytes}
use Rattle.mkgfs2_tool.proofs.making.make_block.Goals as goal

pub returns-then-eq-clause-made : goal.returns-then-eq-clause-made
returns-then-eq-clause-made g c = λ p old list wanted within made.
    found_right p old _ _ list _ _ c.args.block c.look.new.found c.args.wanted.now c.in_ok-look.ensures.same c.in_ok-look.ensures.list c.in_ok-look.ensures.bytes wanted within
    ((bytes_eq-Decides c.look.new.found c.args.wanted.now).0 (sym c.eq.ensures ∙ c.if-eq.true)) made

pub returns-clause-made : goal.returns-clause-made
returns-clause-made g c = on_ok_weaker c.put.result
    (λ puts p old list wanted within made. puts p old list wanted
    (found_wrong p old _ list _ c.args.block c.look.new.found c.args.wanted.now c.in_ok-look.ensures.bytes wanted within (unequal_bytes c.look.new.found c.args.wanted.now (sym c.eq.ensures ∙ c.if-eq.false)) made)
    within (same_disk p old _ _ list _ _ c.args.block c.in_ok-look.ensures.same c.in_ok-look.ensures.list made))
    c.put.ensures.made

pub returns-clause-begun : goal.returns-clause-begun
returns-clause-begun g c = λ p old list wanted within made. c.put.ensures.begun p old list wanted
    (found_wrong p old _ list _ c.args.block c.look.new.found c.args.wanted.now c.in_ok-look.ensures.bytes wanted within (unequal_bytes c.look.new.found c.args.wanted.now (sym c.eq.ensures ∙ c.if-eq.false)) made)
    within (same_disk p old _ _ list _ _ c.args.block c.in_ok-look.ensures.same c.in_ok-look.ensures.list made)
