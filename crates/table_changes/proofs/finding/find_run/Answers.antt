use Rattle.std.proofs.Common.{ℕ, suc, ◌≡◌, ◌-◌, ◌*◌, ◌/◌, ◌^◌, ◌<◌, Option, None, sym, ap, ◌∙◌, subst, arith}
use Rattle.std.specs.Option.{option_map}
use Rattle.std.specs.Prelude.{IfSome}
use Rattle.gfs2_layout.specs.Inode.{Fits, Leads, depth_in, height_in, unit}
use Rattle.glock_names.specs.Steps.{IsDamage}
use Rattle.glock_names.proofs.StepLaws.{answer_at, needed_at}
use Rattle.dinode_tree.proofs.Pieces.{needed_for}
use Rattle.dinode_tree.specs.Reading.{block_at}
use Rattle.dinode_tree.specs.declared.locating.Located.{Located}
use Rattle.dinode_tree.specs.Broken as broken
use Rattle.linear_dirs.proofs.Looked.{handed}
use Rattle.table_files.specs.Pointers.{IsTableBroken, leads_nowhere, of_inode}
use Rattle.table_files.specs.TreePointers.{seen_as}
use Rattle.table_files.proofs.Gets.{block_needed, needed_with, broken_so, bytes_led, found_hole, no_table_header, one_less, seen_shown, unit_carries}
use Rattle.table_changes.proofs.Told.{table_damage, table_told}
use Rattle.table_changes.proofs.finding.find_run.Goals as goal

pub returns-in_err-dinode-clause-damaged : goal.returns-in_err-dinode-clause-damaged
returns-in_err-dinode-clause-damaged g c h table =
    handed c.from_residual.result _ (IsDamage (IsTableBroken h)) c.from_residual.ensures.1 (table_damage h c.in_err-dinode.field-0.0 (c.in_err-dinode.ensures.damaged h table.shown))

pub returns-in_err-located-clause-damaged : goal.returns-in_err-located-clause-damaged
returns-in_err-located-clause-damaged g c h table =
    handed c.from_residual-in_err-located.result _ (IsDamage (IsTableBroken h)) c.from_residual-in_err-located.ensures.1 (table_damage h c.in_err-located.field-0.0 (c.in_err-located.ensures.damaged h table.shown))

pub returns-in-Is-Some-clause-needed : goal.returns-in-Is-Some-clause-needed
returns-in-Is-Some-clause-needed g c h table =
    let v = g.V.View.seen c.args.view.now in
    let t = c.args.table in
    let i = c.args.index in
    let size = c.block_size-size.result in
    let low : i < 2 ^ t.depth = omega (arith, c.requires.few, c.requires.some) in
    let bs = c.block_size-size.ensures.view.block_size in
    let fits : Fits h = answer_at _ _ _ c.in-Is.is (c.in_ok-dinode.ensures.fits h table.shown) in
    let unit_is : size - 24 ≡ unit h = ap (λ n. n - 24) c.block_size-size.ensures.value ∙ sym (unit_carries t v h i table bs fits low) in
    let way = subst (λ (o : Option Located). IfSome o (λ (l : Located). (k : ℕ) × Leads h l.from k 0 (8 * i / (size - 24)) l.block)) c.in-Is-Some.field-0-is (answer_at _ _ _ c.in-Is-Some.is (c.in_ok-located.ensures.leads h table.shown)) in
    let leads : Leads h c.in-Is-Some.located.from way.0 0 (8 * i / unit h) c.in-Is-Some.located.block = subst (λ n. Leads h c.in-Is-Some.located.from way.0 0 (8 * i / n) c.in-Is-Some.located.block) unit_is way.1 in
    needed_with c.table_run.result _ _ _ (λ m is absent. block_needed t v h i table bs fits low m c.in-Is-Some.located.from c.in-Is-Some.located.block way.0 (8 * i / unit h) is absent leads) c.table_run.ensures.needed c.table_run.ensures.absent

pub returns-in-Is-Some-clause-damaged : goal.returns-in-Is-Some-clause-damaged
returns-in-Is-Some-clause-damaged g c h table =
    let v = g.V.View.seen c.args.view.now in
    let t = c.args.table in
    let i = c.args.index in
    let size = c.block_size-size.result in
    let low : i < 2 ^ t.depth = omega (arith, c.requires.few, c.requires.some) in
    let bs = c.block_size-size.ensures.view.block_size in
    let b = c.in-Is-Some.located.block in
    let from = c.in-Is-Some.located.from in
    let fits : Fits h = answer_at _ _ _ c.in-Is.is (c.in_ok-dinode.ensures.fits h table.shown) in
    let way = subst (λ (o : Option Located). IfSome o (λ (l : Located). (k : ℕ) × Leads h l.from k 0 (8 * i / (size - 24)) l.block)) c.in-Is-Some.field-0-is (answer_at _ _ _ c.in-Is-Some.is (c.in_ok-located.ensures.leads h table.shown)) in
    broken_so c.table_run.result _ _ (λ rule x is. of_inode rule x (subst (λ r. broken.IsBroken h r x) (sym is.0) (subst (broken.IsBroken h 1) (sym is.1)
    (no_table_header t v h i table bs fits low from b way.0 (8 * i / (size - 24)) is.2.0 way.1 (bytes_led v h t.directory from way.0 (8 * i / (size - 24)) b is.2.0 table.shown way.1 is.2.1) is.2.2)))) c.table_run.ensures.damaged

pub returns-in-Is-None-clause-damaged : goal.returns-in-Is-None-clause-damaged
returns-in-Is-None-clause-damaged g c h table =
    let v = g.V.View.seen c.args.view.now in
    let t = c.args.table in
    let i = c.args.index in
    let size = c.block_size-size.result in
    let low : i < 2 ^ t.depth = omega (arith, c.requires.few, c.requires.some) in
    let bs = c.block_size-size.ensures.view.block_size in
    let dinode = answer_at _ _ _ c.in-Is.is (c.in_ok-dinode.ensures.found h table.shown) in
    let fits : Fits h = answer_at _ _ _ c.in-Is.is (c.in_ok-dinode.ensures.fits h table.shown) in
    let high : height_in h ≡ suc (height_in h - 1) = one_less (height_in h) (λ z. c.if-dinode-eq0.false (ap (λ d. d.height) dinode ∙ z)) in
    let unit_is : size - 24 ≡ unit h = ap (λ n. n - 24) c.block_size-size.ensures.value ∙ sym (unit_carries t v h i table bs fits low) in
    let at : block_at h (8 * i / unit h) ≡ None = ap (λ n. block_at h (8 * i / n)) (sym unit_is) ∙ sym (answer_at _ _ _ c.in-Is-None.is (c.in_ok-located.ensures.found h table.shown)) ∙ ap (option_map (λ (l : Located). l.block)) c.in-Is-None.field-0-is in
    let hole = found_hole t v h i table bs fits low (height_in h - 1) high at in
    let inside : i < 2 ^ depth_in h = subst (λ n. i < 2 ^ n) table.depth low in
    table_told h c.damaged.result t.directory 14 c.damaged.ensures (subst (IsTableBroken h 14) (sym hole.1) (leads_nowhere i inside (sym hole.0)))

pub returns-in-NeedBlock-2-clause-needed : goal.returns-in-NeedBlock-2-clause-needed
returns-in-NeedBlock-2-clause-needed g c h table =
    let v = g.V.View.seen c.args.view.now in
    let t = c.args.table in
    let i = c.args.index in
    let size = c.block_size-size.result in
    let low : i < 2 ^ t.depth = omega (arith, c.requires.few, c.requires.some) in
    let bs = c.block_size-size.ensures.view.block_size in
    let fits : Fits h = answer_at _ _ _ c.in-Is.is (c.in_ok-dinode.ensures.fits h table.shown) in
    let unit_is : size - 24 ≡ unit h = ap (λ n. n - 24) c.block_size-size.ensures.value ∙ sym (unit_carries t v h i table bs fits low) in
    let index : 8 * i / (size - 24) ≡ 8 * i / unit h = ap (λ n. 8 * i / n) unit_is in
    needed_for v h _ _ 1 0 c.in-NeedBlock-2.missing (λ k is. is ∙ index) (omega arith) (needed_at _ _ _ c.in-NeedBlock-2.is (c.in_ok-located.ensures.needed h table.shown))

pub returns-in-NeedBlock-2-clause-absent : goal.returns-in-NeedBlock-2-clause-absent
returns-in-NeedBlock-2-clause-absent g c =
    let v = g.V.View.seen c.args.view.now in
    let a = c.args.table.directory in
    (needed_at _ _ _ c.in-NeedBlock-2.is (c.in_ok-located.ensures.needed (seen_as v a) (seen_shown c.all_blocks_are_shown.ensures v a))).absent
