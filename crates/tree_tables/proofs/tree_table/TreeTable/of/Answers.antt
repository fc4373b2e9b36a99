use Rattle.std.proofs.Common.{◌≡◌, ◌*◌, ◌/◌, ◌^◌, ◌<◌, ◌≤◌, sym, ap, ◌∙◌, subst, arith}
use Rattle.std.proofs.Math.Pow.{pow_mono}
use Rattle.gfs2_layout.specs.Device.{IsBlockSize}
use Rattle.gfs2_layout.specs.declared.dinode.Dinode.{Dinode}
use Rattle.glock_names.specs.Steps.{IsDamage}
use Rattle.glock_names.proofs.StepLaws.{answer_at}
use Rattle.hash_dirs.proofs.Looked.{handed}
use Rattle.hash_dirs.specs.Broken.{IsBroken, table_too_small, table_too_large, table_size}
use Rattle.hash_dirs.proofs.Leaves.{damage_of}
use Rattle.tree_tables.proofs.Told.{told_own}
use Rattle.tree_tables.proofs.tree_table.TreeTable.of.Goals as goal

pub returns-in_err-dinode-clause-damaged : goal.returns-in_err-dinode-clause-damaged
returns-in_err-dinode-clause-damaged g c h shown hashed =
    handed c.from_residual.result _ (IsDamage (IsBroken h)) c.from_residual.ensures.1 (damage_of h c.in_err-dinode.field-0.0 (c.in_err-dinode.ensures.damaged h shown))

pub returns-then-dinode-gt15-clause-damaged : goal.returns-then-dinode-gt15-clause-damaged
returns-then-dinode-gt15-clause-damaged g c h shown hashed =
    let dinode = answer_at _ _ _ c.in-Is.is (c.in_ok-dinode.ensures.found h shown) in
    let p : 2 ^ 16 ≤ 2 ^ c.in-Is.dinode.depth = pow_mono {i = 16} {j = c.in-Is.dinode.depth} (omega (arith, c.if-dinode-gt15.true)) in
    let most : IsBlockSize h.size = subst IsBlockSize (sym shown.size) c.block_size.ensures.view.block_size in
    told_own h c.damaged.result c.args.directory 13 shown.own c.damaged.ensures (table_too_large (subst (λ (d : Dinode). 8 * h.size < 2 ^ d.depth) dinode (omega (arith, p, most))))

pub returns-then-count-size-clause-damaged : goal.returns-then-count-size-clause-damaged
returns-then-count-size-clause-damaged g c h shown hashed =
    let dinode = answer_at _ _ _ c.in-Is.is (c.in_ok-dinode.ensures.found h shown) in
    told_own h c.damaged-then-count-size.result c.args.directory 13 shown.own c.damaged-then-count-size.ensures
    (table_too_small (subst (λ (d : Dinode). 2 ^ d.depth < h.size / 16) dinode (omega (arith, c.if-count-size.true, c.pointers_of-count.ensures.value, c.from-size.ensures, c.block_size.ensures.value, shown.size))))

pub returns-then-size-count-clause-damaged : goal.returns-then-size-count-clause-damaged
returns-then-size-count-clause-damaged g c h shown hashed =
    let dinode = answer_at _ _ _ c.in-Is.is (c.in_ok-dinode.ensures.found h shown) in
    told_own h c.damaged-then-size-count.result c.args.directory 13 shown.own c.damaged-then-size-count.ensures
    (table_too_large (subst (λ (d : Dinode). 8 * h.size < 2 ^ d.depth) dinode (omega (arith, c.if-size-count.true, c.pointers_of-count.ensures.value, c.from-size.ensures, c.block_size.ensures.value, shown.size))))

pub returns-then-dinode-count-clause-damaged : goal.returns-then-dinode-count-clause-damaged
returns-then-dinode-count-clause-damaged g c h shown hashed =
    let dinode = answer_at _ _ _ c.in-Is.is (c.in_ok-dinode.ensures.found h shown) in
    told_own h c.damaged-then-dinode-count.result c.args.directory 13 shown.own c.damaged-then-dinode-count.ensures
    (table_size (subst (λ (d : Dinode). d.size ≡ 8 * 2 ^ d.depth → ⊥) dinode (λ e. c.if-dinode-count.true (e ∙ ap (λ n. 8 * n) (sym c.pointers_of-count.ensures.value)))))
