use Rattle.std.proofs.Common.{sym, subst, ◌∙◌}
use Rattle.gfs2_layout.specs.Headers.{HasHeader}
use Rattle.image_mount.proofs.Causes.{has, lacks}
use Rattle.image_mount.proofs.LeafCauses.{head_well, leaf_deep, leaf_format, leaf_head, leaf_header}
use Rattle.image_mount.proofs.leaves.read_head.Goals as goal

pub returns-then-not-has_header-clause-refused : goal.returns-then-not-has_header-clause-refused
returns-then-not-has_header-clause-refused c im a same format inside depth leaf =
    leaf_header im _ a c.args.number format inside leaf c.damaged.ensures
    (subst (λ bytes. ¬ (HasHeader 6 600 bytes)) (sym same) (lacks c.has_header.result c.has_header.ensures c.if-not-has_header.true))

pub returns-in_default-clause-refused : goal.returns-in_default-clause-refused
returns-in_default-clause-refused c im a same format inside depth leaf =
    leaf_format im _ a c.args.number format inside leaf c.args.bytes.now c.damaged-in_default.ensures same c.requires (has c.has_header.result c.has_header.ensures c.if-not-has_header.false)
    (λ l e. c.in_default.not-Ok l (c.read.ensures ∙ e))

pub returns-then-leaf-depth-clause-refused : goal.returns-then-leaf-depth-clause-refused
returns-then-leaf-depth-clause-refused c im a same format inside depth leaf =
    leaf_deep im _ a c.args.number format inside leaf c.args.depth c.in-Ok.leaf c.damaged-then-leaf-depth.ensures (leaf_head im c.args.number c.args.bytes.now c.in-Ok.leaf _ same c.in-Ok.is c.read.ensures) depth
    c.if-leaf-depth.true

pub returns-clause-found : goal.returns-clause-found
returns-clause-found c im same = leaf_head im c.args.number c.args.bytes.now c.in-Ok.leaf _ same c.in-Ok.is c.read.ensures

pub returns-clause-well : goal.returns-clause-well
returns-clause-well c im a same depth =
    head_well im a c.args.number c.args.depth c.args.bytes.now c.in-Ok.leaf same (has c.has_header.result c.has_header.ensures c.if-not-has_header.false) (sym c.in-Ok.is ∙ c.read.ensures)
    (leaf_head im c.args.number c.args.bytes.now c.in-Ok.leaf _ same c.in-Ok.is c.read.ensures) depth c.if-leaf-depth.false
