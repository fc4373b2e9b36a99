use Rattle.std.proofs.Common.{◌≡◌, ◌∙◌, true, sym}
use Rattle.gfs2_layout.specs.Structures.{is_in_use}
use Rattle.dinode_tree.proofs.Dinodes.{lacks}
use Rattle.hash_dirs.proofs.Listed.{name_broken}
use Rattle.hash_dirs.proofs.listing.add_name.Goals as goal

pub returns-then-not-is_name-clause-damaged : goal.returns-then-not-is_name-clause-damaged
returns-then-not-is_name-clause-damaged c h i from s shown leads some has =
    let used : is_in_use c.args.held.now.head ≡ true = sym c.is_in_use.ensures ∙ c.if-not-is_in_use.false in
    name_broken h i from c.args.block s c.args.held.now.head c.args.held.now.name.now c.damaged.result shown leads some has used (sym c.is_dots.ensures ∙ c.if-is_dots.false)
    (lacks c.is_name.result c.is_name.ensures c.if-not-is_name.true) c.damaged.ensures
