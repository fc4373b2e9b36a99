use Rattle.std.proofs.Common.{sym, ap, ◌∙◌}
use Rattle.gfs2_layout.specs.declared.dinode.Dinode.{Dinode}
use Rattle.image_journals.proofs.Names.{is_hashed, is_linear}
use Rattle.image_journals.proofs.naming.add_named.Goals as goal

pub returns-then-is_hashed : goal.returns-then-is_hashed
returns-then-is_hashed c h is own read same =
    c.add_hashed.ensures h is own (is_hashed h c.args.dinode.now read is.directory (sym c.is_hashed.ensures ∙ c.if-is_hashed.true)) (ap (λ (d : Dinode). d.depth) read)

pub returns : goal.returns
returns c h is own read same =
    c.add_linear.ensures h is.sound.inode is.directory (is_linear h c.args.dinode.now read (sym c.is_hashed.ensures ∙ c.if-is_hashed.false)) same
