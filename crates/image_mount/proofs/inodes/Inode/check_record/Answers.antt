use Rattle.std.proofs.Common.{sym, ap, ◌∙◌}
use Rattle.std.specs.Prelude.{if◌then◌else◌}
use Rattle.gfs2_layout.specs.Inode.{head_of}
use Rattle.gfs2_layout.specs.Structures.{is_directory}
use Rattle.gfs2_layout.specs.declared.dinode.Dinode.{Dinode}
use Rattle.image_model.specs.Claims.{every}
use Rattle.image_model.specs.Stands.{kind_of}
use Rattle.image_mount.proofs.Causes.{wrong_kind, wrong_formal}
use Rattle.image_mount.proofs.inodes.Inode.check_record.Goals as goal

pub returns-then-entry-kind-clause-refused : goal.returns-then-entry-kind-clause-refused
returns-then-entry-kind-clause-refused c im a r read format low has of =
    wrong_kind im _ a c.args.self.now.from c.args.self.now.block _ c.args.self.now.dinode c.args.entry.now r c.damaged.ensures read c.requires format low has of c.kind.ensures c.if-entry-kind.true

pub returns-then-entry-self-clause-refused : goal.returns-then-entry-self-clause-refused
returns-then-entry-self-clause-refused c im a r read format low has of =
    wrong_formal im _ a c.args.self.now.from c.args.self.now.block c.args.self.now.dinode c.args.entry.now r c.damaged-then-entry-self.ensures read c.requires format low has of c.if-entry-self.true

pub returns-clause-repeats : goal.returns-clause-repeats
returns-clause-repeats c im read = record {
  kind = c.if-entry-kind.false ∙ c.kind.ensures ∙ ap (λ (d : Dinode). if is_directory d then 4 else 8) read ∙ ap (λ a. kind_of (head_of (every im a))) (sym c.requires);
  number = c.if-entry-self.false ∙ ap (λ (d : Dinode). d.num.number) read ∙ ap (λ a. (head_of (every im a)).number) (sym c.requires);
}
