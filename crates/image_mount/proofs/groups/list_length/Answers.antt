use Rattle.std.proofs.Common.{inl, inr, sym, ap, ◌∙◌}
use Rattle.gfs2_layout.specs.Structures.{is_directory}
use Rattle.image_mount.proofs.Looks.{file_sized}
use Rattle.image_mount.proofs.Grouping.{wrong_count, wrong_part}
use Rattle.image_mount.proofs.groups.list_length.Goals.{then-is_directory+in_ok-check_directory, else-is_directory, then-count-eq0-via-then-count-eq0, then-count-eq0-via-else-count-eq0+then-count-gt64}
use Rattle.image_mount.proofs.groups.list_length.Goals as goal

pub returns-then-bytes-ne0-clause-refused : goal.returns-then-bytes-ne0-clause-refused
returns-then-bytes-ne0-clause-refused c im l has low at read size right = wrong_part im _ l _ _ c.damaged.ensures has low at read c.if-bytes-ne0.true

pub returns-then-count-eq0-clause-refused : goal.returns-then-count-eq0-clause-refused
returns-then-count-eq0-clause-refused c im l has low at read size right = wrong_count im _ l c.args.inode.now.block c.args.inode.now.dinode c.outside.ensures has right at read c.if-bytes-ne0.false
    (elim c.then-count-eq0.branch [
      | then-count-eq0-via-then-count-eq0 w ↦ inl w.if-count-eq0.true
      | then-count-eq0-via-else-count-eq0+then-count-gt64 w ↦ inr w.if-count-gt64.true
    ])

pub returns-clause-sized : goal.returns-clause-sized
returns-clause-sized c im read of = elim c.if-is_directory.branch [
  | then-is_directory+in_ok-check_directory w ↦ w.in_ok-check_directory.ensures.sized im read of
  | else-is_directory w ↦ file_sized im c.args.inode.now.block (ap is_directory (sym read) ∙ sym c.is_directory.ensures ∙ w.if-is_directory.false)
]
