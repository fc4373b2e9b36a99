use Rattle.std.proofs.Common.{sym, ◌∙◌, ap}
use Rattle.file_tree.specs.Tree.{file}
use Rattle.image_reader.proofs.Baring.{bare_dir, bare_file}
use Rattle.image_reader.proofs.assembly.bare_tree.Goals as goal

pub returns-then-is_directory-clause-bare : goal.returns-then-is_directory-clause-bare
returns-then-is_directory-clause-bare c = bare_dir c.args.inode.now _ (sym c.is_directory.ensures ∙ c.if-is_directory.true) c.dir.ensures

pub returns-clause-bare : goal.returns-clause-bare
returns-clause-bare c = bare_file c.args.inode.now _ _ (sym c.is_directory.ensures ∙ c.if-is_directory.false) c.in_ok-bytes.ensures.content (c.file.ensures ∙ ap file c.new.ensures)
