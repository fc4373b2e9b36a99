use Rattle.std.proofs.Common.{sym, arith}
use Rattle.image_model.proofs.JournalNames.{digit_name}
use Rattle.image_mount.proofs.jindex.journal_name.Goals as goal

pub returns : goal.returns
returns c = sym (digit_name c.args.j (omega (arith, c.requires)))
