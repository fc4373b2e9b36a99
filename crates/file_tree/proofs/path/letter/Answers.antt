use Rattle.std.proofs.Common.{rules, sym}
use Rattle.file_tree.proofs.PathLaws.{read-escape, read-plain}
use Rattle.file_tree.proofs.path.letter.Goals as goal

pub returns-in-Some-clause-read : goal.returns-in-Some-clause-read
returns-in-Some-clause-read c start name =
    read-escape start name c.args.at c.args.text.now c.in-Some.byte c.in-37.len_at_least (search rules) (c.in-Some.ensures.value)

pub returns-else-is_escaped_byte-clause-read : goal.returns-else-is_escaped_byte-clause-read
returns-else-is_escaped_byte-clause-read c start name =
    read-plain start name c.args.at c.args.text.now c.requires.some c.requires.inside (sym (c.if-is_escaped_byte.ensures))
