use Rattle.std.proofs.Common.{◌≡◌, ◌+◌, ◌-◌}
use Rattle.script_lang.specs.Words.{words_in, words_behind, column_of}
use Rattle.script_lang.proofs.parser.column.Given as goal

abbrev pub invariant-loop-taken : goal.invariant-loop-taken
invariant-loop-taken l = l.before + column_of (l.word - l._taken) (words_behind l.words) ≡ column_of l.word (words_in l.line)
