use Rattle.std.proofs.Common.{◌≤◌, length}
use Rattle.std.specs.Io.KnownBytes.{Consumes}
use Rattle.cluster_program.proofs.input.read_text.Given as goal

abbrev pub invariant-loop-turn : goal.invariant-loop-turn
invariant-loop-turn g l = record {
  read : Consumes (g.S.Source.left l.initial.source) (g.S.Source.left l.source) l.bytes.items;
  turns : l._turn ≤ length l.bytes.items;
  short : length l.bytes.items ≤ 1048576;
  later : g.S.Source.faults l.initial.source ≤ g.S.Source.faults l.source;
}
