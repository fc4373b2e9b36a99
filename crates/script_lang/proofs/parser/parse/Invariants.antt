use Rattle.std.proofs.Common.{◌≤◌, length}
use Rattle.script_lang.proofs.ScriptLaws.{ReadSoFar}
use Rattle.script_lang.proofs.WellFormedLaws.{IsSoFar}
use Rattle.script_lang.proofs.parser.parse.Given as goal

abbrev pub invariant-loop-line : goal.invariant-loop-line
invariant-loop-line l = record {
  shorter : length l.rest ≤ length l.text;
  few : l.number ≤ 10001;
  read : ReadSoFar l.text l.script l.number l.rest;
  form : IsSoFar l.number l.script;
}

abbrev pub decreases-loop-line : goal.decreases-loop-line
decreases-loop-line l = length l.rest
