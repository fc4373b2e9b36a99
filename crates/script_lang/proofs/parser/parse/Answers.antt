use Rattle.std.proofs.Common.{sym, subst, arith}
use Rattle.script_lang.specs.Grammar.{ScriptRead}
use Rattle.script_lang.specs.Reading.{IsRefusal}
use Rattle.script_lang.specs.Words.{lines_in}
use Rattle.script_lang.proofs.ScriptLaws.{here, read-more}
use Rattle.script_lang.proofs.WellFormedLaws.{so_far-more}
use Rattle.script_lang.proofs.parser.parse.Goals as goal

pub returns-in-Err-clause-bad : goal.returns-in-Err-clause-bad
returns-in-Err-clause-bad c =
    let l = c.loop-line in
    let line = c.in-Some.line.now in
    let after = c.in-Some.after.now in
    subst (λ (r : ScriptRead). IsRefusal r c.in-Err.refusal) (sym (here c.args.text.now l.script l.number l.rest.now line after l.invariant.read c.in-Some.ensures.line c.in-Some.ensures.place.1))
    (c.in-Err.ensures (lines_in after))

pub loop-line-preserved : goal.loop-line-preserved
loop-line-preserved c =
    let l = c.loop-line in
    let line = c.in-Some.line.now in
    let after = c.in-Some.after.now in
    let read = c.in_default-next_line.ensures in
    record {
      shorter = omega (arith, l.invariant.shorter, c.in-Some.ensures.place.1);
      few = omega (arith, read.0);
      read = read-more c.args.text.now l.script l.number l.rest.now line after l.invariant.read c.in-Some.ensures.line c.in-Some.ensures.place.1 c.next_line.new.script c.in-Some.ensures.place.2 read.2;
      form = so_far-more l.number l.script c.next_line.new.script _ l.invariant.form read.1;
    }
