-- The lanes begin as the state, take words side by side, and are joined at the end.
use Rattle.std.proofs.Common.{◌≤◌, [], ◌∷◌, length, ap, ◌∙◌, arith, length-drop}
use Rattle.crc_words.specs.Remainder.{remainder}
use Rattle.crc_words.proofs.TextLemmas.{pending}
use Rattle.crc_words.proofs.LaneLemmas.{row, lanes-begin, lanes-step, lanes-join, take-rest}
use Rattle.crc_words.proofs.divide.advance.Goals as goal

pub loop-rest-init : goal.loop-rest-init
loop-rest-init g c = record {
  room = c.if-bytes-lt32.false;
  value = lanes-begin g.row.POLYNOMIAL c.args.state c.args.bytes.now;
}

pub loop-rest-preserved : goal.loop-rest-preserved
loop-rest-preserved g c =
    let rest = c.loop-rest.rest.now in
    let lanes = row (c.after_word-a.result ∷ (c.after_word-b.result ∷ (c.after_word-c.result ∷ (c.after_word-d.result ∷ [])))) in
    let enough : 64 ≤ length rest = c.loop-rest-test.true in
    record {
      room = omega (arith, ap length (take-rest 32 rest), length-drop 32 rest);
      value =
          ap (pending g.row.POLYNOMIAL lanes) (take-rest 32 rest)
          ∙ lanes-step g.row.POLYNOMIAL c.loop-rest.a c.loop-rest.b c.loop-rest.c c.loop-rest.d _ _ _ _ rest enough
          c.after_word-a.ensures c.after_word-b.ensures c.after_word-c.ensures c.after_word-d.ensures
          ∙ c.loop-rest.invariant.value;
    }

pub returns : goal.returns
returns g c =
    let rest = c.loop-rest.rest.now in
    c.advance_words-2.ensures
    ∙ ap (remainder g.row.POLYNOMIAL c.after_word-all.result) (take-rest 32 rest)
    ∙ lanes-join g.row.POLYNOMIAL c.loop-rest.a c.loop-rest.b c.loop-rest.c c.loop-rest.d _ _ _ _ rest c.loop-rest.invariant.room
    c.after_word.ensures c.after_word-2.ensures c.after_word-3.ensures c.after_word-all.ensures
    ∙ c.loop-rest.invariant.value
