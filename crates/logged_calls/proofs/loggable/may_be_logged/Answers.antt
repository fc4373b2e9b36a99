use Rattle.std.proofs.Common.{rules, sym, subst, arith}
use Rattle.std.specs.List.{All}
use Rattle.logged_calls.specs.Adding.{IsBlockOfLog}
use Rattle.logged_calls.proofs.loggable.may_be_logged.Goals as goal

pub returns : goal.returns
returns c = (
  (λ e. record {
    some = search rules;
    few = omega (arith, c.if-count-from.false, c.from.ensures, c.len.ensures, c.len-2.ensures);
    blocks = subst (All IsBlockOfLog) c.deref.ensures.value (c.are_blocks_of_log.ensures.0 e);
  }),
  (λ may. c.are_blocks_of_log.ensures.1 (subst (All IsBlockOfLog) (sym c.deref.ensures.value) may.blocks)),
)
