use Rattle.std.proofs.Common.{◌≡◌, List, ◌-◌, ◌∷◌, drop, sym, subst, ap, ◌∙◌, arith}
use Rattle.cluster_history.specs.History.{lost_count}
use Rattle.run_rules.specs.Follows.{history_of}
use Rattle.trace_text.specs.declared.item.TraceItem.{TraceItem}
use Rattle.run_reports.specs.Losses.{HasLeast}
use Rattle.run_reports.proofs.Counting.{added, few}
use Rattle.run_reports.proofs.Losses.{none_lost, none_yet, one_before}
use Rattle.run_reports.proofs.counts.count_lost.Goals as goal

pub loop-place-init : goal.loop-place-init
loop-place-init c = record {
  least = none_yet c.args.items.now;
  count = λ clients. none_lost clients c.args.items.now;
  few = omega arith;
}

pub loop-place-preserved : goal.loop-place-preserved
loop-place-preserved c =
    let rest : List TraceItem = drop c.loop-place.place c.args.items.now in
    let path : drop (c.loop-place.place - 1) c.args.items.now ≡ c.index-items-place.result ∷ rest =
    one_before c.args.items.now c.loop-place.place c.index-items-place.result (omega (arith, c.loop-place-test.true)) (omega (arith, c.loop-place.invariant.few)) c.index-items-place.is in
    record {
      least = subst (HasLeast c.note_loss.new.table) (sym path) (c.note_loss.ensures rest c.loop-place.invariant.least);
      count = λ clients. added c.loop-place.lost c.from-lost.result (lost_count (history_of clients (c.index-items-place.result ∷ rest))) (lost_count (history_of clients rest)) c.is_lost.result
          (c.loop-place.invariant.count clients) c.from-lost.ensures (c.is_lost.ensures clients rest c.loop-place.invariant.least)
          ∙ ap (λ (l : List TraceItem). lost_count (history_of clients l)) (sym path);
      few = omega (arith, c.loop-place.invariant.few, few c.is_lost.result c.from-lost.result c.from-lost.ensures, c.loop-place-test.true);
    }
