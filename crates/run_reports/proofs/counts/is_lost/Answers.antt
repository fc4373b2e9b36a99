use Rattle.std.proofs.Common.{◌≡◌, ◌+◌, ◌<◌, ◌^◌, ◌∷◌, refl, sym, subst, rules}
use Rattle.std.specs.Prelude.{if◌then◌else◌, nat_lt, slice_index}
use Rattle.cluster_history.specs.History.{lost_count}
use Rattle.run_rules.specs.Follows.{history_of}
use Rattle.trace_text.specs.declared.item.TraceItem.{TraceItem}
use Rattle.run_reports.proofs.Losses.{counts_one}
use Rattle.run_reports.proofs.counts.is_lost.Goals as goal

pub returns-in-Call : goal.returns-in-Call
returns-in-Call c clients rest has =
    let lost = nat_lt (slice_index c.args.table.now c.in-Call.node) c.in-Call.number in
    let inside : c.in-Call.node < 256 = search rules in
    let small : c.in-Call.number < 2 ^ 64 = search rules in
    subst (λ (i : TraceItem). lost_count (history_of clients (i ∷ rest)) ≡ (if lost then 1 else 0) + lost_count (history_of clients rest)) (sym c.in-Call.is)
    (counts_one clients c.args.table.now rest c.in-Call.node c.in-Call.number c.in-Call.client c.in-Call.call c.in-Call.reply lost has inside small refl)
