use Rattle.std.proofs.Common.{List, ap, sym, subst, ◌∙◌}
use Rattle.std.specs.Prelude.{map}
use Rattle.log_layout.specs.Live.{is_cancelled}
use Rattle.journal_scan.specs.Said.{says_at}
use Rattle.journal_scan.specs.declared.scanning.Sequenced.{Sequenced as Held}
use Rattle.peer_replay.proofs.Entries.{IsOver, over_start, over_more}
use Rattle.peer_replay.proofs.homes.gather_home.Goals as goal

pub loop-t-init : goal.loop-t-init
loop-t-init c =
    subst (λ (l : List Held). IsOver c.args.transactions.items c.new-home.result l) (sym c.from_vec-left.ensures.items)
    (over_start c.args.transactions.items c.new-home.result c.new-home.ensures.empty)

pub loop-t-preserved : goal.loop-t-preserved
loop-t-preserved c =
    over_more c.args.transactions.items c.pop_front.new.self.items c.loop-t.left.items c.in-Some.t c.loop-t.home c.put_live.new.home c.in_ok-revokes.revokes
    c.loop-t.invariant c.in-Some.ensures.items c.in_ok-put_live.ensures.by_block c.in_ok-put_live.ensures.over
    (λ b s. c.in_ok-revokes.ensures b s ∙ ap (λ (l : List Held). is_cancelled (map says_at l) b s) c.deref.ensures.value)
