use Rattle.std.proofs.Common.{◌≤◌, ◌≡◌, ◌+◌, ◌++◌, [], ◌∷◌, length, take, ap, sym, ◌∙◌, arith}
use Rattle.std.proofs.lemmas.List.{take_more, take_all}
use Rattle.journal_scan.specs.declared.scanning.Sequenced.{Sequenced as Held}
use Rattle.revoke_table.specs.Revokes.{all_revoked}
use Rattle.peer_replay.specs.Plans.{revokes_onto}
use Rattle.peer_replay.proofs.Revoking.{gathered, gathered_more, cancelled}
use Rattle.peer_replay.proofs.homes.gather_revokes.Goals as goal

pub loop-t-preserved : goal.loop-t-preserved
loop-t-preserved c =
    let ts = c.args.transactions.now in
    let i = c.loop-t.t-index in
    let t = c.t-item.result in
    let more : take (i + 1) ts ≡ take i ts ++ t ∷ [] = take_more ts i t (omega (arith, c.loop-t-test.true)) ∙ ap (λ (x : Held). take i ts ++ x ∷ []) (sym c.t-item.is) in
    c.in_ok-add_revokes.ensures (gathered (take i ts) []) c.loop-t.invariant
    ∙ ap (λ l. all_revoked (revokes_onto t.sequence l (gathered (take i ts) []))) c.deref.ensures.value
    ∙ ap all_revoked (sym (ap (λ l. gathered l []) more ∙ gathered_more (take i ts) t []))

pub returns : goal.returns
returns c b s =
    let all : length c.args.transactions.now ≤ c.loop-t.t-index = omega (arith, c.loop-t-test.false) in
    cancelled b s (λ rs. c.later_revokes_cancel.ensures rs b s) c.loop-t.table c.args.transactions.now
    (c.loop-t.invariant ∙ ap (λ l. all_revoked (gathered l [])) (take_all c.loop-t.t-index c.args.transactions.now all))
