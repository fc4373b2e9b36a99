use Rattle.std.proofs.Common.{◌≡◌, ◌+◌, ◌++◌, [], ◌∷◌, take, get_or, ap, sym, ◌∙◌, arith}
use Rattle.std.proofs.lemmas.List.{take_more}
use Rattle.revoke_table.specs.Revokes.{Greatest, all_revoked, with_revoke}
use Rattle.peer_replay.specs.Plans.{revokes_onto}
use Rattle.peer_replay.proofs.Revoking.{onto_more}
use Rattle.peer_replay.proofs.homes.add_revokes.Goals as goal

pub loop-block-preserved : goal.loop-block-preserved
loop-block-preserved c rs is =
    let bs = c.args.blocks.now in
    let i = c.loop-block.block-index in
    let more : take (i + 1) bs ≡ take i bs ++ get_or bs i 0 ∷ [] = take_more bs i 0 (omega (arith, c.loop-block-test.true)) in
    c.in_ok-add.ensures.ok ∙ ap (λ (t : Greatest). with_revoke t (get_or bs i 0) c.args.sequence) (c.loop-block.invariant rs is)
    ∙ ap all_revoked (sym (ap (λ l. revokes_onto c.args.sequence l rs) more ∙ onto_more c.args.sequence (take i bs) (get_or bs i 0) rs))
