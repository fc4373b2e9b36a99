use Rattle.std.proofs.Common.{◌≡◌, ◌*◌, ◌-◌, ◌<◌, ◌/◌, List, ℕ, suc, Some, ap, arith, drop, length, subst, sym, take, ◌∙◌}
use Rattle.std.specs.List.{slice_get}
use Rattle.node_journal.specs.Encoding.{further_block, revoke_chunks, revoke_size}
use Rattle.node_journal.proofs.Heads.{further_at}
use Rattle.node_journal.proofs.blocks.put_revokes.Goals as goal

pub returns-then-index-gt0 : goal.returns-then-index-gt0
returns-then-index-gt0 c =
    let size = length c.args.into.now in
    let one : c.args.index ≡ suc (c.args.index - 1) = omega arith in
    let within : suc (c.args.index - 1) < revoke_size size (length c.args.revokes.now) = let P : ℕ → Type 0 = λ n. n < revoke_size size (length c.args.revokes.now) in subst P one c.requires.index in
    ap (slice_get (revoke_chunks size c.args.jid c.args.revokes.now)) one
    ∙ further_at size c.args.jid c.args.revokes.now (c.args.index - 1) within
    ∙ ap Some (sym (c.put_further.ensures ∙ ap (further_block size c.args.jid) (c.piece_at.ensures ∙ ap (λ (rs : List ℕ). take ((size - 24) / 8) (drop ((c.args.index - 1) * ((size - 24) / 8)) rs)) c.behind-rest.ensures)))
