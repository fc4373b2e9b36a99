use Rattle.std.proofs.Common.{◌+◌, ◌*◌, ◌≤◌, List, ap, arith, drop, length, map, sym, take, ◌∙◌}
use Rattle.std.proofs.lemmas.List.{length-take}
use Rattle.log_layout.specs.Chunks.{Logged}
use Rattle.node_journal.specs.Encoding.{with_numbers}
use Rattle.node_journal.proofs.Heads.{one_number, piece_goes_on}
use Rattle.node_journal.proofs.NumbersPut.{with_none}
use Rattle.node_journal.proofs.Pieces.{none_left}
use Rattle.node_journal.proofs.blocks.put_metadata_head.Goals as goal

pub loop-i-preserved : goal.loop-i-preserved
loop-i-preserved g c =
    let all = g.E.Entries.logged c.args.entries.now in
    let here = piece_goes_on all c.args.first c.args.count c.loop-i.i c.requires.there c.loop-i-test.true in
    let piece = take c.args.count (drop c.args.first all) in
    one_number 72 (here.0) c.loop-i.i c.block.result (map (λ (e : Logged). e.block) (drop c.loop-i.i piece)) (map (λ (e : Logged). e.block) (drop (c.loop-i.i + 1) piece)) c.loop-i.into c.put_u64.new.bytes
    (ap (λ (es : List Logged). map (λ (e : Logged). e.block) es) (here.2)) (c.block.ensures (here.0) (here.1)) c.put_u64.ensures.bytes
    ∙ c.loop-i.invariant

pub returns : goal.returns
returns g c =
    let piece = take c.args.count (drop c.args.first (g.E.Entries.logged c.args.entries.now)) in
    let whole : length piece ≤ c.loop-i.i = omega (arith, length-take c.args.count (drop c.args.first (g.E.Entries.logged c.args.entries.now))) in
    sym (with_none (72 + 8 * c.loop-i.i) c.loop-i.into)
    ∙ ap (λ (es : List Logged). with_numbers (72 + 8 * c.loop-i.i) (map (λ (e : Logged). e.block) es) c.loop-i.into) (sym (none_left piece c.loop-i.i whole))
    ∙ c.loop-i.invariant
    ∙ ap (with_numbers 72 (map (λ (e : Logged). e.block) piece)) c.put_head.ensures.bytes
