use Rattle.std.proofs.Common.{◌≡◌, ◌+◌, ◌*◌, ◌≤◌, ◌<◌, List, ap, arith, drop, length, sym, take, ◌∙◌}
use Rattle.std.specs.Prelude.{if◌then◌else◌}
use Rattle.std.proofs.lemmas.List.{length-take}
use Rattle.std.proofs.lemmas.Option.{get_or_from_slice_get}
use Rattle.log_layout.specs.Chunks.{Logged}
use Rattle.node_journal.specs.Encoding.{begins_with_magic, content_numbers, with_numbers}
use Rattle.node_journal.proofs.Heads.{byte_of_test, piece_goes_on, two_numbers}
use Rattle.node_journal.proofs.NumbersPut.{with_none}
use Rattle.node_journal.proofs.Pieces.{none_left}
use Rattle.node_journal.proofs.blocks.put_content_head.Goals as goal

pub is_escaped-requires : goal.is_escaped-requires
is_escaped-requires g c =
    let all = g.E.Entries.logged c.args.entries.now in
    let here = piece_goes_on all c.args.first c.args.count c.loop-i.i c.requires.there c.loop-i-test.true in
    let place = c.args.first + c.loop-i.i in
    let inside : place < length all = omega (arith, c.requires.there) in
    let whole : length (here.0).bytes ≡ length c.args.into.now =
    ap (λ (e : Logged). length e.bytes) (sym (get_or_from_slice_get all place (here.0) (here.0) (here.1))) ∙ c.requires.whole place (here.0) inside in
    omega (arith, ap length (c.bytes.ensures (here.0) (here.1)), whole)

pub loop-i-preserved : goal.loop-i-preserved
loop-i-preserved g c =
    let all = g.E.Entries.logged c.args.entries.now in
    let here = piece_goes_on all c.args.first c.args.count c.loop-i.i c.requires.there c.loop-i-test.true in
    let piece = take c.args.count (drop c.args.first all) in
    two_numbers (here.0) c.loop-i.i c.block.result c.from.result (content_numbers (drop c.loop-i.i piece)) (content_numbers (drop (c.loop-i.i + 1) piece)) c.loop-i.into c.put_u64.new.bytes c.put_u64-in-loop-i.new.bytes
    (ap content_numbers (here.2)) (c.block.ensures (here.0) (here.1))
    (c.from.ensures ∙ byte_of_test c.is_escaped.result ∙ ap (λ b. if b then 1 else 0) (c.is_escaped.ensures ∙ ap begins_with_magic (c.bytes.ensures (here.0) (here.1))))
    c.put_u64.ensures.bytes c.put_u64-in-loop-i.ensures.bytes
    ∙ c.loop-i.invariant

pub returns : goal.returns
returns g c =
    let piece = take c.args.count (drop c.args.first (g.E.Entries.logged c.args.entries.now)) in
    let whole : length piece ≤ c.loop-i.i = omega (arith, length-take c.args.count (drop c.args.first (g.E.Entries.logged c.args.entries.now))) in
    sym (with_none (72 + 16 * c.loop-i.i) c.loop-i.into)
    ∙ ap (λ (es : List Logged). with_numbers (72 + 16 * c.loop-i.i) (content_numbers es) c.loop-i.into) (sym (none_left piece c.loop-i.i whole))
    ∙ c.loop-i.invariant
    ∙ ap (with_numbers 72 (content_numbers piece)) c.put_head.ensures.bytes
