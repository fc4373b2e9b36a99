use Rattle.std.proofs.Common.{◌≡◌, true, false, refl, length, ap, sym, ◌∙◌, arith}
use Rattle.log_layout.specs.Chunks.{chunk_in}
use Rattle.log_layout.specs.Transactions.{may_follow}
use Rattle.journal_scan.specs.declared.scanning.Scan.{Scan}
use Rattle.journal_scan.proofs.Steps.{takes_stray, takes_header, takes_none, takes_chunk, none_found, some_found}
use Rattle.journal_scan.proofs.scanning.Scan.take_free.Goals as goal

pub returns-then-not-may_follow-clause-bad : goal.returns-then-not-may_follow-clause-bad
returns-then-not-may_follow-clause-bad c bs long =
    let stray : may_follow c.args.self.now.last c.in-Some.header.sequence ≡ false = sym c.may_follow.ensures ∙ grind (arith, c.if-not-may_follow.true) in
    takes_stray (length c.args.block.now) c.args.self.now (record { place = c.args.place; bytes = c.args.block.now }) bs c.in-Some.header c.requires.none (sym c.in-Some.ensures) stray

pub returns-then-not-branch-clause-bad : goal.returns-then-not-branch-clause-bad
returns-then-not-branch-clause-bad c bs long =
    let off : c.in_ok-begin_chunk-in-None.field-0 ≡ false = grind (arith, c.if-not-branch.true) in
    let bad = none_found (chunk_in (length c.args.block.now) c.args.left c.args.block.now) c.in_ok-begin_chunk-in-None.field-0 _ c.in_ok-begin_chunk-in-None.ensures.chunk (λ x m. m.0) off in
    takes_none (length c.args.block.now) c.args.self.now (record { place = c.args.place; bytes = c.args.block.now }) bs c.requires.none (sym c.in-None.ensures)
    (ap (λ n. chunk_in (length c.args.block.now) n c.args.block.now) long ∙ bad)

pub returns-in_ok-end-in-Some-clause-takes : goal.returns-in_ok-end-in-Some-clause-takes
returns-in_ok-end-in-Some-clause-takes c bs long =
    let follows : may_follow c.args.self.now.last c.in-Some.header.sequence ≡ true = sym c.may_follow.ensures ∙ grind (arith, c.if-not-may_follow.false) in
    let ended = c.in_ok-end-in-Some.ensures.ended in
    takes_header (length c.args.block.now) c.args.self.now (record { place = c.args.place; bytes = c.args.block.now }) bs c.in-Some.header c.end.new.self c.requires.none (sym c.in-Some.ensures) follows ended.0 ended.1 ended.2 ended.3

pub returns-else-not-branch-clause-takes : goal.returns-else-not-branch-clause-takes
returns-else-not-branch-clause-takes c bs long =
    let on : c.in_ok-begin_chunk-in-None.field-0 ≡ true = grind (arith, c.if-not-branch.false) in
    let found = some_found (chunk_in (length c.args.block.now) c.args.left c.args.block.now) c.in_ok-begin_chunk-in-None.field-0 _ c.in_ok-begin_chunk-in-None.ensures.chunk on in
    let new : Scan = record { due = c.begin_chunk.new.due; last = c.args.self.now.last; begun = c.begin_chunk.new.begun; done = c.args.self.now.done } in
    takes_chunk (length c.args.block.now) c.args.self.now (record { place = c.args.place; bytes = c.args.block.now }) bs found.0 new c.requires.none (sym c.in-None.ensures)
    (ap (λ n. chunk_in (length c.args.block.now) n c.args.block.now) long ∙ found.1) found.2.1 found.2.2 refl refl
