use Rattle.std.proofs.Common.{length, sym, ap, ◌∙◌, arith}
use Rattle.log_layout.specs.Chunks.{Chunk, chunk_in, dues, first_revokes}
use Rattle.log_layout.specs.Journal.{accepted}
use Rattle.journal_scan.proofs.Numbered.{step_passed, step_header, step_none, step_named, step_other, some_header, none_accepted}
use Rattle.journal_scan.proofs.entries.NumberSearch.take.Goals as goal

pub returns-then-self-gt0 : goal.returns-then-self-gt0
returns-then-self-gt0 c bs long =
    step_passed (length c.args.block.now) c.args.number c.args.self.now.found (record { place = c.args.place; bytes = c.args.block.now }) bs c.args.self.now.passed (omega (arith, c.if-self-gt0.true))

pub returns-then-is_some : goal.returns-then-is_some
returns-then-is_some c bs long =
    step_header (length c.args.block.now) c.args.number c.args.self.now.found (record { place = c.args.place; bytes = c.args.block.now }) bs c.args.self.now.passed (omega (arith, c.if-self-gt0.false))
    (some_header c.accepted.result (accepted c.args.place c.args.block.now) c.accepted.ensures (sym c.is_some.ensures ∙ c.if-is_some.true))

pub returns-in_default : goal.returns-in_default
returns-in_default c bs long =
    step_none (length c.args.block.now) c.args.number c.args.self.now.found (record { place = c.args.place; bytes = c.args.block.now }) bs c.args.self.now.passed (omega (arith, c.if-self-gt0.false))
    (none_accepted c.accepted.result (accepted c.args.place c.args.block.now) c.accepted.ensures (sym c.is_some.ensures ∙ c.if-is_some.false))
    (ap (λ n. chunk_in (length c.args.block.now) n c.args.block.now) long ∙ c.in_default.ensures)

pub returns-then-has_entry : goal.returns-then-has_entry
returns-then-has_entry c bs long =
    let d = c.in-Some.descriptor in
    let size = length c.args.block.now in
    let chunk : Chunk = record { due = dues d.kind size d.entries c.args.block.now; revokes = first_revokes d.kind size d.entries c.args.block.now } in
    step_named size c.args.number c.args.self.now.found (record { place = c.args.place; bytes = c.args.block.now }) bs c.args.self.now.passed (omega (arith, c.if-self-gt0.false))
    (none_accepted c.accepted.result (accepted c.args.place c.args.block.now) c.accepted.ensures (sym c.is_some.ensures ∙ c.if-is_some.false))
    chunk (ap (λ n. chunk_in size n c.args.block.now) long ∙ c.in-Some.ensures.1) c.due_count-self.result (c.due_count-self.ensures c.args.block.now) (sym c.has_entry.ensures ∙ c.if-has_entry.true)

pub returns-else-has_entry : goal.returns-else-has_entry
returns-else-has_entry c bs long =
    let d = c.in-Some.descriptor in
    let size = length c.args.block.now in
    let chunk : Chunk = record { due = dues d.kind size d.entries c.args.block.now; revokes = first_revokes d.kind size d.entries c.args.block.now } in
    step_other size c.args.number c.args.self.now.found (record { place = c.args.place; bytes = c.args.block.now }) bs c.args.self.now.passed (omega (arith, c.if-self-gt0.false))
    (none_accepted c.accepted.result (accepted c.args.place c.args.block.now) c.accepted.ensures (sym c.is_some.ensures ∙ c.if-is_some.false))
    chunk (ap (λ n. chunk_in size n c.args.block.now) long ∙ c.in-Some.ensures.1) c.due_count-self.result (c.due_count-self.ensures c.args.block.now) (sym c.has_entry.ensures ∙ c.if-has_entry.false)
