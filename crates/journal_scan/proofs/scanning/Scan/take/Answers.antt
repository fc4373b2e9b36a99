use Rattle.std.proofs.Common.{◌≡◌, true, false, refl, length, arith}
use Rattle.log_layout.specs.Chunks.{part_of}
use Rattle.journal_scan.specs.Course.{IsFit}
use Rattle.journal_scan.specs.declared.scanning.Scan.{Scan}
use Rattle.journal_scan.proofs.Steps.{takes_other, takes_due, none_found, some_found, all_rest}
use Rattle.journal_scan.proofs.scanning.Scan.take.Goals as goal

pub returns-then-not-branch-clause-bad : goal.returns-then-not-branch-clause-bad
returns-then-not-branch-clause-bad c bs long =
    let off : c.in_ok-add_part.field-0 ≡ false = grind (arith, c.if-not-branch.true) in
    let bad = none_found (part_of c.in-Some.due c.args.block.now) c.in_ok-add_part.field-0 _ c.in_ok-add_part.ensures (λ x m. m.0) off in
    takes_other (length c.args.block.now) c.args.self.now (record { place = c.args.place; bytes = c.args.block.now }) bs c.in-Some.due c.pop_front.new.self.items c.in-Some.ensures.items bad

pub returns-clause-takes : goal.returns-clause-takes
returns-clause-takes c bs long =
    let on : c.in_ok-add_part.field-0 ≡ true = grind (arith, c.if-not-branch.false) in
    let found = some_found (part_of c.in-Some.due c.args.block.now) c.in_ok-add_part.field-0 _ c.in_ok-add_part.ensures on in
    let new : Scan = record { due = c.pop_front.new.self; last = c.args.self.now.last; begun = c.add_part.new.begun; done = c.args.self.now.done } in
    takes_due (length c.args.block.now) c.args.self.now (record { place = c.args.place; bytes = c.args.block.now }) bs c.in-Some.due found.0 new c.in-Some.ensures.items found.1 found.2.1 refl refl

pub returns-clause-fit : goal.returns-clause-fit
returns-clause-fit c = all_rest (IsFit (length c.args.block.now)) c.in-Some.due c.pop_front.new.self.items c.args.self.now.due.items c.in-Some.ensures.items c.requires.fit
