use Rattle.std.proofs.Common.{◌≡◌, ◌%◌, ◌/◌, ◌<◌, ◌≢◌, arith}
use Rattle.image_model.specs.Rules.{part_of_entry, too_many}
use Rattle.image_reader.proofs.InodeFaults.{told_of, said}
use Rattle.image_reader.proofs.tree.check_entries.Goals as goal

pub returns-then-rindex-ne0-clause-damaged : goal.returns-then-rindex-ne0-clause-damaged
returns-then-rindex-ne0-clause-damaged c =
    let rindex = c.args.rindex.now in
    told_of rindex.block _ 18 c.damaged.ensures (part_of_entry rindex.block.number c.requires (said rindex (λ d. d.size % 96 ≢ 0) c.if-rindex-ne0.true))

pub returns-then-rindex-clause-damaged : goal.returns-then-rindex-clause-damaged
returns-then-rindex-clause-damaged c =
    let rindex = c.args.rindex.now in
    let count = rindex.block.image.count in
    let many = said rindex (λ d. count < d.size / 96) c.if-rindex.true in
    told_of rindex.block _ 18 c.damaged-then-rindex.ensures (too_many rindex.block.number c.requires (omega (arith, many)))

pub returns-clause-whole : goal.returns-clause-whole
returns-clause-whole c = said c.args.rindex.now (λ d. d.size % 96 ≡ 0) c.if-rindex-ne0.false
