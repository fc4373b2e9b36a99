use Rattle.std.proofs.Common.{ℕ, ◌+◌, ◌-◌, ◌%◌, ◌<◌, ◌≤◌, ◌∙◌, sym, ap, subst, arith}
use Rattle.image_reader.specs.declared.blocks.Blocks.{Blocks}
use Rattle.gfs2_layout.specs.Inode.{leaf_in}
use Rattle.image_reader.specs.Leaves.{HasClaim}
use Rattle.image_model.specs.Owners.{Chained}
use Rattle.image_reader.specs.Reading.{held, image_at}
use Rattle.image_reader.proofs.Chains.{first_claim, first_placed, no_leaf_there, low_index, missing, headed_run, hash_claim, start_whole, same_bits, leaf_there, claim_at, run_some}
use Rattle.image_reader.proofs.Inside.{block_inside}
use Rattle.image_reader.proofs.Spans.{aligned_run}
use Rattle.image_reader.proofs.WalkFaults.{beyond}
use Rattle.image_reader.proofs.walk.Walk.bucket.Goals as goal

pub entry_block-requires-clause-small : goal.entry_block-requires-clause-small
entry_block-requires-clause-small c = low_index c.args.i c.args.table.now.depth c.args.table.now.deep c.requires.within

pub returns-then-number-eq0-clause-damaged : goal.returns-then-number-eq0-clause-damaged
returns-then-number-eq0-clause-damaged c =
    no_leaf_there c.args.self.now.image c.args.visit.now.inode c.args.table.now c.args.i c.in_ok-by.by c.pointer-number.result _ c.requires.leaves.going.visited.same c.requires.hashed c.requires.table c.requires.within
    c.in_ok-by.ensures.block c.pointer-number.ensures c.if-number-eq0.true c.damaged.ensures c.in_ok-by.ensures.inside

pub leads_to-requires : goal.leads_to-requires
leads_to-requires c =
    let some = run_some c.run-run.result (c.args.table.now.depth - c.in_ok-leaf.leaf.depth) c.run-run.ensures in
    let start : ℕ = c.args.i - c.args.i % c.run-run.result in
    aligned_run start c.run-run.result c.args.table.now.depth c.in_ok-leaf.leaf.depth c.run-run.ensures (omega (arith, c.requires.within)) (start_whole c.args.i c.run-run.result some)

pub returns-in_default-clause-damaged : goal.returns-in_default-clause-damaged
returns-in_default-clause-damaged c =
    beyond c.args.self.now _ c.in_ok-by.by c.pointer-number.result _ c.damaged-in_default.ensures (subst (λ (i : Blocks). c.in_ok-by.by < i.count) c.requires.leaves.going.visited.same c.in_ok-by.ensures.inside)
    (first_claim c.args.self.now.image c.args.visit.now c.args.table.now c.args.i c.in_ok-by.by c.pointer-number.result c.requires.leaves.going.visited c.requires.hashed c.requires.table c.requires.within
    c.in_ok-by.ensures.block c.pointer-number.ensures c.if-number-eq0.false) c.in_default.ensures.none

pub read_leaf-requires-clause-leaf : goal.read_leaf-requires-clause-leaf
read_leaf-requires-clause-leaf c =
    leaf_there c.args.self.now.image c.args.visit.now.inode c.in_ok-by.by c.pointer-number.result c.in-Some.block.number _ 0 c.requires.leaves.going.visited.same c.in-Some.ensures.some.0
    (first_claim c.args.self.now.image c.args.visit.now c.args.table.now c.args.i c.in_ok-by.by c.pointer-number.result c.requires.leaves.going.visited c.requires.hashed c.requires.table c.requires.within
    c.in_ok-by.ensures.block c.pointer-number.ensures c.if-number-eq0.false)

pub returns-then-not-leads_to-clause-damaged : goal.returns-then-not-leads_to-clause-damaged
returns-then-not-leads_to-clause-damaged c =
    let no = c.leads_to.ensures.no c.if-not-leads_to.true in
    let some = run_some c.run-run.result (c.args.table.now.depth - c.in_ok-leaf.leaf.depth) c.run-run.ensures in
    let start : ℕ = c.args.i - c.args.i % c.run-run.result in
    let room = aligned_run start c.run-run.result c.args.table.now.depth c.in_ok-leaf.leaf.depth c.run-run.ensures (omega (arith, c.requires.within)) (start_whole c.args.i c.run-run.result some) in
    missing c.args.self.now.image c.args.visit.now.inode c.args.table.now c.args.i no.0 c.pointer-number.result c.run-run.result c.in_ok-leaf.leaf _ c.requires.leaves.going.visited.same c.requires.hashed
    c.requires.table c.requires.within (omega (arith, room, no.1.1)) c.pointer-number.ensures c.if-number-eq0.false (c.in_ok-leaf.ensures.read ∙ ap (leaf_in (held c.args.visit.now.inode)) c.in-Some.ensures.some.0) c.run-run.ensures
    (same_bits c.args.i no.0 c.run-run.result some no.1.0 no.1.1) no.1.2 c.damaged-then-not-leads_to.ensures
    (subst (λ n. n < c.args.visit.now.inode.block.image.count) c.in-Some.ensures.some.0 (block_inside c.in-Some.block c.args.visit.now.inode.block.image (c.in-Some.ensures.some.1 ∙ sym c.requires.leaves.going.visited.same)))

pub head-requires-clause-inside : goal.head-requires-clause-inside
head-requires-clause-inside c = subst (λ (i : Blocks). c.in_ok-by.by < i.count) c.requires.leaves.going.visited.same c.in_ok-by.ensures.inside

pub head-requires-clause-claimed : goal.head-requires-clause-claimed
head-requires-clause-claimed c =
    claim_at (image_at c.args.self.now.image) c.in_ok-by.by c.pointer-number.result c.in-Some.block.number (Chained c.args.visit.now.inode.block.number c.first_hash_of.result 0) c.in-Some.ensures.some.0
    (hash_claim c.args.self.now.image c.args.visit.now.inode c.args.table.now c.args.i c.in_ok-by.by c.pointer-number.result c.run-run.result c.first_hash_of.result c.in_ok-leaf.leaf c.requires.table
    c.pointer-number.ensures (c.in_ok-leaf.ensures.read ∙ ap (leaf_in (held c.args.visit.now.inode)) c.in-Some.ensures.some.0) c.run-run.ensures c.first_hash_of.ensures
    (first_claim c.args.self.now.image c.args.visit.now c.args.table.now c.args.i c.in_ok-by.by c.pointer-number.result c.requires.leaves.going.visited c.requires.hashed c.requires.table c.requires.within
    c.in_ok-by.ensures.block c.pointer-number.ensures c.if-number-eq0.false))

pub head-requires-clause-placed : goal.head-requires-clause-placed
head-requires-clause-placed c =
    let some = run_some c.run-run.result (c.args.table.now.depth - c.in_ok-leaf.leaf.depth) c.run-run.ensures in
    let start : ℕ = c.args.i - c.args.i % c.run-run.result in
    let low : start ≤ start = omega arith in
    let high : start < start + c.run-run.result = omega (arith, some) in
    first_placed c.args.self.now.image c.args.visit.now.inode c.args.table.now c.args.i c.pointer-number.result c.in-Some.block.number c.run-run.result c.first_hash_of.result c.in_ok-leaf.leaf
    c.requires.leaves.going.visited.same c.requires.table c.in_ok-leaf.ensures.low c.args.table.now.deep c.run-run.ensures c.first_hash_of.ensures
    (c.leads_to.ensures.yes c.if-not-leads_to.false start low high) c.in-Some.ensures.some.0

pub returns-clause-headed : goal.returns-clause-headed
returns-clause-headed c j low high =
    let some = run_some c.run-run.result (c.args.table.now.depth - c.in_ok-leaf.leaf.depth) c.run-run.ensures in
    let rest : c.args.i % c.run-run.result < c.run-run.result = omega (arith, some) in
    let start_low : c.args.i - c.args.i % c.run-run.result ≤ j = omega (arith, low) in
    let start_high : j < c.args.i - c.args.i % c.run-run.result + c.run-run.result = omega (arith, high, rest, low) in
    let P : ℕ → Type 0 = λ n. HasClaim c.head.new.self.owners.entries.items n (Chained c.args.visit.now.inode.block.number c.first_hash_of.result 0) in
    headed_run c.head.new.self c.args.visit.now c.args.table.now c.args.i j c.pointer-number.result c.run-run.result c.first_hash_of.result c.in_ok-leaf.leaf c.requires.table c.pointer-number.ensures
    (c.in_ok-leaf.ensures.read ∙ ap (leaf_in (held c.args.visit.now.inode)) c.in-Some.ensures.some.0) c.run-run.ensures c.first_hash_of.ensures
    (same_bits c.args.i j c.run-run.result some start_low start_high) (c.leads_to.ensures.yes c.if-not-leads_to.false j start_low start_high)
    (subst P c.in-Some.ensures.some.0 c.in_ok-head.ensures.claimed)

pub returns-clause-within : goal.returns-clause-within
returns-clause-within c =
    let some = run_some c.run-run.result (c.args.table.now.depth - c.in_ok-leaf.leaf.depth) c.run-run.ensures in
    let start : ℕ = c.args.i - c.args.i % c.run-run.result in
    let room = aligned_run start c.run-run.result c.args.table.now.depth c.in_ok-leaf.leaf.depth c.run-run.ensures (omega (arith, c.requires.within)) (start_whole c.args.i c.run-run.result some) in
    let rest : c.args.i % c.run-run.result < c.run-run.result = omega (arith, some) in
    omega (arith, room, rest)
