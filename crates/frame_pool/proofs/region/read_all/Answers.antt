use Rattle.std.proofs.Common.{◌≡◌, ◌+◌, suc, None, set, get_or, length, ap, sym, ◌∙◌, arith, replicate}
use Rattle.frame_pool.specs.Places.{somes}
use Rattle.frame_pool.proofs.Regions.{emptied, emptied-some, emptied-set, emptied-all, full_again, somes-map}
use Rattle.frame_pool.proofs.region.read_all.Goals as goal

pub loop-index-init : goal.loop-index-init
loop-index-init c = (λ i. c.args.cells.now.at, full_again c.args.cells.now.slots c.requires.1.0 c.requires.1.1)

pub read-requires : goal.read-requires
read-requires c =
    let inv = c.loop-index.invariant in let i = c.loop-index.index in let v = somes c.args.cells.now.slots in
    let many : length v ≡ c.args.len = ap length (ap somes c.requires.1.1 ∙ somes-map c.requires.1.0) ∙ c.requires.1.2 in
    let there = emptied-some i v (omega (arith, c.loop-index-test.true, many)) in
    (c.requires.0 ∙ sym inv.0, (there.0, ap (λ l. get_or l i None) inv.1 ∙ there.1))

pub loop-index-preserved : goal.loop-index-preserved
loop-index-preserved c =
    let inv = c.loop-index.invariant in let i = c.loop-index.index in let v = somes c.args.cells.now.slots in
    let many : length v ≡ c.args.len = ap length (ap somes c.requires.1.1 ∙ somes-map c.requires.1.0) ∙ c.requires.1.2 in
    let next : suc i ≡ i + 1 = omega arith in
    (c.read.ensures.slots.0 ∙ inv.0, c.read.ensures.slots.1 ∙ ap (λ l. set l i None) inv.1 ∙ emptied-set i v (omega (arith, c.loop-index-test.true, many)) ∙ ap (λ k. emptied k v) next)

pub returns : goal.returns
returns c =
    let inv = c.loop-index.invariant in let v = somes c.args.cells.now.slots in
    let many : length v ≡ c.args.len = ap length (ap somes c.requires.1.1 ∙ somes-map c.requires.1.0) ∙ c.requires.1.2 in
    let all : c.loop-index.index ≡ length v = omega (arith, c.loop-index-test.false, c.loop-index.auto.index-end, many) in
    (inv.0, inv.1 ∙ ap (λ k. emptied k v) all ∙ emptied-all v ∙ ap (λ k. replicate k None) many)
