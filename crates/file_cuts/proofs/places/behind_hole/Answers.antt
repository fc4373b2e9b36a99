use Rattle.std.proofs.Common.{◌≡◌, ◌+◌, ◌*◌, ◌/◌, ◌<◌, sym, subst, mul_comm, arith}
use Rattle.std.proofs.Math.Nat.{lt-mul-div-succ}
use Rattle.dinode_tree.proofs.Spans.{span_some}
use Rattle.file_cuts.proofs.places.behind_hole.Goals as goal

pub nonzero_div-place : goal.nonzero_div-place
nonzero_div-place c = subst (λ n. 0 < n) (sym c.in-Some.ensures.some) (span_some c.args.size c.args.up c.requires.large)

pub returns-in-Some-checked_mul-clause-later : goal.returns-in-Some-checked_mul-clause-later
returns-in-Some-checked_mul-clause-later c =
    let some : 0 < c.in-Some.span = subst (λ n. 0 < n) (sym c.in-Some.ensures.some) (span_some c.args.size c.args.up c.requires.large) in
    let less = lt-mul-div-succ c.args.place some in
    let swap : c.in-Some.span * (c.args.place / c.in-Some.span + 1) ≡ (c.args.place / c.in-Some.span + 1) * c.in-Some.span = mul_comm c.in-Some.span (c.args.place / c.in-Some.span + 1) in
    omega (arith, less, swap, c.in-Some-checked_mul.ensures)
