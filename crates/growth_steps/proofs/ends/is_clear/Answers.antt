use Rattle.std.proofs.Common.{◌≡◌, ◌-◌, ◌∙◌, length, take, drop, sym, ap}
use Rattle.std.proofs.lemmas.List.{length-drop}
use Rattle.std.proofs.Math.Seq.{take-length}
use Rattle.growth_steps.proofs.Ending.{clear_part}
use Rattle.growth_steps.proofs.ends.is_clear.Goals as goal

pub returns : goal.returns
returns c =
    let whole : take (length c.args.bytes.now - c.args.at) (drop c.args.at c.args.bytes.now) ≡ drop c.args.at c.args.bytes.now
    = ap (λ n. take n (drop c.args.at c.args.bytes.now)) (sym (length-drop c.args.at c.args.bytes.now)) ∙ take-length (drop c.args.at c.args.bytes.now) in
    let tail = clear_part c.args.bytes.now _ c.args.at c.requires whole in
    (λ is. tail.0 (c.are_zeros.ensures.0 is), λ clear. c.are_zeros.ensures.1 (tail.1 clear))
