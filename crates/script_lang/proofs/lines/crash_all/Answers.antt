use Rattle.std.proofs.Common.{◌≡◌, ◌≤◌, ◌+◌, ◌^◌, arith}
use Rattle.std.proofs.Math.Pow.{pow_mono}
use Rattle.script_lang.proofs.lines.crash_all.Goals as goal

pub overflow_sub-nodes : goal.overflow_sub-nodes
overflow_sub-nodes c =
    let nodes = c.script.inside.nodes in
    let least : 2 ^ 1 ≤ 2 ^ (nodes + 1) = pow_mono {i = 1} {j = nodes + 1} (omega arith) in
    let value : c.bit_of-nodes.result ≡ 2 ^ (nodes + 1) = c.bit_of-nodes.ensures in
    omega (arith, least, value)
