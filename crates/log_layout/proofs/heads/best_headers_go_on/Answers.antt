use Rattle.std.proofs.Common.{◌∙◌, ◌≡◌, ◌+◌, suc, ap, arith}
use Rattle.log_layout.specs.Journal.{accepted, best_from, better}
use Rattle.log_layout.proofs.BestHeaders.{best_more}
use Rattle.log_layout.proofs.heads.best_headers_go_on.Goals as goal

pub returns : goal.returns
returns c ring n =
    let e : n + 1 ≡ suc n = omega arith in
    let z : 0 + n ≡ n = omega arith in
    ap (best_from ring 0) e ∙ best_more ring 0 n ∙ ap (λ q. better (best_from ring 0 n) (accepted q (ring.at q))) z
