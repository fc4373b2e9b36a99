-- A structure is answered where no check fails.
use Rattle.std.proofs.Common.{◌≡◌, Option, None, Ok, ap, ◌∙◌}
use Rattle.gfs2_layout.specs.declared.fault.LayoutFault.{LayoutFault}
use Rattle.gfs2_layout.specs.Structures.{answer}

pub no_fault : {A : Type 0} (fault : Option LayoutFault) (structure read : A) → None ≡ fault → read ≡ structure → Ok read ≡ answer fault structure
no_fault fault structure read none is = ap Ok is ∙ ap (λ (o : Option LayoutFault). answer o structure) none
