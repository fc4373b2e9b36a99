-- A call that isn't answered Ok.
use Rattle.std.proofs.Common.{◌≡◌, false, ap}
use Rattle.std.specs.Prelude.{◌&&◌}
use Rattle.cluster_history.specs.Changes.{Changes, is_ok, may_change}
use Rattle.file_tree.specs.declared.call.Call.{Call}
use Rattle.file_tree.specs.declared.reply.Reply.{Reply}

-- it changes no tree
pub no_change : (c : Call) (r : Reply) → is_ok r ≡ false → Changes (record { call = c; reply = r }) ≡ false
no_change c r e = ap (λ b. b && may_change c) e
