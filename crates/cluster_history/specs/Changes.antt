-- Which calls change the tree, told by the call and its reply alone.
use Rattle.std.specs.Prelude.{◌≡◌, ◌&&◌, Bool, true, false, not}
use Rattle.file_tree.specs.Tree.{Tree}
use Rattle.file_tree.specs.Apply.{Answers}
use Rattle.file_tree.specs.Names.{is_same_path}
use Rattle.file_tree.specs.declared.call.Call.{Call}
use Rattle.file_tree.specs.declared.call.Call.TheVariants as calls
use Rattle.file_tree.specs.declared.reply.Reply.{Reply}
use Rattle.file_tree.specs.declared.reply.Reply.TheVariants as replies
use Rattle.cluster_history.specs.History.{Replied}

-- a create, mkdir, unlink, rmdir, write, truncate or rename, but for a rename of a path to itself
abbrev pub may_change : Call → Bool
may_change (calls.Create p) = true
may_change (calls.Mkdir p) = true
may_change (calls.Unlink p) = true
may_change (calls.Rmdir p) = true
may_change (calls.Write p at new) = true
may_change (calls.Truncate p size) = true
may_change (calls.Rename p q) = not (is_same_path p q)
may_change _ = false

abbrev pub is_ok : Reply → Bool
is_ok replies.Ok = true
is_ok _ = false

-- such a call that was answered Ok
abbrev pub Changes : Replied → Bool
Changes r = is_ok r.reply && may_change r.call

-- every other call leaves the tree as it was, whatever it was answered
abbrev pub OthersLeaveTheTree : Type 0
OthersLeaveTheTree = (call : Call) (reply : Reply) (t t' : Tree) → Answers call t reply t' → Changes (record { call = call; reply = reply }) ≡ false → t' ≡ t
