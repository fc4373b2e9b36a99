-- Worked rows of the definitions, which the checker computes.
use Rattle.std.proofs.Common.{◌≡◌, ℕ, List, [], ◌∷◌, refl}
use Rattle.std.specs.Prelude.{codes}
use Rattle.file_tree.specs.Tree.{file, dir, none, entry}
use Rattle.file_tree.specs.declared.call.Call.TheVariants as calls
use Rattle.file_tree.specs.declared.reply.Kind.TheVariants.{File}
use Rattle.file_tree.specs.declared.reply.Reply.TheVariants as replies
use Rattle.cluster_history.specs.declared.Item.{Item}
use Rattle.cluster_history.specs.declared.Item.TheVariants as item
use Rattle.cluster_history.specs.History.{alive, lost_count, tree_of}

abbrev x : List (List ℕ)
x = codes "x" ∷ []

abbrev create : Item
create = item.Call 1 0 1 (calls.Create x) replies.Ok

abbrev stat : Item
stat = item.Call 2 1 1 (calls.Stat x) (replies.Stat File 0)

-- a crash of node 1 takes out its call that isn't kept, and no call of another node
row_lost : alive (create ∷ item.Lost 1 0 ∷ []) ≡ []
row_lost = refl

row_kept : alive (create ∷ item.Lost 1 1 ∷ []) ≡ record { call = calls.Create x; reply = replies.Ok } ∷ []
row_kept = refl

row_other : alive (create ∷ stat ∷ item.Lost 2 0 ∷ []) ≡ record { call = calls.Create x; reply = replies.Ok } ∷ []
row_other = refl

-- a loss takes out no later call
row_later : alive (item.Lost 1 0 ∷ create ∷ []) ≡ record { call = calls.Create x; reply = replies.Ok } ∷ []
row_later = refl

row_count : lost_count (create ∷ stat ∷ item.Lost 1 0 ∷ []) ≡ 1
row_count = refl

row_tree : tree_of (create ∷ stat ∷ item.Lost 1 0 ∷ []) (dir none) ≡ dir none
row_tree = refl

row_tree_kept : tree_of (create ∷ stat ∷ []) (dir none) ≡ dir (entry (codes "x") (file []) none)
row_tree_kept = refl
