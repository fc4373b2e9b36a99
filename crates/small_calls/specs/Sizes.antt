-- How many blocks a call writes.
use Rattle.std.specs.Prelude.{ℕ, ◌≡◌, ◌<◌, ◌≤◌, Bool, List, length}
use Rattle.std.specs.List.{All}
use Rattle.file_tree.specs.Names.{last_of}
use Rattle.file_tree.specs.Tree.{Tree}
use Rattle.file_tree.specs.declared.call.Call.{Call}
use Rattle.file_tree.specs.declared.call.Call.TheVariants as calls
use Rattle.file_tree.specs.declared.reply.Reply.{Reply}
use Rattle.call_locks.specs.WantLaws.{path_of}
use Rattle.drafts.specs.declared.change.Change.{Change}
use Rattle.file_calls.specs.Answers.{IsAnswered}
use Rattle.glock_names.specs.Views.{IsView, Seen}
use Rattle.image_changes.specs.Does.{Does}
use Rattle.image_model.specs.Flat.{Path}
use Rattle.image_model.specs.Image.{Image}
use Rattle.image_model.specs.Owners.{Owners}
use Rattle.image_model.specs.Stands.{Layout}
use Rattle.small_changes.specs.Counting.{IsOfProfile, WritesAtMost, most_bytes}

-- A call as a script has it: it writes at most 16,384 bytes, and the last names of its paths are of bytes.
pub record IsOfScript (call : Call) : Type 0 where
  pub short : (path : Path) (at : ℕ) (new : List ℕ) → call ≡ calls.Write path at new → length new ≤ most_bytes
  pub names : (second : Bool) → All (λ byte. byte < 256) (last_of (path_of call second))

-- at most so many blocks, for which a log at rest has room
abbrev pub most_written : ℕ
most_written = 375

-- So many blocks each call writes at most, over a view that may be of an image of the profile.
abbrev pub CallsAreSmall : {V : Type 0} → (V → Seen) → Type 0
CallsAreSmall {V = V} seen = (view : V) (call : Call) (node time : ℕ) (reply : Reply) (change : Change) (im : Image) (o : Owners) (l : Layout) (t : Tree) → IsView (seen view) → IsOfProfile (seen view) im o l t
    → IsOfScript call → Does (seen view) call reply change → IsAnswered seen view call node time reply change → WritesAtMost most_written change
