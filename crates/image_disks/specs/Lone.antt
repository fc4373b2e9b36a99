-- Of one node that runs alone: what each outcome of the image on its disk stands for.
use Rattle.std.specs.Prelude.{ℕ, ◌≡◌, ◌≤◌, ◌++◌, suc, List, [], ◌∷◌, None}
use Rattle.file_tree.specs.Tree.{Tree}
use Rattle.cluster_history.specs.History.{tree_of}
use Rattle.cluster_history.specs.History as history
use Rattle.cluster_history.specs.declared.Item.{Item}
use Rattle.cluster_laws.specs.Log.{Calm}
use Rattle.cluster_laws.specs.History.{Gone}
use Rattle.cluster_laws.specs.Rings.{Rings}
use Rattle.cluster_laws.specs.World.{World}
use Rattle.image_model.specs.Image.{Image}
use Rattle.image_model.specs.Owners.{Owners}
use Rattle.image_model.specs.Replays.{StandsReplayed}
use Rattle.image_model.specs.Stands.{IsJournalAt, Layout}
use Rattle.image_changes.specs.Instances.{StandsBy}
use Rattle.log_layout.specs.Journal.{IsClean}
use Rattle.journal_outcomes.specs.Images.{ring_at}
use Rattle.journal_outcomes.specs.Rings.{InFlight}
use Rattle.tree_histories.specs.Trees.{Trees, history_of}
use Rattle.image_machine.specs.Volumes.{Volume, images_of, volume_of}
use Rattle.lone_images.specs.Lone.{begun_on}
use Rattle.lone_machine.specs.Alone.{Begun, IsAlone, begun, head_of}
use Rattle.lone_machine.specs.Laws.{AreOwnRings}
use Rattle.image_disks.specs.Disks.{IsDiskOf, IsOutcomeOf}

-- The node's calls so far, and a loss that keeps those up to k: what remains where everything stops.
abbrev pub remaining : (v : Volume) → Begun (Trees (images_of v)) → World (Trees (images_of v)) → ℕ → List Item
remaining v s w k = history_of (images_of v) (w.items ++ (Gone s.node k k ∷ []))

-- Of a node alone, with the number behind its journal's, the image of an outcome stands, its journals replayed, for the tree of what remains, with a loss by the rule: it keeps
-- what the head of that outcome has, or more that changes nothing. And this history is legal.
abbrev pub LoneOutcomesStand : Type 0
LoneOutcomesStand = (v : Volume) (s : Begun (Trees (images_of v))) (w : World (Trees (images_of v))) (rings : Rings (Trees (images_of v)) w.disk) (im left : Image) (flying : InFlight) (j k : ℕ)
    → IsAlone (Trees (images_of v)) s w → s.node ≡ suc j → AreOwnRings (Trees (images_of v)) w rings
    → IsDiskOf v w.disk rings im flying → (of : IsOutcomeOf v w.disk rings im flying left)
    → (head_of (Trees (images_of v)) s w (of.choice j)).cut ≤ k → k ≤ w.book.answered s.node
    → Calm (Trees (images_of v)) w.book s.node ((head_of (Trees (images_of v)) s w (of.choice j)).cut) k
    → history.Legal (remaining v s w k) w.book.start × StandsReplayed left (tree_of (remaining v s w k) w.book.start)

-- ---- the start

-- An image that stands as it lies, each journal clean, is the disk on which a node begins alone, with nothing in flight.
abbrev pub ImagesBeginAtRest : Type 0
ImagesBeginAtRest = (im : Image) (o : Owners) (l : Layout) (t : Tree) → StandsBy im o l t → ((j k : ℕ) → IsJournalAt l j k → IsClean (ring_at im k))
    → (rings : Rings (Trees (images_of (volume_of im l))) (begun (Trees (images_of (volume_of im l))) (begun_on im o l t)).disk)
    → AreOwnRings (Trees (images_of (volume_of im l))) (begun (Trees (images_of (volume_of im l))) (begun_on im o l t)) rings
    → IsDiskOf (volume_of im l) (begun (Trees (images_of (volume_of im l))) (begun_on im o l t)).disk rings im (λ b. None)
