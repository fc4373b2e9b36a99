use Rattle.std.specs.Prelude.{ℕ, ◌≡◌, map}
use Rattle.std.specs.List.{range_with_len}
use Rattle.gfs2_layout.specs.Inode.{content_block}
use Rattle.image_model.specs.Claims.{HasJournal, every}
use Rattle.image_model.specs.Image.{Image}
use Rattle.image_model.specs.Owners.{Owners}
use Rattle.image_model.specs.Stands.{Layout}
use Rattle.image_journals.specs.Blocks.{seen_of}
use Rattle.image_journals.specs.Shown.{ShowsFrame}
use Rattle.image_journals.proofs.places.places_of.Given as goal

abbrev pub invariant-loop-index : goal.invariant-loop-index
invariant-loop-index l = (r : Image) (o : Owners) (m : Layout) (j : ℕ) → ShowsFrame (seen_of l.blocks) r o m → HasJournal r j l.dinode
    → l.found.items ≡ map (content_block (every r l.dinode)) (range_with_len 0 l.index)
