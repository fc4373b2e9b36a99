-- Every view shows its groups.
use Rattle.std.proofs.Common.{◌≡◌, ℕ, List, length, replicate, Option, None, Some, refl, ap}
use Rattle.std.proofs.lemmas.List.{length-replicate}
use Rattle.glock_names.specs.Views.{Seen, IsView}
use Rattle.glock_names.specs.declared.views.Group.{Group}
use Rattle.resource_groups.specs.Putting.{overlaid, seen_or}
use Rattle.resource_groups.specs.Shown.{IsShown}

pub bytes_shown : (w : Seen) → IsView w → (at : ℕ → List ℕ) × ((g : Group) → IsShown w g at)
bytes_shown w view = (
  overlaid w (λ b. replicate w.size 0),
  λ g. record { whole = λ b own. each b (w.block_at b) refl; same = λ b bytes own there. ap (λ s. seen_or s (replicate w.size 0)) there },
)
  where
    each : (b : ℕ) (s : Option (List ℕ)) → w.block_at b ≡ s → length (seen_or s (replicate w.size 0)) ≡ w.size
    each b None e = length-replicate w.size 0
    each b (Some bytes) e = view.whole b bytes e
