use Rattle.std.proofs.Common.{◌≡◌, ◌<◌, ℕ, true, Some, subst, sym}
use Rattle.std.specs.Prelude.{slice_get}
use Rattle.std.proofs.lemmas.Option.{slice_get_within}
use Rattle.image_model.specs.Claims.{every}
use Rattle.image_model.specs.Image.{Image}
use Rattle.image_model.specs.Stands.{IsJournalAt}
use Rattle.image_model.proofs.Replaying.{clean_stay, one_replay}
use Rattle.image_mount.specs.Mounted.{IsMounted, Journal, MountedValue}
use Rattle.log_layout.specs.Journal.{IsClean, ring_of}
use Rattle.image_replays.proofs.System.{its_journals, some_at}
use Rattle.image_replays.proofs.laws.clean_mounts_stay.Goals as goal

rings_clean : (im : Image) (m : MountedValue) (is : IsMounted im m) → ((j : ℕ) (journal : Journal) → slice_get m.journals j ≡ Some journal → journal.head.clean ≡ true)
    → (j d : ℕ) → IsJournalAt is.layout j d → IsClean (ring_of (every im d))
rings_clean im m is clean j d at =
    let it = some_at m.journals j (subst (λ n. j < n) (sym is.count) (slice_get_within is.layout.journals j d at)) in
    (it.0.head, (is.journals j d it.0 at it.1).head, clean j it.0 it.1)

pub returns : goal.returns
returns c im replayed m l is clean again =
    one_replay im replayed im l is.layout again (clean_stay im is.layout (its_journals im m is) (rings_clean im m is clean))
