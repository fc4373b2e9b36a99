-- A mounted image whose journals are clean is at rest.
use Rattle.std.proofs.Common.{◌≡◌, ℕ, ◌≤◌, length, refl, sym, subst, ◌∙◌, arith}
use Rattle.file_tree.specs.Tree.{Tree}
use Rattle.image_machine.specs.Volumes.{volume_of}
use Rattle.image_model.specs.Image.{Image, image_of}
use Rattle.image_model.specs.Owners.{Owners}
use Rattle.image_model.specs.Stands.{IsJournalAt, Layout}
use Rattle.image_model.proofs.Held.{some_same}
use Rattle.image_model.proofs.Replaying.{journals_of_standing, same_journals}
use Rattle.mounted_views.specs.Mounting.{GroupsAreAsSeen, MountedValue, StandsAsMounted}
use Rattle.mounted_views.specs.Mounting.{IsJournalOf as IsMountedOf, Journal as MountedJournal}
use Rattle.image_replays.proofs.System.{its_journals, mounted_at}
use Rattle.journal_outcomes.specs.Images.{ring_at}
use Rattle.log_layout.specs.Journal.{IsClean}
use Rattle.log_values.specs.Laws.{IsJournal}
use Rattle.logged_steps.specs.States.{ArePlacesApart, IsJournalOf}
use Rattle.lone_view.specs.Seeing.{seen_alone}
use Rattle.image_machine.specs.Cells.{IsOfVolume}
use Rattle.logged_runs.specs.Mounted.{IsMountedClean, MountedIsAtRest}
use Rattle.mounted_views.specs.Views.{journal_of, view_of}
use Rattle.mounted_views.proofs.Journals.{its, its_place, its_ring, nothing_kept}
use Rattle.shared_disk.specs.Disk.{DiskState}

module _ (disk : DiskState) (m : MountedValue) (own : MountedJournal) (o : Owners) (l : Layout) (t : Tree) (is : IsMountedClean disk m own o l t) where
  abbrev im : Image
  im = image_of disk

  abbrev found : Layout
  found = is.mounted.layout

  -- the journals that mounting found are those by which the image stands
  in_found : (j d : ℕ) → IsJournalAt l j d → IsJournalAt found j d
  in_found j d at = same_journals im l found (journals_of_standing im o l is.stands.laid) (its_journals im m is.mounted) j d at

  of_found : (j d : ℕ) → IsJournalAt found j d → IsJournalAt l j d
  of_found j d at = same_journals im found l (its_journals im m is.mounted) (journals_of_standing im o l is.stands.laid) j d at

  clean : (j k : ℕ) → IsJournalAt l j k → IsClean (ring_at im k)
  clean j k at =
      let its = mounted_at im m is.mounted j k (in_found j k at) in
      (its.0.head, its.2.head, is.clean j its.0 its.1)

  apart : ArePlacesApart (volume_of im l)
  apart j d p i e q at at' low low' same =
      let one = is.mounted.looked.apart j i p q ((volume_of im l).place d p)
      (record { dinode = d; at = in_found j d at; low = low; is = refl }) (record { dinode = e; at = in_found i e at'; low = low'; is = sym same }) in
      (one.0, some_same (sym at ∙ subst (λ n. IsJournalAt l n e) (sym one.0) at'), one.1)

  -- ---- the first journal

  its_journal : IsJournalAt found 0 own.dinode × IsMountedOf im own.dinode own
  its_journal = its disk m own is.idle is.mounted is.first

  long : length own.blocks ≡ (ring_at im own.dinode).places
  long = (its_ring disk m own is.idle is.mounted is.first).places

  has_its_journal : (frames time : ℕ) → IsJournalOf (volume_of im l) own.dinode (journal_of disk.size frames time own)
  has_its_journal frames time = record {
    is = of_found 0 own.dinode its_journal.0;
    size = refl;
    places = long;
    place = its_place disk m own is.idle is.mounted is.first;
  }

  may_be_journal : (frames time : ℕ) → frames ≤ 4096 → IsJournal (journal_of disk.size frames time own)
  may_be_journal frames time few =
      let sized = is.mounted.profile.journal 0 own.dinode its_journal.0 in
      record { size = is.stands.laid.image.block_size; least = omega (arith, long, sized.0); most = omega (arith, long, sized.1); places = refl; few = few }

  has_volume : GroupsAreAsSeen → StandsAsMounted → IsOfVolume (volume_of im l) (seen_alone (view_of disk.size m))
  has_volume groups stands = record {
    view = record { block_size = is.stands.laid.image.block_size; whole = λ b bytes has. absurd (nothing_kept b bytes has); groups = (groups im m is.mounted).0 };
    size = refl;
    root = sym (stands im m o l is.mounted is.stands.laid).0;
    groups = sym (stands im m o l is.mounted is.stands.laid).1;
  }

pub mounted_is_at_rest : GroupsAreAsSeen → StandsAsMounted → MountedIsAtRest
mounted_is_at_rest groups stands disk m own o l t frames time is few = record {
  tells = is.tells;
  sound = is.sound;
  none = is.idle.none_in_flight;
  stands = is.stands;
  clean = clean disk m own o l t is;
  apart = apart disk m own o l t is;
  is_journal = may_be_journal disk m own o l t is frames time few;
  its_journal = has_its_journal disk m own o l t is frames time;
  headed = (its_journal disk m own o l t is).1.head;
  volume = has_volume disk m own o l t is groups stands;
  empty = refl;
}
