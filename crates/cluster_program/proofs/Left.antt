-- What a replay of all journals of what was mounted leaves: its journals are clean, and it can be mounted again.
use Rattle.std.proofs.Common.{◌≡◌, inl, inr, ℕ, Some, sym, ap, ◌∙◌, subst, arith}
use Rattle.std.specs.Prelude.{IsTrue, slice_get}
use Rattle.file_tree.specs.Tree.{Tree}
use Rattle.image_model.specs.Claims.{every}
use Rattle.image_model.specs.Flat.{ReadsAs}
use Rattle.image_model.specs.Image.{image_of}
use Rattle.image_model.specs.Laws.{CleanImagesStand}
use Rattle.image_model.specs.Owners.{Owners}
use Rattle.image_model.specs.Replays.{StandsReplayed}
use Rattle.image_model.specs.Stands.{IsJournalAt, Layout}
use Rattle.image_changes.specs.Instances.{StandsBy}
use Rattle.image_model.proofs.Replaying.{clean_stay, journals_of_standing, one_replay}
use Rattle.image_mount.specs.Mounted.{IsMounted, IsOfProfile, Journal, MountedValue}
use Rattle.image_recovery.specs.Left.{LeftIsOfProfile, LeftMounts, LeftStandsBy}
use Rattle.log_layout.specs.Journal.{IsClean, ring_of}
use Rattle.shared_disk.specs.Disk.{DiskState}
use Rattle.cluster_program.specs.Mounting.{AreClean, IsImageOf, IsMountable, IsMountableClean, IsMountedOn, IsMountedReplayed, is_clean_head}
use Rattle.cluster_program.specs.Runs.{AreCleanOn, HasLowHeads, LeavesReplayed}
use Rattle.cluster_program.proofs.Heads.{below_end, is_there, of_mounted}

-- the journal that was mounted at a place has one dinode
module _ (d : DiskState) (m : MountedValue) (mounted : IsMounted (image_of d) m) where
  pub dinode_at : (k : ℕ) (journal : Journal) → slice_get m.journals k ≡ Some journal → IsJournalAt mounted.layout k journal.dinode
  dinode_at k journal there = elim (is_there mounted.layout.journals k) [
    | inl it ↦ subst (IsJournalAt mounted.layout k) (sym (mounted.journals k it.0 journal it.1 there).dinode) it.1
    | inr past ↦ let low = below_end m.journals k journal there in absurd (omega (arith, low, past, mounted.count))
  ]

module _ (d e : DiskState) (m : MountedValue) (on : IsMountedOn d m) (left : LeavesReplayed d m e) where
  -- each journal that was mounted is clean, whether the image stands for a tree or not
  pub clean_replayed : IsTrue d.tells → AreCleanOn e m
  clean_replayed tells k journal there =
      let (head, head_is, clean) = (left tells (on tells)).clean k journal.dinode (dinode_at d m (on tells) k journal there) in ap is_clean_head head_is ∙ clean

  module _ (by : LeftStandsBy) (stand : CleanImagesStand) (mounts : LeftMounts) (of_profile : LeftIsOfProfile) (replays : IsMountedReplayed d m) (same : e.tells ≡ d.tells) (may : IsMountable d) (low : HasLowHeads (image_of d)) where
    abbrev tells : IsTrue d.tells
    tells = may.is.tells

    abbrev it : StandsReplayed (image_of d) may.tree
    it = may.is.stands

    stands : StandsBy (image_of e) it.stands.owners it.stands.layout may.tree
    stands = by (image_of d) (image_of e) m (on tells) may.tree (left tells (on tells)) it

    clean : (j a : ℕ) → IsJournalAt it.stands.layout j a → IsClean (ring_of (every (image_of e) a))
    clean j a at =
        let was = of_mounted it.replayed it.stands.owners it.stands.layout it.stands.laid m (replays tells it.layout it.replayed it.is) j a at in
        subst (λ b. IsClean (ring_of (every (image_of e) b))) was.3.dinode ((left tells (on tells)).clean was.0 was.1.dinode (dinode_at d m (on tells) was.0 was.1 was.2))

    now : IsImageOf e may.tree
    now = record {
      tells = subst IsTrue (sym same) tells;
      stands = stand (image_of e) may.tree (record { owners = it.stands.owners; layout = it.stands.layout; laid = stands.laid; reads = stands.reads }) clean;
    }

    itself : now.stands.replayed ≡ image_of e
    itself = one_replay (image_of e) now.stands.replayed (image_of e) now.stands.layout it.stands.layout now.stands.is
        (clean_stay (image_of e) it.stands.layout (journals_of_standing (image_of e) it.stands.owners it.stands.layout stands.laid) clean)

    profile : IsOfProfile (image_of e)
    profile = of_profile (image_of d) (image_of e) may.profile.replayed m (on tells) may.profile.layout may.tree (left tells (on tells)) it may.profile.is may.profile.profile (low m (on tells))

    again : AreClean (image_of e)
    again m' mounted' = (mounts (image_of d) (image_of e) m m' (on tells) may.tree (left tells (on tells)) it mounted').clean

    pub mountable_still : IsMountableClean e
    mountable_still = record {
      mountable = record { tree = may.tree; is = now; profile = record { layout = now.stands.layout; replayed = now.stands.replayed; is = now.stands.is; profile = subst IsOfProfile (sym itself) profile } };
      clean = again;
    }
