-- An image that was just made can be mounted.
use Rattle.std.proofs.Common.{◌≡◌, ℕ, List, inl, inr, Bool, true, false, if◌then◌else◌, IsTrue, None, refl, sym, ap, ◌∙◌, subst, arith}
use Rattle.std.specs.Prelude.{◌==◌}
use Rattle.file_tree.specs.Tree.{dir, none}
use Rattle.gfs2_layout.specs.Bytes.{u32_at}
use Rattle.gfs2_layout.specs.Inode.{content_block}
use Rattle.log_layout.specs.Headers.{as_read}
use Rattle.log_layout.specs.declared.log_header.LogHeader.{LogHeader}
use Rattle.image_model.specs.Claims.{every}
use Rattle.image_model.specs.Image.{Image, image_of}
use Rattle.image_model.specs.Owners.{Owners}
use Rattle.image_model.specs.Profile.{IsInProfile}
use Rattle.image_model.specs.Stands.{IsJournalAt, IsLaid, Layout}
use Rattle.image_model.proofs.Replaying.{clean_stand, clean_stay, journals_of_standing}
use Rattle.log_layout.specs.Journal.{IsClean, ring_of}
use Rattle.mkgfs2_tool.specs.Blocks.{clean_header}
use Rattle.mkgfs2_tool.specs.Standing.{HasCleanHeads, StandsEmpty}
use Rattle.mkgfs2_tool.specs.declared.plan.Plan.{Plan}
use Rattle.shared_disk.specs.Disk.{DiskState}
use Rattle.cluster_program.specs.Mounting.{AreClean, IsMountableClean, is_clean_head}
use Rattle.cluster_program.proofs.Heads.{below_end, is_there, of_layout}

-- a header is clean as it is read, whichever version it then has
clean_as_read : (h : LogHeader) (bytes : List ℕ) → h.clean ≡ true → (as_read h bytes).clean ≡ true
clean_as_read h bytes clean = by (u32_at 48 bytes == 0)
  where
    by : (b : Bool) → (if b then record h { later = None } else h).clean ≡ true
    by true = clean
    by false = clean

module _ (p : Plan) (im : Image) (o : Owners) (l : Layout) (laid : IsLaid im o l) where
  -- what is mounted has clean journals, where the heads in the image are clean
  clean_heads : HasCleanHeads p im l → AreClean im
  clean_heads heads m mounted j journal there = elim (is_there mounted.layout.journals j) [
    | inl it ↦
        let is = mounted.journals j it.0 journal it.1 there in
        let block = content_block (every im it.0) 0 in
        ap is_clean_head (sym is.head ∙ heads j it.0 (of_layout im o l laid m mounted j it.0 it.1)) ∙ clean_as_read (clean_header p.time j block it.0) (im.at block) refl
    | inr past ↦ let low = below_end m.journals j journal there in absurd (omega (arith, low, past, mounted.count))
  ]

  -- and so are its rings
  clean_rings : HasCleanHeads p im l → (j d : ℕ) → IsJournalAt l j d → IsClean (ring_of (every im d))
  clean_rings heads j d at =
      let block = content_block (every im d) 0 in
      (as_read (clean_header p.time j block d) (im.at block), heads j d at, clean_as_read (clean_header p.time j block d) (im.at block) refl)

pub made_mountable : (disk : DiskState) (p : Plan) → IsTrue disk.tells → StandsEmpty p (image_of disk) → IsMountableClean disk
made_mountable disk p tells empty = record {
  mountable = record {
    tree = dir none;
    is = record { tells = tells; stands = clean_stand im (dir none) empty.stands rings };
    profile = record {
      layout = empty.stands.layout;
      replayed = im;
      is = clean_stay im empty.stands.layout (journals_of_standing im o empty.stands.layout empty.stands.laid) rings;
      profile = record { owners = o; layout = empty.stands.layout; laid = empty.stands.laid; profile = subst (IsInProfile im) (sym empty.found) empty.profile };
    };
  };
  clean = clean_heads p im o empty.stands.layout empty.stands.laid (subst (HasCleanHeads p im) (sym empty.found) empty.heads);
}
  where
    im : Image
    im = image_of disk

    o : Owners
    o = empty.stands.owners

    rings : (j d : ℕ) → IsJournalAt empty.stands.layout j d → IsClean (ring_of (every im d))
    rings = clean_rings p im o empty.stands.layout empty.stands.laid (subst (HasCleanHeads p im) (sym empty.found) empty.heads)
