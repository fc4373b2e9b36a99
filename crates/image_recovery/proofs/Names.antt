-- The journals by their names in two images of which the blocks of the two directories that lead there are alike.
use Rattle.std.proofs.Common.{◌≡◌, ℕ, ◌<◌, List, refl, sym, ap, subst, ◌∙◌}
use Rattle.std.specs.Prelude.{codes}
use Rattle.gfs2_layout.specs.Device.{superblock_place}
use Rattle.gfs2_layout.specs.Inode.{Fits, Leads, content_count}
use Rattle.gfs2_layout.specs.Structures.{superblock_of}
use Rattle.image_model.specs.Claims.{every, Claims, HasInode, HasJournal, IsJindex, IsRindex, LeadsTo, master_of}
use Rattle.image_model.specs.Image.{Blocks, Image}
use Rattle.image_model.specs.Journals.{journal_name}
use Rattle.image_model.specs.Owners.{Chained}
use Rattle.image_model.specs.Replays.{HasItsJournals}
use Rattle.image_model.specs.Stands.{IsJournalAt}
use Rattle.image_model.specs.SystemFiles.{IsSystemBlock, IsSystemFile, is_jindex, is_master, is_rindex, of_content, of_dinode, of_leaf}
use Rattle.image_model.proofs.SystemStays.{file_inode}
use Rattle.image_mount.specs.Mounted.{IsMounted, MountedValue}
use Rattle.image_replays.proofs.System.{its_journals, one_jindex}
use Rattle.image_recovery.proofs.Alike.{name_back, name_there}

-- a block of the inode in block d: its dinode, one of its content or above it, or a leaf
pub data IsBlockOf (im : Image) (d : ℕ) (b : ℕ) : Type 0 where
  own : b ≡ d → IsBlockOf im d b
  led : (p k level first : ℕ) → Leads (every im d) p k level first b → first < content_count (every im d) → IsBlockOf im d b
  leaf : (by hash place : ℕ) → Claims im by b (Chained d hash place) → IsBlockOf im d b

-- of a system file it is one of the system's
pub system_block : (im : Image) (d : ℕ) → IsSystemFile im d → (b : ℕ) → IsBlockOf im d b → IsSystemBlock im b
system_block im d file b (own e) = of_dinode (subst (IsSystemFile im) (sym e) file)
system_block im d file b (led p k level first leads within) = of_content d p k level first file leads within
system_block im d file b (leaf by hash place claim) = of_leaf d by hash place file claim

-- the two images have these blocks of an inode alike
abbrev pub AreAlike : Image → Blocks → ℕ → Type 0
AreAlike im g d = (b : ℕ) → IsBlockOf im d b → im.at b ≡ g b

-- an image of the same sizes, with these blocks
abbrev pub with_blocks : Image → Blocks → Image
with_blocks im g = record { size = im.size; count = im.count; at = g }

-- ---- the names of one directory

module _ (im : Image) (g : Blocks) (d : ℕ) (fits : Fits (every im d)) (alike : AreAlike im g d) where
  pub led_there : HasInode (with_blocks im g) d → (name : List ℕ) (c : ℕ) → LeadsTo im d name c → LeadsTo (with_blocks im g) d name c
  led_there inode name c way =
      name_there im.size im.count im.at g d fits (alike d (own refl)) (λ p k level first x leads within. alike x (led p k level first leads within)) (λ by x hash place claim. alike x (leaf by hash place claim)) inode way.0 c
      name way.1

  pub led_back : HasInode im d → (name : List ℕ) (c : ℕ) → LeadsTo (with_blocks im g) d name c → LeadsTo im d name c
  led_back inode name c way =
      name_back im.size im.count im.at g d fits (alike d (own refl)) (λ p k level first x leads within. alike x (led p k level first leads within)) (λ by x hash place claim. alike x (leaf by hash place claim)) inode way.0 c
      name way.1

-- ---- of a mounted image

module _ (im : Image) (m : MountedValue) (is : IsMounted im m) where
  pub master_file : IsSystemFile im is.layout.master
  master_file = is_master (sym is.found.groups.list.master.master)

  pub rindex_file : IsSystemFile im is.layout.rindex
  rindex_file = is_rindex is.found.groups.list.master.rindex

  pub jindex_file : IsSystemFile im is.layout.jindex
  jindex_file = is_jindex is.found.groups.list.master.jindex

  module _ (g : Blocks) (super : im.at (superblock_place im.size) ≡ g (superblock_place im.size)) (in_master : AreAlike im g is.layout.master) (in_jindex : AreAlike im g is.layout.jindex) where
    abbrev other : Image
    other = with_blocks im g

    pub master_same : master_of other ≡ is.layout.master
    master_same = ap (λ bs. (superblock_of bs).master.address) (sym super) ∙ is.found.groups.list.master.master

    pub master_there : HasInode other is.layout.master
    master_there = file_inode other is.layout.master (is_master (sym master_same))

    jindex_led : LeadsTo im is.layout.master (codes "jindex") is.layout.jindex
    jindex_led = subst (λ a. LeadsTo im a (codes "jindex") is.layout.jindex) is.found.groups.list.master.master is.found.groups.list.master.jindex

    pub rindex_is_there : IsRindex other is.layout.rindex
    rindex_is_there =
        subst (λ a. LeadsTo other a (codes "rindex") is.layout.rindex) (sym master_same)
        (led_there im g is.layout.master is.looked.master.dinode.fits in_master master_there (codes "rindex") is.layout.rindex
        (subst (λ a. LeadsTo im a (codes "rindex") is.layout.rindex) is.found.groups.list.master.master is.found.groups.list.master.rindex))

    pub jindex_is_there : IsJindex other is.layout.jindex
    jindex_is_there =
        subst (λ a. LeadsTo other a (codes "jindex") is.layout.jindex) (sym master_same)
        (led_there im g is.layout.master is.looked.master.dinode.fits in_master master_there (codes "jindex") is.layout.jindex jindex_led)

    pub jindex_there : HasInode other is.layout.jindex
    jindex_there = file_inode other is.layout.jindex (is_jindex jindex_is_there)

    pub journal_there : (j d : ℕ) → IsJournalAt is.layout j d → HasJournal other j d
    journal_there j d at = (is.layout.jindex, jindex_is_there, led_there im g is.layout.jindex is.looked.jindex.dinode.fits in_jindex jindex_there (journal_name j) d (is.found.there j d at))

    pub one_jindex_there : (c : ℕ) → IsJindex other c → c ≡ is.layout.jindex
    one_jindex_there c way =
        let back = led_back im g is.layout.master is.looked.master.dinode.fits in_master (file_inode im is.layout.master master_file) (codes "jindex") c (subst (λ a. LeadsTo other a (codes "jindex") c) master_same way) in
        one_jindex im m is c (subst (λ a. LeadsTo im a (codes "jindex") c) (sym is.found.groups.list.master.master) back)

    pub journal_back : (j d : ℕ) → HasJournal other j d → HasJournal im j d
    journal_back j d has = (
      is.layout.jindex,
      is.found.groups.list.master.jindex,
      led_back im g is.layout.jindex is.looked.jindex.dinode.fits in_jindex (file_inode im is.layout.jindex jindex_file) (journal_name j) d
          (subst (λ a. LeadsTo other a (journal_name j) d) (one_jindex_there has.0 has.1) has.2),
    )

    -- so it has the same journals
    pub journals_there : HasItsJournals other is.layout
    journals_there = record {
      there = journal_there;
      all = λ j d has most. (its_journals im m is).all j d (journal_back j d has) most;
    }
