-- The images that are mounted, among those that stand: what else they have.
use Rattle.std.specs.Prelude.{ℕ, ◌≡◌, ◌⊎◌, ◌^◌, ◌<◌, ◌≤◌, List, length, sum_by, codes, Some}
use Rattle.profile_limits.specs.Limits.{least_journal_blocks, most_blocks, most_group_blocks, most_groups, most_journal_blocks, most_journals}
use Rattle.log_layout.specs.declared.log_header.LogHeader.{LogHeader}
use Rattle.gfs2_layout.specs.declared.rindex.Rindex.{Rindex}
use Rattle.log_layout.specs.Journal.{ring_of, head_in}
use Rattle.image_model.specs.Claims.{every, LeadsTo}
use Rattle.image_model.specs.Image.{Image, superblock_in}
use Rattle.image_model.specs.Journals.{journal_name}
use Rattle.image_model.specs.Stands.{Layout, IsJournalAt}

-- the master directory leads to `jindex` and `rindex` alone
abbrev pub HasPlainMaster : Image → Layout → Type 0
HasPlainMaster im l = (name : List ℕ) (d : ℕ) → LeadsTo im l.master name d → (name ≡ codes "jindex") ⊎ (name ≡ codes "rindex")

-- the names in `jindex` are `journal0`, `journal1` and so on, without a gap, from one to eight
pub record HasJournals (im : Image) (l : Layout) : Type 0 where
  pub some : 1 ≤ length l.journals
  pub few : length l.journals ≤ most_journals
  pub there : (j d : ℕ) → IsJournalAt l j d → LeadsTo im l.jindex (journal_name j) d
  pub others : (name : List ℕ) (d : ℕ) → LeadsTo im l.jindex name d → (j : ℕ) × IsJournalAt l j d × (name ≡ journal_name j)

-- how many blocks the headers and bitmaps of all groups have
abbrev pub group_length : List Rindex → ℕ
group_length groups = sum_by (λ (g : Rindex). g.length) groups

-- one sentence for each field, by its name, in which an image can be outside
pub record IsInProfile (im : Image) (l : Layout) : Type 0 where
  pub fs_format : (superblock_in im).fs_format ≡ 1801
  pub multihost_format : (superblock_in im).multihost_format ≡ 1900
  pub bsize : (superblock_in im).bsize ≡ im.size
  pub bsize_shift : 2 ^ (superblock_in im).bsize_shift ≡ im.size
  pub master : HasPlainMaster im l
  pub device : im.count ≤ most_blocks
  pub journals : HasJournals im l
  pub journal : (j d : ℕ) → IsJournalAt l j d → (least_journal_blocks ≤ (ring_of (every im d)).places) × ((ring_of (every im d)).places ≤ most_journal_blocks)
  pub groups : (1 ≤ length l.groups) × (length l.groups ≤ most_groups)
  pub group_blocks : group_length l.groups ≤ most_group_blocks
  pub sequence : (j d : ℕ) (head : LogHeader) → IsJournalAt l j d → head_in (ring_of (every im d)) ≡ Some head → head.sequence < 2 ^ 63
