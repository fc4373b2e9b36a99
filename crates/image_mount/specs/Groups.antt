-- The list of groups, as it is found and read.
use Rattle.profile_limits.specs.Limits.{most_group_blocks, most_groups}
use Rattle.std.specs.Prelude.{ℕ, ◌≡◌, ◌≤◌, ◌%◌, List, length, codes}
use Rattle.gfs2_layout.specs.Inode.{dinode_in, content_of}
use Rattle.gfs2_layout.specs.Records.{Record}
use Rattle.gfs2_layout.specs.declared.rindex.Rindex.{Rindex}
use Rattle.glock_names.specs.declared.steps.Entry.{Entry}
use Rattle.image_model.specs.Claims.{every, Claims, LeadsTo, IsRindex, master_of}
use Rattle.image_model.specs.Groups.{entry_length, groups_in, GroupsFit}
use Rattle.image_model.specs.Image.{Image}
use Rattle.image_model.specs.Owners.{Named}
use Rattle.image_model.specs.Profile.{group_length}
use Rattle.image_model.specs.Rules.{HasRecordIn}
use Rattle.image_model.specs.Stands.{Layout}
use Rattle.image_mount.specs.Found.{HasList, HasMaster, IsReached}
use Rattle.image_mount.specs.Listing.{IsEntryOf}
use Rattle.image_mount.specs.Looks.{HasHeadedContent, IsLookedAt}
use Rattle.image_mount.specs.declared.listing.Link.{Link}

-- what a record of this name says, in block `from` of the directory with its dinode in block a: by it alone the name leads on
pub record IsNamedIn (im : Image) (a from : ℕ) (name : List ℕ) (entry : Entry) : Type 0 where
  pub claimed : Claims im from entry.addr (Named a name)
  pub only : (d : ℕ) → LeadsTo im a name d → d ≡ entry.addr
  pub row : Record
  pub there : HasRecordIn im a from row
  pub named : row.name ≡ name
  pub one : (x : ℕ) (r : Record) → HasRecordIn im a x r → r.name ≡ name → r ≡ row
  pub reached : IsReached im from
  pub is : IsEntryOf entry row

-- what the record of `rindex` in the master directory says
pub record IsListLink (im : Image) (link : Link) : Type 0 where
  pub layout : Layout
  pub found : HasMaster im layout
  pub rindex : layout.rindex ≡ link.entry.addr
  pub named : IsNamedIn im (master_of im) link.from (codes "rindex") link.entry

-- these groups are listed in the file whose dinode is in block `list`, the only one that is `rindex`; the device has so
-- many blocks of so many bytes
pub record IsListOf (im : Image) (size count list : ℕ) (listed : List Rindex) : Type 0 where
  pub block_size : size ≡ im.size
  pub blocks : count ≡ im.count
  pub reached : IsReached im list
  pub layout : Layout
  pub found : HasList im layout
  pub rindex : layout.rindex ≡ list
  pub groups : layout.groups ≡ listed
  pub only : (d : ℕ) → IsRindex im d → d ≡ list
  pub looked : IsLookedAt im list

-- these groups are listed there, fit the image, and are within the profile
pub record AreGroups (im : Image) (list : ℕ) (groups : List Rindex) : Type 0 where
  pub reached : IsReached im list
  pub looked : IsLookedAt im list
  pub headed : HasHeadedContent im list
  pub whole : (dinode_in (every im list)).size % entry_length ≡ 0
  pub listed : groups_in (content_of (every im list)) ≡ groups
  pub some : 1 ≤ length groups
  pub few : length groups ≤ most_groups
  pub fit : GroupsFit im groups
  pub short : group_length groups ≤ most_group_blocks
