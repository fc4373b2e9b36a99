-- A new image stands for the empty directory, and what a mount finds in it.
use Rattle.std.specs.Prelude.{ℕ, ◌≡◌, ◌^◌, ◌<◌, length, map, Some}
use Rattle.std.specs.List.{range_with_len}
use Rattle.file_tree.specs.Tree.{dir, none}
use Rattle.image_model.specs.Claims.{every}
use Rattle.image_model.specs.Image.{Image}
use Rattle.gfs2_layout.specs.Inode.{content_block, is_hashed_in}
use Rattle.log_layout.specs.Headers.{as_read}
use Rattle.log_layout.specs.Journal.{ring_of, head_in}
use Rattle.log_layout.specs.declared.log_header.LogHeader.{LogHeader}
use Rattle.image_model.specs.Owners.{holding}
use Rattle.image_model.specs.Profile.{IsInProfile}
use Rattle.image_model.specs.Stands.{Layout, IsJournalAt, Stands}
use Rattle.mkgfs2_tool.specs.Groups.{data_address}
use Rattle.mkgfs2_tool.specs.Order.{master_place, root_place, group_list_place, journals_place, journal_place, has_hashed_journals}
use Rattle.mkgfs2_tool.specs.Blocks.{group_entry, clean_header, new_block}
use Rattle.mkgfs2_tool.specs.Making.{IsFitting}
use Rattle.mkgfs2_tool.specs.declared.plan.Plan.{Plan}

-- an image that was made of this plan: its blocks below the count are those of a new image
pub record IsNewImage (p : Plan) (im : Image) : Type 0 where
  pub size : im.size ≡ p.size
  pub count : im.count ≡ p.count
  pub blocks : (b : ℕ) → b < p.count → im.at b ≡ new_block p b

-- a plan as a program has it: sixteen bytes of uuid, and a time of 64 bits
pub record IsStamped (p : Plan) : Type 0 where
  pub uuid : length p.uuid ≡ 16
  pub time : p.time < 2 ^ 64

-- what a mount finds: each dinode at the address of its place, and the groups in order, each as its entry says
abbrev pub new_layout : Plan → Layout
new_layout p = record {
  root = data_address p root_place;
  master = data_address p master_place;
  rindex = data_address p group_list_place;
  jindex = data_address p (journals_place p);
  groups = map (group_entry p) (range_with_len 0 p.groups);
  journals = map (λ j. data_address p (journal_place p j)) (range_with_len 0 p.journals);
}

-- the clean header of sequence 1 of journal j, as it is read at place 0: it tells the time, its own block and that of its dinode, unless its
-- checksum comes out as zero, which says version 1
abbrev pub new_head : Plan → Image → ℕ → ℕ → LogHeader
new_head p im j d = let block = content_block (every im d) 0 in as_read (clean_header p.time j block d) (im.at block)

-- each journal's head is that header
abbrev pub HasCleanHeads : Plan → Image → Layout → Type 0
HasCleanHeads p im l = (j d : ℕ) → IsJournalAt l j d → head_in (ring_of (every im d)) ≡ Some (new_head p im j d)

-- the image stands for the empty directory, is found as it was laid, has clean journals in a linear directory or a hashed one, and is one of
-- those that are mounted
pub record StandsEmpty (p : Plan) (im : Image) : Type 0 where
  pub stands : Stands im (dir none)
  pub found : stands.layout ≡ new_layout p
  pub heads : HasCleanHeads p im (new_layout p)
  pub form : is_hashed_in (holding im stands.owners (new_layout p).jindex) ≡ has_hashed_journals p
  pub profile : IsInProfile im (new_layout p)

-- every image that is made of a fitting plan stands for the empty directory
abbrev pub NewImagesStand : Type 0
NewImagesStand = (p : Plan) (im : Image) → IsFitting p → IsStamped p → IsNewImage p im → StandsEmpty p im
