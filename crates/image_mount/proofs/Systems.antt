-- The system files that were found, as a layout of the image.
use Rattle.std.proofs.Common.{◌≡◌, ℕ, true, List, [], length, Vec, Global, refl, sym, ap, subst, ◌∙◌, arith}
use Rattle.std.specs.Prelude.{codes, map}
use Rattle.std.proofs.lemmas.List.{length-map}
use Rattle.gfs2_layout.specs.declared.rindex.Rindex.{Rindex}
use Rattle.gfs2_layout.specs.declared.superblock.SuperBlock.{SuperBlock}
use Rattle.gfs2_layout.specs.Inode.{is_hashed_in}
use Rattle.image_model.specs.Claims.{every, Claims, LeadsTo, master_of}
use Rattle.image_model.specs.Image.{Image, superblock_in}
use Rattle.image_model.specs.Journals.{journal_name}
use Rattle.image_model.specs.Owners.{Named}
use Rattle.image_model.specs.Rules.{HasRecordIn}
use Rattle.image_model.specs.Stands.{Layout}
use Rattle.image_mount.specs.Found.{HasFormat, HasMaster, HasGroups, AreJournalNames, IsReached}
use Rattle.image_mount.specs.Groups.{IsListLink, AreGroups}
use Rattle.image_mount.specs.Kept.{Kept}
use Rattle.image_mount.specs.Leaves.{HasReadDirectory}
use Rattle.image_mount.specs.Marked.{IsGrown}
use Rattle.gfs2_layout.specs.Device.{superblock_place}
use Rattle.image_mount.specs.declared.system.System.{System}
use Rattle.image_mount.specs.System.{HasReadSystem, layout_with, AreFilesOf, AreJournalsOf, IsGroundOf, IsJindexOf, IsSystemOf}
use Rattle.image_mount.specs.declared.inodes.Inode.{Inode}
use Rattle.image_mount.specs.declared.listing.Link.{Link}
use Rattle.image_mount.specs.declared.system.Groundwork.{Groundwork}
use Rattle.image_mount.specs.declared.system.SystemFiles.{SystemFiles}
use Rattle.image_mount.specs.Looks.{HasSoundLeaves, HasTrueRecord, IsLookedAt, IsSoundDirectory, IsTrueEntry}
use Rattle.image_mount.proofs.Looks.{true_record}
use Rattle.image_mount.proofs.Names.{from_mapped}

module _ (im : Image) (sb : SuperBlock) (files : SystemFiles) (format : HasFormat im) (read : sb ≡ superblock_in im) (of : AreFilesOf im files) where
  abbrev layout : List Rindex → List ℕ → Layout
  layout groups journals = record { root = sb.root.address; master = sb.master.address; rindex = files.rindex.entry.addr; jindex = files.jindex.entry.addr; groups = groups; journals = journals }

  pub same_master : sb.master.address ≡ master_of im
  same_master = ap (λ (s : SuperBlock). s.master.address) read

  master_found : (groups : List Rindex) (journals : List ℕ) → HasMaster im (layout groups journals)
  master_found groups journals = record {
    format = format;
    root = ap (λ (s : SuperBlock). s.root.address) (sym read);
    master = sym same_master;
    plain = λ x r has. of.plain x r (subst (λ a. HasRecordIn im a x r) same_master has);
    rindex = (files.rindex.from, of.rindex.claimed);
    jindex = (files.jindex.from, of.jindex.claimed);
  }

  pub list_link : IsListLink im files.rindex
  list_link = record { layout = layout [] []; found = master_found [] []; rindex = refl; named = of.rindex }

  pub groups_found : (groups : List Rindex) (journals : List ℕ) → AreGroups im files.rindex.entry.addr groups → HasGroups im (layout groups journals)
  groups_found groups journals are = record {
    list = record { master = master_found groups journals; whole = are.whole; listed = are.listed };
    some = are.some;
    few = are.few;
    fit = are.fit;
    short = are.short;
  }

  pub ground_of : (groups : Vec Rindex Global) (jindex : Inode) → jindex.block ≡ files.jindex.entry.addr → IsJindexOf im sb.master.address jindex → IsReached im sb.master.address → IsLookedAt im sb.master.address
      → IsSoundDirectory im sb.master.address sb.master.address → (is_hashed_in (every im sb.master.address) ≡ true → HasSoundLeaves im sb.master.address) → IsTrueEntry im files.rindex.entry → IsTrueEntry im files.jindex.entry
      → AreGroups im files.rindex.entry.addr groups.items → IsGroundOf im (record { superblock = sb; rindex = files.rindex.entry.addr; groups = groups; jindex = jindex })
  ground_of groups jindex at is inside looked sound leaves rindex true_entry are = record {
    superblock = read;
    groups = has_groups;
    master = λ name d way. of.others name d (subst (λ a. LeadsTo im a name d) same_master way);
    one_rindex = λ d led. of.rindex.only d led;
    one_jindex = λ d led. of.jindex.only d led ∙ sym at;
    rindex_record = subst (λ a. HasTrueRecord im a (codes "rindex") files.rindex.entry.addr) (sym same_master) (true_record im (master_of im) files.rindex.from (codes "rindex") files.rindex.entry of.rindex rindex);
    jindex_record = subst (HasTrueRecord im sb.master.address (codes "jindex")) (sym at)
        (subst (λ a. HasTrueRecord im a (codes "jindex") files.jindex.entry.addr) (sym same_master) (true_record im (master_of im) files.jindex.from (codes "jindex") files.jindex.entry of.jindex true_entry));
    master_looked = looked;
    master_sound = sound;
    master_leaves = leaves;
    rindex_looked = are.looked;
    rindex_headed = are.headed;
    master_reached = inside;
    rindex_reached = are.reached;
    jindex = record { of = is; layout = layout_with (record { superblock = sb; rindex = files.rindex.entry.addr; groups = groups; jindex = jindex }) []; groups = has_groups []; layout_is = refl };
  }
    where
      has_groups : (journals : List ℕ) → HasGroups im (layout_with (record { superblock = sb; rindex = files.rindex.entry.addr; groups = groups; jindex = jindex }) journals)
      has_groups journals =
          subst (λ d. HasGroups im (record { root = sb.root.address; master = sb.master.address; rindex = files.rindex.entry.addr; jindex = d; groups = groups.items; journals = journals })) (sym at)
          (groups_found groups.items journals are)

-- with the journals they are all of it
pub system_of : (im : Image) (g : Groundwork) (journals : Vec Link Global) → IsGroundOf im g → AreJournalsOf im g.jindex.block journals.items
    → IsSystemOf im (record { superblock = g.superblock; rindex = g.rindex; groups = g.groups; jindex = g.jindex.block; journals = journals })
system_of im g journals is names =
    let addresses = map (λ (e : Link). e.entry.addr) journals.items in
    let count : length addresses ≡ length journals.items = length-map journals.items (λ (e : Link). e.entry.addr) in
    record {
      superblock = is.superblock;
      names = record {
        groups = is.groups addresses;
        some = omega (arith, count, names.some);
        few = omega (arith, count, names.few);
        named = λ records has. subst (AreJournalNames records) (sym count) (names.named records has);
        there = λ j d at.
            let link = from_mapped (λ (e : Link). e.entry.addr) journals.items j d at in
            (link.0.from, subst (λ b. Claims im link.0.from b (Named g.jindex.block (journal_name j))) link.2 (names.each j link.0 link.1).claimed);
      };
      master = is.master;
      one_rindex = is.one_rindex;
      one_jindex = is.one_jindex;
      rindex_record = is.rindex_record;
      jindex_record = is.jindex_record;
      master_looked = is.master_looked;
      master_sound = is.master_sound;
      master_leaves = is.master_leaves;
      rindex_looked = is.rindex_looked;
      rindex_headed = is.rindex_headed;
      master_reached = is.master_reached;
      rindex_reached = is.rindex_reached;
      jindex_reached = is.jindex.of.directory.reached;
      journals = names;
    }

-- what was read of a directory stays so
pub directory_stays : (im : Image) (old new : Kept) (a : ℕ) → IsGrown old new → HasReadDirectory im old a → HasReadDirectory im new a
directory_stays im old new a grown read = record {
  content = λ p j level first b leads within. grown.stays b (read.content p j level first b leads within);
  leaves = λ by x hash place claim. grown.taken x (read.leaves by x hash place claim);
}

-- so does what was read of the system files
pub read_on : (im : Image) (old new : Kept) (s : System) → IsGrown old new → HasReadSystem im old s → HasReadSystem im new s
read_on im old new s grown read = record {
  superblock = grown.stays (superblock_place im.size) read.superblock;
  master = λ hashed. directory_stays im old new s.superblock.master.address grown (read.master hashed);
  rindex = λ p j level first b leads within. grown.stays b (read.rindex p j level first b leads within);
  jindex = λ hashed. directory_stays im old new s.jindex grown (read.jindex hashed);
}
