-- The files that the master directory names.
use Rattle.std.proofs.Common.{◌≡◌, ◌≢◌, ◌⊎◌, inl, inr, ℕ, ◌||◌, ◌&&◌, Bool, true, false, List, Option, None, Some, refl, sym, ap, subst, ◌∙◌}
use Rattle.std.specs.Prelude.{map, not, codes, slice_get}
use Rattle.std.specs.Option.{option_map}
use Rattle.std.specs.Str.{bytes_eq}
use Rattle.std.proofs.lemmas.Bool.{both_ways}
use Rattle.std.proofs.lemmas.Slice.Eq.{bytes_eq-Decides}
use Rattle.gfs2_layout.specs.Device.{superblock_place}
use Rattle.gfs2_layout.specs.Inode.{dinode_in, is_directory_in}
use Rattle.gfs2_layout.specs.Records.{Record, is_dots}
use Rattle.gfs2_layout.specs.Structures.{is_directory}
use Rattle.gfs2_layout.specs.declared.dinode.Dinode.{Dinode}
use Rattle.image_model.specs.Claims.{every, Claims, master, LeadsTo, master_of}
use Rattle.image_model.specs.Image.{Image}
use Rattle.image_model.specs.Owners.{Owner, Master, is_dinode, parent_of}
use Rattle.image_model.specs.Rules.{Breaks, HasRecordIn, no_rindex, no_jindex}
use Rattle.image_mount.specs.Looks.{IsLookedAt}
use Rattle.image_mount.specs.Found.{HasFormat, IsFirstOther, behind_dinode, first_other, is_other, is_system_name, IsReached}
use Rattle.image_mount.specs.Leaves.{IsMasterIn}
use Rattle.image_model.specs.SystemFiles.{IsSystemFile}
use Rattle.image_model.specs.SystemFiles.{is_master as is_master_file}
use Rattle.image_mount.specs.Listing.{said, link_of, AreAllRecords, AreRecordsOf, IsDirectoryIn}
use Rattle.image_mount.specs.Groups.{IsNamedIn}
use Rattle.image_mount.specs.Refusals.{IsOutside, RefusesRightly}
use Rattle.image_mount.specs.Refusals as outside
use Rattle.image_mount.specs.System.{ArePlainRecords, IsAmong, IsLinkOf}
use Rattle.image_mount.specs.declared.fault.MountFault.{MountFault}
use Rattle.image_mount.specs.declared.fault.MountFault.TheVariants as fault
use Rattle.image_mount.specs.declared.field.Field.TheVariants as field
use Rattle.image_mount.specs.declared.inodes.Inode.{Inode}
use Rattle.image_mount.specs.declared.listing.Link.{Link}
use Rattle.image_mount.specs.declared.listing.Named.{Named as Item}
use Rattle.image_mount.proofs.Causes.{super_reached, told, told_outside}
use Rattle.image_mount.proofs.Names.{mapped_at, mapped_none, mapped_some, named_in, none_found, led_among, led_by_file, none_among}

-- ---- an inode that is claimed, and is a directory

pub directory_in : (im : Image) (inode : Inode) (by addr parent : ℕ) (o : Owner) → HasFormat im → Claims im by addr o → is_dinode o ≡ true → inode.block ≡ addr → inode.from ≡ by
    → inode.dinode ≡ dinode_in (every im addr) → is_directory inode.dinode ≡ true → IsReached im addr → IsReached im by → parent ≡ parent_of addr o → IsSystemFile im addr → IsDirectoryIn im inode parent
directory_in im inode by addr parent o format claimed dinode at from read directory inside by_inside above file = record {
  file = subst (IsSystemFile im) (sym at) file;
  format = format;
  owner = o;
  claimed = subst (λ a. Claims im inode.from a o) (sym at) (subst (λ b. Claims im b addr o) (sym from) claimed);
  is_inode = dinode;
  dinode = read ∙ ap (λ a. dinode_in (every im a)) (sym at);
  directory = directory;
  reached = subst (IsReached im) (sym at) inside;
  from_reached = subst (IsReached im) (sym from) by_inside;
  above = above ∙ ap (λ a. parent_of a o) (sym at);
}

pub not_directory : (im : Image) (addr : ℕ) (d : Dinode) (b : Bool) → d ≡ dinode_in (every im addr) → b ≡ is_directory d → b ≡ false → is_directory_in (every im addr) ≡ false
not_directory im addr d b read is failed = sym (ap is_directory read) ∙ sym is ∙ failed

pub is_master : (im : Image) (place at : ℕ) → place ≡ superblock_place im.size → at ≡ master_of im → Claims im place at Master
is_master im place at is same = subst (λ b. Claims im b at Master) (sym is) (subst (λ a. Claims im (superblock_place im.size) a Master) (sym same) master)

-- the master directory is one, and it is its own parent
pub master_directory : (im : Image) (inode : Inode) → IsMasterIn im inode → IsDirectoryIn im inode inode.block
master_directory im inode is = record {
  format = is.format;
  owner = Master;
  claimed = is_master im inode.from inode.block is.from is.block;
  is_inode = refl;
  dinode = is.dinode;
  directory = ap is_directory is.dinode ∙ is.directory;
  reached = is.reached;
  from_reached = subst (IsReached im) (sym is.from) (super_reached im is.format);
  file = is_master_file is.block;
  above = refl;
}

-- ---- what the master directory lacks

pub master_file : (im : Image) (f : MountFault) (at : ℕ) → f ≡ fault.Damaged at 18 → HasFormat im → IsReached im at → at ≡ master_of im → is_directory_in (every im at) ≡ false → RefusesRightly im f
master_file im f at is format low same file =
    told im f at 18 is format low
    (subst (Breaks im 18) (sym same) (no_rindex (λ d way. led_by_file im (master_of im) (codes "rindex") d (subst (λ a. is_directory_in (every im a) ≡ false) same file) way)))

module _ (im : Image) (f : MountFault) (at : ℕ) (items : List Item) (format : HasFormat im) (inside : IsReached im at) (same : at ≡ master_of im) (are : AreAllRecords im at items) where
  never_led : (name : List ℕ) (d : ℕ) → ((i : ℕ) (n : Item) → slice_get items i ≡ Some n → n.name.now ≢ name) → LeadsTo im (master_of im) name d → ⊥
  never_led name d none way =
      let led = led_among im at items name d are (subst (λ a. LeadsTo im a name d) (sym same) way) in
      none_among items name led.entry led.among none

  pub lacks_rindex : f ≡ fault.Damaged at 18 → ((i : ℕ) (n : Item) → slice_get items i ≡ Some n → n.name.now ≢ codes "rindex") → RefusesRightly im f
  lacks_rindex is none = told im f at 18 is format inside (subst (Breaks im 18) (sym same) (no_rindex (λ d way. never_led (codes "rindex") d none way)))

  pub lacks_jindex : f ≡ fault.Damaged at 16 → ((i : ℕ) (n : Item) → slice_get items i ≡ Some n → n.name.now ≢ codes "jindex") → RefusesRightly im f
  lacks_jindex is none = told im f at 16 is format inside (subst (Breaks im 16) (sym same) (no_jindex (λ d way dir. never_led (codes "jindex") d none way)))

-- ---- other names

-- behind the dinode of a linear one
pub other_master : (im : Image) (f : MountFault) (at other : ℕ) (items : List Item) (o : Option ℕ) → f ≡ fault.NotProfile field.Master other → HasFormat im → IsLookedAt im at → at ≡ master_of im → AreRecordsOf im at (map said items)
    → o ≡ option_map (λ (r : Record). r.address) (first_other (map said items)) → o ≡ Some other → RefusesRightly im f
other_master im f at other items o is format looked same are found some =
    let first = mapped_some (λ (r : Record). r.address) (first_other (map said items)) other (sym found ∙ some) in
    let told_here : IsFirstOther im at first.0 = behind_dinode first.0 are.directory are.linear (ap first_other (sym are.all) ∙ first.1) in
    told_outside im f field.Master other is (subst (IsOutside im field.Master) first.2 (outside.master first.0 format (subst (IsLookedAt im) same looked) (subst (λ a. IsFirstOther im a first.0) same told_here)))

either : (p q : Bool) → (p || q) ≡ true → (p ≡ true) ⊎ (q ≡ true)
either true q e = inl refl
either false q e = inr e

of_not : (p q : Bool) → (not p && not q) ≡ false → p ≡ false → q ≡ true
of_not true q none plain = let e : true ≡ false = plain in cc
of_not false true none plain = refl
of_not false false none plain = let e : true ≡ false = none in cc

-- where none of them has another name, each has one that is known
pub plain_items : (items : List Item) → first_other (map said items) ≡ None → (i : ℕ) (n : Item) → slice_get items i ≡ Some n → is_other (said n) ≡ false
plain_items items none i n at = none_found is_other (map said items) i (said n) none (mapped_at said items i n at)

pub no_other : (items : List Item) (o : Option ℕ) → o ≡ option_map (λ (r : Record). r.address) (first_other (map said items)) → o ≡ None → first_other (map said items) ≡ None
no_other items o found none = mapped_none (λ (r : Record). r.address) (first_other (map said items)) (sym found ∙ none)

module _ (im : Image) (at : ℕ) (items : List Item) (same : at ≡ master_of im) (are : ArePlainRecords im at items) where
  pub plain_records : (x : ℕ) (r : Record) → HasRecordIn im (master_of im) x r → is_other r ≡ false
  plain_records x r has =
      let one = are.all.all x r (subst (λ a. HasRecordIn im a x r) (sym same) has) in
      ap is_other (sym one.1.2) ∙ are.plain one.0 one.1.0 one.1.1

  pub plain_names : (name : List ℕ) (d : ℕ) → LeadsTo im (master_of im) name d → (name ≡ codes "jindex") ⊎ (name ≡ codes "rindex")
  plain_names name d way =
      let led = led_among im at items name d are.all (subst (λ a. LeadsTo im a name d) (sym same) way) in
      let item = led.among.item in
      let system : is_system_name item.name.now ≡ true = of_not (is_dots item.name.now) (is_system_name item.name.now) (are.plain led.among.index item led.among.there) (ap is_dots led.among.named ∙ led.leads) in
      let system' : is_system_name name ≡ true = ap is_system_name (sym led.among.named) ∙ system in
      elim (either (bytes_eq name (codes "jindex")) (bytes_eq name (codes "rindex")) system') [
        | inl j ↦ inl ((bytes_eq-Decides name (codes "jindex")).0 j)
        | inr r ↦ inr ((bytes_eq-Decides name (codes "rindex")).0 r)
      ]

-- what `find` finds
pub among_found : (items : List Item) (name : List ℕ) (item : Item) → item.name.now ≡ name → (i : ℕ) × (slice_get items i ≡ Some item) → IsAmong items name item.entry
among_found items name item named at = record { index = at.0; item = item; there = at.1; named = named; entry_is = refl }

-- the record of a system file
pub link_in : (im : Image) (at : ℕ) (items : List Item) (name : List ℕ) (item : Item) (link : Link) → at ≡ master_of im → ArePlainRecords im at items → is_dots name ≡ false → item.name.now ≡ name
    → (i : ℕ) × (slice_get items i ≡ Some item) → link ≡ link_of item → IsLinkOf im name link
unfolding among_found
link_in im at items name item link same are plain named there is =
    subst (IsLinkOf im name) (sym is) (subst (λ a. IsNamedIn im a item.block name item.entry) same (named_in im at items name item.entry are.all are.distinct plain (among_found items name item named there)))

-- what is named as the directory of journals is a file
pub file_of_journals : (im : Image) (at : ℕ) (link : Link) → at ≡ master_of im → IsLinkOf im (codes "jindex") link → is_directory_in (every im link.entry.addr) ≡ false → Breaks im 16 at
file_of_journals im at link same named file =
    subst (Breaks im 16) (sym same) (no_jindex (λ d is dir. both_ways (is_directory_in (every im d)) (ap (λ a. is_directory_in (every im a)) (named.only d is) ∙ file) dir))
