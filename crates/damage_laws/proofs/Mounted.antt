-- An image that is mounted, and a view that has what mounting told.
use Rattle.std.proofs.Common.{◌≡◌, ℕ, ◌+◌, codes, sym, ap, ◌∙◌, subst, arith}
use Rattle.std.specs.Prelude.{map}
use Rattle.draft_changes.proofs.Views.{in_map, from_map, is_listed}
use Rattle.gfs2_layout.specs.declared.rindex.Rindex.{Rindex}
use Rattle.gfs2_layout.specs.declared.superblock.SuperBlock.{SuperBlock}
use Rattle.gfs2_layout.specs.Inode.{content_of}
use Rattle.gfs2_layout.specs.Records.{Record}
use Rattle.glock_names.specs.Views.{Seen, HasGroup, end_of, group_of_entry}
use Rattle.glock_names.specs.declared.views.Group.{Group}
use Rattle.image_model.specs.Claims.{every, IsRindex, master_of}
use Rattle.image_model.specs.Groups.{groups_in, IsListed, GroupFits}
use Rattle.image_model.specs.Image.{Image, IsImage}
use Rattle.image_model.specs.Stands.{Layout}
use Rattle.image_model.proofs.Counts.{at_in}
use Rattle.image_model.proofs.Members.{IsIn, contained, is_in}
use Rattle.image_mount.specs.Found.{HasMaster}
use Rattle.image_mount.specs.Looks.{HasTrueRecord}
use Rattle.image_mount.specs.Mounted.{IsMounted, MountedValue}
use Rattle.image_mount.proofs.Records.{led_record}
use Rattle.damage_laws.specs.Telling.{IsReadFrom, HasWholeGroups, IsOfMounted, MountedAreRead}

module _ (v : Seen) (im : Image) (m : MountedValue) (whole : IsImage im) (is : IsMounted im m) (of : IsOfMounted v im m) where
  abbrev l : Layout
  l = is.layout

  found : HasMaster im l
  found = is.found.groups.list.master

  record_of : HasTrueRecord im (master_of im) (codes "rindex") l.rindex
  record_of = subst (λ a. HasTrueRecord im a (codes "rindex") l.rindex) (sym found.master) is.looked.rindex_record

  -- one block is the list of groups
  rindex_is : (d : ℕ) → IsRindex im d → d ≡ l.rindex
  rindex_is d leads =
      let led = led_record im (master_of im) leads.0 d (codes "rindex") leads.1 in
      sym led.3 ∙ ap (λ (r : Record). r.address) (record_of.one leads.0 led.0 led.1 led.2) ∙ record_of.true_of.address

  listed : groups_in (content_of (every im l.rindex)) ≡ l.groups
  listed = is.found.groups.list.listed

  groups : map group_of_entry l.groups ≡ v.groups
  groups = sym is.groups ∙ of.groups

  entry_of : (k : Group) → HasGroup v k → (g : Rindex) × IsListed l.groups g × (k ≡ group_of_entry g)
  entry_of k has = let f = from_map k l.groups (subst (IsIn k) (sym groups) (is_in k v.groups has)) in (f.0, is_listed f.0 l.groups f.1, f.2)

  has_listed : (g : Rindex) → IsListed l.groups g → HasGroup v (group_of_entry g)
  has_listed g there = contained (group_of_entry g) v.groups (subst (IsIn (group_of_entry g)) groups (in_map g l.groups (at_in g l.groups there.0 there.1)))

  read : IsReadFrom v im
  read = record {
    size = of.size;
    root = ap (λ (s : SuperBlock). s.root.address) (sym is.superblock) ∙ of.root;
    agrees = of.agrees;
    list = l.groups;
    whole = record { sound = record { inode = l.rindex; rindex = found.rindex; only = rindex_is; header = is.looked.rindex.dinode.header; whole = is.found.groups.list.whole; listed = listed; fit = is.found.groups.fit.each; rise = is.found.groups.fit.rise }; rest = is.found.groups.fit.rest };
    groups = λ k. (entry_of k, λ f. subst (HasGroup v) (sym f.2) (has_listed f.0 f.1));
  }

  groups_whole : HasWholeGroups v im
  groups_whole = record {
    image = whole;
    headers = λ k b has in_it.
        let f = entry_of k has in
        let fits : GroupFits im f.0 = is.found.groups.fit.each f.0 f.1 in
        omega (arith, in_it.high, ap (λ (g : Group). g.addr + g.length) f.2, fits.first, fits.inside);
    data_blocks = λ b has.
        let f = entry_of has.0 has.1 in
        let fits : GroupFits im f.0 = is.found.groups.fit.each f.0 f.1 in
        omega (arith, has.2.high, ap end_of f.2, fits.inside);
  }

pub mounted_are_read : MountedAreRead
mounted_are_read v im m whole is of = (read v im m whole is of, groups_whole v im m whole is of)
