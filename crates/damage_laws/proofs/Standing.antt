-- An image that stands, and a view that may be of it.
use Rattle.std.proofs.Common.{◌≡◌, ◌+◌, refl, sym, ap, ◌∙◌, subst, arith}
use Rattle.draft_changes.proofs.Views.{groups_are_listed}
use Rattle.file_tree.specs.Tree.{Tree}
use Rattle.gfs2_layout.specs.declared.rindex.Rindex.{Rindex}
use Rattle.glock_names.specs.Views.{Seen, HasGroup, end_of, group_of_entry}
use Rattle.glock_names.specs.declared.views.Group.{Group}
use Rattle.resource_groups.specs.Putting.{HasDataBlock}
use Rattle.image_changes.specs.Does.{IsOf}
use Rattle.image_model.specs.Groups.{IsListed, GroupFits}
use Rattle.image_model.specs.Image.{Image}
use Rattle.image_model.specs.Owners.{Owners, IsUsed}
use Rattle.image_model.specs.Stands.{Layout, IsLaid}
use Rattle.image_model.proofs.Held.{own_block}
use Rattle.image_model.proofs.Rows.{sound}
use Rattle.image_model.proofs.UnbrokenSystem.{list_whole}
use Rattle.gfs2_layout.specs.Headers.{HasHeader}
use Rattle.image_model.proofs.Facts.{has_rindex, list_is, rindex_is, rindex_dinode}
use Rattle.damage_laws.specs.Telling.{IsReadFrom, HasRootInside, HasWholeGroups, StandingAreRead}

module _ (v : Seen) (im : Image) (o : Owners) (l : Layout) (t : Tree) (is : IsOf v im o l t) where
  laid : IsLaid im o l
  laid = is.stands.laid

  listed : (k : Group) → HasGroup v k → (g : Rindex) × IsListed l.groups g × (k ≡ group_of_entry g)
  listed k has = (groups_are_listed v im o l t k is).0 has

  has_listed : (g : Rindex) → IsListed l.groups g → HasGroup v (group_of_entry g)
  has_listed g there = (groups_are_listed v im o l t (group_of_entry g) is).1 (g, there, refl)

  header : HasHeader 4 400 (im.at l.rindex)
  header = let dinode = rindex_dinode im o l laid in subst (HasHeader 4 400) (own_block im o l.rindex dinode) (sound im o l laid l.rindex dinode).header

  read : IsReadFrom v im
  read = record {
    size = is.size;
    root = laid.super.root ∙ is.root;
    agrees = is.agrees;
    list = l.groups;
    whole = record { sound = record { inode = l.rindex; rindex = has_rindex im o l laid; only = rindex_is im o l laid; header = header; whole = list_whole im o l laid l.rindex (has_rindex im o l laid); listed = list_is im o l laid; fit = laid.fit.each; rise = laid.fit.rise }; rest = laid.fit.rest };
    groups = λ k. (listed k, λ f. subst (HasGroup v) (sym f.2) (has_listed f.0 f.1));
  }

  whole : HasWholeGroups v im
  whole = record {
    image = laid.image;
    headers = λ k b has of.
        let f = listed k has in
        let fits : GroupFits im f.0 = laid.fit.each f.0 f.1 in
        omega (arith, of.high, ap (λ (g : Group). g.addr + g.length) f.2, fits.first, fits.inside);
    data_blocks = λ b has.
        let f = listed has.0 has.1 in
        let fits : GroupFits im f.0 = laid.fit.each f.0 f.1 in
        omega (arith, has.2.high, ap end_of f.2, fits.inside);
  }

  root_inside : HasRootInside v
  root_inside =
      let g = laid.zoned.placed l.root (subst IsUsed (sym laid.root.0) tt) in
      subst (HasDataBlock v) is.root (group_of_entry g.0, has_listed g.0 g.1, record { low = g.2.low; high = g.2.high })

pub standing_are_read : StandingAreRead
standing_are_read v im o l t is = (read v im o l t is, whole v im o l t is, root_inside v im o l t is)
