-- What stands for a tree does so whatever lies behind the device's end.
use Rattle.std.proofs.Common.{◌≡◌, ℕ, ◌<◌, List, [], length, Bool, true, Some, refl, sym, ap, subst, ◌∙◌, inl, inr, arith}
use Rattle.std.specs.Prelude.{if◌then◌else◌, nat_lt}
use Rattle.std.proofs.lemmas.Bool.{cases_lt, lt-ltb}
use Rattle.file_tree.specs.Tree.{Tree}
use Rattle.gfs2_layout.proofs.StatePuts.{map_same}
use Rattle.gfs2_layout.specs.Headers.{HasHeader}
use Rattle.gfs2_layout.specs.Holding.{Holding}
use Rattle.gfs2_layout.specs.Inode.{IsInode, head_of, is_directory_in, records_of, dinode_in}
use Rattle.gfs2_layout.specs.Structures.{superblock_of}
use Rattle.gfs2_layout.specs.Device.{superblock_place}
use Rattle.gfs2_layout.specs.declared.rindex.Rindex.{Rindex}
use Rattle.image_model.specs.Flat.{Flat, no_node, ReadsAs}
use Rattle.image_model.specs.Groups.{IsListed, GroupsFit, IsGroup, group_blocks, states_of}
use Rattle.image_model.specs.Image.{Image}
use Rattle.image_model.specs.Nodes.{node_of}
use Rattle.image_model.specs.Owners.{Owner, Owners, Super, InGroup, Free, Nobody, Root, Master, Named, Below, Chained, IsUsed, Up, up_of, part_in, cell_of, cell_in, holding, is_dinode}
use Rattle.image_model.specs.Stands.{Layout, IsLaid, IsSystem, IsFound, IsDirectory, AreShort, Stands}
use Rattle.disk_trees.specs.Reading.{ending}

-- of a block that nobody uses no inode has anything
unused : (a b : ℕ) (o : Owner) (x y : List ℕ) → (IsUsed o → ⊥) → cell_of (part_in a b o) x ≡ cell_of (part_in a b o) y
unused a b Super x y none = refl
unused a b (InGroup g) x y none = refl
unused a b (Free g) x y none = refl
unused a b Nobody x y none = refl
unused a b Root x y none = absurd (none tt)
unused a b Master x y none = absurd (none tt)
unused a b (Named parent name) x y none = absurd (none tt)
unused a b (Below d c k level first) x y none = absurd (none tt)
unused a b (Chained d hash place) x y none = absurd (none tt)

-- what the inodes of these holdings say
abbrev flat_by : Owners → (ℕ → Holding) → Flat
flat_by o holds a = if is_dinode (o a) then node_of (holds a) else no_node

module _ (size count : ℕ) (at at' : ℕ → List ℕ) (same : (b : ℕ) → b < count → at' b ≡ at b) (o : Owners) (l : Layout) where
  abbrev im : Image
  im = record { size = size; count = count; at = at }

  abbrev im' : Image
  im' = record { size = size; count = count; at = at' }

  module _ (laid : IsLaid im o l) where
    -- a block that is in use is on the device
    used_inside : (b : ℕ) → IsUsed (o b) → b < count
    used_inside b used =
        let placed = laid.zoned.placed b used in
        let inside = (laid.fit.each placed.0 placed.1).inside in
        let high = placed.2.high in
        omega (arith, inside, high)

    cell_same : (a b : ℕ) → cell_in im' o a b ≡ cell_in im o a b
    unfolding cell_in
    cell_same a b = elim (cases_lt b count) [
      | inl low ↦ ap (cell_of (part_in a b (o b))) (same b low)
      | inr past ↦ unused a b (o b) (at' b) (at b) (λ used. let low = used_inside b used in absurd (omega (arith, low, past)))
    ]

    holding_same : holding im' o ≡ holding im o
    holding_same = λ i a. record { size = size; count = count; own = a; cell = λ b. cell_same a b i }

    group_same : (g : Rindex) → IsListed l.groups g → group_blocks at' g ≡ group_blocks at g
    group_same g there =
        let fits = laid.fit.each g there in
        let inside = fits.inside in
        let first = fits.first in
        map_same at' at g.address g.length (λ b low high. same b (omega (arith, inside, first, low, high)))

    super_same : at' (superblock_place size) ≡ at (superblock_place size)
    super_same = same (superblock_place size) laid.super.inside

    fits_same : GroupsFit im' l.groups
    fits_same = record {
      each = λ g there. let fits = laid.fit.each g there in record { above = fits.above; some = fits.some; first = fits.first; whole = fits.whole; bits = fits.bits; inside = fits.inside };
      rise = laid.fit.rise;
      rest = laid.fit.rest;
    }

    laid_same : IsLaid im' o l
    laid_same = record {
      image = record { block_size = laid.image.block_size; whole = λ b low. ap length (same b low) ∙ laid.image.whole b low };
      super = record {
        inside = laid.super.inside;
        header = subst (HasHeader 1 100) (sym super_same) laid.super.header;
        root = ap (λ b. (superblock_of b).root.address) super_same ∙ laid.super.root;
        master = ap (λ b. (superblock_of b).master.address) super_same ∙ laid.super.master;
      };
      fit = fits_same;
      zoned = record {
        low = laid.zoned.low;
        headers = laid.zoned.headers;
        data_blocks = laid.zoned.data_blocks;
        placed = laid.zoned.placed;
        between = laid.zoned.between;
      };
      groups = λ g there. subst (λ blocks. IsGroup g blocks (states_of o g)) (sym (group_same g there)) (laid.groups g there);
      root = (laid.root.0, ap (λ (h : ℕ → Holding). is_directory_in (h l.root)) holding_same ∙ laid.root.1);
      master = laid.master;
      inodes = λ a so. subst (λ (h : ℕ → Holding). IsInode (h a)) (sym holding_same) (laid.inodes a so);
      directories = subst (λ (h : ℕ → Holding). (a : ℕ) → is_dinode (o a) ≡ true → is_directory_in (h a) ≡ true → IsDirectory (λ b. head_of (h b)) o a (records_of (h a)) (dinode_in (h a)))
          (sym holding_same) laid.directories;
      within = laid.within;
      names = subst (λ (h : ℕ → Holding). (a : ℕ) (u : Up) → up_of (o a) ≡ Some u → (flat_by o h u.parent).child u.name ≡ Some a) (sym holding_same) laid.names;
      found = subst (λ (h : ℕ → Holding). (a : ℕ) → is_dinode (o a) ≡ true → IsFound (flat_by o h) l a) (sym holding_same) laid.found;
      system = subst (λ (h : ℕ → Holding). IsSystem (flat_by o h) h l) (sym holding_same) laid.system;
      short = subst (λ (h : ℕ → Holding). AreShort (flat_by o h) h l) (sym holding_same) laid.short;
    }

    reads_same : (t : Tree) → ReadsAs (flat_by o (holding im o)) l.root t → ReadsAs (flat_by o (holding im' o)) l.root t
    reads_same t = subst (λ (h : ℕ → Holding). ReadsAs (flat_by o h) l.root t) (sym holding_same)

-- the image as far as the device goes stands for the tree for which the image stands
pub stands_on : (im : Image) (t : Tree) → Stands im t → Stands (ending im) t
stands_on im t stands = record {
  owners = stands.owners;
  layout = stands.layout;
  laid = laid_same im.size im.count im.at at same stands.owners stands.layout stands.laid;
  reads = reads_same im.size im.count im.at at same stands.owners stands.layout stands.laid t stands.reads;
}
  where
    at : ℕ → List ℕ
    at b = if nat_lt b im.count then im.at b else []

    same : (b : ℕ) → b < im.count → at b ≡ im.at b
    same b low = ap (λ (t : Bool). if t then im.at b else []) (lt-ltb b im.count low)
