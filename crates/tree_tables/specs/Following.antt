-- A table is that of its directory in whatever shows that, as long as it says the same depth.
use Rattle.std.specs.Prelude.{◌≡◌, ◌*◌, ◌/◌, ◌^◌, ◌≤◌}
use Rattle.std.proofs.Common.{sym, ap, ◌∙◌, subst}
use Rattle.gfs2_layout.specs.Device.{IsBlockSize}
use Rattle.gfs2_layout.specs.Holding.{Holding}
use Rattle.gfs2_layout.specs.Inode.{IsInode, depth_in}
use Rattle.glock_names.specs.Views.{Seen}
use Rattle.dinode_tree.specs.Shown as inode
use Rattle.dinode_tree.proofs.Sound.{sound_is_whole}
use Rattle.hash_dirs.specs.Directories.{IsShown}
use Rattle.tree_tables.specs.Pointers.{IsTableOf}
use Rattle.tree_tables.specs.declared.tree_table.TreeTable.{TreeTable}

pub follows_in : (t : TreeTable) (v w : Seen) (h g : Holding) → IsTableOf t v h → g.own ≡ h.own → IsShown w h.own g → IsBlockSize g.size → IsInode g → depth_in g ≡ depth_in h → IsTableOf t w g
follows_in t v w h g table own shown size sound deep = record {
  shown = subst (λ a. inode.IsShown w a g) table.shown.own shown.inode;
  hashed = shown.hashed;
  depth = table.depth ∙ sym deep;
  least = subst (λ n. g.size / 16 ≤ 2 ^ n) (deep ∙ sym table.depth) (sound.hashed shown.hashed).least;
  size = (sound.hashed shown.hashed).size ∙ ap (λ n. 8 * 2 ^ n) (deep ∙ sym table.depth);
  whole = λ at. sound_is_whole g at size sound;
}
