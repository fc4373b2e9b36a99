-- What one change of a file after another leaves of its blocks.
use Rattle.std.proofs.Common.{◌≡◌, ◌≢◌, ℕ, suc, ◌≤◌, List, length, take, drop, Option, Some, sym, ap, subst, ◌∙◌, arith}
use Rattle.std.specs.Prelude.{IsSome}
use Rattle.gfs2_layout.specs.Holding.{Cell, Holding, part_at, bytes_at}
use Rattle.gfs2_layout.specs.Inode.{dinode_in, header_length}
use Rattle.gfs2_layout.specs.Structures.{dinode_length}
use Rattle.gfs2_layout.specs.Writing.{dinode_fields, dinode_put}
use Rattle.gfs2_layout.specs.declared.dinode.Dinode.{Dinode}
use Rattle.gfs2_layout.proofs.FieldsInPlace.{drop-fields}
use Rattle.glock_names.specs.Views.{Seen}
use Rattle.dinode_tree.specs.Pads.{KeepsPads}
use Rattle.dinode_tree.specs.Shown.{IsShown}
use Rattle.dinode_tree.proofs.Pads.{keeps_on, put_keeps}
use Rattle.dinode_tree.proofs.Sound.{is_there}
use Rattle.growth_laws.specs.Blocks.{rewritten_cells}
use Rattle.growth_laws.specs.Files.{IsFile, IsPlaced, with_cells}
use Rattle.growth_laws.proofs.Parts.{not_itself}
use Rattle.growth_laws.proofs.Pointing.{rewrites_keep_the_rest}
use Rattle.growth_laws.proofs.Places.{size_large}
use Rattle.file_heights.specs.Keeping.{KeepsHeads}

-- no block below the dinode is its own
pub not_own : (h : Holding) (b level first : ℕ) → IsFile h → IsPlaced h b level first → b ≢ h.own
not_own h b level first file placed e = not_itself _ _ _ _ (sym file.own ∙ ap (part_at h) (sym e) ∙ placed.2)

pub own_large : (h : Holding) → IsFile h → dinode_length ≤ length (bytes_at h h.own)
own_large h file = omega (arith, size_large h.size file.block_size, file.whole h.own _ file.own)

-- the bytes of the dinode's block as a view has them
pub own_seen : (v : Seen) (inode : ℕ) (h : Holding) (bytes : List ℕ) → IsShown v inode h → v.block_at inode ≡ Some bytes → bytes_at h h.own ≡ bytes
own_seen v inode h bytes shown has = shown.same h.own bytes shown.dinode (ap v.block_at shown.own ∙ has)

-- what stands behind a dinode stays where it is put
pub behind_put : (d : Dinode) (bytes : List ℕ) → dinode_length ≤ length bytes → drop dinode_length (dinode_put d bytes) ≡ drop dinode_length bytes
behind_put d bytes large = drop-fields (dinode_fields d) bytes (omega (arith, large)) dinode_length (omega arith)

-- a dinode is put into its block, and no other block changes
pub put_keeps_heads : (h : Holding) (cell : ℕ → Option Cell) (d : Dinode) → IsFile h → bytes_at (with_cells h cell) h.own ≡ dinode_put d (bytes_at h h.own) → dinode_in (with_cells h cell) ≡ d
    → drop dinode_length (bytes_at (with_cells h cell) h.own) ≡ drop dinode_length (bytes_at h h.own) → ((x : ℕ) → x ≢ h.own → bytes_at (with_cells h cell) x ≡ bytes_at h x) → KeepsHeads h (with_cells h cell)
unfolding dinode_in
put_keeps_heads h cell d file put says behind others = record {
  pads = put_keeps d (bytes_at h h.own) (bytes_at (with_cells h cell) h.own) put says behind;
  headers = λ b level first placed there. ap (take header_length) (others b (not_own h b (suc level) first file placed));
}

-- the dinode's block with the bytes that are put, of a file that a view shows
pub put_here : (v : Seen) (inode : ℕ) (h : Holding) (d d' : Dinode) (bytes : List ℕ) → IsFile h → IsShown v inode h → v.block_at inode ≡ Some bytes → d ≡ d'
    → bytes_at (with_cells h (rewritten_cells h h.own (dinode_put d bytes))) h.own ≡ dinode_put d' (bytes_at h h.own)
put_here v inode h d d' bytes file shown has says =
    (rewrites_keep_the_rest h h.own _ (dinode_put d bytes) file.own).1 ∙ (λ t. dinode_put (says t) (sym (own_seen v inode h bytes shown has) t))

-- one change after another
pub heads_then : (h m g : Holding) → m.own ≡ h.own → IsFile h → ((b level first : ℕ) → IsPlaced h b (suc level) first → IsSome (g.cell b) → IsPlaced m b (suc level) first) → KeepsHeads h m → KeepsHeads m g → KeepsHeads h g
heads_then h m g own file still first then = record {
  pads = keeps_on (bytes_at h h.own) (bytes_at m h.own) (bytes_at g h.own) (own_large h file) first.pads (subst (λ a. KeepsPads (bytes_at m a) (bytes_at g a)) own then.pads);
  headers = λ b level at placed there.
      let mid = still b level at placed there in
      then.headers b level at mid there ∙ first.headers b level at placed (is_there (m.cell b) _ mid.2);
}
