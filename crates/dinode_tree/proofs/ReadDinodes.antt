-- What is told of a dinode that was read.
use Rattle.std.proofs.Common.{◌≡◌, ◌≢◌, ◌⊎◌, inl, inr, true, ◌*◌, ◌≤◌, ℕ, length, sym, ap, subst, ◌∙◌, arith}
use Rattle.gfs2_layout.specs.Headers.{HasHeader}
use Rattle.gfs2_layout.specs.Holding.{Holding}
use Rattle.gfs2_layout.specs.Inode.{dinode_in, height_in, fan, span, content_count, Fits}
use Rattle.gfs2_layout.specs.Structures.{dinode_length, is_directory, is_regular}
use Rattle.gfs2_layout.specs.declared.dinode.Dinode.{Dinode}
use Rattle.glock_names.specs.Views.{Seen}
use Rattle.dinode_tree.specs.Reading.{IsRightDinode}
use Rattle.dinode_tree.specs.Shown.{IsShown}
use Rattle.dinode_tree.specs.Walking.{held, IsIn, IsOf}
use Rattle.dinode_tree.specs.declared.inode.Inode.{Inode}
use Rattle.dinode_tree.proofs.Dinodes.{dinode_is, height_same, height_held, size_same, size_held, count_same}
use Rattle.dinode_tree.proofs.Pointers.{shown_of}

-- what is shown of the inode in the block that the holding's dinode is in
pub shown_in : (v : Seen) (h : Holding) (a : ℕ) (inode : Inode) → inode.block ≡ a → IsShown v a h → IsIn v inode → IsOf h inode
shown_in v h a inode at shown there = shown_of v h inode (subst (λ b. IsShown v b h) (sym at) shown) there

-- a dinode whose content fits is the holding's
pub fits_of : (h : Holding) (inode : Inode) → IsOf h inode → Fits (held inode) → Fits h
fits_of h inode o f =
    let height : height_in (held inode) ≡ height_in h = sym (height_held inode) ∙ height_same h inode o in
    let size : (dinode_in (held inode)).size ≡ (dinode_in h).size = sym (size_held inode) ∙ size_same h inode o in
    record {
      low = omega (arith, f.low, height);
      stuffed = λ none. omega (arith, f.stuffed (height ∙ none), size, o.size);
      under = λ level high.
          subst (λ n. content_count h ≤ fan n dinode_length * span n level) (sym o.size)
          (subst (λ n. n ≤ fan (length inode.bytes.now) dinode_length * span (length inode.bytes.now) level) (count_same h inode o) (f.under level (height ∙ high)));
    }

-- a dinode that was looked at
pub right_dinode : (h : Holding) (a : ℕ) (inode : Inode) → IsOf h inode → h.own ≡ a → HasHeader 4 400 inode.bytes.now → inode.dinode.num.address ≡ a → inode.dinode.num.number ≢ 0
    → (is_directory inode.dinode ≡ true) ⊎ (is_regular inode.dinode ≡ true) → Fits (held inode) → IsRightDinode h
right_dinode h a inode o own header address number mode fits = record {
  header = subst (HasHeader 4 400) (sym o.bytes) header;
  address = ap (λ (d : Dinode). d.num.address) (dinode_is h inode o) ∙ address ∙ sym own;
  number = λ e. number (ap (λ (d : Dinode). d.num.number) (sym (dinode_is h inode o)) ∙ e);
  mode = elim mode [
    | inl directory ↦ inl (ap is_directory (dinode_is h inode o) ∙ directory)
    | inr regular ↦ inr (ap is_regular (dinode_is h inode o) ∙ regular)
  ];
  fits = fits_of h inode o fits;
}
