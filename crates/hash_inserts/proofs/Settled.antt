-- A directory after leaves came or changed, and then its dinode was put with other counts.
use Rattle.std.proofs.Common.{◌≡◌, ◌≢◌, ℕ, ◌+◌, List, drop, Some, None, sym, ap, ◌∙◌, subst, arith, Option}
use Rattle.std.specs.Prelude.{IsSome}
use Rattle.gfs2_layout.specs.Holding.{Holding, Cell, Part, Itself, part_at, bytes_at}
use Rattle.gfs2_layout.specs.Inode.{block_count, dinode_in}
use Rattle.gfs2_layout.specs.Structures.{dinode_length, dinode_of, header_fault}
use Rattle.gfs2_layout.specs.declared.dinode.Dinode.{Dinode}
use Rattle.gfs2_layout.proofs.HeaderLaws.{answer_ok, header_from}
use Rattle.dinode_tree.specs.Pads.{KeepsPads}
use Rattle.dinode_tree.proofs.Pads.{put_keeps}
use Rattle.growth_laws.specs.Files.{with_cells}
use Rattle.pointer_tables.specs.Directories.{IsPlaced, IsTreeSound}
use Rattle.hash_steps.proofs.Chained.{cell_some}
use Rattle.hash_inserts.specs.Drafting.{with_block}
use Rattle.hash_inserts.specs.Writing.{IsDinodeWritten, counting}
use Rattle.hash_inserts.proofs.Blocks.{bytes_here, counts_same}
use Rattle.hash_inserts.proofs.Trees.{IsWhole, KeepsTree, countless, dinode_keeps, in_tree, keeps_then, placed_after, rules_of, sound_after, tree_itself, whole_with}

module _ (h : Holding) (cell : ℕ → Option Cell) (new : List ℕ) (records links more : ℕ) (tree : IsTreeSound h) (placed : IsPlaced h) (keeps : KeepsTree h cell) (whole : IsWhole (with_cells h cell))
    (same : bytes_at (with_cells h cell) h.own ≡ bytes_at h h.own) (counts : block_count (with_cells h cell) ≡ block_count h + more)
    (written : IsDinodeWritten (bytes_at h h.own) new (counting (dinode_in h) records links more)) where
  abbrev pub m : Holding
  m = with_cells h cell

  abbrev pub settled : Holding
  settled = with_block (with_cells h cell) h.own Itself new

  own_m : part_at m h.own ≡ Some Itself
  own_m = tree_itself (part_at m h.own) (keeps.parts h.own ∙ ap in_tree placed.own)

  some_m : IsSome (m.cell h.own)
  some_m = cell_some (m.cell h.own) Itself own_m

  read : (header_fault dinode_length 4 400 new ≡ None) × (dinode_of new ≡ counting (dinode_in h) records links more)
  read = answer_ok (header_fault dinode_length 4 400 new) (dinode_of new) (counting (dinode_in h) records links more) written.read

  pub own_now : bytes_at settled h.own ≡ new
  own_now = bytes_here m h.own Itself new

  pub dinode_now : dinode_in settled ≡ counting (dinode_in h) records links more
  unfolding dinode_in
  dinode_now = ap dinode_of own_now ∙ read.1

  dinode_m : countless (dinode_in h) ≡ countless (dinode_in m)
  dinode_m = sym keeps.dinode

  pub keeps_now : KeepsTree h settled.cell
  keeps_now = keeps_then h cell settled.cell keeps (dinode_keeps m new own_m (ap countless read.1 ∙ dinode_m) (written.behind ∙ ap (drop dinode_length) (sym same)))

  not_zero : h.own ≢ 0
  not_zero e = no (sym placed.nobody ∙ ap (part_at h) (sym e) ∙ placed.own)
    where
      no : ◌≡◌ {A = Option Part} None (Some Itself) → ⊥
      no is = cc

  whole_now : IsWhole settled
  whole_now = whole_with m h.own Itself new whole (written.long ∙ tree.whole h.own Itself placed.own) not_zero (whole.inside h.own some_m) (λ e. header_from dinode_length 4 400 new read.0)

  blocks_now : (dinode_in settled).blocks ≡ block_count settled
  blocks_now = omega (arith, ap (λ (d : Dinode). d.blocks) dinode_now, tree.blocks, counts, counts_same m h.own Itself new some_m)

  pub sound_now : IsTreeSound settled
  sound_now = sound_after h settled.cell keeps_now (rules_of h settled.cell whole_now blocks_now) tree

  pub placed_now : IsPlaced settled
  placed_now = placed_after h settled.cell keeps_now (rules_of h settled.cell whole_now blocks_now) placed

  pub behind_now : drop dinode_length (bytes_at settled h.own) ≡ drop dinode_length (bytes_at h h.own)
  behind_now = ap (drop dinode_length) own_now ∙ written.behind

  pub pads_now : KeepsPads (bytes_at h h.own) (bytes_at settled h.own)
  pads_now = subst (KeepsPads (bytes_at h h.own)) (sym own_now) (put_keeps (counting (dinode_in h) records links more) (bytes_at h h.own) new written.is read.1 written.behind)
