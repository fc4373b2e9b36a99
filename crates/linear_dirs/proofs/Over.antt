-- What drafts leave of an inode, one over the other.
use Rattle.std.proofs.Common.{◌≡◌, ℕ, List, Option, None, Some, refl, sym, ◌∙◌}
use Rattle.std.specs.Prelude.{option_map}
use Rattle.gfs2_layout.specs.Holding.{Holding, Cell, part_at}
use Rattle.glock_names.specs.Views.{Seen, HasBlock}
use Rattle.dinode_tree.specs.Shown.{IsAsSeen}
use Rattle.linear_dirs.specs.Shown.{bytes_over, holding_over}
use Rattle.linear_dirs.proofs.Rewritten.{over_part, over_there, over_put}

over_twice : (o p : Option (List ℕ)) (c : Option Cell) → ((x : List ℕ) × (o ≡ Some x) → (y : List ℕ) × (p ≡ Some y)) → option_map (bytes_over p) (option_map (bytes_over o) c) ≡ option_map (bytes_over p) c
over_twice o p None later = refl
over_twice None p (Some c) later = refl
over_twice (Some x) (Some y) (Some c) later = refl
over_twice (Some x) None (Some c) later = absurd (no (later (x, refl)).0 (later (x, refl)).1)
  where
    no : (y : List ℕ) → None ≡ Some y → ⊥
    no y e = cc

pub parts_stay : (v : Seen) (h : Holding) (b : ℕ) → part_at (holding_over v h) b ≡ part_at h b
parts_stay v h b = over_part (v.block_at b) (h.cell b)

pub over_over : (v w : Seen) (h : Holding) → ((b : ℕ) → HasBlock v b → HasBlock w b) → holding_over w (holding_over v h) ≡ holding_over w h
over_over v w h later = λ i. record h { cell = λ b. over_twice (v.block_at b) (w.block_at b) (h.cell b) (later b) i }

pub as_seen : (v : Seen) (h : Holding) → IsAsSeen v (holding_over v h)
as_seen v h b bytes there at = over_put (v.block_at b) (h.cell b) bytes (sym (over_there (v.block_at b) (h.cell b)) ∙ there) at
