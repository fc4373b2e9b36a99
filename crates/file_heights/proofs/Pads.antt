-- Pads of a dinode that is put over its old bytes, with other bytes behind it.
use Rattle.std.proofs.Common.{◌≡◌, ◌≢◌, Option, None, Some, ℕ, ◌+◌, ◌≤◌, List, ◌++◌, length, take, refl, sym, ap, ◌∙◌, arith}
use Rattle.std.proofs.lemmas.Bool.{cond-false, ne_eqb}
use Rattle.std.proofs.lemmas.List.{length-take, take-append-le, take-take}
use Rattle.gfs2_layout.specs.Holding.{Cell, Holding, Itself, cell_bytes, bytes_at}
use Rattle.gfs2_layout.specs.Structures.{dinode_length}
use Rattle.gfs2_layout.specs.Writing.{dinode_put, zeros_from}
use Rattle.gfs2_layout.specs.declared.dinode.Dinode.{Dinode}
use Rattle.dinode_tree.proofs.Sound.{is_there}
use Rattle.growth_laws.specs.Blocks.{rewritten_cells, with_pointer}
use Rattle.growth_laws.specs.Files.{IsFile, with_cells}
use Rattle.growth_laws.proofs.Pointing.{rewrites_keep_the_rest}
use Rattle.growth_drafts.proofs.Rooms.{none_some}
use Rattle.growth_steps.specs.Heights.{led_bytes, moved_cell, raised_cells, unstuffed_cells}
use Rattle.growth_steps.proofs.Leading.{zeros_length}
use Rattle.file_fills.specs.Headers.{HaveSamePads}
use Rattle.file_fills.proofs.Headers.{before_pointer, put_over}
use Rattle.file_heights.proofs.Keeping.{own_large}

-- what stands before other bytes stays
pub before_rest : (n : ℕ) (bytes rest : List ℕ) → n ≤ length bytes → take n (take n bytes ++ rest) ≡ take n bytes
before_rest n bytes rest fits = take-append-le n (take n bytes) rest (omega (arith, fits, length-take n bytes)) ∙ take-take n n bytes (omega arith)

-- ---- the dinode's block

pub rewritten_own : (h : Holding) (own : List ℕ) → IsFile h → bytes_at (with_cells h (rewritten_cells h h.own own)) h.own ≡ own
rewritten_own h own file = (rewrites_keep_the_rest h h.own Itself own file.own).1

-- the dinode over bytes that begin as those that were there
pub pads_over : (h : Holding) (cell : ℕ → Option Cell) (d : Dinode) (over : List ℕ) → IsFile h → take dinode_length over ≡ take dinode_length (bytes_at h h.own) → bytes_at (with_cells h cell) h.own ≡ dinode_put d over
    → HaveSamePads (bytes_at h h.own) (bytes_at (with_cells h cell) h.own)
pads_over h cell d over file front put = put_over d (bytes_at h h.own) over (bytes_at (with_cells h cell) h.own) (own_large h file) front put

module _ (h : Holding) (d : Dinode) (bytes : List ℕ) (file : IsFile h) (seen : bytes_at h h.own ≡ bytes) where
  large : dinode_length ≤ length bytes
  large = omega (arith, own_large h file, ap length seen)

  -- and others behind it
  pub pads_before : (rest : List ℕ) → HaveSamePads (bytes_at h h.own) (bytes_at (with_cells h (rewritten_cells h h.own (dinode_put d (take dinode_length bytes ++ rest)))) h.own)
  pads_before rest =
      pads_over h (rewritten_cells h h.own (dinode_put d (take dinode_length bytes ++ rest))) d (take dinode_length bytes ++ rest) file
      (before_rest dinode_length bytes rest large ∙ ap (take dinode_length) (sym seen)) (rewritten_own h (dinode_put d (take dinode_length bytes ++ rest)) file)

  module _ (b : ℕ) (new : List ℕ) (free : h.cell b ≡ None) where
    apart : h.own ≢ b
    apart e = none_some (h.cell h.own) (ap h.cell e ∙ free) (is_there (h.cell h.own) _ file.own)

    led_front : take dinode_length (with_pointer dinode_length 0 b (zeros_from dinode_length bytes)) ≡ take dinode_length (bytes_at h h.own)
    led_front =
        before_pointer dinode_length dinode_length 0 b (zeros_from dinode_length bytes) (omega arith) (omega (arith, large, zeros_length dinode_length bytes large))
        ∙ before_rest dinode_length bytes _ large ∙ ap (take dinode_length) (sym seen)

    -- with a pointer to a block that is new: of content
    pub moved_pads : HaveSamePads (bytes_at h h.own) (bytes_at (with_cells h (unstuffed_cells h b (led_bytes d b bytes) new)) h.own)
    moved_pads =
        pads_over h (unstuffed_cells h b (led_bytes d b bytes) new) d (with_pointer dinode_length 0 b (zeros_from dinode_length bytes)) file led_front
        (ap cell_bytes (cond-false _ _ _ (ne_eqb h.own b apart)) ∙ rewritten_own h (led_bytes d b bytes) file)

    moved_cell_bytes : (o : Option Cell) → cell_bytes (moved_cell h.own b o) ≡ cell_bytes o
    moved_cell_bytes None = refl
    moved_cell_bytes (Some c) = refl

    -- or an indirect one
    pub raised_pads : (level : ℕ) → HaveSamePads (bytes_at h h.own) (bytes_at (with_cells h (raised_cells h level b (led_bytes d b bytes) new)) h.own)
    raised_pads level =
        pads_over h (raised_cells h level b (led_bytes d b bytes) new) d (with_pointer dinode_length 0 b (zeros_from dinode_length bytes)) file led_front
        (ap cell_bytes (cond-false _ _ _ (ne_eqb h.own b apart)) ∙ moved_cell_bytes (rewritten_cells h h.own (led_bytes d b bytes) h.own) ∙ rewritten_own h (led_bytes d b bytes) file)
