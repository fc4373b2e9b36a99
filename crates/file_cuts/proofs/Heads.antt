-- What a cut leaves of the blocks that stay, byte by byte.
use Rattle.std.proofs.Common.{◌≡◌, ◌≢◌, Bool, true, false, Option, Some, ℕ, suc, ◌+◌, ◌-◌, ◌*◌, ◌≤◌, ◌==◌, if◌then◌else◌, List, ◌++◌, length, take, drop, refl, sym, ap, subst, ◌∙◌, arith}
use Rattle.std.proofs.lemmas.Bool.{cond-false, cond-true, eq-eqb, ne_eqb}
use Rattle.std.proofs.lemmas.List.{length-take, length-take-le, take-append-drop, take-append-le}
use Rattle.std.proofs.Math.Seq.{drop-append_seam}
use Rattle.std.specs.Prelude.{IsSome, replicate}
use Rattle.gfs2_layout.specs.Bytes.{with_number}
use Rattle.gfs2_layout.specs.Holding.{Cell, Holding, part_at, bytes_at}
use Rattle.gfs2_layout.specs.Inode.{dinode_in, header_length}
use Rattle.gfs2_layout.specs.Structures.{dinode_length, dinode_of}
use Rattle.gfs2_layout.specs.Writing.{dinode_fields, dinode_put, zeros_from}
use Rattle.gfs2_layout.specs.declared.dinode.Dinode.{Dinode}
use Rattle.gfs2_layout.proofs.FieldsInPlace.{drop-fields}
use Rattle.glock_names.specs.Views.{Seen}
use Rattle.dinode_tree.specs.Pads.{KeepsPads, dinode_over}
use Rattle.dinode_tree.specs.Shown.{IsShown}
use Rattle.dinode_tree.proofs.Pads.{keeps_by}
use Rattle.dinode_tree.proofs.Sound.{is_there}
use Rattle.growth_laws.specs.Blocks.{rewritten_cells, start_in, with_pointer}
use Rattle.growth_laws.specs.Files.{IsFile, IsPlaced, with_cells}
use Rattle.growth_drafts.specs.Taken.{IsContentIn}
use Rattle.growth_laws.proofs.Parts.{not_itself, same_level}
use Rattle.growth_laws.proofs.Pointing.{rewrites_keep_the_rest}
use Rattle.growth_steps.proofs.Leading.{zeros_length}
use Rattle.file_heights.specs.Keeping.{KeepsHeads}
use Rattle.file_heights.proofs.Keeping.{behind_put, not_own, own_seen}

-- ---- the front of a block

pub take_front : (n at : ℕ) (bytes rest : List ℕ) → n ≤ at → n ≤ length bytes → take n (take at bytes ++ rest) ≡ take n bytes
take_front n at bytes rest low fits =
    let long : n ≤ length (take at bytes) = omega (arith, length-take at bytes, low, fits) in
    take-append-le n (take at bytes) rest long ∙ sym (take-append-le n (take at bytes) (drop at bytes) long) ∙ ap (take n) (take-append-drop at bytes)

-- a pointer stands behind it
pub pointer_behind : (start k to : ℕ) (bytes : List ℕ) → start ≤ length bytes → take start (with_pointer start k to bytes) ≡ take start bytes
unfolding with_number
pointer_behind start k to bytes fits = take_front start (start + 8 * k) bytes _ (omega arith) fits

pub start_low : (h : Holding) (x : ℕ) → start_in h x ≤ dinode_length
start_low h x = each (x == h.own)
  where
    each : (own : Bool) → (if own then dinode_length else header_length) ≤ dinode_length
    each true = omega arith
    each false = omega arith

pub start_own : (h : Holding) → start_in h h.own ≡ dinode_length
start_own h = cond-true _ _ _ (eq-eqb h.own h.own refl)

pub start_other : (h : Holding) (x : ℕ) → x ≢ h.own → start_in h x ≡ header_length
start_other h x other = cond-false _ _ _ (ne_eqb x h.own other)

-- ---- pads

-- a dinode is put over bytes that begin as the old ones do
pub pads_of : (d : Dinode) (old over new : List ℕ) → new ≡ dinode_put d over → dinode_of new ≡ d → take dinode_length over ≡ take dinode_length old → dinode_length ≤ length over → KeepsPads old new
unfolding dinode_over
pads_of d old over new is says front large =
    keeps_by d old (drop dinode_length over) new (is ∙ ap (dinode_put d) (sym (take-append-drop dinode_length over) ∙ ap (λ xs. xs ++ drop dinode_length over) front)) says
    (ap (drop dinode_length) is ∙ behind_put d over large)

-- pads of bytes that begin as the old ones do
pub pads_from : (old mid new : List ℕ) → take dinode_length mid ≡ take dinode_length old → KeepsPads mid new → KeepsPads old new
unfolding KeepsPads dinode_over
pads_from old mid new front keeps = keeps ∙ ap (λ xs. dinode_put (dinode_of new) (xs ++ drop dinode_length new)) front

-- ---- zeros

-- behind a dinode that is put over zeros
pub zeros_behind : (d : Dinode) (at : ℕ) (bytes : List ℕ) → dinode_length ≤ at → at ≤ length bytes → drop at (dinode_put d (zeros_from at bytes)) ≡ replicate (length bytes - at) 0
zeros_behind d at bytes low fits =
    drop-fields (dinode_fields d) (zeros_from at bytes) (omega (arith, zeros_length at bytes fits, low, fits)) at (omega (arith, low))
    ∙ ap (λ n. drop n (zeros_from at bytes)) (sym (length-take-le at bytes fits)) ∙ drop-append_seam (take at bytes) (replicate (length bytes - at) 0)

-- ---- from one file to the next

-- blocks but those of content keep their bytes
pub heads_on : (h m g : Holding) → m.own ≡ h.own → g.own ≡ h.own → IsFile m → ((b level first : ℕ) → IsPlaced h b (suc level) first → IsSome (g.cell b) → IsPlaced m b (suc level) first) → KeepsHeads h m
    → ((b : ℕ) → (IsContentIn m b → ⊥) → bytes_at g b ≡ bytes_at m b) → KeepsHeads h g
heads_on h m g own own' file still first others = record {
  pads = subst (KeepsPads (bytes_at h h.own)) (sym (others h.own (λ is. not_itself _ _ _ _ (sym file.own ∙ ap (part_at m) own ∙ is.3)))) first.pads;
  headers = λ b level at placed there.
      let mid = still b level at placed there in
      ap (take header_length) (others b (λ is. let levels = same_level (sym mid.2 ∙ is.3) in omega (arith, levels))) ∙ first.headers b level at placed (is_there (m.cell b) _ mid.2);
}

-- and what stood before the pointers, while blocks were freed
pub heads_cut : (h m g : Holding) → IsFile h → m.own ≡ h.own → ((b : ℕ) → IsSome (g.cell b) → IsSome (m.cell b)) → ((b level first : ℕ) → IsSome (m.cell b) → IsPlaced h b level first → IsPlaced m b level first) → IsSome (m.cell h.own)
    → ((b : ℕ) → IsSome (m.cell b) → take (start_in h b) (bytes_at m b) ≡ take (start_in h b) (bytes_at h b)) → KeepsHeads m g → KeepsHeads h g
heads_cut h m g file own were still there fronts after = record {
  pads = pads_from (bytes_at h h.own) (bytes_at m h.own) (bytes_at g h.own) (subst (λ n. take n (bytes_at m h.own) ≡ take n (bytes_at h h.own)) (start_own h) (fronts h.own there))
      (subst (λ a. KeepsPads (bytes_at m a) (bytes_at g a)) own after.pads);
  headers = λ b level at placed left.
      let mid = were b left in
      after.headers b level at (still b (suc level) at mid placed) left
      ∙ subst (λ n. take n (bytes_at m b) ≡ take n (bytes_at h b)) (start_other h b (not_own h b (suc level) at file placed)) (fronts b mid);
}

-- the dinode's block, which a view has, is put with a dinode over zeros
pub put_zeros_here : (v : Seen) (inode : ℕ) (h : Holding) (d d' : Dinode) (at at' : ℕ) (bytes : List ℕ) → IsFile h → IsShown v inode h → v.block_at inode ≡ Some bytes → d ≡ d' → at ≡ at'
    → bytes_at (with_cells h (rewritten_cells h h.own (dinode_put d (zeros_from at bytes)))) h.own ≡ dinode_put d' (zeros_from at' (bytes_at h h.own))
put_zeros_here v inode h d d' at at' bytes file shown has says same =
    (rewrites_keep_the_rest h h.own _ (dinode_put d (zeros_from at bytes)) file.own).1 ∙ (λ t. dinode_put (says t) (zeros_from (same t) (sym (own_seen v inode h bytes shown has) t)))

-- so pads stay, and behind that place zeros stand
module _ (h : Holding) (cell : ℕ → Option Cell) (d : Dinode) (at : ℕ) (file : IsFile h) (put : bytes_at (with_cells h cell) h.own ≡ dinode_put d (zeros_from at (bytes_at h h.own))) (says : dinode_in (with_cells h cell) ≡ d)
    (low : dinode_length ≤ at) (fits : at ≤ h.size) (others : (x : ℕ) → x ≢ h.own → bytes_at (with_cells h cell) x ≡ bytes_at h x) where
  within : at ≤ length (bytes_at h h.own)
  within = omega (arith, fits, file.whole h.own _ file.own)

  pub zeros_keep_heads : KeepsHeads h (with_cells h cell)
  unfolding dinode_in
  zeros_keep_heads = record {
    pads = pads_of d (bytes_at h h.own) (zeros_from at (bytes_at h h.own)) (bytes_at (with_cells h cell) h.own) put says (take_front dinode_length at (bytes_at h h.own) _ low (omega (arith, low, within)))
        (omega (arith, zeros_length at (bytes_at h h.own) within, low, within));
    headers = λ b level first placed there. ap (take header_length) (others b (not_own h b (suc level) first file placed));
  }

  pub zeros_from_there : drop at (bytes_at (with_cells h cell) h.own) ≡ replicate (h.size - at) 0
  zeros_from_there = ap (drop at) put ∙ zeros_behind d at (bytes_at h h.own) low within ∙ ap (λ n. replicate (n - at) 0) (file.whole h.own _ file.own)
