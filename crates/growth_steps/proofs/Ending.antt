-- A file in a draft whose last block is cleared behind its end.
use Rattle.std.proofs.Common.{◌≡◌, ◌≢◌, ℕ, ◌+◌, ◌-◌, ◌*◌, ◌<◌, ◌≤◌, inl, inr, true, List, ◌++◌, length, take, drop, Option, None, Some, refl, sym, ap, subst, ◌∙◌, arith}
use Rattle.std.proofs.lemmas.Bool.{cases_eq, cond-true, cond-false, eq-eqb, ne_eqb}
use Rattle.std.proofs.lemmas.List.{length-take, length-drop, length-replicate, take_at, take-append-drop}
use Rattle.std.specs.Prelude.{replicate, ◌↔◌}
use Rattle.std.specs.FinMap.{insert}
use Rattle.drafts.specs.Fates.{Drafted, seen_in}
use Rattle.drafts.specs.declared.fate.Fate.TheVariants.{Put}
use Rattle.gfs2_layout.specs.Holding.{Cell, Holding, cell_bytes, part_at, bytes_at}
use Rattle.gfs2_layout.specs.Inode.{dinode_in, height_in, content_block, content_count, content_of}
use Rattle.gfs2_layout.specs.Writing.{zeros_from}
use Rattle.glock_names.specs.Views.{Seen}
use Rattle.dinode_tree.specs.Reading.{inode_lock}
use Rattle.dinode_tree.specs.Shown.{IsShown}
use Rattle.dinode_tree.proofs.Sound.{is_there}
use Rattle.growth_laws.specs.Blocks.{rewritten, rewritten_cells}
use Rattle.growth_laws.specs.Files.{IsFile, with_cells, IsPlaced}
use Rattle.growth_laws.specs.Steps.{IsContentPut, IsClearFrom}
use Rattle.growth_laws.proofs.Bytes.{byte, same_bytes, zero_byte}
use Rattle.growth_laws.proofs.Contents.{content_part}
use Rattle.growth_laws.proofs.Ends.{puts_past_the_end, zeros_are_clear}
use Rattle.growth_laws.proofs.Pointing.{rewrites_keep_the_rest}
use Rattle.growth_steps.specs.Becoming.{Becomes}
use Rattle.growth_steps.proofs.Leading.{zeros_length, zeros_behind}
use Rattle.growth_steps.proofs.Putting.{becomes_rewritten, drafts_nothing}

-- ---- bytes that are zeros

-- nothing but zeros stands from a place on
pub clear_tail : (bytes : List ℕ) (at : ℕ) → at ≤ length bytes → ((k : ℕ) → k < length (drop at bytes) → byte (drop at bytes) k ≡ 0) ↔ (bytes ≡ zeros_from at bytes)
clear_tail bytes at fits = (to, back)
  where
    to : ((k : ℕ) → k < length (drop at bytes) → byte (drop at bytes) k ≡ 0) → bytes ≡ zeros_from at bytes
    to each =
        let tail : drop at bytes ≡ replicate (length bytes - at) 0
        = same_bytes _ _ (length-drop at bytes ∙ sym (length-replicate (length bytes - at) 0)) (λ k low. each k low ∙ sym (zero_byte (length bytes - at) k)) in
        sym (take-append-drop at bytes) ∙ ap (λ xs. take at bytes ++ xs) tail

    back : bytes ≡ zeros_from at bytes → (k : ℕ) → k < length (drop at bytes) → byte (drop at bytes) k ≡ 0
    back same k low = ap (λ xs. byte (drop at xs) k) same ∙ ap (λ xs. byte xs k) (zeros_behind at bytes fits) ∙ zero_byte (length bytes - at) k

-- as a part of the bytes is passed
pub clear_part : (bytes part : List ℕ) (at : ℕ) → at ≤ length bytes → part ≡ drop at bytes → ((k : ℕ) → k < length part → byte part k ≡ 0) ↔ (bytes ≡ zeros_from at bytes)
clear_part bytes part at fits same =
    let tail = clear_tail bytes at fits in (
      λ each. tail.0 (λ k low. ap (λ xs. byte xs k) (sym same) ∙ each k (subst (λ xs. k < length xs) (sym same) low)),
      λ clear k low. ap (λ xs. byte xs k) same ∙ tail.1 clear k (subst (λ xs. k < length xs) same low),
    )

-- ---- the same bytes make the same file

same_cell : (o : Option Cell) (xs : List ℕ) → xs ≡ cell_bytes o → rewritten (λ old. xs) o ≡ o
same_cell None xs e = refl
same_cell (Some c) xs e = λ t. Some (record c { bytes = e t })

pub same_file : (h : Holding) (x : ℕ) (bytes : List ℕ) → bytes ≡ bytes_at h x → with_cells h (rewritten_cells h x bytes) ≡ h
same_file h x bytes same = λ t. record h { cell = λ y. each y t }
  where
    each : (y : ℕ) → rewritten_cells h x bytes y ≡ h.cell y
    each y = elim (cases_eq y x) [
      | inl is ↦ cond-true _ _ _ (eq-eqb y x is) ∙ same_cell (h.cell y) bytes (same ∙ ap (bytes_at h) (sym is))
      | inr other ↦ cond-false _ _ _ (ne_eqb y x other)
    ]

-- ---- the step

module _ (h : Holding) (i at block : ℕ) (file : IsFile h) (high : height_in h ≢ 0) (last : i + 1 ≡ content_count h) (is_block : content_block h i ≡ block) (some : block ≢ 0) (ends : i * h.size + at ≡ (dinode_in h).size)
    (within : at ≤ h.size) where
  low : i < content_count h
  low = omega (arith, last)

  pub placed : IsPlaced h block 0 i
  placed = subst (λ c. IsPlaced h c 0 i) is_block (content_part h file high i low (λ none. some (sym is_block ∙ none)))

  long : length (bytes_at h block) ≡ h.size
  long = file.whole block _ placed.2

  fits : at ≤ length (bytes_at h block)
  fits = omega (arith, long, within)

  kept : ((y : ℕ) → part_at (with_cells h (rewritten_cells h block (zeros_from at (bytes_at h block)))) y ≡ part_at h y)
      × (bytes_at (with_cells h (rewritten_cells h block (zeros_from at (bytes_at h block)))) block ≡ zeros_from at (bytes_at h block))
      × ((y : ℕ) → y ≢ block → bytes_at (with_cells h (rewritten_cells h block (zeros_from at (bytes_at h block)))) y ≡ bytes_at h y)
  kept = rewrites_keep_the_rest h block _ (zeros_from at (bytes_at h block)) placed.2

  pub end_put : IsContentPut h (rewritten_cells h block (zeros_from at (bytes_at h block))) i (zeros_from at (bytes_at h block))
  end_put = record {
    in_blocks = high;
    within = low;
    there = λ none. some (sym is_block ∙ none);
    whole = zeros_length at (bytes_at h block) fits ∙ long;
    bytes = ap (bytes_at (with_cells h (rewritten_cells h block (zeros_from at (bytes_at h block))))) is_block ∙ kept.1;
    parts = kept.0;
    others = λ x other. kept.2 x (λ e. other (e ∙ sym is_block));
  }

  from_end : (dinode_in h).size - i * h.size ≡ at
  from_end = omega (arith, ends)

  pub end_clear : IsClearFrom (with_cells h (rewritten_cells h block (zeros_from at (bytes_at h block)))) (dinode_in h).size
  end_clear = zeros_are_clear h (rewritten_cells h block (zeros_from at (bytes_at h block))) i (zeros_from at (bytes_at h block)) file end_put last
      (ap (λ n. drop n (zeros_from at (bytes_at h block))) from_end ∙ zeros_behind at (bytes_at h block) fits ∙ (λ t. replicate (long t - sym from_end t) 0))

  end_stays : IsFile (with_cells h (rewritten_cells h block (zeros_from at (bytes_at h block)))) × (content_of (with_cells h (rewritten_cells h block (zeros_from at (bytes_at h block)))) ≡ content_of h)
  end_stays =
      puts_past_the_end h (rewritten_cells h block (zeros_from at (bytes_at h block))) i (zeros_from at (bytes_at h block)) file end_put
      (ap (λ n. take n (zeros_from at (bytes_at h block))) from_end ∙ take_at (take at (bytes_at h block)) _ at (omega (arith, fits, length-take at (bytes_at h block)))
      ∙ (λ t. take (sym from_end t) (bytes_at h (sym is_block t))))

  pub end_file : IsFile (with_cells h (rewritten_cells h block (zeros_from at (bytes_at h block))))
  end_file = end_stays.0

  pub end_content : content_of (with_cells h (rewritten_cells h block (zeros_from at (bytes_at h block)))) ≡ content_of h
  end_content = end_stays.1

  -- ---- in a draft

  -- the block as the draft sees it
  pub block_seen : (v : Seen) (inode : ℕ) (bytes : List ℕ) → IsShown v inode h → v.block_at block ≡ Some bytes → bytes_at h block ≡ bytes
  block_seen v inode bytes shown there = shown.same block bytes (is_there (h.cell block) _ placed.2) there

  pub end_put_by : {V : Type 0} (seen : V → Seen) (old now : Drafted V) (inode : ℕ) (bytes : List ℕ) → IsShown (seen_in seen old) inode h → (seen_in seen old).block_at block ≡ Some bytes
      → now ≡ record old { fates = insert old.fates block (Put (inode_lock inode) true (zeros_from at bytes)) }
      → Becomes (seen_in seen now) old.fates now.fates inode h (with_cells h (rewritten_cells h block (zeros_from at (bytes_at h block))))
  end_put_by {V} seen old now inode bytes shown there put =
      becomes_rewritten seen old now inode block _ true (zeros_from at (bytes_at h block)) h shown placed.2
      (put ∙ (λ t. record old { fates = insert old.fates block (Put (inode_lock inode) true (zeros_from at (sym (block_seen (seen_in seen old) inode bytes shown there) t))) })) end_file
      (λ e. (placed.0, placed.1, i, placed.2), λ c. refl)

  pub end_left_by : {V : Type 0} (seen : V → Seen) (old now : Drafted V) (inode : ℕ) (bytes : List ℕ) → IsShown (seen_in seen old) inode h → (seen_in seen old).block_at block ≡ Some bytes
      → bytes ≡ zeros_from at bytes → now ≡ old
      → Becomes (seen_in seen now) old.fates now.fates inode h (with_cells h (rewritten_cells h block (zeros_from at (bytes_at h block))))
  end_left_by {V} seen old now inode bytes shown there clear left =
      let is = block_seen (seen_in seen old) inode bytes shown there in
      let same : with_cells h (rewritten_cells h block (zeros_from at (bytes_at h block))) ≡ h = same_file h block (zeros_from at (bytes_at h block)) (ap (zeros_from at) is ∙ sym clear ∙ sym is) in
      subst (λ (d : Drafted V). Becomes (seen_in seen d) old.fates d.fates inode h (with_cells h (rewritten_cells h block (zeros_from at (bytes_at h block))))) (sym left)
      (subst (λ g. Becomes (seen_in seen old) old.fates old.fates inode h g) (sym same) (record { shown = shown; drafted = drafts_nothing old.fates h }))
