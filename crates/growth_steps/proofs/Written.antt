-- Bytes of content in a draft.
use Rattle.std.proofs.Common.{◌≡◌, ◌≢◌, ℕ, ◌+◌, ◌*◌, ◌<◌, ◌≤◌, true, List, length, Some, sym, ap, ◌∙◌, subst, arith}
use Rattle.std.specs.FinMap.{insert}
use Rattle.drafts.specs.Fates.{Drafted, seen_in, seen_with}
use Rattle.drafts.specs.declared.fate.Fate.TheVariants.{Put}
use Rattle.file_tree.specs.Apply.{overwritten}
use Rattle.gfs2_layout.specs.Bytes.{put_at}
use Rattle.gfs2_layout.specs.Holding.{Holding, part_at, bytes_at}
use Rattle.gfs2_layout.specs.Inode.{dinode_in, height_in, content_block, content_count, content_of}
use Rattle.gfs2_layout.proofs.InPlace.{length-put}
use Rattle.glock_names.specs.Views.{Seen}
use Rattle.dinode_tree.specs.Reading.{inode_lock}
use Rattle.dinode_tree.specs.Shown.{IsShown}
use Rattle.dinode_tree.proofs.Sound.{is_there}
use Rattle.growth_laws.specs.Blocks.{rewritten_cells}
use Rattle.growth_laws.specs.Files.{IsFile, with_cells, IsPlaced}
use Rattle.growth_laws.specs.Steps.{IsContentPut}
use Rattle.growth_laws.proofs.Contents.{content_part}
use Rattle.growth_laws.proofs.Pointing.{rewrites_keep_the_rest}
use Rattle.growth_laws.proofs.Puts.{puts_overwrite}
use Rattle.growth_drafts.proofs.Shown.{rewrites_are_shown}

-- what a draft shows of the file, and what that reads as
abbrev pub IsPutInto : Seen → ℕ → Holding → ℕ → ℕ → List ℕ → ℕ → Type 0
IsPutInto v inode h block at new i =
    IsShown v inode (with_cells h (rewritten_cells h block (put_at at new (bytes_at h block))))
    × IsFile (with_cells h (rewritten_cells h block (put_at at new (bytes_at h block))))
    × (content_of (with_cells h (rewritten_cells h block (put_at at new (bytes_at h block)))) ≡ overwritten (i * h.size + at) new (content_of h))

pub put_after : {V : Type 0} (seen : V → Seen) (old now : Drafted V) (inode block at : ℕ) (new bytes : List ℕ) → (seen_in seen old).block_at block ≡ Some bytes
    → now ≡ record old { fates = insert old.fates block (Put (inode_lock inode) true (put_at at new bytes)) } → at + length new ≤ (seen old.view).size
    → (h : Holding) (i : ℕ) → IsFile h → IsShown (seen_in seen old) inode h → height_in h ≢ 0 → i < content_count h → content_block h i ≡ block → block ≢ 0
    → i * h.size + at + length new ≤ (dinode_in h).size → IsPutInto (seen_in seen now) inode h block at new i
put_after {V} seen old now inode block at new bytes there is fits h i file shown high low same some within = (
  subst (λ (d : Drafted V). IsShown (seen_in seen d) inode (with_cells h (rewritten_cells h block (put_at at new (bytes_at h block))))) (sym is)
      (subst (λ a. IsShown (seen_with (seen old.view) (insert old.fates block (Put (inode_lock inode) true (put_at at new bytes)))) a (with_cells h (rewritten_cells h block (put_at at new (bytes_at h block))))) shown.own
      (subst (λ xs. IsShown (seen_with (seen old.view) (insert old.fates block (Put (inode_lock inode) true (put_at at new xs)))) h.own (with_cells h (rewritten_cells h block (put_at at new (bytes_at h block))))) bytes_are
      (rewrites_are_shown (seen old.view) old.fates h block _ (put_at at new (bytes_at h block)) (inode_lock inode) true file shown_own part.2 written.0))),
  written.0,
  written.1,
)
  where
    part : IsPlaced h block 0 i
    part = subst (λ c. IsPlaced h c 0 i) same (content_part h file high i low (λ none. some (sym same ∙ none)))

    shown_own : IsShown (seen_in seen old) h.own h
    shown_own = subst (λ a. IsShown (seen_in seen old) a h) (sym shown.own) shown

    bytes_are : bytes_at h block ≡ bytes
    bytes_are = shown.same block bytes (is_there (h.cell block) _ part.2) there

    long : length (bytes_at h block) ≡ h.size
    long = file.whole block _ part.2

    fits_here : at + length new ≤ h.size
    fits_here = omega (arith, fits, shown.size)

    kept : ((y : ℕ) → part_at (with_cells h (rewritten_cells h block (put_at at new (bytes_at h block)))) y ≡ part_at h y) × (bytes_at (with_cells h (rewritten_cells h block (put_at at new (bytes_at h block)))) block ≡ put_at at new (bytes_at h block))
        × ((y : ℕ) → y ≢ block → bytes_at (with_cells h (rewritten_cells h block (put_at at new (bytes_at h block)))) y ≡ bytes_at h y)
    kept = rewrites_keep_the_rest h block _ (put_at at new (bytes_at h block)) part.2

    step : IsContentPut h (rewritten_cells h block (put_at at new (bytes_at h block))) i (put_at at new (bytes_at h (content_block h i)))
    step = record {
      in_blocks = high;
      within = low;
      there = λ none. some (sym same ∙ none);
      whole = ap (λ c. length (put_at at new (bytes_at h c))) same ∙ length-put at new (bytes_at h block) (omega (arith, fits_here, long)) ∙ long;
      bytes = ap (bytes_at (with_cells h (rewritten_cells h block (put_at at new (bytes_at h block))))) same ∙ kept.1 ∙ ap (λ c. put_at at new (bytes_at h c)) (sym same);
      parts = kept.0;
      others = λ x other. kept.2 x (λ e. other (e ∙ sym same));
    }

    written : IsFile (with_cells h (rewritten_cells h block (put_at at new (bytes_at h block))))
        × (content_of (with_cells h (rewritten_cells h block (put_at at new (bytes_at h block)))) ≡ overwritten (i * h.size + at) new (content_of h))
    written = puts_overwrite h (rewritten_cells h block (put_at at new (bytes_at h block))) i at new file fits_here within step
