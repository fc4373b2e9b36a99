-- A file in blocks with another size and another count of blocks.
use Rattle.std.proofs.Common.{◌≡◌, inl, inr, Option, ℕ, ◌+◌, ◌*◌, [], drop, refl, sym, ap, subst, ◌∙◌, arith, ◌≢◌, ◌↔◌, ◌-◌, ◌≤◌, List, take}
use Rattle.std.specs.Prelude.{is_some}
use Rattle.std.specs.FinMap.{FinMap}
use Rattle.std.specs.Ordering.{nat_cmp}
use Rattle.drafts.specs.declared.fate.Fate.{Fate}
use Rattle.file_tree.specs.Apply.{resized}
use Rattle.gfs2_layout.specs.Holding.{Cell, Holding, part_at, bytes_at}
use Rattle.gfs2_layout.specs.Inode.{block_count, content_of, dinode_in, header_length, height_in}
use Rattle.gfs2_layout.specs.Structures.{dinode_length}
use Rattle.gfs2_layout.specs.Writing.{dinode_put}
use Rattle.gfs2_layout.specs.declared.dinode.Dinode.{Dinode}
use Rattle.glock_names.specs.Views.{Seen}
use Rattle.dinode_tree.specs.Shown.{IsShown}
use Rattle.growth_laws.specs.Files.{IsFile, with_cells}
use Rattle.growth_laws.specs.Growing.{IsTold}
use Rattle.growth_laws.specs.Need.{needed_below}
use Rattle.growth_laws.specs.Steps.{IsClearFrom, IsSized}
use Rattle.growth_laws.proofs.Counting.{count_same}
use Rattle.growth_laws.proofs.Fills.{some_by_part}
use Rattle.growth_laws.proofs.Parts.{not_itself}
use Rattle.growth_laws.proofs.Numbers.{numbers_behind_are_the_same}
use Rattle.growth_laws.proofs.Sizes.{sizes_resize}
use Rattle.growth_laws.proofs.Staying.{need_stays, pointers_tell, sizes_keep_need}
use Rattle.growth_laws.proofs.Told.{counts_are_told}
use Rattle.growth_drafts.specs.Taken.{HasTaken}
use Rattle.growth_drafts.proofs.Rooms.{none_in}
use Rattle.growth_steps.specs.Becoming.{Becomes}
use Rattle.file_fills.proofs.Tails.{clear_along}
use Rattle.file_fills.specs.Causes.{ChangesOnly}
use Rattle.file_heights.specs.Grown.{IsGrown}
use Rattle.file_heights.specs.Sized.{HasSize}
use Rattle.file_heights.proofs.Changing.{changes_wider}
use Rattle.file_heights.proofs.Joining.{grown_as, grown_then}
use Rattle.file_heights.proofs.Keeping.{behind_put, heads_then, own_large, put_keeps_heads}
use Rattle.file_heights.proofs.Pads.{pads_over}

module _ (h : Holding) (cell : ℕ → Option Cell) (parts : (x : ℕ) → part_at (with_cells h cell) x ≡ part_at h x) where
  some_same : (x : ℕ) → is_some (cell x) ≡ is_some (h.cell x)
  some_same x = some_by_part (h.cell x) (cell x) (parts x)

  pub counts_same : block_count (with_cells h cell) ≡ block_count h
  unfolding block_count
  counts_same = count_same (λ x. is_some (h.cell x)) (λ x. is_some (cell x)) 0 h.count (λ x low high. some_same x)

  pub no_more : HasTaken h (with_cells h cell) [] × (block_count (with_cells h cell) ≡ block_count h + 0)
  no_more = (
    record { count = refl; blocks = λ x. (λ there. inl (sym (some_same x) ∙ there), λ either. elim either [ inl had ↦ some_same x ∙ had | inr taken ↦ absurd (none_in x taken) ]) },
    counts_same ∙ (let one : block_count h ≡ block_count h + 0 = omega arith in one),
  )

module _ (f0 f1 f2 : FinMap nat_cmp Fate) (mid after : Seen) (inode : ℕ) (h : Holding) (c1 c2 : ℕ → Option Cell) (size blocks : ℕ) (file : IsFile h) (sized : IsSized h c1 size) (one : Becomes mid f0 f1 inode h (with_cells h c1))
    (told : IsTold (with_cells h c1) c2 blocks) (two : Becomes after f1 f2 inode (with_cells h c1) (with_cells h c2))
    (put_size : bytes_at (with_cells h c1) h.own ≡ dinode_put (record (dinode_in h) { size = size }) (bytes_at h h.own))
    (put_count : bytes_at (with_cells h c2) h.own ≡ dinode_put (record (dinode_in (with_cells h c1)) { blocks = blocks }) (bytes_at (with_cells h c1) h.own)) where
  after_size : IsFile (with_cells h c1) × (content_of (with_cells h c1) ≡ resized size (content_of h))
  after_size = sizes_resize h c1 size file sized

  after_count : IsFile (with_cells h c2) × (content_of (with_cells h c2) ≡ content_of (with_cells h c1)) × (block_count (with_cells h c2) ≡ block_count (with_cells h c1))
  after_count = counts_are_told (with_cells h c1) c2 blocks after_size.0 told

  grown_size : IsGrown f0 f1 h c1 (record (dinode_in h) { size = size }) (resized size (content_of h)) []
  grown_size =
      let none = no_more h c1 sized.parts in
      record {
        file = after_size.0;
        dinode = sized.dinode;
        content = after_size.1;
        blocks = none.0;
        counted = none.1;
        places = λ x l first had. (λ placed. (placed.0, placed.1, sym (sized.parts x) ∙ placed.2), λ placed. (placed.0, placed.1, sized.parts x ∙ placed.2));
        headers = record {
          pads = pads_over h c1 (record (dinode_in h) { size = size }) (bytes_at h h.own) file refl put_size;
          old = λ x l first had placed. ap (take header_length) (sized.others x (λ e. not_itself _ _ _ _ (sym file.own ∙ ap (part_at h) (sym e) ∙ sym (sized.parts x) ∙ placed.2)));
          new = λ x l first none. absurd (none_in x none);
        };
        drafted = one.drafted;
      }

  grown_count : IsGrown f1 f2 (with_cells h c1) c2 (record (dinode_in (with_cells h c1)) { blocks = blocks }) (content_of (with_cells h c1)) []
  grown_count =
      let none = no_more (with_cells h c1) c2 told.parts in
      record {
        file = after_count.0;
        dinode = told.dinode;
        content = after_count.1;
        blocks = none.0;
        counted = none.1;
        places = λ x l first had. (λ placed. (placed.0, placed.1, sym (told.parts x) ∙ placed.2), λ placed. (placed.0, placed.1, told.parts x ∙ placed.2));
        headers = record {
          pads = pads_over (with_cells h c1) c2 (record (dinode_in (with_cells h c1)) { blocks = blocks }) (bytes_at (with_cells h c1) h.own) after_size.0 refl put_count;
          old = λ x l first had placed. ap (take header_length) (told.others x (λ e. not_itself _ _ _ _ (sym after_size.0.own ∙ ap (part_at (with_cells h c1)) (sym e) ∙ sym (told.parts x) ∙ placed.2)));
          new = λ x l first none. absurd (none_in x none);
        };
        drafted = two.drafted;
      }

  behind_size : drop dinode_length (bytes_at (with_cells h c1) h.own) ≡ drop dinode_length (bytes_at h h.own)
  behind_size = ap (drop dinode_length) put_size ∙ behind_put (record (dinode_in h) { size = size }) (bytes_at h h.own) (own_large h file)

  high_one : height_in (with_cells h c1) ≡ height_in h
  high_one = ap (λ (d : Dinode). d.height) sized.dinode

  high_two : height_in (with_cells h c2) ≡ height_in (with_cells h c1)
  high_two = ap (λ (d : Dinode). d.height) told.dinode

  need_count : (at end height : ℕ) → needed_below (with_cells h c2) at end height ≡ needed_below (with_cells h c1) at end height
  need_count at end height =
      need_stays (with_cells h c1) c2 after_size.0 after_count.0 high_two told.parts
      (pointers_tell (with_cells h c1) c2 (λ none. sized.in_blocks (sym high_one ∙ none)) high_two
      (λ j. numbers_behind_are_the_same (bytes_at (with_cells h c2) h.own) (bytes_at (with_cells h c1) h.own) dinode_length dinode_length (8 * j) told.behind)) at end height

  clear_size : (dinode_in h).size ≤ size → IsClearFrom h (dinode_in h).size → IsClearFrom (with_cells h c2) size
  clear_size up clear =
      clear_along h c2 (dinode_in h).size size file after_count.0 (λ none. sized.in_blocks (sym high_one ∙ sym high_two ∙ none)) up clear
      (λ c i placed.
      let part = sym (sized.parts c) ∙ sym (told.parts c) ∙ placed.2 in
      let other : c ≢ h.own = λ e. not_itself _ _ _ _ (sym file.own ∙ ap (part_at h) (sym e) ∙ part) in
      inl ((placed.0, placed.1, part), ap (drop (size - i * h.size)) (told.others c other ∙ sized.others c other)))

  pub has_size : h.own ≡ inode → ChangesOnly f0 f2 (λ b. b ≡ inode) → HasSize after f0 f2 h size blocks
  has_size own changes = record {
    cell = c2;
    shown = subst (λ a. IsShown after a (with_cells h c2)) (sym own) two.shown;
    grown =
        grown_as f0 f2 h c2 _ _ _ _ _ _ (ap (λ (d : Dinode). record d { blocks = blocks }) sized.dinode) after_size.1 refl
        (grown_then f0 f1 f2 h c1 c2 _ _ _ _ [] [] grown_size grown_count);
    need = λ at end height. need_count at end height ∙ sizes_keep_need h c1 size at end height file sized;
    heads = heads_then h (with_cells h c1) (with_cells h c2) refl file (λ b level first placed there. (placed.0, placed.1, sized.parts b ∙ placed.2))
        (put_keeps_heads h c1 (record (dinode_in h) { size = size }) file put_size sized.dinode behind_size sized.others)
        (put_keeps_heads (with_cells h c1) c2 (record (dinode_in (with_cells h c1)) { blocks = blocks }) after_size.0 put_count told.dinode told.behind told.others);
    clear = clear_size;
    others = λ b other. told.others b other ∙ sized.others b other;
    changes = changes_wider f0 f2 _ _ (λ b e. e ∙ sym own) changes;
  }
