-- The pointers of a table after a run of them was set in one block.
use Rattle.std.proofs.Common.{◌≡◌, ◌≢◌, ◌⊎◌, ℕ, suc, ◌+◌, ◌-◌, ◌*◌, ◌/◌, ◌%◌, ◌<◌, ◌≤◌, inl, inr, true, false, List, Option, Some, sym, ap, ◌∙◌, arith}
use Rattle.std.specs.Prelude.{IsSome, if◌then◌else◌}
use Rattle.std.specs.Int.{w64}
use Rattle.std.proofs.lemmas.Bool.{cases_eq, cases_lt, cond-true, cond-false}
use Rattle.std.proofs.lemmas.Bool.Decides.{nat_tests}
use Rattle.std.proofs.lemmas.Nat.{div-add-mod', div-mul-add}
use Rattle.gfs2_layout.specs.Bytes.{u64_at}
use Rattle.gfs2_layout.specs.Device.{IsBlockSize}
use Rattle.gfs2_layout.specs.Holding.{Holding, Cell, Pointed, part_at, bytes_at}
use Rattle.gfs2_layout.specs.Inode.{content_block, dinode_in, entry, fan, header_length, height_in, is_directory_in, span, unit}
use Rattle.gfs2_layout.specs.Structures.{dinode_length}
use Rattle.glock_names.specs.Views.{Seen}
use Rattle.dinode_tree.specs.Reading.{AreWholeBefore}
use Rattle.dinode_tree.specs.Shown as inode
use Rattle.pointer_tables.specs.Directories.{IsTreeSound}
use Rattle.pointer_tables.specs.Tables.{is_within}
use Rattle.table_files.proofs.ContentParts.{content_part, whole_by_parts}
use Rattle.table_files.proofs.Entries.{entry_in_block, entry_in_hole, entry_stuffed, within}
use Rattle.table_changes.proofs.Fronts.{number_before, number_behind}
use Rattle.table_changes.proofs.Kept.{KeepsWays, content_block_after, directory_after, height_after, size_after, sound_after, unit_after}
use Rattle.table_changes.proofs.OneRun.{IsBlockSet, bytes_here, bytes_old, bytes_other, cells, g}

pub is_in : (from count i : ℕ) → from ≤ i → i < from + count → is_within from count i ≡ true
is_in from count i low high = grind (arith, nat_tests)

pub is_before : (from count i : ℕ) → i < from → is_within from count i ≡ false
is_before from count i low = grind (arith, nat_tests)

pub is_behind : (from count i : ℕ) → from + count ≤ i → is_within from count i ≡ false
is_behind from count i high = grind (arith, nat_tests)

-- what a number is, by whether the index is one of those that are set
pub choose : (from count i leaf e r : ℕ) → (from ≤ i → i < from + count → r ≡ leaf) → ((i < from) ⊎ (from + count ≤ i) → r ≡ e) → r ≡ (if is_within from count i then leaf else e)
choose from count i leaf e r inside outside = elim (cases_lt i from) [
  | inl before ↦ outside (inl before) ∙ sym (cond-false (is_within from count i) leaf e (is_before from count i before))
  | inr low ↦ elim (cases_lt i (from + count)) [
    | inl high ↦ inside low high ∙ sym (cond-true (is_within from count i) leaf e (is_in from count i low high))
    | inr behind ↦ outside (inr behind) ∙ sym (cond-false (is_within from count i) leaf e (is_behind from count i behind))
  ]
]

module _ (v w : Seen) (a : ℕ) (h : Holding) (b : ℕ) (old new : List ℕ) (start count leaf : ℕ) (shown : inode.IsShown v a h) (step : IsBlockSet v w b old new start count leaf) (there : IsSome (h.cell b)) (keeps : KeepsWays h (cells v w a h b old new start count leaf shown step there))
    (from i : ℕ) (low : 8 * i + 8 ≤ (dinode_in h).size) where
  abbrev g' : Holding
  g' = g v w a h b old new start count leaf shown step there

  abbrev cells' : ℕ → Option Cell
  cells' = cells v w a h b old new start count leaf shown step there

  low' : 8 * i + 8 ≤ (dinode_in g').size
  low' = omega (arith, low, size_after h cells' keeps)

  here_after : bytes_at g' b ≡ new
  here_after = bytes_here v w a h b old new start count leaf shown step there

  here_before : bytes_at h b ≡ old
  here_before = bytes_old v w a h b old new start count leaf shown step there

  -- behind the dinode
  pub entry_set_stuffed : b ≡ h.own → height_in h ≡ 0 → start ≡ dinode_length + 8 * from → entry g' i ≡ (if is_within from count i then leaf else entry h i)
  entry_set_stuffed own none place =
      let after : entry g' i ≡ u64_at (dinode_length + 8 * i) new = entry_stuffed g' i low' (height_after h cells' keeps ∙ none) ∙ ap (λ x. u64_at (dinode_length + 8 * i) (bytes_at g' x)) (sym own) ∙ ap (u64_at (dinode_length + 8 * i)) here_after in
      let before : entry h i ≡ u64_at (dinode_length + 8 * i) old = entry_stuffed h i low none ∙ ap (λ x. u64_at (dinode_length + 8 * i) (bytes_at h x)) (sym own) ∙ ap (u64_at (dinode_length + 8 * i)) here_before in
      choose from count i leaf (entry h i) (entry g' i)
      (λ more less.
      let spot : dinode_length + 8 * i ≡ start + 8 * (i - from) = omega (arith, more, place) in
      after ∙ ap (λ n. u64_at n new) spot ∙ step.set.here (i - from) (omega (arith, more, less)))
      (λ apart. after ∙ elim apart [
        | inl less ↦ number_before old new start count leaf step.set w64 (dinode_length + 8 * i) (omega (arith, less, place))
        | inr more ↦ number_behind old new start count leaf step.set w64 (dinode_length + 8 * i) (omega (arith, more, place))
      ] ∙ sym before)

  -- in a table block
  module _ (level : ℕ) (high : height_in h ≡ suc level) (block_size : IsBlockSize h.size) (large : 512 ≤ h.size) (directory : is_directory_in h ≡ true) (sound : IsTreeSound h)
      (some : b ≢ 0) (block : content_block h (8 * from / unit h) ≡ b) (place : start ≡ header_length + 8 * from % unit h) (fits : 8 * from % unit h + 8 * count ≤ unit h) (counts : 1 ≤ count) (low_from : 8 * from + 8 ≤ (dinode_in h).size) where
    whole_h : (at : ℕ) → AreWholeBefore h at
    whole_h = whole_by_parts h sound large

    sound_g : IsTreeSound g'
    sound_g = sound_after h cells' keeps sound

    high' : height_in g' ≡ suc level
    high' = height_after h cells' keeps ∙ high

    directory' : is_directory_in g' ≡ true
    directory' = directory_after h cells' keeps ∙ directory

    reached : (n : ℕ) → 8 * n + 8 ≤ (dinode_in h).size → 8 * n / unit h < fan h.size dinode_length * span h.size level
    reached n less = omega (arith, within h level block_size directory high sound.fits whole_h n less, sound.fits.under level high)

    block_after : content_block g' (8 * i / unit g') ≡ content_block h (8 * i / unit h)
    block_after = ap (λ n. content_block g' (8 * i / n)) (unit_after h cells' keeps) ∙ content_block_after h cells' keeps sound.tree large level high (8 * i / unit h) (reached i low)

    split_from : 8 * from / unit h * unit h + 8 * from % unit h ≡ 8 * from
    split_from = div-add-mod' (8 * from) (unit h)

    split_i : 8 * i / unit h * unit h + 8 * i % unit h ≡ 8 * i
    split_i = div-add-mod' (8 * i) (unit h)

    -- those that are set are in this block
    same_block : from ≤ i → i < from + count → 8 * i / unit h ≡ 8 * from / unit h
    same_block more less =
        let at : 8 * i ≡ 8 * from / unit h * unit h + (8 * from % unit h + 8 * (i - from)) = omega (arith, split_from, more) in
        ap (λ n. n / unit h) at ∙ div-mul-add (8 * from / unit h) (unit h) (8 * from % unit h + 8 * (i - from)) (omega (arith, fits, more, less))

    beside : 8 * i / unit h ≡ 8 * from / unit h → 8 * from / unit h * unit h + 8 * i % unit h ≡ 8 * i
    beside e = ap (λ n. n * unit h + 8 * i % unit h) (sym e) ∙ split_i

    levels : {f f' k k' l l' s s' : ℕ} → Some (Pointed f k l s) ≡ Some (Pointed f' k' l' s') → s ≡ s'
    levels e = cc

    -- the block has one place in the content
    one_place : content_block h (8 * i / unit h) ≡ b → 8 * i / unit h ≡ 8 * from / unit h
    one_place is =
        let first = content_part h level (8 * i / unit h) sound.tree large high (reached i low) (λ z. some (sym is ∙ z)) in
        let second = content_part h level (8 * from / unit h) sound.tree large high (reached from low_from) (λ z. some (sym block ∙ z)) in
        levels (sym first.2 ∙ ap (part_at h) (is ∙ sym block) ∙ second.2)

    told_after : content_block h (8 * i / unit h) ≢ 0 → entry g' i ≡ u64_at (header_length + 8 * i % unit h) (bytes_at g' (content_block h (8 * i / unit h)))
    told_after led =
        entry_in_block g' level block_size directory' high' sound_g.fits (whole_by_parts g' sound_g large) i low' (λ z. led (sym block_after ∙ z))
        ∙ ap (λ n. u64_at (header_length + 8 * i % n) (bytes_at g' (content_block g' (8 * i / unit g')))) (unit_after h cells' keeps)
        ∙ ap (λ c. u64_at (header_length + 8 * i % unit h) (bytes_at g' c)) block_after

    told_before : content_block h (8 * i / unit h) ≢ 0 → entry h i ≡ u64_at (header_length + 8 * i % unit h) (bytes_at h (content_block h (8 * i / unit h)))
    told_before led = entry_in_block h level block_size directory high sound.fits whole_h i low led

    in_hole : content_block h (8 * i / unit h) ≡ 0 → entry g' i ≡ entry h i
    in_hole none = entry_in_hole g' level block_size directory' high' sound_g.fits (whole_by_parts g' sound_g large) i low' (block_after ∙ none) ∙ sym (entry_in_hole h level block_size directory high sound.fits whole_h i low none)

    in_block : content_block h (8 * i / unit h) ≡ b → entry g' i ≡ (if is_within from count i then leaf else entry h i)
    in_block is =
        let led : content_block h (8 * i / unit h) ≢ 0 = λ z. some (sym is ∙ z) in
        let after : entry g' i ≡ u64_at (header_length + 8 * i % unit h) new = told_after led ∙ ap (λ c. u64_at (header_length + 8 * i % unit h) (bytes_at g' c)) is ∙ ap (u64_at (header_length + 8 * i % unit h)) here_after in
        let before : entry h i ≡ u64_at (header_length + 8 * i % unit h) old = told_before led ∙ ap (λ c. u64_at (header_length + 8 * i % unit h) (bytes_at h c)) is ∙ ap (u64_at (header_length + 8 * i % unit h)) here_before in
        let at = beside (one_place is) in
        choose from count i leaf (entry h i) (entry g' i)
        (λ more less.
        let spot : header_length + 8 * i % unit h ≡ start + 8 * (i - from) = omega (arith, more, place, at, split_from) in
        after ∙ ap (λ n. u64_at n new) spot ∙ step.set.here (i - from) (omega (arith, more, less)))
        (λ apart. after ∙ elim apart [
          | inl less ↦ number_before old new start count leaf step.set w64 (header_length + 8 * i % unit h) (omega (arith, less, place, at, split_from))
          | inr more ↦ number_behind old new start count leaf step.set w64 (header_length + 8 * i % unit h) (omega (arith, more, place, at, split_from))
        ] ∙ sym before)

    elsewhere : content_block h (8 * i / unit h) ≢ b → entry g' i ≡ entry h i
    elsewhere other = elim (cases_eq (content_block h (8 * i / unit h)) 0) [
      | inl none ↦ in_hole none
      | inr led ↦ told_after led ∙ ap (u64_at (header_length + 8 * i % unit h)) (bytes_other v w a h b old new start count leaf shown step there (content_block h (8 * i / unit h)) other) ∙ sym (told_before led)
    ]

    pub entry_set_in_table : entry g' i ≡ (if is_within from count i then leaf else entry h i)
    entry_set_in_table = elim (cases_eq (content_block h (8 * i / unit h)) b) [
      | inl is ↦ in_block is
      | inr other ↦ choose from count i leaf (entry h i) (entry g' i)
          (λ more less. absurd (other (ap (content_block h) (same_block more less) ∙ block)))
          (λ apart. elsewhere other)
    ]
