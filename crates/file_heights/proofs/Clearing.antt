-- A file in blocks whose end is clear.
use Rattle.std.proofs.Common.{◌≡◌, ◌≢◌, ◌⊎◌, inl, inr, Bool, true, false, Option, Some, ℕ, suc, ◌+◌, ◌-◌, ◌*◌, ◌/◌, ◌%◌, ◌<◌, ◌≤◌, List, [], ◌∷◌, take, refl, sym, ap, subst, ◌∙◌, arith}
use Rattle.std.proofs.lemmas.Bool.{cases_eq}
use Rattle.std.proofs.lemmas.Nat.{div-add-mod'}
use Rattle.std.proofs.Math.Nat.{div-eq_of_lt-le, div-mul-le_self, lt-mul-div-succ}
use Rattle.std.specs.Prelude.{is_some, not, ◌==◌, if◌then◌else◌, count_by}
use Rattle.std.specs.List.{range_with_len}
use Rattle.std.specs.FinMap.{FinMap, insert}
use Rattle.std.specs.Ordering.{nat_cmp}
use Rattle.drafts.specs.Fates.{Drafted, seen_in, seen_with}
use Rattle.drafts.specs.declared.fate.Fate.{Fate}
use Rattle.drafts.specs.declared.fate.Fate.TheVariants.{Put}
use Rattle.gfs2_layout.specs.Bytes.{u64_at}
use Rattle.gfs2_layout.specs.Holding.{Cell, Holding, bytes_at, part_at}
use Rattle.gfs2_layout.specs.Inode.{block_count, content_block, content_count, content_of, dinode_in, fan, height_in, pieces, header_length}
use Rattle.gfs2_layout.specs.Structures.{dinode_length}
use Rattle.gfs2_layout.specs.Writing.{zeros_from}
use Rattle.glock_names.specs.Views.{Seen}
use Rattle.glock_names.specs.declared.LockName.{LockName}
use Rattle.dinode_tree.specs.Below.{IsBelow}
use Rattle.dinode_tree.specs.Shown.{IsShown}
use Rattle.growth_laws.specs.Files.{IsFile, IsPlaced, with_cells}
use Rattle.dinode_tree.proofs.Sound.{is_there}
use Rattle.growth_laws.specs.Need.{has_content, needed_below}
use Rattle.growth_laws.specs.Steps.{IsClearFrom, IsContentPut}
use Rattle.growth_laws.proofs.Contents.{content_part, content_place, whole_unit}
use Rattle.growth_laws.proofs.Counting.{count_same}
use Rattle.growth_laws.proofs.Ends.{holes_are_clear, whole_files_are_clear}
use Rattle.growth_laws.proofs.Fills.{some_by_part}
use Rattle.growth_laws.proofs.Parts.{same_level}
use Rattle.growth_laws.proofs.Places.{content_is_level_zero, size_large}
use Rattle.growth_laws.proofs.Puts.{dinode_same, file_after, own_bytes}
use Rattle.growth_laws.proofs.Staying.{puts_keep_need}
use Rattle.growth_drafts.specs.Taken.{IsContentIn}
use Rattle.growth_drafts.specs.Touched.{Follows, as_it_was}
use Rattle.growth_drafts.proofs.Following.{follows_draft, follows_one}
use Rattle.growth_drafts.proofs.Rooms.{none_in}
use Rattle.growth_steps.specs.Becoming.{Becomes}
use Rattle.file_fills.specs.Walks.{IsPlace, IsStop}
use Rattle.file_fills.specs.walk_stops.Stop.{Stop}
use Rattle.file_fills.specs.Causes.{ChangesOnly}
use Rattle.file_fills.proofs.Headers.{same_front}
use Rattle.file_heights.specs.Grown.{HasCleared, IsRisen, IsUnclear}
use Rattle.file_heights.proofs.Changing.{changes_of, changes_one, changes_wider}
use Rattle.file_heights.proofs.Joining.{risen_none}

-- ---- the last block of content

some_size : (h : Holding) → IsFile h → 0 < h.size
some_size h file = omega (arith, size_large h.size file.block_size)

in_sizes : (h : Holding) → IsFile h → content_count h ≡ pieces (dinode_in h).size h.size
in_sizes h file = ap (pieces (dinode_in h).size) (whole_unit h file.regular)

pub last_count : (h : Holding) (last : ℕ) → IsFile h → (dinode_in h).size ≡ last + 1 → last / h.size + 1 ≡ content_count h
last_count h last file size =
    let some = some_size h file in
    let from : last / h.size * h.size ≤ last = div-mul-le_self last h.size in
    let until : last < h.size * (last / h.size + 1) = lt-mul-div-succ last some in
    let whole : last + 1 + h.size - 1 ≡ last + h.size = omega (arith, some) in
    sym (in_sizes h file ∙ ap (λ n. pieces n h.size) size ∙ ap (λ n. n / h.size) whole
    ∙ div-eq_of_lt-le h.size (let low : (last / h.size + 1) * h.size ≤ last + h.size = omega (arith, from) in low) (let high : last + h.size < (last / h.size + 1 + 1) * h.size = omega (arith, until) in high))

pub last_place : (h : Holding) (last size : ℕ) → IsFile h → height_in h ≢ 0 → (dinode_in h).size ≡ last + 1 → size ≡ h.size
    → (last / size + 1 ≡ content_count h) × IsPlace h 0 (last / size) × (last / size * h.size + (last % size + 1) ≡ (dinode_in h).size)
last_place h last size file high is same =
    let count : last / size + 1 ≡ content_count h = ap (λ n. last / n + 1) same ∙ last_count h last file is in
    let at = content_place h (last / size) file high (omega (arith, count)) in
    let whole : last / size * h.size + last % size ≡ last = ap (λ n. last / size * n + last % size) (sym same) ∙ div-add-mod' last size in
    (count, record { low = at.0; within = at.1 }, omega (arith, whole, is))

-- ---- nothing is put

module _ (after : Seen) (fates : FinMap nat_cmp Fate) (inode : ℕ) (h : Holding) (file : IsFile h) (shown : IsShown after inode h) where
  clear_as_it_is : IsClearFrom h (dinode_in h).size → HasCleared after fates fates h
  clear_as_it_is clear = record {
    cell = h.cell;
    shown = subst (λ a. IsShown after a h) (sym shown.own) shown;
    same = risen_none fates h file;
    clear = clear;
    others = λ b other. refl;
    changes = λ b. inl refl;
  }

  pub empty_is_clear : (dinode_in h).size ≡ 0 → HasCleared after fates fates h
  empty_is_clear none =
      let some = some_size h file in
      let whole : 0 + h.size - 1 ≡ h.size - 1 = omega arith in
      let count : content_count h ≡ 0
      = in_sizes h file ∙ ap (λ n. pieces n h.size) none ∙ ap (λ n. n / h.size) whole ∙ div-eq_of_lt-le h.size (let low : 0 * h.size ≤ h.size - 1 = omega arith in low) (let high : h.size - 1 < (0 + 1) * h.size = omega (arith, some) in high) in
      let nothing : 0 * h.size ≡ 0 = omega arith in
      clear_as_it_is (whole_files_are_clear h file (ap (λ n. n * h.size) count ∙ nothing ∙ sym none))

  pub hole_is_clear : (i : ℕ) (stop : Stop) → i + 1 ≡ content_count h → IsStop h 0 i stop → stop.block ≡ 0 → HasCleared after fates fates h
  hole_is_clear i stop last stopped none =
      clear_as_it_is (holes_are_clear h i file last (content_is_level_zero h i ∙ stopped.block ∙ zero_block (stop.level == 0) stop.block none))
    where
      zero_block : (b : Bool) (n : ℕ) → n ≡ 0 → (if b then n else 0) ≡ 0
      zero_block true n e = e
      zero_block false n e = refl

-- ---- the block is put

module _ (old new : FinMap nat_cmp Fate) (after : Seen) (inode : ℕ) (h : Holding) (cell : ℕ → Option Cell) (i : ℕ) (bytes : List ℕ) (file : IsFile h) (put : IsContentPut h cell i bytes)
    (content : content_of (with_cells h cell) ≡ content_of h) (clear : IsClearFrom (with_cells h cell) (dinode_in h).size) (becomes : Becomes after old new inode h (with_cells h cell)) where
  all_same : (x : ℕ) → is_some (cell x) ≡ is_some (h.cell x)
  all_same x = some_by_part (h.cell x) (cell x) (put.parts x)

  same_count : block_count (with_cells h cell) ≡ block_count h
  unfolding block_count
  same_count = count_same (λ x. is_some (h.cell x)) (λ x. is_some (cell x)) 0 h.count (λ x low high. all_same x)

  has_same : has_content (with_cells h cell) ≡ has_content h
  has_same = λ t.
      if (dinode_same h cell i bytes file put t).height == 0 then not ((dinode_same h cell i bytes file put t).size == 0)
      else not (count_by (λ k. not (u64_at (dinode_length + 8 * k) (own_bytes h cell i bytes file put t) == 0)) (range_with_len 0 (fan h.size dinode_length)) == 0)

  content_here : IsContentIn h (content_block h i)
  content_here =
      let at = content_part h file put.in_blocks i put.within put.there in
      (at.0, at.1, i, at.2)

  put_is_risen : IsRisen old new h cell (height_in h) []
  put_is_risen = record {
    grown = record {
      file = file_after h cell i bytes file put;
      dinode = dinode_same h cell i bytes file put;
      content = content;
      blocks = record { count = refl; blocks = λ x. (λ there. inl (sym (all_same x) ∙ there), λ either. elim either [ inl had ↦ all_same x ∙ had | inr taken ↦ absurd (none_in x taken) ]) };
      counted = (let one : block_count h ≡ block_count h + 0 = omega arith in same_count ∙ one);
      places = λ x l first had. (λ placed. (placed.0, placed.1, sym (put.parts x) ∙ placed.2), λ placed. (placed.0, placed.1, put.parts x ∙ placed.2));
      headers = record {
        pads = same_front (bytes_at h h.own) (bytes_at (with_cells h cell) h.own) (ap (take dinode_length) (own_bytes h cell i bytes file put));
        old = λ x l first had placed. ap (take header_length) (put.others x (λ e.
            let at : IsPlaced h (content_block h i) 0 i = content_part h file put.in_blocks i put.within put.there in
            let same : suc l ≡ 0 = same_level (sym placed.2 ∙ put.parts x ∙ ap (part_at h) e ∙ at.2) in
            omega (arith, same)));
        new = λ x l first none. absurd (none_in x none);
      };
      drafted = becomes.drafted;
    };
    need = λ at end to low.
        let zero_more : needed_below (with_cells h cell) at end to ≡ 0 + needed_below (with_cells h cell) at end to = omega arith in
        sym (puts_keep_need h cell i bytes at end to file put) ∙ zero_more;
    clear = λ high none. clear;
    along = has_same;
    levels = record { each = λ level is low. absurd (omega (arith, is.1, low)); only = λ x level first none. absurd (none_in x none); turn = tt };
  }

  pub end_is_clear : h.own ≡ inode → ChangesOnly old new (IsUnclear h (dinode_in h).size) → HasCleared after old new h
  end_is_clear own changes = record {
    cell = cell;
    shown = subst (λ a. IsShown after a (with_cells h cell)) (sym own) becomes.shown;
    same = put_is_risen;
    clear = clear;
    others = λ b other. put.others b (λ e. other (subst (IsContentIn h) (sym e) content_here));
    changes = changes;
  }

-- ---- what is touched

same_bytes_or : (xs ys : List ℕ) → (xs ≡ ys) ⊎ (xs ≢ ys)
same_bytes_or [] [] = inl refl
same_bytes_or [] (y ∷ ys) = inr (λ e. let both = e in absurd (cc))
same_bytes_or (x ∷ xs) [] = inr (λ e. let both = e in absurd (cc))
same_bytes_or (x ∷ xs) (y ∷ ys) = elim (cases_eq x y) [
  | inl same ↦ elim (same_bytes_or xs ys) [
    | inl rest ↦ inl (λ t. same t ∷ rest t)
    | inr apart ↦ inr (λ e. apart (let tails : xs ≡ ys = cc in tails))
  ]
  | inr apart ↦ inr (λ e. apart (let heads : x ≡ y = cc in heads))
]

pub cleared_follows : {V : Type 0} (v : Seen) (inode : ℕ) (room : List ℕ) (old now : Drafted V) (block : ℕ) (bytes new : List ℕ) (lock : LockName) (plain : Bool)
    → ((h : Holding) → IsShown (seen_with v old.fates) inode h → IsBelow h block)
    → (bytes ≢ new → now ≡ record old { fates = insert old.fates block (Put lock plain new) }) → (bytes ≡ new → now ≡ old) → Follows v inode room old.fates now.fates
cleared_follows {V} v inode room old now block bytes new lock plain below put left = elim (same_bytes_or bytes new) [
  | inl same ↦ subst (Follows v inode room old.fates) (sym (ap (λ (d : Drafted V). d.fates) (left same))) (as_it_was old.fates)
  | inr apart ↦ follows_draft v inode room old now _ (put apart) (follows_one v inode room old.fates block (Put lock plain new) (inr (inr below)))
]

-- the block is put only where something but zeros stands behind the end
pub cleared_changes : {V : Type 0} (seen : V → Seen) (old now : Drafted V) (inode : ℕ) (h : Holding) (i block at : ℕ) (bytes : List ℕ) (lock : LockName) (plain : Bool) → IsFile h → height_in h ≢ 0 → IsShown (seen_in seen old) inode h
    → i + 1 ≡ content_count h → content_block h i ≡ block → block ≢ 0 → i * h.size + at ≡ (dinode_in h).size → 0 < at → at ≤ h.size → (seen_in seen old).block_at block ≡ Some bytes
    → (bytes ≢ zeros_from at bytes → now ≡ record old { fates = insert old.fates block (Put lock plain (zeros_from at bytes)) }) → (bytes ≡ zeros_from at bytes → now ≡ old)
    → ChangesOnly old.fates now.fates (IsUnclear h (dinode_in h).size)
cleared_changes {V} seen old now inode h i block at bytes lock plain file high shown last is some ends low within there put left = elim (same_bytes_or bytes (zeros_from at bytes)) [
  | inl same ↦ subst (λ m. ChangesOnly old.fates m (IsUnclear h (dinode_in h).size)) (sym (ap (λ (d : Drafted V). d.fates) (left same))) (λ b. inl refl)
  | inr apart ↦ changes_of old now (insert old.fates block (Put lock plain (zeros_from at bytes))) (IsUnclear h (dinode_in h).size) (put apart)
      (changes_wider old.fates (insert old.fates block (Put lock plain (zeros_from at bytes))) (λ b. b ≡ block) (IsUnclear h (dinode_in h).size) (λ b e. record {
        index = i;
        behind = at;
        placed = subst (λ c. IsPlaced h c 0 i) (sym e) placed;
        some = low;
        within = within;
        ends = ends;
        unclear = λ same. apart (subst (λ xs. xs ≡ zeros_from at xs) (ap (bytes_at h) e ∙ bytes_are) same);
      }) (changes_one old.fates block (Put lock plain (zeros_from at bytes))))
]
  where
    placed : IsPlaced h block 0 i
    placed = subst (λ c. IsPlaced h c 0 i) is (content_part h file high i (omega (arith, last)) (λ none. some (sym is ∙ none)))

    bytes_are : bytes_at h block ≡ bytes
    bytes_are = shown.same block bytes (is_there (h.cell block) _ placed.2) there
