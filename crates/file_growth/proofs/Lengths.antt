-- A file that gets long and high enough for a write.
use Rattle.std.proofs.Common.{◌≡◌, ◌≢◌, ◌⊎◌, inl, inr, Bool, true, false, Option, Result, Ok, Err, IfOk, ℕ, zero, suc, ◌+◌, ◌-◌, ◌*◌, ◌%◌, ◌^◌, ◌<◌, ◌≤◌, max, List, [], refl, sym, ap, ap₂, subst, ◌∙◌, arith, append-nil}
use Rattle.std.proofs.lemmas.Bool.{cases_lt}
use Rattle.std.proofs.lemmas.Nat.{le-div}
use Rattle.std.proofs.Math.Nat.{div-mul-le_self}
use Rattle.std.specs.Prelude.{◌&&◌, ◌||◌, not, is_some, Contains, IsSome}
use Rattle.std.specs.FinMap.{FinMap}
use Rattle.std.specs.Ordering.{nat_cmp}
use Rattle.drafts.specs.Fates.{Drafted, seen_in}
use Rattle.drafts.specs.declared.fate.Fate.{Fate}
use Rattle.file_tree.specs.Apply.{file_limit, resized}
use Rattle.gfs2_layout.specs.Holding.{Cell, Holding, part_at, bytes_at}
use Rattle.gfs2_layout.specs.Inode.{block_count, content_of, dinode_in, height_in, pieces, span, unit}
use Rattle.gfs2_layout.specs.Structures.{dinode_length}
use Rattle.gfs2_layout.specs.declared.dinode.Dinode.{Dinode}
use Rattle.glock_names.specs.Views.{Seen}
use Rattle.dinode_tree.specs.Shown.{IsShown}
use Rattle.growth_laws.specs.Files.{IsFile, with_cells}
use Rattle.growth_laws.specs.Growing.{IsTold}
use Rattle.growth_laws.specs.Need.{has_content, height_for, is_needed, is_over, needed_below, needed_on, raised_to, capacity}
use Rattle.growth_laws.specs.Steps.{IsClearFrom, IsSized}
use Rattle.growth_laws.proofs.Contents.{whole_unit}
use Rattle.growth_laws.proofs.Counting.{count_same, count_some}
use Rattle.growth_laws.proofs.Fills.{some_by_part}
use Rattle.growth_laws.proofs.Heights.{capacity_reaches}
use Rattle.growth_laws.proofs.Numbers.{numbers_behind_are_the_same}
use Rattle.growth_laws.proofs.Places.{size_large}
use Rattle.growth_laws.proofs.Rising.{none_above, on_way_above}
use Rattle.growth_laws.proofs.Sizes.{sizes_resize}
use Rattle.growth_laws.proofs.Staying.{need_stays, pointers_tell, sizes_keep_need}
use Rattle.growth_laws.proofs.Told.{counts_are_told}
use Rattle.growth_laws.proofs.Trees.{part_within}
use Rattle.growth_drafts.specs.Taken.{HasTaken}
use Rattle.growth_drafts.proofs.Rooms.{free_left, none_in}
use Rattle.growth_steps.specs.Becoming.{Becomes}
use Rattle.growth_steps.specs.Sizes.{CanHaveSize}
use Rattle.file_heights.proofs.Turns.{stand_as}
use Rattle.file_heights.specs.Grown.{CanGrow, HasCleared, HasRisen, IsGrown, IsLower}
use Rattle.file_heights.proofs.Changing.{changes_then, changes_wider}
use Rattle.file_heights.proofs.Joining.{grown_as, grown_then, risen_none}
use Rattle.file_heights.proofs.Rising.{reach_of}
use Rattle.file_heights.specs.Sized.{HasSize, dinode_as}
use Rattle.file_growth.specs.Stretched.{CanStretch, HasEnd, HasStretched, IsStretchedAt}
use Rattle.file_growth.specs.Written.{size_with}

-- ---- the end

pub end_stays : (after : Seen) (fates : FinMap nat_cmp Fate) (inode : ℕ) (h : Holding) (end : ℕ) → IsFile h → IsShown after inode h → (height_in h ≡ 0) ⊎ (end ≤ (dinode_in h).size) → HasEnd after fates fates h end
end_stays after fates inode h end file shown either = record {
  cell = h.cell;
  shown = subst (λ a. IsShown after a h) (sym shown.own) shown;
  same = risen_none fates h file;
  clear = λ high less. absurd (never high less either);
  changes = λ b. inl refl;
}
  where
    never : height_in h ≢ 0 → (dinode_in h).size < end → (height_in h ≡ 0) ⊎ (end ≤ (dinode_in h).size) → ⊥
    never high less (inl stuffed) = high stuffed
    never high less (inr far) = omega (arith, less, far)

pub end_cleared : (after : Seen) (old new : FinMap nat_cmp Fate) (h : Holding) (end : ℕ) → (dinode_in h).size < end → HasCleared after old new h → HasEnd after old new h end
end_cleared after old new h end less cleared = record {
  cell = cleared.cell;
  shown = cleared.shown;
  same = cleared.same;
  clear = λ high less. cleared.clear;
  changes = changes_wider old new _ _ (λ b is. (less, is)) cleared.changes;
}

-- ---- a level takes a block

or_true : (b : Bool) → (b || true) ≡ true
or_true true = refl
or_true false = refl

pub new_level_is_needed : (h : Holding) (at end level : ℕ) → height_in h ≤ level → has_content h ≡ true → is_needed h at end level 0 ≡ true
new_level_is_needed h at end level high has = ap₂ (λ (a : Bool) (b : Bool). a && not b) (on_way_above h at end level 0 high has ∙ or_true (is_over h.size at end level 0)) (none_above h level 0 high)

one_on_new : (h : Holding) (at end level : ℕ) → height_in h ≤ level → has_content h ≡ true → needed_on h at end level ≢ 0
one_on_new h at end level high has =
    count_some (is_needed h at end level) 0 0 (max 1 (pieces end (span h.size level * h.size))) (omega arith) (omega arith)
    (new_level_is_needed h at end level high has)

pub levels_needed : (h : Holding) (at end n : ℕ) → has_content h ≡ true → n ≤ height_in h + needed_below h at end n
levels_needed h at end zero has = omega arith
levels_needed h at end (suc n) has = elim (cases_lt n (height_in h)) [
  | inl low ↦ omega (arith, low)
  | inr high ↦ omega (arith, levels_needed h at end n has, one_on_new h at end n high has)
]

-- ---- all of them

module _ (h : Holding) (at end need : ℕ) (room : List ℕ) (can : CanStretch h at end room) (before : Seen) (f0 f1 : FinMap nat_cmp Fate) (e : HasEnd before f0 f1 h end) where
  abbrev g1 : Holding
  g1 = with_cells h e.cell

  same_dinode : dinode_in (with_cells h e.cell) ≡ dinode_in h
  same_dinode = e.same.grown.dinode

  pub same_for : height_for (with_cells h e.cell) (size_with h end) ≡ height_for h (size_with h end)
  same_for = ap (λ (d : Dinode). raised_to h.size d.height (size_with h end) (10 - d.height)) same_dinode

  reach : (height_in h ≤ height_for h (size_with h end)) × (height_for h (size_with h end) ≤ 10) × (size_with h end ≤ capacity h.size (height_for h (size_with h end)))
  reach = reach_of h (size_with h end) can.file (let low : (dinode_in h).size ≤ size_with h end = omega arith in low) (let high : size_with h end ≤ max (dinode_in h).size file_limit = omega (arith, can.short) in high)

  pub can_grow : CanGrow (with_cells h e.cell) (size_with h end) room
  can_grow = record {
    file = e.same.grown.file;
    least = (let low : (dinode_in h).size ≤ size_with h end = omega arith in subst (λ (d : Dinode). d.size ≤ size_with h end) (sym same_dinode) low);
    short = (let high : size_with h end ≤ max (dinode_in h).size file_limit = omega (arith, can.short) in subst (λ (d : Dinode). size_with h end ≤ max d.size file_limit) (sym same_dinode) high);
    free = free_left h e.cell [] room room can.free refl e.same.grown.blocks;
    enough = λ has.
        let levels = levels_needed (with_cells h e.cell) at end (height_for h (size_with h end)) has in
        let less = e.same.need at end (height_for h (size_with h end)) reach.0 in
        omega (arith, levels, less, can.enough, same_for);
  }

  module _ (mid : Seen) (f2 : FinMap nat_cmp Fate) (left : List ℕ) (d : Dinode) (r : HasRisen mid f1 f2 room left (with_cells h e.cell) (height_for (with_cells h e.cell) (size_with h end)) d) where
    abbrev g2 : Holding
    g2 = with_cells h r.cell

    high_dinode : dinode_in (with_cells h r.cell) ≡ record (dinode_in h) { height = height_for h (size_with h end) }
    high_dinode = r.risen.grown.dinode ∙ (λ t. record (same_dinode t) { height = same_for t })

    high : height_in (with_cells h r.cell) ≡ height_for h (size_with h end)
    high = ap (λ (x : Dinode). x.height) high_dinode

    size_same : (dinode_in (with_cells h r.cell)).size ≡ (dinode_in h).size
    size_same = ap (λ (x : Dinode). x.size) high_dinode

    some : 0 < h.size
    some = omega (arith, size_large h.size can.file.block_size)

    units : unit (with_cells h r.cell) ≡ h.size
    units = whole_unit (with_cells h r.cell) r.risen.grown.file.regular

    pub can_have : CanHaveSize (with_cells h r.cell) (size_with h end)
    can_have = record {
      in_blocks = λ none. can.in_blocks (sym high ∙ none);
      reached = λ level is. capacity_reaches (with_cells h r.cell) (size_with h end) level r.risen.grown.file (subst (λ n. size_with h end ≤ capacity h.size n) (sym high ∙ is) reach.2);
      no_block = λ b from k level first part.
          let inside = part_within (with_cells h r.cell) r.risen.grown.file b from k level first part in
          let count : pieces (dinode_in (with_cells h r.cell)).size (unit (with_cells h r.cell)) ≡ pieces (dinode_in h).size h.size = (λ t. pieces (size_same t) (units t)) in
          let last : pieces (size_with h end) (unit (with_cells h r.cell)) ≡ pieces (size_with h end) h.size = ap (pieces (size_with h end)) units in
          let more : pieces (dinode_in h).size h.size ≤ pieces (size_with h end) h.size = le-div (pieces (dinode_in h).size h.size) (size_with h end + h.size - 1) h.size some (omega (arith, div-mul-le_self ((dinode_in h).size + h.size - 1) h.size)) in
          omega (arith, inside, count, last, more);
      clear = λ less.
          subst (IsClearFrom (with_cells h r.cell)) (ap (λ (x : Dinode). x.size) (sym r_dinode))
          (r.risen.clear (λ none. can.in_blocks (sym same_for ∙ none)) (λ high'. subst (IsClearFrom (with_cells h e.cell)) (ap (λ (x : Dinode). x.size) (sym same_dinode))
          (e.clear (λ none. high' (ap (λ (x : Dinode). x.height) same_dinode ∙ none)) (omega (arith, less, size_same)))));
    }
      where
        r_dinode : dinode_in (with_cells h r.cell) ≡ record (dinode_in (with_cells h e.cell)) { height = height_for (with_cells h e.cell) (size_with h end) }
        r_dinode = r.risen.grown.dinode

    pub has_stretched : (after : Seen) (f3 : FinMap nat_cmp Fate) (blocks : ℕ) → blocks ≡ (d.blocks + need) % 2 ^ 64 → HasSize after f2 f3 (with_cells h r.cell) (size_with h end) blocks
        → HasStretched after f0 f3 room left h at end need
    has_stretched after f3 blocks blocks_are s = record {
      cell = s.cell;
      taken = r.taken;
      shown = s.shown;
      grown =
          grown_as f0 f3 h s.cell _ _ _ _ _ _
          (λ t. dinode_as (high_dinode t) (size_with h end) (told t) (high t))
          (ap (resized (size_with h end)) (r.risen.grown.content ∙ e.same.grown.content))
          (append-nil r.taken)
          (grown_then f0 f2 f3 h r.cell s.cell _ _ _ _ r.taken [] (grown_then f0 f1 f2 h e.cell r.cell _ _ _ _ [] r.taken e.same.grown r.risen.grown) s.grown);
      levels = record {
        each = λ level is low.
            let found = r.risen.levels.each level (e.same.along ∙ is.0, omega (arith, is.1, high_e), refl) (omega (arith, low, same_for)) in
            (found.0, found.1, (s.grown.places found.0 level 0 (took found.0 found.1)).1 found.2);
        only = λ b level first taken placed.
            let is = r.risen.levels.only b level first taken ((s.grown.places b level first (took b taken)).0 placed) in
            ((sym e.same.along ∙ is.0.0, omega (arith, is.0.1, high_e), is.0.2), omega (arith, is.1, same_for));
        turn = stand_as IsLower IsLower (with_cells h r.cell) (with_cells h s.cell) r.taken (λ b level first taken placed. (s.grown.places b level first (took b taken)).0 placed)
            (λ b c level first level' first' has has' placed placed' less. less) r.risen.levels.turn;
      };
      clear = λ either. s.clear (let up : (dinode_in h).size ≤ size_with h end = omega arith in subst (λ n. n ≤ size_with h end) (sym size_same) up)
          (subst (IsClearFrom (with_cells h r.cell)) (size_e ∙ sym size_same) (r.risen.clear (λ none. can.in_blocks (sym same_for ∙ none)) (clear_e either)));
      from_front = r.from_front;
      less =
          let first = e.same.need at end (height_for h (size_with h end)) reach.0 in
          let second = r.risen.need at end (height_for h (size_with h end)) (omega (arith, same_for)) in
          omega (arith, first, second, s.need at end (height_for h (size_with h end)));
      changes =
          changes_then f0 f2 f3 (IsStretchedAt h end r.taken) (λ b. b ≡ h.own) (IsStretchedAt h end r.taken) (λ b is. is) (λ b is. inl is)
          (changes_then f0 f1 f2 _ (λ b. (b ≡ h.own) ⊎ Contains r.taken b) (IsStretchedAt h end r.taken) (λ b is. inr (inr is)) risen_at e.changes r.changes) s.changes;
    }
      where
        high_e : height_in (with_cells h e.cell) ≡ height_in h
        high_e = ap (λ (x : Dinode). x.height) same_dinode

        took : (b : ℕ) → Contains r.taken b → IsSome (r.cell b)
        took b taken = (r.risen.grown.blocks.blocks b).1 (inr taken)

        size_e : (dinode_in (with_cells h e.cell)).size ≡ (dinode_in h).size
        size_e = ap (λ (x : Dinode). x.size) same_dinode

        clear_e : (height_in h ≢ 0 → (dinode_in h).size < end ⊎ IsClearFrom h (dinode_in h).size) → height_in (with_cells h e.cell) ≢ 0 → IsClearFrom (with_cells h e.cell) (dinode_in (with_cells h e.cell)).size
        clear_e either high' =
            let high_h : height_in h ≢ 0 = λ none. high' (high_e ∙ none) in
            subst (IsClearFrom (with_cells h e.cell)) (sym size_e) (elim (either high_h) [
              | inl less ↦ e.clear high_h less
              | inr was ↦ e.same.clear high_h (λ in_blocks. was)
            ])

        risen_at : (b : ℕ) → (b ≡ h.own) ⊎ Contains r.taken b → IsStretchedAt h end r.taken b
        risen_at b (inl own) = inl own
        risen_at b (inr taken) = inr (inl taken)

        told : blocks ≡ ((dinode_in h).blocks + need) % 2 ^ 64
        told = blocks_are ∙ ap (λ (x : Dinode). (x.blocks + need) % 2 ^ 64) (r.dinode ∙ high_dinode)

-- ---- as the code does it

module _ {V : Type 0} (seen : V → Seen) (old one : Drafted V) (inode : ℕ) (h : Holding) (at end need size : ℕ) (room : List ℕ) (d : Dinode) (shown : IsShown (seen_in seen old) inode h) (d_is : d ≡ dinode_in h) (can : CanStretch h at end room)
    (size_is : size ≡ max d.size end) (e : HasEnd (seen_in seen one) old.fates one.fates h end) where
  size_here : size ≡ size_with h end
  size_here = size_is ∙ ap (λ (x : Dinode). max x.size end) d_is

  pub ready_to_grow : IsShown (seen_in seen one) inode (with_cells h e.cell) × (d ≡ dinode_in (with_cells h e.cell)) × CanGrow (with_cells h e.cell) size room
  ready_to_grow = (
    subst (λ a. IsShown (seen_in seen one) a (with_cells h e.cell)) shown.own e.shown,
    d_is ∙ sym e.same.grown.dinode,
    subst (λ n. CanGrow (with_cells h e.cell) n room) (sym size_here) (can_grow h at end need room can (seen_in seen one) old.fates one.fates e),
  )

  pub stretch_by : (two now : Drafted V) (left : List ℕ) (high : Dinode) (blocks : ℕ) → blocks ≡ (high.blocks + need) % 2 ^ 64
      → HasRisen (seen_in seen two) one.fates two.fates room left (with_cells h e.cell) (height_for (with_cells h e.cell) size) high
      → ((g : Holding) → IsFile g → IsShown (seen_in seen two) inode g → high ≡ dinode_in g → CanHaveSize g size → HasSize (seen_in seen now) two.fates now.fates g size blocks)
      → HasStretched (seen_in seen now) old.fates now.fates room left h at end need
  stretch_by two now left high blocks told risen sized =
      has_stretched h at end need room can (seen_in seen one) old.fates one.fates e (seen_in seen two) two.fates left high r (seen_in seen now) now.fates blocks told
      (subst (λ n. HasSize (seen_in seen now) two.fates now.fates (with_cells h r.cell) n blocks) size_here
      (sized (with_cells h r.cell) r.risen.grown.file (subst (λ a. IsShown (seen_in seen two) a (with_cells h r.cell)) shown.own r.shown) r.dinode
      (subst (CanHaveSize (with_cells h r.cell)) (sym size_here) (can_have h at end need room can (seen_in seen one) old.fates one.fates e (seen_in seen two) two.fates left high r))))
    where
      r : HasRisen (seen_in seen two) one.fates two.fates room left (with_cells h e.cell) (height_for (with_cells h e.cell) (size_with h end)) high
      r = subst (λ n. HasRisen (seen_in seen two) one.fates two.fates room left (with_cells h e.cell) (height_for (with_cells h e.cell) n) high) size_here risen

-- of an answer that is there, and true
pub on_done : {E : Type 0} (r : Result Bool E) (P Q : Type 0) → (P → Q) → IfOk r (λ done. (done ≡ true) × P) → IfOk r (λ done. (done ≡ true) × Q)
on_done (Ok done) P Q to (is, p) = (is, to p)
on_done (Err e) P Q to none = tt

-- what follows from what is said of an answer
pub if_ok_so : {A E : Type 0} (r : Result A E) (P Q : A → Type 0) → ((answer : A) → P answer → Q answer) → IfOk r P → IfOk r Q
if_ok_so (Ok answer) P Q so holds = so answer holds
if_ok_so (Err e) P Q so none = tt
