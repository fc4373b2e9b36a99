-- A file whose height rises by a step, or without a block.
use Rattle.std.proofs.Common.{◌≡◌, ◌≢◌, ◌⊎◌, inl, inr, true, false, Option, None, Some, ℕ, zero, suc, ◌+◌, ◌-◌, ◌*◌, ◌/◌, max, ◌<◌, ◌≤◌, List, [], ◌∷◌, length, take, drop, refl, sym, ap, subst, ◌∙◌, arith}
use Rattle.std.proofs.lemmas.Bool.{cases_eq, cases_lt, cond-true, eq-eqb, ne_eqb}
use Rattle.std.proofs.Math.Nat.{lt-mul-div-succ, mul-le-mul_right}
use Rattle.std.specs.Prelude.{Contains, IsSome, is_some, ◌↔◌, not, ◌==◌}
use Rattle.std.specs.FinMap.{FinMap}
use Rattle.std.specs.Ordering.{nat_cmp}
use Rattle.drafts.specs.declared.fate.Fate.{Fate}
use Rattle.file_tree.specs.Apply.{file_limit}
use Rattle.gfs2_layout.specs.Holding.{Pointed, Cell, Holding, cell_bytes, bytes_at, part_at}
use Rattle.gfs2_layout.specs.Inode.{block_count, content_count, content_of, dinode_in, fan, header_length, height_in, pieces, pointer, span}
use Rattle.gfs2_layout.specs.Structures.{dinode_length}
use Rattle.gfs2_layout.specs.declared.dinode.Dinode.{Dinode}
use Rattle.glock_names.specs.Views.{Seen}
use Rattle.dinode_tree.specs.Shown.{IsShown}
use Rattle.dinode_tree.proofs.Sound.{is_there}
use Rattle.growth_laws.specs.Files.{IsFile, IsPlaced, with_cells}
use Rattle.growth_laws.specs.Need.{capacity, has_content, height_for, needed_below, raised_to}
use Rattle.growth_laws.specs.Steps.{IsBareTo, IsRaised, IsUnstuffed, moved, moved_from}
use Rattle.growth_laws.proofs.Bare.{bare_files_change_height}
use Rattle.growth_laws.proofs.Contents.{whole_unit}
use Rattle.growth_laws.proofs.Counting.{count_same}
use Rattle.growth_laws.proofs.Ends.{bare_files_are_clear, moved_content_is_clear, rises_stay_clear}
use Rattle.growth_laws.proofs.Fills.{some_by_part}
use Rattle.growth_laws.proofs.Heights.{bare_files_have_no_block, capacity_reaches, heights_reach, raised_enough}
use Rattle.growth_laws.proofs.Parts.{not_itself, same_first, same_level}
use Rattle.growth_laws.proofs.Places.{size_large}
use Rattle.growth_laws.proofs.Raises.{raises_keep_files, some_same, unmoved}
use Rattle.growth_laws.proofs.Rising.{has_some, raises_lower_need, unstuffing_lowers_need}
use Rattle.growth_laws.proofs.Staying.{bare_heights_keep_need}
use Rattle.growth_laws.proofs.Unstuffing.{unstuffing_keeps_files}
use Rattle.growth_drafts.specs.Taken.{AreFreeFor, HasTaken}
use Rattle.growth_drafts.proofs.Rooms.{none_in, none_some, only_in}
use Rattle.growth_steps.specs.Becoming.{Becomes}
use Rattle.growth_steps.specs.Heights.{CanBeBare, CanRise, IsNewTo, raised_bytes, raised_cells}
use Rattle.growth_steps.specs.New.{new_bytes}
use Rattle.growth_steps.proofs.Stepping.{new_length}
use Rattle.file_fills.specs.Causes.{ChangesOnly}
use Rattle.file_fills.specs.Headers.{HaveSamePads}
use Rattle.file_fills.proofs.Counted.{pointers_go_along}
use Rattle.file_fills.proofs.Turns.{stand_one}
use Rattle.file_heights.specs.Grown.{AreLevels, CanGrow, HasRisen, IsLower, IsRisen}
use Rattle.file_heights.proofs.Changing.{changes_wider}
use Rattle.file_heights.proofs.Pads.{before_rest}

-- ---- content that goes along

find_pointer : (h : Holding) (n : ℕ) → ((k : ℕ) × (k < n) × (pointer h dinode_length h.own k ≢ 0)) ⊎ ((k : ℕ) → k < n → pointer h dinode_length h.own k ≡ 0)
find_pointer h zero = inr (λ k low. absurd (omega (arith, low)))
find_pointer h (suc n) = elim (find_pointer h n) [
  | inl found ↦ inl (found.0, omega (arith, found.1), found.2)
  | inr none ↦ elim (cases_eq (pointer h dinode_length h.own n) 0) [
    | inl here ↦ inr (λ k low. elim (cases_eq k n) [
      | inl e ↦ ap (pointer h dinode_length h.own) e ∙ here
      | inr other ↦ none k (omega (arith, low, other))
    ])
    | inr some ↦ inl (n, omega arith, some)
  ]
]

-- of a file in blocks: a pointer that leads somewhere
pub led_along : (h : Holding) → height_in h ≢ 0 → has_content h ≡ true → (k : ℕ) × (k < fan h.size dinode_length) × (pointer h dinode_length h.own k ≢ 0)
led_along h high has = elim (find_pointer h (fan h.size dinode_length)) [
  | inl found ↦ found
  | inr none ↦
      let wrong : false ≡ has_content h = pointers_go_along h false high (λ no. absurd (cc), λ found. absurd (found.2 (none found.0 found.1))) in
      let both : false ≡ true = wrong ∙ has in
      absurd (cc)
]

-- of a stuffed one: it isn't empty
pub stuffed_along : (h : Holding) → height_in h ≡ 0 → has_content h ≡ true → (dinode_in h).size ≢ 0
stuffed_along h stuffed has none =
    let is : has_content h ≡ not ((dinode_in h).size == 0) = cond-true _ _ _ (eq-eqb (height_in h) 0 stuffed) in
    let both : true ≡ false = sym has ∙ is ∙ ap not (eq-eqb (dinode_in h).size 0 none) in
    absurd (cc)

-- ---- one block more

one_more : (h : Holding) (cell : ℕ → Option Cell) (b : ℕ) → h.cell b ≡ None → IsSome (cell b) → ((x : ℕ) → x ≢ b → is_some (cell x) ≡ is_some (h.cell x)) → HasTaken h (with_cells h cell) (b ∷ [])
one_more h cell b new here rest = record {
  count = refl;
  blocks = λ x. (
    λ there. elim (cases_eq x b) [
      | inl e ↦ inr (subst (Contains (b ∷ [])) (sym e) (0, omega arith, refl))
      | inr other ↦ inl (sym (rest x other) ∙ there)
    ],
    λ either. elim either [
      | inl had ↦ rest x (λ e. none_some (h.cell x) (ap h.cell e ∙ new) had) ∙ had
      | inr taken ↦ subst (λ y. IsSome (cell y)) (sym (only_in b x taken)) here
    ],
  );
}

-- ---- steps

module _ (old new : FinMap nat_cmp Fate) (after : Seen) (inode : ℕ) (h : Holding) (cell : ℕ → Option Cell) (file : IsFile h) (becomes : Becomes after old new inode h (with_cells h cell))
    (pads : HaveSamePads (bytes_at h h.own) (bytes_at (with_cells h cell) h.own)) where
  module _ (level b : ℕ) (raised : IsRaised h cell level b) (head : take header_length (bytes_at (with_cells h cell) b) ≡ take header_length (new_bytes h.size 1)) where
    keeps : IsFile (with_cells h cell) × (content_of (with_cells h cell) ≡ content_of h) × (block_count (with_cells h cell) ≡ block_count h + 1)
    keeps = raises_keep_files h cell level b file raised

    apart : (x : ℕ) → IsSome (h.cell x) → x ≢ b
    apart x had e = none_some (h.cell x) (ap h.cell e ∙ raised.new) had

    higher : height_in (with_cells h cell) ≡ suc (suc level)
    higher = ap (λ (d : Dinode). d.height) raised.dinode

    raised_places : (x l first : ℕ) → IsSome (h.cell x) → IsPlaced (with_cells h cell) x l first ↔ IsPlaced h x l first
    raised_places x l first had = (
      λ placed. let was = unmoved h.own b (part_at h x) placed.0 placed.1 l first (sym (raised.parts x (apart x had)) ∙ placed.2) in (was.0, placed.1, was.1),
      λ placed. (moved_from h.own b placed.0, placed.1, raised.parts x (apart x had) ∙ ap (moved h.own b) placed.2),
    )

    has_already : has_content h ≡ true
    has_already = has_some h raised.leads.0 (λ none. omega (arith, none, raised.high)) raised.leads.1 raised.leads.2

    top_level : AreLevels h (with_cells h cell) (suc (suc level)) (b ∷ [])
    top_level = record {
      each = λ l is low.
          let same : suc level ≡ l = omega (arith, is.1, low, raised.high) in
          (b, (0, omega arith, refl), (h.own, 0, raised.part ∙ ap (λ n. Some (Pointed h.own 0 n 0)) same));
      only = λ x l first taken placed.
          let part = sym raised.part ∙ ap (part_at (with_cells h cell)) (sym (only_in b x taken)) ∙ placed.2 in
          ((has_already, omega (arith, same_level part, raised.high), sym (same_first part)), omega (arith, same_level part));
      turn = stand_one IsLower (with_cells h cell) b;
    }

    pub raised_is_risen : IsRisen old new h cell (suc (suc level)) (b ∷ [])
    raised_is_risen = record {
      grown = record {
        file = keeps.0;
        dinode = raised.dinode;
        content = keeps.1;
        blocks = one_more h cell b raised.new (is_there (cell b) _ raised.part) (λ x other. some_same h.own b (h.cell x) (cell x) (raised.parts x other));
        counted = keeps.2;
        places = raised_places;
        headers = record {
          pads = pads;
          old = λ x l first had placed. ap (take header_length) (raised.others x (apart x had) (λ e.
              not_itself _ _ _ _ (sym keeps.0.own ∙ ap (part_at (with_cells h cell)) (sym e) ∙ placed.2)));
          new = λ x l first taken placed. ap (λ y. take header_length (bytes_at (with_cells h cell) y)) (only_in b x taken) ∙ head;
        };
        drafted = becomes.drafted;
      };
      need = λ at end to low.
          let one = raises_lower_need h cell level b at end to file raised (omega (arith, low)) in
          omega (arith, one);
      clear = λ high clear. rises_stay_clear h cell level b (dinode_in h).size file raised (clear (λ none. omega (arith, none, raised.high)));
      along = has_some (with_cells h cell) 0 (λ none. omega (arith, none, higher)) (omega (arith, raised.leads.1)) (λ none. raised.some (sym raised.first ∙ none)) ∙ sym has_already;
      levels = top_level;
    }

  module _ (b : ℕ) (moved_out : IsUnstuffed h cell b) where
    kept : IsFile (with_cells h cell) × (content_of (with_cells h cell) ≡ content_of h) × (block_count (with_cells h cell) ≡ block_count h + 1)
    kept = unstuffing_keeps_files h cell b file moved_out

    other : (x : ℕ) → IsSome (h.cell x) → x ≢ b
    other x had e = none_some (h.cell x) (ap h.cell e ∙ moved_out.new) had

    one_high : height_in (with_cells h cell) ≡ 1
    one_high = ap (λ (d : Dinode). d.height) moved_out.dinode

    has_behind : has_content h ≡ true
    has_behind = cond-true _ _ _ (eq-eqb (height_in h) 0 moved_out.stuffed) ∙ ap not (ne_eqb (dinode_in h).size 0 moved_out.content)

    first_level : AreLevels h (with_cells h cell) 1 (b ∷ [])
    first_level = record {
      each = λ l is low.
          let same : 0 ≡ l = omega (arith, low) in
          (b, (0, omega arith, refl), (h.own, 0, moved_out.part ∙ ap (λ n. Some (Pointed h.own 0 n 0)) same));
      only = λ x l first taken placed.
          let part = sym moved_out.part ∙ ap (part_at (with_cells h cell)) (sym (only_in b x taken)) ∙ placed.2 in
          ((has_behind, omega (arith, moved_out.stuffed), sym (same_first part)), omega (arith, same_level part));
      turn = stand_one IsLower (with_cells h cell) b;
    }

    pub moved_is_risen : IsRisen old new h cell 1 (b ∷ [])
    moved_is_risen = record {
      grown = record {
        file = kept.0;
        dinode = moved_out.dinode;
        content = kept.1;
        blocks = one_more h cell b moved_out.new (is_there (cell b) _ moved_out.part) (λ x apart. some_by_part (h.cell x) (cell x) (moved_out.parts x apart));
        counted = kept.2;
        places = λ x l first had. (
          λ placed. (placed.0, placed.1, sym (moved_out.parts x (other x had)) ∙ placed.2),
          λ placed. (placed.0, placed.1, moved_out.parts x (other x had) ∙ placed.2),
        );
        headers = record {
          pads = pads;
          old = λ x l first had placed. ap (take header_length) (moved_out.others x (other x had) (λ e.
              not_itself _ _ _ _ (sym kept.0.own ∙ ap (part_at (with_cells h cell)) (sym e) ∙ placed.2)));
          new = λ x l first taken placed.
              let content : 0 ≡ suc l = same_level (sym moved_out.part ∙ ap (part_at (with_cells h cell)) (sym (only_in b x taken)) ∙ placed.2) in
              absurd (omega (arith, content));
        };
        drafted = becomes.drafted;
      };
      need = λ at end to low.
          let one = unstuffing_lowers_need h cell b at end to file moved_out (omega (arith, low)) in
          omega (arith, one);
      clear = λ high clear. moved_content_is_clear h cell b file moved_out;
      along = has_some (with_cells h cell) 0 (λ none. omega (arith, none, one_high)) (omega (arith, size_large h.size file.block_size)) (λ none. moved_out.some (sym moved_out.first ∙ none)) ∙ sym has_behind;
      levels = first_level;
    }

  module _ (height : ℕ) (none_along : has_content h ≡ false) (bare : IsBareTo h cell height) where
    same : IsFile (with_cells h cell) × (content_of (with_cells h cell) ≡ content_of h)
    same = bare_files_change_height h cell height file bare

    all_same : (x : ℕ) → is_some (cell x) ≡ is_some (h.cell x)
    all_same x = some_by_part (h.cell x) (cell x) (bare.parts x)

    same_count : block_count (with_cells h cell) ≡ block_count h
    unfolding block_count
    same_count = count_same (λ x. is_some (h.cell x)) (λ x. is_some (cell x)) 0 h.count (λ x low high. all_same x)

    high_now : height_in (with_cells h cell) ≡ height
    high_now = ap (λ (d : Dinode). d.height) bare.dinode

    none_still : has_content (with_cells h cell) ≡ false
    none_still = elim (cases_eq height 0) [
      | inl none ↦
          cond-true _ _ _ (eq-eqb (height_in (with_cells h cell)) 0 (high_now ∙ none))
          ∙ ap not (eq-eqb (dinode_in (with_cells h cell)).size 0 (ap (λ (d : Dinode). d.size) bare.dinode ∙ bare.to_stuffed none))
      | inr high ↦ sym (pointers_go_along (with_cells h cell) false (λ none. high (sym high_now ∙ none)) (λ no. absurd (cc), λ found. absurd (found.2 (bare.none found.0 found.1))))
    ]

    pub bare_is_risen : IsRisen old new h cell height []
    bare_is_risen = record {
      grown = record {
        file = same.0;
        dinode = bare.dinode;
        content = same.1;
        blocks = record { count = refl; blocks = λ x. (λ there. inl (sym (all_same x) ∙ there), λ either. elim either [ inl had ↦ all_same x ∙ had | inr taken ↦ absurd (none_in x taken) ]) };
        counted = (let one : block_count h ≡ block_count h + 0 = omega arith in same_count ∙ one);
        places = λ x l first had. (λ placed. (placed.0, placed.1, sym (bare.parts x) ∙ placed.2), λ placed. (placed.0, placed.1, bare.parts x ∙ placed.2));
        headers = record {
          pads = pads;
          old = λ x l first had placed. ap (take header_length) (bare.others x (λ e. not_itself _ _ _ _ (sym same.0.own ∙ ap (part_at (with_cells h cell)) (sym e) ∙ placed.2)));
          new = λ x l first none. absurd (none_in x none);
        };
        drafted = becomes.drafted;
      };
      need = λ at end to low.
          let kept_need = bare_heights_keep_need h cell height at end to file bare in
          let zero_more : needed_below (with_cells h cell) at end to ≡ 0 + needed_below (with_cells h cell) at end to = omega arith in
          sym kept_need ∙ zero_more;
      clear = λ high clear. bare_files_are_clear h cell height (dinode_in h).size file bare high;
      along = none_still ∙ sym none_along;
      levels = record {
        each = λ level is low. (let both : true ≡ false = sym is.0 ∙ none_along in absurd (cc));
        only = λ x level first none. absurd (none_in x none);
        turn = tt;
      };
    }

-- ---- as the draft shows it

own_or_taken : (own inode b : ℕ) → own ≡ inode → (x : ℕ) → (x ≡ inode) ⊎ (x ≡ b) → (x ≡ own) ⊎ Contains (b ∷ []) x
own_or_taken own inode b is x (inl e) = inl (e ∙ sym is)
own_or_taken own inode b is x (inr e) = inr (subst (Contains (b ∷ [])) (sym e) (0, omega arith, refl))

pub moved_has : (after : Seen) (old new : FinMap nat_cmp Fate) (inode b : ℕ) (h : Holding) (cell : ℕ → Option Cell) (d : Dinode) (left : List ℕ) → IsFile h → h.own ≡ inode → d ≡ dinode_in h → d.height ≡ 0 → IsUnstuffed h cell b
    → Becomes after old new inode h (with_cells h cell) → HaveSamePads (bytes_at h h.own) (bytes_at (with_cells h cell) h.own) → ChangesOnly old new (λ x. (x ≡ inode) ⊎ (x ≡ b)) → HasRisen after old new (b ∷ left) left h (d.height + 1) (record d { height = d.height + 1 })
moved_has after old new inode b h cell d left file own d_is stuffed moved_out becomes pads changes =
    let one : 1 ≡ d.height + 1 = omega (arith, stuffed) in
    record {
      cell = cell;
      taken = b ∷ [];
      shown = subst (λ a. IsShown after a (with_cells h cell)) (sym own) becomes.shown;
      risen = subst (λ n. IsRisen old new h cell n (b ∷ [])) one (moved_is_risen old new after inode h cell file becomes pads b moved_out);
      from_front = refl;
      dinode = (λ t. record (d_is t) { height = sym one t }) ∙ sym moved_out.dinode;
      changes = changes_wider old new _ _ (own_or_taken h.own inode b own) changes;
    }

pub raised_has : (after : Seen) (old new : FinMap nat_cmp Fate) (inode level b : ℕ) (h : Holding) (cell : ℕ → Option Cell) (d : Dinode) (left : List ℕ) → IsFile h → h.own ≡ inode → d ≡ dinode_in h → IsRaised h cell level b
    → take header_length (bytes_at (with_cells h cell) b) ≡ take header_length (new_bytes h.size 1) → Becomes after old new inode h (with_cells h cell) → HaveSamePads (bytes_at h h.own) (bytes_at (with_cells h cell) h.own) → ChangesOnly old new (λ x. (x ≡ inode) ⊎ (x ≡ b)) → HasRisen after old new (b ∷ left) left h (d.height + 1) (record d { height = d.height + 1 })
raised_has after old new inode level b h cell d left file own d_is raised head becomes pads changes =
    let high : d.height ≡ suc level = ap (λ (x : Dinode). x.height) d_is ∙ raised.high in
    let more : suc (suc level) ≡ d.height + 1 = omega (arith, high) in
    record {
      cell = cell;
      taken = b ∷ [];
      shown = subst (λ a. IsShown after a (with_cells h cell)) (sym own) becomes.shown;
      risen = subst (λ n. IsRisen old new h cell n (b ∷ [])) more (raised_is_risen old new after inode h cell file becomes pads level b raised head);
      from_front = refl;
      dinode = (λ t. record (d_is t) { height = sym more t }) ∙ sym raised.dinode;
      changes = changes_wider old new _ _ (own_or_taken h.own inode b own) changes;
    }

pub bare_has : (after : Seen) (old new : FinMap nat_cmp Fate) (inode height : ℕ) (room : List ℕ) (h : Holding) (cell : ℕ → Option Cell) (d : Dinode) → IsFile h → h.own ≡ inode → d ≡ dinode_in h → has_content h ≡ false → IsBareTo h cell height
    → Becomes after old new inode h (with_cells h cell) → HaveSamePads (bytes_at h h.own) (bytes_at (with_cells h cell) h.own) → ChangesOnly old new (λ x. x ≡ inode) → HasRisen after old new room room h height (record d { height = height })
bare_has after old new inode height room h cell d file own d_is none bare becomes pads changes = record {
  cell = cell;
  taken = [];
  shown = subst (λ a. IsShown after a (with_cells h cell)) (sym own) becomes.shown;
  risen = bare_is_risen old new after inode h cell file becomes pads height none bare;
  from_front = refl;
  dinode = ap (λ (x : Dinode). record x { height = height }) d_is ∙ sym bare.dinode;
  changes = changes_wider old new _ _ (λ x e. inl (e ∙ sym own)) changes;
}

-- the room's first block is new to the file
pub first_is_new : (h : Holding) (b : ℕ) (left : List ℕ) → AreFreeFor h (b ∷ left) → IsNewTo h b
first_is_new h b left free =
    let here : Contains (b ∷ left) b = (0, omega arith, refl) in
    record { new = free.new b here; some = λ none. free.some (subst (Contains (b ∷ left)) none here); inside = free.inside b here }

-- what lets a file be so high
pub can_rise : (h : Holding) (level : ℕ) → height_in h ≡ suc level → suc level < 10 → has_content h ≡ true → CanRise h level
can_rise h level high low has = record { high = high; low = omega (arith, low); leads = led_along h (λ none. omega (arith, none, high)) has }

-- ---- the height that is worked out

pub height_is : (h : Holding) (d : Dinode) (size block height : ℕ) → block ≡ h.size → d ≡ dinode_in h → height ≡ raised_to block d.height size (10 - d.height) → height ≡ height_for h size
height_is h d size block height block_is d_is is = is ∙ (λ t. raised_to (block_is t) (d_is t).height size (10 - (d_is t).height))

-- it reaches the size, also of a file that is larger than one may get
pub reach_of : (h : Holding) (size : ℕ) → IsFile h → (dinode_in h).size ≤ size → size ≤ max (dinode_in h).size file_limit → (height_in h ≤ height_for h size) × (height_for h size ≤ 10) × (size ≤ capacity h.size (height_for h size))
reach_of h size file least short = elim (cases_lt file_limit size) [
  | inr low ↦ heights_reach h size file low
  | inl large ↦
      let same : size ≡ (dinode_in h).size = omega (arith, large, least, short) in
      let room : size ≤ capacity h.size (height_in h) = subst (λ n. n ≤ capacity h.size (height_in h)) (sym same) (room_at (height_in h) refl) in
      let stays : height_for h size ≡ height_in h = raised_enough h.size (height_in h) size (10 - height_in h) room in
      (omega (arith, stays), omega (arith, stays, file.fits.low), subst (λ n. size ≤ capacity h.size n) (sym stays) room)
]
  where
    some : 0 < h.size
    some = omega (arith, size_large h.size file.block_size)

    room_at : (n : ℕ) → height_in h ≡ n → (dinode_in h).size ≤ capacity h.size n
    room_at zero is = omega (arith, file.fits.stuffed is)
    room_at (suc level) is =
        let under = file.fits.under level is in
        let count : content_count h ≡ ((dinode_in h).size + h.size - 1) / h.size = ap (pieces (dinode_in h).size) (whole_unit h file.regular) in
        let until : (dinode_in h).size + h.size - 1 < h.size * (((dinode_in h).size + h.size - 1) / h.size + 1) = lt-mul-div-succ ((dinode_in h).size + h.size - 1) some in
        let more : content_count h * h.size ≤ fan h.size dinode_length * span h.size level * h.size = mul-le-mul_right h.size under in
        omega (arith, until, some, more, ap (λ n. n * h.size) count)

-- a file without content to go along can be so high
pub can_be_bare : (h : Holding) (size height : ℕ) (room : List ℕ) → CanGrow h size room → height ≡ height_for h size → has_content h ≡ false → CanBeBare h height
can_be_bare h size height room can is none = record {
  bare = λ b from k level first. bare_files_have_no_block h b from k level first can.file none;
  low = omega (arith, is, reach.1);
  enough = λ level e. capacity_reaches h (dinode_in h).size level can.file
      (let fits : (dinode_in h).size ≤ capacity h.size height = subst (λ n. (dinode_in h).size ≤ capacity h.size n) (sym is) (omega (arith, can.least, reach.2)) in subst (λ n. (dinode_in h).size ≤ capacity h.size n) e fits);
  from_stuffed = empty;
  to_stuffed = λ e. empty (omega (arith, e, is, reach.0));
}
  where
    reach : (height_in h ≤ height_for h size) × (height_for h size ≤ 10) × (size ≤ capacity h.size (height_for h size))
    reach = reach_of h size can.file can.least can.short

    empty : height_in h ≡ 0 → (dinode_in h).size ≡ 0
    empty stuffed = elim (cases_eq (dinode_in h).size 0) [
      | inl zero_size ↦ zero_size
      | inr some ↦
          let has : has_content h ≡ true = cond-true _ _ _ (eq-eqb (height_in h) 0 stuffed) ∙ ap not (ne_eqb (dinode_in h).size 0 some) in
          let both : true ≡ false = sym has ∙ none in
          absurd (cc)
    ]

-- ---- the header of a level that is new

-- the header stands before the pointers that move there
pub raised_head : (h : Holding) (level b : ℕ) (own bytes : List ℕ) → length bytes ≡ h.size → 512 ≤ h.size
    → take header_length (bytes_at (with_cells h (raised_cells h level b own (raised_bytes bytes))) b) ≡ take header_length (new_bytes h.size 1)
raised_head h level b own bytes whole large =
    let here : bytes_at (with_cells h (raised_cells h level b own (raised_bytes bytes))) b ≡ raised_bytes bytes = ap cell_bytes (cond-true _ _ _ (eq-eqb b b refl)) in
    ap (take header_length) here ∙ before_rest header_length (new_bytes (length bytes) 1) _ (omega (arith, new_length (length bytes) 1 (omega (arith, whole, large)), whole, large)) ∙ ap (λ n. take header_length (new_bytes n 1)) whole
