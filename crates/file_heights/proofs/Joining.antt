-- A file that grows, one step after another.
use Rattle.std.proofs.Common.{◌≡◌, ◌⊎◌, inl, inr, Option, ℕ, ◌+◌, ◌<◌, ◌≤◌, List, [], ◌++◌, refl, sym, ap, subst, ◌∙◌, arith, length-append, append_assoc}
use Rattle.std.proofs.lemmas.Bool.{cases_lt}
use Rattle.std.proofs.lemmas.List.Elements.{Contains-append_left, Contains-append_right, Contains-append_cases}
use Rattle.std.specs.Prelude.{Contains, IsSome}
use Rattle.std.specs.FinMap.{FinMap}
use Rattle.std.specs.Ordering.{nat_cmp}
use Rattle.drafts.specs.declared.fate.Fate.{Fate}
use Rattle.gfs2_layout.specs.Holding.{Cell, Holding}
use Rattle.gfs2_layout.specs.Inode.{block_count, content_of, dinode_in, height_in}
use Rattle.gfs2_layout.specs.declared.dinode.Dinode.{Dinode}
use Rattle.glock_names.specs.Views.{Seen}
use Rattle.dinode_tree.specs.Shown.{IsShown}
use Rattle.growth_laws.specs.Files.{IsFile, with_cells}
use Rattle.growth_laws.specs.Need.{needed_below}
use Rattle.growth_laws.specs.Steps.{IsClearFrom}
use Rattle.growth_drafts.specs.Taken.{AreFreeFor, HasTaken}
use Rattle.growth_drafts.proofs.Rooms.{free_left, none_in}
use Rattle.growth_steps.proofs.Putting.{drafts_nothing, drafts_on}
use Rattle.file_fills.proofs.Headers.{headers_then}
use Rattle.file_fills.proofs.Turns.{stand_as, stand_then}
use Rattle.file_heights.specs.Grown.{AreLevels, HasRisen, IsGrown, IsLower, IsRisen}
use Rattle.file_heights.proofs.Changing.{changes_then}

-- ---- the same file

pub grown_none : (fates : FinMap nat_cmp Fate) (h : Holding) → IsFile h → IsGrown fates fates h h.cell (dinode_in h) (content_of h) []
grown_none fates h file = record {
  file = file;
  dinode = refl;
  content = refl;
  blocks = record { count = refl; blocks = λ b. (λ some. inl some, λ either. elim either [ inl some ↦ some | inr none ↦ absurd (none_in b none) ]) };
  counted = (let same : block_count h ≡ block_count h + 0 = omega arith in same);
  places = λ b level first some. (λ x. x, λ x. x);
  headers = record { pads = λ d behind. refl; old = λ b level first had placed. refl; new = λ b level first none. absurd (none_in b none) };
  drafted = drafts_nothing fates h;
}

pub risen_none : (fates : FinMap nat_cmp Fate) (h : Holding) → IsFile h → IsRisen fates fates h h.cell (height_in h) []
risen_none fates h file = record {
  grown = grown_none fates h file;
  need = λ at end to low. (let same : needed_below h at end to ≡ 0 + needed_below h at end to = omega arith in same);
  clear = λ high clear. clear high;
  along = refl;
  levels = record { each = λ level is low. absurd (omega (arith, is.1, low)); only = λ b level first none. absurd (none_in b none); turn = tt };
}

-- ---- one after another

-- more blocks, and then still more
pub taken_then : (h g k : Holding) (t1 t2 : List ℕ) → HasTaken h g t1 → HasTaken g k t2 → HasTaken h k (t1 ++ t2)
taken_then h g k t1 t2 a b = record {
  count = b.count ∙ a.count;
  blocks = λ x. (
    λ some. elim ((b.blocks x).0 some) [
      | inl mid ↦ elim ((a.blocks x).0 mid) [ inl had ↦ inl had | inr taken ↦ inr (Contains-append_left t1 t2 x taken) ]
      | inr taken ↦ inr (Contains-append_right t1 t2 x taken)
    ],
    λ either. elim either [
      | inl had ↦ (b.blocks x).1 (inl ((a.blocks x).1 (inl had)))
      | inr taken ↦ elim (Contains-append_cases t1 t2 x taken) [
        | inl early ↦ (b.blocks x).1 (inl ((a.blocks x).1 (inr early)))
        | inr late ↦ (b.blocks x).1 (inr late)
      ]
    ],
  );
}

pub grown_then : (f0 f1 f2 : FinMap nat_cmp Fate) (h : Holding) (c1 c2 : ℕ → Option Cell) (d1 d2 : Dinode) (b1 b2 t1 t2 : List ℕ) → IsGrown f0 f1 h c1 d1 b1 t1 → IsGrown f1 f2 (with_cells h c1) c2 d2 b2 t2
    → IsGrown f0 f2 h c2 d2 b2 (t1 ++ t2)
grown_then f0 f1 f2 h c1 c2 d1 d2 b1 b2 t1 t2 a b = record {
  file = b.file;
  dinode = b.dinode;
  content = b.content;
  blocks = taken_then h (with_cells h c1) (with_cells h c2) t1 t2 a.blocks b.blocks;
  counted = omega (arith, a.counted, b.counted, length-append t1 t2);
  places = λ x level first some.
      let mid : IsSome (c1 x) = (a.blocks.blocks x).1 (inl some) in (
        λ placed. (a.places x level first some).0 ((b.places x level first mid).0 placed),
        λ placed. (b.places x level first mid).1 ((a.places x level first some).1 placed),
      );
  headers = headers_then h (with_cells h c1) (with_cells h c2) t1 t2 refl refl (λ x had. (a.blocks.blocks x).1 (inl had)) (λ x early. (a.blocks.blocks x).1 (inr early)) (λ x level first mid. (b.places x level first mid).0) a.headers b.headers;
  drafted = drafts_on f0 f1 f2 h (with_cells h c1) (with_cells h c2) refl (λ x mid. (b.blocks.blocks x).1 (inl mid)) a.drafted b.drafted;
}

-- the same in other words
pub grown_as : (f0 f1 : FinMap nat_cmp Fate) (h : Holding) (cell : ℕ → Option Cell) (d d' : Dinode) (bytes bytes' taken taken' : List ℕ) → d ≡ d' → bytes ≡ bytes' → taken ≡ taken' → IsGrown f0 f1 h cell d bytes taken
    → IsGrown f0 f1 h cell d' bytes' taken'
grown_as f0 f1 h cell d d' bytes bytes' taken taken' de be te grown =
    subst (λ t. IsGrown f0 f1 h cell d' bytes' t) te (subst (λ b. IsGrown f0 f1 h cell d' b taken) be (subst (λ x. IsGrown f0 f1 h cell x bytes taken) de grown))

module _ (f0 f1 f2 : FinMap nat_cmp Fate) (h : Holding) (c1 c2 : ℕ → Option Cell) (m n : ℕ) (t1 t2 : List ℕ) (least : height_in h ≤ m) (up : m ≤ n) (a : IsRisen f0 f1 h c1 m t1) (b : IsRisen f1 f2 (with_cells h c1) c2 n t2) where
  mid : Holding
  mid = with_cells h c1

  high_mid : height_in (with_cells h c1) ≡ m
  high_mid = ap (λ (d : Dinode). d.height) a.grown.dinode

  size_mid : (dinode_in (with_cells h c1)).size ≡ (dinode_in h).size
  size_mid = ap (λ (d : Dinode). d.size) a.grown.dinode

  took : (x : ℕ) → Contains t1 x → IsSome (c1 x)
  took x early = (a.grown.blocks.blocks x).1 (inr early)

  levels_then : AreLevels h (with_cells h c2) n (t1 ++ t2)
  levels_then = record {
    each = λ level is low. elim (cases_lt level m) [
      | inl below ↦
          let found = a.levels.each level is below in
          (found.0, Contains-append_left t1 t2 found.0 found.1, (b.grown.places found.0 level 0 (took found.0 found.1)).1 found.2)
      | inr above ↦
          let found = b.levels.each level (a.along ∙ is.0, omega (arith, high_mid, above), refl) low in
          (found.0, Contains-append_right t1 t2 found.0 found.1, found.2)
    ];
    only = λ x level first taken placed. elim (Contains-append_cases t1 t2 x taken) [
      | inl early ↦
          let is = a.levels.only x level first early ((b.grown.places x level first (took x early)).0 placed) in
          (is.0, omega (arith, is.1, up))
      | inr late ↦
          let is = b.levels.only x level first late placed in
          ((sym a.along ∙ is.0.0, omega (arith, is.0.1, high_mid, least), is.0.2), is.1)
    ];
    turn = stand_then IsLower (with_cells h c2) t1 t2
        (stand_as IsLower IsLower (with_cells h c1) (with_cells h c2) t1 (λ x level first early placed. (b.grown.places x level first (took x early)).0 placed) (λ x y level first level' first' has has' placed placed' less. less) a.levels.turn) b.levels.turn
        (λ x y level first level' first' early late placed placed'.
        let low = a.levels.only x level first early ((b.grown.places x level first (took x early)).0 placed) in
        let high = b.levels.only y level' first' late placed' in
        omega (arith, low.1, high.0.1, high_mid));
  }

  pub risen_then : IsRisen f0 f2 h c2 n (t1 ++ t2)
  risen_then = record {
    grown =
        grown_as f0 f2 h c2 _ _ _ _ _ _ (ap (λ (d : Dinode). record d { height = n }) a.grown.dinode) a.grown.content refl
        (grown_then f0 f1 f2 h c1 c2 _ _ _ _ t1 t2 a.grown b.grown);
    need = λ at end to low.
        let first = a.need at end to (omega (arith, up, low)) in
        let second = b.need at end to low in
        omega (arith, first, second, length-append t1 t2);
    clear = λ high clear. subst (IsClearFrom (with_cells h c2)) size_mid
        (b.clear high (λ high'. subst (IsClearFrom (with_cells h c1)) (sym size_mid) (a.clear (λ none. high' (high_mid ∙ none)) clear)));
    along = b.along ∙ a.along;
    levels = levels_then;
  }

-- as drafts show it
pub has_risen_then : (before after : Seen) (f0 f1 f2 : FinMap nat_cmp Fate) (room between left : List ℕ) (h : Holding) (m n : ℕ) (d d' : Dinode) → height_in h ≤ m → m ≤ n → (a : HasRisen before f0 f1 room between h m d)
    → HasRisen after f1 f2 between left (with_cells h a.cell) n d' → HasRisen after f0 f2 room left h n d'
has_risen_then before after f0 f1 f2 room between left h m n d d' least up a b = record {
  cell = b.cell;
  taken = a.taken ++ b.taken;
  shown = b.shown;
  risen = risen_then f0 f1 f2 h a.cell b.cell m n a.taken b.taken least up a.risen b.risen;
  from_front = a.from_front ∙ ap (λ xs. a.taken ++ xs) b.from_front ∙ sym (append_assoc a.taken b.taken left);
  dinode = b.dinode;
  changes = changes_then f0 f1 f2 _ _ _ earlier later a.changes b.changes;
}
  where
    earlier : (x : ℕ) → (x ≡ h.own) ⊎ Contains a.taken x → (x ≡ h.own) ⊎ Contains (a.taken ++ b.taken) x
    earlier x (inl own) = inl own
    earlier x (inr taken) = inr (Contains-append_left a.taken b.taken x taken)

    later : (x : ℕ) → (x ≡ h.own) ⊎ Contains b.taken x → (x ≡ h.own) ⊎ Contains (a.taken ++ b.taken) x
    later x (inl own) = inl own
    later x (inr taken) = inr (Contains-append_right a.taken b.taken x taken)

-- the same file, as a draft shows it that does nothing
pub has_risen_none : (after : Seen) (fates : FinMap nat_cmp Fate) (inode : ℕ) (room : List ℕ) (h : Holding) (d : Dinode) → IsFile h → IsShown after inode h → d ≡ dinode_in h → HasRisen after fates fates room room h d.height d
has_risen_none after fates inode room h d file shown d_is =
    subst (λ n. HasRisen after fates fates room room h n d) (ap (λ (x : Dinode). x.height) (sym d_is)) (record {
      cell = h.cell;
      taken = [];
      shown = subst (λ a. IsShown after a h) (sym shown.own) shown;
      risen = risen_none fates h file;
      from_front = refl;
      dinode = d_is;
      changes = λ x. inl refl;
    })

-- what is left of the room
pub room_left : (after : Seen) (f0 f1 : FinMap nat_cmp Fate) (room left : List ℕ) (h : Holding) (height : ℕ) (d : Dinode) → AreFreeFor h room → (a : HasRisen after f0 f1 room left h height d) → AreFreeFor (with_cells h a.cell) left
room_left after f0 f1 room left h height d free a = free_left h a.cell a.taken room left free a.from_front a.risen.grown.blocks
