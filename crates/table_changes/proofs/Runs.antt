-- Runs of pointers that are set one behind another.
use Rattle.std.proofs.Common.{◌≡◌, ◌⊎◌, ℕ, zero, suc, ◌+◌, ◌-◌, ◌*◌, ◌/◌, ◌%◌, ◌^◌, ◌<◌, ◌≤◌, inl, inr, false, List, [], ◌∷◌, ◌++◌, length, get_or, take, Some, refl, sym, ap, ap₂, ◌∙◌, subst, arith, lit<}
use Rattle.std.specs.Prelude.{Contains, IsSome, if◌then◌else◌}
use Rattle.std.specs.Cmp.{nat_cmp_total}
use Rattle.std.specs.FinMap.{FinMap, get, insert, nat_cmp-IsAntisymmetric}
use Rattle.std.specs.Ordering.{nat_cmp}
use Rattle.std.proofs.lemmas.List.{get_or_default}
use Rattle.std.proofs.lemmas.List.Elements.{Contains-append_cases, Contains-append_right}
use Rattle.finite_maps.proofs.Keys.{inserted_apart}
use Rattle.drafts.specs.declared.fate.Fate.{Fate}
use Rattle.gfs2_layout.specs.Device.{IsBlockSize}
use Rattle.image_model.proofs.Rows.{and_left}
use Rattle.dinode_tree.proofs.Sound.{size_large}
use Rattle.pointer_tables.specs.Directories.{IsPlaced, IsTreeSound}
use Rattle.table_files.specs.Pointers.{HasPointerOf, IsBesidePointers}
use Rattle.table_files.proofs.ContentParts.{whole_by_parts}
use Rattle.table_files.proofs.Entries.{within}
use Rattle.std.proofs.lemmas.Bool.{cases_eq, cases_lt, cond-true, cond-false}
use Rattle.drafts.specs.Fates.{Drafted, seen_in}
use Rattle.drafts.specs.declared.fate.Fate.TheVariants.{Put}
use Rattle.gfs2_layout.specs.Holding.{Holding, cell_part}
use Rattle.gfs2_layout.specs.Inode.{content_block, dinode_in, entry, entry_block, fan, has_hash_flag, header_length, height_in, is_directory_in, span, table_count, unit}
use Rattle.gfs2_layout.specs.Structures.{dinode_length, is_directory}
use Rattle.gfs2_layout.specs.declared.dinode.Dinode.{Dinode}
use Rattle.glock_names.specs.Views.{Seen, HasBlock}
use Rattle.dinode_tree.specs.Reading.{inode_lock}
use Rattle.dinode_tree.specs.Shown as inode
use Rattle.linear_dirs.specs.Shown.{holding_over}
use Rattle.linear_dirs.proofs.Over.{over_over}
use Rattle.linear_dirs.proofs.Rewritten.{over_there}
use Rattle.pointer_tables.specs.Tables.{is_within}
use Rattle.table_files.specs.Tables.{DraftsDirectory, HasPointersSet}
use Rattle.table_files.specs.TreePointers.{IsTableOf}
use Rattle.table_changes.specs.Setting.{AreRuns, HasNumbersSet, IsRun, IsSeenRun, IsSetIn, PutsRuns, counted}
use Rattle.table_changes.specs.declared.finding.Run.{Run}
use Rattle.table_files.specs.tree_table.TreeTable.{TreeTable}
use Rattle.table_changes.proofs.Beside.{entry_block_after, entry_place_after, place_in_run}
use Rattle.table_changes.proofs.Entered.{choose, is_before, is_behind, is_in}
use Rattle.table_changes.proofs.Kept.{KeepsContentBlocks}
use Rattle.table_changes.proofs.OneRun.{over_same}
use Rattle.table_changes.proofs.RunSet.{IsSetKept, run_is_set, seen_still}

-- ---- nothing is set yet

pub shown_alone : (v : Seen) (a : ℕ) (h : Holding) → inode.IsShown v a h → holding_over v h ≡ h
shown_alone v a h shown = λ t. record h { cell = λ b. over_same (v.block_at b) (h.cell b) (λ bytes some at. shown.same b bytes some at) t }

pub none_set_in : {V : Type 0} (seen : V → Seen) (old : Drafted V) (t : TreeTable) (h : Holding) (from leaf : ℕ) → IsTableOf t (seen_in seen old) h → IsSetKept seen old old t h from 0 leaf
none_set_in {V} seen old t h from leaf table =
    subst (λ x. (IsTableOf t (seen_in seen old) x × HasPointersSet h x from 0 leaf × DraftsDirectory old.fates old.fates h x) × KeepsContentBlocks h x) (sym (shown_alone (seen_in seen old) t.directory h table.shown)) (
      (
        table,
        record {
          sound = λ s. s;
          placed = λ p. p;
          dinode = refl;
          front = refl;
          entries = λ i low. choose from 0 i leaf (entry h i) (entry h i) (λ more less. absurd (omega (arith, more, less))) (λ apart. refl);
          blocks = λ i low. refl;
          others = λ x at n beside. refl;
          stays = record { leaves = λ x hash place at. refl; parts = λ x hash place at. at };
        },
        record { own = λ b some. inl (refl, refl); others = λ b none. refl },
      ),
      λ level high i low. refl,
    )

-- ---- one run more

in_set : (from count i leaf e r : ℕ) → r ≡ (if is_within from count i then leaf else e) → from ≤ i → i < from + count → r ≡ leaf
in_set from count i leaf e r is low high = is ∙ cond-true (is_within from count i) leaf e (is_in from count i low high)

out_set : (from count i leaf e r : ℕ) → r ≡ (if is_within from count i then leaf else e) → (i < from) ⊎ (from + count ≤ i) → r ≡ e
out_set from count i leaf e r is (inl less) = is ∙ cond-false (is_within from count i) leaf e (is_before from count i less)
out_set from count i leaf e r is (inr more) = is ∙ cond-false (is_within from count i) leaf e (is_behind from count i more)

both_set : (from k n i leaf e m r : ℕ) → m ≡ (if is_within from k i then leaf else e) → r ≡ (if is_within (from + k) n i then leaf else m) → r ≡ (if is_within from (k + n) i then leaf else e)
both_set from k n i leaf e m r first next = choose from (k + n) i leaf e r
    (λ more less. elim (cases_lt i (from + k)) [
      | inl below ↦ out_set (from + k) n i leaf m r next (inl below) ∙ in_set from k i leaf e m first more below
      | inr above ↦ in_set (from + k) n i leaf m r next above (omega (arith, less))
    ])
    (λ apart. out_set (from + k) n i leaf m r next (elim apart [
      | inl less ↦ inl (omega (arith, less))
      | inr more ↦ inr (omega (arith, more))
    ]) ∙ out_set from k i leaf e m first (elim apart [
      | inl less ↦ inl less
      | inr more ↦ inr (omega (arith, more))
    ]))

module _ {V : Type 0} (seen : V → Seen) (old mid new : Drafted V) (t : TreeTable) (h : Holding) (from k n leaf : ℕ) (one : IsSetKept seen old mid t h from k leaf)
    (more : IsSetKept seen mid new t (holding_over (seen_in seen mid) h) (from + k) n leaf)
    (near : (j level : ℕ) → j < from + k + n → height_in h ≡ suc level → 8 * j / unit h < fan h.size dinode_length * span h.size level) where
  first : IsSetIn seen old mid t h from k leaf
  first = one.0

  next : IsSetIn seen mid new t (holding_over (seen_in seen mid) h) (from + k) n leaf
  next = more.0

  abbrev g1 : Holding
  g1 = holding_over (seen_in seen mid) h

  abbrev g2 : Holding
  g2 = holding_over (seen_in seen new) g1

  counts_same : table_count g1 ≡ table_count h
  counts_same = ap (λ (d : Dinode). 2 ^ d.depth) first.1.dinode

  there_same : (b : ℕ) → IsSome (g2.cell b) → IsSome (g1.cell b)
  there_same b some = sym (over_there ((seen_in seen new).block_at b) (g1.cell b)) ∙ some

  there_after : (b : ℕ) → IsSome (g1.cell b) → IsSome (g2.cell b)
  there_after b some = over_there ((seen_in seen new).block_at b) (g1.cell b) ∙ some

  height_same : height_in g1 ≡ height_in h
  height_same = ap (λ (d : Dinode). d.height) first.1.dinode

  unit_same : unit g1 ≡ unit h
  unit_same = ap (λ (d : Dinode). if is_directory d then h.size - header_length else h.size) first.1.dinode

  -- bytes beside all of these pointers are beside those that are set first, and beside those that are set then
  beside_first : (x at m : ℕ) → IsBesidePointers h from (k + n) x at m → IsBesidePointers h from k x at m
  beside_first x at m beside j within is = beside j (record { low = within.low; high = omega (arith, within.high) }) is

  beside_next : (x at m : ℕ) → IsBesidePointers h from (k + n) x at m → IsBesidePointers g1 (from + k) n x at m
  beside_next x at m beside j within is =
      let block = entry_block_after h g1 j refl height_same unit_same one.1 (λ level high. near j level within.high high) in
      subst (λ p. (at + m ≤ p) ⊎ (p + 8 ≤ at)) (sym (entry_place_after h g1 j height_same unit_same))
      (beside j (record { low = omega (arith, within.low); high = omega (arith, within.high) }) (is ∙ block))

  set_both : HasPointersSet h g2 from (k + n) leaf
  set_both = record {
    sound = λ s. next.1.sound (first.1.sound s);
    placed = λ p. next.1.placed (first.1.placed p);
    dinode = next.1.dinode ∙ first.1.dinode;
    front = next.1.front ∙ first.1.front;
    entries = λ i low. both_set from k n i leaf (entry h i) (entry g1 i) (entry g2 i) (first.1.entries i low) (next.1.entries i (omega (arith, low, counts_same)));
    blocks = λ i low. next.1.blocks i (omega (arith, low, counts_same)) ∙ first.1.blocks i low;
    others = λ x at m beside. next.1.others x at m (beside_next x at m beside) ∙ first.1.others x at m (beside_first x at m beside);
    stays = record {
      leaves = λ x hash place at. let same = first.1.stays.leaves x hash place at in next.1.stays.leaves x hash place (ap cell_part same ∙ at) ∙ same;
      parts = λ x hash place at. first.1.stays.parts x hash place (next.1.stays.parts x hash place at);
    };
  }

  drafted_both : DraftsDirectory old.fates new.fates h g2
  drafted_both = record {
    own = λ b some. elim (next.2.own b some) [
      | inl same ↦ elim (first.2.own b (there_same b some)) [
        | inl before ↦ inl (same.0 ∙ before.0, same.1 ∙ before.1)
        | inr put ↦ inr (same.0 ∙ put ∙ ap (λ (bytes : List ℕ). Some (Put (inode_lock h.own) false bytes)) (sym same.1))
      ]
      | inr put ↦ inr put
    ];
    others = λ b none. next.2.others b none ∙ first.2.others b (λ some. none (there_after b some));
  }

  blocks_both : KeepsContentBlocks h g2
  blocks_both level high i low = more.1 level (ap (λ (d : Dinode). d.height) first.1.dinode ∙ high) i low ∙ one.1 level high i low

  pub runs_join : ((b : ℕ) → HasBlock (seen_in seen mid) b → HasBlock (seen_in seen new) b) → IsSetKept seen old new t h from (k + n) leaf
  runs_join stays =
      subst (λ x. (IsTableOf t (seen_in seen new) x × HasPointersSet h x from (k + n) leaf × DraftsDirectory old.fates new.fates h x) × KeepsContentBlocks h x) (over_over (seen_in seen mid) (seen_in seen new) h stays)
      ((next.0, set_both, drafted_both), blocks_both)

-- ---- a run of pointers is one of the directory afterwards too

run_after : (h g : Holding) (from count leaf index most : ℕ) (run : Run) → g.size ≡ h.size → g.own ≡ h.own → HasPointersSet h g from count leaf → KeepsContentBlocks h g
    → ((level : ℕ) → height_in h ≡ suc level → 8 * index / unit h < fan h.size dinode_length * span h.size level) → IsRun h index most run → IsRun g index most run
run_after h g from count leaf index most run size own set keeps near is = record {
  some = is.some;
  few = is.few;
  fits = omega (arith, is.fits, size);
  place = elim is.place [
    | inl behind ↦ inl (record { stuffed = height_is ∙ behind.stuffed; block = behind.block ∙ sym own; start = behind.start })
    | inr inside ↦ inr (record {
      level = inside.level;
      high = height_is ∙ inside.high;
      there = inside.there;
      block = ap (λ n. content_block g (8 * index / n)) unit_is ∙ keeps inside.level inside.high (8 * index / unit h) (near inside.level inside.high) ∙ inside.block;
      start = inside.start ∙ ap (λ n. header_length + 8 * index % n) (sym unit_is);
      within = subst (λ n. 8 * index % n + 8 * run.count ≤ n) (sym unit_is) inside.within;
    })
  ];
}
  where
    height_is : height_in g ≡ height_in h
    height_is = ap (λ (d : Dinode). d.height) set.dinode

    unit_is : unit g ≡ unit h
    unit_is = ap₂ (λ (d : Dinode) n. if is_directory d then n - header_length else n) set.dinode size

-- ---- runs one behind another

pub counted_more : (runs : List Run) (run : Run) → counted (runs ++ run ∷ []) ≡ counted runs + run.count
counted_more [] run = omega arith
counted_more (r ∷ rs) run = let e = counted_more rs run in omega (arith, e)

pub runs_more : (h : Holding) (index : ℕ) (runs : List Run) (run : Run) → AreRuns h index runs → IsRun h (index + counted runs) run.count run → AreRuns h index (runs ++ run ∷ [])
runs_more h index [] run are is = (subst (λ n. IsRun h n run.count run) (omega arith) is, tt)
runs_more h index (r ∷ rs) run are is = (are.0, runs_more h (index + r.count) rs run are.1 (subst (λ n. IsRun h n run.count run) (add_assoc' index r.count (counted rs)) is))
  where
    add_assoc' : (a b c : ℕ) → a + (b + c) ≡ a + b + c
    add_assoc' a b c = omega arith

-- the run at a place begins where those before it end
pub run_at : (h : Holding) (index : ℕ) (runs : List Run) (j : ℕ) (run : Run) → AreRuns h index runs → j < length runs → get_or runs j run ≡ run → IsRun h (index + counted (take j runs)) run.count run
run_at h index [] j run are low at = absurd (omega (arith, low))
run_at h index (r ∷ rs) zero run are low at = subst (λ (s : Run). IsRun h (index + 0) s.count s) at (subst (λ n. IsRun h n r.count r) (omega arith) are.0)
run_at h index (r ∷ rs) (suc j) run are low at =
    subst (λ n. IsRun h n run.count run) (sym (add_assoc' index r.count (counted (take j rs)))) (run_at h (index + r.count) rs j run are.1 (omega (arith, low)) at)
  where
    add_assoc' : (a b c : ℕ) → a + (b + c) ≡ a + b + c
    add_assoc' a b c = omega arith

pub counted_take : (runs : List Run) (j : ℕ) (run : Run) → j < length runs → get_or runs j run ≡ run → counted (take (j + 1) runs) ≡ counted (take j runs) + run.count
counted_take [] j run low at = absurd (omega (arith, low))
counted_take (r ∷ rs) zero run low at = let e : r.count ≡ run.count = ap (λ (s : Run). s.count) at in omega (arith, e)
counted_take (r ∷ rs) (suc j) run low at =
    let e = counted_take rs j run (omega (arith, low)) at in
    let next : suc j + 1 ≡ suc (j + 1) = omega arith in
    ap (λ n. counted (take n (r ∷ rs))) next ∙ grouped r.count (counted (take j rs)) run.count (counted (take (j + 1) rs)) e
  where
    grouped : (a b c d : ℕ) → d ≡ b + c → a + d ≡ a + b + c
    grouped a b c d is = omega (arith, is)

pub counted_most : (runs : List Run) (j : ℕ) → counted (take j runs) ≤ counted runs
counted_most [] zero = omega arith
counted_most [] (suc j) = omega arith
counted_most (r ∷ rs) zero = omega arith
counted_most (r ∷ rs) (suc j) = let e = counted_most rs j in omega (arith, e)

pub item_is : (runs : List Run) (n : ℕ) (e : Run) → n < length runs → get_or runs n (get_or runs n e) ≡ get_or runs n e
item_is runs n e low = get_or_default runs n (get_or runs n e) e low

pub item_in : (runs : List Run) (n : ℕ) (e : Run) → n < length runs → Contains runs (get_or runs n e)
item_in runs n e low = (n, low, item_is runs n e low)

pub item_of : (runs : List Run) (run : Run) → Contains (runs ++ run ∷ []) run
item_of runs run = Contains-append_right runs (run ∷ []) run (0, lit< tt, refl)

pub none_in : (run : Run) → Contains [] run → ⊥
none_in run has = absurd (omega (arith, has.1))

-- what holds of each run and of one more
pub each_more : (P : Run → Type 0) (runs : List Run) (run : Run) → ((r : Run) → Contains runs r → P r) → P run → (r : Run) → Contains (runs ++ run ∷ []) r → P r
each_more P runs run each here r has = elim (Contains-append_cases runs (run ∷ []) r has) [
  | inl before ↦ each r before
  | inr last ↦ subst P (only last) here
]
  where
    only : Contains (run ∷ []) r → run ≡ r
    only (zero, low, is) = is
    only (suc n, low, is) = absurd (omega (arith, low))

-- a run of so many at most is one of as many as it has
pub own_run : (h : Holding) (index most : ℕ) (run : Run) → IsRun h index most run → IsRun h index run.count run
own_run h index most run is = record { some = is.some; few = omega arith; fits = is.fits; place = is.place }

pub seen_fits : (v w : Seen) (run : Run) → IsSeenRun v run → w.size ≡ v.size → run.start + 8 * run.count ≤ w.size
seen_fits v w run seen same = omega (arith, seen.fits, same)

pub same_view : {V : Type 0} (mid new : Drafted V) (fates : FinMap nat_cmp Fate) → new ≡ record mid { fates = fates } → new.view ≡ mid.view
same_view {V} mid new fates put = ap (λ (d : Drafted V). d.view) put

-- ---- one run more is set

module _ {V : Type 0} (seen : V → Seen) (old mid new : Drafted V) (t : TreeTable) (runs : List Run) (n : ℕ) (e : Run) (leaf : ℕ) (bytes bytes' : List ℕ) (low : n < length runs)
    (has : IsSeenRun (seen_in seen old) (get_or runs n e)) (at : (seen_in seen mid).block_at (get_or runs n e).block ≡ Some bytes)
    (set : HasNumbersSet bytes bytes' (get_or runs n e).start (get_or runs n e).count leaf)
    (put : new ≡ record mid { fates = insert mid.fates (get_or runs n e).block (Put (inode_lock t.directory) false bytes') }) where
  abbrev run : Run
  run = get_or runs n e

  next_count : counted (take (n + 1) runs) ≡ counted (take n runs) + run.count
  next_count = counted_take runs n run low (item_is runs n e low)

  pub run_more : (h : Holding) (from : ℕ) → IsTableOf t (seen_in seen old) h → IsTreeSound h → IsPlaced h → AreRuns h from runs → from + counted runs ≤ 2 ^ t.depth
      → IsSetKept seen old mid t h from (counted (take n runs)) leaf → IsSetKept seen old new t h from (counted (take (n + 1) runs)) leaf
  run_more h from table sound placed are few one =
      let k : ℕ = counted (take n runs) in
      let is = run_at h from runs n run are low (item_is runs n e low) in
      let size_h : IsBlockSize h.size = subst IsBlockSize (sym table.shown.size) has.size in
      let most : from + k + run.count ≤ 2 ^ t.depth = omega (arith, few, counted_most runs (n + 1), next_count) in
      let near : (j level : ℕ) → j < from + k + run.count → height_in h ≡ suc level → 8 * j / unit h < fan h.size dinode_length * span h.size level
      = λ j level under high. omega (arith, within h level size_h (and_left (is_directory_in h) (has_hash_flag (dinode_in h)) table.hashed) high sound.fits (whole_by_parts h sound (size_large h.size size_h)) j (omega (arith, table.size, most, under)), sound.fits.under level high) in
      let is' = run_after h (holding_over (seen_in seen mid) h) from k leaf (from + k) run.count run refl refl one.0.1 one.1 (λ level high. near (from + k) level (omega (arith, is.some)) high) is in
      let next = run_is_set seen mid new t (holding_over (seen_in seen mid) h) run (from + k) run.count leaf bytes bytes' one.0.0 (one.0.1.sound sound) (one.0.1.placed placed) size_h at set put most is' in
      subst (λ m. IsSetKept seen old new t h from m leaf) (sym next_count) (runs_join seen old mid new t h from k run.count leaf one next near (λ b there. seen_still seen mid new run.block t.directory bytes' put b there))

  pub parts_more : PutsRuns old.fates mid.fates runs → PutsRuns old.fates new.fates runs
  parts_more parts b = elim (cases_eq b run.block) [
    | inl is ↦ inr (run, item_in runs n e low, is)
    | inr other ↦
        let same : get new.fates b ≡ get mid.fates b = ap (λ (d : Drafted V). get d.fates b) put ∙ inserted_apart nat_cmp_total nat_cmp-IsAntisymmetric mid.fates run.block (Put (inode_lock t.directory) false bytes') b other in
        elim (parts b) [ inl before ↦ inl (same ∙ before) | inr one ↦ inr one ]
  ]

-- ---- where the blocks of runs are

-- the block of a run has its first pointer
pub run_block : (h : Holding) (index most : ℕ) (run : Run) → IsRun h index most run → run.block ≡ entry_block h index
run_block h index most run is = (place_in_run h index most run is 0 (omega (arith, is.some))).0 ∙ ap (entry_block h) (let e : index + 0 ≡ index = omega arith in e)

-- nothing becomes of any block but those that have these pointers
pub runs_have_pointers : (h : Holding) (from : ℕ) (old new : FinMap nat_cmp Fate) (runs : List Run) → AreRuns h from runs → PutsRuns old new runs → (b : ℕ) → (get new b ≡ get old b) ⊎ HasPointerOf h from (counted runs) b
runs_have_pointers h from old new runs are parts b = elim (parts b) [
  | inl same ↦ inl same
  | inr one ↦
      let n : ℕ = one.1.0 in
      let is = run_at h from runs n one.0 are one.1.1 one.1.2 in
      let more = counted_take runs n one.0 one.1.1 one.1.2 in
      inr (from + counted (take n runs), record { low = omega arith; high = omega (arith, counted_most runs (n + 1), more, is.some) }, one.2 ∙ run_block h _ _ one.0 is)
]
