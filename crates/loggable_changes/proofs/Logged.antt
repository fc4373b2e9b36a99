-- The change of an answered call is one that a log takes.
use Rattle.std.proofs.Common.{◌≡◌, ◌≢◌, ◌+◌, ◌<◌, ◌≤◌, ℕ, suc, inl, inr, Bool, true, false, List, [], ◌∷◌, length, map, slice_get, get_or, Some, refl, sym, ap, subst, ◌∙◌, true≢false, arith}
use Rattle.std.specs.Prelude.{◌==◌, ◌&&◌, ◌||◌, Contains, filter, if◌then◌else◌, is_some, unwrap_or}
use Rattle.std.specs.List.{All, list_any, range_with_len}
use Rattle.std.specs.List.Sorted.{IsStrictlyIncreasing}
use Rattle.std.proofs.lemmas.Bool.{cases_eq, cond-false, cond-true, eq-eqb, ne_eqb}
use Rattle.std.proofs.lemmas.List.Elements.{All-map}
use Rattle.std.proofs.lemmas.List.FromFn.{length-range_with_len}
use Rattle.std.proofs.lemmas.Map.Keys.{IsStrictlyIncreasing-from_sorted}
use Rattle.std.proofs.lemmas.Option.{slice_get-get_or}
use Rattle.std.proofs.Math.ListN.{length-map}
use Rattle.profile_limits.specs.Limits.{most_blocks}
use Rattle.file_tree.specs.Tree.{Tree}
use Rattle.file_tree.specs.declared.call.Call.{Call}
use Rattle.file_tree.specs.declared.reply.Reply.{Reply}
use Rattle.glock_names.specs.Views.{IsView, Seen, end_of, group_of_entry}
use Rattle.glock_names.specs.declared.LockName.{LockName}
use Rattle.drafts.specs.declared.change.Change.{Change}
use Rattle.drafts.specs.declared.change.Written.{Written}
use Rattle.image_model.specs.Image.{Image}
use Rattle.image_model.specs.Owners.{Owner, Owners, Super, InGroup, Free, Nobody, Root, Master, Named, Below, Chained}
use Rattle.image_model.specs.Stands.{Layout}
use Rattle.image_model.proofs.Counts.{all_in, at_in}
use Rattle.image_model.proofs.Members.{IsIn, in_filter, in_range, is_in}
use Rattle.image_model.proofs.Rising.{Rising, rising}
use Rattle.image_changes.specs.Changes.{is_free}
use Rattle.image_changes.specs.Does.{AreInside, Does, DoesIn, IsInside, IsOf, IsWritten, bytes_for, frees, has_block, is_empty, is_nothing, with_change, writes}
use Rattle.draft_changes.proofs.Views.{groups_are_listed}
use Rattle.journal_scan.specs.Said.{logged}
use Rattle.log_layout.specs.Chunks.{Logged}
use Rattle.log_values.specs.Changes.{CanBeAdded}
use Rattle.node_journal.specs.Written.{IsLoggable}
use Rattle.resource_groups.proofs.Fits.{end_below}
use Rattle.small_changes.proofs.Counting.{no_more}
use Rattle.loggable_changes.specs.Loggable.{AnswersCanBeLogged, CanBeLogged, IsStructure}
use Rattle.loggable_changes.proofs.Structures.{OfSome, covered_of_group, group_inside, structured}

-- ---- lists

-- of two tests that nothing passes both
one_of_two : (p q : ℕ → Bool) → ((x : ℕ) → q x ≡ true → p x ≡ false) → (xs : List ℕ) → length (filter p xs) + length (filter q xs) ≤ length xs
one_of_two p q apart [] = omega arith
one_of_two p q apart (x ∷ xs) = by (p x) refl (q x) refl (one_of_two p q apart xs)
  where
    by : (a : Bool) → p x ≡ a → (b : Bool) → q x ≡ b → length (filter p xs) + length (filter q xs) ≤ length xs
        → length (if a then x ∷ filter p xs else filter p xs) + length (if b then x ∷ filter q xs else filter q xs) ≤ suc (length xs)
    by true e true f rest = absurd (true≢false (sym e ∙ apart x f))
    by true e false f rest = omega (arith, rest)
    by false e true f rest = omega (arith, rest)
    by false e false f rest = omega (arith, rest)

pub is_written : (ws : List Written) (b : ℕ) → IsIn b (map (λ (w : Written). w.block) ws) → is_some (bytes_for ws b) ≡ true
is_written [] b there = elim there [ ]
is_written (w ∷ ws) b there = elim (cases_eq w.block b) [
  | inl same ↦ ap is_some (cond-true (w.block == b) (Some w.bytes) (bytes_for ws b) (eq-eqb w.block b same))
  | inr other ↦ ap is_some (cond-false (w.block == b) (Some w.bytes) (bytes_for ws b) (ne_eqb w.block b other)) ∙ is_written ws b (elim there [ inl e ↦ absurd (other (sym e)) | inr later ↦ later ])
]

pub is_freed : (bs : List ℕ) (b : ℕ) → IsIn b bs → list_any (λ f. f == b) bs ≡ true
is_freed [] b there = elim there [ ]
is_freed (f ∷ fs) b (inl e) = ap (λ t. t || list_any (λ g. g == b) fs) (eq-eqb f b (sym e))
is_freed (f ∷ fs) b (inr later) = ap (λ t. (f == b) || t) (is_freed fs b later) ∙ or_true (f == b)
  where
    or_true : (t : Bool) → (t || true) ≡ true
    or_true true = refl
    or_true false = refl

in_numbers : (ws : List Written) (w : Written) → IsIn w ws → IsIn w.block (map (λ (x : Written). x.block) ws)
in_numbers [] w there = elim there [ ]
in_numbers (x ∷ ws) w (inl e) = inl (ap (λ (y : Written). y.block) e)
in_numbers (x ∷ ws) w (inr later) = inr (in_numbers ws w later)

-- of blocks that rise each is the first of its number
bytes_there : (ws : List Written) (w : Written) → Rising (map (λ (x : Written). x.block) ws) → IsIn w ws → bytes_for ws w.block ≡ Some w.bytes
bytes_there [] w rise there = elim there [ ]
bytes_there (x ∷ ws) w rise (inl e) = cond-true (x.block == w.block) (Some x.bytes) (bytes_for ws w.block) (eq-eqb x.block w.block (ap (λ (y : Written). y.block) (sym e))) ∙ ap (λ (y : Written). Some y.bytes) (sym e)
bytes_there (x ∷ ws) w rise (inr later) =
    let above : x.block < w.block = all_in (λ b. x.block < b) w.block (map (λ (y : Written). y.block) ws) rise.0 (in_numbers ws w later) in
    cond-false (x.block == w.block) (Some x.bytes) (bytes_for ws w.block) (ne_eqb x.block w.block (λ e. omega (arith, above, e))) ∙ bytes_there ws w rise.1 later

pub blocks_as_logged : (ws : List Written) → map (λ (e : Logged). e.block) (map logged ws) ≡ map (λ (w : Written). w.block) ws
blocks_as_logged [] = refl
blocks_as_logged (w ∷ ws) = ap (λ bs. w.block ∷ bs) (blocks_as_logged ws)

-- ---- what becomes of a block that is freed

its_group : (x : Owner) → is_free x ≡ true → (g : ℕ) × (x ≡ Free g)
its_group (Free g) e = (g, refl)
its_group Super e = absurd (true≢false (sym e))
its_group (InGroup g) e = absurd (true≢false (sym e))
its_group Nobody e = absurd (true≢false (sym e))
its_group Root e = absurd (true≢false (sym e))
its_group Master e = absurd (true≢false (sym e))
its_group (Named parent name) e = absurd (true≢false (sym e))
its_group (Below a b k level first) e = absurd (true≢false (sym e))
its_group (Chained a hash place) e = absurd (true≢false (sym e))

module _ (v : Seen) (call : Call) (reply : Reply) (change : Change) (im : Image) (o : Owners) (l : Layout) (t : Tree) (view : IsView v) (of : IsOf v im o l t) (inside : AreInside v change) (does : Does v call reply change) where
  abbrev there : DoesIn v call reply change im o l t
  there = does.images im o l t of

  abbrev after : Image
  after = with_change im change

  -- ---- where its blocks are

  of_some_group : (b : ℕ) → has_block change b ≡ true → OfSome b l.groups
  of_some_group b has = let held = there.after b has in covered_of_group after there.owners l there.stands.laid b held.0 held.1

  on_device : (b : ℕ) → has_block change b ≡ true → b < im.count
  on_device b has = group_inside after there.owners l there.stands.laid b (of_some_group b has)

  below_most : (b : ℕ) → has_block change b ≡ true → b < most_blocks
  below_most b has = by (of_some_group b has)
    where
      in_view : (some : OfSome b l.groups) → end_of (group_of_entry some.0) ≤ most_blocks
      in_view some = end_below v (group_of_entry some.0) view ((groups_are_listed v im o l t (group_of_entry some.0) of).1 (some.0, some.1, refl))

      by : OfSome b l.groups → b < most_blocks
      by (g, listed, inl head) = let low = in_view (g, listed, inl head) in let fits = of.stands.laid.fit.each g listed in omega (arith, low, head.high, fits.first)
      by (g, listed, inr data_block) = let low = in_view (g, listed, inr data_block) in omega (arith, low, data_block.high)

  has_written : (b : ℕ) → writes change b ≡ true → has_block change b ≡ true
  has_written b e = ap (λ x. x || frees change b) e

  has_freed : (b : ℕ) → frees change b ≡ true → has_block change b ≡ true
  has_freed b e = ap (λ x. writes change b || x) e ∙ or_true (writes change b)
    where
      or_true : (x : Bool) → (x || true) ≡ true
      or_true true = refl
      or_true false = refl

  -- ---- how many they are

  abbrev numbers : List ℕ
  numbers = map (λ (w : Written). w.block) change.blocks.items

  rises : IsStrictlyIncreasing numbers
  rises = IsStrictlyIncreasing-from_sorted numbers does.form.blocks

  freed_rise : IsStrictlyIncreasing change.freed.items
  freed_rise = IsStrictlyIncreasing-from_sorted change.freed.items does.form.freed

  few : length change.blocks.items + length change.freed.items ≤ most_blocks
  few =
      let written : length numbers ≤ length (filter (writes change) (range_with_len 0 most_blocks)) =
      no_more numbers (filter (writes change) (range_with_len 0 most_blocks)) (rising numbers rises)
      (λ b here. let e = is_written change.blocks.items b here in in_filter (writes change) b (range_with_len 0 most_blocks) (in_range 0 most_blocks b (omega arith) (let low = below_most b (has_written b e) in omega (arith, low))) e) in
      let freed : length change.freed.items ≤ length (filter (frees change) (range_with_len 0 most_blocks)) =
      no_more change.freed.items (filter (frees change) (range_with_len 0 most_blocks)) (rising change.freed.items freed_rise)
      (λ b here. let e = is_freed change.freed.items b here in in_filter (frees change) b (range_with_len 0 most_blocks) (in_range 0 most_blocks b (omega arith) (let low = below_most b (has_freed b e) in omega (arith, low))) e) in
      let both = one_of_two (writes change) (frees change) does.form.apart (range_with_len 0 most_blocks) in
      let same = length-map change.blocks.items (λ (w : Written). w.block) in
      omega (arith, written, freed, both, same, length-range_with_len 0 most_blocks)

  -- ---- what they have

  abbrev lock_at : ℕ → LockName
  lock_at k = get_or change.locks.items k (record { kind = 0; number = 0 })

  written_at : (k : ℕ) (w : Written) → k < length change.blocks.items → slice_get change.blocks.items k ≡ Some w → IsWritten l after o there.owners w (lock_at k)
  written_at k w low is = there.written k w (lock_at k) is (slice_get-get_or change.locks.items k (record { kind = 0; number = 0 }) (subst (λ n. k < n) (sym does.form.locks) low))

  stands_there : (k : ℕ) (w : Written) → slice_get change.blocks.items k ≡ Some w → after.at w.block ≡ w.bytes
  stands_there k w is = ap (λ x. unwrap_or x (im.at w.block)) (bytes_there change.blocks.items w (rising numbers rises) (at_in w change.blocks.items k is))

  its_bytes : (k : ℕ) (w : Written) → k < length change.blocks.items → slice_get change.blocks.items k ≡ Some w → w.plain ≡ false → IsStructure w.bytes
  its_bytes k w low is plain =
      let has = written_at k w low is in
      subst IsStructure (stands_there k w is) (structured after there.owners l there.stands.laid w.block (lock_at k) has.told has.used (sym has.plain ∙ plain))

  loggable_at : (k : ℕ) (w : Written) → k < length change.blocks.items → slice_get change.blocks.items k ≡ Some w → IsLoggable v.size (logged w)
  loggable_at k w low is = record {
    whole = (all_in (IsInside v) w change.blocks.items inside (at_in w change.blocks.items k is)).whole;
    magic = λ plain. (its_bytes k w low is plain).magic;
    other = λ plain. (its_bytes k w low is plain).other;
  }

  loggable_all : All (IsLoggable v.size) (map logged change.blocks.items)
  loggable_all = All-map (IsLoggable v.size) logged change.blocks.items (λ k d low. loggable_at k (get_or change.blocks.items k d) low (slice_get-get_or change.blocks.items k d low))

  can : CanBeAdded v.size change
  can = record {
    locks = does.form.locks;
    whole = record {
      sized = view.block_size;
      rising = subst IsStrictlyIncreasing (sym (blocks_as_logged change.blocks.items)) rises;
      revokes = freed_rise;
      apart = λ b in_blocks in_freed.
          let put = is_written change.blocks.items b (is_in b numbers (subst (λ xs. Contains xs b) (blocks_as_logged change.blocks.items) in_blocks)) in
          true≢false (sym put ∙ does.form.apart b (is_freed change.freed.items b (is_in b change.freed.items in_freed)));
      few = subst (λ n. n + length change.freed.items ≤ most_blocks) (sym (length-map change.blocks.items logged)) few;
      blocks = loggable_all;
    };
  }

  -- ---- it writes something

  writes_some : is_nothing change ≡ false → change.blocks.items ≢ []
  writes_some some none = by change.freed.items refl
    where
      none_written : (b : ℕ) → writes change b ≡ true → ⊥
      none_written b e = true≢false (sym e ∙ ap (λ ws. is_some (bytes_for ws b)) none)

      freed_one : (b : ℕ) → frees change b ≡ true → ⊥
      freed_one b e =
          let free = its_group (there.owners b) (there.freed b e).free in
          let of_group = there.groups b free.0 (has_freed b e) (inr free.1) in
          none_written of_group.0 of_group.1

      by : (bs : List ℕ) → change.freed.items ≡ bs → ⊥
      by [] e = true≢false (sym (λ i. is_empty (none i) && is_empty (e i)) ∙ some)
      by (b ∷ bs) e = freed_one b (is_freed change.freed.items b (subst (IsIn b) (sym e) (inl refl)))

  logged_so : CanBeLogged v.size im.count change
  logged_so = record { can = can; inside = on_device; some = writes_some }

pub answers_can_be_logged : AnswersCanBeLogged
answers_can_be_logged v call reply change im o l t view of inside does = logged_so v call reply change im o l t view of inside does
