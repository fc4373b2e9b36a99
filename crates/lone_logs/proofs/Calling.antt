-- A node with its log answers calls.
use Rattle.std.proofs.Common.{◌≡◌, ℕ, suc, ◌<◌, ◌≤◌, ◌⊎◌, inl, inr, true, false, List, Option, None, Some, refl, sym, ap, subst, ◌∙◌, arith}
use Rattle.std.specs.Prelude.{if◌then◌else◌}
use Rattle.std.specs.FinMap as table
use Rattle.std.specs.Option.{option_map}
use Rattle.std.specs.Ordering.{nat_cmp}
use Rattle.std.proofs.lemmas.Bool.{cases_Bool, cond-true, cond-false}
use Rattle.file_tree.specs.declared.call.Call.TheVariants as calls
use Rattle.file_tree.specs.declared.reply.Reply.TheVariants as replies
use Rattle.cluster_laws.specs.Book.{at}
use Rattle.cluster_laws.specs.Files.{Part, laid}
use Rattle.cluster_laws.specs.Notes.{Caches}
use Rattle.cluster_laws.specs.World.{World}
use Rattle.cluster_laws.proofs.Cells.{at-other, at-same}
use Rattle.glock_names.specs.Views.{Seen}
use Rattle.drafts.specs.declared.change.Change.{Change}
use Rattle.image_changes.specs.Does.{AreInside, Does, writes}
use Rattle.image_machine.specs.Cells.{BlockCell, HoldsAll, cells_of}
use Rattle.image_machine.specs.Volumes.{Volume}
use Rattle.image_model.specs.Replays.{MayChange}
use Rattle.log_tables.specs.Kept.{is_home}
use Rattle.log_values.specs.Blocks as set
use Rattle.log_values.specs.Changes.{CanBeAdded, Suffices, with_change}
use Rattle.log_values.specs.Log.{Entry, Flush}
use Rattle.log_values.proofs.Changing.{change_sound}
use Rattle.lone_images.specs.Lone.{answered, cache_after, kept_cell, version_with}
use Rattle.lone_images.proofs.Calling.{calls_go_on, changes_make_versions}
use Rattle.lone_machine.specs.Alone.{Begun, now}
use Rattle.lone_machine.specs.Laws.{GoesOnWith}
use Rattle.lone_machine.specs.Versions.{AreVersions}
use Rattle.lone_machine.proofs.Logging.{versions_grow}
use Rattle.tree_histories.specs.Trees.{Told}
use Rattle.lone_logs.specs.Laws.{AnswersLogged, CallsAreLogged, IsItsView, counted, with_call}
use Rattle.lone_logs.specs.States.{HasCallNumbers, HasUnlogged, HasVersions, IsLoggedNode, NodeState, Numbers, bytes_of, trees_on}
use Rattle.lone_logs.proofs.Adding.{fresh_with, gone_with, written_or_was}
use Rattle.lone_logs.proofs.Booking.{booked, versions_still}
use Rattle.lone_logs.proofs.Reading.{view_cached}

pub held_all : (v : Volume) (s : Begun (trees_on v)) (w : World (trees_on v)) (d : ℕ) (st : NodeState) (is : IsLoggedNode v s w d st) (seen : Seen) → HoldsAll seen s.held
held_all v s w d st is seen lock e = ap (λ f. f (Some lock)) is.held

-- ---- a change

module _ (v : Volume) (s : Begun (trees_on v)) (w : World (trees_on v)) (d : ℕ) (st : NodeState) (seen : Seen) (said : Told) (change : Change) (kept : table.FinMap nat_cmp (List ℕ)) (is : IsLoggedNode v s w d st)
    (no_sync : (said.call ≡ calls.Sync) × (said.reply ≡ replies.Ok) → ⊥) (its : IsItsView v st seen) (inside : AreInside seen change) (does : Does seen said.call said.reply change)
    (can : CanBeAdded st.log.journal.size change) (room : Suffices (with_change st.log change)) (changes_it : (b : ℕ) → writes change b ≡ true → MayChange st.image v.layout b) (keeps_it : (b : ℕ) → table.get kept b ≡ version_with change (table.get st.kept) b) where
  abbrev cells : Part (trees_on v)
  cells = cells_of v change

  abbrev w' : World (trees_on v)
  w' = answered v s w said cells

  abbrev n' : Numbers
  n' = counted st.numbers (λ n. suc n.answered)

  goes : GoesOnWith (trees_on v) s w w' said cells
  goes = (calls_go_on v s w seen said change is.alone no_sync its.volume (view_cached v s w d st is seen its) (held_all v s w d st is seen) inside does).0

  cached : Caches (trees_on v) w'.book w'.disk s.node
  cached = (calls_go_on v s w seen said change is.alone no_sync its.volume (view_cached v s w d st is seen its) (held_all v s w d st is seen) inside does).1 is.cached

  changes : w'.book.change s.node ≡ at (w.book.change s.node) (suc st.numbers.answered) cells
  changes = subst (λ m. w'.book.change s.node ≡ at (w.book.change s.node) (suc m) cells) is.numbers.answered goes.changes

  earlier : (m b : ℕ) → m < st.numbers.answered → w'.book.change s.node (suc m) b ≡ w.book.change s.node (suc m) b
  earlier m b less = ap (λ f. f (suc m) b) changes ∙ ap (λ f. f b) (at-other (w.book.change s.node) (suc st.numbers.answered) cells (suc m) (λ e. absurd (omega (arith, e, less))))

  grows : (lo : ℕ) → lo ≤ st.numbers.answered → AreVersions (trees_on v) w.book s.node lo st.numbers.answered (bytes_of st.log.fresh) (set.contains st.log.gone)
      → AreVersions (trees_on v) w'.book s.node lo (suc st.numbers.answered) (bytes_of (with_change st.log change).fresh) (set.contains (with_change st.log change).gone)
  grows lo low are = subst (λ f. AreVersions (trees_on v) w'.book s.node lo (suc st.numbers.answered) f (set.contains (with_change st.log change).gone)) (λ i b. fresh_with st.log change does.form b i)
      (versions_grow (trees_on v) w.book w'.book s.node lo st.numbers.answered cells (bytes_of st.log.fresh) (version_with change (bytes_of st.log.fresh)) (set.contains st.log.gone)
      (set.contains (with_change st.log change).gone) low changes are
      (changes_make_versions v seen said.call said.reply change (bytes_of st.log.fresh) (set.contains st.log.gone) (set.contains (with_change st.log change).gone) does (gone_with st.log change does.form)))

  versions : HasVersions v s w' (with_change st.log change) n' st.log.flush
  versions = by st.log.flush is.versions
    where
      by : (o : Option Flush) → HasVersions v s w st.log st.numbers o → HasVersions v s w' (with_change st.log change) n' o
      by None are = grows st.numbers.low (let b = is.numbers.begun in omega (arith, b.0, b.1)) are
      by (Some f) are = (
        versions_still (trees_on v) w.book w'.book s.node st.numbers.low st.numbers.begun (λ m b less. earlier m b (let order = is.numbers.begun.1 in omega (arith, less, order))) _ _ are.0,
        grows st.numbers.begun is.numbers.begun.1 are.1,
      )

  cache_is : (b : ℕ) → w'.book.cache s.node b ≡ kept_cell (cells b) (w.book.cache s.node b)
  cache_is b = ap (λ f. f b) (at-same w.book.cache s.node (cache_after v s w cells))

  keeps : (b : ℕ) → table.get kept b ≡ option_map (λ (x : BlockCell). x.content) (w'.book.cache s.node b)
  keeps b = by (changes_make_versions v seen said.call said.reply change (table.get st.kept) (set.contains st.log.gone) (set.contains (with_change st.log change).gone) does (gone_with st.log change does.form) b)
    where
      kept_is : (o : Option BlockCell) → cells b ≡ o → w'.book.cache s.node b ≡ kept_cell o (w.book.cache s.node b)
      kept_is o e = cache_is b ∙ ap (λ z. kept_cell z (w.book.cache s.node b)) e

      by : ((cells b ≡ None) × (version_with change (table.get st.kept) b ≡ table.get st.kept b) × (set.contains (with_change st.log change).gone b ≡ set.contains st.log.gone b))
          ⊎ ((x : BlockCell) × (cells b ≡ Some x) × ((((x.place).free ≡ true) × (version_with change (table.get st.kept) b ≡ None))
          ⊎ (((x.place).free ≡ true → ⊥) × (version_with change (table.get st.kept) b ≡ Some (x.content)) × (set.contains (with_change st.log change).gone b ≡ false))))
          → table.get kept b ≡ option_map (λ (x : BlockCell). x.content) (w'.book.cache s.node b)
      by (inl none) = keeps_it b ∙ none.1 ∙ is.keeps b ∙ sym (ap (option_map (λ (x : BlockCell). x.content)) (kept_is None none.0))
      by (inr (x, some, inl free)) = keeps_it b ∙ free.1 ∙ sym (ap (option_map (λ (x : BlockCell). x.content)) (kept_is (Some x) some ∙ cond-true (x.place).free None (Some x) free.0))
      by (inr (x, some, inr used)) =
          keeps_it b ∙ used.1
          ∙ sym (ap (option_map (λ (x : BlockCell). x.content)) (kept_is (Some x) some ∙ unfree))
        where
          unfree : (if (x.place).free then None else Some x) ≡ Some x
          unfree = elim (cases_Bool (x.place).free) [ inl freed ↦ absurd (used.0 freed) | inr kept ↦ cond-false (x.place).free None (Some x) kept ]

  away : (b : ℕ) (e : Entry) → table.get st.log.live b ≡ Some e → is_home e.way ≡ false → (((now (trees_on v) w' b).place).free ≡ true → ⊥) → w'.book.cache s.node b ≡ Some (now (trees_on v) w' b)
  away b e live off_home used = by (cells b) refl
    where
      by : (o : Option BlockCell) → cells b ≡ o → w'.book.cache s.node b ≡ Some (now (trees_on v) w' b)
      by None none =
          let same : now (trees_on v) w' b ≡ now (trees_on v) w b = goes.now b ∙ ap (λ o. laid o (now (trees_on v) w b)) none in
          cache_is b ∙ ap (λ z. kept_cell z (w.book.cache s.node b)) none ∙ is.away b e live off_home (λ free. used (ap (λ (x : BlockCell). (x.place).free) same ∙ free)) ∙ ap Some (sym same)
      by (Some x) some =
          let same : now (trees_on v) w' b ≡ x = goes.now b ∙ ap (λ o. laid o (now (trees_on v) w b)) some in
          cache_is b ∙ ap (λ z. kept_cell z (w.book.cache s.node b)) some
          ∙ elim (cases_Bool (x.place).free) [ inl freed ↦ absurd (used (ap (λ (y : BlockCell). (y.place).free) same ∙ freed)) | inr kept ↦ cond-false (x.place).free None (Some x) kept ]
          ∙ ap Some (sym same)

  numbers : HasCallNumbers v s w' n'
  numbers = record {
    answered = goes.answered ∙ ap suc is.numbers.answered;
    low = ap (λ f. f s.node) goes.low ∙ is.numbers.low;
    begun = (is.numbers.begun.0, (let b = is.numbers.begun.1 in omega (arith, b)));
    changed = omega arith;
    calm = λ m above below. absurd (omega (arith, above, below));
  }

  may : (b : ℕ) → HasUnlogged (with_change st.log change) b → MayChange st.image v.layout b
  may b (inl there) = elim (written_or_was st.log change does.form b there) [ inl new ↦ changes_it b new | inr was ↦ is.may b (inl was) ]
  may b (inr flushed) = is.may b (inr flushed)

  pub logged : AnswersLogged v s w d (with_call st change kept) said change
  logged = record {
    world = w';
    is = booked v s w d st is w'.book w'.items w'.sure (with_change st.log change).fresh (with_change st.log change).gone kept n' goes.alone is.start (change_sound st.log change is.sound can room) refl numbers
        versions cached keeps away may;
    now = goes.now;
    items = goes.items;
  }

pub calls_are_logged : CallsAreLogged
calls_are_logged v s w d st seen said change kept is no_sync its inside does can room changes_it keeps_it = logged v s w d st seen said change kept is no_sync its inside does can room changes_it keeps_it
