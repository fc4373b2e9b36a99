-- A node with its log answers calls that change nothing.
use Rattle.std.proofs.Common.{◌≡◌, ℕ, suc, ◌<◌, ◌≤◌, inl, inr, Bool, true, false, not, ◌&&◌, List, [], ◌∷◌, Option, None, Some, refl, sym, ap, subst, ◌∙◌, true≢false, arith}
use Rattle.std.specs.Prelude.{◌==◌, if◌then◌else◌}
use Rattle.std.specs.List.{list_any}
use Rattle.std.specs.Option.{option_map}
use Rattle.std.proofs.lemmas.Bool.{cases_eq}
use Rattle.file_tree.specs.declared.call.Call.TheVariants as calls
use Rattle.file_tree.specs.declared.reply.Reply.TheVariants as replies
use Rattle.cluster_laws.specs.Book.{at, taken, tried}
use Rattle.cluster_laws.specs.Files.{Part, laid}
use Rattle.cluster_laws.specs.Log.{Calm, Untouched}
use Rattle.cluster_laws.specs.Notes.{Caches}
use Rattle.cluster_laws.specs.World.{World, nothing}
use Rattle.cluster_laws.proofs.Cells.{at-other, at-same}
use Rattle.glock_names.specs.declared.LockName.{LockName}
use Rattle.drafts.specs.declared.change.Change.{Change}
use Rattle.drafts.specs.declared.change.Written.{Written}
use Rattle.image_changes.specs.Does.{is_empty, is_nothing}
use Rattle.image_machine.specs.Cells.{BlockCell, cells_of, free_cell, group_of, or_else, written_cell}
use Rattle.image_machine.specs.Volumes.{Volume}
use Rattle.log_values.specs.Blocks as set
use Rattle.log_values.specs.Log.{Flush}
use Rattle.lone_images.specs.Lone.{cache_after, kept_cell}
use Rattle.lone_images.proofs.Calling.{calls_go_on, spaceless_goes_on, sync_goes_on}
use Rattle.lone_machine.specs.Alone.{Begun, now, publishes}
use Rattle.lone_machine.specs.Laws.{GoesOnWith}
use Rattle.lone_machine.specs.Versions.{AreVersions}
use Rattle.lone_machine.proofs.Logging.{versions_grow}
use Rattle.tree_histories.specs.Trees.{Told}
use Rattle.lone_logs.specs.Laws.{QuietCallsAreLogged, SpacelessCallsAreLogged, SyncsAreLogged, counted, with_quiet}
use Rattle.lone_logs.specs.States.{HasCallNumbers, HasVersions, IsLoggedNode, NodeState, Numbers, bytes_of, trees_on}
use Rattle.lone_logs.proofs.Booking.{booked, versions_still}
use Rattle.lone_logs.proofs.Calling.{held_all}
use Rattle.lone_logs.proofs.Reading.{view_cached}

-- ---- an answer without a change

module _ (v : Volume) (s : Begun (trees_on v)) (w : World (trees_on v)) (d : ℕ) (st : NodeState) (is : IsLoggedNode v s w d st)
    (said : Told) (view change cache : Part (trees_on v)) (sure : ℕ → ℕ) where
  abbrev pub quiet_world : World (trees_on v)
  quiet_world = publishes (trees_on v) s.node (record w { book = tried (trees_on v) w.book s.node said view change cache; sure = sure })

  module _ (goes : GoesOnWith (trees_on v) s w quiet_world said change) (none : (b : ℕ) → change b ≡ None) (same_cache : (b : ℕ) → cache b ≡ w.book.cache s.node b)
      (quiet : (trees_on v).Changes said ≡ false) where
    abbrev n' : Numbers
    n' = counted st.numbers (λ n. n.changed)

    changes : quiet_world.book.change s.node ≡ at (w.book.change s.node) (suc st.numbers.answered) change
    changes = subst (λ m. quiet_world.book.change s.node ≡ at (w.book.change s.node) (suc m) change) is.numbers.answered goes.changes

    earlier : (m b : ℕ) → m < st.numbers.answered → quiet_world.book.change s.node (suc m) b ≡ w.book.change s.node (suc m) b
    earlier m b less = ap (λ f. f (suc m) b) changes ∙ ap (λ f. f b) (at-other (w.book.change s.node) (suc st.numbers.answered) change (suc m) (λ e. absurd (omega (arith, e, less))))

    latest : (b : ℕ) → quiet_world.book.change s.node (suc st.numbers.answered) b ≡ None
    latest b = ap (λ f. f (suc st.numbers.answered) b) changes ∙ ap (λ f. f b) (at-same (w.book.change s.node) (suc st.numbers.answered) change) ∙ none b

    pub now_still : (b : ℕ) → now (trees_on v) quiet_world b ≡ now (trees_on v) w b
    now_still b = goes.now b ∙ ap (λ o. laid o (now (trees_on v) w b)) (none b)

    cache_still : (b : ℕ) → quiet_world.book.cache s.node b ≡ w.book.cache s.node b
    cache_still b = ap (λ f. f b) (at-same w.book.cache s.node cache) ∙ same_cache b

    answered_is : quiet_world.book.answered s.node ≡ suc st.numbers.answered
    answered_is = goes.answered ∙ ap suc is.numbers.answered

    grows : (lo : ℕ) → lo ≤ st.numbers.answered → AreVersions (trees_on v) w.book s.node lo st.numbers.answered (bytes_of st.log.fresh) (set.contains st.log.gone)
        → AreVersions (trees_on v) quiet_world.book s.node lo (suc st.numbers.answered) (bytes_of st.log.fresh) (set.contains st.log.gone)
    grows lo low are =
        versions_grow (trees_on v) w.book quiet_world.book s.node lo st.numbers.answered change (bytes_of st.log.fresh) (bytes_of st.log.fresh) (set.contains st.log.gone) (set.contains st.log.gone) low changes are
        (λ b. inl (none b, refl, refl))

    versions : HasVersions v s quiet_world st.log n' st.log.flush
    versions = by st.log.flush is.versions
      where
        by : (o : Option Flush) → HasVersions v s w st.log st.numbers o → HasVersions v s quiet_world st.log n' o
        by None are = grows st.numbers.low (let b = is.numbers.begun in omega (arith, b.0, b.1)) are
        by (Some f) are = (
          versions_still (trees_on v) w.book quiet_world.book s.node st.numbers.low st.numbers.begun (λ m b less. earlier m b (let order = is.numbers.begun.1 in omega (arith, less, order))) _ _ are.0,
          grows st.numbers.begun is.numbers.begun.1 are.1,
        )

    told_earlier : (m : ℕ) → m < st.numbers.answered → quiet_world.book.told s.node (suc m) ≡ w.book.told s.node (suc m)
    told_earlier m less =
        ap (λ f. f (suc m)) (at-same w.book.told s.node (at (w.book.told s.node) (suc (w.book.answered s.node)) said))
        ∙ at-other (w.book.told s.node) (suc (w.book.answered s.node)) said (suc m) (λ e. absurd (let same = is.numbers.answered in omega (arith, e, less, same)))

    told_latest : quiet_world.book.told s.node (suc st.numbers.answered) ≡ said
    told_latest =
        ap (λ f. f (suc st.numbers.answered)) (at-same w.book.told s.node (at (w.book.told s.node) (suc (w.book.answered s.node)) said))
        ∙ ap (at (w.book.told s.node) (suc (w.book.answered s.node)) said) (ap suc (sym is.numbers.answered))
        ∙ at-same (w.book.told s.node) (suc (w.book.answered s.node)) said

    calm : Calm (trees_on v) quiet_world.book s.node st.numbers.changed (suc st.numbers.answered)
    calm m above below = elim (cases_eq m st.numbers.answered) [
      | inl same ↦ ap (λ k. (trees_on v).Changes (quiet_world.book.told s.node (suc k))) same ∙ ap (trees_on v).Changes told_latest ∙ quiet
      | inr other ↦ (let less : m < st.numbers.answered = omega (arith, below, other) in ap (trees_on v).Changes (told_earlier m less) ∙ is.numbers.calm m above less)
    ]

    numbers : HasCallNumbers v s quiet_world n'
    numbers = record {
      answered = answered_is;
      low = ap (λ f. f s.node) goes.low ∙ is.numbers.low;
      begun = (is.numbers.begun.0, (let b = is.numbers.begun.1 in omega (arith, b)));
      changed = (let b = is.numbers.changed in omega (arith, b));
      calm = calm;
    }

    untouched : (b : ℕ) → Untouched (trees_on v) w.book s.node (w.book.low s.node) (w.book.answered s.node) b
        → Untouched (trees_on v) quiet_world.book s.node (quiet_world.book.low s.node) (quiet_world.book.answered s.node) b
    untouched b still m above below = elim (cases_eq m st.numbers.answered) [
      | inl same ↦ ap (λ k. quiet_world.book.change s.node (suc k) b) same ∙ latest b
      | inr other ↦
          let less : m < st.numbers.answered = (let e = answered_is in omega (arith, below, other, e)) in
          earlier m b less ∙ still m (let e = ap (λ f. f s.node) goes.low in omega (arith, above, e)) (let e = is.numbers.answered in omega (arith, less, e))
    ]

    cached : Caches (trees_on v) quiet_world.book w.disk s.node
    cached b own used = elim (is.cached b (sym (owner_still b) ∙ own) (λ free. used (ap (λ (x : BlockCell). (x.place).free) (now_still b) ∙ free))) [
      | inl kept ↦ inl (cache_still b ∙ kept ∙ ap Some (sym (now_still b)))
      | inr home ↦ inr (record { untouched = untouched b home.untouched; home = home.home; resting = home.resting })
    ]
      where
        owner_still : (b : ℕ) → quiet_world.book.owner b ≡ w.book.owner b
        owner_still b = ap (λ o. taken s.node o (w.book.owner b)) (none b)

    pub quiet_is : IsLoggedNode v s quiet_world d (with_quiet st)
    quiet_is = booked v s w d st is quiet_world.book quiet_world.items sure st.log.fresh st.log.gone st.kept n' goes.alone is.start is.sound refl numbers versions cached
        (λ b. is.keeps b ∙ sym (ap (option_map (λ (x : BlockCell). x.content)) (cache_still b)))
        (λ b e live off_home used. cache_still b ∙ is.away b e live off_home (λ free. used (ap (λ (x : BlockCell). (x.place).free) (now_still b) ∙ free)) ∙ ap Some (sym (now_still b)))
        is.may

-- ---- a call that changes nothing

and_split : (x y : Bool) → (x && y) ≡ true → (x ≡ true) × (y ≡ true)
and_split true y e = (refl, e)
and_split false y e = absurd (true≢false (sym e))

no_cells : (ws : List Written) (ls : List LockName) (fs : List ℕ) (g b : ℕ) → is_empty ws ≡ true → is_empty fs ≡ true
    → or_else (written_cell ws ls b) (if list_any (λ f. f == b) fs then Some (free_cell g) else None) ≡ None
no_cells [] ls [] g b e f = refl
no_cells [] ls (k ∷ fs) g b e f = absurd (true≢false (sym f))
no_cells (w ∷ ws) ls fs g b e f = absurd (true≢false (sym e))

none_of : (v : Volume) (change : Change) → is_nothing change ≡ true → (b : ℕ) → cells_of v change b ≡ None
none_of v change e b = (let parts = and_split (is_empty change.blocks.items) (is_empty change.freed.items) e in no_cells change.blocks.items change.locks.items change.freed.items (group_of v.layout.groups b) b parts.0 parts.1)

pub quiet_calls_are_logged : QuietCallsAreLogged
quiet_calls_are_logged v s w d st seen said change is no_sync its inside does empty = record {
  world = quiet_world v s w d st is said (w.book.cache s.node) (cells_of v change) (cache_after v s w (cells_of v change)) w.sure;
  is = quiet_is v s w d st is said (w.book.cache s.node) (cells_of v change) (cache_after v s w (cells_of v change)) w.sure goes none same_cache quiet;
  now = goes.now;
  items = goes.items;
}
  where
    none : (b : ℕ) → cells_of v change b ≡ None
    none = none_of v change empty

    goes : GoesOnWith (trees_on v) s w (quiet_world v s w d st is said (w.book.cache s.node) (cells_of v change) (cache_after v s w (cells_of v change)) w.sure) said (cells_of v change)
    goes = (calls_go_on v s w seen said change is.alone no_sync its.volume (view_cached v s w d st is seen its) (held_all v s w d st is seen) inside does).0

    same_cache : (b : ℕ) → cache_after v s w (cells_of v change) b ≡ w.book.cache s.node b
    same_cache b = ap (λ o. kept_cell o (w.book.cache s.node b)) (none b)

    quiet : (trees_on v).Changes said ≡ false
    quiet = by ((trees_on v).Changes said) (sym empty ∙ does.tells)
      where
        by : (t : Bool) → true ≡ not t → t ≡ false
        by true e = absurd (true≢false e)
        by false e = refl

pub spaceless_calls_are_logged : SpacelessCallsAreLogged
spaceless_calls_are_logged v s w d st seen client call is its takes taken = record {
  world = quiet_world v s w d st is (record { client = client; call = call; reply = replies.NoSpace }) (w.book.cache s.node) (λ b. None) (cache_after v s w (λ b. None)) w.sure;
  is = quiet_is v s w d st is (record { client = client; call = call; reply = replies.NoSpace }) (w.book.cache s.node) (λ b. None) (cache_after v s w (λ b. None)) w.sure goes (λ b. refl) (λ b. refl) refl;
  now = goes.now;
  items = goes.items;
}
  where
    goes : GoesOnWith (trees_on v) s w (quiet_world v s w d st is (record { client = client; call = call; reply = replies.NoSpace }) (w.book.cache s.node) (λ b. None) (cache_after v s w (λ b. None)) w.sure)
        (record { client = client; call = call; reply = replies.NoSpace }) (λ b. None)
    goes = (spaceless_goes_on v s w seen client call is.alone its.volume (view_cached v s w d st is seen its) takes taken).0

abbrev sync_of : ℕ → Told
sync_of client = record { client = client; call = calls.Sync; reply = replies.Ok }

pub syncs_are_logged : SyncsAreLogged
syncs_are_logged v s w d st client is done = record {
  world = quiet_world v s w d st is (sync_of client) (nothing (trees_on v)) (nothing (trees_on v)) (w.book.cache s.node) (at w.sure s.node (suc (w.book.answered s.node)));
  is = quiet_is v s w d st is (sync_of client) (nothing (trees_on v)) (nothing (trees_on v)) (w.book.cache s.node) (at w.sure s.node (suc (w.book.answered s.node))) goes (λ b. refl) (λ b. refl) refl;
  now = goes.now;
  items = goes.items;
}
  where
    goes : GoesOnWith (trees_on v) s w (quiet_world v s w d st is (sync_of client) (nothing (trees_on v)) (nothing (trees_on v)) (w.book.cache s.node) (at w.sure s.node (suc (w.book.answered s.node)))) (sync_of client) (λ b. None)
    goes = sync_goes_on v s w client is.alone (λ m above below. is.numbers.calm m (let e = is.numbers.low in omega (arith, above, done, e)) (let e = is.numbers.answered in omega (arith, below, e)))
