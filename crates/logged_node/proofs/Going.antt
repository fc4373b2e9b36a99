-- Behind a step of a flush: it is under way still, or it is in the journal.
use Rattle.std.proofs.Common.{◌≡◌, ◌≤◌, ◌<◌, ◌+◌, ℕ, inl, inr, Bool, true, false, cond, List, [], ◌∷◌, ◌++◌, length, Option, None, Some, is_some, true≢false, refl, sym, ap, ap₂, subst, subst₂, ◌∙◌, arith}
use Rattle.std.specs.FinMap as table
use Rattle.std.specs.Ordering.{nat_cmp}
use Rattle.std.specs.Prelude.{slice_get, nat_le, nat_lt, not, filter, count_by, if◌then◌else◌}
use Rattle.std.proofs.lemmas.Bool.{cases_eq, cond-true}
use Rattle.std.proofs.lemmas.Cmp.{nat_cmp_total, ranked}
use Rattle.std.specs.declared.cmp.Ordering.TheVariants.{Equal}
use Rattle.std.specs.List.{AllByRecursion}
use Rattle.gfs2_layout.specs.Device.{IsBlockSize}
use Rattle.glock_names.specs.Views.{end_of}
use Rattle.log_layout.specs.Transactions.{after}
use Rattle.log_rings.specs.Flights.{chunk_place}
use Rattle.log_tables.specs.Versions.Way.{Away, Flying, Home}
use Rattle.log_values.specs.Blocks as set
use Rattle.log_values.specs.Changes.{most_unflushed}
use Rattle.log_tables.specs.Kept.{is_home}
use Rattle.log_values.specs.Flushing.{AllAreHome, IsTail, NoneIsNeeded, NothingIsLive, at_stage, behind_tail, block_at, first_place, flush_chunks, head_place, left_from, live_behind, logged_over, of_itself, of_none as of_no_versions, of_oldest, settled, settled_way}
use Rattle.log_values.specs.Sound.{IsSoundLog, used}
use Rattle.log_values.specs.Log.{Entry, Flush, Journal, LogValue, Stage, Version, Way}
use Rattle.log_widths.specs.Widths.{HasLogWidths}
use Rattle.log_values.specs.Log.Stage.{Ending, Headed, Writing}
use Rattle.log_values.specs.Transactions.{due, live_among, transaction}
use Rattle.log_values.proofs.Landing.{nothing_is, nothing_takes}
use Rattle.log_layout.specs.Chunks.{Logged, Transaction}
use Rattle.log_layout.specs.Journal.{way}
use Rattle.std.proofs.lemmas.Bool.Decides.{nat_tests}
use Rattle.node_journal.specs.Encoding.{content_of, metadata_of, size_of, size_with}
use Rattle.shared_disk.specs.Disk.{DiskState, Flight, flight_to, with_flight}
use Rattle.trace_text.specs.declared.item.TraceItem.TheVariants as trace
use Rattle.logged_node.specs.Flushing.{FliesAsFlushed, HasComeTo, IsDone, IsFlownBlock, IsFlushing, IsKind, in_journal, how_many_fly, left_at, left_of, of_all, of_none, steps_left, under_way}
use Rattle.logged_node.specs.Flushing as came
use Rattle.logged_node.specs.Nodes.{Awaits, IsLogOf, IsNodeOn, IsSameDisk, IsSmall, KeepsView, NoneGoesHome}
use Rattle.logged_node.specs.declared.node.Node.{Node}
use Rattle.std.proofs.lemmas.List.Sums.{length-filter}
use Rattle.logged_node.proofs.Blocks.{none_some}
use Rattle.logged_node.proofs.Disks.{flies_elsewhere, length_with, none_in}
use Rattle.logged_node.proofs.Flushes.{slice_get_low, way_here}

-- ---- it is the node that it was

pub on_still : (d d' : DiskState) (n n' : Node) → IsNodeOn d n → IsSameDisk d d' → IsSoundLog n'.log → HasLogWidths n'.log → IsLogOf d.count n'.log → n'.log.journal ≡ n.log.journal → n'.view ≡ n.view
    → length n'.block.items ≡ length n.block.items → n'.flying ≡ length (d'.in_flight 1) → n'.flying ≤ 512 → Awaits n'.armed → IsNodeOn d' n'
on_still d d' n n' on same sound widths blocks journal view block flying few awaits = record {
  sound = sound;
  widths = widths;
  blocks = subst (λ c. IsLogOf c n'.log) (sym same.count) blocks;
  block = block ∙ on.block ∙ sym same.size;
  journal = ap (λ j. j.size) journal ∙ on.journal ∙ sym same.size;
  view = ap (λ v. v.size) view ∙ on.view ∙ sym same.size;
  places = λ p low. subst₂ (λ j c. block_at j p < c) (sym journal) (sym same.count) (on.places p (subst (λ j. p < j.length) journal low));
  apart = λ p q a b e. on.apart p q (subst (λ j. p < j.length) journal a) (subst (λ j. q < j.length) journal b) (subst (λ j. block_at j p ≡ block_at j q) journal e);
  some = subst (λ v. 1 ≤ length v.groups) (sym view) on.some;
  groups = subst₂ (λ v c. AllByRecursion (λ g. end_of g ≤ c) v.groups) (sym view) (sym same.count) on.groups;
  kept = λ b bytes at. subst (λ c. b < c) (sym same.count) (on.kept b bytes (subst (λ v. table.get v.blocks b ≡ Some bytes) view at));
  unfenced = ap (λ f. f 1) same.fenced ∙ on.unfenced;
  flying = flying;
  few = few;
  awaits = awaits;
}

pub kept_on : (a b c : Node) → KeepsView a b → KeepsView b c → KeepsView a c
kept_on a b c x y = record { view = y.view ∙ x.view; answered = y.answered ∙ x.answered; changed = y.changed ∙ x.changed; journal = y.journal ∙ x.journal; unmounts = y.unmounts ∙ x.unmounts }

-- ---- nothing goes home

abbrev Live : Type 0
Live = table.FinMap nat_cmp Entry

abbrev pub IsStill : Option Entry → Type 0
IsStill o = (e : Entry) (bytes : List ℕ) → o ≡ Some e → e.way ≡ Flying bytes → ⊥

home_flying : {bytes : List ℕ} → Home ≡ Flying bytes → ⊥
home_flying e = cc

away_flying : {a b : List ℕ} → Away a ≡ Flying b → ⊥
away_flying e = cc

entry_same : {a b : Entry} → Some a ≡ Some b → a ≡ b
entry_same e = cc

settled_still : (o : Option Entry) → IsStill (settled o)
settled_still None e bytes is flies = none_some is
settled_still (Some x) e bytes is flies = by x.way (ap (λ (y : Entry). y.way) (entry_same is) ∙ flies)
  where
    by : (w : Way) → settled_way w ≡ Flying bytes → ⊥
    by Home h = home_flying h
    by (Away a) h = away_flying h
    by (Flying a) h = home_flying h

none_still : IsStill None
none_still e bytes is flies = none_some is

if_still : (t : Bool) (o : Option Entry) → IsStill o → IsStill (if t then None else o)
if_still true o still = none_still
if_still false o still = still

left_still : (log : LogValue) (tail : ℕ) (o : Option Entry) → IsStill o → IsStill (left_from log tail o)
left_still log tail None still = none_still
left_still log tail (Some x) still = if_still (nat_lt (behind_tail log x.first) (behind_tail log tail)) (Some x) still

logged_still : (v : Option Version) (first : ℕ) (o : Option Entry) → IsStill o → IsStill (logged_over v first o)
logged_still None first o still e bytes is flies = still e bytes is flies
logged_still (Some v) first o still e bytes is flies = away_flying (ap (λ (y : Entry). y.way) (entry_same is) ∙ flies)

behind_still : (log : LogValue) (f : Flush) (tail b : ℕ) → IsStill (table.get log.live b) → IsStill (live_behind log f tail b)
behind_still log f tail b still =
    logged_still (table.get f.versions b) (first_place log) _ (if_still (set.contains f.revokes b) (left_from log tail (table.get log.live b)) (left_still log tail (table.get log.live b) still))

-- ---- behind a step

retained : (s : set.Blocks) (p : ℕ → Bool) → s ≡ set.empty → set.retain s p ≡ set.empty
retained s p none = ap (λ x. set.retain x p) none ∙ table.same_map nat_cmp_total table.nat_cmp-IsAntisymmetric (set.retain set.empty p) set.empty (λ q. nothing q)
  where
    nothing : (q : ℕ) → table.get (set.retain set.empty p) q ≡ table.get set.empty q
    nothing q = table.get-retain_keys set.empty p q (λ x e. ap p (sym (ranked q x Equal (sym e)))) ∙ by (p q)
      where
        by : (t : Bool) → cond t (table.get set.empty q) None ≡ table.get set.empty q
        by true = refl
        by false = sym (table.get-empty nat_cmp q)

-- what is live among nothing
none_among : (live : Live) (gone : set.Blocks) → live ≡ table.empty → live_among live gone ≡ set.empty
none_among live gone none = ap (λ l. live_among l gone) none ∙ table.same_map nat_cmp_total table.nat_cmp-IsAntisymmetric (live_among table.empty gone) set.empty (λ q. dropped q)
  where
    dropped : (q : ℕ) → table.get (set.retain gone (table.contains_key (table.empty {X = Entry} {R = nat_cmp}))) q ≡ table.get set.empty q
    dropped q = table.get-retain_keys gone (table.contains_key (table.empty {X = Entry} {R = nat_cmp})) q (λ x e. ap (table.contains_key (table.empty {X = Entry} {R = nat_cmp})) (sym (ranked q x Equal (sym e))))
        ∙ ap (λ t. cond t (table.get gone q) None) (ap is_some (table.get-empty nat_cmp q)) ∙ sym (table.get-empty nat_cmp q)

-- where the tail is the head, nothing is live
none_used : (log : LogValue) → IsSoundLog log → log.tail ≡ log.head → NothingIsLive log
none_used log sound same = table.same_map nat_cmp_total table.nat_cmp-IsAntisymmetric log.live table.empty (λ q. table.get-entries log.live q ∙ ap (table.find nat_cmp q) none ∙ sym (table.get-empty nat_cmp q))
  where
    zero_least : (n : ℕ) → nat_le 0 n ≡ true
    zero_least n = grind (arith, nat_tests)

    passes : ℕ × Entry → Bool
    passes e = nat_le 0 (behind_tail log e.1.first)

    kept : (es : List (ℕ × Entry)) → filter passes es ≡ es
    kept [] = refl
    kept (e ∷ es) = cond-true (passes e) (e ∷ filter passes es) (filter passes es) (zero_least (behind_tail log e.1.first)) ∙ ap (λ (xs : List (ℕ × Entry)). e ∷ xs) (kept es)

    all_counted : (es : List (ℕ × Entry)) → count_by passes es ≡ length es
    all_counted es = sym (length-filter passes es) ∙ ap length (kept es)

    no_way : used log ≡ 0
    no_way = ap (λ t. way log.journal.length t log.head) same ∙ way_here log.journal.length log.head

    none_long : length (table.entries log.live) ≤ 0
    none_long = (let room = sound.room 0 (omega arith) in let all = all_counted (table.entries log.live) in let w = no_way in omega (arith, room, all, w))

    none : table.entries log.live ≡ []
    none = by (table.entries log.live) none_long
      where
        by : (es : List (ℕ × Entry)) → length es ≤ 0 → es ≡ []
        by [] low = refl
        by (e ∷ es) low = absurd (omega (arith, low))

-- without revokes a transaction is no larger
smaller : (log new : LogValue) → new.fresh ≡ log.fresh → new.gone ≡ set.empty → new.journal ≡ log.journal → IsSmall log → IsSmall new
smaller log new fresh gone journal small =
    subst (λ (k : ℕ). k ≤ most_unflushed) (sym (ap₂ (λ (s : ℕ) (t : Transaction). size_of s t) (ap (λ j. j.size) journal) (λ i. transaction (fresh i) (gone i))))
    (let less = fewer log.journal.size (transaction log.fresh set.empty) (due log) refl none in omega (arith, less, small))
  where
    none : length (set.items set.empty) ≡ 0
    none = ap (λ (t : Transaction). length t.revokes) nothing_is

    no_revokes : (s c m r r' : ℕ) → r ≡ 0 → size_with s c m r ≤ size_with s c m r'
    no_revokes s c m r r' is = subst (λ k. size_with s c m k ≤ size_with s c m r') (sym is) (omega arith)

    fewer : (s : ℕ) (t u : Transaction) → t.blocks ≡ u.blocks → length t.revokes ≡ 0 → size_of s t ≤ size_of s u
    fewer s t u blocks is = subst (λ (bs : List Logged). size_with s (length (filter (λ (e : Logged). e.plain) bs)) (length (filter (λ (e : Logged). not e.plain) bs)) (length t.revokes) ≤ size_of s u) (sym blocks)
        (no_revokes s (length (content_of u)) (length (metadata_of u)) (length t.revokes) (length u.revokes) is)

-- with the same due it is as small
pub small_on : (log new : LogValue) → new.fresh ≡ log.fresh → new.gone ≡ log.gone → new.journal ≡ log.journal → IsSmall log → IsSmall new
small_on log new fresh gone journal small = subst (λ (k : ℕ). k ≤ most_unflushed) (sym (ap₂ (λ (s : ℕ) (t : Transaction). size_of s t) (ap (λ j. j.size) journal) (λ i. transaction (fresh i) (gone i)))) small

module _ (start : Node) (d d' : DiskState) (n n' : Node) (f : Flush) (bytes : List ℕ) (at : IsFlushing start d n f) (on' : IsNodeOn d' n') (kept : KeepsView n n') (same_begun : n'.numbers.begun ≡ n.numbers.begun) where
  abbrev Comes : Type 0
  Comes = HasComeTo start d' n' × (steps_left n'.log < steps_left n.log)

  left_is : (stage : Stage) → f.stage ≡ stage → steps_left n.log ≡ left_at (length (flush_chunks n.log f)) stage
  left_is stage e = ap (λ (o : Option Flush). left_of n.log o) at.is ∙ ap (left_at (length (flush_chunks n.log f))) e

  kept_still : KeepsView start n'
  kept_still = kept_on start n n' at.kept kept

  kind_still : (f' : Flush) → f'.versions ≡ f.versions → f'.revokes ≡ f.revokes → n'.log.fresh ≡ n.log.fresh → n'.log.gone ≡ n.log.gone → (AllAreHome n.log → AllAreHome n'.log) → IsKind start n f → IsKind start n' f'
  kind_still f' versions revokes fresh gone home (of_all room begun none no_more) = of_all room (same_begun ∙ begun) (fresh ∙ none) (gone ∙ no_more)
  kind_still f' versions revokes fresh gone home (of_none stuck some begun was no_versions no_revokes are small) =
      of_none stuck some (same_begun ∙ begun) (fresh ∙ was) (versions ∙ no_versions) (revokes ∙ no_revokes) (home are) (small_on n.log n'.log fresh gone kept.journal small)

  staged : (stage : Stage) → n'.log ≡ at_stage n.log f stage → IsKind start n' (record f { stage = stage })
  staged stage log = kind_still (record f { stage = stage }) refl refl (ap (λ (l : LogValue). l.fresh) log) (ap (λ (l : LogValue). l.gone) log) (λ home. subst AllAreHome (sym log) home) at.kind

  settled_home : (live : Live) → ((b : ℕ) → table.get live b ≡ settled (table.get n.log.live b)) → AllAreHome n.log → (b : ℕ) (e : Entry) → table.get live b ≡ Some e → e.way ≡ Home
  settled_home live settles home b e is = by (table.get n.log.live b) refl (sym (settles b) ∙ is)
    where
      by : (o : Option Entry) → table.get n.log.live b ≡ o → settled o ≡ Some e → e.way ≡ Home
      by None was is = absurd (none_some is)
      by (Some x) was is = sym (ap (λ (y : Entry). y.way) (entry_same is)) ∙ ap settled_way (home b x was)

  -- a block is in flight
  pub behind_block : (k b : ℕ) → f.stage ≡ Writing k → slice_get (flush_chunks n.log f) k ≡ Some bytes → b ≡ block_at n.log.journal (chunk_place n.log k) → n'.log ≡ at_stage n.log f (Writing (k + 1))
      → d'.in_flight 1 ≡ with_flight (d.in_flight 1) (record { block = b; bytes = bytes }) → n'.numbers.low ≡ n.numbers.low → Comes
  behind_block k b stage chunk block log flights low = (
    under_way (record f { stage = Writing (k + 1) }) (record {
      on = on';
      kept = kept_still;
      low = low ∙ at.low;
      sequence = ap (λ (l : LogValue). l.sequence) log ∙ at.sequence;
      is = ap (λ (l : LogValue). l.flush) log;
      small = subst (λ (l : LogValue). length (flush_chunks l (record f { stage = Writing (k + 1) })) < 400) (sym log) at.small;
      flies = subst (λ (l : LogValue). FliesAsFlushed d' l (record f { stage = Writing (k + 1) })) (sym log) flies;
      many = (let long = ap length flights ∙ length_with (d.in_flight 1) (record { block = b; bytes = bytes }) in let old = subst (λ s. length (d.in_flight 1) ≡ how_many_fly s) stage at.many in omega (arith, long, old));
      some = subst (λ (l : LogValue). 1 ≤ length (flush_chunks l (record f { stage = Writing (k + 1) }))) (sym log) (let least = inside in omega (arith, least));
      home = subst NoneGoesHome (sym log) at.home;
      told = tt;
      kind = staged (Writing (k + 1)) log;
    }),
    less,
  )
    where
      inside : k < length (flush_chunks n.log f)
      inside = slice_get_low (flush_chunks n.log f) k bytes chunk

      flies : (c : ℕ) (x : List ℕ) → flight_to (d'.in_flight 1) c ≡ Some x → IsFlownBlock n.log f (Writing (k + 1)) c
      flies c x is = elim (cases_eq c b) [
        | inl same ↦ (k, omega arith, inside, same ∙ block)
        | inr other ↦
            let here : flight_to (with_flight (d.in_flight 1) (record { block = b; bytes = bytes })) c ≡ Some x = ap (λ (fs : List Flight). flight_to fs c) (sym flights) ∙ is in
            let old = subst (λ s. IsFlownBlock n.log f s c) stage (at.flies c x (sym (flies_elsewhere (d.in_flight 1) (record { block = b; bytes = bytes }) c other) ∙ here)) in
            (old.0, (let l = old.1 in omega (arith, l)), old.2, old.3)
      ]

      less : steps_left n'.log < steps_left n.log
      less = subst₂ (λ a c. a < c) (sym (ap steps_left log)) (sym (left_is (Writing k) stage)) (let l = inside in omega (arith, l))

  -- a barrier was made between the blocks and the header
  pub behind_barrier : (live : Live) → f.stage ≡ Writing (length (flush_chunks n.log f)) → n'.log ≡ record (at_stage n.log f Ending) { live = live } → ((b : ℕ) → table.get live b ≡ settled (table.get n.log.live b))
      → d'.in_flight 1 ≡ [] → n'.numbers.low ≡ n.numbers.low → Comes
  behind_barrier live stage log settles none low = (
    under_way (record f { stage = Ending }) (record {
      on = on';
      kept = kept_still;
      low = low ∙ at.low;
      sequence = ap (λ (l : LogValue). l.sequence) log ∙ at.sequence;
      is = ap (λ (l : LogValue). l.flush) log;
      small = subst (λ (l : LogValue). length (flush_chunks l (record f { stage = Ending })) < 400) (sym log) at.small;
      flies = λ b x is. absurd (none_some (ap (λ fs. flight_to fs b) (sym none) ∙ is));
      many = (let long = ap length none in omega (arith, long));
      some = tt;
      home = subst NoneGoesHome (sym log) (λ b e x is flies. settled_still (table.get n.log.live b) e x (sym (settles b) ∙ is) flies);
      told = tt;
      kind = kind_still (record f { stage = Ending }) refl refl (ap (λ (l : LogValue). l.fresh) log) (ap (λ (l : LogValue). l.gone) log) (λ home. subst AllAreHome (sym log) (settled_home live settles home)) at.kind;
    }),
    subst₂ (λ a c. a < c) (sym (ap steps_left log)) (sym (left_is (Writing (length (flush_chunks n.log f))) stage)) (omega arith),
  )

  -- its header is in flight
  pub behind_header : (tail b : ℕ) → f.stage ≡ Ending → b ≡ block_at n.log.journal (head_place n.log f) → n'.log ≡ at_stage n.log f (Headed tail)
      → d'.in_flight 1 ≡ with_flight (d.in_flight 1) (record { block = b; bytes = bytes })
      → n'.items.items ≡ n.items.items ++ trace.WriteHead 1 b (after n.log.sequence) n.numbers.begun ∷ [] → n'.numbers.low ≡ n.numbers.low → Comes
  behind_header tail b stage block log flights items low = (
    under_way (record f { stage = Headed tail }) (record {
      on = on';
      kept = kept_still;
      low = low ∙ at.low;
      sequence = ap (λ (l : LogValue). l.sequence) log ∙ at.sequence;
      is = ap (λ (l : LogValue). l.flush) log;
      small = subst (λ (l : LogValue). length (flush_chunks l (record f { stage = Headed tail })) < 400) (sym log) at.small;
      flies = subst (λ (l : LogValue). FliesAsFlushed d' l (record f { stage = Headed tail })) (sym log) flies;
      many = (let long = ap length flights ∙ length_with (d.in_flight 1) (record { block = b; bytes = bytes }) in let old = none_before in omega (arith, long, old));
      some = tt;
      home = subst NoneGoesHome (sym log) at.home;
      told = (b, n.items.items, items ∙ ap₂ (λ (s u : ℕ). n.items.items ++ trace.WriteHead 1 b s u ∷ []) (ap after (sym (ap (λ (l : LogValue). l.sequence) log))) (sym same_begun));
      kind = staged (Headed tail) log;
    }),
    subst₂ (λ a c. a < c) (sym (ap steps_left log)) (sym (left_is Ending stage)) (omega arith),
  )
    where
      none_before : length (d.in_flight 1) ≤ 0
      none_before = (let none = subst (λ s. length (d.in_flight 1) ≡ how_many_fly s) stage at.many in omega (arith, none))

      only : flight_to (d'.in_flight 1) ≡ flight_to (with_flight [] (record { block = b; bytes = bytes }))
      only = ap (λ (fs : List Flight). flight_to fs) (flights ∙ ap (λ (fs : List Flight). with_flight fs (record { block = b; bytes = bytes })) (none_in (d.in_flight 1) none_before))

      flies : (c : ℕ) (x : List ℕ) → flight_to (d'.in_flight 1) c ≡ Some x → IsFlownBlock n.log f (Headed tail) c
      flies c x is = elim (cases_eq c b) [
        | inl same ↦ same ∙ block
        | inr other ↦ absurd (none_some (sym (flies_elsewhere [] (record { block = b; bytes = bytes }) c other) ∙ ap (λ (h : ℕ → Option (List ℕ)). h c) (sym only) ∙ is))
      ]

  -- the last barrier: it is in the journal
  pub behind_last : (tail : ℕ) (live : Live) → IsTail n.log f tail → f.stage ≡ Headed tail
      → n'.log ≡ record n.log { head = head_place n.log f; tail = tail; sequence = after n.log.sequence; clean = false; gone = live_among live n.log.gone; flush = None; live = live }
      → ((b : ℕ) → table.get live b ≡ live_behind n.log f tail b) → d'.in_flight 1 ≡ [] → n'.numbers.low ≡ n.numbers.begun → after n.log.sequence ≡ n.log.sequence + 1 → Comes
  behind_last tail live tells stage log lives none low sequence = (
    in_journal (record {
      resting = record {
        on = on';
        idle = ap (λ (l : LogValue). l.flush) log;
        none = none;
        home = subst NoneGoesHome (sym log) (λ b e x is flies. behind_still n.log f tail b (λ y z h i. at.home b y z h i) e x (sym (lives b) ∙ is) flies);
        small = (by at.kind).2;
      };
      kept = kept_still;
      gone = (by at.kind).1;
      sequence = ap (λ (l : LogValue). l.sequence) log ∙ sequence ∙ ap (λ (k : ℕ). k + 1) at.sequence;
      done = (by at.kind).0;
    }),
    subst₂ (λ a c. a < c) (sym (ap steps_left log)) (sym (left_is (Headed tail) stage)) (omega arith),
  )
    where
      sized_still : IsBlockSize n'.log.journal.size
      sized_still = subst (λ (j : Journal). IsBlockSize j.size) (sym kept.journal) at.on.sound.size

      fresh_is : n'.log.fresh ≡ n.log.fresh
      fresh_is = ap (λ (l : LogValue). l.fresh) log

      gone_is : n'.log.gone ≡ live_among live n.log.gone
      gone_is = ap (λ (l : LogValue). l.gone) log

      -- behind a header alone nothing is live
      none_needed : AllAreHome n.log → NoneIsNeeded n.log f
      none_needed home b e needed = true≢false (sym (ap is_home (home b e needed.live)) ∙ needed.away)

      its_own : f.versions ≡ table.empty → AllAreHome n.log → (t : ℕ) → IsTail n.log f t → t ≡ head_place n.log f
      its_own versions home _ (of_oldest b e needed oldest) = absurd (none_needed home b e needed)
      its_own versions home _ (of_itself none some) = absurd (some versions)
      its_own versions home _ (of_no_versions none empty) = refl

      none_live : f.versions ≡ table.empty → AllAreHome n.log → NothingIsLive n'.log
      none_live versions home = none_used n'.log on'.sound (ap (λ (l : LogValue). l.tail) log ∙ its_own versions home tail tells ∙ sym (ap (λ (l : LogValue). l.head) log))

      by : IsKind start n f → IsDone start n' × (n'.log.gone ≡ set.empty) × IsSmall n'.log
      by (of_all room begun fresh gone) =
          let no_fresh : n'.log.fresh ≡ table.empty = fresh_is ∙ fresh in
          let no_gone : n'.log.gone ≡ set.empty = gone_is ∙ retained n.log.gone (table.contains_key live) gone in
          (came.all room (low ∙ begun) no_fresh, no_gone, subst (λ (k : ℕ). k ≤ most_unflushed) (sym (ap (size_of n'.log.journal.size) ((λ i. transaction (no_fresh i) (no_gone i)) ∙ nothing_is) ∙ nothing_takes n'.log.journal.size sized_still)) (omega arith))
      by (of_none stuck some begun was versions revokes home small) =
          let live_none : live ≡ table.empty = sym (ap (λ (l : LogValue). l.live) log) ∙ none_live versions home in
          let no_gone : n'.log.gone ≡ set.empty = gone_is ∙ none_among live n.log.gone live_none in
          (came.none stuck (low ∙ begun) (fresh_is ∙ was) (none_live versions home), no_gone, smaller n.log n'.log fresh_is no_gone (ap (λ (l : LogValue). l.journal) log) small)
