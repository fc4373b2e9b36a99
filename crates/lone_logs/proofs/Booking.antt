-- A step that changes what the machine notes of the node's calls and of what it keeps, and nothing on its disk.
use Rattle.std.proofs.Common.{◌≡◌, ℕ, ◌<◌, ◌≤◌, inl, inr, suc, Bool, true, false, List, Option, None, Some, sym, ◌∙◌, arith}
use Rattle.std.specs.FinMap as table
use Rattle.std.specs.Option.{option_map}
use Rattle.std.specs.Ordering.{nat_cmp}
use Rattle.cluster_laws.specs.Book.{Book}
use Rattle.cluster_laws.specs.Files.{Files}
use Rattle.cluster_laws.specs.History.{Item}
use Rattle.cluster_laws.specs.Log.{Last, Untouched}
use Rattle.cluster_laws.specs.Notes.{Caches}
use Rattle.cluster_laws.specs.World.{World}
use Rattle.image_machine.specs.Cells.{BlockCell}
use Rattle.image_machine.specs.Volumes.{Volume}
use Rattle.image_model.specs.Replays.{MayChange}
use Rattle.journal_outcomes.specs.Images.{ring_at, to_journal}
use Rattle.journal_outcomes.specs.Rings.{InFlight}
use Rattle.log_layout.specs.Journal.{Ring}
use Rattle.log_tables.specs.Kept.{is_home}
use Rattle.log_values.specs.Blocks as set
use Rattle.log_values.specs.Log.{Entry, Flush, LogValue, Stage, Version}
use Rattle.log_values.specs.Sound.{IsSoundLog}
use Rattle.lone_machine.specs.Alone.{Begun, IsAlone, now}
use Rattle.lone_machine.specs.Versions.{AreVersions, IsVersion}
use Rattle.lone_logs.specs.States.{FliesAs, FliesToJournal, HasCallNumbers, HasUnlogged, HasVersions, IsLoggedNode, NodeState, Numbers, trees_on}
use Rattle.lone_logs.specs.States.FliesAs.{ends, headed, writes}
use Rattle.lone_logs.proofs.Rings.{ring_still}

-- ---- versions, where no call is another one

module _ (F : Files) (B B' : Book F) (i lo hi : ℕ) (same : (n b : ℕ) → n < hi → B'.change i (suc n) b ≡ B.change i (suc n) b) where
  untouched_still : (from b : ℕ) → Untouched F B i from hi b → Untouched F B' i from hi b
  untouched_still from b none n above below = same n b below ∙ none n above below

  last_still : (b : ℕ) → Last F B i lo hi b → Last F B' i lo hi b
  last_still b l = record {
    call = l.call;
    cell = l.cell;
    above = l.above;
    below = l.below;
    changes = same l.call b l.below ∙ l.changes;
    none_later = untouched_still (suc l.call) b l.none_later;
  }

  pub versions_still : (versions : ℕ → Option F.Content) (gone : ℕ → Bool) → AreVersions F B i lo hi versions gone → AreVersions F B' i lo hi versions gone
  unfolding last_still
  versions_still versions gone are b = by (are b)
    where
      by : IsVersion F B i lo hi b (versions b) (gone b) → IsVersion F B' i lo hi b (versions b) (gone b)
      by (inl old) = inl (untouched_still lo b old.0, old.1, old.2)
      by (inr (l, inl free)) = inr (last_still b l, inl free)
      by (inr (l, inr used)) = inr (last_still b l, inr used)

-- of a log and its flush, in another world
pub has_versions : (v : Volume) (s : Begun (trees_on v)) (w w' : World (trees_on v)) (log : LogValue) (n : Numbers) (o : Option Flush) → n.begun ≤ n.answered
    → ((m b : ℕ) → m < n.answered → w'.book.change s.node (suc m) b ≡ w.book.change s.node (suc m) b) → HasVersions v s w log n o → HasVersions v s w' log n o
has_versions v s w w' log n None order same are = versions_still (trees_on v) w.book w'.book s.node n.low n.answered same _ _ are
has_versions v s w w' log n (Some f) order same are = (
  versions_still (trees_on v) w.book w'.book s.node n.low n.begun (λ m b less. same m b (omega (arith, less, order))) _ _ are.0,
  versions_still (trees_on v) w.book w'.book s.node n.begun n.answered same _ _ are.1,
)

-- ---- what flies to the journal, with other versions that aren't being flushed

module _ (ring : Ring) (flying : InFlight) (log : LogValue) (fresh : table.FinMap nat_cmp Version) (gone : set.Blocks) where
  stage_flies : (f : Flush) (stage : Stage) → FliesAs ring flying log f stage → FliesAs ring flying (record log { fresh = fresh; gone = gone }) f stage
  stage_flies f _ (writes done sent only) = writes done sent only
  stage_flies f _ (ends written none) = ends written none
  stage_flies f _ (headed tail written head none) = headed tail written head none

  flies_with : (o : Option Flush) → FliesToJournal ring flying log o → FliesToJournal ring flying (record log { fresh = fresh; gone = gone }) o
  flies_with None flies = flies
  flies_with (Some f) flies = stage_flies f f.stage flies

-- ---- the node with another book

module _ (v : Volume) (s : Begun (trees_on v)) (w : World (trees_on v)) (d : ℕ) (st : NodeState) (is : IsLoggedNode v s w d st)
    (B : Book (trees_on v)) (items : List (Item (trees_on v))) (sure : ℕ → ℕ) (fresh : table.FinMap nat_cmp Version) (gone : set.Blocks) (kept : table.FinMap nat_cmp (List ℕ)) (n : Numbers) where
  abbrev pub booked_world : World (trees_on v)
  booked_world = record { book = B; disk = w.disk; items = items; sure = sure }

  abbrev pub booked_state : NodeState
  booked_state = record st { log = record st.log { fresh = fresh; gone = gone }; kept = kept; numbers = n }

  pub booked : IsAlone (trees_on v) s booked_world → B.start ≡ s.tree → IsSoundLog booked_state.log → n.begun ≡ st.numbers.begun → HasCallNumbers v s booked_world n
      → HasVersions v s booked_world booked_state.log n st.log.flush → Caches (trees_on v) B w.disk s.node
      → ((b : ℕ) → table.get kept b ≡ option_map (λ (x : BlockCell). x.content) (B.cache s.node b))
      → ((b : ℕ) (e : Entry) → table.get st.log.live b ≡ Some e → is_home e.way ≡ false → (((now (trees_on v) booked_world b).place).free ≡ true → ⊥) → B.cache s.node b ≡ Some (now (trees_on v) booked_world b))
      → ((b : ℕ) → HasUnlogged booked_state.log b → MayChange st.image v.layout b) → IsLoggedNode v s booked_world d booked_state
  booked alone start sound begun numbers versions cached keeps away may = record {
    alone = alone;
    node = is.node;
    held = is.held;
    start = start;
    rings = is.rings;
    own = record { speaks = is.own.speaks; one = is.own.one; live = is.own.live };
    disk = is.disk;
    flights = is.flights;
    apart = is.apart;
    journal = is.journal;
    sound = sound;
    laid = is.laid;
    ring = ring_still (ring_at st.image d) st.log is.laid fresh gone st.log.flush st.log.live is.ring is.ring.live;
    home = is.home;
    others = is.others;
    flies = flies_with (ring_at st.image d) (to_journal st.image d st.flying) st.log fresh gone st.log.flush is.flies;
    homeward = is.homeward;
    elsewhere = is.elsewhere;
    only_headed = is.only_headed;
    read = is.read;
    heads = record { headed = λ h. is.heads.headed h ∙ sym begun; one = is.heads.one };
    numbers = numbers;
    versions = versions;
    may = may;
    cached = cached;
    keeps = keeps;
    away = away;
  }
