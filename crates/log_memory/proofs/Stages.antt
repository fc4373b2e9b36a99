-- A flush that goes on, and changes nothing else.
use Rattle.std.proofs.Common.{◌≡◌, ℕ, ◌+◌, List, length, slice_get, Option, None, Some, refl, sym, ap, subst, ◌∙◌, is_some, true≢false}
use Rattle.std.specs.FinMap as table
use Rattle.log_values.specs.Log.{Entry, Flush, LogValue}
use Rattle.log_values.specs.Log.Stage.{Ending, Headed, Writing}
use Rattle.log_values.specs.Log.{Stage as At, Way}
use Rattle.log_tables.specs.Versions.Way.{Home, Away, Flying}
use Rattle.log_tables.proofs.Steps.{same_some}
use Rattle.log_layout.specs.Headers.{log_put}
use Rattle.node_journal.specs.Encoding.{header_of, zeros}
use Rattle.node_journal.specs.Places.{place_on}
use Rattle.node_journal.specs.declared.place.Place.{Place}
use Rattle.log_values.specs.Flushing.{FlushStep, IsTail, at_stage, block_at, first_place, flush_chunks, head_place, place_of, settled, settled_way}
use Rattle.log_values.specs.Flushing.FlushStep.{a_barrier, a_block, a_header}
use Rattle.log_values.specs.Homing.{Settles}
use Rattle.log_values.specs.declared.steps.LogStep.TheVariants as step
use Rattle.log_memory.specs.Flushing.{IsAllWritten, IsAt}
use Rattle.log_values.specs.Sound.{IsSoundLog}
use Rattle.log_values.specs.declared.steps.LogStep.{LogStep}
use Rattle.log_values.proofs.Going.{step_sound}
use Rattle.log_memory.specs.Inside.{IsLog, flush_in, log_in, stage_of}
use Rattle.log_memory.specs.declared.kinds.Stage.{Stage}
use Rattle.log_memory.specs.declared.log.Log.TheInside.{Inside}
use Rattle.log_memory.proofs.Counts.{begun_at, flush_with, its_parts}

-- the fields with this stage
abbrev pub staged : Inside → Stage → Inside
staged l s = record l { stage = Some s }

module _ (l : Inside) (h : IsLog l) (log : LogValue) (same : log_in l ≡ log) (f : Flush) (is : log.flush ≡ Some f) (s : Stage) where
  here : flush_in l ≡ Some f
  here = ap (λ (x : LogValue). x.flush) same ∙ is

  -- what they stand for
  pub staged_is : log_in (staged l s) ≡ at_stage log f (stage_of s)
  staged_is =
      let parts = its_parts l h f here in
      sym (λ i. record (log_in l) { flush = Some (record { versions = parts.0 i; revokes = parts.1 i; stage = stage_of s }) }) ∙ ap (λ (x : LogValue). at_stage x f (stage_of s)) same

  module _ (bytes : List ℕ) (answer : LogStep) (step : FlushStep log (at_stage log f (stage_of s)) f bytes answer) where
    pub stepped : FlushStep log (log_in (staged l s)) f bytes answer
    stepped = subst (λ (x : LogValue). FlushStep log x f bytes answer) (sym staged_is) step

    pub step_stays : IsLog (staged l s)
    step_stays = record {
      sound = step_sound log (log_in (staged l s)) f bytes answer (subst IsSoundLog same h.sound) is stepped;
      idle = λ none. absurd (true≢false (ap is_some none));
      few_changes = h.few_changes;
      size = h.size;
      frames = h.frames;
      places = h.places;
      gone_room = h.gone_room;
      revoked_room = h.revoked_room;
      revokes_room = h.revokes_room;
      content_room = h.content_room;
      metadata_room = h.metadata_room;
      revokes = h.revokes;
      kinds = record { content_inside = h.kinds.content_inside; metadata_inside = h.kinds.metadata_inside; content_are = h.kinds.content_are; metadata_are = h.kinds.metadata_are };
    }

-- ---- where the flush is

pub is_at : (log : LogValue) (s : At) → IsAt log s → (f : Flush) → log.flush ≡ Some f → f.stage ≡ s
is_at log s is f begun = ap (λ (x : Flush). x.stage) (same_some log.flush f is.flush begun is.begun) ∙ is.at

pub held_at : (l : Inside) → IsLog l → (log : LogValue) → log_in l ≡ log → (s : Stage) → l.stage ≡ Some s → IsAt log (stage_of s)
held_at l h log same s is = record { flush = begun_at l h s; begun = ap (λ (x : LogValue). x.flush) (sym same) ∙ flush_with l h s is; at = refl }

pub all_written : (log : LogValue) → IsAllWritten log → (f : Flush) → log.flush ≡ Some f → f.stage ≡ Writing (length (flush_chunks log f))
all_written log is f begun = subst (λ (x : Flush). x.stage ≡ Writing (length (flush_chunks log x))) (same_some log.flush is.flush f is.begun begun) is.at

-- ---- one more block

pub writes : (log : LogValue) (f : Flush) (index : ℕ) (bytes : List ℕ) (place block : ℕ) → f.stage ≡ Writing index → slice_get (flush_chunks log f) index ≡ Some bytes
    → place ≡ place_on log.journal.length (first_place log) index → block ≡ block_at log.journal place → FlushStep log (at_stage log f (Writing (index + 1))) f bytes (step.Write block)
writes log f index bytes place block at chunk place_is block_is =
    subst (λ b. FlushStep log (at_stage log f (Writing (index + 1))) f bytes (step.Write b)) (sym (block_is ∙ ap (block_at log.journal) place_is)) (a_block index at chunk refl)

-- ---- the first barrier

settled_again : (o : Option Entry) → settled (settled o) ≡ settled o
settled_again None = refl
settled_again (Some e) = ap (λ (w : Way). Some (record e { way = w })) (twice e.way)
  where
    twice : (w : Way) → settled_way (settled_way w) ≡ settled_way w
    twice Home = refl
    twice (Away bytes) = refl
    twice (Flying bytes) = refl

module _ (log mid : LogValue) (h : Settles log mid) (f : Flush) (at : f.stage ≡ Writing (length (flush_chunks log f))) (bytes : List ℕ) where
  -- from where all has settled
  pub barrier_from_there : FlushStep mid (at_stage mid f Ending) f bytes step.Barrier
  barrier_from_there =
      a_barrier (at ∙ ap (λ (x : LogValue). Writing (length (flush_chunks x f))) (sym h.same)) refl
      (λ b. h.settles b ∙ sym (settled_again (table.get log.live b)) ∙ ap settled (sym (h.settles b)))

  -- and from where it hadn't
  pub barrier_from_here : FlushStep log (at_stage mid f Ending) f bytes step.Barrier
  barrier_from_here = a_barrier at (ap (λ (x : LogValue). at_stage x f Ending) h.same) h.settles

-- ---- its header

pub heads : (log : LogValue) (f : Flush) (head tail size : ℕ) (at : Place) (bytes : List ℕ) → f.stage ≡ Ending → head ≡ head_place log f → IsTail log f tail → at ≡ place_of log f tail
    → bytes ≡ log_put (header_of at head) (zeros size) → size ≡ log.journal.size → FlushStep log (at_stage log f (Headed tail)) f bytes (step.Head at.head_addr at.sequence)
heads log f head tail size at bytes ending head_is tells at_is bytes_are size_is =
    subst (λ (p : Place). FlushStep log (at_stage log f (Headed tail)) f bytes (step.Head p.head_addr p.sequence)) (sym at_is)
    (a_header tail ending tells (bytes_are ∙ (λ i. log_put (header_of (at_is i) (head_is i)) (zeros (size_is i)))) refl)
