-- What a log's steps do to the blocks that it knows of: they stay blocks of the disk.
use Rattle.std.proofs.Common.{◌≡◌, ◌<◌, ◌+◌, ℕ, ◌⊎◌, inl, inr, Bool, true, false, List, Option, None, Some, refl, sym, subst, ◌∙◌}
use Rattle.std.specs.FinMap as table
use Rattle.std.specs.Prelude.{if◌then◌else◌}
use Rattle.log_values.specs.Blocks as set
use Rattle.log_values.specs.Flushing.{Begins, FlushStep, alone, at_stage, first_place, goes_on, left_from, live_behind, logged_over, settled, with_all}
use Rattle.log_values.specs.Flushing as steps
use Rattle.log_values.specs.Log.{Entry, Flush, LogValue, Stage, Version}
use Rattle.log_values.specs.Log.Stage.{Ending, Headed, Writing}
use Rattle.log_values.specs.declared.steps.LogStep.{LogStep}
use Rattle.log_values.proofs.Landing.{none_in}
use Rattle.logged_node.specs.Nodes.{IsLogOf}

pub none_some : {A : Type 0} {a : A} → None ≡ Some a → ⊥
none_some e = cc

pub some_same : {A : Type 0} {a b : A} → Some a ≡ Some b → a ≡ b
some_same e = cc

pub was_settled : (o : Option Entry) (e : Entry) → settled o ≡ Some e → (x : Entry) × (o ≡ Some x)
was_settled None e is = absurd (none_some is)
was_settled (Some x) e is = (x, refl)

was_left : (log : LogValue) (tail : ℕ) (o : Option Entry) (e : Entry) → left_from log tail o ≡ Some e → (x : Entry) × (o ≡ Some x)
was_left log tail None e is = absurd (none_some is)
was_left log tail (Some x) e is = (x, refl)

was_kept : (t : Bool) (o : Option Entry) (e : Entry) → (if t then None else o) ≡ Some e → o ≡ Some e
was_kept true o e is = absurd (none_some is)
was_kept false o e is = is

was_logged : (v : Option Version) (first : ℕ) (o : Option Entry) (e : Entry) → logged_over v first o ≡ Some e → ((x : Version) × (v ≡ Some x)) ⊎ (o ≡ Some e)
was_logged None first o e is = inr is
was_logged (Some v) first o e is = inl (v, refl)

module _ (count : ℕ) (log : LogValue) (of : IsLogOf count log) where
  restaged : (f : Flush) (stage : Stage) → log.flush ≡ Some f → IsLogOf count (at_stage log f stage)
  restaged f stage flush = record {
    fresh = of.fresh;
    flushed = λ g b v is at. of.flushed f b v flush (subst (λ (x : Flush). table.get x.versions b ≡ Some v) (sym (some_same is)) at);
    live = of.live;
  }

  -- a flush begins
  pub blocks_begin : (m : LogValue) → Begins log m → IsLogOf count m
  blocks_begin _ (with_all none due room) = record {
    fresh = λ b v at. absurd (none_in table.empty b v refl at);
    flushed = λ g b v is at. of.fresh b v (subst (λ (x : Flush). table.get x.versions b ≡ Some v) (sym (some_same is)) at);
    live = of.live;
  }
  blocks_begin _ (alone none home some stuck) = record {
    fresh = of.fresh;
    flushed = λ g b v is at. absurd (none_in table.empty b v refl (subst (λ (x : Flush). table.get x.versions b ≡ Some v) (sym (some_same is)) at));
    live = of.live;
  }
  blocks_begin _ (goes_on f flush) = of

  -- and makes a step
  pub blocks_go_on : (new : LogValue) (f : Flush) (bytes : List ℕ) (s : LogStep) → log.flush ≡ Some f → FlushStep log new f bytes s → IsLogOf count new
  blocks_go_on new f bytes _ flush (steps.a_block k stage block new_is) = subst (IsLogOf count) (sym new_is) (restaged f (Writing (k + 1)) flush)
  blocks_go_on new f bytes _ flush (steps.a_header tail stage tells bytes_are new_is) = subst (IsLogOf count) (sym new_is) (restaged f (Headed tail) flush)
  blocks_go_on new f bytes _ flush (steps.a_barrier stage new_is lives) = subst (IsLogOf count) (sym new_is) (record {
    fresh = of.fresh;
    flushed = (restaged f Ending flush).flushed;
    live = λ b e at. let was = was_settled (table.get log.live b) e (sym (lives b) ∙ at) in of.live b was.0 was.1;
  })
  blocks_go_on new f bytes _ flush (steps.the_last tail stage new_is lives) = subst (IsLogOf count) (sym new_is) (record { fresh = of.fresh; flushed = λ g b v is at. absurd (none_some is); live = λ b e at. live b e (sym (lives b) ∙ at) })
    where
      older : (b : ℕ) (e : Entry) → (if set.contains f.revokes b then None else left_from log tail (table.get log.live b)) ≡ Some e → b < count
      older b e is =
          let was = was_left log tail (table.get log.live b) e (was_kept (set.contains f.revokes b) (left_from log tail (table.get log.live b)) e is) in
          of.live b was.0 was.1

      live : (b : ℕ) (e : Entry) → live_behind log f tail b ≡ Some e → b < count
      live b e is = elim (was_logged (table.get f.versions b) (first_place log) (if set.contains f.revokes b then None else left_from log tail (table.get log.live b)) e is) [
        | inl logged ↦ of.flushed f b logged.0 flush logged.1
        | inr was ↦ older b e was
      ]
