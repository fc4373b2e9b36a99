-- A run whose replays were whole is one of those of which whole runs tell.
use Rattle.std.proofs.Common.{◌≡◌, ℕ, ◌≤◌, ◌++◌, List, Option, None, Some, refl, sym, ap, subst, ◌∙◌, inl, inr}
use Rattle.disk_items.specs.Deeds.{AreToldButOne, but_one, each}
use Rattle.disk_turns.specs.Turns.{Moment}
use Rattle.file_tree.specs.Tree.{Tree}
use Rattle.image_mount.specs.Mounted.{Journal, MountedValue}
use Rattle.image_recovery.specs.Ended.{head_left}
use Rattle.image_recovery.specs.Recoveries.{HaveReplayed}
use Rattle.logged_scripts.specs.Points.{Point}
use Rattle.logged_scripts.specs.StepStarts.{IsAtRest, starting}
use Rattle.logged_scripts.specs.Runs.{GoesTo}
use Rattle.mounted_views.specs.Views.{view_of}
use Rattle.peer_replay.specs.declared.planned.Plan.{Plan}
use Rattle.profile_limits.specs.Limits.{most_frames}
use Rattle.script_lang.specs.Script.{ScriptValue}
use Rattle.script_lang.specs.declared.script.Client.{Client}
use Rattle.shared_disk.specs.Disk.{Gains, IsSound, Operation}
use Rattle.trace_text.specs.declared.item.TraceItem.{TraceItem}
use Rattle.logged_scripts.specs.Resting.{ReplayedIsAtRest, RestsAsMounted}
use Rattle.logged_scripts.specs.WholeRunsStarts.{IsStart, joined}
use Rattle.logged_scripts.specs.Wholes.{IsRun}
use Rattle.logged_scripts.proofs.Replaying.{same_size}
use Rattle.lone_runs.specs.Beginning.{IsOwn, its_head, start_point}

-- ---- a list that is told

pub gained_of : (o : Option (List Operation)) (all ops : List Operation) → Gains o (Some all) ops → (was : List Operation) × (o ≡ Some was) × (all ≡ was ++ ops)
gained_of o all ops gains = by o gains
  where
    by : (o : Option (List Operation)) → Gains o (Some all) ops → (was : List Operation) × (o ≡ Some was) × (all ≡ was ++ ops)
    by None gains = elim gains [ ]
    by (Some was) gains = (was, refl, gains)

-- of a list that gained what items tell it is known what it gained
pub told_gain : (node : ℕ) (before after : Option (List Operation)) (items : List TraceItem) (was : List Operation) → AreToldButOne node before after items → before ≡ Some was → (all : List Operation) → after ≡ Some all
    → (operations : List Operation) × (all ≡ was ++ operations)
told_gain node before after items was (each told) first all last =
    (told.0, gain told.0 told.2)
  where
    gain : (operations : List Operation) → Gains before after operations → all ≡ was ++ operations
    gain operations gains = subst (λ o. Gains (Some was) o operations) last (subst (λ o. Gains o after operations) first gains)
told_gain node before after items was (but_one operations block bytes done gains) first all last =
    (_, gain _ gains)
  where
    gain : (operations : List Operation) → Gains before after operations → all ≡ was ++ operations
    gain operations gains = subst (λ o. Gains (Some was) o operations) last (subst (λ o. Gains o after operations) first gains)

-- ---- the run

module _ (resting : ReplayedIsAtRest) (s : ScriptValue) (time frames : ℕ) (before replayed : Moment) (m : MountedValue) (plans : List Plan) (start : Tree) (own : Journal) (plan : Plan) (begun : List TraceItem)
    (from : IsStart before.disk m plans time start) (is_own : IsOwn m.journals plans own plan) (have : HaveReplayed 1 time before replayed m.journals plans joined begun) (sound : IsSound replayed.disk) (few : frames ≤ most_frames)
    (count : ℕ) (p q : Point) where
  abbrev pub a : Point
  a = start_point replayed (view_of before.disk.size m) own plan time frames begun

  pub rests : RestsAsMounted replayed m own plans before.disk.size frames time start from.mounted.layout
  rests = resting before replayed m plans time start begun own frames from have sound is_own.journal few

  pub size_is : replayed.disk.size ≡ before.disk.size
  size_is = same_size 1 time before replayed m.journals plans have.added have.replays

  pub head_is : rests.head ≡ its_head replayed.disk.size time own plan
  head_is = rests.left plan is_own.planned ∙ ap (λ n. head_left n 1 time own plan.clean own.head) (sym size_is)

  module _ (goes : GoesTo s time a count p q) where
    abbrev pub is_run : (clients : List Client) → IsRun clients before m plans time start rests.owners rests.layout own.dinode a p q
    is_run clients = record {
      from = from;
      replays = have;
      journal = a.log.journal;
      head = rests.head;
      view = view_of before.disk.size m;
      rest = subst (λ n. IsAtRest replayed.disk rests.owners rests.layout start own.dinode a.log.journal rests.head (view_of n m)) size_is rests.rest;
      begins = λ i. starting replayed.disk replayed.list a.log.journal (sym head_is i) (view_of before.disk.size m) begun;
      steps = goes.steps;
      last = elim goes.goes [ inl fails ↦ inl fails | inr ends ↦ inr (ends.1, ends.2) ];
    }
