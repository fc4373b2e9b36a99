-- A run begins on a disk at rest.
use Rattle.std.proofs.Common.{◌≡◌, List, [], ◌∷◌, refl}
use Rattle.std.specs.List.{AllByRecursion}
use Rattle.run_rules.specs.Follows.{history_of}
use Rattle.script_lang.specs.declared.script.Client.{Client}
use Rattle.trace_text.specs.declared.item.TraceItem.{TraceItem}
use Rattle.trace_text.specs.declared.item.TraceItem.TheVariants as trace
use Rattle.logged_steps.specs.Laws.{RunsBegin}
use Rattle.logged_runs.specs.Laws.{RunsBeginSo}
use Rattle.logged_runs.specs.Starts.{IsOfReplay}

-- no item of a replay is a call
pub no_calls : (clients : List Client) (replays : List TraceItem) → AllByRecursion IsOfReplay replays → history_of clients replays ≡ []
no_calls clients [] all = refl
no_calls clients (trace.Call i name number call reply ∷ xs) all = absurd all.0
no_calls clients (trace.Lost i kept ∷ xs) all = absurd all.0
no_calls clients (x ∷ xs) all = no_calls clients xs all.1

pub runs_begin_so : RunsBegin → RunsBeginSo
runs_begin_so begin disk o l t d journal head view clients list replays rest all = record {
  at = begin disk o l t d journal head view clients list (trace.Join 1 ∷ replays) rest (no_calls clients replays all);
  log = refl;
  numbers = refl;
  replays = replays;
  items = refl;
  of_replay = all;
}
