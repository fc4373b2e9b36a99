-- How far the disk had come where it failed, in the blocks that were to be brought to it.
use Rattle.std.proofs.Common.{◌≡◌, ℕ, ◌+◌, ◌≤◌, List, ◌++◌, length, take, drop, Option, sym, ap, ◌∙◌, arith}
use Rattle.std.proofs.lemmas.List.{drop_at, length-append, length-take, take_at, take-append-le}
use Rattle.std.proofs.lemmas.List as lists
use Rattle.drafts.specs.declared.change.Written.{Written}
use Rattle.disk_turns.specs.Faults.{HasStoppedAs}
use Rattle.disk_turns.specs.Turns.{Moment, StopsAt, at_barrier, before_it, behind_it}
use Rattle.disk_turns.specs.declared.faults.TurnFault.{TurnFault}

-- no more was written than a turn has, and these were its first blocks
pub wrote_few : (some : List Written) (block : Option ℕ) (wrote flying : List Written) → StopsAt some block wrote flying → length wrote ≤ length some
wrote_few some block wrote flying (before_it i w is) = let long = length-take i some in omega (arith, long)
wrote_few some block wrote flying (behind_it i w is) = let long = length-take i some in omega (arith, long)
wrote_few some block wrote flying at_barrier = omega arith

taken : (i : ℕ) (some : List Written) → take (length (take i some)) some ≡ take i some
taken i some = ap (λ n. take n some) (length-take i some) ∙ lists.take_min i some

pub wrote_first : (some : List Written) (block : Option ℕ) (wrote flying : List Written) → StopsAt some block wrote flying → take (length wrote) some ≡ wrote
wrote_first some block wrote flying (before_it i w is) = taken i some
wrote_first some block wrote flying (behind_it i w is) = taken i some
wrote_first some block wrote flying at_barrier = lists.take_all (length some) some (omega arith)

module _ (node : ℕ) (before after : Moment) (blocks : List Written) (fault : TurnFault) (is : HasStoppedAs node before after blocks fault) where
  few : length is.stopped.stopped.wrote ≤ length is.stopped.some
  few = wrote_few is.stopped.some fault.block is.stopped.stopped.wrote is.stopped.stopped.flying is.stopped.stopped.stops

  pub within : fault.on_disk + fault.in_flight ≤ length blocks
  within =
      let all : length blocks ≡ length is.stopped.done + length (is.stopped.some ++ is.stopped.later) = ap length is.stopped.parts ∙ length-append is.stopped.done (is.stopped.some ++ is.stopped.later) in
      let rest : length (is.stopped.some ++ is.stopped.later) ≡ length is.stopped.some + length is.stopped.later = length-append is.stopped.some is.stopped.later in
      let a = is.on_disk in
      let b = is.in_flight in
      omega (arith, all, rest, few, a, b)

  pub front_is : take fault.on_disk blocks ≡ is.stopped.done
  front_is = ap (take fault.on_disk) is.stopped.parts ∙ take_at is.stopped.done (is.stopped.some ++ is.stopped.later) fault.on_disk (sym is.on_disk)

  pub behind_is : take fault.in_flight (drop fault.on_disk blocks) ≡ is.stopped.stopped.wrote
  behind_is =
      ap (take fault.in_flight) (ap (drop fault.on_disk) is.stopped.parts ∙ drop_at is.stopped.done (is.stopped.some ++ is.stopped.later) fault.on_disk (sym is.on_disk))
      ∙ ap (λ n. take n (is.stopped.some ++ is.stopped.later)) is.in_flight
      ∙ take-append-le (length is.stopped.stopped.wrote) is.stopped.some is.stopped.later few
      ∙ wrote_first is.stopped.some fault.block is.stopped.stopped.wrote is.stopped.stopped.flying is.stopped.stopped.stops
