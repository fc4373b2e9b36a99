-- What an item says of a life, of a head, and of calls.
use Rattle.std.specs.Prelude.{ℕ, ◌==◌, Bool, false, Option, None, Some}
use Rattle.run_rules.specs.Lives.{Unnamed}
use Rattle.trace_text.specs.declared.item.TraceItem.{TraceItem}
use Rattle.trace_text.specs.declared.item.TraceItem.TheVariants as trace
use Rattle.lost_calls.specs.declared.upto.Tally.{Tally}

-- node 1 crashes, or withdraws
abbrev pub ends_life : TraceItem → Bool
ends_life (trace.Crash node) = node == 1
ends_life (trace.Withdraw node before after) = node == 1
ends_life _ = false

-- what was found, or what comes behind it
abbrev pub found_before : Option ℕ → Option ℕ → Option ℕ
found_before None later = later
found_before (Some number) later = Some number

abbrev pub tally_in : Tally → Unnamed
tally_in t = record { upto = t.upto; is_logged = t.is_logged; last = t.last }
