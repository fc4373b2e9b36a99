use Rattle.std.proofs.Common.{◌≡◌, ◌-◌}
use Rattle.crc_words.specs.Remainder.{after_bits}
use Rattle.crc_words.proofs.plain.after_eight_bits.Given as goal

abbrev pub invariant-loop : goal.invariant-loop
invariant-loop l = after_bits l.polynomial (8 - l.counter) l.state ≡ after_bits l.polynomial 8 l.fn.state
