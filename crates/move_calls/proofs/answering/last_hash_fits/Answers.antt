use Rattle.std.proofs.Common.{◌≡◌, ◌-◌, ◌<◌, ◌^◌, Some, length, slice_get, sym, subst}
use Rattle.crc_words.specs.Remainder.{crc32_of}
use Rattle.move_calls.proofs.Meant.{is_last}
use Rattle.move_calls.proofs.answering.last_hash_fits.Goals as goal

pub returns-in-Some : goal.returns-in-Some
returns-in-Some c some =
    subst (λ n. crc32_of n < 2 ^ 32)
    (is_last c.args.path.now c.in-Some.name.now (subst (λ ns. slice_get ns (length ns - 1) ≡ Some c.in-Some.name.now) c.names.ensures.names (sym c.in-Some.ensures.value))) c.hash_fits.ensures
