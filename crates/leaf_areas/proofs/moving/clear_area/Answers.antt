use Rattle.std.proofs.Common.{◌≡◌, ◌∙◌, ℕ, length, arith}
use Rattle.leaf_areas.specs.Moving.{unused}
use Rattle.leaf_areas.proofs.Alone.{alone, unused_is}
use Rattle.leaf_areas.proofs.moving.clear_area.Goals as goal

pub returns : goal.returns
returns c =
    let n : ℕ = length c.args.area.now in
    let size : length c.write_record.new.bytes ≡ n = c.write_record.auto.bytes in
    let one = alone c.write_record.new.bytes (unused n) (c.write_record.ensures ∙ unused_is n c.requires.some) (omega (arith, size)) (omega (arith, size, c.requires.some)) (λ used. c.requires.some) in
    record { slots = one.slots; filled = one.area; size = size }
