use Rattle.std.proofs.Common.{◌≡◌, ◌≤◌, ◌+◌, ◌-◌, ◌*◌, length}
use Rattle.image_reader.specs.Bitmaps.{bits_in}
use Rattle.image_reader.specs.Reading.{image_at}
use Rattle.image_reader.proofs.groups.read_bitmap.Given as goal

abbrev pub invariant-loop-k : goal.invariant-loop-k
invariant-loop-k l = record {
  bits : l.bits.items ≡ bits_in (image_at l.image) l.group l.k;
  length : length l.bits.items ≡ l.image.size - 128 + (l.k - 1) * (l.image.size - 24);
  some : 1 ≤ l.k;
}
