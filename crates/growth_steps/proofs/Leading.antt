-- A dinode's block with one pointer behind the dinode, or none.
use Rattle.std.proofs.Common.{◌≡◌, ℕ, ◌+◌, ◌-◌, ◌*◌, ◌^◌, ◌<◌, ◌≤◌, List, length, take, drop, Ok, ◌∙◌, arith}
use Rattle.std.proofs.lemmas.List.{length-take, length-append, length-replicate, drop_at}
use Rattle.std.specs.Prelude.{replicate}
use Rattle.gfs2_layout.specs.Bytes.{u64_at}
use Rattle.gfs2_layout.specs.Structures.{dinode_length, dinode_read}
use Rattle.gfs2_layout.specs.Writing.{zeros_from}
use Rattle.gfs2_layout.specs.declared.dinode.Dinode.{Dinode}
use Rattle.growth_laws.specs.Blocks.{with_pointer}
use Rattle.growth_laws.proofs.Numbers.{numbers_behind_are_the_same, zeros_are_no_number}
use Rattle.growth_laws.proofs.Pointing.{read_put, other_put}
use Rattle.growth_steps.specs.Heights.{IsLedBlock}

-- zeros from a place on
pub zeros_length : (at : ℕ) (bytes : List ℕ) → at ≤ length bytes → length (zeros_from at bytes) ≡ length bytes
zeros_length at bytes fits = omega (arith, fits, length-append (take at bytes) (replicate (length bytes - at) 0), length-take at bytes, length-replicate {A = ℕ} (length bytes - at) 0)

pub zeros_behind : (at : ℕ) (bytes : List ℕ) → at ≤ length bytes → drop at (zeros_from at bytes) ≡ replicate (length bytes - at) 0
zeros_behind at bytes fits = drop_at (take at bytes) (replicate (length bytes - at) 0) at (omega (arith, fits, length-take at bytes))

-- no number stands there
no_number : (bytes : List ℕ) (i : ℕ) → dinode_length ≤ length bytes → u64_at (dinode_length + i) (zeros_from dinode_length bytes) ≡ 0
no_number bytes i fits = zeros_are_no_number (zeros_from dinode_length bytes) dinode_length i (length bytes - dinode_length) (zeros_behind dinode_length bytes fits)

pub led_block : (d : Dinode) (to : ℕ) (old new : List ℕ) → dinode_length + 8 ≤ length old → to < 2 ^ 64 → dinode_read new ≡ Ok d → length new ≡ length old
    → drop dinode_length new ≡ drop dinode_length (with_pointer dinode_length 0 to (zeros_from dinode_length old)) → IsLedBlock (length old) d to new
led_block d to old new fits low read long behind = record {
  whole = long;
  read = read;
  first = number 0 ∙ read_put (zeros_from dinode_length old) dinode_length 0 to room low;
  rest = λ j other. number (8 * j) ∙ other_put (zeros_from dinode_length old) dinode_length 0 to room j other ∙ no_number old (8 * j) (omega (arith, fits));
}
  where
    room : dinode_length + 8 * 0 + 8 ≤ length (zeros_from dinode_length old)
    room = omega (arith, fits, zeros_length dinode_length old (omega (arith, fits)))

    number : (i : ℕ) → u64_at (dinode_length + i) new ≡ u64_at (dinode_length + i) (with_pointer dinode_length 0 to (zeros_from dinode_length old))
    number i = numbers_behind_are_the_same new (with_pointer dinode_length 0 to (zeros_from dinode_length old)) dinode_length dinode_length i behind

pub bare_block : (d : Dinode) (old new : List ℕ) → dinode_length ≤ length old → dinode_read new ≡ Ok d → length new ≡ length old
    → drop dinode_length new ≡ drop dinode_length (zeros_from dinode_length old) → IsLedBlock (length old) d 0 new
bare_block d old new fits read long behind = record { whole = long; read = read; first = number 0; rest = λ j other. number (8 * j) }
  where
    number : (i : ℕ) → u64_at (dinode_length + i) new ≡ 0
    number i = numbers_behind_are_the_same new (zeros_from dinode_length old) dinode_length dinode_length i behind ∙ no_number old i fits
