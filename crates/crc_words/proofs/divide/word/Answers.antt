-- The eight bytes as one number, a byte at a time.
use Rattle.std.proofs.Common.{ℕ, ◌+◌, refl, arith}
use Rattle.crc_words.proofs.WordLemmas.{text_number-at, text_number-none}
use Rattle.crc_words.proofs.divide.word.Goals as goal

pub returns : goal.returns
returns c =
    let bytes = c.args.bytes.now in
    let at = c.args.at in
    let small = λ (i : ℕ). (c.type_inv.bytes i).fits in
    let b0 = text_number-at bytes at (at + 1) 7 refl (omega arith) (small at) in
    let b1 = text_number-at bytes (at + 1) (at + 2) 6 (omega arith) (omega arith) (small (at + 1)) in
    let b2 = text_number-at bytes (at + 2) (at + 3) 5 (omega arith) (omega arith) (small (at + 2)) in
    let b3 = text_number-at bytes (at + 3) (at + 4) 4 (omega arith) (omega arith) (small (at + 3)) in
    let b4 = text_number-at bytes (at + 4) (at + 5) 3 (omega arith) (omega arith) (small (at + 4)) in
    let b5 = text_number-at bytes (at + 5) (at + 6) 2 (omega arith) (omega arith) (small (at + 5)) in
    let b6 = text_number-at bytes (at + 6) (at + 7) 1 (omega arith) (omega arith) (small (at + 6)) in
    let b7 = text_number-at bytes (at + 7) (at + 8) 0 (omega arith) (omega arith) (small (at + 7)) in
    let none = text_number-none bytes (at + 8) in
    omega (arith, c.from_le_bytes.ensures)
