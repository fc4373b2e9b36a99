-- A clean header is read from its block as it was written, where its numbers have their widths.
use Rattle.std.proofs.Common.{◌≡◌, ◌≤◌, ◌<◌, ◌-◌, ◌^◌, ℕ, Bool, true, false, List, length, get_or, replicate, Some, arith}
use Rattle.std.specs.Prelude.{if◌then◌else◌}
use Rattle.std.proofs.lemmas.List.{length-replicate}
use Rattle.std.proofs.lemmas.List.Elements.{All-replicate}
use Rattle.gfs2_layout.specs.Device.{IsBlockSize}
use Rattle.image_model.proofs.Lengths.{size_large}
use Rattle.journal_replays.specs.Headers.{IsHeaderRead, filled}
use Rattle.log_layout.specs.Laws.{HasWidths, HeadersReadBack}
use Rattle.log_layout.specs.declared.log_header.LogHeader.{LogHeader}

flag_low : (clean : Bool) → (if clean then 1 else 0) < 2 ^ 32
flag_low true = omega arith
flag_low false = omega arith

pub header_read : HeadersReadBack → (size slot dinode : ℕ) (blocks : List ℕ) (time : ℕ) (h : LogHeader) → IsBlockSize size → slot < 2 ^ 8 → dinode < 2 ^ 64 → time < 2 ^ 64 → h.sequence < 2 ^ 64 → h.tail < 2 ^ 32 → h.blkno < 2 ^ 32
    → get_or blocks h.blkno 0 < 2 ^ 64 → IsHeaderRead size slot dinode blocks time (Some h)
header_read given size slot dinode blocks time h sized slot_low dinode_low time_low sequence_low tail_low place_low block_low =
    given.back (filled (get_or blocks h.blkno 0) slot dinode time h) (replicate size 0) (let large : 512 ≤ size = size_large size sized in let long = length-replicate {A = ℕ} size 0 in omega (arith, large, long))
    (All-replicate (λ byte. byte < 256) size 0 (omega arith)) widths
  where
    number_low : slot - 1 < 2 ^ 32
    number_low = omega (arith, slot_low)

    widths : HasWidths (filled (get_or blocks h.blkno 0) slot dinode time h)
    widths = record {
      front = (omega arith, (omega arith, (omega arith, (number_low, (sequence_low, (flag_low h.clean, (tail_low, (place_low, tt))))))));
      later = (omega arith, (time_low, (block_low, (dinode_low, (omega arith, (omega arith, (omega arith, (omega arith, (omega arith, tt)))))))));
    }
