-- A checksum that stands among the bytes that it covers.
use Rattle.std.specs.Prelude.{ℕ, List, take}
use Rattle.std.specs.Int.{w32}
use Rattle.crc_words.specs.Remainder.{crc32_of}
use Rattle.gfs2_layout.specs.Bytes.{with_number}

-- the CRC-32 of so many bytes, with zero in the place of the checksum itself
unfoldable pub checksum_of : ℕ → ℕ → List ℕ → ℕ
checksum_of covered at bytes = crc32_of (with_number w32 at 0 (take covered bytes))

abbrev pub with_checksum : ℕ → ℕ → List ℕ → List ℕ
with_checksum covered at bytes = with_number w32 at (checksum_of covered at bytes) bytes
