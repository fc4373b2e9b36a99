-- A test that computes whether a table holds what it has to, and what its yes means.
use Rattle.std.proofs.Common.{◌≡◌, ℕ, zero, suc, ◌+◌, ◌*◌, ◌<◌, Bool, true, false, ◌&&◌, ◌==◌, List, [], ◌∷◌, length, get_or, drop, take, refl, sym, ap, ◌∙◌, arith, eqb-true, get_or-drop, get_or-take, length-drop}
use Rattle.std.proofs.lemmas.Bool.{and_parts}
use Rattle.std.proofs.lemmas.List.{length-take-le}
use Rattle.crc_words.specs.Remainder.{after_bit, after_bits}
use Rattle.crc_words.specs.Table.{IsTable}
use Rattle.crc_words.specs.declared.tables.crc32.TheConstants.{CRC32_NEAR, CRC32_FAR}
use Rattle.crc_words.specs.declared.tables.crc32c.TheConstants.{CRC32C_NEAR, CRC32C_FAR}
use Rattle.crc_words.proofs.StepLemmas.{after_bits-add}

-- the numbers are what each byte from this one on is after so many steps
unfoldable pub begins : ℕ → ℕ → ℕ → List ℕ → Bool
begins polynomial steps byte [] = true
begins polynomial steps byte (x ∷ xs) = x == after_bits polynomial steps byte && begins polynomial steps (suc byte) xs

-- each number of the second list is the one at its place in the first, eight steps on
unfoldable pub follows : ℕ → List ℕ → List ℕ → Bool
follows polynomial xs [] = true
follows polynomial [] (y ∷ ys) = false
follows polynomial (x ∷ xs) (y ∷ ys) = y == after_bits polynomial 8 x && follows polynomial xs ys

unfoldable pub table_ok : ℕ → ℕ → List ℕ → Bool
table_ok polynomial delay table = length table == 2048 && (begins polynomial (8 + delay) 0 (take 256 table) && follows polynomial table (drop 256 table))

begins-at : (polynomial steps byte : ℕ) (xs : List ℕ) (i : ℕ) → begins polynomial steps byte xs ≡ true → i < length xs → get_or xs i 0 ≡ after_bits polynomial steps (byte + i)
unfolding begins
begins-at polynomial steps byte [] i ok h = absurd (omega arith)
begins-at polynomial steps byte (x ∷ xs) zero ok h =
    let parts = and_parts (x == after_bits polynomial steps byte) (begins polynomial steps (suc byte) xs) ok in
    let here : byte ≡ byte + 0 = omega arith in
    eqb-true x (after_bits polynomial steps byte) parts.0 ∙ ap (after_bits polynomial steps) here
begins-at polynomial steps byte (x ∷ xs) (suc i) ok h =
    let parts = and_parts (x == after_bits polynomial steps byte) (begins polynomial steps (suc byte) xs) ok in
    let next : suc byte + i ≡ byte + suc i = omega arith in
    begins-at polynomial steps (suc byte) xs i parts.1 (omega arith) ∙ ap (after_bits polynomial steps) next

follows-at : (polynomial : ℕ) (xs ys : List ℕ) (i : ℕ) → follows polynomial xs ys ≡ true → i < length ys → get_or ys i 0 ≡ after_bits polynomial 8 (get_or xs i 0)
unfolding follows
follows-at polynomial xs [] i ok h = absurd (omega arith)
follows-at polynomial [] (y ∷ ys) i ok h = cc
follows-at polynomial (x ∷ xs) (y ∷ ys) zero ok h =
    let parts = and_parts (y == after_bits polynomial 8 x) (follows polynomial xs ys) ok in
    eqb-true y (after_bits polynomial 8 x) parts.0
follows-at polynomial (x ∷ xs) (y ∷ ys) (suc i) ok h =
    let parts = and_parts (y == after_bits polynomial 8 x) (follows polynomial xs ys) ok in
    follows-at polynomial xs ys i parts.1 (omega arith)

module _ (polynomial delay : ℕ) (table : List ℕ) (ok : table_ok polynomial delay table ≡ true) where
  record Parts : Type 0 where
    whole : length table ≡ 2048
    first : begins polynomial (8 + delay) 0 (take 256 table) ≡ true
    later : follows polynomial table (drop 256 table) ≡ true

  parts : Parts
  unfolding table_ok
  parts =
      let halves = and_parts (length table == 2048) (begins polynomial (8 + delay) 0 (take 256 table) && follows polynomial table (drop 256 table)) ok in
      let rows = and_parts (begins polynomial (8 + delay) 0 (take 256 table)) (follows polynomial table (drop 256 table)) halves.1 in
      record { whole = eqb-true (length table) 2048 halves.0; first = rows.0; later = rows.1 }

  entry : (row byte : ℕ) → row < 8 → byte < 256 → get_or table (256 * row + byte) 0 ≡ after_bits polynomial (8 * row + 8 + delay) byte
  entry zero byte hr hb =
      let whole = parts.whole in
      let size : length (take 256 table) ≡ 256 = length-take-le 256 table (omega arith) in
      let at = begins-at polynomial (8 + delay) 0 (take 256 table) byte parts.first (omega arith) in
      let here : 0 + byte ≡ byte = omega arith in
      ap (λ i. get_or table i 0) here
      ∙ sym (get_or-take 256 table byte 0 hb)
      ∙ at
      ∙ ap (after_bits polynomial (8 + delay)) here
  entry (suc row) byte hr hb =
      let whole = parts.whole in
      let size : length (drop 256 table) ≡ 1792 = omega (arith, length-drop 256 table) in
      let place : 256 * suc row + byte ≡ 256 + (256 * row + byte) = omega arith in
      let steps : (8 * row + 8 + delay) + 8 ≡ 8 * suc row + 8 + delay = omega arith in
      ap (λ i. get_or table i 0) place
      ∙ sym (get_or-drop 256 table (256 * row + byte) 0)
      ∙ follows-at polynomial table (drop 256 table) (256 * row + byte) parts.later (omega arith)
      ∙ ap (after_bits polynomial 8) (entry row byte (omega arith) hb)
      ∙ sym (after_bits-add polynomial (8 * row + 8 + delay) 8 byte)
      ∙ ap (λ n. after_bits polynomial n byte) steps

  pub table_ok-IsTable : IsTable polynomial delay table
  table_ok-IsTable = record { entries = entry }

crc32_near_ok : table_ok 0xEDB88320 0 CRC32_NEAR ≡ true
unfolding table_ok begins follows after_bit after_bits
crc32_near_ok = refl

pub IsTable-CRC32_NEAR : IsTable 0xEDB88320 0 CRC32_NEAR
IsTable-CRC32_NEAR = table_ok-IsTable 0xEDB88320 0 CRC32_NEAR crc32_near_ok

crc32_far_ok : table_ok 0xEDB88320 192 CRC32_FAR ≡ true
unfolding table_ok begins follows after_bit after_bits
crc32_far_ok = refl

pub IsTable-CRC32_FAR : IsTable 0xEDB88320 192 CRC32_FAR
IsTable-CRC32_FAR = table_ok-IsTable 0xEDB88320 192 CRC32_FAR crc32_far_ok

crc32c_near_ok : table_ok 0x82F63B78 0 CRC32C_NEAR ≡ true
unfolding table_ok begins follows after_bit after_bits
crc32c_near_ok = refl

pub IsTable-CRC32C_NEAR : IsTable 0x82F63B78 0 CRC32C_NEAR
IsTable-CRC32C_NEAR = table_ok-IsTable 0x82F63B78 0 CRC32C_NEAR crc32c_near_ok

crc32c_far_ok : table_ok 0x82F63B78 192 CRC32C_FAR ≡ true
unfolding table_ok begins follows after_bit after_bits
crc32c_far_ok = refl

pub IsTable-CRC32C_FAR : IsTable 0x82F63B78 192 CRC32C_FAR
IsTable-CRC32C_FAR = table_ok-IsTable 0x82F63B78 192 CRC32C_FAR crc32c_far_ok
