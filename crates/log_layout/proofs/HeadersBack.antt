-- A log header of either version is read as it was written.
use Rattle.std.proofs.Common.{◌≡◌, ℕ, zero, suc, ◌+◌, ◌-◌, ◌^◌, ◌≤◌, ◌<◌, List, [], ◌∷◌, ◌++◌, length, take, drop, replicate, Option, None, Some, Ok, refl, sym, ap, ◌∙◌, arith, length-drop}
use Rattle.std.specs.Prelude.{IfSome}
use Rattle.std.specs.List.{All, AllByRecursion}
use Rattle.std.specs.Int.{w32, w64, to_be_bytes}
use Rattle.std.proofs.lemmas.List.Elements.{recursion_from_All}
use Rattle.gfs2_layout.specs.Bytes.{put_at, with_number}
use Rattle.gfs2_layout.specs.Checksum.{checksum_of}
use Rattle.gfs2_layout.specs.Fields.{with_fields as with_front_fields}
use Rattle.gfs2_layout.specs.Laws.{StructuresReadBack}
use Rattle.gfs2_layout.specs.Structures.{log_read as front_read}
use Rattle.gfs2_layout.specs.Writing.{log_fields, zeros_from}
use Rattle.gfs2_layout.specs.Writing.{log_put as front_put}
use Rattle.gfs2_layout.specs.declared.log_header.LogHeader.{LogHeader as Front}
use Rattle.log_layout.specs.Fields.{Field, Four, Eight, HaveWidths, with_fields}
use Rattle.log_layout.specs.Headers.{crc_of, front_of, later_fields, later_put, log_put, log_read, as_read}
use Rattle.log_layout.specs.Laws.{HasWidths, HeadersReadBack}
use Rattle.log_layout.specs.declared.log_header.Later.{Later}
use Rattle.log_layout.specs.declared.log_header.LogHeader.{LogHeader}
use Rattle.log_layout.proofs.CrcFits.{crc32c-fits}
use Rattle.gfs2_layout.proofs.InPlace.{is_width_32, length-with, drop-with}
use Rattle.log_layout.proofs.HeaderBack.{later_back, plain_back, plain_behind}
use Rattle.log_layout.proofs.InPlace.{EndWithin, length-fields, drop-fields}

-- ---- bytes stay bytes

abbrev AreBytes : List ℕ → Type 0
AreBytes xs = AllByRecursion (λ b. b < 256) xs

bytes_append : (xs ys : List ℕ) → AreBytes xs → AreBytes ys → AreBytes (xs ++ ys)
bytes_append [] ys a b = b
bytes_append (x ∷ xs) ys a b = (a.0, bytes_append xs ys a.1 b)

bytes_take : (n : ℕ) (xs : List ℕ) → AreBytes xs → AreBytes (take n xs)
bytes_take zero xs a = tt
bytes_take (suc n) [] a = tt
bytes_take (suc n) (x ∷ xs) a = (a.0, bytes_take n xs a.1)

bytes_drop : (n : ℕ) (xs : List ℕ) → AreBytes xs → AreBytes (drop n xs)
bytes_drop zero xs a = a
bytes_drop (suc n) [] a = tt
bytes_drop (suc n) (x ∷ xs) a = bytes_drop n xs a.1

bytes_zeros : (n : ℕ) → AreBytes (replicate n 0)
bytes_zeros zero = tt
bytes_zeros (suc n) = (omega arith, bytes_zeros n)

bytes_put : (at : ℕ) (part xs : List ℕ) → AreBytes part → AreBytes xs → AreBytes (put_at at part xs)
bytes_put at part xs a b = bytes_append (take at xs) (part ++ drop (at + length part) xs) (bytes_take at xs b) (bytes_append part (drop (at + length part) xs) a (bytes_drop (at + length part) xs b))

with_32 : (at n : ℕ) (xs : List ℕ) → AreBytes xs → AreBytes (with_number w32 at n xs)
unfolding with_number
with_32 at n xs a = bytes_put at (to_be_bytes w32 n) xs (omega arith, (omega arith, (omega arith, (omega arith, tt)))) a

with_64 : (at n : ℕ) (xs : List ℕ) → AreBytes xs → AreBytes (with_number w64 at n xs)
unfolding with_number
with_64 at n xs a = bytes_put at (to_be_bytes w64 n) xs (omega arith, (omega arith, (omega arith, (omega arith, (omega arith, (omega arith, (omega arith, (omega arith, tt)))))))) a

fields_bytes : (fs : List Field) (xs : List ℕ) → AreBytes xs → AreBytes (with_fields fs xs)
unfolding with_fields
fields_bytes [] xs a = a
fields_bytes (Four at n ∷ fs) xs a = fields_bytes fs (with_number w32 at n xs) (with_32 at n xs a)
fields_bytes (Eight at n ∷ fs) xs a = fields_bytes fs (with_number w64 at n xs) (with_64 at n xs a)

front_bytes : (f : Front) (bytes : List ℕ) → AreBytes bytes → AreBytes (front_put f bytes)
unfolding with_front_fields
front_bytes f bytes all =
    with_32 44 (checksum_of 48 44 (with_front_fields (log_fields f) (zeros_from 48 bytes))) (with_front_fields (log_fields f) (zeros_from 48 bytes))
    (with_32 40 _ _ (with_32 36 _ _ (with_32 32 _ _ (with_64 24 _ _ (with_32 20 _ _ (with_32 16 _ _ (with_32 4 _ _ (with_32 0 _ _ base))))))))
  where
    base : AreBytes (zeros_from 48 bytes)
    base = bytes_append (take 48 bytes) (replicate (length bytes - 48) 0) (bytes_take 48 bytes all) (bytes_zeros (length bytes - 48))

-- ---- a header of either version

module _ (given : StructuresReadBack) (h : LogHeader) (bytes : List ℕ) (long : 120 ≤ length bytes) where
  abbrev base : List ℕ
  base = front_put (front_of h) bytes

  base_long : length base ≡ length bytes
  base_long = given.log.as_long (front_of h) bytes (omega (arith, long)) tt

  room : 120 ≤ length base
  room = omega (arith, long, base_long)

  zeros : drop 48 base ≡ replicate (length base - 48) 0
  zeros = given.log.behind (front_of h) bytes (omega (arith, long)) tt ∙ ap (λ n. replicate n 0) (length-drop 48 bytes ∙ ap (λ n. n - 48) (sym base_long))

  module _ (all : All (λ byte. byte < 256) bytes) (widths : HasWidths h) where
    is : AreBytes base
    is = front_bytes (front_of h) bytes (recursion_from_All (λ byte. byte < 256) bytes all)

    low : (l : Later) → crc_of (with_fields (later_fields l) base) < 2 ^ 32
    unfolding crc_of
    low l = crc32c-fits (drop 52 (with_fields (later_fields l) base)) (bytes_drop 52 (with_fields (later_fields l) base) (fields_bytes (later_fields l) base is))

    pub back : log_read (log_put h bytes) ≡ Ok (as_read h (log_put h bytes))
    back = each h.later refl widths.later
      where
        front : front_read base ≡ Ok (front_of h)
        front = given.log.back (front_of h) bytes (omega (arith, long)) all tt widths.front

        each : (o : Option Later) → h.later ≡ o → IfSome o (λ (l : Later). HaveWidths (later_fields l)) → log_read (later_put o base) ≡ Ok (as_read h (later_put o base))
        each None e fit = plain_back h base room front zeros
        each (Some l) e fit = later_back h l base room front e fit (low l)

  ends : (l : Later) → EndWithin (later_fields l) (length base)
  ends l =
      let far : 120 ≤ length base = room in
      (omega (arith, far), (omega (arith, far), (omega (arith, far), (omega (arith, far), (omega (arith, far), (omega (arith, far), (omega (arith, far), (omega (arith, far), (omega (arith, far), tt)))))))))

  fields_long : (l : Later) → length (with_fields (later_fields l) base) ≡ length base
  fields_long l = length-fields (later_fields l) base (ends l)

  fits : (l : Later) → 48 + 4 ≤ length (with_fields (later_fields l) base)
  fits l = omega (arith, room, fields_long l)

  pub as_long : length (log_put h bytes) ≡ length bytes
  as_long = each h.later ∙ base_long
    where
      each : (o : Option Later) → length (later_put o base) ≡ length base
      each None = refl
      each (Some l) = length-with w32 48 (crc_of (with_fields (later_fields l) base)) (with_fields (later_fields l) base) is_width_32 (fits l) ∙ fields_long l

  pub behind : drop 120 (log_put h bytes) ≡ replicate (length bytes - 120) 0
  behind = each h.later ∙ plain_behind base zeros ∙ ap (λ n. replicate (n - 120) 0) base_long
    where
      each : (o : Option Later) → drop 120 (later_put o base) ≡ drop 120 base
      each None = refl
      each (Some l) =
          drop-with w32 48 (crc_of (with_fields (later_fields l) base)) (with_fields (later_fields l) base) is_width_32 (fits l) 120 (omega arith)
          ∙ drop-fields (later_fields l) base 120 (ends l) (omega arith, (omega arith, (omega arith, (omega arith, (omega arith, (omega arith, (omega arith, (omega arith, (omega arith, tt)))))))))

pub headers_back : StructuresReadBack → HeadersReadBack
headers_back given = record {
  back = λ h bytes long all widths. back given h bytes long all widths;
  as_long = λ h bytes long. as_long given h bytes long;
  behind = λ h bytes long. behind given h bytes long;
}
