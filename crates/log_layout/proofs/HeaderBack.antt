-- A log header is read as it was written.
use Rattle.std.proofs.Common.{◌≡◌, ℕ, ◌+◌, ◌-◌, ◌^◌, ◌≤◌, ◌<◌, Bool, true, false, List, length, take, drop, replicate, None, Some, Result, Ok, Err, refl, sym, ap, ◌∙◌, inl, inr, arith}
use Rattle.std.specs.Prelude.{◌==◌, nat_lt, if◌then◌else◌}
use Rattle.std.proofs.lemmas.Bool.{cond-true, cond-false}
use Rattle.std.proofs.lemmas.Bool.Decides.{nat_tests}
use Rattle.std.proofs.lemmas.List.{take-replicate, drop-drop, drop-replicate}
use Rattle.std.specs.Int.{w32, w64, from_be_bytes}
use Rattle.crc_words.specs.Remainder.{crc32c_raw_of}
use Rattle.gfs2_layout.specs.Bytes.{u32_at, number_at}
use Rattle.gfs2_layout.specs.Structures.{answer}
use Rattle.gfs2_layout.specs.Structures.{log_read as front_read}
use Rattle.gfs2_layout.specs.declared.fault.LayoutFault.{LayoutFault}
use Rattle.gfs2_layout.specs.declared.fault.LayoutFault.TheVariants.{Short}
use Rattle.gfs2_layout.specs.declared.log_header.LogHeader.{LogHeader as Front}
use Rattle.gfs2_layout.proofs.InPlace.{is_width_32, length-with, number-with_same, slice-with_other, number-with_other, drop-with}
use Rattle.gfs2_layout.proofs.ReadOwn.{log_reads}
use Rattle.log_layout.specs.Fields.{Four, HaveWidths, with_fields}
use Rattle.log_layout.specs.Headers.{crc_of, crc_fault, later_in, with_later, read_behind, log_read, front_of, later_fields, with_crc, as_read}
use Rattle.log_layout.specs.declared.log_header.Later.{Later}
use Rattle.log_layout.specs.declared.log_header.LogHeader.{LogHeader}
use Rattle.log_layout.proofs.InPlace.{EndWithin, length-fields, slice-fields_other, drop-fields, field-read}

-- a long enough block is read by its front and then by what is behind it
pub long_read : (front : Front) (bytes : List ℕ) → 120 ≤ length bytes → front_read bytes ≡ Ok front → log_read bytes ≡ read_behind (Ok front) bytes
long_read front bytes long is =
    let not_short : nat_lt (length bytes) 120 ≡ false = grind (arith, nat_tests, long) in
    cond-false (nat_lt (length bytes) 120) (Err Short) (read_behind (front_read bytes) bytes) not_short ∙ ap (λ (r : Result Front LayoutFault). read_behind r bytes) is

right_crc : (bytes : List ℕ) → u32_at 48 bytes ≡ crc_of bytes → crc_fault bytes ≡ None
right_crc bytes is = grind (arith, nat_tests, is)

no_crc : (bytes : List ℕ) → u32_at 48 bytes ≡ 0 → crc_fault bytes ≡ None
no_crc bytes is = grind (arith, nat_tests, is)

told : (h : LogHeader) (later : Later) (b : Bool) → h.later ≡ Some later → with_later (front_of h) (if b then None else Some later) ≡ (if b then record h { later = None } else h)
told h later true e = refl
told h later false e = λ i. record { jid = h.jid; sequence = h.sequence; clean = h.clean; tail = h.tail; blkno = h.blkno; later = (sym e) i }

zeros_on : (base : List ℕ) → drop 48 base ≡ replicate (length base - 48) 0 → drop 120 base ≡ replicate (length base - 120) 0
zeros_on base zeros =
    let less : (length base - 48) - 72 ≡ length base - 120 = omega arith in
    sym (drop-drop 72 48 base) ∙ ap (drop 72) zeros ∙ drop-replicate 72 (length base - 48) 0 ∙ ap (λ n. replicate n 0) less

module _ (h : LogHeader) (l : Later) (base : List ℕ) (long : 120 ≤ length base) (is : front_read base ≡ Ok (front_of h)) (has : h.later ≡ Some l)
    (widths : HaveWidths (later_fields l)) (low : crc_of (with_fields (later_fields l) base) < 2 ^ 32) where
  room : EndWithin (later_fields l) (length base)
  room = (omega (arith, long), (omega (arith, long), (omega (arith, long), (omega (arith, long), (omega (arith, long), (omega (arith, long), (omega (arith, long), (omega (arith, long), (omega (arith, long), tt)))))))))

  as_long : length (with_fields (later_fields l) base) ≡ length base
  as_long = length-fields (later_fields l) base room

  fits : 48 + 4 ≤ length (with_fields (later_fields l) base)
  fits = omega (arith, long, as_long)

  abbrev new : List ℕ
  new = with_crc (with_fields (later_fields l) base)

  pub later_long : length new ≡ length base
  later_long = length-with w32 48 (crc_of (with_fields (later_fields l) base)) (with_fields (later_fields l) base) is_width_32 fits ∙ as_long

  front_same : take 48 new ≡ take 48 base
  front_same = slice-with_other w32 48 (crc_of (with_fields (later_fields l) base)) (with_fields (later_fields l) base) is_width_32 fits 0 48 (inr (omega arith))
      ∙ slice-fields_other (later_fields l) base room 0 48 refl

  kept : u32_at 48 new ≡ crc_of (with_fields (later_fields l) base)
  kept = number-with_same w32 48 (crc_of (with_fields (later_fields l) base)) (with_fields (later_fields l) base) is_width_32 fits low

  computed : crc_of new ≡ crc_of (with_fields (later_fields l) base)
  unfolding crc_of
  computed = ap crc32c_raw_of (drop-with w32 48 (crc_of (with_fields (later_fields l) base)) (with_fields (later_fields l) base) is_width_32 fits 52 (omega arith))

  later_same : later_in new ≡ l
  later_same =
      let under32 = λ (k : ℕ) (apart : 48 + 4 ≤ k). number-with_other w32 48 (crc_of (with_fields (later_fields l) base)) (with_fields (later_fields l) base) is_width_32 fits w32 k (inl apart) in
      let under64 = λ (k : ℕ) (apart : 48 + 4 ≤ k). number-with_other w32 48 (crc_of (with_fields (later_fields l) base)) (with_fields (later_fields l) base) is_width_32 fits w64 k (inl apart) in
      let at = λ (i : ℕ). field-read (later_fields l) i (Four 0 0) base room widths in
      λ i. record {
        nsec = (under32 52 (omega arith) ∙ at 0 refl) i;
        sec = (under64 56 (omega arith) ∙ at 1 refl) i;
        addr = (under64 64 (omega arith) ∙ at 2 refl) i;
        jinode = (under64 72 (omega arith) ∙ at 3 refl) i;
        statfs_addr = (under64 80 (omega arith) ∙ at 4 refl) i;
        quota_addr = (under64 88 (omega arith) ∙ at 5 refl) i;
        local_total = (under64 96 (omega arith) ∙ at 6 refl) i;
        local_free = (under64 104 (omega arith) ∙ at 7 refl) i;
        local_dinodes = (under64 112 (omega arith) ∙ at 8 refl) i;
      }

  pub later_back : log_read new ≡ Ok (as_read h new)
  later_back =
      let long_new : 120 ≤ length new = omega (arith, long, later_long) in
      let long_48 : 48 ≤ length new = omega (arith, long, later_long) in
      let base_48 : 48 ≤ length base = omega (arith, long) in
      long_read (front_of h) new long_new (log_reads new base long_48 base_48 front_same ∙ is)
      ∙ (λ i. answer (right_crc new (kept ∙ sym computed) i) (with_later (front_of h) (if u32_at 48 new == 0 then None else Some (later_same i))))
      ∙ ap Ok (told h l (u32_at 48 new == 0) has)

  pub later_behind : drop 48 base ≡ replicate (length base - 48) 0 → drop 120 new ≡ replicate (length base - 120) 0
  later_behind zeros =
      drop-with w32 48 (crc_of (with_fields (later_fields l) base)) (with_fields (later_fields l) base) is_width_32 fits 120 (omega arith)
      ∙ drop-fields (later_fields l) base 120 room (omega arith, (omega arith, (omega arith, (omega arith, (omega arith, (omega arith, (omega arith, (omega arith, (omega arith, tt)))))))))
      ∙ zeros_on base zeros

-- zeros behind the hash say version 1
no_later : (bytes : List ℕ) → 120 ≤ length bytes → drop 48 bytes ≡ replicate (length bytes - 48) 0 → u32_at 48 bytes ≡ 0
unfolding number_at
no_later bytes long zeros = ap (λ z. from_be_bytes w32 (take 4 z)) zeros ∙ ap (from_be_bytes w32) (take-replicate 4 (length bytes - 48) 0 (omega (arith, long)))

pub plain_back : (h : LogHeader) (bytes : List ℕ) → 120 ≤ length bytes → front_read bytes ≡ Ok (front_of h) → drop 48 bytes ≡ replicate (length bytes - 48) 0 → log_read bytes ≡ Ok (as_read h bytes)
plain_back h bytes long is zeros =
    let none = no_later bytes long zeros in
    let zero : (u32_at 48 bytes == 0) ≡ true = ap (λ n. n == 0) none in
    long_read (front_of h) bytes long is
    ∙ (λ i. answer (no_crc bytes none i) (with_later (front_of h) (if zero i then None else Some (later_in bytes))))
    ∙ ap Ok (sym (cond-true (u32_at 48 bytes == 0) (record h { later = None }) h zero))

pub plain_behind : (bytes : List ℕ) → drop 48 bytes ≡ replicate (length bytes - 48) 0 → drop 120 bytes ≡ replicate (length bytes - 120) 0
plain_behind bytes zeros = zeros_on bytes zeros
