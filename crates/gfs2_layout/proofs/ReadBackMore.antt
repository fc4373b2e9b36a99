-- What is written is read: structures without bytes of their own, and those with a checksum.
use Rattle.std.proofs.Common.{◌≡◌, ℕ, ◌+◌, ◌-◌, ◌^◌, ◌≤◌, ◌<◌, Bool, true, false, List, length, take, drop, replicate, None, Ok, refl, sym, ap, ◌∙◌, arith, length-append}
use Rattle.std.specs.Prelude.{◌%◌, ◌==◌, if◌then◌else◌}
use Rattle.std.proofs.lemmas.Bool.Decides.{nat_tests}
use Rattle.std.proofs.lemmas.List.{drop_at, length-take-le, length-replicate}
use Rattle.std.specs.List.{AllByRecursion}
use Rattle.std.specs.Int.{w32}
use Rattle.crc_words.specs.Remainder.{crc32_of}
use Rattle.gfs2_layout.specs.Bytes.{u32_at, with_number}
use Rattle.gfs2_layout.specs.Fields.{HasItsWidth, end_of, with_fields}
use Rattle.gfs2_layout.specs.Checksum.{checksum_of, with_checksum}
use Rattle.gfs2_layout.specs.Structures.{answer, or_else, rindex_of, rindex_read, group_of, group_read, leaf_of, leaf_read, records_fault, log_of, log_read, hash_fault}
use Rattle.gfs2_layout.specs.Writing.{rindex_fields, group_fields, group_put, leaf_fields, log_fields, log_put, zeros_from}
use Rattle.gfs2_layout.specs.declared.rindex.Rindex.{Rindex}
use Rattle.gfs2_layout.specs.declared.group_header.GroupHeader.{GroupHeader}
use Rattle.gfs2_layout.specs.declared.leaf.Leaf.{Leaf}
use Rattle.gfs2_layout.specs.declared.log_header.LogHeader.{LogHeader}
use Rattle.gfs2_layout.specs.declared.fields.Number.TheVariants.{U16}
use Rattle.gfs2_layout.proofs.InPlace.{is_width_32, length-with, number-with_same, drop-with, with-again}
use Rattle.gfs2_layout.proofs.FieldsInPlace.{field-read, field-under, length-fields, drop-fields}
use Rattle.gfs2_layout.proofs.ReadBack.{no_length_fault, no_header_fault}

pub rindex_back : (r : Rindex) (bytes : List ℕ) → 96 ≤ length bytes → AllByRecursion HasItsWidth (rindex_fields r) → rindex_read (with_fields (rindex_fields r) bytes) ≡ Ok r
rindex_back r bytes long widths =
    let new = with_fields (rindex_fields r) bytes in
    let room : end_of (rindex_fields r) ≤ length bytes = omega (arith, long) in
    let at = λ (i : ℕ). field-read (rindex_fields r) i (0, U16 0) bytes room widths in
    let long_new : 96 ≤ length new = omega (arith, long, length-fields (rindex_fields r) bytes room) in
    let short = no_length_fault 96 new long_new in
    let is : rindex_of new ≡ r = λ i. record {
      address = at 0 refl i;
      length = at 1 refl i;
      data0 = at 2 refl i;
      data_blocks = at 3 refl i;
      bitbytes = at 4 refl i;
    } in
    (λ i. answer (short i) (is i))

no_records_fault : (bytes : List ℕ) → u32_at 28 bytes ≡ 1200 → records_fault bytes ≡ None
no_records_fault bytes is = rw is refl

pub leaf_back : (l : Leaf) (bytes : List ℕ) → 104 ≤ length bytes → AllByRecursion HasItsWidth (leaf_fields l) → leaf_read (with_fields (leaf_fields l) bytes) ≡ Ok l
leaf_back l bytes long widths =
    let new = with_fields (leaf_fields l) bytes in
    let room : end_of (leaf_fields l) ≤ length bytes = omega (arith, long) in
    let at = λ (i : ℕ). field-read (leaf_fields l) i (0, U16 0) bytes room widths in
    let long_new : 104 ≤ length new = omega (arith, long, length-fields (leaf_fields l) bytes room) in
    let none = no_header_fault 104 6 600 new long_new (at 0 refl) (at 1 refl) (at 2 refl) in
    let good = no_records_fault new (at 6 refl) in
    let is : leaf_of new ≡ l = λ i. record {
      depth = at 4 refl i;
      entries = at 5 refl i;
      next = at 7 refl i;
    } in
    (λ i. answer (or_else (none i) (good i)) (is i))

-- ---- with a checksum

-- the checksum of bytes in which one stands is that of those in which it does not stand yet
checksum-again : (covered at n : ℕ) (bytes : List ℕ) → at + 4 ≤ covered → covered ≤ length bytes → checksum_of covered at (with_number w32 at n bytes) ≡ checksum_of covered at bytes
unfolding checksum_of
checksum-again covered at n bytes within long = ap crc32_of (with-again w32 at n bytes is_width_32 (omega (arith, within, long)) 0 covered within long)

pub group_back : (g : GroupHeader) (bytes : List ℕ) → 128 ≤ length bytes → AllByRecursion HasItsWidth (group_fields g) → group_read (group_put g bytes) ≡ Ok g
group_back g bytes long widths =
    let laid = with_fields (group_fields g) bytes in
    let new = group_put g bytes in
    let room : end_of (group_fields g) ≤ length bytes = omega (arith, long) in
    let long_laid = length-fields (group_fields g) bytes room in
    let sum = checksum_of 128 64 laid in
    let at = λ (i : ℕ). field-under (group_fields g) i (0, U16 0) 64 sum bytes (omega arith) (omega (arith, long)) widths in
    let long_new : 128 ≤ length new = omega (arith, long, long_laid, length-with w32 64 sum laid is_width_32 (omega (arith, long, long_laid))) in
    let none = no_header_fault 128 2 200 new long_new (at 0 refl) (at 1 refl) (at 2 refl) in
    let is : group_of new ≡ g = λ i. record {
      flags = at 4 refl i;
      free = at 5 refl i;
      dinodes = at 6 refl i;
      skip = at 7 refl i;
      igeneration = at 8 refl i;
      data0 = at 9 refl i;
      data_blocks = at 10 refl i;
      bitbytes = at 11 refl i;
    } in
    (λ i. answer (none i) (is i))

pub group_behind : (g : GroupHeader) (bytes : List ℕ) → 128 ≤ length bytes → drop 128 (group_put g bytes) ≡ drop 128 bytes
group_behind g bytes long =
    let laid = with_fields (group_fields g) bytes in
    let room : end_of (group_fields g) ≤ length bytes = omega (arith, long) in
    drop-with w32 64 (checksum_of 128 64 laid) laid is_width_32 (omega (arith, long, length-fields (group_fields g) bytes room)) 128 (omega arith) ∙ drop-fields (group_fields g) bytes room 128 (omega arith)

-- ---- log headers

no_hash_fault : (bytes : List ℕ) → u32_at 44 bytes ≡ checksum_of 48 44 bytes → hash_fault bytes ≡ None
no_hash_fault bytes is = grind (arith, nat_tests, is)

flag_is : (b : Bool) → ((if b then 1 else 0) % 2 == 1) ≡ b
flag_is true = refl
flag_is false = refl

length-zeros : (at : ℕ) (bytes : List ℕ) → at ≤ length bytes → length (zeros_from at bytes) ≡ length bytes
length-zeros at bytes long = omega (arith, long, length-append (take at bytes) (replicate (length bytes - at) 0), length-take-le at bytes long, length-replicate {A = ℕ} (length bytes - at) 0)

-- a header over bytes `base`, whose checksum is a number of its width
log_over : (h : LogHeader) (base : List ℕ) → 48 ≤ length base → AllByRecursion HasItsWidth (log_fields h) → checksum_of 48 44 (with_fields (log_fields h) base) < 2 ^ 32
    → log_read (with_checksum 48 44 (with_fields (log_fields h) base)) ≡ Ok h
log_over h base long widths low =
    let laid = with_fields (log_fields h) base in
    let new = with_checksum 48 44 laid in
    let room : end_of (log_fields h) ≤ length base = omega (arith, long) in
    let long_laid = length-fields (log_fields h) base room in
    let sum = checksum_of 48 44 laid in
    let at = λ (i : ℕ). field-under (log_fields h) i (0, U16 0) 44 sum base (omega arith) (omega (arith, long)) widths in
    let fits : 48 ≤ length laid = omega (arith, long, long_laid) in
    let long_new : 48 ≤ length new = omega (arith, fits, length-with w32 44 sum laid is_width_32 (omega (arith, fits))) in
    let none = no_header_fault 48 8 800 new long_new (at 0 refl) (at 1 refl) (at 2 refl) in
    let kept = number-with_same w32 44 sum laid is_width_32 (omega (arith, fits)) low in
    let good = no_hash_fault new (kept ∙ sym (checksum-again 48 44 sum laid (omega arith) fits)) in
    let is : log_of new ≡ h = λ i. record {
      jid = at 3 refl i;
      sequence = at 4 refl i;
      clean = ((λ j. (at 5 refl j) % 2 == 1) ∙ flag_is h.clean) i;
      tail = at 6 refl i;
      blkno = at 7 refl i;
    } in
    (λ i. answer (or_else (none i) (good i)) (is i))

pub log_back : (h : LogHeader) (bytes : List ℕ) → 48 ≤ length bytes → AllByRecursion HasItsWidth (log_fields h) → checksum_of 48 44 (with_fields (log_fields h) (zeros_from 48 bytes)) < 2 ^ 32 → log_read (log_put h bytes) ≡ Ok h
log_back h bytes long widths low = log_over h (zeros_from 48 bytes) (omega (arith, long, length-zeros 48 bytes long)) widths low

pub log_behind : (h : LogHeader) (bytes : List ℕ) → 48 ≤ length bytes → drop 48 (log_put h bytes) ≡ replicate (length bytes - 48) 0
log_behind h bytes long =
    let base = zeros_from 48 bytes in
    let laid = with_fields (log_fields h) base in
    let long_base : 48 ≤ length base = omega (arith, long, length-zeros 48 bytes long) in
    let room : end_of (log_fields h) ≤ length base = omega (arith, long_base) in
    drop-with w32 44 (checksum_of 48 44 laid) laid is_width_32 (omega (arith, long_base, length-fields (log_fields h) base room)) 48 (omega arith)
    ∙ drop-fields (log_fields h) base room 48 (omega arith)
    ∙ drop_at (take 48 bytes) (replicate (length bytes - 48) 0) 48 (length-take-le 48 bytes long)
