-- What is written is read.
use Rattle.std.proofs.Common.{◌≡◌, ℕ, ◌+◌, ◌≤◌, List, length, drop, None, Ok, refl, sym, subst, ◌∙◌, arith}
use Rattle.std.proofs.lemmas.Bool.Decides.{nat_tests}
use Rattle.std.specs.List.{AllByRecursion}
use Rattle.gfs2_layout.specs.Bytes.{slice, put_at, u32_at}
use Rattle.gfs2_layout.specs.Fields.{HasItsWidth, end_of, with_fields}
use Rattle.gfs2_layout.specs.Structures.{magic, answer, or_else, length_fault, magic_fault, header_fault, header_of, header_read, kind_fault, dirent_of, dirent_read, dinode_of, dinode_read, superblock_of, superblock_read}
use Rattle.gfs2_layout.specs.Writing.{header_fields, dirent_fields, dinode_fields, superblock_fields, texts_put}
use Rattle.gfs2_layout.specs.declared.header.MetaHeader.{MetaHeader}
use Rattle.gfs2_layout.specs.declared.dirent.Dirent.{Dirent}
use Rattle.gfs2_layout.specs.declared.dinode.Dinode.{Dinode}
use Rattle.gfs2_layout.specs.declared.fields.Number.TheVariants.{U16}
use Rattle.gfs2_layout.proofs.FieldsInPlace.{field-read, length-fields, slice-fields_other}
use Rattle.gfs2_layout.proofs.InPlace.{slice-put_same, slice-put_before, drop-put, length-put}
use Rattle.gfs2_layout.specs.declared.superblock.SuperBlock.{SuperBlock}

pub no_length_fault : (needed : ℕ) (bytes : List ℕ) → needed ≤ length bytes → length_fault needed bytes ≡ None
no_length_fault needed bytes long = grind (arith, nat_tests)

no_magic_fault : (bytes : List ℕ) → u32_at 0 bytes ≡ magic → magic_fault bytes ≡ None
no_magic_fault bytes is = rw is refl

pub no_header_fault : (needed kind format : ℕ) (bytes : List ℕ) → needed ≤ length bytes → u32_at 0 bytes ≡ magic → u32_at 4 bytes ≡ kind → u32_at 16 bytes ≡ format → header_fault needed kind format bytes ≡ None
no_header_fault needed kind format bytes long is kind_is format_is = grind (arith, nat_tests, is, kind_is, format_is)

pub header_back : (h : MetaHeader) (bytes : List ℕ) → 24 ≤ length bytes → AllByRecursion HasItsWidth (header_fields h) → header_read (with_fields (header_fields h) bytes) ≡ Ok h
header_back h bytes long widths =
    let new = with_fields (header_fields h) bytes in
    let at = λ (i : ℕ). field-read (header_fields h) i (0, U16 0) bytes (omega (arith, long)) widths in
    let long_new : 24 ≤ length new = omega (arith, long, length-fields (header_fields h) bytes (omega (arith, long))) in
    let short = no_length_fault 24 new long_new in
    let bad = no_magic_fault new (at 0 refl) in
    let is : header_of new ≡ h = λ i. record {
      kind = at 1 refl i;
      format = at 2 refl i;
      jid = at 3 refl i;
    } in
    (λ i. answer (or_else (short i) (bad i)) (is i))

pub head_back : (d : Dirent) (bytes : List ℕ) → 40 ≤ length bytes → AllByRecursion HasItsWidth (dirent_fields d) → dirent_of (with_fields (dirent_fields d) bytes) ≡ d
head_back d bytes long widths =
    let at = λ (i : ℕ). field-read (dirent_fields d) i (0, U16 0) bytes (omega (arith, long)) widths in
    λ i. record {
      inum = record { number = at 0 refl i; address = at 1 refl i };
      hash = at 2 refl i;
      rec_len = at 3 refl i;
      name_len = at 4 refl i;
      kind = at 5 refl i;
      rahead = at 6 refl i;
    }

pub dirent_back : (d : Dirent) (bytes : List ℕ) → 40 ≤ length bytes → AllByRecursion HasItsWidth (dirent_fields d) → dirent_read (with_fields (dirent_fields d) bytes) ≡ answer (kind_fault d) d
dirent_back d bytes long widths =
    let new = with_fields (dirent_fields d) bytes in
    let long_new : 40 ≤ length new = omega (arith, long, length-fields (dirent_fields d) bytes (omega (arith, long))) in
    let short = no_length_fault 40 new long_new in
    let is = head_back d bytes long widths in
    (λ i. answer (or_else (short i) (kind_fault (is i))) (is i))

pub dinode_back : (d : Dinode) (bytes : List ℕ) → 232 ≤ length bytes → AllByRecursion HasItsWidth (dinode_fields d) → dinode_read (with_fields (dinode_fields d) bytes) ≡ Ok d
dinode_back d bytes long widths =
    let new = with_fields (dinode_fields d) bytes in
    let at = λ (i : ℕ). field-read (dinode_fields d) i (0, U16 0) bytes (omega (arith, long)) widths in
    let long_new : 232 ≤ length new = omega (arith, long, length-fields (dinode_fields d) bytes (omega (arith, long))) in
    let none = no_header_fault 232 4 400 new long_new (at 0 refl) (at 1 refl) (at 2 refl) in
    let is : dinode_of new ≡ d = λ i. record {
      num = record { number = at 4 refl i; address = at 5 refl i };
      mode = at 6 refl i;
      uid = at 7 refl i;
      gid = at 8 refl i;
      nlink = at 9 refl i;
      size = at 10 refl i;
      blocks = at 11 refl i;
      atime = at 12 refl i;
      mtime = at 13 refl i;
      ctime = at 14 refl i;
      major = at 15 refl i;
      minor = at 16 refl i;
      goal_meta = at 17 refl i;
      goal_data = at 18 refl i;
      generation = at 19 refl i;
      flags = at 20 refl i;
      payload_format = at 21 refl i;
      height = at 22 refl i;
      depth = at 23 refl i;
      entries = at 24 refl i;
      eattr = at 25 refl i;
      atime_nsec = at 26 refl i;
      mtime_nsec = at 27 refl i;
      ctime_nsec = at 28 refl i;
    } in
    (λ i. answer (none i) (is i))

-- the parts of a superblock that are bytes have the lengths of their places
pub record HasLengths (s : SuperBlock) : Type 0 where
  pub lock_protocol : length s.lock_protocol ≡ 64
  pub lock_table : length s.lock_table ≡ 64
  pub uuid : length s.uuid ≡ 16

pub record HasTexts (s : SuperBlock) (old bytes : List ℕ) : Type 0 where
  pub long : 272 ≤ length bytes
  pub lock_protocol : slice 96 64 bytes ≡ s.lock_protocol
  pub lock_table : slice 160 64 bytes ≡ s.lock_table
  pub uuid : slice 256 16 bytes ≡ s.uuid
  pub behind : drop 272 bytes ≡ drop 272 old

pub texts_back : (s : SuperBlock) (old : List ℕ) → 272 ≤ length old → HasLengths s → HasTexts s old (texts_put s old)
texts_back s old long are =
    let one = put_at 96 s.lock_protocol old in
    let two = put_at 160 s.lock_table one in
    let long_1 : length one ≡ length old = length-put 96 s.lock_protocol old (omega (arith, long, are.lock_protocol)) in
    let long_2 : length two ≡ length one = length-put 160 s.lock_table one (omega (arith, long, long_1, are.lock_table)) in
    let room_1 : 96 + length s.lock_protocol ≤ length old = omega (arith, long, are.lock_protocol) in
    let room_2 : 160 + length s.lock_table ≤ length one = omega (arith, long, long_1, are.lock_table) in
    let room_3 : 256 + length s.uuid ≤ length two = omega (arith, long, long_1, long_2, are.uuid) in
    record {
      long = omega (arith, long, long_1, long_2, length-put 256 s.uuid two room_3);
      lock_protocol = slice-put_before 256 s.uuid two room_3 96 64 (omega arith) ∙ slice-put_before 160 s.lock_table one room_2 96 64 (omega arith) ∙ slice-put_same 96 s.lock_protocol old room_1 64 (sym are.lock_protocol);
      lock_table = slice-put_before 256 s.uuid two room_3 160 64 (omega arith) ∙ slice-put_same 160 s.lock_table one room_2 64 (sym are.lock_table);
      uuid = slice-put_same 256 s.uuid two room_3 16 (sym are.uuid);
      behind = drop-put 256 s.uuid two room_3 272 (omega (arith, are.uuid)) ∙ drop-put 160 s.lock_table one room_2 272 (omega (arith, are.lock_table)) ∙ drop-put 96 s.lock_protocol old room_1 272 (omega (arith, are.lock_protocol));
    }

pub superblock_back : (s : SuperBlock) (old bytes : List ℕ) → HasTexts s old bytes → AllByRecursion HasItsWidth (superblock_fields s) → superblock_read (with_fields (superblock_fields s) bytes) ≡ Ok s
superblock_back s old bytes texts widths =
    let new = with_fields (superblock_fields s) bytes in
    let room : end_of (superblock_fields s) ≤ length bytes = omega (arith, texts.long) in
    let at = λ (i : ℕ). field-read (superblock_fields s) i (0, U16 0) bytes room widths in
    let kept = λ (k n : ℕ). slice-fields_other (superblock_fields s) bytes room k n in
    let long_new : 272 ≤ length new = omega (arith, texts.long, length-fields (superblock_fields s) bytes room) in
    let none = no_header_fault 272 1 100 new long_new (at 0 refl) (at 1 refl) (at 2 refl) in
    let is : superblock_of new ≡ s = λ i. record {
      fs_format = at 4 refl i;
      multihost_format = at 5 refl i;
      bsize = at 6 refl i;
      bsize_shift = at 7 refl i;
      master = record { number = at 8 refl i; address = at 9 refl i };
      root = record { number = at 10 refl i; address = at 11 refl i };
      lock_protocol = (kept 96 64 refl ∙ texts.lock_protocol) i;
      lock_table = (kept 160 64 refl ∙ texts.lock_table) i;
      uuid = (kept 256 16 refl ∙ texts.uuid) i;
    } in
    (λ i. answer (none i) (is i))

pub texts_with : (s : SuperBlock) (old bytes : List ℕ) → bytes ≡ texts_put s old → 272 ≤ length old → HasLengths s → HasTexts s old bytes
texts_with s old bytes is long are = subst (HasTexts s old) (sym is) (texts_back s old long are)
