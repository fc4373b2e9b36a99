-- A structure is read from its own bytes alone.
use Rattle.std.proofs.Common.{◌≡◌, ℕ, ◌+◌, ◌≤◌, List, length, take, sym, ap, ◌∙◌, arith}
use Rattle.std.specs.Prelude.{◌%◌, ◌==◌, not, nat_lt, if◌then◌else◌, None, Some}
use Rattle.std.specs.Int.{Width, w16, w32, w64, byte_len}
use Rattle.std.proofs.lemmas.Bool.{le-ltb}
use Rattle.crc_words.specs.Remainder.{crc32_of}
use Rattle.gfs2_layout.specs.Bytes.{u32_at, with_number}
use Rattle.gfs2_layout.specs.Checksum.{checksum_of}
use Rattle.gfs2_layout.specs.Structures.{magic, or_else, answer, length_fault, magic_fault, header_fault, header_of, header_read, superblock_of, superblock_read, dinode_of, dinode_read, dirent_of, kind_fault, dirent_read, rindex_of, rindex_read, group_of, group_read, leaf_of, records_fault, leaf_read, hash_fault, log_of, log_read}
use Rattle.gfs2_layout.specs.declared.fault.LayoutFault.TheVariants.{Short, Magic, Kind, Format, Value, Hash}
use Rattle.gfs2_layout.proofs.Places.{number_front, slice_front, head_front}

module _ (size : ℕ) (a b : List ℕ) (long : size ≤ length a) (long_b : size ≤ length b) (same : take size a ≡ take size b) where
  not_short : nat_lt (length a) size ≡ nat_lt (length b) size
  not_short = le-ltb (length a) size long ∙ sym (le-ltb (length b) size long_b)

  length_own : length_fault size a ≡ length_fault size b
  length_own = λ t. if not_short t then Some Short else None

  magic_own : 4 ≤ size → magic_fault a ≡ magic_fault b
  magic_own large = λ t. if number_front w32 0 size a b large same t == magic then None else Some Magic

  header_own : (kind format : ℕ) → 24 ≤ size → header_fault size kind format a ≡ header_fault size kind format b
  header_own kind format large =
      let at : (place : ℕ) → place + 4 ≤ 24 → u32_at place a ≡ u32_at place b = λ place inside. number_front w32 place size a b (omega (arith, inside, large)) same in
      λ t.
      if not_short t then Some Short
      else if not (at 0 (omega arith) t == magic) then Some Magic
      else if not (at 4 (omega arith) t == kind) then Some (Kind (at 4 (omega arith) t))
      else if not (at 16 (omega arith) t == format) then Some (Format (at 16 (omega arith) t))
      else None

pub header_reads : (a b : List ℕ) → 24 ≤ length a → 24 ≤ length b → take 24 a ≡ take 24 b → header_read a ≡ header_read b
header_reads a b la lb same =
    let at = λ (w : Width) (place : ℕ) (h : place + byte_len w ≤ 24). number_front w place 24 a b h same in
    let of : header_of a ≡ header_of b = λ t. record { kind = at w32 4 (omega arith) t; format = at w32 16 (omega arith) t; jid = at w32 20 (omega arith) t } in
    λ t. answer (or_else (length_own 24 a b la lb same t) (magic_own 24 a b la lb same (omega arith) t)) (of t)

pub superblock_reads : (a b : List ℕ) → 272 ≤ length a → 272 ≤ length b → take 272 a ≡ take 272 b → superblock_read a ≡ superblock_read b
superblock_reads a b la lb same =
    let at = λ (w : Width) (place : ℕ) (h : place + byte_len w ≤ 272). number_front w place 272 a b h same in
    let part = λ (place n : ℕ) (h : place + n ≤ 272). slice_front place n 272 a b h same in
    let of : superblock_of a ≡ superblock_of b = λ t. record {
      fs_format = at w32 24 (omega arith) t;
      multihost_format = at w32 28 (omega arith) t;
      bsize = at w32 36 (omega arith) t;
      bsize_shift = at w32 40 (omega arith) t;
      master = record { number = at w64 48 (omega arith) t; address = at w64 56 (omega arith) t };
      root = record { number = at w64 80 (omega arith) t; address = at w64 88 (omega arith) t };
      lock_protocol = part 96 64 (omega arith) t;
      lock_table = part 160 64 (omega arith) t;
      uuid = part 256 16 (omega arith) t;
    } in
    λ t. answer (header_own 272 a b la lb same 1 100 (omega arith) t) (of t)

pub dinode_reads : (a b : List ℕ) → 232 ≤ length a → 232 ≤ length b → take 232 a ≡ take 232 b → dinode_read a ≡ dinode_read b
dinode_reads a b la lb same =
    let at = λ (w : Width) (place : ℕ) (h : place + byte_len w ≤ 232). number_front w place 232 a b h same in
    let of : dinode_of a ≡ dinode_of b = λ t. record {
      num = record { number = at w64 24 (omega arith) t; address = at w64 32 (omega arith) t };
      mode = at w32 40 (omega arith) t;
      uid = at w32 44 (omega arith) t;
      gid = at w32 48 (omega arith) t;
      nlink = at w32 52 (omega arith) t;
      size = at w64 56 (omega arith) t;
      blocks = at w64 64 (omega arith) t;
      atime = at w64 72 (omega arith) t;
      mtime = at w64 80 (omega arith) t;
      ctime = at w64 88 (omega arith) t;
      major = at w32 96 (omega arith) t;
      minor = at w32 100 (omega arith) t;
      goal_meta = at w64 104 (omega arith) t;
      goal_data = at w64 112 (omega arith) t;
      generation = at w64 120 (omega arith) t;
      flags = at w32 128 (omega arith) t;
      payload_format = at w32 132 (omega arith) t;
      height = at w16 138 (omega arith) t;
      depth = at w16 146 (omega arith) t;
      entries = at w32 148 (omega arith) t;
      eattr = at w64 168 (omega arith) t;
      atime_nsec = at w32 176 (omega arith) t;
      mtime_nsec = at w32 180 (omega arith) t;
      ctime_nsec = at w32 184 (omega arith) t;
    } in
    λ t. answer (header_own 232 a b la lb same 4 400 (omega arith) t) (of t)

pub dirent_reads : (a b : List ℕ) → 40 ≤ length a → 40 ≤ length b → take 40 a ≡ take 40 b → dirent_read a ≡ dirent_read b
dirent_reads a b la lb same =
    let of : dirent_of a ≡ dirent_of b = head_front 40 a b (omega arith) same in
    λ t. answer (or_else (length_own 40 a b la lb same t) (kind_fault (of t))) (of t)

pub rindex_reads : (a b : List ℕ) → 96 ≤ length a → 96 ≤ length b → take 96 a ≡ take 96 b → rindex_read a ≡ rindex_read b
rindex_reads a b la lb same =
    let at = λ (w : Width) (place : ℕ) (h : place + byte_len w ≤ 96). number_front w place 96 a b h same in
    let of : rindex_of a ≡ rindex_of b = λ t. record {
      address = at w64 0 (omega arith) t;
      length = at w32 8 (omega arith) t;
      data0 = at w64 16 (omega arith) t;
      data_blocks = at w32 24 (omega arith) t;
      bitbytes = at w32 28 (omega arith) t;
    } in
    λ t. answer (length_own 96 a b la lb same t) (of t)

pub group_reads : (a b : List ℕ) → 128 ≤ length a → 128 ≤ length b → take 128 a ≡ take 128 b → group_read a ≡ group_read b
group_reads a b la lb same =
    let at = λ (w : Width) (place : ℕ) (h : place + byte_len w ≤ 128). number_front w place 128 a b h same in
    let of : group_of a ≡ group_of b = λ t. record {
      flags = at w32 24 (omega arith) t;
      free = at w32 28 (omega arith) t;
      dinodes = at w32 32 (omega arith) t;
      skip = at w32 36 (omega arith) t;
      igeneration = at w64 40 (omega arith) t;
      data0 = at w64 48 (omega arith) t;
      data_blocks = at w32 56 (omega arith) t;
      bitbytes = at w32 60 (omega arith) t;
    } in
    λ t. answer (header_own 128 a b la lb same 2 200 (omega arith) t) (of t)

pub leaf_reads : (a b : List ℕ) → 104 ≤ length a → 104 ≤ length b → take 104 a ≡ take 104 b → leaf_read a ≡ leaf_read b
leaf_reads a b la lb same =
    let at = λ (w : Width) (place : ℕ) (h : place + byte_len w ≤ 104). number_front w place 104 a b h same in
    let of : leaf_of a ≡ leaf_of b = λ t. record { depth = at w16 24 (omega arith) t; entries = at w16 26 (omega arith) t; next = at w64 32 (omega arith) t } in
    let format : records_fault a ≡ records_fault b = λ t. if at w32 28 (omega arith) t == 1200 then None else Some (Value 28 (at w32 28 (omega arith) t)) in
    λ t. answer (or_else (header_own 104 a b la lb same 6 600 (omega arith) t) (format t)) (of t)

pub log_reads : (a b : List ℕ) → 48 ≤ length a → 48 ≤ length b → take 48 a ≡ take 48 b → log_read a ≡ log_read b
unfolding checksum_of
log_reads a b la lb same =
    let at = λ (w : Width) (place : ℕ) (h : place + byte_len w ≤ 48). number_front w place 48 a b h same in
    let of : log_of a ≡ log_of b = λ t. record {
      jid = at w32 20 (omega arith) t;
      sequence = at w64 24 (omega arith) t;
      clean = at w32 32 (omega arith) t % 2 == 1;
      tail = at w32 36 (omega arith) t;
      blkno = at w32 40 (omega arith) t;
    } in
    let sum : checksum_of 48 44 a ≡ checksum_of 48 44 b = ap (λ (bytes : List ℕ). crc32_of (with_number w32 44 0 bytes)) same in
    let hash : hash_fault a ≡ hash_fault b = λ t. if at w32 44 (omega arith) t == sum t then None else Some (Hash (at w32 44 (omega arith) t) (sum t)) in
    λ t. answer (or_else (header_own 48 a b la lb same 8 800 (omega arith) t) (hash t)) (of t)
