-- What stands before numbers that are set: the header of a block, or a dinode.
use Rattle.std.proofs.Common.{◌≡◌, ℕ, ◌+◌, ◌*◌, ◌≤◌, inl, inr, List, ap, ◌∙◌, arith}
use Rattle.std.specs.Int.{Width, w16, w32, w64, byte_len, from_be_bytes}
use Rattle.gfs2_layout.specs.Bytes.{number_at, u32_at}
use Rattle.gfs2_layout.specs.Headers.{HasHeader}
use Rattle.gfs2_layout.specs.Structures.{dinode_of}
use Rattle.table_changes.specs.Setting.{HasNumbersSet}

module _ (old new : List ℕ) (start count number : ℕ) (set : HasNumbersSet old new start count number) where
  pub number_before : (w : Width) (place : ℕ) → place + byte_len w ≤ start → number_at w place new ≡ number_at w place old
  unfolding number_at
  number_before w place before = ap (from_be_bytes w) (set.elsewhere place (byte_len w) (inl before))

  pub number_behind : (w : Width) (place : ℕ) → start + 8 * count ≤ place → number_at w place new ≡ number_at w place old
  unfolding number_at
  number_behind w place behind = ap (from_be_bytes w) (set.elsewhere place (byte_len w) (inr behind))

  pub header_stays : (kind format : ℕ) → 24 ≤ start → HasHeader kind format old → HasHeader kind format new
  header_stays kind format low header = record { magic_is = before 0 (omega arith) ∙ header.magic_is; kind_is = before 4 (omega arith) ∙ header.kind_is; format_is = before 16 (omega arith) ∙ header.format_is }
    where
      before : (place : ℕ) → place + 4 ≤ 24 → u32_at place new ≡ u32_at place old
      before place less = number_before w32 place (omega (arith, less, low))

  pub dinode_stays : 232 ≤ start → dinode_of new ≡ dinode_of old
  dinode_stays low = λ t. record {
    num = record { number = at w64 24 (omega arith) t; address = at w64 32 (omega arith) t };
    mode = at w32 40 (omega arith) t;
    uid = at w32 44 (omega arith) t;
    gid = at w32 48 (omega arith) t;
    nlink = at w32 52 (omega arith) t;
    size = at w64 56 (omega arith) t;
    blocks = at w64 64 (omega arith) t;
    atime = at w64 72 (omega arith) t;
    mtime = at w64 80 (omega arith) t;
    ctime = at w64 88 (omega arith) t;
    major = at w32 96 (omega arith) t;
    minor = at w32 100 (omega arith) t;
    goal_meta = at w64 104 (omega arith) t;
    goal_data = at w64 112 (omega arith) t;
    generation = at w64 120 (omega arith) t;
    flags = at w32 128 (omega arith) t;
    payload_format = at w32 132 (omega arith) t;
    height = at w16 138 (omega arith) t;
    depth = at w16 146 (omega arith) t;
    entries = at w32 148 (omega arith) t;
    eattr = at w64 168 (omega arith) t;
    atime_nsec = at w32 176 (omega arith) t;
    mtime_nsec = at w32 180 (omega arith) t;
    ctime_nsec = at w32 184 (omega arith) t;
  }
    where
      at : (w : Width) (place : ℕ) → place + byte_len w ≤ 232 → number_at w place new ≡ number_at w place old
      at w place less = number_before w place (omega (arith, less, low))
