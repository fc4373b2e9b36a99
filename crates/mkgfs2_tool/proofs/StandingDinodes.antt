-- The dinode's block of a new inode, read back.
use Rattle.std.proofs.Common.{ℕ, Ok, ◌≡◌, ◌+◌, ◌-◌, ◌^◌, ◌<◌, ◌≤◌, List, length, drop, replicate, ◌++◌, ◌∙◌, arith}
use Rattle.std.specs.List.{AllByRecursion}
use Rattle.std.proofs.lemmas.List.{length-replicate, drop-replicate}
use Rattle.gfs2_layout.specs.Bytes.{put_at}
use Rattle.gfs2_layout.specs.Fields.{HasItsWidth}
use Rattle.gfs2_layout.specs.Structures.{dinode_of, dinode_read, header_fault}
use Rattle.gfs2_layout.specs.Writing.{dinode_fields, dinode_put}
use Rattle.gfs2_layout.specs.declared.dinode.Dinode.{Dinode}
use Rattle.gfs2_layout.specs.Headers.{HasHeader}
use Rattle.mkgfs2_tool.specs.Groups.{data_address}
use Rattle.mkgfs2_tool.specs.Blocks.{dinode}
use Rattle.mkgfs2_tool.specs.declared.plan.Plan.{Plan}
use Rattle.mkgfs2_tool.specs.declared.inodes.Inode.{Inode}
use Rattle.mkgfs2_tool.proofs.StandingBytes.{answer_ok, header_from, take_put, behind_put}
use Rattle.mkgfs2_tool.proofs.StandingGiven.{Given, length_put, zeros_are_bytes}

-- these bytes are a block of so many, with this dinode and these bytes behind it
pub record IsDinodeBlock (size : ℕ) (d : Dinode) (behind bytes : List ℕ) : Type 0 where
  pub long : length bytes ≡ size
  pub is : dinode_of bytes ≡ d
  pub header : HasHeader 4 400 bytes
  pub rest : drop 232 bytes ≡ behind ++ replicate (size - 232 - length behind) 0

pub dinode_put_is : (given : Given) (size : ℕ) (d : Dinode) (behind : List ℕ) → 232 + length behind ≤ size → AllByRecursion HasItsWidth (dinode_fields d)
    → IsDinodeBlock size d behind (put_at 232 behind (dinode_put d (replicate size 0)))
dinode_put_is given size d behind fits widths =
    let law = given.structures.dinode in
    let clear : List ℕ = replicate size 0 in
    let room : 232 ≤ length clear = omega (arith, fits, length-replicate {A = ℕ} size 0) in
    let base : List ℕ = dinode_put d clear in
    let long : length base ≡ size = law.as_long d clear room tt ∙ length-replicate {A = ℕ} size 0 in
    let bytes : List ℕ = put_at 232 behind base in
    let long_put : length bytes ≡ size = length_put 232 behind base (omega (arith, long, fits)) ∙ long in
    let read : dinode_read bytes ≡ Ok d =
    law.own bytes base (omega (arith, long_put, fits)) (omega (arith, long, fits)) (take_put 232 behind base (omega (arith, long, fits))) ∙ law.back d clear room (zeros_are_bytes size) tt widths in
    let back = answer_ok (header_fault 232 4 400 bytes) (dinode_of bytes) d read in
    record {
      long = long_put;
      is = back.1;
      header = header_from 232 4 400 bytes back.0;
      rest = behind_put 232 (size - 232) behind base (omega (arith, long, fits)) (law.behind d clear room tt ∙ drop-replicate {X = ℕ} 232 size 0);
    }

-- the numbers of an inode have their widths
pub record IsSmall (i : Inode) : Type 0 where
  pub mode : i.mode < 2 ^ 32
  pub nlink : i.nlink < 2 ^ 32
  pub size : i.size < 2 ^ 64
  pub blocks : i.blocks < 2 ^ 64
  pub flags : i.flags < 2 ^ 32
  pub payload_format : i.payload_format < 2 ^ 32
  pub height : i.height < 2 ^ 16
  pub depth : i.depth < 2 ^ 16
  pub entries : i.entries < 2 ^ 32

pub dinode_widths : (p : Plan) (number place : ℕ) (i : Inode) → number < 2 ^ 64 → data_address p place < 2 ^ 64 → p.time < 2 ^ 64 → IsSmall i
    → AllByRecursion HasItsWidth (dinode_fields (dinode p number place i))
unfolding dinode
dinode_widths p number place i low near time small =
    (omega arith, (omega arith, (omega arith, (omega arith, (low, (near, (small.mode, (omega arith, (omega arith, (small.nlink, (small.size, (small.blocks, (time, (time, (time, (omega arith, (omega arith, (near, (near, (low, (small.flags, (small.payload_format, (small.height, (small.depth, (small.entries, (omega arith, (omega arith, (omega arith, (omega arith, tt)))))))))))))))))))))))))))))
