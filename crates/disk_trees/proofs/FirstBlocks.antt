-- The blocks of a disk in memory, one after another.
use Rattle.std.proofs.Common.{◌≡◌, ℕ, ◌+◌, ◌*◌, ◌/◌, ◌<◌, ◌≤◌, List, [], ◌++◌, length, take, drop, Bool, IsTrue, sym, ap, subst, ◌∙◌, inl, inr, arith}
use Rattle.std.specs.Prelude.{if◌then◌else◌, nat_lt}
use Rattle.std.proofs.Math.Nat.{mul-div_cancel, mul-le-mul_right}
use Rattle.std.proofs.lemmas.Bool.{cases_lt, lt-ltb, le-ltb}
use Rattle.std.proofs.lemmas.List.{drop_at, take_all, take-append-le, drop-append-le, length-append, length-drop}
use Rattle.std.proofs.Math.ListN.{drop_of_length-le}
use Rattle.image_model.specs.Image.{image_in, image_of}
use Rattle.shared_disk.specs.Blocks.{block_in}
use Rattle.shared_disk.specs.Disk.{DiskState, IsIdle, read_gives, written}
use Rattle.shared_disk.proofs.BlockLaws.{next_block}
use Rattle.disk_trees.specs.Reading.{AreFirstBlocks, ending}

-- at first there are none
pub none_yet : (s : DiskState) → AreFirstBlocks s 0 []
none_yet s = record { long = omega arith; each = λ tells b low. absurd (omega arith) }

-- one more block behind these
pub one_more : (s : DiskState) (count : ℕ) (bytes block : List ℕ) → length block ≡ s.size → (IsTrue s.tells → block ≡ s.block_at count)
    → AreFirstBlocks s count bytes → AreFirstBlocks s (count + 1) (bytes ++ block)
one_more s count bytes block size told are = record { long = omega (arith, length-append bytes block, are.long, size); each = each }
  where
    each : IsTrue s.tells → (b : ℕ) → b < count + 1 → block_in s.size (bytes ++ block) b ≡ s.block_at b
    each tells b low = elim (cases_lt b count) [
      | inl before ↦
          let step = next_block b count s.size before in
          let room : b * s.size + s.size ≤ length bytes = omega (arith, step, are.long) in
          let left : b * s.size ≤ length bytes = omega arith in
          let rest : s.size ≤ length (drop (b * s.size) bytes) = omega (arith, length-drop (b * s.size) bytes) in
          ap (take s.size) (drop-append-le (b * s.size) bytes block left) ∙ take-append-le s.size (drop (b * s.size) bytes) block rest ∙ are.each tells b before
      | inr here ↦
          let at : b ≡ count = omega arith in
          ap (take s.size) (drop_at bytes block (b * s.size) (are.long ∙ ap (λ n. n * s.size) (sym at))) ∙ take_all s.size block (omega arith) ∙ told tells ∙ ap s.block_at (sym at)
    ]

-- the same of what was read of an idle disk
pub one_read : (s : DiskState) (count : ℕ) (bytes block all : List ℕ) → IsIdle s → length block ≡ s.size → (IsTrue s.tells → block ≡ read_gives s 0 count) → all ≡ bytes ++ block
    → AreFirstBlocks s count bytes → AreFirstBlocks s (count + 1) all
one_read s count bytes block all idle size told is are =
    subst (AreFirstBlocks s (count + 1)) (sym is) (one_more s count bytes block size (λ tells. told tells ∙ ap (λ fs. written s.block_at fs count) (idle.none_in_flight 0)) are)

-- the blocks that they all are
pub all_blocks : (s : DiskState) (bytes : List ℕ) → 0 < s.size → IsTrue s.tells → AreFirstBlocks s s.count bytes → image_in s.size bytes ≡ ending (image_of s)
all_blocks s bytes some tells are = λ i. record { size = s.size; count = count i; at = λ b. at b i }
  where
    count : length bytes / s.size ≡ s.count
    count = ap (λ n. n / s.size) are.long ∙ mul-div_cancel s.count some

    at : (b : ℕ) → block_in s.size bytes b ≡ (if nat_lt b s.count then s.block_at b else [])
    at b = elim (cases_lt b s.count) [
      | inl low ↦ are.each tells b low ∙ ap (λ (t : Bool). if t then s.block_at b else []) (sym (lt-ltb b s.count low))
      | inr past ↦
          let step = mul-le-mul_right s.size past in
          let room : length bytes ≤ b * s.size = omega (arith, step, are.long) in
          ap (take s.size) (drop_of_length-le bytes room) ∙ take_all s.size [] (omega arith) ∙ ap (λ (t : Bool). if t then s.block_at b else []) (sym (le-ltb b s.count past))
    ]
