-- The first places of a journal, one behind the other.
use Rattle.std.proofs.Common.{◌≡◌, ℕ, ◌+◌, ◌*◌, ◌<◌, ◌≤◌, List, [], ◌++◌, length, take, drop, IsTrue, sym, ap, subst, ◌∙◌, inl, inr, arith}
use Rattle.std.proofs.lemmas.Bool.{cases_lt}
use Rattle.std.proofs.lemmas.List.{drop_at, take_all, take-append-le, drop-append-le, length-append, length-drop}
use Rattle.shared_disk.specs.Blocks.{block_in}
use Rattle.shared_disk.specs.Disk.{DiskState}
use Rattle.shared_disk.proofs.BlockLaws.{next_block}
use Rattle.journal_reads.specs.Reading.{AreFirstPlaces, ring_read}

-- at first there are none
pub none_yet : (s : DiskState) (node : ℕ) (blocks : List ℕ) → AreFirstPlaces s node blocks 0 []
none_yet s node blocks = record { long = omega arith; each = λ tells p low. absurd (omega arith) }

-- one more block behind these
pub one_more : (s : DiskState) (node : ℕ) (blocks : List ℕ) (count : ℕ) (bytes block all : List ℕ) → length block ≡ s.size → (IsTrue s.tells → block ≡ (ring_read s node blocks).at count) → all ≡ bytes ++ block
    → AreFirstPlaces s node blocks count bytes → AreFirstPlaces s node blocks (count + 1) all
one_more s node blocks count bytes block all size told is are = subst (AreFirstPlaces s node blocks (count + 1)) (sym is) (record { long = omega (arith, length-append bytes block, are.long, size); each = each })
  where
    each : IsTrue s.tells → (p : ℕ) → p < count + 1 → block_in s.size (bytes ++ block) p ≡ (ring_read s node blocks).at p
    each tells p low = elim (cases_lt p count) [
      | inl before ↦
          let step = next_block p count s.size before in
          let room : p * s.size + s.size ≤ length bytes = omega (arith, step, are.long) in
          let left : p * s.size ≤ length bytes = omega arith in
          let rest : s.size ≤ length (drop (p * s.size) bytes) = omega (arith, length-drop (p * s.size) bytes) in
          ap (take s.size) (drop-append-le (p * s.size) bytes block left) ∙ take-append-le s.size (drop (p * s.size) bytes) block rest ∙ are.each tells p before
      | inr here ↦
          let at : p ≡ count = omega arith in
          ap (take s.size) (drop_at bytes block (p * s.size) (are.long ∙ ap (λ n. n * s.size) (sym at))) ∙ take_all s.size block (omega arith) ∙ told tells ∙ ap (ring_read s node blocks).at (sym at)
    ]
