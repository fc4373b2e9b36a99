-- Numbers in bytes by what stands behind a place.
use Rattle.std.proofs.Common.{◌≡◌, ℕ, ◌+◌, ◌*◌, inl, inr, List, ◌++◌, length, take, drop, get_or, refl, sym, ap, subst, ◌∙◌, arith}
use Rattle.std.proofs.lemmas.Bool.{cases_lt}
use Rattle.std.proofs.lemmas.List.{drop-drop, drop_at, drop-append-le, take-append-le, length-drop, length-take, get_or-take, get_or-drop, get_or_past}
use Rattle.std.specs.Prelude.{replicate}
use Rattle.std.specs.Int.{w64, from_be_bytes}
use Rattle.gfs2_layout.specs.Bytes.{u64_at, number_at}
use Rattle.gfs2_layout.specs.Headers.{HasHeader}
use Rattle.gfs2_layout.specs.Holding.{bytes_at}
use Rattle.gfs2_layout.specs.Inode.{dinode_in}
use Rattle.gfs2_layout.specs.Structures.{header_fault, dinode_of, dinode_length}
use Rattle.gfs2_layout.proofs.HeaderLaws.{answer_ok, header_from}
use Rattle.growth_laws.specs.Laws.{NumbersBehindAreTheSame, ZerosAreNoNumber, NumbersInFront, NumbersAtTheBack, WrittenDinodesAreSaid}
use Rattle.growth_laws.proofs.Bytes.{byte, zero_byte}
use Rattle.growth_laws.proofs.Pointing.{rewrites_keep_the_rest}

-- a number is that of what stands behind its place
pub number_behind : (a : List ℕ) (s i : ℕ) → u64_at (s + i) a ≡ u64_at i (drop s a)
unfolding number_at
number_behind a s i =
    let turned : s + i ≡ i + s = omega arith in
    ap (λ xs. from_be_bytes w64 (take 8 xs)) (sym (drop-drop i s a))

pub numbers_behind_are_the_same : NumbersBehindAreTheSame
numbers_behind_are_the_same a b s t i same = number_behind a s i ∙ ap (u64_at i) same ∙ sym (number_behind b t i)

zero_number : (xs : List ℕ) → ((i : ℕ) → get_or xs i 0 ≡ 0) → from_be_bytes w64 xs ≡ 0
zero_number xs none = rw (none 0, none 1, none 2, none 3, none 4, none 5, none 6, none 7) refl

pub zeros_are_no_number : ZerosAreNoNumber
unfolding number_at
zeros_are_no_number a s i n zeros = number_behind a s i ∙ ap (u64_at i) zeros ∙ zero_number (take 8 (drop i (replicate n 0))) each
  where
    each : (m : ℕ) → byte (take 8 (drop i (replicate n 0))) m ≡ 0
    each m = elim (cases_lt m 8) [
      | inl low ↦ get_or-take 8 (drop i (replicate n 0)) m 0 low ∙ get_or-drop i (replicate n 0) m 0 ∙ zero_byte n (i + m)
      | inr far ↦ get_or_past (take 8 (drop i (replicate n 0))) m 0 (omega (arith, far, length-take 8 (drop i (replicate {A = ℕ} n 0))))
    ]

pub numbers_in_front : NumbersInFront
unfolding number_at
numbers_in_front a b i fits =
    ap (λ xs. from_be_bytes w64 (take 8 xs)) (drop-append-le i a b (omega (arith, fits))) ∙ ap (from_be_bytes w64) (take-append-le 8 (drop i a) b (omega (arith, fits, length-drop i a)))

pub numbers_at_the_back : NumbersAtTheBack
numbers_at_the_back a b i = number_behind (a ++ b) (length a) i ∙ ap (u64_at i) (drop_at a b (length a) refl)

pub written_dinodes_are_said : WrittenDinodesAreSaid
unfolding dinode_in
written_dinodes_are_said h p bytes d part read =
    let kept = rewrites_keep_the_rest h h.own p bytes part in
    let ok = answer_ok (header_fault dinode_length 4 400 bytes) (dinode_of bytes) d read in (
      ap dinode_of kept.1 ∙ ok.1,
      subst (HasHeader 4 400) (sym kept.1) (header_from dinode_length 4 400 bytes ok.0),
      λ same j. ap (u64_at (dinode_length + 8 * j)) kept.1 ∙ numbers_behind_are_the_same bytes (bytes_at h h.own) dinode_length dinode_length (8 * j) same,
    )
