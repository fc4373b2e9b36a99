-- A journal on a disk has whole blocks.
use Rattle.std.proofs.Common.{◌≡◌, ◌<◌, ℕ, List, [], ◌∷◌, length, get_or, Option, None, Some, refl, sym, ap, ◌∙◌, inl, inr}
use Rattle.std.specs.Prelude.{◌==◌, unwrap_or}
use Rattle.std.specs.List.{AllByRecursion}
use Rattle.std.proofs.lemmas.Bool.{cases_Bool, cond-true, cond-false}
use Rattle.std.proofs.lemmas.List.Elements.{All-get_or}
use Rattle.shared_disk.specs.Disk.{Flight, flight_to}
use Rattle.journal_reads.specs.Laws.{RingsReadAreWhole}

some_is : {A : Type 0} {x y : A} → ◌≡◌ {A = Option A} (Some x) (Some y) → x ≡ y
some_is e = cc

none_some : {A : Type 0} (x : A) → ◌≡◌ {A = Option A} None (Some x) → ⊥
none_some x e = cc

-- what is in flight to a block is whole
flown_whole : (size block : ℕ) (fs : List Flight) (bytes : List ℕ) → AllByRecursion (λ (f : Flight). length f.bytes ≡ size) fs → flight_to fs block ≡ Some bytes → length bytes ≡ size
flown_whole size block [] bytes all is = absurd (none_some bytes is)
flown_whole size block (f ∷ fs) bytes all is = elim (cases_Bool (f.block == block)) [
  | inl same ↦ ap length (sym (some_is (sym (cond-true (f.block == block) (Some f.bytes) (flight_to fs block) same) ∙ is))) ∙ all.0
  | inr other ↦ flown_whole size block fs bytes all.1 (sym (cond-false (f.block == block) (Some f.bytes) (flight_to fs block) other) ∙ is)
]

-- and so is what is read, in flight or not
read_whole : (size : ℕ) (o : Option (List ℕ)) (held : List ℕ) → ((bytes : List ℕ) → o ≡ Some bytes → length bytes ≡ size) → length held ≡ size → length (unwrap_or o held) ≡ size
read_whole size None held flown on_disk = on_disk
read_whole size (Some bytes) held flown on_disk = flown bytes refl

pub rings_are_whole : RingsReadAreWhole
rings_are_whole s node blocks sound tells inside p low =
    let block = get_or blocks p 0 in
    read_whole s.size (flight_to (s.in_flight node) block) (s.block_at block) (λ bytes. flown_whole s.size block (s.in_flight node) bytes (sound.flights node).sizes)
    (sound.sizes tells block (All-get_or (λ b. b < s.count) blocks p 0 low inside))
