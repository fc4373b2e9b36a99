-- A node that is added to a set or taken from it changes no other.
use Rattle.std.proofs.Common.{ℕ, ◌≡◌, ◌≢◌, ◌-◌, ◌^◌, ◌<◌, Bool, true, nat_eq, bit_and, sym, ap, ◌∙◌, inl, inr, arith}
use Rattle.std.specs.Prelude.{not}
use Rattle.std.specs.Int.Bits.{and_self, and_zero_r}
use Rattle.std.proofs.lemmas.Bool.Decides.{eqb_tells}
use Rattle.std.proofs.lemmas.Nat.{pow_pos, pow_below, and_or_self, and_or_apart, and_assoc, and-not, pow_apart}
use Rattle.fencing.specs.NodeSets.{without_node}
use Rattle.fencing.specs.Laws.{AddsOne, TakesOne}

-- a set has a node where what it shares with the node's bit isn't zero
shows : ℕ → Bool
shows bits = not (nat_eq bits 0)

bit-shows : (node : ℕ) → shows (2 ^ node) ≡ true
unfolding shows
bit-shows node = elim (eqb_tells (2 ^ node) 0) [ inl e ↦ absurd (omega (arith, pow_pos node)) | inr e ↦ ap not e.0 ]

pub adds-one : AddsOne
unfolding shows
adds-one set node other = (
  ap shows (and_or_self (2 ^ node) set) ∙ bit-shows node,
  λ ne. ap shows (and_or_apart (2 ^ other) set (2 ^ node) (pow_apart node other (λ e. ne (sym e)))),
)

-- what a set without a node shares with a bit
apart : (set node other : ℕ) → node < 16 → other < 16 → other ≢ node → bit_and (without_node set node) (2 ^ other) ≡ bit_and set (2 ^ other)
apart set node other n o ne =
    let alone : bit_and (2 ^ 16 - 1 - 2 ^ node) (2 ^ other) ≡ 2 ^ other =
    omega (arith, and-not 16 (2 ^ node) (2 ^ other) (pow_below node 16 n) (pow_below other 16 o), pow_apart node other (λ e. ne (sym e))) in
    and_assoc (2 ^ other) set (2 ^ 16 - 1 - 2 ^ node) ∙ ap (bit_and set) alone

gone : (set node : ℕ) → node < 16 → bit_and (without_node set node) (2 ^ node) ≡ 0
gone set node n =
    let none : bit_and (2 ^ 16 - 1 - 2 ^ node) (2 ^ node) ≡ 0 =
    omega (arith, and-not 16 (2 ^ node) (2 ^ node) (pow_below node 16 n) (pow_below node 16 n), and_self (2 ^ node)) in
    and_assoc (2 ^ node) set (2 ^ 16 - 1 - 2 ^ node) ∙ (ap (bit_and set) none ∙ and_zero_r set)

pub takes-one : TakesOne
unfolding shows
takes-one set node other n o = (ap shows (gone set node n), λ ne. ap shows (apart set node other n o ne))
