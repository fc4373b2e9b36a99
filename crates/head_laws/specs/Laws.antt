-- Which head a loss counts from: of each life that has no loss yet, the number that the items tell is that of its head.
use Rattle.std.specs.Prelude.{ℕ, ◌≡◌, ◌<◌, ◌⊎◌, ◌+◌, ◌==◌, Bool, true, false, Some, List, [], ◌∷◌, drop, if◌then◌else◌}
use Rattle.trace_text.specs.declared.item.TraceItem.{TraceItem}
use Rattle.run_rules.specs.Lives.{Life, AcceptedHead, DiskHeads, upto_of, lives_of, losses_of, life_at, fenced_behind}
use Rattle.head_laws.specs.Journals.{Journal, JournalEvents, IsNew, NoHeadMatters}

-- how many lives of the node are among these
abbrev pub lives_count : ℕ → List Life → ℕ
lives_count node [] = 0
lives_count node (l ∷ ls) = (if l.node == node then 1 else 0) + lives_count node ls

-- what the disks say, where this is the node's accepted head
abbrev pub with_head : (ℕ → ℕ → AcceptedHead) → AcceptedHead → DiskHeads
with_head behind h = record { behind = behind; now = λ i. h }

-- the accepted head may be this: that of the two; or any, while the slot waits and it matters to no life that ended, as the clean header of a replay that is in flight
abbrev pub MayBe : ℕ → Journal → List TraceItem → Bool → AcceptedHead → Type 0
MayBe node j items d h = (h ≡ j.name d) ⊎ ((j.waits ≡ true) × NoHeadMatters node j items)

pub record AreTold (node : ℕ) (behind : ℕ → ℕ → AcceptedHead) (j : Journal) (items : List TraceItem) : Type 0 where
  -- of the earliest life without a loss it is that of the journal's head, whichever of the two turns out to be accepted
  pub first : (l : Life) (d : Bool) (h : AcceptedHead) → MayBe node j items d h → life_at node (losses_of node items) (lives_of items) ≡ Some l → upto_of (with_head behind h) l items ≡ j.cut d
  -- of each later one, in which the slot waited, it is the number of the node's last call: nothing is lost with it
  pub later : (n : ℕ) (l : Life) (d : Bool) (h : AcceptedHead) → MayBe node j items d h → losses_of node items < n → life_at node n (lives_of items) ≡ Some l → upto_of (with_head behind h) l items ≡ j.last
  -- once a life that ended is fenced, or its node has joined again, no other disk matters to it
  pub fixed : (l : Life) (h : AcceptedHead) → (j.unlost ≡ 0 → ⊥) → (j.runs ≡ true) ⊎ (j.fenced ≡ true) → life_at node (losses_of node items) (lives_of items) ≡ Some l
      → upto_of (with_head behind h) l items ≡ j.cut false
  -- where none is without a loss the journal has all calls
  pub rests : j.unlost ≡ 0 → j.runs ≡ false → (d : Bool) → j.cut d ≡ j.last
  -- a life without a loss is one that ended and isn't told yet, or the present one
  pub count : lives_count node (lives_of items) ≡ losses_of node items + (j.unlost + (if j.runs then 1 else 0))
  -- so where the slot doesn't wait each life that ended has its loss
  pub lost : j.waits ≡ false → lives_count node (lives_of items) ≡ losses_of node items + (if j.runs then 1 else 0)
  -- and a life that may be lost, the earliest one without a loss, once it is fenced or its node has joined again, has its fence among the items
  pub fence : (l : Life) → (j.unlost ≡ 0 → ⊥) → (j.runs ≡ true) ⊎ (j.fenced ≡ true) → life_at node (losses_of node items) (lives_of items) ≡ Some l
      → (p : ℕ) × (fenced_behind node (l.join + 1) (drop (l.join + 1) items) ≡ Some p)

abbrev pub HeadsAreTold : Type 0
HeadsAreTold = (node : ℕ) (behind : ℕ → ℕ → AcceptedHead) (a j : Journal) (items : List TraceItem) → IsNew a → JournalEvents node (behind node) a [] j items → AreTold node behind j items
