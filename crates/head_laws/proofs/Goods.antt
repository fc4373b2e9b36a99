-- What holds of a node's journal, its lives and the items.
use Rattle.std.proofs.Common.{ℕ, suc, ◌≡◌, ◌<◌, ◌≤◌, ◌+◌, ◌⊎◌, Bool, true, false, cond, None, Some, List, length, refl, arith}
use Rattle.std.specs.Prelude.{◌==◌}
use Rattle.trace_text.specs.declared.item.TraceItem.{TraceItem}
use Rattle.run_rules.specs.Lives.{Life, AcceptedHead, last_number, lives_of, losses_of, life_at, named}
use Rattle.head_laws.specs.Journals.{DoesNothing, Journal}
use Rattle.head_laws.specs.Laws.{lives_count}
use Rattle.head_laws.proofs.Items.{true-false, ended, life-below}
use Rattle.head_laws.proofs.Values.{rest, base, first, fence, value, Stable, HeadsWithin}

-- of a life that ended: its number is the head's, where it is the earliest without a loss, and else that of the node's last call
abbrev pub target : ℕ → Journal → List TraceItem → ℕ → Bool → ℕ
target i j items n d = cond (n == losses_of i items) (j.cut d) j.last

pub record Closed (i : ℕ) (behind : ℕ → AcceptedHead) (j : Journal) (items : List TraceItem) (n : ℕ) (l : Life) : Type 0 where
  pub over : ended i (rest l items) ≡ true
  pub told : (d : Bool) → value i behind l items (j.name d) ≡ target i j items n d
  pub fenced : (suc n < losses_of i items + j.unlost) ⊎ ((j.runs ≡ true) ⊎ (j.fenced ≡ true)) → (p : ℕ) × (fence i l items ≡ Some p)

-- of the present life, while the slot waits
pub record Waiting (i : ℕ) (behind : ℕ → AcceptedHead) (j : Journal) (items : List TraceItem) (l : Life) : Type 0 where
  pub idle : DoesNothing i (rest l items)
  pub base : base i l items ≡ j.last

-- and while it doesn't
pub record Acting (i : ℕ) (behind : ℕ → AcceptedHead) (j : Journal) (items : List TraceItem) (l : Life) : Type 0 where
  pub told : (d : Bool) → value i behind l items (j.name d) ≡ j.cut d
  pub heads : HeadsWithin i (j.name true).sequence (rest l items)
  pub above : (d : Bool) → first i behind l items ≤ (j.name d).sequence
  pub accepted : Stable (first i behind l items) i (rest l items) (j.name false)
  pub flying : Stable (first i behind l items) i (rest l items) (j.name true) ⊎ (j.silent ≡ true)
  pub item : j.flies ≡ Some i → ((u : ℕ) × (named i (j.name true) (rest l items) ≡ Some u)) ⊎ (j.silent ≡ true)

pub record Open (i : ℕ) (behind : ℕ → AcceptedHead) (j : Journal) (items : List TraceItem) (l : Life) : Type 0 where
  pub going : ended i (rest l items) ≡ false
  pub unfenced : fence i l items ≡ None
  pub waiting : j.waits ≡ true → Waiting i behind j items l
  pub acting : j.waits ≡ false → Acting i behind j items l

pub record Good (i : ℕ) (behind : ℕ → AcceptedHead) (j : Journal) (items : List TraceItem) (n : ℕ) (l : Life) : Type 0 where
  pub node : l.node ≡ i
  pub within : l.join < length items
  pub closed : n < losses_of i items + j.unlost → Closed i behind j items n l
  pub present : losses_of i items + j.unlost ≤ n → Open i behind j items l

pub record Inv (i : ℕ) (behind : ℕ → AcceptedHead) (j : Journal) (items : List TraceItem) : Type 0 where
  pub number : last_number i 0 items ≡ j.last
  pub count : lives_count i (lives_of items) ≡ losses_of i items + (j.unlost + cond j.runs 1 0)
  pub settled : j.waits ≡ false → j.unlost ≡ 0
  pub single : j.flies ≡ None → (j.cut true ≡ j.cut false) × (j.name true ≡ j.name false)
  pub others : (r : ℕ) → j.flies ≡ Some r → (r ≡ i → ⊥) → j.cut true ≡ j.cut false
  pub even : j.unlost ≡ 0 → (j.runs ≡ false) ⊎ (j.waits ≡ true) → (d : Bool) → j.cut d ≡ j.last
  pub silent : j.silent ≡ true → (j.flies ≡ Some i) × (j.runs ≡ true)
  pub lives : (n : ℕ) (l : Life) → life_at i n (lives_of items) ≡ Some l → losses_of i items ≤ n → Good i behind j items n l

-- ---- which lives there are

module _ (i : ℕ) (behind : ℕ → AcceptedHead) (j : Journal) (items : List TraceItem) (inv : Inv i behind j items) (n : ℕ) (l : Life) (is : life_at i n (lives_of items) ≡ Some l) where
  counted : n < losses_of i items + (j.unlost + cond j.runs 1 0)
  counted = let h : n < lives_count i (lives_of items) = life-below i n (lives_of items) l is in let c : lives_count i (lives_of items) ≡ losses_of i items + (j.unlost + cond j.runs 1 0) = inv.count in omega (arith, h, c)

  -- a life that hasn't ended is the present one, of a node that runs
  pub open-runs : losses_of i items + j.unlost ≤ n → (j.runs ≡ true) × (n ≡ losses_of i items + j.unlost)
  open-runs low = by j.runs refl counted
    where
      by : (b : Bool) → j.runs ≡ b → n < losses_of i items + (j.unlost + cond b 1 0) → (j.runs ≡ true) × (n ≡ losses_of i items + j.unlost)
      by true e h = (e, omega arith)
      by false e h = absurd (omega arith)

-- where the node doesn't run no life is open
pub none-open : {A : Type 0} (i : ℕ) (behind : ℕ → AcceptedHead) (j : Journal) (items : List TraceItem) → Inv i behind j items → (n : ℕ) (l : Life) → life_at i n (lives_of items) ≡ Some l
    → j.runs ≡ false → losses_of i items + j.unlost ≤ n → A
none-open i behind j items inv n l is stopped low = true-false (open-runs i behind j items inv n l is low).0 stopped

-- where its slot doesn't wait none is closed
pub none-closed : {A : Type 0} (i : ℕ) (behind : ℕ → AcceptedHead) (j : Journal) (items : List TraceItem) → Inv i behind j items → (n : ℕ) → j.waits ≡ false → losses_of i items ≤ n
    → n < losses_of i items + j.unlost → A
none-closed i behind j items inv n acts low high = absurd (let e : j.unlost ≡ 0 = inv.settled acts in omega (arith, e))
