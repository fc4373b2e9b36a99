-- A draft: a view with a change on top.
use Rattle.std.specs.Prelude.{ℕ, ◌≡◌, Bool, List, [], ◌∷◌, length, Option, None, Some, refl}
use Rattle.std.specs.Ordering.{nat_cmp}
use Rattle.std.specs.Coded.{Coded, code_by, coded×, coded_ℕ, coded_bool, coded_list, coded_option}
use Rattle.std.specs.FinMap.{FinMap, code, get}
use Rattle.glock_names.specs.declared.LockName.{LockName}
use Rattle.drafts.specs.declared.change.Written.{Written}
use Rattle.drafts.specs.declared.fate.Fate.{Fate}
use Rattle.drafts.specs.declared.fate.Fate.TheVariants.{Put, Freed}
use Rattle.glock_names.specs.Views.{Seen}

abbrev lock_code : Coded LockName
lock_code = code_by (ℕ × ℕ) (coded× coded_ℕ coded_ℕ) (λ l. (l.kind, l.number)) (λ p. record { kind = p.0; number = p.1 }) (λ _. refl)

-- a view, and what becomes of which blocks
pub record Drafted (V : Type 0) : Type 0 where
  pub view : V
  pub fates : FinMap nat_cmp Fate

abbrev pub fate_code : Coded Fate
fate_code = code_by (Option (LockName × (Bool × List ℕ))) (coded_option (coded× lock_code (coded× coded_bool (coded_list coded_ℕ)))) parts whole back
  where
    parts : Fate → Option (LockName × (Bool × List ℕ))
    parts (Put lock plain bytes) = Some (lock, (plain, bytes))
    parts Freed = None

    whole : Option (LockName × (Bool × List ℕ)) → Fate
    whole (Some p) = Put p.0 p.1.0 p.1.1
    whole None = Freed

    back : (f : Fate) → whole (parts f) ≡ f
    back (Put lock plain bytes) = refl
    back Freed = refl

abbrev pub drafted_code : {V : Type 0} → Coded V → Coded (Drafted V)
drafted_code {V = V} view = code_by (V × FinMap nat_cmp Fate) (coded× view (code coded_ℕ fate_code)) (λ d. (d.view, d.fates)) (λ p. record { view = p.0; fates = p.1 }) (λ _. refl)

-- what is written is a whole block
abbrev pub AreWhole : ℕ → FinMap nat_cmp Fate → Type 0
AreWhole size fates = (b : ℕ) (lock : LockName) (plain : Bool) (bytes : List ℕ) → get fates b ≡ Some (Put lock plain bytes) → length bytes ≡ size

-- what is seen of a block: as it is written, and else what the view below sees
abbrev pub block_with : Option Fate → Option (List ℕ) → Option (List ℕ)
block_with (Some (Put lock plain bytes)) below = Some bytes
block_with (Some Freed) below = below
block_with None below = below

-- what is seen of a view with a change on top
abbrev pub seen_with : Seen → FinMap nat_cmp Fate → Seen
seen_with v fates = record {
  size = v.size;
  root = v.root;
  groups = v.groups;
  state_of = v.state_of;
  block_at = λ b. block_with (get fates b) (v.block_at b);
}

-- what a draft sees, over a view of which this is what it sees
abbrev pub seen_in : {V : Type 0} → (V → Seen) → Drafted V → Seen
seen_in seen d = seen_with (seen d.view) d.fates

-- ---- the change, of the blocks and what becomes of them by rising number

abbrev pub blocks_in : List (ℕ × Fate) → List Written
blocks_in [] = []
blocks_in ((b, Put lock plain bytes) ∷ fates) = record { block = b; plain = plain; bytes = bytes } ∷ blocks_in fates
blocks_in ((b, Freed) ∷ fates) = blocks_in fates

abbrev pub locks_in : List (ℕ × Fate) → List LockName
locks_in [] = []
locks_in ((b, Put lock plain bytes) ∷ fates) = lock ∷ locks_in fates
locks_in ((b, Freed) ∷ fates) = locks_in fates

abbrev pub freed_in : List (ℕ × Fate) → List ℕ
freed_in [] = []
freed_in ((b, Put lock plain bytes) ∷ fates) = freed_in fates
freed_in ((b, Freed) ∷ fates) = b ∷ freed_in fates
