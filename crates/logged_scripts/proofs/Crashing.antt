-- The write at which the first crash is to come, and whether it is past.
use Rattle.std.proofs.Common.{◌≡◌, ℕ, suc, ◌+◌, ◌-◌, ◌<◌, ◌≤◌, inl, inr, min, List, [], ◌∷◌, Option, None, Some, refl, sym, ap, ◌∙◌, subst, arith}
use Rattle.std.specs.Prelude.{slice_get}
use Rattle.std.specs.List.{AllByRecursion}
use Rattle.std.proofs.lemmas.Bool.{cases_lt}
use Rattle.lone_scripts.proofs.Lists.{all_at}
use Rattle.lone_scripts.specs.Runs.{Crashes, EndsWithWrite, IsNotPast, at_write}
use Rattle.script_lang.specs.Script.{ScriptValue}
use Rattle.script_lang.specs.declared.script.Armed.{Armed}
use Rattle.trace_text.specs.declared.item.TraceItem.{TraceItem}
use Rattle.logged_calls.specs.Nodes.{IsAtCrash, IsBeforeCrash, StopsByCrash, writes_in}
use Rattle.logged_calls.specs.logged_node_ends.Stop.{Stop}
use Rattle.logged_calls.specs.logged_node_ends.Stop.TheVariants as stop
use Rattle.logged_calls.proofs.Blocks.{none_some, some_same}
use Rattle.logged_scripts.specs.Crashes.{first_crash, sooner}
use Rattle.logged_scripts.proofs.Lists.{all_to}

-- ---- the first crash

-- one comes no later than this one
abbrev pub IsNoLater : Option ℕ → Armed → Type 0
IsNoLater first a = (k : ℕ) × (first ≡ Some k) × (k ≤ a.write)

with_one : (write : ℕ) (first : Option ℕ) (x : Armed) → IsNoLater first x → IsNoLater (sooner (Some write) first) x
with_one write first x is = (min write is.0, ap (sooner (Some write)) is.1, low write is.0 x.write is.2)
  where
    low : (a b c : ℕ) → b ≤ c → min a b ≤ c
    low a b c h = omega (arith, h)

of_itself : (a : Armed) (first : Option ℕ) → IsNoLater (sooner (Some a.write) first) a
of_itself a None = (a.write, refl, omega arith)
of_itself a (Some b) = (min a.write b, refl, omega arith)

-- the first one comes no later than any
pub first_least : (armed : List Armed) → AllByRecursion (IsNoLater (first_crash armed)) armed
first_least [] = tt
first_least (a ∷ later) =
    (of_itself a (first_crash later), all_to (IsNoLater (first_crash later)) (IsNoLater (sooner (Some a.write) (first_crash later))) (λ x is. with_one a.write (first_crash later) x is) later (first_least later))

-- one of them is to come at this write
abbrev pub Waits : List Armed → ℕ → Type 0
Waits armed k = (p : ℕ) × (a : Armed) × (slice_get armed p ≡ Some a) × (a.write ≡ k)

by_first : (a : Armed) (later : List Armed) (k : ℕ) (o : Option ℕ) → ((b : ℕ) → o ≡ Some b → Waits later b) → sooner (Some a.write) o ≡ Some k → Waits (a ∷ later) k
by_first a later k None more is = (0, a, refl, some_same is)
by_first a later k (Some b) more is = elim (cases_lt b a.write) [
  | inl less ↦ (let w = more b refl in (suc w.0, w.1, w.2, w.3 ∙ lesser a.write b less ∙ some_same is))
  | inr high ↦ (0, a, refl, sym (greater a.write b high) ∙ some_same is)
]
  where
    lesser : (x y : ℕ) → y < x → y ≡ min x y
    lesser x y h = omega (arith, h)

    greater : (x y : ℕ) → x ≤ y → min x y ≡ x
    greater x y h = omega (arith, h)

pub first_waits : (armed : List Armed) (k : ℕ) → first_crash armed ≡ Some k → Waits armed k
first_waits [] k is = absurd (none_some is)
first_waits (a ∷ later) k is = by_first a later k (first_crash later) (λ b same. first_waits later b same) is

-- ---- what is past

not_yet : (items : List TraceItem) (first : Option ℕ) (a : Armed) → IsBeforeCrash first items → IsNoLater first a → IsNotPast items a
not_yet items first a before is = inl (low (writes_in items) is.0 a.write (before is.0 is.1) is.2)
  where
    low : (x y z : ℕ) → x < y → y ≤ z → x < z
    low x y z h k = omega (arith, h, k)

-- before the first crash none is past
pub none_past : (armed : List Armed) (items : List TraceItem) → IsBeforeCrash (first_crash armed) items → AllByRecursion (IsNotPast items) armed
none_past armed items before = all_to (IsNoLater (first_crash armed)) (IsNotPast items) (λ a is. not_yet items (first_crash armed) a before is) armed (first_least armed)

ends_so : (items : List TraceItem) (crash : Option ℕ) → IsAtCrash crash items → EndsWithWrite items
ends_so items crash at = (at.before, at.it, at.told, at.write)

there_or_not_yet : (items : List TraceItem) (first : Option ℕ) (a : Armed) → IsAtCrash first items → IsNoLater first a → IsNotPast items a
there_or_not_yet items first a at is = elim (cases_lt (writes_in items) a.write) [
  | inl less ↦ inl less
  | inr high ↦ inr (both (writes_in items) is.0 a.write (some_same (sym at.is ∙ is.1)) is.2 high, ends_so items first at)
]
  where
    both : (x y z : ℕ) → x ≡ y → y ≤ z → z ≤ x → x ≡ z
    both x y z e h k = omega (arith, e, h, k)

-- nor is one at the first
pub none_past_there : (armed : List Armed) (items : List TraceItem) → IsAtCrash (first_crash armed) items → AllByRecursion (IsNotPast items) armed
none_past_there armed items at = all_to (IsNoLater (first_crash armed)) (IsNotPast items) (λ a is. there_or_not_yet items (first_crash armed) a at is) armed (first_least armed)

-- so wherever it stops
pub none_past_stopped : (armed : List Armed) (items : List TraceItem) (why : Stop) → StopsByCrash (first_crash armed) items why → AllByRecursion (IsNotPast items) armed
none_past_stopped armed items stop.Crashed at = none_past_there armed items at
none_past_stopped armed items (stop.DiskFailed block rise) before = none_past armed items before
none_past_stopped armed items stop.NoMemory before = none_past armed items before

-- and there it crashes
pub crashes_there : (s : ScriptValue) (count : ℕ) (items : List TraceItem) → IsAtCrash (first_crash s.armed) items → Crashes s count items
crashes_there s count items at = let w = first_waits s.armed (writes_in items) at.is in at_write w.0 w.1 w.2 (sym w.3) (ends_so items (first_crash s.armed) at)

-- where none of them was come to, the first wasn't
pub before_all : (armed : List Armed) (made k : ℕ) → AllByRecursion (λ (a : Armed). made < a.write) armed → first_crash armed ≡ Some k → made < k
before_all armed made k all is = let w = first_waits armed k is in subst (λ (x : ℕ). made < x) w.3 (all_at (λ (a : Armed). made < a.write) armed w.0 w.1 all w.2)

pub all_made : (w write made : ℕ) → w ≡ made → made < write → w + (write - made) ≡ write
all_made w write made same low = omega (arith, same, low)
