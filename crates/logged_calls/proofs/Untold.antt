-- Steps that count no call tell none.
use Rattle.std.proofs.Common.{◌≡◌, ◌≤◌, ℕ, suc, true, false, Bool, if◌then◌else◌, List, [], ◌∷◌, ◌++◌, refl, sym, ap, ◌∙◌, arith}
use Rattle.std.specs.List.{filter}
use Rattle.trace_text.specs.declared.item.TraceItem.{TraceItem}
use Rattle.trace_text.specs.declared.item.TraceItem.TheVariants as trace
use Rattle.lone_scripts.specs.Runs.{is_call}
use Rattle.logged_answers.specs.Fails.{AsItWas, FailsTo, InAWrite}
use Rattle.logged_answers.specs.Points.{Point}
use Rattle.logged_answers.specs.Steps as by
use Rattle.logged_answers.specs.Steps.{Here, Step, Steps, Then}
use Rattle.logged_calls.specs.Calls.{TellsNoCall}

-- ---- items

nothing_behind : (xs : List TraceItem) → xs ++ [] ≡ xs
nothing_behind [] = refl
nothing_behind (x ∷ xs) = ap (λ ys. x ∷ ys) (nothing_behind xs)

pub behind_both : (xs ys zs : List TraceItem) → (xs ++ ys) ++ zs ≡ xs ++ (ys ++ zs)
behind_both [] ys zs = refl
behind_both (x ∷ xs) ys zs = ap (λ us. x ∷ us) (behind_both xs ys zs)

no_calls : (xs ys : List TraceItem) → filter is_call xs ≡ [] → filter is_call ys ≡ [] → filter is_call (xs ++ ys) ≡ []
no_calls [] ys none more = more
no_calls (x ∷ xs) ys none more = at (is_call x) refl (λ less. no_calls xs ys less more)
  where
    at : (b : Bool) → is_call x ≡ b → (filter is_call xs ≡ [] → filter is_call (xs ++ ys) ≡ []) → filter is_call (x ∷ xs ++ ys) ≡ []
    at true e rest = absurd (let some : x ∷ filter is_call xs ≡ [] = sym (ap (λ (c : Bool). if c then x ∷ filter is_call xs else filter is_call xs) e) ∙ none in cc)
    at false e rest = ap (λ (c : Bool). if c then x ∷ filter is_call (xs ++ ys) else filter is_call (xs ++ ys)) e ∙ rest (sym (ap (λ (c : Bool). if c then x ∷ filter is_call xs else filter is_call xs) e) ∙ none)

pub tells_nothing : (items : List TraceItem) → TellsNoCall items items
tells_nothing items = record { more = []; told = sym (nothing_behind items); none = refl }

pub tells_behind : (a b c : List TraceItem) → TellsNoCall a b → TellsNoCall b c → TellsNoCall a c
tells_behind a b c x y = record { more = x.more ++ y.more; told = y.told ∙ ap (λ zs. zs ++ y.more) x.told ∙ behind_both a x.more y.more; none = no_calls x.more y.more x.none y.none }

pub tells_one : (items : List TraceItem) (x : TraceItem) → is_call x ≡ false → TellsNoCall items (items ++ x ∷ [])
tells_one items x none = record { more = x ∷ []; told = refl; none = ap (λ (b : Bool). if b then x ∷ [] else []) none }

-- ---- steps

-- it counts one call, or none, and then tells none
data Counts (p q : Point) : Type 0 where
  one : q.numbers.answered ≡ suc p.numbers.answered → Counts p q
  none : q.numbers.answered ≡ p.numbers.answered → TellsNoCall p.items q.items → Counts p q

counts : (time : ℕ) (p q : Point) → Step time p q → Counts p q
counts time p _ (by.Reads is b lock bytes asked absent whole told) = none refl (tells_nothing p.items)
counts time p _ (by.Answers is name call reply change kept done some can fits keeps) = one refl
counts time p _ (by.AnswersQuietly is name call reply change done nothing no_sync) = one refl
counts time p _ (by.Syncs is name all) = one refl
counts time p _ (by.TellsFull is call need free less all) = none refl (tells_one p.items (trace.Full 1 need free) refl)
counts time p _ (by.HasNoSpace name call need free next less last) = one refl
counts time p _ (by.BeginsFlush next idle due room) = none refl (tells_nothing p.items)
counts time p _ (by.BeginsHeader next idle home some stuck) = none refl (tells_nothing p.items)
counts time p _ (by.WritesLog new f b bytes list is numbers made may gains) = none refl (tells_one p.items (trace.WriteLog 1 b) refl)
counts time p _ (by.EndsBlocks new f done bytes list is stage made flies gains) = none refl (tells_one p.items (trace.Barrier 1) refl)
counts time p _ (by.WritesHead new f b sequence bytes list is numbers made may gains) = none refl (tells_one p.items (trace.WriteHead 1 b sequence p.numbers.begun) refl)
counts time p _ (by.EndsFlush new f tail bytes list is numbers stage made flies gains) = none refl (tells_one p.items (trace.Barrier 1) refl)
counts time p _ (by.Commits b next last) = none refl (tells_one p.items (trace.Commit 1 p.log.sequence p.numbers.low) refl)
counts time p _ (by.GoesHome next new lock b bytes list sent may gains) = none refl (tells_one p.items (trace.WriteHome 1 b) refl)
counts time p _ (by.Rests new list next no_header settles flies gains) = none refl (tells_one p.items (trace.Barrier 1) refl)
counts time p _ (by.Unmounts is) = none refl (tells_one p.items (trace.Unmount 1) refl)

pub no_fewer : (time : ℕ) (p q : Point) → Steps time p q → p.numbers.answered ≤ q.numbers.answered
no_fewer time p _ Here = omega arith
no_fewer time p _ (Then q r steps step) = at (counts time q r step) (no_fewer time p q steps)
  where
    at : Counts q r → p.numbers.answered ≤ q.numbers.answered → p.numbers.answered ≤ r.numbers.answered
    at (one more) low = omega (arith, more, low)
    at (none same tells) low = omega (arith, same, low)

pub quiet_steps : (time : ℕ) (p q : Point) → Steps time p q → q.numbers.answered ≡ p.numbers.answered → TellsNoCall p.items q.items
quiet_steps time p _ Here same = tells_nothing p.items
quiet_steps time p _ (Then q r steps step) same = at (counts time q r step) (no_fewer time p q steps) (quiet_steps time p q steps)
  where
    at : Counts q r → p.numbers.answered ≤ q.numbers.answered → (q.numbers.answered ≡ p.numbers.answered → TellsNoCall p.items q.items) → TellsNoCall p.items r.items
    at (one more) low before = absurd (too_many r.numbers.answered q.numbers.answered p.numbers.answered more low same)
      where
        too_many : (c b a : ℕ) → c ≡ suc b → a ≤ b → c ≡ a → ⊥
        too_many c b a x y z = omega (arith, x, y, z)
    at (none still tells) low before = tells_behind p.items q.items r.items (before (sym still ∙ same)) tells

-- a write that failed tells nothing
pub failed_tells : (time : ℕ) (p q : Point) → FailsTo time p q → q.items ≡ p.items
failed_tells time p _ AsItWas = refl
failed_tells time p _ (InAWrite b bytes list log item told step) = refl
