-- What is live of some of a journal's transactions, and of all of them.
use Rattle.std.proofs.Common.{◌≡◌, ◌+◌, ◌<◌, ◌≤◌, ◌++◌, ℕ, suc, Bool, true, false, List, [], ◌∷◌, Option, None, Some, refl, sym, ap, subst, ◌∙◌, inl, inr, arith}
use Rattle.std.specs.Prelude.{◌⊎◌, ◌==◌, ◌&&◌, ◌||◌, nat_lt, if◌then◌else◌}
use Rattle.std.specs.List.{AllByRecursion, flat_map, last_or, list_any}
use Rattle.std.proofs.lemmas.Bool.{cond-false}
use Rattle.std.proofs.lemmas.Bool.Decides.{nat_tests}
use Rattle.std.proofs.lemmas.Grind.{flat_map-append}
use Rattle.std.proofs.lemmas.List.Folds.{list_any-append}
use Rattle.log_layout.specs.Chunks.{Logged}
use Rattle.log_layout.specs.Live.{counting, entries_in, is_cancelled, live_entry}
use Rattle.log_layout.specs.Transactions.{Sequenced}
use Rattle.log_rings.specs.Laid.{Laid, SequencesRise, sequenced_all}
use Rattle.log_rings.proofs.Pieces.{sequenced-append}

-- ---- sequences

-- all of these are below all of those
abbrev pub AllBelow : List Sequenced → ℕ → Type 0
AllBelow ts s = AllByRecursion (λ (t : Sequenced). t.sequence < s) ts

abbrev pub AllAbove : ℕ → List Sequenced → Type 0
AllAbove s ts = AllByRecursion (λ (t : Sequenced). s < t.sequence) ts

above_laid : (s : ℕ) (ts : List Laid) → AllByRecursion (λ (u : Laid). s < u.sequenced.sequence) ts → AllAbove s (sequenced_all ts)
above_laid s [] all = tt
above_laid s (t ∷ ts) all = (all.0, above_laid s ts all.1)

above_behind : (s : ℕ) (before ts : List Laid) → AllByRecursion (λ (u : Laid). s < u.sequenced.sequence) (before ++ ts) → AllByRecursion (λ (u : Laid). s < u.sequenced.sequence) ts
above_behind s [] ts all = all
above_behind s (t ∷ before) ts all = above_behind s before ts all.1

pub rise_behind : (before ts : List Laid) → SequencesRise (before ++ ts) → SequencesRise ts
rise_behind [] ts rise = rise
rise_behind (t ∷ before) ts rise = rise_behind before ts rise.1

-- ---- what is cancelled

-- revokes of transactions before one cancel nothing of it
none_before : (before : List Sequenced) (b s : ℕ) → AllByRecursion (λ (t : Sequenced). t.sequence ≤ s) before → is_cancelled before b s ≡ false
none_before [] b s all = refl
none_before (t ∷ before) b s all =
    let no : nat_lt s t.sequence ≡ false = grind (arith, nat_tests, all.0) in
    λ i. (no i && list_any (λ r. r == b) t.transaction.revokes) || none_before before b s all.1 i

cancelled_alike : (before ts : List Sequenced) (b s : ℕ) → AllByRecursion (λ (t : Sequenced). t.sequence ≤ s) before → is_cancelled (before ++ ts) b s ≡ is_cancelled ts b s
cancelled_alike before ts b s all =
    list_any-append (λ (t : Sequenced). nat_lt s t.sequence && list_any (λ r. r == b) t.transaction.revokes) before ts
    ∙ ap (λ x. x || is_cancelled ts b s) (none_before before b s all)

-- ---- what counts

module _ (all : List Sequenced) (b : ℕ) where
  -- of one transaction, what all of them don't cancel
  abbrev pub of_all : Sequenced → List Logged
  of_all t = if is_cancelled all b t.sequence then [] else entries_in b t.transaction

each_alike : (before ts us : List Sequenced) (b : ℕ) → ((u : Sequenced) → AllByRecursion (λ (t : Sequenced). t.sequence ≤ u.sequence) before → of_all (before ++ ts) b u ≡ of_all ts b u)
    → AllByRecursion (λ (u : Sequenced). AllByRecursion (λ (t : Sequenced). t.sequence ≤ u.sequence) before) us → flat_map (of_all (before ++ ts) b) us ≡ flat_map (of_all ts b) us
each_alike before ts [] b one low = refl
each_alike before ts (u ∷ us) b one low = λ i. one u low.0 i ++ each_alike before ts us b one low.1 i

pub counting_behind : (before ts : List Sequenced) (b : ℕ) → AllByRecursion (λ (u : Sequenced). AllByRecursion (λ (t : Sequenced). t.sequence ≤ u.sequence) before) ts
    → counting (before ++ ts) b ≡ flat_map (of_all (before ++ ts) b) before ++ counting ts b
counting_behind before ts b low =
    flat_map-append (of_all (before ++ ts) b) before ts
    ∙ ap (λ es. flat_map (of_all (before ++ ts) b) before ++ es)
    (each_alike before ts ts b (λ u all. λ i. if cancelled_alike before ts b u.sequence all i then [] else entries_in b u.transaction) low)

last_append : (d : Option Logged) (xs ys : List Logged) → last_or d (xs ++ ys) ≡ last_or (last_or d xs) ys
last_append d [] ys = refl
last_append d (x ∷ xs) ys = last_append (Some x) xs ys

-- of some there is a last, whatever comes before
some_last : (d : Option Logged) (ys : List Logged) (e : Logged) → last_or None ys ≡ Some e → last_or d ys ≡ Some e
some_last d [] e is = absurd (let bad : ◌≡◌ {A = Option Logged} None (Some e) = is in cc)
some_last d (y ∷ ys) e is = is

-- what is live of the later ones is live of all
pub live_of_later : (before ts : List Sequenced) (b : ℕ) (e : Logged) → AllByRecursion (λ (u : Sequenced). AllByRecursion (λ (t : Sequenced). t.sequence ≤ u.sequence) before) ts
    → live_entry ts b ≡ Some e → live_entry (before ++ ts) b ≡ Some e
live_of_later before ts b e low is =
    ap (last_or None) (counting_behind before ts b low) ∙ last_append None (flat_map (of_all (before ++ ts) b) before) (counting ts b)
    ∙ some_last (last_or None (flat_map (of_all (before ++ ts) b) before)) (counting ts b) e is

-- ---- transactions that are laid

-- each is above one
lows_of : (s : ℕ) (ts : List Laid) → AllByRecursion (λ (u : Laid). s < u.sequenced.sequence) ts → AllByRecursion (λ (u : Sequenced). s ≤ u.sequence) (sequenced_all ts)
lows_of s [] all = tt
lows_of s (t ∷ ts) all = ((let l = all.0 in omega (arith, l)), lows_of s ts all.1)

-- one more below each
one_lower : (t : Sequenced) (before us : List Sequenced) → AllByRecursion (λ (u : Sequenced). t.sequence ≤ u.sequence) us → AllByRecursion (λ (u : Sequenced). AllByRecursion (λ (v : Sequenced). v.sequence ≤ u.sequence) before) us
    → AllByRecursion (λ (u : Sequenced). AllByRecursion (λ (v : Sequenced). v.sequence ≤ u.sequence) (t ∷ before)) us
one_lower t before [] here rest = tt
one_lower t before (u ∷ us) here rest = ((here.0, rest.0), one_lower t before us here.1 rest.1)

none_lower : (us : List Sequenced) → AllByRecursion (λ (u : Sequenced). AllByRecursion (λ (v : Sequenced). v.sequence ≤ u.sequence) []) us
none_lower [] = tt
none_lower (u ∷ us) = (tt, none_lower us)

pub all_lower : (before ts : List Laid) → SequencesRise (before ++ ts)
    → AllByRecursion (λ (u : Sequenced). AllByRecursion (λ (v : Sequenced). v.sequence ≤ u.sequence) (sequenced_all before)) (sequenced_all ts)
all_lower [] ts rise = none_lower (sequenced_all ts)
all_lower (t ∷ before) ts rise =
    one_lower t.sequenced (sequenced_all before) (sequenced_all ts) (lows_of t.sequenced.sequence ts (above_behind t.sequenced.sequence before ts rise.0)) (all_lower before ts rise.1)

-- what is live of the last ones is live of all of them
pub live_laid : (before ts : List Laid) (b : ℕ) (e : Logged) → SequencesRise (before ++ ts) → live_entry (sequenced_all ts) b ≡ Some e → live_entry (sequenced_all (before ++ ts)) b ≡ Some e
live_laid before ts b e rise is =
    ap (λ us. live_entry us b) (sequenced-append before ts) ∙ live_of_later (sequenced_all before) (sequenced_all ts) b e (all_lower before ts rise) is

-- where nothing is live of all, nothing is of the last ones
pub none_laid : (before ts : List Laid) (b : ℕ) → SequencesRise (before ++ ts) → live_entry (sequenced_all (before ++ ts)) b ≡ None → live_entry (sequenced_all ts) b ≡ None
none_laid before ts b rise none = by (live_entry (sequenced_all ts) b) refl
  where
    by : (o : Option Logged) → live_entry (sequenced_all ts) b ≡ o → live_entry (sequenced_all ts) b ≡ None
    by None is = is
    by (Some e) is = absurd (let bad : ◌≡◌ {A = Option Logged} None (Some e) = sym none ∙ live_laid before ts b e rise is in cc)
