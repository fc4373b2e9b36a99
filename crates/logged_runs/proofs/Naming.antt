-- What an item says of a header, by the list of the headers that are told.
use Rattle.std.proofs.Common.{◌≡◌, ◌≢◌, ℕ, ◌<◌, ◌≤◌, List, [], ◌∷◌, ◌++◌, Option, None, Some, refl, sym, ap, ◌∙◌, arith}
use Rattle.std.specs.Prelude.{◌==◌, ◌&&◌, if◌then◌else◌, Bool, true, false}
use Rattle.std.proofs.lemmas.Bool.{cond-true, cond-false, eq-eqb, ne_eqb}
use Rattle.trace_text.specs.declared.item.TraceItem.{TraceItem}
use Rattle.trace_text.specs.declared.item.TraceItem.TheVariants as trace
use Rattle.run_rules.specs.Lives.{AcceptedHead, named}
use Rattle.logged_steps.specs.Heads.{AreNext, HeadTold, heads_told, last_head}
use Rattle.logged_runs.proofs.Staying.{NoneIsClean}

-- ---- the header of this block and sequence

abbrev pub is_head : ℕ → ℕ → HeadTold → Bool
is_head block sequence h = (h.block == block) && (h.sequence == sequence)

abbrev pub find_head : ℕ → ℕ → List HeadTold → Option ℕ
find_head block sequence [] = None
find_head block sequence (h ∷ hs) = if is_head block sequence h then Some h.upto else find_head block sequence hs

same_naming : (own : Bool) (block sequence : ℕ) (h : HeadTold) (hs : List HeadTold) (o : Option ℕ) → o ≡ find_head block sequence hs
    → (if own && is_head block sequence h then Some h.upto else o) ≡ find_head block sequence (if own then h ∷ hs else hs)
same_naming true block sequence h hs o behind = ap (λ (z : Option ℕ). if is_head block sequence h then Some h.upto else z) behind
same_naming false block sequence h hs o behind = behind

pub named_is : (h : AcceptedHead) (xs : List TraceItem) → NoneIsClean xs → named 1 h xs ≡ find_head h.block h.sequence (heads_told xs)
named_is h [] all = refl
named_is h (trace.WriteHead node block sequence upto ∷ xs) all =
    same_naming (node == 1) h.block h.sequence (record { block = block; sequence = sequence; upto = upto }) (heads_told xs) (named 1 h xs) (named_is h xs all.1)
named_is h (trace.WriteClean node block sequence upto ∷ xs) all = absurd all.0
named_is h (x ∷ xs) all = named_is h xs all.1

-- ---- behind one another

abbrev pub or_named : Option ℕ → Option ℕ → Option ℕ
or_named (Some upto) later = Some upto
or_named None later = later

if_named : (t : Bool) (upto : ℕ) (both first later : Option ℕ) → both ≡ or_named first later → (if t then Some upto else both) ≡ or_named (if t then Some upto else first) later
if_named true upto both first later is = refl
if_named false upto both first later is = is

pub named_on : (h : AcceptedHead) (xs ys : List TraceItem) → named 1 h (xs ++ ys) ≡ or_named (named 1 h xs) (named 1 h ys)
named_on h [] ys = refl
named_on h (trace.WriteHead i block sequence upto ∷ xs) ys =
    if_named ((i == 1) && ((block == h.block) && (sequence == h.sequence))) upto (named 1 h (xs ++ ys)) (named 1 h xs) (named 1 h ys) (named_on h xs ys)
named_on h (trace.WriteClean i block sequence upto ∷ xs) ys =
    if_named ((i == 1) && ((block == h.block) && (sequence == h.sequence))) upto (named 1 h (xs ++ ys)) (named 1 h xs) (named 1 h ys) (named_on h xs ys)
named_on h (x ∷ xs) ys = named_on h xs ys

-- ---- of headers one behind the other

and_false : (b : Bool) → (b && false) ≡ false
and_false true = refl
and_false false = refl

pub is_other : (block sequence : ℕ) (h : HeadTold) → h.sequence ≢ sequence → is_head block sequence h ≡ false
is_other block sequence h off = ap (λ t. (h.block == block) && t) (ne_eqb h.sequence sequence off) ∙ and_false (h.block == block)

pub is_itself : (h : HeadTold) → is_head h.block h.sequence h ≡ true
is_itself h = (λ i. eq-eqb h.block h.block refl i && eq-eqb h.sequence h.sequence refl i)

above : (n : ℕ) (front : List HeadTold) (h : HeadTold) (back : List HeadTold) → AreNext n (front ++ h ∷ back) → n < h.sequence
above n [] h back next = omega (arith, next.0)
above n (g ∷ front) h back next = (let less = above g.sequence front h back next.1 in let e = next.0 in omega (arith, less, e))

-- each is found by its own block and sequence
pub found : (n : ℕ) (front : List HeadTold) (h : HeadTold) (back : List HeadTold) → AreNext n (front ++ h ∷ back) → find_head h.block h.sequence (front ++ h ∷ back) ≡ Some h.upto
found n [] h back next = cond-true (is_head h.block h.sequence h) (Some h.upto) (find_head h.block h.sequence back) (is_itself h)
found n (g ∷ front) h back next =
    cond-false (is_head h.block h.sequence g) (Some g.upto) (find_head h.block h.sequence (front ++ h ∷ back)) (is_other h.block h.sequence g (λ e. absurd (let less = above g.sequence front h back next.1 in omega (arith, less, e))))
    ∙ found g.sequence front h back next.1

-- none is found with the sequence of before
pub none_before : (n block sequence : ℕ) (hs : List HeadTold) → sequence ≤ n → AreNext n hs → find_head block sequence hs ≡ None
none_before n block sequence [] low next = refl
none_before n block sequence (h ∷ hs) low next =
    cond-false (is_head block sequence h) (Some h.upto) (find_head block sequence hs) (is_other block sequence h (λ e. absurd (let at = next.0 in omega (arith, low, e, at))))
    ∙ none_before h.sequence block sequence hs (let at = next.0 in omega (arith, low, at)) next.1

pub last_above : (first : HeadTold) (hs : List HeadTold) → AreNext first.sequence hs → first.sequence ≤ (last_head first hs).sequence
last_above first [] next = omega arith
last_above first (h ∷ hs) next = (let more = last_above h hs next.1 in let at = next.0 in omega (arith, more, at))

-- nor with one behind the last
pub none_behind : (first : HeadTold) (block sequence : ℕ) (hs : List HeadTold) → AreNext first.sequence hs → (last_head first hs).sequence < sequence → find_head block sequence hs ≡ None
none_behind first block sequence [] next high = refl
none_behind first block sequence (h ∷ hs) next high =
    cond-false (is_head block sequence h) (Some h.upto) (find_head block sequence hs) (is_other block sequence h (λ e. absurd (let more = last_above h hs next.1 in omega (arith, more, high, e))))
    ∙ none_behind h block sequence hs next.1 high

-- the last is the one before all, or among them
pub data IsLastOf (first : HeadTold) (hs : List HeadTold) : Type 0 where
  none_came : hs ≡ [] → IsLastOf first hs
  the_last : (front : List HeadTold) → hs ≡ front ++ last_head first hs ∷ [] → IsLastOf first hs

pub last_of : (first : HeadTold) (hs : List HeadTold) → IsLastOf first hs
last_of first [] = none_came refl
last_of first (h ∷ hs) = by (last_of h hs)
  where
    by : IsLastOf h hs → IsLastOf first (h ∷ hs)
    by (none_came none) = the_last [] (ap (λ gs. h ∷ gs) none ∙ sym (ap (λ gs. last_head h gs ∷ []) none))
    by (the_last front is) = the_last (h ∷ front) (ap (λ gs. h ∷ gs) is)
