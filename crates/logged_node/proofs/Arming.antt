-- At which write a node is to crash.
use Rattle.std.proofs.Common.{◌≡◌, ◌<◌, ◌+◌, ℕ, true, false, Bool, cond, List, [], ◌∷◌, ◌++◌, Option, None, Some, refl, sym, ap, ap₂, subst, ◌∙◌, arith}
use Rattle.std.proofs.lemmas.List.Sums.{sum_by-append, sum_by-cons}
use Rattle.run_rules.specs.Follows.{is_write_of}
use Rattle.trace_text.specs.declared.item.TraceItem.{TraceItem}
use Rattle.logged_node.specs.Deeds.{IsLastWrite, IsNotLastWrite, one_less}
use Rattle.logged_node.specs.Nodes.{Awaits, IsBeforeCrash, crash_of, writes_in}
use Rattle.logged_node.proofs.Blocks.{none_some, some_same}

abbrev counted : TraceItem → ℕ
counted x = cond (is_write_of 1 x) 1 0

writes_with : (items : List TraceItem) (item : TraceItem) (k : ℕ) → counted item ≡ k → writes_in (items ++ item ∷ []) ≡ writes_in items + k
writes_with items item k is = (let all = sum_by-append counted items (item ∷ []) in let last = sum_by-cons counted item [] in omega (arith, all, last, is))

writes_more : (items : List TraceItem) (item : TraceItem) → is_write_of 1 item ≡ true → writes_in (items ++ item ∷ []) ≡ writes_in items + 1
writes_more items item is = writes_with items item 1 (ap (λ (b : Bool). cond b 1 0) is)

writes_same : (items : List TraceItem) (item : TraceItem) → is_write_of 1 item ≡ false → writes_in (items ++ item ∷ []) ≡ writes_in items
writes_same items item is = (let all = writes_with items item 0 (ap (λ (b : Bool). cond b 1 0) is) in omega (arith, all))

-- one write more, and one less to be made
pub crash_moves : (armed armed' : Option ℕ) (items items' : List TraceItem) (item : TraceItem) → is_write_of 1 item ≡ true → items' ≡ items ++ item ∷ [] → IsNotLastWrite armed → armed' ≡ one_less armed
    → crash_of armed' items' ≡ crash_of armed items
crash_moves armed armed' items items' item is more left less = ap₂ crash_of less more ∙ by armed left
  where
    by : (o : Option ℕ) → IsNotLastWrite o → crash_of (one_less o) (items ++ item ∷ []) ≡ crash_of o items
    by None left = refl
    by (Some n) left = ap (λ (k : ℕ). Some k) (let w = writes_more items item is in omega (arith, w, left))

pub awaits_less : (armed armed' : Option ℕ) → IsNotLastWrite armed → armed' ≡ one_less armed → Awaits armed'
awaits_less armed armed' left less = subst Awaits (sym less) (by armed left)
  where
    by : (o : Option ℕ) → IsNotLastWrite o → Awaits (one_less o)
    by None left = tt
    by (Some n) left = omega (arith, left)

-- at the last one it crashes
pub crash_there : (armed : Option ℕ) (items items' : List TraceItem) (item : TraceItem) → is_write_of 1 item ≡ true → items' ≡ items ++ item ∷ [] → Awaits armed → IsLastWrite armed → crash_of armed items ≡ Some (writes_in items')
crash_there armed items items' item is more awaits last = by armed awaits last ∙ ap (λ (l : List TraceItem). Some (writes_in l)) (sym more)
  where
    by : (o : Option ℕ) → Awaits o → IsLastWrite o → crash_of o items ≡ Some (writes_in (items ++ item ∷ []))
    by None awaits last = absurd last
    by (Some n) awaits last = ap (λ (k : ℕ). Some k) (let w = writes_more items item is in omega (arith, w, awaits, last))

-- other items are no writes
pub crash_stays : (armed : Option ℕ) (items items' : List TraceItem) (item : TraceItem) → is_write_of 1 item ≡ false → items' ≡ items ++ item ∷ [] → crash_of armed items' ≡ crash_of armed items
crash_stays armed items items' item is more = ap (crash_of armed) more ∙ by armed
  where
    by : (o : Option ℕ) → crash_of o (items ++ item ∷ []) ≡ crash_of o items
    by None = refl
    by (Some n) = ap (λ (k : ℕ). Some (k + n)) (writes_same items item is)

-- ---- how it stops

-- one that awaits its write hasn't come to it
pub before_crash : (armed : Option ℕ) (items : List TraceItem) → Awaits armed → IsBeforeCrash (crash_of armed items) items
before_crash armed items awaits k is = by armed awaits is
  where
    by : (o : Option ℕ) → Awaits o → crash_of o items ≡ Some k → writes_in items < k
    by None awaits is = absurd (none_some is)
    by (Some left) awaits is = (let same : writes_in items + left ≡ k = some_same is in omega (arith, awaits, same))

-- so with items that are the same
pub before_still : (armed : Option ℕ) (items items' : List TraceItem) → Awaits armed → items' ≡ items → IsBeforeCrash (crash_of armed items) items'
before_still armed items items' awaits same = subst (IsBeforeCrash (crash_of armed items)) (sym same) (before_crash armed items awaits)
