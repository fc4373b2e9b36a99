-- What a draft's change is of the draft: the list of entries rises, and so each entry is found.
use Rattle.std.proofs.Common.{◌≡◌, ℕ, zero, suc, ◌<◌, inl, inr, Bool, true, false, cond, T, ◌&&◌, map, List, [], ◌∷◌, length, Option, None, Some, slice_get, refl, sym, ap, ◌∙◌, subst, arith}
use Rattle.std.specs.Prelude.{◌||◌, ◌==◌, if◌then◌else◌, is_some, unwrap_or}
use Rattle.std.specs.declared.cmp.Ordering.{Ordering}
use Rattle.std.specs.declared.cmp.Ordering.TheVariants.{Less, Equal, Greater}
use Rattle.std.specs.Ordering.{nat_cmp, eq_by_cmp, is_lt, MatchOrdering}
use Rattle.std.specs.Cmp.{nat_cmp_total, ranks}
use Rattle.std.specs.List.{AllByRecursion, list_any}
use Rattle.std.specs.List.Sorted.{IsStrictlySortedBy}
use Rattle.std.specs.FinMap.{FinMap, get, entries, find, is_sorted, get-entries, entries_sorted, nat_cmp-IsAntisymmetric}
use Rattle.std.specs.FinMap.Entries.{below_all}
use Rattle.std.proofs.lemmas.Bool.{cases_eq, eq-eqb, eqb-true, ne_eqb, true≢false}
use Rattle.finite_maps.proofs.Keys.{tied, untied}
use Rattle.glock_names.specs.declared.LockName.{LockName}
use Rattle.drafts.specs.declared.change.Change.{Change}
use Rattle.drafts.specs.declared.change.Written.{Written}
use Rattle.drafts.specs.declared.fate.Fate.{Fate}
use Rattle.drafts.specs.declared.fate.Fate.TheVariants.{Put, Freed}
use Rattle.drafts.specs.Fates.{block_with, blocks_in, locks_in, freed_in}
use Rattle.image_model.proofs.Held.{none_some, some_same}
use Rattle.image_changes.specs.Does.{bytes_for, writes, frees, IsFormed}
use Rattle.image_changes.specs.Drafted.{is_gone, is_put, is_freed, IsFinished, IsOfDraft, FinishMakes, DraftsShow}

abbrev Fated : Type 0
Fated = List (ℕ × Fate)

-- ---- numbers that rise

both_of : (a b : Bool) → T (a && b) → T a × T b
both_of true b h = (tt, h)
both_of false b h = absurd h

less : (r : Ordering) → T (is_lt r) → r ≡ Less
less Less h = refl
less Equal h = absurd h
less Greater h = absurd h

above : (k x : ℕ) → T (is_lt (nat_cmp k x)) → k < x
above k x h = by (nat_cmp k x) (ranks k x) h
  where
    by : (r : Ordering) → MatchOrdering r (k < x) (k ≡ x) (x < k) → T (is_lt r) → k < x
    by Less m t = m
    by Equal m t = absurd t
    by Greater m t = absurd t

differs : (k x : ℕ) → T (is_lt (nat_cmp k x)) → x ≡ k → ⊥
differs k x h e = let l = above k x h in omega (arith, l, e)

-- two keys tie where they are the same
same_tie : (b x : ℕ) → eq_by_cmp nat_cmp b x ≡ (x == b)
same_tie b x = elim (cases_eq x b) [
  | inl e ↦ subst (λ z. eq_by_cmp nat_cmp b z ≡ (z == b)) (sym e) (tied nat_cmp_total b ∙ sym (eq-eqb b b refl))
  | inr apart ↦ untied nat_cmp-IsAntisymmetric b x (λ e. apart (sym e)) ∙ sym (ne_eqb x b apart)
]

-- ---- a number below all keys isn't among them

find_above : (k : ℕ) (es : Fated) → T (below_all nat_cmp k es) → find nat_cmp k es ≡ None
find_above k [] h = refl
find_above k (e ∷ es) h =
    let hs = both_of (is_lt (nat_cmp k e.0)) (below_all nat_cmp k es) h in
    ap (λ t. cond t (Some e.1) (find nat_cmp k es)) (untied nat_cmp-IsAntisymmetric k e.0 (λ s. differs k e.0 hs.0 (sym s))) ∙ find_above k es hs.1

bytes_above : (k : ℕ) (es : Fated) → T (below_all nat_cmp k es) → bytes_for (blocks_in es) k ≡ None
bytes_above k [] h = refl
bytes_above k ((x, Put lock plain bytes) ∷ es) h =
    let hs = both_of (is_lt (nat_cmp k x)) (below_all nat_cmp k es) h in
    ap (λ t. if t then Some bytes else bytes_for (blocks_in es) k) (ne_eqb x k (differs k x hs.0)) ∙ bytes_above k es hs.1
bytes_above k ((x, Freed) ∷ es) h = bytes_above k es (both_of (is_lt (nat_cmp k x)) (below_all nat_cmp k es) h).1

freed_above : (k : ℕ) (es : Fated) → T (below_all nat_cmp k es) → list_any (λ f. f == k) (freed_in es) ≡ false
freed_above k [] h = refl
freed_above k ((x, Put lock plain bytes) ∷ es) h = freed_above k es (both_of (is_lt (nat_cmp k x)) (below_all nat_cmp k es) h).1
freed_above k ((x, Freed) ∷ es) h =
    let hs = both_of (is_lt (nat_cmp k x)) (below_all nat_cmp k es) h in
    let apart = ne_eqb x k (differs k x hs.0) in
    ap (λ t. t || list_any (λ f. f == k) (freed_in es)) apart ∙ freed_above k es hs.1

all_above : (k : ℕ) (es : Fated) → T (below_all nat_cmp k es) → AllByRecursion (λ y. nat_cmp k y ≡ Less) (map (λ (w : Written). w.block) (blocks_in es))
all_above k [] h = tt
all_above k ((x, Put lock plain bytes) ∷ es) h =
    let hs = both_of (is_lt (nat_cmp k x)) (below_all nat_cmp k es) h in
    (less (nat_cmp k x) hs.0, all_above k es hs.1)
all_above k ((x, Freed) ∷ es) h = all_above k es (both_of (is_lt (nat_cmp k x)) (below_all nat_cmp k es) h).1

gone_above : (k : ℕ) (es : Fated) → T (below_all nat_cmp k es) → AllByRecursion (λ y. nat_cmp k y ≡ Less) (freed_in es)
gone_above k [] h = tt
gone_above k ((x, Put lock plain bytes) ∷ es) h = gone_above k es (both_of (is_lt (nat_cmp k x)) (below_all nat_cmp k es) h).1
gone_above k ((x, Freed) ∷ es) h =
    let hs = both_of (is_lt (nat_cmp k x)) (below_all nat_cmp k es) h in
    (less (nat_cmp k x) hs.0, gone_above k es hs.1)

-- ---- the form

tail_sorted : (x : ℕ) (f : Fate) (es : Fated) → T (is_sorted nat_cmp ((x, f) ∷ es)) → T (below_all nat_cmp x es) × T (is_sorted nat_cmp es)
tail_sorted x f es h = both_of (below_all nat_cmp x es) (is_sorted nat_cmp es) h

blocks_rise : (es : Fated) → T (is_sorted nat_cmp es) → IsStrictlySortedBy nat_cmp (map (λ (w : Written). w.block) (blocks_in es))
unfolding IsStrictlySortedBy
blocks_rise [] h = tt
blocks_rise ((x, Put lock plain bytes) ∷ es) h =
    let hs = tail_sorted x (Put lock plain bytes) es h in
    (all_above x es hs.0, blocks_rise es hs.1)
blocks_rise ((x, Freed) ∷ es) h = blocks_rise es (tail_sorted x Freed es h).1

freed_rise : (es : Fated) → T (is_sorted nat_cmp es) → IsStrictlySortedBy nat_cmp (freed_in es)
unfolding IsStrictlySortedBy
freed_rise [] h = tt
freed_rise ((x, Put lock plain bytes) ∷ es) h = freed_rise es (tail_sorted x (Put lock plain bytes) es h).1
freed_rise ((x, Freed) ∷ es) h =
    let hs = tail_sorted x Freed es h in
    (gone_above x es hs.0, freed_rise es hs.1)

as_many : (es : Fated) → length (locks_in es) ≡ length (blocks_in es)
as_many [] = refl
as_many ((x, Put lock plain bytes) ∷ es) = let r = as_many es in omega (arith, r)
as_many ((x, Freed) ∷ es) = as_many es

-- ---- what is found

bytes_found : (es : Fated) (b : ℕ) → T (is_sorted nat_cmp es) → bytes_for (blocks_in es) b ≡ block_with (find nat_cmp b es) None
bytes_found [] b h = refl
bytes_found ((x, Put lock plain bytes) ∷ es) b h =
    by (x == b) (bytes_found es b (tail_sorted x (Put lock plain bytes) es h).1) ∙ sym (ap (λ t. block_with (cond t (Some (Put lock plain bytes)) (find nat_cmp b es)) None) (same_tie b x))
  where
    by : (t : Bool) → bytes_for (blocks_in es) b ≡ block_with (find nat_cmp b es) None
        → (if t then Some bytes else bytes_for (blocks_in es) b) ≡ block_with (cond t (Some (Put lock plain bytes)) (find nat_cmp b es)) None
    by true rest = refl
    by false rest = rest
bytes_found ((x, Freed) ∷ es) b h =
    by (x == b) refl (bytes_found es b (tail_sorted x Freed es h).1) ∙ sym (ap (λ t. block_with (cond t (Some Freed) (find nat_cmp b es)) None) (same_tie b x))
  where
    by : (t : Bool) → (x == b) ≡ t → bytes_for (blocks_in es) b ≡ block_with (find nat_cmp b es) None
        → bytes_for (blocks_in es) b ≡ block_with (cond t (Some Freed) (find nat_cmp b es)) None
    by true e rest = subst (λ z. bytes_for (blocks_in es) z ≡ None) (eqb-true x b e) (bytes_above x es (tail_sorted x Freed es h).0)
    by false e rest = rest

freed_found : (es : Fated) (b : ℕ) → T (is_sorted nat_cmp es) → list_any (λ f. f == b) (freed_in es) ≡ is_gone (find nat_cmp b es)
freed_found [] b h = refl
freed_found ((x, Put lock plain bytes) ∷ es) b h =
    by (x == b) refl (freed_found es b (tail_sorted x (Put lock plain bytes) es h).1) ∙ sym (ap (λ t. is_gone (cond t (Some (Put lock plain bytes)) (find nat_cmp b es))) (same_tie b x))
  where
    by : (t : Bool) → (x == b) ≡ t → list_any (λ f. f == b) (freed_in es) ≡ is_gone (find nat_cmp b es)
        → list_any (λ f. f == b) (freed_in es) ≡ is_gone (cond t (Some (Put lock plain bytes)) (find nat_cmp b es))
    by true e rest = subst (λ z. list_any (λ f. f == z) (freed_in es) ≡ false) (eqb-true x b e) (freed_above x es (tail_sorted x (Put lock plain bytes) es h).0)
    by false e rest = rest
freed_found ((x, Freed) ∷ es) b h =
    by (x == b) (freed_found es b (tail_sorted x Freed es h).1) ∙ sym (ap (λ t. is_gone (cond t (Some Freed) (find nat_cmp b es))) (same_tie b x))
  where
    by : (t : Bool) → list_any (λ f. f == b) (freed_in es) ≡ is_gone (find nat_cmp b es)
        → (t || list_any (λ f. f == b) (freed_in es)) ≡ is_gone (cond t (Some Freed) (find nat_cmp b es))
    by true rest = refl
    by false rest = rest

-- what is found further on is found
onward : (x : ℕ) (f : Fate) (es : Fated) (q : ℕ) (g : Fate) → T (below_all nat_cmp x es) → find nat_cmp q es ≡ Some g → find nat_cmp q ((x, f) ∷ es) ≡ Some g
onward x f es q g h e = elim (cases_eq q x) [
  | inl same ↦ absurd (none_some (sym (find_above x es h) ∙ ap (λ z. find nat_cmp z es) (sym same) ∙ e))
  | inr apart ↦ ap (λ t. cond t (Some f) (find nat_cmp q es)) (untied nat_cmp-IsAntisymmetric q x apart) ∙ e
]

told_found : (es : Fated) (i : ℕ) (w : Written) (lock : LockName) → T (is_sorted nat_cmp es) → slice_get (blocks_in es) i ≡ Some w → slice_get (locks_in es) i ≡ Some lock
    → find nat_cmp w.block es ≡ Some (Put lock w.plain w.bytes)
told_found [] i w lock h at at' = absurd (none_some at)
told_found ((x, Put k plain bytes) ∷ es) zero w lock h at at' =
    let here : find nat_cmp x ((x, Put k plain bytes) ∷ es) ≡ Some (Put k plain bytes) = ap (λ t. cond t (Some (Put k plain bytes)) (find nat_cmp x es)) (tied nat_cmp_total x) in
    subst (λ (z : Written). find nat_cmp z.block ((x, Put k plain bytes) ∷ es) ≡ Some (Put lock z.plain z.bytes)) (some_same at) (here ∙ ap (λ z. Some (Put z plain bytes)) (some_same at'))
told_found ((x, Put k plain bytes) ∷ es) (suc i) w lock h at at' =
    let hs = tail_sorted x (Put k plain bytes) es h in
    onward x (Put k plain bytes) es w.block (Put lock w.plain w.bytes) hs.0 (told_found es i w lock hs.1 at at')
told_found ((x, Freed) ∷ es) i w lock h at at' =
    let hs = tail_sorted x Freed es h in
    onward x Freed es w.block (Put lock w.plain w.bytes) hs.0 (told_found es i w lock hs.1 at at')

-- ---- the law

unwritten : (o : Option Fate) → is_gone o ≡ true → is_some (block_with o None) ≡ false
unwritten (Some (Put lock plain bytes)) e = absurd (true≢false (sym e))
unwritten (Some Freed) e = refl
unwritten None e = refl

module _ (fates : FinMap nat_cmp Fate) (change : Change) (is : IsFinished fates change) where
  bytes : (b : ℕ) → bytes_for change.blocks.items b ≡ block_with (get fates b) None
  bytes b = ap (λ ws. bytes_for ws b) is.blocks ∙ bytes_found (entries fates) b (entries_sorted fates) ∙ ap (λ o. block_with o None) (sym (get-entries fates b))

  written_same : (b : ℕ) → writes change b ≡ is_put fates b
  written_same b = ap is_some (bytes b)

  freed_same : (b : ℕ) → frees change b ≡ is_freed fates b
  freed_same b = ap (list_any (λ f. f == b)) is.freed ∙ freed_found (entries fates) b (entries_sorted fates) ∙ ap is_gone (sym (get-entries fates b))

  formed : IsFormed change
  formed = record {
    blocks = subst (λ ws. IsStrictlySortedBy nat_cmp (map (λ (w : Written). w.block) ws)) (sym is.blocks) (blocks_rise (entries fates) (entries_sorted fates));
    freed = subst (IsStrictlySortedBy nat_cmp) (sym is.freed) (freed_rise (entries fates) (entries_sorted fates));
    locks = ap length is.locks ∙ as_many (entries fates) ∙ sym (ap length is.blocks);
    apart = λ b gone. written_same b ∙ unwritten (get fates b) (sym (freed_same b) ∙ gone);
  }

  of_draft : IsOfDraft fates change
  of_draft = record {
    form = formed;
    puts = written_same;
    gone = freed_same;
    told = λ i w lock at at'. get-entries fates w.block
        ∙ told_found (entries fates) i w lock (entries_sorted fates) (ap (λ ws. slice_get ws i) (sym is.blocks) ∙ at) (ap (λ ls. slice_get ls i) (sym is.locks) ∙ at');
    image = λ im i. record { size = im.size; count = im.count; at = λ b. unwrap_or (bytes b i) (im.at b) };
  }

pub finish_makes : FinishMakes
finish_makes = of_draft

pub drafts_show : DraftsShow
drafts_show v fates im agrees b = each (get fates b)
  where
    under : (p : Option (List ℕ)) → v.block_at b ≡ p → im.at b ≡ unwrap_or p (im.at b)
    under None e = refl
    under (Some seen) e = agrees b seen e

    each : (o : Option Fate) → unwrap_or (block_with o None) (im.at b) ≡ unwrap_or (block_with o (v.block_at b)) (im.at b)
    each (Some (Put lock plain bytes)) = refl
    each (Some Freed) = under (v.block_at b) refl
    each None = under (v.block_at b) refl
