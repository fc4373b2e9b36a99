-- The two halves of a change, block by block: what they make of a block that they don't have, and of one more.
use Rattle.std.proofs.Common.{◌≡◌, ℕ, suc, ◌+◌, ◌<◌, Bool, true, false, List, [], ◌∷◌, ◌++◌, length, map, take, drop, get_or, Contains, refl, sym, ap, ap₂, subst, ◌∙◌, drop-cons, if◌then◌else◌, not, ◌||◌, ◌&&◌, arith}
use Rattle.std.proofs.lemmas.List.{take_more}
use Rattle.std.specs.FinMap as table
use Rattle.finite_maps.proofs.Keys.{untied}
use Rattle.drafts.specs.declared.change.Written.{Written}
use Rattle.glock_names.specs.declared.LockName.{LockName}
use Rattle.log_tables.proofs.Counting.{apart, left}
use Rattle.log_values.specs.Blocks as set
use Rattle.log_values.specs.Log.{LogValue}
use Rattle.log_values.specs.Changes.{has_entry, version_of, with_freed, with_written, without_all, without_written}
use Rattle.log_values.proofs.BlocksHad.{contains-insert, contains-remove}
use Rattle.log_memory.specs.Adding.{IsAlike, with_freed_all, with_written_all}
use Rattle.log_memory.proofs.Tallies.{Versions}

abbrev pub numbers : List Written → List ℕ
numbers ws = map (λ (w : Written). w.block) ws

-- a list doesn't have it
abbrev pub Lacks : List ℕ → ℕ → Type 0
Lacks xs b = Contains xs b → ⊥

not_first : (x : ℕ) (xs : List ℕ) (b : ℕ) → Lacks (x ∷ xs) b → b ≡ x → ⊥
not_first x xs b lacks e = lacks (0, omega arith, sym e)

not_later : (x : ℕ) (xs : List ℕ) (b : ℕ) → Lacks (x ∷ xs) b → Lacks xs b
not_later x xs b lacks there = lacks (suc there.0, (let less = there.1 in omega arith), there.2)

-- ---- of a block that it doesn't have, each half leaves what there was

unmarked : (s : set.Blocks) (k b : ℕ) (t : Bool) → (b ≡ k → ⊥) → set.contains (if t then set.insert s k else s) b ≡ set.contains s b
unmarked s k b true ne = contains-insert s k b ∙ ap (λ (x : Bool). x || set.contains s b) (untied table.nat_cmp-IsAntisymmetric b k ne)
unmarked s k b false ne = refl

undropped : (s : set.Blocks) (k b : ℕ) → (b ≡ k → ⊥) → set.contains (set.remove s k) b ≡ set.contains s b
undropped s k b ne = contains-remove s k b ∙ ap (λ (x : Bool). not x && set.contains s b) (untied table.nat_cmp-IsAntisymmetric b k ne)

pub freed_alike : (log : LogValue) (bs : List ℕ) (b : ℕ) → Lacks bs b → IsAlike log (with_freed_all log bs) b
freed_alike log bs b lacks = record { fresh = fresh bs log.fresh lacks; gone = marks bs log.gone lacks; entry = refl }
  where
    fresh : (xs : List ℕ) (m : Versions) → Lacks xs b → table.get (without_all xs m) b ≡ table.get m b
    fresh [] m none = refl
    fresh (x ∷ xs) m none = fresh xs (table.remove m x) (not_later x xs b none) ∙ left m x b (not_first x xs b none)

    marks : (xs : List ℕ) (s : set.Blocks) → Lacks xs b → set.contains (with_freed (has_entry log) xs s) b ≡ set.contains s b
    marks [] s none = refl
    marks (x ∷ xs) s none = marks xs (if has_entry log x then set.insert s x else s) (not_later x xs b none) ∙ unmarked s x b (has_entry log x) (not_first x xs b none)

pub written_alike : (log : LogValue) (ws : List Written) (ls : List LockName) (b : ℕ) → Lacks (numbers ws) b → IsAlike log (with_written_all log ws ls) b
written_alike log ws ls b lacks = record { fresh = fresh ws ls log.fresh lacks; gone = drops ws log.gone lacks; entry = refl }
  where
    fresh : (xs : List Written) (ks : List LockName) (m : Versions) → Lacks (numbers xs) b → table.get (with_written xs ks m) b ≡ table.get m b
    fresh [] ks m none = refl
    fresh (x ∷ xs) [] m none = refl
    fresh (x ∷ xs) (k ∷ ks) m none = fresh xs ks (table.insert m x.block (version_of x k)) (not_later x.block (numbers xs) b none) ∙ apart m x.block (version_of x k) b (not_first x.block (numbers xs) b none)

    drops : (xs : List Written) (s : set.Blocks) → Lacks (numbers xs) b → set.contains (without_written xs s) b ≡ set.contains s b
    drops [] s none = refl
    drops (x ∷ xs) s none = drops xs (set.remove s x.block) (not_later x.block (numbers xs) b none) ∙ undropped s x.block b (not_first x.block (numbers xs) b none)

pub alike_on : (log m k : LogValue) (b : ℕ) → IsAlike log m b → IsAlike m k b → IsAlike log k b
alike_on log m k b one two = record { fresh = two.fresh ∙ one.fresh; gone = two.gone ∙ one.gone; entry = two.entry ∙ one.entry }

-- ---- one block more

pub freed_more : (log : LogValue) (bs : List ℕ) (b : ℕ) → with_freed_all log (bs ++ b ∷ []) ≡ with_freed_all (with_freed_all log bs) (b ∷ [])
freed_more log bs b = λ i. record log { fresh = fresh bs log.fresh i; gone = marks bs log.gone i }
  where
    fresh : (xs : List ℕ) (m : Versions) → without_all (xs ++ b ∷ []) m ≡ table.remove (without_all xs m) b
    fresh [] m = refl
    fresh (x ∷ xs) m = fresh xs (table.remove m x)

    marks : (xs : List ℕ) (s : set.Blocks) → with_freed (has_entry log) (xs ++ b ∷ []) s ≡ with_freed (has_entry log) (b ∷ []) (with_freed (has_entry log) xs s)
    marks [] s = refl
    marks (x ∷ xs) s = marks xs (if has_entry log x then set.insert s x else s)

pub written_more : (log : LogValue) (ws : List Written) (ls : List LockName) (w : Written) (l : LockName) → length ls ≡ length ws
    → with_written_all log (ws ++ w ∷ []) (ls ++ l ∷ []) ≡ with_written_all (with_written_all log ws ls) (w ∷ []) (l ∷ [])
written_more log ws ls w l even = λ i. record log { fresh = fresh ws ls log.fresh even i; gone = drops ws log.gone i }
  where
    fresh : (xs : List Written) (ks : List LockName) (m : Versions) → length ks ≡ length xs → with_written (xs ++ w ∷ []) (ks ++ l ∷ []) m ≡ table.insert (with_written xs ks m) w.block (version_of w l)
    fresh [] [] m same = refl
    fresh [] (k ∷ ks) m same = absurd (omega arith)
    fresh (x ∷ xs) [] m same = absurd (omega arith)
    fresh (x ∷ xs) (k ∷ ks) m same = fresh xs ks (table.insert m x.block (version_of x k)) (omega arith)

    drops : (xs : List Written) (s : set.Blocks) → without_written (xs ++ w ∷ []) s ≡ set.remove (without_written xs s) w.block
    drops [] s = refl
    drops (x ∷ xs) s = drops xs (set.remove s x.block)

-- ---- what is left of a list

pub left_at : {A : Type 0} (xs ys : List A) (i : ℕ) (x : A) → ys ≡ xs → i < length ys → x ≡ get_or ys i x → drop i xs ≡ x ∷ drop (i + 1) xs
left_at xs ys i x same less at =
    drop-cons xs i x (subst (λ zs. i < length zs) same less) ∙ ap (λ y. y ∷ drop (suc i) xs) (sym (at ∙ ap (λ zs. get_or zs i x) same)) ∙ ap (λ n. x ∷ drop n xs) (let e : suc i ≡ i + 1 = omega arith in e)

pub front_at : {A : Type 0} (xs ys : List A) (i : ℕ) (x : A) → ys ≡ xs → i < length ys → x ≡ get_or ys i x → take (i + 1) xs ≡ take i xs ++ x ∷ []
front_at xs ys i x same less at = take_more xs i x (subst (λ zs. i < length zs) same less) ∙ ap (λ y. take i xs ++ y ∷ []) (sym (at ∙ ap (λ zs. get_or zs i x) same))

-- the next block that is written, and the rest
pub next_written : (log : LogValue) (ws xs : List Written) (ls : List LockName) (i : ℕ) (w : Written) (l : LockName) → length ls ≡ length ws → xs ≡ ws → i < length xs → w ≡ get_or xs i w → l ≡ get_or ls i l
    → with_written_all log (w ∷ drop (i + 1) ws) (l ∷ drop (i + 1) ls) ≡ with_written_all log (drop i ws) (drop i ls)
next_written log ws xs ls i w l even same less w_at l_at =
    let inside : i < length ls = (let as_many = ap length same in omega arith) in
    ap₂ (with_written_all log) (sym (left_at ws xs i w same less w_at)) (sym (left_at ls ls i l refl inside l_at))
