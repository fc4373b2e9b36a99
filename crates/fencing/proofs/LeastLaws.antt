-- The least node of a set, and what holds of every node.
use Rattle.std.proofs.Common.{ℕ, zero, suc, ◌≡◌, ◌<◌, Bool, true, false, None, Some, List, [], ◌∷◌, refl, sym, ap, ◌∙◌, subst, arith}
use Rattle.std.specs.Prelude.{find}
use Rattle.std.specs.List.{AllByRecursion}
use Rattle.fencing.specs.NodeSets.{has, all_nodes, least_of}

-- what holds of each node of the list holds of the nodes 0 to 15
pub of-all : (P : ℕ → Type 0) → AllByRecursion P all_nodes → (k : ℕ) → k < 16 → P k
of-all P all zero h = all.0
of-all P all (suc zero) h = all.1.0
of-all P all (suc (suc zero)) h = all.1.1.0
of-all P all (suc (suc (suc zero))) h = all.1.1.1.0
of-all P all (suc (suc (suc (suc zero)))) h = all.1.1.1.1.0
of-all P all (suc (suc (suc (suc (suc zero))))) h = all.1.1.1.1.1.0
of-all P all (suc (suc (suc (suc (suc (suc zero)))))) h = all.1.1.1.1.1.1.0
of-all P all (suc (suc (suc (suc (suc (suc (suc zero))))))) h = all.1.1.1.1.1.1.1.0
of-all P all (suc (suc (suc (suc (suc (suc (suc (suc zero)))))))) h = all.1.1.1.1.1.1.1.1.0
of-all P all (suc (suc (suc (suc (suc (suc (suc (suc (suc zero))))))))) h = all.1.1.1.1.1.1.1.1.1.0
of-all P all (suc (suc (suc (suc (suc (suc (suc (suc (suc (suc zero)))))))))) h = all.1.1.1.1.1.1.1.1.1.1.0
of-all P all (suc (suc (suc (suc (suc (suc (suc (suc (suc (suc (suc zero))))))))))) h = all.1.1.1.1.1.1.1.1.1.1.1.0
of-all P all (suc (suc (suc (suc (suc (suc (suc (suc (suc (suc (suc (suc zero)))))))))))) h = all.1.1.1.1.1.1.1.1.1.1.1.1.0
of-all P all (suc (suc (suc (suc (suc (suc (suc (suc (suc (suc (suc (suc (suc zero))))))))))))) h = all.1.1.1.1.1.1.1.1.1.1.1.1.1.0
of-all P all (suc (suc (suc (suc (suc (suc (suc (suc (suc (suc (suc (suc (suc (suc zero)))))))))))))) h = all.1.1.1.1.1.1.1.1.1.1.1.1.1.1.0
of-all P all (suc (suc (suc (suc (suc (suc (suc (suc (suc (suc (suc (suc (suc (suc (suc zero))))))))))))))) h = all.1.1.1.1.1.1.1.1.1.1.1.1.1.1.1.0
of-all P all (suc (suc (suc (suc (suc (suc (suc (suc (suc (suc (suc (suc (suc (suc (suc (suc k)))))))))))))))) h = absurd (omega arith)

pub find-none : (p : ℕ → Bool) (ks : List ℕ) → find p ks ≡ None → AllByRecursion (λ k. p k ≡ false) ks
find-none p [] e = tt
find-none p (k ∷ ks) e = by (p k) refl (find-none p ks)
  where
    by : (b : Bool) → p k ≡ b → (find p ks ≡ None → AllByRecursion (λ k. p k ≡ false) ks) → (p k ≡ false) × AllByRecursion (λ k. p k ≡ false) ks
    by true h rest = absurd (let f : Some k ≡ None = rw h at e in cc)
    by false h rest = (h, rest (rw h at e))

pub find-some : (P : ℕ → Type 0) (p : ℕ → Bool) (ks : List ℕ) (n : ℕ) → AllByRecursion P ks → find p ks ≡ Some n → P n × (p n ≡ true)
find-some P p [] n all e = absurd (let f : None ≡ Some n = e in cc)
find-some P p (k ∷ ks) n all e = by (p k) refl (find-some P p ks n all.1)
  where
    inside : {a b : ℕ} → Some a ≡ Some b → a ≡ b
    inside q = cc

    by : (b : Bool) → p k ≡ b → (find p ks ≡ Some n → P n × (p n ≡ true)) → P n × (p n ≡ true)
    by true h rest = let same : k ≡ n = inside (rw h at e) in (subst P same all.0, sym (ap p same) ∙ h)
    by false h rest = rest (rw h at e)

-- a set without a least node has none of the nodes 0 to 15
pub least-none : (set n : ℕ) → least_of set ≡ None → n < 16 → has set n ≡ false
least-none set n e h = of-all (λ k. has set k ≡ false) (find-none (has set) all_nodes e) n h

-- the least node of a set is one of the nodes 0 to 15, and belongs to it
pub least-some : (set n : ℕ) → least_of set ≡ Some n → (n < 16) × (has set n ≡ true)
least-some set n e = find-some (λ k. k < 16) (has set) all_nodes n small e
  where
    small : AllByRecursion (λ k. k < 16) all_nodes
    small = (omega arith, (omega arith, (omega arith, (omega arith, (omega arith, (omega arith, (omega arith, (omega arith, (omega arith, (omega arith, (omega arith, (omega arith, (omega arith, (omega arith, (omega arith, (omega arith, tt))))))))))))))))
