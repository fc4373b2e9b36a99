-- What functions of items say of more items.
use Rattle.std.proofs.Common.{ℕ, suc, ◌≡◌, ◌<◌, ◌+◌, ◌⊎◌, inl, inr, Bool, true, false, cond, Option, None, Some, List, [], ◌∷◌, ◌++◌, length, drop, refl, sym, ap, ◌∙◌, arith, append-nil, eq-eqb}
use Rattle.std.specs.Prelude.{◌==◌, ◌&&◌, ◌||◌, ◌-◌}
use Rattle.std.proofs.lemmas.Bool.Decides.{eqb_tells}
use Rattle.std.proofs.lemmas.List.{drop-append-le, take-append-le}
use Rattle.trace_text.specs.declared.item.TraceItem.{TraceItem}
use Rattle.trace_text.specs.declared.item.TraceItem.TheVariants as trace
use Rattle.run_rules.specs.Lives.{Life, AcceptedHead, last_number, to_its_end, base_of, fenced_behind, recovered_behind, named, Unnamed, unnamed, lives_from, lives_of, losses_of, life_at}
use Rattle.head_laws.specs.Journals.{IsOther}
use Rattle.head_laws.specs.Laws.{lives_count}

pub true-false : {A : Type 0} {b : Bool} → b ≡ true → b ≡ false → A
true-false {A} {b} e f = absurd (let h : true ≡ false = sym e ∙ f in cc)

pub eqb-other : (i j : ℕ) → (i ≡ j → ⊥) → (i == j) ≡ false
eqb-other i j ne = elim (eqb_tells i j) [ inl h ↦ absurd (ne h.1) | inr h ↦ h.0 ]

pub eqb-self : (i : ℕ) → (i == i) ≡ true
eqb-self i = eq-eqb i i refl

-- the first of two, where there is one
abbrev pub first_of_two : Option ℕ → Option ℕ → Option ℕ
first_of_two (Some u) o = Some u
first_of_two None o = o

pub first-none : (o : Option ℕ) → first_of_two o None ≡ o
first-none (Some u) = refl
first-none None = refl

-- ---- the items of a life

pub named-on : (node : ℕ) (h : AcceptedHead) (xs ys : List TraceItem) → named node h (xs ++ ys) ≡ first_of_two (named node h xs) (named node h ys)
named-on node h [] ys = refl
named-on node h (trace.WriteHead i block sequence upto ∷ xs) ys = by ((i == node) && ((block == h.block) && (sequence == h.sequence))) (named-on node h xs ys)
  where
    by : (b : Bool) → named node h (xs ++ ys) ≡ first_of_two (named node h xs) (named node h ys)
        → cond b (Some upto) (named node h (xs ++ ys)) ≡ first_of_two (cond b (Some upto) (named node h xs)) (named node h ys)
    by true e = refl
    by false e = e
named-on node h (trace.WriteClean i block sequence upto ∷ xs) ys = by ((i == node) && ((block == h.block) && (sequence == h.sequence))) (named-on node h xs ys)
  where
    by : (b : Bool) → named node h (xs ++ ys) ≡ first_of_two (named node h xs) (named node h ys)
        → cond b (Some upto) (named node h (xs ++ ys)) ≡ first_of_two (cond b (Some upto) (named node h xs)) (named node h ys)
    by true e = refl
    by false e = e
named-on node h (x ∷ xs) ys = named-on node h xs ys

-- items that say of no recovery of the node
pub recovered-more : (node p : ℕ) (xs ys : List TraceItem) → ((q : ℕ) → recovered_behind node q ys ≡ None) → recovered_behind node p (xs ++ ys) ≡ recovered_behind node p xs
recovered-more node p [] ys none = none p
recovered-more node p (trace.Recovered i r ∷ xs) ys none = ap (λ (o : Option ℕ). cond (i == node) (Some (suc p)) o) (recovered-more node (suc p) xs ys none)
recovered-more node p (x ∷ xs) ys none = recovered-more node (suc p) xs ys none

pub last-on : (node now : ℕ) (xs ys : List TraceItem) → last_number node now (xs ++ ys) ≡ last_number node (last_number node now xs) ys
last-on node now [] ys = refl
last-on node now (trace.Call i name number call reply ∷ xs) ys = last-on node (cond (i == node) number now) xs ys
last-on node now (x ∷ xs) ys = last-on node now xs ys

-- what an unnamed header notes
abbrev pub noted : ℕ → Unnamed → List TraceItem → Unnamed
noted node s [] = s
noted node s (trace.Call i name number call reply ∷ is) = noted node (cond (i == node) (let t : Unnamed = record s { last = number } in t) s) is
noted node s (trace.WriteHead i block sequence upto ∷ is) = noted node (cond (i == node) (let t : Unnamed = record s { upto = upto; is_logged = false } in t) s) is
noted node s (trace.WriteLog i block ∷ is) =
    noted node (cond (i == node) (cond s.is_logged s (let t : Unnamed = record s { upto = s.last; is_logged = true } in t)) s) is
noted node s (x ∷ is) = noted node s is

pub unnamed-noted : (node : ℕ) (s : Unnamed) (xs : List TraceItem) → unnamed node s xs ≡ (noted node s xs).upto
unnamed-noted node s [] = refl
unnamed-noted node s (trace.Call i name number call reply ∷ xs) = unnamed-noted node (cond (i == node) (let t : Unnamed = record s { last = number } in t) s) xs
unnamed-noted node s (trace.WriteHead i block sequence upto ∷ xs) = unnamed-noted node (cond (i == node) (let t : Unnamed = record s { upto = upto; is_logged = false } in t) s) xs
unnamed-noted node s (trace.WriteLog i block ∷ xs) =
    unnamed-noted node (cond (i == node) (cond s.is_logged s (let t : Unnamed = record s { upto = s.last; is_logged = true } in t)) s) xs
unnamed-noted node s (x ∷ xs) = unnamed-noted node s xs

noted-on : (node : ℕ) (s : Unnamed) (xs ys : List TraceItem) → noted node s (xs ++ ys) ≡ noted node (noted node s xs) ys
noted-on node s [] ys = refl
noted-on node s (trace.Call i name number call reply ∷ xs) ys = noted-on node (cond (i == node) (let t : Unnamed = record s { last = number } in t) s) xs ys
noted-on node s (trace.WriteHead i block sequence upto ∷ xs) ys = noted-on node (cond (i == node) (let t : Unnamed = record s { upto = upto; is_logged = false } in t) s) xs ys
noted-on node s (trace.WriteLog i block ∷ xs) ys =
    noted-on node (cond (i == node) (cond s.is_logged s (let t : Unnamed = record s { upto = s.last; is_logged = true } in t)) s) xs ys
noted-on node s (x ∷ xs) ys = noted-on node s xs ys

pub unnamed-on : (node : ℕ) (s : Unnamed) (xs ys : List TraceItem) → ((t : Unnamed) → (noted node t ys).upto ≡ t.upto) → unnamed node s (xs ++ ys) ≡ unnamed node s xs
unnamed-on node s xs ys same =
    unnamed-noted node s (xs ++ ys) ∙ (ap (λ (t : Unnamed). t.upto) (noted-on node s xs ys) ∙ (same (noted node s xs) ∙ sym (unnamed-noted node s xs)))

-- ---- the end of a life, and its fence

abbrev pub ended : ℕ → List TraceItem → Bool
ended node [] = false
ended node (trace.Crash i ∷ is) = (i == node) || ended node is
ended node (trace.Withdraw i before after ∷ is) = (i == node) || ended node is
ended node (x ∷ is) = ended node is

pub ended-on : (node : ℕ) (xs ys : List TraceItem) → ended node (xs ++ ys) ≡ (ended node xs || ended node ys)
ended-on node [] ys = refl
ended-on node (trace.Crash i ∷ xs) ys = by (i == node) (ended-on node xs ys)
  where
    by : (b : Bool) → ended node (xs ++ ys) ≡ (ended node xs || ended node ys) → (b || ended node (xs ++ ys)) ≡ ((b || ended node xs) || ended node ys)
    by true e = refl
    by false e = e
ended-on node (trace.Withdraw i before after ∷ xs) ys = by (i == node) (ended-on node xs ys)
  where
    by : (b : Bool) → ended node (xs ++ ys) ≡ (ended node xs || ended node ys) → (b || ended node (xs ++ ys)) ≡ ((b || ended node xs) || ended node ys)
    by true e = refl
    by false e = e
ended-on node (x ∷ xs) ys = ended-on node xs ys

-- what comes behind the end is none of the life
pub end-closed : (node : ℕ) (xs ys : List TraceItem) → ended node xs ≡ true → to_its_end node (xs ++ ys) ≡ to_its_end node xs
end-closed node [] ys e = true-false e refl
end-closed node (trace.Crash i ∷ xs) ys e = by (i == node) e (end-closed node xs ys)
  where
    by : (b : Bool) → (b || ended node xs) ≡ true → (ended node xs ≡ true → to_its_end node (xs ++ ys) ≡ to_its_end node xs)
        → cond b [] (trace.Crash i ∷ to_its_end node (xs ++ ys)) ≡ cond b [] (trace.Crash i ∷ to_its_end node xs)
    by true e rest = refl
    by false e rest = ap (λ (l : List TraceItem). trace.Crash i ∷ l) (rest e)
end-closed node (trace.Withdraw i before after ∷ xs) ys e = by (i == node) e (end-closed node xs ys)
  where
    by : (b : Bool) → (b || ended node xs) ≡ true → (ended node xs ≡ true → to_its_end node (xs ++ ys) ≡ to_its_end node xs)
        → cond b [] (trace.Withdraw i before after ∷ to_its_end node (xs ++ ys)) ≡ cond b [] (trace.Withdraw i before after ∷ to_its_end node xs)
    by true e rest = refl
    by false e rest = ap (λ (l : List TraceItem). trace.Withdraw i before after ∷ l) (rest e)
end-closed node (x ∷ xs) ys e = ap (λ (l : List TraceItem). x ∷ l) (end-closed node xs ys e)

pub end-open : (node : ℕ) (xs ys : List TraceItem) → ended node xs ≡ false → to_its_end node (xs ++ ys) ≡ xs ++ to_its_end node ys
end-open node [] ys e = refl
end-open node (trace.Crash i ∷ xs) ys e = by (i == node) e (end-open node xs ys)
  where
    by : (b : Bool) → (b || ended node xs) ≡ false → (ended node xs ≡ false → to_its_end node (xs ++ ys) ≡ xs ++ to_its_end node ys)
        → cond b [] (trace.Crash i ∷ to_its_end node (xs ++ ys)) ≡ trace.Crash i ∷ (xs ++ to_its_end node ys)
    by true e rest = true-false refl e
    by false e rest = ap (λ (l : List TraceItem). trace.Crash i ∷ l) (rest e)
end-open node (trace.Withdraw i before after ∷ xs) ys e = by (i == node) e (end-open node xs ys)
  where
    by : (b : Bool) → (b || ended node xs) ≡ false → (ended node xs ≡ false → to_its_end node (xs ++ ys) ≡ xs ++ to_its_end node ys)
        → cond b [] (trace.Withdraw i before after ∷ to_its_end node (xs ++ ys)) ≡ trace.Withdraw i before after ∷ (xs ++ to_its_end node ys)
    by true e rest = true-false refl e
    by false e rest = ap (λ (l : List TraceItem). trace.Withdraw i before after ∷ l) (rest e)
end-open node (x ∷ xs) ys e = ap (λ (l : List TraceItem). x ∷ l) (end-open node xs ys e)

pub fence-on : (node p q : ℕ) (xs ys : List TraceItem) → q ≡ p + length xs → fenced_behind node p (xs ++ ys) ≡ first_of_two (fenced_behind node p xs) (fenced_behind node q ys)
fence-on node p q [] ys e = ap (λ (n : ℕ). fenced_behind node n ys) (omega (arith, e))
fence-on node p q (trace.Fence i ∷ xs) ys e = by (i == node) (fence-on node (suc p) q xs ys (omega (arith, e)))
  where
    by : (b : Bool) → fenced_behind node (suc p) (xs ++ ys) ≡ first_of_two (fenced_behind node (suc p) xs) (fenced_behind node q ys)
        → cond b (Some (suc p)) (fenced_behind node (suc p) (xs ++ ys)) ≡ first_of_two (cond b (Some (suc p)) (fenced_behind node (suc p) xs)) (fenced_behind node q ys)
    by true h = refl
    by false h = h
fence-on node p q (x ∷ xs) ys e = fence-on node (suc p) q xs ys (omega (arith, e))

-- ---- lives and losses

lives-on : (p q : ℕ) (xs ys : List TraceItem) → q ≡ p + length xs → lives_from p (xs ++ ys) ≡ lives_from p xs ++ lives_from q ys
lives-on p q [] ys e = ap (λ (n : ℕ). lives_from n ys) (omega (arith, e))
lives-on p q (trace.Join i ∷ xs) ys e = ap (λ (ls : List Life). (let l : Life = record { node = i; join = p } in l) ∷ ls) (lives-on (suc p) q xs ys (omega (arith, e)))
lives-on p q (x ∷ xs) ys e = lives-on (suc p) q xs ys (omega (arith, e))

pub lives-more : (xs ys : List TraceItem) → lives_of (xs ++ ys) ≡ lives_of xs ++ lives_from (length xs) ys
lives-more xs ys = lives-on 0 (length xs) xs ys (omega arith)

pub losses-on : (node : ℕ) (xs ys : List TraceItem) → losses_of node (xs ++ ys) ≡ losses_of node xs + losses_of node ys
losses-on node [] ys = omega arith
losses-on node (trace.Lost i kept ∷ xs) ys = let rest : losses_of node (xs ++ ys) ≡ losses_of node xs + losses_of node ys = losses-on node xs ys in omega (arith, rest)
losses-on node (x ∷ xs) ys = losses-on node xs ys

pub count-on : (node : ℕ) (ls ms : List Life) → lives_count node (ls ++ ms) ≡ lives_count node ls + lives_count node ms
count-on node [] ms = omega arith
count-on node (l ∷ ls) ms = let rest : lives_count node (ls ++ ms) ≡ lives_count node ls + lives_count node ms = count-on node ls ms in omega (arith, rest)

-- a life of another node
pub life-skips : (node n : ℕ) (ls : List Life) (m : Life) → (m.node == node) ≡ false → life_at node n (ls ++ m ∷ []) ≡ life_at node n ls
life-skips node n [] m e = rw e refl
life-skips node n (l ∷ ls) m e = by (l.node == node) (life-skips node (n - 1) ls m e) (life-skips node n ls m e)
  where
    by : (b : Bool) → life_at node (n - 1) (ls ++ m ∷ []) ≡ life_at node (n - 1) ls → life_at node n (ls ++ m ∷ []) ≡ life_at node n ls
        → cond b (cond (n == 0) (Some l) (life_at node (n - 1) (ls ++ m ∷ []))) (life_at node n (ls ++ m ∷ []))
        ≡ cond b (cond (n == 0) (Some l) (life_at node (n - 1) ls)) (life_at node n ls)
    by true before same = ap (λ (o : Option Life). cond (n == 0) (Some l) o) before
    by false before same = same

-- a life that is there
pub life-below : (node n : ℕ) (ls : List Life) (l : Life) → life_at node n ls ≡ Some l → n < lives_count node ls
life-below node n [] l e = absurd (let f : None ≡ Some l = e in cc)
life-below node n (m ∷ ls) l e = by (m.node == node) e (life-below node (n - 1) ls l) (life-below node n ls l)
  where
    by : (b : Bool) → cond b (cond (n == 0) (Some m) (life_at node (n - 1) ls)) (life_at node n ls) ≡ Some l
        → (life_at node (n - 1) ls ≡ Some l → n - 1 < lives_count node ls) → (life_at node n ls ≡ Some l → n < lives_count node ls)
        → n < cond b 1 0 + lives_count node ls
    by false e before same = let h : n < lives_count node ls = same e in omega arith
    by true e before same = elim (eqb_tells n 0) [
      | inl is ↦ omega (arith, is.1)
      | inr ne ↦ let h : n - 1 < lives_count node ls = before (rw ne.0 at e) in omega arith
    ]

pub life-there : (node n : ℕ) (ls : List Life) → n < lives_count node ls → (l : Life) × (life_at node n ls ≡ Some l)
life-there node n [] h = absurd (omega arith)
life-there node n (m ∷ ls) h = by (m.node == node) h (life-there node (n - 1) ls) (life-there node n ls)
  where
    by : (b : Bool) → n < cond b 1 0 + lives_count node ls → (n - 1 < lives_count node ls → (l : Life) × (life_at node (n - 1) ls ≡ Some l))
        → (n < lives_count node ls → (l : Life) × (life_at node n ls ≡ Some l))
        → (l : Life) × (cond b (cond (n == 0) (Some m) (life_at node (n - 1) ls)) (life_at node n ls) ≡ Some l)
    by false h before same = same (omega arith)
    by true h before same = elim (eqb_tells n 0) [
      | inl is ↦ (m, rw is.0 refl)
      | inr ne ↦ let r = before (omega (arith, ne.1)) in (r.0, rw ne.0 r.1)
    ]

-- the newest life of the node is its last
pub life-newest : (node n : ℕ) (ls : List Life) (m l : Life) → (m.node == node) ≡ true → life_at node n (ls ++ m ∷ []) ≡ Some l
    → (life_at node n ls ≡ Some l) ⊎ ((n ≡ lives_count node ls) × (l ≡ m))
life-newest node n [] m l e is = elim (eqb_tells n 0) [
  | inl first ↦ inr (first.1, sym (inside (rw first.0 at (rw e at is))))
  | inr ne ↦ absurd (let f : None ≡ Some l = rw ne.0 at (rw e at is) in cc)
]
  where
    inside : {a b : Life} → Some a ≡ Some b → a ≡ b
    inside h = cc
life-newest node n (k ∷ ls) m l e is = by (k.node == node) is (life-newest node (n - 1) ls m l e) (life-newest node n ls m l e)
  where
    by : (b : Bool) → cond b (cond (n == 0) (Some k) (life_at node (n - 1) (ls ++ m ∷ []))) (life_at node n (ls ++ m ∷ [])) ≡ Some l
        → (life_at node (n - 1) (ls ++ m ∷ []) ≡ Some l → (life_at node (n - 1) ls ≡ Some l) ⊎ ((n - 1 ≡ lives_count node ls) × (l ≡ m)))
        → (life_at node n (ls ++ m ∷ []) ≡ Some l → (life_at node n ls ≡ Some l) ⊎ ((n ≡ lives_count node ls) × (l ≡ m)))
        → (cond b (cond (n == 0) (Some k) (life_at node (n - 1) ls)) (life_at node n ls) ≡ Some l) ⊎ ((n ≡ cond b 1 0 + lives_count node ls) × (l ≡ m))
    by false is before same = elim (same is) [ inl h ↦ inl h | inr h ↦ inr ((omega (arith, h.0)), h.1) ]
    by true is before same = elim (eqb_tells n 0) [
      | inl first ↦ inl (rw first.0 (rw first.0 at is))
      | inr ne ↦ elim (before (rw ne.0 at is)) [
        | inl h ↦ inl (rw ne.0 h)
        | inr h ↦ inr ((omega (arith, h.0, ne.1)), h.1)
      ]
    ]

-- ---- a life's items where more come

pub rest-on : (l : Life) (xs ys : List TraceItem) → l.join < length xs → drop (l.join + 1) (xs ++ ys) ≡ drop (l.join + 1) xs ++ ys
rest-on l xs ys within = drop-append-le (l.join + 1) xs ys (omega arith)

pub base-on : (l : Life) (xs ys : List TraceItem) → l.join < length xs → base_of l (xs ++ ys) ≡ base_of l xs
base-on l xs ys within = ap (last_number l.node 0) (take-append-le l.join xs ys (omega arith))

-- ---- items of something else

pub record Plain (node : ℕ) (x : TraceItem) : Type 0 where
  pub named : (h : AcceptedHead) → named node h (x ∷ []) ≡ None
  pub first : (p : ℕ) → recovered_behind node p (x ∷ []) ≡ None
  pub last : (now : ℕ) → last_number node now (x ∷ []) ≡ now
  pub notes : (s : Unnamed) → (noted node s (x ∷ [])).upto ≡ s.upto
  pub ended : ended node (x ∷ []) ≡ false
  pub fence : (p : ℕ) → fenced_behind node p (x ∷ []) ≡ None
  pub losses : losses_of node (x ∷ []) ≡ 0
  pub life : (p n : ℕ) (ls : List Life) → life_at node n (ls ++ lives_from p (x ∷ [])) ≡ life_at node n ls
  pub count : (p : ℕ) → lives_count node (lives_from p (x ∷ [])) ≡ 0

pub plain : (node : ℕ) (x : TraceItem) → IsOther node x → Plain node x
plain node (trace.Join i) o = record {
  named = λ h. refl;
  first = λ p. refl;
  last = λ now. refl;
  notes = λ s. refl;
  ended = refl;
  fence = λ p. refl;
  losses = refl;
  life = λ p n ls. life-skips node n ls (record { node = i; join = p }) (eqb-other i node o);
  count = λ p. rw (eqb-other i node o) refl;
}
plain node (trace.WriteLog i block) o = record {
  named = λ h. refl;
  first = λ p. refl;
  last = λ now. refl;
  notes = λ s. rw (eqb-other i node o) refl;
  ended = refl;
  fence = λ p. refl;
  losses = refl;
  life = λ p n ls. ap (life_at node n) (append-nil ls);
  count = λ p. refl;
}
plain node (trace.WriteHead i block sequence upto) o = record {
  named = λ h. rw (eqb-other i node o) refl;
  first = λ p. refl;
  last = λ now. refl;
  notes = λ s. rw (eqb-other i node o) refl;
  ended = refl;
  fence = λ p. refl;
  losses = refl;
  life = λ p n ls. ap (life_at node n) (append-nil ls);
  count = λ p. refl;
}
plain node (trace.WriteClean i block sequence upto) o = record {
  named = λ h. rw (eqb-other i node o) refl;
  first = λ p. refl;
  last = λ now. refl;
  notes = λ s. refl;
  ended = refl;
  fence = λ p. refl;
  losses = refl;
  life = λ p n ls. ap (life_at node n) (append-nil ls);
  count = λ p. refl;
}
plain node (trace.Commit i sequence upto) o = record {
  named = λ h. refl;
  first = λ p. refl;
  last = λ now. refl;
  notes = λ s. refl;
  ended = refl;
  fence = λ p. refl;
  losses = refl;
  life = λ p n ls. ap (life_at node n) (append-nil ls);
  count = λ p. refl;
}
plain node (trace.Call i name number call reply) o = record {
  named = λ h. refl;
  first = λ p. refl;
  last = λ now. rw (eqb-other i node o) refl;
  notes = λ s. rw (eqb-other i node o) refl;
  ended = refl;
  fence = λ p. refl;
  losses = refl;
  life = λ p n ls. ap (life_at node n) (append-nil ls);
  count = λ p. refl;
}
plain node (trace.Crash i) o = record {
  named = λ h. refl;
  first = λ p. refl;
  last = λ now. refl;
  notes = λ s. refl;
  ended = rw (eqb-other i node o) refl;
  fence = λ p. refl;
  losses = refl;
  life = λ p n ls. ap (life_at node n) (append-nil ls);
  count = λ p. refl;
}
plain node (trace.Withdraw i before after) o = record {
  named = λ h. refl;
  first = λ p. refl;
  last = λ now. refl;
  notes = λ s. refl;
  ended = rw (eqb-other i node o) refl;
  fence = λ p. refl;
  losses = refl;
  life = λ p n ls. ap (life_at node n) (append-nil ls);
  count = λ p. refl;
}
plain node (trace.Fence i) o = record {
  named = λ h. refl;
  first = λ p. refl;
  last = λ now. refl;
  notes = λ s. refl;
  ended = refl;
  fence = λ p. rw (eqb-other i node o) refl;
  losses = refl;
  life = λ p n ls. ap (life_at node n) (append-nil ls);
  count = λ p. refl;
}
plain node (trace.Lost i kept) o = record {
  named = λ h. refl;
  first = λ p. refl;
  last = λ now. refl;
  notes = λ s. refl;
  ended = refl;
  fence = λ p. refl;
  losses = rw (eqb-other i node o) refl;
  life = λ p n ls. ap (life_at node n) (append-nil ls);
  count = λ p. refl;
}
plain node (trace.Recovered i r) o = record {
  named = λ h. refl;
  first = λ p. rw (eqb-other i node o) refl;
  last = λ now. refl;
  notes = λ s. refl;
  ended = refl;
  fence = λ p. refl;
  losses = refl;
  life = λ p n ls. ap (life_at node n) (append-nil ls);
  count = λ p. refl;
}
plain node x o = record {
  named = λ h. refl;
  first = λ p. refl;
  last = λ now. refl;
  notes = λ s. refl;
  ended = refl;
  fence = λ p. refl;
  losses = refl;
  life = λ p n ls. ap (life_at node n) (append-nil ls);
  count = λ p. refl;
}
