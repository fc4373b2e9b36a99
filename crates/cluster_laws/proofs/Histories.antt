-- Histories and the calls that a book keeps.
use Rattle.std.proofs.Common.{ℕ, ◌≡◌, ◌≤◌, ◌⊎◌, suc, inl, inr, Bool, true, false, ◌&&◌, ◌||◌, List, [], ◌∷◌, ◌++◌, length, refl, sym, ap, ◌∙◌, subst, arith, length-append}
use Rattle.std.specs.Prelude.{◌==◌, nat_lt, if◌then◌else◌}
use Rattle.std.proofs.lemmas.List.{take-append-le, take_all}
use Rattle.std.proofs.lemmas.Bool.{cases_lt, cond-true, cond-false}
use Rattle.cluster_laws.specs.Files.{Files}
use Rattle.cluster_laws.specs.Book.{Kept, kept_by, Numbered, dropped}
use Rattle.cluster_laws.specs.History.{Item, Called, Gone, drops, any_drops, living, saids, Right, Legal, Stays, KeepsSynced, Each, calls_of, Fits, Fitting}
use Rattle.cluster_laws.specs.World.{SyncsBelow}
use Rattle.cluster_laws.proofs.Cells.{ltb-false}

or-assoc : (a b c : Bool) → ((a || b) || c) ≡ (a || (b || c))
or-assoc true b c = refl
or-assoc false b c = refl

or-false : (a : Bool) → (a || false) ≡ a
or-false true = refl
or-false false = refl

any_drops-append : (F : Files) (node number : ℕ) (xs ys : List (Item F)) → any_drops F node number (xs ++ ys) ≡ (any_drops F node number xs || any_drops F node number ys)
any_drops-append F node number [] ys = refl
any_drops-append F node number (x ∷ xs) ys = ap (λ z. drops F node number x || z) (any_drops-append F node number xs ys) ∙ sym (or-assoc (drops F node number x) (any_drops F node number xs) (any_drops F node number ys))

pub living-called : (F : Files) (k : Kept F) (xs : List (Item F)) → living F (xs ++ (Called k ∷ [])) ≡ living F xs ++ (k ∷ [])
living-called F k [] = refl
living-called F k (Gone i upto kept ∷ xs) = living-called F k xs
living-called F k (Called a ∷ xs) =
    ap (λ z. if z then living F (xs ++ (Called k ∷ [])) else (a ∷ living F (xs ++ (Called k ∷ [])))) (any_drops-append F (a.node) (a.number) xs (Called k ∷ []) ∙ or-false (any_drops F (a.node) (a.number) xs))
    ∙ ap (λ z. if any_drops F (a.node) (a.number) xs then z else (a ∷ z)) (living-called F k xs)
    ∙ if-append (any_drops F (a.node) (a.number) xs) (living F xs) (a ∷ living F xs) (k ∷ [])
  where
    if-append : (b : Bool) (us vs ws : List (Kept F)) → (if b then (us ++ ws) else (vs ++ ws)) ≡ (if b then us else vs) ++ ws
    if-append true us vs ws = refl
    if-append false us vs ws = refl

pub living-gone : (F : Files) (i upto k : ℕ) (xs : List (Item F)) → living F (xs ++ (Gone i upto k ∷ [])) ≡ dropped F i k (living F xs)
living-gone F i upto k [] = refl
living-gone F i upto k (Gone j upto' kept ∷ xs) = living-gone F i upto k xs
living-gone F i upto k (Called a ∷ xs) =
    ap (λ z. if z then living F (xs ++ (Gone i upto k ∷ [])) else (a ∷ living F (xs ++ (Gone i upto k ∷ [])))) (any_drops-append F (a.node) (a.number) xs (Gone i upto k ∷ []) ∙ ap (λ z. any_drops F (a.node) (a.number) xs || z) (or-false ((i == a.node) && nat_lt k (a.number))))
    ∙ ap (λ z. if (any_drops F (a.node) (a.number) xs || ((i == a.node) && nat_lt k (a.number))) then z else (a ∷ z)) (living-gone F i upto k xs)
    ∙ either-way (any_drops F (a.node) (a.number) xs) ((i == a.node) && nat_lt k (a.number)) refl
  where
    either-way : (b c : Bool) → ((i == a.node) && nat_lt k (a.number)) ≡ c
        → (if (b || c) then dropped F i k (living F xs) else (a ∷ dropped F i k (living F xs))) ≡ dropped F i k (if b then living F xs else (a ∷ living F xs))
    either-way true c e = refl
    either-way false true e = sym (cond-true _ _ _ e)
    either-way false false e = sym (cond-false _ _ _ e)

pub kept_by-all : (F : Files) (cut : ℕ → ℕ) (xs : List (Kept F)) → Numbered F cut xs → kept_by F cut xs ≡ saids F xs
kept_by-all F cut [] p = refl
kept_by-all F cut (x ∷ xs) p = cond-false _ _ _ (ltb-false (cut (x.node)) (x.number) (p.0)) ∙ ap (λ z. x.said ∷ z) (kept_by-all F cut xs (p.1))

pub Legal-more : (F : Files) (items : List (Item F)) (item : Item F) (start : F.Tree) → Legal F items start
    → Right F (saids F (living F (items ++ (item ∷ [])))) start → Legal F (items ++ (item ∷ [])) start
Legal-more F items item start legal here n below = elim (cases_lt (length items) n) [
  | inl past ↦ subst (λ z. Right F (saids F (living F z)) start) (sym (take_all n (items ++ (item ∷ [])) (omega (arith, length-append items (item ∷ []))))) here
  | inr within ↦ subst (λ z. Right F (saids F (living F z)) start) (sym (take-append-le n items (item ∷ []) within)) (legal n within)
]

Stays-called : (F : Files) (k a : Kept F) (xs : List (Item F)) → Stays F k xs → Stays F k (xs ++ (Called a ∷ []))
Stays-called F k a [] p = tt
Stays-called F k a (Called b ∷ xs) p = Stays-called F k a xs p
Stays-called F k a (Gone i upto kept ∷ xs) p = (p.0, Stays-called F k a xs (p.1))

pub KeepsSynced-called : (F : Files) (a : Kept F) (xs : List (Item F)) → KeepsSynced F xs → KeepsSynced F (xs ++ (Called a ∷ []))
KeepsSynced-called F a [] p = (λ s. tt, tt)
KeepsSynced-called F a (Called k ∷ xs) p = (λ s. Stays-called F k a xs (p.0 s), KeepsSynced-called F a xs (p.1))
KeepsSynced-called F a (Gone i upto kept ∷ xs) p = KeepsSynced-called F a xs p

Stays-gone : (F : Files) (k : Kept F) (i upto kept : ℕ) (xs : List (Item F)) → (i ≡ k.node → k.number ≤ kept) → Stays F k xs → Stays F k (xs ++ (Gone i upto kept ∷ []))
Stays-gone F k i upto kept [] h p = (h, tt)
Stays-gone F k i upto kept (Called b ∷ xs) h p = Stays-gone F k i upto kept xs h p
Stays-gone F k i upto kept (Gone j upto' m ∷ xs) h p = (p.0, Stays-gone F k i upto kept xs h (p.1))

pub KeepsSynced-gone : (F : Files) (sure : ℕ → ℕ) (i upto kept : ℕ) (xs : List (Item F)) → sure i ≤ kept → SyncsBelow F sure xs → KeepsSynced F xs → KeepsSynced F (xs ++ (Gone i upto kept ∷ []))
KeepsSynced-gone F sure i upto kept [] h q p = tt
KeepsSynced-gone F sure i upto kept (Called k ∷ xs) h q p = (
  λ s. Stays-gone F k i upto kept xs (λ e. (let below = q.0 s in let h' : sure (k.node) ≤ kept = subst (λ z. sure z ≤ kept) e h in omega arith)) (p.0 s),
  KeepsSynced-gone F sure i upto kept xs h (q.1) (p.1),
)
KeepsSynced-gone F sure i upto kept (Gone j upto' m ∷ xs) h q p = KeepsSynced-gone F sure i upto kept xs h q p

pub SyncsBelow-called : (F : Files) (sure : ℕ → ℕ) (a : Kept F) (xs : List (Item F)) → (F.IsSync (a.said) → a.number ≤ sure (a.node)) → SyncsBelow F sure xs → SyncsBelow F sure (xs ++ (Called a ∷ []))
SyncsBelow-called F sure a [] h p = (h, tt)
SyncsBelow-called F sure a (Called k ∷ xs) h p = (p.0, SyncsBelow-called F sure a xs h (p.1))
SyncsBelow-called F sure a (Gone i upto kept ∷ xs) h p = SyncsBelow-called F sure a xs h p

pub SyncsBelow-gone : (F : Files) (sure : ℕ → ℕ) (i upto k : ℕ) (xs : List (Item F)) → SyncsBelow F sure xs → SyncsBelow F sure (xs ++ (Gone i upto k ∷ []))
SyncsBelow-gone F sure i upto k [] p = tt
SyncsBelow-gone F sure i upto k (Called a ∷ xs) p = (p.0, SyncsBelow-gone F sure i upto k xs (p.1))
SyncsBelow-gone F sure i upto k (Gone j upto' m ∷ xs) p = SyncsBelow-gone F sure i upto k xs p

pub SyncsBelow-rise : (F : Files) (sure sure' : ℕ → ℕ) (xs : List (Item F)) → ((i : ℕ) → sure i ≤ sure' i) → SyncsBelow F sure xs → SyncsBelow F sure' xs
SyncsBelow-rise F sure sure' [] h p = tt
SyncsBelow-rise F sure sure' (Called k ∷ xs) h p = (λ s. (let q = p.0 s in let r = h (k.node) in omega arith), SyncsBelow-rise F sure sure' xs h (p.1))
SyncsBelow-rise F sure sure' (Gone i upto kept ∷ xs) h p = SyncsBelow-rise F sure sure' xs h p

-- ---- numbers

pub Each-called : (F : Files) (P : Kept F → Type 0) (a : Kept F) (xs : List (Item F)) → P a → Each F P xs → Each F P (xs ++ (Called a ∷ []))
Each-called F P a [] h p = (h, tt)
Each-called F P a (Called k ∷ xs) h p = (p.0, Each-called F P a xs h (p.1))
Each-called F P a (Gone i upto kept ∷ xs) h p = Each-called F P a xs h p

pub Each-gone : (F : Files) (P : Kept F → Type 0) (i upto k : ℕ) (xs : List (Item F)) → Each F P xs → Each F P (xs ++ (Gone i upto k ∷ []))
Each-gone F P i upto k [] p = tt
Each-gone F P i upto k (Called a ∷ xs) p = (p.0, Each-gone F P i upto k xs (p.1))
Each-gone F P i upto k (Gone j upto' m ∷ xs) p = Each-gone F P i upto k xs p

pub Each-map : (F : Files) (P Q : Kept F → Type 0) → ((k : Kept F) → P k → Q k) → (xs : List (Item F)) → Each F P xs → Each F Q xs
Each-map F P Q f [] p = tt
Each-map F P Q f (Called k ∷ xs) p = (f k (p.0), Each-map F P Q f xs (p.1))
Each-map F P Q f (Gone i upto kept ∷ xs) p = Each-map F P Q f xs p

pub calls_of-called : (F : Files) (i : ℕ) (a : Kept F) (xs : List (Item F))
    → calls_of F i (xs ++ (Called a ∷ [])) ≡ (if a.node == i then suc (calls_of F i xs) else calls_of F i xs)
calls_of-called F i a [] = refl
calls_of-called F i a (Called k ∷ xs) = ap (λ z. if k.node == i then suc z else z) (calls_of-called F i a xs) ∙ swap (k.node == i) (a.node == i) (calls_of F i xs)
  where
    swap : (b c : Bool) (n : ℕ) → (if b then suc (if c then suc n else n) else (if c then suc n else n)) ≡ (if c then suc (if b then suc n else n) else (if b then suc n else n))
    swap true true n = refl
    swap true false n = refl
    swap false true n = refl
    swap false false n = refl
calls_of-called F i a (Gone j upto kept ∷ xs) = calls_of-called F i a xs

pub calls_of-gone : (F : Files) (j i upto k : ℕ) (xs : List (Item F)) → calls_of F j (xs ++ (Gone i upto k ∷ [])) ≡ calls_of F j xs
calls_of-gone F j i upto k [] = refl
calls_of-gone F j i upto k (Called a ∷ xs) = ap (λ z. if a.node == j then suc z else z) (calls_of-gone F j i upto k xs)
calls_of-gone F j i upto k (Gone m upto' kept ∷ xs) = calls_of-gone F j i upto k xs

-- ---- each item fits those before it

pub nil-not : {A : Type 0} (xs ys : List A) (x : A) → [] ≡ xs ++ (x ∷ ys) → ⊥
nil-not [] ys x e = cc
nil-not (a ∷ xs) ys x e = cc

parts : {A : Type 0} {x y : A} {xs ys : List A} → x ∷ xs ≡ y ∷ ys → (x ≡ y) × (xs ≡ ys)
parts e = (cc, cc)

last_of : {A : Type 0} (xs before after : List A) (y x : A) → xs ++ (y ∷ []) ≡ before ++ (x ∷ after)
    → ((xs ≡ before) × (y ≡ x)) ⊎ ((rest : List A) × (xs ≡ before ++ (x ∷ rest)))
last_of [] [] after y x e = inl (refl, (parts e).0)
last_of [] (b ∷ bs) after y x e = absurd (nil-not bs after x (parts e).1)
last_of (a ∷ xs) [] after y x e = inr (xs, ap (λ z. z ∷ xs) (parts e).0)
last_of (a ∷ xs) (b ∷ bs) after y x e = elim (last_of xs bs after y x (parts e).1) [
  | inl l ↦ inl (ap (λ z. z ∷ xs) (parts e).0 ∙ ap (λ z. b ∷ z) (l.0), l.1)
  | inr r ↦ inr (r.0, ap (λ z. z ∷ xs) (parts e).0 ∙ ap (λ z. b ∷ z) (r.1))
]

pub Fitting-more : (F : Files) (items : List (Item F)) (item : Item F) → Fitting F items → Fits F items item → Fitting F (items ++ (item ∷ []))
Fitting-more F items item fits here before after x e = elim (last_of items before after item x e) [
  | inl last ↦ subst (λ z. Fits F before z) (last.1) (subst (λ z. Fits F z item) (last.0) here)
  | inr within ↦ fits before (within.0) x (within.1)
]
