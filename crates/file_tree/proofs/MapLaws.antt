-- A directory as a map from names to trees.
use Rattle.std.proofs.Common.{◌≡◌, ◌≢◌, ℕ, inl, inr, Bool, true, false, List, Option, Some, refl, sym, ap, ◌∙◌}
use Rattle.std.specs.Prelude.{if◌then◌else◌}
use Rattle.std.specs.Ordering.{is_eq}
use Rattle.std.specs.Str.{bytes_eq}
use Rattle.std.specs.declared.cmp.Ordering.{Ordering}
use Rattle.std.specs.declared.cmp.Ordering.TheVariants.{Less, Equal, Greater}
use Rattle.std.proofs.lemmas.Bool.{cases_Bool}
use Rattle.std.proofs.lemmas.Map.Text.{is_eq-slice_cmp}
use Rattle.std.proofs.lemmas.Slice.Eq.{bytes_eq-Decides}
use Rattle.file_tree.specs.Tree.{Tree, Entries, none, entry, name_order, if_equal, by_order, look, set}

pub same_order : (n m : List ℕ) → name_order n m ≡ Equal → n ≡ m
same_order n m is = (bytes_eq-Decides n m).0 (sym (is_eq-slice_cmp n m) ∙ ap is_eq is)

order_same : (n m : List ℕ) → n ≡ m → is_eq (name_order n m) ≡ true
order_same n m is = is_eq-slice_cmp n m ∙ (bytes_eq-Decides n m).1 is

by_test : {A : Type 0} (o : Ordering) (a b : A) → if_equal o a b ≡ (if is_eq o then a else b)
by_test Less a b = refl
by_test Equal a b = refl
by_test Greater a b = refl

pub look-entry : (n : List ℕ) (t : Tree) (es : Entries) (m : List ℕ) → look (entry n t es) m ≡ (if bytes_eq m n then Some t else look es m)
look-entry n t es m = by_test (name_order m n) (Some t) (look es m) ∙ ap (λ (b : Bool). if b then Some t else look es m) (is_eq-slice_cmp m n)

-- a set name at the place of an equal one
at_equal : (n k m : List ℕ) (t u : Tree) (es : Entries) → n ≡ k → (b : Bool) → bytes_eq m n ≡ b → (if b then Some t else look es m) ≡ (if b then Some t else look (entry k u es) m)
at_equal n k m t u es same true is = refl
at_equal n k m t u es same false is = sym (look-entry k u es m ∙ ap (λ (b : Bool). if b then Some u else look es m) (ap (bytes_eq m) (sym same) ∙ is))

-- and behind another one
at_greater : (n k m : List ℕ) (t u : Tree) (rest : Option Tree) → is_eq (name_order n k) ≡ false → (b c : Bool) → bytes_eq m n ≡ b → bytes_eq m k ≡ c
    → (if c then Some u else (if b then Some t else rest)) ≡ (if b then Some t else (if c then Some u else rest))
at_greater n k m t u rest other true true named keyed =
    let same : is_eq (name_order n k) ≡ true = order_same n k (sym ((bytes_eq-Decides m n).0 named) ∙ (bytes_eq-Decides m k).0 keyed) in absurd (cc)
at_greater n k m t u rest other true false named keyed = refl
at_greater n k m t u rest other false true named keyed = refl
at_greater n k m t u rest other false false named keyed = refl

by_place : (k : List ℕ) (u : Tree) (es : Entries) (n : List ℕ) (t : Tree) (m : List ℕ) (o : Ordering) → name_order n k ≡ o → look (set es n t) m ≡ (if bytes_eq m n then Some t else look es m)
    → look (by_order o (entry n t (entry k u es)) (entry n t es) (entry k u (set es n t))) m ≡ (if bytes_eq m n then Some t else look (entry k u es) m)
by_place k u es n t m Less is more = look-entry n t (entry k u es) m
by_place k u es n t m Equal is more = look-entry n t es m ∙ at_equal n k m t u es (same_order n k is) (bytes_eq m n) refl
by_place k u es n t m Greater is more =
    look-entry k u (set es n t) m ∙ ap (λ (o : Option Tree). if bytes_eq m k then Some u else o) more ∙ at_greater n k m t u (look es m) (ap is_eq is) (bytes_eq m n) (bytes_eq m k) refl refl
    ∙ ap (λ (o : Option Tree). if bytes_eq m n then Some t else o) (sym (look-entry k u es m))

-- a name stands for the tree that it was set to, and every other name for what it stood for
pub look-set : (es : Entries) (n : List ℕ) (t : Tree) (m : List ℕ) → look (set es n t) m ≡ (if bytes_eq m n then Some t else look es m)
look-set none n t m = look-entry n t none m
look-set (entry k u es) n t m = by_place k u es n t m (name_order n k) refl (look-set es n t m)

-- ---- a name beside itself, and beside another one

is_equal : (r : Ordering) → is_eq r ≡ true → r ≡ Equal
is_equal Less e = cc
is_equal Equal e = refl
is_equal Greater e = cc

pub order_self : (n : List ℕ) → name_order n n ≡ Equal
order_self n = is_equal _ (order_same n n refl)

pub look_self : {A : Type 0} (n : List ℕ) (a b : A) → if_equal (name_order n n) a b ≡ a
look_self n a b = rw (order_self n) refl

pub look_eq : {A : Type 0} (n m : List ℕ) (a b : A) → n ≡ m → if_equal (name_order n m) a b ≡ a
look_eq n m a b e = ap (λ z. if_equal (name_order z m) a b) e ∙ look_self m a b

unequal_test : (n m : List ℕ) → n ≢ m → bytes_eq n m ≡ false
unequal_test n m d = elim (cases_Bool (bytes_eq n m)) [ inl e ↦ absurd (d ((bytes_eq-Decides n m).0 e)) | inr e ↦ e ]

pub look_other : {A : Type 0} (n m : List ℕ) (a b : A) → n ≢ m → if_equal (name_order n m) a b ≡ b
look_other n m a b d = by_test (name_order n m) a b ∙ ap (λ (t : Bool). if t then a else b) (is_eq-slice_cmp n m ∙ unequal_test n m d)
