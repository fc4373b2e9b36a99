-- Clients and nodes that are printed are found again.
use Rattle.std.proofs.Common.{◌≡◌, ◌≢◌, ℕ, zero, suc, ◌+◌, ◌-◌, ◌^◌, ◌<◌, ◌≤◌, ◌==◌, Bool, true, false, List, [], ◌∷◌, ◌++◌, length, Option, Some, None, refl, sym, ap, ◌∙◌, arith}
use Rattle.std.specs.Prelude.{codes, nat_lt, ◌||◌}
use Rattle.std.specs.List.{AllByRecursion, list_any, position_or_len}
use Rattle.std.specs.Str.{bytes_eq}
use Rattle.std.specs.Fmt.{decimal}
use Rattle.std.proofs.lemmas.Bool.{agree_below_at, eqb-true, false≢true}
use Rattle.std.proofs.lemmas.Bool.Decides.{nat_tests}
use Rattle.std.proofs.lemmas.Fmt.{decimal_digit}
use Rattle.std.proofs.lemmas.List.{same_from_push}
use Rattle.std.proofs.lemmas.List.Folds.{list_any-append}
use Rattle.std.proofs.lemmas.Slice.Eq.{bytes_eq-Decides}
use Rattle.file_tree.proofs.Spelled.{bytes_eq-other}
use Rattle.script_lang.specs.declared.script.Client.{Client}
use Rattle.script_lang.specs.declared.script.Armed.{Armed}
use Rattle.script_lang.specs.OneNode.{HaveOwnClientNames}
use Rattle.script_lang.specs.WellFormed.{HaveOwnNodes}
use Rattle.script_lang.specs.Grammar.{has_client, client_before_colon, is_armed}
use Rattle.script_laws.specs.Printing.{name_of, only_node}

-- ---- a word with a colon is no word without

or_true : (a : Bool) → (a || true) ≡ true
or_true true = refl
or_true false = refl

pub no_word : (name w : List ℕ) → list_any (λ b. b == 58) w ≡ false → bytes_eq (name ++ 58 ∷ []) w ≡ false
no_word name w none =
    bytes_eq-other (name ++ 58 ∷ []) w (λ same.
    let has : list_any (λ b. b == 58) (name ++ 58 ∷ []) ≡ true = list_any-append (λ b. b == 58) name (58 ∷ []) ∙ or_true (list_any (λ b. b == 58) name) in
    false≢true (sym none ∙ sym (ap (list_any (λ b. b == 58)) same) ∙ has))

-- ---- the client of a name

all_front : {A : Type 0} (P : A → Type 0) (xs : List A) (x : A) (ys : List A) → AllByRecursion P (xs ++ x ∷ ys) → P x
all_front P [] x ys all = all.0
all_front P (y ∷ xs) x ys all = all_front P xs x ys all.1

neither : (a b : Bool) → a ≡ false → b ≡ false → (a || b) ≡ false
neither true b one two = one
neither false b one two = two

pub new_name : (front : List Client) (c : Client) (rest : List Client) → HaveOwnClientNames (front ++ c ∷ rest) → has_client front c.name ≡ false
new_name [] c rest own = refl
new_name (d ∷ ds) c rest own = neither _ _ (bytes_eq-other d.name c.name (all_front (λ (e : Client). d.name ≢ e.name) ds c rest own.0)) (new_name ds c rest own.1)

pub new_node : (front : List Armed) (a : Armed) (rest : List Armed) → HaveOwnNodes (front ++ a ∷ rest) → is_armed front a.node ≡ false
new_node [] a rest own = refl
new_node (b ∷ bs) a rest own =
    let other : b.node ≢ a.node = all_front (λ (d : Armed). b.node ≢ d.node) bs a rest own.0 in
    neither _ _ (grind (arith, nat_tests)) (new_node bs a rest own.1)

pub name_at : (P : List ℕ → Type 0) (cs : List Client) (k : ℕ) → AllByRecursion (λ (c : Client). P c.name) cs → k < length cs → P (name_of cs k)
name_at P [] k all within = absurd (omega arith)
name_at P (c ∷ cs) zero all within = all.0
name_at P (c ∷ cs) (suc k) all within = name_at P cs k all.1 (omega arith)

place_of : (cs : List Client) (k : ℕ) → HaveOwnClientNames cs → k < length cs → position_or_len (λ (c : Client). bytes_eq (name_of cs k ++ 58 ∷ []) (c.name ++ codes ":")) cs ≡ k
place_of [] k own within = absurd (omega arith)
place_of (c ∷ cs) zero own within = let here : bytes_eq (c.name ++ 58 ∷ []) (c.name ++ 58 ∷ []) ≡ true = (bytes_eq-Decides (c.name ++ 58 ∷ []) (c.name ++ 58 ∷ [])).1 refl in rw here refl
place_of (c ∷ cs) (suc k) own within =
    let other : c.name ≢ name_of cs k = name_at (λ (n : List ℕ). c.name ≢ n) cs k own.0 (omega arith) in
    let differs : bytes_eq (name_of cs k ++ 58 ∷ []) (c.name ++ 58 ∷ []) ≡ false = bytes_eq-other (name_of cs k ++ 58 ∷ []) (c.name ++ 58 ∷ []) (λ same. other (sym (same_from_push (name_of cs k) c.name 58 58 same).0)) in
    let later : position_or_len (λ (c : Client). bytes_eq (name_of cs k ++ 58 ∷ []) (c.name ++ codes ":")) cs ≡ k = place_of cs k own.1 (omega arith) in
    rw differs (omega (arith, later))

pub client-back : (cs : List Client) (k : ℕ) → HaveOwnClientNames cs → k < length cs → client_before_colon cs (name_of cs k ++ codes ":") ≡ Some k
client-back cs k own within =
    let place = place_of cs k own within in
    let inside : nat_lt k (length cs) ≡ true = grind (arith, nat_tests) in
    rw (place, inside) refl

-- ---- nodes

abbrev node_test : Option ℕ → ℕ → Bool
node_test None node = false
node_test (Some n) node = n == node

found : (o : Option ℕ) (node : ℕ) → node_test o node ≡ true → o ≡ Some node
found None node is = cc
found (Some n) node is = ap Some (eqb-true n node is)

pub one_node : (node : ℕ) → 1 ≤ node → node ≤ 8 → only_node (2 ^ node) ≡ Some node
one_node node some few = found (only_node (2 ^ node)) node (agree_below_at (λ n. node_test (only_node (2 ^ n)) n) (λ _. true) 9 node refl (omega (arith, few)))

-- the bits of all nodes are those of no single one, or there is one node
pub data AllNodes (nodes : ℕ) : Type 0 where
  Together : only_node (2 ^ (nodes + 1) - 2) ≡ None → AllNodes nodes
  Alone : nodes ≡ 1 → AllNodes nodes

abbrev all_test : Option ℕ → ℕ → Bool
all_test None nodes = true
all_test (Some n) nodes = nodes == 1

told : (o : Option ℕ) (nodes : ℕ) → only_node (2 ^ (nodes + 1) - 2) ≡ o → all_test o nodes ≡ true → AllNodes nodes
told None nodes o_is is = Together o_is
told (Some n) nodes o_is is = Alone (eqb-true nodes 1 is)

pub all_nodes : (nodes : ℕ) → nodes ≤ 8 → AllNodes nodes
all_nodes nodes few = told _ nodes refl (agree_below_at (λ n. all_test (only_node (2 ^ (n + 1) - 2)) n) (λ _. true) 9 nodes refl (omega (arith, few)))

pub not_all : (node : ℕ) → node ≤ 8 → bytes_eq (decimal node) (codes "all") ≡ false
not_all node few = bytes_eq-other (decimal node) (codes "all") (λ same. absurd (omega (arith, ap length (sym (decimal_digit node (omega (arith, few))) ∙ same))))
