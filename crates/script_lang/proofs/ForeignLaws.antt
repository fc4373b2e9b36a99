-- Which scripts one node runs whole.
use Rattle.std.proofs.Common.{◌≡◌, ◌↔◌, ◌⊎◌, inl, inr, ℕ, ◌+◌, ◌-◌, ◌^◌, ◌==◌, Bool, true, false, if◌then◌else◌, List, [], ◌∷◌, ◌++◌, length, map, Option, Some, None, refl, sym, ap, ◌∙◌, arith, eq-eqb}
use Rattle.std.specs.Prelude.{IsNone}
use Rattle.std.specs.List.{AllByRecursion}
use Rattle.std.proofs.lemmas.Bool.{eqb-true}
use Rattle.std.proofs.lemmas.List.{append-nil}
use Rattle.std.proofs.lemmas.Bool.Decides.{nat_tests}
use Rattle.file_tree.specs.declared.call.Call.{Call}
use Rattle.file_tree.specs.declared.call.Call.TheVariants as calls
use Rattle.script_lang.specs.declared.script.Client.{Client}
use Rattle.script_lang.specs.declared.script.Armed.{Armed}
use Rattle.script_lang.specs.declared.script.Line.{Line}
use Rattle.script_lang.specs.declared.script.Line.TheVariants as line
use Rattle.script_lang.specs.Script.{ScriptValue}
use Rattle.script_lang.specs.OneNode.{IsOneNode, IsOwnCall, IsOwnLine, node_one}
use Rattle.script_lang.specs.WellFormed.{IsArmed, IsClient, IsLine, IsWellFormed}
use Rattle.script_lang.specs.Foreign.{is_own_call, is_own_line, first_not, first_foreign}

-- ---- the first line of several

abbrev pub AllPass : {A : Type 0} → (A → Bool) → List A → Type 0
AllPass f xs = AllByRecursion (λ x. f x ≡ true) xs

-- lines that all pass are passed over
pub first_not-pass : {A : Type 0} (f : A → Bool) (n : ℕ) (xs : List A) (rest : List Bool) → AllPass f xs → first_not n (map f xs ++ rest) ≡ first_not (n + length xs) rest
first_not-pass f n [] rest all = let same : n ≡ n + 0 = omega arith in ap (λ (k : ℕ). first_not k rest) same
first_not-pass f n (x ∷ xs) rest all =
    let more = first_not-pass f (n + 1) xs rest all.1 in
    let same : n + 1 + length xs ≡ n + length (x ∷ xs) = omega arith in
    rw all.0 (more ∙ ap (λ (k : ℕ). first_not k rest) same)

-- where none is told, all pass
pub first_not-none : {A : Type 0} (f : A → Bool) (n : ℕ) (xs : List A) (rest : List Bool) → first_not n (map f xs ++ rest) ≡ None → AllPass f xs × (first_not (n + length xs) rest ≡ None)
first_not-none f n [] rest is = let same : n ≡ n + 0 = omega arith in (tt, ap (λ (k : ℕ). first_not k rest) (sym same) ∙ is)
first_not-none {A} f n (x ∷ xs) rest is = by_test (first_not-none f (n + 1) xs rest) (f x) refl is
  where
    by_test : (first_not (n + 1) (map f xs ++ rest) ≡ None → AllPass f xs × (first_not (n + 1 + length xs) rest ≡ None)) → (b : Bool) → f x ≡ b → (if b then first_not (n + 1) (map f xs ++ rest) else Some n) ≡ None
        → AllPass f (x ∷ xs) × (first_not (n + length (x ∷ xs)) rest ≡ None)
    by_test more true passes e = let both = more e in let same : n + length (x ∷ xs) ≡ n + 1 + length xs = omega arith in ((passes, both.0), ap (λ (k : ℕ). first_not k rest) same ∙ both.1)
    by_test more false passes e = cc

-- ---- one line

pub built_call : (call : Call) → is_own_call call ≡ true → IsOwnCall call
built_call (calls.Dread path at count) is = cc
built_call (calls.Truncate path size) is = tt
built_call (calls.Rename from to) is = tt
built_call (calls.Read path at count) is = tt
built_call (calls.List path) is = tt
built_call (calls.Create path) is = tt
built_call (calls.Mkdir path) is = tt
built_call (calls.Unlink path) is = tt
built_call (calls.Rmdir path) is = tt
built_call (calls.Write path at content) is = tt
built_call (calls.Stat path) is = tt
built_call calls.Sync is = tt

own_call : (call : Call) → IsOwnCall call → is_own_call call ≡ true
own_call (calls.Dread path at count) is = absurd is
own_call (calls.Truncate path size) is = refl
own_call (calls.Rename from to) is = refl
own_call (calls.Read path at count) is = refl
own_call (calls.List path) is = refl
own_call (calls.Create path) is = refl
own_call (calls.Mkdir path) is = refl
own_call (calls.Unlink path) is = refl
own_call (calls.Rmdir path) is = refl
own_call (calls.Write path at content) is = refl
own_call (calls.Stat path) is = refl
own_call calls.Sync is = refl

-- where there is one node a crash is one of it alone, also one of all nodes
crash_alone : (s : ScriptValue) → s.nodes ≡ 1 → (nodes : ℕ) → IsLine s (line.Crash nodes) → nodes ≡ node_one
crash_alone s one nodes is = elim is [
  | inl of ↦ (let it : of.0 ≡ 1 = omega (arith, of.1.0, of.1.1, one) in of.2 ∙ ap (λ (n : ℕ). 2 ^ n) it)
  | inr all ↦ all ∙ ap (λ (n : ℕ). 2 ^ (n + 1) - 2) one
]

one_node_line : (s : ScriptValue) → s.nodes ≡ 1 → (l : Line) → IsLine s l → is_own_line l ≡ true → IsOwnLine (length s.clients) l
one_node_line s one (line.Call client call) is own = (is.0, built_call call own)
one_node_line s one line.Wait is own = tt
one_node_line s one (line.Crash nodes) is own = crash_alone s one nodes is
one_node_line s one (line.Join node) is own = cc

own_line : (s : ScriptValue) (l : Line) → IsOwnLine (length s.clients) l → is_own_line l ≡ true
own_line s (line.Call client call) is = own_call call is.1
own_line s line.Wait is = refl
own_line s (line.Crash nodes) is = refl
own_line s (line.Join node) is = absurd is

-- ---- all lines

all_map : {A : Type 0} (P Q : A → Type 0) (xs : List A) → ((x : A) → P x → Q x) → AllByRecursion P xs → AllByRecursion Q xs
all_map P Q [] f all = tt
all_map P Q (x ∷ xs) f all = (f x all.0, all_map P Q xs f all.1)

all_both : {A : Type 0} (P Q R : A → Type 0) (xs : List A) → ((x : A) → P x → Q x → R x) → AllByRecursion P xs → AllByRecursion Q xs → AllByRecursion R xs
all_both P Q R [] f one two = tt
all_both P Q R (x ∷ xs) f one two = (f x one.0 two.0, all_both P Q R xs f one.1 two.1)

pub no_items : {A : Type 0} (xs : List A) → length xs ≡ 0 → xs ≡ []
no_items [] none = refl
no_items (x ∷ xs) none = absurd (omega (arith, none))

all_own : (n : ℕ) (ls : List Line) → first_not n (map is_own_line ls) ≡ None → AllPass is_own_line ls
all_own n ls is = (first_not-none is_own_line n ls [] (ap (first_not n) (append-nil (map is_own_line ls)) ∙ is)).0

module _ (s : ScriptValue) (well : IsWellFormed s) where
  abbrev on_one : Client → Bool
  on_one c = c.node == 1

  abbrev stops_one : Armed → Bool
  stops_one a = a.node == 1

  clients_on_one : s.nodes ≡ 1 → AllPass on_one s.clients
  clients_on_one one = all_map (IsClient s) (λ (c : Client). on_one c ≡ true) s.clients (λ c is. eq-eqb c.node 1 (omega (arith, is.1.0, is.1.1, one))) well.clients

  armed_on_one : s.nodes ≡ 1 → AllPass stops_one s.armed
  armed_on_one one = all_map (IsArmed s) (λ (a : Armed). stops_one a ≡ true) s.armed (λ a is. eq-eqb a.node 1 (omega (arith, is.0.0, is.0.1, one))) well.armed

  -- what is asked of a script of one node is asked of its lines
  pub at_lines : s.nodes ≡ 1 → first_not (2 + length s.clients + length s.armed) (map is_own_line s.lines) ≡ first_foreign s
  at_lines one =
      let is_one : (s.nodes == 1) ≡ true = eq-eqb s.nodes 1 one in
      let lines = map is_own_line s.lines in
      sym (rw is_one (first_not-pass on_one 2 s.clients (map stops_one s.armed ++ lines) (clients_on_one one) ∙ first_not-pass stops_one (2 + length s.clients) s.armed lines (armed_on_one one)))

  to_form : first_foreign s ≡ None → IsOneNode s
  to_form is = by_nodes (s.nodes == 1) refl is
    where
      by_nodes : (b : Bool) → (s.nodes == 1) ≡ b → (if b then first_not 2 (map on_one s.clients ++ (map stops_one s.armed ++ map is_own_line s.lines)) else Some 1) ≡ None → IsOneNode s
      by_nodes false other e = cc
      by_nodes true is_one e =
          let one : s.nodes ≡ 1 = eqb-true s.nodes 1 is_one in
          let heads = first_not-none on_one 2 s.clients (map stops_one s.armed ++ map is_own_line s.lines) e in
          let crashes = first_not-none stops_one (2 + length s.clients) s.armed (map is_own_line s.lines) heads.1 in
          let own : AllPass is_own_line s.lines = all_own _ s.lines crashes.1 in record {
            nodes = one;
            clients = all_map (λ (c : Client). on_one c ≡ true) (λ (c : Client). c.node ≡ 1) s.clients (λ c is. eqb-true c.node 1 is) heads.0;
            names = well.names;
            armed = all_map (λ (a : Armed). stops_one a ≡ true) (λ (a : Armed). a.node ≡ 1) s.armed (λ a is. eqb-true a.node 1 is) crashes.0;
            lines = all_both (IsLine s) (λ (l : Line). is_own_line l ≡ true) (IsOwnLine (length s.clients)) s.lines (one_node_line s one) well.lines own;
          }

  from_form : IsOneNode s → first_foreign s ≡ None
  from_form form =
      let own : AllPass is_own_line s.lines = all_map (IsOwnLine (length s.clients)) (λ (l : Line). is_own_line l ≡ true) s.lines (own_line s) form.lines in
      let first = 2 + length s.clients + length s.armed in
      sym (at_lines form.nodes) ∙ ap (first_not first) (sym (append-nil (map is_own_line s.lines))) ∙ first_not-pass is_own_line first s.lines [] own

  pub form_of : (r : Option ℕ) → r ≡ first_foreign s → IsNone r ↔ IsOneNode s
  form_of None is = (λ none. to_form (sym is), λ form. refl)
  form_of (Some k) is = (λ none. cc, λ form. let both : Some k ≡ None = is ∙ from_form form in cc)
