-- Each script that a text is read as is well formed.
use Rattle.std.proofs.Common.{◌≡◌, ◌≢◌, inl, inr, ℕ, ◌+◌, ◌-◌, ◌^◌, ◌<◌, ◌≤◌, ◌==◌, Bool, true, false, ◌&&◌, not, if◌then◌else◌, List, [], ◌∷◌, ◌++◌, length, Some, None, refl, sym, ap, ◌∙◌, subst, arith}
use Rattle.std.specs.Prelude.{codes, nat_lt}
use Rattle.std.specs.List.{AllByRecursion}
use Rattle.std.specs.Str.{bytes_eq}
use Rattle.std.proofs.lemmas.Bool.{and_parts, or_parts, eqb-true, eqb-false, not-true}
use Rattle.std.proofs.lemmas.Bool.Decides.{nat_tests}
use Rattle.std.proofs.lemmas.List.{length-append}
use Rattle.std.proofs.lemmas.List.Quantifiers.{position-Some}
use Rattle.std.proofs.lemmas.Slice.Eq.{bytes_eq-Decides}
use Rattle.file_tree.specs.declared.call.Call.{Call}
use Rattle.script_lang.specs.declared.script.Client.{Client}
use Rattle.script_lang.specs.declared.script.Armed.{Armed}
use Rattle.script_lang.specs.declared.script.Fate.{Fate}
use Rattle.script_lang.specs.declared.script.Fate.TheVariants.{Old, New, Torn}
use Rattle.script_lang.specs.declared.script.Line.{Line}
use Rattle.script_lang.specs.declared.script.Line.TheVariants as line
use Rattle.script_lang.specs.Script.{ScriptValue}
use Rattle.number_words.specs.Numbers.{number_in}
use Rattle.script_lang.specs.Words.{LineRead, Got, Wrong, ends, a_word, the_word, is_client_name}
use Rattle.script_lang.specs.Grammar.{client_limit, nothing, has_client, new_client, client_before_colon, with_line, with_armed, nodes_line, client_line, fate_read, is_armed, may_arm, armed_line, after_node, crash_line, called, call_line, call_read, may_have_client, later_line, line_read}
use Rattle.script_lang.specs.OneNode.{HaveOwnClientNames}
use Rattle.script_lang.specs.WellFormed.{IsNode, IsAllowedCall, IsClient, IsFate, IsArmed, IsLine, HaveOwnNodes}
use Rattle.script_lang.proofs.ForeignLaws.{no_items}
use Rattle.script_lang.proofs.GotLaws.{AllGot, got-wrong, got-got, got-ends, got-later, got-if, got-a_word, number_limits, allowed_read}

-- ---- one more element

all_push : {A : Type 0} (P : A → Type 0) (xs : List A) (x : A) → AllByRecursion P xs → P x → AllByRecursion P (xs ++ x ∷ [])
all_push P [] x all here = (here, tt)
all_push P (y ∷ ys) x all here = (all.0, all_push P ys x all.1 here)

names_push : (cs : List Client) (c : Client) → HaveOwnClientNames cs → has_client cs c.name ≡ false → HaveOwnClientNames (cs ++ c ∷ [])
names_push [] c own none = (tt, tt)
names_push (d ∷ ds) c own none =
    let parts = or_parts (bytes_eq d.name c.name) (has_client ds c.name) none in (
      all_push (λ (e : Client). d.name ≢ e.name) ds c own.0 (λ same. let both : true ≡ false = sym ((bytes_eq-Decides d.name c.name).1 same) ∙ parts.0 in cc),
      names_push ds c own.1 parts.1,
    )

nodes_push : (as' : List Armed) (a : Armed) → HaveOwnNodes as' → is_armed as' a.node ≡ false → HaveOwnNodes (as' ++ a ∷ [])
nodes_push [] a own none = (tt, tt)
nodes_push (b ∷ bs) a own none =
    let parts = or_parts (b.node == a.node) (is_armed bs a.node) none in (
      all_push (λ (d : Armed). b.node ≢ d.node) bs a own.0 (eqb-false b.node a.node parts.0),
      nodes_push bs a own.1 parts.1,
    )

-- ---- the script before the line of this number

pub record IsSoFar (n : ℕ) (s : ScriptValue) : Type 0 where
  pub few_nodes : s.nodes ≤ 8
  pub few_clients : length s.clients ≤ client_limit
  pub no_lines : s.nodes ≡ 0 → (s.clients ≡ []) × (s.armed ≡ []) × (s.lines ≡ []) × (n ≡ 1)
  pub counted : 1 ≤ s.nodes → n ≡ 2 + length s.clients + length s.armed + length s.lines
  pub clients : AllByRecursion (IsClient s) s.clients
  pub names : HaveOwnClientNames s.clients
  pub armed : AllByRecursion (IsArmed s) s.armed
  pub armed_nodes : HaveOwnNodes s.armed
  pub lines : AllByRecursion (IsLine s) s.lines

pub so_far-none : IsSoFar 1 nothing
so_far-none = record {
  few_nodes = omega arith;
  few_clients = omega arith;
  no_lines = λ none. (refl, refl, refl, refl);
  counted = λ some. absurd (omega arith);
  clients = tt;
  names = tt;
  armed = tt;
  armed_nodes = tt;
  lines = tt;
}

module _ (n : ℕ) (s : ScriptValue) (so : IsSoFar n s) where
  abbrev Next : ScriptValue → Type 0
  Next s' = IsSoFar (n + 1) s'

  with_nodes : (k : ℕ) → s.nodes ≡ 0 → 1 ≤ k → k ≤ 8 → Next (record s { nodes = k })
  with_nodes k none some few =
      let no = so.no_lines none in record {
        few_nodes = few;
        few_clients = so.few_clients;
        no_lines = λ zero_nodes. absurd (omega (arith, some, zero_nodes));
        counted = λ k_some. omega (arith, ap length no.0, ap length no.1, ap length no.2, no.3);
        clients = subst (AllByRecursion (IsClient (record s { nodes = k }))) (sym no.0) tt;
        names = so.names;
        armed = subst (AllByRecursion (IsArmed (record s { nodes = k }))) (sym no.1) tt;
        armed_nodes = so.armed_nodes;
        lines = subst (AllByRecursion (IsLine (record s { nodes = k }))) (sym no.2) tt;
      }

  module _ (some : 1 ≤ s.nodes) where
    add_client : (c : Client) → IsClient s c → has_client s.clients c.name ≡ false → s.lines ≡ [] → length s.clients < client_limit → Next (record s { clients = s.clients ++ c ∷ [] })
    add_client c is_client new none few =
        let size : length (s.clients ++ c ∷ []) ≡ length s.clients + 1 = length-append s.clients (c ∷ []) in record {
          few_nodes = so.few_nodes;
          few_clients = omega (arith, few, size);
          no_lines = λ zero_nodes. absurd (omega (arith, some, zero_nodes));
          counted = λ _. omega (arith, so.counted some, size);
          clients = all_push (IsClient s) s.clients c so.clients is_client;
          names = names_push s.clients c so.names new;
          armed = so.armed;
          armed_nodes = so.armed_nodes;
          lines = subst (AllByRecursion (IsLine (record s { clients = s.clients ++ c ∷ [] }))) (sym none) tt;
        }

    add_armed : (a : Armed) → IsArmed s a → is_armed s.armed a.node ≡ false → Next (record s { armed = s.armed ++ a ∷ [] })
    add_armed a is_one new =
        let size : length (s.armed ++ a ∷ []) ≡ length s.armed + 1 = length-append s.armed (a ∷ []) in record {
          few_nodes = so.few_nodes;
          few_clients = so.few_clients;
          no_lines = λ zero_nodes. absurd (omega (arith, some, zero_nodes));
          counted = λ _. omega (arith, so.counted some, size);
          clients = so.clients;
          names = so.names;
          armed = all_push (IsArmed s) s.armed a so.armed is_one;
          armed_nodes = nodes_push s.armed a so.armed_nodes new;
          lines = so.lines;
        }

    add_line : (l : Line) → IsLine s l → Next (with_line s l)
    add_line l is_line =
        let size : length (s.lines ++ l ∷ []) ≡ length s.lines + 1 = length-append s.lines (l ∷ []) in record {
          few_nodes = so.few_nodes;
          few_clients = so.few_clients;
          no_lines = λ zero_nodes. absurd (omega (arith, some, zero_nodes));
          counted = λ _. omega (arith, so.counted some, size);
          clients = so.clients;
          names = so.names;
          armed = so.armed;
          armed_nodes = so.armed_nodes;
          lines = all_push (IsLine s) s.lines l so.lines is_line;
        }

    -- ---- each kind of line behind the first

    new_name : (w name : List ℕ) → new_client s.clients w ≡ Some name → (has_client s.clients name ≡ false) × (is_client_name name ≡ true)
    new_name w name is = by_tests (has_client s.clients w) (is_client_name w) refl refl is
      where
        by_tests : (has fits : Bool) → has_client s.clients w ≡ has → is_client_name w ≡ fits → (if has then None else if fits then Some w else None) ≡ Some name → (has_client s.clients name ≡ false) × (is_client_name name ≡ true)
        by_tests true fits has_is fits_is e = cc
        by_tests false false has_is fits_is e = cc
        by_tests false true has_is fits_is e = let same : w ≡ name = cc in subst (λ (v : List ℕ). (has_client s.clients v ≡ false) × (is_client_name v ≡ true)) same (has_is, fits_is)

    next_client : (ws : List (List ℕ)) → may_have_client s ≡ true → AllGot Next (client_line s ws)
    next_client ws may =
        let front = and_parts ((length s.armed == 0) && (length s.lines == 0)) (nat_lt (length s.clients) client_limit) may in
        let empty = and_parts (length s.armed == 0) (length s.lines == 0) front.0 in
        let none : s.lines ≡ [] = no_items s.lines (eqb-true (length s.lines) 0 empty.1) in
        let room : nat_lt (length s.clients) client_limit ≡ true = front.1 in
        let few : length s.clients < client_limit = grind (arith, nat_tests) in
        let put : List ℕ → ℕ → ScriptValue = λ name node. record s { clients = s.clients ++ record { name = name; node = node } ∷ [] } in
        got-a_word Next (new_client s.clients) (λ name. a_word (the_word (codes "on")) (λ _. a_word (number_in 1 s.nodes) (λ node. ends (put name node)))) ws (λ w name ws' is_name.
        got-a_word Next (the_word (codes "on")) (λ _. a_word (number_in 1 s.nodes) (λ node. ends (put name node))) ws' (λ w' on ws'' is_on.
        got-a_word Next (number_in 1 s.nodes) (λ node. ends (put name node)) ws'' (λ w'' node more is_node.
        let new = new_name w name is_name in
        let fits : IsClient s (record { name = name; node = node }) = (new.1, number_limits 1 s.nodes w'' node is_node) in
        got-ends Next (put name node) more (add_client (record { name = name; node = node }) fits new.0 none few))))

    next_fate : (node write : ℕ) (ws : List (List ℕ)) → IsNode s node → 1 ≤ write → is_armed s.armed node ≡ false → AllGot Next (fate_read (with_armed s node write) ws)
    next_fate node write [] in_nodes first new = got-wrong Next 0
    next_fate node write (w ∷ ws) in_nodes first new =
        let arm : (f : Fate) → IsFate f → Next (with_armed s node write f) = λ f fits. add_armed (record { node = node; write = write; fate = f }) (in_nodes, first, fits) new in
        got-if Next (bytes_eq w (codes "old")) _ _ (λ e. got-later Next _ (got-ends Next (with_armed s node write Old) ws (arm Old tt))) (λ e.
        got-if Next (bytes_eq w (codes "new")) _ _ (λ e'. got-later Next _ (got-ends Next (with_armed s node write New) ws (arm New tt))) (λ e'.
        got-if Next (bytes_eq w (codes "torn")) _ _ (λ e''. got-later Next _ (got-a_word Next (number_in 1 4095) (λ bytes. ends (with_armed s node write (Torn bytes))) ws (λ w' bytes more is_bytes.
        got-ends Next (with_armed s node write (Torn bytes)) more (arm (Torn bytes) (number_limits 1 4095 w' bytes is_bytes))))) (λ e''. got-wrong Next 0)))

    next_armed : (node : ℕ) (ws : List (List ℕ)) → IsNode s node → is_armed s.armed node ≡ false → AllGot Next (armed_line s node ws)
    next_armed node ws in_nodes new =
        got-a_word Next (number_in 1 (2 ^ 64 - 1)) (λ write. fate_read (with_armed s node write)) ws (λ w write more is_write.
        next_fate node write more in_nodes (number_limits 1 (2 ^ 64 - 1) w write is_write).0 new)

    next_after_node : (node : ℕ) (ws : List (List ℕ)) → IsNode s node → AllGot Next (after_node s node ws)
    next_after_node node [] in_nodes = got-got Next (with_line s (line.Crash (2 ^ node))) (add_line (line.Crash (2 ^ node)) (inl (node, in_nodes, refl)))
    next_after_node node (w ∷ ws) in_nodes =
        got-if Next (bytes_eq w (codes "at") && may_arm s node) _ _ (λ e.
        let may = and_parts (bytes_eq w (codes "at")) (may_arm s node) e in
        let new : is_armed s.armed node ≡ false = not-true (is_armed s.armed node) (and_parts (length s.lines == 0) (not (is_armed s.armed node)) may.1).1 in
        got-later Next _ (next_armed node ws in_nodes new)) (λ e. got-wrong Next 0)

    next_crash : (ws : List (List ℕ)) → AllGot Next (crash_line s ws)
    next_crash [] = got-wrong Next 0
    next_crash (w ∷ ws) =
        got-if Next (bytes_eq w (codes "all")) _ _ (λ e. got-later Next _ (got-ends Next _ ws (add_line (line.Crash (2 ^ (s.nodes + 1) - 2)) (inr refl)))) (λ e.
        got-a_word Next (number_in 1 s.nodes) (after_node s) (w ∷ ws) (λ w' node more is_node. next_after_node node more (number_limits 1 s.nodes w' node is_node)))

    next_called : (client : ℕ) (read : LineRead Call) → client < length s.clients → AllGot IsAllowedCall read → AllGot Next (called s client read)
    next_called client (Wrong k) within all = got-wrong Next k
    next_called client (Got call) within all = got-got Next _ (add_line (line.Call client call) (within, all call refl))

    next_call : (ws : List (List ℕ)) → AllGot Next (call_line s ws)
    next_call ws =
        got-a_word Next (client_before_colon s.clients) (λ client rest. called s client (call_read rest)) ws (λ w client more is_client.
        next_called client (call_read more) (position-Some (λ c. bytes_eq w (c.name ++ codes ":")) s.clients client (record { name = []; node = 0 }) is_client).0 (allowed_read more))

    next_later : (w : List ℕ) (ws : List (List ℕ)) → AllGot Next (later_line s w ws)
    next_later w ws =
        got-if Next (bytes_eq w (codes "client") && may_have_client s) _ _ (λ e. got-later Next _ (next_client ws (and_parts (bytes_eq w (codes "client")) (may_have_client s) e).1)) (λ e.
        got-if Next (length s.clients == 0) _ _ (λ e'. got-wrong Next 0) (λ e'.
        got-if Next (bytes_eq w (codes "crash")) _ _ (λ e''. got-later Next _ (next_crash ws)) (λ e''.
        got-if Next (bytes_eq w (codes "wait")) _ _ (λ e3. got-later Next _ (got-ends Next _ ws (add_line line.Wait tt))) (λ e3.
        got-if Next (bytes_eq w (codes "join")) _ _ (λ e4. got-later Next _ (got-a_word Next (number_in 1 s.nodes) (λ node. ends (with_line s (line.Join node))) ws (λ w' node more is_node.
        got-ends Next _ more (add_line (line.Join node) (number_limits 1 s.nodes w' node is_node))))) (λ e4. next_call (w ∷ ws))))))

  next_nodes : (ws : List (List ℕ)) → s.nodes ≡ 0 → AllGot Next (nodes_line s ws)
  next_nodes ws none =
      got-a_word Next (the_word (codes "nodes")) (λ _. a_word (number_in 1 8) (λ k. ends (record s { nodes = k }))) ws (λ w nodes ws' is_nodes.
      got-a_word Next (number_in 1 8) (λ k. ends (record s { nodes = k })) ws' (λ w' k more is_k.
      let limits = number_limits 1 8 w' k is_k in got-ends Next (record s { nodes = k }) more (with_nodes k none limits.0 limits.1)))

  next_line : (ws : List (List ℕ)) → AllGot Next (line_read s ws)
  next_line [] = got-wrong Next 0
  next_line (w ∷ ws) = got-if Next (s.nodes == 0) _ _ (λ e. next_nodes (w ∷ ws) (eqb-true s.nodes 0 e)) (λ e. let some : 1 ≤ s.nodes = grind (arith, nat_tests) in next_later some w ws)

-- ---- a line that is read keeps the form

pub so_far-more : (n : ℕ) (s s' : ScriptValue) (ws : List (List ℕ)) → IsSoFar n s → line_read s ws ≡ Got s' → IsSoFar (n + 1) s'
so_far-more n s s' ws so is = next_line n s so ws s' is
