-- What some lines are read into, and how to make a script of it.
use Rattle.std.proofs.Common.{◌≡◌, ℕ, ◌+◌, ◌-◌, ◌^◌, ◌≤◌, ◌==◌, true, false, ◌&&◌, not, List, [], ◌∷◌, ◌++◌, length, refl, sym, ap, ◌∙◌, subst, arith, length-append}
use Rattle.std.specs.Prelude.{codes}
use Rattle.std.specs.List.{AllByRecursion, list_all}
use Rattle.std.specs.Str.{bytes_eq}
use Rattle.std.specs.Fmt.{decimal}
use Rattle.std.proofs.lemmas.Bool.Decides.{nat_tests}
use Rattle.std.proofs.lemmas.Fmt.{decimal_digit}
use Rattle.file_tree.specs.declared.call.Call.{Call}
use Rattle.number_words.specs.Numbers.{number_in}
use Rattle.script_lang.specs.declared.script.Client.{Client}
use Rattle.script_lang.specs.declared.script.Fate.TheVariants.{Old, New, Torn}
use Rattle.script_lang.specs.declared.script.Line.TheVariants as line
use Rattle.script_lang.specs.Script.{ScriptValue}
use Rattle.script_lang.specs.Words.{words_in, LineRead, Got, Wrong, ends, a_word, the_word}
use Rattle.script_lang.specs.Grammar.{line_limit, nothing, new_client, client_before_colon, with_line, with_armed, client_line, fate_read, may_arm, after_node, crash_line, called, call_line, call_read, may_have_client, later_line, line_read}
use Rattle.script_lang.proofs.GotLaws.{AllGot, got-wrong, got-got, got-ends, got-later, got-if, got-a_word, number_limits}
use Rattle.script_laws.specs.Printing.{nodes_text, client_text}
use Rattle.script_laws.specs.Places.{bytes_in}
use Rattle.script_laws.proofs.Inks.{InLine, in_line, all-weaker, ink-decimal, line-word}
use Rattle.script_laws.proofs.LinesBack.{so_far, nodes-back, client-read}
use Rattle.script_laws.proofs.ScriptsBack.{Reach}

-- ---- behind the first client there is always one

abbrev pub IsReady : ScriptValue → Type 0
IsReady s = (1 ≤ s.nodes) × (s.nodes ≤ 8) × (1 ≤ length s.clients)

module _ (s : ScriptValue) (some : 1 ≤ s.nodes) (few : s.nodes ≤ 8) where
  got-client : (ws : List (List ℕ)) → AllGot IsReady (client_line s ws)
  got-client ws =
      let put : List ℕ → ℕ → ScriptValue = λ name node. record s { clients = s.clients ++ record { name = name; node = node } ∷ [] } in
      got-a_word IsReady (new_client s.clients) (λ name. a_word (the_word (codes "on")) (λ _. a_word (number_in 1 s.nodes) (λ node. ends (put name node)))) ws (λ w name ws' is_name.
      got-a_word IsReady (the_word (codes "on")) (λ _. a_word (number_in 1 s.nodes) (λ node. ends (put name node))) ws' (λ w' on ws'' is_on.
      got-a_word IsReady (number_in 1 s.nodes) (λ node. ends (put name node)) ws'' (λ w'' node more is_node.
      got-ends IsReady (put name node) more (some, few, omega (arith, length-append s.clients (record { name = name; node = node } ∷ []))))))

  module _ (one : 1 ≤ length s.clients) where
    ready : IsReady s
    ready = (some, few, one)

    got-fate : (node write : ℕ) (ws : List (List ℕ)) → AllGot IsReady (fate_read (with_armed s node write) ws)
    got-fate node write [] = got-wrong IsReady 0
    got-fate node write (w ∷ ws) =
        got-if IsReady (bytes_eq w (codes "old")) _ _ (λ e. got-later IsReady _ (got-ends IsReady (with_armed s node write Old) ws ready)) (λ e.
        got-if IsReady (bytes_eq w (codes "new")) _ _ (λ e'. got-later IsReady _ (got-ends IsReady (with_armed s node write New) ws ready)) (λ e'.
        got-if IsReady (bytes_eq w (codes "torn")) _ _ (λ e''. got-later IsReady _ (got-a_word IsReady (number_in 1 4095) (λ bytes. ends (with_armed s node write (Torn bytes))) ws (λ w' bytes more is_bytes.
        got-ends IsReady (with_armed s node write (Torn bytes)) more ready))) (λ e''. got-wrong IsReady 0)))

    got-after : (node : ℕ) (ws : List (List ℕ)) → AllGot IsReady (after_node s node ws)
    got-after node [] = got-got IsReady (with_line s (line.Crash (2 ^ node))) ready
    got-after node (w ∷ ws) =
        got-if IsReady (bytes_eq w (codes "at") && may_arm s node) _ _ (λ e. got-later IsReady _
        (got-a_word IsReady (number_in 1 (2 ^ 64 - 1)) (λ write. fate_read (with_armed s node write)) ws (λ w' write more is_write. got-fate node write more))) (λ e. got-wrong IsReady 0)

    got-crash : (ws : List (List ℕ)) → AllGot IsReady (crash_line s ws)
    got-crash [] = got-wrong IsReady 0
    got-crash (w ∷ ws) =
        got-if IsReady (bytes_eq w (codes "all")) _ _ (λ e. got-later IsReady _ (got-ends IsReady (with_line s (line.Crash (2 ^ (s.nodes + 1) - 2))) ws ready)) (λ e.
        got-a_word IsReady (number_in 1 s.nodes) (after_node s) (w ∷ ws) (λ w' node more is_node. got-after node more))

    got-called : (client : ℕ) (read : LineRead Call) → AllGot IsReady (called s client read)
    got-called client (Wrong k) = got-wrong IsReady k
    got-called client (Got call) = got-got IsReady (with_line s (line.Call client call)) ready

    got-other : (w : List ℕ) (ws : List (List ℕ)) → AllGot IsReady (call_line s (w ∷ ws))
    got-other w ws = got-a_word IsReady (client_before_colon s.clients) (λ client rest. called s client (call_read rest)) (w ∷ ws) (λ w' client more is_client. got-called client (call_read more))

  got-later_line : (w : List ℕ) (ws : List (List ℕ)) → AllGot IsReady (later_line s w ws)
  got-later_line w ws =
      got-if IsReady (bytes_eq w (codes "client") && may_have_client s) _ _ (λ e. got-later IsReady _ (got-client ws)) (λ e.
      got-if IsReady (length s.clients == 0) _ _ (λ e'. got-wrong IsReady 0) (λ e'.
      let one : 1 ≤ length s.clients = grind (arith, nat_tests) in
      got-if IsReady (bytes_eq w (codes "crash")) _ _ (λ e''. got-later IsReady _ (got-crash one ws)) (λ e''.
      got-if IsReady (bytes_eq w (codes "wait")) _ _ (λ e3. got-later IsReady _ (got-ends IsReady (with_line s line.Wait) ws (ready one))) (λ e3.
      got-if IsReady (bytes_eq w (codes "join")) _ _ (λ e4. got-later IsReady _ (got-a_word IsReady (number_in 1 s.nodes) (λ node. ends (with_line s (line.Join node))) ws (λ w' node more is_node.
      got-ends IsReady (with_line s (line.Join node)) more (ready one)))) (λ e4. got-other one w ws)))))

  ready-next : (ws : List (List ℕ)) → AllGot IsReady (line_read s ws)
  ready-next [] = got-wrong IsReady 0
  ready-next (w ∷ ws) = got-if IsReady (s.nodes == 0) _ _ (λ e. absurd (let none : s.nodes ≡ 0 = grind (arith, nat_tests) in omega (arith, none, some))) (λ e. got-later_line w ws)

-- ---- the first line

abbrev HasNodes : ScriptValue → Type 0
HasNodes t = (k : ℕ) × ((1 ≤ k) × (k ≤ 8) × (t ≡ so_far k [] [] []))

first-next : (ws : List (List ℕ)) → AllGot HasNodes (line_read nothing ws)
first-next [] = got-wrong HasNodes 0
first-next (w ∷ ws) =
    got-a_word HasNodes (the_word (codes "nodes")) (λ _. a_word (number_in 1 8) (λ k. ends (so_far k [] [] []))) (w ∷ ws) (λ w' nodes ws' is_nodes.
    got-a_word HasNodes (number_in 1 8) (λ k. ends (so_far k [] [] [])) ws' (λ w'' k more is_k.
    let limits = number_limits 1 8 w'' k is_k in got-ends HasNodes (so_far k [] [] []) more (k, (limits.0, limits.1, refl))))

-- ---- how far some lines come

pub data Stage (front : List (List ℕ)) (t : ScriptValue) : Type 0 where
  AtStart : length front ≡ 0 → t ≡ nothing → Stage front t
  WithNodes : length front ≡ 1 → HasNodes t → Stage front t
  Ready : IsReady t → Stage front t

ready-all : (ls : List (List ℕ)) (s t : ScriptValue) → IsReady s → Reach s ls t → IsReady t
ready-all [] s t is reach = subst IsReady reach is
ready-all (l ∷ ls) s t is reach = ready-all ls reach.0 t (ready-next s is.0 is.1 (words_in l) reach.0 reach.1.0) reach.1.1

pub stage : (front : List (List ℕ)) (t : ScriptValue) → Reach nothing front t → Stage front t
stage [] t reach = AtStart refl (sym reach)
stage (l ∷ []) t reach = WithNodes refl (subst HasNodes reach.1.1 (first-next (words_in l) reach.0 reach.1.0))
stage (l ∷ m ∷ ls) t reach =
    let has = first-next (words_in l) reach.0 reach.1.0 in
    let rest = reach.1.1 in
    let some : 1 ≤ reach.0.nodes = omega (arith, has.1.0, ap (λ (s : ScriptValue). s.nodes) has.1.2) in
    let few : reach.0.nodes ≤ 8 = omega (arith, has.1.1, ap (λ (s : ScriptValue). s.nodes) has.1.2) in
    Ready (ready-all ls rest.0 t (ready-next reach.0 some few (words_in m) rest.0 rest.1.0) rest.1.1)

-- ---- lines that make a script of it

abbrev pub NoEnd : List ℕ → Type 0
NoEnd l = list_all (λ b. not (b == 10)) l ≡ true

pub line-no_end : (l : List ℕ) → InLine l → NoEnd l
line-no_end l is = all-weaker in_line (λ b. not (b == 10)) (λ b high. let other : (b == 10) ≡ false = grind (arith, nat_tests) in rw other refl) l is

pub record Finish (front : List (List ℕ)) (t : ScriptValue) : Type 0 where
  pub more : List (List ℕ)
  pub into : ScriptValue
  pub reach : Reach t more into
  pub one : 1 ≤ length into.clients
  pub whole : AllByRecursion NoEnd more
  pub short : bytes_in more ≤ 32
  pub few : length front + length more ≤ line_limit

abbrev a : Client
a = record { name = codes "a"; node = 1 }

one_digit : length (decimal 1) ≡ 1
one_digit = ap length (decimal_digit 1 (omega arith))

client_whole : NoEnd (client_text a)
client_whole = line-no_end (client_text a) (line-word (codes "client a on") (decimal 1) refl (ink-decimal 1 (omega arith)))

nodes_whole : NoEnd (nodes_text 1)
nodes_whole = line-no_end (nodes_text 1) (line-word (codes "nodes") (decimal 1) refl (ink-decimal 1 (omega arith)))

client_length : length (client_text a) ≡ 13
client_length = omega (arith, length-append (codes "client a on") (32 ∷ decimal 1), one_digit)

nodes_length : length (nodes_text 1) ≡ 7
nodes_length = omega (arith, length-append (codes "nodes") (32 ∷ decimal 1), one_digit)

add_client : (k : ℕ) → 1 ≤ k → k ≤ 8 → line_read (so_far k [] [] []) (words_in (client_text a)) ≡ Got (so_far k (a ∷ []) [] [])
add_client k some few = client-read k some few [] a refl (omega arith) some refl (omega arith)

pub finish : (front : List (List ℕ)) (t : ScriptValue) → length front ≤ line_limit → Reach nothing front t → Finish front t
finish front t fits reach = elim (stage front t reach) [
  | AtStart none is ↦ record {
    more = nodes_text 1 ∷ client_text a ∷ [];
    into = so_far 1 (a ∷ []) [] [];
    reach = (so_far 1 [] [] [], (ap (λ (s : ScriptValue). line_read s (words_in (nodes_text 1))) is ∙ nodes-back 1 (omega arith) (omega arith), (so_far 1 (a ∷ []) [] [], (add_client 1 (omega arith) (omega arith), refl))));
    one = omega arith;
    whole = (nodes_whole, (client_whole, tt));
    short = omega (arith, nodes_length, client_length);
    few = omega (arith, none);
  }
  | WithNodes single has ↦ record {
    more = client_text a ∷ [];
    into = so_far has.0 (a ∷ []) [] [];
    reach = (so_far has.0 (a ∷ []) [] [], (ap (λ (s : ScriptValue). line_read s (words_in (client_text a))) has.1.2 ∙ add_client has.0 has.1.0 has.1.1, refl));
    one = omega arith;
    whole = (client_whole, tt);
    short = omega (arith, client_length);
    few = omega (arith, single);
  }
  | Ready is ↦ record { more = []; into = t; reach = refl; one = is.2; whole = tt; short = omega arith; few = omega (arith, fits) }
]
