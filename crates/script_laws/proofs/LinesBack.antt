-- A printed line is read into the script that has it.
use Rattle.std.proofs.Common.{◌≡◌, inl, inr, ℕ, ◌+◌, ◌-◌, ◌^◌, ◌<◌, ◌≤◌, ◌==◌, true, false, List, [], ◌∷◌, ◌++◌, length, Option, Some, refl, sym, ap, ◌∙◌, subst, arith}
use Rattle.std.specs.Prelude.{codes, nat_lt}
use Rattle.std.specs.List.{AllByRecursion}
use Rattle.std.specs.Fmt.{decimal}
use Rattle.std.proofs.lemmas.Bool.Decides.{nat_tests}
use Rattle.file_tree.specs.CallText.{call_text}
use Rattle.file_tree.specs.declared.call.Call.{Call}
use Rattle.script_lang.specs.declared.script.Client.{Client}
use Rattle.script_lang.specs.declared.script.Armed.{Armed}
use Rattle.script_lang.specs.declared.script.Fate.{Fate}
use Rattle.script_lang.specs.declared.script.Fate.TheVariants.{Old, New, Torn}
use Rattle.script_lang.specs.declared.script.Line.{Line}
use Rattle.script_lang.specs.declared.script.Line.TheVariants as line
use Rattle.script_lang.specs.Script.{ScriptValue}
use Rattle.number_words.specs.Numbers.{number_in}
use Rattle.script_lang.specs.Words.{words_in, Got, later, ends, a_word, the_word, is_client_name}
use Rattle.script_lang.specs.Grammar.{client_limit, nothing, has_client, new_client, client_before_colon, with_line, with_armed, client_line, fate_read, is_armed, armed_line, after_node, called, call_line, call_read, line_read}
use Rattle.script_lang.specs.OneNode.{HaveOwnClientNames}
use Rattle.script_lang.specs.WellFormed.{IsFate, IsLine}
use Rattle.script_laws.specs.Printing.{nodes_text, client_text, fate_text, armed_text, name_of, stopped_text, line_text, HasCall}
use Rattle.script_laws.proofs.Inks.{Ink, is_ink, all-append, ink-decimal, ink-client}
use Rattle.script_laws.proofs.WordsBack.{words-push, words-parts, words-last, number-back, got-word}
use Rattle.script_laws.proofs.CallsBack.{call-back}
use Rattle.script_laws.proofs.ClientsBack.{no_word, name_at, client-back, one_node, Together, Alone, all_nodes, not_all}

-- the script so far, with these nodes
abbrev pub so_far : ℕ → List Client → List Armed → List Line → ScriptValue
so_far nodes clients armed lines = record { nodes = nodes; clients = clients; armed = armed; lines = lines }

pub nodes-back : (n : ℕ) → 1 ≤ n → n ≤ 8 → line_read nothing (words_in (nodes_text n)) ≡ Got (so_far n [] [] [])
nodes-back n some few =
    ap (line_read nothing) (words-push (codes "nodes") (decimal n) (codes "nodes" ∷ []) (ink-decimal n (omega (arith, few))) refl)
    ∙ ap later (got-word (number_in 1 8) (λ k. ends (so_far k [] [] [])) (decimal n) [] n (so_far n [] [] []) (number-back 1 8 n (omega arith) some few) refl)

module _ (nodes : ℕ) (some : 1 ≤ nodes) (few : nodes ≤ 8) where
  some_nodes : (nodes == 0) ≡ false
  some_nodes = grind (arith, nat_tests)

  -- ---- clients

  pub client-read : (front : List Client) (c : Client) → is_client_name c.name ≡ true → 1 ≤ c.node → c.node ≤ nodes → has_client front c.name ≡ false → length front < client_limit
      → line_read (so_far nodes front [] []) (words_in (client_text c)) ≡ Got (so_far nodes (front ++ c ∷ []) [] [])
  client-read front c name low high new room =
      let s = so_far nodes front [] [] in
      let named = words-push (codes "client") c.name (codes "client" ∷ []) (ink-client c.name name) refl in
      let on = words-push (codes "client" ++ 32 ∷ c.name) (codes "on") (codes "client" ∷ c.name ∷ []) refl named in
      let all = words-push (codes "client" ++ 32 ∷ c.name ++ 32 ∷ codes "on") (decimal c.node) (codes "client" ∷ c.name ∷ codes "on" ∷ []) (ink-decimal c.node (omega (arith, high, few))) on in
      let is_new : new_client front c.name ≡ Some c.name = rw (new, name) refl in
      let fits : nat_lt (length front) client_limit ≡ true = grind (arith, nat_tests) in
      let put : List ℕ → ℕ → ScriptValue = λ n k. so_far nodes (front ++ record { name = n; node = k } ∷ []) [] [] in
      let last : a_word (number_in 1 nodes) (λ k. ends (put c.name k)) (decimal c.node ∷ []) ≡ Got (put c.name c.node) =
      got-word (number_in 1 nodes) (λ k. ends (put c.name k)) (decimal c.node) [] c.node (put c.name c.node) (number-back 1 nodes c.node (omega (arith, few)) low high) refl in
      let read : client_line s (c.name ∷ codes "on" ∷ decimal c.node ∷ []) ≡ Got (put c.name c.node) =
      got-word (new_client front) (λ n. a_word (the_word (codes "on")) (λ _. a_word (number_in 1 nodes) (λ k. ends (put n k)))) c.name (codes "on" ∷ decimal c.node ∷ []) c.name (put c.name c.node) is_new
      (ap later last) in
      ap (line_read s) all ∙ rw (some_nodes, fits, read) refl

  -- ---- crashes at writes

  module _ (clients : List Client) (one : 1 ≤ length clients) where
    has_clients : (length clients == 0) ≡ false
    has_clients = grind (arith, nat_tests)

    fate-back : (armed : Fate → ScriptValue) (f : Fate) → IsFate f → fate_read armed (words_in (fate_text f)) ≡ Got (armed f)
    fate-back armed Old is = refl
    fate-back armed New is = refl
    fate-back armed (Torn bytes) is =
        ap (fate_read armed) (words-push (codes "torn") (decimal bytes) (codes "torn" ∷ []) (ink-decimal bytes (omega (arith, is.1))) refl)
        ∙ ap later (got-word (number_in 1 4095) (λ n. ends (armed (Torn n))) (decimal bytes) [] bytes (armed (Torn bytes)) (number-back 1 4095 bytes (omega arith) is.0 is.1) refl)

    pub armed-read : (front : List Armed) (a : Armed) → 1 ≤ a.node → a.node ≤ nodes → 1 ≤ a.write → a.write < 2 ^ 64 → IsFate a.fate → is_armed front a.node ≡ false
        → line_read (so_far nodes clients front []) (words_in (armed_text a)) ≡ Got (so_far nodes clients (front ++ a ∷ []) [])
    armed-read front a low high first small fate new =
        let s = so_far nodes clients front [] in
        let numbered = words-push (codes "crash") (decimal a.node) (codes "crash" ∷ []) (ink-decimal a.node (omega (arith, high, few))) refl in
        let at = words-push (codes "crash" ++ 32 ∷ decimal a.node) (codes "at") (codes "crash" ∷ decimal a.node ∷ []) refl numbered in
        let written = words-push (codes "crash" ++ 32 ∷ decimal a.node ++ 32 ∷ codes "at") (decimal a.write) (codes "crash" ∷ decimal a.node ∷ codes "at" ∷ []) (ink-decimal a.write small) at in
        let all : words_in (armed_text a) ≡ codes "crash" ∷ decimal a.node ∷ codes "at" ∷ decimal a.write ∷ words_in (fate_text a.fate) =
        words-parts (codes "crash" ++ 32 ∷ decimal a.node ++ 32 ∷ codes "at" ++ 32 ∷ decimal a.write) (fate_text a.fate) ∙ ap (λ (ws : List (List ℕ)). ws ++ words_in (fate_text a.fate)) written in
        let whole : ScriptValue = with_armed s a.node a.write a.fate in
        let order : armed_line s a.node (decimal a.write ∷ words_in (fate_text a.fate)) ≡ Got whole =
        got-word (number_in 1 (2 ^ 64 - 1)) (λ w. fate_read (with_armed s a.node w)) (decimal a.write) (words_in (fate_text a.fate)) a.write whole (number-back 1 (2 ^ 64 - 1) a.write (omega arith) first (omega (arith, small)))
        (fate-back (with_armed s a.node a.write) a.fate fate) in
        let behind : after_node s a.node (codes "at" ∷ decimal a.write ∷ words_in (fate_text a.fate)) ≡ Got whole = rw (new, order) refl in
        let crash : a_word (number_in 1 nodes) (after_node s) (decimal a.node ∷ codes "at" ∷ decimal a.write ∷ words_in (fate_text a.fate)) ≡ Got whole =
        got-word (number_in 1 nodes) (after_node s) (decimal a.node) (codes "at" ∷ decimal a.write ∷ words_in (fate_text a.fate)) a.node whole (number-back 1 nodes a.node (omega (arith, few)) low high) behind in
        ap (line_read s) all ∙ rw (some_nodes, has_clients, not_all a.node (omega (arith, high, few)), crash) refl

    -- ---- lines

    module _ (armed : List Armed) (front : List Line) where
      abbrev s : ScriptValue
      s = so_far nodes clients armed front

      abbrev Next : Line → Type 0
      Next l = line_read s (words_in (line_text clients l)) ≡ Got (so_far nodes clients armed (front ++ l ∷ []))

      wait-read : Next line.Wait
      wait-read = rw (some_nodes, has_clients) refl

      join-read : (node : ℕ) → 1 ≤ node → node ≤ nodes → Next (line.Join node)
      join-read node low high =
          let all = words-push (codes "join") (decimal node) (codes "join" ∷ []) (ink-decimal node (omega (arith, high, few))) refl in
          let read : a_word (number_in 1 nodes) (λ n. ends (with_line s (line.Join n))) (decimal node ∷ []) ≡ Got (with_line s (line.Join node)) =
          got-word (number_in 1 nodes) (λ n. ends (with_line s (line.Join n))) (decimal node) [] node (with_line s (line.Join node)) (number-back 1 nodes node (omega (arith, few)) low high) refl in
          ap (line_read s) all ∙ rw (some_nodes, has_clients, read) refl

      one-read : (node : ℕ) → 1 ≤ node → node ≤ nodes → Next (line.Crash (2 ^ node))
      one-read node low high =
          let within : node ≤ 8 = omega (arith, high, few) in
          let text : line_text clients (line.Crash (2 ^ node)) ≡ codes "crash" ++ 32 ∷ decimal node = ap (λ (o : Option ℕ). codes "crash" ++ 32 ∷ stopped_text o) (one_node node low within) in
          let all = words-push (codes "crash") (decimal node) (codes "crash" ∷ []) (ink-decimal node (omega (arith, within))) refl in
          let read : a_word (number_in 1 nodes) (after_node s) (decimal node ∷ []) ≡ Got (with_line s (line.Crash (2 ^ node))) =
          got-word (number_in 1 nodes) (after_node s) (decimal node) [] node (with_line s (line.Crash (2 ^ node))) (number-back 1 nodes node (omega (arith, few)) low high) refl in
          ap (λ (t : List ℕ). line_read s (words_in t)) text ∙ ap (line_read s) all ∙ rw (some_nodes, has_clients, not_all node within, read) refl

      all-read : Next (line.Crash (2 ^ (nodes + 1) - 2))
      all-read = elim (all_nodes nodes few) [
        | Together none ↦
            let text : line_text clients (line.Crash (2 ^ (nodes + 1) - 2)) ≡ codes "crash all" = ap (λ (o : Option ℕ). codes "crash" ++ 32 ∷ stopped_text o) none in
            ap (λ (t : List ℕ). line_read s (words_in t)) text ∙ rw (some_nodes, has_clients) refl
        | Alone is ↦
            let same : 2 ^ 1 ≡ 2 ^ (nodes + 1) - 2 = ap (λ (n : ℕ). 2 ^ (n + 1) - 2) (sym is) in
            subst (λ (mask : ℕ). Next (line.Crash mask)) same (one-read 1 (omega arith) some)
      ]

      call-read : (client : ℕ) (call : Call) → client < length clients → HaveOwnClientNames clients → Ink (name_of clients client) → HasCall (line.Call client call) → IsLine s (line.Call client call) → Next (line.Call client call)
      call-read client call within own ink is allowed =
          let name = name_of clients client in
          let w = name ++ codes ":" in
          let ink_w : Ink w = all-append is_ink name (codes ":") ink refl in
          let all : words_in (w ++ 32 ∷ call_text call) ≡ w ∷ words_in (call_text call) = words-parts w (call_text call) ∙ ap (λ (ws : List (List ℕ)). ws ++ words_in (call_text call)) (words-last w ink_w) in
          let read : called s client (call_read (words_in (call_text call))) ≡ Got (with_line s (line.Call client call)) = ap (called s client) (call-back call is allowed.1) in
          let line_is : call_line s (w ∷ words_in (call_text call)) ≡ Got (with_line s (line.Call client call)) =
          got-word (client_before_colon clients) (λ k rest. called s k (call_read rest)) w (words_in (call_text call)) client (with_line s (line.Call client call)) (client-back clients client own within) read in
          ap (line_read s) all ∙ rw (some_nodes, no_word name (codes "client") refl, has_clients, no_word name (codes "crash") refl, no_word name (codes "wait") refl, no_word name (codes "join") refl) line_is

      pub line-read : (l : Line) → HaveOwnClientNames clients → AllByRecursion (λ (c : Client). Ink c.name) clients → HasCall l → IsLine s l → Next l
      line-read (line.Call client call) own inks has is = call-read client call is.0 own (name_at Ink clients client inks is.0) has is
      line-read line.Wait own inks has is = wait-read
      line-read (line.Join node) own inks has is = join-read node is.0 is.1
      line-read (line.Crash mask) own inks has is = elim is [
        | inl one ↦ subst (λ (m : ℕ). Next (line.Crash m)) (sym one.2) (one-read one.0 one.1.0 one.1.1)
        | inr all ↦ subst (λ (m : ℕ). Next (line.Crash m)) (sym all) all-read
      ]
