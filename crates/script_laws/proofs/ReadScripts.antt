-- What a text is read as is well formed, and can be printed.
use Rattle.std.proofs.Common.{◌≡◌, ℕ, ◌+◌, ◌-◌, ◌^◌, ◌<◌, ◌≤◌, ◌==◌, Bool, true, false, ◌&&◌, if◌then◌else◌, List, [], ◌∷◌, ◌++◌, length, refl, ap, subst, arith}
use Rattle.std.specs.Prelude.{codes, nat_lt, ◌||◌}
use Rattle.std.specs.List.{AllByRecursion}
use Rattle.std.specs.Str.{bytes_eq}
use Rattle.std.proofs.lemmas.Bool.Decides.{nat_tests}
use Rattle.number_words.specs.Numbers.{number_in}
use Rattle.file_tree.specs.declared.call.Call.{Call}
use Rattle.script_lang.specs.declared.script.Armed.{Armed}
use Rattle.script_lang.specs.declared.script.Fate.{Fate}
use Rattle.script_lang.specs.declared.script.Fate.TheVariants.{Old, New, Torn}
use Rattle.script_lang.specs.declared.script.Line.{Line}
use Rattle.script_lang.specs.declared.script.Line.TheVariants as line
use Rattle.script_lang.specs.Script.{ScriptValue}
use Rattle.script_lang.specs.Words.{lines_in, words_in, column_of, LineRead, Got, Wrong, ends, a_word, the_word}
use Rattle.script_lang.specs.Grammar.{line_limit, nothing, has_byte_past_limit, new_client, client_before_colon, with_line, with_armed, nodes_line, client_line, fate_read, may_arm, after_node, crash_line, called, call_read, may_have_client, later_line, line_read, script_from, Script, Bad}
use Rattle.script_lang.specs.WellFormed.{IsWellFormed}
use Rattle.script_lang.proofs.GotLaws.{AllGot, got-wrong, got-got, got-ends, got-later, got-if, got-a_word, number_limits}
use Rattle.script_lang.proofs.WellFormedLaws.{IsSoFar, so_far-none, so_far-more}
use Rattle.script_laws.specs.Printing.{HasCall, IsCall, ReadCanBePrinted, ReadHasBytes}
use Rattle.script_laws.proofs.ReadParts.{call-got}
use Rattle.script_laws.proofs.Texts.{all_both}

abbrev SmallWrite : Armed → Type 0
SmallWrite a = a.write < 2 ^ 64

abbrev HasParts : ScriptValue → Type 0
HasParts s = AllByRecursion HasCall s.lines × AllByRecursion SmallWrite s.armed

module _ (s : ScriptValue) (has : HasParts s) where
  add_line : (l : Line) → HasCall l → HasParts (with_line s l)
  add_line l is = (all_both HasCall s.lines (l ∷ []) has.0 (is, tt), has.1)

  parts-client : (ws : List (List ℕ)) → AllGot HasParts (client_line s ws)
  parts-client ws =
      let put : List ℕ → ℕ → ScriptValue = λ name node. record s { clients = s.clients ++ record { name = name; node = node } ∷ [] } in
      got-a_word HasParts (new_client s.clients) (λ name. a_word (the_word (codes "on")) (λ _. a_word (number_in 1 s.nodes) (λ node. ends (put name node)))) ws (λ w name ws' is_name.
      got-a_word HasParts (the_word (codes "on")) (λ _. a_word (number_in 1 s.nodes) (λ node. ends (put name node))) ws' (λ w' on ws'' is_on.
      got-a_word HasParts (number_in 1 s.nodes) (λ node. ends (put name node)) ws'' (λ w'' node more is_node. got-ends HasParts (put name node) more has)))

  parts-nodes : (ws : List (List ℕ)) → AllGot HasParts (nodes_line s ws)
  parts-nodes ws =
      got-a_word HasParts (the_word (codes "nodes")) (λ _. a_word (number_in 1 8) (λ k. ends (record s { nodes = k }))) ws (λ w nodes ws' is_nodes.
      got-a_word HasParts (number_in 1 8) (λ k. ends (record s { nodes = k })) ws' (λ w' k more is_k. got-ends HasParts (record s { nodes = k }) more has))

  parts-fate : (node write : ℕ) (ws : List (List ℕ)) → write < 2 ^ 64 → AllGot HasParts (fate_read (with_armed s node write) ws)
  parts-fate node write [] small = got-wrong HasParts 0
  parts-fate node write (w ∷ ws) small =
      let arm : (f : Fate) → HasParts (with_armed s node write f) = λ f. (has.0, all_both SmallWrite s.armed (record { node = node; write = write; fate = f } ∷ []) has.1 (small, tt)) in
      got-if HasParts (bytes_eq w (codes "old")) _ _ (λ e. got-later HasParts _ (got-ends HasParts (with_armed s node write Old) ws (arm Old))) (λ e.
      got-if HasParts (bytes_eq w (codes "new")) _ _ (λ e'. got-later HasParts _ (got-ends HasParts (with_armed s node write New) ws (arm New))) (λ e'.
      got-if HasParts (bytes_eq w (codes "torn")) _ _ (λ e''. got-later HasParts _ (got-a_word HasParts (number_in 1 4095) (λ bytes. ends (with_armed s node write (Torn bytes))) ws (λ w' bytes more is_bytes.
      got-ends HasParts (with_armed s node write (Torn bytes)) more (arm (Torn bytes))))) (λ e''. got-wrong HasParts 0)))

  parts-after : (node : ℕ) (ws : List (List ℕ)) → AllGot HasParts (after_node s node ws)
  parts-after node [] = got-got HasParts (with_line s (line.Crash (2 ^ node))) (add_line (line.Crash (2 ^ node)) tt)
  parts-after node (w ∷ ws) =
      got-if HasParts (bytes_eq w (codes "at") && may_arm s node) _ _ (λ e. got-later HasParts _
      (got-a_word HasParts (number_in 1 (2 ^ 64 - 1)) (λ write. fate_read (with_armed s node write)) ws (λ w' write more is_write.
      parts-fate node write more (omega (arith, (number_limits 1 (2 ^ 64 - 1) w' write is_write).1))))) (λ e. got-wrong HasParts 0)

  parts-crash : (ws : List (List ℕ)) → AllGot HasParts (crash_line s ws)
  parts-crash [] = got-wrong HasParts 0
  parts-crash (w ∷ ws) =
      got-if HasParts (bytes_eq w (codes "all")) _ _ (λ e. got-later HasParts _ (got-ends HasParts (with_line s (line.Crash (2 ^ (s.nodes + 1) - 2))) ws (add_line (line.Crash (2 ^ (s.nodes + 1) - 2)) tt))) (λ e.
      got-a_word HasParts (number_in 1 s.nodes) (after_node s) (w ∷ ws) (λ w' node more is_node. parts-after node more))

  parts-called : (client : ℕ) (read : LineRead Call) → AllGot IsCall read → AllGot HasParts (called s client read)
  parts-called client (Wrong k) all = got-wrong HasParts k
  parts-called client (Got call) all = got-got HasParts (with_line s (line.Call client call)) (add_line (line.Call client call) (all call refl))

  parts-later : (w : List ℕ) (ws : List (List ℕ)) → AllGot HasParts (later_line s w ws)
  parts-later w ws =
      got-if HasParts (bytes_eq w (codes "client") && may_have_client s) _ _ (λ e. got-later HasParts _ (parts-client ws)) (λ e.
      got-if HasParts (length s.clients == 0) _ _ (λ e'. got-wrong HasParts 0) (λ e'.
      got-if HasParts (bytes_eq w (codes "crash")) _ _ (λ e''. got-later HasParts _ (parts-crash ws)) (λ e''.
      got-if HasParts (bytes_eq w (codes "wait")) _ _ (λ e3. got-later HasParts _ (got-ends HasParts (with_line s line.Wait) ws (add_line line.Wait tt))) (λ e3.
      got-if HasParts (bytes_eq w (codes "join")) _ _ (λ e4. got-later HasParts _ (got-a_word HasParts (number_in 1 s.nodes) (λ node. ends (with_line s (line.Join node))) ws (λ w' node more is_node.
      got-ends HasParts (with_line s (line.Join node)) more (add_line (line.Join node) tt)))) (λ e4.
      got-a_word HasParts (client_before_colon s.clients) (λ client rest. called s client (call_read rest)) (w ∷ ws) (λ w' client more is_client. parts-called client (call_read more) (call-got more)))))))

  parts-line : (ws : List (List ℕ)) → AllGot HasParts (line_read s ws)
  parts-line [] = got-wrong HasParts 0
  parts-line (w ∷ ws) = got-if HasParts (s.nodes == 0) _ _ (λ e. parts-nodes (w ∷ ws)) (λ e. parts-later w ws)

-- ---- to the end of the text

abbrev Fine : ScriptValue → Type 0
Fine s = IsWellFormed s × HasParts s

some_node : (n k : ℕ) (s : ScriptValue) → IsSoFar n s → 1 ≤ length s.clients → s.nodes ≡ k → 1 ≤ k
some_node n k s so one is = by_number k is
  where
    by_number : (k : ℕ) → s.nodes ≡ k → 1 ≤ k
    by_number k e = by_test (k == 0) refl
      where
        by_test : (t : Bool) → (k == 0) ≡ t → 1 ≤ k
        by_test true z = let zero_nodes : s.nodes ≡ 0 = grind (arith, nat_tests) in absurd (omega (arith, one, ap length (so.no_lines zero_nodes).0))
        by_test false z = grind (arith, nat_tests)

ended : (n : ℕ) (s : ScriptValue) → IsSoFar n s → n ≤ line_limit + 1 → 1 ≤ length s.clients → IsWellFormed s
ended n s so few one =
    let some = some_node n s.nodes s so one refl in
    record {
      one_node = some;
      few_nodes = so.few_nodes;
      one_client = one;
      few_clients = so.few_clients;
      clients = so.clients;
      names = so.names;
      armed = so.armed;
      armed_nodes = so.armed_nodes;
      lines = so.lines;
      few_lines = omega (arith, so.counted some, few);
    }

fine : (ls : List (List ℕ)) (total n before : ℕ) (s t : ScriptValue) → IsSoFar n s → HasParts s → n ≤ line_limit + 1 → script_from total s n before ls ≡ Script t → Fine t
fine [] total n before s t so has few is = by_test (length s.clients == 0) refl is
  where
    by_test : (b : Bool) → (length s.clients == 0) ≡ b → (if b then Bad n 1 else Script s) ≡ Script t → Fine t
    by_test true e told = cc
    by_test false e told =
        let same : s ≡ t = cc in
        let one : 1 ≤ length s.clients = grind (arith, nat_tests) in
        subst Fine same (ended n s so few one, has)
fine (l ∷ ls) total n before s t so has few is =
    by_line (nat_lt line_limit n) (has_byte_past_limit total before l) (line_read s (words_in l)) refl refl is (λ u. fine ls total (n + 1) (before + length l + 1) u t)
  where
    by_line : (many long : Bool) (r : LineRead ScriptValue) → nat_lt line_limit n ≡ many → line_read s (words_in l) ≡ r
        → (if many || long then Bad n 1 else elim r [ Got u ↦ script_from total u (n + 1) (before + length l + 1) ls | Wrong k ↦ Bad n (column_of k (words_in l)) ]) ≡ Script t
        → ((u : ScriptValue) → IsSoFar (n + 1) u → HasParts u → n + 1 ≤ line_limit + 1 → script_from total u (n + 1) (before + length l + 1) ls ≡ Script t → Fine t) → Fine t
    by_line true long r many_is r_is told later = cc
    by_line false true r many_is r_is told later = cc
    by_line false false (Wrong k) many_is r_is told later = cc
    by_line false false (Got u) many_is r_is told later =
        let fits : n ≤ line_limit = grind (arith, nat_tests) in
        later u (so_far-more n s u (words_in l) so r_is) (parts-line s has (words_in l) u r_is) (omega (arith, fits)) told

pub read_scripts : ReadCanBePrinted
read_scripts text s is =
    let f = fine (lines_in text) (length text) 1 0 nothing s so_far-none (tt, tt) (omega arith) is in
    (f.0, λ short. record { calls = f.1.0; writes = f.1.1; few_bytes = short })

pub read_bytes : ReadHasBytes
read_bytes text s is = (fine (lines_in text) (length text) 1 0 nothing s so_far-none (tt, tt) (omega arith) is).1.0
