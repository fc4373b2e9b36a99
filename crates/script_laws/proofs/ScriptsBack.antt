-- A printed script is read back, line by line.
use Rattle.std.proofs.Common.{◌≡◌, inl, inr, ℕ, ◌+◌, ◌-◌, ◌^◌, ◌<◌, ◌≤◌, ◌==◌, false, List, [], ◌∷◌, ◌++◌, length, map, Option, Some, refl, sym, ap, ◌∙◌, subst, arith, append_assoc, append-nil, length-append}
use Rattle.std.specs.Prelude.{codes, nat_lt, ◌||◌}
use Rattle.std.specs.List.{AllByRecursion}
use Rattle.std.specs.Fmt.{decimal}
use Rattle.std.proofs.lemmas.Bool.Decides.{nat_tests}
use Rattle.std.proofs.lemmas.List.{length-map}
use Rattle.file_tree.specs.CallText.{call_text}
use Rattle.script_lang.specs.declared.script.Client.{Client}
use Rattle.script_lang.specs.declared.script.Armed.{Armed}
use Rattle.script_lang.specs.declared.script.Fate.{Fate}
use Rattle.script_lang.specs.declared.script.Fate.TheVariants.{Old, New, Torn}
use Rattle.script_lang.specs.declared.script.Line.{Line}
use Rattle.script_lang.specs.declared.script.Line.TheVariants as line
use Rattle.script_lang.specs.Script.{ScriptValue}
use Rattle.script_lang.specs.Words.{lines_in, words_in, Got}
use Rattle.script_lang.specs.Grammar.{script_limit, line_limit, client_limit, nothing, has_byte_past_limit, line_read, script_from, script_read, Script}
use Rattle.script_lang.specs.OneNode.{HaveOwnClientNames}
use Rattle.script_lang.specs.WellFormed.{IsClient, IsFate, IsArmed, IsLine, IsWellFormed, HaveOwnNodes}
use Rattle.script_laws.specs.Printing.{client_text, fate_text, armed_text, name_of, only_node, stopped_text, line_text, script_lines, print_script, HasCall, CanBePrinted, ReadBack}
use Rattle.script_laws.proofs.Inks.{Ink, InLine, is_ink, in_line, all-append, ink-line, ink-decimal, ink-client, line-word}
use Rattle.script_laws.proofs.WordsBack.{lines-back}
use Rattle.script_laws.proofs.CallsBack.{line-call}
use Rattle.script_laws.proofs.ClientsBack.{new_name, new_node, name_at, one_node, Together, Alone, all_nodes}
use Rattle.script_laws.proofs.LinesBack.{so_far, nodes-back, client-read, armed-read, line-read}

-- ---- lines that are read one after another

abbrev pub Reach : ScriptValue → List (List ℕ) → ScriptValue → Type 0
Reach s [] t = s ≡ t
Reach s (l ∷ ls) t = (u : ScriptValue) × ((line_read s (words_in l) ≡ Got u) × Reach u ls t)

pub reach-append : (ls ms : List (List ℕ)) (s t u : ScriptValue) → Reach s ls t → Reach t ms u → Reach s (ls ++ ms) u
reach-append [] ms s t u one two = subst (λ (v : ScriptValue). Reach v ms u) (sym one) two
reach-append (l ∷ ls) ms s t u one two = (one.0, (one.1.0, reach-append ls ms one.0 t u one.1.1 two))

within : (total n before : ℕ) (l : List ℕ) → total ≤ script_limit → n ≤ line_limit → (nat_lt line_limit n || has_byte_past_limit total before l) ≡ false
within total n before l fits few =
    let line : nat_lt line_limit n ≡ false = grind (arith, nat_tests) in
    let bytes : nat_lt script_limit total ≡ false = grind (arith, nat_tests) in
    rw (line, bytes) refl

pub read_all : (ls : List (List ℕ)) (total n before : ℕ) (s t : ScriptValue) → Reach s ls t → total ≤ script_limit → n + length ls ≤ line_limit + 1 → 1 ≤ length t.clients → script_from total s n before ls ≡ Script t
read_all [] total n before s t reach fits few one =
    let some : (length t.clients == 0) ≡ false = grind (arith, nat_tests) in
    ap (λ (v : ScriptValue). script_from total v n before []) reach ∙ rw some refl
read_all (l ∷ ls) total n before s t reach fits few one =
    let rest = read_all ls total (n + 1) (before + length l + 1) reach.0 t reach.1.1 fits (omega (arith, few)) one in
    rw (within total n before l fits (omega (arith, few)), reach.1.0) rest

-- ---- the lines of a script

module _ (s : ScriptValue) (well : IsWellFormed s) (can : CanBePrinted s) where
  abbrev AreClients : List Client → Type 0
  AreClients cs = AllByRecursion (IsClient s) cs

  inks : (cs : List Client) → AreClients cs → AllByRecursion (λ (c : Client). Ink c.name) cs
  inks [] are = tt
  inks (c ∷ cs) are = (ink-client c.name are.0.0, inks cs are.1)

  all_clients : (front rest : List Client) → AreClients rest → HaveOwnClientNames (front ++ rest) → length front + length rest ≤ client_limit
      → Reach (so_far s.nodes front [] []) (map client_text rest) (so_far s.nodes (front ++ rest) [] [])
  all_clients front [] are own few = ap (λ (cs : List Client). so_far s.nodes cs [] []) (sym (append-nil front))
  all_clients front (c ∷ rest) are own few =
      let same : front ++ c ∷ [] ++ rest ≡ front ++ c ∷ rest = append_assoc front (c ∷ []) rest in
      let more = all_clients (front ++ c ∷ []) rest are.1 (subst HaveOwnClientNames (sym same) own) (omega (arith, few, length-append front (c ∷ []))) in
      let to = subst (λ (cs : List Client). Reach (so_far s.nodes (front ++ c ∷ []) [] []) (map client_text rest) (so_far s.nodes cs [] [])) same more in
      (so_far s.nodes (front ++ c ∷ []) [] [], (client-read s.nodes well.one_node well.few_nodes front c are.0.0 are.0.1.0 are.0.1.1 (new_name front c rest own) (omega (arith, few)), to))

  all_armed : (front rest : List Armed) → AllByRecursion (IsArmed s) rest → AllByRecursion (λ (a : Armed). a.write < 2 ^ 64) rest → HaveOwnNodes (front ++ rest)
      → Reach (so_far s.nodes s.clients front []) (map armed_text rest) (so_far s.nodes s.clients (front ++ rest) [])
  all_armed front [] are small own = ap (λ (as' : List Armed). so_far s.nodes s.clients as' []) (sym (append-nil front))
  all_armed front (a ∷ rest) are small own =
      let same : front ++ a ∷ [] ++ rest ≡ front ++ a ∷ rest = append_assoc front (a ∷ []) rest in
      let more = all_armed (front ++ a ∷ []) rest are.1 small.1 (subst HaveOwnNodes (sym same) own) in
      let to = subst (λ (as' : List Armed). Reach (so_far s.nodes s.clients (front ++ a ∷ []) []) (map armed_text rest) (so_far s.nodes s.clients as' [])) same more in
      let a_is = are.0 in
      (so_far s.nodes s.clients (front ++ a ∷ []) [], (armed-read s.nodes well.one_node well.few_nodes s.clients well.one_client front a a_is.0.0 a_is.0.1 a_is.1 small.0 a_is.2 (new_node front a rest own), to))

  all_lines : (front rest : List Line) → AllByRecursion (IsLine s) rest → AllByRecursion HasCall rest
      → Reach (so_far s.nodes s.clients s.armed front) (map (line_text s.clients) rest) (so_far s.nodes s.clients s.armed (front ++ rest))
  all_lines front [] are has = ap (λ (ls : List Line). so_far s.nodes s.clients s.armed ls) (sym (append-nil front))
  all_lines front (l ∷ rest) are has =
      let same : front ++ l ∷ [] ++ rest ≡ front ++ l ∷ rest = append_assoc front (l ∷ []) rest in
      let more = all_lines (front ++ l ∷ []) rest are.1 has.1 in
      let to = subst (λ (ls : List Line). Reach (so_far s.nodes s.clients s.armed (front ++ l ∷ [])) (map (line_text s.clients) rest) (so_far s.nodes s.clients s.armed ls)) same more in
      (so_far s.nodes s.clients s.armed (front ++ l ∷ []), (line-read s.nodes well.one_node well.few_nodes s.clients well.one_client s.armed front l well.names (inks s.clients well.clients) has.0 are.0, to))

  reach : Reach nothing (script_lines s) s
  reach =
      let clients = all_clients [] s.clients well.clients well.names (omega (arith, well.few_clients)) in
      let armed = all_armed [] s.armed well.armed can.writes well.armed_nodes in
      let lines = all_lines [] s.lines well.lines can.calls in
      let later = reach-append (map armed_text s.armed) (map (line_text s.clients) s.lines) (so_far s.nodes s.clients [] []) (so_far s.nodes s.clients s.armed []) s armed lines in
      let rest = reach-append (map client_text s.clients) (map armed_text s.armed ++ map (line_text s.clients) s.lines) (so_far s.nodes [] [] []) (so_far s.nodes s.clients [] []) s clients later in
      (so_far s.nodes [] [] [], (nodes-back s.nodes well.one_node well.few_nodes, rest))

  count : length (script_lines s) ≡ 1 + length s.clients + length s.armed + length s.lines
  count =
      let front = length-append (map client_text s.clients) (map armed_text s.armed ++ map (line_text s.clients) s.lines) in
      let back = length-append (map armed_text s.armed) (map (line_text s.clients) s.lines) in
      let one = length-map s.clients client_text in
      let two = length-map s.armed armed_text in
      let three = length-map s.lines (line_text s.clients) in
      omega (arith, front, back, one, two, three)

  -- ---- each is one line

  client_line' : (c : Client) → IsClient s c → InLine (client_text c)
  client_line' c is =
      let node : c.node < 2 ^ 64 = omega (arith, is.1.1, well.few_nodes) in
      line-word (codes "client" ++ 32 ∷ c.name ++ 32 ∷ codes "on") (decimal c.node) (line-word (codes "client" ++ 32 ∷ c.name) (codes "on") (line-word (codes "client") c.name refl (ink-client c.name is.0)) refl) (ink-decimal c.node node)

  fate_line : (f : Fate) → IsFate f → InLine (fate_text f)
  fate_line Old is = refl
  fate_line New is = refl
  fate_line (Torn bytes) is = line-word (codes "torn") (decimal bytes) refl (ink-decimal bytes (omega (arith, is.1)))

  armed_line' : (a : Armed) → IsArmed s a → a.write < 2 ^ 64 → InLine (armed_text a)
  armed_line' a is small =
      let node : a.node < 2 ^ 64 = omega (arith, is.0.1, well.few_nodes) in
      let at = line-word (codes "crash" ++ 32 ∷ decimal a.node) (codes "at") (line-word (codes "crash") (decimal a.node) refl (ink-decimal a.node node)) refl in
      all-append in_line (codes "crash" ++ 32 ∷ decimal a.node ++ 32 ∷ codes "at" ++ 32 ∷ decimal a.write) (32 ∷ fate_text a.fate) (line-word (codes "crash" ++ 32 ∷ decimal a.node ++ 32 ∷ codes "at") (decimal a.write) at (ink-decimal a.write small)) (fate_line a.fate is.2)

  stopped_line : (mask : ℕ) → IsLine s (line.Crash mask) → InLine (line_text s.clients (line.Crash mask))
  stopped_line mask is = elim is [
    | inl one ↦
        let few : one.0 ≤ 8 = omega (arith, one.1.1, well.few_nodes) in
        let o : only_node mask ≡ Some one.0 = ap only_node one.2 ∙ one_node one.0 one.1.0 few in
        subst (λ (p : Option ℕ). InLine (codes "crash" ++ 32 ∷ stopped_text p)) (sym o) (line-word (codes "crash") (decimal one.0) refl (ink-decimal one.0 (omega (arith, few))))
    | inr all ↦ elim (all_nodes s.nodes well.few_nodes) [
      | Together none ↦ subst (λ (p : Option ℕ). InLine (codes "crash" ++ 32 ∷ stopped_text p)) (sym (ap only_node all ∙ none)) refl
      | Alone alone ↦ subst (λ (m : ℕ). InLine (line_text s.clients (line.Crash m))) (sym (all ∙ ap (λ (n : ℕ). 2 ^ (n + 1) - 2) alone)) alone_line
    ]
  ]
    where
      alone_line : InLine (line_text s.clients (line.Crash 2))
      alone_line = line-word (codes "crash") (decimal 1) refl (ink-decimal 1 (omega arith))

  one_line : (l : Line) → IsLine s l → HasCall l → InLine (line_text s.clients l)
  one_line (line.Call client call) is has =
      let ink = name_at Ink s.clients client (inks s.clients well.clients) is.0 in
      all-append in_line (name_of s.clients client ++ codes ":") (32 ∷ call_text call) (ink-line (name_of s.clients client ++ codes ":") (all-append is_ink (name_of s.clients client) (codes ":") ink refl)) (line-call call has is.1)
  one_line line.Wait is has = refl
  one_line (line.Join node) is has = line-word (codes "join") (decimal node) refl (ink-decimal node (omega (arith, is.1, well.few_nodes)))
  one_line (line.Crash mask) is has = stopped_line mask is

  client_lines : (cs : List Client) → AreClients cs → AllByRecursion InLine (map client_text cs)
  client_lines [] are = tt
  client_lines (c ∷ cs) are = (client_line' c are.0, client_lines cs are.1)

  armed_lines : (as' : List Armed) → AllByRecursion (IsArmed s) as' → AllByRecursion (λ (a : Armed). a.write < 2 ^ 64) as' → AllByRecursion InLine (map armed_text as')
  armed_lines [] are small = tt
  armed_lines (a ∷ as') are small = (armed_line' a are.0 small.0, armed_lines as' are.1 small.1)

  done_lines : (ls : List Line) → AllByRecursion (IsLine s) ls → AllByRecursion HasCall ls → AllByRecursion InLine (map (line_text s.clients) ls)
  done_lines [] are has = tt
  done_lines (l ∷ ls) are has = (one_line l are.0 has.0, done_lines ls are.1 has.1)

  all_both : (ls ms : List (List ℕ)) → AllByRecursion InLine ls → AllByRecursion InLine ms → AllByRecursion InLine (ls ++ ms)
  all_both [] ms one two = two
  all_both (l ∷ ls) ms one two = (one.0, all_both ls ms one.1 two)

  lines : lines_in (print_script s) ≡ script_lines s
  lines =
      lines-back (script_lines s) (
        line-word (codes "nodes") (decimal s.nodes) refl (ink-decimal s.nodes (omega (arith, well.few_nodes))),
        all_both (map client_text s.clients) (map armed_text s.armed ++ map (line_text s.clients) s.lines) (client_lines s.clients well.clients)
            (all_both (map armed_text s.armed) (map (line_text s.clients) s.lines) (armed_lines s.armed well.armed can.writes) (done_lines s.lines well.lines can.calls)),
      )

  pub read : script_read (print_script s) ≡ Script s
  read =
      ap (script_from (length (print_script s)) nothing 1 0) lines
      ∙ read_all (script_lines s) (length (print_script s)) 1 0 nothing s reach can.few_bytes (omega (arith, count, well.few_lines)) well.one_client

pub read_back : ReadBack
read_back s well can = read s well can
