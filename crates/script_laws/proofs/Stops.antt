-- A wrong word is wrong whatever follows it.
use Rattle.std.proofs.Common.{◌≡◌, ℕ, suc, ◌+◌, ◌-◌, ◌^◌, ◌==◌, Bool, true, false, ◌&&◌, if◌then◌else◌, List, [], ◌∷◌, ◌++◌, length, take, Option, Some, None, refl, sym, ap, ◌∙◌, subst}
use Rattle.std.specs.Prelude.{codes}
use Rattle.std.specs.Str.{bytes_eq}
use Rattle.number_words.specs.Numbers.{number_in}
use Rattle.file_tree.specs.declared.call.Call.{Call}
use Rattle.file_tree.specs.declared.call.Call.TheVariants as calls
use Rattle.script_lang.specs.declared.script.Fate.{Fate}
use Rattle.script_lang.specs.declared.script.Fate.TheVariants.{Old, New, Torn}
use Rattle.script_lang.specs.declared.script.Line.TheVariants as line
use Rattle.script_lang.specs.Script.{ScriptValue}
use Rattle.script_lang.specs.Words.{LineRead, Got, Wrong, later, ends, a_word, the_word, path_in, content_in}
use Rattle.script_lang.specs.Grammar.{offset_limit, count_limit, on_path, on_range, on_content, on_size, on_paths, call_after, call_read, new_client, client_before_colon, with_line, with_armed, nodes_line, client_line, fate_read, may_arm, armed_line, after_node, crash_line, called, call_line, may_have_client, later_line, line_read}

-- ---- reading stops at a word, whatever follows

abbrev pub Stops : {A : Type 0} → (List (List ℕ) → LineRead A) → Type 0
Stops {A} f = (ws vs : List (List ℕ)) (k : ℕ) → f ws ≡ Wrong k → take (suc k) ws ≡ take (suc k) vs → f vs ≡ Wrong k

-- the same behind a word that was read
abbrev pub StopsAfter : {A : Type 0} → (List (List ℕ) → LineRead A) → Type 0
StopsAfter {A} f = (ws vs : List (List ℕ)) (k : ℕ) → f ws ≡ Wrong k → take k ws ≡ take k vs → f vs ≡ Wrong k

module _ {A : Type 0} where
  abbrev IsLater : LineRead A → ℕ → Type 0
  IsLater r k = (j : ℕ) × ((k ≡ suc j) × (r ≡ Wrong j))

  pub later-wrong : (r : LineRead A) (k : ℕ) → later r ≡ Wrong k → IsLater r k
  later-wrong (Got a) k is = cc
  later-wrong (Wrong j) k is = let same : suc j ≡ k = cc in (j, (sym same, refl))

  pub after-later : (f : List (List ℕ) → LineRead A) → Stops f → StopsAfter (λ ws. later (f ws))
  after-later f stops ws vs k is alike =
      let at = later-wrong (f ws) k is in
      let here : take (suc at.0) ws ≡ take (suc at.0) vs = subst (λ (n : ℕ). take n ws ≡ take n vs) at.1.0 alike in
      ap later (stops ws vs at.0 at.1.1 here) ∙ ap (λ (n : ℕ). let r : LineRead A = Wrong n in r) (sym at.1.0)

  after-wrong : StopsAfter {A = A} (λ ws. Wrong 0)
  after-wrong ws vs k is alike = is

  after-if : (b : Bool) (f g : List (List ℕ) → LineRead A) → StopsAfter f → StopsAfter g → StopsAfter (λ ws. if b then f ws else g ws)
  after-if true f g one two = one
  after-if false f g one two = two

  after-cons : (f : List (List ℕ) → LineRead A) (w : List ℕ) → Stops f → StopsAfter (λ ws. f (w ∷ ws))
  after-cons f w stops ws vs k is alike = stops (w ∷ ws) (w ∷ vs) k is (ap (λ (l : List (List ℕ)). w ∷ l) alike)

  -- by the first word
  stops-first : (f : List (List ℕ) → LineRead A) → ((k : ℕ) → f [] ≡ Wrong k → k ≡ 0) → ((w : List ℕ) → StopsAfter (λ ws. f (w ∷ ws))) → Stops f
  stops-first f empty behind [] [] k is alike = is
  stops-first f empty behind [] (v ∷ vs) k is alike = absurd (cc alike)
  stops-first f empty behind (w ∷ ws) [] k is alike = absurd (cc alike)
  stops-first f empty behind (w ∷ ws) (v ∷ vs) k is alike =
      let first : w ≡ v = cc in
      let rest : take k ws ≡ take k vs = cc in
      subst (λ (u : List ℕ). f (u ∷ vs) ≡ Wrong k) first (behind w ws vs k is rest)

  pub same_number : (j k : ℕ) → (let r : LineRead A = Wrong j in r) ≡ Wrong k → k ≡ j
  same_number j k is = cc

  stops-ends : (a : A) → Stops (ends a)
  stops-ends a = stops-first (ends a) (λ k is. cc) (λ w. after-wrong)

pub stops-word : {A B : Type 0} (value : List ℕ → Option A) (rest : A → List (List ℕ) → LineRead B) → ((a : A) → Stops (rest a)) → Stops (a_word value rest)
stops-word {A} {B} value rest stops = stops-first (a_word value rest) (λ k is. same_number 0 k is) (λ w. by_value w (value w) refl)
  where
    by_value : (w : List ℕ) (o : Option A) → value w ≡ o → StopsAfter (λ ws. a_word value rest (w ∷ ws))
    by_value w None none ws vs k is alike = rw none (let at : (let r : LineRead B = Wrong 0 in r) ≡ Wrong k = rw none at is in at)
    by_value w (Some a) some ws vs k is alike =
        rw some (after-later (rest a) (stops a) ws vs k (let at : later (rest a ws) ≡ Wrong k = rw some at is in at) alike)

-- ---- calls

stops-path : (call : List (List ℕ) → Call) → Stops (on_path call)
stops-path call = stops-word path_in (λ p. ends (call p)) (λ p. stops-ends (call p))

stops-range : (call : List (List ℕ) → ℕ → ℕ → Call) → Stops (on_range call)
stops-range call =
    stops-word path_in (λ p. a_word (number_in 0 offset_limit) (λ at. a_word (number_in 0 count_limit) (λ count. ends (call p at count)))) (λ p.
    stops-word (number_in 0 offset_limit) (λ at. a_word (number_in 0 count_limit) (λ count. ends (call p at count))) (λ at.
    stops-word (number_in 0 count_limit) (λ count. ends (call p at count)) (λ count. stops-ends (call p at count))))

stops-content : Stops on_content
stops-content =
    stops-word path_in (λ p. a_word (number_in 0 offset_limit) (λ at. a_word content_in (λ content. ends (calls.Write p at content)))) (λ p.
    stops-word (number_in 0 offset_limit) (λ at. a_word content_in (λ content. ends (calls.Write p at content))) (λ at.
    stops-word content_in (λ content. ends (calls.Write p at content)) (λ content. stops-ends (calls.Write p at content))))

stops-size : Stops on_size
stops-size =
    stops-word path_in (λ p. a_word (number_in 0 offset_limit) (λ size. ends (calls.Truncate p size))) (λ p.
    stops-word (number_in 0 offset_limit) (λ size. ends (calls.Truncate p size)) (λ size. stops-ends (calls.Truncate p size)))

stops-paths : Stops on_paths
stops-paths =
    stops-word path_in (λ p. a_word path_in (λ q. ends (calls.Rename p q))) (λ p. stops-word path_in (λ q. ends (calls.Rename p q)) (λ q. stops-ends (calls.Rename p q)))

module _ (verb : List ℕ) where
  choose : (b : Bool) (f g : List (List ℕ) → LineRead Call) → Stops f → StopsAfter g → StopsAfter (λ ws. if b then later (f ws) else g ws)
  choose b f g one two = after-if b (λ ws. later (f ws)) g (after-later f one) two

  after-verb : StopsAfter (call_after verb)
  after-verb =
      choose (bytes_eq verb (codes "create")) (on_path calls.Create) _ (stops-path calls.Create)
      (choose (bytes_eq verb (codes "mkdir")) (on_path calls.Mkdir) _ (stops-path calls.Mkdir)
      (choose (bytes_eq verb (codes "unlink")) (on_path calls.Unlink) _ (stops-path calls.Unlink)
      (choose (bytes_eq verb (codes "rmdir")) (on_path calls.Rmdir) _ (stops-path calls.Rmdir)
      (choose (bytes_eq verb (codes "read")) (on_range calls.Read) _ (stops-range calls.Read)
      (choose (bytes_eq verb (codes "dread")) (on_range calls.Dread) _ (stops-range calls.Dread)
      (choose (bytes_eq verb (codes "write")) on_content _ stops-content
      (choose (bytes_eq verb (codes "truncate")) on_size _ stops-size
      (choose (bytes_eq verb (codes "stat")) (on_path calls.Stat) _ (stops-path calls.Stat)
      (choose (bytes_eq verb (codes "list")) (on_path calls.List) _ (stops-path calls.List)
      (choose (bytes_eq verb (codes "rename")) on_paths _ stops-paths
      (choose (bytes_eq verb (codes "sync")) (ends calls.Sync) (λ ws. Wrong 0) (stops-ends calls.Sync) after-wrong)))))))))))

stops-call : Stops call_read
stops-call = stops-first call_read (λ k is. same_number 0 k is) after-verb

-- ---- lines

module _ (s : ScriptValue) where
  stops-called : (client : ℕ) (f : List (List ℕ) → LineRead Call) → Stops f → Stops (λ ws. called s client (f ws))
  stops-called client f stops ws vs k is alike = by_read (f ws) refl is
    where
      by_read : (r : LineRead Call) → f ws ≡ r → called s client r ≡ Wrong k → called s client (f vs) ≡ Wrong k
      by_read (Got c) r_is e = cc
      by_read (Wrong j) r_is e =
          let same : (let r : LineRead ScriptValue = Wrong j in r) ≡ Wrong k = e in
          let j_is : k ≡ j = same_number j k same in
          ap (called s client) (stops ws vs k (r_is ∙ ap (λ (n : ℕ). let r : LineRead Call = Wrong n in r) (sym j_is)) alike)

  stops-nodes : Stops (nodes_line s)
  stops-nodes =
      stops-word (the_word (codes "nodes")) (λ _. a_word (number_in 1 8) (λ n. ends (record s { nodes = n }))) (λ _.
      stops-word (number_in 1 8) (λ n. ends (record s { nodes = n })) (λ n. stops-ends (record s { nodes = n })))

  stops-client : Stops (client_line s)
  stops-client =
      let put : List ℕ → ℕ → ScriptValue = λ name node. record s { clients = s.clients ++ record { name = name; node = node } ∷ [] } in
      stops-word (new_client s.clients) (λ name. a_word (the_word (codes "on")) (λ _. a_word (number_in 1 s.nodes) (λ node. ends (put name node)))) (λ name.
      stops-word (the_word (codes "on")) (λ _. a_word (number_in 1 s.nodes) (λ node. ends (put name node))) (λ _.
      stops-word (number_in 1 s.nodes) (λ node. ends (put name node)) (λ node. stops-ends (put name node))))

  stops-fate : (armed : Fate → ScriptValue) → Stops (fate_read armed)
  stops-fate armed = stops-first (fate_read armed) (λ k is. same_number 0 k is) (λ w.
      after-if (bytes_eq w (codes "old")) (λ ws. later (ends (armed Old) ws)) _ (after-later (ends (armed Old)) (stops-ends (armed Old)))
      (after-if (bytes_eq w (codes "new")) (λ ws. later (ends (armed New) ws)) _ (after-later (ends (armed New)) (stops-ends (armed New)))
      (after-if (bytes_eq w (codes "torn")) (λ ws. later (a_word (number_in 1 4095) (λ bytes. ends (armed (Torn bytes))) ws)) (λ ws. Wrong 0)
      (after-later (a_word (number_in 1 4095) (λ bytes. ends (armed (Torn bytes)))) (stops-word (number_in 1 4095) (λ bytes. ends (armed (Torn bytes))) (λ bytes. stops-ends (armed (Torn bytes)))))
      after-wrong)))

  stops-armed : (node : ℕ) → Stops (armed_line s node)
  stops-armed node = stops-word (number_in 1 (2 ^ 64 - 1)) (λ write. fate_read (with_armed s node write)) (λ write. stops-fate (with_armed s node write))

  stops-after : (node : ℕ) → Stops (after_node s node)
  stops-after node = stops-first (after_node s node) (λ k is. cc) (λ w.
      after-if (bytes_eq w (codes "at") && may_arm s node) (λ ws. later (armed_line s node ws)) (λ ws. Wrong 0) (after-later (armed_line s node) (stops-armed node)) after-wrong)

  stops-crash : Stops (crash_line s)
  stops-crash = stops-first (crash_line s) (λ k is. same_number 0 k is) (λ w.
      after-if (bytes_eq w (codes "all")) (λ ws. later (ends (with_line s (line.Crash (2 ^ (s.nodes + 1) - 2))) ws)) (λ ws. a_word (number_in 1 s.nodes) (after_node s) (w ∷ ws))
      (after-later (ends (with_line s (line.Crash (2 ^ (s.nodes + 1) - 2)))) (stops-ends (with_line s (line.Crash (2 ^ (s.nodes + 1) - 2)))))
      (after-cons (a_word (number_in 1 s.nodes) (after_node s)) w (stops-word (number_in 1 s.nodes) (after_node s) stops-after)))

  stops-calls : Stops (call_line s)
  stops-calls = stops-word (client_before_colon s.clients) (λ client rest. called s client (call_read rest)) (λ client. stops-called client call_read stops-call)

  after-later_line : (w : List ℕ) → StopsAfter (later_line s w)
  after-later_line w =
      after-if (bytes_eq w (codes "client") && may_have_client s) (λ ws. later (client_line s ws)) _ (after-later (client_line s) stops-client)
      (after-if (length s.clients == 0) (λ ws. Wrong 0) _ after-wrong
      (after-if (bytes_eq w (codes "crash")) (λ ws. later (crash_line s ws)) _ (after-later (crash_line s) stops-crash)
      (after-if (bytes_eq w (codes "wait")) (λ ws. later (ends (with_line s line.Wait) ws)) _ (after-later (ends (with_line s line.Wait)) (stops-ends (with_line s line.Wait)))
      (after-if (bytes_eq w (codes "join")) (λ ws. later (a_word (number_in 1 s.nodes) (λ node. ends (with_line s (line.Join node))) ws)) (λ ws. call_line s (w ∷ ws))
      (after-later (a_word (number_in 1 s.nodes) (λ node. ends (with_line s (line.Join node)))) (stops-word (number_in 1 s.nodes) (λ node. ends (with_line s (line.Join node))) (λ node. stops-ends (with_line s (line.Join node)))))
      (after-cons (call_line s) w stops-calls)))))

  pub stops-line : Stops (line_read s)
  stops-line = stops-first (line_read s) (λ k is. same_number 0 k is) (λ w.
      after-if (s.nodes == 0) (λ ws. nodes_line s (w ∷ ws)) (later_line s w) (after-cons (nodes_line s) w stops-nodes) (after-later_line w))
