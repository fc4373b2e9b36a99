-- A word that no line has: a line that isn't refused before it is refused there.
use Rattle.std.proofs.Common.{◌≡◌, ℕ, zero, suc, ◌+◌, ◌-◌, ◌^◌, ◌≤◌, ◌==◌, Bool, true, false, not, ◌&&◌, if◌then◌else◌, List, [], ◌∷◌, ◌++◌, length, take, Option, Some, None, refl, ap, ◌∙◌, arith}
use Rattle.std.specs.Prelude.{codes, nat_lt}
use Rattle.std.specs.Fmt.{digits}
use Rattle.std.specs.List.{prefix_len, position_or_len}
use Rattle.std.specs.Str.{bytes_eq}
use Rattle.std.proofs.lemmas.Bool.Decides.{nat_tests}
use Rattle.number_words.specs.Numbers.{number_in}
use Rattle.file_tree.specs.declared.call.Call.{Call}
use Rattle.file_tree.specs.declared.call.Call.TheVariants as calls
use Rattle.script_lang.specs.declared.script.Client.{Client}
use Rattle.script_lang.specs.declared.script.Fate.{Fate}
use Rattle.script_lang.specs.declared.script.Fate.TheVariants.{Old, New, Torn}
use Rattle.script_lang.specs.declared.script.Line.TheVariants as line
use Rattle.script_lang.specs.Script.{ScriptValue}
use Rattle.script_lang.specs.Words.{LineRead, Wrong, later, ends, a_word, the_word, path_in, content_in}
use Rattle.script_lang.specs.Grammar.{offset_limit, count_limit, on_path, on_range, on_content, on_size, on_paths, call_after, call_read, has_client, new_client, client_before_colon, with_line, with_armed, nodes_line, client_line, fate_read, may_arm, armed_line, after_node, crash_line, called, call_line, may_have_client, later_line, line_read}

abbrev pub strange : List ℕ
strange = 0 ∷ []

-- no word before the one of this number is refused
abbrev pub Passes : {A : Type 0} → LineRead A → ℕ → Type 0
Passes r k = (j : ℕ) → r ≡ Wrong j → k ≤ j

abbrev pub Stops : {A : Type 0} → (List (List ℕ) → LineRead A) → Type 0
Stops {A} f = (ws : List (List ℕ)) (k : ℕ) → k ≤ length ws → Passes (f ws) k → f (take k ws ++ strange ∷ []) ≡ Wrong k

-- the same behind a word that was read
abbrev pub StopsAfter : {A : Type 0} → (List (List ℕ) → LineRead A) → Type 0
StopsAfter {A} f = (ws : List (List ℕ)) (k : ℕ) → k ≤ length ws → Passes (f ws) (suc k) → f (take k ws ++ strange ∷ []) ≡ Wrong (suc k)

module _ {A : Type 0} where
  stops-first : (f : List (List ℕ) → LineRead A) → f (strange ∷ []) ≡ Wrong 0 → ((w : List ℕ) → StopsAfter (λ ws. f (w ∷ ws))) → Stops f
  stops-first f none behind [] zero within passes = none
  stops-first f none behind (w ∷ ws) zero within passes = none
  stops-first f none behind [] (suc k) within passes = absurd (omega (arith, within))
  stops-first f none behind (w ∷ ws) (suc k) within passes = behind w ws k (omega (arith, within)) passes

  after-later : (f : List (List ℕ) → LineRead A) → Stops f → StopsAfter (λ ws. later (f ws))
  after-later f stops ws k within passes = ap later (stops ws k within (λ j is. omega (arith, passes (suc j) (ap later is))))

  after-wrong : StopsAfter {A = A} (λ ws. Wrong 0)
  after-wrong ws k within passes = absurd (omega (arith, passes 0 refl))

  after-if : (b : Bool) (f g : List (List ℕ) → LineRead A) → StopsAfter f → StopsAfter g → StopsAfter (λ ws. if b then f ws else g ws)
  after-if true f g one two = one
  after-if false f g one two = two

  stops-ends : (a : A) → Stops (ends a)
  stops-ends a = stops-first (ends a) refl (λ w. after-wrong)

module _ {A B : Type 0} (value : List ℕ → Option A) (rest : A → List (List ℕ) → LineRead B) (stops : (a : A) → Stops (rest a)) where
  after-word : (w : List ℕ) → StopsAfter (λ ws. a_word value rest (w ∷ ws))
  after-word w = by_value (value w) refl
    where
      by_value : (o : Option A) → value w ≡ o → StopsAfter (λ ws. a_word value rest (w ∷ ws))
      by_value None none ws k within passes =
          let at : a_word value rest (w ∷ ws) ≡ Wrong 0 = rw none refl in
          absurd (omega (arith, passes 0 at))
      by_value (Some a) some ws k within passes =
          let same : (vs : List (List ℕ)) → a_word value rest (w ∷ vs) ≡ later (rest a vs) = λ vs. rw some refl in
          same (take k ws ++ strange ∷ []) ∙ after-later (rest a) (stops a) ws k within (λ j is. passes j (same ws ∙ is))

  stops-word : value strange ≡ None → Stops (a_word value rest)
  stops-word none = stops-first (a_word value rest) (rw none refl) after-word

-- ---- it is no word of any kind

no_number : (low high : ℕ) → number_in low high strange ≡ None
unfolding digits
no_number low high = refl

no_path : path_in strange ≡ None
no_path = refl

no_content : content_in strange ≡ None
no_content = refl

no_colon : (name : List ℕ) → bytes_eq strange (name ++ 58 ∷ []) ≡ false
no_colon [] = refl
no_colon (b ∷ []) = never (0 == b)
  where
    never : (t : Bool) → (t && false) ≡ false
    never true = refl
    never false = refl
no_colon (b ∷ c ∷ bs) = never (0 == b)
  where
    never : (t : Bool) → (t && false) ≡ false
    never true = refl
    never false = refl

none_of : (cs : List Client) → prefix_len (λ c. not (bytes_eq strange (c.name ++ codes ":"))) cs ≡ length cs
none_of [] = refl
none_of (c ∷ cs) = rw (no_colon c.name) (omega (arith, none_of cs))

no_client : (cs : List Client) → client_before_colon cs strange ≡ None
no_client cs =
    let n = position_or_len (λ (c : Client). bytes_eq strange (c.name ++ codes ":")) cs in
    let same : n ≡ length cs = none_of cs in
    let past : nat_lt n (length cs) ≡ false = grind (arith, nat_tests) in
    rw past refl

no_new_client : (cs : List Client) → new_client cs strange ≡ None
no_new_client cs = by_test (has_client cs strange)
  where
    by_test : (t : Bool) → (let o : Option (List ℕ) = None in if t then o else None) ≡ None
    by_test true = refl
    by_test false = refl

-- ---- calls

module _ (call : List (List ℕ) → Call) where
  stops-path : Stops (on_path call)
  stops-path = stops-word path_in (λ p. ends (call p)) (λ p. stops-ends (call p)) no_path

module _ (call : List (List ℕ) → ℕ → ℕ → Call) where
  stops-range : Stops (on_range call)
  stops-range =
      stops-word path_in (λ p. a_word (number_in 0 offset_limit) (λ at. a_word (number_in 0 count_limit) (λ count. ends (call p at count)))) (λ p.
      stops-word (number_in 0 offset_limit) (λ at. a_word (number_in 0 count_limit) (λ count. ends (call p at count))) (λ at.
      stops-word (number_in 0 count_limit) (λ count. ends (call p at count)) (λ count. stops-ends (call p at count)) (no_number 0 count_limit)) (no_number 0 offset_limit)) no_path

stops-content : Stops on_content
stops-content =
    stops-word path_in (λ p. a_word (number_in 0 offset_limit) (λ at. a_word content_in (λ content. ends (calls.Write p at content)))) (λ p.
    stops-word (number_in 0 offset_limit) (λ at. a_word content_in (λ content. ends (calls.Write p at content))) (λ at.
    stops-word content_in (λ content. ends (calls.Write p at content)) (λ content. stops-ends (calls.Write p at content)) no_content) (no_number 0 offset_limit)) no_path

stops-size : Stops on_size
stops-size =
    stops-word path_in (λ p. a_word (number_in 0 offset_limit) (λ size. ends (calls.Truncate p size))) (λ p.
    stops-word (number_in 0 offset_limit) (λ size. ends (calls.Truncate p size)) (λ size. stops-ends (calls.Truncate p size)) (no_number 0 offset_limit)) no_path

stops-paths : Stops on_paths
stops-paths =
    stops-word path_in (λ p. a_word path_in (λ q. ends (calls.Rename p q))) (λ p.
    stops-word path_in (λ q. ends (calls.Rename p q)) (λ q. stops-ends (calls.Rename p q)) no_path) no_path

module _ (verb : List ℕ) where
  choose : (b : Bool) (f g : List (List ℕ) → LineRead Call) → Stops f → StopsAfter g → StopsAfter (λ ws. if b then later (f ws) else g ws)
  choose b f g one two = after-if b (λ ws. later (f ws)) g (after-later f one) two

  after-verb : StopsAfter (call_after verb)
  after-verb =
      choose (bytes_eq verb (codes "create")) (on_path calls.Create) _ (stops-path calls.Create)
      (choose (bytes_eq verb (codes "mkdir")) (on_path calls.Mkdir) _ (stops-path calls.Mkdir)
      (choose (bytes_eq verb (codes "unlink")) (on_path calls.Unlink) _ (stops-path calls.Unlink)
      (choose (bytes_eq verb (codes "rmdir")) (on_path calls.Rmdir) _ (stops-path calls.Rmdir)
      (choose (bytes_eq verb (codes "read")) (on_range calls.Read) _ (stops-range calls.Read)
      (choose (bytes_eq verb (codes "dread")) (on_range calls.Dread) _ (stops-range calls.Dread)
      (choose (bytes_eq verb (codes "write")) on_content _ stops-content
      (choose (bytes_eq verb (codes "truncate")) on_size _ stops-size
      (choose (bytes_eq verb (codes "stat")) (on_path calls.Stat) _ (stops-path calls.Stat)
      (choose (bytes_eq verb (codes "list")) (on_path calls.List) _ (stops-path calls.List)
      (choose (bytes_eq verb (codes "rename")) on_paths _ stops-paths
      (choose (bytes_eq verb (codes "sync")) (ends calls.Sync) (λ ws. Wrong 0) (stops-ends calls.Sync) after-wrong)))))))))))

stops-call : Stops call_read
stops-call = stops-first call_read refl after-verb

-- ---- lines

module _ (s : ScriptValue) where
  stops-called : (client : ℕ) (f : List (List ℕ) → LineRead Call) → Stops f → Stops (λ ws. called s client (f ws))
  stops-called client f stops ws k within passes = ap (called s client) (stops ws k within (λ j is. passes j (ap (called s client) is)))

  stops-fate : (armed : Fate → ScriptValue) → Stops (fate_read armed)
  stops-fate armed = stops-first (fate_read armed) refl (λ w.
      after-if (bytes_eq w (codes "old")) (λ ws. later (ends (armed Old) ws)) _ (after-later (ends (armed Old)) (stops-ends (armed Old)))
      (after-if (bytes_eq w (codes "new")) (λ ws. later (ends (armed New) ws)) _ (after-later (ends (armed New)) (stops-ends (armed New)))
      (after-if (bytes_eq w (codes "torn")) (λ ws. later (a_word (number_in 1 4095) (λ bytes. ends (armed (Torn bytes))) ws)) (λ ws. Wrong 0)
      (after-later (a_word (number_in 1 4095) (λ bytes. ends (armed (Torn bytes)))) (stops-word (number_in 1 4095) (λ bytes. ends (armed (Torn bytes))) (λ bytes. stops-ends (armed (Torn bytes))) (no_number 1 4095)))
      after-wrong)))

  stops-armed : (node : ℕ) → Stops (armed_line s node)
  stops-armed node = stops-word (number_in 1 (2 ^ 64 - 1)) (λ write. fate_read (with_armed s node write)) (λ write. stops-fate (with_armed s node write)) (no_number 1 (2 ^ 64 - 1))

  stops-after : (node : ℕ) → Stops (after_node s node)
  stops-after node = stops-first (after_node s node) refl (λ w.
      after-if (bytes_eq w (codes "at") && may_arm s node) (λ ws. later (armed_line s node ws)) (λ ws. Wrong 0) (after-later (armed_line s node) (stops-armed node)) after-wrong)

  stops-crash : Stops (crash_line s)
  stops-crash = stops-first (crash_line s) (rw (no_number 1 s.nodes) refl) (λ w.
      after-if (bytes_eq w (codes "all")) (λ ws. later (ends (with_line s (line.Crash (2 ^ (s.nodes + 1) - 2))) ws)) (λ ws. a_word (number_in 1 s.nodes) (after_node s) (w ∷ ws))
      (after-later (ends (with_line s (line.Crash (2 ^ (s.nodes + 1) - 2)))) (stops-ends (with_line s (line.Crash (2 ^ (s.nodes + 1) - 2)))))
      (after-word (number_in 1 s.nodes) (after_node s) stops-after w))

  stops-node : (put : ℕ → ScriptValue) → Stops (a_word (number_in 1 s.nodes) (λ node. ends (put node)))
  stops-node put = stops-word (number_in 1 s.nodes) (λ node. ends (put node)) (λ node. stops-ends (put node)) (no_number 1 s.nodes)

  stops-client : Stops (client_line s)
  stops-client =
      let put : List ℕ → ℕ → ScriptValue = λ name node. record s { clients = s.clients ++ record { name = name; node = node } ∷ [] } in
      stops-word (new_client s.clients) (λ name. a_word (the_word (codes "on")) (λ _. a_word (number_in 1 s.nodes) (λ node. ends (put name node)))) (λ name.
      stops-word (the_word (codes "on")) (λ _. a_word (number_in 1 s.nodes) (λ node. ends (put name node))) (λ _. stops-node (put name)) refl) (no_new_client s.clients)

  after-call_line : (w : List ℕ) → StopsAfter (λ ws. call_line s (w ∷ ws))
  after-call_line w = after-word (client_before_colon s.clients) (λ client rest. called s client (call_read rest)) (λ client. stops-called client call_read stops-call) w

  after-later_line : (w : List ℕ) → StopsAfter (later_line s w)
  after-later_line w =
      after-if (bytes_eq w (codes "client") && may_have_client s) (λ ws. later (client_line s ws)) _ (after-later (client_line s) stops-client)
      (after-if (length s.clients == 0) (λ ws. Wrong 0) _ after-wrong
      (after-if (bytes_eq w (codes "crash")) (λ ws. later (crash_line s ws)) _ (after-later (crash_line s) stops-crash)
      (after-if (bytes_eq w (codes "wait")) (λ ws. later (ends (with_line s line.Wait) ws)) _ (after-later (ends (with_line s line.Wait)) (stops-ends (with_line s line.Wait)))
      (after-if (bytes_eq w (codes "join")) (λ ws. later (a_word (number_in 1 s.nodes) (λ node. ends (with_line s (line.Join node))) ws)) (λ ws. call_line s (w ∷ ws))
      (after-later (a_word (number_in 1 s.nodes) (λ node. ends (with_line s (line.Join node)))) (stops-node (λ node. with_line s (line.Join node))))
      (after-call_line w)))))

  after-nodes_line : (w : List ℕ) → StopsAfter (λ ws. nodes_line s (w ∷ ws))
  after-nodes_line = after-word (the_word (codes "nodes")) (λ _. a_word (number_in 1 8) (λ n. ends (record s { nodes = n }))) (λ _.
      stops-word (number_in 1 8) (λ n. ends (record s { nodes = n })) (λ n. stops-ends (record s { nodes = n })) (no_number 1 8))

  -- behind the first word of a line
  pub after-first : (w : List ℕ) → StopsAfter (λ ws. line_read s (w ∷ ws))
  after-first w = after-if (s.nodes == 0) (λ ws. nodes_line s (w ∷ ws)) (later_line s w) (after-nodes_line w) (after-later_line w)
