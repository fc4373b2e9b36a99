-- The words before a wrong word begin a line.
use Rattle.std.proofs.Common.{◌≡◌, ℕ, zero, suc, ◌+◌, ◌-◌, ◌^◌, ◌<◌, ◌≤◌, ◌==◌, Bool, true, false, ◌&&◌, not, if◌then◌else◌, List, [], ◌∷◌, ◌++◌, length, take, Option, Some, None, refl, sym, ap, ◌∙◌, subst, arith}
use Rattle.std.specs.Prelude.{codes, nat_lt}
use Rattle.std.specs.List.{AllByRecursion, list_all}
use Rattle.std.specs.Str.{bytes_eq}
use Rattle.std.proofs.lemmas.Bool.{and_parts}
use Rattle.std.proofs.lemmas.Bool.Decides.{nat_tests}
use Rattle.std.proofs.lemmas.Fmt.{decimal_digit}
use Rattle.hex.specs.Hex.{encode_lower, lower_digits}
use Rattle.hex.proofs.HexLemmas.{length-encode_with}
use Rattle.number_words.specs.Numbers.{number_in}
use Rattle.number_words.proofs.Decimals.{number_within}
use Rattle.file_tree.specs.declared.call.Call.{Call}
use Rattle.file_tree.specs.declared.call.Call.TheVariants as calls
use Rattle.script_lang.specs.declared.script.Fate.{Fate}
use Rattle.script_lang.specs.declared.script.Fate.TheVariants.{Old, New, Torn}
use Rattle.script_lang.specs.declared.script.Line.TheVariants as line
use Rattle.script_lang.specs.Script.{ScriptValue}
use Rattle.script_lang.specs.Words.{LineRead, Got, Wrong, later, ends, a_word, the_word, path_in, content_in}
use Rattle.script_lang.specs.Grammar.{client_limit, offset_limit, count_limit, on_path, on_range, on_content, on_size, on_paths, call_after, call_read, new_client, client_before_colon, with_line, with_armed, nodes_line, client_line, fate_read, may_arm, armed_line, after_node, crash_line, called, call_line, may_have_client, later_line, line_read}
use Rattle.script_laws.specs.Places.{bytes_in}
use Rattle.script_laws.proofs.Inks.{Ink, is_ink, all-weaker, ink-lower}
use Rattle.script_laws.proofs.WordsBack.{content-back}
use Rattle.script_laws.proofs.Stops.{later-wrong, same_number}

-- a byte that neither parts words nor lines
abbrev pub is_solid : ℕ → Bool
is_solid b = not (b == 32) && not (b == 10)

abbrev pub Solid : List ℕ → Type 0
Solid w = list_all is_solid w ≡ true

-- words that make a line of those in front
pub record Completion {A : Type 0} (most : ℕ) (f : List (List ℕ) → LineRead A) (front : List (List ℕ)) : Type 0 where
  pub more : List (List ℕ)
  pub value : A
  pub reads : f (front ++ more) ≡ Got value
  pub solid : AllByRecursion Solid more
  pub short : bytes_in more ≤ most

abbrev pub Begins : {A : Type 0} → (List (List ℕ) → LineRead A) → Type 0
Begins {A} f = (ws : List (List ℕ)) (k : ℕ) → f ws ≡ Wrong k → (k ≤ length ws) × Completion 16 f (take k ws)

-- the same behind a word that was read
abbrev pub BeginsAfter : {A : Type 0} → (List (List ℕ) → LineRead A) → Type 0
BeginsAfter {A} f = (ws : List (List ℕ)) (j : ℕ) → f ws ≡ Wrong (suc j) → (j ≤ length ws) × Completion 16 f (take j ws)

module _ {A : Type 0} where
  after-later : (f : List (List ℕ) → LineRead A) → Begins f → BeginsAfter (λ ws. later (f ws))
  after-later f begins ws j is =
      let at = later-wrong (f ws) (suc j) is in
      let same : at.0 ≡ j = omega (arith, at.1.0) in
      let both : (j ≤ length ws) × Completion 16 f (take j ws) = subst (λ (n : ℕ). (n ≤ length ws) × Completion 16 f (take n ws)) same (begins ws at.0 at.1.1) in
      let c = both.1 in
      (both.0, record { more = c.more; value = c.value; reads = ap later c.reads; solid = c.solid; short = c.short })

  after-wrong : BeginsAfter {A = A} (λ ws. Wrong 0)
  after-wrong ws j is = absurd (omega (arith, same_number 0 (suc j) is))

  after-if : (b : Bool) (f g : List (List ℕ) → LineRead A) → (b ≡ true → BeginsAfter f) → (b ≡ false → BeginsAfter g) → BeginsAfter (λ ws. if b then f ws else g ws)
  after-if true f g one two = one refl
  after-if false f g one two = two refl

  -- by the first word
  begins-first : (f : List (List ℕ) → LineRead A) → ((k : ℕ) → f [] ≡ Wrong k → k ≡ 0) → Completion 16 f [] → ((w : List ℕ) → BeginsAfter (λ ws. f (w ∷ ws))) → Begins f
  begins-first f empty whole behind [] k is = (omega (arith, empty k is), subst (λ (n : ℕ). Completion 16 f (take n [])) (sym (empty k is)) whole)
  begins-first f empty whole behind (w ∷ ws) zero is = (omega arith, whole)
  begins-first f empty whole behind (w ∷ ws) (suc j) is =
      let both = behind w ws j is in
      let c = both.1 in
      (omega (arith, both.0), record { more = c.more; value = c.value; reads = c.reads; solid = c.solid; short = c.short })

  nothing_more : (most : ℕ) (f : List (List ℕ) → LineRead A) (a : A) → f [] ≡ Got a → Completion most f []
  nothing_more most f a is = record { more = []; value = a; reads = is; solid = tt; short = omega arith }

  begins-ends : (a : A) → Begins (ends a)
  begins-ends a = begins-first (ends a) (λ k is. cc) (nothing_more 16 (ends a) a refl) (λ w. after-wrong)

module _ {A B : Type 0} (value : List ℕ → Option A) (rest : A → List (List ℕ) → LineRead B) where
  after-word : ((a : A) → Begins (rest a)) → (w : List ℕ) → BeginsAfter (λ ws. a_word value rest (w ∷ ws))
  after-word begins w = by_value (value w) refl
    where
      by_value : (o : Option A) → value w ≡ o → BeginsAfter (λ ws. a_word value rest (w ∷ ws))
      by_value None none ws j is =
          let at : (let r : LineRead B = Wrong 0 in r) ≡ Wrong (suc j) = rw none at is in
          absurd (omega (arith, same_number 0 (suc j) at))
      by_value (Some a) some ws j is =
          let at : later (rest a ws) ≡ Wrong (suc j) = rw some at is in
          let both = after-later (rest a) (begins a) ws j at in
          let c = both.1 in
          (both.0, record { more = c.more; value = c.value; reads = rw some c.reads; solid = c.solid; short = c.short })

  can-word : (most less : ℕ) (w : List ℕ) (a : A) → value w ≡ Some a → Solid w → Completion less (rest a) [] → length w + 1 + less ≤ most → Completion most (a_word value rest) []
  can-word most less w a is solid c fits = record { more = w ∷ c.more; value = c.value; reads = rw is (ap later c.reads); solid = (solid, c.solid); short = omega (arith, c.short, fits) }

  begins-word : (less : ℕ) (w : List ℕ) (a : A) → value w ≡ Some a → Solid w → Completion less (rest a) [] → length w + 1 + less ≤ 16 → ((b : A) → Begins (rest b)) → Begins (a_word value rest)
  begins-word less w a is solid c fits begins = begins-first (a_word value rest) (λ k e. same_number 0 k e) (can-word 16 less w a is solid c fits) (after-word begins)

-- ---- a word of each kind

pub one_in : (high : ℕ) → 1 ≤ high → high < 2 ^ 64 → number_in 1 high (codes "1") ≡ Some 1
one_in high some small = sym (number_within 1 high (codes "1") small 1 (omega arith) (sym (decimal_digit 1 (omega arith))) (omega arith) some)

zero_in : (high : ℕ) → high < 2 ^ 64 → number_in 0 high (codes "0") ≡ Some 0
zero_in high small = sym (number_within 0 high (codes "0") small 0 (omega arith) (sym (decimal_digit 0 (omega arith))) (omega arith) (omega arith))

root_in : path_in (codes "/") ≡ Some []
root_in = refl

abbrev byte_word : List ℕ
byte_word = encode_lower (0 ∷ [])

byte_in : content_in byte_word ≡ Some (0 ∷ [])
byte_in = content-back (0 ∷ []) (omega arith, tt) (omega arith) (omega arith)

ink_solid : (b : ℕ) → is_ink b ≡ true → is_solid b ≡ true
ink_solid b is =
    let high : 32 < b = grind (arith, nat_tests) in
    let one : (b == 32) ≡ false = grind (arith, nat_tests) in
    let two : (b == 10) ≡ false = grind (arith, nat_tests) in
    rw (one, two) refl

pub solid-ink : (w : List ℕ) → Ink w → Solid w
solid-ink w ink = all-weaker is_ink is_solid ink_solid w ink

byte_solid : Solid byte_word
byte_solid = solid-ink byte_word (ink-lower (0 ∷ []) (omega arith, tt))

byte_length : length byte_word ≡ 2
byte_length = length-encode_with lower_digits (0 ∷ [])

-- ---- calls

module _ (call : List (List ℕ) → Call) where
  begins-path : Begins (on_path call)
  begins-path = begins-word path_in (λ p. ends (call p)) 0 (codes "/") [] root_in refl (nothing_more 0 (ends (call [])) (call []) refl) (omega arith) (λ p. begins-ends (call p))

module _ (call : List (List ℕ) → ℕ → ℕ → Call) where
  begins-count : (p : List (List ℕ)) (at : ℕ) → Begins (a_word (number_in 0 count_limit) (λ count. ends (call p at count)))
  begins-count p at = begins-word (number_in 0 count_limit) (λ count. ends (call p at count)) 0 (codes "0") 0 (zero_in count_limit (omega arith)) refl (nothing_more 0 (ends (call p at 0)) (call p at 0) refl) (omega arith) (λ count. begins-ends (call p at count))

  can-count : (p : List (List ℕ)) (at : ℕ) → Completion 2 (a_word (number_in 0 count_limit) (λ count. ends (call p at count))) []
  can-count p at = can-word (number_in 0 count_limit) (λ count. ends (call p at count)) 2 0 (codes "0") 0 (zero_in count_limit (omega arith)) refl (nothing_more 0 (ends (call p at 0)) (call p at 0) refl) (omega arith)

  abbrev from_offset : List (List ℕ) → List (List ℕ) → LineRead Call
  from_offset p = a_word (number_in 0 offset_limit) (λ at. a_word (number_in 0 count_limit) (λ count. ends (call p at count)))

  begins-range : Begins (on_range call)
  begins-range =
      begins-word path_in from_offset 4 (codes "/") [] root_in refl
      (can-word (number_in 0 offset_limit) (λ at. a_word (number_in 0 count_limit) (λ count. ends (call [] at count))) 4 2 (codes "0") 0 (zero_in offset_limit (omega arith)) refl (can-count [] 0) (omega arith)) (omega arith) (λ p.
      begins-word (number_in 0 offset_limit) (λ at. a_word (number_in 0 count_limit) (λ count. ends (call p at count))) 2 (codes "0") 0 (zero_in offset_limit (omega arith)) refl (can-count p 0) (omega arith) (λ at. begins-count p at))

abbrev content_at : List (List ℕ) → ℕ → List (List ℕ) → LineRead Call
content_at p at = a_word content_in (λ content. ends (calls.Write p at content))

can-content : (p : List (List ℕ)) (at : ℕ) → Completion 3 (content_at p at) []
can-content p at =
    can-word content_in (λ content. ends (calls.Write p at content)) 3 0 byte_word (0 ∷ []) byte_in byte_solid (nothing_more 0 (ends (calls.Write p at (0 ∷ []))) (calls.Write p at (0 ∷ [])) refl) (omega (arith, byte_length))

begins-content : Begins on_content
begins-content =
    begins-word path_in (λ p. a_word (number_in 0 offset_limit) (content_at p)) 5 (codes "/") [] root_in refl
    (can-word (number_in 0 offset_limit) (content_at []) 5 3 (codes "0") 0 (zero_in offset_limit (omega arith)) refl (can-content [] 0) (omega arith)) (omega arith) (λ p.
    begins-word (number_in 0 offset_limit) (content_at p) 3 (codes "0") 0 (zero_in offset_limit (omega arith)) refl (can-content p 0) (omega arith) (λ at.
    begins-word content_in (λ content. ends (calls.Write p at content)) 0 byte_word (0 ∷ []) byte_in byte_solid (nothing_more 0 (ends (calls.Write p at (0 ∷ []))) (calls.Write p at (0 ∷ [])) refl) (omega (arith, byte_length)) (λ content.
    begins-ends (calls.Write p at content))))

begins-size : Begins on_size
begins-size =
    begins-word path_in (λ p. a_word (number_in 0 offset_limit) (λ size. ends (calls.Truncate p size))) 2 (codes "/") [] root_in refl
    (can-word (number_in 0 offset_limit) (λ size. ends (calls.Truncate [] size)) 2 0 (codes "0") 0 (zero_in offset_limit (omega arith)) refl (nothing_more 0 (ends (calls.Truncate [] 0)) (calls.Truncate [] 0) refl) (omega arith)) (omega arith) (λ p.
    begins-word (number_in 0 offset_limit) (λ size. ends (calls.Truncate p size)) 0 (codes "0") 0 (zero_in offset_limit (omega arith)) refl (nothing_more 0 (ends (calls.Truncate p 0)) (calls.Truncate p 0) refl) (omega arith) (λ size.
    begins-ends (calls.Truncate p size)))

begins-paths : Begins on_paths
begins-paths =
    begins-word path_in (λ p. a_word path_in (λ q. ends (calls.Rename p q))) 2 (codes "/") [] root_in refl
    (can-word path_in (λ q. ends (calls.Rename [] q)) 2 0 (codes "/") [] root_in refl (nothing_more 0 (ends (calls.Rename [] [])) (calls.Rename [] []) refl) (omega arith)) (omega arith) (λ p.
    begins-word path_in (λ q. ends (calls.Rename p q)) 0 (codes "/") [] root_in refl (nothing_more 0 (ends (calls.Rename p [])) (calls.Rename p []) refl) (omega arith) (λ q. begins-ends (calls.Rename p q)))

module _ (verb : List ℕ) where
  choose : (b : Bool) (f g : List (List ℕ) → LineRead Call) → Begins f → BeginsAfter g → BeginsAfter (λ ws. if b then later (f ws) else g ws)
  choose b f g one two = after-if b (λ ws. later (f ws)) g (λ _. after-later f one) (λ _. two)

  after-verb : BeginsAfter (call_after verb)
  after-verb =
      choose (bytes_eq verb (codes "create")) (on_path calls.Create) _ (begins-path calls.Create)
      (choose (bytes_eq verb (codes "mkdir")) (on_path calls.Mkdir) _ (begins-path calls.Mkdir)
      (choose (bytes_eq verb (codes "unlink")) (on_path calls.Unlink) _ (begins-path calls.Unlink)
      (choose (bytes_eq verb (codes "rmdir")) (on_path calls.Rmdir) _ (begins-path calls.Rmdir)
      (choose (bytes_eq verb (codes "read")) (on_range calls.Read) _ (begins-range calls.Read)
      (choose (bytes_eq verb (codes "dread")) (on_range calls.Dread) _ (begins-range calls.Dread)
      (choose (bytes_eq verb (codes "write")) on_content _ begins-content
      (choose (bytes_eq verb (codes "truncate")) on_size _ begins-size
      (choose (bytes_eq verb (codes "stat")) (on_path calls.Stat) _ (begins-path calls.Stat)
      (choose (bytes_eq verb (codes "list")) (on_path calls.List) _ (begins-path calls.List)
      (choose (bytes_eq verb (codes "rename")) on_paths _ begins-paths
      (choose (bytes_eq verb (codes "sync")) (ends calls.Sync) (λ ws. Wrong 0) (begins-ends calls.Sync) after-wrong)))))))))))

begins-call : Begins call_read
begins-call = begins-first call_read (λ k is. same_number 0 k is) (record { more = codes "sync" ∷ []; value = calls.Sync; reads = refl; solid = (refl, tt); short = omega arith }) after-verb

-- ---- lines

-- a name that no client has yet
pub record FreshName (s : ScriptValue) : Type 0 where
  pub name : List ℕ
  pub new : new_client s.clients name ≡ Some name
  pub solid : Solid name
  pub short : length name ≤ 2

module _ (s : ScriptValue) where
  begins-called : (client : ℕ) (f : List (List ℕ) → LineRead Call) → Begins f → Begins (λ ws. called s client (f ws))
  begins-called client f begins ws k is = by_read (f ws) refl is
    where
      by_read : (r : LineRead Call) → f ws ≡ r → called s client r ≡ Wrong k → (k ≤ length ws) × Completion 16 (λ ws. called s client (f ws)) (take k ws)
      by_read (Got c) r_is e = cc
      by_read (Wrong j) r_is e =
          let same : (let r : LineRead ScriptValue = Wrong j in r) ≡ Wrong k = e in
          let j_is : k ≡ j = same_number j k same in
          let both = begins ws k (r_is ∙ ap (λ (n : ℕ). let r : LineRead Call = Wrong n in r) (sym j_is)) in
          let c = both.1 in
          (both.0, record { more = c.more; value = with_line s (line.Call client c.value); reads = ap (called s client) c.reads; solid = c.solid; short = c.short })

  begins-fate : (armed : Fate → ScriptValue) → Begins (fate_read armed)
  begins-fate armed = begins-first (fate_read armed) (λ k is. same_number 0 k is) (record { more = codes "old" ∷ []; value = armed Old; reads = refl; solid = (refl, tt); short = omega arith }) (λ w.
      after-if (bytes_eq w (codes "old")) (λ ws. later (ends (armed Old) ws)) _ (λ _. after-later (ends (armed Old)) (begins-ends (armed Old))) (λ _.
      after-if (bytes_eq w (codes "new")) (λ ws. later (ends (armed New) ws)) _ (λ _. after-later (ends (armed New)) (begins-ends (armed New))) (λ _.
      after-if (bytes_eq w (codes "torn")) (λ ws. later (a_word (number_in 1 4095) (λ bytes. ends (armed (Torn bytes))) ws)) (λ ws. Wrong 0)
      (λ _. after-later (a_word (number_in 1 4095) (λ bytes. ends (armed (Torn bytes)))) (begins-word (number_in 1 4095) (λ bytes. ends (armed (Torn bytes))) 0 (codes "1") 1 (one_in 4095 (omega arith) (omega arith)) refl (nothing_more 0 (ends (armed (Torn 1))) (armed (Torn 1)) refl) (omega arith) (λ bytes. begins-ends (armed (Torn bytes)))))
      (λ _. after-wrong))))

  begins-armed : (node : ℕ) → Begins (armed_line s node)
  begins-armed node =
      begins-word (number_in 1 (2 ^ 64 - 1)) (λ write. fate_read (with_armed s node write)) 4 (codes "1") 1 (one_in (2 ^ 64 - 1) (omega arith) (omega arith)) refl
      (record { more = codes "old" ∷ []; value = with_armed s node 1 Old; reads = refl; solid = (refl, tt); short = omega arith }) (omega arith) (λ write. begins-fate (with_armed s node write))

  begins-after : (node : ℕ) → Begins (after_node s node)
  begins-after node = begins-first (after_node s node) (λ k is. cc) (nothing_more 16 (after_node s node) (with_line s (line.Crash (2 ^ node))) refl) (λ w.
      after-if (bytes_eq w (codes "at") && may_arm s node) (λ ws. later (armed_line s node ws)) (λ ws. Wrong 0) (λ _. after-later (armed_line s node) (begins-armed node)) (λ _. after-wrong))

  begins-crash : Begins (crash_line s)
  begins-crash = begins-first (crash_line s) (λ k is. same_number 0 k is)
      (record { more = codes "all" ∷ []; value = with_line s (line.Crash (2 ^ (s.nodes + 1) - 2)); reads = refl; solid = (refl, tt); short = omega arith }) (λ w.
      after-if (bytes_eq w (codes "all")) (λ ws. later (ends (with_line s (line.Crash (2 ^ (s.nodes + 1) - 2))) ws)) (λ ws. a_word (number_in 1 s.nodes) (after_node s) (w ∷ ws))
      (λ _. after-later (ends (with_line s (line.Crash (2 ^ (s.nodes + 1) - 2)))) (begins-ends (with_line s (line.Crash (2 ^ (s.nodes + 1) - 2)))))
      (λ _. after-word (number_in 1 s.nodes) (after_node s) begins-after w))

  module _ (some : 1 ≤ s.nodes) (few : s.nodes ≤ 8) (fresh : length s.clients < client_limit → FreshName s) where
    one_node : number_in 1 s.nodes (codes "1") ≡ Some 1
    one_node = one_in s.nodes some (omega (arith, few))

    begins-node : (put : ℕ → ScriptValue) → Begins (a_word (number_in 1 s.nodes) (λ node. ends (put node)))
    begins-node put = begins-word (number_in 1 s.nodes) (λ node. ends (put node)) 0 (codes "1") 1 one_node refl (nothing_more 0 (ends (put 1)) (put 1) refl) (omega arith) (λ node. begins-ends (put node))

    can-node : (put : ℕ → ScriptValue) → Completion 2 (a_word (number_in 1 s.nodes) (λ node. ends (put node))) []
    can-node put = can-word (number_in 1 s.nodes) (λ node. ends (put node)) 2 0 (codes "1") 1 one_node refl (nothing_more 0 (ends (put 1)) (put 1) refl) (omega arith)

    begins-client : FreshName s → Begins (client_line s)
    begins-client f =
        let put : List ℕ → ℕ → ScriptValue = λ name node. record s { clients = s.clients ++ record { name = name; node = node } ∷ [] } in
        begins-word (new_client s.clients) (λ name. a_word (the_word (codes "on")) (λ _. a_word (number_in 1 s.nodes) (λ node. ends (put name node)))) 5 f.name f.name f.new f.solid
        (can-word (the_word (codes "on")) (λ _. a_word (number_in 1 s.nodes) (λ node. ends (put f.name node))) 5 2 (codes "on") (codes "on") refl refl (can-node (put f.name)) (omega arith)) (omega (arith, f.short)) (λ name.
        begins-word (the_word (codes "on")) (λ _. a_word (number_in 1 s.nodes) (λ node. ends (put name node))) 2 (codes "on") (codes "on") refl refl (can-node (put name)) (omega arith) (λ _. begins-node (put name)))

    after-later_line : (w : List ℕ) → BeginsAfter (later_line s w)
    after-later_line w =
        after-if (bytes_eq w (codes "client") && may_have_client s) (λ ws. later (client_line s ws)) _ (λ e.
        let may = (and_parts (bytes_eq w (codes "client")) (may_have_client s) e).1 in
        let room = (and_parts ((length s.armed == 0) && (length s.lines == 0)) (nat_lt (length s.clients) client_limit) may).1 in
        let less : length s.clients < client_limit = grind (arith, nat_tests) in
        after-later (client_line s) (begins-client (fresh less))) (λ _.
        after-if (length s.clients == 0) (λ ws. Wrong 0) _ (λ _. after-wrong) (λ _.
        after-if (bytes_eq w (codes "crash")) (λ ws. later (crash_line s ws)) _ (λ _. after-later (crash_line s) begins-crash) (λ _.
        after-if (bytes_eq w (codes "wait")) (λ ws. later (ends (with_line s line.Wait) ws)) _ (λ _. after-later (ends (with_line s line.Wait)) (begins-ends (with_line s line.Wait))) (λ _.
        after-if (bytes_eq w (codes "join")) (λ ws. later (a_word (number_in 1 s.nodes) (λ node. ends (with_line s (line.Join node))) ws)) (λ ws. call_line s (w ∷ ws))
        (λ _. after-later (a_word (number_in 1 s.nodes) (λ node. ends (with_line s (line.Join node)))) (begins-node (λ node. with_line s (line.Join node))))
        (λ _. after-word (client_before_colon s.clients) (λ client rest. called s client (call_read rest)) (λ client. begins-called client call_read begins-call) w)))))

    pub begins-later : (w : List ℕ) → BeginsAfter (λ ws. line_read s (w ∷ ws))
    begins-later w ws j is =
        let has : (s.nodes == 0) ≡ false = grind (arith, nat_tests) in
        let at : later_line s w ws ≡ Wrong (suc j) = rw has at is in
        let both = after-later_line w ws j at in
        let c = both.1 in
        (both.0, record { more = c.more; value = c.value; reads = rw has c.reads; solid = c.solid; short = c.short })

  -- the first line
  after-nodes : (w : List ℕ) → BeginsAfter (λ ws. nodes_line s (w ∷ ws))
  after-nodes = after-word (the_word (codes "nodes")) (λ _. a_word (number_in 1 8) (λ n. ends (record s { nodes = n }))) (λ _.
      begins-word (number_in 1 8) (λ n. ends (record s { nodes = n })) 0 (codes "1") 1 (one_in 8 (omega arith) (omega arith)) refl (nothing_more 0 (ends (record s { nodes = 1 })) (record s { nodes = 1 }) refl) (omega arith) (λ n. begins-ends (record s { nodes = n })))

  pub begins-nodes : s.nodes ≡ 0 → (w : List ℕ) → BeginsAfter (λ ws. line_read s (w ∷ ws))
  begins-nodes none w ws j is =
      let no : (s.nodes == 0) ≡ true = grind (arith, nat_tests) in
      let at : nodes_line s (w ∷ ws) ≡ Wrong (suc j) = rw no at is in
      let both = after-nodes w ws j at in
      let c = both.1 in
      (both.0, record { more = c.more; value = c.value; reads = rw no c.reads; solid = c.solid; short = c.short })
