-- A printed call is read back.
use Rattle.std.proofs.Common.{◌≡◌, ℕ, ◌^◌, ◌<◌, ◌≤◌, List, [], ◌∷◌, ◌++◌, refl, ap, ◌∙◌, arith}
use Rattle.std.specs.Prelude.{codes}
use Rattle.std.specs.Fmt.{decimal}
use Rattle.hex.specs.Hex.{encode_lower}
use Rattle.number_words.specs.Numbers.{number_in}
use Rattle.file_tree.specs.CallText.{call_text}
use Rattle.file_tree.specs.PathText.{path_text}
use Rattle.file_tree.specs.declared.call.Call.{Call}
use Rattle.file_tree.specs.declared.call.Call.TheVariants as calls
use Rattle.script_lang.specs.Words.{words_in, path_in, content_in, Got, later, ends, a_word}
use Rattle.script_lang.specs.Grammar.{offset_limit, count_limit, on_path, on_range, on_content, on_size, on_paths, call_read}
use Rattle.script_lang.specs.WellFormed.{IsAllowedCall}
use Rattle.script_laws.specs.Printing.{IsBytePath, IsCall}
use Rattle.script_laws.proofs.Inks.{InLine, ink-decimal, ink-lower, ink-path, line-word}
use Rattle.script_laws.proofs.WordsBack.{words-push, number-back, path-back, content-back, got-word}

-- ---- arguments

path_words : (call : List (List ℕ) → Call) (p : List (List ℕ)) → IsBytePath p → on_path call (path_text p ∷ []) ≡ Got (call p)
path_words call p is = got-word path_in (λ q. ends (call q)) (path_text p) [] p (call p) (path-back p is) refl

range_words : (call : List (List ℕ) → ℕ → ℕ → Call) (p : List (List ℕ)) (at count : ℕ) → IsBytePath p → at ≤ offset_limit → count ≤ count_limit
    → on_range call (path_text p ∷ decimal at ∷ decimal count ∷ []) ≡ Got (call p at count)
range_words call p at count is offset few =
    got-word path_in (λ q. a_word (number_in 0 offset_limit) (λ at'. a_word (number_in 0 count_limit) (λ count'. ends (call q at' count')))) (path_text p) (decimal at ∷ decimal count ∷ []) p (call p at count) (path-back p is)
    (got-word (number_in 0 offset_limit) (λ at'. a_word (number_in 0 count_limit) (λ count'. ends (call p at' count'))) (decimal at) (decimal count ∷ []) at (call p at count) (number-back 0 offset_limit at (omega arith) (omega arith) offset)
    (got-word (number_in 0 count_limit) (λ count'. ends (call p at count')) (decimal count) [] count (call p at count) (number-back 0 count_limit count (omega arith) (omega arith) few) refl))

write_words : (p : List (List ℕ)) (at : ℕ) (content : List ℕ) → IsCall (calls.Write p at content) → IsAllowedCall (calls.Write p at content)
    → on_content (path_text p ∷ decimal at ∷ encode_lower content ∷ []) ≡ Got (calls.Write p at content)
write_words p at content is allowed =
    got-word path_in (λ q. a_word (number_in 0 offset_limit) (λ at'. a_word content_in (λ c. ends (calls.Write q at' c)))) (path_text p) (decimal at ∷ encode_lower content ∷ []) p (calls.Write p at content) (path-back p is.0)
    (got-word (number_in 0 offset_limit) (λ at'. a_word content_in (λ c. ends (calls.Write p at' c))) (decimal at) (encode_lower content ∷ []) at (calls.Write p at content) (number-back 0 offset_limit at (omega arith) (omega arith) allowed.0)
    (got-word content_in (λ c. ends (calls.Write p at c)) (encode_lower content) [] content (calls.Write p at content) (content-back content is.1 allowed.1 allowed.2) refl))

size_words : (p : List (List ℕ)) (size : ℕ) → IsBytePath p → size ≤ offset_limit → on_size (path_text p ∷ decimal size ∷ []) ≡ Got (calls.Truncate p size)
size_words p size is fits =
    got-word path_in (λ q. a_word (number_in 0 offset_limit) (λ size'. ends (calls.Truncate q size'))) (path_text p) (decimal size ∷ []) p (calls.Truncate p size) (path-back p is)
    (got-word (number_in 0 offset_limit) (λ size'. ends (calls.Truncate p size')) (decimal size) [] size (calls.Truncate p size) (number-back 0 offset_limit size (omega arith) (omega arith) fits) refl)

paths_words : (p q : List (List ℕ)) → IsBytePath p → IsBytePath q → on_paths (path_text p ∷ path_text q ∷ []) ≡ Got (calls.Rename p q)
paths_words p q is_p is_q =
    got-word path_in (λ p'. a_word path_in (λ q'. ends (calls.Rename p' q'))) (path_text p) (path_text q ∷ []) p (calls.Rename p q) (path-back p is_p)
    (got-word path_in (λ q'. ends (calls.Rename p q')) (path_text q) [] q (calls.Rename p q) (path-back q is_q) refl)

-- ---- the words of a call

module _ (verb : List ℕ) (one : words_in verb ≡ verb ∷ []) where
  one_path : (p : List (List ℕ)) → IsBytePath p → words_in (verb ++ 32 ∷ path_text p) ≡ verb ∷ path_text p ∷ []
  one_path p is = words-push verb (path_text p) (verb ∷ []) (ink-path p is.1) one

  path_and_number : (p : List (List ℕ)) (n : ℕ) → IsBytePath p → n < 2 ^ 64 → words_in (verb ++ 32 ∷ path_text p ++ 32 ∷ decimal n) ≡ verb ∷ path_text p ∷ decimal n ∷ []
  path_and_number p n is small = words-push (verb ++ 32 ∷ path_text p) (decimal n) (verb ∷ path_text p ∷ []) (ink-decimal n small) (one_path p is)

  path_and_range : (p : List (List ℕ)) (at count : ℕ) → IsBytePath p → at ≤ offset_limit → count ≤ count_limit
      → words_in (verb ++ 32 ∷ path_text p ++ 32 ∷ decimal at ++ 32 ∷ decimal count) ≡ verb ∷ path_text p ∷ decimal at ∷ decimal count ∷ []
  path_and_range p at count is offset few =
      words-push (verb ++ 32 ∷ path_text p ++ 32 ∷ decimal at) (decimal count) (verb ∷ path_text p ∷ decimal at ∷ []) (ink-decimal count (omega (arith, few))) (path_and_number p at is (omega (arith, offset)))

pub call-back : (call : Call) → IsCall call → IsAllowedCall call → call_read (words_in (call_text call)) ≡ Got call
call-back (calls.Create p) is allowed = ap call_read (one_path (codes "create") refl p is) ∙ ap later (path_words calls.Create p is)
call-back (calls.Mkdir p) is allowed = ap call_read (one_path (codes "mkdir") refl p is) ∙ ap later (path_words calls.Mkdir p is)
call-back (calls.Unlink p) is allowed = ap call_read (one_path (codes "unlink") refl p is) ∙ ap later (path_words calls.Unlink p is)
call-back (calls.Rmdir p) is allowed = ap call_read (one_path (codes "rmdir") refl p is) ∙ ap later (path_words calls.Rmdir p is)
call-back (calls.Read p at count) is allowed = ap call_read (path_and_range (codes "read") refl p at count is allowed.0 allowed.1) ∙ ap later (range_words calls.Read p at count is allowed.0 allowed.1)
call-back (calls.Dread p at count) is allowed = ap call_read (path_and_range (codes "dread") refl p at count is allowed.0 allowed.1) ∙ ap later (range_words calls.Dread p at count is allowed.0 allowed.1)
call-back (calls.Write p at content) is allowed =
    let front = path_and_number (codes "write") refl p at is.0 (omega (arith, allowed.0)) in
    let words = words-push (codes "write" ++ 32 ∷ path_text p ++ 32 ∷ decimal at) (encode_lower content) (codes "write" ∷ path_text p ∷ decimal at ∷ []) (ink-lower content is.1) front in
    ap call_read words ∙ ap later (write_words p at content is allowed)
call-back (calls.Truncate p size) is allowed = ap call_read (path_and_number (codes "truncate") refl p size is (omega (arith, allowed))) ∙ ap later (size_words p size is allowed)
call-back (calls.Stat p) is allowed = ap call_read (one_path (codes "stat") refl p is) ∙ ap later (path_words calls.Stat p is)
call-back (calls.List p) is allowed = ap call_read (one_path (codes "list") refl p is) ∙ ap later (path_words calls.List p is)
call-back (calls.Rename p q) is allowed =
    let words = words-push (codes "rename" ++ 32 ∷ path_text p) (path_text q) (codes "rename" ∷ path_text p ∷ []) (ink-path q is.1.1) (one_path (codes "rename") refl p is.0) in
    ap call_read words ∙ ap later (paths_words p q is.0 is.1)
call-back calls.Sync is allowed = refl

-- ---- a call stands in one line

line_path : (verb : List ℕ) (p : List (List ℕ)) → InLine verb → IsBytePath p → InLine (verb ++ 32 ∷ path_text p)
line_path verb p one is = line-word verb (path_text p) one (ink-path p is.1)

line_number : (l : List ℕ) (n : ℕ) → InLine l → n < 2 ^ 64 → InLine (l ++ 32 ∷ decimal n)
line_number l n one small = line-word l (decimal n) one (ink-decimal n small)

line_range : (verb : List ℕ) (p : List (List ℕ)) (at count : ℕ) → InLine verb → IsBytePath p → at ≤ offset_limit → count ≤ count_limit → InLine (verb ++ 32 ∷ path_text p ++ 32 ∷ decimal at ++ 32 ∷ decimal count)
line_range verb p at count one is offset few =
    line_number (verb ++ 32 ∷ path_text p ++ 32 ∷ decimal at) count (line_number (verb ++ 32 ∷ path_text p) at (line_path verb p one is) (omega (arith, offset))) (omega (arith, few))

pub line-call : (call : Call) → IsCall call → IsAllowedCall call → InLine (call_text call)
line-call (calls.Create p) is allowed = line_path (codes "create") p refl is
line-call (calls.Mkdir p) is allowed = line_path (codes "mkdir") p refl is
line-call (calls.Unlink p) is allowed = line_path (codes "unlink") p refl is
line-call (calls.Rmdir p) is allowed = line_path (codes "rmdir") p refl is
line-call (calls.Read p at count) is allowed = line_range (codes "read") p at count refl is allowed.0 allowed.1
line-call (calls.Dread p at count) is allowed = line_range (codes "dread") p at count refl is allowed.0 allowed.1
line-call (calls.Write p at content) is allowed =
    line-word (codes "write" ++ 32 ∷ path_text p ++ 32 ∷ decimal at) (encode_lower content) (line_number (codes "write" ++ 32 ∷ path_text p) at (line_path (codes "write") p refl is.0) (omega (arith, allowed.0))) (ink-lower content is.1)
line-call (calls.Truncate p size) is allowed = line_number (codes "truncate" ++ 32 ∷ path_text p) size (line_path (codes "truncate") p refl is) (omega (arith, allowed))
line-call (calls.Stat p) is allowed = line_path (codes "stat") p refl is
line-call (calls.List p) is allowed = line_path (codes "list") p refl is
line-call (calls.Rename p q) is allowed = line-word (codes "rename" ++ 32 ∷ path_text p) (path_text q) (line_path (codes "rename") p refl is.0) (ink-path q is.1.1)
line-call calls.Sync is allowed = refl
