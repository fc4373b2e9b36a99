-- Paths, bytes and calls that words are read as.
use Rattle.std.proofs.Common.{◌≡◌, ℕ, zero, suc, ◌+◌, ◌<◌, ◌==◌, Bool, true, false, ◌&&◌, if◌then◌else◌, List, [], ◌∷◌, length, Option, Some, None, Result, Ok, Err, refl, sym, ap, ◌∙◌, subst, arith}
use Rattle.std.specs.Prelude.{codes, nat_le, slice_index, replicate}
use Rattle.std.specs.List.{AllByRecursion, slice_split}
use Rattle.std.specs.Str.{bytes_eq}
use Rattle.hex.specs.Hex.{decode_of, encode_lower}
use Rattle.hex.specs.declared.error.FromHexError.{FromHexError}
use Rattle.hex.proofs.HexLemmas.{decode_of-ok}
use Rattle.number_words.specs.Numbers.{number_in}
use Rattle.file_tree.specs.PathFaults.{IsBytes}
use Rattle.file_tree.specs.PathText.{PathRead, Reads, Faulty, path_read, names_read}
use Rattle.file_tree.specs.declared.call.Call.{Call}
use Rattle.file_tree.specs.declared.call.Call.TheVariants as calls
use Rattle.file_tree.proofs.Parsing.{Elsewhere, Root, Names, opening_of, path_read-spelled}
use Rattle.file_tree.proofs.Readings.{if_short-reads, reads_spelled}
use Rattle.file_tree.proofs.Spelled.{begins_none}
use Rattle.script_lang.specs.Words.{LineRead, later, ends, a_word, path_of, path_in, bytes_of, hex_in, filled, within_transfer, transfer_limit, content_from, content_in}
use Rattle.script_lang.specs.Grammar.{offset_limit, count_limit, on_path, on_range, on_content, on_size, on_paths, call_after, call_read}
use Rattle.script_lang.proofs.GotLaws.{AllGot, got-wrong, got-ends, got-later, got-if, got-a_word}
use Rattle.script_laws.specs.Printing.{IsBytePath, IsCall}

-- ---- paths

byte_names : (w : List ℕ) (p : List (List ℕ)) → path_read w ≡ Reads p → AllByRecursion IsBytes p
byte_names w p is = elim (opening_of w) [
  | Elsewhere other none ↦ absurd (cc (sym none ∙ is))
  | Root root ↦
      let same : [] ≡ p = cc (subst (λ (t : List ℕ). path_read t ≡ Reads p) root is) in
      subst (AllByRecursion IsBytes) same tt
  | Names rest text other read ↦
      let names = if_short-reads (names_read 1 [] 1 rest) p (sym read ∙ is) in
      (reads_spelled (length rest + 1) 1 [] 1 rest p (omega arith) begins_none names.0).0.bytes
]

pub path-got : (w : List ℕ) (p : List (List ℕ)) → path_in w ≡ Some p → IsBytePath p
path-got w p is = by_read (path_read w) refl is
  where
    by_read : (r : PathRead) → path_read w ≡ r → path_of r ≡ Some p → IsBytePath p
    by_read (Faulty fault) r_is e = cc
    by_read (Reads q) r_is e =
        let same : q ≡ p = cc in
        let reads : path_read w ≡ Reads p = r_is ∙ ap Reads same in
        ((path_read-spelled w p reads).0, byte_names w p reads)

-- ---- content

bytes_all : (bytes : List ℕ) → ((i : ℕ) → slice_index bytes i < 256) → IsBytes bytes
bytes_all [] are = tt
bytes_all (b ∷ bs) are = (are 0, bytes_all bs (λ i. are (suc i)))

hex-got : (w bytes : List ℕ) → hex_in w ≡ Some bytes → IsBytes bytes
hex-got w bytes is = by_read (decode_of w) refl is
  where
    by_test : (bs : List ℕ) (t : Bool) → decode_of w ≡ Ok bs → (if t then Some bs else None) ≡ Some bytes → IsBytes bytes
    by_test bs true d e = let same : bs ≡ bytes = cc in bytes_all bytes (decode_of-ok w bytes (d ∙ ap Ok same)).3
    by_test bs false d e = cc

    by_read : (r : Result (List ℕ) FromHexError) → decode_of w ≡ r → bytes_of {E = FromHexError} w r ≡ Some bytes → IsBytes bytes
    by_read (Err f) d e = cc
    by_read (Ok bs) d e = by_test bs (bytes_eq w (encode_lower bs)) d e

within-got : (o : Option (List ℕ)) (bytes : List ℕ) → within_transfer o ≡ Some bytes → o ≡ Some bytes
within-got None bytes is = cc
within-got (Some b) bytes is = by_test (nat_le 1 (length b) && nat_le (length b) transfer_limit) is
  where
    by_test : (t : Bool) → (if t then Some b else None) ≡ Some bytes → Some b ≡ Some bytes
    by_test true e = e
    by_test false e = cc

all_filled : (n b : ℕ) → b < 256 → IsBytes (replicate n b)
all_filled zero b small = tt
all_filled (suc n) b small = (small, all_filled n b small)

filled-got : (byte : List ℕ) (count : Option ℕ) (bytes : List ℕ) → filled (hex_in byte) count ≡ Some bytes → IsBytes bytes
filled-got byte count bytes is = by_parts (hex_in byte) count refl is
  where
    by_parts : (h : Option (List ℕ)) (n : Option ℕ) → hex_in byte ≡ h → filled h n ≡ Some bytes → IsBytes bytes
    by_parts None n h_is e = cc
    by_parts (Some []) n h_is e = cc
    by_parts (Some (b ∷ c ∷ cs)) n h_is e = cc
    by_parts (Some (b ∷ [])) None h_is e = cc
    by_parts (Some (b ∷ [])) (Some n) h_is e =
        let small = (hex-got byte (b ∷ []) h_is).0 in
        let same : replicate n b ≡ bytes = cc in subst IsBytes same (all_filled n b small)

pub content-got : (w bytes : List ℕ) → content_in w ≡ Some bytes → IsBytes bytes
content-got w bytes is = by_parts (slice_split (λ b. b == 58) w) is
  where
    whole : within_transfer (hex_in w) ≡ Some bytes → IsBytes bytes
    whole e = hex-got w bytes (within-got (hex_in w) bytes e)

    by_fill : (fill : Bool) (byte count : List ℕ) → (if fill then filled (hex_in byte) (number_in 1 transfer_limit count) else None) ≡ Some bytes → IsBytes bytes
    by_fill true byte count e = filled-got byte (number_in 1 transfer_limit count) bytes e
    by_fill false byte count e = cc

    by_parts : (parts : List (List ℕ)) → content_from w parts ≡ Some bytes → IsBytes bytes
    by_parts [] e = whole e
    by_parts (a ∷ []) e = whole e
    by_parts (a ∷ b ∷ []) e = whole e
    by_parts (a ∷ b ∷ c ∷ []) e = by_fill (bytes_eq a (codes "fill")) b c e
    by_parts (a ∷ b ∷ c ∷ d ∷ ds) e = whole e

-- ---- calls

path_call : (call : List (List ℕ) → Call) (ws : List (List ℕ)) → ((p : List (List ℕ)) → IsBytePath p → IsCall (call p)) → AllGot IsCall (on_path call ws)
path_call call ws ok = got-a_word IsCall path_in (λ p. ends (call p)) ws (λ w p more is. got-ends IsCall (call p) more (ok p (path-got w p is)))

range_call : (call : List (List ℕ) → ℕ → ℕ → Call) (ws : List (List ℕ)) → ((p : List (List ℕ)) (at count : ℕ) → IsBytePath p → IsCall (call p at count)) → AllGot IsCall (on_range call ws)
range_call call ws ok =
    got-a_word IsCall path_in (λ p. a_word (number_in 0 offset_limit) (λ at. a_word (number_in 0 count_limit) (λ count. ends (call p at count)))) ws (λ w p ws' is_p.
    got-a_word IsCall (number_in 0 offset_limit) (λ at. a_word (number_in 0 count_limit) (λ count. ends (call p at count))) ws' (λ w' at ws'' is_at.
    got-a_word IsCall (number_in 0 count_limit) (λ count. ends (call p at count)) ws'' (λ w'' count more is_count. got-ends IsCall (call p at count) more (ok p at count (path-got w p is_p)))))

content_call : (ws : List (List ℕ)) → AllGot IsCall (on_content ws)
content_call ws =
    got-a_word IsCall path_in (λ p. a_word (number_in 0 offset_limit) (λ at. a_word content_in (λ content. ends (calls.Write p at content)))) ws (λ w p ws' is_p.
    got-a_word IsCall (number_in 0 offset_limit) (λ at. a_word content_in (λ content. ends (calls.Write p at content))) ws' (λ w' at ws'' is_at.
    got-a_word IsCall content_in (λ content. ends (calls.Write p at content)) ws'' (λ w'' content more is_content.
    got-ends IsCall (calls.Write p at content) more (path-got w p is_p, content-got w'' content is_content))))

size_call : (ws : List (List ℕ)) → AllGot IsCall (on_size ws)
size_call ws =
    got-a_word IsCall path_in (λ p. a_word (number_in 0 offset_limit) (λ size. ends (calls.Truncate p size))) ws (λ w p ws' is_p.
    got-a_word IsCall (number_in 0 offset_limit) (λ size. ends (calls.Truncate p size)) ws' (λ w' size more is_size. got-ends IsCall (calls.Truncate p size) more (path-got w p is_p)))

paths_call : (ws : List (List ℕ)) → AllGot IsCall (on_paths ws)
paths_call ws =
    got-a_word IsCall path_in (λ p. a_word path_in (λ q. ends (calls.Rename p q))) ws (λ w p ws' is_p.
    got-a_word IsCall path_in (λ q. ends (calls.Rename p q)) ws' (λ w' q more is_q. got-ends IsCall (calls.Rename p q) more (path-got w p is_p, path-got w' q is_q)))

module _ (verb : List ℕ) (ws : List (List ℕ)) where
  choose : (b : Bool) (x y : LineRead Call) → AllGot IsCall x → AllGot IsCall y → AllGot IsCall (if b then later x else y)
  choose b x y first rest = got-if IsCall b (later x) y (λ e. got-later IsCall x first) (λ e. rest)

  call-after-got : AllGot IsCall (call_after verb ws)
  call-after-got =
      choose (bytes_eq verb (codes "create")) _ _ (path_call calls.Create ws (λ p is. is))
      (choose (bytes_eq verb (codes "mkdir")) _ _ (path_call calls.Mkdir ws (λ p is. is))
      (choose (bytes_eq verb (codes "unlink")) _ _ (path_call calls.Unlink ws (λ p is. is))
      (choose (bytes_eq verb (codes "rmdir")) _ _ (path_call calls.Rmdir ws (λ p is. is))
      (choose (bytes_eq verb (codes "read")) _ _ (range_call calls.Read ws (λ p at count is. is))
      (choose (bytes_eq verb (codes "dread")) _ _ (range_call calls.Dread ws (λ p at count is. is))
      (choose (bytes_eq verb (codes "write")) _ _ (content_call ws)
      (choose (bytes_eq verb (codes "truncate")) _ _ (size_call ws)
      (choose (bytes_eq verb (codes "stat")) _ _ (path_call calls.Stat ws (λ p is. is))
      (choose (bytes_eq verb (codes "list")) _ _ (path_call calls.List ws (λ p is. is))
      (choose (bytes_eq verb (codes "rename")) _ _ (paths_call ws)
      (choose (bytes_eq verb (codes "sync")) _ _ (got-ends IsCall calls.Sync ws tt) (got-wrong IsCall 0))))))))))))

pub call-got : (ws : List (List ℕ)) → AllGot IsCall (call_read ws)
call-got [] = got-wrong IsCall 0
call-got (verb ∷ ws) = call-after-got verb ws
