-- Words and lines that are printed are found again, and each word is read as what it was printed from.
use Rattle.std.proofs.Common.{◌≡◌, ℕ, zero, suc, ◌^◌, ◌<◌, ◌≤◌, ◌==◌, Bool, true, false, not, List, [], ◌∷◌, ◌++◌, length, Option, Some, Ok, refl, sym, ap, ◌∙◌, arith, append_assoc}
use Rattle.std.specs.Prelude.{codes, nat_le, slice_index}
use Rattle.std.specs.List.{AllByRecursion, list_all, flat_map, slice_split, onto_first}
use Rattle.std.specs.Str.{bytes_eq}
use Rattle.std.specs.Fmt.{decimal}
use Rattle.std.proofs.lemmas.Bool.{and_parts, not-true}
use Rattle.std.proofs.lemmas.Bool.Decides.{nat_tests}
use Rattle.std.proofs.lemmas.Slice.Eq.{bytes_eq-Decides}
use Rattle.hex.specs.Hex.{encode_lower, decode_of}
use Rattle.hex.specs.declared.error.FromHexError.{FromHexError}
use Rattle.hex.proofs.HexLemmas.{decode_of-encode_lower}
use Rattle.number_words.specs.Numbers.{number_in}
use Rattle.number_words.proofs.Decimals.{number_within}
use Rattle.file_tree.specs.PathFaults.{IsBytes}
use Rattle.file_tree.specs.PathText.{path_text}
use Rattle.file_tree.proofs.Parsing.{path_read-again}
use Rattle.script_lang.specs.Words.{lines_in, words_in, path_of, path_in, bytes_of, hex_in, within_transfer, transfer_limit, filled, content_from, content_in, LineRead, Got, a_word}
use Rattle.script_laws.specs.Fills.{FillsBytes}
use Rattle.script_laws.specs.Printing.{IsBytePath}
use Rattle.script_laws.proofs.Inks.{is_ink, in_line, Ink, InLine, no_colon-lower, no_colon-decimal}

-- ---- the words of a line

no_space : (b : ℕ) → is_ink b ≡ true → (b == 32) ≡ false
no_space b is = grind (arith, nat_tests)

no_newline : (b : ℕ) → in_line b ≡ true → (b == 10) ≡ false
no_newline b is = grind (arith, nat_tests)

-- the parts of a text between separators
module _ (separator : ℕ) where
  abbrev parts_in : List ℕ → List (List ℕ)
  parts_in l = slice_split (λ b. b == separator) l

  abbrev HasParts : List ℕ → Type 0
  HasParts l = (w : List ℕ) × ((ws : List (List ℕ)) × (parts_in l ≡ w ∷ ws))

  some_parts : (l : List ℕ) → HasParts l
  some_parts [] = ([], ([], refl))
  some_parts (b ∷ bs) = by_test (b == separator) refl (some_parts bs)
    where
      by_test : (t : Bool) → (b == separator) ≡ t → HasParts bs → HasParts (b ∷ bs)
      by_test true e more = ([], (parts_in bs, rw e refl))
      by_test false e more = (b ∷ more.0, (more.1.0, rw e (ap (onto_first b) more.1.1)))

  parts-parts : (l r : List ℕ) → parts_in (l ++ separator ∷ r) ≡ parts_in l ++ parts_in r
  parts-parts [] r = let same : (separator == separator) ≡ true = grind (arith, nat_tests) in rw same refl
  parts-parts (b ∷ bs) r = by_test (b == separator) refl (parts-parts bs r) (some_parts bs)
    where
      by_test : (t : Bool) → (b == separator) ≡ t → parts_in (bs ++ separator ∷ r) ≡ parts_in bs ++ parts_in r → HasParts bs → parts_in (b ∷ bs ++ separator ∷ r) ≡ parts_in (b ∷ bs) ++ parts_in r
      by_test true e more some = rw e (ap (λ (ws : List (List ℕ)). [] ∷ ws) more)
      by_test false e more some = rw e (ap (onto_first b) (more ∙ ap (λ (ws : List (List ℕ)). ws ++ parts_in r) some.1.1) ∙ ap (λ (ws : List (List ℕ)). onto_first b ws ++ parts_in r) (sym some.1.1))

pub some_words : (l : List ℕ) → (w : List ℕ) × ((ws : List (List ℕ)) × (words_in l ≡ w ∷ ws))
some_words l = some_parts 32 l

-- a space parts the words
pub words-parts : (l r : List ℕ) → words_in (l ++ 32 ∷ r) ≡ words_in l ++ words_in r
words-parts l r = parts-parts 32 l r

pub words-last : (w : List ℕ) → Ink w → words_in w ≡ w ∷ []
words-last [] ink = refl
words-last (b ∷ bs) ink =
    let parts = and_parts (is_ink b) (list_all is_ink bs) ink in
    rw (no_space b parts.0) (ap (onto_first b) (words-last bs parts.1))

-- one more word behind these
pub words-push : (l w : List ℕ) (ws : List (List ℕ)) → Ink w → words_in l ≡ ws → words_in (l ++ 32 ∷ w) ≡ ws ++ w ∷ []
words-push l w ws ink is = words-parts l w ∙ (λ i. is i ++ words-last w ink i)

-- ---- the lines of a text

lines-more : (l rest : List ℕ) → InLine l → lines_in (l ++ 10 ∷ rest) ≡ l ∷ lines_in rest
lines-more [] rest all = refl
lines-more (b ∷ bs) rest all =
    let parts = and_parts (in_line b) (list_all in_line bs) all in
    rw (no_newline b parts.0) (ap (onto_first b) (lines-more bs rest parts.1))

pub lines-back : (ls : List (List ℕ)) → AllByRecursion InLine ls → lines_in (flat_map (λ l. l ++ codes "\n") ls) ≡ ls
lines-back [] all = refl
lines-back (l ∷ ls) all =
    ap lines_in (append_assoc l (10 ∷ []) (flat_map (λ l. l ++ codes "\n") ls)) ∙ lines-more l (flat_map (λ l. l ++ codes "\n") ls) all.0 ∙ ap (λ (more : List (List ℕ)). l ∷ more) (lines-back ls all.1)

-- ---- what a word is read as

pub number-back : (low high n : ℕ) → high < 2 ^ 64 → low ≤ n → n ≤ high → number_in low high (decimal n) ≡ Some n
number-back low high n small above below = sym (number_within low high (decimal n) small n (omega (arith, small, below)) refl above below)

pub path-back : (path : List (List ℕ)) → IsBytePath path → path_in (path_text path) ≡ Some path
path-back path is = ap path_of (path_read-again path is.0 is.1)

bytes_at : (bytes : List ℕ) → IsBytes bytes → (i : ℕ) → slice_index bytes i < 256
bytes_at [] are i = omega arith
bytes_at (b ∷ bs) are zero = are.0
bytes_at (b ∷ bs) are (suc i) = bytes_at bs are.1 i

hex-back : (bytes : List ℕ) → IsBytes bytes → hex_in (encode_lower bytes) ≡ Some bytes
hex-back bytes are =
    let same : bytes_eq (encode_lower bytes) (encode_lower bytes) ≡ true = (bytes_eq-Decides (encode_lower bytes) (encode_lower bytes)).1 refl in
    let read : bytes_of {E = FromHexError} (encode_lower bytes) (decode_of (encode_lower bytes)) ≡ bytes_of {E = FromHexError} (encode_lower bytes) (Ok bytes) =
    ap (bytes_of {E = FromHexError} (encode_lower bytes)) (decode_of-encode_lower bytes (bytes_at bytes are)) in
    let value : bytes_of {E = FromHexError} (encode_lower bytes) (Ok bytes) ≡ Some bytes = rw same refl in
    read ∙ value

one_part : (w : List ℕ) → list_all (λ b. not (b == 58)) w ≡ true → slice_split (λ b. b == 58) w ≡ w ∷ []
one_part [] all = refl
one_part (b ∷ bs) all =
    let parts = and_parts (not (b == 58)) (list_all (λ b. not (b == 58)) bs) all in
    let other : (b == 58) ≡ false = not-true (b == 58) parts.0 in
    rw other (ap (onto_first b) (one_part bs parts.1))

pub content-back : (bytes : List ℕ) → IsBytes bytes → 1 ≤ length bytes → length bytes ≤ transfer_limit → content_in (encode_lower bytes) ≡ Some bytes
content-back bytes are some few =
    let above : nat_le 1 (length bytes) ≡ true = grind (arith, nat_tests) in
    let below : nat_le (length bytes) transfer_limit ≡ true = grind (arith, nat_tests) in
    let fits : within_transfer (Some bytes) ≡ Some bytes = rw (above, below) refl in
    ap (content_from (encode_lower bytes)) (one_part (encode_lower bytes) (no_colon-lower bytes are)) ∙ ap within_transfer (hex-back bytes are) ∙ fits

fill_parts : (digits count : List ℕ) → list_all (λ b. not (b == 58)) digits ≡ true → list_all (λ b. not (b == 58)) count ≡ true
    → slice_split (λ b. b == 58) (codes "fill:" ++ digits ++ codes ":" ++ count) ≡ codes "fill" ∷ digits ∷ count ∷ []
fill_parts digits count one two =
    ap (slice_split (λ b. b == 58)) (append_assoc (codes "fill:" ++ digits) (codes ":") count)
    ∙ parts-parts 58 (codes "fill") (digits ++ 58 ∷ count)
    ∙ ap (λ (ws : List (List ℕ)). codes "fill" ∷ ws) (parts-parts 58 digits count ∙ (λ i. one_part digits one i ++ one_part count two i))

pub fill-back : FillsBytes
fill-back byte n is some few =
    let digits = encode_lower (byte ∷ []) in
    let one : IsBytes (byte ∷ []) = (is, tt) in
    let small : n < 2 ^ 64 = omega (arith, few) in
    ap (content_from (codes "fill:" ++ digits ++ codes ":" ++ decimal n)) (fill_parts digits (decimal n) (no_colon-lower (byte ∷ []) one) (no_colon-decimal n small))
    ∙ (λ i. filled (hex-back (byte ∷ []) one i) (number-back 1 transfer_limit n (omega arith) some few i))

-- ---- a word, and then the rest

pub got-word : {A B : Type 0} (value : List ℕ → Option A) (rest : A → List (List ℕ) → LineRead B) (w : List ℕ) (ws : List (List ℕ)) (a : A) (b : B)
    → value w ≡ Some a → rest a ws ≡ Got b → a_word value rest (w ∷ ws) ≡ Got b
got-word value rest w ws a b is more = rw (is, more) refl
