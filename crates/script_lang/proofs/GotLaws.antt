-- What holds of each value that words are read as.
use Rattle.std.proofs.Common.{◌≡◌, ℕ, suc, ◌≤◌, Bool, true, false, ◌&&◌, ◌==◌, if◌then◌else◌, List, [], ◌∷◌, length, Option, Some, None, refl, subst, arith}
use Rattle.std.specs.Prelude.{codes, nat_le, option_map, replicate}
use Rattle.std.specs.List.{slice_split}
use Rattle.std.specs.Str.{bytes_eq}
use Rattle.std.specs.Str.Parse.{digits_value}
use Rattle.std.specs.Fmt.{decimal}
use Rattle.std.proofs.lemmas.Bool.Decides.{nat_tests}
use Rattle.std.proofs.lemmas.List.{length-replicate}
use Rattle.file_tree.specs.declared.call.Call.{Call}
use Rattle.file_tree.specs.declared.call.Call.TheVariants as calls
use Rattle.number_words.specs.Numbers.{number_in}
use Rattle.script_lang.specs.Words.{LineRead, Got, Wrong, later, ends, if_word, a_word, path_in, content_in, hex_in, filled, within_transfer, content_from, transfer_limit}
use Rattle.script_lang.specs.Grammar.{offset_limit, count_limit, on_path, on_range, on_content, on_size, on_paths, call_after, call_read}
use Rattle.script_lang.specs.WellFormed.{IsAllowedCall}

-- ---- what is read has a property, whichever words it is read from

abbrev pub AllGot : {A : Type 0} → (A → Type 0) → LineRead A → Type 0
AllGot {A} P read = (a : A) → read ≡ Got a → P a

module _ {A : Type 0} (P : A → Type 0) where
  pub got-wrong : (k : ℕ) → AllGot P (Wrong k)
  got-wrong k a is = cc

  pub got-got : (a : A) → P a → AllGot P (Got a)
  got-got a here b is = let same : a ≡ b = cc in subst P same here

  pub got-ends : (a : A) (ws : List (List ℕ)) → P a → AllGot P (ends a ws)
  got-ends a [] here = got-got a here
  got-ends a (w ∷ ws) here = got-wrong 0

  pub got-later : (read : LineRead A) → AllGot P read → AllGot P (later read)
  got-later (Got a) all = all
  got-later (Wrong k) all = got-wrong (suc k)

  pub got-if : (b : Bool) (x y : LineRead A) → (b ≡ true → AllGot P x) → (b ≡ false → AllGot P y) → AllGot P (if b then x else y)
  got-if true x y then_all else_all = then_all refl
  got-if false x y then_all else_all = else_all refl

pub got-a_word : {A B : Type 0} (P : B → Type 0) (value : List ℕ → Option A) (rest : A → List (List ℕ) → LineRead B) (ws : List (List ℕ)) → ((w : List ℕ) (a : A) (more : List (List ℕ)) → value w ≡ Some a → AllGot P (rest a more)) → AllGot P (a_word value rest ws)
got-a_word P value rest [] all = got-wrong P 0
got-a_word {A} P value rest (w ∷ ws) all = by_value (value w) refl
  where
    by_value : (o : Option A) → value w ≡ o → AllGot P (if_word (option_map (λ a. (a, ws)) o) rest)
    by_value None is = got-wrong P 0
    by_value (Some a) is = got-later P (rest a ws) (all w a ws is)

-- ---- numbers and content

pub number_limits : (low high : ℕ) (w : List ℕ) (n : ℕ) → number_in low high w ≡ Some n → (low ≤ n) × (n ≤ high)
number_limits low high w n is = by_tests (bytes_eq w (decimal v)) (nat_le low v) (nat_le v high) refl refl is
  where
    v : ℕ
    v = digits_value 10 w

    by_tests : (a b c : Bool) → nat_le low (digits_value 10 w) ≡ b → nat_le (digits_value 10 w) high ≡ c → (if a && b && c then Some (digits_value 10 w) else None) ≡ Some n → (low ≤ n) × (n ≤ high)
    by_tests true true true above below e = let same : digits_value 10 w ≡ n = cc in subst (λ (k : ℕ). (low ≤ k) × (k ≤ high)) same (grind (arith, nat_tests), grind (arith, nat_tests))
    by_tests true true false above below e = cc
    by_tests true false c above below e = cc
    by_tests false b c above below e = cc

abbrev IsTransfer : List ℕ → Type 0
IsTransfer bytes = (1 ≤ length bytes) × (length bytes ≤ transfer_limit)

within_limits : (o : Option (List ℕ)) (bytes : List ℕ) → within_transfer o ≡ Some bytes → IsTransfer bytes
within_limits None bytes is = cc
within_limits (Some b) bytes is = by_tests (nat_le 1 (length b)) (nat_le (length b) transfer_limit) refl refl is
  where
    by_tests : (some few : Bool) → nat_le 1 (length b) ≡ some → nat_le (length b) transfer_limit ≡ few → (if some && few then Some b else None) ≡ Some bytes → IsTransfer bytes
    by_tests true true is_some is_few e = let same : b ≡ bytes = cc in subst IsTransfer same (grind (arith, nat_tests), grind (arith, nat_tests))
    by_tests true false is_some is_few e = cc
    by_tests false few is_some is_few e = cc

filled_limits : (hex : Option (List ℕ)) (count : List ℕ) (bytes : List ℕ) → filled hex (number_in 1 transfer_limit count) ≡ Some bytes → IsTransfer bytes
filled_limits hex count bytes is = by_parts hex (number_in 1 transfer_limit count) refl is
  where
    by_parts : (hex : Option (List ℕ)) (n : Option ℕ) → number_in 1 transfer_limit count ≡ n → filled hex n ≡ Some bytes → IsTransfer bytes
    by_parts None n is_n e = cc
    by_parts (Some []) n is_n e = cc
    by_parts (Some (b ∷ c ∷ cs)) n is_n e = cc
    by_parts (Some (b ∷ [])) None is_n e = cc
    by_parts (Some (b ∷ [])) (Some n) is_n e =
        let limits = number_limits 1 transfer_limit count n is_n in
        let size : length (replicate n b) ≡ n = length-replicate n b in
        let same : replicate n b ≡ bytes = cc in subst IsTransfer same (omega (arith, limits.0, size), omega (arith, limits.1, size))

content_limits : (w bytes : List ℕ) → content_in w ≡ Some bytes → IsTransfer bytes
content_limits w bytes is = by_parts (slice_split (λ b. b == 58) w) is
  where
    by_fill : (fill : Bool) (byte count : List ℕ) → (if fill then filled (hex_in byte) (number_in 1 transfer_limit count) else None) ≡ Some bytes → IsTransfer bytes
    by_fill true byte count e = filled_limits (hex_in byte) count bytes e
    by_fill false byte count e = cc

    by_parts : (parts : List (List ℕ)) → content_from w parts ≡ Some bytes → IsTransfer bytes
    by_parts [] e = within_limits (hex_in w) bytes e
    by_parts (a ∷ []) e = within_limits (hex_in w) bytes e
    by_parts (a ∷ b ∷ []) e = within_limits (hex_in w) bytes e
    by_parts (a ∷ b ∷ c ∷ []) e = by_fill (bytes_eq a (codes "fill")) b c e
    by_parts (a ∷ b ∷ c ∷ d ∷ ds) e = within_limits (hex_in w) bytes e

-- ---- calls

call_on_path : (call : List (List ℕ) → Call) (ws : List (List ℕ)) → ((p : List (List ℕ)) → IsAllowedCall (call p)) → AllGot IsAllowedCall (on_path call ws)
call_on_path call ws ok = got-a_word IsAllowedCall path_in (λ p. ends (call p)) ws (λ w p more is. got-ends IsAllowedCall (call p) more (ok p))

call_on_range : (call : List (List ℕ) → ℕ → ℕ → Call) (ws : List (List ℕ)) → ((p : List (List ℕ)) (at count : ℕ) → at ≤ offset_limit → count ≤ count_limit → IsAllowedCall (call p at count)) → AllGot IsAllowedCall (on_range call ws)
call_on_range call ws ok =
    got-a_word IsAllowedCall path_in (λ p. a_word (number_in 0 offset_limit) (λ at. a_word (number_in 0 count_limit) (λ count. ends (call p at count)))) ws (λ w p ws' is_p.
    got-a_word IsAllowedCall (number_in 0 offset_limit) (λ at. a_word (number_in 0 count_limit) (λ count. ends (call p at count))) ws' (λ w' at ws'' is_at.
    got-a_word IsAllowedCall (number_in 0 count_limit) (λ count. ends (call p at count)) ws'' (λ w'' count more is_count.
    got-ends IsAllowedCall (call p at count) more (ok p at count (number_limits 0 offset_limit w' at is_at).1 (number_limits 0 count_limit w'' count is_count).1))))

call_on_content : (ws : List (List ℕ)) → AllGot IsAllowedCall (on_content ws)
call_on_content ws =
    got-a_word IsAllowedCall path_in (λ p. a_word (number_in 0 offset_limit) (λ at. a_word content_in (λ content. ends (calls.Write p at content)))) ws (λ w p ws' is_p.
    got-a_word IsAllowedCall (number_in 0 offset_limit) (λ at. a_word content_in (λ content. ends (calls.Write p at content))) ws' (λ w' at ws'' is_at.
    got-a_word IsAllowedCall content_in (λ content. ends (calls.Write p at content)) ws'' (λ w'' content more is_content.
    let size = content_limits w'' content is_content in
    got-ends IsAllowedCall (calls.Write p at content) more ((number_limits 0 offset_limit w' at is_at).1, size.0, size.1))))

call_on_size : (ws : List (List ℕ)) → AllGot IsAllowedCall (on_size ws)
call_on_size ws =
    got-a_word IsAllowedCall path_in (λ p. a_word (number_in 0 offset_limit) (λ size. ends (calls.Truncate p size))) ws (λ w p ws' is_p.
    got-a_word IsAllowedCall (number_in 0 offset_limit) (λ size. ends (calls.Truncate p size)) ws' (λ w' size more is_size.
    got-ends IsAllowedCall (calls.Truncate p size) more (number_limits 0 offset_limit w' size is_size).1))

call_on_paths : (ws : List (List ℕ)) → AllGot IsAllowedCall (on_paths ws)
call_on_paths ws =
    got-a_word IsAllowedCall path_in (λ p. a_word path_in (λ q. ends (calls.Rename p q))) ws (λ w p ws' is_p.
    got-a_word IsAllowedCall path_in (λ q. ends (calls.Rename p q)) ws' (λ w' q more is_q.
    got-ends IsAllowedCall (calls.Rename p q) more tt))

module _ (verb : List ℕ) (ws : List (List ℕ)) where
  abbrev is : List ℕ → Bool
  is word = bytes_eq verb word

  abbrev choice : Bool → LineRead Call → LineRead Call → Type 0
  choice b x y = AllGot IsAllowedCall (if b then later x else y)

  choose : (b : Bool) (x y : LineRead Call) → AllGot IsAllowedCall x → AllGot IsAllowedCall y → choice b x y
  choose b x y first rest = got-if IsAllowedCall b (later x) y (λ e. got-later IsAllowedCall x first) (λ e. rest)

  pub allowed_after : AllGot IsAllowedCall (call_after verb ws)
  allowed_after =
      choose (is (codes "create")) _ _ (call_on_path calls.Create ws (λ p. tt))
      (choose (is (codes "mkdir")) _ _ (call_on_path calls.Mkdir ws (λ p. tt))
      (choose (is (codes "unlink")) _ _ (call_on_path calls.Unlink ws (λ p. tt))
      (choose (is (codes "rmdir")) _ _ (call_on_path calls.Rmdir ws (λ p. tt))
      (choose (is (codes "read")) _ _ (call_on_range calls.Read ws (λ p at count offset few. (offset, few)))
      (choose (is (codes "dread")) _ _ (call_on_range calls.Dread ws (λ p at count offset few. (offset, few)))
      (choose (is (codes "write")) _ _ (call_on_content ws)
      (choose (is (codes "truncate")) _ _ (call_on_size ws)
      (choose (is (codes "stat")) _ _ (call_on_path calls.Stat ws (λ p. tt))
      (choose (is (codes "list")) _ _ (call_on_path calls.List ws (λ p. tt))
      (choose (is (codes "rename")) _ _ (call_on_paths ws)
      (choose (is (codes "sync")) _ _ (got-ends IsAllowedCall calls.Sync ws tt) (got-wrong IsAllowedCall 0))))))))))))

pub allowed_read : (ws : List (List ℕ)) → AllGot IsAllowedCall (call_read ws)
allowed_read [] = got-wrong IsAllowedCall 0
allowed_read (verb ∷ ws) = allowed_after verb ws
