-- How a byte of a name is spelled, and what a text begins with.
use Rattle.std.proofs.Common.{◌≡◌, ◌≢◌, ℕ, ◌+◌, ◌*◌, ◌/◌, ◌%◌, ◌<◌, ◌≤◌, Bool, true, false, cond, ◌==◌, List, [], ◌∷◌, ◌++◌, length, slice_index, Option, Some, None, unwrap_or, refl, ap, subst, ◌∙◌, arith}
use Rattle.std.specs.Prelude.{◌&&◌, not}
use Rattle.std.specs.Str.{bytes_eq}
use Rattle.std.proofs.lemmas.Bool.{and_parts}
use Rattle.std.proofs.lemmas.Bool.Decides.{nat_tests}
use Rattle.std.proofs.lemmas.Slice.Eq.{bytes_eq-Decides}
use Rattle.hex.specs.Hex.{encode_with, hex_digit_value, lower_digits}
use Rattle.hex.proofs.HexLemmas.{IsDigits-lower_digits}
use Rattle.file_tree.specs.PathText.{is_escaped, byte_text, two_digits, escaped_byte}

abbrev pub high : ℕ → ℕ
high b = slice_index lower_digits (b / 16)

abbrev pub low : ℕ → ℕ
low b = slice_index lower_digits (b % 16)

pub digit-not_slash : (d : ℕ) → d < 16 → slice_index lower_digits d ≢ 47
digit-not_slash d below is =
    let value : hex_digit_value (slice_index lower_digits d) ≡ Some d = IsDigits-lower_digits d below in
    let none : hex_digit_value 47 ≡ Some d = subst (λ (c : ℕ). hex_digit_value c ≡ Some d) is value in
    cc none

pub byte_text-escaped : (b : ℕ) → is_escaped b ≡ true → byte_text b ≡ 37 ∷ high b ∷ low b ∷ []
unfolding encode_with
byte_text-escaped b h = rw h refl

pub byte_text-plain : (b : ℕ) → is_escaped b ≡ false → byte_text b ≡ b ∷ []
byte_text-plain b h = rw h refl

pub byte_text-some : (b : ℕ) → 1 ≤ length (byte_text b)
byte_text-some b =
    elim (is_escaped b) as (λ v. is_escaped b ≡ v → 1 ≤ length (byte_text b)) [
      | true ↦ λ holds. omega (arith, ap length (byte_text-escaped b holds))
      | false ↦ λ plain. omega (arith, ap length (byte_text-plain b plain))
    ] refl

two_digits-back : (b : ℕ) → b < 256 → two_digits (high b) (low b) ≡ b
two_digits-back b below =
    let first : hex_digit_value (high b) ≡ Some (b / 16) = IsDigits-lower_digits (b / 16) (omega arith) in
    let second : hex_digit_value (low b) ≡ Some (b % 16) = IsDigits-lower_digits (b % 16) (omega arith) in
    let sum : (h l : Option ℕ) → h ≡ Some (b / 16) → l ≡ Some (b % 16) → 16 * unwrap_or h 0 + unwrap_or l 0 ≡ b = λ h l p q. rw (p, q) (omega arith) in
    sum _ _ first second

escaped_byte-is : (c d b : ℕ) → two_digits c d ≡ b → byte_text b ≡ 37 ∷ c ∷ d ∷ [] → b ≢ 0 → escaped_byte c d ≡ Some b
escaped_byte-is c d b value spelled some =
    let same : bytes_eq (byte_text b) (37 ∷ c ∷ d ∷ []) ≡ true = (bytes_eq-Decides (byte_text b) (37 ∷ c ∷ d ∷ [])).1 spelled in
    let zero : (b == 0) ≡ false = grind (arith, nat_tests) in
    let choose : (n : ℕ) → n ≡ b → cond (bytes_eq (byte_text n) (37 ∷ c ∷ d ∷ []) && not (n == 0)) (Some n) None ≡ Some b = λ n is. rw (is, same, zero) refl in
    choose (two_digits c d) value

pub escaped_byte-spelled : (b : ℕ) → b < 256 → b ≢ 0 → is_escaped b ≡ true → escaped_byte (high b) (low b) ≡ Some b
escaped_byte-spelled b below some h = escaped_byte-is (high b) (low b) b (two_digits-back b below) (byte_text-escaped b h) some

chosen : (t : Bool) (v b : ℕ) → cond t (Some v) None ≡ Some b → (t ≡ true) × (v ≡ b)
chosen true v b h = (refl, cc)
chosen false v b h = absurd cc

digit-small : (c : ℕ) → unwrap_or (hex_digit_value c) 0 < 16
digit-small c = grind arith

-- what is read as an escaped byte is spelled so
pub record IsSpelled (c d b : ℕ) : Type 0 where
  pub text : byte_text b ≡ 37 ∷ c ∷ d ∷ []
  pub some : b ≢ 0
  pub below : b < 256

pub escaped_byte-some : (c d b : ℕ) → escaped_byte c d ≡ Some b → IsSpelled c d b
escaped_byte-some c d b h =
    let n = two_digits c d in
    let t = chosen (bytes_eq (byte_text n) (37 ∷ c ∷ d ∷ []) && not (n == 0)) n b h in
    let parts = and_parts (bytes_eq (byte_text n) (37 ∷ c ∷ d ∷ [])) (not (n == 0)) t.0 in
    let text : byte_text n ≡ 37 ∷ c ∷ d ∷ [] = (bytes_eq-Decides (byte_text n) (37 ∷ c ∷ d ∷ [])).0 parts.0 in
    let some : (m : ℕ) → not (m == 0) ≡ true → m ≢ 0 = λ m is zero. let lacks : not (m == 0) ≡ false = rw zero refl in cc (is, lacks) in
    let small : n < 256 = omega (arith, digit-small c, digit-small d) in
    record {
      text = subst (λ (m : ℕ). byte_text m ≡ 37 ∷ c ∷ d ∷ []) t.1 text;
      some = subst (λ (m : ℕ). m ≢ 0) t.1 (some n parts.1);
      below = subst (λ (m : ℕ). m < 256) t.1 small;
    }

-- which byte is spelled with a `%`
pub spelled_escape : (b : ℕ) (more tail : List ℕ) → 37 ∷ tail ≡ byte_text b ++ more → (is_escaped b ≡ true) × (tail ≡ high b ∷ low b ∷ more)
spelled_escape b more tail h =
    let cases : (t : Bool) → is_escaped b ≡ t → (is_escaped b ≡ true) × (tail ≡ high b ∷ low b ∷ more) = λ t is. elim t as (λ v. is_escaped b ≡ v → (is_escaped b ≡ true) × (tail ≡ high b ∷ low b ∷ more)) [
      | true ↦ λ holds. let text : 37 ∷ tail ≡ 37 ∷ high b ∷ low b ∷ more = h ∙ ap (λ (t : List ℕ). t ++ more) (byte_text-escaped b holds) in (holds, cc)
      | false ↦ λ lacks.
          let text : 37 ∷ tail ≡ b ∷ more = h ∙ ap (λ (t : List ℕ). t ++ more) (byte_text-plain b lacks) in
          let is : 37 ≡ b = cc in
          let holds : is_escaped b ≡ true = subst (λ (n : ℕ). is_escaped n ≡ true) is refl in
          cc (holds, lacks)
    ] is in
    cases (is_escaped b) refl
