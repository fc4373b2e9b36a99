-- What a text begins with, and how the names of a path are read from there.
use Rattle.std.proofs.Common.{◌≡◌, ◌≢◌, ℕ, ◌+◌, ◌<◌, true, false, ◌==◌, List, [], ◌∷◌, ◌++◌, length, Option, Some, None, refl, sym, ap, subst, arith}
use Rattle.std.proofs.lemmas.Bool.Decides.{nat_tests}
use Rattle.file_tree.specs.Names.{IsNameByte}
use Rattle.file_tree.specs.PathText.{PathRead, Faulty, names_read, if_room, is_escaped, byte_text, escaped_byte, unless, ended_name, after_names, told}
use Rattle.file_tree.specs.declared.path.PathFault.TheVariants.{BadByte, BadEscape, LongName}
use Rattle.file_tree.proofs.PathLaws.{read-slash, read-plain, read-escape}
use Rattle.file_tree.proofs.Letters.{high, low, IsSpelled, byte_text-escaped, byte_text-plain, escaped_byte-spelled, escaped_byte-some, spelled_escape}

-- no byte of a name is spelled at the front
abbrev pub SpellsNoByte : List ℕ → Type 0
SpellsNoByte text = (byte : ℕ) (more : List ℕ) → IsNameByte byte → byte < 256 → text ≢ byte_text byte ++ more

pub data Head (text : List ℕ) : Type 0 where
  Ended : text ≡ [] → Head text
  Slash : (rest : List ℕ) → text ≡ 47 ∷ rest → Head text
  Letter : (byte : ℕ) → (rest : List ℕ) → IsNameByte byte → byte < 256 → text ≡ byte_text byte ++ rest → Head text
  Bad : (byte : ℕ) → (rest : List ℕ) → is_escaped byte ≡ true → byte ≢ 37 → text ≡ byte ∷ rest → Head text
  BadPercent : (rest : List ℕ) → SpellsNoByte (37 ∷ rest) → text ≡ 37 ∷ rest → Head text

-- what `%` and no two bytes spell
short_escape : (tail : List ℕ) → length tail < 2 → SpellsNoByte (37 ∷ tail)
short_escape tail short byte more plain below h = let e = (spelled_escape byte more tail h).1 in omega (arith, ap length e)

-- what `%` and two bytes spell that stand for none
no_escape : (c d : ℕ) (rest : List ℕ) → escaped_byte c d ≡ None → SpellsNoByte (37 ∷ c ∷ d ∷ rest)
no_escape c d rest none byte more plain below h =
    let e = spelled_escape byte more (c ∷ d ∷ rest) h in
    let some = escaped_byte-spelled byte below plain.0 e.0 in
    let same : escaped_byte c d ≡ Some byte = cc (e.1, some) in
    cc (same, none)

pub escaped-not_slash : (byte : ℕ) → is_escaped byte ≡ true → byte ≢ 47
escaped-not_slash byte holds is = let lacks : is_escaped byte ≡ false = rw is refl in cc (holds, lacks)

plain-below : (byte : ℕ) → is_escaped byte ≡ false → (byte ≢ 0) × (byte < 256)
plain-below byte lacks = (grind (arith, nat_tests), grind (arith, nat_tests))

-- an escaped byte is no slash, since a slash is written as it is
spelled-name_byte : (c d byte : ℕ) → IsSpelled c d byte → IsNameByte byte
spelled-name_byte c d byte is =
    (is.some, λ slash. let text : byte_text 47 ≡ 37 ∷ c ∷ d ∷ [] = subst (λ (n : ℕ). byte_text n ≡ 37 ∷ c ∷ d ∷ []) slash is.text in cc text)

pub head_of : (text : List ℕ) → Head text
head_of [] = Ended refl
head_of (b ∷ rest) =
    elim (b == 47) as (λ v. (b == 47) ≡ v → Head (b ∷ rest)) [
      | true ↦ λ holds. let is : b ≡ 47 = grind (arith, nat_tests) in Slash rest (ap (λ (n : ℕ). n ∷ rest) is)
      | false ↦ λ slash. elim (b == 37) as (λ v. (b == 37) ≡ v → Head (b ∷ rest)) [
        | true ↦ λ holds. let is : b ≡ 37 = grind (arith, nat_tests) in subst (λ (n : ℕ). Head (n ∷ rest)) (sym is) (percent rest)
        | false ↦ λ lacks. let other : b ≢ 37 = grind (arith, nat_tests) in elim (is_escaped b) as (λ v. is_escaped b ≡ v → Head (b ∷ rest)) [
          | true ↦ λ holds. Bad b rest holds other refl
          | false ↦ λ plain.
              let below = plain-below b plain in
              let inside : b ≢ 47 = grind (arith, nat_tests) in
              Letter b rest (below.0, inside) below.1 (ap (λ (t : List ℕ). t ++ rest) (sym (byte_text-plain b plain)))
        ] refl
      ] refl
    ] refl
  where
    percent : (rest : List ℕ) → Head (37 ∷ rest)
    percent [] = BadPercent [] (short_escape [] (omega arith)) refl
    percent (c ∷ []) = BadPercent (c ∷ []) (short_escape (c ∷ []) (omega arith)) refl
    percent (c ∷ d ∷ rest) =
        elim (escaped_byte c d) as (λ v. escaped_byte c d ≡ v → Head (37 ∷ c ∷ d ∷ rest)) [
          | None ↦ λ none. BadPercent (c ∷ d ∷ rest) (no_escape c d rest none) refl
          | Some byte ↦ λ some.
              let is = escaped_byte-some c d byte some in
              Letter byte rest (spelled-name_byte c d byte is) is.below (ap (λ (t : List ℕ). t ++ rest) (sym is.text))
        ] refl

-- ---- what is read at each

pub names_read-slash : (start : ℕ) (name : List ℕ) (at : ℕ) (rest : List ℕ)
    → names_read start name at (47 ∷ rest) ≡ unless (ended_name start at name) (after_names (name ∷ []) (names_read (at + 1) [] (at + 1) rest))
names_read-slash start name at rest = read-slash start name at (47 ∷ rest) (omega arith) refl

pub names_read-letter : (start : ℕ) (name : List ℕ) (at byte : ℕ) (rest : List ℕ) → IsNameByte byte → byte < 256
    → names_read start name at (byte_text byte ++ rest) ≡ if_room name at (names_read start (name ++ byte ∷ []) (at + length (byte_text byte)) rest)
names_read-letter start name at byte rest plain below =
    let W : List ℕ → Type 0 = λ t. names_read start name at (t ++ rest) ≡ if_room name at (names_read start (name ++ byte ∷ []) (at + length t) rest) in
    elim (is_escaped byte) as (λ v. is_escaped byte ≡ v → W (byte_text byte)) [
      | true ↦ λ holds.
          let text = byte_text-escaped byte holds in
          subst W (sym text) (read-escape start name at (37 ∷ high byte ∷ low byte ∷ rest) byte (omega arith) refl (sym (escaped_byte-spelled byte below plain.0 holds)))
      | false ↦ λ lacks. subst W (sym (byte_text-plain byte lacks)) (read-plain start name at (byte ∷ rest) (omega arith) plain.1 lacks)
    ] refl

pub names_read-bad_byte : (start : ℕ) (name : List ℕ) (at byte : ℕ) (rest : List ℕ) → is_escaped byte ≡ true → byte ≢ 37
    → names_read start name at (byte ∷ rest) ≡ Faulty (BadByte (told at))
names_read-bad_byte start name at byte rest holds other =
    let not_slash : (byte == 47) ≡ false = let inside = escaped-not_slash byte holds in grind (arith, nat_tests) in
    let not_percent : (byte == 37) ≡ false = grind (arith, nat_tests) in
    by_rest start name at byte rest holds not_slash not_percent
  where
    by_rest : (start : ℕ) (name : List ℕ) (at byte : ℕ) (rest : List ℕ) → is_escaped byte ≡ true → (byte == 47) ≡ false → (byte == 37) ≡ false
        → names_read start name at (byte ∷ rest) ≡ Faulty (BadByte (told at))
    by_rest start name at byte [] holds a b = rw (a, holds, b) refl
    by_rest start name at byte (c ∷ []) holds a b = rw (a, holds, b) refl
    by_rest start name at byte (c ∷ d ∷ rest) holds a b = rw (a, holds, b) refl

pub names_read-bad_escape : (start : ℕ) (name : List ℕ) (at : ℕ) (rest : List ℕ) → SpellsNoByte (37 ∷ rest)
    → names_read start name at (37 ∷ rest) ≡ Faulty (BadEscape (told at))
names_read-bad_escape start name at [] lacks = refl
names_read-bad_escape start name at (c ∷ []) lacks = refl
names_read-bad_escape start name at (c ∷ d ∷ rest) lacks =
    let W : Option ℕ → Type 0 = λ v. escaped_byte c d ≡ v → names_read start name at (37 ∷ c ∷ d ∷ rest) ≡ Faulty (BadEscape (told at)) in
    elim (escaped_byte c d) as W [
      | None ↦ λ none. rw none refl
      | Some byte ↦ λ some.
          let is = escaped_byte-some c d byte some in
          absurd (lacks byte rest (spelled-name_byte c d byte is) is.below (ap (λ (t : List ℕ). t ++ rest) (sym is.text)))
    ] refl

-- ---- room for one more byte

pub if_room-short : (name : List ℕ) (at : ℕ) (read : PathRead) → length name < 255 → if_room name at read ≡ read
if_room-short name at read short =
    let lacks : (length name == 255) ≡ false = grind (arith, nat_tests) in
    rw lacks refl

pub if_room-full : (name : List ℕ) (at : ℕ) (read : PathRead) → length name ≡ 255 → if_room name at read ≡ Faulty (LongName (told at))
if_room-full name at read full = rw full refl
