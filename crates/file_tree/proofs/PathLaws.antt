-- How the names of a path are read, letter by letter.
use Rattle.std.proofs.Common.{◌≡◌, ◌≢◌, ℕ, ◌+◌, ◌-◌, ◌≤◌, false, ◌==◌, List, [], ◌∷◌, ◌++◌, length, take, drop, get_or, Option, Some, None, refl, sym, ap, ◌∙◌, arith, append_assoc}
use Rattle.std.proofs.lemmas.Bool.Decides.{nat_tests}
use Rattle.std.proofs.lemmas.List.{take_rest}
use Rattle.file_tree.specs.declared.path.PathFault.{PathFault}
use Rattle.std.specs.List.{AllByRecursion}
use Rattle.file_tree.specs.Names.{IsNameByte, path_length}
use Rattle.file_tree.specs.PathText.{PathRead, Reads, Faulty, names_read, if_room, escaped_byte, is_escaped, unless, ended_name, after_names}

not_slash : (b : ℕ) → b ≢ 47 → (b == 47) ≡ false
not_slash b h = grind (arith, nat_tests)

not_percent : (b : ℕ) → is_escaped b ≡ false → (b == 37) ≡ false
not_percent b h = grind (arith, nat_tests)

module _ (start : ℕ) (name : List ℕ) (at : ℕ) where
  pub read-escape : (text : List ℕ) (byte : ℕ) → 3 ≤ length text → get_or text 0 0 ≡ 37 → Some byte ≡ escaped_byte (get_or text 1 0) (get_or text 2 0)
      → names_read start name at text ≡ if_room name at (names_read start (name ++ byte ∷ []) (at + 3) (drop 3 text))
  read-escape [] byte long percent is = absurd (omega arith)
  read-escape (a ∷ []) byte long percent is = absurd (omega arith)
  read-escape (a ∷ b ∷ []) byte long percent is = absurd (omega arith)
  read-escape (a ∷ b ∷ c ∷ rest) byte long percent is = rw (percent, ← is) refl

  pub read-plain : (text : List ℕ) → 1 ≤ length text → get_or text 0 0 ≢ 47 → is_escaped (get_or text 0 0) ≡ false
      → names_read start name at text ≡ if_room name at (names_read start (name ++ get_or text 0 0 ∷ []) (at + 1) (drop 1 text))
  read-plain [] some inside plain = absurd (omega arith)
  read-plain (a ∷ []) some inside plain = rw (not_slash a inside, plain, not_percent a plain) refl
  read-plain (a ∷ b ∷ []) some inside plain = rw (not_slash a inside, plain, not_percent a plain) refl
  read-plain (a ∷ b ∷ c ∷ rest) some inside plain = rw (not_slash a inside, plain, not_percent a plain) refl

pub read-slash : (start : ℕ) (name : List ℕ) (at : ℕ) (text : List ℕ) → 1 ≤ length text → get_or text 0 0 ≡ 47
    → names_read start name at text ≡ unless (ended_name start at name) (after_names (name ∷ []) (names_read (at + 1) [] (at + 1) (drop 1 text)))
read-slash start name at [] some slash = absurd (omega arith)
read-slash start name at (a ∷ []) some slash = rw slash refl
read-slash start name at (a ∷ b ∷ []) some slash = rw slash refl
read-slash start name at (a ∷ b ∷ c ∷ rest) some slash = rw slash refl

pub after_names-after_names : (front back : List (List ℕ)) (read : PathRead) → after_names front (after_names back read) ≡ after_names (front ++ back) read
after_names-after_names front back (Reads path) = ap Reads (sym (append_assoc front back path))
after_names-after_names front back (Faulty fault) = refl

pub after_names-none : (read : PathRead) → after_names [] read ≡ read
after_names-none (Reads path) = refl
after_names-none (Faulty fault) = refl

pub plain_more : (name : List ℕ) (byte : ℕ) → AllByRecursion IsNameByte name → IsNameByte byte → AllByRecursion IsNameByte (name ++ byte ∷ [])
plain_more [] byte all here = (here, tt)
plain_more (b ∷ name) byte all here = (all.0, plain_more name byte all.1 here)

-- a name ends at a slash, and the next begins behind it
pub past_slash : (front front' : List (List ℕ)) (start : ℕ) (name name' : List ℕ) (at : ℕ) (text : List ℕ) (whole : PathRead) → 1 ≤ length text → get_or text 0 0 ≡ 47
    → (ended_name start at name ≡ None) × (front' ≡ front ++ name ∷ []) × (name' ≡ []) → after_names front (names_read start name at text) ≡ whole
    → after_names front' (names_read (at + 1) name' (at + 1) (take (length text - 1) (drop 1 text))) ≡ whole
past_slash front front' start name name' at text whole some slash (good, names, fresh) so_far =
    let next : PathRead = names_read (at + 1) [] (at + 1) (drop 1 text) in
    let here : names_read start name at text ≡ after_names (name ∷ []) next =
    read-slash start name at text some slash ∙ ap (λ (o : Option PathFault). unless o (after_names (name ∷ []) next)) good in
    (λ i. after_names (names i) (names_read (at + 1) (fresh i) (at + 1) (take_rest text 1 i)))
    ∙ sym (after_names-after_names front (name ∷ []) next) ∙ ap (after_names front) (sym here) ∙ so_far

pub path_length-push : (path : List (List ℕ)) (name : List ℕ) → path_length (path ++ name ∷ []) ≡ path_length path + (1 + length name)
path_length-push [] name = omega arith
path_length-push (n ∷ path) name = omega (arith, path_length-push path name)
