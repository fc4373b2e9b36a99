-- What the reading of a whole text tells of its spelling, and the other way round.
use Rattle.std.proofs.Common.{◌≡◌, ◌≢◌, ◌⊎◌, inl, inr, ℕ, ◌+◌, true, false, ◌==◌, List, [], ◌∷◌, length, drop, Result, Ok, Err, refl, sym, ap, subst, ◌∙◌, arith}
use Rattle.std.specs.Prelude.{codes, IfOk, IfErr}
use Rattle.std.specs.List.{AllByRecursion}
use Rattle.std.specs.Str.{bytes_eq}
use Rattle.std.proofs.lemmas.Bool.Decides.{nat_tests}
use Rattle.file_tree.specs.declared.path.PathFault.{PathFault}
use Rattle.file_tree.specs.declared.path.PathFault.TheVariants.{NoSlash, EmptyName, NoMemory}
use Rattle.file_tree.specs.Names.{IsPath}
use Rattle.file_tree.specs.PathText.{Reads, Faulty, names_read, names_text, path_text, path_read, if_short, ParsesPath}
use Rattle.file_tree.specs.PathFaults.{IsBytes, AreNames, FaultStands, SpellsNoPath, GivesPath}
use Rattle.file_tree.proofs.Faults.{fault_stands}
use Rattle.file_tree.proofs.Readings.{if_short-reads, if_short-faulty, if_short-short, reads_spelled}
use Rattle.file_tree.proofs.Spelled.{begins_none, bytes_eq-other, read-path}

-- how a text begins
pub data Opening (text : List ℕ) : Type 0 where
  Elsewhere : ((rest : List ℕ) → text ≢ 47 ∷ rest) → path_read text ≡ Faulty NoSlash → Opening text
  Root : text ≡ codes "/" → Opening text
  Names : (rest : List ℕ) → text ≡ 47 ∷ rest → text ≢ codes "/" → path_read text ≡ if_short (names_read 1 [] 1 rest) → Opening text

behind_slash : (rest : List ℕ) → Opening (47 ∷ rest)
behind_slash [] = Root refl
behind_slash (b ∷ rest) = Names (b ∷ rest) refl (λ same. cc same) refl

pub opening_of : (text : List ℕ) → Opening text
opening_of [] = Elsewhere (λ rest same. cc same) refl
opening_of (b ∷ rest) =
    elim (b == 47) as (λ v. (b == 47) ≡ v → Opening (b ∷ rest)) [
      | true ↦ λ holds. let is : b ≡ 47 = grind (arith, nat_tests) in subst (λ (n : ℕ). Opening (n ∷ rest)) (sym is) (behind_slash rest)
      | false ↦ λ lacks.
          let other : b ≢ 47 = grind (arith, nat_tests) in
          Elsewhere (λ tail same. other (cc same)) (rw lacks refl)
    ] refl

path_text-names : (path : List (List ℕ)) (rest : List ℕ) → names_text path ≡ 47 ∷ rest → path_text path ≡ 47 ∷ rest
path_text-names [] rest h = absurd cc
path_text-names (n ∷ ns) rest h = h

-- names that are read behind the first slash
names_spelled : (rest : List ℕ) (path : List (List ℕ)) → names_read 1 [] 1 rest ≡ Reads path → AreNames path × (path_text path ≡ 47 ∷ rest)
names_spelled rest path h =
    let t = reads_spelled (length rest + 1) 1 [] 1 rest path (omega arith) begins_none h in
    (t.0, path_text-names path rest t.1)

pub path_read-spelled : (text : List ℕ) (path : List (List ℕ)) → path_read text ≡ Reads path → IsPath path × (text ≡ path_text path)
path_read-spelled text path h =
    elim (opening_of text) [
      | Elsewhere other none ↦ absurd (cc (sym none ∙ h))
      | Root root ↦
          let same : [] ≡ path = cc (subst (λ (t : List ℕ). path_read t ≡ Reads path) root h) in
          subst (λ (p : List (List ℕ)). IsPath p × (text ≡ path_text p)) same (record { names = tt; short = omega arith }, root)
      | Names rest is other read ↦
          let t = if_short-reads (names_read 1 [] 1 rest) path (sym read ∙ h) in
          let s = names_spelled rest path t.0 in
          (record { names = s.0.each; short = t.1 }, is ∙ sym s.1)
    ]

pub path_read-fault : (text : List ℕ) (fault : PathFault) → path_read text ≡ Faulty fault → FaultStands text fault
path_read-fault text fault h =
    elim (opening_of text) [
      | Elsewhere other none ↦ let same : NoSlash ≡ fault = cc (sym none ∙ h) in subst (FaultStands text) same other
      | Root root ↦ absurd (cc (subst (λ (t : List ℕ). path_read t ≡ Faulty fault) root h))
      | Names rest is other read ↦
          elim (if_short-faulty (names_read 1 [] 1 rest) fault (sym read ∙ h)) [
            | inl bad ↦ fault_stands (length rest + 1) text [] [] rest fault (omega arith) (record { each = tt; bytes = tt }) begins_none other is bad
            | inr long ↦
                let s = names_spelled rest long.0 long.1 in
                subst (FaultStands text) (sym long.3) (long.0, s.0, is ∙ sym s.1, long.2, refl)
          ]
    ]

-- names behind the first slash, whatever their length
pub path_read-names : (n : List ℕ) (ns : List (List ℕ)) → AreNames (n ∷ ns) → path_read (names_text (n ∷ ns)) ≡ if_short (Reads (n ∷ ns))
path_read-names n ns are =
    let rest = drop 1 (names_text (n ∷ ns)) in
    let read : names_read 1 [] 1 rest ≡ Reads (n ∷ ns) = read-path n ns are in
    let some : rest ≢ [] = λ none. let bad : Faulty (EmptyName 1) ≡ Reads (n ∷ ns) = subst (λ (t : List ℕ). names_read 1 [] 1 t ≡ Reads (n ∷ ns)) none read in cc bad in
    let other : bytes_eq rest [] ≡ false = bytes_eq-other rest [] some in
    rw other (ap if_short read)

pub path_read-again : (path : List (List ℕ)) → IsPath path → AllByRecursion IsBytes path → path_read (path_text path) ≡ Reads path
path_read-again [] is bytes = refl
path_read-again (n ∷ ns) is bytes = path_read-names n ns (record { each = is.names; bytes = bytes }) ∙ if_short-short (n ∷ ns) is.short

-- ---- of a result

pub parsed-spelled : (text : List ℕ) (r : Result (List (List ℕ)) PathFault) → ParsesPath text r → IfOk r (λ path. IsPath path × (text ≡ path_text path))
parsed-spelled text (Ok path) h = path_read-spelled text path h
parsed-spelled text (Err fault) h = tt

pub parsed-path : (text : List ℕ) (r : Result (List (List ℕ)) PathFault) → ParsesPath text r
    → (path : List (List ℕ)) → IsPath path → AllByRecursion IsBytes path → text ≡ path_text path → GivesPath path r
parsed-path text (Ok found) h path is bytes spelled = let good = ap path_read spelled ∙ path_read-again path is bytes in cc (h, good)
parsed-path text (Err fault) (inl memory) path is bytes spelled = memory
parsed-path text (Err fault) (inr bad) path is bytes spelled = let good = ap path_read spelled ∙ path_read-again path is bytes in absurd (cc (bad, good))

pub parsed-fault : (text : List ℕ) (r : Result (List (List ℕ)) PathFault) → ParsesPath text r → IfErr r (λ fault. (fault ≡ NoMemory) ⊎ FaultStands text fault)
parsed-fault text (Ok path) h = tt
parsed-fault text (Err fault) (inl memory) = inl memory
parsed-fault text (Err fault) (inr bad) = inr (path_read-fault text fault bad)

pub parsed-none : (text : List ℕ) (r : Result (List (List ℕ)) PathFault) → ParsesPath text r → IfErr r (λ fault. (fault ≡ NoMemory) ⊎ SpellsNoPath text)
parsed-none text (Ok path) h = tt
parsed-none text (Err fault) (inl memory) = inl memory
parsed-none text (Err fault) (inr bad) = inr (λ path is bytes spelled. let good = ap path_read spelled ∙ path_read-again path is bytes in cc (bad, good))
