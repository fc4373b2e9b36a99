-- Bytes that come to a sink in pieces.
use Rattle.std.proofs.Common.{◌≡◌, ℕ, ◌≤◌, ◌<◌, ◌-◌, List, [], ◌∷◌, ◌++◌, length, take, drop, get_or, Result, Ok, Err, refl, sym, ap, ◌∙◌, append_assoc, append-nil, take-append-drop, subst, arith}
use Rattle.std.proofs.lemmas.List.{take_all}
use Rattle.std.proofs.lemmas.List.Concat.{flat_map-cons}
use Rattle.std.specs.List.{flat_map}
use Rattle.std.specs.Prelude.{Option}
use Rattle.std.specs.Io.KnownBytes.{Appends}
use Rattle.std.proofs.KnownBytes.{Appends-nil, Appends-trans}
use Rattle.stream_io.specs.Streams.{AppendsPrefix}
use Rattle.stream_io.proofs.Parts.{prefix_put}
use Rattle.run_reports.specs.Streams.{Passes, PassesOn}

-- nothing was sent yet
pub nothing_sent : (a : Option (List ℕ)) (held bytes : List ℕ) → (rest : List ℕ) × Passes a a held rest bytes
nothing_sent a held bytes = (held ++ bytes, record { sent = []; appended = Appends-nil a; split = refl })

pub only_held : (a : Option (List ℕ)) (held now bytes : List ℕ) → now ≡ held ++ bytes → Passes a a held now bytes
only_held a held now bytes e = record { sent = []; appended = Appends-nil a; split = e }

-- a front of what was held was sent
pub front_sent : (a b : Option (List ℕ)) (held : List ℕ) → AppendsPrefix a b held → (rest : List ℕ) × Passes a b held rest []
front_sent a b held p = (drop p.0 held, record { sent = take p.0 held; appended = p.2; split = take-append-drop p.0 held ∙ sym (append-nil held) })

-- what was held grew before a front of it was sent
pub grown_first : (a b : Option (List ℕ)) (held grown now bytes : List ℕ) → grown ≡ held ++ bytes → Passes a b grown now [] → Passes a b held now bytes
grown_first a b held grown now bytes e p = record { sent = p.sent; appended = p.appended; split = p.split ∙ append-nil grown ∙ e }

pub grown_first_on : {T E : Type 0} (a b : Option (List ℕ)) (held grown now bytes : List ℕ) (r : Result T E)
    → grown ≡ held ++ bytes → PassesOn a b grown now r [] → PassesOn a b held now r bytes
grown_first_on a b held grown now bytes (Ok x) e p = grown_first a b held grown now bytes e p
grown_first_on a b held grown now bytes (Err x) e p = (p.0, grown_first a b held grown p.0 bytes e p.1)

-- one piece after another
pub then_passes : (a b c : Option (List ℕ)) (held mid now one two : List ℕ) → Passes a b held mid one → Passes b c mid now two → Passes a c held now (one ++ two)
then_passes a b c held mid now one two p q = record {
  sent = p.sent ++ q.sent;
  appended = Appends-trans a b c p.sent q.sent p.appended q.appended;
  split = append_assoc p.sent q.sent now ∙ ap (λ (l : List ℕ). p.sent ++ l) q.split ∙ sym (append_assoc p.sent mid two) ∙ ap (λ (l : List ℕ). l ++ two) p.split ∙ append_assoc held one two;
}

pub then_passes_on : {T E : Type 0} (a b c : Option (List ℕ)) (held mid now one two : List ℕ) (r : Result T E)
    → Passes a b held mid one → PassesOn b c mid now r two → PassesOn a c held now r (one ++ two)
then_passes_on a b c held mid now one two (Ok x) p q = then_passes a b c held mid now one two p q
then_passes_on a b c held mid now one two (Err x) p q = (q.0, then_passes a b c held mid q.0 one two p q.1)

-- more was to come behind
pub cut_short : (a b : Option (List ℕ)) (held rest one two : List ℕ) → Passes a b held rest one → Passes a b held (rest ++ two) (one ++ two)
cut_short a b held rest one two p = record {
  sent = p.sent;
  appended = p.appended;
  split = sym (append_assoc p.sent rest two) ∙ ap (λ (l : List ℕ). l ++ two) p.split ∙ append_assoc held one two;
}

-- what came of bytes that began with nothing held
pub front_of : (a b : Option (List ℕ)) (rest bytes : List ℕ) → Passes a b [] rest bytes → AppendsPrefix a b bytes
front_of a b rest bytes p = prefix_put a b bytes p.sent rest (sym p.split) p.appended

pub all_of : (a b : Option (List ℕ)) (rest bytes : List ℕ) → Passes a b [] rest bytes → rest ≡ [] → Appends a b bytes
all_of a b rest bytes p e =
    let same : p.sent ≡ bytes = sym (append-nil p.sent) ∙ ap (λ (l : List ℕ). p.sent ++ l) (sym e) ∙ p.split in
    subst (Appends a b) same p.appended

-- ---- a loop over what is left

-- what is left is its first and the rest
pub first_of : {A : Type 0} (xs : List A) (d : A) → 1 ≤ length xs → d ≡ get_or xs 0 d → xs ≡ d ∷ take (length xs - 1) (drop 1 xs)
first_of {A = A} [] d some is = absurd (omega (arith, some))
first_of {A = A} (x ∷ xs) d some is =
    let rest : take (length (x ∷ xs) - 1) xs ≡ xs = take_all (length (x ∷ xs) - 1) xs (omega arith) in
    ap (λ (y : A). y ∷ xs) (sym is) ∙ ap (λ (ys : List A). d ∷ ys) (sym rest)

-- one more piece came
pub step_more : (a b c : Option (List ℕ)) (held mid now done line rest all : List ℕ) → all ≡ done ++ (line ++ rest) → Passes a b held mid done → Passes b c mid now line
    → (more : List ℕ) × (all ≡ more ++ rest) × Passes a c held now more
step_more a b c held mid now done line rest all split before here =
    (done ++ line, split ∙ sym (append_assoc done line rest), then_passes a b c held mid now done line before here)

-- the piece was cut short
pub step_cut : (a b c : Option (List ℕ)) (held mid done line rest all : List ℕ) → all ≡ done ++ (line ++ rest) → Passes a b held mid done
    → (left : List ℕ) × Passes b c mid left line → (left : List ℕ) × Passes a c held left all
step_cut a b c held mid done line rest all split before here =
    let joined = cut_short a c held here.0 (done ++ line) rest (then_passes a b c held mid here.0 done line before here.1) in
    (here.0 ++ rest, subst (Passes a c held (here.0 ++ rest)) (append_assoc done line rest ∙ sym split) joined)

-- pieces that are made of the items of a list
pub pieces : {A : Type 0} (f : A → List ℕ) (xs : List A) (d : A) (all done : List ℕ) → 1 ≤ length xs → d ≡ get_or xs 0 d → all ≡ done ++ flat_map f xs
    → all ≡ done ++ (f d ++ flat_map f (take (length xs - 1) (drop 1 xs)))
pieces f xs d all done some is split = split ∙ ap (λ (l : List ℕ). done ++ l) (ap (flat_map f) (first_of xs d some is) ∙ flat_map-cons f d (take (length xs - 1) (drop 1 xs)))

-- no piece is left
pub no_pieces : {A : Type 0} (f : A → List ℕ) (xs : List A) (all done : List ℕ) → length xs < 1 → all ≡ done ++ flat_map f xs → done ++ [] ≡ all
no_pieces f [] all done none split = sym split
no_pieces f (x ∷ xs) all done none split = absurd (omega (arith, none))

pub at_either : {T E : Type 0} (a b : Option (List ℕ)) (held now bytes : List ℕ) (r : Result T E) → PassesOn a b held now r bytes → (rest : List ℕ) × Passes a b held rest bytes
at_either a b held now bytes (Ok x) p = (now, p)
at_either a b held now bytes (Err x) p = p

-- ---- the end of a text that began with nothing held

pub front_from : (a b : Option (List ℕ)) (start all : List ℕ) → start ≡ [] → (rest : List ℕ) × Passes a b start rest all → AppendsPrefix a b all
front_from a b start all none p = front_of a b p.0 all (subst (λ (l : List ℕ). Passes a b l p.0 all) none p.1)

pub front_all : {T E : Type 0} (a b c : Option (List ℕ)) (start held now all : List ℕ) (r : Result T E) → start ≡ [] → Passes a b start held all → PassesOn b c held now r []
    → AppendsPrefix a c all
front_all a b c start held now all r none before last =
    let (rest, end) = at_either b c held now [] r last in
    front_from a c start all none (rest, subst (Passes a c start rest) (append-nil all) (then_passes a b c start held rest all [] before end))

-- ---- a text of which a front was held already

-- what was held counts as sent last
pub held_first : (a b : Option (List ℕ)) (held now bytes : List ℕ) → Passes a b held now bytes → Passes a b [] now (held ++ bytes)
held_first a b held now bytes p = record { sent = p.sent; appended = p.appended; split = p.split }

pub held_front : (a b : Option (List ℕ)) (held all bytes : List ℕ) → held ++ bytes ≡ all → (rest : List ℕ) × Passes a b held rest bytes → AppendsPrefix a b all
held_front a b held all bytes is p = subst (AppendsPrefix a b) is (front_of a b p.0 (held ++ bytes) (held_first a b held p.0 bytes p.1))

pub held_front_all : {T E : Type 0} (a b c : Option (List ℕ)) (start held now all bytes : List ℕ) (r : Result T E) → start ++ bytes ≡ all → Passes a b start held bytes → PassesOn b c held now r []
    → AppendsPrefix a c all
held_front_all a b c start held now all bytes r is before last =
    let (rest, end) = at_either b c held now [] r last in
    held_front a c start all bytes is (rest, subst (Passes a c start rest) (append-nil bytes) (then_passes a b c start held rest bytes [] before end))
