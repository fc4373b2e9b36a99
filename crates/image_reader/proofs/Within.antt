-- The blocks that are entered as an inode's beside its dinode, in rising order, and their count.
use Rattle.std.proofs.Common.{◌≡◌, inl, inr, Bool, true, false, ℕ, zero, suc, ◌+◌, ◌<◌, ◌≤◌, List, [], ◌∷◌, Option, Some, None, slice_get, length, cond, refl, sym, ap, subst, ◌∙◌, arith}
use Rattle.std.proofs.lemmas.Bool.{eq-eqb, eqb-true}
use Rattle.std.proofs.lemmas.List.Sums.{sum_by-cons}
use Rattle.std.specs.List.{AllByRecursion}
use Rattle.std.specs.Prelude.{count_by}
use Rattle.image_model.specs.Claims.{Claims}
use Rattle.image_reader.specs.Complete.{IsBlockCount}
use Rattle.image_reader.specs.Going.{IsFresh, IsOf, is_within, has_within}
use Rattle.image_model.specs.Image.{Image}
use Rattle.image_reader.specs.Leaves.{HasClaim}
use Rattle.image_model.specs.Owners.{Owner, Root, Master, Named, Below, Chained, IsWithin}
use Rattle.image_reader.specs.Owning.{AreClaims, owner_of}
use Rattle.image_reader.specs.Untouched.{AllAreBelow}
use Rattle.image_reader.specs.declared.owners.Claim.{Claim}
use Rattle.image_reader.proofs.Leaves.{unrise}
use Rattle.image_model.proofs.Members.{IsIn, contained, is_in}
use Rattle.image_model.proofs.Rising.{Rising}

abbrev pick : Bool → ℕ → List ℕ → List ℕ
pick true i rest = i ∷ rest
pick false i rest = rest

abbrev within_from : ℕ → ℕ → List (Option Claim) → List ℕ
within_from a i [] = []
within_from a i (e ∷ es) = pick (has_within a e) i (within_from a (suc i) es)

-- ---- they rise

from_here : (a i : ℕ) (es : List (Option Claim)) → AllByRecursion (λ y. i ≤ y) (within_from a i es)
from_here a i [] = tt
from_here a i (e ∷ es) = picked (has_within a e) (within_from a (suc i) es) (lower (within_from a (suc i) es) (from_here a (suc i) es))
  where
    lower : (xs : List ℕ) → AllByRecursion (λ y. suc i ≤ y) xs → AllByRecursion (λ y. i ≤ y) xs
    lower [] all = tt
    lower (x ∷ xs) all = (omega (arith, all.0), lower xs all.1)

    picked : (b : Bool) (rest : List ℕ) → AllByRecursion (λ y. i ≤ y) rest → AllByRecursion (λ y. i ≤ y) (pick b i rest)
    picked true rest all = (omega arith, all)
    picked false rest all = all

within_rise : (a i : ℕ) (es : List (Option Claim)) → Rising (within_from a i es)
within_rise a i [] = tt
within_rise a i (e ∷ es) = picked (has_within a e) (within_from a (suc i) es) (strict (within_from a (suc i) es) (from_here a (suc i) es)) (within_rise a (suc i) es)
  where
    strict : (xs : List ℕ) → AllByRecursion (λ y. suc i ≤ y) xs → AllByRecursion (λ y. i < y) xs
    strict [] all = tt
    strict (x ∷ xs) all = (omega (arith, all.0), strict xs all.1)

    picked : (b : Bool) (rest : List ℕ) → AllByRecursion (λ y. i < y) rest → Rising rest → Rising (pick b i rest)
    picked true rest all rise = (all, rise)
    picked false rest all rise = rise

-- ---- their number

within_count : (a i : ℕ) (es : List (Option Claim)) → length (within_from a i es) ≡ count_by (has_within a) es
within_count a i [] = refl
within_count a i (e ∷ es) = picked (has_within a e) (within_from a (suc i) es) ∙ omega (arith, within_count a (suc i) es, sum_by-cons (λ (x : Option Claim). cond (has_within a x) 1 0) e es)
  where
    picked : (b : Bool) (rest : List ℕ) → length (pick b i rest) ≡ cond b 1 0 + length rest
    picked true rest = omega arith
    picked false rest = omega arith

-- ---- they are those that are entered so

is_there : (a i : ℕ) (es : List (Option Claim)) (k x : ℕ) (e : Option Claim) → slice_get es k ≡ Some e → has_within a e ≡ true → x ≡ i + k → IsIn x (within_from a i es)
is_there a i [] k x e there within at = absurd (let f : None ≡ Some e = there in cc)
is_there a i (z ∷ es) zero x e there within at = here (has_within a z) (within_from a (suc i) es) (ap (has_within a) (some_one z e there) ∙ within) (omega (arith, at))
  where
    some_one : {X : Type 0} (x y : X) → Some x ≡ Some y → x ≡ y
    some_one x y e = cc

    here : (b : Bool) (rest : List ℕ) → b ≡ true → x ≡ i → IsIn x (pick b i rest)
    here true rest so at = inl at
    here false rest so at = cc
is_there a i (z ∷ es) (suc k) x e there within at = more (has_within a z) (within_from a (suc i) es) (is_there a (suc i) es k x e there within (omega (arith, at)))
  where
    more : (b : Bool) (rest : List ℕ) → IsIn x rest → IsIn x (pick b i rest)
    more true rest h = inr h
    more false rest h = h

pub record IsEnteredSo (a i : ℕ) (es : List (Option Claim)) (x : ℕ) : Type 0 where
  pub index : ℕ
  pub entry : Option Claim
  pub there : slice_get es index ≡ Some entry
  pub within : has_within a entry ≡ true
  pub at : x ≡ i + index

from_there : (a i : ℕ) (es : List (Option Claim)) (x : ℕ) → IsIn x (within_from a i es) → IsEnteredSo a i es x
from_there a i [] x h = elim h [ ]
from_there a i (e ∷ es) x h = split (has_within a e) (within_from a (suc i) es) refl h (λ g. from_there a (suc i) es x g)
  where
    split : (b : Bool) (rest : List ℕ) → has_within a e ≡ b → IsIn x (pick b i rest) → (IsIn x rest → IsEnteredSo a (suc i) es x) → IsEnteredSo a i (e ∷ es) x
    split true rest is (inl at) on = record { index = 0; entry = e; there = refl; within = is; at = omega (arith, at) }
    split true rest is (inr h) on = let o = on h in record { index = suc o.index; entry = o.entry; there = o.there; within = o.within; at = omega (arith, o.at) }
    split false rest is h on = let o = on h in record { index = suc o.index; entry = o.entry; there = o.there; within = o.within; at = omega (arith, o.at) }

-- ---- all of the inode's blocks beside its dinode

is_true : (a : ℕ) (o : Owner) → IsWithin a o → is_within a o ≡ true
is_true a (Below d b k level first) at = eq-eqb d a at
is_true a (Chained d hash place) at = eq-eqb d a at
is_true a Root at = absurd at
is_true a Master at = absurd at
is_true a (Named parent name) at = absurd at
is_true a _ at = absurd at

so_within : (a : ℕ) (o : Owner) → is_within a o ≡ true → IsWithin a o
so_within a (Below d b k level first) e = eqb-true d a e
so_within a (Chained d hash place) e = eqb-true d a e
so_within a _ e = cc

is_of : (a : ℕ) (o : Owner) → IsWithin a o → IsOf a o
is_of a (Below d b k level first) at = at
is_of a (Chained d hash place) at = at
is_of a _ at = absurd at

none_within : (a : ℕ) (entries : List (Option Claim)) → ((k : ℕ) (e : Option Claim) → slice_get entries k ≡ Some e → has_within a e ≡ true → ⊥) → count_by (has_within a) entries ≡ 0
none_within a entries none = sym (within_count a 0 entries) ∙ ap length (empty (within_from a 0 entries) (λ x h. let e = from_there a 0 entries x h in none e.index e.entry e.there e.within))
  where
    empty : (xs : List ℕ) → ((x : ℕ) → IsIn x xs → ⊥) → xs ≡ []
    empty [] lacks = refl
    empty (x ∷ xs) lacks = absurd (lacks x (inl refl))

claim_of : (a : ℕ) (e : Option Claim) → has_within a e ≡ true → (claim : Claim) × (e ≡ Some claim) × (is_within a (owner_of claim) ≡ true)
claim_of a None within = cc
claim_of a (Some claim) within = (claim, refl, within)

-- an inode that has claimed nothing has none
pub fresh_within : (a : ℕ) (entries : List (Option Claim)) → IsFresh a entries → count_by (has_within a) entries ≡ 0
fresh_within a entries fresh = none_within a entries (λ k e there within.
    let c = claim_of a e within in
    fresh k c.0 (there ∙ ap Some c.1) (is_of a (owner_of c.0) (so_within a (owner_of c.0) c.2)))

pub block_count : (im : Image) (a count : ℕ) (entries : List (Option Claim)) → AreClaims im entries → ((by c : ℕ) (o : Owner) → Claims im by c o → IsWithin a o → HasClaim entries c o)
    → count ≡ count_by (has_within a) entries → IsBlockCount im a count
block_count im a count entries sound all is = record {
  blocks = within_from a 0 entries;
  all = record {
    rise = unrise (within_from a 0 entries) (within_rise a 0 entries);
    all = λ by c o claimed within.
        let has = all by c o claimed within in
        contained c (within_from a 0 entries) (is_there a 0 entries c c (Some has.claim) has.there (is_true a (owner_of has.claim) (subst (IsWithin a) (sym has.owner) within)) (omega arith));
    only = λ c there.
        let e = from_there a 0 entries c (is_in c (within_from a 0 entries) there) in
        let k = claim_of a e.entry e.within in
        let at : c ≡ e.index = omega (arith, e.at) in
        let claimed = sound e.index k.0 (e.there ∙ ap Some k.1) in
        (claimed.0, (owner_of k.0, subst (λ n. Claims im claimed.0 n (owner_of k.0)) (sym at) claimed.1, so_within a (owner_of k.0) k.2));
  };
  counted = is ∙ sym (within_count a 0 entries);
}

pub all_within : (im : Image) (a : ℕ) (entries : List (Option Claim)) → AllAreBelow im a entries
    → ((by x hash place : ℕ) → Claims im by x (Chained a hash place) → HasClaim entries x (Chained a hash place)) → (by c : ℕ) (o : Owner) → Claims im by c o → IsWithin a o → HasClaim entries c o
all_within im a entries below leaves by c (Below d b k level first) claimed at =
    subst (λ n. HasClaim entries c (Below n b k level first)) (sym at) (below by c b k level first (subst (λ n. Claims im by c (Below n b k level first)) at claimed))
all_within im a entries below leaves by c (Chained d hash place) claimed at =
    subst (λ n. HasClaim entries c (Chained n hash place)) (sym at) (leaves by c hash place (subst (λ n. Claims im by c (Chained n hash place)) at claimed))
all_within im a entries below leaves by c _ claimed at = absurd at
