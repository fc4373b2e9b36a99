-- What claiming a block finds broken.
use Rattle.image_reader.proofs.MasterFound.{is_contained}
use Rattle.std.proofs.Common.{◌≡◌, ◌≢◌, ◌⊎◌, Bool, true, false, ℕ, zero, suc, [], ◌∷◌, ◌++◌, ◌-◌, ◌<◌, ◌≤◌, List, Bor, Option, Some, None, inl, inr, refl, sym, ap, subst, ◌∙◌, arith}
use Rattle.std.specs.Prelude.{if◌then◌else◌, MatchOption, slice_get, slice_set}
use Rattle.std.specs.List.{All}
use Rattle.std.proofs.lemmas.Bool.{cases_lt}
use Rattle.std.proofs.lemmas.List.Elements.{All-contains}
use Rattle.gfs2_layout.specs.declared.rindex.Rindex.{Rindex}
use Rattle.gfs2_layout.specs.Inode.{entry}
use Rattle.image_model.specs.Claims.{every, Claims, HasLeaf}
use Rattle.image_model.specs.Groups.{IsDataOf}
use Rattle.image_model.specs.Image.{Image}
use Rattle.image_model.specs.Owners.{Owner, Root, Master, Chained, AreOneChain}
use Rattle.image_reader.specs.Owning.{owner_of, pointer_for, AreClaims, IsClash, IsEmpty, IsPlaced}
use Rattle.image_reader.specs.Reading.{image_at, IsTrueOf}
use Rattle.image_model.specs.Rules.{Breaks, IsOutside, beyond_device, beyond_groups, two_owners, comes_again, IsWholeList}
use Rattle.image_reader.specs.Walking.{IsSound, IsOutsideKnown}
use Rattle.image_reader.specs.declared.image.ImageFault.{ImageFault}
use Rattle.image_reader.specs.declared.image.ImageFault.TheVariants.{Damaged}
use Rattle.image_reader.specs.declared.owners.Claim.{Claim}
use Rattle.image_reader.specs.declared.walk.Walk.{Walk}
use Rattle.image_model.proofs.Behind.{behind_nearer}
use Rattle.image_reader.proofs.InodeFaults.{told, told_at}

-- ---- outside the device, or the groups

pub beyond : (walk : Walk) (fault : ImageFault) (by number : ℕ) (o : Owner) → fault ≡ Damaged by 2 → by < walk.image.count → Claims (image_at walk.image) by number o
    → walk.image.count ≤ number → IsTrueOf (image_at walk.image) fault
beyond walk fault by number o is inside claimed past =
    let counted = walk.image.counted in
    told_at walk.image fault _ _ is inside (beyond_device by number o claimed (omega (arith, counted, past)))

outside_of : (im : Image) (groups : Option (Bor (List Rindex))) (number : ℕ) → MatchOption groups (Unit {0}) (λ known. IsWholeList im known.now)
    → MatchOption groups ⊥ (λ known. All (λ g. ¬ (IsDataOf g number)) known.now) → IsOutside im number
outside_of im None number all outside = absurd outside
outside_of im (Some known) number all outside = (known.now, all, λ g at inside. All-contains (λ g. ¬ (IsDataOf g number)) known.now g outside (is_contained known.now g at) inside)

pub past_groups : (walk : Walk) (fault : ImageFault) (by number : ℕ) (o : Owner) → fault ≡ Damaged by 2 → by < walk.image.count → Claims (image_at walk.image) by number o
    → IsSound walk → IsOutsideKnown walk number → IsTrueOf (image_at walk.image) fault
past_groups walk fault by number o is inside claimed sound outside =
    told_at walk.image fault _ _ is inside (beyond_groups by number o claimed (outside_of (image_at walk.image) walk.groups number sound.groups outside))

-- ---- claimed twice

-- a leaf at two places of one chain stands behind itself
comes_round : (im : Image) (x from a hash place later : ℕ) → Claims im from x (Chained a hash place) → IsPlaced im x (Chained a hash place) → IsPlaced im x (Chained a hash later)
    → Chained a hash place ≢ Chained a hash later → Breaks im 15 x
comes_round im x from a hash place later claimed first second other =
    let head = entry (every im a) (pointer_for im a hash) in
    let has : HasLeaf im a x = (from, hash, place, claimed) in
    elim (cases_lt place later) [
      | inl less ↦ comes_again a x (later - place) has (behind_nearer im a head place x later x first second (omega (arith, less))) (omega (arith, less))
      | inr past ↦ elim (cases_lt later place) [
        | inl less ↦ comes_again a x (place - later) has (behind_nearer im a head later x place x second first (omega (arith, less))) (omega (arith, less))
        | inr back ↦
            let same : place ≡ later = omega (arith, past, back) in
            absurd (other (ap (Chained a hash) same))
      ]
    ]

chain_breaks : (im : Image) (x from : ℕ) (o p : Owner) → Claims im from x o → IsPlaced im x o → IsPlaced im x p → o ≢ p → AreOneChain o p → Breaks im 15 x
chain_breaks im x from (Chained a hash place) (Chained b more later) claimed first second other one =
    let same : Chained b more later ≡ Chained a hash later = λ i. Chained (sym one.0 i) (sym one.1 i) later in
    comes_round im x from a hash place later claimed first (subst (IsPlaced im x) same second) (λ e. other (e ∙ sym same))
chain_breaks im x from _ _ claimed first second other one = absurd one

pub clash : (im : Image) (entries : List (Option Claim)) (x by : ℕ) (claim : Claim) (fault : ImageFault) → x < im.count → AreClaims im entries → Claims im by x (owner_of claim)
    → IsPlaced im x (owner_of claim) → IsClash entries x claim fault → IsTrueOf im fault
clash im entries x by claim fault inside claims claimed placed c =
    let old = claims x c.old c.there in
    elim c.told [
      | inl three ↦ told im fault x 3 three.0 inside (two_owners x old.0 by (owner_of c.old) (owner_of claim) old.1 claimed c.other three.1)
      | inr fifteen ↦ told im fault x 15 fifteen.0 inside (chain_breaks im x old.0 (owner_of c.old) (owner_of claim) old.1 old.2 placed c.other fifteen.1)
    ]

-- ---- entering a claim

pub set_other : {X : Type 0} → (xs : List X) (i b : ℕ) (v : X) → b ≢ i → slice_get (slice_set xs i v) b ≡ slice_get xs b
set_other [] i b v other = refl
set_other (x ∷ xs) zero zero v other = absurd (other refl)
set_other (x ∷ xs) zero (suc b) v other = refl
set_other (x ∷ xs) (suc i) zero v other = refl
set_other (x ∷ xs) (suc i) (suc b) v other = set_other xs i b v (λ e. other (ap suc e))

pub set_here : {X : Type 0} → (xs : List X) (i : ℕ) (v y : X) → slice_get (slice_set xs i v) i ≡ Some y → y ≡ v
set_here [] i v y there = cc
set_here (x ∷ xs) zero v y there = cc
set_here (x ∷ xs) (suc i) v y there = set_here xs i v y there

pub some_is : {X : Type 0} → (x y : X) → Some x ≡ Some y → x ≡ y
some_is x y e = cc

entered_at : (im : Image) (entries : List (Option Claim)) (x by : ℕ) (claim : Claim) → AreClaims im entries → Claims im by x (owner_of claim) → IsPlaced im x (owner_of claim)
    → (b : ℕ) (other : Claim) → (b ≡ x) ⊎ (b ≢ x) → slice_get (slice_set entries x (Some claim)) b ≡ Some (Some other) → (from : ℕ) × Claims im from b (owner_of other) × IsPlaced im b (owner_of other)
entered_at im entries x by claim claims claimed placed b other (inl same) there =
    let at_x : slice_get (slice_set entries x (Some claim)) x ≡ Some (Some other) = subst (λ n. slice_get (slice_set entries x (Some claim)) n ≡ Some (Some other)) same there in
    let is : other ≡ claim = some_is other claim (set_here entries x (Some claim) (Some other) at_x) in
    let P : ℕ → Type 0 = λ n. Claims im by n (owner_of other) in (
      by,
      subst P (sym same) (subst (λ (c : Claim). Claims im by x (owner_of c)) (sym is) claimed),
      subst (λ n. IsPlaced im n (owner_of other)) (sym same) (subst (λ (c : Claim). IsPlaced im x (owner_of c)) (sym is) placed),
    )
entered_at im entries x by claim claims claimed placed b other (inr apart) there = claims b other (sym (set_other entries x b (Some claim) apart) ∙ there)

pub same_or_not : (a b : ℕ) → (a ≡ b) ⊎ (a ≢ b)
same_or_not a b = elim (cases_lt a b) [
  | inl less ↦ inr (λ e. absurd (omega (arith, less, e)))
  | inr past ↦ elim (cases_lt b a) [
    | inl less ↦ inr (λ e. absurd (omega (arith, less, e)))
    | inr back ↦ inl (omega (arith, past, back))
  ]
]

pub entered : (im : Image) (entries : List (Option Claim)) (x by : ℕ) (claim : Claim) → AreClaims im entries → Claims im by x (owner_of claim) → IsPlaced im x (owner_of claim)
    → AreClaims im (slice_set entries x (Some claim))
entered im entries x by claim claims claimed placed b other there = entered_at im entries x by claim claims claimed placed b other (same_or_not b x) there

pub entered_if : (im : Image) (entries later : List (Option Claim)) (x by : ℕ) (claim : Claim) (fresh : Bool) → later ≡ (if fresh then slice_set entries x (Some claim) else entries)
    → AreClaims im entries → Claims im by x (owner_of claim) → IsPlaced im x (owner_of claim) → AreClaims im later
entered_if im entries later x by claim true is claims claimed placed = subst (AreClaims im) (sym is) (entered im entries x by claim claims claimed placed)
entered_if im entries later x by claim false is claims claimed placed = subst (AreClaims im) (sym is) claims

-- a top directory is no leaf
pub placed_top : (im : Image) (x : ℕ) (o : Owner) → (o ≡ Root) ⊎ (o ≡ Master) → IsPlaced im x o
placed_top im x o (inl root) = subst (IsPlaced im x) (sym root) tt
placed_top im x o (inr master) = subst (IsPlaced im x) (sym master) tt

-- ---- a table of nothing

no_last : (entries : List (Option Claim)) (b : ℕ) (claim : Claim) → IsEmpty entries → slice_get (entries ++ None ∷ []) b ≡ Some (Some claim) → ⊥
no_last [] zero claim empty there = absurd (let e : Some None ≡ Some (Some claim) = there in cc)
no_last [] (suc b) claim empty there = absurd (let e : None ≡ Some (Some claim) = there in cc)
no_last (e ∷ entries) zero claim empty there = empty zero claim there
no_last (e ∷ entries) (suc b) claim empty there = no_last entries b claim (λ k c at. empty (suc k) c at) there

pub empty_more : (entries later : List (Option Claim)) → later ≡ entries ++ None ∷ [] → IsEmpty entries → IsEmpty later
empty_more entries later is empty b claim there = no_last entries b claim empty (ap (λ es. slice_get es b) (sym is) ∙ there)

pub empty_start : (entries : List (Option Claim)) → entries ≡ [] → IsEmpty entries
empty_start entries is b claim there = absurd (let e : None ≡ Some (Some claim) = ap (λ es. slice_get es b) (sym is) ∙ there in cc)

pub empty_claims : (im : Image) (entries : List (Option Claim)) → IsEmpty entries → AreClaims im entries
empty_claims im entries empty b claim there = absurd (empty b claim there)
