-- What claiming an inode's blocks of content adds.
use Rattle.std.proofs.Common.{◌≡◌, Bool, true, false, ℕ, List, Option, inl, inr, refl, sym, ap, subst, ◌∙◌, arith}
use Rattle.std.proofs.lemmas.Bool.{eq-eqb}
use Rattle.image_reader.specs.Going.{IsGoing, IsBelow, IsOf, is_within, TakesOnly, GoesOn}
use Rattle.image_reader.specs.Leaves.{LeavesStay}
use Rattle.image_model.specs.Owners.{Owner, Named, Below, Chained}
use Rattle.image_reader.specs.Owning.{owner_of, IsEntered}
use Rattle.image_reader.specs.Walking.{IsSound}
use Rattle.image_reader.specs.declared.directory.Found.{Found}
use Rattle.image_reader.specs.declared.directory.Visit.{Visit}
use Rattle.image_reader.specs.declared.owners.Claim.{Claim}
use Rattle.image_reader.specs.declared.walk.Walk.{Walk}
use Rattle.image_reader.proofs.Going.{taken_none, claims_stay, claims_then, finds_stay, entered_only, entered_count, visit_of, all_of_image}
use Rattle.image_model.proofs.Rising.{one_if}

pub takes_stay : (a : ℕ) (old : List (Option Claim)) → TakesOnly a old old
takes_stay a old = record { claims = claims_stay (IsBelow a) old; counted = refl }

pub takes_then : (a : ℕ) (old mid new : List (Option Claim)) → TakesOnly a old mid → TakesOnly a mid new → TakesOnly a old new
takes_then a old mid new first second = record { claims = claims_then (IsBelow a) old mid new first.claims second.claims; counted = second.counted ∙ first.counted }

pub takes_entered : (a : ℕ) (old new : List (Option Claim)) (x : ℕ) (claim : Claim) (fresh : Bool) (b k level first : ℕ) → owner_of claim ≡ Below a b k level first → IsEntered old new x claim fresh
    → TakesOnly a old new
takes_entered a old new x claim false b k level first owner (known, same) = subst (TakesOnly a old) (sym same) (takes_stay a old)
takes_entered a old new x claim true b k level first owner entered =
    let count = entered_count a old new x claim entered in
    let within : one_if (is_within a (owner_of claim)) ≡ one_if true = ap (λ o. one_if (is_within a o)) owner ∙ ap one_if (eq-eqb a a refl) in
    record {
      claims = entered_only (IsBelow a) old new x claim true (subst (IsBelow a) (sym owner) refl) entered;
      counted = omega (arith, count, within);
    }

below_is_of : (a : ℕ) (o : Owner) → IsBelow a o → IsOf a o
below_is_of a (Below d b k level first) of = of
below_is_of a _ of = absurd of

not_named : (a b : ℕ) (name : List ℕ) (o : Owner) → IsBelow a o → o ≡ Named b name → ⊥
not_named a b name o below is = subst (IsBelow a) is below

not_chained : (a b hash place : ℕ) (o : Owner) → IsBelow a o → o ≡ Chained b hash place → ⊥
not_chained a b hash place o below is = subst (IsBelow a) is below

pub leaves_not_taken : (a : ℕ) (old new : List (Option Claim)) → TakesOnly a old new → LeavesStay a old new
leaves_not_taken a old new takes x hash place has = elim (takes.claims.own x has.claim has.there) [
  | inl was ↦ record { claim = has.claim; there = was; owner = has.owner }
  | inr below ↦ absurd (not_chained a a hash place (owner_of has.claim) below has.owner)
]

pub going_taken : (old new : Walk) (visit : Visit) (found : List Found) → IsGoing old visit found → new.image ≡ old.image → IsSound new
    → TakesOnly visit.inode.block.number old.owners.entries.items new.owners.entries.items → IsGoing new visit found
going_taken old new visit found going same sound takes = record {
  sound = sound;
  visited = visit_of old.image new.image visit (sym same) going.visited;
  true_of = all_of_image old.image new.image found (sym same) going.true_of;
  noted = λ b claim name there named. elim (takes.claims.own b claim there) [
    | inl was ↦ going.noted b claim name was named
    | inr below ↦ absurd (not_named visit.inode.block.number visit.inode.block.number name (owner_of claim) below named)
  ];
}

pub goes_taken : (visit : Visit) (old new : List (Option Claim)) (found : List Found) → TakesOnly visit.inode.block.number old new → GoesOn (IsOf visit.inode.block.number) visit old found new found
goes_taken visit old new found takes = record {
  claims = record {
    kept = takes.claims.kept;
    own = λ x claim there. elim (takes.claims.own x claim there) [ inl was ↦ inl was | inr below ↦ inr (below_is_of visit.inode.block.number (owner_of claim) below) ];
  };
  finds = finds_stay visit found;
  taken = taken_none old new found;
  counted = omega (arith, takes.counted);
}
