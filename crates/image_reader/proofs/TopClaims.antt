-- What is claimed once a top directory is.
use Rattle.std.proofs.Common.{◌≡◌, ◌⊎◌, inl, inr, Bool, true, false, ℕ, zero, suc, List, [], ◌∷◌, Option, Some, None, slice_get, slice_set, refl, sym, ap, subst, ◌∙◌, ◌<◌}
use Rattle.file_tree.specs.Apply.{file_limit}
use Rattle.gfs2_layout.specs.Inode.{dinode_in}
use Rattle.image_model.specs.Claims.{every, Claims, root, master, below, first_leaf, next_leaf, in_dinode, in_leaf, IsUnder}
use Rattle.image_model.specs.Image.{Image, superblock_in}
use Rattle.image_reader.specs.Bitmaps.{AreAllClaims}
use Rattle.image_reader.specs.Leaves.{HasClaim}
use Rattle.image_reader.specs.Reading.{image_at}
use Rattle.image_model.specs.Rules.{too_long}
use Rattle.image_reader.specs.declared.blocks.Blocks.{Blocks}
use Rattle.image_reader.specs.Going.{ClaimsOnly, IsOf}
use Rattle.image_model.specs.Owners.{Owner, Root, Master, Below, Chained}
use Rattle.image_reader.specs.Owning.{owner_of, AreClaims, IsEmpty, IsEntered}
use Rattle.image_reader.specs.Untouched.{AreEntire, AreEntireBut, IsEntire, AreOwned, IsLimit, IsOfSome, IsUntouched, IsUnclaimed}
use Rattle.image_reader.specs.declared.owners.Claim.{Claim}
use Rattle.image_reader.proofs.Going.{entered_only}
use Rattle.image_reader.proofs.WalkFaults.{set_other}

set_there : {X : Type 0} (xs : List X) (i : ℕ) (x y : X) → slice_get xs i ≡ Some x → slice_get (slice_set xs i y) i ≡ Some y
set_there [] i x y there = absurd (let e : None ≡ Some x = there in cc)
set_there (z ∷ xs) zero x y there = refl
set_there (z ∷ xs) (suc i) x y there = set_there xs i x y there

-- the owner of a top directory is of no inode
of_none : (a : ℕ) (o : Owner) → (o ≡ Root) ⊎ (o ≡ Master) → IsOf a o → ⊥
of_none a o (inl is) of = subst (IsOf a) is of
of_none a o (inr is) of = subst (IsOf a) is of

module _ (a : ℕ) (old new : List (Option Claim)) (claim : Claim) (top : (owner_of claim ≡ Root) ⊎ (owner_of claim ≡ Master)) (owned : AreOwned old) (unclaimed : IsUnclaimed (owner_of claim) old) where
  top_now : (fresh : Bool) → IsEntered old new a claim fresh → AreOwned new × IsUntouched a new
  top_now false (known, same) = absurd (unclaimed a known.old known.there known.same)
  top_now true (lacks, is) =
      let only = entered_only (λ o. o ≡ owner_of claim) old new a claim true refl (lacks, is) in
      let other : (d : ℕ) (c : Claim) → owner_of c ≡ owner_of claim → IsOf d (owner_of c) → ⊥ = λ d c same of. of_none d (owner_of claim) top (subst (IsOf d) same of) in (
        λ b d c there of. elim (only.own b c there) [
          | inl before ↦ let by = owned b d c before of in (by.0, only.kept d by.0 by.1)
          | inr same ↦ absurd (other d c same of)
        ],
        record {
          claimed = (claim, ap (λ l. slice_get l a) is ∙ set_there old a None (Some claim) lacks);
          fresh = λ b c there of. elim (only.own b c there) [
            | inl before ↦ let by = owned b a c before of in let e : Some (Some by.0) ≡ Some None = sym by.1 ∙ lacks in cc
            | inr same ↦ other a c same of
          ];
        },
      )

  pub top_owned : (fresh : Bool) → IsEntered old new a claim fresh → AreOwned new
  top_owned fresh entered = (top_now fresh entered).0

  pub top_untouched : (fresh : Bool) → IsEntered old new a claim fresh → IsUntouched a new
  top_untouched fresh entered = (top_now fresh entered).1

pub top_only : (a : ℕ) (old new : List (Option Claim)) (claim : Claim) (fresh : Bool) → IsEntered old new a claim fresh → ClaimsOnly (λ o. o ≡ owner_of claim) old new
top_only a old new claim fresh entered = entered_only (λ o. o ≡ owner_of claim) old new a claim fresh refl entered

-- after the tree of the master directory nothing is the root's yet
pub root_unclaimed : (start mid now : List (Option Claim)) (o : Owner) → o ≡ Master → IsEmpty start → ClaimsOnly (λ p. p ≡ o) start mid → ClaimsOnly IsOfSome mid now → IsUnclaimed Root now
root_unclaimed start mid now o of_master empty first second b claim there is = elim (second.own b claim there) [
  | inl was ↦ elim (first.own b claim was) [
    | inl older ↦ empty b claim older
    | inr top ↦ let e : Master ≡ Root = sym of_master ∙ sym top ∙ is in cc
  ]
  | inr of ↦ of_none of.0 (owner_of claim) (inl is) of.1
]

-- no file in the root's tree is longer than a file may be
pub root_limit : (image : Blocks) (n a limit : ℕ) → n ≡ (superblock_in (image_at image)).root.address → limit ≡ file_limit → IsUnder (image_at image) n a → IsLimit (image_at image) (Some limit) a
root_limit image n a limit at is under regular large =
    too_long a (subst (λ m. IsUnder (image_at image) m a) at under) regular (subst (λ l. l < (dinode_in (every (image_at image) a)).size) is large)

-- each inode but the new one is entire
pub top_entire : (im : Image) (a : ℕ) (old new : List (Option Claim)) (claim : Claim) (fresh : Bool) → IsEntered old new a claim fresh → AreEntire im old → AreEntireBut a im new
top_entire im a old new claim fresh entered entire b o has dinode other by c p claimed of =
    let kept = (entered_only (λ q. q ≡ owner_of claim) old new a claim fresh refl entered).kept in
    let was : HasClaim old b o = record { claim = has.claim; there = before fresh entered has.claim has.there; owner = has.owner } in
    let m = entire b o was dinode by c p claimed of in
    record { claim = m.claim; there = kept c m.claim m.there; owner = m.owner }
  where
    before : (fresh : Bool) → IsEntered old new a claim fresh → (c : Claim) → slice_get new b ≡ Some (Some c) → slice_get old b ≡ Some (Some c)
    before false (known, same) c there = ap (λ l. slice_get l b) (sym same) ∙ there
    before true (lacks, is) c there = sym (set_other old a b (Some claim) other) ∙ ap (λ l. slice_get l b) (sym is) ∙ there

-- where both top directories are entered, and each inode is entire, all claims are entered
pub all_entered : (im : Image) (entries : List (Option Claim)) → HasClaim entries (superblock_in im).root.address Root → HasClaim entries (superblock_in im).master.address Master
    → AreEntire im entries → (by c : ℕ) (o : Owner) → Claims im by c o → HasClaim entries c o × ((a : ℕ) → IsOf a o → IsEntire im a entries)
all_entered im entries of_root of_master entire _ _ _ root = (of_root, λ a of. absurd of)
all_entered im entries of_root of_master entire _ _ _ master = (of_master, λ a of. absurd of)
all_entered im entries of_root of_master entire _ _ _ (below by a o b k level first c claimed dinode leads) =
    let here = entire a o (all_entered im entries of_root of_master entire by a o claimed).0 dinode in
    (here b c (Below a b k level first) (below by a o b k level first c claimed dinode leads) refl, λ d of. subst (λ n. IsEntire im n entries) of here)
all_entered im entries of_root of_master entire _ _ _ (first_leaf by a o i claimed dinode hashed low some) =
    let here = entire a o (all_entered im entries of_root of_master entire by a o claimed).0 dinode in
    (here _ _ _ (first_leaf by a o i claimed dinode hashed low some) refl, λ d of. subst (λ n. IsEntire im n entries) of here)
all_entered im entries of_root of_master entire _ _ _ (next_leaf by x a hash place claimed more) =
    let here = (all_entered im entries of_root of_master entire by x (Chained a hash place) claimed).1 a refl in
    (here _ _ _ (next_leaf by x a hash place claimed more) refl, λ d of. subst (λ n. IsEntire im n entries) of here)
all_entered im entries of_root of_master entire _ _ _ (in_dinode by a o r claimed dinode dir linear there dots) =
    let here = entire a o (all_entered im entries of_root of_master entire by a o claimed).0 dinode in
    (here _ _ _ (in_dinode by a o r claimed dinode dir linear there dots) refl, λ d of. subst (λ n. IsEntire im n entries) of here)
all_entered im entries of_root of_master entire _ _ _ (in_leaf by x a hash place r claimed there dots) =
    let here = (all_entered im entries of_root of_master entire by x (Chained a hash place) claimed).1 a refl in
    (here _ _ _ (in_leaf by x a hash place r claimed there dots) refl, λ d of. subst (λ n. IsEntire im n entries) of here)

pub all_claims : (im : Image) (entries : List (Option Claim)) → AreClaims im entries → HasClaim entries (superblock_in im).root.address Root → HasClaim entries (superblock_in im).master.address Master
    → AreEntire im entries → AreAllClaims im entries
all_claims im entries sound of_root of_master entire = record {
  sound = sound;
  all = λ by b o claimed. let has = (all_entered im entries of_root of_master entire by b o claimed).0 in (has.claim, has.there, has.owner);
}
