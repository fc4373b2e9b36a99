-- A walk over the tree of a top directory, place after place.
use Rattle.std.proofs.Common.{◌≡◌, ◌≢◌, ◌⊎◌, true, ℕ, zero, suc, ◌+◌, ◌<◌, ◌≤◌, List, [], ◌∷◌, length, Option, Some, None, inl, inr, refl, sym, ap, subst, ◌∙◌, arith}
use Rattle.std.proofs.lemmas.Bool.{cases_lt, cases_eq, true≢false}
use Rattle.std.specs.Prelude.{slice_get, slice_index_or}
use Rattle.std.specs.Option.{option_map}
use Rattle.std.specs.List.{All}
use Rattle.image_model.specs.Claims.{Claims, IsUnder, itself, by_name}
use Rattle.image_reader.specs.Complete.{AllAreFound}
use Rattle.image_reader.specs.Finding.{IsFoundIn}
use Rattle.image_reader.specs.Found.{IsEntryAt, inode_at, IsNamed, HasEntry, IsTreeOf}
use Rattle.image_reader.specs.Going.{IsVisitIn, IsOf, IsFresh, IsGoing, AreNoted, ClaimsOnly, IsTaken, IsNamedBy, GoesOn}
use Rattle.image_reader.specs.Leaves.{HasClaim}
use Rattle.image_model.specs.Owners.{Owner, Named, Below, Chained, is_dinode}
use Rattle.image_reader.specs.Owning.{owner_of}
use Rattle.image_reader.specs.Reading.{image_at, IsDinodeBlock}
use Rattle.image_reader.specs.Untouched.{IsClaimed, IsOfSome, AreOwned, IsUntouched, AreNamedApart, AllAreBelow, IsEntire, AreEntire, AreEntireBut}
use Rattle.image_reader.specs.Walking.{IsSound}
use Rattle.image_reader.specs.declared.blocks.Blocks.{Blocks}
use Rattle.image_reader.specs.declared.directory.Found.{Found}
use Rattle.image_reader.specs.declared.directory.Visit.{Visit}
use Rattle.image_reader.specs.declared.inode.Inode.{Inode}
use Rattle.image_reader.specs.declared.owners.Claim.{Claim}
use Rattle.image_reader.specs.declared.walk.Walk.{Walk}
use Rattle.image_reader.proofs.Going.{entry_stays}
use Rattle.image_reader.proofs.Listed.{got_low, get_at}
use Rattle.image_reader.proofs.Twins.{found_at}
use Rattle.image_reader.proofs.WalkFaults.{some_is}

-- the entry's name claims its block
pub record IsClaimedByName (entries : List (Option Claim)) (f : Found) : Type 0 where
  pub claim : Claim
  pub there : slice_get entries f.inode.block.number ≡ Some (Some claim)
  pub owner : owner_of claim ≡ Named f.parent f.name

-- the inode in block b is at a place to come
pub record IsToCome (top : Inode) (found : List Found) (next b : ℕ) : Type 0 where
  pub place : ℕ
  pub low : next ≤ place
  pub inode : Inode
  pub at : inode_at top found place ≡ Some inode
  pub block : inode.block.number ≡ b

-- The places before the next one are gone over: all that they name was found. From there on nothing is claimed by any.
pub record IsWalked (image : Blocks) (top : Inode) (entries : List (Option Claim)) (found : List Found) (next : ℕ) : Type 0 where
  pub owned : AreOwned entries
  pub true_of : All (IsFoundIn image) found
  pub named : (i : ℕ) (f : Found) → IsEntryAt found i f → IsNamed image top found i f
  pub under : (p : ℕ) (a : Inode) → inode_at top found p ≡ Some a → IsUnder (image_at image) top.block.number a.block.number
  pub untouched : (p : ℕ) (a : Inode) → next ≤ p → inode_at top found p ≡ Some a → IsUntouched a.block.number entries
  pub done : (p : ℕ) (a : Inode) (by b : ℕ) (name : List ℕ) → p < next → inode_at top found p ≡ Some a → Claims (image_at image) by b (Named a.block.number name) → HasEntry found p name b
  pub top_claimed : IsClaimed entries top.block.number
  pub claimed : (i : ℕ) (f : Found) → IsEntryAt found i f → IsClaimedByName entries f
  pub apart : (p q : ℕ) (a b : Inode) → inode_at top found p ≡ Some a → inode_at top found q ≡ Some b → a.block.number ≡ b.block.number → p ≡ q
  pub once : (i j : ℕ) (f g : Found) → IsEntryAt found i f → IsEntryAt found j g → f.up ≡ g.up → f.name ≡ g.name → i ≡ j
  pub entire : (b : ℕ) (o : Owner) → HasClaim entries b o → is_dinode o ≡ true → IsEntire (image_at image) b entries ⊎ IsToCome top found next b

-- ---- places

pub record IsEntryOf (found : List Found) (i : ℕ) (a : Inode) : Type 0 where
  pub entry : Found
  pub there : IsEntryAt found i entry
  pub inode : entry.inode ≡ a

pub entry_of : (top : Inode) (found : List Found) (i : ℕ) (a : Inode) → inode_at top found (suc i) ≡ Some a → IsEntryOf found i a
entry_of top found i a at = each (slice_get found i) refl at
  where
    each : (o : Option Found) → slice_get found i ≡ o → option_map (λ (f : Found). f.inode) o ≡ Some a → IsEntryOf found i a
    each None is e = absurd (let none : None ≡ Some a = e in cc)
    each (Some f) is e = record { entry = f; there = is; inode = some_is f.inode a e }

pub place_of : (top : Inode) (found : List Found) (i : ℕ) (f : Found) → IsEntryAt found i f → inode_at top found (suc i) ≡ Some f.inode
place_of top found i f there = ap (option_map (λ (g : Found). g.inode)) there

pub place_low : (top : Inode) (found : List Found) (p : ℕ) (a : Inode) → inode_at top found p ≡ Some a → p ≤ length found
place_low top found zero a at = omega arith
place_low top found (suc i) a at = let e = entry_of top found i a at in omega (arith, got_low found i e.entry e.there)

got_some : {X : Type 0} (xs : List X) (i : ℕ) → i < length xs → (x : X) × (slice_get xs i ≡ Some x)
got_some [] i low = absurd (omega arith)
got_some (x ∷ xs) zero low = (x, refl)
got_some (x ∷ xs) (suc i) low = got_some xs i (omega arith)

of_one : (a b : ℕ) (o : Owner) → IsOf a o → IsOf b o → a ≡ b
of_one a b (Named parent name) first second = sym first ∙ second
of_one a b (Below d x k level from) first second = sym first ∙ second
of_one a b (Chained d hash place) first second = sym first ∙ second
of_one a b _ first second = absurd first

-- ---- nothing is gone over yet

pub walked_none : (image : Blocks) (top : Inode) (entries : List (Option Claim)) (found : List Found) → found ≡ [] → AreOwned entries → IsUntouched top.block.number entries
    → AreEntireBut top.block.number (image_at image) entries → IsWalked image top entries found 0
walked_none image top entries found empty owned untouched entire = record {
  owned = owned;
  true_of = λ k d low. absurd (omega (arith, low, ap length empty));
  named = λ i f there. absurd (no_entry i f there);
  under = λ p a at. subst (λ (n : Inode). IsUnder (image_at image) top.block.number n.block.number) (top_is p a at) itself;
  untouched = λ p a low at. subst (λ (n : Inode). IsUntouched n.block.number entries) (top_is p a at) untouched;
  done = λ p a by b name low at claimed. absurd (omega (arith, low));
  top_claimed = untouched.claimed;
  claimed = λ i f there. absurd (no_entry i f there);
  apart = λ p q a b at other same. omega (arith, place_low top found p a at, place_low top found q b other, ap length empty);
  once = λ i j f g there other up named. absurd (no_entry i f there);
  entire = λ b o has dinode. elim (cases_eq b top.block.number) [
    | inl e ↦ inr (record { place = 0; low = omega arith; inode = top; at = refl; block = sym e })
    | inr other ↦ inl (entire b o has dinode other)
  ];
}
  where
    no_entry : (i : ℕ) (f : Found) → IsEntryAt found i f → ⊥
    no_entry i f there = omega (arith, got_low found i f there, ap length empty)

    top_is : (p : ℕ) (a : Inode) → inode_at top found p ≡ Some a → top ≡ a
    top_is zero a at = some_is top a at
    top_is (suc i) a at = absurd (omega (arith, place_low top found (suc i) a at, ap length empty))

-- ---- one more place

module _ (image : Blocks) (top : Inode) (visit : Visit) (old new : List (Option Claim)) (before after : List Found) (w : IsWalked image top old before visit.place)
    (here : inode_at top before visit.place ≡ Some visit.inode) (on : GoesOn (IsOf visit.inode.block.number) visit old before new after) (all : AllAreFound (image_at image) visit new after)
    (true_of : All (IsFoundIn image) after) (names : AreNamedApart (length before) after) (noted : AreNoted new visit after) (below : AllAreBelow (image_at image) visit.inode.block.number new) where
  abbrev a : ℕ
  a = visit.inode.block.number

  mine : IsUntouched a old
  mine = w.untouched visit.place visit.inode (omega arith) here

  -- what stays
  place_kept : (p : ℕ) (b : Inode) → inode_at top before p ≡ Some b → inode_at top after p ≡ Some b
  place_kept zero b at = at
  place_kept (suc i) b at =
      let e = entry_of top before i b at in
      place_of top after i e.entry (on.finds.kept i e.entry e.there) ∙ ap Some e.inode

  claimed_kept : (b : ℕ) → IsClaimed old b → IsClaimed new b
  claimed_kept b is = (is.0, on.claims.kept b is.0 is.1)

  -- a place of before is claimed
  place_claimed : (p : ℕ) (b : Inode) → inode_at top before p ≡ Some b → IsClaimed old b.block.number
  place_claimed zero b at = subst (λ (n : Inode). IsClaimed old n.block.number) (some_is top b at) w.top_claimed
  place_claimed (suc i) b at =
      let e = entry_of top before i b at in
      let c = w.claimed i e.entry e.there in
      subst (λ (n : Inode). IsClaimed old n.block.number) e.inode (c.claim, c.there)

  -- an entry that is new: its block was free
  record IsNew (i : ℕ) (f : Found) : Type 0 where
    late : length before ≤ i
    taken : IsTaken old new f
    by : IsNamedBy visit f
    is : IsFoundIn image f

  old_or_new : (i : ℕ) (f : Found) → IsEntryAt after i f → IsEntryAt before i f ⊎ IsNew i f
  old_or_new i f there = elim (on.taken.each i f there) [
    | inl was ↦ inl was
    | inr taken ↦ elim (on.finds.own i f there) [
      | inl was ↦ inl was
      | inr by ↦ elim (cases_lt i (length before)) [
        | inl low ↦
            let g = got_some before i low in
            let same : g.0 ≡ f = some_is g.0 f (sym (on.finds.kept i g.0 g.1) ∙ there) in
            inl (g.1 ∙ ap Some same)
        | inr late ↦ inr (record { late = omega (arith, late); taken = taken; by = by; is = found_at image after i f true_of there })
      ]
    ]
  ]

  record IsNewPlace (p : ℕ) (b : Inode) : Type 0 where
    index : ℕ
    place : p ≡ suc index
    entry : Found
    there : IsEntryAt after index entry
    inode : entry.inode ≡ b
    made : IsNew index entry

  place_or_new : (p : ℕ) (b : Inode) → inode_at top after p ≡ Some b → (inode_at top before p ≡ Some b) ⊎ IsNewPlace p b
  place_or_new zero b at = inl at
  place_or_new (suc i) b at =
      let e = entry_of top after i b at in
      elim (old_or_new i e.entry e.there) [
        | inl was ↦ inl (place_of top before i e.entry was ∙ ap Some e.inode)
        | inr is ↦ inr (record { index = i; place = refl; entry = e.entry; there = e.there; inode = e.inode; made = is })
      ]

  -- an inode that was claimed has no new place
  not_new : (b : ℕ) (p : ℕ) (n : Inode) → IsClaimed old b → IsNewPlace p n → b ≡ n.block.number → ⊥
  not_new b p n claimed is same =
      let at : b ≡ is.entry.inode.block.number = same ∙ sym (ap (λ (m : Inode). m.block.number) is.inode) in
      is.made.taken.free claimed.0 (ap (slice_get old) (sym at) ∙ claimed.1)

  owned' : AreOwned new
  owned' b c claim there of = elim (on.claims.own b claim there) [
    | inl was ↦ claimed_kept c (w.owned b c claim was of)
    | inr by ↦ subst (IsClaimed new) (of_one a c (owner_of claim) by of) (claimed_kept a mine.claimed)
  ]

  named' : (i : ℕ) (f : Found) → IsEntryAt after i f → IsNamed image top after i f
  named' i f there = elim (old_or_new i f there) [
    | inl was ↦
        let n = w.named i f was in
        record { of_image = n.of_image; name = n.name; above = n.above; before = n.before; up = place_kept f.up n.above n.up; parent = n.parent; claimed = n.claimed }
    | inr is ↦ record {
      of_image = is.is.same;
      name = is.is.named;
      above = visit.inode;
      before = omega (arith, is.by.0, is.late, place_low top before visit.place visit.inode here);
      up = ap (inode_at top after) is.by.0 ∙ place_kept visit.place visit.inode here;
      parent = is.by.1;
      claimed = is.is.claimed;
    }
  ]

  under' : (p : ℕ) (b : Inode) → inode_at top after p ≡ Some b → IsUnder (image_at image) top.block.number b.block.number
  under' p b at = elim (place_or_new p b at) [
    | inl was ↦ w.under p b was
    | inr is ↦
        let f = is.entry in
        let leads : Claims (image_at image) f.by f.inode.block.number (Named a f.name) = subst (λ n. Claims (image_at image) f.by f.inode.block.number (Named n f.name)) is.made.by.1 is.made.is.claimed in
        subst (λ (n : Inode). IsUnder (image_at image) top.block.number n.block.number) is.inode
        (by_name a f.inode.block.number f.name (w.under visit.place visit.inode here) (f.by, leads))
  ]

  -- nothing is claimed by an inode that isn't this one, if nothing was
  stays_fresh : (b : ℕ) → b ≢ a → ((c : ℕ) (claim : Claim) → slice_get old c ≡ Some (Some claim) → IsOf b (owner_of claim) → ⊥)
      → (c : ℕ) (claim : Claim) → slice_get new c ≡ Some (Some claim) → IsOf b (owner_of claim) → ⊥
  stays_fresh b other fresh c claim there of = elim (on.claims.own c claim there) [
    | inl was ↦ fresh c claim was of
    | inr by ↦ other (of_one b a (owner_of claim) of by)
  ]

  untouched' : (p : ℕ) (b : Inode) → visit.place + 1 ≤ p → inode_at top after p ≡ Some b → IsUntouched b.block.number new
  untouched' p b low at = elim (place_or_new p b at) [
    | inl was ↦
        let u = w.untouched p b (omega (arith, low)) was in
        let other : b.block.number ≢ a = λ e. absurd (omega (arith, low, w.apart p visit.place b visit.inode was here e)) in
        record { claimed = claimed_kept b.block.number u.claimed; fresh = stays_fresh b.block.number other u.fresh }
    | inr is ↦
        let n = is.entry.inode.block.number in
        let free : IsClaimed old n → ⊥ = λ c. is.made.taken.free c.0 c.1 in
        let other : n ≢ a = λ e. free (subst (IsClaimed old) (sym e) mine.claimed) in
        subst (λ (m : Inode). IsUntouched m.block.number new) is.inode (record {
          claimed = (is.made.taken.claim, is.made.taken.there);
          fresh = stays_fresh n other (λ c claim there of. free (w.owned c n claim there of));
        })
  ]

  done' : (p : ℕ) (b : Inode) (by c : ℕ) (name : List ℕ) → p < visit.place + 1 → inode_at top after p ≡ Some b → Claims (image_at image) by c (Named b.block.number name) → HasEntry after p name c
  done' p b by c name low at claimed = elim (place_or_new p b at) [
    | inl was ↦ elim (cases_eq p visit.place) [
      | inl e ↦
          let same : b ≡ visit.inode = some_is b visit.inode (sym was ∙ ap (inode_at top before) e ∙ here) in
          subst (λ n. HasEntry after n name c) (sym e) (all.names by c name (subst (λ (m : Inode). Claims (image_at image) by c (Named m.block.number name)) same claimed))
      | inr other ↦ entry_stays visit before after p name c on.finds (w.done p b by c name (omega (arith, low, other)) was claimed)
    ]
    | inr is ↦ absurd (omega (arith, low, is.place, is.made.late, place_low top before visit.place visit.inode here))
  ]

  claimed' : (i : ℕ) (f : Found) → IsEntryAt after i f → IsClaimedByName new f
  claimed' i f there = elim (old_or_new i f there) [
    | inl was ↦ let c = w.claimed i f was in record { claim = c.claim; there = on.claims.kept f.inode.block.number c.claim c.there; owner = c.owner }
    | inr is ↦ record { claim = is.taken.claim; there = is.taken.there; owner = is.taken.owner }
  ]

  apart_new : (p q : ℕ) (b c : Inode) → IsNewPlace p b → IsNewPlace q c → b.block.number ≡ c.block.number → p ≡ q
  apart_new p q b c is other same =
      let number = λ (m : Inode). m.block.number in
      elim (on.taken.apart is.index other.index is.entry other.entry is.there other.there (ap number is.inode ∙ same ∙ sym (ap number other.inode))) [
        | inl e ↦ is.place ∙ ap suc e ∙ sym other.place
        | inr (inl was) ↦ absurd (omega (arith, is.made.late, got_low before is.index is.entry was))
        | inr (inr was) ↦ absurd (omega (arith, other.made.late, got_low before other.index other.entry was))
      ]

  apart' : (p q : ℕ) (b c : Inode) → inode_at top after p ≡ Some b → inode_at top after q ≡ Some c → b.block.number ≡ c.block.number → p ≡ q
  apart' p q b c at other same = elim (place_or_new p b at) [
    | inl was ↦ elim (place_or_new q c other) [
      | inl too ↦ w.apart p q b c was too same
      | inr is ↦ absurd (not_new b.block.number q c (place_claimed p b was) is same)
    ]
    | inr is ↦ elim (place_or_new q c other) [
      | inl too ↦ absurd (not_new c.block.number p b (place_claimed q c too) is (sym same))
      | inr both ↦ apart_new p q b c is both same
    ]
  ]

  -- what was found before is not named by this directory
  not_by_this : (i : ℕ) (f : Found) → IsEntryAt before i f → f.up ≡ visit.place → ⊥
  not_by_this i f there up =
      let n = w.named i f there in
      let c = w.claimed i f there in
      let above : n.above ≡ visit.inode = some_is n.above visit.inode (sym n.up ∙ ap (inode_at top before) up ∙ here) in
      let parent : f.parent ≡ a = n.parent ∙ ap (λ (m : Inode). m.block.number) above in
      mine.fresh f.inode.block.number c.claim c.there (subst (IsOf a) (sym c.owner) parent)

  once' : (i j : ℕ) (f g : Found) → IsEntryAt after i f → IsEntryAt after j g → f.up ≡ g.up → f.name ≡ g.name → i ≡ j
  once' i j f g there other up named = elim (old_or_new i f there) [
    | inl was ↦ elim (old_or_new j g other) [
      | inl too ↦ w.once i j f g was too up named
      | inr is ↦ absurd (not_by_this i f was (up ∙ is.by.0))
    ]
    | inr is ↦ elim (old_or_new j g other) [
      | inl too ↦ absurd (not_by_this j g too (sym up ∙ is.by.0))
      | inr both ↦ names i j f g is.late both.late there other named
    ]
  ]

  -- the claims of this inode are entered
  mine_by_name : (by c : ℕ) (name : List ℕ) → Claims (image_at image) by c (Named a name) → HasClaim new c (Named a name)
  mine_by_name by c name claimed =
      let e = all.names by c name claimed in
      let f = e.entry in
      let n = named' e.index f e.there in
      let m = claimed' e.index f e.there in
      let above : n.above ≡ visit.inode = some_is n.above visit.inode (sym n.up ∙ ap (inode_at top after) e.up ∙ place_kept visit.place visit.inode here) in
      let parent : f.parent ≡ a = n.parent ∙ ap (λ (i : Inode). i.block.number) above in
      record { claim = m.claim; there = ap (slice_get new) (sym e.block) ∙ m.there; owner = m.owner ∙ (λ i. Named (parent i) (e.named i)) }

  mine_entire : IsEntire (image_at image) a new
  mine_entire by c (Named d name) claimed of =
      subst (λ n. HasClaim new c (Named n name)) (sym of) (mine_by_name by c name (subst (λ n. Claims (image_at image) by c (Named n name)) of claimed))
  mine_entire by c (Below d b k level first) claimed of =
      subst (λ n. HasClaim new c (Below n b k level first)) (sym of) (below by c b k level first (subst (λ n. Claims (image_at image) by c (Below n b k level first)) of claimed))
  mine_entire by c (Chained d hash place) claimed of =
      subst (λ n. HasClaim new c (Chained n hash place)) (sym of) (all.leaves by c hash place (subst (λ n. Claims (image_at image) by c (Chained n hash place)) of claimed))
  mine_entire by c _ claimed of = absurd of

  -- a block that this inode claims as a dinode is at a place to come
  named_to_come : (b : ℕ) (o : Owner) → HasClaim new b o → IsOf a o → is_dinode o ≡ true → IsToCome top after (visit.place + 1) b
  named_to_come b (Named d name) has of dinode =
      let e = noted b has.claim name has.there (has.owner ∙ ap (λ n. Named n name) of) in
      let n = named' e.index e.entry e.there in
      record { place = suc e.index; low = omega (arith, e.up, n.before); inode = e.entry.inode; at = place_of top after e.index e.entry e.there; block = e.block }
  named_to_come b (Below d x k level first) has of dinode = absurd (true≢false (sym dinode))
  named_to_come b (Chained d hash place) has of dinode = absurd (true≢false (sym dinode))
  named_to_come b _ has of dinode = absurd of

  entire' : (b : ℕ) (o : Owner) → HasClaim new b o → is_dinode o ≡ true → IsEntire (image_at image) b new ⊎ IsToCome top after (visit.place + 1) b
  entire' b o has dinode = elim (on.claims.own b has.claim has.there) [
    | inl was ↦ elim (w.entire b o (record { claim = has.claim; there = was; owner = has.owner }) dinode) [
      | inl is ↦ inl (λ by c p claimed of. let m = is by c p claimed of in record { claim = m.claim; there = on.claims.kept c m.claim m.there; owner = m.owner })
      | inr come ↦ elim (cases_eq come.place visit.place) [
        | inl e ↦
            let same : come.inode ≡ visit.inode = some_is come.inode visit.inode (sym come.at ∙ ap (inode_at top before) e ∙ here) in
            inl (subst (λ n. IsEntire (image_at image) n new) (ap (λ (i : Inode). i.block.number) (sym same) ∙ come.block) mine_entire)
        | inr other ↦ inr (record { place = come.place; low = omega (arith, come.low, other); inode = come.inode; at = place_kept come.place come.inode come.at; block = come.block })
      ]
    ]
    | inr of ↦ inr (named_to_come b o has (subst (IsOf a) has.owner of) dinode)
  ]

  pub walked_more : IsWalked image top new after (visit.place + 1)
  walked_more = record {
    owned = owned';
    true_of = true_of;
    named = named';
    under = under';
    untouched = untouched';
    done = done';
    top_claimed = claimed_kept top.block.number w.top_claimed;
    claimed = claimed';
    apart = apart';
    once = once';
    entire = entire';
  }

-- ---- all places

pub walked_all : (image : Blocks) (top : Inode) (entries : List (Option Claim)) (found : List Found) (next : ℕ) → top.block.image ≡ image → IsDinodeBlock top.block → length found < next
    → IsWalked image top entries found next → IsTreeOf image top found
walked_all image top entries found next own dinode past w = record {
  of_image = own;
  dinode = dinode;
  named = w.named;
  all = λ p a by b name at claimed. w.done p a by b name (omega (arith, past, place_low top found p a at)) at claimed;
  once = w.once;
}

pub entire_all : (image : Blocks) (top : Inode) (entries : List (Option Claim)) (found : List Found) (next : ℕ) → length found < next → IsWalked image top entries found next
    → AreEntire (image_at image) entries
entire_all image top entries found next past w a o has dinode = elim (w.entire a o has dinode) [
  | inl is ↦ is
  | inr come ↦ absurd (omega (arith, past, come.low, place_low top found come.place come.inode come.at))
]

-- claims by inodes
pub of_some : (a : ℕ) (old new : List (Option Claim)) → ClaimsOnly (IsOf a) old new → ClaimsOnly IsOfSome old new
of_some a old new only = record {
  kept = only.kept;
  own = λ b claim there. elim (only.own b claim there) [ inl was ↦ inl was | inr of ↦ inr (a, of) ];
}

-- ---- what the code has

-- an inode that has claimed nothing may be gone over
pub going_untouched : (walk : Walk) (visit : Visit) (found : List Found) → IsSound walk → IsVisitIn walk.image visit → All (IsFoundIn walk.image) found
    → IsFresh visit.inode.block.number walk.owners.entries.items → IsGoing walk visit found
going_untouched walk visit found sound visited true_of fresh = record {
  sound = sound;
  visited = visited;
  true_of = true_of;
  noted = λ b claim name there owner. absurd (fresh b claim there (subst (IsOf visit.inode.block.number) (sym owner) refl));
}

-- the inode at the place behind those that are gone over
pub entry_here : (top : Inode) (found : List Found) (next : ℕ) (f : Found) (visit : Visit) → next < length found → f ≡ slice_index_or found next f → visit.inode ≡ f.inode
    → inode_at top found (next + 1) ≡ Some visit.inode
entry_here top found next f visit low read same =
    let next_is : next + 1 ≡ suc next = omega arith in
    ap (inode_at top found) next_is ∙ place_of top found next f (get_at found next f low read) ∙ ap Some (sym same)

pub walked_next : (image start after_all : Blocks) (top : Inode) (visit : Visit) (old new : List (Option Claim)) (before after : List Found) (next : ℕ) → start ≡ image → after_all ≡ image
    → IsWalked image top old before next → visit.place ≡ next → inode_at top before next ≡ Some visit.inode → GoesOn (IsOf visit.inode.block.number) visit old before new after
    → AllAreFound (image_at start) visit new after → All (IsFoundIn after_all) after → AreNamedApart (length before) after → AreNoted new visit after
    → AllAreBelow (image_at start) visit.inode.block.number new → IsWalked image top new after (next + 1)
walked_next image start after_all top visit old new before after next start_is end_is w place here on all true_of names noted below =
    subst (λ n. IsWalked image top new after (n + 1)) place
    (walked_more image top visit old new before after (subst (IsWalked image top old before) (sym place) w) (ap (inode_at top before) place ∙ here) on
    (subst (λ (i : Blocks). AllAreFound (image_at i) visit new after) start_is all) (subst (λ (i : Blocks). All (IsFoundIn i) after) end_is true_of) names noted
    (subst (λ (i : Blocks). AllAreBelow (image_at i) visit.inode.block.number new) start_is below))
