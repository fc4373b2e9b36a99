-- The groups of a draft that says what was taken and what is free. d0 is the draft before, which left the groups, d1 that with the taken blocks, and d2 that with all.
use Rattle.std.proofs.Common.{◌≡◌, ◌⊎◌, inl, inr, false, ℕ, List, ◌++◌, None, Some, sym, ap, ◌∙◌, subst, arith}
use Rattle.std.proofs.lemmas.List.Elements.{Contains-append_cases, Contains-append_left, Contains-append_right}
use Rattle.std.specs.Prelude.{Contains}
use Rattle.std.specs.FinMap.{get}
use Rattle.drafts.specs.Fates.{AreWhole, Drafted, seen_in, seen_with}
use Rattle.drafts.specs.declared.change.Change.{Change}
use Rattle.drafts.specs.declared.fate.Fate.TheVariants.{Put}
use Rattle.glock_names.specs.Views.{Seen, HasBlock, HasGroup, IsView}
use Rattle.glock_names.specs.declared.steps.Missing.{Missing}
use Rattle.glock_names.specs.declared.views.Group.{Group}
use Rattle.resource_groups.specs.Freeing.{AreFreed, BreaksSome, HasSome, IsNeededFor, IsSameOrPut, KeepsRest, SaysStateOfSome}
use Rattle.resource_groups.specs.Putting.{ArePutIn, overlaid}
use Rattle.resource_groups.specs.Shown.{IsBroken, IsHeaderOf, IsShown, group_lock}
use Rattle.resource_groups.specs.Taking.{AreTaken, KeepsBlocks}
use Rattle.resource_groups.proofs.PutIn.{puts_say, puts_to}
use Rattle.resource_groups.proofs.Sets.{broken_before, groups_same, over_twice, shown_over, size_same}
use Rattle.image_changes.specs.Drafted.{IsFinished}
use Rattle.name_drafts.specs.Steps.{LeavesGroups}
use Rattle.name_drafts.proofs.Faults.{kept_before, needed_before, own_header, sees_below, shown_then}
use Rattle.name_moves.specs.Moving.{SaysMoved}
use Rattle.name_moves.specs.Steps.{AreSaidAndDone}

same_or_both : {V : Type 0} (a b c : Drafted V) (g : Group) (n : ℕ) → IsSameOrPut a b g n → IsSameOrPut b c g n → IsSameOrPut a c g n
same_or_both a b c g n (inl before) (inl same) = inl (same ∙ before)
same_or_both a b c g n (inr put) (inl same) = inr (put.0, same ∙ put.1)
same_or_both a b c g n before (inr put) = inr put

module _ {V : Type 0} (seen : V → Seen) (d0 d1 : Drafted V) (taken : List ℕ) (takes : AreTaken seen d0 d1 taken) (rest : KeepsBlocks seen d0 d1 taken) (shows : IsView (seen_in seen d0)) (shows1 : IsView (seen_in seen d1))
    (leaves : LeavesGroups (seen d0.view) d0.fates) where
  abbrev v : Seen
  v = seen d0.view

  pub has1 : (g : Group) → HasGroup v g → HasGroup (seen_in seen d1) g
  has1 g has = groups_same seen d0 d1 rest.view g has

  abbrev first : (ℕ → List ℕ) → ℕ → List ℕ
  first at = overlaid (seen_in seen d1) at

  module _ (g : Group) (at : ℕ → List ℕ) (has : HasGroup v g) (shown : IsShown v g at) where
    shown0 : IsShown (seen_in seen d0) g at
    shown0 = shown_then v d0.fates leaves g at has shown

    shown1 : IsShown (seen_in seen d1) g (first at)
    shown1 = shown_over (seen_in seen d0) (seen_in seen d1) g at shows1 (size_same seen d0 d1 rest.view) shown0

    puts1 : ArePutIn at (first at) g taken 1
    puts1 = takes.puts g at has shown0

    -- what is broken then was broken before
    breaks1 : (rule b : ℕ) → IsBroken (first at) g rule b → IsBroken at g rule b
    breaks1 rule b broken = broken_before (seen_in seen d0) g at (first at) taken 1 (omega arith) shows has shown0 (puts_say at (first at) g taken 1 puts1) rule b broken

  pub breaks_taken : (blocks : List ℕ) (rule c : ℕ) → BreaksSome (seen_in seen d1) blocks rule c → BreaksSome v blocks rule c
  breaks_taken blocks rule c (g, there, some, broken) =
      let has : HasGroup v g = groups_same seen d1 d0 (sym rest.view) g there in
      (g, has, some, λ at shown. breaks1 g at has shown rule c (broken (first at) (shown1 g at has shown)))

  pub needs_taken : (blocks : List ℕ) (m : Missing) → IsNeededFor (seen_in seen d1) blocks m → IsNeededFor v blocks m
  needs_taken blocks m needed = needed_before v d1.fates blocks m (subst (λ x. IsNeededFor (seen_with (seen x) d1.fates) blocks m) rest.view needed)

  -- a block of which a rule is told is one that the view has
  pub kept_taken : (blocks : List ℕ) (rule c : ℕ) → BreaksSome v blocks rule c → HasBlock (seen_in seen d1) c → HasBlock v c
  kept_taken blocks rule c breaks there =
      kept_before v d0.fates leaves shows (seen_in seen d1) (λ g b has own there1. sees_below v d0.fates leaves g b has own (takes.sees b there1)) blocks rule c breaks there

  module _ (d2 : Drafted V) (freed : List ℕ) (frees : AreFreed seen d1 d2 freed) (rest2 : KeepsRest seen d1 d2 freed) where
    view2 : d2.view ≡ d0.view
    view2 = rest2.view ∙ rest.view

    sizes : (d : Drafted V) → d.view ≡ d0.view → (seen d.view).size ≡ v.size
    sizes d same = ap (λ (x : V). (seen x).size) same

    all2 : (g : Group) (c : ℕ) → HasGroup v g → IsHeaderOf g c → IsSameOrPut d0 d2 g c
    all2 g c has own = same_or_both d0 d1 d2 g c (takes.headers g c has own) (frees.headers g c (has1 g has) own)

    says2 : (at : ℕ → List ℕ) (g : Group) → HasGroup v g → IsShown v g at → SaysMoved at (overlaid (seen_in seen d2) at) taken freed g
    says2 at g has shown = record {
      first = first at;
      takes = puts1 g at has shown;
      frees = puts_to (first at) (overlaid (seen_in seen d2) (first at)) (overlaid (seen_in seen d2) at) g freed 0 (frees.puts g (first at) (has1 g has) (shown1 g at has shown))
          (λ c own. sym (over_twice seen d1 d2 rest2.view g at c (frees.headers g c (has1 g has) own)));
    }

    headers2 : (g : Group) (c : ℕ) → HasGroup v g → IsHeaderOf g c → (get d2.fates c ≡ None) ⊎ ((bytes : List ℕ) × (get d2.fates c ≡ Some (Put (group_lock g) false bytes)))
    headers2 g c has own = elim (all2 g c has own) [ inl same ↦ inl (same ∙ leaves g c has own) | inr put ↦ inr put ]

    only2 : (g : Group) (c : ℕ) → HasGroup v g → IsHeaderOf g c → ¬ (SaysStateOfSome v.size g (taken ++ freed) c) → get d2.fates c ≡ None
    only2 g c has own none =
        frees.only g c (has1 g has) own (λ some. none (later (subst (λ n. SaysStateOfSome n g freed c) (sizes d1 rest.view) some)))
        ∙ takes.only g c has own (λ some. none (early some)) ∙ leaves g c has own
      where
        later : SaysStateOfSome v.size g freed c → SaysStateOfSome v.size g (taken ++ freed) c
        later (b, there, of_g, says) = (b, Contains-append_right taken freed b there, of_g, says)

        early : SaysStateOfSome v.size g taken c → SaysStateOfSome v.size g (taken ++ freed) c
        early (b, there, of_g, says) = (b, Contains-append_left taken freed b there, of_g, says)

    counts2 : (g : Group) → HasGroup v g → HasSome g (taken ++ freed) → (bytes : List ℕ) × (get d2.fates g.addr ≡ Some (Put (group_lock g) false bytes))
    counts2 g has (b, there, of_g) = elim (Contains-append_cases taken freed b there) [
      | inl early ↦
          let before = takes.counts g has (b, early, of_g) in
          elim (frees.headers g g.addr (has1 g has) (own_header (seen_in seen d0) g shows has)) [
            | inl same ↦ (before.0, same ∙ before.1)
            | inr put ↦ put
          ]
      | inr later ↦ frees.counts g (has1 g has) (b, later, of_g)
    ]

    others2 : (c : ℕ) → ¬ (Contains freed c) → ((g : Group) → HasGroup v g → HasSome g (taken ++ freed) → ¬ (IsHeaderOf g c)) → get d2.fates c ≡ get d0.fates c
    others2 c stays far =
        rest2.others c stays (λ g there some own. far g (groups_same seen d1 d0 (sym rest.view) g there) (some.0, Contains-append_right taken freed some.0 some.1, some.2) own)
        ∙ rest.others c (λ g there some own. far g there (some.0, Contains-append_left taken freed some.0 some.1, some.2) own)

    pub said_and_done : (change : Change) → AreWhole (seen d2.view).size d2.fates → IsFinished d2.fates change → AreSaidAndDone v d0.fates taken freed change
    said_and_done change whole finished = record {
      fates = d2.fates;
      says = λ at g has shown. subst (λ (x : V). SaysMoved at (overlaid (seen_with (seen x) d2.fates) at) taken freed g) view2 (says2 at g has shown);
      headers = headers2;
      only = only2;
      counts = counts2;
      gone = frees.freed;
      others = others2;
      whole = subst (λ n. AreWhole n d2.fates) (sizes d2 view2) whole;
      finished = finished;
    }
