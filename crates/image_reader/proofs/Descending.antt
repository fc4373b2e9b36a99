-- What a walk down through the pointers of an inode has entered.
use Rattle.std.proofs.Common.{◌≡◌, ◌⊎◌, inl, inr, ℕ, suc, ◌+◌, ◌-◌, List, [], ◌∷◌, ◌++◌, Bool, true, false, Option, Some, None, slice_get, slice_set, length, zero, refl, sym, ap, subst, ◌∙◌, arith}
use Rattle.gfs2_layout.specs.Holding.{Holding}
use Rattle.gfs2_layout.specs.Inode.{Leads, from_dinode, from_block, pointer, height_in, header_length}
use Rattle.gfs2_layout.specs.Structures.{dinode_length}
use Rattle.image_model.specs.Claims.{every}
use Rattle.image_reader.specs.Descending.{IsEnteredAt, AreEnteredTo, AreEntered, AreWaiting, AreDescended, IsGroupOf}
use Rattle.image_reader.specs.Owning.{IsEntered}
use Rattle.image_reader.proofs.WalkFaults.{set_other, set_here, same_or_not}
use Rattle.image_reader.specs.Going.{IsFresh}
use Rattle.image_reader.specs.Leaves.{HasClaim}
use Rattle.image_model.specs.Owners.{Owner, Below}
use Rattle.image_reader.specs.Reading.{held, image_at}
use Rattle.image_reader.specs.Untouched.{AllAreBelow}
use Rattle.image_reader.specs.Owning.{owner_of}
use Rattle.std.proofs.lemmas.Bool.{cases_eq}
use Rattle.image_reader.specs.Going.{IsOf, IsBelow, TakesOnly}
use Rattle.image_reader.specs.declared.blocks.Blocks.{Blocks}
use Rattle.image_reader.specs.declared.inode.Inode.{Inode}
use Rattle.image_reader.specs.declared.owners.Claim.{Claim}
use Rattle.image_reader.specs.declared.walk.Pointers.{Pointers}
use Rattle.image_reader.proofs.Contents.{leads_of_claim}
use Rattle.image_reader.proofs.Going.{entered_only}
use Rattle.image_reader.proofs.Leaves.{claim_kept}

-- none is still to be gone over, where the list is empty
not_waiting : (start b level first : ℕ) → AreWaiting [] start b level first → ⊥
not_waiting start b level first w = let e : None ≡ Some w.1.0 = w.1.1 in cc

-- once nothing waits, whatever the inode's pointers lead to is entered
pub all_entered : (h : Holding) (entries : List (Option Claim)) → AreDescended h entries [] → (b k level first c : ℕ) → Leads h b k level first c → HasClaim entries c (Below h.own b k level first)
all_entered h entries done _ _ _ _ _ (from_dinode k level height low some) = elim (done.top level height) [
  | inr w ↦ absurd (not_waiting dinode_length h.own level 0 w)
  | inl all ↦ subst (λ f. HasClaim entries (pointer h dinode_length h.own k) (Below h.own h.own k level f)) (omega arith) (all k low some)
]
all_entered h entries done _ _ _ _ _ (from_block b k level first c j leads low some) =
    elim (done.others c b k level first (all_entered h entries done b k (suc level) first c leads)) [
      | inr w ↦ absurd (not_waiting header_length c level first w)
      | inl all ↦ all j low some
    ]

pub all_below : (image : Blocks) (inode : Inode) (entries : List (Option Claim)) → inode.block.image ≡ image → AreDescended (held inode) entries [] → AllAreBelow (image_at image) inode.block.number entries
all_below image inode entries same done by x b k level first claimed =
    let leads = leads_of_claim (image_at image) by inode.block.number x b k level first claimed in
    let here = subst (λ (i : Blocks). Leads (every (image_at i) inode.block.number) b k level first x) (sym same) leads in
    all_entered (held inode) entries done b k level first x here

-- at the outset the dinode's pointers wait, and nothing is entered
pub none_descended : (h : Holding) (entries : List (Option Claim)) (top : Pointers) (level : ℕ) → IsFresh h.own entries → height_in h ≡ suc level
    → IsGroupOf dinode_length h.own level 0 top → AreDescended h entries (top ∷ [])
none_descended h entries top level fresh height is_top = record {
  top = λ l is. inr (0, (top, refl, record { from = is_top.from; block = is_top.block; deep = is_top.deep ∙ same l is; before = is_top.before }));
  others = λ b above j l f has. absurd (fresh b has.claim has.there (subst (IsOf h.own) (sym has.owner) refl));
}
  where
    same : (l : ℕ) → height_in h ≡ suc l → level ≡ l
    same l is = omega (arith, height, is)

-- ---- a claim

entered_has : (old new : List (Option Claim)) (x : ℕ) (claim : Claim) (fresh : Bool) → IsEntered old new x claim fresh → HasClaim new x (owner_of claim)
entered_has old new x claim false (known, same) = record { claim = known.old; there = ap (λ l. slice_get l x) same ∙ known.there; owner = known.same }
entered_has old new x claim true (lacks, is) = record { claim = claim; there = ap (λ l. slice_get l x) is ∙ set_there old x None (Some claim) lacks; owner = refl }
  where
    set_there : {X : Type 0} (xs : List X) (i : ℕ) (x y : X) → slice_get xs i ≡ Some x → slice_get (slice_set xs i y) i ≡ Some y
    set_there [] i x y there = absurd (let e : None ≡ Some x = there in cc)
    set_there (z ∷ xs) zero x y there = refl
    set_there (z ∷ xs) (suc i) x y there = set_there xs i x y there

some_one : {X : Type 0} (x y : X) → Some x ≡ Some y → x ≡ y
some_one x y e = cc

-- what is claimed now was, or is this
was_or_is : (old new : List (Option Claim)) (x : ℕ) (claim : Claim) (fresh : Bool) → IsEntered old new x claim fresh → (b : ℕ) (o : Owner) → HasClaim new b o
    → HasClaim old b o ⊎ ((b ≡ x) × (owner_of claim ≡ o) × (fresh ≡ true))
was_or_is old new x claim false (known, same) b o has = inl (record { claim = has.claim; there = ap (λ l. slice_get l b) (sym same) ∙ has.there; owner = has.owner })
was_or_is old new x claim true (lacks, is) b o has = elim (same_or_not b x) [
  | inl here ↦
      let at_x : slice_get (slice_set old x (Some claim)) x ≡ Some (Some has.claim) = ap (λ l. slice_get l x) (sym is) ∙ ap (slice_get new) (sym here) ∙ has.there in
      let one : Some has.claim ≡ Some claim = set_here old x (Some claim) (Some has.claim) at_x in
      inr (here, ap owner_of (some_one claim has.claim (sym one)) ∙ has.owner, refl)
  | inr apart ↦ inl (record { claim = has.claim; there = sym (set_other old x b (Some claim) apart) ∙ ap (λ l. slice_get l b) (sym is) ∙ has.there; owner = has.owner })
]

module _ (h : Holding) (old new : List (Option Claim)) (was now : List Pointers) (kept : (b : ℕ) (o : Owner) → HasClaim old b o → HasClaim new b o)
    (waits : (start b level first : ℕ) → AreWaiting was start b level first → AreWaiting now start b level first)
    (added : (b above j level first : ℕ) → HasClaim new b (Below h.own above j (suc level) first) → HasClaim old b (Below h.own above j (suc level) first) ⊎ AreWaiting now header_length b level first) where
  stays : (start b level first : ℕ) → AreEntered h old start b level first ⊎ AreWaiting was start b level first → AreEntered h new start b level first ⊎ AreWaiting now start b level first
  stays start b level first (inl all) = inl (λ k low some. kept _ _ (all k low some))
  stays start b level first (inr w) = inr (waits start b level first w)

  descended_more : AreDescended h old was → AreDescended h new now
  descended_more done = record {
    top = λ level height. stays dinode_length h.own level 0 (done.top level height);
    others = λ b above j level first has. elim (added b above j level first has) [
      | inl before ↦ stays header_length b level first (done.others b above j level first before)
      | inr w ↦ inr w
    ];
  }

got_more : {X : Type 0} (xs ys : List X) (i : ℕ) (x : X) → slice_get xs i ≡ Some x → slice_get (xs ++ ys) i ≡ Some x
got_more [] ys i x there = absurd (let e : None ≡ Some x = there in cc)
got_more (z ∷ xs) ys zero x there = there
got_more (z ∷ xs) ys (suc i) x there = got_more xs ys i x there

got_last : {X : Type 0} (xs : List X) (x : X) → slice_get (xs ++ (x ∷ [])) (length xs) ≡ Some x
got_last [] x = refl
got_last (z ∷ xs) x = got_last xs x

kept_by : (old new : List (Option Claim)) (x : ℕ) (claim : Claim) (fresh : Bool) → IsEntered old new x claim fresh → (b : ℕ) (o : Owner) → HasClaim old b o → HasClaim new b o
kept_by old new x claim fresh entered b o has = claim_kept (λ p. p ≡ owner_of claim) old new b o (entered_only (λ p. p ≡ owner_of claim) old new x claim fresh refl entered) has

abbrev pub level_of : Owner → ℕ
level_of (Below a b k level first) = level
level_of _ = 0

abbrev pub first_of : Owner → ℕ
first_of (Below a b k level first) = first
first_of _ = 0

module _ (h : Holding) (old new : List (Option Claim)) (pending : List Pointers) (x : ℕ) (claim : Claim) (fresh : Bool) (entered : IsEntered old new x claim fresh) where
  -- a block of content, or one that was claimed
  pub descended_flat : (fresh ≡ true → level_of (owner_of claim) ≡ 0) → AreDescended h old pending → AreDescended h new pending
  descended_flat flat done = descended_more h old new pending pending (kept_by old new x claim fresh entered) (λ start b level first w. w) (λ b above j level first has.
      elim (was_or_is old new x claim fresh entered b (Below h.own above j (suc level) first) has) [
        | inl before ↦ inl before
        | inr one ↦ absurd (let e : level_of (owner_of claim) ≡ suc level = ap level_of one.1 in omega (arith, e, flat one.2))
      ]) done

  -- an indirect block, whose pointers wait now
  pub descended_deep : (p : Pointers) → IsGroupOf header_length x (level_of (owner_of claim) - 1) (first_of (owner_of claim)) p → AreDescended h old pending → AreDescended h new (pending ++ (p ∷ []))
  descended_deep p is done = descended_more h old new pending (pending ++ (p ∷ [])) (kept_by old new x claim fresh entered) (λ start b level first w. (w.0, (w.1.0, got_more pending (p ∷ []) w.0 w.1.0 w.1.1, w.1.2))) (λ b above j level first has.
      elim (was_or_is old new x claim fresh entered b (Below h.own above j (suc level) first) has) [
        | inl before ↦ inl before
        | inr one ↦
            let deep : level_of (owner_of claim) ≡ suc level = ap level_of one.1 in
            let at : first_of (owner_of claim) ≡ first = ap first_of one.1 in
            inr (length pending, (p, got_last pending p, record { from = is.from; block = is.block ∙ sym one.0; deep = omega (arith, is.deep, deep); before = is.before ∙ at }))
      ]) done

  pub is_entered : (o : Owner) → owner_of claim ≡ o → HasClaim new x o
  is_entered o same = subst (HasClaim new x) same (entered_has old new x claim fresh entered)

-- pointers that were all gone over wait no more
pub descended_over : (h : Holding) (entries : List (Option Claim)) (p : Pointers) (pending : List Pointers) → AreEntered h entries p.start p.block.number p.level p.first → AreDescended h entries (p ∷ pending) → AreDescended h entries pending
descended_over h entries p pending all done = record {
  top = λ level height. over dinode_length h.own level 0 (done.top level height);
  others = λ b above j level first has. over header_length b level first (done.others b above j level first has);
}
  where
    here : (start b level first : ℕ) (q : Pointers) → q ≡ p → IsGroupOf start b level first q → AreEntered h entries start b level first
    here start b level first q same is =
        let at : IsGroupOf start b level first p = subst (IsGroupOf start b level first) same is in
        subst (λ s. AreEntered h entries s b level first) at.from
        (subst (λ n. AreEntered h entries p.start n level first) at.block
        (subst (λ l. AreEntered h entries p.start p.block.number l first) at.deep
        (subst (λ f. AreEntered h entries p.start p.block.number p.level f) at.before all)))

    behind : (start b level first i : ℕ) (q : Pointers) → slice_get (p ∷ pending) i ≡ Some q → IsGroupOf start b level first q → AreEntered h entries start b level first ⊎ AreWaiting pending start b level first
    behind start b level first zero q there is = inl (here start b level first q (some_one q p (sym there)) is)
    behind start b level first (suc i) q there is = inr (i, (q, there, is))

    over : (start b level first : ℕ) → AreEntered h entries start b level first ⊎ AreWaiting (p ∷ pending) start b level first → AreEntered h entries start b level first ⊎ AreWaiting pending start b level first
    over start b level first (inl done) = inl done
    over start b level first (inr w) = behind start b level first w.0 w.1.0 w.1.1 w.1.2

-- one more pointer was followed
pub entered_more : (k : ℕ) (h : Holding) (a : ℕ) (old new : List (Option Claim)) (start b level first : ℕ) → TakesOnly a old new
    → AreEnteredTo k h old start b level first → IsEnteredAt h new start b level first k → AreEnteredTo (k + 1) h new start b level first
entered_more k h a old new start b level first takes before this j low some = elim (cases_eq j k) [
  | inr d ↦ claim_kept (IsBelow a) old new _ _ takes.claims (before j (omega (arith, low, d)) some)
  | inl e ↦ subst (λ n. IsEnteredAt h new start b level first n) (sym e) this some
]

got_split : (xs : List Pointers) (x : Pointers) (i : ℕ) (y : Pointers) → slice_get (xs ++ (x ∷ [])) i ≡ Some y → (y ≡ x) ⊎ ((j : ℕ) × (slice_get xs j ≡ Some y))
got_split [] x zero y there = inl (some_one y x (sym there))
got_split [] x (suc i) y there = absurd (let e : None ≡ Some y = there in cc)
got_split (z ∷ xs) x zero y there = inr (0, there)
got_split (z ∷ xs) x (suc i) y there = elim (got_split xs x i y there) [
  | inl one ↦ inl one
  | inr at ↦ inr (suc at.0, at.1)
]

-- ---- the last of those that wait is gone over next

pub descended_popped : (h : Holding) (entries : List (Option Claim)) (was rest : List Pointers) (p : Pointers) → was ≡ rest ++ (p ∷ []) → AreDescended h entries was → AreDescended h entries (p ∷ rest)
descended_popped h entries was rest p is = descended_more h entries entries was (p ∷ rest) (λ b o has. has) (λ start b level first w. waits start b level first (subst (λ l. AreWaiting l start b level first) is w))
    (λ b above j level first has. inl has)
  where
    waits : (start b level first : ℕ) → AreWaiting (rest ++ (p ∷ [])) start b level first → AreWaiting (p ∷ rest) start b level first
    waits start b level first w = elim (got_split rest p w.0 w.1.0 w.1.1) [
      | inl one ↦ (0, (p, refl, subst (IsGroupOf start b level first) one w.1.2))
      | inr at ↦ (suc at.0, (w.1.0, at.1, w.1.2))
    ]

pub none_left : {X : Type 0} (xs : List X) → length xs ≡ 0 → xs ≡ []
none_left [] none = refl
none_left (x ∷ xs) none = absurd (omega (arith, none))
