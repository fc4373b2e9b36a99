-- What a walk over the leaves of a hashed directory adds.
use Rattle.std.proofs.Common.{◌≡◌, ◌≢◌, ◌⊎◌, Bool, true, false, ℕ, zero, suc, [], ◌∷◌, ◌++◌, ◌+◌, ◌<◌, min, List, get_or, Option, Some, None, inl, inr, refl, sym, ap, subst, ◌∙◌, arith, length-append}
use Rattle.std.specs.Prelude.{Contains, slice_get, slice_set, flat_map, codes}
use Rattle.std.specs.List.Sorted.{IsStrictlyIncreasing}
use Rattle.std.proofs.lemmas.Bool.{cases_lt, eq-eqb}
use Rattle.std.proofs.lemmas.Grind.{flat_map-append}
use Rattle.gfs2_layout.specs.Holding.{Holding}
use Rattle.gfs2_layout.specs.Inode.{leaf_in, entry, first_hash, table_count}
use Rattle.gfs2_layout.specs.Records.{Record, records_in}
use Rattle.image_model.specs.Claims.{every, Claims, first_leaf, next_leaf}
use Rattle.image_reader.specs.Going.{IsGoing, IsNameOf, IsOf, is_within, ClaimsOnly, FindsOnlyOf, GoesOn, AreFound, AreCounted, most}
use Rattle.image_model.specs.Image.{Image}
use Rattle.image_reader.specs.Leaves.{HasClaim, IsTallyOf, leaf_records, AreLeavesOver, AreChained, LeavesOnly, LeavesStay}
use Rattle.image_model.specs.Owners.{Owner, Named, Chained}
use Rattle.image_reader.specs.Owning.{owner_of, IsEntered}
use Rattle.image_reader.specs.Reading.{held}
use Rattle.image_reader.specs.Walking.{IsSound}
use Rattle.image_reader.specs.declared.directory.Found.{Found}
use Rattle.image_reader.specs.declared.directory.Tally.{Tally}
use Rattle.image_reader.specs.declared.directory.Visit.{Visit}
use Rattle.image_reader.specs.declared.owners.Claim.{Claim}
use Rattle.image_reader.specs.declared.walk.Walk.{Walk}
use Rattle.image_model.proofs.Counts.{all_in, count_append}
use Rattle.image_reader.proofs.Going.{get_set, taken_none, finds_stay, goes_then, goes_wider, name_is_of, entered_only, entered_count, found_stay, visit_of, all_of_image, directory_test}
use Rattle.image_model.proofs.Members.{IsIn, contained, is_in, in_either, in_left, in_right}
use Rattle.image_model.proofs.Rising.{Rising, rising, all_above, all_of, one_if}
use Rattle.image_reader.proofs.WalkFaults.{set_other, set_here, some_is, same_or_not}

-- ---- rising lists

pub unrise : (xs : List ℕ) → Rising xs → IsStrictlyIncreasing xs
unrise [] r k low = absurd (omega (arith, low))
unrise (x ∷ []) r k low = absurd (omega (arith, low))
unrise (x ∷ y ∷ ys) r zero low = r.0.0
unrise (x ∷ y ∷ ys) r (suc k) low =
    let one : suc (k + 1) ≡ suc k + 1 = omega arith in
    subst (λ n. get_or (x ∷ y ∷ ys) (suc k) 0 < get_or (x ∷ y ∷ ys) n 0) one (unrise (y ∷ ys) r.1 k (omega (arith, low)))

-- a number that isn't there has its place
pub record IsSplit (xs : List ℕ) (x : ℕ) : Type 0 where
  pub front : List ℕ
  pub back : List ℕ
  pub was : xs ≡ front ++ back
  pub rises : Rising (front ++ (x ∷ back))

pub in_split : {X : Type 0} (y x : X) (front back : List X) → IsIn y (front ++ (x ∷ back)) → (y ≡ x) ⊎ IsIn y (front ++ back)
in_split y x [] back h = h
in_split y x (z ∷ front) back (inl e) = inr (inl e)
in_split y x (z ∷ front) back (inr h) = elim (in_split y x front back h) [ inl e ↦ inl e | inr g ↦ inr (inr g) ]

pub split_in : {X : Type 0} (y x : X) (front back : List X) → IsIn y (front ++ back) → IsIn y (front ++ (x ∷ back))
split_in y x [] back h = inr h
split_in y x (z ∷ front) back (inl e) = inl e
split_in y x (z ∷ front) back (inr h) = inr (split_in y x front back h)

pub split_here : {X : Type 0} (x : X) (front back : List X) → IsIn x (front ++ (x ∷ back))
split_here x [] back = inl refl
split_here x (z ∷ front) back = inr (split_here x front back)

pub in_rising : (x : ℕ) (xs : List ℕ) → Rising xs → (IsIn x xs → ⊥) → IsSplit xs x
in_rising x [] r non = record { front = []; back = []; was = refl; rises = (tt, tt) }
in_rising x (y ∷ ys) r non = elim (cases_lt x y) [
  | inl less ↦ record { front = []; back = y ∷ ys; was = refl; rises = ((less, all_above x y ys less r.0), r) }
  | inr past ↦
      let more = in_rising x ys r.1 (λ h. non (inr h)) in
      let apart : x ≢ y = λ e. non (inl e) in
      let above : y < x = omega (arith, past, apart) in
      record {
        front = y ∷ more.front;
        back = more.back;
        was = ap (λ zs. y ∷ zs) more.was;
        rises = (
          all_of (λ z. y < z) (more.front ++ (x ∷ more.back)) (λ z h. elim (in_split z x more.front more.back h) [
            | inl e ↦ subst (λ n. y < n) (sym e) above
            | inr g ↦ all_in (λ n. y < n) z ys r.0 (subst (IsIn z) (sym more.was) g)
          ]),
          more.rises,
        );
      }
]

-- ---- what is counted

pub tally_start : (t : Tally) → t.entries ≡ 0 → t.directories ≡ 0 → IsTallyOf t []
tally_start t e d = record {
  entries = omega (arith, e);
  directories = omega (arith, d);
  dot = λ is r there named. elim (is_in r [] there) [ ];
  dots = λ is r there named. elim (is_in r [] there) [ ];
}

-- from nothing on
pub tally_first : (t u : Tally) (rs : List Record) → t.entries ≡ 0 → t.directories ≡ 0 → AreCounted t u rs → IsTallyOf u rs
tally_first t u rs e d counted = record {
  entries = omega (arith, e, counted.entries);
  directories = omega (arith, d, counted.directories);
  dot = λ is. (counted.dot is).1;
  dots = λ is. (counted.dots is).1;
}

pub counted_add : (none own t u : Tally) (rs : List Record) → none.entries ≡ 0 → none.directories ≡ 0 → AreCounted none own rs
    → u.entries ≡ min (t.entries + own.entries) most → u.directories ≡ min (t.directories + own.directories) most
    → (u.dot ≡ false → (t.dot ≡ false) × (own.dot ≡ false)) → (u.dots ≡ false → (t.dots ≡ false) × (own.dots ≡ false)) → AreCounted t u rs
counted_add none own t u rs e d counted entries directories dot dots = record {
  entries = omega (arith, e, counted.entries, entries);
  directories = omega (arith, d, counted.directories, directories);
  dot = λ is. ((dot is).0, (counted.dot (dot is).1).1);
  dots = λ is. ((dots is).0, (counted.dots (dots is).1).1);
}

among : (P : Record → Type 0) (fore bs xs : List Record) → ((r : Record) → Contains (fore ++ bs) r → P r) → ((r : Record) → Contains xs r → P r)
    → (r : Record) → Contains (fore ++ (xs ++ bs)) r → P r
among P fore bs xs outer inner r there = elim (in_either r fore (xs ++ bs) (is_in r (fore ++ (xs ++ bs)) there)) [
  | inl l ↦ outer r (contained r (fore ++ bs) (in_left r fore bs l))
  | inr m ↦ elim (in_either r xs bs m) [
    | inl x ↦ inner r (contained r xs x)
    | inr b ↦ outer r (contained r (fore ++ bs) (in_right r fore bs b))
  ]
]

tally_more : (t u : Tally) (fore bs xs : List Record) → IsTallyOf t (fore ++ bs) → AreCounted t u xs → IsTallyOf u (fore ++ (xs ++ bs))
tally_more t u fore bs xs tally counted = record {
  entries = omega (arith, tally.entries, counted.entries, length-append fore bs, length-append fore (xs ++ bs), length-append xs bs);
  directories = omega (arith, tally.directories, counted.directories, count_append directory_test fore bs, count_append directory_test fore (xs ++ bs), count_append directory_test xs bs);
  dot = λ is. among (λ r. r.name ≡ codes "." → ⊥) fore bs xs (tally.dot (counted.dot is).0) (counted.dot is).1;
  dots = λ is. among (λ r. r.name ≡ codes ".." → ⊥) fore bs xs (tally.dots (counted.dots is).0) (counted.dots is).1;
}

tally_split : (f : ℕ → List Record) (t u : Tally) (xs front back : List ℕ) (x : ℕ) → xs ≡ front ++ back → IsTallyOf t (flat_map f xs) → AreCounted t u (f x)
    → IsTallyOf u (flat_map f (front ++ (x ∷ back)))
tally_split f t u xs front back x was tally counted =
    let before : IsTallyOf t (flat_map f front ++ flat_map f back) = subst (IsTallyOf t) (ap (flat_map f) was ∙ flat_map-append f front back) tally in
    subst (IsTallyOf u) (sym (flat_map-append f front (x ∷ back))) (tally_more t u (flat_map f front) (flat_map f back) (f x) before counted)

-- ---- what is entered

pub claim_kept : (P : Owner → Type 0) (old new : List (Option Claim)) (b : ℕ) (o : Owner) → ClaimsOnly P old new → HasClaim old b o → HasClaim new b o
claim_kept P old new b o on has = record { claim = has.claim; there = on.kept b has.claim has.there; owner = has.owner }

pub same_claim : (entries : List (Option Claim)) (b : ℕ) (o p : Owner) → HasClaim entries b o → HasClaim entries b p → o ≡ p
same_claim entries b o p f g = sym f.owner ∙ ap owner_of (some_is f.claim g.claim (some_is (Some f.claim) (Some g.claim) (sym f.there ∙ g.there))) ∙ g.owner

-- the claim of a block is entered, or was
pub claim_entered : (old new : List (Option Claim)) (x : ℕ) (claim : Claim) (fresh : Bool) → IsEntered old new x claim fresh → HasClaim new x (owner_of claim)
claim_entered old new x claim true (lacks, is) = record { claim = claim; there = ap (λ es. slice_get es x) is ∙ get_set old x (Some claim) None lacks; owner = refl }
claim_entered old new x claim false (known, is) = record { claim = known.old; there = ap (λ es. slice_get es x) is ∙ known.there; owner = known.same }

pub not_claimed : (old : List (Option Claim)) (x : ℕ) (o : Owner) → slice_get old x ≡ Some None → HasClaim old x o → ⊥
not_claimed old x o lacks has = let e : Some (Some has.claim) ≡ Some None = sym has.there ∙ lacks in absurd (cc)

chained_names : (a x hash place : ℕ) (o : Owner) → IsNameOf a o → o ≡ Chained a hash place → ⊥
chained_names a x hash place o named is = subst (IsNameOf a) is named

-- names claim no leaves
pub leaves_by_names : (a : ℕ) (mid new : List (Option Claim)) → ClaimsOnly (IsNameOf a) mid new → LeavesStay a mid new
leaves_by_names a mid new on x hash place has = elim (on.own x has.claim has.there) [
  | inl was ↦ record { claim = has.claim; there = was; owner = has.owner }
  | inr named ↦ absurd (chained_names a x hash place (owner_of has.claim) named has.owner)
]

pub leaves_entered : (a : ℕ) (old new : List (Option Claim)) (x : ℕ) (claim : Claim) (fresh : Bool) → IsEntered old new x claim fresh → LeavesOnly a x old new
leaves_entered a old new x claim true (lacks, is) y hash place has = elim (same_or_not y x) [
  | inl here ↦ inr here
  | inr apart ↦ inl (record { claim = has.claim; there = sym (set_other old x y (Some claim) apart) ∙ ap (λ es. slice_get es y) (sym is) ∙ has.there; owner = has.owner })
]
leaves_entered a old new x claim false (known, is) y hash place has = inl (subst (λ es. HasClaim es y (Chained a hash place)) is has)

pub leaves_known : (a : ℕ) (old new : List (Option Claim)) (x : ℕ) (claim : Claim) → IsEntered old new x claim false → LeavesStay a old new
leaves_known a old new x claim (known, is) y hash place has = subst (λ es. HasClaim es y (Chained a hash place)) is has

-- ---- one leaf more

pub leaves_more : (visit : Visit) (old mid new : List (Option Claim)) (t u : Tally) (found later : List Found) (claim : Claim) (x hash place : ℕ)
    → owner_of claim ≡ Chained visit.inode.block.number hash place → AreLeavesOver visit old t found → IsEntered old mid x claim true
    → ClaimsOnly (IsNameOf visit.inode.block.number) mid new → FindsOnlyOf visit found later
    → AreCounted t u (leaf_records (held visit.inode) x) → AreFound later visit (leaf_records (held visit.inode) x) → AreLeavesOver visit new u later
leaves_more visit old mid new t u found later claim x hash place owner o entered names finds counted named =
    let a = visit.inode.block.number in
    let f = leaf_records (held visit.inode) in
    let split = in_rising x o.leaves (rising o.leaves o.rise) (λ h. let c = o.only x (contained x o.leaves h) in not_claimed old x (Chained a c.0 c.1) entered.0 c.2) in
    let mid_claim : HasClaim mid x (Chained a hash place) = subst (HasClaim mid x) owner (claim_entered old mid x claim true entered) in
    let to_mid = entered_only (λ (p : Owner). p ≡ owner_of claim) old mid x claim true refl entered in
    record {
      leaves = split.front ++ (x ∷ split.back);
      rise = unrise (split.front ++ (x ∷ split.back)) split.rises;
      only = λ y there. elim (in_split y x split.front split.back (is_in y (split.front ++ (x ∷ split.back)) there)) [
        | inl e ↦ (hash, place, claim_kept (IsNameOf a) mid new y (Chained a hash place) names (subst (λ n. HasClaim mid n (Chained a hash place)) (sym e) mid_claim))
        | inr g ↦
            let c = o.only y (contained y o.leaves (subst (IsIn y) (sym split.was) g)) in
            (c.0, c.1, claim_kept (IsNameOf a) mid new y (Chained a c.0 c.1) names (claim_kept (λ p. p ≡ owner_of claim) old mid y (Chained a c.0 c.1) to_mid c.2))
      ];
      all = λ y k p has. contained y (split.front ++ (x ∷ split.back)) (elim (leaves_entered a old mid x claim true entered y k p (leaves_by_names a mid new names y k p has)) [
        | inl was ↦ split_in y x split.front split.back (subst (IsIn y) split.was (is_in y o.leaves (o.all y k p was)))
        | inr e ↦ subst (λ n. IsIn n (split.front ++ (x ∷ split.back))) (sym e) (split_here x split.front split.back)
      ]);
      counted = tally_split f t u o.leaves split.front split.back x split.was o.counted counted;
      named = λ y there. elim (in_split y x split.front split.back (is_in y (split.front ++ (x ∷ split.back)) there)) [
        | inl e ↦ subst (λ n. AreFound later visit (f n)) (sym e) named
        | inr g ↦ found_stay visit found later (f y) finds (o.named y (contained y o.leaves (subst (IsIn y) (sym split.was) g)))
      ];
    }

pub leaves_same : (visit : Visit) (old new : List (Option Claim)) (t : Tally) (found : List Found) (x : ℕ) (claim : Claim) → IsEntered old new x claim false → AreLeavesOver visit old t found
    → AreLeavesOver visit new t found
leaves_same visit old new t found x claim (known, is) o = subst (λ es. AreLeavesOver visit es t found) (sym is) o

-- at the start there is none
pub leaves_none : (visit : Visit) (entries : List (Option Claim)) (t : Tally) (found : List Found) → t.entries ≡ 0 → t.directories ≡ 0
    → ((x hash place : ℕ) → HasClaim entries x (Chained visit.inode.block.number hash place) → ⊥) → AreLeavesOver visit entries t found
leaves_none visit entries t found e d none = record {
  leaves = [];
  rise = unrise [] tt;
  only = λ x there. elim (is_in x [] there) [ ];
  all = λ x hash place has. absurd (none x hash place has);
  counted = tally_start t e d;
  named = λ x there. elim (is_in x [] there) [ ];
}

-- what holds on goes on
pub going_leaf : (old new : Walk) (visit : Visit) (found : List Found) (x : ℕ) (claim : Claim) (hash place : ℕ) → IsGoing old visit found → new.image ≡ old.image → IsSound new
    → IsEntered old.owners.entries.items new.owners.entries.items x claim true → owner_of claim ≡ Chained visit.inode.block.number hash place → IsGoing new visit found
going_leaf old new visit found x claim hash place going same sound (lacks, table) owner = record {
  sound = sound;
  visited = visit_of old.image new.image visit (sym same) going.visited;
  true_of = all_of_image old.image new.image found (sym same) going.true_of;
  noted = λ b other name there named. elim (same_or_not b x) [
    | inl here ↦
        let at_x : slice_get (slice_set old.owners.entries.items x (Some claim)) x ≡ Some (Some other) =
        ap (slice_get (slice_set old.owners.entries.items x (Some claim))) (sym here) ∙ ap (λ es. slice_get es b) (sym table) ∙ there in
        let same_one : other ≡ claim = some_is other claim (set_here old.owners.entries.items x (Some claim) (Some other) at_x) in
        let e : Named visit.inode.block.number name ≡ Chained visit.inode.block.number hash place = sym named ∙ ap owner_of same_one ∙ owner in
        absurd (cc)
    | inr apart ↦ going.noted b other name (sym (set_other old.owners.entries.items x b (Some claim) apart) ∙ ap (λ es. slice_get es b) (sym table) ∙ there) named
  ];
}

pub goes_leaf : (visit : Visit) (old new : List (Option Claim)) (found : List Found) (x : ℕ) (claim : Claim) (hash place : ℕ) → owner_of claim ≡ Chained visit.inode.block.number hash place
    → IsEntered old new x claim true → GoesOn (IsOf visit.inode.block.number) visit old found new found
goes_leaf visit old new found x claim hash place owner entered =
    let a = visit.inode.block.number in
    let count = entered_count a old new x claim entered in
    let within : one_if (is_within a (owner_of claim)) ≡ one_if true = ap (λ o. one_if (is_within a o)) owner ∙ ap one_if (eq-eqb a a refl) in
    record {
      claims = entered_only (IsOf a) old new x claim true (subst (IsOf a) (sym owner) refl) entered;
      finds = finds_stay visit found;
      taken = taken_none old new found;
      counted = omega (arith, count, within);
    }

pub goes_over_leaf : (visit : Visit) (old mid new : List (Option Claim)) (found later : List Found) (x : ℕ) (claim : Claim) (hash place : ℕ) → owner_of claim ≡ Chained visit.inode.block.number hash place
    → IsEntered old mid x claim true → GoesOn (IsNameOf visit.inode.block.number) visit mid found new later → GoesOn (IsOf visit.inode.block.number) visit old found new later
goes_over_leaf visit old mid new found later x claim hash place owner entered names =
    let a = visit.inode.block.number in
    goes_then (IsOf a) visit old found mid found new later (goes_leaf visit old mid found x claim hash place owner entered)
    (goes_wider (IsNameOf a) (IsOf a) visit mid found new later (name_is_of a) names)

-- ---- chains

hash_of : (a hash place other later : ℕ) → Chained a hash place ≡ Chained a other later → (hash ≡ other) × (place ≡ later)
hash_of a hash place other later e = (cc, cc)

module _ (P : Owner → Type 0) (h : Holding) (old new : List (Option Claim)) (on : ClaimsOnly P old new) where
  -- a leaf that was claimed has its next one claimed, unless it was open
  was_chained : (x hash place y : ℕ) (opened : Option ℕ) → AreChained h old opened → HasClaim old x (Chained h.own hash place) → (opened ≢ Some x) → (leaf_in h x).next ≢ 0
      → HasClaim new (leaf_in h x).next (Chained h.own hash (place + 1))
  was_chained x hash place y opened chained has not_open more = claim_kept P old new (leaf_in h x).next (Chained h.own hash (place + 1)) on (chained x hash place has not_open more)

  -- that which was open has its next one claimed now
  now_chained : (x hash place y : ℕ) → AreChained h old (Some x) → HasClaim old x (Chained h.own hash place) → (leaf_in h x).next ≡ y → HasClaim new y (Chained h.own hash (place + 1))
      → (z k p : ℕ) → HasClaim old z (Chained h.own k p) → (leaf_in h z).next ≢ 0 → HasClaim new (leaf_in h z).next (Chained h.own k (p + 1))
  now_chained x hash place y chained has next there z k p was more = elim (same_or_not x z) [
    | inl here ↦
        let both = hash_of h.own hash place k p (same_claim old z (Chained h.own hash place) (Chained h.own k p) (subst (λ n. HasClaim old n (Chained h.own hash place)) here has) was) in
        let at : y ≡ (leaf_in h z).next = sym next ∙ ap (λ n. (leaf_in h n).next) here in
        subst (λ n. HasClaim new n (Chained h.own k (p + 1))) at
        (subst (λ n. HasClaim new y (Chained h.own k (n + 1))) both.1 (subst (λ n. HasClaim new y (Chained h.own n (place + 1))) both.0 there))
    | inr apart ↦ was_chained z k p y (Some x) chained was (λ e. apart (some_is x z e)) more
  ]

  pub chained_next : (x hash place y : ℕ) → AreChained h old (Some x) → HasClaim old x (Chained h.own hash place) → (leaf_in h x).next ≡ y → HasClaim new y (Chained h.own hash (place + 1))
      → LeavesOnly h.own y old new → AreChained h new (Some y)
  chained_next x hash place y chained has next there only z k p now not_open more = elim (only z k p now) [
    | inl was ↦ now_chained x hash place y chained has next there z k p was more
    | inr e ↦ absurd (not_open (ap Some (sym e)))
  ]

  pub chained_known : (x hash place y : ℕ) → AreChained h old (Some x) → HasClaim old x (Chained h.own hash place) → (leaf_in h x).next ≡ y → HasClaim new y (Chained h.own hash (place + 1))
      → LeavesStay h.own old new → AreChained h new None
  chained_known x hash place y chained has next there stay z k p now not_open more = now_chained x hash place y chained has next there z k p (stay z k p now) more

  pub chained_first : (y : ℕ) → AreChained h old None → LeavesOnly h.own y old new → AreChained h new (Some y)
  chained_first y chained only z k p now not_open more = elim (only z k p now) [
    | inl was ↦ was_chained z k p y None chained was (λ e. absurd (let f : None ≡ Some z = e in cc)) more
    | inr e ↦ absurd (not_open (ap Some (sym e)))
  ]

  pub chained_stay : AreChained h old None → LeavesStay h.own old new → AreChained h new None
  chained_stay chained stay z k p now not_open more = was_chained z k p z None chained (stay z k p now) not_open more

pub chained_end : (h : Holding) (entries : List (Option Claim)) (x : ℕ) → AreChained h entries (Some x) → (leaf_in h x).next ≡ 0 → AreChained h entries None
chained_end h entries x chained none z k p has not_open more = elim (same_or_not x z) [
  | inl here ↦ absurd (more (ap (λ n. (leaf_in h n).next) (sym here) ∙ none))
  | inr apart ↦ chained z k p has (λ e. apart (some_is x z e)) more
]

-- every leaf that is reached is claimed
pub all_claimed : (im : Image) (a : ℕ) (entries : List (Option Claim)) (by x hash place : ℕ) → Claims im by x (Chained a hash place) → AreChained (every im a) entries None
    → ((j : ℕ) → j < table_count (every im a) → HasClaim entries (entry (every im a) j) (Chained a (first_hash (every im a) j) 0)) → HasClaim entries x (Chained a hash place)
all_claimed im a entries _ _ _ _ (first_leaf by _ o i claimed dinode hashed low some) chained headed = headed i low
all_claimed im a entries _ _ _ _ (next_leaf by x _ hash place claimed more) chained headed =
    chained x hash place (all_claimed im a entries by x hash place claimed chained headed) (λ e. absurd (let f : None ≡ Some x = e in cc)) more

-- of the same bytes
pub counted_of : (t u : Tally) (bytes area : List ℕ) → bytes ≡ area → AreCounted t u (records_in bytes) → AreCounted t u (records_in area)
counted_of t u bytes area same counted = subst (λ bs. AreCounted t u (records_in bs)) same counted

pub found_of_leaf : (found : List Found) (visit : Visit) (bytes area : List ℕ) → bytes ≡ area → AreFound found visit (records_in bytes) → AreFound found visit (records_in area)
found_of_leaf found visit bytes area same are = subst (λ bs. AreFound found visit (records_in bs)) same are
