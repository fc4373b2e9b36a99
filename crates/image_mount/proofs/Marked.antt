-- Places of journals that are marked one by one: each block is marked once.
use Rattle.std.proofs.Common.{◌≡◌, ◌≢◌, inl, inr, ℕ, zero, suc, ◌+◌, ◌==◌, ◌<◌, ◌≤◌, Bool, true, false, List, [], ◌∷◌, ◌++◌, length, get_or, Option, None, Some, refl, sym, ap, subst, ◌∙◌, arith}
use Rattle.std.specs.Prelude.{cond, slice_get, slice_set}
use Rattle.std.specs.List.{All}
use Rattle.std.proofs.lemmas.Option.{slice_get_within}
use Rattle.std.proofs.lemmas.Bool.{cases_eq, cond-true, cond-false, eq-eqb, ne_eqb}
use Rattle.std.proofs.lemmas.List.Elements.{All-push}
use Rattle.std.proofs.lemmas.List.Concat.{flat_map-append}
use Rattle.std.proofs.lemmas.List.Sums.{sum_by-append, sum_by-cons}
use Rattle.image_mount.specs.Kept.{Kept, bytes_of, seen_of}
use Rattle.image_mount.specs.Marked.{AreMarked, AreUnread, IsGrown, IsKept, IsTaken, marks_of, of_kept, of_leaf, of_place, one_if, times_in}
use Rattle.image_mount.specs.Rings.{all_places}
use Rattle.image_mount.specs.declared.journals.Ring.{Ring}

-- ---- marks

pub unmarked : (o : Option Bool) → o ≢ Some true → one_if o ≡ 0
unmarked None other = refl
unmarked (Some true) other = absurd (other refl)
unmarked (Some false) other = refl

once : (o : Option Bool) → one_if o ≤ 1
once None = omega arith
once (Some true) = omega arith
once (Some false) = omega arith

times_one : (b c : ℕ) → b ≡ c → times_in (b ∷ []) c ≡ 1
times_one b c e = omega (arith, cond-true {A = ℕ} (b == c) 1 0 (eq-eqb b c e))

times_none : (b c : ℕ) → b ≢ c → times_in (b ∷ []) c ≡ 0
times_none b c d = omega (arith, cond-false {A = ℕ} (b == c) 1 0 (ne_eqb b c d))

pub got_here : {X : Type 0} (xs : List X) (i : ℕ) (x : X) → i < length xs → slice_get (slice_set xs i x) i ≡ Some x
got_here [] i x low = absurd (omega (arith, low))
got_here (y ∷ xs) zero x low = refl
got_here (y ∷ xs) (suc i) x low = got_here xs i x (omega (arith, low))

pub got_other : {X : Type 0} (xs : List X) (i j : ℕ) (x : X) → i ≢ j → slice_get (slice_set xs i x) j ≡ slice_get xs j
got_other [] i j x d = refl
got_other (y ∷ xs) zero zero x d = absurd (d refl)
got_other (y ∷ xs) zero (suc j) x d = refl
got_other (y ∷ xs) (suc i) zero x d = refl
got_other (y ∷ xs) (suc i) (suc j) x d = got_other xs i j x (λ e. d (ap suc e))

-- one more block is marked
pub marked_one : (old new : Kept) (b : ℕ) → b < length old.places → new.places ≡ slice_set old.places b true → marks_of old b ≡ 0 → AreMarked old new (b ∷ [])
marked_one old new b low is free c = elim (cases_eq b c) [
  | inl same ↦
      let here : slice_get new.places b ≡ Some true = ap (λ ps. slice_get ps b) is ∙ got_here old.places b true low in
      let one : marks_of new c ≡ 1 = ap (marks_of new) (sym same) ∙ ap one_if here in
      let none : marks_of old c ≡ 0 = ap (marks_of old) (sym same) ∙ free in
      omega (arith, one, none, times_one b c same)
  | inr other ↦
      let stays : marks_of new c ≡ marks_of old c = ap one_if (ap (λ ps. slice_get ps c) is ∙ got_other old.places b c true other) in
      omega (arith, stays, times_none b c other)
]

pub marked_under : (a b c : Kept) (xs : List ℕ) → b.places ≡ a.places → AreMarked b c xs → AreMarked a c xs
marked_under a b c xs same are n = let stays : marks_of b n ≡ marks_of a n = ap (λ ps. one_if (slice_get ps n)) same in omega (arith, are n, stays)

pub marked_on : (a b c : Kept) (xs ys : List ℕ) → AreMarked a b xs → AreMarked b c ys → AreMarked a c (xs ++ ys)
marked_on a b c xs ys first then_ n = omega (arith, first n, then_ n, sum_by-append (λ (m : ℕ). cond {A = ℕ} (m == n) 1 0) xs ys)

-- nothing more is marked
pub marked_over : (a b c : Kept) (xs : List ℕ) → AreMarked a b xs → c.places ≡ b.places → AreMarked a c xs
marked_over a b c xs are same n = let stays : marks_of c n ≡ marks_of b n = ap (λ ps. one_if (slice_get ps n)) same in omega (arith, are n, stays)

-- so are the places of one more journal
pub marked_ring : (a b c : Kept) (old new : List Ring) (ring : Ring) → AreMarked a b (all_places old) → AreMarked b c ring.blocks.items → new ≡ old ++ ring ∷ [] → AreMarked a c (all_places new)
marked_ring a b c old new ring before here is n =
    let all : all_places new ≡ all_places old ++ all_places (ring ∷ []) = ap all_places is ∙ flat_map-append (λ (r : Ring). r.blocks.items) old (ring ∷ []) in
    let count : times_in (all_places new) n ≡ times_in (all_places old ++ all_places (ring ∷ [])) n = ap (λ bs. times_in bs n) all in
    omega (arith, before n, here n, count, sum_by-append (λ (m : ℕ). cond {A = ℕ} (m == n) 1 0) (all_places old) (all_places (ring ∷ [])), sum_by-append (λ (m : ℕ). cond {A = ℕ} (m == n) 1 0) ring.blocks.items [])

-- what was marked is there once
pub marked_once : (old new : Kept) (blocks : List ℕ) → AreMarked old new blocks → (b : ℕ) → times_in blocks b ≤ 1
marked_once old new blocks are b = omega (arith, are b, once (slice_get new.places b))

-- ---- a block that is there once is at one place

times_cons : (x b : ℕ) (xs : List ℕ) → times_in (x ∷ xs) b ≡ cond {A = ℕ} (x == b) 1 0 + times_in xs b
times_cons x b xs = sum_by-cons (λ (m : ℕ). cond {A = ℕ} (m == b) 1 0) x xs

times_at : (xs : List ℕ) (p b : ℕ) → slice_get xs p ≡ Some b → 1 ≤ times_in xs b
times_at [] p b at = cc
times_at (x ∷ xs) zero b at = let same : x ≡ b = cc in omega (arith, times_cons x b xs, cond-true {A = ℕ} (x == b) 1 0 (eq-eqb x b same))
times_at (x ∷ xs) (suc p) b at = omega (arith, times_cons x b xs, times_at xs p b at)

one_place : (xs : List ℕ) (p q b : ℕ) → times_in xs b ≤ 1 → slice_get xs p ≡ Some b → slice_get xs q ≡ Some b → p ≡ q
one_place [] p q b few here there = cc
one_place (x ∷ xs) zero zero b few here there = refl
one_place (x ∷ xs) zero (suc q) b few here there =
    let same : x ≡ b = cc in
    absurd (omega (arith, few, times_cons x b xs, times_at xs q b there, cond-true {A = ℕ} (x == b) 1 0 (eq-eqb x b same)))
one_place (x ∷ xs) (suc p) zero b few here there =
    let same : x ≡ b = cc in
    absurd (omega (arith, few, times_cons x b xs, times_at xs p b here, cond-true {A = ℕ} (x == b) 1 0 (eq-eqb x b same)))
one_place (x ∷ xs) (suc p) (suc q) b few here there = ap suc (one_place xs p q b (omega (arith, few, times_cons x b xs)) here there)

pub times_among : (rings : List Ring) (j p b : ℕ) (ring : Ring) → slice_get rings j ≡ Some ring → slice_get ring.blocks.items p ≡ Some b → 1 ≤ times_in (all_places rings) b
times_among [] j p b ring at there = cc
times_among (r ∷ rs) zero p b ring at there =
    let here : slice_get r.blocks.items p ≡ Some b = cc in
    omega (arith, times_at r.blocks.items p b here, sum_by-append (λ (m : ℕ). cond {A = ℕ} (m == b) 1 0) r.blocks.items (all_places rs))
times_among (r ∷ rs) (suc j) p b ring at there =
    omega (arith, times_among rs j p b ring at there, sum_by-append (λ (m : ℕ). cond {A = ℕ} (m == b) 1 0) r.blocks.items (all_places rs))

-- no block is at two places of these journals
pub places_apart : (rings : List Ring) (j i p q b : ℕ) (r s : Ring) → times_in (all_places rings) b ≤ 1 → slice_get rings j ≡ Some r → slice_get rings i ≡ Some s → slice_get r.blocks.items p ≡ Some b
    → slice_get s.blocks.items q ≡ Some b → (j ≡ i) × (p ≡ q)
places_apart [] j i p q b r s few at at' here there = cc
places_apart (x ∷ xs) zero zero p q b r s few at at' here there =
    let here' : slice_get x.blocks.items p ≡ Some b = cc in
    let there' : slice_get x.blocks.items q ≡ Some b = cc in
    (refl, one_place x.blocks.items p q b (omega (arith, few, sum_by-append (λ (m : ℕ). cond {A = ℕ} (m == b) 1 0) x.blocks.items (all_places xs))) here' there')
places_apart (x ∷ xs) zero (suc i) p q b r s few at at' here there =
    let here' : slice_get x.blocks.items p ≡ Some b = cc in
    absurd (omega (arith, few, times_at x.blocks.items p b here', times_among xs i q b s at' there, sum_by-append (λ (m : ℕ). cond {A = ℕ} (m == b) 1 0) x.blocks.items (all_places xs)))
places_apart (x ∷ xs) (suc j) zero p q b r s few at at' here there =
    let there' : slice_get x.blocks.items q ≡ Some b = cc in
    absurd (omega (arith, few, times_at x.blocks.items q b there', times_among xs j p b r at here, sum_by-append (λ (m : ℕ). cond {A = ℕ} (m == b) 1 0) x.blocks.items (all_places xs)))
places_apart (x ∷ xs) (suc j) (suc i) p q b r s few at at' here there =
    let more = places_apart xs j i p q b r s (omega (arith, few, sum_by-append (λ (m : ℕ). cond {A = ℕ} (m == b) 1 0) x.blocks.items (all_places xs))) at at' here there in
    (ap suc more.0, more.1)

-- ---- what is kept, as more is

pub grown_none : (k : Kept) → IsGrown k k
grown_none k = record { stays = λ b kept. kept; leaves = λ b at. at; taken = λ b taken. taken; unread = λ none. none }

pub grown_on : (a b c : Kept) → IsGrown a b → IsGrown b c → IsGrown a c
grown_on a b c first second = record {
  stays = λ n kept. second.stays n (first.stays n kept);
  leaves = λ n at. second.leaves n (first.leaves n at);
  taken = λ n taken. second.taken n (first.taken n taken);
  unread = λ none. second.unread (first.unread none);
}

-- what was read stays so
taken_on : (old new : Kept) (n : ℕ) → slice_get new.places n ≡ slice_get old.places n → (slice_get old.leaves n ≡ Some true → slice_get new.leaves n ≡ Some true)
    → ((bytes : List ℕ) → (seen_of old).block_at n ≡ Some bytes → (seen_of new).block_at n ≡ Some bytes) → IsTaken old n → IsTaken new n
taken_on old new n places leaves kept (of_place at) = of_place (places ∙ at)
taken_on old new n places leaves kept (of_leaf at) = of_leaf (leaves at)
taken_on old new n places leaves kept (of_kept bytes at) = of_kept bytes (kept bytes at)

-- one more block was read as a leaf
pub leaf_stays : (old new : Kept) (b : ℕ) → new.leaves ≡ slice_set old.leaves b true → (n : ℕ) → slice_get old.leaves n ≡ Some true → slice_get new.leaves n ≡ Some true
leaf_stays old new b is n at = elim (cases_eq b n) [
  | inl same ↦ subst (λ m. slice_get new.leaves m ≡ Some true) same (ap (λ ls. slice_get ls b) is ∙ got_here old.leaves b true (slice_get_within old.leaves b true (subst (λ m. slice_get old.leaves m ≡ Some true) (sym same) at)))
  | inr other ↦ ap (λ ls. slice_get ls n) is ∙ got_other old.leaves b n true other ∙ at
]

pub leaf_taken : (old new : Kept) (b : ℕ) → b < length old.leaves → new.leaves ≡ slice_set old.leaves b true → IsTaken new b
leaf_taken old new b low is = of_leaf (ap (λ ls. slice_get ls b) is ∙ got_here old.leaves b true low)

-- one more was read as a leaf, which is no place
pub grown_leaf : (old new : Kept) (b : ℕ) → new.entries ≡ old.entries → new.places ≡ old.places → new.leaves ≡ slice_set old.leaves b true → marks_of old b ≡ 0 → IsGrown old new
grown_leaf old new b entries places is unmarked = record {
  taken = λ n taken. taken_on old new n (ap (λ ps. slice_get ps n) places) (leaf_stays old new b is n) (λ bytes at. ap (λ es. bytes_of (slice_get es n)) entries ∙ at) taken;
  stays = λ n kept none. kept (ap (λ es. bytes_of (slice_get es n)) (sym entries) ∙ none);
  leaves = leaf_stays old new b is;
  unread = λ none n mark.
      let before : marks_of old n ≡ 1 = ap (λ ps. one_if (slice_get ps n)) (sym places) ∙ mark in
      let other : b ≢ n = λ e. absurd (omega (arith, unmarked, before, ap (marks_of old) e)) in (
        ap (λ es. bytes_of (slice_get es n)) entries ∙ (none n before).0,
        λ leaf. (none n before).1 (sym (ap (λ ls. slice_get ls n) is ∙ got_other old.leaves b n true other) ∙ leaf),
      );
}

kept_here : (entries : List (Option (List ℕ))) (i : ℕ) (x : List ℕ) → slice_get entries i ≡ Some None → bytes_of (slice_get (slice_set entries i (Some x)) i) ≢ None
kept_here entries i x free e = let here : bytes_of (slice_get (slice_set entries i (Some x)) i) ≡ Some x = ap bytes_of (got_here entries i (Some x) (slice_get_within entries i None free)) in no_some x (sym e ∙ here)
  where
    no_some : (y : List ℕ) → None ≡ Some y → ⊥
    no_some y e = cc

-- one more block is kept, which is no place
pub grown_kept : (old new : Kept) (b : ℕ) (x : List ℕ) → slice_get old.entries b ≡ Some None → new.entries ≡ slice_set old.entries b (Some x) → new.places ≡ old.places → new.leaves ≡ old.leaves → marks_of old b ≡ 0 → IsGrown old new
grown_kept old new b x free is same leaves unmarked = record {
  taken = λ n taken. taken_on old new n (ap (λ ps. slice_get ps n) same) (λ at. ap (λ ls. slice_get ls n) leaves ∙ at)
      (λ bytes at. elim (cases_eq b n) [
        | inl e ↦ absurd (no_bytes bytes (sym (ap bytes_of free) ∙ ap (λ m. bytes_of (slice_get old.entries m)) e ∙ at))
        | inr other ↦ there n other ∙ at
      ]) taken;
  stays = λ n kept. elim (cases_eq b n) [
    | inl e ↦ subst (IsKept new) e (λ none. kept_here old.entries b x free (ap (λ es. bytes_of (slice_get es b)) (sym is) ∙ none))
    | inr other ↦ λ none. kept (sym (there n other) ∙ none)
  ];
  leaves = λ n at. ap (λ ls. slice_get ls n) leaves ∙ at;
  unread = λ none n mark.
      let before : marks_of old n ≡ 1 = ap (λ ps. one_if (slice_get ps n)) (sym same) ∙ mark in
      let other : b ≢ n = λ e. absurd (omega (arith, unmarked, before, ap (marks_of old) e)) in
      (there n other ∙ (none n before).0, λ leaf. (none n before).1 (ap (λ ls. slice_get ls n) (sym leaves) ∙ leaf));
}
  where
    no_bytes : (y : List ℕ) → None ≡ Some y → ⊥
    no_bytes y e = cc

    there : (n : ℕ) → b ≢ n → bytes_of (slice_get new.entries n) ≡ bytes_of (slice_get old.entries n)
    there n other = ap (λ es. bytes_of (slice_get es n)) is ∙ ap bytes_of (got_other old.entries b n (Some x) other)

-- one more is a place, which was not read
pub grown_marked : (old new : Kept) (b : ℕ) → new.entries ≡ old.entries → new.places ≡ slice_set old.places b true → new.leaves ≡ old.leaves → ¬ (IsTaken old b) → IsGrown old new
grown_marked old new b same is leaves free = record {
  taken = λ n taken. marked_taken n taken;
  stays = λ n kept none. kept (sym (there n) ∙ none);
  leaves = λ n at. ap (λ ls. slice_get ls n) leaves ∙ at;
  unread = λ none n mark. elim (cases_eq b n) [
    | inl e ↦ (there n ∙ ap (seen_of old).block_at (sym e) ∙ lacks ((seen_of old).block_at b) refl, λ leaf. free (subst (IsTaken old) (sym e) (of_leaf (ap (λ ls. slice_get ls n) (sym leaves) ∙ leaf))))
    | inr other ↦
        let before : marks_of old n ≡ 1 = ap one_if (sym (got_other old.places b n true other) ∙ ap (λ ps. slice_get ps n) (sym is)) ∙ mark in
        (there n ∙ (none n before).0, λ leaf. (none n before).1 (ap (λ ls. slice_get ls n) (sym leaves) ∙ leaf))
  ];
}
  where
    there : (n : ℕ) → (seen_of new).block_at n ≡ (seen_of old).block_at n
    there n = ap (λ es. bytes_of (slice_get es n)) same

    lacks : (o : Option (List ℕ)) → (seen_of old).block_at b ≡ o → o ≡ None
    lacks None e = refl
    lacks (Some bytes) e = absurd (free (of_kept bytes e))

    marked_taken : (n : ℕ) → IsTaken old n → IsTaken new n
    marked_taken n (of_place at) = elim (cases_eq b n) [
      | inl e ↦ of_place (subst (λ m. slice_get new.places m ≡ Some true) e (ap (λ ps. slice_get ps b) is ∙ got_here old.places b true (slice_get_within old.places b true (subst (λ m. slice_get old.places m ≡ Some true) (sym e) at))))
      | inr other ↦ of_place (ap (λ ps. slice_get ps n) is ∙ got_other old.places b n true other ∙ at)
    ]
    marked_taken n (of_leaf at) = of_leaf (ap (λ ls. slice_get ls n) leaves ∙ at)
    marked_taken n (of_kept bytes at) = of_kept bytes (there n ∙ at)

pub unread_new : (k : Kept) → All (λ place. place ≡ false) k.places → AreUnread k
unread_new k unmarked b mark = absurd (omega (arith, mark, none_marked k.places unmarked b))
  where
    none_marked : (places : List Bool) → All (λ place. place ≡ false) places → (b : ℕ) → one_if (slice_get places b) ≡ 0
    none_marked [] all b = refl
    none_marked (e ∷ es) all zero = let e0 = all 0 false (omega arith) in ap (λ p. one_if (Some p)) e0
    none_marked (e ∷ es) all (suc b) = none_marked es (λ k d low. all (suc k) d (omega (arith, low))) b

pub has_kept : (k : Kept) (b : ℕ) → (bytes : List ℕ) × ((seen_of k).block_at b ≡ Some bytes) → IsKept k b
has_kept k b has none = no_some has.0 (sym none ∙ has.1)
  where
    no_some : (y : List ℕ) → None ≡ Some y → ⊥
    no_some y e = cc

-- a place of these journals is marked, and so was not read
module _ (old new : Kept) (rings : List Ring) (are : AreMarked old new (all_places rings)) (none : AreUnread new) where
  place_unread : (j p b : ℕ) (ring : Ring) → slice_get rings j ≡ Some ring → slice_get ring.blocks.items p ≡ Some b → ((seen_of new).block_at b ≡ None) × (slice_get new.leaves b ≢ Some true)
  place_unread j p b ring at there = none b (omega (arith, are b, times_among rings j p b ring at there, once (slice_get new.places b)))

  pub place_unkept : (j p b : ℕ) (ring : Ring) → slice_get rings j ≡ Some ring → slice_get ring.blocks.items p ≡ Some b → ¬ (IsKept new b)
  place_unkept j p b ring at there kept = kept (place_unread j p b ring at there).0

  -- nor was it anything before
  pub place_untaken : IsGrown old new → (j p b : ℕ) (ring : Ring) → slice_get rings j ≡ Some ring → slice_get ring.blocks.items p ≡ Some b → IsTaken old b → ⊥
  place_untaken grown j p b ring at there (of_place is) =
      let marked : marks_of old b ≡ 1 = ap one_if is in
      omega (arith, are b, times_among rings j p b ring at there, once (slice_get new.places b), marked)
  place_untaken grown j p b ring at there (of_leaf is) = (place_unread j p b ring at there).1 (grown.leaves b is)
  place_untaken grown j p b ring at there (of_kept bytes is) = grown.stays b (has_kept old b (bytes, is)) (place_unread j p b ring at there).0

-- the dinodes of journals stay, and one more is there
pub rings_kept : (a b : Kept) (old new : List Ring) (ring : Ring) → IsGrown a b → All (λ (r : Ring). IsKept a r.dinode) old → IsKept b ring.dinode → new ≡ old ++ ring ∷ [] → All (λ (r : Ring). IsKept b r.dinode) new
rings_kept a b old new ring grown kept here is =
    subst (All (λ (r : Ring). IsKept b r.dinode)) (sym is) (All-push (λ (r : Ring). IsKept b r.dinode) old ring (λ k d low. grown.stays (get_or old k d).dinode (kept k d low)) here)
