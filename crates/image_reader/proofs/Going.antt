-- What a walk over an inode adds, and how its records are counted.
use Rattle.std.proofs.Common.{◌≡◌, ◌≢◌, ◌⊎◌, Bool, true, false, ℕ, zero, suc, [], ◌∷◌, ◌++◌, ◌+◌, List, length, Option, Some, None, inl, inr, refl, sym, ap, subst, ◌∙◌, arith, cond, append_assoc, length-append}
use Rattle.std.specs.Prelude.{Contains, Result, Ok, Err, OnOk, slice_get, slice_set, map, filter, sum_by, is_none, not, ◌&&◌, ◌==◌}
use Rattle.std.specs.List.{All, find}
use Rattle.std.specs.Str.{bytes_eq}
use Rattle.std.proofs.lemmas.Slice.Eq.{bytes_eq-Decides}
use Rattle.std.proofs.lemmas.Bool.{cases_Bool, cond-true, cond-false}
use Rattle.std.proofs.lemmas.List.{map-append}
use Rattle.std.proofs.lemmas.List.Sums.{sum_by-cons}
use Rattle.std.proofs.lemmas.List.Elements.{filter-append, All-push}
use Rattle.gfs2_layout.specs.Area.{Slot, name_of, slots_of, slot_at, IsFirstRecord, IsShown, has_name, first_named}
use Rattle.gfs2_layout.specs.Records.{Record, record_of, records_in, is_dots}
use Rattle.gfs2_layout.specs.Structures.{is_in_use}
use Rattle.gfs2_layout.specs.declared.dirent.Dirent.{Dirent}
use Rattle.image_reader.specs.Finding.{said_by, HasRecordAt, HasSlotAt, IsFoundIn}
use Rattle.image_reader.specs.Going.{IsVisitIn, IsGoing, IsNameOf, IsOf, is_within, has_within, free_or_within, ClaimsOnly, FindsOnlyOf, IsTaken, AreTaken, GoesOn, IsNamedBy, HasSlotBefore, says, AreFound, AreCounted}
use Rattle.image_model.specs.Claims.{HasArea}
use Rattle.image_reader.specs.Found.{HasEntry}
use Rattle.image_model.specs.Owners.{Owner, Named}
use Rattle.image_reader.specs.Reading.{image_at}
use Rattle.image_model.specs.Rules.{Breaks, twice_in_area}
use Rattle.image_reader.specs.declared.blocks.Blocks.{Blocks}
use Rattle.image_reader.specs.Owning.{owner_of, IsEntered}
use Rattle.image_reader.specs.declared.directory.Found.{Found}
use Rattle.image_reader.specs.declared.directory.Tally.{Tally}
use Rattle.image_reader.specs.declared.directory.Visit.{Visit}
use Rattle.image_reader.specs.declared.owners.Claim.{Claim}
use Rattle.image_reader.specs.Walking.{IsSound}
use Rattle.image_reader.specs.declared.walk.Walk.{Walk}
use Rattle.image_model.proofs.Counts.{count_append}
use Rattle.image_model.proofs.Rising.{one_if}
use Rattle.image_model.proofs.Members.{IsIn, contained, is_in, in_either, in_right, in_filter}
use Rattle.image_model.proofs.Rows.{and_left}
use Rattle.image_reader.proofs.WalkFaults.{set_other, set_here, some_is, same_or_not}

-- ---- nothing added, and one thing added after another

pub claims_stay : (P : Owner → Type 0) (old : List (Option Claim)) → ClaimsOnly P old old
claims_stay P old = record { kept = λ b claim there. there; own = λ b claim there. inl there }

pub finds_stay : (visit : Visit) (old : List Found) → FindsOnlyOf visit old old
finds_stay visit old = record { kept = λ i f there. there; own = λ i f there. inl there }

pub taken_none : (old new : List (Option Claim)) (found : List Found) → AreTaken old new found found
taken_none old new found = record { each = λ i f there. inl there; apart = λ i j f g there other same. inr (inl there) }

pub stays : (P : Owner → Type 0) (visit : Visit) (old : List (Option Claim)) (before : List Found) → GoesOn P visit old before old before
stays P visit old before = record { claims = claims_stay P old; finds = finds_stay visit before; taken = taken_none old old before; counted = refl }

pub claims_then : (P : Owner → Type 0) (old mid new : List (Option Claim)) → ClaimsOnly P old mid → ClaimsOnly P mid new → ClaimsOnly P old new
claims_then P old mid new first second = record {
  kept = λ b claim there. second.kept b claim (first.kept b claim there);
  own = λ b claim there. elim (second.own b claim there) [ inl mid_there ↦ first.own b claim mid_there | inr of ↦ inr of ];
}

pub finds_then : (visit : Visit) (old mid new : List Found) → FindsOnlyOf visit old mid → FindsOnlyOf visit mid new → FindsOnlyOf visit old new
finds_then visit old mid new first second = record {
  kept = λ i f there. second.kept i f (first.kept i f there);
  own = λ i f there. elim (second.own i f there) [ inl mid_there ↦ first.own i f mid_there | inr of ↦ inr of ];
}

-- what was free and is claimed in the first step or in the second
taken_first : (P : Owner → Type 0) (old mid new : List (Option Claim)) (f : Found) → ClaimsOnly P mid new → IsTaken old mid f → IsTaken old new f
taken_first P old mid new f second taken = record { free = taken.free; claim = taken.claim; there = second.kept f.inode.block.number taken.claim taken.there; owner = taken.owner }

taken_second : (P : Owner → Type 0) (old mid new : List (Option Claim)) (f : Found) → ClaimsOnly P old mid → IsTaken mid new f → IsTaken old new f
taken_second P old mid new f first taken = record {
  free = λ claim there. taken.free claim (first.kept f.inode.block.number claim there);
  claim = taken.claim;
  there = taken.there;
  owner = taken.owner;
}

-- an entry of the middle, and one of the end in the same block
taken_across : (old mid new : List (Option Claim)) (before between : List Found) (i j : ℕ) (f g : Found) → AreTaken old mid before between → slice_get between i ≡ Some f
    → (slice_get between j ≡ Some g) ⊎ IsTaken mid new g → f.inode.block.number ≡ g.inode.block.number → (i ≡ j) ⊎ ((slice_get before i ≡ Some f) ⊎ (slice_get before j ≡ Some g))
taken_across old mid new before between i j f g first there (inl other) same = first.apart i j f g there other same
taken_across old mid new before between i j f g first there (inr taken) same = elim (first.each i f there) [
  | inl was ↦ inr (inl was)
  | inr is ↦ absurd (taken.free is.claim (ap (slice_get mid) (sym same) ∙ is.there))
]

taken_then : (P : Owner → Type 0) (old mid new : List (Option Claim)) (before between after : List Found) → ClaimsOnly P old mid → ClaimsOnly P mid new
    → AreTaken old mid before between → AreTaken mid new between after → AreTaken old new before after
taken_then P old mid new before between after claims more first second = record {
  each = λ i f there. elim (second.each i f there) [
    | inl was ↦ elim (first.each i f was) [ inl old_there ↦ inl old_there | inr taken ↦ inr (taken_first P old mid new f more taken) ]
    | inr taken ↦ inr (taken_second P old mid new f claims taken)
  ];
  apart = λ i j f g there other same. elim (second.apart i j f g there other same) [
    | inl e ↦ inl e
    | inr (inl was) ↦ taken_across old mid new before between i j f g first was (second.each j g other) same
    | inr (inr was) ↦ elim (taken_across old mid new before between j i g f first was (second.each i f there) (sym same)) [
      | inl e ↦ inl (sym e)
      | inr (inl b) ↦ inr (inr b)
      | inr (inr b) ↦ inr (inl b)
    ]
  ];
}

pub goes_then : (P : Owner → Type 0) (visit : Visit) (a : List (Option Claim)) (f : List Found) (b : List (Option Claim)) (g : List Found) (c : List (Option Claim)) (h : List Found)
    → GoesOn P visit a f b g → GoesOn P visit b g c h → GoesOn P visit a f c h
goes_then P visit a f b g c h first second = record {
  claims = claims_then P a b c first.claims second.claims;
  finds = finds_then visit f g h first.finds second.finds;
  taken = taken_then P a b c f g h first.claims second.claims first.taken second.taken;
  counted = second.counted ∙ first.counted;
}

-- of more owners
pub goes_wider : (P Q : Owner → Type 0) (visit : Visit) (a : List (Option Claim)) (f : List Found) (b : List (Option Claim)) (g : List Found) → ((o : Owner) → P o → Q o)
    → GoesOn P visit a f b g → GoesOn Q visit a f b g
goes_wider P Q visit a f b g wider on = record {
  claims = record {
    kept = on.claims.kept;
    own = λ x claim there. elim (on.claims.own x claim there) [ inl old ↦ inl old | inr of ↦ inr (wider (owner_of claim) of) ];
  };
  finds = on.finds;
  taken = on.taken;
  counted = on.counted;
}

pub name_is_of : (a : ℕ) (o : Owner) → IsNameOf a o → IsOf a o
name_is_of a (Named parent name) of = of
name_is_of a _ of = absurd of

-- ---- a claim

pub entered_only : (P : Owner → Type 0) (old new : List (Option Claim)) (x : ℕ) (claim : Claim) (fresh : Bool) → P (owner_of claim) → IsEntered old new x claim fresh → ClaimsOnly P old new
entered_only P old new x claim false of (known, same) = subst (ClaimsOnly P old) (sym same) (claims_stay P old)
entered_only P old new x claim true of (lacks, is) = subst (ClaimsOnly P old) (sym is) (record {
  kept = λ b other there. elim (same_or_not b x) [
    | inl here ↦ absurd (let e : Some (Some other) ≡ Some None = sym there ∙ ap (slice_get old) here ∙ lacks in cc)
    | inr apart ↦ set_other old x b (Some claim) apart ∙ there
  ];
  own = λ b other there. elim (same_or_not b x) [
    | inl here ↦
        let at_x : slice_get (slice_set old x (Some claim)) x ≡ Some (Some other) = sym (ap (slice_get (slice_set old x (Some claim))) here) ∙ there in
        inr (subst (λ (c : Claim). P (owner_of c)) (sym (some_is other claim (set_here old x (Some claim) (Some other) at_x))) of)
    | inr apart ↦ inl (sym (set_other old x b (Some claim) apart) ∙ there)
  ];
})

sum_set : {X : Type 0} (f : X → ℕ) (xs : List X) (i : ℕ) (x y : X) → slice_get xs i ≡ Some x → sum_by f (slice_set xs i y) + f x ≡ sum_by f xs + f y
sum_set f [] i x y there = absurd (let e : None ≡ Some x = there in cc)
sum_set f (z ∷ xs) zero x y there = omega (arith, sum_by-cons f y xs, sum_by-cons f z xs, ap f (some_is z x there))
sum_set f (z ∷ xs) (suc i) x y there = omega (arith, sum_by-cons f z (slice_set xs i y), sum_by-cons f z xs, sum_set f xs i x y there)

-- a block that was claimed newly is free no more; it is one of the inode's, or not
pub entered_count : (a : ℕ) (old new : List (Option Claim)) (x : ℕ) (claim : Claim) → IsEntered old new x claim true
    → free_or_within a new + 1 ≡ free_or_within a old + one_if (is_within a (owner_of claim))
entered_count a old new x claim (lacks, is) =
    let free = sum_set (λ (e : Option Claim). cond (is_none e) 1 0) old x None (Some claim) lacks in
    let within = sum_set (λ (e : Option Claim). cond (has_within a e) 1 0) old x None (Some claim) lacks in
    let here : free_or_within a new ≡ free_or_within a (slice_set old x (Some claim)) = ap (free_or_within a) is in
    omega (arith, free, within, here)

-- ---- an entry

pub get_left : {X : Type 0} (xs ys : List X) (i : ℕ) (x : X) → slice_get xs i ≡ Some x → slice_get (xs ++ ys) i ≡ Some x
get_left [] ys i x there = absurd (let e : None ≡ Some x = there in cc)
get_left (y ∷ xs) ys zero x there = there
get_left (y ∷ xs) ys (suc i) x there = get_left xs ys i x there

get_last : {X : Type 0} (xs : List X) (y : X) (i : ℕ) (x : X) → slice_get (xs ++ y ∷ []) i ≡ Some x → (slice_get xs i ≡ Some x) ⊎ (x ≡ y)
get_last [] y zero x there = inr (some_is x y (sym there))
get_last [] y (suc i) x there = absurd (let e : None ≡ Some x = there in cc)
get_last (z ∷ xs) y zero x there = inl there
get_last (z ∷ xs) y (suc i) x there = get_last xs y i x there

at_end : {X : Type 0} (xs : List X) (y : X) (i : ℕ) (x : X) → slice_get (xs ++ y ∷ []) i ≡ Some x → (slice_get xs i ≡ Some x) ⊎ (i ≡ length xs)
at_end [] y zero x there = inr refl
at_end [] y (suc i) x there = absurd (let e : None ≡ Some x = there in cc)
at_end (z ∷ xs) y zero x there = inl there
at_end (z ∷ xs) y (suc i) x there = elim (at_end xs y i x there) [ inl before ↦ inl before | inr e ↦ inr (ap suc e) ]

get_end : {X : Type 0} (xs : List X) (y : X) → slice_get (xs ++ y ∷ []) (length xs) ≡ Some y
get_end [] y = refl
get_end (z ∷ xs) y = get_end xs y

pub finds_one : (visit : Visit) (old : List Found) (f : Found) → IsNamedBy visit f → FindsOnlyOf visit old (old ++ f ∷ [])
finds_one visit old f named = record {
  kept = λ i g there. get_left old (f ∷ []) i g there;
  own = λ i g there. elim (get_last old f i g there) [
    | inl before ↦ inl before
    | inr same ↦ inr (subst (IsNamedBy visit) (sym same) named)
  ];
}

pub entry_stays : (visit : Visit) (old new : List Found) (up : ℕ) (name : List ℕ) (b : ℕ) → FindsOnlyOf visit old new → HasEntry old up name b → HasEntry new up name b
entry_stays visit old new up name b on has = record { index = has.index; entry = has.entry; there = on.kept has.index has.entry has.there; up = has.up; named = has.named; block = has.block }

pub get_right : {X : Type 0} (xs ys : List X) (k : ℕ) (x : X) → slice_get ys k ≡ Some x → (j : ℕ) × (slice_get (xs ++ ys) j ≡ Some x) × (j ≡ length xs + k)
get_right [] ys k x there = (k, there, omega arith)
get_right (z ∷ xs) ys k x there = let r = get_right xs ys k x there in (suc r.0, r.1, omega (arith, r.2))

append_nil : {X : Type 0} (xs : List X) → xs ++ [] ≡ xs
append_nil [] = refl
append_nil (x ∷ xs) = ap (λ more. x ∷ more) (append_nil xs)

and_right : (p q : Bool) → (p && q) ≡ true → q ≡ true
and_right true q e = e
and_right false q e = absurd (let f : false ≡ true = e in cc)

in_map : {X Y : Type 0} (f : X → Y) (y : X) (xs : List X) → IsIn y xs → IsIn (f y) (map f xs)
in_map f y [] there = elim there [ ]
in_map f y (x ∷ xs) (inl e) = inl (ap f e)
in_map f y (x ∷ xs) (inr h) = inr (in_map f y xs h)

pub in_get : {X : Type 0} (y : X) (xs : List X) → IsIn y xs → (k : ℕ) × (slice_get xs k ≡ Some y)
in_get y [] there = elim there [ ]
in_get y (x ∷ xs) (inl e) = (0, ap Some (sym e))
in_get y (x ∷ xs) (inr h) = let r = in_get y xs h in (suc r.0, r.1)

find_in : {X : Type 0} (p : X → Bool) (y : X) (xs : List X) → find p xs ≡ Some y → IsIn y xs × (p y ≡ true)
find_in p y [] found = absurd (let e : None ≡ Some y = found in cc)
find_in p y (x ∷ xs) found = elim (cases_Bool (p x)) [
  | inl so ↦ let e : x ≡ y = some_is x y (sym (cond-true _ (Some x) (find p xs) so) ∙ found) in (inl (sym e), ap p (sym e) ∙ so)
  | inr non ↦ let r = find_in p y xs (sym (cond-false _ (Some x) (find p xs) non) ∙ found) in (inr r.0, r.1)
]

-- ---- records

abbrev pub said_of : List Slot → List Record
said_of slots = map record_of (filter (λ s. is_in_use s.head) slots)

in_said : (xs : List Slot) (y : Slot) → IsIn y xs → is_in_use y.head ≡ true → IsIn (record_of y) (said_of xs)
in_said xs y there used = in_map record_of y (filter (λ s. is_in_use s.head) xs) (in_filter (λ s. is_in_use s.head) y xs there used)

said_append : (xs ys : List Slot) → said_of (xs ++ ys) ≡ said_of xs ++ said_of ys
said_append xs ys = ap (map record_of) (filter-append (λ (s : Slot). is_in_use s.head) xs ys) ∙ map-append record_of (filter (λ s. is_in_use s.head) xs) (filter (λ s. is_in_use s.head) ys)

said_get : (xs : List Slot) (y : Slot) → IsIn y xs → is_in_use y.head ≡ true → (k : ℕ) × (slice_get (said_of xs) k ≡ Some (record_of y))
said_get xs y there used = in_get (record_of y) (said_of xs) (in_said xs y there used)

-- these are gone over, and what is left begins here
pub record IsOver (area rest : List ℕ) (old new : Tally) (visit : Visit) (found : List Found) : Type 0 where
  pub before : List Slot
  pub split : slots_of area ≡ before ++ slots_of rest
  pub counted : AreCounted old new (said_of before)
  pub entered : AreFound found visit (said_of before)

counted_none : (t : Tally) → AreCounted t t []
counted_none t = record {
  entries = omega (arith, t.small.0);
  directories = omega (arith, t.small.1);
  dot = λ is. (is, λ r there _. elim (is_in r [] there) [ ]);
  dots = λ is. (is, λ r there _. elim (is_in r [] there) [ ]);
}

abbrev pub directory_test : Record → Bool
directory_test r = not (is_dots r.name) && r.kind == 4

pub counted_then : (t u v : Tally) (rs ss : List Record) → AreCounted t u rs → AreCounted u v ss → AreCounted t v (rs ++ ss)
counted_then t u v rs ss first second = record {
  entries = omega (arith, first.entries, second.entries, length-append rs ss);
  directories = omega (arith, first.directories, second.directories, count_append directory_test rs ss);
  dot = λ is. let s = second.dot is in let f = first.dot s.0 in (
    f.0,
    λ r there named. elim (in_either r rs ss (is_in r (rs ++ ss) there)) [
      | inl l ↦ f.1 r (contained r rs l) named
      | inr h ↦ s.1 r (contained r ss h) named
    ],
  );
  dots = λ is. let s = second.dots is in let f = first.dots s.0 in (
    f.0,
    λ r there named. elim (in_either r rs ss (is_in r (rs ++ ss) there)) [
      | inl l ↦ f.1 r (contained r rs l) named
      | inr h ↦ s.1 r (contained r ss h) named
    ],
  );
}

pub found_none : (found : List Found) (visit : Visit) → AreFound found visit []
found_none found visit = λ r there plain. elim (is_in r [] there) [ ]

pub found_stay : (visit : Visit) (old new : List Found) (rs : List Record) → FindsOnlyOf visit old new → AreFound old visit rs → AreFound new visit rs
found_stay visit old new rs on are = λ r there plain. entry_stays visit old new visit.place r.name r.address on (are r there plain)

pub found_then : (visit : Visit) (found : List Found) (rs ss : List Record) → AreFound found visit rs → AreFound found visit ss → AreFound found visit (rs ++ ss)
found_then visit found rs ss first second = λ r there plain. elim (in_either r rs ss (is_in r (rs ++ ss) there)) [
  | inl l ↦ first r (contained r rs l) plain
  | inr h ↦ second r (contained r ss h) plain
]

says_is : (head : Dirent) (name : List ℕ) (s : Slot) → IsShown head name s → said_of (s ∷ []) ≡ says head name
says_is head name s shown = elim (cases_Bool (is_in_use s.head)) [
  | inl so ↦
      let same : record_of s ≡ said_by head name = λ i. said_by (sym shown.head_is i) (sym (shown.name_is so) i) in
      ap (map record_of) (cond-true _ (s ∷ []) [] so) ∙ ap (λ r. r ∷ []) same ∙ sym (cond-true _ (said_by head name ∷ []) [] (ap is_in_use shown.head_is ∙ so))
  | inr non ↦ ap (map record_of) (cond-false _ (s ∷ []) [] non) ∙ sym (cond-false _ (said_by head name ∷ []) [] (ap is_in_use shown.head_is ∙ non))
]

pub over_start : (area : List ℕ) (t : Tally) (visit : Visit) (found : List Found) → IsOver area area t t visit found
over_start area t visit found = record { before = []; split = refl; counted = counted_none t; entered = found_none found visit }

pub over_more : (area rest behind : List ℕ) (t u v : Tally) (visit : Visit) (found later : List Found) (head : Dirent) (name : List ℕ)
    → IsOver area rest t u visit found → IsFirstRecord rest head name behind → AreCounted u v (says head name) → AreFound later visit (says head name) → FindsOnlyOf visit found later
    → IsOver area behind t v visit later
over_more area rest behind t u v visit found later head name o first counted entered on =
    let s = slot_at rest in
    let said : said_of (o.before ++ (s ∷ [])) ≡ said_of o.before ++ says head name = said_append o.before (s ∷ []) ∙ ap (λ more. said_of o.before ++ more) (says_is head name s first.shown) in
    record {
      before = o.before ++ (s ∷ []);
      split = o.split ∙ ap (λ more. o.before ++ more) first.slots ∙ sym (append_assoc o.before (s ∷ []) (slots_of behind));
      counted = subst (AreCounted t v) (sym said) (counted_then t u v (said_of o.before) (says head name) o.counted counted);
      entered = subst (AreFound later visit) (sym said) (found_then visit later (said_of o.before) (says head name) (found_stay visit found later (said_of o.before) on o.entered) entered);
    }

over_all : (area rest : List ℕ) (t u : Tally) (visit : Visit) (found : List Found) (o : IsOver area rest t u visit found) → slots_of rest ≡ [] → said_of o.before ≡ records_in area
unfolding records_in
over_all area rest t u visit found o none =
    let all : slots_of area ≡ o.before = o.split ∙ ap (λ more. o.before ++ more) none ∙ append_nil o.before in
    ap said_of (sym all)

pub all_counted : (area rest : List ℕ) (t u : Tally) (visit : Visit) (found : List Found) → IsOver area rest t u visit found → slots_of rest ≡ [] → AreCounted t u (records_in area)
all_counted area rest t u visit found o none = subst (AreCounted t u) (over_all area rest t u visit found o none) o.counted

pub all_found : (area rest : List ℕ) (t u : Tally) (visit : Visit) (found : List Found) → IsOver area rest t u visit found → slots_of rest ≡ [] → AreFound found visit (records_in area)
all_found area rest t u visit found o none = subst (AreFound found visit) (over_all area rest t u visit found o none) o.entered

-- ---- one record among others

pub slot_before : (image : Blocks) (a x : ℕ) (area rest behind : List ℕ) (t u : Tally) (visit : Visit) (found : List Found) (head : Dirent) (name : List ℕ)
    → HasArea (image_at image) a x area → IsOver area rest t u visit found → IsFirstRecord rest head name behind → HasSlotBefore image a x head name behind
slot_before image a x area rest behind t u visit found head name has o first = record {
  area = area;
  has = has;
  before = o.before;
  slot = slot_at rest;
  split = o.split ∙ ap (λ more. o.before ++ more) first.slots;
  shown = first.shown;
}

module _ (image : Blocks) (a x : ℕ) (head : Dirent) (name behind : List ℕ) (at : HasSlotBefore image a x head name behind) (used : is_in_use head ≡ true) where
  used_slot : is_in_use at.slot.head ≡ true
  used_slot = ap is_in_use (sym at.shown.head_is) ∙ used

  pub slot_at_place : HasSlotAt image a x head name
  slot_at_place = record {
    area = at.area;
    has = at.has;
    slot = at.slot;
    there = subst (λ xs. Contains xs at.slot) (sym at.split) (contained at.slot _ (in_right at.slot at.before (at.slot ∷ slots_of behind) (inl refl)));
    used = used_slot;
    head_is = at.shown.head_is;
    name_is = at.shown.name_is used_slot;
  }

  said_first : said_of (at.slot ∷ slots_of behind) ≡ record_of at.slot ∷ said_of (slots_of behind)
  said_first = ap (map record_of) (cond-true _ (at.slot ∷ filter (λ s. is_in_use s.head) (slots_of behind)) (filter (λ s. is_in_use s.head) (slots_of behind)) used_slot)

  said_all : records_in at.area ≡ said_of at.before ++ (record_of at.slot ∷ said_of (slots_of behind))
  unfolding records_in
  said_all = ap said_of at.split ∙ said_append at.before (at.slot ∷ slots_of behind) ∙ ap (λ more. said_of at.before ++ more) said_first

  same_record : record_of at.slot ≡ said_by head name
  same_record = λ i. said_by (sym at.shown.head_is i) (sym (at.shown.name_is used_slot) i)

  pub record_in_area : Contains (records_in at.area) (said_by head name)
  record_in_area =
      let here : IsIn (record_of at.slot) (records_in at.area) = subst (IsIn (record_of at.slot)) (sym said_all) (in_right (record_of at.slot) (said_of at.before) (record_of at.slot ∷ said_of (slots_of behind)) (inl refl)) in
      subst (Contains (records_in at.area)) same_record (contained (record_of at.slot) (records_in at.area) here)

  pub record_at : HasRecordAt image a x head name
  record_at = (at.area, at.has, record_in_area)

  -- the name comes again
  pub comes_again_behind : (y : Slot) → first_named name (slots_of behind) ≡ Some y → Breaks (image_at image) 10 x
  comes_again_behind y again =
      let both = find_in (has_name name) y (slots_of behind) again in
      let y_used : is_in_use y.head ≡ true = and_left (is_in_use y.head) (bytes_eq (name_of y) name) both.1 in
      let y_named : name_of y ≡ name = (bytes_eq-Decides (name_of y) name).0 (and_right (is_in_use y.head) (bytes_eq (name_of y) name) both.1) in
      let k = said_get (slots_of behind) y both.0 y_used in
      let i = get_right (said_of at.before) (record_of at.slot ∷ said_of (slots_of behind)) 0 (record_of at.slot) refl in
      let j = get_right (said_of at.before) (record_of at.slot ∷ said_of (slots_of behind)) (suc k.0) (record_of y) k.1 in
      let ne : i.0 ≢ j.0 = λ e. absurd (omega (arith, e, i.2, j.2)) in
      twice_in_area a x i.0 j.0 at.area (record_of at.slot) (record_of y) at.has
      (ap (λ rs. slice_get rs i.0) said_all ∙ i.1) (ap (λ rs. slice_get rs j.0) said_all ∙ j.1) ne (sym (at.shown.name_is used_slot) ∙ sym y_named)

-- ---- what goes on

pub visit_of : (i j : Blocks) (visit : Visit) → i ≡ j → IsVisitIn i visit → IsVisitIn j visit
visit_of i j visit same is = subst (λ (x : Blocks). IsVisitIn x visit) same is

pub all_of_image : (i j : Blocks) (found : List Found) → i ≡ j → All (IsFoundIn i) found → All (IsFoundIn j) found
all_of_image i j found same are = subst (λ (x : Blocks). All (IsFoundIn x) found) same are

pub area_at : (i j : Blocks) (a x : ℕ) (area : List ℕ) → i ≡ j → HasArea (image_at i) a x area → HasArea (image_at j) a x area
area_at i j a x area same has = subst (λ (b : Blocks). HasArea (image_at b) a x area) same has

-- a block that was known
pub going_known : (old new : Walk) (visit : Visit) (found : List Found) (x : ℕ) (claim : Claim) → IsGoing old visit found → new.image ≡ old.image → IsSound new
    → IsEntered old.owners.entries.items new.owners.entries.items x claim false → IsGoing new visit found
going_known old new visit found x claim going same sound (known, table) = record {
  sound = sound;
  visited = visit_of old.image new.image visit (sym same) going.visited;
  true_of = all_of_image old.image new.image found (sym same) going.true_of;
  noted = λ b other name there named. going.noted b other name (ap (λ es. slice_get es b) (sym table) ∙ there) named;
}

pub known_entry : (old : Walk) (new : List (Option Claim)) (visit : Visit) (found : List Found) (x : ℕ) (claim : Claim) (name : List ℕ) → IsGoing old visit found
    → IsEntered old.owners.entries.items new x claim false → owner_of claim ≡ Named visit.inode.block.number name → HasEntry found visit.place name x
known_entry old new visit found x claim name going (known, table) named = going.noted x known.old name known.there (known.same ∙ named)

name_of_owner : (a : ℕ) (name other : List ℕ) → Named a name ≡ Named a other → name ≡ other
name_of_owner a name other e = cc

-- the entry at the end
pub last_entry : (visit : Visit) (found : List Found) (f : Found) (name : List ℕ) (x : ℕ) → IsNamedBy visit f → f.name ≡ name → f.inode.block.number ≡ x
    → HasEntry (found ++ f ∷ []) visit.place name x
last_entry visit found f name x by named at = record { index = length found; entry = f; there = get_end found f; up = by.0; named = named; block = at }

-- a block that is new, and its entry
pub going_found : (old new : Walk) (visit : Visit) (found : List Found) (f : Found) (x : ℕ) (claim : Claim) (name : List ℕ) → IsGoing old visit found → new.image ≡ old.image → IsSound new
    → IsEntered old.owners.entries.items new.owners.entries.items x claim true → owner_of claim ≡ Named visit.inode.block.number name
    → IsFoundIn old.image f → IsNamedBy visit f → f.name ≡ name → f.inode.block.number ≡ x → IsGoing new visit (found ++ f ∷ [])
going_found old new visit found f x claim name going same sound (lacks, table) owner is by named at = record {
  sound = sound;
  visited = visit_of old.image new.image visit (sym same) going.visited;
  true_of = all_of_image old.image new.image (found ++ f ∷ []) (sym same) (All-push (IsFoundIn old.image) found f going.true_of is);
  noted = λ b other n there is_named. elim (same_or_not b x) [
    | inl here ↦
        let at_x : slice_get (slice_set old.owners.entries.items x (Some claim)) x ≡ Some (Some other) =
        ap (slice_get (slice_set old.owners.entries.items x (Some claim))) (sym here) ∙ ap (λ es. slice_get es b) (sym table) ∙ there in
        let same_claim : other ≡ claim = some_is other claim (set_here old.owners.entries.items x (Some claim) (Some other) at_x) in
        let same_name : name ≡ n = name_of_owner visit.inode.block.number name n (sym owner ∙ ap owner_of (sym same_claim) ∙ is_named) in
        last_entry visit found f n b by (named ∙ same_name) (at ∙ sym here)
    | inr apart ↦
        entry_stays visit found (found ++ f ∷ []) visit.place n b (finds_one visit found f by)
        (going.noted b other n (sym (set_other old.owners.entries.items x b (Some claim) apart) ∙ ap (λ es. slice_get es b) (sym table) ∙ there) is_named)
  ];
}

pub get_set : {X : Type 0} (xs : List X) (i : ℕ) (v y : X) → slice_get xs i ≡ Some y → slice_get (slice_set xs i v) i ≡ Some v
get_set [] i v y there = absurd (let e : None ≡ Some y = there in cc)
get_set (x ∷ xs) zero v y there = refl
get_set (x ∷ xs) (suc i) v y there = get_set xs i v y there

-- the one entry that is new
taken_one : (old new : List (Option Claim)) (found : List Found) (f : Found) (claim : Claim) → IsEntered old new f.inode.block.number claim true → owner_of claim ≡ Named f.parent f.name
    → AreTaken old new found (found ++ f ∷ [])
taken_one old new found f claim (lacks, is) owner = record {
  each = λ i g there. elim (get_last found f i g there) [ inl before ↦ inl before | inr same ↦ inr (subst (IsTaken old new) (sym same) taken) ];
  apart = λ i j g h there other same. elim (at_end found f i g there) [
    | inl before ↦ inr (inl before)
    | inr last ↦ elim (at_end found f j h other) [ inl before ↦ inr (inr before) | inr too ↦ inl (last ∙ sym too) ]
  ];
}
  where
    taken : IsTaken old new f
    taken = record {
      free = λ other there. let e : Some (Some other) ≡ Some None = sym there ∙ lacks in absurd (cc);
      claim = claim;
      there = ap (λ es. slice_get es f.inode.block.number) is ∙ get_set old f.inode.block.number (Some claim) None lacks;
      owner = owner;
    }

-- what a claim by a name adds, with its entry
pub goes_found : (visit : Visit) (old new : List (Option Claim)) (found : List Found) (f : Found) (x : ℕ) (claim : Claim) (name : List ℕ) → IsNamedBy visit f
    → f.name ≡ name → f.inode.block.number ≡ x → owner_of claim ≡ Named visit.inode.block.number name → IsEntered old new x claim true → GoesOn (IsNameOf visit.inode.block.number) visit old found new (found ++ f ∷ [])
goes_found visit old new found f x claim name by named at owner entered =
    let a = visit.inode.block.number in
    let count = entered_count a old new x claim entered in
    let not_within : one_if (is_within a (owner_of claim)) ≡ one_if false = ap (λ o. one_if (is_within a o)) owner in
    record {
      claims = entered_only (IsNameOf a) old new x claim true (subst (IsNameOf a) (sym owner) refl) entered;
      finds = finds_one visit found f by;
      taken = taken_one old new found f claim (subst (λ n. IsEntered old new n claim true) (sym at) entered)
          (owner ∙ (λ i. Named (sym by.1 i) (sym named i)));
      counted = omega (arith, count, not_within, length-append found (f ∷ []));
    }

-- a block that was known adds nothing
pub goes_known : (P : Owner → Type 0) (visit : Visit) (old new : List (Option Claim)) (found : List Found) (x : ℕ) (claim : Claim) → IsEntered old new x claim false → GoesOn P visit old found new found
goes_known P visit old new found x claim (known, same) = subst (λ es. GoesOn P visit old found es found) (sym same) (stays P visit old found)

-- what follows on Ok
pub ok_then : {A E : Type 0} (r : Result A E) (P Q : Type 0) → (P → Q) → OnOk r P → OnOk r Q
ok_then (Ok x) P Q follows holds = follows holds
ok_then (Err e) P Q follows holds = tt

pub ok_hold : {A E : Type 0} (r : Result A E) (Q : Type 0) → Q → OnOk r Q
ok_hold (Ok x) Q holds = holds
ok_hold (Err e) Q holds = tt
