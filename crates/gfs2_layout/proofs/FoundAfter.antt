-- What the records tell after one was put in, and which names are found.
use Rattle.std.proofs.Common.{◌≡◌, ◌≢◌, ℕ, ◌-◌, ◌≤◌, Bool, true, false, inl, inr, List, [], ◌∷◌, ◌++◌, length, drop, Option, None, Some, refl, sym, ap, ◌∙◌, subst, arith, cond}
use Rattle.std.specs.Prelude.{◌↔◌}
use Rattle.std.specs.List.{find, list_any}
use Rattle.std.specs.Option.{option_map}
use Rattle.std.specs.Str.{bytes_eq}
use Rattle.std.proofs.lemmas.Bool.{cases_Bool, true≢false, cond-true, cond-false}
use Rattle.std.proofs.lemmas.List.{take_at, take-take}
use Rattle.std.proofs.lemmas.Slice.Eq.{bytes_eq-Decides}
use Rattle.gfs2_layout.specs.Structures.{is_in_use}
use Rattle.gfs2_layout.specs.Area.{Slot, name_of, first_named}
use Rattle.gfs2_layout.specs.Putting.{IsEntryOf, least_length, has_room, cut_short, new_slot, put_into, put_slot, says, new_says, told, HasOneMore}
use Rattle.gfs2_layout.specs.declared.dirent.Dirent.{Dirent}

abbrev pub Said : Type 0
Said = Dirent × List ℕ

-- ---- the records in use, one by one

pub told_used : (s : Slot) (later : List Slot) → is_in_use s.head ≡ true → told (s ∷ later) ≡ says s ∷ told later
told_used s later used = rw used refl

pub told_unused : (s : Slot) (later : List Slot) → is_in_use s.head ≡ false → told (s ∷ later) ≡ told later
told_unused s later unused = rw unused refl

-- the first record of a name is the first that tells it
abbrev pub tells_name : List ℕ → Said → Bool
tells_name name said = bytes_eq said.1 name

pub first_told : (name : List ℕ) (slots : List Slot) → option_map says (first_named name slots) ≡ find (tells_name name) (told slots)
first_told name [] = refl
first_told name (s ∷ later) = elim (cases_Bool (is_in_use s.head)) [
  | inr unused ↦ rw unused (first_told name later)
  | inl used ↦ elim (cases_Bool (bytes_eq (name_of s) name)) [
    | inl same ↦ rw (used, same) refl
    | inr other ↦ rw (used, other) (first_told name later)
  ]
]

-- ---- one more

pub one_more_here : {X : Type 0} (x : X) (xs : List X) → HasOneMore x xs (x ∷ xs)
one_more_here x xs = record { front = []; back = xs; was = refl; is = refl }

pub one_more_later : {X : Type 0} (y x : X) (before after : List X) → HasOneMore x before after → HasOneMore x (y ∷ before) (y ∷ after)
one_more_later {X} y x before after more = record {
  front = y ∷ more.front;
  back = more.back;
  was = ap (λ (xs : List X). y ∷ xs) more.was;
  is = ap (λ (xs : List X). y ∷ xs) more.is;
}

pub one_more_of : {X : Type 0} (x : X) (before after before' after' : List X) → before ≡ before' → after ≡ after' → HasOneMore x before' after' → HasOneMore x before after
one_more_of x before after before' after' was is more = record { front = more.front; back = more.back; was = was ∙ more.was; is = is ∙ more.is }

-- and one more after a record that stays
pub told_later : (x : Said) (s : Slot) (later rest : List Slot) → HasOneMore x (told later) (told rest) → HasOneMore x (told (s ∷ later)) (told (s ∷ rest))
told_later x s later rest more = elim (cases_Bool (is_in_use s.head)) [
  | inr unused ↦ one_more_of x (told (s ∷ later)) (told (s ∷ rest)) (told later) (told rest) (told_unused s later unused) (told_unused s rest unused) more
  | inl used ↦ one_more_of x (told (s ∷ later)) (told (s ∷ rest)) (says s ∷ told later) (says s ∷ told rest) (told_used s later used) (told_used s rest used)
      (one_more_later (says s) x (told later) (told rest) more)
]

least_holds_name : (n : ℕ) → n ≤ least_length n - 40
least_holds_name n = omega arith

pub says_cut : (s : Slot) → says (cut_short s) ≡ says s
says_cut s = ap (λ (name : List ℕ). let said : Said = (record s.head { rec_len = 0 }, name) in said) (take-take s.head.name_len (least_length s.head.name_len - 40) s.body (least_holds_name s.head.name_len))

says_new : (entry : Dirent) (name over : List ℕ) → IsEntryOf entry name → says (new_slot entry name over) ≡ new_says entry name
says_new entry name over of = ap (λ (n : List ℕ). let said : Said = (record entry { rec_len = 0 }, n) in said) (take_at name (drop (length name) over) entry.name_len (sym of.name_len))

pub some_is : {X : Type 0} {x y : X} → ◌≡◌ {A = Option X} (Some x) (Some y) → x ≡ y
some_is e = cc

pub some_none : {X : Type 0} {x : X} → ◌≡◌ {A = Option X} (Some x) None → ⊥
some_none e = cc

pub none_before : {X Y : Type 0} (f : X → Y) (o : Option X) → option_map f o ≡ None → o ≡ None
none_before f None e = refl
none_before f (Some x) e = absurd (some_none e)

-- what holds where a record is put into the first one, and stays so behind others, holds wherever it is put
pub put_by : (entry : Dirent) (name : List ℕ) (P : List Slot → List Slot → Type 0) → ((s : Slot) (later : List Slot) → P (s ∷ later) (put_into entry name s ++ later))
    → ((s : Slot) (later rest : List Slot) → P later rest → P (s ∷ later) (s ∷ rest)) → (slots after : List Slot) → put_slot entry name slots ≡ Some after → P slots after
put_by entry name P here behind [] after put = absurd (some_none (sym put))
put_by entry name P here behind (s ∷ later) after put = elim (cases_Bool (has_room (least_length (length name)) s)) [
  | inl room ↦ subst (P (s ∷ later)) (some_is (sym (cond-true _ (Some (put_into entry name s ++ later)) (option_map (λ (ss : List Slot). s ∷ ss) (put_slot entry name later)) room) ∙ put)) (here s later)
  | inr full ↦ on (put_slot entry name later) (λ rest e. put_by entry name P here behind later rest e) refl
      (sym (cond-false _ (Some (put_into entry name s ++ later)) (option_map (λ (ss : List Slot). s ∷ ss) (put_slot entry name later)) full) ∙ put)
]
  where
    on : (o : Option (List Slot)) → ((rest : List Slot) → o ≡ Some rest → P later rest) → put_slot entry name later ≡ o → option_map (λ (ss : List Slot). s ∷ ss) o ≡ Some after → P (s ∷ later) after
    on None more is e = absurd (some_none (sym e))
    on (Some rest) more is e = subst (P (s ∷ later)) (some_is e) (behind s later rest (more rest refl))

pub into_used : (entry : Dirent) (name : List ℕ) (s : Slot) (later : List Slot) → is_in_use s.head ≡ true
    → put_into entry name s ++ later ≡ cut_short s ∷ (new_slot entry name (drop (least_length s.head.name_len) s.body) ∷ later)
into_used entry name s later used = rw used refl

module _ (entry : Dirent) (name : List ℕ) (of : IsEntryOf entry name) where
  told_new : (over : List ℕ) (later : List Slot) → told (new_slot entry name over ∷ later) ≡ new_says entry name ∷ told later
  told_new over later = told_used (new_slot entry name over) later of.used ∙ ap (λ (said : Said). said ∷ told later) (says_new entry name over of)

  told_into : (s : Slot) (later : List Slot) → HasOneMore (new_says entry name) (told (s ∷ later)) (told (put_into entry name s ++ later))
  told_into s later = elim (cases_Bool (is_in_use s.head)) [
    | inr unused ↦ rw unused (one_more_of (new_says entry name) (told later) (told (new_slot entry name s.body ∷ later)) (told later) (new_says entry name ∷ told later) refl (told_new s.body later) (one_more_here (new_says entry name) (told later)))
    | inl used ↦ one_more_of (new_says entry name) (told (s ∷ later)) (told (put_into entry name s ++ later)) (says s ∷ told later) (says s ∷ (new_says entry name ∷ told later)) (told_used s later used)
        (
        ap told (into_used entry name s later used) ∙ told_used (cut_short s) (new_slot entry name (drop (least_length s.head.name_len) s.body) ∷ later) used
        ∙ (λ i. says_cut s i ∷ told_new (drop (least_length s.head.name_len) s.body) later i)
        )
        (one_more_later (says s) (new_says entry name) (told later) (new_says entry name ∷ told later) (one_more_here (new_says entry name) (told later)))
  ]

  pub told_put : (slots after : List Slot) → put_slot entry name slots ≡ Some after → HasOneMore (new_says entry name) (told slots) (told after)
  told_put = put_by entry name (λ slots after. HasOneMore (new_says entry name) (told slots) (told after)) told_into (told_later (new_says entry name))

-- ---- what is found

pub find_other : {X : Type 0} (p : X → Bool) (front back : List X) (x : X) → p x ≡ false → find p (front ++ x ∷ back) ≡ find p (front ++ back)
find_other p [] back x not_it = cond-false _ (Some x) (find p back) not_it
find_other p (y ∷ front) back x not_it = ap (cond (p y) (Some y)) (find_other p front back x not_it)

find_same : {X : Type 0} (p : X → Bool) (front back : List X) (x : X) → p x ≡ true → find p (front ++ back) ≡ None → find p (front ++ x ∷ back) ≡ Some x
find_same p [] back x it none = cond-true _ (Some x) (find p back) it
find_same p (y ∷ front) back x it none = elim (cases_Bool (p y)) [
  | inl so ↦ absurd (some_none (sym (cond-true _ (Some y) (find p (front ++ back)) so) ∙ none))
  | inr non ↦ cond-false _ (Some y) (find p (front ++ x ∷ back)) non ∙ find_same p front back x it (sym (cond-false _ (Some y) (find p (front ++ back)) non) ∙ none)
]

pub unlike : (n m : List ℕ) → n ≢ m → bytes_eq n m ≡ false
unlike n m d = elim (cases_Bool (bytes_eq n m)) [ inl so ↦ absurd (d ((bytes_eq-Decides n m).0 so)) | inr non ↦ non ]

pub found_new : (entry : Dirent) (name : List ℕ) (slots after : List Slot) → IsEntryOf entry name → put_slot entry name slots ≡ Some after → first_named name slots ≡ None
    → option_map says (first_named name after) ≡ Some (new_says entry name)
found_new entry name slots after of put none =
    let more = told_put entry name of slots after put in
    let was : find (tells_name name) (more.front ++ more.back) ≡ None = ap (find (tells_name name)) (sym more.was) ∙ sym (first_told name slots) ∙ ap (option_map says) none in
    first_told name after ∙ ap (find (tells_name name)) more.is ∙ find_same (tells_name name) more.front more.back (new_says entry name) ((bytes_eq-Decides name name).1 refl) was

pub found_others : (entry : Dirent) (name : List ℕ) (slots after : List Slot) (other : List ℕ) → IsEntryOf entry name → put_slot entry name slots ≡ Some after → other ≢ name
    → option_map says (first_named other after) ≡ option_map says (first_named other slots)
found_others entry name slots after other of put apart =
    let more = told_put entry name of slots after put in
    first_told other after ∙ ap (find (tells_name other)) more.is ∙ find_other (tells_name other) more.front more.back (new_says entry name) (unlike name other (λ e. apart (sym e)))
    ∙ ap (find (tells_name other)) (sym more.was) ∙ sym (first_told other slots)

-- ---- and where there is no room

pub no_room : (entry : Dirent) (name : List ℕ) (slots : List Slot) → (put_slot entry name slots ≡ None) ↔ (list_any (has_room (least_length (length name))) slots ≡ false)
no_room entry name [] = (λ e. refl, λ e. refl)
no_room entry name (s ∷ later) = elim (cases_Bool (has_room (least_length (length name)) s)) [
  | inl room ↦ rw room (λ e. absurd (some_none e), λ e. absurd (true≢false e))
  | inr full ↦ rw full (λ e. (no_room entry name later).0 (none_before (λ (ss : List Slot). s ∷ ss) (put_slot entry name later) e), λ e. ap (option_map (λ (ss : List Slot). s ∷ ss)) ((no_room entry name later).1 e))
]
