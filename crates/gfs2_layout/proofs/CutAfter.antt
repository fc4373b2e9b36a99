-- What the records tell after one was cut, and which names are found.
use Rattle.std.proofs.Common.{◌≡◌, ◌≢◌, ℕ, zero, suc, ◌+◌, ◌-◌, ◌≤◌, true, inl, inr, List, [], ◌∷◌, ◌++◌, length, take, drop, refl, sym, ap, ◌∙◌, subst, arith, length-drop}
use Rattle.std.specs.Prelude.{IsTrue}
use Rattle.std.specs.List.{AllByRecursion, find}
use Rattle.std.specs.Option.{option_map}
use Rattle.std.proofs.lemmas.Bool.{cases_Bool}
use Rattle.std.proofs.lemmas.List.{take-append-le, length-take-le}
use Rattle.gfs2_layout.specs.Bytes.{u16_at}
use Rattle.gfs2_layout.specs.Structures.{is_in_use}
use Rattle.gfs2_layout.specs.Area.{Slot, slot_at, slot_bytes, slots_of, name_of, first_named, HasItsName, IsArea, IsRecordAt}
use Rattle.gfs2_layout.specs.Putting.{says, told, HasOneMore}
use Rattle.gfs2_layout.specs.Cutting.{emptied, joined, without, slot_from, slots_without}
use Rattle.gfs2_layout.proofs.Records.{behind, record_length, length_behind, area_on, area_ends}
use Rattle.gfs2_layout.proofs.Places.{split_at, behind_place}
use Rattle.gfs2_layout.proofs.FoundAfter.{Said, told_used, told_unused, tells_name, first_told, told_later, one_more_here, one_more_later, one_more_of, find_other, unlike}

-- ---- a record of an area has its name among its bytes, if it is in use

abbrev pub HoldsName : Slot → Type 0
HoldsName s = IsTrue (is_in_use s.head) → s.head.name_len ≤ length s.body

holds_name : (bytes : List ℕ) → 40 ≤ u16_at 20 bytes → u16_at 20 bytes ≤ length bytes → HasItsName (slot_at bytes) → HoldsName (slot_at bytes)
holds_name bytes low inside named used = omega (arith, named used, length-take-le (u16_at 20 bytes - 40) (drop 40 bytes) (omega (arith, length-drop 40 bytes, inside)))

names_within : (n : ℕ) (area : List ℕ) → length area ≤ n → IsArea area → AllByRecursion HoldsName (slots_of area)
names_within n [] few is = subst (AllByRecursion HoldsName) (sym (area_ends [] refl)) tt
names_within zero (x ∷ xs) few is = absurd (omega arith)
names_within (suc n) (x ∷ xs) few is =
    let on = area_on (x ∷ xs) (omega arith) is in
    let long = record_length (x ∷ xs) on.good in
    subst (AllByRecursion HoldsName) (sym on.slots) (
      holds_name (x ∷ xs) long.0 long.1 on.here,
      names_within n (behind (x ∷ xs)) (omega (arith, few, length_behind (x ∷ xs) on.good, long.0)) on.later,
    )

pub names_held : (area : List ℕ) → IsArea area → AllByRecursion HoldsName (slots_of area)
names_held area is = names_within (length area) area (omega arith) is

-- it keeps its name where it takes up the next one
pub name_joined : (p s : Slot) → HoldsName p → is_in_use p.head ≡ true → name_of (joined p s) ≡ name_of p
name_joined p s holds used = take-append-le p.head.name_len p.body (slot_bytes s) (holds used)

-- ---- what is told

told_cut : (before : List Slot) (s : Slot) (later : List Slot) → AllByRecursion HoldsName before → is_in_use s.head ≡ true → HasOneMore (says s) (told (without before s ++ later)) (told (before ++ s ∷ later))
told_cut [] s later hold used = one_more_of (says s) (told (emptied s ∷ later)) (told (s ∷ later)) (told later) (says s ∷ told later) (told_unused (emptied s) later refl) (told_used s later used) (one_more_here (says s) (told later))
told_cut (p ∷ []) s later hold used = elim (cases_Bool (is_in_use p.head)) [
  | inr unused ↦ one_more_of (says s) (told (joined p s ∷ later)) (told (p ∷ s ∷ later)) (told later) (says s ∷ told later) (told_unused (joined p s) later unused) (told_unused p (s ∷ later) unused ∙ told_used s later used)
      (one_more_here (says s) (told later))
  | inl it ↦ one_more_of (says s) (told (joined p s ∷ later)) (told (p ∷ s ∷ later)) (says p ∷ told later) (says p ∷ (says s ∷ told later))
      (told_used (joined p s) later it ∙ ap (λ (name : List ℕ). let said : Said = (record p.head { rec_len = 0 }, name) in said ∷ told later) (name_joined p s hold.0 it))
      (told_used p (s ∷ later) it ∙ ap (λ (saids : List Said). says p ∷ saids) (told_used s later used))
      (one_more_later (says p) (says s) (told later) (says s ∷ told later) (one_more_here (says s) (told later)))
]
told_cut (p ∷ q ∷ before) s later hold used = told_later (says s) p (without (q ∷ before) s ++ later) (q ∷ before ++ s ∷ later) (told_cut (q ∷ before) s later hold.1 used)

pub was_split : (old : List ℕ) (at : ℕ) → IsRecordAt old at → slots_of old ≡ slots_of (take at old) ++ slot_from at old ∷ slots_of (drop (at + u16_at 20 (drop at old)) old)
was_split old at here = split_at old at here ∙ ap (λ (b : List ℕ). slots_of (take at old) ++ slot_from at old ∷ slots_of b) (behind_place old at)

module _ (old new : List ℕ) (at : ℕ) (here : IsRecordAt old at) (used : is_in_use (slot_from at old).head ≡ true) (cut : slots_of new ≡ slots_without at old) where
  pub told_gone : HasOneMore (says (slot_from at old)) (told (slots_of new)) (told (slots_of old))
  told_gone =
      let later = slots_of (drop (at + u16_at 20 (drop at old)) old) in
      one_more_of (says (slot_from at old)) (told (slots_of new)) (told (slots_of old)) (told (slots_without at old)) (told (slots_of (take at old) ++ slot_from at old ∷ later)) (ap told cut) (ap told (was_split old at here))
      (told_cut (slots_of (take at old)) (slot_from at old) later (names_held (take at old) here.before) used)

  pub found_others_cut : (name : List ℕ) → name ≢ name_of (slot_from at old) → option_map says (first_named name (slots_of new)) ≡ option_map says (first_named name (slots_of old))
  found_others_cut name apart =
      let more = told_gone in
      first_told name (slots_of new) ∙ ap (find (tells_name name)) more.was ∙ sym (find_other (tells_name name) more.front more.back (says (slot_from at old)) (unlike (name_of (slot_from at old)) name (λ e. apart (sym e))))
      ∙ ap (find (tells_name name)) (sym more.is) ∙ sym (first_told name (slots_of old))
