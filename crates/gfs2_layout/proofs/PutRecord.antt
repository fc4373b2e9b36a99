-- A record that is put into an area, at the first place with room.
use Rattle.std.proofs.Common.{◌≡◌, ℕ, ◌-◌, ◌≤◌, Bool, true, false, List, [], ◌∷◌, ◌++◌, length, take, drop, Some, refl, sym, ap, ◌∙◌, subst, arith, length-drop}
use Rattle.std.specs.List.{list_any}
use Rattle.std.specs.Option.{option_map}
use Rattle.std.proofs.lemmas.List.Folds.{list_any-append}
use Rattle.gfs2_layout.specs.Area.{Slot, slot_at, slots_of, IsArea}
use Rattle.gfs2_layout.specs.Putting.{IsEntryOf, least_length, has_room, put_into, put_slot, IsFirstWithRoom}
use Rattle.gfs2_layout.specs.declared.dirent.Dirent.{Dirent}
use Rattle.gfs2_layout.proofs.Records.{behind}
use Rattle.gfs2_layout.proofs.Places.{joined, split_at}
use Rattle.gfs2_layout.proofs.PutHere.{IsPut, end_part, end_put}
use borrow.Rule.Slice.PartMut.{put_mid}

none_of : (p : Slot → Bool) (s : Slot) (later : List Slot) → list_any p (s ∷ later) ≡ false → (p s ≡ false) × (list_any p later ≡ false)
none_of p s later none = by_test (p s) refl
  where
    by_test : (b : Bool) → p s ≡ b → (p s ≡ false) × (list_any p later ≡ false)
    by_test true is = absurd (let e = rw is at none in cc)
    by_test false is = (is, rw is at none)

-- records without room are passed
pub put_behind : (entry : Dirent) (name : List ℕ) (before : List Slot) (s : Slot) (later : List Slot) → list_any (has_room (least_length (length name))) before ≡ false → has_room (least_length (length name)) s ≡ true
    → put_slot entry name (before ++ s ∷ later) ≡ Some (before ++ (put_into entry name s ++ later))
put_behind entry name [] s later none room = rw room refl
put_behind entry name (b ∷ before) s later none room =
    let no = none_of (has_room (least_length (length name))) b before none in
    rw no.0 (ap (option_map (λ (after : List Slot). b ∷ after)) (put_behind entry name before s later no.1 room))

module _ (area name : List ℕ) (entry : Dirent) (needed at : ℕ) (needs : needed ≡ least_length (length name)) (of : IsEntryOf entry name) (first : IsFirstWithRoom needed area at) where
  part : take (length area - at) (drop at area) ≡ drop at area
  part = end_part at area

  some_here : 1 ≤ length (drop at area)
  some_here = omega (arith, length-drop at area, first.within)

  -- what is asked where it is put
  pub part_is_area : IsArea (take (length area - at) (drop at area))
  part_is_area = subst IsArea (sym part) first.later

  pub part_has_some : 1 ≤ length (take (length area - at) (drop at area))
  part_has_some = subst (λ (b : List ℕ). 1 ≤ length b) (sym part) some_here

  pub part_has_room : has_room (least_length (length name)) (slot_at (take (length area - at) (drop at area))) ≡ true
  part_has_room = (λ i. has_room (sym needs i) (slot_at (part i))) ∙ first.room

  slots_split : slots_of area ≡ slots_of (take at area) ++ slot_at (drop at area) ∷ slots_of (behind (drop at area))
  slots_split = split_at area at (record { within = first.within; before = first.before; later = first.later })

  none_before : list_any (has_room (least_length (length name))) (slots_of (take at area)) ≡ false
  none_before = ap (λ (n : ℕ). list_any (has_room n) (slots_of (take at area))) (sym needs) ∙ first.none

  room_here : has_room (least_length (length name)) (slot_at (drop at area)) ≡ true
  room_here = ap (λ (n : ℕ). has_room n (slot_at (drop at area))) (sym needs) ∙ first.room

  -- and what is there after it
  pub some_has_room : true ≡ list_any (has_room (least_length (length name))) (slots_of area)
  some_has_room = sym (
      ap (list_any (has_room (least_length (length name)))) slots_split
      ∙ list_any-append (has_room (least_length (length name))) (slots_of (take at area)) (slot_at (drop at area) ∷ slots_of (behind (drop at area)))
      ∙ rw (none_before, room_here) refl
      )

  pub put_all : (new : List ℕ) → IsPut (take (length area - at) (drop at area)) new name entry
      → (put_slot entry name (slots_of area) ≡ Some (slots_of (put_mid at (length area - at) area new))) × IsArea (put_mid at (length area - at) area new)
  put_all new put =
      let whole = end_put at area new in
      let both = joined (take at area) new first.before in
      let slots : slots_of new ≡ put_into entry name (slot_at (drop at area)) ++ slots_of (behind (drop at area)) =
      put.slots ∙ (λ i. put_into entry name (slot_at (part i)) ++ slots_of (behind (part i))) in (
        ap (put_slot entry name) slots_split
            ∙ put_behind entry name (slots_of (take at area)) (slot_at (drop at area)) (slots_of (behind (drop at area))) none_before room_here
            ∙ ap (λ (ss : List Slot). Some (slots_of (take at area) ++ ss)) (sym slots)
            ∙ ap Some (sym both.slots) ∙ ap (λ (b : List ℕ). Some (slots_of b)) (sym whole),
        subst IsArea (sym whole) (both.area put.area),
      )
