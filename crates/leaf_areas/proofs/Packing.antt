-- Records that are packed into bytes, one behind another.
use Rattle.std.proofs.Common.{◌≡◌, ℕ, ◌+◌, ◌-◌, ◌≤◌, List, [], ◌∷◌, ◌++◌, length, take, drop, replicate, refl, sym, ap, ◌∙◌, subst, arith, append_assoc}
use Rattle.std.specs.Prelude.{filter}
use Rattle.std.proofs.lemmas.List.{length-append, length-drop, length-take-le}
use Rattle.std.proofs.lemmas.Slice.{take-put_mid}
use Rattle.gfs2_layout.specs.Area.{Slot, slot_at, slots_of, name_of, IsArea}
use Rattle.gfs2_layout.specs.Putting.{new_slot}
use Rattle.gfs2_layout.specs.declared.dirent.Dirent.{Dirent}
use Rattle.gfs2_layout.proofs.Records.{area_ends}
use Rattle.gfs2_layout.proofs.Places.{area_none, joined}
use Rattle.gfs2_layout.proofs.PutHere.{end_part, end_put}
use Rattle.leaf_areas.specs.declared.parts.Part.{Part}
use Rattle.leaf_areas.specs.Moving.{moved, moved_length, packed}
use Rattle.leaf_areas.specs.Parts.{belongs, HoldsItsName, IsNextOf}
use Rattle.leaf_areas.proofs.Alone.{IsAlone, alone, moved_is}
use borrow.Rule.Slice.PartMut.{put_mid}

-- a record takes no less than its name needs, and no more than it took
moved_bounds : (s : Slot) → HoldsItsName s → (40 + s.head.name_len ≤ moved_length s) × (moved_length s ≤ s.head.rec_len)
moved_bounds s holds = (omega (arith, holds.within), omega arith)

-- bytes over which a record was written
written : (s : Slot) (head : Dirent) (name bytes : List ℕ) (len : ℕ) → HoldsItsName s → head ≡ s.head → name ≡ name_of s → len ≡ length bytes → 40 + s.head.name_len ≤ len
    → slot_at bytes ≡ new_slot (record head { rahead = 0 }) name (replicate (len - 40) 0) → IsAlone bytes (moved len s)
written s head name bytes len holds head_is name_is size named slot =
    alone bytes (moved len s)
    (slot ∙ (λ i. new_slot (record (head_is i) { rahead = 0 }) (name_is i) (replicate (len - 40) 0)) ∙ moved_is s len (omega (arith, named)))
    size (omega (arith, size, named)) (λ used. named)

-- bytes in which they are packed
pub record IsPacked (part : Part) (from : List ℕ) (room : ℕ) (new : List ℕ) : Type 0 where
  pub slots : slots_of new ≡ packed room (filter (belongs part) (slots_of from))
  pub filled : IsArea new
  pub size : length new ≡ room

-- the records up to a place are packed but for the last one found, which is still to be written there
pub record IsPacking (part : Part) (from into : List ℕ) (at : ℕ) (head : Dirent) (name rest : List ℕ) (count : ℕ) : Type 0 where
  pub last : Slot
  pub head_is : head ≡ last.head
  pub name_is : name ≡ name_of last
  pub holds : HoldsItsName last
  pub front : IsArea (take at into)
  pub slots : slots_of (take at into) ++ packed (length into - at) (last ∷ filter (belongs part) (slots_of rest)) ≡ packed (length into) (filter (belongs part) (slots_of from))
  pub counted : count + length (filter (belongs part) (slots_of rest)) ≡ length (filter (belongs part) (slots_of from))
  pub later : IsArea rest
  pub room : at + last.head.rec_len + length rest ≤ length into
  pub few : count ≤ at + 1

pub packing_begins : (part : Part) (from into : List ℕ) (head : Dirent) (name rest : List ℕ) → length from ≤ length into → IsNextOf part from head name rest → IsPacking part from into 0 head name rest 1
packing_begins part from into head name rest room is = record {
  last = is.next;
  head_is = is.head_is;
  name_is = is.name_is;
  holds = is.holds;
  front = area_none [] refl;
  slots = let all : length into - 0 ≡ length into = omega arith in (λ i. area_ends [] refl i ++ packed (all i) (sym is.slots i));
  counted = let n : ℕ = length (filter (belongs part) (slots_of rest)) in let e : 1 + n ≡ length (is.next ∷ filter (belongs part) (slots_of rest)) = omega arith in e ∙ ap length (sym is.slots);
  later = is.later;
  room = omega (arith, is.within, room);
  few = omega arith;
}

module _ (part : Part) (from into : List ℕ) (at : ℕ) (head : Dirent) (name rest : List ℕ) (count : ℕ) (so : IsPacking part from into at head name rest count) where
  ends_within : at + moved_length so.last ≤ length into
  ends_within = omega (arith, (moved_bounds so.last so.holds).1, so.room)

  front_length : length (take at into) ≡ at
  front_length = length-take-le at into (omega (arith, so.room))

  -- another one comes behind it
  module _ (head' : Dirent) (name' rest' : List ℕ) (next : IsNextOf part rest head' name' rest') (part' : List ℕ) (end : ℕ) (end_is : end ≡ at + moved_length so.last)
      (same_size : length part' ≡ length (take (end - at) (drop at into))) (slot : slot_at part' ≡ new_slot (record head { rahead = 0 }) name (replicate (length (take (end - at) (drop at into)) - 40) 0)) where
    own_length : length (take (end - at) (drop at into)) ≡ end - at
    own_length = length-take-le (end - at) (drop at into) (omega (arith, ends_within, end_is, length-drop at into))

    size : length part' ≡ end - at
    size = same_size ∙ own_length

    abbrev into' : List ℕ
    into' = put_mid at (end - at) into part'

    taken : take end into' ≡ take at into ++ part'
    taken = take-put_mid at (end - at) into part' end (omega (arith, size, end_is)) (omega (arith, so.room))

    one : IsAlone part' (moved (end - at) so.last)
    one =
        written so.last head name part' (end - at) so.holds so.head_is so.name_is (sym size) (omega (arith, end_is, (moved_bounds so.last so.holds).0))
        (slot ∙ ap (λ (n : ℕ). new_slot (record head { rahead = 0 }) name (replicate (n - 40) 0)) own_length)

    same : length into' ≡ length into
    same = omega (arith, length-append (take at into) (part' ++ drop (end - at) (drop at into)), length-append part' (drop (end - at) (drop at into)), length-drop (end - at) (drop at into), length-drop at into, front_length, size, end_is, ends_within)

    pub packing_goes_on : IsPacking part from into' end head' name' rest' (count + 1)
    packing_goes_on =
        let both = joined (take at into) part' so.front in
        let later = filter (belongs part) (slots_of rest') in
        let here : end - at ≡ moved_length so.last = omega (arith, end_is) in
        let left : length into' - end ≡ length into - at - moved_length so.last = omega (arith, same, end_is) in
        let all : slots_of (take end into') ≡ slots_of (take at into) ++ moved (moved_length so.last) so.last ∷ [] =
        ap slots_of taken ∙ both.slots ∙ (λ i. slots_of (take at into) ++ (one.slots ∙ ap (λ (n : ℕ). moved n so.last ∷ []) here) i) in
        record {
          last = next.next;
          head_is = next.head_is;
          name_is = next.name_is;
          holds = next.holds;
          front = subst IsArea (sym taken) (both.area one.area);
          slots = (λ i. all i ++ packed (left i) (next.next ∷ later))
              ∙ append_assoc (slots_of (take at into)) (moved (moved_length so.last) so.last ∷ []) (packed (length into - at - moved_length so.last) (next.next ∷ later))
              ∙ ap (λ (ss : List Slot). slots_of (take at into) ++ packed (length into - at) (so.last ∷ ss)) (sym next.slots)
              ∙ so.slots
              ∙ ap (λ (n : ℕ). packed n (filter (belongs part) (slots_of from))) (sym same);
          counted = let e : length (filter (belongs part) (slots_of rest)) ≡ 1 + length later = ap length next.slots ∙ omega arith in omega (arith, e, so.counted);
          later = next.later;
          room = omega (arith, end_is, same, so.room, (moved_bounds so.last so.holds).1, next.within);
          few = omega (arith, end_is, so.few, (moved_bounds so.last so.holds).0);
        }

  -- none comes any more
  pub all_counted : filter (belongs part) (slots_of rest) ≡ [] → count ≡ length (filter (belongs part) (slots_of from))
  all_counted none = omega (arith, so.counted, ap length none)

  module _ (none : filter (belongs part) (slots_of rest) ≡ []) (part' : List ℕ) (same_size : length part' ≡ length (take (length into - at) (drop at into)))
      (slot : slot_at part' ≡ new_slot (record head { rahead = 0 }) name (replicate (length (take (length into - at) (drop at into)) - 40) 0)) where
    rest_length : length (take (length into - at) (drop at into)) ≡ length into - at
    rest_length = ap length (end_part at into) ∙ length-drop at into

    whole : IsAlone part' (moved (length into - at) so.last)
    whole =
        written so.last head name part' (length into - at) so.holds so.head_is so.name_is (sym (same_size ∙ rest_length)) (omega (arith, so.room, so.holds.within))
        (slot ∙ ap (λ (n : ℕ). new_slot (record head { rahead = 0 }) name (replicate (n - 40) 0)) rest_length)

    pub packing_ends : (room : ℕ) → length into ≡ room → IsPacked part from room (put_mid at (length into - at) into part')
    packing_ends room is_room =
        let both = joined (take at into) part' so.front in
        let all = end_put at into part' in
        record {
          slots = ap slots_of all ∙ both.slots ∙ ap (λ (ss : List Slot). slots_of (take at into) ++ ss) whole.slots ∙ ap (λ (ss : List Slot). slots_of (take at into) ++ packed (length into - at) (so.last ∷ ss)) (sym none) ∙ so.slots
              ∙ ap (λ (n : ℕ). packed n (filter (belongs part) (slots_of from))) is_room;
          filled = subst IsArea (sym all) (both.area whole.area);
          size = omega (arith, ap length all, length-append (take at into) part', front_length, same_size, rest_length, so.room, is_room);
        }
