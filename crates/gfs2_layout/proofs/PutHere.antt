-- A record that is put into the first of an area: the area's records after it.
use Rattle.std.proofs.Common.{◌≡◌, ℕ, ◌+◌, ◌-◌, ◌≤◌, ◌<◌, ◌^◌, true, false, List, ◌∷◌, ◌++◌, length, take, drop, refl, sym, ap, ◌∙◌, subst, arith, length-append, length-drop}
use Rattle.std.specs.Int.{w16}
use Rattle.std.proofs.lemmas.List.{drop_at, drop-drop, drop-take, take_at, take_all, drop_all, append-nil, length-take-le}
use Rattle.gfs2_layout.specs.Bytes.{slice, u16_at, with_number}
use Rattle.gfs2_layout.specs.Structures.{dirent_of, is_in_use}
use Rattle.gfs2_layout.specs.Area.{Slot, slot_at, slots_of, HasItsName, IsArea}
use Rattle.gfs2_layout.specs.Putting.{IsEntryOf, least_length, has_room, cut_short, new_slot, put_into}
use Rattle.gfs2_layout.specs.declared.dirent.Dirent.{Dirent}
use Rattle.gfs2_layout.proofs.InPlace.{is_width_16, length-with, drop-with}
use Rattle.gfs2_layout.proofs.Records.{behind, record_length, area_on}
use Rattle.gfs2_layout.proofs.Places.{slot_front}
use Rattle.gfs2_layout.proofs.Written.{stands, used_room, unused_room, cut}
use borrow.Rule.Slice.PartMut.{put_mid}

-- ---- the end of a list, as a part of it

pub end_part : (at : ℕ) (xs : List ℕ) → take (length xs - at) (drop at xs) ≡ drop at xs
end_part at xs = take_all (length xs - at) (drop at xs) (omega (arith, length-drop at xs))

pub end_put : (at : ℕ) (xs ys : List ℕ) → put_mid at (length xs - at) xs ys ≡ take at xs ++ ys
end_put at xs ys = ap (λ (zs : List ℕ). take at xs ++ (ys ++ zs)) (drop_all (length xs - at) (drop at xs) (omega (arith, length-drop at xs))) ∙ ap (λ (zs : List ℕ). take at xs ++ zs) (append-nil ys)

-- ---- what is there after it

pub record IsPut (bytes new name : List ℕ) (entry : Dirent) : Type 0 where
  pub slots : slots_of new ≡ put_into entry name (slot_at bytes) ++ slots_of (behind bytes)
  pub area : IsArea new

-- a new record names what is in it
new_named : (entry : Dirent) (name over : List ℕ) → IsEntryOf entry name → length name ≤ length over → HasItsName (new_slot entry name over)
new_named entry name over of fits used = omega (arith, of.name_len, fits)

-- ---- an unused record is taken whole

module _ (bytes new name : List ℕ) (entry : Dirent) (rec_len : ℕ) (is : IsArea bytes) (some : 1 ≤ length bytes) (of : IsEntryOf entry name) (room : has_room (least_length (length name)) (slot_at bytes) ≡ true)
    (unused : is_in_use (dirent_of bytes) ≡ false) (long : rec_len ≡ u16_at 20 bytes) where
  unused_fits : 40 + length name ≤ rec_len
  unused_fits = omega (arith, unused_room (least_length (length name)) (slot_at bytes) room unused, long)

  unused_inside : rec_len ≤ length bytes
  unused_inside = omega (arith, long, (record_length bytes (area_on bytes some is).good).1)

  pub unused_put : slot_at new ≡ new_slot entry name (slice 40 (rec_len - 40) bytes) → drop rec_len new ≡ drop rec_len bytes → length new ≡ length bytes → IsPut bytes new name entry
  unused_put slot further size =
      let on = area_on bytes some is in
      let body : slice 40 (rec_len - 40) bytes ≡ (slot_at bytes).body = ap (λ (n : ℕ). slice 40 (n - 40) bytes) long in
      let over : 40 + length (slot_at bytes).body ≡ rec_len =
      omega (arith, ap length body, length-take-le (rec_len - 40) (drop 40 bytes) (omega (arith, length-drop 40 bytes, unused_inside)), unused_fits) in
      let standing = stands new (new_slot entry name (slot_at bytes).body) (behind bytes) (slot ∙ ap (new_slot entry name) body) (omega (arith, over, unused_fits)) (omega (arith, over, size, unused_inside))
      (new_named entry name (slot_at bytes).body of (omega (arith, over, unused_fits))) (ap (λ (n : ℕ). drop n new) over ∙ further ∙ ap (λ (n : ℕ). drop n bytes) long) on.later in
      record { slots = standing.slots ∙ rw unused refl; area = standing.area }

-- ---- one in use is cut to its least length

module _ (bytes tail name : List ℕ) (entry : Dirent) (rec_len least : ℕ) (is : IsArea bytes) (some : 1 ≤ length bytes) (of : IsEntryOf entry name) (room : has_room (least_length (length name)) (slot_at bytes) ≡ true)
    (used : is_in_use (dirent_of bytes) ≡ true) (long : rec_len ≡ u16_at 20 bytes) (least_is : least ≡ least_length (u16_at 22 bytes)) where
  pub used_fits : (40 ≤ least) × (least + (40 + length name) ≤ rec_len)
  used_fits = (omega (arith, least_is), omega (arith, used_room (least_length (length name)) (slot_at bytes) room used, long, least_is))

  pub used_inside : rec_len ≤ length bytes
  used_inside = omega (arith, long, (record_length bytes (area_on bytes some is).good).1)

  module _ (short : least < 2 ^ 16) where
    abbrev pub shorter : List ℕ
    shorter = with_number w16 20 least bytes

    room_to_cut : 20 + 2 ≤ length bytes
    room_to_cut = omega (arith, used_fits.0, used_fits.1, used_inside)

    pub size_shorter : length shorter ≡ length bytes
    size_shorter = length-with w16 20 least bytes is_width_16 room_to_cut

    behind_shorter : (k : ℕ) → 22 ≤ k → drop k shorter ≡ drop k bytes
    behind_shorter k far = drop-with w16 20 least bytes is_width_16 room_to_cut k far

    slot_shorter : slot_at shorter ≡ cut_short (slot_at bytes)
    slot_shorter =
        cut bytes least used_fits.0 (omega (arith, used_fits.1, long)) (omega (arith, used_inside, long)) short
        ∙ ap (λ (n : ℕ). let s : Slot = record { head = record (dirent_of bytes) { rec_len = n }; pad = slice 28 12 bytes; body = take (n - 40) (slice 40 (u16_at 20 bytes - 40) bytes) } in s) least_is

    over_is : slice 40 (rec_len - least - 40) (drop least shorter) ≡ drop (least_length (u16_at 22 bytes)) (slot_at bytes).body
    over_is =
        let d : ℕ = rec_len - least - 40 in
        let e : u16_at 20 bytes - 40 ≡ least + d = omega (arith, long, used_fits.0, used_fits.1) in
        let there : drop 40 (drop least shorter) ≡ drop least (drop 40 bytes) =
        drop-drop 40 least shorter ∙ behind_shorter (least + 40) (omega (arith, used_fits.0)) ∙ ap (λ (n : ℕ). drop n bytes) (omega arith) ∙ sym (drop-drop least 40 bytes) in
        ap (take d) there ∙ sym (drop-take least d (drop 40 bytes)) ∙ ap (λ (n : ℕ). drop least (take n (drop 40 bytes))) (sym e) ∙ ap (λ (n : ℕ). drop n (slot_at bytes).body) least_is

    over_long : 40 + length (drop (least_length (u16_at 22 bytes)) (slot_at bytes).body) ≡ rec_len - least
    over_long =
        omega (arith, ap length over_is, length-take-le (rec_len - least - 40) (drop 40 (drop least shorter)) (omega (arith, length-drop 40 (drop least shorter), length-drop least shorter, size_shorter, used_fits.1, used_inside)), used_fits.1)

    pub used_put : slot_at tail ≡ new_slot entry name (slice 40 (rec_len - least - 40) (drop least shorter)) → drop (rec_len - least) tail ≡ drop (rec_len - least) (drop least shorter) → length tail ≡ length (drop least shorter)
        → IsPut bytes (take least shorter ++ tail) name entry
    used_put slot further size =
        let on = area_on bytes some is in
        let over = drop (least_length (u16_at 22 bytes)) (slot_at bytes).body in
        let new_one = new_slot entry name over in
        let size_tail : length tail + least ≡ length bytes = omega (arith, size, length-drop least shorter, size_shorter, used_fits.1, used_inside) in
        let later : drop (40 + length over) tail ≡ behind bytes =
        ap (λ (n : ℕ). drop n tail) over_long ∙ further ∙ drop-drop (rec_len - least) least shorter ∙ ap (λ (n : ℕ). drop n shorter) (omega (arith, used_fits.1, long))
        ∙ behind_shorter (u16_at 20 bytes) (omega (arith, long, used_fits.0, used_fits.1)) in
        let second = stands tail new_one (behind bytes) (slot ∙ ap (new_slot entry name) over_is) (omega arith) (omega (arith, over_long, size_tail, used_fits.1, used_inside))
        (new_named entry name over of (omega (arith, over_long, used_fits.1))) later on.later in
        let front : length (take least shorter) ≡ least = length-take-le least shorter (omega (arith, size_shorter, used_fits.1, used_inside)) in
        let same : take least shorter ≡ take least (take least shorter ++ tail) = sym (take_at (take least shorter) tail least front) in
        let cut_len : u16_at 20 shorter ≡ least = ap (λ (s : Slot). s.head.rec_len) slot_shorter ∙ sym least_is in
        let slot_first = sym (slot_front least shorter (take least shorter ++ tail) used_fits.0 (omega (arith, cut_len)) same) ∙ slot_shorter in
        let first = stands (take least shorter ++ tail) (cut_short (slot_at bytes)) tail slot_first (omega arith) (omega (arith, front, least_is, length-append (take least shorter) tail)) (λ h. omega arith)
        (ap (λ (n : ℕ). drop n (take least shorter ++ tail)) (sym least_is) ∙ drop_at (take least shorter) tail least front) second.area in
        record { slots = first.slots ∙ ap (λ (ss : List Slot). cut_short (slot_at bytes) ∷ ss) second.slots ∙ rw used refl; area = first.area }

-- ---- by what the code holds

module _ (bytes name : List ℕ) (entry head : Dirent) (is : IsArea bytes) (some : 1 ≤ length bytes) (of : IsEntryOf entry name) (room : has_room (least_length (length name)) (slot_at bytes) ≡ true) (head_is : head ≡ dirent_of bytes) where
  pub record_fits : (40 ≤ length bytes) × (head.rec_len ≤ length bytes)
  record_fits =
      let long = record_length bytes (area_on bytes some is).good in
      let e : head.rec_len ≡ u16_at 20 bytes = ap (λ (d : Dirent). d.rec_len) head_is in
      (omega (arith, long.0, long.1), omega (arith, long.1, e))

  pub whole_put : (new : List ℕ) → false ≡ is_in_use head → slot_at new ≡ new_slot entry name (slice 40 (head.rec_len - 40) bytes) → drop head.rec_len new ≡ drop head.rec_len bytes → length new ≡ length bytes
      → IsPut bytes new name entry
  whole_put new unused = unused_put bytes new name entry head.rec_len is some of room (ap is_in_use (sym head_is) ∙ sym unused) (ap (λ (d : Dirent). d.rec_len) head_is)

  module _ (least : ℕ) (least_is : least ≡ least_length head.name_len) (used : true ≡ is_in_use head) where
    least_there : least ≡ least_length (u16_at 22 bytes)
    least_there = least_is ∙ ap (λ (d : Dirent). least_length d.name_len) head_is

    numbers : (40 ≤ least) × (least + (40 + length name) ≤ head.rec_len)
    numbers = used_fits bytes bytes name entry head.rec_len least is some of room (ap is_in_use (sym head_is) ∙ sym used) (ap (λ (d : Dirent). d.rec_len) head_is) least_there

    pub cut_fits : (mid : List ℕ) → length mid ≡ length bytes → (least ≤ length mid) × (head.rec_len - least ≤ length (take (length mid - least) (drop least mid)))
    cut_fits mid size =
        let part = ap length (end_part least mid) in
        (omega (arith, size, numbers.1, record_fits.1), omega (arith, part, length-drop least mid, size, numbers.1, record_fits.1))

    pub rest_put : (mid tail : List ℕ) → mid ≡ with_number w16 20 least bytes → least < 2 ^ 16
        → slot_at tail ≡ new_slot entry name (slice 40 (head.rec_len - least - 40) (take (length mid - least) (drop least mid)))
        → drop (head.rec_len - least) tail ≡ drop (head.rec_len - least) (take (length mid - least) (drop least mid))
        → length tail ≡ length (take (length mid - least) (drop least mid))
        → IsPut bytes (put_mid least (length mid - least) mid tail) name entry
    rest_put mid tail mid_is short slot further size =
        let part : take (length mid - least) (drop least mid) ≡ drop least (with_number w16 20 least bytes) = end_part least mid ∙ ap (drop least) mid_is in
        let put = used_put bytes tail name entry head.rec_len least is some of room (ap is_in_use (sym head_is) ∙ sym used) (ap (λ (d : Dirent). d.rec_len) head_is) least_there short
        (slot ∙ ap (λ (b : List ℕ). new_slot entry name (slice 40 (head.rec_len - least - 40) b)) part)
        (further ∙ ap (drop (head.rec_len - least)) part) (size ∙ ap length part) in
        let same : put_mid least (length mid - least) mid tail ≡ take least (with_number w16 20 least bytes) ++ tail = end_put least mid tail ∙ ap (λ (m : List ℕ). take least m ++ tail) mid_is in
        subst (λ (new : List ℕ). IsPut bytes new name entry) (sym same) put
