-- A record that is cut from an area: it is emptied, or the one before it takes it up.
use Rattle.std.proofs.Common.{◌≡◌, ℕ, ◌+◌, ◌-◌, ◌≤◌, ◌<◌, ◌^◌, List, [], ◌∷◌, ◌++◌, length, take, drop, refl, sym, ap, ◌∙◌, subst, arith, append_assoc, length-drop}
use Rattle.std.specs.Int.{w16, w64}
use Rattle.std.proofs.lemmas.Bool.{true≢false}
use Rattle.std.proofs.lemmas.List.Elements.{All-drop}
use Rattle.std.proofs.lemmas.List.{drop-drop, drop-append-le, take-take, take-append-drop, length-take-le}
use Rattle.gfs2_layout.specs.Bytes.{u16_at, with_number}
use Rattle.gfs2_layout.specs.Area.{Slot, slot_at, slot_bytes, slots_of, IsArea, IsRecordAt}
use Rattle.gfs2_layout.specs.Cutting.{emptied, joined, without, slots_without, IsLastRecord}
use Rattle.gfs2_layout.specs.Structures.{dirent_of}
use Rattle.gfs2_layout.specs.declared.dirent.Dirent.{Dirent}
use Rattle.gfs2_layout.proofs.InPlace.{is_width_16, is_width_64, length-with, drop-with}
use Rattle.gfs2_layout.proofs.Records.{behind, record_length, length_behind, AreaOn, area_on, area_ends}
use Rattle.gfs2_layout.proofs.Places.{before_others, behind_place, joined as areas_joined}
use Rattle.gfs2_layout.proofs.Written.{Stands, stands, unnumbered, grown}
use Rattle.gfs2_layout.proofs.PutHere.{end_part}
use Rattle.gfs2_layout.proofs.Spelled.{AreBytes, spelled_slot}

-- ---- the first record is emptied

pub emptied_here : (bytes : List ℕ) → IsArea bytes → 1 ≤ length bytes → Stands (with_number w64 8 0 (with_number w64 0 0 bytes)) (emptied (slot_at bytes)) (behind bytes)
emptied_here bytes is some =
    let on = area_on bytes some is in
    let long = record_length bytes on.good in
    let first = with_number w64 0 0 bytes in
    let fits : 0 + 8 ≤ length bytes = omega (arith, long.0, long.1) in
    let size = length-with w64 0 0 bytes is_width_64 fits in
    let fits' : 8 + 8 ≤ length first = omega (arith, long.0, long.1, size) in
    stands (with_number w64 8 0 first) (emptied (slot_at bytes)) (behind bytes) (unnumbered bytes (omega (arith, long.0, long.1))) long.0 (omega (arith, long.1, size, length-with w64 8 0 first is_width_64 fits')) (λ used. absurd (true≢false (sym used)))
    (drop-with w64 8 0 first is_width_64 fits' (u16_at 20 bytes) (omega (arith, long.0)) ∙ drop-with w64 0 0 bytes is_width_64 fits (u16_at 20 bytes) (omega (arith, long.0))) on.later

-- ---- it takes up the next one

-- the first of two records, by what the code holds of it
pub record HasNext (bytes : List ℕ) (head : Dirent) : Type 0 where
  pub part : take (length bytes - head.rec_len) (drop head.rec_len bytes) ≡ behind bytes
  pub low : 40 ≤ head.rec_len
  pub more : 40 ≤ length (behind bytes)
  pub inside : u16_at 20 bytes + u16_at 20 (behind bytes) ≤ length bytes

pub has_next : (bytes : List ℕ) (head : Dirent) → head ≡ dirent_of bytes → IsArea bytes → u16_at 20 bytes + 1 ≤ length bytes → HasNext bytes head
has_next bytes head head_is is more =
    let on = area_on bytes (omega (arith, more)) is in
    let size = length_behind bytes on.good in
    let next = record_length (behind bytes) (area_on (behind bytes) (omega (arith, size, more)) on.later).good in
    let e : head.rec_len ≡ u16_at 20 bytes = ap (λ (d : Dirent). d.rec_len) head_is in
    record {
      part = end_part head.rec_len bytes ∙ ap (λ (n : ℕ). drop n bytes) e;
      low = omega (arith, e, (record_length bytes on.good).0);
      more = omega (arith, next.0, next.1);
      inside = omega (arith, size, next.1);
    }

pub joined_here : (bytes : List ℕ) → AreBytes (with_number w16 20 (u16_at 20 bytes + u16_at 20 (behind bytes)) bytes) → IsArea bytes → u16_at 20 bytes + 1 ≤ length bytes → length bytes < 2 ^ 16
    → Stands (with_number w16 20 (u16_at 20 bytes + u16_at 20 (behind bytes)) bytes) (joined (slot_at bytes) (slot_at (behind bytes))) (drop (u16_at 20 bytes + u16_at 20 (behind bytes)) bytes)
joined_here bytes low is more short =
    let on = area_on bytes (omega (arith, more)) is in
    let long = record_length bytes on.good in
    let size = length_behind bytes on.good in
    let next = area_on (behind bytes) (omega (arith, size, more)) on.later in
    let long' = record_length (behind bytes) next.good in
    let n = u16_at 20 bytes in
    let m = u16_at 20 (behind bytes) in
    let fits : 20 + 2 ≤ length bytes = omega (arith, long.0, long.1) in
    let inside : n + m ≤ length bytes = omega (arith, size, long'.1) in
    let spelled : take m (behind bytes) ≡ slot_bytes (slot_at (behind bytes)) =
    sym (spelled_slot (behind bytes) (subst AreBytes (drop-with w16 20 (n + m) bytes is_width_16 fits n (omega (arith, long.0))) (All-drop (λ byte. byte < 256) n (with_number w16 20 (n + m) bytes) low)) (omega (arith, long'.0, long'.1)) long'.0) in
    let slot : slot_at (with_number w16 20 (n + m) bytes) ≡ joined (slot_at bytes) (slot_at (behind bytes)) =
    grown bytes m long.0 inside (omega (arith, inside, short))
    ∙ ap (λ (b : List ℕ). let s : Slot = record { head = record (slot_at bytes).head { rec_len = n + m }; pad = (slot_at bytes).pad; body = (slot_at bytes).body ++ b } in s) spelled in
    stands (with_number w16 20 (n + m) bytes) (joined (slot_at bytes) (slot_at (behind bytes))) (drop (n + m) bytes) slot (omega (arith, long.0)) (omega (arith, inside, length-with w16 20 (n + m) bytes is_width_16 fits))
    (λ used. omega (arith, on.here used)) (drop-with w16 20 (n + m) bytes is_width_16 fits (n + m) (omega (arith, long.0)))
    (subst IsArea (drop-drop m n bytes ∙ ap (λ (k : ℕ). drop k bytes) (omega arith)) next.later)

-- ---- in the area

-- the last of the records before it takes it up
without_last : (before : List Slot) (b s : Slot) → without (before ++ b ∷ []) s ≡ before ++ joined b s ∷ []
without_last [] b s = refl
without_last (c ∷ []) b s = refl
without_last (c ∷ d ∷ before) b s = ap (λ (ss : List Slot). c ∷ ss) (without_last (d ∷ before) b s)

pub cut_first : (old new : List ℕ) (at : ℕ) → at ≡ 0 → slots_of new ≡ emptied (slot_at old) ∷ slots_of (behind old) → slots_of new ≡ slots_without at old
cut_first old new at first is =
    let e : u16_at 20 old ≡ 0 + u16_at 20 old = omega arith in
    is ∙ ap (λ (ss : List Slot). without ss (slot_at old) ++ slots_of (behind old)) (sym (area_ends [] refl))
    ∙ ap (λ (k : ℕ). without (slots_of []) (slot_at old) ++ slots_of (drop k old)) e ∙ ap (λ (k : ℕ). slots_without k old) (sym first)

module _ (old : List ℕ) (at before : ℕ) (is : IsArea old) (here : IsRecordAt old at) (last : IsLastRecord (take at old) before) where
  size : length (take at old) ≡ at
  size = length-take-le at old (omega (arith, here.within))

  on : AreaOn (drop before (take at old))
  on = area_on (drop before (take at old)) (omega (arith, length-drop before (take at old), last.here.within)) last.here.later

  inside : before ≤ length (take at old)
  inside = omega (arith, last.here.within)

  -- from the record before it on the area is that record and what follows
  pub from_before : drop before old ≡ drop before (take at old) ++ drop at old
  from_before = ap (drop before) (sym (take-append-drop at old)) ∙ drop-append-le before (take at old) (drop at old) inside

  pub from_is_area : IsArea (drop before old)
  from_is_area = subst IsArea (sym from_before) ((areas_joined (drop before (take at old)) (drop at old) last.here.later).area here.later)

  slot_before : slot_at (drop before old) ≡ slot_at (drop before (take at old))
  slot_before = ap slot_at from_before ∙ (before_others (drop before (take at old)) (drop at old) on.good).slot

  pub ends_here : before + u16_at 20 (drop before old) ≡ at
  ends_here = omega (arith, last.ends, size, ap (λ (s : Slot). s.head.rec_len) slot_before)

  pub next_here : behind (drop before old) ≡ drop at old
  next_here = drop-drop (u16_at 20 (drop before old)) before old ∙ ap (λ (k : ℕ). drop k old) (omega (arith, ends_here))

  -- the record before it can take it up
  pub next_fits : u16_at 20 (drop before old) + 1 ≤ length (drop before old)
  next_fits = omega (arith, ends_here, length-drop before old, here.within)

  take_before : take before (take at old) ≡ take before old
  take_before = take-take before at old (omega (arith, inside, size))

  before_is_area : IsArea (take before old)
  before_is_area = subst IsArea take_before last.here.before

  slots_before : slots_of (take at old) ≡ slots_of (take before old) ++ slot_at (drop before old) ∷ []
  slots_before =
      let none : length (behind (drop before (take at old))) ≡ 0 = omega (arith, length_behind (drop before (take at old)) on.good, length-drop before (take at old), last.ends) in
      ap slots_of (sym (take-append-drop before (take at old))) ∙ (areas_joined (take before (take at old)) (drop before (take at old)) last.here.before).slots
      ∙ (λ i. slots_of (take_before i) ++ on.slots i)
      ∙ (λ i. slots_of (take before old) ++ sym slot_before i ∷ area_ends (behind (drop before (take at old))) none i)

  -- the record before it and it itself are the first two from there on
  taken_up : (tail part : List ℕ) → part ≡ drop before old → slots_of tail ≡ joined (slot_at part) (slot_at (behind part)) ∷ slots_of (drop (u16_at 20 part + u16_at 20 (behind part)) part)
      → slots_of tail ≡ joined (slot_at (drop before old)) (slot_at (drop at old)) ∷ slots_of (behind (drop at old))
  taken_up tail part part_is slots =
      let p = drop before old in
      let n = u16_at 20 p in
      let m = u16_at 20 (behind p) in
      slots ∙ ap (λ (b : List ℕ). joined (slot_at b) (slot_at (behind b)) ∷ slots_of (drop (u16_at 20 b + u16_at 20 (behind b)) b)) part_is
      ∙ ap (λ (b : List ℕ). joined (slot_at p) (slot_at (behind p)) ∷ slots_of b) (sym (drop-drop m n p))
      ∙ ap (λ (b : List ℕ). joined (slot_at p) (slot_at b) ∷ slots_of (behind b)) next_here

  pub cut_later : (tail part : List ℕ) → part ≡ drop before old → slots_of tail ≡ joined (slot_at part) (slot_at (behind part)) ∷ slots_of (drop (u16_at 20 part + u16_at 20 (behind part)) part) → IsArea tail
      → (slots_of (take before old ++ tail) ≡ slots_without at old) × IsArea (take before old ++ tail)
  cut_later tail part part_is slots area =
      let both = areas_joined (take before old) tail before_is_area in
      let p = slot_at (drop before old) in
      let s = slot_at (drop at old) in
      let front = slots_of (take before old) in
      let later = slots_of (behind (drop at old)) in (
        both.slots ∙ ap (λ (ss : List Slot). front ++ ss) (taken_up tail part part_is slots) ∙ sym (append_assoc front (joined p s ∷ []) later)
            ∙ ap (λ (ss : List Slot). ss ++ later) (sym (without_last front p s) ∙ ap (λ (ss : List Slot). without ss s) (sym slots_before))
            ∙ ap (λ (b : List ℕ). without (slots_of (take at old)) s ++ slots_of b) (behind_place old at),
        both.area area,
      )
