-- The directory of journals of a new image is the one that comes of putting its names in one by one.
use Rattle.std.proofs.Common.{ℕ, zero, suc, ◌≡◌, ◌+◌, ◌-◌, ◌*◌, ◌^◌, ◌<◌, ◌≤◌, ◌⊎◌, inl, inr, Bool, true, false, List, [], ◌∷◌, ◌++◌, length, replicate, map, filter, Some, None, refl, sym, ap, ◌∙◌, subst, arith, append-nil, append_assoc}
use Rattle.std.specs.Prelude.{◌==◌, ◌%◌, ◌&&◌}
use Rattle.std.specs.List.{range_with_len}
use Rattle.std.proofs.lemmas.Bool.{cases_eq, cond-true, cond-false}
use Rattle.std.proofs.lemmas.List.{take_at}
use Rattle.std.proofs.lemmas.List.FromFn.{length-map-range_with_len}
use Rattle.gfs2_layout.specs.Area.{Slot, slots_of, slot_bytes}
use Rattle.gfs2_layout.specs.Bytes.{with_number}
use Rattle.gfs2_layout.specs.Fields.{with_fields}
use Rattle.gfs2_layout.specs.Cutting.{without, emptied, joined}
use Rattle.leaf_areas.specs.Moving.{in_use, packed}
use Rattle.leaf_areas.specs.Splitting.{is_lower, is_lower_name, cut_each, lower_half, upper_half}
use Rattle.mkgfs2_tool.specs.Directories.{directory_kind, entry, head_of, journal_entry, name_of as name_in, name_bytes, record_bytes, records, emptied as gone_entry, reaching, upper_entries, lower_entries}
use Rattle.mkgfs2_tool.specs.Order.{master_place, journals_place, has_hashed_journals, is_split}
use Rattle.mkgfs2_tool.specs.Hashing.{leaf_room}
use Rattle.mkgfs2_tool.specs.Blocks.{area_length}
use Rattle.mkgfs2_tool.specs.Making.{IsFitting}
use Rattle.mkgfs2_tool.specs.Insertions.{put_in, put_each, no_records, some_entries, first_entries, later_entries, leaf_slots, AreHalves, IsPutLinear, IsPutHashed, JournalsAreInserted}
use Rattle.mkgfs2_tool.specs.declared.directory.Entry.{Entry}
use Rattle.mkgfs2_tool.specs.declared.directory.Name.{Name}
use Rattle.mkgfs2_tool.specs.declared.directory.Name.TheVariants as name
use Rattle.mkgfs2_tool.specs.declared.plan.Plan.{Plan}
use Rattle.mkgfs2_tool.proofs.LeafLaws.{hashed_size, hashed_more}
use Rattle.mkgfs2_tool.proofs.LeafHashes.{half_of, half_this, half_parent, half_0, half_1, half_2, half_3, half_4, half_5, half_6, half_7}
use Rattle.mkgfs2_tool.proofs.RecordLaws.{linear_room, whole_few, split_more, leaf_wide}
use Rattle.mkgfs2_tool.proofs.StandingGiven.{Given, Known}
use Rattle.mkgfs2_tool.proofs.StandingOwners.{journals_taken, some_taken}
use Rattle.mkgfs2_tool.proofs.StandingFiles.{size_few}
use Rattle.mkgfs2_tool.proofs.StandingDirs.{this_is, parent_is, journal_is}
use Rattle.mkgfs2_tool.proofs.StandingLeaves.{gone_plain, wide_plain, taken_long}
use Rattle.mkgfs2_tool.proofs.StandingSlots.{Is48, Are48, slot_made, made, IsMade, over_made, one_made, both_made, all_made, used, put_full, put_all, put_new, put_packed}

-- ---- the bits of names' hashes

lower_by : (n : Name) (b : ℕ) → half_of n ≡ b → is_lower_name 0 (name_bytes n) ≡ (b % 2 == 0)
lower_by n b is = ap (λ h. h % 2 == 0) is

six_or_seven : (j : ℕ) → 6 ≤ j → j < 8 → (j ≡ 6) ⊎ (j ≡ 7)
six_or_seven j high low = elim (cases_eq j 6) [
  | inl e ↦ inl e
  | inr d ↦ inr (omega (arith, high, low, d))
]

module _ (p : Plan) (fit : IsFitting p) (known : Known p) where
  abbrev this : Entry
  this = entry p name.This 4 (journals_place p) directory_kind

  abbrev parent : Entry
  parent = entry p name.Parent 1 master_place directory_kind

  abbrev journal : ℕ → Entry
  journal j = journal_entry p j

  this_48 : Is48 this
  this_48 = record { entry = this_is p fit known 4 (journals_place p) (omega arith) (omega arith) (journals_taken p); least = refl; short = omega arith }

  parent_48 : Is48 parent
  parent_48 = record { entry = parent_is p fit known 1 master_place (omega arith) (omega arith) (some_taken p); least = refl; short = omega arith }

  journal_48 : (j : ℕ) → suc j ≤ p.journals → Is48 (journal j)
  journal_48 j low = record { entry = journal_is p fit known j low; least = refl; short = omega arith }

  journals_48 : (start n : ℕ) → start + n ≤ p.journals → Are48 (map journal (range_with_len start n))
  journals_48 start zero low = tt
  journals_48 start (suc n) low = (journal_48 start (omega (arith, low)), journals_48 (start + 1) n (omega (arith, low)))

  first_48 : (n : ℕ) → n ≤ p.journals → Are48 (first_entries p n)
  first_48 n low = (this_48, (parent_48, journals_48 0 n (omega (arith, low))))

  length_first : (n : ℕ) → length (first_entries p n) ≡ 2 + n
  length_first n = two (length (map journal (range_with_len 0 n))) n (length-map-range_with_len journal 0 n)
    where
      two : (m n : ℕ) → m ≡ n → suc (suc m) ≡ 2 + n
      two m n e = omega (arith, e)

  -- the first journals, so many, are put into an area
  put_first_ones : (n r : ℕ) → n ≤ p.journals → 96 + 48 * n ≤ r → put_each (first_entries p n) (no_records r) ≡ Some (made r (first_entries p n))
  put_first_ones n r low fits = put_new r this (parent ∷ map journal (range_with_len 0 n)) (first_48 n low) (omega (arith, length_first n, fits))

  made_first : (n r : ℕ) → n ≤ p.journals → 96 + 48 * n ≤ r → r < 2 ^ 16 → IsMade (made r (first_entries p n)) (records r (first_entries p n))
  made_first n r low fits short = all_made known.given r (first_entries p n) (first_48 n low) (omega arith) (omega (arith, length_first n, fits)) short

  short_area : area_length p < 2 ^ 16
  short_area = few p.size (size_few p fit known)
    where
      few : (s : ℕ) → s ≤ 4096 → s - 232 < 2 ^ 16
      few s le = omega (arith, le)

  short_leaf : leaf_room p < 2 ^ 16
  short_leaf = few p.size (size_few p fit known)
    where
      few : (s : ℕ) → s ≤ 4096 → s - 104 < 2 ^ 16
      few s le = omega (arith, le)

  pub linear_is : has_hashed_journals p ≡ false → IsPutLinear p
  linear_is linear =
      let room : 96 + 48 * p.journals ≤ area_length p = linear_room p.size p.journals fit.plan.size fit.plan.journals linear in
      put_first_ones p.journals (area_length p) (omega arith) room ∙ ap Some (sym (made_first p.journals (area_length p) (omega arith) room short_area).are)

  -- ---- what was a linear one

  -- the first journals, and those behind them
  pub from_three : (n : ℕ) → 3 ≤ n → first_entries p 3 ++ some_entries p 3 (n - 3) ≡ first_entries p n
  from_three n low = ap (first_entries p) (sym (whole n low))
    where
      whole : (n : ℕ) → 3 ≤ n → n ≡ suc (suc (suc (n - 3)))
      whole n low = omega (arith, low)

  module _ (some : 4 ≤ p.journals) (size : p.size ≡ 512) where
    abbrev three : List Slot
    three = made (area_length p) (first_entries p 3)

    abbrev leaf : List Slot
    leaf = packed (leaf_room p) (in_use three)

    abbrev behind : List Entry
    behind = parent ∷ map journal (range_with_len 0 3)

    three_48 : Are48 (first_entries p 3)
    three_48 = first_48 3 (omega (arith, some))

    leaf_is : leaf ≡ made (leaf_room p) (first_entries p 3)
    leaf_is = put_packed (leaf_room p) (area_length p) this behind three_48

    three_put : put_each (first_entries p 3) (no_records (area_length p)) ≡ Some three
    three_put = put_first_ones 3 (area_length p) (omega (arith, some)) (omega (arith, size))

    no_fourth : put_in (journal 3) three ≡ None
    no_fourth = put_full (journal 3) (area_length p) this behind (journal_48 3 (omega (arith, some))) three_48 (omega (arith, size)) (omega (arith, size))

    -- more journals, so many, are put into the leaf
    put_more_ones : (n : ℕ) → 3 ≤ n → n ≤ p.journals → 96 + 48 * n ≤ leaf_room p → put_each (some_entries p 3 (n - 3)) leaf ≡ Some (made (leaf_room p) (first_entries p n))
    put_more_ones n more low fits =
        ap (put_each (some_entries p 3 (n - 3))) leaf_is
        ∙ put_all (leaf_room p) this behind (some_entries p 3 (n - 3)) three_48 (journals_48 3 (n - 3) (omega (arith, more, low))) (omega (arith, length-map-range_with_len journal 3 (n - 3), more, fits))
        ∙ ap (λ (es : List Entry). Some (made (leaf_room p) es)) (from_three n more)

    whole_is : is_split p ≡ false → put_each (later_entries p 3) leaf ≡ Some (leaf_slots p 0)
    whole_is whole =
        let room : 96 + 48 * p.journals ≤ leaf_room p = fits p.journals (leaf_room p) (whole_few p.journals whole) (leaf_wide p fit) in
        put_more_ones p.journals (omega (arith, some)) (omega arith) room
        ∙ ap Some (sym (made_first p.journals (leaf_room p) (omega arith) room short_leaf).are ∙ ap (λ (es : List Entry). slots_of (records (leaf_room p) es)) (sym (cond-false _ _ _ whole)))
      where
        fits : (n r : ℕ) → n ≤ 6 → 408 ≤ r → 96 + 48 * n ≤ r
        fits n r few wide = omega (arith, few, wide)

  -- ---- the halves

  -- to which half a record goes
  goes_as : (e : Entry) (r : ℕ) (b : Bool) → Is48 e → is_lower_name 0 (name_in e) ≡ b → is_lower 0 (slot_made e r) ≡ b
  goes_as e r b is half = (λ t. used e r is t && is_lower_name 0 (take_at (name_in e) (replicate (r - 40 - length (name_in e)) 0) (length (name_in e)) refl t)) ∙ half

  stays : (front : List Slot) (s : Slot) (later : List Slot) → is_lower 0 s ≡ false → cut_each (is_lower 0) front (s ∷ later) ≡ cut_each (is_lower 0) (front ++ s ∷ []) later
  stays front s later e = cond-false _ _ _ e

  goes : (front : List Slot) (s : Slot) (later : List Slot) → is_lower 0 s ≡ true → cut_each (is_lower 0) front (s ∷ later) ≡ cut_each (is_lower 0) (without front s) later
  goes front s later e = cond-true _ _ _ e

  keeps : (s : Slot) (later : List Slot) → is_lower 0 s ≡ true → filter (is_lower 0) (s ∷ later) ≡ s ∷ filter (is_lower 0) later
  keeps s later e = cond-true _ _ _ e

  drops : (s : Slot) (later : List Slot) → is_lower 0 s ≡ false → filter (is_lower 0) (s ∷ later) ≡ filter (is_lower 0) later
  drops s later e = cond-false _ _ _ e

  module _ (some : 4 ≤ p.journals) (split : is_split p ≡ true) (size : p.size ≡ 512) where
    many : 7 ≤ p.journals
    many = split_more p.journals split

    abbrev room : ℕ
    room = leaf_room p

    abbrev last : ℕ
    last = room - 48 - 48 - 48 - 48 - 48 - 48 - 48

    abbrev full : List Slot
    full = made room (first_entries p 6)

    here : (j : ℕ) → j < 7 → Is48 (journal j)
    here j low = journal_48 j (omega (arith, low, many))

    this_low : (r : ℕ) → is_lower 0 (slot_made this r) ≡ true
    this_low r = goes_as this r true this_48 (lower_by name.This 0 half_this)

    parent_high : (r : ℕ) → is_lower 0 (slot_made parent r) ≡ false
    parent_high r = goes_as parent r false parent_48 (lower_by name.Parent 1 half_parent)

    high_0 : (r : ℕ) → is_lower 0 (slot_made (journal 0) r) ≡ false
    high_0 r = goes_as (journal 0) r false (here 0 (omega arith)) (lower_by (name.Journal 0) 1 half_0)

    high_1 : (r : ℕ) → is_lower 0 (slot_made (journal 1) r) ≡ false
    high_1 r = goes_as (journal 1) r false (here 1 (omega arith)) (lower_by (name.Journal 1) 1 half_1)

    low_2 : (r : ℕ) → is_lower 0 (slot_made (journal 2) r) ≡ true
    low_2 r = goes_as (journal 2) r true (here 2 (omega arith)) (lower_by (name.Journal 2) 0 half_2)

    low_3 : (r : ℕ) → is_lower 0 (slot_made (journal 3) r) ≡ true
    low_3 r = goes_as (journal 3) r true (here 3 (omega arith)) (lower_by (name.Journal 3) 0 half_3)

    high_4 : (r : ℕ) → is_lower 0 (slot_made (journal 4) r) ≡ false
    high_4 r = goes_as (journal 4) r false (here 4 (omega arith)) (lower_by (name.Journal 4) 1 half_4)

    high_5 : (r : ℕ) → is_lower 0 (slot_made (journal 5) r) ≡ false
    high_5 r = goes_as (journal 5) r false (here 5 (omega arith)) (lower_by (name.Journal 5) 1 half_5)

    abbrev at : ℕ → Slot
    at j = slot_made (journal j) 48

    abbrev wide_slot : Slot
    wide_slot = joined (joined (at 1) (at 2)) (at 3)

    abbrev upper : List Slot
    upper = emptied (slot_made this 48) ∷ slot_made parent 48 ∷ at 0 ∷ wide_slot ∷ at 4 ∷ slot_made (journal 5) last ∷ []

    -- the records behind the first, behind the second, and so on
    abbrev behind_5 : List Slot
    behind_5 = at 4 ∷ slot_made (journal 5) last ∷ []

    abbrev behind_3 : List Slot
    behind_3 = at 2 ∷ at 3 ∷ behind_5

    abbrev behind_1 : List Slot
    behind_1 = at 0 ∷ at 1 ∷ behind_3

    upper_is : upper_half 0 full ≡ upper
    upper_is =
        goes [] (slot_made this 48) (slot_made parent 48 ∷ behind_1) (this_low 48)
        ∙ stays (emptied (slot_made this 48) ∷ []) (slot_made parent 48) behind_1 (parent_high 48)
        ∙ stays (emptied (slot_made this 48) ∷ slot_made parent 48 ∷ []) (at 0) (at 1 ∷ behind_3) (high_0 48)
        ∙ stays (emptied (slot_made this 48) ∷ slot_made parent 48 ∷ at 0 ∷ []) (at 1) behind_3 (high_1 48)
        ∙ goes (emptied (slot_made this 48) ∷ slot_made parent 48 ∷ at 0 ∷ at 1 ∷ []) (at 2) (at 3 ∷ behind_5) (low_2 48)
        ∙ goes (emptied (slot_made this 48) ∷ slot_made parent 48 ∷ at 0 ∷ joined (at 1) (at 2) ∷ []) (at 3) behind_5 (low_3 48)
        ∙ stays (emptied (slot_made this 48) ∷ slot_made parent 48 ∷ at 0 ∷ wide_slot ∷ []) (at 4) (slot_made (journal 5) last ∷ []) (high_4 48)
        ∙ stays (emptied (slot_made this 48) ∷ slot_made parent 48 ∷ at 0 ∷ wide_slot ∷ at 4 ∷ []) (slot_made (journal 5) last) [] (high_5 last)

    lower_filtered : filter (is_lower 0) full ≡ slot_made this 48 ∷ at 2 ∷ at 3 ∷ []
    lower_filtered =
        keeps (slot_made this 48) (slot_made parent 48 ∷ behind_1) (this_low 48)
        ∙ ap (λ (ss : List Slot). slot_made this 48 ∷ ss) (drops (slot_made parent 48) behind_1 (parent_high 48) ∙ drops (at 0) (at 1 ∷ behind_3) (high_0 48) ∙ drops (at 1) behind_3 (high_1 48)
        ∙ keeps (at 2) (at 3 ∷ behind_5) (low_2 48)
        ∙ ap (λ (ss : List Slot). at 2 ∷ ss) (keeps (at 3) behind_5 (low_3 48)
        ∙ ap (λ (ss : List Slot). at 3 ∷ ss) (drops (at 4) (slot_made (journal 5) last ∷ []) (high_4 48) ∙ drops (slot_made (journal 5) last) [] (high_5 last))))

    lower_is : lower_half room 0 full ≡ made room (this ∷ journal 2 ∷ journal 3 ∷ [])
    lower_is = ap (packed room) lower_filtered ∙ ap (λ n. slot_made this 48 ∷ at 2 ∷ record { head = record (head_of (journal 3) 48) { rec_len = n }; pad = replicate 12 0; body = name_in (journal 3) ++ replicate (room - 48 - 48 - 40 - 8) 0 } ∷ []) (none (room - 48 - 48))
      where
        none : (n : ℕ) → n ≡ n + 0
        none n = omega arith

    -- ---- what stands in the leaves

    bytes_2 : slot_bytes (at 2) ≡ record_bytes (journal 2) 48
    unfolding slot_bytes with_fields with_number
    bytes_2 = refl

    bytes_3 : slot_bytes (at 3) ≡ record_bytes (journal 3) 48
    unfolding slot_bytes with_fields with_number
    bytes_3 = refl

    one : (j : ℕ) → j < 7 → IsMade (at j ∷ []) (record_bytes (journal j) 48)
    one j low = one_made known.given (journal j) 48 (here j low) (omega arith) (omega arith)

    gone_made : IsMade (emptied (slot_made this 48) ∷ []) (record_bytes (gone_entry this) 48)
    gone_made = subst (IsMade (emptied (slot_made this 48) ∷ [])) (append-nil (record_bytes (gone_entry this) 48))
        (over_made known.given (gone_entry this) [] (gone_plain p fit known split) refl (omega arith) (omega arith) refl)

    abbrev taken_up : List ℕ
    taken_up = record_bytes (journal 2) 48 ++ record_bytes (journal 3) 48

    wide_made : IsMade (wide_slot ∷ []) (record_bytes (reaching 96 (journal 1)) 48 ++ taken_up)
    wide_made = subst (λ (b : List ℕ). IsMade (record { head = wide_slot.head; pad = replicate 12 0; body = b } ∷ []) (record_bytes (reaching 96 (journal 1)) 48 ++ taken_up)) again
        (over_made known.given (reaching 96 (journal 1)) taken_up (wide_plain p fit known split) refl (omega arith) (omega arith) (taken_long p fit known split))
      where
        again : (at 1).body ++ taken_up ≡ ((at 1).body ++ slot_bytes (at 2)) ++ slot_bytes (at 3)
        again = (λ t. (at 1).body ++ (sym bytes_2 t ++ sym bytes_3 t)) ∙ sym (append_assoc (at 1).body (slot_bytes (at 2)) (slot_bytes (at 3)))

    abbrev rest : List ℕ
    rest = records (room - 48 - 48 - 48 - 48 - 48 - 48) (journal 4 ∷ journal 5 ∷ [])

    rest_made : IsMade (behind_5) rest
    rest_made = all_made known.given (room - 48 - 48 - 48 - 48 - 48 - 48) (journal 4 ∷ journal 5 ∷ []) (here 4 (omega arith), (here 5 (omega arith), tt)) (omega arith) (fits room (leaf_wide p fit)) (short room short_leaf)
      where
        fits : (r : ℕ) → 408 ≤ r → 96 ≤ r - 48 - 48 - 48 - 48 - 48 - 48
        fits r wide = omega (arith, wide)

        short : (r : ℕ) → r < 2 ^ 16 → r - 48 - 48 - 48 - 48 - 48 - 48 < 2 ^ 16
        short r low = omega (arith, low)

    upper_made : IsMade upper (records room (upper_entries p))
    unfolding records
    upper_made = subst (IsMade upper) again
        (both_made known.given (record_bytes (gone_entry this) 48) _ (emptied (slot_made this 48) ∷ []) _ gone_made
        (both_made known.given (record_bytes parent 48) _ (slot_made parent 48 ∷ []) _ (one_made known.given parent 48 parent_48 (omega arith) (omega arith))
        (both_made known.given (record_bytes (journal 0) 48) _ (at 0 ∷ []) _ (one 0 (omega arith))
        (both_made known.given (record_bytes (reaching 96 (journal 1)) 48 ++ taken_up) rest (wide_slot ∷ []) behind_5 wide_made rest_made))))
      where
        again : record_bytes (gone_entry this) 48 ++ (record_bytes parent 48 ++ (record_bytes (journal 0) 48 ++ ((record_bytes (reaching 96 (journal 1)) 48 ++ taken_up) ++ rest))) ≡ records room (upper_entries p)
        again = ap (λ xs. record_bytes (gone_entry this) 48 ++ (record_bytes parent 48 ++ (record_bytes (journal 0) 48 ++ xs)))
            (append_assoc (record_bytes (reaching 96 (journal 1)) 48) taken_up rest ∙ ap (λ xs. record_bytes (reaching 96 (journal 1)) 48 ++ xs) (append_assoc (record_bytes (journal 2) 48) (record_bytes (journal 3) 48) rest))

    abbrev later : List Entry
    later = later_entries p 6

    later_long : length later ≡ p.journals - 6
    later_long = length-map-range_with_len journal 6 (p.journals - 6)

    lower_48 : Are48 (lower_entries p)
    lower_48 = (this_48, (here 2 (omega arith), (here 3 (omega arith), journals_48 6 (p.journals - 6) (omega (arith, many)))))

    lower_fits : 48 * (3 + length later) ≤ room
    lower_fits = fits p.journals (length later) room later_long fit.plan.journals (leaf_wide p fit)
      where
        fits : (n m r : ℕ) → m ≡ n - 6 → n ≤ 8 → 408 ≤ r → 48 * (3 + m) ≤ r
        fits n m r e few wide = omega (arith, e, few, wide)

    lower_made : IsMade (made room (lower_entries p)) (records room (lower_entries p))
    lower_made = all_made known.given room (lower_entries p) lower_48 (omega arith) (omega (arith, lower_fits)) short_leaf

    belongs : (j : ℕ) → (j ≡ 6) ⊎ (j ≡ 7) → is_lower_name 0 (name_in (journal j)) ≡ true
    belongs j (inl e) = subst (λ k. is_lower_name 0 (name_in (journal k)) ≡ true) (sym e) (lower_by (name.Journal 6) 0 half_6)
    belongs j (inr e) = subst (λ k. is_lower_name 0 (name_in (journal k)) ≡ true) (sym e) (lower_by (name.Journal 7) 0 half_7)

    pub halves_are : AreHalves p (leaf some size)
    halves_are = record {
      full = full;
      filled = put_more_ones some size 6 (omega arith) (omega (arith, many)) (omega (arith, leaf_wide p fit));
      no_room = put_full (journal 6) room this (parent ∷ map journal (range_with_len 0 6)) (here 6 (omega arith)) (first_48 6 (omega (arith, many))) (omega (arith, leaf_wide p fit)) (omega (arith, size));
      upper = ap (λ (es : List Entry). slots_of (records room es)) (cond-true _ _ _ split) ∙ upper_made.are ∙ sym upper_is;
      lower = ap (put_each later) lower_is ∙ put_all room this (journal 2 ∷ journal 3 ∷ []) later (this_48, (here 2 (omega arith), (here 3 (omega arith), tt))) lower_48.1.1.1 lower_fits
          ∙ ap Some (sym (ap (λ (es : List Entry). slots_of (records room es)) (cond-true _ _ _ split) ∙ lower_made.are));
      belong = λ j high low. belongs j (six_or_seven j high (omega (arith, low, fit.plan.journals)));
    }

  pub hashed_is : has_hashed_journals p ≡ true → IsPutHashed p
  hashed_is hashed =
      let some : 4 ≤ p.journals = hashed_more p hashed in
      let size : p.size ≡ 512 = hashed_size p hashed in
      record { three = three some size; filled = three_put some size; no_room = no_fourth some size; whole = whole_is some size; split = λ split. halves_are some split size }

-- of every plan
pub inserted : Given → JournalsAreInserted
inserted given = record {
  linear = λ p fit stamped linear. linear_is p fit (record { uuid = stamped.uuid; time = stamped.time; given = given }) linear;
  hashed = λ p fit stamped hashed. hashed_is p fit (record { uuid = stamped.uuid; time = stamped.time; given = given }) hashed;
}
