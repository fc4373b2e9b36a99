-- The leaves of a new image's directory of journals, read back.
use Rattle.std.proofs.Common.{ℕ, suc, ◌≡◌, ◌+◌, ◌-◌, ◌/◌, ◌^◌, ◌<◌, ◌≤◌, ◌⊎◌, inl, inr, Bool, true, false, List, [], ◌∷◌, ◌++◌, length, drop, replicate, map, Option, None, Some, Ok, refl, sym, ap, ◌∙◌, subst, arith, length-append, append_assoc, append-nil}
use Rattle.std.specs.Prelude.{◌==◌, if◌then◌else◌}
use Rattle.std.specs.List.{AllByRecursion}
use Rattle.std.proofs.lemmas.Bool.{cases_Bool, cond-false, eqb-true}
use Rattle.std.proofs.lemmas.List.{length-replicate, drop-replicate}
use Rattle.std.proofs.lemmas.List.Elements.{All-from_recursion}
use Rattle.gfs2_layout.specs.Bytes.{put_at, u32_at}
use Rattle.gfs2_layout.specs.Fields.{HasItsWidth}
use Rattle.gfs2_layout.specs.Headers.{HasHeader}
use Rattle.gfs2_layout.specs.Inode.{top_bits}
use Rattle.gfs2_layout.specs.Records.{Record}
use Rattle.gfs2_layout.specs.Structures.{or_else, header_fault, records_fault, leaf_of, leaf_read}
use Rattle.gfs2_layout.specs.Writing.{leaf_fields, leaf_put}
use Rattle.gfs2_layout.specs.declared.leaf.Leaf.{Leaf}
use Rattle.gfs2_layout.specs.declared.fault.LayoutFault.{LayoutFault}
use Rattle.gfs2_layout.specs.declared.fault.LayoutFault.TheVariants.{Value}
use Rattle.crc_words.specs.Remainder.{crc32_of}
use Rattle.mkgfs2_tool.specs.Directories.{records, Fit, emptied, reaching, record_bytes, entry, journal_entry, journals_entries, upper_entries, lower_entries}
use Rattle.mkgfs2_tool.specs.Hashing.{leaf_room, leaf_entries, leaf_records, leaf_depth, leaf_head}
use Rattle.mkgfs2_tool.specs.Blocks.{leaf_block}
use Rattle.mkgfs2_tool.specs.Order.{master_place, journals_place, is_split}
use Rattle.mkgfs2_tool.specs.Making.{IsFitting}
use Rattle.mkgfs2_tool.specs.declared.directory.Entry.{Entry}
use Rattle.mkgfs2_tool.specs.declared.directory.Name.TheVariants as name
use Rattle.mkgfs2_tool.specs.declared.plan.Plan.{Plan}
use Rattle.mkgfs2_tool.proofs.RecordLaws.{AreAll, leaf_first, lower_first, split_more, seven_or_eight, leaf_wide}
use Rattle.mkgfs2_tool.proofs.LeafHashes.{half_this, half_parent, half_0, half_1, half_2, half_3, half_4, half_5, half_6, half_7}
use Rattle.mkgfs2_tool.proofs.StandingLists.{IsIn}
use Rattle.mkgfs2_tool.proofs.StandingGiven.{Given, Known, length_put, zeros_are_bytes}
use Rattle.mkgfs2_tool.proofs.StandingBytes.{answer_ok, some_none, header_from, take_put, behind_put}
use Rattle.mkgfs2_tool.proofs.StandingOwners.{leaf_hash, journals_taken, some_taken}
use Rattle.mkgfs2_tool.proofs.StandingFiles.{size_few}
use Rattle.mkgfs2_tool.proofs.StandingRecords.{AreBytes, IsPlain, IsEntry, AreEntries, AreRecordsOf, entry_record, none_area, used_area, one_record, both_areas, records_are}
use Rattle.mkgfs2_tool.proofs.StandingDirs.{this_is, parent_is, journal_is, journals_are, all_are}
use Rattle.mkgfs2_tool.proofs.StandingNames.{journal_records, length_journals}

-- ---- what the records of a leaf say

abbrev pub this_record : Plan → Record
this_record p = entry_record (entry p name.This 4 (journals_place p) 4)

abbrev pub parent_record : Plan → Record
parent_record p = entry_record (entry p name.Parent 1 master_place 4)

abbrev pub journal_record : Plan → ℕ → Record
journal_record p j = entry_record (journal_entry p j)

abbrev pub all_said : Plan → List Record
all_said p = map entry_record (journals_entries p)

abbrev pub upper_said : Plan → List Record
upper_said p = parent_record p ∷ journal_record p 0 ∷ journal_record p 1 ∷ journal_record p 4 ∷ journal_record p 5 ∷ []

abbrev pub lower_said : Plan → List Record
lower_said p = this_record p ∷ journal_record p 2 ∷ journal_record p 3 ∷ journal_records p 6 (p.journals - 6)

abbrev pub leaf_said : Plan → ℕ → List Record
leaf_said p n = if is_split p then (if n == 0 then upper_said p else lower_said p) else all_said p

short_room : (s : ℕ) → s ≤ 4096 → s - 104 < 2 ^ 16
short_room s few = omega (arith, few)

module _ (p : Plan) (fit : IsFitting p) (known : Known p) where
  short : leaf_room p < 2 ^ 16
  short = short_room p.size (size_few p fit known)

  whole_area : is_split p ≡ false → AreRecordsOf (leaf_room p) (all_said p) (records (leaf_room p) (journals_entries p))
  whole_area whole = records_are known.given (leaf_room p) (journals_entries p) (all_are p fit known) (fits (leaf_first p fit whole)) short
    where
      fits : {es : List Entry} → AreAll (leaf_room p) (journals_entries p) es → Fit (leaf_room p) (journals_entries p)
      fits {es} is = subst (Fit (leaf_room p)) is.are is.fit

  module _ (split : is_split p ≡ true) where
    many : 7 ≤ p.journals
    many = split_more p.journals split

    journal_ok : (j : ℕ) → j < 7 → IsEntry (journal_entry p j)
    journal_ok j low = journal_is p fit known j (omega (arith, low, many))

    this_ok : IsEntry (entry p name.This 4 (journals_place p) 4)
    this_ok = this_is p fit known 4 (journals_place p) (omega arith) (omega arith) (journals_taken p)

    parent_ok : IsEntry (entry p name.Parent 1 master_place 4)
    parent_ok = parent_is p fit known 1 master_place (omega arith) (omega arith) (some_taken p)

    lower_are : AreEntries (lower_entries p)
    lower_are = (this_ok, (journal_ok 2 (omega arith), (journal_ok 3 (omega arith), journals_are p fit known 6 (p.journals - 6) (omega (arith, many)))))

    lower_area : AreRecordsOf (leaf_room p) (lower_said p) (records (leaf_room p) (lower_entries p))
    lower_area = records_are known.given (leaf_room p) (lower_entries p) lower_are (fits (lower_first p fit split)) short
      where
        fits : {es : List Entry} → AreAll (leaf_room p) (lower_entries p) es → Fit (leaf_room p) (lower_entries p)
        fits {es} is = subst (Fit (leaf_room p)) is.are is.fit

    abbrev gone : Entry
    gone = emptied (entry p name.This 4 (journals_place p) 4)

    pub gone_plain : IsPlain gone
    gone_plain = record { name = omega arith; bytes = this_ok.plain.bytes; number_low = omega arith; address_low = omega arith; kind = inl refl }

    abbrev wide : Entry
    wide = reaching 96 (journal_entry p 1)

    pub wide_plain : IsPlain wide
    wide_plain = record {
      name = (journal_ok 1 (omega arith)).plain.name;
      bytes = (journal_ok 1 (omega arith)).plain.bytes;
      number_low = (journal_ok 1 (omega arith)).plain.number_low;
      address_low = (journal_ok 1 (omega arith)).plain.address_low;
      kind = inr refl;
    }

    abbrev taken_up : List ℕ
    taken_up = record_bytes (journal_entry p 2) 48 ++ record_bytes (journal_entry p 3) 48

    one : (j : ℕ) → j < 7 → AreRecordsOf 48 (journal_record p j ∷ []) (record_bytes (journal_entry p j) 48)
    one j low = one_record known.given (journal_entry p j) 48 (journal_ok j low) (omega arith) (omega arith)

    pub taken_long : length taken_up ≡ 96
    taken_long = omega (arith, length-append (record_bytes (journal_entry p 2) 48) (record_bytes (journal_entry p 3) 48), (one 2 (omega arith)).long, (one 3 (omega arith)).long)

    abbrev last_room : ℕ
    last_room = leaf_room p - 48 - 48 - 48 - 48 - 48 - 48

    upper_area : AreRecordsOf (leaf_room p) (upper_said p) (records (leaf_room p) (upper_entries p))
    unfolding records
    upper_area =
        subst (AreRecordsOf (leaf_room p) (upper_said p)) again
        (subst (λ n. AreRecordsOf n (upper_said p) pieces) (whole (leaf_room p) (length taken_up) taken_long (leaf_wide p fit))
        (both_areas known.given 48 _ [] (upper_said p) (record_bytes gone 48) _ (none_area known.given gone 48 gone_plain refl refl (omega arith) (omega arith))
        (both_areas known.given 48 _ (parent_record p ∷ []) _ (record_bytes (entry p name.Parent 1 master_place 4) 48) _ (one_record known.given (entry p name.Parent 1 master_place 4) 48 parent_ok (omega arith) (omega arith))
        (both_areas known.given 48 _ (journal_record p 0 ∷ []) _ (record_bytes (journal_entry p 0) 48) _ (one 0 (omega arith))
        (both_areas known.given (48 + length taken_up) last_room (journal_record p 1 ∷ []) (journal_record p 4 ∷ journal_record p 5 ∷ []) (record_bytes wide 48 ++ taken_up) last
        (used_area known.given wide 48 taken_up wide_plain (journal_ok 1 (omega arith)).number (journal_ok 1 (omega arith)).address (omega arith) (omega arith) taken_long)
        (records_are known.given last_room (journal_entry p 4 ∷ journal_entry p 5 ∷ []) (journal_ok 4 (omega arith), (journal_ok 5 (omega arith), tt)) (last_fits (leaf_room p) (leaf_wide p fit)) (last_short (leaf_room p) short)))))))
      where
        last : List ℕ
        last = records last_room (journal_entry p 4 ∷ journal_entry p 5 ∷ [])

        pieces : List ℕ
        pieces = record_bytes gone 48 ++ (record_bytes (entry p name.Parent 1 master_place 4) 48 ++ (record_bytes (journal_entry p 0) 48 ++ ((record_bytes wide 48 ++ taken_up) ++ last)))

        again : pieces ≡ records (leaf_room p) (upper_entries p)
        again = ap (λ xs. record_bytes gone 48 ++ (record_bytes (entry p name.Parent 1 master_place 4) 48 ++ (record_bytes (journal_entry p 0) 48 ++ xs)))
            (append_assoc (record_bytes wide 48) taken_up last ∙ ap (λ xs. record_bytes wide 48 ++ xs) (append_assoc (record_bytes (journal_entry p 2) 48) (record_bytes (journal_entry p 3) 48) last))

        whole : (r n : ℕ) → n ≡ 96 → 408 ≤ r → 48 + (48 + (48 + (48 + n + (r - 48 - 48 - 48 - 48 - 48 - 48)))) ≡ r
        whole r n e large = omega (arith, e, large)

        last_fits : (r : ℕ) → 408 ≤ r → Fit (r - 48 - 48 - 48 - 48 - 48 - 48) (journal_entry p 4 ∷ journal_entry p 5 ∷ [])
        last_fits r large = (omega (arith, large), omega (arith, large))

        last_short : (r : ℕ) → r < 2 ^ 16 → r - 48 - 48 - 48 - 48 - 48 - 48 < 2 ^ 16
        last_short r low = omega (arith, low)

  pub leaf_area_is : (n : ℕ) → AreRecordsOf (leaf_room p) (leaf_said p n) (records (leaf_room p) (leaf_entries p n))
  leaf_area_is n = by_tests (is_split p) refl (n == 0)
    where
      by_tests : (v : Bool) → is_split p ≡ v → (w : Bool)
          → AreRecordsOf (leaf_room p) (if v then (if w then upper_said p else lower_said p) else all_said p) (records (leaf_room p) (if v then (if w then upper_entries p else lower_entries p) else journals_entries p))
      by_tests true e true = upper_area e
      by_tests true e false = lower_area e
      by_tests false e w = whole_area e

-- ---- the block of a leaf

-- these bytes are a block of so many, with the head of a leaf and this area behind it
pub record IsLeafBlock (size : ℕ) (l : Leaf) (part bytes : List ℕ) : Type 0 where
  pub long : length bytes ≡ size
  pub is : leaf_of bytes ≡ l
  pub header : HasHeader 6 600 bytes
  pub format : u32_at 28 bytes ≡ 1200
  pub rest : drop 104 bytes ≡ part

first_none : (o q : Option LayoutFault) → or_else o q ≡ None → o ≡ None
first_none None q e = refl
first_none (Some f) q e = absurd (some_none f e)

last_none : (o q : Option LayoutFault) → or_else o q ≡ None → q ≡ None
last_none None q e = e
last_none (Some f) q e = absurd (some_none f e)

format_there : (bytes : List ℕ) → records_fault bytes ≡ None → u32_at 28 bytes ≡ 1200
format_there bytes e = elim (cases_Bool (u32_at 28 bytes == 1200)) [
  | inl so ↦ eqb-true (u32_at 28 bytes) 1200 so
  | inr off ↦ absurd (some_none (Value 28 (u32_at 28 bytes)) (sym (cond-false _ _ _ off) ∙ e))
]

leaf_put_is : (given : Given) (size : ℕ) (l : Leaf) (part : List ℕ) → 104 + length part ≡ size → AllByRecursion HasItsWidth (leaf_fields l) → IsLeafBlock size l part (put_at 104 part (leaf_put l (replicate size 0)))
leaf_put_is given size l part fits widths =
    let law = given.structures.leaf in
    let clear : List ℕ = replicate size 0 in
    let room : 104 ≤ length clear = omega (arith, fits, length-replicate {A = ℕ} size 0) in
    let base : List ℕ = leaf_put l clear in
    let long : length base ≡ size = law.as_long l clear room tt ∙ length-replicate {A = ℕ} size 0 in
    let bytes : List ℕ = put_at 104 part base in
    let long_put : length bytes ≡ size = length_put 104 part base (omega (arith, long, fits)) ∙ long in
    let read : leaf_read bytes ≡ Ok l =
    law.own bytes base (omega (arith, long_put, fits)) (omega (arith, long, fits)) (take_put 104 part base (omega (arith, long, fits))) ∙ law.back l clear room (zeros_are_bytes size) tt widths in
    let back = answer_ok (or_else (header_fault 104 6 600 bytes) (records_fault bytes)) (leaf_of bytes) l read in
    let none : size - 104 - length part ≡ 0 = omega (arith, fits) in
    record {
      long = long_put;
      is = back.1;
      header = header_from 104 6 600 bytes (first_none (header_fault 104 6 600 bytes) (records_fault bytes) back.0);
      format = format_there bytes (last_none (header_fault 104 6 600 bytes) (records_fault bytes) back.0);
      rest = behind_put 104 (size - 104) part base (omega (arith, long, fits)) (law.behind l clear room tt ∙ drop-replicate {X = ℕ} 104 size 0) ∙ ap (λ n. part ++ replicate n 0) none ∙ append-nil part;
    }

module _ (p : Plan) (fit : IsFitting p) (known : Known p) (n : ℕ) where
  depth_few : leaf_depth p ≤ 1
  depth_few = by_test (is_split p)
    where
      by_test : (v : Bool) → (if v then 1 else 0) ≤ 1
      by_test true = omega arith
      by_test false = omega arith

  records_few : leaf_records p n ≤ 10
  records_few = by_tests (is_split p) (n == 0) (omega (arith, fit.plan.journals))
    where
      by_tests : (v w : Bool) → p.journals ≤ 8 → (if v then (if w then 5 else p.journals - 3) else 2 + p.journals) ≤ 10
      by_tests true true few = omega arith
      by_tests true false few = omega (arith, few)
      by_tests false w few = omega (arith, few)

  leaf_widths : (d r : ℕ) → d ≤ 1 → r ≤ 10 → AllByRecursion HasItsWidth (leaf_fields (record { depth = d; entries = r; next = 0 }))
  leaf_widths d r few some =
      (omega arith, (omega arith, (omega arith, (omega arith, (omega (arith, few), (omega (arith, some), (omega arith, (omega arith, (omega arith, (omega arith, (omega arith, (omega arith, (omega arith, (omega arith, (omega arith, (omega arith, tt))))))))))))))))

  pub leaf_block_is : IsLeafBlock p.size (leaf_head p n) (records (leaf_room p) (leaf_entries p n)) (leaf_block p n)
  unfolding leaf_block
  leaf_block_is = leaf_put_is known.given p.size (leaf_head p n) (records (leaf_room p) (leaf_entries p n)) (all p.size (length (records (leaf_room p) (leaf_entries p n))) (leaf_area_is p fit known n).long (omega (arith, fit.plan.size)))
      (leaf_widths (leaf_depth p) (leaf_records p n) depth_few records_few)
    where
      all : (s n : ℕ) → n ≡ s - 104 → 512 ≤ s → 104 + n ≡ s
      all s n e large = omega (arith, e, large)

-- ---- the hashes of its names

small_hash : (x : ℕ) → x < 2 ^ 32 → x / 2 ^ 32 ≡ 0
small_hash x low = omega (arith, low)

bytes_of : (es : List Entry) → AreEntries es → (r : Record) → IsIn r (map entry_record es) → AreBytes r.name
bytes_of [] all r there = elim there [ ]
bytes_of (e ∷ es) all r (inl is) = subst (λ (q : Record). AreBytes q.name) (sym is) all.0.plain.bytes
bytes_of (e ∷ es) all r (inr later) = bytes_of es all.1 r later

named_half : (r q : Record) (b : ℕ) → r ≡ q → top_bits 1 (crc32_of q.name) ≡ b → top_bits 1 (crc32_of r.name) ≡ b
named_half r q b is half = ap (λ (s : Record). top_bits 1 (crc32_of s.name)) is ∙ half

upper_half : (p : Plan) (r : Record) → IsIn r (upper_said p) → top_bits 1 (crc32_of r.name) ≡ 1
upper_half p r (inl e) = named_half r (parent_record p) 1 e half_parent
upper_half p r (inr (inl e)) = named_half r (journal_record p 0) 1 e half_0
upper_half p r (inr (inr (inl e))) = named_half r (journal_record p 1) 1 e half_1
upper_half p r (inr (inr (inr (inl e)))) = named_half r (journal_record p 4) 1 e half_4
upper_half p r (inr (inr (inr (inr (inl e))))) = named_half r (journal_record p 5) 1 e half_5
upper_half p r (inr (inr (inr (inr (inr h))))) = elim h [ ]

later_half : (p : Plan) (n : ℕ) (r : Record) → (n ≡ 7) ⊎ (n ≡ 8) → IsIn r (journal_records p 6 (n - 6)) → top_bits 1 (crc32_of r.name) ≡ 0
later_half p n r (inl e) there = seven (subst (λ m. IsIn r (journal_records p 6 (m - 6))) e there)
  where
    seven : IsIn r (journal_records p 6 (7 - 6)) → top_bits 1 (crc32_of r.name) ≡ 0
    seven (inl e) = named_half r (journal_record p 6) 0 e half_6
    seven (inr h) = elim h [ ]
later_half p n r (inr e) there = eight (subst (λ m. IsIn r (journal_records p 6 (m - 6))) e there)
  where
    eight : IsIn r (journal_records p 6 (8 - 6)) → top_bits 1 (crc32_of r.name) ≡ 0
    eight (inl e) = named_half r (journal_record p 6) 0 e half_6
    eight (inr (inl e)) = named_half r (journal_record p 7) 0 e half_7
    eight (inr (inr h)) = elim h [ ]

lower_half : (p : Plan) (r : Record) → (p.journals ≡ 7) ⊎ (p.journals ≡ 8) → IsIn r (lower_said p) → top_bits 1 (crc32_of r.name) ≡ 0
lower_half p r two (inl e) = named_half r (this_record p) 0 e half_this
lower_half p r two (inr (inl e)) = named_half r (journal_record p 2) 0 e half_2
lower_half p r two (inr (inr (inl e))) = named_half r (journal_record p 3) 0 e half_3
lower_half p r two (inr (inr (inr h))) = later_half p p.journals r two h

pub leaf_hashes : (p : Plan) (fit : IsFitting p) (known : Known p) (n : ℕ) (r : Record) → IsIn r (leaf_said p n) → top_bits (leaf_depth p) (crc32_of r.name) ≡ top_bits (leaf_depth p) (leaf_hash p n)
leaf_hashes p fit known n r there = by_tests (is_split p) refl (n == 0) there
  where
    by_tests : (v : Bool) → is_split p ≡ v → (w : Bool) → IsIn r (if v then (if w then upper_said p else lower_said p) else all_said p)
        → top_bits (if v then 1 else 0) (crc32_of r.name) ≡ top_bits (if v then 1 else 0) (if v then (if w then 2 ^ 31 else 0) else 0)
    by_tests true split true h = upper_half p r h
    by_tests true split false h = lower_half p r (seven_or_eight p.journals (split_more p.journals split) fit.plan.journals) h
    by_tests false whole w h = small_hash (crc32_of r.name) (known.given.fits r.name (All-from_recursion (λ b. b < 256) r.name (bytes_of (journals_entries p) (all_are p fit known) r h)))

-- ---- how many there are

pub said_long : (p : Plan) (fit : IsFitting p) (n : ℕ) → leaf_records p n ≡ length (leaf_said p n)
said_long p fit n = by_tests (is_split p) refl (n == 0)
  where
    lower : (n m : ℕ) → 7 ≤ n → m ≡ n - 6 → n - 3 ≡ suc (suc (suc m))
    lower n m many e = omega (arith, many, e)

    all : (n m : ℕ) → m ≡ n → 2 + n ≡ suc (suc m)
    all n m e = omega (arith, e)

    by_tests : (v : Bool) → is_split p ≡ v → (w : Bool) → (if v then (if w then 5 else p.journals - 3) else 2 + p.journals) ≡ length (if v then (if w then upper_said p else lower_said p) else all_said p)
    by_tests true e true = refl
    by_tests true e false = lower p.journals (length (journal_records p 6 (p.journals - 6))) (split_more p.journals e) (length_journals p 6 (p.journals - 6))
    by_tests false e w = all p.journals (length (journal_records p 0 p.journals)) (length_journals p 0 p.journals)
