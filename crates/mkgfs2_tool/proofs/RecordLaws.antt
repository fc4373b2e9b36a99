-- Records of a new directory, one after another.
use Rattle.std.proofs.Common.{ℕ, ◌≡◌, ◌≢◌, ◌≤◌, ◌⊎◌, inl, inr, true, false, ◌*◌, ◌+◌, ◌-◌, suc, zero, arith, List, [], ◌∷◌, ◌++◌, length, take, drop, map, slice_index_or, refl, ap, sym, ◌∙◌, subst}
use Rattle.std.specs.Prelude.{◌==◌, ◌&&◌, nat_lt}
use Rattle.std.proofs.lemmas.Bool.{cases_eq}
use Rattle.std.proofs.lemmas.Bool.Decides.{nat_tests}
use Rattle.std.proofs.Math.Seq.{take-length}
use Rattle.std.specs.List.{range_with_len}
use Rattle.mkgfs2_tool.specs.Order.{master_place, journals_place, has_hashed_journals, is_split}
use Rattle.mkgfs2_tool.specs.Hashing.{leaf_room}
use Rattle.mkgfs2_tool.specs.Making.{IsFitting}
use Rattle.mkgfs2_tool.specs.Blocks.{area_length}
use Rattle.gfs2_layout.specs.Putting.{least_length}
use Rattle.mkgfs2_tool.specs.Directories.{AreNamed, IsNamed, Fit, name_of, record_bytes, records, entry, journal_entry, journals_entries, most_entries, upper_entries, lower_entries, most_lower, directory_kind}
use Rattle.mkgfs2_tool.specs.declared.plan.Plan.{Plan}
use Rattle.mkgfs2_tool.specs.declared.directory.Name.TheVariants as name
use Rattle.mkgfs2_tool.specs.declared.directory.Entry.{Entry}

-- the entries behind the first, as the code takes them
behind : (e : Entry) (es : List Entry) → take (length (e ∷ es) - 1) (drop 1 (e ∷ es)) ≡ es
behind e es = let count : length (e ∷ es) - 1 ≡ length es = omega arith in ap (λ n. take n es) count ∙ take-length es

pub record FirstOfSeveral (room : ℕ) (first : Entry) (later es : List Entry) : Type 0 where
  pub named : IsNamed first
  pub later_named : AreNamed later
  pub room_is : least_length (length (name_of first)) ≤ room
  pub fit : Fit (room - least_length (length (name_of first))) later
  pub are : records room es ≡ record_bytes first (least_length (length (name_of first))) ++ records (room - least_length (length (name_of first))) later

pub first_of_several : (room : ℕ) (es : List Entry) (d : Entry) → AreNamed es → Fit room es → length (take (length es - 1) (drop 1 es)) ≢ 0
    → FirstOfSeveral room (slice_index_or es 0 d) (take (length es - 1) (drop 1 es)) es
unfolding records
first_of_several room [] d named fit several = elim (several refl) [ ]
first_of_several room (e ∷ []) d named fit several = elim (several refl) [ ]
first_of_several room (e ∷ f ∷ es) d named fit several =
    subst (λ later. FirstOfSeveral room e later (e ∷ f ∷ es)) (sym (behind e (f ∷ es))) (record { named = named.0; later_named = named.1; room_is = fit.0; fit = fit.1; are = refl })

pub record OnlyOne (room : ℕ) (only : Entry) (es : List Entry) : Type 0 where
  pub named : IsNamed only
  pub room_is : least_length (length (name_of only)) ≤ room
  pub is : records room es ≡ record_bytes only room

pub only_one : (room : ℕ) (es : List Entry) (d : Entry) → AreNamed es → Fit room es → length (take (length es - 1) (drop 1 es)) ≡ 0 → OnlyOne room (slice_index_or es 0 d) es
unfolding records
only_one room [] d named fit only = elim fit [ ]
only_one room (e ∷ []) d named fit only = record { named = named.0; room_is = fit; is = refl }
only_one room (e ∷ f ∷ es) d named fit only = let never : ⊥ = omega (arith, sym (ap length (behind e (f ∷ es))) ∙ only) in elim never [ ]

-- ---- the directory of the journals

-- of the entries for eight journals the first so many are a plan's own
taken_first : (p : Plan) (n : ℕ) → n ≤ 8
    → take (2 + n) (most_entries p) ≡ entry p name.This 4 (journals_place p) directory_kind ∷ entry p name.Parent 1 master_place directory_kind ∷ map (journal_entry p) (range_with_len 0 n)
taken_first p zero most = refl
taken_first p (suc zero) most = refl
taken_first p (suc (suc zero)) most = refl
taken_first p (suc (suc (suc zero))) most = refl
taken_first p (suc (suc (suc (suc zero)))) most = refl
taken_first p (suc (suc (suc (suc (suc zero))))) most = refl
taken_first p (suc (suc (suc (suc (suc (suc zero)))))) most = refl
taken_first p (suc (suc (suc (suc (suc (suc (suc zero))))))) most = refl
taken_first p (suc (suc (suc (suc (suc (suc (suc (suc zero)))))))) most = refl
taken_first p (suc (suc (suc (suc (suc (suc (suc (suc (suc n))))))))) most = let never : ⊥ = omega (arith, most) in elim never [ ]

-- every name of a journal has a record of 48 bytes
fit_journals : (p : Plan) (n start room : ℕ) → 48 * suc n ≤ room → Fit room (map (journal_entry p) (range_with_len start (suc n)))
fit_journals p zero start room enough = omega (arith, enough)
fit_journals p (suc n) start room enough = (omega (arith, enough), fit_journals p n (start + 1) (room - 48) (omega (arith, enough)))

named_journals : (p : Plan) (n start : ℕ) → start + n ≤ 8 → AreNamed (map (journal_entry p) (range_with_len start n))
named_journals p zero start most = tt
named_journals p (suc n) start most = (omega (arith, most), named_journals p n (start + 1) (omega (arith, most)))

-- these are the entries that are wanted, and there is room for them
pub record AreAll (room : ℕ) (wanted entries : List Entry) : Type 0 where
  pub are : entries ≡ wanted
  pub named : AreNamed entries
  pub fit : Fit room entries

abbrev dots : Plan → List Entry → List Entry
dots p later = entry p name.This 4 (journals_place p) directory_kind ∷ entry p name.Parent 1 master_place directory_kind ∷ later

-- the first journals, so many, behind the two dots
dots_fit : (p : Plan) (n room : ℕ) → 96 + 48 * n ≤ room → 1 ≤ n → Fit room (dots p (map (journal_entry p) (range_with_len 0 n)))
dots_fit p zero room enough some = let never : ⊥ = omega (arith, some) in elim never [ ]
dots_fit p (suc n) room enough some = (omega (arith, enough), (omega (arith, enough), fit_journals p n 0 (room - 48 - 48) (omega (arith, enough))))

all_journals : (p : Plan) (room : ℕ) → IsFitting p → 96 + 48 * p.journals ≤ room → AreAll room (journals_entries p) (take (2 + p.journals) (most_entries p))
all_journals p room is enough = subst (AreAll room (journals_entries p)) (sym (taken_first p p.journals is.plan.journals))
    (record { are = refl; named = (tt, (tt, named_journals p p.journals 0 (omega (arith, is.plan.journals)))); fit = dots_fit p p.journals room enough is.plan.some_journals })

pub linear_room : (size n : ℕ) → (size ≡ 512) ⊎ ((size ≡ 1024) ⊎ ((size ≡ 2048) ⊎ (size ≡ 4096))) → n ≤ 8 → (size == 512 && nat_lt 3 n) ≡ false → 96 + 48 * n ≤ size - 232
linear_room size n (inl is) few linear = rw is (let low : n ≤ 3 = from n (sym (ap (λ (s : ℕ). s == 512 && nat_lt 3 n) is) ∙ linear) in omega (arith, low))
  where
    from : (n : ℕ) → nat_lt 3 n ≡ false → n ≤ 3
    from n e = grind (arith, nat_tests)
linear_room size n (inr (inl is)) few linear = rw is (omega (arith, few))
linear_room size n (inr (inr (inl is))) few linear = rw is (omega (arith, few))
linear_room size n (inr (inr (inr is))) few linear = rw is (omega (arith, few))

pub journals_first : (p : Plan) → IsFitting p → has_hashed_journals p ≡ false → AreAll (area_length p) (journals_entries p) (take (2 + p.journals) (most_entries p))
journals_first p is linear = all_journals p (area_length p) is (linear_room p.size p.journals is.plan.size is.plan.journals linear)

-- ---- the leaves of a hashed one

pub whole_few : (n : ℕ) → nat_lt 6 n ≡ false → n ≤ 6
whole_few n e = grind (arith, nat_tests)

pub split_more : (n : ℕ) → nat_lt 6 n ≡ true → 7 ≤ n
split_more n e = grind (arith, nat_tests)

pub leaf_wide : (p : Plan) → IsFitting p → 408 ≤ leaf_room p
leaf_wide p is = omega (arith, is.plan.size)

pub leaf_first : (p : Plan) → IsFitting p → is_split p ≡ false → AreAll (leaf_room p) (journals_entries p) (take (2 + p.journals) (most_entries p))
leaf_first p is whole = all_journals p (leaf_room p) is (room (leaf_room p) p.journals (leaf_wide p is) (whole_few p.journals whole))
  where
    room : (r n : ℕ) → 408 ≤ r → n ≤ 6 → 96 + 48 * n ≤ r
    room r n wide few = omega (arith, wide, few)

pub upper_fits : (p : Plan) → IsFitting p → AreAll (leaf_room p) (upper_entries p) (upper_entries p)
upper_fits p is = record { are = refl; named = (tt, (tt, (omega arith, (omega arith, (omega arith, (omega arith, (omega arith, (omega arith, tt)))))))); fit = fits (leaf_room p) (leaf_wide p is) }
  where
    fits : (r : ℕ) → 408 ≤ r → Fit r (upper_entries p)
    fits r wide = (omega (arith, wide), (omega (arith, wide), (omega (arith, wide), (omega (arith, wide), (omega (arith, wide), (omega (arith, wide), (omega (arith, wide), omega (arith, wide))))))))

lower_seven : (p : Plan) (r : ℕ) → 408 ≤ r → AreAll r (entry p name.This 4 (journals_place p) directory_kind ∷ journal_entry p 2 ∷ journal_entry p 3 ∷ map (journal_entry p) (range_with_len 6 (7 - 6))) (take (7 - 3) (most_lower p))
lower_seven p r wide = record { are = refl; named = (tt, (omega arith, (omega arith, (omega arith, tt)))); fit = (omega (arith, wide), (omega (arith, wide), (omega (arith, wide), omega (arith, wide)))) }

lower_eight : (p : Plan) (r : ℕ) → 408 ≤ r → AreAll r (entry p name.This 4 (journals_place p) directory_kind ∷ journal_entry p 2 ∷ journal_entry p 3 ∷ map (journal_entry p) (range_with_len 6 (8 - 6))) (take (8 - 3) (most_lower p))
lower_eight p r wide = record { are = refl; named = (tt, (omega arith, (omega arith, (omega arith, (omega arith, tt))))); fit = (omega (arith, wide), (omega (arith, wide), (omega (arith, wide), (omega (arith, wide), omega (arith, wide))))) }

pub seven_or_eight : (n : ℕ) → 7 ≤ n → n ≤ 8 → (n ≡ 7) ⊎ (n ≡ 8)
seven_or_eight n some few = elim (cases_eq n 7) [
  | inl e ↦ inl e
  | inr d ↦ inr (omega (arith, some, few, d))
]

pub lower_first : (p : Plan) → IsFitting p → is_split p ≡ true → AreAll (leaf_room p) (lower_entries p) (take (p.journals - 3) (most_lower p))
lower_first p is split = each (seven_or_eight p.journals (split_more p.journals split) is.plan.journals)
  where
    at : ℕ → Type 0
    at n = AreAll (leaf_room p) (entry p name.This 4 (journals_place p) directory_kind ∷ journal_entry p 2 ∷ journal_entry p 3 ∷ map (journal_entry p) (range_with_len 6 (n - 6))) (take (n - 3) (most_lower p))

    each : (p.journals ≡ 7) ⊎ (p.journals ≡ 8) → at p.journals
    each (inl e) = subst at (sym e) (lower_seven p (leaf_room p) (leaf_wide p is))
    each (inr e) = subst at (sym e) (lower_eight p (leaf_room p) (leaf_wide p is))
