-- The counts of a dinode, and what breaks them.
use Rattle.std.proofs.Common.{Some, ◌<◌, ◌≡◌, ◌⊎◌, inl, inr, ℕ, zero, suc, ◌+◌, ◌^◌, ◌≤◌, List, [], ◌∷◌, length, sym, ap, subst, arith}
use Rattle.std.specs.Prelude.{filter, not, ◌&&◌, ◌==◌}
use Rattle.std.proofs.lemmas.List.{length-map}
use Rattle.std.proofs.lemmas.List.Sums.{count_by-le-length, length-filter}
use Rattle.gfs2_layout.specs.Area.{Slot, slots_of, slots_within}
use Rattle.gfs2_layout.specs.Exchanges.{IsCounted, directory_count}
use Rattle.gfs2_layout.specs.Holding.{Holding}
use Rattle.gfs2_layout.specs.Inode.{records_of}
use Rattle.gfs2_layout.specs.Records.{Record, record_of, record_named, records_in, is_dots}
use Rattle.gfs2_layout.specs.Structures.{is_in_use}
use Rattle.gfs2_layout.specs.declared.dinode.Dinode.{Dinode}
use Rattle.glock_names.specs.Steps.{TellsOf}
use Rattle.glock_names.specs.declared.steps.CallFault.{CallFault}
use Rattle.glock_names.specs.declared.steps.CallFault.TheVariants.{Damaged}
use Rattle.linear_dirs.specs.Broken.{IsBroken, wrong_entries, wrong_links}
use Rattle.linear_dirs.specs.Exchanges.{uncounted}
use Rattle.linear_dirs.specs.Reading.{IsDirectoryOf, IsFewer, told_in}
use Rattle.linear_dirs.proofs.Looked.{records_are}

-- ---- there are few records

few_within : (most : ℕ) (bytes : List ℕ) → length (slots_within most bytes) ≤ most
few_within zero bytes = omega arith
few_within (suc most) bytes = grind (arith, few_within most)

few_slots : (area : List ℕ) → length (slots_of area) ≤ length area
unfolding slots_of
few_slots area = few_within (length area) area

few_told : (slots : List Slot) → length (told_in slots) ≤ length slots
few_told slots = omega (arith, length-map (filter (λ (s : Slot). is_in_use s.head) slots) record_of, length-filter (λ (s : Slot). is_in_use s.head) slots, count_by-le-length (λ (s : Slot). is_in_use s.head) slots)

few_in : (area : List ℕ) → length (records_in area) ≤ length area
unfolding records_in
few_in area = omega (arith, few_told (slots_of area), few_slots area)

few_directories : (records : List Record) → directory_count records ≤ length records
few_directories records = count_by-le-length (λ (r : Record). not (is_dots r.name) && r.kind == 4) records

told_at : (h : Holding) (dir : ℕ) (fault : CallFault) → h.own ≡ dir → fault ≡ Damaged dir 12 → IsBroken h 12 h.own → TellsOf (IsBroken h) fault
told_at h dir fault own fault_is broken = subst (TellsOf (IsBroken h)) (sym fault_is) (subst (IsBroken h 12) own broken)

module _ (h : Holding) (d : Dinode) (area : List ℕ) (is : IsDirectoryOf h d area) (short : length area ≤ 4096) where
  few : length (records_of h) ≤ 4096
  few = omega (arith, ap length (records_are h d area is), few_in area, short)

  -- counts that are as large as they can be are too large
  pub too_many : (dir links : ℕ) (fault : CallFault) → h.own ≡ dir → fault ≡ Damaged dir 12 → links ≤ 1 → (2 ^ 32 ≤ d.entries + 1) ⊎ (2 ^ 32 ≤ d.nlink + links) → TellsOf (IsBroken h) fault
  too_many dir links fault own fault_is least (inl entries) = told_at h dir fault own fault_is (wrong_entries (λ e. absurd (omega (arith, entries, e, few, ap (λ (x : Dinode). x.entries) is.dinode))))
  too_many dir links fault own fault_is least (inr nlink) =
      told_at h dir fault own fault_is (wrong_links (λ e. absurd (omega (arith, nlink, least, e, few, few_directories (records_of h), ap (λ (x : Dinode). x.nlink) is.dinode))))

-- ---- a record more

pub same_more : (d d' : Dinode) (links : ℕ) → d' ≡ record d { entries = d.entries + 1; nlink = d.nlink + links } → uncounted d' ≡ uncounted d
same_more d d' links is = ap uncounted is

pub counts_more : (d d' : Dinode) (links : ℕ) (r : Record) → d' ≡ record d { entries = d.entries + 1; nlink = d.nlink + links } → links ≡ directory_count (r ∷ []) → IsCounted d d' [] (r ∷ [])
counts_more d d' links r is links_are = record {
  entries = omega (arith, ap (λ (x : Dinode). x.entries) is);
  links = omega (arith, ap (λ (x : Dinode). x.nlink) is, links_are);
}

-- ---- a record less

pub counts_fewer : (d d' : Dinode) (links : ℕ) (r : Record) → IsFewer d d' links → links ≡ directory_count (r ∷ []) → IsCounted d d' (r ∷ []) []
counts_fewer d d' links r fewer links_are = record {
  entries = omega (arith, fewer.entries);
  links = omega (arith, fewer.links, links_are);
}

some_of : (name : List ℕ) (records : List Record) (r : Record) → record_named records name ≡ Some r → 1 ≤ length records
some_of name [] r named = cc
some_of name (x ∷ records) r named = omega arith

-- counts that have none below them are too small
pub too_few : (h : Holding) (d : Dinode) (area name : List ℕ) (r : Record) (dir links : ℕ) (fault : CallFault) → IsDirectoryOf h d area → record_named (records_in area) name ≡ Some r → h.own ≡ dir → fault ≡ Damaged dir 12
    → links ≤ 1 → (d.entries < 1) ⊎ (d.nlink < links) → TellsOf (IsBroken h) fault
too_few h d area name r dir links fault is named own fault_is most (inl entries) =
    let some = some_of name (records_in area) r named in
    told_at h dir fault own fault_is (wrong_entries (λ e. absurd (omega (arith, entries, e, some, ap length (records_are h d area is), ap (λ (x : Dinode). x.entries) is.dinode))))
too_few h d area name r dir links fault is named own fault_is most (inr nlink) =
    told_at h dir fault own fault_is (wrong_links (λ e. absurd (omega (arith, nlink, most, e, ap (λ (x : Dinode). x.nlink) is.dinode))))
