-- The directory of journals of a new image, whether linear or hashed.
use Rattle.std.proofs.Common.{ℕ, zero, suc, ◌≡◌, ◌+◌, ◌-◌, ◌<◌, ◌≤◌, inl, inr, true, false, List, ◌++◌, length, flat_map, codes, refl, sym, ap, ◌∙◌, arith, append-nil}
use Rattle.std.specs.List.{range_with_len}
use Rattle.std.proofs.lemmas.Bool.{cases_Bool, cond-true, cond-false}
use Rattle.gfs2_layout.specs.Exchanges.{directory_count}
use Rattle.gfs2_layout.specs.Holding.{Holding}
use Rattle.gfs2_layout.specs.Inode.{dinode_in, is_directory_in, is_hashed_in, records_of, IsInode}
use Rattle.gfs2_layout.specs.Records.{Record}
use Rattle.image_model.specs.Image.{Blocks}
use Rattle.mkgfs2_tool.specs.Groups.{data_address}
use Rattle.mkgfs2_tool.specs.Order.{journals_place, has_hashed_journals, is_split, journal_leaves}
use Rattle.mkgfs2_tool.specs.Directories.{journals_entries}
use Rattle.mkgfs2_tool.specs.Making.{IsFitting}
use Rattle.mkgfs2_tool.specs.declared.plan.Plan.{Plan}
use Rattle.mkgfs2_tool.proofs.LeafLaws.{leaves_whole, leaves_split}
use Rattle.mkgfs2_tool.proofs.RecordLaws.{split_more}
use Rattle.mkgfs2_tool.proofs.StandingLists.{IsIn}
use Rattle.mkgfs2_tool.proofs.StandingGiven.{Known}
use Rattle.mkgfs2_tool.proofs.StandingInodes.{AreMade, held}
use Rattle.mkgfs2_tool.proofs.StandingNames.{AreApart, IsOfJournal, of_journal, journal_records, journal_in, journals_apart, later_apart, dots_apart, length_journals, no_directories}
use Rattle.mkgfs2_tool.proofs.StandingDirs.{dir_is, dir_linear, dir_sound, dir_number, dir_entries, dir_links, dir_records, journals_at}
use Rattle.mkgfs2_tool.proofs.StandingLeaves.{this_record, parent_record, journal_record, all_said, upper_said, lower_said, leaf_said}
use Rattle.mkgfs2_tool.proofs.StandingHashed.{hashed_dir, hashed_form, hashed_sound, hashed_number, hashed_entries, hashed_links, hashed_records}

-- ---- its records, in any order

pub data Said (p : Plan) (r : Record) : Type 0 where
  is_this : r ≡ this_record p → Said p r
  is_parent : r ≡ parent_record p → Said p r
  is_journal : IsOfJournal p p.journals r → Said p r

-- these are `.`, `..` and each of the journals
pub record AreJournalRecords (p : Plan) (rs : List Record) : Type 0 where
  pub dot : IsIn (this_record p) rs
  pub dots : IsIn (parent_record p) rs
  pub each : (j : ℕ) → j < p.journals → IsIn (journal_record p j) rs
  pub only : (r : Record) → IsIn r rs → Said p r
  pub apart : AreApart rs
  pub long : length rs ≡ 2 + p.journals
  pub plain : directory_count rs ≡ 0

two_more : (n m : ℕ) → m ≡ n → suc (suc m) ≡ 2 + n
two_more n m e = omega (arith, e)

all_are : (p : Plan) → AreJournalRecords p (all_said p)
all_are p = record {
  dot = inl refl;
  dots = inr (inl refl);
  each = λ j low. inr (inr (journal_in p 0 p.journals j (omega arith) (omega (arith, low))));
  only = only;
  apart = ((refl, dots_apart (codes ".") p 0 p.journals (λ j. refl)), (dots_apart (codes "..") p 0 p.journals (λ j. refl), journals_apart p 0 p.journals));
  long = two_more p.journals (length (journal_records p 0 p.journals)) (length_journals p 0 p.journals);
  plain = no_directories p 0 p.journals;
}
  where
    only : (r : Record) → IsIn r (all_said p) → Said p r
    only r (inl e) = is_this e
    only r (inr (inl e)) = is_parent e
    only r (inr (inr h)) = is_journal (of_journal p 0 p.journals p.journals r (omega arith) h)

-- those of the upper half, and then those of the lower
halves_are : (p : Plan) → 7 ≤ p.journals → AreJournalRecords p (upper_said p ++ lower_said p)
halves_are p many = record {
  dot = inr (inr (inr (inr (inr (inl refl)))));
  dots = inl refl;
  each = each;
  only = only;
  apart = (
    (refl, (refl, (refl, (refl, (refl, (refl, (refl, dots_apart (codes "..") p 6 (p.journals - 6) (λ j. refl)))))))),
    (
      (refl, (refl, (refl, (refl, (refl, (refl, later_apart p 0 6 (p.journals - 6) (omega arith))))))),
      (
        (refl, (refl, (refl, (refl, (refl, later_apart p 1 6 (p.journals - 6) (omega arith)))))),
        (
          (refl, (refl, (refl, (refl, later_apart p 4 6 (p.journals - 6) (omega arith))))),
          (
            (refl, (refl, (refl, later_apart p 5 6 (p.journals - 6) (omega arith)))),
            ((refl, (refl, dots_apart (codes ".") p 6 (p.journals - 6) (λ j. refl))), ((refl, later_apart p 2 6 (p.journals - 6) (omega arith)), (later_apart p 3 6 (p.journals - 6) (omega arith), journals_apart p 6 (p.journals - 6)))),
          ),
        ),
      ),
    ),
  );
  long = eight_more p.journals (length (journal_records p 6 (p.journals - 6))) (length_journals p 6 (p.journals - 6)) many;
  plain = no_directories p 6 (p.journals - 6);
}
  where
    eight_more : (n k : ℕ) → k ≡ n - 6 → 7 ≤ n → suc (suc (suc (suc (suc (suc (suc (suc k))))))) ≡ 2 + n
    eight_more n k e many = omega (arith, e, many)

    later : (j : ℕ) → 6 ≤ j → j < p.journals → IsIn (journal_record p j) (upper_said p ++ lower_said p)
    later j high low = inr (inr (inr (inr (inr (inr (inr (inr (journal_in p 6 (p.journals - 6) j high (omega (arith, low, many))))))))))

    each : (j : ℕ) → j < p.journals → IsIn (journal_record p j) (upper_said p ++ lower_said p)
    each zero low = inr (inl refl)
    each (suc zero) low = inr (inr (inl refl))
    each (suc (suc zero)) low = inr (inr (inr (inr (inr (inr (inl refl))))))
    each (suc (suc (suc zero))) low = inr (inr (inr (inr (inr (inr (inr (inl refl)))))))
    each (suc (suc (suc (suc zero)))) low = inr (inr (inr (inl refl)))
    each (suc (suc (suc (suc (suc zero))))) low = inr (inr (inr (inr (inl refl))))
    each (suc (suc (suc (suc (suc (suc j)))))) low = later (suc (suc (suc (suc (suc (suc j)))))) (omega arith) low

    known : (j : ℕ) (r : Record) → j < 7 → r ≡ journal_record p j → Said p r
    known j r low e = is_journal (record { j = j; low = omega (arith, low, many); is = e })

    only : (r : Record) → IsIn r (upper_said p ++ lower_said p) → Said p r
    only r (inl e) = is_parent e
    only r (inr (inl e)) = known 0 r (omega arith) e
    only r (inr (inr (inl e))) = known 1 r (omega arith) e
    only r (inr (inr (inr (inl e)))) = known 4 r (omega arith) e
    only r (inr (inr (inr (inr (inl e))))) = known 5 r (omega arith) e
    only r (inr (inr (inr (inr (inr (inl e)))))) = is_this e
    only r (inr (inr (inr (inr (inr (inr (inl e))))))) = known 2 r (omega arith) e
    only r (inr (inr (inr (inr (inr (inr (inr (inl e)))))))) = known 3 r (omega arith) e
    only r (inr (inr (inr (inr (inr (inr (inr (inr h)))))))) = is_journal (of_journal p 6 (p.journals - 6) p.journals r (omega (arith, many)) h)

-- ---- the directory

-- its holding says this
pub record IsJindex (p : Plan) (h : Holding) : Type 0 where
  pub dir : is_directory_in h ≡ true
  pub form : is_hashed_in h ≡ has_hashed_journals p
  pub number : (dinode_in h).num.number ≡ 4
  pub entries : (dinode_in h).entries ≡ 2 + p.journals
  pub links : (dinode_in h).nlink ≡ 2
  pub sound : IsInode h
  pub said : List Record
  pub records : records_of h ≡ said
  pub are : AreJournalRecords p said

module _ (p : Plan) (fit : IsFitting p) (known : Known p) (at : Blocks) (made : AreMade p at) where
  abbrev h : Holding
  h = held p at (data_address p (journals_place p))

  linear_is : has_hashed_journals p ≡ false → IsJindex p h
  linear_is linear = record {
    dir = dir_is p fit known at made (journals_place p) 4 (2 + p.journals) 2 (journals_entries p) (journals_at p fit known linear);
    form = dir_linear p fit known at made (journals_place p) 4 (2 + p.journals) 2 (journals_entries p) (journals_at p fit known linear) ∙ sym linear;
    number = dir_number p fit known at made (journals_place p) 4 (2 + p.journals) 2 (journals_entries p) (journals_at p fit known linear);
    entries = dir_entries p fit known at made (journals_place p) 4 (2 + p.journals) 2 (journals_entries p) (journals_at p fit known linear);
    links = dir_links p fit known at made (journals_place p) 4 (2 + p.journals) 2 (journals_entries p) (journals_at p fit known linear);
    sound = dir_sound p fit known at made (journals_place p) 4 (2 + p.journals) 2 (journals_entries p) (journals_at p fit known linear);
    said = all_said p;
    records = dir_records p fit known at made (journals_place p) 4 (2 + p.journals) 2 (journals_entries p) (journals_at p fit known linear);
    are = all_are p;
  }

  hashed_is : has_hashed_journals p ≡ true → (rs : List Record) → flat_map (leaf_said p) (range_with_len 0 (journal_leaves p)) ≡ rs → AreJournalRecords p rs → IsJindex p h
  hashed_is hashed rs is are = record {
    dir = hashed_dir p fit known at made hashed;
    form = hashed_form p fit known at made hashed ∙ sym hashed;
    number = hashed_number p fit known at made hashed;
    entries = hashed_entries p fit known at made hashed;
    links = hashed_links p fit known at made hashed;
    sound = hashed_sound p fit known at made hashed;
    said = rs;
    records = hashed_records p fit known at made hashed ∙ is;
    are = are;
  }

  whole_said : has_hashed_journals p ≡ true → is_split p ≡ false → flat_map (leaf_said p) (range_with_len 0 (journal_leaves p)) ≡ all_said p
  whole_said hashed whole = ap (λ n. flat_map (leaf_said p) (range_with_len 0 n)) (leaves_whole p hashed whole) ∙ append-nil (leaf_said p 0) ∙ cond-false _ _ _ whole

  halves_said : has_hashed_journals p ≡ true → is_split p ≡ true → flat_map (leaf_said p) (range_with_len 0 (journal_leaves p)) ≡ upper_said p ++ lower_said p
  halves_said hashed split =
      ap (λ n. flat_map (leaf_said p) (range_with_len 0 n)) (leaves_split p hashed split) ∙ (λ t. leaf_said p 0 ++ append-nil (leaf_said p 1) t)
      ∙ (λ t. cond-true (is_split p) (upper_said p) (all_said p) split t ++ cond-true (is_split p) (lower_said p) (all_said p) split t)

  pub jindex_is : IsJindex p h
  jindex_is = elim (cases_Bool (has_hashed_journals p)) [
    | inr linear ↦ linear_is linear
    | inl hashed ↦ elim (cases_Bool (is_split p)) [
      | inr whole ↦ hashed_is hashed (all_said p) (whole_said hashed whole) (all_are p)
      | inl split ↦ hashed_is hashed (upper_said p ++ lower_said p) (halves_said hashed split) (halves_are p (split_more p.journals split))
    ]
  ]
