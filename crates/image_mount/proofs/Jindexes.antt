-- The records of the directory of journals, linear or hashed.
use Rattle.std.proofs.Common.{◌≡◌, ℕ, ◌+◌, ◌<◌, List, refl, sym, ap, subst, ◌∙◌, arith}
use Rattle.std.specs.Prelude.{map, flat_map, Contains, Some}
use Rattle.std.proofs.lemmas.Bool.{both_ways}
use Rattle.gfs2_layout.specs.Inode.{is_hashed_in, leaf_area}
use Rattle.gfs2_layout.specs.Records.{Record, records_in}
use Rattle.image_model.specs.Claims.{every, HasArea, behind_dinode, of_leaf}
use Rattle.image_model.specs.Image.{Image}
use Rattle.image_model.specs.Rules.{HasRecordIn, HasRecords, from_dinode_block, from_leaves}
use Rattle.image_model.specs.Stands.{Layout}
use Rattle.image_model.proofs.Members.{contained, from_flat_map, in_flat_map, is_in}
use Rattle.image_model.proofs.Rising.{rising, same_rising}
use Rattle.image_reader.specs.Leaves.{leaf_records}
use Rattle.image_mount.specs.Found.{HasGroups, name_count, AreJournalNames}
use Rattle.image_mount.specs.Leaves.{IsGoneOver, LooksFor}
use Rattle.image_mount.specs.Listing.{said, AreAllRecords, AreCountedIn, AreRecordsOf}
use Rattle.image_mount.specs.Looks.{IsLookedAt}
use Rattle.image_mount.specs.Refusals.{RefusesRightly}
use Rattle.image_mount.specs.Refusals as outside
use Rattle.image_mount.specs.System.{AreRecordsAnew}
use Rattle.image_mount.specs.declared.fault.MountFault.{MountFault}
use Rattle.image_mount.specs.declared.fault.MountFault.TheVariants as fault
use Rattle.image_mount.specs.declared.field.Field.TheVariants as field
use Rattle.image_mount.specs.declared.leaf.LeafWalk.{LeafWalk}
use Rattle.image_mount.specs.declared.leaf.Names.TheVariants.{Files, Journals}
use Rattle.image_mount.specs.declared.listing.Named.{Named}
use Rattle.image_mount.specs.Sifting.{IsBeside}
use Rattle.image_mount.proofs.Causes.{told_outside}
use Rattle.image_mount.proofs.LeafWalks.{all_found, counted_in, leaf_of_walk, leaves_have}
use Rattle.image_mount.proofs.Names.{at_contains, contains_at, from_mapped, mapped_at}
use Rattle.image_mount.proofs.Numbered.{beside_journals, names_anew}
use Rattle.image_mount.proofs.Records.{has_records}

-- those that were read behind a dinode
pub linear_anew : (im : Image) (a : ℕ) (items : List Named) → AreRecordsOf im a (map said items) → AreRecordsAnew im a (map said items)
linear_anew im a items are = record { all = map said items; has = has_records im a items are; count = refl; there = λ r has. has; other = λ r has. has }

pub looks_for_journals : (im : Image) (a : ℕ) → LooksFor im a Journals
looks_for_journals im a files = let no : Journals ≡ Files = files in cc

module _ (im : Image) (a : ℕ) (walk : LeafWalk) (over : IsGoneOver im a walk) where
  rows : List Record
  rows = flat_map (leaf_records (every im a)) over.walked.leaves.leaves

  rows_have : HasRecords im a rows
  unfolding rows
  rows_have = leaves_have im a walk over.hashed over.directory over.walked over.all

  -- they are the only ones
  rows_only : (records : List Record) → HasRecords im a records → records ≡ rows
  unfolding rows
  rows_only _ (from_dinode_block directory linear) = absurd (both_ways (is_hashed_in (every im a)) linear over.hashed.1)
  rows_only _ (from_leaves leaves directory hashed are) =
      let w = over.walked.leaves in
      ap (flat_map (leaf_records (every im a)))
      (same_rising leaves w.leaves (rising leaves are.rise) (rising w.leaves w.rise)
      (λ x h. let leaf = are.only x (contained x leaves h) in is_in x w.leaves (w.all x leaf.1 leaf.2 (over.all leaf.0 x leaf.1 leaf.2 leaf.3)))
      (λ x h. is_in x leaves (are.all x (leaf_of_walk im a walk over.walked x (contained x w.leaves h)))))

  pub walk_all : walk.others ≡ 0 → AreAllRecords im a walk.records.items
  walk_all none = all_found im a walk over.hashed over.directory over.walked over.all none

  pub walk_counted : walk.others ≡ 0 → AreCountedIn im a (map said walk.records.items)
  walk_counted none = counted_in im a walk over.hashed over.directory over.walked over.all none

  row_in : (r : Record) → Contains rows r → (x : ℕ) × HasRecordIn im a x r
  unfolding rows
  row_in r there =
      let at = from_flat_map (leaf_records (every im a)) r over.walked.leaves.leaves (is_in r _ there) in
      let leaf = leaf_of_walk im a walk over.walked at.0 (contained at.0 over.walked.leaves.leaves at.1) in
      (at.0, (leaf_area (every im a) at.0, of_leaf at.0 leaf, contained r (leaf_records (every im a) at.0) at.2))

  in_rows : (x : ℕ) (r : Record) → HasRecordIn im a x r → Contains rows r
  unfolding rows
  in_rows x r has = from x has.0 has.1 has.2
    where
      from : (x : ℕ) (area : List ℕ) → HasArea im a x area → Contains (records_in area) r → Contains (flat_map (leaf_records (every im a)) over.walked.leaves.leaves) r
      from _ _ (behind_dinode directory linear) there = absurd (both_ways (is_hashed_in (every im a)) linear over.hashed.1)
      from _ _ (of_leaf x leaf) there =
          let listed = over.walked.leaves.all x leaf.1 leaf.2 (over.all leaf.0 x leaf.1 leaf.2 leaf.3) in
          contained r _ (in_flat_map (leaf_records (every im a)) x r over.walked.leaves.leaves (is_in x _ listed) (is_in r (leaf_records (every im a) x) there))

  pub hashed_anew : walk.others ≡ 0 → AreRecordsAnew im a (map said walk.records.items)
  unfolding rows
  hashed_anew none =
      let all = walk_all none in
      record {
        all = rows;
        has = rows_have;
        count = omega (arith, over.walked.leaves.names, none);
        there = λ r there.
            let has = row_in r there in
            let one = all.all has.0 r has.1 in
            at_contains (map said walk.records.items) one.0 r (mapped_at said walk.records.items one.0 one.1.0 one.1.1 ∙ ap Some one.1.2);
        other = λ r there.
            let item = from_mapped said walk.records.items there.0 r (contains_at (map said walk.records.items) r there) in
            subst (Contains rows) item.2 (in_rows item.0.block (said item.0) (all.each there.0 item.0 item.1));
      }

  -- the names are those of all its records
  pub hashed_names : (n : ℕ) → walk.others ≡ 0 → AreJournalNames (map said walk.records.items) n → (records : List Record) → HasRecords im a records → AreJournalNames records n
  unfolding hashed_anew
  hashed_names n none names records has =
      let anew = hashed_anew none in
      subst (λ rs. AreJournalNames rs n) (sym (rows_only records has)) (names_anew (map said walk.records.items) rows n anew.count anew.there anew.other names)

  -- other names than those of journals
  pub beside_told : IsLookedAt im a → (l : Layout) (f : MountFault) (count : ℕ) → walk.names ≡ Journals → HasGroups im l → l.jindex ≡ a → 0 < walk.others → count ≡ name_count (map said walk.records.items) + walk.others
      → f ≡ fault.NotProfile field.Journals count → RefusesRightly im f
  unfolding rows
  beside_told looked l f count journals groups at some counted is =
      let b = over.walked.beside some in
      let listed = over.walked.leaves.all b.block b.hash b.place b.claimed in
      let there : Contains rows b.row = contained b.row _ (in_flat_map (leaf_records (every im a)) b.block b.row over.walked.leaves.leaves (is_in b.block _ listed) (is_in b.row _ b.there)) in
      let beside = subst (λ ns. IsBeside ns b.row.name) journals b.beside in
      told_outside im f field.Journals (name_count rows) (is ∙ ap (fault.NotProfile field.Journals) (counted ∙ sym over.walked.leaves.names))
      (outside.journals l rows groups (subst (IsLookedAt im) (sym at) looked) (subst (λ d. HasRecords im d rows) (sym at) rows_have) (λ all. beside_journals rows (name_count rows) b.row all.1 there beside all.2))
