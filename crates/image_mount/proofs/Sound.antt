-- The records of a directory that were looked at are right.
use Rattle.std.proofs.Common.{◌≡◌, inl, inr, ◌<◌, ◌≤◌, ℕ, ◌+◌, true, false, List, length, take, get_or, Some, refl, sym, ap, subst, ◌∙◌}
use Rattle.std.specs.Prelude.{codes, map, slice_get}
use Rattle.std.specs.List.{All}
use Rattle.std.proofs.lemmas.Bool.{cases_Bool}
use Rattle.std.proofs.lemmas.List.{length-map, take_all, take_more}
use Rattle.std.proofs.lemmas.List.Elements.{All-push}
use Rattle.file_tree.specs.Names.{IsName}
use Rattle.gfs2_layout.specs.Inode.{dinode_in, is_hashed_in, linear_area}
use Rattle.gfs2_layout.specs.Records.{Record, records_in, is_dots, IsRecordArea}
use Rattle.gfs2_layout.specs.declared.dinode.Dinode.{Dinode}
use Rattle.image_model.specs.Claims.{every, HasArea, behind_dinode, of_leaf}
use Rattle.image_model.specs.Image.{Image}
use Rattle.image_model.specs.Rules.{HasRecordIn}
use Rattle.image_reader.proofs.Directories.{leaf_is_hashed, not_both}
use Rattle.image_mount.specs.Listing.{said, AreAllRecords, AreCountedIn, AreDistinct, AreRecordsOf, AreRowsOf, HasItsOwnName, LeadsAmong}
use Rattle.image_mount.specs.Looks.{HasDot, IsCounted, IsSoundArea, IsSoundDirectory}
use Rattle.image_mount.specs.declared.inodes.Inode.{Inode}
use Rattle.image_mount.specs.declared.listing.Named.{Named}
use Rattle.image_mount.proofs.Names.{all_at, contains_at, from_mapped, mapped_at}

-- ---- an area

pub all_more : {X : Type 0} (P : X → Type 0) (xs : List X) (k : ℕ) (d : X) → k < length xs → All P (take k xs) → P (get_or xs k d) → All P (take (k + 1) xs)
all_more P xs k d low before here = subst (All P) (sym (take_more xs k d low)) (All-push P (take k xs) (get_or xs k d) before here)

pub all_taken : {X : Type 0} (P : X → Type 0) (xs : List X) (k : ℕ) → length xs ≤ k → All P (take k xs) → All P xs
all_taken P xs k past all = subst (All P) (take_all k xs past) all

pub sound_area : (area : List ℕ) (records : List Named) → IsRecordArea area → map said records ≡ records_in area → All HasItsOwnName records → AreDistinct (map said records) → IsSoundArea area
sound_area area records filled read named distinct = record {
  filled = filled;
  names = λ r there leads.
      let at = contains_at (records_in area) r there in
      let row = from_mapped said records there.0 r (ap (λ rs. slice_get rs there.0) read ∙ at) in
      subst IsName (ap (λ (q : Record). q.name) row.2) (all_at HasItsOwnName records there.0 row.0 named row.1 (ap (λ (q : Record). is_dots q.name) row.2 ∙ leads));
  once = subst AreDistinct read distinct;
}

-- ---- a directory, by the rows that were found in it

pub dot_there : (im : Image) (a b : ℕ) (records : List Named) (name : List ℕ) → AreAllRecords im a records → LeadsAmong records name b → HasDot im a name b
dot_there im a b records name are among = record {
  block = among.row.block;
  row = said among.row;
  there = are.each among.index among.row among.there;
  named = among.named;
  leads = among.leads;
}

-- two records of one name stand in one block
pub one_block : (im : Image) (a : ℕ) (records : List Named) → AreDistinct (map said records) → ((x : ℕ) (r : Record) → HasRecordIn im a x r → (i : ℕ) × ((n : Named) × (slice_get records i ≡ Some n) × (said n ≡ r) × (n.block ≡ x)))
    → (x y : ℕ) (r s : Record) → HasRecordIn im a x r → HasRecordIn im a y s → r.name ≡ s.name → x ≡ y
one_block im a records distinct listed x y r s has other same =
    let one = listed x r has in
    let two = listed y s other in
    let i : one.0 ≡ two.0 = distinct one.0 two.0 r s (mapped_at said records one.0 one.1.0 one.1.1 ∙ ap Some one.1.2) (mapped_at said records two.0 two.1.0 two.1.1 ∙ ap Some two.1.2) same in
    let row : one.1.0 ≡ two.1.0 = one_row one.1.0 two.1.0 (sym one.1.1 ∙ ap (slice_get records) i ∙ two.1.1) in
    sym one.1.3 ∙ ap (λ (n : Named). n.block) row ∙ two.1.3
  where
    one_row : (m n : Named) → Some m ≡ Some n → m ≡ n
    one_row m n e = cc

pub is_counted : (im : Image) (inode : Inode) (parent : ℕ) (records : List Named) → inode.dinode ≡ dinode_in (every im inode.block) → AreCountedIn im inode.block (map said records) → AreRowsOf inode parent records
    → IsCounted im inode.block
is_counted im inode parent records read are rows = record {
  records = are.0;
  are = are.1;
  entries = ap (λ (d : Dinode). d.entries) (sym read) ∙ rows.entries ∙ sym (length-map records said) ∙ sym are.2;
  links = ap (λ (d : Dinode). d.nlink) (sym read) ∙ rows.links ∙ ap (λ n. 2 + n) (sym are.3);
}

-- a linear one
pub linear_sound : (im : Image) (inode : Inode) (parent : ℕ) (records : List Named) → inode.dinode ≡ dinode_in (every im inode.block) → AreRecordsOf im inode.block (map said records) → AreAllRecords im inode.block records
    → AreCountedIn im inode.block (map said records) → All (λ n. n.block ≡ inode.block) records → IsSoundArea (linear_area (every im inode.block)) → AreDistinct (map said records) → AreRowsOf inode parent records
    → IsSoundDirectory im inode.block parent
linear_sound im inode parent records read are all count here sound distinct rows = record {
  areas = areas;
  once = λ x y r s has other same. in_block x r has ∙ sym (in_block y s other);
  dot = dot_there im inode.block inode.block records (codes ".") all rows.dot;
  dots = dot_there im inode.block parent records (codes "..") all rows.dots;
  counts = is_counted im inode parent records read count rows;
}
  where
    areas : (x : ℕ) (area : List ℕ) → HasArea im inode.block x area → IsSoundArea area
    areas _ _ (behind_dinode directory linear) = sound
    areas _ _ (of_leaf x leaf) = absurd (not_both (is_hashed_in (every im inode.block)) (leaf_is_hashed im leaf.0 x inode.block leaf.1 leaf.2 leaf.3) are.linear)

    in_area : (x : ℕ) (area : List ℕ) → HasArea im inode.block x area → x ≡ inode.block
    in_area _ _ (behind_dinode directory linear) = refl
    in_area _ _ (of_leaf x leaf) = absurd (not_both (is_hashed_in (every im inode.block)) (leaf_is_hashed im leaf.0 x inode.block leaf.1 leaf.2 leaf.3) are.linear)

    in_block : (x : ℕ) (r : Record) → HasRecordIn im inode.block x r → x ≡ inode.block
    in_block x r has = in_area x has.0 has.1

-- of the two kinds of directories
pub either_sound : (im : Image) (a parent : ℕ) → (is_hashed_in (every im a) ≡ true → IsSoundDirectory im a parent) → (is_hashed_in (every im a) ≡ false → IsSoundDirectory im a parent) → IsSoundDirectory im a parent
either_sound im a parent hashed linear = elim (cases_Bool (is_hashed_in (every im a))) [ inl so ↦ hashed so | inr plain ↦ linear plain ]
