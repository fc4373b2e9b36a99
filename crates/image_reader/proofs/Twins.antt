-- Two records of one directory that have one name, and lead to two blocks.
use Rattle.std.proofs.Common.{◌≡◌, ◌≢◌, true, false, ℕ, ◌<◌, ◌≤◌, List, length, Option, inl, inr, refl, sym, ap, subst, ◌∙◌, arith}
use Rattle.std.specs.Prelude.{Contains, slice_get}
use Rattle.std.specs.List.{All}
use Rattle.gfs2_layout.specs.Inode.{is_hashed_in, linear_area, leaf_area}
use Rattle.gfs2_layout.specs.Records.{Record, records_in}
use Rattle.image_model.specs.Claims.{every, Claims, in_dinode, in_leaf, HasArea, behind_dinode, of_leaf}
use Rattle.image_reader.specs.Finding.{IsFoundIn}
use Rattle.image_reader.specs.Found.{IsEntryAt}
use Rattle.image_reader.specs.Going.{GoesOn}
use Rattle.image_model.specs.Image.{Image}
use Rattle.image_model.specs.Owners.{Owner, Named}
use Rattle.image_reader.specs.Reading.{image_at}
use Rattle.image_model.specs.Rules.{Breaks, IsBrokenBlock, HasRecordIn, twice, twice_in_area}
use Rattle.image_reader.specs.Untouched.{AreTwinsBroken}
use Rattle.image_reader.specs.declared.blocks.Blocks.{Blocks}
use Rattle.image_reader.specs.declared.directory.Found.{Found}
use Rattle.image_reader.specs.declared.directory.Visit.{Visit}
use Rattle.image_reader.specs.declared.owners.Claim.{Claim}
use Rattle.image_reader.proofs.Directories.{leaf_is_hashed, not_both}
use Rattle.image_reader.proofs.Going.{in_get}
use Rattle.image_reader.proofs.InodeFaults.{broken}
use Rattle.image_reader.proofs.Inside.{record_inside}
use Rattle.image_reader.proofs.Listed.{got_low, got_is}
use Rattle.image_model.proofs.Members.{is_in}
use Rattle.image_reader.proofs.WalkFaults.{same_or_not, some_is}

-- the record in block x by which the directory's name leads to block b
record IsNameIn (im : Image) (a x b : ℕ) (name : List ℕ) : Type 0 where
  area : List ℕ
  has : HasArea im a x area
  entry : Record
  there : Contains (records_in area) entry
  named : entry.name ≡ name
  address : entry.address ≡ b

name_in : (im : Image) (x b a : ℕ) (name : List ℕ) → Claims im x b (Named a name) → IsNameIn im a x b name
name_in im _ _ _ _ (in_dinode by a o r claimed dinode dir linear there dots) = record {
  area = linear_area (every im a);
  has = behind_dinode (record { inode = (o, record { by = by; claimed = claimed; dinode = dinode }); dir = dir }) linear;
  entry = r;
  there = there;
  named = refl;
  address = refl;
}
name_in im _ _ _ _ (in_leaf by x a hash place r claimed there dots) = record {
  area = leaf_area (every im a) x;
  has = of_leaf x (by, hash, place, claimed);
  entry = r;
  there = there;
  named = refl;
  address = refl;
}

-- the record's block is on the device
name_inside : (im : Image) (image : Blocks) (x b a : ℕ) (name : List ℕ) → image_at image ≡ im → IsNameIn im a x b name → x < im.count
name_inside im image x b a name same is =
    let P : Image → Type 0 = λ i. HasRecordIn i a x is.entry → x < i.count in
    subst P same (λ has. omega (arith, record_inside image a x is.entry has, image.counted)) (is.area, is.has, is.there)

-- a block has one area of a directory
data IsAreaAt (im : Image) (a x : ℕ) (area : List ℕ) : Type 0 where
  linear : is_hashed_in (every im a) ≡ false → area ≡ linear_area (every im a) → IsAreaAt im a x area
  leaf : is_hashed_in (every im a) ≡ true → area ≡ leaf_area (every im a) x → IsAreaAt im a x area

area_at : (im : Image) (a x : ℕ) (area : List ℕ) → HasArea im a x area → IsAreaAt im a x area
area_at im a _ _ (behind_dinode directory plain) = linear plain refl
area_at im a _ _ (of_leaf x has) = leaf (leaf_is_hashed im has.0 x a has.1 has.2 has.3) refl

one_area : (im : Image) (a x : ℕ) (area other : List ℕ) → IsAreaAt im a x area → IsAreaAt im a x other → area ≡ other
one_area im a x area other (linear plain is) (linear _ too) = is ∙ sym too
one_area im a x area other (linear plain is) (leaf hashed too) = absurd (not_both (is_hashed_in (every im a)) hashed plain)
one_area im a x area other (leaf hashed is) (linear plain too) = absurd (not_both (is_hashed_in (every im a)) hashed plain)
one_area im a x area other (leaf hashed is) (leaf _ too) = is ∙ sym too

twins_break : (im : Image) (a x y b c : ℕ) (name : List ℕ) → IsNameIn im a x b name → IsNameIn im a y c name → b ≢ c → Breaks im 10 y
twins_break im a x y b c name first second apart = elim (same_or_not y x) [
  | inl same ↦
      let has : HasArea im a y first.area = subst (λ n. HasArea im a n first.area) (sym same) first.has in
      let one : first.area ≡ second.area = one_area im a y first.area second.area (area_at im a y first.area has) (area_at im a y second.area second.has) in
      let there : Contains (records_in second.area) first.entry = subst (λ l. Contains (records_in l) first.entry) one first.there in
      let i = in_get first.entry (records_in second.area) (is_in first.entry (records_in second.area) there) in
      let j = in_get second.entry (records_in second.area) (is_in second.entry (records_in second.area) second.there) in
      let other : j.0 ≢ i.0 = λ e.
      let entry : second.entry ≡ first.entry = some_is second.entry first.entry (sym j.1 ∙ ap (slice_get (records_in second.area)) e ∙ i.1) in
      apart (sym first.address ∙ ap (λ (r : Record). r.address) (sym entry) ∙ second.address) in
      twice_in_area a y j.0 i.0 second.area second.entry first.entry second.has j.1 i.1 other (second.named ∙ sym first.named)
  | inr other ↦ twice a y x second.entry first.entry (second.area, second.has, second.there) (first.area, first.has, first.there) other (second.named ∙ sym first.named)
]

-- the name is that of an entry from a record in another block
pub twin_breaks : (im : Image) (image : Blocks) (f : Found) (parent y c : ℕ) (name : List ℕ) → image_at image ≡ im → IsFoundIn image f → Claims im y c (Named parent name) → f.parent ≡ parent → y ≢ f.by → f.name ≡ name
    → IsBrokenBlock im 10 y
twin_breaks im image f parent y c name same is claimed parent_is other name_is =
    let first = name_in im f.by f.inode.block.number parent name
    (subst (λ i. Claims i f.by f.inode.block.number (Named parent name)) same
    (subst (λ n. Claims (image_at image) f.by f.inode.block.number (Named parent n)) name_is (subst (λ n. Claims (image_at image) f.by f.inode.block.number (Named n f.name)) parent_is is.claimed))) in
    let second = name_in im y c parent name claimed in
    broken im y 10 (name_inside im image y c parent name same second)
    (twice parent y f.by second.entry first.entry (second.area, second.has, second.there) (first.area, first.has, first.there) other (second.named ∙ sym first.named))

pub found_at : (image : Blocks) (found : List Found) (i : ℕ) (f : Found) → All (IsFoundIn image) found → IsEntryAt found i f → IsFoundIn image f
found_at image found i f all there = subst (IsFoundIn image) (got_is found i f f there) (all i f (got_low found i f there))

-- what was found newly in a directory
pub twins_broken : (image : Blocks) (P : Owner → Type 0) (visit : Visit) (old new : List (Option Claim)) (before after : List Found) → All (IsFoundIn image) after → GoesOn P visit old before new after
    → AreTwinsBroken (image_at image) (length before) after
twins_broken image P visit old new before after all on i j f g low lower there other named differ =
    let a = visit.inode.block.number in
    let f_is = found_at image after i f all there in
    let g_is = found_at image after j g all other in
    let first = of_directory i f low there f_is f.name refl in
    let second = of_directory j g lower other g_is f.name (sym named) in
    broken (image_at image) g.by 10 (name_inside (image_at image) image g.by g.inode.block.number a f.name refl second)
    (twins_break (image_at image) a f.by g.by f.inode.block.number g.inode.block.number f.name first second apart)
  where
    of_directory : (k : ℕ) (h : Found) → length before ≤ k → IsEntryAt after k h → IsFoundIn image h → (name : List ℕ) → h.name ≡ name
        → IsNameIn (image_at image) visit.inode.block.number h.by h.inode.block.number name
    of_directory k h past at is name name_is = elim (on.finds.own k h at) [
      | inl was ↦ absurd (omega (arith, past, got_low before k h was))
      | inr by ↦
          name_in (image_at image) h.by h.inode.block.number visit.inode.block.number name
          (subst (λ n. Claims (image_at image) h.by h.inode.block.number (Named visit.inode.block.number n)) name_is
          (subst (λ n. Claims (image_at image) h.by h.inode.block.number (Named n h.name)) by.1 is.claimed))
    ]

    apart : f.inode.block.number ≢ g.inode.block.number
    apart e = elim (on.taken.apart i j f g there other e) [
      | inl same ↦ differ same
      | inr (inl was) ↦ absurd (omega (arith, low, got_low before i f was))
      | inr (inr was) ↦ absurd (omega (arith, lower, got_low before j g was))
    ]
