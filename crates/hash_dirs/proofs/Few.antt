-- Counts with no number below them, of a leaf or of a dinode whose record was found.
use Rattle.std.proofs.Common.{◌≡◌, ◌⊎◌, ℕ, ◌<◌, inl, inr, false, List, length, drop, Some, sym, ap, ◌∙◌, subst, arith}
use Rattle.std.specs.Prelude.{Contains, option_map}
use Rattle.gfs2_layout.specs.Cutting.{slot_from}
use Rattle.gfs2_layout.specs.Holding.{Holding, bytes_at}
use Rattle.gfs2_layout.specs.Inode.{dinode_in, leaf_area, leaf_in, leaf_length}
use Rattle.gfs2_layout.specs.Area.{slots_of}
use Rattle.gfs2_layout.specs.Records.{is_dots, record_named, record_of, records_in}
use Rattle.gfs2_layout.specs.Structures.{leaf_of}
use Rattle.gfs2_layout.specs.declared.dinode.Dinode.{Dinode}
use Rattle.gfs2_layout.specs.declared.leaf.Leaf.{Leaf}
use Rattle.image_model.proofs.Members.{contained}
use Rattle.glock_names.specs.Steps.{TellsOf}
use Rattle.glock_names.specs.Views.{Seen, HasBlock, IsOfView}
use Rattle.glock_names.specs.declared.steps.CallFault.{CallFault}
use Rattle.glock_names.specs.declared.steps.CallFault.TheVariants.{Damaged, NoMemory}
use Rattle.glock_names.specs.declared.steps.Entry.{Entry}
use Rattle.resource_groups.specs.Putting.{HasDataBlock}
use Rattle.hash_dirs.specs.Broken.{IsBroken, IsWrongIn, leaf_entries, no_entries, no_links, stray}
use Rattle.hash_dirs.specs.Shown.{IsShown, LeadsToLeaf}
use Rattle.hash_dirs.specs.Spots.{IsInPlace, IsSpotIn}
use Rattle.hash_dirs.specs.declared.finding.Found.{Found}
use Rattle.hash_dirs.proofs.Leaves.{bytes_there, led_to}
use Rattle.hash_dirs.proofs.Named.{find_some, is_named, is_named as is_named_so}
use Rattle.hash_dirs.proofs.Removed.{NamedSo, NamesFirst}

abbrev pub IsTooFew : ℕ → Found → Dinode → ℕ → ℕ → Type 0
IsTooFew dir f d rule block = ((block ≡ f.block) × (rule ≡ 14) × (f.head.entries ≡ 0)) ⊎ ((block ≡ dir) × (rule ≡ 12) × ((d.entries ≡ 0) ⊎ (d.nlink ≡ 0)))

module _ (v : Seen) (h : Holding) (dir i : ℕ) (name : List ℕ) (f : Found) (d : Dinode) (shown : IsShown v dir h) (spot : IsSpotIn v name f) (place : IsInPlace h i name f) (dinode : d ≡ dinode_in h) (firsts : NamesFirst) where
  led : (from : ℕ) × LeadsToLeaf h i from f.block
  led = led_to h i place.place f.block place.chain

  bytes : bytes_at h f.block ≡ spot.bytes
  bytes = bytes_there v dir h i led.0 f.block spot.bytes shown led.1 spot.small.0 spot.there

  pub is_there : record_named (records_in (leaf_area h f.block)) name ≡ Some (record_of (slot_from f.spot.at (drop leaf_length spot.bytes)))
  is_there = ap (λ b. record_named (records_in (drop leaf_length b)) name) bytes ∙ sym (firsts (drop leaf_length spot.bytes) name) ∙ ap (option_map record_of) spot.spot.first

  has : Contains (records_in (leaf_area h f.block)) (record_of (slot_from f.spot.at (drop leaf_length spot.bytes)))
  has = contained (record_of (slot_from f.spot.at (drop leaf_length spot.bytes))) (records_in (leaf_area h f.block)) (find_some (is_named name) (records_in (leaf_area h f.block)) (record_of (slot_from f.spot.at (drop leaf_length spot.bytes))) is_there).0

  broken : (rule block : ℕ) → IsTooFew dir f d rule block → IsBroken h rule block
  broken rule block (inl leaf) =
      subst (λ b. IsBroken h rule b) (sym leaf.0) (subst (λ r. IsBroken h r f.block) (sym leaf.1)
      (leaf_entries i led.0 f.block led.1 spot.small.0 (λ e. let some = has in let low : some.0 < length (records_in (leaf_area h f.block)) = some.1 in
      let none : f.head.entries ≡ 0 = leaf.2 in let same : f.head.entries ≡ (leaf_in h f.block).entries = ap (λ (l : Leaf). l.entries) (spot.head ∙ ap leaf_of (sym bytes)) in omega (arith, low, none, same, e))))
  broken rule block (inr own) =
      subst (λ b. IsBroken h rule b) (shown.inode.own ∙ sym own.0) (subst (λ r. IsBroken h r h.own) (sym own.1) (by own.2))
    where
      by : (d.entries ≡ 0) ⊎ (d.nlink ≡ 0) → IsBroken h 12 h.own
      by (inl none) = no_entries i led.0 f.block (record_of (slot_from f.spot.at (drop leaf_length spot.bytes))) led.1 spot.small.0 has (ap (λ (x : Dinode). x.entries) (sym dinode) ∙ none)
      by (inr none) = no_links (ap (λ (x : Dinode). x.nlink) (sym dinode) ∙ none)

  pub too_few : (fault : CallFault) → TellsOf (IsTooFew dir f d) fault → TellsOf (IsBroken h) fault
  too_few (Damaged block rule) few = broken rule block few
  too_few NoMemory few = tt

-- and that is told of a block that the view has
pub few_kept : (v : Seen) (dir : ℕ) (f : Found) (d : Dinode) (fault : CallFault) → HasBlock v f.block → HasBlock v dir → TellsOf (IsTooFew dir f d) fault → TellsOf (IsOfView v) fault
few_kept v dir f d (Damaged block rule) leaf own (inl few) = subst (HasBlock v) (sym few.0) leaf
few_kept v dir f d (Damaged block rule) leaf own (inr few) = subst (HasBlock v) (sym few.0) own
few_kept v dir f d NoMemory leaf own few = tt

-- a name that leads to no data block of a group
pub astray : (v : Seen) (h : Holding) (dir i : ℕ) (name : List ℕ) (f : Found) → IsShown v dir h → IsSpotIn v name f → IsInPlace h i name f → NamesFirst → NamedSo → is_dots name ≡ false
    → ¬ (HasDataBlock v f.spot.entry.addr) → IsWrongIn v h 2 f.block
astray v h dir i name f shown spot place firsts named low away =
    let led = led_to h i place.place f.block place.chain in
    let area = drop leaf_length spot.bytes in
    let s = slot_from f.spot.at area in
    let bytes : bytes_at h f.block ≡ spot.bytes = bytes_there v dir h i led.0 f.block spot.bytes shown led.1 spot.small.0 spot.there in
    let is_there : record_named (records_in (leaf_area h f.block)) name ≡ Some (record_of s) = ap (λ b. record_named (records_in (drop leaf_length b)) name) bytes ∙ sym (firsts area name) ∙ ap (option_map record_of) spot.spot.first in
    let is_named : (record_of s).name ≡ name = (named name (slots_of area) s spot.spot.first).1 in
    stray i led.0 f.block (record_of s) led.1 spot.small.0
    (contained (record_of s) (records_in (leaf_area h f.block)) (find_some (is_named_so name) (records_in (leaf_area h f.block)) (record_of s) is_there).0)
    (ap is_dots is_named ∙ low) (λ inside. away (subst (HasDataBlock v) (ap (λ (e : Entry). e.addr) (sym spot.spot.entry)) inside))
