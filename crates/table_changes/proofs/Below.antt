-- What is read of a directory before its table is doubled, and what isn't missing then.
use Rattle.std.proofs.Common.{◌≡◌, ◌≢◌, ℕ, zero, suc, ◌+◌, ◌-◌, ◌*◌, ◌/◌, ◌^◌, ◌<◌, ◌≤◌, inl, inr, Bool, true, false, List, Option, None, Some, refl, sym, ap, ◌∙◌, subst, arith}
use Rattle.std.specs.Prelude.{◌==◌, ◌&&◌}
use Rattle.std.proofs.Math.Nat.{mul-div_cancel}
use Rattle.gfs2_layout.specs.Device.{IsBlockSize}
use Rattle.gfs2_layout.specs.Holding.{Holding, Pointed, bytes_at, part_at}
use Rattle.gfs2_layout.specs.Inode.{HasTree, IsPointed, Leads, by_block, by_dinode, content_block, dinode_in, from_block, from_dinode, has_hash_flag, height_in, is_directory_in, is_hashed_in, pointer, unit}
use Rattle.gfs2_layout.specs.Structures.{dinode_length, is_regular}
use Rattle.glock_names.specs.Steps.{IsDamage, TellsOf}
use Rattle.glock_names.specs.Views.{Seen, HasBlock}
use Rattle.glock_names.specs.declared.steps.CallFault.{CallFault}
use Rattle.glock_names.specs.declared.steps.CallFault.TheVariants.{Damaged, NoMemory}
use Rattle.glock_names.specs.declared.steps.Missing.{Missing}
use Rattle.image_model.proofs.Rows.{and_left}
use Rattle.dinode_tree.specs.Below.{AnyIndex, IsBelow, IsLedFrom}
use Rattle.dinode_tree.specs.Broken as inode_rules
use Rattle.dinode_tree.specs.Reading.{IsNeeded, IsOnWay, inode_lock, led_to, the_dinode}
use Rattle.dinode_tree.specs.Shown as inode
use Rattle.dinode_tree.proofs.Sound.{is_there, size_large}
use Rattle.dinode_tree.proofs.Spans.{span_some}
use Rattle.pointer_tables.specs.Directories.{IsTreeSound}
use Rattle.table_files.specs.Pointers.{IsTableBroken, of_inode}
use Rattle.table_files.proofs.ContentParts.{content_part, whole_by_parts}
use Rattle.table_files.proofs.Entries.{unit_is, within}
use Rattle.table_files.specs.TreePointers.{IsTableOf}
use Rattle.table_changes.specs.Setting.{IsRun}
use Rattle.table_changes.specs.declared.finding.Run.{Run}
use Rattle.table_files.specs.tree_table.TreeTable.{TreeTable}
use Rattle.table_files.proofs.Gets.{directory_no_file}

pub hashed_directory : (h : Holding) → is_hashed_in h ≡ true → is_directory_in h ≡ true
hashed_directory h hashed = and_left (is_directory_in h) (has_hash_flag (dinode_in h)) hashed

pub hashed_no_file : (h : Holding) → is_hashed_in h ≡ true → is_regular (dinode_in h) ≡ false
hashed_no_file h hashed = directory_no_file h (hashed_directory h hashed)

pub table_tells : (h : Holding) (fault : CallFault) → TellsOf (inode_rules.IsBroken h) fault → TellsOf (IsTableBroken h) fault
table_tells h (Damaged block rule) broken = of_inode rule block broken
table_tells h NoMemory broken = broken

pub damage_tells : (P : ℕ → ℕ → Type 0) (fault : CallFault) → IsDamage P fault → TellsOf P fault
damage_tells P (Damaged block rule) is = is
damage_tells P NoMemory is = tt

-- ---- blocks that are asked for

-- a block below an inode that is no file
pub below_needed : (v : Seen) (h : Holding) (a from block : ℕ) (m : Missing) → IsBlockSize v.size → inode.IsShown v a h → is_regular (dinode_in h) ≡ false → IsLedFrom h from block
    → m ≡ record { lock = inode_lock a; block = block; plain = false; from = from } → v.block_at block ≡ None → IsNeeded v h AnyIndex 0 m
below_needed v h a from block m size shown no_file led is absent = subst (IsNeeded v h AnyIndex 0) (sym is) (record {
  lock = ap inode_lock (sym shown.own);
  absent = absent;
  way = led_to led.2 led.0 led.1 led.2 tt (omega arith) led.3 (omega arith) (omega (arith, span_some h.size led.1 (size_large h.size (subst IsBlockSize (sym shown.size) size)))) (sym (ap (λ t. led.1 == 0 && t) no_file ∙ none (led.1 == 0)));
})
  where
    none : (b : Bool) → (b && false) ≡ false
    none true = refl
    none false = refl

-- no block that a view has is missing
pub nothing_needed : (v : Seen) (h : Holding) (wanted : ℕ → Type 0) (least : ℕ) (m : Missing) → HasBlock v h.own → ((b : ℕ) → IsBelow h b → HasBlock v b) → IsNeeded v h wanted least m → ⊥
nothing_needed v h wanted least m own below needed = by needed.way
  where
    there : HasBlock v m.block → ⊥
    there has = absurd (never (sym needed.absent ∙ has.1))
      where
        never : {xs : List ℕ} → ◌≡◌ {A = Option (List ℕ)} None (Some xs) → ⊥
        never e = absurd (cc)

    by : IsOnWay h wanted least m → ⊥
    by (the_dinode block from plain) = there (subst (HasBlock v) (sym block) own)
    by (led_to i k level first wants above leads low high plain) = there (below m.block (m.from, k, level, first, leads))

-- ---- blocks and what leads to them

leads_at : (h : Holding) {b b' k level first first' x x' : ℕ} → b ≡ b' → first ≡ first' → x ≡ x' → Leads h b k level first x → Leads h b' k level first' x'
leads_at h {b} {b'} {k} {level} {first} {first'} {x} {x'} e1 e2 e3 led = subst (λ c. Leads h c k level first' x') e1 (subst (λ n. Leads h b k level n x') e2 (subst (Leads h b k level first) e3 led))

led_by : (h : Holding) (x b k level first : ℕ) → x ≢ 0 → ((above j start : ℕ) → part_at h b ≡ Some (Pointed above j (suc level) start) → Leads h above j (suc level) start b) → IsPointed h x b k level first → Leads h b k level first x
led_by h x b k level first some up (by_dinode own top low is begins) =
    let at : pointer h dinode_length h.own k ≡ x = ap (λ z. pointer h dinode_length z k) (sym own) ∙ is in
    leads_at h (sym own) (sym begins) at (from_dinode k level top low (λ none. some (sym at ∙ none)))
led_by h x b k level first some up (by_block above j start part low is begins) = leads_at h refl (sym begins) is (from_block above j level start b k (up above j start part) low (λ none. some (sym is ∙ none)))

part_some : (h : Holding) (x b k level first : ℕ) → part_at h 0 ≡ None → part_at h x ≡ Some (Pointed b k level first) → x ≢ 0
part_some h x b k level first nobody part none = let both : None ≡ Some (Pointed b k level first) = sym nobody ∙ ap (part_at h) (sym none) ∙ part in absurd (cc)

-- a block is led to from where its part tells
pub leads_of_part : (h : Holding) → HasTree h → part_at h 0 ≡ None → (n x b k level first : ℕ) → height_in h ≡ n + suc level → part_at h x ≡ Some (Pointed b k level first) → Leads h b k level first x
leads_of_part h tree nobody zero x b k level first high part =
    led_by h x b k level first (part_some h x b k level first nobody part) (λ above j start part'. absurd (omega (arith, high, tree.below b above j (suc level) start part'))) (tree.pointed x b k level first part)
leads_of_part h tree nobody (suc n) x b k level first high part =
    led_by h x b k level first (part_some h x b k level first nobody part) (λ above j start part'. leads_of_part h tree nobody n b above j (suc level) start (omega (arith, high)) part') (tree.pointed x b k level first part)

pub below_of_part : (h : Holding) → HasTree h → part_at h 0 ≡ None → (x b k level first : ℕ) → part_at h x ≡ Some (Pointed b k level first) → IsBelow h x
below_of_part h tree nobody x b k level first part =
    let high : height_in h ≡ height_in h - suc level + suc level = omega (arith, tree.below x b k level first part) in
    (b, k, level, first, leads_of_part h tree nobody (height_in h - suc level) x b k level first high part)

-- ---- the block of a run

-- where a run begins a table block, its block is that table block, and holds what the view has there
pub block_of_run : (t : TreeTable) (v : Seen) (h : Holding) (words j : ℕ) (run : Run) (bytes : List ℕ) → IsTableOf t v h → IsTreeSound h → IsBlockSize v.size → height_in h ≢ 0 → v.size - 24 ≡ 8 * words → j * words < 2 ^ t.depth
    → IsRun h (j * words) 1 run → v.block_at run.block ≡ Some bytes → bytes_at h (content_block h j) ≡ bytes
block_of_run t v h words j run bytes table sound size high each low is at = elim is.place [
  | inl behind ↦ absurd (high behind.stuffed)
  | inr inside ↦
      let size_h : IsBlockSize h.size = subst IsBlockSize (sym table.shown.size) size in
      let large : 512 ≤ h.size = size_large h.size size_h in
      let directory = hashed_directory h table.hashed in
      let unit_words : unit h ≡ 8 * words = unit_is h inside.level size_h directory inside.high sound.fits (whole_by_parts h sound large) ∙ ap (λ n. n - 24) table.shown.size ∙ each in
      let inside_size : 8 * (j * words) + 8 ≤ (dinode_in h).size = omega (arith, table.size, low) in
      let spread : 8 * (j * words) ≡ j * (8 * words) = grouped j words in
      let place : 8 * (j * words) / unit h ≡ j = ap (λ u. 8 * (j * words) / u) unit_words ∙ ap (λ n. n / (8 * words)) spread ∙ mul-div_cancel j (omega (arith, each, size)) in
      let block : content_block h j ≡ run.block = ap (content_block h) (sym place) ∙ inside.block in
      let near = within h inside.level size_h directory inside.high sound.fits (whole_by_parts h sound large) (j * words) inside_size in
      let part = content_part h inside.level j sound.tree large inside.high (omega (arith, near, place, sound.fits.under inside.level inside.high)) (λ none. inside.there (sym block ∙ none)) in
      table.shown.same (content_block h j) bytes (is_there (h.cell (content_block h j)) _ part.2) (ap v.block_at block ∙ at)
]
  where
    grouped : (a b : ℕ) → 8 * (a * b) ≡ a * (8 * b)
    grouped a b = omega arith
