-- A run of pointers that is set in one block of a directory, as a view shows it: the directory is sound as before.
use Rattle.std.proofs.Common.{◌≡◌, ◌≢◌, ℕ, suc, ◌≤◌, inl, inr, List, length, take, Option, Some, None, refl, sym, ap, ◌∙◌, subst, arith}
use Rattle.std.specs.Prelude.{◌&&◌, IsSome, option_map}
use Rattle.std.proofs.lemmas.Bool.{cases_eq}
use Rattle.gfs2_layout.specs.Headers.{HasHeader}
use Rattle.gfs2_layout.specs.Holding.{Holding, Cell, Itself, Pointed, InChain, cell_bytes, part_at, bytes_at}
use Rattle.gfs2_layout.specs.Inode.{dinode_in, has_hash_flag, height_in}
use Rattle.gfs2_layout.specs.Structures.{dinode_of, is_directory}
use Rattle.gfs2_layout.specs.declared.dinode.Dinode.{Dinode}
use Rattle.glock_names.specs.Views.{Seen}
use Rattle.growth_laws.proofs.Parts.{not_itself}
use Rattle.dinode_tree.specs.Shown as inode
use Rattle.dinode_tree.proofs.Sound.{is_there, part_of_led}
use Rattle.linear_dirs.specs.Shown.{bytes_over, holding_over}
use Rattle.linear_dirs.proofs.Over.{as_seen}
use Rattle.linear_dirs.proofs.Rewritten.{over_part, over_put, over_there}
use Rattle.pointer_tables.specs.Directories.{IsTreeSound}
use Rattle.pointer_tables.specs.Tables.{LeavesStay}
use Rattle.table_files.specs.TreePointers.{IsTableOf}
use Rattle.table_changes.specs.Setting.{HasNumbersSet}
use Rattle.table_files.specs.tree_table.TreeTable.{TreeTable}
use Rattle.table_files.proofs.ContentParts.{whole_by_parts}
use Rattle.table_changes.proofs.Fronts.{dinode_stays, header_stays}
use Rattle.table_changes.proofs.Kept.{KeepsWays, sound_after}

-- ---- a cell with the bytes that are seen

pub over_same : (o : Option (List ℕ)) (c : Option Cell) → ((bytes : List ℕ) → IsSome c → o ≡ Some bytes → cell_bytes c ≡ bytes) → option_map (bytes_over o) c ≡ c
over_same o None same = refl
over_same None (Some c) same = refl
over_same (Some bytes) (Some c) same = ap (λ (b : List ℕ). Some (record c { bytes = b })) (sym (same bytes refl refl))

-- The view w is v but for block b, in which so many numbers are set.
pub record IsBlockSet (v w : Seen) (b : ℕ) (old new : List ℕ) (start count leaf : ℕ) : Type 0 where
  pub size : w.size ≡ v.size
  pub was : v.block_at b ≡ Some old
  pub is : w.block_at b ≡ Some new
  pub others : (c : ℕ) → c ≢ b → w.block_at c ≡ v.block_at c
  pub set : HasNumbersSet old new start count leaf

module _ (v w : Seen) (a : ℕ) (h : Holding) (b : ℕ) (old new : List ℕ) (start count leaf : ℕ) (shown : inode.IsShown v a h) (step : IsBlockSet v w b old new start count leaf) (there : IsSome (h.cell b)) where
  abbrev pub cells : ℕ → Option Cell
  cells = λ x. option_map (bytes_over (w.block_at x)) (h.cell x)

  abbrev pub g : Holding
  g = holding_over w h

  pub parts_same : (x : ℕ) → part_at g x ≡ part_at h x
  parts_same x = over_part (w.block_at x) (h.cell x)

  pub cell_other : (x : ℕ) → x ≢ b → g.cell x ≡ h.cell x
  cell_other x other = over_same (w.block_at x) (h.cell x) (λ bytes some at. shown.same x bytes some (sym (step.others x other) ∙ at))

  pub bytes_other : (x : ℕ) → x ≢ b → bytes_at g x ≡ bytes_at h x
  bytes_other x other = ap cell_bytes (cell_other x other)

  pub bytes_here : bytes_at g b ≡ new
  bytes_here = over_put (w.block_at b) (h.cell b) new there step.is

  pub bytes_old : bytes_at h b ≡ old
  bytes_old = shown.same b old there step.was

  pub lengths : (x : ℕ) → length (bytes_at g x) ≡ length (bytes_at h x)
  lengths x = elim (cases_eq x b) [
    | inl here ↦ ap (λ y. length (bytes_at g y)) here ∙ ap length bytes_here ∙ step.set.length ∙ ap length (sym bytes_old) ∙ ap (λ y. length (bytes_at h y)) (sym here)
    | inr other ↦ ap length (bytes_other x other)
  ]

  header_kept : (kind format x : ℕ) → 24 ≤ start → HasHeader kind format (bytes_at h x) → HasHeader kind format (bytes_at g x)
  header_kept kind format x low has = elim (cases_eq x b) [
    | inl here ↦
        let before : bytes_at h x ≡ old = ap (bytes_at h) here ∙ bytes_old in
        let after : bytes_at g x ≡ new = ap (bytes_at g) here ∙ bytes_here in
        subst (HasHeader kind format) (sym after) (header_stays old new start count leaf step.set kind format low (subst (HasHeader kind format) before has))
    | inr other ↦ subst (HasHeader kind format) (sym (bytes_other x other)) has
  ]

  -- what stands before the pointers in the dinode's block stays
  pub front_kept : (h.own ≡ b → 232 ≤ start) → take 232 (bytes_at g h.own) ≡ take 232 (bytes_at h h.own)
  front_kept low = elim (cases_eq h.own b) [
    | inl here ↦
        ap (λ y. take 232 (bytes_at g y)) here ∙ ap (take 232) bytes_here ∙ step.set.elsewhere 0 232 (inl (low here)) ∙ ap (take 232) (sym bytes_old) ∙ ap (λ y. take 232 (bytes_at h y)) (sym here)
    | inr other ↦ ap (take 232) (bytes_other h.own other)
  ]

  module _ (sound : IsTreeSound h) where
    -- behind the dinode
    pub keeps_stuffed : b ≡ h.own → height_in h ≡ 0 → 232 ≤ start → KeepsWays h cells
    unfolding dinode_in
    keeps_stuffed own none low = record {
      parts = parts_same;
      some = λ x p at. lengths x;
      dinode = dinode_same;
      header = header_kept 4 400 h.own (omega (arith, low));
      own = λ level high. absurd (omega (arith, none, high));
      indirect = λ x f k level first at. absurd (omega (arith, none, sound.tree.below x f k (suc level) first at));
      table = λ x f k first at has. header_kept 7 700 x (omega (arith, low)) has;
    }
      where
        dinode_same : dinode_in g ≡ dinode_in h
        dinode_same = ap (λ x. dinode_of (bytes_at g x)) (sym own) ∙ ap dinode_of bytes_here ∙ dinode_stays old new start count leaf step.set low ∙ ap dinode_of (sym bytes_old) ∙ ap (λ x. dinode_of (bytes_at h x)) own

    -- in a table block
    pub keeps_table : (f k first : ℕ) → part_at h b ≡ Some (Pointed f k 0 first) → part_at h h.own ≡ Some Itself → 24 ≤ start → KeepsWays h cells
    unfolding dinode_in
    keeps_table f k first part itself low = record {
      parts = parts_same;
      some = λ x p at. lengths x;
      dinode = dinode_same;
      header = header_kept 4 400 h.own low;
      own = λ level high. bytes_other h.own own_other;
      indirect = λ x f' k' level first' at. bytes_other x (λ e. zero_no_suc (levels (sym at ∙ ap (part_at h) e ∙ part)));
      table = λ x f' k' first' at has. header_kept 7 700 x low has;
    }
      where
        levels : {f f' k k' l l' s s' : ℕ} → Some (Pointed f k l s) ≡ Some (Pointed f' k' l' s') → l ≡ l'
        levels e = cc

        zero_no_suc : {n : ℕ} → suc n ≡ 0 → ⊥
        zero_no_suc e = omega (arith, e)

        own_other : h.own ≢ b
        own_other e = not_itself _ _ _ _ (sym itself ∙ ap (part_at h) e ∙ part)

        dinode_same : dinode_in g ≡ dinode_in h
        dinode_same = ap dinode_of (bytes_other h.own own_other)

    -- the leaves, where the block is none
    pub leaves_stay : ((hash place : ℕ) → part_at h b ≡ Some (InChain hash place) → ⊥) → LeavesStay h g
    leaves_stay no_leaf = record {
      leaves = λ x hash place at. cell_other x (λ e. no_leaf hash place (ap (part_at h) (sym e) ∙ at));
      parts = λ x hash place at. sym (parts_same x) ∙ at;
    }

    -- and the table is that of what the view shows now
    pub table_after : (t : TreeTable) → t.directory ≡ a → IsTableOf t v h → 512 ≤ h.size → KeepsWays h cells → IsTableOf t w g
    table_after t same table large keeps =
        let tree = sound_after h cells keeps sound in
        record {
          shown = record {
            own = shown.own ∙ sym same;
            size = shown.size ∙ sym step.size;
            dinode = over_there (w.block_at h.own) (h.cell h.own) ∙ shown.dinode;
            led_to = λ f k level first c leads. is_there (g.cell c) (Pointed f k level first) (part_of_led g f k level first c tree.tree leads);
            same = as_seen w h;
          };
          hashed = ap (λ (d : Dinode). is_directory d && has_hash_flag d) keeps.dinode ∙ table.hashed;
          depth = table.depth ∙ sym (ap (λ (d : Dinode). d.depth) keeps.dinode);
          least = table.least;
          size = ap (λ (d : Dinode). d.size) keeps.dinode ∙ table.size;
          whole = λ at. whole_by_parts g tree large at;
        }
