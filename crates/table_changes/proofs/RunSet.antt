-- A run of pointers that is put into one block in a draft.
use Rattle.std.proofs.Common.{◌≡◌, ◌≢◌, ℕ, ◌+◌, ◌*◌, ◌/◌, ◌^◌, ◌<◌, ◌≤◌, inl, inr, true, false, List, Option, Some, refl, sym, ap, ◌∙◌, subst, arith}
use Rattle.std.specs.Prelude.{IsSome, if◌then◌else◌}
use Rattle.std.specs.Cmp.{nat_cmp_total}
use Rattle.std.specs.FinMap.{get, insert, nat_cmp-IsAntisymmetric}
use Rattle.std.proofs.lemmas.Bool.{cases_eq}
use Rattle.finite_maps.proofs.Keys.{inserted_at, inserted_apart}
use Rattle.drafts.specs.Fates.{Drafted, seen_in}
use Rattle.drafts.specs.declared.fate.Fate.TheVariants.{Put}
use Rattle.gfs2_layout.specs.Bytes.{slice}
use Rattle.gfs2_layout.specs.Device.{IsBlockSize}
use Rattle.gfs2_layout.specs.Holding.{Holding, Cell, Itself, Pointed, InChain, part_at, bytes_at}
use Rattle.gfs2_layout.specs.Inode.{dinode_in, entry, entry_block, fan, has_hash_flag, is_directory_in, span, table_count, unit}
use Rattle.gfs2_layout.specs.Structures.{dinode_length}
use Rattle.glock_names.specs.Views.{Seen, HasBlock}
use Rattle.image_model.proofs.Rows.{and_left}
use Rattle.dinode_tree.specs.Reading.{inode_lock}
use Rattle.dinode_tree.proofs.Sound.{is_there, size_large}
use Rattle.table_files.proofs.Cuts.{seen_apart, there_still}
use Rattle.linear_dirs.specs.Shown.{holding_over}
use Rattle.linear_dirs.proofs.Rewritten.{over_there, seen_at}
use Rattle.pointer_tables.specs.Directories.{IsPlaced, IsTreeSound}
use Rattle.pointer_tables.specs.Tables.{is_within}
use Rattle.table_files.specs.Pointers.{IsBesidePointers}
use Rattle.table_files.specs.Tables.{DraftsDirectory}
use Rattle.table_files.specs.TreePointers.{IsTableOf}
use Rattle.table_changes.specs.Setting.{HasNumbersSet, IsBehindDinode, IsInTable, IsRun, IsSetIn}
use Rattle.table_changes.specs.declared.finding.Run.{Run}
use Rattle.table_files.specs.tree_table.TreeTable.{TreeTable}
use Rattle.table_files.proofs.ContentParts.{IsContentPart, content_part, whole_by_parts}
use Rattle.table_changes.proofs.Beside.{beside_run, entry_block_after}
use Rattle.table_changes.proofs.Entered.{entry_set_in_table, entry_set_stuffed}
use Rattle.table_files.proofs.Entries.{within}
use Rattle.table_changes.proofs.Kept.{KeepsContentBlocks, KeepsWays, content_block_after, height_after, placed_after, sound_after, unit_after}
use Rattle.table_changes.proofs.OneRun.{front_kept, IsBlockSet, bytes_here, bytes_old, bytes_other, cells, g, keeps_stuffed, keeps_table, leaves_stay, table_after}

-- so many pointers are set in the draft, and the blocks that have them stand where they stood
abbrev pub IsSetKept : {V : Type 0} → (V → Seen) → Drafted V → Drafted V → TreeTable → Holding → ℕ → ℕ → ℕ → Type 0
IsSetKept seen old new t h from count leaf = IsSetIn seen old new t h from count leaf × KeepsContentBlocks h (holding_over (seen_in seen new) h)

module _ {V : Type 0} (seen : V → Seen) (before after : Drafted V) (t : TreeTable) (h : Holding) (run : Run) (index most leaf : ℕ) (old new : List ℕ)
    (table : IsTableOf t (seen_in seen before) h) (sound : IsTreeSound h) (placed : IsPlaced h) (block_size : IsBlockSize h.size)
    (was : (seen_in seen before).block_at run.block ≡ Some old) (set : HasNumbersSet old new run.start run.count leaf)
    (put : after ≡ record before { fates = insert before.fates run.block (Put (inode_lock t.directory) false new) }) where
  step : IsBlockSet (seen_in seen before) (seen_in seen after) run.block old new run.start run.count leaf
  step = record {
    size = ap (λ (d : Drafted V). (seen d.view).size) put;
    was = was;
    is = ap (λ (d : Drafted V). (seen_in seen d).block_at run.block) put ∙ seen_at (seen before.view) before.fates run.block (inode_lock t.directory) new;
    others = λ c other. ap (λ (d : Drafted V). (seen_in seen d).block_at c) put ∙ seen_apart (seen before.view) before.fates run.block c (inode_lock t.directory) new other;
    set = set;
  }

  large : 512 ≤ h.size
  large = size_large h.size block_size

  directory : is_directory_in h ≡ true
  directory = and_left (is_directory_in h) (has_hash_flag (dinode_in h)) table.hashed

  module _ (there : IsSome (h.cell run.block)) where
    abbrev k : ℕ → Option Cell
    k = cells (seen_in seen before) (seen_in seen after) t.directory h run.block old new run.start run.count leaf table.shown step there

    abbrev h' : Holding
    h' = g (seen_in seen before) (seen_in seen after) t.directory h run.block old new run.start run.count leaf table.shown step there

    fate_there : get after.fates run.block ≡ Some (Put (inode_lock h'.own) false (bytes_at h' run.block))
    fate_there =
        ap (λ (d : Drafted V). get d.fates run.block) put ∙ inserted_at nat_cmp_total nat_cmp-IsAntisymmetric before.fates run.block (Put (inode_lock t.directory) false new)
        ∙ ap (λ n. Some (Put (inode_lock n) false new)) (sym table.shown.own)
        ∙ ap (λ (bytes : List ℕ). Some (Put (inode_lock h.own) false bytes)) (sym (bytes_here (seen_in seen before) (seen_in seen after) t.directory h run.block old new run.start run.count leaf table.shown step there))

    fate_apart : (c : ℕ) → c ≢ run.block → get after.fates c ≡ get before.fates c
    fate_apart c other = ap (λ (d : Drafted V). get d.fates c) put ∙ inserted_apart nat_cmp_total nat_cmp-IsAntisymmetric before.fates run.block (Put (inode_lock t.directory) false new) c other

    cell_there : IsSome (h'.cell run.block)
    cell_there = over_there ((seen_in seen after).block_at run.block) (h.cell run.block) ∙ there

    drafted : DraftsDirectory before.fates after.fates h h'
    drafted = record {
      own = λ c some. elim (cases_eq c run.block) [
        | inl is ↦ inr (subst (λ x. get after.fates x ≡ Some (Put (inode_lock h'.own) false (bytes_at h' x))) (sym is) fate_there)
        | inr other ↦ inl (fate_apart c other, bytes_other (seen_in seen before) (seen_in seen after) t.directory h run.block old new run.start run.count leaf table.shown step there c other)
      ];
      others = λ c none. fate_apart c (λ e. none (subst (λ x. IsSome (h'.cell x)) (sym e) cell_there));
    }

    others : (most : ℕ) → IsRun h index most run → (x at n : ℕ) → IsBesidePointers h index run.count x at n → slice at n (bytes_at h' x) ≡ slice at n (bytes_at h x)
    others most is x at n beside = elim (cases_eq x run.block) [
      | inl here ↦
          ap (λ y. slice at n (bytes_at h' y)) here ∙ ap (slice at n) (bytes_here (seen_in seen before) (seen_in seen after) t.directory h run.block old new run.start run.count leaf table.shown step there)
          ∙ beside_run h index most run old new leaf is set at n (subst (λ y. IsBesidePointers h index run.count y at n) here beside)
          ∙ ap (slice at n) (sym (bytes_old (seen_in seen before) (seen_in seen after) t.directory h run.block old new run.start run.count leaf table.shown step there)) ∙ ap (λ y. slice at n (bytes_at h y)) (sym here)
      | inr other ↦ ap (slice at n) (bytes_other (seen_in seen before) (seen_in seen after) t.directory h run.block old new run.start run.count leaf table.shown step there x other)
    ]

    blocks : KeepsWays h k → (i : ℕ) → i < table_count h → entry_block h' i ≡ entry_block h i
    blocks keeps i low = entry_block_after h h' i refl (height_after h k keeps) (unit_after h k keeps) (content_block_after h k keeps sound.tree large)
        (λ level high. omega (arith, within h level block_size directory high sound.fits (whole_by_parts h sound large) i (omega (arith, table.size, ap (λ n. 2 ^ n) table.depth, low)), sound.fits.under level high))

    all_set : IsRun h index most run → (h.own ≡ run.block → 232 ≤ run.start) → KeepsWays h k → ((hash place : ℕ) → part_at h run.block ≡ Some (InChain hash place) → ⊥)
        → ((i : ℕ) → 8 * i + 8 ≤ (dinode_in h).size → entry h' i ≡ (if is_within index run.count i then leaf else entry h i)) → IsSetKept seen before after t h index run.count leaf
    all_set is low keeps no_leaf entries = (
      (
        table_after (seen_in seen before) (seen_in seen after) t.directory h run.block old new run.start run.count leaf table.shown step there sound t refl table large keeps,
        record {
          sound = λ s. sound_after h k keeps s;
          placed = λ p. placed_after h k keeps p;
          dinode = keeps.dinode;
          front = front_kept (seen_in seen before) (seen_in seen after) t.directory h run.block old new run.start run.count leaf table.shown step there low;
          entries = λ i few. entries i (omega (arith, table.size, ap (λ n. 2 ^ n) table.depth, few));
          blocks = blocks keeps;
          others = others most is;
          stays = leaves_stay (seen_in seen before) (seen_in seen after) t.directory h run.block old new run.start run.count leaf table.shown step there sound no_leaf;
        },
        drafted,
      ),
      content_block_after h k keeps sound.tree large,
    )

  itself_no_leaf : {hash place : ℕ} → Some Itself ≡ Some (InChain hash place) → ⊥
  itself_no_leaf e = cc

  pointed_no_leaf : {from j level first hash place : ℕ} → Some (Pointed from j level first) ≡ Some (InChain hash place) → ⊥
  pointed_no_leaf e = cc

  itself_or_pointed : {from j level first : ℕ} → Some Itself ≡ Some (Pointed from j level first) → ⊥
  itself_or_pointed e = cc

  set_stuffed : IsRun h index most run → IsBehindDinode h index run → IsSetKept seen before after t h index run.count leaf
  set_stuffed is behind =
      let there : IsSome (h.cell run.block) = subst (λ x. IsSome (h.cell x)) (sym behind.block) table.shown.dinode in
      let far : 232 ≤ run.start = omega (arith, behind.start) in
      let keeps = keeps_stuffed (seen_in seen before) (seen_in seen after) t.directory h run.block old new run.start run.count leaf table.shown step there sound behind.block behind.stuffed far in
      all_set there is (λ _. far) keeps (λ hash place at. itself_no_leaf (sym placed.own ∙ ap (part_at h) (sym behind.block) ∙ at))
      (λ i low. entry_set_stuffed (seen_in seen before) (seen_in seen after) t.directory h run.block old new run.start run.count leaf table.shown step there keeps index i low behind.block behind.stuffed behind.start)

  set_in_table : IsRun h index most run → 8 * index + 8 ≤ (dinode_in h).size → 1 ≤ run.count → IsInTable h index run → IsSetKept seen before after t h index run.count leaf
  set_in_table is low counts inside =
      let near : 8 * index / unit h < fan h.size dinode_length * span h.size inside.level
      = omega (arith, within h inside.level block_size directory inside.high sound.fits (whole_by_parts h sound large) index low, sound.fits.under inside.level inside.high) in
      let found = content_part h inside.level (8 * index / unit h) sound.tree large inside.high near (λ z. inside.there (sym inside.block ∙ z)) in
      let part : IsContentPart h run.block (8 * index / unit h) = subst (λ c. IsContentPart h c (8 * index / unit h)) inside.block found in
      let there : IsSome (h.cell run.block) = is_there (h.cell run.block) (Pointed part.0 part.1 0 (8 * index / unit h)) part.2 in
      let far : 24 ≤ run.start = omega (arith, inside.start) in
      let keeps = keeps_table (seen_in seen before) (seen_in seen after) t.directory h run.block old new run.start run.count leaf table.shown step there sound part.0 part.1 (8 * index / unit h) part.2 placed.own far in
      all_set there is (λ e. absurd (itself_or_pointed (sym placed.own ∙ ap (part_at h) e ∙ part.2))) keeps (λ hash place at. pointed_no_leaf (sym part.2 ∙ at))
      (λ i less. entry_set_in_table (seen_in seen before) (seen_in seen after) t.directory h run.block old new run.start run.count leaf table.shown step there keeps index i less
      inside.level inside.high block_size large directory sound inside.there inside.block inside.start inside.within counts low)

  pub run_is_set : index + most ≤ 2 ^ t.depth → IsRun h index most run → IsSetKept seen before after t h index run.count leaf
  run_is_set few is =
      let low : 8 * index + 8 ≤ (dinode_in h).size = omega (arith, table.size, few, is.some, is.few) in
      elim is.place [
        | inl behind ↦ set_stuffed is behind
        | inr inside ↦ set_in_table is low is.some inside
      ]

-- a block that the draft sees it sees where one is put
pub seen_still : {V : Type 0} (seen : V → Seen) (before after : Drafted V) (block directory : ℕ) (new : List ℕ) → after ≡ record before { fates = insert before.fates block (Put (inode_lock directory) false new) }
    → (b : ℕ) → HasBlock (seen_in seen before) b → HasBlock (seen_in seen after) b
seen_still {V} seen before after block directory new put b has = subst (λ (d : Drafted V). HasBlock (seen_in seen d) b) (sym put) (there_still (seen before.view) before.fates block b (inode_lock directory) new has)
