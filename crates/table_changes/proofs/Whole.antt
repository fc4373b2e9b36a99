-- The draft in which a table is doubled, step by step.
use Rattle.std.proofs.Common.{◌≡◌, ◌≢◌, ◌⊎◌, ℕ, ◌+◌, ◌*◌, ◌^◌, ◌<◌, inl, inr, false, List, length, drop, None, Some, Ok, refl, sym, ap, ap₂, ◌∙◌, subst, arith}
use Rattle.std.specs.Prelude.{IsSome}
use Rattle.std.specs.FinMap.{empty, entries, get, get-empty, insert}
use Rattle.std.specs.Ordering.{nat_cmp}
use Rattle.drafts.specs.Fates.{Drafted, block_with, blocks_in, seen_in}
use Rattle.drafts.specs.declared.change.Written.{Written}
use Rattle.drafts.specs.declared.fate.Fate.TheVariants.{Put}
use Rattle.gfs2_layout.specs.Device.{IsBlockSize}
use Rattle.gfs2_layout.specs.Holding.{Holding, bytes_at}
use Rattle.gfs2_layout.specs.Inode.{block_count, dinode_in, height_in, table_count}
use Rattle.gfs2_layout.specs.Structures.{dinode_length, dinode_read}
use Rattle.gfs2_layout.specs.Writing.{dinode_put}
use Rattle.gfs2_layout.specs.declared.dinode.Dinode.{Dinode}
use Rattle.glock_names.specs.Views.{Seen, HasBlock}
use Rattle.dinode_tree.specs.Below.{IsBelow}
use Rattle.dinode_tree.specs.Reading.{inode_lock}
use Rattle.dinode_tree.specs.Shown as inode
use Rattle.growth_laws.specs.Files.{with_cells}
use Rattle.growth_drafts.specs.Taken.{IsLeft, IsPutFor}
use Rattle.table_files.specs.Written.{CanWrite, HasWritten}
use Rattle.table_files.specs.Tables.{CanDouble, doubling_need, table_blocks, table_height}
use Rattle.table_files.specs.Files.{SaysInstead, doubled_dinode, file_dinode}
use Rattle.table_files.specs.Laws.{IsTable}
use Rattle.table_files.proofs.TableFiles.{can_write, cell_own, file_of, shown_file}
use Rattle.table_changes.specs.Doubling.{AreDoubledBlocks, IsDoubledTable}
use Rattle.table_files.specs.TreePointers.{IsTableOf}
use Rattle.table_files.specs.tree_table.TreeTable.{TreeTable}
use Rattle.table_changes.proofs.Grown.{are_doubled, block_sum, doubled_is_said, doubled_said, fate_here, fate_other, file_below, file_blocks, file_is_said, file_said, height_is, own_bytes_k, raw_size, says_instead, seen_here, seen_other, table_is, taken_is, view_put}

-- a draft that nothing was put into sees what the view below sees
pub fresh_seen : {V : Type 0} (seen : V → Seen) (view : V) (d : Drafted V) → d ≡ record { view = view; fates = empty } → (b : ℕ) → (seen_in seen d).block_at b ≡ (seen view).block_at b
fresh_seen {V} seen view d fresh b = ap (λ (x : Drafted V). (seen_in seen x).block_at b) fresh ∙ ap (λ fate. block_with fate ((seen view).block_at b)) (get-empty nat_cmp b)

module _ {V : Type 0} (seen : V → Seen) (view : V) (t : TreeTable) (h : Holding) (room : List ℕ) (table : IsTableOf t (seen view) h) (block_size : IsBlockSize (seen view).size) (can : CanDouble h room) (d : Dinode) (is_d : d ≡ dinode_in h) (size : ℕ) (is_size : size ≡ (seen view).size)
    (raw : List ℕ) (doubled : IsDoubledTable h raw) (below : (b : ℕ) → IsBelow h b → HasBlock (seen view) b) (d0 d1 : Drafted V) (fresh : d0 ≡ record { view = view; fates = empty }) (old : List ℕ) (at : (seen_in seen d0).block_at t.directory ≡ Some old) (there : IsSome (h.cell h.own))
    (file : Dinode) (said : file ≡ file_said d size t.depth) (put : d1 ≡ record d0 { fates = insert d0.fates t.directory (Put (inode_lock t.directory) false (dinode_put file old)) })
    (read : dinode_read (dinode_put file old) ≡ Ok file) (behind : drop dinode_length (dinode_put file old) ≡ drop dinode_length old) (whole : length (dinode_put file old) ≡ (seen d0.view).size) where
  own : t.directory ≡ h.own
  own = sym table.shown.own

  pub tab : IsTable h
  tab = table_is t (seen view) h room table block_size can

  abbrev pub bytes : List ℕ
  bytes = dinode_put file old

  size_h : size ≡ h.size
  size_h = is_size ∙ sym table.shown.size

  at_view : (seen view).block_at h.own ≡ Some old
  at_view = ap (seen view).block_at (sym own) ∙ sym (fresh_seen seen view d0 fresh t.directory) ∙ at

  old_is : bytes_at h h.own ≡ old
  old_is = table.shown.same h.own old there at_view

  view_0 : d0.view ≡ view
  view_0 = ap (λ (x : Drafted V). x.view) fresh

  pub says : SaysInstead h (file_dinode h (file_blocks h)) bytes
  says = says_instead h file (file_dinode h (file_blocks h)) old bytes old_is (said ∙ file_is_said h tab d size t.depth is_d size_h table.depth) refl read behind (whole ∙ ap (λ (w : V). (seen w).size) view_0 ∙ sym table.shown.size)

  abbrev pub f : Holding
  f = file_of h tab (file_blocks h) bytes says

  abbrev pub file_now : Holding
  file_now = f

  put_own : d1 ≡ record d0 { fates = insert d0.fates h.own (Put (inode_lock h.own) false bytes) }
  put_own = subst (λ a. d1 ≡ record d0 { fates = insert d0.fates a (Put (inode_lock a) false bytes) }) own put

  same_below : (b : ℕ) → b ≢ h.own → (seen_in seen d1).block_at b ≡ (seen view).block_at b
  same_below b other = seen_other seen d0 d1 (inode_lock h.own) h.own bytes put_own b other ∙ fresh_seen seen view d0 fresh b

  here_1 : (seen_in seen d1).block_at h.own ≡ Some bytes
  here_1 = seen_here seen d0 d1 (inode_lock h.own) h.own bytes put_own

  view_1 : d1.view ≡ view
  view_1 = view_put seen d0 d1 (inode_lock h.own) h.own bytes put_own ∙ view_0

  shown_own : inode.IsShown (seen view) h.own h
  shown_own = subst (λ a. inode.IsShown (seen view) a h) own table.shown

  pub shown_1 : inode.IsShown (seen_in seen d1) t.directory f
  shown_1 = subst (λ a. inode.IsShown (seen_in seen d1) a f) (sym own) (shown_file h tab (file_blocks h) bytes says (seen view) (seen_in seen d1) shown_own (ap (λ (w : V). (seen w).size) view_1) here_1 same_below)

  raw_long_is : length raw ≡ table_blocks h.size (2 * table_count h) * h.size
  raw_long_is = ap length doubled.all ∙ raw_size h tab doubled.headers doubled.pointers doubled.heads doubled.twice

  pub can_1 : CanWrite f 0 (length raw) room
  can_1 = subst (λ n. CanWrite f 0 n room) (sym raw_long_is) (can_write h tab (file_blocks h) bytes says refl room can)

  pub below_1 : (b : ℕ) → IsBelow f b → HasBlock (seen_in seen d1) b
  below_1 = file_below h tab (file_blocks h) bytes says (seen view) (seen_in seen d1) below same_below

  pub there_1 : HasBlock (seen_in seen d1) t.directory
  there_1 = subst (HasBlock (seen_in seen d1)) (sym own) (bytes, here_1)

  module _ (left : List ℕ) (d2 : Drafted V) (view_2 : d2.view ≡ d1.view) (written : HasWritten (seen_in seen d2) d1.fates d2.fates room left f 0 raw) where
    size_2 : (seen_in seen d2).size ≡ h.size
    size_2 = ap (λ (w : V). (seen w).size) (view_2 ∙ view_1) ∙ sym table.shown.size

    untold : (b : ℕ) → b ≢ h.own → get d1.fates b ≡ None
    untold b other = fate_other seen d0 d1 (inode_lock h.own) h.own bytes put_own b other ∙ ap (λ (x : Drafted V). get x.fates b) fresh ∙ get-empty nat_cmp b

    -- the dinode's block is still seen
    pub there_2 : HasBlock (seen_in seen d2) t.directory
    there_2 = subst (HasBlock (seen_in seen d2)) (sym own) (by (written.drafted.own h.own own_there))
      where
        own_there : IsSome (written.g.cell h.own)
        own_there = (written.written.blocks.blocks h.own).1 (inl (subst IsSome (sym (cell_own h tab (file_blocks h) bytes says)) refl))

        by : IsLeft d1.fates d2.fates f written.g h.own ⊎ IsPutFor d2.fates written.g h.own → HasBlock (seen_in seen d2) h.own
        by (inl same) = (bytes, ap (λ fate. block_with fate ((seen d2.view).block_at h.own)) (same.fate ∙ fate_here seen d0 d1 (inode_lock h.own) h.own bytes put_own))
        by (inr new) = (bytes_at written.g h.own, ap (λ fate. block_with fate ((seen d2.view).block_at h.own)) new.fate)

    module _ (seen_2 : List ℕ) (at_2 : (seen_in seen d2).block_at t.directory ≡ Some seen_2) (d3 : Drafted V) (dir : Dinode)
        (dir_said : d.blocks + doubling_need size d.height (2 ^ t.depth) < 2 ^ 64 → dir ≡ doubled_said d size t.depth) where
      abbrev pub k : Holding
      k = with_cells h written.g.cell

      taken_len : length written.taken ≡ doubling_need h.size (height_in h) (table_count h)
      taken_len = taken_is h tab bytes says raw doubled room left can table.hashed (seen_in seen d2) d1.fates d2.fates untold written size_2

      high : height_in k ≡ table_height h.size (height_in h) (2 * table_count h)
      high = height_is h tab bytes says raw doubled room left can table.hashed (seen_in seen d2) d1.fates d2.fates untold written size_2

      own_2 : bytes_at k h.own ≡ seen_2
      own_2 = sym (own_bytes_k h tab bytes says raw doubled room left can table.hashed (seen_in seen d2) d1.fates d2.fates untold written size_2)
          ∙ written.shown.same written.g.own seen_2 written.shown.dinode (ap (seen_in seen d2).block_at (written.shown.own ∙ sym own) ∙ at_2)

      -- the count of blocks doesn't run over
      few : d.blocks + doubling_need size d.height (2 ^ t.depth) < 2 ^ 64
      few =
          let need : doubling_need size d.height (2 ^ t.depth) ≡ length written.taken
          = ap₂ (λ s (x : Dinode). doubling_need s x.height (2 ^ t.depth)) size_h is_d ∙ ap (λ n. doubling_need h.size (height_in h) (2 ^ n)) table.depth ∙ sym taken_len in
          let had : d.blocks ≡ block_count h = ap (λ (x : Dinode). x.blocks) is_d ∙ can.sound.blocks in
          let all = block_sum h tab bytes says raw doubled room left can table.hashed (seen_in seen d2) d1.fates d2.fates untold written size_2 in
          omega (arith, need, had, all, can.few)

      pub dir_is : dir ≡ doubled_dinode h (height_in k) (length written.taken)
      dir_is = dir_said few ∙ doubled_is_said h tab d size t.depth (height_in k) (length written.taken) is_d size_h table.depth high taken_len

      module _ (put_3 : d3 ≡ record d2 { fates = insert d2.fates t.directory (Put (inode_lock t.directory) false (dinode_put dir seen_2)) }) (read_3 : dinode_read (dinode_put dir seen_2) ≡ Ok dir) (behind_3 : drop dinode_length (dinode_put dir seen_2) ≡ drop dinode_length seen_2)
          (whole_3 : length (dinode_put dir seen_2) ≡ (seen d2.view).size) (ws : List Written) (finished : ws ≡ blocks_in (entries d3.fates)) where
        put_own_3 : d3 ≡ record d2 { fates = insert d2.fates h.own (Put (inode_lock h.own) false (dinode_put dir seen_2)) }
        put_own_3 = subst (λ a. d3 ≡ record d2 { fates = insert d2.fates a (Put (inode_lock a) false (dinode_put dir seen_2)) }) own put_3

        says_3 : SaysInstead k (doubled_dinode h (height_in k) (length written.taken)) (dinode_put dir seen_2)
        says_3 = says_instead k dir (doubled_dinode h (height_in k) (length written.taken)) seen_2 (dinode_put dir seen_2) own_2 dir_is refl read_3 behind_3 (whole_3 ∙ size_2)

        pub doubled_at_last : AreDoubledBlocks h room left ws
        doubled_at_last = are_doubled h tab bytes says raw doubled room left can table.hashed (seen_in seen d2) d1.fates d2.fates untold written size_2 (dinode_put dir seen_2) says_3 d3.fates
            (fate_here seen d2 d3 (inode_lock h.own) h.own (dinode_put dir seen_2) put_own_3) (fate_other seen d2 d3 (inode_lock h.own) h.own (dinode_put dir seen_2) put_own_3) ws finished
