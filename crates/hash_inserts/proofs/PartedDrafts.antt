-- A leaf that is split in a draft, step by step.
use Rattle.std.proofs.Common.{◌≡◌, ℕ, ◌+◌, ◌<◌, ◌≤◌, List, false, Some, refl, sym, ap, ◌∙◌, subst}
use Rattle.std.specs.Prelude.{IsSome}
use Rattle.std.specs.FinMap.{insert}
use Rattle.drafts.specs.Fates.{Drafted, seen_in, seen_with}
use Rattle.drafts.specs.declared.fate.Fate.TheVariants.{Put}
use Rattle.gfs2_layout.specs.Holding.{Holding, cell_bytes, bytes_at}
use Rattle.gfs2_layout.specs.Inode.{IsInode, depth_in, dinode_in, entry, table_count}
use Rattle.gfs2_layout.specs.Structures.{dinode_of, leaf_of}
use Rattle.glock_names.specs.Views.{Seen}
use Rattle.dinode_tree.specs.Reading.{inode_lock}
use Rattle.dinode_tree.specs.Shown.{IsAsSeen}
use Rattle.linear_dirs.specs.Shown.{holding_over}
use Rattle.linear_dirs.proofs.Over.{as_seen}
use Rattle.hash_steps.specs.Shown.{IsShown, IsSound}
use Rattle.gfs2_layout.specs.Device.{IsBlockSize}
use Rattle.hash_steps.specs.Laws.{SplitsStay, Stays}
use Rattle.hash_steps.specs.Leaves.{HasOneLeaf, first_of, leaf_depth, run_of}
use Rattle.hash_inserts.specs.Drafting.{IsFree, SetsPointers, SplitsLeaf}
use Rattle.hash_inserts.specs.Writing.{IsDinodeWritten, IsHalved, counting}
use Rattle.hash_inserts.proofs.Blocks.{three_fates}
use Rattle.hash_inserts.proofs.Parted.{after, depth_kept, split_in}
use Rattle.hash_inserts.proofs.Showing.{SoundAreShown, shown_of}
use Rattle.hash_inserts.proofs.Seen.{leaf_there, own_there, set_cell}

-- a table is that of its directory in whatever shows that, where it is sound and as deep
abbrev pub Follows : (Seen → Holding → Type 0) → Type 0
Follows Shows = (v w : Seen) (h g : Holding) → Shows v h → g.own ≡ h.own → IsShown w h.own g → IsBlockSize g.size → IsInode g → depth_in g ≡ depth_in h → Shows w g

module _ {V : Type 0} (seen : V → Seen) (old d1 two now : Drafted V) (dir : ℕ) (h : Holding) (i b from count : ℕ) (low high dinode bytes own : List ℕ)
    (shown : IsShown (seen_in seen old) dir h) (sound : IsSound h) (small : i < table_count h) (one : HasOneLeaf h i) (deep : leaf_depth h i < depth_in h) (free : IsFree h b)
    (from_is : from ≡ first_of h i) (count_is : count ≡ run_of h (leaf_depth h i + 1)) (within : from + count ≤ table_count h)
    (view1 : d1.view ≡ old.view) (set : SetsPointers (seen old.view) old.fates d1.fates h from count b)
    (there : (seen_in seen d1).block_at (entry h i) ≡ Some bytes) (halved : IsHalved bytes high low (leaf_of bytes).depth)
    (two_is : two ≡ record d1 { fates = insert (insert d1.fates b (Put (inode_lock dir) false low)) (entry h i) (Put (inode_lock dir) false high) })
    (there_own : (seen_in seen d1).block_at dir ≡ Some own) (written : IsDinodeWritten own dinode (counting (dinode_of own) 0 0 1))
    (now_is : now ≡ record two { fates = insert two.fates dir (Put (inode_lock dir) false dinode) }) where
  abbrev w : Seen
  w = seen_with (seen old.view) d1.fates

  abbrev pub mid : Holding
  mid = holding_over (seen_with (seen old.view) d1.fates) h

  seen1 : seen_in seen d1 ≡ w
  seen1 = ap (λ x. seen_with (seen x) d1.fates) view1

  -- what the first of the drafts has of the leaf and of the dinode
  bytes_x : bytes_at h (entry h i) ≡ bytes
  bytes_x =
      let cell = set_cell (seen old.view) old.fates d1.fates h i b from count sound shown.hashed small set in
      sym (ap cell_bytes cell) ∙ as_seen w h (entry h i) bytes (subst IsSome (sym cell) (leaf_there h i sound shown.hashed small)) (sym (ap (λ s. s.block_at (entry h i)) seen1) ∙ there)

  bytes_own : bytes_at mid h.own ≡ own
  bytes_own = as_seen w h h.own own (own_there (seen old.view) d1.fates h shown.inode.dinode) (ap w.block_at shown.inode.own ∙ sym (ap (λ s. s.block_at dir) seen1) ∙ there_own)

  pub halved_h : IsHalved (bytes_at h (entry h i)) high low (leaf_depth h i)
  halved_h = subst (λ y. IsHalved y high low (leaf_of y).depth) (sym bytes_x) halved

  dinode_m : dinode_in mid ≡ dinode_of own
  unfolding dinode_in
  dinode_m = ap dinode_of bytes_own

  pub written_m : IsDinodeWritten (bytes_at mid h.own) dinode (counting (dinode_in mid) 0 0 1)
  written_m = subst (λ y. IsDinodeWritten y dinode (counting (dinode_in mid) 0 0 1)) (sym bytes_own) (subst (λ d. IsDinodeWritten own dinode (counting d 0 0 1)) (sym dinode_m) written)

  abbrev pub last : Holding
  last = after (seen old.view) old.fates d1.fates h i b from count low high dinode sound shown.hashed small one deep free from_is count_is within set halved_h written_m

  pub splits_leaf : SplitsLeaf (seen old.view) old.fates now.fates h last i b
  splits_leaf = subst (λ f. SplitsLeaf (seen old.view) old.fates f h last i b)
      (three_fates d1 two now h.own dir b (entry h i) low high dinode shown.inode.own two_is now_is)
      (split_in (seen old.view) old.fates d1.fates h i b from count low high dinode sound shown.hashed small one deep free from_is count_is within set halved_h written_m)

  pub deep_as : depth_in last ≡ depth_in mid
  deep_as = depth_kept (seen old.view) old.fates d1.fates h i b from count low high dinode sound shown.hashed small one deep free from_is count_is within set halved_h written_m

  -- ---- what the last of the drafts shows

  module _ (view : now.view ≡ old.view) (law : SoundAreShown) (splits_law : SplitsStay) where
    seen_now : seen_in seen now ≡ seen_with (seen old.view) now.fates
    seen_now = ap (λ y. seen_with (seen y) now.fates) view

    stays : Stays h last
    stays = splits_law h last i b sound shown.hashed small one deep splits_leaf.is

    is_shown : IsShown (seen_in seen now) dir last
    is_shown = shown_of law (seen_in seen now) last dir stays.sound stays.hashed shown.inode.own (shown.inode.size ∙ sym (ap (λ y. (seen y).size) view))
        (subst (λ s. IsAsSeen s last) (sym seen_now) (splits_leaf.puts.seen shown.inode.same))

    pub split_all : (Shows : Seen → Holding → Type 0) → Follows Shows → Shows (seen_in seen d1) (holding_over (seen_in seen d1) h)
        → (g : Holding) × SplitsLeaf (seen old.view) old.fates now.fates h g i b × IsShown (seen_in seen now) dir g × Shows (seen_in seen now) g × Stays h g
    split_all Shows follows shows = (
      last,
      splits_leaf,
      is_shown,
      follows w (seen_in seen now) mid last (subst (λ s. Shows s (holding_over s h)) seen1 shows) refl (subst (λ a. IsShown (seen_in seen now) a last) (sym shown.inode.own) is_shown) sound.block_size stays.sound.inode deep_as,
      stays,
    )
