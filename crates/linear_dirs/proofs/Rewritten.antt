-- A linear directory after its block was written anew.
use Rattle.std.proofs.Common.{◌≡◌, ◌≢◌, ℕ, suc, ◌+◌, Bool, true, false, inl, inr, List, length, drop, Option, None, Some, Ok, refl, sym, ap, ◌∙◌, subst, arith}
use Rattle.std.specs.Prelude.{IsSome, is_some, option_map, count_by, ◌&&◌}
use Rattle.std.specs.List.{range_with_len}
use Rattle.std.specs.FinMap.{FinMap, insert, nat_cmp-IsAntisymmetric}
use Rattle.std.specs.Ordering.{nat_cmp}
use Rattle.std.specs.Cmp.{nat_cmp_total}
use Rattle.std.proofs.lemmas.Bool.{cases_eq, both_ways}
use Rattle.finite_maps.proofs.Keys.{inserted_at, inserted_apart}
use Rattle.drafts.specs.Fates.{Drafted, block_with, seen_with, seen_in}
use Rattle.drafts.specs.declared.fate.Fate.{Fate}
use Rattle.drafts.specs.declared.fate.Fate.TheVariants.{Put}
use Rattle.gfs2_layout.specs.Area.{IsArea}
use Rattle.gfs2_layout.specs.Exchanges.{IsExchanged, IsCounted}
use Rattle.gfs2_layout.specs.Headers.{HasHeader}
use Rattle.gfs2_layout.specs.Holding.{Holding, Cell, Part, Pointed, cell_part, cell_bytes, part_at, bytes_at}
use Rattle.gfs2_layout.specs.Inode.{IsInode, HasTree, Fits, Head, dinode_in, height_in, has_hash_flag, is_directory_in, is_hashed_in, linear_area, records_of, block_count}
use Rattle.gfs2_layout.specs.Records.{Record, records_in, IsRecordArea}
use Rattle.gfs2_layout.specs.Structures.{header_fault, dinode_of, dinode_read, dinode_length, is_directory}
use Rattle.gfs2_layout.specs.declared.dinode.Dinode.{Dinode}
use Rattle.gfs2_layout.proofs.HeaderLaws.{answer_ok, header_from}
use Rattle.glock_names.specs.Views.{Seen}
use Rattle.glock_names.specs.declared.LockName.{LockName}
use Rattle.dinode_tree.specs.Shown.{IsShown}
use Rattle.linear_dirs.specs.Exchanges.{HasExchanged, uncounted}
use Rattle.linear_dirs.specs.Reading.{IsDirectoryOf}
use Rattle.linear_dirs.specs.Shown.{bytes_over, holding_over}
use Rattle.linear_dirs.proofs.Looked.{records_are}

-- ---- an inode over what a draft leaves

pub over_part : (o : Option (List ℕ)) (c : Option Cell) → cell_part (option_map (bytes_over o) c) ≡ cell_part c
over_part o None = refl
over_part None (Some c) = refl
over_part (Some bytes) (Some c) = refl

pub over_there : (o : Option (List ℕ)) (c : Option Cell) → is_some (option_map (bytes_over o) c) ≡ is_some c
over_there o None = refl
over_there o (Some c) = refl

pub over_put : (o : Option (List ℕ)) (c : Option Cell) (new : List ℕ) → IsSome c → o ≡ Some new → cell_bytes (option_map (bytes_over o) c) ≡ new
over_put o None new there is = cc
over_put None (Some c) new there is = cc
over_put (Some bytes) (Some c) new there is = cc

over_same : (o : Option (List ℕ)) (c : Option Cell) → ((bytes : List ℕ) → IsSome c → o ≡ Some bytes → cell_bytes c ≡ bytes) → cell_bytes (option_map (bytes_over o) c) ≡ cell_bytes c
over_same o None same = refl
over_same None (Some c) same = refl
over_same (Some bytes) (Some c) same = sym (same bytes refl refl)

-- ---- what a draft sees after one block was put

pub seen_at : (v : Seen) (m : FinMap nat_cmp Fate) (b : ℕ) (lock : LockName) (bytes : List ℕ) → (seen_with v (insert m b (Put lock false bytes))).block_at b ≡ Some bytes
seen_at v m b lock bytes = ap (λ fate. block_with fate (v.block_at b)) (inserted_at nat_cmp_total nat_cmp-IsAntisymmetric m b (Put lock false bytes))

seen_apart : (v : Seen) (m : FinMap nat_cmp Fate) (b c : ℕ) (lock : LockName) (bytes : List ℕ) → c ≢ b → (seen_with v (insert m b (Put lock false bytes))).block_at c ≡ (seen_with v m).block_at c
seen_apart v m b c lock bytes other = ap (λ fate. block_with fate (v.block_at c)) (inserted_apart nat_cmp_total nat_cmp-IsAntisymmetric m b (Put lock false bytes) c other)

-- ---- the directory's block alone was written

-- the view has these bytes in the directory's block, and each other block as it was
pub record IsRewritten (v : Seen) (h : Holding) (new : List ℕ) : Type 0 where
  pub there : IsSome (h.cell h.own)
  pub own : v.block_at h.own ≡ Some new
  pub same : (b : ℕ) (bytes : List ℕ) → b ≢ h.own → IsSome (h.cell b) → v.block_at b ≡ Some bytes → bytes_at h b ≡ bytes

pub rewritten : {V : Type 0} (seen : V → Seen) (old new : Drafted V) (dir : ℕ) (h : Holding) (lock : LockName) (bytes : List ℕ) → IsShown (seen_in seen old) dir h
    → new ≡ record old { fates = insert old.fates dir (Put lock false bytes) } → IsRewritten (seen_in seen new) h bytes
rewritten {V} seen old new dir h lock bytes shown is = record {
  there = shown.dinode;
  own = ap (λ (d : Drafted V). (seen_in seen d).block_at h.own) is ∙ ap after.block_at shown.own ∙ seen_at (seen old.view) old.fates dir lock bytes;
  same = λ b before other there at. shown.same b before there
      (sym (seen_apart (seen old.view) old.fates dir b lock bytes (λ e. other (e ∙ sym shown.own))) ∙ sym (ap (λ (d : Drafted V). (seen_in seen d).block_at b) is) ∙ at);
}
  where
    after : Seen
    after = seen_with (seen old.view) (insert old.fates dir (Put lock false bytes))

module _ (v : Seen) (h : Holding) (new : List ℕ) (is : IsRewritten v h new) where
  abbrev after : Holding
  after = holding_over v h

  pub part_same : (b : ℕ) → part_at after b ≡ part_at h b
  part_same b = over_part (v.block_at b) (h.cell b)

  pub bytes_new : bytes_at after h.own ≡ new
  bytes_new = over_put (v.block_at h.own) (h.cell h.own) new is.there is.own

  pub bytes_same : (b : ℕ) → b ≢ h.own → bytes_at after b ≡ bytes_at h b
  bytes_same b other = over_same (v.block_at b) (h.cell b) (λ bytes there at. is.same b bytes other there at)

  pub area_new : linear_area after ≡ drop dinode_length new
  area_new = ap (drop dinode_length) bytes_new

  pub dinode_new : (d : Dinode) → dinode_of new ≡ d → dinode_in after ≡ d
  unfolding dinode_in
  dinode_new d of = ap dinode_of bytes_new ∙ of

  pub count_same : block_count after ≡ block_count h
  unfolding block_count
  count_same = ap (λ (p : ℕ → Bool). count_by p (range_with_len 0 h.count)) (λ i b. over_there (v.block_at b) (h.cell b) i)

-- ---- and what was written is a directory again

-- the block has this dinode, but for its counts the one of before, and an area of records behind it
pub record IsWritten (h : Holding) (new : List ℕ) (d : Dinode) : Type 0 where
  pub long : length new ≡ h.size
  pub read : dinode_read new ≡ Ok d
  pub kept : uncounted d ≡ uncounted (dinode_in h)
  pub filled : IsArea (drop dinode_length new)

abbrev head_from : Dinode → Head
head_from d = record { number = d.num.number; is_dir = is_directory d }

module _ (v : Seen) (h : Holding) (d : Dinode) (area new : List ℕ) (d' : Dinode) (was : IsDirectoryOf h d area) (is : IsRewritten v h new) (written : IsWritten h new d') where
  abbrev anew : Holding
  anew = holding_over v h

  read_so : (header_fault dinode_length 4 400 new ≡ None) × (dinode_of new ≡ d')
  read_so = answer_ok (header_fault dinode_length 4 400 new) (dinode_of new) d' written.read

  pub dinode_is : dinode_in anew ≡ d'
  dinode_is = dinode_new v h new is d' read_so.1

  pub kept : uncounted (dinode_in anew) ≡ uncounted (dinode_in h)
  kept = ap uncounted dinode_is ∙ written.kept

  height_none : height_in anew ≡ 0
  height_none = ap (λ (x : Dinode). x.height) kept ∙ was.stuffed

  directory_still : is_directory_in anew ≡ true
  directory_still = ap is_directory kept ∙ was.directory

  linear_still : is_hashed_in anew ≡ false
  linear_still = ap (λ (x : Dinode). is_directory x && has_hash_flag x) kept ∙ was.linear

  size_same : dinode_length + (dinode_in anew).size ≡ h.size
  size_same = ap (λ (x : Dinode). dinode_length + x.size) kept ∙ was.size

  records_anew : records_of anew ≡ records_in (drop dinode_length new)
  unfolding records_of
  records_anew = rw linear_still (ap records_in (area_new v h new is))

  no_level : (x b k level first : ℕ) → IsInode h → part_at anew x ≡ Some (Pointed b k level first) → ⊥
  no_level x b k level first sound at =
      let low = sound.tree.below x b k level first (sym (part_same v h new is x) ∙ at) in
      absurd (omega (arith, low, was.stuffed))

  tree_still : IsInode h → HasTree anew
  tree_still sound = record {
    top = λ level high. absurd (omega (arith, high, height_none));
    inner = λ x b k level first at. absurd (no_level x b k (suc level) first sound at);
    pointed = λ x b k level first at. absurd (no_level x b k level first sound at);
    below = λ x b k level first at. absurd (no_level x b k level first sound at);
    indirect = λ x b k level first at. absurd (no_level x b k (suc level) first sound at);
    table = λ x b k first directory at. absurd (no_level x b k 0 first sound at);
  }

  fits_still : Fits anew
  fits_still = record {
    low = omega (arith, height_none);
    stuffed = λ none. omega (arith, size_same);
    under = λ level high. absurd (omega (arith, high, height_none));
  }

  whole_still : IsInode h → (b : ℕ) (p : Part) → part_at anew b ≡ Some p → length (bytes_at anew b) ≡ h.size
  whole_still sound b p at = elim (cases_eq b h.own) [
    | inl same ↦ ap (λ x. length (bytes_at anew x)) same ∙ ap length (bytes_new v h new is) ∙ written.long
    | inr other ↦ ap length (bytes_same v h new is b other) ∙ sound.whole b p (sym (part_same v h new is b) ∙ at)
  ]

  sound_still : (IsRecordArea (linear_area h) → IsRecordArea (drop dinode_length new)) → IsInode h → IsInode anew
  sound_still again sound = record {
    whole = whole_still sound;
    header = subst (HasHeader 4 400) (sym (bytes_new v h new is)) (header_from dinode_length 4 400 new read_so.0);
    address = ap (λ (x : Dinode). x.num.address) kept ∙ sound.address;
    number = λ none. sound.number (ap (λ (x : Dinode). x.num.number) (sym kept) ∙ none);
    mode = inl directory_still;
    links = λ file. absurd (both_ways (is_directory_in anew) file directory_still);
    fits = fits_still;
    tree = tree_still sound;
    linear = λ directory hashed. record {
      stuffed = height_none;
      size = size_same;
      area = subst IsRecordArea (sym (area_new v h new is)) (again (sound.linear was.directory was.linear).area);
    };
    hashed = λ hashed. absurd (both_ways (is_hashed_in anew) linear_still hashed);
    leafless = λ hashed x hash place at. sound.leafless was.linear x hash place (sym (part_same v h new is x) ∙ at);
    blocks = ap (λ (x : Dinode). x.blocks) kept ∙ sound.blocks ∙ sym (count_same v h new is);
  }

  pub exchanged : (gone come : List Record) → (IsRecordArea (linear_area h) → IsRecordArea (drop dinode_length new))
      → IsExchanged (records_in (linear_area h)) (records_in (drop dinode_length new)) gone come → IsCounted d d' gone come → HasExchanged h anew gone come
  exchanged gone come again records counted = record {
    sound = sound_still again;
    head = ap head_from kept;
    records = subst (λ rs. IsExchanged rs (records_of anew) gone come) (sym (records_are h d area was ∙ ap records_in was.records))
        (subst (λ rs. IsExchanged (records_in (linear_area h)) rs gone come) (sym records_anew) records);
    counted = subst (λ x. IsCounted x (dinode_in anew) gone come) was.dinode (subst (λ x. IsCounted d x gone come) (sym dinode_is) counted);
  }
