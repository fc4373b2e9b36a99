-- Blocks of one draft that are put into another.
use Rattle.std.proofs.Common.{◌≡◌, ◌↔◌, ◌⊎◌, ℕ, suc, ◌+◌, ◌-◌, ◌*◌, ◌/◌, ◌^◌, inl, inr, Bool, true, false, List, ◌++◌, length, take, drop, Option, None, Some, refl, sym, ap, ap₂, ◌∙◌, subst, arith}
use Rattle.std.specs.Prelude.{Contains, IsSome, IsSomeAnd}
use Rattle.std.specs.FinMap.{FinMap, get}
use Rattle.std.specs.Ordering.{nat_cmp}
use Rattle.std.proofs.lemmas.List.{drop_at, length-append, take_at}
use Rattle.drafts.specs.Fates.{Drafted, block_with, seen_in}
use Rattle.drafts.specs.declared.change.Written.{Written}
use Rattle.drafts.specs.declared.fate.Fate.{Fate}
use Rattle.drafts.specs.declared.fate.Fate.TheVariants.{Put}
use Rattle.gfs2_layout.specs.Device.{IsBlockSize}
use Rattle.gfs2_layout.specs.Holding.{Cell, Holding, InChain, Itself, Part, Pointed, cell_part, bytes_at, part_at}
use Rattle.gfs2_layout.specs.Inode.{dinode_in}
use Rattle.gfs2_layout.specs.declared.dinode.Dinode.{Dinode}
use Rattle.glock_names.specs.Views.{Seen}
use Rattle.glock_names.specs.declared.LockName.{LockName}
use Rattle.dinode_tree.specs.Below.{IsBelow, TellsOfBlock}
use Rattle.dinode_tree.specs.Reading.{inode_lock}
use Rattle.dinode_tree.specs.Shown as inode
use Rattle.dinode_tree.specs.declared.below.PointedBlock.{PointedBlock}
use Rattle.dinode_tree.proofs.Sound.{is_there, part_of_led, size_large}
use Rattle.pointer_tables.specs.Directories.{IsPlaced, IsTreeSound}
use Rattle.table_files.specs.Tables.{DraftsDirectory, TakesDoubled, TakesWithin}
use Rattle.table_files.proofs.ContentParts.{whole_by_parts}
use Rattle.nested_drafts.specs.Nested.{fate_over, with_blocks}
use Rattle.nested_drafts.proofs.Over.{fates_put, kept_or_put, told_put}
use Rattle.table_changes.specs.Doubling.{AreDoubledBlocks, IsOfTable}
use Rattle.table_files.specs.TreePointers.{IsTableOf}
use Rattle.table_files.specs.tree_table.TreeTable.{TreeTable}
use Rattle.table_changes.proofs.Below.{below_of_part}

pub contradict : {A : Type 0} (b : Bool) → b ≡ true → b ≡ false → A
contradict b holds fails = let both : true ≡ false = sym holds ∙ fails in absurd (cc)

pub none_and : {A : Type 0} (o : Option A) (P : A → Type 0) → o ≡ None → IsSomeAnd o P → ⊥
none_and None P none holds = holds
none_and (Some x) P none holds = let never : Some x ≡ None = none in absurd (cc)

pub some_at : {A : Type 0} (o : Option A) (x : A) (P : A → Type 0) → o ≡ Some x → IsSomeAnd o P → P x
some_at {A} o x P some holds = subst (λ (q : Option A). IsSomeAnd q P) some holds

-- where each block that was put is one of the directory's, or of the room's front, nothing becomes of any other
pub takes_within : (h : Holding) (lock : LockName) (ws : List Written) (old new : FinMap nat_cmp Fate) (directory : ℕ) (below : List PointedBlock) (room taken left : List ℕ) → h.own ≡ directory → ((b : ℕ) → TellsOfBlock below b ↔ IsBelow h b)
    → room ≡ taken ++ left → ((w : Written) → Contains ws w → IsOfTable directory below taken w.block) → new ≡ with_blocks lock ws old → TakesWithin old new room left h
takes_within h lock ws old new directory below room taken left own tells front each put = record {
  taken = taken;
  front = front;
  changes = λ b. elim (kept_or_put lock ws old b) [
    | inl kept ↦ inl (ap (λ fates. get fates b) put ∙ kept)
    | inr one ↦ inr (elim (each one.0 one.1) [
      | inl is ↦ inl (sym one.2 ∙ is ∙ sym own)
      | inr other ↦ elim other [
        | inl told ↦ inr (inl (subst (IsBelow h) one.2 ((tells one.0.block).0 told)))
        | inr took ↦ inr (inr (subst (Contains taken) one.2 took))
      ]
    ])
  ];
}

-- ---- the blocks of a table that is doubled

some_of : (c : Option Cell) → IsSome c → (p : Part) × (cell_part c ≡ Some p)
some_of None there = let never : false ≡ true = there in absurd (cc)
some_of (Some c) there = (c.part, refl)

same_bytes : (l l' : LockName) (p p' : Bool) (xs ys : List ℕ) → Some (Put l p xs) ≡ Some (Put l' p' ys) → xs ≡ ys
same_bytes l l' p p' xs ys e = cc

no_put : {A : Type 0} (f : Fate) → ◌≡◌ {A = Option Fate} None (Some f) → A
no_put f e = absurd (cc)

cell_cases : (c : Option Cell) → IsSome c ⊎ (IsSome c → ⊥)
cell_cases None = inr (λ there. let never : false ≡ true = there in absurd (cc))
cell_cases (Some c) = inl refl

module _ (h : Holding) (room left : List ℕ) (ws : List Written) (made : AreDoubledBlocks h room left ws) where
  pub whole_blocks : (w : Written) → Contains ws w → length w.bytes ≡ h.size
  whole_blocks w has =
      let is = told_put made.fates w (subst (λ xs. Contains xs w) made.written has) in
      let at : get made.fates w.block ≡ Some (Put is.0 is.1 w.bytes) = is.2 in
      elim (cell_cases (made.g.cell w.block)) [
        | inr none ↦ no_put (Put is.0 is.1 w.bytes) (sym (made.others w.block none) ∙ at)
        | inl there ↦ elim (made.each w.block there) [
          | inl kept ↦ no_put (Put is.0 is.1 w.bytes) (sym kept.0 ∙ at)
          | inr put ↦
              let same : w.bytes ≡ bytes_at made.g w.block = same_bytes is.0 put.0 is.1 put.1 w.bytes (bytes_at made.g w.block) (sym at ∙ put.2) in
              let part = some_of (made.g.cell w.block) there in
              ap length same ∙ made.doubled.sound.whole w.block part.0 part.1 ∙ made.doubled.size
        ]
      ]

  -- each of them is the directory's own, one below it, or one that was taken
  pub blocks_within : IsTreeSound h → IsPlaced h → (w : Written) → Contains ws w → (w.block ≡ h.own) ⊎ (IsBelow h w.block ⊎ Contains made.taken w.block)
  blocks_within sound placed w has =
      let is = told_put made.fates w (subst (λ xs. Contains xs w) made.written has) in
      let at : get made.fates w.block ≡ Some (Put is.0 is.1 w.bytes) = is.2 in
      elim (cell_cases (made.g.cell w.block)) [
        | inr none ↦ no_put (Put is.0 is.1 w.bytes) (sym (made.others w.block none) ∙ at)
        | inl there ↦ elim ((made.has.blocks w.block).0 there) [
          | inr took ↦ inr (inr took)
          | inl was ↦ by (some_of (h.cell w.block) was).0 (some_of (h.cell w.block) was).1 (Put is.0 is.1 w.bytes) at
        ]
      ]
    where
      by : (p : Part) → part_at h w.block ≡ Some p → (f : Fate) → get made.fates w.block ≡ Some f → (w.block ≡ h.own) ⊎ (IsBelow h w.block ⊎ Contains made.taken w.block)
      by Itself part f at = inl (placed.only w.block part)
      by (Pointed from k level first) part f at = inr (inl (below_of_part h sound.tree placed.nobody w.block from k level first part))
      by (InChain hash place) part f at = no_put f (sym (made.leaves w.block hash place part) ∙ at)

  -- as many are gone from the room's front as were taken
  pub taken_is : take (length room - length left) room ≡ made.taken
  taken_is = ap (λ xs. take (length xs - length left) xs) made.front ∙ ap (λ n. take n (made.taken ++ left)) (omega (arith, length-append made.taken left)) ∙ take_at made.taken left (length made.taken) refl

  pub left_is : drop (length room - length left) room ≡ left
  left_is = ap (λ xs. drop (length xs - length left) xs) made.front ∙ ap (λ n. drop n (made.taken ++ left)) (omega (arith, length-append made.taken left)) ∙ drop_at made.taken left (length made.taken) refl

  -- so the list of those below the dinode tells of it, or it is one of the room's front
  pub are_of : IsTreeSound h → IsPlaced h → (directory : ℕ) (below : List PointedBlock) (taken : List ℕ) → h.own ≡ directory → ((b : ℕ) → TellsOfBlock below b ↔ IsBelow h b) → taken ≡ take (length room - length left) room
      → (w : Written) → Contains ws w → IsOfTable directory below taken w.block
  are_of sound placed directory below taken own tells front w has = elim (blocks_within sound placed w has) [
    | inl is ↦ inl (is ∙ own)
    | inr other ↦ elim other [
      | inl led ↦ inr (inl ((tells w.block).1 led))
      | inr took ↦ inr (inr (subst (λ xs. Contains xs w.block) (sym (front ∙ taken_is)) took))
    ]
  ]

  module _ {V : Type 0} (seen : V → Seen) (old new : Drafted V) (t : TreeTable) (table : IsTableOf t (seen_in seen old) h) (block_size : IsBlockSize (seen_in seen old).size)
      (put : new ≡ record old { fates = with_blocks (inode_lock t.directory) ws old.fates }) where
    abbrev lock : LockName
    lock = inode_lock t.directory

    fate : (b : ℕ) → get new.fates b ≡ fate_over lock (get made.fates b) (get old.fates b)
    fate b = ap (λ (d : Drafted V). get d.fates b) put ∙ ap (λ xs. get (with_blocks lock xs old.fates) b) made.written ∙ fates_put lock made.fates old.fates b

    fate_kept : (b : ℕ) → get made.fates b ≡ None → get new.fates b ≡ get old.fates b
    fate_kept b none = fate b ∙ ap (λ o. fate_over lock o (get old.fates b)) none

    fate_put : (b : ℕ) (l : LockName) (plain : Bool) (bytes : List ℕ) → get made.fates b ≡ Some (Put l plain bytes) → get new.fates b ≡ Some (Put lock false bytes)
    fate_put b l plain bytes at = fate b ∙ ap (λ o. fate_over lock o (get old.fates b)) at

    view_is : new.view ≡ old.view
    view_is = ap (λ (d : Drafted V). d.view) put

    own_g : lock ≡ inode_lock made.g.own
    own_g = ap inode_lock (sym table.shown.own ∙ sym made.doubled.own)

    drafted : DraftsDirectory old.fates new.fates h made.g
    drafted = record {
      own = λ b there. elim (made.each b there) [
        | inl kept ↦ inl (fate_kept b kept.0, kept.2)
        | inr put' ↦ inr (fate_put b put'.0 put'.1 (bytes_at made.g b) put'.2 ∙ ap (λ l. Some (Put l false (bytes_at made.g b))) own_g)
      ];
      others = λ b none. fate_kept b (made.others b none);
    }

    as_seen : inode.IsAsSeen (seen_in seen new) made.g
    as_seen b bytes there at = elim (made.each b there) [
      | inl kept ↦
          let same : (seen_in seen new).block_at b ≡ (seen_in seen old).block_at b = ap₂ (λ o (w : V). block_with o ((seen w).block_at b)) (fate_kept b kept.0) view_is in
          kept.2 ∙ table.shown.same b bytes kept.1 (sym same ∙ at)
      | inr put' ↦
          let has : (seen_in seen new).block_at b ≡ Some (bytes_at made.g b) = ap (λ o. block_with o ((seen new.view).block_at b)) (fate_put b put'.0 put'.1 (bytes_at made.g b) put'.2) in
          some_same (bytes_at made.g b) bytes (sym has ∙ at)
    ]
      where
        some_same : (xs ys : List ℕ) → Some xs ≡ Some ys → xs ≡ ys
        some_same xs ys e = cc

    pub takes_doubled : TakesDoubled old.fates new.fates room left h made.g
    takes_doubled = record {
      taken = made.taken;
      doubled = made.doubled;
      has = made.has;
      needed = made.needed;
      front = made.front;
      drafted = drafted;
      pads = made.pads;
      headers = made.headers;
      clear = made.clear;
      grown = made.grown;
    }

    module _ (t' : TreeTable) (directory : t'.directory ≡ t.directory) (depth : t'.depth ≡ t.depth + 1) where
      depth_g : t'.depth ≡ (dinode_in made.g).depth
      depth_g = depth ∙ ap (λ n. n + 1) table.depth ∙ sym (ap (λ (d : Dinode). d.depth) made.doubled.dinode)

      twofold : (n : ℕ) → 2 ^ (n + 1) ≡ 2 * 2 ^ n
      twofold n = let next : n + 1 ≡ suc n = omega arith in ap (λ m. 2 ^ m) next ∙ omega arith

      power : 2 ^ t'.depth ≡ 2 * 2 ^ t.depth
      power = ap (λ n. 2 ^ n) depth ∙ twofold t.depth

      size_g : IsBlockSize made.g.size
      size_g = subst IsBlockSize (sym (made.doubled.size ∙ table.shown.size)) block_size

      pub table_after : IsTableOf t' (seen_in seen new) made.g
      table_after = record {
        shown = record {
          own = made.doubled.own ∙ table.shown.own ∙ sym directory;
          size = made.doubled.size ∙ table.shown.size ∙ ap (λ (w : V). (seen w).size) (sym view_is);
          dinode = is_there (made.g.cell made.g.own) Itself made.doubled.placed.own;
          led_to = λ from k level first c leads. is_there (made.g.cell c) _ (part_of_led made.g from k level first c made.doubled.sound.tree leads);
          same = as_seen;
        };
        hashed = made.hashed;
        depth = depth_g;
        least = omega (arith, table.least, power, ap (λ n. n / 16) made.doubled.size);
        size = ap (λ (d : Dinode). d.size) made.doubled.dinode ∙ omega (arith, table.size, power);
        whole = λ at. whole_by_parts made.g made.doubled.sound (size_large made.g.size size_g) at;
      }
