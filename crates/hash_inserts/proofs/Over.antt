-- What was inserted in a draft over a draft, once it is put into that.
use Rattle.std.proofs.Common.{◌≡◌, ◌⊎◌, ℕ, suc, ◌+◌, ◌^◌, ◌<◌, ◌≤◌, ◌∷◌, [], inl, inr, Bool, true, false, List, ◌++◌, length, take, drop, Option, None, Some, refl, sym, ap, ◌∙◌, subst, length-append, arith}
use Rattle.std.specs.Prelude.{IsSome, Contains}
use Rattle.std.proofs.lemmas.Bool.{cases_eq}
use Rattle.std.specs.Cmp.{nat_cmp_total}
use Rattle.std.specs.FinMap.{FinMap, empty, entries, get, get-empty, insert, nat_cmp-IsAntisymmetric}
use Rattle.std.specs.Ordering.{nat_cmp}
use Rattle.std.proofs.Math.Path.{fun_ext}
use Rattle.std.proofs.Math.Seq.{drop-append_seam, take-append_seam}
use Rattle.finite_maps.proofs.Keys.{inserted_at, inserted_apart}
use Rattle.crc_words.specs.Remainder.{crc32_of}
use Rattle.drafts.specs.Fates.{block_with, blocks_in, seen_with}
use Rattle.drafts.specs.declared.change.Written.{Written}
use Rattle.drafts.specs.declared.fate.Fate.{Fate}
use Rattle.drafts.specs.declared.fate.Fate.TheVariants.{Put}
use Rattle.gfs2_layout.specs.Holding.{Cell, Holding, Part, cell_part, bytes_at}
use Rattle.gfs2_layout.specs.Inode.{depth_in, entry, is_hashed_in, table_count}
use Rattle.glock_names.specs.Views.{Seen}
use Rattle.glock_names.specs.declared.LockName.{LockName}
use Rattle.glock_names.specs.declared.steps.Entry.{Entry}
use Rattle.dinode_tree.specs.Reading.{inode_lock}
use Rattle.resource_groups.specs.Putting.{HasDataBlock}
use Rattle.table_changes.specs.Pointers.{HasPointerOf}
use Rattle.nested_drafts.specs.Nested.{fate_over, with_blocks}
use Rattle.hash_steps.specs.Shown.{IsInChain, IsSound, index_for}
use Rattle.hash_steps.proofs.Chained.{index_low}
use Rattle.hash_steps.specs.Leaves.{HasOneLeaf, leaf_depth}
use Rattle.hash_inserts.specs.Committing.{HasInserted, HasPut, SeesInside}
use Rattle.hash_inserts.specs.Inserting as ins
use Rattle.hash_inserts.specs.Inserting.{HasNoRoom, HasOneLeafFor, Inserts, IsInsertedAt, IsSplitAt, MayChange, Takes, a_data_block, a_leaf_with_room, a_taken_one, one_taken, the_dinode, the_last_leaf, the_leaf, the_new_one}
use Rattle.hash_inserts.proofs.Pointing.{half_less, pointer_block, run_low}
use Rattle.hash_inserts.proofs.Seen.{PartsAreLed}
use Rattle.hash_inserts.proofs.SplitOn.{only_head}

-- two parts of a list, of which the second is so long
pub same_parts : (xs ys xs' ys' : List ℕ) → xs ++ ys ≡ xs' ++ ys' → length ys ≡ length ys' → (xs ≡ xs') × (ys ≡ ys')
same_parts xs ys xs' ys' e long =
    let front : length xs ≡ length xs' = omega (arith, ap length e, length-append xs ys, length-append xs' ys', long) in (
      sym (take-append_seam xs ys) ∙ ap (take (length xs)) e ∙ ap (λ n. take n (xs' ++ ys')) front ∙ take-append_seam xs' ys',
      sym (drop-append_seam xs ys) ∙ ap (drop (length xs)) e ∙ ap (λ n. drop n (xs' ++ ys')) front ∙ drop-append_seam xs' ys',
    )

-- ---- blocks that are put under a lock

-- what becomes of a block: what became of it before, or it is one of them and put under the lock
pub blocks_put : (lock : LockName) (ws : List Written) (below : FinMap nat_cmp Fate) (b : ℕ)
    → (get (with_blocks lock ws below) b ≡ get below b) ⊎ ((w : Written) × Contains ws w × (w.block ≡ b) × ((bytes : List ℕ) × (get (with_blocks lock ws below) b ≡ Some (Put lock false bytes))))
blocks_put lock [] below b = inl refl
blocks_put lock (w ∷ ws) below b = elim (blocks_put lock ws (insert below w.block (Put lock false w.bytes)) b) [
  | inr later ↦ inr (later.0, (suc later.1.0, omega (arith, later.1.1), later.1.2), later.2, later.3)
  | inl same ↦ elim (cases_eq b w.block) [
    | inl here ↦ inr (w, (0, omega arith, refl), sym here, (w.bytes, same ∙ ap (get (insert below w.block (Put lock false w.bytes))) here ∙ inserted_at nat_cmp_total nat_cmp-IsAntisymmetric below w.block (Put lock false w.bytes)))
    | inr apart ↦ inl (same ∙ inserted_apart nat_cmp_total nat_cmp-IsAntisymmetric below w.block (Put lock false w.bytes) b apart)
  ]
]

-- ---- a draft in which nothing was put

abbrev with_seen : Seen → (ℕ → Option (List ℕ)) → Seen
with_seen v at = record v { block_at = at }

pub seen_fresh : (v : Seen) → seen_with v empty ≡ v
seen_fresh v = ap (with_seen v) (fun_ext (λ b. ap (λ fate. block_with fate (v.block_at b)) (get-empty nat_cmp b)))

-- and one into which was put what was put in a draft over it
pub seen_put : (v : Seen) (below above : FinMap nat_cmp Fate) (lock : LockName) → ((b : ℕ) → (seen_with v (with_blocks lock (blocks_in (entries above)) below)).block_at b ≡ (seen_with (seen_with v below) above).block_at b)
    → seen_with v (with_blocks lock (blocks_in (entries above)) below) ≡ seen_with (seen_with v below) above
seen_put v below above lock same = ap (with_seen v) (fun_ext same)

abbrev nothing_put : FinMap nat_cmp Fate
nothing_put = empty

no_put : {A : Type 0} (f : Fate) → ◌≡◌ {A = Option Fate} None (Some f) → A
no_put f e = absurd (cc)

none_is : (o : Option Fate) (f : Fate) → o ≡ None → o ≡ Some f → ⊥
none_is o f none some = no_put f (sym none ∙ some)

same_bytes : (l l' : LockName) (p p' : Bool) (xs ys : List ℕ) → Some (Put l p xs) ≡ Some (Put l' p' ys) → xs ≡ ys
same_bytes l l' p p' xs ys e = cc

some_or_not : (c : Option Cell) → IsSome c ⊎ (IsSome c → ⊥)
some_or_not None = inr (λ e. cc)
some_or_not (Some c) = inl refl

part_of : (c : Option Cell) → IsSome c → (p : Part) × (cell_part c ≡ Some p)
part_of None some = cc
part_of (Some c) some = (c.part, refl)

module _ (v : Seen) (fates : FinMap nat_cmp Fate) (ws : List Written) (dir : ℕ) (room left taken : List ℕ) (IsOne : ℕ → Type 0) (h g : Holding) (has : HasPut v fates ws dir room left taken IsOne h g)
    (told : (above : FinMap nat_cmp Fate) (w : Written) → Contains (blocks_in (entries above)) w → (lock : LockName) × (plain : Bool) × (get above w.block ≡ Some (Put lock plain w.bytes))) where
  put_at : (w : Written) → Contains ws w → (lock : LockName) × (plain : Bool) × (get fates w.block ≡ Some (Put lock plain w.bytes))
  put_at w there = told fates w (subst (λ xs. Contains xs w) has.written there)

  kept : (b : ℕ) → get fates b ≡ get nothing_put b → get fates b ≡ None
  kept b same = same ∙ get-empty nat_cmp b

  -- each block that is put is a whole block
  pub whole_put : (w : Written) → Contains ws w → length w.bytes ≡ v.size
  whole_put w there =
      let put = put_at w there in
      elim (some_or_not (g.cell w.block)) [
        | inr none ↦ absurd (none_is (get fates w.block) (Put put.0 put.1 w.bytes) (kept w.block (has.takes.drafted.others w.block none)) put.2)
        | inl some ↦ elim (has.takes.drafted.own w.block some) [
          | inl same ↦ absurd (none_is (get fates w.block) (Put put.0 put.1 w.bytes) (kept w.block same.0) put.2)
          | inr is ↦
              let bytes : w.bytes ≡ bytes_at g w.block = same_bytes put.0 (inode_lock g.own) put.1 false w.bytes (bytes_at g w.block) (sym put.2 ∙ is) in
              let part = part_of (g.cell w.block) some in
              ap length bytes ∙ has.sound.inode.whole w.block part.0 part.1 ∙ has.shown.inode.size
        ]
      ]

  -- and one that may change
  pub inside_put : ((b : ℕ) → IsOne b → MayChange v dir taken b) → (w : Written) → Contains ws w → MayChange v dir taken w.block
  inside_put each w there = elim (has.takes.changes w.block) [
    | inl same ↦
        let put = put_at w there in
        absurd (none_is (get fates w.block) (Put put.0 put.1 w.bytes) (kept w.block same) put.2)
    | inr done ↦ each w.block done
  ]

  -- in the draft below the same blocks are taken, and nothing is done to others
  module _ (old : FinMap nat_cmp Fate) (over : (below above : FinMap nat_cmp Fate) (lock : LockName) (b : ℕ) → get (with_blocks lock (blocks_in (entries above)) below) b ≡ fate_over lock (get above b) (get below b)) where
    fate : (b : ℕ) → get (with_blocks (inode_lock dir) ws old) b ≡ fate_over (inode_lock dir) (get fates b) (get old b)
    fate b = ap (λ xs. get (with_blocks (inode_lock dir) xs old) b) has.written ∙ over old fates (inode_lock dir) b

    fate_kept : (b : ℕ) → get fates b ≡ get nothing_put b → get (with_blocks (inode_lock dir) ws old) b ≡ get old b
    fate_kept b same = fate b ∙ ap (λ o. fate_over (inode_lock dir) o (get old b)) (kept b same)

    pub takes_over : Takes old (with_blocks (inode_lock dir) ws old) room left taken IsOne h g
    takes_over = record {
      front = has.takes.front;
      has = has.takes.has;
      drafted = record {
        own = λ b there. elim (has.takes.drafted.own b there) [
          | inl same ↦ inl (fate_kept b same.0, same.1)
          | inr put ↦ inr (fate b ∙ ap (λ o. fate_over (inode_lock dir) o (get old b)) put ∙ ap (λ a. Some (Put (inode_lock a) false (bytes_at g b))) (sym has.shown.inode.own))
        ];
        others = λ b none. fate_kept b (has.takes.drafted.others b none);
      };
      changes = λ b. elim (has.takes.changes b) [
        | inl same ↦ inl (fate_kept b same)
        | inr done ↦ inr done
      ];
    }

-- ---- an insertion

-- a block with one of some pointers may change
pointer_may : (v : Seen) (dir : ℕ) (h : Holding) (taken : List ℕ) (from count b : ℕ) → h.own ≡ dir → IsSound h → is_hashed_in h ≡ true → PartsAreLed → SeesInside v h → from + count ≤ table_count h → HasPointerOf h from count b → MayChange v dir taken b
pointer_may v dir h taken from count b own sound hashed led tree within pointer = elim (pointer_block h from count b sound hashed within pointer) [
  | inl is ↦ the_dinode (is ∙ own)
  | inr at ↦ a_data_block (tree.below b (led h b at.0 at.1 0 at.2 sound.inode sound.placed.nobody at.3))
]

-- a block to which an insertion does something may change
pub may_insert : (v : Seen) (dir : ℕ) (h g : Holding) (name taken : List ℕ) → h.own ≡ dir → IsSound h → is_hashed_in h ≡ true → crc32_of name < 2 ^ 32 → PartsAreLed → ((place x : ℕ) → IsInChain h (index_for h name) place x → HasDataBlock v x)
    → (HasNoRoom h name → HasOneLeafFor h name → SeesInside v h) → (b : ℕ) → IsInsertedAt h g name taken b → MayChange v dir taken b
may_insert v dir h g name taken own sound hashed small led leaves tree b (ins.IsInsertedAt.its_dinode is) = the_dinode (is ∙ own)
may_insert v dir h g name taken own sound hashed small led leaves tree b (a_leaf_with_room place chain full room_there) = a_data_block (leaves place b chain)
may_insert v dir h g name taken own sound hashed small led leaves tree b (the_last_leaf place full chain ends) = a_data_block (leaves place b chain)
may_insert v dir h g name taken own sound hashed small led leaves tree b (one_taken came) = a_taken_one came
may_insert v dir h g name taken own sound hashed small led leaves tree b (ins.IsInsertedAt.of_pointers full one less pointer) =
    pointer_may v dir h taken _ _ b own sound hashed led (tree full one) (run_low h (index_for h name) sound hashed (index_low h sound hashed name small)) pointer
may_insert v dir h g name taken own sound hashed small led leaves tree b (ins.IsInsertedAt.of_table above k level first full one deeper part) =
    a_data_block ((tree full one).below b (led h b above k level first sound.inode sound.placed.nobody part))

pub put_of : (v : Seen) (fates : FinMap nat_cmp Fate) (ws : List Written) (dir : ℕ) (room left : List ℕ) (need : ℕ) (name : List ℕ) (e : Entry) (h g : Holding) → (has : HasInserted v fates ws dir room left need name e h g)
    → HasPut v fates ws dir room left has.inserts.taken (IsInsertedAt h g name has.inserts.taken) h g
put_of v fates ws dir room left need name e h g has = record { written = has.written; shown = has.shown; sound = has.inserts.sound; takes = has.inserts.takes }

-- the insertion that it is once other fates do the same to its blocks
pub inserts_with : (old new old' new' : FinMap nat_cmp Fate) (room left : List ℕ) (need : ℕ) (name : List ℕ) (e : Entry) (h g : Holding) (ins : Inserts old new room left need name e h g) → Takes old' new' room left ins.taken (IsInsertedAt h g name ins.taken) h g
    → Inserts old' new' room left need name e h g
inserts_with old new old' new' room left need name e h g ins takes = record { taken = ins.taken; few = ins.few; takes = takes; inserted = ins.inserted; exchanged = ins.exchanged; sound = ins.sound }

-- ---- a split

pub may_split : (v : Seen) (dir : ℕ) (h : Holding) (i block : ℕ) → h.own ≡ dir → IsSound h → is_hashed_in h ≡ true → PartsAreLed → i < table_count h → leaf_depth h i < depth_in h → HasDataBlock v (entry h i) → SeesInside v h → HasOneLeaf h i
    → (b : ℕ) → IsSplitAt h i block b → MayChange v dir (block ∷ []) b
may_split v dir h i block own sound hashed led low less leaf tree one b (ins.IsSplitAt.its_dinode is) = the_dinode (is ∙ own)
may_split v dir h i block own sound hashed led low less leaf tree one b (the_leaf chain) = a_data_block (subst (HasDataBlock v) (sym (only_head h i one 0 b chain)) leaf)
may_split v dir h i block own sound hashed led low less leaf tree one b (the_new_one is) = a_taken_one (subst (Contains (block ∷ [])) (sym is) (0, omega arith, refl))
may_split v dir h i block own sound hashed led low less leaf tree one b (ins.IsSplitAt.of_pointers pointer) =
    pointer_may v dir h (block ∷ []) _ _ b own sound hashed led tree (omega (arith, half_less h i less, run_low h i sound hashed low)) pointer
