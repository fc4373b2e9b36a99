-- A directory after its table was doubled in a draft.
use Rattle.std.proofs.Common.{◌≡◌, ◌⊎◌, ℕ, ◌*◌, ◌^◌, ◌<◌, ◌≤◌, inl, inr, true, List, [], length, Option, None, Some, refl, sym, ap, ◌∙◌, subst, arith}
use Rattle.std.specs.Prelude.{IsSome}
use Rattle.std.specs.FinMap.{FinMap}
use Rattle.std.specs.Ordering.{nat_cmp}
use Rattle.drafts.specs.Fates.{Drafted, block_with, seen_in, seen_with}
use Rattle.drafts.specs.declared.fate.Fate.{Fate}
use Rattle.gfs2_layout.specs.Holding.{Holding, Cell, InChain, cell_bytes, cell_part, Part, part_at, bytes_at}
use Rattle.gfs2_layout.specs.Inode.{depth_in, entry, first_hash, is_hashed_in, table_count}
use Rattle.gfs2_layout.specs.declared.dinode.Dinode.{Dinode}
use Rattle.glock_names.specs.Views.{Seen, HasBlock}
use Rattle.dinode_tree.specs.Shown.{IsAsSeen}
use Rattle.growth_drafts.specs.Taken.{AreFreeFor}
use Rattle.table_changes.specs.Tables.{CanDouble, TakesDoubled, TakesWithin, doubling_need_of}
use Rattle.hash_steps.specs.Shown.{IsShown, IsSound}
use Rattle.hash_steps.proofs.Chained.{rules}
use Rattle.hash_steps.proofs.Indexes.{some_pow}
use Rattle.hash_steps.specs.Laws.{DoublingsStay, Stays}
use Rattle.hash_steps.proofs.Sound.{tree_of}
use Rattle.hash_inserts.specs.Drafting.{DoublesTable}
use Rattle.hash_inserts.proofs.Blockwise.{size_bounds}
use Rattle.hash_inserts.proofs.Seen.{pointers_lead}
use Rattle.hash_inserts.proofs.Showing.{SoundAreShown, shown_of}

pub can_double : (h : Holding) (room : List ℕ) → IsSound h → is_hashed_in h ≡ true → h.count < 2 ^ 64 → 2 * table_count h ≤ 8 * h.size → AreFreeFor h room → doubling_need_of h ≤ length room → CanDouble h room
can_double h room sound hashed few greatest free enough = record { few = few; sound = tree_of h sound.inode; placed = sound.placed; leads = pointers_lead h sound hashed; greatest = greatest; free = free; enough = enough }

some_or_none : (c : Option Cell) → IsSome c ⊎ (IsSome c → ⊥)
some_or_none None = inr (λ e. cc)
some_or_none (Some c) = inl refl

no_bytes : (c : Option Cell) → (IsSome c → ⊥) → cell_bytes c ≡ []
no_bytes None none = refl
no_bytes (Some c) none = absurd (none refl)

part_of : (c : Option Cell) → IsSome c → (p : Part) × (cell_part c ≡ Some p)
part_of None some = cc
part_of (Some c) some = (c.part, refl)

one_bytes : (x y : List ℕ) → Some x ≡ Some y → x ≡ y
one_bytes x y e = cc

module _ (v : Seen) (old new : FinMap nat_cmp Fate) (room left : List ℕ) (h g : Holding) (large : 512 ≤ h.size) (size : g.size ≡ h.size) (own : g.own ≡ h.own) (takes : TakesDoubled old new room left h g) (within : TakesWithin old new room left h) where
  -- a block that was taken is put, since it is a whole block
  not_left : (b : ℕ) → IsSome (g.cell b) → (IsSome (h.cell b) → ⊥) → bytes_at g b ≡ bytes_at h b → ⊥
  not_left b some none same =
      let part = part_of (g.cell b) some in
      absurd (omega (arith, takes.doubled.sound.whole b part.0 part.1, ap length (same ∙ no_bytes (h.cell b) none), size, large))

  there : (b : ℕ) → HasBlock (seen_with v old) b → HasBlock (seen_with v new) b
  there b has = elim (some_or_none (g.cell b)) [
    | inr none ↦ (has.0, ap (λ f. block_with f (v.block_at b)) (takes.drafted.others b none) ∙ has.1)
    | inl some ↦ elim (takes.drafted.own b some) [
      | inl same ↦ (has.0, ap (λ f. block_with f (v.block_at b)) same.0 ∙ has.1)
      | inr put ↦ (bytes_at g b, ap (λ f. block_with f (v.block_at b)) put)
    ]
  ]

  seen : IsAsSeen (seen_with v old) h → IsAsSeen (seen_with v new) g
  seen was b bytes some at = elim (takes.drafted.own b some) [
    | inr put ↦ one_bytes (bytes_at g b) bytes (sym (ap (λ f. block_with f (v.block_at b)) put) ∙ at)
    | inl same ↦ elim (some_or_none (h.cell b)) [
      | inl had ↦ same.1 ∙ was b bytes had (ap (λ f. block_with f (v.block_at b)) (sym same.0) ∙ at)
      | inr none ↦ absurd (not_left b some none same.1)
    ]
  ]

  pub doubles : DoublesTable v old new room left h g
  doubles = record {
    puts = record { own = own; drafted = takes.drafted; seen = seen; there = there; keeps = λ b some. (takes.has.blocks b).1 (inl some) };
    takes = takes;
    within = within;
  }

-- ---- in a draft

module _ {V : Type 0} (seen : V → Seen) (old now : Drafted V) (dir : ℕ) (room left : List ℕ) (h g : Holding) (shown : IsShown (seen_in seen old) dir h) (sound : IsSound h) (deep : 2 * table_count h ≤ 8 * h.size)
    (takes : TakesDoubled old.fates now.fates room left h g) (within : TakesWithin old.fates now.fates room left h) (view : now.view ≡ old.view) (law : SoundAreShown) (stay : DoublingsStay) where
  own_is : g.own ≡ h.own
  own_is = sym takes.doubled.sound.address ∙ ap (λ (d : Dinode). d.num.address) takes.doubled.dinode ∙ sound.inode.address

  first : part_at h (entry h 0) ≡ Some (InChain (first_hash h 0) 0)
  first = (rules h sound shown.hashed).leads 0 (some_pow (depth_in h))

  cell : g.cell (entry h 0) ≡ h.cell (entry h 0)
  cell = takes.doubled.stays.leaves (entry h 0) (first_hash h 0) 0 first

  size_is : g.size ≡ h.size
  size_is = sym (takes.doubled.sound.whole (entry h 0) (InChain (first_hash h 0) 0) (ap cell_part cell ∙ first)) ∙ ap (λ (c : Option Cell). length (cell_bytes c)) cell
      ∙ sound.inode.whole (entry h 0) (InChain (first_hash h 0) 0) first

  doubled_puts : DoublesTable (seen old.view) old.fates now.fates room left h g
  doubled_puts = doubles (seen old.view) old.fates now.fates room left h g (size_bounds h.size sound.block_size).0 size_is own_is takes within

  stays : Stays h g
  stays = stay h g takes.taken sound shown.hashed deep takes.doubled

  is_shown : IsShown (seen_in seen now) dir g
  is_shown = shown_of law (seen_in seen now) g dir stays.sound stays.hashed (own_is ∙ shown.inode.own) (size_is ∙ shown.inode.size ∙ sym (ap (λ y. (seen y).size) view))
      (subst (λ s. IsAsSeen s g) (sym (ap (λ y. seen_with (seen y) now.fates) view)) (doubled_puts.puts.seen shown.inode.same))

  pub doubled_all : (Shows : Seen → Holding → Type 0) → Shows (seen_in seen now) g
      → (k : Holding) × DoublesTable (seen old.view) old.fates now.fates room left h k × IsShown (seen_in seen now) dir k × Shows (seen_in seen now) k × Stays h k
  doubled_all Shows shows = (g, doubled_puts, is_shown, shows, stays)
