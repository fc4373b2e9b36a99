-- What still holds of a directory a step of an insertion on.
use Rattle.std.proofs.Common.{◌≡◌, ◌⊎◌, ℕ, ◌+◌, ◌^◌, ◌<◌, ◌≤◌, inl, inr, Bool, true, false, List, [], ◌∷◌, ◌++◌, length, Option, None, Some, refl, sym, ap, ◌∙◌, subst, length-append, cond, arith}
use Rattle.std.specs.Prelude.{IsSome, count_by, find}
use Rattle.std.specs.FinMap.{FinMap}
use Rattle.std.specs.Ordering.{nat_cmp}
use Rattle.std.specs.Str.{bytes_eq}
use Rattle.std.proofs.lemmas.Bool.{true≢false}
use Rattle.std.proofs.lemmas.List.Sums.{sum_by-cons}
use Rattle.drafts.specs.Fates.{block_with, seen_with}
use Rattle.drafts.specs.declared.fate.Fate.{Fate}
use Rattle.gfs2_layout.specs.Holding.{Holding, Cell, InChain, Itself, Part, Pointed, cell_bytes, cell_part, part_at, bytes_at}
use Rattle.gfs2_layout.specs.Inode.{IsInode, is_leaf_part, records_of}
use Rattle.gfs2_layout.specs.Records.{record_named}
use Rattle.glock_names.specs.Views.{Seen, HasBlock}
use Rattle.growth_drafts.specs.Taken.{AreFreeFor, HasTaken}
use Rattle.growth_drafts.proofs.Rooms.{free_left}
use Rattle.hash_steps.specs.Shown.{IsShown, IsSound}
use Rattle.hash_steps.proofs.Chained.{cell_some}
use Rattle.hash_steps.specs.Laws.{Stays}
use Rattle.hash_steps.proofs.Put.{none_counted}
use Rattle.hash_steps.proofs.Sound.{count_moved}
use Rattle.linear_dirs.specs.Exchanges.{HasExchanged}
use Rattle.hash_inserts.specs.Advancing.{CanInsert, SeesTable}
use Rattle.hash_inserts.specs.Drafting.{Puts, SeesTree}
use Rattle.hash_inserts.specs.Inserting.{CanCountOne}
use Rattle.hash_inserts.specs.Needing.{TakesBlocks}
use Rattle.hash_inserts.proofs.Seen.{PartsAreLed, PointersAreParts}

-- ---- the name still isn't there

abbrev one_or_none : Bool → ℕ
one_or_none b = cond b 1 0

none_found : {X : Type 0} (test : X → Bool) (xs : List X) → count_by test xs ≡ 0 → find test xs ≡ None
none_found test [] none = refl
none_found test (x ∷ xs) none =
    let counted : cond (test x) 1 0 + count_by test xs ≡ 0 = sym (sum_by-cons (λ y. cond (test y) 1 0) x xs) ∙ none in
    by (test x) refl counted (none_found test xs (omega (arith, counted)))
  where
    by : (b : Bool) → test x ≡ b → cond (test x) 1 0 + count_by test xs ≡ 0 → find test xs ≡ None → find test (x ∷ xs) ≡ None
    by true is counted later = absurd (omega (arith, counted, ap one_or_none is))
    by false is counted later = ap (λ t. cond t (Some x) (find test xs)) is ∙ later

pub fresh_still : (h m : Holding) (name : List ℕ) → HasExchanged h m [] [] → record_named (records_of h) name ≡ None → record_named (records_of m) name ≡ None
fresh_still h m name exchanged fresh = none_found (λ r. bytes_eq name r.name) (records_of m) (
    sym (count_moved (λ r. bytes_eq name r.name) (records_of m) exchanged.records.rest exchanged.records.after)
    ∙ count_moved (λ r. bytes_eq name r.name) (records_of h) exchanged.records.rest exchanged.records.before ∙ none_counted (λ r. bytes_eq name r.name) (records_of h) fresh)

-- ---- the room

pub room_still : (h m : Holding) (taken room left : List ℕ) → AreFreeFor h room → room ≡ taken ++ left → HasTaken h m taken → AreFreeFor m left
room_still h m taken room left free front has =
    let on = free_left h m.cell taken room left free front (record { count = refl; blocks = has.blocks }) in
    record { some = on.some; once = on.once; inside = λ b there. subst (λ n. b < n) (sym has.count) (on.inside b there); new = on.new }

pub counts_still : (h m : Holding) → HasExchanged h m [] [] → CanCountOne h → CanCountOne m
counts_still h m exchanged can = record {
  records = omega (arith, exchanged.counted.entries, can.records);
  links = omega (arith, exchanged.counted.links, can.links);
}

pub can_still : (v w : Seen) (dir : ℕ) (h m : Holding) (name taken room left : List ℕ) (need rest : ℕ) → CanInsert v dir h name room need → IsShown w dir m → Stays h m → HasTaken h m taken → room ≡ taken ++ left → need ≡ length taken + rest
    → TakesBlocks m name rest → CanInsert w dir m name left rest
can_still v w dir h m name taken room left need rest can shown stays has front all takes = record {
  shown = shown;
  sound = stays.sound;
  counts = counts_still h m stays.records can.counts;
  small = can.small;
  fresh = fresh_still h m name stays.records can.fresh;
  few = subst (λ n. n < 2 ^ 64) (sym has.count) can.few;
  free = room_still h m taken room left can.free front has;
  takes = takes;
  enough = omega (arith, can.enough, all, ap length front, length-append taken left);
}

-- ---- what is there

some_or_none : (c : Option Cell) → IsSome c ⊎ (IsSome c → ⊥)
some_or_none None = inr (λ e. cc)
some_or_none (Some c) = inl refl

no_bytes : (c : Option Cell) → (IsSome c → ⊥) → cell_bytes c ≡ []
no_bytes None none = refl
no_bytes (Some c) none = absurd (none refl)

part_of : (c : Option Cell) → IsSome c → (p : Part) × (cell_part c ≡ Some p)
part_of None some = cc
part_of (Some c) some = (c.part, refl)

-- a block that came is there, since it is a whole block
pub came_there : (v : Seen) (old new : FinMap nat_cmp Fate) (h m : Holding) → Puts v old new h m → 512 ≤ m.size → ((b : ℕ) (p : Part) → part_at m b ≡ Some p → length (bytes_at m b) ≡ m.size)
    → (b : ℕ) → IsSome (m.cell b) → (IsSome (h.cell b) → HasBlock (seen_with v old) b) → HasBlock (seen_with v new) b
came_there v old new h m puts large whole b some had = elim (some_or_none (h.cell b)) [
  | inl was ↦ puts.there b (had was)
  | inr none ↦ elim (puts.drafted.own b some) [
    | inr put ↦ (bytes_at m b, ap (λ f. block_with f (v.block_at b)) put)
    | inl same ↦
        let part = part_of (m.cell b) some in
        absurd (omega (arith, whole b part.0 part.1, ap length (same.1 ∙ no_bytes (h.cell b) none), large))
  ]
]

pub table_still : (v : Seen) (old new : FinMap nat_cmp Fate) (h m : Holding) → Puts v old new h m → 512 ≤ m.size → IsInode m → ((b : ℕ) → IsSome (h.cell b) → is_leaf_part (part_at h b) ≡ true → is_leaf_part (part_at m b) ≡ true)
    → SeesTable (seen_with v old) h → SeesTable (seen_with v new) m
table_still v old new h m puts large inode leaves sees b some no_leaf = came_there v old new h m puts large inode.whole b some (λ had. sees b had (was_none (is_leaf_part (part_at h b)) (is_leaf_part (part_at m b)) (leaves b had) no_leaf))
  where
    was_none : (x y : Bool) → (x ≡ true → y ≡ true) → y ≡ false → x ≡ false
    was_none true y follows none = absurd (true≢false (sym (follows refl) ∙ none))
    was_none false y follows none = refl

-- ---- each block of the table, by pointers and by parts

pub by_parts : PartsAreLed → (v : Seen) (h : Holding) → IsSound h → SeesTree v h → SeesTable v h
by_parts led v h sound sees b some no_leaf = by (part_at h b) refl no_leaf
  where
    by : (p : Option Part) → part_at h b ≡ p → is_leaf_part p ≡ false → HasBlock v b
    by None is none = absurd (no (h.cell b) some is)
      where
        no : (c : Option Cell) → IsSome c → cell_part c ≡ None → ⊥
        no None there e = cc
        no (Some c) there e = cc
    by (Some Itself) is none = subst (HasBlock v) (sym (sound.placed.only b is)) sees.own
    by (Some (Pointed from k level first)) is none = sees.below b (led h b from k level first sound.inode sound.placed.nobody is)
    by (Some (InChain hash place)) is none = absurd (true≢false none)

pub by_pointers : PointersAreParts → (v : Seen) (h : Holding) → IsSound h → SeesTable v h → SeesTree v h
by_pointers parts v h sound sees = record {
  own = sees h.own (cell_some (h.cell h.own) Itself sound.placed.own) (ap is_leaf_part sound.placed.own);
  below = λ b below.
      let p = parts h b sound.inode below in
      sees b (cell_some (h.cell b) (Pointed p.0 p.1 p.2 p.3) p.4) (ap is_leaf_part p.4);
}
