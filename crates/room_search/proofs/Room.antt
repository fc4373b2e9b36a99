-- What is taken of the groups that come first, or of all, under which locks.
use Rattle.std.proofs.Common.{◌≡◌, Result, Ok, Err, inl, inr, ℕ, ◌<◌, ◌≤◌, ◌==◌, true, List, [], ◌∷◌, ◌++◌, length, map, take, sym, ap, subst, ◌∙◌, arith}
use Rattle.std.proofs.lemmas.Bool.{cond-true, cond-false, lt-ltb, le-ltb, ne_eqb}
use Rattle.std.proofs.lemmas.List.{append-nil, length-take-le}
use Rattle.std.proofs.lemmas.List.Elements.{All-append}
use Rattle.std.specs.Prelude.{Contains, IfOk, Vec, if◌then◌else◌}
use Rattle.std.specs.declared.alloc.Global.{Global}
use Rattle.glock_names.specs.Views.{Seen, IsView, HasGroup, Rise}
use Rattle.glock_names.specs.declared.LockName.{LockName}
use Rattle.glock_names.specs.declared.State.{State}
use Rattle.glock_names.specs.declared.steps.CallFault.{CallFault}
use Rattle.glock_names.specs.declared.steps.Missing.{Missing}
use Rattle.glock_names.specs.declared.views.Group.{Group}
use Rattle.image_model.proofs.Members.{IsIn, contained, from_flat_map, in_right, is_in}
use Rattle.image_model.proofs.Rising.{Rising}
use Rattle.path_walks.specs.Holds.{Hold, AreHeld, IsFirstLack, holds, hold_of_group}
use Rattle.path_walks.proofs.Longer.{lack_before, lack_behind}
use Rattle.room_search.specs.Blocks.{States, first_holds, free_first, free_in, free_in_all, have_too_few}
use Rattle.room_search.specs.Parts.{AreGroupsOf, IsFrontOf}
use Rattle.room_search.specs.Searches.{IsGroupBlock, IsRoomOf, IsTakenOf, IsTold, IsUnder}
use Rattle.room_search.specs.declared.search.Locked.{Locked}
use Rattle.room_search.specs.declared.search.Locked.TheVariants as locked
use Rattle.room_search.specs.declared.search.Taken.{Taken}
use Rattle.room_search.specs.declared.search.Taken.TheVariants as taken
use Rattle.room_search.proofs.Free.{all_rise, from_free}
use Rattle.room_search.proofs.Holds.{block_before, block_behind, group_listed, group_needed, held_in, held_behind}
use Rattle.room_search.proofs.Lists.{from_take, rising_take, unrise}

-- what follows of an answer
pub ok_so : {A : Type 0} (P Q : A → Type 0) (r : Result A CallFault) → ((a : A) → P a → Q a) → IfOk r P → IfOk r Q
ok_so P Q (Ok a) from is = from a is
ok_so P Q (Err f) from is = tt

-- ---- the locks

module _ (says : States) (groups first : List Group) (need : ℕ) where
  abbrev pub further : List Hold
  further = if have_too_few says first need then map hold_of_group groups else []

  pub holds_some : (need ≡ 0 → ⊥) → first_holds says groups first need ≡ map hold_of_group first ++ further
  holds_some some = cond-false (need == 0) [] (map hold_of_group first ++ further) (ne_eqb need 0 some)

  pub further_all : length (free_in_all says first) < need → further ≡ map hold_of_group groups
  further_all few = cond-true (have_too_few says first need) (map hold_of_group groups) [] (lt-ltb (length (free_in_all says first)) need few)

  pub further_none : need ≤ length (free_in_all says first) → further ≡ []
  further_none enough = cond-false (have_too_few says first need) (map hold_of_group groups) [] (le-ltb (length (free_in_all says first)) need enough)

  pub for_first : need ≤ length (free_in_all says first) → free_first says groups first need ≡ take need (free_in_all says first)
  for_first enough = ap (take need) (cond-false (have_too_few says first need) (free_in_all says groups) (free_in_all says first) (le-ltb (length (free_in_all says first)) need enough))

  pub for_all : length (free_in_all says first) < need → free_first says groups first need ≡ take need (free_in_all says groups)
  for_all few = ap (take need) (cond-true (have_too_few says first need) (free_in_all says groups) (free_in_all says first) (lt-ltb (length (free_in_all says first)) need few))

-- a group of the view alone
pub one_of : (v : Seen) (own : Group) → HasGroup v own → AreGroupsOf v (own ∷ [])
one_of v own has g there = elim (is_in g (own ∷ []) there) [ inl same ↦ subst (HasGroup v) (sym same) has | inr none ↦ absurd none ]

-- ---- the blocks

module _ (v : Seen) (says : States) (first : List Group) (need : ℕ) (some : need ≡ 0 → ⊥) where
  first_alone : need ≤ length (free_in_all says first) → first_holds says v.groups first need ≡ map hold_of_group first
  first_alone enough =
      holds_some says v.groups first need some ∙ ap (λ list. map hold_of_group first ++ list) (further_none says v.groups first need enough) ∙ append-nil (map hold_of_group first)

  all_holds : length (free_in_all says first) < need → first_holds says v.groups first need ≡ map hold_of_group first ++ map hold_of_group v.groups
  all_holds few = holds_some says v.groups first need some ∙ ap (λ list. map hold_of_group first ++ list) (further_all says v.groups first need few)

  first_room : (blocks : List ℕ) → AreGroupsOf v first → Rise v.size 0 first → blocks ≡ take need (free_in_all says first) → need ≤ length (free_in_all says first) → IsRoomOf v says v.groups first need blocks
  first_room blocks of_view rise are enough = record {
    are = are ∙ sym (for_first says v.groups first need enough);
    many = ap length are ∙ length-take-le need (free_in_all says first) enough;
    rise = unrise blocks (subst Rising (sym are) (rising_take need (free_in_all says first) (all_rise says v.size 0 first rise)));
    each = λ b there.
        let of = from_flat_map (free_in says) b first (from_take need (free_in_all says first) b (subst (IsIn b) are (is_in b blocks there))) in
        let is = from_free says of.0 b of.2 in
        record {
          group = of.0;
          has = of_view of.0 (contained of.0 first of.1);
          data_block = is.data_block;
          free = is.free;
          listed = subst (λ list. Contains list (hold_of_group of.0)) (sym (first_alone enough)) (group_listed first of.0 (contained of.0 first of.1));
        };
  }

  all_room : (blocks : List ℕ) → IsView v → length (free_in_all says first) < need → blocks ≡ take need (free_in_all says v.groups) → need ≤ length (free_in_all says v.groups)
      → IsRoomOf v says v.groups first need blocks
  all_room blocks view few are enough = record {
    are = are ∙ sym (for_all says v.groups first need few);
    many = ap length are ∙ length-take-le need (free_in_all says v.groups) enough;
    rise = unrise blocks (subst Rising (sym are) (rising_take need (free_in_all says v.groups) (all_rise says v.size 0 v.groups view.groups.rise)));
    each = λ b there.
        let of = from_flat_map (free_in says) b v.groups (from_take need (free_in_all says v.groups) b (subst (IsIn b) are (is_in b blocks there))) in
        let is = from_free says of.0 b of.2 in
        record {
          group = of.0;
          has = contained of.0 v.groups of.1;
          data_block = is.data_block;
          free = is.free;
          listed = subst (λ list. Contains list (hold_of_group of.0)) (sym (all_holds few))
              (contained (hold_of_group of.0) (map hold_of_group first ++ map hold_of_group v.groups)
              (in_right (hold_of_group of.0) (map hold_of_group first) (map hold_of_group v.groups)
              (is_in (hold_of_group of.0) (map hold_of_group v.groups) (group_listed v.groups of.0 (contained of.0 v.groups of.1)))));
        };
  }

  -- ---- of the groups that come first

  abbrev FoundFirst : Locked Taken → Type 0
  FoundFirst r = IsUnder v (map hold_of_group first) (IsFrontOf (free_in_all says first) need) r

  abbrev Found : Locked Taken → Type 0
  Found r = IsUnder v (first_holds says v.groups first need) (IsTakenOf v says v.groups first need) r

  pub taken_first : (blocks : Vec ℕ Global) → AreGroupsOf v first → Rise v.size 0 first → FoundFirst (locked.Is (taken.Is blocks)) → Found (locked.Is (taken.Is blocks))
  taken_first blocks of_view rise is = (subst (AreHeld v) (sym (first_alone is.1.1)) is.0, first_room blocks.items of_view rise is.1.0 is.1.1)

  pub lack_first : (lock : LockName) (state : State) → FoundFirst (locked.NeedLock lock state) → Found (locked.NeedLock lock state)
  lack_first lock state is =
      subst (λ list. IsFirstLack v list lock state) (sym (holds_some says v.groups first need some))
      (lack_before v (map hold_of_group first) (further says v.groups first need) lock state is)

  pub block_first : (m : Missing) → FoundFirst (locked.NeedBlock m) → Found (locked.NeedBlock m)
  block_first m is =
      subst (λ list. IsGroupBlock v list m) (sym (holds_some says v.groups first need some))
      (block_before v (map hold_of_group first) (further says v.groups first need) m is)

  -- ---- they have too few: of all

  pub taken_all : (count : ℕ) (r : Locked Taken) → IsView v → FoundFirst (locked.Is (taken.TooFew count)) → IsUnder v (map hold_of_group v.groups) (IsFrontOf (free_in_all says v.groups) need) r → Found r
  taken_all count r view short = by r
    where
      few : length (free_in_all says first) < need
      few = subst (λ n. n < need) short.1.0 short.1.1

      all_held : AreHeld v (map hold_of_group v.groups) → AreHeld v (first_holds says v.groups first need)
      all_held held = subst (AreHeld v) (sym (all_holds few)) (All-append (λ h. holds v h ≡ true) (map hold_of_group first) (map hold_of_group v.groups) short.0 held)

      by : (r : Locked Taken) → IsUnder v (map hold_of_group v.groups) (IsFrontOf (free_in_all says v.groups) need) r → Found r
      by (locked.Is (taken.Is blocks)) is = (all_held is.0, all_room blocks.items view few is.1.0 is.1.1)
      by (locked.Is (taken.TooFew free)) is = (all_held is.0, record { free_are = is.1.0; fewer = is.1.1; fewer_first = few })
      by (locked.NeedLock lock state) is =
          subst (λ list. IsFirstLack v list lock state) (sym (all_holds few)) (lack_behind v (map hold_of_group first) (map hold_of_group v.groups) lock state short.0 is)
      by (locked.NeedBlock m) is = subst (λ list. IsGroupBlock v list m) (sym (all_holds few)) (block_behind v (map hold_of_group first) (map hold_of_group v.groups) m short.0 is)

-- the locks of all groups are held where those that come first have too few
pub all_listed : (v : Seen) (says : States) (first : List Group) (need : ℕ) → length (free_in_all says first) < need → AreHeld v (first_holds says v.groups first need) → AreHeld v (map hold_of_group v.groups)
all_listed v says first need few held =
    held_behind v (map hold_of_group first) (map hold_of_group v.groups) (subst (AreHeld v) (all_holds v says first need (λ none. absurd (omega (arith, few, none))) few) held)

-- ---- whatever the view hasn't of its groups

pub told_so : (v : Seen) (says : States) (first : List Group) (need : ℕ) (r : Locked Taken) → IsUnder v (first_holds says v.groups first need) (IsTakenOf v says v.groups first need) r → IsTold v need r
told_so v says first need (locked.Is (taken.Is blocks)) is = record {
  many = is.1.many;
  rise = is.1.rise;
  each = λ b there.
      let f = is.1.each b there in
      record { group = f.group; has = f.has; data_block = f.data_block; held = held_in v (first_holds says v.groups first need) (hold_of_group f.group) is.0 f.listed };
}
told_so v says first need (locked.Is (taken.TooFew free)) is = is.1.fewer
told_so v says first need (locked.NeedLock lock state) is = is.lacks
told_so v says first need (locked.NeedBlock m) is = group_needed v (first_holds says v.groups first need) m is
