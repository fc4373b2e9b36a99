-- The one leaf of a directory that has just become a hashed one, as the chain of a name.
use Rattle.std.proofs.Common.{◌≡◌, ℕ, ◌+◌, ◌<◌, Bool, true, false, List, length, None, refl, sym, ap, ◌∙◌, subst, arith}
use Rattle.gfs2_layout.specs.Area.{slots_of}
use Rattle.gfs2_layout.specs.Holding.{Holding}
use Rattle.gfs2_layout.specs.Inode.{leaf_area}
use Rattle.glock_names.specs.Views.{Seen}
use Rattle.hash_inserts.proofs.Seen.{PartsAreLed}
use Rattle.hash_steps.specs.Shown.{IsInChain, index_for}
use Rattle.hash_steps.specs.Leaves.{has_room_for}
use Rattle.hash_inserts.specs.Advancing.{CanInsert, IsAtLeaf}
use Rattle.hash_inserts.specs.Committing.{SeesInside}
use Rattle.hash_inserts.specs.Drafting.{SeesTree}
use Rattle.hash_inserts.specs.Finding.{IsChainFound, IsOnlyLeaf}
use Rattle.hash_inserts.specs.Walking.{IsRoomBefore, SeesLeaf, first_with}
use Rattle.hash_inserts.proofs.Onward.{by_parts}
use Rattle.hash_inserts.proofs.Past.{at_head, ends_there, full_before, low}
use Rattle.hash_inserts.proofs.SplitOn.{only_head}

module _ (led : PartsAreLed) (v : Seen) (dir : ℕ) (h : Holding) (name room : List ℕ) (need leaf : ℕ) (can : CanInsert v dir h name room need) (only : IsOnlyLeaf v h name leaf) where
  tree : SeesTree v h
  tree = record { own = only.own; below = λ b is. absurd (only.none_below b is) }

  pub sees_all : SeesInside v h
  sees_all = record { tree = tree; below = λ b is. absurd (only.none_below b is) }

  pub only_at : IsAtLeaf v h name leaf
  only_at = record { leaf_is = only.leads; one = only.one; sees = by_parts led v h can.sound tree; there = only.sees.0 }

  abbrev i : ℕ
  i = index_for h name

  head_is : IsInChain h i 0 leaf
  head_is = at_head v dir h name room need leaf can only_at

  room_is : (has_room : Bool) → has_room ≡ has_room_for (length name) (slots_of (leaf_area h leaf)) → IsRoomBefore h i (length name) (0 + 1) (first_with None has_room leaf)
  room_is true is = record { at = 0; before = omega arith; chain = head_is; full_before = full_before v dir h name room need leaf can only_at (length name); room = sym is }
  room_is false is = λ earlier x before chain. ap (λ y. has_room_for (length name) (slots_of (leaf_area h y))) (only_head h i only.one earlier x chain ∙ sym only.leads) ∙ sym is

  first_there : (earlier x : ℕ) → earlier < 0 + 1 → IsInChain h i earlier x → x ≡ leaf
  first_there earlier x before chain = only_head h i only.one earlier x chain ∙ sym only.leads

  pub only_found : (has_room : Bool) → has_room ≡ has_room_for (length name) (slots_of (leaf_area h leaf))
      → IsChainFound v h name (record { head = record { leaf = leaf; from = dir }; chain = record { last = leaf; single = true; with_room = first_with None has_room leaf } })
  only_found has_room is = record {
    head = record { low = low v dir h name room need leaf can only_at; leaf = only.leads; from = sym can.shown.inode.own ∙ sym only.behind };
    walked = record {
      at = 0;
      chain = head_is;
      ends = ends_there v dir h name room need leaf can only_at;
      single = refl;
      room = room_is has_room is;
      there = λ earlier x before chain. subst (λ y. SeesLeaf v y) (sym (first_there earlier x before chain)) only.sees;
    };
  }
