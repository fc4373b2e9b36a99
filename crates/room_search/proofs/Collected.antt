-- Free blocks of a group that are put behind others, one after another.
use Rattle.std.proofs.Common.{◌≡◌, ℕ, ◌<◌, ◌≤◌, List, [], ◌∷◌, ◌++◌, length, take, sym, ap, ◌∙◌, arith}
use Rattle.std.proofs.lemmas.List.{append_assoc, append-nil, length-take, length_push, take_all, take-append-le}
use Rattle.glock_names.specs.Views.{Seen, IsView, HasGroup, end_of}
use Rattle.glock_names.specs.declared.views.Group.{Group}
use Rattle.resource_groups.specs.Finding.{NoneIsFree, IsLeastFree}
use Rattle.resource_groups.specs.Shown.{said}
use Rattle.room_search.specs.Blocks.{free_in}
use Rattle.room_search.proofs.Free.{from_first, least_behind, none_behind}
use Rattle.room_search.proofs.Lists.{above, take-take-append}

-- behind the first of some blocks the first of these are put, those up to a number
pub record IsCollected (need : ℕ) (xs free blocks : List ℕ) (after : ℕ) : Type 0 where
  pub done : List ℕ
  pub all : free ≡ done ++ above after free
  pub are : blocks ≡ take need xs ++ done
  pub few : length blocks ≤ need

-- as many as are needed, or all
all_of_both : (need : ℕ) (xs free blocks : List ℕ) (after : ℕ) → IsCollected need xs free blocks after → take need (xs ++ free) ≡ take need (blocks ++ above after free)
all_of_both need xs free blocks after is =
    sym (take-take-append need xs free)
    ∙ ap (take need) (ap (λ ys. take need xs ++ ys) is.all ∙ sym (append_assoc (take need xs) is.done (above after free)) ∙ ap (λ ys. ys ++ above after free) (sym is.are))

pub enough : (need : ℕ) (xs free blocks : List ℕ) (after : ℕ) → IsCollected need xs free blocks after → need ≤ length blocks → blocks ≡ take need (xs ++ free)
enough need xs free blocks after is many =
    sym (all_of_both need xs free blocks after is ∙ take-append-le need blocks (above after free) many ∙ take_all need blocks is.few)

module _ (v : Seen) (at : ℕ → List ℕ) (g : Group) (view : IsView v) (has : HasGroup v g) (need : ℕ) (xs : List ℕ) where
  pub nothing_yet : (blocks : List ℕ) → blocks ≡ take need xs → IsCollected need xs (free_in (said at) g) blocks 0
  nothing_yet blocks are = record {
    done = [];
    all = sym (from_first v at g view has);
    are = are ∙ sym (append-nil (take need xs));
    few = let long = length-take need xs in omega (arith, ap length are, long);
  }

  pub one_more : (blocks : List ℕ) (after b : ℕ) → IsCollected need xs (free_in (said at) g) blocks after → length blocks < need → IsLeastFree at g after b
      → IsCollected need xs (free_in (said at) g) (blocks ++ b ∷ []) b
  one_more blocks after b is few least = record {
    done = is.done ++ b ∷ [];
    all = is.all ∙ ap (λ ys. is.done ++ ys) (least_behind v at g view has after b least) ∙ sym (append_assoc is.done (b ∷ []) (above b (free_in (said at) g)));
    are = ap (λ ys. ys ++ b ∷ []) is.are ∙ append_assoc (take need xs) is.done (b ∷ []);
    few = let long = length_push blocks b in omega (arith, long, few);
  }

  pub no_more : (blocks : List ℕ) (after : ℕ) → IsCollected need xs (free_in (said at) g) blocks after → NoneIsFree at g after (end_of g) → blocks ≡ take need (xs ++ free_in (said at) g)
  no_more blocks after is none =
      sym (all_of_both need xs (free_in (said at) g) blocks after is
      ∙ ap (λ ys. take need (blocks ++ ys)) (none_behind v at g view has after none) ∙ ap (take need) (append-nil blocks) ∙ take_all need blocks is.few)
