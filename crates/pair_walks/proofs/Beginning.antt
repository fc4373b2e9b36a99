-- Both ways begin at the root.
use Rattle.std.proofs.Common.{◌≡◌, ◌≢◌, ◌+◌, true, List, [], length, Some, refl, ap, arith}
use Rattle.std.proofs.lemmas.List.Elements.{All-nil}
use Rattle.file_tree.specs.Tree.{Tree}
use Rattle.glock_names.specs.Views.{Seen}
use Rattle.call_locks.specs.declared.want.Want.{Want}
use Rattle.image_model.specs.Flat.{Path}
use Rattle.image_model.specs.Image.{Image}
use Rattle.image_model.specs.Owners.{Owners}
use Rattle.image_model.specs.Stands.{Layout}
use Rattle.image_changes.specs.Does.{IsOf}
use Rattle.path_walks.specs.Holds.{holds}
use Rattle.path_walks.specs.Walks.{AreInOrder}
use Rattle.pair_walks.specs.Walks.{none}
use Rattle.pair_walks.specs.Ways.{AreOnTheirWays, IsComeIn, IsOnWay, the_root}
use Rattle.pair_walks.specs.declared.next.Next.TheVariants as next

module _ (v : Seen) where
  on_way : (path : Path) (wants : List Want) → path ≢ [] → length wants ≡ length path + 1 → AreInOrder wants → IsOnWay v wants path 0 (next.Inode v.root v.root)
  on_way path wants some as_many order = record { names = some; as_many = as_many; order = order; come = the_root }

  come_in : (im : Image) (o : Owners) (l : Layout) (t : Tree) → IsOf v im o l t → (path : Path) (wants : List Want) → IsComeIn v im o l t wants path 0 (next.Inode v.root v.root)
  come_in im o l t of path wants = (omega arith, ap Some of.root, ap Some of.root)

  pub begun : (p q : Path) (first second : List Want) → p ≢ [] → q ≢ [] → length first ≡ length p + 1 → length second ≡ length q + 1 → AreInOrder first → AreInOrder second
      → AreOnTheirWays v p q first second 0 0 (next.Inode v.root v.root) (next.Inode v.root v.root)
  begun p q first second some some' as_many as_many' order order' = record {
    on_first = on_way p first some as_many order;
    on_second = on_way q second some' as_many' order';
    passed = λ undecided. none;
    images = λ im o l t of. record {
      on_first = come_in im o l t of p first;
      on_second = come_in im o l t of q second;
      left = record { taken = []; held = All-nil (λ h. holds v h ≡ true); whole = refl };
    };
  }
