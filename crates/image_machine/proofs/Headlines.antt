-- The headline over images.
use Rattle.std.proofs.Common.{◌++◌}
use Rattle.cluster_laws.specs.Book.{W}
use Rattle.cluster_laws.specs.Contents.{places}
use Rattle.cluster_laws.specs.Laws.{head_cuts}
use Rattle.cluster_laws.specs.History.{gones}
use Rattle.cluster_laws.specs.World.{World}
use Rattle.cluster_history.specs.History.{tree_of}
use Rattle.tree_histories.specs.Trees.{TreeHeadline, Trees, history_of}
use Rattle.tree_histories.proofs.Joining.{every_tree_cluster, every_tree_run}
use Rattle.image_machine.specs.Laws.{EveryImageCluster, EveryImageRun, ImageHeadline}
use Rattle.image_machine.specs.Volumes.{Volume, images_of}
use Rattle.image_machine.proofs.Fitting.{contents_are_images}
use Rattle.image_machine.proofs.Unminded.{free_do_not, rings_do_not}

over_images : (v : Volume) (w : World (Trees (images_of v))) → TreeHeadline (images_of v) w → ImageHeadline v w
over_images v w h = record {
  told = h;
  remains = λ choice x r full ls outcome replay has readable near lives. (
      let its = h.remains (free_do_not v) (rings_do_not v) choice x r full.at ls outcome replay readable near lives in (
        its.0,
        contents_are_images v full (places (W (Trees (images_of v)) w.book (head_cuts (Trees (images_of v)) w.disk choice)))
            (tree_of (history_of (images_of v) (w.items ++ gones (Trees (images_of v)) ls)) w.book.start) has its.1,
      ));
  at_the_end = λ choice x r full flushed outcome replay has readable near. (
      contents_are_images v full (places (W (Trees (images_of v)) w.book w.book.published)) (tree_of (history_of (images_of v) w.items) w.book.start) has
      (h.at_the_end (free_do_not v) (rings_do_not v) choice x r full.at flushed outcome replay readable near));
}

pub every_image_run : EveryImageRun
every_image_run v u w begins run = over_images v w (every_tree_run (images_of v) u w begins run)

pub every_image_cluster : EveryImageCluster
every_image_cluster v a c starts events = over_images v c.world (every_tree_cluster (images_of v) a c starts events)
