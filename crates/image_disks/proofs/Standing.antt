-- What each outcome stands for.
use Rattle.cluster_laws.proofs.Ringing.{rings_replay}
use Rattle.tree_histories.specs.Trees.{Trees}
use Rattle.image_machine.specs.Volumes.{images_of}
use Rattle.image_machine.proofs.Headlines.{every_image_run}
use Rattle.image_disks.specs.Disks.{OutcomesStand}

pub outcomes_stand : OutcomesStand
outcomes_stand v u w rings im left flying begins run is of ls lives =
    let its = (every_image_run v u w begins run).remains (λ i. of.choice (rings.one i)) of.became of.replayed of.full ls of.outcome
    (rings_replay (Trees (images_of v)) w.disk rings of.choice of.became of.replayed of.replay) of.has of.readable of.near lives in (
      its.0,
      record {
        layout = v.layout;
        replayed = of.full;
        is = of.is;
        stands = record { owners = its.1.0; layout = v.layout; laid = its.1.1.laid; reads = its.1.1.reads };
      },
    )
