use Rattle.std.proofs.Common.{ℕ, ◌≡◌, ◌<◌, List, refl, sym, subst, arith}
use Rattle.std.specs.Prelude.{Option}
use Rattle.shared_disk.specs.Disk.{DiskState, Operation}
use Rattle.command_words.specs.declared.command.MakeWords.{MakeWords}
use Rattle.cluster_program.specs.Course.{Makes, IsTooLarge}
use Rattle.cluster_program.specs.World.{inputs}
use Rattle.run_reports.specs.declared.status.Status.TheVariants as status
use Rattle.image_mount.specs.declared.field.Field.TheVariants as field
use Rattle.cluster_program.proofs.image.make_image.Goals as goal

too_large : (w : MakeWords) (s : DiskState) (list : Option (List Operation)) (faults : ℕ → ℕ) (count : ℕ) → count ≡ s.count → 131072 < count → (left : Option (List ℕ)) (failed : ℕ)
    → Makes w (inputs s list faults left failed) (inputs s list faults left failed) (status.NotProfile field.Device count)
too_large w s list faults count is many left failed =
    subst (λ n. Makes w (inputs s list faults left failed) (inputs s list faults left failed) (status.NotProfile field.Device n)) (sym is) (IsTooLarge (omega (arith, is, many)) refl)

pub returns-then-count-gt-MOST_BLOCKS-clause-makes :
    goal.returns-then-count-gt-MOST_BLOCKS-clause-makes
returns-then-count-gt-MOST_BLOCKS-clause-makes g c =
    too_large c.args.words.now (g.D.SharedDisk.state c.args.disk.now) _ _ c.blocks-count.result c.blocks-count.ensures.value (grind arith)
