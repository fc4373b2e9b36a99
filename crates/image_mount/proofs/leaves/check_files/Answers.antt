use Rattle.image_mount.proofs.LeafWalks.{other_told}
use Rattle.image_mount.proofs.leaves.check_files.Goals as goal

pub returns-in-Some-clause-refused : goal.returns-in-Some-clause-refused
returns-in-Some-clause-refused c im a at told read =
    other_told im a at _ c.in-Some.other c.args.records.now c.first_other.result told.format told.leaf (told.first c.in-Files.is) read c.outside.ensures c.first_other.ensures c.in-Some.is
