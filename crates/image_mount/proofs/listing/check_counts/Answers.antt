use Rattle.std.proofs.Common.{length, sym}
use Rattle.std.proofs.lemmas.List.{length-map}
use Rattle.image_mount.specs.Listing.{said}
use Rattle.image_mount.proofs.Causes.{wrong_entries, wrong_links}
use Rattle.image_mount.proofs.listing.check_counts.Goals as goal

pub returns-then-from-records-clause-refused : goal.returns-then-from-records-clause-refused
returns-then-from-records-clause-refused c im format low read has =
    wrong_entries im _ c.args.inode.now.block c.from.result (length c.args.records.now) c.args.inode.now.dinode _ c.damaged.ensures read format low has c.from.ensures (sym (length-map c.args.records.now said)) c.if-from-records.true

pub returns-then-from-count_directories-clause-refused : goal.returns-then-from-count_directories-clause-refused
returns-then-from-count_directories-clause-refused c im format low read has =
    wrong_links im _ c.args.inode.now.block c.from-2.result c.count_directories.result c.args.inode.now.dinode _ c.damaged-then-from-count_directories.ensures read format low has c.from-2.ensures c.count_directories.ensures.value c.if-from-count_directories.true
