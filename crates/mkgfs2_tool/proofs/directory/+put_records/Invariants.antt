use Rattle.std.proofs.Common.{length}
use Rattle.mkgfs2_tool.proofs.directory.+put_records.Given as goal

abbrev pub decreases-put_records : goal.decreases-put_records
decreases-put_records l = length l.area.now
