use Rattle.gfs2_layout.proofs.Faults.{no_fault}
use Rattle.gfs2_layout.proofs.group_header.GroupHeader.read.Goals as goal

pub returns-in-None : goal.returns-in-None
returns-in-None c = no_fault _ _ c.fields.result (c.in-None.ensures.value) c.fields.ensures
