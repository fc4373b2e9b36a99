use Rattle.gfs2_layout.proofs.ReadLaws.{read_back}
use Rattle.gfs2_layout.proofs.laws.structures_read_back.Goals as goal

pub returns : goal.returns
returns c = read_back c.checksums_have_32_bits.ensures
