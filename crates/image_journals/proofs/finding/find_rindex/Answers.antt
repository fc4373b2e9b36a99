use Rattle.std.proofs.Common.{refl}
use Rattle.image_journals.proofs.finding.find_rindex.Goals as goal

pub returns : goal.returns
returns c r o l s = c.find_in_master.ensures r o l l.rindex s refl s.laid.system.rindex
