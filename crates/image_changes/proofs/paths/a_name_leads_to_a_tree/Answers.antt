use Rattle.image_changes.proofs.FlatPaths.{name_leads}
use Rattle.image_changes.proofs.paths.a_name_leads_to_a_tree.Goals as goal

pub returns : goal.returns
returns c = name_leads
