use Rattle.std.proofs.Common.{sym, ◌∙◌}
use Rattle.image_model.specs.Rules.{no_name}
use Rattle.image_mount.specs.Listing.{said}
use Rattle.image_mount.proofs.Causes.{told, lacks}
use Rattle.image_mount.proofs.listing.Named.check_name.Goals as goal

pub returns-clause-refused : goal.returns-clause-refused
returns-clause-refused c im a format low has =
    told im _ c.args.block 9 c.damaged.ensures format low
    (no_name a c.args.block (said c.args.self.now) has (sym c.is_dots.ensures ∙ c.if-is_dots.false) (lacks c.is_name.result c.is_name.ensures c.if-is_name.false))
