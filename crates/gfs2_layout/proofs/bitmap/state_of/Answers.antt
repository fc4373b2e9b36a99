use Rattle.std.proofs.Common.{ℕ, ◌/◌, ◌%◌, ◌^◌, ◌*◌, ap, ◌∙◌}
use Rattle.std.proofs.lemmas.Nat.{and_mask}
use Rattle.gfs2_layout.proofs.BitmapLaws.{shift_is}
use Rattle.gfs2_layout.proofs.bitmap.state_of.Goals as goal

pub returns-clause-value : goal.returns-clause-value
returns-clause-value c = and_mask (c.args.byte / 2 ^ (2 * c.args.place)) 2 ∙ ap (λ (p : ℕ). (c.args.byte / p) % 4) (shift_is c.args.place c.requires)
