use Rattle.std.proofs.Common.{◌/◌, ℕ, ap, ◌∙◌}
use Rattle.std.proofs.Math.ListN.{set}
use Rattle.gfs2_layout.specs.Bitmap.{state_at}
use Rattle.gfs2_layout.proofs.BitmapLaws.{state_same, state_other}
use Rattle.gfs2_layout.proofs.bitmap.put_state.Goals as goal

pub returns-clause-put : goal.returns-clause-put
returns-clause-put c =
    ap (λ (byte : ℕ). state_at (set c.args.bitmap.now (c.args.place / 4) byte) c.args.place) c.byte_with_state.ensures
    ∙ state_same c.args.bitmap.now c.args.place c.args.state c.requires.inside c.requires.state

pub returns-clause-others : goal.returns-clause-others
returns-clause-others c = λ i other.
    ap (λ (byte : ℕ). state_at (set c.args.bitmap.now (c.args.place / 4) byte) i) c.byte_with_state.ensures
    ∙ state_other c.args.bitmap.now c.args.place c.args.state i c.requires.state other
