use Rattle.std.proofs.Common.{arith}
use Rattle.gfs2_layout.proofs.BitmapLaws.{put_in_byte, byte_fits}
use Rattle.gfs2_layout.proofs.bitmap.byte_with_state.Goals as goal

pub overflow_sub-result : goal.overflow_sub-result
overflow_sub-result c = (put_in_byte c.args.byte c.args.place c.state_of-old.result c.args.state c.requires.place c.requires.state c.state_of-old.ensures.value).0

pub overflow_add-result : goal.overflow_add-result
overflow_add-result c =
    let is = (put_in_byte c.args.byte c.args.place c.state_of-old.result c.args.state c.requires.place c.requires.state c.state_of-old.ensures.value).1 in
    let fits = byte_fits c.args.byte c.args.place c.args.state (omega arith) c.requires.place c.requires.state in
    omega (arith, is, fits)

pub returns : goal.returns
returns c = (put_in_byte c.args.byte c.args.place c.state_of-old.result c.args.state c.requires.place c.requires.state c.state_of-old.ensures.value).1
