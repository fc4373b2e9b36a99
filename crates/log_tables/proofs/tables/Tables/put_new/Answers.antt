use Rattle.std.proofs.Common.{inr, ap, ◌∙◌}
use Rattle.std.specs.FinMap as map
use Rattle.log_tables.specs.Kept.{Kept}
use Rattle.log_tables.proofs.Steps.{frame_left, not_there, puts_it, room_left}
use Rattle.log_tables.proofs.tables.Tables.put_new.Goals as goal

pub frame_with-frame-requires-clause-room : goal.frame_with-frame-requires-clause-room
frame_with-frame-requires-clause-room c = frame_left c.self.inside c.args.self.now c.self.invariant c.self.view_is c.requires.room

pub put-requires : goal.put-requires
put-requires c = record { room = inr (room_left c.self.inside c.args.self.now c.self.invariant c.self.view_is c.requires.room) }

pub invariant_of-self : goal.invariant_of-self
invariant_of-self c =
    (puts_it c.self.inside c.self.invariant c.args.block (record { lock = c.args.lock; plain = c.args.plain; frame = c.frame_with-frame.result }) c.args.bytes.now c.frame_with-frame.new.pool c.put.new.self
    c.frame_with-frame.ensures (not_there c.self.inside c.args.self.now c.args.block c.self.view_is c.requires.absent) c.put.ensures.is).0

pub returns : goal.returns
returns c =
    (puts_it c.self.inside c.self.invariant c.args.block (record { lock = c.args.lock; plain = c.args.plain; frame = c.frame_with-frame.result }) c.args.bytes.now c.frame_with-frame.new.pool c.put.new.self
    c.frame_with-frame.ensures (not_there c.self.inside c.args.self.now c.args.block c.self.view_is c.requires.absent) c.put.ensures.is).1
    ∙ ap (λ (k : Kept). let x : Kept = record k { fresh = map.insert k.fresh c.args.block (record { lock = c.args.lock; plain = c.args.plain; bytes = c.args.bytes.now }) } in x) c.self.view_is
