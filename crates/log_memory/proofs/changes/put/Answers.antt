use Rattle.std.proofs.Common.{◌+◌, ◌<◌, ℕ, List, sym, ap, subst, ◌∙◌}
use Rattle.std.specs.FinMap as table
use Rattle.journal_scan.specs.Said.{logged}
use Rattle.node_journal.specs.Written.{IsLoggable}
use Rattle.log_tables.specs.Kept.{Kept}
use Rattle.log_values.specs.Blocks as set
use Rattle.log_values.specs.Log.{LogValue}
use Rattle.log_values.specs.Changes.{frames_taken, most_unflushed, version_of}
use Rattle.log_memory.specs.Inside.{log_in}
use Rattle.log_memory.proofs.Blocks.{changed, frame_left, put_gives}
use Rattle.log_memory.proofs.NewLogs.{Gives}
use Rattle.log_memory.proofs.changes.put.Goals as goal
use Rattle.log_memory.proofs.changes.put.Goals.{After-put}

pub put-requires-clause-room : goal.put-requires-clause-room
put-requires-clause-room c = frame_left c.log.inside c.log.invariant c.args.log.now c.args.written.now.block c.log.view_is c.requires.room

written : (c : After-put) → Gives (changed c.log.inside c.log.invariant c.put.new.self c.take.new.self)
    (record (log_in c.log.inside) {
      fresh = table.insert c.log.inside.tables.fresh c.args.written.now.block (version_of c.args.written.now c.args.lock);
      gone = set.remove c.log.inside.gone.at c.args.written.now.block;
    })
written c =
    put_gives c.log.inside c.log.invariant c.args.written.now c.args.lock c.put.new.self c.take.new.self
    (subst (λ (log : LogValue). IsLoggable log.journal.size (logged c.args.written.now)) (sym c.log.view_is) c.requires.loggable)
    (subst (λ (log : LogValue). table.len (table.remove log.fresh c.args.written.now.block) + 1 < most_unflushed) (sym c.log.view_is) c.requires.few)
    (subst (λ (log : LogValue). frames_taken (record log { fresh = table.remove log.fresh c.args.written.now.block }) < log.journal.frames) (sym c.log.view_is) c.requires.room)
    (c.put.ensures ∙ ap (λ (bytes : List ℕ). let k : Kept = record c.log.inside.tables { fresh = table.insert c.log.inside.tables.fresh c.args.written.now.block (record { lock = c.args.lock; plain = c.args.written.now.plain; bytes = bytes }) } in k) c.bytes.ensures)
    c.take.ensures.is

pub invariant_of-log : goal.invariant_of-log
invariant_of-log c = (written c).0

pub returns : goal.returns
returns c =
    (written c).1
    ∙ ap (λ (log : LogValue). let x : LogValue = record log { fresh = table.insert log.fresh c.args.written.now.block (version_of c.args.written.now c.args.lock); gone = set.remove log.gone c.args.written.now.block } in x)
    c.log.view_is
