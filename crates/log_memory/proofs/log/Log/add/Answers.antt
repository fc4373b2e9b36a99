use Rattle.std.proofs.Common.{◌<◌, ◌≤◌, ◌∙◌, true≢false, ap, refl, subst, sym}
use Rattle.std.specs.FinMap as table
use Rattle.log_values.specs.Log.{LogValue}
use Rattle.log_values.specs.Changes.{CanBeAdded, frames_taken, most_unflushed, with_change}
use Rattle.log_values.proofs.Rooms.{changed_fewer}
use Rattle.log_memory.specs.Adding.{with_freed_all, with_written_all}
use Rattle.log_memory.proofs.log.Log.add.Goals as goal

pub put_all-requires : goal.put_all-requires
put_all-requires c =
    let enough = (c.suffices.ensures (with_change c.args.self.now c.args.change.now).fresh (with_change c.args.self.now c.args.change.now).gone c.counts_with.ensures.counts).0 c.if-not-suffices.false in
    let freed = c.free_all.ensures ∙ ap (with_freed_all c.args.self.now) c.deref.ensures.value in
    record {
      can = subst (λ (log : LogValue). CanBeAdded log.journal.size c.args.change.now) (sym freed) c.requires;
      few =
          subst (λ (log : LogValue). table.len (with_written_all log c.args.change.now.blocks.items c.args.change.now.locks.items).fresh < most_unflushed) (sym freed)
          (changed_fewer (with_change c.args.self.now c.args.change.now) c.args.self.now.journal.size most_unflushed enough.blocks);
      room = subst (λ (log : LogValue). frames_taken (with_written_all log c.args.change.now.blocks.items c.args.change.now.locks.items) ≤ log.journal.frames) (sym freed) enough.frames;
    }

pub returns : goal.returns
returns c =
    let enough = (c.suffices.ensures (with_change c.args.self.now c.args.change.now).fresh (with_change c.args.self.now c.args.change.now).gone c.counts_with.ensures.counts).0 c.if-not-suffices.false in
    let freed = c.free_all.ensures ∙ ap (with_freed_all c.args.self.now) c.deref.ensures.value in
    record {
      added = λ yes. c.put_all.ensures ∙ ap (λ (log : LogValue). with_written_all log c.args.change.now.blocks.items c.args.change.now.locks.items) freed;
      kept = λ no. absurd (true≢false no);
      exactly = (λ yes. enough, λ is. refl);
    }
