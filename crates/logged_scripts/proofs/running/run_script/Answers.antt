use Rattle.std.proofs.Common.{ℕ, Bool, List, sym, ap, ◌∙◌, subst, arith}
use Rattle.gfs2_layout.specs.Device.{IsBlockSize}
use Rattle.logged_calls.specs.Nodes.{point_of}
use Rattle.logged_scripts.specs.declared.halts.Halt.TheVariants as halt
use Rattle.logged_scripts.specs.Ends.{HasCause}
use Rattle.logged_scripts.proofs.Fenced.{cause_behind, fence_is_whole, fence_runs, journal_few, journal_inside, runs_out, runs_through, same_still, whole_through}
use Rattle.logged_scripts.proofs.running.run_script.Goals as goal

-- ---- it unmounted, or ended

pub returns-in-Unmounted-clause-run : goal.returns-in-Unmounted-clause-run
returns-in-Unmounted-clause-run g c =
    runs_through c.args.script.now c.args.time (point_of (g.D.SharedDisk.state c.args.disk.now) (g.D.SharedDisk.list c.args.disk.now) c.args.node.now) (g.D.SharedDisk.state c.run_lines.new.disk) (g.D.SharedDisk.list c.run_lines.new.disk)
    c.run_lines.new.node.items.items c.in-Unmounted.ensures.halted

pub returns-in-Unmounted-clause-whole : goal.returns-in-Unmounted-clause-whole
returns-in-Unmounted-clause-whole g c =
    whole_through c.args.script.now c.args.time (point_of (g.D.SharedDisk.state c.args.disk.now) (g.D.SharedDisk.list c.args.disk.now) c.args.node.now) (g.D.SharedDisk.state c.run_lines.new.disk) (g.D.SharedDisk.list c.run_lines.new.disk)
    c.run_lines.new.node.items.items c.in-Unmounted.ensures.halted

pub returns-in-Ended-clause-run : goal.returns-in-Ended-clause-run
returns-in-Ended-clause-run g c =
    runs_out c.args.script.now c.args.time (point_of (g.D.SharedDisk.state c.args.disk.now) (g.D.SharedDisk.list c.args.disk.now) c.args.node.now) (g.D.SharedDisk.state c.run_lines.new.disk) (g.D.SharedDisk.list c.run_lines.new.disk)
    c.run_lines.new.node.items.items c.in-Ended.end c.in-Ended.ensures.halted

pub returns-in-Ended-clause-cause : goal.returns-in-Ended-clause-cause
returns-in-Ended-clause-cause g c =
    subst (λ (blocks : List ℕ). HasCause (g.D.SharedDisk.state c.args.disk.now).count blocks (g.D.SharedDisk.faults c.args.disk.now) (g.D.SharedDisk.faults c.run_lines.new.disk) c.in-Ended.end) (sym c.requires.journal) c.in-Ended.ensures.cause

-- ---- it crashed at a line

pub fence-requires-clause-size : goal.fence-requires-clause-size
fence-requires-clause-size g c =
    subst IsBlockSize (sym (same_still c.args.script.now c.args.time (g.D.SharedDisk.state c.args.disk.now) (g.D.SharedDisk.state c.run_lines.new.disk) (g.D.SharedDisk.list c.args.disk.now) (g.D.SharedDisk.list c.run_lines.new.disk) c.args.node.now
    c.run_lines.new.node.items.items halt.AtLine c.requires.begun.resting.on c.in-AtLine.ensures.halted).size) c.requires.size

pub fence-requires-clause-free : goal.fence-requires-clause-free
fence-requires-clause-free g c =
    ap (λ (f : ℕ → Bool). f 0) (same_still c.args.script.now c.args.time (g.D.SharedDisk.state c.args.disk.now) (g.D.SharedDisk.state c.run_lines.new.disk) (g.D.SharedDisk.list c.args.disk.now) (g.D.SharedDisk.list c.run_lines.new.disk)
    c.args.node.now c.run_lines.new.node.items.items halt.AtLine c.requires.begun.resting.on c.in-AtLine.ensures.halted).fenced ∙ c.requires.free

pub fence-requires-clause-inside : goal.fence-requires-clause-inside
fence-requires-clause-inside g c =
    journal_inside c.args.script.now c.args.time (g.D.SharedDisk.state c.args.disk.now) (g.D.SharedDisk.state c.run_lines.new.disk) (g.D.SharedDisk.list c.args.disk.now) (g.D.SharedDisk.list c.run_lines.new.disk) c.args.node.now
    c.run_lines.new.node.items.items halt.AtLine c.requires.begun.resting.on c.in-AtLine.ensures.halted c.args.journal.now c.requires.journal

pub fence-requires-clause-few : goal.fence-requires-clause-few
fence-requires-clause-few g c =
    journal_few c.args.script.now c.args.time (g.D.SharedDisk.state c.args.disk.now) (g.D.SharedDisk.state c.run_lines.new.disk) (g.D.SharedDisk.list c.args.disk.now) (g.D.SharedDisk.list c.run_lines.new.disk) c.args.node.now
    c.run_lines.new.node.items.items halt.AtLine c.requires.begun.resting.on c.in-AtLine.ensures.halted c.args.journal.now c.requires.journal

pub returns-in-AtLine-clause-run : goal.returns-in-AtLine-clause-run
returns-in-AtLine-clause-run g c =
    fence_runs c.args.script.now c.args.time (point_of (g.D.SharedDisk.state c.args.disk.now) (g.D.SharedDisk.list c.args.disk.now) c.args.node.now) (g.D.SharedDisk.state c.run_lines.new.disk) (g.D.SharedDisk.list c.run_lines.new.disk)
    c.run_lines.new.node.items.items halt.AtLine c.in-AtLine.ensures.halted c.in-AtLine.ensures.halted.why (g.D.SharedDisk.state c.fence.new.disk) (g.D.SharedDisk.list c.fence.new.disk) c.fence.new.node.items.items c.args.journal.now c.sequence-first.result
    c.requires.journal c.sequence-first.ensures c.fence.result c.fence.ensures.fenced c.fence.ensures.ends

pub returns-in-AtLine-clause-whole : goal.returns-in-AtLine-clause-whole
returns-in-AtLine-clause-whole g c =
    fence_is_whole c.args.script.now c.args.time (point_of (g.D.SharedDisk.state c.args.disk.now) (g.D.SharedDisk.list c.args.disk.now) c.args.node.now) (g.D.SharedDisk.state c.run_lines.new.disk) (g.D.SharedDisk.list c.run_lines.new.disk)
    c.run_lines.new.node.items.items halt.AtLine c.in-AtLine.ensures.halted c.in-AtLine.ensures.halted.why (g.D.SharedDisk.state c.fence.new.disk) (g.D.SharedDisk.list c.fence.new.disk) c.fence.new.node.items.items c.args.journal.now c.sequence-first.result
    c.requires.journal c.sequence-first.ensures c.fence.result c.fence.ensures.fenced

pub returns-in-AtLine-clause-later : goal.returns-in-AtLine-clause-later
returns-in-AtLine-clause-later g c i = let low = c.run_lines.ensures.later i in let more = c.fence.ensures.later i in omega (arith, low, more)

pub returns-in-AtLine-clause-cause : goal.returns-in-AtLine-clause-cause
returns-in-AtLine-clause-cause g c =
    cause_behind (g.D.SharedDisk.state c.args.disk.now).count (g.D.SharedDisk.state c.run_lines.new.disk).count c.args.journal.now (g.D.SharedDisk.faults c.args.disk.now) (g.D.SharedDisk.faults c.run_lines.new.disk)
    (g.D.SharedDisk.faults c.fence.new.disk) c.fence.result
    (same_still c.args.script.now c.args.time (g.D.SharedDisk.state c.args.disk.now) (g.D.SharedDisk.state c.run_lines.new.disk) (g.D.SharedDisk.list c.args.disk.now) (g.D.SharedDisk.list c.run_lines.new.disk) c.args.node.now
    c.run_lines.new.node.items.items halt.AtLine c.requires.begun.resting.on c.in-AtLine.ensures.halted).count c.run_lines.ensures.later c.fence.ensures.cause

-- ---- it crashed at a write

pub fence-requires-in-AtWrite-clause-size : goal.fence-requires-in-AtWrite-clause-size
fence-requires-in-AtWrite-clause-size g c =
    subst IsBlockSize (sym (same_still c.args.script.now c.args.time (g.D.SharedDisk.state c.args.disk.now) (g.D.SharedDisk.state c.run_lines.new.disk) (g.D.SharedDisk.list c.args.disk.now) (g.D.SharedDisk.list c.run_lines.new.disk) c.args.node.now
    c.run_lines.new.node.items.items halt.AtWrite c.requires.begun.resting.on c.in-AtWrite.ensures.halted).size) c.requires.size

pub fence-requires-in-AtWrite-clause-free : goal.fence-requires-in-AtWrite-clause-free
fence-requires-in-AtWrite-clause-free g c =
    ap (λ (f : ℕ → Bool). f 0) (same_still c.args.script.now c.args.time (g.D.SharedDisk.state c.args.disk.now) (g.D.SharedDisk.state c.run_lines.new.disk) (g.D.SharedDisk.list c.args.disk.now) (g.D.SharedDisk.list c.run_lines.new.disk)
    c.args.node.now c.run_lines.new.node.items.items halt.AtWrite c.requires.begun.resting.on c.in-AtWrite.ensures.halted).fenced ∙ c.requires.free

pub fence-requires-in-AtWrite-clause-inside : goal.fence-requires-in-AtWrite-clause-inside
fence-requires-in-AtWrite-clause-inside g c =
    journal_inside c.args.script.now c.args.time (g.D.SharedDisk.state c.args.disk.now) (g.D.SharedDisk.state c.run_lines.new.disk) (g.D.SharedDisk.list c.args.disk.now) (g.D.SharedDisk.list c.run_lines.new.disk) c.args.node.now
    c.run_lines.new.node.items.items halt.AtWrite c.requires.begun.resting.on c.in-AtWrite.ensures.halted c.args.journal.now c.requires.journal

pub fence-requires-in-AtWrite-clause-few : goal.fence-requires-in-AtWrite-clause-few
fence-requires-in-AtWrite-clause-few g c =
    journal_few c.args.script.now c.args.time (g.D.SharedDisk.state c.args.disk.now) (g.D.SharedDisk.state c.run_lines.new.disk) (g.D.SharedDisk.list c.args.disk.now) (g.D.SharedDisk.list c.run_lines.new.disk) c.args.node.now
    c.run_lines.new.node.items.items halt.AtWrite c.requires.begun.resting.on c.in-AtWrite.ensures.halted c.args.journal.now c.requires.journal

pub returns-in-AtWrite-clause-run : goal.returns-in-AtWrite-clause-run
returns-in-AtWrite-clause-run g c =
    fence_runs c.args.script.now c.args.time (point_of (g.D.SharedDisk.state c.args.disk.now) (g.D.SharedDisk.list c.args.disk.now) c.args.node.now) (g.D.SharedDisk.state c.run_lines.new.disk) (g.D.SharedDisk.list c.run_lines.new.disk)
    c.run_lines.new.node.items.items halt.AtWrite c.in-AtWrite.ensures.halted c.in-AtWrite.ensures.halted.why (g.D.SharedDisk.state c.fence-in-AtWrite.new.disk) (g.D.SharedDisk.list c.fence-in-AtWrite.new.disk) c.fence-in-AtWrite.new.node.items.items c.args.journal.now c.sequence-first.result
    c.requires.journal c.sequence-first.ensures c.fence-in-AtWrite.result c.fence-in-AtWrite.ensures.fenced c.fence-in-AtWrite.ensures.ends

pub returns-in-AtWrite-clause-whole : goal.returns-in-AtWrite-clause-whole
returns-in-AtWrite-clause-whole g c =
    fence_is_whole c.args.script.now c.args.time (point_of (g.D.SharedDisk.state c.args.disk.now) (g.D.SharedDisk.list c.args.disk.now) c.args.node.now) (g.D.SharedDisk.state c.run_lines.new.disk) (g.D.SharedDisk.list c.run_lines.new.disk)
    c.run_lines.new.node.items.items halt.AtWrite c.in-AtWrite.ensures.halted c.in-AtWrite.ensures.halted.why (g.D.SharedDisk.state c.fence-in-AtWrite.new.disk) (g.D.SharedDisk.list c.fence-in-AtWrite.new.disk) c.fence-in-AtWrite.new.node.items.items c.args.journal.now c.sequence-first.result
    c.requires.journal c.sequence-first.ensures c.fence-in-AtWrite.result c.fence-in-AtWrite.ensures.fenced

pub returns-in-AtWrite-clause-later : goal.returns-in-AtWrite-clause-later
returns-in-AtWrite-clause-later g c i = let low = c.run_lines.ensures.later i in let more = c.fence-in-AtWrite.ensures.later i in omega (arith, low, more)

pub returns-in-AtWrite-clause-cause : goal.returns-in-AtWrite-clause-cause
returns-in-AtWrite-clause-cause g c =
    cause_behind (g.D.SharedDisk.state c.args.disk.now).count (g.D.SharedDisk.state c.run_lines.new.disk).count c.args.journal.now (g.D.SharedDisk.faults c.args.disk.now) (g.D.SharedDisk.faults c.run_lines.new.disk)
    (g.D.SharedDisk.faults c.fence-in-AtWrite.new.disk) c.fence-in-AtWrite.result
    (same_still c.args.script.now c.args.time (g.D.SharedDisk.state c.args.disk.now) (g.D.SharedDisk.state c.run_lines.new.disk) (g.D.SharedDisk.list c.args.disk.now) (g.D.SharedDisk.list c.run_lines.new.disk) c.args.node.now
    c.run_lines.new.node.items.items halt.AtWrite c.requires.begun.resting.on c.in-AtWrite.ensures.halted).count c.run_lines.ensures.later c.fence-in-AtWrite.ensures.cause
