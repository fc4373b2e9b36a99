use Rattle.std.proofs.Common.{◌≡◌, [], ◌++◌, map, rules, sym, ap, ◌∙◌, subst}
use Rattle.std.specs.Prelude.{Ok, Err}
use Rattle.image_mount.specs.Mounted.{Journal, MountedValue}
use Rattle.show_text.specs.Show.{tree_lines}
use Rattle.cluster_program.specs.Course.{Shows, ShowsNone, NothingHeld}
use Rattle.cluster_program.proofs.Shows.{of_disk, tree_end, all_shown}
use Rattle.cluster_program.proofs.show.show_image.Goals as goal

pub returns-in-Err-clause-shows : goal.returns-in-Err-clause-shows
returns-in-Err-clause-shows g c = ShowsNone c.in-Err.own c.in-Err.ensures.ends

pub returns-in-Err-read_mounted_tree-clause-shows : goal.returns-in-Err-read_mounted_tree-clause-shows
returns-in-Err-read_mounted_tree-clause-shows g c =
    let d = g.D.SharedDisk.state c.args.disk.now in
    let mid = g.D.SharedDisk.state c.mount.new.disk in
    let before = g.D.SharedDisk.faults c.mount.new.disk in
    let now = g.D.SharedDisk.faults c.read_mounted_tree.new.disk in
    let read = of_disk d mid c.in-Ok.mounted before now (Err c.in-Err-read_mounted_tree.fault) c.in-Ok.ensures.reads.same (record { stands = c.in-Err-read_mounted_tree.ensures.stands; replayable = tt; damaged = c.in-Err-read_mounted_tree.ensures.damaged; cause = c.in-Err-read_mounted_tree.ensures.cause }) in
    subst (Shows d (g.D.SharedDisk.faults c.args.disk.now) now []) (sym c.not_read.ensures)
    (tree_end d (g.D.SharedDisk.faults c.args.disk.now) before now c.in-Ok.mounted c.in-Ok.ensures.mounted c.in-Ok.ensures.reads.later c.in-Err-read_mounted_tree.fault read)

pub returns-in-Err-append_journals-clause-shows : goal.returns-in-Err-append_journals-clause-shows
returns-in-Err-append_journals-clause-shows g c = NothingHeld

pub returns-in-Ok-append_tree-clause-shows : goal.returns-in-Ok-append_tree-clause-shows
returns-in-Ok-append_tree-clause-shows g c =
    let d = g.D.SharedDisk.state c.args.disk.now in
    let mid = g.D.SharedDisk.state c.mount.new.disk in
    let before = g.D.SharedDisk.faults c.mount.new.disk in
    let now = g.D.SharedDisk.faults c.read_mounted_tree.new.disk in
    let read = of_disk d mid c.in-Ok.mounted before now (Ok c.in-Ok-read_mounted_tree.tree) c.in-Ok.ensures.reads.same (record { stands = c.in-Ok-read_mounted_tree.ensures.stands; replayable = c.in-Ok-read_mounted_tree.ensures.replayable; damaged = tt; cause = tt }) in
    let clean = ap (map (λ (j : Journal). j.head.clean)) (c.deref.ensures.value ∙ ap (λ (m : MountedValue). m.journals) c.mounted.view_is) in
    let lines : c.append_tree.new.text.items ≡ c.append_journals.new.text.items ++ tree_lines [] c.in-Ok-read_mounted_tree.tree = search rules in
    all_shown d (g.D.SharedDisk.faults c.args.disk.now) before now c.in-Ok.mounted c.in-Ok.ensures.mounted c.in-Ok.ensures.reads.later c.in-Ok-read_mounted_tree.tree c.new-lines.result.items _ _ _ read clean c.new-lines.ensures.items
    c.in-Ok-append_journals.ensures lines

pub returns-clause-shows : goal.returns-clause-shows
returns-clause-shows g c = NothingHeld
