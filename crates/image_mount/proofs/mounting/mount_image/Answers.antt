use Rattle.std.proofs.Common.{◌<◌, ap, subst, sym, ◌∙◌, refl, arith}
use Rattle.std.specs.Prelude.{map}
use Rattle.glock_names.specs.Views.{group_of_entry}
use Rattle.image_model.specs.Image.{Image}
use Rattle.image_mount.specs.Refusals.{RefusesRightly}
use Rattle.image_mount.specs.Rings.{all_places}
use Rattle.image_mount.specs.Searching.{ShowsSystem}
use Rattle.image_mount.specs.System.{layout_of}
use Rattle.image_mount.proofs.Marked.{marked_once, unread_new}
use Rattle.image_mount.proofs.Marks.{searched_new, shows_now}
use Rattle.image_mount.proofs.Moved.{stay_kept}
use Rattle.image_mount.proofs.Ending.{refused_where, excused_where, standing_where, told_where, mounted}
use Rattle.image_mount.proofs.SystemRead.{files_fit, is_alike, is_mounted}
use Rattle.image_mount.proofs.Working.{working_new}
use Rattle.image_mount.proofs.mounting.mount_image.Goals as goal

pub returns-in_err-check_device-clause-refused : goal.returns-in_err-check_device-clause-refused
returns-in_err-check_device-clause-refused g c =
    refused_where (g.D.SharedDisk.state c.args.disk.now) _ _ c.from_residual.ensures.1
    (λ (im : Image) (shows : ShowsSystem (g.D.SharedDisk.state c.args.disk.now) im). c.in_err-check_device.ensures.refused im (c.blocks-2.ensures.value ∙ sym shows.count))

pub returns-in_err-check_device-clause-told : goal.returns-in_err-check_device-clause-told
returns-in_err-check_device-clause-told g c =
    told_where (g.D.SharedDisk.state c.args.disk.now) _ _ c.from_residual.ensures.1
    (λ (im : Image) (shows : ShowsSystem (g.D.SharedDisk.state c.args.disk.now) im). c.in_err-check_device.ensures.refused im (c.blocks-2.ensures.value ∙ sym shows.count))

pub returns-in_err-check_device-clause-accepts : goal.returns-in_err-check_device-clause-accepts
returns-in_err-check_device-clause-accepts g c =
    excused_where (g.D.SharedDisk.state c.args.disk.now) _ _ c.from_residual.ensures.1
    (λ (im : Image) (shows : ShowsSystem (g.D.SharedDisk.state c.args.disk.now) im). c.in_err-check_device.ensures.refused im (c.blocks-2.ensures.value ∙ sym shows.count))

pub returns-in_err-check_device-clause-standing : goal.returns-in_err-check_device-clause-standing
returns-in_err-check_device-clause-standing g c =
    standing_where (g.D.SharedDisk.state c.args.disk.now) _ _ c.from_residual.ensures.1
    (λ (im : Image) (shows : ShowsSystem (g.D.SharedDisk.state c.args.disk.now) im). c.in_err-check_device.ensures.refused im (c.blocks-2.ensures.value ∙ sym shows.count))

pub returns-in_err-table-clause-refused : goal.returns-in_err-table-clause-refused
returns-in_err-table-clause-refused g c =
    refused_where (g.D.SharedDisk.state c.args.disk.now) _ _ c.from_residual-in_err-table.ensures.1
    (λ (im : Image) (shows : ShowsSystem (g.D.SharedDisk.state c.args.disk.now) im). subst (RefusesRightly im) (sym c.in_err-table.ensures.memory) tt)

pub returns-in_err-table-clause-told : goal.returns-in_err-table-clause-told
returns-in_err-table-clause-told g c =
    told_where (g.D.SharedDisk.state c.args.disk.now) _ _ c.from_residual-in_err-table.ensures.1
    (λ (im : Image) (shows : ShowsSystem (g.D.SharedDisk.state c.args.disk.now) im). subst (RefusesRightly im) (sym c.in_err-table.ensures.memory) tt)

pub returns-in_err-table-clause-accepts : goal.returns-in_err-table-clause-accepts
returns-in_err-table-clause-accepts g c =
    excused_where (g.D.SharedDisk.state c.args.disk.now) _ _ c.from_residual-in_err-table.ensures.1
    (λ (im : Image) (shows : ShowsSystem (g.D.SharedDisk.state c.args.disk.now) im). subst (RefusesRightly im) (sym c.in_err-table.ensures.memory) tt)

pub returns-in_err-table-clause-standing : goal.returns-in_err-table-clause-standing
returns-in_err-table-clause-standing g c =
    standing_where (g.D.SharedDisk.state c.args.disk.now) _ _ c.from_residual-in_err-table.ensures.1
    (λ (im : Image) (shows : ShowsSystem (g.D.SharedDisk.state c.args.disk.now) im). subst (RefusesRightly im) (sym c.in_err-table.ensures.memory) tt)

pub search_system-requires : goal.search_system-requires
search_system-requires g c = record { work = working_new _ _ c.requires.idle (c.in_ok-table.ensures.size ∙ c.block_size.ensures) (c.in_ok-table.ensures.count ∙ c.blocks-3.ensures.value) c.in_ok-table.ensures.empty; few = omega (arith, c.in_ok-check_device.ensures.few, c.blocks-2.ensures.value) }

pub returns-in_err-system-clause-refused : goal.returns-in_err-system-clause-refused
returns-in_err-system-clause-refused g c =
    refused_where (g.D.SharedDisk.state c.args.disk.now) _ _ c.from_residual-in_err-system.ensures.1
    (λ (im : Image) (shows : ShowsSystem (g.D.SharedDisk.state c.args.disk.now) im). c.in_err-system.ensures.refused im shows (searched_new im c.in_ok-table.table c.in_ok-table.ensures.empty c.in_ok-table.ensures.places c.in_ok-table.ensures.leaves))

pub returns-in_err-system-clause-told : goal.returns-in_err-system-clause-told
returns-in_err-system-clause-told g c =
    told_where (g.D.SharedDisk.state c.args.disk.now) _ _ c.from_residual-in_err-system.ensures.1
    (λ (im : Image) (shows : ShowsSystem (g.D.SharedDisk.state c.args.disk.now) im). c.in_err-system.ensures.refused im shows (searched_new im c.in_ok-table.table c.in_ok-table.ensures.empty c.in_ok-table.ensures.places c.in_ok-table.ensures.leaves))

pub returns-in_err-system-clause-accepts : goal.returns-in_err-system-clause-accepts
returns-in_err-system-clause-accepts g c =
    excused_where (g.D.SharedDisk.state c.args.disk.now) _ _ c.from_residual-in_err-system.ensures.1
    (λ (im : Image) (shows : ShowsSystem (g.D.SharedDisk.state c.args.disk.now) im). c.in_err-system.ensures.refused im shows (searched_new im c.in_ok-table.table c.in_ok-table.ensures.empty c.in_ok-table.ensures.places c.in_ok-table.ensures.leaves))

pub returns-in_err-system-clause-standing : goal.returns-in_err-system-clause-standing
returns-in_err-system-clause-standing g c =
    standing_where (g.D.SharedDisk.state c.args.disk.now) _ _ c.from_residual-in_err-system.ensures.1
    (λ (im : Image) (shows : ShowsSystem (g.D.SharedDisk.state c.args.disk.now) im). c.in_err-system.ensures.refused im shows (searched_new im c.in_ok-table.table c.in_ok-table.ensures.empty c.in_ok-table.ensures.places c.in_ok-table.ensures.leaves))

pub returns-in_err-rings-clause-refused : goal.returns-in_err-rings-clause-refused
returns-in_err-rings-clause-refused g c =
    refused_where (g.D.SharedDisk.state c.args.disk.now) _ _ c.from_residual-in_err-rings.ensures.1
    (λ (im : Image) (shows : ShowsSystem (g.D.SharedDisk.state c.args.disk.now) im).
    let known = (searched_new im c.in_ok-table.table c.in_ok-table.ensures.empty c.in_ok-table.ensures.places c.in_ok-table.ensures.leaves) in
    let looked = c.in_ok-system.ensures.found im shows known in
    let searched = c.in_ok-system.ensures.searched im shows known in
    let shows1 = shows_now _ _ im c.in_ok-system.ensures.reads.same shows in
    c.in_err-rings.ensures.refused im shows1 looked searched)

pub returns-in_err-rings-clause-told : goal.returns-in_err-rings-clause-told
returns-in_err-rings-clause-told g c =
    told_where (g.D.SharedDisk.state c.args.disk.now) _ _ c.from_residual-in_err-rings.ensures.1
    (λ (im : Image) (shows : ShowsSystem (g.D.SharedDisk.state c.args.disk.now) im).
    let known = (searched_new im c.in_ok-table.table c.in_ok-table.ensures.empty c.in_ok-table.ensures.places c.in_ok-table.ensures.leaves) in
    let looked = c.in_ok-system.ensures.found im shows known in
    let searched = c.in_ok-system.ensures.searched im shows known in
    let shows1 = shows_now _ _ im c.in_ok-system.ensures.reads.same shows in
    c.in_err-rings.ensures.refused im shows1 looked searched)

pub returns-in_err-rings-clause-accepts : goal.returns-in_err-rings-clause-accepts
returns-in_err-rings-clause-accepts g c =
    excused_where (g.D.SharedDisk.state c.args.disk.now) _ _ c.from_residual-in_err-rings.ensures.1
    (λ (im : Image) (shows : ShowsSystem (g.D.SharedDisk.state c.args.disk.now) im).
    let known = (searched_new im c.in_ok-table.table c.in_ok-table.ensures.empty c.in_ok-table.ensures.places c.in_ok-table.ensures.leaves) in
    let looked = c.in_ok-system.ensures.found im shows known in
    let searched = c.in_ok-system.ensures.searched im shows known in
    let shows1 = shows_now _ _ im c.in_ok-system.ensures.reads.same shows in
    c.in_err-rings.ensures.refused im shows1 looked searched)

pub returns-in_err-rings-clause-standing : goal.returns-in_err-rings-clause-standing
returns-in_err-rings-clause-standing g c =
    standing_where (g.D.SharedDisk.state c.args.disk.now) _ _ c.from_residual-in_err-rings.ensures.1
    (λ (im : Image) (shows : ShowsSystem (g.D.SharedDisk.state c.args.disk.now) im).
    let known = (searched_new im c.in_ok-table.table c.in_ok-table.ensures.empty c.in_ok-table.ensures.places c.in_ok-table.ensures.leaves) in
    let looked = c.in_ok-system.ensures.found im shows known in
    let searched = c.in_ok-system.ensures.searched im shows known in
    let shows1 = shows_now _ _ im c.in_ok-system.ensures.reads.same shows in
    c.in_err-rings.ensures.refused im shows1 looked searched)

pub returns-in_err-journals-clause-refused : goal.returns-in_err-journals-clause-refused
returns-in_err-journals-clause-refused g c =
    refused_where (g.D.SharedDisk.state c.args.disk.now) _ _ c.from_residual-in_err-journals.ensures.1
    (λ (im : Image) (shows : ShowsSystem (g.D.SharedDisk.state c.args.disk.now) im).
    let known = (searched_new im c.in_ok-table.table c.in_ok-table.ensures.empty c.in_ok-table.ensures.places c.in_ok-table.ensures.leaves) in
    let looked = c.in_ok-system.ensures.found im shows known in
    let searched = c.in_ok-system.ensures.searched im shows known in
    let shows1 = shows_now _ _ im c.in_ok-system.ensures.reads.same shows in
    let rings = c.in_ok-rings.ensures.found im shows1 looked searched in
    let shows2 = shows_now _ _ im (c.in_ok-rings.ensures.reads.same ∙ c.in_ok-system.ensures.reads.same) shows in
    c.in_err-journals.ensures.refused (layout_of c.in_ok-system.system) im shows2 looked.names rings.dinodes rings.each)

pub returns-in_err-journals-clause-told : goal.returns-in_err-journals-clause-told
returns-in_err-journals-clause-told g c =
    told_where (g.D.SharedDisk.state c.args.disk.now) _ _ c.from_residual-in_err-journals.ensures.1
    (λ (im : Image) (shows : ShowsSystem (g.D.SharedDisk.state c.args.disk.now) im).
    let known = (searched_new im c.in_ok-table.table c.in_ok-table.ensures.empty c.in_ok-table.ensures.places c.in_ok-table.ensures.leaves) in
    let looked = c.in_ok-system.ensures.found im shows known in
    let searched = c.in_ok-system.ensures.searched im shows known in
    let shows1 = shows_now _ _ im c.in_ok-system.ensures.reads.same shows in
    let rings = c.in_ok-rings.ensures.found im shows1 looked searched in
    let shows2 = shows_now _ _ im (c.in_ok-rings.ensures.reads.same ∙ c.in_ok-system.ensures.reads.same) shows in
    c.in_err-journals.ensures.refused (layout_of c.in_ok-system.system) im shows2 looked.names rings.dinodes rings.each)

pub returns-in_err-journals-clause-accepts : goal.returns-in_err-journals-clause-accepts
returns-in_err-journals-clause-accepts g c =
    excused_where (g.D.SharedDisk.state c.args.disk.now) _ _ c.from_residual-in_err-journals.ensures.1
    (λ (im : Image) (shows : ShowsSystem (g.D.SharedDisk.state c.args.disk.now) im).
    let known = (searched_new im c.in_ok-table.table c.in_ok-table.ensures.empty c.in_ok-table.ensures.places c.in_ok-table.ensures.leaves) in
    let looked = c.in_ok-system.ensures.found im shows known in
    let searched = c.in_ok-system.ensures.searched im shows known in
    let shows1 = shows_now _ _ im c.in_ok-system.ensures.reads.same shows in
    let rings = c.in_ok-rings.ensures.found im shows1 looked searched in
    let shows2 = shows_now _ _ im (c.in_ok-rings.ensures.reads.same ∙ c.in_ok-system.ensures.reads.same) shows in
    c.in_err-journals.ensures.refused (layout_of c.in_ok-system.system) im shows2 looked.names rings.dinodes rings.each)

pub returns-in_err-journals-clause-standing : goal.returns-in_err-journals-clause-standing
returns-in_err-journals-clause-standing g c =
    standing_where (g.D.SharedDisk.state c.args.disk.now) _ _ c.from_residual-in_err-journals.ensures.1
    (λ (im : Image) (shows : ShowsSystem (g.D.SharedDisk.state c.args.disk.now) im).
    let known = (searched_new im c.in_ok-table.table c.in_ok-table.ensures.empty c.in_ok-table.ensures.places c.in_ok-table.ensures.leaves) in
    let looked = c.in_ok-system.ensures.found im shows known in
    let searched = c.in_ok-system.ensures.searched im shows known in
    let shows1 = shows_now _ _ im c.in_ok-system.ensures.reads.same shows in
    let rings = c.in_ok-rings.ensures.found im shows1 looked searched in
    let shows2 = shows_now _ _ im (c.in_ok-rings.ensures.reads.same ∙ c.in_ok-system.ensures.reads.same) shows in
    c.in_err-journals.ensures.refused (layout_of c.in_ok-system.system) im shows2 looked.names rings.dinodes rings.each)

pub returns-clause-mounted : goal.returns-clause-mounted
returns-clause-mounted g c =
    is_mounted (g.D.SharedDisk.state c.args.disk.now) _
    (λ (im : Image) (shows : ShowsSystem (g.D.SharedDisk.state c.args.disk.now) im).
    let known = (searched_new im c.in_ok-table.table c.in_ok-table.ensures.empty c.in_ok-table.ensures.places c.in_ok-table.ensures.leaves) in
    let looked = c.in_ok-system.ensures.found im shows known in
    let searched = c.in_ok-system.ensures.searched im shows known in
    let shows1 = shows_now _ _ im c.in_ok-system.ensures.reads.same shows in
    let rings = c.in_ok-rings.ensures.found im shows1 looked searched in
    let shows2 = shows_now _ _ im (c.in_ok-rings.ensures.reads.same ∙ c.in_ok-system.ensures.reads.same) shows in
    let journals = c.in_ok-journals.ensures.found im shows2 rings.each in (
      mounted im c.in_ok-system.system c.in_ok-rings.rings.items c.in_ok-journals.journals.items _ looked rings journals c.in_ok-rings.ensures.placed
          (marked_once c.search_system.new.table c.find_rings.new.table (all_places c.in_ok-rings.rings.items) c.in_ok-rings.ensures.marked) c.in_ok-rings.ensures.own c.find_rings.new.table
          (stay_kept im c.search_system.new.table c.find_rings.new.table c.in_ok-system.system c.in_ok-rings.ensures.grown (c.in_ok-system.ensures.dinodes im shows known)) c.in_ok-rings.ensures.kept
          (c.in_ok-rings.ensures.ways im shows1 looked searched)
          c.search_system.new.table c.in_ok-rings.ensures.grown (c.in_ok-rings.ensures.grown.unread (c.in_ok-system.ensures.grown.unread (unread_new c.in_ok-table.table c.in_ok-table.ensures.places)))
          (c.in_ok-system.ensures.read im shows known) c.in_ok-rings.ensures.marked
          (c.in_ok-rings.ensures.searched im shows1 looked searched) c.in_ok-taken.ensures.taken
          (λ b is. subst (λ n. b < n) (c.in_ok-rings.ensures.work.count ∙ sym shows2.count) (c.in_ok-taken.ensures.inside b is)) refl (c.in_ok-map_groups.ensures ∙ ap (map group_of_entry) c.deref.ensures.value) refl,
      files_fit im c.in_ok-system.system c.in_ok-rings.rings.items looked rings,
    ))

pub returns-clause-shown : goal.returns-clause-shown
returns-clause-shown g c im shows =
    let known = (searched_new im c.in_ok-table.table c.in_ok-table.ensures.empty c.in_ok-table.ensures.places c.in_ok-table.ensures.leaves) in
    let looked = c.in_ok-system.ensures.found im shows known in
    let searched = c.in_ok-system.ensures.searched im shows known in
    let shows1 = shows_now _ _ im c.in_ok-system.ensures.reads.same shows in
    let rings = c.in_ok-rings.ensures.found im shows1 looked searched in
    let shows2 = shows_now _ _ im (c.in_ok-rings.ensures.reads.same ∙ c.in_ok-system.ensures.reads.same) shows in
    let journals = c.in_ok-journals.ensures.found im shows2 rings.each in
    mounted im c.in_ok-system.system c.in_ok-rings.rings.items c.in_ok-journals.journals.items _ looked rings journals c.in_ok-rings.ensures.placed
    (marked_once c.search_system.new.table c.find_rings.new.table (all_places c.in_ok-rings.rings.items) c.in_ok-rings.ensures.marked) c.in_ok-rings.ensures.own c.find_rings.new.table
    (stay_kept im c.search_system.new.table c.find_rings.new.table c.in_ok-system.system c.in_ok-rings.ensures.grown (c.in_ok-system.ensures.dinodes im shows known)) c.in_ok-rings.ensures.kept
    (c.in_ok-rings.ensures.ways im shows1 looked searched)
    c.search_system.new.table c.in_ok-rings.ensures.grown (c.in_ok-rings.ensures.grown.unread (c.in_ok-system.ensures.grown.unread (unread_new c.in_ok-table.table c.in_ok-table.ensures.places)))
    (c.in_ok-system.ensures.read im shows known) c.in_ok-rings.ensures.marked
    (c.in_ok-rings.ensures.searched im shows1 looked searched) c.in_ok-taken.ensures.taken
    (λ b is. subst (λ n. b < n) (c.in_ok-rings.ensures.work.count ∙ sym shows2.count) (c.in_ok-taken.ensures.inside b is)) refl (c.in_ok-map_groups.ensures ∙ ap (map group_of_entry) c.deref.ensures.value) refl

pub returns-clause-alike : goal.returns-clause-alike
returns-clause-alike g c =
    is_alike (g.D.SharedDisk.state c.args.disk.now) _
    (λ (im : Image) (shows : ShowsSystem (g.D.SharedDisk.state c.args.disk.now) im).
    let known = (searched_new im c.in_ok-table.table c.in_ok-table.ensures.empty c.in_ok-table.ensures.places c.in_ok-table.ensures.leaves) in
    let looked = c.in_ok-system.ensures.found im shows known in
    let searched = c.in_ok-system.ensures.searched im shows known in
    let shows1 = shows_now _ _ im c.in_ok-system.ensures.reads.same shows in
    let rings = c.in_ok-rings.ensures.found im shows1 looked searched in
    let shows2 = shows_now _ _ im (c.in_ok-rings.ensures.reads.same ∙ c.in_ok-system.ensures.reads.same) shows in
    let journals = c.in_ok-journals.ensures.found im shows2 rings.each in (
      mounted im c.in_ok-system.system c.in_ok-rings.rings.items c.in_ok-journals.journals.items _ looked rings journals c.in_ok-rings.ensures.placed
          (marked_once c.search_system.new.table c.find_rings.new.table (all_places c.in_ok-rings.rings.items) c.in_ok-rings.ensures.marked) c.in_ok-rings.ensures.own c.find_rings.new.table
          (stay_kept im c.search_system.new.table c.find_rings.new.table c.in_ok-system.system c.in_ok-rings.ensures.grown (c.in_ok-system.ensures.dinodes im shows known)) c.in_ok-rings.ensures.kept
          (c.in_ok-rings.ensures.ways im shows1 looked searched)
          c.search_system.new.table c.in_ok-rings.ensures.grown (c.in_ok-rings.ensures.grown.unread (c.in_ok-system.ensures.grown.unread (unread_new c.in_ok-table.table c.in_ok-table.ensures.places)))
          (c.in_ok-system.ensures.read im shows known) c.in_ok-rings.ensures.marked
          (c.in_ok-rings.ensures.searched im shows1 looked searched) c.in_ok-taken.ensures.taken
          (λ b is. subst (λ n. b < n) (c.in_ok-rings.ensures.work.count ∙ sym shows2.count) (c.in_ok-taken.ensures.inside b is)) refl (c.in_ok-map_groups.ensures ∙ ap (map group_of_entry) c.deref.ensures.value) refl,
      files_fit im c.in_ok-system.system c.in_ok-rings.rings.items looked rings,
    ))
