use Rattle.std.proofs.Common.{◌≡◌, ◌-◌, ◌∙◌, ℕ, List, length, replicate, ap, refl, arith}
use Rattle.gfs2_layout.specs.Bytes.{put_at, slice}
use Rattle.gfs2_layout.specs.Area.{slot_at}
use Rattle.gfs2_layout.specs.Putting.{new_slot}
use Rattle.gfs2_layout.specs.declared.dirent.Dirent.{Dirent}
use Rattle.gfs2_layout.proofs.Written.{slot_written}
use Rattle.leaf_areas.proofs.Alone.{over_zeros}
use Rattle.leaf_areas.proofs.moving.write_record.Goals as goal

pub returns : goal.returns
returns c =
    let zeros : List ℕ = replicate 12 0 in
    let entry : Dirent = record c.args.entry.now { rahead = 0 } in
    let name = c.args.name.now in
    let bytes = c.args.bytes.now in
    let cleared = c.put_zeros.new.bytes in
    let size : length cleared ≡ length bytes = c.put_zeros.auto.bytes in
    ap slot_at (c.put_bytes-2.ensures ∙ ap (put_at 40 name) c.put_bytes.ensures)
    ∙ slot_written cleared c.write.new.bytes zeros name entry (length bytes) refl c.write.ensures.behind c.write.auto.bytes c.write.ensures.head c.requires.name (omega (arith, size))
    ∙ ap (λ (b : List ℕ). new_slot entry name (slice 40 (length bytes - 40) b)) c.put_zeros.ensures
    ∙ ap (new_slot entry name) (over_zeros bytes (omega (arith, c.requires.name)))
