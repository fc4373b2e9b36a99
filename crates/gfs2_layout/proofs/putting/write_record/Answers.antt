use Rattle.std.proofs.Common.{◌∙◌, ℕ, List, replicate, drop, ap, refl, arith}
use Rattle.gfs2_layout.specs.Bytes.{put_at}
use Rattle.gfs2_layout.specs.Area.{slot_at}
use Rattle.gfs2_layout.proofs.Written.{slot_written, behind_written}
use Rattle.gfs2_layout.proofs.putting.write_record.Goals as goal

pub returns-clause-slot : goal.returns-clause-slot
returns-clause-slot c =
    let zeros : List ℕ = replicate 12 0 in
    ap slot_at (c.put_bytes-2.ensures ∙ ap (put_at 40 c.args.name.now) c.put_bytes.ensures)
    ∙ slot_written c.args.bytes.now c.write.new.bytes zeros c.args.name.now c.args.entry.now c.args.rec_len refl c.write.ensures.behind c.write.auto.bytes c.write.ensures.head c.requires.name c.requires.inside

pub returns-clause-behind : goal.returns-clause-behind
returns-clause-behind c =
    let zeros : List ℕ = replicate 12 0 in
    ap (drop c.args.rec_len) (c.put_bytes-2.ensures ∙ ap (put_at 40 c.args.name.now) c.put_bytes.ensures)
    ∙ behind_written c.args.bytes.now c.write.new.bytes zeros c.args.name.now refl c.write.ensures.behind c.write.auto.bytes (omega arith) c.args.rec_len c.requires.name
