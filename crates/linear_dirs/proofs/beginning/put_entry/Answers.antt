use Rattle.std.proofs.Common.{◌∙◌, sym, subst}
use Rattle.gfs2_layout.specs.Putting.{IsEntryOf}
use Rattle.gfs2_layout.specs.declared.dirent.Dirent.{Dirent}
use Rattle.linear_dirs.proofs.Exchanged.{entry_for}
use Rattle.linear_dirs.proofs.beginning.put_entry.Goals as goal

pub returns-clause-area : goal.returns-clause-area
returns-clause-area c =
    let of = subst (λ (x : Dirent). IsEntryOf x c.args.name.now) (sym c.head_for.ensures) (entry_for c.args.name.now c.args.entry.now c.requires.some c.requires.short c.requires.number c.requires.address) in
    (c.areas_exchange_records.ensures.put c.args.area.now c.put_record.new.area c.head_for.result c.args.name.now c.requires.area of (c.put_record.ensures.put (c.put_record.ensures.room ∙ c.requires.room)) c.put_record.ensures.area).0
