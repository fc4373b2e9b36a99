use Rattle.std.proofs.Common.{subst}
use Rattle.glock_names.specs.Steps.{TellsOf}
use Rattle.glock_names.proofs.StepLaws.{answer_at, needed_at}
use Rattle.table_changes.specs.Pointers.{IsTableBroken}
use Rattle.hash_inserts.proofs.Doubling.{can_double, doubled_all}
use Rattle.hash_inserts.proofs.Seen.{none_broken, none_needed}
use Rattle.hash_inserts.proofs.pointers.double_table.Goals as goal

pub returns-in-Ok-Is-clause-doubled : goal.returns-in-Ok-Is-clause-doubled
returns-in-Ok-Is-clause-doubled g c h shown shows sound few deep sees free enough =
    let done = answer_at c.in-Ok-Is.field-0 c.in-Ok-Is.done _ c.in-Ok-Is.field-0-is (c.in-Ok-Is.ensures.doubled h shows (can_double h c.args.room.now.items sound shown.hashed few deep free enough)) in
    let within = answer_at c.in-Ok-Is.field-0 c.in-Ok-Is.done _ c.in-Ok-Is.field-0-is (c.in-Ok-Is.ensures.parts h shows) done.0 in (
      done.0,
      doubled_all g.V.View.seen c.args.draft.now c.double.new.draft c.args.dir c.args.room.now.items c.double.new.room.items h done.1.0 shown sound deep done.1.2 within c.in-Ok-Is.ensures.view c.sound_inodes_are_shown.ensures c.doublings_stay.ensures
          (g.T.PointerTable.shows c.double.new.self) done.1.1,
    )

pub returns-in-Ok-NeedBlock-clause-doubled : goal.returns-in-Ok-NeedBlock-clause-doubled
returns-in-Ok-NeedBlock-clause-doubled g c h shown shows sound few deep sees free enough =
    absurd (none_needed _ h _ c.in-Ok-NeedBlock._missing sees (needed_at c.in-Ok-NeedBlock.field-0 c.in-Ok-NeedBlock._missing _ c.in-Ok-NeedBlock.field-0-is (c.in-Ok-NeedBlock.ensures.needed h shows)))

pub returns-in-Err-Damaged-clause-doubled : goal.returns-in-Err-Damaged-clause-doubled
returns-in-Err-Damaged-clause-doubled g c h shown shows sound few deep sees free enough =
    absurd (none_broken c.sound_inodes_break_nothing.ensures h _ _ sound shown.hashed (subst (TellsOf (IsTableBroken h)) c.in-Err-Damaged.field-0-is (c.in-Err-Damaged.ensures.damaged h shows)))
