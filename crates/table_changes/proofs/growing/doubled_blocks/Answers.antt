use Rattle.std.proofs.Common.{ap, sym, ◌∙◌, subst, arith}
use Rattle.std.specs.Prelude.{Contains}
use Rattle.table_changes.proofs.Committed.{contradict, whole_blocks}
use Rattle.table_changes.proofs.Whole.{below_1, can_1, doubled_at_last, file_now, fresh_seen, shown_1, there_1, there_2}
use Rattle.table_changes.proofs.growing.doubled_blocks.Goals as goal

pub returns-then-not-as_file-clause-doubled : goal.returns-then-not-as_file-clause-doubled
returns-then-not-as_file-clause-doubled g c = λ h table is_d doubled below can.
    let at0 = fresh_seen g.V.View.seen c.args.view.now c.new-draft.result c.new-draft.ensures c.args.table.directory ∙ c.requires.there.1 in
    let put1 = c.in_ok-as_file.ensures.put c.requires.there.0 at0 in
    let read1 = c.in_ok-as_file.ensures.read c.requires.there.0 at0 in
    let behind1 = c.in_ok-as_file.ensures.behind c.requires.there.0 at0 in
    let whole1 = c.in_ok-as_file.ensures.whole c.requires.there.0 at0 in
    contradict c.in_ok-as_file.as_file put1.0 c.if-not-as_file.true

pub returns-then-not-written-clause-doubled : goal.returns-then-not-written-clause-doubled
returns-then-not-written-clause-doubled g c = λ h table is_d doubled below can.
    let at0 = fresh_seen g.V.View.seen c.args.view.now c.new-draft.result c.new-draft.ensures c.args.table.directory ∙ c.requires.there.1 in
    let put1 = c.in_ok-as_file.ensures.put c.requires.there.0 at0 in
    let read1 = c.in_ok-as_file.ensures.read c.requires.there.0 at0 in
    let behind1 = c.in_ok-as_file.ensures.behind c.requires.there.0 at0 in
    let whole1 = c.in_ok-as_file.ensures.whole c.requires.there.0 at0 in
    let file = file_now g.V.View.seen c.args.view.now c.args.table h c.args.room.now.items table c.block_size-size.ensures.view.block_size can c.args.dinode.now is_d c.block_size-size.result c.block_size-size.ensures.value c.args.bytes.now doubled below c.new-draft.result c.put_dinode.new.draft c.new-draft.ensures c.requires.there.0 at0 table.shown.dinode c.file_of-file.result c.file_of-file.ensures put1.1 read1 behind1 whole1 in
    let wrote = c.in_ok-written.ensures.written file (shown_1 g.V.View.seen c.args.view.now c.args.table h c.args.room.now.items table c.block_size-size.ensures.view.block_size can c.args.dinode.now is_d c.block_size-size.result c.block_size-size.ensures.value c.args.bytes.now doubled below c.new-draft.result c.put_dinode.new.draft c.new-draft.ensures c.requires.there.0 at0 table.shown.dinode c.file_of-file.result c.file_of-file.ensures put1.1 read1 behind1 whole1) (can_1 g.V.View.seen c.args.view.now c.args.table h c.args.room.now.items table c.block_size-size.ensures.view.block_size can c.args.dinode.now is_d c.block_size-size.result c.block_size-size.ensures.value c.args.bytes.now doubled below c.new-draft.result c.put_dinode.new.draft c.new-draft.ensures c.requires.there.0 at0 table.shown.dinode c.file_of-file.result c.file_of-file.ensures put1.1 read1 behind1 whole1) (below_1 g.V.View.seen c.args.view.now c.args.table h c.args.room.now.items table c.block_size-size.ensures.view.block_size can c.args.dinode.now is_d c.block_size-size.result c.block_size-size.ensures.value c.args.bytes.now doubled below c.new-draft.result c.put_dinode.new.draft c.new-draft.ensures c.requires.there.0 at0 table.shown.dinode c.file_of-file.result c.file_of-file.ensures put1.1 read1 behind1 whole1) (there_1 g.V.View.seen c.args.view.now c.args.table h c.args.room.now.items table c.block_size-size.ensures.view.block_size can c.args.dinode.now is_d c.block_size-size.result c.block_size-size.ensures.value c.args.bytes.now doubled below c.new-draft.result c.put_dinode.new.draft c.new-draft.ensures c.requires.there.0 at0 table.shown.dinode c.file_of-file.result c.file_of-file.ensures put1.1 read1 behind1 whole1) in
    contradict c.in_ok-written.written wrote.0 c.if-not-written.true

pub returns-then-not-as_directory-clause-doubled : goal.returns-then-not-as_directory-clause-doubled
returns-then-not-as_directory-clause-doubled g c = λ h table is_d doubled below can.
    let at0 = fresh_seen g.V.View.seen c.args.view.now c.new-draft.result c.new-draft.ensures c.args.table.directory ∙ c.requires.there.1 in
    let put1 = c.in_ok-as_file.ensures.put c.requires.there.0 at0 in
    let read1 = c.in_ok-as_file.ensures.read c.requires.there.0 at0 in
    let behind1 = c.in_ok-as_file.ensures.behind c.requires.there.0 at0 in
    let whole1 = c.in_ok-as_file.ensures.whole c.requires.there.0 at0 in
    let file = file_now g.V.View.seen c.args.view.now c.args.table h c.args.room.now.items table c.block_size-size.ensures.view.block_size can c.args.dinode.now is_d c.block_size-size.result c.block_size-size.ensures.value c.args.bytes.now doubled below c.new-draft.result c.put_dinode.new.draft c.new-draft.ensures c.requires.there.0 at0 table.shown.dinode c.file_of-file.result c.file_of-file.ensures put1.1 read1 behind1 whole1 in
    let wrote = c.in_ok-written.ensures.written file (shown_1 g.V.View.seen c.args.view.now c.args.table h c.args.room.now.items table c.block_size-size.ensures.view.block_size can c.args.dinode.now is_d c.block_size-size.result c.block_size-size.ensures.value c.args.bytes.now doubled below c.new-draft.result c.put_dinode.new.draft c.new-draft.ensures c.requires.there.0 at0 table.shown.dinode c.file_of-file.result c.file_of-file.ensures put1.1 read1 behind1 whole1) (can_1 g.V.View.seen c.args.view.now c.args.table h c.args.room.now.items table c.block_size-size.ensures.view.block_size can c.args.dinode.now is_d c.block_size-size.result c.block_size-size.ensures.value c.args.bytes.now doubled below c.new-draft.result c.put_dinode.new.draft c.new-draft.ensures c.requires.there.0 at0 table.shown.dinode c.file_of-file.result c.file_of-file.ensures put1.1 read1 behind1 whole1) (below_1 g.V.View.seen c.args.view.now c.args.table h c.args.room.now.items table c.block_size-size.ensures.view.block_size can c.args.dinode.now is_d c.block_size-size.result c.block_size-size.ensures.value c.args.bytes.now doubled below c.new-draft.result c.put_dinode.new.draft c.new-draft.ensures c.requires.there.0 at0 table.shown.dinode c.file_of-file.result c.file_of-file.ensures put1.1 read1 behind1 whole1) (there_1 g.V.View.seen c.args.view.now c.args.table h c.args.room.now.items table c.block_size-size.ensures.view.block_size can c.args.dinode.now is_d c.block_size-size.result c.block_size-size.ensures.value c.args.bytes.now doubled below c.new-draft.result c.put_dinode.new.draft c.new-draft.ensures c.requires.there.0 at0 table.shown.dinode c.file_of-file.result c.file_of-file.ensures put1.1 read1 behind1 whole1) in
    let there2 = there_2 g.V.View.seen c.args.view.now c.args.table h c.args.room.now.items table c.block_size-size.ensures.view.block_size can c.args.dinode.now is_d c.block_size-size.result c.block_size-size.ensures.value c.args.bytes.now doubled below c.new-draft.result c.put_dinode.new.draft c.new-draft.ensures c.requires.there.0 at0 table.shown.dinode c.file_of-file.result c.file_of-file.ensures put1.1 read1 behind1 whole1 c.write_table.new.room.items c.write_table.new.draft c.write_table.ensures.view wrote.1 in
    let put3 = c.in_ok-as_directory.ensures.put there2.0 there2.1 in
    let read3 = c.in_ok-as_directory.ensures.read there2.0 there2.1 in
    let behind3 = c.in_ok-as_directory.ensures.behind there2.0 there2.1 in
    let whole3 = c.in_ok-as_directory.ensures.whole there2.0 there2.1 in
    contradict c.in_ok-as_directory.as_directory put3.0 c.if-not-as_directory.true

pub put_dinode-requires-2 : goal.put_dinode-requires-2
put_dinode-requires-2 g c =
    let same = ap (λ d. (g.V.View.seen d).size) (c.write_table.ensures.view ∙ c.put_dinode.ensures.view ∙ ap (λ d. d.view) c.new-draft.ensures) in
    omega (arith, same, c.block_size-size.ensures.view.block_size)

pub returns-then-not-are_whole-clause-doubled : goal.returns-then-not-are_whole-clause-doubled
returns-then-not-are_whole-clause-doubled g c = λ h table is_d doubled below can.
    let at0 = fresh_seen g.V.View.seen c.args.view.now c.new-draft.result c.new-draft.ensures c.args.table.directory ∙ c.requires.there.1 in
    let put1 = c.in_ok-as_file.ensures.put c.requires.there.0 at0 in
    let read1 = c.in_ok-as_file.ensures.read c.requires.there.0 at0 in
    let behind1 = c.in_ok-as_file.ensures.behind c.requires.there.0 at0 in
    let whole1 = c.in_ok-as_file.ensures.whole c.requires.there.0 at0 in
    let file = file_now g.V.View.seen c.args.view.now c.args.table h c.args.room.now.items table c.block_size-size.ensures.view.block_size can c.args.dinode.now is_d c.block_size-size.result c.block_size-size.ensures.value c.args.bytes.now doubled below c.new-draft.result c.put_dinode.new.draft c.new-draft.ensures c.requires.there.0 at0 table.shown.dinode c.file_of-file.result c.file_of-file.ensures put1.1 read1 behind1 whole1 in
    let wrote = c.in_ok-written.ensures.written file (shown_1 g.V.View.seen c.args.view.now c.args.table h c.args.room.now.items table c.block_size-size.ensures.view.block_size can c.args.dinode.now is_d c.block_size-size.result c.block_size-size.ensures.value c.args.bytes.now doubled below c.new-draft.result c.put_dinode.new.draft c.new-draft.ensures c.requires.there.0 at0 table.shown.dinode c.file_of-file.result c.file_of-file.ensures put1.1 read1 behind1 whole1) (can_1 g.V.View.seen c.args.view.now c.args.table h c.args.room.now.items table c.block_size-size.ensures.view.block_size can c.args.dinode.now is_d c.block_size-size.result c.block_size-size.ensures.value c.args.bytes.now doubled below c.new-draft.result c.put_dinode.new.draft c.new-draft.ensures c.requires.there.0 at0 table.shown.dinode c.file_of-file.result c.file_of-file.ensures put1.1 read1 behind1 whole1) (below_1 g.V.View.seen c.args.view.now c.args.table h c.args.room.now.items table c.block_size-size.ensures.view.block_size can c.args.dinode.now is_d c.block_size-size.result c.block_size-size.ensures.value c.args.bytes.now doubled below c.new-draft.result c.put_dinode.new.draft c.new-draft.ensures c.requires.there.0 at0 table.shown.dinode c.file_of-file.result c.file_of-file.ensures put1.1 read1 behind1 whole1) (there_1 g.V.View.seen c.args.view.now c.args.table h c.args.room.now.items table c.block_size-size.ensures.view.block_size can c.args.dinode.now is_d c.block_size-size.result c.block_size-size.ensures.value c.args.bytes.now doubled below c.new-draft.result c.put_dinode.new.draft c.new-draft.ensures c.requires.there.0 at0 table.shown.dinode c.file_of-file.result c.file_of-file.ensures put1.1 read1 behind1 whole1) in
    let there2 = there_2 g.V.View.seen c.args.view.now c.args.table h c.args.room.now.items table c.block_size-size.ensures.view.block_size can c.args.dinode.now is_d c.block_size-size.result c.block_size-size.ensures.value c.args.bytes.now doubled below c.new-draft.result c.put_dinode.new.draft c.new-draft.ensures c.requires.there.0 at0 table.shown.dinode c.file_of-file.result c.file_of-file.ensures put1.1 read1 behind1 whole1 c.write_table.new.room.items c.write_table.new.draft c.write_table.ensures.view wrote.1 in
    let put3 = c.in_ok-as_directory.ensures.put there2.0 there2.1 in
    let read3 = c.in_ok-as_directory.ensures.read there2.0 there2.1 in
    let behind3 = c.in_ok-as_directory.ensures.behind there2.0 there2.1 in
    let whole3 = c.in_ok-as_directory.ensures.whole there2.0 there2.1 in
    let made = doubled_at_last g.V.View.seen c.args.view.now c.args.table h c.args.room.now.items table c.block_size-size.ensures.view.block_size can c.args.dinode.now is_d c.block_size-size.result c.block_size-size.ensures.value c.args.bytes.now doubled below c.new-draft.result c.put_dinode.new.draft c.new-draft.ensures c.requires.there.0 at0 table.shown.dinode c.file_of-file.result c.file_of-file.ensures put1.1 read1 behind1 whole1 c.write_table.new.room.items c.write_table.new.draft c.write_table.ensures.view wrote.1 there2.0 there2.1 c.put_dinode-2.new.draft c.doubled_of-doubled.result c.doubled_of-doubled.ensures put3.1 read3 behind3 whole3 c.in_ok-change.change.blocks.items c.in_ok-change.ensures.blocks in
    contradict c.are_whole.result (c.are_whole.ensures.1 (λ w has. whole_blocks h c.args.room.now.items c.write_table.new.room.items c.in_ok-change.change.blocks.items made w (subst (λ xs. Contains xs w) c.deref.ensures.value has) ∙ table.shown.size ∙ sym c.block_size-size.ensures.value)) c.if-not-are_whole.true

pub returns-clause-doubled : goal.returns-clause-doubled
returns-clause-doubled g c = λ h table is_d doubled below can.
    let at0 = fresh_seen g.V.View.seen c.args.view.now c.new-draft.result c.new-draft.ensures c.args.table.directory ∙ c.requires.there.1 in
    let put1 = c.in_ok-as_file.ensures.put c.requires.there.0 at0 in
    let read1 = c.in_ok-as_file.ensures.read c.requires.there.0 at0 in
    let behind1 = c.in_ok-as_file.ensures.behind c.requires.there.0 at0 in
    let whole1 = c.in_ok-as_file.ensures.whole c.requires.there.0 at0 in
    let file = file_now g.V.View.seen c.args.view.now c.args.table h c.args.room.now.items table c.block_size-size.ensures.view.block_size can c.args.dinode.now is_d c.block_size-size.result c.block_size-size.ensures.value c.args.bytes.now doubled below c.new-draft.result c.put_dinode.new.draft c.new-draft.ensures c.requires.there.0 at0 table.shown.dinode c.file_of-file.result c.file_of-file.ensures put1.1 read1 behind1 whole1 in
    let wrote = c.in_ok-written.ensures.written file (shown_1 g.V.View.seen c.args.view.now c.args.table h c.args.room.now.items table c.block_size-size.ensures.view.block_size can c.args.dinode.now is_d c.block_size-size.result c.block_size-size.ensures.value c.args.bytes.now doubled below c.new-draft.result c.put_dinode.new.draft c.new-draft.ensures c.requires.there.0 at0 table.shown.dinode c.file_of-file.result c.file_of-file.ensures put1.1 read1 behind1 whole1) (can_1 g.V.View.seen c.args.view.now c.args.table h c.args.room.now.items table c.block_size-size.ensures.view.block_size can c.args.dinode.now is_d c.block_size-size.result c.block_size-size.ensures.value c.args.bytes.now doubled below c.new-draft.result c.put_dinode.new.draft c.new-draft.ensures c.requires.there.0 at0 table.shown.dinode c.file_of-file.result c.file_of-file.ensures put1.1 read1 behind1 whole1) (below_1 g.V.View.seen c.args.view.now c.args.table h c.args.room.now.items table c.block_size-size.ensures.view.block_size can c.args.dinode.now is_d c.block_size-size.result c.block_size-size.ensures.value c.args.bytes.now doubled below c.new-draft.result c.put_dinode.new.draft c.new-draft.ensures c.requires.there.0 at0 table.shown.dinode c.file_of-file.result c.file_of-file.ensures put1.1 read1 behind1 whole1) (there_1 g.V.View.seen c.args.view.now c.args.table h c.args.room.now.items table c.block_size-size.ensures.view.block_size can c.args.dinode.now is_d c.block_size-size.result c.block_size-size.ensures.value c.args.bytes.now doubled below c.new-draft.result c.put_dinode.new.draft c.new-draft.ensures c.requires.there.0 at0 table.shown.dinode c.file_of-file.result c.file_of-file.ensures put1.1 read1 behind1 whole1) in
    let there2 = there_2 g.V.View.seen c.args.view.now c.args.table h c.args.room.now.items table c.block_size-size.ensures.view.block_size can c.args.dinode.now is_d c.block_size-size.result c.block_size-size.ensures.value c.args.bytes.now doubled below c.new-draft.result c.put_dinode.new.draft c.new-draft.ensures c.requires.there.0 at0 table.shown.dinode c.file_of-file.result c.file_of-file.ensures put1.1 read1 behind1 whole1 c.write_table.new.room.items c.write_table.new.draft c.write_table.ensures.view wrote.1 in
    let put3 = c.in_ok-as_directory.ensures.put there2.0 there2.1 in
    let read3 = c.in_ok-as_directory.ensures.read there2.0 there2.1 in
    let behind3 = c.in_ok-as_directory.ensures.behind there2.0 there2.1 in
    let whole3 = c.in_ok-as_directory.ensures.whole there2.0 there2.1 in
    doubled_at_last g.V.View.seen c.args.view.now c.args.table h c.args.room.now.items table c.block_size-size.ensures.view.block_size can c.args.dinode.now is_d c.block_size-size.result c.block_size-size.ensures.value c.args.bytes.now doubled below c.new-draft.result c.put_dinode.new.draft c.new-draft.ensures c.requires.there.0 at0 table.shown.dinode c.file_of-file.result c.file_of-file.ensures put1.1 read1 behind1 whole1 c.write_table.new.room.items c.write_table.new.draft c.write_table.ensures.view wrote.1 there2.0 there2.1 c.put_dinode-2.new.draft c.doubled_of-doubled.result c.doubled_of-doubled.ensures put3.1 read3 behind3 whole3 c.in_ok-change.change.blocks.items c.in_ok-change.ensures.blocks

pub returns-clause-whole : goal.returns-clause-whole
returns-clause-whole g c = λ w has. c.are_whole.ensures.0 c.if-not-are_whole.false w (subst (λ xs. Contains xs w) (sym c.deref.ensures.value) has) ∙ c.block_size-size.ensures.value
