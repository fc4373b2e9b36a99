use Rattle.std.proofs.Common.{ℕ, ◌/◌, length, refl, sym, subst, ◌∙◌}
use Rattle.image_journals.specs.Frames.{HasSameFrame}
use Rattle.image_model.specs.Image.{image_in}
use Rattle.replayed_trees.specs.Answers.{HasNoSystem}
use Rattle.replayed_trees.specs.Planning.{AreInside}
use Rattle.replayed_trees.proofs.Found.{all_found, by_layout, by_told, err_so, lies_broken, lies_told, no_system, ok_so, outside, sharing, untold}
use Rattle.replayed_trees.proofs.Inside.{inside_tested}
use Rattle.replayed_trees.proofs.tree.read_replayed_image.Goals as goal

pub returns-in-Err-Broken-clause-stands : goal.returns-in-Err-Broken-clause-stands
returns-in-Err-Broken-clause-stands c t is =
    let im = image_in c.args.block_size c.args.bytes.items in
    let same = sharing im t is c.standing_replays_share_their_system.ensures in
    let seen = subst (λ b. HasSameFrame is.replayed (image_in c.args.block_size b)) (sym c.deref.ensures.value) same in
    let none = c.in-Err-Broken.ensures is.replayed is.stands.owners is.stands.layout seen is.stands.laid in
    absurd (rw c.in-Err-Broken.field-0-is at none)

pub returns-then-not-are_journals_inside-clause-stands : goal.returns-then-not-are_journals_inside-clause-stands
returns-then-not-are_journals_inside-clause-stands c t is =
    let im = image_in c.args.block_size c.args.bytes.items in
    let none : HasNoSystem im =
    outside c.args.block_size c.args.bytes.items c.deref.result.now c.deref.result.now c.deref.ensures.value c.deref.ensures.value c.in-Ok.journals.items c.in-Ok.journals.items refl c.in-Ok.ensures c.len.result (c.len.ensures ∙ c.args.bytes.ok.0) c.deref-2.result.now c.deref-2.ensures.value
    (sym c.are_journals_inside.ensures ∙ c.if-not-are_journals_inside.true) in
    absurd (none is.replayed is.stands.owners is.stands.layout (sharing im t is c.standing_replays_share_their_system.ensures) is.stands.laid)

pub returns-then-not-are_journals_inside-clause-lies : goal.returns-then-not-are_journals_inside-clause-lies
returns-then-not-are_journals_inside-clause-lies c =
    let im = image_in c.args.block_size c.args.bytes.items in
    let none : HasNoSystem im =
    outside c.args.block_size c.args.bytes.items c.deref.result.now c.deref.result.now c.deref.ensures.value c.deref.ensures.value c.in-Ok.journals.items c.in-Ok.journals.items refl c.in-Ok.ensures c.len.result (c.len.ensures ∙ c.args.bytes.ok.0) c.deref-2.result.now c.deref-2.ensures.value
    (sym c.are_journals_inside.ensures ∙ c.if-not-are_journals_inside.true) in
    lies_told im c.told_as_it_lies-then-not-are_journals_inside.result none c.told_as_it_lies-then-not-are_journals_inside.ensures.lies

pub returns-then-not-are_journals_inside-clause-broken : goal.returns-then-not-are_journals_inside-clause-broken
returns-then-not-are_journals_inside-clause-broken c =
    let im = image_in c.args.block_size c.args.bytes.items in
    let none : HasNoSystem im =
    outside c.args.block_size c.args.bytes.items c.deref.result.now c.deref.result.now c.deref.ensures.value c.deref.ensures.value c.in-Ok.journals.items c.in-Ok.journals.items refl c.in-Ok.ensures c.len.result (c.len.ensures ∙ c.args.bytes.ok.0) c.deref-2.result.now c.deref-2.ensures.value
    (sym c.are_journals_inside.ensures ∙ c.if-not-are_journals_inside.true) in
    lies_broken im c.told_as_it_lies-then-not-are_journals_inside.result none

pub read_by-requires-clause-inside : goal.read_by-requires-clause-inside
read_by-requires-clause-inside c =
    subst (AreInside (length c.args.bytes.items / c.args.block_size)) (sym c.deref-5.ensures.value)
    (subst (λ (n : ℕ). AreInside (n / c.args.block_size) c.in-Ok.journals.items) (c.len.ensures ∙ c.args.bytes.ok.0)
    (subst (AreInside (c.len.result / c.args.block_size)) c.deref-2.ensures.value
    (inside_tested (c.len.result / c.args.block_size) c.deref-2.result.now (sym c.are_journals_inside.ensures ∙ c.if-not-are_journals_inside.false))))

pub returns-in-Err-Broken-first_marks-clause-stands : goal.returns-in-Err-Broken-first_marks-clause-stands
returns-in-Err-Broken-first_marks-clause-stands c t is =
    let im = image_in c.args.block_size c.args.bytes.items in
    let none : HasNoSystem im =
    no_system c.args.block_size c.args.bytes.items c.deref.result.now c.deref-3.result.now c.deref.ensures.value c.deref-3.ensures.value c.in-Ok.journals.items c.deref-4.result.now c.deref-4.ensures.value c.in-Ok.ensures
    c.in-Err-Broken-first_marks.field-0 c.in-Err-Broken-first_marks.field-0-is c.in-Err-Broken-first_marks.ensures.marks in
    absurd (none is.replayed is.stands.owners is.stands.layout (sharing im t is c.standing_replays_share_their_system.ensures) is.stands.laid)

pub returns-in-Err-Broken-first_marks-clause-damaged : goal.returns-in-Err-Broken-first_marks-clause-damaged
returns-in-Err-Broken-first_marks-clause-damaged c = untold (image_in c.args.block_size c.args.bytes.items) c.told_as_it_lies-in-Err-Broken-first_marks.result c.told_as_it_lies-in-Err-Broken-first_marks.ensures.damaged

pub returns-in-Err-Broken-first_marks-clause-lies : goal.returns-in-Err-Broken-first_marks-clause-lies
returns-in-Err-Broken-first_marks-clause-lies c =
    let im = image_in c.args.block_size c.args.bytes.items in
    lies_told im c.told_as_it_lies-in-Err-Broken-first_marks.result
    (no_system c.args.block_size c.args.bytes.items c.deref.result.now c.deref-3.result.now c.deref.ensures.value c.deref-3.ensures.value c.in-Ok.journals.items c.deref-4.result.now c.deref-4.ensures.value c.in-Ok.ensures
    c.in-Err-Broken-first_marks.field-0 c.in-Err-Broken-first_marks.field-0-is c.in-Err-Broken-first_marks.ensures.marks)
    c.told_as_it_lies-in-Err-Broken-first_marks.ensures.lies

pub returns-in-Err-Broken-first_marks-clause-broken : goal.returns-in-Err-Broken-first_marks-clause-broken
returns-in-Err-Broken-first_marks-clause-broken c =
    let im = image_in c.args.block_size c.args.bytes.items in
    lies_broken im c.told_as_it_lies-in-Err-Broken-first_marks.result
    (no_system c.args.block_size c.args.bytes.items c.deref.result.now c.deref-3.result.now c.deref.ensures.value c.deref-3.ensures.value c.in-Ok.journals.items c.deref-4.result.now c.deref-4.ensures.value c.in-Ok.ensures
    c.in-Err-Broken-first_marks.field-0 c.in-Err-Broken-first_marks.field-0-is c.in-Err-Broken-first_marks.ensures.marks)

pub returns-clause-stands : goal.returns-clause-stands
returns-clause-stands c t is =
    let im = image_in c.args.block_size c.args.bytes.items in
    let same = sharing im t is c.standing_replays_share_their_system.ensures in
    let all = all_found c.args.block_size c.args.bytes.items c.deref.result.now c.deref-3.result.now c.deref.ensures.value c.deref-3.ensures.value c.in-Ok.journals.items c.deref-4.result.now c.deref-4.ensures.value c.in-Ok.ensures
    is.replayed is.stands.owners is.stands.layout same is.stands.laid c.in-Ok-first_marks.marks c.deref-5.result.now c.deref-5.ensures.value c.in-Ok-first_marks.ensures.marks in
    c.read_by.ensures.stands is.stands.layout is.replayed t all.its all.found all.marked (by_layout im t is same) is.stands

pub returns-clause-replayable : goal.returns-clause-replayable
returns-clause-replayable c =
    ok_so c.read_by.result _ _
    (λ tree give r o l same laid.
    let all = all_found c.args.block_size c.args.bytes.items c.deref.result.now c.deref-3.result.now c.deref.ensures.value c.deref-3.ensures.value c.in-Ok.journals.items c.deref-4.result.now c.deref-4.ensures.value c.in-Ok.ensures
    r o l same laid c.in-Ok-first_marks.marks c.deref-5.result.now c.deref-5.ensures.value c.in-Ok-first_marks.ensures.marks in
    give l all.its all.found all.marked)
    c.read_by.ensures.replayable

pub returns-clause-damaged : goal.returns-clause-damaged
returns-clause-damaged c =
    by_told (image_in c.args.block_size c.args.bytes.items) c.read_by.result
    (err_so c.read_by.result _ _
    (λ u give r o l same laid.
    let all = all_found c.args.block_size c.args.bytes.items c.deref.result.now c.deref-3.result.now c.deref.ensures.value c.deref-3.ensures.value c.in-Ok.journals.items c.deref-4.result.now c.deref-4.ensures.value c.in-Ok.ensures
    r o l same laid c.in-Ok-first_marks.marks c.deref-5.result.now c.deref-5.ensures.value c.in-Ok-first_marks.ensures.marks in
    give l all.its all.found all.marked)
    c.read_by.ensures.damaged)
