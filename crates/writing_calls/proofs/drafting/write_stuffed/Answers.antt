use Rattle.writing_calls.specs.Drafting.{IsWrite}
use Rattle.writing_calls.proofs.Drafts.{new_sees, write_is, if_finished}
use Rattle.writing_calls.proofs.drafting.write_stuffed.Goals as goal

pub put_stuffed-requires-clause-there : goal.put_stuffed-requires-clause-there
put_stuffed-requires-clause-there g c =
    (c.requires.there.0, new_sees g.V.View.seen c.args.view.now c.new-draft.result c.args.place.now.inode c.requires.there.0 c.new-draft.ensures c.requires.there.1)

pub returns : goal.returns
returns g c =
    let v = g.V.View.seen c.args.view.now in
    let sees = new_sees g.V.View.seen c.args.view.now c.new-draft.result c.args.place.now.inode c.requires.there.0 c.new-draft.ensures c.requires.there.1 in
    if_finished c.finish.result c.put_stuffed.new.draft.fates (IsWrite v c.args.place.now.inode c.args.at c.args.new.now c.args.time)
    (λ change finished. write_is g.V.View.seen c.args.view.now c.new-draft.result c.put_stuffed.new.draft c.args.place.now.inode c.args.at c.args.new.now c.args.time c.args.place.now.dinode c.requires.there.0 change
    c.new-draft.ensures c.requires.there.1 c.requires.dinode c.requires.stuffed (c.in_ok-put_stuffed.ensures.put c.requires.there.0 sees) finished)
    c.finish.ensures.blocks c.finish.ensures.locks c.finish.ensures.freed
