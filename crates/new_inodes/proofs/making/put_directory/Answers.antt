use Rattle.std.proofs.Common.{◌∙◌, ap, arith, length}
use Rattle.std.proofs.lemmas.List.{take_at}
use Rattle.gfs2_layout.specs.Structures.{dinode_read}
use Rattle.new_inodes.proofs.Made.{ok_so, directory_put}
use Rattle.new_inodes.proofs.making.put_directory.Goals as goal

pub returns-clause-put : goal.returns-clause-put
returns-clause-put g c =
    let made = c.in_ok-bytes.ensures in
    let clear = c.deref_mut.ensures.value in
    let long = c.put_dots.auto.block ∙ c.deref_mut.ensures.len in
    ok_so c.put.result (directory_put g.V.View.seen c.args.draft.now c.put.new.self c.args.block c.lock_of.result c.deref.result.now c.put_dots.new.block c.block_size-size.result c.block_size-size.ensures.value c.lock_of.ensures
    (c.deref.ensures.value ∙ take_at c.put_dots.new.block _ c.in_ok-bytes.bytes.len long) (c.put_dots.auto.block ∙ ap length clear ∙ made.whole)
    c.structures_read_back.ensures c.args.number c.args.parent c.args.time c.directory_dinode-dinode.result c.deref_mut.result.now c.requires.number
    (omega (arith, c.block_size-size.ensures.view.block_size)) c.directory_dinode-dinode.ensures (clear ∙ made.bytes) (ap dinode_read clear ∙ made.read) (ap length clear ∙ made.whole)
    c.put_dots.ensures.front c.put_dots.ensures.slots c.put_dots.ensures.records c.put_dots.ensures.area) c.put.ensures.ok
