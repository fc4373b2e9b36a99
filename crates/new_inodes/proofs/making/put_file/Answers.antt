use Rattle.std.proofs.Common.{arith}
use Rattle.new_inodes.proofs.Made.{ok_so, file_put}
use Rattle.new_inodes.proofs.making.put_file.Goals as goal

pub returns-clause-put : goal.returns-clause-put
returns-clause-put g c =
    let made = c.in_ok-bytes.ensures in
    ok_so c.put.result (file_put g.V.View.seen c.args.draft.now c.put.new.self c.args.block c.lock_of.result c.deref.result.now c.in_ok-bytes.bytes.items c.block_size-size.result c.block_size-size.ensures.value c.lock_of.ensures
    c.deref.ensures.value made.whole c.args.number c.args.time c.file_dinode.result c.requires.number (omega (arith, c.block_size-size.ensures.view.block_size)) c.file_dinode.ensures made.bytes made.read) c.put.ensures.ok
