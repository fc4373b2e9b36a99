use Rattle.std.proofs.Common.{◌≡◌, ◌<◌, true, sym, subst, ◌∙◌}
use Rattle.gfs2_layout.specs.Structures.{is_regular}
use Rattle.image_reader.specs.Reading.{image_at}
use Rattle.image_reader.specs.Untouched.{IsLimit}
use Rattle.image_reader.proofs.InodeFaults.{told_of, said}
use Rattle.image_reader.proofs.visiting.check_length.Goals as goal

pub returns-then-inode-limit-clause-damaged : goal.returns-then-inode-limit-clause-damaged
returns-then-inode-limit-clause-damaged c =
    let inode = c.args.inode.now in
    let regular : is_regular inode.dinode ≡ true = sym c.is_regular.ensures ∙ c.if-not-is_regular.false in
    let limit = subst (λ most. IsLimit (image_at inode.block.image) most inode.block.number) c.in-Some.is c.requires in
    told_of inode.block c.damaged.result 8 c.damaged.ensures
    (limit (said inode (λ d. is_regular d ≡ true) regular) (said inode (λ d. c.in-Some.limit < d.size) c.if-inode-limit.true))
