use Rattle.std.proofs.Common.{◌≡◌, false, Ok, OnOk, Some, drop, sym, ap, ◌∙◌, subst, arith}
use Rattle.std.specs.FinMap.{insert}
use Rattle.std.specs.Option.{option_map}
use Rattle.drafts.specs.Fates.{seen_in}
use Rattle.drafts.specs.declared.fate.Fate.TheVariants.{Put}
use Rattle.gfs2_layout.specs.Inode.{dinode_in}
use Rattle.gfs2_layout.specs.Structures.{dinode_length, dinode_of, dinode_read}
use Rattle.gfs2_layout.specs.Writing.{dinode_put}
use Rattle.gfs2_layout.specs.declared.dinode.Dinode.{Dinode}
use Rattle.dinode_tree.specs.Reading.{inode_lock}
use Rattle.new_inodes.specs.Touched.{with_times}
use Rattle.new_inodes.proofs.Touches.{of_block, read_is_of, some_same, stamped_so}
use Rattle.new_inodes.proofs.stamping.stamp.Goals as goal

pub returns-clause-put : goal.returns-clause-put
returns-clause-put g c bytes there =
    let v = seen_in g.V.View.seen c.args.draft.now in
    let copied : v.block_at c.args.inode ≡ Some c.in-Some.bytes.items = sym c.in_ok-bytes.ensures.bytes ∙ ap (option_map (λ copy. copy.items)) c.in-Some.is in
    let same : c.deref.result.now ≡ bytes = c.deref.ensures.value ∙ some_same c.in-Some.bytes.items bytes (sym copied ∙ there) in
    let dinode : c.in-Ok.dinode ≡ dinode_of bytes = read_is_of c.deref.result.now c.in-Ok.dinode c.read.result c.read.ensures c.in-Ok.is ∙ ap dinode_of same in
    subst (λ (d : Dinode). OnOk c.put_dinode.result (c.put_dinode.new.draft ≡ record c.args.draft.now { fates = insert c.args.draft.now.fates c.args.inode (Put (inode_lock c.args.inode) false (dinode_put (with_times d c.args.time) bytes)) })) dinode
    (c.put_dinode.ensures.put bytes there)

pub returns-clause-read : goal.returns-clause-read
returns-clause-read g c bytes there =
    let v = seen_in g.V.View.seen c.args.draft.now in
    let copied : v.block_at c.args.inode ≡ Some c.in-Some.bytes.items = sym c.in_ok-bytes.ensures.bytes ∙ ap (option_map (λ copy. copy.items)) c.in-Some.is in
    let same : c.deref.result.now ≡ bytes = c.deref.ensures.value ∙ some_same c.in-Some.bytes.items bytes (sym copied ∙ there) in
    let dinode : c.in-Ok.dinode ≡ dinode_of bytes = read_is_of c.deref.result.now c.in-Ok.dinode c.read.result c.read.ensures c.in-Ok.is ∙ ap dinode_of same in
    subst (λ (d : Dinode). OnOk c.put_dinode.result (dinode_read (dinode_put (with_times d c.args.time) bytes) ≡ Ok (with_times d c.args.time))) dinode (c.put_dinode.ensures.read bytes there)

pub returns-clause-behind : goal.returns-clause-behind
returns-clause-behind g c bytes there =
    let v = seen_in g.V.View.seen c.args.draft.now in
    let copied : v.block_at c.args.inode ≡ Some c.in-Some.bytes.items = sym c.in_ok-bytes.ensures.bytes ∙ ap (option_map (λ copy. copy.items)) c.in-Some.is in
    let same : c.deref.result.now ≡ bytes = c.deref.ensures.value ∙ some_same c.in-Some.bytes.items bytes (sym copied ∙ there) in
    let dinode : c.in-Ok.dinode ≡ dinode_of bytes = read_is_of c.deref.result.now c.in-Ok.dinode c.read.result c.read.ensures c.in-Ok.is ∙ ap dinode_of same in
    subst (λ (d : Dinode). OnOk c.put_dinode.result (drop dinode_length (dinode_put (with_times d c.args.time) bytes) ≡ drop dinode_length bytes)) dinode (c.put_dinode.ensures.behind bytes there)

pub returns-clause-touched : goal.returns-clause-touched
returns-clause-touched g c h shown =
    let v = seen_in g.V.View.seen c.args.draft.now in
    let there = c.requires.there in
    let copied : v.block_at c.args.inode ≡ Some c.in-Some.bytes.items = sym c.in_ok-bytes.ensures.bytes ∙ ap (option_map (λ copy. copy.items)) c.in-Some.is in
    let same : c.deref.result.now ≡ there.0 = c.deref.ensures.value ∙ some_same c.in-Some.bytes.items there.0 (sym copied ∙ there.1) in
    let dinode : c.in-Ok.dinode ≡ dinode_in h = read_is_of c.deref.result.now c.in-Ok.dinode c.read.result c.read.ensures c.in-Ok.is ∙ ap dinode_of same ∙ of_block v c.args.inode h there.0 shown there.1 in
    stamped_so g.V.View.seen c.args.draft.now c.put_dinode.new.draft c.args.inode c.args.time h there.0 c.in-Ok.dinode c.put_dinode.result shown there.1 (omega (arith, c.block_size-size.ensures.view.block_size)) dinode
    (c.put_dinode.ensures.put there.0 there.1) (c.put_dinode.ensures.read there.0 there.1) (c.put_dinode.ensures.behind there.0 there.1) (c.put_dinode.ensures.whole there.0 there.1)
