use Rattle.std.proofs.Common.{ℕ, ◌-◌, ◌%◌, refl, sym, ap, subst, ◌∙◌, arith}
use Rattle.gfs2_layout.specs.Inode.{entry_block, first_hash}
use Rattle.image_model.specs.Claims.{every}
use Rattle.image_reader.proofs.Chains.{run_some, start_whole}
use Rattle.image_reader.proofs.Spans.{aligned_run}
use Rattle.image_mount.specs.Found.{IsReached}
use Rattle.image_mount.proofs.Masters.{first_claim, leaf_is, missing_told}
use Rattle.image_mount.proofs.Stops.{refused}
use Rattle.image_mount.proofs.leaves.leaf_of_pointer.Goals as goal

pub returns-in_err-head-clause-refused : goal.returns-in_err-head-clause-refused
returns-in_err-head-clause-refused c im inode of at =
    let a = inode.block in
    let i = c.args.i in
    let number = c.pointer-number.ensures in
    refused im _ _ c.from_residual.ensures.1
    (c.in_err-head.ensures.refused im a (ap im.at number ∙ at.is) of.file.format (subst (IsReached im) (sym number) at.reached) of.depth
    (entry_block (every im a) i, first_hash (every im a) i, 0, first_claim im inode c.args.pointers.now of i (entry_block (every im a) i) c.pointer-number.result c.requires.low refl number (λ e. at.some (sym number ∙ e))))

pub leads_to-requires : goal.leads_to-requires
leads_to-requires c =
    let some = run_some c.run-run.result (c.args.pointers.now.depth - c.in_ok-head.head.depth) c.run-run.ensures in
    let start : ℕ = c.args.i - c.args.i % c.run-run.result in
    aligned_run start c.run-run.result c.args.pointers.now.depth c.in_ok-head.head.depth c.run-run.ensures (omega (arith, c.requires.low)) (start_whole c.args.i c.run-run.result some)

pub returns-then-not-leads_to-clause-refused : goal.returns-then-not-leads_to-clause-refused
returns-then-not-leads_to-clause-refused c im inode of at =
    let no = c.leads_to.ensures.no c.if-not-leads_to.true in
    let number = c.pointer-number.ensures in
    let some = run_some c.run-run.result (c.args.pointers.now.depth - c.in_ok-head.head.depth) c.run-run.ensures in
    let start : ℕ = c.args.i - c.args.i % c.run-run.result in
    let room = aligned_run start c.run-run.result c.args.pointers.now.depth c.in_ok-head.head.depth c.run-run.ensures (omega (arith, c.requires.low)) (start_whole c.args.i c.run-run.result some) in
    missing_told im inode c.args.pointers.now of c.args.i c.pointer-number.result c.run-run.result c.in_ok-head.head c.requires.low number (c.in_ok-head.ensures.found im (ap im.at number ∙ at.is)) c.run-run.ensures
    no.0 _ (omega (arith, room, no.1.1)) no.1.0 no.1.1 no.1.2 (λ e. at.some (sym number ∙ e)) (subst (IsReached im) (sym number) at.reached) c.damaged.ensures

pub returns-clause-run : goal.returns-clause-run
returns-clause-run c =
    let some = run_some c.run-run.result (c.args.pointers.now.depth - c.in_ok-head.head.depth) c.run-run.ensures in
    let start : ℕ = c.args.i - c.args.i % c.run-run.result in
    let room = aligned_run start c.run-run.result c.args.pointers.now.depth c.in_ok-head.head.depth c.run-run.ensures (omega (arith, c.requires.low)) (start_whole c.args.i c.run-run.result some) in
    (omega (arith, some), room)

pub returns-clause-found : goal.returns-clause-found
returns-clause-found c im inode of at =
    let number = c.pointer-number.ensures in
    let same = ap im.at number ∙ at.is in
    let some = run_some c.run-run.result (c.args.pointers.now.depth - c.in_ok-head.head.depth) c.run-run.ensures in
    let start : ℕ = c.args.i - c.args.i % c.run-run.result in
    let room = aligned_run start c.run-run.result c.args.pointers.now.depth c.in_ok-head.head.depth c.run-run.ensures (omega (arith, c.requires.low)) (start_whole c.args.i c.run-run.result some) in
    leaf_is im inode c.args.pointers.now of c.args.i c.pointer-number.result c.run-run.result c.in_ok-head.head c.requires.low number (c.in_ok-head.ensures.found im same) c.run-run.ensures
    _ (entry_block (every im inode.block) c.args.i) c.first_hash_of.result (c.in_ok-head.ensures.well im inode.block same of.depth) (λ e. at.some (sym number ∙ e)) (subst (IsReached im) (sym number) at.reached) refl
    c.first_hash_of.ensures refl refl refl refl refl refl (omega (arith, some)) room (c.leads_to.ensures.yes c.if-not-leads_to.false)
