use Rattle.std.proofs.Common.{◌∙◌, sym}
use Rattle.dinode_tree.specs.Broken.{IsBroken}
use Rattle.dinode_tree.proofs.Dinodes.{lacks}
use Rattle.dinode_tree.proofs.Pointers.{shown_of}
use Rattle.dinode_tree.proofs.Rows.{lacks_led, needed_led, leads_under, under_bytes}
use Rattle.dinode_tree.proofs.Stepping.{handed, handed_own, tells}
use Rattle.dinode_tree.proofs.below.add_block.Goals as goal

pub returns-in_default-clause-needed : goal.returns-in_default-clause-needed
returns-in_default-clause-needed g c h shown led =
    needed_led (g.V.View.seen c.args.view.now) h c.args.inode.now c.args.link.now _ shown c.requires.seen led c.requires.above c.in_default.ensures.none c.missing_block.ensures

pub returns-then-not-has_header-clause-damaged : goal.returns-then-not-has_header-clause-damaged
returns-then-not-has_header-clause-damaged g c h shown led =
    tells (IsBroken h) c.damaged.result (lacks_led (g.V.View.seen c.args.view.now) h c.args.inode.now.block c.args.link.now c.in-Some.bytes.now _ shown led c.requires.above c.in-Some.ensures.some c.damaged.ensures
    (lacks c.has_header.result c.has_header.ensures c.if-not-has_header.true))

pub returns-in_err-add_pointers-clause-damaged : goal.returns-in_err-add_pointers-clause-damaged
returns-in_err-add_pointers-clause-damaged g c h shown led =
    let v = g.V.View.seen c.args.view.now in
    handed c.from_residual.result _ (IsBroken h) c.from_residual.ensures.1 (c.in_err-add_pointers.ensures.damaged h (shown_of v h c.args.inode.now shown c.requires.seen)
    (λ k low some. leads_under v h c.args.inode.now.block c.args.link.now c.in-Some.bytes.now k shown led c.requires.above c.in-Some.ensures.some (sym c.in-Some.ensures.size ∙ sym shown.size) low some))

pub returns-in_err-add_pointers-clause-kept : goal.returns-in_err-add_pointers-clause-kept
returns-in_err-add_pointers-clause-kept g c =
    handed_own c.from_residual.result (g.V.View.seen c.args.view.now) c.args.inode.now.block c.args.inode.now.bytes.now _ c.from_residual.ensures.1 c.requires.seen.bytes c.in_err-add_pointers.ensures.own

pub returns-clause-added : goal.returns-clause-added
returns-clause-added g c = under_bytes (g.V.View.seen c.args.view.now) c.args.below.now c.add_pointers.new.below c.args.link.now c.in-Some.bytes.now c.in-Some.ensures.some c.in_ok-add_pointers.ensures.added
