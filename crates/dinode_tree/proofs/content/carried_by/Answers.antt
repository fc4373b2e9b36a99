use Rattle.std.proofs.Common.{◌≡◌, false, subst, ◌-◌, ◌∙◌, ap, sym, arith, length, drop, length-drop}
use Rattle.std.proofs.lemmas.List.{take_all}
use Rattle.std.proofs.lemmas.Bool.{both_ways}
use Rattle.gfs2_layout.specs.Headers.{HasHeader}
use Rattle.gfs2_layout.specs.Inode.{is_directory_in}
use Rattle.gfs2_layout.specs.Structures.{is_directory}
use Rattle.dinode_tree.proofs.Dinodes.{dinode_is, lacks}
use Rattle.dinode_tree.proofs.Pointers.{needed_link, same_bytes, shown_of}
use Rattle.dinode_tree.proofs.Pieces.{block_carries, lacks_table}
use Rattle.dinode_tree.proofs.content.carried_by.Goals.{else-is_directory-via-then-is_directory+else-not-has_header, else-is_directory-via-else-is_directory}
use Rattle.dinode_tree.proofs.content.carried_by.Goals as goal

pub returns-in_default-clause-needed : goal.returns-in_default-clause-needed
returns-in_default-clause-needed g c h index shown is =
    needed_link (g.V.View.seen c.args.view.now) h c.args.inode.now index 0 c.args.link.now _ shown c.requires.seen is (omega arith) c.in_default.ensures.none c.missing_block.ensures

pub returns-then-not-has_header-clause-damaged : goal.returns-then-not-has_header-clause-damaged
returns-then-not-has_header-clause-damaged g c h index shown is =
    lacks_table (g.V.View.seen c.args.view.now) h c.args.inode.now index c.args.link.now c.in-Some.bytes.now _ shown c.requires.seen is c.requires.content c.in-Some.ensures.some
    (sym c.is_directory.ensures ∙ c.if-is_directory.true) c.damaged.ensures (lacks c.has_header.result c.has_header.ensures c.if-not-has_header.true)

pub returns-clause-carried : goal.returns-clause-carried
returns-clause-carried g c h index shown is =
    block_carries (g.V.View.seen c.args.view.now) h c.args.inode.now index c.args.link.now c.in-Some.bytes.now _ shown c.requires.seen is c.requires.content c.in-Some.ensures.some c.in-Some.ensures.size
    (take_all _ _ (omega (arith, length-drop (length c.in-Some.bytes.now - c.unit.result) c.in-Some.bytes.now)) ∙ ap (λ u. drop (length c.in-Some.bytes.now - u) c.in-Some.bytes.now) c.unit.ensures.value)

pub returns-clause-table : goal.returns-clause-table
returns-clause-table g c h index shown is directory =
    let v = g.V.View.seen c.args.view.now in
    let inode = c.args.inode.now in
    elim c.else-is_directory.branch [
      | else-is_directory-via-then-is_directory+else-not-has_header w ↦
          subst (HasHeader 7 700) (sym (same_bytes v h inode.block index c.args.link.now c.in-Some.bytes.now shown is c.in-Some.ensures.some)) (w.has_header.ensures.0 w.if-not-has_header.false)
      | else-is_directory-via-else-is_directory w ↦
          let no : is_directory_in h ≡ false = ap is_directory (dinode_is h inode (shown_of v h inode shown c.requires.seen)) ∙ sym c.is_directory.ensures ∙ w.if-is_directory.false in
          absurd (both_ways (is_directory_in h) no directory)
    ]
