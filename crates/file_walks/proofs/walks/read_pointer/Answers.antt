use Rattle.std.proofs.Common.{◌*◌, ◌≤◌, length, inl, inr, ◌∙◌}
use Rattle.std.proofs.lemmas.Bool.{cases_lt}
use Rattle.gfs2_layout.specs.Inode.{span}
use Rattle.dinode_tree.proofs.Dinodes.{lacks}
use Rattle.file_walks.proofs.Steps.{past_end_told}
use Rattle.file_walks.proofs.walks.read_pointer.Goals as goal

pub returns-then-not-begins_before-clause-damaged : goal.returns-then-not-begins_before-clause-damaged
returns-then-not-begins_before-clause-damaged c h w leads =
    let late = lacks c.begins_before.result c.begins_before.ensures c.if-not-begins_before.true in
    let past : c.args.way.now.count ≤ c.args.place * span (length c.args.bytes.now) c.args.level = elim (cases_lt (c.args.place * span (length c.args.bytes.now) c.args.level) c.args.way.now.count) [
      | inl early ↦ absurd (late early)
      | inr past ↦ past
    ] in
    past_end_told h c.args.way.now c.args.pointer.from c.args.level _ _ c.damaged.result w (leads (λ e. c.if-block-ne0.true (c.number_at-block.ensures ∙ e))) c.damaged.ensures past
