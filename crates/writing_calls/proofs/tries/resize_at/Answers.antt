use Rattle.std.proofs.Common.{false, not, sym, ap, subst, ◌∙◌, arith}
use Rattle.call_locks.specs.WantLaws.{path_of}
use Rattle.path_walks.proofs.Steps.{inside_so, none_so}
use Rattle.writing_calls.specs.Contents.{IsCutAimOf, IsRefusedAim}
use Rattle.writing_calls.specs.Writing.{IsDamage, by_growth, end_of}
use Rattle.writing_calls.proofs.Alone.{dinode_inside}
use Rattle.writing_calls.proofs.Finding.{aim_refusal, goes_by_growth, refused_list, refused_told, resizes_edit}
use Rattle.writing_calls.proofs.tries.resize_at.Goals as goal

pub returns-in-Refused-clause-found : goal.returns-in-Refused-clause-found
returns-in-Refused-clause-found g c im o l t of =
    let v = g.V.View.seen c.args.view.now in
    refused_list v c.args.call.now c.args.place.now (resizes_edit c.args.call.now c.args.size c.requires.cuts) c.requires.seen im o l t of (c.requires.walked im o l t of) c.args.stamp.now.node c.in-Refused.reply (subst (λ n. IsRefusedAim c.args.place.now.dinode n c.in-Refused.reply) (sym (ap end_of c.requires.cuts)) (subst (IsCutAimOf c.args.place.now.dinode c.args.size) c.in-Refused.is c.aim_of_cut-aim.ensures))

pub returns-in-Refused-clause-told : goal.returns-in-Refused-clause-told
returns-in-Refused-clause-told g c =
    let v = g.V.View.seen c.args.view.now in
    refused_told v c.args.call.now c.args.place.now (resizes_edit c.args.call.now c.args.size c.requires.cuts) c.requires.seen c.in-Refused.reply (subst (λ n. IsRefusedAim c.args.place.now.dinode n c.in-Refused.reply) (sym (ap end_of c.requires.cuts)) (subst (IsCutAimOf c.args.place.now.dinode c.args.size) c.in-Refused.is c.aim_of_cut-aim.ensures))

pub returns-in-Refused-clause-refusal : goal.returns-in-Refused-clause-refusal
returns-in-Refused-clause-refusal g c =
    let v = g.V.View.seen c.args.view.now in
    aim_refusal c.args.place.now.dinode (end_of c.args.call.now) c.in-Refused.reply (subst (λ n. IsRefusedAim c.args.place.now.dinode n c.in-Refused.reply) (sym (ap end_of c.requires.cuts)) (subst (IsCutAimOf c.args.place.now.dinode c.args.size) c.in-Refused.is c.aim_of_cut-aim.ensures))

pub returns-then-is_none-clause-sound : goal.returns-then-is_none-clause-sound
returns-then-is_none-clause-sound g c im o l t of =
    let v = g.V.View.seen c.args.view.now in
    none_so _ c.group_of.result (c.is_none.ensures ∙ ap not c.if-is_none.true) c.group_of.ensures.none
    (dinode_inside v im o l t of (path_of c.args.call.now false) c.args.place.now.inode (c.requires.walked im o l t of).0.at)

pub returns-then-is_none-clause-damaged : goal.returns-then-is_none-clause-damaged
returns-then-is_none-clause-damaged g c =
    let v = g.V.View.seen c.args.view.now in
    IsDamage.no_data_block c.args.place.now.inode c.requires.seen.leads (none_so _ c.group_of.result (c.is_none.ensures ∙ ap not c.if-is_none.true) c.group_of.ensures.none)

pub write_blocks-requires : goal.write_blocks-requires
write_blocks-requires g c =
    let v = g.V.View.seen c.args.view.now in
    let aimed = (subst (IsCutAimOf c.args.place.now.dinode c.args.size) c.in-Blocks.is c.aim_of_cut-aim.ensures) in
    record {
      groups = c.requires.groups;
      node = c.requires.node;
      seen = c.requires.seen;
      walked = c.requires.walked;
      puts = by_growth c.args.size c.requires.cuts aimed.2;
      blocks = goes_by_growth v c.args.call.now c.args.place.now (resizes_edit c.args.call.now c.args.size c.requires.cuts) c.requires.seen c.args.size c.requires.cuts;
      file = aimed.0;
      short = omega (arith, aimed.1);
      inside = (inside_so v c.args.place.now.inode c.group_of.result (c.is_none.ensures ∙ ap not c.if-is_none.false) c.group_of.ensures.group c.group_of.ensures.own);
    }
