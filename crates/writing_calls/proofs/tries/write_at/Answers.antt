use Rattle.std.proofs.Common.{◌+◌, ◌≤◌, ℕ, false, length, not, sym, ap, subst, ◌∙◌}
use Rattle.file_tree.specs.Apply.{file_limit}
use Rattle.call_locks.specs.WantLaws.{path_of}
use Rattle.path_walks.proofs.Steps.{inside_so, none_so}
use Rattle.writing_calls.specs.Contents.{IsAimOf, IsRefusedAim}
use Rattle.writing_calls.specs.Writing.{IsChangeOf, IsDamage, by_write, end_of}
use Rattle.writing_calls.proofs.Alone.{are_inside, dinode_inside}
use Rattle.writing_calls.proofs.Doing.{writes_edit}
use Rattle.writing_calls.proofs.Finding.{aim_refusal, broken_nowhere, broken_told, goes_by_write, refused_list, refused_told, stuffed_does}
use Rattle.writing_calls.proofs.Images as images
use Rattle.writing_calls.proofs.Rooms.{puts_there}
use Rattle.writing_calls.proofs.Behind.{stays_so, stuffed_found}
use Rattle.writing_calls.proofs.tries.write_at.Goals as goal

pub returns-in-Refused-clause-found : goal.returns-in-Refused-clause-found
returns-in-Refused-clause-found g c im o l t of =
    let v = g.V.View.seen c.args.view.now in
    refused_list v c.args.call.now c.args.place.now (writes_edit c.args.call.now c.args.at c.args.new.now c.requires.writes) c.requires.seen im o l t of (c.requires.walked im o l t of) c.args.stamp.now.node c.in-Refused.reply (subst (λ n. IsRefusedAim c.args.place.now.dinode n c.in-Refused.reply) (sym (ap end_of c.requires.writes)) (subst (IsAimOf v.size c.args.place.now.dinode (c.args.at + length c.args.new.now)) c.in-Refused.is (subst (λ (size : ℕ). IsAimOf size c.args.place.now.dinode (c.args.at + length c.args.new.now) c.aim_of-aim.result) c.block_size.ensures.value c.aim_of-aim.ensures)))

pub returns-in-Refused-clause-told : goal.returns-in-Refused-clause-told
returns-in-Refused-clause-told g c =
    let v = g.V.View.seen c.args.view.now in
    refused_told v c.args.call.now c.args.place.now (writes_edit c.args.call.now c.args.at c.args.new.now c.requires.writes) c.requires.seen c.in-Refused.reply (subst (λ n. IsRefusedAim c.args.place.now.dinode n c.in-Refused.reply) (sym (ap end_of c.requires.writes)) (subst (IsAimOf v.size c.args.place.now.dinode (c.args.at + length c.args.new.now)) c.in-Refused.is (subst (λ (size : ℕ). IsAimOf size c.args.place.now.dinode (c.args.at + length c.args.new.now) c.aim_of-aim.result) c.block_size.ensures.value c.aim_of-aim.ensures)))

pub returns-in-Refused-clause-refusal : goal.returns-in-Refused-clause-refusal
returns-in-Refused-clause-refusal g c =
    let v = g.V.View.seen c.args.view.now in
    aim_refusal c.args.place.now.dinode (end_of c.args.call.now) c.in-Refused.reply (subst (λ n. IsRefusedAim c.args.place.now.dinode n c.in-Refused.reply) (sym (ap end_of c.requires.writes)) (subst (IsAimOf v.size c.args.place.now.dinode (c.args.at + length c.args.new.now)) c.in-Refused.is (subst (λ (size : ℕ). IsAimOf size c.args.place.now.dinode (c.args.at + length c.args.new.now) c.aim_of-aim.result) c.block_size.ensures.value c.aim_of-aim.ensures)))

pub returns-in-Broken-clause-sound : goal.returns-in-Broken-clause-sound
returns-in-Broken-clause-sound g c im o l t of =
    let v = g.V.View.seen c.args.view.now in
    broken_nowhere v c.args.call.now c.args.place.now (writes_edit c.args.call.now c.args.at c.args.new.now c.requires.writes) c.requires.seen im o l t of (c.requires.walked im o l t of) (c.args.at + length c.args.new.now) (subst (IsAimOf v.size c.args.place.now.dinode (c.args.at + length c.args.new.now)) c.in-Broken.is (subst (λ (size : ℕ). IsAimOf size c.args.place.now.dinode (c.args.at + length c.args.new.now) c.aim_of-aim.result) c.block_size.ensures.value c.aim_of-aim.ensures))

pub returns-in-Broken-clause-damaged : goal.returns-in-Broken-clause-damaged
returns-in-Broken-clause-damaged g c =
    let v = g.V.View.seen c.args.view.now in
    broken_told v c.args.call.now c.args.place.now (writes_edit c.args.call.now c.args.at c.args.new.now c.requires.writes) c.requires.seen (c.args.at + length c.args.new.now) (subst (IsAimOf v.size c.args.place.now.dinode (c.args.at + length c.args.new.now)) c.in-Broken.is (subst (λ (size : ℕ). IsAimOf size c.args.place.now.dinode (c.args.at + length c.args.new.now) c.aim_of-aim.result) c.block_size.ensures.value c.aim_of-aim.ensures))

pub returns-then-is_none-clause-sound : goal.returns-then-is_none-clause-sound
returns-then-is_none-clause-sound g c im o l t of =
    let v = g.V.View.seen c.args.view.now in
    none_so _ c.group_of.result (c.is_none.ensures ∙ ap not c.if-is_none.true) c.group_of.ensures.none
    (dinode_inside v im o l t of (path_of c.args.call.now false) c.args.place.now.inode (c.requires.walked im o l t of).0.at)

pub returns-then-is_none-clause-damaged : goal.returns-then-is_none-clause-damaged
returns-then-is_none-clause-damaged g c =
    let v = g.V.View.seen c.args.view.now in
    IsDamage.no_data_block c.args.place.now.inode c.requires.seen.leads (none_so _ c.group_of.result (c.is_none.ensures ∙ ap not c.if-is_none.true) c.group_of.ensures.none)

pub write_blocks-requires : goal.write_blocks-requires
write_blocks-requires g c =
    let v = g.V.View.seen c.args.view.now in
    let aimed = (subst (IsAimOf v.size c.args.place.now.dinode (c.args.at + length c.args.new.now)) c.in-Blocks.is (subst (λ (size : ℕ). IsAimOf size c.args.place.now.dinode (c.args.at + length c.args.new.now) c.aim_of-aim.result) c.block_size.ensures.value c.aim_of-aim.ensures)) in
    record {
      groups = c.requires.groups;
      node = c.requires.node;
      seen = c.requires.seen;
      walked = c.requires.walked;
      puts = by_write c.args.at c.args.new.now c.requires.writes;
      blocks = goes_by_write v c.args.call.now c.args.place.now (writes_edit c.args.call.now c.args.at c.args.new.now c.requires.writes) c.requires.seen c.args.at c.args.new.now c.requires.writes aimed.2;
      file = aimed.0;
      short = aimed.1;
      inside = (inside_so v c.args.place.now.inode c.group_of.result (c.is_none.ensures ∙ ap not c.if-is_none.false) c.group_of.ensures.group c.group_of.ensures.own);
    }

pub returns-clause-found : goal.returns-clause-found
returns-clause-found g c im o l t of =
    let v = g.V.View.seen c.args.view.now in
    let stays = (stays_so v.size c.args.place.now.dinode (c.args.at + length c.args.new.now) c.aim_of-aim.result c.in_default.not-Refused c.in_default-aim.not-Broken c.in_default-aim-2.not-Blocks (subst (λ (size : ℕ). IsAimOf size c.args.place.now.dinode (c.args.at + length c.args.new.now) c.aim_of-aim.result) c.block_size.ensures.value c.aim_of-aim.ensures)) in
    stuffed_found v c.args.call.now c.args.place.now (writes_edit c.args.call.now c.args.at c.args.new.now c.requires.writes) c.requires.seen stays.file (subst (λ n. n ≤ file_limit) (sym (ap end_of c.requires.writes)) stays.short) c.args.at c.args.new.now c.requires.writes stays c.args.stamp.now.time c.in_ok-change.change c.in_ok-change.ensures im o l t of (c.requires.walked im o l t of) c.args.stamp.now.node

pub returns-clause-done : goal.returns-clause-done
returns-clause-done g c =
    let v = g.V.View.seen c.args.view.now in
    let stays = (stays_so v.size c.args.place.now.dinode (c.args.at + length c.args.new.now) c.aim_of-aim.result c.in_default.not-Refused c.in_default-aim.not-Broken c.in_default-aim-2.not-Blocks (subst (λ (size : ℕ). IsAimOf size c.args.place.now.dinode (c.args.at + length c.args.new.now) c.aim_of-aim.result) c.block_size.ensures.value c.aim_of-aim.ensures)) in
    stuffed_does v c.args.call.now c.args.place.now (writes_edit c.args.call.now c.args.at c.args.new.now c.requires.writes) c.requires.seen c.args.at c.args.new.now c.args.stamp.now.time c.in_ok-change.change c.requires.writes stays c.in_ok-change.ensures c.requires.walked

pub returns-clause-inside : goal.returns-clause-inside
returns-clause-inside g c =
    let v = g.V.View.seen c.args.view.now in
    are_inside v c.args.place.now.inode c.args.at c.args.new.now c.args.stamp.now.time c.in_ok-change.change c.in_ok-change.ensures c.block_size.ensures.view
    (inside_so v c.args.place.now.inode c.group_of.result (c.is_none.ensures ∙ ap not c.if-is_none.false) c.group_of.ensures.group c.group_of.ensures.own)

pub returns-clause-told : goal.returns-clause-told
returns-clause-told g c =
    let v = g.V.View.seen c.args.view.now in
    let stays = (stays_so v.size c.args.place.now.dinode (c.args.at + length c.args.new.now) c.aim_of-aim.result c.in_default.not-Refused c.in_default-aim.not-Broken c.in_default-aim-2.not-Blocks (subst (λ (size : ℕ). IsAimOf size c.args.place.now.dinode (c.args.at + length c.args.new.now) c.aim_of-aim.result) c.block_size.ensures.value c.aim_of-aim.ensures)) in
    (c.args.place.now.inode, images.to_change v c.args.call.now c.args.place.now (writes_edit c.args.call.now c.args.at c.args.new.now c.requires.writes) c.requires.seen stays.file (subst (λ n. n ≤ file_limit) (sym (ap end_of c.requires.writes)) stays.short) (inside_so v c.args.place.now.inode c.group_of.result (c.is_none.ensures ∙ ap not c.if-is_none.false) c.group_of.ensures.group c.group_of.ensures.own), IsChangeOf.in_dinode c.args.at c.args.new.now (puts_there v c.args.call.now c.args.place.now c.requires.seen c.args.at c.args.new.now (by_write c.args.at c.args.new.now c.requires.writes)) c.in_ok-change.ensures)
