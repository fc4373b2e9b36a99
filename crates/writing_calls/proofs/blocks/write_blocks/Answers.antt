use Rattle.std.proofs.Common.{◌+◌, [], length}
use Rattle.gfs2_layout.specs.Holding.{Holding}
use Rattle.glock_names.proofs.StepLaws.{answer_at, needed_at}
use Rattle.dinode_tree.specs.Broken.{IsBroken}
use Rattle.dinode_tree.specs.Reading.{IsNeeded}
use Rattle.dinode_tree.specs.Shown.{IsShown}
use Rattle.growth_drafts.specs.Taken.{IsLookedAt}
use Rattle.file_changes.specs.Drafting.{in_inode, of_inode}
use Rattle.path_walks.proofs.Faults.{only_so, told_on}
use Rattle.path_walks.proofs.Steps.{fault_all}
use Rattle.writing_calls.specs.Writing.{IsDamage, IsNeededFor}
use Rattle.writing_calls.proofs.Doing.{puts_edit}
use Rattle.writing_calls.proofs.Images as images
use Rattle.writing_calls.proofs.Rooms.{puts_short, puts_there}
use Rattle.writing_calls.proofs.blocks.write_blocks.Goals as goal

pub returns-in_err-need-clause-sound : goal.returns-in_err-need-clause-sound
returns-in_err-need-clause-sound g c im o l t of =
    let v = g.V.View.seen c.args.view.now in
    told_on (λ rule b. ⊥) _ _ c.from_residual.ensures.1
    (only_so (λ rule b. (h : Holding) → IsShown v c.args.place.now.inode h → IsBroken h rule b) (λ rule b. ⊥) (λ rule b broken. images.none_wrong v c.args.call.now c.args.place.now (puts_edit c.args.call.now c.args.place.now.dinode.size c.args.at c.args.new.now c.requires.puts) c.requires.seen c.requires.file (puts_short c.args.call.now c.args.place.now.dinode.size c.args.at c.args.new.now c.requires.puts c.requires.short) im o l t of (c.requires.walked im o l t of) [] rule b (in_inode rule b broken)) c.in_err-need.field-0.0 (fault_all v c.args.place.now.inode IsBroken c.in_err-need.field-0.0 c.in_err-need.ensures.damaged))

pub returns-in_err-need-clause-damaged : goal.returns-in_err-need-clause-damaged
returns-in_err-need-clause-damaged g c =
    let v = g.V.View.seen c.args.view.now in
    told_on (IsDamage v c.args.call.now) _ _ c.from_residual.ensures.1
    (only_so (λ rule b. (h : Holding) → IsShown v c.args.place.now.inode h → IsBroken h rule b) (IsDamage v c.args.call.now) (λ rule b broken. IsDamage.in_file c.args.place.now.inode rule b (images.to_change v c.args.call.now c.args.place.now (puts_edit c.args.call.now c.args.place.now.dinode.size c.args.at c.args.new.now c.requires.puts) c.requires.seen c.requires.file (puts_short c.args.call.now c.args.place.now.dinode.size c.args.at c.args.new.now c.requires.puts c.requires.short) c.requires.inside) (in_inode rule b broken)) c.in_err-need.field-0.0 (fault_all v c.args.place.now.inode IsBroken c.in_err-need.field-0.0 c.in_err-need.ensures.damaged))

pub take_and_write-requires-clause-need : goal.take_and_write-requires-clause-need
take_and_write-requires-clause-need g c =
    let v = g.V.View.seen c.args.view.now in
    record {
      so_many = λ h shown file. answer_at _ _ _ c.in-Is.is (c.in_ok-need.ensures.found h file shown);
      looked = λ h i shown file looks. answer_at _ _ _ c.in-Is.is (c.in_ok-need.ensures.looked h i file shown looks);
    }

pub returns-in-NeedBlock-clause-found : goal.returns-in-NeedBlock-clause-found
returns-in-NeedBlock-clause-found g c im o l t of =
    let v = g.V.View.seen c.args.view.now in
    images.inode_asked v c.args.call.now c.args.place.now (puts_edit c.args.call.now c.args.place.now.dinode.size c.args.at c.args.new.now c.requires.puts) c.requires.seen c.requires.file (puts_short c.args.call.now c.args.place.now.dinode.size c.args.at c.args.new.now c.requires.puts c.requires.short) im o l t of (c.requires.walked im o l t of) c.args.stamp.now.node (λ h. IsLookedAt h c.args.at (c.args.at + length c.args.new.now)) 0 c.in-NeedBlock.missing (λ h shown. needed_at _ _ (IsNeeded v h (IsLookedAt h c.args.at (c.args.at + length c.args.new.now)) 0) c.in-NeedBlock.is (c.in_ok-need.ensures.needed h shown))

pub returns-in-NeedBlock-clause-told : goal.returns-in-NeedBlock-clause-told
returns-in-NeedBlock-clause-told g c =
    let v = g.V.View.seen c.args.view.now in
    IsNeededFor.of_write c.args.place.now.inode c.args.at c.args.new.now (images.to_change v c.args.call.now c.args.place.now (puts_edit c.args.call.now c.args.place.now.dinode.size c.args.at c.args.new.now c.requires.puts) c.requires.seen c.requires.file (puts_short c.args.call.now c.args.place.now.dinode.size c.args.at c.args.new.now c.requires.puts c.requires.short) c.requires.inside) (puts_there v c.args.call.now c.args.place.now c.requires.seen c.args.at c.args.new.now c.requires.puts) (of_inode (λ h shown. needed_at _ _ (IsNeeded v h (IsLookedAt h c.args.at (c.args.at + length c.args.new.now)) 0) c.in-NeedBlock.is (c.in_ok-need.ensures.needed h shown)))
