use Rattle.std.proofs.Common.{◌≡◌, ◌-◌, ◌++◌, ◌∷◌, [], Some, suc, sym, subst, refl, rules, ap, ◌∙◌, arith}
use Rattle.std.proofs.lemmas.List.Elements.{All-same, All-push, All-nil, All-pop}
use Rattle.image_reader.specs.Walking.{IsReached}
use Rattle.image_reader.proofs.Taking.{takes_stay, takes_then}
use Rattle.image_reader.proofs.Contents.{none_below}
use Rattle.image_reader.specs.Descending.{AreDescended}
use Rattle.image_reader.specs.Reading.{held}
use Rattle.image_reader.proofs.InodeFaults.{said}
use Rattle.image_reader.proofs.Descending.{all_below, none_descended, descended_popped, none_left}
use Rattle.image_reader.proofs.walk.Walk.claim_content.Goals as goal

pub loop-pointers-init : goal.loop-pointers-init
loop-pointers-init c =
    let P = IsReached c.args.inode.now in
    record {
      sound = c.requires.sound;
      takes = takes_stay c.args.inode.now.block.number c.args.self.now.owners.entries.items;
      pending = All-same P _ _ (c.in_ok-push.ensures.items ∙ ap (λ xs. xs ++ c.of_dinode-top.result ∷ []) c.new-pending.ensures.items)
          (All-push P [] c.of_dinode-top.result (All-nil P) c.of_dinode-top.ensures.reached);
      descended = subst (AreDescended (held c.args.inode.now) c.args.self.now.owners.entries.items) (sym (c.in_ok-push.ensures.items ∙ ap (λ xs. xs ++ c.of_dinode-top.result ∷ []) c.new-pending.ensures.items))
          (none_descended (held c.args.inode.now) c.args.self.now.owners.entries.items c.of_dinode-top.result (c.args.inode.now.dinode.height - 1) c.requires.fresh
          (said c.args.inode.now (λ d. d.height ≡ suc (c.args.inode.now.dinode.height - 1)) (omega (arith, c.if-height-eq0.false))) c.of_dinode-top.ensures.at);
      free = omega arith;
      same = refl;
    }

pub claim_children-requires-clause-reached : goal.claim_children-requires-clause-reached
claim_children-requires-clause-reached c =
    (All-pop (IsReached c.args.inode.now) _ _ (Some c.in-Some.pointers) c.in-Some.ensures.items c.loop-pointers.invariant.pending).1

pub claim_children-requires-clause-pending : goal.claim_children-requires-clause-pending
claim_children-requires-clause-pending c =
    (All-pop (IsReached c.args.inode.now) _ _ (Some c.in-Some.pointers) c.in-Some.ensures.items c.loop-pointers.invariant.pending).0

pub returns-then-height-eq0-clause-takes : goal.returns-then-height-eq0-clause-takes
returns-then-height-eq0-clause-takes c = takes_stay c.args.inode.now.block.number c.args.self.now.owners.entries.items

pub loop-pointers-preserved : goal.loop-pointers-preserved
loop-pointers-preserved c =
    let done = c.in_ok-claim_children.ensures in
    record {
      sound = done.sound;
      takes = takes_then c.args.inode.now.block.number c.args.self.now.owners.entries.items c.loop-pointers.self.owners.entries.items c.claim_children.new.self.owners.entries.items c.loop-pointers.invariant.takes done.takes;
      pending = done.pending;
      descended = done.descended;
      free = omega (arith, c.loop-pointers.invariant.free, done.free);
      same = done.same ∙ c.loop-pointers.invariant.same;
    }

pub returns-then-height-eq0-clause-below : goal.returns-then-height-eq0-clause-below
returns-then-height-eq0-clause-below c =
    none_below c.args.self.now.image c.args.inode.now c.args.self.now.owners.entries.items c.requires.of_image c.if-height-eq0.true

pub claim_children-requires-clause-descended : goal.claim_children-requires-clause-descended
claim_children-requires-clause-descended c =
    descended_popped (held c.args.inode.now) c.loop-pointers.self.owners.entries.items c.loop-pointers.pending.items c.pop.new.self.items c.in-Some.pointers c.in-Some.ensures.items c.loop-pointers.invariant.descended

pub returns-clause-below : goal.returns-clause-below
returns-clause-below c =
    all_below c.args.self.now.image c.args.inode.now c.loop-pointers.self.owners.entries.items c.requires.of_image
    (subst (AreDescended (held c.args.inode.now) c.loop-pointers.self.owners.entries.items) (none_left c.loop-pointers.pending.items (search rules)) c.loop-pointers.invariant.descended)
