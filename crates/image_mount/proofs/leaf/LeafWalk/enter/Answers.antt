use Rattle.std.proofs.Common.{arith, drop, vec_len, refl, sym, ap, subst, ◌∙◌}
use Rattle.gfs2_layout.specs.Records.{records_in}
use Rattle.image_mount.specs.Found.{first_other}
use Rattle.image_mount.specs.Sifting.{AreAdded}
use Rattle.image_mount.specs.Looks.{IsSoundArea}
use Rattle.image_reader.specs.Owning.{IsEntered}
use Rattle.image_mount.proofs.LeafWalks.{clash_told, fell, others_stand, owned_by, read_more, short_kept, told_next, walked_fresh, walked_known}
use Rattle.image_mount.proofs.Stops.{refused}
use Rattle.image_mount.proofs.leaf.LeafWalk.enter.Goals as goal

pub returns-in_err-claim-clause-refused : goal.returns-in_err-claim-clause-refused
returns-in_err-claim-clause-refused c im of bytes =
    refused im _ _ c.from_residual.ensures.1
    (clash_told im c.args.self.now.owners.entries.items c.args.at.now.block _ _ _ of.format of.leaf.reached of.walked.claims (owned_by im c.args.self.now c.args.at.now of) of.leaf.placed c.in_err-claim.ensures.clash)

pub returns-then-not-branch-clause-walked : goal.returns-then-not-branch-clause-walked
returns-then-not-branch-clause-walked c im of bytes =
    walked_known im c.args.self.now c.args.at.now of _ _ refl refl
    (subst (IsEntered c.args.self.now.owners.entries.items c.claim.new.self.entries.items c.args.at.now.block _) c.if-not-branch.true c.in_ok-claim.ensures.known) refl refl refl refl

pub invariant_of-self-in-Break-branch-2 : goal.invariant_of-self-in-Break-branch-2
invariant_of-self-in-Break-branch-2 c = record {
  behind = c.args.self.now.behind;
  short = short_kept c.args.self.now.tail c.args.self.now.owners.free c.claim.new.self.free (vec_len c.args.self.now.owners.entries) (vec_len c.claim.new.self.entries) c.args.self.now.short
      (fell c.in_ok-claim.field-0 c.claim.new.self.free c.args.self.now.owners.free c.if-not-branch.false c.in_ok-claim.ensures.new) c.claim.ensures.len;
  many = omega (arith, c.args.self.now.many, fell c.in_ok-claim.field-0 c.claim.new.self.free c.args.self.now.owners.free c.if-not-branch.false c.in_ok-claim.ensures.new, c.claim.ensures.len);
}

pub returns-in_err-others-clause-refused : goal.returns-in_err-others-clause-refused
returns-in_err-others-clause-refused c im of bytes =
    let entered = subst (IsEntered c.args.self.now.owners.entries.items c.claim.new.self.entries.items c.args.at.now.block _) c.if-not-branch.false c.in_ok-claim.ensures.known in
    refused im _ _ c.from_residual-in_err-others.ensures.1
    (c.in_err-others.ensures.refused im c.args.self.now.directory (told_next im c.args.self.now c.args.at.now of) bytes (others_stand im c.args.self.now c.args.at.now of entered.0))

pub returns-clause-walked : goal.returns-clause-walked
returns-clause-walked c im of bytes =
    let entered = subst (IsEntered c.args.self.now.owners.entries.items c.claim.new.self.entries.items c.args.at.now.block _) c.if-not-branch.false c.in_ok-claim.ensures.known in
    let there = ap (λ b. records_in (drop 104 b)) (sym bytes) in
    walked_fresh im c.args.self.now c.args.at.now of _ _ refl refl entered refl c.in_ok-others.others
    (subst (λ rs. AreAdded c.args.self.now.names c.args.self.now.records.items c.add_leaf.new.found.items c.args.at.now.block rs c.in_ok-others.others) there c.in_ok-others.ensures.added) refl refl (λ files. ap first_other (sym there) ∙ c.in_ok-others.ensures.plain files)
    c.in_ok-others.ensures.files (c.in_ok-others.ensures.distinct of.walked.distinct) (record { area = subst (λ b. IsSoundArea (drop 104 b)) (sym bytes) c.in_ok-others.ensures.sound; leaf = c.in_ok-others.ensures.leaf im c.args.self.now.directory of.leaf bytes })

pub returns-then-not-branch-clause-entered : goal.returns-then-not-branch-clause-entered
returns-then-not-branch-clause-entered c k before here =
    read_more c.args.self.now.owners.entries.items c.claim.new.self.entries.items c.args.self.now.directory c.args.at.now.block _ c.in_ok-claim.field-0 k c.in_ok-claim.ensures.entered before here

pub returns-clause-entered : goal.returns-clause-entered
returns-clause-entered c k before here =
    read_more c.args.self.now.owners.entries.items c.claim.new.self.entries.items c.args.self.now.directory c.args.at.now.block _ c.in_ok-claim.field-0 k c.in_ok-claim.ensures.entered before here
