use Rattle.std.proofs.Common.{◌≡◌, ◌-◌, ◌∙◌, sym, subst, arith}
use Rattle.std.specs.Prelude.{count_by}
use Rattle.image_reader.specs.Going.{IsOf, GoesOn, has_within}
use Rattle.image_model.specs.Owners.{Below}
use Rattle.image_reader.specs.Reading.{image_at}
use Rattle.image_reader.specs.Complete.{AllAreFound, IsBlockCount}
use Rattle.image_reader.specs.Owning.{AreClaims}
use Rattle.image_reader.specs.Untouched.{AllAreBelow}
use Rattle.image_reader.specs.declared.blocks.Blocks.{Blocks}
use Rattle.image_reader.proofs.Within.{fresh_within, block_count, all_within}
use Rattle.image_reader.proofs.Leaves.{claim_kept}
use Rattle.image_reader.proofs.Going.{goes_then, ok_hold}
use Rattle.image_reader.proofs.Taking.{going_taken, goes_taken, leaves_not_taken}
use Rattle.image_reader.proofs.Visits.{dinode_at, no_leaf_of_fresh}
use Rattle.image_reader.proofs.walk.Walk.inode.Goals as goal

pub check_fits-requires : goal.check_fits-requires
check_fits-requires c = dinode_at c.args.self.now.image c.args.visit.now c.requires.going.visited

pub claim_content-requires-clause-inode : goal.claim_content-requires-clause-inode
claim_content-requires-clause-inode c = dinode_at c.args.self.now.image c.args.visit.now c.requires.going.visited

pub names-requires-clause-going : goal.names-requires-clause-going
names-requires-clause-going c =
    going_taken c.args.self.now c.claim_content.new.self c.args.visit.now c.args.found.now.items c.requires.going c.in_ok-claim_content.ensures.same c.in_ok-claim_content.ensures.sound c.in_ok-claim_content.ensures.takes

pub names-requires-clause-fresh : goal.names-requires-clause-fresh
names-requires-clause-fresh c x hash place has =
    no_leaf_of_fresh c.args.visit.now c.args.self.now.owners.entries.items c.requires.fresh x hash place
    (leaves_not_taken c.args.visit.now.inode.block.number c.args.self.now.owners.entries.items c.claim_content.new.self.owners.entries.items c.in_ok-claim_content.ensures.takes x hash place has)

pub check_blocks-requires-clause-inode : goal.check_blocks-requires-clause-inode
check_blocks-requires-clause-inode c = dinode_at c.args.self.now.image c.args.visit.now c.requires.going.visited

pub check_blocks-requires-clause-count : goal.check_blocks-requires-clause-count
check_blocks-requires-clause-count c =
    let v = c.args.visit.now in
    let a = v.inode.block.number in
    let im = image_at c.args.self.now.image in
    let old = c.args.self.now.owners.entries.items in
    let mid = c.claim_content.new.self.owners.entries.items in
    let new = c.names.new.self.owners.entries.items in
    let names = c.in_ok-names.ensures in
    let below : AllAreBelow im a new = λ by x b k level first claimed. claim_kept (IsOf a) mid new x (Below a b k level first) names.on.claims (c.in_ok-claim_content.ensures.below by x b k level first claimed) in
    let sound = subst (λ (b : Blocks). AreClaims (image_at b) new) (c.names.ensures.same ∙ c.claim_content.ensures.same) names.going.sound.claims in
    let leaves = subst (λ (b : Blocks). AllAreFound (image_at b) v new c.names.new.found.items) c.claim_content.ensures.same names.all in
    let none = fresh_within a old c.requires.fresh in
    let many = c.args.self.now.owners.free - c.names.new.self.owners.free - (c.len.result - c.len-before.result) in
    let beside : many ≡ count_by (has_within a) new = omega (arith, none, c.in_ok-claim_content.ensures.takes.counted, names.on.counted, c.args.self.now.owners.counted, c.names.new.self.owners.counted, c.len.ensures, c.len-before.ensures) in
    subst (λ (b : Blocks). IsBlockCount (image_at b) a many) (sym c.requires.going.visited.same)
    (block_count im a many new sound (all_within im a new below leaves.leaves) beside)

pub returns-clause-on : goal.returns-clause-on
returns-clause-on c =
    let v = c.args.visit.now in
    let P = IsOf v.inode.block.number in
    ok_hold c.check_blocks.result (GoesOn P v c.args.self.now.owners.entries.items c.args.found.now.items c.names.new.self.owners.entries.items c.names.new.found.items)
    (goes_then P v c.args.self.now.owners.entries.items c.args.found.now.items c.claim_content.new.self.owners.entries.items c.args.found.now.items c.names.new.self.owners.entries.items c.names.new.found.items
    (goes_taken v c.args.self.now.owners.entries.items c.claim_content.new.self.owners.entries.items c.args.found.now.items c.in_ok-claim_content.ensures.takes) c.in_ok-names.ensures.on)

pub returns-clause-below : goal.returns-clause-below
returns-clause-below c =
    let a = c.args.visit.now.inode.block.number in
    let new = c.names.new.self.owners.entries.items in
    ok_hold c.check_blocks.result (AllAreBelow (image_at c.args.self.now.image) a new)
    (λ by x b k level first claimed.
    claim_kept (IsOf a) c.claim_content.new.self.owners.entries.items new x (Below a b k level first) c.in_ok-names.ensures.on.claims
    (c.in_ok-claim_content.ensures.below by x b k level first claimed))
