use Rattle.std.proofs.Common.{◌≡◌, ℕ, List, length, sym, subst, arith, rules}
use Rattle.file_tree.specs.Tree.{dir, none}
use Rattle.image_reader.specs.Assembled.{flat_found, AreBare}
use Rattle.image_model.specs.Flat.{ReadsAs}
use Rattle.image_reader.specs.declared.directory.Found.{Found}
use Rattle.image_reader.proofs.Growing.{AreGrown, lacks, grown_more, grown_bare, grown_whole}
use Rattle.image_reader.proofs.Listed.{popped, none_left, take_whole}
use Rattle.image_reader.proofs.assembly.assemble.Goals as goal

pub loop-child-init : goal.loop-child-init
loop-child-init c =
    let bare = subst (λ (fs : List Found). AreBare c.args.top.now fs c.in_ok-trees.trees.items) c.deref.ensures.value c.in_ok-trees.ensures.bare in
    record {
      left = take_whole c.args.found.items;
      grown = grown_bare c.args.top.now.block.image c.args.top.now c.args.found.items c.requires c.in_ok-trees.trees.items bare;
    }

pub move_up-requires : goal.move_up-requires
move_up-requires c =
    let i = c.loop-child.invariant in
    let pop = popped c.args.found.items c.loop-child.found.items c.pop.new.self.items c.in-Some.child i.left c.in-Some.ensures.items in
    let grown = subst (λ (k : ℕ). AreGrown (flat_found c.args.top.now c.args.found.items) k c.loop-child.trees.items) pop.count i.grown in
    lacks c.args.top.now.block.image c.args.top.now c.args.found.items c.requires (length c.pop.new.self.items) c.in-Some.child pop.last c.loop-child.trees.items grown

pub loop-child-preserved : goal.loop-child-preserved
loop-child-preserved c =
    let i = c.loop-child.invariant in
    let pop = popped c.args.found.items c.loop-child.found.items c.pop.new.self.items c.in-Some.child i.left c.in-Some.ensures.items in
    let grown = subst (λ (k : ℕ). AreGrown (flat_found c.args.top.now c.args.found.items) k c.loop-child.trees.items) pop.count i.grown in
    record {
      left = pop.left;
      grown = grown_more c.args.top.now.block.image c.args.top.now c.args.found.items c.requires (length c.pop.new.self.items) c.in-Some.child pop.last c.loop-child.trees.items grown
          c.move_up.new.trees.items c.in_ok-move_up.ensures c.names_stand_for_trees.ensures c.directories_stay_well_formed.ensures;
    }

pub returns-clause-reads : goal.returns-clause-reads
returns-clause-reads c =
    let empty : length c.loop-child.found.items ≡ 0 = search rules in
    let grown = subst (λ (k : ℕ). AreGrown (flat_found c.args.top.now c.args.found.items) k c.loop-child.trees.items) empty c.loop-child.invariant.grown in
    let one : length c.loop-child.trees.items ≡ 1 = omega (arith, grown.count) in
    subst (ReadsAs (flat_found c.args.top.now c.args.found.items) 0) (sym (none_left c.loop-child.trees.items c.pop-2.new.self.items c.in-Some-pop.tree one c.in-Some-pop.ensures.items (dir none)))
    (grown_whole c.args.top.now.block.image c.args.top.now c.args.found.items c.requires c.loop-child.trees.items grown)
