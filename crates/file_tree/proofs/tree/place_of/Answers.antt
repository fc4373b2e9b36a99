use Rattle.std.proofs.Common.{rules}
use Rattle.std.proofs.lemmas.Fn.{always_returns_same}
use Rattle.file_tree.specs.Tree.{name_order}
use Rattle.file_tree.specs.declared.tree.Entry.{Entry}
use Rattle.file_tree.proofs.Places.{searched}
use Rattle.file_tree.proofs.tree.place_of.Goals as goal

-- the closure compares an entry's name
pub returns : goal.returns
returns c =
    let facts = c.binary_search_by.ensures in
    let by_name = facts.position (λ (e : Entry). name_order e.name c.args.name.now) (always_returns_same _ _ _ (λ a r g called. search rules)) in
    let is = searched c.args.entries.now c.args.name.now c.binary_search_by.result c.requires facts.bound by_name in
    record { there = is.there; at = is.at; inside = is.inside; absent = is.absent; place = is.place; within = is.within }
