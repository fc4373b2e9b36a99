use Rattle.std.proofs.Common.{◌≡◌, ℕ, List, sym, subst, ◌∙◌}
use Rattle.std.specs.Vec.{with_items}
use Rattle.std.proofs.lemmas.List.{with_items_is}
use Rattle.logged_steps.specs.NodeEnds.{IsLastHeader}
use Rattle.logged_node.proofs.Unmounting.{is_last}
use Rattle.logged_node.proofs.leaving.fill_last.Goals as goal

pub returns-clause-last : goal.returns-clause-last
returns-clause-last c =
    let kept : (with_items c.args.node.now.block c.put_last_header.new.into).items ≡ c.put_last_header.new.into = with_items_is c.args.node.now.block c.put_last_header.new.into (c.put_last_header.auto.into ∙ c.deref_mut.ensures.len) in
    let P : List ℕ → Type 0 = λ bytes. IsLastHeader c.args.node.now.log bytes in
    subst P (sym kept) (is_last c.clean_blocks_are_last.ensures c.args.node.now.log c.put_last_header.new.into c.requires.sequence c.put_last_header.ensures.bytes c.put_last_header.ensures.read)

pub returns-clause-put : goal.returns-clause-put
returns-clause-put c = with_items_is c.args.node.now.block c.put_last_header.new.into (c.put_last_header.auto.into ∙ c.deref_mut.ensures.len) ∙ c.put_last_header.ensures.bytes
