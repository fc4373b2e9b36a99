use Rattle.image_reader.proofs.Pointing.{follows, follows_past}
use Rattle.image_reader.proofs.Taking.{takes_stay}
use Rattle.image_reader.proofs.walk.Walk.follow.Goals as goal

pub returns-then-first-content_count-clause-damaged : goal.returns-then-first-content_count-clause-damaged
returns-then-first-content_count-clause-damaged c =
    follows_past c.args.self.now.image c.args.inode.now c.args.pointers.now _ c.args.k c.pointer-number.result c.span.result c.saturating_mul-before.result c.saturating_add-first.result c.content_count.result
    c.requires.of_image c.damaged.ensures c.requires.inode (record {
      reached = c.requires.reached;
      within = c.requires.fan;
      read = c.pointer-number.ensures;
      some = c.if-number-eq0.false;
      span_is = c.span.ensures.value;
      before_is = c.saturating_mul-before.ensures;
      first_is = c.saturating_add-first.ensures;
      count_is = c.content_count.ensures;
      small = c.content_count.type_inv;
    }) c.if-first-content_count.true

pub claim_child-requires-clause-leads : goal.claim_child-requires-clause-leads
claim_child-requires-clause-leads c =
    follows c.args.inode.now c.args.pointers.now c.args.k c.pointer-number.result c.span.result c.saturating_mul-before.result c.saturating_add-first.result c.content_count.result
    (record {
      reached = c.requires.reached;
      within = c.requires.fan;
      read = c.pointer-number.ensures;
      some = c.if-number-eq0.false;
      span_is = c.span.ensures.value;
      before_is = c.saturating_mul-before.ensures;
      first_is = c.saturating_add-first.ensures;
      count_is = c.content_count.ensures;
      small = c.content_count.type_inv;
    }) c.if-first-content_count.false

pub returns-then-number-eq0-clause-takes : goal.returns-then-number-eq0-clause-takes
returns-then-number-eq0-clause-takes c = takes_stay c.args.inode.now.block.number c.args.self.now.owners.entries.items
