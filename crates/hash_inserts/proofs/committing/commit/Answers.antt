use Rattle.std.proofs.Common.{Some, false, ◌∙◌, ◌≤◌, inl, inr, length, refl, sym, ap, subst, length-append, arith}
use Rattle.std.specs.FinMap.{get}
use Rattle.drafts.specs.Fates.{Drafted, seen_in}
use Rattle.hash_inserts.specs.Inserting.{MayChange}
use Rattle.drafts.specs.declared.fate.Fate.TheVariants.{Put}
use Rattle.hash_inserts.proofs.Over.{blocks_put, same_parts}
use Rattle.hash_inserts.proofs.Results.{contradict}
use Rattle.hash_inserts.proofs.committing.commit.Goals as goal

pub returns-then-not-are_inside-clause-all : goal.returns-then-not-are_inside-clause-all
returns-then-not-are_inside-clause-all g c taken rest front long each =
    let v = seen_in g.V.View.seen c.args.draft.now in
    let enough : c.args.left ≤ length c.args.room.now.items = omega (arith, ap length front, length-append taken rest, long) in
    let parts = same_parts c.in_ok-taken.taken.items c.take_front.new.room.items taken rest (sym c.in_ok-taken.ensures.front ∙ front) (c.in_ok-taken.ensures.left enough ∙ sym long) in
    contradict c.are_inside.result (c.are_inside.ensures.1 (λ w has. subst (λ xs. MayChange v c.args.dir xs w.block) (sym parts.0 ∙ sym c.deref.ensures.value) (each w has))) c.if-not-are_inside.true

pub returns-clause-inside : goal.returns-clause-inside
returns-clause-inside g c done =
    let v = seen_in g.V.View.seen c.args.draft.now in
    let put = c.in_ok-put_blocks.ensures.put in
    record {
      taken = c.in_ok-taken.taken.items;
      front = c.in_ok-taken.ensures.front;
      changes = λ b. elim (blocks_put c.lock_of.result c.args.blocks.now c.args.draft.now.fates b) [
        | inl kept ↦ inl (ap (λ (d : Drafted _). get d.fates b) put ∙ kept)
        | inr one ↦ inr (
          subst (MayChange v c.args.dir c.in_ok-taken.taken.items) one.2 (subst (λ xs. MayChange v c.args.dir xs one.0.block) c.deref.ensures.value (c.are_inside.ensures.0 c.if-not-are_inside.false one.0 one.1)),
          (one.3.0, ap (λ (d : Drafted _). get d.fates b) put ∙ one.3.1 ∙ ap (λ l. Some (Put l false one.3.0)) c.lock_of.ensures),
        )
      ];
    }

pub returns-clause-all : goal.returns-clause-all
returns-clause-all g c taken rest front long each =
    let enough : c.args.left ≤ length c.args.room.now.items = omega (arith, ap length front, length-append taken rest, long) in
    let parts = same_parts c.in_ok-taken.taken.items c.take_front.new.room.items taken rest (sym c.in_ok-taken.ensures.front ∙ front) (c.in_ok-taken.ensures.left enough ∙ sym long) in
    (refl, parts.1)
