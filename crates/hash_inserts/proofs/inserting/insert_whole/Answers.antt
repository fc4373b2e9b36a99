use Rattle.std.proofs.Common.{◌≡◌, ◌∙◌, length, sym, ap, subst, subst₂, arith}
use Rattle.std.specs.Prelude.{Contains}
use Rattle.std.specs.FinMap.{empty}
use Rattle.std.specs.List.{each_same}
use Rattle.drafts.specs.Fates.{Drafted, seen_in, seen_with}
use Rattle.dinode_tree.specs.Reading.{inode_lock}
use Rattle.hash_steps.specs.Shown.{IsShown}
use Rattle.nested_drafts.specs.Nested.{with_blocks}
use Rattle.hash_inserts.specs.Advancing.{CanInsert}
use Rattle.hash_inserts.specs.Committing.{HasInserted}
use Rattle.hash_inserts.specs.Inserting.{Inserts}
use Rattle.hash_inserts.proofs.Counted.{data_walked}
use Rattle.hash_inserts.proofs.Over.{inserts_with, inside_put, may_insert, put_of, seen_put, takes_over}
use Rattle.hash_inserts.proofs.Past.{some_at, some_of}
use Rattle.hash_inserts.proofs.inserting.insert_whole.Goals as goal

pub returns-in_default-clause-put : goal.returns-in_default-clause-put
returns-in_default-clause-put g c h need can0 shows found own tree =
    let seen = g.V.View.seen in
    let old = c.args.draft.now in
    let v = seen_in seen old in
    let dir = c.args.dir in
    let name = c.args.name.now in
    let room = c.args.room.now.items in
    let same : c.in_ok-left.left.items ≡ c.args.room.now.items = each_same c.args.room.now.items c.in_ok-left.left.items c.in_ok-left.ensures.cases.0 in
    let can : CanInsert v dir h name c.in_ok-left.left.items need = subst (λ xs. CanInsert v dir h name xs need) (sym same) can0 in
    let made = c.in_ok-made.ensures.put h need can shows found own (λ none one. (tree none one).tree) in
    let blocks = some_of c.in_ok-made.made _ made in
    absurd (c.in_default.not-Some blocks.0 blocks.1)

pub returns-clause-put : goal.returns-clause-put
returns-clause-put g c h need can0 shows found own tree =
    let seen = g.V.View.seen in
    let old = c.args.draft.now in
    let v = seen_in seen old in
    let dir = c.args.dir in
    let name = c.args.name.now in
    let room = c.args.room.now.items in
    let same : c.in_ok-left.left.items ≡ c.args.room.now.items = each_same c.args.room.now.items c.in_ok-left.left.items c.in_ok-left.ensures.cases.0 in
    let can : CanInsert v dir h name c.in_ok-left.left.items need = subst (λ xs. CanInsert v dir h name xs need) (sym same) can0 in
    let made = c.in_ok-made.ensures.put h need can shows found own (λ none one. (tree none one).tree) in
    let at = some_at c.in_ok-made.made c.in-Some.blocks _ c.in-Some.is made in
    let fates = at.0 in
    let k = at.1.0 in
    let left = c.inserted_blocks.new.room.items in
    let blocks = c.in-Some.blocks.items in
    let has : HasInserted v fates blocks dir room left need name c.args.entry h k = subst (λ xs. HasInserted v fates blocks dir xs left need name c.args.entry h k) same at.1.2 in
    let told = c.puts_are_seen_alike.ensures.told in
    let data_there = data_walked v h name c.args.found.now.chain found.walked found.head.low in
    let inside = inside_put v fates blocks dir room left has.inserts.taken _ h k (put_of v fates blocks dir room left need name c.args.entry h k has) told
    (may_insert v dir h k name has.inserts.taken can0.shown.inode.own can0.sound can0.shown.hashed can0.small c.sound_pointers_are_parts.ensures.led data_there tree) in
    let long : length left ≡ c.len.result = omega (arith, c.len.ensures, c.inserted_blocks.new.room.ok) in
    let all = c.in_ok-done.ensures.all has.inserts.taken left has.inserts.takes.front long (λ w there. inside w (subst (λ xs. Contains xs w) c.deref.ensures.value there)) in
    let put = c.in_ok-done.ensures.put all.0 in
    let new = c.commit.new.draft in
    let fates_is : with_blocks (inode_lock dir) blocks old.fates ≡ new.fates = ap (λ xs. with_blocks (inode_lock dir) xs old.fates) (sym c.deref.ensures.value) ∙ sym (ap (λ (d : Drafted _). d.fates) put) in
    let view_is : new.view ≡ old.view = c.in_ok-done.ensures.view in
    let seen_is : seen_in seen new ≡ seen_with v fates =
    ap (λ y. seen_with (seen y) new.fates) view_is ∙ ap (λ f. seen_with (seen old.view) f) (sym fates_is ∙ ap (λ xs. with_blocks (inode_lock dir) xs old.fates) has.written)
    ∙ seen_put (seen old.view) old.fates fates (inode_lock dir) (c.puts_are_seen_alike.ensures.seen (seen old.view) old.fates fates (inode_lock dir)) in
    let over = inserts_with empty fates old.fates (with_blocks (inode_lock dir) blocks old.fates) room left need name c.args.entry h k has.inserts
    (takes_over v fates blocks dir room left has.inserts.taken _ h k (put_of v fates blocks dir room left need name c.args.entry h k has) told old.fates c.puts_are_seen_alike.ensures.fates) in (
      all.0,
      (
        k,
        subst (λ w. IsShown w dir k) (sym seen_is) has.shown,
        subst (λ w. g.T.PointerTable.shows c.inserted_blocks.new.table w k) (sym seen_is) at.1.1,
        subst₂ (λ f xs. Inserts old.fates f room xs need name c.args.entry h k) fates_is (sym all.1) over,
      ),
    )
