use Rattle.std.proofs.Common.{◌≡◌, ◌∙◌, ◌^◌, ◌<◌, [], ◌∷◌, length, refl, sym, ap, subst, subst₂, arith}
use Rattle.std.specs.Prelude.{Contains}
use Rattle.std.specs.List.{each_same}
use Rattle.glock_names.specs.Steps.{TellsOf}
use Rattle.glock_names.proofs.StepLaws.{answer_at, needed_at}
use Rattle.drafts.specs.Fates.{Drafted, seen_in, seen_with}
use Rattle.dinode_tree.specs.Reading.{inode_lock}
use Rattle.resource_groups.specs.Putting.{HasDataBlock}
use Rattle.nested_drafts.specs.Nested.{with_blocks}
use Rattle.dinode_tree.specs.Broken as inode
use Rattle.gfs2_layout.specs.Inode.{depth_in, entry, leaf_in}
use Rattle.gfs2_layout.specs.declared.leaf.Leaf.{Leaf}
use Rattle.linear_dirs.proofs.Looked.{handed}
use Rattle.hash_steps.specs.Broken.{IsWrongIn}
use Rattle.hash_steps.specs.Shown.{IsShown, LeadsToLeaf, by_pointer, of_table}
use Rattle.hash_inserts.specs.Inserting.{IsSplitAt, IsWrongToInsert, Takes, of_leaf, of_pointers}
use Rattle.hash_inserts.proofs.Looks.{free_front, only_tells, tells_inode, tells_wrong}
use Rattle.hash_inserts.proofs.Over.{inside_put, may_split, seen_put, takes_over}
use Rattle.hash_inserts.proofs.Past.{some_at, some_of}
use Rattle.hash_inserts.proofs.splitting.split.Goals.{then-leaf-ne0-via-then-leaf-ne0, then-leaf-ne0-via-else-leaf-ne0+then-leaf-depth}
use Rattle.hash_inserts.proofs.splitting.split.Goals as goal

pub returns-in_err-head-clause-damaged : goal.returns-in_err-head-clause-damaged
returns-in_err-head-clause-damaged g c h shown shows =
    let v = seen_in g.V.View.seen c.args.draft.now in
    handed c.from_residual.result _ (TellsOf (IsWrongToInsert v h)) c.from_residual.ensures.1 (tells_inode v h c.in_err-head.field-0.0 (only_tells (inode.IsBroken h) c.in_err-head.field-0.0 (c.in_err-head.ensures.damaged h shows)))

pub returns-in-NeedBlock-clause-needed : goal.returns-in-NeedBlock-clause-needed
returns-in-NeedBlock-clause-needed g c h shown shows = of_leaf (of_table c.args.index refl (needed_at _ _ _ c.in-NeedBlock.is (c.in_ok-head.ensures.needed h shows)))

pub returns-in_err-leaf-clause-damaged : goal.returns-in_err-leaf-clause-damaged
returns-in_err-leaf-clause-damaged g c h shown shows =
    let v = seen_in g.V.View.seen c.args.draft.now in
    let deep = c.depth-depth.ensures.value ∙ g.met.T.PointerTable.deep_in c.args.table.now v h shows in
    let low : c.args.index < 2 ^ depth_in h = subst (λ n. c.args.index < 2 ^ n) deep (omega (arith, c.if-index-depth.false)) in
    let found = answer_at _ _ _ c.in-Is.is (c.in_ok-head.ensures.found h shows) in
    let leads = subst₂ (LeadsToLeaf h c.args.index) (sym found.1) (sym found.0) (by_pointer low) in
    handed c.from_residual-in_err-leaf.result _ (TellsOf (IsWrongToInsert v h)) c.from_residual-in_err-leaf.ensures.1 (tells_wrong v h c.in_err-leaf.field-0.0 (only_tells (IsWrongIn v h) c.in_err-leaf.field-0.0 (c.in_err-leaf.ensures.damaged h c.args.index shown leads deep)))

pub returns-in-NeedBlock-2-clause-needed : goal.returns-in-NeedBlock-2-clause-needed
returns-in-NeedBlock-2-clause-needed g c h shown shows =
    let v = seen_in g.V.View.seen c.args.draft.now in
    let deep = c.depth-depth.ensures.value ∙ g.met.T.PointerTable.deep_in c.args.table.now v h shows in
    let low : c.args.index < 2 ^ depth_in h = subst (λ n. c.args.index < 2 ^ n) deep (omega (arith, c.if-index-depth.false)) in
    let found = answer_at _ _ _ c.in-Is.is (c.in_ok-head.ensures.found h shows) in
    let leads = subst₂ (LeadsToLeaf h c.args.index) (sym found.1) (sym found.0) (by_pointer low) in
    of_leaf (needed_at _ _ _ c.in-NeedBlock-2.is (c.in_ok-leaf.ensures.needed h c.args.index shown leads))

pub returns-in-NeedBlock-3-clause-needed : goal.returns-in-NeedBlock-3-clause-needed
returns-in-NeedBlock-3-clause-needed g c h shown shows = of_pointers (needed_at _ _ _ c.in-NeedBlock-3.is (c.in_ok-missing.ensures.needed h shown))

pub returns-then-leaf-ne0-clause-put : goal.returns-then-leaf-ne0-clause-put
returns-then-leaf-ne0-clause-put g c h shown shows sound small one less free some count =
    let v = seen_in g.V.View.seen c.args.draft.now in
    let deep = c.depth-depth.ensures.value ∙ g.met.T.PointerTable.deep_in c.args.table.now v h shows in
    let found = answer_at _ _ _ c.in-Is.is (c.in_ok-head.ensures.found h shows) in
    let leads = subst₂ (LeadsToLeaf h c.args.index) (sym found.1) (sym found.0) (by_pointer small) in
    let leaf = answer_at _ _ _ c.in-Is-2.is (c.in_ok-leaf.ensures.read h c.args.index shown leads) in
    let next : c.in-Is-2.leaf.head.next ≡ 0 = ap (λ (l : Leaf). l.next) leaf.head ∙ ap (λ x. (leaf_in h x).next) found.0 ∙ one in
    let depth : c.in-Is-2.leaf.head.depth ≡ (leaf_in h (entry h c.args.index)).depth = ap (λ (l : Leaf). l.depth) leaf.head ∙ ap (λ x. (leaf_in h x).depth) found.0 in
    absurd (elim c.then-leaf-ne0.branch [
      | then-leaf-ne0-via-then-leaf-ne0 w ↦ omega (arith, w.if-leaf-ne0.true, next)
      | then-leaf-ne0-via-else-leaf-ne0+then-leaf-depth w ↦ omega (arith, w.if-leaf-depth.true, depth, less, deep)
    ])

pub returns-in_default-made-clause-put : goal.returns-in_default-made-clause-put
returns-in_default-made-clause-put g c h shown shows sound small one less free some count =
    let seen = g.V.View.seen in
    let old = c.args.draft.now in
    let v = seen_in seen old in
    let dir = c.args.dir in
    let i = c.args.index in
    let room = c.args.room.now.items in
    let found = answer_at _ _ _ c.in-Is.is (c.in_ok-head.ensures.found h shows) in
    let leads = subst₂ (LeadsToLeaf h c.args.index) (sym found.1) (sym found.0) (by_pointer small) in
    let leaf = answer_at _ _ _ c.in-Is-2.is (c.in_ok-leaf.ensures.read h c.args.index shown leads) in
    let depth : c.in-Is-2.leaf.head.depth ≡ (leaf_in h (entry h c.args.index)).depth = ap (λ (l : Leaf). l.depth) leaf.head ∙ ap (λ x. (leaf_in h x).depth) found.0 in
    let sees = answer_at _ _ _ c.in_default.is (c.in_ok-missing.ensures.seen h shown) in
    let below = answer_at _ _ _ c.in_default.is (c.in_ok-missing.ensures.inside h shown) in
    let has = answer_at _ _ _ c.in-Is-2.is c.in_ok-leaf.ensures.there in
    let of_group = answer_at _ _ _ c.in-Is-2.is c.in_ok-leaf.ensures.inside in
    let same : c.in_ok-left.left.items ≡ c.args.room.now.items = each_same c.args.room.now.items c.in_ok-left.left.items c.in_ok-left.ensures.cases.0 in
    let rest = c.pop_front.new.self.items in
    let front : c.args.room.now.items ≡ c.in-Some.lower ∷ c.pop_front.new.self.items = sym same ∙ c.in-Some.ensures.items in
    let made = c.in_ok-made.ensures.split h shown shows sound count small found.0 one depth less sees has (free_front h c.in-Some.lower room rest front free) in
    let blocks = some_of c.in_ok-made.made _ made in
    absurd (c.in_default-made.not-Some blocks.0 blocks.1)

pub returns-clause-put : goal.returns-clause-put
returns-clause-put g c h shown shows sound small one less free some count =
    let seen = g.V.View.seen in
    let old = c.args.draft.now in
    let v = seen_in seen old in
    let dir = c.args.dir in
    let i = c.args.index in
    let room = c.args.room.now.items in
    let found = answer_at _ _ _ c.in-Is.is (c.in_ok-head.ensures.found h shows) in
    let leads = subst₂ (LeadsToLeaf h c.args.index) (sym found.1) (sym found.0) (by_pointer small) in
    let leaf = answer_at _ _ _ c.in-Is-2.is (c.in_ok-leaf.ensures.read h c.args.index shown leads) in
    let depth : c.in-Is-2.leaf.head.depth ≡ (leaf_in h (entry h c.args.index)).depth = ap (λ (l : Leaf). l.depth) leaf.head ∙ ap (λ x. (leaf_in h x).depth) found.0 in
    let sees = answer_at _ _ _ c.in_default.is (c.in_ok-missing.ensures.seen h shown) in
    let below = answer_at _ _ _ c.in_default.is (c.in_ok-missing.ensures.inside h shown) in
    let has = answer_at _ _ _ c.in-Is-2.is c.in_ok-leaf.ensures.there in
    let of_group = answer_at _ _ _ c.in-Is-2.is c.in_ok-leaf.ensures.inside in
    let same : c.in_ok-left.left.items ≡ c.args.room.now.items = each_same c.args.room.now.items c.in_ok-left.left.items c.in_ok-left.ensures.cases.0 in
    let rest = c.pop_front.new.self.items in
    let front : c.args.room.now.items ≡ c.in-Some.lower ∷ c.pop_front.new.self.items = sym same ∙ c.in-Some.ensures.items in
    let made = c.in_ok-made.ensures.split h shown shows sound count small found.0 one depth less sees has (free_front h c.in-Some.lower room rest front free) in
    let at = some_at c.in_ok-made.made c.in-Some-made.blocks _ c.in-Some-made.is made in
    let fates = at.0 in
    let k = at.1.0 in
    let split = at.1.2 in
    let blocks = c.in-Some-made.blocks.items in
    let told = c.puts_are_seen_alike.ensures.told in
    let inside = inside_put v fates blocks dir (c.in-Some.lower ∷ []) [] (c.in-Some.lower ∷ []) _ h k split.put told
    (may_split v dir h i c.in-Some.lower shown.inode.own sound shown.hashed c.sound_pointers_are_parts.ensures.led small less (subst (HasDataBlock v) found.0 of_group) (record { tree = sees; below = below }) one) in
    let long : length rest ≡ c.len.result = omega (arith, c.len.ensures, c.pop_front.new.self.ok) in
    let all = c.in_ok-done.ensures.all (c.in-Some.lower ∷ []) rest front long (λ w there. inside w (subst (λ xs. Contains xs w) c.deref.ensures.value there)) in
    let put = c.in_ok-done.ensures.put all.0 in
    let new = c.commit.new.draft in
    let fates_is : with_blocks (inode_lock dir) blocks old.fates ≡ new.fates = ap (λ xs. with_blocks (inode_lock dir) xs old.fates) (sym c.deref.ensures.value) ∙ sym (ap (λ (d : Drafted _). d.fates) put) in
    let seen_is : seen_in seen new ≡ seen_with v fates =
    ap (λ y. seen_with (seen y) new.fates) c.in_ok-done.ensures.view ∙ ap (λ f. seen_with (seen old.view) f) (sym fates_is ∙ ap (λ xs. with_blocks (inode_lock dir) xs old.fates) split.put.written)
    ∙ seen_put (seen old.view) old.fates fates (inode_lock dir) (c.puts_are_seen_alike.ensures.seen (seen old.view) old.fates fates (inode_lock dir)) in
    let over = subst (λ f. Takes old.fates f (c.in-Some.lower ∷ []) [] (c.in-Some.lower ∷ []) (IsSplitAt h i c.in-Some.lower) h k) fates_is
    (takes_over v fates blocks dir (c.in-Some.lower ∷ []) [] (c.in-Some.lower ∷ []) _ h k split.put told old.fates c.puts_are_seen_alike.ensures.fates) in (
      all.0,
      (
        k,
        subst (λ w. IsShown w dir k) (sym seen_is) split.put.shown,
        subst (λ w. g.T.PointerTable.shows c.split_blocks.new.table w k) (sym seen_is) at.1.1,
        record {
          block = c.in-Some.lower;
          takes = record { front = front ∙ ap (λ xs. c.in-Some.lower ∷ xs) (sym all.1); has = over.has; drafted = over.drafted; changes = over.changes };
          split = split.split;
          stays = split.stays;
        },
      ),
    )
