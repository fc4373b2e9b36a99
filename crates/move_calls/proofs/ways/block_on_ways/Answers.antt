use Rattle.std.proofs.Common.{◌≢◌, ℕ, List, [], true≢false, sym, ◌∙◌, subst}
use Rattle.std.specs.Prelude.{Contains, IfNone, codes}
use Rattle.gfs2_layout.specs.Holding.{Holding}
use Rattle.glock_names.proofs.StepLaws.{answer_at, needed_at}
use Rattle.hash_dirs.proofs.Leaves.{found_at}
use Rattle.move_ends.proofs.Faults.{told_on}
use Rattle.move_ends.proofs.Steps.{directory_here}
use Rattle.image_model.proofs.Rows.{and_left}
use Rattle.gfs2_layout.specs.Structures.{is_directory}
use Rattle.move_ends.specs.Shown.{IsShown}
use Rattle.name_moves.specs.Way.{IsOnWay, IsRightWay}
use Rattle.name_moves.specs.Moving.{move_of}
use Rattle.move_calls.specs.Checks.{IsNeededOnWays, IsOffItsWays, IsOnItsWay, IsWayOf, IsWrongOnWays}
use Rattle.move_calls.proofs.OnWays.{any_none, new_way, none_as, off_all, old_way, parent_way}
use Rattle.move_calls.proofs.Room.{at_none}
use Rattle.move_calls.proofs.ways.block_on_ways.Goals as goal

pub block_on-requires-3-clause-directory : goal.block_on-requires-3-clause-directory
block_on-requires-3-clause-directory g c =
    directory_here (g.V.View.seen c.args.view.now) c.args.m.now.moved.inode c.args.m.now.moved.dinode c.requires.inode_read
    (and_left (is_directory c.args.m.now.moved.dinode) _ (sym c.gets_parent.ensures ∙ c.if-not-gets_parent.false))

pub returns-in_err-block_on-clause-damaged : goal.returns-in_err-block_on-clause-damaged
returns-in_err-block_on-clause-damaged g c =
    let v = g.V.View.seen c.args.view.now in
    let m = move_of c.args.m.now in
    let way : IsWayOf v m m.from c.bytes.result.now = subst (IsWayOf v m m.from) (sym c.bytes.ensures.bytes) (old_way v m c.requires) in
    told_on (IsWrongOnWays v m) c.from_residual.result _ c.from_residual.ensures.1 (c.in_err-block_on.ensures.damaged m way)

pub returns-in-Is-Some-clause-some : goal.returns-in-Is-Some-clause-some
returns-in-Is-Some-clause-some g c =
    let v = g.V.View.seen c.args.view.now in
    let m = move_of c.args.m.now in
    let way : IsWayOf v m m.from c.bytes.result.now = subst (IsWayOf v m m.from) (sym c.bytes.ensures.bytes) (old_way v m c.requires) in
    found_at c.in_ok-block_on.field-0 c.in-Is-Some.field-0 c.in-Is-Some.block (λ b. Contains c.args.blocks.now b × IsOnItsWay v m b) c.in-Is-Some.is c.in-Is-Some.field-0-is (c.in_ok-block_on.ensures.some m way)

pub returns-in-NeedBlock-clause-needed : goal.returns-in-NeedBlock-clause-needed
returns-in-NeedBlock-clause-needed g c =
    let v = g.V.View.seen c.args.view.now in
    let m = move_of c.args.m.now in
    let way : IsWayOf v m m.from c.bytes.result.now = subst (IsWayOf v m m.from) (sym c.bytes.ensures.bytes) (old_way v m c.requires) in
    needed_at _ _ (IsNeededOnWays v m) c.in-NeedBlock.is (c.in_ok-block_on.ensures.needed m way)

pub returns-in_err-block_on-2-clause-damaged : goal.returns-in_err-block_on-2-clause-damaged
returns-in_err-block_on-2-clause-damaged g c =
    let v = g.V.View.seen c.args.view.now in
    let m = move_of c.args.m.now in
    let way : IsWayOf v m m.to.inode c.bytes-2.result.now = subst (IsWayOf v m m.to.inode) (sym c.bytes-2.ensures.bytes) (new_way v m c.requires) in
    told_on (IsWrongOnWays v m) c.from_residual-in_err-block_on-2.result _ c.from_residual-in_err-block_on-2.ensures.1 (c.in_err-block_on-2.ensures.damaged m way)

pub returns-in-Is-Some-2-clause-some : goal.returns-in-Is-Some-2-clause-some
returns-in-Is-Some-2-clause-some g c =
    let v = g.V.View.seen c.args.view.now in
    let m = move_of c.args.m.now in
    let way : IsWayOf v m m.to.inode c.bytes-2.result.now = subst (IsWayOf v m m.to.inode) (sym c.bytes-2.ensures.bytes) (new_way v m c.requires) in
    found_at c.in_ok-block_on-2.field-0 c.in-Is-Some-2.field-0 c.in-Is-Some-2.block (λ b. Contains c.args.blocks.now b × IsOnItsWay v m b) c.in-Is-Some-2.is c.in-Is-Some-2.field-0-is (c.in_ok-block_on-2.ensures.some m way)

pub returns-in-NeedBlock-2-clause-needed : goal.returns-in-NeedBlock-2-clause-needed
returns-in-NeedBlock-2-clause-needed g c =
    let v = g.V.View.seen c.args.view.now in
    let m = move_of c.args.m.now in
    let way : IsWayOf v m m.to.inode c.bytes-2.result.now = subst (IsWayOf v m m.to.inode) (sym c.bytes-2.ensures.bytes) (new_way v m c.requires) in
    needed_at _ _ (IsNeededOnWays v m) c.in-NeedBlock-2.is (c.in_ok-block_on-2.ensures.needed m way)

pub returns-then-not-gets_parent-clause-none : goal.returns-then-not-gets_parent-clause-none
returns-then-not-gets_parent-clause-none g c =
    let v = g.V.View.seen c.args.view.now in
    let m = move_of c.args.m.now in
    let blocks = c.args.blocks.now in
    let Off : ℕ → List ℕ → Type 0 = λ dir name. (b : ℕ) → Contains blocks b → (h : Holding) → IsShown v dir h → IsOnWay h name b → ⊥ in
    let old : Off m.from m.name = subst (Off m.from) c.bytes.ensures.bytes (at_none (Off m.from c.bytes.result.now) c.in-Is-None.field-0 c.in-Is-None.field-0-is (answer_at _ _ (λ found. IfNone found (Off m.from c.bytes.result.now)) c.in-Is-None.is c.in_ok-block_on.ensures.none)) in
    let new : Off m.to.inode m.new_name = subst (Off m.to.inode) c.bytes-2.ensures.bytes (at_none (Off m.to.inode c.bytes-2.result.now) c.in-Is-None-2.field-0 c.in-Is-None-2.field-0-is (answer_at _ _ (λ found. IfNone found (Off m.to.inode c.bytes-2.result.now)) c.in-Is-None-2.is c.in_ok-block_on-2.ensures.none)) in
    off_all v m blocks old new (λ moves. absurd (true≢false (sym moves ∙ sym c.gets_parent.ensures ∙ c.if-not-gets_parent.true)))

pub returns-then-not-gets_parent-clause-right : goal.returns-then-not-gets_parent-clause-right
returns-then-not-gets_parent-clause-right g c h shown =
    let v = g.V.View.seen c.args.view.now in
    let blocks = c.args.blocks.now in
    let Right : List ℕ → Type 0 = λ name. blocks ≢ [] → IsRightWay v h name blocks in
    subst Right c.bytes-2.ensures.bytes (at_none (Right c.bytes-2.result.now) c.in-Is-None-2.field-0 c.in-Is-None-2.field-0-is (answer_at _ _ (λ found. IfNone found (Right c.bytes-2.result.now)) c.in-Is-None-2.is (c.in_ok-block_on-2.ensures.right h shown)))

pub returns-clause-some : goal.returns-clause-some
returns-clause-some g c =
    let m = move_of c.args.m.now in
    c.block_on-3.ensures.some m (parent_way (g.V.View.seen c.args.view.now) m c.requires (sym c.gets_parent.ensures ∙ c.if-not-gets_parent.false))

pub returns-clause-none : goal.returns-clause-none
returns-clause-none g c =
    let v = g.V.View.seen c.args.view.now in
    let m = move_of c.args.m.now in
    let blocks = c.args.blocks.now in
    let Off : ℕ → List ℕ → Type 0 = λ dir name. (b : ℕ) → Contains blocks b → (h : Holding) → IsShown v dir h → IsOnWay h name b → ⊥ in
    let old : Off m.from m.name = subst (Off m.from) c.bytes.ensures.bytes (at_none (Off m.from c.bytes.result.now) c.in-Is-None.field-0 c.in-Is-None.field-0-is (answer_at _ _ (λ found. IfNone found (Off m.from c.bytes.result.now)) c.in-Is-None.is c.in_ok-block_on.ensures.none)) in
    let new : Off m.to.inode m.new_name = subst (Off m.to.inode) c.bytes-2.ensures.bytes (at_none (Off m.to.inode c.bytes-2.result.now) c.in-Is-None-2.field-0 c.in-Is-None-2.field-0-is (answer_at _ _ (λ found. IfNone found (Off m.to.inode c.bytes-2.result.now)) c.in-Is-None-2.is c.in_ok-block_on-2.ensures.none)) in
    none_as (Off m.moved.inode (codes "..")) ((b : ℕ) → Contains blocks b → IsOffItsWays v m b) (λ parent. off_all v m blocks old new (λ moves. parent)) c.block_on-3.result c.block_on-3.ensures.none

pub returns-clause-right : goal.returns-clause-right
returns-clause-right g c h shown =
    let v = g.V.View.seen c.args.view.now in
    let blocks = c.args.blocks.now in
    let Right : List ℕ → Type 0 = λ name. blocks ≢ [] → IsRightWay v h name blocks in
    any_none (Right (move_of c.args.m.now).new_name)
    (subst Right c.bytes-2.ensures.bytes (at_none (Right c.bytes-2.result.now) c.in-Is-None-2.field-0 c.in-Is-None-2.field-0-is (answer_at _ _ (λ found. IfNone found (Right c.bytes-2.result.now)) c.in-Is-None-2.is (c.in_ok-block_on-2.ensures.right h shown))))
    c.block_on-3.result

pub returns-clause-needed : goal.returns-clause-needed
returns-clause-needed g c =
    let m = move_of c.args.m.now in
    c.block_on-3.ensures.needed m (parent_way (g.V.View.seen c.args.view.now) m c.requires (sym c.gets_parent.ensures ∙ c.if-not-gets_parent.false))

pub returns-clause-damaged : goal.returns-clause-damaged
returns-clause-damaged g c =
    let m = move_of c.args.m.now in
    c.block_on-3.ensures.damaged m (parent_way (g.V.View.seen c.args.view.now) m c.requires (sym c.gets_parent.ensures ∙ c.if-not-gets_parent.false))
