use Rattle.std.proofs.Common.{◌≡◌, Ok, Err, refl, sym, ap, subst}
use Rattle.image_model.specs.Image.{image_in, image_of}
use Rattle.shared_disk.specs.Memory.{MemoryDisk, memory_state}
use Rattle.replayed_trees.specs.Answers.{GivesTree, IfDamaged, IsToldByPlans, IsUnreadable}
use Rattle.replayed_trees.proofs.ByPlans.{look_by_plans, tree_by_plans}
use Rattle.replayed_trees.proofs.Found.{given, look_stands, planned, stopped_so, tree_told, unread_tree}
use Rattle.replayed_trees.proofs.tree.read_by.Goals as goal

pub returns-in-Err-clause-stands : goal.returns-in-Err-clause-stands
returns-in-Err-clause-stands c l r t its found marked is stands =
    let s = memory_state c.in-Ok.disk in
    let im = image_in c.args.block_size c.args.bytes.items in
    let of : image_of s ≡ im = ap (λ (d : MemoryDisk). image_of (memory_state d)) c.in-Ok.ensures.value in
    subst (λ f. GivesTree t (Err f)) (sym c.of_look.ensures)
    (look_stands im l r t c.in-Err.fault c.stopped_images_have_no_replay.ensures is
    (stopped_so s refl im of l its c.args.journals.now found c.args.marks marked c.in-Err.fault c.in-Err.ensures.stopped))

pub returns-in-Ok-read_replayed_tree-clause-stands : goal.returns-in-Ok-read_replayed_tree-clause-stands
returns-in-Ok-read_replayed_tree-clause-stands c l r t its found marked is stands =
    let s = memory_state c.in-Ok.disk in
    let im = image_in c.args.block_size c.args.bytes.items in
    let of : image_of s ≡ im = ap (λ (d : MemoryDisk). image_of (memory_state d)) c.in-Ok.ensures.value in
    let plans = c.in-Ok-plan_journals.plans.items in
    let planned_is = planned s refl im of l its c.args.journals.now found c.args.marks marked plans c.in-Ok-plan_journals.ensures.plans in
    given s (memory_state c.plan_journals.new.disk) c.in-Ok-plan_journals.ensures.reads.same refl im of l plans c.deref.result.now c.deref.ensures.value planned_is
    (Ok c.in-Ok-read_replayed_tree.tree) c.in-Ok-read_replayed_tree.ensures.stands r t is stands

pub returns-clause-stands : goal.returns-clause-stands
returns-clause-stands c l r t its found marked is stands =
    let s = memory_state c.in-Ok.disk in
    let im = image_in c.args.block_size c.args.bytes.items in
    let of : image_of s ≡ im = ap (λ (d : MemoryDisk). image_of (memory_state d)) c.in-Ok.ensures.value in
    let plans = c.in-Ok-plan_journals.plans.items in
    let planned_is = planned s refl im of l its c.args.journals.now found c.args.marks marked plans c.in-Ok-plan_journals.ensures.plans in
    subst (λ f. GivesTree t (Err f)) (sym c.of_tree.ensures)
    (unread_tree t c.in-Err-read_replayed_tree.fault
    (given s (memory_state c.plan_journals.new.disk) c.in-Ok-plan_journals.ensures.reads.same refl im of l plans c.deref.result.now c.deref.ensures.value planned_is
    (Err c.in-Err-read_replayed_tree.fault) c.in-Err-read_replayed_tree.ensures.stands r t is stands))

pub returns-clause-damaged : goal.returns-clause-damaged
returns-clause-damaged c l its found marked =
    let s = memory_state c.in-Ok.disk in
    let im = image_in c.args.block_size c.args.bytes.items in
    let of : image_of s ≡ im = ap (λ (d : MemoryDisk). image_of (memory_state d)) c.in-Ok.ensures.value in
    let plans = c.in-Ok-plan_journals.plans.items in
    let planned_is = planned s refl im of l its c.args.journals.now found c.args.marks marked plans c.in-Ok-plan_journals.ensures.plans in
    subst (λ u. IfDamaged u (IsUnreadable im l)) (sym c.of_tree.ensures)
    (tree_told s (memory_state c.plan_journals.new.disk) c.in-Ok-plan_journals.ensures.reads.same refl im of l plans c.deref.result.now c.deref.ensures.value planned_is
    c.in-Err-read_replayed_tree.fault c.in-Err-read_replayed_tree.ensures.damaged)

pub returns-in-Err-clause-told : goal.returns-in-Err-clause-told
returns-in-Err-clause-told c =
    let s = memory_state c.in-Ok.disk in
    let im = image_in c.args.block_size c.args.bytes.items in
    let of : image_of s ≡ im = ap (λ (d : MemoryDisk). image_of (memory_state d)) c.in-Ok.ensures.value in
    subst (λ u. IfDamaged u (IsToldByPlans im)) (sym c.of_look.ensures) (look_by_plans (image_of s) im of c.in-Err.fault (c.in-Err.ensures.next refl))

pub returns-clause-told : goal.returns-clause-told
returns-clause-told c =
    let s = memory_state c.in-Ok.disk in
    let im = image_in c.args.block_size c.args.bytes.items in
    let of : image_of s ≡ im = ap (λ (d : MemoryDisk). image_of (memory_state d)) c.in-Ok.ensures.value in
    subst (λ u. IfDamaged u (IsToldByPlans im)) (sym c.of_tree.ensures)
    (tree_by_plans s (memory_state c.plan_journals.new.disk) c.in-Ok-plan_journals.ensures.reads.same refl im of c.args.journals.now c.in-Ok-plan_journals.plans.items c.deref.result.now c.deref.ensures.value
    c.in-Ok-plan_journals.ensures.made c.in-Err-read_replayed_tree.fault c.in-Err-read_replayed_tree.ensures.damaged)
