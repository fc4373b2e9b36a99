use Rattle.std.proofs.Common.{◌≡◌, ◌↔◌, ℕ, ◌-◌, ◌++◌, length, take, drop, refl, sym, ap, ap₂, ◌∙◌, subst, arith}
use Rattle.std.specs.Prelude.{Contains}
use Rattle.std.proofs.lemmas.List.{take-append-drop}
use Rattle.std.specs.List.{each_same}
use Rattle.dinode_tree.specs.Below.{IsBelow, TellsOfBlock}
use Rattle.dinode_tree.specs.Broken.{IsBroken}
use Rattle.dinode_tree.specs.Reading.{inode_lock}
use Rattle.glock_names.specs.Steps.{TellsOf}
use Rattle.glock_names.proofs.StepLaws.{answer_at, needed_at}
use Rattle.linear_dirs.proofs.Looked.{handed}
use Rattle.table_files.specs.Pointers.{IsTableBroken}
use Rattle.table_files.specs.Tables.{CanDouble}
use Rattle.nested_drafts.specs.Nested.{with_blocks}
use Rattle.table_changes.specs.Doubling.{AreDoubledBlocks, IsDoubledTable}
use Rattle.table_changes.proofs.Below.{damage_tells, hashed_no_file, table_tells}
use Rattle.table_changes.proofs.Committed.{are_of, contradict, left_is, none_and, some_at, table_after, takes_doubled, takes_within}
use Rattle.table_changes.proofs.table_mut.TreeTablePointerTableMut.double.Goals as goal

pub returns-in_err-dinode-clause-damaged : goal.returns-in_err-dinode-clause-damaged
returns-in_err-dinode-clause-damaged g c = λ h table.
    handed c.from_residual.result _ (TellsOf (IsTableBroken h)) c.from_residual.ensures.1 (table_tells h c.in_err-dinode.field-0.0 (damage_tells (IsBroken h) c.in_err-dinode.field-0.0 (c.in_err-dinode.ensures.damaged h table.shown)))

pub returns-in_err-below-clause-damaged : goal.returns-in_err-below-clause-damaged
returns-in_err-below-clause-damaged g c = λ h table.
    handed c.from_residual-in_err-below.result _ (TellsOf (IsTableBroken h)) c.from_residual-in_err-below.ensures.1 (table_tells h c.in_err-below.field-0.0 (c.in_err-below.ensures.damaged h table.shown))

pub returns-in-NeedBlock-2-clause-needed : goal.returns-in-NeedBlock-2-clause-needed
returns-in-NeedBlock-2-clause-needed g c = λ h table. needed_at _ _ _ c.in-NeedBlock-2.is (c.in_ok-below.ensures.needed h table.shown (hashed_no_file h table.hashed))

pub returns-in-NeedBlock-3-clause-needed : goal.returns-in-NeedBlock-3-clause-needed
returns-in-NeedBlock-3-clause-needed g c = λ h table. needed_at _ _ _ c.in-NeedBlock-3.is (c.in_ok-bytes.ensures.needed h table)

pub returns-in_default-clause-doubled : goal.returns-in_default-clause-doubled
returns-in_default-clause-doubled g c = λ h table can.
    let same : c.in_ok-left.left.items ≡ c.args.room.now.items = each_same c.args.room.now.items c.in_ok-left.left.items c.in_ok-left.ensures.cases.0 in
    let dinode = answer_at _ _ _ c.in-Is.is (c.in_ok-dinode.ensures.found h table.shown) in
    let below = answer_at _ _ _ c.in-Is-2.is (c.in_ok-below.ensures.seen h table.shown) in
    let doubled = answer_at _ _ _ c.in-Is-3.is (c.in_ok-bytes.ensures.doubled h table can.sound (ap (λ d. d.height) dinode)) in
    let made = c.in_ok-blocks.ensures.doubled h table dinode (subst (IsDoubledTable h) (sym c.deref.ensures.value) doubled) below (subst (CanDouble h) (sym same) can) in
    absurd (none_and _ _ c.in_default.is made)

pub returns-then-not-are_of_table-clause-doubled : goal.returns-then-not-are_of_table-clause-doubled
returns-then-not-are_of_table-clause-doubled g c = λ h table can.
    let room = c.args.room.now.items in
    let left = c.doubled_blocks.new.room.items in
    let same : c.in_ok-left.left.items ≡ room = each_same room c.in_ok-left.left.items c.in_ok-left.ensures.cases.0 in
    let again : c.in_ok-taken.taken.items ≡ room = each_same room c.in_ok-taken.taken.items c.in_ok-taken.ensures.cases.0 in
    let gone : c.saturating_sub.result ≡ length room - length left = omega (arith, c.saturating_sub.ensures, c.len.ensures, c.len-2.ensures) in
    let front : c.split_off.new.self.items ≡ take (length room - length left) room = c.in_ok-rest.ensures.items ∙ ap (λ n. take n c.in_ok-taken.taken.items) gone ∙ ap (take (length room - length left)) again in
    let dinode = answer_at _ _ _ c.in-Is.is (c.in_ok-dinode.ensures.found h table.shown) in
    let below = answer_at _ _ _ c.in-Is-2.is (c.in_ok-below.ensures.seen h table.shown) in
    let tells = answer_at _ _ _ c.in-Is-2.is (c.in_ok-below.ensures.below h table.shown) in
    let doubled = answer_at _ _ _ c.in-Is-3.is (c.in_ok-bytes.ensures.doubled h table can.sound (ap (λ d. d.height) dinode)) in
    let made = c.in_ok-blocks.ensures.doubled h table dinode (subst (IsDoubledTable h) (sym c.deref.ensures.value) doubled) below (subst (CanDouble h) (sym same) can) in
    let all = subst (λ xs. AreDoubledBlocks h xs left c.in-Some.blocks.items) same (some_at _ _ _ c.in-Some.is made) in
    contradict c.are_of_table.result (c.are_of_table.ensures.1 (λ w has. are_of h room left c.in-Some.blocks.items all can.sound can.placed c.args.self.now.directory c.deref-3.result.now c.split_off.new.self.items table.shown.own
    (subst (λ xs. (b : ℕ) → TellsOfBlock xs b ↔ IsBelow h b) (sym c.deref-3.ensures.value) tells) front w (subst (λ xs. Contains xs w) c.deref-2.ensures.value has))) c.if-not-are_of_table.true

pub returns-clause-doubled : goal.returns-clause-doubled
returns-clause-doubled g c = λ h table can.
    let room = c.args.room.now.items in
    let left = c.doubled_blocks.new.room.items in
    let same : c.in_ok-left.left.items ≡ room = each_same room c.in_ok-left.left.items c.in_ok-left.ensures.cases.0 in
    let again : c.in_ok-taken.taken.items ≡ room = each_same room c.in_ok-taken.taken.items c.in_ok-taken.ensures.cases.0 in
    let gone : c.saturating_sub.result ≡ length room - length left = omega (arith, c.saturating_sub.ensures, c.len.ensures, c.len-2.ensures) in
    let dinode = answer_at _ _ _ c.in-Is.is (c.in_ok-dinode.ensures.found h table.shown) in
    let below = answer_at _ _ _ c.in-Is-2.is (c.in_ok-below.ensures.seen h table.shown) in
    let doubled = answer_at _ _ _ c.in-Is-3.is (c.in_ok-bytes.ensures.doubled h table can.sound (ap (λ d. d.height) dinode)) in
    let made = c.in_ok-blocks.ensures.doubled h table dinode (subst (IsDoubledTable h) (sym c.deref.ensures.value) doubled) below (subst (CanDouble h) (sym same) can) in
    let first = subst (λ xs. AreDoubledBlocks h xs left c.in-Some.blocks.items) same (some_at _ _ _ c.in-Some.is made) in
    let rest : left ≡ c.in_ok-rest.rest.items = sym (c.in_ok-rest.ensures.tail ∙ ap (λ n. drop n c.in_ok-taken.taken.items) gone ∙ ap (drop (length room - length left)) again ∙ left_is h room left c.in-Some.blocks.items first) in
    let all = subst (λ xs. AreDoubledBlocks h room xs c.in-Some.blocks.items) rest first in
    let put = c.in_ok-put_blocks.ensures.put ∙ ap (λ l. record c.args.draft.now { fates = with_blocks l c.deref-4.result.now c.args.draft.now.fates }) c.lock_of.ensures
    ∙ ap (λ xs. record c.args.draft.now { fates = with_blocks (inode_lock c.args.self.now.directory) xs c.args.draft.now.fates }) c.deref-4.ensures.value in
    let size = c.block_size-size.ensures.view.block_size in
    (refl, (all.g, table_after h _ _ _ all g.V.View.seen c.args.draft.now c.put_blocks.new.draft c.args.self.now table size put _ refl refl, takes_doubled h _ _ _ all g.V.View.seen c.args.draft.now c.put_blocks.new.draft c.args.self.now table size put))

pub returns-clause-parts : goal.returns-clause-parts
returns-clause-parts g c = λ h table done.
    let room = c.args.room.now.items in
    let again : c.in_ok-taken.taken.items ≡ room = each_same room c.in_ok-taken.taken.items c.in_ok-taken.ensures.cases.0 in
    let n = c.saturating_sub.result in
    let front : room ≡ c.split_off.new.self.items ++ c.in_ok-rest.rest.items
    = sym again ∙ sym (take-append-drop n c.in_ok-taken.taken.items) ∙ ap₂ (λ xs ys. xs ++ ys) (sym c.in_ok-rest.ensures.items) (sym c.in_ok-rest.ensures.tail) in
    let tells = answer_at _ _ _ c.in-Is-2.is (c.in_ok-below.ensures.below h table.shown) in
    let put = ap (λ d. d.fates) c.in_ok-put_blocks.ensures.put in
    takes_within h c.lock_of.result c.deref-4.result.now c.args.draft.now.fates c.put_blocks.new.draft.fates c.args.self.now.directory c.deref-3.result.now room c.split_off.new.self.items c.in_ok-rest.rest.items table.shown.own
    (subst (λ xs. (b : ℕ) → TellsOfBlock xs b ↔ IsBelow h b) (sym c.deref-3.ensures.value) tells) front
    (λ w has. c.are_of_table.ensures.0 c.if-not-are_of_table.false w (subst (λ xs. Contains xs w) (c.deref-4.ensures.value ∙ sym c.deref-2.ensures.value) has)) put
