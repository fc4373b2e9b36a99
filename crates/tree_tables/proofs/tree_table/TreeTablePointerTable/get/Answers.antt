use Rattle.std.proofs.Common.{ℕ, List, suc, ◌≡◌, ◌≢◌, ◌+◌, ◌-◌, ◌*◌, ◌/◌, ◌%◌, Option, None, Some, length, sym, ap, ◌∙◌, subst, arith}
use Rattle.std.specs.Option.{option_map}
use Rattle.gfs2_layout.specs.Bytes.{u64_at}
use Rattle.gfs2_layout.specs.Inode.{Fits, Leads, header_length, height_in, unit}
use Rattle.gfs2_layout.specs.Structures.{dinode_length}
use Rattle.glock_names.proofs.StepLaws.{answer_at, needed_at, answer_so}
use Rattle.dinode_tree.proofs.Pieces.{needed_for}
use Rattle.dinode_tree.specs.Reading.{block_at}
use Rattle.std.specs.Prelude.{IfSome}
use Rattle.dinode_tree.specs.declared.locating.Located.{Located}
use Rattle.dinode_tree.specs.Broken as broken
use Rattle.tree_tables.specs.Pointers.{carries, seen_as}
use Rattle.tree_tables.proofs.Gets.{block_needed, needed_with, broken_so, bytes_led, found_block, found_hole, found_stuffed, no_table_header, one_less, by_two, seen_shown, told_block, told_hole, told_stuffed, unit_carries, where_there}
use Rattle.tree_tables.proofs.tree_table.TreeTablePointerTable.get.Goals as goal

-- src/tree_table.rt:103:13
pub returns-then-dinode-eq0-clause-told : goal.returns-then-dinode-eq0-clause-told
returns-then-dinode-eq0-clause-told g c =
    let v = g.V.View.seen c.args.view.now in
    let t = c.args.self.now in
    let i = c.args.index in
    let len = length c.in-Some.bytes.now in
    let s = seen_as v t.directory in
    let shown = seen_shown c.all_blocks_are_shown.ensures v t.directory in
    let dinode = answer_at _ _ _ c.in-Is.is (c.in_ok-dinode.ensures.found s shown) in
    let none : height_in s ≡ 0 = ap (λ d. d.height) (sym dinode) ∙ c.if-dinode-eq0.true in
    answer_so c.stuffed_pointer.result _ _ (λ p is. told_stuffed t v i p c.in-Some.bytes.now none c.in-Some.ensures.some (is.0 ∙ ap (λ n. u64_at (dinode_length + 8 * n) c.in-Some.bytes.now) c.from-at.ensures) is.1) c.stuffed_pointer.ensures.found

-- src/tree_table.rt:103:13
pub returns-then-dinode-eq0-clause-found : goal.returns-then-dinode-eq0-clause-found
returns-then-dinode-eq0-clause-found g c h table =
    let v = g.V.View.seen c.args.view.now in
    let t = c.args.self.now in
    let i = c.args.index in
    let len = length c.in-Some.bytes.now in
    let dinode = answer_at _ _ _ c.in-Is.is (c.in_ok-dinode.ensures.found h table.shown) in
    let fits : Fits h = answer_at _ _ _ c.in-Is.is (c.in_ok-dinode.ensures.fits h table.shown) in
    let none : height_in h ≡ 0 = ap (λ d. d.height) (sym dinode) ∙ c.if-dinode-eq0.true in
    answer_so c.stuffed_pointer.result _ _ (λ p is. found_stuffed t v h i table c.in-Some.ensures.view.block_size fits c.requires p c.in-Some.bytes.now none c.in-Some.ensures.some (is.0 ∙ ap (λ n. u64_at (dinode_length + 8 * n) c.in-Some.bytes.now) c.from-at.ensures) is.1) c.stuffed_pointer.ensures.found

-- src/tree_table.rt:92:5
pub returns-in-Is-Some-clause-there : goal.returns-in-Is-Some-clause-there
returns-in-Is-Some-clause-there g c =
    let v = g.V.View.seen c.args.view.now in
    let t = c.args.self.now in
    let i = c.args.index in
    let len = length c.in-Some.bytes.now in
    let b = c.in-Is-Some.located.block in
    where_there v b c.table_pointer.result (λ bytes p. (p.leaf ≡ u64_at (header_length + 8 * c.from-at.result % (len - 24)) bytes) × (p.from ≡ b)) _ c.table_pointer.ensures.there c.table_pointer.ensures.found
    (λ p bytes at is. (bytes, ap v.block_at is.1 ∙ at))

-- src/tree_table.rt:92:5
pub returns-in-Is-Some-clause-told : goal.returns-in-Is-Some-clause-told
returns-in-Is-Some-clause-told g c =
    let v = g.V.View.seen c.args.view.now in
    let t = c.args.self.now in
    let i = c.args.index in
    let len = length c.in-Some.bytes.now in
    let s = seen_as v t.directory in
    let shown = seen_shown c.all_blocks_are_shown.ensures v t.directory in
    let dinode = answer_at _ _ _ c.in-Is.is (c.in_ok-dinode.ensures.found s shown) in
    let high : height_in s ≢ 0 = λ z. c.if-dinode-eq0.false (ap (λ d. d.height) dinode ∙ z) in
    let unit_is : len - 24 ≡ carries s = ap (λ n. n - 24) (sym c.in-Some.ensures.size) in
    let place : block_at s (8 * c.from-at.result / (len - 24)) ≡ block_at s (8 * i / carries s) = by_two (λ n u. block_at s (8 * n / u)) c.from-at.result i (len - 24) (carries s) c.from-at.ensures unit_is in
    let at : block_at s (8 * i / carries s) ≡ Some c.in-Is-Some.located.block = sym place ∙ sym (answer_at _ _ _ c.in-Is-Some.is (c.in_ok-located.ensures.found s shown)) ∙ ap (option_map (λ (l : Located). l.block)) c.in-Is-Some.field-0-is in
    let leaf_is : (bytes : List ℕ) → u64_at (header_length + 8 * c.from-at.result % (len - 24)) bytes ≡ u64_at (header_length + 8 * i % carries s) bytes
    = λ bytes. by_two (λ n u. u64_at (header_length + 8 * n % u) bytes) c.from-at.result i (len - 24) (carries s) c.from-at.ensures unit_is in
    let b = c.in-Is-Some.located.block in
    where_there v b c.table_pointer.result (λ bytes p. (p.leaf ≡ u64_at (header_length + 8 * c.from-at.result % (len - 24)) bytes) × (p.from ≡ b)) _ c.table_pointer.ensures.there c.table_pointer.ensures.found
    (λ p bytes here is. told_block t v i p b bytes high at here (is.0 ∙ leaf_is bytes) is.1)

-- src/tree_table.rt:92:5
pub returns-in-Is-Some-clause-found : goal.returns-in-Is-Some-clause-found
returns-in-Is-Some-clause-found g c h table =
    let v = g.V.View.seen c.args.view.now in
    let t = c.args.self.now in
    let i = c.args.index in
    let len = length c.in-Some.bytes.now in
    let dinode = answer_at _ _ _ c.in-Is.is (c.in_ok-dinode.ensures.found h table.shown) in
    let fits : Fits h = answer_at _ _ _ c.in-Is.is (c.in_ok-dinode.ensures.fits h table.shown) in
    let high : height_in h ≡ suc (height_in h - 1) = one_less (height_in h) (λ z. c.if-dinode-eq0.false (ap (λ d. d.height) dinode ∙ z)) in
    let unit_is : len - 24 ≡ unit h = ap (λ n. n - 24) (sym c.in-Some.ensures.size) ∙ sym (unit_carries t v h i table c.in-Some.ensures.view.block_size fits c.requires) in
    let place : block_at h (8 * c.from-at.result / (len - 24)) ≡ block_at h (8 * i / unit h) = by_two (λ n u. block_at h (8 * n / u)) c.from-at.result i (len - 24) (unit h) c.from-at.ensures unit_is in
    let at : block_at h (8 * i / unit h) ≡ Some c.in-Is-Some.located.block = sym place ∙ sym (answer_at _ _ _ c.in-Is-Some.is (c.in_ok-located.ensures.found h table.shown)) ∙ ap (option_map (λ (l : Located). l.block)) c.in-Is-Some.field-0-is in
    let leaf_is : (bytes : List ℕ) → u64_at (header_length + 8 * c.from-at.result % (len - 24)) bytes ≡ u64_at (header_length + 8 * i % unit h) bytes
    = λ bytes. by_two (λ n u. u64_at (header_length + 8 * n % u) bytes) c.from-at.result i (len - 24) (unit h) c.from-at.ensures unit_is in
    let way = subst (λ (o : Option Located). IfSome o (λ (l : Located). (k : ℕ) × Leads h l.from k 0 (8 * c.from-at.result / (len - 24)) l.block)) c.in-Is-Some.field-0-is (answer_at _ _ _ c.in-Is-Some.is (c.in_ok-located.ensures.leads h table.shown)) in
    let b = c.in-Is-Some.located.block in
    where_there v b c.table_pointer.result (λ bytes p. (p.leaf ≡ u64_at (header_length + 8 * c.from-at.result % (len - 24)) bytes) × (p.from ≡ b)) _ c.table_pointer.ensures.there c.table_pointer.ensures.found
    (λ p bytes here is. found_block t v h i table c.in-Some.ensures.view.block_size fits c.requires (height_in h - 1) high p b bytes at (bytes_led v h t.directory c.in-Is-Some.located.from way.0 (8 * c.from-at.result / (len - 24)) b bytes table.shown way.1 here) (is.0 ∙ leaf_is bytes) is.1)

-- src/tree_table.rt:92:5
pub returns-in-Is-None-clause-told : goal.returns-in-Is-None-clause-told
returns-in-Is-None-clause-told g c =
    let v = g.V.View.seen c.args.view.now in
    let t = c.args.self.now in
    let i = c.args.index in
    let len = length c.in-Some.bytes.now in
    let s = seen_as v t.directory in
    let shown = seen_shown c.all_blocks_are_shown.ensures v t.directory in
    let dinode = answer_at _ _ _ c.in-Is.is (c.in_ok-dinode.ensures.found s shown) in
    let high : height_in s ≢ 0 = λ z. c.if-dinode-eq0.false (ap (λ d. d.height) dinode ∙ z) in
    let unit_is : len - 24 ≡ carries s = ap (λ n. n - 24) (sym c.in-Some.ensures.size) in
    let place : block_at s (8 * c.from-at.result / (len - 24)) ≡ block_at s (8 * i / carries s) = by_two (λ n u. block_at s (8 * n / u)) c.from-at.result i (len - 24) (carries s) c.from-at.ensures unit_is in
    let at : block_at s (8 * i / carries s) ≡ None = sym place ∙ sym (answer_at _ _ _ c.in-Is-None.is (c.in_ok-located.ensures.found s shown)) ∙ ap (option_map (λ (l : Located). l.block)) c.in-Is-None.field-0-is in
    told_hole t v i c.in-Some.bytes.now high at c.in-Some.ensures.some

-- src/tree_table.rt:92:5
pub returns-in-Is-None-clause-found : goal.returns-in-Is-None-clause-found
returns-in-Is-None-clause-found g c h table =
    let v = g.V.View.seen c.args.view.now in
    let t = c.args.self.now in
    let i = c.args.index in
    let len = length c.in-Some.bytes.now in
    let dinode = answer_at _ _ _ c.in-Is.is (c.in_ok-dinode.ensures.found h table.shown) in
    let fits : Fits h = answer_at _ _ _ c.in-Is.is (c.in_ok-dinode.ensures.fits h table.shown) in
    let high : height_in h ≡ suc (height_in h - 1) = one_less (height_in h) (λ z. c.if-dinode-eq0.false (ap (λ d. d.height) dinode ∙ z)) in
    let unit_is : len - 24 ≡ unit h = ap (λ n. n - 24) (sym c.in-Some.ensures.size) ∙ sym (unit_carries t v h i table c.in-Some.ensures.view.block_size fits c.requires) in
    let place : block_at h (8 * c.from-at.result / (len - 24)) ≡ block_at h (8 * i / unit h) = by_two (λ n u. block_at h (8 * n / u)) c.from-at.result i (len - 24) (unit h) c.from-at.ensures unit_is in
    let at : block_at h (8 * i / unit h) ≡ None = sym place ∙ sym (answer_at _ _ _ c.in-Is-None.is (c.in_ok-located.ensures.found h table.shown)) ∙ ap (option_map (λ (l : Located). l.block)) c.in-Is-None.field-0-is in
    found_hole t v h i table c.in-Some.ensures.view.block_size fits c.requires (height_in h - 1) high at

-- src/tree_table.rt:92:5
pub returns-in-Is-Some-clause-needed : goal.returns-in-Is-Some-clause-needed
returns-in-Is-Some-clause-needed g c h table =
    let v = g.V.View.seen c.args.view.now in
    let t = c.args.self.now in
    let i = c.args.index in
    let len = length c.in-Some.bytes.now in
    let dinode = answer_at _ _ _ c.in-Is.is (c.in_ok-dinode.ensures.found h table.shown) in
    let fits : Fits h = answer_at _ _ _ c.in-Is.is (c.in_ok-dinode.ensures.fits h table.shown) in
    let unit_is : len - 24 ≡ unit h = ap (λ n. n - 24) (sym c.in-Some.ensures.size) ∙ sym (unit_carries t v h i table c.in-Some.ensures.view.block_size fits c.requires) in
    let way = subst (λ (o : Option Located). IfSome o (λ (l : Located). (k : ℕ) × Leads h l.from k 0 (8 * c.from-at.result / (len - 24)) l.block)) c.in-Is-Some.field-0-is (answer_at _ _ _ c.in-Is-Some.is (c.in_ok-located.ensures.leads h table.shown)) in
    let index : 8 * c.from-at.result / (len - 24) ≡ 8 * i / unit h = by_two (λ n u. 8 * n / u) c.from-at.result i (len - 24) (unit h) c.from-at.ensures unit_is in
    let leads : Leads h c.in-Is-Some.located.from way.0 0 (8 * i / unit h) c.in-Is-Some.located.block = subst (λ n. Leads h c.in-Is-Some.located.from way.0 0 n c.in-Is-Some.located.block) index way.1 in
    needed_with c.table_pointer.result _ _ _ (λ m is absent. block_needed t v h i table c.in-Some.ensures.view.block_size fits c.requires m c.in-Is-Some.located.from c.in-Is-Some.located.block way.0 (8 * i / unit h) is absent leads) c.table_pointer.ensures.needed c.table_pointer.ensures.absent

-- src/tree_table.rt:92:5
pub returns-in-Is-Some-clause-damaged : goal.returns-in-Is-Some-clause-damaged
returns-in-Is-Some-clause-damaged g c h table =
    let v = g.V.View.seen c.args.view.now in
    let t = c.args.self.now in
    let i = c.args.index in
    let len = length c.in-Some.bytes.now in
    let fits : Fits h = answer_at _ _ _ c.in-Is.is (c.in_ok-dinode.ensures.fits h table.shown) in
    let way = subst (λ (o : Option Located). IfSome o (λ (l : Located). (k : ℕ) × Leads h l.from k 0 (8 * c.from-at.result / (len - 24)) l.block)) c.in-Is-Some.field-0-is (answer_at _ _ _ c.in-Is-Some.is (c.in_ok-located.ensures.leads h table.shown)) in
    broken_so c.table_pointer.result _ _ (λ rule b is. subst (λ r. broken.IsBroken h r b) (sym is.0) (subst (broken.IsBroken h 1) (sym is.1)
    (no_table_header t v h i table c.in-Some.ensures.view.block_size fits c.requires c.in-Is-Some.located.from c.in-Is-Some.located.block way.0 (8 * c.from-at.result / (len - 24)) is.2.0 way.1 (bytes_led v h t.directory c.in-Is-Some.located.from way.0 (8 * c.from-at.result / (len - 24)) c.in-Is-Some.located.block is.2.0 table.shown way.1 is.2.1) is.2.2))) c.table_pointer.ensures.damaged

-- src/tree_table.rt:92:5
pub returns-in-NeedBlock-2-clause-absent : goal.returns-in-NeedBlock-2-clause-absent
returns-in-NeedBlock-2-clause-absent g c =
    let v = g.V.View.seen c.args.view.now in
    let t = c.args.self.now in
    (needed_at _ _ _ c.in-NeedBlock-2.is (c.in_ok-located.ensures.needed (seen_as v t.directory) (seen_shown c.all_blocks_are_shown.ensures v t.directory))).absent

-- src/tree_table.rt:92:5
pub returns-in-NeedBlock-2-clause-needed : goal.returns-in-NeedBlock-2-clause-needed
returns-in-NeedBlock-2-clause-needed g c h table =
    let v = g.V.View.seen c.args.view.now in
    let t = c.args.self.now in
    let i = c.args.index in
    let len = length c.in-Some.bytes.now in
    let dinode = answer_at _ _ _ c.in-Is.is (c.in_ok-dinode.ensures.found h table.shown) in
    let fits : Fits h = answer_at _ _ _ c.in-Is.is (c.in_ok-dinode.ensures.fits h table.shown) in
    let unit_is : len - 24 ≡ unit h = ap (λ n. n - 24) (sym c.in-Some.ensures.size) ∙ sym (unit_carries t v h i table c.in-Some.ensures.view.block_size fits c.requires) in
    let index : 8 * c.from-at.result / (len - 24) ≡ 8 * i / unit h = by_two (λ n u. 8 * n / u) c.from-at.result i (len - 24) (unit h) c.from-at.ensures unit_is in
    needed_for v h _ _ 1 0 c.in-NeedBlock-2.missing (λ k is. is ∙ index) (omega arith) (needed_at _ _ _ c.in-NeedBlock-2.is (c.in_ok-located.ensures.needed h table.shown))
