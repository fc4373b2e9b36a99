use Rattle.std.proofs.Common.{◌≡◌, ℕ, ◌+◌, ◌<◌, ◌≤◌, IfSome, inl, sym, subst, length, ◌∙◌, arith}
use Rattle.gfs2_layout.specs.Inode.{dinode_in}
use Rattle.glock_names.proofs.StepLaws.{answer_at, needed_at}
use Rattle.glock_names.specs.Views.{HasBlock}
use Rattle.growth_laws.specs.Files.{block_on}
use Rattle.file_walks.specs.Going.{IsBegun, IsWayIn}
use Rattle.file_walks.specs.Walks.{IsOfInode, IsStop, LeadsOn, place_above}
use Rattle.file_walks.specs.declared.walks.Stop.{Stop}
use Rattle.file_walks.proofs.Steps.{seen_dinode, way_in}
use Rattle.file_walks.proofs.walks.find_place.Goals as goal

pub returns-in-Is-2-clause-found : goal.returns-in-Is-2-clause-found
returns-in-Is-2-clause-found g c h file shown =
    let d_is : c.in-Is.dinode ≡ dinode_in h = answer_at c.in_ok-dinode.field-0 c.in-Is.dinode _ c.in-Is.is (c.in_ok-dinode.ensures.found h shown) in
    let way = way_in (g.V.View.seen c.args.view.now) h c.args.inode c.args.level c.args.index (length c.in-Some.bytes.now) c.in-Is.dinode shown d_is c.in-Some.ensures.size in
    let w : IsWayIn h (record { inode = c.args.inode; height = c.in-Is.dinode.height; count = c.count_blocks.result; level = c.args.level; index = c.args.index })
    = record { own = way.own; height = way.height; count = c.count_blocks.ensures ∙ way.count } in
    let o = seen_dinode (g.V.View.seen c.args.view.now) h c.args.inode c.in-Some.bytes.now shown c.in-Some.ensures.some c.in-Some.ensures.size in
    let begun = subst (IsBegun h c.args.level c.args.index) c.in-Some-2.is (c.in_ok-first.ensures.begun h file w o) in
    let leads = subst (λ found. IfSome found (LeadsOn h c.args.level c.args.index)) c.in-Some-2.is (c.in_ok-first.ensures.leads h w o) in
    (begun.0, answer_at c.in_ok-stop.field-0 c.in-Is-2.stop (IsStop h c.args.level c.args.index) c.in-Is-2.is (c.in_ok-stop.ensures.stopped h file shown begun.0 begun.1 leads))

pub returns-in-NeedBlock-2-clause-needed : goal.returns-in-NeedBlock-2-clause-needed
returns-in-NeedBlock-2-clause-needed g c h i shown wanted =
    let d_is : c.in-Is.dinode ≡ dinode_in h = answer_at c.in_ok-dinode.field-0 c.in-Is.dinode _ c.in-Is.is (c.in_ok-dinode.ensures.found h shown) in
    let way = way_in (g.V.View.seen c.args.view.now) h c.args.inode c.args.level c.args.index (length c.in-Some.bytes.now) c.in-Is.dinode shown d_is c.in-Some.ensures.size in
    let w : IsWayIn h (record { inode = c.args.inode; height = c.in-Is.dinode.height; count = c.count_blocks.result; level = c.args.level; index = c.args.index })
    = record { own = way.own; height = way.height; count = c.count_blocks.ensures ∙ way.count } in
    let o = seen_dinode (g.V.View.seen c.args.view.now) h c.args.inode c.in-Some.bytes.now shown c.in-Some.ensures.some c.in-Some.ensures.size in
    let leads = subst (λ found. IfSome found (LeadsOn h c.args.level c.args.index)) c.in-Some-2.is (c.in_ok-first.ensures.leads h w o) in
    needed_at c.in_ok-stop.field-0 c.in-NeedBlock-2.missing _ c.in-NeedBlock-2.is (c.in_ok-stop.ensures.needed h i shown leads wanted)

pub returns-in-Is-2-clause-seen : goal.returns-in-Is-2-clause-seen
returns-in-Is-2-clause-seen g c h file shown l low high =
    let d_is : c.in-Is.dinode ≡ dinode_in h = answer_at c.in_ok-dinode.field-0 c.in-Is.dinode _ c.in-Is.is (c.in_ok-dinode.ensures.found h shown) in
    let way = way_in (g.V.View.seen c.args.view.now) h c.args.inode c.args.level c.args.index (length c.in-Some.bytes.now) c.in-Is.dinode shown d_is c.in-Some.ensures.size in
    let w : IsWayIn h (record { inode = c.args.inode; height = c.in-Is.dinode.height; count = c.count_blocks.result; level = c.args.level; index = c.args.index })
    = record { own = way.own; height = way.height; count = c.count_blocks.ensures ∙ way.count } in
    let o = seen_dinode (g.V.View.seen c.args.view.now) h c.args.inode c.in-Some.bytes.now shown c.in-Some.ensures.some c.in-Some.ensures.size in
    let begun = subst (IsBegun h c.args.level c.args.index) c.in-Some-2.is (c.in_ok-first.ensures.begun h file w o) in
    let leads = subst (λ found. IfSome found (LeadsOn h c.args.level c.args.index)) c.in-Some-2.is (c.in_ok-first.ensures.leads h w o) in
    let top : c.in-Some-2.first.level + 1 ≡ c.in-Is.dinode.height = subst (λ found. IfSome found (λ (stop : Stop). stop.level + 1 ≡ c.in-Is.dinode.height)) c.in-Some-2.is c.in_ok-first.ensures.top in
    answer_at c.in_ok-stop.field-0 c.in-Is-2.stop
    (λ (stop : Stop). (n : ℕ) → stop.level < n → n ≤ c.in-Some-2.first.level → HasBlock (g.V.View.seen c.args.view.now) (block_on h n (place_above h.size c.args.level c.args.index n))) c.in-Is-2.is
    (c.in_ok-stop.ensures.seen h file shown begun.1 leads) l low (omega (arith, top, high, way.height))

pub returns-in-Is-2-clause-from : goal.returns-in-Is-2-clause-from
returns-in-Is-2-clause-from g c h shown =
    let d_is : c.in-Is.dinode ≡ dinode_in h = answer_at c.in_ok-dinode.field-0 c.in-Is.dinode _ c.in-Is.is (c.in_ok-dinode.ensures.found h shown) in
    let way = way_in (g.V.View.seen c.args.view.now) h c.args.inode c.args.level c.args.index (length c.in-Some.bytes.now) c.in-Is.dinode shown d_is c.in-Some.ensures.size in
    let w : IsWayIn h (record { inode = c.args.inode; height = c.in-Is.dinode.height; count = c.count_blocks.result; level = c.args.level; index = c.args.index })
    = record { own = way.own; height = way.height; count = c.count_blocks.ensures ∙ way.count } in
    let o = seen_dinode (g.V.View.seen c.args.view.now) h c.args.inode c.in-Some.bytes.now shown c.in-Some.ensures.some c.in-Some.ensures.size in
    let leads = subst (λ found. IfSome found (LeadsOn h c.args.level c.args.index)) c.in-Some-2.is (c.in_ok-first.ensures.leads h w o) in
    let first : c.in-Some-2.first.pointer.from ≡ c.args.inode = subst (λ found. IfSome found (λ (stop : Stop). stop.pointer.from ≡ c.args.inode)) c.in-Some-2.is c.in_ok-first.ensures.from in
    answer_at c.in_ok-stop.field-0 c.in-Is-2.stop (λ (stop : Stop). IsOfInode h stop.pointer.from) c.in-Is-2.is (c.in_ok-stop.ensures.from h shown leads (inl (first ∙ sym shown.own)))
