use Rattle.std.proofs.Common.{◌≡◌, ◌-◌, ◌/◌, ◌≤◌, inl, inr, true, false, Some, [], sym, ap, subst, ◌∙◌, arith, rules}
use Rattle.std.proofs.lemmas.Bool.{cases_eq}
use Rattle.drafts.specs.Fates.{seen_in}
use Rattle.gfs2_layout.specs.Inode.{span}
use Rattle.growth_laws.specs.Files.{with_cells}
use Rattle.growth_drafts.specs.Touched.{as_it_was}
use Rattle.file_fills.proofs.Touching.{reached_from}
use Rattle.file_cuts.proofs.Leading.{led_one}
use Rattle.file_cuts.proofs.Place.{has_block, index_so, on_hole, on_kept, place_so, same_level, shown_so}
use Rattle.file_cuts.proofs.Steps.{reached_at}
use Rattle.file_cuts.proofs.freeing.free_at.Goals as goal

pub returns-in_default-clause-gone : goal.returns-in_default-clause-gone
returns-in_default-clause-gone g c h old end can reach begins low a =
    let shown = shown_so g.V.View.seen old c.args.draft.now c.args.inode h end c.args.level c.args.place c.args.freed.now.items can reach begins low a in
    let place = place_so g.V.View.seen old c.args.draft.now c.args.inode h end c.args.level c.args.place c.args.freed.now.items can reach begins low a in
    let index = index_so g.V.View.seen old c.args.draft.now c.args.inode h end c.args.level c.args.place c.args.freed.now.items can reach begins low a in
    absurd (c.in_default.ensures.found (with_cells h a.cell) index.0 a.cut.file shown place index.1 index.2)

pub returns-in_default-clause-within : goal.returns-in_default-clause-within
returns-in_default-clause-within g c room = as_it_was c.args.draft.now.fates

pub returns-then-stop-eq0-clause-within : goal.returns-then-stop-eq0-clause-within
returns-then-stop-eq0-clause-within g c room = as_it_was c.args.draft.now.fates

pub returns-in_default-is_idle-clause-within : goal.returns-in_default-is_idle-clause-within
returns-in_default-is_idle-clause-within g c room = as_it_was c.args.draft.now.fates

pub returns-then-stop-eq0-clause-gone : goal.returns-then-stop-eq0-clause-gone
returns-then-stop-eq0-clause-gone g c h old end can reach begins low a =
    let shown = shown_so g.V.View.seen old c.args.draft.now c.args.inode h end c.args.level c.args.place c.args.freed.now.items can reach begins low a in
    let place = place_so g.V.View.seen old c.args.draft.now c.args.inode h end c.args.level c.args.place c.args.freed.now.items can reach begins low a in
    let index = index_so g.V.View.seen old c.args.draft.now c.args.inode h end c.args.level c.args.place c.args.freed.now.items can reach begins low a in
    let stopped = c.in-Some.ensures.found (with_cells h a.cell) index.0 a.cut.file shown place index.1 index.2 in
    let size : c.block_size-size.result ≡ h.size = c.block_size-size.ensures.value ∙ sym a.shown.size in
    let up : c.saturating_sub.result ≡ c.in-Some.stop.level - c.args.level = search rules in
    on_hole g.V.View.seen old c.args.draft.now c.args.inode h end c.args.level c.args.place c.args.freed.now.items can reach begins low a c.in-Some.stop stopped c.if-stop-eq0.true c.behind_hole.result
    (λ j from until. subst (λ n. j / span n (c.in-Some.stop.level - c.args.level) ≡ c.args.place / span n (c.in-Some.stop.level - c.args.level)) size
    (subst (λ m. j / span c.block_size-size.result m ≡ c.args.place / span c.block_size-size.result m) up (c.behind_hole.ensures.under j from until)))

pub returns-in_default-is_idle-clause-gone : goal.returns-in_default-is_idle-clause-gone
returns-in_default-is_idle-clause-gone g c h old end can reach begins low a =
    let shown = shown_so g.V.View.seen old c.args.draft.now c.args.inode h end c.args.level c.args.place c.args.freed.now.items can reach begins low a in
    let place = place_so g.V.View.seen old c.args.draft.now c.args.inode h end c.args.level c.args.place c.args.freed.now.items can reach begins low a in
    let index = index_so g.V.View.seen old c.args.draft.now c.args.inode h end c.args.level c.args.place c.args.freed.now.items can reach begins low a in
    let stopped = c.in-Some.ensures.found (with_cells h a.cell) index.0 a.cut.file shown place index.1 index.2 in
    let leads = c.in-Some.ensures.leads (with_cells h a.cell) shown in
    let has = has_block g.V.View.seen old c.args.draft.now c.args.inode h end c.args.level c.args.place c.args.freed.now.items can reach begins low a c.in-Some.stop stopped c.if-stop-eq0.false in
    c.in_default-is_idle.ensures.found (with_cells h a.cell) _ a.cut.file shown (leads c.if-stop-eq0.false) has

pub returns-then-not-idle-clause-gone : goal.returns-then-not-idle-clause-gone
returns-then-not-idle-clause-gone g c h old end can reach begins low a =
    let shown = shown_so g.V.View.seen old c.args.draft.now c.args.inode h end c.args.level c.args.place c.args.freed.now.items can reach begins low a in
    let place = place_so g.V.View.seen old c.args.draft.now c.args.inode h end c.args.level c.args.place c.args.freed.now.items can reach begins low a in
    let index = index_so g.V.View.seen old c.args.draft.now c.args.inode h end c.args.level c.args.place c.args.freed.now.items can reach begins low a in
    let stopped = c.in-Some.ensures.found (with_cells h a.cell) index.0 a.cut.file shown place index.1 index.2 in
    let leads = c.in-Some.ensures.leads (with_cells h a.cell) shown in
    let has = has_block g.V.View.seen old c.args.draft.now c.args.inode h end c.args.level c.args.place c.args.freed.now.items can reach begins low a c.in-Some.stop stopped c.if-stop-eq0.false in
    let same = same_level g.V.View.seen old c.args.draft.now c.args.inode h end c.args.level c.args.place c.args.freed.now.items can reach begins low a c.in-Some.stop stopped c.if-stop-eq0.false in
    let tells = c.in-Some-is_idle.ensures.found (with_cells h a.cell) _ a.cut.file shown (leads c.if-stop-eq0.false) has in
    elim (cases_eq c.in-Some.stop.level 0) [
      | inl none ↦
          let idle : Some c.in-Some-is_idle.idle ≡ Some true = c.in-Some-is_idle.ensures.content none in
          let both : Some false ≡ Some true = ap Some (sym c.if-not-idle.true) ∙ idle in
          absurd (cc)
      | inr high ↦
          let some_level : 1 ≤ c.in-Some.stop.level = omega (arith, high) in
          on_kept g.V.View.seen old c.args.draft.now c.args.inode h end c.args.level c.args.place c.args.freed.now.items can reach begins low a c.in-Some.stop stopped c.if-stop-eq0.false (c.args.level - 1) (omega (arith, same, high))
          (λ nowhere. let both : true ≡ false = sym ((tells some_level).1 nowhere) ∙ c.if-not-idle.true in absurd (cc))
    ]

pub returns-then-not-idle-clause-within : goal.returns-then-not-idle-clause-within
returns-then-not-idle-clause-within g c room = as_it_was c.args.draft.now.fates

pub returns-clause-gone : goal.returns-clause-gone
returns-clause-gone g c h old end can reach begins low a =
    let shown = shown_so g.V.View.seen old c.args.draft.now c.args.inode h end c.args.level c.args.place c.args.freed.now.items can reach begins low a in
    let place = place_so g.V.View.seen old c.args.draft.now c.args.inode h end c.args.level c.args.place c.args.freed.now.items can reach begins low a in
    let index = index_so g.V.View.seen old c.args.draft.now c.args.inode h end c.args.level c.args.place c.args.freed.now.items can reach begins low a in
    let stopped = c.in-Some.ensures.found (with_cells h a.cell) index.0 a.cut.file shown place index.1 index.2 in
    let leads = c.in-Some.ensures.leads (with_cells h a.cell) shown in
    let has = has_block g.V.View.seen old c.args.draft.now c.args.inode h end c.args.level c.args.place c.args.freed.now.items can reach begins low a c.in-Some.stop stopped c.if-stop-eq0.false in
    let same = same_level g.V.View.seen old c.args.draft.now c.args.inode h end c.args.level c.args.place c.args.freed.now.items can reach begins low a c.in-Some.stop stopped c.if-stop-eq0.false in
    let tells = c.in-Some-is_idle.ensures.found (with_cells h a.cell) _ a.cut.file shown (leads c.if-stop-eq0.false) has in
    c.in_ok-free_one.ensures.gone h old end c.args.level c.args.place a can reach stopped same c.if-stop-eq0.false leads
    (λ n up. (tells (let some_level : 1 ≤ c.in-Some.stop.level = omega (arith, same, up) in some_level)).0 c.if-not-idle.false)

pub returns-clause-within : goal.returns-clause-within
returns-clause-within g c room =
    c.in_ok-free_one.ensures.within room (reached_from (seen_in g.V.View.seen c.args.draft.now) c.args.inode room c.in-Some.stop.pointer.from c.in-Some.ensures.from)
    (reached_at (seen_in g.V.View.seen c.args.draft.now) c.args.inode room c.args.level c.args.place c.in-Some.stop c.if-stop-eq0.false c.in-Some.ensures.leads)

pub returns-clause-led : goal.returns-clause-led
returns-clause-led g c b =
    led_one (g.V.View.seen c.args.draft.now.view) c.args.inode c.args.draft.now.fates c.free_one.new.draft.fates c.in-Some.stop.block b c.args.freed.now.items c.free_one.new.freed.items c.in_ok-free_one.ensures.freed
    (λ h shown. (c.in-Some.stop.pointer.from, c.in-Some.stop.pointer.index, c.in-Some.stop.level, _, c.in-Some.ensures.leads h shown c.if-stop-eq0.false))
    (c.in_ok-free_one.ensures.within [] (reached_from (seen_in g.V.View.seen c.args.draft.now) c.args.inode [] c.in-Some.stop.pointer.from c.in-Some.ensures.from)
    (reached_at (seen_in g.V.View.seen c.args.draft.now) c.args.inode [] c.args.level c.args.place c.in-Some.stop c.if-stop-eq0.false c.in-Some.ensures.leads))

pub returns-in_default-clause-led : goal.returns-in_default-clause-led
returns-in_default-clause-led g c b is = inl is

pub returns-then-stop-eq0-clause-led : goal.returns-then-stop-eq0-clause-led
returns-then-stop-eq0-clause-led g c b is = inl is

pub returns-in_default-is_idle-clause-led : goal.returns-in_default-is_idle-clause-led
returns-in_default-is_idle-clause-led g c b is = inl is

pub returns-then-not-idle-clause-led : goal.returns-then-not-idle-clause-led
returns-then-not-idle-clause-led g c b is = inl is
