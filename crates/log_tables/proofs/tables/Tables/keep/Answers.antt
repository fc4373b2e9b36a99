use Rattle.std.proofs.Common.{◌≡◌, ◌≤◌, ap, sym, ◌∙◌, arith}
use Rattle.std.specs.Ordering.{nat_cmp}
use Rattle.std.specs.FinMap as map
use Rattle.fixed_tables.specs.Fixed.{left_by}
use Rattle.log_tables.specs.Kept.{Kept}
use Rattle.log_tables.specs.Seen.{seen}
use Rattle.log_tables.specs.Slots.{entry_in}
use Rattle.log_tables.specs.Versions.{Entry}
use Rattle.log_tables.proofs.Keeping.{left_sound, lefts}
use Rattle.log_tables.proofs.Seeing.{len-seen}
use Rattle.log_tables.proofs.tables.Tables.keep.Goals as goal
use Rattle.log_tables.proofs.tables.Tables.keep.Goals.{After-keep}

pub invariant_of-self : goal.invariant_of-self
invariant_of-self g c =
    left_sound c.self.inside c.self.invariant c.keep.new.self (g.T.LiveTest.stays c.args.test.now) c.keep.ensures.room c.keep.ensures.left
    (λ b e at. c.requires.home b e (ap (λ (k : Kept). map.get k.live b) (sym c.self.view_is) ∙ at))

pub returns-clause-left : goal.returns-clause-left
returns-clause-left g c = λ b.
    lefts c.self.inside c.self.invariant c.keep.new.self (g.T.LiveTest.stays c.args.test.now) c.keep.ensures.room c.keep.ensures.left
    (λ b e at. c.requires.home b e (ap (λ (k : Kept). map.get k.live b) (sym c.self.view_is) ∙ at)) b
    ∙ ap (λ (k : Kept). left_by (λ (e : Entry). g.T.LiveTest.stays c.args.test.now b e.first) (map.get k.live b)) c.self.view_is

pub returns-clause-fewer : goal.returns-clause-fewer
returns-clause-fewer g c =
    let now : map.len {R = nat_cmp} (seen (entry_in c.self.inside.pool) c.keep.new.self.at) ≡ map.len c.keep.new.self.at = len-seen (entry_in c.self.inside.pool) c.keep.new.self.at in
    let was : map.len {R = nat_cmp} (seen (entry_in c.self.inside.pool) c.self.inside.live.at) ≡ map.len c.self.inside.live.at = len-seen (entry_in c.self.inside.pool) c.self.inside.live.at in
    let view : map.len {R = nat_cmp} (seen (entry_in c.self.inside.pool) c.self.inside.live.at) ≡ map.len c.args.self.now.live = ap (λ (k : Kept). map.len k.live) c.self.view_is in
    let fewer : map.len c.keep.new.self.at ≤ map.len c.self.inside.live.at = c.keep.ensures.fewer in
    omega arith
