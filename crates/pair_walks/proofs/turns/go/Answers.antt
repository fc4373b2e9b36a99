use Rattle.std.proofs.Common.{◌≡◌, ◌+◌, ◌<◌, subst}
use Rattle.path_walks.proofs.Steps.{damage_so}
use Rattle.pair_walks.specs.Turns.{IsOver, IsPassed, LetsSecond}
use Rattle.pair_walks.specs.Walks.{IsPairDamage, IsPairTold, IsPairWalked}
use Rattle.pair_walks.specs.Ways.{AreUnderway, left_on}
use Rattle.pair_walks.proofs.Telling.{first_went, less_left, low_at, none_so, second_went, some_so, sum_first, sum_second, wanted_next}
use Rattle.pair_walks.proofs.Turning.{first_damaged, first_goes, first_sound, first_told, first_walked, over_told, over_walked, second_damaged, second_goes, second_sound, second_told, second_walked}
use Rattle.pair_walks.proofs.turns.go.Goals as goal

pub returns-in-First-clause-went : goal.returns-in-First-clause-went
returns-in-First-clause-went g c =
    let v = g.V.View.seen c.args.view.now in
    let p = c.args.one.now.names.now in
    let q = c.args.two.now.names.now in
    let ws = c.args.one.now.wants.now in
    let xs = c.args.two.now.wants.now in
    let i = c.args.one.now.depth in
    let j = c.args.two.now.depth in
    let m = c.args.one.now.next in
    let n = c.args.two.now.next in
    let on = c.requires.underway in
    let wanted = wanted_next v ws p i c.in-First.block c.in-First.above m on.on_first c.in-First.ensures.0 c.state_of-state.result c.state_of-state.ensures in
    none_so _ _ (AreUnderway v c.go_past.new.way c.args.two.now) c.go_past.result
    (λ (deeper : c.go_past.new.way.depth ≡ i + 1) (passed : IsPassed v p i c.in-First.block c.in-First.above c.state_of-state.result c.go_past.new.way.next).
    first_went v c.args.one.now c.args.two.now c.go_past.new.way c.go_past.ensures.same deeper (first_goes v p q ws xs i j m n on c.in-First.block c.in-First.above c.state_of-state.result c.in-First.ensures.0 wanted c.in-First.ensures.1 c.go_past.new.way.next passed))
    c.go_past.ensures.deeper c.go_past.ensures.passed

pub returns-in-First-clause-smaller : goal.returns-in-First-clause-smaller
returns-in-First-clause-smaller g c =
    let v = g.V.View.seen c.args.view.now in
    let p = c.args.one.now.names.now in
    let q = c.args.two.now.names.now in
    let ws = c.args.one.now.wants.now in
    let xs = c.args.two.now.wants.now in
    let i = c.args.one.now.depth in
    let j = c.args.two.now.depth in
    let m = c.args.one.now.next in
    let n = c.args.two.now.next in
    let on = c.requires.underway in
    let low = low_at v ws p i c.in-First.block c.in-First.above m on.on_first c.in-First.ensures.0 in
    none_so _ _ (left_on c.go_past.new.way + left_on c.args.two.now < left_on c.args.one.now + left_on c.args.two.now) c.go_past.result
    (λ (deeper : c.go_past.new.way.depth ≡ i + 1) (passed : IsPassed v p i c.in-First.block c.in-First.above c.state_of-state.result c.go_past.new.way.next).
    sum_first (left_on c.args.one.now) (left_on c.args.two.now) (left_on c.go_past.new.way) (less_left v c.args.one.now c.args.two.now c.go_past.new.way c.go_past.ensures.same deeper low))
    c.go_past.ensures.deeper c.go_past.ensures.passed

pub returns-in-First-clause-told : goal.returns-in-First-clause-told
returns-in-First-clause-told g c =
    let v = g.V.View.seen c.args.view.now in
    let p = c.args.one.now.names.now in
    let q = c.args.two.now.names.now in
    let ws = c.args.one.now.wants.now in
    let xs = c.args.two.now.wants.now in
    let i = c.args.one.now.depth in
    let j = c.args.two.now.depth in
    let m = c.args.one.now.next in
    let n = c.args.two.now.next in
    let on = c.requires.underway in
    let wanted = wanted_next v ws p i c.in-First.block c.in-First.above m on.on_first c.in-First.ensures.0 c.state_of-state.result c.state_of-state.ensures in
    some_so _ (IsPairTold v p q ws xs) c.go_past.result (first_told v p q ws xs i j m n on c.in-First.block c.in-First.above c.state_of-state.result c.in-First.ensures.0 wanted c.in-First.ensures.1) c.go_past.ensures.hindered

pub returns-in-First-clause-walked : goal.returns-in-First-clause-walked
returns-in-First-clause-walked g c im o l t of =
    let v = g.V.View.seen c.args.view.now in
    let p = c.args.one.now.names.now in
    let q = c.args.two.now.names.now in
    let ws = c.args.one.now.wants.now in
    let xs = c.args.two.now.wants.now in
    let i = c.args.one.now.depth in
    let j = c.args.two.now.depth in
    let m = c.args.one.now.next in
    let n = c.args.two.now.next in
    let on = c.requires.underway in
    let wanted = wanted_next v ws p i c.in-First.block c.in-First.above m on.on_first c.in-First.ensures.0 c.state_of-state.result c.state_of-state.ensures in
    some_so _ (IsPairWalked v im o l t p q ws xs) c.go_past.result (λ w hindered. first_walked v p q ws xs i j m n on c.in-First.block c.in-First.above c.state_of-state.result c.in-First.ensures.0 wanted c.in-First.ensures.1 w hindered im o l t of) c.go_past.ensures.hindered

pub returns-in-First-clause-sound : goal.returns-in-First-clause-sound
returns-in-First-clause-sound g c im o l t of =
    let v = g.V.View.seen c.args.view.now in
    let p = c.args.one.now.names.now in
    let q = c.args.two.now.names.now in
    let ws = c.args.one.now.wants.now in
    let xs = c.args.two.now.wants.now in
    let i = c.args.one.now.depth in
    let j = c.args.two.now.depth in
    let m = c.args.one.now.next in
    let n = c.args.two.now.next in
    let on = c.requires.underway in
    damage_so _ (λ rule b. ⊥) (first_sound v p q ws xs i j m n on im o l t of c.in-First.block c.in-First.above c.state_of-state.result c.in-First.ensures.0) c.go_past.result c.go_past.ensures.damaged

pub returns-in-First-clause-damaged : goal.returns-in-First-clause-damaged
returns-in-First-clause-damaged g c =
    let v = g.V.View.seen c.args.view.now in
    let p = c.args.one.now.names.now in
    let q = c.args.two.now.names.now in
    let ws = c.args.one.now.wants.now in
    let xs = c.args.two.now.wants.now in
    let i = c.args.one.now.depth in
    let j = c.args.two.now.depth in
    let m = c.args.one.now.next in
    let n = c.args.two.now.next in
    let on = c.requires.underway in
    let wanted = wanted_next v ws p i c.in-First.block c.in-First.above m on.on_first c.in-First.ensures.0 c.state_of-state.result c.state_of-state.ensures in
    damage_so _ (IsPairDamage v p q ws xs) (first_damaged v p q ws xs i j m n on c.in-First.block c.in-First.above c.state_of-state.result c.in-First.ensures.0 wanted) c.go_past.result c.go_past.ensures.damaged

pub returns-in-Second-clause-went : goal.returns-in-Second-clause-went
returns-in-Second-clause-went g c =
    let v = g.V.View.seen c.args.view.now in
    let p = c.args.one.now.names.now in
    let q = c.args.two.now.names.now in
    let ws = c.args.one.now.wants.now in
    let xs = c.args.two.now.wants.now in
    let i = c.args.one.now.depth in
    let j = c.args.two.now.depth in
    let m = c.args.one.now.next in
    let n = c.args.two.now.next in
    let on = c.requires.underway in
    let wanted = wanted_next v xs q j c.in-Second.block c.in-Second.above n on.on_second c.in-Second.ensures.0 c.state_of-state-in-Second.result c.state_of-state-in-Second.ensures in
    let lets = subst (λ b. LetsSecond c.in-Second.block b m) c.requires.ends c.in-Second.ensures.1 in
    none_so _ _ (AreUnderway v c.args.one.now c.go_past-in-Second.new.way) c.go_past-in-Second.result
    (λ (deeper : c.go_past-in-Second.new.way.depth ≡ j + 1) (passed : IsPassed v q j c.in-Second.block c.in-Second.above c.state_of-state-in-Second.result c.go_past-in-Second.new.way.next).
    second_went v c.args.two.now c.args.one.now c.go_past-in-Second.new.way c.go_past-in-Second.ensures.same deeper (second_goes v p q ws xs i j m n on c.in-Second.block c.in-Second.above c.state_of-state-in-Second.result c.in-Second.ensures.0 wanted lets c.go_past-in-Second.new.way.next passed))
    c.go_past-in-Second.ensures.deeper c.go_past-in-Second.ensures.passed

pub returns-in-Second-clause-smaller : goal.returns-in-Second-clause-smaller
returns-in-Second-clause-smaller g c =
    let v = g.V.View.seen c.args.view.now in
    let p = c.args.one.now.names.now in
    let q = c.args.two.now.names.now in
    let ws = c.args.one.now.wants.now in
    let xs = c.args.two.now.wants.now in
    let i = c.args.one.now.depth in
    let j = c.args.two.now.depth in
    let m = c.args.one.now.next in
    let n = c.args.two.now.next in
    let on = c.requires.underway in
    let low = low_at v xs q j c.in-Second.block c.in-Second.above n on.on_second c.in-Second.ensures.0 in
    none_so _ _ (left_on c.args.one.now + left_on c.go_past-in-Second.new.way < left_on c.args.one.now + left_on c.args.two.now) c.go_past-in-Second.result
    (λ (deeper : c.go_past-in-Second.new.way.depth ≡ j + 1) (passed : IsPassed v q j c.in-Second.block c.in-Second.above c.state_of-state-in-Second.result c.go_past-in-Second.new.way.next).
    sum_second (left_on c.args.one.now) (left_on c.args.two.now) (left_on c.go_past-in-Second.new.way) (less_left v c.args.two.now c.args.one.now c.go_past-in-Second.new.way c.go_past-in-Second.ensures.same deeper low))
    c.go_past-in-Second.ensures.deeper c.go_past-in-Second.ensures.passed

pub returns-in-Second-clause-told : goal.returns-in-Second-clause-told
returns-in-Second-clause-told g c =
    let v = g.V.View.seen c.args.view.now in
    let p = c.args.one.now.names.now in
    let q = c.args.two.now.names.now in
    let ws = c.args.one.now.wants.now in
    let xs = c.args.two.now.wants.now in
    let i = c.args.one.now.depth in
    let j = c.args.two.now.depth in
    let m = c.args.one.now.next in
    let n = c.args.two.now.next in
    let on = c.requires.underway in
    let wanted = wanted_next v xs q j c.in-Second.block c.in-Second.above n on.on_second c.in-Second.ensures.0 c.state_of-state-in-Second.result c.state_of-state-in-Second.ensures in
    let lets = subst (λ b. LetsSecond c.in-Second.block b m) c.requires.ends c.in-Second.ensures.1 in
    some_so _ (IsPairTold v p q ws xs) c.go_past-in-Second.result (second_told v p q ws xs i j m n on c.in-Second.block c.in-Second.above c.state_of-state-in-Second.result c.in-Second.ensures.0 wanted lets) c.go_past-in-Second.ensures.hindered

pub returns-in-Second-clause-walked : goal.returns-in-Second-clause-walked
returns-in-Second-clause-walked g c im o l t of =
    let v = g.V.View.seen c.args.view.now in
    let p = c.args.one.now.names.now in
    let q = c.args.two.now.names.now in
    let ws = c.args.one.now.wants.now in
    let xs = c.args.two.now.wants.now in
    let i = c.args.one.now.depth in
    let j = c.args.two.now.depth in
    let m = c.args.one.now.next in
    let n = c.args.two.now.next in
    let on = c.requires.underway in
    let wanted = wanted_next v xs q j c.in-Second.block c.in-Second.above n on.on_second c.in-Second.ensures.0 c.state_of-state-in-Second.result c.state_of-state-in-Second.ensures in
    let lets = subst (λ b. LetsSecond c.in-Second.block b m) c.requires.ends c.in-Second.ensures.1 in
    some_so _ (IsPairWalked v im o l t p q ws xs) c.go_past-in-Second.result (λ w hindered. second_walked v p q ws xs i j m n on c.in-Second.block c.in-Second.above c.state_of-state-in-Second.result c.in-Second.ensures.0 wanted lets w hindered im o l t of) c.go_past-in-Second.ensures.hindered

pub returns-in-Second-clause-sound : goal.returns-in-Second-clause-sound
returns-in-Second-clause-sound g c im o l t of =
    let v = g.V.View.seen c.args.view.now in
    let p = c.args.one.now.names.now in
    let q = c.args.two.now.names.now in
    let ws = c.args.one.now.wants.now in
    let xs = c.args.two.now.wants.now in
    let i = c.args.one.now.depth in
    let j = c.args.two.now.depth in
    let m = c.args.one.now.next in
    let n = c.args.two.now.next in
    let on = c.requires.underway in
    damage_so _ (λ rule b. ⊥) (second_sound v p q ws xs i j m n on im o l t of c.in-Second.block c.in-Second.above c.state_of-state-in-Second.result c.in-Second.ensures.0) c.go_past-in-Second.result c.go_past-in-Second.ensures.damaged

pub returns-in-Second-clause-damaged : goal.returns-in-Second-clause-damaged
returns-in-Second-clause-damaged g c =
    let v = g.V.View.seen c.args.view.now in
    let p = c.args.one.now.names.now in
    let q = c.args.two.now.names.now in
    let ws = c.args.one.now.wants.now in
    let xs = c.args.two.now.wants.now in
    let i = c.args.one.now.depth in
    let j = c.args.two.now.depth in
    let m = c.args.one.now.next in
    let n = c.args.two.now.next in
    let on = c.requires.underway in
    let wanted = wanted_next v xs q j c.in-Second.block c.in-Second.above n on.on_second c.in-Second.ensures.0 c.state_of-state-in-Second.result c.state_of-state-in-Second.ensures in
    damage_so _ (IsPairDamage v p q ws xs) (second_damaged v p q ws xs i j m n on c.in-Second.block c.in-Second.above c.state_of-state-in-Second.result c.in-Second.ensures.0 wanted) c.go_past-in-Second.result c.go_past-in-Second.ensures.damaged

pub returns-in-Over-clause-told : goal.returns-in-Over-clause-told
returns-in-Over-clause-told g c =
    let v = g.V.View.seen c.args.view.now in
    let p = c.args.one.now.names.now in
    let q = c.args.two.now.names.now in
    let ws = c.args.one.now.wants.now in
    let xs = c.args.two.now.wants.now in
    let i = c.args.one.now.depth in
    let j = c.args.two.now.depth in
    let m = c.args.one.now.next in
    let n = c.args.two.now.next in
    let on = c.requires.underway in
    over_told v p q ws xs i j m n on c.in-Over.end (subst (λ b. IsOver m n b c.in-Over.end) c.requires.ends c.in-Over.ensures)

pub returns-in-Over-clause-walked : goal.returns-in-Over-clause-walked
returns-in-Over-clause-walked g c im o l t of =
    let v = g.V.View.seen c.args.view.now in
    let p = c.args.one.now.names.now in
    let q = c.args.two.now.names.now in
    let ws = c.args.one.now.wants.now in
    let xs = c.args.two.now.wants.now in
    let i = c.args.one.now.depth in
    let j = c.args.two.now.depth in
    let m = c.args.one.now.next in
    let n = c.args.two.now.next in
    let on = c.requires.underway in
    over_walked v p q ws xs i j m n on im o l t of c.in-Over.end (subst (λ b. IsOver m n b c.in-Over.end) c.requires.ends c.in-Over.ensures)
