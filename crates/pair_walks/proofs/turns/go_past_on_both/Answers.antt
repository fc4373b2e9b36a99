use Rattle.std.proofs.Common.{◌≡◌, ◌+◌, ◌<◌, sym, ap, subst, ◌∙◌}
use Rattle.std.specs.Prelude.{IfNone, IfSome}
use Rattle.path_walks.proofs.Steps.{damage_so, fault_so, handed}
use Rattle.pair_walks.specs.Orders.{stronger}
use Rattle.pair_walks.specs.Turns.{IsDamagedAt, IsHindered, IsPassed, decides}
use Rattle.pair_walks.specs.Walks.{IsPairDamage, IsPairTold, IsPairWalked}
use Rattle.pair_walks.specs.Ways.{AreUnderway, left_on}
use Rattle.pair_walks.proofs.Telling.{both_went, first_went, less_left, low_at, none_so, some_so, sum_less, wanted_next}
use Rattle.pair_walks.proofs.Turning.{both_damaged, both_damaged_beside, both_end, both_go, both_told, both_told_beside, both_walked, both_walked_beside, first_sound, second_sound}
use Rattle.pair_walks.proofs.turns.go_past_on_both.Goals as goal

pub returns-in_err-stop-clause-sound : goal.returns-in_err-stop-clause-sound
returns-in_err-stop-clause-sound g c im o l t of =
    let v = g.V.View.seen c.args.view.now in
    let p = c.args.one.now.names.now in
    let q = c.args.two.now.names.now in
    let ws = c.args.one.now.wants.now in
    let xs = c.args.two.now.wants.now in
    let i = c.args.one.now.depth in
    let j = c.args.two.now.depth in
    let m = c.args.one.now.next in
    let n = c.args.two.now.next in
    let on = c.requires.underway in
    handed _ _ _ c.from_residual.ensures.1
    (fault_so _ (λ rule b. ⊥) (first_sound v p q ws xs i j m n on im o l t of c.args.block c.args.above c.stronger-state.result c.requires.first) c.in_err-stop.field-0.0 c.in_err-stop.ensures.damaged)

pub returns-in_err-stop-clause-damaged : goal.returns-in_err-stop-clause-damaged
returns-in_err-stop-clause-damaged g c =
    let v = g.V.View.seen c.args.view.now in
    let p = c.args.one.now.names.now in
    let q = c.args.two.now.names.now in
    let ws = c.args.one.now.wants.now in
    let xs = c.args.two.now.wants.now in
    let i = c.args.one.now.depth in
    let j = c.args.two.now.depth in
    let m = c.args.one.now.next in
    let n = c.args.two.now.next in
    let on = c.requires.underway in
    let wanted = wanted_next v ws p i c.args.block c.args.above m on.on_first c.requires.first c.state_of.result c.state_of.ensures in
    let wanted' = wanted_next v xs q j c.args.block c.args.beside n on.on_second c.requires.second c.state_of-2.result c.state_of-2.ensures in
    handed _ _ _ c.from_residual.ensures.1
    (fault_so _ (IsPairDamage v p q ws xs)
    (λ rule b hurt. both_damaged v p q ws xs i j m n on c.args.block c.args.above c.args.beside c.state_of.result c.state_of-2.result c.requires.first c.requires.second wanted wanted' rule b (subst (λ s. IsDamagedAt v p i c.args.block s rule b) c.stronger-state.ensures hurt)) c.in_err-stop.field-0.0 c.in_err-stop.ensures.damaged)

pub returns-in-Some-clause-told : goal.returns-in-Some-clause-told
returns-in-Some-clause-told g c =
    let v = g.V.View.seen c.args.view.now in
    let p = c.args.one.now.names.now in
    let q = c.args.two.now.names.now in
    let ws = c.args.one.now.wants.now in
    let xs = c.args.two.now.wants.now in
    let i = c.args.one.now.depth in
    let j = c.args.two.now.depth in
    let m = c.args.one.now.next in
    let n = c.args.two.now.next in
    let on = c.requires.underway in
    let wanted = wanted_next v ws p i c.args.block c.args.above m on.on_first c.requires.first c.state_of.result c.state_of.ensures in
    let wanted' = wanted_next v xs q j c.args.block c.args.beside n on.on_second c.requires.second c.state_of-2.result c.state_of-2.ensures in
    both_told v p q ws xs i j m n on c.args.block c.args.above c.args.beside c.state_of.result c.state_of-2.result c.requires.first c.requires.second wanted wanted' c.in-Some.stop
    (subst (λ s. IsHindered v p i c.args.block s c.in-Some.stop) c.stronger-state.ensures (subst (λ x. IfSome x (IsHindered v p i c.args.block c.stronger-state.result)) c.in-Some.is c.in_ok-stop.ensures.hindered))

pub returns-in-Some-clause-walked : goal.returns-in-Some-clause-walked
returns-in-Some-clause-walked g c im o l t of =
    let v = g.V.View.seen c.args.view.now in
    let p = c.args.one.now.names.now in
    let q = c.args.two.now.names.now in
    let ws = c.args.one.now.wants.now in
    let xs = c.args.two.now.wants.now in
    let i = c.args.one.now.depth in
    let j = c.args.two.now.depth in
    let m = c.args.one.now.next in
    let n = c.args.two.now.next in
    let on = c.requires.underway in
    let wanted = wanted_next v ws p i c.args.block c.args.above m on.on_first c.requires.first c.state_of.result c.state_of.ensures in
    let wanted' = wanted_next v xs q j c.args.block c.args.beside n on.on_second c.requires.second c.state_of-2.result c.state_of-2.ensures in
    both_walked v p q ws xs i j m n on c.args.block c.args.above c.args.beside c.state_of.result c.state_of-2.result c.requires.first c.requires.second wanted wanted' c.in-Some.stop
    (subst (λ s. IsHindered v p i c.args.block s c.in-Some.stop) c.stronger-state.ensures (subst (λ x. IfSome x (IsHindered v p i c.args.block c.stronger-state.result)) c.in-Some.is c.in_ok-stop.ensures.hindered)) im o l t of

pub returns-then-has_decided-clause-went : goal.returns-then-has_decided-clause-went
returns-then-has_decided-clause-went g c =
    let v = g.V.View.seen c.args.view.now in
    let p = c.args.one.now.names.now in
    let q = c.args.two.now.names.now in
    let ws = c.args.one.now.wants.now in
    let xs = c.args.two.now.wants.now in
    let i = c.args.one.now.depth in
    let j = c.args.two.now.depth in
    let m = c.args.one.now.next in
    let n = c.args.two.now.next in
    let on = c.requires.underway in
    let wanted = wanted_next v ws p i c.args.block c.args.above m on.on_first c.requires.first c.state_of.result c.state_of.ensures in
    let wanted' = wanted_next v xs q j c.args.block c.args.beside n on.on_second c.requires.second c.state_of-2.result c.state_of-2.ensures in
    let passed : IsPassed v p i c.args.block c.args.above (stronger c.state_of.result c.state_of-2.result) c.go_past.new.way.next = subst (λ s. IsPassed v p i c.args.block c.args.above s c.go_past.new.way.next) c.stronger-state.ensures
    (subst (λ x. IfNone x (IsPassed v p i c.args.block c.args.above c.stronger-state.result c.go_past.new.way.next)) c.in_default.is c.in_ok-stop.ensures.passed) in
    let deeper : c.go_past.new.way.depth ≡ i + 1 = subst (λ x. IfNone x (c.go_past.new.way.depth ≡ i + 1)) c.in_default.is c.in_ok-stop.ensures.deeper in
    first_went v c.args.one.now c.args.two.now c.go_past.new.way c.in_ok-stop.ensures.same deeper
    (both_end v p q ws xs i j m n on c.args.block c.args.above c.args.beside c.state_of.result c.state_of-2.result c.requires.first c.requires.second wanted wanted' c.go_past.new.way.next passed (ap (λ b. decides b c.go_past.new.way.next) (sym c.requires.ends) ∙ sym c.has_decided.ensures ∙ c.if-has_decided.true))

pub go_past-requires-2 : goal.go_past-requires-2
go_past-requires-2 g c =
    let v = g.V.View.seen c.args.view.now in
    let p = c.args.one.now.names.now in
    let q = c.args.two.now.names.now in
    let ws = c.args.one.now.wants.now in
    let xs = c.args.two.now.wants.now in
    let i = c.args.one.now.depth in
    let j = c.args.two.now.depth in
    let m = c.args.one.now.next in
    let n = c.args.two.now.next in
    let on = c.requires.underway in
    low_at v xs q j c.args.block c.args.beside n on.on_second c.requires.second

pub returns-clause-went : goal.returns-clause-went
returns-clause-went g c =
    let v = g.V.View.seen c.args.view.now in
    let p = c.args.one.now.names.now in
    let q = c.args.two.now.names.now in
    let ws = c.args.one.now.wants.now in
    let xs = c.args.two.now.wants.now in
    let i = c.args.one.now.depth in
    let j = c.args.two.now.depth in
    let m = c.args.one.now.next in
    let n = c.args.two.now.next in
    let on = c.requires.underway in
    let wanted = wanted_next v ws p i c.args.block c.args.above m on.on_first c.requires.first c.state_of.result c.state_of.ensures in
    let wanted' = wanted_next v xs q j c.args.block c.args.beside n on.on_second c.requires.second c.state_of-2.result c.state_of-2.ensures in
    let passed : IsPassed v p i c.args.block c.args.above (stronger c.state_of.result c.state_of-2.result) c.go_past.new.way.next = subst (λ s. IsPassed v p i c.args.block c.args.above s c.go_past.new.way.next) c.stronger-state.ensures
    (subst (λ x. IfNone x (IsPassed v p i c.args.block c.args.above c.stronger-state.result c.go_past.new.way.next)) c.in_default.is c.in_ok-stop.ensures.passed) in
    let deeper : c.go_past.new.way.depth ≡ i + 1 = subst (λ x. IfNone x (c.go_past.new.way.depth ≡ i + 1)) c.in_default.is c.in_ok-stop.ensures.deeper in
    none_so _ _ (AreUnderway v c.go_past.new.way c.go_past-2.new.way) c.go_past-2.result
    (λ (deeper' : c.go_past-2.new.way.depth ≡ j + 1) (passed' : IsPassed v q j c.args.block c.args.beside c.stronger-state.result c.go_past-2.new.way.next).
    both_went v c.args.one.now c.args.two.now c.go_past.new.way c.go_past-2.new.way c.in_ok-stop.ensures.same c.go_past-2.ensures.same deeper deeper'
    (both_go v p q ws xs i j m n on c.args.block c.args.above c.args.beside c.state_of.result c.state_of-2.result c.requires.first c.requires.second wanted wanted' c.go_past.new.way.next passed c.go_past-2.new.way.next (subst (λ s. IsPassed v q j c.args.block c.args.beside s c.go_past-2.new.way.next) c.stronger-state.ensures passed')))
    c.go_past-2.ensures.deeper c.go_past-2.ensures.passed

pub returns-clause-smaller : goal.returns-clause-smaller
returns-clause-smaller g c =
    let v = g.V.View.seen c.args.view.now in
    let p = c.args.one.now.names.now in
    let q = c.args.two.now.names.now in
    let ws = c.args.one.now.wants.now in
    let xs = c.args.two.now.wants.now in
    let i = c.args.one.now.depth in
    let j = c.args.two.now.depth in
    let m = c.args.one.now.next in
    let n = c.args.two.now.next in
    let on = c.requires.underway in
    let deeper : c.go_past.new.way.depth ≡ i + 1 = subst (λ x. IfNone x (c.go_past.new.way.depth ≡ i + 1)) c.in_default.is c.in_ok-stop.ensures.deeper in
    let less = less_left v c.args.one.now c.args.two.now c.go_past.new.way c.in_ok-stop.ensures.same deeper (low_at v ws p i c.args.block c.args.above m on.on_first c.requires.first) in
    let low' = low_at v xs q j c.args.block c.args.beside n on.on_second c.requires.second in
    none_so _ _ (left_on c.go_past.new.way + left_on c.go_past-2.new.way < left_on c.args.one.now + left_on c.args.two.now) c.go_past-2.result
    (λ (deeper' : c.go_past-2.new.way.depth ≡ j + 1) (passed' : IsPassed v q j c.args.block c.args.beside c.stronger-state.result c.go_past-2.new.way.next).
    sum_less (left_on c.args.one.now) (left_on c.args.two.now) (left_on c.go_past.new.way) (left_on c.go_past-2.new.way) less (less_left v c.args.two.now c.args.one.now c.go_past-2.new.way c.go_past-2.ensures.same deeper' low'))
    c.go_past-2.ensures.deeper c.go_past-2.ensures.passed

pub returns-clause-told : goal.returns-clause-told
returns-clause-told g c =
    let v = g.V.View.seen c.args.view.now in
    let p = c.args.one.now.names.now in
    let q = c.args.two.now.names.now in
    let ws = c.args.one.now.wants.now in
    let xs = c.args.two.now.wants.now in
    let i = c.args.one.now.depth in
    let j = c.args.two.now.depth in
    let m = c.args.one.now.next in
    let n = c.args.two.now.next in
    let on = c.requires.underway in
    let wanted = wanted_next v ws p i c.args.block c.args.above m on.on_first c.requires.first c.state_of.result c.state_of.ensures in
    let wanted' = wanted_next v xs q j c.args.block c.args.beside n on.on_second c.requires.second c.state_of-2.result c.state_of-2.ensures in
    some_so _ (IsPairTold v p q ws xs) c.go_past-2.result (λ w hindered. both_told_beside v p q ws xs i j m n on c.args.block c.args.above c.args.beside c.state_of.result c.state_of-2.result c.requires.first c.requires.second wanted wanted' w (subst (λ s. IsHindered v q j c.args.block s w) c.stronger-state.ensures hindered)) c.go_past-2.ensures.hindered

pub returns-clause-walked : goal.returns-clause-walked
returns-clause-walked g c im o l t of =
    let v = g.V.View.seen c.args.view.now in
    let p = c.args.one.now.names.now in
    let q = c.args.two.now.names.now in
    let ws = c.args.one.now.wants.now in
    let xs = c.args.two.now.wants.now in
    let i = c.args.one.now.depth in
    let j = c.args.two.now.depth in
    let m = c.args.one.now.next in
    let n = c.args.two.now.next in
    let on = c.requires.underway in
    let wanted = wanted_next v ws p i c.args.block c.args.above m on.on_first c.requires.first c.state_of.result c.state_of.ensures in
    let wanted' = wanted_next v xs q j c.args.block c.args.beside n on.on_second c.requires.second c.state_of-2.result c.state_of-2.ensures in
    some_so _ (IsPairWalked v im o l t p q ws xs) c.go_past-2.result (λ w hindered. both_walked_beside v p q ws xs i j m n on c.args.block c.args.above c.args.beside c.state_of.result c.state_of-2.result c.requires.first c.requires.second wanted wanted' w (subst (λ s. IsHindered v q j c.args.block s w) c.stronger-state.ensures hindered) im o l t of) c.go_past-2.ensures.hindered

pub returns-clause-sound : goal.returns-clause-sound
returns-clause-sound g c im o l t of =
    let v = g.V.View.seen c.args.view.now in
    let p = c.args.one.now.names.now in
    let q = c.args.two.now.names.now in
    let ws = c.args.one.now.wants.now in
    let xs = c.args.two.now.wants.now in
    let i = c.args.one.now.depth in
    let j = c.args.two.now.depth in
    let m = c.args.one.now.next in
    let n = c.args.two.now.next in
    let on = c.requires.underway in
    damage_so _ (λ rule b. ⊥) (second_sound v p q ws xs i j m n on im o l t of c.args.block c.args.beside c.stronger-state.result c.requires.second) c.go_past-2.result c.go_past-2.ensures.damaged

pub returns-clause-damaged : goal.returns-clause-damaged
returns-clause-damaged g c =
    let v = g.V.View.seen c.args.view.now in
    let p = c.args.one.now.names.now in
    let q = c.args.two.now.names.now in
    let ws = c.args.one.now.wants.now in
    let xs = c.args.two.now.wants.now in
    let i = c.args.one.now.depth in
    let j = c.args.two.now.depth in
    let m = c.args.one.now.next in
    let n = c.args.two.now.next in
    let on = c.requires.underway in
    let wanted = wanted_next v ws p i c.args.block c.args.above m on.on_first c.requires.first c.state_of.result c.state_of.ensures in
    let wanted' = wanted_next v xs q j c.args.block c.args.beside n on.on_second c.requires.second c.state_of-2.result c.state_of-2.ensures in
    damage_so _ (IsPairDamage v p q ws xs) (λ rule b hurt. both_damaged_beside v p q ws xs i j m n on c.args.block c.args.above c.args.beside c.state_of.result c.state_of-2.result c.requires.first c.requires.second wanted wanted' rule b (subst (λ s. IsDamagedAt v q j c.args.block s rule b) c.stronger-state.ensures hurt)) c.go_past-2.result c.go_past-2.ensures.damaged
