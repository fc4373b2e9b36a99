use Rattle.std.proofs.Common.{◌≡◌, ◌∙◌, ap, sym, subst, true, true≢false, is_some}
use Rattle.std.specs.FinMap.{get, from_entries}
use Rattle.std.specs.Map.{lookup}
use Rattle.std.specs.Ordering.{is_eq}
use Rattle.glock_machine.specs.Keys.{key_of, key_cmp}
use Rattle.glock_machine.specs.Table.{with_glock, AreCalledBelow}
use Rattle.glock_machine.proofs.Locks.{get-locks, locks_insert}
use Rattle.glock_machine.proofs.Below.{all_below_insert}
use Rattle.glock_machine.proofs.glocks.Glocks.put.Goals as goal

pub returns-in_default : goal.returns-in_default
returns-in_default c =
    let there : is_some (lookup (λ k. is_eq (key_cmp (key_of c.args.lock) k)) c.self.inside.locks.entries) ≡ true =
    ap is_some (sym (get-locks _ (key_of c.args.lock))) ∙ (λ i. is_some (get ((c.self.view_is i).locks) (key_of c.args.lock))) ∙ c.requires.wanted in
    absurd (true≢false (sym there ∙ ap is_some (sym c.in_default.ensures.value)))

pub returns : goal.returns
returns c =
    let there : is_some (lookup (λ k. is_eq (key_cmp (key_of c.args.lock) k)) c.self.inside.locks.entries) ≡ true =
    ap is_some (sym (get-locks _ (key_of c.args.lock))) ∙ (λ i. is_some (get ((c.self.view_is i).locks) (key_of c.args.lock))) ∙ c.requires.wanted in
    (λ i. record { locks = locks_insert _ _ (key_of c.args.lock) _ ((c.get_mut.follows.holds c.args.glock).3 there).0 i; unmounting = c.self.inside.unmounting })
    ∙ (λ i. with_glock (c.self.view_is i) c.args.lock c.args.glock)

pub invariant_of-self-2 : goal.invariant_of-self-2
invariant_of-self-2 c =
    let there : is_some (lookup (λ k. is_eq (key_cmp (key_of c.args.lock) k)) c.self.inside.locks.entries) ≡ true =
    ap is_some (sym (get-locks _ (key_of c.args.lock))) ∙ (λ i. is_some (get ((c.self.view_is i).locks) (key_of c.args.lock))) ∙ c.requires.wanted in
    subst AreCalledBelow (sym (locks_insert _ _ (key_of c.args.lock) _ ((c.get_mut.follows.holds c.args.glock).3 there).0))
    (all_below_insert (from_entries {R = key_cmp} c.self.inside.locks.entries) (key_of c.args.lock) c.args.glock c.self.invariant c.requires.below)
