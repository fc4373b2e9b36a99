-- The group of a leaf.
use Rattle.std.proofs.Common.{◌≡◌, ℕ, ◌<◌, true, false, Option, None, Some, true≢false, sym, arith}
use Rattle.std.specs.Prelude.{is_some, IfNone, IfSome}
use Rattle.profile_limits.specs.Limits.{most_blocks}
use Rattle.glock_names.specs.Views.{Seen, HasGroup, IsView}
use Rattle.glock_names.specs.declared.views.Group.{Group}
use Rattle.resource_groups.specs.Putting.{HasDataBlock}
use Rattle.resource_groups.specs.Shown.{IsDataOf}
use Rattle.resource_groups.proofs.Fits.{end_below}

pub none_so : {X : Type 0} (P : Type 0) (x : Option X) → is_some x ≡ false → IfNone x P → P
none_so P None none so = so
none_so P (Some x) none so = absurd (true≢false none)

pub group_inside : (v : Seen) (b : ℕ) (x : Option Group) → is_some x ≡ true → IfSome x (HasGroup v) → IfSome x (λ g. IsDataOf g b) → HasDataBlock v b
group_inside v b None some group own = absurd (true≢false (sym some))
group_inside v b (Some g) some group own = (g, group, own)

pub group_small : (v : Seen) (b : ℕ) (x : Option Group) → IsView v → is_some x ≡ true → IfSome x (HasGroup v) → IfSome x (λ g. IsDataOf g b) → b < most_blocks
group_small v b None view some group own = absurd (true≢false (sym some))
group_small v b (Some g) view some group own = let ends = end_below v g view group in omega (arith, own.high, ends)
