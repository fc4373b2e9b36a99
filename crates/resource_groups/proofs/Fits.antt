-- The groups of a view fit.
use Rattle.std.proofs.Common.{◌≡◌, ℕ, zero, suc, ◌+◌, ◌<◌, ◌≤◌, ◌↔◌, List, [], ◌∷◌, length, get_or, sym, ap, ◌∙◌, subst, Bool, false, IsTrue, Some, inl, inr, arith}
use Rattle.std.specs.List.{AllByRecursion}
use Rattle.profile_limits.specs.Limits.{most_blocks}
use Rattle.glock_names.specs.Views.{Seen, IsView, IsFit, Rise, HasGroup, end_of}
use Rattle.glock_names.specs.declared.views.Group.{Group}
use Rattle.gfs2_layout.specs.Device.{IsBlockSize}
use Rattle.gfs2_layout.specs.Headers.{HasHeader}
use Rattle.resource_groups.specs.Shown.{IsHeaderOf, IsShown, IsBroken, no_header, kind_of, format_of}

pub fit_at : (size least : ℕ) (gs : List Group) (k : ℕ) (g : Group) → Rise size least gs → k < length gs → get_or gs k g ≡ g → IsFit size g
fit_at size least [] k g rise low is = absurd (omega (arith, low))
fit_at size least (h ∷ gs) zero g rise low is = subst (IsFit size) is rise.0
fit_at size least (h ∷ gs) (suc k) g rise low is = fit_at size (end_of h) gs k g rise.2 (omega (arith, low)) is

pub fit_of : (v : Seen) (g : Group) → IsView v → HasGroup v g → IsFit v.size g
fit_of v g view has = fit_at v.size 0 v.groups has.0 g view.groups.rise has.1 has.2

end_at : (gs : List Group) (k : ℕ) (g : Group) → AllByRecursion (λ h. end_of h ≤ most_blocks) gs → k < length gs → get_or gs k g ≡ g → end_of g ≤ most_blocks
end_at [] k g all low is = absurd (omega (arith, low))
end_at (h ∷ gs) zero g all low is = subst (λ h. end_of h ≤ most_blocks) is all.0
end_at (h ∷ gs) (suc k) g all low is = end_at gs k g all.1 (omega (arith, low)) is

pub end_below : (v : Seen) (g : Group) → IsView v → HasGroup v g → end_of g ≤ most_blocks
end_below v g view has = end_at v.groups has.0 g view.groups.end has.1 has.2

pub header_block : (g : Group) (k : ℕ) → k < g.length → IsHeaderOf g (g.addr + k)
header_block g k low = record { low = omega arith; high = omega (arith, low) }

-- ---- a block without its header

pub lacks : {P : Type 0} (b : Bool) → IsTrue b ↔ P → b ≡ false → ¬ P
lacks b test failed p = let t : IsTrue false = subst IsTrue failed (test.1 p) in grind arith

pub lacks_header : (v : Seen) (at : ℕ → List ℕ) (g : Group) (k b kind format : ℕ) (bytes : List ℕ) {has : Bool} → b ≡ g.addr + k → k < g.length → IsShown v g at → v.block_at b ≡ Some bytes
    → kind ≡ kind_of k → format ≡ format_of k → IsTrue has ↔ HasHeader kind format bytes → has ≡ false → IsBroken at g 1 b
lacks_header v at g k b kind format bytes {has} which low shown there kind_is format_is test failed =
    let own : IsHeaderOf g b = subst (IsHeaderOf g) (sym which) (header_block g k low) in
    let same : at b ≡ bytes = shown.same b bytes own there in
    let has_not : ¬ (HasHeader kind format bytes) = lacks has test failed in
    subst (IsBroken at g 1) (sym which) (no_header k low (λ h. has_not (subst (HasHeader kind format) (ap at (sym which) ∙ same) (subst (λ n. HasHeader n format (at (g.addr + k))) (sym kind_is) (subst (λ n. HasHeader (kind_of k) n (at (g.addr + k))) (sym format_is) h)))))

pub big_of : (size : ℕ) → IsBlockSize size → 512 ≤ size
big_of size is = elim is [
  | inl e ↦ omega (arith, e)
  | inr (inl e) ↦ omega (arith, e)
  | inr (inr (inl e)) ↦ omega (arith, e)
  | inr (inr (inr e)) ↦ omega (arith, e)
]
