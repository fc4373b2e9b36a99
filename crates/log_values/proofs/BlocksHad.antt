-- What a set of blocks has.
use Rattle.std.proofs.Common.{◌≡◌, ℕ, Bool, true, false, cond, not, ◌||◌, ◌&&◌, Option, None, Some, refl, sym, ap, ◌∙◌, is_some}
use Rattle.std.proofs.lemmas.Cmp.{nat_cmp_total, ranked}
use Rattle.std.specs.declared.cmp.Ordering.TheVariants.{Equal}
use Rattle.std.specs.Ordering.{eq_by_cmp, nat_cmp}
use Rattle.std.specs.FinMap as table
use Rattle.log_values.specs.Blocks as set

chosen : (b : Bool) (o : Option (Unit {0})) → is_some (cond b (Some tt) o) ≡ (b || is_some o)
chosen true o = refl
chosen false o = refl

dropped : (b : Bool) (o : Option (Unit {0})) → is_some (cond b None o) ≡ (not b && is_some o)
dropped true o = refl
dropped false o = refl

kept : (b : Bool) (o : Option (Unit {0})) → is_some (cond b o None) ≡ (is_some o && b)
kept true None = refl
kept true (Some x) = refl
kept false None = refl
kept false (Some x) = refl

pub contains-empty : (q : ℕ) → set.contains set.empty q ≡ false
contains-empty q = ap is_some (table.get-empty nat_cmp q)

pub contains-insert : (s : set.Blocks) (k q : ℕ) → set.contains (set.insert s k) q ≡ (eq_by_cmp nat_cmp q k || set.contains s q)
contains-insert s k q = ap is_some (table.get-insert nat_cmp_total s k tt q) ∙ chosen (eq_by_cmp nat_cmp q k) (table.get s q)

pub contains-remove : (s : set.Blocks) (k q : ℕ) → set.contains (set.remove s k) q ≡ (not (eq_by_cmp nat_cmp q k) && set.contains s q)
contains-remove s k q = ap is_some (table.get-remove nat_cmp_total s k q) ∙ dropped (eq_by_cmp nat_cmp q k) (table.get s q)

pub contains-retain : (s : set.Blocks) (p : ℕ → Bool) (q : ℕ) → set.contains (set.retain s p) q ≡ (set.contains s q && p q)
contains-retain s p q = ap is_some (table.get-retain_keys s p q (λ x e. ap p (sym (ranked q x Equal (sym e))))) ∙ kept (p q) (table.get s q)
