-- The blocks that a node has, as a finite map.
use Rattle.std.proofs.Common.{◌≡◌, ℕ, cond, Bor, Bool, true, false, List, [], ◌∷◌, length, Option, None, Some, refl, sym, ap, ◌∙◌, inl, inr}
use Rattle.std.specs.Ordering.{nat_cmp, eq_by_cmp, is_eq}
use Rattle.std.specs.Cmp.{nat_cmp_total}
use Rattle.std.specs.List.Sorted.{IsStrictlySortedBy}
use Rattle.std.specs.Map.{lookup, keys_of}
use Rattle.std.specs.FinMap.{FinMap, get, insert, remove, from_entries, get-empty, get-remove, nat_cmp-IsAntisymmetric}
use Rattle.std.proofs.lemmas.Bool.{cases_eq}
use Rattle.finite_maps.proofs.Seen.{get-seen, seen_insert, seen_remove}
use Rattle.finite_maps.proofs.Keys.{inserted_at, inserted_apart}
use Rattle.glock_names.specs.Views.{IsView, AreGroups}
use Rattle.glock_names.specs.declared.views.Group.{Group}
use Rattle.gfs2_layout.specs.Device.{IsBlockSize}
use Rattle.lone_view.specs.Seeing.{Lone, seen_alone}

pub get_kept : (es : List (ℕ × List ℕ)) (q : ℕ) → get (from_entries {R = nat_cmp} es) q ≡ lookup (λ x. is_eq (nat_cmp q x)) es
get_kept = get-seen nat_cmp_total nat_cmp-IsAntisymmetric (eq_by_cmp nat_cmp) (λ a b. refl)

pub kept_insert : (es fs : List (ℕ × List ℕ)) (k : ℕ) (v : List ℕ) → ((q : ℕ) → lookup (λ x. is_eq (nat_cmp q x)) fs ≡ cond (is_eq (nat_cmp k q)) (Some v) (lookup (λ x. is_eq (nat_cmp q x)) es))
    → from_entries {R = nat_cmp} fs ≡ insert (from_entries es) k v
kept_insert = seen_insert nat_cmp_total nat_cmp-IsAntisymmetric (eq_by_cmp nat_cmp) (λ a b. refl)

pub kept_remove : (es fs : List (ℕ × List ℕ)) (k : ℕ) → ((q : ℕ) → lookup (λ x. is_eq (nat_cmp q x)) fs ≡ cond (is_eq (nat_cmp k q)) None (lookup (λ x. is_eq (nat_cmp q x)) es))
    → from_entries {R = nat_cmp} fs ≡ remove (from_entries es) k
kept_remove = seen_remove nat_cmp_total nat_cmp-IsAntisymmetric (eq_by_cmp nat_cmp) (λ a b. refl)

pub rises_empty : (es : List (ℕ × List ℕ)) → es ≡ [] → IsStrictlySortedBy nat_cmp (keys_of es)
unfolding IsStrictlySortedBy
rises_empty [] e = tt
rises_empty (x ∷ es) e = absurd (cc)

some_is : {x y : List ℕ} → ◌≡◌ {A = Option (List ℕ)} (Some x) (Some y) → x ≡ y
some_is e = ap (λ (o : Option (List ℕ)). unwrap o) e
  where
    unwrap : Option (List ℕ) → List ℕ
    unwrap (Some x) = x
    unwrap None = []

-- without blocks it is a view
pub empty_view : (es : List (ℕ × List ℕ)) (groups : List Group) (root size : ℕ) → es ≡ [] → IsBlockSize size → AreGroups size groups
    → IsView (seen_alone (record { blocks = from_entries es; groups = groups; root = root; size = size }))
empty_view es groups root size none is groups_are = record {
  block_size = is;
  whole = λ b bytes e. absurd (nothing (sym (ap (λ l. get (from_entries {R = nat_cmp} l) b) none ∙ get-empty nat_cmp b) ∙ e));
  groups = groups_are;
}
  where
    nothing : {x : List ℕ} → ◌≡◌ {A = Option (List ℕ)} None (Some x) → ⊥
    nothing e = cc

-- and is one with a whole block more
pub larger_view : (n : Lone) (k : ℕ) (bytes : List ℕ) → IsView (seen_alone n) → length bytes ≡ n.size → IsView (seen_alone (record n { blocks = insert n.blocks k bytes }))
larger_view n k bytes is long = record { block_size = is.block_size; whole = whole; groups = is.groups }
  where
    whole : (b : ℕ) (found : List ℕ) → get (insert n.blocks k bytes) b ≡ Some found → length found ≡ n.size
    whole b found e = elim (cases_eq b k) [
      | inl same ↦ ap length (some_is (sym e ∙ ap (get (insert n.blocks k bytes)) same ∙ inserted_at nat_cmp_total nat_cmp-IsAntisymmetric n.blocks k bytes)) ∙ long
      | inr other ↦ is.whole b found (sym (inserted_apart nat_cmp_total nat_cmp-IsAntisymmetric n.blocks k bytes b other) ∙ e)
    ]

-- and with one less
pub smaller_view : (n : Lone) (k : ℕ) → IsView (seen_alone n) → IsView (seen_alone (record n { blocks = remove n.blocks k }))
smaller_view n k is = record { block_size = is.block_size; whole = whole; groups = is.groups }
  where
    chosen : (t : Bool) (o : Option (List ℕ)) (found : List ℕ) → cond t None o ≡ Some found → o ≡ Some found
    chosen true o found e = absurd (let f : None ≡ Some found = e in cc)
    chosen false o found e = e

    whole : (b : ℕ) (found : List ℕ) → get (remove n.blocks k) b ≡ Some found → length found ≡ n.size
    whole b found e = is.whole b found (chosen (eq_by_cmp nat_cmp b k) (get n.blocks b) found (sym (get-remove nat_cmp_total n.blocks k b) ∙ e))
