-- What a map is whose values are seen in another way, once an entry has changed.
use Rattle.std.proofs.Common.{◌≡◌, ℕ, Bool, true, false, cond, T, ◌&&◌, List, [], ◌∷◌, map, length, Option, None, Some, ◌⊎◌, inl, inr, refl, sym, ap, subst, ◌∙◌}
use Rattle.std.proofs.lemmas.Bool.{cases_eq}
use Rattle.std.proofs.lemmas.List.{length-map}
use Rattle.std.proofs.lemmas.Cmp.{nat_cmp_total}
use Rattle.std.specs.Option.{option_map}
use Rattle.std.specs.Ordering.{nat_cmp, eq_by_cmp, is_lt}
use Rattle.std.specs.FinMap as table
use Rattle.std.specs.FinMap.Entries.{below_all}
use Rattle.log_tables.specs.Seen.{seen}
use Rattle.log_tables.proofs.Counting.{apart, at_key, gone, left}

module _ {A B : Type 0} (f : A → B) where
  abbrev with_values : List (ℕ × A) → List (ℕ × B)
  with_values = map (λ e. (e.0, f e.1))

  below-seen : (k : ℕ) (es : List (ℕ × A)) → below_all nat_cmp k (with_values es) ≡ below_all nat_cmp k es
  below-seen k [] = refl
  below-seen k (e ∷ es) = ap (λ b. is_lt (nat_cmp k e.0) && b) (below-seen k es)

  sorted-seen : (es : List (ℕ × A)) → table.is_sorted nat_cmp (with_values es) ≡ table.is_sorted nat_cmp es
  sorted-seen [] = refl
  sorted-seen (e ∷ es) = ap (λ b. b && table.is_sorted nat_cmp (with_values es)) (below-seen e.0 es) ∙ ap (λ b. below_all nat_cmp e.0 es && b) (sorted-seen es)

  rises : (m : table.FinMap nat_cmp A) → T (table.is_sorted nat_cmp (with_values (table.entries m)))
  rises m = subst T (sym (sorted-seen (table.entries m))) (table.entries_sorted m)

  find-seen : (q : ℕ) (es : List (ℕ × A)) → table.find nat_cmp q (with_values es) ≡ option_map f (table.find nat_cmp q es)
  find-seen q [] = refl
  find-seen q (e ∷ es) = ap (cond (eq_by_cmp nat_cmp q e.0) (Some (f e.1))) (find-seen q es) ∙ chosen (eq_by_cmp nat_cmp q e.0) (table.find nat_cmp q es)
    where
      chosen : (b : Bool) (o : Option A) → cond b (Some (f e.1)) (option_map f o) ≡ option_map f (cond b (Some e.1) o)
      chosen true o = refl
      chosen false o = refl

  pub entries-seen : (m : table.FinMap nat_cmp A) → table.entries (seen f m) ≡ map (λ e. (e.0, f e.1)) (table.entries m)
  entries-seen m = table.entries-from_sorted nat_cmp (with_values (table.entries m)) (rises m)

  pub get-seen : (m : table.FinMap nat_cmp A) (q : ℕ) → table.get (seen f m) q ≡ option_map f (table.get m q)
  get-seen m q = table.get-from_sorted nat_cmp (with_values (table.entries m)) q (rises m) ∙ find-seen q (table.entries m) ∙ ap (option_map f) (sym (table.get-entries m q))

  pub len-seen : (m : table.FinMap nat_cmp A) → table.len (seen f m) ≡ table.len m
  len-seen m = table.len-entries (seen f m) ∙ ap length (entries-seen m) ∙ length-map (table.entries m) (λ e. (e.0, f e.1)) ∙ sym (table.len-entries m)

  pub seen_empty : seen f table.empty ≡ table.empty
  seen_empty = table.empty_of_len (seen f table.empty) (len-seen table.empty ∙ table.len-empty nat_cmp A)

module _ {A B : Type 0} (f g : A → B) where
  alike : (o : Option A) → ((a : A) → o ≡ Some a → g a ≡ f a) → option_map g o ≡ option_map f o
  alike None is = refl
  alike (Some a) is = ap Some (is a refl)

  -- values that are seen alike
  pub seen_alike : (m : table.FinMap nat_cmp A) → ((q : ℕ) (a : A) → table.get m q ≡ Some a → g a ≡ f a) → seen g m ≡ seen f m
  seen_alike m is = table.same_map nat_cmp_total table.nat_cmp-IsAntisymmetric _ _ (λ q. get-seen g m q ∙ alike (table.get m q) (is q) ∙ sym (get-seen f m q))

  module _ (m : table.FinMap nat_cmp A) (k : ℕ) (is : (q : ℕ) (x : A) → (q ≡ k → ⊥) → table.get m q ≡ Some x → g x ≡ f x) where
    -- an entry more, or in place of another
    pub seen_insert : (a : A) → seen g (table.insert m k a) ≡ table.insert (seen f m) k (g a)
    seen_insert a = table.same_map nat_cmp_total table.nat_cmp-IsAntisymmetric _ _ (λ q. by q (cases_eq q k))
      where
        by : (q : ℕ) → (q ≡ k) ⊎ (q ≡ k → ⊥) → table.get (seen g (table.insert m k a)) q ≡ table.get (table.insert (seen f m) k (g a)) q
        by q (inl e) =
            subst (λ n. table.get (seen g (table.insert m k a)) n ≡ table.get (table.insert (seen f m) k (g a)) n) (sym e)
            (get-seen g (table.insert m k a) k ∙ ap (option_map g) (at_key m k a) ∙ sym (at_key (seen f m) k (g a)))
        by q (inr ne) =
            get-seen g (table.insert m k a) q ∙ ap (option_map g) (apart m k a q ne) ∙ alike (table.get m q) (λ x. is q x ne) ∙ sym (get-seen f m q) ∙ sym (apart (seen f m) k (g a) q ne)

    -- an entry less
    pub seen_remove : seen g (table.remove m k) ≡ table.remove (seen f m) k
    seen_remove = table.same_map nat_cmp_total table.nat_cmp-IsAntisymmetric _ _ (λ q. by q (cases_eq q k))
      where
        by : (q : ℕ) → (q ≡ k) ⊎ (q ≡ k → ⊥) → table.get (seen g (table.remove m k)) q ≡ table.get (table.remove (seen f m) k) q
        by q (inl e) =
            subst (λ n. table.get (seen g (table.remove m k)) n ≡ table.get (table.remove (seen f m) k) n) (sym e)
            (get-seen g (table.remove m k) k ∙ ap (option_map g) (gone m k) ∙ sym (gone (seen f m) k))
        by q (inr ne) =
            get-seen g (table.remove m k) q ∙ ap (option_map g) (left m k q ne) ∙ alike (table.get m q) (λ x. is q x ne) ∙ sym (get-seen f m q) ∙ sym (left (seen f m) k q ne)
