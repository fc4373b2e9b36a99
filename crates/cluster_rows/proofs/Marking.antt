-- Fronts of items.
use Rattle.std.proofs.Common.{◌≡◌, ◌≤◌, ◌<◌, ◌⊎◌, inl, inr, List, [], ◌∷◌, ◌++◌, length, take, refl, sym, ap, ◌∙◌, arith, length-append}
use Rattle.std.proofs.lemmas.List.{take-append-le, take_all}
use Rattle.std.proofs.lemmas.Bool.{cases_lt}
use Rattle.cluster_laws.specs.Files.{Files}
use Rattle.cluster_laws.specs.History.{Item}
use Rattle.cluster_laws.specs.World.{World, Step, Answers, Syncs, Publishes, Begins, Ends, Writes, Lands, Settles, Lower, Grants, Reads, Shrinks, Loses, Run, Stop, Goes}
use Rattle.cluster_rows.specs.Marks.{EveryFrontIsPassed}

module _ (F : Files) where
  -- ---- fronts

  -- each step adds one item at the end, or none
  grows : (u v : World F) → Step F u v → (v.items ≡ u.items) ⊎ ((more : List (Item F)) × (v.items ≡ u.items ++ more) × (length more ≡ 1))
  grows u _ (Answers j said view change cache no_sync a) = inl refl
  grows u _ (Syncs j said does still calm) = inl refl
  grows u _ (Publishes k some) = inr (_, refl, refl)
  grows u _ (Begins k h single heads) = inl refl
  grows u _ (Ends k which) = inl refl
  grows u _ (Writes r b v k live) = inl refl
  grows u _ (Lands r x settles) = inl refl
  grows u _ (Settles k p all own one dead) = inl refl
  grows u _ (Lower k state cache lowers) = inl refl
  grows u _ (Grants k state raises) = inl refl
  grows u _ (Reads j b held) = inl refl
  grows u _ (Shrinks j cache forgets) = inl refl
  grows u _ (Loses k m all above below calm next none single) = inr (_, refl, refl)

  append_assoc : {A : Type 0} (xs ys zs : List A) → (xs ++ ys) ++ zs ≡ xs ++ (ys ++ zs)
  append_assoc [] ys zs = refl
  append_assoc (x ∷ xs) ys zs = ap (λ z. x ∷ z) (append_assoc xs ys zs)

  append-nil : {A : Type 0} (xs : List A) → xs ++ [] ≡ xs
  append-nil [] = refl
  append-nil (x ∷ xs) = ap (λ z. x ∷ z) (append-nil xs)

  pub run-grows : (u w : World F) → Run F u w → (more : List (Item F)) × (w.items ≡ u.items ++ more)
  run-grows u _ (Stop _) = ([], sym (append-nil (u.items)))
  run-grows u w (Goes _ v _ step run) = let r = run-grows v w run in elim (grows u v step) [
    | inl same ↦ (r.0, r.1 ∙ ap (λ z. z ++ r.0) same)
    | inr more ↦ (more.0 ++ r.0, r.1 ∙ ap (λ z. z ++ r.0) (more.1) ∙ append_assoc (u.items) (more.0) (r.0))
  ]

  pub fronts : EveryFrontIsPassed F
  fronts u _ n (Stop _) low high = record {
    between = u;
    before = Stop u;
    after = Stop u;
    items = sym (take_all n (u.items) (omega arith));
  }
  fronts u w n (Goes _ v _ step run) low high = elim (cases_lt (length (u.items)) n) [
    | inl past ↦ (let p = fronts v w n run (longer past) high in record {
      between = p.between;
      before = Goes u v (p.between) step (p.before);
      after = p.after;
      items = p.items;
    })
    | inr here ↦ (let r = run-grows u w (Goes u v w step run) in let e : n ≡ length (u.items) = omega arith in record {
      between = u;
      before = Stop u;
      after = Goes u v w step run;
      items = sym (ap (take n) (r.1) ∙ take-append-le n (u.items) (r.0) (omega arith) ∙ take_all n (u.items) (omega arith));
    })
  ]
    where
      longer : length (u.items) < n → length (v.items) ≤ n
      longer past = elim (grows u v step) [
        | inl same ↦ (let e : length (v.items) ≡ length (u.items) = ap length same in omega arith)
        | inr more ↦ (let e : length (v.items) ≡ length (u.items ++ more.0) = ap length (more.1) in omega (arith, e, length-append (u.items) (more.0), more.2))
      ]
