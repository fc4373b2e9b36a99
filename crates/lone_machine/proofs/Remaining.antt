-- One node alone: what remains of it.
use Rattle.std.proofs.Common.{ℕ, zero, ◌≡◌, ◌≤◌, inl, inr, suc, Bool, Some, [], ◌∷◌, ◌++◌, refl, sym, ap, ◌∙◌, subst, arith}
use Rattle.std.proofs.lemmas.Bool.{cases_eq, cases_lt, cond-true, cond-false}
use Rattle.cluster_laws.specs.Files.{Files, RightTo}
use Rattle.cluster_laws.specs.Book.{at, InBox, W, kept_by}
use Rattle.cluster_laws.specs.History.{Gone, Legal, Loss, cut_at, least, living, saids}
use Rattle.cluster_laws.specs.Log.{Calm}
use Rattle.cluster_laws.specs.Mirror.{FreeIsFree, IsOutcome, IsReplay, Near, placed}
use Rattle.cluster_laws.specs.Rings.{Rings}
use Rattle.cluster_laws.specs.World.{Loses, Step, World}
use Rattle.cluster_laws.proofs.Cells.{split, none-some, ltb-true, ltb-false, at-same, at-other}
use Rattle.cluster_laws.proofs.Remaining.{image_same, remains_legal}
use Rattle.cluster_laws.proofs.Replaying.{near}
use Rattle.lone_machine.specs.Alone.{Begun, IsAlone, IsReplayAlone, begun, head_of, loses}
use Rattle.lone_machine.specs.Laws.{LosesAlone, RemainsAlone, RingsAlone}
use Rattle.lone_machine.proofs.Going.{run_on, sound}

least_is : (p k : ℕ) → k ≤ p → least p k ≡ k
least_is p k below = elim (cases_lt k p) [
  | inl less ↦ cond-true _ k p (ltb-true k p less)
  | inr more ↦ (let same : p ≡ k = omega (arith, below, more) in cond-false _ k p (ltb-false k p more) ∙ same)
]

module _ (F : Files) (s : Begun F) (w : World F) (a : IsAlone F s w) (c : Bool) (k : ℕ) (low : (head_of F s w c).cut ≤ k) (high : k ≤ w.book.answered s.node)
    (calm : Calm F w.book s.node ((head_of F s w c).cut) k) where
  abbrev kept_cut : ℕ → ℕ
  kept_cut = at w.book.answered s.node k

  none_of_others : (j : ℕ) → (j ≡ s.node → ⊥) → (w.book.published j ≡ 0) × (w.book.answered j ≡ 0)
  none_of_others j other = (let p = (sound F s w a).whole.published_answered j in let z = a.silent j other in (omega (arith, p, z), z))

  here : kept_cut s.node ≡ k
  here = at-same w.book.answered s.node k

  there : (j : ℕ) → (j ≡ s.node → ⊥) → kept_cut j ≡ 0
  there j other = at-other w.book.answered s.node k j other ∙ (none_of_others j other).1

  between : (j : ℕ) → (w.book.low j ≤ (w.disk.heads j c).cut) × ((w.disk.heads j c).cut ≤ kept_cut j) × (kept_cut j ≤ w.book.answered j) × Calm F w.book j ((w.disk.heads j c).cut) (kept_cut j)
  between j = elim (cases_eq j s.node) [
    | inl same ↦ subst (λ i. (w.book.low i ≤ (w.disk.heads i c).cut) × ((w.disk.heads i c).cut ≤ kept_cut i) × (kept_cut i ≤ w.book.answered i) × Calm F w.book i ((w.disk.heads i c).cut) (kept_cut i)) (sym same)
        (((sound F s w a).mirror.cuts s.node c).0, omega (arith, low, here), omega (arith, high, here), subst (Calm F w.book s.node ((head_of F s w c).cut)) (sym here) calm)
    | inr other ↦
        (let m = (sound F s w a).mirror.cuts j c in let n = none_of_others j other in let z = there j other in
        (m.0, omega (arith, m.1, n.0), omega (arith, z), λ n above below. absurd (omega (arith, below, z))))
  ]

  box : InBox F w.book kept_cut
  box j = (let b = between j in (omega (arith, b.0, b.1), b.2))

  published : (j : ℕ) → kept_cut j ≤ w.book.published j
  published j = elim (cases_eq j s.node) [
    | inl same ↦ subst (λ i. kept_cut i ≤ w.book.published i) (sym same) (omega (arith, here, high, a.told))
    | inr other ↦ (let z = there j other in omega (arith, z))
  ]

  abbrev loss : Loss
  loss = record { node = s.node; kept = k }

  cut_is : cut_at w.book.published (loss ∷ []) ≡ kept_cut
  cut_is = λ i j. each j i
    where
      each : (j : ℕ) → cut_at w.book.published (loss ∷ []) j ≡ kept_cut j
      each j = elim (cases_eq j s.node) [
        | inl same ↦ subst (λ m. at w.book.published s.node (least (w.book.published s.node) k) m ≡ kept_cut m) (sym same)
            (at-same w.book.published s.node (least (w.book.published s.node) k) ∙ least_is (w.book.published s.node) k (omega (arith, high, a.told)) ∙ sym here)
        | inr other ↦ at-other w.book.published s.node (least (w.book.published s.node) k) j other ∙ (none_of_others j other).0 ∙ sym (there j other)
      ]

  above : (w.book.low s.node ≤ k) × Unit {0}
  above = (let m = (sound F s w a).mirror.cuts s.node c in omega (arith, m.0, low), tt)

  legal : Legal F (w.items ++ (Gone s.node k k ∷ [])) w.book.start × (saids F (living F (w.items ++ (Gone s.node k k ∷ []))) ≡ kept_by F (cut_at w.book.published (loss ∷ [])) w.book.kept)
  legal = remains_legal F w (loss ∷ []) (sound F s w a) above

  module _ (free : FreeIsFree F) (x r : ℕ → F.Content) (outcome : IsOutcome F w.disk x) (replay : IsReplayAlone F s w c x r) where
    all_replayed : IsReplay F w.disk (λ j. c) x r
    all_replayed b = elim (replay b) [
      | inl live ↦ inl (s.node, live.0, live.1, live.2)
      | inr none ↦ inr (
        (λ j. elim (split ((w.disk.heads j c).live b)) [
          | inl gone ↦ gone
          | inr some ↦ absurd (none-some (none.0) (subst (λ i. (w.disk.heads i c).live b ≡ Some (some.0)) (a.owners b j ((sound F s w a).mirror.lives j c b (some.0) (some.1))) (some.1)))
        ]),
        none.1,
      )
    ]

    same_image : W F w.book kept_cut ≡ W F w.book (λ j. (w.disk.heads j c).cut)
    same_image = image_same F w.book ((sound F s w a).whole) (λ j. (w.disk.heads j c).cut) kept_cut between

    remains : (t : F.Tree) × F.Stands (placed F r (W F w.book kept_cut)) t × RightTo F (saids F (living F (w.items ++ (Gone s.node k k ∷ [])))) w.book.start t
    remains =
        let right = (sound F s w a).whole.right kept_cut box published in (
          right.0,
          free (W F w.book kept_cut) (placed F r (W F w.book kept_cut)) (right.0) (right.1)
              (λ b. elim (subst (λ m. Near F (r b) (m b)) (sym same_image) (near F w.book w.disk ((sound F s w a).mirror) (λ j. c) x r outcome all_replayed b)) [
                | inl e ↦ inl (ap (λ d. record { content = d; place = (W F w.book kept_cut b).place }) e)
                | inr f ↦ inr (f, refl)
              ]),
          subst (λ z. RightTo F z w.book.start (right.0)) (sym (legal.1 ∙ ap (λ z. kept_by F z w.book.kept) cut_is)) (right.2),
        )

pub remains_alone : (F : Files) → RemainsAlone F
remains_alone F s w c k x r a free outcome replay low high calm = ((legal F s w a c k low high calm).0, remains F s w a c k low high calm free x r outcome replay)

pub loses_alone : (F : Files) → LosesAlone F
loses_alone F s w k a uncached settled low high calm next = record {
  begins = a.begins;
  run = run_on F (begun F s) w (loses F s w k) a.run step;
  held = a.held;
  told = a.told;
  owners = a.owners;
  silent = a.silent;
  writes = a.writes;
}
  where
    step : Step F w (loses F s w k)
    step = Loses s.node k a.told low high calm next uncached (ap (λ h. h.cut) settled ∙ (sound F s w a).mirror.alone s.node)

-- ---- its journal among the disk's

-- the number before
before : ℕ → ℕ
before zero = 0
before (suc i) = i

module _ (F : Files) (s : Begun F) (w : World F) (j : ℕ) (a : IsAlone F s w) (node : s.node ≡ suc j) where
  -- only the node's heads have a live block
  only : (i b : ℕ) (c : Bool) (v : F.Content) → (w.disk.heads i c).live b ≡ Some v → i ≡ suc j
  only i b c v e = a.owners b i ((sound F s w a).mirror.lives i c b v e) ∙ node

  rings : Rings F w.disk
  unfolding before
  rings = record {
    speaks = suc;
    past = 0;
    lone = λ r k same ours. omega (arith, same);
    live = λ r c b. (w.disk.heads (suc r) c).live b;
    apart = λ r k c d b u v e f. (let x = only (suc r) b c u e in let y = only (suc k) b d v f in omega (arith, x, y));
    one = before;
    single = λ r not. absurd (not refl);
    parted = λ i c b v e. (let at = only i b c v e in (j, sym at, ap (λ n. (w.disk.heads n c).live b) (sym at) ∙ e));
    joined = λ r c b v e. e;
  }

pub rings_alone : (F : Files) → RingsAlone F
unfolding rings before
rings_alone F s w j a node = (rings F s w j a node, record { speaks = λ k. refl; one = λ k. refl; live = λ k b c. refl })
