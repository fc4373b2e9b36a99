-- A life that is lost has its fence among the items before.
use Rattle.std.proofs.Common.{ℕ, suc, ◌≡◌, ◌+◌, ◌⊎◌, inl, inr, Bool, true, false, cond, List, [], ◌∷◌, ◌++◌, refl, sym, ap, ◌∙◌, subst, arith}
use Rattle.trace_text.specs.declared.item.TraceItem.{TraceItem}
use Rattle.trace_text.specs.declared.item.TraceItem.TheVariants as trace
use Rattle.run_rules.specs.Lives.{AcceptedHead, lives_of, losses_of}
use Rattle.tree_histories.specs.Trees.{Images}
use Rattle.head_laws.specs.Journals.{Journal, JournalEvent, JournalEvents, IsNew, IsOther, IsEnd, head_item, Done, Then}
use Rattle.head_laws.specs.Journals as journals
use Rattle.head_laws.specs.Laws.{lives_count, AreTold}
use Rattle.head_laws.specs.Tellings.{HasFence}
use Rattle.head_laws.specs.Traces.{Does}
use Rattle.head_laws.proofs.Items.{life-there}
use Rattle.head_laws.proofs.Telling.{heads-are-told}
use Rattle.head_laws.proofs.Tracing.{same-last, no-more, grows}

-- ---- the last of some items, and one among them

tail-of : {A : Type 0} {a b : A} {rest bs : List A} → a ∷ rest ≡ b ∷ bs → rest ≡ bs
tail-of e = cc

head-of : {A : Type 0} {a b : A} {rest bs : List A} → a ∷ rest ≡ b ∷ bs → a ≡ b
head-of e = cc

none-left : {A : Type 0} {B : Type 0} (bs : List A) (z : A) (zs : List A) → [] ≡ bs ++ z ∷ zs → B
none-left [] z zs e = absurd (let f : [] ≡ z ∷ zs = e in cc)
none-left (b ∷ bs) z zs e = absurd (let f : [] ≡ b ∷ (bs ++ z ∷ zs) = e in cc)

-- it is the last, or one of those before
split-last : {A : Type 0} (xs : List A) (x : A) (ys : List A) (z : A) (zs : List A) → xs ++ x ∷ [] ≡ ys ++ z ∷ zs
    → ((xs ≡ ys) × (x ≡ z)) ⊎ ((more : List A) × (xs ≡ ys ++ z ∷ more))
split-last [] x [] z zs e = inl (refl, head-of e)
split-last (a ∷ rest) x [] z zs e = inr (rest, ap (λ b. b ∷ rest) (head-of e))
split-last [] x (b ∷ bs) z zs e = none-left bs z zs (tail-of e)
split-last (a ∷ rest) x (b ∷ bs) z zs e = elim (split-last rest x bs z zs (tail-of e)) [
  | inl last ↦ inl (ap (λ cs. a ∷ cs) (last.0) ∙ ap (λ c. c ∷ bs) (head-of e), last.1)
  | inr before ↦ inr (before.0, ap (λ cs. a ∷ cs) (before.1) ∙ ap (λ c. c ∷ (bs ++ z ∷ before.0)) (head-of e))
]

-- ---- the event that says a loss

not-head : {A : Type 0} (clean : Bool) (i block sequence upto kept : ℕ) → head_item clean i block sequence upto ≡ trace.Lost i kept → A
not-head true i block sequence upto kept e = absurd (let f : trace.WriteClean i block sequence upto ≡ trace.Lost i kept = e in cc)
not-head false i block sequence upto kept e = absurd (let f : trace.WriteHead i block sequence upto ≡ trace.Lost i kept = e in cc)

-- a life has ended and has no loss, and was fenced, or its node has joined since
abbrev MayLose : Journal → Type 0
MayLose j = (m : ℕ) × (j.unlost ≡ suc m) × ((j.runs ≡ true) ⊎ (j.fenced ≡ true))

loss-event : (i : ℕ) (behind : ℕ → AcceptedHead) (j : Journal) (xs : List TraceItem) (k : Journal) (ys : List TraceItem) (kept : ℕ) → JournalEvent i behind j xs k ys
    → ys ≡ xs ++ trace.Lost i kept ∷ [] → MayLose j
loss-event i behind j xs _ _ kept (journals.Says x other) e = absurd (subst (IsOther i) (same-last xs x (trace.Lost i kept) e) other refl)
loss-event i behind j xs _ _ kept (journals.WritesLog block loud) e = absurd (let f : trace.WriteLog i block ≡ trace.Lost i kept = same-last xs _ _ e in cc)
loss-event i behind j xs _ _ kept (journals.SaysRecovered r waits) e = absurd (let f : trace.Recovered i r ≡ trace.Lost i kept = same-last xs _ _ e in cc)
loss-event i behind j xs _ _ kept (journals.Answers name number call reply runs acts dirty) e =
    absurd (let f : trace.Call i name number call reply ≡ trace.Lost i kept = same-last xs _ _ e in cc)
loss-event i behind j xs _ _ kept (journals.Begins clean block upto runs acts loud alone) e = not-head clean i block (suc (j.name false).sequence) upto kept (same-last xs _ _ e)
loss-event i behind j xs _ _ kept (journals.BeginsLast clean block upto runs acts loud alone told) e = no-more xs (trace.Lost i kept) e
loss-event i behind j xs _ _ kept (journals.Replays r h waits who alone) e = no-more xs (trace.Lost i kept) e
loss-event i behind j xs _ _ kept (journals.ReplaysPast h waits who alone) e = no-more xs (trace.Lost i kept) e
loss-event i behind j xs _ _ kept (journals.Ends d may) e = no-more xs (trace.Lost i kept) e
loss-event i behind j xs _ _ kept (journals.Commits sequence upto runs acts loud flies named counted) e =
    absurd (let f : trace.Commit i sequence upto ≡ trace.Lost i kept = same-last xs _ _ e in cc)
loss-event i behind j xs _ _ kept (journals.Stops x end runs) e = absurd (subst (IsEnd i) (same-last xs x (trace.Lost i kept) e) end)
loss-event i behind j xs _ _ kept (journals.IsFenced stopped unfenced resting there) e = absurd (let f : trace.Fence i ≡ trace.Lost i kept = same-last xs _ _ e in cc)
loss-event i behind j xs _ _ kept (journals.Joins stopped free alone there) e = absurd (let f : trace.Join i ≡ trace.Lost i kept = same-last xs _ _ e in cc)
loss-event i behind j xs _ _ kept (journals.Loses m number waits some over) e = (m, some, over)
loss-event i behind j xs _ _ kept (journals.IsRecovered waits none alone its-first) e = no-more xs (trace.Lost i kept) e

-- what such a life has
has-fence : (i : ℕ) (behind : ℕ → ℕ → AcceptedHead) (j : Journal) (items : List TraceItem) → AreTold i behind j items → MayLose j → HasFence i items
has-fence i behind j items t (m, some, over) =
    let there = life-there i (losses_of i items) (lives_of items)
    (let c : lives_count i (lives_of items) ≡ losses_of i items + (j.unlost + cond j.runs 1 0) = t.count in omega (arith, c, some)) in
    (there.0, there.1, t.fence (there.0) (λ none. absurd (omega (arith, none, some))) over (there.1))

module _ (I : Images) (i : ℕ) (behind : ℕ → ℕ → AcceptedHead) (a : Journal) (new : IsNew a) where
  pub each-fenced : (k : Journal) (ys : List TraceItem) → JournalEvents i (behind i) a [] k ys → (before after : List TraceItem) (kept : ℕ)
      → ys ≡ before ++ trace.Lost i kept ∷ after → HasFence i before
  each-fenced _ _ Done before after kept is = none-left before (trace.Lost i kept) after is
  each-fenced k ys (Then j _ xs _ events event) before after kept is = elim (grows I i (behind i) j k xs ys (Does k ys event)) [
    | inl same ↦ each-fenced j xs events before after kept (sym same ∙ is)
    | inr more ↦ elim (split-last xs (more.0) before (trace.Lost i kept) after (sym (more.1) ∙ is)) [
      | inl last ↦
          let loss = loss-event i (behind i) j xs k ys kept event (more.1 ∙ ap (λ (x : TraceItem). xs ++ x ∷ []) (last.1)) in
          subst (HasFence i) (last.0) (has-fence i behind j xs (heads-are-told i behind a j xs new events) loss)
      | inr earlier ↦ each-fenced j xs events before (earlier.0) kept (earlier.1)
    ]
  ]
