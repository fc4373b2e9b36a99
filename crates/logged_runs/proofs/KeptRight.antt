-- The loss of the one life of a run is right.
use Rattle.std.proofs.Common.{◌≡◌, ℕ, zero, suc, ◌+◌, List, [], ◌∷◌, ◌++◌, length, take, Some, refl, sym, ap, subst, ◌∙◌, arith}
use Rattle.std.proofs.lemmas.List.{length-append}
use Rattle.cluster_history.specs.Losses.{LossIsRight}
use Rattle.run_rules.specs.Follows.{history_of}
use Rattle.run_rules.specs.Lives.{AcceptedHead, DiskHeads, Life, TraceKeptRight, life_lost, upto_of}
use Rattle.script_lang.specs.declared.script.Client.{Client}
use Rattle.trace_text.specs.declared.item.TraceItem.{TraceItem}
use Rattle.trace_text.specs.declared.item.TraceItem.TheVariants as trace
use Rattle.logged_steps.proofs.Telling.{append_assoc, take_all, take_front}
use Rattle.logged_runs.specs.Starts.{only_life}
use Rattle.logged_runs.proofs.Losing.{IsItsStop, IsTheLoss, its_place, life_fenced, no_loss}
use Rattle.logged_runs.proofs.Staying.{AllStay}

module _ (clients : List Client) (x : TraceItem) (stop : IsItsStop clients x) (xs : List TraceItem) (all : AllStay xs) (k : ℕ) where
  abbrev fence : List TraceItem
  fence = x ∷ trace.Fence 1 ∷ []

  abbrev fenced : List TraceItem
  fenced = trace.Join 1 ∷ (xs ++ fence)

  abbrev lost : List TraceItem
  lost = trace.Join 1 ∷ (xs ++ x ∷ trace.Fence 1 ∷ trace.Lost 1 k ∷ [])

  -- the items before the loss
  before : (n : ℕ) → n ≡ length xs + 2 → take (suc n) lost ≡ fenced
  before n e =
      ap (take (suc n)) (sym (append_assoc (trace.Join 1 ∷ xs) fence (trace.Lost 1 k ∷ [])))
      ∙ ap (λ m. take m (fenced ++ trace.Lost 1 k ∷ [])) count
      ∙ take_front (length fenced) fenced (trace.Lost 1 k ∷ []) (omega arith) ∙ take_all (length fenced) fenced (omega arith)
    where
      count : suc n ≡ length fenced
      count = (let m = length-append xs fence in omega (arith, e, m))

  -- whatever other disks there are, the loss is right by the head behind the fence
  module _ (behind : ℕ → ℕ → AcceptedHead) (right : (others : DiskHeads) → others.behind ≡ behind → LossIsRight (history_of clients fenced) 1 (upto_of others only_life fenced) k) where
    pub kept_right : TraceKeptRight clients behind lost
    kept_right zero node kept e = absurd (no_loss (trace.Join 1) node kept (λ same. absurd cc) e)
    kept_right (suc n) node kept e = by (its_place clients x stop xs k n node kept all e)
      where
        there : DiskHeads
        there = record { behind = behind; now = λ i. behind i (suc n) }

        by : IsTheLoss xs k n node kept → (life : Life) × (life_lost node (take (suc n) lost) ≡ Some life)
            × LossIsRight (history_of clients (take (suc n) lost)) node (upto_of there life (take (suc n) lost)) kept
        by loss = (
          only_life,
          (λ i. life_lost (loss.own i) (before n loss.at i)) ∙ life_fenced clients x stop xs all,
          subst (λ i. LossIsRight (history_of clients (take (suc n) lost)) i (upto_of there only_life (take (suc n) lost)) kept) (sym loss.own)
              (subst (λ m. LossIsRight (history_of clients (take (suc n) lost)) 1 (upto_of there only_life (take (suc n) lost)) m) (sym loss.same)
              (subst (λ is. LossIsRight (history_of clients is) 1 (upto_of there only_life is) k) (sym (before n loss.at)) (right there refl))),
        )
