-- What remains of the items of one life, and of them with its loss.
use Rattle.std.proofs.Common.{◌≡◌, ℕ, zero, suc, ◌+◌, List, [], ◌∷◌, ◌++◌, length, Option, None, Some, refl, sym, ap, subst, ◌∙◌, arith}
use Rattle.std.specs.Prelude.{◌==◌, false, nat_lt, if◌then◌else◌, slice_get}
use Rattle.std.proofs.lemmas.List.{length-append}
use Rattle.std.proofs.lemmas.Bool.{cond-true, cond-false, eq-eqb, ne_eqb}
use Rattle.cluster_history.specs.declared.Item.{Item}
use Rattle.cluster_history.specs.declared.Item.TheVariants as item
use Rattle.file_tree.specs.declared.call.Call.{Call}
use Rattle.run_rules.specs.Follows.{history_of}
use Rattle.run_rules.specs.Lives.{AcceptedHead, DiskHeads, Life, fenced_behind, head_behind, head_of, items_of, last_number, life_at, life_lost, lives_from, lives_of, losses_for, losses_of, named, or_else, recovered_behind, remains, to_its_end, unnamed, upto_by, upto_of, without_loss}
use Rattle.script_lang.specs.declared.script.Client.{Client}
use Rattle.trace_text.specs.declared.item.TraceItem.{TraceItem}
use Rattle.trace_text.specs.declared.item.TraceItem.TheVariants as trace
use Rattle.logged_steps.proofs.Histories.{history_on}
use Rattle.logged_steps.proofs.Telling.{append_nil}
use Rattle.logged_runs.specs.Laws.{IsStop}
use Rattle.logged_runs.specs.Starts.{only_life}
use Rattle.logged_runs.proofs.Staying.{AllStay, Stays, end_on, fence_on, no_lives, no_losses}

-- ---- the number of the last call

last_on : (n : ℕ) (xs ys : List TraceItem) → last_number 1 n (xs ++ ys) ≡ last_number 1 (last_number 1 n xs) ys
last_on n [] ys = refl
last_on n (trace.Call i name number call reply ∷ xs) ys = last_on (if i == 1 then number else n) xs ys
last_on n (x ∷ xs) ys = last_on n xs ys

-- ---- what may come behind the items of the life

-- in it no life begins, none is lost, and no call is answered
pub record IsItsEnd (clients : List Client) (end : List TraceItem) : Type 0 where
  pub lives : (p : ℕ) → lives_from p end ≡ []
  pub losses : losses_of 1 end ≡ 0
  pub silent : history_of clients end ≡ []
  pub numbers : (n : ℕ) → last_number 1 n end ≡ n

module _ (clients : List Client) (xs end : List TraceItem) (all : AllStay xs) (ends : IsItsEnd clients end) where
  abbrev pub whole : List TraceItem
  whole = trace.Join 1 ∷ (xs ++ end)

  pub its_part : items_of only_life whole ≡ xs ++ to_its_end 1 end
  its_part = end_on xs end all

  pub one_life : lives_of whole ≡ only_life ∷ []
  one_life = ap (λ ls. only_life ∷ ls) (no_lives 1 xs end all ∙ ends.lives (1 + length xs))

  pub none_lost : losses_of 1 whole ≡ 0
  none_lost = no_losses 1 xs end all ∙ ends.losses

  pub same_history : history_of clients whole ≡ history_of clients xs
  same_history = history_on clients xs end ∙ ap (λ (h : List Item). history_of clients xs ++ h) ends.silent ∙ append_nil (history_of clients xs)

  -- the last call has its number
  pub last_still : last_number 1 0 whole ≡ last_number 1 0 (trace.Join 1 ∷ xs)
  last_still = last_on 0 xs end ∙ ends.numbers (last_number 1 0 xs)

  -- a loss for the one life
  pub remains_are : (disks : DiskHeads) → remains clients disks whole ≡ history_of clients xs ++ item.Lost 1 (upto_of disks only_life whole) ∷ []
  remains_are disks = ap (λ (h : List Item). h ++ losses_for upto (without_loss lost (lives_of whole))) same_history ∙ ap (λ ls. history_of clients xs ++ losses_for upto ls) left
    where
      upto : Life → ℕ
      upto l = upto_of disks l whole

      lost : ℕ → ℕ
      lost i = losses_of i whole

      left : without_loss lost (lives_of whole) ≡ only_life ∷ []
      left = ap (without_loss lost) one_life ∙ cond-true (lost 1 == 0) (only_life ∷ []) [] (eq-eqb (lost 1) 0 none_lost)

  -- where it isn't fenced the head is that of the disk that is asked of
  pub head_now : (disks : DiskHeads) → ((p : ℕ) → fenced_behind 1 p end ≡ None) → head_of disks only_life whole ≡ disks.now 1
  head_now disks none = ap (λ o. head_behind o disks 1) (fence_on 1 1 xs end all ∙ none (1 + length xs))

-- ---- the stop

-- it ends the life, and says nothing else of lives, fences, losses and calls
pub record IsItsStop (clients : List Client) (x : TraceItem) : Type 0 where
  pub cut : (ys : List TraceItem) → to_its_end 1 (x ∷ ys) ≡ []
  pub fence : (n : ℕ) (ys : List TraceItem) → fenced_behind 1 n (x ∷ ys) ≡ fenced_behind 1 (suc n) ys
  pub lives : (p : ℕ) (ys : List TraceItem) → lives_from p (x ∷ ys) ≡ lives_from (suc p) ys
  pub losses : (ys : List TraceItem) → losses_of 1 (x ∷ ys) ≡ losses_of 1 ys
  pub silent : (ys : List TraceItem) → history_of clients (x ∷ ys) ≡ history_of clients ys
  pub numbers : (n : ℕ) (ys : List TraceItem) → last_number 1 n (x ∷ ys) ≡ last_number 1 n ys
  pub other : (node kept : ℕ) → trace.Lost node kept ≡ x → ⊥

cut_there : (node : ℕ) (xs : List TraceItem) → node ≡ 1 → (if node == 1 then [] else xs) ≡ []
cut_there node xs is = cond-true (node == 1) [] xs (eq-eqb node 1 is)

no_crash : (node kept i : ℕ) → trace.Lost node kept ≡ trace.Crash i → ⊥
no_crash node kept i e = cc

no_withdraw : (node kept i before after : ℕ) → trace.Lost node kept ≡ trace.Withdraw i before after → ⊥
no_withdraw node kept i before after e = cc

pub stops : (clients : List Client) (x : TraceItem) → IsStop x → IsItsStop clients x
stops clients (trace.Crash i) is = record {
  cut = λ ys. cut_there i (trace.Crash i ∷ to_its_end 1 ys) is;
  fence = λ n ys. refl;
  lives = λ p ys. refl;
  losses = λ ys. refl;
  silent = λ ys. refl;
  numbers = λ n ys. refl;
  other = λ node kept e. no_crash node kept i e;
}
stops clients (trace.Withdraw i before after) is = record {
  cut = λ ys. cut_there i (trace.Withdraw i before after ∷ to_its_end 1 ys) is;
  fence = λ n ys. refl;
  lives = λ p ys. refl;
  losses = λ ys. refl;
  silent = λ ys. refl;
  numbers = λ n ys. refl;
  other = λ node kept e. no_withdraw node kept i before after e;
}
stops clients x is = absurd is

-- ---- behind the fence

module _ (clients : List Client) (x : TraceItem) (stop : IsItsStop clients x) where
  pub stopped : IsItsEnd clients (x ∷ [])
  stopped = record { lives = λ p. stop.lives p []; losses = stop.losses []; silent = stop.silent []; numbers = λ n. stop.numbers n [] }

  abbrev fence : List TraceItem
  fence = x ∷ trace.Fence 1 ∷ []

  pub fenced_too : IsItsEnd clients fence
  fenced_too = record { lives = λ p. stop.lives p (trace.Fence 1 ∷ []); losses = stop.losses (trace.Fence 1 ∷ []); silent = stop.silent (trace.Fence 1 ∷ []); numbers = λ n. stop.numbers n (trace.Fence 1 ∷ []) }

  module _ (xs : List TraceItem) (all : AllStay xs) where
    pub head_fenced : (disks : DiskHeads) → head_of disks only_life (trace.Join 1 ∷ (xs ++ fence)) ≡ disks.behind 1 (length (trace.Join 1 ∷ (xs ++ fence)))
    head_fenced disks = ap (λ o. head_behind o disks 1) (fence_on 1 1 xs fence all ∙ stop.fence (1 + length xs) (trace.Fence 1 ∷ [])) ∙ ap (disks.behind 1) (let n = length-append xs fence in omega (arith, n))

    -- also with what comes behind the fence
    pub head_behind_fence : (disks : DiskHeads) (more : List TraceItem) → head_of disks only_life (trace.Join 1 ∷ (xs ++ x ∷ trace.Fence 1 ∷ more)) ≡ disks.behind 1 (length (trace.Join 1 ∷ (xs ++ fence)))
    head_behind_fence disks more =
        ap (λ o. head_behind o disks 1) (fence_on 1 1 xs (x ∷ trace.Fence 1 ∷ more) all ∙ stop.fence (1 + length xs) (trace.Fence 1 ∷ more)) ∙ ap (disks.behind 1) (let n = length-append xs fence in omega (arith, n))

    pub life_fenced : life_lost 1 (trace.Join 1 ∷ (xs ++ fence)) ≡ Some only_life
    life_fenced = (λ i. life_at 1 (none_lost clients xs fence all fenced_too i) (one_life clients xs fence all fenced_too i))

-- ---- the loss

-- the loss is the last of these items
pub record IsTheLoss (xs : List TraceItem) (k p node kept : ℕ) : Type 0 where
  pub at : p ≡ length xs + 2
  pub own : node ≡ 1
  pub same : kept ≡ k

pub no_loss : (x : TraceItem) (node kept : ℕ) → (trace.Lost node kept ≡ x → ⊥) → Some x ≡ Some (trace.Lost node kept) → ⊥
no_loss x node kept not e = not (let same : x ≡ trace.Lost node kept = some_same e in sym same)
  where
    some_same : {y z : TraceItem} → Some y ≡ Some z → y ≡ z
    some_same e = cc

lost_same : (k node kept : ℕ) → Some (trace.Lost 1 k) ≡ Some (trace.Lost node kept) → (node ≡ 1) × (kept ≡ k)
lost_same k node kept e = (cc, cc)

none_there : (x : TraceItem) → None ≡ Some x → ⊥
none_there x e = cc

module _ (clients : List Client) (stop_item : TraceItem) (stop : IsItsStop clients stop_item) where
  pub its_place : (xs : List TraceItem) (k p node kept : ℕ) → AllStay xs → slice_get (xs ++ stop_item ∷ trace.Fence 1 ∷ trace.Lost 1 k ∷ []) p ≡ Some (trace.Lost node kept) → IsTheLoss xs k p node kept
  its_place [] k zero node kept all e = absurd (no_loss stop_item node kept (stop.other node kept) e)
  its_place [] k (suc zero) node kept all e = absurd (no_loss (trace.Fence 1) node kept (λ same. absurd cc) e)
  its_place [] k (suc (suc zero)) node kept all e = (let is = lost_same k node kept e in record { at = refl; own = is.0; same = is.1 })
  its_place [] k (suc (suc (suc p))) node kept all e = absurd (none_there (trace.Lost node kept) e)
  its_place (x ∷ xs) k zero node kept all e = absurd (no_loss x node kept (λ same. subst Stays (sym same) all.0) e)
  its_place (x ∷ xs) k (suc p) node kept all e = (let is = its_place xs k p node kept all.1 e in record { at = (let at = is.at in omega (arith, at)); own = is.own; same = is.same })

-- ---- with the loss

-- the number is told by the head, the life's items, and the number of the last call of all
abbrev pub number_by : Option ℕ → DiskHeads → AcceptedHead → List TraceItem → ℕ → ℕ
number_by (Some upto) disks h its last = upto
number_by None disks h its last =
    if nat_lt (disks.behind 1 (or_else (recovered_behind 1 1 its) 0)).sequence h.sequence then (if h.is_clean then last else unnamed 1 (record { upto = 0; is_logged = false; last = 0 }) its) else 0

pub upto_parts : (o : Option ℕ) (disks : DiskHeads) (h : AcceptedHead) (items : List TraceItem) → upto_by o h disks only_life items ≡ number_by o disks h (items_of only_life items) (last_number 1 0 items)
upto_parts (Some upto) disks h items = refl
upto_parts None disks h items = refl

pub same_upto : (disks : DiskHeads) (xs ys : List TraceItem) → head_of disks only_life xs ≡ head_of disks only_life ys → items_of only_life xs ≡ items_of only_life ys → last_number 1 0 xs ≡ last_number 1 0 ys
    → upto_of disks only_life xs ≡ upto_of disks only_life ys
same_upto disks xs ys head its last =
    upto_parts (named 1 (head_of disks only_life xs) (items_of only_life xs)) disks (head_of disks only_life xs) xs
    ∙ (λ i. number_by (named 1 (head i) (its i)) disks (head i) (its i) (last i))
    ∙ sym (upto_parts (named 1 (head_of disks only_life ys) (items_of only_life ys)) disks (head_of disks only_life ys) ys)

module _ (clients : List Client) (x : TraceItem) (stop : IsItsStop clients x) (xs : List TraceItem) (all : AllStay xs) (k : ℕ) where
  abbrev lost : List TraceItem
  lost = trace.Join 1 ∷ (xs ++ x ∷ trace.Fence 1 ∷ trace.Lost 1 k ∷ [])

  abbrev fenced : List TraceItem
  fenced = trace.Join 1 ∷ (xs ++ x ∷ trace.Fence 1 ∷ [])

  pub lost_head : (disks : DiskHeads) → head_of disks only_life lost ≡ head_of disks only_life fenced
  lost_head disks = head_behind_fence clients x stop xs all disks (trace.Lost 1 k ∷ []) ∙ sym (head_behind_fence clients x stop xs all disks [])

  pub lost_upto : (disks : DiskHeads) → upto_of disks only_life lost ≡ upto_of disks only_life fenced
  lost_upto disks = same_upto disks lost fenced (lost_head disks)
      (end_on xs (x ∷ trace.Fence 1 ∷ trace.Lost 1 k ∷ []) all ∙ ap (λ is. xs ++ is) (stop.cut (trace.Fence 1 ∷ trace.Lost 1 k ∷ []) ∙ sym (stop.cut (trace.Fence 1 ∷ []))) ∙ sym (end_on xs (x ∷ trace.Fence 1 ∷ []) all))
      (last_on 0 xs (x ∷ trace.Fence 1 ∷ trace.Lost 1 k ∷ []) ∙ stop.numbers (last_number 1 0 xs) (trace.Fence 1 ∷ trace.Lost 1 k ∷ [])
      ∙ sym (stop.numbers (last_number 1 0 xs) (trace.Fence 1 ∷ [])) ∙ sym (last_on 0 xs (x ∷ trace.Fence 1 ∷ [])))

  -- its one life has its loss
  pub lost_remains : (disks : DiskHeads) → remains clients disks lost ≡ history_of clients lost
  lost_remains disks = ap (λ ls. history_of clients lost ++ losses_for upto ls) left ∙ append_nil (history_of clients lost)
    where
      upto : Life → ℕ
      upto l = upto_of disks l lost

      losses : ℕ → ℕ
      losses i = losses_of i lost

      one_life_lost : lives_of lost ≡ only_life ∷ []
      one_life_lost = ap (λ ls. only_life ∷ ls) (no_lives 1 xs (x ∷ trace.Fence 1 ∷ trace.Lost 1 k ∷ []) all ∙ stop.lives (1 + length xs) (trace.Fence 1 ∷ trace.Lost 1 k ∷ []))

      one : losses_of 1 lost ≡ 1
      one = no_losses 1 xs (x ∷ trace.Fence 1 ∷ trace.Lost 1 k ∷ []) all ∙ stop.losses (trace.Fence 1 ∷ trace.Lost 1 k ∷ [])

      left : without_loss losses (lives_of lost) ≡ []
      left = ap (without_loss losses) one_life_lost ∙ cond-false (losses 1 == 0) (only_life ∷ []) [] (ne_eqb (losses 1) 0 (λ e. let o = one in omega (arith, e, o)))
