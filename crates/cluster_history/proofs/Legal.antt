-- A legal history without a loss goes on.
use Rattle.std.proofs.Common.{◌≡◌, ℕ, List, [], ◌∷◌, ◌++◌, length, inl, inr, refl, sym, ap, ◌∙◌, subst, arith, length-append, false}
use Rattle.std.proofs.lemmas.List.{take-append-le, take_all}
use Rattle.std.proofs.lemmas.Bool.{cases_lt}
use Rattle.file_tree.specs.Tree.{Tree}
use Rattle.file_tree.specs.Apply.{Answers}
use Rattle.file_tree.specs.declared.call.Call.{Call}
use Rattle.file_tree.specs.declared.reply.Reply.{Reply}
use Rattle.cluster_history.specs.declared.Item.{Item}
use Rattle.cluster_history.specs.declared.Item.TheVariants as item
use Rattle.cluster_history.specs.History.{Legal, AllAnswer, alive, any_drops, Replied, after, tree_after, tree_of, NoneLost, GoesOn}

abbrev pub replied : List Item → List Replied
replied [] = []
replied (item.Call i client n call reply ∷ is) = record { call = call; reply = reply } ∷ replied is
replied (item.Lost i kept ∷ is) = replied is

none_drops : (node number : ℕ) (is : List Item) → NoneLost is → any_drops node number is ≡ false
none_drops node number [] none = refl
none_drops node number (item.Call i client n call reply ∷ is) none = none_drops node number is none
none_drops node number (item.Lost i kept ∷ is) none = absurd none

pub alive-none_lost : (is : List Item) → NoneLost is → alive is ≡ replied is
alive-none_lost [] none = refl
alive-none_lost (item.Call i client n call reply ∷ is) none = rw (none_drops i n is none) (ap (λ (rs : List Replied). record { call = call; reply = reply } ∷ rs) (alive-none_lost is none))
alive-none_lost (item.Lost i kept ∷ is) none = absurd none

replied-append : (is js : List Item) → replied (is ++ js) ≡ replied is ++ replied js
replied-append [] js = refl
replied-append (item.Call i client n call reply ∷ is) js = ap (λ (rs : List Replied). record { call = call; reply = reply } ∷ rs) (replied-append is js)
replied-append (item.Lost i kept ∷ is) js = replied-append is js

pub NoneLost-append : (is js : List Item) → NoneLost is → NoneLost js → NoneLost (is ++ js)
NoneLost-append [] js p q = q
NoneLost-append (item.Call i client n call reply ∷ is) js p q = NoneLost-append is js p q
NoneLost-append (item.Lost i kept ∷ is) js p q = absurd p

AllAnswer-append : (rs ss : List Replied) (t : Tree) → AllAnswer rs t → AllAnswer ss (tree_after rs t) → AllAnswer (rs ++ ss) t
AllAnswer-append [] ss t p q = q
AllAnswer-append (r ∷ rs) ss t p q = (p.0, AllAnswer-append rs ss (after r t) p.1 q)

tree_after-append : (rs ss : List Replied) (t : Tree) → tree_after (rs ++ ss) t ≡ tree_after ss (tree_after rs t)
tree_after-append [] ss t = refl
tree_after-append (r ∷ rs) ss t = tree_after-append rs ss (after r t)

-- one more call, answered as the tree answers it
module _ (h : List Item) (t : Tree) (node client number : ℕ) (call : Call) (reply : Reply) (none : NoneLost h) (legal : Legal h t) where
  abbrev one : List Item
  one = item.Call node client number call reply ∷ []

  abbrev now : Replied
  now = record { call = call; reply = reply }

  abbrev Goal : List Item → Type 0
  Goal part = AllAnswer (alive part) t

  alive_all : alive (h ++ one) ≡ replied h ++ now ∷ []
  alive_all = alive-none_lost (h ++ one) (NoneLost-append h one none tt) ∙ replied-append h one

  before : AllAnswer (replied h) t
  before =
      let whole : AllAnswer (alive h) t = subst Goal (take_all (length h) h (omega arith)) (legal (length h) (omega arith)) in
      subst (λ rs. AllAnswer rs t) (alive-none_lost h none) whole

  at_end : Answers call (tree_of h t) reply (after now (tree_of h t)) → Goal (h ++ one)
  at_end answers =
      let here : Answers call (tree_after (replied h) t) reply (after now (tree_after (replied h) t)) =
      subst (λ rs. Answers call (tree_after rs t) reply (after now (tree_after rs t))) (alive-none_lost h none) answers in
      subst (λ rs. AllAnswer rs t) (sym alive_all) (AllAnswer-append (replied h) (now ∷ []) t before (here, tt))

  pub legal_call : Answers call (tree_of h t) reply (after now (tree_of h t)) → Legal (h ++ one) t
  legal_call answers n below = elim (cases_lt (length h) n) [
    | inl past ↦ subst Goal (sym (take_all n (h ++ one) (omega (arith, length-append h one)))) (at_end answers)
    | inr within ↦ subst Goal (sym (take-append-le n h one within)) (legal n within)
  ]

  pub tree_of_call : tree_of (h ++ one) t ≡ after now (tree_of h t)
  tree_of_call =
      ap (λ (rs : List Replied). tree_after rs t) alive_all ∙ tree_after-append (replied h) (now ∷ []) t
      ∙ ap (λ (rs : List Replied). after now (tree_after rs t)) (sym (alive-none_lost h none))

pub goes_on : GoesOn
goes_on history start node client number call reply none legal answers =
    (legal_call history start node client number call reply none legal answers, tree_of_call history start node client number call reply none legal)
