-- What is alive, as items.
use Rattle.std.proofs.Common.{ℕ, ◌≡◌, Bool, true, false, ◌&&◌, ◌||◌, List, [], ◌∷◌, ◌++◌, refl, sym, ap, ◌∙◌}
use Rattle.std.specs.Prelude.{◌==◌, nat_lt, if◌then◌else◌}
use Rattle.std.proofs.lemmas.Bool.{cond-true, cond-false}
use Rattle.file_tree.specs.declared.call.Call.{Call}
use Rattle.file_tree.specs.declared.reply.Reply.{Reply}
use Rattle.cluster_history.specs.declared.Item.{Item}
use Rattle.cluster_history.specs.declared.Item.TheVariants as item
use Rattle.cluster_history.specs.History.{Replied, alive, drops, any_drops}
use Rattle.cluster_history.specs.Losses.{living, replied, without_above, LivesOn}

or-assoc : (a b c : Bool) → ((a || b) || c) ≡ (a || (b || c))
or-assoc true b c = refl
or-assoc false b c = refl

or-false : (a : Bool) → (a || false) ≡ a
or-false true = refl
or-false false = refl

pub any_drops-append : (node number : ℕ) (xs ys : List Item) → any_drops node number (xs ++ ys) ≡ (any_drops node number xs || any_drops node number ys)
any_drops-append node number [] ys = refl
any_drops-append node number (x ∷ xs) ys =
    ap (λ z. drops node number x || z) (any_drops-append node number xs ys) ∙ sym (or-assoc (drops node number x) (any_drops node number xs) (any_drops node number ys))

pub alive-living : (is : List Item) → alive is ≡ replied (living is)
alive-living [] = refl
alive-living (item.Lost i kept ∷ is) = alive-living is
alive-living (item.Call i client n call reply ∷ is) = by (any_drops i n is) (alive-living is)
  where
    by : (b : Bool) → alive is ≡ replied (living is)
        → (if b then alive is else record { call = call; reply = reply } ∷ alive is) ≡ replied (if b then living is else item.Call i client n call reply ∷ living is)
    by true e = e
    by false e = ap (λ (rs : List Replied). record { call = call; reply = reply } ∷ rs) e

if-append : (b : Bool) (us vs ws : List Item) → (if b then (us ++ ws) else (vs ++ ws)) ≡ (if b then us else vs) ++ ws
if-append true us vs ws = refl
if-append false us vs ws = refl

living-call : (is : List Item) (node client number : ℕ) (call : Call) (reply : Reply)
    → living (is ++ item.Call node client number call reply ∷ []) ≡ living is ++ item.Call node client number call reply ∷ []
living-call [] node client number call reply = refl
living-call (item.Lost i kept ∷ is) node client number call reply = living-call is node client number call reply
living-call (item.Call i c n a r ∷ is) node client number call reply =
    ap (λ z. if z then living (is ++ new) else item.Call i c n a r ∷ living (is ++ new)) (any_drops-append i n is new ∙ or-false (any_drops i n is))
    ∙ ap (λ z. if any_drops i n is then z else item.Call i c n a r ∷ z) (living-call is node client number call reply)
    ∙ if-append (any_drops i n is) (living is) (item.Call i c n a r ∷ living is) new
  where
    new : List Item
    new = item.Call node client number call reply ∷ []

living-lost : (is : List Item) (node kept : ℕ) → living (is ++ item.Lost node kept ∷ []) ≡ without_above node kept (living is)
living-lost [] node kept = refl
living-lost (item.Lost i k ∷ is) node kept = living-lost is node kept
living-lost (item.Call i c n a r ∷ is) node kept =
    ap (λ z. if z then living (is ++ (item.Lost node kept ∷ [])) else item.Call i c n a r ∷ living (is ++ (item.Lost node kept ∷ [])))
    (any_drops-append i n is (item.Lost node kept ∷ []) ∙ ap (λ z. any_drops i n is || z) (or-false ((node == i) && nat_lt kept n)))
    ∙ ap (λ z. if (any_drops i n is || ((node == i) && nat_lt kept n)) then z else item.Call i c n a r ∷ z) (living-lost is node kept)
    ∙ either-way (any_drops i n is) ((node == i) && nat_lt kept n) refl
  where
    either-way : (b d : Bool) → ((node == i) && nat_lt kept n) ≡ d
        → (if (b || d) then without_above node kept (living is) else item.Call i c n a r ∷ without_above node kept (living is))
        ≡ without_above node kept (if b then living is else item.Call i c n a r ∷ living is)
    either-way true d e = refl
    either-way false true e = sym (cond-true _ _ _ e)
    either-way false false e = sym (cond-false _ _ _ e)

pub lives_on : LivesOn
lives_on = record { alive = alive-living; call = living-call; lost = living-lost }
