-- A right loss keeps what was synced.
use Rattle.std.proofs.Common.{◌≡◌, ℕ, zero, suc, ◌+◌, ◌<◌, ◌≤◌, true, false, List, [], ◌∷◌, ◌++◌, length, Some, refl, sym, subst, ◌∙◌, arith, inl, inr}
use Rattle.std.specs.Prelude.{slice_get}
use Rattle.std.proofs.lemmas.Bool.{cases_lt}
use Rattle.cluster_history.specs.History.{IsNumbered}
use Rattle.cluster_history.specs.Losses.{LossIsRight}
use Rattle.cluster_history.specs.declared.Item.{Item}
use Rattle.cluster_history.specs.declared.Item.TheVariants as item
use Rattle.file_tree.specs.declared.call.Call.{Call}
use Rattle.file_tree.specs.declared.call.Call.TheVariants as calls
use Rattle.file_tree.specs.declared.reply.Reply.{Reply}
use Rattle.file_tree.specs.declared.reply.Reply.TheVariants as replies
use Rattle.right_losses.specs.Laws.{RightLossesKeepSyncs, SyncsAreIn}
use Rattle.right_losses.proofs.Numbers.{call_there, none_there, number_low}

-- ---- one item more

-- what is there behind one more item was there, or is that item, in its place
data IsThere (xs : List Item) (x : Item) (p : ℕ) (y : Item) : Type 0 where
  before : p < length xs → slice_get xs p ≡ Some y → IsThere xs x p y
  last : p ≡ length xs → x ≡ y → IsThere xs x p y

there : (xs : List Item) (x : Item) (p : ℕ) (y : Item) → slice_get (xs ++ x ∷ []) p ≡ Some y → IsThere xs x p y
there [] x zero y at = last refl (some_same at)
  where
    some_same : Some x ≡ Some y → x ≡ y
    some_same e = cc
there [] x (suc p) y at = absurd (none_there y at)
there (z ∷ xs) x zero y at = before (omega arith) at
there (z ∷ xs) x (suc p) y at = by (there xs x p y at)
  where
    by : IsThere xs x p y → IsThere (z ∷ xs) x (suc p) y
    by (before low is) = before (omega (arith, low)) is
    by (last same is) = last (omega (arith, same)) is

-- a call before a loss
pub call_before_loss : (xs : List Item) (node kept p i client number : ℕ) (call : Call) (reply : Reply) → slice_get (xs ++ item.Lost node kept ∷ []) p ≡ Some (item.Call i client number call reply)
    → slice_get xs p ≡ Some (item.Call i client number call reply)
call_before_loss xs node kept p i client number call reply at = by (there xs (item.Lost node kept) p (item.Call i client number call reply) at)
  where
    by : IsThere xs (item.Lost node kept) p (item.Call i client number call reply) → slice_get xs p ≡ Some (item.Call i client number call reply)
    by (before low is) = is
    by (last same one) = absurd (no_loss one)
      where
        no_loss : item.Lost node kept ≡ item.Call i client number call reply → ⊥
        no_loss e = cc

no_sync : (node kept i client number : ℕ) → item.Lost node kept ≡ item.Call i client number calls.Sync replies.Ok → ⊥
no_sync node kept i client number e = cc

lost_same : (node kept i k : ℕ) → item.Lost node kept ≡ item.Lost i k → (node ≡ i) × (kept ≡ k)
lost_same node kept i k e = (cc, cc)

no_bool : true ≡ false → ⊥
no_bool e = cc

-- ---- the law

module _ (history : List Item) (node upto kept : ℕ) (numbered : IsNumbered history) (syncs : SyncsAreIn history node upto) (right : LossIsRight history node upto kept) where
  -- no sync of the node is above what is kept: the first call above would have changed something, and may not have
  kept_so : (p client number : ℕ) → slice_get history p ≡ Some (item.Call node client number calls.Sync replies.Ok) → number ≤ kept
  kept_so p client number at = elim (cases_lt kept number) [
    | inr low ↦ low
    | inl high ↦
        let all = number_low history numbered node p client number calls.Sync replies.Ok at in
        let it = call_there history node kept (omega (arith, high, all.1)) in
        let its : it.its ≡ kept + 1 = numbered it.place node it.client it.its it.call it.reply it.there ∙ (let b = it.before in omega (arith, b)) in
        let quiet = syncs p it.place client it.client number it.its it.call it.reply at it.there (let o = right.order in omega (arith, its, o)) (omega (arith, its, high)) in
        absurd (no_bool (sym (right.next it.place it.client it.its it.call it.reply it.there its) ∙ quiet))
  ]

pub right_losses_keep_syncs : RightLossesKeepSyncs
right_losses_keep_syncs history node upto kept numbered keeps syncs right p q i client number k low at lost =
    by (there history (item.Lost node kept) p (item.Call i client number calls.Sync replies.Ok) at) (there history (item.Lost node kept) q (item.Lost i k) lost)
  where
    by : IsThere history (item.Lost node kept) p (item.Call i client number calls.Sync replies.Ok) → IsThere history (item.Lost node kept) q (item.Lost i k) → number ≤ k
    by (last same is_sync) second = absurd (no_sync node kept i client number is_sync)
    by (before less is) (before less' is') = keeps p q i client number k low is is'
    by (before less is) (last same one) =
        let its = lost_same node kept i k one in
        subst (λ n. number ≤ n) its.1 (kept_so history node upto kept numbered syncs right p client number (subst (λ n. slice_get history p ≡ Some (item.Call n client number calls.Sync replies.Ok)) (sym its.0) is))
