-- What the machine has of a node alone with its log: the numbers of the heads that may be left, and its calls.
use Rattle.std.proofs.Common.{◌≡◌, ℕ, zero, suc, ◌<◌, ◌≤◌, Bool, true, false, List, [], ◌∷◌, Some, slice_get, sym, ap, subst, ◌∙◌, arith}
use Rattle.cluster_history.specs.Changes.{Changes}
use Rattle.cluster_history.specs.History.{IsNumbered, calls_of}
use Rattle.cluster_history.specs.declared.Item.TheVariants as item
use Rattle.cluster_laws.specs.History.{Called, Each, Gone, Item}
use Rattle.cluster_laws.specs.Log.{Calm}
use Rattle.cluster_laws.specs.World.{World}
use Rattle.file_tree.specs.declared.call.Call.{Call}
use Rattle.file_tree.specs.declared.call.Call.TheVariants as calls
use Rattle.file_tree.specs.declared.reply.Reply.{Reply}
use Rattle.file_tree.specs.declared.reply.Reply.TheVariants as replies
use Rattle.image_machine.specs.Volumes.{Volume, images_of}
use Rattle.image_model.proofs.Held.{none_some, some_same}
use Rattle.log_layout.specs.declared.log_header.LogHeader.{LogHeader}
use Rattle.logged_steps.specs.NodeEnds.{IsHeadAtEnd}
use Rattle.logged_steps.specs.NodeEnds.{IsHeadAtEnd as end}
use Rattle.logged_steps.specs.LoggedLaws.{IsHeadLeft}
use Rattle.logged_steps.specs.LoggedLaws.IsHeadLeft.{new, old}
use Rattle.logged_steps.specs.States.{IsLoggedNode, NodeState, trees_on}
use Rattle.lone_machine.specs.Alone.{Begun}
use Rattle.lone_machine.proofs.Going.{sound}
use Rattle.tree_histories.specs.Trees.{Told, TreeHeadline, history_of}
use Rattle.right_losses.proofs.Numbers.{HasCall, call_there}

-- ---- the calls of a history are those that were told

-- the call of this number is this one, and there are as many
pub record IsTold (published : ℕ → ℕ) (told : ℕ → ℕ → Told) (node number : ℕ) (call : Call) (reply : Reply) : Type 0 where
  pub low : number ≤ published node
  pub its_call : (told node number).call ≡ call
  pub its_reply : (told node number).reply ≡ reply

pub said_of : (v : Volume) (published : ℕ → ℕ) (told : ℕ → ℕ → Told) (items : List (Item (trees_on v))) → Each (trees_on v) (λ k. (k.number ≤ published k.node) × (k.said ≡ told k.node k.number)) items
    → (p node client number : ℕ) (call : Call) (reply : Reply) → slice_get (history_of (images_of v) items) p ≡ Some (item.Call node client number call reply) → IsTold published told node number call reply
said_of v published told [] each p node client number call reply e = absurd (none_some e)
said_of v published told (Gone i upto kept ∷ items) each zero node client number call reply e = absurd (lost_call (some_same e))
  where
    lost_call : item.Lost i kept ≡ item.Call node client number call reply → ⊥
    lost_call e = cc
said_of v published told (Called k ∷ items) each zero node client number call reply e = by (its (some_same e))
  where
    its : item.Call k.node k.said.client k.number k.said.call k.said.reply ≡ item.Call node client number call reply → (k.node ≡ node) × (k.number ≡ number) × (k.said.call ≡ call) × (k.said.reply ≡ reply)
    its e = (cc, cc, cc, cc)

    by : (k.node ≡ node) × (k.number ≡ number) × (k.said.call ≡ call) × (k.said.reply ≡ reply) → IsTold published told node number call reply
    by (at, its_number, its_call, its_reply) =
        let said : k.said ≡ told node number = each.0.1 ∙ (λ i. told (at i) (its_number i)) in
        record {
          low = subst (λ n. n ≤ published node) its_number (subst (λ n. k.number ≤ published n) at each.0.0);
          its_call = ap (λ (t : Told). t.call) (sym said) ∙ its_call;
          its_reply = ap (λ (t : Told). t.reply) (sym said) ∙ its_reply;
        }
said_of v published told (Gone i upto kept ∷ items) each (suc p) node client number call reply e = said_of v published told items each p node client number call reply e
said_of v published told (Called k ∷ items) each (suc p) node client number call reply e = said_of v published told items each.1 p node client number call reply e

-- no call changes anything that is behind this number and up to a sync that was answered Ok
abbrev pub SyncsThere : (v : Volume) → World (trees_on v) → ℕ → Type 0
SyncsThere v w n = (p q client other number earlier : ℕ) (call : Call) (reply : Reply)
    → slice_get (history_of (images_of v) w.items) p ≡ Some (item.Call 1 client number calls.Sync replies.Ok) → slice_get (history_of (images_of v) w.items) q ≡ Some (item.Call 1 other earlier call reply)
    → n < earlier → earlier ≤ number → Changes (record { call = call; reply = reply }) ≡ false

-- ---- of a node with its log

module _ (v : Volume) (s : Begun (trees_on v)) (w : World (trees_on v)) (d : ℕ) (st : NodeState) (is : IsLoggedNode v s w d st) where
  -- the number of a head that may be left is that of one of the machine's
  pub cut_is : (h : LogHeader) (n : ℕ) → IsHeadLeft st h n → (c : Bool) × ((w.disk.heads 1 c).cut ≡ n)
  cut_is h n (old low at) = (false, subst (λ i. (w.disk.heads i false).cut ≡ n) is.node ((sound (trees_on v) s w is.alone).mirror.alone s.node ∙ is.numbers.low ∙ sym low))
  cut_is h n (new f tail some stage begun at) = (true, subst (λ i. (w.disk.heads i true).cut ≡ n) is.node (is.heads.headed (f, tail, some, stage) ∙ sym begun))

  pub within : (h : LogHeader) (n : ℕ) → IsHeadLeft st h n → n ≤ st.numbers.answered
  within h n (old low at) = (let b = is.numbers.begun in omega (arith, low, b.0, b.1))
  within h n (new f tail some stage begun at) = (let b = is.numbers.begun in omega (arith, begun, b.1))

  -- what was synced is in it
  by_cut : TreeHeadline (images_of v) w → (c : Bool) (n : ℕ) → (w.disk.heads 1 c).cut ≡ n → SyncsThere v w n
  by_cut legal c n cut p q client other number earlier call reply sync at above below = legal.synced (λ i. c) p q 1 client other number earlier call reply sync at (subst (λ m. m < earlier) (sym cut) above) below

  pub syncs : TreeHeadline (images_of v) w → (h : LogHeader) (n : ℕ) → IsHeadLeft st h n → SyncsThere v w n
  syncs legal h n left = (let cut = cut_is h n left in by_cut legal cut.0 n cut.1)

  -- at the end too: no call is behind the number of the last one
  pub end_syncs : TreeHeadline (images_of v) w → (h : LogHeader) (n : ℕ) → IsHeadAtEnd st h n → SyncsThere v w n
  end_syncs legal h n (end.old low at) p q client other number earlier call reply sync called above below = syncs legal h n (old low at) p q client other number earlier call reply sync called above below
  end_syncs legal h n (end.last all at) p q client other number earlier call reply sync called above below =
      (let low = (said_of v w.book.published w.book.told w.items (sound (trees_on v) s w is.alone).heard q 1 other earlier call reply called).low in
      let most : w.book.published 1 ≡ st.numbers.answered = ap w.book.published (sym is.node) ∙ is.alone.told ∙ is.numbers.answered in
      absurd (omega (arith, low, most, all, above)))

  pub end_within : (h : LogHeader) (n : ℕ) → IsHeadAtEnd st h n → n ≤ st.numbers.answered
  end_within h n (end.old low at) = within h n (old low at)
  end_within h n (end.last all at) = omega (arith, all)

  -- ---- calls that change nothing

  module _ (numbered : IsNumbered (history_of (images_of v) w.items)) (lo hi : ℕ) (few : hi ≤ calls_of 1 (history_of (images_of v) w.items))
      (between : (p client number : ℕ) (call : Call) (reply : Reply) → slice_get (history_of (images_of v) w.items) p ≡ Some (item.Call 1 client number call reply) → lo < number → number ≤ hi
      → Changes (record { call = call; reply = reply }) ≡ false) where
    module _ (m : ℕ) (less : m < hi) where
      found : HasCall (history_of (images_of v) w.items) 1 m
      found = call_there (history_of (images_of v) w.items) 1 m (let f = few in omega (arith, less, f))

      number_is : found.its ≡ suc m
      number_is = numbered found.place 1 found.client found.its found.call found.reply found.there ∙ (let b = found.before in omega (arith, b))

      at : slice_get (history_of (images_of v) w.items) found.place ≡ Some (item.Call 1 found.client (suc m) found.call found.reply)
      at = found.there ∙ ap (λ n. Some (item.Call 1 found.client n found.call found.reply)) number_is

      told : IsTold w.book.published w.book.told 1 (suc m) found.call found.reply
      told = said_of v w.book.published w.book.told w.items (sound (trees_on v) s w is.alone).heard found.place 1 found.client (suc m) found.call found.reply at

      quiet : lo ≤ m → (trees_on v).Changes (w.book.told 1 (suc m)) ≡ false
      quiet above = (λ i. Changes (record { call = told.its_call i; reply = told.its_reply i })) ∙ between found.place found.client (suc m) found.call found.reply at (omega (arith, above)) (omega (arith, less))

      counted : suc m ≤ st.numbers.answered
      counted =
          let low = told.low in
          let all : w.book.published 1 ≡ st.numbers.answered = ap w.book.published (sym is.node) ∙ is.alone.told ∙ is.numbers.answered in
          omega (arith, low, all)

    pub calm : Calm (trees_on v) w.book s.node lo hi
    calm m above less = ap (λ i. (trees_on v).Changes (w.book.told i (suc m))) is.node ∙ quiet m less above

    pub all_answered : hi ≤ st.numbers.answered
    all_answered = by hi (omega arith)
      where
        by : (k : ℕ) → k ≤ hi → k ≤ st.numbers.answered
        by zero low = omega arith
        by (suc k) low = counted k (omega (arith, low))
