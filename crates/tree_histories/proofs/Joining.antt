-- The machine's history is a history of the cluster.
use Rattle.std.proofs.Common.{◌<◌, ℕ, zero, suc, ◌+◌, ◌≤◌, ◌≡◌, Bool, true, false, ◌&&◌, ◌||◌, Some, List, [], ◌∷◌, ◌++◌, length, take, refl, sym, ap, ◌∙◌, subst, arith}
use Rattle.std.specs.Prelude.{◌==◌, nat_lt, if◌then◌else◌, map, slice_get}
use Rattle.file_tree.specs.Tree.{Tree}
use Rattle.file_tree.specs.declared.call.Call.{Call}
use Rattle.file_tree.specs.declared.call.Call.TheVariants as calls
use Rattle.file_tree.specs.declared.reply.Reply.{Reply}
use Rattle.file_tree.specs.declared.reply.Reply.TheVariants as replies
use Rattle.cluster_history.specs.declared.Item.TheVariants as item
use Rattle.cluster_history.specs.declared.Item as its
use Rattle.cluster_history.specs.History.{Replied, after, alive, tree_of, tree_after, AllAnswer}
use Rattle.cluster_history.specs.History as history
use Rattle.cluster_history.specs.Changes as changes
use Rattle.cluster_history.specs.Losses as losses
use Rattle.cluster_history.proofs.Changing.{others_leave}
use Rattle.cluster_laws.specs.Files.{RightTo}
use Rattle.cluster_laws.specs.Book.{Kept, W}
use Rattle.cluster_laws.specs.History.{Item, Called, Gone, any_drops, living, saids, Legal, Stays, KeepsSynced, Each, calls_of, IsNumbered, KeptRight, LossIsRight, gones}
use Rattle.cluster_laws.specs.Contents.{places}
use Rattle.cluster_laws.specs.Laws.{head_cuts}
use Rattle.cluster_laws.proofs.Running.{sound_start, run_keeps, every_run}
use Rattle.cluster_laws.proofs.Remaining.{prefix_clause, at_the_end}
use Rattle.cluster_laws.proofs.Bridging.{free_cells}
use Rattle.cluster_events.proofs.Eventing.{events_are_steps, starts_together}
use Rattle.tree_histories.specs.Trees.{Told, replied, Images, rules_of, Trees, item_of, history_of, upto_at, HistoriesAgree, EveryTreeRun, EveryTreeCluster}

inside : {A : Type 0} {x y : A} → Some x ≡ Some y → x ≡ y
inside e = cc

module _ (I : Images) where
  abbrev Items : Type 0
  Items = List (Item (Trees I))

  -- ---- alive

  drops-same : (node number : ℕ) (is : Items) → history.any_drops node number (history_of I is) ≡ any_drops (Trees I) node number is
  drops-same node number [] = refl
  drops-same node number (Called k ∷ is) = drops-same node number is
  drops-same node number (Gone i upto kept ∷ is) = ap (λ z. ((i == node) && nat_lt kept number) || z) (drops-same node number is)

  alive-same : (is : Items) → alive (history_of I is) ≡ map replied (saids (Trees I) (living (Trees I) is))
  alive-same [] = refl
  alive-same (Gone i upto kept ∷ is) = alive-same is
  alive-same (Called k ∷ is) =
      ap (λ z. if z then alive (history_of I is) else (replied (k.said) ∷ alive (history_of I is))) (drops-same (k.node) (k.number) is)
      ∙ by (any_drops (Trees I) (k.node) (k.number) is) (alive-same is)
    where
      by : (b : Bool) → alive (history_of I is) ≡ map replied (saids (Trees I) (living (Trees I) is))
          → (if b then alive (history_of I is) else (replied (k.said) ∷ alive (history_of I is)))
          ≡ map replied (saids (Trees I) (if b then living (Trees I) is else (k ∷ living (Trees I) is)))
      by true e = e
      by false e = ap (λ z. replied (k.said) ∷ z) e

  -- ---- legal

  answers : (ss : List Told) (t u : Tree) → RightTo (Trees I) ss t u → AllAnswer (map replied ss) t
  answers [] t u h = tt
  answers (s ∷ ss) t u h = (h.0, answers ss (after (replied s) t) u (h.1))

  ends : (ss : List Told) (t u : Tree) → RightTo (Trees I) ss t u → u ≡ tree_after (map replied ss) t
  ends [] t u h = sym h
  ends (s ∷ ss) t u h = ends ss (after (replied s) t) u (h.1)

  take-history : (n : ℕ) (is : Items) → take n (history_of I is) ≡ history_of I (take n is)
  take-history zero is = refl
  take-history (suc n) [] = refl
  take-history (suc n) (x ∷ is) = ap (λ z. item_of I x ∷ z) (take-history n is)

  length-history : (is : Items) → length (history_of I is) ≡ length is
  length-history [] = refl
  length-history (x ∷ is) = ap suc (length-history is)

  legal-same : (is : Items) (t : Tree) → Legal (Trees I) is t → history.Legal (history_of I is) t
  legal-same is t legal n below =
      let h = legal n (subst (λ z. n ≤ z) (length-history is) below) in
      subst (λ z. AllAnswer (alive z) t) (sym (take-history n is))
      (subst (λ z. AllAnswer z t) (sym (alive-same (take n is))) (answers (saids (Trees I) (living (Trees I) (take n is))) t (h.0) (h.1)))

  tree-same : (is : Items) (t u : Tree) → RightTo (Trees I) (saids (Trees I) (living (Trees I) is)) t u → u ≡ tree_of (history_of I is) t
  tree-same is t u h = ends (saids (Trees I) (living (Trees I) is)) t u h ∙ ap (λ z. tree_after z t) (sym (alive-same is))

  -- ---- places of items

  found : (is : Items) (p : ℕ) (it : its.Item) → slice_get (history_of I is) p ≡ Some it → (x : Item (Trees I)) × (after : Items) × (is ≡ take p is ++ (x ∷ after)) × (item_of I x ≡ it)
  found [] p it e = absurd cc
  found (x ∷ is) zero it e = (x, is, refl, inside e)
  found (x ∷ is) (suc p) it e = let f = found is p it e in (f.0, f.1, ap (λ z. x ∷ z) (f.2), f.3)

  calls-same : (node : ℕ) (is : Items) → history.calls_of node (history_of I is) ≡ calls_of (Trees I) node is
  calls-same node [] = refl
  calls-same node (Gone i upto kept ∷ is) = calls-same node is
  calls-same node (Called k ∷ is) = by (k.node == node) (history.calls_of node (history_of I is)) (calls_of (Trees I) node is) (calls-same node is)
    where
      by : (b : Bool) (m n : ℕ) → m ≡ n → (if b then 1 else 0) + m ≡ (if b then suc n else n)
      by true m n e = omega (arith, e)
      by false m n e = omega (arith, e)

  -- ---- fields of items

  abbrev node_in : its.Item → ℕ
  node_in (item.Call i client n call reply) = i
  node_in (item.Lost i kept) = i

  abbrev number_in : its.Item → ℕ
  number_in (item.Call i client n call reply) = n
  number_in (item.Lost i kept) = kept

  abbrev call_in : its.Item → Call
  call_in (item.Call i client n call reply) = call
  call_in (item.Lost i kept) = calls.Sync

  abbrev reply_in : its.Item → Reply
  reply_in (item.Call i client n call reply) = reply
  reply_in (item.Lost i kept) = replies.Ok

  abbrev is_call : its.Item → Bool
  is_call (item.Call i client n call reply) = true
  is_call (item.Lost i kept) = false

  true-false : true ≡ false → ⊥
  true-false e = cc

  numbered-same : (is : Items) → IsNumbered (Trees I) is → history.IsNumbered (history_of I is)
  numbered-same is numbered p node client number call reply e = let f = found is p _ e in by (f.0) (f.1) (f.2) (f.3)
    where
      by : (x : Item (Trees I)) (after : Items) → is ≡ take p is ++ (x ∷ after) → item_of I x ≡ item.Call node client number call reply
          → number ≡ history.calls_of node (take p (history_of I is)) + 1
      by (Gone i upto kept) after whole same = absurd (true-false (sym (ap is_call same)))
      by (Called k) after whole same =
          let n = numbered (take p is) after k whole in
          let c : history.calls_of node (take p (history_of I is)) ≡ calls_of (Trees I) (k.node) (take p is) =
          ap (history.calls_of node) (take-history p is) ∙ calls-same node (take p is) ∙ ap (λ z. calls_of (Trees I) z (take p is)) (sym (ap node_in same)) in
          let m : k.number ≡ number = ap number_in same in omega (arith, n, c, m)

  -- ---- syncs

  stays-get : (k : Kept (Trees I)) (is : Items) (q node kept : ℕ) → Stays (Trees I) k is → slice_get (history_of I is) q ≡ Some (item.Lost node kept) → node ≡ k.node → k.number ≤ kept
  stays-get k [] q node kept h e same = absurd cc
  stays-get k (Called a ∷ is) zero node kept h e same = absurd (true-false (ap is_call (inside e)))
  stays-get k (Gone i upto m ∷ is) zero node kept h e same =
      let at : i ≡ node = ap node_in (inside e) in let n : m ≡ kept = ap number_in (inside e) in
      subst (λ z. k.number ≤ z) n (h.0 (at ∙ same))
  stays-get k (Called a ∷ is) (suc q) node kept h e same = stays-get k is q node kept h e same
  stays-get k (Gone i upto m ∷ is) (suc q) node kept h e same = stays-get k is q node kept (h.1) e same

  synced-same : (is : Items) → KeepsSynced (Trees I) is → history.KeepsSynced (history_of I is)
  synced-same [] keeps p q node client number kept before sync gone = absurd cc
  synced-same (Gone i upto m ∷ is) keeps zero q node client number kept before sync gone = absurd (true-false (sym (ap is_call (inside sync))))
  synced-same (Gone i upto m ∷ is) keeps (suc p) zero node client number kept before sync gone = absurd (omega arith)
  synced-same (Gone i upto m ∷ is) keeps (suc p) (suc q) node client number kept before sync gone = synced-same is keeps p q node client number kept (omega arith) sync gone
  synced-same (Called k ∷ is) keeps zero zero node client number kept before sync gone = absurd (omega arith)
  synced-same (Called k ∷ is) keeps zero (suc q) node client number kept before sync gone =
      let same : k.node ≡ node = ap node_in (inside sync) in
      let n : k.number ≡ number = ap number_in (inside sync) in
      subst (λ z. z ≤ kept) n (stays-get k is q node kept (keeps.0 (ap call_in (inside sync), ap reply_in (inside sync))) gone (sym same))
  synced-same (Called k ∷ is) keeps (suc p) zero node client number kept before sync gone = absurd (omega arith)
  synced-same (Called k ∷ is) keeps (suc p) (suc q) node client number kept before sync gone = synced-same is (keeps.1) p q node client number kept (omega arith) sync gone

  -- ---- losses

  each-get : (P : Kept (Trees I) → Type 0) (is : Items) (p node client number : ℕ) (call : Call) (reply : Reply) → Each (Trees I) P is
      → slice_get (history_of I is) p ≡ Some (item.Call node client number call reply)
      → (k : Kept (Trees I)) × P k × (item_of I (Called k) ≡ item.Call node client number call reply)
  each-get P [] p node client number call reply h e = absurd cc
  each-get P (Called k ∷ is) zero node client number call reply h e = (k, h.0, inside e)
  each-get P (Gone i upto kept ∷ is) zero node client number call reply h e = absurd (true-false (sym (ap is_call (inside e))))
  each-get P (Called k ∷ is) (suc p) node client number call reply h e = each-get P is p node client number call reply (h.1) e
  each-get P (Gone i upto kept ∷ is) (suc p) node client number call reply h e = each-get P is p node client number call reply h e

  -- what a history says of each of its calls
  each-all : (cut : ℕ → ℕ) (is : Items)
      → ((p node client number : ℕ) (call : Call) (reply : Reply) → slice_get (history_of I is) p ≡ Some (item.Call node client number call reply) → cut node < number
      → changes.Changes (record { call = call; reply = reply }) ≡ false)
      → Each (Trees I) (λ k. cut (k.node) < k.number → changes.Changes (replied (k.said)) ≡ false) is
  each-all cut [] all = tt
  each-all cut (Called k ∷ is) all = (
    all 0 (k.node) (k.said.client) (k.number) (k.said.call) (k.said.reply) refl,
    each-all cut is (λ p node client number call reply e. all (suc p) node client number call reply e),
  )
  each-all cut (Gone i upto kept ∷ is) all = each-all cut is (λ p node client number call reply e. all (suc p) node client number call reply e)

  abbrev the_upto : Item (Trees I) → ℕ
  the_upto (Called k) = 0
  the_upto (Gone i upto kept) = upto

  abbrev is_called : Item (Trees I) → Bool
  is_called (Called k) = true
  is_called (Gone i upto kept) = false

  upto-at : (is : Items) (p i upto kept : ℕ) → slice_get is p ≡ Some (Gone i upto kept) → upto_at I is p ≡ upto
  upto-at [] p i upto kept e = absurd cc
  upto-at (Called k ∷ is) zero i upto kept e = absurd (true-false (ap is_called (inside e)))
  upto-at (Gone j u m ∷ is) zero i upto kept e = ap the_upto (inside e)
  upto-at (Called k ∷ is) (suc p) i upto kept e = upto-at is p i upto kept e
  upto-at (Gone j u m ∷ is) (suc p) i upto kept e = upto-at is p i upto kept e

  found-item : (is : Items) (p : ℕ) (it : its.Item) → slice_get (history_of I is) p ≡ Some it → (x : Item (Trees I)) × (slice_get is p ≡ Some x) × (item_of I x ≡ it)
  found-item [] p it e = absurd cc
  found-item (x ∷ is) zero it e = (x, refl, inside e)
  found-item (x ∷ is) (suc p) it e = found-item is p it e

  parted : (is : Items) (p : ℕ) (x : Item (Trees I)) → slice_get is p ≡ Some x → (after : Items) × (is ≡ take p is ++ (x ∷ after))
  parted [] p x e = absurd cc
  parted (y ∷ is) zero x e = (is, ap (λ z. z ∷ is) (inside e))
  parted (y ∷ is) (suc p) x e = let r = parted is p x e in (r.0, ap (λ z. y ∷ z) (r.1))

  kept_right-same : (is : Items) → KeptRight (Trees I) is → losses.KeptRight (upto_at I is) (history_of I is)
  kept_right-same is right p node kept e = let f = found-item is p _ e in by (f.0) (f.1) (f.2)
    where
      of : (before : Items) (upto : ℕ) → LossIsRight (Trees I) before node upto kept → losses.LossIsRight (history_of I before) node upto kept
      of before upto l = record {
        order = l.order;
        below = subst (λ z. kept ≤ z) (sym (calls-same node before)) (l.below);
        between = λ q client number call reply at low high. (
            let g = each-get _ before q node client number call reply (l.between) at in
            let n : (g.0).number ≡ number = ap number_in (g.2) in
            let c : changes.Changes (replied ((g.0).said)) ≡ changes.Changes (record { call = call; reply = reply }) = ap (λ z. changes.Changes (record { call = call_in z; reply = reply_in z })) (g.2) in
            sym c ∙ g.1 (ap node_in (g.2)) (omega (arith, n)) (omega (arith, n)));
        next = λ q client number call reply at same. (
            let g = each-get _ before q node client number call reply (l.next) at in
            let n : (g.0).number ≡ number = ap number_in (g.2) in
            let c : changes.Changes (replied ((g.0).said)) ≡ changes.Changes (record { call = call; reply = reply }) = ap (λ z. changes.Changes (record { call = call_in z; reply = reply_in z })) (g.2) in
            sym c ∙ g.1 (ap node_in (g.2)) (omega (arith, n, same)));
      }

      by : (x : Item (Trees I)) → slice_get is p ≡ Some x → item_of I x ≡ item.Lost node kept → losses.LossIsRight (take p (history_of I is)) node (upto_at I is p) kept
      by (Called k) got same = absurd (true-false (ap is_call same))
      by (Gone i upto m) got same =
          let r = parted is p (Gone i upto m) got in
          let right0 : LossIsRight (Trees I) (take p is) i upto m = right (take p is) (r.0) i upto m (r.1) in
          let u : upto_at I is p ≡ upto = upto-at is p i upto m got in
          let en : i ≡ node = ap node_in same in
          let ek : m ≡ kept = ap number_in same in
          let right1 : LossIsRight (Trees I) (take p is) node (upto_at I is p) kept =
          subst (λ z. LossIsRight (Trees I) (take p is) node z kept) (sym u)
          (subst (λ z. LossIsRight (Trees I) (take p is) node upto z) ek (subst (λ z. LossIsRight (Trees I) (take p is) z upto m) en right0)) in
          subst (λ z. losses.LossIsRight z node (upto_at I is p) kept) (sym (take-history p is)) (of (take p is) (upto_at I is p) right1)

  pub agree : HistoriesAgree I
  agree = record {
    alive = alive-same;
    legal = legal-same;
    keeps_synced = synced-same;
    numbered = numbered-same;
    kept_right = kept_right-same;
    tree = tree-same;
    others_leave = λ s t answers same. others_leave (s.call) (s.reply) t (after (replied s) t) answers same;
  }

  pub every_tree_run : EveryTreeRun I
  every_tree_run u w begins run =
      let h = every_run (Trees I) u w begins run in
      let s = run_keeps (Trees I) u w run (sound_start (Trees I) u begins) in
      record {
        legal = legal-same (w.items) ((w.book).start) (h.legal);
        keeps_synced = synced-same (w.items) (h.keeps_synced);
        numbered = numbered-same (w.items) (h.numbered);
        kept_right = kept_right-same (w.items) (h.kept_right);
        synced = λ choice p q node client other number earlier call reply sync before above within. (
            let g = each-get _ (w.items) p node client number calls.Sync replies.Ok (h.synced choice) sync in
            let k = each-get _ (w.items) q node other earlier call reply (g.1 (ap call_in (g.2), ap reply_in (g.2))) before in
            let n : (g.0).number ≡ number = ap number_in (g.2) in
            let i : (g.0).node ≡ node = ap node_in (g.2) in
            let m : (k.0).number ≡ earlier = ap number_in (k.2) in
            let j : (k.0).node ≡ node = ap node_in (k.2) in
            let c : changes.Changes (replied ((k.0).said)) ≡ changes.Changes (record { call = call; reply = reply }) = ap (λ z. changes.Changes (record { call = call_in z; reply = reply_in z })) (k.2) in
            let low : head_cuts (Trees I) (w.disk) choice ((g.0).node) < (k.0).number = subst (λ z. head_cuts (Trees I) (w.disk) choice z < (k.0).number) (sym i) (omega (arith, m, above)) in
            sym c ∙ k.1 (j ∙ sym i) low (omega (arith, m, n, within)));
        remains = λ free rings choice x r full ls outcome replay good near lives. (
            let p = prefix_clause (Trees I) w choice x r ls s (free_cells (rules_of I) free) outcome replay lives in
            let q = p.1 in (
              legal-same (w.items ++ gones (Trees I) ls) ((w.book).start) (p.0),
              subst (λ t. I.StandsFor full (places (W (Trees I) (w.book) (head_cuts (Trees I) (w.disk) choice))) t)
                  (tree-same (w.items ++ gones (Trees I) ls) ((w.book).start) (q.0) (q.2))
                  (rings r full (places (W (Trees I) (w.book) (head_cuts (Trees I) (w.disk) choice))) (q.0) (q.1) good near),
            ));
        at_the_end = λ free rings choice x r full flushed outcome replay good near. (
            let q = at_the_end (Trees I) w choice x r s (free_cells (rules_of I) free) (each-all (head_cuts (Trees I) (w.disk) choice) (w.items) flushed) outcome replay in
            subst (λ t. I.StandsFor full (places (W (Trees I) (w.book) ((w.book).published))) t)
            (tree-same (w.items) ((w.book).start) (q.0) (q.2))
            (rings r full (places (W (Trees I) (w.book) ((w.book).published))) (q.0) (q.1) good near));
      }

  pub every_tree_cluster : EveryTreeCluster I
  every_tree_cluster a c starts events =
      every_tree_run (a.world) (c.world) (starts.world) (events_are_steps (Trees I) a c events (starts_together (Trees I) a starts))
