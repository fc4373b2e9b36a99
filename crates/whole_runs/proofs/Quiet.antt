-- Items of a start, which have no call: what they tell stands where the image does.
use Rattle.std.proofs.Common.{◌≡◌, ℕ, zero, suc, Bool, true, false, List, [], ◌∷◌, ◌++◌, None, Some, refl, sym, ap, subst, ◌∙◌, arith}
use Rattle.std.specs.Prelude.{if◌then◌else◌, nat_lt, slice_get}
use Rattle.std.specs.List.{AllByRecursion}
use Rattle.cluster_history.specs.History.{AllAnswer, KeepsSynced, Legal, alive, tree_of}
use Rattle.cluster_history.specs.Losses.{LossIsRight}
use Rattle.cluster_history.specs.declared.Item.{Item}
use Rattle.cluster_history.specs.declared.Item.TheVariants as item
use Rattle.file_tree.specs.Tree.{Tree}
use Rattle.file_tree.specs.declared.call.Call.{Call}
use Rattle.file_tree.specs.declared.reply.Reply.{Reply}
use Rattle.image_model.specs.Image.{Image}
use Rattle.image_model.specs.Replays.{StandsReplayed}
use Rattle.logged_runs.specs.Laws.{IsStop, StandsLost}
use Rattle.logged_runs.specs.Standing.{StandsAsTold}
use Rattle.logged_runs.specs.Starts.{IsOfReplay, only_life}
use Rattle.logged_runs.proofs.KeptRight.{kept_right}
use Rattle.logged_runs.proofs.Losing.{IsItsEnd, IsItsStop, fenced_too, its_part, last_still, lost_remains, lost_upto, number_by, remains_are, same_history, stopped, stops, upto_parts}
use Rattle.logged_runs.proofs.Starting.{no_calls}
use Rattle.logged_runs.proofs.Staying.{AllStay, stay_replays}
use Rattle.logged_runs.proofs.Histories.{history_on}
use Rattle.logged_runs.proofs.Telling.{append_nil, take_all}
use Rattle.right_losses.proofs.Numbers.{no_call, none_there}
use Rattle.run_rules.specs.Follows.{history_of}
use Rattle.run_rules.specs.Lives.{AcceptedHead, DiskHeads, TraceKeptRight, head_of, items_of, last_number, named, or_else, recovered_behind, remains, to_its_end, unnamed, upto_of}
use Rattle.script_lang.specs.declared.script.Client.{Client}
use Rattle.trace_text.specs.declared.item.TraceItem.{TraceItem}
use Rattle.trace_text.specs.declared.item.TraceItem.TheVariants as trace

-- ---- histories without a call

-- a loss alone
lost_legal : (t : Tree) (k : ℕ) → Legal (item.Lost 1 k ∷ []) t
lost_legal t k zero low = tt
lost_legal t k (suc n) low = subst (λ is. AllAnswer (alive is) t) (sym (take_all n [] (omega arith))) tt

pub none_legal : (t : Tree) → Legal [] t
none_legal t n low = subst (λ is. AllAnswer (alive is) t) (sym (take_all n [] (omega arith))) tt

lost_synced : (k : ℕ) → KeepsSynced (item.Lost 1 k ∷ [])
lost_synced k zero q node client number kept less at lost = absurd (no_call 1 k node client number _ _ at)
lost_synced k (suc p) q node client number kept less at lost = absurd (none_there _ at)

-- ---- the number of a head is 0

module _ (disks : DiskHeads) where
  zero_number : (h : AcceptedHead) (its : List TraceItem) (last : ℕ) → last ≡ 0 → unnamed 1 (record { upto = 0; is_logged = false; last = 0 }) its ≡ 0 → number_by None disks h its last ≡ 0
  zero_number h its last last_is unnamed_is = by (nat_lt (disks.behind 1 (or_else (recovered_behind 1 1 its) 0)).sequence h.sequence) h.is_clean
    where
      by : (own clean : Bool) → (if own then (if clean then last else unnamed 1 (record { upto = 0; is_logged = false; last = 0 }) its) else 0) ≡ 0
      by true true = last_is
      by true false = unnamed_is
      by false clean = refl

  zero_upto : (items its : List TraceItem) → items_of only_life items ≡ its → named 1 (head_of disks only_life items) its ≡ None → last_number 1 0 items ≡ 0 → unnamed 1 (record { upto = 0; is_logged = false; last = 0 }) its ≡ 0
      → upto_of disks only_life items ≡ 0
  zero_upto items its are none last_is unnamed_is =
      upto_parts (named 1 (head_of disks only_life items) (items_of only_life items)) disks (head_of disks only_life items) items
      ∙ (λ i. number_by (named 1 (head_of disks only_life items) (are i)) disks (head_of disks only_life items) (are i) (last_number 1 0 items))
      ∙ ap (λ o. number_by o disks (head_of disks only_life items) its (last_number 1 0 items)) none
      ∙ zero_number (head_of disks only_life items) its (last_number 1 0 items) last_is unnamed_is

none_named : (h : AcceptedHead) (xs : List TraceItem) → AllByRecursion IsOfReplay xs → named 1 h xs ≡ None
none_named h [] all = refl
none_named h (trace.WriteHead i block sequence upto ∷ xs) all = absurd all.0
none_named h (trace.WriteClean i block sequence upto ∷ xs) all = absurd all.0
none_named h (x ∷ xs) all = none_named h xs all.1

none_unnamed : (xs : List TraceItem) → AllByRecursion IsOfReplay xs → unnamed 1 (record { upto = 0; is_logged = false; last = 0 }) xs ≡ 0
none_unnamed [] all = refl
none_unnamed (trace.Call i name number call reply ∷ xs) all = absurd all.0
none_unnamed (trace.WriteHead i block sequence upto ∷ xs) all = absurd all.0
none_unnamed (trace.WriteLog i block ∷ xs) all = absurd all.0
none_unnamed (x ∷ xs) all = none_unnamed xs all.1

none_last : (xs : List TraceItem) → AllByRecursion IsOfReplay xs → last_number 1 0 xs ≡ 0
none_last [] all = refl
none_last (trace.Call i name number call reply ∷ xs) all = absurd all.0
none_last (x ∷ xs) all = none_last xs all.1

-- ---- before the first item

pub nothing_stands : (clients : List Client) (disks : DiskHeads) (t : Tree) (left : Image) → StandsReplayed left t → StandsAsTold clients disks [] t left
nothing_stands clients disks t left stands = record {
  legal = none_legal t;
  stands = stands;
  synced = λ p q client other number earlier call reply sync called above below. absurd (none_there _ called);
  within = let zero_is = zero_upto disks [] [] refl refl refl refl in omega (arith, zero_is);
}

-- ---- from the join on

module _ (clients : List Client) (disks : DiskHeads) (t : Tree) (left : Image) (stands : StandsReplayed left t) (xs : List TraceItem) (all : AllByRecursion IsOfReplay xs) where
  stay : AllStay xs
  stay = stay_replays xs all

  module _ (end : List TraceItem) (ends : IsItsEnd clients end) (cut : to_its_end 1 end ≡ []) where
    abbrev whole : List TraceItem
    whole = trace.Join 1 ∷ (xs ++ end)

    no_history : history_of clients whole ≡ []
    no_history = same_history clients xs end stay ends ∙ no_calls clients xs all

    zero_is : upto_of disks only_life whole ≡ 0
    zero_is = zero_upto disks whole xs (its_part clients xs end stay ends ∙ ap (λ is. xs ++ is) cut ∙ append_nil xs) (none_named (head_of disks only_life whole) xs all)
        (last_still clients xs end stay ends ∙ none_last xs all) (none_unnamed xs all)

    remains_so : remains clients disks whole ≡ item.Lost 1 (upto_of disks only_life whole) ∷ []
    remains_so = remains_are clients xs end stay ends disks ∙ ap (λ (h : List Item). h ++ item.Lost 1 (upto_of disks only_life whole) ∷ []) (no_calls clients xs all)

    pub quiet_stands : StandsAsTold clients disks whole t left
    quiet_stands = record {
      legal = subst (λ is. Legal is t) (sym remains_so) (lost_legal t (upto_of disks only_life whole));
      stands = subst (λ is. StandsReplayed left (tree_of is t)) (sym remains_so) stands;
      synced = λ p q client other number earlier call reply sync called above below. absurd (none_there _ (ap (λ (is : List Item). slice_get is q) (sym no_history) ∙ called));
      within = let none = zero_is in omega (arith, none);
    }

  pub told_so : StandsAsTold clients disks (trace.Join 1 ∷ xs) t left
  told_so = subst (λ is. StandsAsTold clients disks is t left) (ap (λ is. trace.Join 1 ∷ is) (append_nil xs))
      (quiet_stands [] (record { lives = λ p. refl; losses = refl; silent = refl; numbers = λ n. refl }) refl)

  module _ (x : TraceItem) (is_stop : IsStop x) where
    stop : IsItsStop clients x
    stop = stops clients x is_stop

    pub stopped_so : StandsAsTold clients disks (trace.Join 1 ∷ (xs ++ x ∷ [])) t left
    stopped_so = quiet_stands (x ∷ []) (stopped clients x stop) (stop.cut [])

    pub fenced_so : StandsAsTold clients disks (trace.Join 1 ∷ (xs ++ x ∷ trace.Fence 1 ∷ [])) t left
    fenced_so = quiet_stands (x ∷ trace.Fence 1 ∷ []) (fenced_too clients x stop) (stop.cut (trace.Fence 1 ∷ []))

    -- ---- and with its loss

    abbrev lost : List TraceItem
    lost = trace.Join 1 ∷ (xs ++ x ∷ trace.Fence 1 ∷ trace.Lost 1 0 ∷ [])

    lost_history : history_of clients lost ≡ item.Lost 1 0 ∷ []
    lost_history =
        history_on clients xs (x ∷ trace.Fence 1 ∷ trace.Lost 1 0 ∷ []) ∙ ap (λ (h : List Item). h ++ history_of clients (x ∷ trace.Fence 1 ∷ trace.Lost 1 0 ∷ [])) (no_calls clients xs all)
        ∙ stop.silent (trace.Fence 1 ∷ trace.Lost 1 0 ∷ [])

    lost_zero : upto_of disks only_life lost ≡ 0
    lost_zero = lost_upto clients x stop xs stay 0 disks ∙ zero_is (x ∷ trace.Fence 1 ∷ []) (fenced_too clients x stop) (stop.cut (trace.Fence 1 ∷ []))

    legal_so : Legal (history_of clients lost) t
    legal_so = subst (λ is. Legal is t) (sym lost_history) (lost_legal t 0)

    stands_so : StandsReplayed left (tree_of (history_of clients lost) t)
    stands_so = subst (λ is. StandsReplayed left (tree_of is t)) (sym lost_history) stands

    none_left : remains clients disks lost ≡ history_of clients lost
    none_left = lost_remains clients x stop xs stay 0 disks

    -- no call is in it
    no_call_there : (q client number : ℕ) (call : Call) (reply : Reply) → slice_get (history_of clients lost) q ≡ Some (item.Call 1 client number call reply) → ⊥
    no_call_there q client number call reply called = by q (ap (λ (is : List Item). slice_get is q) (sym lost_history) ∙ called)
      where
        by : (q : ℕ) → slice_get (item.Lost 1 0 ∷ []) q ≡ Some (item.Call 1 client number call reply) → ⊥
        by zero at = no_call 1 0 1 client number call reply at
        by (suc q) at = none_there (item.Call 1 client number call reply) at

    -- nothing is lost
    right_so : TraceKeptRight clients disks.behind lost
    right_so = kept_right clients x stop xs stay 0 disks.behind (λ others same. subst (λ n. LossIsRight (history_of clients (trace.Join 1 ∷ (xs ++ x ∷ trace.Fence 1 ∷ []))) 1 n 0) (sym (number others)) by)
      where
        number : (others : DiskHeads) → upto_of others only_life (trace.Join 1 ∷ (xs ++ x ∷ trace.Fence 1 ∷ [])) ≡ 0
        number others = zero_upto others (trace.Join 1 ∷ (xs ++ x ∷ trace.Fence 1 ∷ [])) xs
            (its_part clients xs (x ∷ trace.Fence 1 ∷ []) stay (fenced_too clients x stop) ∙ ap (λ is. xs ++ is) (stop.cut (trace.Fence 1 ∷ [])) ∙ append_nil xs)
            (none_named (head_of others only_life (trace.Join 1 ∷ (xs ++ x ∷ trace.Fence 1 ∷ []))) xs all)
            (last_still clients xs (x ∷ trace.Fence 1 ∷ []) stay (fenced_too clients x stop) ∙ none_last xs all) (none_unnamed xs all)

        silent : history_of clients (trace.Join 1 ∷ (xs ++ x ∷ trace.Fence 1 ∷ [])) ≡ []
        silent = no_history (x ∷ trace.Fence 1 ∷ []) (fenced_too clients x stop) (stop.cut (trace.Fence 1 ∷ []))

        by : LossIsRight (history_of clients (trace.Join 1 ∷ (xs ++ x ∷ trace.Fence 1 ∷ []))) 1 0 0
        by = record {
          order = omega arith;
          below = omega arith;
          between = λ p client number call reply at above below. absurd (omega (arith, above, below));
          next = λ p client number call reply at is. absurd (none_there _ (ap (λ (is : List Item). slice_get is p) (sym silent) ∙ at));
        }

    pub lost_so : StandsLost clients disks x (trace.Join 1 ∷ xs) t left 0
    lost_so = record {
      all = none_left;
      legal = legal_so;
      kept = subst KeepsSynced (sym lost_history) (lost_synced 0);
      right = right_so;
      stands = stands_so;
      told = record {
        legal = subst (λ is. Legal is t) (sym none_left) legal_so;
        stands = subst (λ is. StandsReplayed left (tree_of is t)) (sym none_left) stands_so;
        synced = λ p q client other number earlier call reply sync called above below. absurd (no_call_there q other earlier call reply called);
        within = let none = lost_zero in omega (arith, none);
      };
    }
