-- What is told of a fence.
use Rattle.std.proofs.Common.{◌≡◌, ◌∙◌, ℕ, List, [], ◌∷◌, ◌++◌, Option, refl, sym, ap, subst, subst₂, append_assoc}
use Rattle.std.specs.Prelude.{IsTrue}
use Rattle.cluster_history.specs.declared.Item.{Item}
use Rattle.cluster_history.specs.declared.Item.TheVariants as item
use Rattle.lost_calls.specs.Heads.{IsLeftBy, accepted, first_life}
use Rattle.lost_calls.specs.declared.heads.LeftHead.{LeftHead}
use Rattle.right_losses.specs.Kept.{kept_by}
use Rattle.run_rules.specs.Follows.{history_of, place_of}
use Rattle.run_rules.specs.Lives.{DiskHeads, upto_of}
use Rattle.script_lang.specs.declared.script.Client.{Client}
use Rattle.shared_disk.specs.Disk.{DiskState, Operation}
use Rattle.trace_text.specs.declared.item.TraceItem.{TraceItem}
use Rattle.trace_text.specs.declared.item.TraceItem.TheVariants as trace
use Rattle.lone_fences.specs.Fencing.{HasFenced, IsFenced, with_crash, with_fence}
use Rattle.lone_fences.specs.Heads.{head_on}

-- neither the crash nor the fence is part of the history
history_stays : (clients : List Client) (items : List TraceItem) → history_of clients (with_fence items) ≡ history_of clients items
history_stays clients [] = refl
history_stays clients (trace.Call node name number call reply ∷ items) = ap (λ (is : List Item). item.Call node (place_of clients name) number call reply ∷ is) (history_stays clients items)
history_stays clients (trace.Lost node kept ∷ items) = ap (λ (is : List Item). item.Lost node kept ∷ is) (history_stays clients items)
history_stays clients (x ∷ items) = history_stays clients items

-- The items come one behind the other; and behind the fence the disk is only read.
pub has_fenced : (items one two three : List TraceItem) (d d' d'' : DiskState) (list list' list'' : Option (List Operation)) (blocks : List ℕ) (begun : ℕ) (head : LeftHead) (upto kept : ℕ)
    → one ≡ with_crash items → two ≡ one ++ trace.Fence 1 ∷ [] → three ≡ two ++ trace.Lost 1 kept ∷ [] → IsFenced d list d' list' → d'' ≡ d' → list'' ≡ list' → (IsTrue d'.tells → accepted head ≡ head_on d' blocks)
    → ((disks : DiskHeads) → IsLeftBy disks two head begun → upto ≡ upto_of disks first_life two) → ((clients : List Client) → kept ≡ kept_by 1 upto (history_of clients two))
    → HasFenced d list items blocks begun d'' list'' three
has_fenced items one two three d d' d'' list list' list'' blocks begun head upto kept first second third fenced same same_list is_head has keeps = record {
  fenced = subst₂ (λ (s : DiskState) (l : Option (List Operation)). IsFenced d list s l) (sym same) (sym same_list) fenced;
  head = head;
  is_head = subst (λ (s : DiskState). IsTrue s.tells → accepted head ≡ head_on s blocks) (sym same) is_head;
  upto = upto;
  has = subst (λ (is : List TraceItem). (disks : DiskHeads) → IsLeftBy disks is head begun → upto ≡ upto_of disks first_life is) fence_told has;
  kept = kept;
  keeps = λ clients. keeps clients ∙ ap (λ (is : List TraceItem). kept_by 1 upto (history_of clients is)) fence_told ∙ ap (kept_by 1 upto) (history_stays clients items);
  told = third ∙ ap (λ (is : List TraceItem). is ++ trace.Lost 1 kept ∷ []) fence_told ∙ append_assoc items (trace.Crash 1 ∷ trace.Fence 1 ∷ []) (trace.Lost 1 kept ∷ []);
}
  where
    fence_told : two ≡ with_fence items
    fence_told = second ∙ ap (λ (is : List TraceItem). is ++ trace.Fence 1 ∷ []) first ∙ append_assoc items (trace.Crash 1 ∷ []) (trace.Fence 1 ∷ [])
