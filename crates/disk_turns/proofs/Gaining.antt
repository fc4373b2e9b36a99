-- The list of a disk's operations, which grows by writes and barriers.
use Rattle.std.proofs.Common.{◌≡◌, ℕ, suc, ◌+◌, ◌<◌, List, [], ◌∷◌, ◌++◌, length, take, get_or, Option, None, Some, sym, ap, ◌∙◌, subst, arith, append_assoc}
use Rattle.std.proofs.lemmas.List.{append-nil, map_push}
use Rattle.std.proofs.Math.Seq.{take-suc}
use Rattle.drafts.specs.declared.change.Written.{Written}
use Rattle.shared_disk.specs.Disk.{Operation, Write, Gains}
use Rattle.disk_turns.specs.Turns.{writes_of}

pub gains_join : (a b c : Option (List Operation)) (xs ys : List Operation) → Gains a b xs → Gains b c ys → Gains a c (xs ++ ys)
gains_join a b None xs ys first second = tt
gains_join a None (Some cs) xs ys first second = elim second [ ]
gains_join None (Some bs) (Some cs) xs ys first second = elim first [ ]
gains_join (Some as') (Some bs) (Some cs) xs ys first second = second ∙ ap (λ b. b ++ ys) first ∙ append_assoc as' xs ys

pub gains_none : (a : Option (List Operation)) → Gains a a []
gains_none None = tt
gains_none (Some ops) = sym (append-nil ops)

-- one more block is written
pub writes_more : (node : ℕ) (ws : List Written) (i : ℕ) (w e : Written) → i < length ws → w ≡ get_or ws i e → writes_of node (take i ws) ++ Write node w.block w.bytes ∷ [] ≡ writes_of node (take (i + 1) ws)
writes_more node ws i w e low is =
    sym (map_push (λ (v : Written). Write node v.block v.bytes) (take i ws) w)
    ∙ ap (writes_of node) (ap (λ (v : Written). take i ws ++ v ∷ []) is ∙ sym (take-suc ws i e low) ∙ ap (λ k. take k ws) next_is)
  where
    next_is : suc i ≡ i + 1
    next_is = omega arith

pub gains_write : (node : ℕ) (a b c : Option (List Operation)) (ws : List Written) (i : ℕ) (w e : Written) (bytes : List ℕ) → i < length ws → w ≡ get_or ws i e → bytes ≡ w.bytes
    → Gains a b (writes_of node (take i ws)) → Gains b c (Write node w.block bytes ∷ []) → Gains a c (writes_of node (take (i + 1) ws))
gains_write node a b c ws i w e bytes low is same first second =
    subst (Gains a c) (writes_more node ws i w e low is)
    (gains_join a b c (writes_of node (take i ws)) (Write node w.block w.bytes ∷ []) first (subst (λ x. Gains b c (Write node w.block x ∷ [])) same second))
