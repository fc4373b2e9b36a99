-- Changes of a draft, one after another.
use Rattle.std.proofs.Common.{◌≡◌, inl, inr, ℕ, List, Contains, subst, ap, sym}
use Rattle.std.specs.FinMap.{FinMap, insert}
use Rattle.std.specs.Ordering.{nat_cmp}
use Rattle.drafts.specs.Fates.{Drafted, seen_with}
use Rattle.drafts.specs.declared.fate.Fate.{Fate}
use Rattle.glock_names.specs.Views.{Seen}
use Rattle.growth_drafts.specs.Touched.{Follows, IsReached, as_it_was, one_more}

module _ (v : Seen) (inode : ℕ) (room : List ℕ) where
  pub follows_then : (old mid new : FinMap nat_cmp Fate) → Follows v inode room old mid → Follows v inode room mid new → Follows v inode room old new
  follows_then old _ _ first (as_it_was fates) = first
  follows_then old _ _ first (one_more mid between new b fate second third reached) = one_more old between new b fate (follows_then old mid between first second) third reached

  pub follows_one : (old : FinMap nat_cmp Fate) (b : ℕ) (fate : Fate) → IsReached (seen_with v old) inode room b → Follows v inode room old (insert old b fate)
  follows_one old b fate reached = one_more old old old b fate (as_it_was old) (as_it_was old) reached

  pub follows_two : (old : FinMap nat_cmp Fate) (b c : ℕ) (fate fate' : Fate) → IsReached (seen_with v old) inode room b → IsReached (seen_with v old) inode room c → Follows v inode room old (insert (insert old b fate) c fate')
  follows_two old b c fate fate' first second = one_more old old (insert old b fate) c fate' (as_it_was old) (follows_one old b fate first) second

-- a larger room
wider : (v : Seen) (inode : ℕ) (room room' : List ℕ) (b : ℕ) → ((x : ℕ) → Contains room x → Contains room' x) → IsReached v inode room b → IsReached v inode room' b
wider v inode room room' b more (inl own) = inl own
wider v inode room room' b more (inr (inl taken)) = inr (inl (more b taken))
wider v inode room room' b more (inr (inr below)) = inr (inr below)

pub follows_wider : (v : Seen) (inode : ℕ) (room room' : List ℕ) (old new : FinMap nat_cmp Fate) → ((x : ℕ) → Contains room x → Contains room' x) → Follows v inode room old new → Follows v inode room' old new
follows_wider v inode room room' _ _ more (as_it_was fates) = as_it_was fates
follows_wider v inode room room' _ _ more (one_more old between new b fate first second reached) =
    one_more old between new b fate (follows_wider v inode room room' old between more first) (follows_wider v inode room room' between new more second) (wider (seen_with v between) inode room room' b more reached)

-- as a draft tells it
pub follows_draft : {V : Type 0} (v : Seen) (inode : ℕ) (room : List ℕ) (old now : Drafted V) (fates : FinMap nat_cmp Fate) → now ≡ record old { fates = fates } → Follows v inode room old.fates fates → Follows v inode room old.fates now.fates
follows_draft {V} v inode room old now fates is follows = subst (Follows v inode room old.fates) (sym (ap (λ (d : Drafted V). d.fates) is)) follows
