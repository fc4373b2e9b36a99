-- What a draft that has every block of a table can be asked.
use Rattle.std.proofs.Common.{◌≡◌, ◌⊎◌, ℕ, ◌<◌, inl, inr, true, Option, None, Some, refl, sym, ap, ◌∙◌, subst}
use Rattle.std.specs.Prelude.{IsSome}
use Rattle.std.specs.FinMap.{FinMap}
use Rattle.std.specs.Ordering.{nat_cmp}
use Rattle.drafts.specs.Fates.{block_with, seen_with}
use Rattle.drafts.specs.declared.fate.Fate.{Fate}
use Rattle.gfs2_layout.specs.Holding.{Holding, Cell, InChain, Pointed, part_at, bytes_at}
use Rattle.gfs2_layout.specs.Inode.{IsInode, entry, first_hash, is_hashed_in, table_count}
use Rattle.glock_names.specs.Views.{Seen, HasBlock}
use Rattle.glock_names.specs.declared.steps.Missing.{Missing}
use Rattle.dinode_tree.specs.Below.{IsBelow}
use Rattle.dinode_tree.specs.Broken as inode_rules
use Rattle.dinode_tree.specs.Reading.{IsNeeded, IsOnWay, the_dinode, led_to}
use Rattle.image_model.proofs.Held.{none_some}
use Rattle.linear_dirs.specs.Shown.{holding_over}
use Rattle.linear_dirs.proofs.Over.{as_seen}
use Rattle.linear_dirs.proofs.Rewritten.{over_there}
use Rattle.table_changes.specs.Pointers.{EachPointerLeads, IsTableBroken, of_inode, leads_nowhere}
use Rattle.hash_steps.specs.Shown.{IsSound}
use Rattle.hash_steps.proofs.Chained.{cell_some, rules, some_block}
use Rattle.hash_inserts.specs.Drafting.{Puts, SeesTree, SetsPointers}

-- nothing of the tree is needed
pub none_needed : (v : Seen) (h : Holding) (wanted : ℕ → Type 0) (m : Missing) → SeesTree v h → IsNeeded v h wanted 0 m → ⊥
none_needed v h wanted m sees needed = by needed.way
  where
    missing : HasBlock v m.block → ⊥
    missing has = none_some (sym needed.absent ∙ has.1)

    by : IsOnWay h wanted 0 m → ⊥
    by (the_dinode is from plain) = missing (subst (HasBlock v) (sym is) sees.own)
    by (led_to i k level first want least leads low high plain) = missing (sees.below m.block (m.from, k, level, first, leads))

pub pointers_lead : (h : Holding) → IsSound h → is_hashed_in h ≡ true → EachPointerLeads h
pointers_lead h sound hashed i low = some_block h sound hashed (entry h i) (InChain (first_hash h i) 0) ((rules h sound hashed).leads i low)

-- and nothing is broken
pub none_broken : ((h : Holding) (rule b : ℕ) → IsInode h → inode_rules.IsBroken h rule b → ⊥) → (h : Holding) (rule b : ℕ) → IsSound h → is_hashed_in h ≡ true → IsTableBroken h rule b → ⊥
none_broken law h rule b sound hashed (of_inode _ _ broken) = law h rule b sound.inode broken
none_broken law h _ _ sound hashed (leads_nowhere i low none) = pointers_lead h sound hashed i low none

-- ---- after pointers are set

module _ (v : Seen) (old new : FinMap nat_cmp Fate) (h : Holding) (from count leaf : ℕ) (set : SetsPointers v old new h from count leaf) where
  abbrev w : Seen
  w = seen_with v new

  abbrev pub middle : Holding
  middle = holding_over (seen_with v new) h

  there_still : (b : ℕ) → HasBlock (seen_with v old) b → HasBlock w b
  there_still b has = elim (some_or_not (middle.cell b)) [
    | inr none ↦ (has.0, ap (λ f. block_with f (v.block_at b)) (set.drafted.others b none) ∙ has.1)
    | inl some ↦ elim (set.drafted.own b some) [
      | inl left ↦ (has.0, ap (λ f. block_with f (v.block_at b)) left.0 ∙ has.1)
      | inr put ↦ (bytes_at middle b, ap (λ f. block_with f (v.block_at b)) put)
    ]
  ]
    where
      some_or_not : (c : Option Cell) → IsSome c ⊎ (IsSome c → ⊥)
      some_or_not None = inr (λ e. cc)
      some_or_not (Some c) = inl refl

  pub puts_set : Puts v old new h middle
  puts_set = record {
    own = refl;
    drafted = set.drafted;
    seen = λ was. as_seen w h;
    there = there_still;
    keeps = λ b some. over_there (w.block_at b) (h.cell b) ∙ some;
  }

-- ---- the leaf of a pointer, and the dinode

pub leaf_there : (h : Holding) (i : ℕ) → IsSound h → is_hashed_in h ≡ true → i < table_count h → IsSome (h.cell (entry h i))
leaf_there h i sound hashed low = cell_some (h.cell (entry h i)) (InChain (first_hash h i) 0) ((rules h sound hashed).leads i low)

-- pointers that are set leave the leaf of each as it was
pub set_cell : (v : Seen) (old new : FinMap nat_cmp Fate) (h : Holding) (i leaf from count : ℕ) → IsSound h → is_hashed_in h ≡ true → i < table_count h → SetsPointers v old new h from count leaf
    → (holding_over (seen_with v new) h).cell (entry h i) ≡ h.cell (entry h i)
set_cell v old new h i leaf from count sound hashed low set = set.set.stays.leaves (entry h i) (first_hash h i) 0 ((rules h sound hashed).leads i low)

pub own_there : (v : Seen) (new : FinMap nat_cmp Fate) (h : Holding) → IsSome (h.cell h.own) → IsSome ((holding_over (seen_with v new) h).cell h.own)
own_there v new h some = over_there ((seen_with v new).block_at h.own) (h.cell h.own) ∙ some

-- ---- every block of the table is still there

-- pointers lead to the blocks whose parts tell so, as `dinode_tree` has it
abbrev pub PointersAreParts : Type 0
PointersAreParts = (h : Holding) (b : ℕ) → IsInode h → IsBelow h b → (from k level first : ℕ) × (part_at h b ≡ Some (Pointed from k level first))

abbrev pub PartsAreLed : Type 0
PartsAreLed = (h : Holding) (b from k level first : ℕ) → IsInode h → part_at h 0 ≡ None → part_at h b ≡ Some (Pointed from k level first) → IsBelow h b

pub sees_on : PointersAreParts → PartsAreLed → (v : Seen) (old new : FinMap nat_cmp Fate) (h g : Holding) → IsInode h → part_at h 0 ≡ None → IsInode g → Puts v old new h g
    → ((b from k level first : ℕ) → part_at g b ≡ Some (Pointed from k level first) → part_at h b ≡ Some (Pointed from k level first)) → SeesTree (seen_with v old) h → SeesTree (seen_with v new) g
sees_on parts led v old new h g inode nobody inode' puts same sees = record {
  own = subst (HasBlock (seen_with v new)) (sym puts.own) (puts.there h.own sees.own);
  below = λ b below.
      let at = parts g b inode' below in
      puts.there b (sees.below b (led h b at.0 at.1 at.2 at.3 inode nobody (same b at.0 at.1 at.2 at.3 at.4)));
}
