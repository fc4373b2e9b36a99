-- A record put into a leaf that is there, or into one that is added for it, as an insertion.
use Rattle.std.proofs.Common.{◌≡◌, ◌⊎◌, ℕ, inl, inr, true, List, [], ◌∷◌, length, refl, sym, ◌∙◌, subst, arith}
use Rattle.std.specs.Prelude.{IsSome, Contains}
use Rattle.std.specs.FinMap.{FinMap, get}
use Rattle.std.specs.Ordering.{nat_cmp}
use Rattle.drafts.specs.declared.fate.Fate.{Fate}
use Rattle.gfs2_layout.specs.Area.{slots_of}
use Rattle.gfs2_layout.specs.Holding.{Holding}
use Rattle.gfs2_layout.specs.Inode.{leaf_area}
use Rattle.glock_names.specs.Views.{Seen}
use Rattle.glock_names.specs.declared.steps.Entry.{Entry}
use Rattle.growth_drafts.specs.Taken.{HasTaken}
use Rattle.growth_drafts.proofs.Rooms.{none_in}
use Rattle.linear_dirs.specs.Shown.{record_for}
use Rattle.hash_steps.specs.Shown.{IsInChain, index_for}
use Rattle.hash_steps.specs.Laws.{ExchangesJoin, GetsRecord}
use Rattle.hash_steps.specs.Leaves.{IsFullBefore, has_room_for}
use Rattle.hash_inserts.specs.Drafting.{PutsBehind, PutsInLeaf}
use Rattle.hash_inserts.specs.Inserting.{HasNoRoom, HasOneLeafFor, Inserts, IsDeepest, IsInsertedAt, a_leaf_with_room, after_leaf, its_dinode, one_taken, put, the_last_leaf}
use Rattle.hash_inserts.proofs.Joined.{drafted_join, taken_join}

-- nothing is taken where no block comes
pub none_taken : (h g : Holding) → g.count ≡ h.count → ((b : ℕ) → (IsSome (g.cell b) → IsSome (h.cell b)) × (IsSome (h.cell b) → IsSome (g.cell b))) → HasTaken h g []
none_taken h g count same = record {
  count = count;
  blocks = λ b. (λ some. inl ((same b).0 some), λ either. back b either);
}
  where
    back : (b : ℕ) → IsSome (h.cell b) ⊎ Contains [] b → IsSome (g.cell b)
    back b (inl had) = (same b).1 had
    back b (inr came) = absurd (none_in b came)

-- into a leaf with room
pub put_inserts : (v : Seen) (old new : FinMap nat_cmp Fate) (room : List ℕ) (name : List ℕ) (e : Entry) (h g : Holding) (leaf place : ℕ) → PutsInLeaf v old new h g name e leaf
    → IsInChain h (index_for h name) place leaf → IsFullBefore h (index_for h name) (length name) place → has_room_for (length name) (slots_of (leaf_area h leaf)) ≡ true → GetsRecord h g (record_for name e)
    → Inserts old new room room 0 name e h g
put_inserts v old new room name e h g leaf place puts chain full_before has_room gets = record {
  taken = [];
  few = refl;
  takes = record {
    front = refl;
    has = none_taken h g puts.put.same.count (λ b. (puts.blocks b));
    drafted = puts.puts.drafted;
    changes = λ b. elim (puts.only b) [
      | inl same ↦ inl same
      | inr (inl own) ↦ inr (its_dinode own)
      | inr (inr is) ↦ inr (at b is)
    ];
  };
  inserted = put h g puts.put;
  exchanged = gets.records;
  sound = gets.sound;
}
  where
    at : (b : ℕ) → b ≡ leaf → IsInsertedAt h g name [] b
    at b is = subst (IsInsertedAt h g name []) (sym is) (a_leaf_with_room place chain full_before has_room)

-- into one that is added for it
pub behind_inserts : ExchangesJoin → (v : Seen) (old new : FinMap nat_cmp Fate) (room left : List ℕ) (name : List ℕ) (e : Entry) (h g : Holding) (leaf : ℕ) → (behind : PutsBehind v old new h g name e leaf) → room ≡ leaf ∷ left
    → HasNoRoom h name → (HasOneLeafFor h name → IsDeepest h name) → GetsRecord behind.longer g (record_for name e) → Inserts old new room left 1 name e h g
behind_inserts law v old new room left name e h g leaf behind front full deepest gets = record {
  taken = leaf ∷ [];
  few = refl;
  takes = record {
    front = front;
    has = taken_join h behind.longer g (leaf ∷ []) [] behind.lengthens.has (none_taken behind.longer g behind.puts.put.same.count (λ b. (behind.puts.blocks b)));
    drafted = drafted_join old behind.between new h behind.longer g behind.puts.put.same.own behind.lengthens.puts.keeps (λ b had. (behind.puts.blocks b).1 had) behind.lengthens.puts.drafted behind.puts.puts.drafted;
    changes = changes;
  };
  inserted = after_leaf h behind.longer g leaf full deepest behind.lengthens.is behind.stays.sound behind.puts.put;
  exchanged = law h behind.longer g [] _ behind.stays.records gets.records;
  sound = gets.sound;
}
  where
    here : (b : ℕ) → b ≡ leaf → Contains (leaf ∷ []) b
    here b is = (0, omega arith, sym is)

    changes : (b : ℕ) → (get new b ≡ get old b) ⊎ IsInsertedAt h g name (leaf ∷ []) b
    changes b = elim (behind.puts.only b) [
      | inr (inl own) ↦ inr (its_dinode (own ∙ behind.lengthens.is.same.own))
      | inr (inr is) ↦ inr (one_taken (here b is))
      | inl same ↦ elim (behind.lengthens.only b) [
        | inl was ↦ inl (same ∙ was)
        | inr (inl own) ↦ inr (its_dinode own)
        | inr (inr (inl last)) ↦ inr (subst (IsInsertedAt h g name (leaf ∷ [])) (sym last) (the_last_leaf behind.lengthens.is.at_place full behind.lengthens.is.chain behind.lengthens.is.ends))
        | inr (inr (inr is)) ↦ inr (one_taken (here b is))
      ]
    ]
