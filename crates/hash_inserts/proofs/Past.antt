-- An insertion past a leaf that is full.
use Rattle.std.proofs.Common.{◌≡◌, ◌≢◌, ◌⊎◌, ℕ, ◌+◌, ◌<◌, ◌≤◌, zero, suc, inl, inr, Bool, true, false, List, Option, None, Some, refl, sym, ap, ◌∙◌, subst, arith}
use Rattle.std.specs.Prelude.{is_some, IsSomeAnd, IfOk, Result, ◌==◌}
use Rattle.std.proofs.lemmas.Bool.{eqb-true, true≢false}
use Rattle.std.specs.FinMap.{FinMap}
use Rattle.std.specs.Ordering.{nat_cmp}
use Rattle.drafts.specs.declared.fate.Fate.{Fate}
use Rattle.gfs2_layout.specs.Holding.{Holding, InChain, Itself, bytes_at, part_at}
use Rattle.gfs2_layout.specs.Inode.{depth_in, entry, first_hash, is_leaf_part, leaf_in, table_count}
use Rattle.glock_names.specs.Views.{Seen, HasBlock}
use Rattle.glock_names.specs.declared.steps.Entry.{Entry}
use Rattle.no_memory.specs.declared.NoMemory.{NoMemory}
use Rattle.hash_steps.specs.Shown.{IsInChain, IsShown, index_for}
use Rattle.pointer_tables.specs.Directories.{chain_head}
use Rattle.hash_steps.proofs.Along.{chain_one, ended, head_there}
use Rattle.hash_steps.proofs.Chained.{cell_some, deep, head_some, index_low, rules}
use Rattle.hash_steps.specs.Laws.{ExchangesJoin}
use Rattle.hash_steps.specs.Leaves.{IsFull, IsFullBefore}
use Rattle.hash_inserts.specs.Advancing.{CanInsert, IsAtLeaf, StepsOn}
use Rattle.hash_inserts.specs.Inserting.{Inserts, depth_for}
use Rattle.hash_inserts.specs.Walking.{IsRoomBefore, IsWalked}
use Rattle.hash_inserts.specs.Writing.{IsLeafBlock}
use Rattle.hash_inserts.specs.declared.walking.Walked.{Walked}
use Rattle.hash_inserts.proofs.Blockwise.{leaf_block}
use Rattle.hash_inserts.proofs.Joined.{inserts_join}
use Rattle.hash_inserts.proofs.Results.{ok_map}

pub one_number : (x y : ℕ) → Some x ≡ Some y → x ≡ y
one_number x y e = cc

pub some_of : {A : Type 0} (o : Option A) (P : A → Type 0) → IsSomeAnd o P → (x : A) × (o ≡ Some x)
some_of None P holds = absurd holds
some_of (Some x) P holds = (x, refl)

pub some_at : {A : Type 0} (o : Option A) (x : A) (P : A → Type 0) → o ≡ Some x → IsSomeAnd o P → P x
some_at o x P is holds = subst (λ q. IsSomeAnd q P) is holds

pub some_is : (o : Option ℕ) → is_some o ≡ true → (x : ℕ) × (o ≡ Some x)
some_is None e = absurd (true≢false (sym e))
some_is (Some x) e = (x, refl)

pub none_is : (o : Option ℕ) → is_some o ≡ false → o ≡ None
none_is None e = refl
none_is (Some x) e = absurd (true≢false e)

module _ (v : Seen) (dir : ℕ) (h : Holding) (name room : List ℕ) (need leaf : ℕ) (can : CanInsert v dir h name room need) (at : IsAtLeaf v h name leaf) where
  pub low : index_for h name < table_count h
  low = index_low h can.sound can.shown.hashed name can.small

  part : part_at h leaf ≡ Some (InChain (first_hash h (index_for h name)) 0)
  part = ap (part_at h) at.leaf_is ∙ (rules h can.sound can.shown.hashed).leads (index_for h name) low

  pub seen_bytes : bytes_at h leaf ≡ at.there.0
  seen_bytes = can.shown.inode.same leaf at.there.0 (cell_some (h.cell leaf) (InChain (first_hash h (index_for h name)) 0) part) at.there.1

  pub seen_block : IsLeafBlock at.there.0
  seen_block = subst IsLeafBlock seen_bytes (leaf_block h can.sound can.shown.hashed leaf (first_hash h (index_for h name)) 0 part)

  pub leaf_low : depth_for h name ≤ depth_in h
  leaf_low = ((rules h can.sound can.shown.hashed).leaves (entry h (index_for h name)) (first_hash h (index_for h name)) 0 ((rules h can.sound can.shown.hashed).leads (index_for h name) low)).depth

  pub table_low : depth_in h ≤ 15
  table_low = deep h can.sound can.shown.hashed

  pub sees_own : HasBlock v dir
  sees_own = subst (HasBlock v) can.shown.inode.own (at.sees h.own (cell_some (h.cell h.own) Itself can.sound.placed.own) (ap is_leaf_part can.sound.placed.own))

  pub at_head : IsInChain h (index_for h name) 0 leaf
  at_head = subst (IsInChain h (index_for h name) 0) (sym at.leaf_is) (chain_head low (head_some h can.sound can.shown.hashed (index_for h name) low))

  pub ends_there : (leaf_in h leaf).next ≡ 0
  ends_there = ap (λ x. (leaf_in h x).next) at.leaf_is ∙ at.one

  -- none stands before the first
  pub full_before : (len : ℕ) → IsFullBefore h (index_for h name) len 0
  full_before len earlier x before chain = absurd (let no : earlier < 0 = before in omega arith)

-- an answer after a step is one from before it
pub on_before : ExchangesJoin → (v w w' : Seen) (old mid new : FinMap nat_cmp Fate) (room between left : List ℕ) (dir : ℕ) (name : List ℕ) (e : Entry) (need leaf : ℕ) (h m : Holding) (on : StepsOn v w old mid room between dir name need leaf h m)
    → (Shows : Holding → Type 0) (answer : Result Bool NoMemory) → IfOk answer (λ done. (done ≡ true) × ((k : Holding) × IsShown w' dir k × Shows k × Inserts mid new between left on.rest name e m k))
    → IfOk answer (λ done. (done ≡ true) × ((k : Holding) × IsShown w' dir k × Shows k × Inserts old new room left need name e h k))
on_before law v w w' old mid new room between left dir name e need leaf h m on Shows answer all = ok_map answer _ _ (λ done put. (
  put.0,
  (
    put.1.0,
    put.1.1,
    put.1.2,
    inserts_join law v old mid new room between left need on.rest name e h m put.1.0 on.more on.steps on.front on.all (put.1.1.inode.own ∙ sym on.can.shown.inode.own) put.1.3,
  ),
)) all

-- ---- a chain that was gone along

module _ (v : Seen) (h : Holding) (i len : ℕ) (w : Walked) (walked : IsWalked v h i len w) where
  which : (place : ℕ) → (place < walked.at + 1) ⊎ (walked.at < place)
  which place = grind arith

  -- none of its leaves has room
  pub none_walked : w.with_room ≡ None → IsFull h i len
  none_walked none place x chain = elim (which place) [
    | inl before ↦ full_to place x before chain
    | inr behind ↦ absurd (ended h i walked.at w.last place x walked.chain walked.ends behind chain)
  ]
    where
      full_to : IsFullBefore h i len (walked.at + 1)
      full_to = subst (IsRoomBefore h i len (walked.at + 1)) none walked.room

  zero_of : (n : ℕ) → (n == 0) ≡ true → n ≡ 0
  zero_of n e = eqb-true n 0 e

  pub one_walked : w.single ≡ true → i < table_count h → (w.last ≡ entry h i) × ((leaf_in h (entry h i)).next ≡ 0)
  one_walked single low =
      let first : walked.at ≡ 0 = zero_of walked.at (sym walked.single ∙ single) in
      let is : w.last ≡ entry h i = chain_one h i 0 w.last (entry h i) (subst (λ n. IsInChain h i n w.last) first walked.chain) (chain_head low (head_there h i walked.at w.last walked.chain)) in
      (is, ap (λ x. (leaf_in h x).next) (sym is) ∙ walked.ends)

  -- and where there are several the first isn't the last
  pub several_walked : w.single ≡ false → i < table_count h → (leaf_in h (entry h i)).next ≢ 0
  several_walked single low ends =
      let behind : 0 < walked.at = later walked.at (sym walked.single ∙ single) in
      ended h i 0 (entry h i) walked.at w.last (chain_head low (head_there h i walked.at w.last walked.chain)) ends behind walked.chain
    where
      later : (n : ℕ) → (n == 0) ≡ false → 0 < n
      later zero e = absurd (true≢false e)
      later (suc n) e = omega arith

  pub walked_block : HasBlock v w.last
  walked_block = (walked.there walked.at w.last (omega arith) walked.chain).0
