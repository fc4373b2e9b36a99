-- The walk along a chain of a directory that a view shows whole.
use Rattle.std.proofs.Common.{◌≡◌, ◌≢◌, ◌⊎◌, inl, inr, ◌<◌, ◌+◌, ℕ, true, false, Bool, List, None, Some, refl, sym, ap, subst, ◌∙◌, arith}
use Rattle.std.proofs.lemmas.Bool.Decides.{nat_tests}
use Rattle.std.specs.Prelude.{if◌then◌else◌, nat_lt}
use Rattle.gfs2_layout.specs.Holding.{Holding, InChain, bytes_at, part_at}
use Rattle.gfs2_layout.specs.Inode.{IsLeaf, first_hash, is_hashed_in, leaf_in}
use Rattle.glock_names.specs.Views.{Seen}
use Rattle.hash_dirs.specs.Finding.{AreLeafHeads, IsLeafHead, IsNamedLater, named_in}
use Rattle.hash_dirs.specs.Shown.{IsInChain}
use Rattle.hash_dirs.proofs.Along.{chain_one, comes_back}
use Rattle.hash_dirs.proofs.Chained.{cell_some, in_chain, rules, same_hash, some_block}
use Rattle.image_model.proofs.Held.{none_some}
use Rattle.pointer_tables.specs.Directories.{chain_next}
use Rattle.shared_disk.specs.Blocks.{block_in}
use Rattle.image_journals.specs.Blocks.{seen_in}
use Rattle.image_journals.specs.Sound.{IsDirectoryIn}

-- a block that the view has is one of so many
pub low_block : (size count : ℕ) (bytes bs : List ℕ) (b : ℕ) → (seen_in size count bytes).block_at b ≡ Some bs → b < count
low_block size count bytes bs b at = by (nat_lt b count) refl at
  where
    by : (t : Bool) → nat_lt b count ≡ t → (if t then Some (block_in size bytes b) else None) ≡ Some bs → b < count
    by true e at = grind (arith, nat_tests, e)
    by false e at = absurd (none_some at)

-- the walk is at this leaf of the chain, and no leaf before it has the name
pub record IsAt (h : Holding) (i : ℕ) (name : List ℕ) (place leaf : ℕ) : Type 0 where
  pub chain : IsInChain h i place leaf
  pub later : IsNamedLater h i name place

module _ (v : Seen) (h : Holding) (is : IsDirectoryIn v h) (hashed : is_hashed_in h ≡ true) (i : ℕ) where
  part_is : (place x : ℕ) → IsInChain h i place x → part_at h x ≡ Some (InChain (first_hash h i) place)
  part_is place x chain = in_chain h is.sound hashed i place x chain

  -- what the view has of a leaf of the chain
  pub leaf_there : (place x : ℕ) → IsInChain h i place x → v.block_at x ≡ Some (bytes_at h x)
  leaf_there place x chain = is.has x (cell_some (h.cell x) (InChain (first_hash h i) place) (part_is place x chain))

  pub leaf_is : (place x : ℕ) → IsInChain h i place x → IsLeaf h (first_hash h i) x
  leaf_is place x chain = (rules h is.sound hashed).leaves x (first_hash h i) place (part_is place x chain)

  -- each leaf of the chain is one
  pub headed : (place x : ℕ) → IsInChain h i place x → IsLeafHead h x
  headed place x chain = let leaf = leaf_is place x chain in record { header = leaf.header; format = leaf.records_format; low = leaf.depth }

  pub heads : (place : ℕ) → AreLeafHeads h i place
  heads place earlier x before chain = headed earlier x chain

  pub goes_on : (name : List ℕ) (place x next : ℕ) → IsAt h i name place x → named_in h name x ≡ None → next ≡ (leaf_in h x).next → next ≢ 0 → IsAt h i name (place + 1) next
  goes_on name place x next at none is_next more = record {
    chain = subst (IsInChain h i (place + 1)) (sym is_next) (chain_next place x at.chain (λ e. more (is_next ∙ e)));
    later = λ earlier y before chain. elim (last earlier before) [
      | inl low ↦ at.later earlier y low chain
      | inr same ↦ ap (named_in h name) (chain_one h i place y x (subst (λ n. IsInChain h i n y) same chain) at.chain) ∙ none
    ];
  }
    where
      last : (earlier : ℕ) → earlier < place + 1 → (earlier < place) ⊎ (earlier ≡ place)
      last earlier low = grind arith

  -- it ends before it has gone over as many leaves as there are blocks
  pub ends : (count x : ℕ) → ((b : ℕ) (bs : List ℕ) → v.block_at b ≡ Some bs → b < count) → IsInChain h i count x → ⊥
  ends count x low chain =
      let again = comes_back h i count x chain (λ k y le there. (
        some_block h is.sound hashed y (InChain (first_hash h i) k) (part_is k y there),
        (let less = low y (bytes_at h y) (leaf_there k y there) in omega (arith, less)),
      )) in
      let same = (same_hash (first_hash h i) (first_hash h i) count again.0 (sym (part_is count x chain) ∙ part_is again.0 x again.2)).1 in
      let before : again.0 < count = again.1 in
      omega (arith, same, before)
