-- How far a walk over the leaves of a hashed directory has come.
use Rattle.std.proofs.Common.{◌≡◌, ◌≢◌, ◌⊎◌, inl, inr, ℕ, ◌+◌, ◌^◌, ◌<◌, ◌≤◌, Bool, true, false, List, [], ◌∷◌, ◌++◌, length, get_or, drop, Option, None, Some, refl, sym, ap, subst, ◌∙◌, arith, length-append}
use Rattle.std.specs.Prelude.{if◌then◌else◌, map, flat_map, not, Contains, IfSome, slice_get, slice_set}
use Rattle.std.specs.List.{All}
use Rattle.std.specs.Option.{option_map}
use Rattle.std.proofs.Math.Path.{transport}
use Rattle.std.proofs.lemmas.Bool.{cases_eq, cases_lt}
use Rattle.std.proofs.lemmas.Grind.{flat_map-append}
use Rattle.std.proofs.lemmas.Option.{slice_get-get_or}
use Rattle.gfs2_layout.specs.Exchanges.{directory_count}
use Rattle.gfs2_layout.specs.Holding.{Holding}
use Rattle.gfs2_layout.specs.Inode.{entry, first_hash, index_bits, is_hashed_in, leaf_in, leaf_area, table_count}
use Rattle.gfs2_layout.specs.Records.{Record, records_in, is_dots}
use Rattle.gfs2_layout.specs.declared.leaf.Leaf.{Leaf}
use Rattle.image_model.specs.Claims.{every, Claims, HasArea, HasDirectory, HasLeaf, behind_dinode, of_leaf}
use Rattle.image_model.specs.Image.{Image}
use Rattle.image_reader.specs.Leaves.{HasClaim, AreChained, leaf_records}
use Rattle.image_model.specs.Owners.{Owner, Chained}
use Rattle.image_reader.specs.Owning.{owner_of, AreClaims, IsClash, IsEntered, IsEmpty, IsPlaced}
use Rattle.image_model.specs.Rules.{HasRecordIn, HasRecords, from_leaves, IsHashedAt}
use Rattle.image_reader.specs.Going.{ClaimsOnly}
use Rattle.image_reader.specs.declared.hash_table.HashTable.{HashTable}
use Rattle.image_reader.specs.declared.image.ImageFault.{ImageFault}
use Rattle.image_reader.specs.declared.image.ImageFault.TheVariants as image
use Rattle.image_reader.specs.declared.owners.Claim.{Claim}
use Rattle.image_reader.proofs.Chains.{claim_of}
use Rattle.image_model.proofs.Counts.{count_append}
use Rattle.image_reader.proofs.Directories.{not_both}
use Rattle.image_reader.proofs.Going.{entered_only, directory_test}
use Rattle.image_reader.proofs.Leaves.{unrise, in_rising, in_split, split_in, split_here, claim_kept, claim_entered, not_claimed, leaves_entered, leaves_known, chained_next, chained_known, chained_first, chained_stay, chained_end, all_claimed}
use Rattle.image_model.proofs.Members.{IsIn, contained, is_in}
use Rattle.image_model.proofs.Rising.{rising}
use Rattle.image_reader.proofs.WalkFaults.{clash, empty_claims, entered_if}
use Rattle.image_mount.proofs.Looks.{hashed_looked}
use Rattle.image_mount.specs.Found.{HasFormat, IsFirstOther, IsInChain, chain_head, ComesBefore, is_other, first_other, name_count, in_leaf, IsReached}
use Rattle.image_mount.specs.Found.{chain_next as chain_behind}
use Rattle.image_mount.specs.Leaves.{AreAllLeaves, AreDeep, HasBeside, IsBehind, IsSoundLeaf, IsLeafIn, IsPassed, block_of, IsListed, AreLeavesOf, IsFoundIn, IsGoneOver, IsOpen, IsTold, IsWalked, IsClosed, ComesNext, IsNextLeaf, IsFirstTold, IsTableOf, HasEnded, LooksFor}
use Rattle.image_mount.specs.Marked.{IsTaken}
use Rattle.image_mount.specs.Sifting.{AreAdded}
use Rattle.image_mount.proofs.Marked.{got_other}
use Rattle.image_mount.specs.Listing.{said, standing, AreAllRecords, AreCountedIn, AreDistinct}
use Rattle.image_mount.specs.Looks.{HasSoundLeaves, IsInRun, LeadsToLeaf, IsLookedAt}
use Rattle.image_mount.specs.Refusals.{IsOutside, RefusesRightly, of_image, come_to}
use Rattle.image_mount.specs.Refusals as outside
use Rattle.image_mount.specs.Kept.{Kept}
use Rattle.image_mount.specs.System.{ArePlainRecords}
use Rattle.image_mount.specs.declared.fault.MountFault.{MountFault}
use Rattle.image_mount.specs.declared.fault.MountFault.TheVariants as fault
use Rattle.image_mount.specs.declared.field.Field.TheVariants as field
use Rattle.image_mount.specs.declared.inodes.Inode.{Inode}
use Rattle.image_mount.specs.declared.leaf.LeafAt.{LeafAt}
use Rattle.image_mount.specs.declared.leaf.LeafWalk.{LeafWalk}
use Rattle.image_mount.specs.declared.leaf.Names.TheVariants.{Files}
use Rattle.image_mount.specs.declared.listing.Named.{Named}
use Rattle.image_mount.proofs.Adding.{kept_at, new_at, said_added, which_at}
use Rattle.image_mount.proofs.Causes.{told_outside}
use Rattle.image_mount.proofs.Masters.{file_has, table_hashed}
use Rattle.image_mount.proofs.Names.{at_contains, contains_at, from_mapped, mapped_at, mapped_some, none_found as none_by_name}
use Rattle.image_mount.proofs.Numbered.{at_some}

-- ---- the order of leaves

head_is : (h : Holding) (i place x : ℕ) → IsInChain h i place x → place ≡ 0 → x ≡ entry h i
head_is h i _ _ (chain_head low some) e = refl
head_is h i _ _ (chain_behind place x chain more) e = absurd (omega (arith, e))

step_back : (h : Holding) (i place y n : ℕ) → IsInChain h i place y → place ≡ n + 1 → (x : ℕ) × IsInChain h i n x × (y ≡ (leaf_in h x).next)
step_back h i _ _ n (chain_head low some) e = absurd (omega (arith, e))
step_back h i _ _ n (chain_behind place x chain more) e = let same : place ≡ n = omega (arith, e) in (x, subst (λ p. IsInChain h i p x) same chain, refl)

chain_same : (h : Holding) (i place x y : ℕ) → IsInChain h i place x → IsInChain h i place y → x ≡ y
chain_same h i _ _ y (chain_head low some) other = sym (head_is h i 0 y other refl)
chain_same h i _ _ y (chain_behind place x chain more) other =
    let back = step_back h i (place + 1) y place other refl in
    ap (λ n. (leaf_in h n).next) (chain_same h i place x back.0 chain back.1) ∙ sym back.2

no_some : {X : Type 0} (x : X) → None ≡ Some x → ⊥
no_some x e = cc

-- where each leaf that is claimed has its next one claimed, each of a chain is whose first is
entered_along : (h : Holding) (entries : List (Option Claim)) (j place y : ℕ) → AreChained h entries None → HasClaim entries (entry h j) (Chained h.own (first_hash h j) 0) → IsInChain h j place y
    → HasClaim entries y (Chained h.own (first_hash h j) place)
entered_along h entries j _ _ chained headed (chain_head low some) = headed
entered_along h entries j _ _ chained headed (chain_behind place x chain more) =
    chained x (first_hash h j) place (entered_along h entries j place x chained headed chain) (λ e. absurd (no_some x e)) more

closed_chained : (h : Holding) (entries : List (Option Claim)) (tail : Option LeafAt) → AreChained h entries (block_of tail) → IfSome tail (λ t. t.head ≡ leaf_in h t.block) → IsClosed tail → AreChained h entries None
closed_chained h entries None chained heads closed = chained
closed_chained h entries (Some t) chained heads closed = chained_end h entries t.block chained (ap (λ (l : Leaf). l.next) (sym heads) ∙ closed)

opened_heads : (im : Image) (a : ℕ) (walk : LeafWalk) (tail : Option LeafAt) → IfSome tail (IsOpen im a walk) → IfSome tail (λ t. t.head ≡ leaf_in (every im a) t.block)
opened_heads im a walk None is = tt
opened_heads im a walk (Some t) is = is.is.head

-- where none is open that has a next, each that is claimed has its next one as deep
deep_closed : (h : Holding) (entries : List (Option Claim)) (tail : Option LeafAt) → AreDeep h entries (block_of tail) → IfSome tail (λ t. t.head ≡ leaf_in h t.block) → IsClosed tail → AreDeep h entries None
deep_closed h entries None deep heads closed x hash place has not_open more = deep x hash place has not_open more
deep_closed h entries (Some t) deep heads closed x hash place has not_open more = elim (cases_eq t.block x) [
  | inl e ↦ absurd (more (ap (λ n. (leaf_in h n).next) (sym e) ∙ ap (λ (l : Leaf). l.next) (sym heads) ∙ closed))
  | inr other ↦ deep x hash place has (λ e. other (same_number t.block x e)) more
]
  where
    same_number : (m n : ℕ) → Some m ≡ Some n → m ≡ n
    same_number m n e = cc

-- and so where the next of the open one is as deep
deep_behind : (h : Holding) (entries : List (Option Claim)) (t at : LeafAt) → AreDeep h entries (Some t.block) → t.head ≡ leaf_in h t.block → IsBehind t at → at.head ≡ leaf_in h at.block → AreDeep h entries None
deep_behind h entries t at deep head b at_head x hash place has not_open more = elim (cases_eq t.block x) [
  | inl e ↦
      let next : (leaf_in h t.block).next ≡ at.block = ap (λ (l : Leaf). l.next) (sym head) ∙ sym b.block in
      subst (λ n. (leaf_in h (leaf_in h n).next).depth ≡ (leaf_in h n).depth) e
      (ap (λ n. (leaf_in h n).depth) next ∙ ap (λ (l : Leaf). l.depth) (sym at_head) ∙ b.depth ∙ ap (λ (l : Leaf). l.depth) head)
  | inr other ↦ deep x hash place has (λ e. other (same_number t.block x e)) more
]
  where
    same_number : (m n : ℕ) → Some m ≡ Some n → m ≡ n
    same_number m n e = cc

-- the other pointers of a run lead to the same leaf
run_pointed : (h : Holding) (i j : ℕ) → LeadsToLeaf h i → entry h j ≡ entry h i → IsInRun h i j → LeadsToLeaf h j
run_pointed h i j p same here = record {
  some = λ e. p.some (sym same ∙ e);
  run = λ m low in_run.
      let there : index_bits h (leaf_in h (entry h i)).depth m ≡ index_bits h (leaf_in h (entry h i)).depth j
      = subst (λ b. index_bits h (leaf_in h b).depth m ≡ index_bits h (leaf_in h b).depth j) same in_run in
      p.run m low (there ∙ here) ∙ sym same;
}

-- a block is claimed in one way
one_claim : (entries : List (Option Claim)) (x a hash place hash' place' : ℕ) → HasClaim entries x (Chained a hash place) → HasClaim entries x (Chained a hash' place') → (hash ≡ hash') × (place ≡ place')
one_claim entries x a hash place hash' place' first second = one hash place hash' place' (sym first.owner ∙ ap owner_of (same first.claim second.claim (sym first.there ∙ second.there)) ∙ second.owner)
  where
    same : (c d : Claim) → Some (Some c) ≡ Some (Some d) → c ≡ d
    same c d e = cc

    one : (m p n q : ℕ) → Chained a m p ≡ Chained a n q → (m ≡ n) × (p ≡ q)
    one m p n q e = (cc, cc)

passed_by : (im : Image) (a : ℕ) (walk : LeafWalk) (tail : Option LeafAt) (t : LeafAt) (j place : ℕ) → tail ≡ Some t → ComesBefore j place t.pointer (t.place + 1) → IsPassed tail walk.index j place
passed_by im a walk tail t j place is before = subst (λ o. IsPassed o walk.index j place) (sym is) before

-- ---- one leaf more

-- what is said of a record that was found, by what it says and where it stands
abbrev IsFoundAt : Image → ℕ → List (Option Claim) → Record × ℕ → Type 0
IsFoundAt im a entries p = HasRecordIn im a p.1 p.0 × ((hash place : ℕ) × HasClaim entries p.1 (Chained a hash place)) × IsReached im p.1

found_record : (im : Image) (a : ℕ) (entries : List (Option Claim)) (n : Named) → IsFoundAt im a entries (standing n) → IsFoundIn im a entries n
found_record im a entries n is = record { stands = is.0; reached = is.2; leaf = is.1 }

-- the record leads on
abbrev name_test : Record → Bool
name_test r = not (is_dots r.name)

module _ (im : Image) (a : ℕ) (es new : List (Option Claim)) (x hash place : ℕ) (claim : Claim) (owner : owner_of claim ≡ Chained a hash place) where
  leaves_more : (records kept later : List Record) (others more sum : ℕ) → AreLeavesOf im a es records others → IsEntered es new x claim true → later ≡ records ++ kept
      → name_count (leaf_records (every im a) x) ≡ name_count kept + more → (more ≡ 0 → kept ≡ leaf_records (every im a) x) → sum ≡ others + more → AreLeavesOf im a new later sum
  leaves_more records kept later others more sum o entered is named whole summed =
      let f = leaf_records (every im a) in
      let split = in_rising x o.leaves (rising o.leaves o.rise) (λ h. let c = o.only x (contained x o.leaves h) in not_claimed es x (Chained a c.0 c.1) entered.0 c.2) in
      let on = entered_only (λ (p : Owner). p ≡ owner_of claim) es new x claim true refl entered in
      let mine : HasClaim new x (Chained a hash place) = subst (HasClaim new x) owner (claim_entered es new x claim true entered) in
      record {
        leaves = split.front ++ (x ∷ split.back);
        rise = unrise (split.front ++ (x ∷ split.back)) split.rises;
        only = λ y there. elim (in_split y x split.front split.back (is_in y (split.front ++ (x ∷ split.back)) there)) [
          | inl e ↦ (hash, place, subst (λ n. HasClaim new n (Chained a hash place)) (sym e) mine)
          | inr g ↦
              let c = o.only y (contained y o.leaves (subst (IsIn y) (sym split.was) g)) in
              (c.0, c.1, claim_kept (λ p. p ≡ owner_of claim) es new y (Chained a c.0 c.1) on c.2)
        ];
        all = λ y k p has. contained y (split.front ++ (x ∷ split.back)) (elim (leaves_entered a es new x claim true entered y k p has) [
          | inl was ↦ split_in y x split.front split.back (subst (IsIn y) split.was (is_in y o.leaves (o.all y k p was)))
          | inr e ↦ subst (λ n. IsIn n (split.front ++ (x ∷ split.back))) (sym e) (split_here x split.front split.back)
        ]);
        names = omega (
          arith,
          ap name_count (flat_map-append f split.front (x ∷ split.back)),
          count_append name_test (flat_map f split.front) (f x ++ flat_map f split.back),
          count_append name_test (f x) (flat_map f split.back),
          ap name_count (ap (flat_map f) split.was ∙ flat_map-append f split.front split.back),
          count_append name_test (flat_map f split.front) (flat_map f split.back),
          o.names,
          ap name_count is,
          count_append name_test records kept,
          named,
          summed,
        );
        count = λ none. omega (
          arith,
          ap length (flat_map-append f split.front (x ∷ split.back)),
          length-append (flat_map f split.front) (f x ++ flat_map f split.back),
          length-append (f x) (flat_map f split.back),
          ap length (ap (flat_map f) split.was ∙ flat_map-append f split.front split.back),
          length-append (flat_map f split.front) (flat_map f split.back),
          o.count (omega (arith, none, summed)),
          ap length is,
          length-append records kept,
          ap length (whole (omega (arith, none, summed))),
        );
        directories = λ none. omega (
          arith,
          ap directory_count (flat_map-append f split.front (x ∷ split.back)),
          count_append directory_test (flat_map f split.front) (f x ++ flat_map f split.back),
          count_append directory_test (f x) (flat_map f split.back),
          ap directory_count (ap (flat_map f) split.was ∙ flat_map-append f split.front split.back),
          count_append directory_test (flat_map f split.front) (flat_map f split.back),
          o.directories (omega (arith, none, summed)),
          ap directory_count is,
          count_append directory_test records kept,
          ap directory_count (whole (omega (arith, none, summed))),
        );
      }

entered_claims : (im : Image) (old new : List (Option Claim)) (x by : ℕ) (claim : Claim) (fresh : Bool) → IsEntered old new x claim fresh → AreClaims im old → Claims im by x (owner_of claim) → IsPlaced im x (owner_of claim) → AreClaims im new
entered_claims im old new x by claim true entered claims claimed placed = entered_if im old new x by claim true entered.1 claims claimed placed
entered_claims im old new x by claim false entered claims claimed placed = entered_if im old new x by claim false entered.1 claims claimed placed

-- ---- what comes next

module _ (im : Image) (walk : LeafWalk) (at : LeafAt) (of : IsNextLeaf im walk at) where
  closed : IsClosed walk.tail → AreChained (every im walk.directory) walk.owners.entries.items None
  closed is = closed_chained (every im walk.directory) walk.owners.entries.items walk.tail of.walked.chained (opened_heads im walk.directory walk walk.tail of.walked.opened) is

  -- each leaf that comes before it is claimed
  pub came_before : (j earlier y : ℕ) → ComesBefore j earlier at.pointer at.place → IsInChain (every im walk.directory) j earlier y
      → HasClaim walk.owners.entries.items y (Chained walk.directory (first_hash (every im walk.directory) j) earlier)
  came_before j earlier y before chain = elim of.next [
    | inl behind ↦
        let b = behind.2 in
        let there : ComesBefore j earlier behind.0.pointer (behind.0.place + 1) = subst (λ p. ComesBefore j earlier p (behind.0.place + 1)) b.pointer (subst (ComesBefore j earlier at.pointer) b.place before) in
        of.walked.passed j earlier y (passed_by im walk.directory walk walk.tail behind.0 j earlier behind.1 there) chain
    | inr begins ↦ elim before [
      | inl less ↦
          entered_along (every im walk.directory) walk.owners.entries.items j earlier y (closed begins.0) (of.walked.headed j (omega (arith, less, begins.1))) chain
      | inr same ↦ absurd (omega (arith, same.1, begins.2))
    ]
  ]

  -- and in the master directory none of them has another name
  pub none_before : walk.names ≡ Files → (j earlier y : ℕ) → ComesBefore j earlier at.pointer at.place → IsInChain (every im walk.directory) j earlier y → first_other (leaf_records (every im walk.directory) y) ≡ None
  none_before files j earlier y before chain = of.walked.plain files y (first_hash (every im walk.directory) j) earlier (came_before j earlier y before chain)

  -- the records that were found stand in other leaves than one that nothing claims
  pub others_stand : slice_get walk.owners.entries.items at.block ≡ Some None → All (λ n. HasRecordIn im walk.directory n.block (said n) × (n.block ≢ at.block)) walk.records.items
  others_stand lacks k d low =
      let n = get_or walk.records.items k d in
      let is = of.walked.found k n (slice_get-get_or walk.records.items k d low) in (
        is.stands,
        λ e. not_claimed walk.owners.entries.items at.block (Chained walk.directory is.leaf.0 is.leaf.1) lacks
            (subst (λ b. HasClaim walk.owners.entries.items b (Chained walk.directory is.leaf.0 is.leaf.1)) e is.leaf.2),
      )

  -- each leaf that is claimed so far has its next one as deep
  deep_now : AreDeep (every im walk.directory) walk.owners.entries.items None
  deep_now = elim of.next [
    | inl behind ↦
        let opened = at_some walk.tail behind.0 (IsOpen im walk.directory walk) behind.1 of.walked.opened in
        deep_behind (every im walk.directory) walk.owners.entries.items behind.0 at (subst (λ o. AreDeep (every im walk.directory) walk.owners.entries.items (block_of o)) behind.1 of.walked.deep) opened.is.head behind.2 of.leaf.head
    | inr begins ↦ deep_closed (every im walk.directory) walk.owners.entries.items walk.tail of.walked.deep (opened_heads im walk.directory walk walk.tail of.walked.opened) begins.0
  ]

  pointed_now : (later : LeafWalk) → later.index ≡ at.behind → (j : ℕ) → j < later.index → LeadsToLeaf (every im walk.directory) j
  pointed_now later index j low = elim (cases_lt j walk.index) [
    | inl before ↦ of.walked.pointed j before
    | inr past ↦ elim of.next [
      | inl behind ↦ absurd (omega (arith, low, index, behind.2.behind, past, at_some walk.tail behind.0 (λ (u : LeafAt). u.behind ≡ walk.index) behind.1 walk.behind))
      | inr begins ↦ let run = of.leaf.run j (omega (arith, past, begins.1)) (omega (arith, low, index)) in run_pointed (every im walk.directory) at.pointer j of.leaf.pointed run.0 run.2
    ]
  ]

  module _ (later : LeafWalk) (claim : Claim) (owner : owner_of claim ≡ Chained walk.directory at.hash at.place) (index : later.index ≡ at.behind) (fresh : Bool)
      (entered : IsEntered walk.owners.entries.items later.owners.entries.items at.block claim fresh) where
    on : ClaimsOnly (λ (o : Owner). o ≡ owner_of claim) walk.owners.entries.items later.owners.entries.items
    on = entered_only (λ (o : Owner). o ≡ owner_of claim) walk.owners.entries.items later.owners.entries.items at.block claim fresh refl entered

    kept : (y : ℕ) (o : Owner) → HasClaim walk.owners.entries.items y o → HasClaim later.owners.entries.items y o
    kept y o has = claim_kept (λ (p : Owner). p ≡ owner_of claim) walk.owners.entries.items later.owners.entries.items y o on has

    mine : HasClaim later.owners.entries.items at.block (Chained walk.directory at.hash at.place)
    mine = subst (HasClaim later.owners.entries.items at.block) owner (claim_entered walk.owners.entries.items later.owners.entries.items at.block claim fresh entered)

    headed_now : (j : ℕ) → j < later.index → HasClaim later.owners.entries.items (entry (every im walk.directory) j) (Chained walk.directory (first_hash (every im walk.directory) j) 0)
    headed_now j low = elim (cases_lt j walk.index) [
      | inl before ↦ kept (entry (every im walk.directory) j) (Chained walk.directory (first_hash (every im walk.directory) j) 0) (of.walked.headed j before)
      | inr past ↦ elim of.next [
        | inl behind ↦ absurd (omega (arith, low, index, behind.2.behind, past, at_some walk.tail behind.0 (λ (u : LeafAt). u.behind ≡ walk.index) behind.1 walk.behind))
        | inr begins ↦
            let run = of.leaf.run j (omega (arith, past, begins.1)) (omega (arith, low, index)) in
            let first_is : at.block ≡ entry (every im walk.directory) at.pointer = head_is (every im walk.directory) at.pointer at.place at.block of.leaf.chain begins.2 in
            let there : HasClaim later.owners.entries.items at.block (Chained walk.directory (first_hash (every im walk.directory) j) 0)
            = transport (λ k. HasClaim later.owners.entries.items at.block (Chained walk.directory (sym run.1 k) (begins.2 k))) mine in
            subst (λ b. HasClaim later.owners.entries.items b (Chained walk.directory (first_hash (every im walk.directory) j) 0)) (first_is ∙ sym run.0) there
      ]
    ]

    owned : Claims im (of.leaf.claimed.0) at.block (owner_of claim)
    owned = subst (Claims im of.leaf.claimed.0 at.block) (sym owner) of.leaf.claimed.1

    claims_now : AreClaims im later.owners.entries.items
    claims_now = entered_claims im walk.owners.entries.items later.owners.entries.items at.block of.leaf.claimed.0 claim fresh entered of.walked.claims owned (subst (IsPlaced im at.block) (sym owner) of.leaf.placed)

    within_now : later.index ≤ table_count (every im walk.directory)
    within_now = omega (arith, index, of.leaf.within)

  -- a leaf that was claimed so already
  pub walked_known : (later : LeafWalk) (claim : Claim) → owner_of claim ≡ Chained walk.directory at.hash at.place → later.index ≡ at.behind
      → IsEntered walk.owners.entries.items later.owners.entries.items at.block claim false → later.tail ≡ None → later.records.items ≡ walk.records.items → later.others ≡ walk.others → later.names ≡ walk.names
      → IsWalked im walk.directory later
  walked_known later claim owner index entered tail records others names =
      let h = every im walk.directory in
      let stays = leaves_known walk.directory walk.owners.entries.items later.owners.entries.items at.block claim entered in
      let on_now = on later claim owner index false entered in
      let now : AreChained h later.owners.entries.items None = elim of.next [
        | inl behind ↦
            let b = behind.2 in
            let opened = at_some walk.tail behind.0 (IsOpen im walk.directory walk) behind.1 of.walked.opened in
            let chained = subst (λ o. AreChained h walk.owners.entries.items (block_of o)) behind.1 of.walked.chained in
            chained_known (λ (o : Owner). o ≡ owner_of claim) h walk.owners.entries.items later.owners.entries.items on_now behind.0.block behind.0.hash behind.0.place at.block chained opened.claimed
            (sym (ap (λ (l : Leaf). l.next) opened.is.head) ∙ sym b.block)
            (transport (λ k. HasClaim later.owners.entries.items at.block (Chained walk.directory (b.hash k) (b.place k))) (mine later claim owner index false entered)) stays
        | inr begins ↦ chained_stay (λ (o : Owner). o ≡ owner_of claim) h walk.owners.entries.items later.owners.entries.items on_now (closed begins.0) stays
      ] in
      let headed = headed_now later claim owner index false entered in
      let same_entries : later.owners.entries.items ≡ walk.owners.entries.items = entered.1 in
      record {
        claims = claims_now later claim owner index false entered;
        within = within_now later claim owner index false entered;
        headed = headed;
        chained = subst (λ o. AreChained h later.owners.entries.items (block_of o)) (sym tail) now;
        opened = subst (λ o. IfSome o (IsOpen im walk.directory later)) (sym tail) tt;
        passed = λ j place y before chain.
            let low : j < later.index = subst (λ o. IsPassed o later.index j place) tail before in
            entered_along h later.owners.entries.items j place y now (headed j low) chain;
        sound = λ x hash place has. of.walked.sound x hash place (subst (λ es. HasClaim es x (Chained walk.directory hash place)) same_entries has);
        pointed = pointed_now later index;
        deep = λ x hash place has not_open more. deep_now x hash place (subst (λ es. HasClaim es x (Chained walk.directory hash place)) same_entries has) (λ e. no_some x e) more;
        listed = λ none x hash place has. subst (IsListed im walk.directory x) (sym records) (of.walked.listed (sym others ∙ none) x hash place (subst (λ es. HasClaim es x (Chained walk.directory hash place)) same_entries has));
        found = λ k n there. subst (λ es. IsFoundIn im walk.directory es n) (sym same_entries) (of.walked.found k n (ap (λ l. slice_get l k) (sym records) ∙ there));
        distinct = subst (λ xs. AreDistinct (map said xs)) (sym records) of.walked.distinct;
        leaves = subst (AreLeavesOf im walk.directory later.owners.entries.items (map said later.records.items)) (sym others)
            (subst (λ es. AreLeavesOf im walk.directory es (map said later.records.items) walk.others) (sym same_entries) (subst (λ xs. AreLeavesOf im walk.directory walk.owners.entries.items (map said xs) walk.others) (sym records) of.walked.leaves));
        beside = λ some.
            subst (λ ns. HasBeside im walk.directory ns later.owners.entries.items) (sym names)
            (subst (HasBeside im walk.directory walk.names) (sym same_entries) (of.walked.beside (omega (arith, some, others))));
        plain = λ files x hash place has. of.walked.plain (sym names ∙ files) x hash place (subst (λ es. HasClaim es x (Chained walk.directory hash place)) same_entries has);
        files = λ files. others ∙ of.walked.files (sym names ∙ files);
      }

  -- a leaf that is claimed now, whose records were added
  pub walked_fresh : (later : LeafWalk) (claim : Claim) → owner_of claim ≡ Chained walk.directory at.hash at.place → later.index ≡ at.behind
      → IsEntered walk.owners.entries.items later.owners.entries.items at.block claim true → later.tail ≡ Some at
      → (more : ℕ) → AreAdded walk.names walk.records.items later.records.items at.block (leaf_records (every im walk.directory) at.block) more → later.others ≡ walk.others + more → later.names ≡ walk.names
      → (walk.names ≡ Files → first_other (leaf_records (every im walk.directory) at.block) ≡ None) → (walk.names ≡ Files → more ≡ 0)
      → AreDistinct (map said later.records.items) → IsSoundLeaf im walk.directory at.hash at.block → IsWalked im walk.directory later
  walked_fresh later claim owner index entered tail more are summed names plain files distinct sound =
      let h = every im walk.directory in
      let rs = are.kept in
      let added = are.added in
      let only = leaves_entered walk.directory walk.owners.entries.items later.owners.entries.items at.block claim true entered in
      let on_now = on later claim owner index true entered in
      let mine_now = mine later claim owner index true entered in
      let now : AreChained h later.owners.entries.items (Some at.block) = elim of.next [
        | inl behind ↦
            let b = behind.2 in
            let opened = at_some walk.tail behind.0 (IsOpen im walk.directory walk) behind.1 of.walked.opened in
            let chained = subst (λ o. AreChained h walk.owners.entries.items (block_of o)) behind.1 of.walked.chained in
            chained_next (λ (o : Owner). o ≡ owner_of claim) h walk.owners.entries.items later.owners.entries.items on_now behind.0.block behind.0.hash behind.0.place at.block chained opened.claimed
            (sym (ap (λ (l : Leaf). l.next) opened.is.head) ∙ sym b.block)
            (transport (λ k. HasClaim later.owners.entries.items at.block (Chained walk.directory (b.hash k) (b.place k))) mine_now) only
        | inr begins ↦ chained_first (λ (o : Owner). o ≡ owner_of claim) h walk.owners.entries.items later.owners.entries.items on_now at.block (closed begins.0) only
      ] in
      record {
        claims = claims_now later claim owner index true entered;
        within = within_now later claim owner index true entered;
        headed = headed_now later claim owner index true entered;
        chained = subst (λ o. AreChained h later.owners.entries.items (block_of o)) (sym tail) now;
        opened = subst (λ o. IfSome o (IsOpen im walk.directory later)) (sym tail) (record { is = of.leaf; claimed = mine_now });
        passed = λ j place y before chain.
            let here : ComesBefore j place at.pointer (at.place + 1) = subst (λ o. IsPassed o later.index j place) tail before in
            elim (split_before j place at.pointer at.place here) [
              | inl earlier ↦ kept later claim owner index true entered y (Chained walk.directory (first_hash h j) place) (came_before j place y earlier chain)
              | inr itself ↦
                  let same : at.block ≡ y = chain_same h at.pointer at.place at.block y of.leaf.chain (transport (λ k. IsInChain h (itself.0 k) (itself.1 k) y) chain) in
                  transport (λ k. HasClaim later.owners.entries.items (same k) (Chained walk.directory ((of.leaf.hash ∙ ap (first_hash h) (sym itself.0)) k) (sym itself.1 k))) mine_now
            ];
        sound = λ x hash place has. elim (only x hash place has) [
          | inl was ↦ of.walked.sound x hash place was
          | inr e ↦
              let same = one_claim later.owners.entries.items at.block walk.directory at.hash at.place hash place mine_now (subst (λ n. HasClaim later.owners.entries.items n (Chained walk.directory hash place)) e has) in
              subst (λ n. IsSoundLeaf im walk.directory hash n) (sym e) (subst (λ m. IsSoundLeaf im walk.directory m at.block) same.0 sound)
        ];
        pointed = pointed_now later index;
        deep = λ x hash place has not_open more. elim (only x hash place has) [
          | inl was ↦ deep_now x hash place was (λ e. no_some x e) more
          | inr e ↦ absurd (subst (λ o. o ≢ Some x) (ap block_of tail) not_open (ap Some (sym e)))
        ];
        listed = λ none x hash place has r there. elim (only x hash place has) [
          | inl was ↦
              let one = of.walked.listed (omega (arith, none, summed)) x hash place was r there in
              let m = kept_at walk.records.items later.records.items (map (λ (r : Record). (r, at.block)) rs) added one.0 one.1.0 one.1.1 in
              (one.0, (m.0, m.1, ap (λ (p : Record × ℕ). p.0) m.2 ∙ one.1.2, ap (λ (p : Record × ℕ). p.1) m.2 ∙ one.1.3))
          | inr e ↦
              let whole : rs ≡ leaf_records h at.block = are.all (omega (arith, none, summed)) in
              let mine_there : Contains rs r = subst (λ xs. Contains xs r) (sym whole) (subst (λ n. Contains (leaf_records h n) r) e there) in
              let m = new_at walk.records.items later.records.items (map (λ (r : Record). (r, at.block)) rs) added mine_there.0 (r, at.block) (mapped_at (λ (q : Record). (q, at.block)) rs mine_there.0 r (contains_at rs r mine_there)) in
              (m.0, (m.1.0, m.1.1, ap (λ (p : Record × ℕ). p.0) m.1.2, ap (λ (p : Record × ℕ). p.1) m.1.2 ∙ sym e))
        ];
        found = λ k n there. elim (which_at walk.records.items later.records.items (map (λ (r : Record). (r, at.block)) rs) added k n there) [
          | inl old ↦
              let f = of.walked.found k old.0 old.1 in
              found_record im walk.directory later.owners.entries.items n (subst (IsFoundAt im walk.directory later.owners.entries.items) old.2
              (f.stands, (f.leaf.0, f.leaf.1, kept later claim owner index true entered old.0.block (Chained walk.directory f.leaf.0 f.leaf.1) f.leaf.2), f.reached))
          | inr new ↦
              let r = from_mapped (λ (q : Record). (q, at.block)) rs new.0 (standing n) new.1 in
              let area = of_leaf at.block (of.leaf.claimed.0, at.hash, at.place, of.leaf.claimed.1) in
              found_record im walk.directory later.owners.entries.items n (subst (IsFoundAt im walk.directory later.owners.entries.items) r.2
              ((leaf_area h at.block, area, are.there r.0 (at_contains rs new.0 r.0 r.1)), (at.hash, at.place, mine_now), of.leaf.reached))
        ];
        distinct = distinct;
        leaves = leaves_more im walk.directory walk.owners.entries.items later.owners.entries.items at.block at.hash at.place claim owner (map said walk.records.items) rs (map said later.records.items) walk.others more later.others of.walked.leaves entered
            (said_added walk.records.items later.records.items at.block rs added) are.count are.all summed;
        beside = λ some. subst (λ ns. HasBeside im walk.directory ns later.owners.entries.items) (sym names) (elim (cases_lt 0 more) [
          | inl here ↦
              let b = are.beside here in
              record { block = at.block; hash = at.hash; place = at.place; claimed = mine_now; row = b.0; there = b.1; beside = b.2 }
          | inr none ↦
              let b = of.walked.beside (omega (arith, some, none, summed)) in
              record {
                block = b.block;
                hash = b.hash;
                place = b.place;
                claimed = kept later claim owner index true entered b.block (Chained walk.directory b.hash b.place) b.claimed;
                row = b.row;
                there = b.there;
                beside = b.beside;
              }
        ]);
        plain = λ is x hash place has. elim (only x hash place has) [
          | inl was ↦ of.walked.plain (sym names ∙ is) x hash place was
          | inr e ↦ ap (λ n. first_other (leaf_records h n)) e ∙ plain (sym names ∙ is)
        ];
        files = λ is. omega (arith, summed, files (sym names ∙ is), of.walked.files (sym names ∙ is));
      }
    where
      split_before : (j place i p : ℕ) → ComesBefore j place i (p + 1) → ComesBefore j place i p ⊎ ((j ≡ i) × (place ≡ p))
      split_before j place i p (inl less) = inl (inl less)
      split_before j place i p (inr same) = elim (cases_lt place p) [
        | inl less ↦ inl (inr (same.0, less))
        | inr past ↦ inr (same.0, omega (arith, same.1, past))
      ]

-- ---- the end of a walk

-- what was come to is a leaf of the directory
pub leaf_of_walk : (im : Image) (a : ℕ) (walk : LeafWalk) (w : IsWalked im a walk) (x : ℕ) → Contains w.leaves.leaves x → HasLeaf im a x
leaf_of_walk im a walk w x there =
    let c = w.leaves.only x there in
    let from = claim_of im walk.owners.entries.items x (Chained a c.0 c.1) w.claims c.2 in
    (from.0, c.0, c.1, from.1)

-- the records of all leaves that were come to are those of the directory
pub leaves_have : (im : Image) (a : ℕ) (walk : LeafWalk) → IsHashedAt im a → HasDirectory im a → (w : IsWalked im a walk) → AreAllLeaves im a walk → HasRecords im a (flat_map (leaf_records (every im a)) w.leaves.leaves)
leaves_have im a walk hashed directory w all = from_leaves w.leaves.leaves directory hashed.1 (record {
  rise = w.leaves.rise;
  all = λ x leaf. w.leaves.all x leaf.1 leaf.2 (all leaf.0 x leaf.1 leaf.2 leaf.3);
  only = leaf_of_walk im a walk w;
})

pub counted_in : (im : Image) (a : ℕ) (walk : LeafWalk) → IsHashedAt im a → HasDirectory im a → IsWalked im a walk → AreAllLeaves im a walk → walk.others ≡ 0 → AreCountedIn im a (map said walk.records.items)
counted_in im a walk hashed directory w all none =
    (flat_map (leaf_records (every im a)) w.leaves.leaves, leaves_have im a walk hashed directory w all, w.leaves.count none, w.leaves.directories none)

pub all_leaves : (im : Image) (a count : ℕ) (walk : LeafWalk) → IsWalked im a walk → HasEnded walk count → count ≡ table_count (every im a) → AreAllLeaves im a walk
all_leaves im a count walk w ended count_is by x hash place claimed =
    let chained = closed_chained (every im a) walk.owners.entries.items walk.tail w.chained (opened_heads im a walk walk.tail w.opened) ended.0 in
    all_claimed im a walk.owners.entries.items by x hash place claimed chained (λ j low. w.headed j (omega (arith, low, count_is, ended.1)))

pub all_found : (im : Image) (a : ℕ) (walk : LeafWalk) → IsHashedAt im a → HasDirectory im a → IsWalked im a walk → AreAllLeaves im a walk → walk.others ≡ 0 → AreAllRecords im a walk.records.items
all_found im a walk hashed directory w all none = record {
  directory = directory;
  each = λ i n at. (w.found i n at).stands;
  reached = λ i n at. (w.found i n at).reached;
  all = λ x r has. from x has.0 has.1 r has.2;
}
  where
    from : (x : ℕ) (area : List ℕ) → HasArea im a x area → (r : Record) → Contains (records_in area) r → (i : ℕ) × ((n : Named) × (slice_get walk.records.items i ≡ Some n) × (said n ≡ r))
    from _ _ (behind_dinode dir linear) r there = absurd (not_both (is_hashed_in (every im a)) hashed.1 linear)
    from _ _ (of_leaf x leaf) r there =
        let one = w.listed none x leaf.1 leaf.2 (all leaf.0 x leaf.1 leaf.2 leaf.3) r there in
        (one.0, (one.1.0, one.1.1, one.1.2))

pub plain_records : (im : Image) (a : ℕ) (walk : LeafWalk) → IsHashedAt im a → HasDirectory im a → IsWalked im a walk → AreAllLeaves im a walk → walk.names ≡ Files → ArePlainRecords im a walk.records.items
plain_records im a walk hashed directory w all files = record {
  all = all_found im a walk hashed directory w all (w.files files);
  distinct = w.distinct;
  plain = λ i n at. let f = w.found i n at in plain f.stands f.leaf;
}
  where
    plain : {b : ℕ} {r : Record} → HasRecordIn im a b r → (hash place : ℕ) × HasClaim walk.owners.entries.items b (Chained a hash place) → is_other r ≡ false
    plain {b} {r} has leaf = from b has.0 has.1 has.2 leaf
      where
        from : (x : ℕ) (area : List ℕ) → HasArea im a x area → Contains (records_in area) r → (hash place : ℕ) × HasClaim walk.owners.entries.items x (Chained a hash place) → is_other r ≡ false
        from _ _ (behind_dinode dir linear) there leaf = absurd (not_both (is_hashed_in (every im a)) hashed.1 linear)
        from _ _ (of_leaf x claimed) there leaf =
            let rs = leaf_records (every im a) x in
            none_by_name is_other rs there.0 r (w.plain files x leaf.0 leaf.1 leaf.2) (contains_at rs r there)

-- ---- the start of a walk

pub walked_new : (im : Image) (a : ℕ) (walk : LeafWalk) → IsEmpty walk.owners.entries.items → walk.records.items ≡ [] → walk.others ≡ 0 → walk.index ≡ 0 → walk.tail ≡ None → IsWalked im a walk
walked_new im a walk empty records others index tail =
    let none : (x : ℕ) (o : Owner) → HasClaim walk.owners.entries.items x o → ⊥ = λ x o has. empty x has.claim has.there in
    let no_record : (k : ℕ) (n : Named) → slice_get walk.records.items k ≡ Some n → ⊥ = λ k n at. no_some n (sym (ap (λ l. slice_get l k) records) ∙ at) in
    record {
      claims = empty_claims im walk.owners.entries.items empty;
      within = omega (arith, index);
      headed = λ j low. absurd (omega (arith, low, index));
      chained = λ x hash place has not_open more. absurd (none x (Chained a hash place) has);
      opened = subst (λ o. IfSome o (IsOpen im a walk)) (sym tail) tt;
      passed = λ j place y before chain. absurd (omega (arith, index, subst (λ o. IsPassed o walk.index j place) tail before));
      sound = λ x hash place has. absurd (none x (Chained a hash place) has);
      pointed = λ j low. absurd (omega (arith, low, index));
      deep = λ x hash place has not_open more. absurd (none x (Chained a hash place) has);
      listed = λ zero x hash place has. absurd (none x (Chained a hash place) has);
      found = λ k n at. absurd (no_record k n at);
      distinct = λ i j r s at other same. absurd (let n = from_mapped said walk.records.items i r at in no_record i n.0 n.1);
      leaves = record {
        leaves = [];
        rise = unrise [] tt;
        only = λ x there. elim (is_in x [] there) [ ];
        all = λ x hash place has. absurd (none x (Chained a hash place) has);
        names = omega (arith, ap (λ xs. name_count (map said xs)) records, others);
        count = λ zero. sym (ap (λ xs. length (map said xs)) records);
        directories = λ zero. sym (ap (λ xs. directory_count (map said xs)) records);
      };
      beside = λ some. absurd (omega (arith, some, others));
      plain = λ files x hash place has. absurd (none x (Chained a hash place) has);
      files = λ files. others;
    }

-- ---- a walk over the directory whose inode was read

pub next_leaf_in : (im : Image) (inode : Inode) (table : HashTable) (walk : LeafWalk) (at : LeafAt) → IsTableOf im inode table → walk.directory ≡ inode.block → LooksFor im inode.block walk.names → IsWalked im inode.block walk → IsLeafIn im inode.block at
    → ComesNext walk at → IsNextLeaf im walk at
next_leaf_in im inode table walk at of is for w leaf next = record {
  format = of.file.format;
  looked = subst (IsLookedAt im) (sym is) (hashed_looked im inode.block of.file.right of.hashed of.sized);
  hashed = subst (IsHashedAt im) (sym is) (table_hashed im inode table of);
  leaf = subst (λ a. IsLeafIn im a at) (sym is) leaf;
  next = next;
  walked = subst (λ a. IsWalked im a walk) (sym is) w;
  master = λ files. is ∙ for files;
}

-- ---- the leaves that were read

-- nothing is claimed yet
pub none_read : (a : ℕ) (k : Kept) (entries : List (Option Claim)) → IsEmpty entries → (x hash place : ℕ) → HasClaim entries x (Chained a hash place) → IsTaken k x
none_read a k entries empty x hash place has = absurd (empty x has.claim has.there)

entries_other : (old : List (Option Claim)) (block x : ℕ) (claim : Claim) (fresh : Bool) → block ≢ x → slice_get (if fresh then slice_set old block (Some claim) else old) x ≡ slice_get old x
entries_other old block x claim true other = got_other old block x (Some claim) other
entries_other old block x claim false other = refl

-- one more is, which was read
pub read_more : (old new : List (Option Claim)) (a block : ℕ) (claim : Claim) (fresh : Bool) (k : Kept) → new ≡ (if fresh then slice_set old block (Some claim) else old)
    → ((x hash place : ℕ) → HasClaim old x (Chained a hash place) → IsTaken k x) → IsTaken k block → (x hash place : ℕ) → HasClaim new x (Chained a hash place) → IsTaken k x
read_more old new a block claim fresh k is before here x hash place has = elim (cases_eq block x) [
  | inl same ↦ subst (IsTaken k) same here
  | inr other ↦
      before x hash place (record { claim = has.claim; there = sym (entries_other old block x claim fresh other) ∙ ap (λ es. slice_get es x) (sym is) ∙ has.there; owner = has.owner })
]

module _ (im : Image) (inode : Inode) (table : HashTable) (walk : LeafWalk) (of : IsTableOf im inode table) (w : IsWalked im inode.block walk) (ended : HasEnded walk (2 ^ table.depth)) where
  pub came_all : AreAllLeaves im inode.block walk
  came_all = all_leaves im inode.block (2 ^ table.depth) walk w ended (ap (λ d. 2 ^ d) of.depth)

  pub walk_leaves : HasSoundLeaves im inode.block
  walk_leaves = record {
    table = of.headed;
    pointers = λ i low. w.pointed i (omega (arith, low, ended.1, ap (λ d. 2 ^ d) of.depth));
    leaves = λ by x hash place claimed. (w.sound x hash place (came_all by x hash place claimed)).leaf;
    depths = λ by x hash place claimed more.
        deep_closed (every im inode.block) walk.owners.entries.items walk.tail w.deep (opened_heads im inode.block walk walk.tail w.opened) ended.0 x hash place (came_all by x hash place claimed) (λ e. no_some x e) more;
    once = λ by by' x hash hash' place place' first second.
        one_claim walk.owners.entries.items x inode.block hash place hash' place' (came_all by x hash place first) (came_all by' x hash' place' second);
  }

  pub gone_over : IsGoneOver im inode.block walk
  gone_over = record { hashed = table_hashed im inode table of; directory = file_has im inode of.file; walked = w; all = came_all; sized = of.sized; leaves = walk_leaves }

-- ---- a leaf that is entered

-- a block that is claimed otherwise
pub clash_told : (im : Image) (entries : List (Option Claim)) (x by : ℕ) (claim : Claim) (found : ImageFault) → HasFormat im → IsReached im x → AreClaims im entries → Claims im by x (owner_of claim) → IsPlaced im x (owner_of claim) → IsClash entries x claim found
    → RefusesRightly im (of_image found)
clash_told im entries x by claim (image.Damaged block rule) format reached claims claimed placed c =
    let here : block ≡ x = elim c.told [ inl three ↦ same_block block rule x 3 three.0 | inr fifteen ↦ same_block block rule x 15 fifteen.0 ] in
    (clash im entries x by claim (image.Damaged block rule) reached.inside claims claimed placed c, come_to rule block format (subst (IsReached im) (sym here) reached))
  where
    same_block : (b r c s : ℕ) → image.Damaged b r ≡ image.Damaged c s → b ≡ c
    same_block b r c s e = cc
clash_told im entries x by claim image.NoMemory format reached claims claimed placed c = tt

pub told_next : (im : Image) (walk : LeafWalk) (at : LeafAt) → IsNextLeaf im walk at → IsTold im walk.names walk.directory at
told_next im walk at of = record {
  format = of.format;
  leaf = of.leaf;
  first = λ files. record { master = of.master files; looked = of.looked; hashed = of.hashed; before = none_before im walk at of files };
}

-- by the claim that is entered the leaf is claimed
pub owned_by : (im : Image) (walk : LeafWalk) (at : LeafAt) (of : IsNextLeaf im walk at) → Claims im of.leaf.claimed.0 at.block (Chained walk.directory at.hash at.place)
owned_by im walk at of = of.leaf.claimed.1

pub short_kept : (tail : Option LeafAt) (free less n m : ℕ) → IfSome tail (λ at. at.place + free ≤ n) → less + 1 ≡ free → m ≡ n → IfSome tail (λ at. at.place + less ≤ m)
short_kept None free less n m short fell same = tt
short_kept (Some at) free less n m short fell same = omega (arith, short, fell, same)

-- what is told of the records of a leaf, where one has another name
pub other_told : (im : Image) (a : ℕ) (at : LeafAt) (f : MountFault) (other : ℕ) (records : List Named) (o : Option ℕ) → HasFormat im → IsLeafIn im a at → IsFirstTold im a at → map said records ≡ records_in (drop 104 (im.at at.block))
    → f ≡ fault.NotProfile field.Master other → o ≡ option_map (λ (r : Record). r.address) (first_other (map said records)) → o ≡ Some other → RefusesRightly im f
other_told im a at f other records o format leaf told_first read is found some =
    let first = mapped_some (λ (r : Record). r.address) (first_other (map said records)) other (sym found ∙ some) in
    let here : first_other (leaf_records (every im a) at.block) ≡ Some first.0 = ap first_other (sym read) ∙ first.1 in
    let is_first : IsFirstOther im a first.0 = in_leaf at.pointer at.place at.block first.0 told_first.hashed leaf.chain here told_first.before in
    told_outside im f field.Master other is (subst (IsOutside im field.Master) first.2 (outside.master first.0 format (subst (IsLookedAt im) told_first.master told_first.looked) (subst (λ b. IsFirstOther im b first.0) told_first.master is_first)))

-- a claim that is new leaves one block less
pub fell : (fresh : Bool) (less free : ℕ) → fresh ≡ true → less + (if fresh then 1 else 0) ≡ free → less + 1 ≡ free
fell true less free is e = e
fell false less free is e = absurd (let no : false ≡ true = is in cc)
