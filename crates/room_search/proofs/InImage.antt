-- What a search for free blocks tells, in an image that the view may be of.
use Rattle.std.proofs.Common.{◌≡◌, ℕ, zero, suc, ◌+◌, ◌<◌, ◌≤◌, ◌==◌, Bool, List, [], ◌∷◌, ◌++◌, length, map, slice_get, Some, inl, inr, refl, sym, ap, ap₂, subst, ◌∙◌, arith}
use Rattle.std.proofs.lemmas.List.FromFn.{get_or-map-range_with_len}
use Rattle.std.specs.Prelude.{nat_lt, if◌then◌else◌, filter, slice_index_or, take, Contains}
use Rattle.std.specs.List.{range_with_len}
use Rattle.file_tree.specs.Tree.{Tree}
use Rattle.gfs2_layout.specs.Groups.{count_of}
use Rattle.gfs2_layout.specs.Headers.{HasHeader}
use Rattle.gfs2_layout.specs.declared.rindex.Rindex.{Rindex}
use Rattle.glock_names.specs.Views.{Seen, HasGroup, group_of_entry}
use Rattle.glock_names.specs.declared.State.TheVariants.{Ex}
use Rattle.glock_names.specs.declared.steps.Missing.{Missing}
use Rattle.glock_names.specs.declared.views.Group.{Group}
use Rattle.resource_groups.specs.Shown.{IsShown, blocks_of, said, group_lock}
use Rattle.resource_groups.specs.Shown as group
use Rattle.image_model.specs.Groups.{IsListed, IsHeaderOf, GroupFits}
use Rattle.image_model.specs.Image.{Image}
use Rattle.image_model.specs.Owners.{Owners, InGroup}
use Rattle.image_model.specs.Stands.{Layout}
use Rattle.image_model.proofs.Members.{IsIn, contained}
use Rattle.image_changes.specs.Changes.{cover, is_free}
use Rattle.image_changes.specs.Does.{IsOf, is_content_of}
use Rattle.path_walks.specs.Resizing.{IsSaidFree}
use Rattle.path_walks.proofs.Rows.{state_said}
use Rattle.path_walks.proofs.Views.{groups_are_listed}
use Rattle.path_walks.specs.Holds.{Hold, AreHeld, IsAskedFor, IsFirstLack, hold_of_group}
use Rattle.room_search.specs.Blocks.{States, blocks_of_first, first_holds, free_first, free_for, free_in, free_in_all, group_holds, group_of_node, group_or_none, holds_of_first, own_first, room_blocks, room_holds, states_by}
use Rattle.room_search.specs.Searches.{AreShown, IsFoundOfIn, IsFreeUnder, IsGroupBlock, IsGroupBroken, IsListedUnder, IsTakenOf, IsUnder}
use Rattle.room_search.specs.Parts.{AreGroupsOf}
use Rattle.room_search.specs.declared.search.Locked.{Locked}
use Rattle.room_search.specs.declared.search.Locked.TheVariants as locked
use Rattle.room_search.specs.declared.search.Taken.{Taken}
use Rattle.room_search.specs.declared.search.Taken.TheVariants as taken
use Rattle.room_search.proofs.Room.{all_listed, one_of}

-- ---- lists of free blocks by two tables

filter_same : (p q : ℕ → Bool) (n a : ℕ) → ((b : ℕ) → a ≤ b → b < a + n → p b ≡ q b) → filter p (range_with_len a n) ≡ filter q (range_with_len a n)
filter_same p q zero a same = refl
filter_same p q (suc n) a same =
    ap₂ (λ t xs. if t then a ∷ xs else xs) (same a (omega arith) (omega arith)) (filter_same p q n (a + 1) (λ b low high. same b (omega (arith, low)) (omega (arith, high))))

all_same : (s s' : States) (gs : List Rindex) → ((i : ℕ) (g : Rindex) → slice_get gs i ≡ Some g → free_in s (group_of_entry g) ≡ free_in s' (group_of_entry g))
    → free_in_all s (map group_of_entry gs) ≡ free_in_all s' (map group_of_entry gs)
all_same s s' [] each = refl
all_same s s' (g ∷ gs) each = ap₂ (λ xs ys. xs ++ ys) (each 0 g refl) (all_same s s' gs (λ i h there. each (suc i) h there))

-- block k of a group
block_in : (at : ℕ → List ℕ) (g : Group) (k : ℕ) → k < g.length → slice_index_or (blocks_of at g) k [] ≡ at (g.addr + k)
block_in at g k low = get_or-map-range_with_len at g.addr g.length k (g.addr + k) [] low refl

module _ (v : Seen) (im : Image) (o : Owners) (l : Layout) (t : Tree) (of : IsOf v im o l t) where
  pub shown_listed : (g : Rindex) → IsListed l.groups g → IsShown v (group_of_entry g) im.at
  shown_listed g listed =
      let fits : GroupFits im g = of.stands.laid.fit.each g listed in
      record {
        whole = λ b h. of.stands.laid.image.whole b (omega (arith, h.high, fits.first, fits.inside)) ∙ of.size;
        same = λ b bytes h e. of.agrees b bytes e;
      }

  -- the image's groups are shown
  pub are_shown : AreShown v im.at
  are_shown k has =
      let g = (groups_are_listed v im o l t k of).0 has in
      subst (λ x. IsShown v x im.at) (sym g.2) (shown_listed g.0 g.1)

  free_said : (g : Rindex) → IsListed l.groups g → free_in (said im.at) (group_of_entry g) ≡ free_in (states_by o) (group_of_entry g)
  free_said g listed = filter_same (λ b. said im.at (group_of_entry g) b == 0) (λ b. states_by o (group_of_entry g) b == 0) g.data_blocks g.data0
      (λ b low high. ap (λ n. n == 0) (state_said im o l of.stands.laid g listed b (record { low = low; high = high })))

  pub all_said : free_in_all (said im.at) (map group_of_entry l.groups) ≡ free_in_all (states_by o) (map group_of_entry l.groups)
  all_said = all_same (said im.at) (states_by o) l.groups (λ i g there. free_said g (i, there))

  own_said : (own : Group) → HasGroup v own → free_in (said im.at) own ≡ free_in (states_by o) own
  own_said own has =
      let g = (groups_are_listed v im o l t own of).0 has in
      subst (λ k. free_in (said im.at) k ≡ free_in (states_by o) k) (sym g.2) (free_said g.0 g.1)

  first_said : (first : List Group) → AreGroupsOf v first → free_in_all (said im.at) first ≡ free_in_all (states_by o) first
  first_said first of_view = by first (λ g there. of_view g (contained g first there))
    where
      by : (gs : List Group) → ((g : Group) → IsIn g gs → HasGroup v g) → free_in_all (said im.at) gs ≡ free_in_all (states_by o) gs
      by [] each = refl
      by (g ∷ gs) each = ap₂ (λ xs ys. xs ++ ys) (own_said g (each g (inl refl))) (by gs (λ k there. each k (inr there)))

  -- the locks are those by the owners
  pub holds_said : (first : List Group) (need : ℕ) → AreGroupsOf v first → first_holds (said im.at) v.groups first need ≡ holds_of_first o l first need
  holds_said first need of_view =
      ap (λ groups. first_holds (said im.at) groups first need) (sym of.groups)
      ∙ ap (λ xs. if need == 0 then [] else map hold_of_group first ++ (if nat_lt (length xs) need then map hold_of_group (map group_of_entry l.groups) else [])) (first_said first of_view)

  -- and so are the blocks
  pub blocks_said : (first : List Group) (need : ℕ) → AreGroupsOf v first → free_first (said im.at) v.groups first need ≡ blocks_of_first o l first need
  blocks_said first need of_view =
      ap (λ groups. free_first (said im.at) groups first need) (sym of.groups) ∙ ap₂ (λ xs ys. take need (if nat_lt (length xs) need then ys else xs)) (first_said first of_view) all_said

  pub own_is : (node : ℕ) (own : Group) → group_of_node v.groups node ≡ Some own → own_first l node ≡ own ∷ []
  own_is node own is = ap group_or_none (ap (λ gs. group_of_node gs node) of.groups ∙ is)

  pub room_holds_are : (node : ℕ) (own : Group) (need : ℕ) → group_of_node v.groups node ≡ Some own → HasGroup v own → group_holds (said im.at) v.groups own need ≡ room_holds o l node need
  room_holds_are node own need is has = holds_said (own ∷ []) need (one_of v own has) ∙ sym (ap (λ first. holds_of_first o l first need) (own_is node own is))

  pub room_blocks_are : (node : ℕ) (own : Group) (need : ℕ) → group_of_node v.groups node ≡ Some own → HasGroup v own → free_for (said im.at) v.groups own need ≡ room_blocks o l node need
  room_blocks_are node own need is has = blocks_said (own ∷ []) need (one_of v own has) ∙ sym (ap (λ first. blocks_of_first o l first need) (own_is node own is))

  -- a block of a group that is asked for
  pub group_asked : (list : List Hold) (m : Missing) → IsGroupBlock v list m → IsAskedFor v im o l list m
  group_asked list m is = record {
    absent = is.missing.absent;
    covered = ap (cover l m.block) row ∙ ap (λ (k : Group). Some (group_lock k)) (sym g.2) ∙ ap Some (sym is.missing.lock);
    used = ap is_free row;
    plain = is.missing.plain ∙ sym (ap (is_content_of im o) row);
    state = Ex;
    front = is.front;
    back = is.back;
    split = is.split;
    held = is.held;
  }
    where
      g : (g : Rindex) × IsListed l.groups g × (is.group ≡ group_of_entry g)
      g = (groups_are_listed v im o l t is.group of).0 is.has

      header : IsHeaderOf g.0 m.block
      header = let at = ap (λ (k : Group). k.addr) g.2 in let long = ap (λ (k : Group). k.length) g.2 in record { low = omega (arith, is.missing.own.low, at); high = omega (arith, is.missing.own.high, at, long) }

      row : o m.block ≡ InGroup g.0.address
      row = of.stands.laid.zoned.headers g.0 g.1 m.block header

  -- a block that is found is free by its group's bits
  pub said_free : (list : List Hold) (b : ℕ) → IsFreeUnder v (said im.at) list b → IsSaidFree im l b
  said_free list b is =
      let g = (groups_are_listed v im o l t is.group of).0 is.has in
      let first = ap (λ (k : Group). k.first) g.2 in
      let count = ap (λ (k : Group). k.count) g.2 in
      record {
        group = g.0;
        listed = g.1;
        data_block = record { low = omega (arith, is.data_block.low, first); high = omega (arith, is.data_block.high, first, count) };
        free = subst (λ k. said im.at k b ≡ 0) g.2 is.free;
      }

  -- and its group's lock is of the list
  listed_under : (list list' : List Hold) → list ≡ list' → (b : ℕ) → IsFreeUnder v (said im.at) list b → IsListedUnder l list' b
  listed_under list list' same b is =
      let g = (groups_are_listed v im o l t is.group of).0 is.has in
      let first = ap (λ (k : Group). k.first) g.2 in
      let count = ap (λ (k : Group). k.count) g.2 in
      record {
        group = g.0;
        listed = g.1;
        data_block = record { low = omega (arith, is.data_block.low, first); high = omega (arith, is.data_block.high, first, count) };
        among = subst (λ (xs : List Hold). Contains xs (hold_of_group (group_of_entry g.0))) same (subst (λ (k : Group). Contains list (hold_of_group k)) g.2 is.listed);
      }

  -- all groups are held where too few blocks are free
  pub found_in : (first : List Group) (need : ℕ) (r : Locked Taken) → AreGroupsOf v first → IsUnder v (first_holds (said im.at) v.groups first need) (IsTakenOf v (said im.at) v.groups first need) r
      → IsFoundOfIn v im o l first need r
  found_in first need (locked.Is (taken.Is blocks)) of_view found = (
    subst (AreHeld v) (holds_said first need of_view) found.0,
    record {
      are = found.1.are ∙ blocks_said first need of_view;
      many = found.1.many;
      rise = found.1.rise;
      free = λ b there. said_free (first_holds (said im.at) v.groups first need) b (found.1.each b there);
      under = λ b there. listed_under (first_holds (said im.at) v.groups first need) (holds_of_first o l first need) (holds_said first need of_view) b (found.1.each b there);
    },
  )
  found_in first need (locked.Is (taken.TooFew free)) of_view found = (
    subst (AreHeld v) (holds_said first need of_view) found.0,
    record {
      groups = subst (λ gs. AreHeld v (map hold_of_group gs)) (sym of.groups) (all_listed v (said im.at) first need found.1.fewer_first found.0);
      free_are = found.1.free_are ∙ ap (λ gs. length (free_in_all (said im.at) gs)) (sym of.groups) ∙ ap length all_said;
      fewer = found.1.fewer;
    },
  )
  found_in first need (locked.NeedLock lock state) of_view found = subst (λ list. IsFirstLack v list lock state) (holds_said first need of_view) found
  found_in first need (locked.NeedBlock m) of_view found =
      group_asked (holds_of_first o l first need) m (subst (λ list. IsGroupBlock v list m) (holds_said first need of_view) found)

  -- a group breaks no rule
  unbroken_group : (g : Rindex) → IsListed l.groups g → (rule b : ℕ) → group.IsBroken im.at (group_of_entry g) rule b → ⊥
  unbroken_group g listed rule b (group.no_header zero low lacks) = lacks (subst (HasHeader 2 200) (block_in im.at (group_of_entry g) 0 low) (of.stands.laid.groups g listed).header)
  unbroken_group g listed rule b (group.no_header (suc k) low lacks) = lacks (subst (HasHeader 3 300) (block_in im.at (group_of_entry g) (suc k) low) ((of.stands.laid.groups g listed).more (suc k) (omega arith) low))
  unbroken_group g listed rule b (group.wrong_free other) = other ((of.stands.laid.groups g listed).free ∙ ap (count_of 0) (sym (of.stands.laid.groups g listed).bits))
  unbroken_group g listed rule b (group.wrong_dinodes other) = other ((of.stands.laid.groups g listed).dinodes ∙ ap (count_of 3) (sym (of.stands.laid.groups g listed).bits))

  pub group_sound : (rule b : ℕ) → IsGroupBroken v rule b → ⊥
  group_sound rule b is =
      let f = (groups_are_listed v im o l t is.group of).0 is.has in
      unbroken_group f.0 f.1 rule b (subst (λ k. group.IsBroken im.at k rule b) f.2 (is.broken im.at (subst (λ k. group.IsShown v k im.at) (sym f.2) (shown_listed f.0 f.1))))
