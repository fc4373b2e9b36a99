-- The draft of a removal, in an image that the view may be of: it removes the name there.
use Rattle.std.proofs.Common.{◌≡◌, ◌≢◌, ◌⊎◌, ◌↔◌, inl, inr, ℕ, Bool, true, false, List, [], ◌∷◌, length, Option, None, Some, refl, sym, ap, ◌∙◌, subst, arith}
use Rattle.std.proofs.lemmas.Bool.{cases_Bool, cases_eq, cond-true, cond-false}
use Rattle.std.proofs.lemmas.List.{length-append}
use Rattle.std.specs.Prelude.{Contains, IsSome, if◌then◌else◌, unwrap_or}
use Rattle.std.specs.Ordering.{nat_cmp}
use Rattle.std.specs.FinMap.{FinMap, get}
use Rattle.file_tree.specs.Tree.{Tree}
use Rattle.drafts.specs.Fates.{AreWhole, block_with, seen_with}
use Rattle.drafts.specs.declared.change.Change.{Change}
use Rattle.drafts.specs.declared.fate.Fate.{Fate}
use Rattle.drafts.specs.declared.fate.Fate.TheVariants.{Put}
use Rattle.gfs2_layout.specs.Holding.{Itself, Part, part_at}
use Rattle.gfs2_layout.specs.Inode.{IsInode}
use Rattle.gfs2_layout.specs.Records.{Record, record_named}
use Rattle.gfs2_layout.specs.States.{AreStatesPut, places_in}
use Rattle.gfs2_layout.specs.declared.rindex.Rindex.{Rindex}
use Rattle.glock_names.specs.Views.{Seen, HasGroup, group_of_entry}
use Rattle.linear_dirs.specs.Exchanges.{HasExchanged}
use Rattle.resource_groups.specs.Freeing.{HasSome}
use Rattle.resource_groups.specs.Shown as group
use Rattle.resource_groups.specs.Putting.{overlaid}
use Rattle.resource_groups.proofs.Freed.{long_bitmap}
use Rattle.resource_groups.proofs.PutIn.{puts_say}
use Rattle.image_model.specs.Flat.{Path}
use Rattle.image_model.specs.Groups.{IsListed, IsHeaderOf, IsGroup, group_blocks, states_of, state_of}
use Rattle.image_model.specs.Image.{Image}
use Rattle.image_model.specs.Owners.{Owners, Free, is_dinode, part_in, cell_of, cell_in, holding}
use Rattle.image_model.specs.Stands.{Layout, flat_of}
use Rattle.image_model.proofs.Held.{none_some, some_same, own_part}
use Rattle.image_model.proofs.Members.{contained, is_in}
use Rattle.image_changes.specs.Changes.{inode_of}
use Rattle.image_changes.specs.Does.{IsOf}
use Rattle.image_changes.specs.Drafted.{with_draft}
use Rattle.image_changes.specs.Flats.{in_directory}
use Rattle.image_changes.specs.Instances.{IsAt, IsChildless, among, records_at}
use Rattle.image_changes.proofs.FlatPaths.{one_path}
use Rattle.image_changes.proofs.Frame.{dinode_its}
use Rattle.image_changes.proofs.Laid.{root_named}
use Rattle.image_changes.proofs.Nodes.{among_in, in_among}
use Rattle.image_changes.proofs.States.{map_same, blocks_are_freed}
use Rattle.draft_changes.specs.Groups.{PutsGroup, IsPutUnder}
use Rattle.draft_changes.specs.Removing as removing
use Rattle.draft_changes.specs.Removing.{states_without}
use Rattle.draft_changes.proofs.Rows.{cell_its, its_cell, part_its}
use Rattle.draft_changes.proofs.Views.{shows_inodes, shows_blocks, groups_are_listed}
use Rattle.path_walks.proofs.Images.{is_inode, shown_inode}
use Rattle.directory_changes.specs.Growing.{IsPutOrLeft}
use Rattle.directory_changes.specs.Shrinking.{ShrinksByName}
use Rattle.removing_calls.specs.Drafting.{IsRemoval}
use Rattle.removing_calls.specs.Removing.{Goes}
use Rattle.removing_calls.proofs.Found.{own_blocks, record_its, sound_hashed}
use Rattle.removing_calls.proofs.Lists.{named_so}
use Rattle.removing_calls.proofs.Taken.{lacks_record}

module _ {V : Type 0} (seen : V → Seen) (view : V) (im : Image) (o : Owners) (l : Layout) (t : Tree) (of : IsOf (seen view) im o l t) (front : Path) (p : ℕ) (name : List ℕ) (a : ℕ)
    (at : IsAt im o l front p) (at_a : IsAt im o l (in_directory front name) a) (r : Record) (named : record_named (records_at im o p) name ≡ Some r)
    (childless : IsChildless im o a) (blocks : List ℕ) (goes : (b : ℕ) → Contains blocks b ↔ Goes (holding im o a) b)
    {time : ℕ} (change : Change) (is : IsRemoval seen view p name time blocks change) where
  abbrev v : Seen
  v = seen view

  abbrev second : FinMap nat_cmp Fate
  second = is.fates

  abbrev pub fates : FinMap nat_cmp Fate
  fates = is.freed.fates

  so_a : is_dinode (o a) ≡ true
  so_a = is_inode v im o l t of (in_directory front name) a at_a

  so_p : is_dinode (o p) ≡ true
  so_p = is_inode v im o l t of front p at

  sound_p : IsInode (holding im o p)
  sound_p = of.stands.laid.inodes p so_p

  -- ---- the inode's blocks

  own : (b : ℕ) → Contains blocks b ↔ IsSome ((holding im o a).cell b)
  own = own_blocks v im o l t of (in_directory front name) a at_a blocks goes

  its : (b : ℕ) → Contains blocks b → inode_of b (o b) ≡ Some a
  its b c = cell_its im o a b ((own b).0 c)

  apart : p ≢ a
  apart e =
      let same : front ≡ in_directory front name = one_path (flat_of im o) _ l.root (root_named im o l of.stands.laid) front (in_directory front name) p at (at_a ∙ ap Some (sym e)) in
      absurd (omega (arith, ap length same, length-append front (name ∷ [])))

  -- a block of the directory is none of these, and none of a group
  not_these : (b : ℕ) → inode_of b (o b) ≡ Some p → ¬ (Contains blocks b)
  not_these b e c = apart (some_same (sym e ∙ its b c))

  not_header : (b : ℕ) → inode_of b (o b) ≡ Some p → (g : Rindex) → IsListed l.groups g → ¬ (IsHeaderOf g b)
  not_header b e g listed h = none_some (sym (ap (inode_of b) (of.stands.laid.zoned.headers g listed b h)) ∙ e)

  p_its : inode_of p (o p) ≡ Some p
  p_its = dinode_its p (o p) so_p

  -- ---- groups of the view and of the image

  header_so : (g : Rindex) (b : ℕ) → group.IsHeaderOf (group_of_entry g) b → IsHeaderOf g b
  header_so g b h = record { low = h.low; high = h.high }

  so_header : (g : Rindex) (b : ℕ) → IsHeaderOf g b → group.IsHeaderOf (group_of_entry g) b
  so_header g b h = record { low = h.low; high = h.high }

  some_so : (g : Rindex) → HasSome (group_of_entry g) blocks → removing.HasSome g blocks
  some_so g s = (s.0, s.1, record { low = s.2.low; high = s.2.high })

  so_some : (g : Rindex) → removing.HasSome g blocks → HasSome (group_of_entry g) blocks
  so_some g s = (s.0, s.1, record { low = s.2.low; high = s.2.high })

  has_group : (g : Rindex) → IsListed l.groups g → HasGroup v (group_of_entry g)
  has_group g listed = (groups_are_listed v im o l t (group_of_entry g) of).1 (g, listed, refl)

  -- ---- what is freed is nothing else

  rest_stays : (b : ℕ) → ¬ (Contains blocks b) → ((g : Rindex) → IsListed l.groups g → removing.HasSome g blocks → ¬ (IsHeaderOf g b)) → get fates b ≡ get second b
  rest_stays b other away = is.freed.rest.others b other (λ k has some head.
      let f = (groups_are_listed v im o l t k of).0 has in
      away f.0 f.1 (some_so f.0 (subst (λ x. HasSome x blocks) f.2 some)) (header_so f.0 b (subst (λ x. group.IsHeaderOf x b) f.2 head)))

  pub stays_at : (b : ℕ) → inode_of b (o b) ≡ Some p → get fates b ≡ get second b
  stays_at b e = rest_stays b (not_these b e) (λ g listed some. not_header b e g listed)

  -- what was put before are blocks of the directory
  leaf_its : inode_of is.leaf (o is.leaf) ≡ Some p
  leaf_its = record_its v im o l t of front p is.leaf name at (is.taken.taken.from (holding im o p) (shown_inode v im o l t of front p at))

  second_none : (b : ℕ) → ¬ (inode_of b (o b) ≡ Some p) → get second b ≡ None
  second_none b other = is.taken.others b (λ e. other (subst (λ c. inode_of c (o c) ≡ Some p) (sym e) p_its)) (λ e. other (subst (λ c. inode_of c (o c) ≡ Some p) (sym e) leaf_its))

  pub parent_put : get fates p ≡ Some (Put (record { kind = 2; number = p }) false is.taken.bytes)
  parent_put = stays_at p p_its ∙ is.taken.put

  puts : (b : ℕ) → IsSome ((holding im o p).cell b) → IsPutOrLeft fates (holding im o p) p b
  puts b some = elim (cases_eq b p) [
    | inl same ↦ inl (is.taken.bytes, ap (get fates) same ∙ parent_put)
    | inr other ↦ elim (cases_eq b is.leaf) [
      | inl same ↦ inl (is.taken.leaf_put.0, ap (get fates) same ∙ stays_at is.leaf leaf_its ∙ is.taken.leaf_put.1)
      | inr away ↦ inr (some, stays_at b (cell_its im o p b some) ∙ is.taken.others b other away)
    ]
  ]

  -- ---- the directory

  own_p : part_at (holding im o p) p ≡ Some Itself
  own_p = own_part im o p so_p

  lacks : HasExchanged (holding im o p) (holding (with_draft im second) o p) (r ∷ []) []
  lacks = subst (λ h. HasExchanged (holding im o p) h (r ∷ []) []) (shows_inodes v second im o p of.agrees)
      (lacks_record v p name time is.leaf second is.taken (holding im o p) r (shown_inode v im o l t of front p at) sound_p own_p (sound_hashed v im o l t of front p at) named)

  same_cell : (b : ℕ) → cell_in (with_draft im second) o p b ≡ cell_in (with_draft im fates) o p b
  unfolding cell_in
  same_cell b = by (part_in p b (o b)) refl
    where
      by : (part : Option Part) → part_in p b (o b) ≡ part → cell_of part ((with_draft im second).at b) ≡ cell_of part ((with_draft im fates).at b)
      by None e = refl
      by (Some part) e = ap (λ f. cell_of (Some part) (unwrap_or (block_with f None) (im.at b))) (sym (stays_at b (part_its p b (o b) part e)))

  exchanged : HasExchanged (holding im o p) (holding (with_draft im fates) o p) (r ∷ []) []
  exchanged = subst (λ cell. HasExchanged (holding im o p) (record { size = im.size; count = im.count; own = p; cell = cell }) (r ∷ []) []) (λ i b. same_cell b i) lacks

  -- ---- the groups

  -- no header or bitmap block of a group was put before
  header_none : (g : Rindex) → IsListed l.groups g → (b : ℕ) → IsHeaderOf g b → get second b ≡ None
  header_none g listed b h = second_none b (λ its. not_header b its g listed h)

  group_shown : (g : Rindex) → IsListed l.groups g → group.IsShown (seen_with v second) (group_of_entry g) im.at
  group_shown g listed = record {
    whole = λ b h. of.stands.laid.image.whole b (omega (arith, h.high, (of.stands.laid.fit.each g listed).first, (of.stands.laid.fit.each g listed).inside)) ∙ of.size;
    same = λ b bytes h e. of.agrees b bytes (sym (ap (λ f. block_with f (v.block_at b)) (header_none g listed b (header_so g b h))) ∙ e);
  }

  seen_before : (g : Rindex) → IsListed l.groups g → group.IsShown v (group_of_entry g) im.at
  seen_before g listed = record { whole = (group_shown g listed).whole; same = λ b bytes h e. of.agrees b bytes e }

  abbrev free_these : Owners
  free_these b = if among blocks b then Free 0 else o b

  says : (g : Rindex) → IsListed l.groups g → IsGroup g (group_blocks (with_draft im fates).at g) (states_without o blocks g)
  says g listed =
      let puts = puts_say im.at (overlaid (seen_with v fates) im.at) (group_of_entry g) blocks 0 (is.freed.frees.puts (group_of_entry g) im.at (has_group g listed) (group_shown g listed)) in
      let put = subst (λ at'. AreStatesPut (group_blocks im.at g) (group_blocks at' g) (places_in g.data0 g.data_blocks blocks) 0)
      (shows_blocks v fates im of.agrees) puts in
      subst (IsGroup g (group_blocks (with_draft im fates).at g)) (sym same_states)
      (blocks_are_freed im (with_draft im fates) o free_these g blocks (long_bitmap v im.at (group_of_entry g) is.shows (has_group g listed) (seen_before g listed))
      (λ b own c. ap state_of (cond-true _ (Free 0) (o b) (in_among blocks b (is_in b blocks c))))
      (λ b own other. ap state_of (cond-false _ (Free 0) (o b) (not_in b other)))
      put (of.stands.laid.groups g listed))
    where
      not_in : (b : ℕ) → ¬ (Contains blocks b) → among blocks b ≡ false
      not_in b other = elim (cases_Bool (among blocks b)) [ inl e ↦ absurd (other (contained b blocks (among_in blocks b e))) | inr e ↦ e ]

      same_states : states_without o blocks g ≡ states_of free_these g
      same_states = map_same (λ b. if among blocks b then 0 else state_of (o b)) (λ b. state_of (free_these b)) g.data0 g.data_blocks (λ b low high. by b (among blocks b))
        where
          by : (b : ℕ) (x : Bool) → (if x then 0 else state_of (o b)) ≡ state_of (if x then Free 0 else o b)
          by b true = refl
          by b false = refl

  states : (g : Rindex) → IsListed l.groups g → removing.HasSome g blocks → PutsGroup im fates g (states_without o blocks g)
  states g listed some = record {
    says = says g listed;
    some =
        let put = is.freed.frees.counts (group_of_entry g) (has_group g listed) (so_some g some) in
        (g.address, record { low = omega arith; high = omega (arith, (of.stands.laid.fit.each g listed).some) }, put);
    blocks = λ b h. under b h (is.freed.frees.headers (group_of_entry g) b (has_group g listed) (so_header g b h));
  }
    where
      under : (b : ℕ) → IsHeaderOf g b → (get fates b ≡ get second b) ⊎ IsPutUnder fates g b → (get fates b ≡ None) ⊎ IsPutUnder fates g b
      under b h (inl same) = inl (same ∙ header_none g listed b h)
      under b h (inr put) = inr put

  -- ---- the name is removed

  pub removes : ShrinksByName im o l fates p name a
  removes = record {
    whole = subst (λ size. AreWhole size fates) (sym of.size) is.freed.whole;
    childless = childless;
    blocks = blocks;
    own = own;
    freed = is.freed.frees.freed;
    states = states;
    entry = r;
    named = named_so (records_at im o p) name r named;
    exchanged = exchanged;
    puts = puts;
    others = λ b other away none. rest_stays b away none ∙ second_none b (λ its. other (its_cell im o p b its));
  }
