-- A removal at the place to which the walk came: what is asked for, and what is damaged.
use Rattle.std.proofs.Common.{◌≡◌, ◌≢◌, inl, inr, ℕ, ◌+◌, false, List, [], ◌∷◌, ◌++◌, length, Some, refl, sym, ap, ◌∙◌, subst, arith}
use Rattle.std.proofs.lemmas.List.{append_assoc, append-nil, length-append}
use Rattle.std.specs.Prelude.{Contains}
use Rattle.cluster_history.specs.Changes.{is_ok}
use Rattle.file_tree.specs.Apply.{apply, Answer}
use Rattle.file_tree.specs.Names.{parent_of}
use Rattle.file_tree.specs.Tree.{Tree}
use Rattle.file_tree.specs.declared.call.Call.{Call}
use Rattle.file_tree.specs.declared.reply.Reply.TheVariants.{Ok}
use Rattle.gfs2_layout.specs.Holding.{Holding}
use Rattle.glock_names.specs.Views.{Seen, HasBlock, IsView}
use Rattle.glock_names.specs.declared.LockName.{LockName}
use Rattle.glock_names.specs.declared.State.TheVariants.{Ex}
use Rattle.glock_names.specs.declared.steps.Missing.{Missing}
use Rattle.call_locks.specs.Wants.{wanted}
use Rattle.call_locks.specs.WantLaws.{path_of}
use Rattle.call_locks.specs.declared.want.Want.{Want}
use Rattle.dinode_tree.specs.Below.{AnyIndex}
use Rattle.dinode_tree.specs.Shown.{IsShown}
use Rattle.resource_groups.specs.Putting.{HasDataBlock}
use Rattle.image_model.specs.Flat.{Path}
use Rattle.image_model.specs.Image.{Image}
use Rattle.image_model.specs.Owners.{Owners, holding}
use Rattle.image_model.specs.Stands.{Layout, flat_of}
use Rattle.image_changes.specs.Does.{IsOf}
use Rattle.image_changes.proofs.FlatPaths.{one_path}
use Rattle.image_changes.proofs.Frame.{dinode_its}
use Rattle.image_changes.proofs.Laid.{root_named}
use Rattle.path_walks.specs.Holds.{Hold, AreHeld, IsAskedFor, IsFirstLack, hold_of, holds_in}
use Rattle.path_walks.specs.Walks.{IsDirectoryAt, IsSeenAt, IsWrongAt, IsHeldAt, IsNext, LeadsTo, Names, at_root, by_name, the_root, the_child, IsLastOf, IsUnread}
use Rattle.path_walks.specs.Walks as path
use Rattle.path_walks.specs.declared.walk.Place.{Place}
use Rattle.path_walks.proofs.Images.{is_inode, is_shown, shown_inode, unbroken_directory}
use Rattle.path_walks.proofs.Leads.{no_end}
use Rattle.path_walks.proofs.Lists.{parent_of_next}
use Rattle.directories.specs.Shown.{IsDirectoryIn}
use Rattle.directories.specs.Taking.{HasNameIn}
use Rattle.directories.proofs.Forms.{some_directory}
use Rattle.directories.specs.Shown as dirs
use Rattle.removing_calls.specs.Drafting as drafting
use Rattle.removing_calls.specs.Drafting.{IsNeededIn, IsWrongIn}
use Rattle.group_locks.specs.Groups.{GroupsAreHeld, IsFirstGroupLack, holds_of_groups, is_block_of}
use Rattle.removing_calls.specs.Removing.{AreAllOf, BreaksAsLinear, IsNeededOf, IsRemoving, IsAimOf, IsReachedIn, IsDamage, IsWrongBelow, holds_for}
use Rattle.removing_calls.specs.Removing as damage
use Rattle.removing_calls.specs.declared.aims.Aim.TheVariants as aim
use Rattle.removing_calls.proofs.Above.{above_names, directory_block, names_it}
use Rattle.removing_calls.proofs.Found.{goes_its, record_its, taken_list, its_inside, none_broken, none_wrong_below, all_held, first_unheld, group_asked}
use Rattle.removing_calls.proofs.Under.{directory_listed}
use Rattle.removing_calls.proofs.Trees.{IsTakenBy, aim_takes}
use Rattle.path_walks.proofs.Asked.{IsAmong, asked, at_end, name_asked, names_asked}
use Rattle.group_locks.proofs.Listed.{held_upto}
use Rattle.image_model.proofs.Members.{IsIn}
use Rattle.image_changes.specs.Changes.{inode_of}
use Rattle.image_changes.specs.Instances.{IsAt}
use Rattle.glock_names.specs.declared.State.{State}
use Rattle.path_walks.proofs.Longer.{asked_before}

-- what is wrong with an inode to which a front of the path leads is damage on the path
wrong_on_way : (v : Seen) (wants : List Want) (front : Path) (a : ℕ) → LeadsTo v wants front a → (whole back : Path) → whole ≡ front ++ back → (rule b : ℕ)
    → IsWrongAt v a rule b → path.IsDamage v wants whole rule b
wrong_on_way v wants [] a (at_root held) whole back e rule b wrong = path.on_path 0 a rule b the_root held wrong
wrong_on_way v wants front a (by_name f dir a' n leads is_name named inside held) whole back e rule b wrong =
    path.on_path (length f + 1) a rule b (the_child f back dir a n (e ∙ append_assoc f (n ∷ []) back) leads is_name named inside) held wrong

named_inside : (v : Seen) (wants : List Want) (whole : Path) (a : ℕ) → LeadsTo v wants whole a → whole ≢ [] → HasDataBlock v a
named_inside v wants whole a (at_root held) named = absurd (named refl)
named_inside v wants whole a (by_name front dir b name leads is names inside held) named = inside

-- a lock of a list that is held
split_in : (x : Hold) (list : List Hold) → IsIn x list → (front back : List Hold) × (list ≡ front ++ x ∷ back)
split_in x [] here = elim here [ ]
split_in x (y ∷ list) (inl e) = ([], list, ap (λ z. z ∷ list) (sym e))
split_in x (y ∷ list) (inr later) = let r = split_in x list later in (y ∷ r.0, r.1, ap (λ zs. y ∷ zs) r.2)

among_held : (v : Seen) (list : List Hold) (a : ℕ) (state : State) → IsIn (hold_of a state) list → AreHeld v list → IsAmong v list a
among_held v list a state at held =
    let r = split_in (hold_of a state) list at in
    record { state = state; front = r.0; back = r.1; split = r.2; held = held_upto v r.0 r.1 (hold_of a state) (subst (AreHeld v) r.2 held) }

module _ (v : Seen) (c : Call) (p : Place) (name : List ℕ) (last : IsLastOf (path_of c false) name) (there : IsSeenAt v (wanted c) (path_of c false) p) where
  names : IsView v → Names v p.above name p.inode
  names view = above_names v (wanted c) (path_of c false) p name view there last

  -- the directory above, as the view has it
  pub above_there : IsView v → HasBlock v p.above
  above_there view = (names view).there

  pub above_directory : IsView v → IsDirectoryAt v p.above
  above_directory view = (names view).directory

  pub above_block : IsView v → IsDirectoryIn v p.above
  above_block view = directory_block v p.above (above_directory view)

  pub above_named : IsView v → HasNameIn v p.above name
  above_named view = names_it v p.above p.inode name (names view)

  pub below_root : path_of c false ≢ []
  below_root root = no_end last.0 name (sym root ∙ last.1)

  -- the inode has a name, so it is looked at whether its block is in a group
  pub inode_inside : HasDataBlock v p.inode
  inode_inside = named_inside v (wanted c) (path_of c false) p.inode there.leads below_root

  taken_at : ((h : Holding) → IsShown v p.inode h → IsAimOf c h aim.Taken) → damage.IsTakenAt v c p.inode
  taken_at taken = record { below = below_root; leads = there.leads; there = there.there; aim = taken }

  pub below_damage : ((h : Holding) → IsShown v p.inode h → IsAimOf c h aim.Taken) → (rule b : ℕ) → IsWrongBelow v p.inode rule b → IsDamage v c rule b
  below_damage taken rule b (damage.in_inode r d broken) =
      damage.on_path r d (wrong_on_way v (wanted c) (path_of c false) p.inode there.leads (path_of c false) [] (sym (append-nil (path_of c false))) r d (IsWrongAt.in_inode r d broken))
  below_damage taken rule b (damage.of_leaves r d is broken) =
      damage.on_path r d (wrong_on_way v (wanted c) (path_of c false) p.inode there.leads (path_of c false) [] (sym (append-nil (path_of c false))) r d (IsWrongAt.in_directory r d is broken))
  below_damage taken rule b (damage.stray from d led outside) = damage.stray p.inode from d (taken_at taken) led outside

  -- a rule of linear directories that the inode breaks
  pub inode_damage : (rule b : ℕ) → ((h : Holding) → IsShown v p.inode h → BreaksAsLinear h rule b) → IsDamage v c rule b
  inode_damage rule b broken =
      damage.on_path rule b (wrong_on_way v (wanted c) (path_of c false) p.inode there.leads (path_of c false) [] (sym (append-nil (path_of c false))) rule b
      (IsWrongAt.in_directory rule b (λ h shown. (broken h shown).0.directory) (λ h shown. let is = broken h shown.inode in dirs.IsBroken.in_linear is.0.directory is.0.linear is.1)))

  module _ (im : Image) (o : Owners) (l : Layout) (t : Tree) (of : IsOf v im o l t) (reached : IsReachedIn v im o l c p) where
    pub inode_unbroken : (rule b : ℕ) → ((h : Holding) → IsShown v p.inode h → BreaksAsLinear h rule b) → ⊥
    inode_unbroken rule b broken =
        let is = broken (holding im o p.inode) (is_shown v im o l t of (path_of c false) p.inode reached.place.at) in
        unbroken_directory v im o l t of (path_of c false) p.inode rule b reached.place.at is.0.directory (dirs.IsBroken.in_linear is.0.directory is.0.linear is.1)

    pub above_inside : HasDataBlock v p.above
    above_inside = its_inside v im o l t of p.above p.above (dinode_its p.above (o p.above) (is_inode v im o l t of (parent_of (path_of c false)) p.above reached.place.above))

    pub nothing_below : (rule b : ℕ) → IsWrongBelow v p.inode rule b → ⊥
    nothing_below = none_wrong_below v im o l t of (path_of c false) p.inode reached.place.at

    pub inode_needed : (m : Missing) → IsNeededOf v p.inode m → IsAskedFor v im o l (holds_for im o l t c) m
    inode_needed m (damage.IsNeededOf.in_tree needed) =
        asked_before v im o l (holds_in im o l (path_of c false) (wanted c)) _ m
        (asked v im o l t of (path_of c false) p.inode reached.place.at (holds_in im o l (path_of c false) (wanted c)) reached.ends reached.held AnyIndex 1 m
        (needed (holding im o p.inode) (is_shown v im o l t of (path_of c false) p.inode reached.place.at)))
    inode_needed m (damage.IsNeededOf.in_leaves is needed absent) =
        let shown = shown_inode v im o l t of (path_of c false) p.inode reached.place.at in
        asked_before v im o l (holds_in im o l (path_of c false) (wanted c)) _ m
        (names_asked v im o l t of (path_of c false) p.inode reached.place.at (holds_in im o l (path_of c false) (wanted c)) (at_end v (holds_in im o l (path_of c false) (wanted c)) p.inode reached.ends reached.held)
        (is (holding im o p.inode) shown.inode) m (needed (holding im o p.inode) shown))

    -- the front of the path, and the name
    whole : path_of c false ≡ parent_of (path_of c false) ++ name ∷ []
    whole = last.1 ∙ ap (λ q. q ++ name ∷ []) (sym (ap parent_of last.1 ∙ parent_of_next last.0 name))

    front_at : IsAt im o l last.0 p.above
    front_at = subst (λ q. IsAt im o l q p.above) (ap parent_of last.1 ∙ parent_of_next last.0 name) reached.place.above

    -- the directory above and the inode have no block in common
    two_inodes : (b : ℕ) → inode_of b (o b) ≡ Some p.above → inode_of b (o b) ≡ Some p.inode → ⊥
    two_inodes b one other =
        let own_is : Some p.above ≡ Some p.inode = sym one ∙ other in
        let same : parent_of (path_of c false) ≡ path_of c false =
        one_path (flat_of im o) _ l.root (root_named im o l of.stands.laid) (parent_of (path_of c false)) (path_of c false) p.above reached.place.above (reached.place.at ∙ sym own_is) in
        absurd (omega (arith, ap length same, ap length last.1, length-append last.0 (name ∷ []), ap length (ap parent_of last.1 ∙ parent_of_next last.0 name)))

    name_needed : IsRemoving c → IsView v → (m : Missing) → ((h : Holding) → dirs.IsShown v p.above h → dirs.IsNeededFor v h name m) → IsAskedFor v im o l (holds_for im o l t c) m
    name_needed removing view m needed =
        let shown = shown_inode v im o l t of (parent_of (path_of c false)) p.above reached.place.above in
        asked_before v im o l (holds_in im o l (path_of c false) (wanted c)) _ m
        (name_asked v im o l t of (parent_of (path_of c false)) p.above reached.place.above (holds_in im o l (path_of c false) (wanted c))
        (among_held v (holds_in im o l (path_of c false) (wanted c)) p.above Ex (directory_listed im o l c removing name last p.above front_at) reached.held)
        (above_directory view (holding im o p.above) shown.inode) name m (needed (holding im o p.above) shown))

  module _ (blocks : List ℕ) (goes : AreAllOf v p.inode blocks) where
    -- the dinode's block goes with the others
    pub own_among : IsView v → Contains blocks p.inode
    own_among view = let s = some_directory v p.inode view in (goes s.0 s.1 p.inode).1 (inl (sym s.1.inode.own))

    pub removal_damage : IsView v → ¬ (Contains blocks p.above) → ((h : Holding) → IsShown v p.inode h → IsAimOf c h aim.Taken) → GroupsAreHeld v blocks → (rule b : ℕ) → IsWrongIn v p.above name blocks rule b → IsDamage v c rule b
    removal_damage view apart taken groups rule b (drafting.IsWrongIn.in_directory r d broken) =
        damage.on_path r d (wrong_on_way v (wanted c) (parent_of (path_of c false)) p.above there.above (path_of c false) (name ∷ []) (last.1 ∙ ap (λ q. q ++ name ∷ []) (sym (ap parent_of last.1 ∙ parent_of_next last.0 name))) r d
        (IsWrongAt.in_directory r d (above_directory view) broken))
    removal_damage view apart taken groups rule b (drafting.IsWrongIn.in_group r d breaks) = damage.in_group p.inode r d blocks (taken_at taken) goes groups breaks
    removal_damage view apart taken groups rule b (drafting.IsWrongIn.shared d of has) =
        damage.shared_leaf p.inode p.above d name (λ e. apart (subst (Contains blocks) e (own_among view))) (taken_at taken) there.above last of (λ h shown. (goes h shown d).0 has)

    pub shared_damage : ((h : Holding) → IsShown v p.inode h → IsAimOf c h aim.Taken) → Contains blocks p.above → IsDamage v c 3 p.above
    shared_damage taken has = damage.shared p.inode p.above (taken_at taken) there.above (λ h shown. (goes h shown p.above).0 has)

    module _ (taken : (h : Holding) → IsShown v p.inode h → IsAimOf c h aim.Taken) (im : Image) (o : Owners) (l : Layout) (t : Tree) (of : IsOf v im o l t) (reached : IsReachedIn v im o l c p) where
      shown : dirs.IsShown v p.inode (holding im o p.inode)
      shown = shown_inode v im o l t of (path_of c false) p.inode reached.place.at

      takes : IsTakenBy v im o l t of c p.inode
      takes = aim_takes v im o l t of c name p.inode last reached.place.at (taken (holding im o p.inode) shown.inode)

      pub taken_ok : (apply c t).reply ≡ Ok
      taken_ok = ap (λ (x : Answer). x.reply) takes.applies

      list_is : holds_for im o l t c ≡ holds_in im o l (path_of c false) (wanted c) ++ holds_of_groups (is_block_of (holding im o p.inode)) l.groups
      list_is = taken_list im o l t c p.inode (ap is_ok taken_ok) reached.place.at

      goes_own : (b : ℕ) → Contains blocks b → inode_of b (o b) ≡ Some p.inode
      goes_own b has = goes_its v im o l t of (path_of c false) p.inode b reached.place.at ((goes (holding im o p.inode) shown b).0 has)

      -- the directory above is none of the blocks that go
      pub above_apart : ¬ (Contains blocks p.above)
      above_apart has = two_inodes im o l t of reached p.above (dinode_its p.above (o p.above) (is_inode v im o l t of (parent_of (path_of c false)) p.above reached.place.above)) (goes_own p.above has)

      pub list_held : GroupsAreHeld v blocks → AreHeld v (holds_for im o l t c)
      list_held groups = subst (AreHeld v) (sym list_is)
          (all_held v im o l t of (path_of c false) p.inode reached.place.at blocks (goes (holding im o p.inode) shown) (holds_in im o l (path_of c false) (wanted c)) reached.held groups)

      pub group_lacks : (lock : LockName) → IsFirstGroupLack v blocks lock → IsFirstLack v (holds_for im o l t c) lock Ex
      group_lacks lock lack = subst (λ list. IsFirstLack v list lock Ex) (sym list_is)
          (first_unheld v im o l t of (path_of c false) p.inode reached.place.at blocks (goes (holding im o p.inode) shown) (holds_in im o l (path_of c false) (wanted c)) lock reached.held lack)

      pub removal_needed : IsRemoving c → IsView v → GroupsAreHeld v blocks → (m : Missing) → IsNeededIn v p.above name blocks m → IsAskedFor v im o l (holds_for im o l t c) m
      removal_needed removing view groups m (drafting.IsNeededIn.in_directory needed absent) = name_needed im o l t of reached removing view m needed
      removal_needed removing view groups m (drafting.IsNeededIn.in_group needed) = subst (λ list. IsAskedFor v im o l list m) (sym list_is)
          (group_asked v im o l t of (path_of c false) p.inode reached.place.at blocks (goes (holding im o p.inode) shown) (holds_in im o l (path_of c false) (wanted c)) m reached.held groups needed)

      pub nothing_wrong : IsView v → (rule b : ℕ) → IsWrongIn v p.above name blocks rule b → ⊥
      nothing_wrong view rule b (drafting.IsWrongIn.in_directory r d broken) =
          let shown_p = shown_inode v im o l t of (parent_of (path_of c false)) p.above reached.place.above in
          unbroken_directory v im o l t of (parent_of (path_of c false)) p.above r d reached.place.above (above_directory view (holding im o p.above) shown_p.inode) (broken (holding im o p.above) shown_p)
      nothing_wrong view rule b (drafting.IsWrongIn.in_group r d breaks) = none_broken v im o l t of blocks r d breaks
      nothing_wrong view rule b (drafting.IsWrongIn.shared d has_record has) =
          two_inodes im o l t of reached d
          (record_its v im o l t of (parent_of (path_of c false)) p.above d name reached.place.above (has_record (holding im o p.above) (shown_inode v im o l t of (parent_of (path_of c false)) p.above reached.place.above))) (goes_own d has)

  -- a block without which the call isn't answered
  pub removal_needs : ((h : Holding) → IsShown v p.inode h → IsAimOf c h aim.Taken) → IsView v → (blocks : List ℕ) → AreAllOf v p.inode blocks → GroupsAreHeld v blocks → (m : Missing) → IsNeededIn v p.above name blocks m → damage.IsNeededFor v c m
  removal_needs taken view blocks goes groups m (drafting.IsNeededIn.in_directory needed absent) =
      damage.IsNeededFor.on_path (IsUnread.in_directory (parent_of (path_of c false)) [] p.above name (last.1 ∙ ap (λ q. q ++ name ∷ []) (sym (ap parent_of last.1 ∙ parent_of_next last.0 name))) there.above (above_there view) (above_directory view) needed absent)
  removal_needs taken view blocks goes groups m (drafting.IsNeededIn.in_group needed) = damage.IsNeededFor.of_group p.inode blocks (taken_at taken) goes groups needed

  pub inode_needs : ((h : Holding) → IsShown v p.inode h → IsAimOf c h aim.Taken) → (m : Missing) → IsNeededOf v p.inode m → damage.IsNeededFor v c m
  inode_needs taken m needed = damage.IsNeededFor.of_inode p.inode (taken_at taken) needed
