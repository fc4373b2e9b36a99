-- A call that cuts a file, at the place to which the walk came: what its blocks' groups tell, and what its change makes.
use Rattle.std.proofs.Common.{◌≡◌, ◌-◌, ◌≤◌, inl, inr, ℕ, Bool, true, false, List, [], ◌∷◌, ◌++◌, length, take, None, Some, refl, sym, ap, ◌∙◌, subst, arith}
use Rattle.std.proofs.lemmas.List.{append-nil}
use Rattle.std.specs.Prelude.{Contains, is_some, replicate}
use Rattle.std.specs.Ordering.{nat_cmp}
use Rattle.std.specs.FinMap.{FinMap, get}
use Rattle.file_tree.specs.Apply.{file_limit, resized}
use Rattle.file_tree.specs.Tree.{Tree}
use Rattle.file_tree.specs.declared.call.Call.{Call}
use Rattle.file_tree.specs.declared.reply.Reply.TheVariants.{Ok as OkReply}
use Rattle.drafts.specs.Fates.{block_with}
use Rattle.drafts.specs.declared.change.Change.{Change}
use Rattle.drafts.specs.declared.fate.Fate.{Fate}
use Rattle.drafts.specs.declared.fate.Fate.TheVariants.{Put}
use Rattle.gfs2_layout.specs.Inode.{content_of}
use Rattle.gfs2_layout.specs.Structures.{is_directory}
use Rattle.gfs2_layout.specs.declared.dinode.Dinode.{Dinode}
use Rattle.gfs2_layout.specs.declared.rindex.Rindex.{Rindex}
use Rattle.glock_names.specs.Views.{HasGroup, Seen, IsView, group_of_entry}
use Rattle.glock_names.specs.declared.LockName.{LockName}
use Rattle.glock_names.specs.declared.State.TheVariants.{Ex}
use Rattle.glock_names.specs.declared.steps.Missing.{Missing}
use Rattle.glock_names.specs.declared.views.Group.{Group}
use Rattle.call_locks.specs.Wants.{wanted}
use Rattle.call_locks.specs.WantLaws.{path_of}
use Rattle.dinode_tree.specs.Below.{AnyIndex}
use Rattle.dinode_tree.specs.Reading.{inode_lock}
use Rattle.growth_drafts.specs.Taken.{IsCutAt}
use Rattle.resource_groups.specs.Freeing as freeing
use Rattle.resource_groups.specs.Putting.{HasDataBlock}
use Rattle.resource_groups.specs.Shown as group
use Rattle.resource_groups.specs.Shown.{group_lock}
use Rattle.image_model.specs.Groups.{IsListed}
use Rattle.image_model.specs.Image.{Image}
use Rattle.image_model.specs.Owners.{Owners, holding}
use Rattle.image_model.specs.Stands.{Layout}
use Rattle.image_model.proofs.Members.{contained, is_in}
use Rattle.image_changes.specs.Does.{IsOf, Does}
use Rattle.image_changes.specs.Drafted.{is_put}
use Rattle.image_changes.specs.Instances.{dinode_at}
use Rattle.image_changes.proofs.Drafting.{drafts_do}
use Rattle.draft_changes.specs.Resizing.{HasSomeOf}
use Rattle.draft_changes.proofs.Views.{groups_are_listed}
use Rattle.file_changes.specs.Drafting.{IsCutDraft, IsFreedAndDone, IsNeededAt, of_any, of_group, of_inode}
use Rattle.file_changes.specs.Making.{CanBeCut, CutsFreeExactly, CutsMakeFiles, MakesFile, goes_at}
use Rattle.growth_laws.specs.Laws.{InodesAreFiles}
use Rattle.file_changes.specs.Groups.{GroupsAreHeld, IsFirstGroupLack, holds_of_groups}
use Rattle.file_changes.specs.Laws.{AreThose}
use Rattle.file_changes.proofs.Locks.{blocks_of_groups_are_asked_for, first_group_lacks_are_first, groups_with_blocks_are_listed, held_groups_hold_the_list}
use Rattle.path_walks.specs.Holds.{Hold, AreHeld, IsAskedFor, IsFirstLack, IsUnder, hold_of_group, holds_in}
use Rattle.path_walks.specs.Walks.{IsSeenAt, IsWalked}
use Rattle.path_walks.specs.declared.walk.Place.{Place}
use Rattle.path_walks.specs.declared.walk.Walk.TheVariants.{At}
use Rattle.path_walks.proofs.Wants.{exclusive}
use Rattle.writing_calls.specs.Writing.{Cuts, CutsThere, IsEdit, call_holds, content_after, end_of}
use Rattle.writing_calls.proofs.Doing.{changes, inode_held, long_content}
use Rattle.writing_calls.proofs.Images as images
use Rattle.writing_calls.proofs.Listed.{cut_list}
use Rattle.writing_calls.proofs.Written.{put_at}

-- a content that is cut is its front
cut_content : (size : ℕ) (bytes : List ℕ) → size ≤ length bytes → resized size bytes ≡ take size bytes
cut_content size bytes within =
    let none : size - length bytes ≡ 0 = omega (arith, within) in
    ap (λ n. take size bytes ++ replicate n 0) none ∙ append-nil (take size bytes)

-- such a call changes a file's content, and makes the file no longer than it may be
pub cuts_edit : (c : Call) (size end : ℕ) → Cuts c size end → IsEdit c
cuts_edit c size end cuts = subst IsEdit (sym cuts.is) tt

pub cuts_short : (c : Call) (size end : ℕ) → Cuts c size end → end ≤ file_limit → end_of c ≤ file_limit
cuts_short c size end cuts short = subst (λ k. end_of k ≤ file_limit) (sym cuts.is) short

module _ (v : Seen) (c : Call) (p : Place) (is : IsEdit c) (seen : IsSeenAt v (wanted c) (path_of c false) p) (plain : is_directory p.dinode ≡ false) (short : end_of c ≤ file_limit) (size : ℕ) (cuts : Cuts c p.dinode.size size) where
  -- as every inode that this may be says
  pub cuts_there : CutsThere v c p.inode size
  cuts_there h shown = subst (λ (d : Dinode). Cuts c d.size size) (seen.dinode h shown) cuts

  -- ---- in an image that the view may be of

  module _ (im : Image) (o : Owners) (l : Layout) (t : Tree) (of : IsOf v im o l t) (walked : IsWalked v im o l t (path_of c false) (wanted c) (At p)) where
    pub size_was : (dinode_at im o p.inode).size ≡ p.dinode.size
    size_was = images.size_is v c p is seen plain short im o l t of walked

    pub can_be : CanBeCut im o p.inode size
    can_be = record { file = images.is_file v c p is seen plain short im o l t of walked; larger = subst (λ n. size ≤ n) (sym size_was) cuts.shorter }

    -- what is asked for before a lock of a group is
    pub cut_asked : (node : ℕ) (m : Missing) → IsNeededAt v p.inode (λ h. IsCutAt h size) [] m → IsAskedFor v im o l (call_holds im o l t c node) m
    cut_asked node m (of_inode asks) = images.inode_asked v c p is seen plain short im o l t of walked node (λ h. IsCutAt h size) 0 m asks
    cut_asked node m (of_any asks) = images.inode_asked v c p is seen plain short im o l t of walked node (λ h. AnyIndex) 1 m asks
    cut_asked node m (of_group asks) = elim (is_in asks.2.0 [] asks.2.1) [ ]

module _ (exactly : CutsFreeExactly) (make : CutsMakeFiles) (files : InodesAreFiles) (v : Seen) (c : Call) (p : Place) (is : IsEdit c) (seen : IsSeenAt v (wanted c) (path_of c false) p) (plain : is_directory p.dinode ≡ false) (short : end_of c ≤ file_limit)
    (size : ℕ) (cuts : Cuts c p.dinode.size size) (node : ℕ) (time : ℕ) (freed : List ℕ) (fates : FinMap nat_cmp Fate) (draft : IsCutDraft v p.inode size time freed fates) (view : IsView v) where
  module _ (im : Image) (o : Owners) (l : Layout) (t : Tree) (of : IsOf v im o l t) (walked : IsWalked v im o l t (path_of c false) (wanted c) (At p)) where
    abbrev path_list : List Hold
    path_list = holds_in im o l (path_of c false) (wanted c)

    abbrev content : List ℕ
    content = content_of (holding im o p.inode)

    abbrev test : ℕ → Bool
    test = goes_at (holding im o p.inode) size

    abbrev can : CanBeCut im o p.inode size
    can = can_be v c p is seen plain short size cuts im o l t of walked

    size_is : (dinode_at im o p.inode).size ≡ p.dinode.size
    size_is = size_was v c p is seen plain short size cuts im o l t of walked

    those : AreThose test freed
    those = (exactly v p.inode size time freed fates im o l t (path_of c false) view of walked.0.at draft can).exactly

    pub list_is : call_holds im o l t c node ≡ path_list ++ holds_of_groups test l.groups
    list_is = images.list_is v c p is seen plain short im o l t of walked node ∙ ap (λ xs. path_list ++ xs) (cut_list im o l c node p.inode p.dinode.size size size_is cuts)

    same_content : content_after c content ≡ take size content
    same_content = ap (λ (k : Call). content_after k content) cuts.is
        ∙ cut_content size content (subst (λ n. size ≤ n) (sym (long_content v im o l t of (path_of c false) p.inode walked.0.at ∙ size_is)) cuts.shorter)

    -- the first group of the freed blocks that isn't held
    pub first_lack : (lock : LockName) → IsFirstGroupLack v freed lock → IsFirstLack v (call_holds im o l t c node) lock Ex
    first_lack lock lack = subst (λ xs. IsFirstLack v xs lock Ex) (sym list_is) (first_group_lacks_are_first v im o l t test freed path_list lock of those walked.2 lack)

    module _ (held : GroupsAreHeld v freed) where
      pub all_held : AreHeld v (call_holds im o l t c node)
      all_held = subst (AreHeld v) (sym list_is) (held_groups_hold_the_list v im o l t test freed path_list of those walked.2 held)

      -- what freeing asks for
      pub freeing_asked : (m : Missing) → IsNeededAt v p.inode (λ h i. ⊥) freed m → IsAskedFor v im o l (call_holds im o l t c node) m
      freeing_asked m (of_inode asks) = images.inode_asked v c p is seen plain short im o l t of walked node (λ h i. ⊥) 0 m asks
      freeing_asked m (of_any asks) = images.inode_asked v c p is seen plain short im o l t of walked node (λ h. AnyIndex) 1 m asks
      freeing_asked m (of_group asks) = subst (λ xs. IsAskedFor v im o l xs m) (sym list_is) (blocks_of_groups_are_asked_for v im o l t test freed path_list m of those walked.2 held asks)

      module _ (change : Change) (w : IsFreedAndDone v fates freed change) where
        pub made : MakesFile im o l w.last p.inode (content_after c content) time [] freed
        made = subst (λ bytes. MakesFile im o l w.last p.inode bytes time [] freed) (sym same_content)
            (make v p.inode size time freed fates change im o l t (path_of c false) view of walked.0.at draft can w)

        pub cut_under : IsUnder o (call_holds im o l t c node) change
        cut_under = images.made_under v c p is seen plain short im o l t of walked w.last time [] freed made node change w.finished
            (λ k listed some. subst (λ xs. Contains xs (hold_of_group (group_of_entry k))) (sym (cut_list im o l c node p.inode p.dinode.size size size_is cuts))
            (group_of k listed some))
          where
            group_of : (k : Rindex) → IsListed l.groups k → HasSomeOf k [] freed → Contains (holds_of_groups test l.groups) (hold_of_group (group_of_entry k))
            group_of k listed (inl taken) = elim (is_in taken.0 [] taken.1) [ ]
            group_of k listed (inr some) = groups_with_blocks_are_listed test l.groups k some.0 [] listed some.2 ((those some.0).0 some.1)

  -- ---- on every view

  module _ (inside : (b : ℕ) → Contains freed b → HasDataBlock v b) (held : GroupsAreHeld v freed) (change : Change) (w : IsFreedAndDone v fates freed change) where
    -- some block is put: the dinode's, or the header of a group that has a block which goes
    some_put : (n : ℕ) × (is_put w.last n ≡ true)
    some_put = by freed inside w.frees.frees.counts (λ none away. w.frees.rest.others p.inode none away)
      where
        own_put : get fates p.inode ≡ Some (Put (inode_lock p.inode) false draft.timed.bytes)
        own_put = ap (λ (m : FinMap nat_cmp Fate). get m p.inode) draft.timed.put ∙ put_at draft.first p.inode (Put (inode_lock p.inode) false draft.timed.bytes)

        by : (blocks : List ℕ) → ((b : ℕ) → Contains blocks b → HasDataBlock v b) → ((g : Group) → HasGroup v g → freeing.HasSome g blocks → (bytes : List ℕ) × (get w.last g.addr ≡ Some (Put (group_lock g) false bytes)))
            → (¬ (Contains blocks p.inode) → ((g : Group) → HasGroup v g → freeing.HasSome g blocks → ¬ (group.IsHeaderOf g p.inode)) → get w.last p.inode ≡ get fates p.inode) → (n : ℕ) × (is_put w.last n ≡ true)
        by [] each counts others =
            (p.inode, ap (λ f. is_some (block_with f None)) (others (λ has. elim (is_in p.inode [] has) [ ]) (λ g has some head. elim (is_in some.0 [] some.1) [ ]) ∙ own_put))
        by (b ∷ rest) each counts others =
            let h = each b (contained b (b ∷ rest) (inl refl)) in
            let put = counts h.0 h.1 (b, contained b (b ∷ rest) (inl refl), h.2) in
            (h.0.addr, ap (λ f. is_some (block_with f None)) put.1)

    module _ (walks : (im : Image) (o : Owners) (l : Layout) (t : Tree) → IsOf v im o l t → IsWalked v im o l t (path_of c false) (wanted c) (At p)) where
      made_in : (im : Image) (o : Owners) (l : Layout) (t : Tree) (of : IsOf v im o l t) → MakesFile im o l w.last p.inode (content_after c (content_of (holding im o p.inode))) time [] freed
      made_in im o l t of = made im o l t of (walks im o l t of) held change w

      exclusive_in : (im : Image) (o : Owners) (l : Layout) (t : Tree) → IsOf v im o l t → (b : ℕ) (lock : LockName) (plain : Bool) (bytes : List ℕ) → get w.last b ≡ Some (Put lock plain bytes) → v.state_of lock ≡ Ex
      exclusive_in im o l t of b lock plain bytes put = elim ((made_in im o l t of).under b lock plain bytes put) [
        | inl e ↦ ap v.state_of e ∙ inode_held v c p.inode is seen.leads
        | inr f ↦ of_group f.0 f.1 f.2 f.3
      ]
        where
          of_group : (k : Rindex) → IsListed l.groups k → HasSomeOf k [] freed → lock ≡ record { kind = 3; number = k.address } → v.state_of lock ≡ Ex
          of_group k listed (inl taken) e = elim (is_in taken.0 [] taken.1) [ ]
          of_group k listed (inr some) e =
              let has : HasGroup v (group_of_entry k) = (groups_are_listed v im o l t (group_of_entry k) of).1 (k, listed, refl) in
              ap v.state_of e ∙ exclusive (v.state_of (group_lock (group_of_entry k))) (held (group_of_entry k) has (some.0, some.1, record { low = some.2.low; high = some.2.high }))

      pub cut_does : Does v c OkReply change
      cut_does = drafts_do v c OkReply w.last change w.finished (changes c is) some_put.0 some_put.1 exclusive_in
          (λ im o l t of. images.makes v c p is seen plain short im o l t of (walks im o l t of) w.last time [] freed (made_in im o l t of))
