-- A call that changes a file's content, at the place to which the walk came: what the view shows, and what its change makes of an image.
use Rattle.std.proofs.Common.{◌≡◌, ◌⊎◌, ◌+◌, ◌≤◌, inl, inr, ℕ, Bool, true, false, true≢false, List, [], ◌∷◌, ◌++◌, Some, refl, sym, ap, ◌∙◌, subst, arith}
use Rattle.std.proofs.lemmas.Bool.{cases_Bool, cases_lt}
use Rattle.std.proofs.lemmas.Option.{slice_get-get_or}
use Rattle.std.proofs.lemmas.List.Elements.{Contains-append_left, Contains-append_right}
use Rattle.std.specs.Prelude.{Contains, get_or, is_some}
use Rattle.std.specs.Ordering.{nat_cmp}
use Rattle.std.specs.FinMap.{FinMap, get}
use Rattle.cluster_history.specs.Changes.{is_ok}
use Rattle.file_tree.specs.Apply.{Answer, apply, file_limit, put_at}
use Rattle.file_tree.specs.Tree.{Tree, file}
use Rattle.file_tree.specs.declared.call.Call.{Call}
use Rattle.file_tree.specs.declared.reply.Reply.TheVariants.{Ok as OkReply}
use Rattle.drafts.specs.declared.change.Change.{Change}
use Rattle.drafts.specs.declared.change.Written.{Written}
use Rattle.drafts.specs.declared.fate.Fate.{Fate}
use Rattle.drafts.specs.declared.fate.Fate.TheVariants.{Put}
use Rattle.gfs2_layout.specs.Holding.{Holding}
use Rattle.gfs2_layout.specs.Inode.{content_of, is_directory_in}
use Rattle.gfs2_layout.specs.Structures.{is_directory}
use Rattle.gfs2_layout.specs.declared.dinode.Dinode.{Dinode}
use Rattle.gfs2_layout.specs.declared.rindex.Rindex.{Rindex}
use Rattle.glock_names.specs.Views.{Seen, group_of_entry}
use Rattle.glock_names.specs.declared.LockName.{LockName}
use Rattle.glock_names.specs.declared.State.TheVariants.{Ex}
use Rattle.glock_names.specs.declared.steps.Missing.{Missing}
use Rattle.call_locks.specs.Wants.{wanted}
use Rattle.call_locks.specs.WantLaws.{path_of}
use Rattle.dinode_tree.specs.Below.{IsLedFrom}
use Rattle.dinode_tree.specs.Reading.{IsNeeded, inode_lock}
use Rattle.dinode_tree.specs.Shown.{IsShown}
use Rattle.dinode_tree.proofs.Sound.{parts_of_led}
use Rattle.gfs2_layout.specs.Holding.{Pointed}
use Rattle.resource_groups.specs.Putting.{HasDataBlock}
use Rattle.image_model.specs.Groups.{IsDataOf, IsHeaderOf, IsListed}
use Rattle.image_model.specs.Image.{Image}
use Rattle.image_model.specs.Owners.{Owners, holding}
use Rattle.image_model.specs.Stands.{Layout}
use Rattle.image_model.proofs.Held.{some_same}
use Rattle.image_model.proofs.Counts.{at_in}
use Rattle.image_model.proofs.Members.{IsIn, contained, is_in}
use Rattle.image_changes.specs.Changes.{inode_of}
use Rattle.image_changes.specs.Does.{IsOf}
use Rattle.image_changes.specs.Drafted.{IsFinished, MakesIn, is_freed, is_gone}
use Rattle.image_changes.specs.Instances.{IsAt, among, dinode_at}
use Rattle.image_changes.proofs.Finishing.{finish_makes}
use Rattle.image_changes.proofs.Nodes.{among_in, in_among}
use Rattle.draft_changes.specs.Removing.{HasSome}
use Rattle.draft_changes.specs.Resizing.{HasSomeOf, ResizesFile}
use Rattle.draft_changes.proofs.Resized.{resizing_makes}
use Rattle.draft_changes.proofs.Rows.{cell_its, in_header_or_not, its_used, part_its, part_there}
use Rattle.draft_changes.proofs.Views.{groups_are_listed, is_listed}
use Rattle.file_changes.specs.Drafting.{IsWrongAt, in_group, in_inode, stray}
use Rattle.file_changes.specs.Making.{MakesFile}
use Rattle.file_changes.proofs.Locks.{groups_break_nothing}
use Rattle.path_walks.specs.Holds.{Hold, IsAskedFor, IsUnder, hold_of, hold_of_group, holds_in}
use Rattle.path_walks.specs.Walks.{IsSeenAt, IsWalked}
use Rattle.path_walks.specs.declared.walk.Place.{Place}
use Rattle.path_walks.specs.declared.walk.Walk.TheVariants.{At}
use Rattle.path_walks.proofs.Asked.{asked}
use Rattle.path_walks.proofs.Images.{is_shown, is_sound, unbroken}
use Rattle.path_walks.proofs.Longer.{asked_before}
use Rattle.writing_calls.specs.Writing.{IsEdit, IsToChange, call_holds, content_after, end_of, group_holds_of}
use Rattle.writing_calls.proofs.Alone.{file_listed}
use Rattle.writing_calls.proofs.Doing.{call_taken, file_there, inode_held}
use Rattle.writing_calls.proofs.Listed.{taken_list}

-- ---- what a change is of a file

-- some of these blocks is a data block of the group, or none
some_or : (g : Rindex) (blocks : List ℕ) → HasSome g blocks ⊎ ¬ (HasSome g blocks)
some_or g [] = inr (λ s. elim (is_in s.0 [] s.1) [ ])
some_or g (b ∷ blocks) = elim (some_or g blocks) [
  | inl s ↦ inl (s.0, contained s.0 (b ∷ blocks) (inr (is_in s.0 blocks s.1)), s.2)
  | inr none ↦ elim (data_or g b) [
    | inl here ↦ inl (b, contained b (b ∷ blocks) (inl refl), here)
    | inr away ↦ inr (λ s. elim (is_in s.0 (b ∷ blocks) s.1) [
      | inl e ↦ away (subst (IsDataOf g) e s.2)
      | inr later ↦ none (s.0, contained s.0 blocks later, s.2)
    ])
  ]
]
  where
    data_or : (k : Rindex) (x : ℕ) → IsDataOf k x ⊎ ¬ (IsDataOf k x)
    data_or k x = elim (cases_lt x k.data0) [
      | inl less ↦ inr (λ d. absurd (omega (arith, less, d.low)))
      | inr over ↦ elim (cases_lt x (k.data0 + k.data_blocks)) [
        | inl less ↦ inl (record { low = over; high = less })
        | inr more ↦ inr (λ d. absurd (omega (arith, more, d.high)))
      ]
    ]

-- each lock of a change is one with which its draft put a block
each_lock : (fates : FinMap nat_cmp Fate) (change : Change) → IsFinished fates change → (P : LockName → Type 0)
    → ((b : ℕ) (lock : LockName) (plain : Bool) (bytes : List ℕ) → get fates b ≡ Some (Put lock plain bytes) → P lock) → (lock : LockName) → Contains change.locks.items lock → P lock
each_lock fates change finished P puts lock has =
    let d = finish_makes fates change finished in
    let nothing : Written = record { block = 0; plain = false; bytes = [] } in
    let w : Written = get_or change.blocks.items has.0 nothing in
    puts w.block lock w.plain w.bytes
    (d.told has.0 w lock (slice_get-get_or change.blocks.items has.0 nothing (omega (arith, has.1, d.form.locks))) (slice_get-get_or change.locks.items has.0 lock has.1 ∙ ap Some has.2))

some_of_or : (g : Rindex) (taken freed : List ℕ) → HasSomeOf g taken freed ⊎ ¬ (HasSomeOf g taken freed)
some_of_or g taken freed = elim (some_or g taken) [
  | inl s ↦ inl (inl s)
  | inr none ↦ elim (some_or g freed) [
    | inl s ↦ inl (inr s)
    | inr neither ↦ inr (λ s. elim s [ inl one ↦ none one | inr one ↦ neither one ])
  ]
]

-- the block is of the header and bitmap of such a group among these, or of none
such_header : (taken freed : List ℕ) (b : ℕ) (gs : List Rindex) → ((k : Rindex) × IsIn k gs × HasSomeOf k taken freed × IsHeaderOf k b) ⊎ ((k : Rindex) → IsIn k gs → HasSomeOf k taken freed → ¬ (IsHeaderOf k b))
such_header taken freed b [] = inr (λ k at some h. elim at [ ])
such_header taken freed b (g ∷ gs) = elim (such_header taken freed b gs) [
  | inl found ↦ inl (found.0, inr found.1, found.2, found.3)
  | inr none ↦ elim (some_of_or g taken freed) [
    | inr lacks ↦ inr (λ k at some h. elim at [ inl e ↦ lacks (subst (λ x. HasSomeOf x taken freed) e some) | inr later ↦ none k later some h ])
    | inl some ↦ elim (in_header_or_not g b) [
      | inl head ↦ inl (g, inl refl, some, head)
      | inr away ↦ inr (λ k at has h. elim at [ inl e ↦ away (subst (λ x. IsHeaderOf x b) e h) | inr later ↦ none k later has h ])
    ]
  ]
]

module _ (im : Image) (o : Owners) (l : Layout) (fates : FinMap nat_cmp Fate) (a : ℕ) (g : Holding) (taken freed : List ℕ) (is : ResizesFile im o l fates a g taken freed) where
  -- what is freed is one of these
  pub gone_there : (b : ℕ) → is_freed fates b ≡ true → Contains freed b
  gone_there b gone = elim (cases_Bool (among freed b)) [
    | inl e ↦ contained b freed (among_in freed b e)
    | inr apart ↦ absurd (elim (cases_Bool (is_some (g.cell b))) [
      | inl some ↦ elim (is.puts b some) [
        | inl put ↦ true≢false (sym gone ∙ ap is_gone put.fate)
        | inr kept ↦ true≢false (sym gone ∙ ap is_gone kept.1)
      ]
      | inr none ↦ elim (such_header taken freed b l.groups) [
        | inl found ↦ elim ((is.states found.0 (is_listed found.0 l.groups found.1) found.2).blocks b found.3) [
          | inl left ↦ true≢false (sym gone ∙ ap is_gone left)
          | inr put ↦ true≢false (sym gone ∙ ap is_gone put.1)
        ]
        | inr away ↦ true≢false (sym gone ∙ ap is_gone (is.others b (λ some. true≢false (sym some ∙ none)) (λ has. true≢false (sym (in_among freed b (is_in b freed has)) ∙ apart))
            (λ k listed some. away k (at_in k l.groups listed.0 listed.1) some)))
      ]
    ])
  ]

-- ---- at the place to which the walk came

module _ (v : Seen) (c : Call) (p : Place) (is : IsEdit c) (seen : IsSeenAt v (wanted c) (path_of c false) p) (plain : is_directory p.dinode ≡ false) (short : end_of c ≤ file_limit) where
  pub to_change : HasDataBlock v p.inode → IsToChange v c p.inode
  to_change inside = record {
    at = record { leads = seen.leads; there = seen.there; so = λ h shown. record { file = ap is_directory (sym (seen.dinode h shown)) ∙ plain; short = short } };
    inside = inside;
  }

  -- ---- in an image that the view may be of

  module _ (im : Image) (o : Owners) (l : Layout) (t : Tree) (of : IsOf v im o l t) (walked : IsWalked v im o l t (path_of c false) (wanted c) (At p)) where
    abbrev path_list : List Hold
    path_list = holds_in im o l (path_of c false) (wanted c)

    abbrev content : List ℕ
    content = content_of (holding im o p.inode)

    at : IsAt im o l (path_of c false) p.inode
    at = walked.0.at

    pub is_file : is_directory_in (holding im o p.inode) ≡ false
    is_file = ap is_directory (sym walked.0.dinode) ∙ plain

    pub size_is : (dinode_at im o p.inode).size ≡ p.dinode.size
    size_is = ap (λ (d : Dinode). d.size) (sym walked.0.dinode)

    taken : apply c t ≡ record { reply = OkReply; tree = put_at (path_of c false) (file (content_after c content)) t }
    taken = call_taken c t content is short (file_there v im o l t of (path_of c false) p.inode at is_file)

    pub ok : (apply c t).reply ≡ OkReply
    ok = ap (λ (a : Answer). a.reply) taken

    pub list_is : (node : ℕ) → call_holds im o l t c node ≡ path_list ++ group_holds_of im o l c node p.inode
    list_is node = taken_list im o l t c node p.inode (ap is_ok ok) at

    -- a block of the file that is needed
    pub inode_asked : (node : ℕ) (W : Holding → ℕ → Type 0) (least : ℕ) (m : Missing) → ((h : Holding) → IsShown v p.inode h → IsNeeded v h (W h) least m) → IsAskedFor v im o l (call_holds im o l t c node) m
    inode_asked node W least m needed =
        subst (λ xs. IsAskedFor v im o l xs m) (sym (list_is node))
        (asked_before v im o l path_list (group_holds_of im o l c node p.inode) m
        (asked v im o l t of (path_of c false) p.inode at path_list walked.1 walked.2 (W (holding im o p.inode)) least m (needed (holding im o p.inode) (is_shown v im o l t of (path_of c false) p.inode at))))

    -- nothing is wrong with the file
    pub none_wrong : (blocks : List ℕ) (rule b : ℕ) → IsWrongAt v p.inode blocks rule b → ⊥
    none_wrong blocks rule b (in_inode r d broken) = unbroken v im o l t of (path_of c false) p.inode r d at (broken (holding im o p.inode) (is_shown v im o l t of (path_of c false) p.inode at))
    none_wrong blocks rule b (stray from d led outside) = outside (its_inside d (led (holding im o p.inode) (is_shown v im o l t of (path_of c false) p.inode at)))
      where
        its_inside : (x : ℕ) → IsLedFrom (holding im o p.inode) from x → HasDataBlock v x
        its_inside x way =
            let part = parts_of_led (holding im o p.inode) x (is_sound v im o l t of (path_of c false) p.inode at) (from, way.0, way.1, way.2, way.3) in
            let its : inode_of x (o x) ≡ Some p.inode = part_its p.inode x (o x) (Pointed part.0 part.1 part.2 part.3) (sym (part_there im o p.inode x) ∙ part.4) in
            let placed = of.stands.laid.zoned.placed x (its_used x p.inode (o x) its).0 in
            (group_of_entry placed.0, (groups_are_listed v im o l t (group_of_entry placed.0) of).1 (placed.0, placed.1, refl), record { low = placed.2.low; high = placed.2.high })
    none_wrong blocks rule b (in_group r d breaks) = groups_break_nothing v im o l t blocks r d of breaks

    module _ (fates : FinMap nat_cmp Fate) (time : ℕ) (taken_blocks freed : List ℕ) (m : MakesFile im o l fates p.inode (content_after c content) time taken_blocks freed) where
      -- a draft that makes the file so makes what the call should
      pub makes : MakesIn v c OkReply fates im o l t
      makes = resizing_makes v c fates im o l t (path_of c false) p.inode m.g taken_blocks freed of at m.resizes (inode_held v c p.inode is seen.leads)
          (taken ∙ ap (λ bytes. record { reply = OkReply; tree = put_at (path_of c false) (file bytes) t }) (sym m.content))

      -- and each lock that its change touches is of the list, where those of the groups with such blocks are
      pub made_under : (node : ℕ) (change : Change) → IsFinished fates change
          → ((k : Rindex) → IsListed l.groups k → HasSomeOf k taken_blocks freed → Contains (group_holds_of im o l c node p.inode) (hold_of_group (group_of_entry k)))
          → IsUnder o (call_holds im o l t c node) change
      made_under node change finished listed = record {
        written = each_lock fates change finished (λ lock. Contains (call_holds im o l t c node) (record { lock = lock; state = Ex })) (λ b lock content bytes put. in_list lock (m.under b lock content bytes put));
        freed = λ b x gone its.
            let d = finish_makes fates change finished in
            let mine = cell_its im o p.inode b (m.resizes.blocks.were b (gone_there im o l fates p.inode m.g taken_blocks freed m.resizes b (sym (d.gone b) ∙ gone))) in
            subst (λ y. Contains (call_holds im o l t c node) (hold_of y Ex)) (some_same (sym mine ∙ its)) own_lock;
      }
        where
          list : List Hold
          list = group_holds_of im o l c node p.inode

          own_lock : Contains (call_holds im o l t c node) (hold_of p.inode Ex)
          own_lock = subst (λ xs. Contains xs (hold_of p.inode Ex)) (sym (list_is node))
              (Contains-append_left path_list (group_holds_of im o l c node p.inode) (hold_of p.inode Ex) (file_listed c im o l p.inode is at))

          in_list : (lock : LockName) → (lock ≡ inode_lock p.inode) ⊎ ((k : Rindex) × IsListed l.groups k × HasSomeOf k taken_blocks freed × (lock ≡ record { kind = 3; number = k.address }))
              → Contains (call_holds im o l t c node) (record { lock = lock; state = Ex })
          in_list lock (inl e) = subst (λ k. Contains (call_holds im o l t c node) (record { lock = k; state = Ex })) (sym e) own_lock
          in_list lock (inr f) =
              subst (λ xs. Contains xs (record { lock = lock; state = Ex })) (sym (list_is node))
              (Contains-append_right path_list (group_holds_of im o l c node p.inode) (record { lock = lock; state = Ex })
              (subst (λ k. Contains (group_holds_of im o l c node p.inode) (record { lock = k; state = Ex })) (sym f.3) (listed f.0 f.1 f.2)))
