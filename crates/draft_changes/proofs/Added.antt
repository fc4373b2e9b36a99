-- A draft that adds a name makes what the call should.
use Rattle.std.proofs.Common.{◌≡◌, ◌≢◌, ℕ, ◌+◌, ◌-◌, ◌<◌, ◌⊎◌, inl, inr, true, false, true≢false, List, [], ◌∷◌, length, get_or, None, Some, refl, sym, ap, ◌∙◌, subst, arith}
use Rattle.std.specs.Prelude.{◌==◌, if◌then◌else◌, slice_set}
use Rattle.std.specs.Ordering.{nat_cmp}
use Rattle.std.specs.FinMap.{FinMap, get}
use Rattle.std.proofs.lemmas.Bool.{cases_eq, cond-true, cond-false, eq-eqb, ne_eqb}
use Rattle.std.proofs.lemmas.List.{length-set, get_or-set_same, get_or-set_other}
use Rattle.std.proofs.lemmas.List.FromFn.{length-map-range_with_len, get_or-map-range_with_len}
use Rattle.file_tree.specs.Tree.{Tree}
use Rattle.file_tree.specs.Apply.{apply, put_at}
use Rattle.file_tree.specs.declared.call.Call.{Call}
use Rattle.file_tree.specs.declared.reply.Reply.TheVariants.{Ok}
use Rattle.drafts.specs.declared.change.Written.{Written}
use Rattle.drafts.specs.declared.fate.Fate.{Fate}
use Rattle.drafts.specs.declared.fate.Fate.TheVariants.{Put}
use Rattle.gfs2_layout.specs.declared.rindex.Rindex.{Rindex}
use Rattle.gfs2_layout.specs.Holding.{Holding, Itself, alone}
use Rattle.gfs2_layout.specs.Exchanges.{IsExchanged, IsCounted}
use Rattle.gfs2_layout.specs.Inode.{Head, IsInode, head_of, dinode_in, is_directory_in, records_of}
use Rattle.gfs2_layout.specs.Records.{Record}
use Rattle.glock_names.specs.Views.{Seen}
use Rattle.glock_names.specs.declared.LockName.{LockName}
use Rattle.image_model.specs.Flat.{Path}
use Rattle.image_model.specs.Groups.{IsListed, IsHeaderOf, IsDataOf, states_of, state_of}
use Rattle.image_model.specs.Image.{Image}
use Rattle.image_model.specs.Owners.{Owners, InGroup, Free, Named, is_dinode, part_in, cell_of, cell_in, holding}
use Rattle.image_model.specs.Stands.{Layout, IsRecordOf, kind_of, heads_of}
use Rattle.image_model.proofs.Members.{IsIn}
use Rattle.image_changes.specs.Changes.{inode_of, IsOf as IsOfInodes, IsChange, inode_lock, is_free}
use Rattle.image_changes.specs.Directories.{IsBare}
use Rattle.image_changes.specs.Does.{IsOf, IsWritten}
use Rattle.image_changes.specs.Drafted.{is_put, is_freed, is_drafted, with_draft, MakesIn, name_added}
use Rattle.image_changes.specs.Flats.{in_directory}
use Rattle.image_changes.specs.Instances.{IsAt, among, IsNew, empty_file, empty_directory, IsNameAdded}
use Rattle.image_changes.proofs.Drafting.{own_locks}
use Rattle.image_changes.proofs.Frame.{dinode_its, not_its}
use Rattle.image_changes.proofs.Laid.{follow_dinode}
use Rattle.image_changes.proofs.Nodes.{among_in, in_among}
use Rattle.image_changes.proofs.States.{table_says}
use Rattle.draft_changes.specs.Adding.{ReadsNew, AddsName, AddingMakes}
use Rattle.draft_changes.specs.Adding as new
use Rattle.draft_changes.specs.Groups.{PutsGroup}
use Rattle.draft_changes.proofs.Rows.{of_its, itself_or_within, not_group_free, in_header_or_not, said_free}
use Rattle.draft_changes.proofs.Framed.{none_drafted, put_drafted, freed_drafted, put_not_gone, bytes_put, MakesOf, leaves, of_inodes, of_header, IsFramed, framed_change, header_written, header_row, header_kept, group_written, dinode_written}

module _ (v : Seen) (call : Call) (fates : FinMap nat_cmp Fate) (im : Image) (o : Owners) (l : Layout) (t : Tree) (path : Path) (p : ℕ) (name : List ℕ) (a : ℕ) (u : Tree)
    (here : IsOf v im o l t) (at : IsAt im o l path p) (is : AddsName im o l fates p name a u) where
  abbrev im' : Image
  im' = with_draft im fates

  abbrev o' : Owners
  o' b = if b == a then Named p name else o b

  abbrev ys : List ℕ
  ys = p ∷ (a ∷ [])

  abbrev gs : List Rindex
  gs = is.group ∷ []

  -- ---- the table of owners

  free : o a ≡ Free is.group.address
  free = said_free im o l here.stands.laid is.group is.listed a is.data_block is.was_free

  dinode : is_dinode (o p) ≡ true
  dinode = follow_dinode im o l here.stands.laid path l.root p (ap is_dinode here.stands.laid.root.0) at

  was_none : is_dinode (o a) ≡ false
  was_none = ap is_dinode free

  apart : p ≢ a
  apart e = true≢false (sym dinode ∙ ap (λ z. is_dinode (o z)) e ∙ was_none)

  row : o' a ≡ Named p name
  row = cond-true _ (Named p name) (o a) (eq-eqb a a refl)

  row_other : (b : ℕ) → b ≢ a → o' b ≡ o b
  row_other b d = cond-false _ (Named p name) (o b) (ne_eqb b a d)

  row_parent : o' p ≡ o p
  row_parent = row_other p apart

  dinode' : is_dinode (o' p) ≡ true
  dinode' = ap is_dinode row_parent ∙ dinode

  p_in : among ys p ≡ true
  p_in = in_among ys p (inl refl)

  a_in : among ys a ≡ true
  a_in = in_among ys a (inr (inl refl))

  which : (y : ℕ) → among ys y ≡ true → (y ≡ p) ⊎ (y ≡ a)
  which y e = elim (among_in ys y e) [ inl e ↦ inl e | inr h ↦ elim h [ inl e ↦ inr e | inr h ↦ elim h [ ] ] ]

  dinodes : (y : ℕ) → among ys y ≡ true → is_dinode (o' y) ≡ true
  dinodes y e = elim (which y e) [ inl e ↦ ap (λ z. is_dinode (o' z)) e ∙ dinode' | inr e ↦ ap (λ z. is_dinode (o' z)) e ∙ ap is_dinode row ]

  -- ---- the group

  abbrev place : ℕ
  place = a - is.group.data0

  states_put : slice_set (states_of o is.group) place 3 ≡ states_of o' is.group
  states_put = table_says o' is.group (slice_set (states_of o is.group) place 3) (length-set (states_of o is.group) place 3 ∙ long) each
    where
      long : length (states_of o is.group) ≡ is.group.data_blocks
      long = length-map-range_with_len (λ b. state_of (o b)) is.group.data0 is.group.data_blocks

      inside : place < is.group.data_blocks
      inside = omega (arith, is.data_block.low, is.data_block.high)

      each : (i : ℕ) → i < is.group.data_blocks → get_or (slice_set (states_of o is.group) place 3) i 0 ≡ state_of (o' (is.group.data0 + i))
      each i low = elim (cases_eq i place) [
        | inl e ↦ ap (λ j. get_or (slice_set (states_of o is.group) place 3) j 0) e ∙ get_or-set_same (states_of o is.group) place 3 0 (subst (λ n. place < n) (sym long) inside)
            ∙ sym (ap (λ b. state_of (o' b)) (omega (arith, e, is.data_block.low)) ∙ ap state_of row)
        | inr d ↦ get_or-set_other (states_of o is.group) place i 3 0 d ∙ get_or-map-range_with_len (λ b. state_of (o b)) is.group.data0 is.group.data_blocks i (is.group.data0 + i) 0 low refl
            ∙ sym (ap state_of (row_other (is.group.data0 + i) (λ e. d (omega (arith, e, is.data_block.low)))))
      ]

  -- ---- what becomes of each block

  block : (b : ℕ) → MakesOf o o' fates ys gs b
  block b = elim (cases_eq b a) [
    | inl e ↦ subst (MakesOf o o' fates ys gs) (sym e) (of_inodes (put_drafted fates a _ _ _ is.put) (subst (IsOfInodes (among ys) a) (sym free) tt) (subst (IsOfInodes (among ys) a) (sym row) (a, refl, a_in)))
    | inr d ↦ elim (cases_eq b p) [
      | inl e ↦ subst (MakesOf o o' fates ys gs) (sym e) (of_inodes (put_drafted fates p _ _ _ is.parent_put) (of_its (among ys) p p (o p) (dinode_its p (o p) dinode) p_in) (of_its (among ys) p p (o' p) (dinode_its p (o' p) dinode') p_in))
      | inr d' ↦ elim (in_header_or_not is.group b) [
        | inl h ↦ of_header is.group (inl refl) h (row_other b d)
        | inr away ↦ leaves (none_drafted fates b (is.others b d' d away)) (row_other b d)
      ]
    ]
  ]

  framed : IsFramed im o o' l fates ys gs
  framed = record {
    laid = here.stands.laid;
    whole = is.whole;
    listed = λ g h. subst (IsListed l.groups) (sym (only g h)) is.listed;
    groups = λ g h. subst (λ k. PutsGroup im fates k (states_of o' k)) (sym (only g h)) (subst (PutsGroup im fates is.group) states_put is.states);
    blocks = block;
    freed = freed;
    states = states;
  }
    where
      only : (g : Rindex) → IsIn g gs → g ≡ is.group
      only g (inl e) = e
      only g (inr h) = elim h [ ]

      not_free : (x : ℕ) → Named p name ≡ Free x → ⊥
      not_free x e = cc

      freed : (b x : ℕ) → o' b ≡ Free x → (o b ≡ Free x) ⊎ ((g : Rindex) × IsIn g gs × IsDataOf g b × (x ≡ g.address))
      freed b x e = elim (cases_eq b a) [
        | inl same ↦ absurd (not_free x (sym row ∙ ap o' (sym same) ∙ e))
        | inr d ↦ inl (sym (row_other b d) ∙ e)
      ]

      states : (b : ℕ) → (state_of (o' b) ≡ state_of (o b)) ⊎ ((g : Rindex) × IsIn g gs × IsDataOf g b)
      states b = elim (cases_eq b a) [
        | inl same ↦ inr (is.group, inl refl, subst (IsDataOf is.group) (sym same) is.data_block)
        | inr d ↦ inl (ap state_of (row_other b d))
      ]

  -- ---- the two inodes

  abbrev held : Holding
  held = alone im.size im.count a is.bytes

  parent_held : holding im' o' p ≡ holding im' o p
  unfolding cell_in
  parent_held = λ i. record { size = im.size; count = im.count; own = p; cell = λ b. cell b i }
    where
      part : (b : ℕ) → part_in p b (o' b) ≡ part_in p b (o b)
      part b = elim (cases_eq b a) [
        | inl e ↦ subst (λ z. part_in p z (o' z) ≡ part_in p z (o z)) (sym e)
            (ap (part_in p a) row ∙ cond-false _ (Some Itself) None (ne_eqb a p (λ e. apart (sym e))) ∙ sym (ap (part_in p a) free))
        | inr d ↦ ap (part_in p b) (row_other b d)
      ]

      cell : (b : ℕ) → cell_in im' o' p b ≡ cell_in im' o p b
      cell b = ap (λ q. cell_of q (im'.at b)) (part b)

  new_held : holding im' o' a ≡ held
  unfolding cell_in
  new_held = λ i. record { size = im.size; count = im.count; own = a; cell = λ b. cell b i }
    where
      Same : ℕ → Type 0
      Same b = cell_of (part_in a b (o' b)) (im'.at b) ≡ (if b == a then Some (record { part = Itself; bytes = is.bytes }) else None)

      own : Same a
      own = ap (λ q. cell_of q (im'.at a)) (ap (part_in a a) row ∙ cond-true _ (Some Itself) None (eq-eqb a a refl))
          ∙ ap (λ bytes. Some (record { part = Itself; bytes = bytes })) (bytes_put im fates a _ _ _ is.put)
          ∙ sym (cond-true _ (Some (record { part = Itself; bytes = is.bytes })) None (eq-eqb a a refl))

      -- no block is one of an inode that isn't there
      none_its : (b : ℕ) → b ≢ a → inode_of b (o b) ≡ Some a → ⊥
      none_its b d e = elim (itself_or_within b a (o b) e) [
        | inl same ↦ d same
        | inr h ↦ true≢false (sym (here.stands.laid.within b a h) ∙ was_none)
      ]

      other : (b : ℕ) → b ≢ a → Same b
      other b d = ap (λ q. cell_of q (im'.at b)) (ap (part_in a b) (row_other b d) ∙ not_its a b (o b) (none_its b d))
          ∙ sym (cond-false _ (Some (record { part = Itself; bytes = is.bytes })) None (ne_eqb b a d))

      cell : (b : ℕ) → cell_in im' o' a b ≡ (if b == a then Some (record { part = Itself; bytes = is.bytes }) else None)
      cell b = elim (cases_eq b a) [ inl e ↦ subst Same (sym e) own | inr d ↦ other b d ]

  head_parent : heads_of im' o' p ≡ heads_of im o p
  head_parent = ap head_of parent_held ∙ is.exchanged.head

  head_new : heads_of im' o' a ≡ head_of held
  head_new = ap head_of new_held

  inodes : (x : ℕ) → among ys x ≡ true → is_dinode (o' x) ≡ true → IsInode (holding im' o' x)
  inodes x h so = elim (which x h) [
    | inl e ↦ subst (λ z. IsInode (holding im' o' z)) (sym e) (subst IsInode (sym parent_held) (is.exchanged.sound (here.stands.laid.inodes p dinode)))
    | inr e ↦ subst (λ z. IsInode (holding im' o' z)) (sym e) (subst IsInode (sym new_held) is.sound)
  ]

  heads : (x : ℕ) → among ys x ≡ true → is_dinode (o x) ≡ true → is_dinode (o' x) ≡ true → heads_of im' o' x ≡ heads_of im o x
  heads x h so so' = elim (which x h) [
    | inl e ↦ subst (λ z. heads_of im' o' z ≡ heads_of im o z) (sym e) head_parent
    | inr e ↦ absurd (true≢false (sym so ∙ ap (λ z. is_dinode (o z)) e ∙ was_none))
  ]

  change : IsChange im im' o o' l (among ys) (is_drafted fates)
  change = framed_change im o o' l fates ys gs framed inodes (λ b x h w. dinodes x h) heads

  -- a record of an inode is one by the table of all
  record_here : (head : Head) (b : ℕ) (r : Record) → heads_of im' o' b ≡ head → IsRecordOf (λ c. head) b r → IsRecordOf (heads_of im' o') b r
  record_here head b r e of = record { address = of.address; number = of.number ∙ ap (λ (h : Head). h.number) (sym e); kind = of.kind ∙ ap kind_of (sym e) }

  reads : (w : Tree) → ReadsNew (heads_of im o p) p held w → IsNew im' o' p a w
  reads _ (new.empty_file not size) = empty_file (ap is_directory_in new_held ∙ not) (ap (λ h. (dinode_in h).size) new_held ∙ size)
  reads _ (new.empty_directory bare) = empty_directory (ap is_directory_in new_held ∙ bare.directory)
      (subst (λ h. IsBare (heads_of im' o') a p (records_of h) (dinode_in h)) (sym new_held) (record {
        dot = bare.dot;
        dots = bare.dots;
        are = bare.are;
        dot_is = (bare.dot_is.0, record_here (head_of held) a bare.dot head_new bare.dot_is.1);
        dots_is = (bare.dots_is.0, record_here (heads_of im o p) p bare.dots head_parent bare.dots_is.1);
        entries = bare.entries;
        links = bare.links;
      }))

  added : IsNameAdded im im' o o' l (is_drafted fates) p name a u
  added = record {
    change = change;
    was_free = (is.group.address, free);
    parent_row = row_parent;
    row = row;
    is_name = is.is_name;
    directory = is.directory;
    absent = is.absent;
    entry = is.entry;
    named = is.named;
    true_of = record_here (head_of held) a is.entry head_new is.true_of;
    exchanged = subst (λ h. IsExchanged (records_of (holding im o p)) (records_of h) [] (is.entry ∷ [])) (sym parent_held) is.exchanged.records;
    counted = subst (λ h. IsCounted (dinode_in (holding im o p)) (dinode_in h) [] (is.entry ∷ [])) (sym parent_held) is.exchanged.counted;
    new = reads u is.new;
  }

  -- ---- what is told of each block

  locks : (y : ℕ) → among ys y ≡ true → inode_lock l y ≡ Some (record { kind = 2; number = y })
  locks y h = elim (which y h) [
    | inl e ↦ subst (λ z. inode_lock l z ≡ Some (record { kind = 2; number = z })) (sym e) (own_locks im o l p here.stands.laid (inl (path, at)))
    | inr e ↦ subst (λ z. inode_lock l z ≡ Some (record { kind = 2; number = z })) (sym e) (own_locks im o l a here.stands.laid (inr (is.group.address, free)))
  ]

  -- a drafted block is the new inode's, the directory's, or one of the group's
  where_drafted : (b : ℕ) → is_drafted fates b ≡ true → (b ≡ a) ⊎ ((b ≡ p) ⊎ IsHeaderOf is.group b)
  where_drafted b e = elim (cases_eq b a) [
    | inl same ↦ inl same
    | inr d ↦ elim (cases_eq b p) [
      | inl same ↦ inr (inl same)
      | inr d' ↦ elim (in_header_or_not is.group b) [
        | inl h ↦ inr (inr h)
        | inr away ↦ absurd (true≢false (sym e ∙ none_drafted fates b (is.others b d' d away)))
      ]
    ]
  ]

  written : (w : Written) (lock : LockName) → get fates w.block ≡ Some (Put lock w.plain w.bytes) → IsWritten l im' o o' w lock
  written w lock e = elim (where_drafted w.block (put_drafted fates w.block lock w.plain w.bytes e)) [
    | inl same ↦ dinode_written im o o' l fates a is.bytes is.put (ap is_dinode row) (locks a a_in) (inr (ap is_free free)) w lock same e
    | inr (inl same) ↦ dinode_written im o o' l fates p is.parent_bytes is.parent_put dinode' (locks p p_in) (inl dinode) w lock same e
    | inr (inr h) ↦ header_written im o o' l fates ys gs framed is.group (inl refl) w lock h e
  ]

  none_freed : (b : ℕ) → is_freed fates b ≡ true → ⊥
  none_freed b e = elim (where_drafted b (freed_drafted fates b e)) [
    | inl same ↦ true≢false (sym e ∙ ap (is_freed fates) same ∙ put_not_gone fates a _ _ _ is.put)
    | inr (inl same) ↦ true≢false (sym e ∙ ap (is_freed fates) same ∙ put_not_gone fates p _ _ _ is.parent_put)
    | inr (inr h) ↦ true≢false (sym e ∙ header_kept im o o' l fates ys gs framed is.group (inl refl) b h)
  ]

  -- of the group the block is taken
  groups : (b g : ℕ) → is_drafted fates b ≡ true → (o b ≡ Free g) ⊎ (o' b ≡ Free g) → (n : ℕ) × (is_put fates n ≡ true) × (o' n ≡ InGroup g)
  groups b g e free' = elim (where_drafted b e) [
    | inl same ↦
        let w = group_written im o o' l fates ys gs framed is.group (inl refl) in
        (w.0, w.1, w.2 ∙ ap InGroup (its (subst (λ z. (o z ≡ Free g) ⊎ (o' z ≡ Free g)) same free')))
    | inr (inl same) ↦ absurd (no_dinode (subst (λ z. (o z ≡ Free g) ⊎ (o' z ≡ Free g)) same free'))
    | inr (inr h) ↦ absurd (no_header (header_row im o o' l fates ys gs framed is.group (inl refl) b h) free')
  ]
    where
      same_group : Free is.group.address ≡ Free g → is.group.address ≡ g
      same_group e = cc

      not_free : Named p name ≡ Free g → ⊥
      not_free e = cc

      its : (o a ≡ Free g) ⊎ (o' a ≡ Free g) → is.group.address ≡ g
      its (inl e) = same_group (sym free ∙ e)
      its (inr e) = absurd (not_free (sym row ∙ e))

      no_dinode : (o p ≡ Free g) ⊎ (o' p ≡ Free g) → ⊥
      no_dinode (inl e) = true≢false (sym dinode ∙ ap is_dinode e)
      no_dinode (inr e) = true≢false (sym dinode' ∙ ap is_dinode e)

      no_header : (o b ≡ InGroup is.group.address) × (o' b ≡ InGroup is.group.address) → (o b ≡ Free g) ⊎ (o' b ≡ Free g) → ⊥
      no_header r (inl e) = not_group_free is.group.address g (sym r.0 ∙ e)
      no_header r (inr e) = not_group_free is.group.address g (sym r.1 ∙ e)

  makes : apply call t ≡ record { reply = Ok; tree = put_at (in_directory path name) u t } → MakesIn v call Ok fates im o l t
  makes answers = record {
    owners = o';
    tree = put_at (in_directory path name) u t;
    answers = answers;
    one = name_added path p name a u at added;
    written = written;
    freed = λ b e. absurd (none_freed b e);
    held = λ b e. absurd (none_freed b e);
    groups = groups;
  }

pub adding_makes : AddingMakes
adding_makes v call fates im o l t path parent name a u here at is answers = makes v call fates im o l t path parent name a u here at is answers
