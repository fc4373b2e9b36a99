-- A draft that removes a name from a directory of any form makes what the call should.
use Rattle.std.proofs.Common.{◌≡◌, ◌≢◌, ℕ, ◌⊎◌, inl, inr, Bool, true, false, true≢false, List, [], ◌∷◌, None, Some, refl, sym, ap, ◌∙◌, subst}
use Rattle.std.specs.Prelude.{Contains, IsSome, is_some, if◌then◌else◌}
use Rattle.std.specs.Ordering.{nat_cmp}
use Rattle.std.specs.FinMap.{FinMap, get}
use Rattle.std.proofs.lemmas.Bool.{cases_Bool, cond-true, cond-false}
use Rattle.file_tree.specs.Tree.{Tree}
use Rattle.file_tree.specs.Apply.{apply, remove_at}
use Rattle.file_tree.specs.declared.call.Call.{Call}
use Rattle.file_tree.specs.declared.reply.Reply.TheVariants.{Ok}
use Rattle.drafts.specs.declared.change.Written.{Written}
use Rattle.drafts.specs.declared.fate.Fate.{Fate}
use Rattle.drafts.specs.declared.fate.Fate.TheVariants.{Put}
use Rattle.gfs2_layout.specs.declared.rindex.Rindex.{Rindex}
use Rattle.gfs2_layout.specs.Exchanges.{IsExchanged, IsCounted}
use Rattle.gfs2_layout.specs.Inode.{Head, IsInode, head_of, dinode_in, is_directory_in, records_of}
use Rattle.glock_names.specs.Views.{Seen}
use Rattle.glock_names.specs.declared.LockName.{LockName}
use Rattle.glock_names.specs.declared.State.TheVariants.{Ex}
use Rattle.image_model.specs.Flat.{Path}
use Rattle.image_model.specs.Groups.{IsListed, IsHeaderOf, IsDataOf, states_of, state_of}
use Rattle.image_model.specs.Image.{Image}
use Rattle.image_model.specs.Owners.{Owners, InGroup, Free, Named, is_dinode, IsWithin, part_in, holding}
use Rattle.image_model.specs.Stands.{Layout, flat_of, heads_of}
use Rattle.image_model.proofs.Held.{none_some, some_same}
use Rattle.image_model.proofs.Members.{IsIn, is_in}
use Rattle.image_model.proofs.Table.{lies}
use Rattle.image_changes.specs.Changes.{inode_of, IsOf as IsOfInodes, IsChange, inode_lock, is_free}
use Rattle.image_changes.specs.Does.{IsOf, IsHeld, IsWritten, IsFreed}
use Rattle.image_changes.specs.Drafted.{is_gone, is_put, is_freed, is_drafted, with_draft, MakesIn, name_removed}
use Rattle.image_changes.specs.Flats.{in_directory}
use Rattle.image_changes.specs.Instances.{IsAt, among, IsNameRemoved}
use Rattle.image_changes.proofs.Drafting.{own_locks}
use Rattle.image_changes.proofs.Frame.{dinode_its, within_its, not_its, inode_cover}
use Rattle.image_changes.proofs.Laid.{child_rows, follow_dinode}
use Rattle.image_changes.proofs.Standing.{has_child_directory}
use Rattle.image_changes.proofs.Nodes.{among_in, in_among}
use Rattle.image_changes.proofs.States.{map_same}
use Rattle.draft_changes.specs.Groups.{PutsGroup}
use Rattle.draft_changes.specs.Removing.{HasSome, states_without}
use Rattle.draft_changes.proofs.Rows.{of_its, its_used, cell_its, its_cell, not_group_free, header_among}
use Rattle.draft_changes.proofs.Homes.{number_of, group_of, homes, IsHome, IsOne, from_homes, UsedOrFree, home, in_homes}
use Rattle.directory_changes.proofs.Blocks.{block_written, child_at, has, in_list, kept_block, kept_not_freed, lacks, not_free_its, put_so}
use Rattle.directory_changes.proofs.Holds.{held_by_parts}
use Rattle.directory_changes.specs.Shrinking.{ShrinksByName, ShrinkingMakes}
use Rattle.draft_changes.proofs.Framed.{none_drafted, gone_drafted, gone_there, put_not_gone, MakesOf, leaves, of_inodes, of_header, IsFramed, framed_change, header_written, header_row, header_kept, group_written}

module _ (v : Seen) (call : Call) (fates : FinMap nat_cmp Fate) (im : Image) (o : Owners) (l : Layout) (t : Tree) (path : Path) (p : ℕ) (name : List ℕ) (a : ℕ)
    (here : IsOf v im o l t) (at : IsAt im o l path p) (at_a : IsAt im o l (in_directory path name) a) (is : ShrinksByName im o l fates p name a)
    (exclusive : v.state_of (record { kind = 2; number = a }) ≡ Ex) where
  abbrev im' : Image
  im' = with_draft im fates

  abbrev o' : Owners
  o' b = if among is.blocks b then Free (number_of (lies l.groups b)) else o b

  abbrev ys : List ℕ
  ys = p ∷ (a ∷ [])

  abbrev gs : List Rindex
  gs = homes l is.blocks

  -- ---- the inode's blocks

  its : (b : ℕ) → among is.blocks b ≡ true → inode_of b (o b) ≡ Some a
  its b e = cell_its im o a b ((is.own b).0 (has is.blocks b e))

  mine : (b : ℕ) → inode_of b (o b) ≡ Some a → among is.blocks b ≡ true
  mine b e = in_among is.blocks b (is_in b is.blocks ((is.own b).1 (its_cell im o a b e)))

  child : (flat_of im o p).child name ≡ Some a
  child = child_at im o l path p name a at at_a

  row : o a ≡ Named p name
  row = (child_rows im o l here.stands.laid p a name child).2

  dinode : is_dinode (o p) ≡ true
  dinode = follow_dinode im o l here.stands.laid path l.root p (ap is_dinode here.stands.laid.root.0) at

  a_mine : among is.blocks a ≡ true
  a_mine = mine a (dinode_its a (o a) (ap is_dinode row))

  own_there : IsSome ((holding im o p).cell p)
  own_there = its_cell im o p p (dinode_its p (o p) dinode)

  p_other : among is.blocks p ≡ false
  p_other = lacks is.blocks p (λ c. true≢false (sym (ap is_gone (is.freed p c)) ∙ kept_not_freed fates (holding im o p) p p (is.puts p own_there)))

  apart : p ≢ a
  apart e = true≢false (sym a_mine ∙ ap (among is.blocks) (sym e) ∙ p_other)

  -- ---- the table of owners

  row_mine : (b : ℕ) → among is.blocks b ≡ true → o' b ≡ Free (number_of (lies l.groups b))
  row_mine b e = cond-true _ (Free (number_of (lies l.groups b))) (o b) e

  row_other : (b : ℕ) → among is.blocks b ≡ false → o' b ≡ o b
  row_other b e = cond-false _ (Free (number_of (lies l.groups b))) (o b) e

  dinode' : is_dinode (o' p) ≡ true
  dinode' = ap is_dinode (row_other p p_other) ∙ dinode

  gone : is_dinode (o' a) ≡ false
  gone = ap is_dinode (row_mine a a_mine)

  p_in : among ys p ≡ true
  p_in = in_among ys p (inl refl)

  a_in : among ys a ≡ true
  a_in = in_among ys a (inr (inl refl))

  which : (y : ℕ) → among ys y ≡ true → (y ≡ p) ⊎ (y ≡ a)
  which y e = elim (among_in ys y e) [ inl e ↦ inl e | inr h ↦ elim h [ inl e ↦ inr e | inr h ↦ elim h [ ] ] ]

  -- ---- the groups of the blocks

  used : (b : ℕ) → Contains is.blocks b → UsedOrFree o b
  used b c = inl (its_used b a (o b) (its b (in_list is.blocks b c))).0

  home_of : (b : ℕ) → among is.blocks b ≡ true → IsHome l b (number_of (lies l.groups b)) (group_of (lies l.groups b))
  home_of b e = home im o l here.stands.laid b (used b (has is.blocks b e))

  -- a group of some of the blocks
  in_gs : (g : Rindex) → IsListed l.groups g → HasSome g is.blocks → IsIn g gs
  in_gs = in_homes im o l here.stands.laid is.blocks used

  from_gs : (g : Rindex) → IsIn g gs → IsOne l is.blocks g
  from_gs = from_homes l is.blocks

  states_same : (g : Rindex) → states_without o is.blocks g ≡ states_of o' g
  states_same g = map_same (λ b. if among is.blocks b then 0 else state_of (o b)) (λ b. state_of (o' b)) g.data0 g.data_blocks (λ b low high. by b (among is.blocks b))
    where
      by : (b : ℕ) (t : Bool) → (if t then 0 else state_of (o b)) ≡ state_of (if t then Free (number_of (lies l.groups b)) else o b)
      by b true = refl
      by b false = refl

  -- ---- what becomes of each block

  data Drafts (b : ℕ) : Type 0 where
    freed_block : among is.blocks b ≡ true → Drafts b
    of_parent : among is.blocks b ≡ false → IsSome ((holding im o p).cell b) → Drafts b
    of_group : among is.blocks b ≡ false → (g : Rindex) → IsIn g gs → IsHeaderOf g b → Drafts b
    of_none : among is.blocks b ≡ false → get fates b ≡ None → Drafts b

  drafts : (b : ℕ) → Drafts b
  drafts b = elim (cases_Bool (among is.blocks b)) [
    | inl e ↦ freed_block e
    | inr e ↦ elim (cases_Bool (is_some ((holding im o p).cell b))) [
      | inl some ↦ of_parent e some
      | inr none ↦ elim (header_among gs b) [
        | inl h ↦ of_group e h.0 h.1 h.2
        | inr away ↦ of_none e (is.others b (λ some. true≢false (sym some ∙ none)) (λ c. true≢false (sym (in_list is.blocks b c) ∙ e)) (λ g at some head. away g (in_gs g at some) head))
      ]
    ]
  ]

  its_still : (b : ℕ) → among is.blocks b ≡ false → IsSome ((holding im o p).cell b) → inode_of b (o' b) ≡ Some p
  its_still b e some = ap (inode_of b) (row_other b e) ∙ cell_its im o p b some

  block : (b : ℕ) → Drafts b → MakesOf o o' fates ys gs b
  block b (freed_block e) = of_inodes (gone_drafted fates b (is.freed b (has is.blocks b e))) (of_its (among ys) b a (o b) (its b e) a_in) (subst (IsOfInodes (among ys) b) (sym (row_mine b e)) tt)
  block b (of_parent e some) = kept_block o o' fates ys gs (holding im o p) p b p_in (is.puts b some) (of_its (among ys) b p (o b) (cell_its im o p b some) p_in) (cell_its im o p b) (its_still b e some)
  block b (of_group e g h head) = of_header g h head (row_other b e)
  block b (of_none e none) = leaves (none_drafted fates b none) (row_other b e)

  framed : IsFramed im o o' l fates ys gs
  framed = record {
    laid = here.stands.laid;
    whole = is.whole;
    listed = λ g h. (from_gs g h).listed;
    groups = λ g h. let one = from_gs g h in subst (PutsGroup im fates g) (states_same g) (is.states g one.listed one.some);
    blocks = λ b. block b (drafts b);
    freed = freed;
    states = states;
  }
    where
      same_number : {x y : ℕ} → Free x ≡ Free y → y ≡ x
      same_number e = cc

      freed : (b x : ℕ) → o' b ≡ Free x → (o b ≡ Free x) ⊎ ((g : Rindex) × IsIn g gs × IsDataOf g b × (x ≡ g.address))
      freed b x f = elim (cases_Bool (among is.blocks b)) [
        | inr e ↦ inl (sym (row_other b e) ∙ f)
        | inl e ↦ let h = home_of b e in inr (h.group, in_gs h.group h.listed (b, has is.blocks b e, h.own), h.own, same_number (sym (row_mine b e) ∙ f) ∙ h.address)
      ]

      states : (b : ℕ) → (state_of (o' b) ≡ state_of (o b)) ⊎ ((g : Rindex) × IsIn g gs × IsDataOf g b)
      states b = elim (cases_Bool (among is.blocks b)) [
        | inr e ↦ inl (ap state_of (row_other b e))
        | inl e ↦ let h = home_of b e in inr (h.group, in_gs h.group h.listed (b, has is.blocks b e, h.own), h.own)
      ]

  -- ---- the directory

  parent_held : holding im' o' p ≡ holding im' o p
  parent_held = held_by_parts im' o o' p part
    where
      part : (b : ℕ) → part_in p b (o' b) ≡ part_in p b (o b)
      part b = elim (cases_Bool (among is.blocks b)) [
        | inr e ↦ ap (part_in p b) (row_other b e)
        | inl e ↦ ap (part_in p b) (row_mine b e) ∙ sym (not_its p b (o b) (λ f. apart (some_same (sym f ∙ its b e))))
      ]

  inodes : (x : ℕ) → among ys x ≡ true → is_dinode (o' x) ≡ true → IsInode (holding im' o' x)
  inodes x h so = elim (which x h) [
    | inl e ↦ subst (λ z. IsInode (holding im' o' z)) (sym e) (subst IsInode (sym parent_held) (is.exchanged.sound (here.stands.laid.inodes p dinode)))
    | inr e ↦ absurd (true≢false (sym so ∙ ap (λ z. is_dinode (o' z)) e ∙ gone))
  ]

  within : (b x : ℕ) → among ys x ≡ true → IsWithin x (o' b) → is_dinode (o' x) ≡ true
  within b x h w = elim (which x h) [
    | inl e ↦ ap (λ z. is_dinode (o' z)) e ∙ dinode'
    | inr e ↦ absurd (none (subst (λ z. IsWithin z (o' b)) e w))
  ]
    where
      none : IsWithin a (o' b) → ⊥
      none w = elim (cases_Bool (among is.blocks b)) [
        | inl e ↦ subst (IsWithin a) (row_mine b e) w
        | inr e ↦ true≢false (sym (mine b (within_its b a (o b) (subst (IsWithin a) (row_other b e) w))) ∙ e)
      ]

  heads : (x : ℕ) → among ys x ≡ true → is_dinode (o x) ≡ true → is_dinode (o' x) ≡ true → heads_of im' o' x ≡ heads_of im o x
  heads x h so so' = elim (which x h) [
    | inl e ↦ subst (λ z. heads_of im' o' z ≡ heads_of im o z) (sym e) (ap head_of parent_held ∙ is.exchanged.head)
    | inr e ↦ absurd (true≢false (sym so' ∙ ap (λ z. is_dinode (o' z)) e ∙ gone))
  ]

  change : IsChange im im' o o' l (among ys) (is_drafted fates)
  change = framed_change im o o' l fates ys gs framed inodes within heads

  removed : IsNameRemoved im im' o o' l (is_drafted fates) p name a
  removed = record {
    change = change;
    parent_row = row_other p p_other;
    row = row;
    gone = gone;
    childless = is.childless;
    entry = is.entry;
    named = is.named;
    exchanged = subst (λ h. IsExchanged (records_of (holding im o p)) (records_of h) (is.entry ∷ []) []) (sym parent_held) is.exchanged.records;
    counted = subst (λ h. IsCounted (dinode_in (holding im o p)) (dinode_in h) (is.entry ∷ []) []) (sym parent_held) is.exchanged.counted;
  }

  -- ---- what is told of each block

  -- the inode is named in it
  is_still : is_directory_in (holding im' o' p) ≡ true
  is_still = ap is_directory_in parent_held ∙ ap (λ (h : Head). h.is_dir) is.exchanged.head ∙ has_child_directory im o l here.stands.laid p a name child

  lock_p : inode_lock l p ≡ Some (record { kind = 2; number = p })
  lock_p = own_locks im o l p here.stands.laid (inl (path, at))

  written : (w : Written) (lock : LockName) → get fates w.block ≡ Some (Put lock w.plain w.bytes) → IsWritten l im' o o' w lock
  written w lock e = by (drafts w.block)
    where
      by : Drafts w.block → IsWritten l im' o o' w lock
      by (freed_block h) = absurd (true≢false (sym (ap is_gone (is.freed w.block (has is.blocks w.block h))) ∙ put_not_gone fates w.block lock w.plain w.bytes e))
      by (of_parent h some) = block_written l im' o o' p lock_p is_still w lock (put_so fates (holding im o p) p w lock e (is.puts w.block some)) (its_still w.block h some) (inl (cell_its im o p w.block some))
      by (of_group h g k head) = header_written im o o' l fates ys gs framed g k w lock head e
      by (of_none h none) = absurd (none_some (sym none ∙ e))

  -- what is freed is the inode's
  freed_its : (b : ℕ) → is_freed fates b ≡ true → among is.blocks b ≡ true
  freed_its b e = by (drafts b)
    where
      by : Drafts b → among is.blocks b ≡ true
      by (freed_block h) = h
      by (of_parent h some) = absurd (true≢false (sym e ∙ kept_not_freed fates (holding im o p) p b (is.puts b some)))
      by (of_group h g k head) = absurd (true≢false (sym e ∙ header_kept im o o' l fates ys gs framed g k b head))
      by (of_none h none) = absurd (none_some (sym none ∙ gone_there fates b e))

  freed : (b : ℕ) → is_freed fates b ≡ true → IsFreed (is_put fates) (is_freed fates) o o' b
  freed b e = record {
    free = ap is_free (row_mine b (freed_its b e));
    inode = a;
    was = its b (freed_its b e);
    dinode = inl (ap is_gone (is.freed a (has is.blocks a a_mine)));
  }

  held : (b : ℕ) → is_freed fates b ≡ true → IsHeld v l o b
  held b e = (
    record { kind = 2; number = a },
    inode_cover l b (o b) a (its b (freed_its b e)) ∙ own_locks im o l a here.stands.laid (inl (in_directory path name, at_a)),
    exclusive,
  )

  -- to each group a block is freed of which some block is put
  groups : (b g : ℕ) → is_drafted fates b ≡ true → (o b ≡ Free g) ⊎ (o' b ≡ Free g) → (n : ℕ) × (is_put fates n ≡ true) × (o' n ≡ InGroup g)
  groups b g e free = by (drafts b)
    where
      same_number : {x y : ℕ} → Free x ≡ Free y → x ≡ y
      same_number e = cc

      mine_free : among is.blocks b ≡ true → (o b ≡ Free g) ⊎ (o' b ≡ Free g) → number_of (lies l.groups b) ≡ g
      mine_free h (inl f) = absurd (not_free_its b a g (o b) (its b h) f)
      mine_free h (inr f) = same_number (sym (row_mine b h) ∙ f)

      not_parent : among is.blocks b ≡ false → IsSome ((holding im o p).cell b) → (o b ≡ Free g) ⊎ (o' b ≡ Free g) → ⊥
      not_parent h some (inl f) = not_free_its b p g (o b) (cell_its im o p b some) f
      not_parent h some (inr f) = not_free_its b p g (o' b) (its_still b h some) f

      not_header : (k : Rindex) → (o b ≡ InGroup k.address) × (o' b ≡ InGroup k.address) → (o b ≡ Free g) ⊎ (o' b ≡ Free g) → ⊥
      not_header k r (inl f) = not_group_free k.address g (sym r.0 ∙ f)
      not_header k r (inr f) = not_group_free k.address g (sym r.1 ∙ f)

      by : Drafts b → (n : ℕ) × (is_put fates n ≡ true) × (o' n ≡ InGroup g)
      by (freed_block h) =
          let k = home_of b h in
          let w = group_written im o o' l fates ys gs framed k.group (in_gs k.group k.listed (b, has is.blocks b h, k.own)) in
          (w.0, w.1, w.2 ∙ ap InGroup (sym k.address ∙ mine_free h free))
      by (of_parent h some) = absurd (not_parent h some free)
      by (of_group h k j head) = absurd (not_header k (header_row im o o' l fates ys gs framed k j b head) free)
      by (of_none h none) = absurd (true≢false (sym e ∙ none_drafted fates b none))

  makes : apply call t ≡ record { reply = Ok; tree = remove_at (in_directory path name) t } → MakesIn v call Ok fates im o l t
  makes answers = record {
    owners = o';
    tree = remove_at (in_directory path name) t;
    answers = answers;
    one = name_removed path p name a at removed;
    written = written;
    freed = freed;
    held = held;
    groups = groups;
  }

pub shrinking_makes : ShrinkingMakes
shrinking_makes v call fates im o l t path parent name a here at at_a is exclusive answers = makes v call fates im o l t path parent name a here at at_a is exclusive answers
