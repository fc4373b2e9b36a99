-- A draft that adds a name to a directory that may get blocks for it makes what the call should.
use Rattle.std.proofs.Common.{◌≡◌, ◌≢◌, ℕ, ◌⊎◌, inl, inr, true, false, true≢false, List, [], ◌∷◌, None, Some, refl, sym, ap, ◌∙◌, subst}
use Rattle.std.specs.Prelude.{Contains, IsSome, ◌==◌, is_some, if◌then◌else◌}
use Rattle.std.specs.Ordering.{nat_cmp}
use Rattle.std.specs.FinMap.{FinMap, get}
use Rattle.std.proofs.lemmas.Bool.{cases_Bool, cases_eq, cond-true, cond-false, eq-eqb, ne_eqb}
use Rattle.file_tree.specs.Tree.{Tree}
use Rattle.file_tree.specs.Apply.{apply, put_at}
use Rattle.file_tree.specs.declared.call.Call.{Call}
use Rattle.file_tree.specs.declared.reply.Reply.TheVariants.{Ok}
use Rattle.drafts.specs.declared.change.Written.{Written}
use Rattle.drafts.specs.declared.fate.Fate.{Fate}
use Rattle.drafts.specs.declared.fate.Fate.TheVariants.{Put}
use Rattle.gfs2_layout.specs.declared.rindex.Rindex.{Rindex}
use Rattle.gfs2_layout.specs.Exchanges.{IsExchanged, IsCounted}
use Rattle.gfs2_layout.specs.Holding.{Itself, Holding, alone, cell_part, part_at}
use Rattle.gfs2_layout.specs.Inode.{Head, IsInode, head_of, dinode_in, is_directory_in, records_of}
use Rattle.glock_names.specs.Views.{Seen}
use Rattle.glock_names.specs.declared.LockName.{LockName}
use Rattle.image_model.specs.Flat.{Path}
use Rattle.image_model.specs.Groups.{IsHeaderOf, IsDataOf, IsListed, state_of, states_of}
use Rattle.image_model.specs.Image.{Image}
use Rattle.image_model.specs.Owners.{Owners, InGroup, Free, Named, is_dinode, part_in, cell_of, cell_in, holding}
use Rattle.image_model.specs.Stands.{Layout, heads_of}
use Rattle.image_model.proofs.Held.{none_some, some_same}
use Rattle.image_model.proofs.Members.{IsIn, contained, is_in}
use Rattle.image_model.proofs.Table.{lies}
use Rattle.image_changes.specs.Changes.{inode_of, IsOf as IsOfInodes, IsChange, inode_lock, is_free}
use Rattle.image_changes.specs.Directories.{IsBare}
use Rattle.image_changes.specs.Does.{IsOf, IsWritten}
use Rattle.image_changes.specs.Drafted.{is_put, is_freed, is_drafted, with_draft, MakesIn, name_added}
use Rattle.image_changes.specs.Flats.{in_directory}
use Rattle.image_changes.specs.Instances.{IsAt, among, IsNew, empty_file, empty_directory, IsNameAdded}
use Rattle.image_changes.proofs.Drafting.{own_locks}
use Rattle.image_changes.proofs.Frame.{dinode_its, not_its}
use Rattle.image_changes.proofs.Laid.{follow_dinode, one_group}
use Rattle.image_changes.proofs.Nodes.{among_in, in_among}
use Rattle.image_changes.proofs.States.{map_same}
use Rattle.draft_changes.specs.Adding.{ReadsNew}
use Rattle.draft_changes.specs.Adding as new
use Rattle.draft_changes.specs.Groups.{PutsGroup}
use Rattle.draft_changes.specs.Removing.{HasSome}
use Rattle.draft_changes.proofs.Rows.{of_its, itself_or_within, cell_its, its_cell, not_group_free, header_among, said_free}
use Rattle.draft_changes.proofs.Framed.{none_drafted, put_drafted, gone_there, put_not_gone, bytes_put, MakesOf, leaves, of_inodes, of_header, IsFramed, framed_change, header_written, header_row, header_kept, group_written, dinode_written}
use Rattle.draft_changes.proofs.Homes.{number_of, group_of, homes, IsHome, from_homes, UsedOrFree, home, in_homes}
use Rattle.directory_changes.proofs.Blocks.{block_written, in_list, kept_block, kept_not_freed, lacks, none_not, not_free_its, not_some, owner_in, part_some, put_so, record_here, within_state}
use Rattle.directory_changes.proofs.Holds.{held_now, its_now, own_row, state_now}
use Rattle.directory_changes.specs.Growing.{GrowsByName, GrowingMakes, states_made}

module _ (v : Seen) (call : Call) (fates : FinMap nat_cmp Fate) (im : Image) (o : Owners) (l : Layout) (t : Tree) (path : Path) (p : ℕ) (name : List ℕ) (a : ℕ) (u : Tree) (g : Holding) (taken : List ℕ)
    (here : IsOf v im o l t) (at : IsAt im o l path p) (is : GrowsByName im o l fates p name a u g taken) where
  abbrev im' : Image
  im' = with_draft im fates

  abbrev o' : Owners
  o' b = if b == a then Named p name else owner_in (part_at g b) p (o b)

  abbrev ys : List ℕ
  ys = p ∷ (a ∷ [])

  abbrev all : List ℕ
  all = a ∷ taken

  abbrev gs : List Rindex
  gs = homes l all

  -- ---- which blocks were free

  new_in : Contains all a
  new_in = contained a all (inl refl)

  taken_in : (b : ℕ) → Contains taken b → Contains all b
  taken_in b c = contained b all (inr (is_in b taken c))

  free_row : (b : ℕ) → Contains all b → (x : ℕ) × (o b ≡ Free x)
  free_row b c = let f = is.free b c in (f.group.address, said_free im o l here.stands.laid f.group f.listed b f.data_block f.free)

  free : o a ≡ Free (free_row a new_in).0
  free = (free_row a new_in).1

  dinode : is_dinode (o p) ≡ true
  dinode = follow_dinode im o l here.stands.laid path l.root p (ap is_dinode here.stands.laid.root.0) at

  was_none : is_dinode (o a) ≡ false
  was_none = ap is_dinode free

  two : p ≢ a
  two e = true≢false (sym dinode ∙ ap (λ z. is_dinode (o z)) e ∙ was_none)

  own_its : inode_of p (o p) ≡ Some p
  own_its = dinode_its p (o p) dinode

  not_taken : (b : ℕ) → inode_of b (o b) ≡ Some p → ¬ (Contains taken b)
  not_taken b e c = none_some (sym (ap (inode_of b) (free_row b (taken_in b c)).1) ∙ e)

  -- a block that the directory has was its own, or was taken
  was_its : (b : ℕ) → IsSome (g.cell b) → (inode_of b (o b) ≡ Some p) ⊎ Contains taken b
  was_its b some = elim ((is.blocks.has b).0 some).0 [ inl was ↦ inl (cell_its im o p b was) | inr c ↦ inr c ]

  -- the new inode's block is none of its
  none_new : g.cell a ≡ None
  none_new = not_some (g.cell a) (λ some. elim (was_its a some) [
    | inl its ↦ none_some (sym (ap (inode_of a) free) ∙ its)
    | inr c ↦ is.apart c
  ])

  -- a block that it hasn't wasn't its, and isn't taken
  other_its : (b : ℕ) → g.cell b ≡ None → inode_of b (o b) ≡ Some p → ⊥
  other_its b none e = none_not (g.cell b) none ((is.blocks.has b).1 (inl (its_cell im o p b e), (λ c. elim (is_in b [] c) [ ])))

  other_taken : (b : ℕ) → g.cell b ≡ None → ¬ (Contains taken b)
  other_taken b none c = none_not (g.cell b) none ((is.blocks.has b).1 (inr c, (λ c. elim (is_in b [] c) [ ])))

  -- ---- which block it is

  data Which (b : ℕ) : Type 0 where
    the_new : b ≡ a → Which b
    of_directory : IsSome (g.cell b) → Which b
    other_block : g.cell b ≡ None → b ≢ a → Which b

  which : (b : ℕ) → Which b
  which b = elim (cases_eq b a) [
    | inl same ↦ the_new same
    | inr other ↦ elim (cases_Bool (is_some (g.cell b))) [
      | inl some ↦ of_directory some
      | inr none ↦ other_block (not_some (g.cell b) (λ some. true≢false (sym some ∙ none))) other
    ]
  ]

  -- ---- the table of owners

  row : o' a ≡ Named p name
  row = cond-true _ (Named p name) (owner_in (part_at g a) p (o a)) (eq-eqb a a refl)

  row_else : (b : ℕ) → b ≢ a → o' b ≡ owner_in (part_at g b) p (o b)
  row_else b other = cond-false _ (Named p name) (owner_in (part_at g b) p (o b)) (ne_eqb b a other)

  row_in : (b : ℕ) → IsSome (g.cell b) → o' b ≡ owner_in (part_at g b) p (o b)
  row_in b some = row_else b (λ e. none_not (g.cell a) none_new (subst (λ z. IsSome (g.cell z)) e some))

  row_other : (b : ℕ) → g.cell b ≡ None → b ≢ a → o' b ≡ o b
  row_other b none other = row_else b other ∙ ap (λ d. owner_in (cell_part d) p (o b)) none

  none_outside : (b : ℕ) → g.cell b ≡ None → inode_of b (o' b) ≡ Some p → ⊥
  none_outside b none e = by (which b)
    where
      by : Which b → ⊥
      by (the_new same) = two (some_same (sym (subst (λ z. inode_of z (o' z) ≡ Some p) same e) ∙ ap (inode_of a) row))
      by (of_directory some) = none_not (g.cell b) none some
      by (other_block gone other) = other_its b none (sym (ap (inode_of b) (row_other b none other)) ∙ e)

  own_there : IsSome (g.cell p)
  own_there = part_some (g.cell p) Itself ((is.there.itself p).1 refl)

  row_parent : o' p ≡ o p
  row_parent = own_row im' o o' p g dinode is.there row_in none_outside

  its_in : (b : ℕ) → IsSome (g.cell b) → inode_of b (o' b) ≡ Some p
  its_in = its_now im' o o' p g dinode is.there row_in none_outside

  state_in : (b : ℕ) → IsSome (g.cell b) → inode_of b (o b) ≡ Some p → state_of (o' b) ≡ state_of (o b)
  state_in = state_now im' o o' p g dinode is.there row_in none_outside

  p_in : among ys p ≡ true
  p_in = in_among ys p (inl refl)

  a_in : among ys a ≡ true
  a_in = in_among ys a (inr (inl refl))

  one_of : (y : ℕ) → among ys y ≡ true → (y ≡ p) ⊎ (y ≡ a)
  one_of y e = elim (among_in ys y e) [ inl e ↦ inl e | inr h ↦ elim h [ inl e ↦ inr e | inr h ↦ elim h [ ] ] ]

  dinodes : (y : ℕ) → among ys y ≡ true → is_dinode (o' y) ≡ true
  dinodes y e = elim (one_of y e) [ inl e ↦ ap (λ z. is_dinode (o' z)) e ∙ ap is_dinode row_parent ∙ dinode | inr e ↦ ap (λ z. is_dinode (o' z)) e ∙ ap is_dinode row ]

  -- ---- the two inodes afterwards

  held : holding im' o' p ≡ g
  held = held_now im' o o' p g dinode is.there row_in none_outside

  abbrev fresh : Holding
  fresh = alone im.size im.count a is.bytes

  new_held : holding im' o' a ≡ fresh
  unfolding cell_in
  new_held = λ i. record { size = im.size; count = im.count; own = a; cell = λ b. cell b i }
    where
      Same : ℕ → Type 0
      Same b = cell_of (part_in a b (o' b)) (im'.at b) ≡ (if b == a then Some (record { part = Itself; bytes = is.bytes }) else None)

      own : Same a
      own = ap (λ q. cell_of q (im'.at a)) (ap (part_in a a) row ∙ cond-true _ (Some Itself) None (eq-eqb a a refl))
          ∙ ap (λ bytes. Some (record { part = Itself; bytes = bytes })) (bytes_put im fates a _ _ _ is.put)
          ∙ sym (cond-true _ (Some (record { part = Itself; bytes = is.bytes })) None (eq-eqb a a refl))

      -- no block is one of an inode that isn't there
      none_its : (b : ℕ) → b ≢ a → inode_of b (o b) ≡ Some a → ⊥
      none_its b d e = elim (itself_or_within b a (o b) e) [
        | inl same ↦ d same
        | inr h ↦ true≢false (sym (here.stands.laid.within b a h) ∙ was_none)
      ]

      part : (b : ℕ) → b ≢ a → part_in a b (o' b) ≡ None
      part b d = by (which b)
        where
          by : Which b → part_in a b (o' b) ≡ None
          by (the_new same) = absurd (d same)
          by (of_directory some) = not_its a b (o' b) (λ f. two (some_same (sym (its_in b some) ∙ f)))
          by (other_block none not_a) = ap (part_in a b) (row_other b none not_a) ∙ not_its a b (o b) (none_its b d)

      other : (b : ℕ) → b ≢ a → Same b
      other b d = ap (λ q. cell_of q (im'.at b)) (part b d) ∙ sym (cond-false _ (Some (record { part = Itself; bytes = is.bytes })) None (ne_eqb b a d))

      cell : (b : ℕ) → cell_in im' o' a b ≡ (if b == a then Some (record { part = Itself; bytes = is.bytes }) else None)
      cell b = elim (cases_eq b a) [ inl e ↦ subst Same (sym e) own | inr d ↦ other b d ]

  -- ---- groups

  used_or_free : (b : ℕ) → Contains all b → UsedOrFree o b
  used_or_free b c = inr (free_row b c)

  home_of : (b : ℕ) → Contains all b → IsHome l b (number_of (lies l.groups b)) (group_of (lies l.groups b))
  home_of b c = home im o l here.stands.laid b (used_or_free b c)

  in_gs : (k : Rindex) → IsListed l.groups k → HasSome k all → IsIn k gs
  in_gs k listed some = in_homes im o l here.stands.laid all used_or_free k listed some

  home_in : (b : ℕ) (c : Contains all b) → IsIn (home_of b c).group gs
  home_in b c = let h = home_of b c in in_gs h.group h.listed (b, c, h.own)

  state_same : (b : ℕ) → (if b == a then 3 else if among taken b then 1 else state_of (o b)) ≡ state_of (o' b)
  state_same b = by (which b)
    where
      left : b ≢ a → ¬ (Contains taken b) → (if b == a then 3 else if among taken b then 1 else state_of (o b)) ≡ state_of (o b)
      left other none =
          cond-false (b == a) 3 (if among taken b then 1 else state_of (o b)) (ne_eqb b a other)
          ∙ cond-false (among taken b) 1 (state_of (o b)) (lacks taken b none)

      used : b ≢ a → Contains taken b → (if b == a then 3 else if among taken b then 1 else state_of (o b)) ≡ 1
      used other c =
          cond-false (b == a) 3 (if among taken b then 1 else state_of (o b)) (ne_eqb b a other)
          ∙ cond-true (among taken b) 1 (state_of (o b)) (in_list taken b c)

      not_new : IsSome (g.cell b) → b ≢ a
      not_new some e = none_not (g.cell a) none_new (subst (λ z. IsSome (g.cell z)) e some)

      by : Which b → (if b == a then 3 else if among taken b then 1 else state_of (o b)) ≡ state_of (o' b)
      by (the_new same) = cond-true (b == a) 3 (if among taken b then 1 else state_of (o b)) (eq-eqb b a same) ∙ sym (ap (λ z. state_of (o' z)) same ∙ ap state_of row)
      by (of_directory some) = elim (was_its b some) [
        | inl its ↦ left (not_new some) (not_taken b its) ∙ sym (state_in b some its)
        | inr c ↦ used (not_new some) c ∙ sym (within_state b p (o' b) (λ e. not_taken p own_its (subst (Contains taken) e c)) (its_in b some))
      ]
      by (other_block none not_a) = left not_a (other_taken b none) ∙ sym (ap state_of (row_other b none not_a))

  states_same : (k : Rindex) → states_made o a taken k ≡ states_of o' k
  states_same k = map_same (λ b. if b == a then 3 else if among taken b then 1 else state_of (o b)) (λ b. state_of (o' b)) k.data0 k.data_blocks (λ b low high. state_same b)

  -- ---- what becomes of each block

  of_old : (b : ℕ) → IsSome (g.cell b) → IsOfInodes (among ys) b (o b)
  of_old b some = elim (was_its b some) [
    | inl its ↦ of_its (among ys) b p (o b) its p_in
    | inr c ↦ subst (IsOfInodes (among ys) b) (sym (free_row b (taken_in b c)).1) tt
  ]

  -- a block of neither inode is one of a group's header and bitmap, or isn't drafted
  outside : (b : ℕ) → g.cell b ≡ None → b ≢ a → ((k : Rindex) × IsIn k gs × IsHeaderOf k b) ⊎ (get fates b ≡ None)
  outside b none not_a = elim (header_among gs b) [
    | inl h ↦ inl h
    | inr away ↦ inr (is.others b (none_not (g.cell b) none) not_a (λ k listed some head. away k (in_gs k listed some) head))
  ]

  block : (b : ℕ) → MakesOf o o' fates ys gs b
  block b = by (which b)
    where
      by : Which b → MakesOf o o' fates ys gs b
      by (the_new same) = subst (MakesOf o o' fates ys gs) (sym same)
          (of_inodes (put_drafted fates a _ _ _ is.put) (subst (IsOfInodes (among ys) a) (sym free) tt) (subst (IsOfInodes (among ys) a) (sym row) (a, refl, a_in)))
      by (of_directory some) = kept_block o o' fates ys gs (holding im o p) p b p_in (is.puts b some) (of_old b some) (cell_its im o p b) (its_in b some)
      by (other_block none not_a) = elim (outside b none not_a) [
        | inl h ↦ of_header h.0 h.1 h.2 (row_other b none not_a)
        | inr left ↦ leaves (none_drafted fates b left) (row_other b none not_a)
      ]

  same_number : {x y : ℕ} → Free x ≡ Free y → x ≡ y
  same_number e = cc

  framed : IsFramed im o o' l fates ys gs
  framed = record {
    laid = here.stands.laid;
    whole = is.whole;
    listed = λ k h. (from_homes l all k h).listed;
    groups = λ k h. let one = from_homes l all k h in subst (PutsGroup im fates k) (states_same k) (is.states k one.listed one.some);
    blocks = block;
    freed = λ b x e. free_after b x (which b) e;
    states = λ b. state_after b (which b);
  }
    where
      free_after : (b x : ℕ) → Which b → o' b ≡ Free x → (o b ≡ Free x) ⊎ ((k : Rindex) × IsIn k gs × IsDataOf k b × (x ≡ k.address))
      free_after b x (the_new same) e = absurd (not_free_its a a x (o' a) (ap (inode_of a) row) (sym (ap o' same) ∙ e))
      free_after b x (of_directory some) e = absurd (not_free_its b p x (o' b) (its_in b some) e)
      free_after b x (other_block none not_a) e = inl (sym (row_other b none not_a) ∙ e)

      at_home : (b : ℕ) → Contains all b → (state_of (o' b) ≡ state_of (o b)) ⊎ ((k : Rindex) × IsIn k gs × IsDataOf k b)
      at_home b c = let h = home_of b c in inr (h.group, home_in b c, h.own)

      state_after : (b : ℕ) → Which b → (state_of (o' b) ≡ state_of (o b)) ⊎ ((k : Rindex) × IsIn k gs × IsDataOf k b)
      state_after b (the_new same) = at_home b (subst (Contains all) (sym same) new_in)
      state_after b (of_directory some) = elim (was_its b some) [ inl its ↦ inl (state_in b some its) | inr c ↦ at_home b (taken_in b c) ]
      state_after b (other_block none not_a) = inl (ap state_of (row_other b none not_a))

  head_parent : heads_of im' o' p ≡ heads_of im o p
  head_parent = ap head_of held ∙ is.exchanged.head

  head_new : heads_of im' o' a ≡ head_of fresh
  head_new = ap head_of new_held

  inodes : (x : ℕ) → among ys x ≡ true → is_dinode (o' x) ≡ true → IsInode (holding im' o' x)
  inodes x h so = elim (one_of x h) [
    | inl e ↦ subst (λ z. IsInode (holding im' o' z)) (sym e) (subst IsInode (sym held) (is.exchanged.sound (here.stands.laid.inodes p dinode)))
    | inr e ↦ subst (λ z. IsInode (holding im' o' z)) (sym e) (subst IsInode (sym new_held) is.sound)
  ]

  heads : (x : ℕ) → among ys x ≡ true → is_dinode (o x) ≡ true → is_dinode (o' x) ≡ true → heads_of im' o' x ≡ heads_of im o x
  heads x h so so' = elim (one_of x h) [
    | inl e ↦ subst (λ z. heads_of im' o' z ≡ heads_of im o z) (sym e) head_parent
    | inr e ↦ absurd (true≢false (sym so ∙ ap (λ z. is_dinode (o z)) e ∙ was_none))
  ]

  change : IsChange im im' o o' l (among ys) (is_drafted fates)
  change = framed_change im o o' l fates ys gs framed inodes (λ b x h w. dinodes x h) heads

  -- ---- the name is added

  reads : (w : Tree) → ReadsNew (heads_of im o p) p fresh w → IsNew im' o' p a w
  reads _ (new.empty_file not size) = empty_file (ap is_directory_in new_held ∙ not) (ap (λ h. (dinode_in h).size) new_held ∙ size)
  reads _ (new.empty_directory bare) = empty_directory (ap is_directory_in new_held ∙ bare.directory)
      (subst (λ h. IsBare (heads_of im' o') a p (records_of h) (dinode_in h)) (sym new_held) (record {
        dot = bare.dot;
        dots = bare.dots;
        are = bare.are;
        dot_is = (bare.dot_is.0, record_here (λ b. head_of fresh) (heads_of im' o') a bare.dot head_new bare.dot_is.1);
        dots_is = (bare.dots_is.0, record_here (λ b. heads_of im o p) (heads_of im' o') p bare.dots head_parent bare.dots_is.1);
        entries = bare.entries;
        links = bare.links;
      }))

  added : IsNameAdded im im' o o' l (is_drafted fates) p name a u
  added = record {
    change = change;
    was_free = free_row a new_in;
    parent_row = row_parent;
    row = row;
    is_name = is.is_name;
    directory = is.directory;
    absent = is.absent;
    entry = is.entry;
    named = is.named;
    true_of = record_here (λ b. head_of fresh) (heads_of im' o') a is.entry head_new is.true_of;
    exchanged = subst (λ h. IsExchanged (records_of (holding im o p)) (records_of h) [] (is.entry ∷ [])) (sym held) is.exchanged.records;
    counted = subst (λ h. IsCounted (dinode_in (holding im o p)) (dinode_in h) [] (is.entry ∷ [])) (sym held) is.exchanged.counted;
    new = reads u is.new;
  }

  -- ---- what is told of each block

  locks : (y : ℕ) → among ys y ≡ true → inode_lock l y ≡ Some (record { kind = 2; number = y })
  locks y h = elim (one_of y h) [
    | inl e ↦ subst (λ z. inode_lock l z ≡ Some (record { kind = 2; number = z })) (sym e) (own_locks im o l p here.stands.laid (inl (path, at)))
    | inr e ↦ subst (λ z. inode_lock l z ≡ Some (record { kind = 2; number = z })) (sym e) (own_locks im o l a here.stands.laid (inr (free_row a new_in)))
  ]

  is_still : is_directory_in (holding im' o' p) ≡ true
  is_still = ap is_directory_in held ∙ ap (λ (h : Head). h.is_dir) is.exchanged.head ∙ is.directory

  -- a block of the directory, as it is put
  directory_written : (w : Written) (lock : LockName) → get fates w.block ≡ Some (Put lock w.plain w.bytes) → IsSome (g.cell w.block) → IsWritten l im' o o' w lock
  directory_written w lock e some =
      block_written l im' o o' p (locks p p_in) is_still w lock (put_so fates (holding im o p) p w lock e (is.puts w.block some)) (its_in w.block some)
      (elim (was_its w.block some) [ inl was ↦ inl was | inr c ↦ inr (ap is_free (free_row w.block (taken_in w.block c)).1) ])

  written : (w : Written) (lock : LockName) → get fates w.block ≡ Some (Put lock w.plain w.bytes) → IsWritten l im' o o' w lock
  written w lock e = by (which w.block)
    where
      by : Which w.block → IsWritten l im' o o' w lock
      by (the_new same) = dinode_written im o o' l fates a is.bytes is.put (ap is_dinode row) (locks a a_in) (inr (ap is_free free)) w lock same e
      by (of_directory some) = directory_written w lock e some
      by (other_block none not_a) = elim (outside w.block none not_a) [
        | inl h ↦ header_written im o o' l fates ys gs framed h.0 h.1 w lock h.2 e
        | inr left ↦ absurd (none_some (sym left ∙ e))
      ]

  -- nothing is freed
  none_freed : (b : ℕ) → is_freed fates b ≡ true → ⊥
  none_freed b e = by (which b)
    where
      by : Which b → ⊥
      by (the_new same) = true≢false (sym e ∙ ap (is_freed fates) same ∙ put_not_gone fates a _ _ _ is.put)
      by (of_directory some) = true≢false (sym e ∙ kept_not_freed fates (holding im o p) p b (is.puts b some))
      by (other_block none not_a) = elim (outside b none not_a) [
        | inl h ↦ true≢false (sym e ∙ header_kept im o o' l fates ys gs framed h.0 h.1 b h.2)
        | inr left ↦ none_some (sym left ∙ gone_there fates b e)
      ]

  -- of each group of which a block is taken some block is put
  groups : (b k : ℕ) → is_drafted fates b ≡ true → (o b ≡ Free k) ⊎ (o' b ≡ Free k) → (n : ℕ) × (is_put fates n ≡ true) × (o' n ≡ InGroup k)
  groups b k drafted free_then = by (which b)
    where
      by_group : (c : Contains all b) → o b ≡ Free k → (n : ℕ) × (is_put fates n ≡ true) × (o' n ≡ InGroup k)
      by_group c was =
          let h = home_of b c in
          let f = is.free b c in
          let w = group_written im o o' l fates ys gs framed h.group (home_in b c) in
          let own : o b ≡ Free f.group.address = said_free im o l here.stands.laid f.group f.listed b f.data_block f.free in
          let same : h.group.address ≡ f.group.address = one_group im l.groups here.stands.laid.fit h.group f.group b h.listed f.listed h.own f.data_block in
          (w.0, w.1, w.2 ∙ ap InGroup (same ∙ same_number (sym own ∙ was)))

      used_now : (x : ℕ) → inode_of b (o' b) ≡ Some x → o b ≡ Free k
      used_now x its = elim free_then [ inl f ↦ f | inr f ↦ absurd (not_free_its b x k (o' b) its f) ]

      no_header : (q : Rindex) → (o b ≡ InGroup q.address) × (o' b ≡ InGroup q.address) → (o b ≡ Free k) ⊎ (o' b ≡ Free k) → ⊥
      no_header q r (inl e) = not_group_free q.address k (sym r.0 ∙ e)
      no_header q r (inr e) = not_group_free q.address k (sym r.1 ∙ e)

      by : Which b → (n : ℕ) × (is_put fates n ≡ true) × (o' n ≡ InGroup k)
      by (the_new same) = by_group (subst (Contains all) (sym same) new_in) (used_now a (subst (λ z. inode_of z (o' z) ≡ Some a) (sym same) (ap (inode_of a) row)))
      by (of_directory some) = elim (was_its b some) [
        | inl its ↦ absurd (not_free_its b p k (o b) its (used_now p (its_in b some)))
        | inr c ↦ by_group (taken_in b c) (used_now p (its_in b some))
      ]
      by (other_block none not_a) = elim (outside b none not_a) [
        | inl h ↦ absurd (no_header h.0 (header_row im o o' l fates ys gs framed h.0 h.1 b h.2) free_then)
        | inr left ↦ absurd (true≢false (sym drafted ∙ none_drafted fates b left))
      ]

  makes : apply call t ≡ record { reply = Ok; tree = put_at (in_directory path name) u t } → MakesIn v call Ok fates im o l t
  makes answers = record {
    owners = o';
    tree = put_at (in_directory path name) u t;
    answers = answers;
    one = name_added path p name a u at added;
    written = written;
    freed = λ b e. absurd (none_freed b e);
    held = λ b e. absurd (none_freed b e);
    groups = groups;
  }

pub growing_makes : GrowingMakes
growing_makes v call fates im o l t path parent name a u g taken here at is answers = makes v call fates im o l t path parent name a u g taken here at is answers
