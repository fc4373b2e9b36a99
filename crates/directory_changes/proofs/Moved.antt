-- A draft that moves a name, between directories of any form or within one, makes what the call should.
use Rattle.std.proofs.Common.{◌≡◌, ◌≢◌, ℕ, ◌⊎◌, inl, inr, Bool, true, false, true≢false, List, [], ◌∷◌, ◌++◌, None, Some, refl, sym, ap, ap₂, ◌∙◌, subst}
use Rattle.std.specs.Prelude.{Contains, IsSome, ◌==◌, is_some, if◌then◌else◌}
use Rattle.std.specs.Ordering.{nat_cmp}
use Rattle.std.specs.FinMap.{FinMap, get}
use Rattle.std.proofs.lemmas.Bool.{cases_Bool, cases_eq, cond-true, cond-false, eq-eqb, ne_eqb}
use Rattle.std.proofs.lemmas.List.Elements.{Contains-append_left, Contains-append_right, Contains-append_cases}
use Rattle.std.proofs.lemmas.List.Sorted.{IsPermutation-refl}
use Rattle.file_tree.specs.Tree.{Tree}
use Rattle.file_tree.specs.Names.{leads_to}
use Rattle.file_tree.specs.Apply.{apply, put_at, remove_at}
use Rattle.file_tree.specs.declared.call.Call.{Call}
use Rattle.file_tree.specs.declared.reply.Reply.TheVariants.{Ok}
use Rattle.drafts.specs.declared.change.Written.{Written}
use Rattle.drafts.specs.declared.fate.Fate.{Fate}
use Rattle.drafts.specs.declared.fate.Fate.TheVariants.{Put}
use Rattle.gfs2_layout.specs.declared.rindex.Rindex.{Rindex}
use Rattle.gfs2_layout.specs.Exchanges.{IsExchanged, IsCounted}
use Rattle.gfs2_layout.specs.Holding.{Itself, Holding, cell_part, part_at}
use Rattle.gfs2_layout.specs.Inode.{Head, IsInode, head_of, dinode_in, content_of, records_of}
use Rattle.gfs2_layout.specs.Records.{Record}
use Rattle.glock_names.specs.Views.{Seen}
use Rattle.glock_names.specs.declared.LockName.{LockName}
use Rattle.glock_names.specs.declared.State.TheVariants.{Ex}
use Rattle.linear_dirs.specs.Exchanges.{HasExchanged}
use Rattle.image_model.specs.Flat.{Path, tree_at}
use Rattle.image_model.specs.Groups.{IsHeaderOf, IsDataOf, IsListed, state_of, states_of}
use Rattle.image_model.specs.Image.{Image}
use Rattle.image_model.specs.Owners.{Owner, Owners, InGroup, Free, Named, up_of, is_dinode, IsWithin, part_in, holding}
use Rattle.image_model.specs.Stands.{Layout, IsLaid, flat_of, heads_of}
use Rattle.image_model.proofs.Held.{none_some, some_same}
use Rattle.image_model.proofs.Members.{IsIn, contained, is_in}
use Rattle.image_model.proofs.Table.{lies}
use Rattle.image_changes.specs.Changes.{inode_of, IsOf as IsOfInodes, IsChange, is_free}
use Rattle.image_changes.specs.Does.{IsOf, IsHeld, IsWritten, IsFreed}
use Rattle.image_changes.specs.Drafted.{is_gone, is_put, is_freed, is_drafted, with_draft, MakesIn, name_moved}
use Rattle.image_changes.specs.Flats.{in_directory}
use Rattle.image_changes.specs.Instances.{IsAt, among, is_directory_at, records_at, dinode_at, IsRecordMoved, within, between, IsItself, SaysTheSame, as_before, reparented, IsNameMoved}
use Rattle.image_changes.proofs.Drafting.{own_locks}
use Rattle.image_changes.proofs.FlatPaths.{one_path}
use Rattle.image_changes.proofs.Frame.{dinode_its, within_its, not_its, inode_cover}
use Rattle.image_changes.proofs.Laid.{child_rows, follow_dinode, one_group, root_named}
use Rattle.image_changes.proofs.Nodes.{among_in, in_among}
use Rattle.image_changes.proofs.Standing.{has_child_directory, not_own_child}
use Rattle.image_changes.proofs.States.{map_same}
use Rattle.image_changes.proofs.TreePaths.{IsBeside, beside_path, beside_shorter, not_beside_self}
use Rattle.draft_changes.specs.Groups.{PutsGroup}
use Rattle.draft_changes.specs.Removing.{HasSome}
use Rattle.draft_changes.specs.Resizing.{HasSomeOf, states_with}
use Rattle.draft_changes.proofs.Rows.{of_its, its_used, cell_its, its_cell, not_group_free, header_among, said_free}
use Rattle.draft_changes.proofs.Framed.{none_drafted, gone_drafted, gone_there, put_not_gone, MakesOf, leaves, of_inodes, of_header, IsFramed, framed_change, header_written, header_row, header_kept, group_written}
use Rattle.draft_changes.proofs.Homes.{number_of, group_of, homes, IsHome, from_homes, UsedOrFree, home, in_homes}
use Rattle.directory_changes.proofs.Blocks.{has, in_list, lacks, block_written, child_at, kept_block, kept_not_freed, none_not, not_free_its, not_some, owner_in, part_some, put_so, record_here, within_state}
use Rattle.directory_changes.proofs.Holds.{held_by_parts, held_now, its_now, left_as_it_was, own_row, state_now}
use Rattle.directory_changes.proofs.Targets.{IsOfRemoved, target_at, target_its, target_has, target_stood}
use Rattle.directory_changes.specs.Growing.{IsPutOrLeft}
use Rattle.directory_changes.specs.Moving.{MovesName, MovingMakes, AreRecordsMoved, in_one, in_two, IsInodeMoved, left_alone, gets_parent}

module _ (v : Seen) (call : Call) (fates : FinMap nat_cmp Fate) (im : Image) (o : Owners) (l : Layout) (t : Tree) (path path' : Path) (from : ℕ) (name : List ℕ) (to : ℕ) (name' : List ℕ) (a : ℕ) (g : Holding)
    (taken removed freed : List ℕ) (u : Tree) (here : IsOf v im o l t) (at : IsAt im o l path from) (at' : IsAt im o l path' to) (at_a : IsAt im o l (in_directory path name) a)
    (sub : tree_at t (in_directory path name) ≡ Some u) (beside : leads_to (in_directory path name) (in_directory path' name') ≡ false)
    (is : MovesName im o l fates from name path' to name' a g taken removed freed)
    (exclusive : (c : ℕ) → Contains removed c → v.state_of (record { kind = 2; number = c }) ≡ Ex) where
  abbrev im' : Image
  im' = with_draft im fates

  abbrev home_row : ℕ → Owner
  home_row b = Free (number_of (lies l.groups b))

  abbrev o' : Owners
  o' b = if b == a then Named to name' else if among freed b then home_row b else owner_in (part_at g b) to (o b)

  abbrev ys : List ℕ
  ys = from ∷ (to ∷ (a ∷ removed))

  abbrev all : List ℕ
  all = taken ++ freed

  abbrev gs : List Rindex
  gs = homes l all

  laid : IsLaid im o l
  laid = here.stands.laid

  -- ---- the inodes before

  dinode_from : is_dinode (o from) ≡ true
  dinode_from = follow_dinode im o l laid path l.root from (ap is_dinode laid.root.0) at

  dinode_to : is_dinode (o to) ≡ true
  dinode_to = follow_dinode im o l laid path' l.root to (ap is_dinode laid.root.0) at'

  child : (flat_of im o from).child name ≡ Some a
  child = child_at im o l path from name a at at_a

  row_was : o a ≡ Named from name
  row_was = (child_rows im o l laid from a name child).2

  own : (x : ℕ) → is_dinode (o x) ≡ true → inode_of x (o x) ≡ Some x
  own x so = dinode_its x (o x) so

  own_a : inode_of a (o a) ≡ Some a
  own_a = own a (ap is_dinode row_was)

  from_not_a : from ≢ a
  from_not_a e = not_own_child im o l laid path name from at (child ∙ ap Some (sym e))

  to_not_a : to ≢ a
  to_not_a e = not_beside_self (in_directory path name) (subst (IsBeside (in_directory path name)) same
      (beside_shorter (in_directory path name) path' (name' ∷ []) (beside_path (in_directory path name) (in_directory path' name') beside)))
    where
      same : path' ≡ in_directory path name
      same = one_path (flat_of im o) (λ b. up_of (o b)) l.root (root_named im o l laid) path' (in_directory path name) a (at' ∙ ap Some e) at_a

  -- ---- what stood at the target

  removed_at : (c : ℕ) → IsIn c removed → IsAt im o l (in_directory path' name') c
  removed_at = target_at im o l path' to name' removed is.target freed is.stood

  removed_row : (c : ℕ) → IsIn c removed → o c ≡ Named to name'
  removed_row c h = (child_rows im o l laid to c name' (child_at im o l path' to name' c at' (removed_at c h))).2

  freed_its : (b : ℕ) → Contains freed b → IsOfRemoved o removed b
  freed_its = target_its im o l path' to name' removed is.target freed is.stood

  its_freed : (b c : ℕ) → IsIn c removed → inode_of b (o b) ≡ Some c → Contains freed b
  its_freed = target_has im o l path' to name' removed is.target freed is.stood

  own_freed : (c : ℕ) → IsIn c removed → Contains freed c
  own_freed c h = its_freed c c h (own c (ap is_dinode (removed_row c h)))

  is_gone_now : (b : ℕ) → Contains freed b → is_freed fates b ≡ true
  is_gone_now b c = ap is_gone (is.frees b c)

  -- ---- what the draft makes of the blocks of the inodes that stay

  own_there : IsSome (g.cell to)
  own_there = part_some (g.cell to) Itself ((is.there.itself to).1 refl)

  fate_a : (b : ℕ) → inode_of b (o b) ≡ Some a → IsPutOrLeft fates (holding im o a) a b
  fate_a b its = by is.itself
    where
      by : IsInodeMoved im o fates from to a → IsPutOrLeft fates (holding im o a) a b
      by (left_alone only left) = inr (its_cell im o a b its, left b (its_cell im o a b its))
      by (gets_parent old new dir x old_named new_named true_of puts) = puts b (its_cell im o a b its)

  fate_from : from ≢ to → (b : ℕ) → inode_of b (o b) ≡ Some from → IsPutOrLeft fates (holding im o from) from b
  fate_from d b its = is.puts_from d b (its_cell im o from b its)

  -- so none of them is one that is removed
  stays : (x : ℕ) → IsPutOrLeft fates (holding im o x) x x → IsIn x removed → ⊥
  stays x kept h = true≢false (sym (is_gone_now x (own_freed x h)) ∙ kept_not_freed fates (holding im o x) x x kept)

  to_stays : IsIn to removed → ⊥
  to_stays = stays to (is.puts_to to own_there)

  a_stays : IsIn a removed → ⊥
  a_stays = stays a (fate_a a own_a)

  from_stays : IsIn from removed → ⊥
  from_stays h = elim (cases_eq from to) [
    | inl e ↦ to_stays (subst (λ z. IsIn z removed) e h)
    | inr d ↦ stays from (fate_from d from (own from dinode_from)) h
  ]

  -- ---- the blocks of the directory that gets the name

  free_row : (b : ℕ) → Contains taken b → (x : ℕ) × (o b ≡ Free x)
  free_row b c = let f = is.free b c in (f.group.address, said_free im o l laid f.group f.listed b f.data_block f.free)

  not_taken : (b x : ℕ) → inode_of b (o b) ≡ Some x → ¬ (Contains taken b)
  not_taken b x its c = not_free_its b x (free_row b c).0 (o b) its (free_row b c).1

  was_its : (b : ℕ) → IsSome (g.cell b) → (inode_of b (o b) ≡ Some to) ⊎ Contains taken b
  was_its b some = elim ((is.blocks.has b).0 some).0 [ inl was ↦ inl (cell_its im o to b was) | inr c ↦ inr c ]

  -- they are no other inode's
  no_other : (b x : ℕ) → IsSome (g.cell b) → inode_of b (o b) ≡ Some x → x ≡ to
  no_other b x some e = elim (was_its b some) [ inl its ↦ some_same (sym e ∙ its) | inr c ↦ absurd (not_taken b x e c) ]

  none_of_other : (b x : ℕ) → inode_of b (o b) ≡ Some x → x ≢ to → g.cell b ≡ None
  none_of_other b x its d = not_some (g.cell b) (λ some. d (no_other b x some its))

  -- a block that it hasn't wasn't its, and isn't taken
  not_to : (b : ℕ) → g.cell b ≡ None → inode_of b (o b) ≡ Some to → ⊥
  not_to b none e = none_not (g.cell b) none ((is.blocks.has b).1 (inl (its_cell im o to b e), (λ c. elim (is_in b [] c) [ ])))

  other_taken : (b : ℕ) → g.cell b ≡ None → ¬ (Contains taken b)
  other_taken b none c = none_not (g.cell b) none ((is.blocks.has b).1 (inr c, (λ c. elim (is_in b [] c) [ ])))

  none_a : g.cell a ≡ None
  none_a = none_of_other a a own_a (λ e. to_not_a (sym e))

  removed_not_to : (c : ℕ) → IsIn c removed → c ≢ to
  removed_not_to c h e = to_stays (subst (λ z. IsIn z removed) e h)

  none_freed : (b : ℕ) → Contains freed b → g.cell b ≡ None
  none_freed b c = let f = freed_its b c in none_of_other b f.inode f.its (removed_not_to f.inode f.there)

  -- a block of an inode that stays isn't freed
  not_freed : (b x : ℕ) → inode_of b (o b) ≡ Some x → (IsIn x removed → ⊥) → ¬ (Contains freed b)
  not_freed b x its keeps c = let f = freed_its b c in keeps (subst (λ z. IsIn z removed) (some_same (sym f.its ∙ its)) f.there)

  -- ---- which block it is

  data Which (b : ℕ) : Type 0 where
    the_moved : b ≡ a → Which b
    of_target : Contains freed b → Which b
    of_to : IsSome (g.cell b) → Which b
    other_block : g.cell b ≡ None → b ≢ a → ¬ (Contains freed b) → Which b

  which : (b : ℕ) → Which b
  which b = elim (cases_eq b a) [
    | inl same ↦ the_moved same
    | inr other ↦ elim (cases_Bool (among freed b)) [
      | inl h ↦ of_target (has freed b h)
      | inr h ↦ elim (cases_Bool (is_some (g.cell b))) [
        | inl some ↦ of_to some
        | inr none ↦ other_block (not_some (g.cell b) (λ some. true≢false (sym some ∙ none))) other (λ c. true≢false (sym (in_list freed b c) ∙ h))
      ]
    ]
  ]

  -- ---- the table of owners

  row_now : o' a ≡ Named to name'
  row_now = cond-true _ (Named to name') (if among freed a then home_row a else owner_in (part_at g a) to (o a)) (eq-eqb a a refl)

  row_freed : (b : ℕ) → Contains freed b → o' b ≡ home_row b
  row_freed b c = cond-false _ (Named to name') (if among freed b then home_row b else owner_in (part_at g b) to (o b)) (ne_eqb b a (λ e. not_freed a a own_a a_stays (subst (Contains freed) e c)))
      ∙ cond-true _ (home_row b) (owner_in (part_at g b) to (o b)) (in_list freed b c)

  row_else : (b : ℕ) → b ≢ a → ¬ (Contains freed b) → o' b ≡ owner_in (part_at g b) to (o b)
  row_else b other kept = cond-false _ (Named to name') (if among freed b then home_row b else owner_in (part_at g b) to (o b)) (ne_eqb b a other)
      ∙ cond-false _ (home_row b) (owner_in (part_at g b) to (o b)) (lacks freed b kept)

  row_to : (b : ℕ) → IsSome (g.cell b) → o' b ≡ owner_in (part_at g b) to (o b)
  row_to b some = row_else b (λ e. none_not (g.cell a) none_a (subst (λ z. IsSome (g.cell z)) e some)) (λ c. none_not (g.cell b) (none_freed b c) some)

  row_other : (b : ℕ) → g.cell b ≡ None → b ≢ a → ¬ (Contains freed b) → o' b ≡ o b
  row_other b none other kept = row_else b other kept ∙ ap (λ d. owner_in (cell_part d) to (o b)) none

  outside_to : (b : ℕ) → g.cell b ≡ None → inode_of b (o' b) ≡ Some to → ⊥
  outside_to b none e = by (which b)
    where
      by : Which b → ⊥
      by (the_moved same) = to_not_a (some_same (sym (subst (λ z. inode_of z (o' z) ≡ Some to) same e) ∙ ap (inode_of a) row_now))
      by (of_target c) = none_some (sym (ap (inode_of b) (row_freed b c)) ∙ e)
      by (of_to some) = none_not (g.cell b) none some
      by (other_block gone other kept) = not_to b none (sym (ap (inode_of b) (row_other b none other kept)) ∙ e)

  row_of_to : o' to ≡ o to
  row_of_to = own_row im' o o' to g dinode_to is.there row_to outside_to

  held_to : holding im' o' to ≡ g
  held_to = held_now im' o o' to g dinode_to is.there row_to outside_to

  its_to : (b : ℕ) → IsSome (g.cell b) → inode_of b (o' b) ≡ Some to
  its_to = its_now im' o o' to g dinode_to is.there row_to outside_to

  state_to : (b : ℕ) → IsSome (g.cell b) → inode_of b (o b) ≡ Some to → state_of (o' b) ≡ state_of (o b)
  state_to = state_now im' o o' to g dinode_to is.there row_to outside_to

  row_from : o' from ≡ o from
  row_from = elim (cases_eq from to) [
    | inl e ↦ subst (λ z. o' z ≡ o z) (sym e) row_of_to
    | inr d ↦ row_other from (none_of_other from from (own from dinode_from) d) from_not_a (not_freed from from (own from dinode_from) from_stays)
  ]

  its_a : inode_of a (o' a) ≡ Some a
  its_a = ap (inode_of a) row_now

  gone : (c : ℕ) → IsIn c removed → is_dinode (o' c) ≡ false
  gone c h = ap is_dinode (row_freed c (own_freed c h))

  -- ---- the inodes afterwards

  -- an inode that stays, beside the directory that gets the name, has the blocks that it had
  part_same : (x : ℕ) → x ≢ to → (IsIn x removed → ⊥) → (b : ℕ) → part_in x b (o' b) ≡ part_in x b (o b)
  part_same x d keeps b = by (which b)
    where
      none_now : (y : ℕ) → y ≢ x → inode_of b (o' b) ≡ Some y → part_in x b (o' b) ≡ None
      none_now y e its = not_its x b (o' b) (λ f. e (some_same (sym its ∙ f)))

      by : Which b → part_in x b (o' b) ≡ part_in x b (o b)
      by (the_moved same) = subst (λ z. part_in x z (o' z) ≡ part_in x z (o z)) (sym same) (ap (part_in x a) row_now ∙ sym (ap (part_in x a) row_was))
      by (of_target c) = ap (part_in x b) (row_freed b c) ∙ sym (not_its x b (o b) (λ e. not_freed b x e keeps c))
      by (of_to some) = none_now to (λ e. d (sym e)) (its_to b some) ∙ sym (not_its x b (o b) (λ e. d (no_other b x some e)))
      by (other_block none other kept) = ap (part_in x b) (row_other b none other kept)

  held_same : (x : ℕ) → x ≢ to → (IsIn x removed → ⊥) → holding im' o' x ≡ holding im' o x
  held_same x d keeps = held_by_parts im' o o' x (part_same x d keeps)

  held_a : holding im' o' a ≡ holding im' o a
  held_a = held_same a (λ e. to_not_a (sym e)) a_stays

  held_from : from ≢ to → holding im' o' from ≡ holding im' o from
  held_from d = held_same from d from_stays

  -- where the inode is left
  same_a : ((b : ℕ) → IsSome ((holding im o a).cell b) → get fates b ≡ None) → holding im' o' a ≡ holding im o a
  same_a left = held_a ∙ left_as_it_was im o fates a left

  -- ---- groups

  in_taken : (b : ℕ) → Contains taken b → Contains all b
  in_taken = Contains-append_left taken freed

  in_freed : (b : ℕ) → Contains freed b → Contains all b
  in_freed = Contains-append_right taken freed

  used_or_free : (b : ℕ) → Contains all b → UsedOrFree o b
  used_or_free b c = elim (Contains-append_cases taken freed b c) [ inl t ↦ inr (free_row b t) | inr f ↦ let r = freed_its b f in inl (its_used b r.inode (o b) r.its).0 ]

  home_of : (b : ℕ) → Contains all b → IsHome l b (number_of (lies l.groups b)) (group_of (lies l.groups b))
  home_of b c = home im o l laid b (used_or_free b c)

  home_in : (b : ℕ) (c : Contains all b) → IsIn (home_of b c).group gs
  home_in b c = let h = home_of b c in in_homes im o l laid all used_or_free h.group h.listed (b, c, h.own)

  in_gs : (k : Rindex) → IsListed l.groups k → HasSomeOf k taken freed → IsIn k gs
  in_gs k listed (inl some) = in_homes im o l laid all used_or_free k listed (some.0, in_taken some.0 some.1, some.2)
  in_gs k listed (inr some) = in_homes im o l laid all used_or_free k listed (some.0, in_freed some.0 some.1, some.2)

  some_of : (k : Rindex) → HasSome k all → HasSomeOf k taken freed
  some_of k some = elim (Contains-append_cases taken freed some.0 some.1) [ inl c ↦ inl (some.0, c, some.2) | inr c ↦ inr (some.0, c, some.2) ]

  state_same : (b : ℕ) → (if among freed b then 0 else if among taken b then 1 else state_of (o b)) ≡ state_of (o' b)
  state_same b = by (which b)
    where
      ends : Bool → Bool → ℕ
      ends gone new = if gone then 0 else if new then 1 else state_of (o b)

      left : ¬ (Contains freed b) → ¬ (Contains taken b) → ends (among freed b) (among taken b) ≡ state_of (o b)
      left kept old = ap₂ ends (lacks freed b kept) (lacks taken b old)

      kept_to : IsSome (g.cell b) → ¬ (Contains freed b)
      kept_to some c = none_not (g.cell b) (none_freed b c) some

      by : Which b → ends (among freed b) (among taken b) ≡ state_of (o' b)
      by (the_moved same) =
          left (subst (λ z. ¬ (Contains freed z)) (sym same) (not_freed a a own_a a_stays)) (subst (λ z. ¬ (Contains taken z)) (sym same) (not_taken a a own_a))
          ∙ ap (λ z. state_of (o z)) same ∙ ap state_of row_was ∙ sym (ap (λ z. state_of (o' z)) same ∙ ap state_of row_now)
      by (of_target c) = ap (λ gone. ends gone (among taken b)) (in_list freed b c) ∙ sym (ap state_of (row_freed b c))
      by (of_to some) = elim (was_its b some) [
        | inl its ↦ left (kept_to some) (not_taken b to its) ∙ sym (state_to b some its)
        | inr c ↦ ap₂ ends (lacks freed b (kept_to some)) (in_list taken b c)
            ∙ sym (within_state b to (o' b) (λ e. not_taken to to (own to dinode_to) (subst (Contains taken) e c)) (its_to b some))
      ]
      by (other_block none other kept) = left kept (other_taken b none) ∙ sym (ap state_of (row_other b none other kept))

  states_same : (k : Rindex) → states_with o taken freed k ≡ states_of o' k
  states_same k = map_same (λ b. if among freed b then 0 else if among taken b then 1 else state_of (o b)) (λ b. state_of (o' b)) k.data0 k.data_blocks (λ b low high. state_same b)

  -- ---- what becomes of each block

  from_in : among ys from ≡ true
  from_in = in_among ys from (inl refl)

  to_in : among ys to ≡ true
  to_in = in_among ys to (inr (inl refl))

  a_in : among ys a ≡ true
  a_in = in_among ys a (inr (inr (inl refl)))

  removed_in : (c : ℕ) → IsIn c removed → among ys c ≡ true
  removed_in c h = in_among ys c (inr (inr (inr h)))

  -- a block that neither the directory that gets the name has then nor what stood at the target had
  data Outside (b : ℕ) : Type 0 where
    of_from : from ≢ to → inode_of b (o b) ≡ Some from → Outside b
    of_inode : inode_of b (o b) ≡ Some a → Outside b
    of_group : (k : Rindex) → IsIn k gs → IsHeaderOf k b → Outside b
    of_none : get fates b ≡ None → Outside b

  outside : (b : ℕ) → g.cell b ≡ None → ¬ (Contains freed b) → Outside b
  outside b none kept = elim (cases_Bool (is_some ((holding im o from).cell b))) [
    | inl some ↦ let its = cell_its im o from b some in of_from (λ e. not_to b none (its ∙ ap Some e)) its
    | inr not_from ↦ elim (cases_Bool (is_some ((holding im o a).cell b))) [
      | inl some ↦ of_inode (cell_its im o a b some)
      | inr not_a ↦ elim (header_among gs b) [
        | inl h ↦ of_group h.0 h.1 h.2
        | inr away ↦ of_none (is.others b (λ s. true≢false (sym s ∙ not_from)) (none_not (g.cell b) none) (λ s. true≢false (sym s ∙ not_a)) kept (λ k listed some head. away k (in_gs k listed some) head))
      ]
    ]
  ]

  of_old : (b : ℕ) → IsSome (g.cell b) → IsOfInodes (among ys) b (o b)
  of_old b some = elim (was_its b some) [
    | inl its ↦ of_its (among ys) b to (o b) its to_in
    | inr c ↦ subst (IsOfInodes (among ys) b) (sym (free_row b c).1) tt
  ]

  block : (b : ℕ) → MakesOf o o' fates ys gs b
  block b = by (which b)
    where
      in_inode : (x : ℕ) → among ys x ≡ true → inode_of b (o b) ≡ Some x → inode_of b (o' b) ≡ Some x → IsPutOrLeft fates (holding im o x) x b → MakesOf o o' fates ys gs b
      in_inode x touched its its' kept = kept_block o o' fates ys gs (holding im o x) x b touched kept (of_its (among ys) b x (o b) its touched) (λ some. its) its'

      by_other : o' b ≡ o b → Outside b → MakesOf o o' fates ys gs b
      by_other row (of_from d its) = in_inode from from_in its (ap (inode_of b) row ∙ its) (fate_from d b its)
      by_other row (of_inode its) = in_inode a a_in its (ap (inode_of b) row ∙ its) (fate_a b its)
      by_other row (of_group k h head) = of_header k h head row
      by_other row (of_none left) = leaves (none_drafted fates b left) row

      by : Which b → MakesOf o o' fates ys gs b
      by (the_moved same) =
          let its = subst (λ z. inode_of z (o z) ≡ Some a) (sym same) own_a in
          in_inode a a_in its (subst (λ z. inode_of z (o' z) ≡ Some a) (sym same) its_a) (fate_a b its)
      by (of_target c) =
          let f = freed_its b c in
          of_inodes (gone_drafted fates b (is.frees b c)) (of_its (among ys) b f.inode (o b) f.its (removed_in f.inode f.there)) (subst (IsOfInodes (among ys) b) (sym (row_freed b c)) tt)
      by (of_to some) = kept_block o o' fates ys gs (holding im o to) to b to_in (is.puts_to b some) (of_old b some) (cell_its im o to b) (its_to b some)
      by (other_block none other kept) = by_other (row_other b none other kept) (outside b none kept)

  same_number : {x y : ℕ} → Free x ≡ Free y → x ≡ y
  same_number e = cc

  framed : IsFramed im o o' l fates ys gs
  framed = record {
    laid = laid;
    whole = is.whole;
    listed = λ k h. (from_homes l all k h).listed;
    groups = λ k h. let one = from_homes l all k h in subst (PutsGroup im fates k) (states_same k) (is.states k one.listed (some_of k one.some));
    blocks = block;
    freed = λ b x e. free_after b x (which b) e;
    states = λ b. state_after b (which b);
  }
    where
      free_after : (b x : ℕ) → Which b → o' b ≡ Free x → (o b ≡ Free x) ⊎ ((k : Rindex) × IsIn k gs × IsDataOf k b × (x ≡ k.address))
      free_after b x (the_moved same) e = absurd (not_free_its a a x (o' a) its_a (sym (ap (λ z. o' z) same) ∙ e))
      free_after b x (of_target c) e = let h = home_of b (in_freed b c) in inr (h.group, home_in b (in_freed b c), h.own, same_number (sym e ∙ row_freed b c) ∙ h.address)
      free_after b x (of_to some) e = absurd (not_free_its b to x (o' b) (its_to b some) e)
      free_after b x (other_block none other kept) e = inl (sym (row_other b none other kept) ∙ e)

      at_home : (b : ℕ) → Contains all b → (state_of (o' b) ≡ state_of (o b)) ⊎ ((k : Rindex) × IsIn k gs × IsDataOf k b)
      at_home b c = inr ((home_of b c).group, home_in b c, (home_of b c).own)

      state_after : (b : ℕ) → Which b → (state_of (o' b) ≡ state_of (o b)) ⊎ ((k : Rindex) × IsIn k gs × IsDataOf k b)
      state_after b (the_moved same) = inl (subst (λ z. state_of (o' z) ≡ state_of (o z)) (sym same) (ap state_of row_now ∙ sym (ap state_of row_was)))
      state_after b (of_target c) = at_home b (in_freed b c)
      state_after b (of_to some) = elim (was_its b some) [ inl its ↦ inl (state_to b some its) | inr c ↦ at_home b (in_taken b c) ]
      state_after b (other_block none other kept) = inl (ap state_of (row_other b none other kept))

  -- ---- the inodes are sound, and keep their numbers and kinds

  -- what is said of an inode that keeps its number and kind
  record Keeps (x : ℕ) : Type 0 where
    sound : IsInode (holding im' o' x)
    head : heads_of im' o' x ≡ heads_of im o x

  exchanged_keeps : (x : ℕ) (h : Holding) (went come : List Record) → is_dinode (o x) ≡ true → holding im' o' x ≡ h → HasExchanged (holding im o x) h went come → Keeps x
  exchanged_keeps x h went come so held exchanged = record { sound = subst IsInode (sym held) (exchanged.sound (laid.inodes x so)); head = ap head_of held ∙ exchanged.head }

  keeps_to : Keeps to
  keeps_to = by is.records
    where
      by : AreRecordsMoved im o fates from to g is.old is.new is.target → Keeps to
      by (in_one e x) = exchanged_keeps to g (is.old ∷ is.target) (is.new ∷ []) dinode_to held_to x
      by (in_two d x y) = exchanged_keeps to g is.target (is.new ∷ []) dinode_to held_to y

  keeps_from : Keeps from
  keeps_from = by is.records
    where
      by : AreRecordsMoved im o fates from to g is.old is.new is.target → Keeps from
      by (in_one e x) = subst Keeps (sym e) keeps_to
      by (in_two d x y) = exchanged_keeps from (holding im' o from) (is.old ∷ []) [] dinode_from (held_from d) x

  keeps_a : Keeps a
  keeps_a = by is.itself
    where
      by : IsInodeMoved im o fates from to a → Keeps a
      by (left_alone only left) = record { sound = subst IsInode (sym (same_a left)) (laid.inodes a (ap is_dinode row_was)); head = ap head_of (same_a left) }
      by (gets_parent old new dir x old_named new_named true_of puts) = exchanged_keeps a (holding im' o a) (old ∷ []) (new ∷ []) (ap is_dinode row_was) held_a x

  keeps : (x : ℕ) → among ys x ≡ true → is_dinode (o' x) ≡ true → Keeps x
  keeps x h so = by (among_in ys x h)
    where
      by : IsIn x ys → Keeps x
      by (inl e) = subst Keeps (sym e) keeps_from
      by (inr (inl e)) = subst Keeps (sym e) keeps_to
      by (inr (inr (inl e))) = subst Keeps (sym e) keeps_a
      by (inr (inr (inr r))) = absurd (true≢false (sym so ∙ gone x r))

  -- no block is one of an inode that is removed
  no_block : (b x : ℕ) → IsIn x removed → inode_of b (o' b) ≡ Some x → ⊥
  no_block b x h e = by (which b)
    where
      by : Which b → ⊥
      by (the_moved same) = a_stays (subst (λ z. IsIn z removed) (some_same (sym (subst (λ z. inode_of z (o' z) ≡ Some x) same e) ∙ its_a)) h)
      by (of_target c) = none_some (sym (ap (inode_of b) (row_freed b c)) ∙ e)
      by (of_to some) = removed_not_to x h (some_same (sym e ∙ its_to b some))
      by (other_block none other kept) = kept (its_freed b x h (sym (ap (inode_of b) (row_other b none other kept)) ∙ e))

  blocks_within : (b x : ℕ) → among ys x ≡ true → IsWithin x (o' b) → is_dinode (o' x) ≡ true
  blocks_within b x h w = by (among_in ys x h)
    where
      there : (z : ℕ) → x ≡ z → is_dinode (o' z) ≡ true → is_dinode (o' x) ≡ true
      there z e so = ap (λ y. is_dinode (o' y)) e ∙ so

      by : IsIn x ys → is_dinode (o' x) ≡ true
      by (inl e) = there from e (ap is_dinode row_from ∙ dinode_from)
      by (inr (inl e)) = there to e (ap is_dinode row_of_to ∙ dinode_to)
      by (inr (inr (inl e))) = there a e (ap is_dinode row_now)
      by (inr (inr (inr r))) = absurd (no_block b x r (within_its b x (o' b) w))

  change : IsChange im im' o o' l (among ys) (is_drafted fates)
  change = framed_change im o o' l fates ys gs framed (λ x h so. (keeps x h so).sound) blocks_within (λ x h was so. (keeps x h so).head)

  -- ---- the name is moved

  records : AreRecordsMoved im o fates from to g is.old is.new is.target → IsRecordMoved im im' o o' from to is.old is.new is.target
  records (in_one e x) = within e both.records both.counted
    where
      both : HasExchanged (holding im o from) (holding im' o' from) (is.old ∷ is.target) (is.new ∷ [])
      both = subst (λ z. HasExchanged (holding im o z) (holding im' o' z) (is.old ∷ is.target) (is.new ∷ [])) (sym e)
          (subst (λ h. HasExchanged (holding im o to) h (is.old ∷ is.target) (is.new ∷ [])) (sym held_to) x)
  records (in_two d x y) = between d went.records went.counted came.records came.counted
    where
      went : HasExchanged (holding im o from) (holding im' o' from) (is.old ∷ []) []
      went = subst (λ h. HasExchanged (holding im o from) h (is.old ∷ []) []) (sym (held_from d)) x

      came : HasExchanged (holding im o to) (holding im' o' to) is.target (is.new ∷ [])
      came = subst (λ h. HasExchanged (holding im o to) h is.target (is.new ∷ [])) (sym held_to) y

  -- an inode that is left says what it said
  says : holding im' o' a ≡ holding im o a → SaysTheSame im im' o o' a
  says same = record {
    content = λ plain. ap content_of same;
    size = λ plain. ap (λ h. (dinode_in h).size) same;
    records = λ dir. subst (λ h. IsExchanged (records_at im o a) (records_of h) [] []) (sym same)
        (record { rest = records_at im o a; before = IsPermutation-refl (records_at im o a); after = IsPermutation-refl (records_at im o a) });
    counted = λ dir. subst (λ h. IsCounted (dinode_at im o a) (dinode_in h) [] []) (sym same) (record { entries = refl; links = refl });
  }

  itself : IsInodeMoved im o fates from to a → IsItself im im' o o' from to a
  itself (left_alone only left) = as_before only (says (same_a left))
  itself (gets_parent old new dir x old_named new_named true_of puts) =
      reparented old new dir both.records both.counted old_named new_named (record_here (heads_of im o) (heads_of im' o') to new keeps_to.head true_of)
    where
      both : HasExchanged (holding im o a) (holding im' o' a) (old ∷ []) (new ∷ [])
      both = subst (λ h. HasExchanged (holding im o a) h (old ∷ []) (new ∷ [])) (sym held_a) x

  moved : IsNameMoved im im' o o' l (is_drafted fates) from name to name' a
  moved = record {
    removed = removed;
    target = is.target;
    change = change;
    from_row = row_from;
    to_row = row_of_to;
    row = row_was;
    row' = row_now;
    is_name = is.is_name;
    directory = is.directory;
    stood = target_stood im o l path' to name' o' removed is.target freed is.stood removed_row gone;
    old = is.old;
    new = is.new;
    old_named = is.old_named;
    new_named = is.new_named;
    true_of = record_here (heads_of im o) (heads_of im' o') a is.new keeps_a.head is.true_of;
    records = records is.records;
    itself = itself is.itself;
  }

  -- ---- what is told of each block

  -- a block of an inode that stays, as it is put
  inode_written : (x : ℕ) (way : Path) → IsAt im o l way x → is_directory_at im o x ≡ true → Keeps x → (w : Written) (lock : LockName) → get fates w.block ≡ Some (Put lock w.plain w.bytes)
      → IsPutOrLeft fates (holding im o x) x w.block → inode_of w.block (o' w.block) ≡ Some x → (inode_of w.block (o w.block) ≡ Some x) ⊎ (is_free (o w.block) ≡ true) → IsWritten l im' o o' w lock
  inode_written x way found dir same w lock e kept its was =
      block_written l im' o o' x (own_locks im o l x laid (inl (way, found))) (ap (λ (h : Head). h.is_dir) same.head ∙ dir) w lock (put_so fates (holding im o x) x w lock e kept) its was

  -- the inode is a directory, if a block of it is put
  directory_a : (b : ℕ) (f : Fate) → inode_of b (o b) ≡ Some a → get fates b ≡ Some f → is_directory_at im o a ≡ true
  directory_a b f its e = by is.itself
    where
      by : IsInodeMoved im o fates from to a → is_directory_at im o a ≡ true
      by (left_alone only left) = absurd (none_some (sym (left b (its_cell im o a b its)) ∙ e))
      by (gets_parent old new dir x old_named new_named true_of puts) = dir

  written : (w : Written) (lock : LockName) → get fates w.block ≡ Some (Put lock w.plain w.bytes) → IsWritten l im' o o' w lock
  written w lock e = by (which w.block)
    where
      of_a : inode_of w.block (o w.block) ≡ Some a → inode_of w.block (o' w.block) ≡ Some a → IsWritten l im' o o' w lock
      of_a its its' = inode_written a (in_directory path name) at_a (directory_a w.block (Put lock w.plain w.bytes) its e) keeps_a w lock e (fate_a w.block its) its' (inl its)

      by_other : o' w.block ≡ o w.block → Outside w.block → IsWritten l im' o o' w lock
      by_other row (of_from d its) =
          inode_written from path at (has_child_directory im o l laid from a name child) keeps_from w lock e (fate_from d w.block its) (ap (inode_of w.block) row ∙ its) (inl its)
      by_other row (of_inode its) = of_a its (ap (inode_of w.block) row ∙ its)
      by_other row (of_group k h head) = header_written im o o' l fates ys gs framed k h w lock head e
      by_other row (of_none left) = absurd (none_some (sym left ∙ e))

      by : Which w.block → IsWritten l im' o o' w lock
      by (the_moved same) = of_a (subst (λ z. inode_of z (o z) ≡ Some a) (sym same) own_a) (subst (λ z. inode_of z (o' z) ≡ Some a) (sym same) its_a)
      by (of_target c) = absurd (true≢false (sym (is_gone_now w.block c) ∙ put_not_gone fates w.block lock w.plain w.bytes e))
      by (of_to some) = inode_written to path' at' is.directory keeps_to w lock e (is.puts_to w.block some) (its_to w.block some)
          (elim (was_its w.block some) [ inl its ↦ inl its | inr c ↦ inr (ap is_free (free_row w.block c).1) ])
      by (other_block none other kept) = by_other (row_other w.block none other kept) (outside w.block none kept)

  -- what is freed is of what stood at the target
  freed_mine : (b : ℕ) → is_freed fates b ≡ true → Contains freed b
  freed_mine b e = by (which b)
    where
      kept : (x : ℕ) → IsPutOrLeft fates (holding im o x) x b → ⊥
      kept x k = true≢false (sym e ∙ kept_not_freed fates (holding im o x) x b k)

      by_other : Outside b → ⊥
      by_other (of_from d its) = kept from (fate_from d b its)
      by_other (of_inode its) = kept a (fate_a b its)
      by_other (of_group k h head) = true≢false (sym e ∙ header_kept im o o' l fates ys gs framed k h b head)
      by_other (of_none left) = none_some (sym left ∙ gone_there fates b e)

      by : Which b → Contains freed b
      by (the_moved same) = absurd (kept a (fate_a b (subst (λ z. inode_of z (o z) ≡ Some a) (sym same) own_a)))
      by (of_target c) = c
      by (of_to some) = absurd (kept to (is.puts_to b some))
      by (other_block none other still) = absurd (by_other (outside b none still))

  freed_so : (b : ℕ) → is_freed fates b ≡ true → IsFreed (is_put fates) (is_freed fates) o o' b
  freed_so b e = record {
    free = ap is_free (row_freed b (freed_mine b e));
    inode = f.inode;
    was = f.its;
    dinode = inl (is_gone_now f.inode (own_freed f.inode f.there));
  }
    where
      f : IsOfRemoved o removed b
      f = freed_its b (freed_mine b e)

  held : (b : ℕ) → is_freed fates b ≡ true → IsHeld v l o b
  held b e =
      let f = freed_its b (freed_mine b e) in (
        record { kind = 2; number = f.inode },
        inode_cover l b (o b) f.inode f.its ∙ own_locks im o l f.inode laid (inl (in_directory path' name', removed_at f.inode f.there)),
        exclusive f.inode (contained f.inode removed f.there),
      )

  -- of each group of which a block is taken or freed some block is put
  groups : (b k : ℕ) → is_drafted fates b ≡ true → (o b ≡ Free k) ⊎ (o' b ≡ Free k) → (n : ℕ) × (is_put fates n ≡ true) × (o' n ≡ InGroup k)
  groups b k drafted free_then = by (which b)
    where
      at_home : (c : Contains all b) → (home_of b c).group.address ≡ k → (n : ℕ) × (is_put fates n ≡ true) × (o' n ≡ InGroup k)
      at_home c e = let w = group_written im o o' l fates ys gs framed (home_of b c).group (home_in b c) in (w.0, w.1, w.2 ∙ ap InGroup e)

      -- the home of a block that was taken is the group of which it was free
      home_taken : (c : Contains taken b) → o b ≡ Free k → (home_of b (in_taken b c)).group.address ≡ k
      home_taken c was =
          let f = is.free b c in
          let h = home_of b (in_taken b c) in
          let said : o b ≡ Free f.group.address = said_free im o l laid f.group f.listed b f.data_block f.free in
          one_group im l.groups laid.fit h.group f.group b h.listed f.listed h.own f.data_block ∙ same_number (sym said ∙ was)

      used : {x y : ℕ} → inode_of b (o b) ≡ Some x → inode_of b (o' b) ≡ Some y → ⊥
      used {x} {y} its its' = elim free_then [ inl f ↦ not_free_its b x k (o b) its f | inr f ↦ not_free_its b y k (o' b) its' f ]

      by_other : o' b ≡ o b → Outside b → ⊥
      by_other row (of_from d its) = used its (ap (inode_of b) row ∙ its)
      by_other row (of_inode its) = used its (ap (inode_of b) row ∙ its)
      by_other row (of_group q h head) =
          let r = header_row im o o' l fates ys gs framed q h b head in
          elim free_then [ inl f ↦ not_group_free q.address k (sym r.0 ∙ f) | inr f ↦ not_group_free q.address k (sym r.1 ∙ f) ]
      by_other row (of_none left) = true≢false (sym drafted ∙ none_drafted fates b left)

      was_free : (y : ℕ) → inode_of b (o' b) ≡ Some y → o b ≡ Free k
      was_free y its' = elim free_then [ inl f ↦ f | inr f ↦ absurd (not_free_its b y k (o' b) its' f) ]

      by : Which b → (n : ℕ) × (is_put fates n ≡ true) × (o' n ≡ InGroup k)
      by (the_moved same) = absurd (used (subst (λ z. inode_of z (o z) ≡ Some a) (sym same) own_a) (subst (λ z. inode_of z (o' z) ≡ Some a) (sym same) its_a))
      by (of_target c) = at_home (in_freed b c) (sym (home_of b (in_freed b c)).address ∙ elim free_then [
        | inl f ↦ absurd (not_free_its b (freed_its b c).inode k (o b) (freed_its b c).its f)
        | inr f ↦ same_number (sym (row_freed b c) ∙ f)
      ])
      by (of_to some) = elim (was_its b some) [
        | inl its ↦ absurd (used its (its_to b some))
        | inr c ↦ at_home (in_taken b c) (home_taken c (was_free to (its_to b some)))
      ]
      by (other_block none other kept) = absurd (by_other (row_other b none other kept) (outside b none kept))

  makes : apply call t ≡ record { reply = Ok; tree = put_at (in_directory path' name') u (remove_at (in_directory path name) t) } → MakesIn v call Ok fates im o l t
  makes answers = record {
    owners = o';
    tree = put_at (in_directory path' name') u (remove_at (in_directory path name) t);
    answers = answers;
    one = name_moved path path' from name to name' a u at at' sub beside moved;
    written = written;
    freed = freed_so;
    held = held;
    groups = groups;
  }

pub moving_makes : MovingMakes
moving_makes v call fates im o l t path path' from name to name' a g taken removed freed u here at at' at_a sub beside is exclusive answers =
    makes v call fates im o l t path path' from name to name' a g taken removed freed u here at at' at_a sub beside is exclusive answers
