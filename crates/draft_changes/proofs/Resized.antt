-- A draft that changes a file's content and its blocks makes what the call should.
use Rattle.std.proofs.Common.{zero, suc, ◌≡◌, ◌≢◌, ℕ, ◌≤◌, ◌⊎◌, inl, inr, Bool, true, false, true≢false, List, [], ◌∷◌, ◌++◌, Option, None, Some, refl, sym, ap, ap₂, ◌∙◌, subst}
use Rattle.std.specs.Prelude.{◌↔◌, Contains, IsSome, ◌&&◌, if◌then◌else◌}
use Rattle.std.specs.Ordering.{nat_cmp}
use Rattle.std.specs.FinMap.{FinMap, get}
use Rattle.std.proofs.lemmas.Bool.{cases_Bool, cond-true, cond-false, eq-eqb}
use Rattle.std.proofs.lemmas.List.Elements.{Contains-append_left, Contains-append_right, Contains-append_cases}
use Rattle.file_tree.specs.Tree.{Tree, file}
use Rattle.file_tree.specs.Apply.{apply, file_limit, put_at}
use Rattle.file_tree.specs.declared.call.Call.{Call}
use Rattle.file_tree.specs.declared.reply.Reply.TheVariants.{Ok}
use Rattle.drafts.specs.declared.change.Written.{Written}
use Rattle.drafts.specs.declared.fate.Fate.{Fate}
use Rattle.drafts.specs.declared.fate.Fate.TheVariants.{Put, Freed}
use Rattle.gfs2_layout.specs.declared.rindex.Rindex.{Rindex}
use Rattle.gfs2_layout.specs.Holding.{Part, Itself, Pointed, InChain, Cell, Holding, cell_part, cell_bytes, part_at}
use Rattle.gfs2_layout.specs.Inode.{Head, IsInode, dinode_in, head_of, content_of, is_directory_in, is_hashed_in, has_hash_flag}
use Rattle.gfs2_layout.specs.Structures.{is_regular}
use Rattle.glock_names.specs.Views.{Seen}
use Rattle.glock_names.specs.declared.LockName.{LockName}
use Rattle.glock_names.specs.declared.State.TheVariants.{Ex}
use Rattle.image_model.specs.Flat.{Path}
use Rattle.image_model.specs.Groups.{IsListed, IsHeaderOf, IsDataOf, states_of, state_of}
use Rattle.image_model.specs.Image.{Image}
use Rattle.image_model.specs.Owners.{Owner, Owners, Super, InGroup, Free, Nobody, Root, Master, Named, Below, Chained, is_dinode, part_in, cell_of, cell_in, holding}
use Rattle.image_model.specs.Stands.{Layout, heads_of}
use Rattle.image_model.proofs.Held.{none_some, some_same, own_part}
use Rattle.image_model.proofs.Members.{IsIn, contained, is_in}
use Rattle.image_model.proofs.Table.{lies}
use Rattle.image_changes.specs.Changes.{inode_of, IsOf as IsOfInodes, IsChange, inode_lock, cover, is_free}
use Rattle.image_changes.specs.Does.{IsOf, IsHeld, IsWritten, IsFreed}
use Rattle.image_changes.specs.Drafted.{is_put, is_freed, is_drafted, with_draft, MakesIn, file_changed}
use Rattle.image_changes.specs.Instances.{IsAt, among, dinode_at, IsFileChanged}
use Rattle.image_changes.proofs.Drafting.{own_locks}
use Rattle.image_changes.proofs.Frame.{dinode_its, not_its, inode_cover}
use Rattle.image_changes.proofs.Laid.{follow_dinode, one_group}
use Rattle.image_changes.proofs.Nodes.{among_in, in_among}
use Rattle.image_changes.proofs.States.{map_same}
use Rattle.draft_changes.specs.Groups.{PutsGroup}
use Rattle.draft_changes.specs.Removing.{HasSome}
use Rattle.draft_changes.specs.Resizing.{IsPutOrKept, HasSomeOf, states_with, ResizesFile, ResizingMakes}
use Rattle.draft_changes.specs.Rewriting.{is_content_part}
use Rattle.draft_changes.proofs.Rows.{of_its, its_used, cell_its, its_cell, part_there, not_group_free, header_among, said_free}
use Rattle.draft_changes.proofs.Framed.{none_drafted, put_drafted, gone_drafted, gone_there, put_not_gone, MakesOf, leaves, moves, of_inodes, of_header, IsFramed, framed_change, header_written, header_row, header_kept, group_written}
use Rattle.draft_changes.proofs.Homes.{number_of, group_of, homes, IsHome, from_homes, UsedOrFree, home, in_homes}
use Rattle.draft_changes.proofs.Rewritten.{content_same}

-- ---- one block

-- a block of an inode beside its dinode has the state of one in use
within_state : (b a : ℕ) (x : Owner) → b ≢ a → inode_of b x ≡ Some a → state_of x ≡ 1
within_state b a (Below d above k level first) other e = refl
within_state b a (Chained d hash place) other e = refl
within_state b a Root other e = absurd (other (some_same e))
within_state b a Master other e = absurd (other (some_same e))
within_state b a (Named parent name) other e = absurd (other (some_same e))
within_state b a Super other e = absurd (none_some e)
within_state b a (InGroup g) other e = absurd (none_some e)
within_state b a (Free g) other e = absurd (none_some e)
within_state b a Nobody other e = absurd (none_some e)

-- what an inode has of a block is told by its part and its bytes
cell_is : (c : Option Cell) (p : Part) (bytes : List ℕ) → cell_part c ≡ Some p → cell_bytes c ≡ bytes → cell_of (Some p) bytes ≡ c
cell_is None p bytes e f = absurd (none_some e)
cell_is (Some c) p bytes e f = λ i. Some (record { part = some_same (sym e) i; bytes = sym f i })

part_some : (c : Option Cell) (p : Part) → cell_part c ≡ Some p → IsSome c
part_some None p e = absurd (none_some e)
part_some (Some c) p e = refl

none_not : (c : Option Cell) → c ≡ None → IsSome c → ⊥
none_not c e h = true≢false (sym (subst IsSome e h))

-- plain exactly where the block is content, as its part says
not_plain : (plain : Bool) (P : Type 0) → (plain ≡ true) ↔ P → (P → ⊥) → plain ≡ false
not_plain plain P where_so none = elim (cases_Bool plain) [ inl e ↦ absurd (none (where_so.0 e)) | inr e ↦ e ]

plain_is : (p : Option Part) (plain : Bool) → (plain ≡ true) ↔ ((above k first : ℕ) × (p ≡ Some (Pointed above k 0 first))) → plain ≡ is_content_part p
plain_is (Some (Pointed above k zero first)) plain so = so.1 (above, k, first, refl)
plain_is (Some (Pointed above k (suc level) first)) plain so = not_plain plain _ so (λ c. differ c.0 c.1 c.2 c.3)
  where
    differ : (x j n : ℕ) → ◌≡◌ {A = Option Part} (Some (Pointed above k (suc level) first)) (Some (Pointed x j 0 n)) → ⊥
    differ x j n e = cc
plain_is (Some Itself) plain so = not_plain plain _ so (λ c. differ c.0 c.1 c.2 c.3)
  where
    differ : (x j n : ℕ) → ◌≡◌ {A = Option Part} (Some Itself) (Some (Pointed x j 0 n)) → ⊥
    differ x j n e = cc
plain_is (Some (InChain hash place)) plain so = not_plain plain _ so (λ c. differ c.0 c.1 c.2 c.3)
  where
    differ : (x j n : ℕ) → ◌≡◌ {A = Option Part} (Some (InChain hash place)) (Some (Pointed x j 0 n)) → ⊥
    differ x j n e = cc
plain_is None plain so = not_plain plain _ so (λ c. none_some c.3)

-- the owner of a block afterwards: the file, as the block's part in it says; its group, where it is freed; and else the owner of before
abbrev owner_as : Option Part → Bool → ℕ → ℕ → Owner → Owner
owner_as (Some (Pointed from k level first)) gone a number was = Below a from k level first
owner_as p gone a number was = if gone then Free number else was

module _ (v : Seen) (call : Call) (fates : FinMap nat_cmp Fate) (im : Image) (o : Owners) (l : Layout) (t : Tree) (path : Path) (a : ℕ) (g : Holding) (taken freed : List ℕ)
    (here : IsOf v im o l t) (at : IsAt im o l path a) (is : ResizesFile im o l fates a g taken freed) (exclusive : v.state_of (record { kind = 2; number = a }) ≡ Ex) where
  abbrev im' : Image
  im' = with_draft im fates

  abbrev o' : Owners
  o' b = owner_as (part_at g b) (among freed b) a (number_of (lies l.groups b)) (o b)

  abbrev ys : List ℕ
  ys = a ∷ []

  abbrev gs : List Rindex
  gs = homes l (taken ++ freed)

  a_in : among ys a ≡ true
  a_in = in_among ys a (inl refl)

  only : (y : ℕ) → among ys y ≡ true → y ≡ a
  only y e = elim (among_in ys y e) [ inl same ↦ same | inr h ↦ elim h [ ] ]

  -- ---- the file's blocks before

  dinode : is_dinode (o a) ≡ true
  dinode = follow_dinode im o l here.stands.laid path l.root a (ap is_dinode here.stands.laid.root.0) at

  has : (xs : List ℕ) (b : ℕ) → among xs b ≡ true → Contains xs b
  has xs b e = contained b xs (among_in xs b e)

  in_list : (xs : List ℕ) (b : ℕ) → Contains xs b → among xs b ≡ true
  in_list xs b c = in_among xs b (is_in b xs c)

  lacks : (xs : List ℕ) (b : ℕ) → ¬ (Contains xs b) → among xs b ≡ false
  lacks xs b none = elim (cases_Bool (among xs b)) [ inl e ↦ absurd (none (has xs b e)) | inr e ↦ e ]

  -- a block that was taken was free
  free_row : (b : ℕ) → Contains taken b → (x : ℕ) × (o b ≡ Free x)
  free_row b c = let f = is.free b c in (f.group.address, said_free im o l here.stands.laid f.group f.listed b f.data_block f.free)

  freed_its : (b : ℕ) → Contains freed b → inode_of b (o b) ≡ Some a
  freed_its b c = cell_its im o a b (is.blocks.were b c)

  -- a block that the file has was its own, or was taken, and isn't freed
  not_freed : (b : ℕ) → IsSome (g.cell b) → ¬ (Contains freed b)
  not_freed b some = ((is.blocks.has b).0 some).1

  was_its : (b : ℕ) → IsSome (g.cell b) → (inode_of b (o b) ≡ Some a) ⊎ Contains taken b
  was_its b some = elim ((is.blocks.has b).0 some).0 [ inl was ↦ inl (cell_its im o a b was) | inr c ↦ inr c ]

  not_taken : (b : ℕ) → inode_of b (o b) ≡ Some a → ¬ (Contains taken b)
  not_taken b e c = none_some (sym (ap (inode_of b) (free_row b c).1) ∙ e)

  -- a block of neither is none of the file's afterwards
  gone_or_other : (b : ℕ) → g.cell b ≡ None → ¬ (Contains freed b) → (inode_of b (o b) ≡ Some a → ⊥) × ¬ (Contains taken b)
  gone_or_other b none kept = (
    (λ e. none_not (g.cell b) none ((is.blocks.has b).1 (inl (its_cell im o a b e), kept))),
    (λ c. none_not (g.cell b) none ((is.blocks.has b).1 (inr c, kept))),
  )

  -- ---- which block it is

  is_file : is_directory_in g ≡ false
  is_file = ap (λ (h : Head). h.is_dir) is.rewritten.head ∙ is.is_file

  plain : is_hashed_in g ≡ false
  plain = ap (λ d. d && has_hash_flag (dinode_in g)) is_file

  data Which (b : ℕ) : Type 0 where
    the_dinode : b ≡ a → Which b
    pointed : (from k level first : ℕ) → part_at g b ≡ Some (Pointed from k level first) → b ≢ a → Which b
    freed_block : g.cell b ≡ None → Contains freed b → Which b
    other_block : g.cell b ≡ None → ¬ (Contains freed b) → Which b

  which : (b : ℕ) → Which b
  which b = by (g.cell b) refl
    where
      of_part : (p : Part) → part_at g b ≡ Some p → Which b
      of_part Itself e = the_dinode ((is.there.itself b).0 e)
      of_part (Pointed from k level first) e = pointed from k level first e (λ same. differ (sym e ∙ (is.there.itself b).1 same))
        where
          differ : ◌≡◌ {A = Option Part} (Some (Pointed from k level first)) (Some Itself) → ⊥
          differ e = cc
      of_part (InChain hash place) e = absurd (is.rewritten.sound.leafless plain b hash place e)

      by : (c : Option Cell) → g.cell b ≡ c → Which b
      by None e = elim (cases_Bool (among freed b)) [
        | inl h ↦ freed_block e (has freed b h)
        | inr h ↦ other_block e (λ c. true≢false (sym (in_list freed b c) ∙ h))
      ]
      by (Some c) e = of_part c.part (ap cell_part e)

  own_part_is : part_at g a ≡ Some Itself
  own_part_is = (is.there.itself a).1 refl

  own_there : IsSome (g.cell a)
  own_there = part_some (g.cell a) Itself own_part_is

  -- ---- the table of owners

  row : o' a ≡ o a
  row = ap (λ p. owner_as p (among freed a) a (number_of (lies l.groups a)) (o a)) own_part_is ∙ cond-false _ (Free (number_of (lies l.groups a))) (o a) (lacks freed a (not_freed a own_there))

  row_pointed : (b from k level first : ℕ) → part_at g b ≡ Some (Pointed from k level first) → o' b ≡ Below a from k level first
  row_pointed b from k level first e = ap (λ p. owner_as p (among freed b) a (number_of (lies l.groups b)) (o b)) e

  row_freed : (b : ℕ) → g.cell b ≡ None → Contains freed b → o' b ≡ Free (number_of (lies l.groups b))
  row_freed b none c = ap (λ d. owner_as (cell_part d) (among freed b) a (number_of (lies l.groups b)) (o b)) none ∙ cond-true _ (Free (number_of (lies l.groups b))) (o b) (in_list freed b c)

  row_other : (b : ℕ) → g.cell b ≡ None → ¬ (Contains freed b) → o' b ≡ o b
  row_other b none kept = ap (λ d. owner_as (cell_part d) (among freed b) a (number_of (lies l.groups b)) (o b)) none ∙ cond-false _ (Free (number_of (lies l.groups b))) (o b) (lacks freed b kept)

  dinode' : is_dinode (o' a) ≡ true
  dinode' = ap is_dinode row ∙ dinode

  own_its : inode_of a (o a) ≡ Some a
  own_its = dinode_its a (o a) dinode

  own_its' : inode_of a (o' a) ≡ Some a
  own_its' = dinode_its a (o' a) dinode'

  pointed_its : (b from k level first : ℕ) → part_at g b ≡ Some (Pointed from k level first) → inode_of b (o' b) ≡ Some a
  pointed_its b from k level first e = ap (inode_of b) (row_pointed b from k level first e)

  -- ---- the file afterwards

  part_held : (b : ℕ) → cell_in im' o' a b ≡ g.cell b
  unfolding cell_in
  part_held b = by (which b)
    where
      by : Which b → cell_of (part_in a b (o' b)) (im'.at b) ≡ g.cell b
      by (the_dinode same) = subst (λ c. cell_of (part_in a c (o' c)) (im'.at c) ≡ g.cell c) (sym same)
          (ap (λ p. cell_of p (im'.at a)) (ap (part_in a a) row ∙ sym (part_there im o a a) ∙ own_part im o a dinode)
          ∙ cell_is (g.cell a) Itself (im'.at a) own_part_is (is.there.bytes a own_there))
      by (pointed from k level first e apart) =
          ap (λ p. cell_of p (im'.at b)) (ap (part_in a b) (row_pointed b from k level first e) ∙ cond-true _ (Some (Pointed from k level first)) None (eq-eqb a a refl))
          ∙ cell_is (g.cell b) (Pointed from k level first) (im'.at b) e (is.there.bytes b (part_some (g.cell b) _ e))
      by (freed_block none c) = ap (λ p. cell_of p (im'.at b)) (ap (part_in a b) (row_freed b none c)) ∙ sym none
      by (other_block none kept) = ap (λ p. cell_of p (im'.at b)) (ap (part_in a b) (row_other b none kept) ∙ not_its a b (o b) (gone_or_other b none kept).0) ∙ sym none

  held : holding im' o' a ≡ g
  held = λ i. record { size = sym is.there.size i; count = sym is.there.count i; own = sym is.there.own i; cell = λ b. part_held b i }

  -- ---- groups

  taken_in : (b : ℕ) → Contains taken b → Contains (taken ++ freed) b
  taken_in b c = Contains-append_left taken freed b c

  freed_in : (b : ℕ) → Contains freed b → Contains (taken ++ freed) b
  freed_in b c = Contains-append_right taken freed b c

  some_of : (k : Rindex) → HasSome k (taken ++ freed) → HasSomeOf k taken freed
  some_of k some = elim (Contains-append_cases taken freed some.0 some.1) [ inl c ↦ inl (some.0, c, some.2) | inr c ↦ inr (some.0, c, some.2) ]

  of_some : (k : Rindex) → HasSomeOf k taken freed → HasSome k (taken ++ freed)
  of_some k (inl some) = (some.0, taken_in some.0 some.1, some.2)
  of_some k (inr some) = (some.0, freed_in some.0 some.1, some.2)

  used_or_free : (b : ℕ) → Contains (taken ++ freed) b → UsedOrFree o b
  used_or_free b c = elim (Contains-append_cases taken freed b c) [ inl t ↦ inr (free_row b t) | inr f ↦ inl (its_used b a (o b) (freed_its b f)).0 ]

  home_of : (b : ℕ) → Contains (taken ++ freed) b → IsHome l b (number_of (lies l.groups b)) (group_of (lies l.groups b))
  home_of b c = home im o l here.stands.laid b (used_or_free b c)

  in_gs : (k : Rindex) → IsListed l.groups k → HasSome k (taken ++ freed) → IsIn k gs
  in_gs = in_homes im o l here.stands.laid (taken ++ freed) used_or_free

  home_in : (b : ℕ) (c : Contains (taken ++ freed) b) → IsIn (home_of b c).group gs
  home_in b c = let h = home_of b c in in_gs h.group h.listed (b, c, h.own)

  state_same : (b : ℕ) → (if among freed b then 0 else if among taken b then 1 else state_of (o b)) ≡ state_of (o' b)
  state_same b = by (which b)
    where
      ends : Bool → Bool → ℕ
      ends f t = if f then 0 else if t then 1 else state_of (o b)

      left : ¬ (Contains freed b) → ¬ (Contains taken b) → ends (among freed b) (among taken b) ≡ state_of (o b)
      left kept old = ap₂ ends (lacks freed b kept) (lacks taken b old)

      by : Which b → ends (among freed b) (among taken b) ≡ state_of (o' b)
      by (the_dinode same) =
          left (subst (λ z. ¬ (Contains freed z)) (sym same) (not_freed a own_there)) (subst (λ z. ¬ (Contains taken z)) (sym same) (not_taken a own_its))
          ∙ sym (subst (λ z. state_of (o' z) ≡ state_of (o z)) (sym same) (ap state_of row))
      by (pointed from k level first e apart) = elim (was_its b (part_some (g.cell b) _ e)) [
        | inl its ↦ left (not_freed b (part_some (g.cell b) _ e)) (not_taken b its) ∙ within_state b a (o b) apart its ∙ sym (ap state_of (row_pointed b from k level first e))
        | inr c ↦ ap₂ ends (lacks freed b (not_freed b (part_some (g.cell b) _ e))) (in_list taken b c) ∙ sym (ap state_of (row_pointed b from k level first e))
      ]
      by (freed_block none c) = ap (λ f. ends f (among taken b)) (in_list freed b c) ∙ sym (ap state_of (row_freed b none c))
      by (other_block none kept) = left kept (gone_or_other b none kept).1 ∙ sym (ap state_of (row_other b none kept))

  states_same : (k : Rindex) → states_with o taken freed k ≡ states_of o' k
  states_same k = map_same (λ b. if among freed b then 0 else if among taken b then 1 else state_of (o b)) (λ b. state_of (o' b)) k.data0 k.data_blocks (λ b low high. state_same b)

  -- ---- what becomes of each block

  of_old : (b : ℕ) → IsSome (g.cell b) → IsOfInodes (among ys) b (o b)
  of_old b some = elim (was_its b some) [
    | inl its ↦ of_its (among ys) b a (o b) its a_in
    | inr c ↦ subst (IsOfInodes (among ys) b) (sym (free_row b c).1) tt
  ]

  in_file : (b : ℕ) (some : IsSome (g.cell b)) → inode_of b (o' b) ≡ Some a → IsPutOrKept fates (holding im o a) g b → MakesOf o o' fates ys gs b
  in_file b some its (inl put) = of_inodes (put_drafted fates b _ _ _ put.fate) (of_old b some) (of_its (among ys) b a (o' b) its a_in)
  in_file b some its (inr kept) = moves a (none_drafted fates b kept.1) a_in (cell_its im o a b kept.0) its

  -- a block of none of the file's, and not freed, is one of a group's header and bitmap, or isn't drafted
  outside : (b : ℕ) → g.cell b ≡ None → ¬ (Contains freed b) → ((k : Rindex) × IsIn k gs × IsHeaderOf k b) ⊎ (get fates b ≡ None)
  outside b none kept = elim (header_among gs b) [
    | inl h ↦ inl h
    | inr away ↦ inr (is.others b (none_not (g.cell b) none) kept (λ k listed some head. away k (in_gs k listed (of_some k some)) head))
  ]

  block : (b : ℕ) → MakesOf o o' fates ys gs b
  block b = by (which b)
    where
      by : Which b → MakesOf o o' fates ys gs b
      by (the_dinode same) = subst (MakesOf o o' fates ys gs) (sym same) (in_file a own_there own_its' (is.puts a own_there))
      by (pointed from k level first e apart) = let some = part_some (g.cell b) (Pointed from k level first) e in in_file b some (pointed_its b from k level first e) (is.puts b some)
      by (freed_block none c) =
          of_inodes (gone_drafted fates b (is.frees b c)) (of_its (among ys) b a (o b) (freed_its b c) a_in) (subst (IsOfInodes (among ys) b) (sym (row_freed b none c)) tt)
      by (other_block none kept) = elim (outside b none kept) [
        | inl h ↦ of_header h.0 h.1 h.2 (row_other b none kept)
        | inr left ↦ leaves (none_drafted fates b left) (row_other b none kept)
      ]

  same_number : {x y : ℕ} → Free x ≡ Free y → x ≡ y
  same_number e = cc

  framed : IsFramed im o o' l fates ys gs
  framed = record {
    laid = here.stands.laid;
    whole = is.whole;
    listed = λ k h. (from_homes l (taken ++ freed) k h).listed;
    groups = λ k h. let one = from_homes l (taken ++ freed) k h in subst (PutsGroup im fates k) (states_same k) (is.states k one.listed (some_of k one.some));
    blocks = block;
    freed = λ b x e. free_after b x (which b) e;
    states = λ b. state_after b (which b);
  }
    where
      not_free : (from k level first x : ℕ) → Below a from k level first ≡ Free x → ⊥
      not_free from k level first x e = cc

      free_after : (b x : ℕ) → Which b → o' b ≡ Free x → (o b ≡ Free x) ⊎ ((k : Rindex) × IsIn k gs × IsDataOf k b × (x ≡ k.address))
      free_after b x (the_dinode same) e = inl (sym (subst (λ z. o' z ≡ o z) (sym same) row) ∙ e)
      free_after b x (pointed from k level first f apart) e = absurd (not_free from k level first x (sym (row_pointed b from k level first f) ∙ e))
      free_after b x (freed_block none c) e = let h = home_of b (freed_in b c) in inr (h.group, home_in b (freed_in b c), h.own, same_number (sym e ∙ row_freed b none c) ∙ h.address)
      free_after b x (other_block none kept) e = inl (sym (row_other b none kept) ∙ e)

      state_after : (b : ℕ) → Which b → (state_of (o' b) ≡ state_of (o b)) ⊎ ((k : Rindex) × IsIn k gs × IsDataOf k b)
      state_after b (the_dinode same) = inl (subst (λ z. state_of (o' z) ≡ state_of (o z)) (sym same) (ap state_of row))
      state_after b (pointed from k level first e apart) = elim (was_its b (part_some (g.cell b) _ e)) [
        | inl its ↦ inl (ap state_of (row_pointed b from k level first e) ∙ sym (within_state b a (o b) apart its))
        | inr c ↦ let h = home_of b (taken_in b c) in inr (h.group, home_in b (taken_in b c), h.own)
      ]
      state_after b (freed_block none c) = let h = home_of b (freed_in b c) in inr (h.group, home_in b (freed_in b c), h.own)
      state_after b (other_block none kept) = inl (ap state_of (row_other b none kept))

  change : IsChange im im' o o' l (among ys) (is_drafted fates)
  change = framed_change im o o' l fates ys gs framed
      (λ y h so. subst (λ z. IsInode (holding im' o' z)) (sym (only y h)) (subst IsInode (sym held) is.rewritten.sound))
      (λ b y h within. subst (λ z. is_dinode (o' z) ≡ true) (sym (only y h)) dinode')
      (λ y h so so'. subst (λ z. heads_of im' o' z ≡ heads_of im o z) (sym (only y h)) (ap head_of held ∙ is.rewritten.head))

  changed : IsFileChanged im im' o o' l (is_drafted fates) a
  changed = record { change = change; row = row; file = is.is_file; short = subst (λ h. (dinode_in h).size ≤ file_limit) (sym held) is.rewritten.short }

  -- ---- what is told of each block

  lock_a : inode_lock l a ≡ Some (record { kind = 2; number = a })
  lock_a = own_locks im o l a here.stands.laid (inl (path, at))

  regular : is_regular (dinode_at im' o' a) ≡ true
  regular = elim is.rewritten.sound.mode [
    | inl dir ↦ absurd (true≢false (sym dir ∙ is_file))
    | inr so ↦ ap (λ h. is_regular (dinode_in h)) held ∙ so
  ]

  part_same : (b : ℕ) → part_in a b (o' b) ≡ part_at g b
  part_same b = sym (part_there im' o' a b) ∙ ap (λ h. part_at h b) held

  -- a block of the file, as it is put
  file_written : (w : Written) (lock : LockName) → get fates w.block ≡ Some (Put lock w.plain w.bytes) → IsSome (g.cell w.block) → inode_of w.block (o' w.block) ≡ Some a → IsWritten l im' o o' w lock
  file_written w lock e some its = record {
    told = covers (o' w.block) its;
    used = (its_used w.block a (o' w.block) its).1;
    plain = put.1 ∙ sym (content_same im' o' a w.block (o' w.block) regular its ∙ ap is_content_part (part_same w.block));
    stayed = elim (was_its w.block some) [ inl was ↦ inl (covers (o w.block) was) | inr c ↦ inr (ap is_free (free_row w.block c).1) ];
  }
    where
      both : (plain : Bool) (bytes : List ℕ) → Put lock w.plain w.bytes ≡ Put (record { kind = 2; number = g.own }) plain bytes → (lock ≡ record { kind = 2; number = g.own }) × (w.plain ≡ plain)
      both plain bytes e = (cc, cc)

      by : IsPutOrKept fates (holding im o a) g w.block → (lock ≡ record { kind = 2; number = g.own }) × (w.plain ≡ is_content_part (part_at g w.block))
      by (inl put) = let so = both put.plain put.bytes (some_same (sym e ∙ put.fate)) in (so.0, so.1 ∙ plain_is (part_at g w.block) put.plain put.content)
      by (inr kept) = absurd (none_some (sym kept.1 ∙ e))

      put : (lock ≡ record { kind = 2; number = g.own }) × (w.plain ≡ is_content_part (part_at g w.block))
      put = by (is.puts w.block some)

      own_lock : Some (record { kind = 2; number = a }) ≡ Some lock
      own_lock = ap (λ n. Some (record { kind = 2; number = n })) (sym is.there.own) ∙ ap Some (sym put.0)

      covers : (x : Owner) → inode_of w.block x ≡ Some a → cover l w.block x ≡ Some lock
      covers x so = inode_cover l w.block x a so ∙ lock_a ∙ own_lock

  written : (w : Written) (lock : LockName) → get fates w.block ≡ Some (Put lock w.plain w.bytes) → IsWritten l im' o o' w lock
  written w lock e = by (which w.block)
    where
      differ : Put lock w.plain w.bytes ≡ Freed → ⊥
      differ e = cc

      by : Which w.block → IsWritten l im' o o' w lock
      by (the_dinode same) = file_written w lock e (subst (λ z. IsSome (g.cell z)) (sym same) own_there) (subst (λ z. inode_of z (o' z) ≡ Some a) (sym same) own_its')
      by (pointed from k level first f apart) = file_written w lock e (part_some (g.cell w.block) _ f) (pointed_its w.block from k level first f)
      by (freed_block none c) = absurd (differ (some_same (sym e ∙ is.frees w.block c)))
      by (other_block none kept) = elim (outside w.block none kept) [
        | inl h ↦ header_written im o o' l fates ys gs framed h.0 h.1 w lock h.2 e
        | inr left ↦ absurd (none_some (sym left ∙ e))
      ]

  -- what is freed is told so, and is none of the file's any more
  gone_block : (b : ℕ) → is_freed fates b ≡ true → Contains freed b × (g.cell b ≡ None)
  gone_block b e = by (which b)
    where
      not_put : IsSome (g.cell b) → ⊥
      not_put some = elim (is.puts b some) [
        | inl put ↦ true≢false (sym e ∙ put_not_gone fates b _ _ _ put.fate)
        | inr kept ↦ none_some (sym kept.1 ∙ gone_there fates b e)
      ]

      by : Which b → Contains freed b × (g.cell b ≡ None)
      by (the_dinode same) = absurd (not_put (subst (λ z. IsSome (g.cell z)) (sym same) own_there))
      by (pointed from k level first f apart) = absurd (not_put (part_some (g.cell b) _ f))
      by (freed_block none c) = (c, none)
      by (other_block none kept) = elim (outside b none kept) [
        | inl h ↦ absurd (true≢false (sym e ∙ header_kept im o o' l fates ys gs framed h.0 h.1 b h.2))
        | inr left ↦ absurd (none_some (sym left ∙ gone_there fates b e))
      ]

  freed_so : (b : ℕ) → is_freed fates b ≡ true → IsFreed (is_put fates) (is_freed fates) o o' b
  freed_so b e = let c = gone_block b e in record {
    free = ap is_free (row_freed b c.1 c.0);
    inode = a;
    was = freed_its b c.0;
    dinode = inr (is.dinode b c.0, dinode');
  }

  held_so : (b : ℕ) → is_freed fates b ≡ true → IsHeld v l o b
  held_so b e = (record { kind = 2; number = a }, inode_cover l b (o b) a (freed_its b (gone_block b e).0) ∙ lock_a, exclusive)

  -- of each group of which a block is taken, or to which one is freed, some block is put
  groups : (b k : ℕ) → is_drafted fates b ≡ true → (o b ≡ Free k) ⊎ (o' b ≡ Free k) → (n : ℕ) × (is_put fates n ≡ true) × (o' n ≡ InGroup k)
  groups b k drafted free = by (which b)
    where
      no_free : (x : Owner) → inode_of b x ≡ Some a → x ≡ Free k → ⊥
      no_free x its e = none_some (sym (ap (inode_of b) e) ∙ its)

      neither : inode_of b (o b) ≡ Some a → inode_of b (o' b) ≡ Some a → (o b ≡ Free k) ⊎ (o' b ≡ Free k) → ⊥
      neither its its' (inl e) = no_free (o b) its e
      neither its its' (inr e) = no_free (o' b) its' e

      by_group : (c : Contains (taken ++ freed) b) → number_of (lies l.groups b) ≡ k → (n : ℕ) × (is_put fates n ≡ true) × (o' n ≡ InGroup k)
      by_group c same =
          let h = home_of b c in
          let w = group_written im o o' l fates ys gs framed h.group (home_in b c) in
          (w.0, w.1, w.2 ∙ ap InGroup (sym h.address ∙ same))

      of_header_not : (q : Rindex) → (o b ≡ InGroup q.address) × (o' b ≡ InGroup q.address) → (o b ≡ Free k) ⊎ (o' b ≡ Free k) → ⊥
      of_header_not q r (inl f) = not_group_free q.address k (sym r.0 ∙ f)
      of_header_not q r (inr f) = not_group_free q.address k (sym r.1 ∙ f)

      of_freed : inode_of b (o b) ≡ Some a → o' b ≡ Free (number_of (lies l.groups b)) → (o b ≡ Free k) ⊎ (o' b ≡ Free k) → number_of (lies l.groups b) ≡ k
      of_freed its r (inl f) = absurd (no_free (o b) its f)
      of_freed its r (inr f) = same_number (sym r ∙ f)

      of_taken : inode_of b (o' b) ≡ Some a → (c : Contains taken b) → (o b ≡ Free k) ⊎ (o' b ≡ Free k) → number_of (lies l.groups b) ≡ k
      of_taken its' c (inr f) = absurd (no_free (o' b) its' f)
      of_taken its' c (inl f) = let q = is.free b c in
          let row_b : o b ≡ Free q.group.address = said_free im o l here.stands.laid q.group q.listed b q.data_block q.free in
          one_home q.group q.listed q.data_block ∙ same_number (sym row_b ∙ f)
        where
          one_home : (q : Rindex) → IsListed l.groups q → IsDataOf q b → number_of (lies l.groups b) ≡ q.address
          one_home q listed own = let h = home_of b (taken_in b c) in h.address ∙ one_group im l.groups here.stands.laid.fit h.group q b h.listed listed h.own own

      by : Which b → (n : ℕ) × (is_put fates n ≡ true) × (o' n ≡ InGroup k)
      by (the_dinode same) = absurd (neither (subst (λ z. inode_of z (o z) ≡ Some a) (sym same) own_its) (subst (λ z. inode_of z (o' z) ≡ Some a) (sym same) own_its') free)
      by (pointed from j level first e apart) = elim (was_its b (part_some (g.cell b) _ e)) [
        | inl its ↦ absurd (neither its (pointed_its b from j level first e) free)
        | inr c ↦ by_group (taken_in b c) (of_taken (pointed_its b from j level first e) c free)
      ]
      by (freed_block none c) = by_group (freed_in b c) (of_freed (freed_its b c) (row_freed b none c) free)
      by (other_block none kept) = elim (outside b none kept) [
        | inl h ↦ absurd (of_header_not h.0 (header_row im o o' l fates ys gs framed h.0 h.1 b h.2) free)
        | inr left ↦ absurd (true≢false (sym drafted ∙ none_drafted fates b left))
      ]

  makes : apply call t ≡ record { reply = Ok; tree = put_at path (file (content_of g)) t } → MakesIn v call Ok fates im o l t
  makes answers = record {
    owners = o';
    tree = put_at path (file (content_of (holding im' o' a))) t;
    answers = subst (λ h. apply call t ≡ record { reply = Ok; tree = put_at path (file (content_of h)) t }) (sym held) answers;
    one = file_changed path a at changed;
    written = written;
    freed = freed_so;
    held = held_so;
    groups = groups;
  }

pub resizing_makes : ResizingMakes
resizing_makes v call fates im o l t path a g taken freed here at is exclusive answers = makes v call fates im o l t path a g taken freed here at is exclusive answers
