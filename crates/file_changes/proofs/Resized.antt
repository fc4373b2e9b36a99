-- A file that a draft makes of another one, which has taken and given back blocks, and then got a time: what it is in an image, over which
-- groups say so. The same for bytes that are written and for a file that is cut.
use Rattle.std.proofs.Common.{◌≡◌, ◌≢◌, ◌⊎◌, inl, inr, ℕ, ◌≤◌, Bool, true, false, true≢false, List, [], Option, None, Some, refl, sym, ap, ◌∙◌, subst}
use Rattle.std.proofs.lemmas.Bool.{cases_Bool, cases_eq}
use Rattle.std.specs.Cmp.{nat_cmp_total}
use Rattle.std.specs.Prelude.{Contains, IsSome, is_some, option_map, unwrap_or}
use Rattle.std.specs.List.{list_any, range_with_len}
use Rattle.std.specs.Ordering.{nat_cmp}
use Rattle.std.specs.FinMap.{FinMap, get, empty, insert, get-empty, nat_cmp-IsAntisymmetric}
use Rattle.finite_maps.proofs.Keys.{inserted_at, inserted_apart}
use Rattle.file_tree.specs.Apply.{file_limit}
use Rattle.file_tree.specs.Tree.{Tree}
use Rattle.drafts.specs.Fates.{AreWhole, block_with, seen_with}
use Rattle.drafts.specs.declared.fate.Fate.{Fate}
use Rattle.drafts.specs.declared.fate.Fate.TheVariants.{Put, Freed}
use Rattle.gfs2_layout.specs.Holding.{Cell, Holding, Itself, Part, Pointed, bytes_at, cell_bytes, cell_part, part_at}
use Rattle.gfs2_layout.specs.Inode.{content_of, dinode_in, head_of}
use Rattle.gfs2_layout.specs.declared.dinode.Dinode.{Dinode}
use Rattle.gfs2_layout.specs.declared.rindex.Rindex.{Rindex}
use Rattle.glock_names.specs.Views.{Seen, IsView, HasGroup, group_of_entry}
use Rattle.glock_names.specs.declared.LockName.{LockName}
use Rattle.dinode_tree.specs.Reading.{inode_lock}
use Rattle.dinode_tree.specs.Shown.{IsShown}
use Rattle.linear_dirs.specs.Shown.{bytes_over, holding_over}
use Rattle.linear_dirs.proofs.Over.{parts_stay}
use Rattle.linear_dirs.proofs.Rewritten.{over_there, over_put}
use Rattle.growth_drafts.specs.Taken.{DraftsFile, IsCounted}
use Rattle.growth_laws.specs.Laws.{FilesAreInodes}
use Rattle.new_inodes.specs.Touched.{IsTouched}
use Rattle.image_model.specs.Groups.{IsListed, IsHeaderOf}
use Rattle.image_model.specs.Image.{Image}
use Rattle.image_model.specs.Owners.{InGroup, Free, Owners, holding}
use Rattle.image_model.specs.Stands.{Layout}
use Rattle.image_model.proofs.Counts.{at_in}
use Rattle.image_model.proofs.Held.{block_same, none_some}
use Rattle.image_model.proofs.Members.{contained, is_in}
use Rattle.image_changes.specs.Changes.{inode_of}
use Rattle.image_changes.specs.Does.{IsOf, LiesInGroup}
use Rattle.image_changes.specs.Drafted.{is_put, with_draft}
use Rattle.image_changes.specs.Instances.{among, is_directory_at}
use Rattle.image_changes.proofs.Nodes.{among_in, in_among}
use Rattle.draft_changes.specs.Groups.{PutsGroup}
use Rattle.growth_drafts.proofs.Rooms.{none_in}
use Rattle.resource_groups.specs.Freeing as group
use Rattle.resource_groups.specs.Shown as shown
use Rattle.draft_changes.specs.Removing.{HasSome}
use Rattle.draft_changes.specs.Resizing.{HasExchangedBlocks, HasSomeOf, IsPutOf, IsPutOrKept, IsSaidFree, LeavesGroups, states_with}
use Rattle.draft_changes.proofs.Rows.{cell_its, header_among, said_free, same_group}
use Rattle.draft_changes.proofs.Views.{groups_are_listed, is_listed}
use Rattle.group_locks.proofs.Listed.{any_range, range_any}
use Rattle.group_locks.proofs.Lying.{data_lies, header_lies}
use Rattle.file_changes.specs.Drafting.{GetsTime}
use Rattle.file_changes.specs.Making.{MakesFile}
use Rattle.file_changes.proofs.Standing.{own_inside}

-- ---- what becomes of a block

pub put_at : (fates : FinMap nat_cmp Fate) (b : ℕ) (fate : Fate) → get (insert fates b fate) b ≡ Some fate
put_at fates b fate = inserted_at nat_cmp_total nat_cmp-IsAntisymmetric fates b fate

pub put_apart : (fates : FinMap nat_cmp Fate) (b c : ℕ) (fate : Fate) → c ≢ b → get (insert fates b fate) c ≡ get fates c
put_apart fates b c fate other = inserted_apart nat_cmp_total nat_cmp-IsAntisymmetric fates b fate c other

-- ---- the two drafts

-- In an image a first draft, over an empty one, makes of the file in block a this sound one, which takes blocks that are said free and gives
-- some back; then its dinode gets the time.
pub record IsResized (v : Seen) (im : Image) (o : Owners) (l : Layout) (a : ℕ) (g : Holding) (taken freed : List ℕ) (time : ℕ) (first second : FinMap nat_cmp Fate) : Type 0 where
  pub is_file : is_directory_at im o a ≡ false
  pub shown : IsShown (seen_with v first) a g
  pub sound : IsCounted g
  pub count : g.count ≡ im.count
  pub itself : (b : ℕ) → part_at g b ≡ Some Itself → b ≡ a
  pub head : head_of g ≡ head_of (holding im o a)
  pub short : (dinode_in g).size ≤ file_limit
  pub drafted : DraftsFile empty first (holding im o a) g freed
  pub blocks : HasExchangedBlocks (holding im o a) g taken freed
  pub free : (b : ℕ) → Contains taken b → IsSaidFree im l b
  pub timed : GetsTime v first a time second

-- over that draft the freed blocks are freed, the groups say what is taken and freed, and nothing else becomes of a block
pub record IsSaidOver (im : Image) (o : Owners) (l : Layout) (taken freed : List ℕ) (second last : FinMap nat_cmp Fate) : Type 0 where
  pub whole : AreWhole im.size last
  pub frees : (b : ℕ) → Contains freed b → get last b ≡ Some Freed
  pub states : (k : Rindex) → IsListed l.groups k → HasSomeOf k taken freed → PutsGroup im last k (states_with o taken freed k)
  pub rest : (b : ℕ) → ¬ (Contains freed b) → ((k : Rindex) → IsListed l.groups k → HasSomeOf k taken freed → ¬ (IsHeaderOf k b)) → get last b ≡ get second b

-- ---- small steps

itself_no_content : (p : Option Part) (x k first : ℕ) → p ≡ Some Itself → p ≡ Some (Pointed x k 0 first) → ⊥
itself_no_content p x k first e f = cc

over_none : (o : Option (List ℕ)) (c : Option Cell) → o ≡ None → cell_bytes (option_map (bytes_over o) c) ≡ cell_bytes c
over_none o None e = refl
over_none None (Some c) e = refl
over_none (Some bytes) (Some c) e = cc

pub has_part : (c : Option Cell) → IsSome c → (p : Part) × (cell_part c ≡ Some p)
has_part None some = absurd (true≢false (sym some))
has_part (Some c) some = (c.part, refl)

bytes_there : (im : Image) (o : Owners) (a b : ℕ) → IsSome ((holding im o a).cell b) → bytes_at (holding im o a) b ≡ im.at b
bytes_there im o a b some = let p = has_part ((holding im o a).cell b) some in block_same im o a b p.0 p.1

in_group_no_inode : (g b a : ℕ) → inode_of b (InGroup g) ≡ Some a → ⊥
in_group_no_inode g b a e = none_some e

group_not_free : (x y : ℕ) → InGroup x ≡ Free y → ⊥
group_not_free x y e = cc

pub no_put : (lock : LockName) (plain : Bool) (bytes : List ℕ) → Some Freed ≡ Some (Put lock plain bytes) → ⊥
no_put lock plain bytes e = cc

same_lock : (x y : LockName) (p q : Bool) (m n : List ℕ) → Some (Put x p m) ≡ Some (Put y q n) → x ≡ y
same_lock x y p q m n e = cc

-- some of these blocks are the group's, or none
some_or_none : (k : Rindex) (xs : List ℕ) → HasSome k xs ⊎ ¬ (HasSome k xs)
some_or_none k xs = elim (cases_Bool (list_any (among xs) (range_with_len k.data0 k.data_blocks))) [
  | inl e ↦ let f = any_range (among xs) k.data0 k.data_blocks e in inl (f.0, contained f.0 xs (among_in xs f.0 f.3), record { low = f.1; high = f.2 })
  | inr e ↦ inr (λ some. true≢false (sym (range_any (among xs) k.data0 k.data_blocks some.0 some.2.low some.2.high (in_among xs some.0 (is_in some.0 xs some.1))) ∙ e))
]

some_of_or_none : (k : Rindex) (taken freed : List ℕ) → HasSomeOf k taken freed ⊎ ¬ (HasSomeOf k taken freed)
some_of_or_none k taken freed = elim (some_or_none k taken) [
  | inl some ↦ inl (inl some)
  | inr none ↦ elim (some_or_none k freed) [
    | inl some ↦ inl (inr some)
    | inr neither ↦ inr (λ e. elim e [ inl some ↦ none some | inr some ↦ neither some ])
  ]
]

pub no_group : (k : Rindex) → HasSome k [] → ⊥
no_group k some = none_in some.0 some.1

-- what the view says of a group is so of the listed one
pub some_listed : (k : Rindex) (xs : List ℕ) → group.HasSome (group_of_entry k) xs → HasSome k xs
some_listed k xs some = (some.0, some.1, record { low = some.2.low; high = some.2.high })

pub header_listed : (k : Rindex) (b : ℕ) → shown.IsHeaderOf (group_of_entry k) b → IsHeaderOf k b
header_listed k b head = record { low = head.low; high = head.high }

-- a block is one of these, or isn't
pub among_or_not : (xs : List ℕ) (b : ℕ) → Contains xs b ⊎ ¬ (Contains xs b)
among_or_not xs b = elim (cases_Bool (among xs b)) [
  | inl e ↦ inl (contained b xs (among_in xs b e))
  | inr e ↦ inr (λ c. true≢false (sym (in_among xs b (is_in b xs c)) ∙ e))
]

-- ---- the file in the image

module _ (v : Seen) (im : Image) (o : Owners) (l : Layout) (t : Tree) (of : IsOf v im o l t) (inodes : FilesAreInodes) (a : ℕ) (g : Holding) (taken freed : List ℕ) (time : ℕ) (first second : FinMap nat_cmp Fate)
    (is : IsResized v im o l a g taken freed time first second) where
  -- the file with its time
  abbrev after : Holding
  after = holding_over (seen_with v second) g

  second_at : get second a ≡ Some (Put (inode_lock a) false is.timed.bytes)
  second_at = ap (λ (m : FinMap nat_cmp Fate). get m a) is.timed.put ∙ put_at first a (Put (inode_lock a) false is.timed.bytes)

  second_apart : (b : ℕ) → b ≢ a → get second b ≡ get first b
  second_apart b other = ap (λ (m : FinMap nat_cmp Fate). get m b) is.timed.put ∙ put_apart first a b (Put (inode_lock a) false is.timed.bytes) other

  own_there : IsSome (g.cell a)
  own_there = subst (λ b. IsSome (g.cell b)) is.shown.own is.shown.dinode

  own_kept : ¬ (Contains freed a)
  own_kept = ((is.blocks.has a).0 own_there).1

  -- a header or a bitmap of a group isn't the file's, wasn't, and isn't taken
  no_old_header : (k : Rindex) (b : ℕ) → IsListed l.groups k → IsHeaderOf k b → IsSome ((holding im o a).cell b) → ⊥
  no_old_header k b listed head some = in_group_no_inode k.address b a (sym (ap (inode_of b) (of.stands.laid.zoned.headers k listed b head)) ∙ cell_its im o a b some)

  no_taken_header : (k : Rindex) (b : ℕ) → IsListed l.groups k → IsHeaderOf k b → ¬ (Contains taken b)
  no_taken_header k b listed head c =
      let f = is.free b c in
      group_not_free k.address f.group.address (sym (of.stands.laid.zoned.headers k listed b head) ∙ said_free im o l of.stands.laid f.group f.listed b f.data_block f.free)

  no_freed_header : (k : Rindex) (b : ℕ) → IsListed l.groups k → IsHeaderOf k b → ¬ (Contains freed b)
  no_freed_header k b listed head c = no_old_header k b listed head (is.blocks.were b c)

  no_header : (k : Rindex) (b : ℕ) → IsListed l.groups k → IsHeaderOf k b → IsSome (g.cell b) → ⊥
  no_header k b listed head some = elim ((is.blocks.has b).0 some).0 [
    | inl old ↦ no_old_header k b listed head old
    | inr new ↦ no_taken_header k b listed head new
  ]

  -- what becomes of a block that is neither the file's nor freed
  second_none : (b : ℕ) → ¬ (IsSome (g.cell b)) → ¬ (Contains freed b) → get second b ≡ None
  second_none b none kept =
      second_apart b (λ e. none (subst (λ c. IsSome (g.cell c)) (sym e) own_there)) ∙ is.drafted.others b none kept ∙ get-empty nat_cmp b

  pub leaves_groups : LeavesGroups l second
  leaves_groups k b listed head = second_none b (no_header k b listed head) (no_freed_header k b listed head)

  -- a block of the file is put under its lock, or left
  pub put_or_left : (b : ℕ) → IsSome (g.cell b) → IsPutOf second after b ⊎ (IsSome ((holding im o a).cell b) × (get second b ≡ None) × (bytes_at g b ≡ im.at b))
  put_or_left b some = elim (cases_eq b a) [
    | inl own ↦ inl (record {
      plain = false;
      bytes = is.timed.bytes;
      fate = ap (get second) own ∙ second_at ∙ ap (λ x. Some (Put (inode_lock x) false is.timed.bytes)) (sym is.shown.own);
      content = (λ never. absurd (true≢false (sym never)), λ content. absurd (itself_no_content (part_at after b) content.0 content.1 content.2 (parts_stay (seen_with v second) g b ∙ ap (part_at g) own ∙ own_part) content.3));
    })
    | inr other ↦ elim (is.drafted.own b some) [
      | inl left ↦ inr (left.had, second_apart b other ∙ left.fate ∙ get-empty nat_cmp b, left.bytes ∙ bytes_there im o a b left.had)
      | inr put ↦ inl (record {
        plain = put.plain;
        bytes = bytes_at g b;
        fate = second_apart b other ∙ put.fate;
        content = (λ plain. let c = put.content.0 plain in (c.0, c.1, c.2, parts_stay (seen_with v second) g b ∙ c.3), λ c. put.content.1 (c.0, c.1, c.2, sym (parts_stay (seen_with v second) g b) ∙ c.3));
      })
    ]
  ]
    where
      own_part : part_at g a ≡ Some Itself
      own_part = subst (λ b. part_at g b ≡ Some Itself) is.shown.own is.sound.file.own

  -- ---- and over that the groups

  module _ (last : FinMap nat_cmp Fate) (said : IsSaidOver im o l taken freed second last) where
    last_same : (b : ℕ) → IsSome (g.cell b) → get last b ≡ get second b
    last_same b some = said.rest b ((is.blocks.has b).0 some).1 (λ k listed any head. no_header k b listed head some)

    puts : (b : ℕ) → IsSome (g.cell b) → IsPutOrKept last (holding im o a) after b
    puts b some = elim (put_or_left b some) [
      | inl put ↦ inl (record { plain = put.plain; bytes = put.bytes; fate = last_same b some ∙ put.fate; content = put.content })
      | inr left ↦ inr (left.0, last_same b some ∙ left.1)
    ]

    after_there : (b : ℕ) → IsSome (after.cell b) → IsSome (g.cell b)
    after_there b some = sym (over_there ((seen_with v second).block_at b) (g.cell b)) ∙ some

    there_after : (b : ℕ) → IsSome (g.cell b) → IsSome (after.cell b)
    there_after b some = over_there ((seen_with v second).block_at b) (g.cell b) ∙ some

    -- the bytes of the file are those of the image with the draft
    bytes_after : (b : ℕ) → IsSome (g.cell b) → bytes_at after b ≡ (with_draft im last).at b
    bytes_after b some = elim (put_or_left b some) [
      | inl put ↦
          over_put ((seen_with v second).block_at b) (g.cell b) put.bytes some (ap (λ f. block_with f (v.block_at b)) put.fate)
          ∙ sym (ap (λ f. unwrap_or (block_with f None) (im.at b)) (last_same b some ∙ put.fate))
      | inr left ↦ seen_or_not (v.block_at b) refl left.1 left.2 ∙ sym (ap (λ f. unwrap_or (block_with f None) (im.at b)) (last_same b some ∙ left.1))
    ]
      where
        seen_or_not : (s : Option (List ℕ)) → v.block_at b ≡ s → get second b ≡ None → bytes_at g b ≡ im.at b → bytes_at after b ≡ im.at b
        seen_or_not (Some bytes) e none same =
            over_put ((seen_with v second).block_at b) (g.cell b) bytes some (ap (λ f. block_with f (v.block_at b)) none ∙ e) ∙ sym (of.agrees b bytes e)
        seen_or_not None e none same = over_none ((seen_with v second).block_at b) (g.cell b) (ap (λ f. block_with f (v.block_at b)) none ∙ e) ∙ same

    touched : IsTouched g after time
    touched = is.timed.touched g is.shown

    own_itself : part_at g g.own ≡ Some Itself
    own_itself = is.sound.file.own

    -- what is put is the file's, or the header or the bitmap of a group that has some of the blocks
    put_where : (b : ℕ) (lock : LockName) (plain : Bool) (bytes : List ℕ) → get last b ≡ Some (Put lock plain bytes)
        → (IsSome (g.cell b) × (get last b ≡ get second b)) ⊎ ((k : Rindex) × IsListed l.groups k × HasSomeOf k taken freed × IsHeaderOf k b)
    put_where b lock plain bytes e = elim (among_or_not freed b) [
      | inl gone ↦ absurd (no_put lock plain bytes (sym (said.frees b gone) ∙ e))
      | inr kept ↦ elim (header_among l.groups b) [
        | inl h ↦ of_header kept h.0 (is_listed h.0 l.groups h.1) h.2
        | inr none ↦ inl (of_second kept (said.rest b kept (λ k listed any head. none k (at_in k l.groups listed.0 listed.1) head)))
      ]
    ]
      where
        of_second : ¬ (Contains freed b) → get last b ≡ get second b → IsSome (g.cell b) × (get last b ≡ get second b)
        of_second kept same = elim (cases_Bool (is_some (g.cell b))) [
          | inr none ↦ absurd (none_some (sym (second_none b (λ some. true≢false (sym some ∙ none)) kept) ∙ sym same ∙ e))
          | inl some ↦ (some, same)
        ]

        same_number : (x y : ℕ) → InGroup x ≡ InGroup y → x ≡ y
        same_number x y e = cc

        one_group_at : (k j : Rindex) → IsListed l.groups k → IsListed l.groups j → IsHeaderOf k b → IsHeaderOf j b → k ≡ j
        one_group_at k j listed other head at =
            same_group im l.groups of.stands.laid.fit k j listed other (same_number k.address j.address (sym (of.stands.laid.zoned.headers k listed b head) ∙ of.stands.laid.zoned.headers j other b at))

        of_header : ¬ (Contains freed b) → (k : Rindex) → IsListed l.groups k → IsHeaderOf k b
            → (IsSome (g.cell b) × (get last b ≡ get second b)) ⊎ ((k : Rindex) × IsListed l.groups k × HasSomeOf k taken freed × IsHeaderOf k b)
        of_header kept k listed head = elim (some_of_or_none k taken freed) [
          | inl any ↦ inr (k, listed, any, head)
          | inr none ↦ inl (of_second kept (said.rest b kept (λ j other any at. none (subst (λ x. HasSomeOf x taken freed) (sym (one_group_at k j listed other head at)) any))))
        ]

    -- its lock
    under : (b : ℕ) (lock : LockName) (plain : Bool) (bytes : List ℕ) → get last b ≡ Some (Put lock plain bytes)
        → (lock ≡ inode_lock a) ⊎ ((k : Rindex) × IsListed l.groups k × HasSomeOf k taken freed × (lock ≡ record { kind = 3; number = k.address }))
    under b lock plain bytes e = elim (put_where b lock plain bytes e) [
      | inl own ↦ elim (put_or_left b own.0) [
        | inl put ↦ inl (same_lock lock (inode_lock after.own) plain put.plain bytes put.bytes (sym e ∙ own.1 ∙ put.fate) ∙ ap inode_lock is.shown.own)
        | inr left ↦ absurd (none_some (sym left.1 ∙ sym own.1 ∙ e))
      ]
      | inr head ↦ elim ((said.states head.0 head.1 head.2).blocks b head.3) [
        | inl none ↦ absurd (none_some (sym none ∙ e))
        | inr put ↦ inr (head.0, head.1, head.2, same_lock lock (record { kind = 3; number = head.0.address }) plain false bytes put.0 (sym e ∙ put.1))
      ]
    ]

    -- and it lies in a group of the view
    pub lies_inside : IsView v → (b : ℕ) (lock : LockName) (plain : Bool) (bytes : List ℕ) → get last b ≡ Some (Put lock plain bytes) → LiesInGroup v b
    lies_inside view b lock plain bytes e = elim (put_where b lock plain bytes e) [
      | inl own ↦ data_lies v b view (elim ((is.blocks.has b).0 own.0).0 [
        | inl old ↦ own_inside v im o l t of a b old
        | inr new ↦ let f = is.free b new in (group_of_entry f.group, has_group f.group f.listed, record { low = f.data_block.low; high = f.data_block.high })
      ])
      | inr head ↦ header_lies v (group_of_entry head.0) b view (has_group head.0 head.1) (record { low = head.3.low; high = head.3.high })
    ]
      where
        has_group : (k : Rindex) → IsListed l.groups k → HasGroup v (group_of_entry k)
        has_group k listed = (groups_are_listed v im o l t (group_of_entry k) of).1 (k, listed, refl)

    pub makes_file : MakesFile im o l last a (content_of g) time taken freed
    makes_file = record {
      g = after;
      resizes = record {
        whole = said.whole;
        is_file = is.is_file;
        there = record {
          size = is.shown.size ∙ sym of.size;
          count = is.count;
          own = is.shown.own;
          itself = λ b. (
            (λ part. is.itself b (sym (parts_stay (seen_with v second) g b) ∙ part)),
            (λ own. parts_stay (seen_with v second) g b ∙ ap (part_at g) (own ∙ sym is.shown.own) ∙ own_itself),
          );
          bytes = λ b some. bytes_after b (after_there b some);
        };
        rewritten = record {
          sound = touched.sound own_itself (inodes g is.sound.file is.sound.blocks);
          head = touched.head ∙ is.head;
          short = subst (λ n. n ≤ file_limit) (sym (ap (λ (d : Dinode). d.size) touched.dinode)) is.short;
        };
        blocks = record {
          were = is.blocks.were;
          has = λ b. ((λ some. (is.blocks.has b).0 (after_there b some)), (λ has. there_after b ((is.blocks.has b).1 has)));
        };
        free = is.free;
        puts = λ b some. puts b (after_there b some);
        frees = said.frees;
        dinode = λ b gone. dinode_put;
        states = said.states;
        others = λ b none kept away. said.rest b kept away ∙ second_none b (λ some. none (there_after b some)) kept;
      };
      content = touched.content own_itself (inodes g is.sound.file is.sound.blocks);
      times = (ap (λ (d : Dinode). d.mtime) touched.dinode, ap (λ (d : Dinode). d.ctime) touched.dinode);
      under = under;
      put = dinode_put;
    }
      where
        dinode_put : is_put last a ≡ true
        dinode_put = ap (λ f. is_some (block_with f None)) (last_same a own_there ∙ second_at)
