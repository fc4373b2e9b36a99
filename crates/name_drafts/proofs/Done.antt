-- What was done over a view by a draft that makes a name, and what became of each block. `named` is the draft with the directory, `third` that with the
-- new inode, and `said.fates` that with the groups.
use Rattle.std.proofs.Common.{◌≡◌, ◌≢◌, ◌⊎◌, inl, inr, Bool, false, ℕ, ◌+◌, ◌-◌, ◌<◌, List, [], ◌∷◌, None, Some, refl, sym, ap, ◌∙◌, subst, arith}
use Rattle.std.proofs.lemmas.Bool.{cases_eq, cases_lt}
use Rattle.std.proofs.lemmas.List.Elements.{Contains-append_left, Contains-append_right, Contains-append_cases}
use Rattle.std.specs.Prelude.{Contains}
use Rattle.std.specs.Ordering.{nat_cmp}
use Rattle.std.specs.FinMap.{FinMap, get, insert}
use Rattle.drafts.specs.Fates.{seen_with}
use Rattle.drafts.specs.declared.change.Change.{Change}
use Rattle.drafts.specs.declared.fate.Fate.{Fate}
use Rattle.drafts.specs.declared.fate.Fate.TheVariants.{Put}
use Rattle.gfs2_layout.specs.Groups.{group_header, uncounted}
use Rattle.gfs2_layout.specs.Holding.{alone}
use Rattle.gfs2_layout.specs.Structures.{dinode_of}
use Rattle.gfs2_layout.specs.declared.dinode.Dinode.{Dinode}
use Rattle.glock_names.specs.Views.{Seen, HasGroup, IsView}
use Rattle.glock_names.specs.declared.LockName.{LockName}
use Rattle.glock_names.specs.declared.steps.Entry.{Entry}
use Rattle.glock_names.specs.declared.views.Group.{Group}
use Rattle.dinode_tree.specs.Reading.{inode_lock}
use Rattle.resource_groups.specs.Freeing.{HasSome, SaysStateOfSome}
use Rattle.resource_groups.specs.Putting.{ArePutIn, HasDataBlock, SaysStateOf, overlaid, seen_or}
use Rattle.resource_groups.specs.Shown.{IsDataOf, IsHeaderOf, first_place, group_lock}
use Rattle.resource_groups.specs.Shown as group
use Rattle.resource_groups.proofs.Fits.{fit_of}
use Rattle.resource_groups.proofs.PutIn.{blocks_same, cases_data, not_data}
use Rattle.resource_groups.proofs.Sets.{only_has}
use Rattle.image_model.proofs.Held.{none_some}
use Rattle.image_model.proofs.Members.{IsIn, contained, is_in}
use Rattle.image_changes.specs.Does.{AreInside, LiesInGroup}
use Rattle.image_changes.specs.Drafted.{is_freed, is_gone}
use Rattle.image_changes.proofs.Inside.{stay_inside}
use Rattle.path_walks.proofs.Lying.{data_lies, header_lies}
use Rattle.path_walks.specs.declared.walk.Place.{Place}
use Rattle.name_inserts.specs.HashInserting.{MayChange, a_data_block, a_taken_one, the_dinode}
use Rattle.name_drafts.specs.Drafting.{CountsNumber, HasTimes, IsNewOf, IsPutUnder, PutsUnder, entry_for, header_in, of_directory, of_group, of_inode}
use Rattle.name_drafts.specs.Steps.{IsNamePut, IsSaidAndDone, LeavesGroups}
use Rattle.name_drafts.specs.declared.drafting.NewBlock.{NewBlock}
use Rattle.name_drafts.proofs.Fates.{lock_put, put_elsewhere, put_seen, put_there}
use Rattle.name_drafts.proofs.Faults.{data_apart, header_same}

-- what was done over a view
pub record AreDone (v : Seen) (is_directory : Bool) (p : Place) (name : List ℕ) (r : NewBlock) (room : List ℕ) (time : ℕ) (change : Change) : Type 0 where
  pub taken : List ℕ
  pub number : ℕ
  pub second : FinMap nat_cmp Fate
  pub named : IsNamePut v p.inode name (entry_for is_directory number r.block) time room taken second
  pub third : FinMap nat_cmp Fate
  pub bytes : List ℕ
  pub put : third ≡ insert second r.block (Put (inode_lock r.block) false bytes)
  pub new : (count : ℕ) → r.block < count → IsNewOf is_directory p number r.block time (alone v.size count r.block bytes)
  pub said : IsSaidAndDone v third r taken change
  pub same : said.number ≡ number

-- ---- blocks of groups

-- the block is a header or bitmap block of one of these groups, or of none
header_among : (gs : List Group) (b : ℕ) → ((g : Group) × IsIn g gs × IsHeaderOf g b) ⊎ ((g : Group) → IsIn g gs → ¬ (IsHeaderOf g b))
header_among [] b = inr (λ g there. elim there [ ])
header_among (k ∷ gs) b = elim (header_this k b) [
  | inl own ↦ inl (k, inl refl, own)
  | inr away ↦ elim (header_among gs b) [
    | inl found ↦ inl (found.0, inr found.1, found.2)
    | inr none ↦ inr (λ g there own. elim there [ inl e ↦ away (subst (λ x. IsHeaderOf x b) e own) | inr later ↦ none g later own ])
  ]
]
  where
    header_this : (g : Group) (b : ℕ) → IsHeaderOf g b ⊎ ¬ (IsHeaderOf g b)
    header_this g b = elim (cases_lt b g.addr) [
      | inl under ↦ inr (λ own. absurd (omega (arith, under, own.low)))
      | inr over ↦ elim (cases_lt b (g.addr + g.length)) [
        | inl less ↦ inl (record { low = over; high = less })
        | inr more ↦ inr (λ own. absurd (omega (arith, more, own.high)))
      ]
    ]

-- the block has the header or the bits of some of these blocks, or of none
says_or_not : (size : ℕ) (g : Group) (blocks : List ℕ) (c : ℕ) → SaysStateOfSome size g blocks c ⊎ ¬ (SaysStateOfSome size g blocks c)
says_or_not size g [] c = inr (λ says. absurd (omega (arith, says.1.1)))
says_or_not size g (b ∷ blocks) c = elim (says_or_not size g blocks c) [
  | inl later ↦ inl (later.0, Contains-append_right (b ∷ []) blocks later.0 later.1, later.2, later.3)
  | inr none ↦ elim (cases_data g b) [
    | inl own ↦ elim (says_this b) [
      | inl says ↦ inl (b, (0, omega arith, refl), own, says)
      | inr silent ↦ inr (λ says. elim (Contains-append_cases (b ∷ []) blocks says.0 says.1) [
        | inl here ↦ silent (subst (λ x. SaysStateOf size g x c) (only_has b says.0 here) says.3)
        | inr later ↦ none (says.0, later, says.2, says.3)
      ])
    ]
    | inr out ↦ inr (λ says. elim (Contains-append_cases (b ∷ []) blocks says.0 says.1) [
      | inl here ↦ not_data g b out (subst (IsDataOf g) (only_has b says.0 here) says.2)
      | inr later ↦ none (says.0, later, says.2, says.3)
    ])
  ]
]
  where
    says_this : (x : ℕ) → SaysStateOf size g x c ⊎ ¬ (SaysStateOf size g x c)
    says_this x = elim (cases_eq c g.addr) [
      | inl same ↦ inl (inl same)
      | inr apart ↦ elim (cases_lt (x - g.first) (first_place size (c - g.addr))) [
        | inl under ↦ inr (λ says. elim says [ inl e ↦ apart e | inr bits ↦ absurd (omega (arith, under, bits.low)) ])
        | inr over ↦ elim (cases_lt (x - g.first) (first_place size (c - g.addr + 1))) [
          | inl less ↦ inl (inr (record { low = over; high = less }))
          | inr more ↦ inr (λ says. elim says [ inl e ↦ apart e | inr bits ↦ absurd (omega (arith, more, bits.high)) ])
        ]
      ]
    ]

-- states that are put leave what a header says, its counts apart
puts_keep : (at at' : ℕ → List ℕ) (g : Group) (blocks : List ℕ) (state : ℕ) → ArePutIn at at' g blocks state → uncounted (header_in at' g) ≡ uncounted (header_in at g)
puts_keep at at' g [] state same = ap (λ blocks. uncounted (group_header blocks)) (blocks_same at at' g same)
puts_keep at at' g (b ∷ blocks) state (next, put, more) = puts_keep next at' g blocks state more ∙ elim (cases_data g b) [
  | inl own ↦ (put.own own).put.others
  | inr out ↦ ap (λ blocks. uncounted (group_header blocks)) (blocks_same at next g (put.other (not_data g b out)))
]

-- ---- no block of a group is put before

module _ (v : Seen) (shows : IsView v) (dir : ℕ) (name : List ℕ) (e : Entry) (time : ℕ) (room taken : List ℕ) (fates : FinMap nat_cmp Fate) (named : IsNamePut v dir name e time room taken fates)
    (inside : HasDataBlock v dir) (rooms : (b : ℕ) → Contains room b → HasDataBlock v b) where
  pub taken_inside : (b : ℕ) → Contains taken b → HasDataBlock v b
  taken_inside b there = rooms b (subst (λ xs. Contains xs b) (sym named.front) (Contains-append_left taken named.left b there))

  may_inside : (b : ℕ) → MayChange v dir taken b → HasDataBlock v b
  may_inside b (the_dinode here) = subst (HasDataBlock v) (sym here) inside
  may_inside b (a_taken_one there) = taken_inside b there
  may_inside b (a_data_block data_block) = data_block

  -- what becomes of a block: nothing, or it is a data block
  pub first_inside : (b : ℕ) → (get named.first b ≡ None) ⊎ HasDataBlock v b
  first_inside b = elim (named.changes b) [ inl none ↦ inl none | inr put ↦ inr (may_inside b put.0) ]

  pub second_apart : (b : ℕ) → b ≢ dir → get fates b ≡ get named.first b
  second_apart b other = ap (λ (m : FinMap nat_cmp Fate). get m b) named.put ∙ put_elsewhere named.first dir (Put (inode_lock dir) false named.final) b other

  pub second_here : get fates dir ≡ Some (Put (inode_lock dir) false named.final)
  second_here = ap (λ (m : FinMap nat_cmp Fate). get m dir) named.put ∙ put_there named.first dir (Put (inode_lock dir) false named.final)

  pub first_leaves : LeavesGroups v named.first
  first_leaves g c has own = elim (first_inside c) [
    | inl none ↦ none
    | inr data_block ↦ absurd (data_apart v g c c shows has data_block own refl)
  ]

  -- nor when the new inode is put
  pub third_leaves : (a : ℕ) (bytes : List ℕ) (third : FinMap nat_cmp Fate) → third ≡ insert fates a (Put (inode_lock a) false bytes) → HasDataBlock v a → LeavesGroups v third
  third_leaves a bytes third put block g c has own =
      ap (λ (m : FinMap nat_cmp Fate). get m c) put ∙ put_elsewhere fates a (Put (inode_lock a) false bytes) c (data_apart v g a c shows has block own)
      ∙ second_apart c (data_apart v g dir c shows has inside own) ∙ first_leaves g c has own

-- ---- what becomes of each block

module _ (v : Seen) (is_directory : Bool) (p : Place) (name : List ℕ) (r : NewBlock) (room : List ℕ) (time : ℕ) (change : Change) (is : AreDone v is_directory p name r room time change)
    (shows : IsView v) (has : HasGroup v r.group) (block : IsDataOf r.group r.block) (inside : HasDataBlock v p.inode) (rooms : (b : ℕ) → Contains room b → HasDataBlock v b)
    (apart : ¬ (Contains (r.block ∷ room) p.inode)) where
  abbrev entry : Entry
  entry = entry_for is_directory is.number r.block

  abbrev pub last : FinMap nat_cmp Fate
  last = is.said.fates

  pub new_data : HasDataBlock v r.block
  new_data = (r.group, has, block)

  pub of_taken : (b : ℕ) → Contains is.taken b → HasDataBlock v b
  of_taken = taken_inside v shows p.inode name entry time room is.taken is.second is.named inside rooms

  pub other : p.inode ≢ r.block
  other same = apart (0, omega arith, sym same)

  -- a data block is as it was before the groups were told
  pub data_stays : (b : ℕ) → HasDataBlock v b → get last b ≡ get is.third b
  data_stays b data_block = is.said.others b (λ g there some own. data_apart v g b b shows there data_block own refl)

  pub third_apart : (b : ℕ) → b ≢ r.block → get is.third b ≡ get is.second b
  third_apart b away = ap (λ (m : FinMap nat_cmp Fate). get m b) is.put ∙ put_elsewhere is.second r.block (Put (inode_lock r.block) false is.bytes) b away

  pub second_away : (b : ℕ) → b ≢ p.inode → get is.second b ≡ get is.named.first b
  second_away = second_apart v shows p.inode name entry time room is.taken is.second is.named inside rooms

  pub new_put : get last r.block ≡ Some (Put (inode_lock r.block) false is.bytes)
  new_put = data_stays r.block new_data ∙ ap (λ (m : FinMap nat_cmp Fate). get m r.block) is.put ∙ put_there is.second r.block (Put (inode_lock r.block) false is.bytes)

  pub parent_put : get last p.inode ≡ Some (Put (inode_lock p.inode) false is.named.final)
  parent_put = data_stays p.inode inside ∙ third_apart p.inode other ∙ second_here v shows p.inode name entry time room is.taken is.second is.named inside rooms

  -- of a block that is no header the draft makes what it did as the name was put
  pub as_named : (b : ℕ) → b ≢ p.inode → b ≢ r.block → ((g : Group) → HasGroup v g → HasSome g (r.block ∷ is.taken) → ¬ (IsHeaderOf g b)) → get last b ≡ get is.named.first b
  as_named b away new_away far = is.said.others b far ∙ third_apart b new_away ∙ second_away b away

  -- ---- inside the view's groups

  header_or_not : (b : ℕ) → ((g : Group) × HasGroup v g × IsHeaderOf g b) ⊎ ((g : Group) → HasGroup v g → ¬ (IsHeaderOf g b))
  header_or_not b = elim (header_among v.groups b) [
    | inl found ↦ inl (found.0, contained found.0 v.groups found.1, found.2)
    | inr none ↦ inr (λ g there own. none g (is_in g v.groups there) own)
  ]

  in_groups : (b : ℕ) (lock : LockName) (plain : Bool) (bytes : List ℕ) → get last b ≡ Some (Put lock plain bytes) → LiesInGroup v b
  in_groups b lock plain bytes put = elim (header_or_not b) [
    | inl header ↦ header_lies v header.0 b shows header.1 header.2
    | inr none ↦ elim (cases_eq b r.block) [
      | inl same ↦ subst (LiesInGroup v) (sym same) (data_lies v r.block shows new_data)
      | inr new_away ↦ elim (cases_eq b p.inode) [
        | inl same ↦ subst (LiesInGroup v) (sym same) (data_lies v p.inode shows inside)
        | inr away ↦ elim (first_inside v shows p.inode name entry time room is.taken is.second is.named inside rooms b) [
          | inl never ↦ absurd (none_some (sym (as_named b away new_away (λ g there some. none g there) ∙ never) ∙ put))
          | inr data_block ↦ data_lies v b shows data_block
        ]
      ]
    ]
  ]

  pub insides : AreInside v change
  insides = stay_inside v last change is.said.finished is.said.whole in_groups

  -- ---- under these locks

  -- what becomes of a block: nothing, or it is put under one of the locks
  abbrev IsPutSo : ℕ → Type 0
  IsPutSo b = (lock : LockName) × (bytes : List ℕ) × (get last b ≡ Some (Put lock false bytes)) × IsPutUnder v p r is.taken b lock

  what : (b : ℕ) → (get last b ≡ None) ⊎ IsPutSo b
  what b = elim (header_or_not b) [
    | inl header ↦ elim (says_or_not v.size header.0 (r.block ∷ is.taken) b) [
      | inl says ↦ elim (is.said.headers header.0 b header.1 header.2) [
        | inl none ↦ inl none
        | inr put ↦ inr (group_lock header.0, put.0, put.1, of_group header.0 header.1 (says.0, says.1, says.2) says refl)
      ]
      | inr silent ↦ inl (is.said.only header.0 b header.1 header.2 silent)
    ]
    | inr none ↦ elim (cases_eq b r.block) [
      | inl same ↦ inr (inode_lock r.block, is.bytes, ap (get last) same ∙ new_put, of_inode same refl)
      | inr new_away ↦ elim (cases_eq b p.inode) [
        | inl same ↦ inr (inode_lock p.inode, is.named.final, ap (get last) same ∙ parent_put, of_directory (inl same) refl)
        | inr away ↦
            let stays = as_named b away new_away (λ g there some. none g there) in
            elim (is.named.changes b) [
              | inl never ↦ inl (stays ∙ never)
              | inr put ↦ inr (inode_lock p.inode, put.1.0, stays ∙ put.1.1, of_directory (may b put.0) refl)
            ]
      ]
    ]
  ]
    where
      may : (b : ℕ) → MayChange v p.inode is.taken b → (b ≡ p.inode) ⊎ (Contains is.taken b ⊎ HasDataBlock v b)
      may b (the_dinode here) = inl here
      may b (a_taken_one there) = inr (inl there)
      may b (a_data_block data_block) = inr (inr data_block)

  pub locks : PutsUnder v last p r is.taken
  locks b lock plain bytes put = elim (what b) [
    | inl none ↦ absurd (none_some (sym none ∙ put))
    | inr so ↦ subst (IsPutUnder v p r is.taken b) (lock_put so.0 lock false plain so.1 bytes (sym so.2 ∙ put)) so.3
  ]

  pub none_freed : (b : ℕ) → is_freed last b ≡ false
  none_freed b = elim (what b) [ inl none ↦ ap is_gone none | inr so ↦ ap is_gone so.2 ]

  -- ---- the directory's times, and the groups' headers

  pub times : HasTimes (dinode_of is.named.final) time
  times = (ap (λ (d : Dinode). d.mtime) is.named.dinode, ap (λ (d : Dinode). d.ctime) is.named.dinode)

  pub header_put : (bytes : List ℕ) × (get last r.group.addr ≡ Some (Put (group_lock r.group) false bytes))
  header_put = is.said.counts r.group has (r.block, (0, omega arith, refl), block)

  pub counted : (at at' : ℕ → List ℕ) → group.IsShown v r.group at → at' r.group.addr ≡ header_put.0 → CountsNumber at at' r.group is.said.number
  counted at at' shown now_there =
      let says = is.said.says at r.group has shown in
      let end = overlaid (seen_with v last) at in
      let last_there : end r.group.addr ≡ header_put.0 = ap (λ s. seen_or s (at r.group.addr)) (put_seen v last r.group.addr (group_lock r.group) false header_put.0 header_put.1) in
      ap uncounted (header_same at' end r.group (fit_of v r.group shows has).some (now_there ∙ sym last_there))
      ∙ puts_keep says.second end r.group is.taken 1 says.takes
      ∙ (says.said.own block).put.others
      ∙ ap uncounted (says.numbered.0 refl).header
