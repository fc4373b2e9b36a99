-- The draft of a move, whole: what becomes of each block in it.
use Rattle.std.proofs.Common.{◌≡◌, ◌⊎◌, ◌↔◌, inl, inr, ℕ, ◌+◌, ◌-◌, ◌<◌, ◌≤◌, Bool, true, false, true≢false, List, [], ◌∷◌, ◌++◌, None, Some, refl, sym, ap, ◌∙◌, subst, arith}
use Rattle.std.proofs.lemmas.Bool.{cases_eq}
use Rattle.std.proofs.lemmas.List.Elements.{Contains-append_cases, Contains-append_right}
use Rattle.std.specs.Prelude.{Contains, is_some}
use Rattle.std.specs.Ordering.{nat_cmp}
use Rattle.std.specs.FinMap.{FinMap, get}
use Rattle.drafts.specs.Fates.{block_with}
use Rattle.drafts.specs.declared.change.Change.{Change}
use Rattle.drafts.specs.declared.fate.Fate.{Fate}
use Rattle.drafts.specs.declared.fate.Fate.TheVariants.{Freed, Put}
use Rattle.glock_names.specs.Views.{Seen, HasGroup, IsView}
use Rattle.glock_names.specs.declared.LockName.{LockName}
use Rattle.glock_names.specs.declared.steps.Entry.{Entry}
use Rattle.glock_names.specs.declared.views.Group.{Group}
use Rattle.resource_groups.specs.Freeing.{SaysStateOfSome}
use Rattle.resource_groups.specs.Putting.{HasDataBlock, SaysStateOf}
use Rattle.resource_groups.specs.Shown.{IsDataOf, IsHeaderOf, first_place, group_lock}
use Rattle.resource_groups.proofs.PutIn.{cases_data, not_data}
use Rattle.resource_groups.proofs.Sets.{cases_has, only_has}
use Rattle.image_model.proofs.Held.{none_some}
use Rattle.image_model.proofs.Members.{IsIn, contained, is_in}
use Rattle.image_changes.specs.Does.{AreInside, LiesInGroup}
use Rattle.image_changes.specs.Drafted.{is_freed, is_gone, is_put}
use Rattle.image_changes.proofs.Inside.{stay_inside}
use Rattle.name_drafts.proofs.Lying.{data_lies, header_lies}
use Rattle.name_drafts.proofs.Fates.{lock_put}
use Rattle.name_drafts.proofs.Faults.{data_apart}
use Rattle.name_moves.specs.Moving.{AreJournaled, IsPlaceOfMove, IsPutUnder, Move, PutsUnder, freed_by}
use Rattle.name_moves.specs.Moving as moving
use Rattle.name_moves.specs.Steps.{AreJoined, AreSaidAndDone}
use Rattle.name_moves.proofs.Joined.{target_put, what_joined}

-- what was done over a view
pub record AreDone (v : Seen) (m : Move) (old : Entry) (room : List ℕ) (time : ℕ) (taken : List ℕ) (change : Change) : Type 0 where
  pub fates : FinMap nat_cmp Fate
  pub joined : AreJoined v m old room time taken fates
  pub said : AreSaidAndDone v fates taken (freed_by m) change

-- ---- blocks of groups

cases_lt : (a b : ℕ) → (a < b) ⊎ (b ≤ a)
cases_lt a b = grind arith

-- the block is a header or bitmap block of one of these groups, or of none
header_among : (gs : List Group) (b : ℕ) → ((g : Group) × IsIn g gs × IsHeaderOf g b) ⊎ ((g : Group) → IsIn g gs → ¬ (IsHeaderOf g b))
header_among [] b = inr (λ g there. elim there [ ])
header_among (k ∷ gs) b = elim (header_this k b) [
  | inl own ↦ inl (k, inl refl, own)
  | inr away ↦ elim (header_among gs b) [
    | inl found ↦ inl (found.0, inr found.1, found.2)
    | inr none ↦ inr (λ g there own. elim there [ inl e ↦ away (subst (λ x. IsHeaderOf x b) e own) | inr later ↦ none g later own ])
  ]
]
  where
    header_this : (g : Group) (b : ℕ) → IsHeaderOf g b ⊎ ¬ (IsHeaderOf g b)
    header_this g b = elim (cases_lt b g.addr) [
      | inl under ↦ inr (λ own. absurd (omega (arith, under, own.low)))
      | inr over ↦ elim (cases_lt b (g.addr + g.length)) [
        | inl less ↦ inl (record { low = over; high = less })
        | inr more ↦ inr (λ own. absurd (omega (arith, more, own.high)))
      ]
    ]

-- the block has the header or the bits of some of these blocks, or of none
says_or_not : (size : ℕ) (g : Group) (blocks : List ℕ) (c : ℕ) → SaysStateOfSome size g blocks c ⊎ ¬ (SaysStateOfSome size g blocks c)
says_or_not size g [] c = inr (λ says. absurd (omega (arith, says.1.1)))
says_or_not size g (b ∷ blocks) c = elim (says_or_not size g blocks c) [
  | inl later ↦ inl (later.0, Contains-append_right (b ∷ []) blocks later.0 later.1, later.2, later.3)
  | inr none ↦ elim (cases_data g b) [
    | inl own ↦ elim (says_this b) [
      | inl says ↦ inl (b, (0, omega arith, refl), own, says)
      | inr silent ↦ inr (λ says. elim (Contains-append_cases (b ∷ []) blocks says.0 says.1) [
        | inl here ↦ silent (subst (λ x. SaysStateOf size g x c) (only_has b says.0 here) says.3)
        | inr later ↦ none (says.0, later, says.2, says.3)
      ])
    ]
    | inr out ↦ inr (λ says. elim (Contains-append_cases (b ∷ []) blocks says.0 says.1) [
      | inl here ↦ not_data g b out (subst (IsDataOf g) (only_has b says.0 here) says.2)
      | inr later ↦ none (says.0, later, says.2, says.3)
    ])
  ]
]
  where
    says_this : (x : ℕ) → SaysStateOf size g x c ⊎ ¬ (SaysStateOf size g x c)
    says_this x = elim (cases_eq c g.addr) [
      | inl same ↦ inl (inl same)
      | inr apart ↦ elim (cases_lt (x - g.first) (first_place size (c - g.addr))) [
        | inl under ↦ inr (λ says. elim says [ inl e ↦ apart e | inr bits ↦ absurd (omega (arith, under, bits.low)) ])
        | inr over ↦ elim (cases_lt (x - g.first) (first_place size (c - g.addr + 1))) [
          | inl less ↦ inl (inr (record { low = over; high = less }))
          | inr more ↦ inr (λ says. elim says [ inl e ↦ apart e | inr bits ↦ absurd (omega (arith, more, bits.high)) ])
        ]
      ]
    ]

put_or_freed : (lock : LockName) (plain : Bool) (bytes : List ℕ) → Some (Put lock plain bytes) ≡ Some Freed → ⊥
put_or_freed lock plain bytes e = cc

plain_put : (x y : LockName) (plain : Bool) (m n : List ℕ) → Some (Put x false m) ≡ Some (Put y plain n) → plain ≡ false
plain_put x y plain m n e = cc

-- ---- what becomes of each block

module _ (v : Seen) (m : Move) (old : Entry) (room : List ℕ) (time : ℕ) (taken : List ℕ) (change : Change) (is : AreDone v m old room time taken change) (shows : IsView v)
    (inside : (b : ℕ) → IsPlaceOfMove m b → HasDataBlock v b) (rooms : (b : ℕ) → Contains taken b → HasDataBlock v b) where
  abbrev pub last : FinMap nat_cmp Fate
  last = is.said.fates

  header_or_not : (b : ℕ) → ((g : Group) × HasGroup v g × IsHeaderOf g b) ⊎ ((g : Group) → HasGroup v g → ¬ (IsHeaderOf g b))
  header_or_not b = elim (header_among v.groups b) [
    | inl found ↦ inl (found.0, contained found.0 v.groups found.1, found.2)
    | inr none ↦ inr (λ g there own. none g (is_in g v.groups there) own)
  ]

  -- a block that neither goes nor is a group's is as it was before the groups were told
  pub stays : (b : ℕ) → ¬ (Contains (freed_by m) b) → ((g : Group) → HasGroup v g → ¬ (IsHeaderOf g b)) → get last b ≡ get is.fates b
  stays b left far = is.said.others b left (λ g has some own. far g has own)

  -- the dinode of the directory that gets the name is put
  pub puts_target : ¬ (Contains (freed_by m) m.to.inode) → is_put last m.to.inode ≡ true
  puts_target left =
      let put = target_put v m old room time taken is.fates is.joined in
      ap (λ f. is_some (block_with f None)) (stays m.to.inode left (λ g has own. data_apart v g m.to.inode m.to.inode shows has (inside m.to.inode (moving.IsPlaceOfMove.of_target refl)) own refl) ∙ put.2)

  -- a block goes, or is put under one of the locks, in a group, or nothing becomes of it
  abbrev IsPutThere : ℕ → Type 0
  IsPutThere b = (lock : LockName) × (bytes : List ℕ) × (get last b ≡ Some (Put lock false bytes)) × IsPutUnder v m taken b lock × LiesInGroup v b

  what : (b : ℕ) → Contains (freed_by m) b ⊎ (¬ (Contains (freed_by m) b) × ((get last b ≡ None) ⊎ IsPutThere b))
  what b = elim (cases_has (freed_by m) b) [
    | inl goes ↦ inl goes
    | inr left ↦ inr (left, by left (header_or_not b))
  ]
    where
      by_header : (g : Group) → HasGroup v g → IsHeaderOf g b → SaysStateOfSome v.size g (taken ++ freed_by m) b ⊎ ¬ (SaysStateOfSome v.size g (taken ++ freed_by m) b) → (get last b ≡ None) ⊎ IsPutThere b
      by_header g has own (inr silent) = inl (is.said.only g b has own silent)
      by_header g has own (inl says) = elim (is.said.headers g b has own) [
        | inl none ↦ inl none
        | inr put ↦ inr (group_lock g, put.0, put.1, moving.IsPutUnder.of_group g has (says.0, says.1, says.2) says refl, header_lies v g b shows has own)
      ]

      by : ¬ (Contains (freed_by m) b) → ((g : Group) × HasGroup v g × IsHeaderOf g b) ⊎ ((g : Group) → HasGroup v g → ¬ (IsHeaderOf g b)) → (get last b ≡ None) ⊎ IsPutThere b
      by left (inl header) = by_header header.0 header.1 header.2 (says_or_not v.size header.0 (taken ++ freed_by m) b)
      by left (inr none) =
          let same = stays b left none in
          elim (what_joined v m old room time taken is.fates is.joined inside rooms b) [
            | inl never ↦ inl (same ∙ never)
            | inr so ↦ inr (so.0, so.1, same ∙ so.2, so.3, data_lies v b shows so.4)
          ]

  pub locks : PutsUnder v last m taken
  locks b lock plain bytes put = elim (what b) [
    | inl goes ↦ absurd (put_or_freed lock plain bytes (sym put ∙ is.said.gone b goes))
    | inr rest ↦ elim rest.1 [
      | inl none ↦ absurd (none_some (sym none ∙ put))
      | inr so ↦ subst (IsPutUnder v m taken b) (lock_put so.0 lock false plain so.1 bytes (sym so.2 ∙ put)) so.3
    ]
  ]

  pub journaled : AreJournaled last
  journaled b lock plain bytes put = elim (what b) [
    | inl goes ↦ absurd (put_or_freed lock plain bytes (sym put ∙ is.said.gone b goes))
    | inr rest ↦ elim rest.1 [
      | inl none ↦ absurd (none_some (sym none ∙ put))
      | inr so ↦ plain_put so.0 lock plain so.1 bytes (sym so.2 ∙ put)
    ]
  ]

  pub frees : (b : ℕ) → (is_freed last b ≡ true) ↔ Contains (freed_by m) b
  frees b = (
    (λ gone. elim (what b) [
      | inl goes ↦ goes
      | inr rest ↦ elim rest.1 [
        | inl none ↦ absurd (true≢false (sym gone ∙ ap is_gone none))
        | inr so ↦ absurd (true≢false (sym gone ∙ ap is_gone so.2))
      ]
    ]),
    (λ goes. ap is_gone (is.said.gone b goes)),
  )

  in_groups : (b : ℕ) (lock : LockName) (plain : Bool) (bytes : List ℕ) → get last b ≡ Some (Put lock plain bytes) → LiesInGroup v b
  in_groups b lock plain bytes put = elim (what b) [
    | inl goes ↦ absurd (put_or_freed lock plain bytes (sym put ∙ is.said.gone b goes))
    | inr rest ↦ elim rest.1 [
      | inl none ↦ absurd (none_some (sym none ∙ put))
      | inr so ↦ so.4
    ]
  ]

  pub insides : AreInside v change
  insides = stay_inside v last change is.said.finished is.said.whole in_groups
