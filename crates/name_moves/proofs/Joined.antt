-- What becomes of each block where the drafts of three directories are put into one.
use Rattle.std.proofs.Common.{◌≡◌, ◌≢◌, ◌⊎◌, inl, inr, ℕ, true, false, List, [], None, Some, refl, sym, ap, ◌∙◌, subst, arith}
use Rattle.std.proofs.lemmas.Bool.{cases_Bool}
use Rattle.std.specs.Prelude.{Contains}
use Rattle.std.specs.Ordering.{nat_cmp}
use Rattle.std.specs.FinMap.{FinMap, empty, get, get-empty}
use Rattle.drafts.specs.declared.fate.Fate.{Fate}
use Rattle.drafts.specs.declared.fate.Fate.TheVariants.{Put}
use Rattle.glock_names.specs.Views.{Seen, IsView}
use Rattle.glock_names.specs.declared.LockName.{LockName}
use Rattle.glock_names.specs.declared.steps.Entry.{Entry}
use Rattle.dinode_tree.specs.Reading.{inode_lock}
use Rattle.nested_drafts.specs.Nested.{fate_over}
use Rattle.nested_drafts.proofs.Over.{fates_put}
use Rattle.resource_groups.specs.Putting.{HasDataBlock}
use Rattle.image_model.proofs.Held.{none_some}
use Rattle.name_drafts.specs.HashInserting.{MayChange, a_data_block, a_taken_one, the_dinode}
use Rattle.name_drafts.specs.Steps.{LeavesGroups}
use Rattle.name_drafts.proofs.Faults.{data_apart}
use Rattle.name_moves.specs.Moving.{IsPlaceOfMove, IsPutUnder, Move, is_reparented, is_within}
use Rattle.name_moves.specs.Moving as moving
use Rattle.name_moves.specs.Steps.{AreJoined, GivesThere, IsPutOver, LeadsUp, PutsOf}

-- a block that a part puts is put so, and each other one is as it was
pub data WhatPut (v : Seen) (dir : ℕ) (taken : List ℕ) (part before after : FinMap nat_cmp Fate) (b : ℕ) : Type 0 where
  left : get part b ≡ None → get after b ≡ get before b → WhatPut v dir taken part before after b
  put : (bytes : List ℕ) → MayChange v dir taken b → get part b ≡ Some (Put (inode_lock dir) false bytes) → get after b ≡ Some (Put (inode_lock dir) false bytes) → WhatPut v dir taken part before after b

pub what_put : (v : Seen) (dir : ℕ) (taken : List ℕ) (part before after : FinMap nat_cmp Fate) → PutsOf v dir taken part → IsPutOver dir part before after → (b : ℕ) → WhatPut v dir taken part before after b
what_put v dir taken part before after puts over b =
    let same : get after b ≡ fate_over (inode_lock dir) (get part b) (get before b) = ap (λ (m : FinMap nat_cmp Fate). get m b) over ∙ fates_put (inode_lock dir) part before b in
    elim (puts b) [
      | inl none ↦ left none (same ∙ ap (λ f. fate_over (inode_lock dir) f (get before b)) none)
      | inr now ↦ put now.1.0 now.0 now.1.1 (same ∙ ap (λ f. fate_over (inode_lock dir) f (get before b)) now.1.1)
    ]

puts_none : (v : Seen) (dir : ℕ) (fates : FinMap nat_cmp Fate) → fates ≡ empty → PutsOf v dir [] fates
puts_none v dir fates none b = inl (ap (λ (m : FinMap nat_cmp Fate). get m b) none ∙ get-empty nat_cmp b)

pub source_puts : (v : Seen) (m : Move) (time : ℕ) (fates : FinMap nat_cmp Fate) → GivesThere v m time fates → PutsOf v m.from [] fates
source_puts v m time fates given = elim (cases_Bool (is_within m)) [ inl within ↦ puts_none v m.from fates (given.nothing within) | inr between ↦ (given.gives between).puts ]

pub inode_puts : (v : Seen) (m : Move) (time : ℕ) (fates : FinMap nat_cmp Fate) → LeadsUp v m time fates → PutsOf v m.moved.inode [] fates
inode_puts v m time fates led = elim (cases_Bool (is_reparented m)) [ inl moves ↦ (led.leads moves).puts | inr stays ↦ puts_none v m.moved.inode fates (led.nothing stays) ]

nothing_at : (fates : FinMap nat_cmp Fate) → fates ≡ empty → (b : ℕ) → get fates b ≡ None
nothing_at fates none b = ap (λ (m : FinMap nat_cmp Fate). get m b) none ∙ get-empty nat_cmp b

module _ (v : Seen) (m : Move) (old : Entry) (room : List ℕ) (time : ℕ) (taken : List ℕ) (fates : FinMap nat_cmp Fate) (is : AreJoined v m old room time taken fates) where
  abbrev to : ℕ
  to = m.to.inode

  target_what : (b : ℕ) → WhatPut v to taken is.target empty is.first b
  target_what = what_put v to taken is.target empty is.first is.named.puts is.first_is

  source_what : (b : ℕ) → WhatPut v m.from [] is.source is.first is.second b
  source_what = what_put v m.from [] is.source is.first is.second (source_puts v m time is.source is.given) is.second_is

  inode_what : (b : ℕ) → WhatPut v m.moved.inode [] is.inode is.second fates b
  inode_what = what_put v m.moved.inode [] is.inode is.second fates (inode_puts v m time is.inode is.led) is.joined

  first_at : (b : ℕ) → get is.first b ≡ get is.target b
  first_at b = by (target_what b)
    where
      by : WhatPut v to taken is.target empty is.first b → get is.first b ≡ get is.target b
      by (left none same) = same ∙ get-empty nat_cmp b ∙ sym none
      by (put bytes may part now) = now ∙ sym part

  second_at : (b : ℕ) → get is.source b ≡ None → get is.second b ≡ get is.target b
  second_at b none = by (source_what b)
    where
      by : WhatPut v m.from [] is.source is.first is.second b → get is.second b ≡ get is.target b
      by (left _ same) = same ∙ first_at b
      by (put bytes may part now) = absurd (none_some (sym none ∙ part))

  joined_at : (b : ℕ) → get is.inode b ≡ None → get fates b ≡ get is.second b
  joined_at b none = by (inode_what b)
    where
      by : WhatPut v m.moved.inode [] is.inode is.second fates b → get fates b ≡ get is.second b
      by (left _ same) = same
      by (put bytes may part now) = absurd (none_some (sym none ∙ part))

  -- of a block that neither of the others puts becomes what the directory that gets the name makes of it
  pub as_target : (b : ℕ) → get is.source b ≡ None → get is.inode b ≡ None → get fates b ≡ get is.target b
  as_target b source inode = joined_at b inode ∙ second_at b source

  pub as_source : (b : ℕ) → get is.target b ≡ None → get is.inode b ≡ None → get fates b ≡ get is.source b
  as_source b target inode = joined_at b inode ∙ by (source_what b)
    where
      by : WhatPut v m.from [] is.source is.first is.second b → get is.second b ≡ get is.source b
      by (left none same) = same ∙ first_at b ∙ target ∙ sym none
      by (put bytes may part now) = now ∙ sym part

  pub as_inode : (b : ℕ) → get is.target b ≡ None → get is.source b ≡ None → get fates b ≡ get is.inode b
  as_inode b target source = by (inode_what b)
    where
      by : WhatPut v m.moved.inode [] is.inode is.second fates b → get fates b ≡ get is.inode b
      by (left none same) = same ∙ second_at b source ∙ target ∙ sym none
      by (put bytes may part now) = now ∙ sym part

  -- the dinode of the directory that gets the name is put
  pub target_put : (lock : LockName) × (bytes : List ℕ) × (get fates to ≡ Some (Put lock false bytes))
  target_put = by (inode_what to)
    where
      by_source : WhatPut v m.from [] is.source is.first is.second to → (lock : LockName) × (bytes : List ℕ) × (get is.second to ≡ Some (Put lock false bytes))
      by_source (left none same) = (inode_lock to, is.named.stamped.bytes, same ∙ first_at to ∙ is.named.stamped.put)
      by_source (put bytes may part now) = (inode_lock m.from, bytes, now)

      by : WhatPut v m.moved.inode [] is.inode is.second fates to → (lock : LockName) × (bytes : List ℕ) × (get fates to ≡ Some (Put lock false bytes))
      by (left none same) = let before = by_source (source_what to) in (before.0, before.1, same ∙ before.2)
      by (put bytes may part now) = (inode_lock m.moved.inode, bytes, now)

  -- where one of them has no part
  pub source_nothing : is_within m ≡ true → (b : ℕ) → get is.source b ≡ None
  source_nothing within = nothing_at is.source (is.given.nothing within)

  pub inode_nothing : is_reparented m ≡ false → (b : ℕ) → get is.inode b ≡ None
  inode_nothing stays = nothing_at is.inode (is.led.nothing stays)

  not_within : (b : ℕ) (bytes : List ℕ) → get is.source b ≡ Some (Put (inode_lock m.from) false bytes) → is_within m ≡ false
  not_within b bytes now = elim (cases_Bool (is_within m)) [ inl within ↦ absurd (none_some (sym (source_nothing within b) ∙ now)) | inr between ↦ between ]

  reparents : (b : ℕ) (bytes : List ℕ) → get is.inode b ≡ Some (Put (inode_lock m.moved.inode) false bytes) → is_reparented m ≡ true
  reparents b bytes now = elim (cases_Bool (is_reparented m)) [ inl moves ↦ moves | inr stays ↦ absurd (none_some (sym (inode_nothing stays b) ∙ now)) ]

  -- what becomes of a block is what one of the three makes of it, or nothing
  abbrev pub Whose : ℕ → Type 0
  Whose b = (get fates b ≡ None) ⊎ ((get is.target b ≢ None) ⊎ (((is_within m ≡ false) × (get is.source b ≢ None)) ⊎ ((is_reparented m ≡ true) × (get is.inode b ≢ None))))

  pub whose : (b : ℕ) → Whose b
  whose b = by_inode (inode_what b)
    where
      by_target : WhatPut v to taken is.target empty is.first b → get fates b ≡ get is.first b → Whose b
      by_target (left none same) so = inl (so ∙ same ∙ get-empty nat_cmp b)
      by_target (put bytes may part now) so = inr (inl (λ none. none_some (sym none ∙ part)))

      by_source : WhatPut v m.from [] is.source is.first is.second b → get fates b ≡ get is.second b → Whose b
      by_source (left none same) so = by_target (target_what b) (so ∙ same)
      by_source (put bytes may part now) so = inr (inr (inl (not_within b bytes part, λ none. none_some (sym none ∙ part))))

      by_inode : WhatPut v m.moved.inode [] is.inode is.second fates b → Whose b
      by_inode (left none same) = by_source (source_what b) same
      by_inode (put bytes may part now) = inr (inr (inr (reparents b bytes part, λ none. none_some (sym none ∙ part))))

  -- ---- each block that is put is a data block of a group, and under one of the three locks

  abbrev pub IsPutSo : ℕ → Type 0
  IsPutSo b = (lock : LockName) × (bytes : List ℕ) × (get fates b ≡ Some (Put lock false bytes)) × IsPutUnder v m taken b lock × HasDataBlock v b

  own_or_data : (dir b : ℕ) → MayChange v dir [] b → (b ≡ dir) ⊎ HasDataBlock v b
  own_or_data dir b (the_dinode same) = inl same
  own_or_data dir b (a_taken_one there) = absurd (omega (arith, there.1))
  own_or_data dir b (a_data_block data_block) = inr data_block

  own_or_taken : (dir b : ℕ) → MayChange v dir taken b → (b ≡ dir) ⊎ (Contains taken b ⊎ HasDataBlock v b)
  own_or_taken dir b (the_dinode same) = inl same
  own_or_taken dir b (a_taken_one there) = inr (inl there)
  own_or_taken dir b (a_data_block data_block) = inr (inr data_block)

  module _ (inside : (b : ℕ) → IsPlaceOfMove m b → HasDataBlock v b) (rooms : (b : ℕ) → Contains taken b → HasDataBlock v b) where
    lies : (dir b : ℕ) → HasDataBlock v dir → (b ≡ dir) ⊎ HasDataBlock v b → HasDataBlock v b
    lies dir b own (inl here) = subst (HasDataBlock v) (sym here) own
    lies dir b own (inr data_block) = data_block

    lies_or_taken : (b : ℕ) → (b ≡ to) ⊎ (Contains taken b ⊎ HasDataBlock v b) → HasDataBlock v b
    lies_or_taken b (inl here) = inside b (moving.IsPlaceOfMove.of_target here)
    lies_or_taken b (inr (inl there)) = rooms b there
    lies_or_taken b (inr (inr data_block)) = data_block

    pub what_joined : (b : ℕ) → (get fates b ≡ None) ⊎ IsPutSo b
    what_joined b = by_inode (inode_what b)
      where
        by_target : WhatPut v to taken is.target empty is.first b → get fates b ≡ get is.first b → (get fates b ≡ None) ⊎ IsPutSo b
        by_target (left none same) so = inl (so ∙ same ∙ get-empty nat_cmp b)
        by_target (put bytes may part now) so = inr (inode_lock to, bytes, so ∙ now, moving.IsPutUnder.of_target (own_or_taken to b may) refl, lies_or_taken b (own_or_taken to b may))

        by_source : WhatPut v m.from [] is.source is.first is.second b → get fates b ≡ get is.second b → (get fates b ≡ None) ⊎ IsPutSo b
        by_source (left none same) so = by_target (target_what b) (so ∙ same)
        by_source (put bytes may part now) so =
            inr (inode_lock m.from, bytes, so ∙ now, moving.IsPutUnder.of_source (not_within b bytes part) (own_or_data m.from b may) refl, lies m.from b (inside m.from (moving.IsPlaceOfMove.of_source refl)) (own_or_data m.from b may))

        by_inode : WhatPut v m.moved.inode [] is.inode is.second fates b → (get fates b ≡ None) ⊎ IsPutSo b
        by_inode (left none same) = by_source (source_what b) same
        by_inode (put bytes may part now) =
            inr (inode_lock m.moved.inode, bytes, now, moving.IsPutUnder.of_inode (reparents b bytes part) (own_or_data m.moved.inode b may) refl, lies m.moved.inode b (inside m.moved.inode (moving.IsPlaceOfMove.of_inode refl)) (own_or_data m.moved.inode b may))

    pub joined_leaves : IsView v → LeavesGroups v fates
    joined_leaves shows g c has own = elim (what_joined c) [
      | inl none ↦ none
      | inr so ↦ absurd (data_apart v g c c shows has so.4 own refl)
    ]
