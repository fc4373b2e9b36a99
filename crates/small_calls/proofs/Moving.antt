-- A call that moves a name writes few blocks.
use Rattle.std.proofs.Common.{◌≡◌, ◌+◌, ◌^◌, ◌<◌, ◌≤◌, ◌⊎◌, ℕ, inl, inr, Bool, true, false, List, [], ◌∷◌, ◌++◌, length, None, refl, sym, ap, subst, ◌∙◌, arith, true≢false}
use Rattle.std.specs.Prelude.{Contains, codes, if◌then◌else◌, is_some}
use Rattle.std.proofs.Math.ListN.{length-append}
use Rattle.crc_words.specs.Remainder.{crc32_of}
use Rattle.file_tree.specs.Tree.{Tree}
use Rattle.drafts.specs.Fates.{block_with}
use Rattle.drafts.specs.declared.change.Change.{Change}
use Rattle.gfs2_layout.specs.Holding.{Holding}
use Rattle.gfs2_layout.specs.Inode.{is_directory_in}
use Rattle.glock_names.specs.Views.{IsView, Seen}
use Rattle.hash_dirs.specs.Shown.{IsSound, index_for}
use Rattle.image_model.specs.Flat.{Path}
use Rattle.image_model.specs.Image.{Image}
use Rattle.image_model.specs.Owners.{Owners, holding}
use Rattle.image_model.specs.Stands.{Layout}
use Rattle.image_model.proofs.Held.{none_some}
use Rattle.image_model.proofs.Members.{IsIn, in_either, in_left, in_right}
use Rattle.image_model.proofs.Rising.{Rising}
use Rattle.image_changes.specs.Flats.{in_directory}
use Rattle.file_calls.proofs.Images.{sound_directory}
use Rattle.file_calls.specs.NameBecoming.{IsAtRecord, IsLostAt}
use Rattle.file_calls.specs.NameBecoming as becoming
use Rattle.file_calls.specs.NameMoving.{Becomes, IsMoveIn, IsMovedAt, Move, freed_by, is_reparented, is_replacing, is_within, lost_there}
use Rattle.file_calls.specs.NameMoving as moving
use Rattle.file_calls.proofs.Imaged.{moved_directory, source_directory}
use Rattle.file_calls.proofs.Loses.{all_directory, all_kept, all_sound}
use Rattle.small_changes.specs.Counting.{IsOfProfile}
use Rattle.small_changes.proofs.Counting.{headers, in_headers, in_or_not}
use Rattle.small_changes.proofs.Removing.{headers_of}
use Rattle.small_calls.proofs.Leaves.{HasNamed, IsLeafFor, all_back, one_leaf, one_named, record_in}
use Rattle.small_calls.proofs.Most.{IsPut, no_sort, one_sort, puts_most}
use Rattle.small_calls.proofs.Named.{list_many, named_at, named_list, takes_few}

-- ---- of names that go

-- one of the names that go first
in_names : (names before later : List (List ℕ)) (name : List ℕ) → names ≡ before ++ name ∷ later → IsIn name names
in_names names before later name parts = subst (IsIn name) (sym parts) (in_right name before (name ∷ later) (inl refl))

-- where some go, something is done to the dinode, or to a leaf with the record of one of them
lost_in : (names : List (List ℕ)) (h : Holding) (b : ℕ) → IsSound h → IsLostAt names h b → (b ≡ h.own) ⊎ ((name : List ℕ) × IsIn name names × HasNamed h name b)
lost_in names h b sound lost = by lost.at
  where
    still : IsSound lost.without
    still = all_sound lost.before h lost.without lost.lost sound

    own : lost.without.own ≡ h.own
    own = (all_kept lost.before h lost.without lost.lost).own

    by : IsAtRecord lost.without lost.name b → (b ≡ h.own) ⊎ ((name : List ℕ) × IsIn name names × HasNamed h name b)
    by (becoming.IsAtRecord.its_dinode is) = inl (is ∙ own)
    by (becoming.IsAtRecord.its_record has) = elim (record_in lost.without still lost.name b has) [
      | inl is ↦ inl (is ∙ own)
      | inr named ↦ inr (lost.name, in_names names lost.before lost.later lost.name lost.parts, all_back lost.before h lost.without lost.name b lost.lost sound named)
    ]

-- these are the new name and the old one at most
lost_names : (m : Move) (name : List ℕ) → IsIn name (lost_there m) → (name ≡ m.new_name) ⊎ (name ≡ m.name)
lost_names m name there = elim (in_either name (if is_replacing m then m.new_name ∷ [] else []) (if is_within m then m.name ∷ [] else []) there) [
  | inl new ↦ inl (only (is_replacing m) m.new_name new)
  | inr old ↦ inr (only (is_within m) m.name old)
]
  where
    only : (t : Bool) (other : List ℕ) → IsIn name (if t then other ∷ [] else []) → name ≡ other
    only true other (inl e) = e
    only true other (inr never) = elim never [ ]
    only false other never = elim never [ ]

module _ (v : Seen) (m : Move) (room : List ℕ) (time : ℕ) (change : Change) (im : Image) (o : Owners) (l : Layout) (t : Tree) (of : IsOfProfile v im o l t) (view : IsView v) (path path' : Path)
    (is : moving.IsMoving v m room time change) (place : IsMoveIn im o l path path' m room) (can : moving.CanBeMoved v m) (hash : crc32_of m.new_name < 2 ^ 32) where
  abbrev source : Holding
  source = holding im o m.from

  abbrev target : Holding
  target = holding im o m.to.inode

  abbrev inode : Holding
  inode = holding im o m.moved.inode

  becomes : Becomes v m is.fates is.old is.taken time source target inode
  becomes = (is.moves im o l t path path' of.is place).0

  source_sound : IsSound source
  source_sound = sound_directory v im o l t of.is path m.from place.source (source_directory v im o l t of.is view m room path path' can place)

  target_sound : IsSound target
  target_sound = sound_directory v im o l t of.is path' m.to.inode place.target place.directory

  inode_sound : is_reparented m ≡ true → IsSound inode
  inode_sound moves = sound_directory v im o l t of.is (in_directory path m.name) m.moved.inode place.inode (moved_directory v im o l t of.is view m room path path' can place moves)

  -- the directory that gets the name, once others went
  abbrev without : Holding
  without = becomes.gets.without

  without_sound : IsSound without
  without_sound = all_sound (lost_there m) target without becomes.gets.lost target_sound

  without_directory : is_directory_in without ≡ true
  without_directory = all_directory (lost_there m) target without becomes.gets.lost ∙ place.directory

  without_own : without.own ≡ m.to.inode
  without_own = (all_kept (lost_there m) target without becomes.gets.lost).own

  abbrev mine : List ℕ
  mine = named_list without m.new_name without_sound without_directory hash becomes.gets.named is.taken

  abbrev list : List ℕ
  list = m.from ∷ m.to.inode ∷ m.moved.inode ∷ (mine ++ headers v.groups)

  -- the leaves besides, one of each sort
  abbrev IsTargets : ℕ → Type 0
  IsTargets = IsLeafFor without (index_for without m.new_name) (length m.new_name)

  abbrev IsOfNewName : ℕ → Type 0
  IsOfNewName = HasNamed target m.new_name

  abbrev IsOfOldName : ℕ → Type 0
  IsOfOldName = HasNamed target m.name

  abbrev IsOfSource : ℕ → Type 0
  IsOfSource = HasNamed source m.name

  abbrev IsOfParent : ℕ → Type 0
  IsOfParent b = (is_reparented m ≡ true) × HasNamed inode (codes "..") b

  parent_once : (x y : ℕ) → IsOfParent x → IsOfParent y → x ≡ y
  parent_once x y (moves, one) (_, other) = one_named inode (inode_sound moves) (codes "..") x y one other

  abbrev IsSorted : ℕ → Type 0
  IsSorted b = (IsIn b list ⊎ ((((⊥ ⊎ IsTargets b) ⊎ IsOfNewName b) ⊎ IsOfOldName b) ⊎ IsOfSource b)) ⊎ IsOfParent b

  in_list : (b : ℕ) → IsIn b list → IsSorted b
  in_list b there = inl (inl there)

  moved_at : (b : ℕ) → IsMovedAt m source target inode without becomes.gets.named is.taken b → IsSorted b
  moved_at b (moving.IsMovedAt.it_gives apart (becoming.IsAtRecord.its_dinode own)) = in_list b (inl own)
  moved_at b (moving.IsMovedAt.it_gives apart (becoming.IsAtRecord.its_record has)) = elim (record_in source source_sound m.name b has) [ inl own ↦ in_list b (inl own) | inr named ↦ inl (inr (inr named)) ]
  moved_at b (moving.IsMovedAt.it_loses lost) = elim (lost_in (lost_there m) target b target_sound lost) [
    | inl own ↦ in_list b (inr (inl own))
    | inr one ↦ elim (lost_names m one.0 one.1) [
      | inl new ↦ inl (inr (inl (inl (inr (subst (λ n. HasNamed target n b) new one.2)))))
      | inr old ↦ inl (inr (inl (inr (subst (λ n. HasNamed target n b) old one.2))))
    ]
  ]
  moved_at b (moving.IsMovedAt.it_gets gets) = elim (named_at without m.new_name without_sound without_directory hash becomes.gets.named is.taken b gets) [
    | inl there ↦ in_list b (inr (inr (inr (in_left b mine (headers v.groups) there))))
    | inr leaf ↦ inl (inr (inl (inl (inl (inr leaf)))))
  ]
  moved_at b (moving.IsMovedAt.its_time own) = in_list b (inr (inl own))
  moved_at b (moving.IsMovedAt.its_parent moves (becoming.IsAtRecord.its_dinode own)) = in_list b (inr (inr (inl own)))
  moved_at b (moving.IsMovedAt.its_parent moves (becoming.IsAtRecord.its_record has)) = elim (record_in inode (inode_sound moves) (codes "..") b has) [ inl own ↦ in_list b (inr (inr (inl own))) | inr named ↦ inr (moves, named) ]

  sorted : (b : ℕ) → IsPut is.fates b → IsSorted b
  sorted b (lock, plain, bytes, put) = elim (in_or_not (headers v.groups) b) [
    | inl head ↦ in_list b (inr (inr (inr (in_right b mine (headers v.groups) head))))
    | inr off ↦ elim (becomes.changes b (λ k has head. off (in_headers v.groups k b has head)) stays) [
      | inl still ↦ absurd (none_some (sym still ∙ put))
      | inr done ↦ moved_at b done
    ]
  ]
    where
      stays : Contains (freed_by m) b → ⊥
      stays goes = true≢false (sym (ap (λ f. is_some (block_with f None)) put) ∙ is.gone b goes)

  few_numbers : (xs : List ℕ) → Rising xs → ((b : ℕ) → IsIn b xs → IsPut is.fates b) → length xs ≤ 200 + length (headers v.groups)
  few_numbers xs rise all =
      let most =
      one_sort (λ b. (((⊥ ⊎ IsTargets b) ⊎ IsOfNewName b) ⊎ IsOfOldName b) ⊎ IsOfSource b) IsOfParent xs 4 parent_once (λ l5 e5.
      one_sort (λ b. ((⊥ ⊎ IsTargets b) ⊎ IsOfNewName b) ⊎ IsOfOldName b) IsOfSource xs 3 (one_named source source_sound m.name) (λ l4 e4.
      one_sort (λ b. (⊥ ⊎ IsTargets b) ⊎ IsOfNewName b) IsOfOldName xs 2 (one_named target target_sound m.name) (λ l3 e3.
      one_sort (λ b. ⊥ ⊎ IsTargets b) IsOfNewName xs 1 (one_named target target_sound m.new_name) (λ l2 e2.
      one_sort (λ b. ⊥) IsTargets xs 0 (one_leaf without (index_for without m.new_name) (length m.new_name)) (λ l1 e1. no_sort xs l1 rise e1) l2 (λ b here. regrouped (e2 b here)))
      l3 (λ b here. regrouped (e3 b here))) l4 (λ b here. regrouped (e4 b here))) l5 (λ b here. regrouped (e5 b here))) list (λ b here. sorted b (all b here)) in
      let its = list_many without m.new_name without_sound without_directory hash becomes.gets.named is.taken in
      let both = length-append mine (headers v.groups) in
      let taken : length is.taken ≤ 105 = (let need = becomes.gets.few in let few = takes_few without m.new_name without_sound without_directory hash in omega (arith, need, few)) in
      omega (arith, most, its, both, taken)
    where
      regrouped : {A B C : Type 0} → A ⊎ (B ⊎ C) → (A ⊎ B) ⊎ C
      regrouped (inl a) = inl (inl a)
      regrouped (inr (inl b)) = inl (inr b)
      regrouped (inr (inr c)) = inr c

  pub few : length change.blocks.items ≤ 328
  few =
      let most = puts_most is.fates change (200 + length (headers v.groups)) is.finished few_numbers in
      let many = headers_of v im o l t of in
      omega (arith, most, many, of.few)
