-- One name more that goes from a directory, in a draft in which others went.
use Rattle.std.proofs.Common.{◌≡◌, ◌≢◌, ◌⊎◌, inl, inr, ℕ, true, false, List, [], ◌∷◌, ◌++◌, length, None, Some, sym, ap, ◌∙◌, subst, subst₂, arith, length-append}
use Rattle.std.proofs.lemmas.Bool.{cases_eq}
use Rattle.std.specs.Prelude.{IsSome}
use Rattle.std.specs.Ordering.{nat_cmp}
use Rattle.std.specs.FinMap.{empty, get, get-empty}
use Rattle.drafts.specs.Fates.{Drafted, seen_in, seen_with}
use Rattle.gfs2_layout.specs.Headers.{HasHeader}
use Rattle.gfs2_layout.specs.Holding.{Holding}
use Rattle.gfs2_layout.specs.Inode.{IsInode, height_in, is_directory_in, is_hashed_in}
use Rattle.gfs2_layout.specs.Structures.{dinode_length, dinode_of, header_fault, is_directory}
use Rattle.gfs2_layout.proofs.HeaderLaws.{answer_ok, header_from}
use Rattle.glock_names.specs.Views.{Seen, HasBlock}
use Rattle.dinode_tree.specs.Reading.{inode_lock}
use Rattle.dinode_tree.specs.Shown as inode
use Rattle.linear_dirs.specs.Shown.{holding_over}
use Rattle.linear_dirs.proofs.Looked.{bytes_of}
use Rattle.linear_dirs.proofs.Over.{over_over}
use Rattle.hash_dirs.specs.Shown.{IsSound}
use Rattle.directories.specs.Shown.{IsDirectoryIn, IsShown}
use Rattle.directories.specs.Taking.{HasNameIn, HasRecordOf, IsWithoutName, PutsTwo}
use Rattle.directories.proofs.Forms.{dinode_here, is_directory_here}
use Rattle.resource_groups.specs.Putting.{HasDataBlock}
use Rattle.name_drafts.specs.HashInserting.{MayChange, a_data_block, the_dinode}
use Rattle.name_drafts.proofs.Fates.{alike_seen, put_seen, seen_old, unchanged}
use Rattle.name_moves.specs.Becoming.{CanTell, IsLostAt, LosesAll, LosesName, its_dinode, its_record, none_went, of_linear, of_none, of_sound}
use Rattle.name_moves.specs.Steps.{AreLost, IsLostIn, PutsOf, left_of}
use Rattle.name_moves.proofs.Loses.{all_directory, all_plain, all_sound, kept_cells, kept_over, last_lost, leaf_plain, leaf_there, loses_one, loses_plain, lost_more, lost_more_at, over_seen, plain_lost, plain_shown, shown_over, sound_lost}

-- none went from one in a new draft
pub lost_none : (v : Seen) (dir : ℕ) → AreLost v dir [] empty
lost_none v dir = record {
  puts = λ b. inl (get-empty nat_cmp b);
  sees = λ b has. subst (λ w. HasBlock w b) (unchanged v) has;
  each = λ h shown any.
      let left : left_of v empty h ≡ h = ap (λ x. holding_over x h) (unchanged v) ∙ over_seen v h shown.inode.same in
      record {
        lost = subst (LosesAll [] h) (sym left) (of_none h);
        shown = subst₂ (λ x g. IsShown x dir g) (sym (unchanged v)) (sym left) shown;
        others = λ b none. get-empty nat_cmp b;
        changes = λ b. inl (get-empty nat_cmp b);
      };
}

-- the block of the dinode of a directory that is sound in itself
pub headed_directory : (w : Seen) (dir : ℕ) (k : Holding) → inode.IsShown w dir k → IsInode k → is_directory_in k ≡ true → (bytes : List ℕ) → w.block_at dir ≡ Some bytes → HasHeader 4 400 bytes × (is_directory (dinode_of bytes) ≡ true)
headed_directory w dir k shown sound is bytes there = (
  subst (HasHeader 4 400) (bytes_of w k dir bytes shown there) sound.header,
  ap is_directory (sym (dinode_here w dir k bytes shown there)) ∙ is,
)

module _ {V : Type 0} (seen : V → Seen) (old new : Drafted V) (dir : ℕ) (names : List (List ℕ)) (name : List ℕ) (leaf : ℕ) (lost : AreLost (seen old.view) dir names old.fates)
    (without : IsWithoutName (seen_in seen old) (seen_in seen new) dir name leaf) (two : PutsTwo seen old new dir leaf) (named : HasNameIn (seen_in seen old) dir name) where
  abbrev v : Seen
  v = seen old.view

  abbrev w : Seen
  w = seen_with v old.fates

  abbrev u : Seen
  u = seen_with v new.fates

  pub new_is : seen_in seen new ≡ u
  new_is = ap (λ x. seen_with (seen x) new.fates) two.view

  pub later : (b : ℕ) → HasBlock w b → HasBlock u b
  later b has = elim (cases_eq b dir) [
    | inl same ↦ (two.bytes, put_seen v new.fates b (inode_lock dir) false two.bytes (ap (get new.fates) same ∙ two.put))
    | inr away ↦ elim (cases_eq b leaf) [
      | inl same ↦ (two.leaf_put.0, put_seen v new.fates b (inode_lock dir) false two.leaf_put.0 (ap (get new.fates) same ∙ two.leaf_put.1))
      | inr other ↦ (has.0, alike_seen v old.fates new.fates b (two.others b away other) ∙ has.1)
    ]
  ]

  may_leaf : (b : ℕ) → b ≡ leaf → MayChange v dir [] b
  may_leaf b same = elim two.inside [ inl own ↦ the_dinode (same ∙ own) | inr data_block ↦ a_data_block (subst (HasDataBlock v) (sym same) data_block) ]

  pub puts_now : PutsOf v dir [] new.fates
  puts_now b = elim (cases_eq b dir) [
    | inl same ↦ inr (the_dinode same, (two.bytes, ap (get new.fates) same ∙ two.put))
    | inr away ↦ elim (cases_eq b leaf) [
      | inl same ↦ inr (may_leaf b same, (two.leaf_put.0, ap (get new.fates) same ∙ two.leaf_put.1))
      | inr other ↦ elim (lost.puts b) [
        | inl none ↦ inl (two.others b away other ∙ none)
        | inr put ↦ inr (put.0, (put.1.0, two.others b away other ∙ put.1.1))
      ]
    ]
  ]

  pub sees_now : (b : ℕ) → HasBlock u b → HasBlock v b
  sees_now b has = elim (cases_eq b dir) [
    | inl same ↦ lost.sees b (subst (HasBlock w) (sym same) two.there)
    | inr away ↦ elim (cases_eq b leaf) [
      | inl same ↦ lost.sees b (subst (HasBlock w) (sym same) two.leaf_there)
      | inr other ↦ lost.sees b (has.0, sym (alike_seen v old.fates new.fates b (two.others b away other)) ∙ has.1)
    ]
  ]

  -- where the name goes from what the draft left of it
  module _ (h : Holding) (shown : IsShown v dir h) (before : IsLostIn v dir names old.fates h) where
    abbrev k : Holding
    k = left_of v old.fates h

    left_over : holding_over (seen_in seen new) k ≡ left_of v new.fates h
    left_over = ap (λ x. holding_over x k) new_is ∙ over_over w u h later

    not_dir : (b : ℕ) → ¬ (IsSome (h.cell b)) → b ≢ dir
    not_dir b none same = none (subst (λ x. IsSome (h.cell x)) (shown.inode.own ∙ sym same) shown.inode.dinode)

    not_leaf : IsSome (k.cell leaf) → (b : ℕ) → ¬ (IsSome (h.cell b)) → b ≢ leaf
    not_leaf there b none same = none (kept_cells h k (kept_over w h) b (subst (λ x. IsSome (k.cell x)) (sym same) there))

    -- something is done for the name to its dinode's block and to that with the record, and to those to which something was done for the others
    changes_now : (b : ℕ) → (get new.fates b ≡ None) ⊎ IsLostAt (names ++ name ∷ []) h b
    changes_now b = elim (cases_eq b dir) [
      | inl same ↦ inr (last_lost names name h k b before.lost (its_dinode (same ∙ sym shown.inode.own)))
      | inr away ↦ elim (cases_eq b leaf) [
        | inl same ↦ inr (last_lost names name h k b before.lost (its_record (subst (HasRecordOf k name) (sym same) (without.from k before.shown))))
        | inr other ↦ elim (before.changes b) [
          | inl none ↦ inl (two.others b away other ∙ none)
          | inr at ↦ inr (lost_more_at names name h b at)
        ]
      ]
    ]

    lost_now : LosesName k (left_of v new.fates h) name → IsSome (k.cell leaf) → IsShown u dir (left_of v new.fates h) → IsLostIn v dir (names ++ name ∷ []) new.fates h
    lost_now one there seen_now = record {
      lost = lost_more names name h k (left_of v new.fates h) before.lost one;
      shown = seen_now;
      others = λ b none. two.others b (not_dir b none) (not_leaf there b none) ∙ before.others b none;
      changes = changes_now;
    }

    -- of a linear one, whatever else it is
    plain_now : is_hashed_in h ≡ false → height_in h ≡ 0 → IsLostIn v dir (names ++ name ∷ []) new.fates h
    plain_now plain flat =
        let e = named k before.shown in
        let k_is = all_plain names h k before.lost plain in
        let one = subst (λ g. LosesName k g name) left_over (loses_plain w (seen_in seen new) dir name leaf without k before.shown k_is.0 e.0 e.1) in
        let g_is = plain_lost k (left_of v new.fates h) name one k_is.0 in
        lost_now one (leaf_plain w dir k name leaf before.shown k_is.0 (without.from k before.shown))
        (plain_shown u h dir shown.inode.own shown.inode.dinode shown.inode.size g_is.0 (g_is.1 ∙ k_is.1 ∙ flat))

  module _ (h : Holding) (shown : IsShown v dir h) (sound : IsSound h) (before : IsLostIn v dir names old.fates h) where
    k_sound : IsSound (left_of v old.fates h)
    k_sound = all_sound names h (left_of v old.fates h) before.lost sound

    one : LosesName (left_of v old.fates h) (left_of v new.fates h) name
    one =
        let e = named (left_of v old.fates h) before.shown in
        subst (λ g. LosesName (left_of v old.fates h) g name) (left_over h shown before)
        (loses_one w (seen_in seen new) dir name leaf without (left_of v old.fates h) before.shown k_sound e.0 e.1)

    pub each_now : IsLostIn v dir (names ++ name ∷ []) new.fates h
    each_now = lost_now h shown before one (leaf_there w dir (left_of v old.fates h) name leaf before.shown k_sound (without.from (left_of v old.fates h) before.shown))
        (shown_over u h dir shown.inode.own (sound_lost (left_of v old.fates h) (left_of v new.fates h) name one k_sound) shown.inode.size)

  pub are_lost : AreLost v dir (names ++ name ∷ []) new.fates
  are_lost = record { puts = puts_now; sees = sees_now; each = each_told }
    where
      each_told : (h : Holding) → IsShown v dir h → CanTell (names ++ name ∷ []) h → IsLostIn v dir (names ++ name ∷ []) new.fates h
      each_told h shown (none_went none) = absurd (omega (arith, ap length none, length-append names (name ∷ [])))
      each_told h shown (of_sound sound) = each_now h shown sound (lost.each h shown (of_sound sound))
      each_told h shown (of_linear plain flat) = plain_now h shown (lost.each h shown (of_linear plain flat)) plain flat

  -- its dinode is there then, where it is told what it is
  pub able_then : (h : Holding) → IsShown v dir h → CanTell (names ++ name ∷ []) h → is_directory_in h ≡ true
      → ((seen_in seen new).block_at dir ≡ Some two.bytes) × (HasHeader 4 400 two.bytes × (is_directory (dinode_of two.bytes) ≡ true))
  able_then h shown told was =
      let left = left_of v new.fates h in
      let one = are_lost.each h shown told in
      let there : u.block_at dir ≡ Some two.bytes = put_seen v new.fates dir (inode_lock dir) false two.bytes two.put in
      let is : is_directory_in left ≡ true = all_directory (names ++ name ∷ []) h left one.lost ∙ was in
      let read = answer_ok (header_fault dinode_length 4 400 two.bytes) (dinode_of two.bytes) two.dinode two.read in (
        ap (λ (x : Seen). x.block_at dir) new_is ∙ there,
        (header_from dinode_length 4 400 two.bytes read.0, ap is_directory (sym (dinode_here u dir left two.bytes one.shown.inode there)) ∙ is),
      )

-- ---- the first name that goes

module _ {V : Type 0} (seen : V → Seen) (old new : Drafted V) (dir : ℕ) (name : List ℕ) (leaf : ℕ) (fresh : old.fates ≡ empty) (without : IsWithoutName (seen_in seen old) (seen_in seen new) dir name leaf)
    (two : PutsTwo seen old new dir leaf) (named : HasNameIn (seen old.view) dir name) where
  none_before : AreLost (seen old.view) dir [] old.fates
  none_before = subst (AreLost (seen old.view) dir []) (sym fresh) (lost_none (seen old.view) dir)

  named_old : HasNameIn (seen_in seen old) dir name
  named_old = subst (λ x. HasNameIn x dir name) (sym (seen_old seen old fresh)) named

  pub first_lost : AreLost (seen old.view) dir (name ∷ []) new.fates
  first_lost = are_lost seen old new dir [] name leaf none_before without two named_old

  -- it has its dinode then
  pub first_able : (h : Holding) → IsShown (seen old.view) dir h → CanTell (name ∷ []) h → IsDirectoryIn (seen old.view) dir
      → ((seen_in seen new).block_at dir ≡ Some two.bytes) × (HasHeader 4 400 two.bytes × (is_directory (dinode_of two.bytes) ≡ true))
  first_able h shown told directory = able_then seen old new dir [] name leaf none_before without two named_old h shown told
      (is_directory_here (seen old.view) dir h directory (none_before.sees dir two.there) shown.inode)
