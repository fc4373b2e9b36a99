-- A directory that loses a name, or whose `..` leads elsewhere, in a new draft, and then gets the time.
use Rattle.std.proofs.Common.{◌≡◌, ◌≢◌, ◌⊎◌, inl, inr, ℕ, true, false, List, [], ◌∷◌, None, Some, Ok, refl, sym, ap, ◌∙◌, subst, subst₂}
use Rattle.std.proofs.lemmas.Bool.{cases_eq}
use Rattle.std.specs.Prelude.{IsSome, codes, option_map}
use Rattle.std.specs.Ordering.{nat_cmp}
use Rattle.std.specs.FinMap.{FinMap, empty, get, get-empty, insert}
use Rattle.drafts.specs.Fates.{Drafted, seen_in, seen_with}
use Rattle.drafts.specs.declared.fate.Fate.{Fate}
use Rattle.drafts.specs.declared.fate.Fate.TheVariants.{Put}
use Rattle.gfs2_layout.specs.Holding.{Holding, bytes_at}
use Rattle.gfs2_layout.specs.Headers.{HasHeader}
use Rattle.gfs2_layout.specs.Inode.{Head, IsInode, is_directory_in, records_of}
use Rattle.gfs2_layout.specs.Structures.{dinode_length, dinode_of, dinode_read, header_fault, is_directory}
use Rattle.gfs2_layout.specs.Records.{Record, record_named}
use Rattle.gfs2_layout.specs.declared.dinode.Dinode.{Dinode}
use Rattle.gfs2_layout.specs.declared.inum.Inum.{Inum}
use Rattle.gfs2_layout.proofs.HeaderLaws.{answer_ok}
use Rattle.glock_names.specs.Views.{Seen, HasBlock}
use Rattle.dinode_tree.specs.Reading.{inode_lock}
use Rattle.dinode_tree.specs.Shown as inode
use Rattle.dinode_tree.proofs.Sound.{sound_is_shown}
use Rattle.linear_dirs.specs.Exchanges.{HasExchanged}
use Rattle.linear_dirs.specs.Shown.{bytes_over, holding_over}
use Rattle.linear_dirs.proofs.Over.{as_seen, over_over, parts_stay}
use Rattle.linear_dirs.proofs.Rewritten.{over_there}
use Rattle.hash_dirs.specs.Shown.{IsSound}
use Rattle.directories.specs.Shown.{IsShown}
use Rattle.directories.specs.Taking.{HasNameIn, HasRecordOf, IsWithoutName, PutsTwo}
use Rattle.new_inodes.specs.Touched.{IsTouched, with_times}
use Rattle.resource_groups.specs.Putting.{HasDataBlock}
use Rattle.name_drafts.specs.HashInserting.{MayChange, a_data_block, the_dinode}
use Rattle.name_redirects.specs.Leading.{record_led_to}
use Rattle.name_redirects.specs.Redirects.{IsNameLed, IsRedirected, PutsOne, records_from}
use Rattle.name_drafts.specs.Drafting.{HasTimes}
use Rattle.name_drafts.proofs.Fates.{left_seen, put_elsewhere, put_there, seen_old, sees_more}
use Rattle.name_moves.specs.Becoming.{GetsParent, GivesName, IsAtRecord, IsStamped, its_dinode, its_record, none_went}
use Rattle.name_moves.specs.Steps.{AreLost, IsChangedIn, IsChangedThere, IsLostIn, LeavesOthers, PutsOf, left_of}
use Rattle.name_moves.proofs.Loses.{kept_over, leaf_there, lost_one_at, named_sound, only_one, over_cell}
use Rattle.name_moves.proofs.Lost.{each_now, headed_directory, lost_none, puts_now}

-- a dinode that is read with these times has them
pub times_read : (final : List ℕ) (d : Dinode) (time : ℕ) → dinode_read final ≡ Ok (with_times d time) → HasTimes (dinode_of final) time
times_read final d time read =
    let same : dinode_of final ≡ with_times d time = (answer_ok (header_fault dinode_length 4 400 final) (dinode_of final) (with_times d time) read).1 in
    (ap (λ (x : Dinode). x.mtime) same, ap (λ (x : Dinode). x.ctime) same)

-- ---- the time is put over a draft

module _ {V : Type 0} (seen : V → Seen) (view : V) (mid last : Drafted V) (dir time : ℕ) (over : mid.view ≡ view) (final : List ℕ) (put : last ≡ record mid { fates = insert mid.fates dir (Put (inode_lock dir) false final) })
    (touched : (h : Holding) → inode.IsShown (seen_in seen mid) dir h → IsTouched h (holding_over (seen_in seen last) h) time) where
  abbrev v : Seen
  v = seen view

  pub last_over : last.view ≡ view
  last_over = ap (λ (d : Drafted V). d.view) put ∙ over

  fates_are : last.fates ≡ insert mid.fates dir (Put (inode_lock dir) false final)
  fates_are = ap (λ (d : Drafted V). d.fates) put

  here : get last.fates dir ≡ Some (Put (inode_lock dir) false final)
  here = ap (λ (m : FinMap nat_cmp Fate). get m dir) fates_are ∙ put_there mid.fates dir (Put (inode_lock dir) false final)

  away : (b : ℕ) → b ≢ dir → get last.fates b ≡ get mid.fates b
  away b other = ap (λ (m : FinMap nat_cmp Fate). get m b) fates_are ∙ put_elsewhere mid.fates dir (Put (inode_lock dir) false final) b other

  pub puts_timed : PutsOf v dir [] mid.fates → PutsOf v dir [] last.fates
  puts_timed puts b = elim (cases_eq b dir) [
    | inl same ↦ inr (the_dinode same, (final, ap (get last.fates) same ∙ here))
    | inr other ↦ elim (puts b) [ inl none ↦ inl (away b other ∙ none) | inr was ↦ inr (was.0, (was.1.0, away b other ∙ was.1.1)) ]
  ]

  pub others_timed : (h : Holding) → IsSome (h.cell dir) → LeavesOthers h mid.fates → LeavesOthers h last.fates
  others_timed h own others b none = away b (λ same. none (subst (λ x. IsSome (h.cell x)) (sym same) own)) ∙ others b none

  pub stamped_timed : HasTimes (dinode_of final) time → IsStamped last.fates dir time
  stamped_timed times = record { bytes = final; put = here; times = times }

  pub changes_timed : (h : Holding) (name : List ℕ) → h.own ≡ dir → ((b : ℕ) → (get mid.fates b ≡ None) ⊎ IsAtRecord h name b) → (b : ℕ) → (get last.fates b ≡ None) ⊎ IsAtRecord h name b
  changes_timed h name own changes b = elim (cases_eq b dir) [
    | inl same ↦ inr (its_dinode (same ∙ sym own))
    | inr other ↦ elim (changes b) [ inl none ↦ inl (away b other ∙ none) | inr at ↦ inr at ]
  ]

  -- what the draft left of the directory has the time then
  pub touched_over : (h : Holding) → inode.IsShown (seen_with v mid.fates) dir (left_of v mid.fates h) → IsTouched (left_of v mid.fates h) (left_of v last.fates h) time
  touched_over h shown =
      let mid_is : seen_in seen mid ≡ seen_with v mid.fates = ap (λ x. seen_with (seen x) mid.fates) over in
      let last_is : seen_in seen last ≡ seen_with v last.fates = ap (λ x. seen_with (seen x) last.fates) last_over in
      let k = left_of v mid.fates h in
      let later : (b : ℕ) → HasBlock (seen_with v mid.fates) b → HasBlock (seen_with v last.fates) b =
      λ b has. subst (λ m. HasBlock (seen_with v m) b) (sym fates_are) (sees_more v mid.fates dir (inode_lock dir) false final b has) in
      subst (λ g. IsTouched k g time) (ap (λ x. holding_over x k) last_is ∙ over_over (seen_with v mid.fates) (seen_with v last.fates) h later) (touched k (subst (λ x. inode.IsShown x dir k) (sym mid_is) shown))

-- ---- a name goes

module _ {V : Type 0} (seen : V → Seen) (old mid last : Drafted V) (new : old.fates ≡ empty) (dir : ℕ) (name : List ℕ) (time leaf : ℕ) (without : IsWithoutName (seen_in seen old) (seen_in seen mid) dir name leaf)
    (two : PutsTwo seen old mid dir leaf) (named : HasNameIn (seen_in seen old) dir name) (final : List ℕ) (put : last ≡ record mid { fates = insert mid.fates dir (Put (inode_lock dir) false final) })
    (touched : (h : Holding) → inode.IsShown (seen_in seen mid) dir h → IsTouched h (holding_over (seen_in seen last) h) time) where
  lost : AreLost (seen old.view) dir [] old.fates
  lost = subst (AreLost (seen old.view) dir []) (sym new) (lost_none (seen old.view) dir)

  pub given_view : last.view ≡ old.view
  given_view = last_over seen old.view mid last dir time two.view final put touched

  module _ (h : Holding) (shown : IsShown (seen old.view) dir h) (sound : IsSound h) where
    is : IsLostIn (seen old.view) dir (name ∷ []) mid.fates h
    is = each_now seen old mid dir [] name leaf lost without two named h shown sound (lost.each h shown (none_went refl))

    changes : (b : ℕ) → (get mid.fates b ≡ None) ⊎ IsAtRecord h name b
    changes b = elim (is.changes b) [ inl none ↦ inl none | inr at ↦ inr (lost_one_at name h b at) ]

    gives : IsChangedIn (seen old.view) last.fates (λ k g. GivesName k g name time) name h
    gives = record {
      becomes = record {
        without = left_of (seen old.view) mid.fates h;
        lost = only_one name h (left_of (seen old.view) mid.fates h) is.lost;
        touched = touched_over seen old.view mid last dir time two.view final put touched h is.shown.inode;
      };
      others = others_timed seen old.view mid last dir time two.view final put touched h (subst (λ b. IsSome (h.cell b)) shown.inode.own shown.inode.dinode) is.others;
      changes = changes_timed seen old.view mid last dir time two.view final put touched h name shown.inode.own changes;
    }

  pub given : HasTimes (dinode_of final) time → IsChangedThere (seen old.view) dir last.fates (λ k g. GivesName k g name time) name time
  given times = record {
    stamped = stamped_timed seen old.view mid last dir time two.view final put touched times;
    puts = puts_timed seen old.view mid last dir time two.view final put touched (puts_now seen old mid dir [] name leaf lost without two named);
    each = gives;
  }

-- ---- `..` leads elsewhere

module _ {V : Type 0} (seen : V → Seen) (old mid : Drafted V) (new : old.fates ≡ empty) (dir block : ℕ) (parent : Inum) (led : IsRedirected (seen_in seen old) (seen_in seen mid) dir (codes "..") parent block)
    (one : PutsOne seen old mid dir block) (named : HasNameIn (seen old.view) dir (codes "..")) where
  abbrev below : Seen
  below = seen old.view

  pub led_view : mid.view ≡ old.view
  led_view = ap (λ (d : Drafted V). d.view) one.put

  mid_is : seen_in seen mid ≡ seen_with below mid.fates
  mid_is = ap (λ x. seen_with (seen x) mid.fates) led_view

  mid_fates : mid.fates ≡ insert old.fates block (Put (inode_lock dir) false one.bytes)
  mid_fates = ap (λ (d : Drafted V). d.fates) one.put

  redirected : IsRedirected below (seen_with below mid.fates) dir (codes "..") parent block
  redirected = subst (λ x. IsRedirected below x dir (codes "..") parent block) mid_is (subst (λ x. IsRedirected x (seen_in seen mid) dir (codes "..") parent block) (seen_old seen old new) led)

  at : (b : ℕ) → b ≡ block → get mid.fates b ≡ Some (Put (inode_lock dir) false one.bytes)
  at b same = ap (get mid.fates) same ∙ ap (λ (m : FinMap nat_cmp Fate). get m block) mid_fates ∙ put_there old.fates block (Put (inode_lock dir) false one.bytes)

  apart : (b : ℕ) → b ≢ block → get mid.fates b ≡ None
  apart b other = ap (λ (m : FinMap nat_cmp Fate). get m b) mid_fates ∙ put_elsewhere old.fates block (Put (inode_lock dir) false one.bytes) b other ∙ ap (λ (m : FinMap nat_cmp Fate). get m b) new ∙ get-empty nat_cmp b

  may : (b : ℕ) → b ≡ block → MayChange below dir [] b
  may b same = elim one.inside [ inl own ↦ the_dinode (same ∙ own) | inr data_block ↦ a_data_block (subst (HasDataBlock below) (sym same) data_block) ]

  puts_led : PutsOf below dir [] mid.fates
  puts_led b = elim (cases_eq b block) [ inl same ↦ inr (may b same, (one.bytes, at b same)) | inr other ↦ inl (apart b other) ]

  module _ (h : Holding) (shown : IsShown below dir h) (sound : IsSound h) where
    abbrev k : Holding
    k = left_of below mid.fates h

    pub leads : (r : Record) × (record_named (records_of h) (codes "..") ≡ Some r)
    leads = let e = named h shown in named_sound h (codes "..") e.0 sound e.1

    exchanged : HasExchanged h k (leads.0 ∷ []) (record_led_to parent leads.0 ∷ [])
    exchanged = redirected.exchanged h leads.0 shown (λ hashed. sound) leads.1

    pub led_inode : IsInode k
    led_inode = exchanged.sound sound.inode

    pub led_shown : inode.IsShown (seen_with below mid.fates) dir k
    led_shown = subst (λ a. inode.IsShown (seen_with below mid.fates) a k) shown.inode.own
        (sound_is_shown (seen_with below mid.fates) k led_inode (parts_stay (seen_with below mid.fates) h h.own ∙ sound.placed.own) shown.inode.size (as_seen (seen_with below mid.fates) h))

    -- its dinode, once it was led elsewhere
    pub led_able : is_directory_in h ≡ true → (bytes : List ℕ) → (seen_in seen mid).block_at dir ≡ Some bytes → HasHeader 4 400 bytes × (is_directory (dinode_of bytes) ≡ true)
    led_able is bytes there =
        headed_directory (seen_with below mid.fates) dir k led_shown led_inode (ap (λ (x : Head). x.is_dir) exchanged.head ∙ is) bytes (ap (λ (x : Seen). x.block_at dir) (sym mid_is) ∙ there)

    at_block : IsSome (h.cell block)
    at_block = leaf_there below dir h (codes "..") block shown sound (redirected.from h shown)

    -- in the block with the record both numbers are written, and no other block changes
    pub in_place : IsNameLed (records_from h) (bytes_at h block) (bytes_at k block) (codes "..") parent
    in_place =
        let before : bytes_at h block ≡ redirected.old = shown.inode.same block redirected.old at_block redirected.was in
        let w = seen_with below mid.fates in
        let after : bytes_at k block ≡ redirected.new = as_seen w h block redirected.new (over_there (w.block_at block) (h.cell block) ∙ at_block) redirected.is in
        subst₂ (λ x y. IsNameLed (records_from h) x y (codes "..") parent) (sym before) (sym after) (redirected.led h shown)

    pub cells_stay : (b : ℕ) → b ≢ block → k.cell b ≡ h.cell b
    cells_stay b other = ap (λ o. option_map (bytes_over o) (h.cell b)) (left_seen below mid.fates b (apart b other)) ∙ over_cell (below.block_at b) (h.cell b) (shown.inode.same b)

    pub changes_led : (b : ℕ) → (get mid.fates b ≡ None) ⊎ IsAtRecord h (codes "..") b
    changes_led b = elim (cases_eq b block) [
      | inl same ↦ inr (its_record (subst (HasRecordOf h (codes "..")) (sym same) (redirected.from h shown)))
      | inr other ↦ inl (apart b other)
    ]

    others_led : LeavesOthers h mid.fates
    others_led b none = apart b (λ same. none (subst (λ x. IsSome (h.cell x)) (sym same) at_block))

  module _ (last : Drafted V) (time : ℕ) (final : List ℕ) (put : last ≡ record mid { fates = insert mid.fates dir (Put (inode_lock dir) false final) })
      (touched : (h : Holding) → inode.IsShown (seen_in seen mid) dir h → IsTouched h (holding_over (seen_in seen last) h) time) where
    pub up_view : last.view ≡ old.view
    up_view = last_over seen old.view mid last dir time led_view final put touched

    pub led_up : HasTimes (dinode_of final) time → IsChangedThere below dir last.fates (λ k g. GetsParent k g parent time) (codes "..") time
    led_up times = record {
      stamped = stamped_timed seen old.view mid last dir time led_view final put touched times;
      puts = puts_timed seen old.view mid last dir time led_view final put touched puts_led;
      each = λ h shown sound. record {
        becomes = record {
          old = (leads h shown sound).0;
          was = (leads h shown sound).1;
          led = left_of below mid.fates h;
          kept = kept_over (seen_with below mid.fates) h;
          block = block;
          of_name = redirected.from h shown;
          in_place = in_place h shown sound;
          others = cells_stay h shown sound;
          exchanged = exchanged h shown sound;
          touched = touched_over seen old.view mid last dir time led_view final put touched h (led_shown h shown sound);
        };
        others = others_timed seen old.view mid last dir time led_view final put touched h (subst (λ b. IsSome (h.cell b)) shown.inode.own shown.inode.dinode) (others_led h shown sound);
        changes = changes_timed seen old.view mid last dir time led_view final put touched h (codes "..") shown.inode.own (changes_led h shown sound);
      };
    }
