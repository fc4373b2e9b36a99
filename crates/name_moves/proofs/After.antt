-- What is told, or asked for, of a directory from which names went in a draft.
use Rattle.std.proofs.Common.{◌≡◌, ◌≢◌, ℕ, true, List, [], ◌∷◌, None, Some, sym, ◌∙◌}
use Rattle.std.specs.Ordering.{nat_cmp}
use Rattle.std.specs.FinMap.{FinMap}
use Rattle.drafts.specs.Fates.{Drafted, seen_in, seen_with}
use Rattle.drafts.specs.declared.fate.Fate.{Fate}
use Rattle.gfs2_layout.specs.Holding.{Holding}
use Rattle.gfs2_layout.specs.Headers.{HasHeader}
use Rattle.gfs2_layout.specs.Inode.{records_of}
use Rattle.gfs2_layout.specs.Structures.{dinode_of, is_directory}
use Rattle.glock_names.specs.Steps.{TellsOf}
use Rattle.glock_names.specs.Views.{Seen}
use Rattle.glock_names.specs.declared.steps.CallFault.{CallFault}
use Rattle.glock_names.specs.declared.steps.Missing.{Missing}
use Rattle.directories.specs.Shown.{IsBroken, IsDirectoryIn, IsNeededFor, IsShown, Says}
use Rattle.directories.specs.Taking.{HasNameIn, IsWithoutName, PutsTwo}
use Rattle.directories.proofs.Forms.{is_directory_here}
use Rattle.directories.proofs.Sound.{says_sound}
use Rattle.name_drafts.proofs.WalkFaults.{tells_each, tells_so}
use Rattle.name_drafts.proofs.Images.{no_record}
use Rattle.name_drafts.specs.Inserting.{IsNeededForName, IsWrongForName, SeesForName}
use Rattle.name_moves.specs.Becoming.{CanTell, IsAfter, none_went, of_linear, of_none, of_sound}
use Rattle.name_moves.specs.Steps.{AreLost, left_of}
use Rattle.name_moves.proofs.Loses.{all_directory, all_plain, all_sound, named_plain, named_sound, only_one, plain_says, still_named, tell_as}
use Rattle.name_moves.proofs.Lost.{able_then, are_lost}
use Rattle.name_moves.proofs.Told.{broken_below, name_needed_below, name_seen_below, name_wrong_below, needed_below}

-- before any went
pub after_none : (v : Seen) (dir : ℕ) (P : Holding → Type 0) → ((h : Holding) → IsShown v dir h → P h) → IsAfter v dir [] P
after_none v dir P is h shown any = (h, of_none h, is h shown)

pub none_broken : (v : Seen) (dir : ℕ) (f : CallFault) → ((h : Holding) → IsShown v dir h → TellsOf (IsBroken v h) f) → TellsOf (λ rule b. IsAfter v dir [] (λ k. IsBroken v k rule b)) f
none_broken v dir f tells =
    tells_so (λ rule b. (h : Holding) → IsShown v dir h → IsBroken v h rule b) (λ rule b. IsAfter v dir [] (λ k. IsBroken v k rule b)) (λ rule b broken. after_none v dir (λ k. IsBroken v k rule b) broken) f
    (tells_each (IsShown v dir) (IsBroken v) f tells)

module _ (v : Seen) (dir : ℕ) (names : List (List ℕ)) (fates : FinMap nat_cmp Fate) (lost : AreLost v dir names fates) where
  abbrev w : Seen
  w = seen_with v fates

  after : (P Q : Holding → Type 0) → ((k : Holding) → P k → Q k) → ((k : Holding) → IsShown w dir k → P k) → IsAfter v dir names Q
  after P Q so is h shown t = let one = lost.each h shown t in (left_of v fates h, one.lost, so (left_of v fates h) (is (left_of v fates h) one.shown))

  pub after_needed : (name : List ℕ) (m : Missing) → ((k : Holding) → IsShown w dir k → IsNeededFor w k name m) → IsAfter v dir names (λ k. IsNeededFor v k name m)
  after_needed name m = after (λ k. IsNeededFor w k name m) (λ k. IsNeededFor v k name m) (λ k. needed_below v fates k name m)

  pub after_broken : (f : CallFault) → ((k : Holding) → IsShown w dir k → TellsOf (IsBroken w k) f) → TellsOf (λ rule b. IsAfter v dir names (λ k. IsBroken v k rule b)) f
  after_broken f tells =
      tells_so (λ rule b. (k : Holding) → IsShown w dir k → IsBroken w k rule b) (λ rule b. IsAfter v dir names (λ k. IsBroken v k rule b))
      (λ rule b. after (λ k. IsBroken w k rule b) (λ k. IsBroken v k rule b) (λ k. broken_below v fates k rule b)) f (tells_each (IsShown w dir) (IsBroken w) f tells)

  pub after_needed_name : (name : List ℕ) (m : Missing) → ((k : Holding) → IsShown w dir k → IsNeededForName w k name m) → IsAfter v dir names (λ k. IsNeededForName v k name m)
  after_needed_name name m = after (λ k. IsNeededForName w k name m) (λ k. IsNeededForName v k name m) (λ k. name_needed_below v fates k name m)

  pub after_sees_name : (name : List ℕ) → ((k : Holding) → IsShown w dir k → SeesForName w k name) → IsAfter v dir names (λ k. SeesForName v k name)
  after_sees_name name = after (λ k. SeesForName w k name) (λ k. SeesForName v k name) (λ k. name_seen_below v fates lost.sees k name)

  pub after_wrong_name : (f : CallFault) → ((k : Holding) → IsShown w dir k → TellsOf (IsWrongForName w k) f) → TellsOf (λ rule b. IsAfter v dir names (λ k. IsWrongForName v k rule b)) f
  after_wrong_name f tells =
      tells_so (λ rule b. (k : Holding) → IsShown w dir k → IsWrongForName w k rule b) (λ rule b. IsAfter v dir names (λ k. IsWrongForName v k rule b))
      (λ rule b. after (λ k. IsWrongForName w k rule b) (λ k. IsWrongForName v k rule b) (λ k. name_wrong_below v fates k rule b)) f (tells_each (IsShown w dir) (IsWrongForName w) f tells)

-- ---- a second name that goes

module _ {V : Type 0} (seen : V → Seen) (old : Drafted V) (dir : ℕ) (gone name : List ℕ) (lost_one : AreLost (seen old.view) dir (gone ∷ []) old.fates) where
  -- it is still there, where it is told what the directory is
  pub second_there : name ≢ gone → HasNameIn (seen old.view) dir name → (h : Holding) → IsShown (seen old.view) dir h → CanTell (gone ∷ []) h → ((k : Holding) → IsShown (seen_in seen old) dir k → Says k name None) → ⊥
  second_there other named h shown told nowhere = by told
    where
      by : CanTell (gone ∷ []) h → ⊥
      by (none_went none) = absurd (no none)
        where
          no : gone ∷ [] ≡ [] → ⊥
          no e = cc
      by (of_sound sound) =
          let one = lost_one.each h shown (of_sound sound) in
          let e = named h shown in
          let r = named_sound h name e.0 sound e.1 in
          still_named h (left_of (seen old.view) old.fates h) gone name r.0 (only_one gone h (left_of (seen old.view) old.fates h) one.lost) other r.1
          (no_record (records_of (left_of (seen old.view) old.fates h)) name
          (says_sound (left_of (seen old.view) old.fates h) name None (all_sound (gone ∷ []) h (left_of (seen old.view) old.fates h) one.lost sound) (nowhere (left_of (seen old.view) old.fates h) one.shown)))
      by (of_linear plain flat) =
          let one = lost_one.each h shown (of_linear plain flat) in
          let e = named h shown in
          let r = named_plain h name e.0 plain e.1 in
          still_named h (left_of (seen old.view) old.fates h) gone name r.0 (only_one gone h (left_of (seen old.view) old.fates h) one.lost) other r.1
          (no_record (records_of (left_of (seen old.view) old.fates h)) name
          (plain_says (left_of (seen old.view) old.fates h) name None (all_plain (gone ∷ []) h (left_of (seen old.view) old.fates h) one.lost plain).0 (nowhere (left_of (seen old.view) old.fates h) one.shown)))

  module _ (new : Drafted V) (leaf : ℕ) (without : IsWithoutName (seen_in seen old) (seen_in seen new) dir name leaf) (two : PutsTwo seen old new dir leaf) (named : HasNameIn (seen_in seen old) dir name) where
    pub second_lost : AreLost (seen old.view) dir (gone ∷ name ∷ []) new.fates
    second_lost = are_lost seen old new dir (gone ∷ []) name leaf lost_one without two named

    pub second_able : (h : Holding) → IsShown (seen old.view) dir h → CanTell (gone ∷ name ∷ []) h → IsDirectoryIn (seen_in seen old) dir
        → ((seen_in seen new).block_at dir ≡ Some two.bytes) × (HasHeader 4 400 two.bytes × (is_directory (dinode_of two.bytes) ≡ true))
    second_able h shown told directory =
        let one = lost_one.each h shown (tell_as gone (name ∷ []) (gone ∷ []) h told) in
        let k = left_of (seen old.view) old.fates h in
        able_then seen old new dir (gone ∷ []) name leaf lost_one without two named h shown told
        (sym (all_directory (gone ∷ []) h k one.lost) ∙ is_directory_here (seen_in seen old) dir k directory two.there one.shown.inode)
