-- What a call that changes a file's content finds at its path's end: why it is refused, and a write that stays in the dinode's block.
use Rattle.std.proofs.Common.{◌≡◌, ◌+◌, ◌<◌, ℕ, Bool, true, false, true≢false, List, [], length, sym, ap, ◌∙◌, subst, subst₂, arith, refl}
use Rattle.std.specs.Prelude.{IsErrAnd, Result, if◌then◌else◌}
use Rattle.file_tree.specs.Apply.{Refused, apply, walk}
use Rattle.file_tree.specs.Tree.{Tree}
use Rattle.file_tree.specs.declared.call.Call.{Call}
use Rattle.file_tree.specs.declared.call.Call.TheVariants.{Sync, Truncate}
use Rattle.file_tree.specs.declared.reply.Reply.{Reply}
use Rattle.file_tree.specs.declared.reply.Reply.TheVariants as reply
use Rattle.cluster_history.specs.Changes.{is_ok}
use Rattle.drafts.specs.declared.attempt.Attempt.{Attempt}
use Rattle.drafts.specs.declared.change.Change.{Change}
use Rattle.gfs2_layout.specs.Holding.{Holding}
use Rattle.gfs2_layout.specs.Inode.{content_of, dinode_in, is_directory_in}
use Rattle.gfs2_layout.specs.Structures.{dinode_length, is_directory}
use Rattle.gfs2_layout.specs.declared.dinode.Dinode.{Dinode}
use Rattle.glock_names.specs.Steps.{IfDamaged, TellsOf}
use Rattle.glock_names.specs.Steps as step
use Rattle.glock_names.specs.Views.{Seen}
use Rattle.glock_names.specs.declared.LockName.{LockName}
use Rattle.glock_names.specs.declared.State.{State}
use Rattle.glock_names.specs.declared.steps.Missing.{Missing}
use Rattle.glock_names.specs.declared.steps.CallFault.{CallFault}
use Rattle.glock_names.specs.declared.steps.CallFault.TheVariants.{Damaged, NoMemory}
use Rattle.call_locks.specs.Wants.{wanted}
use Rattle.call_locks.specs.WantLaws.{path_of}
use Rattle.dinode_tree.specs.Broken.{IsBroken, too_large_for_dinode}
use Rattle.dinode_tree.specs.Shown.{IsShown}
use Rattle.image_model.specs.Flat.{follow}
use Rattle.image_model.specs.Image.{Image}
use Rattle.image_model.specs.Owners.{Owners, holding}
use Rattle.image_model.specs.Stands.{Layout, flat_of}
use Rattle.image_changes.specs.Does.{IsOf, Does}
use Rattle.image_changes.proofs.DirectoryNames.{directories_list}
use Rattle.path_walks.specs.Answers.{HasSpace, IfDone}
use Rattle.path_walks.specs.Holds.{Hold, AreHeld, IsAskedFor, IsFirstLack, holds_in}
use Rattle.path_walks.specs.Walks as path
use Rattle.path_walks.specs.Walks.{IsSeenAt, IsWalked, IsWrongAt}
use Rattle.path_walks.specs.declared.walk.Place.{Place}
use Rattle.path_walks.specs.declared.walk.Walk.TheVariants.{At}
use Rattle.path_walks.proofs.Images.{is_shown, unbroken}
use Rattle.path_walks.proofs.Faults.{told_on}
use Rattle.path_walks.proofs.Longer.{asked_before, lack_before}
use Rattle.read_calls.proofs.Trees.{wrong_damage}
use Rattle.writing_calls.specs.Contents.{IsAimOf, IsRefusedAim, NeedsBlocks, StaysStuffed}
use Rattle.writing_calls.specs.Drafting.{IsWrite}
use Rattle.writing_calls.specs.Writing.{GoesIntoBlocks, IfSync, IsAnswered, IsAtEnd, IsDamage, IsEdit, IsEditAnswered, IsRefused, Writes, call_holds, end_of, group_holds_at, is_dir, too_big}
use Rattle.writing_calls.specs.declared.aims.Aim.TheVariants as aim
use Rattle.writing_calls.proofs.Doing.{edit_of_directory, file_there, refused, too_long, write_does}
use Rattle.writing_calls.proofs.Listed.{plain_list}

-- an inode in which the content hasn't room is broken
broken_so : (v : Seen) (a : ℕ) (d : Dinode) (h : Holding) → IsShown v a h → d ≡ dinode_in h → d.height ≡ 0 → v.size < dinode_length + d.size → IsBroken h 8 a
broken_so v a d h shown was low large =
    subst (IsBroken h 8) shown.own (too_large_for_dinode (ap (λ (x : Dinode). x.height) (sym was) ∙ low) (omega (arith, large, shown.size, ap (λ (x : Dinode). x.size) was)))

-- damage on the path is damage of the call
damage_on : (v : Seen) (c : Call) (f : CallFault) → step.IsDamage (path.IsDamage v (wanted c) (path_of c false)) f → TellsOf (IsDamage v c) f
damage_on v c (Damaged b rule) on = IsDamage.on_path rule b on
damage_on v c NoMemory on = absurd on

pub damage_told : {B : Type 0} (v : Seen) (c : Call) (r : Result B CallFault) (f : CallFault) → IsErrAnd r (λ g. g ≡ f) → step.IsDamage (path.IsDamage v (wanted c) (path_of c false)) f → IfDamaged r (IsDamage v c)
damage_told v c r f is on = told_on (IsDamage v c) r f is (damage_on v c f on)

-- what is refused isn't answered Ok, and doesn't tell of too few free blocks
pub aim_refusal : (d : Dinode) (end : ℕ) (r : Reply) → IsRefusedAim d end r → (is_ok r ≡ false) × HasSpace r
aim_refusal d end reply.IsDir is = (refl, tt)
aim_refusal d end reply.TooBig is = (refl, tt)
aim_refusal d end reply.Ok is = absurd is
aim_refusal d end (reply.Bytes bytes) is = absurd is
aim_refusal d end (reply.Stat kind count) is = absurd is
aim_refusal d end (reply.Names names) is = absurd is
aim_refusal d end reply.NotFound is = absurd is
aim_refusal d end reply.NotDir is = absurd is
aim_refusal d end reply.Exists is = absurd is
aim_refusal d end reply.NotEmpty is = absurd is
aim_refusal d end reply.Inside is = absurd is
aim_refusal d end reply.NoSpace is = absurd is

-- and is the answer of the call
pub edit_refused : (v : Seen) (c : Call) (node time : ℕ) (r : Reply) (change : Change) → is_ok r ≡ false → IsRefused v c r → IsEditAnswered v c node time r change
edit_refused v c node time reply.Ok change refuses is = absurd (true≢false refuses)
edit_refused v c node time reply.IsDir change refuses is = is
edit_refused v c node time reply.TooBig change refuses is = is
edit_refused v c node time (reply.Bytes bytes) change refuses is = is
edit_refused v c node time (reply.Stat kind count) change refuses is = is
edit_refused v c node time (reply.Names names) change refuses is = is
edit_refused v c node time reply.NotFound change refuses is = is
edit_refused v c node time reply.NotDir change refuses is = is
edit_refused v c node time reply.Exists change refuses is = is
edit_refused v c node time reply.NotEmpty change refuses is = is
edit_refused v c node time reply.Inside change refuses is = is
edit_refused v c node time reply.NoSpace change refuses is = is

pub edit_answered : (v : Seen) (c : Call) (node time : ℕ) (r : Result Attempt CallFault) → (c ≡ Sync → ⊥) → IfDone r (IsEditAnswered v c node time) → IfDone r (IsAnswered v c node time)
edit_answered v Sync node time r other is = absurd (other refl)
edit_answered v c node time r other is = is

pub no_sync : (c : Call) (P : Type 0) → (c ≡ Sync → ⊥) → IfSync c P
no_sync Sync P other = absurd (other refl)
no_sync c P other = tt

-- a call that sets a file's size
pub resizes_edit : (c : Call) (size : ℕ) → c ≡ Truncate (path_of c false) size → IsEdit c
resizes_edit c size cuts = subst IsEdit (sym cuts) tt

-- ---- the walk along the path, in an image that the view may be of

module _ (v : Seen) (im : Image) (o : Owners) (l : Layout) (t : Tree) (c : Call) (node : ℕ) where
  abbrev path_list : List Hold
  path_list = holds_in im o l (path_of c false) (wanted c)

  abbrev behind : List Hold
  behind = if is_ok (apply c t).reply then group_holds_at im o l c node (follow (flat_of im o) l.root (path_of c false)) else []

  -- a lock of the path that isn't held, or a block that is asked for on it
  pub path_lacks : (lock : LockName) (state : State) → IsFirstLack v path_list lock state → IsFirstLack v (call_holds im o l t c node) lock state
  path_lacks lock state is = lack_before v path_list behind lock state is

  pub path_asked : (m : Missing) → IsAskedFor v im o l path_list m → IsAskedFor v im o l (call_holds im o l t c node) m
  path_asked m is = asked_before v im o l path_list behind m is

  -- what the walk refuses
  pub walk_refused : IsEdit c → (r : Reply) → is_ok r ≡ false → walk t (path_of c false) ≡ Refused r → AreHeld v path_list → ((apply c t).reply ≡ r) × AreHeld v (call_holds im o l t c node)
  walk_refused edit r refuses walks held =
      let is = refused c t r edit walks in
      (is, subst (AreHeld v) (sym (plain_list im o l t c node (ap is_ok is ∙ refuses))) held)

-- ---- at the place to which the walk came

module _ (v : Seen) (c : Call) (p : Place) (edit : IsEdit c) (seen : IsSeenAt v (wanted c) (path_of c false) p) where
  -- ---- as far as the view shows

  at_end : (b : Bool) → is_directory p.dinode ≡ b → IsAtEnd v c p.inode (λ h. is_directory_in h ≡ b)
  at_end b is = record { leads = seen.leads; there = seen.there; so = λ h shown. ap is_directory (sym (seen.dinode h shown)) ∙ is }

  pub refused_told : (r : Reply) → IsRefusedAim p.dinode (end_of c) r → IsRefused v c r
  refused_told reply.IsDir is = is_dir p.inode (at_end true is)
  refused_told reply.TooBig is = too_big p.inode (at_end false is.0) is.1
  refused_told reply.Ok is = absurd is
  refused_told (reply.Bytes bytes) is = absurd is
  refused_told (reply.Stat kind size) is = absurd is
  refused_told (reply.Names names) is = absurd is
  refused_told reply.NotFound is = absurd is
  refused_told reply.NotDir is = absurd is
  refused_told reply.Exists is = absurd is
  refused_told reply.NotEmpty is = absurd is
  refused_told reply.Inside is = absurd is
  refused_told reply.NoSpace is = absurd is

  pub broken_told : (end : ℕ) → IsAimOf v.size p.dinode end aim.Broken → IsDamage v c 8 p.inode
  broken_told end is = IsDamage.on_path 8 p.inode (wrong_damage v (wanted c) (path_of c false) p.inode seen.leads 8 p.inode (IsWrongAt.in_inode 8 p.inode (λ h shown. broken_so v p.inode p.dinode h shown (seen.dinode h shown) is.0 is.1)))

  -- a write goes into blocks where it must, and a file that gets longer may
  pub goes_by_write : (at : ℕ) (new : List ℕ) → Writes c at new → NeedsBlocks v.size p.dinode (at + length new) → GoesIntoBlocks v c p.inode
  goes_by_write at new writes needs =
      subst (λ k. GoesIntoBlocks v k p.inode) (sym writes) (λ h shown. subst₂ (λ n d. NeedsBlocks n d (at + length new)) (sym shown.size) (seen.dinode h shown) needs)

  pub goes_by_growth : (size : ℕ) → c ≡ Truncate (path_of c false) size → GoesIntoBlocks v c p.inode
  goes_by_growth size cuts = subst (λ k. GoesIntoBlocks v k p.inode) (sym cuts) tt

  -- ---- in an image that the view may be of

  module _ (im : Image) (o : Owners) (l : Layout) (t : Tree) (of : IsOf v im o l t) (walked : IsWalked v im o l t (path_of c false) (wanted c) (At p)) where
    file_at : is_directory p.dinode ≡ false → is_directory_in (holding im o p.inode) ≡ false
    file_at is = ap is_directory (sym walked.0.dinode) ∙ is

    pub refused_found : (r : Reply) → IsRefusedAim p.dinode (end_of c) r → (apply c t).reply ≡ r
    refused_found reply.IsDir is =
        let listed = directories_list im o l t (path_of c false) p.inode of.stands walked.0.at (ap is_directory (sym walked.0.dinode) ∙ is) in
        edit_of_directory c t listed.entries edit listed.walks
    refused_found reply.TooBig is = too_long c t (content_of (holding im o p.inode)) edit is.1 (file_there v im o l t of (path_of c false) p.inode walked.0.at (file_at is.0))
    refused_found reply.Ok is = absurd is
    refused_found (reply.Bytes bytes) is = absurd is
    refused_found (reply.Stat kind size) is = absurd is
    refused_found (reply.Names names) is = absurd is
    refused_found reply.NotFound is = absurd is
    refused_found reply.NotDir is = absurd is
    refused_found reply.Exists is = absurd is
    refused_found reply.NotEmpty is = absurd is
    refused_found reply.Inside is = absurd is
    refused_found reply.NoSpace is = absurd is

    -- with each lock of the call's list held
    pub refused_list : (node : ℕ) (r : Reply) → IsRefusedAim p.dinode (end_of c) r → ((apply c t).reply ≡ r) × AreHeld v (call_holds im o l t c node)
    refused_list node r is =
        let e = refused_found r is in
        (e, subst (AreHeld v) (sym (plain_list im o l t c node (ap is_ok e ∙ (aim_refusal p.dinode (end_of c) r is).0))) walked.2)

    pub broken_nowhere : (end : ℕ) → IsAimOf v.size p.dinode end aim.Broken → ⊥
    broken_nowhere end is =
        unbroken v im o l t of (path_of c false) p.inode 8 p.inode walked.0.at
        (broken_so v p.inode p.dinode (holding im o p.inode) (is_shown v im o l t of (path_of c false) p.inode walked.0.at) walked.0.dinode is.0 is.1)

  pub stuffed_does : (at : ℕ) (new : List ℕ) (time : ℕ) (change : Change) → Writes c at new → StaysStuffed v.size p.dinode (at + length new) → IsWrite v p.inode at new time change
      → ((im : Image) (o : Owners) (l : Layout) (t : Tree) → IsOf v im o l t → IsWalked v im o l t (path_of c false) (wanted c) (At p)) → Does v c reply.Ok change
  stuffed_does at new time change writes stays w walked =
      write_does v p.inode at new time change w c writes stays.short seen.leads
      (λ im o l t of. let at_place = walked im o l t of in (at_place.0.at, file_at im o l t of at_place stays.file))
