-- A block that a call needs which moves a name lies out of the device: its number stands in a block that is wrong.
use Rattle.std.proofs.Common.{◌≡◌, ℕ, ◌≤◌, ◌⊎◌, inl, inr, Bool, List, [], ◌++◌, None, true, false, refl, sym, ap, ◌∙◌, subst, arith}
use Rattle.std.specs.Prelude.{codes}
use Rattle.call_locks.specs.declared.want.Want.{Want}
use Rattle.call_locks.specs.Wants.{at_old_name}
use Rattle.call_locks.specs.WantLaws.{path_of}
use Rattle.dinode_tree.specs.Below.{AnyIndex}
use Rattle.dinode_tree.specs.Walking.{missing_dinode}
use Rattle.directories.proofs.Forms.{is_directory_here}
use Rattle.directories.specs.Shown as dirs
use Rattle.file_tree.specs.Names.{parent_of}
use Rattle.file_tree.specs.declared.call.Call.{Call}
use Rattle.file_tree.specs.declared.call.Call.TheVariants as calls
use Rattle.gfs2_layout.specs.Holding.{Holding}
use Rattle.glock_names.specs.Views.{Seen}
use Rattle.glock_names.specs.declared.steps.Missing.{Missing}
use Rattle.image_model.specs.Flat.{Path}
use Rattle.image_model.specs.Image.{Image}
use Rattle.file_calls.specs.Walks.{IsDirectoryAt, IsHeldAt, IsNext, IsUnread, LeadsTo}
use Rattle.resource_groups.specs.Freeing as freeing
use Rattle.file_calls.specs.Moving as moving
use Rattle.file_calls.specs.Moving.{IsMeant}
use Rattle.file_calls.specs.MoveCarrying as carrying
use Rattle.file_calls.specs.MoveChecks as checks
use Rattle.file_calls.specs.MoveEnds as ends
use Rattle.file_calls.specs.NameBecoming.{IsAfter}
use Rattle.file_calls.specs.NameInserting as names_in
use Rattle.file_calls.specs.NameMoving as drafted
use Rattle.file_calls.specs.NameMoving.{Move, freed_by, lost_there}
use Rattle.file_calls.specs.PairWalks as pairs
use Rattle.file_calls.specs.Removing as removing
use Rattle.damage_laws.specs.Telling.{HasAstray, HasAstrayOn, HasWholeGroups, IsBrokenSource, IsReadFrom, of_move, source_of}
use Rattle.damage_laws.proofs.Claimed.{further}
use Rattle.file_calls.proofs.MoveGoings.{after_none, some_lost}
use Rattle.damage_laws.proofs.Moves.{from_leads, moved_directory, moved_leads, to_directory, to_leads}
use Rattle.damage_laws.proofs.Needed.{all_way, directory_out, insert_way, name_way, needed_out, unread_out}
use Rattle.damage_laws.proofs.Owned.{from_parent}

-- a block of one of two ways is one of that way
of_way : (v : Seen) (wants : List Want) (path : Path) (depth a : ℕ) (n : Missing) → pairs.IsUnreadOf v wants path depth a n → IsUnread v wants path n
of_way v wants path depth a n (pairs.IsUnreadOf.a_dinode next held absent is) =
    let same : n.block ≡ a = ap (λ (x : Missing). x.block) is in
    IsUnread.a_dinode depth (subst (IsNext v wants path depth) (sym same) next) (subst (IsHeldAt v wants depth) (sym same) held) (subst (λ b. v.block_at b ≡ None) (sym same) absent) (is ∙ ap missing_dinode (sym same))
of_way v wants path depth a n (pairs.IsUnreadOf.in_directory front back name next on as_deep leads there needs) = IsUnread.in_directory front back a name on leads there needs.directory needs.needed needs.absent

module _ (v : Seen) (im : Image) (p q : Path) (read : IsReadFrom v im) (whole : HasWholeGroups v im) where
  abbrev call : Call
  call = calls.Rename p q

  abbrev names : Bool → Path
  names second = path_of call second

  abbrev Source : Missing → Type 0
  Source n = IsBrokenSource v im (source_of im.size n) ⊎ HasAstrayOn v im call

  on : (second : Bool) (n : Missing) → IsBrokenSource v im (source_of im.size n) ⊎ HasAstray v im (at_old_name second (names second)) (names second) → Source n
  on second n (inl source) = inl source
  on second n (inr ahead) = inr (record { wants = at_old_name second (names second); names = names second; on = of_move p q second refl; astray = ahead })

  on_parent : (second : Bool) (n : Missing) → IsBrokenSource v im (source_of im.size n) ⊎ HasAstray v im (at_old_name second (names second)) (parent_of (names second)) → Source n
  on_parent second n (inl source) = inl source
  on_parent second n (inr ahead) =
      let f = from_parent (names second) in
      on second n (inr (further v im read whole.image (at_old_name second (names second)) (parent_of (names second)) f.0 (names second) f.1 ahead))

  -- a block of a group
  group_out : (blocks : List ℕ) (n : Missing) → freeing.IsNeededFor v blocks n → im.count ≤ n.block → Source n
  group_out blocks n needs out = absurd (omega (arith, out, whole.headers needs.0 n.block needs.1 needs.2.3.block.own))

  target_out : (a : ℕ) (n : Missing) → LeadsTo v (at_old_name true q) q a → removing.IsNeededOf v a n → im.count ≤ n.block → Source n
  target_out a n leads (removing.IsNeededOf.in_tree needs) out = on true n (needed_out v im read whole (at_old_name true q) q a n leads (λ h. AnyIndex) 1 needs out)
  target_out a n leads (removing.IsNeededOf.in_leaves directory needs absent) out =
      on true n (directory_out v im read whole (at_old_name true q) q a n leads directory absent (λ h seen. all_way v im read whole h n out (needs h seen)) out)

  ended_out : (n : Missing) → ends.IsNeededAtEnds v call n → im.count ≤ n.block → Source n
  ended_out n (ends.IsNeededAtEnds.on_paths begun (pairs.IsPairUnread.on_first i j a passed unread goes)) out = on false n (unread_out v im read whole (at_old_name false p) p n (of_way v (at_old_name false p) p i a n unread) out)
  ended_out n (ends.IsNeededAtEnds.on_paths begun (pairs.IsPairUnread.on_second i j a passed unread goes)) out = on true n (unread_out v im read whole (at_old_name true q) q n (of_way v (at_old_name true q) q j a n unread) out)
  ended_out n (ends.IsNeededAtEnds.of_target from to at are stands may needs) out = target_out at.inode n stands.place.leads needs out

  module _ (m : Move) (meant : IsMeant v call m) where
    to_out : (n : Missing) → v.block_at n.block ≡ None → ((h : Holding) → dirs.IsShown v m.to.inode h → names_in.IsNeededForName v h m.new_name n) → im.count ≤ n.block → Source n
    to_out n absent needs out =
        on_parent true n (directory_out v im read whole (at_old_name true q) (parent_of q) m.to.inode n (to_leads v im p q read whole m meant) (to_directory v im p q read whole m meant) absent
        (λ h seen. insert_way v im read whole h m.new_name n out (needs h seen)) out)

    -- on a way of the move
    ways_out : (n : Missing) → checks.IsNeededOnWays v m n → im.count ≤ n.block → Source n
    ways_out n on_it out = by on_it.directory on_it.name on_it.way on_it.needed
      where
        by : (dir : ℕ) (name : List ℕ) → checks.IsWayOf v m dir name → ((h : Holding) → dirs.IsShown v dir h → names_in.IsNeededForName v h name n) → Source n
        by _ name (checks.IsWayOf.to_old is) needs =
            on_parent false n (directory_out v im read whole (at_old_name false p) (parent_of p) m.from n (from_leads v im p q read whole m meant) is on_it.absent
            (λ h seen. insert_way v im read whole h name n out (needs h seen)) out)
        by _ name (checks.IsWayOf.to_new is) needs =
            on_parent true n (directory_out v im read whole (at_old_name true q) (parent_of q) m.to.inode n (to_leads v im p q read whole m meant) is on_it.absent
            (λ h seen. insert_way v im read whole h name n out (needs h seen)) out)
        by _ name (checks.IsWayOf.to_parent moves is) needs =
            on false n (directory_out v im read whole (at_old_name false p) p m.moved.inode n (moved_leads v im p q read whole m meant) is on_it.absent
            (λ h seen. insert_way v im read whole h name n out (needs h seen)) out)

    seen_out : (n : Missing) → checks.IsNeededToSee v m n → im.count ≤ n.block → Source n
    seen_out n (checks.IsNeededToSee.for_parent moves needs absent) out =
        on false n (directory_out v im read whole (at_old_name false p) p m.moved.inode n (moved_leads v im p q read whole m meant) (moved_directory v im p q read whole m meant moves) absent
        (λ h seen. name_way v im read whole h (codes "..") n out (needs h seen)) out)
    seen_out n (checks.IsNeededToSee.on_way on_it) out = ways_out n on_it out

    drafted_out : IsDirectoryAt v m.from → (blocks : List ℕ) → lost_there m ≡ [] → (n : Missing) → drafted.IsNeededIn v m blocks n → im.count ≤ n.block → Source n
    drafted_out dir blocks none n (drafted.IsNeededIn.to_go a names name asked one after) out = by a names name one after
      where
        by : (a : ℕ) (names : List (List ℕ)) (name : List ℕ) → drafted.IsOneOf m a names name → IsAfter v a names (λ k. dirs.IsNeededFor v k name n) → Source n
        by _ _ name (drafted.IsOneOf.the_new is) after =
            on_parent true n (directory_out v im read whole (at_old_name true q) (parent_of q) m.to.inode n (to_leads v im p q read whole m meant) (to_directory v im p q read whole m meant) asked.absent
            (λ h seen. name_way v im read whole h name n out (after_none v m.to.inode (λ k. dirs.IsNeededFor v k name n) after h seen)) out)
        by _ _ name drafted.IsOneOf.the_old after =
            on_parent false n (directory_out v im read whole (at_old_name false p) (parent_of p) m.from n (from_leads v im p q read whole m meant) dir asked.absent
            (λ h seen. name_way v im read whole h name n out (after_none v m.from (λ k. dirs.IsNeededFor v k name n) after h seen)) out)
        by _ _ name (drafted.IsOneOf.the_old_then is within) after = absurd (some_lost m is none)
        by _ _ name (drafted.IsOneOf.the_parent is) after =
            on false n (directory_out v im read whole (at_old_name false p) p m.moved.inode n (moved_leads v im p q read whole m meant) (moved_directory v im p q read whole m meant is) asked.absent
            (λ h seen. name_way v im read whole h name n out (after_none v m.moved.inode (λ k. dirs.IsNeededFor v k name n) after h seen)) out)
    drafted_out dir blocks none n (drafted.IsNeededIn.to_come asked after) out =
        to_out n asked.absent (after_none v m.to.inode (λ k. names_in.IsNeededForName v k m.new_name n) (subst (λ names. IsAfter v m.to.inode names (λ k. names_in.IsNeededForName v k m.new_name n)) none after)) out
    drafted_out dir blocks none n (drafted.IsNeededIn.in_group needs) out = group_out blocks n needs out

    carried_out : IsDirectoryAt v m.from → (node : ℕ) (n : Missing) → carrying.NeedsBlock v node m n → im.count ≤ n.block → Source n
    carried_out dir node n (carrying.NeedsBlock.to_look absent needs) out = to_out n absent needs out
    carried_out dir node n (carrying.NeedsBlock.of_freed need counted needs) out = group_out (freed_by m) n needs out
    carried_out dir node n (carrying.NeedsBlock.of_room need counted needed under) out = absurd (omega (arith, out, whole.headers needed.group n.block needed.has needed.missing.own))
    carried_out dir node n (carrying.NeedsBlock.on_way need room has on_it) out = ways_out n on_it out
    carried_out dir node n (carrying.NeedsBlock.to_draft need room has none needs) out = drafted_out dir (room ++ freed_by m) none n needs out
    carried_out dir node n (carrying.NeedsBlock.to_say need room has needs) out = group_out (room ++ freed_by m) n needs out
    carried_out dir node n (carrying.NeedsBlock.once_gone some needs inside) out = absurd (omega (arith, out, whole.data_blocks n.block inside))

  pub moves_out : (node : ℕ) (n : Missing) → moving.IsNeededFor v call node n → im.count ≤ n.block → Source n
  moves_out node n (moving.IsNeededFor.at_ends needs) out = ended_out n needs out
  moves_out node n (moving.IsNeededFor.to_see m meant needs) out = seen_out m meant n needs out
  moves_out node n (moving.IsNeededFor.to_move m to needs) out = carried_out m to.meant (λ h s. is_directory_here v m.from h to.can.source to.can.source_there s) node n needs out
