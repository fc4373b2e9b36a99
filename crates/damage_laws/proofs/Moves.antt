-- Damage that a call meets which moves a name: on either of its paths, at their ends, and as the move is looked at and carried out.
use Rattle.std.proofs.Common.{◌≡◌, ◌≢◌, ℕ, ◌==◌, ◌⊎◌, inl, inr, Bool, List, [], ◌∷◌, ◌++◌, Option, None, true, false, refl, sym, ap, ◌∙◌, subst, arith}
use Rattle.std.proofs.lemmas.Bool.{eq-eqb}
use Rattle.std.specs.Prelude.{not, Contains}
use Rattle.call_locks.specs.Wants.{at_old_name}
use Rattle.call_locks.specs.WantLaws.{path_of}
use Rattle.directories.proofs.Forms.{is_directory_here}
use Rattle.directories.specs.Shown as dirs
use Rattle.file_tree.specs.Names.{last_of, parent_of}
use Rattle.file_tree.specs.declared.call.Call.{Call}
use Rattle.file_tree.specs.declared.call.Call.TheVariants as calls
use Rattle.gfs2_layout.specs.Holding.{Holding}
use Rattle.gfs2_layout.specs.Structures.{is_directory}
use Rattle.glock_names.specs.Views.{Seen}
use Rattle.dinode_tree.specs.Shown.{IsShown}
use Rattle.image_model.specs.Claims.{every}
use Rattle.image_model.specs.Flat.{Path}
use Rattle.image_model.specs.Image.{Image}
use Rattle.image_model.specs.Rules.{Breaks}
use Rattle.image_model.proofs.Rows.{and_left}
use Rattle.file_calls.specs.Walks.{IsDirectoryAt, IsWrongAt, LeadsTo}
use Rattle.file_calls.specs.Walks as path
use Rattle.file_calls.specs.walk.Place.{Place}
use Rattle.file_calls.specs.Removing.{Goes}
use Rattle.file_calls.specs.Removing as removing
use Rattle.file_calls.specs.Moving as moving
use Rattle.file_calls.specs.Moving.{IsMeant}
use Rattle.file_calls.specs.MoveCarrying as carrying
use Rattle.file_calls.specs.MoveCarrying.{HasRoom, IsInTheWay}
use Rattle.file_calls.specs.MoveChecks as checks
use Rattle.file_calls.specs.MoveEnds as ends
use Rattle.file_calls.specs.NameBecoming.{IsAfter}
use Rattle.file_calls.specs.NameInserting as names_in
use Rattle.file_calls.specs.NameMoving as drafted
use Rattle.file_calls.specs.NameMoving.{Move, freed_by, is_reparented, is_within, lost_there}
use Rattle.file_calls.specs.NameWay.{IsOnWay}
use Rattle.damage_laws.specs.Telling.{HasAstray, HasWholeGroups, IsReadFrom, IsTold, itself, astray, IsToldOf, on_path, of_move, MovesTell, MovesTellExactly}
use Rattle.damage_laws.proofs.Claimed.{shown}
use Rattle.file_calls.proofs.MoveGoings.{after_none, some_lost}
use Rattle.damage_laws.proofs.Inodes.{IsSaidToBeFree, free_below_told, free_on_way_told, free_told, group_shown, group_told, inode_told, inside_told, longer, name_told, root_told, some_told, stray_told, told_or}
use Rattle.damage_laws.proofs.Owned.{from_parent, inode_shared_told, named_twice, shared_told, way_shared_told}
use Rattle.damage_laws.proofs.Paths.{paths_tell}

-- a path's last name
last_of_next : (front : Path) (name : List ℕ) → last_of (front ++ name ∷ []) ≡ name
last_of_next [] name = refl
last_of_next (n ∷ []) name = refl
last_of_next (n ∷ m ∷ ns) name = last_of_next (m ∷ ns) name

module _ (v : Seen) (im : Image) (p q : Path) (read : IsReadFrom v im) (whole : HasWholeGroups v im) where
  abbrev call : Call
  call = calls.Rename p q

  -- what is told on one of its paths
  abbrev names : (second : Bool) → Path
  names second = path_of call second

  on : (second : Bool) (rule b : ℕ) → IsTold v im (at_old_name second (names second)) (names second) rule b → IsToldOf v im call rule b
  on second rule b told = on_path rule b (record { wants = at_old_name second (names second); names = names second; on = of_move p q second refl; told = told })

  -- or above its end
  on_parent : (second : Bool) (rule b : ℕ) → IsTold v im (at_old_name second (names second)) (parent_of (names second)) rule b → IsToldOf v im call rule b
  on_parent second rule b told =
      let f = from_parent (names second) in
      on second rule b (longer v im read whole.image (at_old_name second (names second)) (parent_of (names second)) f.0 (names second) f.1 rule b told)

  on_either : (rule b : ℕ) → (path.IsDamage v (at_old_name false p) p rule b) ⊎ (path.IsDamage v (at_old_name true q) q rule b) → IsToldOf v im call rule b
  on_either rule b (inl broken) = on false rule b (paths_tell v im (at_old_name false p) p rule b read whole.image broken)
  on_either rule b (inr broken) = on true rule b (paths_tell v im (at_old_name true q) q rule b read whole.image broken)

  -- an inode at the end of a path
  at_end : (second : Bool) (a : ℕ) → LeadsTo v (at_old_name second (names second)) (names second) a → (rule b : ℕ) → IsWrongAt v a rule b → IsToldOf v im call rule b
  at_end second a leads rule b wrong = on second rule b (inode_told v im read whole (at_old_name second (names second)) (names second) a leads rule b wrong)

  above_end : (second : Bool) (a : ℕ) → LeadsTo v (at_old_name second (names second)) (parent_of (names second)) a → (rule b : ℕ) → IsWrongAt v a rule b → IsToldOf v im call rule b
  above_end second a leads rule b wrong = on_parent second rule b (inode_told v im read whole (at_old_name second (names second)) (parent_of (names second)) a leads rule b wrong)

  -- below what stands at the new name
  below_told : (a : ℕ) → LeadsTo v (at_old_name true q) q a → (rule b : ℕ) → removing.IsWrongBelow v a rule b → IsToldOf v im call rule b
  below_told a leads rule b (removing.IsWrongBelow.of_leaves r x directory wrong) = at_end true a leads r x (path.in_directory r x directory wrong)
  below_told a leads rule b (removing.IsWrongBelow.in_inode r x broken) = at_end true a leads r x (path.in_inode r x broken)
  below_told a leads rule b (removing.IsWrongBelow.stray from x led out) =
      on true 2 from (told_or v im (at_old_name true q) q 2 from (stray_told v im read whole.image (at_old_name true q) q a from x leads (led (every im a) (shown v im read whole.image a)) out))

  -- at the ends of the paths
  ended_told : (rule b : ℕ) → ends.IsDamageAtEnds v call rule b → IsToldOf v im call rule b
  ended_told _ _ (ends.IsDamageAtEnds.on_paths rule b begun broken) = on_either rule b broken
  ended_told _ _ (ends.IsDamageAtEnds.count from to at rule b are stands kind broken) =
      at_end true at.inode stands.place.leads rule b
      (path.in_directory rule b (λ h s. (broken h s).0.directory) (λ h s. let c = broken h s.inode in dirs.in_linear c.0.directory c.0.linear c.1))
  ended_told _ _ (ends.IsDamageAtEnds.of_target from to at rule b are stands may wrong) = below_told at.inode stands.place.leads rule b wrong

  -- what is told but for a block of a directory beyond the device on one of two paths
  either_told : (rule b : ℕ) → Breaks im rule b ⊎ (HasAstray v im (at_old_name false p) p ⊎ HasAstray v im (at_old_name true q) q) → IsToldOf v im call rule b
  either_told rule b (inl breaks) = on false rule b (itself rule b breaks)
  either_told rule b (inr (inl out)) = on false rule b (astray rule b out)
  either_told rule b (inr (inr out)) = on true rule b (astray rule b out)

  above_or : (second : Bool) → (rule b : ℕ) → Breaks im rule b ⊎ (HasAstray v im (at_old_name second (names second)) (parent_of (names second)) ⊎ HasAstray v im (at_old_name true q) q) → IsToldOf v im call rule b
  above_or second rule b (inl breaks) = on true rule b (itself rule b breaks)
  above_or second rule b (inr (inl out)) = on_parent second rule b (astray rule b out)
  above_or second rule b (inr (inr out)) = on true rule b (astray rule b out)

  -- what stands at the new name goes with a block
  goes_of : (from to : Place) (blocks : Option (List ℕ)) → ends.IsTarget v call from to blocks → (b : ℕ) → Contains (drafted.blocks_or_none blocks) b
      → (c : ℕ) × LeadsTo v (at_old_name true q) q c × ((h : Holding) → dirs.IsShown v c h → Goes h b) × ((h : Holding) → dirs.IsShown v c h → Contains (drafted.blocks_or_none blocks) c)
  goes_of from to _ (ends.IsTarget.free lacks) b there = absurd (none_in b there)
    where
      none_in : (b : ℕ) → Contains (drafted.blocks_or_none None) b → ⊥
      none_in b (k, low, is) = omega (arith, low)
  goes_of from to _ (ends.IsTarget.taken at blocks stands may goes leaves) b there = (at.inode, stands.place.leads, (λ h s. (goes h s b).0 there), λ h s. (goes h s at.inode).1 (inl (sym s.inode.own)))

  module _ (m : Move) (meant : IsMeant v call m) where
    pub moved_leads : LeadsTo v (at_old_name false p) p m.moved.inode
    moved_leads = meant.ends.source.leads

    pub from_leads : LeadsTo v (at_old_name false p) (parent_of p) m.from
    from_leads = subst (LeadsTo v (at_old_name false p) (parent_of p)) (sym (ap (λ (x : Move). x.from) meant.is)) meant.ends.source.above

    pub to_leads : LeadsTo v (at_old_name true q) (parent_of q) m.to.inode
    to_leads = meant.ends.target

    pub to_directory : IsDirectoryAt v m.to.inode
    to_directory = meant.ends.directory

    -- a directory that gets another parent is one
    pub moved_directory : is_reparented m ≡ true → IsDirectoryAt v m.moved.inode
    moved_directory is h s = sym (ap is_directory (meant.ends.source.dinode h s)) ∙ and_left (is_directory m.moved.dinode) (not (m.from == m.to.inode)) is

    -- ---- its ways

    same_name : (front : Path) (name : List ℕ) (path : Path) → path ≡ front ++ name ∷ [] → name ≡ last_of path
    same_name front name path e = sym (last_of_next front name) ∙ sym (ap last_of e)

    -- the inode is one of the blocks that go
    inode_goes_told : Contains (freed_by m) m.moved.inode → (is_within m ≡ true → m.name ≢ m.new_name) → IsToldOf v im call 3 m.moved.inode
    inode_goes_told goes two =
        let at = goes_of m.moved m.to m.replaced meant.target m.moved.inode goes in
        either_told 3 m.moved.inode (inode_shared_told v im read whole.image (at_old_name false p) (at_old_name true q) p q at.0 m.moved.inode m.from m.to.inode meant.ends.begun.from meant.ends.begun.to moved_leads from_leads at.1 to_leads
        at.2 (λ within name first second. two (eq-eqb m.from m.to.inode within)
        (ap (λ (x : Move). x.name) meant.is ∙ sym (same_name (parent_of p) name p first) ∙ same_name (parent_of q) name q second ∙ sym (ap (λ (x : Move). x.new_name) meant.is))))

    -- a block on one of the ways is
    way_told : (b : ℕ) (on_it : checks.IsOnItsWay v m b) → ¬ (Contains (freed_by m) on_it.directory) → Contains (freed_by m) b → IsToldOf v im call 3 b
    way_told b on_it stays goes = by on_it.directory on_it.name on_it.way on_it.on stays
      where
        at : (c : ℕ) × LeadsTo v (at_old_name true q) q c × ((h : Holding) → dirs.IsShown v c h → Goes h b) × ((h : Holding) → dirs.IsShown v c h → Contains (freed_by m) c)
        at = goes_of m.moved m.to m.replaced meant.target b goes

        by : (dir : ℕ) (name : List ℕ) → checks.IsWayOf v m dir name → ((h : Holding) → dirs.IsShown v dir h → IsOnWay h name b) → ¬ (Contains (freed_by m) dir) → IsToldOf v im call 3 b
        by dir name (checks.IsWayOf.to_old is) on_way stays =
            above_or false 3 b (way_shared_told v im read whole.image (at_old_name false p) (at_old_name true q) (parent_of p) q at.0 m.from b m.name from_leads at.1 (Contains (freed_by m)) at.3 goes stays at.2 on_way)
        by dir name (checks.IsWayOf.to_new is) on_way stays =
            above_or true 3 b (way_shared_told v im read whole.image (at_old_name true q) (at_old_name true q) (parent_of q) q at.0 m.to.inode b m.new_name to_leads at.1 (Contains (freed_by m)) at.3 goes stays at.2 on_way)
        by dir name (checks.IsWayOf.to_parent moves is) on_way stays =
            either_told 3 b (way_shared_told v im read whole.image (at_old_name false p) (at_old_name true q) p q at.0 m.moved.inode b name moved_leads at.1 (Contains (freed_by m)) at.3 goes stays at.2 on_way)

    -- or something on it is wrong
    ways_wrong : (rule b : ℕ) → checks.IsWrongOnWays v m rule b → IsToldOf v im call rule b
    ways_wrong rule b on_it = by on_it.directory on_it.name on_it.way on_it.wrong
      where
        by : (dir : ℕ) (name : List ℕ) → checks.IsWayOf v m dir name → ((h : Holding) → dirs.IsShown v dir h → names_in.IsWrongForName v h rule b) → IsToldOf v im call rule b
        by _ _ (checks.IsWayOf.to_old is) wrong = on_parent false rule b (name_told v im read whole (at_old_name false p) (parent_of p) m.from from_leads is rule b wrong)
        by _ _ (checks.IsWayOf.to_new is) wrong = on_parent true rule b (name_told v im read whole (at_old_name true q) (parent_of q) m.to.inode to_leads is rule b wrong)
        by _ _ (checks.IsWayOf.to_parent moves is) wrong = on false rule b (name_told v im read whole (at_old_name false p) p m.moved.inode moved_leads is rule b wrong)

    -- or one is called free
    way_free : (b : ℕ) → checks.IsOnItsWay v m b → IsSaidToBeFree v im b → IsToldOf v im call 5 b
    way_free b on_it free = by on_it.directory on_it.name on_it.way on_it.on
      where
        by : (dir : ℕ) (name : List ℕ) → checks.IsWayOf v m dir name → ((h : Holding) → dirs.IsShown v dir h → IsOnWay h name b) → IsToldOf v im call 5 b
        by _ name (checks.IsWayOf.to_old is) on_way = on_parent false 5 b (free_on_way_told v im read whole (at_old_name false p) (parent_of p) m.from from_leads is name b on_way free)
        by _ name (checks.IsWayOf.to_new is) on_way = on_parent true 5 b (free_on_way_told v im read whole (at_old_name true q) (parent_of q) m.to.inode to_leads is name b on_way free)
        by _ name (checks.IsWayOf.to_parent moves is) on_way = on false 5 b (free_on_way_told v im read whole (at_old_name false p) p m.moved.inode moved_leads is name b on_way free)

    -- before it is carried out
    seen_told : (rule b : ℕ) → checks.IsWrongMove v m rule b → IsToldOf v im call rule b
    seen_told _ _ (checks.no_data_block a (inl is) out) =
        root_told v im read call (at_old_name false p) (parent_of p) a whole.image (subst (LeadsTo v (at_old_name false p) (parent_of p)) (sym is) from_leads) out
    seen_told _ _ (checks.no_data_block a (inr is) out) =
        root_told v im read call (at_old_name true q) (parent_of q) a whole.image (subst (LeadsTo v (at_old_name true q) (parent_of q)) (sym is) to_leads) out
    seen_told _ _ (checks.its_own is) =
        on false 3 m.moved.inode (told_or v im (at_old_name false p) p 3 m.moved.inode
        (named_twice v im read whole.image (at_old_name false p) p m.moved.inode moved_leads meant.ends.begun.from (subst (LeadsTo v (at_old_name false p) (parent_of p)) (sym is) from_leads)))
    seen_told _ _ (checks.shared goes) =
        let at = goes_of m.moved m.to m.replaced meant.target m.to.inode goes in
        on true 3 m.to.inode (told_or v im (at_old_name true q) q 3 m.to.inode (shared_told v im read whole.image (at_old_name true q) q at.0 m.to.inode meant.ends.begun.to at.1 to_leads at.2))
    seen_told _ _ (checks.shared_inode goes two) = inode_goes_told goes two
    seen_told _ _ (checks.shared_way b on_it stays goes) = way_told b on_it stays goes
    seen_told _ _ (checks.IsWrongMove.on_way rule b wrong) = ways_wrong rule b wrong
    seen_told _ _ (checks.in_inode a rule b (inl is) broken) = above_end true a (subst (LeadsTo v (at_old_name true q) (parent_of q)) (sym is) to_leads) rule b (path.in_inode rule b broken)
    seen_told _ _ (checks.in_inode a rule b (inr is) broken) = at_end false a (subst (LeadsTo v (at_old_name false p) p) (sym is) moved_leads) rule b (path.in_inode rule b broken)
    seen_told _ _ (checks.in_directory rule b is broken) = at_end false m.moved.inode moved_leads rule b (path.in_directory rule b (moved_directory is) broken)
    seen_told _ _ (checks.no_parent is linear none) = at_end false m.moved.inode moved_leads 10 m.moved.inode (path.no_dots (moved_directory is) linear none)

    -- in a directory of the move as the view shows it, or in a group
    drafted_told : (from_directory : IsDirectoryAt v m.from) (blocks : List ℕ) → lost_there m ≡ [] → (rule b : ℕ) → drafted.IsWrongIn v m blocks rule b → IsToldOf v im call rule b
    drafted_told from_directory blocks none _ _ (drafted.IsWrongIn.to_go dir rule b names name one after) = by dir names name one after
      where
        by : (dir : ℕ) (names : List (List ℕ)) (name : List ℕ) → drafted.IsOneOf m dir names name → IsAfter v dir names (λ k. dirs.IsBroken v k rule b) → IsToldOf v im call rule b
        by _ _ _ (drafted.IsOneOf.the_new is) after = above_end true m.to.inode to_leads rule b (path.in_directory rule b to_directory (after_none v m.to.inode (λ k. dirs.IsBroken v k rule b) after))
        by _ _ _ drafted.IsOneOf.the_old after = above_end false m.from from_leads rule b (path.in_directory rule b from_directory (after_none v m.from (λ k. dirs.IsBroken v k rule b) after))
        by _ _ _ (drafted.IsOneOf.the_old_then is within) after = absurd (some_lost m is none)
        by _ _ _ (drafted.IsOneOf.the_parent is) after = at_end false m.moved.inode moved_leads rule b (path.in_directory rule b (moved_directory is) (after_none v m.moved.inode (λ k. dirs.IsBroken v k rule b) after))
    drafted_told from_directory blocks none _ _ (drafted.IsWrongIn.to_come rule b after) =
        on_parent true rule b (name_told v im read whole (at_old_name true q) (parent_of q) m.to.inode to_leads to_directory rule b
        (after_none v m.to.inode (λ k. names_in.IsWrongForName v k rule b) (subst (λ names. IsAfter v m.to.inode names (λ k. names_in.IsWrongForName v k rule b)) none after)))
    drafted_told from_directory blocks none _ _ (drafted.IsWrongIn.in_group rule b breaks) = on true rule b (itself rule b (some_told v im read whole blocks rule b breaks))

    -- blocks that were found are called free
    found_free : (node need : ℕ) (room : List ℕ) → HasRoom v node m need room → (b : ℕ) → Contains room b → IsSaidToBeFree v im b
    found_free node need room has b there = let free = (has.are im.at (group_shown v im read whole)).each b there in (free.group, free.has, free.data_block, free.free)

    -- as it is carried out
    carried_told : (from_directory : IsDirectoryAt v m.from) (node rule b : ℕ) → carrying.IsDamageOf v node m rule b → IsToldOf v im call rule b
    carried_told dir node _ _ (carrying.IsDamageOf.to_look rule b wrong) = on_parent true rule b (name_told v im read whole (at_old_name true q) (parent_of q) m.to.inode to_leads to_directory rule b wrong)
    carried_told dir node _ _ (carrying.IsDamageOf.of_freed need rule b counted breaks) = on true rule b (itself rule b (some_told v im read whole (freed_by m) rule b breaks))
    carried_told dir node _ _ (carrying.IsDamageOf.of_room need rule b counted some broken) = on true rule b (itself rule b (group_told v im read whole broken.group broken.has rule b broken.broken))
    carried_told dir node _ _ (carrying.IsDamageOf.on_way need room rule b has wrong) = ways_wrong rule b wrong
    carried_told dir node _ _ (carrying.IsDamageOf.called_free need b room has there way) = by way (found_free node need room has b there)
      where
        by : IsInTheWay v m b → IsSaidToBeFree v im b → IsToldOf v im call 5 b
        by (IsInTheWay.a_place (drafted.IsPlaceOfMove.of_source is)) free = on_parent false 5 b (free_told v im read whole (at_old_name false p) (parent_of p) b (subst (LeadsTo v (at_old_name false p) (parent_of p)) (sym is) from_leads) free)
        by (IsInTheWay.a_place (drafted.IsPlaceOfMove.of_target is)) free = on_parent true 5 b (free_told v im read whole (at_old_name true q) (parent_of q) b (subst (LeadsTo v (at_old_name true q) (parent_of q)) (sym is) to_leads) free)
        by (IsInTheWay.a_place (drafted.IsPlaceOfMove.of_inode is)) free = on false 5 b (free_told v im read whole (at_old_name false p) p b (subst (LeadsTo v (at_old_name false p) p) (sym is) moved_leads) free)
        by (IsInTheWay.a_place (drafted.IsPlaceOfMove.of_replaced goes)) free =
            let at = goes_of m.moved m.to m.replaced meant.target b goes in
            on true 5 b (free_below_told v im read whole (at_old_name true q) q at.0 at.1 b at.2 free)
        by (IsInTheWay.on_way on_it) free = way_free b on_it free
    carried_told dir node _ _ (carrying.IsDamageOf.to_draft need room rule b has none wrong) = drafted_told dir (room ++ freed_by m) none rule b wrong

  moved_told : (node rule b : ℕ) → moving.IsDamage v call node rule b → IsToldOf v im call rule b
  moved_told node rule b (moving.at_ends at) = ended_told rule b at
  moved_told node rule b (moving.to_see m meant wrong) = seen_told m meant rule b wrong
  moved_told node rule b (moving.to_move m to wrong) = carried_told m to.meant (λ h s. is_directory_here v m.from h to.can.source to.can.source_there s) node rule b wrong

pub moves_tell : MovesTell
moves_tell v im (calls.Rename p q) node rule b read whole is told = moved_told v im p q read whole node rule b told
moves_tell v im (calls.Create p) node rule b read whole is told = absurd is
moves_tell v im (calls.Mkdir p) node rule b read whole is told = absurd is
moves_tell v im (calls.Unlink p) node rule b read whole is told = absurd is
moves_tell v im (calls.Rmdir p) node rule b read whole is told = absurd is
moves_tell v im (calls.Read p at n) node rule b read whole is told = absurd is
moves_tell v im (calls.Dread p at n) node rule b read whole is told = absurd is
moves_tell v im (calls.Write p at bytes) node rule b read whole is told = absurd is
moves_tell v im (calls.Truncate p n) node rule b read whole is told = absurd is
moves_tell v im (calls.Stat p) node rule b read whole is told = absurd is
moves_tell v im (calls.List p) node rule b read whole is told = absurd is
moves_tell v im calls.Sync node rule b read whole is told = absurd is

pub moves_tell_exactly : MovesTellExactly
moves_tell_exactly v im call node rule b read whole inside is told = inside_told v im call inside rule b (moves_tell v im call node rule b read whole is told)
