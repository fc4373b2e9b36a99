-- The locks of groups in a call's list: what a view holds of them.
use Rattle.std.proofs.Common.{◌≡◌, inl, inr, ℕ, zero, suc, ◌+◌, ◌<◌, Bool, true, List, [], ◌∷◌, ◌++◌, Some, refl, sym, ap, ◌∙◌, subst, arith}
use Rattle.std.proofs.lemmas.List.Elements.{All-append}
use Rattle.std.proofs.lemmas.List.FromFn.{get_or-map-range_with_len}
use Rattle.std.proofs.lemmas.List.{append_assoc}
use Rattle.std.specs.Prelude.{Contains, map, slice_index_or}
use Rattle.file_tree.specs.Tree.{Tree}
use Rattle.gfs2_layout.specs.Groups.{count_of}
use Rattle.gfs2_layout.specs.Headers.{HasHeader}
use Rattle.gfs2_layout.specs.declared.rindex.Rindex.{Rindex}
use Rattle.glock_names.specs.Views.{Seen, HasGroup, group_of_entry}
use Rattle.glock_names.specs.declared.LockName.{LockName}
use Rattle.glock_names.specs.declared.State.TheVariants.{Ex}
use Rattle.glock_names.specs.declared.steps.Missing.{Missing}
use Rattle.glock_names.specs.declared.views.Group.{Group}
use Rattle.resource_groups.specs.Freeing.{HasSome}
use Rattle.resource_groups.specs.Shown.{IsMissing, group_lock}
use Rattle.resource_groups.specs.Shown as group
use Rattle.image_model.specs.Image.{Image}
use Rattle.image_model.specs.Groups.{IsListed, group_blocks}
use Rattle.image_model.specs.Owners.{Owners}
use Rattle.image_model.specs.Stands.{Layout}
use Rattle.image_model.proofs.Counts.{at_in}
use Rattle.image_model.proofs.Members.{IsIn, contained, in_right}
use Rattle.image_changes.specs.Changes.{cover, is_free}
use Rattle.image_changes.specs.Does.{IsOf, is_content_of}
use Rattle.path_walks.proofs.Views.{groups_are_listed}
use Rattle.path_walks.specs.Holds.{Hold, AreHeld, IsAskedFor, IsFirstLack, holds, hold_of_group}
use Rattle.path_walks.proofs.Longer.{lack_behind}
use Rattle.group_locks.specs.Groups.{AreHeldOf, IsFirstLackOf, has_some, holds_of_those}
use Rattle.group_locks.specs.Laws.{AreThose, BlocksOfGroupsAreAskedFor, FirstGroupLacksAreFirst, GroupsBreakNothing, GroupsWithBlocksAreListed, HeldGroupsHoldTheList}
use Rattle.group_locks.proofs.Listed.{groups_held, first_lack, placed_in, held_upto, any_range, range_any}

-- block k of a group
block_in : (im : Image) (g : Rindex) (k : ℕ) → k < g.length → slice_index_or (group_blocks im.at g) k [] ≡ im.at (g.address + k)
block_in im g k low = get_or-map-range_with_len im.at g.address g.length k (g.address + k) [] low refl

-- ---- no group of an image that stands breaks a rule

module _ (v : Seen) (im : Image) (o : Owners) (l : Layout) (t : Tree) (of : IsOf v im o l t) where
  unbroken_group : (g : Rindex) → IsListed l.groups g → (rule b : ℕ) → group.IsBroken im.at (group_of_entry g) rule b → ⊥
  unbroken_group g listed rule b (group.no_header zero low lacks) = lacks (subst (HasHeader 2 200) (block_in im g 0 low) (of.stands.laid.groups g listed).header)
  unbroken_group g listed rule b (group.no_header (suc k) low lacks) = lacks (subst (HasHeader 3 300) (block_in im g (suc k) low) ((of.stands.laid.groups g listed).more (suc k) (omega arith) low))
  unbroken_group g listed rule b (group.wrong_free other) = other ((of.stands.laid.groups g listed).free ∙ ap (count_of 0) (sym (of.stands.laid.groups g listed).bits))
  unbroken_group g listed rule b (group.wrong_dinodes other) = other ((of.stands.laid.groups g listed).dinodes ∙ ap (count_of 3) (sym (of.stands.laid.groups g listed).bits))

  group_is_shown : (g : Rindex) → IsListed l.groups g → group.IsShown v (group_of_entry g) im.at
  group_is_shown g listed = record {
    whole = λ b h. of.stands.laid.image.whole b (omega (arith, h.high, (of.stands.laid.fit.each g listed).first, (of.stands.laid.fit.each g listed).inside)) ∙ of.size;
    same = λ b bytes h e. of.agrees b bytes e;
  }

pub groups_break_nothing : GroupsBreakNothing
groups_break_nothing v im o l t blocks rule b of breaks =
    let f = (groups_are_listed v im o l t breaks.0 of).0 breaks.1 in
    unbroken_group v im o l t of f.0 f.1 rule b
    (subst (λ k. group.IsBroken im.at k rule b) f.2 (breaks.3 im.at (subst (λ k. group.IsShown v k im.at) (sym f.2) (group_is_shown v im o l t of f.0 f.1))))

-- ---- the locks

module _ (test : ℕ → Bool) (blocks : List ℕ) (those : AreThose test blocks) where
  pub has_so : (g : Rindex) → has_some test g ≡ true → HasSome (group_of_entry g) blocks
  has_so g e =
      let f = any_range test g.data0 g.data_blocks e in
      (f.0, (those f.0).1 f.3, record { low = f.1; high = f.2 })

  pub so_has : (g : Rindex) → HasSome (group_of_entry g) blocks → has_some test g ≡ true
  so_has g some = range_any test g.data0 g.data_blocks some.0 some.2.low some.2.high ((those some.0).0 some.1)

module _ (v : Seen) (im : Image) (o : Owners) (l : Layout) (t : Tree) (of : IsOf v im o l t) where
  has_group : (g : Rindex) → IsIn g l.groups → HasGroup v (group_of_entry g)
  has_group g at = contained (group_of_entry g) v.groups (subst (IsIn (group_of_entry g)) of.groups (in_map g l.groups at))
    where
      in_map : (k : Rindex) (gs : List Rindex) → IsIn k gs → IsIn (group_of_entry k) (map group_of_entry gs)
      in_map k [] h = elim h [ ]
      in_map k (x ∷ gs) (inl e) = inl (ap group_of_entry e)
      in_map k (x ∷ gs) (inr h) = inr (in_map k gs h)

-- those of which something holds, where it holds of those that pass
module _ (v : Seen) (im : Image) (o : Owners) (l : Layout) (t : Tree) (of : IsOf v im o l t) (passes : Rindex → Bool) (P : Group → Type 0) (so : (g : Rindex) → passes g ≡ true → P (group_of_entry g))
    (from_some : (g : Rindex) → P (group_of_entry g) → passes g ≡ true) (list : List Hold) (held : AreHeld v list) where
  pub those_hold_the_list : AreHeldOf v P → AreHeld v (list ++ holds_of_those passes l.groups)
  those_hold_the_list groups =
      All-append (λ h. holds v h ≡ true) list (holds_of_those passes l.groups) held
      (groups_held v passes P so from_some l.groups (λ g at some. groups (group_of_entry g) (has_group v im o l t of g at) some))

  pub first_of_those_is_first : (lock : LockName) → IsFirstLackOf v P lock → IsFirstLack v (list ++ holds_of_those passes l.groups) lock Ex
  first_of_those_is_first lock lack =
      subst (λ x. IsFirstLack v (list ++ holds_of_those passes l.groups) x Ex) (sym lack.is)
      (lack_behind v list (holds_of_those passes l.groups) (group_lock lack.group) Ex held
      (first_lack v passes P so from_some l.groups lack.front lack.group lack.back (of.groups ∙ lack.split) lack.some lack.lacks
      (λ k at some. lack.held k (contained k lack.front at) some)))

  pub block_of_those_is_asked : AreHeldOf v P → (g : Group) (m : Missing) → HasGroup v g → P g → IsMissing v g m → IsAskedFor v im o l (list ++ holds_of_those passes l.groups) m
  block_of_those_is_asked groups g m has some of_group =
      let f = (groups_are_listed v im o l t g of).0 has in
      let missing = subst (λ k. IsMissing v k m) f.2 of_group in
      let place = placed_in passes l.groups f.0 (at_in f.0 l.groups f.1.0 f.1.1) (from_some f.0 (subst P f.2 some)) in
      let row = of.stands.laid.zoned.headers f.0 f.1 m.block (record { low = missing.own.low; high = missing.own.high }) in
      let split = ap (λ x. list ++ x) place.split ∙ sym (append_assoc list place.front (hold_of_group (group_of_entry f.0) ∷ place.back)) in
      record {
        absent = missing.absent;
        covered = ap (cover l m.block) row ∙ ap Some (sym missing.lock);
        used = ap is_free row;
        plain = missing.plain ∙ sym (ap (is_content_of im o) row);
        state = Ex;
        front = list ++ place.front;
        back = place.back;
        split = split ∙ ap (λ k. (list ++ place.front) ++ record { lock = k; state = Ex } ∷ place.back) (sym missing.lock);
        held = subst (λ k. AreHeld v ((list ++ place.front) ++ record { lock = k; state = Ex } ∷ [])) (sym missing.lock)
            (held_upto v (list ++ place.front) place.back (hold_of_group (group_of_entry f.0)) (subst (AreHeld v) split (those_hold_the_list groups)));
      }

-- a group that passes has its lock in the list
pub those_are_listed : (passes : Rindex → Bool) (groups : List Rindex) (g : Rindex) (list : List Hold) → IsListed groups g → passes g ≡ true
    → Contains (list ++ holds_of_those passes groups) (hold_of_group (group_of_entry g))
those_are_listed passes groups g list listed is =
    let x = hold_of_group (group_of_entry g) in
    let place = placed_in passes groups g (at_in g groups listed.0 listed.1) is in
    let more = holds_of_those passes groups in
    contained x (list ++ more) (in_right x list more (subst (IsIn x) (sym place.split) (in_right x place.front (x ∷ place.back) (inl refl))))

pub held_groups_hold_the_list : HeldGroupsHoldTheList
held_groups_hold_the_list v im o l t test blocks list of those held groups =
    those_hold_the_list v im o l t of (has_some test) (λ g. HasSome g blocks) (has_so test blocks those) (so_has test blocks those) list held groups

pub first_group_lacks_are_first : FirstGroupLacksAreFirst
first_group_lacks_are_first v im o l t test blocks list lock of those held lack =
    first_of_those_is_first v im o l t of (has_some test) (λ g. HasSome g blocks) (has_so test blocks those) (so_has test blocks those) list held lock lack

pub blocks_of_groups_are_asked_for : BlocksOfGroupsAreAskedFor
blocks_of_groups_are_asked_for v im o l t test blocks list m of those held groups needed =
    block_of_those_is_asked v im o l t of (has_some test) (λ g. HasSome g blocks) (has_so test blocks those) (so_has test blocks those) list held groups needed.0 m needed.1
    (needed.2.0, needed.2.1, needed.2.2) needed.2.3.block

pub groups_with_blocks_are_listed : GroupsWithBlocksAreListed
groups_with_blocks_are_listed test groups g b list listed own passes =
    those_are_listed (has_some test) groups g list listed (range_any test g.data0 g.data_blocks b own.low own.high passes)
