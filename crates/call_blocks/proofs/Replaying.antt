-- What an answered call writes or frees, a replay may change.
use Rattle.std.proofs.Common.{◌≡◌, ◌+◌, ◌<◌, ◌≤◌, ◌⊎◌, ℕ, inl, inr, Bool, true, false, List, [], ◌∷◌, Option, None, Some, slice_get, refl, sym, ap, subst, ◌∙◌, arith, true≢false}
use Rattle.std.specs.Prelude.{◌==◌, Contains, if◌then◌else◌, is_some, map}
use Rattle.std.specs.List.{AllByRecursion}
use Rattle.std.specs.Option.{option_map}
use Rattle.std.proofs.lemmas.Bool.{cases_Bool, cases_lt, eqb-true}
use Rattle.std.proofs.lemmas.Option.{slice_get-get_or, slice_get-map}
use Rattle.file_tree.specs.Tree.{Tree}
use Rattle.file_tree.specs.declared.call.Call.{Call}
use Rattle.file_tree.specs.declared.reply.Reply.{Reply}
use Rattle.gfs2_layout.specs.declared.rindex.Rindex.{Rindex}
use Rattle.glock_names.specs.Views.{Seen, group_of_entry}
use Rattle.glock_names.specs.declared.LockName.{LockName}
use Rattle.glock_names.specs.declared.State.TheVariants.{Ex}
use Rattle.glock_names.specs.declared.views.Group.{Group}
use Rattle.drafts.specs.declared.change.Change.{Change}
use Rattle.drafts.specs.declared.change.Written.{Written}
use Rattle.image_model.specs.Groups.{IsDataOf, IsHeaderOf, IsListed, end_of}
use Rattle.image_model.specs.Image.{Image}
use Rattle.image_model.specs.Owners.{Owners}
use Rattle.image_model.specs.Replays.{MayChange}
use Rattle.image_model.specs.Stands.{IsLaid, Layout}
use Rattle.image_model.specs.SystemFiles.{HasSameSystem, IsSystemBlock}
use Rattle.image_model.proofs.Counts.{at_in}
use Rattle.image_model.proofs.Facts.{listed_group}
use Rattle.image_model.proofs.Held.{none_some, some_same}
use Rattle.image_model.proofs.Members.{contained}
use Rattle.image_changes.specs.Changes.{inode_of}
use Rattle.image_changes.specs.Does.{AreInside, Does, DoesIn, IsHeld, IsInside, IsOf, LiesInGroup, bytes_for, frees, has_block, writes}
use Rattle.image_changes.proofs.Drafting.{either}
use Rattle.image_changes.proofs.Frame.{dinode_its}
use Rattle.image_changes.proofs.Touching.{locks_are_touched}
use Rattle.lone_answers.specs.Calls.{IsUnderItsLocks}
use Rattle.lone_answers.specs.Holds.{hold_of}
use Rattle.call_blocks.specs.Replaying.{CallsKeepTheSystem, IsOfTree, IsSameBeside, ReplaysMayChangeIt}
use Rattle.call_blocks.proofs.Lists.{lists_are_of_the_tree}
use Rattle.call_blocks.proofs.SameSystem.{same_may_change}
use Rattle.call_blocks.proofs.SystemRows.{covered_apart, covered_no_place, inode_placed, inode_there}

-- ---- what is written lies in a group

lies_in : (v : Seen) (ws : List Written) (b : ℕ) → AllByRecursion (IsInside v) ws → is_some (bytes_for ws b) ≡ true → LiesInGroup v b
lies_in v [] b all e = absurd (true≢false (sym e))
lies_in v (w ∷ ws) b all e = by (w.block == b) refl e (λ wrote. lies_in v ws b all.1 wrote)
  where
    by : (t : Bool) → (w.block == b) ≡ t → is_some (if t then Some w.bytes else bytes_for ws b) ≡ true → (is_some (bytes_for ws b) ≡ true → LiesInGroup v b) → LiesInGroup v b
    by true here wrote later = subst (LiesInGroup v) (eqb-true w.block b here) all.0.inside
    by false away wrote later = later wrote

-- a group of the view is one of the layout's
entry_of : (gs : List Rindex) (k : Group) → Contains (map group_of_entry gs) k → (g : Rindex) × IsListed gs g × (group_of_entry g ≡ k)
entry_of gs k at = by (slice_get gs at.0) refl
  where
    there : option_map group_of_entry (slice_get gs at.0) ≡ Some k
    there = sym (slice_get-map group_of_entry gs at.0) ∙ slice_get-get_or (map group_of_entry gs) at.0 k at.1 ∙ ap Some at.2

    by : (x : Option Rindex) → slice_get gs at.0 ≡ x → (g : Rindex) × IsListed gs g × (group_of_entry g ≡ k)
    by None e = absurd (none_some (sym (ap (option_map group_of_entry) e) ∙ there))
    by (Some g) e = (g, (at.0, e), some_same (sym (ap (option_map group_of_entry) e) ∙ there))

-- where a block lies among the groups
record IsInGroup (im : Image) (l : Layout) (b : ℕ) : Type 0 where
  group : Rindex
  listed : IsListed l.groups group
  side : IsHeaderOf group b ⊎ IsDataOf group b
  low : b < im.count

module _ (v : Seen) (im : Image) (o : Owners) (l : Layout) (t : Tree) (call : Call) (node : ℕ) (reply : Reply) (change : Change) (of : IsOf v im o l t) (inside : AreInside v change)
    (does : Does v call reply change) (under : IsUnderItsLocks v im o l t call node change) where
  laid : IsLaid im o l
  laid = of.stands.laid

  in_image : DoesIn v call reply change im o l t
  in_image = does.images im o l t of

  -- ---- where its blocks lie

  written_in_group : (b : ℕ) → writes change b ≡ true → IsInGroup im l b
  written_in_group b wrote =
      let lies = lies_in v change.blocks.items b inside wrote in
      let entry = entry_of l.groups lies.group (subst (λ gs. Contains gs lies.group) (sym of.groups) lies.has) in
      let g = entry.0 in
      let low : g.address ≤ b = subst (λ (k : Group). k.addr ≤ b) (sym entry.2) lies.low in
      let high : b < end_of g = subst (λ (k : Group). b < k.first + k.count) (sym entry.2) lies.high in
      let fits = laid.fit.each g entry.1 in
      record {
        group = g;
        listed = entry.1;
        side = elim (cases_lt b g.data0) [ inl before ↦ inl (record { low = low; high = omega (arith, before, fits.first) }) | inr behind ↦ inr (record { low = behind; high = high }) ];
        low = omega (arith, high, fits.inside);
      }

  freed_in_group : (b : ℕ) → frees change b ≡ true → IsInGroup im l b
  freed_in_group b gone =
      let f = in_image.freed b gone in
      let g = inode_placed im o l laid b f.inode f.was in
      record { group = g.0; listed = g.1; side = inr g.2; low = omega (arith, g.2.high, (laid.fit.each g.0 g.1).inside) }

  in_group : (b : ℕ) → has_block change b ≡ true → IsInGroup im l b
  in_group b has = elim (either (writes change b) (frees change b) has) [ inl wrote ↦ written_in_group b wrote | inr gone ↦ freed_in_group b gone ]

  -- ---- under which locks

  module _ (b : ℕ) (has : has_block change b ≡ true) where
    held : IsHeld v l o b
    held = in_image.before b has

    listed : (a : ℕ) → Contains under.list (hold_of a Ex) → IsOfTree im o l a
    listed a there = lists_are_of_the_tree im o l t call node under.list under.is a Ex there

    -- where it is one of an inode, that is found from the root or wasn't there
    tree : (a : ℕ) → inode_of b (o b) ≡ Some a → held.0 ≡ record { kind = 2; number = a } → IsOfTree im o l a
    tree a its number = elim (locks_are_touched v call reply change im o l t does.form in_image b held.0 has (inl held.1)) [
      | inl told ↦
          let there = under.under.written held.0 (contained held.0 change.locks.items (at_in held.0 change.locks.items told.0 told.1)) in
          listed a (subst (λ (k : LockName). Contains under.list (record { lock = k; state = Ex })) number there)
      | inr gone ↦
          let same : gone.0 ≡ a = ap (λ (k : LockName). k.number) (sym gone.2 ∙ number) in
          listed a (under.under.freed a a (subst (λ n. frees change n ≡ true) same gone.1) (dinode_its a (o a) (inode_there im o l laid b a its)))
    ]

    may : MayChange im l b
    may =
        let g = in_group b has in
        record {
          there = g.low;
          group = (g.group, listed_group im o l laid g.group g.listed, g.side);
          no_place = covered_no_place im o l laid b held.0 held.1;
          apart = covered_apart im o l laid b held.0 held.1 tree;
        }

  -- ---- and the system files stay

  module _ (other : Image) (beside : IsSameBeside change im other) where
    same_system : HasSameSystem im other
    same_system = record { size = beside.size; count = beside.count; same = same }
      where
        same : (b : ℕ) → IsSystemBlock im b → other.at b ≡ im.at b
        same b is = elim (cases_Bool (has_block change b)) [ inl has ↦ absurd ((may b has).apart is) | inr away ↦ beside.others b away ]

pub replays_may_change_it : ReplaysMayChangeIt
replays_may_change_it v im o l t call node reply change of inside does under b has = may v im o l t call node reply change of inside does under b has

pub calls_keep_the_system : CallsKeepTheSystem
calls_keep_the_system v im other o l t call node reply change of inside does under beside =
    let same = same_system v im o l t call node reply change of inside does under other beside in
    (same, same_may_change im other o l of.stands.laid same)
