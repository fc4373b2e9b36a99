-- What is told of the ends, as far as a view shows.
use Rattle.std.proofs.Common.{◌≡◌, ◌≢◌, inl, inr, ℕ, ◌⊎◌, ◌+◌, true, List, [], ◌∷◌, ◌++◌, length, None, Some, refl, sym, ap, ◌∙◌, subst}
use Rattle.std.proofs.lemmas.List.{append_assoc}
use Rattle.std.specs.Prelude.{Contains}
use Rattle.file_tree.specs.Names.{last_of, leads_to, parent_of}
use Rattle.file_tree.specs.declared.call.Call.{Call}
use Rattle.file_tree.specs.declared.reply.Reply.{Reply}
use Rattle.file_tree.specs.declared.reply.Reply.TheVariants as reply
use Rattle.gfs2_layout.specs.Holding.{Holding}
use Rattle.gfs2_layout.specs.Inode.{dinode_in}
use Rattle.gfs2_layout.specs.Structures.{is_directory}
use Rattle.glock_names.specs.Views.{Seen, HasBlock, IsView}
use Rattle.glock_names.specs.declared.steps.Missing.{Missing}
use Rattle.call_locks.specs.declared.want.Want.{Want}
use Rattle.dinode_tree.specs.Shown.{IsShown}
use Rattle.dinode_tree.proofs.Sound.{some_is_shown}
use Rattle.resource_groups.specs.Putting.{HasDataBlock}
use Rattle.image_model.specs.Flat.{Path}
use Rattle.pair_walks.specs.Answers.{Refuses}
use Rattle.pair_walks.specs.OnePath.{IsDamage, IsSeenAt, LacksName, IsWrongAt, LeadsTo, Names, at_root, by_name, on_path}
use Rattle.pair_walks.specs.OnePath as path
use Rattle.pair_walks.specs.walk.Place.{Place}
use Rattle.pair_walks.specs.Walks.{IsEndOf}
use Rattle.pair_walks.specs.declared.walk.End.{End}
use Rattle.pair_walks.specs.declared.walk.End.TheVariants as end
use Rattle.pair_walks.proofs.Paths.{ends_so}
use Rattle.removing_calls.specs.Removing.{IsNeededOf}
use Rattle.removing_calls.proofs.Above.{above_names, inode_inside}
use Rattle.move_ends.specs.Ends.{AreEnds, IsAbsentBlock, IsBegun, IsDamageAtEnds, IsElsewhere, IsNeededAtEnds, IsRefusal, IsRefused, IsTarget, IsTold, StandsAt, first_wants, from_path, second_wants, to_path}
use Rattle.move_ends.specs.Over.{IsApart, IsDirectoryOf, IsEndRead, IsWrongApart}
use Rattle.move_ends.specs.declared.ends.Ends.{Ends}
use Rattle.move_ends.specs.declared.ends.Ends.TheVariants as ends
use Rattle.move_ends.proofs.Aims.{RefusesOver, has_names, is_directory_there, is_file_there, may_go, refuses}
use Rattle.move_ends.proofs.Trees.{other_long, same_long}

-- what is wrong with an inode to which a front of the path leads is damage on the path
wrong_on_way : (v : Seen) (wants : List Want) (front : Path) (a : ℕ) → LeadsTo v wants front a → (whole back : Path) → whole ≡ front ++ back → (rule b : ℕ)
    → IsWrongAt v a rule b → IsDamage v wants whole rule b
wrong_on_way v wants [] a (at_root held) whole back e rule b wrong = on_path 0 a rule b path.the_root held wrong
wrong_on_way v wants front a (by_name f dir a' n leads is_name named inside held) whole back e rule b wrong =
    on_path (length f + 1) a rule b (path.the_child f back dir a n (e ∙ append_assoc f (n ∷ []) back) leads is_name named inside) held wrong

module _ (v : Seen) (c : Call) (begun : IsBegun v c) where
  -- the second path is the first, or goes on from it
  pub within_told : (from : Place) → leads_to (from_path c) (to_path c) ≡ true → IsSeenAt v (first_wants c) (from_path c) from → (found : Ends)
      → (length (from_path c) ≡ length (to_path c) → found ≡ ends.Stays) → (length (from_path c) ≢ length (to_path c) → found ≡ ends.Refused reply.Inside)
      → (length (from_path c) ≡ length (to_path c)) ⊎ (length (from_path c) ≢ length (to_path c)) → IsTold v c found
  within_told from leads seen found stays inside (inl same) =
      subst (IsTold v c) (sym (stays same)) (record { begun = begun; same = same_long (from_path c) (to_path c) leads same; from = from; at = seen })
  within_told from leads seen found stays inside (inr other) =
      subst (IsTold v c) (sym (inside other)) (IsRefused.goes_on from begun seen leads (other_long (from_path c) (to_path c) other))

  module _ (from : Place) (elsewhere : IsElsewhere c) (source : IsSeenAt v (first_wants c) (from_path c) from) where
    -- the directory above what stands at the new name
    module _ (view : IsView v) (at : Place) (seen : IsSeenAt v (second_wants c) (to_path c) at) where
      names : Names v at.above (last_of (to_path c)) at.inode
      names = above_names v (second_wants c) (to_path c) at (last_of (to_path c)) view seen (parent_of (to_path c), ends_so (to_path c) begun.to)

      pub end_read : IsEndRead v (end.At at)
      end_read = record {
        there = seen.there;
        dinode = seen.dinode;
        inside = inode_inside v (second_wants c) (to_path c) at (last_of (to_path c)) seen (parent_of (to_path c), ends_so (to_path c) begun.to);
        above = names.there;
      }

      are_ends : (to : Place) → IsDirectoryOf v at to → AreEnds v c from to
      are_ends to is = record {
        begun = begun;
        elsewhere = elsewhere;
        source = source;
        target = subst (LeadsTo v (second_wants c) (parent_of (to_path c))) (sym is.inode) seen.above;
        there = subst (HasBlock v) (sym is.inode) names.there;
        read = λ h shown. is.dinode h (subst (λ a. IsShown v a h) is.inode shown);
        directory = λ h shown. names.directory h (subst (λ a. IsShown v a h) is.inode shown);
      }

      stands : (to : Place) → IsDirectoryOf v at to → StandsAt v c to at
      stands to is = record { place = seen; above = sym is.inode }

      refused_at : (to : Place) → IsDirectoryOf v at to → (r : Reply) → RefusesOver v from.inode at.inode r → IsRefused v c r
      refused_at to is r (is_directory_there so plain there) = subst (IsRefused v c) (sym so) (IsRefused.over_directory from to at (are_ends to is) (stands to is) plain there)
      refused_at to is r (is_file_there so directory there) = subst (IsRefused v c) (sym so) (IsRefused.over_file from to at (are_ends to is) (stands to is) directory there)
      refused_at to is r (has_names so directory there more) = subst (IsRefused v c) (sym so) (IsRefused.not_empty from to at (are_ends to is) (stands to is) directory there more)

      at_told : (found : Ends) → IsApart v from (end.At at) found → IsTold v c found
      at_told (ends.Refused r) (to, so) = refused_at to so.0 r (refuses v from at source.dinode r so.1)
      at_told (ends.Moves f to (Some blocks)) so =
          subst (λ x. AreEnds v c x to × IsTarget v c x to (Some blocks.items) × ((b : ℕ) → Contains blocks.items b → HasDataBlock v b)) (sym so.0)
          (are_ends to so.1, IsTarget.taken at blocks.items (stands to so.1) (may_go v from at source.dinode so.2) so.3.0 so.3.1, so.3.2)
      at_told (ends.Moves f to None) so = absurd so
      at_told (ends.NeedBlock m) (to, so) = IsNeededAtEnds.of_target from to at (are_ends to so.0) (stands to so.0) (may_go v from at source.dinode so.1) so.2
      at_told ends.Stays so = absurd so
      at_told (ends.NeedLock lock state) so = absurd so

      at_damage : (rule b : ℕ) → IsWrongApart v from (end.At at) rule b → IsDamageAtEnds v c rule b
      at_damage rule b (inl broken) =
          IsDamageAtEnds.on_paths rule b begun (inr (wrong_on_way v (second_wants c) (parent_of (to_path c)) at.above seen.above (to_path c) (last_of (to_path c) ∷ []) (ends_so (to_path c) begun.to) rule b
          (IsWrongAt.in_inode rule b broken)))
      at_damage rule b (inr (to, so)) = elim so.1 [
        | inl counts ↦ IsDamageAtEnds.count from to at rule b (are_ends to so.0) (stands to so.0) (λ h shown. ap is_directory (sym (source.dinode h shown)) ∙ counts.0) counts.1
        | inr below ↦ IsDamageAtEnds.of_target from to at rule b (are_ends to so.0) (stands to so.0) (may_go v from at source.dinode below.0) below.1
      ]

    lacks_told : (p : Place) → IsSeenAt v (second_wants c) (parent_of (to_path c)) p → LacksName v p.inode (last_of (to_path c)) → AreEnds v c from p × IsTarget v c from p None
    lacks_told p seen lacks = (
      record { begun = begun; elsewhere = elsewhere; source = source; target = seen.leads; there = seen.there; read = seen.dinode; directory = lacks.directory },
      IsTarget.free lacks,
    )

    pub reads_end : IsView v → (e : End) → IsEndOf v (second_wants c) (to_path c) e → IsEndRead v e
    reads_end view (end.At at) seen = end_read view at seen
    reads_end view (end.Lacks p) seen = tt
    reads_end view end.NotFound seen = tt
    reads_end view end.NotDir seen = tt

    pub apart_told : IsView v → (e : End) → IsEndOf v (second_wants c) (to_path c) e → (found : Ends) → IsApart v from e found → IsTold v c found
    apart_told view (end.At at) seen found so = at_told view at seen found so
    apart_told view (end.Lacks p) seen (ends.Moves f to None) so =
        subst (λ x. AreEnds v c x to × IsTarget v c x to None) (sym so.0) (subst (λ x. AreEnds v c from x × IsTarget v c from x None) (sym so.1) (lacks_told p seen.1 seen.2))
    apart_told view (end.Lacks p) seen (ends.Moves f to (Some blocks)) so = absurd so
    apart_told view (end.Lacks p) seen (ends.Refused r) so = absurd so
    apart_told view (end.Lacks p) seen ends.Stays so = absurd so
    apart_told view (end.Lacks p) seen (ends.NeedLock lock state) so = absurd so
    apart_told view (end.Lacks p) seen (ends.NeedBlock m) so = absurd so
    apart_told view end.NotFound seen (ends.Refused r) so = subst (IsRefused v c) (sym so) (IsRefused.no_parent from begun elsewhere source seen)
    apart_told view end.NotFound seen (ends.Moves f to x) so = absurd so
    apart_told view end.NotFound seen ends.Stays so = absurd so
    apart_told view end.NotFound seen (ends.NeedLock lock state) so = absurd so
    apart_told view end.NotFound seen (ends.NeedBlock m) so = absurd so
    apart_told view end.NotDir seen (ends.Refused r) so = subst (IsRefused v c) (sym so) (IsRefused.file_parent from seen.0 begun elsewhere source seen.1)
    apart_told view end.NotDir seen (ends.Moves f to x) so = absurd so
    apart_told view end.NotDir seen ends.Stays so = absurd so
    apart_told view end.NotDir seen (ends.NeedLock lock state) so = absurd so
    apart_told view end.NotDir seen (ends.NeedBlock m) so = absurd so

    pub apart_damage : IsView v → (e : End) → IsEndOf v (second_wants c) (to_path c) e → (rule b : ℕ) → IsWrongApart v from e rule b → IsDamageAtEnds v c rule b
    apart_damage view (end.At at) seen rule b so = at_damage view at seen rule b so
    apart_damage view (end.Lacks p) seen rule b so = absurd so
    apart_damage view end.NotFound seen rule b so = absurd so
    apart_damage view end.NotDir seen rule b so = absurd so

-- ---- a block that is needed isn't there, and a refusal is one

needed_absent : (v : Seen) (a : ℕ) (m : Missing) → IsNeededOf v a m → v.block_at m.block ≡ None
needed_absent v a m (IsNeededOf.in_tree needed) = let s = some_is_shown v a in (needed s.0 s.1.0).absent
needed_absent v a m (IsNeededOf.in_leaves is needed absent) = absent

refuses_so : (v : Seen) (from at : ℕ) (r : Reply) → RefusesOver v from at r → Refuses r
refuses_so v from at r (is_directory_there so plain there) = subst Refuses (sym so) (refl, tt)
refuses_so v from at r (is_file_there so directory there) = subst Refuses (sym so) (refl, tt)
refuses_so v from at r (has_names so directory there more) = subst Refuses (sym so) (refl, tt)

pub apart_absent : (v : Seen) (from : Place) (e : End) (found : Ends) → IsApart v from e found → IsAbsentBlock v found
apart_absent v from (end.At at) (ends.NeedBlock m) (to, so) = needed_absent v at.inode m so.2
apart_absent v from (end.Lacks p) (ends.NeedBlock m) so = absurd so
apart_absent v from end.NotFound (ends.NeedBlock m) so = absurd so
apart_absent v from end.NotDir (ends.NeedBlock m) so = absurd so
apart_absent v from e (ends.Refused r) so = tt
apart_absent v from e (ends.Moves f to x) so = tt
apart_absent v from e ends.Stays so = tt
apart_absent v from e (ends.NeedLock lock state) so = tt

pub apart_refusal : (v : Seen) (from : Place) (e : End) (found : Ends) → ((h : Holding) → IsShown v from.inode h → from.dinode ≡ dinode_in h) → IsApart v from e found → IsRefusal found
apart_refusal v from (end.At at) (ends.Refused r) read (to, so) = refuses_so v from.inode at.inode r (refuses v from at read r so.1)
apart_refusal v from (end.Lacks p) (ends.Refused r) read so = absurd so
apart_refusal v from end.NotFound (ends.Refused r) read so = subst Refuses (sym so) (refl, tt)
apart_refusal v from end.NotDir (ends.Refused r) read so = subst Refuses (sym so) (refl, tt)
apart_refusal v from e (ends.NeedBlock m) read so = tt
apart_refusal v from e (ends.Moves f to x) read so = tt
apart_refusal v from e ends.Stays read so = tt
apart_refusal v from e (ends.NeedLock lock state) read so = tt
