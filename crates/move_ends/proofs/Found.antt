-- What is found at the ends, in an image that the view may be of.
use Rattle.std.proofs.Common.{◌≡◌, ◌≢◌, ◌⊎◌, inl, inr, ℕ, suc, Bool, true, false, true≢false, List, [], ◌∷◌, length, Option, None, Some, refl, sym, ap, ◌∙◌, subst, arith}
use Rattle.std.proofs.lemmas.Bool.{cases_Bool, cond-true, cond-false}
use Rattle.std.specs.Prelude.{option_and_then}
use Rattle.file_tree.specs.Apply.{Answer, Found, apply, refusal_over, walk}
use Rattle.file_tree.specs.Names.{last_of, leads_to, parent_of}
use Rattle.file_tree.specs.Tree.{Tree, Entries, file, dir, look}
use Rattle.file_tree.specs.declared.call.Call.{Call}
use Rattle.file_tree.specs.declared.reply.Reply.{Reply}
use Rattle.file_tree.specs.declared.reply.Reply.TheVariants as reply
use Rattle.gfs2_layout.specs.Inode.{content_of}
use Rattle.gfs2_layout.specs.Records.{child_named, is_dots}
use Rattle.glock_names.specs.Views.{Seen}
use Rattle.glock_names.specs.declared.steps.Missing.{Missing}
use Rattle.dinode_tree.specs.Below.{AnyIndex}
use Rattle.dinode_tree.specs.Shown.{IsShown}
use Rattle.pair_walks.specs.Shown as dirs
use Rattle.image_model.specs.Flat.{ADir, AFile, Node, Path, follow, no_node, thing_at, thing_from, thing_in}
use Rattle.image_model.specs.Image.{Image}
use Rattle.image_model.specs.Nodes.{node_of}
use Rattle.image_model.specs.Owners.{Owners, holding}
use Rattle.image_model.specs.Stands.{Layout, flat_of}
use Rattle.image_model.proofs.Held.{none_some, some_same}
use Rattle.image_changes.specs.Does.{IsOf}
use Rattle.image_changes.specs.Instances.{IsAt, IsChildless, dinode_at, is_directory_at, records_at}
use Rattle.image_changes.specs.Walks.{FindsIt, ListsNames}
use Rattle.image_changes.proofs.DirectoryNames.{directories_list}
use Rattle.image_changes.proofs.FlatPaths.{follow-append}
use Rattle.image_changes.proofs.Nodes.{dir_thing, file_thing}
use Rattle.image_changes.proofs.Walks.{walks_find}
use Rattle.pair_walks.specs.Holds.{AreHeld, IsAskedFor}
use Rattle.pair_walks.specs.OnePath.{IsPlaceOf, IsSeenAt}
use Rattle.pair_walks.specs.walk.Place.{Place}
use Rattle.pair_walks.proofs.Asked.{IsAmong, asked_among, names_asked}
use Rattle.pair_walks.proofs.Images.{is_inode, is_shown, no_child_of_file, shown_inode, unbroken, unbroken_directory}
use Rattle.pair_walks.specs.Orders.{pair_holds}
use Rattle.pair_walks.specs.Walks.{IsEndIn}
use Rattle.pair_walks.specs.declared.walk.End.{End}
use Rattle.pair_walks.specs.declared.walk.End.TheVariants as end
use Rattle.pair_walks.proofs.Paths.{ends_so}
use Rattle.removing_calls.specs.Removing.{IsNeededOf}
use Rattle.removing_calls.proofs.Found.{none_wrong_below, own_blocks}
use Rattle.move_ends.specs.Ends.{IsBegun, IsElsewhere, IsFoundIn, IsKindAt, IsRenaming, MayGo, MovesIn, StoodIn, TakesIt, a_directory, a_file, first_wants, from_path, inode_holds, second_wants, to_path}
use Rattle.move_ends.specs.Over.{GoesWith, IsApart, IsDirectoryOf, IsWrongApart}
use Rattle.move_ends.specs.declared.ends.Ends.{Ends}
use Rattle.move_ends.specs.declared.ends.Ends.TheVariants as ends
use Rattle.move_ends.proofs.Aims.{RefusesOver, has_names, is_directory_there, is_file_there, may_go, refuses}
use Rattle.move_ends.proofs.Locks.{all_held, path_asks, second_among}
use Rattle.move_ends.proofs.Trees.{directory_over_empty, directory_over_file, directory_over_full, file_over_directory, file_over_file, file_parent, is_inside, no_parent, other_long, over_it, over_nothing, refused_over, same_long, stays}
use Rattle.move_ends.proofs.Wanted.{in_order, many}

-- ---- what stands at a path

-- a directory stands for a tree that is one
pub record IsDirectoryTree (t : Tree) (path : Path) : Type 0 where
  pub entries : Entries
  pub walks : walk t path ≡ Found (dir entries)

module _ (v : Seen) (im : Image) (o : Owners) (l : Layout) (t : Tree) (of : IsOf v im o l t) where
  found : (path : Path) (a : ℕ) → IsAt im o l path a → FindsIt im o t path a
  found path a at = walks_find im o l t path a of.stands at

  its_thing : (path : Path) (a : ℕ) (at : IsAt im o l path a) → thing_in (found path a at).tree ≡ (flat_of im o a).thing
  its_thing path a at = some_same (sym ((found path a at).reads.same []))

  is_directory_thing : (path : Path) (a : ℕ) (at : IsAt im o l path a) → is_directory_at im o a ≡ true → thing_in (found path a at).tree ≡ ADir
  is_directory_thing path a at is = its_thing path a at ∙ dir_thing im o a (is_inode v im o l t of path a at) is

  is_file_thing : (path : Path) (a : ℕ) (at : IsAt im o l path a) → is_directory_at im o a ≡ false → thing_in (found path a at).tree ≡ AFile (content_of (holding im o a))
  is_file_thing path a at is = its_thing path a at ∙ file_thing im o a (is_inode v im o l t of path a at) is

  directory_walked : (path : Path) (a : ℕ) → IsAt im o l path a → is_directory_at im o a ≡ true → IsDirectoryTree t path
  directory_walked path a at is = let names = directories_list im o l t path a of.stands at is in record { entries = names.entries; walks = names.walks }

  file_walked : (path : Path) (a : ℕ) → IsAt im o l path a → is_directory_at im o a ≡ false → (bytes : List ℕ) × (walk t path ≡ Found (file bytes))
  file_walked path a at is = by (found path a at).tree (found path a at).walks (is_file_thing path a at is)
    where
      by : (u : Tree) → walk t path ≡ Found u → thing_in u ≡ AFile (content_of (holding im o a)) → (bytes : List ℕ) × (walk t path ≡ Found (file bytes))
      by (file bytes) walks is = (bytes, walks)
      by (dir es) walks is = absurd (other is)
        where
          other : ADir ≡ AFile (content_of (holding im o a)) → ⊥
          other e = cc

  -- where the directory at all names but the last hasn't that, nothing stands at the path
  module _ (q : Path) (some : q ≢ []) (a : ℕ) (at : IsAt im o l (parent_of q) a) where
    at_last : follow (flat_of im o) l.root q ≡ option_and_then (λ b. Some b) ((flat_of im o a).child (last_of q))
    at_last = ap (follow (flat_of im o) l.root) (ends_so q some) ∙ follow-append (flat_of im o) (parent_of q) (last_of q ∷ []) l.root a at

    no_child : is_directory_at im o a ≡ true → child_named (records_at im o a) (last_of q) ≡ None → (flat_of im o a).child (last_of q) ≡ None
    no_child is none =
        ap (λ (n : Node). n.child (last_of q)) (cond-true _ (node_of (holding im o a)) no_node (is_inode v im o l t of (parent_of q) a at))
        ∙ cond-true _ _ None is
        ∙ (elim (cases_Bool (is_dots (last_of q))) [ inl dots ↦ cond-true _ None _ dots | inr plain ↦ cond-false _ None _ plain ∙ none ])

    nothing_there : is_directory_at im o a ≡ true → child_named (records_at im o a) (last_of q) ≡ None → follow (flat_of im o) l.root q ≡ None
    nothing_there is none = at_last ∙ ap (option_and_then (λ b. Some b)) (no_child is none)

    -- and one that has it is a directory
    is_parent : (c : ℕ) → IsAt im o l q c → is_directory_at im o a ≡ true
    is_parent c there = elim (cases_Bool (is_directory_at im o a)) [
      | inl is ↦ is
      | inr plain ↦ absurd (none_some (sym (at_last ∙ ap (option_and_then (λ b. Some b)) (no_child_of_file v im o l t of (parent_of q) a (last_of q) at plain)) ∙ there))
    ]

    look_none : (es : Entries) → walk t (parent_of q) ≡ Found (dir es) → is_directory_at im o a ≡ true → child_named (records_at im o a) (last_of q) ≡ None → look es (last_of q) ≡ None
    look_none es walks is none = by (look es (last_of q)) (sym reads ∙ ap (option_and_then (λ b. Some (flat_of im o b).thing)) (ap (option_and_then (λ b. Some b)) (no_child is none)))
      where
        same_tree : (u w : Tree) → walk t (parent_of q) ≡ Found u → walk t (parent_of q) ≡ Found w → u ≡ w
        same_tree u w e f = told (sym e ∙ f)
          where
            told : Found u ≡ Found w → u ≡ w
            told e = cc

        reads : thing_from (flat_of im o) a (last_of q ∷ []) ≡ thing_at (dir es) (last_of q ∷ [])
        reads = (found (parent_of q) a at).reads.same (last_of q ∷ []) ∙ ap (λ u. thing_at u (last_of q ∷ [])) (same_tree (found (parent_of q) a at).tree (dir es) (found (parent_of q) a at).walks walks)

        by : (x : Option Tree) → option_and_then (λ u. Some (thing_in u)) (option_and_then (λ u. Some u) x) ≡ None → x ≡ None
        by None e = refl
        by (Some u) e = cc

  -- ---- the call

  module _ (c : Call) (is : IsRenaming c) (begun : IsBegun v c) where
    abbrev p : Path
    p = from_path c

    abbrev q : Path
    q = to_path c

    list_held : AreHeld v (pair_holds im o l p q (first_wants c) (second_wants c)) → AreHeld v (inode_holds im o l c)
    list_held = all_held v im o l c begun.from begun.to begun.order

    pub within_found : (from : Place) → leads_to p q ≡ true → IsPlaceOf v im o l p from → AreHeld v (pair_holds im o l p q (first_wants c) (second_wants c)) → (e : Ends)
        → (length p ≡ length q → e ≡ ends.Stays) → (length p ≢ length q → e ≡ ends.Refused reply.Inside) → (length p ≡ length q) ⊎ (length p ≢ length q) → IsFoundIn v im o l t c e
    within_found from leads place held e so other (inl same) =
        let f = found p from.inode place.at in
        subst (IsFoundIn v im o l t c) (sym (so same)) (stays c t is begun.from begun.to f.tree f.walks (same_long p q leads same), list_held held)
    within_found from leads place held e so other (inr apart) =
        let f = found p from.inode place.at in
        subst (IsFoundIn v im o l t c) (sym (other apart)) (ap (λ (x : Answer). x.reply) (is_inside c t is begun.from begun.to f.tree f.walks (other_long p q apart) leads), list_held held)

    module _ (elsewhere : IsElsewhere c) (from : Place) (source : IsSeenAt v (first_wants c) p from) (place : IsPlaceOf v im o l p from) (held : AreHeld v (pair_holds im o l p q (first_wants c) (second_wants c))) where
      abbrev moved : Tree
      moved = (found p from.inode place.at).tree

      moved_walks : walk t p ≡ Found moved
      moved_walks = (found p from.inode place.at).walks

      from_kind : (b : Bool) → IsKindAt v from.inode b → is_directory_at im o from.inode ≡ b
      from_kind b kind = kind (holding im o from.inode) (is_shown v im o l t of p from.inode place.at)

      from_file : IsKindAt v from.inode false → thing_in moved ≡ AFile (content_of (holding im o from.inode))
      from_file kind = is_file_thing p from.inode place.at (from_kind false kind)

      from_directory : IsKindAt v from.inode true → thing_in moved ≡ ADir
      from_directory kind = is_directory_thing p from.inode place.at (from_kind true kind)

      -- ---- where an inode stands at the new name

      module _ (at : Place) (there : IsPlaceOf v im o l q at) where
        above_directory : is_directory_at im o at.above ≡ true
        above_directory = is_parent q begun.to at.above there.above at.inode there.at

        above_tree : IsDirectoryTree t (parent_of q)
        above_tree = directory_walked (parent_of q) at.above there.above above_directory

        shown_at : IsShown v at.inode (holding im o at.inode)
        shown_at = is_shown v im o l t of q at.inode there.at

        at_names : IsKindAt v at.inode true → ListsNames im o t q at.inode
        at_names kind = directories_list im o l t q at.inode of.stands there.at (kind (holding im o at.inode) shown_at)

        refuses_with : (r : Reply) (w : Tree) → walk t q ≡ Found w → refusal_over moved w ≡ Some r → (apply c t).reply ≡ r
        refuses_with r w walks so = refused_over c t is begun.from begun.to moved moved_walks elsewhere above_tree.entries above_tree.walks w walks r so

        refused_in : (r : Reply) → RefusesOver v from.inode at.inode r → (apply c t).reply ≡ r
        refused_in r (is_directory_there so plain other) =
            let names = at_names other in
            refuses_with reply.IsDir (dir names.entries) names.walks (file_over_directory moved names.entries (content_of (holding im o from.inode)) (from_file plain)) ∙ sym so
        refused_in r (is_file_there so directory other) =
            let there_is = file_walked q at.inode there.at (other (holding im o at.inode) shown_at) in
            refuses_with reply.NotDir (file there_is.0) there_is.1 (directory_over_file moved there_is.0 (from_directory directory)) ∙ sym so
        refused_in r (has_names so directory other more) =
            let names = at_names other in
            refuses_with reply.NotEmpty (dir names.entries) names.walks
            (directory_over_full moved names.entries (from_directory directory) (λ none. (more (holding im o at.inode) shown_at).0 (omega (arith, names.counted, none)))) ∙ sym so

        takes_with : (w : Tree) → walk t q ≡ Found w → refusal_over moved w ≡ None → TakesIt t c
        takes_with w walks so = record {
          moved = moved;
          there = (found p from.inode place.at).there;
          applies = over_it c t is begun.from begun.to moved moved_walks elsewhere above_tree.entries above_tree.walks w walks so;
        }

        takes_over : MayGo v from at → TakesIt t c
        takes_over (a_file plain other) =
            let there_is = file_walked q at.inode there.at (other (holding im o at.inode) shown_at) in
            takes_with (file there_is.0) there_is.1 (file_over_file moved there_is.0 (content_of (holding im o from.inode)) (from_file plain))
        takes_over (a_directory directory bare) =
            let names = at_names bare.directory in
            let two = bare.two (holding im o at.inode) shown_at in
            takes_with (dir names.entries) names.walks (directory_over_empty moved names.entries (from_directory directory) (omega (arith, names.counted, two)))

        is_childless : MayGo v from at → IsChildless im o at.inode
        is_childless (a_file plain other) directory = absurd (true≢false (sym directory ∙ other (holding im o at.inode) shown_at))
        is_childless (a_directory directory bare) so = bare.two (holding im o at.inode) shown_at

        moves_over : (to : Place) (blocks : List ℕ) → IsDirectoryOf v at to → MayGo v from at → GoesWith v at.inode blocks → MovesIn v im o l t c from to (Some blocks)
        moves_over to blocks of_it may goes = record {
          source = place;
          target = there.above ∙ ap Some (sym of_it.inode);
          directory = ap (is_directory_at im o) of_it.inode ∙ above_directory;
          dinode = of_it.dinode (holding im o at.above) (is_shown v im o l t of (parent_of q) at.above there.above) ∙ ap (dinode_at im o) (sym of_it.inode);
          stood = StoodIn.an_inode at.inode blocks there.at (is_childless may) (own_blocks v im o l t of q at.inode there.at blocks (goes.0 (holding im o at.inode) (shown_inode v im o l t of q at.inode there.at)));
          takes = takes_over may;
        }

        asks_for : (m : Missing) → IsNeededOf v at.inode m → IsAskedFor v im o l (inode_holds im o l c) m
        asks_for m needed = path_asks v im o l c begun.from begun.to begun.order m (by needed)
          where
            long : suc (length q) ≡ length (second_wants c)
            long = omega (arith, many true q begun.to)

            among : IsAmong v (pair_holds im o l p q (first_wants c) (second_wants c)) at.inode
            among = second_among v im o l p q (first_wants c) (second_wants c) (in_order true q) long from.inode at.inode place.at elsewhere there.at held

            by : IsNeededOf v at.inode m → IsAskedFor v im o l (pair_holds im o l p q (first_wants c) (second_wants c)) m
            by (IsNeededOf.in_tree needs) = asked_among v im o l t of q at.inode there.at (pair_holds im o l p q (first_wants c) (second_wants c)) among AnyIndex 1 m (needs (holding im o at.inode) shown_at)
            by (IsNeededOf.in_leaves directory needs absent) =
                names_asked v im o l t of q at.inode there.at (pair_holds im o l p q (first_wants c) (second_wants c)) among (directory (holding im o at.inode) shown_at) m
                (needs (holding im o at.inode) (shown_inode v im o l t of q at.inode there.at))

        at_found : (e : Ends) → IsApart v from (end.At at) e → IsFoundIn v im o l t c e
        at_found (ends.Refused r) (to, so) = (refused_in r (refuses v from at source.dinode r so.1), list_held held)
        at_found (ends.Moves f to (Some blocks)) so =
            subst (λ x. MovesIn v im o l t c x to (Some blocks.items) × AreHeld v (inode_holds im o l c)) (sym so.0)
            (moves_over to blocks.items so.1 (may_go v from at source.dinode so.2) so.3, list_held held)
        at_found (ends.Moves f to None) so = absurd so
        at_found (ends.NeedBlock m) (to, so) = asks_for m so.2
        at_found ends.Stays so = absurd so
        at_found (ends.NeedLock lock state) so = absurd so

        at_sound : (rule b : ℕ) → IsWrongApart v from (end.At at) rule b → ⊥
        at_sound rule b (inl broken) =
            unbroken v im o l t of (parent_of q) at.above rule b there.above (broken (holding im o at.above) (is_shown v im o l t of (parent_of q) at.above there.above))
        at_sound rule b (inr (to, so)) = elim so.1 [
          | inl counts ↦
              let linear = counts.1 (holding im o at.inode) shown_at in
              unbroken_directory v im o l t of q at.inode rule b there.at linear.0.directory (dirs.IsBroken.in_linear linear.0.directory linear.0.linear linear.1)
          | inr below ↦ none_wrong_below v im o l t of q at.inode there.at rule b below.1
        ]

      -- ---- where nothing does

      lacks_found : (to : Place) → IsEndIn v im o l t q (end.Lacks to) → MovesIn v im o l t c from to None
      lacks_found to ended =
          let parent = directory_walked (parent_of q) to.inode ended.0.at ended.1 in
          record {
            source = place;
            target = ended.0.at;
            directory = ended.1;
            dinode = ended.0.dinode;
            stood = StoodIn.nothing ended.2 (nothing_there q begun.to to.inode ended.0.at ended.1 ended.2);
            takes = record {
              moved = moved;
              there = (found p from.inode place.at).there;
              applies = over_nothing c t is begun.from begun.to moved moved_walks elsewhere parent.entries parent.walks
                  (look_none q begun.to to.inode ended.0.at parent.entries parent.walks ended.1 ended.2);
            };
          }

      pub apart_found : (e : End) → IsEndIn v im o l t q e → (f : Ends) → IsApart v from e f → IsFoundIn v im o l t c f
      apart_found (end.At at) ended f so = at_found at ended f so
      apart_found (end.Lacks to) ended (ends.Moves f to' None) so =
          subst (λ x. MovesIn v im o l t c x to' None × AreHeld v (inode_holds im o l c)) (sym so.0)
          (subst (λ x. MovesIn v im o l t c from x None) (sym so.1) (lacks_found to ended), list_held held)
      apart_found (end.Lacks to) ended (ends.Moves f to' (Some blocks)) so = absurd so
      apart_found (end.Lacks to) ended (ends.Refused r) so = absurd so
      apart_found (end.Lacks to) ended ends.Stays so = absurd so
      apart_found (end.Lacks to) ended (ends.NeedLock lock state) so = absurd so
      apart_found (end.Lacks to) ended (ends.NeedBlock m) so = absurd so
      apart_found end.NotFound ended (ends.Refused r) so = (no_parent c t is begun.from begun.to moved moved_walks elsewhere reply.NotFound ended ∙ sym so, list_held held)
      apart_found end.NotFound ended (ends.Moves f to x) so = absurd so
      apart_found end.NotFound ended ends.Stays so = absurd so
      apart_found end.NotFound ended (ends.NeedLock lock state) so = absurd so
      apart_found end.NotFound ended (ends.NeedBlock m) so = absurd so
      apart_found end.NotDir ended (ends.Refused r) so = (file_parent c t is begun.from begun.to moved moved_walks elsewhere ended ∙ sym so, list_held held)
      apart_found end.NotDir ended (ends.Moves f to x) so = absurd so
      apart_found end.NotDir ended ends.Stays so = absurd so
      apart_found end.NotDir ended (ends.NeedLock lock state) so = absurd so
      apart_found end.NotDir ended (ends.NeedBlock m) so = absurd so

      pub apart_sound : (e : End) → IsEndIn v im o l t q e → (rule b : ℕ) → IsWrongApart v from e rule b → ⊥
      apart_sound (end.At at) ended rule b so = at_sound at ended rule b so
      apart_sound (end.Lacks to) ended rule b so = absurd so
      apart_sound end.NotFound ended rule b so = absurd so
      apart_sound end.NotDir ended rule b so = absurd so
