-- The inode that comes next on a path, and what comes behind it, in an image that the view may be of.
use Rattle.std.proofs.Common.{◌≡◌, ◌≢◌, inl, inr, ℕ, suc, ◌+◌, true, List, [], ◌∷◌, ◌++◌, length, take, drop, slice_get, Option, None, Some, refl, sym, ap, subst, ◌∙◌, arith}
use Rattle.std.proofs.lemmas.Bool.{cases_Bool, cond-true, cond-false}
use Rattle.std.proofs.lemmas.List.{drop_all, take_all}
use Rattle.std.proofs.lemmas.Option.{slice_get_within}
use Rattle.file_tree.specs.Names.{IsName, last_of, parent_of}
use Rattle.file_tree.specs.Tree.{Tree}
use Rattle.file_tree.specs.Apply as tree
use Rattle.file_tree.specs.declared.reply.Reply.{Reply}
use Rattle.file_tree.specs.declared.reply.Reply.TheVariants.{NotFound}
use Rattle.gfs2_layout.specs.Records.{child_named, is_dots}
use Rattle.glock_names.specs.Views.{Seen, HasBlock}
use Rattle.glock_names.specs.declared.State.{State}
use Rattle.call_locks.specs.declared.want.Want.{Want}
use Rattle.dinode_tree.specs.Shown.{IsShown}
use Rattle.image_model.specs.Flat.{Path, Node, follow, no_node}
use Rattle.image_model.specs.Image.{Image}
use Rattle.image_model.specs.Nodes.{node_of}
use Rattle.image_model.specs.Owners.{Owners, holding}
use Rattle.image_model.specs.Stands.{Layout, flat_of}
use Rattle.image_changes.specs.Does.{IsOf}
use Rattle.image_changes.specs.Instances.{IsAt, is_directory_at, records_at}
use Rattle.image_changes.proofs.Walks.{walks_end, walks_find}
use Rattle.path_walks.specs.Holds.{hold_for, hold_of, holds_on}
use Rattle.path_walks.specs.Walks.{AreInOrder, IsPlaceOf, IsReadAt, LacksName, Names}
use Rattle.path_walks.specs.declared.walk.Place.{Place}
use Rattle.path_walks.proofs.Images.{child_in_group, child_is_there, is_inode, is_shown, no_child_of_file, says_child, says_none, shown_directory, unbroken, unbroken_directory}
use Rattle.path_walks.proofs.Lists.{nowhere, onward, parent_of_next, split_at, take_next}
use Rattle.pair_walks.specs.Ahead.{IsAheadOf, IsDamageOfName, in_this, past_groups}
use Rattle.pair_walks.specs.Turns.{IsDamagedAt}
use Rattle.pair_walks.specs.Walks.{IsEndIn}
use Rattle.pair_walks.specs.Ways.{IsAboveIn, IsComeIn, holds_from}
use Rattle.pair_walks.specs.declared.next.Next.{Next}
use Rattle.pair_walks.specs.declared.next.Next.TheVariants as next
use Rattle.pair_walks.specs.declared.walk.End.TheVariants as end
use Rattle.pair_walks.proofs.Paths.{before_last, drop_next, ends_so, last_parent, name_at, none_behind}

module _ (v : Seen) (im : Image) (o : Owners) (l : Layout) (t : Tree) (of : IsOf v im o l t) (wants : List Want) (names : Path) (as_many : length wants ≡ length names + 1) (order : AreInOrder wants) where
  -- ---- the locks

  -- that of an inode which is there comes first of those from its depth on
  pub lock_next : (k : ℕ) (w : Want) (a : ℕ) → slice_get wants k ≡ Some w → IsAt im o l (take k names) a
      → holds_from im o l names wants k ≡ hold_of a w.state ∷ holds_from im o l names wants (k + 1)
  lock_next k w a at here =
      let there : follow (flat_of im o) l.root (take w.depth names) ≡ Some a = ap (λ d. follow (flat_of im o) l.root (take d names)) (order k w at) ∙ here in
      let e : suc k ≡ k + 1 = omega arith in
      ap (holds_on (flat_of im o) l.root names) (drop_next wants k w at)
      ∙ ap (λ x. hold_for x w.state ++ holds_on (flat_of im o) l.root names (drop (suc k) wants)) there
      ∙ ap (λ j. hold_of a w.state ∷ holds_from im o l names wants j) e

  -- behind a name that leads nowhere, and behind the last one, there is none
  none_further : (k a : ℕ) (n : List ℕ) → slice_get names k ≡ Some n → IsAt im o l (take k names) a → (flat_of im o a).child n ≡ None → holds_from im o l names wants (k + 1) ≡ []
  none_further k a n at here none =
      none_behind (λ (w : Want). hold_for (follow (flat_of im o) l.root (take w.depth names)) w.state) wants (k + 1)
      (λ i w low there. ap (λ x. hold_for x w.state)
      (ap (λ d. follow (flat_of im o) l.root (take d names)) (order i w there) ∙ nowhere (flat_of im o) l.root a names k i n at here none (omega (arith, low))))

  none_at_end : (k : ℕ) → k ≡ length names → holds_from im o l names wants (k + 1) ≡ []
  none_at_end k e = ap (holds_on (flat_of im o) l.root names) (drop_all (k + 1) wants (omega (arith, e, as_many)))

  -- ---- at an inode of the path

  module _ (depth a : ℕ) (at : IsAt im o l (take depth names) a) where
    shown : IsShown v a (holding im o a)
    shown = is_shown v im o l t of (take depth names) a at

    -- a directory that hasn't the name
    lacks_it : (n : List ℕ) → LacksName v a n → (is_directory_at im o a ≡ true) × (child_named (records_at im o a) n ≡ None)
    lacks_it n lacks =
        let dir = lacks.directory (holding im o a) shown in
        (dir, says_none v im o l t of (take depth names) a n at dir (lacks.absent (holding im o a) (shown_directory v im o l t of (take depth names) a at dir)))

    no_child : (n : List ℕ) → IsName n → LacksName v a n → (flat_of im o a).child n ≡ None
    no_child n is_name lacks =
        let so = lacks_it n lacks in
        child_is_there v im o l t of (take depth names) a n at is_name so.0 ∙ so.1

    -- where a name leads
    child : (n : List ℕ) (b : ℕ) → IsName n → Names v a n b → (flat_of im o a).child n ≡ Some b
    child n b is_name named =
        let dir = named.directory (holding im o a) shown in
        child_is_there v im o l t of (take depth names) a n at is_name dir
        ∙ says_child v im o l t of (take depth names) a n b at dir (named.child (holding im o a) (shown_directory v im o l t of (take depth names) a at dir))

    child_there : (n : List ℕ) (b : ℕ) → slice_get names depth ≡ Some n → IsName n → Names v a n b → IsAt im o l (take (depth + 1) names) b
    child_there n b here is_name named =
        let e : depth + 1 ≡ suc depth = omega arith in
        ap (λ k. follow (flat_of im o) l.root (take k names)) e ∙ onward (flat_of im o) l.root a names depth n here at ∙ child n b is_name named

    -- no damage is met
    sound_name : (n : List ℕ) (rule b : ℕ) → IsName n → IsDamageOfName v a n rule b → ⊥
    sound_name n rule b is_name (in_this r c is broken) =
        let dir = is (holding im o a) shown in
        unbroken_directory v im o l t of (take depth names) a r c at dir (broken (holding im o a) (shown_directory v im o l t of (take depth names) a at dir))
    sound_name n rule b is_name (past_groups c named linear outside) = outside (child_in_group v im o l t of a c n (child n c is_name named))

    pub is_sound : (state : State) (rule b : ℕ) → IsDamagedAt v names depth a state rule b → ⊥
    is_sound state rule b (on, inl broken) = unbroken v im o l t of (take depth names) a rule b at (broken (holding im o a) shown)
    is_sound state rule b (on, inr ahead) = sound_name ahead.0 rule b ahead.1.1 ahead.1.2

  -- ---- past it

  module _ (depth a above : ℕ) (at : IsAt im o l (take depth names) a) (up : IsAboveIn im o l names depth above) (p : Place) (state : State) (read : IsReadAt v a above state p) where
    at_place : IsAt im o l (take depth names) p.inode
    at_place = at ∙ ap Some (sym read.inode)

    up_place : IsAt im o l (parent_of (take depth names)) p.above
    up_place = up ∙ ap Some (sym read.above_is)

    place_of : (q : Path) → q ≡ take depth names → IsPlaceOf v im o l q p
    place_of q e = record {
      at = ap (follow (flat_of im o) l.root) e ∙ at_place;
      above = ap (λ x. follow (flat_of im o) l.root (parent_of x)) e ∙ up_place;
      dinode = read.dinode (holding im o p.inode) (subst (λ b. IsShown v b (holding im o p.inode)) read.inode (shown depth p.inode at_place));
      there = subst (HasBlock v) (sym read.inode) read.there;
    }

    pub comes_in : (n : Next) → IsAheadOf v p names depth n → IsComeIn v im o l t wants names (depth + 1) n
    comes_in (next.Ended (end.At q)) ahead =
        (subst (IsPlaceOf v im o l names) (sym ahead.1) (place_of names (sym (take_all depth names (omega (arith, ahead.0))))), none_at_end depth ahead.0)
    comes_in (next.Ended end.NotDir) ahead =
        let n = name_at names depth ahead.0 in
        let file = ahead.1 (holding im o p.inode) (shown depth p.inode at_place) in
        let none = no_child_of_file v im o l t of (take depth names) p.inode n.0 at_place file in (
          ap (tree.walk t) (split_at names depth n.0 n.1) ∙ (walks_end im o l t (take depth names) p.inode n.0 (drop (suc depth) names) of.stands at_place none).1 file,
          none_further depth p.inode n.0 n.1 at_place none,
        )
    comes_in (next.Ended (end.Lacks q)) ahead =
        let n = ahead.2.0 in
        let last = last_parent names depth n ahead.2.1.0 ahead.0 in
        let so = lacks_it depth p.inode at_place n ahead.2.1.2 in
        let ended : IsEndIn v im o l t names (end.Lacks p) = (place_of (parent_of names) last.0, so.0, ap (child_named (records_at im o p.inode)) last.1 ∙ so.1) in (
          subst (λ x. IsEndIn v im o l t names (end.Lacks x)) (sym ahead.1) ended,
          none_further depth p.inode n ahead.2.1.0 at_place (no_child depth p.inode at_place n ahead.2.1.1 ahead.2.1.2),
        )
    comes_in (next.Ended end.NotFound) ahead =
        let n = ahead.1.0 in
        let rest = before_last names depth n ahead.1.1.0 ahead.0 in
        let none = no_child depth p.inode at_place n ahead.1.1.1 ahead.1.1.2 in (
          ap (tree.walk t) rest.1 ∙ (walks_end im o l t (take depth names) p.inode n rest.0 of.stands at_place none).0 (lacks_it depth p.inode at_place n ahead.1.1.2).0,
          none_further depth p.inode n ahead.1.1.0 at_place none,
        )
    comes_in (next.Inode b up') ahead =
        let n = ahead.1.0 in
        let e : depth + 1 ≡ suc depth = omega arith in
        let so_far : parent_of (take (depth + 1) names) ≡ take depth names = ap (λ k. parent_of (take k names)) e ∙ ap parent_of (take_next names depth n ahead.1.1.0) ∙ parent_of_next (take depth names) n in
        let low = slice_get_within names depth n ahead.1.1.0 in (
          omega (arith, low),
          child_there depth p.inode at_place n b ahead.1.1.0 ahead.1.1.1 ahead.1.1.2.0,
          ap (follow (flat_of im o) l.root) so_far ∙ at_place ∙ ap Some (sym ahead.0),
        )

-- ---- how the tree ends a path that leads nowhere

-- a path that goes on from one that is refused is refused so
goes_on : (w : tree.Walked) (p r : Path) → tree.walk_from w (p ++ r) ≡ tree.walk_from (tree.walk_from w p) r
goes_on w [] r = refl
goes_on w (n ∷ p) r = goes_on (tree.step_to w n) p r

stays : (r : Reply) (p : Path) → tree.walk_from (tree.Refused r) p ≡ tree.Refused r
stays r [] = refl
stays r (n ∷ p) = stays r p

pub refused_longer : (t : Tree) (r : Reply) (names : Path) → names ≢ [] → tree.walk t (parent_of names) ≡ tree.Refused r → tree.walk t names ≡ tree.Refused r
refused_longer t r names some is =
    ap (tree.walk t) (ends_so names some) ∙ goes_on (tree.Found t) (parent_of names) (last_of names ∷ []) ∙ ap (λ w. tree.walk_from w (last_of names ∷ [])) is ∙ stays r (last_of names ∷ [])

module _ (v : Seen) (im : Image) (o : Owners) (l : Layout) (t : Tree) (of : IsOf v im o l t) where
  pub leads_nowhere : (r : Reply) (names : Path) → tree.walk t names ≡ tree.Refused r → follow (flat_of im o) l.root names ≡ None
  leads_nowhere r names is = each (follow (flat_of im o) l.root names) refl
    where
      each : (x : Option ℕ) → follow (flat_of im o) l.root names ≡ x → x ≡ None
      each None e = refl
      each (Some a) e = absurd (apart (sym (walks_find im o l t names a of.stands e).walks ∙ is))
        where
          apart : {u : Tree} → ◌≡◌ {A = tree.Walked} (tree.Found u) (tree.Refused r) → ⊥
          apart e = cc

  -- a directory that hasn't the last name
  pub lacks_last : (names : Path) (p : Place) → names ≢ [] → IsEndIn v im o l t names (end.Lacks p) → tree.walk t names ≡ tree.Refused NotFound
  lacks_last names p some ended =
      ap (tree.walk t) (ends_so names some) ∙ (walks_end im o l t (parent_of names) p.inode (last_of names) [] of.stands ended.0.at none).0 ended.1
    where
      none : (flat_of im o p.inode).child (last_of names) ≡ None
      none =
          ap (λ (n : Node). n.child (last_of names)) (cond-true _ (node_of (holding im o p.inode)) no_node (is_inode v im o l t of (parent_of names) p.inode ended.0.at))
          ∙ cond-true _ _ None ended.1
          ∙ (elim (cases_Bool (is_dots (last_of names))) [ inl dots ↦ cond-true _ None _ dots | inr plain ↦ cond-false _ None _ plain ∙ ended.2 ])
