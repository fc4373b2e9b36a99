-- A move that was seen, and can be made once all is looked at.
use Rattle.std.proofs.Common.{◌≡◌, ◌≢◌, ◌&&◌, Bool, ℕ, true, false, true≢false, List, [], Option, None, Some, refl, sym, ap, ◌∙◌, subst, arith}
use Rattle.std.proofs.lemmas.Bool.{eqb-true}
use Rattle.std.specs.Prelude.{Contains, codes, is_some}
use Rattle.gfs2_layout.specs.Holding.{Holding}
use Rattle.gfs2_layout.specs.declared.dinode.Dinode.{Dinode}
use Rattle.glock_names.specs.Views.{Seen, IsView}
use Rattle.glock_names.specs.declared.steps.Entry.{Entry}
use Rattle.dinode_tree.specs.Reading.{IsRightDinode}
use Rattle.dinode_tree.specs.Shown as inodes
use Rattle.dinode_tree.proofs.Sound.{some_is_shown}
use Rattle.move_ends.specs.Shown.{IsShown, Says}
use Rattle.move_ends.specs.Taking.{HasNameIn}
use Rattle.move_ends.proofs.Forms.{some_directory}
use Rattle.move_ends.proofs.Sound.{says_once}
use Rattle.image_model.proofs.Held.{none_some, some_same}
use Rattle.resource_groups.specs.Putting.{HasDataBlock}
use Rattle.move_ends.specs.Walks.{Names}
use Rattle.move_ends.specs.walk.Place.{Place}
use Rattle.move_ends.proofs.Above.{directory_block, names_it}
use Rattle.name_moves.specs.Moving.{CanBeMoved, IsPlaceOfMove, IsRead, Move, blocks_or_none, freed_by, is_reparented, is_replacing, is_within}
use Rattle.move_calls.specs.Checks.{HasSeenThere, IsSeenMove}

pub and_never : (x y : Bool) → y ≡ false → (x && y) ≡ false
and_never true y is = is
and_never false y is = refl

pub numbered : (v : Seen) (p : Place) → IsRead v p → ((h : Holding) → inodes.IsShown v p.inode h → IsRightDinode h) → p.dinode.num.number ≢ 0
numbered v p read right none =
    let s = some_is_shown v p.inode in
    (right s.0 s.1.0).number (sym (ap (λ (d : Dinode). d.num.number) (read s.0 s.1.0)) ∙ none)

-- a name of one directory leads to one block
one_child : (v : Seen) (dir b c : ℕ) (name : List ℕ) → IsView v → Names v dir name b → Names v dir name c → b ≡ c
one_child v dir b c name view first second =
    let s = some_directory v dir view in
    let one = first.child s.0 s.1 in
    let other = second.child s.0 s.1 in
    sym one.address ∙ ap (λ (e : Entry). e.addr) (some_same (says_once s.0 name (Some one.entry) (Some other.entry) one.says other.says)) ∙ other.address

not_none : {A : Type 0} (x : Option A) → x ≡ None → is_some x ≡ true → ⊥
not_none x none some = true≢false (sym some ∙ ap is_some none)

module _ (v : Seen) (m : Move) (view : IsView v) (seen : IsSeenMove v m) where
  has_taken : HasSeenThere v m → is_replacing m ≡ true → HasNameIn v m.to.inode m.new_name
  has_taken (HasSeenThere.nothing none lacks) some = absurd (not_none m.replaced none some)
  has_taken (HasSeenThere.an_inode c blocks is names has inside) some = names_it v m.to.inode c m.new_name names

  has_nothing : HasSeenThere v m → is_replacing m ≡ false → (h : Holding) → IsShown v m.to.inode h → Says h m.new_name None
  has_nothing (HasSeenThere.nothing none lacks) some = lacks
  has_nothing (HasSeenThere.an_inode c blocks is names has inside) some = absurd (true≢false (sym (ap is_some is) ∙ some))

  freed_inside : HasSeenThere v m → (b : ℕ) → Contains (freed_by m) b → HasDataBlock v b
  freed_inside (HasSeenThere.nothing none lacks) b has = absurd (in_none (subst (λ x. Contains (blocks_or_none x) b) none has))
    where
      in_none : Contains [] b → ⊥
      in_none has = omega (arith, has.1)
  freed_inside (HasSeenThere.an_inode c blocks is names has inside) b there = inside b (subst (λ x. Contains (blocks_or_none x) b) is there)

  module _ (others : (b : ℕ) → Contains (freed_by m) b → (b ≢ m.from) × (b ≢ m.to.inode) × (b ≢ m.moved.inode)) where
    is_other : HasSeenThere v m → is_within m ≡ true → m.name ≢ m.new_name
    is_other (HasSeenThere.nothing none lacks) within same =
        let s = some_directory v m.from view in
        let has = seen.named.child s.0 s.1 in
        let here = subst (λ a. IsShown v a s.0) (eqb-true m.from m.to.inode within) s.1 in
        none_some (says_once s.0 m.new_name None (Some has.entry) (lacks s.0 here) (subst (λ n. Says s.0 n (Some has.entry)) same has.says))
    is_other (HasSeenThere.an_inode c blocks is names has inside) within same =
        let there = subst (λ a. Names v a m.new_name m.moved.inode) (eqb-true m.from m.to.inode within) (subst (λ n. Names v m.from n m.moved.inode) same seen.named) in
        let own : m.moved.inode ≡ c = one_child v m.to.inode m.moved.inode c m.new_name view there names in
        (others m.moved.inode (subst (λ x. Contains (blocks_or_none x) m.moved.inode) (sym is) (subst (Contains blocks) (sym own) has))).2 refl

    pub can : HasDataBlock v m.from × HasDataBlock v m.to.inode → (m.moved.inode ≢ m.from) × (m.moved.inode ≢ m.to.inode)
        → ((h : Holding) → inodes.IsShown v m.to.inode h → IsRightDinode h) → ((h : Holding) → inodes.IsShown v m.moved.inode h → IsRightDinode h)
        → (is_reparented m ≡ true → HasNameIn v m.moved.inode (codes "..")) → CanBeMoved v m
    can inside apart right right' parented = record {
      source_there = seen.named.there;
      source = directory_block v m.from seen.named.directory;
      named = seen.named.child;
      target_there = seen.target_there;
      target = directory_block v m.to.inode seen.target;
      taken = has_taken seen.stood;
      lacks = has_nothing seen.stood;
      is_name = seen.is_name;
      other = is_other seen.stood;
      inode_there = seen.inode_there;
      parented = parented;
      target_read = seen.target_read;
      inode_read = seen.inode_read;
      target_number = numbered v m.to seen.target_read right;
      inode_number = numbered v m.moved seen.inode_read right';
      inside = all_inside;
      apart = apart;
      others = others;
    }
      where
        all_inside : (b : ℕ) → IsPlaceOfMove m b → HasDataBlock v b
        all_inside b (IsPlaceOfMove.of_source e) = subst (HasDataBlock v) (sym e) inside.0
        all_inside b (IsPlaceOfMove.of_target e) = subst (HasDataBlock v) (sym e) inside.1
        all_inside b (IsPlaceOfMove.of_inode e) = subst (HasDataBlock v) (sym e) seen.inode_inside
        all_inside b (IsPlaceOfMove.of_replaced has) = freed_inside seen.stood b has
