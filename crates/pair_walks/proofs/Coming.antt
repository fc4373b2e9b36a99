-- The inode that comes next on a path, and what comes behind it, as far as a view shows.
use Rattle.std.proofs.Common.{◌≡◌, ◌≢◌, inl, inr, ℕ, suc, ◌+◌, ◌≤◌, false, List, [], ◌∷◌, ◌++◌, length, take, drop, slice_get, None, Some, refl, sym, ap, subst, subst₂, ◌∙◌, arith}
use Rattle.std.proofs.lemmas.List.{length-append, take_all}
use Rattle.file_tree.specs.Names.{IsName, last_of, parent_of}
use Rattle.glock_names.specs.Views.{Seen, HasBlock}
use Rattle.glock_names.specs.declared.State.{State}
use Rattle.glock_names.specs.declared.steps.Missing.{Missing}
use Rattle.call_locks.specs.declared.want.Want.{Want}
use Rattle.dinode_tree.specs.Shown.{IsShown}
use Rattle.dinode_tree.specs.Walking.{missing_dinode}
use Rattle.image_model.specs.Flat.{Path}
use Rattle.path_walks.specs.Holds.{hold_of, holds}
use Rattle.path_walks.specs.Walks.{IsAbsent, IsDamage, IsHeldAt, IsNext, IsReadAt, IsSeenAt, IsWrongAt, LacksName, LeadsTo, at_root, by_name}
use Rattle.path_walks.specs.Walks as path
use Rattle.path_walks.specs.declared.walk.Place.{Place}
use Rattle.path_walks.proofs.Lists.{parent_of_next, split_at}
use Rattle.pair_walks.specs.Ahead.{IsAheadOf, IsDamageOfName, IsNeededAhead, in_this, past_groups}
use Rattle.pair_walks.specs.Turns.{IsDamagedAt, IsPassed}
use Rattle.pair_walks.specs.Walks.{IsEndAt, IsEndOf, IsUnreadOf}
use Rattle.pair_walks.specs.Ways.{IsCome, IsComing, the_root, the_child}
use Rattle.pair_walks.specs.declared.next.Next.{Next}
use Rattle.pair_walks.specs.declared.next.Next.TheVariants as next
use Rattle.pair_walks.specs.declared.walk.End.{End}
use Rattle.pair_walks.specs.declared.walk.End.TheVariants as end
use Rattle.pair_walks.proofs.Paths.{before_last, ends_so, last_parent, long, name_at, take_front}

module _ (v : Seen) (wants : List Want) (names : Path) where
  pub is_low : (depth a above : ℕ) → IsComing v wants names depth a above → depth ≤ length names
  is_low depth a above the_root = omega arith
  is_low depth a above (the_child front back dir b name on leads is_name named inside) = omega (arith, ap length on, length-append front (name ∷ back))

  pub is_next : (depth a above : ℕ) → IsComing v wants names depth a above → IsNext v wants names depth a
  is_next depth a above the_root = path.the_root
  is_next depth a above (the_child front back dir b name on leads is_name named inside) = path.the_child front back dir b name on leads is_name named inside

  -- once its lock is held the path so far leads to it, and but for its last name to the one above
  pub leads_here : (depth a above : ℕ) → IsComing v wants names depth a above → IsHeldAt v wants depth a
      → LeadsTo v wants (take depth names) a × LeadsTo v wants (parent_of (take depth names)) above
  leads_here depth a above the_root held = (at_root held, at_root held)
  leads_here depth a above (the_child front back dir b name on leads is_name named inside) held =
      let so_far : take (length front + 1) names ≡ front ++ name ∷ [] = ap (take (length front + 1)) on ∙ take_front front back name in (
        subst (λ p. LeadsTo v wants p b) (sym so_far) (by_name front dir b name leads is_name named inside held),
        subst (λ p. LeadsTo v wants p dir) (sym (ap parent_of so_far ∙ parent_of_next front name)) leads,
      )

  -- ---- past it

  module _ (depth a above : ℕ) (coming : IsComing v wants names depth a above) (held : IsHeldAt v wants depth a) where
    here : LeadsTo v wants (take depth names) a
    here = (leads_here depth a above coming held).0

    seen_at : (p : Place) (state : State) → IsReadAt v a above state p → (q : Path) → q ≡ take depth names → IsSeenAt v wants q p
    seen_at p state read q e =
        let both = leads_here depth a above coming held in
        record {
          leads = subst₂ (LeadsTo v wants) (sym e) (sym read.inode) both.0;
          there = subst (HasBlock v) (sym read.inode) read.there;
          dinode = λ h shown. read.dinode h (subst (λ b. IsShown v b h) read.inode shown);
          above = subst₂ (LeadsTo v wants) (ap parent_of (sym e)) (sym read.above_is) both.1;
        }

    comes_at : (p : Place) (state : State) → IsReadAt v a above state p → (n : Next) → IsAheadOf v p names depth n → IsCome v wants names (depth + 1) n
    comes_at p state read (next.Ended (end.At q)) ahead =
        (subst (IsSeenAt v wants names) (sym ahead.1) (seen_at p state read names (sym (take_all depth names (omega (arith, ahead.0))))), ap (λ k. k + 1) ahead.0)
    comes_at p state read (next.Ended end.NotDir) ahead =
        let n = name_at names depth ahead.0 in (
          p.inode,
          record {
            front = take depth names;
            back = drop (suc depth) names;
            name = n.0;
            on_path = split_at names depth n.0 n.1;
            leads = subst (LeadsTo v wants (take depth names)) (sym read.inode) here;
            there = subst (HasBlock v) (sym read.inode) read.there;
            so = ahead.1;
          },
          ap (λ k. k + 1) (sym (long names depth n.0 n.1)),
        )
    comes_at p state read (next.Ended (end.Lacks q)) ahead =
        let last = last_parent names depth ahead.2.0 ahead.2.1.0 ahead.0 in
        let seen : IsSeenAt v wants (parent_of names) p = seen_at p state read (parent_of names) last.0 in (
          (λ none. omega (arith, ap length none, ahead.0)),
          subst (IsSeenAt v wants (parent_of names)) (sym ahead.1) seen,
          subst₂ (LacksName v) (ap (λ (x : Place). x.inode) (sym ahead.1)) (sym last.1) ahead.2.1.2,
          ahead.0,
        )
    comes_at p state read (next.Ended end.NotFound) ahead =
        let rest = before_last names depth ahead.1.0 ahead.1.1.0 ahead.0 in (
          record {
            front = take depth names;
            back = rest.0;
            dir = p.inode;
            name = ahead.1.0;
            on_path = rest.1;
            leads = subst (LeadsTo v wants (take depth names)) (sym read.inode) here;
            there = subst (HasBlock v) (sym read.inode) read.there;
            directory = ahead.1.1.2.directory;
            absent = ahead.1.1.2.absent;
          },
          ap (λ k. k + 1) (sym (long names depth ahead.1.0 ahead.1.1.0)),
        )
    comes_at p state read (next.Inode b up) ahead =
        let n = ahead.1.0 in
        let child = the_child (take depth names) (drop (suc depth) names) p.inode b n (split_at names depth n ahead.1.1.0)
        (subst (LeadsTo v wants (take depth names)) (sym read.inode) here) ahead.1.1.1 ahead.1.1.2.0 ahead.1.1.2.1 in
        subst₂ (λ k c. IsComing v wants names k b c) (ap (λ k. k + 1) (long names depth n ahead.1.1.0)) (sym ahead.0) child

    pub comes : (state : State) (n : Next) → IsPassed v names depth a above state n → IsCome v wants names (depth + 1) n
    comes state n passed = comes_at passed.place state passed.read n passed.ahead

    -- ---- what stands in the way

    pub unread_dinode : v.block_at a ≡ None → IsUnreadOf v wants names depth a (missing_dinode a)
    unread_dinode absent = IsUnreadOf.a_dinode (is_next depth a above coming) held absent refl

    pub unread_ahead : (m : Missing) → HasBlock v a → IsNeededAhead v a names depth m → IsUnreadOf v wants names depth a m
    unread_ahead m there needed =
        let n = needed.0 in
        IsUnreadOf.in_directory (take depth names) (drop (suc depth) names) n (is_next depth a above coming) (split_at names depth n needed.1.0) (sym (long names depth n needed.1.0)) here there needed.1.2

    wrong_name : (n : List ℕ) (rule b : ℕ) → slice_get names depth ≡ Some n → IsName n → IsDamageOfName v a n rule b → IsDamage v wants names rule b
    wrong_name n rule b at is_name (in_this r c is broken) = IsDamage.on_path depth a r c (is_next depth a above coming) held (IsWrongAt.in_directory r c is broken)
    wrong_name n rule b at is_name (past_groups c named linear outside) =
        IsDamage.leads_out (take depth names) (drop (suc depth) names) a c n (split_at names depth n at) here is_name named linear outside

    pub damaged : (state : State) (rule b : ℕ) → IsDamagedAt v names depth a state rule b → IsDamage v wants names rule b
    damaged state rule b (on, inl broken) = IsDamage.on_path depth a rule b (is_next depth a above coming) held (IsWrongAt.in_inode rule b broken)
    damaged state rule b (on, inr ahead) = wrong_name ahead.0 rule b ahead.1.0 ahead.1.1 ahead.1.2

-- ---- where a path ends

pub end_of : (v : Seen) (wants : List Want) (q : Path) (count : ℕ) (e : End) → IsEndAt v wants q count e → IsEndOf v wants q e
end_of v wants q count (end.At p) is = is.0
end_of v wants q count (end.Lacks p) is = (is.0, is.1, is.2)
end_of v wants q count end.NotFound is = is.0
end_of v wants q count end.NotDir is = (is.0, is.1)

-- ---- where a first path ends

-- a directory of the path without its last name hasn't the next
pub absent_longer : (v : Seen) (wants : List Want) (names : Path) → names ≢ [] → IsAbsent v wants (parent_of names) → IsAbsent v wants names
absent_longer v wants names some is = record {
  front = is.front;
  back = is.back ++ last_of names ∷ [];
  dir = is.dir;
  name = is.name;
  on_path = ends_so names some ∙ ap (λ p. p ++ last_of names ∷ []) is.on_path ∙ longer is.front (is.name ∷ is.back) (last_of names ∷ []);
  leads = is.leads;
  there = is.there;
  directory = is.directory;
  absent = is.absent;
}
  where
    longer : (xs ys zs : Path) → (xs ++ ys) ++ zs ≡ xs ++ (ys ++ zs)
    longer [] ys zs = refl
    longer (x ∷ xs) ys zs = ap (λ p. x ∷ p) (longer xs ys zs)

pub absent_last : (v : Seen) (wants : List Want) (names : Path) (p : Place) → names ≢ [] → IsSeenAt v wants (parent_of names) p → LacksName v p.inode (last_of names) → IsAbsent v wants names
absent_last v wants names p some seen lacks = record {
  front = parent_of names;
  back = [];
  dir = p.inode;
  name = last_of names;
  on_path = ends_so names some;
  leads = seen.leads;
  there = seen.there;
  directory = lacks.directory;
  absent = lacks.absent;
}
