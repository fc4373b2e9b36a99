-- The leaves of all chains, each once.
use Rattle.std.proofs.Common.{◌≡◌, ◌≢◌, ℕ, ◌+◌, ◌<◌, ◌≤◌, ◌⊎◌, inl, inr, Bool, false, List, [], ◌∷◌, ◌++◌, Option, Some, refl, sym, ap, ◌∙◌, subst, arith}
use Rattle.std.specs.Prelude.{Contains, ◌==◌}
use Rattle.std.specs.List.{list_any}
use Rattle.std.proofs.lemmas.Bool.{true≢false}
use Rattle.gfs2_layout.proofs.StatePuts.{any_has}
use Rattle.growth_drafts.specs.Taken.{IsDistinct}
use Rattle.gfs2_layout.specs.Holding.{Holding}
use Rattle.gfs2_layout.specs.Inode.{entry, leaf_in, table_count}
use Rattle.gfs2_layout.specs.declared.leaf.Leaf.{Leaf}
use Rattle.glock_names.specs.Steps.{TellsOf}
use Rattle.glock_names.specs.Views.{Seen, HasBlock, IsOfView}
use Rattle.glock_names.specs.declared.steps.CallFault.{CallFault}
use Rattle.glock_names.specs.declared.steps.CallFault.TheVariants.{Damaged}
use Rattle.resource_groups.specs.Putting.{HasDataBlock}
use Rattle.image_model.proofs.Members.{contained, in_either, in_left, in_right, is_in}
use Rattle.pointer_tables.specs.Directories.{IsInChain, chain_head, chain_next}
use Rattle.pointer_tables.specs.declared.pointer.Pointer.{Pointer}
use Rattle.hash_dirs.specs.Broken.{IsBroken, comes_again}
use Rattle.hash_dirs.specs.Finding.{IsEnded}
use Rattle.hash_dirs.specs.Leaves.{AreLeaves, AreLeavesBefore, AreNew, AreNewIn, IsGathered, IsRead}
use Rattle.hash_dirs.specs.Walking.{IsAreaOfBlock, IsLeafIn, IsLeafOf, IsSmall, OfEach}
use Rattle.hash_dirs.specs.declared.chains.LeafAt.{LeafAt}
use Rattle.hash_dirs.proofs.Along.{begins, goes_on, joined_ends, leaf_there}

-- ---- lists of blocks

pub none_in : (x : ℕ) → Contains {X = ℕ} [] x → ⊥
none_in x has = is_in x [] has

pub in_front : (xs ys : List ℕ) (x : ℕ) → Contains xs x → Contains (xs ++ ys) x
in_front xs ys x has = contained x (xs ++ ys) (in_left x xs ys (is_in x xs has))

pub in_back : (xs ys : List ℕ) (x : ℕ) → Contains ys x → Contains (xs ++ ys) x
in_back xs ys x has = contained x (xs ++ ys) (in_right x xs ys (is_in x ys has))

pub in_one : (xs ys : List ℕ) (x : ℕ) → Contains (xs ++ ys) x → Contains xs x ⊎ Contains ys x
in_one xs ys x has = elim (in_either x xs ys (is_in x (xs ++ ys) has)) [ inl at ↦ inl (contained x xs at) | inr at ↦ inr (contained x ys at) ]

pub the_one : (x y : ℕ) → Contains (y ∷ []) x → x ≡ y
the_one x y has = elim (is_in x (y ∷ []) has) [ inl e ↦ e | inr none ↦ absurd none ]

pub one_there : (x : ℕ) → Contains (x ∷ []) x
one_there x = contained x (x ∷ []) (inl refl)

pub distinct_both : (xs ys : List ℕ) → IsDistinct xs → IsDistinct ys → ((x : ℕ) → Contains ys x → Contains xs x → ⊥) → IsDistinct (xs ++ ys)
distinct_both [] ys one two apart = two
distinct_both (x ∷ xs) ys one two apart = (
  λ has. elim (in_one xs ys x has) [ inl at ↦ one.0 at | inr at ↦ apart x at (contained x (x ∷ xs) (inl refl)) ],
  distinct_both xs ys one.1 two (λ y at there. apart y at (contained y (x ∷ xs) (inr (is_in y xs there)))),
)

pub distinct_push : (xs : List ℕ) (y : ℕ) → IsDistinct xs → (Contains xs y → ⊥) → IsDistinct (xs ++ y ∷ [])
distinct_push xs y once new = distinct_both xs (y ∷ []) once ((λ has. none_in y has), tt) (λ x at there. new (subst (Contains xs) (the_one x y at) there))

pub same_some : {A : Type 0} {o : Option A} {x y : A} → o ≡ Some x → o ≡ Some y → x ≡ y
same_some e f = cc

pub lacks_it : (xs : List ℕ) (x : ℕ) (b : Bool) → b ≡ list_any (λ y. y == x) xs → b ≡ false → Contains xs x → ⊥
lacks_it xs x b is none has = absurd (true≢false (sym (any_has xs x has) ∙ sym is ∙ none))

pub new_still : (known chain : List ℕ) (x : ℕ) → AreNew known chain → (Contains known x → ⊥) → (Contains chain x → ⊥) → AreNew known (chain ++ x ∷ [])
new_still known chain x so other fresh = record {
  apart = λ y has there. elim (in_one chain (x ∷ []) y has) [ inl at ↦ so.apart y at there | inr at ↦ other (subst (Contains known) (the_one y x at) there) ];
  once = distinct_push chain x so.once fresh;
}

pub read_still : (v : Seen) (chain : List ℕ) (x : ℕ) → ((y : ℕ) → Contains chain y → IsRead v y) → IsRead v x → (y : ℕ) → Contains (chain ++ x ∷ []) y → IsRead v y
read_still v chain x so read y has = elim (in_one chain (x ∷ []) y has) [ inl at ↦ so y at | inr at ↦ subst (IsRead v) (sym (the_one y x at)) read ]

-- what was looked at of a leaf
pub leaf_read : (v : Seen) (x : ℕ) (leaf : LeafAt) → IsSmall x → HasDataBlock v x → IsLeafIn v x leaf → IsAreaOfBlock leaf.area.now → IsRead v x
leaf_read v x leaf small inside seen area = record { small = small; inside = inside; bytes = seen.bytes; there = seen.there; large = seen.large; area = subst IsAreaOfBlock seen.area area }

-- a rule is told of a block that the view has
pub tells_there : (v : Seen) (fault : CallFault) (b rule : ℕ) → fault ≡ Damaged b rule → HasBlock v b → TellsOf (IsOfView v) fault
tells_there v fault b rule is has = subst (TellsOf (IsOfView v)) (sym is) has

-- ---- along one chain

module _ (v : Seen) (dir : ℕ) (head : Pointer) (known : List ℕ) where
  pub gather_begins : HasBlock v head.from → IsGathered v dir head known 0 head []
  gather_begins from = record {
    along = begins v dir head from;
    each = λ h i shown is x has. absurd (none_in x has);
    head_is = λ h i shown is. inr (sym is.leaf);
    next = λ h i shown is x has. absurd (none_in x has);
    new = record { apart = λ x has. absurd (none_in x has); once = tt };
    read = λ x has. absurd (none_in x has);
  }

  module _ (place : ℕ) (link : Pointer) (chain : List ℕ) (so : IsGathered v dir head known place link chain) where
    leaves_of_it : OfEach v dir head (λ h i. (x : ℕ) → Contains chain x → (k : ℕ) × IsInChain h i k x)
    leaves_of_it h i shown is x has = let k = so.each h i shown is x has in (k.0, k.2)

    -- the walk came to a leaf that is known
    pub known_ends : Contains known link.leaf → OfEach v dir head (λ h i. AreNewIn h i known chain)
    known_ends ends h i shown is = record {
      each = leaves_of_it h i shown is;
      head = elim (so.head_is h i shown is) [ inl has ↦ inl has | inr e ↦ inr (subst (Contains known) (sym e) ends) ];
      next = λ x has more. elim (so.next h i shown is x has more) [ inl there ↦ inl there | inr e ↦ inr (subst (Contains known) (sym e) ends) ];
      ends = inr (place, link.leaf, ends, (so.along.at h i shown is).chain);
    }

    -- it came to one that it passed
    pub round_again : Contains chain link.leaf → OfEach v dir head (λ h i. IsBroken h 15 link.leaf)
    round_again has h i shown is =
        let k = so.each h i shown is link.leaf has in
        comes_again i k.0 place link.leaf k.2 ((so.along.at h i shown is).chain (leaf_there h i k.0 link.leaf k.2)) k.1

    module _ (leaf : LeafAt) (other : Contains known link.leaf → ⊥) (fresh : Contains chain link.leaf → ⊥) (of : OfEach v dir head (λ h i. IsLeafOf h link.leaf leaf)) (read : IsRead v link.leaf) where
      abbrev more : List ℕ
      more = chain ++ link.leaf ∷ []

      each_still : OfEach v dir head (λ h i. (x : ℕ) → Contains more x → (k : ℕ) × (k < place + 1) × IsInChain h i k x)
      each_still h i shown is x has = elim (in_one chain (link.leaf ∷ []) x has) [
        | inl at ↦ let k = so.each h i shown is x at in (k.0, (let low : k.0 < place = k.1 in omega (arith, low)), k.2)
        | inr at ↦ (place, omega arith, subst (IsInChain h i place) (sym (the_one x link.leaf at)) ((so.along.at h i shown is).chain read.small.0))
      ]

      head_still : OfEach v dir head (λ h i. Contains more (entry h i))
      head_still h i shown is = elim (so.head_is h i shown is) [
        | inl at ↦ in_front chain (link.leaf ∷ []) (entry h i) at
        | inr e ↦ subst (Contains more) (sym e) (in_back chain (link.leaf ∷ []) link.leaf (one_there link.leaf))
      ]

      -- behind a leaf comes one of these, or behind the last its own next
      next_still : OfEach v dir head (λ h i. (x : ℕ) → Contains more x → (leaf_in h x).next ≢ 0 → Contains more (leaf_in h x).next ⊎ ((leaf_in h x).next ≡ leaf.head.next))
      next_still h i shown is x has some = elim (in_one chain (link.leaf ∷ []) x has) [
        | inl at ↦ elim (so.next h i shown is x at some) [
          | inl there ↦ inl (in_front chain (link.leaf ∷ []) (leaf_in h x).next there)
          | inr e ↦ inl (subst (Contains more) (sym e) (in_back chain (link.leaf ∷ []) link.leaf (one_there link.leaf)))
        ]
        | inr at ↦ inr (ap (λ y. (leaf_in h y).next) (the_one x link.leaf at) ∙ ap (λ (l : Leaf). l.next) (sym (of h i shown is).head))
      ]

      -- it is the last of the chain
      pub last_ends : leaf.head.next ≡ 0 → OfEach v dir head (λ h i. AreNewIn h i known more)
      last_ends end h i shown is = record {
        each = λ x has. let k = each_still h i shown is x has in (k.0, k.2);
        head = inl (head_still h i shown is);
        next = λ x has some. elim (next_still h i shown is x has some) [ inl there ↦ inl there | inr e ↦ absurd (some (e ∙ end)) ];
        ends = inl (place, link.leaf, (so.along.at h i shown is).chain read.small.0, ap (λ (l : Leaf). l.next) (sym (of h i shown is).head) ∙ end);
      }

      pub gather_more : (next : Pointer) → leaf.head.next ≢ 0 → next ≡ record { leaf = leaf.head.next; from = link.leaf } → IsGathered v dir head known (place + 1) next more
      gather_more next some is_next = record {
        along = goes_on v dir head place link next leaf so.along of read.small (read.bytes, read.there) some is_next;
        each = each_still;
        head_is = λ h i shown is. inl (head_still h i shown is);
        next = λ h i shown is x has goes. elim (next_still h i shown is x has goes) [ inl there ↦ inl there | inr e ↦ inr (e ∙ ap (λ (p : Pointer). p.leaf) (sym is_next)) ];
        new = new_still known chain link.leaf so.new other fresh;
        read = read_still v chain link.leaf so.read read;
      }

-- ---- chain after chain

pub none_before : (h : Holding) → AreLeavesBefore h 0 []
none_before h = record { each = λ x has. absurd (none_in x has); heads = λ j. inr (omega arith); next = λ x has. absurd (none_in x has); ends = λ j low. absurd (let no : j < 0 = low in omega arith) }

pub chain_more : (h : Holding) (i : ℕ) (leaves chain : List ℕ) → AreLeavesBefore h i leaves → AreNewIn h i leaves chain → AreLeavesBefore h (i + 1) (leaves ++ chain)
chain_more h i leaves chain so new = record {
  each = λ x has. elim (in_one leaves chain x has) [
    | inl at ↦ let k = so.each x at in (k.0, k.1, (let low : k.0 < i = k.2 in omega (arith, low)), k.3)
    | inr at ↦ let k = new.each x at in (i, k.0, omega arith, k.1)
  ];
  heads = λ j. elim (so.heads j) [
    | inl at ↦ inl (in_front leaves chain (entry h j) at)
    | inr high ↦ elim (here_or j high) [
      | inl same ↦ inl (subst (λ k. Contains (leaves ++ chain) (entry h k)) same (head_in new.head))
      | inr more ↦ inr more
    ]
  ];
  next = λ x has some. elim (in_one leaves chain x has) [
    | inl at ↦ in_front leaves chain (leaf_in h x).next (so.next x at some)
    | inr at ↦ elim (new.next x at some) [ inl there ↦ in_back leaves chain (leaf_in h x).next there | inr there ↦ in_front leaves chain (leaf_in h x).next there ]
  ];
  ends = λ j low. elim (last_or j low) [ inl before ↦ so.ends j before | inr same ↦ subst (IsEnded h) (sym same) here_ends ];
}
  where
    last_or : (j : ℕ) → j < i + 1 → (j < i) ⊎ (j ≡ i)
    last_or j low = grind arith

    here_ends : IsEnded h i
    here_ends = elim new.ends [
      | inl end ↦ end
      | inr known ↦
          let k = so.each known.1 known.2 in
          joined_ends h k.0 i k.1 known.0 known.1 k.3 (known.3 (leaf_there h k.0 k.1 known.1 k.3)) (so.ends k.0 k.2)
    ]

    here_or : (j : ℕ) → i ≤ j → (i ≡ j) ⊎ (i + 1 ≤ j)
    here_or j high = grind arith

    head_in : Contains chain (entry h i) ⊎ Contains leaves (entry h i) → Contains (leaves ++ chain) (entry h i)
    head_in (inl at) = in_back leaves chain (entry h i) at
    head_in (inr at) = in_front leaves chain (entry h i) at

pub all_leaves : (h : Holding) (n : ℕ) (leaves : List ℕ) → n ≡ table_count h → AreLeavesBefore h n leaves → IsDistinct leaves → AreLeaves h leaves
all_leaves h n leaves end so once = record {
  each = λ x. (λ has. let k = so.each x has in (k.0, k.1, k.3), λ leaf. there leaf.0 leaf.1 x leaf.2);
  once = once;
  ends = λ i low. so.ends i (subst (λ k. i < k) (sym end) low);
}
  where
    there : (i place x : ℕ) → IsInChain h i place x → Contains leaves x
    there i _ _ (chain_head low some) = elim (so.heads i) [ inl at ↦ at | inr high ↦ absurd (let l : i < table_count h = low in omega (arith, l, high, end)) ]
    there i _ _ (chain_next place x chain some) = so.next x (there i place x chain) some
