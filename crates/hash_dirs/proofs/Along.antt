-- Going along a chain, of any directory.
use Rattle.std.proofs.Common.{◌≡◌, ◌≢◌, ℕ, zero, suc, ◌+◌, ◌-◌, ◌<◌, ◌≤◌, ◌⊎◌, inl, inr, List, Option, None, Some, refl, sym, ap, ◌∙◌, subst, subst₂, add-one, arith}
use Rattle.std.specs.Option.{option_map}
use Rattle.profile_limits.specs.Limits.{most_blocks}
use Rattle.gfs2_layout.specs.Holding.{Holding}
use Rattle.gfs2_layout.specs.Inode.{depth_in, entry, leaf_in}
use Rattle.gfs2_layout.specs.Records.{Record}
use Rattle.image_model.proofs.Held.{none_some}
use Rattle.glock_names.specs.Views.{Seen, HasBlock}
use Rattle.glock_names.specs.declared.steps.Entry.{Entry}
use Rattle.linear_dirs.specs.Shown.{entry_of}
use Rattle.pointer_tables.specs.Directories.{IsInChain, chain_head, chain_next}
use Rattle.pointer_tables.specs.declared.pointer.Pointer.{Pointer}
use Rattle.hash_dirs.specs.Broken.{IsBroken, comes_again}
use Rattle.hash_dirs.specs.Finding.{AreLeafHeads, IsEnded, IsFirstNamed, IsFoundAlong, IsLeafHead, IsLeafOfName, IsNamedLater, in_leaf, in_none, nowhere, named_in}
use Rattle.hash_dirs.specs.Shown.{LeadsToLeaf, by_pointer, by_leaf, index_for}
use Rattle.hash_dirs.specs.Walking.{IsAlong, IsLeafOf, IsNameless, IsSmall, OfEach, leaf_on}
use Rattle.hash_dirs.specs.declared.chains.LeafAt.{LeafAt}
use Rattle.hash_dirs.proofs.Returning.{repeats}

-- ---- the leaf at a place of a chain is one

module _ (h : Holding) (i : ℕ) where
  pub chain_is : (place x : ℕ) → IsInChain h i place x → x ≡ leaf_on h i place
  unfolding leaf_on
  chain_is _ _ (chain_head low some) = refl
  chain_is _ _ (chain_next place x chain more) = ap (λ y. (leaf_in h y).next) (chain_is place x chain) ∙ ap (leaf_on h i) (sym (add-one place))

  pub chain_one : (place x y : ℕ) → IsInChain h i place x → IsInChain h i place y → x ≡ y
  chain_one place x y a b = chain_is place x a ∙ sym (chain_is place y b)

  -- its pointer leads somewhere, and what it comes to is a block
  pub head_there : (place x : ℕ) → IsInChain h i place x → entry h i ≢ 0
  head_there _ _ (chain_head low some) = some
  head_there _ _ (chain_next place x chain more) = head_there place x chain

  pub leaf_there : (place x : ℕ) → IsInChain h i place x → x ≢ 0
  leaf_there _ _ (chain_head low some) = some
  leaf_there _ _ (chain_next place x chain more) = more

  -- all places before one are there
  pub there_before : (place x : ℕ) → IsInChain h i place x → (k : ℕ) → k ≤ place → IsInChain h i k (leaf_on h i k)
  unfolding leaf_on
  there_before _ _ (chain_head low some) k le = subst (λ n. IsInChain h i n (leaf_on h i n)) (let z : 0 ≡ k = omega arith in z) (chain_head low some)
  there_before _ _ (chain_next place x chain more) k le = elim (last k place le) [
    | inl low ↦ there_before place x chain k low
    | inr top ↦ subst (λ n. IsInChain h i n (leaf_on h i n)) (sym top)
        (subst (IsInChain h i (place + 1)) (chain_is (place + 1) ((leaf_in h x).next) (chain_next place x chain more)) (chain_next place x chain more))
  ]
    where
      last : (k place : ℕ) → k ≤ place + 1 → (k ≤ place) ⊎ (k ≡ place + 1)
      last k place le = grind arith

  -- what comes again once comes again from there on
  goes_round : (a b m : ℕ) → leaf_on h i a ≡ leaf_on h i b → leaf_on h i (a + m) ≡ leaf_on h i (b + m)
  unfolding leaf_on
  goes_round a b zero e = ap (leaf_on h i) (let z : a + 0 ≡ a = omega arith in z) ∙ e ∙ ap (leaf_on h i) (let z : b ≡ b + 0 = omega arith in z)
  goes_round a b (suc m) e =
      ap (leaf_on h i) (let z : a + suc m ≡ suc (a + m) = omega arith in z) ∙ ap (λ y. (leaf_in h y).next) (goes_round a b m e) ∙ ap (leaf_on h i) (let z : suc (b + m) ≡ b + suc m = omega arith in z)

  -- a chain with as many leaves as there are blocks, and one more, comes to its last one before
  pub comes_back : (n x : ℕ) → IsInChain h i n x → ((k y : ℕ) → k ≤ n → IsInChain h i k y → (y ≢ 0) × (y ≤ n)) → (earlier : ℕ) × (earlier < n) × IsInChain h i earlier x
  comes_back n x chain small =
      let at : (k : ℕ) → k ≤ n → IsInChain h i k (leaf_on h i k) = there_before n x chain in
      let again = repeats n (λ k. leaf_on h i k - 1) (λ k le. let s = small k (leaf_on h i k) le (at k le) in omega (arith, s.0, s.1)) in
      let a = again.0 in
      let b = again.1 in
      let first : a < b = again.2 in
      let within : b ≤ n = again.3 in
      let p = small a (leaf_on h i a) (omega arith) (at a (omega arith)) in
      let q = small b (leaf_on h i b) within (at b within) in
      let same : leaf_on h i a ≡ leaf_on h i b = omega (arith, p.0, q.0, again.4) in
      let place = a + (n - b) in
      let round : leaf_on h i place ≡ leaf_on h i (b + (n - b)) = goes_round a b (n - b) same in
      let last : b + (n - b) ≡ n = omega arith in
      (place, omega arith, subst (IsInChain h i place) (round ∙ ap (leaf_on h i) last ∙ sym (chain_is n x chain)) (at place (omega arith)))

  -- behind a last leaf there is none
  pub ended : (place x earlier y : ℕ) → IsInChain h i place x → (leaf_in h x).next ≡ 0 → place < earlier → IsInChain h i earlier y → ⊥
  ended place x _ _ chain last before (chain_head low some) = let no : place < 0 = before in omega arith
  ended place x _ _ chain last before (chain_next q y more_chain more) = elim (same_or place q before) [
    | inl same ↦ more (ap (λ z. (leaf_in h z).next) (chain_one q y x more_chain (subst (λ n. IsInChain h i n x) same chain)) ∙ last)
    | inr low ↦ ended place x q y chain last low more_chain
  ]
    where
      same_or : (place q : ℕ) → place < q + 1 → (place ≡ q) ⊎ (place < q)
      same_or place q low = grind arith

  -- all up to this one are leaves
  pub heads_with : (place x : ℕ) → IsInChain h i place x → AreLeafHeads h i place → IsLeafHead h x → AreLeafHeads h i (place + 1)
  heads_with place x chain heads headed earlier y before there = elim (last earlier before) [
    | inl low ↦ heads earlier y low there
    | inr same ↦ subst (IsLeafHead h) (chain_one place x y chain (subst (λ n. IsInChain h i n y) same there)) headed
  ]
    where
      last : (earlier : ℕ) → earlier < place + 1 → (earlier < place) ⊎ (earlier ≡ place)
      last earlier low = grind arith

  module _ (name : List ℕ) (place x : ℕ) (chain : IsInChain h i place x) (later : IsNamedLater h i name place) (heads : AreLeafHeads h i place) (headed : IsLeafHead h x) where
    pub found_here : (e : Entry) → option_map entry_of (named_in h name x) ≡ Some e → IsFoundAlong h i name (Some e)
    found_here e leads = by (named_in h name x) refl leads
      where
        by : (o : Option Record) → named_in h name x ≡ o → option_map entry_of o ≡ Some e → IsFoundAlong h i name (Some e)
        by None is leads = absurd (none_some leads)
        by (Some r) is leads = record { named = Some r; first = in_leaf place x r chain is later (heads_with place x chain heads headed); leads = sym leads }

    pub found_nowhere : named_in h name x ≡ None → (leaf_in h x).next ≡ 0 → IsFoundAlong h i name None
    found_nowhere none last = record {
      named = None;
      first = nowhere (place, x, chain, last) (λ some earlier y before there. elim (which earlier place) [
        | inl low ↦ later earlier y low there
        | inr high ↦ elim high [
          | inl same ↦ ap (named_in h name) (chain_one place y x (subst (λ n. IsInChain h i n y) same there) chain) ∙ none
          | inr behind ↦ absurd (ended place x earlier y chain last behind there)
        ]
      ])
          (λ some earlier y before there. elim (which earlier place) [
            | inl low ↦ heads earlier y low there
            | inr high ↦ elim high [
              | inl same ↦ subst (IsLeafHead h) (chain_one place x y chain (subst (λ n. IsInChain h i n y) same there)) headed
              | inr behind ↦ absurd (ended place x earlier y chain last behind there)
            ]
          ]);
      leads = refl;
    }
      where
        which : (a b : ℕ) → (a < b) ⊎ ((a ≡ b) ⊎ (b < a))
        which a b = grind arith

-- a chain that shares a leaf with one that ends goes on behind it as that one does, and ends
module _ (h : Holding) (j i p q x : ℕ) (other : IsInChain h j p x) (here : IsInChain h i q x) where
  follows : (n y : ℕ) → IsInChain h j (p + n) y → IsInChain h i (q + n) y
  unfolding leaf_on
  follows zero y chain =
      let none : p + 0 ≡ p = omega arith in
      let same : y ≡ x = chain_one h j p y x (subst (λ k. IsInChain h j k y) none chain) other in
      let at : q ≡ q + 0 = omega arith in
      subst (IsInChain h i (q + 0)) (sym same) (subst (λ k. IsInChain h i k x) at here)
  follows (suc n) y chain =
      let z = leaf_on h j (p + n) in
      let one : p + suc n ≡ suc (p + n) = omega arith in
      let is : y ≡ (leaf_in h z).next = chain_is h j (p + suc n) y chain ∙ ap (leaf_on h j) one in
      let goes : (leaf_in h z).next ≢ 0 = λ e. leaf_there h j (p + suc n) y chain (is ∙ e) in
      let next = chain_next (q + n) z (follows n z (there_before h j (p + suc n) y chain (p + n) (omega arith))) goes in
      let at : q + n + 1 ≡ q + suc n = omega arith in
      subst (λ k. IsInChain h i k y) at (subst (IsInChain h i (q + n + 1)) (sym is) next)

  pub joined_ends : IsEnded h j → IsEnded h i
  joined_ends end = elim (which end.0 p) [
    | inl less ↦ absurd (ended h j end.0 end.1 p x end.2 end.3 less other)
    | inr behind ↦
        let at : end.0 ≡ p + (end.0 - p) = omega (arith, behind) in
        (q + (end.0 - p), end.1, follows (end.0 - p) end.1 (subst (λ k. IsInChain h j k end.1) at end.2), end.3)
  ]
    where
      which : (a b : ℕ) → (a < b) ⊎ (b ≤ a)
      which a b = grind arith

-- a name that leads nowhere isn't there
pub none_named : (o : Option Record) → option_map entry_of o ≡ None → o ≡ None
none_named None e = refl
none_named (Some r) e = absurd (none_some (sym e))

-- where the chain of a name's index tells that it leads nowhere, no leaf has it
pub nowhere_named : (h : Holding) (name : List ℕ) → IsFoundAlong h (index_for h name) name None → IsLeafOfName h name None
nowhere_named h name so = by so.named so.first (none_named so.named (sym so.leads))
  where
    by : (o : Option Record) → IsFirstNamed h (index_for h name) name o → o ≡ None → IsLeafOfName h name None
    by _ (in_leaf place x r chain is later heads) e = absurd (none_some (sym e))
    by _ (nowhere ends later heads) e = in_none ends later heads

-- ---- the link of a walk

last_or : (earlier place : ℕ) → earlier < place + 1 → (earlier < place) ⊎ (earlier ≡ place)
last_or earlier place low = grind arith

module _ (v : Seen) (dir : ℕ) (head : Pointer) where
  pub begins : HasBlock v head.from → IsAlong v dir head 0 head
  begins from = record {
    from = from;
    at = λ h i shown is. record {
      leads = subst₂ (LeadsToLeaf h i) (sym is.from) (sym is.leaf) (by_pointer is.low);
      chain = λ some. subst (IsInChain h i 0) (sym is.leaf) (chain_head is.low (λ e. some (is.leaf ∙ e)));
      behind = λ none. absurd (none refl);
      low = λ earlier x before chain. absurd (let no : earlier < 0 = before in omega arith);
    };
  }

  pub goes_on : (place : ℕ) (link next : Pointer) (leaf : LeafAt) → IsAlong v dir head place link
      → OfEach v dir head (λ h i. IsLeafOf h link.leaf leaf) → IsSmall link.leaf → HasBlock v link.leaf → leaf.head.next ≢ 0 → next ≡ record { leaf = leaf.head.next; from = link.leaf }
      → IsAlong v dir head (place + 1) next
  goes_on place link next leaf along read small there more next_is = record {
    from = subst (λ (p : Pointer). HasBlock v p.from) (sym next_is) there;
    at = λ h i shown is.
        let was = along.at h i shown is in
        let here = was.chain small.0 in
        let lf = read h i shown is in
        let next_there : (leaf_in h link.leaf).next ≢ 0 = λ e. more (ap (λ l. l.next) lf.head ∙ e) in
        let leaf_is : (leaf_in h link.leaf).next ≡ next.leaf = sym (ap (λ (p : Pointer). p.leaf) next_is ∙ ap (λ l. l.next) lf.head) in
        let from_is : link.leaf ≡ next.from = sym (ap (λ (p : Pointer). p.from) next_is) in
        record {
          leads = subst₂ (LeadsToLeaf h i) from_is leaf_is (by_leaf place link.leaf here next_there);
          chain = λ some. subst (IsInChain h i (place + 1)) leaf_is (chain_next place link.leaf here next_there);
          behind = λ some. (place, (refl, subst (IsInChain h i place) from_is here));
          low = λ earlier x before chain. elim (last_or earlier place before) [
            | inl low ↦ was.low earlier x low chain
            | inr top ↦ subst IsSmall (chain_one h i place link.leaf x here (subst (λ n. IsInChain h i n x) top chain)) small
          ];
        };
  }

  -- the chain has gone on too long
  pub comes_again_to : (place : ℕ) (link : Pointer) → place ≡ most_blocks → IsAlong v dir head place link → OfEach v dir head (λ h i. IsBroken h 15 link.from)
  comes_again_to place link long along h i shown is =
      let at = along.at h i shown is in
      let behind = at.behind (omega (arith, long)) in
      let n = behind.0 in
      let next : n + 1 ≡ place = behind.1.0 in
      let again = comes_back h i n link.from behind.1.1 (λ k y le chain. let s = at.low k y (omega arith) chain in (s.0, (let lt : y < most_blocks = s.1 in omega (arith, long, next, lt)))) in
      comes_again i again.0 n link.from again.2 behind.1.1 again.1

  -- no leaf so far has the name, and this one hasn't
  pub nameless : (name : List ℕ) → IsNameless v dir head name 0
  nameless name h i shown is earlier x before chain = absurd (let no : earlier < 0 = before in omega arith)

  pub still_nameless : (name : List ℕ) (place : ℕ) (link : Pointer) → IsAlong v dir head place link → link.leaf ≢ 0 → IsNameless v dir head name place → OfEach v dir head (λ h i. named_in h name link.leaf ≡ None)
      → IsNameless v dir head name (place + 1)
  still_nameless name place link along some none here h i shown is earlier x before chain = elim (last_or earlier place before) [
    | inl low ↦ none h i shown is earlier x low chain
    | inr top ↦ subst (λ y. named_in h name y ≡ None) (chain_one h i place link.leaf x ((along.at h i shown is).chain some) (subst (λ n. IsInChain h i n x) top chain)) (here h i shown is)
  ]

  -- all leaves so far were leaves, and so is this one
  pub headed_none : (depth : ℕ) → OfEach v dir head (λ h i. depth ≡ depth_in h → AreLeafHeads h i 0)
  headed_none depth h i shown is deep earlier x before chain = absurd (let no : earlier < 0 = before in omega arith)

  pub still_headed : (depth place : ℕ) (link : Pointer) → IsAlong v dir head place link → link.leaf ≢ 0 → OfEach v dir head (λ h i. depth ≡ depth_in h → AreLeafHeads h i place)
      → OfEach v dir head (λ h i. depth ≡ depth_in h → IsLeafHead h link.leaf) → OfEach v dir head (λ h i. depth ≡ depth_in h → AreLeafHeads h i (place + 1))
  still_headed depth place link along some heads headed h i shown is deep =
      heads_with h i place link.leaf ((along.at h i shown is).chain some) (heads h i shown is deep) (headed h i shown is deep)
