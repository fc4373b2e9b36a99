-- The groups of a draft that says what was taken: a number is given, a block is a dinode, and others are in use. d0 is the draft before, d1 that with the
-- number, d2 that with the dinode, and d3 that with all.
use Rattle.std.proofs.Common.{◌≡◌, ◌≢◌, ◌⊎◌, inl, inr, ℕ, ◌+◌, false, List, [], ◌∷◌, None, Some, sym, ap, ◌∙◌, subst, arith}
use Rattle.std.proofs.lemmas.Bool.{cases_eq}
use Rattle.std.proofs.lemmas.List.Elements.{Contains-append_left, Contains-append_right, Contains-append_cases}
use Rattle.std.specs.List.{range_with_len}
use Rattle.std.specs.Prelude.{map}
use Rattle.std.specs.FinMap.{get, insert}
use Rattle.drafts.specs.Fates.{AreWhole, Drafted, seen_in, seen_with}
use Rattle.drafts.specs.declared.change.Change.{Change}
use Rattle.drafts.specs.declared.fate.Fate.TheVariants.{Put}
use Rattle.gfs2_layout.specs.Bitmap.{state_at}
use Rattle.gfs2_layout.specs.Groups.{bitmap_of, count_of, group_header}
use Rattle.gfs2_layout.specs.Headers.{HasHeader}
use Rattle.glock_names.specs.Views.{Seen, HasBlock, HasGroup, IsView}
use Rattle.glock_names.specs.declared.steps.Missing.{Missing}
use Rattle.glock_names.specs.declared.views.Group.{Group}
use Rattle.resource_groups.specs.Freeing.{BreaksSome, HasSome, IsNeededFor, IsSameOrPut, SaysStateOfSome}
use Rattle.resource_groups.specs.Numbering.{IsNumberPut}
use Rattle.resource_groups.specs.Putting.{AreSameIn, ArePutIn, overlaid, seen_or}
use Rattle.resource_groups.specs.Shown.{IsBroken, IsDataOf, IsHeaderOf, IsShown, format_of, group_lock, kind_of, no_header, wrong_dinodes, wrong_free}
use Rattle.resource_groups.specs.Taking.{AreSet, KeepsBlocks}
use Rattle.resource_groups.proofs.Apart.{one_header}
use Rattle.resource_groups.proofs.Fits.{fit_of}
use Rattle.resource_groups.proofs.PutIn.{blocks_same, puts_join, puts_say, puts_to}
use Rattle.resource_groups.proofs.Sets.{as_over, broken_before, groups_same, one_has, over_twice, seen_same, shown_over, size_same}
use Rattle.image_changes.specs.Drafted.{IsFinished}
use Rattle.name_drafts.specs.Drafting.{IsNextOf, SaysMade}
use Rattle.name_drafts.specs.Steps.{IsNewSaid, IsSaidAndDone, LeavesGroups}
use Rattle.name_drafts.specs.declared.drafting.NewBlock.{NewBlock}
use Rattle.name_drafts.proofs.Fates.{left_seen, put_elsewhere, put_there}
use Rattle.name_drafts.proofs.Faults.{needed_before, number_breaks_nothing, own_header, shown_then}

-- what is broken in blocks that are the same was broken before
pub same_breaks : (at at' : ℕ → List ℕ) (g : Group) (rule b : ℕ) → AreSameIn at at' g → IsBroken at' g rule b → IsBroken at g rule b
same_breaks at at' g rule b same (no_header k low lacks) =
    no_header k low (λ has. lacks (subst (HasHeader (kind_of k) (format_of k)) (sym (same (g.addr + k) (record { low = omega arith; high = omega (arith, low) }))) has))
same_breaks at at' g rule b same (wrong_free other) =
    wrong_free (λ e. other (subst (λ blocks. (group_header blocks).free ≡ count_of 0 (map (state_at (bitmap_of blocks)) (range_with_len 0 g.count))) (sym (blocks_same at at' g same)) e))
same_breaks at at' g rule b same (wrong_dinodes other) =
    wrong_dinodes (λ e. other (subst (λ blocks. (group_header blocks).dinodes ≡ count_of 3 (map (state_at (bitmap_of blocks)) (range_with_len 0 g.count))) (sym (blocks_same at at' g same)) e))

-- one draft after another
same_or_both : {V : Type 0} (a b c : Drafted V) (g : Group) (n : ℕ) → IsSameOrPut a b g n → IsSameOrPut b c g n → IsSameOrPut a c g n
same_or_both a b c g n (inl before) (inl same) = inl (same ∙ before)
same_or_both a b c g n (inr put) (inl same) = inr (put.0, same ∙ put.1)
same_or_both a b c g n before (inr put) = inr put

-- ---- with the number

module _ {V : Type 0} (seen : V → Seen) (d0 d1 : Drafted V) (k : Group) (header : List ℕ) (put : d1 ≡ record d0 { fates = insert d0.fates k.addr (Put (group_lock k) false header) })
    (shows : IsView (seen_in seen d0)) (has_k : HasGroup (seen d0.view) k) (leaves : LeavesGroups (seen d0.view) d0.fates) where
  abbrev v : Seen
  v = seen d0.view

  pub view1 : d1.view ≡ d0.view
  view1 = ap (λ (d : Drafted V). d.view) put

  pub fate1 : (c : ℕ) → c ≢ k.addr → get d1.fates c ≡ get d0.fates c
  fate1 c other = ap (λ (d : Drafted V). get d.fates c) put ∙ put_elsewhere d0.fates k.addr (Put (group_lock k) false header) c other

  pub here1 : get d1.fates k.addr ≡ Some (Put (group_lock k) false header)
  here1 = ap (λ (d : Drafted V). get d.fates k.addr) put ∙ put_there d0.fates k.addr (Put (group_lock k) false header)

  own_k : IsHeaderOf k k.addr
  own_k = own_header (seen_in seen d0) k shows has_k

  -- the header of another group isn't this one
  pub other_group : (g : Group) (c : ℕ) → HasGroup v g → IsHeaderOf g c → c ≡ k.addr → g ≡ k
  other_group g c has own same = one_header (seen_in seen d0) shows g k has has_k c own (subst (IsHeaderOf k) (sym same) own_k)

  pub same1 : (g : Group) (c : ℕ) → HasGroup v g → IsHeaderOf g c → IsSameOrPut d0 d1 g c
  same1 g c has own = elim (cases_eq c k.addr) [
    | inl same ↦ inr (header, ap (get d1.fates) same ∙ here1 ∙ ap (λ x. Some (Put (group_lock x) false header)) (sym (other_group g c has own same)))
    | inr apart ↦ inl (fate1 c apart)
  ]

  -- the view has each block that it sees, where it has the header
  pub sees1 : HasBlock v k.addr → (g : Group) (c : ℕ) → HasGroup v g → IsHeaderOf g c → HasBlock (seen_in seen d1) c → HasBlock v c
  sees1 there g c has own seen_there = elim (cases_eq c k.addr) [
    | inl same ↦ subst (HasBlock v) (sym same) there
    | inr apart ↦ (seen_there.0, sym (seen_same seen d0 d1 view1 c (fate1 c apart) ∙ left_seen v d0.fates c (leaves g c has own)) ∙ seen_there.1)
  ]

  module _ (shows1 : IsView (seen_in seen d1)) (g : Group) (at : ℕ → List ℕ) (has : HasGroup v g) (shown : IsShown v g at) where
    shown0 : IsShown (seen_in seen d0) g at
    shown0 = shown_then v d0.fates leaves g at has shown

    abbrev pub at1 : ℕ → List ℕ
    at1 = overlaid (seen_in seen d1) at

    pub shown1 : IsShown (seen_in seen d1) g at1
    shown1 = shown_over (seen_in seen d0) (seen_in seen d1) g at shows1 (size_same seen d0 d1 view1) shown0

    pub others1 : g ≢ k → AreSameIn at at1 g
    others1 other c own = ap (λ o. seen_or o (at c)) (seen_same seen d0 d1 view1 c (fate1 c (λ e. other (other_group g c has own e)))) ∙ as_over (seen_in seen d0) g at c shown0 own

    pub numbered1 : (number : ℕ) → ((a : ℕ → List ℕ) → IsShown (seen_in seen d0) k a → IsNumberPut a (overlaid (seen_in seen d1) a) k number) → g ≡ k → IsNumberPut at at1 g number
    numbered1 number numbered e = subst (λ x. IsNumberPut at at1 x number) (sym e) (numbered at (subst (λ x. IsShown (seen_in seen d0) x at) e shown0))

    -- what is broken with the number was broken before
    pub breaks1 : (number rule b : ℕ) → ((a : ℕ → List ℕ) → IsShown (seen_in seen d0) k a → IsNumberPut a (overlaid (seen_in seen d1) a) k number) → IsBroken at1 g rule b → IsBroken at g rule b
    breaks1 number rule b numbered broken = elim (cases_eq g.addr k.addr) [
      | inl same ↦ number_breaks_nothing at at1 g number rule b (numbered1 number numbered (other_group g g.addr has (own_header (seen_in seen d0) g shows has) same)) broken
      | inr apart ↦ same_breaks at at1 g rule b (others1 (λ e. apart (ap (λ (x : Group). x.addr) e))) broken
    ]

  pub breaks_number : (shows1 : IsView (seen_in seen d1)) (number : ℕ) → ((a : ℕ → List ℕ) → IsShown (seen_in seen d0) k a → IsNumberPut a (overlaid (seen_in seen d1) a) k number)
      → (blocks : List ℕ) (rule c : ℕ) → BreaksSome (seen_in seen d1) blocks rule c → BreaksSome v blocks rule c
  breaks_number shows1 number numbered blocks rule c (g, has1, some, broken) =
      let has : HasGroup v g = groups_same seen d1 d0 (sym view1) g has1 in
      (g, has, some, λ at shown. breaks1 shows1 g at has shown number rule c numbered (broken (overlaid (seen_in seen d1) at) (shown1 shows1 g at has shown)))

  pub needs_number : (blocks : List ℕ) (m : Missing) → IsNeededFor (seen_in seen d1) blocks m → IsNeededFor v blocks m
  needs_number blocks m needed = needed_before v d1.fates blocks m (subst (λ x. IsNeededFor (seen_with (seen x) d1.fates) blocks m) view1 needed)

-- ---- with the dinode, and then with all

module _ {V : Type 0} (seen : V → Seen) (d0 d2 : Drafted V) (r : NewBlock) (number : ℕ) (new : IsNewSaid seen d0 d2 r number) (shows : IsView (seen_in seen d0)) (has_r : HasGroup (seen d0.view) r.group)
    (own_r : IsDataOf r.group r.block) (leaves : LeavesGroups (seen d0.view) d0.fates) where
  abbrev v0 : Seen
  v0 = seen d0.view

  abbrev d1 : Drafted V
  d1 = new.mid

  into1 : d1.view ≡ d0.view
  into1 = view1 seen d0 d1 r.group new.header new.put shows has_r leaves

  pub view2 : d2.view ≡ d0.view
  view2 = new.rest.view ∙ into1

  has1 : (g : Group) → HasGroup v0 g → HasGroup (seen_in seen d1) g
  has1 g has = groups_same seen d0 d1 into1 g has

  pub has2 : (g : Group) → HasGroup v0 g → HasGroup (seen_in seen d2) g
  has2 g has = groups_same seen d0 d2 view2 g has

  same2 : (g : Group) (c : ℕ) → HasGroup v0 g → IsHeaderOf g c → IsSameOrPut d0 d2 g c
  same2 g c has own = same_or_both d0 d1 d2 g c (same1 seen d0 d1 r.group new.header new.put shows has_r leaves g c has own) (new.set.headers g c (has1 g has) own)

  pub sees2 : HasBlock v0 r.group.addr → (g : Group) (c : ℕ) → HasGroup v0 g → IsHeaderOf g c → HasBlock (seen_in seen d2) c → HasBlock v0 c
  sees2 there g c has own there2 = sees1 seen d0 d1 r.group new.header new.put shows has_r leaves there g c has own (new.set.sees c there2)

  pub needs_new : (blocks : List ℕ) (m : Missing) → IsNeededFor (seen_in seen d2) blocks m → IsNeededFor v0 blocks m
  needs_new blocks m needed = needed_before v0 d2.fates blocks m (subst (λ x. IsNeededFor (seen_with (seen x) d2.fates) blocks m) view2 needed)

  module _ (g : Group) (at : ℕ → List ℕ) (has : HasGroup v0 g) (shown : IsShown v0 g at) where
    abbrev first : ℕ → List ℕ
    first = overlaid (seen_in seen d1) at

    abbrev second : ℕ → List ℕ
    second = overlaid (seen_in seen d2) first

    first_shown : IsShown (seen_in seen d1) g first
    first_shown = shown1 seen d0 d1 r.group new.header new.put shows has_r leaves new.shows g at has shown

    second_shown : IsShown (seen_in seen d2) g second
    second_shown = shown_over (seen_in seen d1) (seen_in seen d2) g first new.then (size_same seen d1 d2 new.rest.view) first_shown

    puts2 : ArePutIn first second g (r.block ∷ []) 3
    puts2 = new.set.puts g first (has1 g has) first_shown

    breaks2 : (rule b : ℕ) → IsBroken second g rule b → IsBroken at g rule b
    breaks2 rule b broken = breaks1 seen d0 d1 r.group new.header new.put shows has_r leaves new.shows g at has shown number rule b new.numbered
        (broken_before (seen_in seen d1) g first second (r.block ∷ []) 3 (omega arith) new.shows (has1 g has) first_shown (puts_say first second g (r.block ∷ []) 3 puts2) rule b broken)

  pub breaks_new : (blocks : List ℕ) (rule c : ℕ) → BreaksSome (seen_in seen d2) blocks rule c → BreaksSome v0 blocks rule c
  breaks_new blocks rule c (g, there, some, broken) =
      let has : HasGroup v0 g = groups_same seen d2 d0 (sym view2) g there in
      (g, has, some, λ at shown. breaks2 g at has shown rule c (broken (overlaid (seen_in seen d2) (overlaid (seen_in seen d1) at)) (second_shown g at has shown)))

  module _ (d3 : Drafted V) (taken : List ℕ) (takes : AreSet seen d2 d3 taken 1) (rest : KeepsBlocks seen d2 d3 taken) where
    pub view3 : d3.view ≡ d0.view
    view3 = rest.view ∙ view2

    same3 : (g : Group) (c : ℕ) → HasGroup v0 g → IsHeaderOf g c → IsSameOrPut d2 d3 g c
    same3 g c has own = takes.headers g c (has2 g has) own

    later3 : (g : Group) (c : ℕ) → HasGroup v0 g → IsHeaderOf g c → IsSameOrPut d1 d3 g c
    later3 g c has own = same_or_both d1 d2 d3 g c (new.set.headers g c (has1 g has) own) (same3 g c has own)

    all3 : (g : Group) (c : ℕ) → HasGroup v0 g → IsHeaderOf g c → IsSameOrPut d0 d3 g c
    all3 g c has own = same_or_both d0 d2 d3 g c (same2 g c has own) (same3 g c has own)

    says3 : (at : ℕ → List ℕ) (g : Group) → HasGroup v0 g → IsShown v0 g at → SaysMade at (overlaid (seen_in seen d3) at) r taken g number
    says3 at g has shown =
        let one = first g at has shown in
        let two = second g at has shown in
        let puts = puts2 g at has shown in
        let last = overlaid (seen_in seen d3) two in
        let fit = fit_of (seen_in seen d0) g shows has in
        record {
          first = one;
          numbered = (
            numbered1 seen d0 d1 r.group new.header new.put shows has_r leaves new.shows g at has shown number new.numbered,
            others1 seen d0 d1 r.group new.header new.put shows has_r leaves new.shows g at has shown,
          );
          second = puts.0;
          said = puts.1;
          takes = puts_to puts.0 last (overlaid (seen_in seen d3) at) g taken 1
              (puts_join puts.0 two last g [] taken 1 (omega (arith, fit.some)) puts.2 (takes.puts g two (has2 g has) (second_shown g at has shown)))
              (λ c own. sym (over_twice seen d2 d3 rest.view g one c (same3 g c has own) ∙ over_twice seen d1 d3 (rest.view ∙ new.rest.view) g at c (later3 g c has own)));
        }

    headers3 : (g : Group) (c : ℕ) → HasGroup v0 g → IsHeaderOf g c → (get d3.fates c ≡ None) ⊎ ((bytes : List ℕ) × (get d3.fates c ≡ Some (Put (group_lock g) false bytes)))
    headers3 g c has own = elim (all3 g c has own) [
      | inl same ↦ inl (same ∙ leaves g c has own)
      | inr put ↦ inr put
    ]

    sizes : (d : Drafted V) → d.view ≡ d0.view → (seen d.view).size ≡ v0.size
    sizes d same = ap (λ (x : V). (seen x).size) same

    only3 : (g : Group) (c : ℕ) → HasGroup v0 g → IsHeaderOf g c → ¬ (SaysStateOfSome v0.size g (r.block ∷ taken) c) → get d3.fates c ≡ None
    only3 g c has own none =
        takes.only g c (has2 g has) own (λ some. none (later (subst (λ n. SaysStateOfSome n g taken c) (sizes d2 view2) some)))
        ∙ new.set.only g c (has1 g has) own (λ some. none (early (subst (λ n. SaysStateOfSome n g (r.block ∷ []) c) (sizes d1 into1) some)))
        ∙ fate1 seen d0 d1 r.group new.header new.put shows has_r leaves c (λ e. none (at_header e)) ∙ leaves g c has own
      where
        later : SaysStateOfSome v0.size g taken c → SaysStateOfSome v0.size g (r.block ∷ taken) c
        later (b, there, of_g, says) = (b, Contains-append_right (r.block ∷ []) taken b there, of_g, says)

        early : SaysStateOfSome v0.size g (r.block ∷ []) c → SaysStateOfSome v0.size g (r.block ∷ taken) c
        early (b, there, of_g, says) = (b, Contains-append_left (r.block ∷ []) taken b there, of_g, says)

        at_header : c ≡ r.group.addr → SaysStateOfSome v0.size g (r.block ∷ taken) c
        at_header e =
            let same : g ≡ r.group = other_group seen d0 d1 r.group new.header new.put shows has_r leaves g c has own e in
            (r.block, Contains-append_left (r.block ∷ []) taken r.block (one_has r.block), subst (λ x. IsDataOf x r.block) (sym same) own_r, inl (e ∙ ap (λ (x : Group). x.addr) (sym same)))

    counts3 : (g : Group) → HasGroup v0 g → HasSome g (r.block ∷ taken) → (bytes : List ℕ) × (get d3.fates g.addr ≡ Some (Put (group_lock g) false bytes))
    counts3 g has (b, there, of_g) = elim (Contains-append_cases (r.block ∷ []) taken b there) [
      | inl early ↦
          let before = new.set.counts g (has1 g has) (b, early, of_g) in
          elim (same3 g g.addr has (own_header (seen_in seen d0) g shows has)) [
            | inl same ↦ (before.0, same ∙ before.1)
            | inr put ↦ put
          ]
      | inr later ↦ takes.counts g (has2 g has) (b, later, of_g)
    ]

    others3 : (c : ℕ) → ((g : Group) → HasGroup v0 g → HasSome g (r.block ∷ taken) → ¬ (IsHeaderOf g c)) → get d3.fates c ≡ get d0.fates c
    others3 c far =
        rest.others c (λ g there some own. far g (groups_same seen d2 d0 (sym view2) g there) (some.0, Contains-append_right (r.block ∷ []) taken some.0 some.1, some.2) own)
        ∙ new.rest.others c (λ g there some own. far g (groups_same seen d1 d0 (sym into1) g there) (some.0, Contains-append_left (r.block ∷ []) taken some.0 some.1, some.2) own)
        ∙ fate1 seen d0 d1 r.group new.header new.put shows has_r leaves c (λ e. far r.group has_r (r.block, Contains-append_left (r.block ∷ []) taken r.block (one_has r.block), own_r)
        (subst (IsHeaderOf r.group) (sym e) (own_header (seen_in seen d0) r.group shows has_r)))

    pub said_and_done : (change : Change) → ((at : ℕ → List ℕ) → IsShown v0 r.group at → IsNextOf at r.group number) → AreWhole (seen d3.view).size d3.fates → IsFinished d3.fates change
        → IsSaidAndDone v0 d0.fates r taken change
    said_and_done change next whole finished = record {
      fates = d3.fates;
      number = number;
      next = next;
      says = λ at g has shown. subst (λ (x : V). SaysMade at (overlaid (seen_with (seen x) d3.fates) at) r taken g number) view3 (says3 at g has shown);
      headers = headers3;
      only = only3;
      counts = counts3;
      others = others3;
      whole = subst (λ n. AreWhole n d3.fates) (sizes d3 view3) whole;
      finished = finished;
    }
