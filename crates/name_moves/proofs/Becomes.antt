-- What the draft of a move makes of the directories and the inode where these are apart.
use Rattle.std.proofs.Common.{◌≡◌, ◌≢◌, ◌⊎◌, inl, inr, ℕ, true, false, List, None, refl, sym, ◌∙◌, subst}
use Rattle.std.proofs.lemmas.Bool.{cases_Bool}
use Rattle.std.proofs.lemmas.List.Elements.{Contains-append_left}
use Rattle.std.specs.Prelude.{Contains, IsSome}
use Rattle.std.specs.Ordering.{nat_cmp}
use Rattle.std.specs.FinMap.{FinMap, get}
use Rattle.drafts.specs.Fates.{seen_with}
use Rattle.drafts.specs.declared.change.Change.{Change}
use Rattle.drafts.specs.declared.fate.Fate.{Fate}
use Rattle.gfs2_layout.specs.Holding.{Holding}
use Rattle.glock_names.specs.Views.{Seen, HasGroup, IsView}
use Rattle.glock_names.specs.declared.steps.Entry.{Entry}
use Rattle.glock_names.specs.declared.views.Group.{Group}
use Rattle.dinode_tree.specs.Shown.{IsAsSeen}
use Rattle.resource_groups.specs.Putting.{HasDataBlock}
use Rattle.resource_groups.specs.Shown.{IsHeaderOf}
use Rattle.name_drafts.specs.Inserting.{IsNamedAt}
use Rattle.name_drafts.proofs.Fates.{alike_seen}
use Rattle.name_drafts.proofs.Faults.{data_apart}
use Rattle.name_drafts.proofs.Grown.{over_alike}
use Rattle.name_moves.specs.Becoming.{GetsParent, GivesName, IsLostAt, IsStamped}
use Rattle.name_moves.specs.Moving.{AreApart, Becomes, IsMovedAt, IsPlaceOfMove, Move, entry_for, freed_by, is_reparented, is_within, it_gets, it_gives, it_loses, its_parent, its_time, lost_there, parent_of, then_of}
use Rattle.name_moves.specs.Steps.{IsNamedIn, left_of}
use Rattle.name_moves.proofs.Done.{AreDone, last, stays}
use Rattle.name_moves.proofs.Joined.{Whose, as_inode, as_source, as_target, inode_nothing, source_nothing, whose}

module _ (v : Seen) (m : Move) (old : Entry) (room : List ℕ) (time : ℕ) (taken : List ℕ) (change : Change) (is : AreDone v m old room time taken change) (shows : IsView v)
    (inside : (b : ℕ) → IsPlaceOfMove m b → HasDataBlock v b) (rooms : (b : ℕ) → Contains taken b → HasDataBlock v b) (away : (b : ℕ) → Contains room b → ¬ (Contains (freed_by m) b))
    (source target inode : Holding) (apart : AreApart v m room source target inode) where
  abbrev pub end : FinMap nat_cmp Fate
  end = last v m old room time taken change is shows inside rooms

  in_room : (b : ℕ) → Contains taken b → Contains room b
  in_room b there = subst (λ xs. Contains xs b) (sym is.joined.named.front) (Contains-append_left taken is.joined.named.left b there)

  abbrev IsIts : ℕ → Type 0
  IsIts b = IsSome (target.cell b) ⊎ Contains taken b

  pub named : IsNamedIn v m.to.inode (lost_there m) m.new_name (entry_for m old) time taken is.joined.target target
  named = is.joined.named.each target apart.target_shown apart.target_sound apart.can

  -- ---- which blocks none of them puts

  target_none : (b : ℕ) → ¬ (IsIts b) → get is.joined.target b ≡ None
  target_none b none = named.others b (λ some. none ((named.blocks b).0 some))

  source_none : (b : ℕ) → (is_within m ≡ false → ¬ (IsSome (source.cell b))) → get is.joined.source b ≡ None
  source_none b none = elim (cases_Bool (is_within m)) [
    | inl within ↦ source_nothing v m old room time taken is.fates is.joined within b
    | inr between ↦ ((is.joined.given.gives between).each source (apart.source_shown between) (apart.source_sound between)).others b (none between)
  ]

  inode_none : (b : ℕ) → ¬ (IsSome (inode.cell b)) → get is.joined.inode b ≡ None
  inode_none b none = elim (cases_Bool (is_reparented m)) [
    | inl moves ↦ ((is.joined.led.leads moves).each inode (apart.inode_shown moves) (apart.inode_sound moves)).others b none
    | inr stays_put ↦ inode_nothing v m old room time taken is.fates is.joined stays_put b
  ]

  -- ---- of the directory that gets the name

  not_source : (b : ℕ) → IsIts b → is_within m ≡ false → ¬ (IsSome (source.cell b))
  not_source b (inl its) between some = apart.source_target between b some its
  not_source b (inr there) between some = (apart.source_clear between).not_taken b some (in_room b there)

  not_inode : (b : ℕ) → IsIts b → ¬ (IsSome (inode.cell b))
  not_inode b (inl its) some = apart.target_inode b its some
  not_inode b (inr there) some = apart.inode_clear.not_taken b some (in_room b there)

  not_freed : (b : ℕ) → IsIts b → ¬ (Contains (freed_by m) b)
  not_freed b (inl its) goes = apart.target_clear.not_freed b its goes
  not_freed b (inr there) goes = away b (in_room b there) goes

  not_header : (b : ℕ) → IsIts b → (g : Group) → HasGroup v g → ¬ (IsHeaderOf g b)
  not_header b (inl its) g has own = apart.target_clear.not_header g b its has own
  not_header b (inr there) g has own = data_apart v g b b shows has (rooms b there) own refl

  -- each of its blocks is in the end what it made of it
  pub target_end : (b : ℕ) → IsIts b → get end b ≡ get is.joined.target b
  target_end b its = stays v m old room time taken change is shows inside rooms b (not_freed b its) (not_header b its)
      ∙ as_target v m old room time taken is.fates is.joined b (source_none b (not_source b its)) (inode_none b (not_inode b its))

  pub after_seen : IsAsSeen (seen_with v end) named.after
  after_seen b bytes some there = named.seen b bytes some (sym (alike_seen v is.joined.target end b (target_end b ((named.blocks b).0 some))) ∙ there)

  -- ---- of the directory that loses it

  not_target : (b : ℕ) → is_within m ≡ false → IsSome (source.cell b) → ¬ (IsIts b)
  not_target b between some its = not_source b its between some

  pub source_end : is_within m ≡ false → (b : ℕ) → IsSome (source.cell b) → get end b ≡ get is.joined.source b
  source_end between b some =
      stays v m old room time taken change is shows inside rooms b ((apart.source_clear between).not_freed b some) (λ g has own. (apart.source_clear between).not_header g b some has own)
      ∙ as_source v m old room time taken is.fates is.joined b (target_none b (not_target b between some)) (inode_none b (λ its. apart.source_inode between b some its))

  source_over : is_within m ≡ false → then_of v end source ≡ left_of v is.joined.source source
  source_over between = over_alike (seen_with v end) (seen_with v is.joined.source) source (λ b some. alike_seen v is.joined.source end b (source_end between b some))

  pub gives : is_within m ≡ false → GivesName source (then_of v end source) m.name time
  gives between = subst (λ g. GivesName source g m.name time) (sym (source_over between)) ((is.joined.given.gives between).each source (apart.source_shown between) (apart.source_sound between)).becomes

  -- ---- of the inode

  pub inode_away : (b : ℕ) → IsSome (inode.cell b) → get end b ≡ get is.joined.inode b
  inode_away b some =
      stays v m old room time taken change is shows inside rooms b (apart.inode_clear.not_freed b some) (λ g has own. apart.inode_clear.not_header g b some has own)
      ∙ as_inode v m old room time taken is.fates is.joined b (target_none b (λ its. not_inode b its some)) (source_none b (λ between its. apart.source_inode between b its some))

  pub inode_end : (b : ℕ) → IsSome (inode.cell b) → get end b ≡ get is.joined.inode b
  inode_end = inode_away

  inode_over : then_of v end inode ≡ left_of v is.joined.inode inode
  inode_over = over_alike (seen_with v end) (seen_with v is.joined.inode) inode (λ b some. alike_seen v is.joined.inode end b (inode_away b some))

  pub parent : is_reparented m ≡ true → GetsParent inode (then_of v end inode) (parent_of m) time
  parent moves = subst (λ g. GetsParent inode g (parent_of m) time) (sym inode_over) ((is.joined.led.leads moves).each inode (apart.inode_shown moves) (apart.inode_sound moves)).becomes

  -- ---- the times

  pub target_time : IsStamped end m.to.inode time
  target_time =
      let stamped = is.joined.named.stamped in
      let own = subst (λ b. IsSome (target.cell b)) apart.target_shown.inode.own apart.target_shown.inode.dinode in
      record { bytes = stamped.bytes; put = target_end m.to.inode (inl own) ∙ stamped.put; times = stamped.times }

  pub source_time : is_within m ≡ false → IsStamped end m.from time
  source_time between =
      let stamped = (is.joined.given.gives between).stamped in
      let shown = apart.source_shown between in
      let own = subst (λ b. IsSome (source.cell b)) shown.inode.own shown.inode.dinode in
      record { bytes = stamped.bytes; put = source_end between m.from own ∙ stamped.put; times = stamped.times }

  pub inode_time : is_reparented m ≡ true → IsStamped end m.moved.inode time
  inode_time moves =
      let stamped = (is.joined.led.leads moves).stamped in
      let shown = apart.inode_shown moves in
      let own = subst (λ b. IsSome (inode.cell b)) shown.inode.own shown.inode.dinode in
      record { bytes = stamped.bytes; put = inode_away m.moved.inode own ∙ stamped.put; times = stamped.times }

  -- ---- nothing is put that need not be

  abbrev pub IsAt : ℕ → Type 0
  IsAt b = IsMovedAt m source target inode named.gets.without named.gets.named taken b

  target_at : (b : ℕ) → get is.joined.target b ≢ None → IsAt b
  target_at b put = by (named.changes b)
    where
      by : (get is.joined.target b ≡ None) ⊎ (IsLostAt (lost_there m) target b ⊎ (IsNamedAt named.gets.without named.gets.named m.new_name taken b ⊎ (b ≡ target.own))) → IsAt b
      by (inl none) = absurd (put none)
      by (inr (inl lost)) = it_loses lost
      by (inr (inr (inl at))) = it_gets at
      by (inr (inr (inr own))) = its_time own

  source_at : is_within m ≡ false → (b : ℕ) → get is.joined.source b ≢ None → IsAt b
  source_at between b put = elim (((is.joined.given.gives between).each source (apart.source_shown between) (apart.source_sound between)).changes b) [
    | inl none ↦ absurd (put none)
    | inr at ↦ it_gives between at
  ]

  inode_at : is_reparented m ≡ true → (b : ℕ) → get is.joined.inode b ≢ None → IsAt b
  inode_at moves b put = elim (((is.joined.led.leads moves).each inode (apart.inode_shown moves) (apart.inode_sound moves)).changes b) [
    | inl none ↦ absurd (put none)
    | inr at ↦ its_parent moves at
  ]

  pub changes : (b : ℕ) → ((k : Group) → HasGroup v k → ¬ (IsHeaderOf k b)) → ¬ (Contains (freed_by m) b) → (get end b ≡ None) ⊎ IsAt b
  changes b far left = by (whose v m old room time taken is.fates is.joined b)
    where
      by : Whose v m old room time taken is.fates is.joined b → (get end b ≡ None) ⊎ IsAt b
      by (inl none) = inl (stays v m old room time taken change is shows inside rooms b left far ∙ none)
      by (inr (inl put)) = inr (target_at b put)
      by (inr (inr (inl put))) = inr (source_at put.0 b put.1)
      by (inr (inr (inr put))) = inr (inode_at put.0 b put.1)

  abbrev pub becomes : Becomes v m end old taken time source target inode
  becomes = record {
    gives = gives;
    after = named.after;
    gets = named.gets;
    size = named.size;
    count = named.count;
    own = named.own;
    itself = named.itself;
    exchanged = named.exchanged;
    seen = after_seen;
    left = λ b none some. named.unseen b (sym (target_end b ((named.blocks b).0 some)) ∙ none) some;
    blocks = named.blocks;
    parent = parent;
    still = λ stays_put b some. inode_away b some ∙ inode_nothing v m old room time taken is.fates is.joined stays_put b;
    source_time = source_time;
    target_time = target_time;
    inode_time = inode_time;
    changes = changes;
  }

  -- what none of them puts, and is no group's, is left
  pub none_else : (b : ℕ) → ¬ (IsIts b) → (is_within m ≡ false → ¬ (IsSome (source.cell b))) → ¬ (IsSome (inode.cell b)) → get is.fates b ≡ None
  none_else b not_its not_hers not_moved =
      as_target v m old room time taken is.fates is.joined b (source_none b not_hers) (inode_none b not_moved) ∙ target_none b not_its
