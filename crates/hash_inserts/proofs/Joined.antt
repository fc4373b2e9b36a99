-- Steps of an insertion one after another, in a draft.
use Rattle.std.proofs.Common.{◌≡◌, ◌⊎◌, ℕ, ◌+◌, ◌≤◌, inl, inr, false, List, [], ◌++◌, length, Option, None, Some, refl, sym, ap, ◌∙◌, append_assoc, length-append, arith}
use Rattle.std.specs.Prelude.{IsSome, Contains}
use Rattle.std.proofs.lemmas.List.Elements.{Contains-append_left, Contains-append_right, Contains-append_cases}
use Rattle.std.specs.FinMap.{FinMap, get}
use Rattle.std.specs.Ordering.{nat_cmp}
use Rattle.drafts.specs.declared.fate.Fate.{Fate}
use Rattle.drafts.specs.declared.fate.Fate.TheVariants.{Put}
use Rattle.gfs2_layout.specs.Holding.{Holding, Cell, cell_bytes, bytes_at}
use Rattle.gfs2_layout.specs.Inode.{depth_in}
use Rattle.gfs2_layout.specs.declared.dinode.Dinode.{Dinode}
use Rattle.glock_names.specs.Views.{Seen}
use Rattle.glock_names.specs.declared.steps.Entry.{Entry}
use Rattle.dinode_tree.specs.Reading.{inode_lock}
use Rattle.growth_drafts.specs.Taken.{HasTaken}
use Rattle.table_changes.specs.Tables.{DraftsDirectory}
use Rattle.hash_steps.specs.Laws.{ExchangesJoin}
use Rattle.hash_inserts.specs.Advancing.{StepsTo}
use Rattle.hash_inserts.specs.Inserting as ins
use Rattle.hash_inserts.specs.Inserting.{Inserts, IsInserted, IsInsertedAt, a_leaf_with_room, after_doubling, after_leaf, after_split, its_dinode, of_pointers, of_table, one_taken, the_last_leaf}

some_or_none : (c : Option Cell) → IsSome c ⊎ (IsSome c → ⊥)
some_or_none None = inr (λ e. cc)
some_or_none (Some c) = inl refl

no_bytes : (c : Option Cell) → (IsSome c → ⊥) → cell_bytes c ≡ []
no_bytes None none = refl
no_bytes (Some c) none = absurd (none refl)

-- blocks that are taken in one step, and others in the next
pub taken_join : (h m g : Holding) (more taken : List ℕ) → HasTaken h m more → HasTaken m g taken → HasTaken h g (more ++ taken)
taken_join h m g more taken one two = record {
  count = two.count ∙ one.count;
  blocks = λ b. (to b, from b);
}
  where
    first : (b : ℕ) → IsSome (m.cell b) → IsSome (h.cell b) ⊎ Contains (more ++ taken) b
    first b some = elim ((one.blocks b).0 some) [
      | inl had ↦ inl had
      | inr came ↦ inr (Contains-append_left more taken b came)
    ]

    to : (b : ℕ) → IsSome (g.cell b) → IsSome (h.cell b) ⊎ Contains (more ++ taken) b
    to b some = elim ((two.blocks b).0 some) [
      | inl had ↦ first b had
      | inr came ↦ inr (Contains-append_right more taken b came)
    ]

    from : (b : ℕ) → IsSome (h.cell b) ⊎ Contains (more ++ taken) b → IsSome (g.cell b)
    from b (inl had) = (two.blocks b).1 (inl ((one.blocks b).1 (inl had)))
    from b (inr came) = elim (Contains-append_cases more taken b came) [
      | inl before ↦ (two.blocks b).1 (inl ((one.blocks b).1 (inr before)))
      | inr after ↦ (two.blocks b).1 (inr after)
    ]

-- what becomes of the blocks in one step, and then in the next
pub drafted_join : (old mid new : FinMap nat_cmp Fate) (h m g : Holding) → g.own ≡ m.own → ((b : ℕ) → IsSome (h.cell b) → IsSome (m.cell b)) → ((b : ℕ) → IsSome (m.cell b) → IsSome (g.cell b))
    → DraftsDirectory old mid h m → DraftsDirectory mid new m g → DraftsDirectory old new h g
drafted_join old mid new h m g own_is keeps keeps' one two = record { own = own; others = others }
  where
    others : (b : ℕ) → (IsSome (g.cell b) → ⊥) → get new b ≡ get old b
    others b none = two.others b none ∙ one.others b (λ had. none (keeps' b had))

    own : (b : ℕ) → IsSome (g.cell b) → ((get new b ≡ get old b) × (bytes_at g b ≡ bytes_at h b)) ⊎ (get new b ≡ Some (Put (inode_lock g.own) false (bytes_at g b)))
    own b some = elim (two.own b some) [
      | inr put ↦ inr put
      | inl same ↦ elim (some_or_none (m.cell b)) [
        | inl had ↦ elim (one.own b had) [
          | inl was ↦ inl (same.0 ∙ was.0, same.1 ∙ was.1)
          | inr put ↦ inr (same.0 ∙ put ∙ ap (λ a. Some (Put (inode_lock a) false (bytes_at m b))) (sym own_is) ∙ ap (λ bytes. Some (Put (inode_lock g.own) false bytes)) (sym same.1))
        ]
        | inr none ↦ inl (same.0 ∙ one.others b none, same.1 ∙ no_bytes (m.cell b) none ∙ sym (no_bytes (h.cell b) (λ had. none (keeps b had))))
      ]
    ]

-- an insertion leaves the table as deep as it was, or deeper
pub deepens : (name : List ℕ) (e : Entry) (h g : Holding) (taken : List ℕ) → IsInserted name e h g taken → depth_in h ≤ depth_in g
deepens name e _ _ _ (ins.IsInserted.put h g is) = let same : depth_in g ≡ depth_in h = ap (λ (d : Dinode). d.depth) is.dinode in omega (arith, same)
deepens name e _ _ _ (after_split h m g b taken full one less split sound later) =
    let same : depth_in m ≡ depth_in h = ap (λ (d : Dinode). d.depth) split.counts.dinode in
    let on = deepens name e m g taken later in
    omega (arith, same, on)
deepens name e _ _ _ (after_doubling h m g more taken full one deepest may doubled sound later) =
    let deeper : depth_in m ≡ depth_in h + 1 = ap (λ (d : Dinode). d.depth) doubled.doubled.dinode in
    let on = deepens name e m g taken later in
    omega (arith, deeper, on)
deepens name e _ _ _ (after_leaf h m g b full deepest longer sound is) =
    let first : depth_in m ≡ depth_in h = ap (λ (d : Dinode). d.depth) longer.counts.dinode in
    let next : depth_in g ≡ depth_in m = ap (λ (d : Dinode). d.depth) is.dinode in
    omega (arith, first, next)

-- a block to which an insertion does something that takes these blocks, and more
pub at_more : (h m g : Holding) (name more taken : List ℕ) (b : ℕ) → depth_in m ≤ depth_in g → IsInsertedAt h m name more b → IsInsertedAt h g name (more ++ taken) b
at_more h m g name more taken b on (its_dinode is) = its_dinode is
at_more h m g name more taken b on (a_leaf_with_room place chain full room) = a_leaf_with_room place chain full room
at_more h m g name more taken b on (the_last_leaf place full chain ends) = the_last_leaf place full chain ends
at_more h m g name more taken b on (one_taken came) = one_taken (Contains-append_left more taken b came)
at_more h m g name more taken b on (of_pointers full one less pointer) = of_pointers full one less pointer
at_more h m g name more taken b on (of_table above k level first full one deeper part) = of_table above k level first full one (omega (arith, deeper, on)) part

-- a step, and an insertion from there
pub inserts_join : ExchangesJoin → (v : Seen) (old mid new : FinMap nat_cmp Fate) (room between left : List ℕ) (need rest : ℕ) (name : List ℕ) (e : Entry) (h m g : Holding) (more : List ℕ) → StepsTo v old mid name h m more
    → room ≡ more ++ between → need ≡ length more + rest → g.own ≡ m.own → Inserts mid new between left rest name e m g → Inserts old new room left need name e h g
inserts_join law v old mid new room between left need rest name e h m g more steps front all own ins = record {
  taken = more ++ ins.taken;
  few = omega (arith, length-append more ins.taken, ins.few, all);
  takes = record {
    front = front ∙ ap (λ xs. more ++ xs) ins.takes.front ∙ sym (append_assoc more ins.taken left);
    has = taken_join h m g more ins.taken steps.has ins.takes.has;
    drafted = drafted_join old mid new h m g own steps.puts.keeps (λ b had. (ins.takes.has.blocks b).1 (inl had)) steps.puts.drafted ins.takes.drafted;
    changes = changes;
  };
  inserted = steps.goes_on e g ins.taken ins.inserted;
  exchanged = law h m g [] _ steps.stays.records ins.exchanged;
  sound = ins.sound;
}
  where
    on : depth_in m ≤ depth_in g
    on = deepens name e m g ins.taken ins.inserted

    changes : (b : ℕ) → (get new b ≡ get old b) ⊎ IsInsertedAt h g name (more ++ ins.taken) b
    changes b = elim (ins.takes.changes b) [
      | inr at ↦ inr (steps.later b g ins.taken on at)
      | inl same ↦ elim (steps.changes b) [
        | inl was ↦ inl (same ∙ was)
        | inr at ↦ inr (at_more h m g name more ins.taken b on at)
      ]
    ]
