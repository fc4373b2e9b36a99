-- In an image that the view may be of: what the groups say of a draft that makes a name, as the states of their blocks.
use Rattle.std.proofs.Common.{◌≡◌, inl, inr, ℕ, ◌*◌, ◌≤◌, ◌==◌, Bool, true, false, List, [], ◌∷◌, length, refl, sym, ap, ◌∙◌, subst, arith, length-set}
use Rattle.std.proofs.lemmas.Bool.{cases_Bool, cases_eq, cond-true, cond-false, eq-eqb, ne_eqb}
use Rattle.std.specs.Prelude.{Contains, if◌then◌else◌}
use Rattle.std.specs.Ordering.{nat_cmp}
use Rattle.std.specs.FinMap.{FinMap}
use Rattle.file_tree.specs.Tree.{Tree}
use Rattle.drafts.specs.Fates.{seen_with}
use Rattle.drafts.specs.declared.change.Change.{Change}
use Rattle.drafts.specs.declared.fate.Fate.{Fate}
use Rattle.gfs2_layout.specs.Groups.{IsStatePut, bitmap_of}
use Rattle.gfs2_layout.specs.States.{AreStatesPut, places_in}
use Rattle.gfs2_layout.specs.declared.rindex.Rindex.{Rindex}
use Rattle.gfs2_layout.proofs.StatePuts.{map_same}
use Rattle.glock_names.specs.Views.{Seen, HasGroup, IsView, group_of_entry}
use Rattle.glock_names.specs.declared.views.Group.{Group}
use Rattle.resource_groups.specs.Putting.{overlaid}
use Rattle.resource_groups.specs.Shown as group
use Rattle.resource_groups.proofs.Apart.{one_header}
use Rattle.resource_groups.proofs.PutIn.{puts_say}
use Rattle.resource_groups.proofs.Sets.{long_bitmap, only_has}
use Rattle.image_model.specs.Groups.{IsGroup, IsListed, group_blocks, state_of, states_of}
use Rattle.image_model.specs.Image.{Image}
use Rattle.image_model.specs.Owners.{Below, Owner, Owners, Root}
use Rattle.image_model.specs.Stands.{Layout}
use Rattle.image_model.proofs.Members.{contained, is_in}
use Rattle.image_changes.specs.Does.{IsOf}
use Rattle.image_changes.specs.Drafted.{with_draft}
use Rattle.image_changes.specs.Instances.{among}
use Rattle.image_changes.proofs.Nodes.{among_in, in_among}
use Rattle.image_changes.proofs.States.{blocks_are_set, other_generation}
use Rattle.draft_changes.specs.Groups.{PutsGroup}
use Rattle.draft_changes.specs.Removing.{HasSome}
use Rattle.draft_changes.proofs.Views.{groups_are_listed, shows_blocks}
use Rattle.directory_changes.specs.Growing.{states_made}
use Rattle.name_drafts.specs.Drafting.{SaysMade}
use Rattle.name_drafts.specs.Steps.{IsSaidAndDone}
use Rattle.name_drafts.specs.declared.drafting.NewBlock.{NewBlock}
use Rattle.name_drafts.proofs.Faults.{own_header}

-- states that are put leave the bitmap as long as it is
long_put : (old new : List (List ℕ)) (i state : ℕ) → IsStatePut old new i state → length (bitmap_of new) ≡ length (bitmap_of old)
long_put old new i state put = ap length put.bits ∙ simp length-set

long_puts : (old new : List (List ℕ)) (places : List ℕ) (state : ℕ) → AreStatesPut old new places state → length (bitmap_of new) ≡ length (bitmap_of old)
long_puts old new [] state are = ap (λ blocks. length (bitmap_of blocks)) are
long_puts old new (i ∷ places) state are = long_puts are.0 new places state are.2 ∙ long_put old are.0 i state are.1

not_among : (xs : List ℕ) (b : ℕ) → ¬ (Contains xs b) → among xs b ≡ false
not_among xs b other = elim (cases_Bool (among xs b)) [ inl e ↦ absurd (other (contained b xs (among_in xs b e))) | inr e ↦ e ]

module _ (v : Seen) (im : Image) (o : Owners) (l : Layout) (t : Tree) (of : IsOf v im o l t) (view : IsView v) (r : NewBlock) (has_r : HasGroup v r.group) (taken : List ℕ) (before : FinMap nat_cmp Fate) (change : Change)
    (said : IsSaidAndDone v before r taken change) (apart : ¬ (Contains taken r.block)) where
  abbrev last : FinMap nat_cmp Fate
  last = said.fates

  abbrev a : ℕ
  a = r.block

  -- the table with the dinode, and that with all
  abbrev with_dinode : Owners
  with_dinode b = if b == a then Root else o b

  abbrev with_all : Owners
  with_all b = if b == a then Root else (if among taken b then Below 0 0 0 0 0 else o b)

  pub has_group : (k : Rindex) → IsListed l.groups k → HasGroup v (group_of_entry k)
  has_group k listed = (groups_are_listed v im o l t (group_of_entry k) of).1 (k, listed, refl)

  whole : (k : Rindex) → IsListed l.groups k → group.IsShown v (group_of_entry k) im.at
  whole k listed = record {
    whole = λ b h. of.stands.laid.image.whole b (omega (arith, h.high, (of.stands.laid.fit.each k listed).first, (of.stands.laid.fit.each k listed).inside)) ∙ of.size;
    same = λ b bytes h e. of.agrees b bytes e;
  }

  abbrev image_at : (ℕ → List ℕ) → Image
  image_at at = record { size = im.size; count = im.count; at = at }

  module _ (k : Rindex) (listed : IsListed l.groups k) where
    abbrev K : Group
    K = group_of_entry k

    made : SaysMade im.at (overlaid (seen_with v last) im.at) r taken K said.number
    made = said.says im.at K (has_group k listed) (whole k listed)

    long_first : k.data_blocks ≤ 4 * length (bitmap_of (group_blocks im.at k))
    long_first = long_bitmap v im.at K view (has_group k listed) (whole k listed)

    -- with the number it says what it said
    numbered : IsGroup k (group_blocks made.first k) (states_of o k) × (bitmap_of (group_blocks made.first k) ≡ bitmap_of (group_blocks im.at k))
    numbered = elim (cases_eq K.addr r.group.addr) [
      | inl same ↦
          let is = made.numbered.0 (one_header v view K r.group (has_group k listed) has_r K.addr (own_header v K view (has_group k listed))
          (subst (group.IsHeaderOf r.group) (sym same) (own_header v r.group view has_r))) in
          (other_generation k (group_blocks im.at k) (group_blocks made.first k) (states_of o k) said.number (of.stands.laid.groups k listed) is.kind is.more is.header is.bits, is.bits)
      | inr other ↦
          let same : group_blocks made.first k ≡ group_blocks im.at k =
          map_same made.first im.at k.address k.length (λ b low high. made.numbered.1 (λ e. other (ap (λ (x : Group). x.addr) e)) b (record { low = low; high = high })) in
          (subst (λ blocks. IsGroup k blocks (states_of o k)) (sym same) (of.stands.laid.groups k listed), ap bitmap_of same)
    ]

    long_mid : k.data_blocks ≤ 4 * length (bitmap_of (group_blocks made.first k))
    long_mid = subst (λ bits. k.data_blocks ≤ 4 * length bits) (sym numbered.1) long_first

    one_put : AreStatesPut (group_blocks made.first k) (group_blocks made.second k) (places_in k.data0 k.data_blocks (a ∷ [])) 3
    one_put = puts_say made.first made.second K (a ∷ []) 3 (made.second, made.said, λ c own. refl)

    -- and of the new block that it is a dinode
    dinode_said : IsGroup k (group_blocks made.second k) (states_of with_dinode k)
    dinode_said = blocks_are_set (image_at made.first) (image_at made.second) o with_dinode k (a ∷ []) 3 (omega arith) long_mid
        (λ b own there. ap state_of (cond-true _ Root (o b) (eq-eqb b a (only_has a b there))))
        (λ b own other. ap state_of (cond-false _ Root (o b) (ne_eqb b a (λ e. other (0, omega arith, sym e)))))
        one_put numbered.0

    long_second : k.data_blocks ≤ 4 * length (bitmap_of (group_blocks made.second k))
    long_second = subst (λ n. k.data_blocks ≤ 4 * n) (sym (long_puts (group_blocks made.first k) (group_blocks made.second k) (places_in k.data0 k.data_blocks (a ∷ [])) 3 one_put)) long_mid

    -- and of the others that they are in use
    all_said : IsGroup k (group_blocks (overlaid (seen_with v last) im.at) k) (states_of with_all k)
    all_said = blocks_are_set (image_at made.second) (image_at (overlaid (seen_with v last) im.at)) with_dinode with_all k taken 1 (omega arith) long_second
        (λ b own there. ap state_of (cond-false _ Root _ (ne_eqb b a (λ e. apart (subst (Contains taken) e there))) ∙ cond-true _ (Below 0 0 0 0 0) (o b) (in_among taken b (is_in b taken there))))
        (λ b own other. ap state_of (kept b (not_among taken b other)))
        (puts_say made.second (overlaid (seen_with v last) im.at) K taken 1 made.takes) dinode_said
      where
        kept : (b : ℕ) → among taken b ≡ false → with_all b ≡ with_dinode b
        kept b e = ap (λ (x : Owner). if b == a then Root else x) (cond-false _ (Below 0 0 0 0 0) (o b) e)

    same_states : states_of with_all k ≡ states_made o a taken k
    same_states = map_same (λ b. state_of (with_all b)) (λ b. if b == a then 3 else if among taken b then 1 else state_of (o b)) k.data0 k.data_blocks (λ b low high. by b (b == a) (among taken b))
      where
        by : (b : ℕ) (x y : Bool) → state_of (if x then Root else (if y then Below 0 0 0 0 0 else o b)) ≡ (if x then 3 else if y then 1 else state_of (o b))
        by b true y = refl
        by b false true = refl
        by b false false = refl

    says : IsGroup k (group_blocks (with_draft im last).at k) (states_made o a taken k)
    says = subst (λ at. IsGroup k (group_blocks at k) (states_made o a taken k)) (shows_blocks v last im of.agrees)
        (subst (IsGroup k (group_blocks (overlaid (seen_with v last) im.at) k)) same_states all_said)

  pub states : (k : Rindex) → IsListed l.groups k → HasSome k (a ∷ taken) → PutsGroup im last k (states_made o a taken k)
  states k listed some = record {
    says = says k listed;
    some = (
      k.address,
      record { low = omega arith; high = omega (arith, (of.stands.laid.fit.each k listed).some) },
      said.counts (group_of_entry k) (has_group k listed) (some.0, some.1, record { low = some.2.low; high = some.2.high }),
    );
    blocks = λ b h. said.headers (group_of_entry k) b (has_group k listed) (record { low = h.low; high = h.high });
  }
