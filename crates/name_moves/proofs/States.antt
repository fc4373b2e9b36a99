-- In an image that the view may be of: what the groups say of a draft that takes blocks and frees others, as the states of their blocks.
use Rattle.std.proofs.Common.{◌≡◌, inl, inr, ℕ, ◌*◌, ◌≤◌, Bool, true, false, List, [], ◌∷◌, ◌++◌, length, refl, sym, ap, ◌∙◌, subst, arith, length-set}
use Rattle.std.proofs.lemmas.Bool.{cases_Bool, cond-true, cond-false}
use Rattle.std.proofs.lemmas.List.Elements.{Contains-append_left, Contains-append_right}
use Rattle.std.specs.Prelude.{Contains, if◌then◌else◌}
use Rattle.std.specs.Ordering.{nat_cmp}
use Rattle.std.specs.FinMap.{FinMap}
use Rattle.file_tree.specs.Tree.{Tree}
use Rattle.drafts.specs.Fates.{seen_with}
use Rattle.drafts.specs.declared.change.Change.{Change}
use Rattle.drafts.specs.declared.fate.Fate.{Fate}
use Rattle.gfs2_layout.specs.Groups.{IsStatePut, bitmap_of}
use Rattle.gfs2_layout.specs.States.{AreStatesPut, places_in}
use Rattle.gfs2_layout.specs.declared.rindex.Rindex.{Rindex}
use Rattle.gfs2_layout.proofs.StatePuts.{map_same}
use Rattle.glock_names.specs.Views.{Seen, HasGroup, IsView, group_of_entry}
use Rattle.glock_names.specs.declared.views.Group.{Group}
use Rattle.resource_groups.specs.Freeing as freeing
use Rattle.resource_groups.specs.Putting.{overlaid}
use Rattle.resource_groups.specs.Shown as group
use Rattle.resource_groups.proofs.PutIn.{puts_say}
use Rattle.resource_groups.proofs.Sets.{long_bitmap}
use Rattle.image_model.specs.Groups.{IsGroup, IsListed, group_blocks, state_of, states_of}
use Rattle.image_model.specs.Image.{Image}
use Rattle.image_model.specs.Owners.{Below, Free, Owners}
use Rattle.image_model.specs.Stands.{Layout}
use Rattle.image_model.proofs.Members.{contained, is_in}
use Rattle.image_changes.specs.Does.{IsOf}
use Rattle.image_changes.specs.Drafted.{with_draft}
use Rattle.image_changes.specs.Instances.{among}
use Rattle.image_changes.proofs.Nodes.{among_in, in_among}
use Rattle.image_changes.proofs.States.{blocks_are_set}
use Rattle.draft_changes.specs.Groups.{PutsGroup}
use Rattle.draft_changes.specs.Resizing.{HasSomeOf, states_with}
use Rattle.draft_changes.proofs.Views.{groups_are_listed, shows_blocks}
use Rattle.name_moves.specs.Moving.{SaysMoved}
use Rattle.name_moves.specs.Steps.{AreSaidAndDone}

-- states that are put leave the bitmap as long as it is
long_put : (old new : List (List ℕ)) (i state : ℕ) → IsStatePut old new i state → length (bitmap_of new) ≡ length (bitmap_of old)
long_put old new i state put = ap length put.bits ∙ simp length-set

long_puts : (old new : List (List ℕ)) (places : List ℕ) (state : ℕ) → AreStatesPut old new places state → length (bitmap_of new) ≡ length (bitmap_of old)
long_puts old new [] state are = ap (λ blocks. length (bitmap_of blocks)) are
long_puts old new (i ∷ places) state are = long_puts are.0 new places state are.2 ∙ long_put old are.0 i state are.1

not_among : (xs : List ℕ) (b : ℕ) → ¬ (Contains xs b) → among xs b ≡ false
not_among xs b other = elim (cases_Bool (among xs b)) [ inl e ↦ absurd (other (contained b xs (among_in xs b e))) | inr e ↦ e ]

module _ (v : Seen) (im : Image) (o : Owners) (l : Layout) (t : Tree) (of : IsOf v im o l t) (view : IsView v) (taken freed : List ℕ) (before : FinMap nat_cmp Fate) (change : Change) (said : AreSaidAndDone v before taken freed change) where
  abbrev last : FinMap nat_cmp Fate
  last = said.fates

  -- the table with the taken blocks, and that with all
  abbrev with_taken : Owners
  with_taken b = if among taken b then Below 0 0 0 0 0 else o b

  abbrev with_all : Owners
  with_all b = if among freed b then Free 0 else (if among taken b then Below 0 0 0 0 0 else o b)

  has_group : (k : Rindex) → IsListed l.groups k → HasGroup v (group_of_entry k)
  has_group k listed = (groups_are_listed v im o l t (group_of_entry k) of).1 (k, listed, refl)

  whole : (k : Rindex) → IsListed l.groups k → group.IsShown v (group_of_entry k) im.at
  whole k listed = record {
    whole = λ b h. of.stands.laid.image.whole b (omega (arith, h.high, (of.stands.laid.fit.each k listed).first, (of.stands.laid.fit.each k listed).inside)) ∙ of.size;
    same = λ b bytes h e. of.agrees b bytes e;
  }

  abbrev image_at : (ℕ → List ℕ) → Image
  image_at at = record { size = im.size; count = im.count; at = at }

  module _ (k : Rindex) (listed : IsListed l.groups k) where
    abbrev K : Group
    K = group_of_entry k

    moved : SaysMoved im.at (overlaid (seen_with v last) im.at) taken freed K
    moved = said.says im.at K (has_group k listed) (whole k listed)

    long_first : k.data_blocks ≤ 4 * length (bitmap_of (group_blocks im.at k))
    long_first = long_bitmap v im.at K view (has_group k listed) (whole k listed)

    taken_put : AreStatesPut (group_blocks im.at k) (group_blocks moved.first k) (places_in k.data0 k.data_blocks taken) 1
    taken_put = puts_say im.at moved.first K taken 1 moved.takes

    -- the taken blocks are in use
    taken_said : IsGroup k (group_blocks moved.first k) (states_of with_taken k)
    taken_said = blocks_are_set im (image_at moved.first) o with_taken k taken 1 (omega arith) long_first
        (λ b own there. ap state_of (cond-true _ (Below 0 0 0 0 0) (o b) (in_among taken b (is_in b taken there))))
        (λ b own other. ap state_of (cond-false _ (Below 0 0 0 0 0) (o b) (not_among taken b other)))
        taken_put (of.stands.laid.groups k listed)

    long_mid : k.data_blocks ≤ 4 * length (bitmap_of (group_blocks moved.first k))
    long_mid = subst (λ n. k.data_blocks ≤ 4 * n) (sym (long_puts (group_blocks im.at k) (group_blocks moved.first k) (places_in k.data0 k.data_blocks taken) 1 taken_put)) long_first

    -- and the others are free
    all_said : IsGroup k (group_blocks (overlaid (seen_with v last) im.at) k) (states_of with_all k)
    all_said = blocks_are_set (image_at moved.first) (image_at (overlaid (seen_with v last) im.at)) with_taken with_all k freed 0 (omega arith) long_mid
        (λ b own there. ap state_of (cond-true _ (Free 0) (with_taken b) (in_among freed b (is_in b freed there))))
        (λ b own other. ap state_of (cond-false _ (Free 0) (with_taken b) (not_among freed b other)))
        (puts_say moved.first (overlaid (seen_with v last) im.at) K freed 0 moved.frees) taken_said

    same_states : states_of with_all k ≡ states_with o taken freed k
    same_states = map_same (λ b. state_of (with_all b)) (λ b. if among freed b then 0 else if among taken b then 1 else state_of (o b)) k.data0 k.data_blocks (λ b low high. by b (among freed b) (among taken b))
      where
        by : (b : ℕ) (x y : Bool) → state_of (if x then Free 0 else (if y then Below 0 0 0 0 0 else o b)) ≡ (if x then 0 else if y then 1 else state_of (o b))
        by b true y = refl
        by b false true = refl
        by b false false = refl

    says : IsGroup k (group_blocks (with_draft im last).at k) (states_with o taken freed k)
    says = subst (λ at. IsGroup k (group_blocks at k) (states_with o taken freed k)) (shows_blocks v last im of.agrees)
        (subst (IsGroup k (group_blocks (overlaid (seen_with v last) im.at) k)) same_states all_said)

    some_of : HasSomeOf k taken freed → freeing.HasSome K (taken ++ freed)
    some_of (inl (b, there, own)) = (b, Contains-append_left taken freed b there, record { low = own.low; high = own.high })
    some_of (inr (b, there, own)) = (b, Contains-append_right taken freed b there, record { low = own.low; high = own.high })

  pub states : (k : Rindex) → IsListed l.groups k → HasSomeOf k taken freed → PutsGroup im last k (states_with o taken freed k)
  states k listed some = record {
    says = says k listed;
    some = (
      k.address,
      record { low = omega arith; high = omega (arith, (of.stands.laid.fit.each k listed).some) },
      said.counts (group_of_entry k) (has_group k listed) (some_of k listed some),
    );
    blocks = λ b h. said.headers (group_of_entry k) b (has_group k listed) (record { low = h.low; high = h.high });
  }
