-- One state put at several blocks in the blocks of a group, one after another.
use Rattle.std.proofs.Common.{◌≡◌, ◌⊎◌, inl, inr, ℕ, ◌+◌, ◌-◌, ◌<◌, ◌≤◌, List, [], ◌∷◌, ◌++◌, length, take, refl, sym, ap, ◌∙◌, subst, arith}
use Rattle.std.specs.Prelude.{◌≢◌}
use Rattle.gfs2_layout.specs.Groups.{IsStatePut}
use Rattle.gfs2_layout.specs.States.{AreStatesPut, places_in}
use Rattle.gfs2_layout.proofs.StatePuts.{map_same, places_with, places_without, cases_among}
use Rattle.glock_names.specs.declared.views.Group.{Group}
use Rattle.resource_groups.specs.Shown.{IsHeaderOf, IsDataOf, blocks_of}
use Rattle.resource_groups.specs.Putting.{AreSameIn, ArePutIn, IsPutIn, IsPutIfOwn}

pub blocks_same : (at at' : ℕ → List ℕ) (g : Group) → AreSameIn at at' g → blocks_of at' g ≡ blocks_of at g
blocks_same at at' g each = map_same at' at g.addr g.length (λ c low high. each c (record { low = low; high = high }))

pub cases_data : (g : Group) (b : ℕ) → IsDataOf g b ⊎ ((b < g.first) ⊎ (g.first + g.count ≤ b))
cases_data g b = elim (cases_among g.first g.count b) [
  | inl (low, high) ↦ inl (record { low = low; high = high })
  | inr out ↦ inr out
]

pub not_data : (g : Group) (b : ℕ) → (b < g.first) ⊎ (g.first + g.count ≤ b) → ¬ (IsDataOf g b)
not_data g b (inl before) own = omega (arith, before, own.low)
not_data g b (inr behind) own = omega (arith, behind, own.high)

-- ---- from blocks that hold the same, and to such

same_then : (at mid at' : ℕ → List ℕ) (g : Group) → AreSameIn at mid g → AreSameIn mid at' g → AreSameIn at at' g
same_then at mid at' g first second c own = second c own ∙ first c own

put_from : (at mid at' : ℕ → List ℕ) (g : Group) (b state : ℕ) → 0 < g.length → AreSameIn at mid g → IsPutIn mid at' g b state → IsPutIn at at' g b state
put_from at mid at' g b state some same put = record {
  put = subst (λ old. IsStatePut old (blocks_of at' g) (b - g.first) state) (blocks_same at mid g same) put.put;
  under = put.under;
  old_header = put.old_header ∙ ap (take 128) (same g.addr (record { low = omega arith; high = omega (arith, some) }));
  header = put.header;
  others = λ c own apart. put.others c own apart ∙ ap (take 24) (same c own);
}

puts_from : (at mid at' : ℕ → List ℕ) (g : Group) (blocks : List ℕ) (state : ℕ) → 0 < g.length → AreSameIn at mid g → ArePutIn mid at' g blocks state → ArePutIn at at' g blocks state
puts_from at mid at' g [] state some same puts = same_then at mid at' g same puts
puts_from at mid at' g (b ∷ blocks) state some same (next, put, more) = (
  next,
  record { own = λ own. put_from at mid next g b state some same (put.own own); other = λ out. same_then at mid next g same (put.other out) },
  more,
)

pub puts_to : (at mid at' : ℕ → List ℕ) (g : Group) (blocks : List ℕ) (state : ℕ) → ArePutIn at mid g blocks state → AreSameIn mid at' g → ArePutIn at at' g blocks state
puts_to at mid at' g [] state puts same = same_then at mid at' g puts same
puts_to at mid at' g (b ∷ blocks) state (next, put, more) same = (next, put, puts_to next mid at' g blocks state more same)

-- ---- one list of blocks after another

pub puts_join : (at mid at' : ℕ → List ℕ) (g : Group) (xs ys : List ℕ) (state : ℕ) → 0 < g.length → ArePutIn at mid g xs state → ArePutIn mid at' g ys state → ArePutIn at at' g (xs ++ ys) state
puts_join at mid at' g [] ys state some first second = puts_from at mid at' g ys state some first second
puts_join at mid at' g (x ∷ xs) ys state some (next, put, more) second = (next, put, puts_join next mid at' g xs ys state some more second)

-- ---- what the group's blocks say then

pub puts_say : (at at' : ℕ → List ℕ) (g : Group) (blocks : List ℕ) (state : ℕ) → ArePutIn at at' g blocks state
    → AreStatesPut (blocks_of at g) (blocks_of at' g) (places_in g.first g.count blocks) state
puts_say at at' g [] state same = blocks_same at at' g same
puts_say at at' g (b ∷ blocks) state (next, put, more) = elim (cases_data g b) [
  | inl own ↦
      subst (λ places. AreStatesPut (blocks_of at g) (blocks_of at' g) places state) (sym (places_with g.first g.count b blocks own.low own.high))
      (blocks_of next g, (put.own own).put, puts_say next at' g blocks state more)
  | inr out ↦
      subst (λ places. AreStatesPut (blocks_of at g) (blocks_of at' g) places state) (sym (places_without g.first g.count b blocks out))
      (subst (λ old. AreStatesPut old (blocks_of at' g) (places_in g.first g.count blocks) state) (blocks_same at next g (put.other (not_data g b out))) (puts_say next at' g blocks state more))
]
