-- Along a chain, leaf by leaf.
use Rattle.std.proofs.Common.{◌≡◌, ◌⊎◌, ℕ, ◌+◌, ◌<◌, inl, inr, Bool, true, false, Option, None, Some, sym, ap, ◌∙◌, subst, arith}
use Rattle.gfs2_layout.specs.Area.{slots_of}
use Rattle.gfs2_layout.specs.Holding.{Holding}
use Rattle.gfs2_layout.specs.Inode.{leaf_area}
use Rattle.glock_names.specs.Views.{Seen}
use Rattle.hash_steps.specs.Shown.{IsInChain}
use Rattle.hash_steps.proofs.Along.{chain_one}
use Rattle.hash_steps.specs.Leaves.{has_room_for}
use Rattle.hash_inserts.specs.Walking.{IsRoomBefore, SeesChainBefore, SeesLeaf, first_with}

last_or : (earlier place : ℕ) → earlier < place + 1 → (earlier < place) ⊎ (earlier ≡ place)
last_or earlier place low = grind arith

module _ (h : Holding) (i place link : ℕ) (chain : IsInChain h i place link) where
  -- whether one more leaf has room
  pub room_more : (len : ℕ) (found : Option ℕ) (room : Bool) → room ≡ has_room_for len (slots_of (leaf_area h link)) → IsRoomBefore h i len place found → IsRoomBefore h i len (place + 1) (first_with found room link)
  room_more len (Some x) room is was = record { at = was.at; before = omega (arith, was.before); chain = was.chain; full_before = was.full_before; room = was.room }
  room_more len None true is was = record { at = place; before = omega arith; chain = chain; full_before = was; room = sym is }
  room_more len None false is was = λ earlier x before there. elim (last_or earlier place before) [
    | inl low ↦ was earlier x low there
    | inr top ↦ ap (λ y. has_room_for len (slots_of (leaf_area h y))) (chain_one h i place x link (subst (λ n. IsInChain h i n x) top there) chain) ∙ sym is
  ]

  -- and that it is there
  pub sees_more : (v : Seen) → SeesLeaf v link → SeesChainBefore v h i place → SeesChainBefore v h i (place + 1)
  sees_more v has was earlier x before there = elim (last_or earlier place before) [
    | inl low ↦ was earlier x low there
    | inr top ↦ subst (SeesLeaf v) (chain_one h i place link x chain (subst (λ n. IsInChain h i n x) top there)) has
  ]
