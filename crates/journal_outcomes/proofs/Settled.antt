-- What a fence and a barrier leave of the image on a disk.
use Rattle.std.proofs.Common.{◌≡◌, ◌≢◌, ℕ, List, [], ◌∷◌, length, map, None, Some, refl, sym, ap, ◌∙◌, inl, inr}
use Rattle.std.specs.Prelude.{◌==◌, IsTrue, unwrap_or}
use Rattle.std.specs.List.{AllByRecursion}
use Rattle.std.proofs.lemmas.Bool.{cases_Bool, cond-true, cond-false, eq-eqb, ne_eqb}
use Rattle.gfs2_layout.specs.Inode.{content_block}
use Rattle.image_model.specs.Claims.{every}
use Rattle.image_model.specs.Image.{image_of}
use Rattle.log_layout.specs.Journal.{accepted}
use Rattle.shared_disk.specs.Disk.{DiskState, Flight, after_barrier, flight_to, settled, with_value, written}
use Rattle.journal_outcomes.specs.Disks.{BarriersLeaveAll, FencesLeaveOutcomes, flown_by}
use Rattle.journal_outcomes.proofs.Heads.{none_is}

-- a value at another place
at_other : {A : Type 0} (f : ℕ → A) (node : ℕ) (value : A) (other : ℕ) → other ≢ node → with_value f node value other ≡ f other
at_other f node value other off = cond-false _ value (f other) (ne_eqb other node off)

at_own : {A : Type 0} (f : ℕ → A) (node : ℕ) (value : A) → with_value f node value node ≡ value
at_own f node value = cond-true _ value (f node) (eq-eqb node node refl)

-- ---- writes to the same blocks

abbrev to_blocks : List Flight → List ℕ
to_blocks fs = map (λ (f : Flight). f.block) fs

first_block : (f g : Flight) (fs gs : List Flight) → to_blocks (f ∷ fs) ≡ to_blocks (g ∷ gs) → f.block ≡ g.block
first_block f g fs gs same = cc

later_blocks : (f g : Flight) (fs gs : List Flight) → to_blocks (f ∷ fs) ≡ to_blocks (g ∷ gs) → to_blocks fs ≡ to_blocks gs
later_blocks f g fs gs same = cc

none_there : (fs gs : List Flight) → to_blocks fs ≡ to_blocks gs → (b : ℕ) → flight_to gs b ≡ None → flight_to fs b ≡ None
none_there [] gs same b none = refl
none_there (f ∷ fs) [] same b none = absurd cc
none_there (f ∷ fs) (g ∷ gs) same b none = elim (cases_Bool (g.block == b)) [
  | inl is ↦ absurd (none_is (sym none ∙ cond-true _ (Some g.bytes) (flight_to gs b) is))
  | inr off ↦
      cond-false _ (Some f.bytes) (flight_to fs b) (ap (λ n. n == b) (first_block f g fs gs same) ∙ off)
      ∙ none_there fs gs (later_blocks f g fs gs same) b (sym (cond-false _ (Some g.bytes) (flight_to gs b) off) ∙ none)
]

some_there : (size : ℕ) (fs gs : List Flight) → to_blocks fs ≡ to_blocks gs → AllByRecursion (λ (f : Flight). length f.bytes ≡ size) fs → (b : ℕ) (bytes : List ℕ) → flight_to gs b ≡ Some bytes
    → (now : List ℕ) × (flight_to fs b ≡ Some now) × (length now ≡ size)
some_there size fs [] same sizes b bytes is = absurd (none_is is)
some_there size [] (g ∷ gs) same sizes b bytes is = absurd cc
some_there size (f ∷ fs) (g ∷ gs) same sizes b bytes is = elim (cases_Bool (g.block == b)) [
  | inl at ↦ (f.bytes, cond-true _ (Some f.bytes) (flight_to fs b) (ap (λ n. n == b) (first_block f g fs gs same) ∙ at), sizes.0)
  | inr off ↦
      let more = some_there size fs gs (later_blocks f g fs gs same) sizes.1 b bytes (sym (cond-false _ (Some g.bytes) (flight_to gs b) off) ∙ is) in
      (more.0, cond-false _ (Some f.bytes) (flight_to fs b) (ap (λ n. n == b) (first_block f g fs gs same) ∙ off) ∙ more.1, more.2)
]

-- ---- the image that is left

module _ (s : DiskState) (node : ℕ) (became : List Flight) (tells : IsTrue s.tells) (same : to_blocks became ≡ to_blocks (s.in_flight node)) (sizes : AllByRecursion (λ (f : Flight). length f.bytes ≡ s.size) became) where
  settled_is : (b : ℕ) → settled s became b ≡ written s.block_at became b
  settled_is b = cond-true s.tells (written s.block_at became b) (s.block_at b) tells

  left_still : (b : ℕ) → flown_by s node b ≡ None → settled s became b ≡ s.block_at b
  left_still b none = settled_is b ∙ ap (λ o. unwrap_or o (s.block_at b)) (none_there became (s.in_flight node) same b none)

  left_whole : (b : ℕ) (bytes : List ℕ) → flown_by s node b ≡ Some bytes → length (settled s became b) ≡ s.size
  left_whole b bytes flies =
      let now = some_there s.size became (s.in_flight node) same sizes b bytes flies in
      ap length (settled_is b ∙ ap (λ o. unwrap_or o (s.block_at b)) now.1) ∙ now.2

pub fences_leave_outcomes : FencesLeaveOutcomes
fences_leave_outcomes s node became tells is = record {
  outcome = record { size = refl; count = refl; still = left_still s node became tells is.places is.sizes; whole = left_whole s node became tells is.places is.sizes };
  settled = record { none = at_own s.in_flight node []; others = λ other off. at_other s.in_flight node [] other off };
}

pub barriers_leave_all : BarriersLeaveAll
barriers_leave_all s node tells sound = record {
  outcome = record { size = refl; count = refl; still = left_still s node (s.in_flight node) tells refl sizes; whole = left_whole s node (s.in_flight node) tells refl sizes };
  new = new;
  true_headers = λ l j d p bytes at low flies h is. inr (h, ap (accepted p) (sym (new (content_block (every (image_of s) d) p) bytes flies)) ∙ is, record { front = refl; later = λ fields e. e });
  settled = record { none = at_own s.in_flight node []; others = λ other off. at_other s.in_flight node [] other off };
}
  where
    sizes : AllByRecursion (λ (f : Flight). length f.bytes ≡ s.size) (s.in_flight node)
    sizes = (sound.flights node).sizes

    new : (b : ℕ) (bytes : List ℕ) → flown_by s node b ≡ Some bytes → (after_barrier s node).block_at b ≡ bytes
    new b bytes flies = settled_is s node (s.in_flight node) tells refl sizes b ∙ ap (λ o. unwrap_or o (s.block_at b)) flies
