-- With which block a failing disk is told, as journals are read.
use Rattle.std.proofs.Common.{◌≡◌, ◌<◌, ◌≤◌, ℕ, zero, suc, false, true, List, [], ◌∷◌, Some, Ok, Err, refl, sym, subst, arith}
use Rattle.std.specs.Prelude.{Contains, IfErr, Result, nat_lt, slice_get}
use Rattle.std.specs.List.{list_all}
use Rattle.std.proofs.lemmas.List.{get_or_default}
use Rattle.image_mount.specs.Mounted.{Journal}
use Rattle.image_replays.specs.Replays.{HasCause, IsReadPlace}
use Rattle.image_replays.proofs.Lists.{inside_each, none_some, some_is}
use Rattle.replay_looks.specs.Looks as looks
use Rattle.replay_looks.specs.declared.faults.LookFault.{LookFault}
use Rattle.replay_looks.specs.declared.faults.LookFault.TheVariants.{Damaged, DiskFailed, NoMemory}

-- one of a list of blocks of the device is one of them
contained_low : (blocks : List ℕ) (count b : ℕ) → list_all (λ c. nat_lt c count) blocks ≡ true → Contains blocks b → b < count
contained_low blocks count b inside has =
    subst (λ c. c < count) has.2 (subst (λ c. c < count) (get_or_default blocks has.0 0 b has.1) (inside_each blocks count inside has.0 has.1))

-- one of the blocks of a journal that was read
pub cause_of_one : {A : Type 0} (x : Journal) (blocks : List ℕ) (count before now : ℕ) (r : Result A LookFault) → blocks ≡ x.blocks → x.head.clean ≡ false → list_all (λ b. nat_lt b count) x.blocks ≡ true
    → IfErr r (looks.HasCause blocks before now) → IfErr r (HasCause (x ∷ []) count before now)
cause_of_one x blocks count before now (Ok plan) is unclean inside cause = tt
cause_of_one x blocks count before now (Err (DiskFailed block rise)) is unclean inside cause =
    let has = subst (λ bs. Contains bs block) is cause.1 in
    (cause.0, contained_low x.blocks count block inside has, record { index = 0; journal = x; at = refl; unclean = unclean; is = has })
cause_of_one x blocks count before now (Err (Damaged block rule)) is unclean inside cause = tt
cause_of_one x blocks count before now (Err NoMemory) is unclean inside cause = tt

-- a place of one of these journals
place_among : (journals : List Journal) (i : ℕ) (x : Journal) (block : ℕ) → slice_get journals i ≡ Some x → IsReadPlace (x ∷ []) block → IsReadPlace journals block
place_among journals i x block at place = by place.index place.at
  where
    by : (k : ℕ) → slice_get (x ∷ []) k ≡ Some place.journal → IsReadPlace journals block
    by zero here = record { index = i; journal = x; at = at; unclean = subst (λ (y : Journal). y.head.clean ≡ false) (sym (some_is here)) place.unclean; is = subst (λ (y : Journal). Contains y.blocks block) (sym (some_is here)) place.is }
    by (suc k) here = absurd (none_some place.journal here)

-- it is one of all journals, and the count rose within a longer time too
pub cause_among : (journals : List Journal) (i : ℕ) (x : Journal) (count first before now : ℕ) (f : LookFault) → slice_get journals i ≡ Some x → first ≤ before → HasCause (x ∷ []) count before now f
    → HasCause journals count first now f
cause_among journals i x count first before now (DiskFailed block rise) at earlier cause =
    (record { from = let low : before ≤ rise.before = cause.0.from in omega (arith, earlier, low); rose = cause.0.rose; to = cause.0.to }, cause.1, place_among journals i x block at cause.2)
cause_among journals i x count first before now (Damaged block rule) at earlier cause = tt
cause_among journals i x count first before now NoMemory at earlier cause = tt
