-- Why a journal isn't replayed, from why it has no plan and from what its marks say.
use Rattle.std.proofs.Common.{◌≡◌, ◌<◌, length, ◌≤◌, ℕ, true, false, List, [], ◌∷◌, Some, get_or, sym, ap, ◌∙◌, inl, inr, arith}
use Rattle.std.specs.Prelude.{◌==◌, ◌||◌, find}
use Rattle.std.specs.Option.{option_map}
use Rattle.std.proofs.lemmas.Bool.{cases_Bool, cond-true, cond-false}
use Rattle.drafts.specs.declared.change.Written.{Written}
use Rattle.journal_plans.specs.Plans.{IfBadChunk, IsPlanOf, IsWhyNot, bytes_put}
use Rattle.journal_plans.specs.Plans as planned
use Rattle.journal_plans.specs.declared.faults.PlanFault.{PlanFault}
use Rattle.journal_plans.specs.declared.faults.PlanFault.TheVariants as plan
use Rattle.journal_scan.specs.Numbers.{IsNumberAt}
use Rattle.journal_scan.specs.Said.{logged}
use Rattle.log_layout.specs.Chunks.{Logged}
use Rattle.log_layout.specs.Journal.{Ring}
use Rattle.log_layout.specs.Live.{live_in}
use Rattle.peer_replay.specs.declared.planned.Plan.{Plan}
use Rattle.replay_marks.specs.Marking.{has_block, mark_of}
use Rattle.replay_marks.specs.declared.marks.Mark.{Mark}
use Rattle.replay_marks.specs.declared.marks.Mark.TheVariants.{Live}
use Rattle.replay_looks.specs.Looks.{Breaks, HasCause, IsHindered, IsStopped, alone, bad_chunk, by_live, headless, stray, twice, told_of}
use Rattle.replay_looks.specs.declared.faults.LookFault.{LookFault}
use Rattle.replay_looks.specs.declared.faults.LookFault.TheVariants.{Damaged, DiskFailed, NoMemory}

pub stopped_told : (ring : Ring) (dinode : ℕ) (blocks : List ℕ) (marks : List Mark) (fault : PlanFault) → IfBadChunk (λ place. place < length blocks) fault → IsWhyNot ring fault → IsStopped ring dinode blocks marks (told_of dinode blocks fault)
stopped_told ring dinode blocks marks (plan.DiskFailed block rise) low is = tt
stopped_told ring dinode blocks marks plan.NoHeader low is = alone 16 dinode (headless is)
stopped_told ring dinode blocks marks (plan.BadChunk place) low is = alone 17 (get_or blocks place 0) (bad_chunk is.0 place is.1 is.2 low)
stopped_told ring dinode blocks marks plan.NoMemory low is = tt

pub cause_told : (blocks : List ℕ) (before now dinode : ℕ) (fault : PlanFault) → planned.HasCause blocks before now fault → HasCause blocks before now (told_of dinode blocks fault)
cause_told blocks before now dinode (plan.DiskFailed block rise) is = is
cause_told blocks before now dinode plan.NoHeader is = tt
cause_told blocks before now dinode (plan.BadChunk place) is = tt
cause_told blocks before now dinode plan.NoMemory is = tt

pub cause_from : (blocks : List ℕ) (first before now : ℕ) (fault : LookFault) → first ≤ before → HasCause blocks before now fault → HasCause blocks first now fault
cause_from blocks first before now (DiskFailed block rise) later is = (record { from = let low : before ≤ rise.before = is.0.from in omega (arith, later, low); rose = is.0.rose; to = is.0.to }, is.1)
cause_from blocks first before now (Damaged block rule) later is = tt
cause_from blocks first before now NoMemory later is = tt

-- a block that goes home is live
home_has : (ws : List Written) (b : ℕ) → has_block ws b ≡ true → (w : Written) × (find (λ (v : Written). v.block == b) ws ≡ Some w)
home_has [] b is = absurd (let e : false ≡ true = is in cc)
home_has (w ∷ ws) b is = elim (cases_Bool (w.block == b)) [
  | inl same ↦ (w, cond-true (w.block == b) (Some w) (find (λ (v : Written). v.block == b) ws) same)
  | inr other ↦
      let rest = home_has ws b (ap (λ t. t || has_block ws b) (sym other) ∙ is) in
      (rest.0, cond-false (w.block == b) (Some w) (find (λ (v : Written). v.block == b) ws) other ∙ rest.1)
]

pub home_is_live : (ring : Ring) (p : Plan) → IsPlanOf ring p → (b : ℕ) → has_block p.home.items b ≡ true → (bytes : List ℕ) × (live_in ring b ≡ Some bytes)
home_is_live ring p of b is =
    let w = home_has p.home.items b is in
    (w.0.bytes, sym (of.live b) ∙ ap (option_map (λ (e : Logged). e.bytes)) (ap (option_map logged) w.1))

pub stopped_twice : (ring : Ring) (dinode : ℕ) (blocks : List ℕ) (marks : List Mark) (p : Plan) (b : ℕ) → IsPlanOf ring p → has_block p.home.items b ≡ true → mark_of marks b ≡ Live → Breaks ring dinode blocks marks 20 b
stopped_twice ring dinode blocks marks p b of is live = let bytes = home_is_live ring p of b is in by_live 20 b (twice b bytes.0 bytes.1 live)

pub hindered_stray : (ring : Ring) (dinode : ℕ) (blocks : List ℕ) (number place : ℕ) (bytes : List ℕ) → live_in ring number ≡ Some bytes → IsNumberAt ring number place
    → IsHindered ring dinode blocks number (Damaged (get_or blocks place 0) 2)
hindered_stray ring dinode blocks number place bytes live at marks barred = by_live 2 (get_or blocks place 0) (stray number place bytes live barred at)
