-- A step of a flush that was carried out is one of the node's steps, and the flush goes on, or is in the journal.
use Rattle.std.proofs.Common.{◌≡◌, ◌≤◌, ℕ, List, [], ◌∷◌, ◌++◌, length, Option, Some, refl, sym, ap, subst, subst₂, ◌∙◌, arith}
use Rattle.std.proofs.lemmas.List.{append_assoc}
use Rattle.log_layout.specs.Transactions.{after}
use Rattle.log_rings.specs.Laws.{HasNumbers}
use Rattle.log_values.specs.Flushing.{FlushStep, a_barrier, flush_chunks, the_last}
use Rattle.log_values.specs.Log.{Flush, LogValue, Stage}
use Rattle.log_values.specs.Log.Stage.{Headed, Writing}
use Rattle.log_values.specs.declared.steps.LogStep.{LogStep}
use Rattle.log_values.specs.declared.steps.LogStep.TheVariants as step
use Rattle.shared_disk.specs.Disk.{Operation, after_barrier}
use Rattle.trace_text.specs.declared.item.TraceItem.{TraceItem}
use Rattle.trace_text.specs.declared.item.TraceItem.TheVariants as trace
use Rattle.logged_steps.specs.Points.{Anything, ItsCommit, Next, Point}
use Rattle.logged_steps.specs.Steps.{Commits, EndsBlocks, EndsFlush, Here, Steps, Then, WritesHead, WritesLog, with_barrier}
use Rattle.logged_node.specs.Flushing.{HasBlocks, IsCarried, MayCarry, TellsHead, how_many_fly}
use Rattle.logged_node.specs.Flushing as carried
use Rattle.logged_node.proofs.Blocks.{none_some}
use Rattle.logged_node.proofs.Disks.{flies_some}

-- ---- the steps

module _ (p q : Point) (f : Flush) (new : LogValue) (bytes : List ℕ) (is : p.log.flush ≡ Some f) (numbers : HasNumbers p.log f) (whole : length bytes ≡ p.disk.size) (told : TellsHead p.items p.numbers.begun (after p.log.sequence) f.stage) (free : p.next ≡ Anything)
    (many : length (p.disk.in_flight 1) ≡ how_many_fly f.stage) (some_blocks : HasBlocks p.log f f.stage) where
  abbrev mid : Point
  mid = record p { log = new }

  -- there is something in flight at each barrier: the blocks, or the header
  blocks_fly : f.stage ≡ Writing (length (flush_chunks p.log f)) → 1 ≤ length (p.disk.in_flight 1)
  blocks_fly stage = (let so = subst (λ (x : Stage). length (p.disk.in_flight 1) ≡ how_many_fly x) stage many in let some = subst (HasBlocks p.log f) stage some_blocks in omega (arith, so, some))

  head_flies : (tail : ℕ) → f.stage ≡ Headed tail → 1 ≤ length (p.disk.in_flight 1)
  head_flies tail stage = (let so = subst (λ (x : Stage). length (p.disk.in_flight 1) ≡ how_many_fly x) stage many in omega (arith, so))

  -- the point behind the last barrier, but for its items
  abbrev ended : Option (List Operation) → Point
  ended l = record p { disk = after_barrier p.disk 1; list = l; log = new; numbers = record p.numbers { low = p.numbers.begun }; next = ItsCommit }

  pub steps_by : (s : LogStep) → MayCarry p.disk s → FlushStep p.log new f bytes s → IsCarried bytes mid q s → (time : ℕ) → Steps time p q
  steps_by _ may made (carried.a_block b list gains q_is) time =
      subst (Steps time p) (sym q_is) (Then p _ Here (WritesLog new f b bytes list is numbers made (record { inside = may.0; whole = whole; free = may.1 }) gains))
  steps_by _ may made (carried.a_header b sequence list gains q_is) time =
      subst (Steps time p) (sym q_is) (Then p _ Here (WritesHead new f b sequence bytes list is numbers made (record { inside = may.0; whole = whole; free = may.1 }) gains))
  steps_by _ may made (carried.a_barrier list some gains q_is) time = subst (Steps time p) (sym q_is) (by made)
    where
      by : FlushStep p.log new f bytes step.Barrier → Steps time p (with_barrier p list new)
      by (a_barrier stage new_is live) = Then p _ Here (EndsBlocks new f (length (flush_chunks p.log f)) bytes list is stage made (flies_some (p.disk.in_flight 1) (blocks_fly stage)) gains)
      by (the_last tail stage new_is live) = absurd (some (ap (λ (l : LogValue). l.flush) new_is))
  steps_by _ may made (carried.the_last list none gains q_is) time = subst (Steps time p) (sym q_is) (by made)
    where
      by : FlushStep p.log new f bytes step.Barrier
          → Steps time p (record (with_barrier p list new) { numbers = record p.numbers { low = p.numbers.begun }; items = p.items ++ (trace.Barrier 1 ∷ trace.Commit 1 new.sequence p.numbers.begun ∷ []) })
      by (a_barrier stage new_is live) = absurd (none_some (sym none ∙ ap (λ (l : LogValue). l.flush) new_is))
      by (the_last tail stage new_is live) =
          let head = subst (TellsHead p.items p.numbers.begun (after p.log.sequence)) stage told in
          let sequence : new.sequence ≡ after p.log.sequence = ap (λ (l : LogValue). l.sequence) new_is in
          subst₂ (λ (items : List TraceItem) (next : Next). Steps time p (record (ended list) { items = items; next = next })) (append_assoc p.items (trace.Barrier 1 ∷ []) (trace.Commit 1 new.sequence p.numbers.begun ∷ [])) (sym free)
          (Then _ _ (Then p _ Here (EndsFlush new f tail bytes list is numbers stage made (flies_some (p.disk.in_flight 1) (head_flies tail stage)) gains))
          (Commits head.0 refl (
            head.1,
            ap (λ (items : List TraceItem). items ++ trace.Barrier 1 ∷ []) head.2
                ∙ append_assoc head.1 (trace.WriteHead 1 head.0 (after p.log.sequence) p.numbers.begun ∷ []) (trace.Barrier 1 ∷ [])
                ∙ ap (λ (n : ℕ). head.1 ++ (trace.WriteHead 1 head.0 n p.numbers.begun ∷ trace.Barrier 1 ∷ [])) (sym sequence),
          )))
