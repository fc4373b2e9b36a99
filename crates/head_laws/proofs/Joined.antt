-- A node that joins while a replay's header of its journal is in flight.
use Rattle.std.proofs.Common.{ℕ, ◌≡◌, true, false, None, Some, refl, subst, inl, inr, List, [], ◌∷◌, arith}
use Rattle.std.specs.Prelude.{codes}
use Rattle.file_tree.specs.declared.call.Call.TheVariants as calls
use Rattle.file_tree.specs.declared.reply.Reply.TheVariants as replies
use Rattle.trace_text.specs.declared.item.TraceItem.{TraceItem}
use Rattle.trace_text.specs.declared.item.TraceItem.TheVariants as trace
use Rattle.run_rules.specs.Lives.{Life, own_from}
use Rattle.head_laws.specs.Journals.{Says, Answers, WritesLog, Begins, Commits, Stops, Ends, IsFenced, Replays, SaysRecovered, Loses, IsRecovered, Joins, Done, Then}
use Rattle.head_laws.specs.Example.{clean, resizes}
use Rattle.head_laws.specs.Joined.{early_disk, JournalIsJoinedEarly}

no-way : {A : Type 0} → false ≡ true → A
no-way e = absurd (let f : false ≡ true = e in cc)

inside : {A : Type 0} {a b : A} → Some a ≡ Some b → a ≡ b
inside e = cc

two : ◌≡◌ {A = ℕ} 2 1 → ⊥
two e = absurd (omega (arith, e))

-- what stands when the slot is recovered
abbrev so_far : List TraceItem
so_far = trace.Join 1 ∷ trace.Join 2 ∷ resizes 1 ∷ trace.WriteLog 1 31 ∷ trace.WriteLog 1 32 ∷ trace.Barrier 1 ∷ trace.WriteHead 1 33 9 1 ∷ trace.Barrier 1 ∷ trace.Commit 1 9 1
    ∷ trace.Crash 1 ∷ trace.Fence 1 ∷ trace.WriteReplay 2 7 ∷ trace.Barrier 2 ∷ trace.Withdraw 2 4 5 ∷ trace.Join 1 ∷ trace.Fence 2 ∷ trace.Recovered 1 1 ∷ trace.Lost 1 1 ∷ []

abbrev second : Life
second = record { node = 1; join = 14 }

its-first : (l : Life) → second ≡ l → early_disk 1 (own_from l so_far) ≡ clean 34 10
its-first l e = subst (λ (k : Life). early_disk 1 (own_from k so_far) ≡ clean 34 10) e refl

pub joined-early : JournalIsJoinedEarly
joined-early = (
  _,
  record { runs = refl; unlost = refl; last = refl; cut = λ d. refl; name = refl; flies = refl; silent = refl },
  Then _ _ _ _ (Then _ _ _ _ (Then _ _ _ _ (Then _ _ _ _ (Then _ _ _ _ (Then _ _ _ _ (Then _ _ _ _ (Then _ _ _ _ (Then _ _ _ _ (
      Then _ _ _ _ (Then _ _ _ _ (Then _ _ _ _ (Then _ _ _ _ (Then _ _ _ _ (Then _ _ _ _ (Then _ _ _ _ (Then _ _ _ _ (Then _ _ _ _ (
      Then _ _ _ _ (Then _ _ _ _ (Then _ _ _ _ (Then _ _ _ _ Done
      (Joins refl (inr refl) (inl refl) refl))
      (Says (trace.Join 2) two))
      (Answers (codes "c") 1 (calls.Truncate (codes "f" ∷ []) 1) replies.Ok refl refl (λ s. no-way s)))
      (WritesLog 31 refl))
      (WritesLog 32 refl))
      (Says (trace.Barrier 1) tt))
      (Begins false 33 1 refl refl refl refl))
      (Says (trace.Barrier 1) tt))
      (Commits 9 1 refl refl refl refl refl refl))
      (Stops (trace.Crash 1) refl refl))
      (IsFenced refl refl (λ f. absurd (let g : None ≡ Some 1 = f in cc)) refl))
      (Says (trace.WriteReplay 2 7) tt))
      (Says (trace.Barrier 2) tt))
      (Replays 2 (clean 34 10) refl (inl refl) refl))
      (Says (trace.Withdraw 2 4 5) two))
      (Joins refl (inl refl) (inr refl) refl))
      (Ends true (λ r. (refl, (λ w. refl)))))
      (Says (trace.Fence 2) two))
      (SaysRecovered 1 refl))
      (Loses 0 1 refl refl (inl refl)))
      (IsRecovered refl refl refl (λ r l is. its-first l (inside is))))
      (Answers (codes "c") 2 calls.Sync replies.Ok refl refl (λ s. no-way s)),
  refl,
  refl,
  refl,
  refl,
)
