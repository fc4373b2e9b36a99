-- Two lives of a journal.
use Rattle.std.proofs.Common.{ℕ, ◌≡◌, true, false, None, Some, refl, subst, inl, inr, List, [], ◌∷◌, arith}
use Rattle.std.specs.Prelude.{codes}
use Rattle.file_tree.specs.declared.call.Call.TheVariants as calls
use Rattle.file_tree.specs.declared.reply.Reply.TheVariants as replies
use Rattle.trace_text.specs.declared.item.TraceItem.{TraceItem}
use Rattle.trace_text.specs.declared.item.TraceItem.TheVariants as trace
use Rattle.run_rules.specs.Lives.{Life}
use Rattle.head_laws.specs.Journals.{unnamed_upto, Says, Answers, WritesLog, Begins, Commits, BeginsLast, Stops, Ends, IsFenced, Replays, SaysRecovered, Loses, IsRecovered, Joins, Done, Then}
use Rattle.head_laws.specs.Example.{clean, resizes, JournalCanLive}

no-way : {A : Type 0} → false ≡ true → A
no-way e = absurd (let f : false ≡ true = e in cc)

inside : {A : Type 0} {a b : A} → Some a ≡ Some b → a ≡ b
inside e = cc

two : ◌≡◌ {A = ℕ} 2 1 → ⊥
two e = absurd (omega (arith, e))

-- what stands when the second header begins
abbrev so_far : List TraceItem
so_far = trace.Join 1 ∷ trace.Join 2 ∷ resizes 1 ∷ trace.WriteLog 1 31 ∷ trace.WriteLog 1 32 ∷ trace.Barrier 1 ∷ trace.WriteHead 1 33 9 1 ∷ trace.Barrier 1 ∷ trace.Commit 1 9 1
    ∷ resizes 2 ∷ trace.WriteLog 1 34 ∷ trace.WriteLog 1 35 ∷ trace.Barrier 1 ∷ []

abbrev first : Life
first = record { node = 1; join = 0 }

last : (l : Life) → first ≡ l → 2 ≡ unnamed_upto false 1 2 l so_far
last l e = subst (λ (k : Life). 2 ≡ unnamed_upto false 1 2 k so_far) e refl

pub can-live : JournalCanLive
can-live = (
  _,
  record { runs = refl; unlost = refl; last = refl; cut = λ d. refl; name = refl; flies = refl; silent = refl },
  Then _ _ _ _ (Then _ _ _ _ (Then _ _ _ _ (Then _ _ _ _ (Then _ _ _ _ (Then _ _ _ _ (Then _ _ _ _ (Then _ _ _ _ (Then _ _ _ _ (
      Then _ _ _ _ (Then _ _ _ _ (Then _ _ _ _ (Then _ _ _ _ (Then _ _ _ _ (Then _ _ _ _ (Then _ _ _ _ (Then _ _ _ _ (Then _ _ _ _ (
      Then _ _ _ _ (Then _ _ _ _ (Then _ _ _ _ (Then _ _ _ _ (Then _ _ _ _ (Then _ _ _ _ (Then _ _ _ _ (Then _ _ _ _ (Then _ _ _ _ Done
      (Joins refl (inr refl) (inl refl) refl))
      (Says (trace.Join 2) two))
      (Answers (codes "c") 1 (calls.Truncate (codes "f" ∷ []) 1) replies.Ok refl refl (λ s. no-way s)))
      (WritesLog 31 refl))
      (WritesLog 32 refl))
      (Says (trace.Barrier 1) tt))
      (Begins false 33 1 refl refl refl refl))
      (Says (trace.Barrier 1) tt))
      (Commits 9 1 refl refl refl refl refl refl))
      (Answers (codes "c") 2 (calls.Truncate (codes "f" ∷ []) 2) replies.Ok refl refl (λ s. no-way s)))
      (WritesLog 34 refl))
      (WritesLog 35 refl))
      (Says (trace.Barrier 1) tt))
      (BeginsLast false 36 2 refl refl refl refl (λ l is. last l (inside is))))
      (Stops (trace.Withdraw 1 4 5) refl refl))
      (Ends true (λ r. no-way r)))
      (IsFenced refl refl (λ f. absurd (let g : None ≡ Some 1 = f in cc)) refl))
      (Says (trace.WriteReplay 2 7) tt))
      (Says (trace.Barrier 2) tt))
      (Replays 2 (clean 37 11) refl (inl refl) refl))
      (Says (trace.WriteReplay 2 37) tt))
      (Ends true (λ r. no-way r)))
      (Says (trace.Barrier 2) tt))
      (SaysRecovered 2 refl))
      (Loses 0 2 refl refl (inr refl)))
      (IsRecovered refl refl refl (λ r l is. no-way r)))
      (Joins refl (inl refl) (inl refl) refl),
  refl,
  refl,
  refl,
  refl,
  refl,
  refl,
)
