-- The run itself has nothing in flight on the disk of its node.
use Rattle.std.proofs.Common.{◌≡◌, ◌⊎◌, ℕ, [], refl, ◌∙◌, inl, inr}
use Rattle.logged_scripts.specs.Fails.{AsItWas, FailsTo, InAWrite}
use Rattle.logged_scripts.specs.Points.{Point}
use Rattle.logged_scripts.specs.StepEnds.{EndsTo, Landed, Said, Unsaid}
use Rattle.logged_scripts.specs.Steps.{Answers, AnswersQuietly, BeginsFlush, BeginsHeader, Commits, EndsBlocks, EndsFlush, GoesHome, HasNoSpace, Here, Reads, Rests, Step, Steps, Syncs, TellsFull, Then, Unmounts, WritesHead, WritesLog}

still_step : (time : ℕ) (p q : Point) → Step time p q → q.disk.in_flight 0 ≡ p.disk.in_flight 0
still_step time p q (Reads answering b lock bytes asked none whole told) = refl
still_step time p q (Answers answering name call reply change kept done some fits room are) = refl
still_step time p q (AnswersQuietly answering name call reply change done none no_sync) = refl
still_step time p q (Syncs answering name low) = refl
still_step time p q (TellsFull answering call need free none low) = refl
still_step time p q (HasNoSpace name call need free next none ends) = refl
still_step time p q (BeginsFlush any idle due room) = refl
still_step time p q (BeginsHeader any idle home live room) = refl
still_step time p q (WritesLog new f b bytes list some numbers flushes may gains) = refl
still_step time p q (EndsBlocks new f done bytes list some stage flushes flies gains) = refl
still_step time p q (WritesHead new f b sequence bytes list some numbers flushes may gains) = refl
still_step time p q (EndsFlush new f tail bytes list some numbers stage flushes flies gains) = refl
still_step time p q (Commits b next ends) = refl
still_step time p q (GoesHome any new lock b bytes list home may gains) = refl
still_step time p q (Rests new list any no_header settles flies gains) = refl
still_step time p q (Unmounts answering) = refl

still_steps : (time : ℕ) (p q : Point) → Steps time p q → q.disk.in_flight 0 ≡ p.disk.in_flight 0
still_steps time p q Here = refl
still_steps time p q (Then m r before last) = still_step time m q last ∙ still_steps time p m before

still_failed : (time : ℕ) (p q : Point) → FailsTo time p q → q.disk.in_flight 0 ≡ p.disk.in_flight 0
still_failed time p q AsItWas = refl
still_failed time p q (InAWrite b bytes list log item told step) = refl

still_ended : (p q : Point) → EndsTo p q → q.disk.in_flight 0 ≡ p.disk.in_flight 0
still_ended p q (Unsaid bytes list flies) = refl
still_ended p q (Said bytes list flies) = refl
still_ended p q (Landed bytes list flies) = refl

-- from one point to where the run came
pub run_is_quiet : (time : ℕ) (a p q : Point) → Steps time a p → FailsTo time p q ⊎ EndsTo p q → a.disk.in_flight 0 ≡ [] → q.disk.in_flight 0 ≡ []
run_is_quiet time a p q steps (inl fail) idle = still_failed time p q fail ∙ still_steps time a p steps ∙ idle
run_is_quiet time a p q steps (inr end) idle = still_ended p q end ∙ still_steps time a p steps ∙ idle
