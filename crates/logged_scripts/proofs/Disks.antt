-- It stays the same disk.
use Rattle.std.proofs.Common.{ℕ, List, refl}
use Rattle.shared_disk.specs.Disk.{after_barrier, after_write}
use Rattle.whole_runs.specs.StepEnds.{EndsTo, Landed, Said, Unsaid, with_clean}
use Rattle.whole_runs.specs.Fails.{AsItWas, FailsTo, InAWrite}
use Rattle.whole_runs.specs.Points.{Point}
use Rattle.whole_runs.specs.Steps as by
use Rattle.whole_runs.specs.Steps.{Here, Step, Steps, Then}
use Rattle.logged_calls.specs.Nodes.{IsSameDisk}
use Rattle.logged_calls.proofs.Disks.{same_barrier, same_disk, same_on, same_written}

same_step : (time : ℕ) (p q : Point) → Step time p q → IsSameDisk p.disk q.disk
same_step time p _ (by.Reads is b lock bytes asked absent whole told) = same_disk p.disk
same_step time p _ (by.Answers is name call reply change kept done some can fits keeps) = same_disk p.disk
same_step time p _ (by.AnswersQuietly is name call reply change done nothing no_sync) = same_disk p.disk
same_step time p _ (by.Syncs is name all) = same_disk p.disk
same_step time p _ (by.TellsFull is call need free less all) = same_disk p.disk
same_step time p _ (by.HasNoSpace name call need free next less last) = same_disk p.disk
same_step time p _ (by.BeginsFlush next idle due room) = same_disk p.disk
same_step time p _ (by.BeginsHeader next idle home some stuck) = same_disk p.disk
same_step time p _ (by.WritesLog new f b bytes list is numbers made may gains) = same_written p.disk (after_write p.disk 1 b bytes) b bytes refl
same_step time p _ (by.EndsBlocks new f done bytes list is stage made flies gains) = same_barrier p.disk (after_barrier p.disk 1) refl
same_step time p _ (by.WritesHead new f b sequence bytes list is numbers made may gains) = same_written p.disk (after_write p.disk 1 b bytes) b bytes refl
same_step time p _ (by.EndsFlush new f tail bytes list is numbers stage made flies gains) = same_barrier p.disk (after_barrier p.disk 1) refl
same_step time p _ (by.Commits b next last) = same_disk p.disk
same_step time p _ (by.GoesHome next new lock b bytes list sent may gains) = same_written p.disk (after_write p.disk 1 b bytes) b bytes refl
same_step time p _ (by.Rests new list next no_header settles flies gains) = same_barrier p.disk (after_barrier p.disk 1) refl
same_step time p _ (by.Unmounts is) = same_disk p.disk

pub same_steps : (time : ℕ) (p q : Point) → Steps time p q → IsSameDisk p.disk q.disk
same_steps time p _ Here = same_disk p.disk
same_steps time p _ (Then q r steps step) = same_on p.disk q.disk r.disk (same_steps time p q steps) (same_step time q r step)

pub same_failing : (time : ℕ) (p q : Point) → FailsTo time p q → IsSameDisk p.disk q.disk
same_failing time p _ AsItWas = same_disk p.disk
same_failing time p _ (InAWrite b bytes list log item told step) = same_written p.disk (after_write p.disk 1 b bytes) b bytes refl

flies : (p : Point) (bytes : List ℕ) → IsSameDisk p.disk (with_clean p bytes)
flies p bytes = record { size = refl; count = refl; tells = refl; fenced = refl }

pub same_ending : (p q : Point) → EndsTo p q → IsSameDisk p.disk q.disk
same_ending p _ (Unsaid bytes list clean) = flies p bytes
same_ending p _ (Said bytes list clean) = flies p bytes
same_ending p _ (Landed bytes list clean) = same_on p.disk (with_clean p bytes) (after_barrier (with_clean p bytes) 1) (flies p bytes) (same_barrier (with_clean p bytes) (after_barrier (with_clean p bytes) 1) refl)
