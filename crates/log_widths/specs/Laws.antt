-- Laws of the widths of a log's numbers.
use Rattle.std.specs.Prelude.{ℕ, ◌≡◌, ◌+◌, ◌^◌, ◌<◌, List, Option, Some}
use Rattle.drafts.specs.declared.change.Change.{Change}
use Rattle.glock_names.specs.declared.LockName.{LockName}
use Rattle.log_rings.specs.Laws.{HasNumbers}
use Rattle.log_values.specs.Changes.{with_change}
use Rattle.log_values.specs.Flushing.{Begins, FlushStep}
use Rattle.log_values.specs.Homing.{HomeAnswer, Settles}
use Rattle.log_values.specs.Laws.{empty_log}
use Rattle.log_values.specs.Log.{Flush, Journal, LogValue}
use Rattle.log_values.specs.Sound.{IsSoundLog}
use Rattle.log_values.specs.declared.steps.LogStep.{LogStep}
use Rattle.log_widths.specs.Widths.{HasChangeWidths, HasJournalWidths, HasLogWidths}

-- ---- they stay

abbrev pub EmptyHasWidths : Type 0
EmptyHasWidths = (journal : Journal) (head sequence : ℕ) → HasJournalWidths journal → HasLogWidths (empty_log journal head sequence)

abbrev pub ChangesKeepWidths : Type 0
ChangesKeepWidths = (log : LogValue) (c : Change) → HasLogWidths log → HasChangeWidths c → HasLogWidths (with_change log c)

abbrev pub BeginningKeepsWidths : Type 0
BeginningKeepsWidths = (log new : LogValue) → HasLogWidths log → Begins log new → HasLogWidths new

abbrev pub StepsKeepWidths : Type 0
StepsKeepWidths = (log new : LogValue) (f : Flush) (bytes : List ℕ) (step : LogStep) → HasLogWidths log → log.flush ≡ Some f → FlushStep log new f bytes step → HasLogWidths new

abbrev pub HomingKeepsWidths : Type 0
HomingKeepsWidths = (log new : LogValue) (lock : LockName) (bytes : List ℕ) (answer : Option LogStep) → HasLogWidths log → HomeAnswer log new lock bytes answer → HasLogWidths new

abbrev pub SettlingKeepsWidths : Type 0
SettlingKeepsWidths = (log new : LogValue) → HasLogWidths log → Settles log new → HasLogWidths new

-- ---- what they are for

-- What a flush logs and its header are read from the journal as they were written, where there is a sequence for the header.
abbrev pub WidthsAreNumbers : Type 0
WidthsAreNumbers = (log : LogValue) (f : Flush) → IsSoundLog log → HasLogWidths log → log.flush ≡ Some f → log.sequence + 1 < 2 ^ 64 → HasNumbers log f
