-- What the runs of one node are, as reports see them.
use Rattle.std.specs.Prelude.{ℕ, List, []}
use Rattle.trace_text.specs.declared.item.TraceItem.{TraceItem}
use Rattle.script_lang.specs.Grammar.{nothing}
use Rattle.script_lang.specs.Script.{ScriptValue}
use Rattle.lone_scripts.specs.Runs.{IsLoneRun}
use Rattle.lone_scripts.specs.Scripts.{IsForOne}
use Rattle.run_reports.specs.OneNode.{IsOfOneNode}

-- whether its node runs or has crashed
abbrev pub LoneRunsAreOfOneNode : Type 0
LoneRunsAreOfOneNode = (s : ScriptValue) (count : ℕ) (items : List TraceItem) → IsForOne s → IsLoneRun s count items → IsOfOneNode s items

-- where no script is run
abbrev pub NothingIsOfOneNode : Type 0
NothingIsOfOneNode = IsOfOneNode nothing []
