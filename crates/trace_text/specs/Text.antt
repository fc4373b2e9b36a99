-- How a trace is written: one item a line.
use Rattle.std.specs.Prelude.{ℕ, List, [], ◌∷◌, ◌++◌, codes}
use Rattle.std.specs.List.{flat_map}
use Rattle.std.specs.Fmt.{decimal}
use Rattle.text_words.specs.Words.{word, number}
use Rattle.file_tree.specs.CallText.{call_text, reply_text}
use Rattle.dlm_modes.specs.declared.MailWord.{MailWord}
use Rattle.dlm_modes.specs.declared.MailWord.TheVariants as mail
use Rattle.glock_names.specs.declared.State.{State}
use Rattle.glock_names.specs.declared.State.TheVariants as state
use Rattle.glock_names.specs.declared.LockName.{LockName}
use Rattle.trace_text.specs.declared.item.TraceItem.{TraceItem}
use Rattle.trace_text.specs.declared.item.TraceItem.TheVariants as trace

abbrev pub lock_text : LockName → List ℕ
lock_text lock = decimal lock.kind ++ codes "/" ++ decimal lock.number

abbrev pub state_text : State → List ℕ
state_text state.Un = codes "un"
state_text state.Sh = codes "sh"
state_text state.Df = codes "df"
state_text state.Ex = codes "ex"

abbrev pub mail_text : MailWord → List ℕ
mail_text mail.Request = codes "request"
mail_text mail.Convert = codes "convert"
mail_text mail.Down = codes "down"
mail_text mail.Grant = codes "grant"
mail_text mail.Callback = codes "callback"
mail_text mail.Report = codes "report"
mail_text mail.End = codes "end"
mail_text mail.View = codes "view"

-- a node, a lock and a state
abbrev pub lock_item_text : List ℕ → ℕ → LockName → State → List ℕ
lock_item_text verb node lock state = verb ++ number node ++ word (lock_text lock) ++ word (state_text state)

-- a log header: its block, its sequence, and the number of the last call that it carries
abbrev pub head_text : ℕ → List ℕ → ℕ → ℕ → ℕ → List ℕ
head_text node kind block sequence upto = codes "write" ++ number node ++ word kind ++ number block ++ number sequence ++ number upto

abbrev pub write_text : ℕ → List ℕ → ℕ → List ℕ
write_text node kind block = codes "write" ++ number node ++ word kind ++ number block

abbrev pub item_text : TraceItem → List ℕ
item_text (trace.Join node) = codes "join" ++ number node
item_text (trace.Ask node lock state) = lock_item_text (codes "ask") node lock state
item_text (trace.Grant node lock state) = lock_item_text (codes "grant") node lock state
item_text (trace.Callback node lock state) = lock_item_text (codes "callback") node lock state
item_text (trace.Down node lock state) = lock_item_text (codes "down") node lock state
item_text (trace.Mail from to kind) = codes "mail" ++ number from ++ number to ++ word (mail_text kind)
item_text (trace.Read node block) = codes "read" ++ number node ++ number block
item_text (trace.WriteLog node block) = write_text node (codes "log") block
item_text (trace.WriteHead node block sequence upto) = head_text node (codes "head") block sequence upto
item_text (trace.WriteClean node block sequence upto) = head_text node (codes "clean") block sequence upto
item_text (trace.WriteHome node block) = write_text node (codes "home") block
item_text (trace.WriteReplay node block) = write_text node (codes "replay") block
item_text (trace.Barrier node) = codes "barrier" ++ number node
item_text (trace.Commit node sequence upto) = codes "commit" ++ number node ++ number sequence ++ number upto
item_text (trace.Call node client n call reply) =
    codes "call" ++ number node ++ word client ++ number n ++ word (call_text call) ++ codes " =" ++ word (reply_text reply)
item_text (trace.Full node need free) = codes "full" ++ number node ++ number need ++ number free
item_text (trace.Crash node) = codes "crash" ++ number node
item_text (trace.Withdraw node before now) = codes "withdraw" ++ number node ++ number before ++ number now
item_text (trace.Fence node) = codes "fence" ++ number node
item_text (trace.View generation) = codes "view" ++ number generation
item_text (trace.Recovered node by) = codes "recovered" ++ number node ++ number by
item_text (trace.Lost node kept) = codes "lost" ++ number node ++ number kept
item_text (trace.Unmount node) = codes "unmount" ++ number node

abbrev pub print : List TraceItem → List ℕ
print items = flat_map (λ i. item_text i ++ codes "\n") items
