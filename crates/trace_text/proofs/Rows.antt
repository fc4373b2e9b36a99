-- Worked rows of the trace's text, which the checker computes.
use Rattle.std.proofs.Common.{◌≡◌, ℕ, List, [], ◌∷◌, ◌++◌, refl}
use Rattle.std.specs.Prelude.{codes}
use Rattle.std.specs.Fmt.{digits}
use Rattle.hex.specs.Hex.{encode_with}
use Rattle.file_tree.specs.declared.call.Call.TheVariants as calls
use Rattle.file_tree.specs.declared.reply.Reply.TheVariants as replies
use Rattle.dlm_modes.specs.declared.MailWord.TheVariants as mail
use Rattle.glock_names.specs.declared.State.TheVariants as state
use Rattle.trace_text.specs.declared.item.TraceItem.{TraceItem}
use Rattle.trace_text.specs.declared.item.TraceItem.TheVariants as trace
use Rattle.trace_text.specs.Text.{print}

abbrev a : List (List ℕ)
a = codes "a" ∷ []

-- a node reads a file
row_reading : print (trace.Join 1 ∷ trace.Ask 1 (record { kind = 2; number = 19 }) state.Sh ∷ trace.Grant 1 (record { kind = 2; number = 19 }) state.Sh ∷ trace.Read 1 19
    ∷ trace.Call 1 (codes "c") 1 (calls.Read a 0 5) (replies.Bytes (codes "hello")) ∷ trace.Unmount 1 ∷ trace.Down 1 (record { kind = 2; number = 19 }) state.Un ∷ [])
    ≡ codes "join 1\nask 1 2/19 sh\ngrant 1 2/19 sh\nread 1 19\ncall 1 c 1 read /a 0 5 = data 68656c6c6f\nunmount 1\ndown 1 2/19 un\n"
unfolding digits encode_with
row_reading = refl

-- a node creates a file, flushes it, and stops
row_flush : print (trace.Call 1 (codes "c") 1 (calls.Create (codes "f" ∷ [])) replies.Ok ∷ trace.WriteLog 1 26 ∷ trace.Barrier 1 ∷ trace.WriteHead 1 30 2 1 ∷ trace.Commit 1 2 1
    ∷ trace.WriteHome 1 19 ∷ trace.WriteClean 1 31 3 2 ∷ trace.WriteReplay 2 31 ∷ trace.Full 1 1 0 ∷ trace.Crash 1 ∷ trace.Withdraw 1 0 1 ∷ trace.Fence 1 ∷ trace.View 1 ∷ trace.Mail 1 2 mail.View
    ∷ trace.Callback 1 (record { kind = 3; number = 17 }) state.Sh ∷ trace.Recovered 1 2 ∷ trace.Lost 1 0 ∷ [])
    ≡ codes "call 1 c 1 create /f = ok\nwrite 1 log 26\nbarrier 1\nwrite 1 head 30 2 1\ncommit 1 2 1\nwrite 1 home 19\nwrite 1 clean 31 3 2\nwrite 2 replay 31\nfull 1 1 0\ncrash 1\nwithdraw 1 0 1\nfence 1\nview 1\nmail 1 2 view\ncallback 1 3/17 sh\nrecovered 1 2\nlost 1 0\n"
unfolding digits encode_with
row_flush = refl
