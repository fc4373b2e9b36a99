-- What a run prints for its clients, and a replay of its journals.
use Rattle.std.specs.Prelude.{ℕ, zero, suc, ◌+◌, ◌-◌, ◌==◌, ◌||◌, Bool, true, false, List, [], ◌∷◌, ◌++◌, length, drop, codes, count_by, if◌then◌else◌}
use Rattle.std.specs.List.{flat_map}
use Rattle.text_words.specs.Words.{number}
use Rattle.file_tree.specs.CallText.{call_text, reply_text}
use Rattle.file_tree.specs.declared.call.Call.{Call}
use Rattle.file_tree.specs.declared.reply.Reply.{Reply}
use Rattle.trace_text.specs.declared.item.TraceItem.{TraceItem}
use Rattle.trace_text.specs.declared.item.TraceItem.TheVariants as trace
use Rattle.script_lang.specs.Script.{ScriptValue, calls_by}
use Rattle.script_lang.specs.declared.script.Client.{Client}
use Rattle.script_lang.specs.declared.script.Line.{Line}
use Rattle.script_lang.specs.declared.script.Line.TheVariants as line
use Rattle.run_rules.specs.Follows.{place_of, call_items, history_of}
use Rattle.cluster_history.specs.History.{lost_count}
use Rattle.run_reports.specs.Orders.{uses, has_use_below}
use Rattle.run_reports.specs.StatusText.{status_lines, ended}
use Rattle.run_reports.specs.declared.output.Listing.{Listing}
use Rattle.run_reports.specs.declared.output.Listing.TheVariants.{Clients, Journals}
use Rattle.run_reports.specs.declared.status.Status.{Status}
use Rattle.run_reports.specs.declared.status.Status.TheVariants as status

-- ---- a client's answered lines

abbrev pub answered_line : List ℕ → Call → Reply → List ℕ
answered_line name call reply = ended (name ++ codes ": " ++ call_text call ++ codes " = " ++ reply_text reply)

-- the line of an item that is a call of this client
abbrev pub item_line : List Client → ℕ → TraceItem → List ℕ
item_line clients client (trace.Call node name n call reply) = if place_of clients name == client then answered_line name call reply else []
item_line clients client _ = []

abbrev pub answered_lines : List Client → ℕ → List TraceItem → List ℕ
answered_lines clients client items = flat_map (item_line clients client) items

-- ---- its lines that are down: those without an answer, where the run is done, the client's node has stopped,
-- ---- or a crash or join line below the first of them was carried out

abbrev pub is_done : Status → Bool
is_done status.Done = true
is_done _ = false

-- the node has stopped and not joined again
abbrev pub is_stopped : ℕ → Bool → List TraceItem → Bool
is_stopped node now [] = now
is_stopped node now (trace.Join i ∷ is) = is_stopped node (if i == node then false else now) is
is_stopped node now (trace.Crash i ∷ is) = is_stopped node (if i == node then true else now) is
is_stopped node now (trace.Withdraw i before after ∷ is) = is_stopped node (if i == node then true else now) is
is_stopped node now (_ ∷ is) = is_stopped node now is

-- the place in the script of the client's nth line, from 0
abbrev pub is_line_of : ℕ → Line → Bool
is_line_of client (line.Call c call) = c == client
is_line_of client _ = false

abbrev pub place_of_line : ℕ → ℕ → List Line → ℕ
place_of_line client n [] = 0
place_of_line client zero (l ∷ ls) = if is_line_of client l then 0 else suc (place_of_line client zero ls)
place_of_line client (suc n) (l ∷ ls) = suc (place_of_line client (if is_line_of client l then n else suc n) ls)

-- how many of the client's lines are answered
abbrev pub answers : ScriptValue → List TraceItem → ℕ → ℕ
answers s items client = length (call_items s.clients client items)

abbrev pub tells_down : ScriptValue → List TraceItem → Status → ℕ → Client → Bool
tells_down s items st client c =
    is_done st || is_stopped c.node false items || has_use_below (place_of_line client (answers s items client) s.lines) (uses s items)

abbrev pub down_line : List ℕ → Call → List ℕ
down_line name call = ended (name ++ codes ": " ++ call_text call ++ codes " = down")

abbrev pub down_lines : ScriptValue → List TraceItem → Status → ℕ → Client → List ℕ
down_lines s items st client c =
    if tells_down s items st client c then flat_map (down_line c.name) (drop (answers s items client) (calls_by client s.lines)) else []

-- ---- the lines of all clients in the script's order, the one given being the next

abbrev pub client_lines : ScriptValue → List TraceItem → Status → ℕ → Client → List ℕ
client_lines s items st client c = answered_lines s.clients client items ++ down_lines s items st client c

abbrev pub all_lines : ScriptValue → List TraceItem → Status → ℕ → List Client → List ℕ
all_lines s items st client [] = []
all_lines s items st client (c ∷ cs) = client_lines s items st client c ++ all_lines s items st (suc client) cs

-- ---- the lines of journals that were replayed

abbrev pub replayed_line : (journal blocks : ℕ) → List ℕ
replayed_line journal blocks = ended ((codes "replayed" ++ number journal) ++ (codes " blocks" ++ number blocks))

-- how many blocks were written to put a journal home, behind this item
abbrev pub written_behind : ℕ → TraceItem → ℕ
written_behind written (trace.WriteReplay node block) = written + 1
written_behind written (trace.Recovered slot by) = 0
written_behind written _ = written

-- the line that it gives, if it ends a replay: the last of the blocks was the journal's clean header
abbrev pub line_of_replay : ℕ → TraceItem → List ℕ
line_of_replay written (trace.Recovered slot by) = replayed_line (slot - 1) (written - 1)
line_of_replay written _ = []

abbrev pub replayed_lines_behind : ℕ → List TraceItem → List ℕ
replayed_lines_behind written [] = []
replayed_lines_behind written (i ∷ is) = line_of_replay written i ++ replayed_lines_behind (written_behind written i) is

abbrev pub replayed_lines : List TraceItem → List ℕ
replayed_lines items = replayed_lines_behind 0 items

-- ---- the counts

abbrev pub is_call : TraceItem → Bool
is_call (trace.Call node name n call reply) = true
is_call _ = false

abbrev pub is_commit : TraceItem → Bool
is_commit (trace.Commit node sequence upto) = true
is_commit _ = false

abbrev pub is_stop : TraceItem → Bool
is_stop (trace.Crash node) = true
is_stop (trace.Withdraw node before now) = true
is_stop _ = false

-- calls, those that losses took out, commits, stops of nodes, and journals that are not clean
abbrev pub counts_text : ℕ → ℕ → ℕ → ℕ → ℕ → List ℕ
counts_text calls lost commits crashes dirty =
    (codes "calls" ++ number calls) ++ (codes " lost" ++ number lost) ++ (codes " commits" ++ number commits) ++ (codes " crashes" ++ number crashes) ++ (codes " dirty" ++ number dirty)

abbrev pub counts_line : ScriptValue → List TraceItem → ℕ → List ℕ
counts_line s items dirty =
    ended (counts_text (count_by is_call items) (lost_count (history_of s.clients items)) (count_by is_commit items) (count_by is_stop items) dirty)

-- ---- all of it: before the first item the status alone

-- what stands before the counts
abbrev pub lines_of : Listing → ScriptValue → List TraceItem → Status → List ℕ
lines_of Clients s items st = all_lines s items st 0 s.clients
lines_of Journals s items st = replayed_lines items

abbrev pub out_of : Listing → ScriptValue → List TraceItem → Status → ℕ → List ℕ
out_of listing s [] st dirty = status_lines s.clients st
out_of listing s (i ∷ is) st dirty = lines_of listing s (i ∷ is) st ++ (counts_line s (i ∷ is) dirty ++ status_lines s.clients st)
