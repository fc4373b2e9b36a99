-- The grammar of scripts, by cases on lines and words.
use Rattle.std.specs.Prelude.{ℕ, ◌+◌, ◌-◌, ◌^◌, ◌==◌, ◌&&◌, ◌||◌, Bool, not, nat_le, nat_lt, if◌then◌else◌, List, [], ◌∷◌, ◌++◌, length, codes, Option, None}
use Rattle.std.specs.List.{list_any, position}
use Rattle.std.specs.Str.{bytes_eq}
use Rattle.file_tree.specs.declared.call.Call.{Call}
use Rattle.file_tree.specs.declared.call.Call.TheVariants as calls
use Rattle.script_lang.specs.declared.script.Client.{Client}
use Rattle.script_lang.specs.declared.script.Armed.{Armed}
use Rattle.script_lang.specs.declared.script.Fate.{Fate}
use Rattle.script_lang.specs.declared.script.Fate.TheVariants.{Old, New, Torn}
use Rattle.script_lang.specs.declared.script.Line.{Line}
use Rattle.script_lang.specs.declared.script.Line.TheVariants as line
use Rattle.script_lang.specs.Script.{ScriptValue}
use Rattle.number_words.specs.Numbers.{number_in}
use Rattle.script_lang.specs.Words.{lines_in, words_in, column_of, path_in, content_in, client_in, LineRead, Got, Wrong, later, ends, a_word, the_word, transfer_limit}

-- ---- limits

-- how many bytes and lines a script has at most, how many clients, and how large an offset or size is
abbrev pub script_limit : ℕ
script_limit = 1048576

abbrev pub line_limit : ℕ
line_limit = 10000

abbrev pub client_limit : ℕ
client_limit = 64

abbrev pub offset_limit : ℕ
offset_limit = 2 ^ 32

abbrev pub count_limit : ℕ
count_limit = transfer_limit

-- ---- calls

abbrev pub on_path : (List (List ℕ) → Call) → List (List ℕ) → LineRead Call
on_path call ws = a_word path_in (λ p. ends (call p)) ws

abbrev pub on_range : (List (List ℕ) → ℕ → ℕ → Call) → List (List ℕ) → LineRead Call
on_range call ws = a_word path_in (λ p. a_word (number_in 0 offset_limit) (λ at. a_word (number_in 0 count_limit) (λ count. ends (call p at count)))) ws

abbrev pub on_content : List (List ℕ) → LineRead Call
on_content ws = a_word path_in (λ p. a_word (number_in 0 offset_limit) (λ at. a_word content_in (λ content. ends (calls.Write p at content)))) ws

abbrev pub on_size : List (List ℕ) → LineRead Call
on_size ws = a_word path_in (λ p. a_word (number_in 0 offset_limit) (λ size. ends (calls.Truncate p size))) ws

abbrev pub on_paths : List (List ℕ) → LineRead Call
on_paths ws = a_word path_in (λ p. a_word path_in (λ q. ends (calls.Rename p q))) ws

abbrev pub call_after : List ℕ → List (List ℕ) → LineRead Call
call_after verb ws =
    if bytes_eq verb (codes "create") then later (on_path calls.Create ws)
    else if bytes_eq verb (codes "mkdir") then later (on_path calls.Mkdir ws)
    else if bytes_eq verb (codes "unlink") then later (on_path calls.Unlink ws)
    else if bytes_eq verb (codes "rmdir") then later (on_path calls.Rmdir ws)
    else if bytes_eq verb (codes "read") then later (on_range calls.Read ws)
    else if bytes_eq verb (codes "dread") then later (on_range calls.Dread ws)
    else if bytes_eq verb (codes "write") then later (on_content ws)
    else if bytes_eq verb (codes "truncate") then later (on_size ws)
    else if bytes_eq verb (codes "stat") then later (on_path calls.Stat ws)
    else if bytes_eq verb (codes "list") then later (on_path calls.List ws)
    else if bytes_eq verb (codes "rename") then later (on_paths ws)
    else if bytes_eq verb (codes "sync") then later (ends calls.Sync ws)
    else Wrong 0

abbrev pub call_read : List (List ℕ) → LineRead Call
call_read [] = Wrong 0
call_read (verb ∷ ws) = call_after verb ws

-- ---- lines, each with the script that it belongs to so far

abbrev pub has_client : List Client → List ℕ → Bool
has_client cs name = list_any (λ c. bytes_eq c.name name) cs

-- the number of the client whose name and a colon this word is
abbrev pub client_before_colon : List Client → List ℕ → Option ℕ
client_before_colon cs w = position (λ c. bytes_eq w (c.name ++ codes ":")) cs

abbrev pub with_line : ScriptValue → Line → ScriptValue
with_line s l = record s { lines = s.lines ++ l ∷ [] }

abbrev pub nodes_line : ScriptValue → List (List ℕ) → LineRead ScriptValue
nodes_line s ws = a_word (the_word (codes "nodes")) (λ _. a_word (number_in 1 8) (λ n. ends (record s { nodes = n }))) ws

-- a name that no client has yet
abbrev pub new_client : List Client → List ℕ → Option (List ℕ)
new_client cs w = if has_client cs w then None else client_in w

abbrev pub client_line : ScriptValue → List (List ℕ) → LineRead ScriptValue
client_line s ws =
    a_word (new_client s.clients) (λ name. a_word (the_word (codes "on")) (λ _. a_word (number_in 1 s.nodes) (λ node.
    ends (record s { clients = s.clients ++ record { name = name; node = node } ∷ [] })))) ws

-- the fate of a write at which a node is to crash
abbrev pub fate_read : (Fate → ScriptValue) → List (List ℕ) → LineRead ScriptValue
fate_read armed [] = Wrong 0
fate_read armed (w ∷ ws) =
    if bytes_eq w (codes "old") then later (ends (armed Old) ws)
    else if bytes_eq w (codes "new") then later (ends (armed New) ws)
    else if bytes_eq w (codes "torn") then later (a_word (number_in 1 4095) (λ bytes. ends (armed (Torn bytes))) ws)
    else Wrong 0

abbrev pub is_armed : List Armed → ℕ → Bool
is_armed armed node = list_any (λ a. a.node == node) armed

-- a crash at a node's write may be ordered before the first line, once for each node
abbrev pub may_arm : ScriptValue → ℕ → Bool
may_arm s node = (length s.lines == 0) && not (is_armed s.armed node)

abbrev pub with_armed : ScriptValue → ℕ → ℕ → Fate → ScriptValue
with_armed s node write fate = record s { armed = s.armed ++ record { node = node; write = write; fate = fate } ∷ [] }

abbrev pub armed_line : ScriptValue → ℕ → List (List ℕ) → LineRead ScriptValue
armed_line s node ws = a_word (number_in 1 (2 ^ 64 - 1)) (λ write. fate_read (with_armed s node write)) ws

-- `crash N` alone, or with the write at which it comes
abbrev pub after_node : ScriptValue → ℕ → List (List ℕ) → LineRead ScriptValue
after_node s node [] = Got (with_line s (line.Crash (2 ^ node)))
after_node s node (w ∷ ws) = if bytes_eq w (codes "at") && may_arm s node then later (armed_line s node ws) else Wrong 0

abbrev pub crash_line : ScriptValue → List (List ℕ) → LineRead ScriptValue
crash_line s [] = Wrong 0
crash_line s (w ∷ ws) =
    if bytes_eq w (codes "all") then later (ends (with_line s (line.Crash (2 ^ (s.nodes + 1) - 2))) ws)
    else a_word (number_in 1 s.nodes) (after_node s) (w ∷ ws)

-- the client's call
abbrev pub called : ScriptValue → ℕ → LineRead Call → LineRead ScriptValue
called s client (Got call) = Got (with_line s (line.Call client call))
called s client (Wrong k) = Wrong k

abbrev pub call_line : ScriptValue → List (List ℕ) → LineRead ScriptValue
call_line s ws = a_word (client_before_colon s.clients) (λ client rest. called s client (call_read rest)) ws

-- clients come before all else, and at least one
abbrev pub may_have_client : ScriptValue → Bool
may_have_client s = (length s.armed == 0) && (length s.lines == 0) && nat_lt (length s.clients) client_limit

-- a line behind the first
abbrev pub later_line : ScriptValue → List ℕ → List (List ℕ) → LineRead ScriptValue
later_line s w ws =
    if bytes_eq w (codes "client") && may_have_client s then later (client_line s ws)
    else if length s.clients == 0 then Wrong 0
    else if bytes_eq w (codes "crash") then later (crash_line s ws)
    else if bytes_eq w (codes "wait") then later (ends (with_line s line.Wait) ws)
    else if bytes_eq w (codes "join") then later (a_word (number_in 1 s.nodes) (λ node. ends (with_line s (line.Join node))) ws)
    else call_line s (w ∷ ws)

abbrev pub line_read : ScriptValue → List (List ℕ) → LineRead ScriptValue
line_read s [] = Wrong 0
line_read s (w ∷ ws) = if s.nodes == 0 then nodes_line s (w ∷ ws) else later_line s w ws

-- ---- scripts

-- the script, or the line and the column, from 1, of the first wrong word
pub data ScriptRead : Type 0 where
  Script : ScriptValue → ScriptRead
  Bad : ℕ → ℕ → ScriptRead

-- a line that begins behind so many bytes has the first byte past the limit
abbrev pub has_byte_past_limit : ℕ → ℕ → List ℕ → Bool
has_byte_past_limit total before line = nat_lt script_limit total && nat_le script_limit (before + length line)

-- a missing line is refused where it would stand; a line past a limit is refused at its first word
abbrev pub script_from : ℕ → ScriptValue → ℕ → ℕ → List (List ℕ) → ScriptRead
script_from total s n before [] = if length s.clients == 0 then Bad n 1 else Script s
script_from total s n before (l ∷ ls) =
    if nat_lt line_limit n || has_byte_past_limit total before l then Bad n 1
    else elim (line_read s (words_in l)) [
      | Got s' ↦ script_from total s' (n + 1) (before + length l + 1) ls
      | Wrong k ↦ Bad n (column_of k (words_in l))
    ]

abbrev pub nothing : ScriptValue
nothing = record { nodes = 0; clients = []; armed = []; lines = [] }

abbrev pub script_read : List ℕ → ScriptRead
script_read text = script_from (length text) nothing 1 0 (lines_in text)
