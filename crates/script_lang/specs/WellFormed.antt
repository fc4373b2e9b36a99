-- What is true of each script that a text is read as.
use Rattle.std.specs.Prelude.{ℕ, ◌≡◌, ◌≢◌, ◌⊎◌, ◌+◌, ◌-◌, ◌^◌, ◌<◌, ◌≤◌, IsTrue, List, [], ◌∷◌, length, ⊤}
use Rattle.std.specs.List.{AllByRecursion}
use Rattle.file_tree.specs.declared.call.Call.{Call}
use Rattle.file_tree.specs.declared.call.Call.TheVariants as calls
use Rattle.script_lang.specs.declared.script.Client.{Client}
use Rattle.script_lang.specs.declared.script.Armed.{Armed}
use Rattle.script_lang.specs.declared.script.Fate.{Fate}
use Rattle.script_lang.specs.declared.script.Fate.TheVariants.{Torn}
use Rattle.script_lang.specs.declared.script.Line.{Line}
use Rattle.script_lang.specs.declared.script.Line.TheVariants as line
use Rattle.script_lang.specs.Script.{ScriptValue}
use Rattle.script_lang.specs.Words.{transfer_limit, is_client_name}
use Rattle.script_lang.specs.OneNode.{HaveOwnClientNames}
use Rattle.script_lang.specs.Grammar.{line_limit, client_limit, offset_limit, count_limit}

-- one of the nodes from 1 on
abbrev pub IsNode : ScriptValue → ℕ → Type 0
IsNode s node = (1 ≤ node) × (node ≤ s.nodes)

-- the offsets, sizes and counts of a call are within their limits
abbrev pub IsAllowedCall : Call → Type 0
IsAllowedCall (calls.Read path at count) = (at ≤ offset_limit) × (count ≤ count_limit)
IsAllowedCall (calls.Dread path at count) = (at ≤ offset_limit) × (count ≤ count_limit)
IsAllowedCall (calls.Write path at content) = (at ≤ offset_limit) × (1 ≤ length content) × (length content ≤ transfer_limit)
IsAllowedCall (calls.Truncate path size) = size ≤ offset_limit
IsAllowedCall _ = ⊤

-- a client of a node, with a name that clients may have
abbrev pub IsClient : ScriptValue → Client → Type 0
IsClient s c = IsTrue (is_client_name c.name) × IsNode s c.node

abbrev pub IsFate : Fate → Type 0
IsFate (Torn bytes) = (1 ≤ bytes) × (bytes ≤ 4095)
IsFate _ = ⊤

-- a crash of a node at one of its writes
abbrev pub IsArmed : ScriptValue → Armed → Type 0
IsArmed s a = IsNode s a.node × (1 ≤ a.write) × IsFate a.fate

-- a call of a client, or a wait, or a crash of one node or of all, or a join of a node
abbrev pub IsLine : ScriptValue → Line → Type 0
IsLine s (line.Call client call) = (client < length s.clients) × IsAllowedCall call
IsLine s line.Wait = ⊤
IsLine s (line.Crash nodes) = ((node : ℕ) × IsNode s node × (nodes ≡ 2 ^ node)) ⊎ (nodes ≡ 2 ^ (s.nodes + 1) - 2)
IsLine s (line.Join node) = IsNode s node

-- no two crashes wait for a write of one node
abbrev pub HaveOwnNodes : List Armed → Type 0
HaveOwnNodes [] = ⊤
HaveOwnNodes (a ∷ as') = AllByRecursion (λ (b : Armed). a.node ≢ b.node) as' × HaveOwnNodes as'

pub record IsWellFormed (s : ScriptValue) : Type 0 where
  pub one_node : 1 ≤ s.nodes
  pub few_nodes : s.nodes ≤ 8
  pub one_client : 1 ≤ length s.clients
  pub few_clients : length s.clients ≤ client_limit
  pub clients : AllByRecursion (IsClient s) s.clients
  pub names : HaveOwnClientNames s.clients
  pub armed : AllByRecursion (IsArmed s) s.armed
  pub armed_nodes : HaveOwnNodes s.armed
  pub lines : AllByRecursion (IsLine s) s.lines
  -- with the line of the nodes
  pub few_lines : 1 + length s.clients + length s.armed + length s.lines ≤ line_limit
