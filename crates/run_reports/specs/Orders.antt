-- Which line of the script a crash, or a join after the start, carries out.
use Rattle.std.specs.Prelude.{ℕ, zero, suc, ◌==◌, ◌&&◌, ◌||◌, not, nat_le, nat_lt, min, Bool, true, false, List, [], ◌∷◌, length, take, count_by, Option, None, Some, if◌then◌else◌}
use Rattle.trace_text.specs.declared.item.TraceItem.{TraceItem}
use Rattle.trace_text.specs.declared.item.TraceItem.TheVariants as trace
use Rattle.script_lang.specs.declared.script.Armed.{Armed}
use Rattle.script_lang.specs.declared.script.Line.{Line}
use Rattle.script_lang.specs.declared.script.Line.TheVariants as line
use Rattle.script_lang.specs.Script.{ScriptValue}
use Rattle.fencing.specs.NodeSets.{has}
use Rattle.run_rules.specs.Follows.{is_write_of, answered, above}

-- ---- a crash that was armed: it comes directly behind the write of its node that it waits for

abbrev pub ends_with_write : ℕ → List TraceItem → Bool
ends_with_write node [] = false
ends_with_write node (it ∷ []) = is_write_of node it
ends_with_write node (it ∷ next ∷ is) = ends_with_write node (next ∷ is)

abbrev pub is_of_armed : List Armed → ℕ → List TraceItem → Bool
is_of_armed [] node before = false
is_of_armed (a ∷ as') node before =
    ((a.node == node) && (count_by (is_write_of node) before == a.write) && ends_with_write node before) || is_of_armed as' node before

-- ---- the line of an item: the first that orders it, is not carried out yet, and may have its item there

-- this line orders item p; the first items, as many as the script has nodes, are the joins of the start
abbrev pub orders : ScriptValue → ℕ → TraceItem → Line → Bool
orders s p (trace.Crash node) (line.Crash nodes) = has nodes node
orders s p (trace.Join node) (line.Join joined) = (joined == node) && nat_le s.nodes p
orders s p _ _ = false

-- after the answers to this client's lines above the line, and before those to its lines below
abbrev pub fits_client : ScriptValue → List TraceItem → ℕ → ℕ → ℕ → Bool
fits_client s items p l client =
    nat_le (min (above s client l) (answered s items client (length items))) (answered s items client p) && nat_le (answered s items client p) (above s client l)

-- so for the first of the clients
abbrev pub fits_clients : ScriptValue → List TraceItem → ℕ → ℕ → ℕ → Bool
fits_clients s items p l zero = true
fits_clients s items p l (suc client) = fits_client s items p l client && fits_clients s items p l client

-- a line that was carried out for a node
pub record Use : Type 0 where
  pub line : ℕ
  pub node : ℕ

abbrev pub is_used : List Use → ℕ → ℕ → Bool
is_used [] l node = false
is_used (u ∷ us) l node = ((u.line == l) && (u.node == node)) || is_used us l node

abbrev pub may_have : ScriptValue → List TraceItem → ℕ → ℕ → TraceItem → List Use → ℕ → Line → Bool
may_have s items p node it used l x = orders s p it x && not (is_used used l node) && fits_clients s items p l (length s.clients)

abbrev pub line_for : ScriptValue → List TraceItem → ℕ → ℕ → TraceItem → List Use → ℕ → List Line → Option ℕ
line_for s items p node it used l [] = None
line_for s items p node it used l (x ∷ xs) = if may_have s items p node it used l x then Some l else line_for s items p node it used (suc l) xs

abbrev pub with_line_for : ℕ → Option ℕ → List Use → List Use
with_line_for node None used = used
with_line_for node (Some l) used = record { line = l; node = node } ∷ used

abbrev pub with_item : ScriptValue → List TraceItem → ℕ → TraceItem → List Use → List Use
with_item s items p (trace.Crash node) used =
    if is_of_armed s.armed node (take p items) then used else with_line_for node (line_for s items p node (trace.Crash node) used 0 s.lines) used
with_item s items p (trace.Join node) used = with_line_for node (line_for s items p node (trace.Join node) used 0 s.lines) used
with_item s items p _ used = used

-- the lines that the items from place p on carry out, behind these
abbrev pub uses_from : ScriptValue → List TraceItem → ℕ → List TraceItem → List Use → List Use
uses_from s items p [] used = used
uses_from s items p (it ∷ is) used = uses_from s items (suc p) is (with_item s items p it used)

abbrev pub uses : ScriptValue → List TraceItem → List Use
uses s items = uses_from s items 0 items []

-- a line below this one was carried out
abbrev pub has_use_below : ℕ → List Use → Bool
has_use_below l [] = false
has_use_below l (u ∷ us) = nat_lt l u.line || has_use_below l us
