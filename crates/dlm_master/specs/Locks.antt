-- What the calls do to one lock.
use Rattle.std.specs.Prelude.{ℕ, ◌==◌, ◌&&◌, Bool, true, false, not, List, [], ◌∷◌, ◌++◌, Option, None, Some, is_some, is_none, option_map, fold, map, length, unwrap_or, ◌||◌, if◌then◌else◌}
use Rattle.std.specs.List.{filter_map}
use Rattle.glock_names.specs.declared.LockName.{LockName}
use Rattle.glock_names.specs.LockMaps.{at_lock}
use Rattle.dlm_modes.specs.declared.Mode.{Mode}
use Rattle.dlm_modes.specs.declared.Mode.TheVariants.{Nl, Cr, Cw, Pr, Pw, Ex}
use Rattle.dlm_modes.specs.declared.ValueBlock.{ValueBlock}
use Rattle.dlm_modes.specs.Modes.{is_at_least, not_valid}
use Rattle.fencing.specs.NodeSets.{least_of}
use Rattle.dlm_master.specs.declared.claims.Claim.{Claim}
use Rattle.dlm_master.specs.declared.claims.Cause.{Cause}
use Rattle.dlm_master.specs.declared.claims.Cause.TheVariants.{Held, Behind, Rebuild, Slot}
use Rattle.dlm_master.specs.declared.claims.Answer.{Answer}
use Rattle.dlm_master.specs.declared.claims.Answer.TheVariants.{Granted, Waiting}
use Rattle.dlm_master.specs.Claims.{is_of, mode_of_node, now_holding, in_way}
use Rattle.dlm_master.specs.LockState.{LockState, TurnState}

-- nobody holds the lock, and nobody has written its value
abbrev pub free_lock : LockState
free_lock = record { held = []; conversions = []; requests = []; value = not_valid }

-- the lock in a map of locks: free where the map doesn't have it
abbrev pub known_or_free : List (LockName × LockState) → LockName → LockState
known_or_free table lock = unwrap_or (at_lock table lock) free_lock

-- ---- why a node has to wait

abbrev pub or_else : Option Cause → Option Cause → Option Cause
or_else (Some cause) other = Some cause
or_else None other = other

-- a rebuild that isn't done, a slot that waits for replay, a holder in an incompatible mode, or an earlier waiter in one
abbrev pub cause_of : Bool → ℕ → List Claim → List Claim → List Claim → ℕ → Mode → Option Cause
cause_of rebuild waiting held conversions requests node mode =
    if rebuild then Some Rebuild else
    or_else (option_map Slot (least_of waiting))
    (or_else (option_map Held (in_way held node mode))
    (or_else (option_map Behind (in_way conversions node mode))
    (option_map Behind (in_way requests node mode))))

-- whether the node waits for the lock
abbrev pub is_waiting : LockState → ℕ → Bool
is_waiting l node = is_some (mode_of_node l.conversions node) || is_some (mode_of_node l.requests node)

-- whether any node waits for it
abbrev pub is_awaited : LockState → Bool
is_awaited l = not (length l.conversions == 0) || not (length l.requests == 0)

-- ---- request and convert

abbrev pub claim : ℕ → Mode → Claim
claim node mode = record { node = node; mode = mode }

-- every waiter is before a request
abbrev pub request_cause : Bool → ℕ → LockState → ℕ → Mode → Option Cause
request_cause rebuild waiting l node mode = cause_of rebuild waiting l.held l.conversions l.requests node mode

-- the conversions that wait are before a conversion
abbrev pub convert_cause : Bool → ℕ → LockState → ℕ → Mode → Option Cause
convert_cause rebuild waiting l node mode = cause_of rebuild waiting l.held l.conversions [] node mode

abbrev pub answer_by : Option Cause → LockState → Answer
answer_by None l = Granted l.value
answer_by (Some cause) l = Waiting cause

abbrev pub requested : Option Cause → LockState → ℕ → Mode → LockState
requested None l node mode = record l { held = now_holding l.held node mode }
requested (Some cause) l node mode = record l { requests = l.requests ++ claim node mode ∷ [] }

abbrev pub converted : Option Cause → LockState → ℕ → Mode → LockState
converted None l node mode = record l { held = now_holding l.held node mode }
converted (Some cause) l node mode = record l { conversions = l.conversions ++ claim node mode ∷ [] }

-- ---- down

-- who may write a lock's value
abbrev pub writes_value : Option Mode → Bool
writes_value (Some Pw) = true
writes_value (Some Ex) = true
writes_value mode = false

-- the lock's value after a node that had this mode is lowered with this value
abbrev pub value_after : Option Mode → Option (List ℕ) → ValueBlock → ValueBlock
value_after had None value = value
value_after had (Some bytes) value = if writes_value had then record { bytes = bytes; valid = true } else value

abbrev pub lowered : LockState → ℕ → Mode → Option (List ℕ) → LockState
lowered l node mode value = record l {
  held = now_holding l.held node mode;
  value = value_after (mode_of_node l.held node) value l.value;
}

-- what the node told a new master
abbrev pub reported : LockState → ℕ → Mode → LockState
reported l node mode = record l { held = now_holding l.held node mode }

-- ---- who is granted next

-- nothing is granted while a rebuild isn't done or a slot waits
abbrev pub holds_back : Bool → ℕ → Bool
holds_back rebuild waiting = rebuild || not (waiting == 0)

-- nothing is in the way of the waiter: no holder, nobody who waits before all these, and none of these before it
abbrev pub is_free : List Claim → TurnState → Claim → Bool
is_free before t w =
    is_none (in_way t.held w.node w.mode) && is_none (in_way before w.node w.mode) && is_none (in_way t.staying w.node w.mode)

-- a waiter's turn: it is granted, or it stays
abbrev pub turn : List Claim → TurnState → Claim → TurnState
turn before t w =
    if is_free before t w
    then record { held = now_holding t.held w.node w.mode; staying = t.staying; granted = t.granted ++ w ∷ [] }
    else record { held = t.held; staying = t.staying ++ w ∷ []; granted = t.granted }

-- the conversions take their turns, and then the requests
abbrev pub conversion_turns : LockState → TurnState
conversion_turns l = fold (turn []) (record { held = l.held; staying = []; granted = [] }) l.conversions

abbrev pub all_turns : LockState → TurnState
all_turns l =
    let first = conversion_turns l in
    fold (turn first.staying) (record { held = first.held; staying = []; granted = first.granted }) l.requests

abbrev pub after_grants : LockState → LockState
after_grants l = record {
  held = (all_turns l).held;
  conversions = (conversion_turns l).staying;
  requests = (all_turns l).staying;
  value = l.value;
}

-- those who are granted, in the order of their turns, each with the lock's value
abbrev pub grants_of : LockState → List (ℕ × Mode × ValueBlock)
grants_of l = map (λ c. (c.node, c.mode, l.value)) (all_turns l).granted

-- ---- callbacks

-- the strongest mode that goes with this one
abbrev pub most_beside : Mode → Mode
most_beside Nl = Ex
most_beside Cr = Pw
most_beside Cw = Cw
most_beside Pr = Pr
most_beside Pw = Cr
most_beside Ex = Nl

-- the strongest mode that both cover
abbrev pub most_below : Mode → Mode → Mode
most_below a b = if is_at_least a b then b else if is_at_least b a then a else Cr

-- what a holder may keep beside a waiter: all that it has where the waiter is itself
abbrev pub kept_beside : ℕ → Mode → Claim → Mode
kept_beside node mode w = if is_of node w then mode else most_below mode (most_beside w.mode)

-- what a holder may keep beside all who wait
abbrev pub may_keep : LockState → Claim → Mode
may_keep l c = fold (kept_beside c.node) (fold (kept_beside c.node) c.mode l.conversions) l.requests

-- a holder that may not keep all, with what it may keep
abbrev pub callback_to : LockState → Claim → Option (ℕ × Mode)
callback_to l c = if is_at_least (may_keep l c) c.mode then None else Some (c.node, may_keep l c)

abbrev pub callbacks_of : LockState → List (ℕ × Mode)
callbacks_of l = filter_map (callback_to l) l.held
