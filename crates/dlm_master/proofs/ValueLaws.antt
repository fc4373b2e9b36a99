-- The value that was written last stands.
use Rattle.std.proofs.Common.{ℕ, ◌≡◌, Bool, true, false, List, [], ◌∷◌, Option, None, Some, cond, refl, sym, ap, ◌∙◌}
use Rattle.std.specs.Prelude.{map, option_map, unwrap_or}
use Rattle.std.specs.List.{AllByRecursion}
use Rattle.dlm_modes.specs.declared.Mode.{Mode}
use Rattle.dlm_modes.specs.declared.Mode.TheVariants.{Nl, Cr, Cw, Pr, Pw, Ex}
use Rattle.dlm_modes.specs.declared.ValueBlock.{ValueBlock}
use Rattle.dlm_modes.specs.Modes.{is_at_least}
use Rattle.dlm_master.specs.declared.claims.Claim.{Claim}
use Rattle.dlm_master.specs.declared.claims.Cause.{Cause}
use Rattle.dlm_master.specs.declared.claims.Answer.TheVariants.{Granted, Waiting}
use Rattle.dlm_master.specs.Claims.{mode_of_node}
use Rattle.dlm_master.specs.LockState.{LockState}
use Rattle.dlm_master.specs.Locks.{request_cause, requested, convert_cause, converted, value_after, answer_by, holds_back, all_turns, after_grants}
use Rattle.dlm_master.specs.Runs.{Call, Requests, Converts, Lowers, Grants, Blocks, Run, after, after_all, valid_value, written_by, last_value}
use Rattle.dlm_master.specs.Laws.{EveryLastValueStands}

-- the value after one call
abbrev next_value : Run → Call → ValueBlock
next_value r call = unwrap_or (option_map valid_value (written_by r call)) r.lock.value

pub request-value : (c : Option Cause) (l : LockState) (n : ℕ) (m : Mode) → (requested c l n m).value ≡ l.value
request-value None l n m = refl
request-value (Some cause) l n m = refl

pub convert-value : (c : Option Cause) (l : LockState) (n : ℕ) (m : Mode) → (converted c l n m).value ≡ l.value
convert-value None l n m = refl
convert-value (Some cause) l n m = refl

-- who writes a value holds Pw or above
lower-value : (had : Option Mode) (bytes : List ℕ) (value : ValueBlock) → value_after had (Some bytes) value
    ≡ unwrap_or (option_map valid_value (cond (is_at_least (unwrap_or had Nl) Pw) (Some bytes) None)) value
lower-value None bytes value = refl
lower-value (Some Nl) bytes value = refl
lower-value (Some Cr) bytes value = refl
lower-value (Some Cw) bytes value = refl
lower-value (Some Pr) bytes value = refl
lower-value (Some Pw) bytes value = refl
lower-value (Some Ex) bytes value = refl

call-value : (r : Run) (call : Call) → (after r call).lock.value ≡ next_value r call
call-value r (Requests n m) = request-value (request_cause r.rebuild r.waiting r.lock n m) r.lock n m
call-value r (Converts n m) = convert-value (convert_cause r.rebuild r.waiting r.lock n m) r.lock n m
call-value r (Lowers n m None) = refl
call-value r (Lowers n m (Some bytes)) = lower-value (mode_of_node r.lock.held n) bytes r.lock.value
call-value r Grants = by (holds_back r.rebuild r.waiting)
  where
    by : (b : Bool) → (cond b r (let n : Run = record r { lock = after_grants r.lock } in n)).lock.value ≡ r.lock.value
    by true = refl
    by false = refl
call-value r (Blocks rebuild waiting) = refl

all-value : (r : Run) (calls : List Call) → (after_all r calls).lock.value ≡ last_value r calls r.lock.value
all-value r [] = refl
all-value r (call ∷ calls) = all-value (after r call) calls ∙ ap (last_value (after r call) calls) (call-value r call)

answer-value : (cause : Option Cause) (l : LockState) (value : ValueBlock) → answer_by cause l ≡ Granted value → value ≡ l.value
answer-value None l value e = let f : Granted l.value ≡ Granted value = e in let g : l.value ≡ value = cc in sym g
answer-value (Some cause) l value e = absurd (let f : Waiting cause ≡ Granted value = e in cc)

grant-values : (cs : List Claim) (had value : ValueBlock) → had ≡ value → AllByRecursion (λ (grant : ℕ × Mode × ValueBlock). grant.2 ≡ value) (map (λ (c : Claim). (c.node, c.mode, had)) cs)
grant-values [] had value e = tt
grant-values (c ∷ cs) had value e = (e, grant-values cs had value e)

pub last-value-stands : EveryLastValueStands
last-value-stands r calls = record {
  value = all-value r calls;
  answers = λ cause value e. answer-value cause (after_all r calls).lock value e ∙ all-value r calls;
  grants = grant-values (all_turns (after_all r calls).lock).granted (after_all r calls).lock.value (last_value r calls r.lock.value) (all-value r calls);
}
