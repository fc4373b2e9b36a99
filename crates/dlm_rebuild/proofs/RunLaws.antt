-- A rebuilt table has each node's last report.
use Rattle.std.proofs.Common.{ℕ, ◌≡◌, true, List, [], ◌∷◌, ◌++◌, Option, None, cond, refl, sym, ap, ◌∙◌, append_assoc, append-nil}
use Rattle.std.specs.Prelude.{◌==◌, unwrap_or}
use Rattle.dlm_modes.specs.declared.Mode.{Mode}
use Rattle.dlm_modes.specs.declared.Mode.TheVariants.{Nl}
use Rattle.dlm_modes.specs.Modes.{go_together, not_valid}
use Rattle.dlm_master.specs.Claims.{mode_of_node, mode_at, OneEach}
use Rattle.dlm_master.specs.LockState.{LockState}
use Rattle.dlm_master.specs.Locks.{free_lock, claim, request_cause, convert_cause}
use Rattle.dlm_master.specs.Laws.{IsSound}
use Rattle.dlm_master.proofs.ClaimLaws.{mode-now, one-now}
use Rattle.dlm_master.proofs.RunLaws.{together-of}
use Rattle.dlm_master.proofs.SoundLaws.{sound-now, sound-requested, sound-converted, sound-locks-stay-sound}
use Rattle.dlm_rebuild.specs.Runs.{Call, Reports, Lowers, Requests, Converts, after, after_all, MayCallAll, told, last_told, conversions_in, requests_in, RebuiltFromReports}

reports-from : (calls : List Call) (l : LockState) (node : ℕ) (before : Option Mode) → OneEach l.held → mode_of_node l.held node ≡ before
    → mode_of_node (after_all l calls).held node ≡ last_told calls node before
reports-from [] l node before all e = e
reports-from (Reports other mode ∷ calls) l node before all e =
    reports-from calls (after l (Reports other mode)) node (cond (other == node) (told mode) before) (one-now l.held other mode all)
    (mode-now l.held other mode node all ∙ ap (cond (other == node) (told mode)) e)
reports-from (Lowers other mode ∷ calls) l node before all e =
    reports-from calls (after l (Lowers other mode)) node (cond (other == node) (told mode) before) (one-now l.held other mode all)
    (mode-now l.held other mode node all ∙ ap (cond (other == node) (told mode)) e)
reports-from (Requests other mode ∷ calls) l node before all e = reports-from calls (after l (Requests other mode)) node before all e
reports-from (Converts other mode ∷ calls) l node before all e = reports-from calls (after l (Converts other mode)) node before all e

value-from : (calls : List Call) (l : LockState) → l.value ≡ not_valid → (after_all l calls).value ≡ not_valid
value-from [] l e = e
value-from (Reports node mode ∷ calls) l e = value-from calls (after l (Reports node mode)) e
value-from (Lowers node mode ∷ calls) l e = value-from calls (after l (Lowers node mode)) e
value-from (Requests node mode ∷ calls) l e = value-from calls (after l (Requests node mode)) e
value-from (Converts node mode ∷ calls) l e = value-from calls (after l (Converts node mode)) e

once-from : (calls : List Call) (l : LockState) → OneEach l.held → OneEach (after_all l calls).held
once-from [] l one = one
once-from (Reports node mode ∷ calls) l one = once-from calls (after l (Reports node mode)) (one-now l.held node mode one)
once-from (Lowers node mode ∷ calls) l one = once-from calls (after l (Lowers node mode)) (one-now l.held node mode one)
once-from (Requests node mode ∷ calls) l one = once-from calls (after l (Requests node mode)) one
once-from (Converts node mode ∷ calls) l one = once-from calls (after l (Converts node mode)) one

sound-from : (calls : List Call) (l : LockState) → MayCallAll l calls → IsSound l → IsSound (after_all l calls)
sound-from [] l may s = s
sound-from (Reports node mode ∷ calls) l may s = sound-from calls (after l (Reports node mode)) may.1 (sound-now l node mode l.value may.0 s)
sound-from (Lowers node mode ∷ calls) l may s = sound-from calls (after l (Lowers node mode)) may.1 (sound-now l node mode l.value may.0.1 s)
sound-from (Requests node mode ∷ calls) l may s =
    sound-from calls (after l (Requests node mode)) may.1 (sound-requested (request_cause true 0 l node mode) l node mode may.0.0 may.0.1 s)
sound-from (Converts node mode ∷ calls) l may s =
    sound-from calls (after l (Converts node mode)) may.1 (sound-converted (convert_cause true 0 l node mode) l node mode may.0.0 may.0.1 s)

conversions-from : (calls : List Call) (l : LockState) → (after_all l calls).conversions ≡ l.conversions ++ conversions_in calls
conversions-from [] l = sym (append-nil l.conversions)
conversions-from (Reports node mode ∷ calls) l = conversions-from calls (after l (Reports node mode))
conversions-from (Lowers node mode ∷ calls) l = conversions-from calls (after l (Lowers node mode))
conversions-from (Requests node mode ∷ calls) l = conversions-from calls (after l (Requests node mode))
conversions-from (Converts node mode ∷ calls) l = conversions-from calls (after l (Converts node mode)) ∙ append_assoc l.conversions (claim node mode ∷ []) (conversions_in calls)

requests-from : (calls : List Call) (l : LockState) → (after_all l calls).requests ≡ l.requests ++ requests_in calls
requests-from [] l = sym (append-nil l.requests)
requests-from (Reports node mode ∷ calls) l = requests-from calls (after l (Reports node mode))
requests-from (Lowers node mode ∷ calls) l = requests-from calls (after l (Lowers node mode))
requests-from (Requests node mode ∷ calls) l = requests-from calls (after l (Requests node mode)) ∙ append_assoc l.requests (claim node mode ∷ []) (requests_in calls)
requests-from (Converts node mode ∷ calls) l = requests-from calls (after l (Converts node mode))

pub rebuilt : RebuiltFromReports
rebuilt calls =
    let reports : (node : ℕ) → mode_of_node (after_all free_lock calls).held node ≡ last_told calls node None = λ node. reports-from calls free_lock node None tt refl in
    let once = once-from calls free_lock tt in
    record {
      reports = reports;
      once = once;
      together = λ goes. together-of (after_all free_lock calls).held once
          (λ i k ne. ap (λ (o : Option Mode). go_together (unwrap_or o Nl) (mode_at (after_all free_lock calls).held k)) (reports i)
          ∙ (ap (λ (o : Option Mode). go_together (unwrap_or (last_told calls i None) Nl) (unwrap_or o Nl)) (reports k) ∙ goes i k ne));
      conversions = conversions-from calls free_lock;
      requests = requests-from calls free_lock;
      value = value-from calls free_lock refl;
      sound = λ may. sound-from calls free_lock may sound-locks-stay-sound.free;
    }
