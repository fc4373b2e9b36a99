-- A call is told, or isn't, behind what was read for it.
use Rattle.std.proofs.Common.{◌≡◌, ◌≤◌, ◌+◌, ℕ, suc, Bool, true, false, List, Option, Ok, Err, refl, sym, ap, subst, ◌∙◌, true≢false}
use Rattle.std.specs.Prelude.{IfErr, IsErrAnd, OnOk, Result}
use Rattle.fault_counts.specs.Causes.{WentUp}
use Rattle.fault_counts.specs.declared.Rise.{Rise}
use Rattle.file_tree.specs.declared.call.Call.{Call}
use Rattle.lone_answers.specs.Faults.{IfDamaged, IfFailed, IsLackedBlock}
use Rattle.lone_answers.specs.Faults as faults
use Rattle.lone_answers.specs.Reading.{HasRead, Nothing, OneMore}
use Rattle.lone_answers.specs.declared.answers.Unanswered.{Unanswered}
use Rattle.lone_answers.specs.declared.answers.Unanswered.TheVariants as why
use Rattle.lone_view.specs.Seeing.{Lone}
use Rattle.shared_disk.specs.Disk.{DiskState, Operation}
use Rattle.trace_text.specs.declared.item.TraceItem.{TraceItem}
use Rattle.logged_answers.proofs.Telling.{steps_go_on}
use Rattle.logged_node.specs.declared.ends.Stop.{Stop}
use Rattle.logged_node.specs.declared.node.Node.{Node}
use Rattle.logged_node.specs.Nodes.{IsBeforeCrash, StopsByCrash, point_of}
use Rattle.logged_node.proofs.Disks.{same_on}
use Rattle.logged_node.proofs.Ended.{cause_of_all, goes_behind}
use Rattle.logged_calls.specs.Calls.{HasLooked, HasTaken, IsReady, TellsCall, TellsNoCall, most_headers}
use Rattle.logged_calls.specs.Ends.{EndsBehind, EndsUntold, HasCause, HasItsAnswer, IfNotBuilt, IfNotLoggable, IfReadFailed, IfTooSmall, StopsUntold, end_at}
use Rattle.logged_calls.specs.Ends as ends
use Rattle.logged_calls.specs.declared.ends.CallEnd.{CallEnd}
use Rattle.logged_calls.specs.declared.ends.CallEnd.TheVariants as end
use Rattle.logged_calls.proofs.Moved.{ends_untold, still_here, stops_there}

-- ---- behind what was read

reads_on : (d : DiskState) (u v w : Lone) → HasRead d u v → HasRead d v w → HasRead d u w
reads_on d u v _ first Nothing = first
reads_on d u v _ first (OneMore now next before one) = OneMore now next (reads_on d u v now first before) one

module _ (d e f : DiskState) (l k h : Option (List Operation)) (n m o : Node) (looked : HasLooked d l n e k m) where
  read_behind : (v : Lone) → HasRead e m.view v → HasRead d n.view v
  read_behind v more = reads_on d n.view m.view v looked.read (subst (λ (x : DiskState). HasRead x m.view v) looked.disk more)

  pub taken_behind : (time : ℕ) (name : List ℕ) (call : Call) → HasTaken time name call e k m f h o → HasTaken time name call d l n f h o
  taken_behind time name call t = record {
    steps = steps_go_on time (point_of d l n) (point_of e k m) (point_of f h o) (looked.goes.steps time) t.steps;
    disk = same_on d e f looked.goes.disk t.disk;
    ready = t.ready;
    armed = t.armed ∙ looked.goes.armed;
    before = subst (λ (c : Option ℕ). IsBeforeCrash c o.items.items) looked.goes.armed t.before;
    view = t.view;
    read = read_behind t.view t.read;
    tells = subst (λ (x : Node). TellsCall t.view time name call (suc x.numbers.answered) x.items.items o.items.items) looked.node t.tells;
    answered = t.answered ∙ ap (λ (x : Node). suc x.numbers.answered) looked.node;
    journal = t.journal ∙ ap (λ (x : Node). x.log.journal) looked.node;
    sequence = subst (λ (x : Node). o.log.sequence ≤ x.log.sequence + most_headers) looked.node t.sequence;
  }

  untold_behind : EndsUntold e k m f h o → EndsUntold d l n f h o
  untold_behind u = record {
    goes = goes_behind d e f l k h n m o looked.goes u.goes;
    ready = u.ready;
    read = read_behind o.view u.read;
    answered = u.answered ∙ ap (λ (x : Node). x.numbers.answered) looked.node;
    tells = subst (λ (x : Node). TellsNoCall x.items.items o.items.items) looked.node u.tells;
    sequence = subst (λ (x : Node). o.log.sequence ≤ x.log.sequence + most_headers) looked.node u.sequence;
  }

  stops_behind : (items : List TraceItem) (why : Stop) → StopsUntold e k m f h items why → StopsUntold d l n f h items why
  stops_behind items why s = record {
    last = s.last;
    left = s.left;
    steps = λ time. steps_go_on time (point_of d l n) (point_of e k m) s.last (looked.goes.steps time) (s.steps time);
    fails = s.fails;
    exactly = s.exactly;
    disk = s.disk;
    listed = s.listed;
    told = s.told;
    read = read_behind s.last.view s.read;
    answered = s.answered ∙ ap (λ (x : Node). x.numbers.answered) looked.node;
    next = s.next;
    unmounts = s.unmounts;
    tells = subst (λ (x : Node). TellsNoCall x.items.items items) looked.node s.tells;
    sequence = subst (λ (x : Node). s.last.log.sequence ≤ x.log.sequence + most_headers) looked.node s.sequence;
    crashes = subst (λ (c : Option ℕ). StopsByCrash c items why) looked.goes.armed s.crashes;
  }

  pub ends_behind : (x : CallEnd) → EndsBehind e k m f h o x → EndsBehind d l n f h o x
  ends_behind (end.Stopped why) s = stops_behind o.items.items why s
  ends_behind (end.ReadFailed block rise) u = untold_behind u
  ends_behind (end.Damaged block rule) u = untold_behind u
  ends_behind end.NotBuilt u = untold_behind u
  ends_behind end.LogTooSmall u = untold_behind u
  ends_behind end.NotLoggable u = untold_behind u

-- it ends where it looked
ends_here : (d : DiskState) (l : Option (List Operation)) (n : Node) → IsReady d n → (w : Unanswered) → EndsBehind d l n d l n (end_at w)
ends_here d l n ready (why.DiskFailed block rise) = ends_untold d d l l n n (still_here 3 d l n ready)
ends_here d l n ready (why.Damaged block rule) = ends_untold d d l l n n (still_here 3 d l n ready)
ends_here d l n ready why.NotBuilt = ends_untold d d l l n n (still_here 3 d l n ready)
ends_here d l n ready why.NoMemory = stops_there d d l l n n n.items.items (still_here 3 d l n ready) refl

pub looked_ends : (d e : DiskState) (l k : Option (List Operation)) (n m : Node) → HasLooked d l n e k m → (w : Unanswered) (x : CallEnd) → x ≡ end_at w → EndsBehind d l n e k m x
looked_ends d e l k n m looked w x is = subst (EndsBehind d l n e k m) (sym is) (ends_behind d e e l k k n m m looked (end_at w) (ends_here e k m looked.ready w))

-- ---- why it wasn't answered

pub failed_at : (P : ℕ → Rise → Type 0) (w : Unanswered) (x : CallEnd) → x ≡ end_at w → IfFailed w P → IfReadFailed x P
failed_at P w x is p = subst (λ (y : CallEnd). IfReadFailed y P) (sym is) (by w p)
  where
    by : (w : Unanswered) → IfFailed w P → IfReadFailed (end_at w) P
    by (why.DiskFailed block rise) p = p
    by (why.Damaged block rule) p = tt
    by why.NotBuilt p = tt
    by why.NoMemory p = tt

pub damaged_at : (P : ℕ → ℕ → Type 0) (w : Unanswered) (x : CallEnd) → x ≡ end_at w → IfDamaged w P → ends.IfDamaged x P
damaged_at P w x is p = subst (λ (y : CallEnd). ends.IfDamaged y P) (sym is) (by w p)
  where
    by : (w : Unanswered) → IfDamaged w P → ends.IfDamaged (end_at w) P
    by (why.DiskFailed block rise) p = tt
    by (why.Damaged block rule) p = p
    by why.NotBuilt p = tt
    by why.NoMemory p = tt

pub unbuilt_at : (P : Type 0) (w : Unanswered) (x : CallEnd) → x ≡ end_at w → faults.IfNotBuilt w P → IfNotBuilt x P
unbuilt_at P w x is p = subst (λ (y : CallEnd). IfNotBuilt y P) (sym is) (by w p)
  where
    by : (w : Unanswered) → faults.IfNotBuilt w P → IfNotBuilt (end_at w) P
    by (why.DiskFailed block rise) p = tt
    by (why.Damaged block rule) p = tt
    by why.NotBuilt p = p
    by why.NoMemory p = tt

-- it isn't for the log
pub not_for_log : (P : Type 0) (w : Unanswered) (x : CallEnd) → x ≡ end_at w → IfTooSmall x P × IfNotLoggable x P
not_for_log P w x is = subst (λ (y : CallEnd). IfTooSmall y P × IfNotLoggable y P) (sym is) (by w)
  where
    by : (w : Unanswered) → IfTooSmall (end_at w) P × IfNotLoggable (end_at w) P
    by (why.DiskFailed block rise) = (tt, tt)
    by (why.Damaged block rule) = (tt, tt)
    by why.NotBuilt = (tt, tt)
    by why.NoMemory = (tt, tt)

pub cause_at : (count : ℕ) (before now : ℕ → ℕ) (v : Lone) (call : Call) (w : Unanswered) (x : CallEnd) → x ≡ end_at w
    → IfFailed w (λ block rise. WentUp (before 1) (now 1) rise.before rise.after) → IfFailed w (λ block rise. IsLackedBlock v count call block) → HasCause count before now x
cause_at count before now v call w x is went lacked = subst (HasCause count before now) (sym is) (by w went lacked)
  where
    by : (w : Unanswered) → IfFailed w (λ block rise. WentUp (before 1) (now 1) rise.before rise.after) → IfFailed w (λ block rise. IsLackedBlock v count call block) → HasCause count before now (end_at w)
    by (why.DiskFailed block rise) went lacked = (went, lacked.inside)
    by (why.Damaged block rule) went lacked = tt
    by why.NotBuilt went lacked = tt
    by why.NoMemory went lacked = tt

-- ---- it ends behind its answer

pub none_failed : (P : ℕ → Rise → Type 0) (x : CallEnd) → HasItsAnswer x → IfReadFailed x P
none_failed P (end.Stopped why) has = tt
none_failed P (end.ReadFailed block rise) has = absurd has
none_failed P (end.Damaged block rule) has = absurd has
none_failed P end.NotBuilt has = absurd has
none_failed P end.LogTooSmall has = tt
none_failed P end.NotLoggable has = tt

pub none_damaged : (P : ℕ → ℕ → Type 0) (x : CallEnd) → HasItsAnswer x → ends.IfDamaged x P
none_damaged P (end.Stopped why) has = tt
none_damaged P (end.ReadFailed block rise) has = absurd has
none_damaged P (end.Damaged block rule) has = absurd has
none_damaged P end.NotBuilt has = absurd has
none_damaged P end.LogTooSmall has = tt
none_damaged P end.NotLoggable has = tt

pub none_unbuilt : (P : Type 0) (x : CallEnd) → HasItsAnswer x → IfNotBuilt x P
none_unbuilt P (end.Stopped why) has = tt
none_unbuilt P (end.ReadFailed block rise) has = absurd has
none_unbuilt P (end.Damaged block rule) has = absurd has
none_unbuilt P end.NotBuilt has = absurd has
none_unbuilt P end.LogTooSmall has = tt
none_unbuilt P end.NotLoggable has = tt

-- with a cause from then on it has one from before
pub cause_behind : (count count' : ℕ) (before mid now : ℕ → ℕ) (x : CallEnd) → count' ≡ count → before 1 ≤ mid 1 → HasItsAnswer x → HasCause count' mid now x → HasCause count before now x
cause_behind count count' before mid now (end.Stopped why) same later has cause = cause_of_all count count' before mid now why same later cause
cause_behind count count' before mid now (end.ReadFailed block rise) same later has cause = absurd has
cause_behind count count' before mid now (end.Damaged block rule) same later has cause = tt
cause_behind count count' before mid now end.NotBuilt same later has cause = tt
cause_behind count count' before mid now end.LogTooSmall same later has cause = tt
cause_behind count count' before mid now end.NotLoggable same later has cause = tt

-- ---- of what comes of it

pub both_ends : {A E : Type 0} (r : Result A E) (P Q S : E → Type 0) → ((x : E) → P x → Q x → S x) → IfErr r P → IfErr r Q → IfErr r S
both_ends (Ok _) P Q S so p q = tt
both_ends (Err x) P Q S so p q = so x p q

pub both_done : {A E : Type 0} (r : Result A E) (P Q S : Type 0) → (P → Q → S) → OnOk r P → OnOk r Q → OnOk r S
both_done (Ok _) P Q S so p q = so p q
both_done (Err _) P Q S so p q = tt

-- an end that is handed on
pub handed_on : {A E : Type 0} (r : Result A E) (y : E) (P : E → Type 0) → IsErrAnd r (λ x. x ≡ y) → P y → IfErr r P
handed_on (Ok _) y P is p = absurd is
handed_on (Err x) y P is p = subst P (sym is) p

pub none_done : {A E : Type 0} (r : Result A E) (Q : E → Type 0) (P : Type 0) → IsErrAnd r Q → OnOk r P
none_done (Ok _) Q P is = absurd is
none_done (Err x) Q P is = tt

-- a test that doesn't pass
pub not_so : (a b : Bool) → (b ≡ true → a ≡ true) → a ≡ false → b ≡ false
not_so a true so is = absurd (true≢false (sym (so refl) ∙ is))
not_so a false so is = refl
