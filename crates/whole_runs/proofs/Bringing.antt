-- The disk behind each front of the operations by which node 1 brings blocks to it.
use Rattle.std.proofs.Common.{◌≡◌, ◌≢◌, ℕ, zero, suc, ◌+◌, ◌-◌, ◌*◌, ◌<◌, ◌≤◌, min, false, List, [], ◌∷◌, ◌++◌, length, take, drop, get_or, Option, None, Some, refl, sym, ap, subst, subst₂, ◌∙◌, inl, inr, arith}
use Rattle.std.proofs.lemmas.Bool.{cases_lt}
use Rattle.std.proofs.lemmas.List.{append_assoc, length-append, length-map, take-append-drop}
use Rattle.std.proofs.lemmas.Option.{slice_get-get_or}
use Rattle.disk_turns.specs.Turns.{AreBrought, BringsTo, HasStopped, HasStoppedIn, IsTurn, Moment, at_barrier, before_it, moment, most_in_flight, none, turn, turn_of, writes_of}
use Rattle.disk_turns.specs.Writing.{AreInFlight, AreWritten, RiseFrom, flights_of}
use Rattle.disk_turns.proofs.Flying.{brought, flies_more, flies_none, idle_again, written_more, written_none}
use Rattle.disk_turns.proofs.Gaining.{writes_more}
use Rattle.disk_turns.proofs.Rising.{back, front}
use Rattle.disk_turns.proofs.Stopping.{full_turn, next_turn}
use Rattle.drafts.specs.declared.change.Written.{Written}
use Rattle.logged_runs.specs.Disks.{disk_after, with_operation}
use Rattle.logged_runs.proofs.Telling.{take_all, take_front}
use Rattle.shared_disk.specs.Disk.{Barrier, DiskState, Gains, IsIdle, Operation, Write}

-- ---- operations behind operations

pub after_on : (d : DiskState) (xs ys : List Operation) → disk_after d (xs ++ ys) ≡ disk_after (disk_after d xs) ys
after_on d [] ys = refl
after_on d (o ∷ xs) ys = after_on (with_operation d o) xs ys

-- a front that has all of the first ones
pub take_behind : {A : Type 0} (n : ℕ) (xs ys : List A) → length xs ≤ n → take n (xs ++ ys) ≡ xs ++ take (n - length xs) ys
take_behind n [] ys low = ap (λ m. take m ys) (omega arith)
take_behind zero (x ∷ xs) ys low = absurd (omega (arith, low))
take_behind (suc n) (x ∷ xs) ys low = ap (λ zs. x ∷ zs) (take_behind n xs ys (omega (arith, low))) ∙ ap (λ m. x ∷ (xs ++ take m ys)) (omega arith)

writes_long : (ws : List Written) → length (writes_of 1 ws) ≡ length ws
writes_long ws = length-map ws (λ (w : Written). Write 1 w.block w.bytes)

take_writes : (n : ℕ) (ws : List Written) → take n (writes_of 1 ws) ≡ writes_of 1 (take n ws)
take_writes zero ws = refl
take_writes (suc n) [] = refl
take_writes (suc n) (w ∷ ws) = ap (λ (os : List Operation). Write 1 w.block w.bytes ∷ os) (take_writes n ws)

pub turn_long : (ws : List Written) → length (turn_of 1 ws) ≡ length ws + 1
turn_long ws = length-append (writes_of 1 ws) (Barrier 1 ∷ []) ∙ ap (λ n. n + 1) (writes_long ws)

-- ---- one turn

blank : Written
blank = record { block = 0; plain = false; bytes = [] }

module _ (d : DiskState) (idle : IsIdle d) (some : List Written) (rise : RiseFrom 0 some) where
  -- the first writes are in flight
  pub flies : (n : ℕ) → n ≤ length some → AreInFlight 1 d (disk_after d (writes_of 1 (take n some))) (flights_of (take n some))
  flies zero low = flies_none 1 d idle
  flies (suc n) low =
      let w = get_or some n blank in
      let less : n < length some = omega (arith, low) in
      let next : n + 1 ≡ suc n = omega arith in
      subst (λ m. AreInFlight 1 d (disk_after d (writes_of 1 (take m some))) (flights_of (take m some))) next
      (flies_more 1 d (disk_after d (writes_of 1 (take n some))) (disk_after d (writes_of 1 (take (n + 1) some))) some n w blank rise less refl (flies n (omega (arith, low)))
      (ap (disk_after d) (sym (writes_more 1 some n w blank less refl)) ∙ after_on d (writes_of 1 (take n some)) (Write 1 w.block w.bytes ∷ [])))

  all_fly : AreInFlight 1 d (disk_after d (writes_of 1 some)) (flights_of some)
  all_fly = subst (λ ws. AreInFlight 1 d (disk_after d (writes_of 1 ws)) (flights_of ws)) (take_all (length some) some (omega arith)) (flies (length some) (omega arith))

  pub turn_done : AreWritten d (disk_after d (turn_of 1 some)) some
  turn_done = brought 1 d (disk_after d (writes_of 1 some)) (disk_after d (turn_of 1 some)) some idle all_fly (after_on d (writes_of 1 some) (Barrier 1 ∷ []))

  -- the disk failed within it
  pub stopped_in : (n : ℕ) → n ≤ length some → (block : Option ℕ) × HasStoppedIn 1 (moment d None) (moment (disk_after d (writes_of 1 (take n some))) None) some block
  stopped_in n low = elim (cases_lt n (length some)) [
    | inl less ↦
        let w = get_or some n blank in
        (Some w.block, record { wrote = take n some; flying = take n some; stops = before_it n w (slice_get-get_or some n blank less); disk = flies n low; gains = tt })
    | inr not ↦
        let all : take n some ≡ some = take_all n some (omega (arith, not)) in
        (None, record { wrote = some; flying = some; stops = at_barrier; disk = subst (λ ws. AreInFlight 1 d (disk_after d (writes_of 1 ws)) (flights_of some)) (sym all) all_fly; gains = tt })
  ]

-- ---- all turns

pub all_written : (d : DiskState) (blocks : List Written) (operations : List Operation) → IsIdle d → RiseFrom 0 blocks → AreBrought 1 blocks operations → AreWritten d (disk_after d operations) blocks
all_written d _ _ idle rise none = written_none d idle
all_written d _ _ idle rise (turn some later operations is more) =
    let first = turn_done d idle some (front 0 some later rise) in
    subst (λ s. AreWritten d s (some ++ later)) (sym (after_on d (turn_of 1 some) operations))
    (written_more d (disk_after d (turn_of 1 some)) (disk_after (disk_after d (turn_of 1 some)) operations) some later rise first
    (all_written (disk_after d (turn_of 1 some)) later operations (idle_again d (disk_after d (turn_of 1 some)) some idle first) (back 0 some later rise) more))

no_turn : (some later : List Written) → 1 ≤ length some → some ++ later ≡ [] → ⊥
no_turn [] later low empty = omega (arith, low)
no_turn (w ∷ ws) later low empty = cc

pub none_brought : (blocks : List Written) (operations : List Operation) → AreBrought 1 blocks operations → blocks ≡ [] → operations ≡ []
none_brought _ _ none empty = refl
none_brought _ _ (turn some later operations is more) empty = absurd (no_turn some later is.not_none empty)

abbrev pub brings : (d next : DiskState) (blocks : List Written) (operations : List Operation) → next ≡ disk_after d operations → IsIdle d → RiseFrom 0 blocks → AreBrought 1 blocks operations
    → BringsTo 1 (moment d None) (moment next None) blocks
brings d next blocks operations same idle rise are = record {
  written = subst (λ s. AreWritten d s blocks) (sym same) (all_written d blocks operations idle rise are);
  operations = operations;
  brought = are;
  gains = tt;
  none = λ empty. ap (λ s. moment s None) (same ∙ ap (disk_after d) (none_brought blocks operations are empty));
}

-- ---- a front of them

gains_any : (o : Option (List Operation)) (xs ys : List Operation) → Gains None o xs → Gains None o ys
gains_any None xs ys gains = tt
gains_any (Some zs) xs ys gains = elim gains [ ]

-- a turn before what was done when it failed
module _ (d : DiskState) (some later : List Written) (is : IsTurn some later) (more : later ≢ []) (rise : RiseFrom 0 (some ++ later)) (written : AreWritten d (disk_after d (turn_of 1 some)) some) (after : Moment) (block : Option ℕ)
    (s : HasStopped 1 (moment (disk_after d (turn_of 1 some)) None) after later block) where
  long : length (some ++ s.done) ≡ suc s.turns * most_in_flight
  long = let first = is.whole more in let rest = s.whole in let all = length-append some s.done in omega (arith, first, rest, all)

  rise_front : RiseFrom 0 (some ++ s.done)
  rise_front = front 0 (some ++ s.done) (s.some ++ s.later) (subst (RiseFrom 0) (ap (λ ws. some ++ ws) s.parts ∙ sym (append_assoc some s.done (s.some ++ s.later))) rise)

  before_turn : HasStopped 1 (moment d None) after (some ++ later) block
  before_turn = record {
    done = some ++ s.done;
    some = s.some;
    later = s.later;
    parts = ap (λ ws. some ++ ws) s.parts ∙ sym (append_assoc some s.done (s.some ++ s.later));
    turns = suc s.turns;
    whole = long;
    next = s.next;
    between = s.between;
    brought = record {
      written = written_more d (disk_after d (turn_of 1 some)) s.between.disk some s.done rise_front written s.brought.written;
      operations = turn_of 1 some ++ s.brought.operations;
      brought = turn some s.done s.brought.operations (full_turn some later s.done is more) s.brought.brought;
      gains = gains_any s.between.list s.brought.operations (turn_of 1 some ++ s.brought.operations) s.brought.gains;
      none = λ empty. absurd (no_turn some s.done is.not_none empty);
    };
    stopped = s.stopped;
  }

no_operations : (later : List Written) (operations : List Operation) → AreBrought 1 later operations → later ≡ [] → length operations ≡ 0
no_operations later operations are empty = ap length (none_brought later operations are empty)

pub fails_in : (d : DiskState) (blocks : List Written) (operations : List Operation) (n : ℕ) → IsIdle d → RiseFrom 0 blocks → AreBrought 1 blocks operations → n < length operations
    → (block : Option ℕ) × HasStopped 1 (moment d None) (moment (disk_after d (take n operations)) None) blocks block
fails_in d _ _ n idle rise none low = absurd (omega (arith, low))
fails_in d _ _ n idle rise (turn some later operations is more) low = elim (cases_lt (length some) n) [
  | inr not ↦
      let few : n ≤ length some = omega (arith, not) in
      let s = stopped_in d idle some (front 0 some later rise) n few in
      let same : take n (turn_of 1 some ++ operations) ≡ writes_of 1 (take n some) = of_writes few in (
        s.0,
        subst (λ os. HasStopped 1 (moment d None) (moment (disk_after d os) None) (some ++ later) s.0) (sym same)
            (record { done = []; some = some; later = later; parts = refl; turns = 0; whole = refl; next = is; between = moment d None; brought = brings d d [] [] refl idle tt none; stopped = s.1 }),
      )
  | inl past ↦
      let written = turn_done d idle some (front 0 some later rise) in
      let left : n - length (turn_of 1 some) < length operations = under past in
      let has_more : later ≢ [] = λ empty. (let none_left = no_operations later operations more empty in omega (arith, left, none_left)) in
      let s = fails_in (disk_after d (turn_of 1 some)) later operations (n - length (turn_of 1 some)) (idle_again d (disk_after d (turn_of 1 some)) some idle written) (back 0 some later rise) more left in (
        s.0,
        subst (λ x. HasStopped 1 (moment d None) (moment x None) (some ++ later) s.0) (sym (there past))
            (before_turn d some later is has_more rise written (moment (disk_after (disk_after d (turn_of 1 some)) (take (n - length (turn_of 1 some)) operations)) None) s.0 s.1),
      )
]
  where
    of_writes : n ≤ length some → take n (turn_of 1 some ++ operations) ≡ writes_of 1 (take n some)
    of_writes few =
        let long = writes_long some in
        ap (take n) (append_assoc (writes_of 1 some) (Barrier 1 ∷ []) operations) ∙ take_front n (writes_of 1 some) (Barrier 1 ∷ operations) (omega (arith, few, long)) ∙ take_writes n some

    under : length some < n → n - length (turn_of 1 some) < length operations
    under past = let long = turn_long some in let all = length-append (turn_of 1 some) operations in omega (arith, low, past, long, all)

    there : length some < n → disk_after d (take n (turn_of 1 some ++ operations)) ≡ disk_after (disk_after d (turn_of 1 some)) (take (n - length (turn_of 1 some)) operations)
    there past =
        let long = turn_long some in
        ap (disk_after d) (take_behind n (turn_of 1 some) operations (omega (arith, past, long))) ∙ after_on d (turn_of 1 some) (take (n - length (turn_of 1 some)) operations)

-- ---- blocks can be brought so

by_length : (n : ℕ) (blocks : List Written) → length blocks ≤ n → (operations : List Operation) × AreBrought 1 blocks operations
by_length n [] low = ([], none)
by_length zero (w ∷ ws) low = absurd (omega (arith, low))
by_length (suc n) (w ∷ ws) low =
    let count = min (length (w ∷ ws)) most_in_flight in
    let is = next_turn (w ∷ ws) count (omega arith) refl in
    let shorter : length (drop count (w ∷ ws)) ≤ n = less count (w ∷ ws) is low in
    let rest = by_length n (drop count (w ∷ ws)) shorter in
    (turn_of 1 (take count (w ∷ ws)) ++ rest.0, subst (λ bs. AreBrought 1 bs (turn_of 1 (take count (w ∷ ws)) ++ rest.0)) (take-append-drop count (w ∷ ws)) (turn (take count (w ∷ ws)) (drop count (w ∷ ws)) rest.0 is rest.1))
  where
    less : (count : ℕ) (bs : List Written) → IsTurn (take count bs) (drop count bs) → length bs ≤ suc n → length (drop count bs) ≤ n
    less count bs is low = let some = is.not_none in let all = ap length (sym (take-append-drop count bs)) ∙ length-append (take count bs) (drop count bs) in omega (arith, some, all, low)

pub can_be_brought : (blocks : List Written) → (operations : List Operation) × AreBrought 1 blocks operations
can_be_brought blocks = by_length (length blocks) blocks (omega arith)

-- whole turns, and what is brought behind them
pub brought_on : (done more : List Written) (turns : ℕ) (first later : List Operation) → length done ≡ turns * most_in_flight → AreBrought 1 done first → AreBrought 1 more later → AreBrought 1 (done ++ more) (first ++ later)
brought_on _ more turns _ later whole none are = are
brought_on _ more turns _ later whole (turn some rest operations is are_rest) are =
    subst₂ (AreBrought 1) (sym (append_assoc some rest more)) (sym (append_assoc (turn_of 1 some) operations later))
    (turn some (rest ++ more) (operations ++ later) full (brought_on rest more (turns - 1) operations later short are_rest are))
  where
    all : length some + length rest ≡ turns * most_in_flight
    all = sym (length-append some rest) ∙ whole

    is_whole : length some ≡ most_in_flight
    is_whole = by rest is.whole all
      where
        by : (rest : List Written) → (rest ≢ [] → length some ≡ most_in_flight) → length some + length rest ≡ turns * most_in_flight → length some ≡ most_in_flight
        by [] so sum = let few = is.few in let some_there = is.not_none in omega (arith, few, some_there, sum)
        by (w ∷ ws) so sum = so (λ e. absurd cc)

    full : IsTurn some (rest ++ more)
    full = record { not_none = is.not_none; few = is.few; whole = λ left. is_whole }

    short : length rest ≡ (turns - 1) * most_in_flight
    short = let one = is_whole in let sum = all in omega (arith, one, sum)
