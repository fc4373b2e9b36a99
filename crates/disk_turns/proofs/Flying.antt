-- Writes put in flight one after another, and brought to their places by a barrier.
use Rattle.std.proofs.Common.{◌≡◌, ℕ, suc, ◌+◌, ◌<◌, ◌≤◌, Bool, true, false, cond, List, [], ◌∷◌, ◌++◌, length, take, get_or, None, Result, inl, inr, refl, sym, ap, ◌∙◌, subst, arith}
use Rattle.std.specs.Prelude.{◌==◌, IsTrue, unwrap_or}
use Rattle.std.specs.List.{AllByRecursion}
use Rattle.std.proofs.lemmas.List.{map_push, length-map, length-take-le}
use Rattle.std.proofs.lemmas.Bool.{cases_eq, cond-true, ne_eqb, eq-eqb}
use Rattle.std.proofs.Math.Seq.{take-suc}
use Rattle.drafts.specs.declared.change.Written.{Written}
use Rattle.shared_disk.specs.Disk.{DiskState, Flight, after_write, after_barrier, flight_to, settled, written, with_flight, IsIdle}
use Rattle.shared_disk.specs.Causes.{MayFail}
use Rattle.shared_disk.specs.declared.disk.DiskError.{DiskError}
use Rattle.disk_turns.specs.Writing.{AreInFlight, AreOfDisk, AreWritten, RiseFrom, flights_of}
use Rattle.disk_turns.proofs.Rising.{below, put_last, none_to, both, front, back}

-- a disk at rest has no write in flight
pub flies_none : (node : ℕ) (d : DiskState) → IsIdle d → AreInFlight node d d []
flies_none node d idle = record { size = refl; count = refl; tells = refl; blocks = refl; fenced = refl; own = idle.none_in_flight node; others = λ i other. refl }

-- one more block by rising number
pub flies_more : (node : ℕ) (d now next : DiskState) (ws : List Written) (i : ℕ) (w e : Written) → RiseFrom 0 ws → i < length ws → w ≡ get_or ws i e
    → AreInFlight node d now (flights_of (take i ws)) → next ≡ after_write now node w.block w.bytes → AreInFlight node d next (flights_of (take (i + 1) ws))
flies_more node d now next ws i w e rise low is fly write = record {
  size = ap (λ (s : DiskState). s.size) write ∙ fly.size;
  count = ap (λ (s : DiskState). s.count) write ∙ fly.count;
  tells = ap (λ (s : DiskState). s.tells) write ∙ fly.tells;
  blocks = ap (λ (s : DiskState). s.block_at) write ∙ fly.blocks;
  fenced = ap (λ (s : DiskState). s.is_fenced) write ∙ fly.fenced;
  own = ap (λ (s : DiskState). s.in_flight node) write ∙ cond-true (node == node) _ _ (eq-eqb node node refl) ∙ ap (λ (fs : List Flight). with_flight fs new) fly.own
      ∙ put_last (flights_of (take i ws)) new (subst (λ (v : Written). AllByRecursion (λ (f : Flight). f.block < v.block) (flights_of (take i ws))) (sym is) (below 0 ws i e rise low).1)
      ∙ sym (map_push (λ (v : Written). record { block = v.block; bytes = v.bytes }) (take i ws) w)
      ∙ ap flights_of (ap (λ (v : Written). take i ws ++ v ∷ []) is ∙ sym (take-suc ws i e low) ∙ ap (λ k. take k ws) next_is);
  others = λ k other. ap (λ (s : DiskState). s.in_flight k) write ∙ rw (ne_eqb k node other) (fly.others k other);
}
  where
    new : Flight
    new = record { block = w.block; bytes = w.bytes }

    next_is : suc i ≡ i + 1
    next_is = omega arith

-- nothing flies yet to the next block
pub next_is_free : (node : ℕ) (d now : DiskState) (ws : List Written) (i : ℕ) (w e : Written) → RiseFrom 0 ws → i < length ws → w ≡ get_or ws i e
    → AreInFlight node d now (flights_of (take i ws)) → flight_to (now.in_flight node) w.block ≡ None
next_is_free node d now ws i w e rise low is fly =
    ap (λ (fs : List Flight). flight_to fs w.block) fly.own
    ∙ none_to (flights_of (take i ws)) w.block (subst (λ (v : Written). AllByRecursion (λ (f : Flight). f.block < v.block) (flights_of (take i ws))) (sym is) (below 0 ws i e rise low).1)

pub so_many : (ws : List Written) (i : ℕ) → i ≤ length ws → length (flights_of (take i ws)) ≡ i
so_many ws i low = length-map (take i ws) (λ (v : Written). record { block = v.block; bytes = v.bytes }) ∙ length-take-le i ws low

told : (s : DiskState) (fs : List Flight) (b : ℕ) → IsTrue s.tells → settled s fs b ≡ written s.block_at fs b
told s fs b tells = by s.tells tells
  where
    by : (t : Bool) → IsTrue t → cond t (written s.block_at fs b) (s.block_at b) ≡ written s.block_at fs b
    by true t = refl
    by false t = cc

-- the barrier brings them to their places
pub brought : (node : ℕ) (d now next : DiskState) (ws : List Written) → IsIdle d → AreInFlight node d now (flights_of ws) → next ≡ after_barrier now node → AreWritten d next ws
brought node d now next ws idle fly barrier = record {
  size = ap (λ (s : DiskState). s.size) barrier ∙ fly.size;
  count = ap (λ (s : DiskState). s.count) barrier ∙ fly.count;
  tells = ap (λ (s : DiskState). s.tells) barrier ∙ fly.tells;
  fenced = ap (λ (s : DiskState). s.is_fenced) barrier ∙ fly.fenced;
  idle = λ i. ap (λ (s : DiskState). s.in_flight i) barrier ∙ elim (cases_eq i node) [
    | inl same ↦ rw (eq-eqb i node same) refl
    | inr other ↦ rw (ne_eqb i node other) (fly.others i other ∙ idle.none_in_flight i)
  ];
  blocks_are = λ tells b. ap (λ (s : DiskState). s.block_at b) barrier ∙ told now (now.in_flight node) b (subst IsTrue (sym fly.tells) tells)
      ∙ ap (λ (fs : List Flight). written now.block_at fs b) fly.own
      ∙ ap (λ (at : ℕ → List ℕ). written at (flights_of ws) b) fly.blocks;
}

pub written_none : (d : DiskState) → IsIdle d → AreWritten d d []
written_none d idle = record { size = refl; count = refl; tells = refl; fenced = refl; idle = idle.none_in_flight; blocks_are = λ tells b. refl }

-- some, and then others behind them
pub written_more : (d now next : DiskState) (xs ys : List Written) → RiseFrom 0 (xs ++ ys) → AreWritten d now xs → AreWritten now next ys → AreWritten d next (xs ++ ys)
written_more d now next xs ys rise first second = record {
  size = second.size ∙ first.size;
  count = second.count ∙ first.count;
  tells = second.tells ∙ first.tells;
  fenced = second.fenced ∙ first.fenced;
  idle = second.idle;
  blocks_are = λ tells b. second.blocks_are (subst IsTrue (sym first.tells) tells) b ∙ ap (unwrap_or (flight_to (flights_of ys) b)) (first.blocks_are tells b) ∙ both 0 xs ys b (d.block_at b) rise;
}

pub idle_again : (d now : DiskState) (ws : List Written) → IsIdle d → AreWritten d now ws → IsIdle now
idle_again d now ws idle is = record { none_in_flight = is.idle; none_fenced = λ i. ap (λ (f : ℕ → Bool). f i) is.fenced ∙ idle.none_fenced i }

-- ---- parts of blocks of a disk

pub of_front : (d now : DiskState) (xs ys : List Written) → now.size ≡ d.size → now.count ≡ d.count → AreOfDisk d (xs ++ ys) → AreOfDisk now xs
of_front d now xs ys size count are = record {
  rise = front 0 xs ys are.rise;
  inside = subst (λ n. AllByRecursion (λ (w : Written). w.block < n) xs) (sym count) (all_front (λ (w : Written). w.block < d.count) xs ys are.inside);
  whole = subst (λ n. AllByRecursion (λ (w : Written). length w.bytes ≡ n) xs) (sym size) (all_front (λ (w : Written). length w.bytes ≡ d.size) xs ys are.whole);
}
  where
    all_front : (P : Written → Type 0) (xs ys : List Written) → AllByRecursion P (xs ++ ys) → AllByRecursion P xs
    all_front P [] ys all = tt
    all_front P (x ∷ xs) ys all = (all.0, all_front P xs ys all.1)

pub of_back : (d : DiskState) (xs ys : List Written) → AreOfDisk d (xs ++ ys) → AreOfDisk d ys
of_back d xs ys are = record {
  rise = back 0 xs ys are.rise;
  inside = all_back (λ (w : Written). w.block < d.count) xs ys are.inside;
  whole = all_back (λ (w : Written). length w.bytes ≡ d.size) xs ys are.whole;
}
  where
    all_back : (P : Written → Type 0) (xs ys : List Written) → AllByRecursion P (xs ++ ys) → AllByRecursion P ys
    all_back P [] ys all = all
    all_back P (x ∷ xs) ys all = all_back P xs ys all.1

-- ---- counts of faults

-- no count falls, also where only this node's may rise
pub none_falls : {T : Type 0} (node : ℕ) (before now : ℕ → ℕ) (r : Result T DiskError) → MayFail node before now r → (i : ℕ) → before i ≤ now i
none_falls node before now r may i = elim (cases_eq i node) [
  | inl same ↦ subst (λ j. before j ≤ now j) (sym same) may.later
  | inr other ↦ let is = may.others i other in omega (arith, is)
]
