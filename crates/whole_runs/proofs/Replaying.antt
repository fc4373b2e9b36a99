-- The disk behind each front of the operations of a replay.
use Rattle.std.proofs.Common.{◌≡◌, ◌⊎◌, ℕ, zero, suc, ◌+◌, ◌-◌, ◌<◌, ◌≤◌, List, [], ◌∷◌, ◌++◌, length, take, drop, get_or, Option, None, Some, refl, sym, ap, subst, ◌∙◌, inl, inr, arith}
use Rattle.std.specs.Prelude.{IsTrue, MatchOption, slice_get}
use Rattle.std.specs.List.{AllByRecursion}
use Rattle.std.proofs.lemmas.Bool.{cases_eq, cases_lt}
use Rattle.std.proofs.lemmas.List.{append_assoc, length-append, take-append-drop}
use Rattle.std.proofs.lemmas.Option.{slice_get_within}
use Rattle.disk_items.specs.Deeds.{AreDoneBy, Deed, MadeBarrier, WasFenced, Wrote}
use Rattle.disk_items.proofs.Going.{goes_on}
use Rattle.disk_turns.specs.Turns.{AreBrought, BringsTo, HasStopped, HasStoppedIn, Moment, StopsAt, at_barrier, before_it, behind_it, moment, turn, turn_of, writes_of}
use Rattle.disk_turns.specs.Writing.{AreInFlight, AreWritten, RiseFrom, flights_of}
use Rattle.disk_turns.proofs.Flying.{idle_again}
use Rattle.disk_turns.proofs.Gaining.{gains_join, gains_none}
use Rattle.disk_turns.proofs.Rising.{back, front}
use Rattle.drafts.specs.declared.change.Written.{Written}
use Rattle.image_mount.specs.Mounted.{Journal}
use Rattle.cut_replays.specs.Recoveries.{AreReplays}
use Rattle.journal_replays.specs.Headers.{clean_block}
use Rattle.journal_replays.specs.Items.{items_of}
use Rattle.journal_replays.specs.Replays.{IsReplay, IsReplayWith, StopsBringing, StopsReplay, StopsReplayBy, at_header, at_home}
use Rattle.log_layout.specs.declared.log_header.LogHeader.{LogHeader}
use Rattle.logged_runs.specs.Disks.{disk_after}
use Rattle.logged_runs.proofs.Telling.{append_nil, take_all, take_front}
use Rattle.peer_replay.specs.declared.planned.Plan.{Plan}
use Rattle.shared_disk.specs.Disk.{Barrier, DiskState, Fence, Flight, Gains, IsIdle, Operation, Write}
use Rattle.trace_text.specs.declared.item.TraceItem.{TraceItem}
use Rattle.trace_text.specs.declared.item.TraceItem.TheVariants as trace
use Rattle.whole_runs.specs.Wholes.{IsOneWrite, no_write, one_write}
use Rattle.whole_runs.proofs.Bringing.{after_on, all_written, brings, brought_on, can_be_brought, fails_in, flies, take_behind}

-- ---- the operations of a replay

-- what each plan puts home has rising numbers
abbrev pub AllRise : List Plan → Type 0
AllRise ps = AllByRecursion (λ (p : Plan). RiseFrom 0 p.home.items) ps

-- the block of the header that ends the replay of a journal
abbrev pub head_of : (size slot time : ℕ) → Journal → LogHeader → Written
head_of size slot time j header = clean_block size (get_or j.blocks header.blkno 0) slot j.dinode time header

-- Of journals that are replayed by these plans, from this slot on: nothing where a plan has no header, else what goes home and then the header.
pub data HasOps (size time : ℕ) : ℕ → List Journal → List Plan → List Operation → Type 0 where
  no_more : (slot : ℕ) → HasOps size time slot [] [] []
  passes : (slot : ℕ) (j : Journal) (js : List Journal) (p : Plan) (ps : List Plan) (operations : List Operation) → p.clean ≡ None → HasOps size time (slot + 1) js ps operations
      → HasOps size time slot (j ∷ js) (p ∷ ps) operations
  replays : (slot : ℕ) (j : Journal) (js : List Journal) (p : Plan) (ps : List Plan) (header : LogHeader) (homes heads operations : List Operation) → p.clean ≡ Some header → AreBrought 1 p.home.items homes
      → AreBrought 1 (head_of size slot time j header ∷ []) heads → HasOps size time (slot + 1) js ps operations → HasOps size time slot (j ∷ js) (p ∷ ps) ((homes ++ heads) ++ operations)

-- items of operations tell these
pub done_items : (operations : List Operation) → AreDoneBy (items_of operations) operations
done_items [] = refl
done_items (Write node block bytes ∷ os) = ap (λ (ds : List Deed). Wrote node block ∷ ds) (done_items os)
done_items (Barrier node ∷ os) = ap (λ (ds : List Deed). MadeBarrier node ∷ ds) (done_items os)
done_items (Fence node became ∷ os) = ap (λ (ds : List Deed). WasFenced node ∷ ds) (done_items os)

pub record OpsOf (time slot : ℕ) (before after : Moment) (js : List Journal) (ps : List Plan) (items : List TraceItem) : Type 0 where
  pub operations : List Operation
  pub has : HasOps before.disk.size time slot js ps operations
  pub gains : Gains before.list after.list operations
  pub done : AreDoneBy items operations
  pub disk : IsTrue before.disk.tells → IsIdle before.disk → AllRise ps → after.disk ≡ disk_after before.disk operations

-- disks on which the same is written are the same
same_written : (d x y : DiskState) (blocks : List Written) → IsTrue d.tells → AreWritten d x blocks → AreWritten d y blocks → x ≡ y
same_written d x y blocks tells one two = λ i. record {
  count = (one.count ∙ sym two.count) i;
  size = (one.size ∙ sym two.size) i;
  tells = (one.tells ∙ sym two.tells) i;
  block_at = λ b. (one.blocks_are tells b ∙ sym (two.blocks_are tells b)) i;
  in_flight = λ n. (one.idle n ∙ sym (two.idle n)) i;
  is_fenced = (one.fenced ∙ sym two.fenced) i;
}

-- the disk to which blocks were brought is as the operations have made it
brought_disk : (before after : Moment) (blocks : List Written) → IsTrue before.disk.tells → IsIdle before.disk → RiseFrom 0 blocks → (is : BringsTo 1 before after blocks) → after.disk ≡ disk_after before.disk is.operations
brought_disk before after blocks tells idle rise is =
    same_written before.disk after.disk (disk_after before.disk is.operations) blocks tells is.written (all_written before.disk blocks is.operations idle rise is.brought)

pub replayed_disk : (slot time : ℕ) (before next : Moment) (home : List Written) (header : Written) (items : List TraceItem) → IsTrue before.disk.tells → IsIdle before.disk → RiseFrom 0 home
    → (is : IsReplay 1 slot before next home header items) → next.disk ≡ disk_after before.disk (is.homes.operations ++ is.headed.operations)
replayed_disk slot time before next home header items tells idle rise is =
    brought_disk is.between next (header ∷ []) (subst IsTrue (sym is.homes.written.tells) tells) (idle_again before.disk is.between.disk home idle is.homes.written) (omega arith, tt) is.headed
    ∙ ap (λ d. disk_after d is.headed.operations) (brought_disk before is.between home tells idle rise is.homes)
    ∙ sym (after_on before.disk is.homes.operations is.headed.operations)

-- the items of one replay tell its operations
pub one_done : (slot : ℕ) (before next : Moment) (home : List Written) (header : Written) (first : List TraceItem) (is : IsReplay 1 slot before next home header first) → AreDoneBy first (is.homes.operations ++ is.headed.operations)
one_done slot before next home header first is =
    subst (λ is'. AreDoneBy is' (is.homes.operations ++ is.headed.operations)) (sym is.told)
    (goes_on (items_of is.homes.operations) (items_of is.headed.operations ++ recovered) is.homes.operations is.headed.operations (done_items is.homes.operations)
    (subst (AreDoneBy (items_of is.headed.operations ++ recovered)) (append_nil is.headed.operations) headed_done))
  where
    recovered : List TraceItem
    recovered = trace.Recovered slot 1 ∷ []

    headed_done : AreDoneBy (items_of is.headed.operations ++ recovered) (is.headed.operations ++ [])
    headed_done = goes_on (items_of is.headed.operations) recovered is.headed.operations [] (done_items is.headed.operations) refl

-- one journal more before others
module _ (time slot : ℕ) (before next after : Moment) (j : Journal) (js : List Journal) (p : Plan) (ps : List Plan) (first later items : List TraceItem) (are : items ≡ first ++ later) (rest : OpsOf time (slot + 1) next after js ps later) where
  abbrev pub no_replay : p.clean ≡ None → (next ≡ before) × (first ≡ []) → OpsOf time slot before after (j ∷ js) (p ∷ ps) items
  no_replay clean still = record {
    operations = rest.operations;
    has = passes slot j js p ps rest.operations clean (subst (λ (m : Moment). HasOps m.disk.size time (slot + 1) js ps rest.operations) still.0 rest.has);
    gains = subst (λ (m : Moment). Gains m.list after.list rest.operations) still.0 rest.gains;
    done = subst (λ is. AreDoneBy is rest.operations) (sym (are ∙ ap (λ is. is ++ later) still.1)) rest.done;
    disk = λ tells idle rise. subst (λ (m : Moment). IsTrue m.disk.tells → IsIdle m.disk → AllRise ps → after.disk ≡ disk_after m.disk rest.operations) still.0 rest.disk tells idle rise.1;
  }

  abbrev pub one_replay : (header : LogHeader) → p.clean ≡ Some header → IsReplay 1 slot before next p.home.items (head_of before.disk.size slot time j header) first → OpsOf time slot before after (j ∷ js) (p ∷ ps) items
  one_replay header clean is = record {
    operations = (is.homes.operations ++ is.headed.operations) ++ rest.operations;
    has = replays slot j js p ps header is.homes.operations is.headed.operations rest.operations clean is.homes.brought is.headed.brought
        (subst (λ n. HasOps n time (slot + 1) js ps rest.operations) (is.headed.written.size ∙ is.homes.written.size) rest.has);
    gains = gains_join before.list next.list after.list (is.homes.operations ++ is.headed.operations) rest.operations
        (gains_join before.list is.between.list next.list is.homes.operations is.headed.operations is.homes.gains is.headed.gains) rest.gains;
    done = subst (λ is'. AreDoneBy is' ((is.homes.operations ++ is.headed.operations) ++ rest.operations)) (sym are)
        (goes_on first later (is.homes.operations ++ is.headed.operations) rest.operations (one_done slot before next p.home.items (head_of before.disk.size slot time j header) first is) rest.done);
    disk = λ tells idle rise.
        let next_is = replayed_disk slot time before next p.home.items (head_of before.disk.size slot time j header) first tells idle rise.0 is in
        let between_idle = idle_again before.disk is.between.disk p.home.items idle is.homes.written in
        rest.disk (subst IsTrue (sym (is.headed.written.tells ∙ is.homes.written.tells)) tells) (idle_again is.between.disk next.disk (head_of before.disk.size slot time j header ∷ []) between_idle is.headed.written) rise.1
        ∙ ap (λ d. disk_after d rest.operations) next_is ∙ sym (after_on before.disk (is.homes.operations ++ is.headed.operations) rest.operations);
  }

pub ops_of : (time slot : ℕ) (before after : Moment) (js : List Journal) (ps : List Plan) (items : List TraceItem) → AreReplays 1 slot time before js ps after items → OpsOf time slot before after js ps items
ops_of time slot before after [] [] items (same, empty) = record {
  operations = [];
  has = no_more slot;
  gains = subst (λ (m : Moment). Gains before.list m.list []) (sym same) (gains_none before.list);
  done = subst (λ is. AreDoneBy is []) (sym empty) refl;
  disk = λ tells idle rise. ap (λ (m : Moment). m.disk) same;
}
ops_of time slot before after [] (p ∷ ps) items is = absurd is
ops_of time slot before after (j ∷ js) [] items is = absurd is
ops_of time slot before after (j ∷ js) (p ∷ ps) items (next, first, later, are, one, others) = by (ops_of time (slot + 1) next after js ps later others) p.clean refl one
  where
    by : OpsOf time (slot + 1) next after js ps later → (o : Option LogHeader) → p.clean ≡ o → IsReplayWith 1 slot j.dinode j.blocks time before next p.home.items o first → OpsOf time slot before after (j ∷ js) (p ∷ ps) items
    by rest None clean still = no_replay time slot before next after j js p ps first later items are rest clean still
    by rest (Some header) clean is = one_replay time slot before next after j js p ps first later items are rest header clean is

-- ---- where it has come to

-- some journals are through, in the replay of the next one the disk failed
pub record FailsIn (time slot : ℕ) (first : DiskState) (js : List Journal) (ps : List Plan) (left : DiskState) : Type 0 where
  pub count : ℕ
  pub there : DiskState
  pub items : List TraceItem
  pub before : AreReplays 1 slot time (moment first None) (take count js) (take count ps) (moment there None) items
  pub journal : Journal
  pub plan : Plan
  pub at_journal : slice_get js count ≡ Some journal
  pub at_plan : slice_get ps count ≡ Some plan
  pub block : Option ℕ
  pub more : List TraceItem
  pub stopped : StopsReplayBy 1 (slot + count) journal.dinode journal.blocks time (moment there None) (moment left None) plan block more

-- or of the others nothing was done
pub record PassesSome (time slot : ℕ) (first : DiskState) (js : List Journal) (ps : List Plan) (left : DiskState) : Type 0 where
  pub count : ℕ
  pub items : List TraceItem
  pub before : AreReplays 1 slot time (moment first None) (take count js) (take count ps) (moment left None) items
  pub idle : IsIdle left

abbrev pub IsFrontOf : (time slot : ℕ) (first : DiskState) (js : List Journal) (ps : List Plan) (left : DiskState) → Type 0
IsFrontOf time slot first js ps left = FailsIn time slot first js ps left ⊎ PassesSome time slot first js ps left

-- one journal more, which is through
behind_one : (time slot : ℕ) (first next : DiskState) (j : Journal) (js : List Journal) (p : Plan) (ps : List Plan) (left : DiskState) (own : List TraceItem)
    → IsReplayWith 1 slot j.dinode j.blocks time (moment first None) (moment next None) p.home.items p.clean own → IsFrontOf time (slot + 1) next js ps left → IsFrontOf time slot first (j ∷ js) (p ∷ ps) left
behind_one time slot first next j js p ps left own one (inr is) = inr (record { count = suc is.count; items = own ++ is.items; before = (moment next None, own, is.items, refl, one, is.before); idle = is.idle })
behind_one time slot first next j js p ps left own one (inl is) = inl (record {
  count = suc is.count;
  there = is.there;
  items = own ++ is.items;
  before = (moment next None, own, is.items, refl, one, is.before);
  journal = is.journal;
  plan = is.plan;
  at_journal = is.at_journal;
  at_plan = is.at_plan;
  block = is.block;
  more = is.more;
  stopped = subst (λ n. StopsReplayBy 1 n is.journal.dinode is.journal.blocks time (moment is.there None) (moment left None) is.plan is.block is.more) (let same : (slot + 1) + is.count ≡ slot + suc is.count = omega arith in same) is.stopped;
})

-- ---- in the replay of one journal

module _ (first : DiskState) (idle : IsIdle first) (home : List Written) (rise : RiseFrom 0 home) (header : Written) (homes heads : List Operation) (at_homes : AreBrought 1 home homes) (at_heads : AreBrought 1 (header ∷ []) heads) where
  between : DiskState
  between = disk_after first homes

  between_idle : IsIdle (disk_after first homes)
  between_idle = idle_again first (disk_after first homes) home idle (all_written first home homes idle rise at_homes)

  fails_there : (n : ℕ) → n < length (homes ++ heads) → (block : Option ℕ) × (items : List TraceItem) × StopsReplay 1 (moment first None) (moment (disk_after first (take n (homes ++ heads))) None) home header block items
  fails_there n low = elim (cases_lt n (length homes)) [
    | inl less ↦
        let s = fails_in first home homes n idle rise at_homes less in
        let same : take n (homes ++ heads) ≡ take n homes = take_front n homes heads (omega (arith, less)) in (
          s.0,
          items_of s.1.brought.operations ++ items_of (writes_of 1 s.1.stopped.wrote),
          subst (λ os. StopsReplay 1 (moment first None) (moment (disk_after first os) None) home header s.0 (items_of s.1.brought.operations ++ items_of (writes_of 1 s.1.stopped.wrote))) (sym same)
              (at_home (record { stopped = s.1; told = refl })),
        )
    | inr not ↦
        let past : length homes ≤ n = omega (arith, not) in
        let all = length-append homes heads in
        let s = fails_in (disk_after first homes) (header ∷ []) heads (n - length homes) between_idle (omega arith, tt) at_heads (omega (arith, low, past, all)) in
        let same : disk_after first (take n (homes ++ heads)) ≡ disk_after (disk_after first homes) (take (n - length homes) heads)
        = ap (disk_after first) (take_behind n homes heads past) ∙ after_on first homes (take (n - length homes) heads) in
        let more = items_of s.1.brought.operations ++ items_of (writes_of 1 s.1.stopped.wrote) in (
          s.0,
          items_of homes ++ more,
          subst (λ x. StopsReplay 1 (moment first None) (moment x None) home header s.0 (items_of homes ++ more)) (sym same)
              (at_header (moment (disk_after first homes) None) (brings first (disk_after first homes) home homes refl idle rise at_homes) more (record { stopped = s.1; told = refl }) refl),
        )
  ]

  -- it is through
  is_through : (slot : ℕ) → IsReplay 1 slot (moment first None) (moment (disk_after first (homes ++ heads)) None) home header (items_of homes ++ (items_of heads ++ trace.Recovered slot 1 ∷ []))
  is_through slot = record {
    between = moment (disk_after first homes) None;
    homes = brings first (disk_after first homes) home homes refl idle rise at_homes;
    headed = brings (disk_after first homes) (disk_after first (homes ++ heads)) (header ∷ []) heads (after_on first homes heads) between_idle (omega arith, tt) at_heads;
    told = refl;
  }

  headed_written : AreWritten (disk_after first homes) (disk_after first (homes ++ heads)) (header ∷ [])
  headed_written = subst (λ x. AreWritten (disk_after first homes) x (header ∷ [])) (sym (after_on first homes heads)) (all_written (disk_after first homes) (header ∷ []) heads between_idle (omega arith, tt) at_heads)

  through_idle : IsIdle (disk_after first (homes ++ heads))
  through_idle = idle_again (disk_after first homes) (disk_after first (homes ++ heads)) (header ∷ []) between_idle headed_written

  through_size : (disk_after first (homes ++ heads)).size ≡ first.size
  through_size = headed_written.size ∙ (all_written first home homes idle rise at_homes).size

-- ---- each front

-- no operation
front_of_none : (time slot : ℕ) (first : DiskState) (js : List Journal) (ps : List Plan) (left : DiskState) → IsIdle first → left ≡ first → PassesSome time slot first js ps left
front_of_none time slot first js ps left idle same = record { count = 0; items = []; before = (ap (λ d. moment d None) same, refl); idle = subst IsIdle (sym same) idle }

pub fronts : (size time slot : ℕ) (js : List Journal) (ps : List Plan) (operations : List Operation) → HasOps size time slot js ps operations → (first : DiskState) → first.size ≡ size → IsIdle first → AllRise ps → (n : ℕ)
    → IsFrontOf time slot first js ps (disk_after first (take n operations))
fronts size time _ _ _ _ (no_more slot) first sized idle rise n =
    inr (front_of_none time slot first [] [] (disk_after first (take n [])) idle (ap (disk_after first) (take_all n [] (omega arith))))
fronts size time _ _ _ _ (passes slot j js p ps operations clean rest) first sized idle rise n =
    behind_one time slot first first j js p ps (disk_after first (take n operations)) [] (subst (λ o. IsReplayWith 1 slot j.dinode j.blocks time (moment first None) (moment first None) p.home.items o []) (sym clean) (refl, refl))
    (fronts size time (slot + 1) js ps operations rest first sized idle rise.1 n)
fronts size time _ _ _ _ (replays slot j js p ps header homes heads operations clean at_homes at_heads rest) first sized idle rise n = elim (cases_lt n (length (homes ++ heads))) [
  | inl less ↦
      let s = fails_there first idle p.home.items rise.0 (head_of size slot time j header) homes heads at_homes at_heads n less in
      let front : take n ((homes ++ heads) ++ operations) ≡ take n (homes ++ heads) = take_front n (homes ++ heads) operations (omega (arith, less)) in
      inl (subst (λ os. FailsIn time slot first (j ∷ js) (p ∷ ps) (disk_after first os)) (sym front) (record {
        count = 0;
        there = first;
        items = [];
        before = (refl, refl);
        journal = j;
        plan = p;
        at_journal = refl;
        at_plan = refl;
        block = s.0;
        more = s.1;
        stopped = subst (λ k. StopsReplayBy 1 k j.dinode j.blocks time (moment first None) (moment (disk_after first (take n (homes ++ heads))) None) p s.0 s.1) (let same : slot ≡ slot + 0 = omega arith in same)
            (subst (λ o. MatchOption o ⊥ (λ (h : LogHeader). StopsReplay 1 (moment first None) (moment (disk_after first (take n (homes ++ heads))) None) p.home.items (head_of first.size slot time j h) s.0 s.1)) (sym clean)
            (subst (λ k. StopsReplay 1 (moment first None) (moment (disk_after first (take n (homes ++ heads))) None) p.home.items (head_of k slot time j header) s.0 s.1) (sym sized) s.2));
      }))
  | inr not ↦
      let past : length (homes ++ heads) ≤ n = omega (arith, not) in
      let m = n - length (homes ++ heads) in
      let next = disk_after first (homes ++ heads) in
      let there : disk_after first (take n ((homes ++ heads) ++ operations)) ≡ disk_after next (take m operations)
      = ap (disk_after first) (take_behind n (homes ++ heads) operations past) ∙ after_on first (homes ++ heads) (take m operations) in
      let H = head_of size slot time j header in
      let own = items_of homes ++ (items_of heads ++ trace.Recovered slot 1 ∷ []) in
      let one : IsReplayWith 1 slot j.dinode j.blocks time (moment first None) (moment next None) p.home.items p.clean own
      = subst (λ o. IsReplayWith 1 slot j.dinode j.blocks time (moment first None) (moment next None) p.home.items o own) (sym clean)
      (subst (λ k. IsReplay 1 slot (moment first None) (moment next None) p.home.items (head_of k slot time j header) own) (sym sized) (is_through first idle p.home.items rise.0 H homes heads at_homes at_heads slot)) in
      subst (IsFrontOf time slot first (j ∷ js) (p ∷ ps)) (sym there)
      (behind_one time slot first next j js p ps (disk_after next (take m operations)) own one
      (fronts size time (slot + 1) js ps operations rest next (through_size first idle p.home.items rise.0 H homes heads at_homes at_heads ∙ sized)
      (through_idle first idle p.home.items rise.0 H homes heads at_homes at_heads) rise.1 m))
]

-- ---- operations of more journals

pub join_ops : (size time slot : ℕ) (js : List Journal) (ps : List Plan) (operations : List Operation) (ks : List Journal) (qs : List Plan) (later : List Operation) → HasOps size time slot js ps operations
    → HasOps size time (slot + length js) ks qs later → HasOps size time slot (js ++ ks) (ps ++ qs) (operations ++ later)
join_ops size time _ _ _ _ ks qs later (no_more slot) more = subst (λ n. HasOps size time n ks qs later) (omega arith) more
join_ops size time _ _ _ _ ks qs later (passes slot j js p ps operations clean rest) more =
    passes slot j (js ++ ks) p (ps ++ qs) (operations ++ later) clean (join_ops size time (slot + 1) js ps operations ks qs later rest (subst (λ n. HasOps size time n ks qs later) (omega arith) more))
join_ops size time _ _ _ _ ks qs later (replays slot j js p ps header homes heads operations clean at_homes at_heads rest) more =
    subst (HasOps size time slot (j ∷ (js ++ ks)) (p ∷ (ps ++ qs))) (sym (append_assoc (homes ++ heads) operations later))
    (replays slot j (js ++ ks) p (ps ++ qs) header homes heads (operations ++ later) clean at_homes at_heads
    (join_ops size time (slot + 1) js ps operations ks qs later rest (subst (λ n. HasOps size time n ks qs later) (omega arith) more)))

-- any journals can be replayed so
pub can_have : (size time slot : ℕ) (js : List Journal) (ps : List Plan) → length js ≡ length ps → (operations : List Operation) × HasOps size time slot js ps operations
can_have size time slot [] [] same = ([], no_more slot)
can_have size time slot [] (p ∷ ps) same = absurd (omega (arith, same))
can_have size time slot (j ∷ js) [] same = absurd (omega (arith, same))
can_have size time slot (j ∷ js) (p ∷ ps) same = by (can_have size time (slot + 1) js ps (omega (arith, same))) p.clean refl
  where
    by : ((operations : List Operation) × HasOps size time (slot + 1) js ps operations) → (o : Option LogHeader) → p.clean ≡ o → (operations : List Operation) × HasOps size time slot (j ∷ js) (p ∷ ps) operations
    by rest None clean = (rest.0, passes slot j js p ps rest.0 clean rest.1)
    by rest (Some header) clean =
        let homes = can_be_brought p.home.items in
        let heads = can_be_brought (head_of size slot time j header ∷ []) in
        ((homes.0 ++ heads.0) ++ rest.0, replays slot j js p ps header homes.0 heads.0 rest.0 clean homes.1 heads.1 rest.1)

-- ---- the operations of a replay in which the disk failed

-- ---- disks with the same in flight

same_flying : (d x y : DiskState) (flights : List Flight) → AreInFlight 1 d x flights → AreInFlight 1 d y flights → x ≡ y
same_flying d x y flights one two = λ i. record {
  count = (one.count ∙ sym two.count) i;
  size = (one.size ∙ sym two.size) i;
  tells = (one.tells ∙ sym two.tells) i;
  block_at = (one.blocks ∙ sym two.blocks) i;
  in_flight = λ n. flying n (cases_eq n 1) i;
  is_fenced = (one.fenced ∙ sym two.fenced) i;
}
  where
    flying : (n : ℕ) → (n ≡ 1) ⊎ (n ≡ 1 → ⊥) → x.in_flight n ≡ y.in_flight n
    flying n (inl same) = ap x.in_flight same ∙ one.own ∙ sym two.own ∙ ap y.in_flight (sym same)
    flying n (inr other) = one.others n other ∙ sym (two.others n other)

-- what flies of a turn that stopped is a front of it
front_flies : (some : List Written) (block : Option ℕ) (wrote flying : List Written) → StopsAt some block wrote flying → (n : ℕ) × (n ≤ length some) × (flying ≡ take n some)
front_flies some _ _ _ (before_it i w at) = (i, (let low = slice_get_within some i w at in omega (arith, low)), refl)
front_flies some _ _ _ (behind_it i w at) = (i + 1, (let low = slice_get_within some i w at in omega (arith, low)), refl)
front_flies some _ _ _ at_barrier = (length some, omega arith, sym (take_all (length some) some (omega arith)))

turn_stopped : (before after : Moment) (some : List Written) (block : Option ℕ) → IsIdle before.disk → RiseFrom 0 some → (s : HasStoppedIn 1 before after some block) → after.disk ≡ disk_after before.disk (writes_of 1 s.flying)
turn_stopped before after some block idle rise s =
    let front = front_flies some block s.wrote s.flying s.stops in
    same_flying before.disk after.disk (disk_after before.disk (writes_of 1 s.flying)) (flights_of s.flying) s.disk
    (subst (λ ws. AreInFlight 1 before.disk (disk_after before.disk (writes_of 1 ws)) (flights_of ws)) (sym front.2) (flies before.disk idle some rise front.0 front.1))

-- the disk on which bringing blocks stopped is as the operations have made it
stopped_disk : (before after : Moment) (blocks : List Written) (block : Option ℕ) → (s : HasStopped 1 before after blocks block) → IsTrue before.disk.tells → IsIdle before.disk → RiseFrom 0 blocks
    → after.disk ≡ disk_after before.disk (s.brought.operations ++ writes_of 1 s.stopped.flying)
stopped_disk before after blocks block s tells idle rise =
    let parts = subst (RiseFrom 0) s.parts rise in
    turn_stopped s.between after s.some block (idle_again before.disk s.between.disk s.done idle s.brought.written) (front 0 s.some s.later (back 0 s.done (s.some ++ s.later) parts)) s.stopped
    ∙ ap (λ d. disk_after d (writes_of 1 s.stopped.flying)) (brought_disk before s.between s.done tells idle (front 0 s.done (s.some ++ s.later) parts) s.brought)
    ∙ sym (after_on before.disk s.brought.operations (writes_of 1 s.stopped.flying))

-- What it told was done, and perhaps one write more; and these are the first of a whole replay's.
pub record StoppedOps (before after : Moment) (home : List Written) (header : Written) (items : List TraceItem) : Type 0 where
  pub wrote : List Operation
  pub further : List Operation
  pub homes : List Operation
  pub heads : List Operation
  pub rest : List Operation
  pub at_homes : AreBrought 1 home homes
  pub at_heads : AreBrought 1 (header ∷ []) heads
  pub whole : homes ++ heads ≡ wrote ++ rest
  pub done : AreDoneBy items wrote
  pub gains : Gains before.list after.list (wrote ++ further)
  pub most : IsOneWrite further
  pub disk : IsTrue before.disk.tells → IsIdle before.disk → RiseFrom 0 home → after.disk ≡ disk_after before.disk (wrote ++ further)

writes_on : (xs ys : List Written) → writes_of 1 (xs ++ ys) ≡ writes_of 1 xs ++ writes_of 1 ys
writes_on [] ys = refl
writes_on (x ∷ xs) ys = ap (λ (os : List Operation). Write 1 x.block x.bytes ∷ os) (writes_on xs ys)

-- of a turn that stopped: what was written are the first ones, and what flies has at most one more
record StopsSo (some wrote flying : List Written) : Type 0 where
  left : List Written
  parts : some ≡ wrote ++ left
  one : List Written
  flies : flying ≡ wrote ++ one
  most : IsOneWrite (writes_of 1 one)

stops_so : (some : List Written) (block : Option ℕ) (wrote flying : List Written) → StopsAt some block wrote flying → StopsSo some wrote flying
stops_so some _ _ _ (before_it i w at) = record { left = drop i some; parts = sym (take-append-drop i some); one = []; flies = sym (append_nil (take i some)); most = no_write }
stops_so some _ _ _ (behind_it i w at) = record { left = drop i some; parts = sym (take-append-drop i some); one = w ∷ []; flies = next some i at; most = one_write w.block w.bytes }
  where
    next : (ws : List Written) (i : ℕ) → slice_get ws i ≡ Some w → take (i + 1) ws ≡ take i ws ++ w ∷ []
    next [] i at = absurd (none_some at)
      where
        none_some : ◌≡◌ {A = Option Written} None (Some w) → ⊥
        none_some e = cc
    next (x ∷ ws) zero at = ap (λ (y : Written). y ∷ []) (same at)
      where
        same : Some x ≡ Some w → x ≡ w
        same e = cc
    next (x ∷ ws) (suc i) at = ap (λ m. take m (x ∷ ws)) (let e : suc i + 1 ≡ suc (i + 1) = omega arith in e) ∙ ap (λ ys. x ∷ ys) (next ws i at)
stops_so some _ _ _ at_barrier = record { left = []; parts = sym (append_nil some); one = []; flies = sym (append_nil some); most = no_write }

-- the same of blocks
record StoppedBringing (before after : Moment) (blocks : List Written) (items : List TraceItem) : Type 0 where
  wrote : List Operation
  further : List Operation
  all : List Operation
  rest : List Operation
  at_all : AreBrought 1 blocks all
  whole : all ≡ wrote ++ rest
  done : AreDoneBy items wrote
  gains : Gains before.list after.list (wrote ++ further)
  most : IsOneWrite further
  disk : IsTrue before.disk.tells → IsIdle before.disk → RiseFrom 0 blocks → after.disk ≡ disk_after before.disk (wrote ++ further)

bringing_stopped : (before after : Moment) (blocks : List Written) (block : Option ℕ) (items : List TraceItem) → StopsBringing 1 before after blocks block items → StoppedBringing before after blocks items
bringing_stopped before after blocks block items is = record {
  wrote = first ++ writes_of 1 wrote;
  further = writes_of 1 so.one;
  all = first ++ (turn_of 1 s.some ++ later.0);
  rest = writes_of 1 so.left ++ (Barrier 1 ∷ later.0);
  at_all = subst (λ ws. AreBrought 1 ws (first ++ (turn_of 1 s.some ++ later.0))) (sym s.parts) (brought_on s.done (s.some ++ s.later) s.turns first (turn_of 1 s.some ++ later.0) s.whole s.brought.brought (turn s.some s.later later.0 s.next later.1));
  whole =
      ap (λ os. first ++ os)
      (append_assoc (writes_of 1 s.some) (Barrier 1 ∷ []) later.0 ∙ ap (λ ws. writes_of 1 ws ++ (Barrier 1 ∷ later.0)) so.parts ∙ ap (λ os. os ++ (Barrier 1 ∷ later.0)) (writes_on wrote so.left)
      ∙ append_assoc (writes_of 1 wrote) (writes_of 1 so.left) (Barrier 1 ∷ later.0))
      ∙ sym (append_assoc first (writes_of 1 wrote) (writes_of 1 so.left ++ (Barrier 1 ∷ later.0)));
  done = subst (λ is. AreDoneBy is (first ++ writes_of 1 wrote)) (sym is.told) (goes_on (items_of first) (items_of (writes_of 1 wrote)) first (writes_of 1 wrote) (done_items first) (done_items (writes_of 1 wrote)));
  gains = subst (Gains before.list after.list) in_flight (gains_join before.list s.between.list after.list first (writes_of 1 s.stopped.flying) s.brought.gains s.stopped.gains);
  most = so.most;
  disk = λ tells idle rise. stopped_disk before after blocks block s tells idle rise ∙ ap (disk_after before.disk) in_flight;
}
  where
    s : HasStopped 1 before after blocks block
    s = is.stopped

    first : List Operation
    first = s.brought.operations

    wrote : List Written
    wrote = s.stopped.wrote

    so : StopsSo s.some wrote s.stopped.flying
    so = stops_so s.some block wrote s.stopped.flying s.stopped.stops

    in_flight : first ++ writes_of 1 s.stopped.flying ≡ (first ++ writes_of 1 wrote) ++ writes_of 1 so.one
    in_flight = ap (λ os. first ++ os) (ap (writes_of 1) so.flies ∙ writes_on wrote so.one) ∙ sym (append_assoc first (writes_of 1 wrote) (writes_of 1 so.one))

    later : (operations : List Operation) × AreBrought 1 s.later operations
    later = can_be_brought s.later

pub replay_stopped : (before after : Moment) (home : List Written) (header : Written) (block : Option ℕ) (items : List TraceItem) → StopsReplay 1 before after home header block items → StoppedOps before after home header items
replay_stopped before after home header block items (at_home is) = of_home (bringing_stopped before after home block items is)
  where
    of_home : StoppedBringing before after home items → StoppedOps before after home header items
    of_home s =
        let heads = can_be_brought (header ∷ []) in
        record {
          wrote = s.wrote;
          further = s.further;
          homes = s.all;
          heads = heads.0;
          rest = s.rest ++ heads.0;
          at_homes = s.at_all;
          at_heads = heads.1;
          whole = ap (λ os. os ++ heads.0) s.whole ∙ append_assoc s.wrote s.rest heads.0;
          done = s.done;
          gains = s.gains;
          most = s.most;
          disk = s.disk;
        }
replay_stopped before after home header block items (at_header between homes more is are) = of_header (bringing_stopped between after (header ∷ []) block more is)
  where
    of_header : StoppedBringing between after (header ∷ []) more → StoppedOps before after home header items
    of_header s = record {
      wrote = homes.operations ++ s.wrote;
      further = s.further;
      homes = homes.operations;
      heads = s.all;
      rest = s.rest;
      at_homes = homes.brought;
      at_heads = s.at_all;
      whole = ap (λ os. homes.operations ++ os) s.whole ∙ sym (append_assoc homes.operations s.wrote s.rest);
      done = subst (λ is. AreDoneBy is (homes.operations ++ s.wrote)) (sym are) (goes_on (items_of homes.operations) more homes.operations s.wrote (done_items homes.operations) s.done);
      gains = subst (Gains before.list after.list) (sym (append_assoc homes.operations s.wrote s.further)) (gains_join before.list between.list after.list homes.operations (s.wrote ++ s.further) homes.gains s.gains);
      most = s.most;
      disk = λ tells idle rise.
          s.disk (subst IsTrue (sym homes.written.tells) tells) (idle_again before.disk between.disk home idle homes.written) (omega arith, tt)
          ∙ ap (λ d. disk_after d (s.wrote ++ s.further)) (brought_disk before between home tells idle rise homes)
          ∙ sym (after_on before.disk homes.operations (s.wrote ++ s.further)) ∙ ap (disk_after before.disk) (sym (append_assoc homes.operations s.wrote s.further));
    }

-- a replay leaves the disk its size
pub same_size : (slot time : ℕ) (before after : Moment) (js : List Journal) (ps : List Plan) (items : List TraceItem) → AreReplays 1 slot time before js ps after items → after.disk.size ≡ before.disk.size
same_size slot time before after [] [] items (same, empty) = ap (λ (m : Moment). m.disk.size) same
same_size slot time before after [] (p ∷ ps) items is = absurd is
same_size slot time before after (j ∷ js) [] items is = absurd is
same_size slot time before after (j ∷ js) (p ∷ ps) items (next, first, later, are, one, others) = same_size (slot + 1) time next after js ps later others ∙ by p.clean one
  where
    by : (o : Option LogHeader) → IsReplayWith 1 slot j.dinode j.blocks time before next p.home.items o first → next.disk.size ≡ before.disk.size
    by None still = ap (λ (m : Moment). m.disk.size) still.0
    by (Some header) is = is.headed.written.size ∙ is.homes.written.size
