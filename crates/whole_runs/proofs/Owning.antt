-- From where on headers are the life's own, behind the replays of a start.
use Rattle.std.proofs.Common.{◌≡◌, ℕ, suc, ◌+◌, ◌<◌, ◌≤◌, List, [], ◌∷◌, ◌++◌, length, take, Option, None, Some, refl, sym, ap, ◌∙◌, arith}
use Rattle.std.specs.Prelude.{IsTrue, ◌==◌}
use Rattle.std.proofs.lemmas.Bool.{cond-false, ne_eqb}
use Rattle.std.proofs.lemmas.List.{append_assoc, length-append, length-map}
use Rattle.disk_turns.specs.Turns.{Moment}
use Rattle.image_mount.specs.Mounted.{Journal}
use Rattle.cut_replays.specs.Recoveries.{AreReplays}
use Rattle.journal_replays.specs.Items.{item_of, items_of}
use Rattle.journal_replays.specs.Replays.{IsReplay, IsReplayWith}
use Rattle.log_layout.specs.declared.log_header.LogHeader.{LogHeader}
use Rattle.logged_runs.specs.Disks.{disk_after, first_told, told_count}
use Rattle.logged_runs.proofs.Telling.{take_all, take_front}
use Rattle.peer_replay.specs.declared.planned.Plan.{Plan}
use Rattle.run_rules.specs.Lives.{or_else, recovered_behind}
use Rattle.shared_disk.specs.Disk.{Barrier, Fence, IsIdle, Operation, Write}
use Rattle.trace_text.specs.declared.item.TraceItem.{TraceItem}
use Rattle.trace_text.specs.declared.item.TraceItem.TheVariants as trace
use Rattle.whole_runs.proofs.Items.{counted}
use Rattle.whole_runs.proofs.Replaying.{AllRise, OpsOf, head_of, no_replay, one_done, one_replay, ops_of, replayed_disk}

-- no item of an operation tells of a recovery
recovered_past : (n : ℕ) (operations : List Operation) (ys : List TraceItem) → recovered_behind 1 n (items_of operations ++ ys) ≡ recovered_behind 1 (n + length operations) ys
recovered_past n [] ys = ap (λ k. recovered_behind 1 k ys) (omega arith)
recovered_past n (Write node block bytes ∷ os) ys = recovered_past (suc n) os ys ∙ ap (λ k. recovered_behind 1 k ys) (omega arith)
recovered_past n (Barrier node ∷ os) ys = recovered_past (suc n) os ys ∙ ap (λ k. recovered_behind 1 k ys) (omega arith)
recovered_past n (Fence node became ∷ os) ys = recovered_past (suc n) os ys ∙ ap (λ k. recovered_behind 1 k ys) (omega arith)

-- items of a replay, and others behind them
told_before : (slot : ℕ) (homes heads : List Operation) (later : List TraceItem)
    → (items_of homes ++ (items_of heads ++ trace.Recovered slot 1 ∷ [])) ++ later ≡ items_of homes ++ (items_of heads ++ (trace.Recovered slot 1 ∷ later))
told_before slot homes heads later =
    append_assoc (items_of homes) (items_of heads ++ trace.Recovered slot 1 ∷ []) later ∙ ap (λ (is : List TraceItem). items_of homes ++ is) (append_assoc (items_of heads) (trace.Recovered slot 1 ∷ []) later)

past_replay : (n slot : ℕ) (homes heads : List Operation) (later : List TraceItem)
    → recovered_behind 1 n ((items_of homes ++ (items_of heads ++ trace.Recovered slot 1 ∷ [])) ++ later) ≡ recovered_behind 1 ((n + length homes) + length heads) (trace.Recovered slot 1 ∷ later)
past_replay n slot homes heads later =
    ap (recovered_behind 1 n) (told_before slot homes heads later) ∙ recovered_past n homes (items_of heads ++ (trace.Recovered slot 1 ∷ later)) ∙ recovered_past (n + length homes) heads (trace.Recovered slot 1 ∷ later)

-- no other slot's replay recovers the first
none_recovered : (slot time : ℕ) (before after : Moment) (js : List Journal) (ps : List Plan) (items : List TraceItem) → 1 < slot → AreReplays 1 slot time before js ps after items → (n : ℕ) → recovered_behind 1 n items ≡ None
none_recovered slot time before after [] [] items high (same, empty) n = ap (recovered_behind 1 n) empty
none_recovered slot time before after [] (p ∷ ps) items high so n = absurd so
none_recovered slot time before after (j ∷ js) [] items high so n = absurd so
none_recovered slot time before after (j ∷ js) (p ∷ ps) items high (next, first, later, are, one, rest) n =
    ap (recovered_behind 1 n) are ∙ by (λ k. none_recovered (slot + 1) time next after js ps later (omega (arith, high)) rest k) p.clean one
  where
    by : ((k : ℕ) → recovered_behind 1 k later ≡ None) → (o : Option LogHeader) → IsReplayWith 1 slot j.dinode j.blocks time before next p.home.items o first → recovered_behind 1 n (first ++ later) ≡ None
    by none None still = ap (λ is. recovered_behind 1 n (is ++ later)) still.1 ∙ none n
    by none (Some header) is =
        let k = (n + length is.homes.operations) + length is.headed.operations in
        ap (λ is'. recovered_behind 1 n (is' ++ later)) is.told ∙ past_replay n slot is.homes.operations is.headed.operations later
        ∙ cond-false (slot == 1) (Some (suc k)) (recovered_behind 1 (suc k) later) (ne_eqb slot 1 (λ e. omega (arith, e, high))) ∙ none (suc k)

-- ---- from where on

-- Behind the replay of the first journal, where it was replayed, else from the join on; and the disk there is that behind it.
pub record FirstOwn (time : ℕ) (before next after : Moment) (js : List Journal) (ps : List Plan) (added : List TraceItem) : Type 0 where
  pub ops : OpsOf time 1 before after js ps added
  pub own : ℕ
  pub own_is : or_else (recovered_behind 1 1 added) 0 ≡ own
  pub low : own ≤ length (trace.Join 1 ∷ added)
  pub few : told_count (take own (trace.Join 1 ∷ added)) ≤ length ops.operations
  pub disk : next.disk ≡ disk_after before.disk (first_told (take own (trace.Join 1 ∷ added)) ops.operations)

module _ (time : ℕ) (before next after : Moment) (j : Journal) (js : List Journal) (p : Plan) (ps : List Plan) (first later added : List TraceItem) (are : added ≡ first ++ later) (rest : AreReplays 1 2 time next js ps after later)
    (tells : IsTrue before.disk.tells) (idle : IsIdle before.disk) (rise : AllRise (p ∷ ps)) where
  rest_ops : OpsOf time 2 next after js ps later
  rest_ops = ops_of time 2 next after js ps later rest

  not_replayed : p.clean ≡ None → (next ≡ before) × (first ≡ []) → FirstOwn time before next after (j ∷ js) (p ∷ ps) added
  not_replayed clean still = record {
    ops = no_replay time 1 before next after j js p ps first later added are rest_ops clean still;
    own = 0;
    own_is = ap (λ is. or_else (recovered_behind 1 1 is) 0) (are ∙ ap (λ is. is ++ later) still.1) ∙ ap (λ o. or_else o 0) (none_recovered 2 time next after js ps later (omega arith) rest 1);
    low = omega arith;
    few = omega arith;
    disk = ap (λ (x : Moment). x.disk) still.0;
  }

  replayed : (header : LogHeader) → p.clean ≡ Some header → IsReplay 1 1 before next p.home.items (head_of before.disk.size 1 time j header) first → FirstOwn time before next after (j ∷ js) (p ∷ ps) added
  replayed header clean is = record {
    ops = one_replay time 1 before next after j js p ps first later added are rest_ops header clean is;
    own = suc (length first);
    own_is = ap (λ is'. or_else (recovered_behind 1 1 is') 0) (are ∙ ap (λ is'. is' ++ later) is.told) ∙ ap (λ o. or_else o 0) (past_replay 1 1 homes heads later) ∙ long;
    low = let all = ap length are ∙ length-append first later in omega (arith, all);
    few = let all = count in let sum = length-append (homes ++ heads) rest_ops.operations in omega (arith, all, sum);
    disk = replayed_disk 1 time before next p.home.items (head_of before.disk.size 1 time j header) first tells idle rise.0 is ∙ ap (disk_after before.disk) (sym told);
  }
    where
      homes : List Operation
      homes = is.homes.operations

      heads : List Operation
      heads = is.headed.operations

      items_long : (operations : List Operation) → length (items_of operations) ≡ length operations
      items_long operations = length-map operations item_of

      long : suc ((1 + length homes) + length heads) ≡ suc (length first)
      long =
          let all = ap length is.told ∙ length-append (items_of homes) (items_of heads ++ trace.Recovered 1 1 ∷ []) in
          let two = length-append (items_of heads) (trace.Recovered 1 1 ∷ []) in
          let h = items_long homes in
          let e = items_long heads in
          omega (arith, all, two, h, e)

      front : take (suc (length first)) (trace.Join 1 ∷ added) ≡ trace.Join 1 ∷ first
      front = ap (λ is'. trace.Join 1 ∷ is') (ap (take (length first)) are ∙ take_front (length first) first later (omega arith) ∙ take_all (length first) first (omega arith))

      count : told_count (take (suc (length first)) (trace.Join 1 ∷ added)) ≡ length (homes ++ heads)
      count = ap told_count front ∙ counted first (homes ++ heads) (one_done 1 before next p.home.items (head_of before.disk.size 1 time j header) first is)

      told : first_told (take (suc (length first)) (trace.Join 1 ∷ added)) ((homes ++ heads) ++ rest_ops.operations) ≡ homes ++ heads
      told = ap (λ n. take n ((homes ++ heads) ++ rest_ops.operations)) count ∙ take_front (length (homes ++ heads)) (homes ++ heads) rest_ops.operations (omega arith) ∙ take_all (length (homes ++ heads)) (homes ++ heads) (omega arith)

pub first_own : (time : ℕ) (before next after : Moment) (j : Journal) (js : List Journal) (p : Plan) (ps : List Plan) (first later added : List TraceItem) → added ≡ first ++ later
    → IsReplayWith 1 1 j.dinode j.blocks time before next p.home.items p.clean first → AreReplays 1 2 time next js ps after later → IsTrue before.disk.tells → IsIdle before.disk → AllRise (p ∷ ps)
    → FirstOwn time before next after (j ∷ js) (p ∷ ps) added
first_own time before next after j js p ps first later added are one rest tells idle rise = by p.clean refl one
  where
    by : (o : Option LogHeader) → p.clean ≡ o → IsReplayWith 1 1 j.dinode j.blocks time before next p.home.items o first → FirstOwn time before next after (j ∷ js) (p ∷ ps) added
    by None clean still = not_replayed time before next after j js p ps first later added are rest tells idle rise clean still
    by (Some header) clean is = replayed time before next after j js p ps first later added are rest tells idle rise header clean is
