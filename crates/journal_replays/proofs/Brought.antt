-- Items that are put turn by turn, and blocks that are brought with their items.
use Rattle.std.proofs.Common.{◌≡◌, ℕ, List, [], ◌∷◌, ◌++◌, Option, None, Some, refl, sym, ap, subst, ◌∙◌}
use Rattle.std.specs.Prelude.{IfNone}
use Rattle.std.proofs.lemmas.List.{append-nil}
use Rattle.drafts.specs.declared.change.Written.{Written}
use Rattle.fault_counts.specs.declared.Rise.{Rise}
use Rattle.shared_disk.specs.Disk.{Operation}
use Rattle.trace_text.specs.declared.item.TraceItem.{TraceItem}
use Rattle.trace_text.specs.declared.item.TraceItem.TheVariants as trace
use Rattle.disk_turns.specs.Faults.{HasStoppedAs}
use Rattle.disk_turns.specs.Turns.{AreBrought, IsTurn, Moment, writes_of}
use Rattle.disk_turns.specs.declared.faults.TurnFault.{TurnFault}
use Rattle.journal_replays.specs.Bringing.{HasCrashedBringing, HasStoppedBringing}
use Rattle.journal_replays.specs.Items.{items_of}
use Rattle.journal_replays.proofs.Inverted.{no_turn, split_turn}
use Rattle.journal_replays.proofs.Told.{turn_more}

-- with the items of what is left, those so far are those of all
pub record IsLeft (node : ℕ) (rest : List Written) (first now : List TraceItem) (operations : List Operation) : Type 0 where
  pub left : List Operation
  pub brought : AreBrought node rest left
  pub are : first ++ items_of operations ≡ now ++ items_of left

pub left_on : (node : ℕ) (rest some later : List Written) (first now writes barrier : List TraceItem) (operations : List Operation) → rest ≡ some ++ later → IsTurn some later
    → writes ≡ now ++ items_of (writes_of node some) → barrier ≡ writes ++ trace.Barrier node ∷ [] → IsLeft node rest first now operations → IsLeft node later first barrier operations
left_on node rest some later first now writes barrier operations parts turn wrote made so =
    let split = split_turn node rest so.left so.brought some later parts turn in
    record {
      left = split.left;
      brought = split.brought;
      are = so.are ∙ ap (λ (os : List Operation). now ++ items_of os) split.are ∙ turn_more node some split.left now
          ∙ ap (λ (is : List TraceItem). is ++ items_of split.left) (sym (made ∙ ap (λ (is : List TraceItem). is ++ trace.Barrier node ∷ []) wrote));
    }

pub left_none : (node : ℕ) (rest : List Written) (first now : List TraceItem) (operations : List Operation) → rest ≡ [] → IsLeft node rest first now operations → now ≡ first ++ items_of operations
left_none node rest first now operations empty so =
    sym (so.are ∙ ap (λ (os : List Operation). now ++ items_of os) (no_turn node rest so.left so.brought empty) ∙ append-nil now)

-- the items of what didn't fail came behind those that were there
module _ (node : ℕ) (before after : Moment) (blocks done wrote : List Written) (fault : TurnFault) (items items' : List TraceItem) (is : HasStoppedAs node before after blocks fault)
    (same : done ≡ is.stopped.done) (wrote_same : wrote ≡ is.stopped.stopped.wrote)
    (put : (operations : List Operation) → AreBrought node done operations → items' ≡ items ++ (items_of operations ++ items_of (writes_of node wrote))) where
  pub told_behind : items' ≡ items ++ (items_of is.stopped.brought.operations ++ items_of (writes_of node is.stopped.stopped.wrote))
  told_behind =
      put is.stopped.brought.operations (subst (λ (ws : List Written). AreBrought node ws is.stopped.brought.operations) (sym same) is.stopped.brought.brought)
      ∙ ap (λ (ws : List Written). items ++ (items_of is.stopped.brought.operations ++ items_of (writes_of node ws))) wrote_same

  pub stopped_told : HasStoppedBringing node before after blocks items items' fault.block
  stopped_told = record {
    added = items_of is.stopped.brought.operations ++ items_of (writes_of node is.stopped.stopped.wrote);
    are = told_behind;
    stops = record { stopped = is.stopped; told = refl };
  }

  -- so where it crashed, with nothing else in flight
  pub crashed_told : IfNone fault.rise (HasCrashedBringing node before after blocks items items')
  crashed_told = by fault.rise is.exactly
    where
      by : (r : Option Rise) → IfNone r (is.stopped.stopped.flying ≡ is.stopped.stopped.wrote) → IfNone r (HasCrashedBringing node before after blocks items items')
      by None exactly = record {
        block = fault.block;
        stopped = record {
          added = items_of is.stopped.brought.operations ++ items_of (writes_of node is.stopped.stopped.wrote);
          are = told_behind;
          stops = record { stopped = is.stopped; told = refl };
        };
        exactly = exactly;
      }
      by (Some r) exactly = tt
