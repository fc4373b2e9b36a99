-- How a run's last step, or its end, shows in its items and operations.
use Rattle.std.proofs.Common.{◌≡◌, ℕ, ◌+◌, ◌<◌, ◌≤◌, List, [], ◌∷◌, ◌++◌, length, Option, None, Some, refl, sym, ap, subst, ◌∙◌, inl, inr, arith}
use Rattle.std.specs.Prelude.{map}
use Rattle.std.proofs.lemmas.Bool.{cases_lt}
use Rattle.std.proofs.lemmas.List.{length-append}
use Rattle.std.specs.List.{filter_map}
use Rattle.disk_items.specs.Deeds.{AreDoneBy, Deed, MadeBarrier, WasFenced, Wrote, deed_of, deed_told}
use Rattle.disk_turns.proofs.Gaining.{gains_none}
use Rattle.logged_runs.specs.StepEnds.{EndsTo, Landed, Said, Unsaid, clean_item, last_block, with_clean}
use Rattle.logged_runs.specs.Disks.{disk_after, first_told, told_count}
use Rattle.logged_runs.specs.Fails.{AsItWas, FailsTo, InAWrite}
use Rattle.logged_runs.specs.StepLaws.{StepsAreTold, TellsWhatItDoes}
use Rattle.logged_runs.specs.Points.{Point}
use Rattle.logged_runs.specs.Steps.{Here, Then, with_write}
use Rattle.logged_runs.proofs.Telling.{append_nil, left_same}
use Rattle.shared_disk.specs.Disk.{Barrier, Fence, Gains, Operation, Write}
use Rattle.trace_text.specs.declared.item.TraceItem.{TraceItem}
use Rattle.trace_text.specs.declared.item.TraceItem.TheVariants as trace
use Rattle.whole_runs.specs.Wholes.{IsOneWrite, ends_with, no_write, one_write}

-- Behind the steps: these items came, which tell these operations, and then at most one write that none tells.
pub record LastOps (p q : Point) : Type 0 where
  pub extra : List TraceItem
  pub operations : List Operation
  pub further : List Operation
  pub items : q.items ≡ p.items ++ extra
  pub told : AreDoneBy extra operations
  pub one : IsOneWrite further
  pub gains : Gains p.list q.list (operations ++ further)
  pub disk : q.disk ≡ disk_after p.disk (operations ++ further)

-- ---- a write that failed

no_deed : (d : Deed) (ds : List Deed) → d ∷ ds ≡ [] → ⊥
no_deed d ds e = cc

one_deed : (b : ℕ) (operations : List Operation) → Wrote 1 b ∷ [] ≡ map deed_of operations → IsOneWrite operations
one_deed b [] e = absurd (no_deed (Wrote 1 b) [] e)
one_deed b (Barrier node ∷ os) e = absurd (no_barrier (first (Wrote 1 b) (MadeBarrier node) [] (map deed_of os) e))
  where
    first : (x y : Deed) (xs ys : List Deed) → x ∷ xs ≡ y ∷ ys → x ≡ y
    first x y xs ys e = cc

    no_barrier : Wrote 1 b ≡ MadeBarrier node → ⊥
    no_barrier e = cc
one_deed b (Fence node became ∷ os) e = absurd (no_fence (first (Wrote 1 b) (WasFenced node) [] (map deed_of os) e))
  where
    first : (x y : Deed) (xs ys : List Deed) → x ∷ xs ≡ y ∷ ys → x ≡ y
    first x y xs ys e = cc

    no_fence : Wrote 1 b ≡ WasFenced node → ⊥
    no_fence e = cc
one_deed b (Write node block bytes ∷ o ∷ os) e = absurd (no_deed (deed_of o) (map deed_of os) (sym (behind (Wrote 1 b) (Wrote node block) [] (deed_of o ∷ map deed_of os) e)))
  where
    behind : (x y : Deed) (xs ys : List Deed) → x ∷ xs ≡ y ∷ ys → xs ≡ ys
    behind x y xs ys e = cc
one_deed b (Write node block bytes ∷ []) e = subst (λ n. IsOneWrite (Write n block bytes ∷ [])) (node_is (first (Wrote 1 b) (Wrote node block) [] [] e)) (one_write block bytes)
  where
    first : (x y : Deed) (xs ys : List Deed) → x ∷ xs ≡ y ∷ ys → x ≡ y
    first x y xs ys e = cc

    node_is : Wrote 1 b ≡ Wrote node block → 1 ≡ node
    node_is e = cc

deed_alone : (item : TraceItem) (deed : Deed) → deed_told item ≡ Some deed → filter_map deed_told (item ∷ []) ≡ deed ∷ []
deed_alone item deed e = by (deed_told item) e
  where
    by : (o : Option Deed) → o ≡ Some deed → filter_map {X = TraceItem} (λ x. o) (item ∷ []) ≡ deed ∷ []
    by None e = absurd (let no : None ≡ Some deed = e in cc)
    by (Some d) e = let same : d ≡ deed = some_same e in ap (λ x. x ∷ []) same
      where
        some_same : Some d ≡ Some deed → d ≡ deed
        some_same e = cc

module _ (tells : StepsAreTold) (time : ℕ) (p : Point) where
  pub failed_ops : (q : Point) → FailsTo time p q → LastOps p q
  failed_ops q AsItWas = record { extra = []; operations = []; further = []; items = sym (append_nil p.items); told = refl; one = no_write; gains = gains_none p.list; disk = refl }
  failed_ops q (InAWrite b bytes list log item told step) = record {
    extra = [];
    operations = [];
    further = does.operations;
    items = sym (append_nil p.items);
    told = refl;
    one = one_deed b does.operations (sym (deed_alone item (Wrote 1 b) told) ∙ ap (filter_map deed_told) (sym more_is) ∙ does.told);
    gains = does.gains;
    disk = does.disk;
  }
    where
      does : TellsWhatItDoes p (with_write p b bytes list log item)
      does = tells time p (with_write p b bytes list log item) (Then p (with_write p b bytes list log item) Here step)

      more_is : does.more ≡ item ∷ []
      more_is = left_same p.items does.more (item ∷ []) (sym does.items)

-- ---- the end

abbrev pub ended_ops : (p q : Point) (ends : EndsTo p q) → Gains p.list q.list (ends_with p q ends) → LastOps p q
ended_ops p q (Unsaid bytes list flies) gains =
    record { extra = []; operations = []; further = Write 1 (last_block p) bytes ∷ []; items = sym (append_nil p.items); told = refl; one = one_write (last_block p) bytes; gains = gains; disk = refl }
ended_ops p q (Said bytes list flies) gains =
    record { extra = clean_item p ∷ []; operations = Write 1 (last_block p) bytes ∷ []; further = []; items = refl; told = refl; one = no_write; gains = gains; disk = refl }
ended_ops p q (Landed bytes list flies) gains =
    record { extra = clean_item p ∷ trace.Barrier 1 ∷ []; operations = Write 1 (last_block p) bytes ∷ Barrier 1 ∷ []; further = []; items = refl; told = refl; one = no_write; gains = gains; disk = refl }

-- ---- fronts of an end

-- behind so many items the run had come to this point of its end
pub record EndFront (p q : Point) (extra : List TraceItem) (operations : List Operation) (count : ℕ) : Type 0 where
  pub point : Point
  pub ends : EndsTo p point
  pub rest : List TraceItem
  pub more : List TraceItem
  pub items : point.items ≡ p.items ++ rest
  pub parts : extra ≡ rest ++ more
  pub few : told_count rest ≤ length operations
  pub at : count ≡ length (p.items ++ rest)
  pub disk : point.disk ≡ disk_after p.disk (first_told rest operations)

one_more : (xs : List TraceItem) (x : TraceItem) (count : ℕ) → length xs < count → count ≤ length (xs ++ x ∷ []) → count ≡ length (xs ++ x ∷ [])
one_more xs x count low high = let all = length-append xs (x ∷ []) in omega (arith, low, high, all)

pub end_front : (p q : Point) (ends : EndsTo p q) (gains : Gains p.list q.list (ends_with p q ends)) (count : ℕ) → length p.items < count → count ≤ length q.items
    → EndFront p q (ended_ops p q ends gains).extra (ended_ops p q ends gains).operations count
end_front p q (Unsaid bytes list flies) gains count low high = absurd (omega (arith, low, high))
end_front p q (Said bytes list flies) gains count low high = record {
  point = q;
  ends = Said bytes list flies;
  rest = clean_item p ∷ [];
  more = [];
  items = refl;
  parts = refl;
  few = omega arith;
  at = one_more p.items (clean_item p) count low high;
  disk = refl;
}
end_front p q (Landed bytes list flies) gains count low high = elim (cases_lt (length p.items + 1) count) [
  | inl past ↦ record {
    point = q;
    ends = Landed bytes list flies;
    rest = clean_item p ∷ trace.Barrier 1 ∷ [];
    more = [];
    items = refl;
    parts = refl;
    few = omega arith;
    at = let all = length-append p.items (clean_item p ∷ trace.Barrier 1 ∷ []) in omega (arith, past, high, all);
    disk = refl;
  }
  | inr not ↦ record {
    point = record p { disk = with_clean p bytes; list = list; items = p.items ++ clean_item p ∷ [] };
    ends = Said bytes list flies;
    rest = clean_item p ∷ [];
    more = trace.Barrier 1 ∷ [];
    items = refl;
    parts = refl;
    few = omega arith;
    at = let all = length-append p.items (clean_item p ∷ []) in omega (arith, low, not, all);
    disk = refl;
  }
]
