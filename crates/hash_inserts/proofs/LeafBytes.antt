-- A leaf's head that is written over old bytes, and records behind it.
use Rattle.std.proofs.Common.{◌≡◌, ℕ, ◌+◌, ◌-◌, ◌≤◌, inl, inr, Bool, true, false, cond, List, [], ◌∷◌, length, take, drop, Option, None, Some, Result, Ok, refl, sym, ap, ◌∙◌, subst, arith}
use borrow.Rule.Slice.PartMut.{put_mid}
use Rattle.gfs2_layout.specs.Area.{Slot, IsArea, name_of, slots_of}
use Rattle.gfs2_layout.specs.Bytes.{u32_at}
use Rattle.gfs2_layout.specs.Headers.{HasHeader}
use Rattle.gfs2_layout.specs.Holding.{Holding, bytes_at}
use Rattle.gfs2_layout.specs.Inode.{leaf_length}
use Rattle.gfs2_layout.specs.Structures.{header_fault, is_in_use, leaf_of, leaf_read, or_else, records_fault}
use Rattle.gfs2_layout.specs.Writing.{leaf_put}
use Rattle.gfs2_layout.specs.Putting.{put_slot}
use Rattle.gfs2_layout.specs.declared.dirent.Dirent.{Dirent}
use Rattle.gfs2_layout.specs.declared.fault.LayoutFault.{LayoutFault}
use Rattle.gfs2_layout.specs.declared.fault.LayoutFault.TheVariants.{Value}
use Rattle.gfs2_layout.specs.declared.leaf.Leaf.{Leaf}
use Rattle.gfs2_layout.proofs.HeaderLaws.{answer_ok, header_from}
use Rattle.image_model.proofs.Held.{none_some}
use Rattle.std.proofs.lemmas.Bool.{cases_Bool, cond-false, eqb-true}
use Rattle.std.specs.Prelude.{◌==◌, ◌&&◌, not, filter, count_by}
use Rattle.std.proofs.lemmas.List.Sums.{length-filter, sum_by-cons}
use Rattle.hash_steps.specs.Leaves.{IsLeafPut}
use Rattle.leaf_areas.specs.Moving.{in_use}
use Rattle.leaf_areas.specs.Splitting.{is_lower, is_lower_name}
use Rattle.linear_dirs.proofs.Looked.{rest_put}
use Rattle.hash_steps.proofs.LeafHeads.{front_anew, put_long}
use Rattle.hash_inserts.specs.Writing.{CanTake, IsLeafFilled, IsLeafWritten}

-- ---- what was written, of a leaf in its directory

or_none : (a b : Option LayoutFault) → or_else a b ≡ None → (a ≡ None) × (b ≡ None)
or_none None b e = (refl, e)
or_none (Some fault) b e = absurd (none_some (sym e))

format_is : (bytes : List ℕ) → records_fault bytes ≡ None → u32_at 28 bytes ≡ 1200
format_is bytes e = elim (cases_Bool (u32_at 28 bytes == 1200)) [
  | inl same ↦ eqb-true (u32_at 28 bytes) 1200 same
  | inr other ↦ absurd (none_some (sym e ∙ cond-false (u32_at 28 bytes == 1200) None (Some (Value 28 (u32_at 28 bytes))) other))
]

pub leaf_put_of : (g : Holding) (x : ℕ) (over new : List ℕ) (head : Leaf) (slots : List Slot) → bytes_at g x ≡ new → IsLeafWritten over new head slots → IsLeafPut g x over head slots
leaf_put_of g x over new head slots is written =
    let whole = answer_ok (or_else (header_fault leaf_length 6 600 new) (records_fault new)) (leaf_of new) head written.read in
    let well = or_none (header_fault leaf_length 6 600 new) (records_fault new) whole.0 in
    record {
      front = ap (take leaf_length) is ∙ written.front;
      header = subst (HasHeader 6 600) (sym is) (header_from leaf_length 6 600 new well.0);
      records_format = ap (u32_at 28) is ∙ format_is new well.1;
      head_is = ap leaf_of is ∙ whole.1;
      slots_are = ap (λ (b : List ℕ). slots_of (drop leaf_length b)) is ∙ written.records;
      filled = subst (λ (b : List ℕ). IsArea (drop leaf_length b)) (sym is) written.filled;
    }

-- ---- records that stand behind a head that was written

pub written_by : (old area new : List ℕ) (head : Leaf) → leaf_length ≤ length old → length (put_mid leaf_length (length old - leaf_length) old area) ≡ length old
    → new ≡ leaf_put head (put_mid leaf_length (length old - leaf_length) old area) → leaf_read new ≡ Ok head → drop leaf_length new ≡ drop leaf_length (put_mid leaf_length (length old - leaf_length) old area) → IsArea area
    → IsLeafWritten old new head (slots_of area)
written_by old area new head large long is read behind filled =
    let rest : drop leaf_length new ≡ area = behind ∙ rest_put leaf_length old area large in
    record {
      front = front_anew head old area new large long is;
      read = read;
      records = ap slots_of rest;
      filled = subst IsArea (sym rest) filled;
      long = ap length is ∙ put_long head (put_mid leaf_length (length old - leaf_length) old area) (omega (arith, large, long)) ∙ long;
    }

-- ---- which records of a leaf stay

count_parts : {X : Type 0} (used low : X → Bool) (xs : List X) → count_by (λ s. used s && low s) xs + count_by (λ s. used s && not (used s && low s)) xs ≡ count_by used xs
count_parts used low [] = refl
count_parts used low (x ∷ xs) =
    omega (arith, sum_by-cons (λ s. cond (used s && low s) 1 0) x xs, sum_by-cons (λ s. cond (used s && not (used s && low s)) 1 0) x xs, sum_by-cons (λ s. cond (used s) 1 0) x xs, count_parts used low xs, one (used x) (low x))
  where
    one : (u t : Bool) → cond (u && t) 1 0 + cond (u && not (u && t)) 1 0 ≡ cond u 1 0
    one true true = refl
    one true false = refl
    one false t = refl

pub upper_many : (depth lower upper : ℕ) (slots : List Slot) → lower ≡ length (filter (is_lower depth) slots) → lower + upper ≡ length (in_use slots)
    → upper ≡ length (filter (λ s. is_in_use s.head && not (is_lower depth s)) slots)
upper_many depth lower upper slots low all =
    omega (
      arith,
      low,
      all,
      length-filter (is_lower depth) slots,
      length-filter (λ (s : Slot). is_in_use s.head && not (is_lower depth s)) slots,
      length-filter (λ (s : Slot). is_in_use s.head) slots,
      count_parts (λ (s : Slot). is_in_use s.head) (λ s. is_lower_name depth (name_of s)) slots,
    )

-- ---- a record that was put into a leaf's block

module _ (old area new : List ℕ) (leaf : Leaf) (entries : ℕ) (entry : Dirent) (name : List ℕ) (can : CanTake old (length name)) (head : leaf_read old ≡ Ok leaf) (counted : entries ≡ leaf.entries + 1)
    (put : put_slot entry name (slots_of (drop leaf_length old)) ≡ Some (slots_of area)) (filled : IsArea area) (long : length (put_mid leaf_length (length old - leaf_length) old area) ≡ length old)
    (is : new ≡ leaf_put (record leaf { entries = entries }) (put_mid leaf_length (length old - leaf_length) old area)) (read : leaf_read new ≡ Ok (record leaf { entries = entries }))
    (behind : drop leaf_length new ≡ drop leaf_length (put_mid leaf_length (length old - leaf_length) old area)) where
  head_is : leaf ≡ leaf_of old
  head_is = same leaf (leaf_of old) (sym head ∙ can.block.read)
    where
      same : (a b : Leaf) → ◌≡◌ {A = Result Leaf LayoutFault} (Ok a) (Ok b) → a ≡ b
      same a b e = cc

  more : record leaf { entries = entries } ≡ record (leaf_of old) { entries = (leaf_of old).entries + 1 }
  more = ap (λ n. record leaf { entries = n }) counted ∙ ap (λ (l : Leaf). record l { entries = l.entries + 1 }) head_is

  pub filled_by : IsLeafFilled old new entry name
  filled_by = record {
    slots = slots_of area;
    put = put;
    written = subst (λ l. IsLeafWritten old new l (slots_of area)) more (written_by old area new (record leaf { entries = entries }) can.block.long long is read behind filled);
  }
