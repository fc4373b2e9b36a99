-- What a row of a table tells of the map that is seen.
use Rattle.std.proofs.Common.{◌≡◌, ℕ, ◌<◌, ◌+◌, ◌≤◌, Bool, true, false, cond, ◌⊎◌, inl, inr, take, List, [], Option, None, Some, refl, sym, ap, subst, ◌∙◌, is_some, length, slice_get, get_or, unwrap_or, arith}
use Rattle.std.proofs.lemmas.List.{take_all}
use Rattle.std.proofs.lemmas.List.Sums.{count_by_more_no, count_by_more_yes}
use Rattle.std.specs.List.{count_by}
use Rattle.std.proofs.lemmas.Option.{get_or_from_slice_get, slice_get-map, slice_get_cases, slice_get_within}
use Rattle.std.specs.Option.{option_and_then, option_copied, option_map}
use denote.Bor.{Bor}
use Rattle.std.specs.Ordering.{nat_cmp}
use Rattle.std.specs.FinMap as table
use Rattle.fixed_tables.proofs.Rows.{find_at}
use Rattle.frame_pool.specs.Frames.{Frames, IsOut}
use Rattle.log_tables.specs.Seen.{seen}
use Rattle.log_tables.specs.Slots.{bytes_in, frame_of_hold}
use Rattle.log_tables.specs.Slots.Slot.{Flushed, Live}
use Rattle.log_tables.specs.IsTables.{IsTables}
use Rattle.log_tables.specs.declared.cells.Cell.{Cell}
use Rattle.log_tables.specs.declared.cells.LiveCell.{LiveCell}
use Rattle.log_tables.specs.declared.tables.Tables.TheInside.{Inside}
use Rattle.log_tables.proofs.Seeing.{entries-seen, get-seen, len-seen}

pub some_seen : {A B : Type 0} (f : A → B) (m : table.FinMap nat_cmp A) (n : table.FinMap nat_cmp B) (b : ℕ) → seen f m ≡ n → is_some (table.get m b) ≡ table.contains_key n b
some_seen f m n b is = sym (mapped (table.get m b)) ∙ sym (ap is_some (get-seen f m b)) ∙ ap (λ (x : table.FinMap nat_cmp _). table.contains_key x b) is
  where
    mapped : (o : Option _) → is_some (option_map f o) ≡ is_some o
    mapped None = refl
    mapped (Some x) = refl

module _ {A B : Type 0} (f : A → B) (m : table.FinMap nat_cmp A) (n : table.FinMap nat_cmp B) (is : seen f m ≡ n) where
  pub len_seen : table.len m ≡ table.len n
  len_seen = sym (len-seen f m) ∙ ap (λ (x : table.FinMap nat_cmp B). table.len x) is

  pub row_there : (place : ℕ) → place < table.len n → place < table.len m
  row_there place less = subst (λ k. place < k) (sym len_seen) less

  pub row_seen : (place : ℕ) (r : ℕ × A) (e : ℕ × B) → slice_get (table.entries m) place ≡ Some r → slice_get (table.entries n) place ≡ Some e → (r.0, f r.1) ≡ e
  row_seen place r e here there =
      let both : Some (r.0, f r.1) ≡ Some e =
      sym (ap (option_map (λ (x : ℕ × A). (x.0, f x.1))) here) ∙ sym (slice_get-map (λ (x : ℕ × A). (x.0, f x.1)) (table.entries m) place)
      ∙ ap (λ (es : List (ℕ × B)). slice_get es place) (sym (entries-seen f m) ∙ ap (λ (x : table.FinMap nat_cmp B). table.entries x) is) ∙ there in
      ap (λ (o : Option (ℕ × B)). unwrap_or o e) both

-- the value of a row's number is the row's
pub row_gets : {A : Type 0} (m : table.FinMap nat_cmp A) (place : ℕ) (r : ℕ × A) → slice_get (table.entries m) place ≡ Some r → table.get m r.0 ≡ Some r.1
row_gets m place r here =
    let at : get_or (table.entries m) place r ≡ r = get_or_from_slice_get (table.entries m) place r r here in
    table.get-entries m r.0 ∙ find_at (table.entries m) r.0 place r (table.entries_sorted m) (slice_get_within (table.entries m) place r here) (ap (λ (x : ℕ × _). x.0) at) ∙ ap (λ (x : ℕ × _). Some x.1) at

module _ (t : Inside) (h : IsTables t) where
  -- the frame of a row of the flush is out
  pub flushed_out : (place : ℕ) (r : ℕ × Cell) → slice_get (table.entries t.flushed.at) place ≡ Some r → IsOut t.pool r.1.frame
  flushed_out place r here = h.held.out (Flushed r.0) r.1.frame (ap (option_map (λ (x : Cell). x.frame)) (row_gets t.flushed.at place r here))

  pub live_out : (place frame : ℕ) (r : ℕ × LiveCell) → slice_get (table.entries t.live.at) place ≡ Some r → frame_of_hold r.1.hold ≡ Some frame → IsOut t.pool frame
  live_out place frame r here holds = h.held.out (Live r.0) frame (ap (option_and_then (λ (x : LiveCell). frame_of_hold x.hold)) (row_gets t.live.at place r here) ∙ holds)

-- the bytes of a frame that is out
pub out_bytes : (pool : Frames) (frame : ℕ) (bytes : List ℕ) → table.get pool.out frame ≡ Some bytes → bytes ≡ bytes_in pool frame
out_bytes pool frame bytes at = sym (ap (λ (o : Option (List ℕ)). unwrap_or o []) at)

pub copied_some : {A : Type 0} (o : Option (Bor A)) → is_some o ≡ is_some (option_copied o)
copied_some None = refl
copied_some (Some x) = refl

-- ---- how many rows pass a test, row by row

module _ {V : Type 0} (p : V → Bool) (m : table.FinMap nat_cmp V) (place n : ℕ) (so_far : n ≡ count_by (λ (e : ℕ × V). p e.1) (take place (table.entries m))) where
  pub one_counted : (b : Bool) → place < table.len m → ((e : ℕ × V) → slice_get (table.entries m) place ≡ Some e → b ≡ p e.1)
      → n + cond b 1 0 ≡ count_by (λ (e : ℕ × V). p e.1) (take (place + 1) (table.entries m))
  one_counted b less tells = by (slice_get_cases (table.entries m) place).1
    where
      inside : place < length (table.entries m)
      inside = subst (λ k. place < k) (table.len-entries m) less

      counts : (x : ℕ × V) (c : Bool) → p x.1 ≡ c → b ≡ c → get_or (table.entries m) place x ≡ x → n + cond b 1 0 ≡ count_by (λ (e : ℕ × V). p e.1) (take (place + 1) (table.entries m))
      counts x true is same at =
          ap (λ k. n + cond k 1 0) same ∙ ap (λ k. k + 1) so_far ∙ sym (count_by_more_yes (λ (e : ℕ × V). p e.1) (table.entries m) place x inside (ap (λ (e : ℕ × V). p e.1) at ∙ is))
      counts x false is same at =
          ap (λ k. n + cond k 1 0) same ∙ none_more n ∙ so_far ∙ sym (count_by_more_no (λ (e : ℕ × V). p e.1) (table.entries m) place x inside (ap (λ (e : ℕ × V). p e.1) at ∙ is))
        where
          none_more : (k : ℕ) → k + 0 ≡ k
          none_more k = omega arith

      by : ((x : ℕ × V) × (place < length (table.entries m)) × (slice_get (table.entries m) place ≡ Some x) × (get_or (table.entries m) place x ≡ x)) ⊎ ((length (table.entries m) ≤ place) × (slice_get (table.entries m) place ≡ None))
          → n + cond b 1 0 ≡ count_by (λ (e : ℕ × V). p e.1) (take (place + 1) (table.entries m))
      by (inl (x, less, here, at)) = counts x (p x.1) refl (tells x here) at
      by (inr past) = absurd (let some = past.0 in let less = inside in omega arith)

  pub all_counted : table.len m ≤ place → n ≡ count_by (λ (e : ℕ × V). p e.1) (table.entries m)
  all_counted end = so_far ∙ ap (count_by (λ (e : ℕ × V). p e.1)) (take_all place (table.entries m) (subst (λ k. k ≤ place) (table.len-entries m) end))
