-- The counts of a log with one block freed, or written, from those of one that has the same of it.
use Rattle.std.proofs.Common.{◌≡◌, ℕ, ◌+◌, ◌-◌, ◌≤◌, ◌&&◌, not, Bool, true, false, [], ◌∷◌, Option, None, Some, refl, sym, ap, ap₂, subst, ◌∙◌, arith}
use Rattle.std.specs.FinMap as table
use Rattle.std.specs.Option.{option_map}
use mir.Val.{bool_byte}
use Rattle.drafts.specs.declared.change.Written.{Written}
use Rattle.glock_names.specs.declared.LockName.{LockName}
use Rattle.log_tables.proofs.Counting.{one}
use Rattle.log_values.specs.Blocks as set
use Rattle.log_values.specs.Log.{LogValue, Version}
use Rattle.log_values.specs.Changes.{has_entry, version_of}
use Rattle.log_values.proofs.Subsets.{some_len}
use Rattle.log_memory.specs.Adding.{CountsFor, IsAlike, IsAmong, counts_of, less, more, with_freed_all, with_written_all}
use Rattle.log_memory.specs.Inside.{log_in}
use Rattle.log_memory.specs.declared.log.Log.TheInside.{Inside}
use Rattle.log_memory.specs.declared.adding.Counts.{Counts}
use Rattle.log_memory.proofs.Tallies.{among, change_at, dropped_len, inserted_tally, marked_len, removed_tally, tally, tally_is}

-- a test as a number
pub byte_is : (t : Bool) → bool_byte t ≡ one t
byte_is true = refl
byte_is false = refl

-- a block's change, as the tables tell it
pub change_is : (l : Inside) (log : LogValue) (b : ℕ) (told : Option Bool) → log_in l ≡ log → told ≡ change_at l.tables.fresh b → told ≡ change_at log.fresh b
change_is l log b told is told_is = told_is ∙ ap (λ (x : LogValue). change_at x.fresh b) is

module _ (log : LogValue) (b : ℕ) (n : Counts) where
  pub change_among : CountsFor log b n → IsAmong (change_at log.fresh b) n
  change_among h =
      subst (λ (k : Counts). IsAmong (change_at log.fresh b) k) (sym (h.counts ∙ tally_is h.counted))
      (subst (λ (o : Option Version). IsAmong (option_map (λ (v : Version). v.plain) o) (tally h.counted.fresh h.counted.gone)) h.alike.fresh (among h.counted.fresh h.counted.gone b))

  revokes_kept : (o : Option Bool) (k : Counts) → (less o k).revokes ≡ k.revokes
  revokes_kept None k = refl
  revokes_kept (Some true) k = refl
  revokes_kept (Some false) k = refl

  more_kept : (p : Bool) (k : Counts) → (more p k).revokes ≡ k.revokes
  more_kept true k = refl
  more_kept false k = refl

  abbrev with_revokes : Counts → ℕ → Counts
  with_revokes k r = record k { revokes = r }

  abbrev with_more : Counts → ℕ → Counts
  with_more k r = record k { revokes = k.revokes + r }

  abbrev with_fewer : Counts → ℕ → Counts
  with_fewer k r = record k { revokes = k.revokes - r }

  -- what is to be revoked is counted
  pub gone_among : CountsFor log b n → (plain : Bool) → one (set.contains log.gone b) ≤ (more plain (less (change_at log.fresh b) n)).revokes
  gone_among h plain = by (set.contains h.counted.gone b) refl
    where
      same : (more plain (less (change_at log.fresh b) n)).revokes ≡ table.len h.counted.gone
      same = more_kept plain (less (change_at log.fresh b) n) ∙ revokes_kept (change_at log.fresh b) n ∙ ap (λ (k : Counts). k.revokes) (h.counts ∙ tally_is h.counted)

      by : (x : Bool) → set.contains h.counted.gone b ≡ x → one (set.contains log.gone b) ≤ (more plain (less (change_at log.fresh b) n)).revokes
      by true is =
          let some = some_len h.counted.gone b is in
          let one_is : one (set.contains log.gone b) ≡ 1 = ap one (sym h.alike.gone ∙ is) in
          let all = same in
          omega arith
      by false is = let one_is : one (set.contains log.gone b) ≡ 0 = ap one (sym h.alike.gone ∙ is) in omega arith

  module _ (m : LogValue) (alike : IsAlike log m b) (is : n ≡ counts_of m) where
    n_is : n ≡ tally m.fresh m.gone
    n_is = is ∙ tally_is m

    change : change_at log.fresh b ≡ change_at m.fresh b
    change = ap (option_map (λ (v : Version). v.plain)) (sym alike.fresh)

    rest_is : less (change_at log.fresh b) n ≡ less (change_at m.fresh b) (tally m.fresh m.gone)
    rest_is = λ i. less (change i) (n_is i)

    -- once it is freed
    pub freed_counts : (rest : Counts) (t : Bool) (d : ℕ) → rest ≡ less (change_at log.fresh b) n → t ≡ (has_entry log b && not (set.contains log.gone b)) → d ≡ bool_byte t
        → record rest { revokes = rest.revokes + d } ≡ counts_of (with_freed_all m (b ∷ []))
    freed_counts rest t d rest_are t_is d_is =
        ap₂ with_more (rest_are ∙ rest_is ∙ sym (removed_tally m.fresh m.gone b)) (d_is ∙ byte_is t ∙ ap one (t_is ∙ more_is))
        ∙ ap (with_revokes (tally (table.remove m.fresh b) m.gone)) (sym (marked_len m.gone b (has_entry m b)))
        ∙ sym (tally_is (with_freed_all m (b ∷ [])))
      where
        more_is : (has_entry log b && not (set.contains log.gone b)) ≡ (has_entry m b && not (set.contains m.gone b))
        more_is = ap₂ (λ x y. x && not y) (sym alike.entry) (sym alike.gone)

    -- once it is written
    pub written_counts : (w : Written) (lock : LockName) (all : Counts) (t : Bool) (d : ℕ) → w.block ≡ b → all ≡ more w.plain (less (change_at log.fresh b) n) → t ≡ set.contains log.gone b
        → d ≡ bool_byte t → record all { revokes = all.revokes - d } ≡ counts_of (with_written_all m (w ∷ []) (lock ∷ []))
    written_counts w lock all t d b_is all_are t_is d_is =
        ap₂ with_fewer (all_are ∙ ap (more w.plain) rest_is ∙ sym (inserted_tally m.fresh m.gone b (version_of w lock))) (d_is ∙ byte_is t ∙ ap one (t_is ∙ sym alike.gone))
        ∙ ap (with_revokes (tally (table.insert m.fresh b (version_of w lock)) m.gone)) (sym (dropped_len m.gone b))
        ∙ ap (λ k. tally (table.insert m.fresh k (version_of w lock)) (set.remove m.gone k)) (sym b_is)
        ∙ sym (tally_is (with_written_all m (w ∷ []) (lock ∷ [])))
