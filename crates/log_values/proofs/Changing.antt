-- What always holds of a log holds still, once a call's change was added.
use Rattle.std.proofs.Common.{◌≡◌, ℕ, Bool, true, false, not, ◌||◌, ◌&&◌, List, [], ◌∷◌, map, length, ◌≤◌, None, Some, ◌⊎◌, inl, inr, refl, sym, ap, subst, ◌∙◌, true≢false, if◌then◌else◌, arith}
use Rattle.std.proofs.lemmas.Bool.{cases_eq}
use Rattle.std.proofs.lemmas.Cmp.{nat_cmp_total}
use Rattle.std.specs.List.{All}
use Rattle.std.proofs.lemmas.List.Elements.{All-cons, All-head, All-nil, All-tail, All-weaker}
use Rattle.std.specs.Ordering.{eq_by_cmp, nat_cmp}
use Rattle.std.specs.FinMap as table
use Rattle.log_values.specs.Blocks as set
use Rattle.log_values.proofs.BlocksHad.{contains-insert, contains-remove}
use Rattle.finite_maps.proofs.Keys.{tied, untied}
use Rattle.drafts.specs.declared.change.Written.{Written}
use Rattle.drafts.specs.declared.change.Change.{Change}
use Rattle.glock_names.specs.declared.LockName.{LockName}
use Rattle.log_layout.specs.Chunks.{Logged}
use Rattle.journal_scan.specs.Said.{logged}
use Rattle.node_journal.specs.Written.{IsLoggable}
use Rattle.log_tables.proofs.Counting.{apart, at_key, gone, left}
use Rattle.log_tables.proofs.Steps.{same_some}
use Rattle.log_values.specs.Log.{LogValue, Version}
use Rattle.log_values.specs.Changes.{CanBeAdded, Suffices, frames_taken, has_entry, version_of, with_change, with_freed, with_written, without_all, without_written}
use Rattle.log_values.specs.Sound.{IsSoundLog}
use Rattle.log_values.specs.Transactions.{logged_as}
use Rattle.log_values.proofs.Keeping.{fits_beside, tail_beside}
use Rattle.log_values.proofs.Landing.{no_some}

abbrev Versions : Type 0
Versions = table.FinMap nat_cmp Version

-- ---- what is in a set with an item more, or less

in_insert : (s : set.Blocks) (k q : ℕ) → set.contains (set.insert s k) q ≡ true → (q ≡ k) ⊎ (set.contains s q ≡ true)
in_insert s k q there = by (cases_eq q k)
  where
    by : (q ≡ k) ⊎ (q ≡ k → ⊥) → (q ≡ k) ⊎ (set.contains s q ≡ true)
    by (inl e) = inl e
    by (inr ne) = inr (ap (λ b. b || set.contains s q) (sym (untied table.nat_cmp-IsAntisymmetric q k ne)) ∙ sym (contains-insert s k q) ∙ there)

in_remove : (s : set.Blocks) (k q : ℕ) → set.contains (set.remove s k) q ≡ true → (q ≡ k → ⊥) × (set.contains s q ≡ true)
in_remove s k q there = by (cases_eq q k)
  where
    by : (q ≡ k) ⊎ (q ≡ k → ⊥) → (q ≡ k → ⊥) × (set.contains s q ≡ true)
    by (inl e) = absurd (true≢false (sym there ∙ contains-remove s k q ∙ ap (λ x. not (eq_by_cmp nat_cmp x k) && set.contains s q) e ∙ ap (λ b. not b && set.contains s q) (tied nat_cmp_total k)))
    by (inr ne) = (ne, ap (λ b. not b && set.contains s q) (sym (untied table.nat_cmp-IsAntisymmetric q k ne)) ∙ sym (contains-remove s k q) ∙ there)

-- ---- each version has what each had, and each that is put has

module _ (P : ℕ → Version → Type 0) where
  pub dropped_all : (bs : List ℕ) (m : Versions) → ((b : ℕ) (v : Version) → table.get m b ≡ Some v → P b v) → (b : ℕ) (v : Version) → table.get (without_all bs m) b ≡ Some v → P b v
  dropped_all [] m each = each
  dropped_all (k ∷ bs) m each = dropped_all bs (table.remove m k) (λ b v at. by b v at (cases_eq b k))
    where
      by : (b : ℕ) (v : Version) → table.get (table.remove m k) b ≡ Some v → (b ≡ k) ⊎ (b ≡ k → ⊥) → P b v
      by b v at (inl e) = absurd (no_some v (sym at ∙ ap (table.get (table.remove m k)) e ∙ gone m k))
      by b v at (inr ne) = each b v (sym (left m k b ne) ∙ at)

  pub written_all : (ws : List Written) (ls : List LockName) (m : Versions) → All (λ (w : Written). (l : LockName) → P w.block (version_of w l)) ws → ((b : ℕ) (v : Version) → table.get m b ≡ Some v → P b v)
      → (b : ℕ) (v : Version) → table.get (with_written ws ls m) b ≡ Some v → P b v
  written_all [] ls m puts each = each
  written_all (w ∷ ws) [] m puts each = each
  written_all (w ∷ ws) (l ∷ ls) m puts each = written_all ws ls (table.insert m w.block (version_of w l)) (All-tail (λ (x : Written). (k : LockName) → P x.block (version_of x k)) w ws puts) (λ b v at. by b v at (cases_eq b w.block))
    where
      by : (b : ℕ) (v : Version) → table.get (table.insert m w.block (version_of w l)) b ≡ Some v → (b ≡ w.block) ⊎ (b ≡ w.block → ⊥) → P b v
      by b v at (inl e) =
          let same : version_of w l ≡ v = same_some (table.get (table.insert m w.block (version_of w l)) w.block) (version_of w l) v (at_key m w.block (version_of w l)) (ap (table.get (table.insert m w.block (version_of w l))) (sym e) ∙ at) in
          subst (P b) same (subst (λ k. P k (version_of w l)) (sym e) (All-head (λ (x : Written). (k : LockName) → P x.block (version_of x k)) w ws puts l))
      by b v at (inr ne) = each b v (sym (apart m w.block (version_of w l) b ne) ∙ at)

-- ---- what is to be revoked isn't changed

abbrev IsApart : set.Blocks → Versions → Type 0
IsApart s m = (b : ℕ) → set.contains s b ≡ true → table.get m b ≡ None

freed_apart : (test : ℕ → Bool) (bs : List ℕ) (s : set.Blocks) (m : Versions) → IsApart s m → IsApart (with_freed test bs s) (without_all bs m)
freed_apart test [] s m is = is
freed_apart test (k ∷ bs) s m is = freed_apart test bs (if test k then set.insert s k else s) (table.remove m k) (λ b there. by b (test k) there (cases_eq b k))
  where
    by : (b : ℕ) (t : Bool) → set.contains (if t then set.insert s k else s) b ≡ true → (b ≡ k) ⊎ (b ≡ k → ⊥) → table.get (table.remove m k) b ≡ None
    by b t there (inl e) = ap (table.get (table.remove m k)) e ∙ gone m k
    by b true there (inr ne) = left m k b ne ∙ elim (in_insert s k b there) [ inl e ↦ absurd (ne e) | inr x ↦ is b x ]
    by b false there (inr ne) = left m k b ne ∙ is b there

written_apart : (ws : List Written) (ls : List LockName) (s : set.Blocks) (m : Versions) → length ls ≡ length ws → IsApart s m → IsApart (without_written ws s) (with_written ws ls m)
written_apart [] ls s m even is = is
written_apart (w ∷ ws) [] s m even is = absurd (omega arith)
written_apart (w ∷ ws) (l ∷ ls) s m even is =
    written_apart ws ls (set.remove s w.block) (table.insert m w.block (version_of w l)) (omega arith)
    (λ b there. let out = in_remove s w.block b there in apart m w.block (version_of w l) b out.0 ∙ is b out.1)

-- ---- what is to be revoked has an entry

abbrev HasEach : (ℕ → Bool) → set.Blocks → Type 0
HasEach test s = (b : ℕ) → set.contains s b ≡ true → test b ≡ true

freed_have : (test : ℕ → Bool) (bs : List ℕ) (s : set.Blocks) → HasEach test s → HasEach test (with_freed test bs s)
freed_have test [] s has = has
freed_have test (k ∷ bs) s has = freed_have test bs (if test k then set.insert s k else s) (λ b there. by b (test k) refl there)
  where
    by : (b : ℕ) (t : Bool) → test k ≡ t → set.contains (if t then set.insert s k else s) b ≡ true → test b ≡ true
    by b true is there = elim (in_insert s k b there) [ inl e ↦ ap test e ∙ is | inr x ↦ has b x ]
    by b false is there = has b there

written_have : (test : ℕ → Bool) (ws : List Written) (s : set.Blocks) → HasEach test s → HasEach test (without_written ws s)
written_have test [] s has = has
written_have test (w ∷ ws) s has = written_have test ws (set.remove s w.block) (λ b there. has b (in_remove s w.block b there).1)

pub unmapped : (P : Logged → Type 0) (ws : List Written) → All P (map logged ws) → All (λ (w : Written). P (logged w)) ws
unmapped P [] all = All-nil (λ (w : Written). P (logged w))
unmapped P (w ∷ ws) all = All-cons (λ (w : Written). P (logged w)) w ws (All-head P (logged w) (map logged ws) all) (unmapped P ws (All-tail P (logged w) (map logged ws) all))

-- a log with these blocks written, under these locks, and those freed
abbrev pub with_lists : LogValue → List Written → List LockName → List ℕ → LogValue
with_lists log ws ls bs = record log { fresh = with_written ws ls (without_all bs log.fresh); gone = without_written ws (with_freed (has_entry log) bs log.gone) }

pub lists_sound : (log : LogValue) (ws : List Written) (ls : List LockName) (bs : List ℕ) → IsSoundLog log → length ls ≡ length ws → All (λ (w : Written). IsLoggable log.journal.size (logged w)) ws
    → frames_taken (with_lists log ws ls bs) ≤ log.journal.frames → IsSoundLog (with_lists log ws ls bs)
lists_sound log ws ls bs sound even may enough = record {
  size = sound.size;
  least = sound.least;
  most = sound.most;
  places = sound.places;
  few = sound.few;
  head = sound.head;
  tail = sound.tail;
  free = sound.free;
  firsts = sound.firsts;
  room = sound.room;
  none = sound.none;
  gone = written_have (has_entry log) ws (with_freed (has_entry log) bs log.gone) (freed_have (has_entry log) bs log.gone sound.gone);
  apart = written_apart ws ls (with_freed (has_entry log) bs log.gone) (without_all bs log.fresh) even (freed_apart (has_entry log) bs log.gone log.fresh sound.apart);
  fresh = written_all (λ b v. IsLoggable log.journal.size (logged_as b v)) ws ls (without_all bs log.fresh) loggable
      (dropped_all (λ b v. IsLoggable log.journal.size (logged_as b v)) bs log.fresh sound.fresh);
  flushed = sound.flushed;
  frames = enough;
  fits = λ f e. fits_beside log (with_lists log ws ls bs).fresh (with_lists log ws ls bs).gone f (sound.fits f e);
  revoked = sound.revoked;
  reached = sound.reached;
  told = λ f t e at. tail_beside log (with_lists log ws ls bs).fresh (with_lists log ws ls bs).gone f t (sound.told f t e at);
  rests = sound.rests;
}
  where
    loggable : All (λ (w : Written). (l : LockName) → IsLoggable log.journal.size (logged_as w.block (version_of w l))) ws
    loggable = All-weaker (λ (w : Written). IsLoggable log.journal.size (logged w)) (λ (w : Written). (l : LockName) → IsLoggable log.journal.size (logged_as w.block (version_of w l))) (λ w is l. is) ws may

pub change_sound : (log : LogValue) (c : Change) → IsSoundLog log → CanBeAdded log.journal.size c → Suffices (with_change log c) → IsSoundLog (with_change log c)
change_sound log c sound can enough =
    lists_sound log c.blocks.items c.locks.items c.freed.items sound can.locks (unmapped (IsLoggable log.journal.size) c.blocks.items can.whole.blocks) enough.frames
