-- What a flush logs, and its header, have the widths in which they are written.
use Rattle.std.proofs.Common.{◌≡◌, ◌≤◌, ◌<◌, ◌+◌, ◌^◌, ℕ, zero, suc, List, [], ◌∷◌, length, replicate, Option, None, Some, is_some, inl, inr, ap, true, arith}
use Rattle.std.specs.FinMap as table
use Rattle.std.specs.List.{All}
use Rattle.std.proofs.lemmas.List.{length-replicate}
use Rattle.std.proofs.lemmas.List.Elements.{All-replicate}
use Rattle.log_layout.specs.Chunks.{Logged}
use Rattle.log_layout.specs.Laws.{HasWidths, HeadersReadBack}
use Rattle.log_rings.specs.Laws.{HasNumbers}
use Rattle.log_layout.specs.Journal.{next}
use Rattle.log_layout.specs.Transactions.{after}
use Rattle.log_rings.proofs.Flushed.{each_entry}
use Rattle.std.proofs.Math.Nat.{mod-eq_of_lt}
use Rattle.std.proofs.lemmas.Bool.Decides.{nat_tests}
use Rattle.node_journal.specs.Places.{place_on}
use Rattle.log_values.specs.Blocks as set
use Rattle.log_values.specs.Flushing.{IsTail, first_place, flush_chunks, head_place, of_itself, of_none, of_oldest, place_of}
use Rattle.log_values.specs.Log.{Flush, LogValue, Version}
use Rattle.log_values.specs.Sound.{IsSoundLog}
use Rattle.log_values.specs.Transactions.{flushed_as, logged_as}
use Rattle.node_journal.specs.Encoding.{header_of, header_place}
use Rattle.node_journal.specs.Written.{AreNumbers, IsHeaderRead}
use Rattle.log_widths.specs.Laws.{WidthsAreNumbers}
use Rattle.log_widths.specs.Widths.{AreBytes, HasLogWidths, IsNumber}

next_inside : (places p : ℕ) → p < places → next places p < places
next_inside places p low = grind (arith, nat_tests)

on_inside : (places p count : ℕ) → p < places → place_on places p count < places
on_inside places p zero low = low
on_inside places p (suc count) low = on_inside places (next places p) count (next_inside places p low)

is_there : {A : Type 0} (o : Option A) (a : A) → o ≡ Some a → is_some o ≡ true
is_there o a e = ap is_some e

module _ (back : HeadersReadBack) (log : LogValue) (f : Flush) (sound : IsSoundLog log) (widths : HasLogWidths log) (is : log.flush ≡ Some f) (more : log.sequence + 1 < 2 ^ 64) where
  versions : (b : ℕ) (v : Version) → table.get f.versions b ≡ Some v → IsNumber b × AreBytes v.bytes
  versions = (widths.flushed f is).0

  first_in : first_place log < log.journal.length
  first_in = next_inside log.journal.length log.head sound.head

  head_in : head_place log f < log.journal.length
  head_in = on_inside log.journal.length (first_place log) (length (flush_chunks log f)) first_in

  tail_in : (tail : ℕ) → IsTail log f tail → tail < log.journal.length
  tail_in _ (of_oldest b e needed oldest) = (sound.firsts b e needed.live).0
  tail_in _ (of_itself none some) = first_in
  tail_in _ (of_none none empty) = head_in

  numbers : (tail : ℕ) → AreNumbers (place_of log f tail) (flushed_as f)
  numbers tail = record {
    jid = widths.journal.jid;
    bytes = each_entry Logged (λ e. logged_as e.0 e.1) (λ (e : Logged). AreBytes e.bytes) f.versions (λ b v at. (versions b v at).1);
    blocks = each_entry Logged (λ e. logged_as e.0 e.1) (λ (e : Logged). IsNumber e.block) f.versions (λ b v at. (versions b v at).0);
    revokes = each_entry ℕ (λ e. e.0) IsNumber f.revokes (λ b v at. (widths.flushed f is).1 b (is_there (table.get f.revokes b) v at));
  }

  large : 512 ≤ log.journal.size
  large = elim sound.size [ inl e ↦ omega (arith, e) | inr (inl e) ↦ omega (arith, e) | inr (inr (inl e)) ↦ omega (arith, e) | inr (inr (inr e)) ↦ omega (arith, e) ]

  sequence_low : after log.sequence < 2 ^ 64
  sequence_low = (let same : after log.sequence ≡ log.sequence + 1 = mod-eq_of_lt more in omega (arith, same, more))

  read : (tail : ℕ) → IsTail log f tail → IsHeaderRead log.journal.size (place_of log f tail) (flushed_as f)
  read tail tells = back.back (header_of (place_of log f tail) (head_place log f)) (replicate log.journal.size 0)
      (let long = length-replicate {A = ℕ} log.journal.size 0 in let l = large in omega (arith, l, long)) (All-replicate (λ byte. byte < 256) log.journal.size 0 (omega arith)) its_widths
    where
      its_widths : HasWidths (header_of (place_of log f tail) (head_place log f))
      its_widths = (let jid = widths.journal.jid in let at = tail_in tail tells in let head = head_in in let most = sound.most in record {
        front = (omega arith, (omega arith, (omega arith, (jid, (sequence_low, (omega arith, (omega (arith, at, most), (omega (arith, head, most), tt))))))));
        later = (omega arith, (widths.journal.time, (widths.journal.places (head_place log f) head, (widths.journal.jinode, (omega arith, (omega arith, (omega arith, (omega arith, (omega arith, tt)))))))));
      })

  pub its_numbers : HasNumbers log f
  its_numbers = record { numbers = numbers; read = read; sequence = more }

pub widths_are_numbers : HeadersReadBack → WidthsAreNumbers
widths_are_numbers back log f sound widths is more = its_numbers back log f sound widths is more
