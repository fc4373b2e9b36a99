-- What is due makes some chunk.
use Rattle.std.proofs.Common.{◌≡◌, ℕ, suc, ◌+◌, ◌≤◌, inl, inr, List, [], ◌∷◌, length, filter, refl, arith}
use Rattle.std.specs.Prelude.{◌≢◌, not}
use Rattle.std.proofs.lemmas.List.Filters.{length-filter_both}
use Rattle.gfs2_layout.specs.Device.{IsBlockSize}
use Rattle.log_layout.specs.Chunks.{Logged, Transaction, content_room, further_count, numbers_room}
use Rattle.log_values.specs.Flushing.{IsDue}
use Rattle.log_values.specs.Log.{LogValue}
use Rattle.log_values.specs.Transactions.{due}
use Rattle.node_journal.specs.Encoding.{chunks, content_of, metadata_of, piece_count, revoke_size}
use Rattle.node_journal.proofs.Lengths.{chunks_length}

parts : (xs : List Logged) → length (filter (λ (e : Logged). e.plain) xs) + length (filter (λ (e : Logged). not e.plain) xs) ≡ length xs
parts xs = length-filter_both (λ (e : Logged). e.plain) (λ (e : Logged). not e.plain) (λ e. refl) xs

some_of : {A : Type 0} (xs : List A) → xs ≢ [] → 1 ≤ length xs
some_of [] not = absurd (not refl)
some_of (x ∷ xs) not = omega arith

revokes_some : (size : ℕ) (rs : List ℕ) → rs ≢ [] → 1 ≤ revoke_size size (length rs)
revokes_some size [] not = absurd (not refl)
revokes_some size (r ∷ rs) not = one_more (further_count size (suc (length rs)))
  where
    one_more : (n : ℕ) → 1 ≤ 1 + n
    one_more n = omega arith

blocks_enough : (count p c q m r n : ℕ) → count + 1 ≡ (p + c) + ((q + m) + r) + 1 → c + m ≡ n → 1 ≤ n → 1 ≤ count
blocks_enough count p c q m r n all both some = omega (arith, all, both, some)

revokes_enough : (count p c r : ℕ) → count + 1 ≡ p + (c + r) + 1 → 1 ≤ r → 1 ≤ count
revokes_enough count p c r all some = omega (arith, all, some)

-- what is due makes some chunk
abbrev pub DueIsSome : LogValue → Type 0
DueIsSome log = IsDue log → 1 ≤ length (chunks log.journal.size log.journal.jid (due log))

pub due_is_some : (log : LogValue) → IsBlockSize log.journal.size → DueIsSome log
due_is_some log size (inl some) =
    blocks_enough (length (chunks log.journal.size log.journal.jid t)) (piece_count (content_room log.journal.size) (length (content_of t))) (length (content_of t))
    (piece_count (numbers_room log.journal.size) (length (metadata_of t))) (length (metadata_of t)) (revoke_size log.journal.size (length t.revokes)) (length t.blocks)
    (chunks_length log.journal.size log.journal.jid t size) (parts t.blocks) (some_of t.blocks some)
  where
    t : Transaction
    t = due log
due_is_some log size (inr some) =
    revokes_enough (length (chunks log.journal.size log.journal.jid t)) _ _ (revoke_size log.journal.size (length t.revokes)) (chunks_length log.journal.size log.journal.jid t size) (revokes_some log.journal.size t.revokes some)
  where
    t : Transaction
    t = due log
