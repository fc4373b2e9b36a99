-- How many blocks a flush writes.
use Rattle.std.proofs.Common.{◌≡◌, ℕ, ◌+◌, ◌-◌, ◌≤◌, length, Option, None, Some, inl, refl, sym, ap, subst, ◌∙◌, vec_len, arith}
use Rattle.std.proofs.lemmas.List.{length-map}
use Rattle.std.specs.Ordering.{nat_cmp}
use Rattle.std.specs.FinMap as table
use Rattle.log_layout.specs.Chunks.{Logged, Transaction}
use Rattle.node_journal.specs.Encoding.{content_of, metadata_of, size_of, size_with}
use Rattle.node_journal.proofs.Lengths.{chunks_length}
use Rattle.log_values.specs.Blocks as set
use Rattle.log_values.specs.Log.{Flush, LogValue, Version}
use Rattle.log_values.specs.Flushing.{flush_chunks, free_in}
use Rattle.log_values.specs.Transactions.{flushed_as, logged_as, transaction}
use Rattle.log_values.proofs.Fitting.{live_fits}
use Rattle.log_values.proofs.Landing.{halves, no_some}
use Rattle.log_values.proofs.Subsets.{within_both}
use Rattle.log_values.proofs.Tails.{chunks_fit}
use Rattle.log_tables.proofs.Steps.{same_some}
use Rattle.log_memory.specs.Inside.{IsLog, flush_in, log_in, stage_of}
use Rattle.log_memory.specs.Rows.{row_of}
use Rattle.log_memory.specs.declared.kinds.Stage.{Stage}
use Rattle.log_memory.specs.declared.log.Log.TheInside.{Inside}
use Rattle.log_memory.proofs.Blocks.{flushed_counted}

pub items_len : (s : set.Blocks) → length (set.items s) ≡ table.len s
items_len s = length-map (table.entries s) (λ (e : ℕ × Unit {0}). e.0) ∙ sym (table.len-entries s)

module _ (l : Inside) (h : IsLog l) where
  -- the flush that was begun, by the fields
  abbrev pub begun_at : Stage → Flush
  begun_at s = record { versions = l.tables.flushed; revokes = l.revoked.at; stage = stage_of s }

  pub flush_with : (s : Stage) → l.stage ≡ Some s → flush_in l ≡ Some (begun_at s)
  flush_with s is = ap (λ (o : Option Stage). flush_in (record l { stage = o })) is

  pub flush_without : l.stage ≡ None → flush_in l ≡ None
  flush_without is = ap (λ (o : Option Stage). flush_in (record l { stage = o })) is

  -- what it logs and revokes
  pub its_parts : (f : Flush) → flush_in l ≡ Some f → (f.versions ≡ l.tables.flushed) × (f.revokes ≡ l.revoked.at)
  its_parts f is = by l.stage refl
    where
      by : (o : Option Stage) → l.stage ≡ o → (f.versions ≡ l.tables.flushed) × (f.revokes ≡ l.revoked.at)
      by None none = absurd (no_some f (sym is ∙ flush_without none))
      by (Some s) some = let same : f ≡ begun_at s = same_some (flush_in l) f (begun_at s) is (flush_with s some) in (ap (λ (x : Flush). x.versions) same, ap (λ (x : Flush). x.revokes) same)

  pub flushed_is_of : (f : Flush) → flush_in l ≡ Some f → flushed_as f ≡ transaction l.tables.flushed l.revoked.at
  flushed_is_of f is = let parts = its_parts f is in (λ i. transaction (parts.0 i) (parts.1 i))

  content_len : length l.content.items ≡ length (content_of (transaction l.tables.flushed l.revoked.at))
  content_len = sym (length-map l.content.items (row_of l.tables)) ∙ ap length h.kinds.content_are

  metadata_len : length l.metadata.items ≡ length (metadata_of (transaction l.tables.flushed l.revoked.at))
  metadata_len = sym (length-map l.metadata.items (row_of l.tables)) ∙ ap length h.kinds.metadata_are

  revokes_len : length l.revokes.items ≡ table.len l.revoked.at
  revokes_len = ap length h.revokes ∙ items_len l.revoked.at

  both_len : length l.content.items + length l.metadata.items ≡ table.len l.tables.flushed
  both_len =
      (λ i. content_len i + metadata_len i) ∙ halves (λ (e : Logged). e.plain) (transaction l.tables.flushed l.revoked.at).blocks
      ∙ length-map (table.entries l.tables.flushed) (λ (e : ℕ × Version). logged_as e.0 e.1) ∙ sym (table.len-entries l.tables.flushed)

  flushed_few : table.len l.tables.flushed ≤ 4096
  flushed_few = let counted = flushed_counted l h in let frames = h.sound.frames in let few = h.sound.few in omega arith

  revoked_few : table.len l.revoked.at ≤ table.len l.tables.live
  revoked_few = by l.stage refl
    where
      by : (o : Option Stage) → l.stage ≡ o → table.len l.revoked.at ≤ table.len l.tables.live
      by None none = let count = ap (λ (s : set.Blocks). table.len s) (h.idle none).1 in let zero = table.len-empty nat_cmp (Unit {0}) in omega arith
      by (Some s) some =
          let fit = within_both l.revoked.at l.tables.live (table.empty {X = Version} {R = nat_cmp}) (λ b there. inl (h.sound.revoked (begun_at s) b (flush_with s some) there).0) in
          let none = table.len-empty nat_cmp Version in
          omega arith

  pub few_blocks : (length l.content.items + length l.metadata.items ≤ 4096) × (length l.revokes.items ≤ 65536)
  few_blocks =
      let both = both_len in
      let few = flushed_few in
      let revokes = revokes_len in
      let among = revoked_few in
      let fits = live_fits (log_in l) h.sound in
      let most = h.sound.most in
      (omega arith, omega arith)

  pub size_is : (f : Flush) → flush_in l ≡ Some f → size_with l.journal.block_size (length l.content.items) (length l.metadata.items) (length l.revokes.items) ≡ size_of l.journal.block_size (flushed_as f)
  size_is f is =
      (λ i. size_with l.journal.block_size (content_len i) (metadata_len i) (ap length h.revokes i))
      ∙ ap (λ (t : Transaction). size_of l.journal.block_size t) (sym (flushed_is_of f is))

  -- what the chunks take, by the lists
  pub chunks_counted : (content metadata revokes n : ℕ) → content ≡ vec_len l.content → metadata ≡ vec_len l.metadata → revokes ≡ vec_len l.revokes → n ≡ size_with l.journal.block_size content metadata revokes
      → (log : LogValue) → log_in l ≡ log → (f : Flush) → log.flush ≡ Some f → n - 1 ≡ length (flush_chunks log f)
  chunks_counted content metadata revokes n a b c counted log same f is =
      subst (λ (x : LogValue). x.flush ≡ Some f → n - 1 ≡ length (flush_chunks x f)) same
      (λ here. less _ n (chunks_length l.journal.block_size l.journal.jid (flushed_as f) h.sound.size) (counted ∙ by_length ∙ size_is f here)) is
    where
      by_length : size_with l.journal.block_size content metadata revokes ≡ size_with l.journal.block_size (length l.content.items) (length l.metadata.items) (length l.revokes.items)
      by_length = λ i. size_with l.journal.block_size ((a ∙ l.content.ok.0) i) ((b ∙ l.metadata.ok.0) i) ((c ∙ l.revokes.ok.0) i)

      less : (k m : ℕ) {s : ℕ} → k + 1 ≡ s → m ≡ s → m - 1 ≡ k
      less k m e d = omega arith

  pub chunks_free : (log : LogValue) → log_in l ≡ log → (f : Flush) → log.flush ≡ Some f → length (flush_chunks log f) + 1 ≤ free_in log
  chunks_free log same f is =
      subst (λ (x : LogValue). x.flush ≡ Some f → length (flush_chunks x f) + 1 ≤ free_in x) same (λ here. chunks_fit (log_in l) f h.sound here) is
