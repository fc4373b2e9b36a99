-- The blocks of a flush's chunks.
use Rattle.std.proofs.Common.{◌≡◌, ℕ, suc, ◌+◌, ◌-◌, ◌<◌, ◌≤◌, not, List, [], ◌∷◌, length, map, Option, None, Some, refl, sym, ap, subst, ◌∙◌, slice_get, arith}
use Rattle.std.specs.List.{All}
use Rattle.std.proofs.lemmas.List.{length-map}
use Rattle.std.proofs.lemmas.List.Elements.{All-cons, All-filter, All-map, All-nil}
use Rattle.std.specs.FinMap as table
use Rattle.log_layout.specs.Chunks.{Logged, Transaction}
use Rattle.node_journal.specs.Written.{AreWhole}
use Rattle.log_tables.proofs.Reading.{row_gets}
use Rattle.log_values.specs.Log.{LogValue, Version}
use Rattle.log_values.specs.Flushing.{free_in}
use Rattle.log_values.specs.Transactions.{logged_as, transaction}
use Rattle.log_memory.specs.Flushing.{IsChunk}
use Rattle.log_memory.specs.Inside.{IsLog, log_in}
use Rattle.log_memory.specs.Rows.{row_of}
use Rattle.log_memory.specs.declared.kinds.Stage.{Stage}
use Rattle.log_memory.specs.declared.log.Log.TheInside.{Inside}
use Rattle.log_memory.proofs.Counts.{begun_at, chunks_free, few_blocks, flush_with}
use Rattle.log_values.proofs.Landing.{none_in}

all_by : {A : Type 0} (P : A → Type 0) (xs : List A) → ((i : ℕ) (x : A) → slice_get xs i ≡ Some x → P x) → All P xs
all_by P [] each = All-nil P
all_by P (x ∷ xs) each = All-cons P x xs (each 0 x refl) (all_by P xs (λ i. each (suc i)))

module _ (l : Inside) (h : IsLog l) where
  abbrev all : Transaction
  all = transaction l.tables.flushed l.revoked.at

  abbrev IsWhole : Logged → Type 0
  IsWhole e = length e.bytes ≡ l.journal.block_size

  each_whole : (b : ℕ) (v : Version) → table.get l.tables.flushed b ≡ Some v → length v.bytes ≡ l.journal.block_size
  each_whole b v at = by l.stage refl
    where
      by : (o : Option Stage) → l.stage ≡ o → length v.bytes ≡ l.journal.block_size
      by None none = absurd (none_in l.tables.flushed b v (h.idle none).0 at)
      by (Some s) some = (h.sound.flushed (begun_at l h s) b v (flush_with l h s some) at).whole

  all_whole : All IsWhole all.blocks
  all_whole =
      All-map IsWhole (λ (e : ℕ × Version). logged_as e.0 e.1) (table.entries l.tables.flushed)
      (all_by (λ (e : ℕ × Version). length e.1.bytes ≡ l.journal.block_size) (table.entries l.tables.flushed) (λ i e at. each_whole e.0 e.1 (row_gets l.tables.flushed i e at)))

  content_all : AreWhole l.journal.block_size (map (row_of l.tables) l.content.items)
  content_all = subst (λ es. AreWhole l.journal.block_size es) (sym h.kinds.content_are) (All-filter (λ (e : Logged). e.plain) IsWhole all.blocks all_whole)

  metadata_all : AreWhole l.journal.block_size (map (row_of l.tables) l.metadata.items)
  metadata_all = subst (λ es. AreWhole l.journal.block_size es) (sym h.kinds.metadata_are) (All-filter (λ (e : Logged). not e.plain) IsWhole all.blocks all_whole)

  -- the rows of a kind, by their places
  module _ (places : List ℕ) (n : ℕ) where
    pub content_whole : places ≡ l.content.items → n ≡ l.journal.block_size → AreWhole n (map (row_of l.tables) places)
    content_whole are is = subst (λ ps. AreWhole n (map (row_of l.tables) ps)) (sym are) (subst (λ m. AreWhole m (map (row_of l.tables) l.content.items)) (sym is) content_all)

    pub metadata_whole : places ≡ l.metadata.items → n ≡ l.journal.block_size → AreWhole n (map (row_of l.tables) places)
    metadata_whole are is = subst (λ ps. AreWhole n (map (row_of l.tables) ps)) (sym are) (subst (λ m. AreWhole m (map (row_of l.tables) l.metadata.items)) (sym is) metadata_all)

    pub few_content : places ≡ l.content.items → length (map (row_of l.tables) places) ≤ 131072
    few_content are = let few = (few_blocks l h).0 in let same = length-map places (row_of l.tables) ∙ ap length are in omega arith

    pub few_metadata : places ≡ l.metadata.items → length (map (row_of l.tables) places) ≤ 131072
    few_metadata are = let few = (few_blocks l h).0 in let same = length-map places (row_of l.tables) ∙ ap length are in omega arith

    pub few_revokes : places ≡ l.revokes.items → length places ≤ 131072
    few_revokes are = let few = (few_blocks l h).1 in let same = ap length are in omega arith

  -- so many places are free, and one more
  pub chunk_free : (log : LogValue) (index : ℕ) → log_in l ≡ log → IsChunk log index → index + 1 ≤ free_in log
  chunk_free log index same is =
      let free = chunks_free l h log same is.flush is.begun in
      let inside = is.inside in
      less index _ _ inside free
    where
      less : (i k n : ℕ) → i < k → k + 1 ≤ n → i + 1 ≤ n
      less i k n a b = omega arith

  pub chunk_small : (log : LogValue) (index : ℕ) → log_in l ≡ log → IsChunk log index → index + 1 ≤ 65536
  chunk_small log index same is = small _ _ l.journal.length h.sound.most (subst (λ (x : LogValue). index + 1 ≤ free_in x) (sym same) (chunk_free log index same is))
    where
      small : (i w n : ℕ) → n ≤ 65536 → i ≤ n - (w + 1) → i ≤ 65536
      small i w n most less = omega arith
