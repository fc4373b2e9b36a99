-- What a log takes of which all is flushed and home.
use Rattle.std.proofs.Common.{◌≡◌, ℕ, zero, suc, ◌+◌, ◌≤◌, Bool, true, false, not, ◌||◌, List, [], ◌∷◌, length, Option, Some, inl, inr, refl, sym, ap, subst, ◌∙◌, true≢false, is_some, arith}
use Rattle.std.proofs.lemmas.List.{length-map}
use Rattle.std.specs.Ordering.{nat_cmp}
use Rattle.std.specs.FinMap as table
use Rattle.drafts.specs.declared.change.Change.{Change}
use Rattle.gfs2_layout.specs.Device.{IsBlockSize}
use Rattle.node_journal.specs.Encoding.{content_of, kind_size, metadata_of, revoke_size, size_of, size_with}
use Rattle.log_layout.specs.Chunks.{Logged, content_room, further_count, numbers_room}
use Rattle.node_journal.specs.Written.{IsLoggable}
use Rattle.log_tables.specs.Kept.{away_count, is_home}
use Rattle.log_tables.specs.Versions.{Way}
use Rattle.log_tables.proofs.Taking.{count-only, only}
use Rattle.log_values.specs.Log.{Entry, Flush, LogValue, Version}
use Rattle.log_values.specs.Changes.{CanBeAdded, Suffices, flushed_count, frames_taken, has_entry, is_flushed, with_change, without_all}
use Rattle.log_values.specs.Flushing.{AllAreHome}
use Rattle.log_values.specs.Laws.{IsAtRest, SmallChangesFit}
use Rattle.log_values.specs.Sound.{IsSoundLog}
use Rattle.log_values.specs.Transactions.{due, logged_as, transaction}
use Rattle.log_values.proofs.Changing.{lists_sound, unmapped}
use Rattle.log_values.proofs.Growing.{freed_fewer, written_within}
use Rattle.log_values.proofs.Landing.{all_none, halves, in_only}
use Rattle.log_values.proofs.Subsets.{within_both}

abbrev away : Entry → Bool
away e = not (is_home e.way)

-- ---- by size

abbrev KindsFit : ℕ → Type 0
KindsFit size = (content metadata : ℕ) → content + metadata ≤ 375 → kind_size (content_room size) content + kind_size (numbers_room size) metadata ≤ 390

kinds_fit : (size : ℕ) → IsBlockSize size → KindsFit size
kinds_fit size (inl e) = subst KindsFit (sym e) (λ content metadata few. omega arith)
kinds_fit size (inr (inl e)) = subst KindsFit (sym e) (λ content metadata few. omega arith)
kinds_fit size (inr (inr (inl e))) = subst KindsFit (sym e) (λ content metadata few. omega arith)
kinds_fit size (inr (inr (inr e))) = subst KindsFit (sym e) (λ content metadata few. omega arith)

abbrev FurtherFit : ℕ → Type 0
FurtherFit size = (revokes : ℕ) → revokes ≤ 512 → further_count size revokes ≤ 8

further_fit : (size : ℕ) → IsBlockSize size → FurtherFit size
further_fit size (inl e) = subst FurtherFit (sym e) (λ revokes few. omega arith)
further_fit size (inr (inl e)) = subst FurtherFit (sym e) (λ revokes few. omega arith)
further_fit size (inr (inr (inl e))) = subst FurtherFit (sym e) (λ revokes few. omega arith)
further_fit size (inr (inr (inr e))) = subst FurtherFit (sym e) (λ revokes few. omega arith)

revokes_fit : (size revokes : ℕ) → IsBlockSize size → revokes ≤ 512 → revoke_size size revokes ≤ 9
revokes_fit size zero is few = omega arith
revokes_fit size (suc n) is few = let further = further_fit size is (suc n) few in omega arith

fits : (size content metadata revokes : ℕ) → IsBlockSize size → content + metadata ≤ 375 → revokes ≤ 512 → size_with size content metadata revokes ≤ 400
fits size content metadata revokes is few some = let kinds = kinds_fit size is content metadata few in let rest = revokes_fit size revokes is some in omega arith

-- ---- what is there

not_some : {A : Type 0} (xs : List A) → ((xs ≡ [] → ⊥) → ⊥) → length xs ≡ 0
not_some [] none = refl
not_some (x ∷ xs) none = absurd (none (λ e. impossible (ap length e)))
  where
    impossible : suc (length xs) ≡ 0 → ⊥
    impossible e = omega arith

pub blocks_due : (log : LogValue) → length (due log).blocks ≡ table.len log.fresh
blocks_due log = length-map (table.entries log.fresh) (λ (e : ℕ × Version). logged_as e.0 e.1) ∙ sym (table.len-entries log.fresh)

pub revokes_due : (log : LogValue) → length (due log).revokes ≡ table.len log.gone
revokes_due log = length-map (table.entries log.gone) (λ (e : ℕ × Unit {0}). e.0) ∙ sym (table.len-entries log.gone)

pub none_away : (log : LogValue) → AllAreHome log → away_count log.live ≡ 0
none_away log home = count-only away log.live ∙ ap (λ (m : table.FinMap nat_cmp Entry). table.len m) (all_none (only away log.live) none) ∙ table.len-empty nat_cmp Entry
  where
    none : (b : ℕ) (e : Entry) → table.get (only away log.live) b ≡ Some e → ⊥
    none b e at = let it = in_only away log.live b (ap is_some at) in true≢false (sym it.2 ∙ ap (λ (w : Way). not (is_home w)) (home b it.0 it.1))

module _ (log : LogValue) (rest : IsAtRest log) where
  nothing_changed : table.len log.fresh ≡ 0
  nothing_changed = sym (blocks_due log) ∙ not_some (due log).blocks (λ some. rest.flushed (inl some))

  nothing_flies : flushed_count log.flush ≡ 0
  nothing_flies = ap flushed_count rest.idle

  module _ (c : Change) (sound : IsSoundLog log) (can : CanBeAdded log.journal.size c) (frames : 512 ≤ log.journal.frames) (few_live : table.len log.live ≤ 512) (few : length c.blocks.items ≤ 375) where
    few_changed : table.len (with_change log c).fresh ≤ 375
    few_changed =
        let fewer = freed_fewer c.freed.items log.fresh in
        let more = written_within c.blocks.items c.locks.items (without_all c.freed.items log.fresh) in
        let none = nothing_changed in
        omega arith

    frames_suffice : frames_taken (with_change log c) ≤ log.journal.frames
    frames_suffice = let changed = few_changed in let flies = nothing_flies in let home = none_away log rest.home in omega arith

    sound_still : IsSoundLog (with_change log c)
    sound_still =
        lists_sound log c.blocks.items c.locks.items c.freed.items sound can.locks (unmapped (IsLoggable log.journal.size) c.blocks.items can.whole.blocks) frames_suffice

    -- only what is live is to be revoked
    few_gone : table.len (with_change log c).gone ≤ 512
    few_gone =
        let nothing : table.FinMap nat_cmp Version = table.empty in
        let live = within_both (with_change log c).gone log.live nothing (λ b there. inl (lives b (sound_still.gone b there))) in
        let none = table.len-empty nat_cmp Version in
        omega arith
      where
        either : (x : Bool) → x || false ≡ true → x ≡ true
        either true is = refl
        either false is = is

        lives : (b : ℕ) → has_entry log b ≡ true → table.contains_key log.live b ≡ true
        lives b has = either (table.contains_key log.live b) (sym (ap (λ (f : Option Flush). table.contains_key log.live b || is_flushed f b) rest.idle) ∙ has)

    blocks_suffice : size_of log.journal.size (transaction (with_change log c).fresh (with_change log c).gone) ≤ 400
    blocks_suffice =
        let t = transaction (with_change log c).fresh (with_change log c).gone in
        let both = halves (λ (e : Logged). e.plain) t.blocks ∙ blocks_due (with_change log c) in
        let revokes = revokes_due (with_change log c) in
        let changed = few_changed in
        let gone = few_gone in
        fits log.journal.size (length (content_of t)) (length (metadata_of t)) (length t.revokes) sound.size (omega arith) (omega arith)

    pub suffices : Suffices (with_change log c)
    suffices = record { frames = frames_suffice; blocks = blocks_suffice }

pub small_changes_fit : SmallChangesFit
small_changes_fit log c sound can rest frames few_live few = suffices log rest c sound can frames few_live few
