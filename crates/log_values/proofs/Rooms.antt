-- An empty journal has room for what was changed.
use Rattle.std.proofs.Common.{◌≡◌, ℕ, zero, suc, ◌+◌, ◌-◌, ◌<◌, ◌≤◌, true, false, ◌||◌, length, Option, None, inl, inr, refl, sym, ap, subst, ◌∙◌, true≢false, is_some, arith}
use Rattle.std.proofs.lemmas.List.{length-map}
use Rattle.std.specs.Ordering.{nat_cmp}
use Rattle.std.specs.FinMap as table
use Rattle.gfs2_layout.specs.Device.{IsBlockSize}
use Rattle.log_layout.specs.Chunks.{Logged, content_room, numbers_room}
use Rattle.node_journal.specs.Encoding.{content_of, metadata_of, piece_count, revoke_size, size_of, size_with}
use Rattle.log_values.specs.Blocks as set
use Rattle.log_values.specs.Log.{Entry, LogValue, Version}
use Rattle.log_values.specs.Changes.{is_flushed, most_unflushed}
use Rattle.log_values.specs.Flushing.{HasRoom, NothingIsLive}
use Rattle.log_values.specs.Sound.{IsSoundLog, used}
use Rattle.log_values.specs.Transactions.{due, logged_as}
use Rattle.log_values.proofs.Landing.{halves}
use Rattle.log_values.proofs.Subsets.{some_key}
use Rattle.log_values.proofs.Ways.{way_self}
use Rattle.log_layout.specs.Journal.{way}

-- a chunk has at least four entries
takes_few : (size c m : ℕ) → IsBlockSize size → c + m < 400 → size_with size c m 0 + 2 ≤ 512
takes_few size c m sized few = by sized
  where
    P : ℕ → Type 0
    P n = size_with n c m 0 + 2 ≤ 512

    by : IsBlockSize size → size_with size c m 0 + 2 ≤ 512
    by (inl e) = subst P (sym e) (omega (arith, few))
    by (inr (inl e)) = subst P (sym e) (omega (arith, few))
    by (inr (inr (inl e))) = subst P (sym e) (omega (arith, few))
    by (inr (inr (inr e))) = subst P (sym e) (omega (arith, few))

-- each change is content of a file or metadata
both : (log : LogValue) → length (content_of (due log)) + length (metadata_of (due log)) ≡ table.len log.fresh
both log = halves (λ (e : Logged). e.plain) (due log).blocks ∙ length-map (table.entries log.fresh) (λ (e : ℕ × Version). logged_as e.0 e.1) ∙ sym (table.len-entries log.fresh)

-- fewer blocks are changed than the changes take
pub changed_fewer : (log : LogValue) (size most : ℕ) → size_of size (due log) ≤ most → table.len log.fresh < most
changed_fewer log size most fits =
    let all = both log in
    fewer (length (content_of (due log))) (length (metadata_of (due log))) (piece_count (content_room size) (length (content_of (due log)))) (piece_count (numbers_room size) (length (metadata_of (due log)))) (revoke_size size (length (due log).revokes)) all fits
  where
    fewer : (c m p q r : ℕ) → c + m ≡ table.len log.fresh → p + c + (q + m + r) + 1 ≤ most → table.len log.fresh < most
    fewer c m p q r a b = omega arith

module _ (log : LogValue) (sound : IsSoundLog log) (none : log.flush ≡ None) (nothing : NothingIsLive log) where
  -- nothing is to be revoked, since nothing has an entry
  none_gone : (b : ℕ) → set.contains log.gone b ≡ true → ⊥
  none_gone b there =
      true≢false
      (sym (sound.gone b there) ∙ (λ i. table.contains_key (nothing i) b || is_flushed (none i) b) ∙ ap (λ (o : Option Entry). is_some o || false) (table.get-empty nat_cmp b))

  no_revokes : length (set.items log.gone) ≡ 0
  no_revokes = count (table.len log.gone) refl ∙ refl
    where
      items_len : length (set.items log.gone) ≡ table.len log.gone
      items_len = length-map (table.entries log.gone) (λ (e : ℕ × Unit {0}). e.0) ∙ sym (table.len-entries log.gone)

      count : (n : ℕ) → table.len log.gone ≡ n → length (set.items log.gone) ≡ 0
      count zero is = items_len ∙ is
      count (suc n) is = let key = some_key log.gone (subst (λ k. 1 ≤ k) (sym is) (omega arith)) in absurd (none_gone key.0 key.1)

  nothing_used : used log ≡ 0
  nothing_used = ap (λ (t : ℕ). way log.journal.length t log.head) (sound.none nothing) ∙ way_self log.journal.length log.head

  pub empty_has_room : table.len log.fresh < most_unflushed → HasRoom log (due log)
  empty_has_room few =
      enough _ (used log) log.journal.length
      (subst (λ r. size_with log.journal.size (length (content_of (due log))) (length (metadata_of (due log))) r + 2 ≤ 512) (sym no_revokes)
      (takes_few log.journal.size (length (content_of (due log))) (length (metadata_of (due log))) sound.size (let same = both log in omega (arith, few))))
      nothing_used sound.least
    where
      enough : (s u n : ℕ) → s + 2 ≤ 512 → u ≡ 0 → 512 ≤ n → s + 1 ≤ n - (u + 1)
      enough s u n a b c = omega arith
