-- What always holds of a log holds still: an empty one, one whose live blocks come home, and one whose flush goes on.
use Rattle.std.proofs.Common.{◌≡◌, ℕ, ◌+◌, ◌<◌, ◌≤◌, Bool, true, false, not, ◌||◌, List, Option, None, Some, inl, refl, sym, ap, subst, ◌∙◌, true≢false, is_some, nat_le, arith}
use Rattle.std.specs.List.{count_by}
use Rattle.std.specs.Option.{option_map}
use Rattle.std.specs.Ordering.{nat_cmp}
use Rattle.std.specs.FinMap as table
use Rattle.log_values.specs.Blocks as set
use Rattle.log_values.proofs.BlocksHad.{contains-empty}
use Rattle.log_layout.specs.Journal.{way}
use Rattle.log_tables.specs.Kept.{away_count, is_home}
use Rattle.log_tables.specs.Versions.{Way}
use Rattle.log_tables.specs.Versions.Way.{Home, Away, Flying}
use Rattle.log_tables.proofs.Steps.{same_some}
use Rattle.log_tables.proofs.Taking.{Live, count-only, only}
use Rattle.log_values.specs.Log.{Entry, Flush, Journal, LogValue, Version}
use Rattle.log_values.specs.Log.Stage.{Headed}
use Rattle.log_values.specs.Changes.{is_flushed}
use Rattle.log_values.specs.Flushing.{AllAreHome, IsTail, settled_way}
use Rattle.log_values.specs.Flushing.IsTail.{of_oldest, of_itself, of_none}
use Rattle.log_values.specs.Laws.{IsJournal, empty_log}
use Rattle.log_values.specs.Sound.{Fits, IsBehindBarrier, IsSoundLog, live_from, used}
use Rattle.log_values.specs.Sound.Fits.{with_room, alone}
use Rattle.log_values.proofs.Landing.{all_none, in_only, no_some, none_in, no_entries, to_only}
use Rattle.log_values.proofs.Subsets.{within_both}
use Rattle.log_values.proofs.Ways.{way_self}

-- ---- an empty log

pub empty_sound : (journal : Journal) (head sequence : ℕ) → IsJournal journal → head < journal.length → IsSoundLog (empty_log journal head sequence)
empty_sound journal head sequence is inside =
    let none = way_self journal.length head in
    let least : 512 ≤ journal.length = is.least in
    record {
      size = is.size;
      least = is.least;
      most = is.most;
      places = is.places;
      few = is.few;
      head = inside;
      tail = inside;
      free = omega arith;
      firsts = λ b e at. absurd (none_in table.empty b e refl at);
      room = λ d less. subst (λ (es : List (ℕ × Entry)). count_by (λ (e : ℕ × Entry). nat_le d (way journal.length head e.1.first)) es + d ≤ way journal.length head head) (sym no_entries) (omega arith);
      none = λ nothing. refl;
      gone = λ b there. absurd (true≢false (sym there ∙ contains-empty b));
      apart = λ b there. absurd (true≢false (sym there ∙ contains-empty b));
      fresh = λ b v at. absurd (none_in table.empty b v refl at);
      flushed = λ f b v e at. absurd (no_some f (sym e));
      frames = (let f = table.len-empty nat_cmp Version in let a = subst (λ (es : List (ℕ × Entry)). count_by (λ (e : ℕ × Entry). not (is_home e.1.way)) es ≡ 0) (sym no_entries) refl in omega arith);
      fits = λ f e. absurd (no_some f (sym e));
      revoked = λ f b e at. absurd (no_some f (sym e));
      reached = λ f k e at. absurd (no_some f (sym e));
      told = λ f t e at. absurd (no_some f (sym e));
      rests = λ f b e is behind at. absurd (no_some f (sym is));
    }

-- ---- live blocks that come nearer home

module _ (log : LogValue) (sound : IsSoundLog log) (live : Live) (same : (b : ℕ) → option_map (λ (e : Entry). e.first) (table.get live b) ≡ option_map (λ (e : Entry). e.first) (table.get log.live b))
    (nearer : (b : ℕ) (e d : Entry) → table.get log.live b ≡ Some e → table.get live b ≡ Some d → is_home e.way ≡ true → is_home d.way ≡ true)
    (told : (f : Flush) (t : ℕ) → log.flush ≡ Some f → f.stage ≡ Headed t → IsTail (record log { live = live }) f t)
    (rests : (f : Flush) (b : ℕ) (e : Entry) → log.flush ≡ Some f → IsBehindBarrier f.stage → table.get live b ≡ Some e → settled_way e.way ≡ e.way) where
  some_mapped : (o : Option Entry) → is_some (option_map (λ (e : Entry). e.first) o) ≡ is_some o
  some_mapped None = refl
  some_mapped (Some e) = refl

  as_live : (b : ℕ) → table.contains_key live b ≡ table.contains_key log.live b
  as_live b = sym (some_mapped (table.get live b)) ∙ ap is_some (same b) ∙ some_mapped (table.get log.live b)

  -- what it was
  was : (b : ℕ) (d : Entry) → table.get live b ≡ Some d → (e : Entry) × (table.get log.live b ≡ Some e) × (d.first ≡ e.first)
  was b d at = by (table.get log.live b) refl (sym (ap (option_map (λ (e : Entry). e.first)) at) ∙ same b)
    where
      by : (o : Option Entry) → table.get log.live b ≡ o → Some d.first ≡ option_map (λ (e : Entry). e.first) o → (e : Entry) × (table.get log.live b ≡ Some e) × (d.first ≡ e.first)
      by None e is = absurd (no_some d.first is)
      by (Some e) here is = (e, here, same_some (Some e.first) d.first e.first (sym is) refl)

  abbrev nothing : table.FinMap nat_cmp Version
  nothing = table.empty

  away_one : (b : ℕ) → table.contains_key (only (λ e. not (is_home e.way)) live) b ≡ true → table.contains_key (only (λ e. not (is_home e.way)) log.live) b ≡ true
  away_one b there =
      let it = in_only (λ e. not (is_home e.way)) live b there in
      let old = was b it.0 it.1 in
      by it.0 old.0 it.1 old.1 it.2 (is_home old.0.way) refl
    where
      by : (d e : Entry) → table.get live b ≡ Some d → table.get log.live b ≡ Some e → not (is_home d.way) ≡ true → (h : Bool) → is_home e.way ≡ h → table.contains_key (only (λ e. not (is_home e.way)) log.live) b ≡ true
      by d e here there away true is = absurd (true≢false (sym away ∙ ap not (nearer b e d there here is)))
      by d e here there away false is = to_only (λ e. not (is_home e.way)) log.live b e there (ap not is)

  pub nearer_sound : IsSoundLog (record log { live = live })
  nearer_sound = record {
    size = sound.size;
    least = sound.least;
    most = sound.most;
    places = sound.places;
    few = sound.few;
    head = sound.head;
    tail = sound.tail;
    free = sound.free;
    firsts = λ b d at. let old = was b d at in subst (λ p. (p < log.journal.length) × (way log.journal.length log.tail p < used log)) (sym old.2) (sound.firsts b old.0 old.1);
    room = λ k less. room k less;
    none = λ nothing_lives. sound.none (all_none log.live (λ b e at. true≢false (sym (as_live b ∙ ap is_some at) ∙ ap (λ (m : Live). table.contains_key m b) nothing_lives ∙ ap is_some (table.get-empty nat_cmp b))));
    gone = λ b there. ap (λ x. x || is_flushed log.flush b) (as_live b) ∙ sound.gone b there;
    apart = sound.apart;
    fresh = sound.fresh;
    flushed = sound.flushed;
    frames = (let less = away_less in let most = sound.frames in omega arith);
    fits = λ f e. by_fit f (sound.fits f e);
    revoked = λ f b e there. let old = sound.revoked f b e there in (as_live b ∙ old.0, old.1);
    reached = sound.reached;
    told = told;
    rests = rests;
  }
    where
      room : (k : ℕ) → k ≤ used log → count_by (λ (e : ℕ × Entry). nat_le k (way log.journal.length log.tail e.1.first)) (table.entries live) + k ≤ used log
      room k less =
          let both = within_both (only (λ e. nat_le k (way log.journal.length log.tail e.first)) live) (only (λ e. nat_le k (way log.journal.length log.tail e.first)) log.live) nothing
          (λ b there.
          let it = in_only (λ e. nat_le k (way log.journal.length log.tail e.first)) live b there in
          let old = was b it.0 it.1 in
          inl (to_only (λ e. nat_le k (way log.journal.length log.tail e.first)) log.live b old.0 old.1 (ap (λ p. nat_le k (way log.journal.length log.tail p)) (sym old.2) ∙ it.2))) in
          let none = table.len-empty nat_cmp Version in
          let now = count-only (λ e. nat_le k (way log.journal.length log.tail e.first)) live in
          let before = count-only (λ e. nat_le k (way log.journal.length log.tail e.first)) log.live in
          let fit : live_from log k + k ≤ used log = sound.room k less in
          omega arith

      away_less : away_count live ≤ away_count log.live
      away_less =
          let both = within_both (only (λ e. not (is_home e.way)) live) (only (λ e. not (is_home e.way)) log.live) nothing (λ b there. inl (away_one b there)) in
          let none = table.len-empty nat_cmp Version in
          let now : away_count live ≡ table.len (only (λ e. not (is_home e.way)) live) = count-only (λ e. not (is_home e.way)) live in
          let before : away_count log.live ≡ table.len (only (λ e. not (is_home e.way)) log.live) = count-only (λ e. not (is_home e.way)) log.live in
          omega arith

      home_way : (w : Way) → is_home w ≡ true → w ≡ Home
      home_way Home e = refl
      home_way (Away bytes) e = absurd (true≢false (sym e))
      home_way (Flying bytes) e = absurd (true≢false (sym e))

      all_home : AllAreHome log → (b : ℕ) (d : Entry) → table.get live b ≡ Some d → d.way ≡ Home
      all_home home b d at = let old = was b d at in home_way d.way (nearer b old.0 d old.1 at (ap is_home (home b old.0 old.1)))

      by_fit : (f : Flush) → Fits log f → Fits (record log { live = live }) f
      by_fit f (with_room r) = with_room r
      by_fit f (alone v r home free) = alone v r (all_home home) free

-- ---- what a flush has stays, whatever is changed or to be revoked beside it

module _ (log : LogValue) (fresh : table.FinMap nat_cmp Version) (gone : set.Blocks) where
  abbrev pub beside : LogValue
  beside = record log { fresh = fresh; gone = gone }

  pub fits_beside : (f : Flush) → Fits log f → Fits beside f
  fits_beside f (with_room r) = with_room r
  fits_beside f (alone v r home free) = alone v r home free

  pub tail_beside : (f : Flush) (t : ℕ) → IsTail log f t → IsTail beside f t
  tail_beside f t (of_oldest b e needed least) = of_oldest b e (record { live = needed.live; away = needed.away; unlogged = needed.unlogged; unrevoked = needed.unrevoked })
      (λ c d other. least c d (record { live = other.live; away = other.away; unlogged = other.unlogged; unrevoked = other.unrevoked }))
  tail_beside f t (of_itself none some) = of_itself (λ b e other. none b e (record { live = other.live; away = other.away; unlogged = other.unlogged; unrevoked = other.unrevoked })) some
  tail_beside f t (of_none none empty) = of_none (λ b e other. none b e (record { live = other.live; away = other.away; unlogged = other.unlogged; unrevoked = other.unrevoked })) empty
