-- What always holds of a log holds still, as its flush goes on, block by block.
use Rattle.std.proofs.Common.{◌≡◌, ℕ, ◌+◌, ◌≤◌, Bool, true, false, ◌||◌, List, length, Option, None, Some, ◌⊎◌, inl, inr, refl, sym, ap, subst, ◌∙◌, true≢false, arith}
use Rattle.std.proofs.lemmas.Option.{slice_get_within}
use Rattle.std.proofs.lemmas.Cmp.{nat_cmp_total}
use Rattle.std.specs.Option.{option_map}
use Rattle.std.specs.Ordering.{nat_cmp}
use Rattle.std.specs.FinMap as table
use Rattle.log_values.specs.Blocks as set
use Rattle.log_values.proofs.BlocksHad.{contains-empty}
use Rattle.log_tables.specs.Kept.{away_count, is_home}
use Rattle.log_tables.specs.Versions.{Way}
use Rattle.log_tables.specs.Versions.Way.{Home, Away, Flying}
use Rattle.log_tables.proofs.Steps.{same_some}
use Rattle.log_tables.proofs.Taking.{Live}
use Rattle.log_values.specs.Log.{Entry, Flush, LogValue, Stage, Version}
use Rattle.log_values.specs.Log.Stage.{Ending, Headed, Writing}
use Rattle.log_values.specs.Changes.{flushed_count, is_flushed}
use Rattle.log_values.specs.Flushing.{AllAreHome, Begins, FlushAnswer, FlushStep, HasRoom, IsTail, at_stage, begun, begun_alone, flush_chunks, settled, settled_way}
use Rattle.log_values.specs.Flushing.Begins.{with_all, alone as begins_alone, goes_on}
use Rattle.log_values.specs.Flushing.FlushAnswer.{nothing, no_room, a_step}
use Rattle.log_values.specs.Flushing.FlushStep.{a_block, a_barrier, a_header, the_last}
use Rattle.log_values.specs.Flushing.IsTail.{of_oldest, of_itself, of_none}
use Rattle.log_values.specs.Homing.{Settles}
use Rattle.log_values.specs.Sound.{Fits, IsBehindBarrier, IsSoundLog}
use Rattle.log_values.specs.Sound.Fits.{with_room, alone}
use Rattle.log_values.specs.Transactions.{due}
use Rattle.log_values.specs.declared.steps.LogStep.{LogStep}
use Rattle.log_values.proofs.Landing.{landed, no_some, none_in}
use Rattle.log_values.proofs.Keeping.{nearer_sound}

-- ---- a flush at another stage

module _ (log : LogValue) (f : Flush) (stage : Stage) (sound : IsSoundLog log) (is : log.flush ≡ Some f)
    (reached : (done : ℕ) → stage ≡ Writing done → done ≤ length (flush_chunks log f))
    (told : (t : ℕ) → stage ≡ Headed t → IsTail log f t)
    (rests : (b : ℕ) (e : Entry) → IsBehindBarrier stage → table.get log.live b ≡ Some e → settled_way e.way ≡ e.way) where
  abbrev g : Flush
  g = record f { stage = stage }

  same_flush : (h : Flush) → Some g ≡ Some h → g ≡ h
  same_flush h e = same_some (Some g) g h refl e

  tail_still : (t : ℕ) → IsTail log f t → IsTail (at_stage log f stage) g t
  tail_still t (of_oldest b e needed least) = of_oldest b e (record { live = needed.live; away = needed.away; unlogged = needed.unlogged; unrevoked = needed.unrevoked })
      (λ c d other. least c d (record { live = other.live; away = other.away; unlogged = other.unlogged; unrevoked = other.unrevoked }))
  tail_still t (of_itself none some) = of_itself (λ b e other. none b e (record { live = other.live; away = other.away; unlogged = other.unlogged; unrevoked = other.unrevoked })) some
  tail_still t (of_none none empty) = of_none (λ b e other. none b e (record { live = other.live; away = other.away; unlogged = other.unlogged; unrevoked = other.unrevoked })) empty

  fits_still : Fits log f → Fits (at_stage log f stage) g
  fits_still (with_room r) = with_room r
  fits_still (alone v r home free) = alone v r home free

  flushed_is : (b : ℕ) → is_flushed log.flush b ≡ table.contains_key f.versions b
  flushed_is b = ap (λ (o : Option Flush). is_flushed o b) is

  pub restaged : IsSoundLog (at_stage log f stage)
  restaged = record {
    size = sound.size;
    least = sound.least;
    most = sound.most;
    places = sound.places;
    few = sound.few;
    head = sound.head;
    tail = sound.tail;
    free = sound.free;
    firsts = sound.firsts;
    room = sound.room;
    none = sound.none;
    gone = λ b there. ap (λ x. table.contains_key log.live b || x) (sym (flushed_is b)) ∙ sound.gone b there;
    apart = sound.apart;
    fresh = sound.fresh;
    flushed = λ h b v e at. sound.flushed f b v is (ap (λ (x : Flush). table.get x.versions b) (same_flush h e) ∙ at);
    frames = subst (λ (o : Option Flush). table.len log.fresh + flushed_count o + away_count log.live ≤ log.journal.frames) is sound.frames;
    fits = λ h e. subst (λ (x : Flush). Fits (at_stage log f stage) x) (same_flush h e) (fits_still (sound.fits f is));
    revoked = λ h b e there.
        let old = sound.revoked f b is (ap (λ (x : Flush). set.contains x.revokes b) (same_flush h e) ∙ there) in
        (old.0, ap (λ (x : Flush). table.get x.versions b) (sym (same_flush h e)) ∙ old.1);
    reached = λ h done e at. subst (λ (x : Flush). done ≤ length (flush_chunks log x)) (same_flush h e) (reached done (ap (λ (x : Flush). x.stage) (same_flush h e) ∙ at));
    told = λ h t e at. subst (λ (x : Flush). IsTail (at_stage log f stage) x t) (same_flush h e) (tail_still t (told t (ap (λ (x : Flush). x.stage) (same_flush h e) ∙ at)));
    rests = λ h b d e behind at. rests b d (subst (λ (x : Flush). IsBehindBarrier x.stage) (sym (same_flush h e)) behind) at;
  }

-- ---- a flush begins

begun_sound : (log : LogValue) → IsSoundLog log → log.flush ≡ None → HasRoom log (due log) → IsSoundLog (begun log)
begun_sound log sound none room = record {
  size = sound.size;
  least = sound.least;
  most = sound.most;
  places = sound.places;
  few = sound.few;
  head = sound.head;
  tail = sound.tail;
  free = sound.free;
  firsts = sound.firsts;
  room = sound.room;
  none = sound.none;
  gone = λ b there. absurd (true≢false (sym there ∙ contains-empty b));
  apart = λ b there. absurd (true≢false (sym there ∙ contains-empty b));
  fresh = λ b v at. absurd (none_in table.empty b v refl at);
  flushed = λ h b v e at. sound.fresh b v (ap (λ (x : Flush). table.get x.versions b) (same h e) ∙ at);
  frames =
      (let before : table.len log.fresh + 0 + away_count log.live ≤ log.journal.frames = subst (λ (o : Option Flush). table.len log.fresh + flushed_count o + away_count log.live ≤ log.journal.frames) none sound.frames in
      let f = table.len-empty nat_cmp Version in omega arith);
  fits = λ h e. subst (λ (x : Flush). Fits (begun log) x) (same h e) (with_room room);
  revoked = λ h b e there.
      let was : set.contains log.gone b ≡ true = ap (λ (x : Flush). set.contains x.revokes b) (same h e) ∙ there in (
        or_false (table.contains_key log.live b) (ap (λ (o : Option Flush). table.contains_key log.live b || is_flushed o b) (sym none) ∙ sound.gone b was),
        ap (λ (x : Flush). table.get x.versions b) (sym (same h e)) ∙ sound.apart b was,
      );
  reached = λ h done e at. subst (λ k. k ≤ length (flush_chunks (begun log) h)) (ap stage_count (ap (λ (x : Flush). x.stage) (same h e) ∙ at)) (omega arith);
  told = λ h t e at. absurd (writing_headed (ap (λ (x : Flush). x.stage) (same h e) ∙ at));
  rests = λ h b d e behind at. absurd (subst (λ (x : Flush). IsBehindBarrier x.stage) (sym (same h e)) behind);
}
  where
    same : (h : Flush) → Some (record { versions = log.fresh; revokes = log.gone; stage = Writing 0 }) ≡ Some h → record { versions = log.fresh; revokes = log.gone; stage = Writing 0 } ≡ h
    same h e = same_some _ _ h refl e

    or_false : (x : Bool) → (x || false) ≡ true → x ≡ true
    or_false true e = refl
    or_false false e = e

    stage_count : Stage → ℕ
    stage_count (Writing k) = k
    stage_count Ending = 0
    stage_count (Headed t) = 0

    writing_headed : {t : ℕ} → Writing 0 ≡ Headed t → ⊥
    writing_headed e = cc

alone_sound : (log : LogValue) → IsSoundLog log → log.flush ≡ None → AllAreHome log → IsSoundLog (begun_alone log)
alone_sound log sound none home = record {
  size = sound.size;
  least = sound.least;
  most = sound.most;
  places = sound.places;
  few = sound.few;
  head = sound.head;
  tail = sound.tail;
  free = sound.free;
  firsts = sound.firsts;
  room = sound.room;
  none = sound.none;
  gone = λ b there.
      let was : (table.contains_key log.live b || false) ≡ true = ap (λ (o : Option Flush). table.contains_key log.live b || is_flushed o b) (sym none) ∙ sound.gone b there in
      or_more (table.contains_key log.live b) _ was;
  apart = sound.apart;
  fresh = sound.fresh;
  flushed = λ h b v e at. absurd (none_in h.versions b v (ap (λ (x : Flush). x.versions) (sym (same h e))) at);
  frames =
      (let before : table.len log.fresh + 0 + away_count log.live ≤ log.journal.frames = subst (λ (o : Option Flush). table.len log.fresh + flushed_count o + away_count log.live ≤ log.journal.frames) none sound.frames in
      let f = table.len-empty nat_cmp Version in omega arith);
  fits = λ h e. subst (λ (x : Flush). Fits (begun_alone log) x) (same h e) (alone refl refl home sound.free);
  revoked = λ h b e there. absurd (true≢false (sym there ∙ ap (λ (x : Flush). set.contains x.revokes b) (sym (same h e)) ∙ contains-empty b));
  reached = λ h done e at. absurd (ending_writing (ap (λ (x : Flush). x.stage) (same h e) ∙ at));
  told = λ h t e at. absurd (ending_headed (ap (λ (x : Flush). x.stage) (same h e) ∙ at));
  rests = λ h b d e behind at. ap settled_way (home b d at) ∙ sym (home b d at);
}
  where
    same : (h : Flush) → Some (record { versions = table.empty; revokes = set.empty; stage = Ending }) ≡ Some h → record { versions = table.empty; revokes = set.empty; stage = Ending } ≡ h
    same h e = same_some _ _ h refl e

    or_more : (x y : Bool) → (x || false) ≡ true → (x || y) ≡ true
    or_more true y e = refl
    or_more false y e = absurd (true≢false (sym e))

    ending_writing : {k : ℕ} → Ending ≡ Writing k → ⊥
    ending_writing e = cc

    ending_headed : {t : ℕ} → Ending ≡ Headed t → ⊥
    ending_headed e = cc

pub begins_sound : (log m : LogValue) → IsSoundLog log → Begins log m → IsSoundLog m
begins_sound log m sound (with_all none is_due room) = begun_sound log sound none room
begins_sound log m sound (begins_alone none home some less) = alone_sound log sound none home
begins_sound log m sound (goes_on f is) = sound

-- ---- what was on its way is home

settled_first : (o : Option Entry) → option_map (λ (e : Entry). e.first) (settled o) ≡ option_map (λ (e : Entry). e.first) o
settled_first None = refl
settled_first (Some e) = refl

settled_home : (w : Way) → is_home w ≡ true → is_home (settled_way w) ≡ true
settled_home Home e = refl
settled_home (Away bytes) e = e
settled_home (Flying bytes) e = refl

settled_twice : (w : Way) → settled_way (settled_way w) ≡ settled_way w
settled_twice Home = refl
settled_twice (Away bytes) = refl
settled_twice (Flying bytes) = refl

module _ (log : LogValue) (live : Live) (settles : (b : ℕ) → table.get live b ≡ settled (table.get log.live b)) where
  settled_is : (b : ℕ) (e : Entry) → table.get log.live b ≡ Some e → table.get live b ≡ Some (record e { way = settled_way e.way })
  settled_is b e at = settles b ∙ ap settled at

  settles_first : (b : ℕ) → option_map (λ (e : Entry). e.first) (table.get live b) ≡ option_map (λ (e : Entry). e.first) (table.get log.live b)
  settles_first b = ap (option_map (λ (e : Entry). e.first)) (settles b) ∙ settled_first (table.get log.live b)

  settles_nearer : (b : ℕ) (e d : Entry) → table.get log.live b ≡ Some e → table.get live b ≡ Some d → is_home e.way ≡ true → is_home d.way ≡ true
  settles_nearer b e d was now home =
      ap (λ (x : Entry). is_home x.way) (sym (same_some (table.get live b) (record e { way = settled_way e.way }) d (settled_is b e was) now)) ∙ settled_home e.way home

  -- each has settled
  have_settled : (b : ℕ) (d : Entry) → table.get live b ≡ Some d → settled_way d.way ≡ d.way
  have_settled b d at = by (table.get log.live b) (sym at ∙ settles b)
    where
      by : (o : Option Entry) → Some d ≡ settled o → settled_way d.way ≡ d.way
      by None e = absurd (no_some d e)
      by (Some x) e =
          let same : d ≡ record x { way = settled_way x.way } = same_some (Some d) d (record x { way = settled_way x.way }) refl e in
          ap (λ (y : Entry). settled_way y.way) same ∙ settled_twice x.way ∙ sym (ap (λ (y : Entry). y.way) same)

  -- where all have settled, nothing changes
  unchanged : ((b : ℕ) (e : Entry) → table.get log.live b ≡ Some e → settled_way e.way ≡ e.way) → live ≡ log.live
  unchanged rest = table.same_map nat_cmp_total table.nat_cmp-IsAntisymmetric live log.live (λ b. settles b ∙ by b (table.get log.live b) refl)
    where
      by : (b : ℕ) (o : Option Entry) → table.get log.live b ≡ o → settled o ≡ o
      by b None at = refl
      by b (Some e) at = ap (λ w. Some (record e { way = w })) (rest b e at)

-- a log whose flush is not behind its barrier
module _ (log : LogValue) (sound : IsSoundLog log) (live : Live) (settles : (b : ℕ) → table.get live b ≡ settled (table.get log.live b))
    (early : (f : Flush) → log.flush ≡ Some f → IsBehindBarrier f.stage → ⊥) where
  headed_behind : (f : Flush) (t : ℕ) → f.stage ≡ Headed t → IsBehindBarrier f.stage
  headed_behind f t e = subst IsBehindBarrier (sym e) tt

  pub early_settled : IsSoundLog (record log { live = live })
  early_settled =
      nearer_sound log sound live (settles_first log live settles) (settles_nearer log live settles) (λ f t is at. absurd (early f is (headed_behind f t at))) (λ f b e is behind at. absurd (early f is behind))

is_early : (stage : Stage) → (IsBehindBarrier stage) ⊎ (IsBehindBarrier stage → ⊥)
is_early (Writing k) = inr (λ x. x)
is_early Ending = inl tt
is_early (Headed t) = inl tt

pub settling_sound : (log new : LogValue) → IsSoundLog log → Settles log new → IsSoundLog new
settling_sound log new sound is = subst IsSoundLog (sym is.same) (by log.flush refl)
  where
    none_early : log.flush ≡ None → (f : Flush) → log.flush ≡ Some f → IsBehindBarrier f.stage → ⊥
    none_early none f some behind = no_some f (sym some ∙ none)

    behind_same : (f : Flush) → log.flush ≡ Some f → IsBehindBarrier f.stage → IsSoundLog (record log { live = new.live })
    behind_same f some behind =
        subst (λ (m : Live). IsSoundLog (record log { live = m })) (sym (unchanged log new.live is.settles (λ b e at. sound.rests f b e some behind at))) sound

    by_stage : (f : Flush) → log.flush ≡ Some f → (IsBehindBarrier f.stage) ⊎ (IsBehindBarrier f.stage → ⊥) → IsSoundLog (record log { live = new.live })
    by_stage f some (inl behind) = behind_same f some behind
    by_stage f some (inr early) = early_settled log sound new.live is.settles (λ g other behind. early (subst (λ (x : Flush). IsBehindBarrier x.stage) (same_some log.flush g f other some) behind))

    by : (o : Option Flush) → log.flush ≡ o → IsSoundLog (record log { live = new.live })
    by None none = early_settled log sound new.live is.settles (none_early none)
    by (Some f) some = by_stage f some (is_early f.stage)

-- ---- a step of a flush

writing_tells : (k j : ℕ) → Writing k ≡ Writing j → k ≡ j
writing_tells k j e = cc

headed_tells : (k j : ℕ) → Headed k ≡ Headed j → k ≡ j
headed_tells k j e = cc

no_writing_headed : (k t : ℕ) → Writing k ≡ Headed t → ⊥
no_writing_headed k t e = cc

no_ending_headed : (t : ℕ) → Ending ≡ Headed t → ⊥
no_ending_headed t e = cc

no_ending_writing : (k : ℕ) → Ending ≡ Writing k → ⊥
no_ending_writing k e = cc

no_headed_writing : (t k : ℕ) → Headed t ≡ Writing k → ⊥
no_headed_writing t k e = cc

pub step_sound : (m new : LogValue) (f : Flush) (bytes : List ℕ) (s : LogStep) → IsSoundLog m → m.flush ≡ Some f → FlushStep m new f bytes s → IsSoundLog new
step_sound m new f bytes s sound is (a_block k at chunk same) =
    subst IsSoundLog (sym same) (restaged m f (Writing (k + 1)) sound is
    (λ done e. subst (λ j. j ≤ length (flush_chunks m f)) (writing_tells (k + 1) done e) (let inside = slice_get_within (flush_chunks m f) k bytes chunk in omega arith))
    (λ t e. absurd (no_writing_headed (k + 1) t e)) (λ b e behind here. absurd behind))
step_sound m new f bytes s sound is (a_barrier at same settles) =
    subst IsSoundLog (sym same) (restaged (record m { live = new.live }) f Ending
    (early_settled m sound new.live settles (λ g other behind. subst IsBehindBarrier (ap (λ (x : Flush). x.stage) (same_some m.flush g f other is) ∙ at) behind)) is
    (λ done e. absurd (no_ending_writing done e)) (λ t e. absurd (no_ending_headed t e)) (λ b e behind here. have_settled m new.live settles b e here))
step_sound m new f bytes s sound is (a_header tail at tells header same) =
    subst IsSoundLog (sym same) (restaged m f (Headed tail) sound is
    (λ done e. absurd (no_headed_writing tail done e)) (λ t e. subst (λ x. IsTail m f x) (headed_tells tail t e) tells)
    (λ b e behind here. sound.rests f b e is (subst IsBehindBarrier (sym at) tt) here))
step_sound m new f bytes s sound is (the_last tail at same lives) =
    landed m f tail sound is (sound.told f tail is at) new.live lives new (λ i. record (same i) { sequence = new.sequence; clean = new.clean })

pub flush_sound : (log new : LogValue) (bytes : List ℕ) (answer : Option LogStep) → IsSoundLog log → FlushAnswer log new bytes answer → IsSoundLog new
flush_sound log new bytes answer sound (nothing none not_due home same) = subst IsSoundLog (sym same) sound
flush_sound log new bytes answer sound (no_room none is_due no_place away same) = subst IsSoundLog (sym same) sound
flush_sound log new bytes answer sound (a_step m f s begins is step) = step_sound m new f bytes s (begins_sound log m sound begins) is step
