-- What always holds of a log holds still, as live blocks go home and are to be revoked.
use Rattle.std.proofs.Common.{◌≡◌, ℕ, Bool, true, false, not, ◌||◌, ◌&&◌, List, Option, None, Some, ◌⊎◌, inl, inr, refl, sym, ap, subst, ◌∙◌, true≢false, is_some}
use Rattle.std.proofs.lemmas.Bool.{cases_eq}
use Rattle.std.specs.Option.{option_map}
use Rattle.std.specs.FinMap as table
use Rattle.log_values.specs.Blocks as set
use Rattle.glock_names.specs.declared.LockName.{LockName}
use Rattle.log_tables.specs.Kept.{is_home}
use Rattle.log_tables.specs.Versions.Way.{Away, Flying, Home}
use Rattle.log_tables.proofs.Counting.{apart, at_key}
use Rattle.log_tables.proofs.Steps.{same_some}
use Rattle.log_values.specs.Log.{Entry, Flush, LogValue, Way}
use Rattle.log_values.specs.Changes.{has_entry, is_flushed}
use Rattle.log_values.specs.Homing.{HomeAnswer, RevokesUnder, is_under, to_revoke}
use Rattle.log_values.specs.Homing.HomeAnswer.{nothing, goes_home}
use Rattle.log_values.specs.Flushing.{settled_way}
use Rattle.log_values.specs.Sound.{IsBehindBarrier, IsSoundLog}
use Rattle.log_values.specs.declared.steps.LogStep.{LogStep}
use Rattle.log_values.proofs.Keeping.{fits_beside, nearer_sound, tail_beside}
use Rattle.log_values.proofs.Landing.{lacks, no_some}

-- A block that isn't home is somewhere else, or home, while no header may come.
pub way_sound : (log : LogValue) (b : ℕ) (w : Way) (e : Entry) → IsSoundLog log → table.get log.live b ≡ Some e → is_home e.way ≡ false → ((f : Flush) → log.flush ≡ Some f → IsBehindBarrier f.stage → ⊥)
    → IsSoundLog (record log { live = table.insert log.live b (record e { way = w }) })
way_sound log b w e sound at off before =
    nearer_sound log sound (table.insert log.live b (record e { way = w })) (λ q. firsts q (cases_eq q b)) (λ q x d was now home. nearer q x d was now home (cases_eq q b))
    (λ f t is headed. absurd (before f is (subst IsBehindBarrier (sym headed) tt))) (λ f q x is behind here. absurd (before f is behind))
  where
    firsts : (q : ℕ) → (q ≡ b) ⊎ (q ≡ b → ⊥) → option_map (λ (x : Entry). x.first) (table.get (table.insert log.live b (record e { way = w })) q) ≡ option_map (λ (x : Entry). x.first) (table.get log.live q)
    firsts q (inl is) =
        subst (λ k. option_map (λ (x : Entry). x.first) (table.get (table.insert log.live b (record e { way = w })) k) ≡ option_map (λ (x : Entry). x.first) (table.get log.live k)) (sym is)
        (ap (option_map (λ (x : Entry). x.first)) (at_key log.live b (record e { way = w })) ∙ sym (ap (option_map (λ (x : Entry). x.first)) at))
    firsts q (inr ne) = ap (option_map (λ (x : Entry). x.first)) (apart log.live b (record e { way = w }) q ne)

    nearer : (q : ℕ) (x d : Entry) → table.get log.live q ≡ Some x → table.get (table.insert log.live b (record e { way = w })) q ≡ Some d → is_home x.way ≡ true → (q ≡ b) ⊎ (q ≡ b → ⊥) → is_home d.way ≡ true
    nearer q x d was now home (inl is) =
        let same : e ≡ x = same_some (table.get log.live b) e x at (ap (table.get log.live) (sym is) ∙ was) in
        absurd (true≢false (sym home ∙ ap (λ (y : Entry). is_home y.way) (sym same) ∙ off))
    nearer q x d was now home (inr ne) = ap (λ (y : Entry). is_home y.way) (same_some (table.get log.live q) d x (sym (apart log.live b (record e { way = w }) q ne) ∙ now) was) ∙ home

-- a block that goes home is as far as it was
sent_sound : (log : LogValue) (b : ℕ) (bytes : List ℕ) (e : Entry) → IsSoundLog log → table.get log.live b ≡ Some e → e.way ≡ Away bytes → log.flush ≡ None
    → IsSoundLog (record log { live = table.insert log.live b (record e { way = Flying bytes }) })
sent_sound log b bytes e sound at away none = way_sound log b (Flying bytes) e sound at (ap is_home away) (λ f is behind. no_some f (sym is ∙ none))

-- one that is on its way has come home
pub settled_sound : (log : LogValue) (b : ℕ) (bytes : List ℕ) (e : Entry) → IsSoundLog log → table.get log.live b ≡ Some e → e.way ≡ Flying bytes → IsSoundLog (record log { live = table.insert log.live b (record e { way = Home }) })
settled_sound log b bytes e sound at flies =
    way_sound log b Home e sound at (ap is_home flies) (λ f is behind. true≢false (ap (λ (w : Way). is_home (settled_way w)) (sym flies) ∙ ap is_home (sound.rests f b e is behind at) ∙ ap is_home flies))

pub homing_sound : (log new : LogValue) (lock : LockName) (bytes : List ℕ) (answer : Option LogStep) → IsSoundLog log → HomeAnswer log new lock bytes answer → IsSoundLog new
homing_sound log new lock bytes answer sound (nothing none same) = subst IsSoundLog (sym same) sound
homing_sound log new lock bytes answer sound (goes_home b is none least same) = subst IsSoundLog (sym same) (sent_sound log b bytes is.entry sound is.live is.away none)

-- ---- blocks that are to be revoked

or_tells : (x y : Bool) → (x || y) ≡ true → (x ≡ true) ⊎ (y ≡ true)
or_tells true y e = inl refl
or_tells false y e = inr e

pub and_tells : (x y : Bool) → (x && y) ≡ true → (x ≡ true) × (y ≡ true)
and_tells true y e = (refl, e)
and_tells false y e = absurd (true≢false (sym e))

pub not_tells : (x y : Bool) → not (x || y) ≡ true → x ≡ false
not_tells true y e = absurd (true≢false (sym e))
not_tells false y e = refl

pub under_lives : (lock : LockName) (o : Option Entry) → is_under lock o ≡ true → is_some o ≡ true
under_lives lock None e = absurd (true≢false (sym e))
under_lives lock (Some x) e = refl

pub revoking_sound : (log new : LogValue) (lock : LockName) → IsSoundLog log → RevokesUnder log new lock → IsSoundLog new
revoking_sound log new lock sound is = subst IsSoundLog (sym is.same) (record {
  size = sound.size;
  least = sound.least;
  most = sound.most;
  places = sound.places;
  few = sound.few;
  head = sound.head;
  tail = sound.tail;
  free = sound.free;
  firsts = sound.firsts;
  room = sound.room;
  none = sound.none;
  gone = λ b there. has b (or_tells (set.contains log.gone b) (to_revoke log lock b) (sym (is.revokes b) ∙ there));
  apart = λ b there. lacks_it b (or_tells (set.contains log.gone b) (to_revoke log lock b) (sym (is.revokes b) ∙ there));
  fresh = sound.fresh;
  flushed = sound.flushed;
  frames = sound.frames;
  fits = λ f e. fits_beside log log.fresh new.gone f (sound.fits f e);
  revoked = sound.revoked;
  reached = sound.reached;
  told = λ f t e at. tail_beside log log.fresh new.gone f t (sound.told f t e at);
  rests = sound.rests;
})
  where
    or_left : (x y : Bool) → x ≡ true → (x || y) ≡ true
    or_left x y e = ap (λ z. z || y) e

    has : (b : ℕ) → (set.contains log.gone b ≡ true) ⊎ (to_revoke log lock b ≡ true) → has_entry log b ≡ true
    has b (inl e) = sound.gone b e
    has b (inr e) =
        let both = and_tells (is_under lock (table.get log.live b)) _ e in
        or_left (table.contains_key log.live b) (is_flushed log.flush b) (under_lives lock (table.get log.live b) both.0)

    lacks_it : (b : ℕ) → (set.contains log.gone b ≡ true) ⊎ (to_revoke log lock b ≡ true) → table.get log.fresh b ≡ None
    lacks_it b (inl e) = sound.apart b e
    lacks_it b (inr e) =
        let both = and_tells (is_under lock (table.get log.live b)) (not (table.contains_key log.fresh b || is_flushed log.flush b)) e in
        lacks log.fresh b (not_tells (table.contains_key log.fresh b) (is_flushed log.flush b) both.1)
