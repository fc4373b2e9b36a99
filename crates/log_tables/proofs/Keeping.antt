-- The tables once a block was put into them, dropped, landed, brought home or sent there.
use Rattle.std.proofs.Common.{◌≡◌, ℕ, ◌+◌, ◌-◌, ◌≤◌, Bool, true, false, cond, List, [], Option, None, Some, ◌⊎◌, inl, inr, refl, sym, ap, subst, ◌∙◌, true≢false, is_some, unwrap_or, arith}
use Rattle.std.proofs.lemmas.Bool.{cases_eq}
use Rattle.std.specs.Option.{option_and_then, option_map}
use Rattle.std.specs.FinMap as table
use Rattle.frame_pool.specs.Frames.{Frames, IsOut, after_give}
use Rattle.fixed_tables.specs.Fixed.{Fixed, left_by}
use Rattle.log_tables.specs.Versions.{Entry}
use Rattle.log_tables.specs.Versions.Way.{Home as home}
use Rattle.log_tables.specs.Kept.{away_count, frames_taken, is_home, landed}
use Rattle.log_tables.specs.Seen.{seen}
use Rattle.log_tables.specs.Slots.{GoesOut, Slot, bytes_in, entry_in, frame_of, frame_of_hold, version_in, way_in}
use Rattle.log_tables.specs.Slots.Slot.{Fresh, Flushed, Live}
use Rattle.log_tables.specs.IsTables.{IsTables, kept_in}
use Rattle.log_tables.specs.declared.cells.Cell.{Cell}
use Rattle.log_tables.specs.declared.cells.LiveCell.{LiveCell}
use Rattle.log_tables.specs.declared.cells.Hold.{Hold}
use Rattle.log_tables.specs.declared.cells.Hold.TheVariants.{Home, Away, Flying}
use Rattle.log_tables.specs.declared.tables.Tables.TheInside.{Inside}
use Rattle.log_tables.proofs.SameCells.{home_has_none, same_entry, same_number, same_version}
use Rattle.log_tables.proofs.Counting.{apart, at_key, gone, left, len_without, some_value}
use Rattle.log_tables.proofs.Holding.{gives_frame, hands_frame, takes_frame}
use Rattle.log_tables.proofs.Seeing.{get-seen, seen_alike, seen_insert, seen_remove}
use Rattle.log_tables.proofs.Taking.{dropped_gives, keep_takes, land_moves, put_takes, rest_gives, same_away}

abbrev pub at_slot : Inside → Slot → Option ℕ
at_slot t = frame_of t.fresh.at t.flushed.at t.live.at

-- ---- a frame goes back

module _ (t : Inside) (h : IsTables t) (frame : ℕ) (slot : Slot) (had : at_slot t slot ≡ Some frame) where
  abbrev pub pool_without : Frames
  pool_without = after_give t.pool frame

  others : (g : ℕ) → (g ≡ frame → ⊥) → table.get pool_without.out g ≡ table.get t.pool.out g
  others g ne = left t.pool.out frame g ne

  -- what another slot has keeps its bytes
  still : (s : Slot) (g : ℕ) → at_slot t s ≡ Some g → (s ≡ slot → ⊥) → bytes_in pool_without g ≡ bytes_in t.pool g
  still s g e ne = ap (λ (o : Option (List ℕ)). unwrap_or o []) (others g (λ is. ne (h.held.apart s slot frame (e ∙ ap Some is) had)))

  less_out : table.len t.pool.out ≡ table.len pool_without.out + 1
  less_out = let some = some_value (table.get t.pool.out frame) (h.held.out slot frame had) in len_without t.pool.out frame some.0 some.1

-- ---- a change is dropped

module _ (t : Inside) (h : IsTables t) (b : ℕ) (cell : Cell) (at : table.get t.fresh.at b ≡ Some cell) where
  had_fresh : at_slot t (Fresh b) ≡ Some cell.frame
  had_fresh = ap (option_map (λ (x : Cell). x.frame)) at

  abbrev pub without_change : Inside
  without_change = record t { pool = after_give t.pool cell.frame; fresh = record t.fresh { at = table.remove t.fresh.at b }; taken = t.taken - 1 }

  drop_rest : (s : Slot) → (s ≡ Fresh b) ⊎ (at_slot without_change s ≡ at_slot t s)
  drop_rest (Fresh q) = by (cases_eq q b)
    where
      by : (q ≡ b) ⊎ (q ≡ b → ⊥) → (Fresh q ≡ Fresh b) ⊎ (at_slot without_change (Fresh q) ≡ at_slot t (Fresh q))
      by (inl e) = inl (ap Fresh e)
      by (inr ne) = inr (ap (option_map (λ (x : Cell). x.frame)) (left t.fresh.at b q ne))
  drop_rest (Flushed q) = inr refl
  drop_rest (Live q) = inr refl

  drop_none : at_slot without_change (Fresh b) ≡ None
  drop_none = ap (option_map (λ (x : Cell). x.frame)) (gone t.fresh.at b)

  pub drops : kept_in without_change ≡ record (kept_in t) { fresh = table.remove (kept_in t).fresh b }
  drops = λ i. record {
    size = t.pool.size;
    frames = t.pool.count;
    places = t.places;
    fresh = (seen_remove (version_in t.pool) (version_in (after_give t.pool cell.frame)) t.fresh.at b
        (λ q x ne e. same_version t.pool (after_give t.pool cell.frame) x (still t h cell.frame (Fresh b) had_fresh (Fresh q) x.frame (ap (option_map (λ (y : Cell). y.frame)) e) (λ s. ne (same_number (Fresh q) (Fresh b) s))))) i;
    flushed = (seen_alike (version_in t.pool) (version_in (after_give t.pool cell.frame)) t.flushed.at
        (λ q x e. same_version t.pool (after_give t.pool cell.frame) x (still t h cell.frame (Fresh b) had_fresh (Flushed q) x.frame (ap (option_map (λ (y : Cell). y.frame)) e) (λ s. cc)))) i;
    live = (seen_alike (entry_in t.pool) (entry_in (after_give t.pool cell.frame)) t.live.at
        (λ q x e. same_entry t.pool (after_give t.pool cell.frame) x (λ g f. still t h cell.frame (Fresh b) had_fresh (Live q) g (ap (option_and_then (λ (y : LiveCell). frame_of_hold y.hold)) e ∙ f) (λ s. cc)))) i;
  }

  pub drop_sound : IsTables without_change
  drop_sound = record {
    few = h.few;
    held = gives_frame (at_slot t) (at_slot without_change) t.pool (after_give t.pool cell.frame) h.held cell.frame (Fresh b) had_fresh (others t h cell.frame (Fresh b) had_fresh) drop_none drop_rest;
    counted = total _ _ _ _ (less_out t h cell.frame (Fresh b) had_fresh) h.counted
        (dropped_gives (kept_in t) b (version_in t.pool cell) (get-seen (version_in t.pool) t.fresh.at b ∙ ap (option_map (version_in t.pool)) at))
        ∙ sym (ap frames_taken drops);
    taken = less _ _ _ h.taken (less_out t h cell.frame (Fresh b) had_fresh);
    fresh_room = h.fresh_room;
    flushed_room = h.flushed_room;
    live_room = h.live_room;
  }
    where
      total : (n m a c : ℕ) → n ≡ m + 1 → n ≡ a → a ≡ c + 1 → m ≡ c
      total n m a c p q r = omega arith

      less : (k n m : ℕ) → k ≡ n → n ≡ m + 1 → k - 1 ≡ m
      less k n m p q = omega arith

  -- there is a frame to be given
  pub some_taken : 1 ≤ t.taken
  some_taken = least _ _ _ h.taken (less_out t h cell.frame (Fresh b) had_fresh)
    where
      least : (k n m : ℕ) → k ≡ n → n ≡ m + 1 → 1 ≤ k
      least k n m p q = omega arith

-- ---- a change is put

module _ (t : Inside) (h : IsTables t) (pool : Frames) (b : ℕ) (cell : Cell) (bytes : List ℕ) (goes : GoesOut t.pool pool cell.frame bytes) (absent : table.get t.fresh.at b ≡ None) where
  abbrev pub with_new : Inside
  with_new = record t { pool = pool; fresh = record t.fresh { at = table.insert t.fresh.at b cell }; taken = t.taken + 1 }

  put_rest : (s : Slot) → (s ≡ Fresh b) ⊎ (at_slot with_new s ≡ at_slot t s)
  put_rest (Fresh q) = by (cases_eq q b)
    where
      by : (q ≡ b) ⊎ (q ≡ b → ⊥) → (Fresh q ≡ Fresh b) ⊎ (at_slot with_new (Fresh q) ≡ at_slot t (Fresh q))
      by (inl e) = inl (ap Fresh e)
      by (inr ne) = inr (ap (option_map (λ (x : Cell). x.frame)) (apart t.fresh.at b cell q ne))
  put_rest (Flushed q) = inr refl
  put_rest (Live q) = inr refl

  put_there : at_slot with_new (Fresh b) ≡ Some cell.frame
  put_there = ap (option_map (λ (x : Cell). x.frame)) (at_key t.fresh.at b cell)

  out_still : (g : ℕ) → IsOut t.pool g → bytes_in pool g ≡ bytes_in t.pool g
  out_still g is = ap (λ (o : Option (List ℕ)). unwrap_or o []) (goes.others g (λ e. true≢false (sym is ∙ ap (λ n. is_some (table.get t.pool.out n)) e ∙ ap is_some goes.was_in)))

  pub puts : kept_in with_new ≡ record (kept_in t) { fresh = table.insert (kept_in t).fresh b (record { lock = cell.lock; plain = cell.plain; bytes = bytes }) }
  puts = λ i. record {
    size = goes.size i;
    frames = goes.count i;
    places = t.places;
    fresh = (seen_insert (version_in t.pool) (version_in pool) t.fresh.at b
        (λ q x ne e. same_version t.pool pool x (out_still x.frame (h.held.out (Fresh q) x.frame (ap (option_map (λ (y : Cell). y.frame)) e)))) cell
        ∙ ap (λ (bs : List ℕ). table.insert (kept_in t).fresh b (record { lock = cell.lock; plain = cell.plain; bytes = bs })) (ap (λ (o : Option (List ℕ)). unwrap_or o []) goes.here)) i;
    flushed = (seen_alike (version_in t.pool) (version_in pool) t.flushed.at
        (λ q x e. same_version t.pool pool x (out_still x.frame (h.held.out (Flushed q) x.frame (ap (option_map (λ (y : Cell). y.frame)) e))))) i;
    live = (seen_alike (entry_in t.pool) (entry_in pool) t.live.at
        (λ q x e. same_entry t.pool pool x (λ g f. out_still g (h.held.out (Live q) g (ap (option_and_then (λ (y : LiveCell). frame_of_hold y.hold)) e ∙ f))))) i;
  }

  pub put_sound : IsTables with_new
  put_sound = record {
    few = subst (λ n. n ≤ 4096) (sym goes.count) h.few;
    held = takes_frame (at_slot t) (at_slot with_new) t.pool pool h.held cell.frame (Fresh b) goes.was_in (ap is_some goes.here) goes.others put_there put_rest;
    counted = total _ _ _ _ goes.more h.counted
        (put_takes (kept_in t) b (record { lock = cell.lock; plain = cell.plain; bytes = bytes }) (get-seen (version_in t.pool) t.fresh.at b ∙ ap (option_map (version_in t.pool)) absent))
        ∙ sym (ap frames_taken puts);
    taken = more _ _ _ h.taken goes.more;
    fresh_room = h.fresh_room ∙ sym goes.count;
    flushed_room = h.flushed_room ∙ sym goes.count;
    live_room = h.live_room;
  }
    where
      total : (n m a c : ℕ) → n ≡ m + 1 → m ≡ a → c ≡ a + 1 → n ≡ c
      total n m a c p q r = omega arith

      more : (k m n : ℕ) → k ≡ m → n ≡ m + 1 → k + 1 ≡ n
      more k m n p q = omega arith

-- ---- a flush begins

module _ (t : Inside) (h : IsTables t) (none : seen (version_in t.pool) t.flushed.at ≡ table.empty) where
  abbrev pub at_begin : Inside
  at_begin = record t { fresh = t.flushed; flushed = t.fresh }

  abbrev turned : Slot → Slot
  turned (Fresh b) = Flushed b
  turned (Flushed b) = Fresh b
  turned (Live b) = Live b

  turns : (s : Slot) → at_slot at_begin s ≡ at_slot t (turned s)
  turns (Fresh b) = refl
  turns (Flushed b) = refl
  turns (Live b) = refl

  turned_back : (s : Slot) → turned (turned s) ≡ s
  turned_back (Fresh b) = refl
  turned_back (Flushed b) = refl
  turned_back (Live b) = refl

  pub begins : kept_in at_begin ≡ record (kept_in t) { fresh = table.empty; flushed = (kept_in t).fresh }
  begins = λ i. record { size = t.pool.size; frames = t.pool.count; places = t.places; fresh = none i; flushed = (kept_in t).fresh; live = (kept_in t).live }

  pub begin_sound : IsTables at_begin
  begin_sound = record {
    few = h.few;
    held = record {
      out = λ s g e. h.held.out (turned s) g (sym (turns s) ∙ e);
      apart = λ s u g e f. sym (turned_back s) ∙ ap turned (h.held.apart (turned s) (turned u) g (sym (turns s) ∙ e) (sym (turns u) ∙ f)) ∙ turned_back u;
    };
    counted = h.counted ∙ swapped (table.len (kept_in t).fresh) (table.len (kept_in t).flushed) (away_count (kept_in t).live);
    taken = h.taken;
    fresh_room = h.flushed_room;
    flushed_room = h.fresh_room;
    live_room = h.live_room;
  }
    where
      swapped : (a b c : ℕ) → a + b + c ≡ b + a + c
      swapped a b c = omega arith

-- ---- a live block whose content is as much away as before

module _ (t : Inside) (h : IsTables t) (b : ℕ) (cell cell' : LiveCell) (at : table.get t.live.at b ≡ Some cell) (alike : frame_of_hold cell'.hold ≡ frame_of_hold cell.hold)
    (as_far : is_home (entry_in t.pool cell').way ≡ is_home (entry_in t.pool cell).way) where
  abbrev pub with_live : Inside
  with_live = record t { live = record t.live { at = table.insert t.live.at b cell' } }

  live_same : (s : Slot) → at_slot with_live s ≡ at_slot t s
  live_same (Fresh q) = refl
  live_same (Flushed q) = refl
  live_same (Live q) = by (cases_eq q b)
    where
      by : (q ≡ b) ⊎ (q ≡ b → ⊥) → at_slot with_live (Live q) ≡ at_slot t (Live q)
      by (inl e) =
          subst (λ n. at_slot with_live (Live n) ≡ at_slot t (Live n)) (sym e)
          (ap (option_and_then (λ (x : LiveCell). frame_of_hold x.hold)) (at_key t.live.at b cell') ∙ alike ∙ sym (ap (option_and_then (λ (x : LiveCell). frame_of_hold x.hold)) at))
      by (inr ne) = ap (option_and_then (λ (x : LiveCell). frame_of_hold x.hold)) (apart t.live.at b cell' q ne)

  pub lives : kept_in with_live ≡ record (kept_in t) { live = table.insert (kept_in t).live b (entry_in t.pool cell') }
  lives = λ i. record {
    size = t.pool.size;
    frames = t.pool.count;
    places = t.places;
    fresh = (kept_in t).fresh;
    flushed = (kept_in t).flushed;
    live = (seen_insert (entry_in t.pool) (entry_in t.pool) t.live.at b (λ q x ne e. refl) cell') i;
  }

  pub live_sound : IsTables with_live
  live_sound = record {
    few = h.few;
    held = record {
      out = λ s g e. h.held.out s g (sym (live_same s) ∙ e);
      apart = λ s u g e f. h.held.apart s u g (sym (live_same s) ∙ e) (sym (live_same u) ∙ f);
    };
    counted = h.counted
        ∙ sym (same_away (kept_in t) b (entry_in t.pool cell) (entry_in t.pool cell') (get-seen (entry_in t.pool) t.live.at b ∙ ap (option_map (entry_in t.pool)) at) as_far)
        ∙ sym (ap frames_taken lives);
    taken = h.taken;
    fresh_room = h.fresh_room;
    flushed_room = h.flushed_room;
    live_room = h.live_room;
  }

-- ---- a live block whose frame goes back

module _ (t : Inside) (h : IsTables t) (b frame : ℕ) (cell : LiveCell) (at : table.get t.live.at b ≡ Some cell) (holds : frame_of_hold cell.hold ≡ Some frame) where
  had_live : at_slot t (Live b) ≡ Some frame
  had_live = ap (option_and_then (λ (x : LiveCell). frame_of_hold x.hold)) at ∙ holds

  abbrev resting : LiveCell
  resting = record cell { hold = Home }

  abbrev pub at_rest : Inside
  at_rest = record t { pool = after_give t.pool frame; live = record t.live { at = table.insert t.live.at b resting }; taken = t.taken - 1 }

  rest_rest : (s : Slot) → (s ≡ Live b) ⊎ (at_slot at_rest s ≡ at_slot t s)
  rest_rest (Fresh q) = inr refl
  rest_rest (Flushed q) = inr refl
  rest_rest (Live q) = by (cases_eq q b)
    where
      by : (q ≡ b) ⊎ (q ≡ b → ⊥) → (Live q ≡ Live b) ⊎ (at_slot at_rest (Live q) ≡ at_slot t (Live q))
      by (inl e) = inl (ap Live e)
      by (inr ne) = inr (ap (option_and_then (λ (x : LiveCell). frame_of_hold x.hold)) (apart t.live.at b resting q ne))

  rest_none : at_slot at_rest (Live b) ≡ None
  rest_none = ap (option_and_then (λ (x : LiveCell). frame_of_hold x.hold)) (at_key t.live.at b resting)

  pub rests : kept_in at_rest ≡ record (kept_in t) { live = table.insert (kept_in t).live b (record (entry_in t.pool cell) { way = home }) }
  rests = λ i. record {
    size = t.pool.size;
    frames = t.pool.count;
    places = t.places;
    fresh = (seen_alike (version_in t.pool) (version_in (after_give t.pool frame)) t.fresh.at
        (λ q x e. same_version t.pool (after_give t.pool frame) x (still t h frame (Live b) had_live (Fresh q) x.frame (ap (option_map (λ (y : Cell). y.frame)) e) (λ s. cc)))) i;
    flushed = (seen_alike (version_in t.pool) (version_in (after_give t.pool frame)) t.flushed.at
        (λ q x e. same_version t.pool (after_give t.pool frame) x (still t h frame (Live b) had_live (Flushed q) x.frame (ap (option_map (λ (y : Cell). y.frame)) e) (λ s. cc)))) i;
    live = (seen_insert (entry_in t.pool) (entry_in (after_give t.pool frame)) t.live.at b
        (λ q x ne e. same_entry t.pool (after_give t.pool frame) x (λ g f. still t h frame (Live b) had_live (Live q) g (ap (option_and_then (λ (y : LiveCell). frame_of_hold y.hold)) e ∙ f) (λ s. ne (same_number (Live q) (Live b) s)))) resting) i;
  }

  is_far : (hold : Hold) → frame_of_hold hold ≡ Some frame → is_home (way_in t.pool hold) ≡ false
  is_far Home e = absurd (true≢false (sym (ap is_some e)))
  is_far (Away g) e = refl
  is_far (Flying g) e = refl

  pub rest_sound : IsTables at_rest
  rest_sound = record {
    few = h.few;
    held = gives_frame (at_slot t) (at_slot at_rest) t.pool (after_give t.pool frame) h.held frame (Live b) had_live (others t h frame (Live b) had_live) rest_none rest_rest;
    counted = total _ _ _ _ (less_out t h frame (Live b) had_live) h.counted
        (rest_gives (kept_in t) b (entry_in t.pool cell) (get-seen (entry_in t.pool) t.live.at b ∙ ap (option_map (entry_in t.pool)) at) (is_far cell.hold holds))
        ∙ sym (ap frames_taken rests);
    taken = less _ _ _ h.taken (less_out t h frame (Live b) had_live);
    fresh_room = h.fresh_room;
    flushed_room = h.flushed_room;
    live_room = h.live_room;
  }
    where
      total : (n m a c : ℕ) → n ≡ m + 1 → n ≡ a → a ≡ c + 1 → m ≡ c
      total n m a c p q r = omega arith

      less : (k n m : ℕ) → k ≡ n → n ≡ m + 1 → k - 1 ≡ m
      less k n m p q = omega arith

  pub some_taken_live : 1 ≤ t.taken
  some_taken_live = least _ _ _ h.taken (less_out t h frame (Live b) had_live)
    where
      least : (k n m : ℕ) → k ≡ n → n ≡ m + 1 → 1 ≤ k
      least k n m p q = omega arith

-- ---- a block of the flush is live

module _ (t : Inside) (h : IsTables t) (b first : ℕ) (cell : Cell) (at : table.get t.flushed.at b ≡ Some cell)
    (rests : (e : Entry) → table.get (kept_in t).live b ≡ Some e → is_home e.way ≡ true) where
  abbrev landing : LiveCell
  landing = record { lock = cell.lock; first = first; hold = Away cell.frame }

  abbrev pub with_landed : Inside
  with_landed = record t { flushed = record t.flushed { at = table.remove t.flushed.at b }; live = record t.live { at = table.insert t.live.at b landing } }

  land_rest : (s : Slot) → (s ≡ Live b) ⊎ ((s ≡ Flushed b) ⊎ (at_slot with_landed s ≡ at_slot t s))
  land_rest (Fresh q) = inr (inr refl)
  land_rest (Flushed q) = by (cases_eq q b)
    where
      by : (q ≡ b) ⊎ (q ≡ b → ⊥) → (Flushed q ≡ Live b) ⊎ ((Flushed q ≡ Flushed b) ⊎ (at_slot with_landed (Flushed q) ≡ at_slot t (Flushed q)))
      by (inl e) = inr (inl (ap Flushed e))
      by (inr ne) = inr (inr (ap (option_map (λ (x : Cell). x.frame)) (left t.flushed.at b q ne)))
  land_rest (Live q) = by (cases_eq q b)
    where
      by : (q ≡ b) ⊎ (q ≡ b → ⊥) → (Live q ≡ Live b) ⊎ ((Live q ≡ Flushed b) ⊎ (at_slot with_landed (Live q) ≡ at_slot t (Live q)))
      by (inl e) = inl (ap Live e)
      by (inr ne) = inr (inr (ap (option_and_then (λ (x : LiveCell). frame_of_hold x.hold)) (apart t.live.at b landing q ne)))

  pub lands : kept_in with_landed ≡ record (kept_in t) { flushed = table.remove (kept_in t).flushed b; live = table.insert (kept_in t).live b (landed (version_in t.pool cell) first) }
  lands = λ i. record {
    size = t.pool.size;
    frames = t.pool.count;
    places = t.places;
    fresh = (kept_in t).fresh;
    flushed = (seen_remove (version_in t.pool) (version_in t.pool) t.flushed.at b (λ q x ne e. refl)) i;
    live = (seen_insert (entry_in t.pool) (entry_in t.pool) t.live.at b (λ q x ne e. refl) landing) i;
  }

  pub land_sound : IsTables with_landed
  land_sound = record {
    few = h.few;
    held = hands_frame (at_slot t) (at_slot with_landed) t.pool t.pool h.held cell.frame (Flushed b) (Live b) (ap (option_map (λ (x : Cell). x.frame)) at) (λ g. refl)
        (ap (option_and_then (λ (x : LiveCell). frame_of_hold x.hold)) (at_key t.live.at b landing)) (ap (option_map (λ (x : Cell). x.frame)) (gone t.flushed.at b)) land_rest;
    counted = h.counted
        ∙ sym (land_moves (kept_in t) b first (version_in t.pool cell) (get-seen (version_in t.pool) t.flushed.at b ∙ ap (option_map (version_in t.pool)) at) rests)
        ∙ sym (ap frames_taken lands);
    taken = h.taken;
    fresh_room = h.fresh_room;
    flushed_room = h.flushed_room;
    live_room = h.live_room;
  }

-- ---- live blocks that are home go

module _ (t : Inside) (h : IsTables t) (live : Fixed LiveCell) (stays : ℕ → ℕ → Bool) (room : live.room ≡ t.live.room)
    (are : (b : ℕ) → table.get live.at b ≡ left_by (λ (x : LiveCell). stays b x.first) (table.get t.live.at b))
    (home_goes : (b : ℕ) (e : Entry) → table.get (kept_in t).live b ≡ Some e → stays b e.first ≡ false → is_home e.way ≡ true) where
  abbrev pub with_left : Inside
  with_left = record t { live = live }

  left_seen : (b : ℕ) (s : Bool) (x : LiveCell) → option_map (entry_in t.pool) (cond s (Some x) None) ≡ cond s (Some (entry_in t.pool x)) None
  left_seen b true x = refl
  left_seen b false x = refl

  pub lefts : (b : ℕ) → table.get (kept_in with_left).live b ≡ left_by (λ (e : Entry). stays b e.first) (table.get (kept_in t).live b)
  lefts b = get-seen (entry_in t.pool) live.at b ∙ ap (option_map (entry_in t.pool)) (are b) ∙ by (table.get t.live.at b) ∙ ap (left_by (λ (e : Entry). stays b e.first)) (sym (get-seen (entry_in t.pool) t.live.at b))
    where
      by : (o : Option LiveCell) → option_map (entry_in t.pool) (left_by (λ (x : LiveCell). stays b x.first) o) ≡ left_by (λ (e : Entry). stays b e.first) (option_map (entry_in t.pool) o)
      by None = refl
      by (Some x) = left_seen b (stays b x.first) x

  kept_frame : (b : ℕ) (x : LiveCell) (s : Bool) → stays b x.first ≡ s → table.get t.live.at b ≡ Some x → option_and_then (λ (y : LiveCell). frame_of_hold y.hold) (cond s (Some x) None) ≡ frame_of_hold x.hold
  kept_frame b x true is at = refl
  kept_frame b x false is at = sym (home_has_none t.pool x (home_goes b (entry_in t.pool x) (get-seen (entry_in t.pool) t.live.at b ∙ ap (option_map (entry_in t.pool)) at) is))

  left_same : (s : Slot) → at_slot with_left s ≡ at_slot t s
  left_same (Fresh q) = refl
  left_same (Flushed q) = refl
  left_same (Live q) = ap (option_and_then (λ (x : LiveCell). frame_of_hold x.hold)) (are q) ∙ by (table.get t.live.at q) refl
    where
      by : (o : Option LiveCell) → table.get t.live.at q ≡ o → option_and_then (λ (y : LiveCell). frame_of_hold y.hold) (left_by (λ (x : LiveCell). stays q x.first) o) ≡ option_and_then (λ (y : LiveCell). frame_of_hold y.hold) o
      by None e = refl
      by (Some x) e = kept_frame q x (stays q x.first) refl e

  pub left_sound : IsTables with_left
  left_sound = record {
    few = h.few;
    held = record {
      out = λ s g e. h.held.out s g (sym (left_same s) ∙ e);
      apart = λ s u g e f. h.held.apart s u g (sym (left_same s) ∙ e) (sym (left_same u) ∙ f);
    };
    counted = h.counted
        ∙ ap (λ n. table.len (kept_in t).fresh + table.len (kept_in t).flushed + n)
        (sym (keep_takes (kept_in t).live (kept_in with_left).live (λ b (e : Entry). stays b e.first) lefts home_goes));
    taken = h.taken;
    fresh_room = h.fresh_room;
    flushed_room = h.flushed_room;
    live_room = room ∙ h.live_room;
  }
