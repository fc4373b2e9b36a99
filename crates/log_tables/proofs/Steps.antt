-- Each step of the tables, in the terms of the calls that make it.
use Rattle.std.proofs.Common.{◌≡◌, ℕ, ◌+◌, ◌-◌, ◌<◌, ◌≤◌, true, false, List, Option, None, Some, ◌⊎◌, inl, inr, refl, sym, ap, subst, ◌∙◌, true≢false, is_some, arith}
use Rattle.std.proofs.lemmas.Bool.{cases_eq}
use Rattle.std.proofs.lemmas.Cmp.{nat_cmp_total}
use Rattle.std.specs.Option.{option_and_then, option_map}
use Rattle.std.specs.Ordering.{nat_cmp}
use Rattle.std.specs.FinMap as table
use Rattle.frame_pool.specs.Frames.{Frames, after_give}
use Rattle.fixed_tables.specs.Fixed.{Fixed}
use Rattle.log_tables.specs.Versions.{Entry, Version}
use Rattle.log_tables.specs.Versions.Way.{Home as home}
use Rattle.log_tables.specs.Kept.{Kept, away_count, flown, frames_taken, is_home, landed, nothing_kept, rested, sent}
use Rattle.log_tables.specs.Seen.{seen}
use Rattle.log_tables.specs.Slots.{GoesOut, Slot, entry_in, hold_sent, frame_of_hold, version_in, way_in}
use Rattle.log_tables.specs.Slots.Slot.{Fresh, Flushed, Live}
use Rattle.log_tables.specs.IsTables.{IsTables, kept_in}
use Rattle.log_tables.specs.declared.cells.Cell.{Cell}
use Rattle.log_tables.specs.declared.cells.LiveCell.{LiveCell}
use Rattle.log_tables.specs.declared.cells.Hold.{Hold}
use Rattle.log_tables.specs.declared.cells.Hold.TheVariants.{Home, Away, Flying}
use Rattle.log_tables.specs.declared.tables.Tables.TheInside.{Inside}
use Rattle.log_tables.proofs.Counting.{apart, at_key, remove_absent}
use Rattle.log_tables.proofs.Keeping.{at_slot, begin_sound, begins, drop_sound, drops, land_sound, lands, live_sound, lives, put_sound, puts, rest_sound, rests}
use Rattle.log_tables.proofs.Seeing.{get-seen, len-seen, seen_empty}
use Rattle.log_tables.proofs.Taking.{none_away}

-- the tables are sound, and stand for this
abbrev pub Gives : Inside → Kept → Type 0
Gives t k = IsTables t × (kept_in t ≡ k)

-- ---- a change is dropped

module _ (t : Inside) (h : IsTables t) (b : ℕ) (fresh : Fixed Cell) (is : fresh ≡ record t.fresh { at = table.remove t.fresh.at b }) where
  pub drops_it : (cell : Cell) (pool : Frames) → table.get t.fresh.at b ≡ Some cell → pool ≡ after_give t.pool cell.frame
      → Gives (record t { pool = pool; fresh = fresh; taken = t.taken - 1 }) (record (kept_in t) { fresh = table.remove (kept_in t).fresh b })
  drops_it cell pool at given =
      subst (λ (p : Frames). Gives (record t { pool = p; fresh = fresh; taken = t.taken - 1 }) (record (kept_in t) { fresh = table.remove (kept_in t).fresh b })) (sym given)
      (subst (λ (f : Fixed Cell). Gives (record t { pool = after_give t.pool cell.frame; fresh = f; taken = t.taken - 1 }) (record (kept_in t) { fresh = table.remove (kept_in t).fresh b })) (sym is)
      (drop_sound t h b cell at, drops t h b cell at))

  pub drops_nothing : table.get t.fresh.at b ≡ None → Gives (record t { fresh = fresh }) (record (kept_in t) { fresh = table.remove (kept_in t).fresh b })
  drops_nothing none =
      subst (λ (f : Fixed Cell). Gives (record t { fresh = f }) (record (kept_in t) { fresh = table.remove (kept_in t).fresh b })) (sym (is ∙ same)) (
        h,
        ap (λ (m : table.FinMap nat_cmp Version). let k : Kept = record (kept_in t) { fresh = m } in k)
            (sym (remove_absent (kept_in t).fresh b (get-seen (version_in t.pool) t.fresh.at b ∙ ap (option_map (version_in t.pool)) none))),
      )
    where
      same : record t.fresh { at = table.remove t.fresh.at b } ≡ t.fresh
      same = ap (λ (m : table.FinMap nat_cmp Cell). let f : Fixed Cell = record t.fresh { at = m } in f) (remove_absent t.fresh.at b none)

-- ---- a change is put

module _ (t : Inside) (h : IsTables t) (b : ℕ) (cell : Cell) (bytes : List ℕ) where
  pub puts_it : (pool : Frames) (fresh : Fixed Cell) → GoesOut t.pool pool cell.frame bytes → table.get t.fresh.at b ≡ None → fresh ≡ record t.fresh { at = table.insert t.fresh.at b cell }
      → Gives (record t { pool = pool; fresh = fresh; taken = t.taken + 1 })
      (record (kept_in t) { fresh = table.insert (kept_in t).fresh b (record { lock = cell.lock; plain = cell.plain; bytes = bytes }) })
  puts_it pool fresh goes none is =
      subst (λ (f : Fixed Cell). Gives (record t { pool = pool; fresh = f; taken = t.taken + 1 })
      (record (kept_in t) { fresh = table.insert (kept_in t).fresh b (record { lock = cell.lock; plain = cell.plain; bytes = bytes }) })) (sym is)
      (put_sound t h pool b cell bytes goes none, puts t h pool b cell bytes goes none)

no_value : {A : Type 0} (o : Option A) → is_some o ≡ false → o ≡ None
no_value None is = refl
no_value (Some x) is = absurd (true≢false is)

some_of : {A B : Type 0} (f : A → B) (o : Option A) → is_some (option_map f o) ≡ is_some o
some_of f None = refl
some_of f (Some x) = refl

-- what isn't seen isn't there
pub not_there : (t : Inside) (k : Kept) (b : ℕ) → kept_in t ≡ k → table.contains_key k.fresh b ≡ false → table.get t.fresh.at b ≡ None
not_there t k b is none =
    no_value (table.get t.fresh.at b)
    (sym (some_of (version_in t.pool) (table.get t.fresh.at b)) ∙ sym (ap is_some (get-seen (version_in t.pool) t.fresh.at b)) ∙ ap (λ (x : Kept). table.contains_key x.fresh b) is ∙ none)

-- a frame that is left is a row that is left
pub room_left : (t : Inside) (k : Kept) → IsTables t → kept_in t ≡ k → frames_taken k < k.frames → table.len t.fresh.at < t.fresh.room
room_left t k h is less =
    enough _ _ _ _ _ (len-seen (version_in t.pool) t.fresh.at) h.fresh_room (subst (λ (x : Kept). frames_taken x < x.frames) (sym is) less)
  where
    enough : (f g a n r : ℕ) {l : ℕ} → f ≡ l → r ≡ n → f + g + a < n → l < r
    enough f g a n r p q s = omega arith

-- and a frame isn't out
pub frame_left : (t : Inside) (k : Kept) → IsTables t → kept_in t ≡ k → frames_taken k < k.frames → table.len t.pool.out < t.pool.count
frame_left t k h is less = subst (λ n. n < t.pool.count) (sym h.counted) (subst (λ (x : Kept). frames_taken x < x.frames) (sym is) less)

-- ---- a flush begins

pub begins_all : (t : Inside) (k : Kept) (fresh flushed : Fixed Cell) → IsTables t → kept_in t ≡ k → k.flushed ≡ table.empty → fresh ≡ t.flushed → flushed ≡ t.fresh
    → Gives (record t { fresh = fresh; flushed = flushed }) (record (kept_in t) { fresh = table.empty; flushed = (kept_in t).fresh })
begins_all t k fresh flushed h is none e f =
    subst (λ (x : Fixed Cell). Gives (record t { fresh = x; flushed = flushed }) (record (kept_in t) { fresh = table.empty; flushed = (kept_in t).fresh })) (sym e)
    (subst (λ (x : Fixed Cell). Gives (record t { fresh = t.flushed; flushed = x }) (record (kept_in t) { fresh = table.empty; flushed = (kept_in t).fresh })) (sym f)
    (begin_sound t h none_flushed, begins t h none_flushed))
  where
    none_flushed : seen (version_in t.pool) t.flushed.at ≡ table.empty
    none_flushed = ap (λ (x : Kept). x.flushed) is ∙ none

-- ---- a live block comes home, or goes there

module _ (t : Inside) (h : IsTables t) (b : ℕ) (live : Fixed LiveCell) where
  abbrev row : LiveCell → LiveCell
  row cell = record cell { hold = Home }

  seen_at : (cell : LiveCell) → table.get t.live.at b ≡ Some cell → table.get (kept_in t).live b ≡ Some (entry_in t.pool cell)
  seen_at cell at = get-seen (entry_in t.pool) t.live.at b ∙ ap (option_map (entry_in t.pool)) at

  pub rests_none : table.get t.live.at b ≡ None → kept_in t ≡ record (kept_in t) { live = rested (kept_in t).live b (table.get (kept_in t).live b) }
  rests_none none =
      ap (λ (o : Option Entry). let k : Kept = record (kept_in t) { live = rested (kept_in t).live b o } in k)
      (sym (get-seen (entry_in t.pool) t.live.at b ∙ ap (option_map (entry_in t.pool)) none))

  pub flies_none : table.get t.live.at b ≡ None → kept_in t ≡ record (kept_in t) { live = flown (kept_in t).live b (table.get (kept_in t).live b) }
  flies_none none =
      ap (λ (o : Option Entry). let k : Kept = record (kept_in t) { live = flown (kept_in t).live b o } in k)
      (sym (get-seen (entry_in t.pool) t.live.at b ∙ ap (option_map (entry_in t.pool)) none))

  no_frame : (x : Hold) → frame_of_hold x ≡ None → x ≡ Home
  no_frame Home e = refl
  no_frame (Away frame) e = absurd (true≢false (ap is_some e))
  no_frame (Flying frame) e = absurd (true≢false (ap is_some e))

  -- what the call calls the row is that row
  pub row_is : (x cell : LiveCell) → x ≡ cell → live ≡ record t.live { at = table.insert t.live.at b (row x) } → live ≡ record t.live { at = table.insert t.live.at b (row cell) }
  row_is x cell e is = is ∙ ap (λ (y : LiveCell). let f : Fixed LiveCell = record t.live { at = table.insert t.live.at b (row y) } in f) e

  -- it was home
  pub rests_home : (cell : LiveCell) → table.get t.live.at b ≡ Some cell → frame_of_hold cell.hold ≡ None → live ≡ record t.live { at = table.insert t.live.at b (row cell) }
      → Gives (record t { live = live }) (record (kept_in t) { live = rested (kept_in t).live b (table.get (kept_in t).live b) })
  rests_home cell at none is =
      let hold : cell.hold ≡ Home = no_frame cell.hold none in
      subst (λ (x : Fixed LiveCell). Gives (record t { live = x }) (record (kept_in t) { live = rested (kept_in t).live b (table.get (kept_in t).live b) })) (sym is) (
        live_sound t h b cell (row cell) at (ap frame_of_hold (sym hold)) (ap (λ (x : Hold). is_home (way_in t.pool x)) (sym hold)),
        lives t h b cell (row cell) at (ap frame_of_hold (sym hold)) (ap (λ (x : Hold). is_home (way_in t.pool x)) (sym hold))
            ∙ ap (λ (o : Option Entry). let k : Kept = record (kept_in t) { live = rested (kept_in t).live b o } in k) (sym (seen_at cell at)),
      )

  -- its frame is given back
  pub rests_away : (cell : LiveCell) (frame : ℕ) (pool : Frames) → table.get t.live.at b ≡ Some cell → frame_of_hold cell.hold ≡ Some frame → pool ≡ after_give t.pool frame
      → live ≡ record t.live { at = table.insert t.live.at b (row cell) }
      → Gives (record t { pool = pool; live = live; taken = t.taken - 1 }) (record (kept_in t) { live = rested (kept_in t).live b (table.get (kept_in t).live b) })
  rests_away cell frame pool at holds given is =
      subst (λ (p : Frames). Gives (record t { pool = p; live = live; taken = t.taken - 1 }) (record (kept_in t) { live = rested (kept_in t).live b (table.get (kept_in t).live b) })) (sym given)
      (subst (λ (x : Fixed LiveCell). Gives (record t { pool = after_give t.pool frame; live = x; taken = t.taken - 1 }) (record (kept_in t) { live = rested (kept_in t).live b (table.get (kept_in t).live b) })) (sym is) (
        rest_sound t h b frame cell at holds,
        rests t h b frame cell at holds ∙ ap (λ (o : Option Entry). let k : Kept = record (kept_in t) { live = rested (kept_in t).live b o } in k) (sym (seen_at cell at)),
      ))

flying_frame : (x : Hold) → frame_of_hold (hold_sent x) ≡ frame_of_hold x
flying_frame Home = refl
flying_frame (Away frame) = refl
flying_frame (Flying frame) = refl

flying_way : (pool : Frames) (x : Hold) → way_in pool (hold_sent x) ≡ sent (way_in pool x)
flying_way pool Home = refl
flying_way pool (Away frame) = refl
flying_way pool (Flying frame) = refl

flying_far : (pool : Frames) (x : Hold) → is_home (way_in pool (hold_sent x)) ≡ is_home (way_in pool x)
flying_far pool Home = refl
flying_far pool (Away frame) = refl
flying_far pool (Flying frame) = refl

abbrev flying_cell : LiveCell → LiveCell
flying_cell cell = record cell { hold = hold_sent cell.hold }

-- a row in place of one that was just put
over_again : {V : Type 0} (m : table.FinMap nat_cmp V) (b : ℕ) (x y : V) → table.insert (table.insert m b x) b y ≡ table.insert m b y
over_again m b x y = table.same_map nat_cmp_total table.nat_cmp-IsAntisymmetric _ _ (λ q. by q (cases_eq q b))
  where
    by : (q : ℕ) → (q ≡ b) ⊎ (q ≡ b → ⊥) → table.get (table.insert (table.insert m b x) b y) q ≡ table.get (table.insert m b y) q
    by q (inl e) = subst (λ n. table.get (table.insert (table.insert m b x) b y) n ≡ table.get (table.insert m b y) n) (sym e) (at_key (table.insert m b x) b y ∙ sym (at_key m b y))
    by q (inr ne) = apart (table.insert m b x) b y q ne ∙ apart m b x q ne ∙ sym (apart m b y q ne)

pub flies_it : (t : Inside) (h : IsTables t) (b : ℕ) (cell : LiveCell) (hold : Hold) (live live' : Fixed LiveCell) → table.get t.live.at b ≡ Some cell → hold ≡ hold_sent cell.hold
    → live ≡ record t.live { at = table.insert t.live.at b (record cell { hold = Home }) } → live' ≡ record live { at = table.insert live.at b (record cell { hold = hold }) }
    → Gives (record t { live = live' }) (record (kept_in t) { live = flown (kept_in t).live b (table.get (kept_in t).live b) })
flies_it t h b cell hold live live' at holds is is' =
    subst (λ (x : Fixed LiveCell). Gives (record t { live = x }) (record (kept_in t) { live = flown (kept_in t).live b (table.get (kept_in t).live b) })) (sym (is' ∙ both))
    (live_sound t h b cell (flying_cell cell) at (flying_frame cell.hold) (flying_far t.pool cell.hold), lives t h b cell (flying_cell cell) at (flying_frame cell.hold) (flying_far t.pool cell.hold) ∙ seen_there)
  where
    both : record live { at = table.insert live.at b (record cell { hold = hold }) } ≡ record t.live { at = table.insert t.live.at b (flying_cell cell) }
    both =
        ap (λ (x : Fixed LiveCell). let f : Fixed LiveCell = record x { at = table.insert x.at b (record cell { hold = hold }) } in f) is
        ∙ ap (λ (x : Hold). let f : Fixed LiveCell = record t.live { at = table.insert (table.insert t.live.at b (record cell { hold = Home })) b (record cell { hold = x }) } in f) holds
        ∙ ap (λ (m : table.FinMap nat_cmp LiveCell). let f : Fixed LiveCell = record t.live { at = m } in f) (over_again t.live.at b (record cell { hold = Home }) (flying_cell cell))

    seen_there : record (kept_in t) { live = table.insert (kept_in t).live b (entry_in t.pool (flying_cell cell)) } ≡ record (kept_in t) { live = flown (kept_in t).live b (table.get (kept_in t).live b) }
    seen_there =
        ap (λ (w : _). let k : Kept = record (kept_in t) { live = table.insert (kept_in t).live b (record (entry_in t.pool cell) { way = w }) } in k) (flying_way t.pool cell.hold)
        ∙ ap (λ (o : Option Entry). let k : Kept = record (kept_in t) { live = flown (kept_in t).live b o } in k) (sym (get-seen (entry_in t.pool) t.live.at b ∙ ap (option_map (entry_in t.pool)) at))

-- ---- a block of the flush is live

pub lands_it : (t : Inside) (h : IsTables t) (k : Kept) (b first : ℕ) (cell : Cell) (v : Version) (flushed : Fixed Cell) (live : Fixed LiveCell) → kept_in t ≡ k
    → table.get t.flushed.at b ≡ Some cell → ((e : Entry) → table.get k.live b ≡ Some e → is_home e.way ≡ true)
    → flushed ≡ record t.flushed { at = table.remove t.flushed.at b } → live ≡ record t.live { at = table.insert t.live.at b (record { lock = cell.lock; first = first; hold = Away cell.frame }) }
    → IsTables (record t { flushed = flushed; live = live })
    × (table.get k.flushed b ≡ Some v → kept_in (record t { flushed = flushed; live = live }) ≡ record k { flushed = table.remove k.flushed b; live = table.insert k.live b (landed v first) })
lands_it t h k b first cell v flushed live view at rest e f = (
  subst (λ (x : Fixed Cell). IsTables (record t { flushed = x; live = live })) (sym e)
      (subst (λ (x : Fixed LiveCell). IsTables (record t { flushed = record t.flushed { at = table.remove t.flushed.at b }; live = x })) (sym f) (land_sound t h b first cell at rests_in)),
  λ here.
      ap (λ (x : Fixed Cell). kept_in (record t { flushed = x; live = live })) e
      ∙ ap (λ (x : Fixed LiveCell). kept_in (record t { flushed = record t.flushed { at = table.remove t.flushed.at b }; live = x })) f
      ∙ lands t h b first cell at rests_in
      ∙ ap (λ (w : Version). let x : Kept = record (kept_in t) { flushed = table.remove (kept_in t).flushed b; live = table.insert (kept_in t).live b (landed w first) } in x) (same here)
      ∙ ap (λ (x : Kept). let y : Kept = record x { flushed = table.remove x.flushed b; live = table.insert x.live b (landed v first) } in y) view,
)
  where
    rests_in : (x : Entry) → table.get (kept_in t).live b ≡ Some x → is_home x.way ≡ true
    rests_in x at = rest x (ap (λ (y : Kept). table.get y.live b) (sym view) ∙ at)

    same : table.get k.flushed b ≡ Some v → version_in t.pool cell ≡ v
    same here =
        let both : Some (version_in t.pool cell) ≡ Some v = sym (get-seen (version_in t.pool) t.flushed.at b ∙ ap (option_map (version_in t.pool)) at) ∙ ap (λ (y : Kept). table.get y.flushed b) view ∙ here in
        cc

pub same_some : {A : Type 0} (o : Option A) (x y : A) → o ≡ Some x → o ≡ Some y → x ≡ y
same_some o x y e f = let both : Some x ≡ Some y = sym e ∙ f in cc

-- a block of the flush is there
pub some_flushed : (t : Inside) (k : Kept) (b : ℕ) → kept_in t ≡ k → table.contains_key k.flushed b ≡ true → table.get t.flushed.at b ≡ None → ⊥
some_flushed t k b is there none =
    true≢false (sym there ∙ ap (λ (x : Kept). table.contains_key x.flushed b) (sym is) ∙ ap is_some (get-seen (version_in t.pool) t.flushed.at b ∙ ap (option_map (version_in t.pool)) none))

-- a live block has a row, or there is one left
pub live_room_left : (t : Inside) (k : Kept) (b : ℕ) → IsTables t → kept_in t ≡ k → (table.contains_key k.live b ≡ true) ⊎ (table.len k.live < k.places)
    → (table.contains_key t.live.at b ≡ true) ⊎ (table.len t.live.at < t.live.room)
live_room_left t k b h is (inl there) =
    inl (sym (some_of (entry_in t.pool) (table.get t.live.at b)) ∙ sym (ap is_some (get-seen (entry_in t.pool) t.live.at b)) ∙ ap (λ (x : Kept). table.contains_key x.live b) is ∙ there)
live_room_left t k b h is (inr less) =
    inr (enough (len-seen (entry_in t.pool) t.live.at) h.live_room (subst (λ (x : Kept). table.len x.live < x.places) (sym is) less))
  where
    enough : {l n p r : ℕ} → l ≡ n → r ≡ p → l < p → n < r
    enough p q s = omega arith

-- ---- what lands on a block that rests

pub rested_room : (k : Kept) (b : ℕ) → (table.contains_key k.live b ≡ true) ⊎ (table.len k.live < k.places)
    → (table.contains_key (rested k.live b (table.get k.live b)) b ≡ true) ⊎ (table.len (rested k.live b (table.get k.live b)) < k.places)
rested_room k b room = by (table.get k.live b) refl room
  where
    by : (o : Option Entry) → table.get k.live b ≡ o → (is_some o ≡ true) ⊎ (table.len k.live < k.places)
        → (table.contains_key (rested k.live b o) b ≡ true) ⊎ (table.len (rested k.live b o) < k.places)
    by None e (inl is) = absurd (true≢false (sym is))
    by None e (inr less) = inr less
    by (Some x) e left = inl (ap is_some (at_key k.live b (record x { way = home })))

pub rested_home : (live : table.FinMap nat_cmp Entry) (b : ℕ) (e : Entry) → table.get (rested live b (table.get live b)) b ≡ Some e → is_home e.way ≡ true
rested_home live b e = by (table.get live b) refl
  where
    by : (o : Option Entry) → table.get live b ≡ o → table.get (rested live b o) b ≡ Some e → is_home e.way ≡ true
    by None none is = absurd (true≢false (ap is_some (sym is ∙ none)))
    by (Some x) at is = sym (ap (λ (y : Entry). is_home y.way) (same_some (table.get (table.insert live b (record x { way = home })) b) (record x { way = home }) e (at_key live b (record x { way = home })) is))

pub landed_over : (live : table.FinMap nat_cmp Entry) (b : ℕ) (e : Entry) → table.insert (rested live b (table.get live b)) b e ≡ table.insert live b e
landed_over live b e = by (table.get live b)
  where
    by : (o : Option Entry) → table.insert (rested live b o) b e ≡ table.insert live b e
    by None = refl
    by (Some x) = over_again live b (record x { way = home }) e

-- ---- tables that are new

module _ (frames size places : ℕ) (few : frames ≤ 4096) where
  abbrev no_frames : Frames
  no_frames = record { count = frames; size = size; out = table.empty }

  abbrev no_rows : {V : Type 0} → ℕ → Fixed V
  no_rows room = record { at = table.empty; room = room }

  abbrev new_tables : Inside
  new_tables = record { pool = no_frames; fresh = no_rows frames; flushed = no_rows frames; live = no_rows places; places = places; taken = 0 }

  new_is : kept_in new_tables ≡ nothing_kept size frames places
  new_is = λ i. record {
    size = size;
    frames = frames;
    places = places;
    fresh = seen_empty (version_in no_frames) i;
    flushed = seen_empty (version_in no_frames) i;
    live = seen_empty (entry_in no_frames) i;
  }

  nobody : (s : Slot) → at_slot new_tables s ≡ None
  nobody (Fresh b) = ap (option_map (λ (x : Cell). x.frame)) (table.get-empty nat_cmp b)
  nobody (Flushed b) = ap (option_map (λ (x : Cell). x.frame)) (table.get-empty nat_cmp b)
  nobody (Live b) = ap (option_and_then (λ (x : LiveCell). frame_of_hold x.hold)) (table.get-empty nat_cmp b)

  none_taken : 0 ≡ frames_taken (nothing_kept size frames places)
  none_taken =
      let none : table.len {R = nat_cmp} (table.empty {X = Version}) ≡ 0 = table.len-empty nat_cmp Version in
      let home : away_count table.empty ≡ 0 = none_away table.empty (table.len-empty nat_cmp Entry) in
      omega arith

  new_sound : IsTables new_tables
  new_sound = record {
    few = few;
    held = record {
      out = λ s g e. absurd (true≢false (ap is_some (sym e ∙ nobody s)));
      apart = λ s u g e f. absurd (true≢false (ap is_some (sym e ∙ nobody s)));
    };
    counted = table.len-empty nat_cmp (List ℕ) ∙ none_taken ∙ sym (ap frames_taken new_is);
    taken = sym (table.len-empty nat_cmp (List ℕ));
    fresh_room = refl;
    flushed_room = refl;
    live_room = refl;
  }

  pub new_gives : (pool : Frames) (fresh flushed : Fixed Cell) (live : Fixed LiveCell) → pool ≡ no_frames → fresh ≡ no_rows frames → flushed ≡ no_rows frames → live ≡ no_rows places
      → Gives (record { pool = pool; fresh = fresh; flushed = flushed; live = live; places = places; taken = 0 }) (nothing_kept size frames places)
  new_gives pool fresh flushed live p f g l =
      subst (λ (x : Frames). Gives (record { pool = x; fresh = fresh; flushed = flushed; live = live; places = places; taken = 0 }) (nothing_kept size frames places)) (sym p)
      (subst (λ (x : Fixed Cell). Gives (record { pool = no_frames; fresh = x; flushed = flushed; live = live; places = places; taken = 0 }) (nothing_kept size frames places)) (sym f)
      (subst (λ (x : Fixed Cell). Gives (record { pool = no_frames; fresh = no_rows frames; flushed = x; live = live; places = places; taken = 0 }) (nothing_kept size frames places)) (sym g)
      (subst (λ (x : Fixed LiveCell). Gives (record { pool = no_frames; fresh = no_rows frames; flushed = no_rows frames; live = x; places = places; taken = 0 }) (nothing_kept size frames places)) (sym l)
      (new_sound, new_is))))
