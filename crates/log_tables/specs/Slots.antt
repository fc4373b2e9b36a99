-- Which frame holds the bytes of what.
use Rattle.std.specs.Prelude.{◌≡◌, ℕ, ◌+◌, List, [], Option, None, Some, option_map, unwrap_or}
use Rattle.std.specs.Option.{option_and_then}
use Rattle.std.specs.Ordering.{nat_cmp}
use Rattle.std.specs.FinMap as table
use Rattle.frame_pool.specs.Frames.{Frames, IsOut}
use Rattle.log_tables.specs.Versions.{Entry, Version, Way}
use Rattle.log_tables.specs.Versions.Way.{Home as home, Away as away, Flying as flying}
use Rattle.log_tables.specs.declared.cells.Cell.{Cell}
use Rattle.log_tables.specs.declared.cells.LiveCell.{LiveCell}
use Rattle.log_tables.specs.declared.cells.Hold.{Hold}
use Rattle.log_tables.specs.declared.cells.Hold.TheVariants.{Home, Away, Flying}

-- ---- what a cell stands for

abbrev pub bytes_in : Frames → ℕ → List ℕ
bytes_in pool frame = unwrap_or (table.get pool.out frame) []

abbrev pub version_in : Frames → Cell → Version
version_in pool c = record { lock = c.lock; plain = c.plain; bytes = bytes_in pool c.frame }

abbrev pub way_in : Frames → Hold → Way
way_in pool Home = home
way_in pool (Away frame) = away (bytes_in pool frame)
way_in pool (Flying frame) = flying (bytes_in pool frame)

abbrev pub entry_in : Frames → LiveCell → Entry
entry_in pool c = record { lock = c.lock; first = c.first; way = way_in pool c.hold }

-- ---- who has a frame

-- a block that was changed, one that is being flushed, or a live one
pub data Slot : Type 0 where
  Fresh : ℕ → Slot
  Flushed : ℕ → Slot
  Live : ℕ → Slot

abbrev pub frame_of_hold : Hold → Option ℕ
frame_of_hold Home = None
frame_of_hold (Away frame) = Some frame
frame_of_hold (Flying frame) = Some frame

-- content that isn't home is on its way there
abbrev pub hold_sent : Hold → Hold
hold_sent Home = Home
hold_sent (Away frame) = Flying frame
hold_sent (Flying frame) = Flying frame

abbrev pub frame_of : table.FinMap nat_cmp Cell → table.FinMap nat_cmp Cell → table.FinMap nat_cmp LiveCell → Slot → Option ℕ
frame_of fresh flushed live (Fresh b) = option_map (λ c. c.frame) (table.get fresh b)
frame_of fresh flushed live (Flushed b) = option_map (λ c. c.frame) (table.get flushed b)
frame_of fresh flushed live (Live b) = option_and_then (λ c. frame_of_hold c.hold) (table.get live b)

-- each frame that a slot has is out, and no two slots have one frame
pub record AreApart (at : Slot → Option ℕ) (pool : Frames) : Type 0 where
  pub out : (s : Slot) (frame : ℕ) → at s ≡ Some frame → IsOut pool frame
  pub apart : (s t : Slot) (frame : ℕ) → at s ≡ Some frame → at t ≡ Some frame → s ≡ t

-- a frame goes out, with these bytes; each other is as it was
pub record GoesOut (old new : Frames) (frame : ℕ) (bytes : List ℕ) : Type 0 where
  pub size : new.size ≡ old.size
  pub count : new.count ≡ old.count
  pub was_in : table.get old.out frame ≡ None
  pub here : table.get new.out frame ≡ Some bytes
  pub others : (g : ℕ) → (g ≡ frame → ⊥) → table.get new.out g ≡ table.get old.out g
  pub more : table.len new.out ≡ table.len old.out + 1
