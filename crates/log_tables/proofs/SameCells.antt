-- What is seen of cells whose frames have the bytes that they had.
use Rattle.std.proofs.Common.{◌≡◌, ℕ, true, List, None, Some, refl, sym, ap, true≢false}
use Rattle.frame_pool.specs.Frames.{Frames}
use Rattle.log_tables.specs.Versions.{Entry, Version, Way}
use Rattle.log_tables.specs.Versions.Way.{Away as away, Flying as flying}
use Rattle.log_tables.specs.Kept.{is_home}
use Rattle.log_tables.specs.Slots.{Slot, bytes_in, entry_in, frame_of_hold, version_in, way_in}
use Rattle.log_tables.specs.Slots.Slot.{Fresh, Flushed, Live}
use Rattle.log_tables.specs.declared.cells.Cell.{Cell}
use Rattle.log_tables.specs.declared.cells.LiveCell.{LiveCell}
use Rattle.log_tables.specs.declared.cells.Hold.{Hold}
use Rattle.log_tables.specs.declared.cells.Hold.TheVariants.{Home, Away, Flying}

module _ (old new : Frames) where
  pub same_version : (x : Cell) → bytes_in new x.frame ≡ bytes_in old x.frame → version_in new x ≡ version_in old x
  same_version x is = ap (λ (bs : List ℕ). let v : Version = record { lock = x.lock; plain = x.plain; bytes = bs } in v) is

  same_way : (hold : Hold) → ((g : ℕ) → frame_of_hold hold ≡ Some g → bytes_in new g ≡ bytes_in old g) → way_in new hold ≡ way_in old hold
  same_way Home is = refl
  same_way (Away g) is = ap away (is g refl)
  same_way (Flying g) is = ap flying (is g refl)

  pub same_entry : (x : LiveCell) → ((g : ℕ) → frame_of_hold x.hold ≡ Some g → bytes_in new g ≡ bytes_in old g) → entry_in new x ≡ entry_in old x
  same_entry x is = ap (λ (w : Way). let e : Entry = record { lock = x.lock; first = x.first; way = w } in e) (same_way x.hold is)

-- what is home has no frame
pub home_has_none : (pool : Frames) (x : LiveCell) → is_home (entry_in pool x).way ≡ true → frame_of_hold x.hold ≡ None
home_has_none pool x = by x.hold
  where
    by : (hold : Hold) → is_home (way_in pool hold) ≡ true → frame_of_hold hold ≡ None
    by Home is = refl
    by (Away g) is = absurd (true≢false (sym is))
    by (Flying g) is = absurd (true≢false (sym is))

abbrev pub number_of : Slot → ℕ
number_of (Fresh b) = b
number_of (Flushed b) = b
number_of (Live b) = b

pub same_number : (a b : Slot) → a ≡ b → number_of a ≡ number_of b
same_number a b e = ap number_of e
