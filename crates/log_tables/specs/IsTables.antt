-- What the fields of the tables stand for, and what always holds of them.
use Rattle.std.specs.Prelude.{◌≡◌, ◌≤◌}
use Rattle.std.specs.FinMap as table
use Rattle.log_tables.specs.declared.tables.Tables.TheInside.{Inside}
use Rattle.log_tables.specs.Kept.{Kept, frames_taken}
use Rattle.log_tables.specs.Seen.{seen}
use Rattle.log_tables.specs.Slots.{AreApart, entry_in, frame_of, version_in}

abbrev pub kept_in : Inside → Kept
kept_in t = record {
  size = t.pool.size;
  frames = t.pool.count;
  places = t.places;
  fresh = seen (version_in t.pool) t.fresh.at;
  flushed = seen (version_in t.pool) t.flushed.at;
  live = seen (entry_in t.pool) t.live.at;
}

-- No frame is lost or held twice: as many are out as are taken. Each table of versions has room for all frames, and that of live blocks for all places.
pub record IsTables (t : Inside) : Type 0 where
  pub few : t.pool.count ≤ 4096
  pub held : AreApart (frame_of t.fresh.at t.flushed.at t.live.at) t.pool
  pub counted : table.len t.pool.out ≡ frames_taken (kept_in t)
  pub taken : t.taken ≡ table.len t.pool.out
  pub fresh_room : t.fresh.room ≡ t.pool.count
  pub flushed_room : t.flushed.room ≡ t.pool.count
  pub live_room : t.live.room ≡ t.places
